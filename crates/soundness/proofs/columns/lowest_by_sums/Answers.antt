-- `soundness::columns::lowest_by_sums` meets its contract. Assumes nothing.
use mathlib.Core.Path.{◌≡◌, refl, ap, ◌∙◌, subst}
use mathlib.Core.List.{List}
use Prim.Native.Nat.{ℕ, ◌+◌, ◌*◌, ◌≤◌, ◌<◌}
use native.Mathlib.Nat.{sub-zero}
use native.Mathlib.Omega.{arith}
use lib.ListN.{length, get_or}
use lib.Seq.{take_all}
use Rattle.bits.specs.Numerals.{numerals}
use Rattle.bits.proofs.NumeralLaws.{length_numerals, get_or_numerals}
use Rattle.gf2.specs.Stripes.{encoded_symbol}
use Rattle.gf2.proofs.SymbolLaws.{length_encoded_symbol}
use Rattle.soundness.specs.InnerColumns.{LowestFailing}
use Rattle.soundness.proofs.ColumnLaws.{lowest_of_none, lowest_with_one_more, lowest_is_first}
use Rattle.soundness.proofs.columns.lowest_by_sums.Goals as goal

pub loop-equation-init : goal.loop-equation-init
loop-equation-init c =
    let args = c.args in
    (omega arith, lowest_of_none args.size args.symbols args.stripe.now (omega arith) (numerals args.equations.now) refl)

pub encode_symbol-requires : goal.encode_symbol-requires
encode_symbol-requires c = (omega arith, omega arith, omega arith)

pub returns-then-lowest-eq0 : goal.returns-then-lowest-eq0
returns-then-lowest-eq0 c =
    let args = c.args in
    let loop = c.loop-equation in
    let equations = numerals args.equations.now in
    let stripe = args.stripe.now in
    let whole : length stripe ≡ args.symbols * args.size = omega arith in
    let within : loop.equation-index < length equations = omega (arith, length_numerals args.equations.now) in
    let made =
    c.encode_symbol.ensures
    ∙ ap (λ (row : ℕ). encoded_symbol args.size stripe row args.symbols) (get_or_numerals args.equations.now loop.equation-index) in
    subst (λ (l : List ℕ). LowestFailing args.size args.symbols stripe l c.first_nonzero-lowest.result) (take_all (length equations) equations (omega arith))
    (lowest_is_first args.size args.symbols stripe equations (loop.equation-index + 1) (length equations) (omega arith)
    (omega (arith, length_numerals args.equations.now)) c.if-lowest-eq0.true
    (lowest_with_one_more args.size args.symbols stripe whole equations loop.equation-index within loop.invariant.1 made (simp sub-zero at c.first_nonzero-lowest.ensures)))

pub loop-equation-preserved : goal.loop-equation-preserved
loop-equation-preserved c =
    let args = c.args in
    let loop = c.loop-equation in
    let equations = numerals args.equations.now in
    let stripe = args.stripe.now in
    let whole : length stripe ≡ args.symbols * args.size = omega arith in
    let within : loop.equation-index < length equations = omega (arith, length_numerals args.equations.now) in
    let made =
    c.encode_symbol.ensures
    ∙ ap (λ (row : ℕ). encoded_symbol args.size stripe row args.symbols) (get_or_numerals args.equations.now loop.equation-index) in
    let few : args.symbols * args.size ≤ length stripe = omega (arith, whole) in (
      ap (λ (l : List ℕ). length l) made ∙ length_encoded_symbol args.size stripe (get_or equations loop.equation-index 0) args.symbols few,
      lowest_with_one_more args.size args.symbols stripe whole equations loop.equation-index within loop.invariant.1 made (simp sub-zero at c.first_nonzero-lowest.ensures),
    )

pub returns : goal.returns
returns c =
    let args = c.args in
    let loop = c.loop-equation in
    let equations = numerals args.equations.now in
    subst (λ (l : List ℕ). LowestFailing args.size args.symbols args.stripe.now l loop.lowest)
    (take_all loop.equation-index equations (omega (arith, length_numerals args.equations.now))) loop.invariant.1

-- `code_limits::stray_test` meets its contract. Assumes nothing.
use Rattle.std.proofs.Common.{◌≡◌, ℕ, ◌+◌, ◌-◌, ◌*◌, ◌≤◌, ◌<◌, true, false, length, get_or, sym, ap, subst, ◌∙◌, below_more, arith}
use Rattle.std.specs.Prelude.{Option, Some, None}
use Rattle.bits.specs.BitSets.{has}
use Rattle.bits.specs.Lists.{first_from}
use Rattle.bits.specs.Numerals.{set_width, numerals}
use Rattle.bits.proofs.NumeralLaws.{get_or_numerals}
use Rattle.bits.proofs.SearchLaws.{first_from_between, none_before_first_from}
use Rattle.code_limits.specs.CodeLimits.{stray_at}
use Rattle.code_limits.proofs.StrayLaws.{stray_at_high, none_stray_before, stray_told, none_stray_told}
use Rattle.code_limits.proofs.stray_test.Goals as goal
use Rattle.code_limits.proofs.stray_test.Goals.{else-search-test, then-search-test+then-loop-bit-test+then-has}

pub loop-bit-init : goal.loop-bit-init
loop-bit-init c =
    let sets = c.args.rows.now in
    let data_symbols = c.args.data_symbols in
    let row = c.search.row in
    let found = c.lowest_from-bit.ensures ∙ ap (λ (set : ℕ). first_from (has set) data_symbols (set_width - data_symbols)) (get_or_numerals sets row) in (
      c.search.invariant.0,
      omega (arith, found, first_from_between (has (get_or (numerals sets) row 0)) (set_width - data_symbols) data_symbols),
      none_stray_before (numerals sets) data_symbols row c.lowest_from-bit.result c.search.invariant.1
          (λ bit from l. none_before_first_from (has (get_or (numerals sets) row 0)) (set_width - data_symbols) data_symbols bit from (omega (arith, found))),
    )

pub loop-bit-preserved : goal.loop-bit-preserved
loop-bit-preserved c =
    let sets = c.args.rows.now in
    let rows = numerals sets in
    let data_symbols = c.args.data_symbols in
    let row = c.search.row in
    let bit = c.loop-bit.bit in
    let from = c.loop-bit.invariant.1 in
    let below : bit < 64 = omega (arith, c.loop-bit-test.true) in
    let here : stray_at rows data_symbols (row * 64 + bit) ≡ false =
    stray_at_high rows data_symbols row bit below from ∙ sym (c.has.ensures ∙ ap (λ (set : ℕ). has set bit) (get_or_numerals sets row)) ∙ c.if-has.false in
    let none : (j : ℕ) → j < row * 64 + bit + 1 → stray_at rows data_symbols j ≡ false =
    below_more _ _ (λ j l. c.loop-bit.invariant.2 j l (omega arith)) here in
    (c.loop-bit.invariant.0, omega (arith, from), λ j l in_row. none j (omega (arith, l)))

pub search-preserved : goal.search-preserved
search-preserved c = (c.loop-bit.invariant.0, λ j l. c.loop-bit.invariant.2 j (omega (arith, l, c.loop-bit-test.false)) (omega (arith, l)))

pub returns-in-Some : goal.returns-in-Some
returns-in-Some c =
    elim c.search-test.branch [
      | else-search-test w ↦ (let apart : ◌≡◌ {A = Option ℕ} None (Some c.in-Some.place) = sym c.search.invariant.0 ∙ sym w.stray-is ∙ c.in-Some.is in absurd cc)
      | then-search-test+then-loop-bit-test+then-has w ↦
          (let sets = c.args.rows.now in
          let rows = numerals sets in
          let data_symbols = c.args.data_symbols in
          let row = c.search.row in
          let bit = w.loop-bit.bit in
          let alike : Some (row * 64 + bit) ≡ Some c.in-Some.place = sym w.stray-is ∙ c.in-Some.is in
          let place : row * 64 + bit ≡ c.in-Some.place = cc in
          let below : bit < 64 = omega (arith, w.loop-bit-test.true) in
          let here : stray_at rows data_symbols (row * 64 + bit) ≡ true =
          stray_at_high rows data_symbols row bit below w.loop-bit.invariant.1 ∙ sym (w.has.ensures ∙ ap (λ (set : ℕ). has set bit) (get_or_numerals sets row)) ∙ w.if-has.true in
          rw (sym place) (stray_told rows (length sets) data_symbols (row * 64 + bit) (omega (arith, w.search-test.true, below)) here (λ j l. w.loop-bit.invariant.2 j l (omega (arith, l, below)))))
    ]

pub returns-in-None : goal.returns-in-None
returns-in-None c =
    elim c.search-test.branch [
      | else-search-test w ↦ none_stray_told (numerals c.args.rows.now) (length c.args.rows.now) c.args.data_symbols (λ j l. c.search.invariant.1 j (omega (arith, l, w.search-test.false)))
      | then-search-test+then-loop-bit-test+then-has w ↦ (let apart : ◌≡◌ {A = Option ℕ} (Some (c.search.row * 64 + w.loop-bit.bit)) None = sym w.stray-is ∙ c.in-None.is in absurd cc)
    ]

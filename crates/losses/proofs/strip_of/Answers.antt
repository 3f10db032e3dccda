-- `losses::strip_of` meets its contract: the strip lies within the array, and the array within a set. Assumes nothing.
use Prim.Native.Nat.{ℕ, ◌+◌, ◌≤◌}
use mathlib.Core.Path.{◌≡◌, ap, ap₂, ◌∙◌}
use native.Mathlib.Omega.{arith}
use lib.Bits.{bit_xor, xor_lt}
use Rattle.codes.specs.Layouts.{first_symbol, height_of}
use Rattle.codes.proofs.LayoutLaws.{strip_within}
use Rattle.bits.specs.BitSets.{has, below}
use Rattle.bits.specs.Numerals.{set_width, numeral}
use Rattle.losses.proofs.LossLaws.{strip_as_set, below_small}
use Rattle.losses.proofs.strip_of.Goals as goal

pub first_symbol-first-requires : goal.first_symbol-first-requires
first_symbol-first-requires c = (omega (arith, c.requires), omega (arith, c.requires), omega (arith, c.requires))

pub overflow_add-end : goal.overflow_add-end
overflow_add-end c =
    let end_to : c.first_symbol-first.result + c.height_of.result ≤ set_width = omega (arith, c.first_symbol-first.ensures, c.height_of.ensures, strip_within c.args.layout c.args.disk c.requires.1, c.requires.0.symbols_to) in
    omega (arith, end_to)

pub below-requires : goal.below-requires
below-requires c =
    let end_to : c.first_symbol-first.result + c.height_of.result ≤ set_width = omega (arith, c.first_symbol-first.ensures, c.height_of.ensures, strip_within c.args.layout c.args.disk c.requires.1, c.requires.0.symbols_to) in
    end_to

pub below-requires-2 : goal.below-requires-2
below-requires-2 c =
    let end_to : c.first_symbol-first.result + c.height_of.result ≤ set_width = omega (arith, c.first_symbol-first.ensures, c.height_of.ensures, strip_within c.args.layout c.args.disk c.requires.1, c.requires.0.symbols_to) in
    omega (arith, end_to)

pub returns : goal.returns
returns c =
    let end_to : c.first_symbol-first.result + c.height_of.result ≤ set_width = omega (arith, c.first_symbol-first.ensures, c.height_of.ensures, strip_within c.args.layout c.args.disk c.requires.1, c.requires.0.symbols_to) in
    let layout = c.args.layout in
    let disk = c.args.disk in
    let first = c.first_symbol-first.ensures in
    let end = ap₂ (λ (a b : ℕ). a + b) first c.height_of.ensures in
    let set : numeral c.sum.result ≡ bit_xor (below (first_symbol layout disk + height_of layout disk)) (below (first_symbol layout disk)) =
    c.sum.ensures ∙ ap₂ bit_xor (c.below.ensures ∙ ap below end) (c.below-2.ensures ∙ ap below first) in
    let ends = end_to in record { strip = λ s. ap (λ (n : ℕ). has n s) set ∙ strip_as_set layout c.requires.0.height_from disk s; small = rw set (xor_lt set_width (below (first_symbol layout disk + height_of layout disk)) (below (first_symbol layout disk)) (below_small _ set_width (omega (arith, ends, end))) (below_small _ set_width (omega (arith, ends, first)))) }

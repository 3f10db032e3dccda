-- Laws of stray bits by place. Assumes nothing.
use mathlib.Core.Path.{◌≡◌, ◌∙◌, sym, subst}
use mathlib.Core.List.{List, [], ◌∷◌}
use mathlib.Core.Bool.{true, false}
use native.Mathlib.Nat.{zero-add}
use Prim.Native.Nat.{ℕ, ◌+◌, ◌-◌, ◌*◌, ◌/◌, ◌%◌, ◌≤◌, ◌<◌}
use native.Mathlib.Decide.{dec_lt}
use native.Mathlib.Omega.{arith}
use lib.ListN.{get_or}
use borrow.Author.Tests.{le-leb, lt-leb, le-ltb, lt-ltb}
use Rattle.bits.specs.BitSets.{has}
use Rattle.bits.proofs.SearchLaws.{first_from_none, first_from_found}
use Rattle.code_limits.specs.CodeLimits.{stray_at, first_stray, stray_fault}
use Rattle.refusals.specs.Orders.{Fine, Refused, first_of}
use Rattle.refusals.specs.Refusals.{◌at◌}

row_of_place : (row bit : ℕ) → bit < 64 → (row * 64 + bit) / 64 ≡ row
row_of_place row bit h = omega arith

bit_of_place : (row bit : ℕ) → bit < 64 → (row * 64 + bit) % 64 ≡ bit
bit_of_place row bit h = omega arith

module _ (rows : List ℕ) (data_symbols row bit : ℕ) (in_row : bit < 64) where
  -- A bit at K or above is stray exactly if the row has it
  pub stray_at_high : data_symbols ≤ bit → stray_at rows data_symbols (row * 64 + bit) ≡ has (get_or rows row 0) bit
  unfolding stray_at
  stray_at_high h = simp (row_of_place row bit in_row, bit_of_place row bit in_row, le-leb data_symbols bit h)

  -- A bit below K is never stray
  pub stray_at_low : bit < data_symbols → stray_at rows data_symbols (row * 64 + bit) ≡ false
  unfolding stray_at
  stray_at_low h = simp (row_of_place row bit in_row, bit_of_place row bit in_row, lt-leb data_symbols bit h)

-- Where the rows before one have no stray bit, and it has none from K up to a bit, no place of theirs and of it before that bit is stray
pub none_stray_before : (rows : List ℕ) (data_symbols row up_to : ℕ) → ((j : ℕ) → j < row * 64 → stray_at rows data_symbols j ≡ false)
    → ((bit : ℕ) → data_symbols ≤ bit → bit < up_to → has (get_or rows row 0) bit ≡ false)
    → (j : ℕ) → j < row * 64 + up_to → j < row * 64 + 64 → stray_at rows data_symbols j ≡ false
none_stray_before rows data_symbols row up_to before lacks j l in_row = by_row (dec_lt j (row * 64))
  where
    by_bit : (bit : ℕ) → bit < up_to → bit < 64 → Dec (bit < data_symbols) → stray_at rows data_symbols (row * 64 + bit) ≡ false
    by_bit bit h below (yes low) = stray_at_low rows data_symbols row bit below low
    by_bit bit h below (no high) = stray_at_high rows data_symbols row bit below (omega arith) ∙ lacks bit (omega arith) h

    by_row : Dec (j < row * 64) → stray_at rows data_symbols j ≡ false
    by_row (yes h) = before j h
    by_row (no h) =
        let place : row * 64 + (j - row * 64) ≡ j = omega arith in
        subst (λ (i : ℕ). stray_at rows data_symbols i ≡ false) place (by_bit (j - row * 64) (omega arith) (omega arith) (dec_lt (j - row * 64) data_symbols))

-- The first stray place is told
pub stray_told : (rows : List ℕ) (count data_symbols place : ℕ) → place < count * 64 → stray_at rows data_symbols place ≡ true
    → ((j : ℕ) → j < place → stray_at rows data_symbols j ≡ false) → Refused (6 at place) ≡ first_of (stray_fault rows count data_symbols ∷ [])
stray_told rows count data_symbols place within stray before =
    let first : first_stray rows count data_symbols ≡ place =
    first_from_found (stray_at rows data_symbols) (count * 64) 0 place (omega arith) (omega (arith, within)) (λ j from l. before j l) stray in
    rw (first, lt-ltb place (count * 64) within)

-- Where no place is stray, nothing is
pub none_stray_told : (rows : List ℕ) (count data_symbols : ℕ) → ((j : ℕ) → j < count * 64 → stray_at rows data_symbols j ≡ false)
    → Fine ≡ first_of (stray_fault rows count data_symbols ∷ [])
none_stray_told rows count data_symbols none =
    let first : first_stray rows count data_symbols ≡ count * 64 =
    first_from_none (stray_at rows data_symbols) (count * 64) 0 (λ j from l. none j (omega (arith, l))) ∙ zero-add _ in
    rw (first, le-ltb (count * 64) (count * 64) (omega arith))

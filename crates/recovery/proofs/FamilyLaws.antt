-- What a computed test shows of families, for every listed parameter. Assumes nothing.
use mathlib.Core.Path.{◌≡◌, refl, sym, ◌∙◌, subst}
use mathlib.Core.Bool.{Bool, true, false, ◌&&◌, ◌||◌, false≢true}
use Prim.Native.Nat.{ℕ}
use lib.Dec.{eqb}
use borrow.Author.Tests.{eqb-true}
use Rattle.bits.specs.BitSets.{overlap, count, count_in, scale}
use Rattle.bits.specs.Lists.{tabulate, symbols_in}
use Rattle.bits.specs.Numerals.{padded}
use Rattle.bits.proofs.Booleans.{and_left, and_right}
use Rattle.codes.specs.Codes.{rows_of}
use Rattle.codes.specs.Layouts.{symbols_of, first_symbol, height_of, disk_of}
use Rattle.gf2.specs.InnerElimination.{pivot_for, reduce_patterns, remaining, nonempty, units_from}
use Rattle.gf2.specs.InnerSubsetPlans.{survivors}
use Rattle.gf2.proofs.IdentityRowLaws.{lost_units}
use Rattle.lists.specs.Lists as Lists
use Rattle.solve.specs.InnerSolving.{odd_pattern}
use Rattle.family_codes.specs.Families.{listed, three_five_or_seven, family_code, family_row, disk_row, parity_row, data_or_row_parity, unit, sum_over, extra_entry, diagonal_entry}
use Rattle.family_codes.specs.declared.Family.{Family}
use Rattle.family_codes.specs.declared.Family.TheVariants.{SingleParity}
use Rattle.family_codes.proofs.LimitLaws.{family_code_within_limits}
use Rattle.recovery.specs.Recovery.{EachPairHasAPlan, RecoversEachPair, RecoversEachDisk}
use Rattle.recovery.proofs.RecoveryLaws.{all_below, begins_with_units, no_pattern_for_pairs, each_pair_has_a_plan, each_disk_has_a_plan}

-- A fact that unfolds this computes: it opens all that elimination over a family's code is made of
unfoldable pub computed : Bool → Bool
unfolding all_below family_code family_row disk_row parity_row data_or_row_parity unit sum_over extra_entry diagonal_entry rows_of tabulate symbols_of first_symbol height_of disk_of Lists.listed Lists.same symbols_in padded units_from lost_units nonempty survivors remaining reduce_patterns pivot_for odd_pattern overlap count count_in scale
computed test = test

-- The test can fail: of three disks with single parity two can't be lost
single_parity_fails : no_pattern_for_pairs (family_code (SingleParity 2 1)) ≡ false
unfolding computed
single_parity_fails = refl

-- though its first rows are the identity rows
single_parity_begins_with_units : begins_with_units (family_code (SingleParity 2 1)) ≡ true
unfolding computed
single_parity_begins_with_units = refl

-- Where no pattern is found for any two disks of a listed code, they have a plan
pub pairs_of : (family : Family) → no_pattern_for_pairs (family_code family) ≡ true → listed family ≡ true → EachPairHasAPlan (family_code family)
pairs_of family none is_listed = each_pair_has_a_plan (family_code family) (family_code_within_limits family is_listed) none

-- What holds of 3, 5 and 7 holds of every listed number
pub by_listed_number : (Holds : ℕ → Type 0) → Holds 3 → Holds 5 → Holds 7 → (p : ℕ) → three_five_or_seven p ≡ true → Holds p
by_listed_number Holds three five seven p h = by_tests (eqb p 3) (eqb p 5) (eqb p 7) refl refl refl h
  where
    by_tests : (a b c : Bool) → eqb p 3 ≡ a → eqb p 5 ≡ b → eqb p 7 ≡ c → (a || b || c) ≡ true → Holds p
    by_tests true b c is_three is_five is_seven some = subst Holds (sym (eqb-true p 3 is_three)) three
    by_tests false true c is_three is_five is_seven some = subst Holds (sym (eqb-true p 5 is_five)) five
    by_tests false false true is_three is_five is_seven some = subst Holds (sym (eqb-true p 7 is_seven)) seven
    by_tests false false false is_three is_five is_seven some = absurd (false≢true some)

-- Whether no pattern is found for any two disks of a family of one number, which is 3, 5 or 7
abbrev pub no_pattern_for : (ℕ → Family) → Bool
no_pattern_for family = no_pattern_for_pairs (family_code (family 3)) && no_pattern_for_pairs (family_code (family 5)) && no_pattern_for_pairs (family_code (family 7))

-- Then any two disks have a plan for every listed number
pub recovers_each_pair : (family : ℕ → Family) → ((p : ℕ) → listed (family p) ≡ three_five_or_seven p) → no_pattern_for family ≡ true → RecoversEachPair family
recovers_each_pair family listed_so none p is_listed =
    let three = no_pattern_for_pairs (family_code (family 3)) in
    let five = no_pattern_for_pairs (family_code (family 5)) in
    let seven = no_pattern_for_pairs (family_code (family 7)) in
    let first_two = and_left (three && five) seven none in
    by_listed_number (λ p. listed (family p) ≡ true → EachPairHasAPlan (family_code (family p)))
    (pairs_of (family 3) (and_left three five first_two))
    (pairs_of (family 5) (and_right three five first_two))
    (pairs_of (family 7) (and_right (three && five) seven none))
    p (sym (listed_so p) ∙ is_listed) is_listed

-- Then each disk has one
pub recovers_each_disk : (family : ℕ → Family) → RecoversEachPair family → RecoversEachDisk family
recovers_each_disk family pairs parameter is_listed =
    each_disk_has_a_plan (family_code (family parameter)) (family_code_within_limits (family parameter) is_listed) (pairs parameter is_listed)

-- Any two disks of a row-diagonal and of an EVENODD array have a plan, for every listed p, and of a Liberation array for every listed w and k; and so
-- has each disk. Elimination, computed over the definitions. Assumes nothing.
use mathlib.Core.Path.{◌≡◌, refl, sym, ap, ◌∙◌}
use mathlib.Core.Bool.{Bool, true, ◌&&◌, ◌||◌}
use Prim.Native.Nat.{ℕ, suc, ◌≤◌}
use native.Mathlib.Omega.{arith}
use lib.Dec.{leb, ltb}
use borrow.Author.Tests.{leb-true, le-ltb}
use Rattle.bits.proofs.Booleans.{and_left, and_right}
use Rattle.family_codes.specs.Families.{listed, three_five_or_seven, family_code}
use Rattle.family_codes.specs.declared.Family.TheVariants.{Liberation, RowDiagonal, EvenOdd}
use Rattle.recovery.specs.Recovery.{RecoversEachPair, RecoversEachDisk}
use Rattle.recovery.proofs.RecoveryLaws.{all_below, all_below_holds, no_pattern_for_pairs}
use Rattle.recovery.proofs.FamilyLaws.{computed, pairs_of, by_listed_number, no_pattern_for, recovers_each_pair, recovers_each_disk}

-- ------------------------------------------------------------------
-- Row-diagonal and EVENODD

no_pattern_for_row_diagonal : no_pattern_for RowDiagonal ≡ true
unfolding computed
no_pattern_for_row_diagonal = refl

pub row_diagonal_recovers_each_pair : RecoversEachPair RowDiagonal
unfolding listed
row_diagonal_recovers_each_pair = recovers_each_pair RowDiagonal (λ p. refl) no_pattern_for_row_diagonal

pub row_diagonal_recovers_each_disk : RecoversEachDisk RowDiagonal
row_diagonal_recovers_each_disk = recovers_each_disk RowDiagonal row_diagonal_recovers_each_pair

no_pattern_for_evenodd : no_pattern_for EvenOdd ≡ true
unfolding computed
no_pattern_for_evenodd = refl

pub evenodd_recovers_each_pair : RecoversEachPair EvenOdd
unfolding listed
evenodd_recovers_each_pair = recovers_each_pair EvenOdd (λ p. refl) no_pattern_for_evenodd

pub evenodd_recovers_each_disk : RecoversEachDisk EvenOdd
evenodd_recovers_each_disk = recovers_each_disk EvenOdd evenodd_recovers_each_pair

-- ------------------------------------------------------------------
-- Liberation

-- Whether no pattern is found for any k from 2 to w
abbrev no_pattern_up_to : ℕ → Bool
no_pattern_up_to w = all_below (suc w) (λ k. ltb k 2 || no_pattern_for_pairs (family_code (Liberation w k)))

-- Then any two disks have a plan for every listed k, which is one from 2 to w
recovers_up_to : (w : ℕ) → no_pattern_up_to w ≡ true → RecoversEachPair (Liberation w)
unfolding listed
recovers_up_to w none k is_listed =
    let from : 2 ≤ k = leb-true 2 k (and_right (three_five_or_seven w) (leb 2 k) (and_left (three_five_or_seven w && leb 2 k) (leb k w) is_listed)) in
    let to : k ≤ w = leb-true k w (and_right (three_five_or_seven w && leb 2 k) (leb k w) is_listed) in
    let test = all_below_holds (suc w) (λ k. ltb k 2 || no_pattern_for_pairs (family_code (Liberation w k))) none k (omega arith) in
    pairs_of (Liberation w k) (sym (ap (λ (c : Bool). c || no_pattern_for_pairs (family_code (Liberation w k))) (le-ltb k 2 from)) ∙ test) is_listed

no_pattern_for_3 : no_pattern_up_to 3 ≡ true
unfolding computed
no_pattern_for_3 = refl

no_pattern_for_5 : no_pattern_up_to 5 ≡ true
unfolding computed
no_pattern_for_5 = refl

no_pattern_for_7 : no_pattern_up_to 7 ≡ true
unfolding computed
no_pattern_for_7 = refl

pub liberation_recovers_each_pair : (w : ℕ) → RecoversEachPair (Liberation w)
unfolding listed
liberation_recovers_each_pair w k is_listed =
    by_listed_number (λ w. RecoversEachPair (Liberation w)) (recovers_up_to 3 no_pattern_for_3) (recovers_up_to 5 no_pattern_for_5) (recovers_up_to 7 no_pattern_for_7) w
    (and_left (three_five_or_seven w) (leb 2 k) (and_left (three_five_or_seven w && leb 2 k) (leb k w) is_listed)) k is_listed

pub liberation_recovers_each_disk : (w : ℕ) → RecoversEachDisk (Liberation w)
liberation_recovers_each_disk w = recovers_each_disk (Liberation w) (liberation_recovers_each_pair w)

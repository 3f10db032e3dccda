-- Laws of rising lists: no fault exactly where the list keeps the rule, and what is listed. Assumes nothing.
use mathlib.Core.Path.{◌≡◌, refl, sym, ap, ap₂, ◌∙◌}
use mathlib.Core.Bool.{Bool, true, false, not, ◌&&◌, ◌||◌, true≢false}
use mathlib.Core.List.{List, [], ◌∷◌, ◌++◌}
use Prim.Native.Nat.{ℕ, zero, suc, ◌+◌, ◌-◌, ◌≤◌, ◌<◌}
use native.Mathlib.Numerals.{add-one}
use native.Mathlib.Omega.{arith}
use lib.Dec.{eqb, leb, ltb}
use lib.ListN.{length, get_or, take, drop, drop_of_length-le}
use borrow.Author.Tests.{leb-false, ltb-false, ltb-true, le-leb, lt-leb, le-ltb, eq-eqb, ne_eqb, eqb-true, not-false}
use lib.Seq.{take_all, drop-cons}
use Rattle.std.specs.Cmp.Lexicographic.{pointwise}
use Rattle.std.specs.List.{list_any}
use Rattle.std.specs.Prelude.{nat_eq}
use Rattle.bits.specs.BitSets.{has, with}
use Rattle.bits.proofs.Booleans.{or_false_both, or_shift, and_left, and_right}
use Rattle.bits.proofs.SearchLaws.{first_from_none, first_from_found, none_if_first_from_behind}
use Rattle.bits.proofs.SetLaws.{has_empty, has_with}
use Rattle.refusals.specs.Refusals.{Numbered, ◌at◌}
use Rattle.refusals.specs.Orders.{Fault, or_if, and_then, Fine, Refused}
use Rattle.refusals.proofs.OrderLaws.{NoneHolds, refusal_stands}
use Rattle.lists.specs.Lists.{not_rising, first_bad, list_faults, GoodList, listed, any_from, disk_faults, GoodDisks, same}

-- An entry from position 1 on rises if it is above the one before it
pub not_rising_behind : (list : List ℕ) (i : ℕ) → 1 ≤ i → not_rising list i ≡ leb (get_or list i 0) (get_or list (i - 1) 0)
unfolding not_rising
not_rising_behind list i h = ap (λ (c : Bool). c && leb (get_or list i 0) (get_or list (i - 1) 0)) (le-leb 1 i h)

-- The first entry always rises
pub not_rising_first : (list : List ℕ) → not_rising list 0 ≡ false
unfolding not_rising
not_rising_first list = refl

-- Each entry rises where each from position 1 on is above the one before it
rising_here : (list : List ℕ) (i : ℕ) → (1 ≤ i → get_or list (i - 1) 0 < get_or list i 0) → not_rising list i ≡ false
rising_here list zero above = not_rising_first list
rising_here list (suc i) above = not_rising_behind list (suc i) (omega arith) ∙ lt-leb _ _ (above (omega arith))

module _ (least most : ℕ) (allowed : ℕ → Bool) (list : List ℕ) (refusal : ℕ → Numbered) where
  -- A list without a fault keeps the rule
  pub good_if_no_fault : NoneHolds (list_faults least most allowed list refusal) → GoodList least most allowed list
  good_if_no_fault none =
      let none_bad : (i : ℕ) → i < length list → (not (allowed (get_or list i 0)) ≡ false) × (not_rising list i ≡ false) =
      λ i h.
      or_false_both (not (allowed (get_or list i 0))) (not_rising list i)
      (none_if_first_from_behind (λ j. not (allowed (get_or list j 0)) || not_rising list j) (length list) 0 i (omega (arith, ltb-false (first_bad allowed list) (length list) none.1.1.0)) (omega arith) (omega arith)) in
      record {
        count_from = ltb-false _ _ none.0;
        count_to = ltb-false _ _ none.1.0;
        each_allowed = λ i h. not-false _ (none_bad i h).0;
        rises = λ i from h. leb-false _ _ (sym (not_rising_behind list i from) ∙ (none_bad i h).1);
      }

  -- A list that keeps the rule has no fault
  pub no_fault_if_good : GoodList least most allowed list → NoneHolds (list_faults least most allowed list refusal)
  no_fault_if_good good =
      let none_bad = first_from_none (λ j. not (allowed (get_or list j 0)) || not_rising list j) (length list) 0
      (λ i a b. both (ap not (good.each_allowed i (omega arith))) (rising_here list i (λ from. good.rises i from (omega arith)))) in
      (le-ltb _ _ good.count_from, (le-ltb _ _ good.count_to, (le-ltb (first_bad allowed list) (length list) (omega (arith, none_bad)), tt)))
    where
      both : {a b : Bool} → a ≡ false → b ≡ false → (a || b) ≡ false
      both p q = rw (p, q)

-- ------------------------------------------------------------------
-- What is listed

-- Where each entry passes a test, each number listed does
pub listed_passes : (list : List ℕ) (test : ℕ → Bool) → ((i : ℕ) → i < length list → test (get_or list i 0) ≡ true)
    → (s : ℕ) → listed list s ≡ true → test s ≡ true
unfolding listed
listed_passes [] test each s is_listed = absurd (true≢false (sym is_listed))
listed_passes (entry ∷ list) test each s is_listed =
    by_first (eqb s entry) refl is_listed (each 0 (omega arith)) (listed_passes list test (λ i below. each (suc i) (omega arith)) s)
  where
    by_first : (same : Bool) → eqb s entry ≡ same → (same || listed list s) ≡ true → test entry ≡ true → (listed list s ≡ true → test s ≡ true) → test s ≡ true
    by_first true e h here later = ap test (eqb-true s entry e) ∙ here
    by_first false e h here later = later h

-- One entry more is listed
pub listed_more : (list : List ℕ) (i : ℕ) → i < length list → (s : ℕ) → listed (take (i + 1) list) s ≡ (eqb s (get_or list i 0) || listed (take i list) s)
unfolding listed
listed_more [] i h s = absurd (omega arith)
listed_more (entry ∷ list) zero h s = refl
listed_more (entry ∷ list) (suc i) h s =
    let more : suc i + 1 ≡ suc (i + 1) = omega arith in
    rw more (ap (λ (c : Bool). eqb s entry || c) (listed_more list i (omega arith) s) ∙ or_shift (eqb s entry) (eqb s (get_or list i 0)) (listed (take i list) s))

-- Before the first entry nothing is listed
pub listed_none : (list : List ℕ) (s : ℕ) → has 0 s ≡ listed (take 0 list) s
unfolding listed
listed_none list s = has_empty s

-- An entry joins the set of those before it
pub listed_joins : (list : List ℕ) (i : ℕ) → i < length list → (set : ℕ) → ((s : ℕ) → has set s ≡ listed (take i list) s) → {entry set' : ℕ}
    → entry ≡ get_or list i 0 → set' ≡ with set entry → (s : ℕ) → has set' s ≡ listed (take (i + 1) list) s
listed_joins list i h set so_far entry-is set_is s =
    rw (set_is, entry-is) (has_with set (get_or list i 0) s ∙ ap (λ (c : Bool). eqb s (get_or list i 0) || c) (so_far s) ∙ sym (listed_more list i h s))

-- Behind the last entry the set has what is listed
pub listed_all : (list : List ℕ) (i : ℕ) → length list ≤ i → (set : ℕ) → ((s : ℕ) → has set s ≡ listed (take i list) s) → (s : ℕ) → has set s ≡ listed list s
listed_all list i all set so_far s = so_far s ∙ ap (λ (l : List ℕ). listed l s) (take_all i list all)

-- ------------------------------------------------------------------
-- The search for a bad entry

module _ (allowed : ℕ → Bool) (list : List ℕ) (i : ℕ) (none : (j : ℕ) → j < i → (not (allowed (get_or list j 0)) || not_rising list j) ≡ false) where
  -- The first bad entry is found
  pub bad_found : i < length list → (not (allowed (get_or list i 0)) || not_rising list i) ≡ true → i ≡ first_bad allowed list
  bad_found h here =
      sym (first_from_found (λ j. not (allowed (get_or list j 0)) || not_rising list j) (length list) 0 i (omega arith) (omega arith) (λ j a b. none j b) here)

  -- Where none is bad, the search ends at the list's length
  pub bad_none : i ≤ length list → length list ≤ i → i ≡ first_bad allowed list
  bad_none h all =
      let end : i ≡ 0 + length list = omega arith in
      end ∙ sym (first_from_none (λ j. not (allowed (get_or list j 0)) || not_rising list j) (length list) 0 (λ j a b. none j (omega arith)))

-- ------------------------------------------------------------------
-- Lists of disks

-- Where each entry is below a bound, none is from it on
none_from : (bound : ℕ) (list : List ℕ) → ((i : ℕ) → i < length list → ltb (get_or list i 0) bound ≡ true) → any_from bound list ≡ false
unfolding any_from
none_from bound [] each = refl
none_from bound (entry ∷ list) each =
    rw (lt-leb bound entry (ltb-true entry bound (each 0 (omega arith)))) (none_from bound list (λ i h. each (suc i) (omega arith)))

module _ (disks most : ℕ) (list : List ℕ) where
  -- A list of disks without a fault keeps the rule
  pub good_disks_if_no_fault : NoneHolds (disk_faults disks most list) → GoodDisks disks most list
  good_disks_if_no_fault none = good_if_no_fault 1 most (λ disk. ltb disk disks) list (λ position. 24 at position) none.1

  -- One that keeps the rule has no fault
  pub no_fault_if_good_disks : GoodDisks disks most list → NoneHolds (disk_faults disks most list)
  no_fault_if_good_disks good = (none_from disks list good.each_allowed, no_fault_if_good 1 most (λ disk. ltb disk disks) list (λ position. 24 at position) good)

-- One disk that is none of the array's is refused with 7, whatever is tested behind
pub no_such_disk : (disks most disk : ℕ) (rest : List Fault) → disks ≤ disk → and_then Fine (disk_faults disks most (disk ∷ []) ++ rest) ≡ Refused (7 at 0)
unfolding any_from
no_such_disk disks most disk rest beyond =
    let later = list_faults 1 most (λ d. ltb d disks) (disk ∷ []) (λ position. 24 at position) ++ rest in
    ap (λ (c : Bool). and_then (or_if Fine (c || false) (7 at 0)) later) (le-leb disks disk beyond) ∙ refusal_stands (7 at 0) later

-- An entry from a bound on is looked for
pub any_from_is_any : (bound : ℕ) (list : List ℕ) → any_from bound list ≡ list_any (leb bound) list
unfolding any_from
any_from_is_any bound [] = refl
any_from_is_any bound (entry ∷ list) = ap (λ (c : Bool). leb bound entry || c) (any_from_is_any bound list)

-- ------------------------------------------------------------------
-- Two lists as one

-- Lists that pass the test are one
pub same_means_equal : (list other : List ℕ) → same list other ≡ true → list ≡ other
unfolding same
same_means_equal [] [] e = refl
same_means_equal [] (other ∷ others) e = absurd (true≢false (sym e))
same_means_equal (entry ∷ list) [] e = absurd (true≢false (sym e))
same_means_equal (entry ∷ list) (other ∷ others) e =
    ap₂ (λ (a : ℕ) (b : List ℕ). a ∷ b) (eqb-true entry other (and_left (eqb entry other) (same list others) e)) (same_means_equal list others (and_right (eqb entry other) (same list others) e))

-- and one list does
pub same_itself : (list : List ℕ) → same list list ≡ true
unfolding same
same_itself [] = refl
same_itself (entry ∷ list) = rw (eq-eqb entry entry refl) (same_itself list)

-- Lists are one where they are entry by entry
pub same_by_entries : (list other : List ℕ) → pointwise nat_eq list other ≡ same list other
unfolding same
same_by_entries [] [] = refl
same_by_entries [] (y ∷ ys) = refl
same_by_entries (x ∷ xs) [] = refl
same_by_entries (x ∷ xs) (y ∷ ys) = ap (λ (c : Bool). eqb x y && c) (same_by_entries xs ys)

-- The symbols of a set, rising, as a list. Assumes nothing.
use mathlib.Core.Path.{◌≡◌, refl, sym, ap, ◌∙◌}
use mathlib.Core.Bool.{Bool, true, false, cond, ◌&&◌, ◌||◌, and-false}
use mathlib.Core.List.{List, [], ◌∷◌, ◌++◌, append_assoc, append-nil, Memᴰ}
use Prim.Native.Nat.{ℕ, zero, suc, ◌+◌, ◌-◌, ◌≤◌, ◌<◌}
use native.Mathlib.Numerals.{add-one}
use native.Mathlib.Decide.{dec_lt}
use native.Mathlib.Omega.{arith}
use borrow.Author.Tests.{ltb-true, lt-ltb, le-ltb, eq-eqb, eqb-true, eqb-false}
use lib.Dec.{eqb, ltb}
use lib.ListN.{length, get_or, set}
use Rattle.bits.specs.BitSets.{has, with}
use Rattle.bits.specs.Lists.{symbols_in}
use Rattle.bits.proofs.Booleans.{and_left, and_right, and_true_if_both, or_true_if_left, or_true_if_right}
use Rattle.bits.proofs.ListLaws.{in_symbols_in}
use Rattle.bits.proofs.SetLaws.{has_with}
use Rattle.lists.specs.Lists.{listed}
use Rattle.lists.proofs.ListLaws.{listed_passes}
use Rattle.priced_planner.specs.PricedPlanner.{is_lost}
use Rattle.prices.specs.Prices.{state_of, is_away}
use Rattle.prices.specs.declared.DiskState.{DiskState}

-- ------------------------------------------------------------------
-- Entries

-- What holds of an entry: it passes the test, and lies between the bounds
pub record Between (test : ℕ → Bool) (start end entry : ℕ) : Type 0 where
  pub passes : test entry ≡ true
  pub from : start ≤ entry
  pub to : entry < end

-- Each entry passes the test and lies between the bounds
pub entry_between : (test : ℕ → Bool) (start count i : ℕ) → i < length (symbols_in test start count) → Between test start (start + count) (get_or (symbols_in test start count) i 0)
unfolding symbols_in
entry_between test start zero i h = absurd (omega arith)
entry_between test start (suc count) i h = by_first (λ j. entry_between test (suc start) count j) (test start) refl i h
  where
    wider : {entry : ℕ} → Between test (suc start) (suc start + count) entry → Between test start (start + suc count) entry
    wider b = record { passes = b.passes; from = omega (arith, b.from); to = omega (arith, b.to) }

    by_first : ((j : ℕ) → j < length (symbols_in test (suc start) count) → Between test (suc start) (suc start + count) (get_or (symbols_in test (suc start) count) j 0))
        → (c : Bool) → test start ≡ c → (j : ℕ) → j < length (cond c (start ∷ symbols_in test (suc start) count) (symbols_in test (suc start) count))
        → Between test start (start + suc count) (get_or (cond c (start ∷ symbols_in test (suc start) count) (symbols_in test (suc start) count)) j 0)
    by_first later true q zero l = record { passes = q; from = omega arith; to = omega arith }
    by_first later true q (suc j) l = wider (later j (omega arith))
    by_first later false q j l = wider (later j l)

-- They rise
pub entries_rise : (test : ℕ → Bool) (start count i : ℕ) → suc i < length (symbols_in test start count)
    → get_or (symbols_in test start count) i 0 < get_or (symbols_in test start count) (suc i) 0
unfolding symbols_in
entries_rise test start zero i h = absurd (omega arith)
entries_rise test start (suc count) i h = by_first (λ j. entries_rise test (suc start) count j) (λ j. entry_between test (suc start) count j) (test start) i h
  where
    by_first : ((j : ℕ) → suc j < length (symbols_in test (suc start) count) → get_or (symbols_in test (suc start) count) j 0 < get_or (symbols_in test (suc start) count) (suc j) 0)
        → ((j : ℕ) → j < length (symbols_in test (suc start) count) → Between test (suc start) (suc start + count) (get_or (symbols_in test (suc start) count) j 0))
        → (c : Bool) (j : ℕ) → suc j < length (cond c (start ∷ symbols_in test (suc start) count) (symbols_in test (suc start) count))
        → get_or (cond c (start ∷ symbols_in test (suc start) count) (symbols_in test (suc start) count)) j 0
        < get_or (cond c (start ∷ symbols_in test (suc start) count) (symbols_in test (suc start) count)) (suc j) 0
    by_first later between true zero l = omega (arith, (between 0 (omega arith)).from)
    by_first later between true (suc j) l = later j (omega arith)
    by_first later between false j l = later j l

-- ------------------------------------------------------------------
-- What is listed

-- Tests that imply each other are the same
pub same_if_both : (a b : Bool) → (a ≡ true → b ≡ true) → (b ≡ true → a ≡ true) → a ≡ b
same_if_both true b to from = sym (to refl)
same_if_both false true to from = from refl
same_if_both false false to from = refl

-- A member of a list is listed
listed_if_member : (list : List ℕ) (s : ℕ) → Memᴰ s list → listed list s ≡ true
unfolding listed
listed_if_member (entry ∷ list) s (Memᴰ.head same) = or_true_if_left (eqb s entry) (listed list s) (eq-eqb s entry same)
listed_if_member (entry ∷ list) s (Memᴰ.tail m) = or_true_if_right (eqb s entry) (listed list s) (listed_if_member list s m)
listed_if_member [] s there = elim there [ ]

-- The list of those that pass lists exactly them
pub listed_symbols_in : (test : ℕ → Bool) (count s : ℕ) → listed (symbols_in test 0 count) s ≡ (ltb s count && test s)
listed_symbols_in test count s = same_if_both (listed list s) (ltb s count && test s) forth back
  where
    list : List ℕ
    list = symbols_in test 0 count

    forth : listed list s ≡ true → (ltb s count && test s) ≡ true
    forth =
        listed_passes list (λ t. ltb t count && test t)
        (λ i h.
        let b = entry_between test 0 count i h in
        and_true_if_both (ltb (get_or list i 0) count) (test (get_or list i 0)) (lt-ltb (get_or list i 0) count (omega (arith, b.to))) b.passes)
        s

    back : (ltb s count && test s) ≡ true → listed list s ≡ true
    back h =
        listed_if_member list s
        (in_symbols_in test 0 count s (omega arith) (omega (arith, ltb-true s count (and_left (ltb s count) (test s) h))) (and_right (ltb s count) (test s) h))

-- ------------------------------------------------------------------
-- One more number looked at

pub symbols_with : (test : ℕ → Bool) (bound number : ℕ) → number < bound → test number ≡ true
    → symbols_in test number (bound - number) ≡ number ∷ symbols_in test (number + 1) (bound - (number + 1))
unfolding symbols_in
symbols_with test bound number below passes =
    let left : bound - number ≡ suc (bound - (number + 1)) = omega arith in
    rw (left, passes, add-one)

pub symbols_without : (test : ℕ → Bool) (bound number : ℕ) → number < bound → test number ≡ false
    → symbols_in test number (bound - number) ≡ symbols_in test (number + 1) (bound - (number + 1))
unfolding symbols_in
symbols_without test bound number below fails =
    let left : bound - number ≡ suc (bound - (number + 1)) = omega arith in
    rw (left, fails, add-one)

pub symbols_none : (test : ℕ → Bool) (bound number : ℕ) → bound ≤ number → symbols_in test number (bound - number) ≡ []
unfolding symbols_in
symbols_none test bound number behind =
    let left : bound - number ≡ 0 = omega arith in
    rw left

-- A number appended to the entries so far
pub entry_pushed : (test : ℕ → Bool) (entries : List ℕ) (bound number : ℕ) → number < bound → test number ≡ true
    → entries ++ symbols_in test number (bound - number) ≡ symbols_in test 0 bound
    → (entries ++ number ∷ []) ++ symbols_in test (number + 1) (bound - (number + 1)) ≡ symbols_in test 0 bound
entry_pushed test entries bound number below passes so_far =
    let later = symbols_in test (number + 1) (bound - (number + 1)) in
    append_assoc entries (number ∷ []) later ∙ ap (λ (l : List ℕ). entries ++ l) (sym (symbols_with test bound number below passes)) ∙ so_far

-- Behind the last number the entries are all
pub all_entries : (test : ℕ → Bool) (entries : List ℕ) (bound number : ℕ) → bound ≤ number
    → entries ++ symbols_in test number (bound - number) ≡ symbols_in test 0 bound → entries ≡ symbols_in test 0 bound
all_entries test entries bound number behind so_far =
    sym (append-nil entries) ∙ ap (λ (l : List ℕ). entries ++ l) (sym (symbols_none test bound number behind)) ∙ so_far

-- ------------------------------------------------------------------
-- Lost disks

module _ (asked : List ℕ) (states : List DiskState) where
  -- Before the first disk none is away
  pub none_away_yet : (d : ℕ) → listed asked d ≡ is_lost asked states 0 d
  none_away_yet d = or-false (listed asked d) (ltb d 0 && is_away (state_of states d)) (ap (λ (c : Bool). c && is_away (state_of states d)) (le-ltb d 0 (omega arith)))
    where
      or-false : (a b : Bool) → b ≡ false → a ≡ (a || b)
      or-false true b q = refl
      or-false false b q = sym q

  -- A disk that is away joins
  pub away_joins : (disk set : ℕ) → is_away (state_of states disk) ≡ true → ((d : ℕ) → has set d ≡ is_lost asked states disk d) → {set' : ℕ} → set' ≡ with set disk
      → (d : ℕ) → has set' d ≡ is_lost asked states (disk + 1) d
  away_joins disk set away so_far set_is d =
      rw set_is (has_with set disk d ∙ ap (λ (c : Bool). eqb d disk || c) (so_far d) ∙ by_place (eqb d disk) refl)
    where
      same_bound : (a b : ℕ) → (a ≡ b → ⊥) → ltb a b ≡ ltb a (b + 1)
      same_bound a b differ = by_side (dec_lt a b)
        where
          by_side : Dec (a < b) → ltb a b ≡ ltb a (b + 1)
          by_side (yes h) = lt-ltb a b h ∙ sym (lt-ltb a (b + 1) (omega arith))
          by_side (no h) = le-ltb a b (omega arith) ∙ sym (le-ltb a (b + 1) (omega arith))

      by_place : (c : Bool) → eqb d disk ≡ c → (eqb d disk || is_lost asked states disk d) ≡ is_lost asked states (disk + 1) d
      by_place true q =
          let same : d ≡ disk = eqb-true d disk q in
          rw q
          (sym (or_true_if_right (listed asked d) (ltb d (disk + 1) && is_away (state_of states d))
          (and_true_if_both (ltb d (disk + 1)) (is_away (state_of states d)) (lt-ltb d (disk + 1) (omega (arith, same))) (ap (λ (n : ℕ). is_away (state_of states n)) same ∙ away))))
      by_place false q = rw q (ap (λ (c : Bool). listed asked d || (c && is_away (state_of states d))) (same_bound d disk (eqb-false d disk q)))

  -- One that is not is passed
  pub not_away_passes : (disk set : ℕ) → is_away (state_of states disk) ≡ false → ((d : ℕ) → has set d ≡ is_lost asked states disk d)
      → (d : ℕ) → has set d ≡ is_lost asked states (disk + 1) d
  not_away_passes disk set not_away so_far d = so_far d ∙ ap (λ (c : Bool). listed asked d || c) (by_side (dec_lt d disk) (eqb d disk) refl)
    where
      by_side : Dec (d < disk) → (c : Bool) → eqb d disk ≡ c → (ltb d disk && is_away (state_of states d)) ≡ (ltb d (disk + 1) && is_away (state_of states d))
      by_side (yes h) c q = ap (λ (b : Bool). b && is_away (state_of states d)) (lt-ltb d disk h ∙ sym (lt-ltb d (disk + 1) (omega arith)))
      by_side (no h) true q =
          let none = ap (λ (n : ℕ). is_away (state_of states n)) (eqb-true d disk q) ∙ not_away in
          ap (λ (b : Bool). b && is_away (state_of states d)) (le-ltb d disk (omega arith))
          ∙ sym (ap (λ (b : Bool). ltb d (disk + 1) && b) none ∙ and-false (ltb d (disk + 1)))
      by_side (no h) false q =
          ap (λ (b : Bool). b && is_away (state_of states d)) (le-ltb d disk (omega arith) ∙ sym (le-ltb d (disk + 1) (omega (arith, eqb-false d disk q))))

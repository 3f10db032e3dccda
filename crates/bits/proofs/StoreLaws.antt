-- Laws of a loop that stores a list into another, one entry a turn: one more is stored, all are, and the rest is untouched. Assumes nothing.
use mathlib.Core.Path.{◌≡◌, sym, ap, ap₂, ◌∙◌}
use mathlib.Core.List.{List, ◌++◌, append-nil}
use Prim.Native.Nat.{ℕ, ◌+◌, ◌-◌, ◌≤◌, ◌<◌}
use native.Mathlib.Nat.{zero-add}
use native.Mathlib.Numerals.{add-one}
use native.Mathlib.Omega.{arith}
use lib.ListN.{length, get_or, set, take, drop, drop_of_length-le, length-drop, take-append-drop, get_or-append}
use lib.Seq.{paste, paste-suc, length_paste_head, length-take-le, take_all, set-get_or, get_or-take, get_or-drop, get_or-append-add, ext_get_or}

-- ------------------------------------------------------------------
-- From a position on. The old list with the first `done` entries of the new one stored from `at` on is `paste old at new done`

module _ (old new : List ℕ) (at : ℕ) (room : at + length new ≤ length old) where
  -- One more entry stored
  pub stored_more : (now : List ℕ) (done entry : ℕ) → done < length new → now ≡ paste old at new done → entry ≡ get_or new done 0
      → set now (at + done) entry ≡ paste old at new (done + 1)
  stored_more now done entry h e f =
      ap₂ (λ (l : List ℕ) (x : ℕ). set l (at + done) x) e f
      ∙ paste-suc old at new done 0 (omega arith) h
      ∙ ap (paste old at new) (sym (add-one done))

  -- All entries stored
  pub stored_all : (now : List ℕ) (done : ℕ) → done ≡ length new → now ≡ paste old at new done
      → now ≡ take at old ++ new ++ drop (at + length new) old
  stored_all now done all e =
      e ∙ ap (paste old at new) all
      ∙ ap (λ (l : List ℕ). take at old ++ l ++ drop (at + length new) old) (take_all (length new) new (omega arith))

  module _ (done : ℕ) (h : done ≤ length new) where
    -- An entry before the position is the old one
    pub stored_before : (k : ℕ) → k < at → get_or (paste old at new done) k 0 ≡ get_or old k 0
    stored_before k before =
        get_or-append (take at old ++ take done new) (drop (at + done) old) 0 k (omega (arith, length_paste_head old at new done (omega arith) h))
        ∙ get_or-append (take at old) (take done new) 0 k (omega (arith, length-take-le at old (omega arith)))
        ∙ get_or-take at old k 0 before

    -- So is one that is not stored yet, or behind the last
    pub stored_behind : (k : ℕ) → at + done ≤ k → get_or (paste old at new done) k 0 ≡ get_or old k 0
    stored_behind k behind =
        let front = length_paste_head old at new done (omega arith) h in
        let position : length (take at old ++ take done new) + (k - (at + done)) ≡ k = omega arith in
        let same : at + done + (k - (at + done)) ≡ k = omega arith in
        ap (λ (j : ℕ). get_or (paste old at new done) j 0) (sym position)
        ∙ get_or-append-add (take at old ++ take done new) (drop (at + done) old) (k - (at + done)) 0
        ∙ get_or-drop (at + done) old (k - (at + done)) 0
        ∙ ap (λ (j : ℕ). get_or old j 0) same

-- ------------------------------------------------------------------
-- From the front

-- The old list with its first `done` entries replaced by the new ones
abbrev pub overwritten : List ℕ → List ℕ → ℕ → List ℕ
overwritten old new done = take done new ++ drop done old

-- It is what storing from position 0 on makes
overwritten_paste : (old new : List ℕ) (done : ℕ) → paste old 0 new done ≡ overwritten old new done
overwritten_paste old new done = simp zero-add

module _ (old new : List ℕ) (room : length new ≤ length old) where
  -- One more entry stored
  pub overwritten_more : (now : List ℕ) (done entry : ℕ) → done < length new → now ≡ overwritten old new done → entry ≡ get_or new done 0
      → set now done entry ≡ overwritten old new (done + 1)
  overwritten_more now done entry h e f =
      simp zero-add at (stored_more old new 0 (omega arith) now done entry h (e ∙ sym (overwritten_paste old new done)) f)

  -- The new list at the front, the rest as it was
  pub overwritten_front : (now : List ℕ) (done : ℕ) → done ≡ length new → now ≡ overwritten old new done
      → now ≡ new ++ drop (length new) old
  overwritten_front now done all e = e ∙ ap (overwritten old new) all ∙ ap (λ (l : List ℕ). l ++ drop (length new) old) (take_all (length new) new (omega arith))

  -- The next entry is still the old one
  pub overwritten_next : (done : ℕ) → done < length new → get_or (overwritten old new done) done 0 ≡ get_or old done 0
  overwritten_next done h =
      ap (λ (l : List ℕ). get_or l done 0) (sym (overwritten_paste old new done)) ∙ stored_behind old new 0 (omega arith) done (omega arith) done (omega arith)

  -- An entry that is new and old alike need not be stored
  pub overwritten_kept : (now : List ℕ) (done : ℕ) → done < length new
      → now ≡ overwritten old new done → get_or new done 0 ≡ get_or old done 0 → now ≡ overwritten old new (done + 1)
  overwritten_kept now done h e alike =
      sym (set-get_or now done 0)
      ∙ overwritten_more now done (get_or now done 0) h e (ap (λ (l : List ℕ). get_or l done 0) e ∙ overwritten_next done h ∙ sym alike)

-- ------------------------------------------------------------------
-- From the front, over a list of the same length

module _ (old new now : List ℕ) (done : ℕ) (same : length old ≡ length new) (e : now ≡ overwritten old new done) where
  -- All entries stored
  pub overwritten_all : length new ≤ done → now ≡ new
  overwritten_all h =
      e ∙ ap₂ (λ (a b : List ℕ). a ++ b) (take_all done new h) (drop_of_length-le old {i = done} (omega arith)) ∙ append-nil new

  -- Where all further entries are new and old alike, all is stored
  pub overwritten_enough : ((i : ℕ) → done ≤ i → get_or new i 0 ≡ get_or old i 0) → now ≡ new
  overwritten_enough alike = e ∙ ap (λ (l : List ℕ). take done new ++ l) rest_alike ∙ take-append-drop done new
    where
      rest_alike : drop done old ≡ drop done new
      rest_alike =
          ext_get_or 0 (drop done old) (drop done new) (omega (arith, length-drop done old, length-drop done new))
          (λ i h. get_or-drop done old i 0 ∙ sym (alike (done + i) (omega arith)) ∙ sym (get_or-drop done new i 0))

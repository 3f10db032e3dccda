-- Laws of bytes that are made of a state, one after the other, and of a loop that stores each as it makes it. Assumes nothing.
use mathlib.Core.Path.{◌≡◌, refl, sym, ap, ◌∙◌}
use mathlib.Core.List.{List, ◌∷◌}
use Prim.Native.Nat.{ℕ, zero, suc, ◌+◌, ◌-◌, ◌≤◌, ◌<◌}
use native.Mathlib.Nat.{add-zero, sub-zero}
use native.Mathlib.Omega.{arith}
use lib.ListN.{length, get_or, set, drop, length-set}
use lib.Seq.{get_or-drop, drop-drop}
use Rattle.bits.proofs.StoreLaws.{overwritten, overwritten_more, overwritten_all}
use Rattle.records.specs.Records.{made}

-- They are as many as asked
pub length_made : (byte next : ℕ → ℕ) (count state : ℕ) → length (made byte next count state) ≡ count
unfolding made
length_made byte next zero state = refl
length_made byte next (suc count) state = ap suc (length_made byte next count (next state))

-- A loop that stores them over a buffer of as many bytes: those before `i` are stored, and those left are made of the state
pub record Storing (byte next : ℕ → ℕ) (old : List ℕ) (first : ℕ) (now : List ℕ) (state i : ℕ) : Type 0 where
  pub within : i ≤ length old
  pub long : length now ≡ length old
  pub stored : now ≡ overwritten old (made byte next (length old) first) i
  pub left : drop i (made byte next (length old) first) ≡ made byte next (length old - i) state

-- At its start all are left
pub storing_starts : {byte next : ℕ → ℕ} {old : List ℕ} {first : ℕ} → Storing byte next old first old first 0
storing_starts {byte} {next} {old} {first} =
    record { within = omega arith; long = refl; stored = refl; left = ap (λ (count : ℕ). made byte next count first) (sym (sub-zero (length old))) }

module _ {byte next : ℕ → ℕ} {old : List ℕ} {first : ℕ} {now : List ℕ} {state i : ℕ} (so_far : Storing byte next old first now state i) where
  -- While some are left, the next is made of the state
  next_made : i < length old → drop i (made byte next (length old) first) ≡ byte state ∷ made byte next (length old - (i + 1)) (next state)
  unfolding made
  next_made h =
      let some : length old - i ≡ suc (length old - (i + 1)) = omega arith in
      so_far.left ∙ ap (λ (count : ℕ). made byte next count state) some

  -- One more is made and stored
  pub storing_more : i < length old → Storing byte next old first (set now i (byte state)) (next state) (i + 1)
  storing_more h =
      let whole = made byte next (length old) first in
      let long = length_made byte next (length old) first in
      let entry : byte state ≡ get_or whole i 0 =
      sym (ap (λ (l : List ℕ). get_or l 0 0) (next_made h)) ∙ get_or-drop i whole 0 0 ∙ ap (λ (n : ℕ). get_or whole n 0) (add-zero i) in
      record {
        within = omega arith;
        long = length-set now i (byte state) ∙ so_far.long;
        stored = overwritten_more old whole (omega arith) now i (byte state) (omega arith) so_far.stored entry;
        left = sym (drop-drop 1 i whole) ∙ ap (drop 1) (next_made h);
      }

  -- All are stored
  pub storing_ends : length old ≤ i → now ≡ made byte next (length old) first
  storing_ends all =
      let long = length_made byte next (length old) first in
      overwritten_all old (made byte next (length old) first) now i (sym long) so_far.stored (omega arith)

-- What a test shows that is computed over a list: it holds of every entry. Assumes nothing.
use mathlib.Core.Path.{◌≡◌, refl, sym, subst}
use mathlib.Core.Bool.{Bool, true, false, not, true≢false}
use mathlib.Core.List.{List}
use Prim.Native.Nat.{ℕ, ◌<◌}
use native.Mathlib.Decide.{dec_lt}
use native.Mathlib.Omega.{arith}
use lib.Dec.{eqb, ltb}
use lib.ListN.{length, get_or, get_or-eq_default}
use borrow.Author.Tests.{ltb-true, eqb-true}
use Rattle.bits.specs.Lists.{first_from}
use Rattle.bits.proofs.SearchLaws.{none_if_first_from_behind}
use Rattle.gf2.specs.Selection.{select}
use Rattle.gf2.specs.Stripes.{AreBytes}
use Rattle.spans.specs.Equations.{MeetsAll}

-- The first entry of which a test doesn't hold, or the length
abbrev pub first_failing : (ℕ → Bool) → List ℕ → ℕ
first_failing test list = first_from (λ i. not (test (get_or list i 0))) 0 (length list)

-- Where there is none, it holds of each
all_tested : (test : ℕ → Bool) (list : List ℕ) → first_failing test list ≡ length list → (i : ℕ) → i < length list → test (get_or list i 0) ≡ true
all_tested test list none i h =
    holds (test (get_or list i 0)) (none_if_first_from_behind (λ j. not (test (get_or list j 0))) (length list) 0 i (omega (arith, none)) (omega arith) (omega arith))
  where
    holds : (c : Bool) → not c ≡ false → c ≡ true
    holds true q = refl
    holds false q = absurd (true≢false q)

-- Every entry is a byte
pub bytes_if_tested : (list : List ℕ) → first_failing (λ byte. ltb byte 256) list ≡ length list → AreBytes list
bytes_if_tested list none i = by_side (dec_lt i (length list))
  where
    by_side : Dec (i < length list) → get_or list i 0 < 256
    by_side (yes h) = ltb-true (get_or list i 0) 256 (all_tested (λ byte. ltb byte 256) list none i h)
    by_side (no h) = subst (λ (byte : ℕ). byte < 256) (sym (get_or-eq_default list 0 (omega arith))) (omega arith)

-- Values meet every equation
pub meets_if_tested : (equations values : List ℕ) → first_failing (λ equation. eqb (select values equation) 0) equations ≡ length equations → MeetsAll equations values
meets_if_tested equations values none e h = eqb-true (select values (get_or equations e 0)) 0 (all_tested (λ equation. eqb (select values equation) 0) equations none e h)

-- Laws of states that are told by kinds, prices and factors. Assumes nothing.
use Rattle.std.proofs.Common.{◌≡◌, ℕ, zero, suc, ◌+◌, ◌<◌, Bool, true, false, cond, ◌&&◌, eqb, ltb, List, [], ◌∷◌, length, get_or, sym, refl, ap, ◌∙◌, true≢false, le_of_suc-le-suc, zero-add, arith, ext_get_or, ltb-false}
use mathlib.Core.Bool.{and-false}
use lib.Ieee.{Float, binary64, of_bits, of_int, neg, le, lt, eq}
use lib.ListN.{get_or-eq_default}
use Rattle.prices.specs.Kinds.{no_number, no_kind, state_of_kind, state_told, states_from, told_enough}
use Rattle.prices.specs.Prices.{is_price, is_factor, is_state, state_of}
use Rattle.prices.specs.declared.DiskState.{DiskState}
use Rattle.prices.specs.declared.DiskState.TheVariants.{Away, Idle, Busy}
use Rattle.prices.proofs.PriceLaws.{one_is}

-- ------------------------------------------------------------------
-- −1

-- As the code writes it
pub no_number_is : neg (of_bits binary64 0x3ff0_0000_0000_0000) ≡ no_number
no_number_is = ap neg one_is

-- It is no price
pub no_number_no_price : is_price no_number ≡ false
unfolding is_price le lt eq neg of_int
no_number_no_price = refl

-- and no factor
no_number_no_factor : is_factor no_number ≡ false
unfolding is_factor le lt eq neg of_int
no_number_no_factor = refl

-- ------------------------------------------------------------------
-- What isn't told

-- An entry that is there doesn't go by the default
pub get_or_there : {A : Type 0} (list : List A) (i : ℕ) (a b : A) → i < length list → get_or list i a ≡ get_or list i b
get_or_there [] i a b h = absurd (omega arith)
get_or_there (x ∷ list) zero a b h = refl
get_or_there (x ∷ list) (suc i) a b h = get_or_there list i a b (le_of_suc-le-suc h)

-- A price or factor that isn't there is −1
not_there : (numbers : List Float) (disk : ℕ) → ltb disk (length numbers) ≡ false → get_or numbers disk no_number ≡ no_number
not_there numbers disk h = get_or-eq_default numbers no_number (ltb-false disk (length numbers) h)

module _ (price factor : Float) (has_price has_factor : Bool) (no_price : has_price ≡ false → price ≡ no_number) (no_factor : has_factor ≡ false → factor ≡ no_number) where
  -- A busy disk needs both
  busy_needs : (a b : Bool) → has_price ≡ a → has_factor ≡ b → (a && b) ≡ false → (is_price price && is_factor factor) ≡ false
  busy_needs true true e f h = absurd (true≢false h)
  busy_needs true false e f h = ap (λ (c : Bool). is_price price && c) (ap is_factor (no_factor f) ∙ no_number_no_factor) ∙ and-false (is_price price)
  busy_needs false b e f h = ap (λ (c : Bool). c && is_factor factor) (ap is_price (no_price e) ∙ no_number_no_price)

  -- By the three tests of the kind
  by_kind : (away idle busy : Bool) → cond away true (cond idle has_price (cond busy (has_price && has_factor) false)) ≡ false
      → is_state (cond away Away (cond idle (Idle price) (cond busy (Busy price factor) (Idle no_number)))) ≡ false
  by_kind true idle busy h = absurd (true≢false h)
  by_kind false true busy h = ap is_price (no_price h) ∙ no_number_no_price
  by_kind false false true h = busy_needs has_price has_factor refl refl h
  by_kind false false false h = no_number_no_price

-- Where what is told isn't enough, no disk can be in the state
pub no_state_if_missing : (kinds : List ℕ) (prices factors : List Float) (disk : ℕ) → told_enough kinds prices factors disk ≡ false
    → is_state (state_told kinds prices factors disk) ≡ false
unfolding told_enough state_of_kind
no_state_if_missing kinds prices factors disk =
    by_kind (get_or prices disk no_number) (get_or factors disk no_number) (ltb disk (length prices)) (ltb disk (length factors)) (not_there prices disk) (not_there factors disk)
    (eqb (get_or kinds disk no_kind) 0) (eqb (get_or kinds disk no_kind) 1) (eqb (get_or kinds disk no_kind) 2)

-- ------------------------------------------------------------------
-- States, one after the other

length_states_from : (state : ℕ → DiskState) (first count : ℕ) → length (states_from state first count) ≡ count
unfolding states_from
length_states_from state first zero = refl
length_states_from state first (suc count) = ap suc (length_states_from state (suc first) count)

get_or_states_from : (state : ℕ → DiskState) (first count i : ℕ) → i < count → state_of (states_from state first count) i ≡ state (first + i)
unfolding states_from
get_or_states_from state first zero i h = absurd (omega arith)
get_or_states_from state first (suc count) zero h = ap state (omega arith)
get_or_states_from state first (suc count) (suc i) h = get_or_states_from state (suc first) count i (le_of_suc-le-suc h) ∙ ap state (omega arith)

-- With all of them stored the list is told
pub all_stored : (state : ℕ → DiskState) (states : List DiskState) (count : ℕ) → length states ≡ count → ((d : ℕ) → d < count → state_of states d ≡ state d)
    → states ≡ states_from state 0 count
all_stored state states count held each =
    ext_get_or Away states (states_from state 0 count) (held ∙ sym (length_states_from state 0 count))
    (λ d h. each d (omega (arith, held)) ∙ sym (get_or_states_from state 0 count d (omega (arith, held)) ∙ ap state (zero-add d)))

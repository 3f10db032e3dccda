-- States from kinds, prices and factors, each a list with an entry a disk, as C hands them over: kind 0 is away, 1 idle, 2 busy. What a kind doesn't use is
-- not looked at. Where another kind stands, or an entry that is used isn't there, the state is one that no disk can be in.
use Rattle.std.specs.Prelude.{◌≡◌, ℕ, zero, suc, ◌<◌, Bool, true, false, cond, ◌&&◌, List, [], ◌∷◌, length, ◌==◌, nat_lt, slice_index_or, Float}
use Rattle.std.specs.Float.Ieee.{neg}
use Rattle.prices.specs.Prices.{float, is_state, state_of}
use Rattle.prices.specs.declared.DiskState.{DiskState}
use Rattle.prices.specs.declared.DiskState.TheVariants.{Away, Idle, Busy}

-- −1, neither a price nor a factor: it stands for one that isn't there
abbrev pub no_number : Float
no_number = neg (float 1)

-- 3, another kind: it stands for one that isn't there
abbrev pub no_kind : ℕ
no_kind = 3

-- The state of a disk by its kind, its price and its factor
unfoldable pub state_of_kind : ℕ → Float → Float → DiskState
state_of_kind kind price factor = cond (kind == 0) Away (cond (kind == 1) (Idle price) (cond (kind == 2) (Busy price factor) (Idle no_number)))

-- The state of a disk by its entries in the lists
abbrev pub state_told : List ℕ → List Float → List Float → ℕ → DiskState
state_told kinds prices factors disk = state_of_kind (slice_index_or kinds disk no_kind) (slice_index_or prices disk no_number) (slice_index_or factors disk no_number)

-- The states of `count` disks from `first` on
unfoldable pub states_from : (ℕ → DiskState) → ℕ → ℕ → List DiskState
states_from state first zero = []
states_from state first (suc count) = state first ∷ states_from state (suc first) count

-- The states of all disks that an array can have
abbrev pub states_told : List ℕ → List Float → List Float → List DiskState
states_told kinds prices factors = states_from (state_told kinds prices factors) 0 64

-- Whether what is told of a disk is enough: its kind is one of the three, and what it uses is there
unfoldable pub told_enough : List ℕ → List Float → List Float → ℕ → Bool
told_enough kinds prices factors disk =
    cond (slice_index_or kinds disk no_kind == 0) true
    (cond (slice_index_or kinds disk no_kind == 1) (nat_lt disk (length prices))
    (cond (slice_index_or kinds disk no_kind == 2) (nat_lt disk (length prices) && nat_lt disk (length factors)) false))

-- Where it isn't, no disk can be in the state
abbrev pub NoStateWhereMissing : List ℕ → List Float → List Float → List DiskState → Type 0
NoStateWhereMissing kinds prices factors states = (disk : ℕ) → disk < 64 → told_enough kinds prices factors disk ≡ false → is_state (state_of states disk) ≡ false

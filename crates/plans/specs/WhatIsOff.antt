-- What the place of refusal 21 says (document 02, §7): place / 64 is a row of the failed disk, in edition 3 a symbol number; place % 64 is a data symbol.
use Rattle.std.specs.Prelude.{◌≡◌, true, List, ℕ, ◌+◌, ◌*◌, ◌/◌, ◌%◌, ◌^◌, ◌≤◌, ◌<◌, length}
use Rattle.codes.specs.Codes.{LinearCode, symbols, matrix}
use Rattle.gf2.specs.Stripes.{AreBytes, symbol, Valid, pattern_stripe, run_on_stripe, SameSymbols}
use Rattle.plan_sheets.specs.PlanSheets.{Plan, steps_of}
use Rattle.plans.specs.Judgement.{survives, wanted_of, places_per_row, origin_of}

-- The stripe of a single data symbol: that symbol is L bytes of 01, all others are zero bytes
abbrev pub single_stripe : LinearCode → ℕ → ℕ → List ℕ
single_stripe code t L = pattern_stripe L code.data_symbols (matrix code) (2 ^ t)

-- The survivors hold a stripe, and the other places hold any bytes
pub record SurvivorsHold (code : LinearCode) (disks : List ℕ) (L : ℕ) (stripe x : List ℕ) : Type 0 where
  pub whole : length x ≡ symbols code * L
  pub bytes : AreBytes x
  pub same_survivors : SameSymbols L (survives code.layout disks) x stripe

-- Where the survivors hold a stripe, the plan's steps make its symbol s
abbrev pub ComesOutRight : LinearCode → List ℕ → Plan → ℕ → ℕ → List ℕ → Type 0
ComesOutRight code disks plan s L stripe =
    (x : List ℕ) → SurvivorsHold code disks L stripe x → symbol L (run_on_stripe L (steps_of plan) x) s ≡ symbol L stripe s

-- Where the survivors hold a stripe, they make something else
abbrev pub ComesOutWrong : LinearCode → List ℕ → Plan → ℕ → ℕ → List ℕ → Type 0
ComesOutWrong code disks plan s L stripe =
    (x : List ℕ) → SurvivorsHold code disks L stripe x → symbol L (run_on_stripe L (steps_of plan) x) s ≡ symbol L stripe s → ⊥

-- Symbol s is the lowest wanted one that comes out wrong for some valid stripe, and data symbol t the lowest whose stripe comes out wrong there
pub record Off (code : LinearCode) (disks : List ℕ) (plan : Plan) (s t : ℕ) : Type 0 where
  pub symbol_wanted : wanted_of code.layout disks plan.wanted s ≡ true
  pub data_symbol_below : t < code.data_symbols
  -- a wanted symbol before it comes out right for every valid stripe
  pub earlier_right : (s' : ℕ) → s' < s → wanted_of code.layout disks plan.wanted s' ≡ true
      → (L : ℕ) (stripe : List ℕ) → Valid L code.data_symbols (matrix code) stripe → ComesOutRight code disks plan s' L stripe
  -- symbol s comes out right for the stripe of a data symbol before t
  pub lower_right : (t' : ℕ) → t' < t → (L : ℕ) → ComesOutRight code disks plan s L (single_stripe code t' L)
  -- and wrong for the stripe of t, whatever the symbol length
  pub comes_out_wrong : (L : ℕ) → 1 ≤ L → ComesOutWrong code disks plan s L (single_stripe code t L)

-- What a place of 21 says of a plan
abbrev pub WhatIsOff : LinearCode → List ℕ → Plan → ℕ → Type 0
WhatIsOff code disks plan place = Off code disks plan (origin_of code.layout disks plan.head.edition + place / places_per_row) (place % places_per_row)

-- The first bytes of a plan sheet settle its head, its lists and its step count. Assumes nothing.
use mathlib.Core.Path.{◌≡◌, ap, ap₂, ◌∙◌}
use mathlib.Core.Bool.{Bool, true, false, cond}
use mathlib.Core.List.{List}
use Prim.Native.Nat.{ℕ, ◌+◌, ◌-◌, ◌*◌, ◌≤◌, ◌<◌}
use native.Mathlib.Omega.{arith}
use lib.Dec.{eqb}
use lib.ListN.{get_or, take, drop}
use lib.Seq.{take-take, get_or-take}
use Rattle.sheets.proofs.PartLaws.{drop_take}
use Rattle.plan_sheets.specs.PlanSheets.{ListPlace, Sections, reads_at, head_in, wanted_count_at, sections_in, list_at, steps_at, step_count_at, step_count}
use Rattle.plan_sheets.specs.InnerPlanSheets.{SmallPlace, SmallSections}
use Rattle.plan_sheets.proofs.ReadingLaws.{sections_small}

-- The read count stands among the first 7 bytes
reads_early : (edition : ℕ) → reads_at edition < 7
reads_early edition = by_edition (eqb edition 3)
  where
    by_edition : (third : Bool) → cond third 5 6 < 7
    by_edition true = omega arith
    by_edition false = omega arith

-- and the number of wanted symbols among the first 263
wanted_count_early : (edition failed : ℕ) → failed < 256 → wanted_count_at edition failed < 263
wanted_count_early edition failed few = by_edition (eqb edition 3)
  where
    by_edition : (third : Bool) → cond third (7 + failed) 7 < 263
    by_edition true = omega arith
    by_edition false = omega arith

module _ (plan : List ℕ) (bytes : (i : ℕ) → get_or plan i 0 < 256) where
  -- The lists end early
  pub lists_early : SmallSections (sections_in plan)
  lists_early = sections_small (get_or plan 1 0) (get_or plan 6 0) _ (bytes 6) (bytes (wanted_count_at (get_or plan 1 0) (get_or plan 6 0)))

  module _ (most : ℕ) (long : 521 ≤ most) where
    abbrev cut : List ℕ
    cut = take most plan

    byte_settled : (i : ℕ) → i < most → get_or cut i 0 ≡ get_or plan i 0
    byte_settled i h = get_or-take most plan i 0 h

    pub sections_settled : sections_in cut ≡ sections_in plan
    sections_settled =
        rw (
          byte_settled 1 (omega arith),
          byte_settled 6 (omega arith),
          byte_settled (wanted_count_at (get_or plan 1 0) (get_or plan 6 0)) (omega (arith, wanted_count_early (get_or plan 1 0) (get_or plan 6 0) (bytes 6))),
        )

    pub head_settled : head_in cut ≡ head_in plan
    head_settled =
        rw (
          byte_settled 0 (omega arith),
          byte_settled 1 (omega arith),
          byte_settled 2 (omega arith),
          byte_settled 3 (omega arith),
          byte_settled 4 (omega arith),
          byte_settled (reads_at (get_or plan 1 0)) (omega (arith, reads_early (get_or plan 1 0))),
        )

    pub steps_settled : step_count cut ≡ step_count plan
    steps_settled =
        let at = steps_at (sections_in plan) in
        let early = lists_early.wanted_small in
        ap (λ (sections : Sections). step_count_at sections cut) sections_settled
        ∙ ap₂ (λ (low high : ℕ). low + 256 * high) (byte_settled at (omega (arith, early))) (byte_settled (at + 1) (omega (arith, early)))

    -- A list that ends early is settled
    list_settled : (place : ListPlace) → SmallPlace place → list_at place cut ≡ list_at place plan
    list_settled place early =
        let first = place.first in
        let count = place.count in
        let whole : most ≡ first + (most - first) = omega (arith, early) in
        ap (λ (n : ℕ). take count (drop first (take n plan))) whole
        ∙ ap (take count) (drop_take first (most - first) plan)
        ∙ take-take count (most - first) (drop first plan) (omega (arith, early))

    pub failed_settled : list_at (sections_in cut).failed cut ≡ list_at (sections_in plan).failed plan
    failed_settled = ap (λ (sections : Sections). list_at sections.failed cut) sections_settled ∙ list_settled (sections_in plan).failed lists_early.failed_small

    pub wanted_settled : list_at (sections_in cut).wanted cut ≡ list_at (sections_in plan).wanted plan
    wanted_settled = ap (λ (sections : Sections). list_at sections.wanted cut) sections_settled ∙ list_settled (sections_in plan).wanted lists_early.wanted_small

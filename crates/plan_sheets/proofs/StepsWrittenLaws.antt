-- Laws of steps as they are written into a buffer, one after the other, and of the symbols that they read. Assumes nothing.
use mathlib.Core.Path.{◌≡◌, refl, sym, ap, ap₂, ◌∙◌, subst, fun_ext}
use mathlib.Core.Bool.{Bool, true, false, cond, ◌||◌, or_assoc, or-false}
use mathlib.Core.List.{List, [], ◌∷◌, ◌++◌, append-nil}
use Prim.Native.Nat.{ℕ, suc, ◌+◌, ◌-◌, ◌^◌, ◌≤◌, ◌<◌}
use native.Mathlib.Nat.{sub-zero}
use native.Mathlib.Numerals.{add-one}
use native.Mathlib.Omega.{arith}
use lib.Bits.{bit_or, or_lt}
use lib.ListN.{length, get_or, set, length-append}
use lib.Pow.{pow_pos}
use lib.Seq.{sets-eq}
use Rattle.bits.specs.BitSets.{has, count}
use Rattle.bits.specs.Lists.{symbols_in, count_from}
use Rattle.bits.proofs.Booleans.{bool_cases}
use Rattle.bits.proofs.CountLaws.{count_is_count_from}
use Rattle.bits.proofs.SetLaws.{has_empty, has_union}
use Rattle.gf2.specs.Plans.{NamesBelow, read_by_any}
use Rattle.gf2.specs.InnerSubsetPlans.{add_all, fill_from, plan_of}
use Rattle.gf2.specs.declared.Step.{Step}
use Rattle.gf2.specs.declared.Step.TheVariants.{Clear, Copy, Add}
use Rattle.gf2.proofs.SourceLaws.{read_by_any_append, fill_reads_subset}
use Rattle.sheets.specs.Buffers.{from_place}
use Rattle.sheets.proofs.BufferLaws.{from_place_nothing, length_from_place, from_place_append}
use Rattle.plan_sheets.specs.PlanSheets.{steps_length}
use Rattle.plan_sheets.specs.InnerPlanSheets.{step_bytes, steps_bytes, with_steps, StepsFit, plan_for, subset_plan, source_count, Tells}
use Rattle.plan_sheets.proofs.ReadBackLaws.{length_steps_bytes, steps_bytes_append}

-- ------------------------------------------------------------------
-- Steps in a buffer

-- Three stores are the bytes of one step
pub bytes_stored : (buffer : List ℕ) (number kind target source : ℕ) → steps_length (number + 1) ≤ length buffer
    → set (set (set buffer (steps_length number) kind) (steps_length number + 1) target) (steps_length number + 2) source
    ≡ from_place (steps_length number) (kind ∷ target ∷ source ∷ []) buffer
bytes_stored buffer number kind target source room =
    let at = steps_length number in
    let third : at + 2 ≡ suc (suc at) = omega arith in
    ap₂ (λ (m n : ℕ). set (set (set buffer at kind) m target) n source) (add-one at) third
    ∙ sets-eq (kind ∷ target ∷ source ∷ []) buffer at (omega arith)

-- Which is the buffer with that step
pub step_stored : (buffer : List ℕ) (number : ℕ) (step decoded : Step) → step ≡ decoded
    → from_place (steps_length number) (step_bytes decoded) buffer ≡ with_steps buffer number (step ∷ [])
unfolding with_steps steps_bytes
step_stored buffer number step decoded e =
    ap (λ (b : List ℕ). from_place (steps_length number) b buffer)
    (sym (append-nil (step_bytes decoded)) ∙ ap (λ (p : Step). step_bytes p ++ []) (sym e))

-- No steps leave the buffer as it is
with_steps_none : (buffer : List ℕ) (number : ℕ) → buffer ≡ with_steps buffer number []
unfolding with_steps steps_bytes
with_steps_none buffer number = from_place_nothing (steps_length number) buffer

-- Steps and others behind them are written one after the other
with_steps_append : (buffer : List ℕ) (number : ℕ) → steps_length number ≤ length buffer → (xs ys : List Step)
    → with_steps (with_steps buffer number xs) (number + length xs) ys ≡ with_steps buffer number (xs ++ ys)
unfolding with_steps
with_steps_append buffer number room xs ys =
    let at = steps_length number in
    let behind : steps_length (number + length xs) ≡ at + length (steps_bytes xs) = omega (arith, length_steps_bytes xs) in
    ap (λ (n : ℕ). from_place n (steps_bytes ys) (from_place at (steps_bytes xs) buffer)) behind
    ∙ from_place_append at (steps_bytes xs) (steps_bytes ys) buffer room
    ∙ ap (λ (b : List ℕ). from_place at b buffer) (sym (steps_bytes_append xs ys))

-- The buffer keeps its length
length_with_steps : (buffer : List ℕ) (number : ℕ) (steps : List Step) → steps_length (number + length steps) ≤ length buffer
    → length (with_steps buffer number steps) ≡ length buffer
unfolding with_steps
length_with_steps buffer number steps room = length_from_place (steps_length number) (steps_bytes steps) buffer (omega (arith, length_steps_bytes steps))

-- ------------------------------------------------------------------
-- Some steps written and the rest to come

-- Writing the rest from step `number` on leaves what writing all leaves of the buffer lent
pub record Remaining (lent : List ℕ) (start : ℕ) (all : List Step) (buffer : List ℕ) (number : ℕ) (rest : List Step) : Type 0 where
  pub same_length : length buffer ≡ length lent
  pub same_end : number + length rest ≡ start + length all
  pub fits : StepsFit number rest (length buffer)
  pub same_buffer : with_steps buffer number rest ≡ with_steps lent start all

-- Before the first step
pub remaining_all : (lent : List ℕ) (start : ℕ) (all : List Step) → StepsFit start all (length lent) → Remaining lent start all lent start all
remaining_all lent start all fits = record { same_length = refl; same_end = refl; fits = fits; same_buffer = refl }

module _ {lent : List ℕ} {start : ℕ} {all : List Step} {buffer : List ℕ} {number : ℕ} where
  -- What comes next has room
  pub next_fits : (xs rest : List Step) → Remaining lent start all buffer number (xs ++ rest) → StepsFit number xs (length buffer)
  next_fits xs rest reached =
      let sum = length-append xs rest in
      let within = reached.fits in
      record { few = omega arith; room = omega arith }

  -- Some steps more are written
  pub remaining_next : (xs rest : List Step) → Remaining lent start all buffer number (xs ++ rest)
      → {buffer' : List ℕ} {number' : ℕ} → buffer' ≡ with_steps buffer number xs → number' ≡ number + length xs
      → Remaining lent start all buffer' number' rest
  remaining_next xs rest reached {buffer'} {number'} written next =
      let sum = length-append xs rest in
      let within = reached.fits in
      let same : length buffer' ≡ length buffer = ap length written ∙ length_with_steps buffer number xs (omega arith) in
      record {
        same_length = same ∙ reached.same_length;
        same_end = omega (arith, reached.same_end);
        fits = record { few = omega arith; room = omega arith };
        same_buffer =
            ap₂ (λ (b : List ℕ) (n : ℕ). with_steps b n rest) written next
            ∙ with_steps_append buffer number (omega arith) xs rest ∙ reached.same_buffer;
      }

  -- None is left
  pub remaining_none : Remaining lent start all buffer number [] → (number ≡ start + length all) × (buffer ≡ with_steps lent start all)
  remaining_none reached = (omega (arith, reached.same_end), with_steps_none buffer number ∙ reached.same_buffer)

-- ------------------------------------------------------------------
-- The steps for one target

-- The steps for the places from one on: the first of the subset is copied unless one was
unfoldable pub fill_rest : Bool → ℕ → ℕ → ℕ → ℕ → List Step
fill_rest first t source count subset = cond first (fill_from t source count subset) (add_all t source count subset)

module _ (t symbols subset : ℕ) where
  -- At the start they are all
  fill_rest_all : fill_from t 0 symbols subset ≡ fill_rest true t 0 (symbols - 0) subset
  unfolding fill_rest
  fill_rest_all = rw sub-zero

  module _ (first : Bool) (source : ℕ) (l : source < symbols) where
    -- One is left, and those behind it
    one_left : symbols - source ≡ suc (symbols - (source + 1))
    one_left = omega arith

    -- A place of the subset has its step
    fill_rest_has : has subset source ≡ true
        → fill_rest first t source (symbols - source) subset
        ≡ cond first (Copy t source) (Add t source) ∷ fill_rest false t (source + 1) (symbols - (source + 1)) subset
    unfolding fill_rest fill_from add_all
    fill_rest_has q =
        bool_cases
        (λ c. cond c (fill_from t source (symbols - source) subset) (add_all t source (symbols - source) subset)
        ≡ cond c (Copy t source) (Add t source) ∷ add_all t (source + 1) (symbols - (source + 1)) subset)
        (rw (one_left, q, add-one)) (rw (one_left, q, add-one)) first

    -- Another has none
    fill_rest_lacks : has subset source ≡ false
        → fill_rest first t source (symbols - source) subset ≡ fill_rest first t (source + 1) (symbols - (source + 1)) subset
    unfolding fill_rest fill_from add_all
    fill_rest_lacks q =
        bool_cases
        (λ c. cond c (fill_from t source (symbols - source) subset) (add_all t source (symbols - source) subset)
        ≡ cond c (fill_from t (source + 1) (symbols - (source + 1)) subset) (add_all t (source + 1) (symbols - (source + 1)) subset))
        (rw (one_left, q, add-one)) (rw (one_left, q, add-one)) first

  -- Behind the last place there is a clear, where the subset is empty
  fill_rest_end : (first : Bool) (source : ℕ) → symbols ≤ source → fill_rest first t source (symbols - source) subset ≡ cond first (Clear t ∷ []) []
  unfolding fill_rest fill_from add_all
  fill_rest_end first source h =
      let none : symbols - source ≡ 0 = omega arith in
      rw none

-- The steps for the places passed are written, and those for the others remain
pub record TargetRemaining (t symbols subset : ℕ) (lent : List ℕ) (start : ℕ) (buffer : List ℕ) (first : Bool) (next source : ℕ) : Type 0 where
  pub steps_remain : Remaining lent start (fill_from t 0 symbols subset) buffer next (fill_rest first t source (symbols - source) subset)

-- At the start none is written
pub target_all : (t symbols subset : ℕ) (lent : List ℕ) (start : ℕ) → StepsFit start (fill_from t 0 symbols subset) (length lent)
    → TargetRemaining t symbols subset lent start lent true start 0
target_all t symbols subset lent start fits =
    record {
      steps_remain =
          subst (Remaining lent start (fill_from t 0 symbols subset) lent start) (fill_rest_all t symbols subset)
          (remaining_all lent start (fill_from t 0 symbols subset) fits);
    }

module _ {t symbols subset : ℕ} {lent : List ℕ} {start : ℕ} {buffer : List ℕ} {first : Bool} {next source : ℕ}
    (reached : TargetRemaining t symbols subset lent start buffer first next source) where
  abbrev steps : List Step
  steps = fill_from t 0 symbols subset

  -- What remains, where the steps that remain are these
  remain_as : {rest : List Step} → fill_rest first t source (symbols - source) subset ≡ rest → Remaining lent start steps buffer next rest
  remain_as e = subst (Remaining lent start steps buffer next) e reached.steps_remain

  -- A place of the subset: its step comes next
  module _ (l : source < symbols) (q : has subset source ≡ true) {step : Step} (e : step ≡ cond first (Copy t source) (Add t source)) where
    abbrev later : List Step
    later = fill_rest false t (source + 1) (symbols - (source + 1)) subset

    step_next : Remaining lent start steps buffer next ((step ∷ []) ++ later)
    step_next = remain_as (fill_rest_has t symbols subset first source l q ∙ ap (λ (p : Step). p ∷ later) (sym e))

    pub target_step_fits : StepsFit next (step ∷ []) (length buffer)
    target_step_fits = next_fits (step ∷ []) later step_next

    pub target_step : {buffer' : List ℕ} {first' : Bool} {next' : ℕ} → buffer' ≡ with_steps buffer next (step ∷ []) → first' ≡ false → next' ≡ next + 1
        → TargetRemaining t symbols subset lent start buffer' first' next' (source + 1)
    target_step {buffer'} {first'} {next'} written filled counted =
        subst (λ (c : Bool). TargetRemaining t symbols subset lent start buffer' c next' (source + 1)) (sym filled)
        (record { steps_remain = remaining_next (step ∷ []) later step_next written counted })

  -- Any other place has no step
  pub target_skip : source < symbols → has subset source ≡ false → TargetRemaining t symbols subset lent start buffer first next (source + 1)
  target_skip l q = record { steps_remain = remain_as (fill_rest_lacks t symbols subset first source l q) }

  module _ (h : symbols ≤ source) where
    -- Behind the last place, where none was written, a clear comes next
    clear_next : first ≡ true → Remaining lent start steps buffer next ((Clear t ∷ []) ++ [])
    clear_next e = remain_as (fill_rest_end t symbols subset first source h ∙ ap (λ (c : Bool). cond c (Clear t ∷ []) []) e)

    pub target_clear_fits : first ≡ true → StepsFit next (Clear t ∷ []) (length buffer)
    target_clear_fits e = next_fits (Clear t ∷ []) [] (clear_next e)

    pub target_clear : first ≡ true → {buffer' : List ℕ} → buffer' ≡ with_steps buffer next (Clear t ∷ [])
        → (next + 1 ≡ start + length steps) × (buffer' ≡ with_steps lent start steps)
    target_clear e written = remaining_none (remaining_next (Clear t ∷ []) [] (clear_next e) written refl)

    -- and where some were, that is all
    pub target_end : first ≡ false → (next ≡ start + length steps) × (buffer ≡ with_steps lent start steps)
    target_end e = remaining_none (remain_as (fill_rest_end t symbols subset first source h ∙ ap (λ (c : Bool). cond c (Clear t ∷ []) []) e))

-- The steps that fill a target name the target and the source
pub fill_names_below : (bound : ℕ) (first : Bool) {t s : ℕ} {step : Step} → step ≡ cond first (Copy t s) (Add t s) → t < bound → s < bound → NamesBelow bound step
fill_names_below bound first {t} {s} e t_below s-below =
    subst (NamesBelow bound) (sym e) (bool_cases (λ c. NamesBelow bound (cond c (Copy t s) (Add t s))) (t_below, s-below) (t_below, s-below) first)

-- ------------------------------------------------------------------
-- The sources of all steps

-- A set and the sources of the steps that remain are the sources of all
pub record SourcesRemain (count : ℕ) (all : List Step) (sources : ℕ) (rest : List Step) : Type 0 where
  pub below : sources < 2 ^ count
  pub same : (s : ℕ) → (has sources s || read_by_any s rest) ≡ read_by_any s all

-- Before the first step the set is empty
pub sources_none : (count : ℕ) (all : List Step) → SourcesRemain count all 0 all
sources_none count all = record { below = pow_pos count; same = λ s. ap (λ (c : Bool). c || read_by_any s all) (has_empty s) }

-- When the steps for a target are done, its subset is in the set
pub sources_next : {all rest : List Step} (t count subset sources : ℕ) → subset < 2 ^ count
    → SourcesRemain count all sources (fill_from t 0 count subset ++ rest) → {sources' : ℕ} → sources' ≡ bit_or sources subset
    → SourcesRemain count all sources' rest
sources_next {all} {rest} t count subset sources below reached {sources'} e =
    record {
      below = subst (λ (x : ℕ). x < 2 ^ count) (sym e) (or_lt count sources subset reached.below below);
      same = same_sources;
    }
  where
    same_sources : (s : ℕ) → (has sources' s || read_by_any s rest) ≡ read_by_any s all
    same_sources s =
        ap (λ (x : ℕ). has x s || read_by_any s rest) e
        ∙ ap (λ (c : Bool). c || read_by_any s rest) (has_union sources subset s)
        ∙ or_assoc (has sources s) (has subset s) (read_by_any s rest)
        ∙ ap (λ (c : Bool). has sources s || (c || read_by_any s rest)) (sym (fill_reads_subset subset s t count below))
        ∙ ap (λ (c : Bool). has sources s || c) (sym (read_by_any_append s (fill_from t 0 count subset) rest))
        ∙ reached.same s

-- When all are done, the set has the sources of all
pub sources_end : {count : ℕ} {all : List Step} {sources : ℕ} → SourcesRemain count all sources [] → (s : ℕ) → has sources s ≡ read_by_any s all
unfolding read_by_any
sources_end {sources = sources} reached s = sym (or-false (has sources s)) ∙ reached.same s

-- Its count is the number of symbols that the steps name as a source
pub count_is_source_count : (symbols : ℕ) (steps : List Step) (sources : ℕ) → sources < 2 ^ symbols
    → ((s : ℕ) → has sources s ≡ read_by_any s steps) → count sources ≡ source_count symbols steps
count_is_source_count symbols steps sources below same = count_is_count_from symbols sources below ∙ ap (λ (test : ℕ → Bool). count_from test 0 symbols) (fun_ext same)

-- ------------------------------------------------------------------
-- The steps for all targets

-- The plan for the wanted symbols from one on
abbrev pub plan_from : List ℕ → ℕ → (ℕ → Bool) → ℕ → List Step
plan_from subsets symbols wanted target = plan_for subsets symbols (symbols_in wanted target (symbols - target))

module _ (subsets : List ℕ) (symbols : ℕ) (wanted : ℕ → Bool) where
  -- From the first symbol on it is the whole plan
  plan_from_all : subset_plan symbols wanted subsets ≡ plan_from subsets symbols wanted 0
  plan_from_all = rw sub-zero

  module _ (target : ℕ) (l : target < symbols) where
    left_from : symbols - target ≡ suc (symbols - (target + 1))
    left_from = omega arith

    -- It begins with the steps for a symbol that is wanted
    plan_from_next : wanted target ≡ true
        → plan_from subsets symbols wanted target ≡ fill_from target 0 symbols (get_or subsets target 0) ++ plan_from subsets symbols wanted (target + 1)
    unfolding plan_of symbols_in
    plan_from_next q = rw (left_from, q, add-one)

    -- Any other has none
    plan_from_skip : wanted target ≡ false → plan_from subsets symbols wanted target ≡ plan_from subsets symbols wanted (target + 1)
    unfolding plan_of symbols_in
    plan_from_skip q = rw (left_from, q, add-one)

  -- Behind the last symbol it is empty
  plan_from_end : (target : ℕ) → symbols ≤ target → plan_from subsets symbols wanted target ≡ []
  unfolding plan_of symbols_in
  plan_from_end target h =
      let none : symbols - target ≡ 0 = omega arith in
      rw none

-- The steps for the symbols passed are written and their sources gathered, and those for the others remain
pub record PlanRemaining (subsets : List ℕ) (symbols : ℕ) (wanted : ℕ → Bool) (lent buffer : List ℕ) (sources number target : ℕ) : Type 0 where
  pub steps_remain : Remaining lent 0 (subset_plan symbols wanted subsets) buffer number (plan_from subsets symbols wanted target)
  pub sources_remain : SourcesRemain symbols (subset_plan symbols wanted subsets) sources (plan_from subsets symbols wanted target)

-- At the start none is written
pub plan_all : (subsets : List ℕ) (symbols : ℕ) (wanted : ℕ → Bool) (lent : List ℕ)
    → StepsFit 0 (subset_plan symbols wanted subsets) (length lent) → PlanRemaining subsets symbols wanted lent lent 0 0 0
plan_all subsets symbols wanted lent fits =
    let plan = subset_plan symbols wanted subsets in
    let all = plan_from_all subsets symbols wanted in
    record {
      steps_remain = subst (Remaining lent 0 plan lent 0) all (remaining_all lent 0 plan fits);
      sources_remain = subst (SourcesRemain symbols plan 0) all (sources_none symbols plan);
    }

module _ {subsets : List ℕ} {symbols : ℕ} (wanted : ℕ → Bool) {lent buffer : List ℕ} {sources number target : ℕ}
    (reached : PlanRemaining subsets symbols wanted lent buffer sources number target) where
  abbrev plan : List Step
  plan = subset_plan symbols wanted subsets

  -- What remains, where the steps that remain are these
  rest_as : {rest : List Step} → plan_from subsets symbols wanted target ≡ rest
      → Remaining lent 0 plan buffer number rest × SourcesRemain symbols plan sources rest
  rest_as e = (subst (Remaining lent 0 plan buffer number) e reached.steps_remain, subst (SourcesRemain symbols plan sources) e reached.sources_remain)

  -- The steps for a wanted symbol come next
  module _ (l : target < symbols) (q : wanted target ≡ true) {subset : ℕ} (e : subset ≡ get_or subsets target 0) where
    abbrev here : List Step
    here = fill_from target 0 symbols subset

    abbrev behind : List Step
    behind = plan_from subsets symbols wanted (target + 1)

    here_next : Remaining lent 0 plan buffer number (here ++ behind) × SourcesRemain symbols plan sources (here ++ behind)
    here_next = rest_as (plan_from_next subsets symbols wanted target l q ∙ ap (λ (set : ℕ). fill_from target 0 symbols set ++ behind) (sym e))

    pub plan_fits : StepsFit number here (length buffer)
    plan_fits = next_fits here behind here_next.0

    pub plan_next : get_or subsets target 0 < 2 ^ symbols → {buffer' : List ℕ} {sources' number' : ℕ} → buffer' ≡ with_steps buffer number here
        → sources' ≡ bit_or sources subset → number' ≡ number + length here
        → PlanRemaining subsets symbols wanted lent buffer' sources' number' (target + 1)
    plan_next below written gathered counted =
        record {
          steps_remain = remaining_next here behind here_next.0 written counted;
          sources_remain = sources_next target symbols subset sources (rw e below) here_next.1 gathered;
        }

  -- Any other symbol has no step
  pub plan_skip : target < symbols → wanted target ≡ false → PlanRemaining subsets symbols wanted lent buffer sources number (target + 1)
  plan_skip l q =
      let rest = rest_as (plan_from_skip subsets symbols wanted target l q) in
      record { steps_remain = rest.0; sources_remain = rest.1 }

  module _ (h : symbols ≤ target) where
    -- Behind the last symbol all are written
    pub plan_written : (number ≡ length plan) × (buffer ≡ with_steps lent 0 plan)
    plan_written =
        let end = remaining_none (rest_as (plan_from_end subsets symbols wanted target h)).0 in
        (omega arith, end.1)

    -- and their number and sources can be told
    pub plan_told : Tells symbols plan number sources
    plan_told =
        record {
          count_is = plan_written.0;
          sources_below = reached.sources_remain.below;
          sources_are = sources_end (rest_as (plan_from_end subsets symbols wanted target h)).1;
        }

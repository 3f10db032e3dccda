-- Steps from sets of survivors read those sets alone, and swaps keep the sets right. Assumes nothing.
use mathlib.Core.Path.{◌≡◌, refl, sym, ap, ap₂, ◌∙◌, subst, fun_ext}
use mathlib.Core.Bool.{Bool, true, false, cond, not, true≢false}
use mathlib.Core.List.{List, [], ◌∷◌, Memᴰ}
use Prim.Native.Nat.{ℕ, zero, suc, ◌+◌, ◌^◌, ◌≤◌, ◌<◌}
use native.Mathlib.Nat.{pow-succ'}
use native.Mathlib.Omega.{arith}
use lib.Bits.{bit_xor, xor_lt, xor_zero_r}
use lib.Ieee.{Float, lt}
use lib.ListN.{length, get_or}
use Rattle.bits.specs.BitSets.{has}
use Rattle.bits.proofs.Booleans.{or_true_if_left, or_true_if_right}
use Rattle.bits.proofs.ListLaws.{in_symbols_in}
use Rattle.bits.proofs.SetLaws.{has_empty, has_sum, below_if_no_high_bits}
use Rattle.codes.specs.Codes.{LinearCode, symbols, matrix}
use Rattle.gf2.specs.InnerSubsetPlans.{fill_from, plan_of}
use Rattle.gf2.specs.Plans.{Within, read_by_any}
use Rattle.gf2.specs.Selection.{select}
use Rattle.gf2.specs.declared.Step.{Step}
use Rattle.gf2.proofs.SelectionLaws.{select_linear}
use Rattle.gf2.proofs.SourceLaws.{read_by_any_append, fill_reads_subset}
use Rattle.plan_requests.specs.PlanRequests.{Asked, asked_symbols}
use Rattle.planning.specs.InnerPlan.{steps_found}
use Rattle.planning.specs.InnerWork.{Workable, RightSets}
use Rattle.planning.proofs.WorkLaws.{source_known, asked_is_lost}
use Rattle.plans.specs.Judgement.{survives}
use Rattle.plans.proofs.JudgementLaws.{lost_below, survives_below}
use Rattle.prices.specs.Prices.{sum_of}
use Rattle.prices.specs.declared.DiskState.{DiskState}
use Rattle.soundness.specs.Survivors.{EquationsFor, survivor_equations}
use Rattle.swaps.specs.Swaps.{read_by, AfterSwaps, Settled}
use Rattle.swaps.proofs.SwapLaws.{kept_by_swaps}
use Rattle.swaps.proofs.UnionLaws.{read_if_in_set, set_with}
use Rattle.priced_planner.specs.PricedPlanner.{EachSumsTo, steps_by_sets, cost_of_steps, swap_terms, BySwaps}
use Rattle.priced_planner.proofs.SymbolListLaws.{same_if_both}

-- ------------------------------------------------------------------
-- What steps from sets read

-- They read each symbol of each target's set
reads_target : (subset : ℕ → ℕ) (count : ℕ) (targets : List ℕ) (t s : ℕ) → ((u : ℕ) → subset u < 2 ^ count) → Memᴰ t targets → has (subset t) s ≡ true
    → read_by_any s (plan_of subset count targets) ≡ true
unfolding plan_of
reads_target subset count (u ∷ us) t s below (Memᴰ.head same) chosen =
    read_by_any_append s (fill_from u 0 count (subset u)) (plan_of subset count us)
    ∙ or_true_if_left (read_by_any s (fill_from u 0 count (subset u))) (read_by_any s (plan_of subset count us))
    (fill_reads_subset (subset u) s u count (below u) ∙ subst (λ (v : ℕ). has (subset v) s ≡ true) same chosen)
reads_target subset count (u ∷ us) t s below (Memᴰ.tail m) chosen =
    read_by_any_append s (fill_from u 0 count (subset u)) (plan_of subset count us)
    ∙ or_true_if_right (read_by_any s (fill_from u 0 count (subset u))) (read_by_any s (plan_of subset count us)) (reads_target subset count us t s below m chosen)
reads_target subset count [] t s below there chosen = elim there [ ]

-- A number is below that power of two
below_power : (n : ℕ) → n < 2 ^ n
below_power zero = omega arith
below_power (suc n) = omega (arith, below_power n, pow-succ' 2 n)

module _ (code : LinearCode) (asked : Asked) {room : ℕ} (workable : Workable code asked room) where
  -- Wanted symbols are symbols of the array
  pub wanted_below : (t : ℕ) → asked_symbols code asked t ≡ true → t < symbols code
  wanted_below t is_wanted = lost_below code.layout asked.disks t (asked_is_lost code asked workable t is_wanted)

  -- Each wanted symbol has its set
  sums_if_right : {sets : List ℕ} → RightSets code asked sets → EachSumsTo code asked sets
  sums_if_right right t is_wanted = record { alive = right.alive t; sums = right.sums t is_wanted }

  -- The steps read the symbols of the sets and no other
  steps_read_sets : (sets : List ℕ) → RightSets code asked sets → (s : ℕ) → read_by_any s (steps_by_sets code asked sets) ≡ has (read_by sets) s
  steps_read_sets sets right s =
      same_if_both (read_by_any s (steps_by_sets code asked sets)) (has (read_by sets) s)
      (source_known (has (read_by sets)) (λ t. get_or sets t 0) (symbols code) _ s right.below (λ t u chosen. read_if_in_set sets t u chosen))
      (λ read.
      let found = set_with sets s read in
      let is_wanted = wanted_if_used found.place s found.has_it in
      reads_target (λ t. get_or sets t 0) (symbols code) _ found.place s right.below
      (in_symbols_in (asked_symbols code asked) 0 (symbols code) found.place (omega arith) (omega (arith, wanted_below found.place is_wanted)) is_wanted) found.has_it)
    where
      wanted_if_used : (t u : ℕ) → has (get_or sets t 0) u ≡ true → asked_symbols code asked t ≡ true
      wanted_if_used t u used = by_wish (asked_symbols code asked t) refl
        where
          by_wish : (c : Bool) → asked_symbols code asked t ≡ c → c ≡ true
          by_wish true q = refl
          by_wish false q = absurd (true≢false (sym used ∙ ap (λ (set : ℕ). has set u) (right.others_empty t q) ∙ has_empty u))

  -- So what they cost is the sets' cost
  steps_cost : (states : List DiskState) (sets : List ℕ) → RightSets code asked sets
      → cost_of_steps code states (steps_by_sets code asked sets) ≡ sum_of code.layout states (has (read_by sets))
  steps_cost states sets right = ap (sum_of code.layout states) (fun_ext (steps_read_sets sets right))

  -- ------------------------------------------------------------------
  -- Swaps keep the sets right

  module _ (equal : EquationsFor code asked.disks (survivor_equations code asked.disks)) where
    abbrev equations : List ℕ
    equations = survivor_equations code asked.disks

    -- An equation is a set of the array's symbols
    equation_below : (e : ℕ) → e < length equations → get_or equations e 0 < 2 ^ symbols code
    equation_below e listed =
        let equation = get_or equations e 0 in
        below_if_no_high_bits (symbols code) (symbols code + equation) equation (omega arith) (wide equation) (λ bit behind h. by_place bit behind (has equation bit) refl)
      where
        wide : (n : ℕ) → n < 2 ^ (symbols code + n)
        wide n = omega (arith, below_power (symbols code + n))

        by_place : (bit : ℕ) → symbols code ≤ bit → (c : Bool) → has (get_or equations e 0) bit ≡ c → c ≡ false
        by_place bit behind true q = absurd (omega (arith, survives_below code.layout asked.disks bit (equal.among_known e listed bit q), behind))
        by_place bit behind false q = refl

    -- What holds of the set of a symbol
    abbrev Right : ℕ → ℕ → Type 0
    Right t set =
        (set < 2 ^ symbols code) × Within (has set) (survives code.layout asked.disks)
        × (asked_symbols code asked t ≡ true → select (matrix code) set ≡ get_or (matrix code) t 0) × (asked_symbols code asked t ≡ false → set ≡ 0)

    one_swap_keeps : (t set e : ℕ) → asked_symbols code asked t ≡ true → e < length equations → Right t set → Right t (bit_xor set (get_or equations e 0))
    one_swap_keeps t set e is_wanted listed right =
        let equation = get_or equations e 0 in (
          xor_lt (symbols code) set equation right.0 (equation_below e listed),
          λ s chosen. by_place s (has equation s) refl (sym (has_sum set equation s) ∙ chosen),
          λ yes. (select_linear (matrix code)).of_sum set equation ∙ ap₂ bit_xor (right.2 yes) (equal.rows_sum_to_zero e listed) ∙ xor_zero_r (get_or (matrix code) t 0),
          λ no. absurd (true≢false (sym is_wanted ∙ no)),
        )
      where
        by_place : (s : ℕ) (c : Bool) → has (get_or equations e 0) s ≡ c → cond (has (get_or equations e 0) s) (not (has set s)) (has set s) ≡ true
            → survives code.layout asked.disks s ≡ true
        by_place s true q chosen = equal.among_known e listed s q
        by_place s false q chosen = right.1 s (sym (ap (λ (c : Bool). cond c (not (has set s)) (has set s)) q) ∙ chosen)

    swaps_keep_right : {states : List DiskState} {start final : List ℕ} {swaps : ℕ} → RightSets code asked start → AfterSwaps (swap_terms code asked states) start swaps final
        → RightSets code asked final
    swaps_keep_right right made =
        let kept = kept_by_swaps Right one_swap_keeps (λ t. (right.below t, right.alive t, right.sums t, right.others_empty t)) made in
        record {
          below = λ t. (kept t).0;
          alive = λ t. (kept t).1;
          sums = λ t. (kept t).2;
          others_empty = λ t. (kept t).3;
        }

    -- ------------------------------------------------------------------
    -- The final sets and their plan

    module _ (states : List DiskState) {start final : List ℕ} {sum : Float} {swaps : ℕ} {settled : Bool} (right : RightSets code asked start)
        (settling : Settled (swap_terms code asked states) start final sum swaps settled) where
      pub final_right : RightSets code asked final
      final_right = swaps_keep_right right settling.made

      pub steps_by_swaps : steps_by_sets code asked start ≡ steps_found code asked → BySwaps code asked states (steps_by_sets code asked final) sum settled
      steps_by_swaps start_is =
          record {
            start = start;
            start_sums = sums_if_right right;
            start_steps = start_is;
            final = final;
            final_sums = sums_if_right final_right;
            swaps = swaps;
            settling = settling;
            final_steps = refl;
            reads_final = steps_read_sets final final_right;
            sum_is = settling.cost_is ∙ sym (steps_cost states final final_right);
            never_dearer =
                ap (λ (steps : List Step). lt (cost_of_steps code states steps) sum) (sym start_is)
                ∙ ap (λ (x : Float). lt x sum) (steps_cost states start right)
                ∙ settling.never_dearer;
          }

-- What is workable for the disks asked about is workable with the away disks lost and the wanted symbols listed one by one. Assumes nothing.
use mathlib.Core.Path.{◌≡◌, refl, sym, ap, ◌∙◌, subst}
use mathlib.Core.Bool.{Bool, true, false, cond, ◌&&◌, true≢false}
use mathlib.Core.List.{List, [], ◌∷◌, Memᴰ}
use Prim.Native.Nat.{ℕ, zero, suc, ◌-◌, ◌≤◌, ◌<◌}
use native.Mathlib.Nat.{le_refl}
use native.Mathlib.Omega.{arith}
use borrow.Author.Tests.{ltb-true, lt-ltb, eqb-true, eqb-false, eq-eqb}
use lib.Dec.{eqb, ltb}
use lib.ListN.{length, get_or}
use Rattle.bits.specs.Lists.{symbols_in}
use Rattle.bits.proofs.Booleans.{and_left, and_right, and_true_if_both, or_true_if_left, or_true_if_right}
use Rattle.bits.proofs.CountLaws.{count_from_all, count_from_within, length_symbols_in}
use Rattle.bits.proofs.ListLaws.{in_symbols_in}
use Rattle.codes.specs.Codes.{LinearCode}
use Rattle.codes.specs.Layouts.{symbols_of, disk_of, first_symbol}
use Rattle.codes.specs.declared.Layout.{Layout}
use Rattle.codes.proofs.LayoutLaws.{strip_within, height_of_positive, on_disk_above, on_disk_of}
use Rattle.lists.specs.Lists.{listed, GoodList}
use Rattle.lists.proofs.ListLaws.{listed_passes}
use Rattle.priced_planner.specs.PricedPlanner.{is_lost, lost_disks, wanted_list, asked_with_away}
use Rattle.priced_planner.proofs.SymbolListLaws.{entry_between, entries_rise, listed_symbols_in}
use Rattle.plan_requests.specs.PlanRequests.{listed_on_set, asked_symbols}
use Rattle.plan_sheets.specs.InnerPlanSheets.{Third}
use Rattle.planning.specs.InnerWork.{Workable}
use Rattle.plans.specs.Judgement.{lost, lost_count, wanted_of}
use Rattle.plans.proofs.JudgementLaws.{lost_below, wanted_is_lost}
use Rattle.prices.specs.Prices.{state_of, is_away}
use Rattle.prices.specs.declared.DiskState.{DiskState}

-- ------------------------------------------------------------------
-- Lists of those that pass a test

-- A list with a member is not empty
some_if_member : (list : List ℕ) (s : ℕ) → Memᴰ s list → 1 ≤ length list
some_if_member (entry ∷ list) s (Memᴰ.head same) = omega arith
some_if_member (entry ∷ list) s (Memᴰ.tail m) = omega arith
some_if_member [] s there = elim there [ ]

-- An entry of a list is listed
listed_entry : (list : List ℕ) (i : ℕ) → i < length list → listed list (get_or list i 0) ≡ true
unfolding listed
listed_entry [] i h = absurd (omega arith)
listed_entry (entry ∷ list) zero h = or_true_if_left (eqb entry entry) (listed list entry) (eq-eqb entry entry refl)
listed_entry (entry ∷ list) (suc i) h = or_true_if_right (eqb (get_or list i 0) entry) (listed list (get_or list i 0)) (listed_entry list i (omega arith))

-- A test that another implies may be left out beside it
and_if_implied : (a b : Bool) → (b ≡ true → a ≡ true) → (a && b) ≡ b
and_if_implied true b h = refl
and_if_implied false true h = absurd (true≢false (sym (h refl)))
and_if_implied false false h = refl

-- A list of those below a bound that pass keeps the rules of lists
good_symbols : (test allowed : ℕ → Bool) (count least most : ℕ) → least ≤ length (symbols_in test 0 count) → length (symbols_in test 0 count) ≤ most
    → ((s : ℕ) → s < count → test s ≡ true → allowed s ≡ true) → GoodList least most allowed (symbols_in test 0 count)
good_symbols test allowed count least most from to allows =
    record {
      count_from = from;
      count_to = to;
      each_allowed =
          λ i h.
          let b = entry_between test 0 count i h in
          allows _ (omega (arith, b.to)) b.passes;
      rises = λ i some h. by_place i some h;
    }
  where
    by_place : (i : ℕ) → 1 ≤ i → i < length (symbols_in test 0 count) → get_or (symbols_in test 0 count) (i - 1) 0 < get_or (symbols_in test 0 count) i 0
    by_place zero some h = absurd (omega arith)
    by_place (suc i) some h =
        let one_less : suc i - 1 ≡ i = omega arith in
        subst (λ (j : ℕ). get_or (symbols_in test 0 count) j 0 < get_or (symbols_in test 0 count) (suc i) 0) (sym one_less) (entries_rise test 0 count i h)

-- No more pass than there are
few_symbols : (test : ℕ → Bool) (count : ℕ) → length (symbols_in test 0 count) ≤ count
few_symbols test count =
    omega (
      arith,
      length_symbols_in test 0 count,
      count_from_within test (λ (s : ℕ). true) (λ s h. refl) 0 count,
      count_from_all (λ (s : ℕ). true) 0 count (λ s a b. refl),
    )

-- ------------------------------------------------------------------
-- With the away disks

module _ (code : LinearCode) (disks list : List ℕ) (states : List DiskState) {room : ℕ} (workable : Workable code (listed_on_set disks list) room) where
  abbrev layout : Layout
  layout = code.layout

  -- A disk asked about is one of the array's
  asked_below : (d : ℕ) → listed disks d ≡ true → d < layout.disks
  asked_below d h = ltb-true d layout.disks (listed_passes disks (λ e. ltb e layout.disks) workable.disks_good.each_allowed d h)

  -- and it is lost with the away ones
  pub asked_stays_lost : (d : ℕ) → listed disks d ≡ true → listed (lost_disks layout disks states) d ≡ true
  asked_stays_lost d h =
      listed_symbols_in (is_lost disks states layout.disks) layout.disks d
      ∙ and_true_if_both (ltb d layout.disks) (is_lost disks states layout.disks d) (lt-ltb d layout.disks (asked_below d h))
      (or_true_if_left (listed disks d) (ltb d layout.disks && is_away (state_of states d)) h)

  -- Symbols that are lost stay lost
  lost_stays : (s : ℕ) → lost layout disks s ≡ true → lost layout (lost_disks layout disks states) s ≡ true
  lost_stays s h =
      and_true_if_both (ltb s (symbols_of layout)) (listed (lost_disks layout disks states) (disk_of layout s)) (and_left (ltb s (symbols_of layout)) (listed disks (disk_of layout s)) h)
      (asked_stays_lost (disk_of layout s) (and_right (ltb s (symbols_of layout)) (listed disks (disk_of layout s)) h))

  wanted_lost : (s : ℕ) → wanted_of layout disks list s ≡ true → lost layout disks s ≡ true
  wanted_lost = wanted_is_lost layout disks list workable.list_good

  -- The first disk asked about
  abbrev first : ℕ
  first = get_or disks 0 0

  first_listed : listed disks first ≡ true
  first_listed = listed_entry disks 0 workable.disks_good.count_from

  -- ------------------------------------------------------------------
  -- What is asked with them is workable

  pub workable_with_away : Workable code (asked_with_away code (listed_on_set disks list) states) room
  workable_with_away =
      record {
        within = workable.within;
        disks_good =
            good_symbols (is_lost disks states layout.disks) (λ d. ltb d layout.disks) layout.disks 1 layout.disks
            (some_if_member _ first
            (in_symbols_in (is_lost disks states layout.disks) 0 layout.disks first (omega arith) (omega (arith, asked_below first first_listed))
            (or_true_if_left (listed disks first) (ltb first layout.disks && is_away (state_of states first)) first_listed)))
            (few_symbols (is_lost disks states layout.disks) layout.disks) (λ d below h. lt-ltb d layout.disks below);
        edition_fits = Third refl;
        list_good =
            good_symbols (wanted_of layout disks list) (lost layout (lost_disks layout disks states)) (symbols_of layout) 0 (lost_count layout (lost_disks layout disks states)) (omega arith)
            (omega (
              arith,
              length_symbols_in (wanted_of layout disks list) 0 (symbols_of layout),
              count_from_within (wanted_of layout disks list) (lost layout (lost_disks layout disks states)) (λ s h. lost_stays s (wanted_lost s h)) 0 (symbols_of layout),
            ))
            (λ s below h. lost_stays s (wanted_lost s h));
        room = workable.room;
      }

  -- ------------------------------------------------------------------
  -- It wants what was asked

  -- The first symbol of a lost disk is lost
  first_symbol_lost : lost layout disks (first_symbol layout first) ≡ true
  first_symbol_lost =
      let s = first_symbol layout first in
      let height = height_of_positive layout first workable.within.height_from in
      let on_first = sym (on_disk_of layout workable.within.height_from first s) ∙ on_disk_above layout first s (le_refl s) ∙ lt-ltb s _ (omega (arith, height)) in
      and_true_if_both (ltb s (symbols_of layout)) (listed disks (disk_of layout s))
      (lt-ltb s (symbols_of layout) (omega (arith, height, strip_within layout first (asked_below first first_listed))))
      (ap (listed disks) (eqb-true (disk_of layout s) first on_first) ∙ first_listed)

  -- Some symbol is wanted
  some_wanted : 1 ≤ length (wanted_list layout disks list)
  some_wanted = by_list (eqb (length list) 0) refl
    where
      among : (s : ℕ) → wanted_of layout disks list s ≡ true → 1 ≤ length (wanted_list layout disks list)
      among s h =
          some_if_member (wanted_list layout disks list) s
          (in_symbols_in (wanted_of layout disks list) 0 (symbols_of layout) s (omega arith) (omega (arith, lost_below layout disks s (wanted_lost s h))) h)

      by_list : (none : Bool) → eqb (length list) 0 ≡ none → 1 ≤ length (wanted_list layout disks list)
      by_list true q =
          among (first_symbol layout first)
          (ap (λ (c : Bool). cond c (lost layout disks (first_symbol layout first)) (listed list (first_symbol layout first))) q ∙ first_symbol_lost)
      by_list false q =
          let first_entry = get_or list 0 0 in
          let some : 0 < length list = not_zero (length list) (eqb-false (length list) 0 q) in
          among first_entry (ap (λ (c : Bool). cond c (lost layout disks first_entry) (listed list first_entry)) q ∙ listed_entry list 0 some)
        where
          not_zero : (n : ℕ) → (n ≡ 0 → ⊥) → 0 < n
          not_zero n h = omega arith

  pub wants_as_asked : (s : ℕ) → asked_symbols code (asked_with_away code (listed_on_set disks list) states) s ≡ asked_symbols code (listed_on_set disks list) s
  wants_as_asked s =
      let all = wanted_list layout disks list in
      ap (λ (c : Bool). cond c (lost layout (lost_disks layout disks states) s) (listed all s)) (neq_eqb (length all) (omega (arith, some_wanted)))
      ∙ listed_symbols_in (wanted_of layout disks list) (symbols_of layout) s
      ∙ and_if_implied (ltb s (symbols_of layout)) (wanted_of layout disks list s) (λ h. lt-ltb s (symbols_of layout) (lost_below layout disks s (wanted_lost s h)))
    where
      neq_eqb : (n : ℕ) → 1 ≤ n → eqb n 0 ≡ false
      neq_eqb n h = by_test (eqb n 0) refl
        where
          by_test : (c : Bool) → eqb n 0 ≡ c → c ≡ false
          by_test true q = absurd (omega (arith, eqb-true n 0 q, h))
          by_test false q = refl

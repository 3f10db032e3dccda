-- Laws of the head as it is written, and of the sheet that the steps behind it make with it. Assumes nothing.
use mathlib.Core.Path.{◌≡◌, sym, ap, ap₂, ◌∙◌}
use mathlib.Core.Bool.{Bool, true, false, cond}
use mathlib.Core.List.{List, [], ◌∷◌, ◌++◌, append_assoc, append-nil}
use Prim.Native.Nat.{ℕ, ◌+◌, ◌-◌, ◌/◌, ◌%◌, ◌≤◌, ◌<◌}
use borrow.Author.Tests.{ne_eqb}
use native.Mathlib.Omega.{arith}
use lib.Dec.{eqb}
use lib.ListN.{length, get_or, set, take, drop, length-append, length-drop}
use lib.Seq.{sets, sets-eq, drop_at, drop-length, drop-drop, length-take-le}
use borrow.Rule.Slice.PartMut.{put_mid, Post-is}
use Rattle.bits.specs.BitSets.{count}
use Rattle.bits.specs.Numerals.{set_width}
use Rattle.bits.proofs.BitSetLaws.{count_le}
use Rattle.codes.specs.Layouts.{symbols_of}
use Rattle.codes.specs.declared.Layout.{Layout}
use Rattle.gf2.specs.declared.Step.{Step}
use Rattle.sheets.specs.Buffers.{at_front, from_place}
use Rattle.sheets.specs.Bytes.{counted}
use Rattle.sheets.proofs.BufferLaws.{from_place_nothing, from_place_append, at_front_append}
use Rattle.sheets.proofs.PartLaws.{part_to_end}
use Rattle.plan_sheets.specs.PlanSheets.{PlanHead, first_count, wanted_count_at, steps_at, head_length, sheet_length}
use Rattle.plan_sheets.specs.InnerPlanSheets.{first_numbers, disk_bytes, wanted_bytes, sections_of, EditionFits, First, Second, Third, plan_head, head_for, steps_bytes, plan_sheet, with_steps, subset_plan, source_count, StepsWritable, Tells, PlanFits}
use Rattle.plan_sheets.proofs.ReadBackLaws.{length_up_to_disks, length_up_to_lists, length_plan_head, length_plan_sheet}
use Rattle.plan_sheets.proofs.StepsWrittenLaws.{count_is_source_count}

-- ------------------------------------------------------------------
-- The head

-- Five stores are the first numbers
pub numbers_stored : (head : PlanHead) (buffer : List ℕ) → 5 ≤ length buffer → sets buffer 0 (first_numbers head) ≡ at_front (first_numbers head) buffer
numbers_stored head buffer room = sets-eq (first_numbers head) buffer 0 room

module _ (edition reads : ℕ) (failed buffer : List ℕ) where
  -- Edition 3 has room for its list of disks
  pub room_third : edition ≡ 3 → 5 + length (disk_bytes edition reads failed) ≡ 7 + length failed
  room_third e = rw e (omega arith)

  -- Editions 1 and 2 have two bytes
  pub room_one : (edition ≡ 3 → ⊥) → ◌≡◌ {A = ℕ} (5 + length (disk_bytes edition reads failed)) 7
  room_one other = rw (ne_eqb edition 3 other)

  -- Edition 3: the read count is stored, then the list of disks
  pub disks_stored_third : edition ≡ 3 → 5 + length (disk_bytes edition reads failed) ≤ length buffer → {written : List ℕ}
      → written ≡ from_place 6 (counted failed) (set buffer 5 reads) → written ≡ from_place 5 (disk_bytes edition reads failed) buffer
  disks_stored_third e room f =
      let is_third : (reads ∷ counted failed) ≡ disk_bytes edition reads failed = rw e in
      let long : 6 ≤ length buffer = omega (arith, room, ap {B = ℕ} length is_third) in
      f
      ∙ ap (from_place 6 (counted failed)) (sets-eq (reads ∷ []) buffer 5 long)
      ∙ from_place_append 5 (reads ∷ []) (counted failed) buffer (omega arith)
      ∙ ap (λ (b : List ℕ). from_place 5 b buffer) is_third

  -- Editions 1 and 2: the disk, then the read count
  pub disks_stored_one : (edition ≡ 3 → ⊥) → 5 + length (disk_bytes edition reads failed) ≤ length buffer → {disk : ℕ} → disk ≡ get_or failed 0 0
      → set (set buffer 5 disk) 6 reads ≡ from_place 5 (disk_bytes edition reads failed) buffer
  disks_stored_one other room {disk} disk_is =
      let is_one : (get_or failed 0 0 ∷ reads ∷ []) ≡ disk_bytes edition reads failed = rw (ne_eqb edition 3 other) in
      ap (λ (d : ℕ). set (set buffer 5 d) 6 reads) disk_is
      ∙ sets-eq (get_or failed 0 0 ∷ reads ∷ []) buffer 5 (omega (arith, room, ap {B = ℕ} length is_one))
      ∙ ap (λ (b : List ℕ). from_place 5 b buffer) is_one

-- The wanted symbols have room behind their number
pub room_wanted : (edition : ℕ) (wanted : List ℕ) → (edition ≡ 1 → ⊥) → length (wanted_bytes edition wanted) ≡ 1 + length wanted
room_wanted edition wanted other = rw (ne_eqb edition 1 other) (omega arith)

module _ (edition : ℕ) (wanted : List ℕ) (at : ℕ) (buffer : List ℕ) where
  -- Edition 1 has no list: the buffer is as it was
  pub wanted_stored_none : edition ≡ 1 → buffer ≡ from_place at (wanted_bytes edition wanted) buffer
  wanted_stored_none e = rw e (from_place_nothing at buffer)

  -- Any other has the list
  pub wanted_stored : (edition ≡ 1 → ⊥) → {written : List ℕ} → written ≡ from_place at (counted wanted) buffer
      → written ≡ from_place at (wanted_bytes edition wanted) buffer
  wanted_stored other e =
      let is_listed : counted wanted ≡ wanted_bytes edition wanted = rw (ne_eqb edition 1 other) in
      e ∙ ap (λ (b : List ℕ). from_place at b buffer) is_listed

-- The numbers, the disks, the wanted symbols and the step count are the head
pub head_stored : (head : PlanHead) (failed wanted : List ℕ) (steps : ℕ) (lent : List ℕ) → EditionFits head.edition failed wanted
    → {first second third written : List ℕ} {listed at : ℕ} → first ≡ at_front (first_numbers head) lent
    → second ≡ from_place 5 (disk_bytes head.edition head.reads failed) first
    → listed ≡ wanted_count_at head.edition (length failed) → third ≡ from_place listed (wanted_bytes head.edition wanted) second
    → at ≡ steps_at (sections_of head.edition failed wanted) → written ≡ from_place at (steps % 256 ∷ steps / 256 ∷ []) third
    → written ≡ at_front (plan_head head failed wanted steps) lent
unfolding plan_head
head_stored head failed wanted steps lent fits {second = second} {third} {listed = listed} {at} e f listed_is g place h =
    let numbers = first_numbers head in
    let disks = disk_bytes head.edition head.reads failed in
    let symbols = wanted_bytes head.edition wanted in
    let last = steps % 256 ∷ steps / 256 ∷ [] in
    let with_disks : second ≡ at_front (numbers ++ disks) lent = f ∙ ap (from_place 5 disks) e ∙ at_front_append numbers disks lent in
    let behind : listed ≡ length (numbers ++ disks) = listed_is ∙ sym (length_up_to_disks head failed wanted fits) in
    let with_lists : third ≡ at_front (numbers ++ disks ++ symbols) lent =
    g ∙ ap₂ (λ (n : ℕ) (b : List ℕ). from_place n symbols b) behind with_disks ∙ at_front_append (numbers ++ disks) symbols lent in
    let long : at ≡ length (numbers ++ disks ++ symbols) = place ∙ sym (length_up_to_lists head failed wanted fits) in
    h ∙ ap₂ (λ (n : ℕ) (b : List ℕ). from_place n last b) long with_lists ∙ at_front_append (numbers ++ disks ++ symbols) last lent

-- ------------------------------------------------------------------
-- The sheet

-- Steps written into the part behind the head's place
pub part_stored : (lent : List ℕ) (start : ℕ) → start ≤ length lent → {written plan : List Step} {part : List ℕ}
    → part ≡ with_steps (take (length lent - start) (drop start lent)) 0 written → written ≡ plan
    → put_mid start (length lent - start) lent part ≡ take start lent ++ with_steps (drop start lent) 0 plan
part_stored lent start within {plan = plan} e same =
    ap₂ (λ (a b : List ℕ). take start lent ++ (a ++ b)) (e ∙ ap₂ (λ (b : List ℕ) (p : List Step). with_steps b 0 p) (part_to_end lent start) same) (Post-is start (length lent) lent within ∙ drop-length lent)
    ∙ ap (λ (b : List ℕ). take start lent ++ b) (append-nil (with_steps (drop start lent) 0 plan))

module _ (head : PlanHead) (failed wanted : List ℕ) (fits : EditionFits head.edition failed wanted) (plan : List Step) {start steps : ℕ} (place : start ≡ head_length (sections_of head.edition failed wanted)) (steps_are : steps ≡ length plan) where
  -- The sheet's length, by the number of its steps
  pub length_stored : {size : ℕ} → size ≡ sheet_length (sections_of head.edition failed wanted) steps → size ≡ length (plan_sheet head failed wanted plan)
  length_stored e = omega (arith, e, steps_are, length_plan_sheet head failed wanted fits plan)

  -- The steps behind the head's place, and then the head in front of them, are the sheet
  pub sheet_stored : (lent : List ℕ) → head_length (sections_of head.edition failed wanted) ≤ length lent → {written buffer : List ℕ}
      → written ≡ take start lent ++ with_steps (drop start lent) 0 plan → buffer ≡ at_front (plan_head head failed wanted steps) written
      → buffer ≡ at_front (plan_sheet head failed wanted plan) lent
  unfolding plan_sheet with_steps
  sheet_stored lent room {written} {buffer} e g =
      let front = plan_head head failed wanted (length plan) in
      let behind = drop (0 + length (steps_bytes plan)) (drop start lent) in
      let long : start ≡ length front = place ∙ sym (length_plan_head head failed wanted fits (length plan)) in
      let whole : start + (0 + length (steps_bytes plan)) ≡ length (front ++ steps_bytes plan) = omega (arith, long, length-append front (steps_bytes plan)) in
      g
      ∙ ap₂ (λ (n : ℕ) (b : List ℕ). at_front (plan_head head failed wanted n) b) steps_are e
      ∙ ap (λ (b : List ℕ). front ++ b) (drop_at (take start lent) (steps_bytes plan ++ behind) (length front) (length-take-le start lent (omega (arith, place, room)) ∙ long))
      ∙ sym (append_assoc front (steps_bytes plan) behind)
      ∙ ap (λ (b : List ℕ). front ++ steps_bytes plan ++ b) (drop-drop (0 + length (steps_bytes plan)) start lent ∙ ap (λ (n : ℕ). drop n lent) whole)

-- ------------------------------------------------------------------
-- What is told of the steps

module _ (layout : Layout) (wanted : ℕ → Bool) (subsets : List ℕ) {symbols : ℕ} (symbols_is : symbols ≡ symbols_of layout) where
  -- What writing the sheet needs is enough for its steps
  pub steps_writable : {edition data_symbols start : ℕ} {failed list : List ℕ} (lent : List ℕ) → PlanFits edition layout data_symbols failed list wanted subsets (length lent)
      → start ≡ head_length (sections_of edition failed list) → StepsWritable subsets symbols wanted (length (take (length lent - start) (drop start lent)))
  steps_writable {start = start} lent fits place =
      let same = ap {B = ℕ} (λ (n : ℕ). length (subset_plan n wanted subsets)) symbols_is in
      let long = ap {B = ℕ} length (part_to_end lent start) in
      record {
        symbols_to = omega (arith, fits.layout_within.symbols_to, symbols_is);
        subsets_below = λ t. rw symbols_is (fits.subsets_below t);
        fits = record { few = omega (arith, fits.steps_fit, same); room = omega (arith, fits.room, same, place, long, length-drop start lent) };
      }

  module _ {number sources : ℕ} (told : Tells symbols (subset_plan symbols wanted subsets) number sources) where
    -- The number of steps told is that of the plan
    pub count_told : number ≡ length (subset_plan (symbols_of layout) wanted subsets)
    count_told = told.count_is ∙ ap (λ (n : ℕ). length (subset_plan n wanted subsets)) symbols_is

    -- and the count of the sources that of the symbols read
    pub reads_told : {reads : ℕ} → reads ≡ count sources → reads ≡ source_count (symbols_of layout) (subset_plan (symbols_of layout) wanted subsets)
    reads_told e =
        e
        ∙ count_is_source_count symbols (subset_plan symbols wanted subsets) sources told.sources_below told.sources_are
        ∙ ap (λ (n : ℕ). source_count n (subset_plan n wanted subsets)) symbols_is

    -- which are no more than a set has
    pub few_reads : {reads : ℕ} → reads ≡ count sources → symbols ≤ set_width → reads ≤ set_width
    few_reads e small = omega (arith, count_le symbols sources told.sources_below)

-- A head with the first number of its edition is the head for a code
pub first_number : (edition : ℕ) (layout : Layout) (data_symbols reads : ℕ) (failed wanted : List ℕ) (steps : ℕ) (written : List ℕ) {first : ℕ} {buffer : List ℕ} → first ≡ first_count edition
    → buffer ≡ at_front (plan_head (record { count = first; edition = edition; disks = layout.disks; height = layout.height; data_symbols = data_symbols; reads = reads }) failed wanted steps) written
    → buffer ≡ at_front (plan_head (head_for edition layout data_symbols reads) failed wanted steps) written
first_number edition layout data_symbols reads failed wanted steps written e f =
    f
    ∙ ap
    (λ (n : ℕ).
    at_front (plan_head (record { count = n; edition = edition; disks = layout.disks; height = layout.height; data_symbols = data_symbols; reads = reads }) failed wanted steps) written)
    e

-- The first byte is one
pub first_count_small : (edition : ℕ) → first_count edition < 256
first_count_small edition = by_edition (eqb edition 3)
  where
    by_edition : (third : Bool) → cond third 5 6 < 256
    by_edition true = omega arith
    by_edition false = omega arith

-- So is an edition that fits
pub edition_small : {edition : ℕ} {failed wanted : List ℕ} → EditionFits edition failed wanted → edition < 256
edition_small (First e one none) = omega (arith, e)
edition_small (Second e one) = omega (arith, e)
edition_small (Third e) = omega (arith, e)

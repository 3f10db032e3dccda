-- What goes out tells the answer: a verdict, what checking answered, a part. Assumes nothing.
use mathlib.Core.Path.{◌≡◌, refl, sym, ap, ap₂, subst, ◌∙◌}
use mathlib.Core.Bool.{Bool, true, false, cond}
use mathlib.Core.List.{List}
use mathlib.Core.Logic.{◌↔◌}
use Prim.Native.Nat.{ℕ}
use lib.Dec.{eqb}
use Rattle.answers.proofs.NumberLaws.{number_not_0}
use Rattle.answers.specs.Answers.{out_verdict, out_sheet, out_checked, out_part, part_by}
use Rattle.answers.specs.declared.OutChecked.{OutChecked}
use Rattle.answers.specs.declared.OutPart.{OutPart}
use Rattle.answers.specs.declared.OutSheet.{OutSheet}
use Rattle.answers.specs.declared.OutVerdict.{OutVerdict}
use Rattle.plans.specs.Check.{as_checked}
use Rattle.families.specs.FamilySheets.{family_answer, family_buffer, ReadsBack}
use Rattle.family_codes.specs.declared.Family.{Family}
use Rattle.refusals.specs.Orders.{Outcome, Fine, Refused, outcome, if_fine, Answer, Gives}
use Rattle.refusals.specs.declared.Refusal.{Refusal}
use Rattle.std.specs.Prelude.{Result, Ok, Err}
use Rattle.views.specs.Places.{nowhere, strip_part, strip_place, slice_of, Shows}
use Rattle.views.specs.Views.{layout_of, strip_verdict}
use Rattle.strips.specs.declared.Part.{Part}

-- ------------------------------------------------------------------
-- Verdicts

fine_by_number : (verdict : Result Unit Refusal) → (out_verdict (outcome verdict)).number ≡ 0 → outcome verdict ≡ Fine
fine_by_number (Ok done) e = refl
fine_by_number (Err refusal) e = absurd (number_not_0 refusal e)

-- Number 0 says that nothing was refused
pub number_0_is_fine : (verdict : Result Unit Refusal) {out : OutVerdict} → out ≡ out_verdict (outcome verdict) → out.number ≡ 0 → outcome verdict ≡ Fine
number_0_is_fine verdict told e = fine_by_number verdict (sym (ap (λ (o : OutVerdict). o.number) told) ∙ e)

-- ------------------------------------------------------------------
-- What checking answered

accepted_by_reads : (answer : Result ℕ Refusal) (count : ℕ) → out_checked (as_checked answer) ≡ out_checked (Gives count) → as_checked answer ≡ Gives count
accepted_by_reads (Ok reads) count e = ap Gives (ap (λ (o : OutChecked). o.reads) e)
accepted_by_reads (Err refusal) count e = absurd (number_not_0 refusal (ap (λ (o : OutChecked). o.number) e))

-- Accepted goes out exactly where the check accepts; with it, demand 2
pub accepted_out_exactly : (answer : Result ℕ Refusal) {out : OutChecked} {Deserved : ℕ → Type 0} → out ≡ out_checked (as_checked answer)
    → ((count : ℕ) → (as_checked answer ≡ Gives count) ↔ Deserved count)
    → (count : ℕ) → (out ≡ out_checked (Gives count)) ↔ Deserved count
accepted_out_exactly answer told exactly count = (
  λ e. (exactly count).0 (accepted_by_reads answer count (sym told ∙ e)),
  λ deserved. told ∙ ap out_checked ((exactly count).1 deserved),
)

-- ------------------------------------------------------------------
-- A family

-- What the call promises of its answer, in the words of what went out
pub family_out : (family : Family) (bytes : ℕ) (before after : List ℕ) {out : OutSheet} {written : Answer ℕ} → out ≡ out_sheet written
    → (written ≡ family_answer family bytes) × ((after ≡ family_buffer family before) × ReadsBack written family after)
    → (out ≡ out_sheet (family_answer family bytes)) × ((after ≡ family_buffer family before) × ReadsBack (family_answer family bytes) family after)
family_out family bytes before after told promised = (
  told ∙ ap out_sheet promised.0,
  (promised.1.0, subst (λ (w : Answer ℕ). ReadsBack w family after) promised.0 promised.1.1),
)

-- ------------------------------------------------------------------
-- Parts

slice_tells : (spare : Bool) → eqb (cond spare 1 0) 1 ≡ spare
slice_tells true = refl
slice_tells false = refl

-- The part that went out is the one that was found
pub part_comes_back : {part : Part} {out : OutPart} → out ≡ out_part part → part_by out ≡ part
part_comes_back {part} told =
    ap part_by told ∙ ap (λ (spare : Bool). record { in_spare = spare; start = part.start; length = part.length }) (slice_tells part.in_spare)

-- So it shows the same bytes of one slice
pub shows_out : {part : Part} {out : OutPart} {slice shown : List ℕ} {verdict : Outcome} → out ≡ out_part part
    → Shows part slice shown verdict → Shows (part_by out) slice shown verdict
shows_out {slice = slice} {shown = shown} {verdict = verdict} told shows =
    subst (λ (p : Part). Shows p slice shown verdict) (sym (part_comes_back told)) shows

-- and of the one of two slices that it lies in
pub shows_out_of_two : (stripe spare : List ℕ) {part : Part} {out : OutPart} {shown : List ℕ} {verdict : Outcome} → out ≡ out_part part
    → Shows part (slice_of part stripe spare) shown verdict → Shows (part_by out) (slice_of (part_by out) stripe spare) shown verdict
shows_out_of_two stripe spare {shown = shown} {verdict = verdict} told shows =
    subst (λ (p : Part). Shows p (slice_of p stripe spare) shown verdict) (sym (part_comes_back told)) shows

strip_part_in_stripe : (verdict : Outcome) (fine : Part) → fine.in_spare ≡ false → (if_fine verdict fine nowhere).in_spare ≡ false
strip_part_in_stripe Fine fine e = e
strip_part_in_stripe (Refused refusal) fine e = refl

-- A strip is a part of the stripe, slice 0
pub strip_slice_0 : (sheet : List ℕ) (disk size bytes : ℕ) {out : OutPart} → out ≡ out_part (strip_place sheet disk size bytes) → out.slice ≡ 0
unfolding strip_place
strip_slice_0 sheet disk size bytes told =
    ap (λ (o : OutPart). o.slice) told
    ∙ ap (λ (spare : Bool). cond spare 1 0)
    (strip_part_in_stripe (strip_verdict sheet disk size bytes) (strip_part (layout_of sheet) disk size) refl)

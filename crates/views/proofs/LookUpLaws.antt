-- Laws of look up: what its verdict says, and what it shows of the stripe or the spare strip. Assumes nothing.
use mathlib.Core.Path.{◌≡◌, refl, sym, ap, ap₂, subst, ◌∙◌}
use mathlib.Core.Bool.{Bool, true, false, cond}
use mathlib.Core.Logic.{◌↔◌}
use mathlib.Core.List.{List, [], ◌∷◌}
use Prim.Native.Nat.{ℕ, ◌-◌, ◌*◌, ◌≤◌, ◌<◌}
use native.Mathlib.Omega.{arith}
use lib.ListN.{length}
use borrow.Author.Tests.{leb-false, not-false, eqb-true, eq-eqb, ne_eqb}
use Rattle.codes.proofs.LayoutLaws.{on_disk_of, on_disk_between}
use Rattle.codes.specs.Layouts.{symbols_of, first_symbol, height_of, disk_of, on_disk}
use Rattle.codes.specs.Lengths.{length_fault}
use Rattle.gf2.proofs.SymbolLaws.{symbol_ends_within}
use Rattle.gf2.specs.Stripes.{symbol, SymbolWithin}
use Rattle.refusals.specs.Orders.{◌gets◌, and_then, if_fine, Outcome, Fine, Refused}
use Rattle.refusals.specs.Refusals.{Numbered, ◌at◌}
use Rattle.refusals.proofs.OrderLaws.{fine_means_none_holds}
use Rattle.code_sheets.specs.CodeReading.{CodeRead}
use Rattle.code_sheets.proofs.ReadingLaws.{ReadFrom}
use Rattle.strips.proofs.StripLaws.{StripFits, fine_strip_fits, nowhere_shows_nothing}
use Rattle.strips.specs.Places.{slice_of, nowhere, Shows}
use Rattle.strips.specs.Strips.{strip_faults}
use Rattle.strips.specs.declared.Part.{Part}
use Rattle.views.specs.Places.{symbol_part, symbol_place}
use Rattle.views.specs.Views.{look_up_faults, look_up_verdict, symbol_of, symbol_shown}
use lib.Dec.{leb, eqb}

-- What a fine verdict says: the strip fits, the spare strip is whole and the symbol is one of the array's
pub record LookUpFits (read : CodeRead) (disk size stripe_bytes spare_bytes wanted : ℕ) : Type 0 where
  pub strip : StripFits read disk size stripe_bytes
  pub spare_whole : spare_bytes ≡ height_of read.code.layout disk * size
  pub wanted_below : wanted < symbols_of read.code.layout

-- Where the verdict is fine, that holds
pub fine_look_up_fits : (sheet : List ℕ) (read : CodeRead) → ReadFrom sheet read → (disk size stripe_bytes spare_bytes wanted : ℕ) {answer : Outcome}
    → answer ≡ and_then read.verdict (look_up_faults read.code.layout disk size stripe_bytes spare_bytes wanted) → answer ≡ Fine
    → LookUpFits read disk size stripe_bytes spare_bytes wanted
fine_look_up_fits sheet read from disk size stripe_bytes spare_bytes wanted tested told =
    let none = fine_means_none_holds
    (and_then read.verdict (strip_faults read.code.layout disk size stripe_bytes))
    (length_fault spare_bytes (height_of read.code.layout disk) size (35 at 0) ∷ (leb (symbols_of read.code.layout) wanted gets 38 at 0) ∷ [])
    (sym tested ∙ told) in
    record {
      strip = fine_strip_fits sheet read from disk size stripe_bytes refl none.0;
      spare_whole = eqb-true spare_bytes (height_of read.code.layout disk * size) (not-false _ none.1.0);
      wanted_below = leb-false (symbols_of read.code.layout) wanted none.1.1.0;
    }

module _ {read : CodeRead} {disk size stripe_bytes spare_bytes wanted : ℕ} (fits : LookUpFits read disk size stripe_bytes spare_bytes wanted) where
  -- A symbol of the stripe ends within it
  pub survivor_ends_within : SymbolWithin size stripe_bytes wanted
  survivor_ends_within = omega (arith, symbol_ends_within wanted (symbols_of read.code.layout) size fits.wanted_below)

  -- A symbol lies on the disk exactly if its own disk, as found, is that one
  on_disk_as_found : {place : ℕ} {lost : Bool} → place ≡ disk_of read.code.layout wanted → eqb place disk ≡ lost
      → on_disk read.code.layout disk wanted ≡ lost
  on_disk_as_found {place} {lost} e f =
      on_disk_of read.code.layout fits.strip.limits.height_from disk wanted
      ∙ ap (λ (d : ℕ). eqb d disk) (sym e) ∙ f

  -- A lost symbol is not before the first of the lost strip
  pub lost_from_first : {place first : ℕ} → place ≡ disk_of read.code.layout wanted → place ≡ disk
      → first ≡ first_symbol read.code.layout disk → first ≤ wanted
  lost_from_first {place} {first} e f g =
      omega (arith, on_disk_between read.code.layout disk wanted (on_disk_as_found e (eq-eqb place disk f)))

  -- It ends within the spare strip
  pub lost_ends_within : {place first : ℕ} → place ≡ disk_of read.code.layout wanted → place ≡ disk
      → first ≡ first_symbol read.code.layout disk → SymbolWithin size spare_bytes (wanted - first)
  lost_ends_within {place} {first} e f g =
      let between = on_disk_between read.code.layout disk wanted (on_disk_as_found e (eq-eqb place disk f)) in
      omega (arith, symbol_ends_within (wanted - first) (height_of read.code.layout disk) size (omega arith))

module _ (sheet stripe spare : List ℕ) (disk size wanted : ℕ) (read : CodeRead) (from : ReadFrom sheet read) where
  -- The verdict is the definition's
  pub look_up_verdict_is : {answer : Outcome}
      → answer ≡ and_then read.verdict (look_up_faults read.code.layout disk size (length stripe) (length spare) wanted)
      → answer ≡ look_up_verdict sheet disk size (length stripe) (length spare) wanted
  unfolding look_up_verdict
  look_up_verdict_is e =
      e
      ∙ ap (λ (r : CodeRead). and_then r.verdict (look_up_faults r.code.layout disk size (length stripe) (length spare) wanted)) from.0

  module _
      (answer : Outcome)
      (tested : answer ≡ and_then read.verdict (look_up_faults read.code.layout disk size (length stripe) (length spare) wanted))
    where
      -- What is shown, by the verdict
      shown_by_verdict : {told : Outcome} → answer ≡ told
          → if_fine told (symbol_of read.code.layout disk size stripe spare wanted) [] ≡ symbol_shown sheet disk size stripe spare wanted
      unfolding symbol_shown
      shown_by_verdict told =
          ap₂ (λ (v : Outcome) (r : CodeRead). if_fine v (symbol_of r.code.layout disk size stripe spare wanted) [])
          (sym told ∙ look_up_verdict_is tested) from.0

      -- Where it lies, by the verdict
      place_by_verdict : {told : Outcome} → answer ≡ told
          → if_fine told (symbol_part read.code.layout disk size wanted) nowhere ≡ symbol_place sheet disk size (length stripe) (length spare) wanted
      unfolding symbol_place
      place_by_verdict told =
          ap₂ (λ (v : Outcome) (r : CodeRead). if_fine v (symbol_part r.code.layout disk size wanted) nowhere)
          (sym told ∙ look_up_verdict_is tested) from.0

      -- A part is where the symbol lies, and shows it
      abbrev Placed : Part → Type 0
      Placed part =
          (part ≡ symbol_place sheet disk size (length stripe) (length spare) wanted)
          × Shows part (slice_of part stripe spare) (symbol_shown sheet disk size stripe spare wanted) (look_up_verdict sheet disk size (length stripe) (length spare) wanted)

      -- Refused: the part of no bytes
      pub look_up_refused : {part : Part} {refusal : Numbered} → part ≡ nowhere → answer ≡ Refused refusal → Placed part
      look_up_refused e told =
          subst Placed (sym e) (place_by_verdict told, nowhere_shows_nothing (shown_by_verdict told) (sym (look_up_verdict_is tested) ∙ told))

      module _ (told : answer ≡ Fine) where
        fits : LookUpFits read disk size (length stripe) (length spare) wanted
        fits = fine_look_up_fits sheet read from disk size (length stripe) (length spare) wanted tested told

        -- Nothing is refused, and a symbol has bytes
        shown_exactly : (0 < size) ↔ (look_up_verdict sheet disk size (length stripe) (length spare) wanted ≡ Fine)
        shown_exactly = (λ any. sym (look_up_verdict_is tested) ∙ told, λ fine. fits.strip.size_from)

        -- A lost symbol: in the spare strip, in its row
        pub lost_placed : {place first : ℕ} → place ≡ disk_of read.code.layout wanted → place ≡ disk
            → first ≡ first_symbol read.code.layout disk
            → Placed (record { in_spare = true; start = (wanted - first) * size; length = size })
        lost_placed {place} {first} e f g =
            let on_disk = on_disk_as_found fits e (eq-eqb place disk f) in (
              ap (λ (n : ℕ). record { in_spare = true; start = (wanted - n) * size; length = size }) g
                  ∙ ap (λ (lost : Bool). cond lost (record { in_spare = true; start = (wanted - first_symbol read.code.layout disk) * size; length = size }) (record { in_spare = false; start = wanted * size; length = size })) (sym on_disk)
                  ∙ place_by_verdict told,
              record {
                within = omega (arith, lost_ends_within fits e f g);
                bytes =
                    ap (λ (n : ℕ). symbol size spare (wanted - n)) g
                    ∙ ap (λ (lost : Bool). cond lost (symbol size spare (wanted - first_symbol read.code.layout disk)) (symbol size stripe wanted))
                    (sym on_disk)
                    ∙ shown_by_verdict told;
                exactly = shown_exactly;
              },
            )

        -- A survivor: in the stripe, in its place
        pub survivor_placed : {place : ℕ} → place ≡ disk_of read.code.layout wanted → (place ≡ disk → ⊥)
            → Placed (record { in_spare = false; start = wanted * size; length = size })
        survivor_placed {place} e f =
            let on_disk = on_disk_as_found fits e (ne_eqb place disk f) in (
              ap (λ (lost : Bool). cond lost (record { in_spare = true; start = (wanted - first_symbol read.code.layout disk) * size; length = size }) (record { in_spare = false; start = wanted * size; length = size })) (sym on_disk)
                  ∙ place_by_verdict told,
              record {
                within = omega (arith, survivor_ends_within fits);
                bytes =
                    ap (λ (lost : Bool). cond lost (symbol size spare (wanted - first_symbol read.code.layout disk)) (symbol size stripe wanted))
                    (sym on_disk)
                    ∙ shown_by_verdict told;
                exactly = shown_exactly;
              },
            )

-- Laws of one strip: what its verdict says, and what it shows of the stripe. Assumes nothing.
use mathlib.Core.Path.{◌≡◌, sym, ap, ap₂, subst, ◌∙◌}
use mathlib.Core.Bool.{false}
use mathlib.Core.List.{List, []}
use Prim.Native.Nat.{ℕ, ◌+◌, ◌*◌, ◌≤◌, ◌<◌}
use native.Mathlib.Nat.{mul-le-mul_right}
use native.Mathlib.Omega.{arith}
use lib.ListN.{length, take, drop}
use borrow.Author.Tests.{leb-false, ltb-false, not-false, eqb-true, eqb-false}
use Rattle.codes.proofs.LayoutLaws.{strip_within, height_of_positive}
use Rattle.codes.specs.Codes.{WithinLimits}
use Rattle.codes.specs.Layouts.{symbols_of, first_symbol, height_of}
use Rattle.refusals.specs.Orders.{and_then, if_fine, Outcome, Fine, Refused}
use Rattle.refusals.specs.Refusals.{Numbered}
use Rattle.refusals.proofs.OrderLaws.{fine_means_none_holds, refused_is_not_fine}
use Rattle.code_sheets.specs.CodeReading.{CodeRead}
use Rattle.code_sheets.proofs.ReadingLaws.{ReadFrom}
use Rattle.strips.specs.Places.{nowhere, strip_part, strip_place, Shows}
use Rattle.strips.specs.Strips.{strip_faults, strip_verdict, strip_of, strip_shown}
use Rattle.strips.specs.declared.Part.{Part}

-- What a fine verdict says: there is a code, the disk is one of its array's, L is within its bounds and the stripe is whole
pub record StripFits (read : CodeRead) (disk size stripe_bytes : ℕ) : Type 0 where
  pub limits : WithinLimits read.code
  pub disk_below : disk < read.code.layout.disks
  pub size_from : 0 < size
  pub size_to : size ≤ 65536
  pub stripe_whole : stripe_bytes ≡ symbols_of read.code.layout * size

-- Where the verdict is fine, that holds
pub fine_strip_fits : (sheet : List ℕ) (read : CodeRead) → ReadFrom sheet read → (disk size stripe_bytes : ℕ) {answer : Outcome}
    → answer ≡ and_then read.verdict (strip_faults read.code.layout disk size stripe_bytes) → answer ≡ Fine
    → StripFits read disk size stripe_bytes
fine_strip_fits sheet read from disk size stripe_bytes tested told =
    let none = fine_means_none_holds read.verdict (strip_faults read.code.layout disk size stripe_bytes) (sym tested ∙ told) in
    record {
      limits = from.1 none.0;
      disk_below = leb-false read.code.layout.disks disk none.1.0;
      size_from = omega (arith, eqb-false size 0 none.1.1.0);
      size_to = ltb-false 65536 size none.1.1.1.0;
      stripe_whole = eqb-true stripe_bytes (symbols_of read.code.layout * size) (not-false _ none.1.1.1.1.0);
    }

-- The strip of a disk ends within the stripe
pub strip_ends_within : {read : CodeRead} {disk size stripe_bytes first height : ℕ} → StripFits read disk size stripe_bytes
    → first ≡ first_symbol read.code.layout disk → height ≡ height_of read.code.layout disk
    → first * size + height * size ≤ stripe_bytes
strip_ends_within {read} {disk} {size} {stripe_bytes} {first} {height} fits e f =
    let within : first + height ≤ symbols_of read.code.layout = omega (arith, strip_within read.code.layout disk fits.disk_below) in
    omega (arith, mul-le-mul_right {m = first + height} size within)

-- On a refusal nothing is shown, and the part of no bytes shows it
pub nowhere_shows_nothing : {slice shown : List ℕ} {verdict : Outcome} {refusal : Numbered} → [] ≡ shown → verdict ≡ Refused refusal → Shows nowhere slice shown verdict
nowhere_shows_nothing none refused =
    record { within = omega arith; bytes = none; exactly = (λ some. absurd (omega arith), λ fine. absurd (refused_is_not_fine (sym refused ∙ fine))) }

module _ (sheet stripe : List ℕ) (disk size : ℕ) (read : CodeRead) (from : ReadFrom sheet read) where
  -- The verdict is the definition's
  pub strip_verdict_is : {answer : Outcome} → answer ≡ and_then read.verdict (strip_faults read.code.layout disk size (length stripe))
      → answer ≡ strip_verdict sheet disk size (length stripe)
  unfolding strip_verdict
  strip_verdict_is e =
      e ∙ ap (λ (r : CodeRead). and_then r.verdict (strip_faults r.code.layout disk size (length stripe))) from.0

  module _ (answer : Outcome) (tested : answer ≡ and_then read.verdict (strip_faults read.code.layout disk size (length stripe))) where
    -- What is shown, by the verdict
    shown_by_verdict : {told : Outcome} → answer ≡ told
        → if_fine told (strip_of read.code.layout disk size stripe) [] ≡ strip_shown sheet disk size stripe
    unfolding strip_shown
    shown_by_verdict told =
        ap₂ (λ (v : Outcome) (r : CodeRead). if_fine v (strip_of r.code.layout disk size stripe) [])
        (sym told ∙ strip_verdict_is tested) from.0

    -- Where it lies, by the verdict
    place_by_verdict : {told : Outcome} → answer ≡ told
        → if_fine told (strip_part read.code.layout disk size) nowhere ≡ strip_place sheet disk size (length stripe)
    unfolding strip_place
    place_by_verdict told =
        ap₂ (λ (v : Outcome) (r : CodeRead). if_fine v (strip_part r.code.layout disk size) nowhere) (sym told ∙ strip_verdict_is tested)
        from.0

    -- A part is where the strip lies, and shows it
    abbrev Placed : Part → Type 0
    Placed part =
        (part ≡ strip_place sheet disk size (length stripe))
        × Shows part stripe (strip_shown sheet disk size stripe) (strip_verdict sheet disk size (length stripe))

    -- Refused: the part of no bytes
    pub strip_refused : {part : Part} {refusal : Numbered} → part ≡ nowhere → answer ≡ Refused refusal → Placed part
    strip_refused e told =
        subst Placed (sym e) (place_by_verdict told, nowhere_shows_nothing (shown_by_verdict told) (sym (strip_verdict_is tested) ∙ told))

    -- Fine: the disk's symbols from its first on, and there are some
    pub strip_placed : {first height : ℕ} → first ≡ first_symbol read.code.layout disk → height ≡ height_of read.code.layout disk
        → answer ≡ Fine → Placed (record { in_spare = false; start = first * size; length = height * size })
    strip_placed {first} {height} e f told =
        let fits = fine_strip_fits sheet read from disk size (length stripe) tested told in
        let some : 1 ≤ height = omega (arith, height_of_positive read.code.layout disk fits.limits.height_from) in (
          ap₂ (λ (a b : ℕ). record { in_spare = false; start = a * size; length = b * size }) e f ∙ place_by_verdict told,
          record {
            within = strip_ends_within fits e f;
            bytes = ap₂ (λ (a b : ℕ). take (b * size) (drop (a * size) stripe)) e f ∙ shown_by_verdict told;
            exactly = (
              λ any. sym (strip_verdict_is tested) ∙ told,
              λ fine. omega (arith, fits.size_from, mul-le-mul_right {m = 1} size some),
            );
          },
        )

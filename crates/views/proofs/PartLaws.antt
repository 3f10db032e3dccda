-- Laws of a part of one of two slices: it shows and begins in the slice that it was found to lie in. Assumes nothing.
use mathlib.Core.Path.{◌≡◌, sym, ap, subst, ◌∙◌}
use mathlib.Core.Bool.{Bool, cond}
use mathlib.Core.List.{List}
use Prim.Native.Nat.{ℕ}
use Rattle.refusals.specs.Orders.{Outcome}
use Rattle.strips.specs.Places.{slice_of, after, beginning, Shows}
use Rattle.strips.specs.declared.Part.{Part}

-- A part that was found to lie in the spare strip, or in the stripe, shows the bytes there
pub shows_there : (stripe spare : List ℕ) {part : Part} {shown : List ℕ} {verdict : Outcome} {lost : Bool} → part.in_spare ≡ lost
    → Shows part (slice_of part stripe spare) shown verdict → Shows part (cond lost spare stripe) shown verdict
shows_there stripe spare {part} {shown} {verdict} e shows =
    subst (λ (lost : Bool). Shows part (cond lost spare stripe) shown verdict) e shows

-- A part begins in the slice that it was found to lie in
pub begins_there : (stripe spare : ℕ × ℕ) (part : Part) {place : Part} {lost : Bool} → part.in_spare ≡ lost → part ≡ place
    → after part.start (cond lost spare stripe) ≡ beginning place stripe spare
begins_there stripe spare part found same =
    ap (λ (lost : Bool). after part.start (cond lost spare stripe)) (sym found) ∙ ap (λ (p : Part). beginning p stripe spare) same

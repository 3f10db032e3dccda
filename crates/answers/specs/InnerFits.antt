-- What goes out to C as a word of 64 bits.
use Rattle.std.specs.Prelude.{◌≡◌, ◌^◌, ◌<◌, get_or}
use Rattle.planning.specs.Planning.{Found, APlan, APatterns}
use Rattle.refusals.specs.Orders.{Answer, Gives, Refuses}

-- A first pattern that does, and isn't 0
abbrev pub PatternFits : Answer Found → Type 0
PatternFits (Gives (APlan plan_length reads)) = Unit
PatternFits (Gives (APatterns patterns)) = (get_or patterns 0 0 < 2 ^ 64) × (get_or patterns 0 0 ≡ 0 → ⊥)
PatternFits (Refuses refusal) = Unit

-- What a pass begins with: bytes that are made of a target's bytes and a source's.
use Rattle.std.specs.Prelude.{◌≡◌, List, ℕ, ◌<◌, length, get_or}

-- A start has as many bytes as the target, each as a call makes it of the target's byte and the source's
pub record Starts (makes : ℕ → ℕ → ℕ → Type 0) (target source start : List ℕ) : Type 0 where
  pub whole : length start ≡ length target
  pub each : (i byte : ℕ) → i < length target → makes (get_or target i 0) (get_or source i 0) byte → byte ≡ get_or start i 0

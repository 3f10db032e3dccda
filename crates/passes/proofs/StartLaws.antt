-- Laws of what a pass begins with: zero bytes, the source, or the target XOR the source. Assumes nothing.
use mathlib.Core.Path.{◌≡◌, sym, ◌∙◌}
use mathlib.Core.List.{List}
use Prim.Native.Nat.{ℕ}
use native.Mathlib.Omega.{arith}
use lib.Bits.{bit_xor}
use lib.ListN.{length, replicate, length-replicate, get_or-replicate}
use Rattle.gf2.specs.Stripes.{xor_bytes}
use Rattle.gf2.proofs.SymbolLaws.{length_xor_bytes, get_or_xor_bytes}
use Rattle.passes.specs.InnerStarts.{Starts}

module _ (makes : ℕ → ℕ → ℕ → Type 0) (target source : List ℕ) where
  -- Where each byte begins with zero
  pub starts_zeros : (L : ℕ) → length target ≡ L → ((own other byte : ℕ) → makes own other byte → byte ≡ 0) → Starts makes target source (replicate L 0)
  starts_zeros L e each =
      record {
        whole = length-replicate L 0 ∙ sym e;
        each = λ i byte h made. each _ _ byte made ∙ sym (get_or-replicate L i 0 0 (omega arith));
      }

  -- Where each byte begins with the source's
  pub starts_source : length source ≡ length target → ((own other byte : ℕ) → makes own other byte → byte ≡ other) → Starts makes target source source
  starts_source e each = record { whole = e; each = λ i byte h made. each _ _ byte made }

  -- Where each byte begins with the target's XOR the source's
  pub starts_both : length source ≡ length target → ((own other byte : ℕ) → makes own other byte → byte ≡ bit_xor own other)
      → Starts makes target source (xor_bytes target source)
  starts_both e each =
      record {
        whole = length_xor_bytes target source (sym e);
        each = λ i byte h made. each _ _ byte made ∙ sym (get_or_xor_bytes target source (sym e) i);
      }

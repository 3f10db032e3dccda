-- `losses::loss_of` meets its contract: all symbols but the lost ones survive. Assumes nothing.
use mathlib.Core.Path.{ap, ◌∙◌}
use mathlib.Core.Bool.{Bool, cond}
use Prim.Native.Nat.{ℕ}
use native.Mathlib.Omega.{arith}
use lib.Bits.{bit_xor}
use lib.Dec.{eqb}
use lib.ListN.{length}
use Rattle.bits.specs.BitSets.{has, below}
use Rattle.bits.specs.Numerals.{numeral}
use Rattle.lists.specs.Lists.{listed}
use Rattle.losses.proofs.LossLaws.{rest_as_set}
use Rattle.losses.proofs.loss_of.Goals as goal

pub symbols-symbols-requires : goal.symbols-symbols-requires
symbols-symbols-requires c = (omega (arith, c.requires.0.disks_to), omega (arith, c.requires.0.height_to))

pub below-requires : goal.below-requires
below-requires c = omega (arith, c.symbols-symbols.ensures, c.requires.0.symbols_to)

pub wanted_symbols-wanted-requires : goal.wanted_symbols-wanted-requires
wanted_symbols-wanted-requires c = c.requires.3

pub origin_of-origin-requires : goal.origin_of-origin-requires
origin_of-origin-requires c = (c.requires.0, c.requires.1)

pub returns : goal.returns
returns c =
    let args = c.args in
    let symbols = c.symbols-symbols.ensures in record {
      symbols = symbols;
      survivors = λ s.
          ap (λ (set : ℕ). has set s) (c.sum-survivors.ensures ∙ ap (λ (all : ℕ). bit_xor all (numeral args.gone)) (c.below.ensures ∙ ap below symbols))
          ∙ rest_as_set args.layout args.disks.now (numeral args.gone) c.requires.2 s;
      wanted = λ s.
          c.wanted_symbols-wanted.ensures s
          ∙ ap (λ (gone : Bool). cond (eqb (length args.list.now) 0) gone (listed args.list.now s)) (c.requires.2 s);
      origin = c.origin_of-origin.ensures;
    }

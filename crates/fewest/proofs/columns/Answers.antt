-- `fewest::columns` meets its contract. Assumes nothing.
use mathlib.Core.Path.{ap, ◌∙◌}
use native.Mathlib.Omega.{arith}
use lib.ListN.{length}
use Rattle.bits.specs.Numerals.{numerals}
use Rattle.bits.proofs.NumeralLaws.{length_numerals, numerals_append}
use Rattle.fewest.specs.InnerFewest.{IsColumn}
use Rattle.fewest.proofs.LoopLaws.{entries_more}
use Rattle.fewest.proofs.columns.Goals as goal

pub loop-bit-init : goal.loop-bit-init
loop-bit-init c = record { count = ap length c.new-images.ensures; columns = λ j h. absurd (omega arith) }

pub column-requires : goal.column-requires
column-requires c = (c.requires.0, omega arith)

pub loop-bit-preserved : goal.loop-bit-preserved
loop-bit-preserved c =
    let loop = c.loop-bit in
    record {
      count = omega arith;
      columns =
          rw (ap numerals c.push.ensures.items ∙ numerals_append loop.images.items c.column.result)
          (entries_more (IsColumn (numerals c.args.rows.now)) (numerals loop.images.items) loop.bit (length_numerals loop.images.items ∙ loop.invariant.count) loop.invariant.columns c.column.ensures);
    }

pub returns : goal.returns
returns c = record { all = omega arith; columns = λ i h. c.loop-bit.invariant.columns i (omega arith) }

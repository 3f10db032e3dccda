-- `code_sheets::rows::write_row` meets its contract. Assumes nothing.
use mathlib.Core.Path.{◌≡◌, refl, sym, ◌∙◌}
use native.Mathlib.Omega.{arith}
use lib.ListN.{length, length-set}
use lib.Seq.{paste-zero}
use Rattle.bits.specs.Numerals.{numeral}
use Rattle.sheets.specs.Bytes.{low_bytes}
use Rattle.sheets.proofs.ByteLaws.{length_low_bytes}
use Rattle.bits.proofs.StoreLaws.{stored_more, stored_all}
use Rattle.code_sheets.proofs.RowLaws.{get_or_low_bytes}
use Rattle.code_sheets.proofs.rows.write_row.Goals as goal

pub loop-i-init : goal.loop-i-init
loop-i-init c = (omega arith, refl, paste-zero c.args.buffer.now c.args.at (low_bytes 8 (numeral c.args.row)))

pub loop-i-preserved : goal.loop-i-preserved
loop-i-preserved c =
    let a = c.args in
    let bytes = low_bytes 8 (numeral a.row) in
    let i = c.loop-i.i in
    let size : length bytes ≡ 8 = length_low_bytes 8 (numeral a.row) in (
      omega arith,
      simp length-set (omega arith),
      stored_more a.buffer.now bytes a.at (omega arith) _ i _ (omega arith) c.loop-i.invariant.2
          (c.byte_of.ensures ∙ sym (get_or_low_bytes 8 (numeral a.row) i (omega arith))),
    )

pub returns : goal.returns
returns c =
    let a = c.args in
    let bytes = low_bytes 8 (numeral a.row) in
    let size : length bytes ≡ 8 = length_low_bytes 8 (numeral a.row) in
    stored_all a.buffer.now bytes a.at (omega arith) _ c.loop-i.i (omega arith) c.loop-i.invariant.2

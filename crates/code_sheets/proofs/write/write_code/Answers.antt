-- `code_sheets::write::write_code` meets its contract: the head, then the rows behind it. Assumes nothing.
use Rattle.std.proofs.Common.{arith}
use Rattle.codes.proofs.LimitLaws.{length_matrix}
use Rattle.codes.specs.Codes.{linear}
use Rattle.code_sheets.proofs.SheetLaws.{length_code_sheet}
use Rattle.code_sheets.proofs.WriteLaws.{sheet_stored}
use Rattle.code_sheets.proofs.write.write_code.Goals as goal

pub write_head-requires : goal.write_head-requires
write_head-requires c = omega (arith, length_code_sheet (linear c.args.code.now) (omega (arith, c.args.code.now.within)))

pub write_rows-requires : goal.write_rows-requires
write_rows-requires c =
    let code = linear c.args.code.now in
    let within = c.args.code.now.within in
    let many = length_matrix code within _ c.matrix.ensures in (
      omega (arith, many, within.symbols_to),
      omega (arith, many, c.requires, length_code_sheet code (omega (arith, within)), c.write_head.auto.buffer),
    )

pub returns : goal.returns
returns c = sheet_stored (linear c.args.code.now) c.args.buffer.now _ _ _ c.matrix.ensures c.write_head.ensures c.write_rows.ensures

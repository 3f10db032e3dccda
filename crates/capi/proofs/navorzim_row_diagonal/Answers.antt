-- `capi::navorzim_row_diagonal` meets its contract: it is `write_family` of this family. Assumes nothing.
use lib.ListN.{length}
use Rattle.answers.proofs.AnswerLaws.{family_out}
use Rattle.family_codes.specs.declared.Family.TheVariants.{RowDiagonal}
use Rattle.capi.proofs.navorzim_row_diagonal.Goals as goal

pub returns : goal.returns
returns c =
    let args = c.args in
    let all = family_out (RowDiagonal args.p) (length args.buffer.now) args.buffer.now _ c.from.ensures (c.write_family.ensures.answer, (c.write_family.ensures.buffer, c.write_family.ensures.read_back)) in record { answer = all.0; buffer = all.1.0; read_back = all.1.1 }

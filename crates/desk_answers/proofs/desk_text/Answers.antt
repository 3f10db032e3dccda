-- `desk_text` meets its contract: the refusal line alone, or the report. Assumes nothing.
use Rattle.std.proofs.Common.{refl, ◌∙◌, Ok, Err}
use Rattle.code_sheets.specs.CodeReading.{as_read}
use Rattle.desk_answers.proofs.LineLaws.{text_if_refused, text_if_fine}
use Rattle.desk_answers.proofs.desk_text.Goals as goal

pub returns-in-Ok : goal.returns-in-Ok
returns-in-Ok c =
    c.report.ensures
    ∙ text_if_fine c.args.input.now _ (as_read (Ok c.in-Ok.code)) c.sheets_in.ensures.code_sheet c.in-Ok.ensures.answer _ _ _
    c.sheets_in.ensures.plan_sheet c.byte_at-disk.ensures.0 c.check.ensures.answer refl

pub returns-in-Err : goal.returns-in-Err
returns-in-Err c =
    c.refusal_text.ensures
    ∙ text_if_refused c.args.input.now _ (as_read (Err c.in-Err.refusal)) c.sheets_in.ensures.code_sheet c.in-Err.ensures.answer _ refl

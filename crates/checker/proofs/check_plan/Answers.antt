-- `checker::check_plan` meets its contract: its answer is the definition's, and it accepts exactly what deserves it. Assumes nothing.
use Rattle.std.proofs.Common.{ℕ, refl, ap, ◌∙◌, Ok, Err}
use Rattle.refusals.specs.Orders.{Outcome, Gives, answering, outcome}
use Rattle.refusals.proofs.OrderLaws.{refused_is_not_fine}
use Rattle.code_sheets.specs.CodeReading.{CodeRead, as_read}
use Rattle.plan_sheets.specs.PlanSheets.{head_length, step_count_at}
use Rattle.plan_sheets.specs.declared.head.PlanHead.{PlanHead}
use Rattle.plan_sheets.specs.declared.head.Sections.{Sections}
use Rattle.plans.proofs.CheckLaws.{judged_code_refused, promised_if_judged}
use Rattle.checker.proofs.check_plan.Goals as goal

pub judge_sheet-requires : goal.judge_sheet-requires
judge_sheet-requires c =
    let sections = c.read_sections-sections.ensures in
    record {
      head_is = c.read_head-head.ensures;
      sections_are = sections.read;
      sections_small = sections.small;
      steps_are = c.step_count-steps.ensures.0 ∙ ap (λ (s : Sections). step_count_at s c.args.plan.now) sections.read;
      steps_small = c.step_count-steps.ensures.1;
    }

pub returns-in-Ok : goal.returns-in-Ok
returns-in-Ok c =
    let args = c.args in
    let sections = c.read_sections-sections.ensures in
    let promised = promised_if_judged args.sheet.now args.disks.now args.plan.now (as_read (Ok c.in-Ok.code)) c.in-Ok.ensures.answer (λ fine. c.in-Ok.code.within)
    c.judge_sheet.ensures
    (c.answer_of.ensures ∙ ap (λ (head : PlanHead). answering (outcome c.judge_sheet.result) head.reads) c.read_head-head.ensures) in
    record {
      answer = promised.0;
      demand2 = promised.1;
      layout = ap (λ (r : CodeRead). r.code.layout) c.in-Ok.ensures.answer;
      head = c.head_length-start.ensures ∙ ap head_length sections.read;
      steps = c.step_count-steps.ensures.0 ∙ ap (λ (s : Sections). step_count_at s args.plan.now) sections.read;
    }

pub returns-in-Err : goal.returns-in-Err
returns-in-Err c =
    let args = c.args in
    let sections = c.read_sections-sections.ensures in
    let read : CodeRead = as_read (Err c.in-Err.refusal) in
    let promised = promised_if_judged args.sheet.now args.disks.now args.plan.now read c.in-Err.ensures.answer (λ fine. absurd (refused_is_not_fine fine))
    (judged_code_refused read args.disks.now args.plan.now _ refl) refl in
    record {
      answer = promised.0;
      demand2 = promised.1;
      layout = ap (λ (r : CodeRead). r.code.layout) c.in-Err.ensures.answer;
      head = c.head_length-start.ensures ∙ ap head_length sections.read;
      steps = c.step_count-steps.ensures.0 ∙ ap (λ (s : Sections). step_count_at s args.plan.now) sections.read;
    }

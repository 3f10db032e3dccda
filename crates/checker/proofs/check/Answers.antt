-- `checker::check` meets its contract: it answers as `check_plan` does, and the place of 21 says what is off. Assumes nothing.
use Rattle.std.proofs.Common.{sym, ◌∙◌, arith}
use Rattle.code_sheets.proofs.ReadingLaws.{code_within_limits}
use Rattle.plans.proofs.OffLaws.{off_if_refused}
use Rattle.checker.proofs.check.Goals as goal

pub returns : goal.returns
returns c =
    let args = c.args in
    let told = c.check_plan.ensures in
    record {
      answer = told.answer;
      demand2 = told.demand2;
      off = λ place refused.
          off_if_refused args.sheet.now args.disks.now args.plan.now (code_within_limits args.sheet.now (λ i. omega (arith, c.type_inv.sheet i)))
          place (sym told.answer ∙ refused);
    }

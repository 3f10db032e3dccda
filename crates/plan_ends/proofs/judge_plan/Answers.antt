-- `plan_ends::judge_plan` meets its contract: the judgement by the plan's sets is the verdict behind the head. Assumes nothing.
use Rattle.std.proofs.Common.{ap, ◌∙◌, sym, subst, ℕ, arith}
use Rattle.bits.specs.BitSets.{has}
use Rattle.bits.specs.Numerals.{numeral, numerals}
use Rattle.codes.specs.Codes.{linear}
use Rattle.plan_sheets.specs.PlanSheets.{sheet_steps}
use Rattle.plans.specs.Judgement.{SetsWithin, judgement}
use Rattle.plans.proofs.EndLaws.{body_by_sets, sets_by_code}
use Rattle.plans.proofs.JudgementLaws.{plan_sets}
use Rattle.plan_ends.proofs.judge_plan.Goals as goal

pub judge-requires : goal.judge-requires
judge-requires c =
    let pre = c.requires.0 in
    let code = c.args.code.now in
    let layout = code.layout in
    let disks = c.args.disks.now in
    let list = c.args.list.now in
    let edition = c.args.head.edition in
    let loss = c.loss_of-loss in
    let sets = plan_sets layout code.within.height_from disks edition pre.disks_good list pre.list_good in (
      omega (arith, loss.ensures.symbols, code.within.symbols_to),
      subst (λ (n : ℕ). SetsWithin n (has (numeral loss.result.survivors)) (has (numeral loss.result.wanted)) loss.result.origin) (sym loss.ensures.symbols)
          (sets_by_code layout disks list edition sets (numeral loss.result.survivors) (numeral loss.result.wanted) loss.ensures.survivors loss.ensures.wanted loss.ensures.origin),
      c.requires.1,
    )

pub returns : goal.returns
returns c =
    let args = c.args in
    let code = args.code.now in
    let loss = c.loss_of-loss in
    let steps = sheet_steps args.step_count args.steps.now in
    c.judge.ensures
    ∙ ap (λ (n : ℕ). judgement (numerals code.rows) n (has (numeral loss.result.survivors)) (has (numeral loss.result.wanted)) loss.result.origin steps args.head.reads) loss.ensures.symbols
    ∙ body_by_sets (linear code) args.disks.now (record { head = args.head; failed = args.disks.now; wanted = args.list.now; steps = steps }) (numeral loss.result.survivors) (numeral loss.result.wanted) loss.ensures.survivors loss.ensures.wanted loss.ensures.origin

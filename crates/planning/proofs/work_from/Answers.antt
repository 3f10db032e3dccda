-- `planning::work_from` meets its contract: the patterns that tell what is gone, or the sheet of the steps from the subsets. Assumes nothing.
use mathlib.Core.Path.{ap, ◌∙◌}
use mathlib.Core.List.{List}
use Rattle.bits.specs.declared.BitSet.{BitSet}
use Rattle.bits.specs.Numerals.{numeral, numerals, padded}
use Rattle.codes.specs.Codes.{linear}
use Rattle.plan_requests.specs.PlanRequests.{asked_by}
use Rattle.planning.proofs.ResultLaws.{worked_patterns, plan_fits, worked_plan}
use Rattle.planning.proofs.work_from.Goals as goal

pub returns-in-Err : goal.returns-in-Err
returns-in-Err c =
    let args = c.args in
    worked_patterns (linear args.code.now) (asked_by args.request) c.requires.0 (numeral args.known) (numeral args.wanted) c.requires.1 c.in-Err.ensures.lost args.buffer.now

pub write_plan-written-requires : goal.write_plan-written-requires
write_plan-written-requires c =
    let args = c.args in
    plan_fits (linear args.code.now) (asked_by args.request) c.requires.0 (numeral args.known) (numeral args.wanted) c.requires.1 c.in-Ok.ensures.found
    (c.array_of.ensures ∙ ap (λ (l : List BitSet). padded (numerals l)) c.as_slice.ensures.value)

pub returns : goal.returns
returns c =
    let args = c.args in
    let written = c.write_plan-written.ensures in
    worked_plan (linear args.code.now) (asked_by args.request) c.requires.0 (numeral args.known) (numeral args.wanted) c.requires.1 c.in-Ok.ensures.found
    (c.array_of.ensures ∙ ap (λ (l : List BitSet). padded (numerals l)) c.as_slice.ensures.value) written.reads written.length written.buffer

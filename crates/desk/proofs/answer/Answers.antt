-- `desk::answer` stays in its buffer: the answer counts bytes at its front. Assumes nothing.
use Rattle.desk_answers.proofs.LineLaws.{written_within}
use Rattle.desk.proofs.answer.Goals as goal

pub slice_bounds-text-end : goal.slice_bounds-text-end
slice_bounds-text-end g c =
    let call = c.write_lines-length in
    (written_within _ _ call.ensures.answer call.ensures.out).0

pub slice_bounds-write_all-end : goal.slice_bounds-write_all-end
slice_bounds-write_all-end g c =
    let call = c.write_lines-length in
    (written_within _ _ call.ensures.answer call.ensures.out).1

-- `code_sheets::write::write_head` meets its contract: six stores from the front. Assumes nothing.
use native.Mathlib.Omega.{arith}
use lib.ListN.{length-set}
use Rattle.codes.specs.Codes.{linear}
use Rattle.code_sheets.proofs.WriteLaws.{head_stored}
use Rattle.code_sheets.proofs.write.write_head.Goals as goal

pub bounds-buffer-1 : goal.bounds-buffer-1
bounds-buffer-1 c = simp length-set (omega arith)

pub bounds-buffer-2 : goal.bounds-buffer-2
bounds-buffer-2 c = simp length-set (omega arith)

pub bounds-buffer-3 : goal.bounds-buffer-3
bounds-buffer-3 c = simp length-set (omega arith)

pub bounds-buffer-4 : goal.bounds-buffer-4
bounds-buffer-4 c = simp length-set (omega arith)

pub returns : goal.returns
returns c =
    let a = c.args in
    head_stored (linear a.code.now) a.buffer.now _ c.symbols.ensures (omega arith)

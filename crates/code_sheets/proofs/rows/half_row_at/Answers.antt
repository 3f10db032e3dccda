-- `code_sheets::rows::half_row_at` meets its contract: four bytes, low byte first. Assumes nothing.
use Rattle.sheets.proofs.ByteLaws.{four_bytes}
use native.Mathlib.Omega.{arith}
use Rattle.code_sheets.proofs.rows.half_row_at.Goals as goal

pub bounds-sheet-at : goal.bounds-sheet-at
bounds-sheet-at c = omega (arith, c.requires)

pub bounds-sheet-at-2 : goal.bounds-sheet-at-2
bounds-sheet-at-2 c = omega (arith, c.requires)

pub overflow_mul-result : goal.overflow_mul-result
overflow_mul-result c = omega (arith, c.wide-2.ensures.1)

pub overflow_add-result : goal.overflow_add-result
overflow_add-result c = omega (arith, c.wide.ensures.1, c.wide-2.ensures.1)

pub bounds-sheet-at-3 : goal.bounds-sheet-at-3
bounds-sheet-at-3 c = omega (arith, c.requires)

pub overflow_mul-result-2 : goal.overflow_mul-result-2
overflow_mul-result-2 c = omega (arith, c.wide-3.ensures.1)

pub overflow_add-result-2 : goal.overflow_add-result-2
overflow_add-result-2 c = omega (arith, c.wide.ensures.1, c.wide-2.ensures.1, c.wide-3.ensures.1)

pub bounds-sheet-at-4 : goal.bounds-sheet-at-4
bounds-sheet-at-4 c = omega (arith, c.requires)

pub overflow_mul-result-3 : goal.overflow_mul-result-3
overflow_mul-result-3 c = omega (arith, c.wide-4.ensures.1)

pub overflow_add-result-3 : goal.overflow_add-result-3
overflow_add-result-3 c = omega (arith, c.wide.ensures.1, c.wide-2.ensures.1, c.wide-3.ensures.1, c.wide-4.ensures.1)

pub returns : goal.returns
returns c = (
  four_bytes c.args.sheet.now c.args.at c.requires
      c.wide.ensures.0
      c.wide-2.ensures.0
      c.wide-3.ensures.0
      c.wide-4.ensures.0,
  omega (arith, c.wide.ensures.1, c.wide-2.ensures.1, c.wide-3.ensures.1, c.wide-4.ensures.1),
)

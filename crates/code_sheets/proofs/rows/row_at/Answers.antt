-- `code_sheets::rows::row_at` meets its contract: eight bytes, low byte first, are two halves. Assumes nothing.
use Rattle.sheets.proofs.ByteLaws.{eight_bytes}
use mathlib.Core.Path.{◌∙◌}
use Rattle.code_sheets.proofs.rows.row_at.Goals as goal

pub returns : goal.returns
returns c =
    c.of_word.ensures
    ∙ eight_bytes c.args.sheet.now c.args.at c.requires c.half_row_at-low.ensures.0 c.half_row_at-high.ensures.0

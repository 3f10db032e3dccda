-- `code_sheets::rows::write_rows` meets its contract. Assumes nothing.
use Rattle.std.proofs.Common.{◌≡◌, ℕ, List, take, refl, ap, ◌∙◌, arith}
use Rattle.std.proofs.lemmas.List.{take_all}
use Rattle.bits.specs.Numerals.{numerals}
use Rattle.bits.proofs.NumeralLaws.{length_numerals, get_or_numerals}
use Rattle.sheets.specs.Buffers.{from_place}
use Rattle.sheets.proofs.BufferLaws.{from_place_nothing}
use Rattle.code_sheets.specs.CodeSheets.{row_bytes}
use Rattle.code_sheets.proofs.RowLaws.{row_stored}
use Rattle.code_sheets.proofs.rows.write_rows.Goals as goal

pub loop-symbol-init : goal.loop-symbol-init
unfolding row_bytes
loop-symbol-init c = (refl, from_place_nothing 6 c.args.buffer.now)

pub write_row-requires : goal.write_row-requires
write_row-requires c = omega (arith, c.sheet_length.ensures)

pub loop-symbol-preserved : goal.loop-symbol-preserved
loop-symbol-preserved c =
    let sets = c.args.rows.now in
    let symbol = c.loop-symbol.symbol in
    let stored = c.write_row in (
      omega (arith, stored.auto.buffer),
      row_stored c.args.buffer.now (numerals sets) c.loop-symbol.buffer _ symbol _ _ (omega arith) (omega (arith, length_numerals sets)) c.loop-symbol.invariant.1
          c.sheet_length.ensures (get_or_numerals sets symbol) stored.ensures,
    )

pub returns : goal.returns
returns c =
    let a = c.args in
    let all : take c.loop-symbol.symbol (numerals a.rows.now) ≡ numerals a.rows.now =
    take_all c.loop-symbol.symbol (numerals a.rows.now) (omega (arith, length_numerals a.rows.now)) in
    c.loop-symbol.invariant.1 ∙ ap (λ (rows : List ℕ). from_place 6 (row_bytes rows) a.buffer.now) all

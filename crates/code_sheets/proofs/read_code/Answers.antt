-- `code_sheets::read_code` meets its contract: the outcomes of the head and of the rows are those of the order of faults. Assumes nothing.
use Rattle.std.proofs.Common.{◌≡◌, ℕ, List, [], ◌∷◌, length, get_or, take, sym, ap, ◌∙◌, subst, arith}
use Rattle.std.proofs.lemmas.List.{length-take}
use Rattle.std.proofs.lemmas.Result.{err_from_is_err_and}
use Rattle.bits.specs.Numerals.{numerals}
use Rattle.bits.proofs.NumeralLaws.{numerals_take, length_numerals}
use Rattle.codes.specs.Codes.{LinearCode, WithinLimits}
use Rattle.code_limits.specs.CodeLimits.{stray_fault}
use Rattle.code_sheets.specs.CodeSheets.{code_in}
use Rattle.code_sheets.specs.CodeReading.{CodeRead, reading}
use Rattle.code_sheets.proofs.ReadingLaws.{head_of, head_as_read, reading_head_refused, reading_stray, reading_fine, code_within_limits, sheet_within, stray_as_read, code_as_read}
use Rattle.refusals.specs.Orders.{Fine, first_of, outcome}
use Rattle.code_sheets.proofs.read_code.Goals as goal
use Rattle.code_sheets.proofs.read_code.Goals.{After-head_test, In_ok-head_test, After-stray_test, In_ok-stray_test}

-- The outcome of the head is that of the sheet's head
head_read : (c : After-head_test) → outcome c.head_test.result ≡ head_of c.args.sheet.now
head_read c =
    head_as_read c.args.sheet.now c.byte_at-count.ensures.0 c.byte_at-edition.ensures.0 c.byte_at-disks.ensures.0
    c.byte_at-height.ensures.0 c.byte_at-data_symbols.ensures.0 c.byte_at-symbols.ensures.0 c.head_test.ensures

-- Where the head has no fault, that outcome is fine
head_fine : (c : In_ok-head_test) → head_of c.args.sheet.now ≡ Fine
head_fine c = sym (head_read (goal.at.In_ok-head_test c).After-head_test) ∙ ap outcome c.in_ok-head_test.was

-- The outcome of the rows is that of the sheet's rows
rows_read : (c : After-stray_test) → outcome c.stray_test.result
    ≡ first_of (stray_fault (code_in c.args.sheet.now).rows (get_or c.args.sheet.now 5 0) (get_or c.args.sheet.now 4 0) ∷ [])
rows_read c =
    let sheet = c.args.sheet.now in
    let rows = c.read_rows-rows.result in
    let symbols = c.byte_at-symbols.result in
    let within = sheet_within sheet (head_fine (goal.at.After-stray_test c).In_ok-head_test) in
    let many : length (take symbols rows) ≡ length (take symbols (numerals rows)) =
    sym (length_numerals (take symbols rows)) ∙ ap length (numerals_take symbols rows) in
    stray_as_read sheet (numerals rows) c.read_rows-rows.ensures c.byte_at-symbols.ensures.0 c.byte_at-data_symbols.ensures.0
    (omega (arith, within, c.byte_at-symbols.ensures.0))
    (c.stray_test.ensures ∙ ap (λ (n : ℕ). first_of (stray_fault (numerals (take symbols rows)) n c.byte_at-data_symbols.result ∷ [])) many
    ∙ ap (λ (l : List ℕ). first_of (stray_fault l (length (take symbols (numerals rows))) c.byte_at-data_symbols.result ∷ [])) (numerals_take symbols rows))

-- What is read is the sheet's code
code_read : (c : In_ok-stray_test) → ◌≡◌ {A = CodeRead} (record { verdict = Fine; code = record { layout = record { disks = c.byte_at-disks.result; height = c.byte_at-height.result }; data_symbols = c.byte_at-data_symbols.result; rows = numerals c.read_rows-rows.result } }) (reading c.args.sheet.now)
code_read c =
    let sheet = c.args.sheet.now in
    let at = goal.at.In_ok-stray_test c in
    ap (λ (k : LinearCode). record { verdict = Fine; code = k })
    (code_as_read sheet (numerals c.read_rows-rows.result) c.byte_at-disks.ensures.0 c.byte_at-height.ensures.0
    c.byte_at-data_symbols.ensures.0 c.byte_at-symbols.ensures.0 c.read_rows-rows.ensures)
    ∙ sym (reading_fine sheet (head_fine at.In_ok-head_test) (ap outcome (sym c.in_ok-stray_test.was) ∙ rows_read at.After-stray_test))

pub returns-in_err-head_test : goal.returns-in_err-head_test
returns-in_err-head_test c =
    let p = err_from_is_err_and c.from_residual.result c.from_residual.ensures.1 in
    let head = head_read (goal.at.returns-in_err-head_test c).After-head_test in
    rw (p.1, p.2) (record { answer = sym (reading_head_refused c.args.sheet.now _ (sym head ∙ ap outcome c.in_err-head_test.was)); limits = tt })

pub read_rows-rows-requires : goal.read_rows-rows-requires
read_rows-rows-requires c =
    let limits = sheet_within c.args.sheet.now (head_fine (goal.at.read_rows-rows-requires c).In_ok-head_test) in
    let symbols = c.byte_at-symbols in
    (omega (arith, limits, symbols.ensures), omega (arith, limits, symbols.ensures))

pub stray_test-requires : goal.stray_test-requires
stray_test-requires c =
    let limits = sheet_within c.args.sheet.now (head_fine (goal.at.stray_test-requires c).In_ok-head_test) in
    let symbols = c.byte_at-symbols in (
      omega (arith, limits, symbols.ensures, length-take symbols.result c.read_rows-rows.result),
      omega (arith, limits, c.byte_at-data_symbols.ensures),
    )

pub returns-in_err-stray_test : goal.returns-in_err-stray_test
returns-in_err-stray_test c =
    let p = err_from_is_err_and c.from_residual-in_err-stray_test.result c.from_residual-in_err-stray_test.ensures.1 in
    let at = goal.at.returns-in_err-stray_test c in
    rw (p.1, p.2)
    (record { answer = sym (reading_stray c.args.sheet.now _ (head_fine at.In_ok-head_test) (ap outcome (sym c.in_err-stray_test.was) ∙ rows_read at.After-stray_test)); limits = tt })

-- And it is within the limits
within : (c : In_ok-stray_test) → WithinLimits (record { layout = record { disks = c.byte_at-disks.result; height = c.byte_at-height.result }; data_symbols = c.byte_at-data_symbols.result; rows = numerals c.read_rows-rows.result })
within c =
    let sheet = c.args.sheet.now in
    let fine : (reading sheet).verdict ≡ Fine = ap (λ (r : CodeRead). r.verdict) (sym (code_read c)) in
    subst (λ (r : CodeRead). WithinLimits r.code) (sym (code_read c)) (code_within_limits sheet (λ i. omega (arith, c.type_inv.sheet i)) fine)

pub invariant_of-result : goal.invariant_of-result
invariant_of-result c = record { within = within (goal.at.invariant_of-result c).In_ok-stray_test }

pub returns : goal.returns
returns c = let read = (goal.at.returns c).In_ok-stray_test in record { answer = code_read read; limits = within read }

-- `families::write_family` meets its contract: 36, 37, or the sheet and its length. Assumes nothing.
use Rattle.std.proofs.Common.{◌≡◌, ℕ, Bool, true, not, List, [], ◌∷◌, length, ltb, sym, ap, ◌∙◌, arith}
use Rattle.std.proofs.lemmas.Result.{err_from_is_err_and}
use borrow.Author.Tests.{not-false}
use Rattle.codes.specs.Codes.{LinearCode}
use Rattle.code_sheets.specs.CodeSheets.{code_sheet}
use Rattle.family_codes.specs.Families.{listed}
use Rattle.families.specs.FamilySheets.{family_verdict}
use Rattle.families.proofs.AnswerLaws.{family_verdict_first, family_verdict_of_listed, fine_so_room, refused_call, written_call}
use Rattle.refusals.specs.Orders.{Outcome, Fine, or_if, outcome, ◌gets◌}
use Rattle.refusals.specs.Refusals.{numbered, ◌at◌}
use Rattle.refusals.proofs.OrderLaws.{fine_means_none_holds}
use Rattle.sheets.specs.Buffers.{at_front}
use Rattle.families.proofs.write_family.Goals as goal
use Rattle.families.proofs.write_family.Goals.{In_ok-refuse_if, After-refuse_if-2, In_ok-refuse_if-2}

-- 36 let the family through
is_listed : (c : In_ok-refuse_if) → listed c.args.family ≡ true
is_listed c =
    sym c.is_listed.ensures
    ∙ not-false _ (fine_means_none_holds Fine ((not c.is_listed.result gets 36 at 0) ∷ []) (sym c.in_ok-refuse_if.ensures)).1.0

-- What 37 says is the verdict
verdict_is : (c : After-refuse_if-2) → family_verdict c.args.family (length c.args.buffer.now) ≡ outcome c.refuse_if-2.result
verdict_is c =
    let size = length c.args.buffer.now in
    let tested = c.refuse_if-2.ensures ∙ ap (λ (bytes : ℕ). or_if Fine (ltb size bytes) (37 at 0)) c.sheet_length_of-sheet_bytes.ensures in
    sym (tested ∙ family_verdict_of_listed c.args.family size (is_listed (goal.at.After-refuse_if-2 c).In_ok-refuse_if))

fine : (c : In_ok-refuse_if-2) → family_verdict c.args.family (length c.args.buffer.now) ≡ Fine
fine c = verdict_is (goal.at.In_ok-refuse_if-2 c).After-refuse_if-2 ∙ ap outcome c.in_ok-refuse_if-2.was

pub returns-in_err-refuse_if : goal.returns-in_err-refuse_if
returns-in_err-refuse_if c =
    let a = c.args in
    let p = err_from_is_err_and c.from_residual.result c.from_residual.ensures.1 in
    let tested = c.in_err-refuse_if.ensures ∙ ap (λ (known : Bool). or_if Fine (not known) (36 at 0)) c.is_listed.ensures in
    let call = refused_call a.family a.buffer.now _ (family_verdict_first a.family (length a.buffer.now) _ tested) in
    rw (p.1, p.2) (record { answer = call.0; buffer = call.1.0; read_back = call.1.1 })

pub sheet_length_of-sheet_bytes-requires : goal.sheet_length_of-sheet_bytes-requires
sheet_length_of-sheet_bytes-requires c = is_listed (goal.at.sheet_length_of-sheet_bytes-requires c).In_ok-refuse_if

pub returns-in_err-refuse_if-2 : goal.returns-in_err-refuse_if-2
returns-in_err-refuse_if-2 c =
    let a = c.args in
    let p = err_from_is_err_and c.from_residual-in_err-refuse_if-2.result c.from_residual-in_err-refuse_if-2.ensures.1 in
    let call = refused_call a.family a.buffer.now _ (verdict_is (goal.at.returns-in_err-refuse_if-2 c).After-refuse_if-2 ∙ ap outcome c.in_err-refuse_if-2.was) in
    rw (p.1, p.2) (record { answer = call.0; buffer = call.1.0; read_back = call.1.1 })

pub code_of-requires : goal.code_of-requires
code_of-requires c = is_listed (goal.at.code_of-requires c).In_ok-refuse_if

pub write_code-requires : goal.write_code-requires
write_code-requires c =
    let a = c.args in
    omega
    (arith, ap (λ (code : LinearCode). length (code_sheet code)) c.code_of.ensures, fine_so_room a.family (length a.buffer.now) (fine (goal.at.write_code-requires c).In_ok-refuse_if-2))

pub returns : goal.returns
returns c =
    let a = c.args in
    let call =
    written_call a.family a.buffer.now _ _ (fine (goal.at.returns c).In_ok-refuse_if-2) c.sheet_length_of-sheet_bytes.ensures
    (c.write_code.ensures ∙ ap (λ (code : LinearCode). at_front (code_sheet code) a.buffer.now) c.code_of.ensures) in
    record { answer = call.0; buffer = call.1.0; read_back = call.1.1 }

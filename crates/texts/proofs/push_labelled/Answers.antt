-- `push_labelled` meets its contract. Assumes nothing.
use Rattle.std.proofs.Common.{arith, append_assoc, length-append}
use Rattle.std.proofs.lemmas.Fmt.{length-decimal-le}
use Rattle.texts.proofs.DecimalLaws.{printed_behind}
use Rattle.texts.proofs.push_labelled.Goals as goal

pub returns-clause-bytes : goal.returns-clause-bytes
returns-clause-bytes g c = rw (← printed_behind c.args.label.now c.args.number (omega arith)) (rw (← append_assoc) cc)

pub returns-clause-short : goal.returns-clause-short
returns-clause-short g c =
    rw (← printed_behind c.args.label.now c.args.number (omega arith))
    (simp length-append (omega (arith, length-decimal-le 20 c.args.number)))

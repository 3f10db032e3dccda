-- The number of equations goes out as its contract says. Assumes nothing.
use Rattle.std.proofs.Common.{ℕ, sym, ap, ◌∙◌}
use Rattle.bits.proofs.NumeralLaws.{length_numerals}
use Rattle.answers.specs.SurvivorAnswers.{out_equations}
use Rattle.answers.specs.declared.survivors.OutCount.{OutCount}
use Rattle.soundness.specs.Survivors.{as_listed}
use Rattle.answers.proofs.survivors.OutCountFromRefResultSetListRefusal.from.Goals as goal

pub returns-in-Ok : goal.returns-in-Ok
returns-in-Ok c =
    ap (λ (n : ℕ). record { number = 0; place = 0; count = n }) (c.len.ensures.value ∙ sym (length_numerals c.in-Ok.equations.items))
    ∙ sym (ap (λ r. out_equations (as_listed r)) c.in-Ok.is)

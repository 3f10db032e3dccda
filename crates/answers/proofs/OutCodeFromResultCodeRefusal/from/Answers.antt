-- A code that was read goes out as its contract says; a refused one has no array, whose numbers are all 0. Assumes nothing.
use Rattle.std.proofs.Common.{ℕ, sym, ap, ap₂, ◌∙◌}
use Rattle.answers.specs.Answers.{out_code}
use Rattle.answers.specs.declared.OutCode.{OutCode}
use Rattle.codes.specs.Layouts.{symbols_of}
use Rattle.code_sheets.specs.CodeReading.{as_read}
use Rattle.answers.proofs.OutCodeFromResultCodeRefusal.from.Goals as goal

-- A refusal's number and place, and nothing else
abbrev refused : ℕ → ℕ → OutCode
refused number place = record { number = number; place = place; disks = 0; rows = 0; data_symbols = 0; symbols = 0 }

pub returns-in-Err : goal.returns-in-Err
unfolding symbols_of
returns-in-Err c = ap₂ refused c.number.ensures c.place.ensures ∙ sym (ap (λ r. out_code (as_read r)) c.in-Err.is)

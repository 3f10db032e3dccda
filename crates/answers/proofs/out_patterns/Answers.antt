-- `answers::out_patterns` meets its contract. Assumes nothing.
use Rattle.std.proofs.Common.{ℕ, sym, ap₂, ◌∙◌}
use native.Mathlib.Nat.{mod-eq_of_lt}
use Rattle.bits.proofs.NumeralLaws.{length_numerals}
use Rattle.answers.specs.declared.OutPlanned.{OutPlanned}
use Rattle.answers.proofs.out_patterns.Goals as goal

-- Patterns, and nothing else
abbrev shown : ℕ → ℕ → OutPlanned
shown pattern count = record { number = 0; place = 0; length = 0; reads = 0; pattern = pattern; pattern_high = 0; patterns = count }

pub returns : goal.returns
returns c = ap₂ shown (c.listed_word.ensures ∙ mod-eq_of_lt c.requires.0) (c.len.ensures.value ∙ sym (length_numerals c.args.patterns.now.items))

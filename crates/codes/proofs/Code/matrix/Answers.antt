-- `codes::Code::matrix` meets its contract. Assumes nothing.
use Rattle.std.proofs.Common.{take, ℕ, ap, ◌∙◌}
use Rattle.bits.specs.Numerals.{numerals}
use Rattle.bits.proofs.NumeralLaws.{numerals_take}
use Rattle.codes.proofs.Code.matrix.Goals as goal

pub returns : goal.returns
returns c = numerals_take c.symbols.result c.args.self.now.rows ∙ ap (λ (count : ℕ). take count (numerals c.args.self.now.rows)) c.symbols.ensures

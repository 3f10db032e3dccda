-- `soundness::equations_for` meets its contract: the equations among the rows of the symbols that survive. Assumes nothing.
use mathlib.Core.Path.{ap, ◌∙◌}
use Prim.Native.Nat.{ℕ}
use native.Mathlib.Omega.{arith}
use borrow.Author.Tests.{ltb-true}
use lib.ListN.{take}
use Rattle.bits.specs.BitSets.{has}
use Rattle.bits.specs.Numerals.{numeral}
use Rattle.codes.specs.Codes.{linear}
use Rattle.codes.proofs.LimitLaws.{layout_within}
use Rattle.gf2.specs.InnerElimination.{units}
use Rattle.spans.specs.InnerSpans.{equations_of}
use Rattle.soundness.proofs.CallLaws.{are_equations, equations_for_code}
use Rattle.soundness.proofs.equations_for.Goals as goal

pub lost_symbols-gone-requires : goal.lost_symbols-gone-requires
lost_symbols-gone-requires c =
    (layout_within (linear c.args.code.now) c.args.code.now.within, λ i h. ltb-true _ _ (c.requires.each_allowed i h))

pub loss_of-loss-requires : goal.loss_of-loss-requires
loss_of-loss-requires c = (
  layout_within (linear c.args.code.now) c.args.code.now.within,
  ltb-true _ _ (c.requires.each_allowed 0 c.requires.count_from),
  c.lost_symbols-gone.ensures.lost,
  λ i h. absurd (omega arith),
)

pub equations_among-requires-clause-rows_fit : goal.equations_among-requires-clause-rows_fit
equations_among-requires-clause-rows_fit c = omega (arith, c.symbols.ensures, c.args.code.now.within.symbols_to)

pub returns : goal.returns
returns c =
    let code = linear c.args.code.now in
    let within = c.args.code.now.within in
    let disks = c.args.disks.now in
    let loss = c.loss_of-loss in
    let known = numeral loss.result.survivors in
    let made = c.equations_among.ensures ∙ ap (λ (count : ℕ). equations_of (units code.data_symbols) (has known) (take count code.rows)) c.symbols.ensures in
    record { list = are_equations code within disks known loss.ensures.survivors made; equations = equations_for_code code within disks known loss.ensures.survivors made }

-- `Layout::height_of` meets its contract. Assumes nothing.
use mathlib.Core.Path.{refl}
use Rattle.codes.specs.Layouts.{height_of}
use Rattle.codes.proofs.Layout.height_of.Goals as goal

pub returns : goal.returns
unfolding height_of
returns c = refl

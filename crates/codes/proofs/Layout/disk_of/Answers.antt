-- `Layout::disk_of` meets its contract. Assumes nothing.
use mathlib.Core.Path.{refl}
use Rattle.codes.specs.Layouts.{disk_of}
use Rattle.codes.proofs.Layout.disk_of.Goals as goal

pub returns : goal.returns
unfolding disk_of
returns c = refl

-- `sheets::write_two_bytes` meets its contract: two stores. Assumes nothing.
use mathlib.Core.Path.{ap, ◌∙◌}
use mathlib.Core.List.{[], ◌∷◌}
use Prim.Native.Nat.{ℕ, ◌/◌, ◌%◌}
use native.Mathlib.Numerals.{add-one}
use native.Mathlib.Omega.{arith}
use lib.ListN.{set, length-set}
use lib.Seq.{sets-eq}
use Rattle.sheets.proofs.write_two_bytes.Goals as goal

pub bounds-buffer-at : goal.bounds-buffer-at
bounds-buffer-at c = omega (arith, c.requires.2)

pub overflow_cast-buffer-2 : goal.overflow_cast-buffer-2
overflow_cast-buffer-2 c = omega (arith, c.requires.0)

pub overflow_add-buffer : goal.overflow_add-buffer
overflow_add-buffer c = omega (arith, c.requires.1)

pub bounds-buffer-at-2 : goal.bounds-buffer-at-2
bounds-buffer-at-2 c = simp length-set (omega (arith, c.requires.2))

pub shape_of-buffer : goal.shape_of-buffer
shape_of-buffer c = simp length-set

pub returns : goal.returns
returns c =
    let a = c.args in
    ap (λ (n : ℕ). set (set a.buffer.now a.at (a.number % 256)) n (a.number / 256)) (add-one a.at)
    ∙ sets-eq (a.number % 256 ∷ a.number / 256 ∷ []) a.buffer.now a.at (omega (arith, c.requires.2))

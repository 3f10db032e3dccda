-- How the answers of the tester for survivors (document 02, §8) go out to C. What a case does not have goes out as 0.
use Rattle.std.specs.Prelude.{List, ◌≡◌, ℕ, ◌%◌, ◌^◌, length, get_or}
use Rattle.answers.specs.declared.OutSet.{OutSet}
use Rattle.refusals.specs.Orders.{Answer, Gives, Refuses}
use Rattle.soundness.specs.Survivors.{ListPromised, YesOrNo, Yes, No, TestPromised}
use Rattle.answers.specs.declared.survivors.OutCount.{OutCount}
use Rattle.answers.specs.declared.survivors.OutTested.{OutTested}

-- How many equations there are
abbrev pub out_equations : Answer (List ℕ) → OutCount
out_equations (Gives equations) = record { number = 0; place = 0; count = length equations }
out_equations (Refuses refusal) = record { number = refusal.number; place = refusal.place; count = 0 }

-- One of them: no symbols from the last on
abbrev pub out_equation : Answer (List ℕ) → ℕ → OutSet
out_equation (Gives equations) index = record { number = 0; place = 0; low = get_or equations index 0 % 2 ^ 64; high = 0 }
out_equation (Refuses refusal) index = record { number = refusal.number; place = refusal.place; low = 0; high = 0 }

-- Sound, or not and a column
abbrev pub out_tested : Answer YesOrNo → OutTested
out_tested (Gives Yes) = record { number = 0; place = 0; sound = 1; column = 0 }
out_tested (Gives (No column)) = record { number = 0; place = 0; sound = 0; column = column }
out_tested (Refuses refusal) = record { number = refusal.number; place = refusal.place; sound = 0; column = 0 }

-- What is promised of the number of equations that goes out, and of one of them
pub record EquationsOut (code_sheet disks : List ℕ) (out : OutCount) : Type 0 where
  pub answer : Answer (List ℕ)
  pub goes_out : out ≡ out_equations answer
  pub promised : ListPromised code_sheet disks answer

pub record EquationOut (code_sheet disks : List ℕ) (index : ℕ) (out : OutSet) : Type 0 where
  pub answer : Answer (List ℕ)
  pub goes_out : out ≡ out_equation answer index
  pub promised : ListPromised code_sheet disks answer

-- What is promised of the test's answer that goes out
pub record TestedOut (code_sheet disks : List ℕ) (size : ℕ) (stripe : List ℕ) (out : OutTested) : Type 0 where
  pub answer : Answer YesOrNo
  pub goes_out : out ≡ out_tested answer
  pub promised : TestPromised code_sheet disks size stripe answer

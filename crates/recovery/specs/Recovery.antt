-- What the families are for (document 02, §1, §4 and §5): a disk that is lost can be rebuilt, and so can any two.
use Rattle.std.specs.Prelude.{◌≡◌, true, [], ◌∷◌, ℕ, ◌<◌}
use Rattle.codes.specs.Codes.{LinearCode}
use Rattle.family_codes.specs.Families.{listed, family_code}
use Rattle.family_codes.specs.declared.Family.{Family}
use Rattle.planning.specs.Demand3.{SomePlanAccepted}
use Rattle.plan_requests.specs.PlanRequests.{Asked, whole_disk, listed_on_set}

-- Two disks, whole
abbrev pub whole_pair : ℕ → ℕ → Asked
whole_pair disk other = listed_on_set (disk ∷ other ∷ []) []

-- Any two disks have a plan: some plan of any length would be accepted (demand 3)
abbrev pub EachPairHasAPlan : LinearCode → Type 0
EachPairHasAPlan code = (disk other : ℕ) → disk < other → other < code.layout.disks → SomePlanAccepted code (whole_pair disk other)

-- Each disk has a plan
abbrev pub EachDiskHasAPlan : LinearCode → Type 0
EachDiskHasAPlan code = (disk : ℕ) → disk < code.layout.disks → SomePlanAccepted code (whole_disk disk)

-- Any two of a family's disks have a plan, for every listed parameter
abbrev pub RecoversEachPair : (ℕ → Family) → Type 0
RecoversEachPair family = (parameter : ℕ) → listed (family parameter) ≡ true → EachPairHasAPlan (family_code (family parameter))

-- Each of them has one
abbrev pub RecoversEachDisk : (ℕ → Family) → Type 0
RecoversEachDisk family = (parameter : ℕ) → listed (family parameter) ≡ true → EachDiskHasAPlan (family_code (family parameter))

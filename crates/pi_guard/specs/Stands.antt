use Rattle.std.specs.Prelude.{◌≡◌, ℕ, List}
use Rattle.pi_guard.specs.declared.GuardKind.{GuardKind}
use Rattle.pi_guard.specs.declared.GuardKind.TheVariants.{Crc, Ip}
use Rattle.pi_guard.specs.declared.GuardRun.{GuardRun}
use Rattle.pi_guard.specs.declared.RunState.{RunState}
use Rattle.pi_guard.specs.Guards.{crc, word_sum}
use Rattle.pi_guard.specs.Words.{folded, is_half_open}

-- the kind of a run
unfoldable pub kind_of : GuardRun → GuardKind
kind_of run = run.kind

-- what a run of this kind keeps of the bytes
unfoldable pub StandsAs : GuardKind → GuardRun → List ℕ → Type 0
StandsAs Crc run b = run.register ≡ crc b
StandsAs Ip run b = (run.sum ≡ folded (word_sum b)) × (run.half_open ≡ is_half_open b)

-- the run has read these bytes
unfoldable pub Stands : GuardRun → List ℕ → Type 0
Stands run b = StandsAs run.kind run b

-- what the state of a run of this kind keeps of the bytes
unfoldable pub IsKeptAs : GuardKind → RunState → List ℕ → Type 0
IsKeptAs Crc state b = state.value ≡ crc b
IsKeptAs Ip state b = (state.value ≡ folded (word_sum b)) × (state.half_open ≡ is_half_open b)

-- a run of this state has read these bytes
unfoldable pub IsKept : RunState → List ℕ → Type 0
IsKept state b = IsKeptAs state.kind state b

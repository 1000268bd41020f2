use Rattle.std.proofs.Common.{refl}
use Rattle.mirror_volume.proofs.Asked.{asked, still_asked}
use Rattle.mirror_volume.proofs.legs_laws.a_mirror_has_what_its_legs_ask.Goals as goal

pub returns-clause-script : goal.returns-clause-script
returns-clause-script c = asked

pub returns-clause-repair : goal.returns-clause-repair
returns-clause-repair c = still_asked

pub returns-clause-setting : goal.returns-clause-setting
returns-clause-setting c = λ s t units. refl

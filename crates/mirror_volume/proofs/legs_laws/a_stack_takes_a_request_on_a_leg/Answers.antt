use Rattle.mirror_volume.proofs.Suits.{read_ready, write_ready}
use Rattle.mirror_volume.proofs.legs_laws.a_stack_takes_a_request_on_a_leg.Goals as goal

pub returns-clause-writes : goal.returns-clause-writes
returns-clause-writes c = λ s t devices half p app bytes is fits whole. write_ready s t devices half p is fits app bytes whole

pub returns-clause-reads : goal.returns-clause-reads
returns-clause-reads c = λ s t devices half p is fits. read_ready s t devices half p is fits

use Rattle.mirror_laws.specs.OneGood.{script_asks}
use Rattle.mirror_laws.proofs.Known.{all_accounted, all_kept, all_serve}
use Rattle.mirror_laws.proofs.faults_that_can_be_shown_are_known.Goals as goal

pub returns : goal.returns
returns c = record {
  accounted = λ m half ops opening h. all_accounted m (script_asks m half ops opening) opening h;
  kept = λ m half ops opening h. all_kept m (script_asks m half ops opening) opening h;
  served = λ m half ops opening virt h. all_serve m virt (script_asks m half ops opening) opening h;
}

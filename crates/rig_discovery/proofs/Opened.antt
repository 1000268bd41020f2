-- An image that is told and has no fault is opened.
use Rattle.std.proofs.Common.{List, ℕ, ◌≡◌, Some, None, ◌∙◌, Option, sym, ap, true, false}
use Rattle.rig_api.specs.declared.rig.RigFault.{RigFault}
use Rattle.rig_api.specs.State.{RigState}
use Rattle.rig_api.specs.Head.{head_fault, head_of}
use Rattle.rig_discovery.specs.Openings.{ImageWasOpened, IsBad}
use Rattle.rig_api.proofs.HeadLaws.{headed}
use Rattle.std.specs.Prelude.{is_some}
use Rattle.rig_api.specs.Telling.{units_told}

pub right_head : (image : List ℕ) (x : RigFault) (name : List ℕ) (old new : RigState) → old.image ≡ Some image → new.image ≡ old.image → head_fault (head_of image) ≡ None → ImageWasOpened name (Some x) old new → ⊥
right_head image x name old new e k good opened =
    let head : new.standing.head ≡ head_of image = headed new.standing.head image new.image (k ∙ e) opened.head in
    let both : ◌≡◌ {A = Option RigFault} (Some x) None = sym opened.judged ∙ ap head_fault head ∙ good in
    cc

pub told_is_good : (image name : List ℕ) (dev : ℕ) (old new : RigState) → old.image ≡ Some image → IsBad name dev old new → ⊥
told_is_good image name dev old new e b =
    let told : is_some b.between.units ≡ true = ap is_some (b.since.laid ∙ ap (units_told b.between.standing) (b.since.kept.image ∙ e)) in
    let untold : is_some b.between.units ≡ false = b.untold in
    cc

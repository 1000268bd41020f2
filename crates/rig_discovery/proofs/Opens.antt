-- What the opening of an image comes to.
use Rattle.std.proofs.Common.{ℕ, ◌≡◌, List, Option, None, Ok, Err, refl, sym, subst}
use Rattle.rig_api.specs.Head.{IsHeadOf}
use Rattle.rig_api.specs.State.{IsJudgement, KeepsRecords, RigState}
use Rattle.rig_api.specs.Telling.{Opened, OpenedBy}
use Rattle.rig_api.specs.declared.rig.RigFault.{RigFault}
use Rattle.rig_api.specs.declared.rig.RigFault.TheVariants as rig
use Rattle.rig_discovery.specs.Openings.{HasKept, ImageWasOpened, OpenedOnce, WhyUntold}
use Rattle.rig_discovery.specs.declared.opening.Untold.TheVariants as why

pub kept_by : (old new : RigState) → new.image ≡ old.image → KeepsRecords old new → HasKept old new
kept_by old new e k = record { image = e; armed = k.armed; log = k.log; count = k.count }

-- a right head is opened
pub opened : {X : Type 0} (x : X) (name : List ℕ) (old new : RigState) → IsJudgement {X = X} (Ok x) old new → Opened name old.standing new.standing → new.image ≡ old.image → ImageWasOpened name None old new
opened x name old new j o e = record { opened = o; judged = j.judged; head = subst (λ (i : Option (List ℕ)). IsHeadOf new.standing.head i) (sym e) j.head }

-- why an image isn't opened
pub unopened : {X : Type 0} (f : RigFault) (name : List ℕ) (old new : RigState) → IsJudgement {X = X} (Err f) old new → OpenedBy {X = X} (Err f) name old.standing new.standing → OpenedOnce name old.standing new.standing → new.image ≡ old.image → KeepsRecords old new →
    WhyUntold (why.Rig f) name old new
unopened rig.Failed name old new j o once e k = (j.failed refl, o, kept_by old new e k)
unopened rig.Memory name old new j o once e k = (kept_by old new e k, once)
unopened rig.BadMagic name old new j o once e k = (record { opened = o; judged = j.judged; head = subst (λ (i : Option (List ℕ)). IsHeadOf new.standing.head i) (sym e) j.head }, kept_by old new e k)
unopened rig.BadHeader name old new j o once e k = (record { opened = o; judged = j.judged; head = subst (λ (i : Option (List ℕ)). IsHeadOf new.standing.head i) (sym e) j.head }, kept_by old new e k)
unopened rig.BadLength name old new j o once e k = (record { opened = o; judged = j.judged; head = subst (λ (i : Option (List ℕ)). IsHeadOf new.standing.head i) (sym e) j.head }, kept_by old new e k)

-- The room of the rig that is left.
use Rattle.std.proofs.Common.{◌≡◌, ◌≤◌, ℕ, ◌+◌, ◌*◌, true, List, arith}
use Rattle.std.proofs.Math.Nat.{mul-le-mul_left}
use Rattle.bio_core.specs.declared.fate.Fate.{Fate}
use Rattle.dix_adapter.specs.Passed.{HasRoom, Room}
use Rattle.stack_laws.specs.Plan.{Plan}
use Rattle.stack_laws.specs.Room.{exchanges_left, frames_left}
use Rattle.stack_laws.specs.Sound.{Answered}
use Rattle.stack_laws.specs.Steps.{Step, can, step}
use Rattle.stack_laws.specs.View.{View}
use Rattle.stack_laws.proofs.Room.{exchanges-fall, frames-fall}
use Rattle.stack_steps.specs.declared.machine.Machine.{Machine}
use Rattle.stack_steps.specs.Does.{Holds}
use Rattle.stack_steps.specs.Fine.{Fine}

-- room for more is room for less
pub fewer : (size e f e₂ f₂ : ℕ) (r : Room) → HasRoom size e f r → e₂ ≤ e → f₂ ≤ f → HasRoom size e₂ f₂ r
fewer size e f e₂ f₂ r h l m =
    let x : (size + 8) * f₂ ≤ (size + 8) * f = mul-le-mul_left (size + 8) m in
    let a = h.records in
    let b = h.labels in
    let c = h.moved in
    record { records = omega arith; labels = omega arith; moved = omega arith }

-- whatever step is done, no more room is needed than before
pub next-spare : (p : Plan) (m : Machine) (v : View) (t : Step) (cut : ℕ) (fates : List Fate) (size : ℕ) (r : Room) → Fine p → Holds p m v → can p v t ≡ true → Answered v t fates →
    HasRoom size (exchanges_left v) (frames_left p v) r → HasRoom size (exchanges_left (step p v t cut fates)) (frames_left p (step p v t cut fates)) r
next-spare p m v t cut fates size r f h c a s =
    let x = exchanges-fall p v t cut fates f.on_devices h.shows.sound h.shows.accounted c a in
    let y = frames-fall p v t cut fates f.on_devices h.shows.sound c a in
    fewer size (exchanges_left v) (frames_left p v) (exchanges_left (step p v t cut fates)) (frames_left p (step p v t cut fates)) r s (omega arith) (omega arith)

-- The next op of a mirror, over a rig that tells its blocks.
use Rattle.std.proofs.Common.{◌≡◌, ◌<◌, ℕ, ◌+◌, ◌⊎◌, inl, inr, List, [], ◌∷◌, ◌++◌, length, map, Option, Some, refl, sym, ap, ◌∙◌, subst, arith}
use Rattle.std.specs.Prelude.{is_some}
use Rattle.page_pool.specs.Pages.{AreWhole}
use Rattle.rig_api.specs.Telling.{IsStanding, block_at, changed, units_told, with_block}
use Rattle.rig_api.specs.State.{RigState}
use Rattle.rig_discovery.specs.Discovery.{info_of}
use Rattle.rig_api.specs.Target.{Stored}
use Rattle.rig_api.specs.declared.units.UnitSpec.{UnitSpec}
use Rattle.volume_table.specs.declared.device.DeviceInfo.{DeviceInfo}
use Rattle.volume_table.specs.Tables.{Table}
use Rattle.dix_adapter.specs.Ways.{shapes_of}
use Rattle.stack_ops.specs.declared.op.Op.{Op}
use Rattle.stack_ops.specs.declared.op.Op.TheVariants.{Fetch, FetchPi, Fill, Overwrite, Put, Seal, Show, Wait, Write, WritePi}
use Rattle.stack_ops.specs.declared.reply.Reply.{Reply}
use Rattle.stack_ops.specs.declared.reply.Reply.TheVariants.{Medium, Silent}
use Rattle.script_text.specs.declared.script.Script.{Script}
use Rattle.mirror_volume.specs.LegsPassed.{table_of, medium_replies, AreStored}
use Rattle.mirror_volume.proofs.LegsPassed.{told-shapes, told-stored, is_told}
use Rattle.mirror_volume.specs.LegRuns.{LegRun, NoneUnscheduled}
use Rattle.mirror_volume.specs.OnOps.{DidOp, OpBy, OpRan, OpWalked, Sides}
use Rattle.mirror_volume.specs.Standing.{HasLegDevices, IsBoundMirror, KeepsToWalk, StandsAt, half_of, op_at}

-- an overwrite that doesn't reply that its store call failed was made
silent : (reply : Reply) → medium_replies (reply ∷ []) ≡ 0 → (reply ≡ Silent) ⊎ (reply ≡ Medium) → reply ≡ Silent
silent reply none (inl e) = e
silent reply none (inr e) = let one : medium_replies (reply ∷ []) ≡ 1 = ap (λ (r : Reply). medium_replies (r ∷ [])) e in absurd (omega (arith, none, one))

-- where no store call failed, by what is told
pub op-walked : (s : Script) (t : Table) (devices : List DeviceInfo) (half number : ℕ) (op : Op) (old new : Sides) (before after : RigState) (runs : List LegRun) (reply : Reply) (us : List Stored)
    → OpRan op t devices runs before after → DidOp s half number op old new before after runs reply → before.units ≡ Some us → NoneUnscheduled runs (reply ∷ []) → (left : List Stored) × ((after.units ≡ Some left) × OpWalked op t us runs reply left)
op-walked s t devices half number (Fill seg byte) old new before after runs reply us ran did e none = ran.told us e none.legs
op-walked s t devices half number (Put page off bytes) old new before after runs reply us ran did e none = ran.told us e none.legs
op-walked s t devices half number (Show seg) old new before after runs reply us ran did e none = ran.told us e none.legs
op-walked s t devices half number (Seal n body tuples app rtag) old new before after runs reply us ran did e none = ran.told us e none.legs
op-walked s t devices half number (Write v n body app) old new before after runs reply us ran did e none = ran.told us e none.legs
op-walked s t devices half number (Fetch v n body) old new before after runs reply us ran did e none = ran.told us e none.legs
op-walked s t devices half number (WritePi v n body tuples) old new before after runs reply us ran did e none = ran.told us e none.legs
op-walked s t devices half number (FetchPi v n body tuples) old new before after runs reply us ran did e none = ran.told us e none.legs
op-walked s t devices half number (Overwrite dev lba change) old new before after runs reply us ran did e none =
    let made = silent reply none.overwrites did.0.1 in
    (with_block us dev lba (changed us change (block_at us dev lba)), (did.1.silent made us e, (made, refl)))
op-walked s t devices half number Wait old new before after runs reply us ran did e none = ran.told us e none.legs

-- what the law of a mirror's ops says
abbrev pub OpLaw : Type 0
OpLaw = (s : Script) (devices : List DeviceInfo) (us now left : List Stored) (old new : Sides) (runs : List LegRun) (replies : List Reply) (reply : Reply) → IsBoundMirror s devices → devices ≡ map info_of (shapes_of now) → AreStored now
    → AreWhole old.pool → length old.pool ≡ s.pages → length old.marks ≡ half_of s devices → length replies < length s.ops → StandsAt s devices us old replies now
    → OpBy s (half_of s devices) (length replies + 1) (op_at s.ops (length replies)) old new runs reply → OpWalked (op_at s.ops (length replies)) (table_of s devices) now runs reply left
    → StandsAt s devices us new (replies ++ (reply ∷ [])) left

-- a mirror between two ops, over a rig with this image
pub record IsBetween (s : Script) (devices : List DeviceInfo) (half : ℕ) (old : Sides) (replies : List Reply) (image : Option (List ℕ)) (before : RigState) : Type 0 where
  pub bound : IsBoundMirror s devices
  pub half_is : half ≡ half_of s devices
  pub rig : HasLegDevices devices (is_some image) before.standing
  pub laid : before.units ≡ units_told before.standing image
  pub ready : IsStanding before.standing image
  pub whole : AreWhole old.pool
  pub pages : length old.pool ≡ s.pages
  pub marks : length old.marks ≡ half
  pub more : length replies < length s.ops

pub op-stands : OpLaw → (s : Script) (devices : List DeviceInfo) (half : ℕ) (old new : Sides) (runs : List LegRun) (replies : List Reply) (reply : Reply) (image : Option (List ℕ)) (before after : RigState)
    → IsBetween s devices half old replies image before → OpRan (op_at s.ops (length replies)) (table_of s devices) devices runs before after
    → DidOp s half (length replies + 1) (op_at s.ops (length replies)) old new before after runs reply → KeepsToWalk s devices old new before after replies reply runs
op-stands law s devices half old new runs replies reply image before after is ran did us now e none stands =
    let op = op_at s.ops (length replies) in
    let t = table_of s devices in
    let told = sym is.laid ∙ e in
    let walked = op-walked s t devices half (length replies + 1) op old new before after runs reply now ran did e none in
    let known = is.rig.told (is_told before.standing image now told) in
    let shapes = told-shapes before.standing image now told is.ready in
    let units : devices ≡ map info_of (shapes_of now) = known ∙ ap (λ (specs : List UnitSpec). map info_of specs) (sym shapes) in
    let by = subst (λ h. OpBy s h (length replies + 1) op old new runs reply) is.half_is did.0 in
    (walked.0, (walked.1.0, law s devices us now walked.0 old new runs replies reply is.bound units (told-stored before.standing image now told is.ready) is.whole is.pages (is.marks ∙ is.half_is) is.more stands by walked.1.1))

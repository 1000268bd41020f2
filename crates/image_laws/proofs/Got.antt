-- What a call's records say where no store call failed, one lemma for each. The count of faults of a store in memory stays at 0.
use Rattle.std.proofs.Common.{◌≡◌, ℕ, List, Some, arith}
use Rattle.dix_base.specs.Told.{Calm}
use Rattle.rig_api.specs.Target.{Stored}
use Rattle.volume_table.specs.Tables.{Table}
use Rattle.volume_table.specs.declared.device.DeviceInfo.{DeviceInfo}
use Rattle.stack_ops.specs.declared.reply.Reply.{Reply}
use Rattle.run_command.specs.Passed.{HasWalked, KnownBlocks, Script}
use Rattle.run_command.proofs.Passed.{known_from}
use Rattle.run_command.specs.Premises.{IsPlainRun}
use Rattle.run_command.specs.Followed.{Followed, HasPlain, OnIntactMedium}
use Rattle.rig_api.specs.State.{RigState}

-- such a count didn't rise
pub calm : (old new : ℕ) → new ≡ 0 → Calm old new
calm old new e = (omega (arith, e), omega (arith, e))

-- a rig that told these blocks tells some afterwards
abbrev pub at : (script : Script) (table : Table) (devices : List DeviceInfo) (old new : RigState) (pool : List (List ℕ)) (replies : List Reply) (us : List Stored) → Followed script table devices old new pool replies → old.units ≡ Some us → KnownBlocks old new
at script table devices old new pool replies us f e = known_from old new f.any_rig.tells_blocks us e

pub got_intact : (script : Script) (table : Table) (devices : List DeviceInfo) (old new : RigState) (pool : List (List ℕ)) (replies : List Reply) (us : List Stored) (f : Followed script table devices old new pool replies) (e : old.units ≡ Some us) → new.faults ≡ 0
    → OnIntactMedium script table devices old new (at script table devices old new pool replies us f e) pool f.any_rig.goes.more replies
got_intact script table devices old new pool replies us f e none =
    let known = at script table devices old new pool replies us f e in
    f.intact known (f.silent known (calm old.faults new.faults none))

pub got_walked : (script : Script) (table : Table) (devices : List DeviceInfo) (old new : RigState) (pool : List (List ℕ)) (replies : List Reply) (us : List Stored) (f : Followed script table devices old new pool replies) → old.units ≡ Some us → new.faults ≡ 0
    → (left : List Stored) × (new.units ≡ Some left) × HasWalked script table us left pool f.any_rig.goes.more replies
got_walked script table devices old new pool replies us f e none =
    let known = at script table devices old new pool replies us f e in
    (known.after, known.ended, (got_intact script table devices old new pool replies us f e none).walked)

pub got_plain : (script : Script) (table : Table) (devices : List DeviceInfo) (old new : RigState) (pool : List (List ℕ)) (replies : List Reply) (us : List Stored) → Followed script table devices old new pool replies → old.units ≡ Some us → new.faults ≡ 0 → IsPlainRun script table us
    → (left : List Stored) × (new.units ≡ Some left) × HasPlain script table us left pool replies
got_plain script table devices old new pool replies us f e none p =
    let known = at script table devices old new pool replies us f e in
    (known.after, known.ended, (got_intact script table devices old new pool replies us f e none).plain p)

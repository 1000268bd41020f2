-- What the laws of a run ask, from the premises and from what reading and binding have seen to.
use Rattle.std.proofs.Common.{◌≡◌, ◌<◌, List, map, sym, subst}
use Rattle.std.specs.Prelude.{All}
use Rattle.rig_api.specs.Target.{Stored}
use Rattle.call_refusal.specs.Passed.{info_of}
use Rattle.stack_walk_laws.specs.Passed.{blocks_told, shapes_of}
use Rattle.volume_table.specs.Tables.{Table}
use Rattle.volume_table.specs.declared.device.DeviceInfo.{DeviceInfo}
use Rattle.walk_laws.specs.CalmRun.{IsCalmRun}
use Rattle.run_laws.specs.ShownRun.{AreCleanWhereRead, IsAccountedRun, IsShownRun}
use Rattle.script_text.specs.declared.script.Script.{Script}
use Rattle.script_stack.proofs.Passed.{accounted-run, calm-run, IsBoundOver, shown-run}
use Rattle.run_command.specs.Premises.{IsAccountableRun, IsDetectableRun, IsPlainRun, opening_told, setting_told}

pub plain_run : (s : Script) (t : Table) (us : List Stored) → IsBoundOver s t us → All (All (λ x. x < 256)) (blocks_told us) → IsPlainRun s t us → IsCalmRun (setting_told s t us) s.ops (opening_told s us)
plain_run s t us b bytes p = calm-run s t us b p.quiet.faults p.quiet.overwrites bytes p.quiet.clean p.no_escape

pub detectable_run : (s : Script) (t : Table) (devices : List DeviceInfo) (us : List Stored) → devices ≡ map info_of (shapes_of us) → IsBoundOver s t us → IsDetectableRun s t devices us → IsShownRun (setting_told s t us) devices s.ops (opening_told s us)
detectable_run s t devices us e b p =
    subst (λ ds. IsShownRun (setting_told s t us) ds s.ops (opening_told s us)) (sym e)
    (shown-run s t us b p.ty p.dix p.dif p.protect (subst (λ (ds : List DeviceInfo). AreCleanWhereRead (setting_told s t us) ds (opening_told s us).blocks) e p.clean) p.no_escape p.shown)

pub accountable_run : (s : Script) (t : Table) (devices : List DeviceInfo) (us : List Stored) → devices ≡ map info_of (shapes_of us) → IsBoundOver s t us → IsAccountableRun s t devices us → IsAccountedRun (setting_told s t us) devices s.ops (opening_told s us)
accountable_run s t devices us e b p =
    subst (λ ds. IsAccountedRun (setting_told s t us) ds s.ops (opening_told s us)) (sym e)
    (accounted-run s t us b p.ty p.dix p.dif p.protect (subst (λ (ds : List DeviceInfo). AreCleanWhereRead (setting_told s t us) ds (opening_told s us).blocks) e p.clean) p.no_escape p.accounted)

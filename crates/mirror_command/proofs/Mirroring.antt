-- A script that was run on a mirror over an image.
use Rattle.std.proofs.Common.{◌≡◌, ℕ, List, [], ◌++◌, length, map, Some, sym, ap, ◌∙◌, subst}
use Rattle.std.specs.Prelude.{is_some}
use Rattle.dix_base.specs.Told.{AreOctets}
use Rattle.rig_api.specs.Telling.{IsStanding, Standing, units_told}
use Rattle.rig_api.specs.State.{RigState}
use Rattle.rig_discovery.specs.Discovery.{info_of}
use Rattle.rig_api.specs.Target.{Stored}
use Rattle.run_command.proofs.Passed.{blocks_octets, known_from, one_left, still_told, sizes-found, told-shapes, told-stored, is_told}
use Rattle.volume_table.specs.declared.device.DeviceInfo.{DeviceInfo}
use Rattle.script_text.specs.declared.script.Script.{Script}
use Rattle.run_command.specs.Passed.{KnownBlocks, SizesAre}
use Rattle.run_command.proofs.Devices.{has_device, image_holds, known_infos}
use Rattle.run_command.specs.Verdict.{HoldsBlocks, WasAsked}
use Rattle.mirror_volume.specs.Passed.{NoneUnscheduled, HasLegDevices, IsBoundMirror, IsMirrorOver, IsRepairedAs}
use Rattle.mirror_volume.proofs.Passed.{calm-unnamed}
use Rattle.mirror_volume.specs.declared.mirror.Mirror.{Mirror}
use Rattle.mirror_volume.proofs.Enough.{repaired-all}
use Rattle.mirror_volume.specs.Enough.{WasEnough}
use Rattle.mirror_volume.specs.Premises.{HoldsBytes, IsFormedMirror, IsOneGoodRun, IsStillMirror}
use Rattle.mirror_command.proofs.Sparing.{kept-block}
use Rattle.mirror_command.specs.Stages.{Broke, Finished, HasServedMirror, stage_of}
use Rattle.mirror_command.specs.Verdict.{HasMirrored, IsBegun, StoppedMidway}
use Rattle.mirror_command.specs.declared.mirrored.Mirrored.{Mirrored}
use Rattle.mirror_laws.specs.Repair.{WalkedRepair}
use Rattle.mirror_laws.specs.declared.marks.Marks.{Marks}
use Rattle.stack_ops.specs.declared.reply.Reply.{Reply}

-- the rig has the devices that were asked
pub has-devices : (name : List ℕ) (devices : List DeviceInfo) (old told : RigState) → WasAsked name devices old told → told.units ≡ units_told told.standing told.image → HasLegDevices devices (is_some told.image) told.standing
has-devices name devices old told asked laid = record {
  count = asked.told.devices_are.count;
  sizes = subst (λ (st : Standing). SizesAre devices st) (sym asked.told.since.standing) (sizes-found asked.told.between.standing devices _ _ asked.told.found);
  told = λ tells. known_infos name devices old told asked laid tells;
}

-- A script was bound to a mirror over the devices of an image, and begun: from here on ops are done.
pub record IsUp (s : Script) (name : List ℕ) (devices : List DeviceInfo) (old told : RigState) (begun : Mirror) : Type 0 where
  pub asked : WasAsked name devices old told
  pub bound : IsBoundMirror s devices
  pub starts : IsBegun s devices begun
  pub laid : told.units ≡ units_told told.standing told.image
  pub ready : IsStanding told.standing told.image
  pub octets : AreOctets told.image

-- over units that are told
over-told : (s : Script) (name : List ℕ) (devices : List DeviceInfo) (old told : RigState) (begun : Mirror) (us : List Stored) → IsUp s name devices old told begun → told.units ≡ Some us → IsMirrorOver s devices us
over-told s name devices old told begun us up e =
    let laid = sym up.laid ∙ e in
    record {
      bound = up.bound;
      units = known_infos name devices old told up.asked up.laid (is_told told.standing told.image us laid) ∙ ap (map info_of) (sym (told-shapes told.standing told.image us laid up.ready));
      stored = told-stored told.standing told.image us laid up.ready;
    }

-- which are of bytes, by the law of the rig
bytes-told : (s : Script) (name : List ℕ) (devices : List DeviceInfo) (old told : RigState) (begun : Mirror) (us : List Stored) → IsUp s name devices old told begun → told.units ≡ Some us → HoldsBytes us
bytes-told s name devices old told begun us up e = blocks_octets told.standing told.image us up.octets (sym up.laid ∙ e)

-- ---- what comes of good legs

-- what the laws of `mirror_volume` say
abbrev pub EnoughLaw : Type 0
EnoughLaw = (s : Script) (devices : List DeviceInfo) (us left : List Stored) (marks : List Marks) (repaired lost : ℕ) → IsMirrorOver s devices us → HoldsBytes us → IsOneGoodRun s devices us → IsRepairedAs s devices us (length s.ops) marks repaired lost left → WasEnough s devices us left lost

abbrev pub FormedLaw : Type 0
FormedLaw = (s : Script) (devices : List DeviceInfo) (us : List Stored) → IsMirrorOver s devices us → HoldsBytes us → IsFormedMirror s devices us → IsOneGoodRun s devices us

abbrev pub StillLaw : Type 0
StillLaw = (s : Script) (devices : List DeviceInfo) (us left : List Stored) (marks : List Marks) (repaired lost : ℕ) → IsMirrorOver s devices us → HoldsBytes us → IsStillMirror s devices us → IsRepairedAs s devices us (length s.ops) marks repaired lost left → WasEnough s devices us left lost

as-repaired : (s : Script) (devices : List DeviceInfo) (us left : List Stored) (pool : List (List ℕ)) (replies : List Reply) (marks : List Marks) (repaired lost : ℕ) → HasServedMirror s devices us left pool replies marks repaired lost
    → IsRepairedAs s devices us (length s.ops) marks repaired lost left
as-repaired s devices us left pool replies marks repaired lost served =
    let e = sym (repaired-all s devices us) in
    record {
      shapes = served.shapes;
      marks_are = served.marks_are ∙ ap (λ (r : WalkedRepair). r.marks) e;
      blocks = served.blocks ∙ ap (λ (r : WalkedRepair). r.blocks) e;
      repaired_is = served.repaired_is ∙ ap (λ (r : WalkedRepair). r.repaired) e;
      lost_is = served.lost_is ∙ ap (λ (r : WalkedRepair). r.lost) e;
    }

module _ (law : EnoughLaw) (by_form : FormedLaw) (unfaulted : StillLaw) (s : Script) (name : List ℕ) (devices : List DeviceInfo) (old told new : RigState) (begun : Mirror) (up : IsUp s name devices old told begun) (tells : is_some new.image ≡ is_some told.image) (laid : new.units ≡ units_told new.standing new.image) (ready : IsStanding new.standing new.image) where
  -- the image afterwards
  holds : new.standing ≡ told.standing → HoldsBlocks told new
  holds same = image_holds told new same (has_device name devices old told up.asked) up.ready ready laid tells

  -- by one of the laws, what it asks being `P`
  by-law : (P : List Stored → Type 0) → ((us left : List Stored) (marks : List Marks) (repaired lost : ℕ) → IsMirrorOver s devices us → HoldsBytes us → P us → IsRepairedAs s devices us (length s.ops) marks repaired lost left → WasEnough s devices us left lost)
      → (run : Mirrored) → (ended : Finished s devices (stage_of begun [] told) run.mirror run.repair.repaired run.repair.lost new)
      → (known : KnownBlocks told new) → NoneUnscheduled (ended.stage.runs ++ ended.runs) run.mirror.replies.items → P known.before → WasEnough s devices known.before known.after run.repair.lost
  by-law P says run ended known none p =
      let us = known.before in
      let x = ended.told us known.began none in
      subst (λ (left : List Stored). WasEnough s devices us left run.repair.lost) (one_left x.0 known.after (sym x.1.0 ∙ known.ended))
      (says us x.0 run.mirror.state.marks.items run.repair.repaired run.repair.lost (over-told s name devices old told begun us up known.began) (bytes-told s name devices old told begun us up known.began) p
      (as-repaired s devices us x.0 run.mirror.state.pool run.mirror.replies.items run.mirror.state.marks.items run.repair.repaired run.repair.lost x.1.1))

  enough : (run : Mirrored) → (ended : Finished s devices (stage_of begun [] told) run.mirror run.repair.repaired run.repair.lost new)
      → (known : KnownBlocks told new) → NoneUnscheduled (ended.stage.runs ++ ended.runs) run.mirror.replies.items → IsOneGoodRun s devices known.before → WasEnough s devices known.before known.after run.repair.lost
  enough = by-law (IsOneGoodRun s devices) (law s devices)

  still : (run : Mirrored) → (ended : Finished s devices (stage_of begun [] told) run.mirror run.repair.repaired run.repair.lost new)
      → (known : KnownBlocks told new) → NoneUnscheduled (ended.stage.runs ++ ended.runs) run.mirror.replies.items → IsStillMirror s devices known.before → WasEnough s devices known.before known.after run.repair.lost
  still = by-law (IsStillMirror s devices) (unfaulted s devices)

  pub mirrored : (run : Mirrored) → Finished s devices (stage_of begun [] told) run.mirror run.repair.repaired run.repair.lost new → HasMirrored run s name old new
  mirrored run ended = record {
    devices = devices;
    told = told;
    asked = up.asked;
    bound = up.bound;
    begun = begun;
    starts = up.starts;
    ended = ended;
    tells = tells;
    tells_blocks = still_told told.image new.image told.standing new.standing told.units new.units up.laid laid tells;
    holds = holds ended.stretches.standing;
    silent = calm-unnamed (ended.stage.runs ++ ended.runs) run.mirror.replies.items told.faults new.faults ended.unscheduled;
    intact = λ known none. record {
      enough = enough run ended known none;
      formed = λ p. enough run ended known none (by_form s devices known.before (over-told s name devices old told begun known.before up known.began) (bytes-told s name devices old told begun known.before up known.began) p);
      still = still run ended known none;
    };
    failing = λ known. ended.faults known.before known.began;
    spared = λ known u leg p shows fine.
        kept-block s devices known.before (over-told s name devices old told begun known.before up known.began) (bytes-told s name devices old told begun known.before up known.began) u leg p (stage_of begun [] told) known.began up.starts.marks run.mirror run.repair.repaired run.repair.lost new ended
        known.after known.ended shows fine;
  }

  pub midway : Broke s devices (stage_of begun [] told) new → StoppedMidway s name old new
  midway broke = record {
    devices = devices;
    told = told;
    asked = up.asked;
    bound = up.bound;
    begun = begun;
    starts = up.starts;
    broke = broke;
    tells = tells;
    holds = holds (broke.under_way.standing ∙ broke.served.stretches.standing);
  }

-- A rig that told these blocks tells some afterwards.
abbrev pub known-told : (run : Mirrored) (s : Script) (name : List ℕ) (old new : RigState) (m : HasMirrored run s name old new) (us : List Stored) → m.told.units ≡ Some us → KnownBlocks m.told new
known-told run s name old new m us e = known_from m.told new m.tells_blocks us e

-- One good leg of each block was enough.
use Rattle.std.proofs.Common.{◌≡◌, ◌<◌, ℕ, zero, suc, ◌+◌, List, [], ◌∷◌, ◌++◌, length, take, get_or, refl, sym, ap, subst, ◌∙◌, arith, append_assoc, length-append}
use Rattle.std.proofs.lemmas.List.{take_at}
use Rattle.std.proofs.Math.Seq.{take-length}
use Rattle.page_pool.specs.declared.segs.Seg.{Seg}
use Rattle.rig_api.specs.Target.{Stored}
use Rattle.page_pool.specs.Cells.{gather}
use Rattle.block_path.specs.Acts.{State}
use Rattle.block_path.specs.Serial.{plain}
use Rattle.stack_ops.specs.declared.op.Op.{Op}
use Rattle.stack_ops.specs.declared.op.Op.TheVariants.{Fetch}
use Rattle.stack_ops.specs.declared.reply.Reply.{Reply}
use Rattle.stack_ops.specs.declared.reply.Reply.TheVariants.{Silent}
use Rattle.volume_table.specs.declared.device.DeviceInfo.{DeviceInfo}
use Rattle.walk_laws.specs.Past.{steps_from}
use Rattle.walk_laws.specs.Settings.{Setting}
use Rattle.walk_laws.specs.Steps.{body_of, steps_of}
use Rattle.walk_laws.specs.UnderMap.{home}
use Rattle.dix_adapter.specs.Ways.{blocks_told}
use Rattle.script_stack.proofs.Octets.{block_octets}
use Rattle.script_text.specs.declared.script.Script.{Script}
use Rattle.mirror_laws.specs.Mirror.{Mirror as Walk, count_of, done, mirror_opened, mirror_walk, replies_from}
use Rattle.mirror_laws.specs.OneGood.{AreBytes, HoldsProper, IsMirrorRun, IsRepaired, ReadsLast, last_of, on_leg}
use Rattle.mirror_laws.specs.Repair.{WalkedRepair, mirror_repair}
use Rattle.mirror_laws.specs.declared.marks.Marks.{Marks}
use Rattle.mirror_volume.specs.OnOps.{Sides}
use Rattle.mirror_volume.specs.Standing.{IsMirrorOver, IsRepairedAs, StandsAt, half_of, mirror_setting, walked}
use Rattle.mirror_volume.specs.Enough.{AllReadLast, HasReadLast, WasEnough, opening_over}
use Rattle.mirror_volume.specs.Premises.{HoldsBytes, IsOneGoodRun}
use Rattle.mirror_volume.proofs.Premises.{mirror-run}

-- what the laws of one good leg say
abbrev pub ReadsLaw : Type 0
ReadsLaw = (m : Setting) (devices : List DeviceInfo) (half : ℕ) (before after : List Op) (v n : ℕ) (body : List Seg) (opening : State)
    → IsMirrorRun m devices half (before ++ (Fetch v n body ∷ after)) opening → ReadsLast m half (before ++ (Fetch v n body ∷ after)) before v n body opening

abbrev pub EqualLaw : Type 0
EqualLaw = (m : Setting) (devices : List DeviceInfo) (half : ℕ) (ops : List Op) (opening : State) → IsMirrorRun m devices half ops opening → AreBytes m half opening.blocks → IsRepaired m half ops opening

-- after all ops
module _ (s : Script) (devices : List DeviceInfo) (us : List Stored) where
  pub walked-all : walked s devices us (length s.ops) ≡ mirror_walk (mirror_setting s devices us) (half_of s devices) s.ops (opening_over s us)
  walked-all =
      ap (λ (ops : List Op). plain (done (mirror_setting s devices us) (half_of s devices) (count_of s.ops)) (steps_from (mirror_setting s devices us) 1 ops) (mirror_opened (half_of s devices) (opening_over s us)))
      (take-length s.ops)

  pub repaired-all : mirror_repair (mirror_setting s devices us) (half_of s devices) (walked s devices us (length s.ops))
      ≡ mirror_repair (mirror_setting s devices us) (half_of s devices) (mirror_walk (mirror_setting s devices us) (half_of s devices) s.ops (opening_over s us))
  repaired-all = ap (mirror_repair (mirror_setting s devices us) (half_of s devices)) walked-all

-- by what the walk and its repair come to
pub enough-by : (s : Script) (devices : List DeviceInfo) (us left : List Stored) (marks : List Marks) (repaired lost : ℕ)
    → ((before after : List Op) (v n : ℕ) (body : List Seg) → s.ops ≡ before ++ (Fetch v n body ∷ after) → ReadsLast (mirror_setting s devices us) (half_of s devices) s.ops before v n body (opening_over s us))
    → IsRepaired (mirror_setting s devices us) (half_of s devices) s.ops (opening_over s us) → IsRepairedAs s devices us (length s.ops) marks repaired lost left → WasEnough s devices us left lost
enough-by s devices us left marks repaired lost reads mended done_as =
    let m = mirror_setting s devices us in
    let half = half_of s devices in
    let opening = opening_over s us in
    record {
      reads = reads;
      equal = λ u l leg. subst (λ (blocks : List (List ℕ)). HoldsProper m (on_leg leg u (half + u)) (last_of m half (count_of s.ops) (steps_from m 1 s.ops) opening u) blocks)
          (sym (done_as.blocks ∙ ap (λ (r : WalkedRepair). r.blocks) (repaired-all s devices us))) (mended.holds u l leg);
      lost_none = done_as.lost_is ∙ ap (λ (r : WalkedRepair). r.lost) (repaired-all s devices us) ∙ mended.lost;
    }

pub reads-last : ReadsLaw → (s : Script) (devices : List DeviceInfo) (us : List Stored) → IsMirrorOver s devices us → IsOneGoodRun s devices us → AllReadLast s devices us
reads-last reads s devices us over p =
    let m = mirror_setting s devices us in
    let half = half_of s devices in
    let opening = opening_over s us in
    let run = mirror-run s devices us over p in
    λ before after v n body e. subst (λ (ops : List Op). ReadsLast m half ops before v n body opening) (sym e)
    (reads m devices half before after v n body opening (subst (λ (ops : List Op). IsMirrorRun m devices half ops opening) e run))

pub was-enough : ReadsLaw → EqualLaw → (s : Script) (devices : List DeviceInfo) (us left : List Stored) (marks : List Marks) (repaired lost : ℕ) → IsMirrorOver s devices us → HoldsBytes us → IsOneGoodRun s devices us
    → IsRepairedAs s devices us (length s.ops) marks repaired lost left → WasEnough s devices us left lost
was-enough reads equal s devices us left marks repaired lost over bytes p served =
    enough-by s devices us left marks repaired lost (reads-last reads s devices us over p)
    (equal (mirror_setting s devices us) devices (half_of s devices) s.ops (opening_over s us) (mirror-run s devices us over p) (λ u l. block_octets (blocks_told us) (home (mirror_setting s devices us) u) bytes)) served

-- ---- between two ops

-- the first replies are those of the first ops
first-replies : (m : Setting) (half : ℕ) (count : ℕ → ℕ) (i k j : ℕ) (ops : List Op) (w : Walk) → j < k → get_or (replies_from m half count i (take k ops) w) j Silent ≡ get_or (replies_from m half count i ops w) j Silent
first-replies m half count i zero j ops w l = absurd (omega (arith, l))
first-replies m half count i (suc k) j [] w l = refl
first-replies m half count i (suc k) zero (op ∷ ops) w l = refl
first-replies m half count i (suc k) (suc j) (op ∷ ops) w l = first-replies m half count (suc i) k j ops (plain (done m half count) (steps_of m i op) w) (omega (arith, l))

pub read-done : (s : Script) (devices : List DeviceInfo) (us left : List Stored) (sides : Sides) (replies : List Reply) (before after : List Op) (v n : ℕ) (body : List Seg) → AllReadLast s devices us → StandsAt s devices us sides replies left
    → s.ops ≡ before ++ (Fetch v n body ∷ after) → length replies ≡ length before + 1 → HasReadLast s devices us before v n body sides replies
read-done s devices us left sides replies before after v n body reads stands e many =
    let m = mirror_setting s devices us in
    let half = half_of s devices in
    let opened = mirror_opened half (opening_over s us) in
    let r = reads before after v n body e in
    let upto = before ++ (Fetch v n body ∷ []) in
    let size : length upto ≡ length replies = length-append before (Fetch v n body ∷ []) ∙ sym many in
    let front : take (length replies) s.ops ≡ upto = ap (take (length replies)) (e ∙ sym (append_assoc before (Fetch v n body ∷ []) after)) ∙ take_at upto after (length replies) size in
    record {
      reply = ap (λ (rs : List Reply). get_or rs (length before) Silent) stands.replies_are ∙ first-replies m half (count_of s.ops) 1 (length replies) (length before) s.ops opened (omega (arith, many)) ∙ r.reply;
      data_is = λ k l.
          ap (gather 0 (body_of s.block body k)) (stands.pages ∙ ap (λ (ops : List Op). (plain (done m half (count_of s.ops)) (steps_from m 1 ops) opened).state.bytes) front) ∙ r.data_is k l;
    }

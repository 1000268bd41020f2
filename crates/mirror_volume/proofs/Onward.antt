-- One more op of a mirror, done at the target, goes on in its walk.
use Rattle.std.proofs.Common.{◌≡◌, ◌<◌, ℕ, ◌+◌, ◌-◌, false, List, [], ◌∷◌, ◌++◌, length, map, get_or, take, sym, ap, ◌∙◌, subst, arith}
use Rattle.std.proofs.lemmas.List.{length-take-le, length_push, take_more}
use Rattle.page_pool.specs.Pages.{AreWhole}
use Rattle.rig_discovery.specs.Discovery.{info_of}
use Rattle.rig_api.specs.Target.{Stored}
use Rattle.rig_api.specs.declared.units.UnitSpec.{UnitSpec}
use Rattle.volume_table.specs.declared.device.DeviceInfo.{DeviceInfo}
use Rattle.dix_adapter.specs.Ways.{blocks_told, shapes_of}
use Rattle.block_path.specs.Serial.{plain}
use Rattle.stack_ops.specs.declared.op.Op.{Op}
use Rattle.stack_ops.specs.declared.op.Op.TheVariants.{Wait}
use Rattle.stack_ops.specs.declared.reply.Reply.{Reply}
use Rattle.walk_laws.specs.Past.{steps_from}
use Rattle.walk_laws.specs.ScriptWalk.{reply_of}
use Rattle.walk_laws.specs.Settings.{Setting}
use Rattle.script_text.specs.declared.script.Script.{Script}
use Rattle.mirror_volume.specs.LegsPassed.{table_of, none_fails, opening_of, setting_of, AreStored}
use Rattle.mirror_laws.specs.Mirror.{Mirror, blocks_in, count_of, done, mirror_opened, replies_from}
use Rattle.mirror_laws.specs.LegByLeg.{after_op, answers_of}
use Rattle.mirror_laws.specs.declared.marks.Marks.{Marks}
use Rattle.mirror_laws.proofs.OtherOps.{one_more_op}
use Rattle.mirror_laws.proofs.Stale.{AllOnOne, all_fresh, steps_one}
use Rattle.mirror_volume.specs.LegRuns.{LegRun}
use Rattle.mirror_volume.specs.OnOps.{OpBy, OpWalked, Sides}
use Rattle.mirror_volume.specs.Standing.{IsBoundMirror, IsMirrorOver, StandsAt, half_of, mirror_setting, op_at, walked}
use Rattle.mirror_volume.proofs.OneLeg.{ReadLaw}
use Rattle.mirror_volume.proofs.Others.{next-op}
use Rattle.mirror_volume.proofs.Requests.{op-fits, op-rules}
use Rattle.mirror_volume.proofs.Wrote.{standing}

module _ (law : ReadLaw) (s : Script) (devices : List DeviceInfo) (us now left : List Stored) (old new : Sides) (runs : List LegRun) (replies : List Reply) (reply : Reply)
    (over : IsMirrorOver s devices now) (whole : AreWhole old.pool) (paged : length old.pool ≡ s.pages) (marked : length old.marks ≡ half_of s devices) (more : length replies < length s.ops)
    (stands : StandsAt s devices us old replies now) where
  abbrev half : ℕ
  half = half_of s devices

  abbrev k : ℕ
  k = length replies

  abbrev op : Op
  op = op_at s.ops k

  abbrev setting : Setting
  setting = mirror_setting s devices us

  abbrev count : ℕ → ℕ
  count = count_of s.ops

  abbrev opened : Mirror
  opened = mirror_opened half (opening_of s (shapes_of us) (blocks_told us))

  -- before the op
  abbrev at : Mirror
  at = walked s devices us k

  abbrev i : ℕ
  i = 1 + length (take k s.ops)

  numbered : k + 1 ≡ i
  numbered = let l = length-take-le k s.ops (omega arith) in omega (arith, l)

  counted : count i ≡ blocks_in op
  counted = let l = length-take-le k s.ops (omega arith) in let e : i - 1 ≡ k = omega (arith, l) in ap (λ j. blocks_in (get_or s.ops j Wait)) e

  same-setting : mirror_setting s devices now ≡ setting
  same-setting = ap (λ (units : List UnitSpec). setting_of s (table_of s devices) units none_fails) stands.shapes

  here : standing at.state old now ≡ at
  here = λ j. record { state = record at.state { bytes = stands.pages j; blocks = stands.blocks j }; marks = stands.marks j }

  never : AllOnOne old.marks
  never = subst (λ (ms : List Marks). AllOnOne ms) (sym stands.marks) (steps_one setting half count (steps_from setting 1 (take k s.ops)) opened (all_fresh half))

  ops-more : take (length (replies ++ (reply ∷ []))) s.ops ≡ take k s.ops ++ (op ∷ [])
  ops-more = ap (λ n. take n s.ops) (length_push replies reply) ∙ take_more s.ops k Wait more

  pub goes-on : OpBy s half (k + 1) op old new runs reply → OpWalked op (table_of s devices) now runs reply left → StandsAt s devices us new (replies ++ (reply ∷ [])) left
  goes-on by all =
      let goes = next-op law s devices now over at.state old whole paged count i marked never op new runs reply left (op-rules s devices k over.bound more) (op-fits s devices k over.bound more) counted
      (subst (λ n. OpBy s half n op old new runs reply) numbered by) all in
      let one = one_more_op setting half count (take k s.ops) op opened in
      let moved : after_op (mirror_setting s devices now) half count i op (standing at.state old now) ≡ after_op setting half count i op at = λ j. after_op (same-setting j) half count i op (here j) in
      let stepped : walked s devices us (length (replies ++ (reply ∷ []))) ≡ after_op setting half count i op at = ap (λ (ops : List Op). plain (done setting half count) (steps_from setting 1 ops) opened) ops-more ∙ one.next_is in
      let next = moved ∙ sym stepped in
      let replied : reply ≡ reply_of false op (answers_of setting half count i op at) = goes.reply_is ∙ (λ j. reply_of false op (answers_of (same-setting j) half count i op (here j))) in
      record {
        pages = goes.pages ∙ ap (λ (x : Mirror). x.state.bytes) next;
        marks = goes.marks ∙ ap (λ (x : Mirror). x.marks) next;
        shapes = goes.shapes ∙ stands.shapes;
        blocks = goes.blocks ∙ ap (λ (x : Mirror). x.state.blocks) next;
        replies_are = (λ j. stands.replies_are j ++ (replied j ∷ [])) ∙ sym one.replies_are ∙ ap (λ (ops : List Op). replies_from setting half count 1 ops opened) (sym ops-more);
      }

pub on-and-on : ReadLaw → (s : Script) (devices : List DeviceInfo) (us now left : List Stored) (old new : Sides) (runs : List LegRun) (replies : List Reply) (reply : Reply) → IsBoundMirror s devices → devices ≡ map info_of (shapes_of now) → AreStored now
    → AreWhole old.pool → length old.pool ≡ s.pages → length old.marks ≡ half_of s devices → length replies < length s.ops → StandsAt s devices us old replies now
    → OpBy s (half_of s devices) (length replies + 1) (op_at s.ops (length replies)) old new runs reply → OpWalked (op_at s.ops (length replies)) (table_of s devices) now runs reply left
    → StandsAt s devices us new (replies ++ (reply ∷ [])) left
on-and-on law s devices us now left old new runs replies reply bound units stored whole paged marked more stands by all =
    goes-on law s devices us now left old new runs replies reply (record { bound = bound; units = units; stored = stored }) whole paged marked more stands by all

-- A script on a mirror, stage by stage.
use Rattle.std.proofs.Common.{◌≡◌, ◌<◌, ◌≤◌, ℕ, suc, ◌+◌, inl, inr, true, List, [], ◌∷◌, ◌++◌, length, take, refl, sym, ap, ◌∙◌, subst, arith, append-nil, append_assoc}
use Rattle.std.specs.Prelude.{All, Err, IfOk, MatchResult, Ok, Result, false, is_err, is_some}
use Rattle.std.proofs.Math.Seq.{take-length}
use Rattle.std.proofs.lemmas.List.{length_push}
use Rattle.std.proofs.lemmas.List.Elements.{All-push}
use Rattle.page_pool.specs.Cells.{flat}
use Rattle.rig_api.specs.Target.{Stored}
use Rattle.block_path.specs.Serial.{plain}
use Rattle.stack_ops.specs.declared.op.Op.{Op}
use Rattle.stack_ops.specs.declared.op.Op.TheVariants.{Fetch, FetchPi, Fill, Overwrite, Put, Seal, Show, Wait, Write, WritePi}
use Rattle.stack_ops.specs.declared.reply.Reply.{Reply}
use Rattle.volume_table.specs.declared.device.DeviceInfo.{DeviceInfo}
use Rattle.volume_table.specs.Tables.{Table}
use Rattle.walk_laws.specs.Past.{steps_from}
use Rattle.script_text.specs.declared.script.Script.{Script}
use Rattle.run_command.specs.Passed.{table_of, RoseBy, medium_lines, medium_replies}
use Rattle.run_command.specs.Layers.{NamesFaults}
use Rattle.mirror_laws.specs.Mirror.{Mirror as Walk, count_of, done, mirror_opened, replies_from}
use Rattle.mirror_laws.specs.Repair.{WalkedRepair, mirror_repair}
use Rattle.mirror_laws.specs.declared.marks.Marks.{Marks}
use Rattle.mirror_volume.specs.declared.mirror.Mirror.{Mirror}
use Rattle.std.specs.declared.alloc.AllocError.{AllocError}
use Rattle.mirror_volume.specs.declared.repair.Repair.{Repair as Done}
use Rattle.mirror_volume.specs.Passed.{AllBacked, AllOwn, GoOn, LegRun, NoneUnscheduled, RanLegs, all_records, all_unscheduled, armed_after, IsRepairOf, RepairBy, stretches_in, OpAsks, OpBy, OpRan, OpTells, Sides, HasLegDevices, IsRepairedAs, KeepsToWalk, RepairsAsWalk, StandsAt, half_of, mirror_setting, op_at, walked}
use Rattle.mirror_volume.specs.declared.legs.Plan.{Plan}
use Rattle.mirror_volume.specs.Enough.{opening_over}
use Rattle.mirror_volume.specs.Plans.{IsMirror}
use Rattle.mirror_volume.specs.Running.{CanGoOn}
use Rattle.mirror_volume.proofs.Passed.{lines-append, op-lines, op-unscheduled, overwrites-append, rose-later, unnamed-first, unnamed-last, all_backed-append, all_records-append, all_unscheduled-append, armed-append, go_on-append, rose-add}
use Rattle.mirror_command.proofs.Naming.{op-named}
use Rattle.mirror_command.specs.Stages.{Broke, Finished, HasServedMirror, InStretches, OneMore, Served, Stage, repair_over, walk_over}
use Rattle.rig_api.specs.State.{RigState}

-- an error of which this holds
pub on-err : {A E : Type 0} (r : Result A E) (P : A → Type 0) (Q : Type 0) → is_err r ≡ true → Q → MatchResult r P (λ e. Q)
on-err (Ok x) P Q e q = absurd cc
on-err (Err x) P Q e q = q

-- ---- what runs leave

-- over any rig
pub record Fell (t : Table) (devices : List DeviceInfo) (runs : List LegRun) (before after : RigState) : Type 0 where
  pub standing : after.standing ≡ before.standing
  pub faults : before.faults ≤ after.faults
  pub records : after.log ≡ before.log ++ all_records runs
  pub backed : AllBacked t devices runs
  pub medium : RoseBy (all_unscheduled runs) before.faults after.faults
  pub armed : after.armed ≡ armed_after runs before.armed

ran-fell : (t : Table) (devices : List DeviceInfo) (runs : List LegRun) (before after : RigState) → RanLegs t devices runs before after → Fell t devices runs before after
ran-fell t devices runs before after h = record { standing = h.standing; faults = h.faults; records = h.records; backed = h.backed; medium = h.medium; armed = h.armed }

altered-fell : (t : Table) (devices : List DeviceInfo) (runs : List LegRun) (before after : RigState) → runs ≡ [] → after.standing ≡ before.standing → before.faults ≤ after.faults → after.log ≡ before.log → after.armed ≡ before.armed → Fell t devices runs before after
altered-fell t devices runs before after none standing faults log armed = subst (λ (rs : List LegRun). Fell t devices rs before after) (sym none)
    (record { standing = standing; faults = faults; records = log ∙ sym (append-nil before.log); backed = tt; medium = inl (omega (arith, faults)); armed = armed })

op-fell : (op : Op) (t : Table) (devices : List DeviceInfo) (runs : List LegRun) (before after : RigState) → OpRan op t devices runs before after → Fell t devices runs before after
op-fell (Fill seg byte) t devices runs before after h = ran-fell t devices runs before after h
op-fell (Put page off bytes) t devices runs before after h = ran-fell t devices runs before after h
op-fell (Show seg) t devices runs before after h = ran-fell t devices runs before after h
op-fell (Seal n body tuples app rtag) t devices runs before after h = ran-fell t devices runs before after h
op-fell (Write v n body app) t devices runs before after h = ran-fell t devices runs before after h
op-fell (Fetch v n body) t devices runs before after h = ran-fell t devices runs before after h
op-fell (WritePi v n body tuples) t devices runs before after h = ran-fell t devices runs before after h
op-fell (FetchPi v n body tuples) t devices runs before after h = ran-fell t devices runs before after h
op-fell (Overwrite dev lba change) t devices runs before after h = altered-fell t devices runs before after h.none h.standing h.faults h.records h.armed
op-fell Wait t devices runs before after h = ran-fell t devices runs before after h

stretches-more : (s : Script) (devices : List DeviceInfo) (runs more : List LegRun) (used used' : ℕ) (before between after : RigState) → InStretches s devices runs used before between → Fell (table_of s devices) devices more between after
    → GoOn s.schedule used more used' → InStretches s devices (runs ++ more) used' before after
stretches-more s devices runs more used used' before between after h k g = record {
  standing = k.standing ∙ h.standing;
  faults = (let a = h.faults in let b = k.faults in omega (arith, a, b));
  records = k.records ∙ ap (λ es. es ++ all_records more) h.records ∙ append_assoc before.log (all_records runs) (all_records more) ∙ ap (λ es. before.log ++ es) (sym (all_records-append runs more));
  backed = all_backed-append (table_of s devices) devices runs more h.backed k.backed;
  medium = subst (λ n. RoseBy n before.faults after.faults) (sym (all_unscheduled-append runs more))
      (rose-add (all_unscheduled runs) (all_unscheduled more) before.faults between.faults after.faults h.faults k.faults h.medium k.medium);
  armed = k.armed ∙ ap (armed_after more) h.armed ∙ sym (armed-append runs more before.armed);
  goes = go_on-append s.schedule 0 used used' runs more h.goes g;
}

both-append : (xs ys : List LegRun) (first last : List Reply) → (all_unscheduled xs + medium_replies first) + (all_unscheduled ys + medium_replies last) ≡ all_unscheduled (xs ++ ys) + medium_replies (first ++ last)
both-append xs ys first last = let a = all_unscheduled-append xs ys in let b = overwrites-append first last in omega (arith, a, b)

legs-append : (xs ys : List LegRun) (replies : List Reply) → (all_unscheduled xs + medium_replies replies) + all_unscheduled ys ≡ all_unscheduled (xs ++ ys) + medium_replies replies
legs-append xs ys replies = let a = all_unscheduled-append xs ys in omega (arith, a)

-- A mirror that could go on still can, over a rig that stands as before.
pub goes-on : {old new : Mirror} {before after : RigState} → CanGoOn old before → new.plan ≡ old.plan → IsMirror new → new.failed ≡ false → is_some after.image ≡ is_some before.image → after.standing ≡ before.standing → CanGoOn new after
goes-on {old} {new} {before} {after} h plan mirror going tells standing = record {
  mirror = mirror;
  going = going;
  rig = subst (λ (p : Plan). HasLegDevices p.devices.items (is_some after.image) after.standing) (sym plan)
      (subst (λ st. HasLegDevices old.plan.devices.items (is_some after.image) st) (sym standing) (subst (λ t. HasLegDevices old.plan.devices.items t before.standing) (sym tells) h.rig));
}

-- ---- op by op

module _ (s : Script) (devices : List DeviceInfo) (begun : Stage) where
  abbrev t : Table
  t = table_of s devices

  pub none-yet : begun.runs ≡ [] → begun.replies ≡ [] → begun.used ≡ 0 → ((us : List Stored) → StandsAt s devices us begun.sides [] us) → Served s devices begun 0 begun
  none-yet runs replies used stands = record {
    stood = refl;
    count = ap length replies;
    stretches = record {
      standing = refl;
      faults = omega arith;
      records = sym (append-nil begun.outside.log) ∙ ap (λ (rs : List LegRun). begun.outside.log ++ all_records rs) (sym runs);
      backed = subst (λ (rs : List LegRun). AllBacked t devices rs) (sym runs) tt;
      medium = subst (λ (rs : List LegRun). RoseBy (all_unscheduled rs) begun.outside.faults begun.outside.faults) (sym runs) (inl (omega arith));
      armed = sym (ap (λ (rs : List LegRun). armed_after rs begun.outside.armed) runs);
      goes = subst (λ (rs : List LegRun). GoOn s.schedule 0 rs begun.used) (sym runs) used;
    };
    unscheduled = subst (λ (rs : List Reply). RoseBy (all_unscheduled begun.runs + medium_replies rs) begun.outside.faults begun.outside.faults) (sym replies)
        (subst (λ (rs : List LegRun). RoseBy (all_unscheduled rs + 0) begun.outside.faults begun.outside.faults) (sym runs) (inl (omega arith)));
    lines = λ none. subst (λ (rs : List Reply). RoseBy (medium_lines rs) begun.outside.faults begun.outside.faults) (sym replies) (inl (omega arith));
    told = λ us e none. (us, (e, subst (λ (rs : List Reply). StandsAt s devices us begun.sides rs us) (sym replies) (stands us)));
    faults = λ us e. (us, (e, subst (λ (rs : List Reply). All NamesFaults rs) (sym replies) (λ i d l. absurd (omega arith))));
  }

  pub next-served : (k : ℕ) (old new : Stage) (runs : List LegRun) (reply : Reply) → Served s devices begun k old → OpRan (op_at s.ops (length old.replies)) t devices runs old.outside new.outside → GoOn s.schedule old.used runs new.used
      → OpBy s (half_of s devices) (length old.replies + 1) (op_at s.ops (length old.replies)) old.sides new.sides runs reply → OpTells (op_at s.ops (length old.replies)) reply old.outside new.outside
      → new.replies ≡ old.replies ++ (reply ∷ []) → new.runs ≡ old.runs ++ runs → KeepsToWalk s devices old.sides new.sides old.outside new.outside old.replies reply runs → Served s devices begun (suc k) new
  next-served k old new runs reply served ran goes by tells replies_are runs_are on =
      let fell = op-fell (op_at s.ops (length old.replies)) t devices runs old.outside new.outside ran in
      let one : OneMore s devices (length old.replies) old new = record { runs = runs; reply = reply; ran = ran; goes = goes; by = by; tells = tells; replies_are = replies_are; runs_are = runs_are } in
      let e = served.count in
      let l = length_push old.replies reply in
      let c = ap length replies_are in
      record {
        stood = (old, (served.stood, subst (λ n. OneMore s devices n old new) e one));
        count = omega (arith, e, l, c);
        stretches = subst (λ (rs : List LegRun). InStretches s devices rs new.used begun.outside new.outside) (sym runs_are)
            (stretches-more s devices old.runs runs old.used new.used begun.outside old.outside new.outside served.stretches fell goes);
        unscheduled = subst (λ (rs : List LegRun). RoseBy (all_unscheduled rs + medium_replies new.replies) begun.outside.faults new.outside.faults) (sym runs_are)
            (subst (λ (rs : List Reply). RoseBy (all_unscheduled (old.runs ++ runs) + medium_replies rs) begun.outside.faults new.outside.faults) (sym replies_are)
            (subst (λ n. RoseBy n begun.outside.faults new.outside.faults) (both-append old.runs runs old.replies (reply ∷ []))
            (rose-add (all_unscheduled old.runs + medium_replies old.replies) (all_unscheduled runs + medium_replies (reply ∷ [])) begun.outside.faults old.outside.faults new.outside.faults served.stretches.faults fell.faults served.unscheduled
            (op-unscheduled s t devices (half_of s devices) (length old.replies + 1) (op_at s.ops (length old.replies)) old.sides new.sides runs reply old.outside new.outside by ran tells))));
        lines = λ none. subst (λ n. RoseBy n begun.outside.faults new.outside.faults) (sym (ap medium_lines replies_are ∙ lines-append old.replies (reply ∷ [])))
            (rose-add (medium_lines old.replies) (medium_lines (reply ∷ [])) begun.outside.faults old.outside.faults new.outside.faults served.stretches.faults fell.faults (served.lines none)
            (op-lines s t devices (half_of s devices) (length old.replies + 1) (op_at s.ops (length old.replies)) old.sides new.sides runs reply old.outside new.outside none by ran tells));
        told = λ us u none.
            (let all : NoneUnscheduled (old.runs ++ runs) (old.replies ++ (reply ∷ [])) = subst (λ (rs : List Reply). NoneUnscheduled (old.runs ++ runs) rs) replies_are (subst (λ (rs : List LegRun). NoneUnscheduled rs new.replies) runs_are none) in
            let x = served.told us u (unnamed-first old.runs runs old.replies (reply ∷ []) all) in
            let y = on us x.0 x.1.0 (unnamed-last old.runs runs old.replies (reply ∷ []) all) x.1.1 in
            (y.0, (y.1.0, subst (λ (rs : List Reply). StandsAt s devices us new.sides rs y.0) (sym replies_are) y.1.1)));
        faults = λ us u.
            (let x = served.faults us u in
            let y = op-named s t devices (half_of s devices) (length old.replies + 1) (op_at s.ops (length old.replies)) old.sides new.sides runs reply old.outside new.outside x.0 by ran tells x.1.0 in
            (y.0, (y.1.0, subst (λ (rs : List Reply). All NamesFaults rs) (sym replies_are) (All-push NamesFaults old.replies reply x.1.1 y.1.1))));
      }

  -- ---- where memory is wanting

  pub breaks-in-op : (k : ℕ) (old : Stage) (after : RigState) (runs : List LegRun) (used : ℕ) → Served s devices begun k old → k < length s.ops → OpRan (op_at s.ops (length old.replies)) t devices runs old.outside after
      → GoOn s.schedule old.used runs used → AllOwn (OpAsks s (half_of s devices) (length old.replies + 1) (op_at s.ops (length old.replies)) old.sides.pool) runs → Broke s devices begun after
  breaks-in-op k old after runs used served more ran goes own =
      let e = served.count in
      record {
        k = length old.replies;
        stage = old;
        served = subst (λ n. Served s devices begun n old) (sym e) served;
        runs = runs;
        used = used;
        under_way = record { standing = (op-fell (op_at s.ops (length old.replies)) t devices runs old.outside after ran).standing; goes = goes; asks = inl (omega (arith, e, more), (ran, own)) };
      }

  pub breaks-in-repair : (old : Stage) (after : RigState) (runs : List LegRun) (used : ℕ) → Served s devices begun (length s.ops) old → RanLegs t devices runs old.outside after → GoOn s.schedule old.used runs used
      → AllOwn (IsRepairOf s (half_of s devices)) runs → Broke s devices begun after
  breaks-in-repair old after runs used served ran goes own = record {
    k = length s.ops;
    stage = old;
    served = served;
    runs = runs;
    used = used;
    under_way = record { standing = ran.standing; goes = goes; asks = inr (refl, (ran, own)) };
  }

-- ---- the whole

-- after all ops
module _ (s : Script) (devices : List DeviceInfo) (us : List Stored) (replies : List Reply) (all : length replies ≡ length s.ops) where
  all-ops : take (length replies) s.ops ≡ s.ops
  all-ops = ap (λ n. take n s.ops) all ∙ take-length s.ops

  walked-all : walked s devices us (length replies) ≡ walk_over s devices us
  walked-all = ap (λ (ops : List Op). plain (done (mirror_setting s devices us) (half_of s devices) (count_of s.ops)) (steps_from (mirror_setting s devices us) 1 ops) (mirror_opened (half_of s devices) (opening_over s us))) all-ops

  repaired-all : mirror_repair (mirror_setting s devices us) (half_of s devices) (walked s devices us (length replies)) ≡ repair_over s devices us
  repaired-all = ap (mirror_repair (mirror_setting s devices us) (half_of s devices)) walked-all

  pub served-as : (sides : Sides) (between left : List Stored) (pool : List (List ℕ)) (last : List Reply) (marks : List Marks) (repaired lost : ℕ) → StandsAt s devices us sides replies between → IsRepairedAs s devices us (length replies) marks repaired lost left
      → pool ≡ sides.pool → last ≡ replies → HasServedMirror s devices us left pool last marks repaired lost
  served-as sides between left pool last marks repaired lost stands mended same kept = record {
    shapes = mended.shapes;
    replies_are = kept ∙ stands.replies_are ∙ ap (λ (ops : List Op). replies_from (mirror_setting s devices us) (half_of s devices) (count_of s.ops) 1 ops (mirror_opened (half_of s devices) (opening_over s us))) all-ops;
    pages = ap flat same ∙ stands.pages ∙ ap (λ (w : Walk). w.state.bytes) walked-all;
    blocks = mended.blocks ∙ ap (λ (r : WalkedRepair). r.blocks) repaired-all;
    marks_are = mended.marks_are ∙ ap (λ (r : WalkedRepair). r.marks) repaired-all;
    repaired_is = mended.repaired_is ∙ ap (λ (r : WalkedRepair). r.repaired) repaired-all;
    lost_is = mended.lost_is ∙ ap (λ (r : WalkedRepair). r.lost) repaired-all;
  }

pub finishes : (s : Script) (devices : List DeviceInfo) (begun old : Stage) (new : Mirror) (repaired lost : ℕ) (after : RigState) (runs : List LegRun) → Served s devices begun (length s.ops) old → RanLegs (table_of s devices) devices runs old.outside after
    → GoOn s.schedule old.used runs new.state.used
    → RepairBy s (half_of s devices) 0 (stretches_in (half_of s devices)) (record { marks = old.sides.marks; repaired = 0; lost = 0 }) (record { marks = new.state.marks.items; repaired = repaired; lost = lost }) runs
    → new.state.pool ≡ old.sides.pool → new.replies.items ≡ old.replies
    → RepairsAsWalk s devices old.sides old.outside after old.replies new.state.marks.items repaired lost runs
    → Finished s devices begun new repaired lost after
finishes s devices begun old new repaired lost after runs served ran goes mended pool replies on =
    let fell = ran-fell (table_of s devices) devices runs old.outside after ran in
    record {
      stage = old;
      served = served;
      pool = pool;
      replies_are = replies;
      runs = runs;
      ran = ran;
      mended = mended;
      stretches = stretches-more s devices old.runs runs old.used new.state.used begun.outside old.outside after served.stretches fell goes;
      unscheduled = subst (λ (rs : List Reply). RoseBy (all_unscheduled (old.runs ++ runs) + medium_replies rs) begun.outside.faults after.faults) (sym replies)
          (subst (λ n. RoseBy n begun.outside.faults after.faults) (legs-append old.runs runs old.replies)
          (rose-add (all_unscheduled old.runs + medium_replies old.replies) (all_unscheduled runs) begun.outside.faults old.outside.faults after.faults served.stretches.faults fell.faults served.unscheduled fell.medium));
      lines = λ none. subst (λ (rs : List Reply). RoseBy (medium_lines rs) begun.outside.faults after.faults) (sym replies) (rose-later (medium_lines old.replies) begun.outside.faults old.outside.faults after.faults fell.faults (served.lines none));
      told = λ us u none.
          (let all : NoneUnscheduled (old.runs ++ runs) old.replies = subst (λ (rs : List Reply). NoneUnscheduled (old.runs ++ runs) rs) replies none in
          let many = all_unscheduled-append old.runs runs in
          let legs = all.legs in
          let x = served.told us u (record { legs = omega (arith, many, legs); overwrites = all.overwrites }) in
          let y = on us x.0 x.1.0 (omega (arith, many, legs)) x.1.1 in
          (y.0, (y.1.0, served-as s devices us old.replies served.count old.sides x.0 y.0 new.state.pool new.replies.items new.state.marks.items repaired lost x.1.1 y.1.1 pool replies)));
      faults = λ us u. subst (λ (rs : List Reply). All NamesFaults rs) (sym replies) (served.faults us u).1.1;
    }

-- the repair came to its end, or was broken off
pub ends-repair : (s : Script) (devices : List DeviceInfo) (begun old : Stage) (new : Mirror) (r : Result Done AllocError) (after : RigState) (runs : List LegRun) → Served s devices begun (length s.ops) old → RanLegs (table_of s devices) devices runs old.outside after
    → GoOn s.schedule old.used runs new.state.used → AllOwn (IsRepairOf s (half_of s devices)) runs
    → IfOk r (λ done. RepairBy s (half_of s devices) 0 (stretches_in (half_of s devices)) (record { marks = old.sides.marks; repaired = 0; lost = 0 }) (record { marks = new.state.marks.items; repaired = done.repaired; lost = done.lost }) runs
    × RepairsAsWalk s devices old.sides old.outside after old.replies new.state.marks.items done.repaired done.lost runs)
    → new.state.pool ≡ old.sides.pool → new.replies.items ≡ old.replies
    → MatchResult r (λ done. Finished s devices begun new done.repaired done.lost after) (λ e. Broke s devices begun after)
ends-repair s devices begun old new (Ok done) after runs served ran goes own mended pool replies = finishes s devices begun old new done.repaired done.lost after runs served ran goes mended.0 pool replies mended.1
ends-repair s devices begun old new (Err e) after runs served ran goes own mended pool replies = breaks-in-repair s devices begun old after runs new.state.used served ran goes own

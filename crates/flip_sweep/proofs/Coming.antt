-- A run over the formatted image of units, in memory, comes to what its script does; or why it comes to nothing.
use Rattle.std.proofs.Common.{◌≡◌, ℕ, suc, ◌*◌, ◌^◌, ◌<◌, ◌≤◌, true, List, [], ◌∷◌, length, take, drop, Option, Some, None, refl, sym, ap, subst, ◌∙◌, arith}
use Rattle.std.proofs.lemmas.List.{drop_at, length-take}
use Rattle.image_laws.specs.Over.{image_with, left_by, opening_over, replied, setting_over, volume_over}
use Rattle.image_rig.proofs.FreshHead.{right_head, units_back}
use Rattle.image_laws.proofs.Got.{got_walked}
use Rattle.image_laws.proofs.Told.{IsAfter, after, head_asked, image_after, units_asked}
use Rattle.image_rig.proofs.Heads.{right_units, right_head as right_parts}
use Rattle.page_pool.specs.Cells.{flat}
use Rattle.rig_api.specs.Head.{Head, head_fault, head_of}
use Rattle.rig_api.specs.Telling.{IsStanding, Standing, own_units, units_told}
use Rattle.rig_api.specs.State.{RigState}
use Rattle.script_text.specs.Bindings.{binding_fault}
use Rattle.script_text.specs.declared.script.Script.{Script}
use Rattle.run_command.specs.Verdict.{CauseStopped, Followed, HasRun, WasAsked, devices_of}
use Rattle.call_refusal.specs.declared.refusal.Refusal.{Refusal}
use Rattle.call_refusal.specs.declared.refusal.Refusal.TheVariants as refusal
use Rattle.run_command.specs.declared.verdict.Finished.{Finished}
use Rattle.run_command.proofs.Completing.{table_is}
use Rattle.run_command.proofs.Devices.{image_devices}
use Rattle.rig_api.specs.Frames.{joined}
use Rattle.rig_api.specs.Headers.{image_size, is_layout}
use Rattle.rig_api.specs.Image.{formatted}
use Rattle.rig_api.specs.Target.{Stored}
use Rattle.rig_api.specs.declared.units.UnitSpec.{UnitSpec}
use Rattle.volume_table.specs.Faults.{table_fault}
use Rattle.volume_table.specs.Tables.{MadeFor, Table}
use Rattle.volume_table.specs.declared.device.DeviceInfo.{DeviceInfo}
use Rattle.block_path.specs.Acts.{State}
use Rattle.stack_ops.specs.declared.op.Op.{Op}
use Rattle.stack_ops.specs.declared.reply.Reply.{Reply}
use Rattle.walk_laws.specs.ScriptWalk.{replies_from}
use Rattle.walk_laws.specs.Settings.{Setting}
use Rattle.flip_sweep.specs.Comes.{CameTo, came_to, seen_of}
use Rattle.flip_sweep.specs.Swept.{CauseNoRun}
use Rattle.flip_sweep.specs.declared.runs.Came.{Came as CameRun}
use Rattle.dix_base.proofs.Counts.{never_rose}
use Rattle.run_command.proofs.Passed.{right_head as no_head_fault, told_is_good}

-- ---- the formatted image

pub fresh_long : (us : List UnitSpec) → is_layout us ≡ true → length (formatted us) ≡ image_size us
fresh_long us h =
    let r = right_parts (head_of (formatted us)) (right_head us h) in
    r.size ∙ ap image_size (sym (right_units (head_of (formatted us)) r)) ∙ ap image_size (units_back us h)

-- ---- what a rig over a store in memory tells afterwards

pub record IsTold (image image' : List ℕ) (old new : RigState) : Type 0 where
  pub image_is : old.image ≡ Some image
  pub left_is : new.image ≡ Some image'
  pub laid : new.units ≡ units_told new.standing new.image
  pub stands : IsStanding new.standing new.image
  pub calm : new.faults ≡ 0

stays : (image image' name : List ℕ) (devices : List DeviceInfo) (old told new : RigState) → IsTold image image' old new → head_fault (head_of image) ≡ None → WasAsked name devices old told → new.standing ≡ told.standing
    → (left : List Stored) → new.units ≡ Some left → IsAfter image image' left
stays image image' name devices old told new t right asked same left e =
    let s = new.standing in
    after s image image' left right
    (ap (λ (st : Standing). st.head) same ∙ head_asked name devices old told image t.image_is asked)
    (rw same asked.all)
    (subst (IsStanding s) t.left_is t.stands)
    (ap (units_told s) (sym t.left_is) ∙ sym t.laid ∙ e)

-- ---- a run

-- what a run came to, by the walk of its script over the image
pub record Came (script : Script) (image image' : List ℕ) (run : Finished) : Type 0 where
  pub replies : run.stack.replies.items ≡ replied script image
  pub pages : take (4096 * script.pages) (flat run.stack.pool) ≡ (left_by script image).bytes
  pub stored : drop 512 image' ≡ joined (left_by script image).blocks
  pub long : length image' ≡ length image

behind_head : (image : List ℕ) (blocks : List (List ℕ)) → 512 ≤ length image → drop 512 (image_with image blocks) ≡ joined blocks
behind_head image blocks l = drop_at (take 512 image) (joined blocks) 512 (let e = length-take 512 image in omega (arith, e, l))

pub came : (script : Script) (image image' name : List ℕ) (run : Finished) (old new : RigState) → head_fault (head_of image) ≡ None → 512 ≤ length image → IsTold image image' old new → HasRun run script name old new → Came script image image' run
came script image image' name run old new right long t r =
    let ds : r.devices ≡ devices_of image = image_devices name r.devices old r.told image r.asked t.image_is in
    let same : r.table ≡ volume_over script image = table_is script r.devices (devices_of image) r.table ds r.made in
    let followed : Followed script (volume_over script image) (devices_of image) r.told new run.stack.pool run.stack.replies.items =
    subst (λ (x : Table). Followed script x (devices_of image) r.told new run.stack.pool run.stack.replies.items) same
    (subst (λ (x : List DeviceInfo). Followed script r.table x r.told new run.stack.pool run.stack.replies.items) ds r.followed) in
    let units = units_asked name r.devices old r.told image t.image_is r.asked in
    let w = got_walked script (volume_over script image) (devices_of image) r.told new run.stack.pool run.stack.replies.items (own_units image) followed units t.calm in
    let a : IsAfter image image' w.0 = stays image image' name r.devices old r.told new t right r.asked r.followed.any_rig.goes.standing w.0 w.1 in
    record {
      replies = w.2.replies_are;
      pages = w.2.pages;
      stored = ap (drop 512) (image_after image image' w.0 (left_by script image).blocks right a w.2.blocks) ∙ behind_head image (left_by script image).blocks long;
      long = ap (λ (h : Head). h.size) a.head;
    }

-- what comes to the same
same_came : (r r' : List Reply) (p p' s s' : List ℕ) → r ≡ r' → p ≡ p' → s ≡ s' → ◌≡◌ {A = CameTo} (record { replies = r; pages = p; stored = s }) (record { replies = r'; pages = p'; stored = s' })
same_came r r' p p' s s' e f g = rw (e, f, g) refl

long_enough : (us : List UnitSpec) → 512 ≤ image_size us
long_enough us = omega arith

pub record IsSeen (script : Script) (us : List UnitSpec) (c : CameRun) : Type 0 where
  pub comes : seen_of c script.pages ≡ came_to script us
  pub long : length c.rig.store.bytes ≡ image_size us

pub seen : (script : Script) (us : List UnitSpec) (c : CameRun) (name : List ℕ) (old new : RigState) → is_layout us ≡ true → IsTold (formatted us) c.rig.store.bytes old new → HasRun c.run script name old new → IsSeen script us c
seen script us c name old new h t r =
    let l = fresh_long us h in
    let k = long_enough us in
    let w = came script (formatted us) c.rig.store.bytes name c.run old new (right_head us h) (omega (arith, l, k)) t r in
    record {
      comes = same_came _ _ _ _ _ _ w.replies w.pages w.stored;
      long = w.long ∙ l;
    }

-- ---- or none

pub no_run : (r : Refusal) (script : Script) (image image' name : List ℕ) (old new : RigState) → head_fault (head_of image) ≡ None → IsTold image image' old new → CauseStopped r script name old new → CauseNoRun r script image
no_run (refusal.Script bad) script image image' name old new right t u =
    let ds : u.devices ≡ devices_of image = image_devices name u.devices old new image u.asked t.image_is in
    let same : u.table ≡ volume_over script image = table_is script u.devices (devices_of image) u.table ds u.made in (
      subst (λ (x : Table). MadeFor x (devices_of image) script.block) same (subst (λ (x : List DeviceInfo). MadeFor u.table x script.block) ds u.made.made),
      ap (λ (x : Table). binding_fault script x (devices_of image)) (sym same) ∙ ap (λ (x : List DeviceInfo). binding_fault script u.table x) (sym ds) ∙ u.bound,
    )
no_run (refusal.Image x) script image image' name old new right t c = absurd (no_head_fault image x name old new t.image_is c.1.image right c.0)
no_run (refusal.BadCapacity dev) script image image' name old new right t c = absurd (told_is_good image name dev old new t.image_is c)
no_run (refusal.Volume entry kind) script image image' name old new right t u =
    let ds : u.devices ≡ devices_of image = image_devices name u.devices old new image u.asked t.image_is in
    ap (λ (x : List DeviceInfo). table_fault script.entries x script.block) (sym ds) ∙ u.bad
no_run refusal.RigFault script image image' name old new right t c = absurd (never_rose old.faults new.faults (let e = t.calm in (omega (arith, e), omega (arith, e))) c.0)
no_run refusal.Memory script image image' name old new right t c = tt
no_run refusal.ReadFault script image image' name old new right t c = absurd c

-- as many replies as ops
pub many_replies : (m : Setting) (i : ℕ) (ops : List Op) (s : State) → length (replies_from m i ops s) ≡ length ops
many_replies m i [] s = refl
many_replies m i (op ∷ ops) s = ap suc (many_replies m (suc i) ops _)

pub few_replies : (s : Script) (us : List UnitSpec) (c : CameTo) → length s.ops ≤ 1024 → c ≡ came_to s us → length c.replies < 2 ^ 31
few_replies s us c few e =
    let n : length c.replies ≡ length s.ops = ap (λ (x : CameTo). length x.replies) e ∙ many_replies (setting_over s (formatted us)) 1 s.ops (opening_over s (formatted us)) in
    omega (arith, n, few)

-- what a store in memory holds
pub held : (bytes stored image fresh : List ℕ) → bytes ≡ stored → ◌≡◌ {A = Option (List ℕ)} (Some stored) (Some image) → image ≡ fresh → bytes ≡ fresh
held bytes stored image fresh e k f = cc

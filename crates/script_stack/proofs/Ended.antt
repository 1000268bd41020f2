-- What the steps of a script's stack come to at its end, by the laws of a run over any rig and over one that tells its blocks.
use Rattle.std.proofs.Common.{ℕ, Bool, ◌≡◌, ◌+◌, ◌*◌, true, List, [], length, drop, map, Option, Some, None, refl, sym, ap, subst, ◌∙◌}
use Rattle.std.specs.Prelude.{false, is_some}
use Rattle.std.specs.List.{list_any}
use Rattle.dix_base.specs.Told.{Calm}
use Rattle.script_text.specs.Passed.{is_overwrite}
use Rattle.stack_core.specs.declared.sheet.Sheet.{Sheet}
use Rattle.std.proofs.lemmas.Bool.{false≢true}
use Rattle.std.proofs.Math.Seq.{drop-append_seam}
use Rattle.fault_schedule.specs.declared.fault.FaultLine.{FaultLine}
use Rattle.rig_api.specs.Target.{Stored}
use Rattle.rig_api.specs.Log.{LogEntry}
use Rattle.rig_api.specs.Telling.{IsStanding, Standing, specs_of, units_told}
use Rattle.rig_api.specs.State.{RigState}
use Rattle.script_run_laws.specs.Passed.{info_of}
use Rattle.volume_table.specs.declared.device.DeviceInfo.{DeviceInfo}
use Rattle.volume_table.specs.Tables.{MadeFor, Table}
use Rattle.dix_adapter.specs.Ways.{blocks_told, shapes_of}
use Rattle.dix_adapter.specs.Passed.{State}
use Rattle.stack_core.specs.Passed.{Setting, Holds, AreAnswersTo}
use Rattle.script_text.specs.Bindings.{binding_fault}
use Rattle.script_text.specs.declared.script.Script.{Script}
use Rattle.script_run_laws.specs.SuitsStack.{SuitsStack}
use Rattle.script_run_laws.specs.Units.{AreStored}
use Rattle.stack_core.specs.Mediums.{HasCounted, RoseBy, medium_replies, unscheduled_mediums}
use Rattle.stack_core.specs.Stacks.{GoesOn, IsFinished, IsStack, StackStays, plan_in}
use Rattle.stack_core.specs.Walking.{NoneFailed, Walks, WalksFalling, WalksTold}
use Rattle.stack_core.specs.declared.stack.Stack.{Stack}
use Rattle.stack_core.proofs.NoMedium.{none_replied}
use Rattle.stack_core.proofs.ToldOps.{is_told}
use Rattle.stack_laws.specs.View.{start}
use Rattle.script_stack.specs.Followed.{BeginsWalks, HasWalked, IsBackedBy, SizesAre, begun_of, failed_in, none_fails, setting_of, unit_of, BeginsFalling, BeginsTold, HasFallen, KnownBlocks, NoMediumLine}
use Rattle.stack_core.specs.Going.{Went}
use Rattle.script_stack.specs.Sends.{IsPlanFor, SendsBy, SendsFor, by_words, entries_of}
use Rattle.script_stack.proofs.Following.{told-shapes, told-stored}
use Rattle.script_stack.proofs.SendsBy.{AllLaw, FewLaw, sends_for}

-- the law over any rig
abbrev pub BackedLaw : Type 0
BackedLaw = (s : Script) (t : Table) (devices : List DeviceInfo) (first : ℕ) (r : Stack) (st : Standing) (log : List LogEntry) → SuitsStack s → IsStack r → r.sheet.ops ≡ s.ops
    → ((blocks : List (List ℕ)) → Walks (setting_of s t (map unit_of devices) (failed_in r.replies.items)) (4096 * s.pages) (begun_of s (map unit_of devices) blocks) first r st log)
    → IsFinished r → IsBackedBy s t devices (drop first log) r.replies.items

-- the law over a rig that tells its blocks
abbrev pub ToldLaw : Type 0
ToldLaw = (s : Script) (t : Table) (us left : List Stored) (first : ℕ) (r : Stack) (armed : List FaultLine) (st : Standing) (log : List LogEntry) → SuitsStack s → length s.lines ≡ length s.faults + length s.ops
    → MadeFor t (map info_of (shapes_of us)) s.block → binding_fault s t (map info_of (shapes_of us)) ≡ None → AreStored us → shapes_of left ≡ shapes_of us → IsStack r → r.sheet.ops ≡ s.ops
    → NoMediumLine s.faults r.replies.items → WalksFalling (setting_of s t (shapes_of us) none_fails) (4096 * s.pages) (begun_of s (shapes_of us) (blocks_told us)) first r (Some left) armed st log
    → IsFinished r → HasWalked s t us left r.pool (drop first log) r.replies.items

-- where none of its store calls failed
abbrev pub CalmLaw : Type 0
CalmLaw = (s : Script) (t : Table) (us left : List Stored) (first : ℕ) (r : Stack) (armed : List FaultLine) (st : Standing) (log : List LogEntry) → SuitsStack s → length s.lines ≡ length s.faults + length s.ops
    → MadeFor t (map info_of (shapes_of us)) s.block → binding_fault s t (map info_of (shapes_of us)) ≡ None → AreStored us → shapes_of left ≡ shapes_of us → IsStack r → r.sheet.ops ≡ s.ops
    → NoneFailed r.replies.items → WalksTold (setting_of s t (shapes_of us) none_fails) (4096 * s.pages) (begun_of s (shapes_of us) (blocks_told us)) first r (Some left) armed st log
    → IsFinished r → HasWalked s t us left r.pool (drop first log) r.replies.items

-- and where its store calls may fail
abbrev pub FallenLaw : Type 0
FallenLaw = (s : Script) (t : Table) (us left : List Stored) (first : ℕ) (r : Stack) (armed : List FaultLine) (st : Standing) (log : List LogEntry) → SuitsStack s → length s.lines ≡ length s.faults + length s.ops
    → MadeFor t (map info_of (shapes_of us)) s.block → binding_fault s t (map info_of (shapes_of us)) ≡ None → AreStored us → shapes_of left ≡ shapes_of us → IsStack r → r.sheet.ops ≡ s.ops
    → WalksFalling (setting_of s t (shapes_of us) (failed_in r.replies.items)) (4096 * s.pages) (begun_of s (shapes_of us) (blocks_told us)) first r (Some left) armed st log
    → IsFinished r → HasFallen s t us left r.pool (drop first log) r.replies.items

-- A script that was made ready over a rig and run by these words, with what the rig tells of its image then and afterwards, and its stack that went to its end.
pub record IsOver (s : Script) (t : Table) (devices : List DeviceInfo) (words : List (ℕ × ℕ)) (begun r : Stack) (image image' : Option (List ℕ)) (old new : RigState) : Type 0 where
  pub suits : SuitsStack s
  pub lines : length s.lines ≡ length s.faults + length s.ops
  pub made : MadeFor t devices s.block
  pub bound : binding_fault s t devices ≡ None
  pub sizes : SizesAre devices old.standing
  pub known : is_some image ≡ true → devices ≡ map info_of (specs_of old.standing)
  pub laid : old.units ≡ units_told old.standing image
  pub ready : IsStanding old.standing image
  pub laid_after : new.units ≡ units_told new.standing image'
  pub ready_after : IsStanding new.standing image'
  pub armed : old.armed ≡ s.faults
  pub stack : IsStack r
  pub ops : r.sheet.ops ≡ s.ops
  pub ended : IsFinished r
  pub walks : BeginsWalks s t devices begun
  pub falling : BeginsFalling s t devices begun
  pub told : BeginsTold s t devices begun
  pub silent : medium_replies begun.replies.items ≡ 0
  pub goes : GoesOn old new
  pub tells : is_some image' ≡ is_some image
  pub went : Went begun old r new
  pub plan : IsPlanFor s t (plan_in begun.sheet)
  pub first : Holds (plan_in begun.sheet) begun.machine (start (plan_in begun.sheet))
  pub stays : StackStays begun r
  pub counted : HasCounted s.faults old.faults r new.faults
  pub sent : begun.machine.steps ≡ 0 → SendsBy (entries_of words) begun r old.log new.log

pub rest_is : (s : Script) (t : Table) (devices : List DeviceInfo) (words : List (ℕ × ℕ)) (begun r : Stack) (image image' : Option (List ℕ)) (old new : RigState) (o : IsOver s t devices words begun r image image' old new) → drop (length old.log) new.log ≡ o.goes.more
rest_is s t devices words begun r image image' old new o = ap (drop (length old.log)) o.goes.records ∙ drop-append_seam old.log o.goes.more

pub backed_by : (s : Script) (t : Table) (devices : List DeviceInfo) (words : List (ℕ × ℕ)) (begun r : Stack) (image image' : Option (List ℕ)) (old new : RigState) → BackedLaw → (o : IsOver s t devices words begun r image image' old new) → IsBackedBy s t devices o.goes.more r.replies.items
backed_by s t devices words begun r image image' old new law o =
    subst (λ (more : List LogEntry). IsBackedBy s t devices more r.replies.items) (rest_is s t devices words begun r image image' old new o)
    (law s t devices (length old.log) r new.standing new.log o.suits o.stack o.ops
    (λ blocks. o.went.walks (setting_of s t (map unit_of devices) (failed_in r.replies.items)) (4096 * s.pages) (begun_of s (map unit_of devices) blocks) (length old.log) (o.walks (failed_in r.replies.items) blocks old.standing old.log o.sizes)) o.ended)

pub sent_by : (s : Script) (t : Table) (devices : List DeviceInfo) (words : List (ℕ × ℕ)) (begun r : Stack) (image image' : Option (List ℕ)) (old new : RigState) → FewLaw → AllLaw → (o : IsOver s t devices words begun r image image' old new) → SendsFor (by_words s words) t o.goes.more r.replies.items
sent_by s t devices words begun r image image' old new few all o =
    let m = setting_of s t (map unit_of devices) (failed_in r.replies.items) in
    let opening = begun_of s (map unit_of devices) [] in
    sends_for (by_words s words) t begun r old.log new.log o.goes.more few all
    (record { plan = record { is = o.plan.is; queues = o.plan.queues }; first = o.first; stays = o.stays; sent = o.sent; records = o.goes.records; stack = o.stack; ended = o.ended }) m (4096 * s.pages) opening (length old.log) new.standing new.log
    (o.went.walks m (4096 * s.pages) opening (length old.log) (o.walks (failed_in r.replies.items) [] old.standing old.log o.sizes)) refl refl

-- a rig tells one list of blocks
pub one_left : (a b : List Stored) → Some a ≡ Some b → a ≡ b
one_left a b e = cc

-- Over known blocks, without faults and overwrites, and where no store call failed, the records are what the units answer.
pub answered_by : (s : Script) (t : Table) (devices : List DeviceInfo) (words : List (ℕ × ℕ)) (begun r : Stack) (image image' : Option (List ℕ)) (old new : RigState) → (o : IsOver s t devices words begun r image image' old new) → (known : KnownBlocks old new) →
    s.faults ≡ [] → list_any is_overwrite s.ops ≡ false → Calm old.faults new.faults → AreAnswersTo old.standing known.before o.goes.more known.after
answered_by s t devices words begun r image image' old new o known quiet none calm =
    let m = setting_of s t (map unit_of devices) (failed_in r.replies.items) in
    let ops : begun.sheet.ops ≡ s.ops = ap (λ (x : Sheet). x.ops) (sym o.stays.sheet) ∙ o.ops in
    let x = (o.went.answered m (4096 * s.pages) (begun_of s (map unit_of devices) []) (length old.log) (o.walks (failed_in r.replies.items) [] old.standing old.log o.sizes) (ap (list_any is_overwrite) ops ∙ none) known.before known.began (o.armed ∙ quiet) calm).0 in
    let same : x.records ≡ o.goes.more = sym (drop-append_seam old.log x.records) ∙ (ap (drop (length old.log)) (sym x.log) ∙ rest_is s t devices words begun r image image' old new o) in
    subst (λ left. AreAnswersTo old.standing known.before o.goes.more left) (one_left x.left known.after (sym x.units ∙ known.ended))
    (subst (λ es. AreAnswersTo old.standing known.before es x.left) same x.answered)

-- the law of lines that name the medium
abbrev pub MediumLaw : Type 0
MediumLaw = (m : Setting) (n : ℕ) (opening : State) (begun : ℕ) (faults : List FaultLine) (first : ℕ) (s : Stack) (st : Standing) (log : List LogEntry) (count : ℕ) → IsStack s → Walks m n opening begun s st log
    → IsFinished s → HasCounted faults first s count → RoseBy (unscheduled_mediums faults s.replies.items) first count

pub few_lines : (s : Script) (t : Table) (devices : List DeviceInfo) (words : List (ℕ × ℕ)) (begun r : Stack) (image image' : Option (List ℕ)) (old new : RigState) → MediumLaw → (o : IsOver s t devices words begun r image image' old new) → RoseBy (unscheduled_mediums s.faults r.replies.items) old.faults new.faults
few_lines s t devices words begun r image image' old new law o =
    let m = setting_of s t (map unit_of devices) (failed_in r.replies.items) in
    let opening = begun_of s (map unit_of devices) [] in
    law m (4096 * s.pages) opening (length old.log) s.faults old.faults r new.standing new.log new.faults o.stack
    (o.went.walks m (4096 * s.pages) opening (length old.log) (o.walks (failed_in r.replies.items) [] old.standing old.log o.sizes)) o.ended o.counted

-- ---- where the rig tells its blocks

-- a rig that tells its image afterwards exactly where it did before tells its blocks so
pub still_told : (image image' : Option (List ℕ)) (st st' : Standing) (units units' : Option (List Stored)) → units ≡ units_told st image → units' ≡ units_told st' image' → is_some image' ≡ is_some image → is_some units' ≡ is_some units
still_told None None st st' units units' l l' t = rw (l, l') refl
still_told None (Some bytes') st st' units units' l l' t = absurd (cc)
still_told (Some bytes) None st st' units units' l l' t = absurd (cc)
still_told (Some bytes) (Some bytes') st st' units units' l l' t = rw (l, l') refl

-- so one that told these blocks tells some afterwards
pub tells_some : (o o' : Option (List Stored)) (us : List Stored) → is_some o' ≡ is_some o → o ≡ Some us → (left : List Stored) × (o' ≡ Some left)
tells_some o None us t e = absurd (false≢true (t ∙ ap is_some e))
tells_some o (Some left) us t e = (left, refl)

abbrev pub known_from : (old new : RigState) → is_some new.units ≡ is_some old.units → (us : List Stored) → old.units ≡ Some us → KnownBlocks old new
known_from old new tells us e = record { before = us; after = (tells_some old.units new.units us tells e).0; began = e; ended = (tells_some old.units new.units us tells e).1 }

-- What is known over known blocks: the script is bound to its volume over their shapes, and its stack begins with them.
pub record IsTold (s : Script) (t : Table) (devices : List DeviceInfo) (us left : List Stored) (begun : Stack) (old new : RigState) : Type 0 where
  pub infos : devices ≡ map info_of (shapes_of us)
  pub made : MadeFor t (map info_of (shapes_of us)) s.block
  pub bound : binding_fault s t (map info_of (shapes_of us)) ≡ None
  pub stored : AreStored us
  pub begins_falling : (fails : ℕ → Bool) → WalksFalling (setting_of s t (shapes_of us) fails) (4096 * s.pages) (begun_of s (shapes_of us) (blocks_told us)) (length old.log) begun old.units old.armed old.standing old.log
  pub begins_told : WalksTold (setting_of s t (shapes_of us) none_fails) (4096 * s.pages) (begun_of s (shapes_of us) (blocks_told us)) (length old.log) begun old.units old.armed old.standing old.log
  pub same : shapes_of left ≡ shapes_of us

pub told_at : (s : Script) (t : Table) (devices : List DeviceInfo) (words : List (ℕ × ℕ)) (begun r : Stack) (image image' : Option (List ℕ)) (old new : RigState) → IsOver s t devices words begun r image image' old new → (known : KnownBlocks old new) → IsTold s t devices known.before known.after begun old new
told_at s t devices words begun r image image' old new o known =
    let us = known.before in
    let told : units_told old.standing image ≡ Some us = sym o.laid ∙ known.began in
    let told' : units_told new.standing image' ≡ Some known.after = sym o.laid_after ∙ known.ended in
    let shapes : shapes_of us ≡ specs_of old.standing = told-shapes old.standing image us told o.ready in
    let shapes' : shapes_of known.after ≡ specs_of new.standing = told-shapes new.standing image' known.after told' o.ready_after in
    let specs : devices ≡ map info_of (specs_of old.standing) = o.known (is_told old.standing image us told) in
    let infos : devices ≡ map info_of (shapes_of us) = specs ∙ ap (map info_of) (sym shapes) in
    record {
      infos = infos;
      made = subst (λ ds. MadeFor t ds s.block) infos o.made;
      bound = subst (λ ds. binding_fault s t ds ≡ None) infos o.bound;
      stored = told-stored old.standing image us told o.ready;
      begins_falling = λ fails. rw (known.began, o.armed) (o.falling fails us old.standing old.log specs shapes);
      begins_told = rw (known.began, o.armed) (o.told none_fails us old.standing old.log specs shapes);
      same = shapes' ∙ ap specs_of o.goes.standing ∙ sym shapes;
    }

pub walked_at : (s : Script) (t : Table) (devices : List DeviceInfo) (words : List (ℕ × ℕ)) (begun r : Stack) (image image' : Option (List ℕ)) (old new : RigState) → ToldLaw → (o : IsOver s t devices words begun r image image' old new) → (known : KnownBlocks old new) → NoMediumLine s.faults r.replies.items →
    HasWalked s t known.before known.after r.pool o.goes.more r.replies.items
walked_at s t devices words begun r image image' old new law o known none =
    let us = known.before in
    let told = told_at s t devices words begun r image image' old new o known in
    let ends = o.went.falling (setting_of s t (shapes_of us) none_fails) (4096 * s.pages) (begun_of s (shapes_of us) (blocks_told us)) (length old.log) (told.begins_falling none_fails) in
    let ends' : WalksFalling (setting_of s t (shapes_of us) none_fails) (4096 * s.pages) (begun_of s (shapes_of us) (blocks_told us)) (length old.log) r (Some known.after) new.armed new.standing new.log = rw known.ended at ends in
    subst (λ (more : List LogEntry). HasWalked s t us known.after r.pool more r.replies.items) (rest_is s t devices words begun r image image' old new o)
    (law s t us known.after (length old.log) r new.armed new.standing new.log o.suits o.lines told.made told.bound told.stored told.same o.stack o.ops none ends' o.ended)

-- where the count of faults didn't rise
pub calm_at : (s : Script) (t : Table) (devices : List DeviceInfo) (words : List (ℕ × ℕ)) (begun r : Stack) (image image' : Option (List ℕ)) (old new : RigState) → CalmLaw → (o : IsOver s t devices words begun r image image' old new) → (known : KnownBlocks old new) → Calm old.faults new.faults →
    HasWalked s t known.before known.after r.pool o.goes.more r.replies.items
calm_at s t devices words begun r image image' old new law o known calm =
    let us = known.before in
    let told = told_at s t devices words begun r image image' old new o known in
    let ends = o.went.told (setting_of s t (shapes_of us) none_fails) (4096 * s.pages) (begun_of s (shapes_of us) (blocks_told us)) (length old.log) calm told.begins_told in
    let ends' : WalksTold (setting_of s t (shapes_of us) none_fails) (4096 * s.pages) (begun_of s (shapes_of us) (blocks_told us)) (length old.log) r (Some known.after) new.armed new.standing new.log = rw known.ended at ends in
    subst (λ (more : List LogEntry). HasWalked s t us known.after r.pool more r.replies.items) (rest_is s t devices words begun r image image' old new o)
    (law s t us known.after (length old.log) r new.armed new.standing new.log o.suits o.lines told.made told.bound told.stored told.same o.stack o.ops (none_replied r.replies.items (o.went.silent calm o.silent)) ends' o.ended)

pub fallen_at : (s : Script) (t : Table) (devices : List DeviceInfo) (words : List (ℕ × ℕ)) (begun r : Stack) (image image' : Option (List ℕ)) (old new : RigState) → FallenLaw → (o : IsOver s t devices words begun r image image' old new) → (known : KnownBlocks old new) →
    HasFallen s t known.before known.after r.pool o.goes.more r.replies.items
fallen_at s t devices words begun r image image' old new law o known =
    let us = known.before in
    let told = told_at s t devices words begun r image image' old new o known in
    let ends = o.went.falling (setting_of s t (shapes_of us) (failed_in r.replies.items)) (4096 * s.pages) (begun_of s (shapes_of us) (blocks_told us)) (length old.log) (told.begins_falling (failed_in r.replies.items)) in
    let ends' : WalksFalling (setting_of s t (shapes_of us) (failed_in r.replies.items)) (4096 * s.pages) (begun_of s (shapes_of us) (blocks_told us)) (length old.log) r (Some known.after) new.armed new.standing new.log = rw known.ended at ends in
    subst (λ (more : List LogEntry). HasFallen s t us known.after r.pool more r.replies.items) (rest_is s t devices words begun r image image' old new o)
    (law s t us known.after (length old.log) r new.armed new.standing new.log o.suits o.lines told.made told.bound told.stored told.same o.stack o.ops ends' o.ended)

-- What the steps of a stack come to, by the laws of a script that was run to its end.
use Rattle.std.proofs.Common.{ℕ, zero, suc, ◌≡◌, ◌<◌, ◌*◌, Bool, true, false, List, [], ◌∷◌, ◌++◌, get_or, map, take, refl, sym, ap, subst, ◌∙◌}
use Rattle.std.specs.Prelude.{All}
use Rattle.std.specs.List.{list_any}
use Rattle.page_pool.specs.Cells.{flat}
use Rattle.dix_base.specs.Told.{AreOctets, Calm}
use Rattle.rig_api.specs.Target.{Stored}
use Rattle.rig_api.specs.Log.{LogEntry, Room}
use Rattle.rig_api.specs.State.{RigState}
use Rattle.record_laws.specs.Answered.{Answers}
use Rattle.volume_table.specs.declared.device.DeviceInfo.{DeviceInfo}
use Rattle.volume_table.specs.Tables.{Table}
use Rattle.script_text.specs.declared.script.Script.{Script}
use Rattle.stack_core.specs.declared.stack.Stack.{Stack}
use Rattle.stack_ops.specs.declared.reply.Reply.{Reply}
use Rattle.stack_core.specs.Stacks.{GoesOn}
use Rattle.stack_core.specs.Walking.{NoneFailed, is_medium}
use Rattle.run_laws.specs.Records.{recorded}
use Rattle.run_laws.specs.ToldRun.{told}
use Rattle.stack_ops.specs.declared.reply.Reply.TheVariants.{Silent}
use Rattle.script_stack.specs.Followed.{HasFallen, HasWalked, IsBackedBy, KnownBlocks, NoMediumLine, failed_in, none_fails, opening_of, setting_of, unit_of}
use Rattle.stack_ops.specs.Ops.{is_overwrite}
use Rattle.stack_walk_laws.specs.Falls.{of_blocks}
use Rattle.stack_core.specs.Going.{Went}
use Rattle.script_stack.proofs.Ended.{BackedLaw, CalmLaw, FallenLaw, IsOver, MediumLaw, ToldLaw, answered_by, backed_by, calm_at, fallen_at, few_lines, sent_by, still_told, told_at, walked_at}
use Rattle.script_stack.proofs.SendsBy.{AllLaw, FewLaw}
use Rattle.script_stack.proofs.Words.{sends_own}
use Rattle.script_laws.specs.Keeping.{Keeps}
use Rattle.script_stack.proofs.Passed.{IsBoundOver}
use Rattle.call_refusal.specs.Passed.{info_of}
use Rattle.script_stack.proofs.Octets.{blocks_octets}
use Rattle.stack_walk_laws.specs.Passed.{blocks_told, shapes_of}
use Rattle.run_command.specs.Fallen.{HasServed}
use Rattle.run_command.specs.Premises.{IsAccountableRun, IsAccountedByForm, IsDetectableRun, IsFormedRun, IsPlainRun, IsQuietRun, opening_told, setting_told}
use Rattle.run_command.specs.Layers.{AllNamed, NamesFaults}
use Rattle.run_command.proofs.Devices.{image_holds}
use Rattle.run_command.proofs.Fallen.{BroughtFallLaw, Ends, OwnFallLaw, ReadsFallLaw, served}
use Rattle.run_command.proofs.Layers.{names-faults, names-no-medium, names-those, none-medium}
use Rattle.run_command.proofs.Premises.{accountable_run, detectable_run, plain_run}
use Rattle.page_pool.specs.declared.segs.Seg.{Seg}
use Rattle.integrity_payload.specs.declared.payload.Owner.{Owner}
use Rattle.walk_laws.specs.ReadsAs.{ReadsBy, ReadsRightly, ReadsStored, read_op}
use Rattle.run_laws.specs.ShownRun.{AreCleanWhereRead, IsAccountedRun, IsShownRun}
use Rattle.script_form_laws.specs.Passed.{escapes_none}
use Rattle.script_form_laws.specs.FormedScript.{IsAccountedScript, IsFormedOver, IsFormedScript}
use Rattle.script_form_laws.proofs.Formed.{accounted-clean, read-clean}
use Rattle.walk_laws.specs.Detectable.{accounted, detectable}
use Rattle.walk_laws.specs.FirstLayer.{is_served, last_accepted, last_stored}
use Rattle.walk_laws.specs.Past.{Brought, Event, steps_from}
use Rattle.run_command.specs.Followed.{AllReadBy, Followed, HasPlain, HasReadBy, OnAnyRig, RunReadsRightly, RunReadsStored}
use Rattle.block_path.specs.Acts.{State}
use Rattle.block_path.specs.Moves.{hidden}
use Rattle.stack_ops.specs.declared.op.Op.{Op}
use Rattle.stack_walk_laws.specs.AtTheEnd.{EndsAsFalling}
use Rattle.stack_walk_laws.specs.Flips.{with_flips}
use Rattle.stack_walk_laws.proofs.NoFlips.{no_flips_in}
use Rattle.walk_laws.specs.CalmRun.{IsCalmRun}
use Rattle.walk_laws.specs.PlainMap.{plain_map, plain_replies}
use Rattle.walk_laws.specs.ScriptWalk.{script_replies, script_walk}
use Rattle.walk_laws.specs.Settings.{Block, Setting}
use Rattle.walk_laws.specs.UnderMap.{IsUnder, NoEscape, opened}

-- as a stack's walk begins on it
abbrev pub armed_for : Script → RigState → RigState
armed_for s v = record v { armed = s.faults }

-- what goes on from the rig made ready goes on from it
pub goes_from : (s : Script) (told ready end : RigState) (spare : Room) → ready ≡ record told { room = spare; armed = s.faults } → GoesOn ready end → GoesOn (armed_for s told) end
goes_from s told ready end spare same goes =
    let g : GoesOn (record told { room = spare; armed = s.faults }) end = subst (λ (v : RigState). GoesOn v end) same goes in
    record { standing = g.standing; more = g.more; records = g.records; faults = g.faults }

pub went_from : (s : Script) (begun r : Stack) (told ready end : RigState) (spare : Room) → ready ≡ record told { room = spare; armed = s.faults } → Went begun ready r end → Went begun (armed_for s told) r end
went_from s begun r told ready end spare same went =
    let w : Went begun (record told { room = spare; armed = s.faults }) r end = subst (λ (v : RigState). Went begun v r end) same went in
    record { walks = w.walks; falling = w.falling; told = w.told; silent = w.silent; faults = w.faults; counts = w.counts; sheet = w.sheet; answered = λ m n opening first k none us units armed calm. answers_armed us (w.answered m n opening first k none us units armed calm) }
  where
    answers_armed : (us : List Stored) → Answers us (record told { room = spare; armed = s.faults }) end × (end.standing ≡ told.standing) × (end.armed ≡ s.faults) → Answers us (armed_for s told) end × (end.standing ≡ told.standing) × (end.armed ≡ s.faults)
    answers_armed us x = let a = x.0 in (record { records = a.records; log = a.log; left = a.left; answered = a.answered; units = a.units }, x.1, x.2)

-- a script that keeps the rules of its language and was made ready, from which the stack went to its end, over a rig as a call sees it
pub record IsDone (s : Script) (t : Table) (devices : List DeviceInfo) (begun r : Stack) (old new : RigState) : Type 0 where
  pub keeps : Keeps s
  pub some : 0 < old.standing.devices
  pub octets : AreOctets old.image
  pub faults : new.armed ≡ s.faults
  pub over : IsOver s t devices s.schedule begun r old.image new.image (armed_for s old) new

-- a rig with its faults armed tells the same blocks
abbrev as_armed : (s : Script) (old new : RigState) → KnownBlocks old new → KnownBlocks (armed_for s old) new
as_armed s old new known = record { before = known.before; after = known.after; began = known.began; ended = known.ended }

-- over known blocks the script is bound to its volume
bound_at : (s : Script) (t : Table) (devices : List DeviceInfo) (begun r : Stack) (old new : RigState) (o : IsDone s t devices begun r old new) → (known : KnownBlocks old new) → IsBoundOver s t known.before
bound_at s t devices begun r old new o known =
    let told = told_at s t devices s.schedule begun r old.image new.image (armed_for s old) new o.over (as_armed s old new known) in
    record { keeps = o.keeps; lines = o.over.lines; made = told.made; bound = told.bound; stored = told.stored }

devices_at : (s : Script) (t : Table) (devices : List DeviceInfo) (begun r : Stack) (old new : RigState) (o : IsDone s t devices begun r old new) → (known : KnownBlocks old new) → devices ≡ map info_of (shapes_of known.before)
devices_at s t devices begun r old new o known = (told_at s t devices s.schedule begun r old.image new.image (armed_for s old) new o.over (as_armed s old new known)).infos

bytes_at : (s : Script) (t : Table) (devices : List DeviceInfo) (begun r : Stack) (old new : RigState) (o : IsDone s t devices begun r old new) → (known : KnownBlocks old new) → All (All (λ x. x < 256)) (blocks_told known.before)
bytes_at s t devices begun r old new o known = blocks_octets old.standing old.image known.before o.octets (sym o.over.laid ∙ known.began)

walked : (s : Script) (t : Table) (devices : List DeviceInfo) (begun r : Stack) (old new : RigState) → ToldLaw → (o : IsDone s t devices begun r old new) → (known : KnownBlocks old new) → NoMediumLine s.faults r.replies.items →
    HasWalked s t known.before known.after r.pool o.over.goes.more r.replies.items
walked s t devices begun r old new law o known unnamed = walked_at s t devices s.schedule begun r old.image new.image (armed_for s old) new law o.over (as_armed s old new known) unnamed

-- behind the adapter of a script's setting is a target, and none of its overwrites fails
named : (s : Script) (t : Table) (devices : List DeviceInfo) (begun r : Stack) (old new : RigState) → ToldLaw → (o : IsDone s t devices begun r old new) → (known : KnownBlocks old new) → NoMediumLine s.faults r.replies.items →
    AllNamed s.faults 1 r.replies.items
named s t devices begun r old new law o known unnamed =
    let w = walked s t devices begun r old new law o known unnamed in
    subst (λ (replies : List Reply). AllNamed s.faults 1 replies) (sym w.replies_are) (names-those (setting_told s t known.before) s.faults refl (λ i. refl) s.ops (opening_told s known.before))

-- so where the count of faults didn't rise, and no line names the medium but as `fail` lines say
silent_at : (s : Script) (t : Table) (devices : List DeviceInfo) (begun r : Stack) (old new : RigState) → CalmLaw → (o : IsDone s t devices begun r old new) → (known : KnownBlocks old new) → Calm old.faults new.faults → NoMediumLine s.faults r.replies.items
silent_at s t devices begun r old new law o known calm =
    let w = calm_at s t devices s.schedule begun r old.image new.image (armed_for s old) new law o.over (as_armed s old new known) calm in
    subst (λ (replies : List Reply). NoMediumLine s.faults replies) (sym w.replies_are)
    (names-no-medium s.faults 1 _ (names-those (setting_told s t known.before) s.faults refl (λ i. refl) s.ops (opening_told s known.before)))

-- the laws of a calm walk
abbrev pub RepliesLaw : Type 0
RepliesLaw = (m : Setting) (ops : List Op) (opening : State) → IsCalmRun m ops opening → script_replies m ops opening ≡ plain_replies m ops (opened m opening)

abbrev pub UnderLaw : Type 0
UnderLaw = (m : Setting) (ops : List Op) (opening : State) → IsCalmRun m ops opening → IsUnder m (plain_map m ops (opened m opening)) opening.blocks (script_walk m ops opening)

plain_of : (s : Script) (t : Table) (us left : List Stored) (pool : List (List ℕ)) (log : List LogEntry) (replies : List Reply) → RepliesLaw → UnderLaw → IsCalmRun (setting_told s t us) s.ops (opening_told s us) → HasWalked s t us left pool log replies →
    HasPlain s t us left pool replies
plain_of s t us left pool log replies same under calm w =
    let u = under (setting_told s t us) s.ops (opening_told s us) calm in
    record {
      replies_are = w.replies_are ∙ same (setting_told s t us) s.ops (opening_told s us) calm;
      pages = w.pages ∙ u.bytes;
      blocks = w.blocks ∙ u.blocks;
    }

plain_at : (s : Script) (t : Table) (devices : List DeviceInfo) (begun r : Stack) (old new : RigState) → ToldLaw → RepliesLaw → UnderLaw → (o : IsDone s t devices begun r old new) → (known : KnownBlocks old new) → NoMediumLine s.faults r.replies.items →
    IsPlainRun s t known.before → HasPlain s t known.before known.after r.pool r.replies.items
plain_at s t devices begun r old new law same under o known unnamed run =
    plain_of s t known.before known.after r.pool o.over.goes.more r.replies.items same under (plain_run s t known.before (bound_at s t devices begun r old new o known) (bytes_at s t devices begun r old new o known) run)
    (walked s t devices begun r old new law o known unnamed)

-- the law of reads under scheduled faults
abbrev pub DetectionLaw : Type 0
DetectionLaw = (m : Setting) (devices : List DeviceInfo) (before after : List Op) (owner : Owner) (v n k : ℕ) (body tuples : List Seg) (opening : State) → IsShownRun m devices (before ++ (read_op owner v n body tuples ∷ after)) opening → k < n
    → ReadsRightly m before owner v n body tuples after opening k

-- and that of reads where the disk lies too
abbrev pub StoredLaw : Type 0
StoredLaw = (m : Setting) (devices : List DeviceInfo) (before after : List Op) (owner : Owner) (v n k : ℕ) (body tuples : List Seg) (opening : State) → IsAccountedRun m devices (before ++ (read_op owner v n body tuples ∷ after)) opening → k < n
    → ReadsStored m before owner v n body tuples after opening k

-- each law of one read is that of all reads of a run
module _ (served : Setting → Block → Bool) (last : Setting → State → Block → List Event → Brought) (IsRun : Setting → List DeviceInfo → List Op → State → Type 0) where
  all_read : (m : Setting) (devices : List DeviceInfo) (ops : List Op) (opening : State) (replies : List Reply) →
      ((m : Setting) (devices : List DeviceInfo) (before after : List Op) (owner : Owner) (v n k : ℕ) (body tuples : List Seg) (opening : State) → IsRun m devices (before ++ (read_op owner v n body tuples ∷ after)) opening → k < n
      → ReadsBy served last m before owner v n body tuples after opening k) →
      IsRun m devices ops opening → replies ≡ script_replies m ops opening → AllReadBy served last m ops opening replies
  all_read m devices ops opening replies law run same before after owner v n k body tuples is l =
      subst (λ (r : List Reply). HasReadBy served last m before owner v n body tuples opening r k) (sym (same ∙ ap (λ (all : List Op). script_replies m all opening) is))
      (law m devices before after owner v n k body tuples opening (subst (λ (all : List Op). IsRun m devices all opening) is run) l)

shown_at : (s : Script) (t : Table) (devices : List DeviceInfo) (begun r : Stack) (old new : RigState) → ToldLaw → DetectionLaw → (o : IsDone s t devices begun r old new) → (known : KnownBlocks old new) → NoMediumLine s.faults r.replies.items →
    IsDetectableRun s t devices known.before → RunReadsRightly s t known.before r.replies.items
shown_at s t devices begun r old new law detects o known unnamed run =
    all_read (λ m b. true) last_accepted IsShownRun (setting_told s t known.before) devices s.ops (opening_told s known.before) r.replies.items detects
    (detectable_run s t devices known.before (devices_at s t devices begun r old new o known) (bound_at s t devices begun r old new o known) run) (walked s t devices begun r old new law o known unnamed).replies_are

stored_at : (s : Script) (t : Table) (devices : List DeviceInfo) (begun r : Stack) (old new : RigState) → ToldLaw → StoredLaw → (o : IsDone s t devices begun r old new) → (known : KnownBlocks old new) → NoMediumLine s.faults r.replies.items →
    IsAccountableRun s t devices known.before → RunReadsStored s t known.before r.replies.items
stored_at s t devices begun r old new law stores o known unnamed run =
    all_read is_served last_stored IsAccountedRun (setting_told s t known.before) devices s.ops (opening_told s known.before) r.replies.items stores
    (accountable_run s t devices known.before (devices_at s t devices begun r old new o known) (bound_at s t devices begun r old new o known) run) (walked s t devices begun r old new law o known unnamed).replies_are

fell : (s : Script) (t : Table) (devices : List DeviceInfo) (begun r : Stack) (old new : RigState) → FallenLaw → (o : IsDone s t devices begun r old new) → (known : KnownBlocks old new) →
    HasFallen s t known.before known.after r.pool o.over.goes.more r.replies.items
fell s t devices begun r old new law o known = fallen_at s t devices s.schedule begun r old.image new.image (armed_for s old) new law o.over (as_armed s old new known)

-- behind the adapter is a target, whose store calls may fail
names_faults : (s : Script) (t : Table) (devices : List DeviceInfo) (begun r : Stack) (old new : RigState) → FallenLaw → (o : IsDone s t devices begun r old new) → (known : KnownBlocks old new) →
    All NamesFaults r.replies.items
names_faults s t devices begun r old new law o known =
    let f = (fell s t devices begun r old new law o known).fallen in
    subst (λ (replies : List Reply). All NamesFaults replies) (sym f.ends.replies_are)
    (names-faults (setting_of s t (shapes_of known.before) (failed_in r.replies.items)) s.faults refl (of_blocks f.ends.falls) 1 (with_flips f.flips 1 s.ops) (hidden (4096 * s.pages) (opening_told s known.before)))

-- without overwrites none fails: the replies are those of a walk by the records
none_failed : (s : Script) (t : Table) (devices : List DeviceInfo) (log : List LogEntry) (replies : List Reply) → list_any is_overwrite s.ops ≡ false → IsBackedBy s t devices log replies → NoneFailed replies
none_failed s t devices log replies none backed i =
    let m = setting_of s t (map unit_of devices) (failed_in replies) in
    ap (λ (rs : List Reply). is_medium (get_or rs i Silent)) (backed []).checked ∙ none-medium (told m (recorded m log)) 1 s.ops (opening_of s (map unit_of devices) []) none i

none_fails_in : (replies : List Reply) → NoneFailed replies → (i : ℕ) → failed_in replies i ≡ none_fails i
none_fails_in replies none zero = refl
none_fails_in replies none (suc i) = none i

quiet_ends : (s : Script) (t : Table) (us left : List Stored) (pool : List (List ℕ)) (log : List LogEntry) (replies : List Reply) → list_any is_overwrite s.ops ≡ false → NoneFailed replies → HasFallen s t us left pool log replies → Ends s t us left pool log replies s.ops
quiet_ends s t us left pool log replies none silent h =
    let pages = take (4096 * s.pages) (flat pool) in
    let opening = opening_told s us in
    let script = subst (λ (ops : List Op). EndsAsFalling (setting_of s t (shapes_of us) (failed_in replies)) (4096 * s.pages) ops opening pages (blocks_told left) replies (recorded (setting_of s t (shapes_of us) (failed_in replies)) log)) (no_flips_in h.fallen.flips 1 s.ops none) h.fallen.ends in
    subst (λ (fails : ℕ → Bool). EndsAsFalling (setting_of s t (shapes_of us) fails) (4096 * s.pages) s.ops opening pages (blocks_told left) replies (recorded (setting_of s t (shapes_of us) fails) log)) (λ x i. none_fails_in replies silent i x) script

-- the laws of a script's form
abbrev pub FormLaw : Type 0
FormLaw = (s : Script) (t : Table) (us : List Stored) → IsFormedOver s t us → IsFormedScript s t us → detectable (setting_told s t us) (steps_from (setting_told s t us) 1 s.ops) (opening_told s us) ≡ true

abbrev pub AccountLaw : Type 0
AccountLaw = (s : Script) (t : Table) (us : List Stored) → IsFormedOver s t us → IsAccountedScript s t us → accounted (setting_told s t us) (steps_from (setting_told s t us) 1 s.ops) (opening_told s us) ≡ true

abbrev pub EscapeLaw : Type 0
EscapeLaw = (s : Script) (t : Table) (us : List Stored) → escapes_none s.ops ≡ true → NoEscape (setting_told s t us) 1 s.ops (opening_told s us)

by_form : (s : Script) (t : Table) (devices : List DeviceInfo) (us : List Stored) → FormLaw → EscapeLaw → devices ≡ map info_of (shapes_of us) → IsBoundOver s t us → All (All (λ x. x < 256)) (blocks_told us) → IsFormedRun s t devices us → IsDetectableRun s t devices us
by_form s t devices us form escape same b bytes p =
    let none = escape s t us p.escapes in
    let over : IsFormedOver s t us = record { keeps = b.keeps; lines = b.lines; made = b.made; bound = b.bound; stored = b.stored } in
    let script : IsFormedScript s t us =
    record {
      ty = p.ty;
      dix = p.dix;
      dif = p.dif;
      protect = p.protect;
      form = p.form;
      bytes = bytes;
      clean = p.clean;
      no_escape = none;
    } in
    record {
      ty = p.ty;
      dix = p.dix;
      dif = p.dif;
      protect = p.protect;
      clean = subst (λ (ds : List DeviceInfo). AreCleanWhereRead (setting_told s t us) ds (blocks_told us)) (sym same) (read-clean s t us script);
      no_escape = none;
      shown = form s t us over script;
    }

accounted_by_form : (s : Script) (t : Table) (devices : List DeviceInfo) (us : List Stored) → AccountLaw → EscapeLaw → devices ≡ map info_of (shapes_of us) → IsBoundOver s t us → All (All (λ x. x < 256)) (blocks_told us) → IsAccountedByForm s t devices us → IsAccountableRun s t devices us
accounted_by_form s t devices us form escape same b bytes p =
    let none = escape s t us p.escapes in
    let over : IsFormedOver s t us = record { keeps = b.keeps; lines = b.lines; made = b.made; bound = b.bound; stored = b.stored } in
    let script : IsAccountedScript s t us =
    record {
      ty = p.ty;
      dix = p.dix;
      dif = p.dif;
      protect = p.protect;
      form = p.form;
      bytes = bytes;
      clean = p.clean;
      no_escape = none;
    } in
    record {
      ty = p.ty;
      dix = p.dix;
      dif = p.dif;
      protect = p.protect;
      clean = subst (λ (ds : List DeviceInfo). AreCleanWhereRead (setting_told s t us) ds (blocks_told us)) (sym same) (accounted-clean s t us script);
      no_escape = none;
      accounted = form s t us over script;
    }

stored_by_form_at : (s : Script) (t : Table) (devices : List DeviceInfo) (begun r : Stack) (old new : RigState) → ToldLaw → StoredLaw → AccountLaw → EscapeLaw → (o : IsDone s t devices begun r old new) → (known : KnownBlocks old new) →
    NoMediumLine s.faults r.replies.items → IsAccountedByForm s t devices known.before → RunReadsStored s t known.before r.replies.items
stored_by_form_at s t devices begun r old new law stores account escape o known unnamed run =
    stored_at s t devices begun r old new law stores o known unnamed
    (accounted_by_form s t devices known.before account escape (devices_at s t devices begun r old new o known) (bound_at s t devices begun r old new o known) (bytes_at s t devices begun r old new o known) run)

formed_at : (s : Script) (t : Table) (devices : List DeviceInfo) (begun r : Stack) (old new : RigState) → ToldLaw → DetectionLaw → FormLaw → EscapeLaw → (o : IsDone s t devices begun r old new) → (known : KnownBlocks old new) →
    NoMediumLine s.faults r.replies.items → IsFormedRun s t devices known.before → RunReadsRightly s t known.before r.replies.items
formed_at s t devices begun r old new law detects form escape o known unnamed run =
    shown_at s t devices begun r old new law detects o known unnamed
    (by_form s t devices known.before form escape (devices_at s t devices begun r old new o known) (bound_at s t devices begun r old new o known) (bytes_at s t devices begun r old new o known) run)

served_at : (s : Script) (t : Table) (devices : List DeviceInfo) (begun r : Stack) (old new : RigState) → BackedLaw → FallenLaw → ReadsFallLaw → OwnFallLaw → BroughtFallLaw → (o : IsDone s t devices begun r old new) → (known : KnownBlocks old new) → IsQuietRun s t known.before →
    HasServed s t known.before known.after r.pool o.over.goes.more r.replies.items
served_at s t devices begun r old new backed law reads own brought o known quiet =
    let us = known.before in
    let more = o.over.goes.more in
    let none = none_failed s t devices more r.replies.items quiet.overwrites (backed_by s t devices s.schedule begun r old.image new.image (armed_for s old) new backed o.over) in
    served s t us known.after r.pool more r.replies.items reads own brought (bound_at s t devices begun r old new o known) (bytes_at s t devices begun r old new o known) quiet (quiet_ends s t us known.after r.pool more r.replies.items quiet.overwrites none (fell s t devices begun r old new law o known))

abbrev any_rig : (s : Script) (t : Table) (devices : List DeviceInfo) (begun r : Stack) (old new : RigState) → BackedLaw → FewLaw → AllLaw → MediumLaw → IsDone s t devices begun r old new → OnAnyRig s t devices old new r.replies.items
any_rig s t devices begun r old new backed few all medium o = record {
  tells = o.over.tells;
  tells_blocks = still_told old.image new.image old.standing new.standing old.units new.units o.over.laid o.over.laid_after o.over.tells;
  holds = image_holds old new o.over.goes.standing o.some o.over.ready o.over.ready_after o.over.laid_after o.over.tells;
  armed = o.faults;
  goes = record { standing = o.over.goes.standing; more = o.over.goes.more; records = o.over.goes.records; faults = o.over.goes.faults };
  backed = backed_by s t devices s.schedule begun r old.image new.image (armed_for s old) new backed o.over;
  sends = sends_own s [] t o.over.goes.more r.replies.items (sent_by s t devices s.schedule begun r old.image new.image (armed_for s old) new few all o.over);
  medium = few_lines s t devices s.schedule begun r old.image new.image (armed_for s old) new medium o.over;
}

pub followed : (s : Script) (t : Table) (devices : List DeviceInfo) (begun r : Stack) (old new : RigState) → BackedLaw → FewLaw → AllLaw → MediumLaw → ToldLaw → CalmLaw → RepliesLaw → UnderLaw → DetectionLaw → StoredLaw → FormLaw → AccountLaw → EscapeLaw → FallenLaw → ReadsFallLaw → OwnFallLaw → BroughtFallLaw → IsDone s t devices begun r old new → Followed s t devices old new r.pool r.replies.items
followed s t devices begun r old new backed few all medium told calm same under detects stores form account escape fallen reads own brought o = record {
  any_rig = any_rig s t devices begun r old new backed few all medium o;
  silent = λ known still. silent_at s t devices begun r old new calm o known still;
  intact = λ known none. record {
    walked = walked s t devices begun r old new told o known none;
    named = named s t devices begun r old new told o known none;
    plain = plain_at s t devices begun r old new told same under o known none;
    shown = shown_at s t devices begun r old new told detects o known none;
    formed = formed_at s t devices begun r old new told detects form escape o known none;
    stored = stored_at s t devices begun r old new told stores o known none;
    stored_by_form = stored_by_form_at s t devices begun r old new told stores account escape o known none;
    answered = answered_by s t devices s.schedule begun r old.image new.image (armed_for s old) new o.over (as_armed s old new known);
  };
  failing = λ known. record {
    fell = fell s t devices begun r old new fallen o known;
    named = names_faults s t devices begun r old new fallen o known;
    served = served_at s t devices begun r old new backed fallen reads own brought o known;
  };
}

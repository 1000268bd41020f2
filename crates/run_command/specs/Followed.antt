-- What a script's run did, in three records by environment: over any rig, on an intact medium, and on a failing one.
use Rattle.std.specs.Prelude.{ℕ, suc, Bool, true, ◌≡◌, ◌*◌, ◌<◌, List, [], ◌∷◌, ◌++◌, length, get_or, take, is_some, Some, All, false}
use Rattle.std.specs.List.{list_any}
use Rattle.dix_base.specs.Told.{Calm}
use Rattle.record_laws.specs.Answered.{AreAnswersTo}
use Rattle.stack_ops.specs.Ops.{is_overwrite}
use Rattle.rig_api.specs.State.{RigState}
use Rattle.script_text.specs.declared.script.Script.{Script}
use Rattle.script_stack.specs.Followed.{HasFallen, HasWalked, IsBackedBy, KnownBlocks, NoMediumLine}
use Rattle.script_stack.specs.Sends.{SendsFor}
use Rattle.block_path.specs.Acts.{State}
use Rattle.stack_walk_laws.specs.Passed.{blocks_told}
use Rattle.page_pool.specs.declared.segs.Seg.{Seg}
use Rattle.page_pool.specs.Cells.{flat, gather}
use Rattle.integrity_payload.specs.declared.payload.Owner.{Owner}
use Rattle.walk_laws.specs.ReadsAs.{ReadsWhereServed, landing, listed_in, read_op}
use Rattle.stack_ops.specs.declared.op.Op.{Op}
use Rattle.stack_ops.specs.declared.reply.Reply.TheVariants.{Silent}
use Rattle.walk_laws.specs.FirstLayer.{first_layer, is_served, last_accepted, last_stored}
use Rattle.walk_laws.specs.Past.{Brought, Event, past_after, steps_from}
use Rattle.walk_laws.specs.ScriptWalk.{script_walk}
use Rattle.walk_laws.specs.PlainMap.{plain_map, plain_replies}
use Rattle.walk_laws.specs.Settings.{Block, Setting, block_of}
use Rattle.walk_laws.specs.UnderMap.{opened, under}
use Rattle.stack_core.specs.Mediums.{RoseBy, unscheduled_mediums}
use Rattle.stack_core.specs.Stacks.{GoesOn}
use Rattle.stack_ops.specs.declared.reply.Reply.{Reply}
use Rattle.rig_api.specs.Frames.{joined}
use Rattle.rig_api.specs.Target.{Stored}
use Rattle.volume_table.specs.Tables.{Table}
use Rattle.volume_table.specs.declared.device.DeviceInfo.{DeviceInfo}
use Rattle.run_command.specs.Premises.{opening_told, setting_told}
use Rattle.run_command.specs.Fallen.{HasServed}
use Rattle.run_command.specs.Layers.{AllNamed, NamesFaults}
use Rattle.run_command.specs.Premises.{IsAccountableRun, IsAccountedByForm, IsDetectableRun, IsFormedRun, IsPlainRun, IsQuietRun}
use Rattle.page_pool.specs.declared.TheConstants.{PAGE}
use Rattle.rig_api.specs.Log.{LogEntry}

-- ---- the words of the sentences

-- A told image has its first 512 bytes as before, and behind them the blocks that the rig tells, one after another.
abbrev pub HoldsBlocks : (old new : RigState) → Type 0
HoldsBlocks old new = (image : List ℕ) → old.image ≡ Some image → (left : List Stored) × (new.units ≡ Some left) × (new.image ≡ Some (take 512 image ++ joined (blocks_told left)))

-- Replies and pages are those of the script's ops on a plain map of virtual blocks, whose writes nothing but the host's check refuses.
-- The stored blocks are the image under that map.
pub record HasPlain (script : Script) (table : Table) (us left : List Stored) (pool : List (List ℕ)) (replies : List Reply) : Type 0 where
  pub replies_are : replies ≡ plain_replies (setting_told script table us) script.ops (opened (setting_told script table us) (opening_told script us))
  pub pages : take (PAGE * script.pages) (flat pool) ≡ (plain_map (setting_told script table us) script.ops (opened (setting_told script table us) (opening_told script us))).bytes
  pub blocks : blocks_told left ≡ under (setting_told script table us) 0 (plain_map (setting_told script table us) script.ops (opened (setting_told script table us) (opening_told script us))).map (blocks_told us)

-- Block k of the read that follows these ops, by which blocks are served and by what is the last that was written: one that isn't served is listed with the medium.
-- Of the others each is listed exactly where a layer checks behind a fault, with the first that does, and with the check that is found in the frame that arrives there.
-- Else what lands is the last write's: its data, and where an application takes tuples its tag. What is past and stored is told as it is when the op begins.
abbrev pub HasReadBy : (served : Setting → Block → Bool) → (last : Setting → State → Block → List Event → Brought) → Setting → (before : List Op) → Owner → (v n : ℕ) → (body tuples : List Seg) → State → List Reply → (k : ℕ) → Type 0
HasReadBy served last m before owner v n body tuples opening replies k =
    let b = block_of (suc (length before)) v k in
    let past = past_after m (steps_from m 1 before) opening [] in
    ReadsWhereServed (served m b) m b owner (first_layer m past b) (last m opening b past) (script_walk m before opening).blocks (listed_in (get_or replies (length before) Silent) k)
    (gather 0 (landing m.size owner body tuples k) (script_walk m (before ++ (read_op owner v n body tuples ∷ [])) opening).bytes)

-- each block of each read
abbrev pub AllReadBy : (served : Setting → Block → Bool) → (last : Setting → State → Block → List Event → Brought) → Setting → List Op → State → List Reply → Type 0
AllReadBy served last m ops opening replies = (before after : List Op) (owner : Owner) (v n k : ℕ) (body tuples : List Seg) → ops ≡ before ++ (read_op owner v n body tuples ∷ after) → k < n
    → HasReadBy served last m before owner v n body tuples opening replies k

-- All are served, and the last write is the last that was accepted.
abbrev pub AllReadRightly : Setting → List Op → State → List Reply → Type 0
AllReadRightly m ops opening replies = AllReadBy (λ m b. true) last_accepted m ops opening replies

-- Those are served that no `fail` line names, and the last write is the last that was accepted and stored at its block's place: neither lost nor misdirected.
abbrev pub AllReadStored : Setting → List Op → State → List Reply → Type 0
AllReadStored m ops opening replies = AllReadBy is_served last_stored m ops opening replies

-- so of a script over known blocks
abbrev pub RunReadsRightly : Script → Table → List Stored → List Reply → Type 0
RunReadsRightly script table us replies = AllReadRightly (setting_told script table us) script.ops (opening_told script us) replies

abbrev pub RunReadsStored : Script → Table → List Stored → List Reply → Type 0
RunReadsStored script table us replies = AllReadStored (setting_told script table us) script.ops (opening_told script us) replies

-- ---- the theorem

-- What holds over any rig, honest or not: the log backs the report, and is what the script sends.
pub record OnAnyRig (script : Script) (table : Table) (devices : List DeviceInfo) (old new : RigState) (replies : List Reply) : Type 0 where
  -- The rig tells its image and its blocks afterwards exactly where it did before.
  pub tells : is_some new.image ≡ is_some old.image
  pub tells_blocks : is_some new.units ≡ is_some old.units
  -- A told image is the first 512 bytes that it had, and then the told blocks.
  pub holds : HoldsBlocks old new
  -- The armed faults are the script's.
  pub armed : new.armed ≡ script.faults
  -- The rig stands as it did, its log has grown by the run's records, and its count of faults didn't fall.
  pub goes : GoesOn old new
  -- These records back the replies.
  pub backed : IsBackedBy script table devices goes.more replies
  -- They are of the commands that the script's requests, its volume and its schedule come to, in the form that is called for.
  pub sends : SendsFor script table goes.more replies
  -- Those of the report that name the medium, but for the blocks that `fail` lines name, are at most as many as the count of faults rose.
  pub medium : RoseBy (unscheduled_mediums script.faults replies) old.faults new.faults

-- What holds over known blocks where no line of the report names the medium but as `fail` lines say.
pub record OnIntactMedium (script : Script) (table : Table) (devices : List DeviceInfo) (old new : RigState) (known : KnownBlocks old new) (pool : List (List ℕ)) (log : List LogEntry) (replies : List Reply) : Type 0 where
  -- Replies, pages and stored blocks are those of the ops done one after another at the target, and the log holds what these carry.
  pub walked : HasWalked script table known.before known.after pool log replies
  -- Each block that is listed was found bad by the check of a layer, or a `fail` line names it.
  pub named : AllNamed script.faults 1 replies
  -- Without `fault`, `shift` and `overwrite` lines, over clean blocks, and where no write supplies an escape:
  -- replies and pages are those of the plain map, and the stored blocks are the image under it.
  pub plain : IsPlainRun script table known.before → HasPlain script table known.before known.after pool replies
  -- In type 1, tuples passed all the way under protect field 001b, over clean devices, no escape supplied, faults that can be shown:
  -- each block of a read is the last accepted write's, or it is listed with the first layer that checks behind the fault.
  pub shown : IsDetectableRun script table devices known.before → RunReadsRightly script table known.before replies
  -- So it is where the script's form says that its faults are shown, and that it supplies no escape.
  pub formed : IsFormedRun script table devices known.before → RunReadsRightly script table known.before replies
  -- Where the disk fails, loses and misdirects blocks too, each block of a read is the last write's that was accepted and stored at its place:
  -- never another block's, never half of two. Or it is listed with the medium exactly where a `fail` line names it, or with the first layer as above.
  pub stored : IsAccountableRun script table devices known.before → RunReadsStored script table known.before replies
  -- So it is where the script's form says this of its faults.
  pub stored_by_form : IsAccountedByForm script table devices known.before → RunReadsStored script table known.before replies
  -- Without such lines, and where no store call failed: the records are what the units answer, one after another.
  pub answered : script.faults ≡ [] → list_any is_overwrite script.ops ≡ false → Calm old.faults new.faults → AreAnswersTo old.standing known.before log known.after

-- What holds over known blocks, whatever store calls failed.
pub record OnFailingMedium (script : Script) (table : Table) (old new : RigState) (known : KnownBlocks old new) (pool : List (List ℕ)) (log : List LogEntry) (replies : List Reply) : Type 0 where
  -- Replies, pages and stored blocks are those of the ops done one after another, but for the store calls that failed:
  -- what a write's call left stands in its block, and where an overwrite replied `Medium` some flip of its block stands in its place.
  pub fell : HasFallen script table known.before known.after pool log replies
  -- Each block that is listed was found bad by the check of a layer, or failed at the medium.
  pub named : All NamesFaults replies
  -- Without `fault`, `shift` and `overwrite` lines, over clean blocks: a block of a read that isn't lost fails at the medium
  -- or is the last accepted write's, and one of a write that the plain map accepts fails at the medium or not at all.
  pub served : IsQuietRun script table known.before → HasServed script table known.before known.after pool log replies

-- What the steps of a script over its volume did, from the rig that told what its devices are to the rig afterwards, with these pages and replies.
pub record Followed (script : Script) (table : Table) (devices : List DeviceInfo) (old new : RigState) (pool : List (List ℕ)) (replies : List Reply) : Type 0 where
  -- over any rig, honest or not
  pub any_rig : OnAnyRig script table devices old new replies
  -- over known blocks, where the count of faults didn't rise, no line of the report names the medium but as `fail` lines say
  pub silent : (known : KnownBlocks old new) → Calm old.faults new.faults → NoMediumLine script.faults replies
  -- over known blocks, where no line of the report names the medium but as `fail` lines say
  pub intact : (known : KnownBlocks old new) → NoMediumLine script.faults replies → OnIntactMedium script table devices old new known pool any_rig.goes.more replies
  -- over known blocks, whatever store calls failed
  pub failing : (known : KnownBlocks old new) → OnFailingMedium script table old new known pool any_rig.goes.more replies

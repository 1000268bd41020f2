use Rattle.std.specs.Prelude.{ℕ, ◌≡◌, ◌≤◌, ◌⊎◌, ◌<◌, Bool, true, false, List, All, [], ◌∷◌, ◌++◌, drop, replicate, take, Option, Some, is_some}
use Rattle.bio_core.specs.declared.fate.Why.{Why}
use Rattle.page_pool.specs.declared.segs.Seg.{Seg}
use Rattle.page_pool.specs.Pages.{Wrote, bytes_in, part}
use Rattle.page_pool.specs.Places.{places_of, range_of, total}
use Rattle.stack_ops.specs.Footprints.{put_seg}
use Rattle.stack_ops.specs.declared.op.Op.{Op}
use Rattle.stack_ops.specs.declared.op.Op.TheVariants.{Fetch, FetchPi, Fill, Overwrite, Put, Seal, Show, Wait, Write, WritePi}
use Rattle.stack_ops.specs.declared.reply.Reply.{Reply}
use Rattle.stack_ops.specs.declared.reply.Reply.TheVariants.{Medium, Shown, Silent}
use Rattle.walk_laws.specs.ScriptWalk.{bad_from, whole_or_bad}
use Rattle.script_text.specs.declared.script.Script.{Script}
use Rattle.mirror_laws.specs.declared.marks.Marks.{Marks}
use Rattle.mirror_laws.specs.OnLegs.{listed_written, marks_written}
use Rattle.mirror_volume.specs.declared.piece.Piece.{Piece}
use Rattle.mirror_volume.specs.Inner.{write_script}
use Rattle.dix_base.specs.Told.{Rose}
use Rattle.rig_api.specs.declared.change.Change.{Change}
use Rattle.rig_api.specs.Telling.{block_at, changed, with_block}
use Rattle.rig_api.specs.State.{RigState}
use Rattle.rig_api.specs.Target.{Stored}
use Rattle.volume_table.specs.declared.device.DeviceInfo.{DeviceInfo}
use Rattle.volume_table.specs.Tables.{Table}
use Rattle.mirror_volume.specs.LegsPassed.{table_of}
use Rattle.mirror_volume.specs.LegRuns.{AllOwn, AllWalked, GoOn, LegRun, RanLegs, found_by, replies_of}
use Rattle.mirror_volume.specs.Asked.{IsReadOf, ReadBy}

-- No leg is asked, nothing is put on record, the armed faults stay, and the count of faults doesn't fall.
pub record AsksNoLeg (runs : List LegRun) (before after : RigState) : Type 0 where
  pub none : runs ≡ []
  pub standing : after.standing ≡ before.standing
  pub faults : before.faults ≤ after.faults
  pub records : after.log ≡ before.log
  pub armed : after.armed ≡ before.armed

-- What an op of a mirror's script does, by its runs on the legs: over any rig, whatever these replied.

-- the pages, and the marks of all blocks
pub record Sides : Type 0 where
  pub pool : List (List ℕ)
  pub marks : List Marks

-- all blocks of a request, on leg 0
abbrev pub whole_request : (op v n : ℕ) → Piece
whole_request op v n = record { op = op; count = n; first = 0; n = n; v = v; on1 = false }

-- One that writes these data to all blocks of a request, on one leg.
pub record IsWriteOf (s : Script) (half op v n app : ℕ) (bytes : List ℕ) (own : Script) : Type 0 where
  pub on1 : Bool
  pub own_is : own ≡ write_script s half (record (whole_request op v n) { on1 = on1 }) app bytes

-- A write of these data, which are bytes: one run on leg 0, then one on leg 1.
pub record WroteBy (s : Script) (half op v n app : ℕ) (bytes : List ℕ) (old new : List Marks) (runs : List LegRun) (reply : Reply) : Type 0 where
  pub octets : All (λ x. x < 256) bytes
  pub on0 : LegRun
  pub on1 : LegRun
  pub runs_are : runs ≡ on0 ∷ on1 ∷ []
  pub own0 : on0.own ≡ write_script s half (whole_request op v n) app bytes
  pub own1 : on1.own ≡ write_script s half (record (whole_request op v n) { on1 = true }) app bytes
  pub marks : new ≡ marks_written v (found_by n (replies_of on0)) (found_by n (replies_of on1)) old
  pub reply_is : reply ≡ whole_or_bad (bad_from 0 (listed_written (found_by n (replies_of on0)) (found_by n (replies_of on1))))

-- A read: its data land in the pages.
pub record FetchedBy (s : Script) (half op v n : ℕ) (body : List Seg) (old new : Sides) (runs : List LegRun) (reply : Reply) : Type 0 where
  pub runs0 : List LegRun
  pub runs1 : List LegRun
  pub listed : List (Option Why)
  pub bytes : List ℕ
  pub runs_are : runs ≡ runs0 ++ runs1
  pub read : ReadBy s half (whole_request op v n) (take n (drop v old.marks)) runs0 runs1 listed bytes
  pub pages : Wrote old.pool new.pool (range_of body 0 (total body)) bytes
  pub marks : new.marks ≡ old.marks
  pub reply_is : reply ≡ whole_or_bad (bad_from 0 listed)

-- pages and marks stay, and no request is run
pub record SidesStay (old new : Sides) (runs : List LegRun) : Type 0 where
  pub same : new ≡ old
  pub none : runs ≡ []

-- these bytes are set
pub record Sets (seg : Seg) (bytes : List ℕ) (old new : Sides) (runs : List LegRun) : Type 0 where
  pub pages : Wrote old.pool new.pool (places_of seg) bytes
  pub marks : new.marks ≡ old.marks
  pub none : runs ≡ []

-- op number `op`, counted from 1
abbrev pub OpBy : Script → (half op : ℕ) → Op → (old new : Sides) → List LegRun → Reply → Type 0
OpBy s half op (Fill seg byte) old new runs reply = Sets seg (replicate seg.len byte) old new runs × (reply ≡ Silent)
OpBy s half op (Put page off bytes) old new runs reply = Sets (put_seg page off bytes) bytes old new runs × (reply ≡ Silent)
OpBy s half op (Show seg) old new runs reply = SidesStay old new runs × (reply ≡ Shown (part old.pool seg))
OpBy s half op (Seal n body tuples app rtag) old new runs reply = SidesStay old new runs × (reply ≡ Silent)
OpBy s half op (Write v n body app) old new runs reply = (new.pool ≡ old.pool) × WroteBy s half op v n app (bytes_in old.pool body 0 (total body)) old.marks new.marks runs reply
OpBy s half op (Fetch v n body) old new runs reply = FetchedBy s half op v n body old new runs reply
OpBy s half op (WritePi v n body tuples) old new runs reply = SidesStay old new runs × (reply ≡ Silent)
OpBy s half op (FetchPi v n body tuples) old new runs reply = SidesStay old new runs × (reply ≡ Silent)
OpBy s half op (Overwrite dev lba change) old new runs reply = SidesStay old new runs × ((reply ≡ Silent) ⊎ (reply ≡ Medium))
OpBy s half op Wait old new runs reply = SidesStay old new runs × (reply ≡ Silent)

-- What an op runs on the legs, even where memory is wanting in its middle: op number `op`, over these pages.
abbrev pub OpAsks : Script → (half op : ℕ) → Op → (pool : List (List ℕ)) → Script → Type 0
OpAsks s half op (Fill seg byte) pool own = ⊥
OpAsks s half op (Put page off bytes) pool own = ⊥
OpAsks s half op (Show seg) pool own = ⊥
OpAsks s half op (Seal n body tuples app rtag) pool own = ⊥
OpAsks s half op (Write v n body app) pool own = IsWriteOf s half op v n app (bytes_in pool body 0 (total body)) own
OpAsks s half op (Fetch v n body) pool own = IsReadOf s half (whole_request op v n) own
OpAsks s half op (WritePi v n body tuples) pool own = ⊥
OpAsks s half op (FetchPi v n body tuples) pool own = ⊥
OpAsks s half op (Overwrite dev lba change) pool own = ⊥
OpAsks s half op Wait pool own = ⊥

-- What the reply of an overwrite tells, whatever the count of faults did: where it is silent its change was made; else its call failed, the count of faults rose, and its block alone may hold anything.
pub record OverwriteTells (dev lba : ℕ) (change : Change) (reply : Reply) (before after : RigState) : Type 0 where
  pub silent : reply ≡ Silent → (us : List Stored) → before.units ≡ Some us → after.units ≡ Some (with_block us dev lba (changed us change (block_at us dev lba)))
  pub medium : reply ≡ Medium → Rose before.faults after.faults
  pub left : reply ≡ Medium → (us : List Stored) → before.units ≡ Some us → (block : List ℕ) × (after.units ≡ Some (with_block us dev lba block))

-- What a reply tells of the rig: an overwrite's, whether its change was made.
abbrev pub OpTells : Op → Reply → (before after : RigState) → Type 0
OpTells (Fill seg byte) reply before after = Unit {0}
OpTells (Put page off bytes) reply before after = Unit {0}
OpTells (Show seg) reply before after = Unit {0}
OpTells (Seal n body tuples app rtag) reply before after = Unit {0}
OpTells (Write v n body app) reply before after = Unit {0}
OpTells (Fetch v n body) reply before after = Unit {0}
OpTells (WritePi v n body tuples) reply before after = Unit {0}
OpTells (FetchPi v n body tuples) reply before after = Unit {0}
OpTells (Overwrite dev lba change) reply before after = OverwriteTells dev lba change reply before after
OpTells Wait reply before after = Unit {0}

-- What an op leaves at the rig: that of its runs. An overwrite has none; what it alters is said by `OpTells`.
abbrev pub OpRan : Op → Table → List DeviceInfo → List LegRun → (before after : RigState) → Type 0
OpRan (Fill seg byte) t devices runs before after = RanLegs t devices runs before after
OpRan (Put page off bytes) t devices runs before after = RanLegs t devices runs before after
OpRan (Show seg) t devices runs before after = RanLegs t devices runs before after
OpRan (Seal n body tuples app rtag) t devices runs before after = RanLegs t devices runs before after
OpRan (Write v n body app) t devices runs before after = RanLegs t devices runs before after
OpRan (Fetch v n body) t devices runs before after = RanLegs t devices runs before after
OpRan (WritePi v n body tuples) t devices runs before after = RanLegs t devices runs before after
OpRan (FetchPi v n body tuples) t devices runs before after = RanLegs t devices runs before after
OpRan (Overwrite dev lba change) t devices runs before after = AsksNoLeg runs before after
OpRan Wait t devices runs before after = RanLegs t devices runs before after

-- What an op leaves at the target: what its runs leave. An overwrite has none; it changes its stored block, and doesn't fail.
abbrev pub OpWalked : Op → Table → (us : List Stored) → List LegRun → Reply → (left : List Stored) → Type 0
OpWalked (Fill seg byte) t us runs reply left = AllWalked t us runs left
OpWalked (Put page off bytes) t us runs reply left = AllWalked t us runs left
OpWalked (Show seg) t us runs reply left = AllWalked t us runs left
OpWalked (Seal n body tuples app rtag) t us runs reply left = AllWalked t us runs left
OpWalked (Write v n body app) t us runs reply left = AllWalked t us runs left
OpWalked (Fetch v n body) t us runs reply left = AllWalked t us runs left
OpWalked (WritePi v n body tuples) t us runs reply left = AllWalked t us runs left
OpWalked (FetchPi v n body tuples) t us runs reply left = AllWalked t us runs left
OpWalked (Overwrite dev lba change) t us runs reply left = (reply ≡ Silent) × (left ≡ with_block us dev lba (changed us change (block_at us dev lba)))
OpWalked Wait t us runs reply left = AllWalked t us runs left

-- ---- an op, as far as memory goes

-- Op number `number`, over these pages: what its runs leave at the rig, the entries of the schedule that they use, and something of them. The rig tells its image or not as before, and stands as before.
pub record RanOp (s : Script) (devices : List DeviceInfo) (half number : ℕ) (op : Op) (pool : List (List ℕ)) (used used' : ℕ) (before after : RigState) (Came : List LegRun → Type 0) : Type 0 where
  pub runs : List LegRun
  pub ran : OpRan op (table_of s devices) devices runs before after
  pub goes_on : GoOn s.schedule used runs used'
  pub own : AllOwn (OpAsks s half number op pool) runs
  pub came : Came runs
  pub tells : is_some after.image ≡ is_some before.image
  pub standing : after.standing ≡ before.standing

-- It was done to its end.
abbrev pub DidOp : Script → (half number : ℕ) → Op → (old new : Sides) → (before after : RigState) → List LegRun → Reply → Type 0
DidOp s half number op old new before after runs reply = OpBy s half number op old new runs reply × OpTells op reply before after

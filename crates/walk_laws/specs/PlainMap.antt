use Rattle.std.specs.Prelude.{ℕ, suc, Bool, false, not, ◌&&◌, ◌||◌, eqb, if◌then◌else◌, List, [], ◌∷◌, drop, get_or, set, Option, Some, None, bit_and}
use Rattle.pi_guard.specs.Guards.{guard_of}
use Rattle.pi_tuple.specs.Finds.{first_of, has_ref_tag, is_zero}
use Rattle.pi_tuple.specs.Tuples.{ref_tag, tuple_bytes}
use Rattle.pi_tuple.specs.declared.tuple.Tuple.{Tuple}
use Rattle.pi_tuple.specs.declared.checks.PiType.{PiType}
use Rattle.pi_tuple.specs.declared.checks.PiType.TheVariants.{Zero, One, Two, Three}
use Rattle.pi_tuple.specs.declared.checks.Check.{Check}
use Rattle.pi_tuple.specs.declared.checks.Check.TheVariants.{AppTag, Guard, RefTag}
use Rattle.page_pool.specs.Cells.{gather, scatter}
use Rattle.stack_ops.specs.Passed.{Adapter}
use Rattle.stack_ops.specs.declared.op.Op.{Op}
use Rattle.stack_ops.specs.declared.reply.Reply.{Reply}
use Rattle.block_path.specs.Passed.{data_of, frame_of, tuple_of}
use Rattle.block_path.specs.Blocks.{ActAnswer, own_tuple, silent, tuple_after}
use Rattle.block_path.specs.Routes.{host_type}
use Rattle.block_path.specs.Serial.{plain, plain_tells}
use Rattle.walk_laws.specs.Settings.{Block, Setting, route}
use Rattle.walk_laws.specs.ScriptWalk.{reply_of}
use Rattle.walk_laws.specs.Steps.{Alters, Reads, Seals, Sets, Shows, Step, Writes, WritesPi, steps_of}

-- A script without faults, on pages and a plain map of virtual blocks.

-- what the map has of a block: its data, its application tag, and in type 3 its reference tag
pub record MapEntry : Type 0 where
  pub body : List ℕ
  pub app : ℕ
  pub own : ℕ

-- the bytes of pages, and for each virtual block its entry
pub record Plain : Type 0 where
  pub bytes : List ℕ
  pub map : List MapEntry

abbrev pub no_entry : MapEntry
no_entry = record { body = []; app = 0; own = 0 }

-- tuples travel all the way between host and medium
abbrev pub all_pass : Setting → Bool
all_pass m = m.mode.dix && (m.mode.dif && not (is_zero m.ty))

-- type 3's reference tag, and 0 elsewhere
abbrev pub own_in : PiType → ℕ → ℕ
own_in Zero rtag = 0
own_in One rtag = 0
own_in Two rtag = 0
own_in Three rtag = rtag

-- Only where tuples travel all the way their application tag and their own tag are kept.
abbrev pub passed : Setting → MapEntry → MapEntry
passed m e = if all_pass m then e else record { body = e.body; app = 0; own = 0 }

-- what the map keeps of an accepted block with this tuple
abbrev pub entry_of : Setting → List ℕ → Tuple → MapEntry
entry_of m body t = passed m (record { body = body; app = t.app; own = own_in m.ty t.rtag })

-- the application tag is the expected one, in the bits of the mask
abbrev pub as_expected : Setting → ℕ → Bool
as_expected m app = eqb (bit_and app m.mode.mask) (bit_and m.mode.app m.mode.mask)

-- A block of a write is accepted where its application tag is the expected one.
abbrev pub finds_plainly : Setting → ℕ → Option Check
finds_plainly m app = if as_expected m app then None else Some AppTag

-- A block with the application's tuple is accepted where its guard is that of its data, its application tag is the expected one,
-- and in host types 1 and 2 its reference tag is the virtual block's or that of its address; else it is listed with the first of these that differs. Beside what is handed on of a tuple this alone asks where the block lies.
abbrev pub finds_of_app : Setting → Block → List ℕ → Tuple → Option Check
finds_of_app m b body t = first_of
    (record { check = Guard; differs = not (eqb t.guard (guard_of m.mode.kind body)) }
    ∷ record { check = AppTag; differs = not (as_expected m t.app) }
    ∷ record { check = RefTag; differs = has_ref_tag (host_type m.ty) && not (eqb t.rtag (ref_tag b.virt) || eqb t.rtag (ref_tag (route m b).lba)) }
    ∷ [])

abbrev pub kept_unless : Option Check → (v : ℕ) → MapEntry → List MapEntry → List MapEntry
kept_unless None v e map = set map v e
kept_unless (Some check) v e map = map

abbrev pub listed_by : Option Check → ActAnswer
listed_by None = silent
listed_by (Some check) = record silent { why = Some (Adapter check) }

-- the reference tag of a tuple of this type: that of the block it names, or its own
abbrev pub tag_of : PiType → (named own : ℕ) → ℕ
tag_of ty named own = if has_ref_tag ty then ref_tag named else own

-- what a reader gets: the data, with the host's guard and the virtual block where the host has tuples
abbrev pub handed : Setting → Block → MapEntry → List ℕ
handed m b e =
    if m.mode.dix then frame_of e.body (record { guard = guard_of m.mode.kind e.body; app = (passed m e).app; rtag = tag_of (host_type m.ty) b.virt (passed m e).own })
    else e.body

-- A step on pages and map. The tuples of a write stay in the pages as the walk leaves them.
abbrev pub plain_step : Setting → Step → Plain → Plain
plain_step m (Sets at values) s = record s { bytes = scatter at values s.bytes }
plain_step m (Shows at) s = s
plain_step m (Seals body tuple app rtag) s = record s { bytes = scatter tuple (tuple_bytes (record { guard = guard_of m.mode.kind (gather 0 body s.bytes); app = app; rtag = rtag })) s.bytes }
plain_step m (Writes b app body) s = let seen = gather 0 body s.bytes in
    record s { map = kept_unless (finds_plainly m app) b.virt (entry_of m seen (own_tuple (route m b) app seen)) s.map }
plain_step m (WritesPi b frame) s = let seen = gather 0 frame s.bytes in
    let body = data_of m.size seen in
    let t = tuple_of m.size seen in
    record {
      bytes = scatter (drop m.size frame) (tuple_after (route m b) (drop m.size seen)) s.bytes;
      map = kept_unless (finds_of_app m b body t) b.virt (entry_of m body t) s.map;
    }
plain_step m (Reads b owner to) s = record s { bytes = scatter to (handed m b (get_or s.map b.virt no_entry)) s.bytes }
plain_step m (Alters dev lba change) s = s

abbrev pub plain_answer : Setting → Step → Plain → ActAnswer
plain_answer m (Sets at values) s = silent
plain_answer m (Shows at) s = record silent { shown = gather 0 at s.bytes }
plain_answer m (Seals body tuple app rtag) s = silent
plain_answer m (Writes b app body) s = listed_by (finds_plainly m app)
plain_answer m (WritesPi b frame) s = let seen = gather 0 frame s.bytes in listed_by (finds_of_app m b (data_of m.size seen) (tuple_of m.size seen))
plain_answer m (Reads b owner to) s = silent
plain_answer m (Alters dev lba change) s = silent

-- the ops from op i on, one after another, and their replies
abbrev pub plain_from : Setting → (i : ℕ) → List Op → Plain → Plain
plain_from m i [] s = s
plain_from m i (op ∷ ops) s = plain_from m (suc i) ops (plain (plain_step m) (steps_of m i op) s)

abbrev pub plain_replies_from : Setting → (i : ℕ) → List Op → Plain → List Reply
plain_replies_from m i [] s = []
plain_replies_from m i (op ∷ ops) s =
    reply_of false op (plain_tells (plain_step m) (plain_answer m) (steps_of m i op) s) ∷ plain_replies_from m (suc i) ops (plain (plain_step m) (steps_of m i op) s)

abbrev pub plain_map : Setting → List Op → Plain → Plain
plain_map m ops s = plain_from m 1 ops s

abbrev pub plain_replies : Setting → List Op → Plain → List Reply
plain_replies m ops s = plain_replies_from m 1 ops s

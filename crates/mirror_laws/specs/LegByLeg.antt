use Rattle.std.specs.Prelude.{ℕ, ◌≡◌, ◌+◌, ◌<◌, ◌≤◌, Bool, if◌then◌else◌, List, [], ◌∷◌, ◌++◌, length, map, get_or, replicate, set, pos, Option, Ok}
use Rattle.page_pool.specs.declared.segs.Seg.{Seg}
use Rattle.page_pool.specs.Cells.{gather, scatter}
use Rattle.fault_schedule.specs.Altered.{shift_of}
use Rattle.fault_schedule.specs.declared.fault.Crossing.{Crossing}
use Rattle.range_gate.specs.Cells.{cells_of}
use Rattle.bio_core.specs.declared.fate.Why.{Why}
use Rattle.stack_ops.specs.declared.op.Op.{Op}
use Rattle.stack_ops.specs.declared.op.Op.TheVariants.{Fetch, FetchPi, Fill, Overwrite, Put, Seal, Show, Wait, Write, WritePi}
use Rattle.stack_ops.specs.declared.reply.Reply.{Reply}
use Rattle.stack_ops.specs.declared.reply.Reply.TheVariants.{Medium, Shown, Silent}
use Rattle.stack_ops.specs.Footprints.{put_seg}
use Rattle.volume_table.specs.Places.{volume_len}
use Rattle.block_path.specs.Blocks.{ActAnswer}
use Rattle.block_path.specs.Serial.{plain, plain_tells}
use Rattle.walk_laws.specs.Past.{Brought, steps_from}
use Rattle.walk_laws.specs.ScriptWalk.{bad_from, changed, reply_of, source_of, whole_or_bad}
use Rattle.walk_laws.specs.Settings.{Block, Setting}
use Rattle.walk_laws.specs.Steps.{steps_of}
use Rattle.walk_laws.specs.UnderMap.{home}
use Rattle.mirror_laws.specs.Mirror.{Mirror, answer, done, replies_from}
use Rattle.mirror_laws.specs.OnLegs.{all_landed, blocks_on, brought_each, comes_from, listed_written, marks_written, why_of, whys_written, written}
use Rattle.mirror_laws.specs.Repair.{reading}

-- What holds of requests that are done leg by leg.

-- What is asked of the mirror: nothing is shifted, its volume has twice `half` blocks, and each of these has a cell of its own.
pub record HasLegs (m : Setting) (half : ℕ) : Type 0 where
  pub unshifted : (at : Crossing) (op : ℕ) → shift_of m.site.faults at op ≡ pos 0
  pub long : volume_len m.entries ≡ half + half
  pub one_cell_each : (u v : ℕ) → u < volume_len m.entries → v < volume_len m.entries → home m u ≡ home m v → u ≡ v

module _ (m : Setting) (half : ℕ) (count : ℕ → ℕ) (i : ℕ) (op : Op) (s : Mirror) where
  -- the mirror after op i, what it answers to the op's blocks, and what is listed of each
  abbrev pub after_op : Mirror
  after_op = plain (done m half count) (steps_of m i op) s

  abbrev pub answers_of : List ActAnswer
  answers_of = plain_tells (done m half count) (answer m half count) (steps_of m i op) s

  abbrev pub whys_of : List (Option Why)
  whys_of = map (λ (a : ActAnswer). a.why) answers_of

-- the data that a write brings
abbrev pub brought_of : Setting → (n : ℕ) → List Seg → (app : ℕ) → Mirror → List Brought
brought_of m n body app s = brought_each m.size app n (gather 0 (cells_of body) s.state.bytes)

-- A write of op i: all its blocks on leg 0, then all on leg 1. What is found of each, and what is left.
pub record WritesByLegs (m : Setting) (half : ℕ) (count : ℕ → ℕ) (i v n : ℕ) (body : List Seg) (app : ℕ) (s : Mirror) : Type 0 where
  pub bytes : (after_op m half count i (Write v n body app) s).state.bytes ≡ s.state.bytes
  pub blocks : (after_op m half count i (Write v n body app) s).state.blocks
      ≡ written m (blocks_on i n (half + v) n) (brought_of m n body app s) (written m (blocks_on i 0 v n) (brought_of m n body app s) s.state.blocks)
  pub marks : (after_op m half count i (Write v n body app) s).marks
      ≡ marks_written v (whys_written m (blocks_on i 0 v n) (brought_of m n body app s)) (whys_written m (blocks_on i n (half + v) n) (brought_of m n body app s)) s.marks
  pub whys : whys_of m half count i (Write v n body app) s
      ≡ listed_written (whys_written m (blocks_on i 0 v n) (brought_of m n body app s)) (whys_written m (blocks_on i n (half + v) n) (brought_of m n body app s))
  pub reply : (fails : Bool) → reply_of fails (Write v n body app) (answers_of m half count i (Write v n body app) s)
      ≡ whole_or_bad (bad_from 0 (listed_written (whys_written m (blocks_on i 0 v n) (brought_of m n body app s)) (whys_written m (blocks_on i n (half + v) n) (brought_of m n body app s))))

-- A frame that is delivered of a block of the volume isn't shorter than its data.
abbrev pub DeliversWhole : Setting → List (List ℕ) → Type 0
DeliversWhole m blocks = (b : Block) (frame : List ℕ) → b.virt < volume_len m.entries → reading m b blocks ≡ Ok frame → m.size ≤ length frame

-- A read of op i, by what comes of each block on leg 0 and on leg 1.
pub record ReadsByLegs (m : Setting) (half : ℕ) (count : ℕ → ℕ) (i v n : ℕ) (body : List Seg) (s : Mirror) : Type 0 where
  pub blocks : (after_op m half count i (Fetch v n body) s).state.blocks ≡ s.state.blocks
  pub marks : (after_op m half count i (Fetch v n body) s).marks ≡ s.marks
  pub bytes : (after_op m half count i (Fetch v n body) s).state.bytes
      ≡ scatter (cells_of body) (all_landed m.size (comes_from m half i n v 0 n s.marks s.state.blocks)) s.state.bytes
  pub whys : whys_of m half count i (Fetch v n body) s ≡ map why_of (comes_from m half i n v 0 n s.marks s.state.blocks)
  pub reply : (fails : Bool) → reply_of fails (Fetch v n body) (answers_of m half count i (Fetch v n body) s)
      ≡ whole_or_bad (bad_from 0 (map why_of (comes_from m half i n v 0 n s.marks s.state.blocks)))

-- An op leaves this, and replies this, by whether it is an overwrite that fails.
pub record Leaves (m : Setting) (half : ℕ) (count : ℕ → ℕ) (i : ℕ) (op : Op) (s next : Mirror) (reply : Bool → Reply) : Type 0 where
  pub next_is : after_op m half count i op s ≡ next
  pub reply_is : (fails : Bool) → reply_of fails op (answers_of m half count i op s) ≡ reply fails

-- the mirror with these pages, or with these stored blocks
abbrev pub with_bytes : List ℕ → Mirror → Mirror
with_bytes bytes s = record s { state = record s.state { bytes = bytes } }

abbrev pub with_blocks : List (List ℕ) → Mirror → Mirror
with_blocks blocks s = record s { state = record s.state { blocks = blocks } }

-- What an op that is no request leaves and replies. A script of a mirror has no `seal`.
abbrev pub NoRequest : Setting → (half : ℕ) → (count : ℕ → ℕ) → (i : ℕ) → Op → Mirror → Type 0
NoRequest m half count i (Fill seg byte) s = Leaves m half count i (Fill seg byte) s (with_bytes (scatter (cells_of (seg ∷ [])) (replicate seg.len byte) s.state.bytes) s) (λ fails. Silent)
NoRequest m half count i (Put page off bytes) s = Leaves m half count i (Put page off bytes) s (with_bytes (scatter (cells_of (put_seg page off bytes ∷ [])) bytes s.state.bytes) s) (λ fails. Silent)
NoRequest m half count i (Show seg) s = Leaves m half count i (Show seg) s s (λ fails. Shown (gather 0 (cells_of (seg ∷ [])) s.state.bytes))
NoRequest m half count i (Seal n body tuples app rtag) s = Unit {0}
NoRequest m half count i (Write v n body app) s = Unit {0}
NoRequest m half count i (Fetch v n body) s = Unit {0}
NoRequest m half count i (WritePi v n body tuples) s = Unit {0}
NoRequest m half count i (FetchPi v n body tuples) s = Unit {0}
NoRequest m half count i (Overwrite dev lba change) s =
    Leaves m half count i (Overwrite dev lba change) s
    (with_blocks (set s.state.blocks (m.site.cell dev lba) (changed change (get_or s.state.blocks (source_of m.site dev lba change) []))) s) (λ fails. if fails then Medium else Silent)
NoRequest m half count i Wait s = Leaves m half count i Wait s s (λ fails. Silent)

-- One more op: what the ops before it leave is what it begins with, and its reply is the last.
pub record OneMoreOp (m : Setting) (half : ℕ) (count : ℕ → ℕ) (ops : List Op) (op : Op) (s : Mirror) : Type 0 where
  pub next_is : plain (done m half count) (steps_from m 1 (ops ++ (op ∷ []))) s ≡ after_op m half count (1 + length ops) op (plain (done m half count) (steps_from m 1 ops) s)
  pub replies_are : replies_from m half count 1 (ops ++ (op ∷ [])) s
      ≡ replies_from m half count 1 ops s ++ (reply_of (m.fails (1 + length ops)) op (answers_of m half count (1 + length ops) op (plain (done m half count) (steps_from m 1 ops) s)) ∷ [])

-- What a request on a leg comes to, done as a script of its own.
use Rattle.std.specs.Prelude.{ℕ, ◌≡◌, ◌+◌, ◌*◌, List, [], ◌∷◌, ◌++◌, drop, length, map, replicate, take, Option, Some, None, Result, Ok, Err}
use Rattle.page_pool.specs.Cells.{flat}
use Rattle.bio_core.specs.declared.fate.Why.{Why}
use Rattle.bio_core.specs.declared.fate.Why.TheVariants.{Adapter, App, Block as ByOwner, Medium, Refused, Short, Target}
use Rattle.rig_api.specs.Target.{Stored}
use Rattle.stack_ops.specs.declared.reply.Reply.{Reply}
use Rattle.stack_ops.specs.declared.reply.Reply.TheVariants.{Silent}
use Rattle.volume_table.specs.declared.device.DeviceInfo.{DeviceInfo}
use Rattle.volume_table.specs.Tables.{Table}
use Rattle.walk_laws.specs.ScriptWalk.{bad_from, whole_or_bad}
use Rattle.walk_laws.specs.Settings.{Block, Setting}
use Rattle.script_text.specs.declared.script.Script.{Script}
use Rattle.script_text.specs.Bindings.{binding_fault}
use Rattle.script_stack.specs.Passed.{SuitsStack, blocks_told, shapes_of}
use Rattle.script_stack.specs.Followed.{none_fails, setting_of}
use Rattle.mirror_laws.specs.OnLegs.{blocks_on, brought_each, data_read, whys_read, whys_written, written}
use Rattle.mirror_laws.specs.Repair.{reading}
use Rattle.mirror_volume.specs.declared.piece.Piece.{Piece}
use Rattle.mirror_volume.specs.Inner.{first_label, first_virt, pages_for}
use Rattle.page_pool.specs.declared.TheConstants.{PAGE}
use Rattle.pi_tuple.specs.declared.TheConstants.{TUPLE}

-- A stack takes the script over a volume of these devices.
pub record IsReady (s : Script) (t : Table) (devices : List DeviceInfo) : Type 0 where
  pub suits : SuitsStack s
  pub lines : length s.lines ≡ length s.faults + length s.ops
  pub bound : binding_fault s t devices ≡ None

-- the blocks of the piece, on its leg
abbrev pub blocks_of : (half : ℕ) → Piece → List Block
blocks_of half p = blocks_on p.op (first_label p) (first_virt half p) p.n

-- with what the mirror's script runs over units that tell their blocks
abbrev pub mirror_setting : Script → Table → List Stored → Setting
mirror_setting s t us = setting_of s t (shapes_of us) none_fails

-- Each block of the piece was written as the mirror's setting says: what the request replies behind its puts, and what is stored.
pub record WroteOnLeg (s : Script) (t : Table) (half : ℕ) (p : Piece) (app : ℕ) (bytes : List ℕ) (us us' : List Stored) (replies : List Reply) : Type 0 where
  pub replies_are : replies ≡ replicate (pages_for (p.n * s.block)) Silent ++ (whole_or_bad (bad_from 0 (whys_written (mirror_setting s t us) (blocks_of half p) (brought_each s.block app p.n bytes))) ∷ [])
  pub blocks : blocks_told us' ≡ written (mirror_setting s t us) (blocks_of half p) (brought_each s.block app p.n bytes) (blocks_told us)

-- Each was read as the mirror's setting says: what the request replies, and what its pages hold.
pub record ReadOnLeg (s : Script) (t : Table) (half : ℕ) (p : Piece) (us us' : List Stored) (pool : List (List ℕ)) (replies : List Reply) : Type 0 where
  pub replies_are : replies ≡ whole_or_bad (bad_from 0 (whys_read (mirror_setting s t us) (blocks_of half p) (blocks_told us))) ∷ []
  pub blocks : blocks_told us' ≡ blocks_told us
  pub landed : take (p.n * s.block) (flat pool) ≡ data_read (mirror_setting s t us) (blocks_of half p) (blocks_told us)

-- ---- a read with tuples

-- The application verifies, in the place of the block layer, and finds what that would have found.
abbrev pub by_app : Option Why → Option Why
by_app None = None
by_app (Some (Adapter check)) = Some (Adapter check)
by_app (Some (Target check)) = Some (Target check)
by_app (Some (ByOwner check)) = Some (App check)
by_app (Some (App check)) = Some (App check)
by_app (Some Medium) = Some Medium
by_app (Some (Refused key asc ascq)) = Some (Refused key asc ascq)
by_app (Some Short) = Some Short

-- the tuple that a block of it lands: of the frame what stands behind its data, and zeros where none is delivered
abbrev pub tuple_landed : (size : ℕ) → Result (List ℕ) Why → List ℕ
tuple_landed size (Ok frame) = drop size frame
tuple_landed size (Err why) = replicate 8 0

abbrev pub tuples_read : Setting → List Block → List (List ℕ) → List ℕ
tuples_read m [] blocks = []
tuples_read m (b ∷ bs) blocks = tuple_landed m.size (reading m b blocks) ++ tuples_read m bs blocks

-- Each was read as the mirror's setting says, and verified by the application: what the request replies, and what its pages hold. Behind the pages of the data stand the tuples.
pub record ReadPiOnLeg (s : Script) (t : Table) (half : ℕ) (p : Piece) (us us' : List Stored) (pool : List (List ℕ)) (replies : List Reply) : Type 0 where
  pub replies_are : replies ≡ whole_or_bad (bad_from 0 (map by_app (whys_read (mirror_setting s t us) (blocks_of half p) (blocks_told us)))) ∷ []
  pub blocks : blocks_told us' ≡ blocks_told us
  pub landed : take (p.n * s.block) (flat pool) ≡ data_read (mirror_setting s t us) (blocks_of half p) (blocks_told us)
  pub tuples : take (p.n * TUPLE) (drop (PAGE * pages_for (p.n * s.block)) (flat pool)) ≡ tuples_read (mirror_setting s t us) (blocks_of half p) (blocks_told us)

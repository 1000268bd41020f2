use Rattle.std.specs.Prelude.{ℕ, ◌≡◌, suc, Bool, true, false, eqb, if◌then◌else◌, List, [], ◌∷◌, ◌++◌, length, get_or, Option, Some, None}
use Rattle.pi_tuple.specs.declared.checks.Check.{Check}
use Rattle.page_pool.specs.declared.segs.Seg.{Seg}
use Rattle.page_pool.specs.Cells.{gather}
use Rattle.stack_ops.specs.Passed.{Why, Adapter, Medium as OfMedium, Target}
use Rattle.stack_ops.specs.declared.op.Op.{Op}
use Rattle.stack_ops.specs.declared.op.Op.TheVariants.{Fetch, FetchPi}
use Rattle.stack_ops.specs.declared.reply.BadBlock.{BadBlock}
use Rattle.stack_ops.specs.declared.reply.Reply.{Reply}
use Rattle.stack_ops.specs.declared.reply.Reply.TheVariants.{Bad, Medium, Shown, Silent, Whole}
use Rattle.block_path.specs.Passed.{data_of, tuple_of, Owner, Block as OfBlock, App as OfApp}
use Rattle.block_path.specs.Acts.{State}
use Rattle.block_path.specs.Blocks.{fetched_cell, own_tuple}
use Rattle.block_path.specs.WayIn.{owner_says}
use Rattle.walk_laws.specs.Detectable.{found}
use Rattle.walk_laws.specs.FirstLayer.{AtAdapter, AtOwner, AtTarget, Layer, first_layer, is_served, last_accepted, last_stored}
use Rattle.walk_laws.specs.Past.{Brought, Event, past_after, steps_from}
use Rattle.walk_laws.specs.ScriptWalk.{script_replies, script_walk}
use Rattle.walk_laws.specs.Settings.{Block, Setting, block_of, route}
use Rattle.walk_laws.specs.Steps.{body_of, frame_at}

-- What comes of a block of a read: it is listed with a layer and a check, or it is the last accepted write's.

-- what a list of bad blocks says of block k
abbrev pub listed_among : List BadBlock → ℕ → Option Why
listed_among [] k = None
listed_among (x ∷ bad) k = if eqb x.k k then Some x.why else listed_among bad k

-- and what a reply does
abbrev pub listed_in : Reply → ℕ → Option Why
listed_in Silent k = None
listed_in Whole k = None
listed_in (Bad bad) k = listed_among bad k
listed_in (Shown bytes) k = None
listed_in Medium k = None

-- why a block fails in which a layer found this
abbrev pub said_by : Layer → Owner → Check → Why
said_by AtTarget owner check = Target check
said_by AtAdapter owner check = Adapter check
said_by AtOwner owner check = owner_says owner check

-- The block is listed with this layer, and with the check that is found in the frame that arrives there.
pub record IsNamed (m : Setting) (b : Block) (owner : Owner) (layer : Layer) (blocks : List (List ℕ)) (listed : Option Why) : Type 0 where
  pub check : Check
  pub is_found : found m b (get_or blocks (fetched_cell m.site (route m b)) []) layer ≡ Some check
  pub is_listed : listed ≡ Some (said_by layer owner check)

-- the application takes tuples, the block layer keeps them to itself
abbrev pub takes_tuples : Owner → Bool
takes_tuples OfBlock = false
takes_tuples OfApp = true

-- The block isn't listed, and these data landed; where tuples are taken, with the host's guard of them, this application tag and the tag of the virtual block.
pub record IsDelivered (m : Setting) (b : Block) (owner : Owner) (e : Brought) (listed : Option Why) (landed : List ℕ) : Type 0 where
  pub is_listed : listed ≡ None
  pub body : data_of m.size landed ≡ e.body
  pub tuple : takes_tuples owner ≡ true → tuple_of m.size landed ≡ own_tuple (route m b) e.app e.body

-- by whether there is a first layer
abbrev pub ReadsAs : Setting → Block → Owner → Option Layer → Brought → List (List ℕ) → Option Why → List ℕ → Type 0
ReadsAs m b owner None e blocks listed landed = IsDelivered m b owner e listed landed
ReadsAs m b owner (Some layer) e blocks listed landed = IsNamed m b owner layer blocks listed

-- a read of n blocks from v on
abbrev pub read_op : Owner → (v n : ℕ) → (body tuples : List Seg) → Op
read_op OfBlock v n body tuples = Fetch v n body
read_op OfApp v n body tuples = FetchPi v n body tuples

-- the cells in which its block k lands
abbrev pub landing : (size : ℕ) → Owner → (body tuples : List Seg) → ℕ → List ℕ
landing size OfBlock body tuples k = body_of size body k
landing size OfApp body tuples k = frame_at size body tuples k

-- A block that the medium fails is listed with it, whatever else befalls it.
abbrev pub ReadsWhereServed : (served : Bool) → Setting → Block → Owner → Option Layer → Brought → List (List ℕ) → Option Why → List ℕ → Type 0
ReadsWhereServed false m b owner layer e blocks listed landed = listed ≡ Some OfMedium
ReadsWhereServed true m b owner layer e blocks listed landed = ReadsAs m b owner layer e blocks listed landed

-- Block k of the op that follows `before`, a read, by what is past and stored when the op begins: by which blocks are served, and by what is the last that was written.
abbrev pub ReadsBy : (served : Setting → Block → Bool) → (last : Setting → State → Block → List Event → Brought) → Setting → (before : List Op) → Owner → (v n : ℕ) → (body tuples : List Seg) → (after : List Op) → State → (k : ℕ) → Type 0
ReadsBy served last m before owner v n body tuples after opening k =
    let b = block_of (suc (length before)) v k in
    let past = past_after m (steps_from m 1 before) opening [] in
    ReadsWhereServed (served m b) m b owner (first_layer m past b) (last m opening b past) (script_walk m before opening).blocks
    (listed_in (get_or (script_replies m (before ++ (read_op owner v n body tuples ∷ after)) opening) (length before) Silent) k)
    (gather 0 (landing m.size owner body tuples k) (script_walk m (before ++ (read_op owner v n body tuples ∷ [])) opening).bytes)

-- Each block is served: it is listed exactly where there is a first layer, and else it lands as the last accepted write.
abbrev pub ReadsRightly : Setting → (before : List Op) → Owner → (v n : ℕ) → (body tuples : List Seg) → (after : List Op) → State → (k : ℕ) → Type 0
ReadsRightly m before owner v n body tuples after opening k = ReadsBy (λ m b. true) last_accepted m before owner v n body tuples after opening k

-- It is listed with the medium exactly where a line says that this fails it, else with the first layer where there is one, and else it lands as the last write that was accepted and stored at its place.
abbrev pub ReadsStored : Setting → (before : List Op) → Owner → (v n : ℕ) → (body tuples : List Seg) → (after : List Op) → State → (k : ℕ) → Type 0
ReadsStored m before owner v n body tuples after opening k = ReadsBy is_served last_stored m before owner v n body tuples after opening k

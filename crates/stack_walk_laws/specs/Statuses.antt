-- How far each block of a script is, by what is seen of a stack.
use Rattle.std.specs.Prelude.{ℕ, zero, suc, false, ◌&&◌, eqb, nat_lt, nat_le, if◌then◌else◌, List, [], ◌∷◌, get_or, Option, Some, None}
use Rattle.bio_core.specs.Bios.{Block}
use Rattle.bio_core.specs.declared.fate.Fate.{Fate}
use Rattle.bio_core.specs.declared.fate.Fate.TheVariants.{Good, Bad, Untouched}
use Rattle.bio_core.specs.declared.fate.Why.{Why}
use Rattle.range_gate.specs.Gates.{is_waiting}
use Rattle.stack_laws.specs.Blocks.{BlockId, blocks, is_settled, place_of}
use Rattle.stack_laws.specs.Plan.{Plan, request_at}
use Rattle.stack_laws.specs.View.{Command, OpView, View, op_at}
use Rattle.stack_walk_laws.specs.Sending.{with_status}
use Rattle.stack_walk_laws.specs.Slots.{Admitted, Carried, Cut, Done, Settled, Status, Waits}

-- a fate, or another where there is none yet
abbrev pub first_fate : Fate → Fate → Fate
first_fate Good other = Good
first_fate (Bad why) other = Bad why
first_fate Untouched other = other

-- what became of block k of op i among these blocks
abbrev pub fate_at : (i k : ℕ) → List BlockId → List Fate → Fate
fate_at i k [] fs = Untouched
fate_at i k (b ∷ bs) [] = Untouched
fate_at i k (b ∷ bs) (f ∷ fs) = if eqb b.op i && eqb b.k k then f else fate_at i k bs fs

-- by the commands that aren't completed
abbrev pub fate_by : (i k : ℕ) → Command → Fate
fate_by i k c = if c.completed then Untouched else fate_at i k (blocks c.bios) c.fates

abbrev pub fate_in : (i k : ℕ) → List Command → Fate
fate_in i k [] = Untouched
fate_in i k (c ∷ cs) = first_fate (fate_by i k c) (fate_in i k cs)

-- A block that is cut stands in a queue, or in a command, which did or didn't touch it.
abbrev pub sent_as : Fate → Status
sent_as Good = Carried None
sent_as (Bad why) = Carried (Some why)
sent_as Untouched = Cut

-- a block of a request that was admitted
abbrev pub going : OpView → (k : ℕ) → Option Why → Fate → Status
going o k why fate = if get_or o.settled k false then Settled why else if nat_le o.cut k then Admitted else sent_as fate

-- a place k of an op with so many blocks; an op without blocks is done whole
abbrev pub standing : (count : ℕ) → OpView → (shown : List ℕ) → (why : Option Why) → Fate → (k : ℕ) → Status
standing count o shown why fate k = if is_waiting o.phase then Waits else if eqb count 0 then Done shown else if nat_lt k count then going o k why fate else Waits

-- How far each block is; with what it is listed once it is settled, and what an op shows, is given. Ops are numbered from 1.
abbrev pub status_in : Plan → View → (shown : ℕ → ℕ → List ℕ) → (why : ℕ → ℕ → Option Why) → ℕ → ℕ → Status
status_in p v shown why zero k = Waits
status_in p v shown why (suc i) k = standing (request_at p i).count (op_at v i) (shown i k) (why i k) (fate_in i k v.commands) k

-- ---- blocks of a group

-- a block by its op's place and its own
abbrev pub id_of : Block → BlockId
id_of b = record { op = place_of b.op; k = b.k }

-- what becomes of a block by its fate, where it was this
abbrev pub given : Fate → Status → Status
given Good old = Carried None
given (Bad why) old = Carried (Some why)
given Untouched old = old

-- These blocks are settled, but for the untouched ones: each is listed by what is kept of it.
abbrev pub with_settled : List Block → List Fate → (why : ℕ → ℕ → Option Why) → (ℕ → ℕ → Status) → ℕ → ℕ → Status
with_settled [] fs why status = status
with_settled (b ∷ bs) [] why status = status
with_settled (b ∷ bs) (f ∷ fs) why status = with_settled bs fs why (if is_settled f then with_status b.op b.k (Settled (why (place_of b.op) b.k)) status else status)

-- what becomes of a block whose fate is known
abbrev pub after_all : Fate → Option Why → Status → Status
after_all Good why old = Settled why
after_all (Bad x) why old = Settled why
after_all Untouched why old = old

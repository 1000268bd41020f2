-- The room of an op is taken once.
use Rattle.std.proofs.Common.{◌≡◌, ◌<◌, ℕ, List, length, set, sym, ap, ◌∙◌, ⊎_elim, arith, get_or-set_other, get_or-set_same}
use Rattle.std.proofs.lemmas.Bool.{cases_eq}
use Rattle.std.proofs.lemmas.List.{length-set}
use Rattle.page_pool.specs.declared.segs.Seg.{Seg}
use Rattle.page_pool.specs.Pages.{LiesIn}
use Rattle.page_pool.proofs.Placing.{all_lie-same}
use Rattle.bio_core.specs.declared.request.Io.{Io}
use Rattle.stack_ops.specs.declared.op.Op.{Op}
use Rattle.stack_ops.specs.declared.op.Op.TheVariants.{Fill, Put, Show, Seal, Write, Fetch, WritePi, FetchPi, Overwrite, Wait}
use Rattle.stack_core.specs.declared.kept.Room.{Room}
use Rattle.stack_core.specs.declared.kept.Room.TheVariants.{Nothing, Blocks, Bytes, Tuples}
use Rattle.stack_walk_laws.specs.Sheets.{io_at, op_in}
use Rattle.stack_core.specs.Replies.{HoldsBad, HoldsSeal}
use Rattle.stack_core.specs.Doing.{CanDo}
use Rattle.stack_core.specs.Stacks.{AreRooms, room_at}

can-empty : (pool : List (List ℕ)) (room : Room) (op : Op) → CanDo pool room op → CanDo pool Nothing op
can-empty pool room (Fill seg byte) h = h
can-empty pool room (Put page off bytes) h = h
can-empty pool room (Show seg) h = (h.0, tt)
can-empty pool room (Seal n body tuples app rtag) h = tt
can-empty pool room (Write v n body app) h = tt
can-empty pool room (Fetch v n body) h = tt
can-empty pool room (WritePi v n body tuples) h = tt
can-empty pool room (FetchPi v n body tuples) h = tt
can-empty pool room (Overwrite dev lba change) h = tt
can-empty pool room Wait h = tt

lies-stays : (old new : List (List ℕ)) (s : Seg) → length new ≡ length old → LiesIn old s → LiesIn new s
lies-stays old new s e h = let l = h.in_pool in record { in_pool = omega arith; in_page = h.in_page }

seal-stays : (old new : List (List ℕ)) (body : List Seg) (room : Room) → length new ≡ length old → HoldsSeal old body room → HoldsSeal new body room
seal-stays old new body Nothing e h = tt
seal-stays old new body (Blocks v) e h = tt
seal-stays old new body (Bytes v) e h = tt
seal-stays old new body (Tuples pi) e h = record {
  payload = h.payload;
  some = h.some;
  numbers = h.numbers;
  lies = all_lie-same old new body e h.lies;
  lie = all_lie-same old new pi.tuples e h.lie;
  once = h.once;
  apart = h.apart;
}

can-stays : (old new : List (List ℕ)) (room : Room) (op : Op) → length new ≡ length old → CanDo old room op → CanDo new room op
can-stays old new room (Fill seg byte) e h = lies-stays old new seg e h
can-stays old new room (Put page off bytes) e h = (lies-stays old new _ e h.0, h.1)
can-stays old new room (Show seg) e h = (lies-stays old new seg e h.0, h.1)
can-stays old new room (Seal n body tuples app rtag) e h = seal-stays old new body room e h
can-stays old new room (Write v n body app) e h = tt
can-stays old new room (Fetch v n body) e h = tt
can-stays old new room (WritePi v n body tuples) e h = tt
can-stays old new room (FetchPi v n body tuples) e h = tt
can-stays old new room (Overwrite dev lba change) e h = tt
can-stays old new room Wait e h = tt

pub rooms-stay : (old new : List (List ℕ)) (ops : List Op) (ios : List Io) (rooms : List Room) → length new ≡ length old → AreRooms old ops ios rooms → AreRooms new ops ios rooms
rooms-stay old new ops ios rooms e h = record {
  count = h.count;
  bad = h.bad;
  can = λ i l. can-stays old new (room_at rooms i) (op_in ops i) e (h.can i l);
}

room-set : (P : Room → Type 0) (rooms : List Room) (i j : ℕ) → j < length rooms → P Nothing → P (room_at rooms j) → P (room_at (set rooms i Nothing) j)
room-set P rooms i j l n h =
    ⊎_elim
    (λ (e : j ≡ i).
    let g : room_at (set rooms i Nothing) j ≡ Nothing = ap (λ k. room_at (set rooms k Nothing) j) (sym e) ∙ get_or-set_same rooms j Nothing Nothing l in
    rw g n)
    (λ (e : j ≡ i → ⊥). let g : room_at (set rooms i Nothing) j ≡ room_at rooms j = get_or-set_other rooms i j Nothing Nothing e in rw g h)
    (cases_eq j i)

-- one room is taken
pub taken : (pool : List (List ℕ)) (ops : List Op) (ios : List Io) (rooms rooms' : List Room) (i : ℕ) → AreRooms pool ops ios rooms → rooms' ≡ set rooms i Nothing → AreRooms pool ops ios rooms'
taken pool ops ios rooms rooms' i h e =
    let c = h.count in
    let n : length rooms' ≡ length rooms = ap length e ∙ length-set rooms i Nothing in
    record {
      count = n ∙ c;
      bad = λ j l. (let g : room_at rooms' j ≡ room_at (set rooms i Nothing) j = ap (λ r. room_at r j) e in rw g (room-set (λ r. HoldsBad (io_at ios j).count r) rooms i j (omega arith) tt (h.bad j l)));
      can = λ j l. (let g : room_at rooms' j ≡ room_at (set rooms i Nothing) j = ap (λ r. room_at r j) e in rw g (room-set (λ r. CanDo pool r (op_in ops j)) rooms i j (omega arith) (can-empty pool (room_at rooms j) (op_in ops j) (h.can j l)) (h.can j l)));
    }

-- Before the first step there is room for each reply.
use Rattle.std.proofs.Common.{◌≡◌, ◌<◌, ◌≤◌, ℕ, Bool, List, length, Option, refl, sym, ap, ◌∙◌, arith}
use Rattle.page_pool.specs.declared.segs.Seg.{Seg}
use Rattle.page_pool.specs.Pages.{LiesIn}
use Rattle.stack_ops.specs.declared.op.Op.{Op}
use Rattle.stack_ops.specs.declared.op.Op.TheVariants.{Fill, Put, Show, Seal, Write, Fetch, WritePi, FetchPi, Overwrite, Wait}
use Rattle.merge_queue.specs.declared.limits.Limits.{Limits}
use Rattle.volume_table.specs.Tables.{Table}
use Rattle.volume_table.specs.Places.{volume_len}
use Rattle.stack_core.specs.declared.kept.Room.{Room}
use Rattle.stack_walk_laws.specs.Sheets.{io_at, op_in}
use Rattle.stack_walk_laws.specs.Requests.{first_page, pages_from, request_of, requests_from}
use Rattle.stack_core.specs.Replies.{HoldsBad}
use Rattle.stack_core.specs.Rooms.{Suits, blocks_in}
use Rattle.stack_core.specs.Doing.{CanDo}
use Rattle.stack_core.specs.Stacks.{AreRooms, room_at}
use Rattle.stack_walk_laws.specs.Starting.{CanStart, IsOp}
use Rattle.stack_walk_laws.proofs.WalksBegin.{all-more, length-requests, pages-grow, placed}

-- how many blocks an op has doesn't depend on where its tuples lie
count-any : (op : Op) (page : Option ℕ) → (request_of op page).count ≡ blocks_in op
count-any (Fill seg byte) page = refl
count-any (Put p off bytes) page = refl
count-any (Show seg) page = refl
count-any (Seal n body tuples app rtag) page = refl
count-any (Write v n body app) page = refl
count-any (Fetch v n body) page = refl
count-any (WritePi v n body tuples) page = refl
count-any (FetchPi v n body tuples) page = refl
count-any (Overwrite dev lba change) page = refl
count-any Wait page = refl

lies-more : (old new : List (List ℕ)) (s : Seg) → length old ≤ length new → LiesIn old s → LiesIn new s
lies-more old new s e h = let l = h.in_pool in record { in_pool = omega arith; in_page = h.in_page }

can-first : (dix : Bool) (script now : List (List ℕ)) (bytes len : ℕ) (room : Room) (op : Op) → length script ≤ length now → IsOp dix script bytes len op → Suits op room → CanDo now room op
can-first dix script now bytes len room (Fill seg byte) e h s = lies-more script now seg e h
can-first dix script now bytes len room (Put page off bs) e h s = (lies-more script now _ e h.0, h.1)
can-first dix script now bytes len room (Show seg) e h s = (lies-more script now seg e h, s.1)
can-first dix script now bytes len room (Seal n body tuples app rtag) e h s =
    let t = h.1.1.0 in
    rw s (record {
      payload = record { whole = t.whole; long = t.long };
      some = h.0;
      numbers = h.1.1.1.1;
      lies = all-more script now body e h.1.0;
      lie = all-more script now tuples e t.lies;
      once = t.once;
      apart = h.1.1.1.0;
    })
can-first dix script now bytes len room (Write v n body app) e h s = tt
can-first dix script now bytes len room (Fetch v n body) e h s = tt
can-first dix script now bytes len room (WritePi v n body tuples) e h s = tt
can-first dix script now bytes len room (FetchPi v n body tuples) e h s = tt
can-first dix script now bytes len room (Overwrite dev lba change) e h s = tt
can-first dix script now bytes len room Wait e h s = tt

pub first-rooms : (table : Table) (dix : Bool) (protect : ℕ) (limits : Limits) (pages : ℕ) (pool now : List (List ℕ)) (ops : List Op) (rooms : List Room) → CanStart table dix protect limits pages pool ops → length now ≡ pages_from dix pages ops → length rooms ≡ length ops →
    ((i : ℕ) → i < length ops → HoldsBad (blocks_in (op_in ops i)) (room_at rooms i)) → ((i : ℕ) → i < length ops → Suits (op_in ops i) (room_at rooms i)) → AreRooms now ops (requests_from dix pages ops) rooms
first-rooms table dix protect limits pages pool now ops rooms c n r bad suits =
    let e = length-requests dix pages ops in
    let g = pages-grow dix pages ops in
    let k = c.pool_is in
    record {
      count = r ∙ sym e;
      bad = λ i l. (
          let h : i < length ops = omega arith in
          let p = placed dix pages ops i h in
          let m : (io_at (requests_from dix pages ops) i).count ≡ blocks_in (op_in ops i) = ap (λ io. io.count) p.is ∙ count-any (op_in ops i) (first_page dix p.at) in
          rw m (bad i h)
          );
      can = λ i l. (let h : i < length ops = omega arith in can-first dix pool now c.bytes (volume_len table.entries) (room_at rooms i) (op_in ops i) (omega arith) (c.each i h) (suits i h));
    }

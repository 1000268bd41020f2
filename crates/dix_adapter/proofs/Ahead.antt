-- Along the blocks of a request: what is ahead of a walk before a block, and behind that block.
use Rattle.std.proofs.Common.{◌≡◌, ◌<◌, ℕ, ◌+◌, ◌*◌, Bool, true, false, List, ◌++◌, length, map, refl, ap, sym, subst, ◌∙◌, arith, Option, Some, None}
use Rattle.page_pool.specs.declared.segs.Seg.{Seg}
use Rattle.page_pool.specs.Cells.{cell}
use Rattle.page_pool.specs.Cuts.{past}
use Rattle.page_pool.specs.Pages.{AllLieIn, AreWhole, Wrote}
use Rattle.page_pool.specs.Places.{PageByte, places_in, range_of, total}
use Rattle.page_pool.specs.Walking.{InPages}
use Rattle.page_pool.proofs.Cutting.{past-past}
use Rattle.page_pool.proofs.Celled.{whole_stays}
use Rattle.page_pool.proofs.Placing.{all_lie-same, in_pages, segments_stand}
use Rattle.page_pool.proofs.Spreads.{ahead-once, ahead-stands, range-past, room-ahead}
use Rattle.integrity_payload.specs.declared.payload.Payload.{Payload}
use Rattle.integrity_payload.proofs.Fills.{block_fits}
use Rattle.bio_core.specs.declared.bio.Bio.{Bio}
use Rattle.bio_core.specs.declared.request.Io.{Io}
use Rattle.bio_core.specs.Bios.{block_size}
use Rattle.block_path.specs.declared.route.Route.{Route}
use Rattle.dix_adapter.specs.declared.adapter.Adapter.{Adapter}
use Rattle.dix_adapter.specs.declared.walks.Walks.{Walks}
use Rattle.dix_adapter.specs.Groups.{data_cells, mode_of, route_by, tuple_cells}
use Rattle.dix_adapter.specs.OnTheWay.{CanGo}
use Rattle.dix_adapter.specs.Walking.{BlockOnce, HasBlock, HasHost, HasNext, HasTuple, HostAhead, IsBefore, IsOnce, TupleOnce, TuplesOnce, Walkable, WalksTuples, WentPast, cells_ahead, next_route, past_tuple, tuple_ahead, tuples_ahead}

pub lie-in-pages : (pool : List (List ℕ)) (ss : List Seg) → AllLieIn pool ss → InPages (places_in ss)
lie-in-pages pool ss h = in_pages (length pool) (places_in ss) (segments_stand pool ss h)

pub wrote-whole : (old new : List (List ℕ)) (ps : List PageByte) (bytes : List ℕ) → AreWhole old → Wrote old new ps bytes → (length new ≡ length old) × AreWhole new
wrote-whole old new ps bytes a r = (r.others.pages, whole_stays old new ps r.others a)

pub still-walkable : (old new : List (List ℕ)) (io : Io) → length new ≡ length old → Walkable old io → Walkable new io
still-walkable old new io l h = record { some = h.some; lies = all_lie-same old new io.body l h.lies; tuples = still io.count io.pi h.tuples }
  where
    still : (count : ℕ) (pi : Option Payload) → WalksTuples old count pi → WalksTuples new count pi
    still count None h = tt
    still count (Some pi) h = (h.0, (h.1.0, all_lie-same old new pi.tuples l h.1.1))

-- ---- what is ahead

tuple-there : (pool : List (List ℕ)) (pi : Option Payload) (count k : ℕ) → WalksTuples pool count pi → k < count → HasTuple (length pool) (tuples_ahead pi k)
tuple-there pool None count k h l = tt
tuple-there pool (Some pi) count k h l =
    let t = h.0.long in
    let c = h.1.0 in
    (ahead-stands pool pool pi.tuples (past (8 * k) pi.tuples) (8 * k) 8 h.1.1 refl refl, room-ahead pi.tuples (past (8 * k) pi.tuples) (8 * k) 8 refl (omega arith))

host-there : (dix : Bool) (pi : Option Payload) (k : ℕ) → HasHost dix pi → HostAhead dix (tuples_ahead pi k)
host-there true None k h = h
host-there true (Some pi) k h = tt
host-there false None k h = tt
host-there false (Some pi) k h = h

-- a block of a bio that can go is there
pub has-block : (a : Adapter) (pool : List (List ℕ)) (io : Io) (b : Bio) (i : ℕ) (w : Walks) → CanGo a pool io b → i < b.count → IsBefore io (route_by a io b i) w → HasBlock pool w
has-block a pool io b i w g l h =
    let s : w.route.size ≡ block_size io = ap (λ (r : Route). r.size) h.route in
    let n : b.k + i < io.count = (let x = g.within in omega arith) in
    let r = room-ahead io.body w.body ((b.k + i) * block_size io) (block_size io) h.body (block_fits (total io.body) io.count (b.k + i) n) in
    record {
      whole = g.whole;
      body = ahead-stands pool pool io.body w.body ((b.k + i) * block_size io) w.route.size g.walks.lies refl h.body;
      room = omega (arith, s, r);
      tuple = subst (HasTuple (length pool)) (sym h.tuples) (tuple-there pool io.pi io.count (b.k + i) g.walks.tuples n);
      host = subst (λ d. HostAhead d w.tuples) (sym (ap (λ (r : Route). r.mode.dix) h.route)) (subst (λ t. HostAhead a.dix t) (sym h.tuples) (host-there a.dix io.pi (b.k + i) g.host));
      next = subst HasNext (sym h.route) (record {
        k = (let x = g.ends.k in omega arith);
        virt = (let x = g.fits in omega arith);
        lba = (let x = g.ends.lba in omega arith);
      });
    }

tuple-once : (pi : Option Payload) (k : ℕ) → TuplesOnce pi → TupleOnce (tuples_ahead pi k)
tuple-once None k h = tt
tuple-once (Some pi) k h = ahead-once pi.tuples (past (8 * k) pi.tuples) (8 * k) 8 h refl

pub block-once : (io : Io) (r : Route) (w : Walks) → IsOnce io → IsBefore io r w → BlockOnce w
block-once io r w o h = record {
  body = ahead-once io.body w.body (r.label.k * block_size io) w.route.size o.body h.body;
  tuple = subst TupleOnce (sym h.tuples) (tuple-once io.pi r.label.k o.tuples);
}

tuple-are : (pi : Option Payload) (k : ℕ) → tuple_ahead (tuples_ahead pi k) ≡ tuple_cells pi k
tuple-are None k = refl
tuple-are (Some pi) k = ap (map cell) (range-past pi.tuples (8 * k) 8)

-- its cells
pub cells-are : (a : Adapter) (io : Io) (b : Bio) (i : ℕ) (w : Walks) → IsBefore io (route_by a io b i) w → cells_ahead w ≡ data_cells io (b.k + i) ++ tuple_cells io.pi (b.k + i)
cells-are a io b i w h =
    let s : w.route.size ≡ block_size io = ap (λ (r : Route). r.size) h.route in
    ap (λ n. map cell (range_of w.body 0 n) ++ tuple_ahead w.tuples) s
    ∙ ap (λ z. map cell (range_of z 0 (block_size io)) ++ tuple_ahead w.tuples) h.body
    ∙ ap (λ z. map cell z ++ tuple_ahead w.tuples) (range-past io.body ((b.k + i) * block_size io) (block_size io))
    ∙ ap (λ z. data_cells io (b.k + i) ++ z) (ap tuple_ahead h.tuples ∙ tuple-are io.pi (b.k + i))

-- ---- past a block

next-data : (io : Io) (k size : ℕ) (w : List Seg) → size ≡ block_size io → w ≡ past (k * block_size io) io.body → past size w ≡ past ((k + 1) * block_size io) io.body
next-data io k size w s e =
    let z : k * block_size io + block_size io ≡ (k + 1) * block_size io = omega arith in
    ap (λ n. past n w) s ∙ ap (past (block_size io)) e ∙ past-past (block_size io) (k * block_size io) io.body ∙ ap (λ y. past y io.body) z

next-tuple : (pi : Option Payload) (k : ℕ) → past_tuple (tuples_ahead pi k) ≡ tuples_ahead pi (k + 1)
next-tuple None k = refl
next-tuple (Some pi) k =
    let z : 8 * k + 8 ≡ 8 * (k + 1) = omega arith in
    ap Some (past-past 8 (8 * k) pi.tuples ∙ ap (λ y. past y pi.tuples) z)

abbrev route_at : Adapter → Io → Bio → (k virt lba : ℕ) → Route
route_at a io b k virt lba = record { label = record { op = b.op; k = k }; virt = virt; dev = b.dev; lba = lba; ty = a.ty; size = block_size io; mode = mode_of a }

route-next : (a : Adapter) (io : Io) (b : Bio) (i : ℕ) → next_route (route_by a io b i) ≡ route_by a io b (i + 1)
route-next a io b i =
    let e : (b.k + i) + 1 ≡ b.k + (i + 1) = omega arith in
    let f : (io.first + (b.k + i)) + 1 ≡ io.first + (b.k + (i + 1)) = omega arith in
    let g : (b.lba + i) + 1 ≡ b.lba + (i + 1) = omega arith in
    ap (λ k. route_at a io b k ((io.first + (b.k + i)) + 1) ((b.lba + i) + 1)) e
    ∙ ap (λ v. route_at a io b (b.k + (i + 1)) v ((b.lba + i) + 1)) f
    ∙ ap (λ l. route_at a io b (b.k + (i + 1)) (io.first + (b.k + (i + 1))) l) g

-- behind a block the walk stands before the next one
pub next-before : (a : Adapter) (io : Io) (b : Bio) (i : ℕ) (w w' : Walks) → IsBefore io (route_by a io b i) w → WentPast w w' → IsBefore io (route_by a io b (i + 1)) w'
next-before a io b i w w' h p =
    let e : (b.k + i) + 1 ≡ b.k + (i + 1) = omega arith in
    record {
      route = p.route ∙ ap next_route h.route ∙ route-next a io b i;
      body = p.body ∙ next-data io (b.k + i) w.route.size w.body (ap (λ (r : Route). r.size) h.route) h.body ∙ ap (λ k. past (k * block_size io) io.body) e;
      tuples = p.tuples ∙ ap past_tuple h.tuples ∙ next-tuple io.pi (b.k + i) ∙ ap (tuples_ahead io.pi) e;
    }

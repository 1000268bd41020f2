-- The frame of a block in the host's form, as it stands in the cells of the pages.
use Rattle.std.proofs.Common.{◌≡◌, ◌≤◌, ℕ, ◌+◌, Bool, true, false, List, ◌++◌, length, map, take, ap, sym, ◌∙◌, arith, Option, Some, None, length-append}
use Rattle.std.proofs.lemmas.List.{append-nil, length-map, take_at, take_all}
use Rattle.page_pool.specs.declared.segs.Seg.{Seg}
use Rattle.page_pool.specs.Cells.{cell, flat, gather}
use Rattle.page_pool.specs.Pages.{AreWhole, bytes_in}
use Rattle.page_pool.specs.Places.{range_of, total}
use Rattle.page_pool.proofs.Celled.{gather-append, read-cells}
use Rattle.page_pool.proofs.Spreads.{length-range}
use Rattle.block_path.specs.Routes.{host_size}
use Rattle.std.specs.Prelude.{if◌then◌else◌}
use Rattle.dix_adapter.specs.declared.walks.Walks.{Walks}
use Rattle.dix_adapter.specs.Walking.{HasBlock, HasTuple, HostAhead, cells_ahead, tuple_ahead, tuple_or}

-- so many bytes are ahead
ahead-long : (pool : List (List ℕ)) (ss : List Seg) (n : ℕ) → n ≤ total ss → length (bytes_in pool ss 0 n) ≡ n
ahead-long pool ss n h = length-map (range_of ss 0 n) _ ∙ length-range ss 0 n (omega arith)

with-tuple : (pool : List (List ℕ)) (dix : Bool) (tuples : Option (List Seg)) (size : ℕ) (X others at : List ℕ) → AreWhole pool → HasTuple (length pool) tuples → HostAhead dix tuples → length X ≡ size → length others ≡ 8 → X ≡ gather 0 at (flat pool) →
    take (if dix then size + 8 else size) (X ++ tuple_or pool tuples others) ≡ gather 0 (at ++ tuple_ahead tuples) (flat pool)
with-tuple pool true None size X others at w h d x o e = absurd d
with-tuple pool true (Some ss) size X others at w h d x o e =
    let t = ahead-long pool ss 8 h.1 in
    let a = length-append X (bytes_in pool ss 0 8) in
    take_all (size + 8) (X ++ bytes_in pool ss 0 8) (omega arith)
    ∙ ap (λ z. z ++ bytes_in pool ss 0 8) e
    ∙ ap (λ z. gather 0 at (flat pool) ++ z) (read-cells pool (range_of ss 0 8) w h.0)
    ∙ sym (gather-append 0 at (map cell (range_of ss 0 8)) (flat pool))
with-tuple pool false None size X others at w h d x o e =
    take_at X others size x ∙ e ∙ ap (λ z. gather 0 z (flat pool)) (sym (append-nil at))
with-tuple pool false (Some ss) size X others at w h d x o e = absurd d

pub host-frame : (pool : List (List ℕ)) (w : Walks) (others : List ℕ) → HasBlock pool w → length others ≡ 8 →
    take (host_size w.route) (bytes_in pool w.body 0 w.route.size ++ tuple_or pool w.tuples others) ≡ gather 0 (cells_ahead w) (flat pool)
host-frame pool w others b o =
    with-tuple pool w.route.mode.dix w.tuples w.route.size (bytes_in pool w.body 0 w.route.size) others (map cell (range_of w.body 0 w.route.size)) b.whole b.tuple b.host (ahead-long pool w.body w.route.size b.room) o (read-cells pool (range_of w.body 0 w.route.size) b.whole b.body)

-- ---- its cells are as many

cells-with : (pages : ℕ) (dix : Bool) (tuples : Option (List Seg)) (size : ℕ) (at : List ℕ) → HasTuple pages tuples → HostAhead dix tuples → length at ≡ size → length (at ++ tuple_ahead tuples) ≡ (if dix then size + 8 else size)
cells-with pages true None size at h d l = absurd d
cells-with pages true (Some ss) size at h d l =
    let m = length-map (range_of ss 0 8) cell in
    let r = length-range ss 0 8 (let x = h.1 in omega arith) in
    let a = length-append at (map cell (range_of ss 0 8)) in
    omega arith
cells-with pages false None size at h d l = ap length (append-nil at) ∙ l
cells-with pages false (Some ss) size at h d l = absurd d

pub cells-long : (pool : List (List ℕ)) (w : Walks) → HasBlock pool w → length (cells_ahead w) ≡ host_size w.route
cells-long pool w b =
    cells-with (length pool) w.route.mode.dix w.tuples w.route.size (map cell (range_of w.body 0 w.route.size)) b.tuple b.host
    (length-map (range_of w.body 0 w.route.size) cell ∙ length-range w.body 0 w.route.size (let x = b.room in omega arith))

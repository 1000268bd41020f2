-- A bio on its way: that it can go, and the next of its blocks.
use Rattle.std.proofs.Common.{◌≡◌, ℕ, ◌+◌, ◌*◌, List, [], ◌∷◌, ◌++◌, length, take, drop, ap, sym, subst, ◌∙◌}
use Rattle.page_pool.specs.Cells.{flat}
use Rattle.page_pool.specs.Pages.{AreWhole}
use Rattle.bio_core.specs.declared.bio.Bio.{Bio}
use Rattle.bio_core.specs.declared.fate.Fate.{Fate}
use Rattle.bio_core.specs.declared.request.Dir.{Dir}
use Rattle.bio_core.specs.declared.request.Io.{Io}
use Rattle.block_path.specs.Routes.{wire_size}
use Rattle.block_path.specs.WayIn.{from_wire}
use Rattle.block_path.specs.declared.route.Route.{Route}
use Rattle.dix_adapter.specs.declared.adapter.Adapter.{Adapter}
use Rattle.dix_adapter.specs.declared.walks.Walks.{Walks}
use Rattle.dix_adapter.specs.Carried.{carried, land}
use Rattle.dix_adapter.specs.Groups.{IsBio, data_cells, request_of, route_by, tuple_cells}
use Rattle.dix_adapter.specs.OnTheWay.{CanGo, HasLandedFirst, HasLandedNext}
use Rattle.dix_adapter.specs.Walking.{IsBefore, cells_ahead}
use Rattle.dix_adapter.proofs.Ahead.{cells-are, still-walkable}
use Rattle.dix_adapter.proofs.Landing.{came-more, landed-more}

-- a bio of a group can go its way, and still can where the pages are as many
pub can-go : (a : Adapter) (pool now : List (List ℕ)) (bytes : ℕ) (ios : List Io) (dev : ℕ) (dir : Dir) (io : Io) (b : Bio) →
    IsBio a pool bytes ios dev dir b → io ≡ request_of ios b.op → length now ≡ length pool → AreWhole now → CanGo a now io b
can-go a pool now bytes ios dev dir io b k e l h = subst (λ io. CanGo a now io b) (sym e) (record {
  whole = h;
  walks = still-walkable pool now (request_of ios b.op) l k.request.walks;
  within = k.within;
  ends = k.ends;
  fits = k.request.fits;
  host = k.request.host;
})

pub still-goes : (a : Adapter) (pool now : List (List ℕ)) (io : Io) (b : Bio) → length now ≡ length pool → AreWhole now → CanGo a pool io b → CanGo a now io b
still-goes a pool now io b l h g = record { whole = h; walks = still-walkable pool now io l g.walks; within = g.within; ends = g.ends; fits = g.fits; host = g.host }

-- ---- the next block

-- only the frame at the front counts
pub landed-by : (a : Adapter) (w : Walks) (frame bytes : List ℕ) (pool pool' : List (List ℕ)) (fate : Fate) →
    take (wire_size w.route) frame ≡ take (wire_size w.route) bytes → HasLandedNext a w frame pool pool' fate → HasLandedNext a w bytes pool pool' fate
landed-by a w frame bytes pool pool' fate e l = record {
  fate_is = l.fate_is ∙ ap (λ z. carried (from_wire a.tamper w.route z)) e;
  cells = l.cells ∙ ap (λ z. land (cells_ahead w) (from_wire a.tamper w.route z) (flat pool)) e;
  pages = l.pages;
  whole = l.whole;
}

-- a block more has landed
pub landed-next : (a : Adapter) (io : Io) (b : Bio) (i : ℕ) (w : Walks) (bytes first : List ℕ) (pool now new : List (List ℕ)) (fates fates' fates'' : List Fate) (fate : Fate) → IsBefore io (route_by a io b i) w →
    HasLandedFirst a io b i first pool now fates fates' → HasLandedNext a w bytes now new fate → fates'' ≡ fates' ++ (fate ∷ []) →
    take (wire_size (route_by a io b 0)) bytes ≡ take (wire_size (route_by a io b 0)) (drop (i * wire_size (route_by a io b 0)) first) → HasLandedFirst a io b (i + 1) first pool new fates fates''
landed-next a io b i w bytes first pool now new fates fates' fates'' fate h l n e t = record {
  fates_are = came-more a io b (wire_size (route_by a io b 0)) i first fates fates' fates'' fate (take (wire_size (route_by a io b 0)) bytes) l.fates_are e
      (n.fate_is ∙ ap (λ (r : Route). carried (from_wire a.tamper r (take (wire_size r) bytes))) h.route) t;
  cells = landed-more a io b (wire_size (route_by a io b 0)) i first (flat pool) (flat now) (flat new) (take (wire_size (route_by a io b 0)) bytes) l.cells
      (n.cells ∙ ap (λ z. land z (from_wire a.tamper w.route (take (wire_size w.route) bytes)) (flat now)) (cells-are a io b i w h)
      ∙ ap (λ (r : Route). land (data_cells io (b.k + i) ++ tuple_cells io.pi (b.k + i)) (from_wire a.tamper r (take (wire_size r) bytes)) (flat now)) h.route) t;
  pages = n.pages ∙ l.pages;
  whole = n.whole;
}

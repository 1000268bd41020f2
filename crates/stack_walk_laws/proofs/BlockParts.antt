-- The moves of a request's block, by the request.
use Rattle.std.proofs.Common.{◌≡◌, ◌<◌, ◌≤◌, ℕ, suc, ◌+◌, ◌*◌, Bool, true, false, List, [], ◌∷◌, ◌++◌, map, get_or, drop, Option, Some, None, refl, sym, ap, ◌∙◌, arith, append-nil}
use Rattle.std.proofs.lemmas.List.{drop_at, length-map}
use Rattle.page_pool.specs.Cells.{cell}
use Rattle.page_pool.specs.Places.{range_of, total}
use Rattle.page_pool.specs.declared.segs.Seg.{Seg}
use Rattle.page_pool.proofs.Spreads.{length-range}
use Rattle.integrity_payload.specs.declared.payload.Owner.{Owner}
use Rattle.integrity_payload.specs.declared.payload.Owner.TheVariants.{Block as OfBlock, App as OfApp}
use Rattle.integrity_payload.specs.declared.payload.Payload.{Payload}
use Rattle.bio_core.specs.declared.request.Dir.{Dir}
use Rattle.bio_core.specs.declared.request.Dir.TheVariants.{Read, Write as WriteDir}
use Rattle.bio_core.specs.declared.request.Io.{Io}
use Rattle.bio_core.specs.Bios.{block_size}
use Rattle.dix_adapter.specs.Groups.{data_cells, tuple_cells}
use Rattle.dix_adapter.specs.Walking.{HasHost}
use Rattle.block_path.specs.declared.route.Route.{Route}
use Rattle.block_path.specs.Acts.{Act}
use Rattle.block_path.specs.Blocks.{ActAnswer}
use Rattle.block_path.specs.Moves.{make_tuple, map_back, map_out, settle}
use Rattle.run_laws.specs.Passed.{Setting, block_of, route, Reads, Step, Writes, WritesPi, body_of, frame_at, steps_of, tuple_of, Op, Fetch, FetchPi, Fill, Overwrite, Put, Seal, Show, Wait, Write, WritePi}
use Rattle.run_laws.specs.ScriptMoves.{own_at}
use Rattle.stack_walk_laws.specs.Sending.{carriage_of}
use Rattle.stack_walk_laws.specs.Slots.{parts_of}
use Rattle.stack_walk_laws.specs.Spots.{no_step}
use Rattle.stack_walk_laws.proofs.Spots.{each_first}
use Rattle.stack_walk_laws.specs.Moved.{tuple_at}
use Rattle.stack_walk_laws.specs.Requests.{first_page, request_of}
use Rattle.stack_walk_laws.proofs.OwnCells.{own_cells}

-- the move that makes a block's tuple, where the block layer does
abbrev pub made_by : Owner → Route → (app : ℕ) → (body tuple : List ℕ) → List (Act ActAnswer)
made_by OfBlock r app body tuple = make_tuple r app body tuple ∷ []
made_by OfApp r app body tuple = []

abbrev pub made_of : Dir → Option Payload → Route → (body : List ℕ) → (k : ℕ) → List (Act ActAnswer)
made_of Read o r body k = []
made_of WriteDir None r body k = []
made_of WriteDir (Some pi) r body k = made_by pi.owner r pi.app body (tuple_at pi k)

abbrev pub cut_of : Dir → Option Payload → Route → (k : ℕ) → List (Act ActAnswer)
cut_of Read o r k = []
cut_of WriteDir None r k = []
cut_of WriteDir (Some pi) r k = map_out r (tuple_at pi k) ∷ []

abbrev pub owner_of : Option Payload → Owner
owner_of None = OfBlock
owner_of (Some pi) = pi.owner

abbrev pub settled_of : Dir → Option Payload → Route → (body : List ℕ) → (k fate : ℕ) → List (Act ActAnswer)
settled_of Read o r body k fate = settle r (owner_of o) (body ++ tuple_cells o k) fate ∷ []
settled_of WriteDir None r body k fate = []
settled_of WriteDir (Some pi) r body k fate = map_back r (tuple_at pi k) ∷ []

pub record ArePartsOf (m : Setting) (own : List ℕ) (fate : ℕ) (step : Step) (r : Route) (io : Io) (k : ℕ) : Type 0 where
  pub made : (parts_of m own fate step).made ≡ made_of io.dir io.pi r (data_cells io k) k
  pub cut : (parts_of m own fate step).cut ≡ cut_of io.dir io.pi r k
  pub settled : (parts_of m own fate step).settled ≡ settled_of io.dir io.pi r (data_cells io k) k fate
  pub carriage : carriage_of m own step ≡ Some (record { route = r; dir = io.dir; frame = data_cells io k ++ tuple_cells io.pi k })

module _ (m : Setting) (i k fate page : ℕ) where
  body_is : (size : ℕ) (body : List Seg) → size ≡ m.size → body_of m.size body k ≡ map cell (range_of body (k * size) size)
  body_is size body e = ap (λ z. map cell (range_of body (k * z) z)) (sym e)

  -- behind the data lies the tuple
  tuple_behind : (body tuples : List Seg) → k * m.size + m.size ≤ total body → drop m.size (frame_at m.size body tuples k) ≡ tuple_of tuples k
  tuple_behind body tuples h = drop_at (body_of m.size body k) (tuple_of tuples k) m.size (length-map (range_of body (k * m.size) m.size) cell ∙ length-range body (k * m.size) m.size h)

  -- of the op's request, with its private tuples from this page on
  abbrev io_of : Bool → Op → Io
  io_of dix op = request_of op (first_page dix page)

  abbrev route_of_it : Bool → Op → Route
  route_of_it dix op = route m (block_of (suc i) (io_of dix op).first k)

  abbrev step_of : Op → Step
  step_of op = get_or (steps_of m (suc i) op) k no_step

  pub parts_are : (dix : Bool) (op : Op) → m.mode.dix ≡ dix → k < (io_of dix op).count → block_size (io_of dix op) ≡ m.size → k * m.size + m.size ≤ total (io_of dix op).body → HasHost dix (io_of dix op).pi →
      ArePartsOf m (own_at (4096 * page) k) fate (step_of op) (route_of_it dix op) (io_of dix op) k
  parts_are dix (Fill seg byte) d h s l o = absurd (omega arith)
  parts_are dix (Put p off bytes) d h s l o = absurd (omega arith)
  parts_are dix (Show seg) d h s l o = absurd (omega arith)
  parts_are dix (Seal n body tuples app rtag) d h s l o = absurd (omega arith)
  parts_are true (Write v n body app) d h s l o =
      let e : step_of (Write v n body app) ≡ Writes (block_of (suc i) v k) app (body_of m.size body k) = each_first n (λ j. Writes (block_of (suc i) v j) app (body_of m.size body j)) k no_step h in
      let b = body_is (block_size (io_of true (Write v n body app))) body s in
      let w = own_cells page n k h in
      rw (e, b, w, d) (record { made = refl; cut = refl; settled = refl; carriage = refl })
  parts_are false (Write v n body app) d h s l o =
      let e : step_of (Write v n body app) ≡ Writes (block_of (suc i) v k) app (body_of m.size body k) = each_first n (λ j. Writes (block_of (suc i) v j) app (body_of m.size body j)) k no_step h in
      let b = body_is (block_size (io_of false (Write v n body app))) body s in
      let z = append-nil (data_cells (io_of false (Write v n body app)) k) in
      rw (e, b) (record { made = rw d refl; cut = rw d refl; settled = rw d refl; carriage = rw (d, z) refl })
  parts_are true (Fetch v n body) d h s l o =
      let e : step_of (Fetch v n body) ≡ Reads (block_of (suc i) v k) OfBlock (body_of m.size body k) = each_first n (λ j. Reads (block_of (suc i) v j) OfBlock (body_of m.size body j)) k no_step h in
      let b = body_is (block_size (io_of true (Fetch v n body))) body s in
      let w = own_cells page n k h in
      rw (e, b, w, d) (record { made = refl; cut = refl; settled = refl; carriage = refl })
  parts_are false (Fetch v n body) d h s l o =
      let e : step_of (Fetch v n body) ≡ Reads (block_of (suc i) v k) OfBlock (body_of m.size body k) = each_first n (λ j. Reads (block_of (suc i) v j) OfBlock (body_of m.size body j)) k no_step h in
      let b = body_is (block_size (io_of false (Fetch v n body))) body s in
      let z = append-nil (data_cells (io_of false (Fetch v n body)) k) in
      rw (e, b) (record { made = refl; cut = refl; settled = rw (d, z) refl; carriage = rw (d, z) refl })
  parts_are true (WritePi v n body tuples) d h s l o =
      let e : step_of (WritePi v n body tuples) ≡ WritesPi (block_of (suc i) v k) (frame_at m.size body tuples k) = each_first n (λ j. WritesPi (block_of (suc i) v j) (frame_at m.size body tuples j)) k no_step h in
      let t = tuple_behind body tuples l in
      let b = body_is (block_size (io_of true (WritePi v n body tuples))) body s in
      rw e (record { made = refl; cut = rw t refl; settled = rw t refl; carriage = rw b refl })
  parts_are false (WritePi v n body tuples) d h s l o = absurd o
  parts_are true (FetchPi v n body tuples) d h s l o =
      let e : step_of (FetchPi v n body tuples) ≡ Reads (block_of (suc i) v k) OfApp (frame_at m.size body tuples k) = each_first n (λ j. Reads (block_of (suc i) v j) OfApp (frame_at m.size body tuples j)) k no_step h in
      let b = body_is (block_size (io_of true (FetchPi v n body tuples))) body s in
      rw (e, b) (record { made = refl; cut = refl; settled = refl; carriage = refl })
  parts_are false (FetchPi v n body tuples) d h s l o = absurd o
  parts_are dix (Overwrite dev lba change) d h s l o = absurd (omega arith)
  parts_are dix Wait d h s l o = absurd (omega arith)

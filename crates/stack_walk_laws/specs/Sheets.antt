-- The requests of a run over a volume, as a plan of its steps.
use Rattle.std.specs.Prelude.{◌≡◌, ℕ, ◌+◌, ◌<◌, ◌^◌, Bool, true, false, List, [], ◌∷◌, map, get_or, None}
use Rattle.bio_core.specs.declared.request.Dir.TheVariants.{Read}
use Rattle.bio_core.specs.declared.request.Io.{Io}
use Rattle.bio_core.specs.Bios.{HasTuplesFor, data_segs, tuple_segs}
use Rattle.range_gate.specs.declared.footprint.Footprint.{Footprint}
use Rattle.range_gate.specs.Prints.{KeptPrint, chosen, clash}
use Rattle.stack_laws.specs.Passed.{Limits}
use Rattle.volume_table.specs.Tables.{Table}
use Rattle.volume_table.specs.Places.{place_in, run_in, volume_len}
use Rattle.run_laws.specs.Passed.{Op, Wait, footprint}
use Rattle.stack_laws.specs.Plan.{Plan, Place, PlannedOp}
use Rattle.stack_steps.specs.Fine.{Fine}

-- a request of no blocks
abbrev pub no_io : Io
no_io = record { dir = Read; first = 0; count = 0; body = []; pi = None }

abbrev pub io_at : List Io → ℕ → Io
io_at ios i = get_or ios i no_io

abbrev pub op_in : List Op → ℕ → Op
op_in ops i = get_or ops i Wait

abbrev pub request_in : Io → PlannedOp
request_in io = record { dir = io.dir; first = io.first; count = io.count }

-- what each op touches, these being shifted
abbrev pub prints_of : List Op → List Bool → List Footprint
prints_of [] bs = []
prints_of (op ∷ ops) [] = footprint op false ∷ prints_of ops []
prints_of (op ∷ ops) (b ∷ bs) = footprint op b ∷ prints_of ops bs

abbrev pub no_print : Footprint
no_print = footprint Wait false

abbrev pub layout_of : Footprint → KeptPrint
layout_of f = record { alone = f.alone; blocks = f.blocks; reads = chosen false f.bytes; writes = chosen true f.bytes }

-- whether two footprints conflict
abbrev pub do_clash : Footprint → Footprint → Bool
do_clash f g = clash (layout_of f) (layout_of g)

-- where a virtual block lies
abbrev pub place_by : Table → ℕ → Place
place_by t v = record { dev = (place_in t.entries v).0; lba = (place_in t.entries v).1 }

abbrev pub plan_of : List Op → List Bool → List Io → Table → Limits → ℕ → Plan
plan_of ops shifted ios table limits devices = record {
  requests = map request_in ios;
  devices = devices;
  place = place_by table;
  run_from = run_in table.entries;
  segs = λ i k n. data_segs (io_at ios i) k n;
  pi_segs = λ i k n. tuple_segs (io_at ios i).pi k n;
  conflicts = λ j i. do_clash (get_or (prints_of ops shifted) j no_print) (get_or (prints_of ops shifted) i no_print);
  limits = limits;
}

-- the blocks of each request are the volume's
abbrev pub AreInside : List Io → Table → Type 0
AreInside ios table = (i k : ℕ) → k < (io_at ios i).count → (io_at ios i).first + k < volume_len table.entries

abbrev pub HaveNumbers : List Io → Type 0
HaveNumbers ios = (i : ℕ) → (io_at ios i).first + (io_at ios i).count < 2 ^ 64

-- each has as many tuples as blocks, where it has tuples
abbrev pub HaveTuples : List Io → Type 0
HaveTuples ios = (i : ℕ) → HasTuplesFor (io_at ios i).pi (io_at ios i).count

pub record IsSheet (ops : List Op) (shifted : List Bool) (ios : List Io) (table : Table) (limits : Limits) (devices : ℕ) : Type 0 where
  pub fine : Fine (plan_of ops shifted ios table limits devices)
  pub inside : AreInside ios table
  pub numbers : HaveNumbers ios
  pub tuples : HaveTuples ios

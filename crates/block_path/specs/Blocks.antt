use Rattle.std.specs.Prelude.{ℕ, ◌&&◌, ◌||◌, eqb, if◌then◌else◌, List, [], ◌∷◌, ◌++◌, length, take, drop, get_or, map, replicate, Option, Some, None, Result, Ok, Err}
use Rattle.std.specs.Int.{w32, from_be_bytes, to_be_bytes}
use Rattle.pi_guard.specs.Guards.{guard_of}
use Rattle.pi_tuple.specs.Finds.{has_ref_tag, own_tag}
use Rattle.pi_tuple.specs.Tuples.{ref_tag}
use Rattle.pi_tuple.specs.declared.tuple.Tuple.{Tuple}
use Rattle.fault_schedule.specs.declared.Label.{Label}
use Rattle.fault_schedule.specs.declared.fault.FaultLine.{FaultLine}
use Rattle.integrity_payload.specs.declared.payload.Owner.{Owner}
use Rattle.range_gate.specs.Cells.{Cells}
use Rattle.bio_core.specs.declared.fate.Why.{Why}
use Rattle.bio_core.specs.declared.request.Dir.{Dir}
use Rattle.bio_core.specs.declared.request.Dir.TheVariants.{Read, Write}
use Rattle.rig_api.specs.Frames.{frame_of}
use Rattle.block_path.specs.declared.route.Route.{Route}
use Rattle.block_path.specs.Acts.{Act, Effect, State}
use Rattle.block_path.specs.Routes.{Device, host_type, medium_lba, stored_lba}
use Rattle.block_path.specs.WayIn.{Delivers, Spoils, Stops, WayIn, way_in}
use Rattle.block_path.specs.WayOut.{Fails, Refuses, Stores, WayOut, way_out}

-- A block of a request, done whole, as an act on cells.

-- where blocks go: the armed faults, what is behind the adapter, and which cell an address of a device is
pub record Site : Type 0 where
  pub faults : List FaultLine
  pub device : Device
  pub cell : (dev lba : ℕ) → ℕ

-- the block's own place, where a write stores it, and where a read finds it
abbrev pub own_cell : Site → Route → ℕ
own_cell s r = s.cell r.dev r.lba

abbrev pub stored_cell : Site → Route → ℕ
stored_cell s r = s.cell r.dev (stored_lba s.faults r)

abbrev pub fetched_cell : Site → Route → ℕ
fetched_cell s r = s.cell r.dev (medium_lba s.faults r)

-- What stands on record of a block that was sent: whose it is, in which direction, at which place, the frame that was carried or why there is none, and after how many write frames of its place.
pub record Sent : Type 0 where
  pub label : Label
  pub dir : Dir
  pub dev : ℕ
  pub lba : ℕ
  pub came : Result (List ℕ) Why
  pub after : ℕ

-- a block of a request, and who verifies it, where it is a read's
pub record AskedBlock : Type 0 where
  pub route : Route
  pub reader : Option Owner

-- What an act answers: which block it is, if it is one; what was found; what stands on record of it; the bytes that are shown.
pub record ActAnswer : Type 0 where
  pub of : Option AskedBlock
  pub why : Option Why
  pub sent : Option Sent
  pub shown : List ℕ

abbrev pub silent : ActAnswer
silent = record { of = None; why = None; sent = None; shown = [] }

abbrev pub sent_of : Route → Dir → Result (List ℕ) Why → ℕ → Option Sent
sent_of r dir came after = Some (record { label = r.label; dir = dir; dev = r.dev; lba = r.lba; came = came; after = after })

abbrev pub write_of : Route → Option AskedBlock
write_of r = Some (record { route = r; reader = None })

abbrev pub read_of : Route → Owner → Option AskedBlock
read_of r owner = Some (record { route = r; reader = Some owner })

abbrev pub untouched : Cells
untouched = record { reads = []; writes = [] }

abbrev pub nothing_written : State
nothing_written = record { bytes = []; blocks = []; logs = []; fates = [] }

-- Where it is accepted, its frame is stored and its place has one more on record; `back` are the bytes of its tuple afterwards.
abbrev pub written_by : Route → WayOut → (back : List ℕ) → (log : List (List ℕ)) → Effect ActAnswer
written_by r (Fails why) back log = record { written = record nothing_written { bytes = back }; answer = record silent { of = write_of r; why = Some why } }
written_by r (Refuses why) back log = record {
  written = record nothing_written { bytes = back };
  answer = record silent { of = write_of r; why = Some why; sent = sent_of r Write (Err why) (length log) };
}
written_by r (Stores carried stored) back log = record {
  written = record nothing_written { bytes = back; blocks = stored ∷ []; logs = (log ++ (carried ∷ [])) ∷ [] };
  answer = record silent { of = write_of r; sent = sent_of r Write (Ok carried) (length log) };
}

-- In the cell of a block that is stored stands what the device leaves of what stood there.
abbrev pub stored_over : Site → Route → (old : List ℕ) → Effect ActAnswer → Effect ActAnswer
stored_over s r old e = record { written = record e.written { blocks = map (s.device.leaves r old) e.written.blocks }; answer = e.answer }

-- the tuple that the block layer makes for these data
abbrev pub own_tuple : Route → ℕ → List ℕ → Tuple
own_tuple r app body = record { guard = guard_of r.mode.kind body; app = app; rtag = own_tag (host_type r.ty) r.virt }

abbrev pub own_frame : Route → ℕ → List ℕ → List ℕ
own_frame r app body = if r.mode.dix then frame_of body (own_tuple r app body) else body

-- a block of a write whose tuple the block layer makes: the cells of its data
abbrev pub write_block : Site → Route → ℕ → List ℕ → Act ActAnswer
write_block s r app body = record {
  bytes = record { reads = body; writes = [] };
  blocks = record { reads = stored_cell s r ∷ []; writes = stored_cell s r ∷ [] };
  logs = record { reads = own_cell s r ∷ []; writes = own_cell s r ∷ [] };
  fates = untouched;
  compute = λ seen. stored_over s r (get_or seen.blocks 0 []) (written_by r (way_out s.faults s.device r (own_frame r app seen.bytes)) [] (get_or seen.logs 0 []));
}

-- After its write a tag that was the virtual block's or that of the address is the virtual block's, in host types 1 and 2; any other stays.
abbrev pub tag_after : Route → List ℕ → List ℕ
tag_after r tag =
    if has_ref_tag (host_type r.ty) && (eqb (from_be_bytes w32 tag) (ref_tag r.virt) || eqb (from_be_bytes w32 tag) (ref_tag r.lba))
    then to_be_bytes w32 (ref_tag r.virt) else tag

abbrev pub tuple_after : Route → List ℕ → List ℕ
tuple_after r tuple = take 4 tuple ++ tag_after r (drop 4 tuple)

-- a block of a write whose tuple the application brings: the cells of its data, then of its tuple
abbrev pub write_block_of_app : Site → Route → List ℕ → Act ActAnswer
write_block_of_app s r frame = record {
  bytes = record { reads = frame; writes = drop r.size frame };
  blocks = record { reads = stored_cell s r ∷ []; writes = stored_cell s r ∷ [] };
  logs = record { reads = own_cell s r ∷ []; writes = own_cell s r ∷ [] };
  fates = untouched;
  compute = λ seen. stored_over s r (get_or seen.blocks 0 []) (written_by r (way_out s.faults s.device r seen.bytes) (tuple_after r (drop r.size seen.bytes)) (get_or seen.logs 0 []));
}

-- A block that isn't delivered leaves zeros.
abbrev pub read_by : Route → Owner → WayIn → (size after : ℕ) → Effect ActAnswer
read_by r owner (Stops why) size after = record {
  written = record nothing_written { bytes = replicate size 0 };
  answer = record silent { of = read_of r owner; why = Some why; sent = sent_of r Read (Err why) after };
}
read_by r owner (Spoils why carried) size after = record {
  written = record nothing_written { bytes = replicate size 0 };
  answer = record silent { of = read_of r owner; why = Some why; sent = sent_of r Read (Ok carried) after };
}
read_by r owner (Delivers carried frame) size after = record {
  written = record nothing_written { bytes = frame };
  answer = record silent { of = read_of r owner; sent = sent_of r Read (Ok carried) after };
}

-- A block of a read: the cells in which it lands. Where its owner is the block layer, its tuple has no cells to land in.
abbrev pub read_block : Site → Route → Owner → List ℕ → Act ActAnswer
read_block s r owner to = record {
  bytes = record { reads = []; writes = to };
  blocks = record { reads = fetched_cell s r ∷ []; writes = [] };
  logs = record { reads = own_cell s r ∷ []; writes = [] };
  fates = untouched;
  compute = λ seen. read_by r owner (way_in s.faults s.device r owner (get_or seen.blocks 0 [])) (length to) (length (get_or seen.logs 0 []));
}

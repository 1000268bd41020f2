use Rattle.std.specs.Prelude.{◌≡◌, ℕ, ◌+◌, ◌<◌, false, nat_eq, List, [], ◌∷◌, length, take, drop, get_or, replicate, Option, Some, None, Ok, Err, zero, suc, ◌++◌}
use Rattle.std.specs.List.{All, IsDistinct}
use Rattle.pi_tuple.specs.Tuples.{tuple_bytes}
use Rattle.integrity_payload.specs.declared.payload.Owner.{Owner}
use Rattle.range_gate.specs.Passed.{share_a_cell}
use Rattle.ref_remap.specs.Remapped.{remapped_bytes}
use Rattle.bio_core.specs.declared.fate.Why.{Why}
use Rattle.bio_core.specs.declared.request.Dir.TheVariants.{Read}
use Rattle.block_path.specs.declared.route.Route.{Route}
use Rattle.block_path.specs.Acts.{Act, Effect, State}
use Rattle.block_path.specs.Blocks.{ActAnswer, Site, fetched_cell, stored_over, nothing_written, own_cell, own_tuple, read_of, sent_of, silent, stored_cell, untouched, written_by}
use Rattle.block_path.specs.Routes.{host_type}
use Rattle.block_path.specs.WayIn.{Delivers, Spoils, Stops, WayIn, comes_in, mapped_back, verified}
use Rattle.block_path.specs.WayOut.{goes_out}
use Rattle.pi_tuple.specs.declared.TheConstants.{TUPLE}

-- What is done with one block of a request, move by move: its tuple is made, its tag is mapped out, it is carried out or in, its tag is mapped back, or it is settled. The pages between two moves are just what the moves so far leave.

-- an act on bytes of pages alone
abbrev pub on_bytes : (reads writes : List ℕ) → (List ℕ → List ℕ) → Act ActAnswer
on_bytes reads writes f = record {
  bytes = record { reads = reads; writes = writes };
  blocks = untouched;
  logs = untouched;
  fates = untouched;
  compute = λ seen. record { written = record nothing_written { bytes = f seen.bytes }; answer = silent };
}

-- The block layer makes the tuple of the data.
abbrev pub make_tuple : Route → ℕ → (body tuple : List ℕ) → Act ActAnswer
make_tuple r app body tuple = on_bytes body tuple (λ bytes. tuple_bytes (own_tuple r app bytes))

-- The tag of the tuple in these cells is mapped to the address.
abbrev pub map_out : Route → List ℕ → Act ActAnswer
map_out r tuple = on_bytes tuple tuple (remapped_bytes (host_type r.ty) r.virt r.lba)

-- and back to the virtual block
abbrev pub map_back : Route → List ℕ → Act ActAnswer
map_back r tuple = on_bytes tuple tuple (remapped_bytes (host_type r.ty) r.lba r.virt)

-- The frame is carried out as it stands in the pages.
abbrev pub carry_out : Site → Route → List ℕ → Act ActAnswer
carry_out s r frame = record {
  bytes = record { reads = frame; writes = [] };
  blocks = record { reads = stored_cell s r ∷ []; writes = stored_cell s r ∷ [] };
  logs = record { reads = own_cell s r ∷ []; writes = own_cell s r ∷ [] };
  fates = untouched;
  compute = λ seen. stored_over s r (get_or seen.blocks 0 []) (written_by r (goes_out s.faults s.device r seen.bytes) [] (get_or seen.logs 0 []));
}

-- what a block leaves that is carried in: a good one lands in the pages, and of each it is kept what was found
abbrev pub carried_in : Route → WayIn → (after : ℕ) → Effect ActAnswer
carried_in r (Stops why) after = record {
  written = record nothing_written { fates = Some why ∷ [] };
  answer = record silent { why = Some why; sent = sent_of r Read (Err why) after };
}
carried_in r (Spoils why carried) after = record {
  written = record nothing_written { fates = Some why ∷ [] };
  answer = record silent { why = Some why; sent = sent_of r Read (Ok carried) after };
}
carried_in r (Delivers carried frame) after = record {
  written = record nothing_written { bytes = frame; fates = None ∷ [] };
  answer = record silent { sent = sent_of r Read (Ok carried) after };
}

-- A block is carried in, with its tag still that of the address; what was found is kept in this cell.
abbrev pub carry_in : Site → Route → (to : List ℕ) → (fate : ℕ) → Act ActAnswer
carry_in s r to fate = record {
  bytes = record { reads = []; writes = to };
  blocks = record { reads = fetched_cell s r ∷ []; writes = [] };
  logs = record { reads = own_cell s r ∷ []; writes = [] };
  fates = record { reads = []; writes = fate ∷ [] };
  compute = λ seen. carried_in r (comes_in s.faults s.device r (get_or seen.blocks 0 [])) (length (get_or seen.logs 0 []));
}

-- what is left of a block that its owner has verified
abbrev pub left_by : Route → Owner → WayIn → (size : ℕ) → Effect ActAnswer
left_by r owner (Stops why) size = record { written = record nothing_written { bytes = replicate size 0 }; answer = record silent { of = read_of r owner; why = Some why } }
left_by r owner (Spoils why carried) size = record { written = record nothing_written { bytes = replicate size 0 }; answer = record silent { of = read_of r owner; why = Some why } }
left_by r owner (Delivers carried frame) size = record { written = record nothing_written { bytes = frame }; answer = record silent { of = read_of r owner } }

-- a block that was found bad when it was carried leaves zeros
abbrev pub settled_by : Route → Owner → Option Why → List ℕ → Effect ActAnswer
settled_by r owner (Some why) frame = record { written = record nothing_written { bytes = replicate (length frame) 0 }; answer = record silent { of = read_of r owner } }
settled_by r owner None frame = left_by r owner (verified r owner (Delivers [] frame)) (length frame)

-- A block of a read is settled: it is mapped back and verified by its owner, or zeros are left.
abbrev pub settle : Route → Owner → (to : List ℕ) → (fate : ℕ) → Act ActAnswer
settle r owner to fate = record {
  bytes = record { reads = to; writes = to };
  blocks = untouched;
  logs = untouched;
  fates = record { reads = fate ∷ []; writes = [] };
  compute = λ seen. settled_by r owner (get_or seen.fates 0 None) seen.bytes;
}

abbrev pub first_why : Option Why → Option Why → Option Why
first_why None other = other
first_why (Some why) other = Some why

-- what the answers to carry and to settle say together
abbrev pub joined : ActAnswer → ActAnswer → ActAnswer
joined carried settled = record carried { of = settled.of; why = first_why carried.why settled.why }

-- a frame that arrives fills the cells, before and after its tag is mapped back
abbrev pub Fills : Route → List ℕ → WayIn → Type 0
Fills r to (Stops why) = Unit {0}
Fills r to (Spoils why carried) = Unit {0}
Fills r to (Delivers carried frame) = (length frame ≡ length to) × (length (mapped_back r frame) ≡ length to)

-- The moves leave and tell what the whole act leaves and tells, fates aside.
pub record IsOne (moved whole : State) (told tells : ActAnswer) : Type 0 where
  pub bytes : moved.bytes ≡ whole.bytes
  pub blocks : moved.blocks ≡ whole.blocks
  pub logs : moved.logs ≡ whole.logs
  pub answer : told ≡ tells

-- no cell is there twice, and each is below the end
pub record AreCells (count : ℕ) (at : List ℕ) : Type 0 where
  pub once : IsDistinct nat_eq at
  pub below : All (λ i. i < count) at

-- the cells of a frame in pages of so many bytes: of its data, then of its tuple
pub record FrameAt (size : ℕ) (frame : List ℕ) (count : ℕ) : Type 0 where
  pub long : length frame ≡ size + TUPLE
  pub apart : share_a_cell (take size frame) (drop size frame) ≡ false
  pub tuple : AreCells count (drop size frame)

-- without the pages from byte n on, which are nobody's but the block layer's, and without fates
abbrev pub hidden : ℕ → State → State
hidden n s = record s { bytes = take n s.bytes; fates = [] }

-- f 0, f 1 and so on, so many of them, in turn
abbrev pub in_turn : (ℕ → Act ActAnswer) → ℕ → List (Act ActAnswer)
in_turn f zero = []
in_turn f (suc n) = in_turn f n ++ (f n ∷ [])

-- What the adapter does with tuples, by whether the host has them, whether the wire has, and the direction.
use Rattle.std.specs.Prelude.{◌≡◌, ℕ, Bool, true, false, List, take}
use Rattle.pi_guard.specs.Guards.{guard_of}
use Rattle.pi_guard.specs.declared.GuardKind.TheVariants.{Crc, Ip}
use Rattle.pi_tuple.specs.Finds.{own_tag}
use Rattle.bio_core.specs.declared.request.Dir.{Dir}
use Rattle.bio_core.specs.declared.request.Dir.TheVariants.{Read, Write}
use Rattle.rig_api.specs.Frames.{data_of, frame_of}
use Rattle.rig_api.specs.Passing.{with_own_tuple}
use Rattle.block_path.specs.declared.operation.Operation.{Operation}
use Rattle.block_path.specs.declared.operation.Operation.TheVariants.{Normal, WriteInsert, ReadStrip, WriteStrip, ReadInsert, WritePass, ReadPass}
use Rattle.block_path.specs.declared.route.Route.{Route}
use Rattle.block_path.specs.Routes.{converted, host_size, host_type, passes_tuples, wire_size}

-- the seven operations (Data Integrity Extensions)
abbrev pub operation : (dix dif : Bool) → Dir → Operation
operation false false dir = Normal
operation false true Write = WriteInsert
operation false true Read = ReadStrip
operation true false Write = WriteStrip
operation true false Read = ReadInsert
operation true true Write = WritePass
operation true true Read = ReadPass

-- that of a block
abbrev pub operation_of : Route → Dir → Operation
operation_of r dir = operation r.mode.dix (passes_tuples r) dir

-- the data with a tuple for the host
abbrev pub with_host_tuple : Route → List ℕ → List ℕ
with_host_tuple r bytes = frame_of bytes (record { guard = guard_of r.mode.kind bytes; app = 0; rtag = own_tag (host_type r.ty) r.lba })

-- What the adapter makes of a frame that it checked: it inserts a tuple, strips it, or passes it with the guard of the other side.
abbrev pub handed_on : Operation → Route → List ℕ → List ℕ
handed_on Normal r frame = frame
handed_on WriteInsert r frame = with_own_tuple r.ty r.lba frame
handed_on ReadStrip r frame = data_of r.size frame
handed_on WriteStrip r frame = data_of r.size frame
handed_on ReadInsert r frame = with_host_tuple r frame
handed_on WritePass r frame = converted r Crc frame
handed_on ReadPass r frame = converted r Ip frame

-- The frame as it comes to the adapter stands at the front of these bytes, and as it goes on at the front of those.
abbrev pub IsHandedOn : Route → Dir → (old new : List ℕ) → Type 0
IsHandedOn r Write old new = take (wire_size r) new ≡ handed_on (operation_of r Write) r (take (host_size r) old)
IsHandedOn r Read old new = take (host_size r) new ≡ handed_on (operation_of r Read) r (take (wire_size r) old)

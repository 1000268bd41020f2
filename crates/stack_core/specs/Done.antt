-- What admitting an op and cutting a piece do to the pages, and what an op that is no request replies.
use Rattle.std.specs.Prelude.{◌≡◌, ◌⊎◌, ℕ, ◌+◌, ◌*◌, ◌/◌, List, replicate, Option, Some, None}
use Rattle.page_pool.specs.declared.segs.Seg.{Seg}
use Rattle.page_pool.specs.Pages.{Wrote, bytes_at}
use Rattle.page_pool.specs.Places.{places_of, range_of, total}
use Rattle.pi_guard.specs.declared.GuardKind.{GuardKind}
use Rattle.pi_tuple.specs.declared.checks.PiType.{PiType}
use Rattle.pi_tuple.specs.declared.checks.PiType.TheVariants.{One}
use Rattle.integrity_payload.specs.declared.payload.Owner.{Owner}
use Rattle.integrity_payload.specs.declared.payload.Owner.TheVariants.{Block as OfBlock, App as OfApp}
use Rattle.integrity_payload.specs.declared.payload.Payload.{Payload}
use Rattle.integrity_payload.specs.Payloads.{made_bytes}
use Rattle.ref_remap.specs.Remapped.{AreRemapped}
use Rattle.bio_core.specs.declared.request.Dir.{Dir}
use Rattle.bio_core.specs.declared.request.Dir.TheVariants.{Read, Write as WriteDir}
use Rattle.stack_ops.specs.declared.op.Op.{Op}
use Rattle.stack_ops.specs.declared.op.Op.TheVariants.{Fill, Put, Show, Seal, Write, Fetch, WritePi, FetchPi, Overwrite, Wait}
use Rattle.stack_ops.specs.declared.reply.Reply.{Reply}
use Rattle.stack_ops.specs.declared.reply.Reply.TheVariants.{Medium, Silent}
use Rattle.stack_ops.specs.Footprints.{put_seg}
use Rattle.stack_core.specs.declared.kept.Room.{Room}
use Rattle.stack_core.specs.declared.kept.Room.TheVariants.{Nothing, Blocks, Bytes, Tuples}
use Rattle.stack_core.specs.Replies.{shown}
use Rattle.pi_tuple.specs.declared.TheConstants.{TUPLE}

-- each tuple of the payload is made of these data
abbrev pub TuplesMade : Payload → GuardKind → PiType → List Seg → (old new : List (List ℕ)) → Type 0
TuplesMade pi kind ty body old new = Wrote old new (range_of pi.tuples 0 (TUPLE * pi.count)) (made_bytes old body (total body / pi.count) kind ty pi.seed pi.app pi.count)

-- where they are the block layer's
abbrev pub MadeBy : Owner → Payload → GuardKind → PiType → List Seg → (old new : List (List ℕ)) → Type 0
MadeBy OfBlock pi kind ty body old new = TuplesMade pi kind ty body old new
MadeBy OfApp pi kind ty body old new = new ≡ old

-- the tuples of a write are made
abbrev pub WriteMade : Dir → Option Payload → GuardKind → PiType → List Seg → (old new : List (List ℕ)) → Type 0
WriteMade Read o kind ty body old new = new ≡ old
WriteMade WriteDir None kind ty body old new = new ≡ old
WriteMade WriteDir (Some pi) kind ty body old new = MadeBy pi.owner pi kind ty body old new

-- the tags of n blocks of a write, from block k on, are mapped to the addresses from this one on
abbrev pub WriteMapped : Dir → Option Payload → PiType → (k n lba : ℕ) → (old new : List (List ℕ)) → Type 0
WriteMapped Read o ty k n lba old new = new ≡ old
WriteMapped WriteDir None ty k n lba old new = new ≡ old
WriteMapped WriteDir (Some pi) ty k n lba old new = AreRemapped old new pi.tuples ty k n (pi.seed + k) lba

-- The tags of a `seal` are counted on for every type.
abbrev pub Sealed : Room → GuardKind → List Seg → (old new : List (List ℕ)) → Type 0
Sealed Nothing kind body old new = new ≡ old
Sealed (Blocks v) kind body old new = new ≡ old
Sealed (Bytes v) kind body old new = new ≡ old
Sealed (Tuples pi) kind body old new = TuplesMade pi kind One body old new

-- what an op that is no request does to the pages, and what it replies
abbrev pub OpDone : Op → GuardKind → Room → (old new : List (List ℕ)) → Reply → Type 0
OpDone (Fill seg byte) kind room old new reply = Wrote old new (places_of seg) (replicate seg.len byte) × (reply ≡ Silent)
OpDone (Put page off bytes) kind room old new reply = Wrote old new (places_of (put_seg page off bytes)) bytes × (reply ≡ Silent)
OpDone (Show seg) kind room old new reply = (new ≡ old) × (reply ≡ shown (bytes_at old (places_of seg)) room)
OpDone (Seal n body tuples app rtag) kind room old new reply = Sealed room kind body old new × (reply ≡ Silent)
OpDone (Write v n body app) kind room old new reply = (new ≡ old) × (reply ≡ Silent)
OpDone (Fetch v n body) kind room old new reply = (new ≡ old) × (reply ≡ Silent)
OpDone (WritePi v n body tuples) kind room old new reply = (new ≡ old) × (reply ≡ Silent)
OpDone (FetchPi v n body tuples) kind room old new reply = (new ≡ old) × (reply ≡ Silent)
OpDone (Overwrite dev lba change) kind room old new reply = (new ≡ old) × ((reply ≡ Silent) ⊎ (reply ≡ Medium))
OpDone Wait kind room old new reply = (new ≡ old) × (reply ≡ Silent)

use Rattle.std.specs.Prelude.{ℕ, zero, suc, ◌+◌, ◌-◌, ◌*◌, ◌/◌, ◌&&◌, eqb, nat_le, nat_lt, if◌then◌else◌, List, [], ◌∷◌, ◌++◌, drop, length, min, replicate, take}
use Rattle.fault_schedule.specs.declared.fault.FaultLine.{FaultLine}
use Rattle.page_pool.specs.declared.segs.Seg.{Seg}
use Rattle.stack_ops.specs.declared.op.Op.{Op}
use Rattle.stack_ops.specs.declared.op.Op.TheVariants.{Fetch, FetchPi, Put, Write}
use Rattle.script_text.specs.declared.script.Script.{Script}
use Rattle.mirror_volume.specs.declared.piece.Piece.{Piece}
use Rattle.page_pool.specs.declared.TheConstants.{PAGE}
use Rattle.pi_tuple.specs.declared.TheConstants.{TUPLE}

-- A request on a leg, as a script of its own: `put`s of its data, and the request, over pages of their own, with the op's faults.

-- A piece is: blocks of a request of the mirror's script, on one leg.

-- By this number fault lines name a piece's first block: on leg 1 behind all blocks of the request.
abbrev pub first_label : Piece → ℕ
first_label p = if p.on1 then p.count + p.first else p.first

-- its first virtual block, of a mirror of `half` blocks
abbrev pub first_virt : (half : ℕ) → Piece → ℕ
first_virt half p = if p.on1 then half + p.v else p.v

-- The lines that name a block of the piece, each with the number of the request in the script of its own, and the block's place there.
abbrev pub own_faults : Piece → (request : ℕ) → List FaultLine → List FaultLine
own_faults p request [] = []
own_faults p request (f ∷ faults) =
    if eqb f.op p.op && (nat_le (first_label p) f.k && nat_lt f.k (first_label p + p.n))
    then record f { op = request; k = f.k - first_label p } ∷ own_faults p request faults
    else own_faults p request faults

-- how many pages so many bytes take
abbrev pub pages_for : (bytes : ℕ) → ℕ
pages_for bytes = (bytes + (PAGE - 1)) / PAGE

-- so many bytes, from the begin of this page on, as one segment a page
abbrev pub page_segs : (page pages bytes : ℕ) → List Seg
page_segs page zero bytes = []
page_segs page (suc pages) bytes = record { page = page; off = 0; len = min PAGE bytes } ∷ page_segs (suc page) pages (bytes - PAGE)

abbrev pub puts : (page pages : ℕ) → List ℕ → List Op
puts page zero bytes = []
puts page (suc pages) bytes = Put page 0 (take PAGE bytes) ∷ puts (suc page) pages (drop PAGE bytes)

-- a script with the mirror's mode and limits, for a request of n blocks: no group has more
abbrev pub own_script : Script → (n pages : ℕ) → List FaultLine → List Op → Script
own_script s n pages faults ops =
    record s { limits = record s.limits { max_blocks = min s.limits.max_blocks n }; pages = pages; entries = []; faults = faults; schedule = []; ops = ops; lines = replicate (length faults + length ops) 0 }

-- The piece is written with these data and this application tag.
abbrev pub write_script : Script → (half : ℕ) → Piece → (app : ℕ) → (bytes : List ℕ) → Script
write_script s half p app bytes =
    own_script s p.n (pages_for (p.n * s.block)) (own_faults p (suc (pages_for (p.n * s.block))) s.faults)
    (puts 0 (pages_for (p.n * s.block)) bytes ++ (Write (first_virt half p) p.n (page_segs 0 (pages_for (p.n * s.block)) (p.n * s.block)) app ∷ []))

-- The piece is read.
abbrev pub read_script : Script → (half : ℕ) → Piece → Script
read_script s half p =
    own_script s p.n (pages_for (p.n * s.block)) (own_faults p 1 s.faults) (Fetch (first_virt half p) p.n (page_segs 0 (pages_for (p.n * s.block)) (p.n * s.block)) ∷ [])

-- The piece is read with its tuples, which stand in pages behind those of the data.
abbrev pub read_pi_script : Script → (half : ℕ) → Piece → Script
read_pi_script s half p =
    own_script s p.n (pages_for (p.n * s.block) + pages_for (p.n * TUPLE)) (own_faults p 1 s.faults)
    (FetchPi (first_virt half p) p.n (page_segs 0 (pages_for (p.n * s.block)) (p.n * s.block)) (page_segs (pages_for (p.n * s.block)) (pages_for (p.n * TUPLE)) (p.n * TUPLE)) ∷ [])

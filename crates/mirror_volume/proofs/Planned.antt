-- A mirror's plan has what the scripts of its legs ask.
use Rattle.std.proofs.Common.{◌≡◌, ◌+◌, ◌*◌, ◌≤◌, List, length, None, subst, sym, arith}
use Rattle.std.specs.Prelude.{◌/◌}
use Rattle.std.proofs.Math.Nat.{mul-le-mul_left}
use Rattle.volume_table.specs.Places.{volume_len}
use Rattle.volume_table.specs.Tables.{Table}
use Rattle.volume_table.specs.declared.device.DeviceInfo.{DeviceInfo}
use Rattle.volume_table.proofs.Sums.{few}
use Rattle.script_text.specs.declared.script.Script.{Script}
use Rattle.script_laws.specs.Keeping.{Keeps}
use Rattle.script_stack.specs.Causes.{table_of}
use Rattle.mirror_volume.specs.LegsPassed.{mirror_fault}
use Rattle.mirror_volume.specs.declared.piece.Piece.{Piece}
use Rattle.mirror_volume.specs.MirrorScript.{IsMirrorScript, IsPiece, IsPieceWithTuples}
use Rattle.mirror_volume.proofs.Suits.{block_sizes}
use Rattle.mirror_volume.specs.declared.legs.Plan.{Plan}
use Rattle.mirror_volume.specs.Plans.{IsPieceOf, IsPlan}

-- A mirror has at most 16 entries, of at most 2 ^ 20 blocks each.
pub half-small : (p : Plan) → IsPlan p → p.half ≤ 8388608
half-small p h =
    let made = h.bound.made in
    let a = few p.script.entries made.ranges in
    let b = made.count in
    let e = h.half in
    omega (arith, a, b, e)

-- what the law of a mirror's script says
abbrev pub Asks : Type 0
Asks = (s : Script) (t : Table) (devices : List DeviceInfo) → Keeps s → length s.lines ≡ length s.faults + length s.ops → mirror_fault s t devices ≡ None → IsMirrorScript s t (volume_len t.entries / 2)

pub plan-asks : Asks → (p : Plan) → IsPlan p → IsMirrorScript p.script (table_of p.script p.devices.items) p.half
plan-asks asks p h =
    subst (λ n. IsMirrorScript p.script (table_of p.script p.devices.items) n) (sym h.half)
    (asks p.script (table_of p.script p.devices.items) p.devices.items h.bound.keeps h.bound.lines h.bound.bound)

pub plan-piece : (p : Plan) (piece : Piece) → IsPieceOf p piece → IsPiece p.script.block p.half piece
plan-piece p piece h = record { some = h.some; room = h.room; inside = h.inside }

-- up to 128 blocks have at most 128 pages of data, and one of tuples
pub plan-tuples : (p : Plan) (piece : Piece) → IsPlan p → IsPieceOf p piece → piece.n ≤ 128 → IsPieceWithTuples p.script.block p.half piece
plan-tuples p piece is h short =
    let sizes = block_sizes p.script.block is.bound.keeps.block_is in
    let size_is : piece.n * p.script.block ≤ piece.n * 4096 = mul-le-mul_left piece.n sizes.1 in
    record { some = h.some; room = omega (arith, size_is, short); inside = h.inside }

-- Scripts of a piece, worked by hand.
use Rattle.std.specs.Prelude.{◌≡◌, ℕ, true, [], ◌∷◌, refl, replicate}
use Rattle.fault_schedule.specs.declared.fault.Crossing.TheVariants.{HostToAdapter}
use Rattle.fault_schedule.specs.declared.fault.FaultKind.TheVariants.{Flip}
use Rattle.fault_schedule.specs.declared.fault.FaultLine.{FaultLine}
use Rattle.stack_ops.specs.declared.op.Op.TheVariants.{Put}
use Rattle.mirror_volume.specs.declared.piece.Piece.{Piece}
use Rattle.mirror_volume.specs.Inner.{first_label, first_virt, own_faults, page_segs, pages_for, puts}

-- the last two of three blocks of a request, on leg 1
abbrev piece : Piece
piece = record { op = 2; count = 3; first = 1; n = 2; v = 5; on1 = true }

abbrev line : (op k : ℕ) → FaultLine
line op k = record { op = op; k = k; at = HostToAdapter; kind = Flip 0 (1 ∷ []) }

begins : (first_label piece ≡ 4) × (first_virt 8 piece ≡ 13)
begins = (refl, refl)

renumbered : own_faults piece 7 (line 2 3 ∷ line 2 5 ∷ line 1 4 ∷ line 2 4 ∷ line 2 6 ∷ []) ≡ line 7 1 ∷ line 7 0 ∷ []
renumbered = refl

pages : (pages_for 512 ≡ 1) × ((pages_for 4096 ≡ 1) × (pages_for 4097 ≡ 2))
pages = (refl, (refl, refl))

segments : page_segs 0 2 5000 ≡ record { page = 0; off = 0; len = 4096 } ∷ record { page = 1; off = 0; len = 904 } ∷ []
segments = refl

put : puts 0 2 (replicate 4097 7) ≡ Put 0 0 (replicate 4096 7) ∷ Put 1 0 (7 ∷ []) ∷ []
put = refl

-- What the scripts of a mirror's legs stand on.
use Rattle.std.specs.Prelude.{ℕ, ◌≡◌, ◌⊎◌, ◌+◌, ◌*◌, ◌≤◌, Bool, true, false, List, [], ◌∷◌, ◌++◌}
use Rattle.volume_table.specs.Places.{volume_len}
use Rattle.volume_table.specs.Tables.{Table}
use Rattle.fault_schedule.specs.declared.fault.FaultKind.{FaultKind}
use Rattle.fault_schedule.specs.declared.fault.FaultKind.TheVariants.{Flip, Shift, Keep, Fail}
use Rattle.fault_schedule.specs.declared.fault.FaultLine.{FaultLine}
use Rattle.script_text.specs.Bindings.{is_bad_fail, is_bad_keep, is_shift}
use Rattle.rig_api.specs.Frames.{stored_size}
use Rattle.script_text.specs.declared.script.Script.{Script}
use Rattle.script_stack.specs.Passed.{Each, IsProtect, IsWithin}
use Rattle.mirror_script.specs.MirrorFaults.{names_blocks}
use Rattle.mirror_volume.specs.declared.piece.Piece.{Piece}
use Rattle.mirror_volume.specs.Inner.{pages_for}
use Rattle.pi_tuple.specs.declared.TheConstants.{TUPLE}
use Rattle.script_lines.specs.declared.TheConstants.{MOST_MEMORY}

-- A line that loses, tears or fails a block can't be.
abbrev pub is_unfit : (stored : ℕ) → (earlier : List FaultLine) → FaultLine → FaultKind → Bool
is_unfit stored earlier f (Flip off bytes) = false
is_unfit stored earlier f (Shift by) = false
is_unfit stored earlier f (Keep bytes) = is_bad_keep stored earlier f bytes
is_unfit stored earlier f Fail = is_bad_fail earlier f

-- All of these can be, behind the earlier ones.
abbrev pub AllFit : (stored : ℕ) → (earlier faults : List FaultLine) → Type 0
AllFit stored earlier [] = Unit {0}
AllFit stored earlier (f ∷ faults) = (is_unfit stored earlier f f.kind ≡ false) × AllFit stored (earlier ++ (f ∷ [])) faults

-- A script on a mirror of `half` blocks: its requests bring tuples from the host to units of type 1 or 2, no fault line is a shift, and each that loses, tears or fails a block can be. Its mode, limits and block size are such as a stack takes.
pub record IsMirrorScript (s : Script) (t : Table) (half : ℕ) : Type 0 where
  pub protect_is : IsProtect s.mode.protect
  pub dix : s.mode.dix ≡ true
  pub most : IsWithin 1 1024 s.limits.max_blocks
  pub block_is : (s.block ≡ 512) ⊎ (s.block ≡ 4096)
  pub type_is : names_blocks t.ty ≡ true
  pub long : volume_len t.entries ≡ half + half
  pub flips : Each (λ f. is_shift f.kind ≡ false) s.faults
  pub keeps : AllFit (stored_size t.ty s.block) [] s.faults

-- The piece has blocks, they lie on the mirror, and their data have room in 256 pages.
pub record IsPiece (size half : ℕ) (p : Piece) : Type 0 where
  pub some : 1 ≤ p.n
  pub room : p.n * size ≤ MOST_MEMORY
  pub inside : p.v + p.n ≤ half

-- So has one that is read with its tuples: data and tuples have room in 256 pages together.
pub record IsPieceWithTuples (size half : ℕ) (p : Piece) : Type 0 where
  pub some : 1 ≤ p.n
  pub room : pages_for (p.n * size) + pages_for (p.n * TUPLE) ≤ 256
  pub inside : p.v + p.n ≤ half

-- the script of a repair, which has no faults
abbrev pub without_faults : Script → Script
without_faults s = record s { faults = [] }

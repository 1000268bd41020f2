use Rattle.std.specs.Prelude.{ℕ, Bool, true, false, if◌then◌else◌, List, [], ◌++◌, codes}
use Rattle.pi_tuple.specs.Finds.{has_ref_tag, is_zero}
use Rattle.pi_tuple.specs.declared.checks.PiType.{PiType}
use Rattle.fault_schedule.specs.declared.fault.Crossing.{Crossing}
use Rattle.fault_schedule.specs.declared.fault.Crossing.TheVariants.{HostToAdapter, AdapterToTarget, TargetToMedium, MediumToTarget, TargetToAdapter, AdapterToHost}
use Rattle.bio_core.specs.declared.request.Dir.{Dir}
use Rattle.bio_core.specs.declared.request.Dir.TheVariants.{Read, Write}
use Rattle.block_path.specs.Routes.{host_type}
use Rattle.block_path.specs.declared.mode.Mode.{Mode}
use Rattle.mode_map.specs.Failures.{failure_cell}
use Rattle.mode_map.specs.Modes.{mode_of, on_off, protect_text}
use Rattle.mode_map.specs.declared.failures.Cell.{Cell}
use Rattle.mode_map.specs.declared.failures.Cell.TheVariants.{Found, Medium, NoTuple, Unseen, Where}
use Rattle.mode_map.specs.declared.failures.Failure.{Failure}
use Rattle.mode_map.specs.declared.failures.Failure.TheVariants.{Flip, Lost, MisdirectedRead, MisdirectedWrite, OlderFrame, OtherBlock, Torn, Unreadable}
use Rattle.mode_map.specs.declared.failures.Field.{Field}
use Rattle.mode_map.specs.declared.failures.Field.TheVariants.{App, Data, Guard, Ref}
use Rattle.mode_map.specs.declared.failures.Link.TheVariants.{OnMedium, OnWire}
use Rattle.mode_map.specs.declared.failures.Place.TheVariants.{Hit, Home}
use Rattle.mode_map.specs.declared.finder.Seen.{Seen}
use Rattle.mode_map.specs.declared.finder.Seen.TheVariants.{Adapter, Target, Owner}

-- The text of the failures of a type: a line for each, a word for each mode.

abbrev pub by_dir : Dir → (read write : List ℕ) → List ℕ
by_dir Read read write = read
by_dir Write read write = write

abbrev pub found_text : Seen → Dir → List ℕ
found_text Adapter at = by_dir at (codes "adapter:read") (codes "adapter:write")
found_text Target at = by_dir at (codes "target:read") (codes "target:write")
found_text Owner at = by_dir at (codes "owner:read") (codes "owner:write")

abbrev pub cell_text : Cell → List ℕ
cell_text (Found layer at) = found_text layer at
cell_text (Medium at) = by_dir at (codes "medium:read") (codes "medium:write")
cell_text Unseen = codes "unseen"
cell_text Where = codes "where"
cell_text NoTuple = codes "-"

-- ---- modes

-- a mode in one word, as DIX/DIF/PROTECT
abbrev pub mode_word : Mode → List ℕ
mode_word mode = codes " " ++ (on_off mode.dix ++ (codes "/" ++ (on_off mode.dif ++ (codes "/" ++ protect_text mode))))

abbrev pub four_modes : (dix : Bool) → List ℕ
four_modes dix = mode_word (mode_of dix false 1) ++ (mode_word (mode_of dix true 1) ++ (mode_word (mode_of dix true 3) ++ mode_word (mode_of dix true 4)))

abbrev pub header : List ℕ
header = codes "failure" ++ (four_modes false ++ (four_modes true ++ codes "\n"))

-- ---- cells

abbrev pub cell_word : Failure → Mode → PiType → List ℕ
cell_word failure mode ty = codes " " ++ cell_text (failure_cell failure mode ty)

abbrev pub four_cells : Failure → (dix : Bool) → PiType → List ℕ
four_cells failure dix ty = cell_word failure (mode_of dix false 1) ty ++ (cell_word failure (mode_of dix true 1) ty ++ (cell_word failure (mode_of dix true 3) ty ++ cell_word failure (mode_of dix true 4) ty))

abbrev pub cells : Failure → PiType → List ℕ
cells failure ty = four_cells failure false ty ++ (four_cells failure true ty ++ codes "\n")

-- ---- rows

abbrev pub field_text : Field → List ℕ
field_text Data = codes "data"
field_text Guard = codes "guard"
field_text App = codes "app"
field_text Ref = codes "ref"

abbrev pub op_text : Crossing → List ℕ
op_text HostToAdapter = codes "write-"
op_text AdapterToTarget = codes "write-"
op_text TargetToMedium = codes "write-"
op_text MediumToTarget = codes "read-"
op_text TargetToAdapter = codes "read-"
op_text AdapterToHost = codes "read-"

abbrev pub where_text : Crossing → List ℕ
where_text HostToAdapter = codes "-host"
where_text AdapterToTarget = codes "-wire"
where_text TargetToMedium = codes "-medium"
where_text MediumToTarget = codes "-medium"
where_text TargetToAdapter = codes "-wire"
where_text AdapterToHost = codes "-host"

abbrev pub flip_row : Field → Crossing → PiType → List ℕ
flip_row field at ty = op_text at ++ (field_text field ++ (where_text at ++ cells (Flip field at) ty))

abbrev pub out_rows : Field → PiType → List ℕ
out_rows field ty = flip_row field HostToAdapter ty ++ (flip_row field AdapterToTarget ty ++ flip_row field TargetToMedium ty)

abbrev pub in_rows : Field → PiType → List ℕ
in_rows field ty = flip_row field MediumToTarget ty ++ (flip_row field TargetToAdapter ty ++ flip_row field AdapterToHost ty)

abbrev pub field_rows : Field → PiType → List ℕ
field_rows field ty = out_rows field ty ++ in_rows field ty

abbrev pub flip_rows : PiType → List ℕ
flip_rows ty = field_rows Data ty ++ (field_rows Guard ty ++ (field_rows App ty ++ field_rows Ref ty))

abbrev pub row : List ℕ → Failure → PiType → List ℕ
row name failure ty = name ++ cells failure ty

abbrev pub pair : List ℕ → Failure → List ℕ → Failure → PiType → List ℕ
pair one first other second ty = row one first ty ++ row other second ty

abbrev pub misread_rows : PiType → List ℕ
misread_rows ty = pair (codes "misread-wire") (MisdirectedRead OnWire) (codes "misread-medium") (MisdirectedRead OnMedium) ty

abbrev pub wire_rows : PiType → List ℕ
wire_rows ty = pair (codes "miswrite-wire-home") (MisdirectedWrite OnWire Home) (codes "miswrite-wire-hit") (MisdirectedWrite OnWire Hit) ty

abbrev pub medium_rows : PiType → List ℕ
medium_rows ty = pair (codes "miswrite-medium-home") (MisdirectedWrite OnMedium Home) (codes "miswrite-medium-hit") (MisdirectedWrite OnMedium Hit) ty

abbrev pub stray_rows : PiType → List ℕ
stray_rows ty = misread_rows ty ++ (wire_rows ty ++ medium_rows ty)

abbrev pub kept_rows : PiType → List ℕ
kept_rows ty = pair (codes "lost") Lost (codes "torn") Torn ty

abbrev pub unread_rows : PiType → List ℕ
unread_rows ty = pair (codes "unreadable-write") (Unreadable Write) (codes "unreadable-read") (Unreadable Read) ty

abbrev pub frame_rows : PiType → List ℕ
frame_rows ty = pair (codes "other-block") OtherBlock (codes "older-frame") OlderFrame ty

abbrev pub disk_rows : PiType → List ℕ
disk_rows ty = kept_rows ty ++ (unread_rows ty ++ frame_rows ty)

-- ---- conditions

abbrev pub turned : PiType → List ℕ
turned ty = if has_ref_tag (host_type ty) then codes "where read-ref-host: owner:read, but unseen where the flip turns the tag of the address into that of the virtual block\n" else []

abbrev pub torn : PiType → List ℕ
torn ty = if is_zero ty then [] else codes "where torn: as read-guard-medium where the guard that is left isn't that of the data that are left and the tuple that is left is no escape, else unseen\n"

abbrev pub conditions : PiType → List ℕ
conditions ty = turned ty ++ torn ty

abbrev pub failures_text : PiType → List ℕ
failures_text ty = header ++ (flip_rows ty ++ (stray_rows ty ++ (disk_rows ty ++ conditions ty)))

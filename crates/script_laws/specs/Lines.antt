use Rattle.std.specs.Prelude.{ℕ, ℤ, Bool, true, false, eqb, if◌then◌else◌, List, [], ◌∷◌, ◌++◌, map, codes, decimal, Option, Some, None}
use Rattle.std.specs.Fmt.{signed_decimal}
use Rattle.std.specs.Int.{to_be_bytes, w16, w32}
use Rattle.hex.specs.Hex.{encode_lower}
use Rattle.script_text.specs.Passed.{Mode, Op, Fill as FillOp, Put as PutOp, Show as ShowOp, Seal as SealOp, Write as WriteOp, Fetch, WritePi as WritePiOp, FetchPi, Overwrite, Wait as WaitOp, Change, Flip as FlipChange, Copy as CopyChange}
use Rattle.linear_volume.specs.declared.Linear.{Linear}
use Rattle.script_lines.specs.Passed.{Limits}
use Rattle.pi_guard.specs.declared.GuardKind.{GuardKind}
use Rattle.pi_guard.specs.declared.GuardKind.TheVariants.{Crc, Ip}
use Rattle.stripe_volume.specs.declared.Stripe.{Stripe}
use Rattle.stripe_volume.specs.declared.legs.Leg.{Leg}
use Rattle.script_lines.specs.declared.line.OpLine.{OpLine}
use Rattle.script_lines.specs.declared.line.OpLine.TheVariants.{Fill, Put, Show, Seal, Write, Read, WritePi, ReadPi, Flip, Copy, Wait}
use Rattle.script_lines.specs.declared.line.Spot.{Spot}
use Rattle.script_lines.specs.declared.line.Spot.TheVariants.{Host, Wire, Medium}
use Rattle.script_text.specs.Printed.{seg_text, segs_text}

-- The words of each line that is printed, behind the first.

-- the application tag of a `write`, where it isn't 0000
abbrev pub tag_of : ℕ → Option ℕ
tag_of app = if eqb app 0 then None else Some app

abbrev pub change_line : (dev lba : ℕ) → Change → OpLine
change_line dev lba (FlipChange off bytes) = Flip dev lba off bytes
change_line dev lba (CopyChange from_dev from_lba) = Copy dev lba from_dev from_lba

-- the line that an op is printed as
abbrev pub line_of : Op → OpLine
line_of (FillOp seg byte) = Fill seg byte
line_of (PutOp page off bytes) = Put page off bytes
line_of (ShowOp seg) = Show seg
line_of (SealOp n body tuples app rtag) = Seal n body tuples app rtag
line_of (WriteOp v n body app) = Write v n body (tag_of app)
line_of (Fetch v n body) = Read v n body
line_of (WritePiOp v n body tuples) = WritePi v n body tuples
line_of (FetchPi v n body tuples) = ReadPi v n body tuples
line_of (Overwrite dev lba change) = change_line dev lba change
line_of WaitOp = Wait

abbrev pub spot_word : Spot → List ℕ
spot_word Host = codes "host"
spot_word Wire = codes "wire"
spot_word Medium = codes "medium"

abbrev pub guard_word : GuardKind → List ℕ
guard_word Crc = codes "crc"
guard_word Ip = codes "ip"

abbrev pub switch_word : Bool → List ℕ
switch_word true = codes "on"
switch_word false = codes "off"

abbrev pub mode_words : Mode → List (List ℕ)
mode_words m = guard_word m.kind ∷ switch_word m.dix ∷ switch_word m.dif ∷ decimal m.protect ∷ []

abbrev pub limits_words : Limits → List (List ℕ)
limits_words l = decimal l.max_blocks ∷ decimal l.max_segs ∷ decimal l.max_pi_segs ∷ []

abbrev pub expect_words : (app mask : ℕ) → List (List ℕ)
expect_words app mask = encode_lower (to_be_bytes w16 app) ∷ encode_lower (to_be_bytes w16 mask) ∷ []

abbrev pub linear_words : Linear → List (List ℕ)
linear_words e = decimal e.start ∷ decimal e.len ∷ codes "dev" ∷ decimal e.dev ∷ codes "at" ∷ decimal e.at ∷ []

abbrev pub leg_text : Leg → List ℕ
leg_text l = decimal l.dev ++ (58 ∷ decimal l.at)

abbrev pub leg_words : List Leg → List (List ℕ)
leg_words legs = map leg_text legs

abbrev pub stripe_words : Stripe → List (List ℕ)
stripe_words s = decimal s.start ∷ decimal s.len ∷ codes "chunk" ∷ decimal s.chunk ∷ codes "legs" ∷ leg_words s.legs

abbrev pub flip_words : (off : ℕ) → (bytes : List ℕ) → List (List ℕ)
flip_words off bytes = decimal off ∷ encode_lower bytes ∷ []

abbrev pub fault_words : (op k : ℕ) → Spot → (off : ℕ) → (bytes : List ℕ) → List (List ℕ)
fault_words op k spot off bytes = decimal op ∷ decimal k ∷ spot_word spot ∷ codes "flip" ∷ flip_words off bytes

abbrev pub shift_words : (op : ℕ) → Spot → ℤ → List (List ℕ)
shift_words op spot by = decimal op ∷ spot_word spot ∷ signed_decimal by ∷ []

-- of a line that names a block alone
abbrev pub block_words : (op k : ℕ) → List (List ℕ)
block_words op k = decimal op ∷ decimal k ∷ []

abbrev pub tear_words : (op k bytes : ℕ) → List (List ℕ)
tear_words op k bytes = decimal op ∷ decimal k ∷ decimal bytes ∷ []

abbrev pub choice_text : ℕ × ℕ → List ℕ
choice_text e = if eqb e.1 0 then decimal e.0 else decimal e.0 ++ (47 ∷ decimal e.1)

abbrev pub app_words : Option ℕ → List (List ℕ)
app_words None = []
app_words (Some app) = codes "app" ∷ encode_lower (to_be_bytes w16 app) ∷ []

-- the first word of an op's line
abbrev pub op_word : OpLine → List ℕ
op_word (Fill seg byte) = codes "fill"
op_word (Put page off bytes) = codes "put"
op_word (Show seg) = codes "show"
op_word (Seal n body tuples app rtag) = codes "seal"
op_word (Write v n body app) = codes "write"
op_word (Read v n body) = codes "read"
op_word (WritePi v n body tuples) = codes "writepi"
op_word (ReadPi v n body tuples) = codes "readpi"
op_word (Flip dev lba off bytes) = codes "overwrite"
op_word (Copy dev lba from_dev from_lba) = codes "overwrite"
op_word Wait = codes "wait"

-- the words behind it
abbrev pub op_words_behind : OpLine → List (List ℕ)
op_words_behind (Fill seg byte) = seg_text seg ∷ encode_lower (byte ∷ []) ∷ []
op_words_behind (Put page off bytes) = (decimal page ++ (58 ∷ decimal off)) ∷ encode_lower bytes ∷ []
op_words_behind (Show seg) = seg_text seg ∷ []
op_words_behind (Seal n body tuples app rtag) = decimal n ∷ segs_text body ∷ segs_text tuples ∷ encode_lower (to_be_bytes w16 app) ∷ encode_lower (to_be_bytes w32 rtag) ∷ []
op_words_behind (Write v n body app) = decimal v ∷ decimal n ∷ segs_text body ∷ app_words app
op_words_behind (Read v n body) = decimal v ∷ decimal n ∷ segs_text body ∷ []
op_words_behind (WritePi v n body tuples) = decimal v ∷ decimal n ∷ segs_text body ∷ segs_text tuples ∷ []
op_words_behind (ReadPi v n body tuples) = decimal v ∷ decimal n ∷ segs_text body ∷ segs_text tuples ∷ []
op_words_behind (Flip dev lba off bytes) = decimal dev ∷ decimal lba ∷ codes "flip" ∷ flip_words off bytes
op_words_behind (Copy dev lba from_dev from_lba) = decimal dev ∷ decimal lba ∷ codes "from" ∷ decimal from_dev ∷ decimal from_lba ∷ []
op_words_behind Wait = []

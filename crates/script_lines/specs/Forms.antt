use Rattle.std.specs.Prelude.{ℕ, ◌+◌, ◌≤◌, length, Bool, true, false, eqb, ◌||◌, if◌then◌else◌, List, [], ◌∷◌, codes, Option, Some, None, Result, Ok, Err}
use Rattle.pi_guard.specs.declared.GuardKind.{GuardKind}
use Rattle.pi_guard.specs.declared.GuardKind.TheVariants.{Crc, Ip}
use Rattle.stripe_volume.specs.declared.legs.Leg.{Leg}
use Rattle.script_words.specs.Hexes.{byte_in, hex_in, long_tag_in, tag_in}
use Rattle.script_words.specs.Numbers.{number_within, signed_within}
use Rattle.script_words.specs.Places.{choice_in, leg_in, seg_in, segs_in, spot_in, word32, word64}
use Rattle.std.specs.Str.{bytes_eq}
use Rattle.script_lines.specs.declared.kind.ScriptKind.{ScriptKind}
use Rattle.script_lines.specs.declared.kind.ScriptKind.TheVariants.{UnknownWord, MissingWord}
use Rattle.script_lines.specs.declared.line.Spot.{Spot}
use Rattle.script_lines.specs.declared.line.Spot.TheVariants.{Host, Wire, Medium}
use Rattle.script_lines.specs.declared.line.OpLine.{OpLine}
use Rattle.script_lines.specs.declared.line.OpLine.TheVariants.{Fill, Put, Show, Seal, Write, Read, WritePi, ReadPi, Flip as FlipOp, Copy, Wait}
use Rattle.script_lines.specs.declared.line.ScriptLine.{ScriptLine}
use Rattle.script_lines.specs.declared.line.ScriptLine.TheVariants.{Mode, Limits, Pages, Block, Expect, Inner, Linear as LinearLine, Stripe, Over, Flip, Shift, Keep, Fail, Schedule, Begin, Op}
use Rattle.script_lines.specs.declared.volume_lines.Striped.{Striped}
use Rattle.script_lines.specs.declared.verb.Verb.{Verb}
use Rattle.script_lines.specs.declared.verb.Verb.TheVariants.{Mode as ModeVerb, Limits as LimitsVerb, Pages as PagesVerb, Block as BlockVerb, Expect as ExpectVerb, Inner as InnerVerb, Linear as LinearVerb, Stripe as StripeVerb, Over as OverVerb, Fault as FaultVerb, Shift as ShiftVerb, Lose as LoseVerb, Tear as TearVerb, Fail as FailVerb, Schedule as ScheduleVerb, Begin as BeginVerb, Fill as FillVerb, Put as PutVerb, Show as ShowVerb, Seal as SealVerb, Write as WriteVerb, Read as ReadVerb, WritePi as WritePiVerb, ReadPi as ReadPiVerb, Overwrite as OverwriteVerb}
use Rattle.script_lines.specs.Reading.{Got, ◌>>=◌, either, ended, fixed, some_of, value}
use Rattle.volume_table.specs.declared.TheConstants.{MOST_LENGTH}
use Rattle.pi_tuple.specs.declared.TheConstants.{LARGEST_BLOCK}
use Rattle.script_lines.specs.declared.TheConstants.{MOST_CHUNK}

-- The lines of a script by what stands behind their first words. Each form is read from left to right.

abbrev pub guard_by : Bool → GuardKind
guard_by true = Ip
guard_by false = Crc

-- 1, 3 or 4
abbrev pub protect_by : Option ℕ → Option ℕ
protect_by None = None
protect_by (Some n) = if eqb n 2 then None else Some n

abbrev pub protect_in : List ℕ → Option ℕ
protect_in word = protect_by (number_within 1 4 word)

-- mode GUARD DIX DIF PROTECT
unfoldable pub mode_form : List (List ℕ) → Result ScriptLine ScriptKind
mode_form ws = do
  guard ← either (codes "ip") (codes "crc") ws
  dix ← either (codes "on") (codes "off") guard.1
  dif ← either (codes "on") (codes "off") dix.1
  protect ← value protect_in dif.1
  ended (Mode (record { kind = guard_by guard.0; dix = dix.0; dif = dif.0; protect = protect.0 })) protect.1

-- limits B S T
unfoldable pub limits_form : List (List ℕ) → Result ScriptLine ScriptKind
limits_form ws = do
  blocks ← value (number_within 1 1024) ws
  segs ← value (number_within 4 1024) blocks.1
  tuples ← value (number_within 1 1024) segs.1
  ended (Limits (record { max_blocks = blocks.0; max_segs = segs.0; max_pi_segs = tuples.0 })) tuples.1

-- pages N
unfoldable pub pages_form : List (List ℕ) → Result ScriptLine ScriptKind
pages_form ws = do
  pages ← value (number_within 1 256) ws
  ended (Pages pages.0) pages.1

abbrev pub size_by : Option ℕ → Option ℕ
size_by None = None
size_by (Some n) = if eqb n 512 || eqb n 4096 then Some n else None

-- 512 or 4096
abbrev pub size_in : List ℕ → Option ℕ
size_in word = size_by (word32 word)

-- block S
unfoldable pub block_form : List (List ℕ) → Result ScriptLine ScriptKind
block_form ws = do
  size ← value size_in ws
  ended (Block size.0) size.1

abbrev pub mask_by : Option ℕ → Option ℕ
mask_by None = None
mask_by (Some n) = if eqb n 0 then None else Some n

-- a tag other than 0000
abbrev pub mask_in : List ℕ → Option ℕ
mask_in word = mask_by (tag_in word)

-- expect TAG MASK
unfoldable pub expect_form : List (List ℕ) → Result ScriptLine ScriptKind
expect_form ws = do
  app ← value tag_in ws
  mask ← value mask_in app.1
  ended (Expect app.0 mask.0) mask.1

-- dev D at A, to the end of the line
unfoldable pub place_form : List (List ℕ) → Result (ℕ × ℕ) ScriptKind
place_form ws = do
  behind_dev ← fixed (codes "dev") ws
  dev ← value word32 behind_dev
  behind_at ← fixed (codes "at") dev.1
  at ← value word64 behind_at
  ended (dev.0, at.0) at.1

-- 1 to 1,048,576 blocks
abbrev pub len_in : List ℕ → Option ℕ
len_in word = number_within 1 MOST_LENGTH word

-- inner I LEN dev D at A
unfoldable pub inner_form : List (List ℕ) → Result ScriptLine ScriptKind
inner_form ws = do
  volume ← value (number_within 0 7) ws
  len ← value len_in volume.1
  place ← place_form len.1
  Ok (Inner volume.0 len.0 place.0 place.1)

-- linear START LEN dev D at A
unfoldable pub linear_form : List (List ℕ) → Result ScriptLine ScriptKind
linear_form ws = do
  start ← value word64 ws
  len ← value len_in start.1
  place ← place_form len.1
  Ok (LinearLine (record { start = start.0; len = len.0; dev = place.0; at = place.1 }))

-- START LEN chunk C legs
unfoldable pub striped_form : List (List ℕ) → Got Striped
striped_form ws = do
  start ← value word64 ws
  len ← value len_in start.1
  behind_chunk ← fixed (codes "chunk") len.1
  chunk ← value (number_within 1 MOST_CHUNK) behind_chunk
  behind_legs ← fixed (codes "legs") chunk.1
  Ok (record { start = start.0; len = len.0; chunk = chunk.0 }, behind_legs)

abbrev pub leg_by : Option (ℕ × ℕ) → Option Leg
leg_by None = None
leg_by (Some p) = Some (record { dev = p.0; at = p.1 })

abbrev pub leg_word : List ℕ → Option Leg
leg_word word = leg_by (leg_in word)

-- stripe START LEN chunk C legs D:A ..
unfoldable pub stripe_form : List (List ℕ) → Result ScriptLine ScriptKind
stripe_form ws = do
  striped ← striped_form ws
  legs ← some_of leg_word striped.1
  Ok (Stripe striped.0.start striped.0.len striped.0.chunk legs)

-- over START LEN chunk C legs I ..
unfoldable pub over_form : List (List ℕ) → Result ScriptLine ScriptKind
over_form ws = do
  striped ← striped_form ws
  volumes ← some_of (number_within 0 7) striped.1
  Ok (Over striped.0.start striped.0.len striped.0.chunk volumes)

abbrev pub wire_or_medium_in : List ℕ → Option Spot
wire_or_medium_in word = if bytes_eq word (codes "wire") then Some Wire else (if bytes_eq word (codes "medium") then Some Medium else None)

abbrev pub any_spot_in : List ℕ → Option Spot
any_spot_in word = if bytes_eq word (codes "host") then Some Host else wire_or_medium_in word

abbrev pub or_unknown : {A : Type 0} → Option A → List (List ℕ) → Got A
or_unknown None ws = Err UnknownWord
or_unknown (Some a) ws = Ok (a, ws)

-- wire or medium
abbrev pub shift_spot : List (List ℕ) → Got Spot
shift_spot [] = Err MissingWord
shift_spot (w ∷ ws) = or_unknown (wire_or_medium_in w) ws

-- host, wire or medium
abbrev pub flip_spot : List (List ℕ) → Got Spot
flip_spot [] = Err MissingWord
flip_spot (w ∷ ws) = or_unknown (any_spot_in w) ws

-- OFF HEX, to the end of the line: an offset in a frame of blocks of this size, and 1 to 32 bytes
unfoldable pub flip_form : ℕ → List (List ℕ) → Result (ℕ × List ℕ) ScriptKind
flip_form size ws = do
  off ← value (number_within 0 (size + 7)) ws
  bytes ← value (hex_in 32) off.1
  ended (off.0, bytes.0) bytes.1

-- fault OP K WHERE flip OFF HEX
unfoldable pub fault_form : ℕ → List (List ℕ) → Result ScriptLine ScriptKind
fault_form size ws = do
  op ← value (number_within 1 1024) ws
  k ← value (number_within 0 2047) op.1
  spot ← flip_spot k.1
  behind_flip ← fixed (codes "flip") spot.1
  flip ← flip_form size behind_flip
  Ok (Flip op.0 k.0 spot.0 flip.0 flip.1)

-- shift OP WHERE N
unfoldable pub shift_form : List (List ℕ) → Result ScriptLine ScriptKind
shift_form ws = do
  op ← value (number_within 1 1024) ws
  spot ← shift_spot op.1
  by ← value (signed_within 64) spot.1
  ended (Shift op.0 spot.0 by.0) by.1

-- lose OP K
unfoldable pub lose_form : List (List ℕ) → Result ScriptLine ScriptKind
lose_form ws = do
  op ← value (number_within 1 1024) ws
  k ← value (number_within 0 2047) op.1
  ended (Keep op.0 k.0 0) k.1

-- tear OP K LEN: at least a byte, and not all of the longest frame that the medium stores of a block of this size
unfoldable pub tear_form : ℕ → List (List ℕ) → Result ScriptLine ScriptKind
tear_form size ws = do
  op ← value (number_within 1 1024) ws
  k ← value (number_within 0 2047) op.1
  bytes ← value (number_within 1 (size + 7)) k.1
  ended (Keep op.0 k.0 bytes.0) bytes.1

-- fail OP K
unfoldable pub fail_form : List (List ℕ) → Result ScriptLine ScriptKind
fail_form ws = do
  op ← value (number_within 1 1024) ws
  k ← value (number_within 0 2047) op.1
  ended (Fail op.0 k.0) k.1

-- schedule E ..
unfoldable pub schedule_form : List (List ℕ) → Result ScriptLine ScriptKind
schedule_form ws = do
  entries ← some_of choice_in ws
  Ok (Schedule entries)

-- fill P:O:L BYTE
unfoldable pub fill_form : List (List ℕ) → Result OpLine ScriptKind
fill_form ws = do
  seg ← value seg_in ws
  byte ← value byte_in seg.1
  ended (Fill seg.0 byte.0) byte.1

-- put P:O HEX
unfoldable pub put_form : List (List ℕ) → Result OpLine ScriptKind
put_form ws = do
  spot ← value spot_in ws
  bytes ← value (hex_in 512) spot.1
  ended (Put spot.0.0 spot.0.1 bytes.0) bytes.1

-- show P:O:L
unfoldable pub show_form : List (List ℕ) → Result OpLine ScriptKind
show_form ws = do
  seg ← value seg_in ws
  ended (Show seg.0) seg.1

-- seal N DATA TUPLES TAG LONGTAG
unfoldable pub seal_form : List (List ℕ) → Result OpLine ScriptKind
seal_form ws = do
  n ← value word32 ws
  body ← value segs_in n.1
  tuples ← value segs_in body.1
  app ← value tag_in tuples.1
  rtag ← value long_tag_in app.1
  ended (Seal n.0 body.0 tuples.0 app.0 rtag.0) rtag.1

-- app TAG, or nothing
unfoldable pub app_form : List (List ℕ) → Result (Option ℕ) ScriptKind
app_form [] = Ok None
app_form (w ∷ ws) = do
  behind_app ← fixed (codes "app") (w ∷ ws)
  app ← value tag_in behind_app
  ended (Some app.0) app.1

-- write V N DATA, and app TAG behind it
unfoldable pub write_form : List (List ℕ) → Result OpLine ScriptKind
write_form ws = do
  v ← value word64 ws
  n ← value word32 v.1
  body ← value segs_in n.1
  app ← app_form body.1
  Ok (Write v.0 n.0 body.0 app)

-- read V N DATA
unfoldable pub read_form : List (List ℕ) → Result OpLine ScriptKind
read_form ws = do
  v ← value word64 ws
  n ← value word32 v.1
  body ← value segs_in n.1
  ended (Read v.0 n.0 body.0) body.1

-- writepi V N DATA TUPLES
unfoldable pub writepi_form : List (List ℕ) → Result OpLine ScriptKind
writepi_form ws = do
  v ← value word64 ws
  n ← value word32 v.1
  body ← value segs_in n.1
  tuples ← value segs_in body.1
  ended (WritePi v.0 n.0 body.0 tuples.0) tuples.1

-- readpi V N DATA TUPLES
unfoldable pub readpi_form : List (List ℕ) → Result OpLine ScriptKind
readpi_form ws = do
  v ← value word64 ws
  n ← value word32 v.1
  body ← value segs_in n.1
  tuples ← value segs_in body.1
  ended (ReadPi v.0 n.0 body.0 tuples.0) tuples.1

-- what stands behind the address of an `overwrite`: flip OFF HEX, or from DEV LBA
unfoldable pub change_form : (size dev lba : ℕ) → Bool → List (List ℕ) → Result OpLine ScriptKind
change_form size dev lba true ws = do
  flip ← flip_form size ws
  Ok (FlipOp dev lba flip.0 flip.1)
change_form size dev lba false ws = do
  from ← value word32 ws
  at ← value word64 from.1
  ended (Copy dev lba from.0 at.0) at.1

-- overwrite DEV LBA flip OFF HEX, overwrite DEV LBA from DEV LBA
unfoldable pub overwrite_form : ℕ → List (List ℕ) → Result OpLine ScriptKind
overwrite_form size ws = do
  dev ← value word32 ws
  lba ← value word64 dev.1
  change ← either (codes "flip") (codes "from") lba.1
  change_form size dev.0 lba.0 change.0 change.1

-- what an op's line says, by its first word; the block size is needed where an offset lies in a frame
abbrev pub op_form : Verb → ℕ → List (List ℕ) → Result OpLine ScriptKind
op_form FillVerb size ws = fill_form ws
op_form PutVerb size ws = put_form ws
op_form ShowVerb size ws = show_form ws
op_form SealVerb size ws = seal_form ws
op_form WriteVerb size ws = write_form ws
op_form ReadVerb size ws = read_form ws
op_form WritePiVerb size ws = writepi_form ws
op_form ReadPiVerb size ws = readpi_form ws
op_form OverwriteVerb size ws = overwrite_form size ws
op_form _ size ws = ended Wait ws

abbrev pub as_line : Result OpLine ScriptKind → Result ScriptLine ScriptKind
as_line (Ok op) = Ok (Op op)
as_line (Err k) = Err k

-- what a line behind the first says
abbrev pub line_form : Verb → ℕ → List (List ℕ) → Result ScriptLine ScriptKind
line_form ModeVerb size ws = mode_form ws
line_form LimitsVerb size ws = limits_form ws
line_form PagesVerb size ws = pages_form ws
line_form BlockVerb size ws = block_form ws
line_form ExpectVerb size ws = expect_form ws
line_form InnerVerb size ws = inner_form ws
line_form LinearVerb size ws = linear_form ws
line_form StripeVerb size ws = stripe_form ws
line_form OverVerb size ws = over_form ws
line_form FaultVerb size ws = fault_form size ws
line_form ShiftVerb size ws = shift_form ws
line_form LoseVerb size ws = lose_form ws
line_form TearVerb size ws = tear_form size ws
line_form FailVerb size ws = fail_form ws
line_form ScheduleVerb size ws = schedule_form ws
line_form BeginVerb size ws = ended Begin ws
line_form verb size ws = as_line (op_form verb size ws)

-- The numbers of a line that later rules rest on are in their ranges.
abbrev pub IsSound : ScriptLine → Type 0
IsSound (Block size) = size ≤ LARGEST_BLOCK
IsSound (Inner volume len dev at) = (1 ≤ len) × (len ≤ MOST_LENGTH)
IsSound (Over start len chunk volumes) = (1 ≤ len) × (len ≤ MOST_LENGTH) × (1 ≤ chunk) × (1 ≤ length volumes)
IsSound _ = Unit {0}

abbrev pub IsSoundFront : Striped → Type 0
IsSoundFront s = (1 ≤ s.len) × (s.len ≤ MOST_LENGTH) × (1 ≤ s.chunk)

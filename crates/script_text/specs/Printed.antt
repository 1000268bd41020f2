use Rattle.std.specs.Prelude.{ℕ, Bool, true, false, not, ◌||◌, eqb, if◌then◌else◌, List, [], ◌∷◌, ◌++◌, codes, decimal}
use Rattle.std.specs.Int.{to_be_bytes, w16, w32}
use Rattle.std.specs.Fmt.{signed_decimal}
use Rattle.hex.specs.Hex.{encode_lower}
use Rattle.block_path.specs.declared.mode.Mode.{Mode}
use Rattle.fault_schedule.specs.declared.fault.Crossing.{Crossing}
use Rattle.fault_schedule.specs.declared.fault.Crossing.TheVariants.{HostToAdapter, AdapterToTarget, TargetToMedium, MediumToTarget, TargetToAdapter, AdapterToHost}
use Rattle.fault_schedule.specs.declared.fault.FaultKind.TheVariants.{Flip, Shift, Keep, Fail}
use Rattle.fault_schedule.specs.declared.fault.FaultLine.{FaultLine}
use Rattle.fault_schedule.specs.declared.fault.FaultKind.{FaultKind}
use Rattle.merge_queue.specs.declared.Limits.{Limits}
use Rattle.page_pool.specs.declared.segs.Seg.{Seg}
use Rattle.pi_guard.specs.declared.GuardKind.{GuardKind}
use Rattle.pi_guard.specs.declared.GuardKind.TheVariants.{Crc, Ip}
use Rattle.rig_api.specs.declared.change.Change.{Change}
use Rattle.rig_api.specs.declared.change.Change.TheVariants.{Flip as FlipChange, Copy as CopyChange}
use Rattle.stack_ops.specs.declared.op.Op.{Op}
use Rattle.stack_ops.specs.declared.op.Op.TheVariants.{Fill, Put, Show, Seal, Write, Fetch, WritePi, FetchPi, Overwrite, Wait}
use Rattle.stripe_volume.specs.declared.legs.Leg.{Leg}
use Rattle.volume_table.specs.declared.entry.Entry.{Entry}
use Rattle.volume_table.specs.declared.entry.Entry.TheVariants.{Linear, Stripe}
use Rattle.std.specs.List.{list_any}
use Rattle.script_lines.specs.Verbs.{is_new}
use Rattle.script_lines.specs.declared.verb.ScriptVersion.{ScriptVersion}
use Rattle.script_lines.specs.declared.verb.ScriptVersion.TheVariants.{One, Two, Three}
use Rattle.script_text.specs.Bindings.{is_third_line}
use Rattle.script_text.specs.declared.script.Script.{Script}

-- The text of a script, line by line.

abbrev pub seg_text : Seg → List ℕ
seg_text s = decimal s.page ++ (codes ":" ++ (decimal s.off ++ (codes ":" ++ decimal s.len)))

abbrev pub more_segs : List Seg → List ℕ
more_segs [] = []
more_segs (s ∷ segs) = codes "," ++ (seg_text s ++ more_segs segs)

-- segments with commas between them
abbrev pub segs_text : List Seg → List ℕ
segs_text [] = []
segs_text (s ∷ segs) = seg_text s ++ more_segs segs

abbrev pub switch_text : Bool → List ℕ
switch_text true = codes " on"
switch_text false = codes " off"

abbrev pub guard_text : GuardKind → List ℕ
guard_text Crc = codes "mode crc"
guard_text Ip = codes "mode ip"

abbrev pub mode_text : Mode → List ℕ
mode_text m = guard_text m.kind ++ (switch_text m.dix ++ (switch_text m.dif ++ (codes " " ++ (decimal m.protect ++ codes "\n"))))

abbrev pub limits_text : Limits → List ℕ
limits_text l = codes "limits " ++ (decimal l.max_blocks ++ (codes " " ++ (decimal l.max_segs ++ (codes " " ++ (decimal l.max_pi_segs ++ codes "\n")))))

abbrev pub pages_text : ℕ → List ℕ
pages_text pages = codes "pages " ++ (decimal pages ++ codes "\n")

abbrev pub block_text : ℕ → List ℕ
block_text size = codes "block " ++ (decimal size ++ codes "\n")

abbrev pub expect_text : (app mask : ℕ) → List ℕ
expect_text app mask = codes "expect " ++ (encode_lower (to_be_bytes w16 app) ++ (codes " " ++ (encode_lower (to_be_bytes w16 mask) ++ codes "\n")))

-- what no version before 2 can say
abbrev pub is_past_one : (block mask : ℕ) → Bool
is_past_one block mask = not (eqb block 512) || not (eqb mask 0)

-- the first version that can say all that a script does
abbrev pub version_for : List FaultLine → (block mask : ℕ) → ScriptVersion
version_for faults block mask = if list_any is_third_line faults then Three else (if is_past_one block mask then Two else One)

abbrev pub version_text : ScriptVersion → List ℕ
version_text One = codes "dix 1\n"
version_text Two = codes "dix 2\n"
version_text Three = codes "dix 3\n"

abbrev pub expected_text : (app mask : ℕ) → List ℕ
expected_text app mask = if eqb mask 0 then [] else expect_text app mask

abbrev pub new_text : (block app mask : ℕ) → List ℕ
new_text block app mask = block_text block ++ expected_text app mask

abbrev pub new_lines : ScriptVersion → (block app mask : ℕ) → List ℕ
new_lines version block app mask = if is_new version then new_text block app mask else []

-- the lines before the volume in this version
abbrev pub front_in : ScriptVersion → Script → List ℕ
front_in version s = version_text version ++ (mode_text s.mode ++ (limits_text s.limits ++ (pages_text s.pages ++ new_lines version s.block s.mode.app s.mode.mask)))

abbrev pub front_text : Script → List ℕ
front_text s = front_in (version_for s.faults s.block s.mode.mask) s

abbrev pub legs_text : List Leg → List ℕ
legs_text [] = []
legs_text (l ∷ legs) = (codes " " ++ (decimal l.dev ++ (codes ":" ++ decimal l.at))) ++ legs_text legs

-- two numbers with a word between them
abbrev pub pair_text : ℕ → List ℕ → ℕ → List ℕ
pair_text first between second = decimal first ++ (between ++ decimal second)

abbrev pub entry_text : Entry → List ℕ
entry_text (Linear e) = codes "linear " ++ (pair_text e.start (codes " ") e.len ++ (codes " dev " ++ (pair_text e.dev (codes " at ") e.at ++ codes "\n")))
entry_text (Stripe s) = codes "stripe " ++ (pair_text s.start (codes " ") s.len ++ (codes " chunk " ++ (decimal s.chunk ++ (codes " legs" ++ (legs_text s.legs ++ codes "\n")))))

abbrev pub entries_text : List Entry → List ℕ
entries_text [] = []
entries_text (e ∷ es) = entry_text e ++ entries_text es

abbrev pub spot_text : Crossing → List ℕ
spot_text HostToAdapter = codes " host"
spot_text AdapterToHost = codes " host"
spot_text AdapterToTarget = codes " wire"
spot_text TargetToAdapter = codes " wire"
spot_text TargetToMedium = codes " medium"
spot_text MediumToTarget = codes " medium"

abbrev pub change_text : Change → List ℕ
change_text (FlipChange off bytes) = codes " flip " ++ (decimal off ++ (codes " " ++ encode_lower bytes))
change_text (CopyChange dev lba) = codes " from " ++ (decimal dev ++ (codes " " ++ decimal lba))

-- a write of which no byte is kept is lost, any other is torn
abbrev pub keep_text : (op k bytes : ℕ) → List ℕ
keep_text op k bytes = if eqb bytes 0 then codes "lose " ++ (pair_text op (codes " ") k ++ codes "\n") else codes "tear " ++ (pair_text op (codes " ") k ++ (codes " " ++ (decimal bytes ++ codes "\n")))

abbrev pub fail_text : (op k : ℕ) → List ℕ
fail_text op k = codes "fail " ++ (pair_text op (codes " ") k ++ codes "\n")

abbrev pub fault_by : FaultLine → FaultKind → List ℕ
fault_by f (Flip off bytes) = codes "fault " ++ (pair_text f.op (codes " ") f.k ++ (spot_text f.at ++ (change_text (FlipChange off bytes) ++ codes "\n")))
fault_by f (Shift by) = codes "shift " ++ (decimal f.op ++ (spot_text f.at ++ (codes " " ++ (signed_decimal by ++ codes "\n"))))
fault_by f (Keep bytes) = keep_text f.op f.k bytes
fault_by f Fail = fail_text f.op f.k

abbrev pub fault_text : FaultLine → List ℕ
fault_text f = fault_by f f.kind

abbrev pub faults_text : List FaultLine → List ℕ
faults_text [] = []
faults_text (f ∷ fs) = fault_text f ++ faults_text fs

-- the cut of an entry, where it isn't 0
abbrev pub cut_text : ℕ → List ℕ
cut_text cut = if eqb cut 0 then [] else codes "/" ++ decimal cut

abbrev pub schedule_line : ℕ × ℕ → List ℕ
schedule_line e = codes "schedule " ++ (decimal e.0 ++ (cut_text e.1 ++ codes "\n"))

-- one entry on a line
abbrev pub schedule_text : List (ℕ × ℕ) → List ℕ
schedule_text [] = []
schedule_text (e ∷ es) = schedule_line e ++ schedule_text es

abbrev pub tag_text : ℕ → List ℕ
tag_text app = encode_lower (to_be_bytes w16 app)

abbrev pub long_tag_text : ℕ → List ℕ
long_tag_text rtag = encode_lower (to_be_bytes w32 rtag)

-- the application tag of a `write`, where it isn't 0000
abbrev pub app_text : ℕ → List ℕ
app_text app = if eqb app 0 then [] else codes " app " ++ tag_text app

abbrev pub request_text : (verb : List ℕ) → (v n : ℕ) → List Seg → List ℕ
request_text verb v n body = verb ++ (decimal v ++ (codes " " ++ (decimal n ++ (codes " " ++ segs_text body))))

abbrev pub tuples_text : List Seg → List ℕ
tuples_text tuples = codes " " ++ segs_text tuples

abbrev pub tags_text : (app rtag : ℕ) → List ℕ
tags_text app rtag = codes " " ++ (tag_text app ++ (codes " " ++ long_tag_text rtag))

abbrev pub seal_front : (n : ℕ) → (body tuples : List Seg) → List ℕ
seal_front n body tuples = codes "seal " ++ (decimal n ++ (codes " " ++ (segs_text body ++ tuples_text tuples)))

abbrev pub op_words : Op → List ℕ
op_words (Fill seg byte) = codes "fill " ++ (seg_text seg ++ (codes " " ++ encode_lower (byte ∷ [])))
op_words (Put page off bytes) = codes "put " ++ (decimal page ++ (codes ":" ++ (decimal off ++ (codes " " ++ encode_lower bytes))))
op_words (Show seg) = codes "show " ++ seg_text seg
op_words (Seal n body tuples app rtag) = seal_front n body tuples ++ tags_text app rtag
op_words (Write v n body app) = request_text (codes "write ") v n body ++ app_text app
op_words (Fetch v n body) = request_text (codes "read ") v n body
op_words (WritePi v n body tuples) = request_text (codes "writepi ") v n body ++ tuples_text tuples
op_words (FetchPi v n body tuples) = request_text (codes "readpi ") v n body ++ tuples_text tuples
op_words (Overwrite dev lba change) = codes "overwrite " ++ (decimal dev ++ (codes " " ++ (decimal lba ++ change_text change)))
op_words Wait = codes "wait"

abbrev pub op_text : Op → List ℕ
op_text op = op_words op ++ codes "\n"

abbrev pub ops_text : List Op → List ℕ
ops_text [] = []
ops_text (op ∷ ops) = op_text op ++ ops_text ops

-- the lines of a script in their order
abbrev pub script_printed : Script → List ℕ
script_printed s = front_text s ++ (entries_text s.entries ++ (faults_text s.faults ++ (schedule_text s.schedule ++ (codes "begin\n" ++ ops_text s.ops))))

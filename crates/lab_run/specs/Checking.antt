use Rattle.std.specs.Prelude.{ℕ, ◌≡◌, ◌+◌, ◌^◌, ◌%◌, ◌<◌, ◌≤◌, ◌⊎◌, Bool, true, not, eqb, leb, ltb, ◌&&◌, ◌||◌, if◌then◌else◌, List, ◌++◌, length, Option, Some, None, is_some, Result, Ok, Err}
use Rattle.dix_base.specs.Told.{Calm, IsAtEnd, Rose, Took}
use Rattle.call_refusal.specs.declared.refusal.Refusal.TheVariants as stop
use Rattle.call_verdict.specs.Verdicts.{Work, done_status}
use Rattle.call_verdict.specs.declared.status.Status.{Status}
use Rattle.call_verdict.specs.declared.status.Status.TheVariants as status
use Rattle.dump_check.specs.declared.walking.TheConstants.{MOST_BLOCKS}
use Rattle.dump_check.specs.declared.form.Dump.{Dump}
use Rattle.dump_check.specs.declared.form.Form.{Form}
use Rattle.dump_check.specs.declared.form.Form.TheVariants.{Narrow, Wide}
use Rattle.dump_check.specs.declared.walking.CheckFault.{CheckFault}
use Rattle.dump_check.specs.declared.walking.CheckFault.TheVariants as fault
use Rattle.dump_check.specs.declared.walking.Checked.{Checked}
use Rattle.dump_check.specs.Forms.{is_fit, stride_of}
use Rattle.dump_check.specs.Lines.{bad_text, check_text, rest_of, tally_of}
use Rattle.lab_run.specs.declared.check_words.CheckWords.{CheckWords}
use Rattle.lab_run.specs.declared.refusal.Refusal.{Refusal}
use Rattle.lab_run.specs.declared.refusal.Refusal.TheVariants as refusal
use Rattle.lab_run.specs.declared.showing.TheConstants.{ROOM}
use Rattle.lab_run.specs.Calls.{Facts}
use Rattle.lab_run.specs.Texts.{lab}

-- ---- what the words of `check` say

abbrev pub or_value : Option ℕ → ℕ → ℕ
or_value None other = other
or_value (Some n) other = n

-- the guard is checked by 2, the application tag by 4 where one is given, and by 8 the reference tag in type 1, and in type 2 where one is given
abbrev pub flags_of : CheckWords → ℕ
flags_of w = 2 + (if is_some w.app then 4 else 0) + (if eqb w.pi_type 1 || (eqb w.pi_type 2 && is_some w.tag) then 8 else 0)

-- type 3 has no reference tag, and there is no mask without an application tag
abbrev pub is_tag_fit : CheckWords → Bool
is_tag_fit w = not (eqb w.pi_type 3) || not (is_some w.tag)

abbrev pub is_app_fit : CheckWords → Bool
is_app_fit w = is_some w.app || not (is_some w.mask)

abbrev pub narrow_of : CheckWords → Option Form
narrow_of w = if is_some w.storage || ltb 0xFFFFFFFF (or_value w.tag (w.first % 2 ^ 32)) then None
    else Some (Narrow (record { data_size = w.size; meta_size = w.meta; tuple_at = w.at; pi_type = w.pi_type; guard = 0 })
    (record { first_ref = or_value w.tag (w.first % 2 ^ 32); app = or_value w.app 0; mask = or_value w.mask 0xFFFF; checks = flags_of w }))

-- sixteen bytes stand at the front of the metadata or at its end
abbrev pub end_in : CheckWords → Option ℕ
end_in w = if eqb w.at 0 then Some 0 else (if eqb (w.at + 16) w.meta then Some 1 else None)

abbrev pub storage_of : CheckWords → ℕ
storage_of w = or_value w.storage (if eqb w.guard 32 then 16 else 0)

abbrev pub wide_at : CheckWords → Option ℕ → Option Form
wide_at w None = None
wide_at w (Some end) = Some (Wide (record { data_size = w.size; meta_size = w.meta; at_end = end; guard = w.guard; pi_type = w.pi_type; storage = storage_of w })
    (record { first_ref = or_value w.tag w.first; storage = 0; storage_mask = 0; app = or_value w.app 0; mask = or_value w.mask 0xFFFF; checks = flags_of w }))

abbrev pub wide_of : CheckWords → Option Form
wide_of w = wide_at w (end_in w)

abbrev pub form_of : CheckWords → Option Form
form_of w = if eqb w.guard 16 then narrow_of w else wide_of w

abbrev pub is_ready : CheckWords → Form → Bool
is_ready w f = leb (stride_of f) ROOM && (ltb w.first (2 ^ 63) && is_fit f)

abbrev pub ready_dump : CheckWords → Option Form → Option Dump
ready_dump w None = None
ready_dump w (Some f) = if is_ready w f then Some (record { first = w.first; form = f }) else None

-- the dump that the words say, where they fit one another
abbrev pub dump_of : CheckWords → Option Dump
dump_of w = if is_tag_fit w && is_app_fit w then ready_dump w (form_of w) else None

-- it can be checked
pub record IsReady (d : Dump) : Type 0 where
  pub fit : is_fit d.form ≡ true
  pub small : stride_of d.form ≤ ROOM
  pub first : d.first < 2 ^ 63

-- ---- check FLAG VALUE ..: the bad blocks of the dump were told

abbrev pub whole_status : Checked → Status
whole_status c = if ltb 0 c.rest then status.Input else done_status (ltb 0 c.tally.bad)

abbrev pub checked_status : Result Checked CheckFault → Status
checked_status (Ok c) = whole_status c
checked_status (Err fault.Source) = status.ReadFault
checked_status (Err fault.Sink) = status.WriteFault
checked_status (Err fault.Endless) = status.Input

-- the status of a dump of these bytes
abbrev pub status_by : Dump → List ℕ → Status
status_by d bytes = if ltb 0 (rest_of d.form bytes) then status.Input else done_status (ltb 0 (tally_of d.form bytes).bad)

-- and of what came of it, if the sink doesn't fail
abbrev pub ended_status : Result Checked CheckFault → Dump → List ℕ → Status
ended_status (Ok c) d bytes = whole_status c
ended_status (Err fault.Source) d bytes = status.ReadFault
ended_status (Err fault.Sink) d bytes = status_by d bytes
ended_status (Err fault.Endless) d bytes = status.Input

-- what came of a dump
pub record CheckedDump : Type 0 where
  pub dump : Dump
  pub bytes : List ℕ
  pub ended : Result Checked CheckFault

-- What came of a dump came of these bytes of the source: it was checked to its end; or the source failed behind them; or, where the sink failed, they are all that the source held, and it may not have been read on; or they are too many blocks.
abbrev pub CameBy : Result Checked CheckFault → Dump → List ℕ → Facts → Type 0
CameBy (Ok c) d bytes f = Took bytes f.left f.left_after × IsAtEnd f.left_after × (c.tally ≡ tally_of d.form bytes) × (c.rest ≡ rest_of d.form bytes)
CameBy (Err fault.Source) d bytes f = Rose f.reads f.reads_after × ((more : List ℕ) × Took (bytes ++ more) f.left f.left_after)
CameBy (Err fault.Sink) d bytes f = (rest : Option (List ℕ)) × Took bytes f.left rest × IsAtEnd rest
CameBy (Err fault.Endless) d bytes f = Took bytes f.left f.left_after × (MOST_BLOCKS ≤ (tally_of d.form bytes).blocks)

abbrev pub WasChecked : CheckWords → CheckedDump → Facts → Type 0
WasChecked w x f = (dump_of w ≡ Some x.dump) × CameBy x.ended x.dump x.bytes f

-- the text: all of it, or the lines of the bad blocks alone
abbrev pub checked_text : Result Checked CheckFault → Dump → List ℕ → List ℕ
checked_text (Ok c) d bytes = check_text d bytes
checked_text (Err fault.Source) d bytes = bad_text d bytes
checked_text (Err fault.Sink) d bytes = check_text d bytes
checked_text (Err fault.Endless) d bytes = bad_text d bytes

-- Why no dump is checked.
abbrev pub CauseNotChecked : CheckWords → Refusal → Facts → Type 0
CauseNotChecked w refusal.Words f = dump_of w ≡ None
CauseNotChecked w (refusal.Stopped stop.Memory) f = (d : Dump) × (dump_of w ≡ Some d)
CauseNotChecked w _ f = ⊥

-- What it answers to a dump that is told, if the source doesn't fail: words that don't fit one another are refused; else the dump's status, or want of memory.
pub record AnswersChecked (w : CheckWords) (f : Facts) (s : Status) : Type 0 where
  pub words : dump_of w ≡ None → s ≡ status.Words
  pub dump : (d : Dump) (bytes : List ℕ) → dump_of w ≡ Some d → f.left ≡ Some bytes → length bytes < MOST_BLOCKS → Calm f.reads f.reads_after → (s ≡ status_by d bytes) ⊎ (s ≡ status.Memory)

-- its record
abbrev pub check_work : CheckWords → Work lab
check_work w = record {
  Yield = CheckedDump;
  WasDone = WasChecked w;
  status = λ x. ended_status x.ended x.dump x.bytes;
  text = λ x. checked_text x.ended x.dump x.bytes;
  WasRefused = CauseNotChecked w;
  Answers = AnswersChecked w;
}

-- what is printed is read back
use Rattle.std.proofs.Common.{ℕ, ◌≡◌, ◌⊎◌, inl, inr, ◌+◌, ◌≤◌, Bool, true, false, ltb, List, [], ◌∷◌, ◌++◌, length, map, Some, Result, Ok, Err, refl, sym, subst, ap, ◌∙◌, arith, append-nil}
use Rattle.std.specs.Prelude.{MatchResult, codes, if◌then◌else◌}
use Rattle.std.proofs.lemmas.Bool.Decides.{nat_tests}
use Rattle.fault_schedule.specs.declared.fault.FaultLine.{FaultLine}
use Rattle.script_text.specs.Passed.{Op}
use Rattle.script_words.specs.Cuts.{lines_of}
use Rattle.script_lines.specs.declared.kind.ScriptKind.TheVariants.{Memory, TooMany}
use Rattle.script_lines.specs.declared.verb.Verb.TheVariants.{Schedule as ScheduleVerb, Begin as BeginVerb}
use Rattle.script_lines.specs.declared.verb.ScriptVersion.{ScriptVersion}
use Rattle.script_lines.specs.declared.verb.Section.{Section}
use Rattle.script_lines.specs.declared.verb.Section.TheVariants.{Volume as AtVolume, Fault as AtFault, Schedule as AtSchedule, Begin as AtBegin, Op as AtOp}
use Rattle.std.specs.List.{list_any}
use Rattle.script_text.specs.Bindings.{is_third_line}
use Rattle.script_text.specs.Crossings.{crossed, raw_of}
use Rattle.script_text.specs.Drafts.{Drafted}
use Rattle.script_text.specs.declared.fault.ScriptFault.{ScriptFault}
use Rattle.script_text.specs.declared.script.Script.{Script}
use Rattle.script_text.specs.Language.{Answers, finished, is_behind, lines_read, nothing_read, script_in}
use Rattle.script_text.specs.Printed.{entries_text, faults_text, front_text, ops_text, schedule_text, script_printed}
use Rattle.script_laws.specs.Keeping.{Each, IsFault, Keeps, blocks_of}
use Rattle.script_laws.specs.RoundTrip.{IsSame, IsWithinLimits, ReadsAs}
use Rattle.script_laws.proofs.Front.{Fronted, front_stage, fronted}
use Rattle.script_laws.proofs.LastStages.{begin_stage, ends, ops_stage, schedule_stage}
use Rattle.script_laws.proofs.Stages.{entries_stage, faults_stage, numbered, placed, third_for}
use Rattle.script_laws.proofs.Steps.{Step, behind, from_text, joined}

crossed_back : (third : Bool) (size : ℕ) (ops : List Op) (fs : List FaultLine) → Each (IsFault third size ops) fs → map (crossed third ops) (map raw_of fs) ≡ fs
crossed_back third size ops [] h = refl
crossed_back third size ops (f ∷ fs) h =
    ap (λ at. record f { at = at } ∷ map (crossed third ops) (map raw_of fs)) (h.0).crossing ∙ ap (λ x. f ∷ x) (crossed_back third size ops fs h.1)

-- one of two places
either_place : {A : Type 0} (p q : Section) (xs : List A) → (r : Section) × (placed (Some p) xs q ≡ Some r)
either_place p q [] = (p, refl)
either_place p q (x ∷ xs) = (q, refl)

schedule_behind : {A : Type 0} (b : ScriptVersion) (xs : List A) → is_behind b ScheduleVerb (placed (Some AtVolume) xs AtFault) ≡ true
schedule_behind b [] = behind b ScheduleVerb AtVolume refl refl
schedule_behind b (x ∷ xs) = behind b ScheduleVerb AtFault refl refl

begin_behind : {A B : Type 0} (b : ScriptVersion) (xs : List A) (ys : List B) (r : Section) → placed (Some AtVolume) xs AtFault ≡ Some r → is_behind b BeginVerb (placed (Some r) ys AtSchedule) ≡ true
begin_behind b [] [] r e = ap (is_behind b BeginVerb) (sym e) ∙ behind b BeginVerb AtVolume refl refl
begin_behind b (x ∷ xs) [] r e = ap (is_behind b BeginVerb) (sym e) ∙ behind b BeginVerb AtFault refl refl
begin_behind b xs (y ∷ ys) r e = behind b BeginVerb AtSchedule refl refl

length-numbered : {A : Type 0} (n : ℕ) (xs : List A) → length (numbered n xs) ≡ length xs
length-numbered n [] = refl
length-numbered n (x ∷ xs) = let r = length-numbered (n + 1) xs in omega (arith, r)

lines_length : (a b : List ℕ) → length (a ++ b) ≡ length a + length b
lines_length [] b = omega arith
lines_length (x ∷ a) b = let r = lines_length a b in omega (arith, r)

small_block : (size : ℕ) → (size ≡ 512) ⊎ (size ≡ 4096) → (1 ≤ size) × (size ≤ 4096)
small_block size (inl e) = (omega (arith, e), omega (arith, e))
small_block size (inr e) = (omega (arith, e), omega (arith, e))

not_longer : (a b : ℕ) → a ≤ b → ltb b a ≡ false
not_longer a b h = grind (arith, nat_tests)

-- all that is read, with the lines of the faults and of the ops
record WholeRead (s : Script) : Type 0 where
  last : Drafted
  number : ℕ
  expect : ℕ
  fault_number : ℕ
  op_number : ℕ
  step : Step 1 (script_printed s) nothing_read number [] last
  place_is : last.section ≡ placed (Some AtBegin) s.ops AtOp
  is : finished last ≡ record s { expect_line = expect; faults = map (crossed (list_any is_third_line s.faults) s.ops) (map raw_of s.faults); lines = numbered fault_number s.faults ++ numbered op_number s.ops }

whole_read : (s : Script) → Keeps s → WholeRead s
whole_read s h =
    let size = small_block s.block h.block_is in
    let pages = h.pages_are.high_is in
    let text_ops : List ℕ = ops_text s.ops ++ [] in
    let text_begin : List ℕ = codes "begin\n" ++ text_ops in
    let text_schedule : List ℕ = schedule_text s.schedule ++ text_begin in
    let text_faults : List ℕ = faults_text s.faults ++ text_schedule in
    let text_entries : List ℕ = entries_text s.entries ++ text_faults in
    let front : Fronted s text_entries = front_stage s text_entries h.mode_is h.limits_are h.pages_are h.block_is in
    let d0 : Drafted = fronted s front.expect front.version front.section in
    let n1 : ℕ = front.number + length s.entries in
    let d1 : Drafted = record d0 { entries = s.entries; section = Some AtVolume } in
    let n2 : ℕ = n1 + length s.faults in
    let d2 : Drafted = record d1 { faults = map raw_of s.faults; fault_lines = numbered n1 s.faults; section = placed (Some AtVolume) s.faults AtFault } in
    let p2 = either_place AtVolume AtFault s.faults in
    let n3 : ℕ = n2 + length s.schedule in
    let d3 : Drafted = record d2 { schedule = s.schedule; section = placed (Some p2.0) s.schedule AtSchedule } in
    let p3 = either_place p2.0 AtSchedule s.schedule in
    let d4 : Drafted = record d3 { section = Some AtBegin } in
    let n5 : ℕ = (n3 + 1) + length s.ops in
    let d5 : Drafted = record d4 { ops = s.ops; blocks = blocks_of s.ops; op_lines = numbered (n3 + 1) s.ops; section = placed (Some AtBegin) s.ops AtOp } in
    let ops_end : script_printed s ≡ front_text s ++ text_entries =
    ap (λ x. front_text s ++ (entries_text s.entries ++ (faults_text s.faults ++ (schedule_text s.schedule ++ (codes "begin\n" ++ x))))) (sym (append-nil (ops_text s.ops))) in
    record {
      last = d5;
      number = n5;
      expect = front.expect;
      fault_number = n1;
      op_number = n3 + 1;
      step =
          from_text 1 (script_printed s) (front_text s ++ text_entries) nothing_read n5 [] d5 ops_end
          (joined 1 (front_text s ++ text_entries) nothing_read front.number text_entries d0 n5 [] d5 front.step
          (joined front.number text_entries d0 n1 text_faults d1 n5 [] d5 (entries_stage s.entries front.number text_faults d0 front.section h.entries_are h.entries_count refl refl front.volume)
          (joined n1 text_faults d1 n2 text_schedule d2 n5 [] d5 (faults_stage (list_any is_third_line s.faults) s.faults n1 s.ops text_schedule d1 size.1 h.faults_are refl refl refl h.faults_count (third_for s.faults front.version front.version_is))
          (joined n2 text_schedule d2 n3 text_begin d3 n5 [] d5 (schedule_stage s.schedule n2 text_begin d2 p2.0 h.choices_are p2.1 (schedule_behind front.version s.faults) refl h.choices_count)
          (joined n3 text_begin d3 (n3 + 1) text_ops d4 n5 [] d5 (begin_stage n3 text_ops d3 p3.0 p3.1 (begin_behind front.version s.faults s.schedule p2.0 p2.1))
          (ops_stage s.ops (n3 + 1) [] d4 pages size.0 size.1 h.ops_are refl refl refl refl h.ops_count h.blocks_count))))));
      place_is = refl;
      is = ap (λ t. record s { expect_line = front.expect; faults = map (crossed t s.ops) (map raw_of s.faults); lines = numbered n1 s.faults ++ numbered (n3 + 1) s.ops }) front.version_is;
    }

pub reads_back : (s : Script) → Keeps s → IsWithinLimits (script_printed s) → ReadsAs (script_printed s) s
reads_back s h w =
    let r = whole_read s h in
    let read = r.step w.lines in
    let lines : List ℕ = numbered r.fault_number s.faults ++ numbered r.op_number s.ops in
    let found : Script = record s { expect_line = r.expect; lines = lines } in
    let same : finished r.last ≡ found = r.is ∙ ap (λ fs. record s { expect_line = r.expect; faults = fs; lines = lines }) (crossed_back (list_any is_third_line s.faults) s.block s.ops s.faults h.faults_are) in
    let a = lines_length (numbered r.fault_number s.faults) (numbered r.op_number s.ops) in
    let b = length-numbered r.fault_number s.faults in
    let c = length-numbered r.op_number s.ops in
    record {
      found = found;
      reads =
          ap (λ t. if t then Err (record { line = 0; kind = TooMany }) else lines_read 1 (lines_of (script_printed s)) nothing_read) (not_longer (length (script_printed s)) 4194304 w.size)
          ∙ read.0 ∙ ends r.number r.last s.ops r.place_is ∙ ap Ok same;
      is_same = record { same = refl; numbers = omega (arith, a, b, c) };
    }

pub answered : (s : Script) (t text : List ℕ) (r : Result Script ScriptFault) → ReadsAs text s → t ≡ text → Answers (script_in t) r → MatchResult r (λ found. IsSame s found) (λ fault. fault.kind ≡ Memory)
answered s t text (Ok found) h e a =
    let both : Ok h.found ≡ Ok found = sym h.reads ∙ sym (ap script_in e) ∙ a in
    let same : h.found ≡ found = cc both in
    subst (IsSame s) same h.is_same
answered s t text (Err fault) h e (inl m) = m
answered s t text (Err fault) h e (inr a) = let never : Ok h.found ≡ Err fault = sym h.reads ∙ sym (ap script_in e) ∙ a in absurd (cc never)

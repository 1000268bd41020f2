-- the schedule, the beginning and the ops
use Rattle.std.proofs.Common.{ℕ, suc, ◌≡◌, ◌+◌, ◌<◌, ◌≤◌, ◌||◌, Bool, true, false, eqb, ltb, leb, List, [], ◌∷◌, ◌++◌, length, Option, Some, None, Ok, refl, sym, ap, ◌∙◌, arith, append_assoc, append-nil}
use Rattle.std.specs.Prelude.{codes, decimal, if◌then◌else◌}
use Rattle.std.proofs.lemmas.Bool.{le-ltb, lt-leb}
use Rattle.script_text.specs.Passed.{Op}
use Rattle.script_words.specs.Cuts.{lines_of}
use Rattle.script_lines.specs.declared.kind.ScriptKind.TheVariants.{TooMany, NoIntegrity}
use Rattle.script_lines.specs.declared.line.ScriptLine.TheVariants.{Schedule as ScheduleLine, Begin as BeginLine, Op as AnOp}
use Rattle.script_lines.specs.declared.line.OpLine.{OpLine}
use Rattle.script_lines.specs.declared.line.OpLine.TheVariants.{Fill, Put, Show, Seal, Write, Read, WritePi, ReadPi, Flip, Copy, Wait}
use Rattle.script_lines.specs.declared.verb.Verb.TheVariants.{Schedule as ScheduleVerb, Begin as BeginVerb, Fill as FillVerb, Put as PutVerb, Show as ShowVerb, Seal as SealVerb, Write as WriteVerb, Read as ReadVerb, WritePi as WritePiVerb, ReadPi as ReadPiVerb, Overwrite as OverwriteVerb, Wait as WaitVerb}
use Rattle.script_lines.specs.declared.verb.ScriptVersion.{ScriptVersion}
use Rattle.script_lines.specs.declared.verb.Section.{Section}
use Rattle.script_lines.specs.declared.verb.Section.TheVariants.{Schedule as AtSchedule, Begin as AtBegin, Op as AtOp}
use Rattle.script_lines.specs.Reading.{◌>>=◌}
use Rattle.script_lines.specs.Verbs.{comes_before, is_new, section_of}
use Rattle.script_text.specs.Drafts.{Drafted}
use Rattle.script_text.specs.Language.{at_end, end_fault, finished, is_behind, is_comment, lines_read, taken, with_op}
use Rattle.script_text.specs.Printed.{op_text, ops_text, schedule_line, schedule_text}
use Rattle.script_text.specs.Rules.{request_blocks}
use Rattle.script_laws.specs.Clean.{IsWord}
use Rattle.script_laws.specs.Keeping.{Each, IsChoice, IsOp, blocks_of}
use Rattle.script_laws.specs.Lines.{choice_text, line_of, op_word, op_words_behind}
use Rattle.script_laws.proofs.Clean.{decimal_word}
use Rattle.script_laws.proofs.Forms.{schedule_back}
use Rattle.script_laws.proofs.Lined.{choice_line, op_line}
use Rattle.script_laws.proofs.OpForms.{Readable, op_are_words, op_back, readable, verb_for, verb_is}
use Rattle.script_laws.proofs.Places.{pair_word}
use Rattle.script_laws.proofs.Stages.{length-snoc, next_number, numbered, placed}
use Rattle.script_laws.proofs.Steps.{Step, behind, from_text, joined, line_step, stay, to_draft, to_number, verb_step}
use Rattle.script_text.proofs.Passed.{together as add_assoc}

choice_word_by : (b : Bool) (e : ℕ × ℕ) → IsChoice e → IsWord (if b then decimal e.0 else decimal e.0 ++ (47 ∷ decimal e.1))
choice_word_by true e h = let f = h.0 in decimal_word e.0 (omega (arith, f))
choice_word_by false e h = let f = h.0 in let g = h.1 in pair_word e.0 e.1 47 (omega (arith, f)) (omega (arith, g)) refl

choice_step : (n : ℕ) (e : ℕ × ℕ) (rest : List ℕ) (d : Drafted) (section : Section) → IsChoice e → d.section ≡ Some section → is_behind d.version ScheduleVerb d.section ≡ true → length d.schedule < 16384
    → Step n (schedule_line e ++ rest) d (n + 1) rest (record d { schedule = d.schedule ++ (e ∷ []); section = Some AtSchedule })
unfolding taken
choice_step n e rest d section h p b few =
    from_text n _ _ d (n + 1) rest _ (choice_line e rest)
    (line_step n (codes "schedule" ∷ choice_text e ∷ []) rest d _ (record { clean_is = refl; filled_is = refl }, (choice_word_by (eqb e.1 0) e h, tt))
    (verb_step n (codes "schedule") (choice_text e ∷ []) d ScheduleVerb section (ScheduleLine (e ∷ [])) (record d { schedule = d.schedule ++ (e ∷ []) }) refl refl p b (schedule_back e h)
    (ap (λ b. if b then Some TooMany else None) (le-ltb 16384 (length d.schedule + 1) (omega (arith, few)))) refl))

more_choices : (es : List (ℕ × ℕ)) (n : ℕ) (rest : List ℕ) (d : Drafted) → Each IsChoice es → d.section ≡ Some AtSchedule → length d.schedule + length es ≤ 16384
    → Step n (schedule_text es ++ rest) d (n + length es) rest (record d { schedule = d.schedule ++ es; section = Some AtSchedule })
more_choices [] n rest d h p few =
    to_number n rest d n (n + 0) rest _ (omega arith)
    (to_draft n rest d n rest d _ (ap (λ q. record d { section = q }) p ∙ ap (λ x. record d { schedule = x; section = Some AtSchedule }) (sym (append-nil d.schedule))) (stay n rest d))
more_choices (e ∷ es) n rest d h p few =
    let next : Drafted = record d { schedule = d.schedule ++ (e ∷ []); section = Some AtSchedule } in
    let one = length-snoc d.schedule e in
    to_number n ((schedule_line e ++ schedule_text es) ++ rest) d ((n + 1) + length es) (n + suc (length es)) rest _ (next_number n (length es))
    (from_text n ((schedule_line e ++ schedule_text es) ++ rest) (schedule_line e ++ (schedule_text es ++ rest)) d ((n + 1) + length es) rest _ (append_assoc (schedule_line e) (schedule_text es) rest)
    (joined n (schedule_line e ++ (schedule_text es ++ rest)) d (n + 1) (schedule_text es ++ rest) next ((n + 1) + length es) rest _
    (choice_step n e (schedule_text es ++ rest) d AtSchedule h.0 p (ap (is_behind d.version ScheduleVerb) p ∙ behind d.version ScheduleVerb AtSchedule refl refl) (omega (arith, few)))
    (to_draft (n + 1) (schedule_text es ++ rest) next ((n + 1) + length es) rest _ _ (ap (λ x. record d { schedule = x; section = Some AtSchedule }) (append_assoc d.schedule (e ∷ []) es))
    (more_choices es (n + 1) rest next h.1 refl (omega (arith, few, one))))))

pub schedule_stage : (es : List (ℕ × ℕ)) (n : ℕ) (rest : List ℕ) (d : Drafted) (section : Section) → Each IsChoice es → d.section ≡ Some section → is_behind d.version ScheduleVerb d.section ≡ true → d.schedule ≡ [] → length es ≤ 16384
    → Step n (schedule_text es ++ rest) d (n + length es) rest (record d { schedule = es; section = placed (Some section) es AtSchedule })
schedule_stage [] n rest d section h p b z few =
    to_number n rest d n (n + 0) rest _ (omega arith) (to_draft n rest d n rest d _ (ap (λ q. record d { section = q }) p ∙ ap (λ x. record d { schedule = x; section = Some section }) z) (stay n rest d))
schedule_stage (e ∷ es) n rest d section h p b z few =
    let next : Drafted = record d { schedule = d.schedule ++ (e ∷ []); section = Some AtSchedule } in
    let none : length d.schedule ≡ 0 = ap length z in
    let one = length-snoc d.schedule e in
    to_number n ((schedule_line e ++ schedule_text es) ++ rest) d ((n + 1) + length es) (n + suc (length es)) rest _ (next_number n (length es))
    (from_text n ((schedule_line e ++ schedule_text es) ++ rest) (schedule_line e ++ (schedule_text es ++ rest)) d ((n + 1) + length es) rest _ (append_assoc (schedule_line e) (schedule_text es) rest)
    (joined n (schedule_line e ++ (schedule_text es ++ rest)) d (n + 1) (schedule_text es ++ rest) next ((n + 1) + length es) rest _
    (choice_step n e (schedule_text es ++ rest) d section h.0 p b (omega (arith, none)))
    (to_draft (n + 1) (schedule_text es ++ rest) next ((n + 1) + length es) rest _ _ (ap (λ x. record d { schedule = (x ++ (e ∷ [])) ++ es; section = Some AtSchedule }) z)
    (more_choices es (n + 1) rest next h.1 refl (omega (arith, few, one, none))))))

pub begin_stage : (n : ℕ) (rest : List ℕ) (d : Drafted) (section : Section) → d.section ≡ Some section → is_behind d.version BeginVerb d.section ≡ true → Step n (codes "begin\n" ++ rest) d (n + 1) rest (record d { section = Some AtBegin })
unfolding taken
begin_stage n rest d section p b =
    line_step n (codes "begin" ∷ []) rest d _ (record { clean_is = refl; filled_is = refl }, tt) (verb_step n (codes "begin") [] d BeginVerb section BeginLine d refl refl p b refl refl refl)

-- ops

no_comment : (line : OpLine) → is_comment (op_word line) ≡ false
no_comment (Fill seg byte) = refl
no_comment (Put page off bytes) = refl
no_comment (Show seg) = refl
no_comment (Seal n body tuples app rtag) = refl
no_comment (Write v n body app) = refl
no_comment (Read v n body) = refl
no_comment (WritePi v n body tuples) = refl
no_comment (ReadPi v n body tuples) = refl
no_comment (Flip dev lba off bytes) = refl
no_comment (Copy dev lba from_dev from_lba) = refl
no_comment Wait = refl

op_place : (line : OpLine) → Some (section_of (verb_for line)) ≡ Some AtOp
op_place (Fill seg byte) = refl
op_place (Put page off bytes) = refl
op_place (Show seg) = refl
op_place (Seal n body tuples app rtag) = refl
op_place (Write v n body app) = refl
op_place (Read v n body) = refl
op_place (WritePi v n body tuples) = refl
op_place (ReadPi v n body tuples) = refl
op_place (Flip dev lba off bytes) = refl
op_place (Copy dev lba from_dev from_lba) = refl
op_place Wait = refl

pub op_behind : (b : ScriptVersion) (line : OpLine) (section : Section) → comes_before section AtOp (is_new b) ≡ true → is_behind b (verb_for line) (Some section) ≡ true
op_behind b (Fill seg byte) section c = behind b FillVerb section refl c
op_behind b (Put page off bytes) section c = behind b PutVerb section refl c
op_behind b (Show seg) section c = behind b ShowVerb section refl c
op_behind b (Seal n body tuples app rtag) section c = behind b SealVerb section refl c
op_behind b (Write v n body app) section c = behind b WriteVerb section refl c
op_behind b (Read v n body) section c = behind b ReadVerb section refl c
op_behind b (WritePi v n body tuples) section c = behind b WritePiVerb section refl c
op_behind b (ReadPi v n body tuples) section c = behind b ReadPiVerb section refl c
op_behind b (Flip dev lba off bytes) section c = behind b OverwriteVerb section refl c
op_behind b (Copy dev lba from_dev from_lba) section c = behind b OverwriteVerb section refl c
op_behind b Wait section c = behind b WaitVerb section refl c

op_step : (n : ℕ) (op : Op) (rest : List ℕ) (d : Drafted) (section : Section) → d.pages ≤ 256 → 1 ≤ d.block → d.block ≤ 4096 → IsOp d.mode.dix d.pages d.block op → d.section ≡ Some section → comes_before section AtOp (is_new d.version) ≡ true
    → length d.ops < 1024 → d.blocks + request_blocks (line_of op) ≤ 16384
    → Step n (op_text op ++ rest) d (n + 1) rest (record d { ops = d.ops ++ (op ∷ []); blocks = d.blocks + request_blocks (line_of op); op_lines = d.op_lines ++ (n ∷ []); section = Some AtOp })
unfolding taken
op_step n op rest d section g l s h p c few most =
    let r : Readable d.block (line_of op) = readable d.pages d.block (line_of op) op g l h.rules h.ranges in
    let next : Drafted = record d { ops = d.ops ++ (op ∷ []); blocks = d.blocks + request_blocks (line_of op); op_lines = d.op_lines ++ (n ∷ []) } in
    from_text n (op_text op ++ rest) _ d (n + 1) rest _ (op_line op rest)
    (line_step n (op_word (line_of op) ∷ op_words_behind (line_of op)) rest d _ (op_are_words d.block (line_of op) s r)
    (verb_step n (op_word (line_of op)) (op_words_behind (line_of op)) d (verb_for (line_of op)) section (AnOp (line_of op)) next (no_comment (line_of op)) (verb_is (line_of op)) p
    (ap (is_behind d.version (verb_for (line_of op))) p ∙ op_behind d.version (line_of op) section c) (op_back d.block (line_of op) s r)
    (ap (λ b. if b then Some NoIntegrity else (if leb 1024 (length d.ops) || ltb 16384 (d.blocks + request_blocks (line_of op)) then Some TooMany else None)) h.integrity
    ∙ ap (λ b. if b || ltb 16384 (d.blocks + request_blocks (line_of op)) then Some TooMany else None) (lt-leb 1024 (length d.ops) few)
    ∙ ap (λ b. if b then Some TooMany else None) (le-ltb 16384 (d.blocks + request_blocks (line_of op)) most))
    (ap (λ x. x >>= with_op n (line_of op) d) h.rules)
    ∙ ap (λ q. Ok (record next { section = q })) (op_place (line_of op))))

no_more : (a : ℕ) → a ≡ a + 0
no_more a = omega arith

more_ops : (ops : List Op) (n : ℕ) (rest : List ℕ) (d : Drafted) → d.pages ≤ 256 → 1 ≤ d.block → d.block ≤ 4096 → Each (IsOp d.mode.dix d.pages d.block) ops → d.section ≡ Some AtOp → length d.ops + length ops ≤ 1024 → d.blocks + blocks_of ops ≤ 16384
    → Step n (ops_text ops ++ rest) d (n + length ops) rest (record d { ops = d.ops ++ ops; blocks = d.blocks + blocks_of ops; op_lines = d.op_lines ++ numbered n ops; section = Some AtOp })
more_ops [] n rest d g l s h p few most =
    to_number n rest d n (n + 0) rest _ (omega arith)
    (to_draft n rest d n rest d _
    (ap (λ q. record d { section = q }) p ∙ ap (λ x. record d { ops = x; section = Some AtOp }) (sym (append-nil d.ops)) ∙ ap (λ x. record d { ops = d.ops ++ []; blocks = x; section = Some AtOp }) (no_more d.blocks)
    ∙ ap (λ x. record d { ops = d.ops ++ []; blocks = d.blocks + 0; op_lines = x; section = Some AtOp }) (sym (append-nil d.op_lines)))
    (stay n rest d))
more_ops (op ∷ ops) n rest d g l s h p few most =
    let next : Drafted = record d { ops = d.ops ++ (op ∷ []); blocks = d.blocks + request_blocks (line_of op); op_lines = d.op_lines ++ (n ∷ []); section = Some AtOp } in
    let one = length-snoc d.ops op in
    to_number n ((op_text op ++ ops_text ops) ++ rest) d ((n + 1) + length ops) (n + suc (length ops)) rest _ (next_number n (length ops))
    (from_text n ((op_text op ++ ops_text ops) ++ rest) (op_text op ++ (ops_text ops ++ rest)) d ((n + 1) + length ops) rest _ (append_assoc (op_text op) (ops_text ops) rest)
    (joined n (op_text op ++ (ops_text ops ++ rest)) d (n + 1) (ops_text ops ++ rest) next ((n + 1) + length ops) rest _
    (op_step n op (ops_text ops ++ rest) d AtOp g l s h.0 p refl (omega (arith, few)) (omega (arith, most)))
    (to_draft (n + 1) (ops_text ops ++ rest) next ((n + 1) + length ops) rest _ _
    (ap (λ x. record d { ops = x; blocks = (d.blocks + request_blocks (line_of op)) + blocks_of ops; op_lines = (d.op_lines ++ (n ∷ [])) ++ numbered (n + 1) ops; section = Some AtOp }) (append_assoc d.ops (op ∷ []) ops)
    ∙ ap (λ x. record d { ops = d.ops ++ (op ∷ ops); blocks = x; op_lines = (d.op_lines ++ (n ∷ [])) ++ numbered (n + 1) ops; section = Some AtOp }) (add_assoc d.blocks (request_blocks (line_of op)) (blocks_of ops))
    ∙ ap (λ x. record d { ops = d.ops ++ (op ∷ ops); blocks = d.blocks + (request_blocks (line_of op) + blocks_of ops); op_lines = x; section = Some AtOp }) (append_assoc d.op_lines (n ∷ []) (numbered (n + 1) ops)))
    (more_ops ops (n + 1) rest next g l s h.1 refl (omega (arith, few, one)) (omega (arith, most))))))

pub ops_stage : (ops : List Op) (n : ℕ) (rest : List ℕ) (d : Drafted) → d.pages ≤ 256 → 1 ≤ d.block → d.block ≤ 4096 → Each (IsOp d.mode.dix d.pages d.block) ops → d.section ≡ Some AtBegin
    → d.ops ≡ [] → d.blocks ≡ 0 → d.op_lines ≡ [] → length ops ≤ 1024 → blocks_of ops ≤ 16384
    → Step n (ops_text ops ++ rest) d (n + length ops) rest (record d { ops = ops; blocks = blocks_of ops; op_lines = numbered n ops; section = placed (Some AtBegin) ops AtOp })
ops_stage [] n rest d g l s h p z y x few most =
    to_number n rest d n (n + 0) rest _ (omega arith)
    (to_draft n rest d n rest d _
    (ap (λ q. record d { section = q }) p ∙ ap (λ v. record d { ops = v; section = Some AtBegin }) z ∙ ap (λ v. record d { ops = []; blocks = v; section = Some AtBegin }) y ∙ ap (λ v. record d { ops = []; blocks = 0; op_lines = v; section = Some AtBegin }) x)
    (stay n rest d))
ops_stage (op ∷ ops) n rest d g l s h p z y x few most =
    let next : Drafted = record d { ops = d.ops ++ (op ∷ []); blocks = d.blocks + request_blocks (line_of op); op_lines = d.op_lines ++ (n ∷ []); section = Some AtOp } in
    let none : length d.ops ≡ 0 = ap length z in
    let one = length-snoc d.ops op in
    to_number n ((op_text op ++ ops_text ops) ++ rest) d ((n + 1) + length ops) (n + suc (length ops)) rest _ (next_number n (length ops))
    (from_text n ((op_text op ++ ops_text ops) ++ rest) (op_text op ++ (ops_text ops ++ rest)) d ((n + 1) + length ops) rest _ (append_assoc (op_text op) (ops_text ops) rest)
    (joined n (op_text op ++ (ops_text ops ++ rest)) d (n + 1) (ops_text ops ++ rest) next ((n + 1) + length ops) rest _
    (op_step n op (ops_text ops ++ rest) d AtBegin g l s h.0 p refl (omega (arith, none)) (omega (arith, most, y)))
    (to_draft (n + 1) (ops_text ops ++ rest) next ((n + 1) + length ops) rest _ _
    (ap (λ v. record d { ops = (v ++ (op ∷ [])) ++ ops; blocks = (d.blocks + request_blocks (line_of op)) + blocks_of ops; op_lines = (d.op_lines ++ (n ∷ [])) ++ numbered (n + 1) ops; section = Some AtOp }) z
    ∙ ap (λ v. record d { ops = op ∷ ops; blocks = v; op_lines = (d.op_lines ++ (n ∷ [])) ++ numbered (n + 1) ops; section = Some AtOp }) (let e : (d.blocks + request_blocks (line_of op)) + blocks_of ops ≡ request_blocks (line_of op) + blocks_of ops = omega (arith, y) in e)
    ∙ ap (λ v. record d { ops = op ∷ ops; blocks = request_blocks (line_of op) + blocks_of ops; op_lines = (v ++ (n ∷ [])) ++ numbered (n + 1) ops; section = Some AtOp }) x)
    (more_ops ops (n + 1) rest next g l s h.1 refl (omega (arith, few, one, none)) (omega (arith, most, y))))))

by_place : (section : Option Section) (n : ℕ) (d : Drafted) → end_fault section ≡ None → at_end n (end_fault section) d ≡ Ok (finished d)
by_place section n d h = ap (λ f. at_end n f d) h

-- a text that ends behind `begin` or an op is the script of its draft
pub ends : (n : ℕ) (d : Drafted) (ops : List Op) → d.section ≡ placed (Some AtBegin) ops AtOp → lines_read n (lines_of []) d ≡ Ok (finished d)
ends n d [] p = by_place d.section n d (ap end_fault p)
ends n d (op ∷ ops) p = by_place d.section n d (ap end_fault p)

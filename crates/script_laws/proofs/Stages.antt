-- the lines of a stage, one after another
use Rattle.std.proofs.Common.{ℕ, ℤ, pos, negsuc, zero, suc, ◌≡◌, ◌+◌, ◌<◌, ◌≤◌, ◌||◌, ◌&&◌, Bool, true, false, ltb, List, [], ◌∷◌, ◌++◌, length, map, Option, Some, None, refl, sym, subst, ap, ◌∙◌, arith, append_assoc, append-nil}
use Rattle.std.specs.Prelude.{codes, decimal, eqb, if◌then◌else◌}
use Rattle.std.specs.Fmt.{signed_decimal}
use Rattle.std.proofs.lemmas.Bool.Decides.{nat_tests}
use Rattle.std.proofs.lemmas.Bool.{eqb-false, eqb-true, le-ltb, lt-leb, or_left, or_right}
use Rattle.fault_schedule.specs.declared.fault.Crossing.{Crossing}
use Rattle.fault_schedule.specs.declared.fault.FaultKind.{FaultKind}
use Rattle.fault_schedule.specs.declared.fault.FaultKind.TheVariants.{Flip as FlipKind, Shift as ShiftKind, Keep as KeepKind, Fail as FailKind}
use Rattle.fault_schedule.specs.declared.fault.FaultLine.{FaultLine}
use Rattle.script_text.specs.Passed.{Op}
use Rattle.stripe_volume.specs.declared.legs.Leg.{Leg}
use Rattle.volume_table.specs.declared.entry.Entry.{Entry}
use Rattle.volume_table.specs.declared.entry.Entry.TheVariants.{Linear as LinearEntry, Stripe as StripeEntry}
use Rattle.script_lines.specs.declared.kind.ScriptKind.TheVariants.{TooMany, BadFault}
use Rattle.script_lines.specs.declared.line.ScriptLine.TheVariants.{Linear as LinearLine, Stripe as StripeLine, Flip as FlipLine, Shift as ShiftLine, Keep as KeepLine, Fail as FailLine}
use Rattle.script_lines.specs.declared.line.Spot.{Spot}
use Rattle.script_lines.specs.declared.line.Spot.TheVariants.{Host, Wire, Medium}
use Rattle.script_lines.specs.declared.verb.Verb.TheVariants.{Linear as LinearVerb, Stripe as StripeVerb, Fault as FaultVerb, Shift as ShiftVerb, Lose as LoseVerb, Tear as TearVerb, Fail as FailVerb}
use Rattle.script_lines.specs.declared.verb.ScriptVersion.{ScriptVersion}
use Rattle.script_lines.specs.declared.verb.ScriptVersion.TheVariants.{One, Two, Three}
use Rattle.script_lines.specs.declared.verb.Section.{Section}
use Rattle.script_lines.specs.declared.verb.Section.TheVariants.{Volume as AtVolume, Fault as AtFault}
use Rattle.std.specs.List.{list_any}
use Rattle.script_text.specs.Bindings.{is_at_medium, is_of_medium, is_shift, is_third_line}
use Rattle.script_text.specs.Drafts.{Drafted}
use Rattle.script_text.specs.Language.{is_behind, taken}
use Rattle.script_text.specs.Printed.{entries_text, entry_text, fault_text, faults_text, pair_text}
use Rattle.script_text.specs.Rules.{is_bad_flip, is_no_shift}
use Rattle.script_laws.specs.Clean.{AreWords, IsWord}
use Rattle.script_laws.specs.Keeping.{Each, IsEntry, IsFault, IsFlip, IsKind, IsLeg, IsShift, IsShiftSpot, IsWithin}
use Rattle.script_text.specs.Crossings.{is_third, raw_of, spot_of}
use Rattle.script_laws.specs.Lines.{fault_words, leg_words, linear_words, block_words, shift_words, spot_word, stripe_words, tear_words}
use Rattle.script_laws.proofs.Clean.{decimal_word}
use Rattle.script_laws.proofs.Forms.{fault_back, linear_back, lose_back, fail_back, shift_back, some_byte, stripe_back, tear_back}
use Rattle.script_laws.proofs.Lined.{fault_line, linear_line, lose_line, fail_line, shift_line, stripe_line, tear_line}
use Rattle.script_laws.proofs.Places.{pair_word}
use Rattle.script_laws.proofs.Steps.{Step, behind, from_text, joined, line_step, stay, to_draft, to_number, verb_step}
use Rattle.script_laws.proofs.Words.{hex_word, minus_word}
use Rattle.script_laws.proofs.Front.{within_word}
use Rattle.script_laws.proofs.OpForms.{number32 as word32}

-- entries

legs_words : (legs : List Leg) → Each IsLeg legs → AreWords (leg_words legs)
legs_words [] h = tt
legs_words (l ∷ legs) h = (pair_word l.dev l.at 58 (let d = (h.0).dev_fits in omega (arith, d)) (h.0).at_fits refl, legs_words legs h.1)

entry_step_linear : (n : ℕ) (e : _) (rest : List ℕ) (d : Drafted) (section : Section) → IsEntry (LinearEntry e) → d.section ≡ Some section → is_behind d.version LinearVerb d.section ≡ true → length d.entries < 16
    → Step n (entry_text (LinearEntry e) ++ rest) d (n + 1) rest (record d { entries = d.entries ++ (LinearEntry e ∷ []); section = Some AtVolume })
unfolding taken
entry_step_linear n e rest d section h p b few =
    from_text n (entry_text (LinearEntry e) ++ rest) _ d (n + 1) rest _ (linear_line e rest)
    (line_step n (codes "linear" ∷ linear_words e) rest d _
    (record { clean_is = refl; filled_is = refl }, (decimal_word e.start h.0, (within_word 1 1048576 e.len (omega arith) h.1, (record { clean_is = refl; filled_is = refl }, (word32 e.dev h.2, (record { clean_is = refl; filled_is = refl }, (decimal_word e.at h.3, tt)))))))
    (verb_step n (codes "linear") (linear_words e) d LinearVerb section (LinearLine e) (record d { entries = d.entries ++ (LinearEntry e ∷ []) }) refl refl p b (linear_back e h.0 h.1 h.2 h.3)
    (ap (λ b. if b then Some TooMany else None) (lt-leb 16 (length d.entries) few)) refl))

entry_step_stripe : (n : ℕ) (s : _) (rest : List ℕ) (d : Drafted) (section : Section) → IsEntry (StripeEntry s) → d.section ≡ Some section → is_behind d.version StripeVerb d.section ≡ true → length d.entries < 16
    → Step n (entry_text (StripeEntry s) ++ rest) d (n + 1) rest (record d { entries = d.entries ++ (StripeEntry s ∷ []); section = Some AtVolume })
unfolding taken
entry_step_stripe n s rest d section h p b few =
    let legs = h.3 in
    let most = legs.count.high_is in
    from_text n (entry_text (StripeEntry s) ++ rest) _ d (n + 1) rest _ (stripe_line s rest)
    (line_step n (codes "stripe" ∷ stripe_words s) rest d _
    (record { clean_is = refl; filled_is = refl }, (decimal_word s.start h.0, (within_word 1 1048576 s.len (omega arith) h.1, (record { clean_is = refl; filled_is = refl }, (within_word 1 65536 s.chunk (omega arith) h.2, (record { clean_is = refl; filled_is = refl }, legs_words s.legs legs.each))))))
    (verb_step n (codes "stripe") (stripe_words s) d StripeVerb section (StripeLine s.start s.len s.chunk s.legs) (record d { entries = d.entries ++ (StripeEntry s ∷ []) }) refl refl p b (stripe_back s h.0 h.1 h.2 legs)
    (ap (λ b. if b || ltb 8 (length s.legs) then Some TooMany else None) (lt-leb 16 (length d.entries) few) ∙ ap (λ b. if b then Some TooMany else None) (le-ltb 8 (length s.legs) most)) refl))

entry_step : (n : ℕ) (e : Entry) (rest : List ℕ) (d : Drafted) (section : Section) → IsEntry e → d.section ≡ Some section → is_behind d.version LinearVerb d.section ≡ true → length d.entries < 16
    → Step n (entry_text e ++ rest) d (n + 1) rest (record d { entries = d.entries ++ (e ∷ []); section = Some AtVolume })
entry_step n (LinearEntry e) rest d section h p b few = entry_step_linear n e rest d section h p b few
entry_step n (StripeEntry s) rest d section h p b few = entry_step_stripe n s rest d section h p b few

volume_again : (b : ScriptVersion) → is_behind b LinearVerb (Some AtVolume) ≡ true
volume_again b = behind b LinearVerb AtVolume refl refl

pub next_number : (n k : ℕ) → (n + 1) + k ≡ n + suc k
next_number n k = omega arith

more_entries : (es : List Entry) (n : ℕ) (rest : List ℕ) (d : Drafted) → Each IsEntry es → d.section ≡ Some AtVolume → length d.entries + length es ≤ 16
    → Step n (entries_text es ++ rest) d (n + length es) rest (record d { entries = d.entries ++ es; section = Some AtVolume })
more_entries [] n rest d h p few =
    to_number n rest d n (n + 0) rest _ (omega arith)
    (to_draft n rest d n rest d _ (ap (λ q. record d { section = q }) p ∙ ap (λ x. record d { entries = x; section = Some AtVolume }) (sym (append-nil d.entries))) (stay n rest d))
more_entries (e ∷ es) n rest d h p few =
    let next : Drafted = record d { entries = d.entries ++ (e ∷ []); section = Some AtVolume } in
    let one = length-snoc d.entries e in
    to_number n ((entry_text e ++ entries_text es) ++ rest) d ((n + 1) + length es) (n + suc (length es)) rest _ (next_number n (length es))
    (from_text n ((entry_text e ++ entries_text es) ++ rest) (entry_text e ++ (entries_text es ++ rest)) d ((n + 1) + length es) rest _ (append_assoc (entry_text e) (entries_text es) rest)
    (joined n (entry_text e ++ (entries_text es ++ rest)) d (n + 1) (entries_text es ++ rest) next ((n + 1) + length es) rest _
    (entry_step n e (entries_text es ++ rest) d AtVolume h.0 p (ap (is_behind d.version LinearVerb) p ∙ volume_again d.version) (omega (arith, few)))
    (to_draft (n + 1) (entries_text es ++ rest) next ((n + 1) + length es) rest _ _ (ap (λ x. record d { entries = x; section = Some AtVolume }) (append_assoc d.entries (e ∷ []) es))
    (more_entries es (n + 1) rest next h.1 refl (omega (arith, few, one))))))
  where
    length-snoc : (xs : List Entry) (x : Entry) → length (xs ++ (x ∷ [])) ≡ length xs + 1
    length-snoc [] x = omega arith
    length-snoc (y ∷ xs) x = let r = length-snoc xs x in omega (arith, r)

-- the entries of a volume, at least one
pub entries_stage : (es : List Entry) (n : ℕ) (rest : List ℕ) (d : Drafted) (section : Section) → Each IsEntry es → IsWithin 1 16 (length es) → d.entries ≡ [] → d.section ≡ Some section → is_behind d.version LinearVerb d.section ≡ true
    → Step n (entries_text es ++ rest) d (n + length es) rest (record d { entries = es; section = Some AtVolume })
entries_stage [] n rest d section h c z p b = let l = c.low_is in absurd (omega (arith, l))
entries_stage (e ∷ es) n rest d section h c z p b =
    let m = c.high_is in
    let none : length d.entries ≡ 0 = ap length z in
    let next : Drafted = record d { entries = d.entries ++ (e ∷ []); section = Some AtVolume } in
    let here : d.entries ++ (e ∷ []) ≡ e ∷ [] = ap (λ x. x ++ (e ∷ [])) z in
    let one : length (d.entries ++ (e ∷ [])) ≡ 1 = ap length here in
    to_number n ((entry_text e ++ entries_text es) ++ rest) d ((n + 1) + length es) (n + suc (length es)) rest _ (next_number n (length es))
    (from_text n ((entry_text e ++ entries_text es) ++ rest) (entry_text e ++ (entries_text es ++ rest)) d ((n + 1) + length es) rest _ (append_assoc (entry_text e) (entries_text es) rest)
    (joined n (entry_text e ++ (entries_text es ++ rest)) d (n + 1) (entries_text es ++ rest) next ((n + 1) + length es) rest _
    (entry_step n e (entries_text es ++ rest) d section h.0 p b (omega (arith, none)))
    (to_draft (n + 1) (entries_text es ++ rest) next ((n + 1) + length es) rest _ _ (ap (λ x. record d { entries = x ++ es; section = Some AtVolume }) here)
    (more_entries es (n + 1) rest next h.1 refl (omega (arith, m, one))))))

-- what a stage leaves

abbrev pub numbered : {A : Type 0} → ℕ → List A → List ℕ
numbered n [] = []
numbered n (x ∷ xs) = n ∷ numbered (n + 1) xs

abbrev pub placed : {A : Type 0} → Option Section → List A → Section → Option Section
placed p [] q = p
placed p (x ∷ xs) q = Some q

pub length-snoc : {A : Type 0} (xs : List A) (x : A) → length (xs ++ (x ∷ [])) ≡ length xs + 1
length-snoc [] x = omega arith
length-snoc (y ∷ xs) x = let r = length-snoc xs x in omega (arith, r)

-- faults

spot_is_word : (spot : Spot) → IsWord (spot_word spot)
spot_is_word Host = record { clean_is = refl; filled_is = refl }
spot_is_word Wire = record { clean_is = refl; filled_is = refl }
spot_is_word Medium = record { clean_is = refl; filled_is = refl }

flip_step : (n op k : ℕ) (at : Crossing) (off : ℕ) (bytes rest : List ℕ) (d : Drafted) (section : Section) → d.block ≤ 4096 → IsWithin 1 1024 op → k ≤ 2047 → IsFlip d.block off bytes
    → d.section ≡ Some section → is_behind d.version FaultVerb d.section ≡ true → length d.faults < 256
    → Step n (fault_text (record { op = op; k = k; at = at; kind = FlipKind off bytes }) ++ rest) d (n + 1) rest
    (record d { faults = d.faults ++ (raw_of (record { op = op; k = k; at = at; kind = FlipKind off bytes }) ∷ []); fault_lines = d.fault_lines ++ (n ∷ []); section = Some AtFault })
unfolding taken
flip_step n op k at off bytes rest d section s o l h p b few =
    let f : off ≤ d.block + 7 = h.off_fits in
    from_text n _ _ d (n + 1) rest _ (fault_line op k at off bytes rest)
    (line_step n (codes "fault" ∷ fault_words op k (spot_of at) off bytes) rest d _
    (record { clean_is = refl; filled_is = refl }, (within_word 1 1024 op (omega arith) o, (decimal_word k (omega (arith, l)), (spot_is_word (spot_of at), (record { clean_is = refl; filled_is = refl }, (decimal_word off (omega (arith, f, s)), (hex_word bytes h.are_bytes (some_byte d.block off bytes h), tt)))))))
    (verb_step n (codes "fault") (fault_words op k (spot_of at) off bytes) d FaultVerb section (FlipLine op k (spot_of at) off bytes)
    (record d { faults = d.faults ++ (raw_of (record { op = op; k = k; at = at; kind = FlipKind off bytes }) ∷ []); fault_lines = d.fault_lines ++ (n ∷ []) }) refl refl p b (fault_back d.block op k (spot_of at) off bytes s o l h)
    (ap (λ b. if b then Some TooMany else (if is_bad_flip d.block off bytes then Some BadFault else None)) (lt-leb 256 (length d.faults) few) ∙ ap (λ b. if b then Some BadFault else None) h.good) refl))

signed_word : (by : ℤ) → IsShift by → IsWord (signed_decimal by)
signed_word (pos n) h = let m = h.high_is in decimal_word n (omega (arith, m))
signed_word (negsuc n) h = minus_word n (omega (arith, h))

some_shift : (by : ℤ) → IsShift by → is_no_shift by ≡ false
some_shift (pos zero) h = let l = h.low_is in absurd (omega (arith, l))
some_shift (pos (suc n)) h = grind (arith, nat_tests)
some_shift (negsuc n) h = refl

shift_step : (n op : ℕ) (at : Crossing) (by : ℤ) (rest : List ℕ) (d : Drafted) (section : Section) → IsWithin 1 1024 op → IsShiftSpot (spot_of at) → IsShift by
    → d.section ≡ Some section → is_behind d.version FaultVerb d.section ≡ true → length d.faults < 256
    → Step n (fault_text (record { op = op; k = 0; at = at; kind = ShiftKind by }) ++ rest) d (n + 1) rest
    (record d { faults = d.faults ++ (raw_of (record { op = op; k = 0; at = at; kind = ShiftKind by }) ∷ []); fault_lines = d.fault_lines ++ (n ∷ []); section = Some AtFault })
unfolding taken
shift_step n op at by rest d section o w h p b few =
    from_text n _ _ d (n + 1) rest _ (shift_line op 0 at by rest)
    (line_step n (codes "shift" ∷ shift_words op (spot_of at) by) rest d _
    (record { clean_is = refl; filled_is = refl }, (within_word 1 1024 op (omega arith) o, (spot_is_word (spot_of at), (signed_word by h, tt))))
    (verb_step n (codes "shift") (shift_words op (spot_of at) by) d ShiftVerb section (ShiftLine op (spot_of at) by)
    (record d { faults = d.faults ++ (raw_of (record { op = op; k = 0; at = at; kind = ShiftKind by }) ∷ []); fault_lines = d.fault_lines ++ (n ∷ []) }) refl refl p b (shift_back op (spot_of at) by o w h)
    (ap (λ b. if b then Some TooMany else (if is_no_shift by then Some BadFault else None)) (lt-leb 256 (length d.faults) few) ∙ ap (λ b. if b then Some BadFault else None) (some_shift by h)) refl))

-- a line that version 3 brought stands where a fault does
third_behind : (version : ScriptVersion) (section : Option Section) → version ≡ Three → is_behind version FaultVerb section ≡ true → (is_behind version LoseVerb section ≡ true) × (is_behind version TearVerb section ≡ true) × (is_behind version FailVerb section ≡ true)
third_behind version None e b = absurd (cc)
third_behind version (Some section) e b =
    let three = subst (λ v. is_behind v FaultVerb (Some section) ≡ true) e b in
    (subst (λ v. is_behind v LoseVerb (Some section) ≡ true) (sym e) three, subst (λ v. is_behind v TearVerb (Some section) ≡ true) (sym e) three, subst (λ v. is_behind v FailVerb (Some section) ≡ true) (sym e) three)

-- what is read with a line that keeps so many bytes
abbrev kept_draft : (n op k bytes : ℕ) → Spot → Drafted → Drafted
kept_draft n op k bytes spot d = record d { faults = d.faults ++ (record { op = op; k = k; spot = spot; kind = KeepKind bytes } ∷ []); fault_lines = d.fault_lines ++ (n ∷ []); section = Some AtFault }

lose_step : (n op k : ℕ) (rest : List ℕ) (d : Drafted) (section : Section) → IsWithin 1 1024 op → k ≤ 2047
    → d.section ≡ Some section → is_behind d.version LoseVerb d.section ≡ true → length d.faults < 256
    → Step n ((codes "lose " ++ (pair_text op (codes " ") k ++ codes "\n")) ++ rest) d (n + 1) rest (kept_draft n op k 0 Medium d)
unfolding taken
lose_step n op k rest d section o l p b few =
    from_text n _ _ d (n + 1) rest _ (lose_line op k rest)
    (line_step n (codes "lose" ∷ block_words op k) rest d _
    (record { clean_is = refl; filled_is = refl }, (within_word 1 1024 op (omega arith) o, (decimal_word k (omega (arith, l)), tt)))
    (verb_step n (codes "lose") (block_words op k) d LoseVerb section (KeepLine op k 0)
    (record d { faults = d.faults ++ (record { op = op; k = k; spot = Medium; kind = KeepKind 0 } ∷ []); fault_lines = d.fault_lines ++ (n ∷ []) }) refl refl p b (lose_back op k o l)
    (ap (λ b. if b then Some TooMany else None) (lt-leb 256 (length d.faults) few)) refl))

tear_step : (n op k bytes : ℕ) (rest : List ℕ) (d : Drafted) (section : Section) → d.block ≤ 4096 → IsWithin 1 1024 op → k ≤ 2047 → 1 ≤ bytes → bytes ≤ d.block + 7
    → d.section ≡ Some section → is_behind d.version TearVerb d.section ≡ true → length d.faults < 256
    → Step n ((codes "tear " ++ (pair_text op (codes " ") k ++ (codes " " ++ (decimal bytes ++ codes "\n")))) ++ rest) d (n + 1) rest (kept_draft n op k bytes Medium d)
unfolding taken
tear_step n op k bytes rest d section s o l some most p b few =
    from_text n _ _ d (n + 1) rest _ (tear_line op k bytes rest)
    (line_step n (codes "tear" ∷ tear_words op k bytes) rest d _
    (record { clean_is = refl; filled_is = refl }, (within_word 1 1024 op (omega arith) o, (decimal_word k (omega (arith, l)), (decimal_word bytes (omega (arith, most, s)), tt))))
    (verb_step n (codes "tear") (tear_words op k bytes) d TearVerb section (KeepLine op k bytes)
    (record d { faults = d.faults ++ (record { op = op; k = k; spot = Medium; kind = KeepKind bytes } ∷ []); fault_lines = d.fault_lines ++ (n ∷ []) }) refl refl p b (tear_back d.block op k bytes s o l some most)
    (ap (λ b. if b then Some TooMany else None) (lt-leb 256 (length d.faults) few)) refl))

-- what is read with a line that fails a block
abbrev failed_draft : (n op k : ℕ) → Spot → Drafted → Drafted
failed_draft n op k spot d = record d { faults = d.faults ++ (record { op = op; k = k; spot = spot; kind = FailKind } ∷ []); fault_lines = d.fault_lines ++ (n ∷ []); section = Some AtFault }

fail_step : (n op k : ℕ) (rest : List ℕ) (d : Drafted) (section : Section) → IsWithin 1 1024 op → k ≤ 2047
    → d.section ≡ Some section → is_behind d.version FailVerb d.section ≡ true → length d.faults < 256
    → Step n ((codes "fail " ++ (pair_text op (codes " ") k ++ codes "\n")) ++ rest) d (n + 1) rest (failed_draft n op k Medium d)
unfolding taken
fail_step n op k rest d section o l p b few =
    from_text n _ _ d (n + 1) rest _ (fail_line op k rest)
    (line_step n (codes "fail" ∷ block_words op k) rest d _
    (record { clean_is = refl; filled_is = refl }, (within_word 1 1024 op (omega arith) o, (decimal_word k (omega (arith, l)), tt)))
    (verb_step n (codes "fail") (block_words op k) d FailVerb section (FailLine op k)
    (record d { faults = d.faults ++ (record { op = op; k = k; spot = Medium; kind = FailKind } ∷ []); fault_lines = d.fault_lines ++ (n ∷ []) }) refl refl p b (fail_back op k o l)
    (ap (λ b. if b then Some TooMany else None) (lt-leb 256 (length d.faults) few)) refl))

keep_by : (none : Bool) (n op k bytes : ℕ) (rest : List ℕ) (d : Drafted) (section : Section) → eqb bytes 0 ≡ none → d.block ≤ 4096 → IsWithin 1 1024 op → k ≤ 2047 → bytes ≤ d.block + 7
    → d.section ≡ Some section → is_behind d.version LoseVerb d.section ≡ true → is_behind d.version TearVerb d.section ≡ true → length d.faults < 256
    → Step n ((if none then codes "lose " ++ (pair_text op (codes " ") k ++ codes "\n") else codes "tear " ++ (pair_text op (codes " ") k ++ (codes " " ++ (decimal bytes ++ codes "\n")))) ++ rest) d (n + 1) rest
    (kept_draft n op k bytes Medium d)
keep_by true n op k bytes rest d section e s o l most p lose tear few =
    to_draft n ((codes "lose " ++ (pair_text op (codes " ") k ++ codes "\n")) ++ rest) d (n + 1) rest _ _ (ap (λ x. kept_draft n op k x Medium d) (sym (eqb-true bytes 0 e))) (lose_step n op k rest d section o l p lose few)
keep_by false n op k bytes rest d section e s o l most p lose tear few =
    let other = eqb-false bytes 0 e in
    tear_step n op k bytes rest d section s o l (some bytes other) most p tear few
  where
    some : (m : ℕ) → (m ≡ 0 → ⊥) → 1 ≤ m
    some zero f = absurd (f refl)
    some (suc m) f = omega arith

fault_by_kind : (kind : FaultKind) (n op k : ℕ) (at : Crossing) (rest : List ℕ) (d : Drafted) (section : Section) → d.block ≤ 4096 → IsWithin 1 1024 op → k ≤ 2047 → IsKind d.block (record { op = op; k = k; at = at; kind = kind }) kind
    → (is_of_medium kind ≡ true → d.version ≡ Three) → d.section ≡ Some section → is_behind d.version FaultVerb d.section ≡ true → length d.faults < 256
    → Step n (fault_text (record { op = op; k = k; at = at; kind = kind }) ++ rest) d (n + 1) rest
    (record d { faults = d.faults ++ (raw_of (record { op = op; k = k; at = at; kind = kind }) ∷ []); fault_lines = d.fault_lines ++ (n ∷ []); section = Some AtFault })
fault_by_kind (FlipKind off bytes) n op k at rest d section s o l h v p b few = flip_step n op k at off bytes rest d section s o l h p b few
fault_by_kind (ShiftKind by) n op k at rest d section s o l h v p b few =
    subst
    (λ (x : ℕ). Step n (fault_text (record { op = op; k = x; at = at; kind = ShiftKind by }) ++ rest) d (n + 1) rest
    (record d { faults = d.faults ++ (raw_of (record { op = op; k = x; at = at; kind = ShiftKind by }) ∷ []); fault_lines = d.fault_lines ++ (n ∷ []); section = Some AtFault }))
    (sym h.0) (shift_step n op at by rest d section o h.1 h.2 p b few)
fault_by_kind (KeepKind bytes) n op k at rest d section s o l h v p b few =
    let third = third_behind d.version d.section (v refl) b in
    to_draft n (fault_text (record { op = op; k = k; at = at; kind = KeepKind bytes }) ++ rest) d (n + 1) rest _ _ (ap (λ spot. kept_draft n op k bytes spot d) (sym h.0)) (keep_by (eqb bytes 0) n op k bytes rest d section refl s o l h.1 p third.0 third.1 few)
fault_by_kind FailKind n op k at rest d section s o l h v p b few =
    let third = third_behind d.version d.section (v refl) b in
    to_draft n (fault_text (record { op = op; k = k; at = at; kind = FailKind }) ++ rest) d (n + 1) rest _ _ (ap (λ spot. failed_draft n op k spot d) (sym h)) (fail_step n op k rest d section o l p third.2 few)

fault_step : (third : Bool) (n : ℕ) (ops : List Op) (f : FaultLine) (rest : List ℕ) (d : Drafted) (section : Section) → d.block ≤ 4096 → IsFault third d.block ops f
    → (is_of_medium f.kind ≡ true → d.version ≡ Three) → d.section ≡ Some section → is_behind d.version FaultVerb d.section ≡ true → length d.faults < 256
    → Step n (fault_text f ++ rest) d (n + 1) rest (record d { faults = d.faults ++ (raw_of f ∷ []); fault_lines = d.fault_lines ++ (n ∷ []); section = Some AtFault })
fault_step third n ops f rest d section s h v p b few = fault_by_kind f.kind n f.op f.k f.at rest d section s h.op_is h.k_is h.kind_is v p b few

-- Lines that only version 3 can say are in a script of that version.
abbrev pub IsThirdFor : List FaultLine → ScriptVersion → Type 0
IsThirdFor fs version = list_any is_third_line fs ≡ true → version ≡ Three

is_three : (version : ScriptVersion) → is_third version ≡ true → version ≡ Three
is_three One e = absurd (cc)
is_three Two e = absurd (cc)
is_three Three e = refl

pub third_for : (fs : List FaultLine) (version : ScriptVersion) → is_third version ≡ list_any is_third_line fs → IsThirdFor fs version
third_for fs version e any = is_three version (e ∙ any)

fault_again : (b : ScriptVersion) → is_behind b FaultVerb (Some AtFault) ≡ true
fault_again b = behind b FaultVerb AtFault refl refl

more_faults : (third : Bool) (fs : List FaultLine) (n : ℕ) (ops : List Op) (rest : List ℕ) (d : Drafted) → d.block ≤ 4096 → Each (IsFault third d.block ops) fs → d.section ≡ Some AtFault → length d.faults + length fs ≤ 256 → IsThirdFor fs d.version
    → Step n (faults_text fs ++ rest) d (n + length fs) rest (record d { faults = d.faults ++ map raw_of fs; fault_lines = d.fault_lines ++ numbered n fs; section = Some AtFault })
more_faults third [] n ops rest d s h p few v =
    to_number n rest d n (n + 0) rest _ (omega arith)
    (to_draft n rest d n rest d _
    (ap (λ q. record d { section = q }) p ∙ ap (λ x. record d { faults = x; section = Some AtFault }) (sym (append-nil d.faults))
    ∙ ap (λ x. record d { faults = d.faults ++ []; fault_lines = x; section = Some AtFault }) (sym (append-nil d.fault_lines)))
    (stay n rest d))
more_faults third (f ∷ fs) n ops rest d s h p few v =
    let next : Drafted = record d { faults = d.faults ++ (raw_of f ∷ []); fault_lines = d.fault_lines ++ (n ∷ []); section = Some AtFault } in
    let one = length-snoc d.faults (raw_of f) in
    to_number n ((fault_text f ++ faults_text fs) ++ rest) d ((n + 1) + length fs) (n + suc (length fs)) rest _ (next_number n (length fs))
    (from_text n ((fault_text f ++ faults_text fs) ++ rest) (fault_text f ++ (faults_text fs ++ rest)) d ((n + 1) + length fs) rest _ (append_assoc (fault_text f) (faults_text fs) rest)
    (joined n (fault_text f ++ (faults_text fs ++ rest)) d (n + 1) (faults_text fs ++ rest) next ((n + 1) + length fs) rest _
    (fault_step third n ops f (faults_text fs ++ rest) d AtFault s h.0 (λ e. v (or_left (is_third_line f) (list_any is_third_line fs) (or_left (is_of_medium f.kind) (is_shift f.kind && is_at_medium f.at) e))) p (ap (is_behind d.version FaultVerb) p ∙ fault_again d.version) (omega (arith, few)))
    (to_draft (n + 1) (faults_text fs ++ rest) next ((n + 1) + length fs) rest _ _
    (ap (λ x. record d { faults = x; fault_lines = (d.fault_lines ++ (n ∷ [])) ++ numbered (n + 1) fs; section = Some AtFault }) (append_assoc d.faults (raw_of f ∷ []) (map raw_of fs))
    ∙ ap (λ x. record d { faults = d.faults ++ (raw_of f ∷ map raw_of fs); fault_lines = x; section = Some AtFault }) (append_assoc d.fault_lines (n ∷ []) (numbered (n + 1) fs)))
    (more_faults third fs (n + 1) ops rest next s h.1 refl (omega (arith, few, one)) (λ e. v (or_right (is_third_line f) (list_any is_third_line fs) e))))))

-- any number of faults behind a volume
pub faults_stage : (third : Bool) (fs : List FaultLine) (n : ℕ) (ops : List Op) (rest : List ℕ) (d : Drafted) → d.block ≤ 4096 → Each (IsFault third d.block ops) fs → d.section ≡ Some AtVolume → d.faults ≡ [] → d.fault_lines ≡ [] → length fs ≤ 256 → IsThirdFor fs d.version
    → Step n (faults_text fs ++ rest) d (n + length fs) rest (record d { faults = map raw_of fs; fault_lines = numbered n fs; section = placed (Some AtVolume) fs AtFault })
faults_stage third [] n ops rest d s h p z l few v =
    to_number n rest d n (n + 0) rest _ (omega arith)
    (to_draft n rest d n rest d _ (ap (λ q. record d { section = q }) p ∙ ap (λ x. record d { faults = x; section = Some AtVolume }) z ∙ ap (λ x. record d { faults = []; fault_lines = x; section = Some AtVolume }) l) (stay n rest d))
faults_stage third (f ∷ fs) n ops rest d s h p z l few v =
    let next : Drafted = record d { faults = d.faults ++ (raw_of f ∷ []); fault_lines = d.fault_lines ++ (n ∷ []); section = Some AtFault } in
    let none : length d.faults ≡ 0 = ap length z in
    let one = length-snoc d.faults (raw_of f) in
    to_number n ((fault_text f ++ faults_text fs) ++ rest) d ((n + 1) + length fs) (n + suc (length fs)) rest _ (next_number n (length fs))
    (from_text n ((fault_text f ++ faults_text fs) ++ rest) (fault_text f ++ (faults_text fs ++ rest)) d ((n + 1) + length fs) rest _ (append_assoc (fault_text f) (faults_text fs) rest)
    (joined n (fault_text f ++ (faults_text fs ++ rest)) d (n + 1) (faults_text fs ++ rest) next ((n + 1) + length fs) rest _
    (fault_step third n ops f (faults_text fs ++ rest) d AtVolume s h.0 (λ e. v (or_left (is_third_line f) (list_any is_third_line fs) (or_left (is_of_medium f.kind) (is_shift f.kind && is_at_medium f.at) e))) p (ap (is_behind d.version FaultVerb) p ∙ behind d.version FaultVerb AtVolume refl refl) (omega (arith, none)))
    (to_draft (n + 1) (faults_text fs ++ rest) next ((n + 1) + length fs) rest _ _
    (ap (λ x. record d { faults = (x ++ (raw_of f ∷ [])) ++ map raw_of fs; fault_lines = (d.fault_lines ++ (n ∷ [])) ++ numbered (n + 1) fs; section = Some AtFault }) z
    ∙ ap (λ x. record d { faults = raw_of f ∷ map raw_of fs; fault_lines = (x ++ (n ∷ [])) ++ numbered (n + 1) fs; section = Some AtFault }) l)
    (more_faults third fs (n + 1) ops rest next s h.1 refl (omega (arith, few, one, none)) (λ e. v (or_right (is_third_line f) (list_any is_third_line fs) e))))))

-- each script that is read keeps the rules
use Rattle.std.proofs.Common.{ℕ, suc, ◌≡◌, ◌+◌, ◌≤◌, ◌||◌, ◌&&◌, Bool, true, false, not, ltb, List, [], ◌∷◌, length, map, Option, Some, None, Result, Ok, Err, refl, sym, subst, ap, ◌∙◌, arith}
use Rattle.std.specs.Prelude.{if◌then◌else◌}
use Rattle.std.specs.List.{list_any}
use Rattle.fault_schedule.specs.declared.fault.Crossing.{Crossing}
use Rattle.fault_schedule.specs.declared.fault.Crossing.TheVariants.{HostToAdapter, AdapterToTarget, TargetToMedium, MediumToTarget, TargetToAdapter, AdapterToHost}
use Rattle.fault_schedule.specs.declared.fault.FaultKind.{FaultKind}
use Rattle.fault_schedule.specs.declared.fault.FaultKind.TheVariants.{Flip as FlipKind, Shift as ShiftKind, Keep as KeepKind, Fail as FailKind}
use Rattle.fault_schedule.specs.declared.fault.FaultLine.{FaultLine}
use Rattle.script_words.specs.Cuts.{is_plain, lines_of, words_of}
use Rattle.script_lines.specs.declared.kind.ScriptKind.{ScriptKind}
use Rattle.script_lines.specs.declared.kind.ScriptKind.TheVariants.{LongLine, NotAscii, OutOfPlace, TooMany}
use Rattle.script_lines.specs.declared.line.ScriptLine.{ScriptLine}
use Rattle.script_lines.specs.declared.line.OpLine.TheVariants.{Wait}
use Rattle.script_lines.specs.declared.verb.Verb.{Verb}
use Rattle.script_lines.specs.declared.verb.Verb.TheVariants.{Dix as DixVerb, Mode as ModeVerb, Limits as LimitsVerb, Pages as PagesVerb, Block as BlockVerb, Expect as ExpectVerb, Inner as InnerVerb, Linear as LinearVerb, Stripe as StripeVerb, Over as OverVerb, Fault as FaultVerb, Shift as ShiftVerb, Lose as LoseVerb, Tear as TearVerb, Fail as FailVerb, Schedule as ScheduleVerb, Begin as BeginVerb, Fill as FillVerb, Put as PutVerb, Show as ShowVerb, Seal as SealVerb, Write as WriteVerb, Read as ReadVerb, WritePi as WritePiVerb, ReadPi as ReadPiVerb, Overwrite as OverwriteVerb, Wait as WaitVerb}
use Rattle.script_lines.specs.declared.verb.ScriptVersion.{ScriptVersion}
use Rattle.script_lines.specs.declared.verb.Section.{Section}
use Rattle.script_lines.specs.declared.verb.Section.TheVariants.{Dix as AtDix, Mode as AtMode, Limits as AtLimits, Pages as AtPages, Block as AtBlock, Expect as AtExpect, Inner as AtInner, Volume as AtVolume, Fault as AtFault, Schedule as AtSchedule, Begin as AtBegin, Op as AtOp}
use Rattle.script_lines.specs.Forms.{line_form, op_form}
use Rattle.script_lines.specs.Verbs.{comes_before, has_lines_of, is_new, section_number, section_of, verb_of, version_of_verb}
use Rattle.script_text.specs.Passed.{Op}
use Rattle.script_text.specs.Bindings.{is_at_medium, is_of_medium, is_shift, is_third_line}
use Rattle.script_text.specs.Crossings.{Raw, crossed, crossing_in, crossing_of, is_read, is_third, spot_of}
use Rattle.script_text.specs.Drafts.{Drafted}
use Rattle.script_text.specs.declared.fault.ScriptFault.{ScriptFault}
use Rattle.script_text.specs.declared.script.Script.{Script}
use Rattle.script_text.specs.Language.{at_end, in_section, end_fault, finished, go_on, header_taken, is_behind, is_comment, line_taken, lines_read, nothing_read, script_in, taken, text_taken, unless_broken, verb_taken, version_of, words_behind, words_taken}
use Rattle.script_text.specs.Rules.{broken_rule}
use Rattle.script_laws.specs.Keeping.{Each, IsFault, Keeps}
use Rattle.script_laws.proofs.FormsGive.{Numbers, fill_gives, overwrite_gives, put_gives, read_gives, readpi_gives, seal_gives, show_gives, write_gives, writepi_gives}
use Rattle.script_laws.proofs.Held.{Goes, Held, InOrder, IsRaw, each_none, goes, length_both, nothing_held, number_of}
use Rattle.script_laws.proofs.Inverse.{ended_ok, ok_of}
use Rattle.script_laws.proofs.Kept.{Rules, begin_kept, block_kept, expect_kept, fail_kept, fault_kept, inner_kept, limits_kept, linear_kept, lose_kept, mode_kept, op_kept, over_kept, pages_kept, rules_of, schedule_kept, shift_kept, stripe_kept, tear_kept, ok_draft}
use Rattle.script_text.proofs.Passed.{or_first, or_second}
use Rattle.small_laws.proofs.Tests.{and_first, and_second}

-- a line of this verb that is taken
pub verb_kept : (verb : Verb) (n : ℕ) (words : List (List ℕ)) (d e : Drafted) → Held d → Goes (number_of d.section) (section_number (section_of verb)) → has_lines_of d.version (version_of_verb verb) ≡ true → (line : ScriptLine) → line_form verb d.block words ≡ Ok line → Rules d line → taken n line d ≡ Ok e
    → Held (record e { section = Some (section_of verb) })
verb_kept DixVerb n words d e h g b line f r t = let s = g.some in absurd (omega (arith, s))
verb_kept ModeVerb n words d e h g b line f r t = mode_kept n words d e h g line f t
verb_kept LimitsVerb n words d e h g b line f r t = limits_kept n words d e h g line f t
verb_kept PagesVerb n words d e h g b line f r t = pages_kept n words d e h g line f t
verb_kept BlockVerb n words d e h g b line f r t = block_kept n words d e h g line f t
verb_kept ExpectVerb n words d e h g b line f r t = expect_kept n words d e h g line f r t
verb_kept InnerVerb n words d e h g b line f r t = inner_kept n words d e h g line f r t
verb_kept LinearVerb n words d e h g b line f r t = linear_kept n words d e h g line f r t
verb_kept StripeVerb n words d e h g b line f r t = stripe_kept n words d e h g line f r t
verb_kept OverVerb n words d e h g b line f r t = over_kept n words d e h g line f t
verb_kept FaultVerb n words d e h g b line f r t = fault_kept n words d e h g line f r t
verb_kept ShiftVerb n words d e h g b line f r t = shift_kept n words d e h g line f r t
verb_kept LoseVerb n words d e h g b line f r t = lose_kept n words d e h g b line f r t
verb_kept TearVerb n words d e h g b line f r t = tear_kept n words d e h g b line f r t
verb_kept FailVerb n words d e h g b line f r t = fail_kept n words d e h g b line f r t
verb_kept ScheduleVerb n words d e h g b line f r t = schedule_kept n words d e h g line f r t
verb_kept BeginVerb n words d e h g b line f r t = begin_kept n words d e h g line f t
verb_kept FillVerb n words d e h g b line f r t = op_kept n d e h g (op_form FillVerb d.block words) line f (λ op i. fill_gives d.block words op i) r t
verb_kept PutVerb n words d e h g b line f r t = op_kept n d e h g (op_form PutVerb d.block words) line f (λ op i. put_gives d.block words op i) r t
verb_kept ShowVerb n words d e h g b line f r t = op_kept n d e h g (op_form ShowVerb d.block words) line f (λ op i. show_gives d.block words op i) r t
verb_kept SealVerb n words d e h g b line f r t = op_kept n d e h g (op_form SealVerb d.block words) line f (λ op i. seal_gives d.block words op i) r t
verb_kept WriteVerb n words d e h g b line f r t = op_kept n d e h g (op_form WriteVerb d.block words) line f (λ op i. write_gives d.block words op i) r t
verb_kept ReadVerb n words d e h g b line f r t = op_kept n d e h g (op_form ReadVerb d.block words) line f (λ op i. read_gives d.block words op i) r t
verb_kept WritePiVerb n words d e h g b line f r t = op_kept n d e h g (op_form WritePiVerb d.block words) line f (λ op i. writepi_gives d.block words op i) r t
verb_kept ReadPiVerb n words d e h g b line f r t = op_kept n d e h g (op_form ReadPiVerb d.block words) line f (λ op i. readpi_gives d.block words op i) r t
verb_kept OverwriteVerb n words d e h g b line f r t = op_kept n d e h g (op_form OverwriteVerb d.block words) line f (λ op i. overwrite_gives d.block words op i) r t
verb_kept WaitVerb n words d e h g b line f r t = op_kept n d e h g (op_form WaitVerb d.block words) line f (λ op i. subst (Numbers d.block) (sym (ended_ok Wait words op i)) tt) r t

pub no_rule : (f : Option ScriptKind) (r : Result Drafted ScriptKind) (e : Drafted) → unless_broken f r ≡ Ok e → (f ≡ None) × (r ≡ Ok e)
no_rule None r e h = (refl, h)
no_rule (Some k) r e h = absurd (cc)

line_kept : (n : ℕ) (verb : Verb) (words : List (List ℕ)) (d e : Drafted) → Held d → Goes (number_of d.section) (section_number (section_of verb)) → has_lines_of d.version (version_of_verb verb) ≡ true → line_taken n verb words d ≡ Ok e → Held e
unfolding line_taken
line_kept n verb words d e h g b t =
    let a = ok_of (line_form verb d.block words) _ e t in
    let m = ok_of (unless_broken (broken_rule d a.0) (taken n a.0 d)) (in_section verb) e a.2 in
    let c = no_rule (broken_rule d a.0) (taken n a.0 d) m.0 m.1 in
    subst Held (sym (ok_draft (record m.0 { section = Some (section_of verb) }) e m.2)) (verb_kept verb n words d m.0 h g b a.0 a.1 (rules_of d a.0 c.0) c.1)

may_come : (version : ScriptVersion) (verb : Verb) (section : Option Section) → is_behind version verb section ≡ true → Goes (number_of section) (section_number (section_of verb))
may_come version verb None h = absurd (cc)
may_come version verb (Some p) h = goes p (section_of verb) (is_new version) (and_second (has_lines_of version (version_of_verb verb)) (comes_before p (section_of verb) (is_new version)) h)

own_line : (version : ScriptVersion) (verb : Verb) (section : Option Section) → is_behind version verb section ≡ true → has_lines_of version (version_of_verb verb) ≡ true
own_line version verb None h = absurd (cc)
own_line version verb (Some p) h = and_first (has_lines_of version (version_of_verb verb)) (comes_before p (section_of verb) (is_new version)) h

where_in_place : (b : Bool) (n : ℕ) (verb : Verb) (words : List (List ℕ)) (d e : Drafted) → Held d → is_behind d.version verb d.section ≡ b → (if b then line_taken n verb words d else Err OutOfPlace) ≡ Ok e → Held e
where_in_place true n verb words d e h b t = line_kept n verb words d e h (may_come d.version verb d.section b) (own_line d.version verb d.section b) t
where_in_place false n verb words d e h b t = absurd (cc)

known_kept : (n : ℕ) (verb : Option Verb) (words : List (List ℕ)) (d e : Drafted) → Held d → verb_taken n verb words d ≡ Ok e → Held e
known_kept n None words d e h t = absurd (cc)
known_kept n (Some verb) words d e h t = where_in_place (is_behind d.version verb d.section) n verb words d e h refl t

header_kept : (v : Option ScriptVersion) (d e : Drafted) → Held d → d.section ≡ None → header_taken v d ≡ Ok e → Held e
header_kept None d e h p t = absurd (cc)
header_kept (Some version) d e h p t =
    let o = subst (λ q. InOrder (number_of q) d.mask d.entries d.faults d.ops) p h.order in
    let none = o.no_faults (omega arith) in
    let w = h.faults_hold in
    subst Held (sym (ok_draft (record d { version = version; section = Some AtDix }) e t))
    (record {
      front = h.front;
      inner_are = h.inner_are;
      inner_count = h.inner_count;
      entries_are = h.entries_are;
      entries_count = h.entries_count;
      faults_hold = record { each = each_none _ d.faults none; count = w.count; lined = w.lined };
      choices_are = h.choices_are;
      choices_count = h.choices_count;
      ops_hold = h.ops_hold;
      order = o;
    })

behind_kept : (section : Option Section) (n : ℕ) (words : List (List ℕ)) (d e : Drafted) → Held d → d.section ≡ section → words_behind section n words d ≡ Ok e → Held e
behind_kept None n words d e h p t = header_kept (version_of words) d e h p t
behind_kept (Some section) n [] d e h p t = subst Held (sym (ok_draft d e t)) h
behind_kept (Some section) n (first ∷ words) d e h p t = known_kept n (verb_of first) words d e h t

comment_kept : (b : Bool) (n : ℕ) (first : List ℕ) (words : List (List ℕ)) (d e : Drafted) → Held d → (if b then Ok d else words_behind d.section n (first ∷ words) d) ≡ Ok e → Held e
comment_kept true n first words d e h t = subst Held (sym (ok_draft d e t)) h
comment_kept false n first words d e h t = behind_kept d.section n (first ∷ words) d e h refl t

words_kept : (n : ℕ) (words : List (List ℕ)) (d e : Drafted) → Held d → words_taken n words d ≡ Ok e → Held e
words_kept n [] d e h t = subst Held (sym (ok_draft d e t)) h
words_kept n (first ∷ words) d e h t = comment_kept (is_comment first) n first words d e h t

text_by : (a b : Bool) (n : ℕ) (words : List (List ℕ)) (d e : Drafted) → Held d → (if a then Err NotAscii else (if b then Err LongLine else words_taken n words d)) ≡ Ok e → Held e
text_by true b n words d e h t = absurd (cc)
text_by false true n words d e h t = absurd (cc)
text_by false false n words d e h t = words_kept n words d e h t

pub text_kept : (n : ℕ) (line : List ℕ) (d e : Drafted) → Held d → text_taken n line d ≡ Ok e → Held e
text_kept n line d e h t = text_by (not (is_plain line)) (ltb 4096 (length line)) n (words_of line) d e h t

-- at the end

in_third : (kind : FaultKind) (at : Crossing) → crossing_in true kind at ≡ at
in_third (FlipKind off bytes) at = refl
in_third (ShiftKind by) at = refl
in_third (KeepKind bytes) at = refl
in_third FailKind at = refl

-- A line that any version can say has the same crossing in each.
in_any : (kind : FaultKind) (at : Crossing) → is_of_medium kind || (is_shift kind && is_at_medium at) ≡ false → crossing_in false kind at ≡ at
in_any (FlipKind off bytes) at n = refl
in_any (ShiftKind by) HostToAdapter n = refl
in_any (ShiftKind by) AdapterToTarget n = refl
in_any (ShiftKind by) TargetToMedium n = absurd (cc)
in_any (ShiftKind by) MediumToTarget n = refl
in_any (ShiftKind by) TargetToAdapter n = refl
in_any (ShiftKind by) AdapterToHost n = refl
in_any (KeepKind bytes) at n = refl
in_any FailKind at n = refl

-- Before version 3 no line says what only that version can.
is_old : (kind : FaultKind) (at : Crossing) → is_of_medium kind ≡ false → is_of_medium kind || (is_shift kind && is_at_medium (crossing_in false kind at)) ≡ false
is_old (FlipKind off bytes) at n = refl
is_old (ShiftKind by) HostToAdapter n = refl
is_old (ShiftKind by) AdapterToTarget n = refl
is_old (ShiftKind by) TargetToMedium n = refl
is_old (ShiftKind by) MediumToTarget n = refl
is_old (ShiftKind by) TargetToAdapter n = refl
is_old (ShiftKind by) AdapterToHost n = refl
is_old (KeepKind bytes) at n = absurd (cc)
is_old FailKind at n = absurd (cc)

fault_in_any : (size : ℕ) (all : List Op) (f : FaultLine) → IsFault true size all f → is_third_line f ≡ false → IsFault false size all f
fault_in_any size all f h n = record {
  op_is = h.op_is;
  k_is = h.k_is;
  crossing = ap (crossing_in false f.kind) (sym (in_third f.kind (crossing_of (spot_of f.at) f.kind (is_read all f.op))) ∙ h.crossing) ∙ in_any f.kind f.at n;
  kind_is = h.kind_is;
}

faults_in_any : (size : ℕ) (all : List Op) (fs : List FaultLine) → Each (IsFault true size all) fs → list_any is_third_line fs ≡ false → Each (IsFault false size all) fs
faults_in_any size all [] h n = tt
faults_in_any size all (f ∷ fs) h n =
    (fault_in_any size all f h.0 (or_first (is_third_line f) (list_any is_third_line fs) n), faults_in_any size all fs h.1 (or_second (is_third_line f) (list_any is_third_line fs) n))

-- Where no line says what only version 3 can, the faults are those of each version.
faults_by : (any : Bool) (size : ℕ) (all : List Op) (fs : List FaultLine) → list_any is_third_line fs ≡ any → Each (IsFault true size all) fs → Each (IsFault any size all) fs
faults_by true size all fs e h = h
faults_by false size all fs e h = faults_in_any size all fs h e

crossed_each : (third : Bool) (size : ℕ) (all : List Op) (faults : List Raw) → Each (IsRaw third size) faults → Each (IsFault third size all) (map (crossed third all) faults)
crossed_each third size all [] h = tt
crossed_each third size all (f ∷ faults) h = (h.0.is_fault all, crossed_each third size all faults h.1)

none_third : (size : ℕ) (all : List Op) (faults : List Raw) → Each (IsRaw false size) faults → list_any is_third_line (map (crossed false all) faults) ≡ false
none_third size all [] h = refl
none_third size all (f ∷ faults) h =
    ap (λ b. b || list_any is_third_line (map (crossed false all) faults)) (is_old f.kind (crossing_of f.spot f.kind (is_read all f.op)) (h.0.old refl)) ∙ none_third size all faults h.1

crossed_keep : (third : Bool) (size : ℕ) (all : List Op) (faults : List Raw) → Each (IsRaw third size) faults → Each (IsFault (list_any is_third_line (map (crossed third all) faults)) size all) (map (crossed third all) faults)
crossed_keep true size all faults h = faults_by (list_any is_third_line (map (crossed true all) faults)) size all (map (crossed true all) faults) refl (crossed_each true size all faults h)
crossed_keep false size all faults h =
    subst (λ t. Each (IsFault t size all) (map (crossed false all) faults)) (sym (none_third size all faults h)) (crossed_each false size all faults h)

length-map : (third : Bool) (all : List Op) (faults : List Raw) → length (map (crossed third all) faults) ≡ length faults
length-map third all [] = refl
length-map third all (f ∷ faults) = ap suc (length-map third all faults)

pub record KeepsAll (s : Script) : Type 0 where
  pub keeps : Keeps s
  pub lined : length s.lines ≡ length s.faults + length s.ops

finished_keeps : (d : Drafted) → Held d → 7 ≤ number_of d.section → KeepsAll (finished d)
finished_keeps d h p =
    let f = h.front in
    let w = h.faults_hold in
    let o = h.ops_hold in
    let some = h.order.with_volume p in
    let count = length-map (is_third d.version) d.ops d.faults in
    let few = w.count in
    let a = length_both d.fault_lines d.op_lines in
    let b = w.lined in
    let c = o.lined in
    let e = o.blocks_are in
    let most = o.blocks_count in
    record {
      keeps = record {
        mode_is = record { protect_is = f.protect_is; app_fits = f.app_fits; mask_fits = f.mask_fits; unmasked = f.unmasked; expects_dix = f.expects_dix; expects_dif = f.expects_dif };
        limits_are = f.limits_are;
        pages_are = f.pages_are;
        block_is = f.block_is;
        entries_are = h.entries_are;
        entries_count = record { low_is = some; high_is = h.entries_count };
        faults_are = crossed_keep (is_third d.version) d.block d.ops d.faults w.each;
        faults_count = omega (arith, count, few);
        choices_are = h.choices_are;
        choices_count = h.choices_count;
        ops_are = o.each;
        ops_count = o.count;
        blocks_count = omega (arith, e, most);
      };
      lined = omega (arith, a, b, c, count);
    }

pub ok_script : (a b : Script) → ◌≡◌ {A = Result Script ScriptFault} (Ok a) (Ok b) → b ≡ a
ok_script a b h = cc

late_place : (section : Option Section) → end_fault section ≡ None → 7 ≤ number_of section
late_place None h = absurd (cc)
late_place (Some AtDix) h = absurd (cc)
late_place (Some AtMode) h = absurd (cc)
late_place (Some AtLimits) h = absurd (cc)
late_place (Some AtPages) h = absurd (cc)
late_place (Some AtBlock) h = absurd (cc)
late_place (Some AtExpect) h = absurd (cc)
late_place (Some AtInner) h = absurd (cc)
late_place (Some AtVolume) h = absurd (cc)
late_place (Some AtFault) h = absurd (cc)
late_place (Some AtSchedule) h = absurd (cc)
late_place (Some AtBegin) h = omega arith
late_place (Some AtOp) h = omega arith

end_keeps : (f : Option ScriptKind) (n : ℕ) (d : Drafted) (s : Script) → Held d → end_fault d.section ≡ f → at_end n f d ≡ Ok s → KeepsAll s
end_keeps None n d s h p t = subst KeepsAll (sym (ok_script (finished d) s t)) (finished_keeps d h (late_place d.section p))
end_keeps (Some k) n d s h p t = absurd (cc)

pub go_keeps : (r : Result Drafted ScriptKind) (n : ℕ) (rest : Drafted → Result Script ScriptFault) (s : Script) → go_on n r rest ≡ Ok s → (e : Drafted) × (r ≡ Ok e) × (rest e ≡ Ok s)
go_keeps (Ok e) n rest s h = (e, refl, h)
go_keeps (Err k) n rest s h = absurd (cc)

lines_keep : (n : ℕ) (lines : List (List ℕ)) (d : Drafted) (s : Script) → Held d → lines_read n lines d ≡ Ok s → KeepsAll s
lines_keep n [] d s h t = end_keeps (end_fault d.section) n d s h refl t
lines_keep n (line ∷ lines) d s h t =
    let a = go_keeps (text_taken n line d) n (λ next. lines_read (n + 1) lines next) s t in
    lines_keep (n + 1) lines a.0 s (text_kept n line d a.0 h a.1) a.2

by_size : (b : Bool) (text : List ℕ) (s : Script) → (if b then Err (record { line = 0; kind = TooMany }) else lines_read 1 (lines_of text) nothing_read) ≡ Ok s → KeepsAll s
by_size true text s h = absurd (cc)
by_size false text s h = lines_keep 1 (lines_of text) nothing_read s nothing_held h

pub read_keeps : (text : List ℕ) (s : Script) → script_in text ≡ Ok s → KeepsAll s
read_keeps text s h = by_size (ltb 4194304 (length text)) text s h

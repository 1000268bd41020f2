-- Where the blocks of an `over` line lie.
use Rattle.std.proofs.Common.{ℕ, ◌≡◌, ◌+◌, ◌<◌, ◌≤◌, Bool, true, false, not, ltb, cond, List, [], ◌∷◌, ◌++◌, length, find, Option, Some, None, Result, Ok, Err, refl, sym, subst, ap, ◌∙◌, arith, append_assoc}
use Rattle.std.specs.Prelude.{if◌then◌else◌, codes}
use Rattle.std.specs.List.{Contains}
use Rattle.std.proofs.lemmas.List.{append-nil}
use Rattle.std.proofs.lemmas.List.Elements.{Contains-append_left, Contains-append_right}
use Rattle.std.proofs.lemmas.List.Sums.{sum_by-cons}
use Rattle.std.proofs.lemmas.Bool.{ltb-true, ltb-false}
use Rattle.script_words.specs.Cuts.{is_plain, lines_of, words_of}
use Rattle.volume_table.specs.declared.entry.Entry.{Entry}
use Rattle.volume_table.specs.declared.entry.Entry.TheVariants.{Linear as LinearEntry, Stripe as StripeEntry}
use Rattle.volume_table.specs.Entries.{entry_len, entry_place, entry_start, is_held}
use Rattle.volume_table.specs.Places.{place_by, place_in, volume_len}
use Rattle.volume_table.specs.Tables.{IsTable, Table}
use Rattle.volume_table.proofs.Order.{in_is, not_in}
use Rattle.script_text.specs.Passed.{EntriesFollow, tree_place}
use Rattle.script_lines.specs.declared.kind.ScriptKind.{ScriptKind}
use Rattle.script_lines.specs.declared.kind.ScriptKind.TheVariants.{LongLine, NotAscii, OutOfPlace, TooMany}
use Rattle.script_lines.specs.declared.line.ScriptLine.{ScriptLine}
use Rattle.script_lines.specs.declared.line.ScriptLine.TheVariants.{Mode, Limits, Pages, Block, Expect, Inner, Linear, Stripe, Over, Flip, Shift, Keep, Fail, Schedule, Begin, Op}
use Rattle.script_lines.specs.declared.verb.Verb.{Verb}
use Rattle.script_lines.specs.declared.verb.Verb.TheVariants.{Over as OverVerb}
use Rattle.script_lines.specs.declared.verb.ScriptVersion.{ScriptVersion}
use Rattle.script_lines.specs.declared.verb.Section.{Section}
use Rattle.script_lines.specs.Forms.{line_form}
use Rattle.script_lines.specs.Reading.{◌>>=◌}
use Rattle.script_lines.specs.Verbs.{section_of, verb_of}
use Rattle.script_text.specs.Drafts.{Drafted}
use Rattle.script_text.specs.Ops.{op_in}
use Rattle.script_text.specs.Rules.{broken_rule}
use Rattle.script_text.specs.Trees.{entries_over, tracks_in}
use Rattle.script_text.specs.declared.script.Script.{Script}
use Rattle.script_text.specs.Language.{at_end, in_section, end_fault, finished, header_taken, is_behind, is_comment, line_taken, lines_read, nothing_read, script_in, taken, text_taken, unless_broken, verb_taken, version_of, with_entries, with_op, words_behind, words_taken}
use Rattle.script_laws.specs.Keeping.{IsWithin}
use Rattle.script_laws.specs.OverLines.{LiesInTree, read_on}
use Rattle.script_laws.proofs.FormsGive.{over_gives}
use Rattle.script_laws.proofs.Held.{Held, nothing_held}
use Rattle.script_laws.proofs.Inverse.{ok_of}
use Rattle.script_laws.proofs.Keeping.{go_keeps, no_rule, ok_script, text_kept}
use Rattle.script_laws.proofs.Over.{OverSays, over_says}
use Rattle.script_laws.proofs.Kept.{ok_draft}

-- ---- reading on adds entries, and takes none away

record Grows (d e : Drafted) : Type 0 where
  more : List Entry
  is : e.entries ≡ d.entries ++ more

same : (d e : Drafted) → e.entries ≡ d.entries → Grows d e
same d e h = record { more = []; is = h ∙ sym (append-nil d.entries) }

joined : (d e f : Drafted) → Grows d e → Grows e f → Grows d f
joined d e f a b = record { more = a.more ++ b.more; is = b.is ∙ ap (λ xs. xs ++ b.more) a.is ∙ append_assoc d.entries a.more b.more }

given : (d e x : Drafted) → x.entries ≡ d.entries → ◌≡◌ {A = Result Drafted ScriptKind} (Ok x) (Ok e) → Grows d e
given d e x s h = same d e (ap (λ (y : Drafted). y.entries) (ok_draft x e h) ∙ s)

added : (d e : Drafted) (found : List Entry) → ◌≡◌ {A = Result Drafted ScriptKind} (Ok (record d { entries = d.entries ++ found })) (Ok e) → Grows d e
added d e found h = record { more = found; is = ap (λ (y : Drafted). y.entries) (ok_draft (record d { entries = d.entries ++ found }) e h) }

within : (b : Bool) (d e : Drafted) (found : List Entry) → (if b then Err TooMany else Ok (record d { entries = d.entries ++ found })) ≡ Ok e → e.entries ≡ d.entries ++ found
within true d e found h = absurd (cc)
within false d e found h = ap (λ (y : Drafted). y.entries) (ok_draft (record d { entries = d.entries ++ found }) e h)

taken_grows : (n : ℕ) (line : ScriptLine) (d e : Drafted) → taken n line d ≡ Ok e → Grows d e
unfolding taken
taken_grows n (Mode m) d e h = given d e _ refl h
taken_grows n (Limits l) d e h = given d e _ refl h
taken_grows n (Pages k) d e h = given d e _ refl h
taken_grows n (Block size) d e h = given d e _ refl h
taken_grows n (Expect app mask) d e h = given d e _ refl h
taken_grows n (Inner volume len dev at) d e h = given d e _ refl h
taken_grows n (Linear l) d e h = added d e (LinearEntry l ∷ []) h
taken_grows n (Stripe start len chunk legs) d e h = added d e (StripeEntry (record { start = start; len = len; chunk = chunk; legs = legs }) ∷ []) h
taken_grows n (Over start len chunk volumes) d e h =
    let a = ok_of (entries_over d.inner start len chunk volumes) (with_entries d) e h in
    record { more = a.0; is = within (ltb 16 (length d.entries + length a.0)) d e a.0 a.2 }
taken_grows n (Flip op k spot off bytes) d e h = given d e _ refl h
taken_grows n (Shift op spot by) d e h = given d e _ refl h
taken_grows n (Keep op k bytes) d e h = given d e _ refl h
taken_grows n (Fail op k) d e h = given d e _ refl h
taken_grows n (Schedule entries) d e h = given d e _ refl h
taken_grows n Begin d e h = given d e _ refl h
taken_grows n (Op line) d e h = let a = ok_of (op_in d.pages d.block line) (with_op n line d) e h in given d e _ refl a.2

line_grows : (n : ℕ) (verb : Verb) (words : List (List ℕ)) (d e : Drafted) → line_taken n verb words d ≡ Ok e → Grows d e
unfolding line_taken
line_grows n verb words d e t =
    let a = ok_of (line_form verb d.block words) _ e t in
    let b = ok_of (unless_broken (broken_rule d a.0) (taken n a.0 d)) (in_section verb) e a.2 in
    let c = no_rule (broken_rule d a.0) (taken n a.0 d) b.0 b.1 in
    joined d b.0 e (taken_grows n a.0 d b.0 c.1) (given b.0 e (record b.0 { section = Some (section_of verb) }) refl b.2)

where_grows : (b : Bool) (n : ℕ) (verb : Verb) (words : List (List ℕ)) (d e : Drafted) → (if b then line_taken n verb words d else Err OutOfPlace) ≡ Ok e → Grows d e
where_grows true n verb words d e t = line_grows n verb words d e t
where_grows false n verb words d e t = absurd (cc)

known_grows : (n : ℕ) (verb : Option Verb) (words : List (List ℕ)) (d e : Drafted) → verb_taken n verb words d ≡ Ok e → Grows d e
known_grows n None words d e t = absurd (cc)
known_grows n (Some verb) words d e t = where_grows (is_behind d.version verb d.section) n verb words d e t

header_grows : (v : Option ScriptVersion) (d e : Drafted) → header_taken v d ≡ Ok e → Grows d e
header_grows None d e t = absurd (cc)
header_grows (Some version) d e t = given d e _ refl t

behind_grows : (section : Option Section) (n : ℕ) (words : List (List ℕ)) (d e : Drafted) → words_behind section n words d ≡ Ok e → Grows d e
behind_grows None n words d e t = header_grows (version_of words) d e t
behind_grows (Some section) n [] d e t = given d e d refl t
behind_grows (Some section) n (first ∷ words) d e t = known_grows n (verb_of first) words d e t

comment_grows : (b : Bool) (n : ℕ) (first : List ℕ) (words : List (List ℕ)) (d e : Drafted) → (if b then Ok d else words_behind d.section n (first ∷ words) d) ≡ Ok e → Grows d e
comment_grows true n first words d e t = given d e d refl t
comment_grows false n first words d e t = behind_grows d.section n (first ∷ words) d e t

words_grow : (n : ℕ) (words : List (List ℕ)) (d e : Drafted) → words_taken n words d ≡ Ok e → Grows d e
words_grow n [] d e t = given d e d refl t
words_grow n (first ∷ words) d e t = comment_grows (is_comment first) n first words d e t

-- a line is plain and short, and its words are taken
words_of_text : (a b : Bool) (r : Result Drafted ScriptKind) (e : Drafted) → (if a then Err NotAscii else (if b then Err LongLine else r)) ≡ Ok e → r ≡ Ok e
words_of_text true b r e t = absurd (cc)
words_of_text false true r e t = absurd (cc)
words_of_text false false r e t = t

text_words : (n : ℕ) (line : List ℕ) (d e : Drafted) → text_taken n line d ≡ Ok e → words_taken n (words_of line) d ≡ Ok e
text_words n line d e t = words_of_text (not (is_plain line)) (ltb 4096 (length line)) (words_taken n (words_of line) d) e t

-- the script has the entries that were read, and maybe more
record Has (d : Drafted) (s : Script) : Type 0 where
  more : List Entry
  is : s.entries ≡ d.entries ++ more

end_has : (f : Option ScriptKind) (n : ℕ) (d : Drafted) (s : Script) → at_end n f d ≡ Ok s → Has d s
end_has None n d s t = record { more = []; is = ap (λ (x : Script). x.entries) (ok_script (finished d) s t) ∙ sym (append-nil d.entries) }
end_has (Some k) n d s t = absurd (cc)

from : (d e : Drafted) (s : Script) → Grows d e → Has e s → Has d s
from d e s a b = record { more = a.more ++ b.more; is = b.is ∙ ap (λ xs. xs ++ b.more) a.is ∙ append_assoc d.entries a.more b.more }

lines_have : (n : ℕ) (lines : List (List ℕ)) (d : Drafted) (s : Script) → lines_read n lines d ≡ Ok s → Has d s
lines_have n [] d s t = end_has (end_fault d.section) n d s t
lines_have n (line ∷ lines) d s t =
    let a = go_keeps (text_taken n line d) n (λ next. lines_read (n + 1) lines next) s t in
    from d a.0 s (words_grow n (words_of line) d a.0 (text_words n line d a.0 a.1)) (lines_have (n + 1) lines a.0 s a.2)

-- ---- what an `over` line adds

record Adds (words : List (List ℕ)) (d e : Drafted) : Type 0 where
  start : ℕ
  len : ℕ
  chunk : ℕ
  volumes : List ℕ
  says : line_form OverVerb d.block words ≡ Ok (Over start len chunk volumes)
  len_is : IsWithin 1 1048576 len
  chunk_is : IsWithin 1 65536 chunk
  some : 1 ≤ length volumes
  found : List Entry
  over : entries_over d.inner start len chunk volumes ≡ Ok found
  is : e.entries ≡ d.entries ++ found

over_adds : (n start len chunk : ℕ) (volumes : List ℕ) (d e : Drafted) → taken n (Over start len chunk volumes) d ≡ Ok e → (found : List Entry) × (entries_over d.inner start len chunk volumes ≡ Ok found) × (e.entries ≡ d.entries ++ found)
unfolding taken
over_adds n start len chunk volumes d e h =
    let a = ok_of (entries_over d.inner start len chunk volumes) (with_entries d) e h in
    (a.0, a.1, within (ltb 16 (length d.entries + length a.0)) d e a.0 a.2)

line_adds : (n : ℕ) (words : List (List ℕ)) (d e : Drafted) → line_taken n OverVerb words d ≡ Ok e → Adds words d e
unfolding line_taken
line_adds n words d e t =
    let a = ok_of (line_form OverVerb d.block words) _ e t in
    let b = ok_of (unless_broken (broken_rule d a.0) (taken n a.0 d)) (in_section OverVerb) e a.2 in
    let c = no_rule (broken_rule d a.0) (taken n a.0 d) b.0 b.1 in
    let m = over_gives words a.0 a.1 in
    let g = over_adds n m.0 m.1 m.2 m.3 d b.0 (sym (ap (λ l. taken n l d) m.4) ∙ c.1) in
    record {
      start = m.0;
      len = m.1;
      chunk = m.2;
      volumes = m.3;
      says = a.1 ∙ ap (λ (l : ScriptLine). Ok l) m.4;
      len_is = m.6;
      chunk_is = m.7;
      some = m.8;
      found = g.0;
      over = g.1;
      is = ap (λ (x : Drafted). x.entries) (ok_draft (record b.0 { section = Some (section_of OverVerb) }) e b.2) ∙ g.2;
    }

where_adds : (b : Bool) (n : ℕ) (words : List (List ℕ)) (d e : Drafted) → (if b then line_taken n OverVerb words d else Err OutOfPlace) ≡ Ok e → Adds words d e
where_adds true n words d e t = line_adds n words d e t
where_adds false n words d e t = absurd (cc)

no_version : (words : List (List ℕ)) → version_of (codes "over" ∷ words) ≡ None
no_version [] = refl
no_version (v ∷ []) = refl
no_version (v ∷ w ∷ ws) = refl

no_header : (v : Option ScriptVersion) (d e : Drafted) → v ≡ None → header_taken v d ≡ Ok e → ⊥
no_header None d e h t = absurd (cc)
no_header (Some b) d e h t = absurd (cc)

behind_adds : (section : Option Section) (n : ℕ) (words : List (List ℕ)) (d e : Drafted) → words_behind section n (codes "over" ∷ words) d ≡ Ok e → Adds words d e
behind_adds None n words d e t = absurd (no_header (version_of (codes "over" ∷ words)) d e (no_version words) t)
behind_adds (Some section) n words d e t = where_adds (is_behind d.version OverVerb d.section) n words d e t

words_add : (n : ℕ) (words : List (List ℕ)) (d e : Drafted) → words_taken n (codes "over" ∷ words) d ≡ Ok e → Adds words d e
words_add n words d e t = behind_adds d.section n words d e t

-- ---- which entry holds a block

record Holder (v : ℕ) (es : List Entry) : Type 0 where
  entry : Entry
  among : Contains es entry
  held : is_held v entry ≡ true
  place : place_in es v ≡ entry_place entry v

found_in : (c : Bool) (v : ℕ) (e : Entry) (es : List Entry) → is_held v e ≡ c → place_in (e ∷ es) v ≡ place_by (cond c (Some e) (find (is_held v) es)) v
found_in c v e es h = ap (λ b. place_by (cond b (Some e) (find (is_held v) es)) v) h

holder_by : (b : Bool) (start v : ℕ) (e : Entry) (es : List Entry) → entry_start e ≡ start → start ≤ v → ltb v (start + entry_len e) ≡ b → (start + entry_len e ≤ v → Holder v es) → Holder v (e ∷ es)
holder_by true start v e es s lo b r =
    let below = ltb-true v (start + entry_len e) b in
    let h = in_is v e (omega (arith, s, lo)) (omega (arith, s, below)) in
    record { entry = e; among = (0, omega arith, refl); held = h; place = found_in true v e es h }
holder_by false start v e es s lo b r =
    let above = ltb-false v (start + entry_len e) b in
    let h = r above in
    record { entry = h.entry; among = Contains-append_right (e ∷ []) es h.entry h.among; held = h.held; place = found_in false v e es (not_in v e (omega (arith, s, above))) ∙ h.place }

holder : (start v : ℕ) (es : List Entry) → EntriesFollow start es → start ≤ v → v < start + volume_len es → Holder v es
holder start v [] f lo hi = absurd (omega (arith, lo, hi))
holder start v (e ∷ es) f lo hi =
    let sum : volume_len (e ∷ es) ≡ entry_len e + volume_len es = sum_by-cons entry_len e es in
    holder_by (ltb v (start + entry_len e)) start v e es f.0 lo refl (λ a. holder (start + entry_len e) v es f.1 a (omega (arith, sum, hi)))

-- ---- the law

-- these lines were read, and then the rest
record Reached (n : ℕ) (before rest : List (List ℕ)) (c : Drafted) (s : Script) : Type 0 where
  d : Drafted
  read : read_on n before c ≡ Ok d
  held : Held d
  number : ℕ
  on : lines_read number rest d ≡ Ok s

reached : (n : ℕ) (before rest : List (List ℕ)) (c : Drafted) (s : Script) → Held c → lines_read n (before ++ rest) c ≡ Ok s → Reached n before rest c s
reached n [] rest c s h t = record { d = c; read = refl; held = h; number = n; on = t }
reached n (line ∷ before) rest c s h t =
    let a = go_keeps (text_taken n line c) n (λ next. lines_read (n + 1) (before ++ rest) next) s t in
    let r : Reached (n + 1) before rest a.0 s = reached (n + 1) before rest a.0 s (text_kept n line c a.0 h a.1) a.2 in
    record { d = r.d; read = ap (λ x. x >>= read_on (n + 1) before) a.1 ∙ r.read; held = r.held; number = r.number; on = r.on }

sized : (b : Bool) (text : List ℕ) (s : Script) → (if b then Err (record { line = 0; kind = TooMany }) else lines_read 1 (lines_of text) nothing_read) ≡ Ok s → lines_read 1 (lines_of text) nothing_read ≡ Ok s
sized true text s h = absurd (cc)
sized false text s h = h

pub over_places : (text : List ℕ) (s : Script) (t : Table) (before after : List (List ℕ)) (line : List ℕ) (words : List (List ℕ)) → script_in text ≡ Ok s → IsTable t → t.entries ≡ s.entries
    → lines_of text ≡ before ++ (line ∷ after) → words_of line ≡ codes "over" ∷ words → LiesInTree t before words
over_places text s t before after line words h table same lines_are words_are =
    let all = sym (ap (λ ls. lines_read 1 ls nothing_read) lines_are) ∙ sized (ltb 4194304 (length text)) text s h in
    let r : Reached 1 before (line ∷ after) nothing_read s = reached 1 before (line ∷ after) nothing_read s nothing_held all in
    let a = go_keeps (text_taken r.number line r.d) r.number (λ next. lines_read (r.number + 1) after next) s r.on in
    let w = sym (ap (λ ws. words_taken r.number ws r.d) words_are) ∙ text_words r.number line r.d a.0 a.1 in
    let x : Adds words r.d a.0 = words_add r.number words r.d a.0 w in
    let y : Has a.0 s = lines_have (r.number + 1) after a.0 s a.2 in
    let z : OverSays r.d.inner x.start x.len x.chunk x.volumes x.found = over_says r.d.inner x.start x.len x.chunk x.volumes x.found r.held.inner_are r.held.inner_count x.len_is x.chunk_is x.some x.over in
    let is : t.entries ≡ (r.d.entries ++ x.found) ++ y.more = same ∙ (y.is ∙ ap (λ xs. xs ++ y.more) x.is) in
    record {
      d = r.d;
      read = r.read;
      start = x.start;
      len = x.len;
      chunk = x.chunk;
      volumes = x.volumes;
      says = x.says;
      places = λ v lo hi. by x.start x.len x.chunk x.volumes r.d r.d.entries x.found y.more z is v lo hi;
    }
  where
    by : (start len chunk : ℕ) (volumes : List ℕ) (d : Drafted) (front found more : List Entry) → OverSays d.inner start len chunk volumes found → t.entries ≡ (front ++ found) ++ more
        → (v : ℕ) → start ≤ v → v < start + len → place_in t.entries v ≡ tree_place start chunk (tracks_in d.inner volumes) v
    by start len chunk volumes d front found more z is v lo hi =
        let long = z.blocks in
        let e : Holder v found = holder start v found z.follow lo (omega (arith, long, hi)) in
        let in_all : Contains ((front ++ found) ++ more) e.entry = Contains-append_left (front ++ found) more e.entry (Contains-append_right front found e.entry e.among) in
        let among : Contains t.entries e.entry = subst (λ xs. Contains xs e.entry) (sym is) in_all in
        table.made.formula e.entry v among e.held ∙ (sym e.place ∙ z.places v lo hi)

-- A text that is read line by line: a step from one line to the next, and steps in a row.
use Rattle.std.proofs.Common.{ℕ, ◌≡◌, ◌+◌, true, false, not, ltb, List, ◌∷◌, ◌++◌, length, Some, None, Ok, Err, refl, sym, subst, ap, ◌∙◌, arith}
use Rattle.std.specs.Prelude.{if◌then◌else◌}
use Rattle.std.specs.List.{list_all}
use Rattle.std.proofs.lemmas.Bool.Decides.{nat_tests}
use Rattle.std.proofs.lemmas.Bool.{and_from}
use Rattle.script_words.specs.Cuts.{lines_of, words_of}
use Rattle.script_lines.specs.declared.kind.ScriptKind.TheVariants.{NotAscii, LongLine, OutOfPlace}
use Rattle.script_lines.specs.declared.line.ScriptLine.{ScriptLine}
use Rattle.script_lines.specs.declared.verb.Verb.{Verb}
use Rattle.script_lines.specs.declared.verb.ScriptVersion.{ScriptVersion}
use Rattle.script_lines.specs.declared.verb.ScriptVersion.TheVariants.{One, Two, Three}
use Rattle.script_lines.specs.declared.verb.Section.{Section}
use Rattle.script_lines.specs.Forms.{line_form}
use Rattle.script_lines.specs.Reading.{◌>>=◌}
use Rattle.script_lines.specs.Verbs.{comes_before, has_lines_of, is_new, section_of, verb_of, version_of_verb}
use Rattle.script_text.specs.Drafts.{Drafted}
use Rattle.script_text.specs.Language.{in_section, go_on, is_behind, is_comment, line_taken, lines_read, taken, text_taken, unless_broken, verb_taken, words_behind, words_taken}
use Rattle.script_text.specs.Rules.{broken_rule}
use Rattle.script_laws.specs.Clean.{AreWords}
use Rattle.script_laws.specs.Texts.{has_short_lines, is_short, spaced}
use Rattle.script_laws.proofs.Texts.{first_line, plain_spaced, words_spaced}
use Rattle.small_laws.proofs.Tests.{and_first, and_second}

-- Where its lines are short, a text is read so far: what is left is read from this number and this draft on.
abbrev pub Step : ℕ → List ℕ → Drafted → ℕ → List ℕ → Drafted → Type 0
Step n text d m rest e = has_short_lines text ≡ true → (lines_read n (lines_of text) d ≡ lines_read m (lines_of rest) e) × (has_short_lines rest ≡ true)

pub stay : (n : ℕ) (text : List ℕ) (d : Drafted) → Step n text d n text d
stay n text d h = (refl, h)

pub joined : (n : ℕ) (text : List ℕ) (d : Drafted) (m : ℕ) (rest : List ℕ) (e : Drafted) (k : ℕ) (last : List ℕ) (f : Drafted) → Step n text d m rest e → Step m rest e k last f → Step n text d k last f
joined n text d m rest e k last f a b h = let p = a h in let q = b p.1 in (p.0 ∙ q.0, q.1)

pub from_text : (n : ℕ) (text same : List ℕ) (d : Drafted) (m : ℕ) (rest : List ℕ) (e : Drafted) → text ≡ same → Step n same d m rest e → Step n text d m rest e
from_text n text same d m rest e h s = subst (λ t. Step n t d m rest e) (sym h) s

pub to_draft : (n : ℕ) (text : List ℕ) (d : Drafted) (m : ℕ) (rest : List ℕ) (e f : Drafted) → e ≡ f → Step n text d m rest e → Step n text d m rest f
to_draft n text d m rest e f h s = subst (λ x. Step n text d m rest x) h s

pub to_number : (n : ℕ) (text : List ℕ) (d : Drafted) (m k : ℕ) (rest : List ℕ) (e : Drafted) → m ≡ k → Step n text d m rest e → Step n text d k rest e
to_number n text d m k rest e h s = subst (λ x. Step n text d x rest e) h s

not_long : (line : List ℕ) → is_short line ≡ true → ltb 4096 (length line) ≡ false
not_long line h = grind (arith, nat_tests)

plain_taken : (n : ℕ) (ws : List (List ℕ)) (d : Drafted) → AreWords ws → is_short (spaced ws) ≡ true → text_taken n (spaced ws) d ≡ words_taken n ws d
plain_taken n ws d w s =
    ap (λ b. if not b then Err NotAscii else (if ltb 4096 (length (spaced ws)) then Err LongLine else words_taken n (words_of (spaced ws)) d)) (plain_spaced ws w)
    ∙ ap (λ b. if b then Err LongLine else words_taken n (words_of (spaced ws)) d) (not_long (spaced ws) s)
    ∙ ap (λ x. words_taken n x d) (words_spaced ws w)

pub line_step : (n : ℕ) (ws : List (List ℕ)) (rest : List ℕ) (d e : Drafted) → AreWords ws → words_taken n ws d ≡ Ok e → Step n (spaced ws ++ (10 ∷ rest)) d (n + 1) rest e
line_step n ws rest d e w t short =
    let lines = first_line ws rest w in
    let each : list_all is_short (spaced ws ∷ lines_of rest) ≡ true = sym (ap (list_all is_short) lines) ∙ short in (
      ap (λ ls. lines_read n ls d) lines
          ∙ ap (λ r. go_on n r (λ next. lines_read (n + 1) (lines_of rest) next)) (plain_taken n ws d w (and_first (is_short (spaced ws)) (has_short_lines rest) each) ∙ t),
      and_second (is_short (spaced ws)) (has_short_lines rest) each,
    )

line_is_taken : (n : ℕ) (verb : Verb) (words : List (List ℕ)) (d : Drafted) (line : ScriptLine) (next : Drafted) → line_form verb d.block words ≡ Ok line → broken_rule d line ≡ None → taken n line d ≡ Ok next
    → line_taken n verb words d ≡ Ok (record next { section = Some (section_of verb) })
unfolding line_taken
line_is_taken n verb words d line next f r t =
    ap (λ x. x >>= (λ line. unless_broken (broken_rule d line) (taken n line d) >>= in_section verb)) f ∙ ap (λ x. unless_broken x (taken n line d) >>= in_section verb) r ∙ ap (λ x. x >>= in_section verb) t

-- A line of this verb in its place, whose words are read as this line, which breaks no rule.
pub verb_step : (n : ℕ) (first : List ℕ) (words : List (List ℕ)) (d : Drafted) (verb : Verb) (section : Section) (line : ScriptLine) (next : Drafted)
    → is_comment first ≡ false → verb_of first ≡ Some verb → d.section ≡ Some section → is_behind d.version verb d.section ≡ true
    → line_form verb d.block words ≡ Ok line → broken_rule d line ≡ None → taken n line d ≡ Ok next
    → words_taken n (first ∷ words) d ≡ Ok (record next { section = Some (section_of verb) })
verb_step n first words d verb section line next c v p b f r t =
    ap (λ x. if x then Ok d else words_behind d.section n (first ∷ words) d) c
    ∙ ap (λ q. words_behind q n (first ∷ words) d) p
    ∙ ap (λ o. verb_taken n o words d) v
    ∙ ap (λ x. if x then line_taken n verb words d else Err OutOfPlace) b
    ∙ line_is_taken n verb words d line next f r t

all_have_one : (version : ScriptVersion) → has_lines_of version One ≡ true
all_have_one One = refl
all_have_one Two = refl
all_have_one Three = refl

-- a line of version 1 stands behind a place that any version has before it
pub behind : (version : ScriptVersion) (verb : Verb) (section : Section) → version_of_verb verb ≡ One → comes_before section (section_of verb) (is_new version) ≡ true → is_behind version verb (Some section) ≡ true
behind version verb section v c = and_from (has_lines_of version (version_of_verb verb)) (comes_before section (section_of verb) (is_new version)) (ap (has_lines_of version) v ∙ all_have_one version) c

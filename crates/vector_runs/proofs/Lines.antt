-- The text of records, line by line.
use Rattle.std.proofs.Common.{ℕ, suc, ◌≡◌, ◌+◌, ◌<◌, ◌≤◌, List, [], ◌∷◌, ◌++◌, length, get_or, drop, sym, ap, ◌∙◌, add-one, drop-cons}
use Rattle.std.proofs.lemmas.List.{drop_all}
use Rattle.rig_api.specs.Log.{LogEntry, entry_at, no_entry}
use Rattle.rig_api.specs.declared.rig.Record.{Record}
use Rattle.vector_lines.specs.Printed.{in_of, vector_line}
use Rattle.vector_lines.specs.declared.line.VectorLine.{VectorLine}
use Rattle.vector_runs.specs.ListText.{line_text, lines_text}

-- the text from a line and its record on
pub next_line : (i k : ℕ) (ls : List VectorLine) (es : List LogEntry) (l : VectorLine) → l ≡ get_or ls i l → i < length ls → k < length es →
    lines_text (drop i ls) (drop k es) ≡ line_text l (entry_at es k) ++ lines_text (drop (i + 1) ls) (drop (k + 1) es)
next_line i k ls es l is h g =
    ap (λ (v : List VectorLine). lines_text v (drop k es)) (drop-cons ls i l h)
    ∙ ap (λ (v : List LogEntry). lines_text (get_or ls i l ∷ drop (suc i) ls) v) (drop-cons es k no_entry g)
    ∙ ap (λ (v : VectorLine). line_text v (entry_at es k) ++ lines_text (drop (suc i) ls) (drop (suc k) es)) (sym is)
    ∙ ap (λ n. line_text l (entry_at es k) ++ lines_text (drop n ls) (drop (suc k) es)) (sym (add-one i))
    ∙ ap (λ n. line_text l (entry_at es k) ++ lines_text (drop (i + 1) ls) (drop n es)) (sym (add-one k))

-- the line of a record, told by its parts
pub told_line : (es : List LogEntry) (i : ℕ) (l : VectorLine) (r : Record) (cdb moved sent came : List ℕ) → r ≡ (entry_at es i).what → cdb ≡ r.cdb → moved ≡ (entry_at es i).moved → sent ≡ l.out → came ≡ in_of cdb moved →
    vector_line r sent came ≡ line_text l (entry_at es i)
told_line es i l r cdb moved sent came er ec em es' ea =
    ap (λ v. vector_line r sent v) (ea ∙ ap (λ v. in_of v moved) (ec ∙ ap (λ (v : Record). v.cdb) er) ∙ ap (in_of (entry_at es i).what.cdb) em)
    ∙ ap (λ v. vector_line r v (in_of (entry_at es i).what.cdb (entry_at es i).moved)) es'
    ∙ ap (λ (v : Record). vector_line v l.out (in_of (entry_at es i).what.cdb (entry_at es i).moved)) er

-- behind the last line there is no text
pub no_lines : (i : ℕ) (ls : List VectorLine) (es : List LogEntry) → length ls ≤ i → lines_text (drop i ls) es ≡ []
no_lines i ls es h = ap (λ (v : List VectorLine). lines_text v es) (drop_all i ls h)

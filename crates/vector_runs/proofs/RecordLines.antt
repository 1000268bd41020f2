-- The text of records, one after another.
use Rattle.std.proofs.Common.{ℕ, ◌≡◌, ◌+◌, ◌<◌, ◌≤◌, List, [], ◌++◌, length, drop, sym, ap, ◌∙◌, add-one, drop-cons}
use Rattle.std.proofs.lemmas.List.{drop_all}
use Rattle.rig_api.specs.Log.{LogEntry, entry_at, no_entry}
use Rattle.rig_api.specs.declared.rig.Record.{Record}
use Rattle.vector_lines.specs.Printed.{in_of, out_of, vector_line}
use Rattle.vector_runs.specs.RecordText.{record_text, records_text}

pub next_text : (i : ℕ) (es : List LogEntry) → i < length es → records_text (drop i es) ≡ record_text (entry_at es i) ++ records_text (drop (i + 1) es)
next_text i es h = ap records_text (drop-cons es i no_entry h) ∙ ap (λ n. record_text (entry_at es i) ++ records_text (drop n es)) (sym (add-one i))

pub no_text : (i : ℕ) (es : List LogEntry) → length es ≤ i → records_text (drop i es) ≡ []
no_text i es h = ap records_text (drop_all i es h)

-- the line of a record, told by its parts
pub told_record : (es : List LogEntry) (i : ℕ) (r : Record) (cdb moved sent came : List ℕ) → r ≡ (entry_at es i).what → cdb ≡ r.cdb → moved ≡ (entry_at es i).moved → sent ≡ out_of cdb moved → came ≡ in_of cdb moved → vector_line r sent came ≡ record_text (entry_at es i)
told_record es i r cdb moved sent came er ec em eo ei =
    let e = entry_at es i in
    let k : cdb ≡ e.what.cdb = ec ∙ ap (λ (v : Record). v.cdb) er in
    ap (λ v. vector_line r sent v) (ei ∙ ap (λ v. in_of v moved) k ∙ ap (in_of e.what.cdb) em)
    ∙ ap (λ v. vector_line r v (in_of e.what.cdb e.moved)) (eo ∙ ap (λ v. out_of v moved) k ∙ ap (out_of e.what.cdb) em)
    ∙ ap (λ (v : Record). vector_line v (out_of e.what.cdb e.moved) (in_of e.what.cdb e.moved)) er

-- The pieces of each line and of each list of lines are the text.
use Rattle.std.proofs.Common.{ℕ, suc, ◌≡◌, ◌+◌, ◌<◌, ◌≤◌, Bool, true, false, cond, List, [], ◌∷◌, ◌++◌, length, drop, get_or, codes, decimal, refl, sym, ap, subst, ◌∙◌, add-one, drop-cons}
use Rattle.std.proofs.lemmas.List.{drop_all}
use Rattle.fault_schedule.specs.declared.Label.{Label}
use Rattle.rig_api.specs.Log.{LogEntry, entry_at, no_entry}
use Rattle.rig_api.specs.declared.rig.Record.{Record}
use Rattle.stack_ops.specs.declared.reply.BadBlock.{BadBlock}
use Rattle.stack_ops.specs.declared.reply.Reply.{Reply}
use Rattle.volume_table.specs.declared.entry.Entry.{Entry as Extent}
use Rattle.run_words.specs.Commands.{cdb_words, command_line, outcome_words}
use Rattle.run_words.specs.Sites.{AreInside}
use Rattle.run_words.specs.Texts.{all_listed, ended_lines, entry_lines, goes_on, listed_line, listed_lines, next_run, record_lines, reply_lines, run_line, run_lines, runs_from, runs_of}
use Rattle.run_words.specs.declared.guide.OpSite.{OpSite}
use Rattle.run_words.specs.declared.labels.Run.{Run}
use Rattle.script_laws.proofs.Front.{regroup as five}

-- a command's front, its words and its end
pub command_parts : (front cdb end : List ℕ) (number : ℕ) (r : Record) → front ≡ codes "command " ++ (decimal number ++ (codes " dev " ++ (decimal r.dev ++ codes " "))) → cdb ≡ r.cdb → end ≡ outcome_words r.outcome → front ++ (cdb_words cdb ++ end) ≡ command_line number r
command_parts front cdb end number r e d f =
    ap (λ g. front ++ (cdb_words g ++ end)) d ∙ ap (λ g. front ++ (cdb_words r.cdb ++ g)) f ∙ ap (λ g. g ++ (cdb_words r.cdb ++ outcome_words r.outcome)) e
    ∙ five (codes "command ") (decimal number) (codes " dev ") (decimal r.dev) (codes " ") (cdb_words r.cdb ++ outcome_words r.outcome)

next_entry : (n i : ℕ) (sites : List OpSite) (es : List LogEntry) → i < length es → record_lines n sites (drop i es) ≡ entry_lines n sites (entry_at es i) ++ record_lines (n + 1) sites (drop (i + 1) es)
next_entry n i sites es h =
    ap (record_lines n sites) (drop-cons es i no_entry h) ∙ ap (λ k. entry_lines n sites (entry_at es i) ++ record_lines (n + 1) sites (drop k es)) (sym (add-one i))

pub next_record : (n m i : ℕ) (sites : List OpSite) (es : List LogEntry) (what : Record) (labels : List Label) → i < length es → m ≡ n → what ≡ (entry_at es i).what → labels ≡ (entry_at es i).labels →
    record_lines n sites (drop i es) ≡ (command_line m what ++ run_lines sites (runs_of labels)) ++ record_lines (n + 1) sites (drop (i + 1) es)
next_record n m i sites es what labels h e f d =
    let rest = record_lines (n + 1) sites (drop (i + 1) es) in
    next_entry n i sites es h ∙ ap (λ x. (command_line x (entry_at es i).what ++ run_lines sites (runs_of (entry_at es i).labels)) ++ rest) (sym e)
    ∙ ap (λ x. (command_line m x ++ run_lines sites (runs_of (entry_at es i).labels)) ++ rest) (sym f) ∙ ap (λ x. (command_line m what ++ run_lines sites (runs_of x)) ++ rest) (sym d)

pub next_listed : (entries : List Extent) (number i : ℕ) (s : OpSite) (bs : List BadBlock) (b : BadBlock) (line : List ℕ) → i < length bs → line ≡ listed_line entries number s (get_or bs i b) → listed_lines entries number s (drop i bs) ≡ line ++ listed_lines entries number s (drop (i + 1) bs)
next_listed entries number i s bs b line h e =
    ap (listed_lines entries number s) (drop-cons bs i b h) ∙ ap (λ k. listed_line entries number s (get_or bs i b) ++ listed_lines entries number s (drop k bs)) (sym (add-one i)) ∙ ap (λ x. x ++ listed_lines entries number s (drop (i + 1) bs)) (sym e)

pub next_reply : (entries : List Extent) (number i : ℕ) (s : OpSite) (sites : List OpSite) (rs : List Reply) (r : Reply) → i < length rs → r ≡ get_or rs i r → all_listed entries number (s ∷ sites) (drop i rs) ≡ reply_lines entries number s r ++ all_listed entries (number + 1) sites (drop (i + 1) rs)
next_reply entries number i s sites rs r h e =
    ap (all_listed entries number (s ∷ sites)) (drop-cons rs i r h) ∙ ap (λ k. reply_lines entries number s (get_or rs i r) ++ all_listed entries (number + 1) sites (drop k rs)) (sym (add-one i)) ∙ ap (λ x. reply_lines entries number s x ++ all_listed entries (number + 1) sites (drop (i + 1) rs)) (sym e)

pub inside_next : (most i : ℕ) (s : OpSite) (sites : List OpSite) (rs : List Reply) (r : Reply) → i < length rs → AreInside most (s ∷ sites) (drop i rs) → AreInside most sites (drop (i + 1) rs)
inside_next most i s sites rs r l h =
    let both = subst (λ x. AreInside most (s ∷ sites) x) (drop-cons rs i r l) h in
    subst (λ k. AreInside most sites (drop k rs)) (sym (add-one i)) both.1

pub none_listed : (entries : List Extent) (number : ℕ) (sites : List OpSite) → all_listed entries number sites [] ≡ []
none_listed entries number [] = refl
none_listed entries number (s ∷ sites) = refl

-- ---- runs of labels

by_test : (t : Bool) (sites : List OpSite) (r : Run) (rest : List Run) → run_lines sites (cond t rest (r ∷ rest)) ≡ cond t [] (run_line sites r) ++ run_lines sites rest
by_test true sites r rest = refl
by_test false sites r rest = refl

pub next_label : (sites : List OpSite) (r : Run) (i : ℕ) (ls : List Label) (l : Label) → i < length ls → run_lines sites (runs_from r (drop i ls)) ≡ ended_lines sites r (get_or ls i l) ++ run_lines sites (runs_from (next_run r (get_or ls i l)) (drop (i + 1) ls))
next_label sites r i ls l h =
    ap (λ x. run_lines sites (runs_from r x)) (drop-cons ls i l h) ∙ by_test (goes_on r (get_or ls i l)) sites r (runs_from (next_run r (get_or ls i l)) (drop (suc i) ls))
    ∙ ap (λ k. ended_lines sites r (get_or ls i l) ++ run_lines sites (runs_from (next_run r (get_or ls i l)) (drop k ls))) (sym (add-one i))

pub last_run : (sites : List OpSite) (r : Run) (i : ℕ) (ls : List Label) (line : List ℕ) → length ls ≤ i → line ≡ run_line sites r → run_lines sites (runs_from r (drop i ls)) ≡ line ++ []
last_run sites r i ls line h e = ap (λ x. run_lines sites (runs_from r x)) (drop_all i ls h) ∙ ap (λ x. x ++ []) (sym e)

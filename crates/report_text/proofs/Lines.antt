-- The pieces of each line of a report or trace are the line.
use Rattle.std.proofs.Common.{ℕ, zero, true, ◌≡◌, ◌+◌, ◌<◌, ◌≤◌, suc, List, [], ◌∷◌, ◌++◌, length, take, drop, get_or, codes, decimal, refl, sym, ap, ◌∙◌, arith, add-one, append_assoc, drop-cons}
use Rattle.std.proofs.lemmas.List.{take-append-drop}
use Rattle.hex.specs.Hex.{encode_lower, encode_with, lower_digits}
use Rattle.stack_ops.specs.declared.reply.BadBlock.{BadBlock}
use Rattle.stack_ops.specs.declared.reply.Reply.{Reply}
use Rattle.report_text.specs.Report.{bad_line, bad_lines, lines_from, lines_of, op_line}
use Rattle.report_text.specs.Trace.{trace, trace_line, sense_text}
use Rattle.rig_api.specs.declared.rig.Record.{Record}
use Rattle.rig_api.specs.Log.{LogEntry, entry_at, has_key, have_keys, no_entry}
use Rattle.small_laws.proofs.Tests.{and_first, and_second}

pub shown : (front : List ℕ) (number : ℕ) (hex : List ℕ) → front ≡ codes "op " ++ (decimal number ++ codes " ") → front ++ (hex ++ codes "\n") ≡ op_line number hex
shown front number hex e = ap (λ f. f ++ (hex ++ codes "\n")) e ∙ append_assoc (codes "op ") (decimal number ++ codes " ") (hex ++ codes "\n") ∙ ap (λ r. codes "op " ++ r) (append_assoc (decimal number) (codes " ") (hex ++ codes "\n"))

pub traced : (front cdb end : List ℕ) (r : Record) → front ≡ codes "x " ++ (decimal r.dev ++ codes " ") → cdb ≡ r.cdb → end ≡ codes " " ++ (decimal r.outcome.done ++ (codes " " ++ (sense_text r.outcome.sense ++ codes "\n"))) → front ++ (encode_lower cdb ++ end) ≡ trace_line r
traced front cdb end r e d f =
    ap (λ g. front ++ (encode_lower g ++ end)) d ∙ ap (λ g. front ++ (encode_lower r.cdb ++ g)) f
    ∙ ap (λ g. g ++ (encode_lower r.cdb ++ (codes " " ++ (decimal r.outcome.done ++ (codes " " ++ (sense_text r.outcome.sense ++ codes "\n")))))) e
    ∙ ap (λ g. codes "x " ++ g) (append_assoc (decimal r.dev) (codes " ") (encode_lower r.cdb ++ (codes " " ++ (decimal r.outcome.done ++ (codes " " ++ (sense_text r.outcome.sense ++ codes "\n"))))))

hex_both : (t xs ys : List ℕ) → encode_with t (xs ++ ys) ≡ encode_with t xs ++ encode_with t ys
unfolding encode_with
hex_both t [] ys = refl
hex_both t (x ∷ xs) ys = rw (hex_both t xs ys) refl

-- the digits of the first n bytes, and those of the others
pub hex_parts : (n : ℕ) (xs : List ℕ) → encode_lower (take n xs) ++ encode_lower (drop n xs) ≡ encode_lower xs
hex_parts n xs = sym (hex_both lower_digits (take n xs) (drop n xs)) ∙ ap encode_lower (take-append-drop n xs)

pub next_bad : (number i : ℕ) (bs : List BadBlock) (b : BadBlock) (line : List ℕ) → i < length bs → line ≡ bad_line number (get_or bs i b) → bad_lines number (drop i bs) ≡ line ++ bad_lines number (drop (i + 1) bs)
next_bad number i bs b line h e =
    ap (bad_lines number) (drop-cons bs i b h) ∙ ap (λ k. bad_line number (get_or bs i b) ++ bad_lines number (drop k bs)) (sym (add-one i)) ∙ ap (λ x. x ++ bad_lines number (drop (i + 1) bs)) (sym e)

pub next_reply : (i : ℕ) (rs : List Reply) (r : Reply) → i < length rs → r ≡ get_or rs i r → lines_from (i + 1) (drop i rs) ≡ lines_of (i + 1) r ++ lines_from (i + 1 + 1) (drop (i + 1) rs)
next_reply i rs r h e =
    ap (lines_from (i + 1)) (drop-cons rs i r h) ∙ ap (λ k. lines_of (i + 1) (get_or rs i r) ++ lines_from (i + 1 + 1) (drop k rs)) (sym (add-one i)) ∙ ap (λ x. lines_of (i + 1) x ++ lines_from (i + 1 + 1) (drop (i + 1) rs)) (sym e)

pub next_record : (i : ℕ) (es : List LogEntry) (r : Record) → i < length es → r ≡ (entry_at es i).what → trace (drop i es) ≡ trace_line r ++ trace (drop (i + 1) es)
next_record i es r h e =
    ap trace (drop-cons es i no_entry h) ∙ ap (λ k. trace_line (entry_at es i).what ++ trace (drop k es)) (sym (add-one i)) ∙ ap (λ x. trace_line x ++ trace (drop (i + 1) es)) (sym e)

pub keyed_at : (es : List LogEntry) (i : ℕ) → have_keys es ≡ true → has_key (entry_at es i).what.outcome.sense ≡ true
keyed_at [] i k = refl
keyed_at (e ∷ es) zero k = and_first (has_key e.what.outcome.sense) (have_keys es) k
keyed_at (e ∷ es) (suc i) k = keyed_at es i (and_second (has_key e.what.outcome.sense) (have_keys es) k)

pub keyed : (es : List LogEntry) (i : ℕ) (r : Record) → have_keys es ≡ true → r ≡ (entry_at es i).what → has_key r.outcome.sense ≡ true
keyed es i r k e = ap (λ x. has_key x.outcome.sense) e ∙ keyed_at es i k

pub hex_end : (xs : List ℕ) → length xs ≤ 0 → encode_lower xs ≡ []
unfolding encode_with
hex_end [] h = refl
hex_end (x ∷ xs) h = absurd (omega arith)

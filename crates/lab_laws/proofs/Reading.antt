-- The text of vectors is read back as a list.
use Rattle.std.proofs.Common.{◌≡◌, ℕ, ◌+◌, ◌-◌, ◌≤◌, ◌^◌, Bool, true, false, not, if◌then◌else◌, List, [], ◌∷◌, ◌++◌, length, append_assoc, append-nil, Option, Some, None, refl, sym, ap, ◌∙◌, arith}
use Rattle.std.specs.Prelude.{codes, decimal, nat_lt, IfSome, Ok, Err}
use Rattle.std.specs.List.{AllByRecursion as Each}
use Rattle.std.specs.Str.{bytes_eq}
use Rattle.std.proofs.lemmas.Slice.Eq.{bytes_eq-Decides}
use Rattle.std.proofs.lemmas.Bool.Decides.{nat_tests}
use Rattle.hex.specs.Hex.{IsBytes, encode_lower, lower_digits}
use Rattle.hex.proofs.HexLemmas.{length-encode_with}
use Rattle.sense_codes.specs.Written.{descriptor, fixed as fixed_form, written, written_with}
use Rattle.sense_codes.specs.declared.Sense.{Sense}
use Rattle.report_text.specs.Trace.{sense_text}
use Rattle.rig_api.specs.Log.{LogEntry}
use Rattle.script_words.specs.Cuts.{lines_of as cut_lines, words_of}
use Rattle.script_words.specs.Hexes.{hex_in}
use Rattle.script_words.specs.Places.{word32}
use Rattle.script_lines.specs.declared.kind.ScriptKind.TheVariants.{NotAscii, TooMany}
use Rattle.script_lines.specs.Reading.{◌>>=◌, or_bad, value}
use Rattle.script_laws.specs.Clean.{AreWords, IsWord}
use Rattle.script_laws.specs.Texts.{spaced}
use Rattle.script_laws.proofs.Clean.{decimal_word}
use Rattle.script_laws.proofs.Texts.{first_line as cut_first, plain_spaced, words_spaced}
use Rattle.script_laws.proofs.Words.{hex_back, hex_word, within_back}
use Rattle.vector_lines.specs.Lines.{line_form, most_out, out_in}
use Rattle.vector_lines.specs.Printed.{in_of, is_write, out_of, word_text}
use Rattle.vector_lines.specs.Texts.{added, go_on, head_read, lines_read, text_taken, words_taken}
use Rattle.vector_lines.specs.declared.line.VectorLine.{VectorLine}
use Rattle.vector_runs.specs.RecordText.{record_text, records_text, vectors_text}
use Rattle.lab_laws.specs.Again.{IsWritten, TextReads, lines_of}

-- ---- words

-- the digits of bytes, or a hyphen
abbrev hexes : List ℕ → List ℕ
hexes [] = codes "-"
hexes (b ∷ bs) = encode_lower (b ∷ bs)

a_word : (xs : List ℕ) → word_text xs ≡ 32 ∷ hexes xs
a_word [] = refl
a_word (b ∷ bs) = refl

hexes_word : (xs : List ℕ) → IsBytes xs → IsWord (hexes xs)
hexes_word [] h = record { clean_is = refl; filled_is = refl }
hexes_word (b ∷ bs) h = hex_word (b ∷ bs) h (omega arith)

written_some : (s : Sense) → 1 ≤ length (written s)
written_some s = by s.info
  where
    form : (c : Bool) (info : ℕ) → 1 ≤ length (if c then fixed_form 0xF0 info s else descriptor info s)
    form true info = omega arith
    form false info = omega arith

    by : (o : Option ℕ) → 1 ≤ length (written_with o s)
    by None = omega arith
    by (Some info) = form _ info

sense_word : (o : Option Sense) → IfSome o (λ s. IsBytes (written s)) → IsWord (sense_text o)
sense_word None h = record { clean_is = refl; filled_is = refl }
sense_word (Some s) h = hex_word (written s) h (written_some s)

chosen_bytes : (c : Bool) (xs : List ℕ) → IsBytes xs → IsBytes (if c then xs else [])
chosen_bytes true xs h = h
chosen_bytes false xs h = λ i. omega arith

other_bytes : (c : Bool) (xs : List ℕ) → IsBytes xs → IsBytes (if c then [] else xs)
other_bytes true xs h = λ i. omega arith
other_bytes false xs h = h

chosen_few : (c : Bool) (xs : List ℕ) (n : ℕ) → length xs ≤ n → length (if c then xs else []) ≤ n
chosen_few true xs n h = h
chosen_few false xs n h = omega arith

-- a line is these words
abbrev words : LogEntry → List (List ℕ)
words e = codes "v" ∷ decimal e.what.dev ∷ hexes e.what.cdb ∷ hexes (out_of e.what.cdb e.moved) ∷ decimal e.what.outcome.done ∷ sense_text e.what.outcome.sense ∷ hexes (in_of e.what.cdb e.moved) ∷ []

are_words : (e : LogEntry) → IsWritten e → AreWords (words e)
are_words e h = (
  record { clean_is = refl; filled_is = refl },
  (
    decimal_word e.what.dev (let d = h.dev in omega (arith, d)),
    (hexes_word e.what.cdb h.cdb, (hexes_word (out_of e.what.cdb e.moved) (chosen_bytes (is_write e.what.cdb) e.moved h.moved), (decimal_word e.what.outcome.done h.done, (sense_word e.what.outcome.sense h.sense, (hexes_word (in_of e.what.cdb e.moved) (other_bytes (is_write e.what.cdb) e.moved h.moved), tt))))),
  ),
)

-- spaces stand between them, and a newline behind
module _ (d c o n s i rest : List ℕ) where
  abbrev q5 : List ℕ
  q5 = i ++ (10 ∷ rest)

  abbrev q4 : List ℕ
  q4 = s ++ (32 ∷ q5)

  abbrev q3 : List ℕ
  q3 = n ++ (32 ∷ q4)

  abbrev q2 : List ℕ
  q2 = o ++ (32 ∷ q3)

  abbrev q1 : List ℕ
  q1 = c ++ (32 ∷ q2)

  written_out : (((codes "v " ++ d) ++ (32 ∷ c)) ++ ((32 ∷ o) ++ ((32 ∷ (n ++ (32 ∷ s))) ++ ((32 ∷ i) ++ (10 ∷ []))))) ++ rest ≡ codes "v " ++ (d ++ (32 ∷ q1))
  written_out =
      let x3 : List ℕ = 32 ∷ (i ++ (10 ∷ [])) in
      let x2 : List ℕ = 32 ∷ ((n ++ (32 ∷ s)) ++ x3) in
      let x1 : List ℕ = 32 ∷ (o ++ x2) in
      let e3 : (i ++ (10 ∷ [])) ++ rest ≡ q5 = append_assoc i (10 ∷ []) rest in
      let e2 : ((n ++ (32 ∷ s)) ++ x3) ++ rest ≡ q3 = append_assoc (n ++ (32 ∷ s)) x3 rest ∙ append_assoc n (32 ∷ s) (x3 ++ rest) ∙ ap (λ z. n ++ (32 ∷ (s ++ (32 ∷ z)))) e3 in
      let e1 : (o ++ x2) ++ rest ≡ q2 = append_assoc o x2 rest ∙ ap (λ z. o ++ (32 ∷ z)) e2 in
      let e0 : ((d ++ (32 ∷ c)) ++ x1) ++ rest ≡ d ++ (32 ∷ q1) = append_assoc (d ++ (32 ∷ c)) x1 rest ∙ append_assoc d (32 ∷ c) (x1 ++ rest) ∙ ap (λ z. d ++ (32 ∷ (c ++ (32 ∷ z)))) e1 in
      ap (λ z. 118 ∷ 32 ∷ z) e0

  spaced_out : spaced (codes "v" ∷ d ∷ c ∷ o ∷ n ∷ s ∷ i ∷ []) ++ (10 ∷ rest) ≡ codes "v " ++ (d ++ (32 ∷ q1))
  spaced_out =
      let t : List ℕ = 10 ∷ rest in
      let y4 : List ℕ = s ++ (32 ∷ i) in
      let y3 : List ℕ = n ++ (32 ∷ y4) in
      let y2 : List ℕ = o ++ (32 ∷ y3) in
      let y1 : List ℕ = c ++ (32 ∷ y2) in
      let f4 : y4 ++ t ≡ q4 = append_assoc s (32 ∷ i) t in
      let f3 : y3 ++ t ≡ q3 = append_assoc n (32 ∷ y4) t ∙ ap (λ z. n ++ (32 ∷ z)) f4 in
      let f2 : y2 ++ t ≡ q2 = append_assoc o (32 ∷ y3) t ∙ ap (λ z. o ++ (32 ∷ z)) f3 in
      let f1 : y1 ++ t ≡ q1 = append_assoc c (32 ∷ y2) t ∙ ap (λ z. c ++ (32 ∷ z)) f2 in
      ap (λ z. 118 ∷ 32 ∷ z) (append_assoc d (32 ∷ y1) t ∙ ap (λ z. d ++ (32 ∷ z)) f1)

line_out : (e : LogEntry) (rest : List ℕ) → record_text e ++ rest ≡ spaced (words e) ++ (10 ∷ rest)
line_out e rest =
    let d = decimal e.what.dev in
    let n = decimal e.what.outcome.done in
    let s = sense_text e.what.outcome.sense in
    let cdb = e.what.cdb in
    let out = out_of cdb e.moved in
    let came = in_of cdb e.moved in
    let put : (x y z : List ℕ) → List ℕ = λ x y z. (((codes "v " ++ d) ++ x) ++ (y ++ ((32 ∷ (n ++ (32 ∷ s))) ++ (z ++ (10 ∷ []))))) ++ rest in
    ap (λ x. put x (word_text out) (word_text came)) (a_word cdb) ∙ ap (λ y. put (32 ∷ hexes cdb) y (word_text came)) (a_word out) ∙ ap (put (32 ∷ hexes cdb) (32 ∷ hexes out)) (a_word came)
    ∙ written_out d (hexes cdb) (hexes out) n s (hexes came) rest ∙ sym (spaced_out d (hexes cdb) (hexes out) n s (hexes came) rest)

-- ---- reading

digits_only : (b : ℕ) (bs : List ℕ) → bytes_eq (encode_lower (b ∷ bs)) (codes "-") ≡ false
digits_only b bs = by (bytes_eq (encode_lower (b ∷ bs)) (codes "-")) refl
  where
    by : (c : Bool) → bytes_eq (encode_lower (b ∷ bs)) (codes "-") ≡ c → c ≡ false
    by false e = refl
    by true e =
        let l = ap length ((bytes_eq-Decides (encode_lower (b ∷ bs)) (codes "-")).0 e) in
        let k = length-encode_with lower_digits (b ∷ bs) in
        absurd (omega (arith, l, k))

out_back : (xs : List ℕ) → IsBytes xs → length xs ≤ 2097152 → out_in (hexes xs) ≡ Some xs
out_back [] h l = refl
out_back (b ∷ bs) h l = ap (λ t. if t then Some [] else hex_in most_out (encode_lower (b ∷ bs))) (digits_only b bs) ∙ hex_back most_out (b ∷ bs) h (omega arith) l

cdb_back : (xs : List ℕ) → IsBytes xs → 1 ≤ length xs → length xs ≤ 32 → hex_in 32 (hexes xs) ≡ Some xs
cdb_back [] h k l = absurd (omega (arith, k))
cdb_back (b ∷ bs) h k l = hex_back 32 (b ∷ bs) h k l

module _ (number dev : ℕ) (cdb out : List ℕ) where
  abbrev Rest : Type 0
  Rest = List (List ℕ)

  read_form : (d c o : List ℕ) (rest : Rest) → word32 d ≡ Some dev → hex_in 32 c ≡ Some cdb → out_in o ≡ Some out → line_form number (codes "v" ∷ d ∷ c ∷ o ∷ rest) ≡ Ok (record { number = number; dev = dev; cdb = cdb; out = out })
  read_form d c o rest p q r =
      ap (λ x. or_bad x (c ∷ o ∷ rest) >>= (λ a. value (hex_in 32) a.1 >>= (λ b. value out_in b.1 >>= (λ e. Ok (record { number = number; dev = a.0; cdb = b.0; out = e.0 }))))) p
      ∙ ap (λ x. or_bad x (o ∷ rest) >>= (λ b. value out_in b.1 >>= (λ e. Ok (record { number = number; dev = dev; cdb = b.0; out = e.0 })))) q
      ∙ ap (λ x. or_bad x rest >>= (λ e. Ok (record { number = number; dev = dev; cdb = cdb; out = e.0 }))) r

abbrev line_by : ℕ → LogEntry → VectorLine
line_by n e = record { number = n; dev = e.what.dev; cdb = e.what.cdb; out = out_of e.what.cdb e.moved }

taken_line : (n : ℕ) (e : LogEntry) (so_far : List VectorLine) → IsWritten e → text_taken n (spaced (words e)) so_far ≡ Ok (so_far ++ (line_by n e ∷ []))
taken_line n e so_far h =
    let w = are_words e h in
    let form = read_form n e.what.dev e.what.cdb (out_of e.what.cdb e.moved) (decimal e.what.dev) (hexes e.what.cdb) (hexes (out_of e.what.cdb e.moved)) (decimal e.what.outcome.done ∷ sense_text e.what.outcome.sense ∷ hexes (in_of e.what.cdb e.moved) ∷ [])
    (within_back 0 (2 ^ 32 - 1) e.what.dev (omega arith) (let d = h.dev in omega (arith, d)) (let d = h.dev in omega (arith, d)))
    (cdb_back e.what.cdb h.cdb h.some h.few) (out_back (out_of e.what.cdb e.moved) (chosen_bytes (is_write e.what.cdb) e.moved h.moved) (chosen_few (is_write e.what.cdb) e.moved 2097152 h.most)) in
    ap (λ b. if not b then Err NotAscii else words_taken n (words_of (spaced (words e))) so_far) (plain_spaced (words e) w)
    ∙ ap (λ ws. words_taken n ws so_far) (words_spaced (words e) w) ∙ ap (added so_far) form

all_read : (n : ℕ) (es : List LogEntry) (so_far : List VectorLine) → Each IsWritten es → lines_read n (cut_lines (records_text es)) so_far ≡ Ok (so_far ++ lines_of n es)
all_read n [] so_far h = ap (λ ls. Ok ls) (sym (append-nil so_far))
all_read n (e ∷ es) so_far h =
    let w = are_words e h.0 in
    let line = line_by n e in
    ap (λ ls. lines_read n ls so_far) (ap cut_lines (line_out e (records_text es)) ∙ cut_first (words e) (records_text es) w)
    ∙ ap (λ t. go_on n t (λ next. lines_read (n + 1) (cut_lines (records_text es)) next)) (taken_line n e so_far h.0)
    ∙ all_read (n + 1) es (so_far ++ (line ∷ [])) h.1 ∙ ap (λ ls. Ok ls) (append_assoc so_far (line ∷ []) (lines_of (n + 1) es))

abbrev head_words : List (List ℕ)
head_words = codes "dix" ∷ codes "vectors" ∷ codes "1" ∷ []

are_head : AreWords head_words
are_head = (record { clean_is = refl; filled_is = refl }, (record { clean_is = refl; filled_is = refl }, (record { clean_is = refl; filled_is = refl }, tt)))

head_done : (lines : List (List ℕ)) → head_read 1 (spaced head_words ∷ lines) ≡ lines_read 2 lines []
head_done lines = refl

short_text : (n : ℕ) → n ≤ 4194304 → nat_lt 4194304 n ≡ false
short_text n h = grind (arith, nat_tests, h)

pub text_reads : TextReads
text_reads es h l =
    ap (λ b. if b then Err (record { line = 0; kind = TooMany }) else head_read 1 (cut_lines (vectors_text es))) (short_text (length (vectors_text es)) l)
    ∙ ap (head_read 1) (cut_first head_words (records_text es) are_head) ∙ head_done (cut_lines (records_text es)) ∙ all_read 2 es [] h

-- The line of a text that adds an entry to its volume.
use Rattle.std.proofs.Common.{ℕ, zero, suc, ◌≡◌, ◌+◌, ◌<◌, ◌≤◌, ◌^◌, false, cond, List, [], ◌∷◌, length, Option, Some, None, refl, sym, ap, ◌∙◌, arith}
use Rattle.std.specs.List.{position}
use Rattle.std.proofs.lemmas.List.{length-drop}
use Rattle.script_words.specs.Cuts.{Cut, cut, cut_by, is_byte, lines_of}
use Rattle.script_words.proofs.Cutting.{line_cut, line_last}
use Rattle.fault_marks.specs.Entries.{adds_entry, entry_from}
use Rattle.fault_marks.specs.Words.{behind_newline, text_behind}

-- the text behind one line more
behind_next : (n : ℕ) (text : List ℕ) → text_behind (suc n) text ≡ behind_newline (cut 10 (text_behind n text))
behind_next zero text = refl
behind_next (suc n) text = behind_next n (behind_newline (cut 10 text))

tail_by : (text line more : List ℕ) (c : Option Cut) → cut 10 text ≡ c → (length text ≡ 0 → ⊥) → lines_of text ≡ line ∷ lines_of more → lines_of more ≡ lines_of (behind_newline c)
tail_by text line more None e n h = let k : line ∷ lines_of more ≡ text ∷ [] = sym h ∙ line_last text e n in cc
tail_by text line more (Some c) e n h = let k : line ∷ lines_of more ≡ c.before ∷ lines_of c.after = sym h ∙ line_cut text c.before c.after e in cc

-- the lines behind the first of a text
pub tail_lines : (text line more : List ℕ) → (length text ≡ 0 → ⊥) → lines_of text ≡ line ∷ lines_of more → lines_of more ≡ lines_of (behind_newline (cut 10 text))
tail_lines text line more n h = tail_by text line more (cut 10 text) refl n h

-- ---- the line that adds an entry

pub entry_next : (text rest line more : List ℕ) (entry before : ℕ) (want : Option (ℕ × List ℕ)) → (length rest ≡ 0 → ⊥) → lines_of rest ≡ line ∷ lines_of more → adds_entry text entry before line ≡ false → entry_from text entry before (lines_of rest) ≡ want →
    entry_from text entry (before + 1) (lines_of (behind_newline (cut 10 rest))) ≡ want
entry_next text rest line more entry before want n h a k =
    ap (entry_from text entry (before + 1)) (sym (tail_lines rest line more n h))
    ∙ (ap (λ b. cond b (Some (before + 1, line)) (entry_from text entry (before + 1) (lines_of more))) (sym a) ∙ (ap (entry_from text entry before) (sym h) ∙ k))

-- ---- the text behind its first line

pub one_more : (n : ℕ) (text rest behind : List ℕ) → rest ≡ text_behind n text → behind ≡ behind_newline (cut 10 rest) → behind ≡ text_behind (n + 1) text
one_more n text rest behind h e =
    let k : n + 1 ≡ suc n = omega arith in
    e ∙ (ap (λ x. behind_newline (cut 10 x)) h ∙ sym (ap (λ m. text_behind m text) k ∙ behind_next n text))

after_shorter : (text : List ℕ) (p : Option ℕ) → 0 < length text → length (behind_newline (cut_by text p)) < length text
after_shorter text None h = h
after_shorter text (Some i) h = let e = length-drop (i + 1) text in omega (arith, e, h)

pub behind_shorter : (text behind : List ℕ) → 0 < length text → behind ≡ behind_newline (cut 10 text) → length behind < length text
behind_shorter text behind h e = let k = after_shorter text (position (is_byte 10) text) h in let s : length behind ≡ length (behind_newline (cut 10 text)) = ap length e in omega (arith, k, s)

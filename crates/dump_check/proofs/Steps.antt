-- Blocks one after another: their lines and what is counted of them, block by block and piece by piece.
use Rattle.std.proofs.Common.{ℕ, suc, zero, ◌≡◌, ◌+◌, ◌-◌, ◌*◌, ◌/◌, ◌%◌, ◌<◌, ◌≤◌, List, [], ◌∷◌, ◌++◌, length, take, drop, refl, sym, ap, ◌∙◌, arith, append_assoc}
use Rattle.rig_api.specs.Frames.{frames_of}
use Rattle.image_text.proofs.Frames.{next_frame}
use Rattle.dump_check.specs.declared.finding.Judgement.{Judgement}
use Rattle.dump_check.specs.declared.form.Dump.{Dump}
use Rattle.dump_check.specs.declared.form.Form.{Form}
use Rattle.dump_check.specs.declared.tally.DumpTally.{DumpTally}
use Rattle.dump_check.specs.Finding.{found_of}
use Rattle.dump_check.specs.Lines.{block_text, blocks_text}
use Rattle.dump_check.specs.Tallies.{counted, counted_all}

-- the next block's line, and those behind it
pub lines_at : (d : Dump) (i len m n : ℕ) (rest block more : List ℕ) → m ≡ len → block ≡ take m rest → more ≡ drop m rest → 0 < n →
    blocks_text d i (frames_of len n rest) ≡ block_text d i block ++ blocks_text d (i + 1) (frames_of len (n - 1) more)
lines_at d i len m n rest block more e b r h = rw (b, r, e) (ap (blocks_text d i) (next_frame len n rest h))

-- and what is counted of it
pub tally_at : (f : Form) (t next : DumpTally) (found : Judgement) (len m n : ℕ) (rest block more : List ℕ) → m ≡ len → block ≡ take m rest → more ≡ drop m rest → 0 < n → found ≡ found_of f t.blocks block → next ≡ counted t found →
    counted_all f next (frames_of len (n - 1) more) ≡ counted_all f t (frames_of len n rest)
tally_at f t next found len m n rest block more e b r h w c =
    let whole : counted_all f t (frames_of len n rest) ≡ counted_all f (counted t (found_of f t.blocks (take len rest))) (frames_of len (n - 1) (drop len rest)) = ap (counted_all f t) (next_frame len n rest h) in
    let same : block ≡ take len rest = b ∙ ap (λ (k : ℕ). take k rest) e in
    let left : more ≡ drop len rest = r ∙ ap (λ (k : ℕ). drop k rest) e in
    let now : next ≡ counted t (found_of f t.blocks (take len rest)) = c ∙ ap (counted t) (w ∙ ap (found_of f t.blocks) same) in
    ap (λ (u : DumpTally). counted_all f u (frames_of len (n - 1) more)) now ∙ ap (λ (x : List ℕ). counted_all f (counted t (found_of f t.blocks (take len rest))) (frames_of len (n - 1) x)) left ∙ sym whole

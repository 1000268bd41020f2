-- Bytes copied in pieces, and blocks that are written as a part of all bytes.
use Rattle.std.proofs.Common.{◌≡◌, ℕ, ◌+◌, ◌-◌, ◌≤◌, List, ◌++◌, length, take, drop, ap, ◌∙◌, sym, arith}
use Rattle.std.proofs.lemmas.List.{append_assoc, length-append, length-drop, length-take-le, take_at}
use Rattle.std.proofs.Math.Seq.{take-add}
use borrow.Rule.Slice.PartMut.{post_of, put_mid}

-- one more piece is copied
pub copied_on : (done k : ℕ) (out piece all left : List ℕ) → done + k ≤ length out → length piece ≡ k → piece ≡ take k left → left ≡ drop done all → take done out ≡ take done all →
    take (done + k) (put_mid done (done + k - done) out piece) ≡ take (done + k) all
copied_on done k out piece all left fits long e l before =
    let rest = post_of done (done + k - done) out in
    let first = length-take-le done out (omega arith) in
    let both = length-append (take done out) piece in
    ap (take (done + k)) (sym (append_assoc (take done out) piece rest)) ∙ (take_at (take done out ++ piece) rest (done + k) (omega arith)
    ∙ (ap (λ (x : List ℕ). x ++ piece) before ∙ (ap (λ (x : List ℕ). take done all ++ x) (e ∙ ap (take k) l) ∙ sym (take-add done k all))))

-- a part that is written with as many bytes leaves their number
pub part-length : (done k : ℕ) (out piece : List ℕ) → done + k ≤ length out → length piece ≡ k → length (put_mid done (done + k - done) out piece) ≡ length out
part-length done k out piece fits long =
    let first = length-take-le done out (omega arith) in
    let there = length-drop done out in
    let rest = length-drop (done + k - done) (drop done out) in
    let both = length-append (take done out) (piece ++ post_of done (done + k - done) out) in
    let behind = length-append piece (post_of done (done + k - done) out) in
    omega arith

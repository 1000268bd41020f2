-- Pieces written into parts: the bytes before a place and those from it on.
use Rattle.std.proofs.Common.{◌≡◌, ℕ, zero, suc, ◌+◌, ◌≤◌, List, [], ◌∷◌, ◌++◌, length, map, take, drop, refl, ap, ◌∙◌, sym, add-one, arith}
use Rattle.std.proofs.lemmas.List.{append-nil, append_assoc, drop-append-le, drop-drop, drop_at, length-append, length-drop, length-take-le, take-append-drop, take_all, take_at}
use Rattle.pi_blocks.specs.Parts.{StaySame, all_of, all_parts_mut, before_in, bytes_of_mut, first_of, left_in}
use Rattle.pi_blocks.specs.Puts.{put_at}
use Rattle.pi_blocks.proofs.Puts.{behind, put-length}
use Rattle.pi_blocks.specs.declared.parts.PartMut.{PartMut}
use Rattle.pi_blocks.specs.declared.parts.Place.{Place}

rest_suc : {P : Type 0} (read : P → List ℕ) (ps : List P) (i : ℕ) → all_of read (drop i ps) ≡ first_of read (drop i ps) ++ all_of read (drop (suc i) ps)
rest_suc read [] zero = refl
rest_suc read [] (suc i) = refl
rest_suc read (p ∷ ps) zero = refl
rest_suc read (p ∷ ps) (suc i) = rest_suc read ps i

front_suc : {P : Type 0} (read : P → List ℕ) (ps : List P) (i : ℕ) → all_of read (take (suc i) ps) ≡ all_of read (take i ps) ++ first_of read (drop i ps)
front_suc read [] zero = refl
front_suc read [] (suc i) = refl
front_suc read (p ∷ ps) zero = append-nil (read p)
front_suc read (p ∷ ps) (suc i) = ap (λ (x : List ℕ). read p ++ x) (front_suc read ps i) ∙ sym (append_assoc (read p) (all_of read (take i ps)) (first_of read (drop i ps)))

-- a part's bytes are followed by those of the next
rest_is : {P : Type 0} (read : P → List ℕ) (ps : List P) (i : ℕ) → all_of read (drop i ps) ≡ first_of read (drop i ps) ++ all_of read (drop (i + 1) ps)
rest_is read ps i = rest_suc read ps i ∙ ap (λ n. first_of read (drop i ps) ++ all_of read (drop n ps)) (sym (add-one i))

front_is : {P : Type 0} (read : P → List ℕ) (ps : List P) (i : ℕ) → all_of read (take (i + 1) ps) ≡ all_of read (take i ps) ++ first_of read (drop i ps)
front_is read ps i = ap (λ n. all_of read (take n ps)) (add-one i) ∙ front_suc read ps i

halves_at : {P : Type 0} (read : P → List ℕ) (ps : List P) (i : ℕ) → all_of read (take i ps) ++ all_of read (drop i ps) ≡ all_of read ps
halves_at read ps zero = refl
halves_at read [] (suc i) = refl
halves_at read (p ∷ ps) (suc i) = append_assoc (read p) (all_of read (take i ps)) (all_of read (drop i ps)) ∙ ap (λ (x : List ℕ). read p ++ x) (halves_at read ps i)

-- the bytes before a place and those from it on are all
pub halves : {P : Type 0} (read : P → List ℕ) (ps : List P) (place : Place) → place.at ≤ length (first_of read (drop place.part ps)) → before_in read ps place ++ left_in read ps place ≡ all_of read ps
halves read ps place h =
    let front = all_of read (take place.part ps) in
    let b = first_of read (drop place.part ps) in
    let rest = all_of read (drop (place.part + 1) ps) in
    let e = rest_is read ps place.part in
    let left : left_in read ps place ≡ drop place.at b ++ rest = ap (drop place.at) e ∙ drop-append-le place.at b rest h in
    ap (λ (x : List ℕ). before_in read ps place ++ x) left ∙ (append_assoc front (take place.at b) (drop place.at b ++ rest)
    ∙ (ap (λ (x : List ℕ). front ++ x) (sym (append_assoc (take place.at b) (drop place.at b) rest) ∙ (ap (λ (x : List ℕ). x ++ rest) (take-append-drop place.at b) ∙ sym e)) ∙ halves_at read ps place.part))

-- the end of a part is the front of the next
pub past_before : {P : Type 0} (read : P → List ℕ) (ps : List P) (i n : ℕ) → length (first_of read (drop i ps)) ≡ n →
    all_of read (take (i + 1) ps) ++ take 0 (first_of read (drop (i + 1) ps)) ≡ all_of read (take i ps) ++ take n (first_of read (drop i ps))
past_before read ps i n e =
    append-nil (all_of read (take (i + 1) ps)) ∙ (front_is read ps i ∙ ap (λ (x : List ℕ). all_of read (take i ps) ++ x) (sym (take_all n (first_of read (drop i ps)) (omega arith))))

-- what a piece that was put ends
ends_put : (at : ℕ) (piece bytes : List ℕ) → at + length piece ≤ length bytes → take (at + length piece) (put_at at piece bytes) ≡ take at bytes ++ piece
ends_put at piece bytes h =
    let rest = drop (at + length piece) bytes in
    let long = length-take-le at bytes (omega arith) in
    let both = length-append (take at bytes) piece in
    ap (take (at + length piece)) (sym (append_assoc (take at bytes) piece rest)) ∙ take_at (take at bytes ++ piece) rest (at + length piece) (omega arith)

-- a piece written into a part stands before the place behind it, and what is left stays
pub put_before : {P : Type 0} (read : P → List ℕ) (old new : List P) (i at : ℕ) (piece : List ℕ) → at + length piece ≤ length (first_of read (drop i old)) → take i new ≡ take i old →
    first_of read (drop i new) ≡ put_at at piece (first_of read (drop i old)) →
    all_of read (take i new) ++ take (at + length piece) (first_of read (drop i new)) ≡ (all_of read (take i old) ++ take at (first_of read (drop i old))) ++ piece
put_before read old new i at piece h front e =
    let b = first_of read (drop i old) in
    ap (λ ps. all_of read ps ++ take (at + length piece) (first_of read (drop i new))) front
    ∙ (ap (λ (x : List ℕ). all_of read (take i old) ++ x) (ap (take (at + length piece)) e ∙ ends_put at piece b h) ∙ sym (append_assoc (all_of read (take i old)) (take at b) piece))

pub put_left : {P : Type 0} (read : P → List ℕ) (old new : List P) (i at : ℕ) (piece : List ℕ) → at + length piece ≤ length (first_of read (drop i old)) → drop (i + 1) new ≡ drop (i + 1) old →
    first_of read (drop i new) ≡ put_at at piece (first_of read (drop i old)) →
    drop (at + length piece) (all_of read (drop i new)) ≡ drop (length piece) (drop at (all_of read (drop i old)))
put_left read old new i at piece h rest e =
    let b = first_of read (drop i old) in
    let n = at + length piece in
    let r = all_of read (drop (i + 1) old) in
    let both : all_of read (drop i new) ≡ put_at at piece b ++ r = rest_is read new i ∙ (ap (λ (x : List ℕ). x ++ all_of read (drop (i + 1) new)) e ∙ ap (λ ps. put_at at piece b ++ all_of read ps) rest) in
    let long = put-length at piece b h in
    ap (drop n) both ∙ (drop-append-le n (put_at at piece b) r (omega arith) ∙ (ap (λ (x : List ℕ). x ++ r) (behind at n piece b (omega arith) (omega arith))
    ∙ (sym (drop-append-le n b r h) ∙ (sym (ap (drop n) (rest_is read old i)) ∙ sym (drop-drop (length piece) at (all_of read (drop i old)))))))

pub put_long : {P : Type 0} (read : P → List ℕ) (old new : List P) (i at : ℕ) (piece : List ℕ) → at + length piece ≤ length (first_of read (drop i old)) → first_of read (drop i new) ≡ put_at at piece (first_of read (drop i old)) →
    length (first_of read (drop i new)) ≡ length (first_of read (drop i old))
put_long read old new i at piece h e = ap length e ∙ put-length at piece (first_of read (drop i old)) h

-- what stands before a place has as many bytes as the place says that is left behind so many
pub before_is : (at : ℕ) (before left all : List ℕ) → before ++ left ≡ all → at ≤ length all → left ≡ drop at all → before ≡ take at all
before_is at before left all e le l =
    let a = length-append before left in
    let b = ap length e in
    let c = ap length l in
    let d = length-drop at all in
    let same : length before ≡ at = omega arith in
    sym (ap (take at) (sym e) ∙ take_at before left at same)

-- bytes written from a place on are put there
pub written_is_put : (at : ℕ) (before left now next all new piece : List ℕ) → before ++ left ≡ all → now ++ next ≡ new → at ≤ length all → left ≡ drop at all → now ≡ before ++ piece → next ≡ drop (length piece) left → new ≡ put_at at piece all
written_is_put at before left now next all new piece o n le l b r =
    let front = before_is at before left all o le l in
    let rest : next ≡ drop (at + length piece) all = r ∙ (ap (drop (length piece)) l ∙ drop-drop (length piece) at all) in
    sym n ∙ (ap (λ (x : List ℕ). x ++ next) b ∙ (append_assoc before piece next ∙ (ap (λ (x : List ℕ). x ++ (piece ++ next)) front ∙ ap (λ (x : List ℕ). take at all ++ (piece ++ x)) rest)))

total : List ℕ → ℕ
total [] = 0
total (n ∷ ns) = n + total ns

length_is : {P : Type 0} (read : P → List ℕ) (ps : List P) → length (all_of read ps) ≡ total (map (λ p. length (read p)) ps)
unfolding total
length_is read [] = refl
length_is read (p ∷ ps) = length-append (read p) (all_of read ps) ∙ ap (λ n. length (read p) + n) (length_is read ps)

-- parts that stay the same have as many bytes
pub same_length : (old new : List PartMut) → StaySame old new → length (all_parts_mut new) ≡ length (all_parts_mut old)
same_length old new h = length_is bytes_of_mut new ∙ (ap total h.long ∙ sym (length_is bytes_of_mut old))

pub same_on : (old now new : List PartMut) → StaySame old now → StaySame now new → StaySame old new
same_on old now new h step = record { there = step.there ∙ h.there; long = step.long ∙ h.long }

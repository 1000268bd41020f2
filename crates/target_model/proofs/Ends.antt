-- Blocks of a command that are judged one after another.
use Rattle.std.proofs.Common.{ℕ, zero, suc, ◌≡◌, ◌+◌, ◌-◌, ◌*◌, ◌<◌, true, ◌&&◌, ltb, List, [], ◌∷◌, ◌++◌, length, take, drop, Option, Some, None, Result, Ok, Err, refl, sym, ap, ◌∙◌, arith, append_assoc, append-nil, length-append, add-zero}
use Rattle.std.proofs.lemmas.Bool.{lt-ltb, and_from}
use Rattle.sense_codes.specs.declared.Sense.{Sense}
use Rattle.rig_api.specs.Frames.{frames_of, joined}
use Rattle.rig_api.specs.Target.{Ended, Flaw, passed, first_sense, flaw_sense, each, whole, write_end, read_end, medium_sense}
use Rattle.rig_api.proofs.FrameLaws.{joined_append}
use Rattle.target_model.specs.Served.{AllLong}
use Rattle.target_model.proofs.Bytes.{long_one}

abbrev pub Judge : Type 0
Judge = ℕ → List ℕ → Result (List ℕ) Flaw

-- what is known when the first k blocks were accepted: their frames, each of so many bytes, and that the others stand in rest
pub record Along (judge : Judge) (lba len n size k : ℕ) (rest all : List ℕ) (kept : List (List ℕ)) : Type 0 where
  pub frames : passed (each judge 0 (frames_of len n all)) ≡ kept ++ passed (each judge k (frames_of len (n - k) rest))
  pub sense : first_sense lba (each judge 0 (frames_of len n all)) ≡ first_sense (lba + k) (each judge k (frames_of len (n - k) rest))
  pub many : length kept ≡ k
  pub bytes : length (joined kept) ≡ size * k
  pub long : AllLong size kept

pub begins : (judge : Judge) (lba len n size : ℕ) (all : List ℕ) → Along judge lba len n size 0 all all []
begins judge lba len n size all =
    let e : n - 0 ≡ n = omega arith in
    record { frames = rw e refl; sense = rw (e, add-zero) refl; many = refl; bytes = omega arith; long = tt }

next_frames : (judge : Judge) (len n k : ℕ) (rest : List ℕ) → k < n →
    each judge k (frames_of len (n - k) rest) ≡ judge k (take len rest) ∷ each judge (k + 1) (frames_of len (n - (k + 1)) (drop len rest))
next_frames judge len n k rest h = let e : n - k ≡ suc (n - (k + 1)) = omega arith in rw e refl

-- one more is accepted
pub goes_on : (judge : Judge) (lba len n size k : ℕ) (rest all frame : List ℕ) (kept : List (List ℕ)) → k < n → Along judge lba len n size k rest all kept →
    judge k (take len rest) ≡ Ok frame → length frame ≡ size → Along judge lba len n size (k + 1) (drop len rest) all (kept ++ (frame ∷ []))
goes_on judge lba len n size k rest all frame kept h a j l =
    let next = next_frames judge len n k rest h in
    let ok : each judge k (frames_of len (n - k) rest) ≡ Ok frame ∷ each judge (k + 1) (frames_of len (n - (k + 1)) (drop len rest)) = next ∙ ap (λ r. r ∷ each judge (k + 1) (frames_of len (n - (k + 1)) (drop len rest))) j in
    let at : lba + k + 1 ≡ lba + (k + 1) = omega arith in
    let more : length (joined (kept ++ (frame ∷ []))) ≡ length (joined kept) + length frame =
    ap length (joined_append kept (frame ∷ []) ∙ ap (λ v. joined kept ++ v) (append-nil frame)) ∙ length-append (joined kept) frame in
    record {
      frames = a.frames ∙ ap (λ v. kept ++ passed v) ok ∙ sym (append_assoc kept (frame ∷ []) _);
      sense = a.sense ∙ ap (λ v. first_sense (lba + k) v) ok ∙ ap (λ v. first_sense v (each judge (k + 1) (frames_of len (n - (k + 1)) (drop len rest)))) at;
      many = length-append kept (frame ∷ []) ∙ ap (λ v. v + 1) a.many;
      bytes = more ∙ omega (arith, a.bytes, l);
      long = long_one size kept frame a.long l;
    }

abbrev ended : ℕ → Option Sense → List (List ℕ) → Ended
ended k sense frames = record { done = k; sense = sense; frames = frames }

same_end : (a b : ℕ) (x y : Option Sense) (p q : List (List ℕ)) → a ≡ b → x ≡ y → p ≡ q → ended a x p ≡ ended b y q
same_end a b x y p q e f g = cc

-- the next one isn't accepted
pub ends_found : (judge : Judge) (lba len n size k : ℕ) (rest all : List ℕ) (kept : List (List ℕ)) (flaw : Flaw) → k < n → Along judge lba len n size k rest all kept →
    judge k (take len rest) ≡ Err flaw → whole lba (each judge 0 (frames_of len n all)) ≡ record { done = k; sense = Some (flaw_sense flaw (lba + k)); frames = kept }
ends_found judge lba len n size k rest all kept flaw h a j =
    let err : each judge k (frames_of len (n - k) rest) ≡ Err flaw ∷ each judge (k + 1) (frames_of len (n - (k + 1)) (drop len rest)) = next_frames judge len n k rest h ∙ ap (λ r. r ∷ each judge (k + 1) (frames_of len (n - (k + 1)) (drop len rest))) j in
    let frames : passed (each judge 0 (frames_of len n all)) ≡ kept = a.frames ∙ ap (λ v. kept ++ passed v) err ∙ append-nil kept in
    same_end _ _ _ _ _ _ (ap length frames ∙ a.many) (a.sense ∙ ap (λ v. first_sense (lba + k) v) err) frames

-- all are accepted
pub ends_all : (judge : Judge) (lba len n size k : ℕ) (rest all : List ℕ) (kept : List (List ℕ)) → k ≡ n → Along judge lba len n size k rest all kept →
    whole lba (each judge 0 (frames_of len n all)) ≡ record { done = k; sense = None; frames = kept }
ends_all judge lba len n size k rest all kept h a =
    let none : n - k ≡ 0 = omega arith in
    let over : each judge k (frames_of len (n - k) rest) ≡ [] = rw none refl in
    let frames : passed (each judge 0 (frames_of len n all)) ≡ kept = a.frames ∙ ap (λ v. kept ++ passed v) over ∙ append-nil kept in
    same_end _ _ _ _ _ _ (ap length frames ∙ a.many) (a.sense ∙ ap (λ v. first_sense (lba + k) v) over) frames

taken : (k : ℕ) (xs ys : List (List ℕ)) → length xs ≡ k → take k (xs ++ ys) ≡ xs
taken zero [] ys h = refl
taken zero (x ∷ xs) ys h = absurd (omega arith)
taken (suc k) [] ys h = absurd (omega arith)
taken (suc k) (x ∷ xs) ys h = ap (λ v. x ∷ v) (taken k xs ys (omega arith))

-- the next one is accepted, and the store call fails
pub ends_unstored : (judge : Judge) (lba len n size k : ℕ) (rest all frame left : List ℕ) (kept : List (List ℕ)) → k < n → Along judge lba len n size k rest all kept →
    judge k (take len rest) ≡ Ok frame →
    write_end lba (each judge 0 (frames_of len n all)) (Some (record { at = k; left = left })) ≡ record { done = k; sense = Some (medium_sense 0x0C (lba + k)); frames = kept ++ (left ∷ []) }
ends_unstored judge lba len n size k rest all frame left kept h a j =
    let ok : each judge k (frames_of len (n - k) rest) ≡ Ok frame ∷ each judge (k + 1) (frames_of len (n - (k + 1)) (drop len rest)) = next_frames judge len n k rest h ∙ ap (λ r. r ∷ each judge (k + 1) (frames_of len (n - (k + 1)) (drop len rest))) j in
    let later : List (List ℕ) = passed (each judge (k + 1) (frames_of len (n - (k + 1)) (drop len rest))) in
    let frames : passed (each judge 0 (frames_of len n all)) ≡ kept ++ (frame ∷ later) = a.frames ∙ ap (λ v. kept ++ passed v) ok in
    let many : length (passed (each judge 0 (frames_of len n all))) ≡ k + suc (length later) = ap length frames ∙ length-append kept (frame ∷ later) ∙ ap (λ v. v + suc (length later)) a.many in
    let test : ltb k (length (passed (each judge 0 (frames_of len n all)))) ≡ true = lt-ltb k _ (omega (arith, many)) in
    let part : take k (passed (each judge 0 (frames_of len n all))) ≡ kept = ap (take k) frames ∙ taken k kept (frame ∷ later) a.many in
    rw test (ap (λ v. ended k (Some (medium_sense 0x0C (lba + k))) (v ++ (left ∷ []))) part)

pub length_each : (judge : Judge) (k : ℕ) (fs : List (List ℕ)) → length (each judge k fs) ≡ length fs
length_each judge k [] = refl
length_each judge k (f ∷ fs) = ap suc (length_each judge (k + 1) fs)

-- the store call for the next one fails
pub ends_unread : (judge : Judge) (lba len n size k : ℕ) (rest all left : List ℕ) (kept : List (List ℕ)) → k < n → length (frames_of len n all) ≡ n → Along judge lba len n size k rest all kept →
    read_end lba (each judge 0 (frames_of len n all)) (Some (record { at = k; left = left })) ≡ record { done = k; sense = Some (medium_sense 0x11 (lba + k)); frames = kept }
ends_unread judge lba len n size k rest all left kept h l a =
    let later : List (List ℕ) = passed (each judge k (frames_of len (n - k) rest)) in
    let many : length (passed (each judge 0 (frames_of len n all))) ≡ k + length later = ap length a.frames ∙ length-append kept later ∙ ap (λ v. v + length later) a.many in
    let first : ltb k (length (passed (each judge 0 (frames_of len n all))) + 1) ≡ true = lt-ltb k _ (omega (arith, many)) in
    let second : ltb k (length (each judge 0 (frames_of len n all))) ≡ true = lt-ltb k _ (let e = length_each judge 0 (frames_of len n all) in omega (arith, e, l)) in
    let test : (ltb k (length (passed (each judge 0 (frames_of len n all))) + 1) && ltb k (length (each judge 0 (frames_of len n all)))) ≡ true = and_from _ _ first second in
    let part : take k (passed (each judge 0 (frames_of len n all))) ≡ kept = ap (take k) a.frames ∙ taken k kept later a.many in
    rw test (ap (λ v. ended k (Some (medium_sense 0x11 (lba + k))) v) part)

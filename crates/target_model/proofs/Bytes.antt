-- Bytes of a store, and blocks that lie in it.
use Rattle.std.proofs.Common.{ℕ, zero, suc, ◌≡◌, ◌+◌, ◌-◌, ◌*◌, ◌<◌, ◌≤◌, List, [], ◌∷◌, ◌++◌, length, take, drop, Option, Some, None, refl, sym, ap, ◌∙◌, arith, rules, zero-add, append_assoc, length-append}
use Rattle.std.proofs.lemmas.List.{places, same_lists, length-take, length-drop, take_at, drop_at}
use Rattle.std.proofs.Math.Nat.{mul-le-mul_left}
use Rattle.std.proofs.Math.Seq.{take-add}
use Rattle.dix_base.specs.Told.{over, Apart, Becomes, HasLength, Rose}
use Rattle.rig_api.specs.Frames.{frames_of, joined, placed}
use Rattle.rig_api.proofs.FrameLaws.{joined_append}
use Rattle.rig_api.specs.Telling.{at_front}
use Rattle.target_model.specs.Served.{AllLong, IsSize}

pub told_length : (x : Option (List ℕ)) (n : ℕ) (bytes : List ℕ) → x ≡ Some bytes → HasLength n x → n ≡ length bytes
told_length None n bytes e h = absurd (cc)
told_length (Some ys) n bytes e h = let same : ys ≡ bytes = cc in h ∙ ap length same

pub becomes_some : (P : List ℕ → List ℕ → Type 0) (old new : Option (List ℕ)) (bytes : List ℕ) → old ≡ Some bytes → Becomes P old new → (after : List ℕ) × (new ≡ Some after) × P bytes after
becomes_some P None None bytes e b = absurd (cc)
becomes_some P (Some old) (Some new) bytes e b = let same : old ≡ bytes = cc in (new, refl, rw same at b)
becomes_some P None (Some new) bytes e b = absurd b
becomes_some P (Some old) None bytes e b = absurd b

three : (at n : ℕ) (xs : List ℕ) → at + n ≤ length xs → xs ≡ take at xs ++ (take n (drop at xs) ++ drop (at + n) xs)
three at n xs h = same_lists _ _ (search (rules, places)) (λ i d l. grind (arith, places))

-- a failed write leaves some bytes in its place
pub over_back : (at n : ℕ) (old new : List ℕ) → at + n ≤ length old → Apart at n old new → new ≡ over at (take n (drop at new)) old
over_back at n old new h a =
    let within : at + n ≤ length new = omega (arith, a.0) in
    let len : length (take n (drop at new)) ≡ n = simp (length-take, length-drop) (omega arith) in
    rw len (rw (← a.1, ← a.2) (three at n new within))

pub drop_both : (a b : ℕ) (xs : List ℕ) → drop a (drop b xs) ≡ drop (b + a) xs
drop_both a b xs = same_lists _ _ (search (rules, places)) (λ i d l. grind (arith, places))

over_end : (x p d : List ℕ) → over (length x) p (x ++ d) ≡ x ++ (p ++ drop (length p) d)
over_end [] p d = rw zero-add refl
over_end (a ∷ x) p d =
    let e : suc (length x) + length p ≡ suc (length x + length p) = omega arith in
    rw e (ap (λ v. a ∷ v) (over_end x p d))

-- one piece behind another
pub over_next : (p q : ℕ) (a b xs : List ℕ) → p ≤ length xs → q ≡ p + length a → over q b (over p a xs) ≡ over p (a ++ b) xs
over_next p q a b xs h e =
    let t : List ℕ = take p xs in
    let d : List ℕ = drop (p + length a) xs in
    let lt : length t ≡ p = simp length-take (omega arith) in
    let at : q ≡ length (t ++ a) = e ∙ ap (λ n. n + length a) (sym lt) ∙ sym (length-append t a) in
    let whole : over p a xs ≡ (t ++ a) ++ d = sym (append_assoc t a d) in
    let last : drop (length b) d ≡ drop (p + length (a ++ b)) xs = drop_both (length b) (p + length a) xs ∙ ap (λ n. drop n xs) (let l = length-append a b in omega (arith, l)) in
    ap (λ v. over q b v) whole ∙ ap (λ n. over n b ((t ++ a) ++ d)) at ∙ over_end (t ++ a) b d
    ∙ append_assoc t a (b ++ drop (length b) d) ∙ ap (λ v. t ++ v) (sym (append_assoc a b (drop (length b) d))) ∙ ap (λ v. t ++ ((a ++ b) ++ v)) last

pub over_none : (p : ℕ) (xs : List ℕ) → p ≤ length xs → over p [] xs ≡ xs
over_none p xs h = same_lists _ _ (search (rules, places)) (λ i d l. grind (arith, places))

pub over_length : (p : ℕ) (a xs : List ℕ) → p + length a ≤ length xs → length (over p a xs) ≡ length xs
over_length p a xs h = simp (length-append, length-take, length-drop) (omega arith)

pub front_next : (a b before : List ℕ) → over (length a) b (at_front a before) ≡ at_front (a ++ b) before
front_next a b before =
    let last : drop (length b) (drop (length a) before) ≡ drop (length (a ++ b)) before = drop_both (length b) (length a) before ∙ ap (λ n. drop n before) (sym (length-append a b)) in
    over_end a b (drop (length a) before) ∙ sym (append_assoc a b _) ∙ ap (λ v. (a ++ b) ++ v) last

pub joined_frames : (len n : ℕ) (b : List ℕ) → joined (frames_of len n b) ≡ take (len * n) b
joined_frames len zero b = let z : len * 0 ≡ 0 = omega arith in rw z refl
joined_frames len (suc n) b =
    let e : len * suc n ≡ len + len * n = omega arith in
    ap (λ v. take len b ++ v) (joined_frames len n (drop len b)) ∙ sym (take-add len (len * n) b) ∙ ap (λ k. take k b) (sym e)

take_frames : (len n m : ℕ) (b : List ℕ) → n ≤ m → take n (frames_of len m b) ≡ frames_of len n b
take_frames len zero m b h = refl
take_frames len (suc n) zero b h = absurd (omega arith)
take_frames len (suc n) (suc m) b h = ap (λ v. take len b ∷ v) (take_frames len n m (drop len b) (omega arith))

drop_frames : (len a m : ℕ) (b : List ℕ) → a ≤ m → drop a (frames_of len m b) ≡ frames_of len (m - a) (drop (len * a) b)
drop_frames len zero m b h = let e : m - 0 ≡ m = omega arith in let z : len * 0 ≡ 0 = omega arith in rw (e, z) refl
drop_frames len (suc a) zero b h = absurd (omega arith)
drop_frames len (suc a) (suc m) b h =
    let e : suc m - suc a ≡ m - a = omega arith in
    let f : len * suc a ≡ len + len * a = omega arith in
    rw (e, f) (drop_frames len a m (drop len b) (omega arith) ∙ ap (frames_of len (m - a)) (drop_both (len * a) len b))

-- a part of the blocks
pub frames_part : (len a n m : ℕ) (b : List ℕ) → a + n ≤ m → take n (drop a (frames_of len m b)) ≡ frames_of len n (drop (len * a) b)
frames_part len a n m b h = ap (take n) (drop_frames len a m b (omega arith)) ∙ take_frames len n (m - a) (drop (len * a) b) (omega arith)

both : (k n : ℕ) (b : List ℕ) → take k b ++ drop k b ≡ b
both k n b = same_lists _ _ (search (rules, places)) (λ i d l. grind (arith, places))

joined_placed : (len i m : ℕ) (fs : List (List ℕ)) (b : List ℕ) → i + length fs ≤ m →
    joined (placed i fs (frames_of len m b)) ≡ take (len * i) b ++ (joined fs ++ take (len * (m - (i + length fs))) (drop (len * (i + length fs)) b))
joined_placed len i m fs b h =
    let front : joined (take i (frames_of len m b)) ≡ take (len * i) b = ap joined (take_frames len i m b (omega arith)) ∙ joined_frames len i b in
    let back : joined (drop (i + length fs) (frames_of len m b)) ≡ take (len * (m - (i + length fs))) (drop (len * (i + length fs)) b) =
    ap joined (drop_frames len (i + length fs) m b h) ∙ joined_frames len (m - (i + length fs)) (drop (len * (i + length fs)) b) in
    joined_append (take i (frames_of len m b)) (fs ++ drop (i + length fs) (frames_of len m b))
    ∙ ap (λ v. v ++ joined (fs ++ drop (i + length fs) (frames_of len m b))) front
    ∙ ap (λ v. take (len * i) b ++ v) (joined_append fs (drop (i + length fs) (frames_of len m b)) ∙ ap (λ v. joined fs ++ v) back)

times : (len m a b : ℕ) → m ≡ a + b → len * m ≡ len * a + len * b
times len m a b e = ap (λ k. len * k) e ∙ (omega arith)

-- frames in place of blocks of a unit are bytes in place of bytes of the store
pub unit_over : (at len i m : ℕ) (fs : List (List ℕ)) (bytes : List ℕ) → i + length fs ≤ m → length (joined fs) ≡ len * length fs → at + len * m ≤ length bytes →
    over at (joined (placed i fs (frames_of len m (drop at bytes)))) bytes ≡ over (at + len * i) (joined fs) bytes
unit_over at len i m fs bytes h lf hl =
    let b : List ℕ = drop at bytes in
    let j : ℕ = i + length fs in
    let X : List ℕ = take (len * i) b in
    let Z : List ℕ = take (len * (m - j)) (drop (len * j) b) in
    let is : joined (placed i fs (frames_of len m b)) ≡ X ++ (joined fs ++ Z) = joined_placed len i m fs b h in
    let split : len * m ≡ len * j + len * (m - j) = times len m j (m - j) (omega arith) in
    let parts : len * j ≡ len * i + len * length fs = times len j i (length fs) refl in
    let lb : length b ≡ length bytes - at = length-drop at bytes in
    let lx : length X ≡ len * i = simp length-take (omega arith) in
    let lz : length Z ≡ len * (m - j) = simp (length-take, length-drop) (omega arith) in
    let long : length (X ++ (joined fs ++ Z)) ≡ len * m = simp length-append (omega arith) in
    let rest : drop (len * (m - j)) (drop (len * j) b) ≡ drop (at + len * m) bytes =
    ap (drop (len * (m - j))) (drop_both (len * j) at bytes) ∙ drop_both (len * (m - j)) (at + len * j) bytes ∙ ap (λ k. drop k bytes) (omega arith) in
    let tail : Z ++ drop (at + len * m) bytes ≡ drop (at + len * i + length (joined fs)) bytes =
    ap (λ v. Z ++ v) (sym rest) ∙ both (len * (m - j)) 0 (drop (len * j) b) ∙ drop_both (len * j) at bytes ∙ ap (λ k. drop k bytes) (omega arith) in
    let head : take (at + len * i) bytes ≡ take at bytes ++ X = take-add at (len * i) bytes in
    ap (λ v. over at v bytes) is
    ∙ ap (λ k. take at bytes ++ ((X ++ (joined fs ++ Z)) ++ drop (at + k) bytes)) long
    ∙ ap (λ v. take at bytes ++ v) (append_assoc X (joined fs ++ Z) _ ∙ ap (λ v. X ++ v) (append_assoc (joined fs) Z _ ∙ ap (λ v. joined fs ++ v) tail))
    ∙ sym (append_assoc (take at bytes) X _)
    ∙ ap (λ v. v ++ (joined fs ++ drop (at + len * i + length (joined fs)) bytes)) (sym head)

-- a unit whose blocks stay
pub unit_same : (at len m : ℕ) (bytes : List ℕ) → at + len * m ≤ length bytes → over at (joined (frames_of len m (drop at bytes))) bytes ≡ bytes
unit_same at len m bytes h =
    let z : len * 0 ≡ 0 = omega arith in
    let e : at + len * 0 ≡ at = omega arith in
    let same : placed 0 [] (frames_of len m (drop at bytes)) ≡ frames_of len m (drop at bytes) = refl in
    ap (λ v. over at (joined v) bytes) (sym same) ∙ unit_over at len 0 m [] bytes (omega arith) (sym z) h ∙ ap (λ k. over k [] bytes) e ∙ over_none at bytes (omega arith)

pub front_is : (n : ℕ) (a b xs : List ℕ) → a ≡ xs → length xs ≡ n → take n (a ++ b) ≡ xs
front_is n a b xs e h = ap (λ v. take n (v ++ b)) e ∙ take_at xs b n h

-- a block of so many lies inside their bytes
pub inside : (p s k n : ℕ) → k < n → p + s * k + s ≤ p + s * n
inside p s k n h = let m : s * suc k ≤ s * n = mul-le-mul_left s h in omega (arith, m)

-- one piece less is left
pub fewer : (s k n l m : ℕ) → k < n → l ≡ s * (n - k) → m + s ≡ l → m ≡ s * (n - (k + 1))
fewer s k n l m h e f = let i : s * (n - k) ≡ s * (n - (k + 1)) + s = ap (λ v. s * v) (one n k h) ∙ (omega arith) in omega (arith, e, f, i)
  where
    one : (n k : ℕ) → k < n → n - k ≡ n - (k + 1) + 1
    one n k h = omega arith

-- a buffer with a piece copied to its front
pub copied_length : (a xs b : List ℕ) → a ≡ xs → length xs ≤ length b → length (a ++ drop (length xs) b) ≡ length b
copied_length a xs b e h = let l : length a ≡ length xs = ap length e in simp (length-append, length-drop) (omega arith)

pub all_left : (s t n l : ℕ) → s ≡ t → l ≡ n * t → l ≡ s * (n - 0)
all_left s t n l e f =
    let z : n - 0 ≡ n = omega arith in
    rw (z, e) (f ∙ (omega arith))

-- a buffer whose front was lent
pub refilled : (a b : List ℕ) (s : ℕ) → length a ≡ length (take s b) → s ≤ length b → length (a ++ drop s b) ≡ length b
refilled a b s e h = let l : length a ≡ s = e ∙ (simp length-take (omega arith)) in simp (length-append, length-drop) (omega arith)

pub size_most : (s : ℕ) → IsSize s → s ≤ 4096
size_most s h = grind arith

pub lent : (a b : List ℕ) (s : ℕ) → length a ≡ length (take s b) → s ≤ length b → length a ≡ s
lent a b s e h = e ∙ (simp length-take (omega arith))

-- the blocks from an address on lie inside the unit's bytes
pub room_for : (at s first blocks lba n : ℕ) → first ≤ lba → lba + n ≤ first + blocks → at + s * (lba - first) + s * n ≤ at + s * blocks
room_for at s first blocks lba n h l =
    let m : s * (lba - first + n) ≤ s * blocks = mul-le-mul_left s (omega arith) in
    let e : s * (lba - first + n) ≡ s * (lba - first) + s * n = times s (lba - first + n) (lba - first) n refl in
    omega (arith, m, e)

pub drop_all : (n : ℕ) (xs : List ℕ) → length xs ≤ n → drop n xs ≡ []
drop_all n xs h = same_lists _ _ (search (rules, places)) (λ i d l. grind (arith, places))

pub long_both : (n : ℕ) (xs ys : List (List ℕ)) → AllLong n xs → AllLong n ys → AllLong n (xs ++ ys)
long_both n [] ys p q = q
long_both n (x ∷ xs) ys p q = (p.0, long_both n xs ys p.1 q)

pub long_one : (n : ℕ) (xs : List (List ℕ)) (x : List ℕ) → AllLong n xs → length x ≡ n → AllLong n (xs ++ (x ∷ []))
long_one n xs x p q = long_both n xs (x ∷ []) p (q, tt)

pub long_take : (n k : ℕ) (xs : List (List ℕ)) → AllLong n xs → AllLong n (take k xs)
long_take n zero xs p = tt
long_take n (suc k) [] p = tt
long_take n (suc k) (x ∷ xs) p = (p.0, long_take n k xs p.1)

pub long_drop : (n k : ℕ) (xs : List (List ℕ)) → AllLong n xs → AllLong n (drop k xs)
long_drop n zero xs p = p
long_drop n (suc k) [] p = tt
long_drop n (suc k) (x ∷ xs) p = long_drop n k xs p.1

-- the blocks in so many bytes
pub long_frames : (len n : ℕ) (b : List ℕ) → len * n ≤ length b → AllLong len (frames_of len n b)
long_frames len zero b h = tt
long_frames len (suc n) b h = (simp length-take (omega arith), long_frames len n (drop len b) (simp length-drop (omega arith)))

pub long_joined : (len : ℕ) (xs : List (List ℕ)) → AllLong len xs → length (joined xs) ≡ len * length xs
long_joined len [] p = omega arith
long_joined len (x ∷ xs) p = length-append x (joined xs) ∙ omega (arith, p.0, long_joined len xs p.1)

two : (x y : List ℕ) (xs ys : List (List ℕ)) → x ≡ y → xs ≡ ys → (x ∷ xs) ≡ (y ∷ ys)
two x y xs ys p q = cc

-- blocks one after another are read back
pub frames_back : (len : ℕ) (xs : List (List ℕ)) (rest : List ℕ) → AllLong len xs → frames_of len (length xs) (joined xs ++ rest) ≡ xs
frames_back len [] rest p = refl
frames_back len (x ∷ xs) rest p =
    let e : joined (x ∷ xs) ++ rest ≡ x ++ (joined xs ++ rest) = append_assoc x (joined xs) rest in
    rw e (two _ _ _ _ (take_at x (joined xs ++ rest) len p.0) (ap (frames_of len (length xs)) (drop_at x (joined xs ++ rest) len p.0) ∙ frames_back len xs rest p.1))

pub placed_length : (i : ℕ) (fs blocks : List (List ℕ)) → i + length fs ≤ length blocks → length (placed i fs blocks) ≡ length blocks
placed_length i fs blocks h = simp (length-append, length-take, length-drop) (omega arith)

pub over_behind : (p : ℕ) (a xs : List ℕ) → p ≤ length xs → drop p (over p a xs) ≡ a ++ drop (p + length a) xs
over_behind p a xs h = drop_at (take p xs) (a ++ drop (p + length a) xs) p (simp length-take (omega arith))

take_front : (p : ℕ) (xs b : List ℕ) → p ≤ length xs → take p (take p xs ++ b) ≡ take p xs
take_front p xs b h = take_at (take p xs) b p (simp length-take (omega arith))

pub over_apart : (p n : ℕ) (a xs : List ℕ) → length a ≡ n → p + n ≤ length xs → Apart p n xs (over p a xs)
over_apart p n a xs e h =
    let rest : drop (p + n) (over p a xs) ≡ drop (p + n) xs =
    sym (drop_both n p (over p a xs)) ∙ ap (drop n) (over_behind p a xs (omega arith)) ∙ drop_at a (drop (p + length a) xs) n e ∙ ap (λ k. drop (p + k) xs) e in
    (over_length p a xs (omega (arith, e)), take_front p xs (a ++ drop (p + length a) xs) (omega arith), rest)

-- what stands apart from a part of some bytes stands apart from them all
pub apart_wider : (at n m : ℕ) (old new : List ℕ) → n ≤ m → Apart at n old new → Apart at m old new
apart_wider at n m old new h a =
    let e : at + n + (m - n) ≡ at + m = omega arith in
    (a.0, a.1, ap (λ k. drop k new) (sym e) ∙ sym (drop_both (m - n) (at + n) new) ∙ ap (drop (m - n)) a.2 ∙ drop_both (m - n) (at + n) old ∙ ap (λ k. drop k old) e)

-- bytes behind some that were put at their place
pub behind_put : (place at wide : ℕ) (put was : List ℕ) → place ≤ length was → at ≡ place + wide → length put ≡ wide → drop at (over place put was) ≡ drop at was
behind_put place at wide put was h e l =
    ap (λ k. drop k (over place put was)) e ∙ sym (drop_both wide place (over place put was)) ∙ ap (drop wide) (over_behind place put was h) ∙ drop_at put (drop (place + length put) was) wide l
    ∙ ap (λ k. drop (place + k) was) l ∙ ap (λ k. drop k was) (sym e)

-- bytes that are put where they stand alter nothing
put_again : (at m : ℕ) (xs : List ℕ) → at + m ≤ length xs → over at (take m (drop at xs)) xs ≡ xs
put_again at m xs h =
    let l : length (take m (drop at xs)) ≡ m = simp (length-take, length-drop) (omega arith) in
    ap (λ k. take at xs ++ (take m (drop at xs) ++ drop (at + k) xs)) l ∙ sym (three at m xs h)

drop_take : (n size : ℕ) (xs : List ℕ) → n ≤ size → drop n (take size xs) ≡ take (size - n) (drop n xs)
drop_take n size xs h = same_lists _ _ (search (rules, places)) (λ i d l. grind (arith, places))

-- so a front that is put is as good as the front with the old rest
pub over_front : (at n size : ℕ) (frame was : List ℕ) → length frame ≡ size → n ≤ size → at + size ≤ length was → over at (take n frame) was ≡ over at (take n frame ++ drop n (take size (drop at was))) was
over_front at n size frame was l h b =
    let front : List ℕ = take n frame in
    let put : List ℕ = over at front was in
    let part : length front ≡ n = simp length-take (omega arith) in
    let same : drop (at + n) put ≡ drop (at + n) was = behind_put at (at + n) n front was (omega arith) refl part in
    let rest : drop n (take size (drop at was)) ≡ take (size - n) (drop (at + n) put) = drop_take n size (drop at was) h ∙ ap (take (size - n)) (drop_both n at was ∙ sym same) in
    let long : length put ≡ length was = over_length at front was (omega (arith, part)) in
    sym (put_again (at + n) (size - n) put (omega (arith, long))) ∙ ap (λ t. over (at + n) t put) (sym rest) ∙ over_next at (at + n) front (drop n (take size (drop at was))) was (omega arith) (ap (λ k. at + k) (sym part))

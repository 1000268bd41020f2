-- What is seen of some blocks on a leg, and what each needs.
use Rattle.std.proofs.Common.{ℕ, zero, suc, ◌≡◌, ◌+◌, ◌-◌, ◌*◌, ◌<◌, ◌≤◌, Bool, true, false, if◌then◌else◌, List, [], ◌∷◌, ◌++◌, Option, Some, None, drop, get_or, length, take, drop-drop, length-append, length-drop, refl, ap, subst, sym, ◌∙◌, arith}
use Rattle.std.proofs.lemmas.List.{get_or_default, length-take-le, take_all, take_more, take-append-le}
use Rattle.std.proofs.Math.Nat.{add-mul}
use Rattle.bio_core.specs.declared.fate.Why.{Why}
use Rattle.page_pool.specs.Cells.{flat}
use Rattle.pi_tuple.specs.Tuples.{tuple_in}
use Rattle.walk_laws.specs.Past.{Brought}
use Rattle.script_text.specs.declared.script.Script.{Script}
use Rattle.mirror_laws.specs.Stretches.{Need}
use Rattle.mirror_volume.specs.declared.piece.Piece.{Piece}
use Rattle.mirror_volume.specs.Inner.{pages_for}
use Rattle.mirror_volume.specs.declared.repair.Seen.{Seen}
use Rattle.mirror_volume.specs.Asked.{AreOf, bytes_after, found_after, part_of, pasted}
use Rattle.mirror_volume.specs.Helds.{IsAfter}
use Rattle.mirror_volume.specs.LegRuns.{LegRun, found_by, pool_of, replies_of}
use Rattle.mirror_volume.specs.Mending.{delivered, goods, need_by, needs_by, tuples_after}
use Rattle.mirror_volume.proofs.Stretched.{are-of-append, bytes-after-append, found-after-append}

pub tuples-after-append : (script : Piece → Script) (p : Piece) (size : ℕ) (ss ts : List (ℕ × ℕ)) (runs more : List LegRun) (tuples : List ℕ) → AreOf script p ss runs
    → tuples_after size (ss ++ ts) (runs ++ more) tuples ≡ tuples_after size ts more (tuples_after size ss runs tuples)
tuples-after-append script p size [] ts [] more tuples h = refl
tuples-after-append script p size [] ts (r ∷ runs) more tuples h = absurd h
tuples-after-append script p size (s ∷ ss) ts [] more tuples h = absurd h
tuples-after-append script p size (s ∷ ss) ts (r ∷ runs) more tuples h =
    tuples-after-append script p size ss ts runs more (pasted (s.0 * 8) (take (s.1 * 8) (drop (4096 * pages_for (s.1 * size)) (flat (pool_of r)))) tuples) h.1

pub delivered-long : (wanted : List Bool) (found : List (Option Why)) → length found ≡ length wanted → length (delivered wanted found) ≡ length wanted
delivered-long [] found e = refl
delivered-long (w ∷ wanted) [] e = absurd (omega (arith, e))
delivered-long (w ∷ wanted) (why ∷ found) e = ap suc (delivered-long wanted found (omega (arith, e)))

pub good-at : (size : ℕ) (good : List Bool) (bytes tuples : List ℕ) (i : ℕ)
    → get_or (goods size good bytes tuples) i None ≡ (if get_or good i false then Some (record { body = take size (drop (i * size) bytes); app = (tuple_in (drop (8 * i) tuples)).app }) else None)
good-at size [] bytes tuples zero = refl
good-at size [] bytes tuples (suc i) = refl
good-at size (d ∷ good) bytes tuples zero =
    let z : 0 ≡ 0 * size = omega arith in
    λ j. if d then Some (record { body = take size (drop (z j) bytes); app = (tuple_in tuples).app }) else None
good-at size (d ∷ good) bytes tuples (suc i) =
    let a : size + i * size ≡ suc i * size = omega arith in
    let b : 8 + 8 * i ≡ 8 * suc i = omega arith in
    let bytes-on = drop-drop (i * size) size bytes ∙ ap (λ k. drop k bytes) a in
    let tuples-on = drop-drop (8 * i) 8 tuples ∙ ap (λ k. drop k tuples) b in
    good-at size good (drop size bytes) (drop 8 tuples) i
    ∙ (λ j. if get_or good i false then Some (record { body = take size (bytes-on j); app = (tuple_in (tuples-on j)).app }) else None)

pub bit-at : (xs : List Bool) (i : ℕ) (x b : Bool) → i < length xs → x ≡ get_or xs i x → x ≡ b → get_or xs i false ≡ b
bit-at xs i x b l e is = sym (get_or_default xs i x false l) ∙ sym e ∙ is

-- the bytes of block i
pub block-at : (size i : ℕ) (xs ys : List ℕ) → xs ≡ ys → take ((i + 1) * size - i * size) (drop (i * size) xs) ≡ take size (drop (i * size) ys)
block-at size i xs ys e =
    let m = add-mul i 1 size in
    let k : (i + 1) * size - i * size ≡ size = omega (arith, m) in
    λ j. take (k j) (drop (i * size) (e j))

-- A part of a list is written: the whole stays as long, so nothing of a longer one is left behind it.
pub put-part : {X : Type 0} (len a k n : ℕ) (was all new part : List X) → was ≡ all → length all ≡ len → a + n ≤ len → k ≡ n → length new ≡ n → new ≡ part
    → take len ((take a was ++ (new ++ drop k (drop a was))) ++ drop (length (take a was ++ (new ++ drop k (drop a was)))) all) ≡ pasted a part all
put-part {X = X} len a k n was all new part e long in-it same many is =
    let put = take a was ++ (new ++ drop k (drop a was)) in
    let x = length-append (take a was) (new ++ drop k (drop a was)) in
    let y = length-append new (drop k (drop a was)) in
    let z = length-drop k (drop a was) in
    let w = length-drop a was in
    let v = ap length e in
    let u = length-take-le a was (omega (arith, v, long, in-it)) in
    let whole : length put ≡ len = omega (arith, x, y, z, w, v, u, long, in-it, same, many) in
    let rest : a + length part ≡ a + k = (let m = ap length is in omega (arith, m, many, same)) in
    let behind : drop k (drop a was) ≡ drop (a + length part) all = drop-drop k a was ∙ ap (λ j. drop j was) (sym rest) ∙ ap (λ (l : List X). drop (a + length part) l) e in
    take-append-le len put (drop (length put) all) (omega (arith, whole)) ∙ take_all len put (omega (arith, whole)) ∙ (λ j. take a (e j) ++ (is j ++ behind j))

pub good-here : (size : ℕ) (good : List Bool) (bytes tuples : List ℕ) (i : ℕ) → get_or good i false ≡ true
    → get_or (goods size good bytes tuples) i None ≡ Some (record { body = take size (drop (i * size) bytes); app = (tuple_in (drop (8 * i) tuples)).app })
good-here size good bytes tuples i e = good-at size good bytes tuples i
    ∙ ap (λ (b : Bool). if b then Some (record { body = take size (drop (i * size) bytes); app = (tuple_in (drop (8 * i) tuples)).app }) else None) e

pub none-here : (size : ℕ) (good : List Bool) (bytes tuples : List ℕ) (i : ℕ) → get_or good i false ≡ false → get_or (goods size good bytes tuples) i None ≡ None
none-here size good bytes tuples i e = good-at size good bytes tuples i
    ∙ ap (λ (b : Bool). if b then Some (record { body = take size (drop (i * size) bytes); app = (tuple_in (drop (8 * i) tuples)).app }) else None) e

pub goods-long : (size : ℕ) (good : List Bool) (bytes tuples : List ℕ) → length (goods size good bytes tuples) ≡ length good
goods-long size [] bytes tuples = refl
goods-long size (d ∷ good) bytes tuples = ap suc (goods-long size good (drop size bytes) (drop 8 tuples))

pub need-at : (ones others : List (Option Brought)) (i : ℕ) (d : Need) → i < length ones → length ones ≡ length others → get_or (needs_by ones others) i d ≡ need_by (get_or ones i None) (get_or others i None)
need-at [] others i d l e = absurd (omega (arith, l))
need-at (one ∷ ones) [] i d l e = absurd (omega (arith, e))
need-at (one ∷ ones) (other ∷ others) zero d l e = refl
need-at (one ∷ ones) (other ∷ others) (suc i) d l e = need-at ones others i d (omega (arith, l)) (omega (arith, e))

pub needs-count : (ones others : List (Option Brought)) → length ones ≡ length others → length (needs_by ones others) ≡ length ones
needs-count [] others e = refl
needs-count (one ∷ ones) [] e = absurd (omega (arith, e))
needs-count (one ∷ ones) (other ∷ others) e = ap suc (needs-count ones others (omega (arith, e)))

-- ---- what is seen after some stretches

pub part-after : (script : Piece → Script) (p : Piece) (size : ℕ) (part : ℕ × ℕ) (runs : List LegRun) (r : LegRun) (old new : Seen) → runs ≡ r ∷ [] → r.own ≡ script (part_of p part)
    → new.found.items ≡ pasted part.0 (found_by part.1 (replies_of r)) old.found.items → new.bytes.items ≡ pasted (part.0 * size) (take (part.1 * size) (flat (pool_of r))) old.bytes.items
    → new.tuples.items ≡ pasted (part.0 * 8) (take (part.1 * 8) (drop (4096 * pages_for (part.1 * size)) (flat (pool_of r)))) old.tuples.items
    → AreOf script p (part ∷ []) runs × IsAfter size (part ∷ []) runs old new
part-after script p size part runs r old new e own found bytes tuples =
    subst (λ (rs : List LegRun). AreOf script p (part ∷ []) rs × IsAfter size (part ∷ []) rs old new) (sym e) ((own, tt), record { found = found; bytes = bytes; tuples = tuples })

-- of these parts, one more
pub looks-more : (script : Piece → Script) (p : Piece) (size : ℕ) (parts : List (ℕ × ℕ)) (i : ℕ) (part : ℕ × ℕ) (xs ys : List LegRun) (old mid new : Seen) → i < length parts → part ≡ get_or parts i part
    → AreOf script p (take i parts) xs → IsAfter size (take i parts) xs old mid → AreOf script p (part ∷ []) ys → IsAfter size (part ∷ []) ys mid new
    → AreOf script p (take (i + 1) parts) (xs ++ ys) × IsAfter size (take (i + 1) parts) (xs ++ ys) old new
looks-more script p size parts i part xs ys old mid new l e a h b k =
    let more = take_more parts i part l ∙ ap (λ (s : ℕ × ℕ). take i parts ++ (s ∷ [])) (sym e) in
    subst (λ (ss : List (ℕ × ℕ)). AreOf script p ss (xs ++ ys) × IsAfter size ss (xs ++ ys) old new) (sym more) (
      are-of-append script p (take i parts) (part ∷ []) xs ys a b,
      record {
        found = k.found ∙ ap (λ f. found_after (part ∷ []) ys f) h.found ∙ sym (found-after-append script p (take i parts) (part ∷ []) xs ys old.found.items a);
        bytes = k.bytes ∙ ap (λ f. bytes_after size (part ∷ []) ys f) h.bytes ∙ sym (bytes-after-append script p size (take i parts) (part ∷ []) xs ys old.bytes.items a);
        tuples = k.tuples ∙ ap (λ f. tuples_after size (part ∷ []) ys f) h.tuples ∙ sym (tuples-after-append script p size (take i parts) (part ∷ []) xs ys old.tuples.items a);
      },
    )

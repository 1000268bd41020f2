-- What becomes of an image's units as pieces are stored, stretch by stretch.
use Rattle.std.proofs.Common.{◌≡◌, ℕ, suc, ◌+◌, ◌-◌, ◌<◌, ◌≤◌, List, [], ◌∷◌, ◌++◌, length, get_or, set, take, drop, refl, sym, ap, ◌∙◌, arith, append_assoc, length-append}
use Rattle.std.proofs.lemmas.List.{drop-drop, get_or-set_same, length-drop, length-take, set-get_or, set-set, take-append-drop, take-take}
use Rattle.std.proofs.Math.Seq.{take-add}
use Rattle.pi_tuple.specs.declared.checks.PiType.{PiType}
use Rattle.rig_api.specs.Telling.{holding, no_unit, unit_at}
use Rattle.rig_api.specs.Frames.{placed}
use Rattle.rig_api.specs.Target.{Stored}
use Rattle.rig_api.specs.declared.units.UnitSpec.{UnitSpec}
use Rattle.image_blocks.specs.declared.stretch.Stretch.{Stretch}
use Rattle.image_blocks.specs.Blocks.{with_stretch}
use Rattle.image_blocks.specs.Places.{behind_in, spec_of}
use Rattle.image_text.specs.declared.layout.Layout.{Layout}
use Rattle.image_text.specs.Dumps.{imported, imported_block}
use Rattle.image_text.specs.Ends.{imported_in}

-- ---- blocks in the place of others

drop_front : (x d : List (List ℕ)) → drop (length x) (x ++ d) ≡ d
drop_front [] d = refl
drop_front (a ∷ x) d = drop_front x d

placed_end : (x p d : List (List ℕ)) → placed (length x) p (x ++ d) ≡ x ++ (p ++ drop (length p) d)
placed_end [] p d = let z : 0 + length p ≡ length p = omega arith in ap (λ n. p ++ drop n d) z
placed_end (a ∷ x) p d =
    let e : suc (length x) + length p ≡ suc (length x + length p) = omega arith in
    rw e (ap (λ v. a ∷ v) (placed_end x p d))

-- one run of blocks behind another
placed_next : (k q : ℕ) (a b xs : List (List ℕ)) → k ≤ length xs → q ≡ k + length a → placed q b (placed k a xs) ≡ placed k (a ++ b) xs
placed_next k q a b xs h e =
    let t : List (List ℕ) = take k xs in
    let d : List (List ℕ) = drop (k + length a) xs in
    let lt : length t ≡ k = length-take k xs ∙ (omega arith) in
    let at : q ≡ length (t ++ a) = e ∙ ap (λ n. n + length a) (sym lt) ∙ sym (length-append t a) in
    let whole : placed k a xs ≡ (t ++ a) ++ d = sym (append_assoc t a d) in
    let last : drop (length b) d ≡ drop (k + length (a ++ b)) xs = drop-drop (length b) (k + length a) xs ∙ ap (λ n. drop n xs) (let l = length-append a b in omega (arith, l)) in
    ap (λ v. placed q b v) whole ∙ ap (λ n. placed n b ((t ++ a) ++ d)) at ∙ placed_end (t ++ a) b d
    ∙ append_assoc t a (b ++ drop (length b) d) ∙ ap (λ v. t ++ v) (sym (append_assoc a b (drop (length b) d))) ∙ ap (λ v. t ++ ((a ++ b) ++ v)) last

placed_none : (k : ℕ) (xs : List (List ℕ)) → placed k [] xs ≡ xs
placed_none k xs = let e : k + 0 ≡ k = omega arith in ap (λ n. take k xs ++ drop n xs) e ∙ take-append-drop k xs

-- what stands behind them stays
behind_placed : (k q : ℕ) (a xs : List (List ℕ)) → k ≤ length xs → q ≡ k + length a → drop q (placed k a xs) ≡ drop q xs
behind_placed k q a xs h e =
    let t : List (List ℕ) = take k xs in
    let d : List (List ℕ) = drop (k + length a) xs in
    let lt : length t ≡ k = length-take k xs ∙ (omega arith) in
    let at : q ≡ length (t ++ a) = e ∙ ap (λ n. n + length a) (sym lt) ∙ sym (length-append t a) in
    ap (λ v. drop q v) (sym (append_assoc t a d)) ∙ ap (λ n. drop n ((t ++ a) ++ d)) at ∙ drop_front (t ++ a) d ∙ ap (λ n. drop n xs) (sym e)

-- ---- what is stored of pieces

imported_front : (layout : Layout) (ty : PiType) (size lba : ℕ) (bs ps : List (List ℕ)) → imported layout ty size lba bs ps ≡ imported layout ty size lba (take (length ps) bs) ps
imported_front layout ty size lba [] [] = refl
imported_front layout ty size lba [] (p ∷ ps) = refl
imported_front layout ty size lba (b ∷ bs) [] = refl
imported_front layout ty size lba (b ∷ bs) (p ∷ ps) = ap (λ v. imported_block layout ty size lba b p ∷ v) (imported_front layout ty size (lba + 1) bs ps)

imported_more : (layout : Layout) (ty : PiType) (size lba : ℕ) (xs ys ps qs : List (List ℕ)) → length xs ≡ length ps →
    imported layout ty size lba (xs ++ ys) (ps ++ qs) ≡ imported layout ty size lba xs ps ++ imported layout ty size (lba + length ps) ys qs
imported_more layout ty size lba [] ys [] qs h = ap (λ n. imported layout ty size n ys qs) (let e : lba ≡ lba + 0 = omega arith in e)
imported_more layout ty size lba [] ys (p ∷ ps) qs h = absurd (omega arith)
imported_more layout ty size lba (x ∷ xs) ys [] qs h = absurd (omega arith)
imported_more layout ty size lba (x ∷ xs) ys (p ∷ ps) qs h =
    let e : lba + 1 + length ps ≡ lba + suc (length ps) = omega arith in
    ap (λ v. imported_block layout ty size lba x p ∷ v)
    (imported_more layout ty size (lba + 1) xs ys ps qs (omega arith) ∙ ap (λ n. imported layout ty size (lba + 1) xs ps ++ imported layout ty size n ys qs) e)

pub imported_length : (layout : Layout) (ty : PiType) (size lba : ℕ) (bs ps : List (List ℕ)) → length bs ≡ length ps → length (imported layout ty size lba bs ps) ≡ length ps
imported_length layout ty size lba [] [] h = refl
imported_length layout ty size lba [] (p ∷ ps) h = absurd (omega arith)
imported_length layout ty size lba (b ∷ bs) [] h = absurd (omega arith)
imported_length layout ty size lba (b ∷ bs) (p ∷ ps) h = ap suc (imported_length layout ty size (lba + 1) bs ps (omega arith))

-- what is stored of pieces in the place of blocks from an index on
abbrev run_of : Layout → PiType → (size lba k : ℕ) → (bs ps : List (List ℕ)) → List (List ℕ)
run_of layout ty size lba k bs ps = imported layout ty size lba (take (length ps) (drop k bs)) ps

run_length : (layout : Layout) (ty : PiType) (size lba k : ℕ) (bs ps : List (List ℕ)) → k + length ps ≤ length bs → length (run_of layout ty size lba k bs ps) ≡ length ps
run_length layout ty size lba k bs ps h =
    let d = length-drop k bs in
    let t = length-take (length ps) (drop k bs) in
    imported_length layout ty size lba (take (length ps) (drop k bs)) ps (omega arith)

run_more : (layout : Layout) (ty : PiType) (size lba k : ℕ) (bs ps qs : List (List ℕ)) → k + length ps ≤ length bs →
    run_of layout ty size lba k bs (ps ++ qs) ≡ run_of layout ty size lba k bs ps ++ run_of layout ty size (lba + length ps) (k + length ps) bs qs
run_more layout ty size lba k bs ps qs h =
    let d = length-drop k bs in
    let t = length-take (length ps) (drop k bs) in
    let own : take (length (ps ++ qs)) (drop k bs) ≡ take (length ps) (drop k bs) ++ take (length qs) (drop (k + length ps) bs) =
    ap (λ n. take n (drop k bs)) (length-append ps qs) ∙ take-add (length ps) (length qs) (drop k bs) ∙ ap (λ v. take (length ps) (drop k bs) ++ take (length qs) v) (drop-drop (length ps) k bs) in
    ap (λ v. imported layout ty size lba v (ps ++ qs)) own
    ∙ imported_more layout ty size lba (take (length ps) (drop k bs)) (take (length qs) (drop (k + length ps) bs)) ps qs (omega arith)

-- ---- the units

pub run_in : (layout : Layout) (us : List UnitSpec) (s : Stretch) (found : List Stored) (ps : List (List ℕ)) → length ps ≤ s.count →
    imported_in layout us s found ps ≡ run_of layout (spec_of us s.dev).ty (spec_of us s.dev).size s.first (s.first - (unit_at found s.dev).first) (unit_at found s.dev).blocks ps
run_in layout us s found ps h =
    let bs = drop (s.first - (unit_at found s.dev).first) (unit_at found s.dev).blocks in
    imported_front layout (spec_of us s.dev).ty (spec_of us s.dev).size s.first (take s.count bs) ps
    ∙ ap (λ v. imported layout (spec_of us s.dev).ty (spec_of us s.dev).size s.first v ps) (take-take (length ps) s.count bs h)

pub with_none : (found : List Stored) (s : Stretch) → with_stretch found s [] ≡ found
with_none found s =
    let u = unit_at found s.dev in
    ap (λ b. set found s.dev (holding u b)) (placed_none (s.first - u.first) u.blocks) ∙ set-get_or found s.dev no_unit

with_twice : (found : List Stored) (s : Stretch) (n : ℕ) (xs ys : List (List ℕ)) → n ≡ length xs → s.dev < length found → (unit_at found s.dev).first ≤ s.first →
    s.first - (unit_at found s.dev).first ≤ length (unit_at found s.dev).blocks → with_stretch (with_stretch found s xs) (behind_in s n) ys ≡ with_stretch found s (xs ++ ys)
with_twice found s n xs ys e d f h =
    let u : Stored = unit_at found s.dev in
    let k = s.first - u.first in
    let v : Stored = holding u (placed k xs u.blocks) in
    let here : get_or (set found s.dev v) s.dev no_unit ≡ v = get_or-set_same found s.dev v no_unit d in
    ap (λ (w : Stored). set (set found s.dev v) s.dev (holding w (placed (s.first + n - w.first) ys w.blocks))) here
    ∙ set-set found s.dev v (holding u (placed (s.first + n - u.first) ys (placed k xs u.blocks)))
    ∙ ap (λ b. set found s.dev (holding u b)) (placed_next k (s.first + n - u.first) xs ys u.blocks h (omega arith))

-- a run of pieces behind another
pub put_twice : (layout : Layout) (us : List UnitSpec) (found : List Stored) (s : Stretch) (count : ℕ) (ps qs others : List (List ℕ)) → s.dev < length found → (unit_at found s.dev).first ≤ s.first →
    s.first - (unit_at found s.dev).first + length ps ≤ length (unit_at found s.dev).blocks → length ps + length qs ≤ s.count → length qs ≤ count →
    with_stretch (with_stretch found s (imported_in layout us s found ps)) (record { dev = s.dev; first = s.first + length ps; count = count })
    (imported_in layout us (record { dev = s.dev; first = s.first + length ps; count = count }) (with_stretch found s (imported_in layout us s found ps)) qs ++ others)
    ≡ with_stretch found s (imported_in layout us s found (ps ++ qs) ++ others)
put_twice layout us found s count ps qs others d f h c m =
    let u : Stored = unit_at found s.dev in
    let ty = (spec_of us s.dev).ty in
    let size = (spec_of us s.dev).size in
    let k = s.first - u.first in
    let t : Stretch = record { dev = s.dev; first = s.first + length ps; count = count } in
    let a : List (List ℕ) = imported_in layout us s found ps in
    let both = length-append ps qs in
    let ar : a ≡ run_of layout ty size s.first k u.blocks ps = run_in layout us s found ps (omega arith) in
    let al : length ps ≡ length a = sym (ap length ar ∙ run_length layout ty size s.first k u.blocks ps h) in
    let v : Stored = holding u (placed k a u.blocks) in
    let here : get_or (set found s.dev v) s.dev no_unit ≡ v = get_or-set_same found s.dev v no_unit d in
    let place : s.first + length ps - u.first ≡ k + length ps = omega arith in
    let qr : imported_in layout us t (with_stretch found s a) qs ≡ run_of layout ty size (s.first + length ps) (k + length ps) u.blocks qs =
    run_in layout us t (with_stretch found s a) qs m
    ∙ ap (λ (w : Stored). run_of layout ty size (s.first + length ps) (s.first + length ps - w.first) w.blocks qs) here
    ∙ ap (λ i. run_of layout ty size (s.first + length ps) i (placed k a u.blocks) qs) place
    ∙ ap (λ b. imported layout ty size (s.first + length ps) (take (length qs) b) qs) (behind_placed k (k + length ps) a u.blocks (omega arith) (ap (λ n. k + n) al)) in
    let all : a ++ imported_in layout us t (with_stretch found s a) qs ≡ imported_in layout us s found (ps ++ qs) =
    ap (λ x. x ++ imported_in layout us t (with_stretch found s a) qs) ar ∙ ap (λ x. run_of layout ty size s.first k u.blocks ps ++ x) qr
    ∙ sym (run_more layout ty size s.first k u.blocks ps qs h) ∙ sym (run_in layout us s found (ps ++ qs) (omega arith)) in
    with_twice found s (length ps) a (imported_in layout us t (with_stretch found s a) qs ++ others) al d f (omega arith)
    ∙ ap (λ x. with_stretch found s x) (sym (append_assoc a (imported_in layout us t (with_stretch found s a) qs) others) ∙ ap (λ x. x ++ others) all)

-- What the pieces of one stretch make of its blocks.
use Rattle.std.proofs.Common.{◌≡◌, ℕ, suc, ◌+◌, ◌*◌, ◌/◌, ◌%◌, ◌<◌, ◌≤◌, true, List, [], ◌∷◌, ◌++◌, length, take, drop, Option, Some, None, refl, sym, ap, subst, ◌∙◌, arith, append-nil, length-append, div-add-mod', mod-lt}
use Rattle.std.proofs.lemmas.List.{length-drop, length-take, take-append-drop, take-take}
use Rattle.std.proofs.Math.Nat.{mul-div-le, mul-le-mul_left, mul_comm}
use Rattle.std.specs.Prelude.{min}
use Rattle.dix_base.specs.Told.{IsAtEnd, Took}
use Rattle.pi_tuple.specs.declared.checks.PiType.{PiType}
use Rattle.pi_tuple.specs.declared.checks.PiType.TheVariants.{Zero, One, Two, Three}
use Rattle.rig_api.specs.Frames.{frames_of, joined, stored_size}
use Rattle.rig_api.specs.Image.{units_in}
use Rattle.rig_api.specs.declared.units.UnitSpec.{UnitSpec}
use Rattle.rig_api.proofs.FrameLaws.{frames_length}
use Rattle.target_model.specs.Served.{AllLong}
use Rattle.target_model.proofs.Bytes.{frames_back, joined_frames, long_frames}
use Rattle.image_rig.specs.LayoutPlaces.{block_len, block_place}
use Rattle.image_blocks.specs.declared.stretch.Stretch.{Stretch}
use Rattle.image_blocks.specs.Blocks.{AreLeft, ArePut, blocks_at, blocks_of, with_stretch}
use Rattle.image_blocks.specs.Places.{IsStretch, behind_in, front_in, spec_of}
use Rattle.image_blocks.proofs.Stretches.{stretch_found}
use Rattle.image_blocks.proofs.Walks.{front_is}
use Rattle.image_text.specs.declared.layout.Layout.{Layout}
use Rattle.image_text.specs.declared.layout.Layout.TheVariants.{Interleaved, Plain, Tuples}
use Rattle.image_text.specs.Dumps.{fits, imported, imported_block, piece_len}
use Rattle.image_text.specs.Ends.{ArePieces, AreSome, CanTake, HasOwn, HasTaken, IsShort, IsUnstored, imported_in}
use Rattle.image_text.proofs.Importing.{imported_nothing}
use Rattle.image_text.proofs.Putting.{imported_length, run_in, with_none}

-- a block that is made has the length that is stored
block_long : (layout : Layout) (ty : PiType) (size lba : ℕ) (block piece : List ℕ) → fits layout ty ≡ true → length block ≡ stored_size ty size → length piece ≡ piece_len layout ty size → length (imported_block layout ty size lba block piece) ≡ stored_size ty size
block_long Interleaved ty size lba block piece f b p = p
block_long Plain Zero size lba block piece f b p = p
block_long Plain One size lba block piece f b p = length-append piece _ ∙ ap (λ n. n + 8) p
block_long Plain Two size lba block piece f b p = length-append piece _ ∙ ap (λ n. n + 8) p
block_long Plain Three size lba block piece f b p = length-append piece _ ∙ ap (λ n. n + 8) p
block_long Tuples Zero size lba block piece f b p = absurd (cc)
block_long Tuples One size lba block piece f b p = let t = length-take size block in length-append (take size block) piece ∙ (omega arith)
block_long Tuples Two size lba block piece f b p = let t = length-take size block in length-append (take size block) piece ∙ (omega arith)
block_long Tuples Three size lba block piece f b p = let t = length-take size block in length-append (take size block) piece ∙ (omega arith)

run_long : (layout : Layout) (ty : PiType) (size lba : ℕ) (bs ps : List (List ℕ)) → fits layout ty ≡ true → AllLong (stored_size ty size) bs → AllLong (piece_len layout ty size) ps → AllLong (stored_size ty size) (imported layout ty size lba bs ps)
run_long layout ty size lba [] ps f b p = tt
run_long layout ty size lba (x ∷ bs) [] f b p = tt
run_long layout ty size lba (x ∷ bs) (y ∷ ps) f b p = (block_long layout ty size lba x y f b.0 p.0, run_long layout ty size (lba + 1) bs ps f b.1 p.1)

-- The pieces have data.
abbrev HasData : Layout → Type 0
HasData Interleaved = Unit {0}
HasData Plain = Unit {0}
HasData Tuples = ⊥

-- Such pieces make the same of any blocks.
same_run : (layout : Layout) (ty : PiType) (size lba : ℕ) (xs ys ps : List (List ℕ)) → HasData layout → length xs ≡ length ys → imported layout ty size lba xs ps ≡ imported layout ty size lba ys ps
same_run layout ty size lba [] [] ps l h = refl
same_run layout ty size lba [] (y ∷ ys) ps l h = absurd (omega arith)
same_run layout ty size lba (x ∷ xs) [] ps l h = absurd (omega arith)
same_run layout ty size lba (x ∷ xs) (y ∷ ys) [] l h = refl
same_run Interleaved ty size lba (x ∷ xs) (y ∷ ys) (p ∷ ps) l h = ap (λ v. p ∷ v) (same_run Interleaved ty size (lba + 1) xs ys ps l (omega arith))
same_run Plain ty size lba (x ∷ xs) (y ∷ ys) (p ∷ ps) l h = ap (λ v. imported_block Plain ty size lba x p ∷ v) (same_run Plain ty size (lba + 1) xs ys ps l (omega arith))
same_run Tuples ty size lba (x ∷ xs) (y ∷ ys) (p ∷ ps) l h = absurd l

found_many : (us : List UnitSpec) (was : List ℕ) (s : Stretch) → IsStretch us s → length (blocks_at (units_in us was) s) ≡ s.count
found_many us was s h = ap length (stretch_found us was s h) ∙ frames_length (block_len us s.dev) s.count (drop (block_place us s.dev s.first) was)

-- what pieces make of the blocks in the room is what they make of the stored ones
own_run : (layout : Layout) (us : List UnitSpec) (s : Stretch) (room : List ℕ) (ps : List (List ℕ)) (was : List ℕ) → IsStretch us s → HasOwn layout us s room (Some was) →
    imported layout (spec_of us s.dev).ty (spec_of us s.dev).size s.first (blocks_of us s room) ps ≡ imported_in layout us s (units_in us was) ps
own_run Interleaved us s room ps was h o =
    same_run Interleaved (spec_of us s.dev).ty (spec_of us s.dev).size s.first (blocks_of us s room) (blocks_at (units_in us was) s) ps tt (frames_length (block_len us s.dev) s.count room ∙ sym (found_many us was s h))
own_run Plain us s room ps was h o =
    same_run Plain (spec_of us s.dev).ty (spec_of us s.dev).size s.first (blocks_of us s room) (blocks_at (units_in us was) s) ps tt (frames_length (block_len us s.dev) s.count room ∙ sym (found_many us was s h))
own_run Tuples us s room ps was h o = ap (λ v. imported Tuples (spec_of us s.dev).ty (spec_of us s.dev).size s.first v ps) o.stored

pub pieces_put : (layout : Layout) (us vs : List UnitSpec) (s : Stretch) (room made pieces : List ℕ) (old new : Option (List ℕ)) → vs ≡ us → IsStretch us s → fits layout (spec_of us s.dev).ty ≡ true → length room ≡ s.count * block_len us s.dev →
    length pieces ≡ s.count * piece_len layout (spec_of us s.dev).ty (spec_of us s.dev).size →
    made ≡ joined (imported layout (spec_of vs s.dev).ty (spec_of vs s.dev).size s.first (blocks_of vs s room) (frames_of (piece_len layout (spec_of vs s.dev).ty (spec_of vs s.dev).size) s.count pieces)) →
    HasOwn layout us s room old → ArePut us s (blocks_of us s made) old new → ArePieces layout us s (frames_of (piece_len layout (spec_of us s.dev).ty (spec_of us s.dev).size) s.count pieces) [] old new
pieces_put layout us vs s room made pieces None None v h f lr lp e o p = tt
pieces_put layout us vs s room made pieces None (Some new) v h f lr lp e o p = p
pieces_put layout us vs s room made pieces (Some was) None v h f lr lp e o p = p
pieces_put layout us vs s room made pieces (Some was) (Some new) v h f lr lp e o p =
    let ty = (spec_of us s.dev).ty in
    let size = (spec_of us s.dev).size in
    let len = block_len us s.dev in
    let each = piece_len layout ty size in
    let bs : List (List ℕ) = blocks_of us s room in
    let ps : List (List ℕ) = frames_of each s.count pieces in
    let xs : List (List ℕ) = imported layout ty size s.first bs ps in
    let is : made ≡ joined xs =
    e ∙ ap (λ (w : List UnitSpec). joined (imported layout (spec_of w s.dev).ty (spec_of w s.dev).size s.first (blocks_of w s room) (frames_of (piece_len layout (spec_of w s.dev).ty (spec_of w s.dev).size) s.count pieces))) v in
    let c1 = mul_comm s.count len in
    let c2 = mul_comm s.count each in
    let nb = frames_length len s.count room in
    let np = frames_length each s.count pieces in
    let many : length xs ≡ s.count = imported_length layout ty size s.first bs ps (nb ∙ sym np) ∙ np in
    let long : AllLong len xs = run_long layout ty size s.first bs ps f (long_frames len s.count room (omega arith)) (long_frames each s.count pieces (omega arith)) in
    let back : blocks_of us s made ≡ xs =
    ap (frames_of len s.count) (is ∙ sym (append-nil (joined xs))) ∙ ap (λ n. frames_of len n (joined xs ++ [])) (sym many) ∙ frames_back len xs [] long in
    p ∙ ap (λ b. with_stretch (units_in us was) s b) (back ∙ own_run layout us s room ps was h o ∙ sym (append-nil (imported_in layout us s (units_in us was) ps)))

pub left_some : (us : List UnitSpec) (s : Stretch) (old new : Option (List ℕ)) → AreLeft us s old new → AreSome us s old new
left_some us s None None p = tt
left_some us s None (Some new) p = p
left_some us s (Some old) None p = p
left_some us s (Some old) (Some new) p = let n = p.2 in record { left = p.0; long = p.1; few = omega arith; put = p.3 }

pub none_some : (us : List UnitSpec) (s : Stretch) (x y : Option (List ℕ)) → y ≡ x → AreSome us s x y
none_some us s x y e = subst (λ v. AreSome us s x v) (sym e) (none x)
  where
    none : (x : Option (List ℕ)) → AreSome us s x x
    none None = tt
    none (Some x) = record { left = []; long = tt; few = omega arith; put = sym (with_none (units_in us x) s) }

-- ---- a stretch of which so many pieces came

-- no more are whole than came
pub whole_held : (whole got each count : ℕ) → whole ≡ min (got / each) count → whole * each ≤ got
whole_held whole got each count e =
    let a : each * whole ≤ each * (got / each) = mul-le-mul_left each (omega arith) in
    let b = mul-div-le got each in
    let c = mul_comm each whole in
    omega arith

pub stored_front : (layout : Layout) (us : List UnitSpec) (s front : Stretch) (whole : ℕ) (ps : List (List ℕ)) (old new : Option (List ℕ)) → front ≡ front_in s whole → whole ≤ s.count → length ps ≡ whole →
    ArePieces layout us front ps [] old new → ArePieces layout us s ps [] old new
stored_front layout us s front whole ps None None e h l p = tt
stored_front layout us s front whole ps None (Some new) e h l p = p
stored_front layout us s front whole ps (Some old) None e h l p = p
stored_front layout us s front whole ps (Some old) (Some new) e h l p =
    let q = subst (λ v. ArePieces layout us v ps [] (Some old) (Some new)) e p in
    let same : imported_in layout us (front_in s whole) (units_in us old) ps ≡ imported_in layout us s (units_in us old) ps =
    run_in layout us (front_in s whole) (units_in us old) ps (omega arith) ∙ sym (run_in layout us s (units_in us old) ps (omega arith)) in
    q ∙ ap (λ v. with_stretch (units_in us old) s (v ++ [])) same

pub front_taken : (layout : Layout) (us : List UnitSpec) (s front : Stretch) (whole got : ℕ) (room : List ℕ) (a b l m : Option (List ℕ)) → front ≡ front_in s whole → whole ≤ s.count →
    whole * piece_len layout (spec_of us s.dev).ty (spec_of us s.dev).size ≤ got → got ≤ length room → Took (take got room) l m →
    ArePieces layout us front (frames_of (piece_len layout (spec_of us s.dev).ty (spec_of us s.dev).size) whole (take (whole * piece_len layout (spec_of us s.dev).ty (spec_of us s.dev).size) room)) [] a b →
    HasTaken layout us s whole (drop (whole * piece_len layout (spec_of us s.dev).ty (spec_of us s.dev).size) (take got room)) [] a b l m
front_taken layout us s front whole got room a b l m e h w g t p =
    let each = piece_len layout (spec_of us s.dev).ty (spec_of us s.dev).size in
    let n = whole * each in
    let ps : List (List ℕ) = frames_of each whole (take n room) in
    let c = mul_comm each whole in
    let k : length (take n room) ≡ n = length-take n room ∙ (omega arith) in
    let many = frames_length each whole (take n room) in
    let same : joined ps ≡ take n (take got room) = joined_frames each whole (take n room) ∙ ap (λ i. take i (take n room)) c ∙ take-take n n room (omega arith) ∙ sym (take-take n got room w) in
    record {
      pieces = ps;
      many = many;
      long = long_frames each whole (take n room) (omega arith);
      taken = subst (λ v. Took v l m) (sym (ap (λ v. v ++ drop n (take got room)) same ∙ take-append-drop n (take got room))) t;
      put = stored_front layout us s front whole ps a b e h many p;
    }

pub some_taken : (layout : Layout) (us vs : List UnitSpec) (s front : Stretch) (whole got each : ℕ) (room : List ℕ) (a b l m : Option (List ℕ)) → vs ≡ us → each ≡ piece_len layout (spec_of vs s.dev).ty (spec_of vs s.dev).size → front ≡ front_in s whole →
    whole ≡ min (got / each) s.count → got ≤ length room → Took (take got room) l m →
    ArePieces layout us front (frames_of (piece_len layout (spec_of us front.dev).ty (spec_of us front.dev).size) front.count (take (whole * each) room)) [] a b → HasTaken layout us s whole (drop (whole * each) (take got room)) [] a b l m
some_taken layout us vs s front whole got each room a b l m v e f w g t p =
    let pl = piece_len layout (spec_of us s.dev).ty (spec_of us s.dev).size in
    let le : each ≡ pl = e ∙ ap (λ (x : List UnitSpec). piece_len layout (spec_of x s.dev).ty (spec_of x s.dev).size) v in
    let all : min s.count whole ≡ whole = omega arith in
    let p1 = subst (λ (x : Stretch). ArePieces layout us x (frames_of (piece_len layout (spec_of us x.dev).ty (spec_of us x.dev).size) x.count (take (whole * each) room)) [] a b) f p in
    let p2 = subst (λ k. ArePieces layout us (front_in s whole) (frames_of pl k (take (whole * each) room)) [] a b) all p1 in
    let p3 = subst (λ k. ArePieces layout us (front_in s whole) (frames_of pl whole (take (whole * k) room)) [] a b) le p2 in
    let h : whole * pl ≤ got = subst (λ k. whole * k ≤ got) le (whole_held whole got each s.count w) in
    subst (λ k. HasTaken layout us s whole (drop (whole * k) (take got room)) [] a b l m) (sym le) (front_taken layout us s (front_in s whole) whole got room a b l m refl (omega arith) h g t p3)

-- fewer came than the stretch has blocks
pub ends_short : (layout : Layout) (us vs : List UnitSpec) (s front : Stretch) (whole got each : ℕ) (room : List ℕ) (a b l m : Option (List ℕ)) → vs ≡ us → each ≡ piece_len layout (spec_of vs s.dev).ty (spec_of vs s.dev).size → 0 < each → front ≡ front_in s whole →
    whole ≡ min (got / each) s.count → front.count < s.count → length room ≡ s.count * each → got ≤ length room → Took (take got room) l m → (got < length room → IsAtEnd m) →
    ArePieces layout us front (frames_of (piece_len layout (spec_of us front.dev).ty (spec_of us front.dev).size) front.count (take (whole * each) room)) [] a b → IsShort layout us s front.count a b l m
ends_short layout us vs s front whole got each room a b l m v e z f w few lr g t end p =
    let le : each ≡ piece_len layout (spec_of us s.dev).ty (spec_of us s.dev).size = e ∙ ap (λ (x : List UnitSpec). piece_len layout (spec_of x s.dev).ty (spec_of x s.dev).size) v in
    let count : front.count ≡ min s.count whole = ap (λ (x : Stretch). x.count) f in
    let all : front.count ≡ whole = omega arith in
    let is : whole ≡ got / each = omega arith in
    let parts = div-add-mod' got each in
    let rest : got % each < each = mod-lt got z in
    let same : whole * each ≡ got / each * each = ap (λ n. n * each) is in
    let long = length-drop (whole * each) (take got room) in
    let took = length-take got room in
    let fits : each * suc whole ≤ each * s.count = mul-le-mul_left each (omega arith) in
    let c1 = mul_comm each s.count in
    let c2 : each * suc whole ≡ whole * each + each = mul_comm each (suc whole) ∙ (omega arith) in
    let less : length (drop (whole * each) (take got room)) < each = omega arith in
    subst (λ n. IsShort layout us s n a b l m) (sym all) (record {
      more = drop (whole * each) (take got room);
      few = omega arith;
      less = subst (λ n. length (drop (whole * each) (take got room)) < n) le less;
      has = some_taken layout us vs s front whole got each room a b l m v e f w g t p;
      end = end (omega arith);
    })

nothing_long : (xs : List ℕ) → length xs ≡ 0 → xs ≡ []
nothing_long [] h = refl
nothing_long (x ∷ xs) h = absurd (omega arith)

-- all came
pub ends_whole : (layout : Layout) (us vs : List UnitSpec) (s front : Stretch) (whole got each : ℕ) (room : List ℕ) (a b l m : Option (List ℕ)) → vs ≡ us → each ≡ piece_len layout (spec_of vs s.dev).ty (spec_of vs s.dev).size → front ≡ front_in s whole →
    whole ≡ min (got / each) s.count → s.count ≤ front.count → length room ≡ s.count * each → got ≤ length room → Took (take got room) l m →
    ArePieces layout us front (frames_of (piece_len layout (spec_of us front.dev).ty (spec_of us front.dev).size) front.count (take (whole * each) room)) [] a b → (front.count ≡ s.count) × HasTaken layout us s front.count [] [] a b l m
ends_whole layout us vs s front whole got each room a b l m v e f w many lr g t p =
    let count : front.count ≡ min s.count whole = ap (λ (x : Stretch). x.count) f in
    let all : front.count ≡ whole = omega arith in
    let is : whole ≡ s.count = omega arith in
    let same : whole * each ≡ s.count * each = ap (λ n. n * each) is in
    let long = length-drop (whole * each) (take got room) in
    let took = length-take got room in
    let none : drop (whole * each) (take got room) ≡ [] = nothing_long _ (omega arith) in
    (omega arith, subst (λ n. HasTaken layout us s n [] [] a b l m) (sym all) (subst (λ x. HasTaken layout us s whole x [] a b l m) none (some_taken layout us vs s front whole got each room a b l m v e f w g t p)))

-- the store failed, and some blocks may be anything
pub unstored : (layout : Layout) (us : List UnitSpec) (s front : Stretch) (whole room : ℕ) (bytes : List ℕ) (a b l m : Option (List ℕ)) → front ≡ front_in s whole → whole ≤ s.count → room ≡ s.count * block_len us s.dev → AreSome us front a b → Took bytes l m → IsUnstored layout us s room a b l m
unstored layout us s front whole room bytes None None l m e w r p t =
    record { n = 0; more = bytes; others = []; few = omega arith; held = omega arith; long = tt; has = record { pieces = []; many = refl; long = tt; taken = t; put = tt } }
unstored layout us s front whole room bytes None (Some b) l m e w r p t = absurd p
unstored layout us s front whole room bytes (Some a) None l m e w r p t = absurd p
unstored layout us s front whole room bytes (Some a) (Some b) l m e w r p t =
    let q = subst (λ (x : Stretch). AreSome us x (Some a) (Some b)) e p in
    let few = q.few in
    let bytes_few : block_len us s.dev * length q.left ≤ block_len us s.dev * s.count = mul-le-mul_left (block_len us s.dev) (omega arith) in
    let c1 = mul_comm (block_len us s.dev) (length q.left) in
    let c2 = mul_comm (block_len us s.dev) s.count in
    record {
      n = 0;
      more = bytes;
      others = q.left;
      few = omega arith;
      held = omega arith;
      long = q.long;
      has = record { pieces = []; many = refl; long = tt; taken = t; put = q.put ∙ sym (ap (λ x. with_stretch (units_in us a) s (x ++ q.left)) (imported_nothing layout us s (units_in us a))) };
    }

-- ---- the rooms of a stretch

pub pieces_fit : (layout : Layout) (us vs : List UnitSpec) (s front : Stretch) (whole got each : ℕ) (room : List ℕ) → vs ≡ us → each ≡ piece_len layout (spec_of vs s.dev).ty (spec_of vs s.dev).size → front ≡ front_in s whole →
    whole ≡ min (got / each) s.count → got ≤ length room → length (take (whole * each) room) ≡ front.count * piece_len layout (spec_of us front.dev).ty (spec_of us front.dev).size
pieces_fit layout us vs s front whole got each room v e f w g =
    let le : each ≡ piece_len layout (spec_of us s.dev).ty (spec_of us s.dev).size = e ∙ ap (λ (x : List UnitSpec). piece_len layout (spec_of x s.dev).ty (spec_of x s.dev).size) v in
    let all : min s.count whole ≡ whole = omega arith in
    let h = whole_held whole got each s.count w in
    let t : length (take (whole * each) room) ≡ whole * each = length-take (whole * each) room ∙ (omega arith) in
    t ∙ ap (λ n. whole * n) le ∙ ap (λ n. n * piece_len layout (spec_of us s.dev).ty (spec_of us s.dev).size) (sym all)
    ∙ sym (ap (λ (x : Stretch). x.count * piece_len layout (spec_of us x.dev).ty (spec_of us x.dev).size) f)

pub frames_fit : (us : List UnitSpec) (s front : Stretch) (whole len : ℕ) (frames : List ℕ) → len ≡ block_len us s.dev → front ≡ front_in s whole → whole ≤ s.count → length frames ≡ s.count * block_len us s.dev →
    length (take (whole * len) frames) ≡ front.count * block_len us front.dev
frames_fit us s front whole len frames e f w g =
    let all : min s.count whole ≡ whole = omega arith in
    let h : block_len us s.dev * whole ≤ block_len us s.dev * s.count = mul-le-mul_left (block_len us s.dev) w in
    let c1 = mul_comm (block_len us s.dev) whole in
    let c2 = mul_comm (block_len us s.dev) s.count in
    ap (λ n. length (take (whole * n) frames)) e ∙ length-take (whole * block_len us s.dev) frames ∙ (omega arith) ∙ ap (λ n. n * block_len us s.dev) (sym all)
    ∙ sym (ap (λ (x : Stretch). x.count * block_len us x.dev) f)

-- pieces of the first blocks can be taken too
pub still_taken : (layout : Layout) (us : List UnitSpec) (s front : Stretch) (whole len : ℕ) → CanTake layout us s len → front ≡ front_in s whole → CanTake layout us front len
still_taken layout us s front whole len r f =
    subst (λ (x : Stretch). CanTake layout us x len) (sym f) (record { there = front_is us s whole r.there; fits = r.fits; held = r.held })

-- and of the first blocks that are left
pub piece_taken : (layout : Layout) (us : List UnitSpec) (s left piece : Stretch) (most n len now : ℕ) → CanTake layout us s len → now ≡ len → IsStretch us left → left ≡ behind_in s n → piece ≡ front_in left most → CanTake layout us piece now
piece_taken layout us s left piece most n len now r k h b e =
    still_taken layout us left piece most now (record { there = h; fits = ap (λ (x : Stretch). fits layout (spec_of us x.dev).ty) b ∙ r.fits; held = k ∙ r.held }) e

pub room_is : (layout : Layout) (us vs : List UnitSpec) (s : Stretch) (each n : ℕ) → vs ≡ us → each ≡ piece_len layout (spec_of vs s.dev).ty (spec_of vs s.dev).size → n ≡ s.count * piece_len layout (spec_of us s.dev).ty (spec_of us s.dev).size → n ≡ s.count * each
room_is layout us vs s each n v e r = r ∙ ap (λ k. s.count * k) (sym (e ∙ ap (λ (x : List UnitSpec). piece_len layout (spec_of x s.dev).ty (spec_of x s.dev).size) v))

size_in : (ty : PiType) (size : ℕ) → (size ≤ stored_size ty size) × (stored_size ty size ≤ size + 8)
size_in Zero size = (omega arith, omega arith)
size_in One size = (omega arith, omega arith)
size_in Two size = (omega arith, omega arith)
size_in Three size = (omega arith, omega arith)

piece_in : (layout : Layout) (ty : PiType) (size : ℕ) → 512 ≤ stored_size ty size → (0 < piece_len layout ty size) × (piece_len layout ty size ≤ stored_size ty size)
piece_in Interleaved ty size h = (omega arith, omega arith)
piece_in Plain ty size h = let s = size_in ty size in (omega (arith, s.0, s.1, h), s.0)
piece_in Tuples ty size h = (omega arith, omega arith)

bytes_of_piece : (layout : Layout) (us vs : List UnitSpec) (dev each len : ℕ) → vs ≡ us → each ≡ piece_len layout (spec_of vs dev).ty (spec_of vs dev).size → len ≡ block_len us dev → 512 ≤ len → (0 < each) × (each ≤ len)
bytes_of_piece layout us vs dev each len v e l h =
    let le : each ≡ piece_len layout (spec_of us dev).ty (spec_of us dev).size = e ∙ ap (λ (x : List UnitSpec). piece_len layout (spec_of x dev).ty (spec_of x dev).size) v in
    let p = piece_in layout (spec_of us dev).ty (spec_of us dev).size (subst (λ n. 512 ≤ n) l h) in
    (omega (arith, le, p.0), subst (λ n. each ≤ n) (sym l) (subst (λ n. n ≤ block_len us dev) (sym le) p.1))

pub some_bytes : (layout : Layout) (us vs : List UnitSpec) (dev each len : ℕ) → vs ≡ us → each ≡ piece_len layout (spec_of vs dev).ty (spec_of vs dev).size → len ≡ block_len us dev → 512 ≤ len → 0 < each
some_bytes layout us vs dev each len v e l h = (bytes_of_piece layout us vs dev each len v e l h).0

pub pieces_held : (layout : Layout) (us vs : List UnitSpec) (dev each len n room : ℕ) → vs ≡ us → each ≡ piece_len layout (spec_of vs dev).ty (spec_of vs dev).size → len ≡ block_len us dev → 512 ≤ len → n * len ≤ room → n * each ≤ room
pieces_held layout us vs dev each len n room v e l h r = let a : n * each ≤ n * len = mul-le-mul_left n (bytes_of_piece layout us vs dev each len v e l h).1 in omega (arith, a, r)

pub cut_is : (n : ℕ) (xs : List ℕ) → n ≤ length xs → n ≡ length (take n xs)
cut_is n xs h = let t = length-take n xs in omega arith

pub piece_room : (layout : Layout) (us vs : List UnitSpec) (s left piece : Stretch) (most n each : ℕ) (xs : List ℕ) → vs ≡ us → each ≡ piece_len layout (spec_of vs s.dev).ty (spec_of vs s.dev).size → left ≡ behind_in s n → piece ≡ front_in left most → piece.count * each ≤ length xs →
    length (take (piece.count * each) xs) ≡ piece.count * piece_len layout (spec_of us piece.dev).ty (spec_of us piece.dev).size
piece_room layout us vs s left piece most n each xs v e b f h =
    let le : each ≡ piece_len layout (spec_of us s.dev).ty (spec_of us s.dev).size = e ∙ ap (λ (x : List UnitSpec). piece_len layout (spec_of x s.dev).ty (spec_of x s.dev).size) v in
    let dev : piece.dev ≡ s.dev = ap (λ (x : Stretch). x.dev) f ∙ ap (λ (x : Stretch). x.dev) b in
    sym (cut_is (piece.count * each) xs h) ∙ ap (λ k. piece.count * k) (le ∙ ap (λ d. piece_len layout (spec_of us d).ty (spec_of us d).size) (sym dev))

pub cut_few : (n total : ℕ) (xs : List ℕ) → length xs ≡ total → length (take n xs) ≤ total
cut_few n total xs h = let t = length-take n xs in omega arith

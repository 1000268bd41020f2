-- The blocks of a group one after another, and what its command asks of each.
use Rattle.std.proofs.Common.{◌≡◌, ◌<◌, ◌≤◌, ℕ, zero, suc, ◌+◌, ◌*◌, Bool, true, false, not, ◌&&◌, List, [], ◌∷◌, ◌++◌, length, map, take, drop, refl, ap, sym, subst, ◌∙◌, arith, inl, inr, Option, Some, None, append_assoc, length-append}
use Rattle.std.specs.Prelude.{if◌then◌else◌, IfOk, ℤ, pos, ◌+ℤ◌, Result, Ok, Err}
use Rattle.std.specs.List.{All}
use Rattle.std.proofs.lemmas.List.{length-map, take_at, drop_at}
use Rattle.std.proofs.lemmas.Bool.{or_parts}
use Rattle.page_pool.specs.Cells.{cell, flat, gather}
use Rattle.page_pool.specs.Places.{range_of, total}
use Rattle.page_pool.proofs.Spreads.{length-range}
use Rattle.integrity_payload.specs.declared.payload.Payload.{Payload}
use Rattle.integrity_payload.proofs.Fills.{block_fits}
use Rattle.pi_tuple.specs.Finds.{is_zero}
use Rattle.pi_tuple.specs.declared.checks.Check.{Check}
use Rattle.bio_core.specs.declared.bio.Bio.{Bio}
use Rattle.bio_core.specs.declared.request.Dir.{Dir}
use Rattle.bio_core.specs.declared.request.Io.{Io}
use Rattle.bio_core.specs.Bios.{Block, block_size, blocks_from, blocks_of}
use Rattle.fault_schedule.specs.Altered.{shift_of}
use Rattle.fault_schedule.specs.declared.Label.{Label}
use Rattle.fault_schedule.specs.declared.fault.Crossing.TheVariants.{AdapterToTarget, MediumToTarget, TargetToMedium}
use Rattle.rig_api.specs.Passed.{frames_of, joined, sent_size, onto_medium, each, passage as passage_of}
use Rattle.rig_api.specs.declared.units.UnitSpec.{UnitSpec}
use Rattle.page_pool.proofs.Ranges.{take-sum}
use Rattle.block_path.specs.Routes.{host_size, moved, passage, wire_lba, wire_size}
use Rattle.block_path.proofs.Sizes.{out_size}
use Rattle.dix_adapter.specs.declared.adapter.Adapter.{Adapter}
use Rattle.dix_adapter.specs.Carried.{any_bad, frame_sent, is_bad, sends}
use Rattle.dix_adapter.specs.Groups.{Chain, IsBio, IsCarriedGroup, IsProtect, blocks_in, data_cells, first_of, frame_cells, frame_in, label_of, request_of, route_of, tuple_cells}
use Rattle.dix_adapter.specs.Walking.{HasHost, Walkable, WalksTuples}
use Rattle.dix_adapter.proofs.Asking.{address-more, asked-alike, field_for, fields_of}
use Rattle.dix_adapter.proofs.Flaws.{onto-alike}
use Rattle.dix_adapter.proofs.Blocks.{length-blocks}
use Rattle.dix_adapter.proofs.GoingOut.{all_sent, judged_out}
use Rattle.dix_adapter.proofs.Labels.{label-at}

-- what is known of a block at this address
pub record Next (a : Adapter) (ios : List Io) (device bytes : ℕ) (s t u : ℤ) (address : ℕ) (b : Block) : Type 0 where
  pub dev : b.dev ≡ device
  pub lba : b.lba ≡ address
  pub long : block_size (request_of ios b.op) ≡ bytes
  pub host : length (frame_cells ios b) ≡ host_size (route_of a ios b)
  pub wire : shift_of a.tamper AdapterToTarget b.op ≡ s
  pub medium : shift_of a.tamper MediumToTarget b.op ≡ t
  pub stored : shift_of a.tamper TargetToMedium b.op ≡ u

abbrev pub Run : Adapter → List Io → (device bytes : ℕ) → (s t u : ℤ) → (address : ℕ) → List Block → Type 0
Run a ios device bytes s t u address [] = Unit {0}
Run a ios device bytes s t u address (b ∷ bs) = Next a ios device bytes s t u address b × Run a ios device bytes s t u (suc address) bs

run-append : (a : Adapter) (ios : List Io) (device bytes : ℕ) (s t u : ℤ) (at : ℕ) (xs ys : List Block) → Run a ios device bytes s t u at xs → Run a ios device bytes s t u (at + length xs) ys → Run a ios device bytes s t u at (xs ++ ys)
run-append a ios device bytes s t u at [] ys x y = let z : at + 0 ≡ at = omega arith in subst (λ k. Run a ios device bytes s t u k ys) z y
run-append a ios device bytes s t u at (b ∷ xs) ys x y =
    let z : at + suc (length xs) ≡ suc at + length xs = omega arith in
    (x.0, run-append a ios device bytes s t u (suc at) xs ys x.1 (subst (λ k. Run a ios device bytes s t u k ys) z y))

-- ---- the cells of a frame

tuple-cells-long : (dix : Bool) (pi : Option Payload) (count k n : ℕ) (pool : List (List ℕ)) → WalksTuples pool count pi → HasHost dix pi → k < count → n + length (tuple_cells pi k) ≡ (if dix then n + 8 else n)
tuple-cells-long true None count k n pool w h l = absurd h
tuple-cells-long true (Some pi) count k n pool w h l = let t = w.0.long in let c = w.1.0 in let e = length-map (range_of pi.tuples (8 * k) 8) cell ∙ length-range pi.tuples (8 * k) 8 (omega arith) in omega (arith, e)
tuple-cells-long false None count k n pool w h l = omega arith
tuple-cells-long false (Some pi) count k n pool w h l = absurd h

pub cells-long : (dix : Bool) (pool : List (List ℕ)) (io : Io) (k : ℕ) → Walkable pool io → HasHost dix io.pi → k < io.count → length (data_cells io k ++ tuple_cells io.pi k) ≡ (if dix then block_size io + 8 else block_size io)
cells-long dix pool io k w h l =
    let b = length-map (range_of io.body (k * block_size io) (block_size io)) cell ∙ length-range io.body (k * block_size io) (block_size io) (block_fits (total io.body) io.count k l) in
    length-append (data_cells io k) (tuple_cells io.pi k) ∙ ap (λ n. n + length (tuple_cells io.pi k)) b ∙ tuple-cells-long dix io.pi io.count k (block_size io) pool w.tuples h l

-- ---- the blocks of a bio, and of a group

bio-run : (a : Adapter) (pool : List (List ℕ)) (ios : List Io) (bytes : ℕ) (s t u : ℤ) (op k dev lba : ℕ) (dir : Dir) (n : ℕ) → block_size (request_of ios op) ≡ bytes → Walkable pool (request_of ios op) → HasHost a.dix (request_of ios op).pi → k + n ≤ (request_of ios op).count →
    shift_of a.tamper AdapterToTarget op ≡ s → shift_of a.tamper MediumToTarget op ≡ t → shift_of a.tamper TargetToMedium op ≡ u → Run a ios dev bytes s t u lba (blocks_from op k dev lba dir n)
bio-run a pool ios bytes s t u op k dev lba dir zero z w h l x y v = tt
bio-run a pool ios bytes s t u op k dev lba dir (suc n) z w h l x y v = (
  record { dev = refl; lba = refl; long = z; host = cells-long a.dix pool (request_of ios op) k w h (omega arith); wire = x; medium = y; stored = v },
  bio-run a pool ios bytes s t u op (suc k) dev (suc lba) dir n z w h (omega arith) x y v,
)

-- the op of a bio is shifted so
abbrev pub IsShifted : Adapter → (s t u : ℤ) → Bio → Type 0
IsShifted a s t u b = (shift_of a.tamper AdapterToTarget b.op ≡ s) × (shift_of a.tamper MediumToTarget b.op ≡ t) × (shift_of a.tamper TargetToMedium b.op ≡ u)

bios-run : (a : Adapter) (pool : List (List ℕ)) (ios : List Io) (bytes dev at : ℕ) (dir : Dir) (s t u : ℤ) (req : List Bio) → All (IsBio a pool bytes ios dev dir) req → Chain at req →
    All (IsShifted a s t u) req → Run a ios dev bytes s t u at (blocks_in req)
bios-run a pool ios bytes dev at dir s t u [] h c e = tt
bios-run a pool ios bytes dev at dir s t u (b ∷ bs) h c e =
    let x : IsBio a pool bytes ios dev dir b = h 0 b (omega arith) in
    let y : IsShifted a s t u b = e 0 b (omega arith) in
    let one : Run a ios b.dev bytes s t u b.lba (blocks_of b) = bio-run a pool ios bytes s t u b.op b.k b.dev b.lba b.dir b.count x.request.size x.request.walks x.request.host x.within y.0 y.1 y.2 in
    let here : Run a ios dev bytes s t u at (blocks_of b) = subst (λ d. Run a ios d bytes s t u at (blocks_of b)) x.on (subst (λ l. Run a ios b.dev bytes s t u l (blocks_of b)) c.0 one) in
    let n : at + length (blocks_of b) ≡ at + b.count = ap (λ m. at + m) (length-blocks b.op b.k b.dev b.lba b.dir b.count) in
    run-append a ios dev bytes s t u at (blocks_of b) (blocks_in bs) here
    (subst (λ m. Run a ios dev bytes s t u m (blocks_in bs)) (sym n) (bios-run a pool ios bytes dev (at + b.count) dir s t u bs (λ k d l. h (suc k) d (omega (arith, l))) c.1 (λ k d l. e (suc k) d (omega (arith, l)))))

pub group-run : (a : Adapter) (pool : List (List ℕ)) (bytes : ℕ) (ios : List Io) (req : List Bio) (s t u : ℤ) → IsCarriedGroup a pool bytes ios req →
    All (IsShifted a s t u) req → Run a ios (first_of req).dev bytes s t u (first_of req).lba (blocks_in req)
group-run a pool bytes ios req s t u g e = bios-run a pool ios bytes (first_of req).dev (first_of req).lba (first_of req).dir s t u req g.bios g.chain e

-- ---- out

pub asked-out : (a : Adapter) (ios : List Io) (unit : UnitSpec) (labels : List Label) (cells : List ℕ) (lba n at dev bytes : ℕ) (s t u : ℤ) (bs : List Block) (k : ℕ) → unit.ty ≡ a.ty → unit.size ≡ bytes → pos lba +ℤ s ≡ pos at → Run a ios dev bytes s t u (lba + k) bs → drop k labels ≡ map label_of bs →
    each (λ k frame. onto_medium a.tamper (passage_of unit (fields_of a lba n) at labels k) frame) k (all_sent a ios cells bs) ≡ judged_out a ios cells bs
asked-out a ios unit labels cells lba n at dev bytes s t u [] k y z p r d = refl
asked-out a ios unit labels cells lba n at dev bytes s t u (b ∷ bs) k y z p r d =
    let l = label-at k labels (map label_of bs) (label_of b) d in
    let m : suc (lba + k) ≡ lba + (k + 1) = omega arith in
    let q : suc k ≡ k + 1 = omega arith in
    let w : at + k ≡ wire_lba a.tamper (route_of a ios b) = sym (ap (λ j. moved b.lba j) r.0.wire ∙ ap (λ j. moved j s) r.0.lba ∙ address-more lba k at s p) in
    ap (λ j. j ∷ each (λ k frame. onto_medium a.tamper (passage_of unit (fields_of a lba n) at labels k) frame) (k + 1) (all_sent a ios cells bs))
    (onto-alike a.tamper (passage_of unit (fields_of a lba n) at labels k) (passage a.tamper (route_of a ios b)) (frame_sent (sends a ios cells b))
    (asked-alike a unit a.tamper labels lba n at k (route_of a ios b) (record { ty = y; bytes = z ∙ sym r.0.long; own_type = refl; mode = refl; lba = r.0.lba; wire = w; label = l.0 })))
    ∙ ap (λ js. onto_medium a.tamper (passage a.tamper (route_of a ios b)) (frame_sent (sends a ios cells b)) ∷ js)
    (asked-out a ios unit labels cells lba n at dev bytes s t u bs (k + 1) y z p (subst (λ j. Run a ios dev bytes s t u j bs) m r.1) (ap (λ j. drop j labels) (sym q) ∙ l.1))

-- the frames that are sent have the wire's size
abbrev pub width_for : Adapter → ℕ → ℕ
width_for a bytes = if a.dif && not (is_zero a.ty) then bytes + 8 else bytes

gathered-long : (cells at : List ℕ) → length (gather 0 at cells) ≡ length at
gathered-long cells [] = refl
gathered-long cells (i ∷ at) = ap suc (gathered-long cells at)

good-long : (w : ℕ) (r : Result (List ℕ) Check) → is_bad r ≡ false → IfOk r (λ f. length f ≡ w) → length (frame_sent r) ≡ w
good-long w (Ok f) h l = l
good-long w (Err c) h l = absurd (let x : true ≡ false = h in cc)

-- each has this length
abbrev pub AllLong : ℕ → List (List ℕ) → Type 0
AllLong w [] = Unit {0}
AllLong w (f ∷ fs) = (length f ≡ w) × AllLong w fs

-- blocks of one size, and their cells
abbrev pub Shaped : Adapter → List Io → (bytes : ℕ) → List Block → Type 0
Shaped a ios bytes [] = Unit {0}
Shaped a ios bytes (b ∷ bs) = ((block_size (request_of ios b.op) ≡ bytes) × (length (frame_cells ios b) ≡ host_size (route_of a ios b))) × Shaped a ios bytes bs

run-shaped : (a : Adapter) (ios : List Io) (device bytes : ℕ) (s t u : ℤ) (at : ℕ) (bs : List Block) → Run a ios device bytes s t u at bs → Shaped a ios bytes bs
run-shaped a ios device bytes s t u at [] r = tt
run-shaped a ios device bytes s t u at (b ∷ bs) r = ((r.0.long, r.0.host), run-shaped a ios device bytes s t u (suc at) bs r.1)

bio-shaped : (a : Adapter) (pool : List (List ℕ)) (ios : List Io) (bytes op k dev lba : ℕ) (dir : Dir) (n : ℕ) → block_size (request_of ios op) ≡ bytes → Walkable pool (request_of ios op) → HasHost a.dix (request_of ios op).pi → k + n ≤ (request_of ios op).count → Shaped a ios bytes (blocks_from op k dev lba dir n)
bio-shaped a pool ios bytes op k dev lba dir zero z w h l = tt
bio-shaped a pool ios bytes op k dev lba dir (suc n) z w h l = ((z, cells-long a.dix pool (request_of ios op) k w h (omega arith)), bio-shaped a pool ios bytes op (suc k) dev (suc lba) dir n z w h (omega arith))

shaped-append : (a : Adapter) (ios : List Io) (bytes : ℕ) (xs ys : List Block) → Shaped a ios bytes xs → Shaped a ios bytes ys → Shaped a ios bytes (xs ++ ys)
shaped-append a ios bytes [] ys x y = y
shaped-append a ios bytes (b ∷ xs) ys x y = (x.0, shaped-append a ios bytes xs ys x.1 y)

bios-shaped : (a : Adapter) (pool : List (List ℕ)) (ios : List Io) (bytes dev : ℕ) (dir : Dir) (req : List Bio) → All (IsBio a pool bytes ios dev dir) req → Shaped a ios bytes (blocks_in req)
bios-shaped a pool ios bytes dev dir [] h = tt
bios-shaped a pool ios bytes dev dir (b ∷ bs) h =
    let x : IsBio a pool bytes ios dev dir b = h 0 b (omega arith) in
    shaped-append a ios bytes (blocks_of b) (blocks_in bs) (bio-shaped a pool ios bytes b.op b.k b.dev b.lba b.dir b.count x.request.size x.request.walks x.request.host x.within)
    (bios-shaped a pool ios bytes dev dir bs (λ k d l. h (suc k) d (omega (arith, l))))

shaped-wide : (a : Adapter) (ios : List Io) (cells : List ℕ) (bytes : ℕ) (bs : List Block) → Shaped a ios bytes bs → any_bad (map (sends a ios cells) bs) ≡ false → AllLong (width_for a bytes) (all_sent a ios cells bs)
shaped-wide a ios cells bytes [] r h = tt
shaped-wide a ios cells bytes (b ∷ bs) r h =
    let o = or_parts (is_bad (sends a ios cells b)) (any_bad (map (sends a ios cells) bs)) h in (
      good-long (wire_size (route_of a ios b)) (sends a ios cells b) o.0 (out_size a.tamper (route_of a ios b) (frame_in ios cells b) (gathered-long cells (frame_cells ios b) ∙ r.0.1)) ∙ ap (width_for a) r.0.0,
      shaped-wide a ios cells bytes bs r.1 o.1,
    )

pub sent-wide : (a : Adapter) (ios : List Io) (cells : List ℕ) (dev bytes : ℕ) (s t u : ℤ) (at : ℕ) (bs : List Block) → Run a ios dev bytes s t u at bs → any_bad (map (sends a ios cells) bs) ≡ false → AllLong (width_for a bytes) (all_sent a ios cells bs)
sent-wide a ios cells dev bytes s t u at bs r h = shaped-wide a ios cells bytes bs (run-shaped a ios dev bytes s t u at bs r) h

pub group-wide : (a : Adapter) (pool : List (List ℕ)) (bytes : ℕ) (ios : List Io) (req : List Bio) → IsCarriedGroup a pool bytes ios req → any_bad (map (sends a ios (flat pool)) (blocks_in req)) ≡ false → AllLong (width_for a bytes) (all_sent a ios (flat pool) (blocks_in req))
group-wide a pool bytes ios req g h = shaped-wide a ios (flat pool) bytes (blocks_in req) (bios-shaped a pool ios bytes (first_of req).dev (first_of req).dir req g.bios) h

pub cut-joined : (w : ℕ) (fs : List (List ℕ)) (rest : List ℕ) → AllLong w fs → frames_of w (length fs) (joined fs ++ rest) ≡ fs
cut-joined w [] rest h = refl
cut-joined w (f ∷ fs) rest h =
    ap (λ z. take w z ∷ frames_of w (length fs) (drop w z)) (append_assoc f (joined fs) rest)
    ∙ ap (λ z. z ∷ frames_of w (length fs) (drop w (f ++ (joined fs ++ rest)))) (take_at f (joined fs ++ rest) w h.0)
    ∙ ap (λ z. f ∷ frames_of w (length fs) z) (drop_at f (joined fs ++ rest) w h.0)
    ∙ ap (λ z. f ∷ z) (cut-joined w fs rest h.1)

pub joined-long : (w : ℕ) (fs : List (List ℕ)) → AllLong w fs → length (joined fs) ≡ length fs * w
joined-long w [] h = omega arith
joined-long w (f ∷ fs) h = let l = length-append f (joined fs) in let r = joined-long w fs h.1 in let x = h.0 in let z : suc (length fs) * w ≡ w + length fs * w = omega arith in omega arith

pub front-joined : (w d : ℕ) (fs : List (List ℕ)) (rest : List ℕ) → AllLong w fs → d ≤ length fs → take (d * w) (joined fs ++ rest) ≡ joined (take d fs)
front-joined w zero fs rest h l = let z : 0 * w ≡ 0 = omega arith in ap (λ k. take k (joined fs ++ rest)) z
front-joined w (suc d) [] rest h l = absurd (omega arith)
front-joined w (suc d) (f ∷ fs) rest h l =
    let z : suc d * w ≡ w + d * w = omega arith in
    ap (λ k. take k ((f ++ joined fs) ++ rest)) z ∙ ap (take (w + d * w)) (append_assoc f (joined fs) rest)
    ∙ take-sum w (d * w) (f ++ (joined fs ++ rest)) ∙ ap (λ y. y ++ take (d * w) (drop w (f ++ (joined fs ++ rest)))) (take_at f (joined fs ++ rest) w h.0)
    ∙ ap (λ y. f ++ take (d * w) y) (drop_at f (joined fs ++ rest) w h.0) ∙ ap (λ y. f ++ y) (front-joined w d fs rest h.1 (omega arith))

pub width-sent : (a : Adapter) (bytes : ℕ) → IsProtect a.protect → sent_size (field_for a) bytes ≡ width_for a bytes
width-sent a bytes p = by (a.dif && not (is_zero a.ty)) a.protect p
  where
    by : (b : Bool) (f : ℕ) → IsProtect f → sent_size (if b then f else 0) bytes ≡ (if b then bytes + 8 else bytes)
    by true f (inl e) = rw e refl
    by true f (inr (inl e)) = rw e refl
    by true f (inr (inr e)) = rw e refl
    by false f p = refl

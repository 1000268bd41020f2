-- Frames that land in cells.
use Rattle.std.proofs.Common.{append_assoc, ◌≡◌, ◌<◌, ◌≤◌, ℕ, zero, suc, ◌+◌, ◌-◌, ◌*◌, min, Bool, true, false, List, [], ◌∷◌, ◌++◌, get_or, length, map, take, drop, refl, ap, sym, ◌∙◌, arith, Option, Some, None, length-append}
use Rattle.std.specs.Prelude.{if◌then◌else◌, ◌&&◌, not}
use Rattle.pi_tuple.specs.Finds.{is_zero}
use Rattle.block_path.specs.Routes.{wire_size}
use Rattle.std.proofs.lemmas.List.{append-nil, drop_at, get_or_default, length-drop, length-map, length-take, map-append, take-append-drop, take-append-le}
use Rattle.std.proofs.Math.Nat.{mul-le-mul_left, mul-le-mul_right}
use Rattle.std.proofs.lemmas.List.Elements.{All-get_or}
use Rattle.page_pool.specs.Cells.{scatter}
use Rattle.pi_tuple.specs.declared.checks.Check.{Check}
use Rattle.bio_core.specs.declared.request.Io.{Io}
use Rattle.bio_core.specs.Bios.{block_size}
use Rattle.rig_api.specs.Passed.{unless, frames_of}
use Rattle.bio_core.specs.declared.bio.Bio.{Bio}
use Rattle.bio_core.specs.declared.fate.Fate.{Fate}
use Rattle.bio_core.specs.Bios.{Block, blocks_from, blocks_of}
use Rattle.dix_adapter.specs.declared.adapter.Adapter.{Adapter}
use Rattle.dix_adapter.specs.Groups.{IsBio, IsCarriedGroup, block_len, blocks_in, data_cells, first_of, frame_cells, no_bio, no_request, request_of, route_by, size, tuple_cells}
use Rattle.dix_adapter.specs.Carried.{arrives, carried, comes_by, comes_first, fates_in, frame_len, land, landed, lands_first}
use Rattle.dix_adapter.proofs.Blocks.{bios-more, blocks-more, length-blocks, length-in}

scatter-front : (at f cells : List ℕ) (n : ℕ) → length at ≤ n → scatter at f cells ≡ scatter at (take n f) cells
scatter-front [] f cells n h = refl
scatter-front (i ∷ at) f cells zero h = absurd (omega arith)
scatter-front (i ∷ at) [] cells (suc n) h = refl
scatter-front (i ∷ at) (v ∷ f) cells (suc n) h = scatter-front at f _ n (omega arith)

-- what is behind the cells' bytes doesn't land
pub land-front : (at : List ℕ) (found : Option Check) (f cells : List ℕ) (n : ℕ) → length at ≤ n → land at (unless found f) cells ≡ land at (unless found (take n f)) cells
land-front at None f cells n h = scatter-front at f cells n h
land-front at (Some c) f cells n h = refl

-- ---- block after block

drop-none : (n : ℕ) → ◌≡◌ {A = List ℕ} (drop n []) []
drop-none zero = refl
drop-none (suc n) = refl

pub drop-sum : (m n : ℕ) (xs : List ℕ) → drop (m + n) xs ≡ drop n (drop m xs)
drop-sum zero n xs = let z : 0 + n ≡ n = omega arith in ap (λ k. drop k xs) z
drop-sum (suc m) n [] = drop-none (suc m + n) ∙ sym (drop-none n)
drop-sum (suc m) n (x ∷ xs) = let z : suc m + n ≡ suc (m + n) = omega arith in ap (λ k. drop k (x ∷ xs)) z ∙ drop-sum m n xs

pub drop-frames : (w n m : ℕ) (bytes : List ℕ) → drop n (frames_of w m bytes) ≡ frames_of w (m - n) (drop (n * w) bytes)
drop-frames w zero m bytes = let z : m - 0 ≡ m = omega arith in let y : 0 * w ≡ 0 = omega arith in ap (λ k. frames_of w k bytes) (sym z) ∙ ap (λ k. frames_of w (m - 0) (drop k bytes)) (sym y)
drop-frames w (suc n) zero bytes = let z : 0 - suc n ≡ 0 = omega arith in ap (λ k. frames_of w k (drop (suc n * w) bytes)) (sym z)
drop-frames w (suc n) (suc m) bytes =
    let z : m - n ≡ suc m - suc n = omega arith in
    let y : w + n * w ≡ suc n * w = omega arith in
    drop-frames w n m (drop w bytes)
    ∙ ap (λ k. frames_of w k (drop (n * w) (drop w bytes))) z
    ∙ ap (frames_of w (suc m - suc n)) (sym (drop-sum w (n * w) bytes) ∙ ap (λ k. drop k bytes) y)

fates-none : (a : Adapter) (ios : List Io) (bs : List Block) → fates_in a ios bs [] ≡ []
fates-none a ios [] = refl
fates-none a ios (b ∷ bs) = refl

landed-none : (a : Adapter) (ios : List Io) (bs : List Block) (cells : List ℕ) → landed a ios bs [] cells ≡ cells
landed-none a ios [] cells = refl
landed-none a ios (b ∷ bs) cells = refl

pub fates-append : (a : Adapter) (ios : List Io) (bs cs : List Block) (fs : List (List ℕ)) → fates_in a ios (bs ++ cs) fs ≡ fates_in a ios bs fs ++ fates_in a ios cs (drop (length bs) fs)
fates-append a ios [] cs fs = refl
fates-append a ios (b ∷ bs) cs [] = sym (fates-none a ios cs)
fates-append a ios (b ∷ bs) cs (f ∷ fs) = ap (λ z. carried (arrives a ios b f) ∷ z) (fates-append a ios bs cs fs)

pub landed-append : (a : Adapter) (ios : List Io) (bs cs : List Block) (fs : List (List ℕ)) (cells : List ℕ) → landed a ios (bs ++ cs) fs cells ≡ landed a ios cs (drop (length bs) fs) (landed a ios bs fs cells)
landed-append a ios [] cs fs cells = refl
landed-append a ios (b ∷ bs) cs [] cells = sym (landed-none a ios cs cells)
landed-append a ios (b ∷ bs) cs (f ∷ fs) cells = landed-append a ios bs cs fs (land (frame_cells ios b) (arrives a ios b f) cells)

-- the blocks of a bio, as many as came
abbrev block_at : Bio → ℕ → Block
block_at b n = record { op = b.op; k = b.k + n; dev = b.dev; lba = b.lba + n; dir = b.dir }

pub fates-blocks : (a : Adapter) (ios : List Io) (b : Bio) (w n m : ℕ) (bytes : List ℕ) →
    fates_in a ios (blocks_from b.op b.k b.dev b.lba b.dir n) (frames_of w m bytes) ≡ map carried (comes_first a (request_of ios b.op) b w bytes (min n m))
fates-blocks a ios b w zero m bytes = let z : min 0 m ≡ 0 = omega arith in ap (λ k. map carried (comes_first a (request_of ios b.op) b w bytes k)) (sym z)
fates-blocks a ios b w (suc n) m bytes =
    let s : suc n ≡ n + 1 = omega arith in
    ap (λ k. fates_in a ios (blocks_from b.op b.k b.dev b.lba b.dir k) (frames_of w m bytes)) s
    ∙ ap (λ z. fates_in a ios z (frames_of w m bytes)) (blocks-more b.op b.k b.dev b.lba b.dir n)
    ∙ fates-append a ios (blocks_from b.op b.k b.dev b.lba b.dir n) (block_at b n ∷ []) (frames_of w m bytes)
    ∙ ap (λ z. fates_in a ios (blocks_from b.op b.k b.dev b.lba b.dir n) (frames_of w m bytes) ++ fates_in a ios (block_at b n ∷ []) z) (ap (λ k. drop k (frames_of w m bytes)) (length-blocks b.op b.k b.dev b.lba b.dir n) ∙ drop-frames w n m bytes)
    ∙ ap (λ z. z ++ fates_in a ios (block_at b n ∷ []) (frames_of w (m - n) (drop (n * w) bytes))) (fates-blocks a ios b w n m bytes)
    ∙ last (m - n) refl
  where
    last : (r : ℕ) → m - n ≡ r → map carried (comes_first a (request_of ios b.op) b w bytes (min n m)) ++ fates_in a ios (block_at b n ∷ []) (frames_of w r (drop (n * w) bytes)) ≡ map carried (comes_first a (request_of ios b.op) b w bytes (min (suc n) m))
    last zero e = let y : min n m ≡ min (suc n) m = omega arith in append-nil (map carried (comes_first a (request_of ios b.op) b w bytes (min n m))) ∙ ap (λ k. map carried (comes_first a (request_of ios b.op) b w bytes k)) y
    last (suc r) e =
        let y : min n m ≡ n = omega arith in
        let z : suc n ≡ min (suc n) m = omega arith in
        ap (λ k. map carried (comes_first a (request_of ios b.op) b w bytes k) ++ (carried (comes_by a (request_of ios b.op) b (take w (drop (n * w) bytes)) n) ∷ [])) y
        ∙ sym (map-append carried (comes_first a (request_of ios b.op) b w bytes n) (comes_by a (request_of ios b.op) b (take w (drop (n * w) bytes)) n ∷ []))
        ∙ ap (λ k. map carried (comes_first a (request_of ios b.op) b w bytes k)) z

pub landed-blocks : (a : Adapter) (ios : List Io) (b : Bio) (w n m : ℕ) (bytes cells : List ℕ) →
    landed a ios (blocks_from b.op b.k b.dev b.lba b.dir n) (frames_of w m bytes) cells ≡ lands_first a (request_of ios b.op) b w bytes cells (min n m)
landed-blocks a ios b w zero m bytes cells = let z : min 0 m ≡ 0 = omega arith in ap (λ k. lands_first a (request_of ios b.op) b w bytes cells k) (sym z)
landed-blocks a ios b w (suc n) m bytes cells =
    let s : suc n ≡ n + 1 = omega arith in
    ap (λ k. landed a ios (blocks_from b.op b.k b.dev b.lba b.dir k) (frames_of w m bytes) cells) s
    ∙ ap (λ z. landed a ios z (frames_of w m bytes) cells) (blocks-more b.op b.k b.dev b.lba b.dir n)
    ∙ landed-append a ios (blocks_from b.op b.k b.dev b.lba b.dir n) (block_at b n ∷ []) (frames_of w m bytes) cells
    ∙ ap (λ z. landed a ios (block_at b n ∷ []) z (landed a ios (blocks_from b.op b.k b.dev b.lba b.dir n) (frames_of w m bytes) cells)) (ap (λ k. drop k (frames_of w m bytes)) (length-blocks b.op b.k b.dev b.lba b.dir n) ∙ drop-frames w n m bytes)
    ∙ ap (λ z. landed a ios (block_at b n ∷ []) (frames_of w (m - n) (drop (n * w) bytes)) z) (landed-blocks a ios b w n m bytes cells)
    ∙ last (m - n) refl
  where
    last : (r : ℕ) → m - n ≡ r → landed a ios (block_at b n ∷ []) (frames_of w r (drop (n * w) bytes)) (lands_first a (request_of ios b.op) b w bytes cells (min n m)) ≡ lands_first a (request_of ios b.op) b w bytes cells (min (suc n) m)
    last zero e = let y : min n m ≡ min (suc n) m = omega arith in ap (λ k. lands_first a (request_of ios b.op) b w bytes cells k) y
    last (suc r) e =
        let y : min n m ≡ n = omega arith in
        let z : suc n ≡ min (suc n) m = omega arith in
        ap (λ k. land (frame_cells ios (block_at b n)) (arrives a ios (block_at b n) (take w (drop (n * w) bytes))) (lands_first a (request_of ios b.op) b w bytes cells k)) y
        ∙ ap (λ k. lands_first a (request_of ios b.op) b w bytes cells k) z

-- ---- bio after bio

fates-step' : (a : Adapter) (ios : List Io) (bs : List Block) (b : Bio) (w done : ℕ) (came : List ℕ) →
    fates_in a ios (bs ++ blocks_of b) (frames_of w done came) ≡ fates_in a ios bs (frames_of w done came) ++ map carried (comes_first a (request_of ios b.op) b w (drop (length bs * w) came) (min b.count (done - length bs)))
fates-step' a ios bs b w done came =
    fates-append a ios bs (blocks_of b) (frames_of w done came)
    ∙ ap (λ z. fates_in a ios bs (frames_of w done came) ++ fates_in a ios (blocks_of b) z) (drop-frames w (length bs) done came)
    ∙ ap (λ z. fates_in a ios bs (frames_of w done came) ++ z) (fates-blocks a ios b w b.count (done - length bs) (drop (length bs * w) came))

landed-step' : (a : Adapter) (ios : List Io) (bs : List Block) (b : Bio) (w done : ℕ) (came cells : List ℕ) →
    landed a ios (bs ++ blocks_of b) (frames_of w done came) cells ≡ lands_first a (request_of ios b.op) b w (drop (length bs * w) came) (landed a ios bs (frames_of w done came) cells) (min b.count (done - length bs))
landed-step' a ios bs b w done came cells =
    landed-append a ios bs (blocks_of b) (frames_of w done came) cells
    ∙ ap (λ z. landed a ios (blocks_of b) z (landed a ios bs (frames_of w done came) cells)) (drop-frames w (length bs) done came)
    ∙ landed-blocks a ios b w b.count (done - length bs) (drop (length bs * w) came) (landed a ios bs (frames_of w done came) cells)

-- ---- in the buffer

drop-front : (w : ℕ) (F Y : List ℕ) → w ≤ length F → drop w (F ++ Y) ≡ drop w F ++ Y
drop-front zero F Y h = refl
drop-front (suc w) [] Y h = absurd (omega arith)
drop-front (suc w) (f ∷ F) Y h = drop-front w F Y (omega arith)

-- what is behind the frame in the middle stays
pub behind-frame : (at w : ℕ) (X F F' Y : List ℕ) → length X ≡ at → w ≤ length F → length F' ≡ length F → drop w F' ≡ drop w F → drop (at + w) (X ++ (F' ++ Y)) ≡ drop (at + w) (X ++ (F ++ Y))
behind-frame at w X F F' Y l h g e =
    drop-sum at w (X ++ (F' ++ Y)) ∙ ap (drop w) (drop_at X (F' ++ Y) at l) ∙ drop-front w F' Y (omega arith) ∙ ap (λ z. z ++ Y) e
    ∙ sym (drop-sum at w (X ++ (F ++ Y)) ∙ ap (drop w) (drop_at X (F ++ Y) at l) ∙ drop-front w F Y h)

-- the place of block i's frame
pub frame-there : (at i w : ℕ) (frames first : List ℕ) → at ≡ i * w → drop at frames ≡ drop at first → take w (drop at frames) ≡ take w (drop (i * w) first)
frame-there at i w frames first e d = ap (take w) (d ∙ ap (λ k. drop k first) e)

pub still-ahead : (at w : ℕ) (new frames first : List ℕ) → drop (at + w) new ≡ drop (at + w) frames → drop at frames ≡ drop at first → drop (at + w) new ≡ drop (at + w) first
still-ahead at w new frames first b d = b ∙ drop-sum at w frames ∙ ap (drop w) d ∙ sym (drop-sum at w first)

pub came-more : (a : Adapter) (io : Io) (b : Bio) (w i : ℕ) (first : List ℕ) (old now new : List Fate) (f : Fate) (frame : List ℕ) → now ≡ old ++ map carried (comes_first a io b w first i) → new ≡ now ++ (f ∷ []) →
    f ≡ carried (comes_by a io b frame i) → frame ≡ take w (drop (i * w) first) → new ≡ old ++ map carried (comes_first a io b w first (i + 1))
came-more a io b w i first old now new f frame e g h t =
    let s : i + 1 ≡ suc i = omega arith in
    rw s (g ∙ ap (λ z. z ++ (f ∷ [])) e ∙ ap (λ z. (old ++ map carried (comes_first a io b w first i)) ++ (z ∷ [])) (h ∙ ap (λ z. carried (comes_by a io b z i)) t)
    ∙ append_assoc old (map carried (comes_first a io b w first i)) (carried (comes_by a io b (take w (drop (i * w) first)) i) ∷ [])
    ∙ ap (λ z. old ++ z) (sym (map-append carried (comes_first a io b w first i) (comes_by a io b (take w (drop (i * w) first)) i ∷ []))))

pub landed-more : (a : Adapter) (io : Io) (b : Bio) (w i : ℕ) (first old now new frame : List ℕ) → now ≡ lands_first a io b w first old i → new ≡ land (data_cells io (b.k + i) ++ tuple_cells io.pi (b.k + i)) (comes_by a io b frame i) now →
    frame ≡ take w (drop (i * w) first) → new ≡ lands_first a io b w first old (i + 1)
landed-more a io b w i first old now new frame e g t =
    let s : i + 1 ≡ suc i = omega arith in
    rw s (g ∙ ap (λ z. land (data_cells io (b.k + i) ++ tuple_cells io.pi (b.k + i)) (comes_by a io b z i) now) t ∙ ap (λ z. land (data_cells io (b.k + i) ++ tuple_cells io.pi (b.k + i)) (comes_by a io b (take w (drop (i * w) first)) i) z) e)

-- ---- a bio more of a group

pub came-there : (a : Adapter) (io : Io) (b : Bio) (w n done before left at : ℕ) (frames first : List ℕ) → left ≡ done - before → at ≡ (done - left) * w → drop at frames ≡ drop at first →
    comes_first a io b w (drop at frames) (min n left) ≡ comes_first a io b w (drop (before * w) first) (min n (done - before))
came-there a io b w n done before zero at frames first e p d =
    let x : min n 0 ≡ 0 = omega arith in
    let y : min n (done - before) ≡ 0 = omega arith in
    ap (comes_first a io b w (drop at frames)) x ∙ sym (ap (comes_first a io b w (drop (before * w) first)) y)
came-there a io b w n done before (suc left) at frames first e p d =
    let z : done - suc left ≡ before = omega arith in
    ap (λ x. comes_first a io b w x (min n (suc left))) (d ∙ ap (λ k. drop k first) (p ∙ ap (λ k. k * w) z)) ∙ ap (λ k. comes_first a io b w (drop (before * w) first) (min n k)) e

pub lands-there : (a : Adapter) (io : Io) (b : Bio) (w n done before left at : ℕ) (frames first cells : List ℕ) → left ≡ done - before → at ≡ (done - left) * w → drop at frames ≡ drop at first →
    lands_first a io b w (drop at frames) cells (min n left) ≡ lands_first a io b w (drop (before * w) first) cells (min n (done - before))
lands-there a io b w n done before zero at frames first cells e p d =
    let x : min n 0 ≡ 0 = omega arith in
    let y : min n (done - before) ≡ 0 = omega arith in
    ap (lands_first a io b w (drop at frames) cells) x ∙ sym (ap (lands_first a io b w (drop (before * w) first) cells) y)
lands-there a io b w n done before (suc left) at frames first cells e p d =
    let z : done - suc left ≡ before = omega arith in
    ap (λ x. lands_first a io b w x cells (min n (suc left))) (d ∙ ap (λ k. drop k first) (p ∙ ap (λ k. k * w) z)) ∙ ap (λ k. lands_first a io b w (drop (before * w) first) cells (min n k)) e

-- what became of the first bios of a group, and the cells that they left
pub record Landed (a : Adapter) (ios : List Io) (req : List Bio) (w done : ℕ) (came cells : List ℕ) (fates' : List Fate) (cells' : List ℕ) : Type 0 where
  pub fates_are : fates' ≡ fates_in a ios (blocks_in req) (frames_of w done came)
  pub cells_are : cells' ≡ landed a ios (blocks_in req) (frames_of w done came) cells

pub landed-step : (a : Adapter) (ios : List Io) (req : List Bio) (i w done left at : ℕ) (io : Io) (b : Bio) (came frames cells : List ℕ) (fates fates' : List Fate) (now new : List ℕ) → i < length req → b ≡ get_or req i no_bio → io ≡ request_of ios b.op →
    left ≡ done - size (take i req) → at ≡ (done - left) * w → drop at frames ≡ drop at came → Landed a ios (take i req) w done came cells fates now →
    fates' ≡ fates ++ map carried (comes_first a io b w (drop at frames) (min b.count left)) → new ≡ lands_first a io b w (drop at frames) now (min b.count left) → Landed a ios (take (i + 1) req) w done came cells fates' new
landed-step a ios req i w done left at io b came frames cells fates fates' now new h e q l p d g f n =
    let m : blocks_in (take (i + 1) req) ≡ blocks_in (take i req) ++ blocks_of b = bios-more req i no_bio h ∙ ap (λ (z : Bio). blocks_in (take i req) ++ blocks_of z) (sym e) in
    let s = length-in (take i req) in
    record {
      fates_are = f ∙ ap (λ z. fates ++ map carried z) (came-there a io b w b.count done (size (take i req)) left at frames came l p d)
          ∙ ap (λ z. z ++ map carried (comes_first a io b w (drop (size (take i req) * w) came) (min b.count (done - size (take i req))))) g.fates_are
          ∙ ap (λ z. fates_in a ios (blocks_in (take i req)) (frames_of w done came) ++ map carried (comes_first a z b w (drop (size (take i req) * w) came) (min b.count (done - size (take i req))))) q
          ∙ ap (λ k. fates_in a ios (blocks_in (take i req)) (frames_of w done came) ++ map carried (comes_first a (request_of ios b.op) b w (drop (k * w) came) (min b.count (done - k)))) (sym s)
          ∙ sym (fates-step' a ios (blocks_in (take i req)) b w done came) ∙ ap (λ z. fates_in a ios z (frames_of w done came)) (sym m);
      cells_are = n ∙ lands-there a io b w b.count done (size (take i req)) left at frames came now l p d
          ∙ ap (λ z. lands_first a io b w (drop (size (take i req) * w) came) z (min b.count (done - size (take i req)))) g.cells_are
          ∙ ap (λ z. lands_first a z b w (drop (size (take i req) * w) came) (landed a ios (blocks_in (take i req)) (frames_of w done came) cells) (min b.count (done - size (take i req)))) q
          ∙ ap (λ k. lands_first a (request_of ios b.op) b w (drop (k * w) came) (landed a ios (blocks_in (take i req)) (frames_of w done came) cells) (min b.count (done - k))) (sym s)
          ∙ sym (landed-step' a ios (blocks_in (take i req)) b w done came cells) ∙ ap (λ z. landed a ios z (frames_of w done came) cells) (sym m);
    }

pub came-long : (a : Adapter) (io : Io) (b : Bio) (w : ℕ) (first : List ℕ) (n : ℕ) → length (map carried (comes_first a io b w first n)) ≡ n
came-long a io b w first n = length-map (comes_first a io b w first n) carried ∙ long n
  where
    long : (n : ℕ) → length (comes_first a io b w first n) ≡ n
    long zero = refl
    long (suc n) = length-append (comes_first a io b w first n) (comes_by a io b (take w (drop (n * w) first)) n ∷ []) ∙ (let r = long n in omega arith)

-- the frames of a group have one length
pub one-width : (a : Adapter) (b : Bio) (io : Io) (bytes : ℕ) → block_size io ≡ bytes → wire_size (route_by a io b 0) ≡ (if a.dif && not (is_zero a.ty) then bytes + 8 else bytes)
one-width a b io bytes e = ap (λ k. if a.dif && not (is_zero a.ty) then k + 8 else k) e

pub room-group : (done left n w most all long : ℕ) → n ≤ left → left ≤ done → done ≤ all → w ≤ most → all * most + 8 ≤ long → (done - left) * w + n * w + 8 ≤ long
room-group done left n w most all long h l m k r =
    let a : (done - left + n) * w ≤ all * w = mul-le-mul_right w (omega arith) in
    let b : all * w ≤ all * most = mul-le-mul_left all k in
    omega arith

pub group-width : (a : Adapter) (pool : List (List ℕ)) (bytes : ℕ) (ios : List Io) (req : List Bio) → IsCarriedGroup a pool bytes ios req → frame_len a ios req ≡ (if a.dif && not (is_zero a.ty) then bytes + 8 else bytes)
group-width a pool bytes ios req g =
    let k = All-get_or (IsBio a pool bytes ios (first_of req).dev (first_of req).dir) req 0 no_bio (let x = g.some in omega arith) g.bios in
    ap (λ n. if a.dif && not (is_zero a.ty) then n + 8 else n) k.request.size

-- a bio of a group, its request, and the bytes of its frames
pub bio-at : (a : Adapter) (pool : List (List ℕ)) (bytes : ℕ) (ios : List Io) (req : List Bio) (i : ℕ) → IsCarriedGroup a pool bytes ios req → i < length req → IsBio a pool bytes ios (first_of req).dev (first_of req).dir (get_or req i no_bio)
bio-at a pool bytes ios req i g h = All-get_or (IsBio a pool bytes ios (first_of req).dev (first_of req).dir) req i no_bio h g.bios

pub request-at : (a : Adapter) (pool : List (List ℕ)) (bytes : ℕ) (ios : List Io) (req : List Bio) (i : ℕ) (io : Io) → IsCarriedGroup a pool bytes ios req → i < length req → io ≡ get_or ios ((get_or req i no_bio).op - 1) io → io ≡ request_of ios (get_or req i no_bio).op
request-at a pool bytes ios req i io g h e =
    let k = bio-at a pool bytes ios req i g h in
    e ∙ get_or_default ios ((get_or req i no_bio).op - 1) io no_request (let x = k.op in let y = k.there in omega arith)

pub size-at : (a : Adapter) (pool : List (List ℕ)) (bytes : ℕ) (ios : List Io) (req : List Bio) (i : ℕ) (io : Io) → IsCarriedGroup a pool bytes ios req → i < length req → io ≡ get_or ios ((get_or req i no_bio).op - 1) io → block_size io ≡ bytes
size-at a pool bytes ios req i io g h e = ap block_size (request-at a pool bytes ios req i io g h e) ∙ (bio-at a pool bytes ios req i g h).request.size

pub width-at : (a : Adapter) (pool : List (List ℕ)) (bytes : ℕ) (ios : List Io) (req : List Bio) (i : ℕ) (io : Io) → IsCarriedGroup a pool bytes ios req → i < length req → io ≡ get_or ios ((get_or req i no_bio).op - 1) io →
    wire_size (route_by a io (get_or req i no_bio) 0) ≡ frame_len a ios req
width-at a pool bytes ios req i io g h e = one-width a (get_or req i no_bio) io bytes (size-at a pool bytes ios req i io g h e) ∙ sym (group-width a pool bytes ios req g)

pub place-more : (done left n w at end : ℕ) → n ≤ left → left ≤ done → at ≡ (done - left) * w → end ≡ at + n * w → end ≡ (done - (left - n)) * w
place-more done left n w at end h l p e =
    let z : (done - left) + n ≡ done - (left - n) = omega arith in
    let y : (done - left) * w + n * w ≡ ((done - left) + n) * w = omega arith in
    e ∙ ap (λ k. k + n * w) p ∙ y ∙ ap (λ k. k * w) z

-- what is ahead of the frames of a bio, in the buffer whose back was lent, is as it was at first
pub ahead-behind : (at n : ℕ) (X back frames first : List ℕ) → length X ≡ at → drop n back ≡ drop n (drop at frames) → drop at frames ≡ drop at first → drop (at + n) (X ++ back) ≡ drop (at + n) first
ahead-behind at n X back frames first l b d = drop-sum at n (X ++ back) ∙ ap (drop n) (drop_at X back at l) ∙ b ∙ ap (drop n) d ∙ sym (drop-sum at n first)

-- the frame in the middle
pub frame-front : (at w : ℕ) (X F Y : List ℕ) → length X ≡ at → w ≤ length F → take w (drop at (X ++ (F ++ Y))) ≡ take w F
frame-front at w X F Y l h = ap (take w) (drop_at X (F ++ Y) at l) ∙ take-append-le w F Y h

-- only the frames themselves count
pub frames-front : (w n : ℕ) (X Y : List ℕ) → n * w ≤ length X → frames_of w n (X ++ Y) ≡ frames_of w n X
frames-front w zero X Y h = refl
frames-front w (suc n) X Y h =
    let l : w ≤ length X = omega arith in
    let d = length-drop w X in
    let r = frames-front w n (drop w X) Y (omega arith) in
    ap (λ z. z ∷ frames_of w n (drop w (X ++ Y))) (take-append-le w X Y l) ∙ ap (λ z. take w X ∷ frames_of w n z) (drop-front w X Y l) ∙ ap (λ z. take w X ∷ z) r

pub frames-taken : (w n len : ℕ) (X : List ℕ) → n * w ≤ len → len ≤ length X → frames_of w n X ≡ frames_of w n (take len X)
frames-taken w n len X h l = ap (frames_of w n) (sym (take-append-drop len X)) ∙ frames-front w n (take len X) (drop len X) (let e = length-take len X in omega arith)

pub group-bytes : (a : Adapter) (pool : List (List ℕ)) (bytes : ℕ) (ios : List Io) (req : List Bio) → IsCarriedGroup a pool bytes ios req → block_len ios req ≡ bytes
group-bytes a pool bytes ios req g =
    let k = All-get_or (IsBio a pool bytes ios (first_of req).dev (first_of req).dir) req 0 no_bio (let x = g.some in omega arith) g.bios in
    k.request.size

pub group-most : (a : Adapter) (pool : List (List ℕ)) (bytes : ℕ) (ios : List Io) (req : List Bio) → IsCarriedGroup a pool bytes ios req → frame_len a ios req ≤ block_len ios req + 8
group-most a pool bytes ios req g = of (a.dif && not (is_zero a.ty)) (group-width a pool bytes ios req g)
  where
    of : (c : Bool) → frame_len a ios req ≡ (if c then bytes + 8 else bytes) → frame_len a ios req ≤ block_len ios req + 8
    of true e = let b = group-bytes a pool bytes ios req g in omega arith
    of false e = let b = group-bytes a pool bytes ios req g in omega arith

pub taken-long : (n : ℕ) (X : List ℕ) → n ≤ length X → length (take n X) ≡ n
taken-long n X h = let e = length-take n X in omega arith

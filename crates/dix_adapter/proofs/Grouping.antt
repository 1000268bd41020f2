-- Bio after bio.
use Rattle.std.proofs.Common.{◌≡◌, ◌<◌, ◌≤◌, ℕ, zero, suc, ◌+◌, ◌*◌, false, List, [], ◌∷◌, ◌++◌, length, map, take, get_or, refl, ap, sym, ◌∙◌, arith, length-append}
use Rattle.std.specs.Prelude.{Result}
use Rattle.std.proofs.lemmas.List.{map-append}
use Rattle.std.proofs.Math.Nat.{mul-le-mul_left, mul-le-mul_right}
use Rattle.std.proofs.lemmas.Bool.{or_parts}
use Rattle.pi_tuple.specs.declared.checks.Check.{Check}
use Rattle.rig_api.specs.Passed.{joined}
use Rattle.rig_api.proofs.Passed.{joined_append}
use Rattle.bio_core.specs.declared.bio.Bio.{Bio}
use Rattle.bio_core.specs.declared.fate.Fate.{Fate}
use Rattle.bio_core.specs.declared.request.Io.{Io}
use Rattle.bio_core.specs.Bios.{blocks_from, blocks_of}
use Rattle.block_path.specs.Routes.{wire_size}
use Rattle.dix_adapter.specs.declared.adapter.Adapter.{Adapter}
use Rattle.dix_adapter.specs.Groups.{blocks_in, no_bio, request_of, route_by}
use Rattle.dix_adapter.specs.Carried.{Gathers, any_bad, frame_sent, sends, sends_by, sends_first, unsent}
use Rattle.dix_adapter.proofs.Blocks.{bios-more, blocks-more}
use Rattle.dix_adapter.proofs.Gathering.{any-append}

-- the blocks of a bio, as blocks of its op's request
pub sends-blocks : (a : Adapter) (ios : List Io) (b : Bio) (cells : List ℕ) (n : ℕ) →
    sends_first a (request_of ios b.op) b cells n ≡ map (sends a ios cells) (blocks_from b.op b.k b.dev b.lba b.dir n)
sends-blocks a ios b cells zero = refl
sends-blocks a ios b cells (suc n) =
    let s : suc n ≡ n + 1 = omega arith in
    let r = sends-blocks a ios b cells n in
    ap (λ z. z ++ (sends_by a (request_of ios b.op) b cells n ∷ [])) r
    ∙ sym (map-append (sends a ios cells) (blocks_from b.op b.k b.dev b.lba b.dir n) (record { op = b.op; k = b.k + n; dev = b.dev; lba = b.lba + n; dir = b.dir } ∷ []))
    ∙ ap (map (sends a ios cells)) (sym (blocks-more b.op b.k b.dev b.lba b.dir n))
    ∙ ap (λ m. map (sends a ios cells) (blocks_from b.op b.k b.dev b.lba b.dir m)) (sym s)

abbrev pub results : Adapter → List Io → List ℕ → List Bio → List (Result (List ℕ) Check)
results a ios cells req = map (sends a ios cells) (blocks_in req)

-- the frames of the bios so far stand at the front
pub record Gathered (a : Adapter) (ios : List Io) (cells : List ℕ) (req : List Bio) (at : ℕ) (frames : List ℕ) (fates : List Fate) : Type 0 where
  pub fates_are : fates ≡ map unsent (results a ios cells req)
  pub frames_are : any_bad (results a ios cells req) ≡ false → take at frames ≡ joined (map frame_sent (results a ios cells req))

pub results-more : (a : Adapter) (ios : List Io) (cells : List ℕ) (req : List Bio) (i : ℕ) → i < length req → results a ios cells (take (i + 1) req) ≡ results a ios cells (take i req) ++ map (sends a ios cells) (blocks_of (get_or req i no_bio))
results-more a ios cells req i h = ap (map (sends a ios cells)) (bios-more req i no_bio h) ∙ map-append (sends a ios cells) (blocks_in (take i req)) (blocks_of (get_or req i no_bio))

pub gathered-more : (a : Adapter) (ios : List Io) (cells : List ℕ) (req : List Bio) (i at end : ℕ) (io : Io) (b : Bio) (now new : List ℕ) (fates fates' : List Fate) → i < length req → b ≡ get_or req i no_bio → io ≡ request_of ios b.op →
    Gathered a ios cells (take i req) at now fates → Gathers a io b cells b.count at now new → end ≡ at + b.count * wire_size (route_by a io b 0) →
    fates' ≡ fates ++ map unsent (sends_first a io b cells b.count) → Gathered a ios cells (take (i + 1) req) end new fates'
gathered-more a ios cells req i at end io b now new fates fates' h e q g t n f =
    let r : sends_first a io b cells b.count ≡ map (sends a ios cells) (blocks_of (get_or req i no_bio)) = ap (λ z. sends_first a z b cells b.count) q ∙ sends-blocks a ios b cells b.count ∙ ap (λ (z : Bio). map (sends a ios cells) (blocks_of z)) e in
    let m : results a ios cells (take (i + 1) req) ≡ results a ios cells (take i req) ++ sends_first a io b cells b.count = results-more a ios cells req i h ∙ ap (λ z. results a ios cells (take i req) ++ z) (sym r) in
    record {
      fates_are = f ∙ ap (λ z. z ++ map unsent (sends_first a io b cells b.count)) g.fates_are ∙ sym (map-append unsent (results a ios cells (take i req)) (sends_first a io b cells b.count)) ∙ ap (map unsent) (sym m);
      frames_are = λ x.
          (let y = or_parts (any_bad (results a ios cells (take i req))) (any_bad (sends_first a io b cells b.count)) (sym (any-append (results a ios cells (take i req)) (sends_first a io b cells b.count)) ∙ ap any_bad (sym m) ∙ x) in
          ap (λ k. take k new) n ∙ t.frames y.1 ∙ ap (λ z. z ++ joined (map frame_sent (sends_first a io b cells b.count))) (g.frames_are y.0)
          ∙ sym (joined_append (map frame_sent (results a ios cells (take i req))) (map frame_sent (sends_first a io b cells b.count)))
          ∙ ap joined (sym (map-append frame_sent (results a ios cells (take i req)) (sends_first a io b cells b.count)))
          ∙ ap (λ z. joined (map frame_sent z)) (sym m));
    }

pub first-long : (a : Adapter) (io : Io) (b : Bio) (cells : List ℕ) (n : ℕ) → length (sends_first a io b cells n) ≡ n
first-long a io b cells zero = refl
first-long a io b cells (suc n) = length-append (sends_first a io b cells n) (sends_by a io b cells n ∷ []) ∙ (let r = first-long a io b cells n in omega arith)

-- ---- room

pub times-most : (n w most : ℕ) → w ≤ most → n * w ≤ n * most
times-most n w most h = mul-le-mul_left n h

pub room-left : (n w before all : ℕ) → before + n ≤ all → before * w + n * w + 8 ≤ all * w + 8
room-left n w before all l =
    let b : (before + n) * w ≤ all * w = mul-le-mul_right w l in
    omega arith

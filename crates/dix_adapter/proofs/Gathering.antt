-- Frames gathered one after another.
use Rattle.std.proofs.Common.{◌≡◌, ◌<◌, ◌≤◌, ℕ, zero, suc, ◌+◌, ◌*◌, Bool, true, false, List, [], ◌∷◌, ◌++◌, map, take, drop, refl, ap, sym, ◌∙◌, arith, Option, Some, None, append_assoc}
use Rattle.std.specs.Prelude.{◌||◌, if◌then◌else◌, Result, Ok, Err}
use Rattle.std.proofs.Math.Nat.{mul-le-mul_left, mul-le-mul_right}
use Rattle.bio_core.specs.Bios.{block_size}
use Rattle.std.proofs.lemmas.List.{append-nil, map-append}
use Rattle.std.proofs.lemmas.Bool.{or_parts}
use Rattle.page_pool.proofs.Ranges.{take-sum}
use Rattle.pi_tuple.specs.declared.checks.Check.{Check}
use Rattle.rig_api.specs.Passed.{joined, unless}
use Rattle.rig_api.proofs.Passed.{joined_append}
use Rattle.bio_core.specs.declared.bio.Bio.{Bio}
use Rattle.bio_core.specs.declared.fate.Fate.{Fate}
use Rattle.bio_core.specs.declared.request.Io.{Io}
use Rattle.block_path.specs.Routes.{passes_tuples, wire_size}
use Rattle.block_path.specs.declared.route.Route.{Route}
use Rattle.dix_adapter.specs.declared.adapter.Adapter.{Adapter}
use Rattle.dix_adapter.specs.Groups.{route_by}
use Rattle.dix_adapter.specs.Carried.{Gathers, any_bad, frame_sent, is_bad, sends_by, sends_first, unsent}

pub any-append : (xs ys : List (Result (List ℕ) Check)) → any_bad (xs ++ ys) ≡ (any_bad xs || any_bad ys)
any-append [] ys = refl
any-append (Ok f ∷ xs) ys = any-append xs ys
any-append (Err c ∷ xs) ys = refl

-- a good block's frame is what was gathered
good-frame : (found : Option Check) (frame : List ℕ) (r : Result (List ℕ) Check) → unless found frame ≡ r → is_bad r ≡ false → frame ≡ frame_sent r
good-frame None frame r e b = ap frame_sent e
good-frame (Some c) frame r e b = absurd (let x : true ≡ false = ap is_bad e ∙ b in cc)

pub gathers-more : (a : Adapter) (io : Io) (b : Bio) (cells : List ℕ) (i from at : ℕ) (old now new : List ℕ) (found : Option Check) →
    Gathers a io b cells i from old now → at ≡ from + i * wire_size (route_by a io b 0) →
    take at new ≡ take at now → unless found (take (wire_size (route_by a io b i)) (drop at new)) ≡ sends_by a io b cells i →
    Gathers a io b cells (i + 1) from old new
gathers-more a io b cells i from at old now new found g e f j =
    let s : i + 1 ≡ suc i = omega arith in
    rw s (record { front = front; frames = frames })
  where
    front : take from new ≡ take from old
    front =
        let t : at ≡ from + i * wire_size (route_by a io b 0) = e in
        sym (take-less from at new (omega arith)) ∙ ap (take from) f ∙ take-less from at now (omega arith) ∙ g.front
      where
        take-less : (m n : ℕ) (xs : List ℕ) → m ≤ n → take m (take n xs) ≡ take m xs
        take-less zero n xs h = refl
        take-less (suc m) zero xs h = absurd (omega arith)
        take-less (suc m) (suc n) [] h = refl
        take-less (suc m) (suc n) (x ∷ xs) h = ap (λ z. x ∷ z) (take-less m n xs (omega arith))

    frames : any_bad (sends_first a io b cells (suc i)) ≡ false → take (from + suc i * wire_size (route_by a io b 0)) new ≡ take from old ++ joined (map frame_sent (sends_first a io b cells (suc i)))
    frames n =
        let q = or_parts (any_bad (sends_first a io b cells i)) (any_bad (sends_by a io b cells i ∷ [])) (sym (any-append (sends_first a io b cells i) (sends_by a io b cells i ∷ [])) ∙ n) in
        let k = or_parts (is_bad (sends_by a io b cells i)) false q.1 in
        let y : from + suc i * wire_size (route_by a io b 0) ≡ at + wire_size (route_by a io b i) = omega arith in
        ap (λ m. take m new) y ∙ take-sum at (wire_size (route_by a io b i)) new
        ∙ ap (λ z. z ++ take (wire_size (route_by a io b i)) (drop at new)) (f ∙ ap (λ m. take m now) e ∙ g.frames q.0)
        ∙ ap (λ z. (take from old ++ joined (map frame_sent (sends_first a io b cells i))) ++ z) (good-frame found (take (wire_size (route_by a io b i)) (drop at new)) (sends_by a io b cells i) j k.0)
        ∙ append_assoc (take from old) (joined (map frame_sent (sends_first a io b cells i))) (frame_sent (sends_by a io b cells i))
        ∙ ap (λ z. take from old ++ z) (ap (λ z. joined (map frame_sent (sends_first a io b cells i)) ++ z) (sym (append-nil (frame_sent (sends_by a io b cells i))))
        ∙ sym (joined_append (map frame_sent (sends_first a io b cells i)) (frame_sent (sends_by a io b cells i) ∷ []))
        ∙ ap joined (sym (map-append frame_sent (sends_first a io b cells i) (sends_by a io b cells i ∷ []))))

pub fates-more : (a : Adapter) (io : Io) (b : Bio) (cells : List ℕ) (i : ℕ) (old now new : List Fate) (f : Fate) → now ≡ old ++ map unsent (sends_first a io b cells i) → new ≡ now ++ (f ∷ []) → f ≡ unsent (sends_by a io b cells i) →
    new ≡ old ++ map unsent (sends_first a io b cells (i + 1))
fates-more a io b cells i old now new f e g h =
    let s : i + 1 ≡ suc i = omega arith in
    rw s (g ∙ ap (λ z. z ++ (f ∷ [])) e ∙ ap (λ z. (old ++ map unsent (sends_first a io b cells i)) ++ (z ∷ [])) h
    ∙ append_assoc old (map unsent (sends_first a io b cells i)) (unsent (sends_by a io b cells i) ∷ [])
    ∙ ap (λ z. old ++ z) (sym (map-append unsent (sends_first a io b cells i) (sends_by a io b cells i ∷ []))))

-- ---- room

pub route-most : (r : Route) → wire_size r ≤ r.size + 8
route-most r = of-size (passes_tuples r) r.size
  where
    of-size : (c : Bool) (n : ℕ) → (if c then n + 8 else n) ≤ n + 8
    of-size true n = omega arith
    of-size false n = omega arith

pub wire-most : (a : Adapter) (io : Io) (b : Bio) → wire_size (route_by a io b 0) ≤ block_size io + 8
wire-most a io b = route-most (route_by a io b 0)

pub room-for : (i n w s from : ℕ) → i < n → w ≤ s → from + i * w + s ≤ from + n * s
room-for i n w s from h l =
    let a = mul-le-mul_left i l in
    let b : suc i * s ≤ n * s = mul-le-mul_right s h in
    omega arith

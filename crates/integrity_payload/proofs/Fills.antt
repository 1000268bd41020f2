-- One more tuple made and written: what a payload holds after so many blocks.
use Rattle.std.proofs.Common.{◌≡◌, ℕ, suc, ◌+◌, ◌-◌, ◌*◌, ◌/◌, ◌≤◌, ◌<◌, List, [], ◌∷◌, ◌++◌, length, take, drop, sym, ap, ◌∙◌, subst, inl, inr, add-one, arith}
use Rattle.std.proofs.Math.Nat.{suc-mul, mul-div-le, mul-le-mul_right}
use Rattle.std.proofs.lemmas.List.{map-append, take_at}
use Rattle.std.proofs.lemmas.Bool.{cases_lt}
use Rattle.page_pool.specs.declared.segs.Seg.{Seg}
use Rattle.page_pool.specs.Cells.{joined}
use Rattle.page_pool.specs.Cuts.{past}
use Rattle.page_pool.specs.Places.{PageByte, run, places_of, places_in, range_of, total, NoneTwice, Apart}
use Rattle.page_pool.specs.Pages.{byte_at, bytes_at, bytes_in, OthersStay, Wrote}
use Rattle.page_pool.specs.Walking.{AllStandIn}
use Rattle.page_pool.proofs.Cutting.{past-past}
use Rattle.page_pool.proofs.Placing.{length-run, takes, step_over}
use Rattle.page_pool.proofs.Ranges.{apart-ranges, apart-lists, range-sum}
use Rattle.page_pool.proofs.Separate.{run-once}
use Rattle.page_pool.proofs.Spreads.{bytes_stay, range-ahead, wrote_more, wrote_none}
use Rattle.page_pool.proofs.Walks.{Passed, Walked, walked_none, walked_more}
use Rattle.pi_guard.specs.declared.GuardRun.{GuardRun}
use Rattle.pi_guard.specs.Stands.{Stands, kind_of}
use Rattle.pi_guard.specs.declared.GuardKind.{GuardKind}
use Rattle.pi_guard.specs.Guards.{guard_of}
use Rattle.pi_tuple.specs.declared.tuple.Tuple.{Tuple}
use Rattle.pi_tuple.specs.declared.checks.PiType.{PiType}
use Rattle.pi_tuple.specs.Finds.{own_tag}
use Rattle.pi_tuple.specs.Tuples.{tuple_bytes, tuple_in}
use Rattle.integrity_payload.specs.Payloads.{AreWholeTuples, tuple_places, HoldsTuple, block_of, made_tuple, made_bytes}

-- what is written from place n on leaves the tuples before it
pub still_holds : (now new : List (List ℕ)) (segs : List Seg) (k j : ℕ) (t : Tuple) → j < k → NoneTwice (places_in segs) → OthersStay now new (range_of segs (8 * k) 8) → HoldsTuple now segs j t → HoldsTuple new segs j t
still_holds now new segs k j t h once others holds =
    let stay = bytes_stay now new (range_of segs (8 * k) 8) (tuple_places segs j) others (apart-ranges segs (8 * j) 8 (8 * k) 8 once (omega arith)) in
    record { bytes = stay ∙ holds.bytes; reads = ap tuple_in stay ∙ holds.reads }

-- one more tuple is written behind the first n of a range
pub wrote_next : (old now new : List (List ℕ)) (segs : List Seg) (k n : ℕ) (b w : List ℕ) → NoneTwice (places_in segs) → Wrote old now (range_of segs (8 * k) (8 * n)) b → Wrote now new (range_of segs (8 * (k + n)) 8) w →
    Wrote old new (range_of segs (8 * k) (8 * (n + 1))) (b ++ w)
wrote_next old now new segs k n b w once h g =
    let next : 8 * k + 8 * n ≡ 8 * (k + n) = omega arith in
    let more : 8 * n + 8 ≡ 8 * (n + 1) = omega arith in
    let whole : range_of segs (8 * k) (8 * n) ++ range_of segs (8 * (k + n)) 8 ≡ range_of segs (8 * k) (8 * (n + 1)) =
    ap (λ m. range_of segs (8 * k) (8 * n) ++ range_of segs m 8) (sym next) ∙ (sym (range-sum segs (8 * k) (8 * n) 8) ∙ ap (range_of segs (8 * k)) more) in
    subst (λ l. Wrote old new l (b ++ w)) whole
    (wrote_more old now new (range_of segs (8 * k) (8 * n)) (range_of segs (8 * (k + n)) 8) b w h g (apart-ranges segs (8 * k) (8 * n) (8 * (k + n)) 8 once (omega arith)))

pub joined_next : (f : ℕ → List ℕ) (n : ℕ) → joined f n ++ f n ≡ joined f (n + 1)
joined_next f n = ap (joined f) (sym (add-one n))

-- a walk that has passed so many tuples passes one more
pub next_ahead : (segs ahead next : List Seg) (k : ℕ) → ahead ≡ past (8 * k) segs → next ≡ past 8 ahead → next ≡ past (8 * (k + 1)) segs
next_ahead segs ahead next k e f = f ∙ (ap (past 8) e ∙ (past-past 8 (8 * k) segs ∙ ap (λ n. past n segs) (let m : 8 * k + 8 ≡ 8 * (k + 1) = omega arith in m)))

-- the first k tuples are made
pub record Fills (old now : List (List ℕ)) (body segs : List Seg) (size : ℕ) (kind : GuardKind) (ty : PiType) (seed app k : ℕ) (blocks tuples : List Seg) : Type 0 where
  pub blocks_are : blocks ≡ past (k * size) body
  pub tuples_are : tuples ≡ past (8 * k) segs
  pub held : (j : ℕ) → j < k → HoldsTuple now segs j (made_tuple old body size kind ty seed app j)
  pub wrote : Wrote old now (range_of segs 0 (8 * k)) (made_bytes old body size kind ty seed app k)

-- the data stays as it was
same_block : (old now : List (List ℕ)) (body segs : List Seg) (size k : ℕ) → Apart (places_in body) (places_in segs) → OthersStay old now (range_of segs 0 (8 * k)) → block_of now body size k ≡ block_of old body size k
same_block old now body segs size k apart others =
    bytes_stay old now (range_of segs 0 (8 * k)) (range_of body (k * size) size) others (apart-lists body segs (k * size) size 0 (8 * k) apart)

each_held : (old now new : List (List ℕ)) (body segs : List Seg) (size : ℕ) (kind : GuardKind) (ty : PiType) (seed app k j : ℕ) → NoneTwice (places_in segs) → OthersStay now new (range_of segs (8 * k) 8) →
    ((j : ℕ) → j < k → HoldsTuple now segs j (made_tuple old body size kind ty seed app j)) → HoldsTuple new segs k (made_tuple old body size kind ty seed app k) → j < k + 1 →
    HoldsTuple new segs j (made_tuple old body size kind ty seed app j)
each_held old now new body segs size kind ty seed app k j once others held last h = elim (cases_lt j k) [
  | inl l ↦ still_holds now new segs k j (made_tuple old body size kind ty seed app j) l once others (held j l)
  | inr l ↦ let e : k ≡ j = omega arith in subst (λ i. HoldsTuple new segs i (made_tuple old body size kind ty seed app i)) e last
]

abbrev made_by : GuardKind → PiType → ℕ → ℕ → ℕ → List ℕ → Tuple
made_by kind ty seed app k bytes = record { guard = guard_of kind bytes; app = app; rtag = own_tag ty (seed + k) }

pub fills_none : (pool : List (List ℕ)) (body segs : List Seg) (size : ℕ) (kind : GuardKind) (ty : PiType) (seed app : ℕ) (blocks tuples : List Seg) → blocks ≡ past 0 body → tuples ≡ past 0 segs →
    Fills pool pool body segs size kind ty seed app 0 blocks tuples
fills_none pool body segs size kind ty seed app blocks tuples e f = record { blocks_are = e ∙ ap (λ n. past n body) (let m : 0 ≡ 0 * size = omega arith in m); tuples_are = f; held = λ j h. absurd (omega arith); wrote = wrote_none pool }

pub fills_more : (old now new : List (List ℕ)) (body segs : List Seg) (size : ℕ) (kind : GuardKind) (ty : PiType) (seed app k : ℕ) (blocks blocks' tuples tuples' : List Seg) (t : Tuple) →
    NoneTwice (places_in segs) → Apart (places_in body) (places_in segs) → Fills old now body segs size kind ty seed app k blocks tuples →
    t ≡ made_by kind ty seed app k (bytes_in now blocks 0 size) →
    tuple_in (tuple_bytes t) ≡ t → Wrote now new (range_of tuples 0 8) (tuple_bytes t) → blocks' ≡ past size blocks → tuples' ≡ past 8 tuples →
    Fills old new body segs size kind ty seed app (k + 1) blocks' tuples'
fills_more old now new body segs size kind ty seed app k blocks blocks' tuples tuples' t once apart h made back w b c =
    let here : range_of tuples 0 8 ≡ range_of segs (8 * k) 8 = range-ahead segs tuples (8 * k) 8 h.tuples_are in
    let wrote = subst (λ l. Wrote now new l (tuple_bytes t)) here w in
    let guard : bytes_in now blocks 0 size ≡ block_of old body size k = ap (bytes_at now) (range-ahead body blocks (k * size) size h.blocks_are) ∙ same_block old now body segs size k apart h.wrote.others in
    let t_is : t ≡ made_tuple old body size kind ty seed app k = made ∙ ap (λ (l : List ℕ). made_by kind ty seed app k l) guard in
    let last : HoldsTuple new segs k (made_tuple old body size kind ty seed app k) =
    subst (λ u. HoldsTuple new segs k u) t_is (record { bytes = wrote.written; reads = ap tuple_in wrote.written ∙ back }) in
    let m : k * size + size ≡ (k + 1) * size = sym (ap (λ i. i * size) (add-one k) ∙ suc-mul k size) in
    let first : 0 + k ≡ k = omega arith in
    let more = wrote_next old now new segs 0 k (made_bytes old body size kind ty seed app k) (tuple_bytes t) once h.wrote (subst (λ i. Wrote now new (range_of segs (8 * i) 8) (tuple_bytes t)) (sym first) wrote) in
    let bytes : made_bytes old body size kind ty seed app k ++ tuple_bytes t ≡ made_bytes old body size kind ty seed app (k + 1) =
    ap (λ u. made_bytes old body size kind ty seed app k ++ tuple_bytes u) t_is ∙ joined_next (λ i. tuple_bytes (made_tuple old body size kind ty seed app i)) k in
    record {
      blocks_are = b ∙ (ap (past size) h.blocks_are ∙ (past-past size (k * size) body ∙ ap (λ i. past i body) m));
      tuples_are = next_ahead segs tuples tuples' k h.tuples_are c;
      held = λ j l. each_held old now new body segs size kind ty seed app k j once wrote.others h.held last l;
      wrote = subst (λ l. Wrote old new (range_of segs 0 (8 * (k + 1))) l) bytes more;
    }

pub block_fits : (t n k : ℕ) → k < n → k * (t / n) + t / n ≤ t
block_fits t n k h =
    let e : k * (t / n) + t / n ≡ suc k * (t / n) = sym (suc-mul k (t / n)) in
    let l = mul-le-mul_right (t / n) (let m : suc k ≤ n = omega arith in m) in
    let m = mul-div-le t n in
    omega arith

-- a tuple names no byte twice
pub tuple-once : (segs : List Seg) (k : ℕ) → AreWholeTuples segs → 8 * k + 8 ≤ total segs → NoneTwice (range_of segs (8 * k) 8)
tuple-once [] k h l = absurd (omega arith)
tuple-once (s ∷ ss) k h l = elim (cases_lt (8 * k) s.len) [
  | inl m ↦
      let whole = h.0 in
      let fits : 8 * k + 8 ≤ s.len = omega arith in
      let here = takes s.page s.off s.len (8 * k) 8 (places_in ss) fits in
      let one : range_of (s ∷ ss) (8 * k) 8 ≡ run s.page (s.off + 8 * k) 8 = ap (take 8) here ∙ take_at (run s.page (s.off + 8 * k) 8) (drop (8 * k + 8) (places_in (s ∷ ss))) 8 (length-run s.page (s.off + 8 * k) 8) in
      subst (λ v. NoneTwice v) (sym one) (run-once s.page (s.off + 8 * k) 8)
  | inr m ↦
      let whole = h.0 in
      let n : 8 * (k - s.len / 8) ≡ 8 * k - s.len = omega arith in
      let over : range_of ss (8 * (k - s.len / 8)) 8 ≡ range_of (s ∷ ss) (8 * k) 8 = ap (λ i. take 8 (drop i (places_in ss))) n ∙ ap (take 8) (step_over s ss (8 * k) m) in
      subst (λ v. NoneTwice v) over (tuple-once ss (k - s.len / 8) h.1 (omega arith))
]

-- the guard of the places behind
pub record Hashes (pool : List (List ℕ)) (kind : GuardKind) (start ahead : List PageByte) (many left : ℕ) (hash : GuardRun) : Type 0 where
  pub behind : List PageByte
  pub walked : Walked start behind ahead many left (length pool)
  pub stands : Stands hash (bytes_at pool behind)
  pub same : kind_of hash ≡ kind

pub hashes_none : (pool : List (List ℕ)) (kind : GuardKind) (start : List PageByte) (many : ℕ) (hash : GuardRun) → AllStandIn (length pool) (take many start) → Stands hash [] → kind_of hash ≡ kind → Hashes pool kind start start many many hash
hashes_none pool kind start many hash h n e = record { behind = []; walked = walked_none start many (length pool) h; stands = n; same = e }

pub hashes_more : (pool : List (List ℕ)) (kind : GuardKind) (start ahead next : List PageByte) (many left : ℕ) (hash hash' : GuardRun) (part : List ℕ) (s : Seg) → Hashes pool kind start ahead many left hash → Passed left ahead next s →
    part ≡ bytes_at pool (places_of s) → ((b : List ℕ) → Stands hash b → Stands hash' (b ++ part)) → kind_of hash' ≡ kind_of hash → Hashes pool kind start next many (left - s.len) hash'
hashes_more pool kind start ahead next many left hash hash' part s h k e more same = record {
  behind = h.behind ++ places_of s;
  walked = walked_more start h.behind ahead next many left (length pool) s h.walked k;
  stands = subst (λ b. Stands hash' b) (ap (λ l. bytes_at pool h.behind ++ l) e ∙ sym (map-append (byte_at pool) h.behind (places_of s))) (more (bytes_at pool h.behind) h.stands);
  same = same ∙ h.same;
}

-- bytes that stay
use Rattle.std.proofs.Common.{◌≡◌, ℕ, ◌+◌, ◌-◌, ◌≤◌, List, [], ◌∷◌, ◌++◌, length, take, drop, replicate, refl, sym, ap, ◌∙◌, subst, inl, inr, arith, append_assoc}
use Rattle.std.proofs.lemmas.List.{length-append, length-take, length-drop, map-append, append-nil, nil_from_length, take-append-drop, take_all, replicate-append-replicate}
use Rattle.page_pool.specs.declared.segs.Seg.{Seg}
use Rattle.page_pool.specs.Places.{PageByte, places_of, places_in, range_of, total, IsAmong, NoneTwice, Apart}
use Rattle.page_pool.specs.Pages.{byte_at, bytes_at, LiesIn, AllLieIn, OthersStay, Wrote}
use Rattle.page_pool.specs.Walking.{AllStandIn}
use Rattle.page_pool.proofs.Placing.{length-run, length-places_in, among-front, among-back, once-front, once-back, once-apart, segments_stand, stand-take, stand-drop}
use Rattle.page_pool.specs.Cuts.{past}
use Rattle.page_pool.proofs.Cutting.{take-front, total-past, places-past}
use Rattle.page_pool.proofs.Walks.{Passed, Walked, walked_none, walked_more, walked_all, took-lies}

pub same_bytes : (old new : List (List ℕ)) (ps : List PageByte) → ((p : PageByte) → IsAmong ps p → byte_at new p ≡ byte_at old p) → bytes_at new ps ≡ bytes_at old ps
same_bytes old new [] h = refl
same_bytes old new (p ∷ ps) h =
    ap (λ b. b ∷ bytes_at new ps) (h p (inl refl)) ∙ ap (λ l. byte_at old p ∷ l) (same_bytes old new ps (λ q k. h q (inr k)))

-- bytes at places apart from those that were written
pub bytes_stay : (old new : List (List ℕ)) (ps qs : List PageByte) → OthersStay old new ps → Apart qs ps → bytes_at new qs ≡ bytes_at old qs
bytes_stay old new ps qs h a = same_bytes old new qs (λ p k. h.others p (a p k))

pub others_stay : (old mid new : List (List ℕ)) (ps qs : List PageByte) → OthersStay old mid ps → OthersStay mid new qs → OthersStay old new (ps ++ qs)
others_stay old mid new ps qs h k = record {
  pages = k.pages ∙ h.pages;
  sizes = λ n. k.sizes n ∙ h.sizes n;
  others = λ p out. k.others p (λ m. out (among-back ps qs p m)) ∙ h.others p (λ m. out (among-front ps qs p m));
}

pub wrote_more : (old mid new : List (List ℕ)) (ps qs : List PageByte) (b w : List ℕ) → Wrote old mid ps b → Wrote mid new qs w → Apart ps qs → Wrote old new (ps ++ qs) (b ++ w)
wrote_more old mid new ps qs b w h k a = record {
  written = map-append (byte_at new) ps qs
      ∙ (ap (λ l. l ++ bytes_at new qs) (bytes_stay mid new qs ps k.others a ∙ h.written) ∙ ap (λ l. b ++ l) k.written);
  others = others_stay old mid new ps qs h.others k.others;
}

pub wrote_none : (pool : List (List ℕ)) → Wrote pool pool [] []
wrote_none pool = record { written = refl; others = record { pages = refl; sizes = λ n. refl; others = λ p out. refl } }

-- the places that a walk began with are written from the front: these bytes are still to come
pub record Spreads (old now : List (List ℕ)) (start ahead : List PageByte) (many left : ℕ) (rest from : List ℕ) : Type 0 where
  pub behind : List PageByte
  pub walked : Walked start behind ahead many left (length now)
  pub bytes : List ℕ
  pub split : from ≡ bytes ++ rest
  pub long : length rest ≡ left
  pub wrote : Wrote old now behind bytes

pub spreads : (pool : List (List ℕ)) (start : List PageByte) (many : ℕ) (from : List ℕ) → length from ≡ many → AllStandIn (length pool) (take many start) → Spreads pool pool start start many many from from
spreads pool start many from l h = record { behind = []; walked = walked_none start many (length pool) h; bytes = []; split = refl; long = l; wrote = wrote_none pool }

pub spreads-lies : (old now : List (List ℕ)) (start ahead next : List PageByte) (many left : ℕ) (rest from : List ℕ) (s : Seg) → Spreads old now start ahead many left rest from → Passed left ahead next s → LiesIn now s
spreads-lies old now start ahead next many left rest from s h k = took-lies now left ahead next s k h.walked.stand

-- the next part is apart from those before it
apart-next : (start ahead next : List PageByte) (many left : ℕ) (s : Seg) (behind : List PageByte) → start ≡ behind ++ ahead → length behind + left ≡ many → Passed left ahead next s → NoneTwice (take many start) → Apart behind (places_of s)
apart-next start ahead next many left s behind e f k once =
    let long = length-run s.page s.off s.len in
    let sum = length-append behind (places_of s) in
    let most = k.most in
    let whole : start ≡ (behind ++ places_of s) ++ next = e ∙ (ap (λ l. behind ++ l) k.ahead ∙ sym (append_assoc behind (places_of s) next)) in
    let front : take many start ≡ (behind ++ places_of s) ++ take (many - length (behind ++ places_of s)) next = ap (take many) whole ∙ take-front (behind ++ places_of s) next many (omega arith) in
    once-apart behind (places_of s) (once-front (behind ++ places_of s) (take (many - length (behind ++ places_of s)) next) (subst (λ l. NoneTwice l) front once))

pub spreads_more : (old now new : List (List ℕ)) (start ahead next : List PageByte) (many left : ℕ) (rest from front back : List ℕ) (s : Seg) → NoneTwice (take many start) → Spreads old now start ahead many left rest from → Passed left ahead next s →
    rest ≡ front ++ back → length front ≡ s.len → Wrote now new (places_of s) front → Spreads old new start next many (left - s.len) back from
spreads_more old now new start ahead next many left rest from front back s once h k e l w =
    let n = length-append front back in
    let m = ap length e in
    let o = h.long in
    record {
      behind = h.behind ++ places_of s;
      walked = subst (λ p. Walked start (h.behind ++ places_of s) next many (left - s.len) p) (sym w.others.pages) (walked_more start h.behind ahead next many left (length now) s h.walked k);
      bytes = h.bytes ++ front;
      split = h.split ∙ (ap (λ v. h.bytes ++ v) e ∙ sym (append_assoc h.bytes front back));
      long = omega arith;
      wrote = wrote_more old now new h.behind (places_of s) h.bytes front h.wrote w (apart-next start ahead next many left s h.behind h.walked.whole h.walked.count k once);
    }

pub spreads_all : (old now : List (List ℕ)) (start ahead : List PageByte) (many left : ℕ) (rest from : List ℕ) → Spreads old now start ahead many left rest from → take left ahead ≡ [] → many ≤ length start →
    Wrote old now (take many start) from × (ahead ≡ drop many start) × (left ≡ 0)
spreads_all old now start ahead many left rest from h e l =
    let all = walked_all start h.behind ahead many left (length now) h.walked e l in
    let none : rest ≡ [] = nil_from_length rest (h.long ∙ all.done) in
    let whole : from ≡ h.bytes = h.split ∙ (ap (λ m. h.bytes ++ m) none ∙ append-nil h.bytes) in
    (rw (all.behind_is, whole) h.wrote, all.ahead_is, all.done)

-- ranges

pub length-range : (ss : List Seg) (at len : ℕ) → at + len ≤ total ss → length (range_of ss at len) ≡ len
length-range ss at len h = let e = length-places_in ss in simp (length-take, length-drop) (omega arith)

pub room-ahead : (ss ahead : List Seg) (at len : ℕ) → ahead ≡ past at ss → at + len ≤ total ss → len ≤ total ahead
room-ahead ss ahead at len e h = let n = total-past at ss in rw e (omega arith)

pub range-past : (ss : List Seg) (at len : ℕ) → range_of (past at ss) 0 len ≡ range_of ss at len
range-past ss at len = ap (take len) (places-past at ss)

pub range-all : (ss : List Seg) → range_of ss 0 (total ss) ≡ places_in ss
range-all ss = let n = length-places_in ss in take_all (total ss) (places_in ss) (omega arith)

-- the places of the first bytes ahead are those of a range
pub range-ahead : (ss ahead : List Seg) (at len : ℕ) → ahead ≡ past at ss → take len (places_in ahead) ≡ range_of ss at len
range-ahead ss ahead at len e = ap (λ l. take len (places_in l)) e ∙ ap (take len) (places-past at ss)

pub once-take : (n : ℕ) (ps : List PageByte) → NoneTwice ps → NoneTwice (take n ps)
once-take n ps h = once-front (take n ps) (drop n ps) (subst (λ l. NoneTwice l) (sym (take-append-drop n ps)) h)

pub once-drop : (n : ℕ) (ps : List PageByte) → NoneTwice ps → NoneTwice (drop n ps)
once-drop n ps h = once-back (take n ps) (drop n ps) (subst (λ l. NoneTwice l) (sym (take-append-drop n ps)) h)

pub once-range : (ss : List Seg) (at len : ℕ) → NoneTwice (places_in ss) → NoneTwice (range_of ss at len)
once-range ss at len h = once-take len (drop at (places_in ss)) (once-drop at (places_in ss) h)

pub range_stands : (pool : List (List ℕ)) (ss : List Seg) (at len : ℕ) → AllLieIn pool ss → AllStandIn (length pool) (range_of ss at len)
range_stands pool ss at len h = stand-take (length pool) len (drop at (places_in ss)) (stand-drop (length pool) at (places_in ss) (segments_stand pool ss h))

-- zeros

-- what a walk along a list has ahead stands in the pool
pub ahead-stands : (old now : List (List ℕ)) (ss ahead : List Seg) (at n : ℕ) → AllLieIn old ss → length now ≡ length old → ahead ≡ past at ss → AllStandIn (length now) (range_of ahead 0 n)
ahead-stands old now ss ahead at n h e f = rw (f, e) (rw (range-past ss at n) (range_stands old ss at n h))

pub ahead-once : (ss ahead : List Seg) (at n : ℕ) → NoneTwice (places_in ss) → ahead ≡ past at ss → NoneTwice (range_of ahead 0 n)
ahead-once ss ahead at n h e = rw e (rw (range-past ss at n) (once-range ss at n h))

abbrev pub zeros_of : ℕ → List ℕ
zeros_of n = replicate n 0

pub zeros_split : (left n : ℕ) → n ≤ left → zeros_of left ≡ zeros_of n ++ zeros_of (left - n)
zeros_split left n h = ap zeros_of (let e : left ≡ n + (left - n) = omega arith in e) ∙ sym (replicate-append-replicate {A = ℕ} n (left - n) 0)

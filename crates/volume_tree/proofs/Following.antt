-- Extents that follow one another: each end, and one more.
use Rattle.std.proofs.Common.{ℕ, zero, suc, ◌≡◌, ◌+◌, ◌-◌, ◌<◌, List, [], ◌∷◌, ◌++◌, length, get_or, drop, sym, ap, ◌∙◌, arith, add-one, drop-cons}
use Rattle.std.specs.declared.alloc.Global.{Global}
use Rattle.std.specs.declared.vec.Vec.{Vec}
use Rattle.linear_volume.specs.declared.Linear.{Linear}
use Rattle.volume_tree.specs.Trees.{AreTracks}
use Rattle.volume_tree.specs.Tracks.{FollowsFrom, IsExtent, end_of, track_len, tracks_of}

-- each extent is in its ranges
pub extent_at : (a : ℕ) (t : List Linear) (i : ℕ) (d : Linear) → FollowsFrom a t → i < length t → IsExtent (get_or t i d)
extent_at a [] i d f h = absurd (omega arith)
extent_at a (e ∷ t) zero d f h = f.0
extent_at a (e ∷ t) (suc i) d f h = extent_at (a + e.len) t i d f.2 (omega arith)

pub together : (a b c : ℕ) → a + b + c ≡ a + (b + c)
together a b c = omega arith

-- the last extent ends where all blocks end
pub last_end : (a : ℕ) (t : List Linear) (d : Linear) → FollowsFrom a t → 0 < length t → end_of (get_or t (length t - 1) d) ≡ a + track_len t
last_end a [] d f h = absurd (omega arith)
last_end a (e ∷ []) d f h = let s : e.start ≡ a = f.1 in omega (arith, s)
last_end a (e ∷ g ∷ t) d f h =
    let more = last_end (a + e.len) (g ∷ t) d f.2 (omega arith) in
    let n : suc (length (g ∷ t)) - 1 ≡ suc (length (g ∷ t) - 1) = omega arith in
    ap (λ k. end_of (get_or (e ∷ g ∷ t) k d)) n ∙ more ∙ together a e.len (track_len (g ∷ t))

pub next_track : (legs : List (Vec Linear Global)) (i : ℕ) (leg : Vec Linear Global) → i < length legs → leg ≡ get_or legs i leg → tracks_of (drop i legs) ≡ leg.items ∷ tracks_of (drop (i + 1) legs)
next_track legs i leg h e =
    ap tracks_of (drop-cons legs i leg h) ∙ ap (λ k. (get_or legs i leg).items ∷ tracks_of (drop k legs)) (sym (add-one i)) ∙ ap (λ (v : Vec Linear Global). v.items ∷ tracks_of (drop (i + 1) legs)) (sym e)

-- one extent more
pub follow_push : (a : ℕ) (t : List Linear) (e : Linear) → FollowsFrom a t → IsExtent e → e.start ≡ a + track_len t → FollowsFrom a (t ++ e ∷ [])
follow_push a [] e f x s = (x, omega (arith, s), tt)
follow_push a (d ∷ t) e f x s = (f.0, f.1, follow_push (a + d.len) t e f.2 x (omega (arith, s)))

pub len_push : (t : List Linear) (e : Linear) → track_len (t ++ e ∷ []) ≡ track_len t + e.len
len_push [] e = omega arith
len_push (d ∷ t) e = let r = len_push t e in omega (arith, r)

-- one inner volume more
pub tracks_push : (vs : List (Vec Linear Global)) (v : Vec Linear Global) → AreTracks (tracks_of vs) → FollowsFrom 0 v.items → AreTracks (tracks_of (vs ++ v ∷ []))
tracks_push [] v f g = (g, tt)
tracks_push (w ∷ vs) v f g = (f.0, tracks_push vs v f.1 g)

-- Frames of one length, one behind another: the first of them, and the others.
use Rattle.std.proofs.Common.{ℕ, suc, zero, ◌≡◌, ◌+◌, ◌-◌, ◌*◌, ◌<◌, List, ◌∷◌, length, take, drop, refl, ap, ◌∙◌, arith}
use Rattle.std.proofs.lemmas.List.{length-drop}
use Rattle.rig_api.specs.Frames.{frames_of}

-- the first of some frames, and the others
pub next_frame : (len n : ℕ) (bytes : List ℕ) → 0 < n → frames_of len n bytes ≡ take len bytes ∷ frames_of len (n - 1) (drop len bytes)
next_frame len zero bytes h = absurd (omega arith)
next_frame len (suc n) bytes h = let e : suc n - 1 ≡ n = omega arith in rw e refl

pub less_one : (n len : ℕ) → 0 < n → n * len ≡ len + (n - 1) * len
less_one zero len h = absurd (omega arith)
less_one (suc n) len h = let e : suc n - 1 ≡ n = omega arith in rw e (grind arith)

-- the bytes behind the first frame
pub shorter : (n len m : ℕ) (rest more : List ℕ) → 0 < n → length rest ≡ n * len → m ≡ len → more ≡ drop m rest → length more ≡ (n - 1) * len
shorter n len m rest more h l e r = let k = less_one n len h in let d = ap length r ∙ length-drop m rest in omega (arith, k, d, l, e)

-- No place stands twice in a run, nor in two that share none.
use Rattle.std.proofs.Common.{◌≡◌, ℕ, zero, suc, ◌+◌, ◌≤◌, ◌<◌, List, [], ◌∷◌, ◌++◌, refl, ap, inl, inr, arith}
use Rattle.page_pool.specs.Places.{PageByte, run, IsAmong, NoneTwice, Apart}
use Rattle.page_pool.proofs.Placing.{among-append}

pub record Within (page off n : ℕ) (p : PageByte) : Type 0 where
  pub same : p.page ≡ page
  pub low : off ≤ p.off
  pub high : p.off < off + n

pub within : (page off n : ℕ) (p : PageByte) → IsAmong (run page off n) p → Within page off n p
unfolding run
within page off zero p h = absurd h
within page off (suc n) p (inl e) = let o = ap (λ (q : PageByte). q.off) e in record { same = ap (λ (q : PageByte). q.page) e; low = omega arith; high = omega arith }
within page off (suc n) p (inr h) = let w = within page (off + 1) n p h in let l = w.low in let k = w.high in record { same = w.same; low = omega arith; high = omega arith }

pub run-once : (page off n : ℕ) → NoneTwice (run page off n)
unfolding run
run-once page off zero = tt
run-once page off (suc n) = (λ h. let w = (within page (off + 1) n (record { page = page; off = off }) h).low in absurd (omega arith), run-once page (off + 1) n)

pub once-append : (a b : List PageByte) → NoneTwice a → NoneTwice b → Apart a b → NoneTwice (a ++ b)
once-append [] b h k apart = k
once-append (p ∷ a) b h k apart =
    (λ m. elim (among-append a b p m) [ inl l ↦ h.0 l | inr l ↦ apart p (inl refl) l ], once-append a b h.1 k (λ q l. apart q (inr l)))

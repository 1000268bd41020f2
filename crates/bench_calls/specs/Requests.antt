use Rattle.std.specs.Prelude.{◌≡◌, ℕ, zero, suc, List, [], ◌∷◌, length}
use Rattle.page_pool.specs.declared.segs.Seg.{Seg}
use Rattle.bench_calls.specs.declared.payloads.Request.{Request}

-- so many whole pages, from this one on
unfoldable pub whole_pages : ℕ → ℕ → List Seg
whole_pages first zero = []
whole_pages first (suc n) = record { page = first; off = 0; len = 4096 } ∷ whole_pages (suc first) n

-- 2,048 blocks in 256 pages, and their tuples in the four pages behind
pub record IsRequest (r : Request) : Type 0 where
  pub seed : r.payload.seed ≡ 0
  pub count : r.payload.count ≡ 2048
  pub tuples : r.payload.tuples ≡ whole_pages 256 4
  pub body : r.body ≡ whole_pages 0 256
  pub pages : length r.pool ≡ 260

-- The pieces that a request is cut into.
use Rattle.std.specs.Prelude.{ℕ, zero, suc, ◌+◌, ◌-◌, ◌%◌, min, Bool, ◌&&◌, nat_le, if◌then◌else◌}
use Rattle.merge_queue.specs.Passed.{Bio, bio_with, part_with}
use Rattle.stack_laws.specs.Blocks.{place_of}
use Rattle.stack_laws.specs.Plan.{Plan, request_at}

-- n blocks of op i from block k on are within the limits on segments
abbrev pub fits : Plan → ℕ → ℕ → ℕ → Bool
fits p i k n = nat_le (p.segs i k n) p.limits.max_segs && nat_le (p.pi_segs i k n) p.limits.max_pi_segs

-- the greatest number from 1 to n that passes, or 1
abbrev pub greatest : (ℕ → Bool) → ℕ → ℕ
greatest test zero = 1
greatest test (suc n) = let smaller = greatest test n in if test (suc n) then suc n else smaller

-- blocks left, run and limit
abbrev pub longest : Plan → ℕ → ℕ → ℕ
longest p i k = min ((request_at p i).count - k) (min (p.run_from ((request_at p i).first + k)) p.limits.max_blocks)

abbrev pub greatest_piece : Plan → ℕ → ℕ → ℕ
greatest_piece p i k = greatest (fits p i k) (longest p i k)

-- with cut 0 the greatest piece of n blocks, else 1 + (c - 1) mod n of them
abbrev pub cut_to : ℕ → ℕ → ℕ
cut_to zero n = n
cut_to (suc c) n = 1 + c % n

-- the piece of n blocks of op i, from block k on
abbrev pub bio_of : Plan → ℕ → ℕ → ℕ → Bio
bio_of p i k n =
    bio_with (p.segs i) (p.pi_segs i) (request_at p i).dir (suc i) k n (p.place ((request_at p i).first + k)).dev (p.place ((request_at p i).first + k)).lba

-- n blocks of a bio, from its block at on
abbrev pub part : Plan → Bio → ℕ → ℕ → Bio
part p b at n = part_with (p.segs (place_of b.op)) (p.pi_segs (place_of b.op)) b at n

-- What the groups in the queues and in the commands look like.
use Rattle.std.specs.Prelude.{◌≡◌, ◌<◌, ◌≤◌, ℕ, suc, ◌+◌, List, [], ◌∷◌}
use Rattle.std.specs.List.{All}
use Rattle.merge_queue.specs.Passed.{Bio}
use Rattle.stack_laws.specs.Blocks.{place_of}
use Rattle.merge_queue.specs.Groups.{size, Group, lba_of, dir_of}
use Rattle.stack_laws.specs.Plan.{Plan, request_at}
use Rattle.stack_laws.specs.View.{View}

-- From each block of a request run_from blocks lie one behind another on one device, at least that one;
-- a command may have a block.
pub record Straight (p : Plan) : Type 0 where
  pub one : 1 ≤ p.limits.max_blocks
  pub some : (i k : ℕ) → k < (request_at p i).count → 1 ≤ p.run_from ((request_at p i).first + k)
  pub dev : (i k n : ℕ) → k + n < (request_at p i).count → n < p.run_from ((request_at p i).first + k) →
      (p.place ((request_at p i).first + (k + n))).dev ≡ (p.place ((request_at p i).first + k)).dev
  pub lba : (i k n : ℕ) → k + n < (request_at p i).count → n < p.run_from ((request_at p i).first + k) →
      (p.place ((request_at p i).first + (k + n))).lba ≡ (p.place ((request_at p i).first + k)).lba + n

-- a bio of device d names blocks of its request, where they lie
pub record Named (p : Plan) (d : ℕ) (b : Bio) : Type 0 where
  pub numbered : 1 ≤ b.op
  pub some : 1 ≤ b.count
  pub within : b.k + b.count ≤ (request_at p (place_of b.op)).count
  pub on : b.dev ≡ d
  pub way : b.dir ≡ (request_at p (place_of b.op)).dir
  pub dev : (n : ℕ) → n < b.count → (p.place ((request_at p (place_of b.op)).first + (b.k + n))).dev ≡ d
  pub lba : (n : ℕ) → n < b.count → (p.place ((request_at p (place_of b.op)).first + (b.k + n))).lba ≡ b.lba + n
  pub segs : b.segs ≡ p.segs (place_of b.op) b.k b.count
  pub pi_segs : b.pi_segs ≡ p.pi_segs (place_of b.op) b.k b.count

-- each begins where the one before ends
abbrev pub Chain : ℕ → List Bio → Type 0
Chain at [] = Unit {0}
Chain at (b ∷ bs) = (b.lba ≡ at) × Chain (at + b.count) bs

-- a group of device d: of one direction, within the limit on blocks
pub record IsGroup (p : Plan) (d : ℕ) (g : Group) : Type 0 where
  pub named : All (Named p d) g
  pub chain : Chain (lba_of g) g
  pub way : All (λ b. b.dir ≡ dir_of g) g
  pub few : size g ≤ p.limits.max_blocks

abbrev pub AllGroups : Plan → ℕ → List (List Group) → Type 0
AllGroups p d [] = Unit {0}
AllGroups p d (q ∷ qs) = All (IsGroup p d) q × AllGroups p (suc d) qs

pub record Formed (p : Plan) (v : View) : Type 0 where
  pub queues : AllGroups p 0 v.queues
  pub commands : All (λ c. IsGroup p c.dev c.bios) v.commands

-- Crossings of a script's blocks: each can be named by a fault line, and there are three for each block.
use Rattle.std.proofs.Common.{◌≡◌, ℕ, zero, suc, ◌+◌, ◌*◌, ◌-◌, ◌<◌, ◌≤◌, List, [], ◌∷◌, ◌++◌, length, Bool, refl, sym, ap, arith, length-append}
use Rattle.rig_api.specs.declared.change.Change.TheVariants.{Flip as FlipChange, Copy as CopyChange}
use Rattle.run_command.proofs.Passed.{alone-of, both-of}
use Rattle.script_laws.proofs.OpForms.{no_fault}
use Rattle.script_laws.specs.Keeping.{Each, IsOp, Keeps, blocks_of}
use Rattle.script_laws.specs.Lines.{line_of}
use Rattle.script_lines.specs.declared.line.Spot.TheVariants.{Host, Wire, Medium}
use Rattle.script_text.specs.Bindings.{request_of}
use Rattle.script_text.specs.Rules.{request_blocks}
use Rattle.script_text.specs.declared.script.Script.{Script}
use Rattle.stack_ops.specs.declared.op.Op.{Op}
use Rattle.stack_ops.specs.declared.op.Op.TheVariants.{Fill, Put, Show, Seal, Write, Fetch, WritePi, FetchPi, Overwrite, Wait}
use Rattle.flip_sweep.specs.Flips.{AreSites, count_in, site, sites_from, sites_of, sites_on}
use Rattle.flip_sweep.specs.declared.flips.Site.{Site}

-- ---- the blocks of an op

few_blocks : (dix : Bool) (pages size : ℕ) (op : Op) → IsOp dix pages size op → count_in (request_of op) ≤ 2048
few_blocks dix pages size (Fill seg byte) h = omega arith
few_blocks dix pages size (Put page off bytes) h = omega arith
few_blocks dix pages size (Show seg) h = omega arith
few_blocks dix pages size (Seal n body tuples app rtag) h = omega arith
few_blocks dix pages size (Write v n body app) h = (alone-of pages size n body (no_fault _ _ _ h.rules)).body_is.few
few_blocks dix pages size (Fetch v n body) h = (alone-of pages size n body (no_fault _ _ _ h.rules)).body_is.few
few_blocks dix pages size (WritePi v n body tuples) h = (both-of pages size n body tuples (no_fault _ _ _ h.rules)).body_is.few
few_blocks dix pages size (FetchPi v n body tuples) h = (both-of pages size n body tuples (no_fault _ _ _ h.rules)).body_is.few
few_blocks dix pages size (Overwrite dev lba change) h = omega arith
few_blocks dix pages size Wait h = omega arith

as_many : (op : Op) → count_in (request_of op) ≡ request_blocks (line_of op)
as_many (Fill seg byte) = refl
as_many (Put page off bytes) = refl
as_many (Show seg) = refl
as_many (Seal n body tuples app rtag) = refl
as_many (Write v n body app) = refl
as_many (Fetch v n body) = refl
as_many (WritePi v n body tuples) = refl
as_many (FetchPi v n body tuples) = refl
as_many (Overwrite dev lba (FlipChange off bytes)) = refl
as_many (Overwrite dev lba (CopyChange from_dev from_lba)) = refl
as_many Wait = refl

-- ---- its crossings

there : (op k : ℕ) → 1 ≤ op → op ≤ 1024 → k ≤ 2047 → AreSites (site op k Host ∷ site op k Wire ∷ site op k Medium ∷ [])
there op k a b c = (record { op_low = a; op_high = b; block = c }, (record { op_low = a; op_high = b; block = c }, (record { op_low = a; op_high = b; block = c }, tt)))

both : (xs ys : List Site) → AreSites xs → AreSites ys → AreSites (xs ++ ys)
both [] ys h k = k
both (x ∷ xs) ys h k = (h.0, both xs ys h.1 k)

all_on : (op k n : ℕ) → 1 ≤ op → op ≤ 1024 → k + n ≤ 2048 → AreSites (sites_on op k n)
all_on op k zero a b c = tt
all_on op k (suc n) a b c = both (site op k Host ∷ site op k Wire ∷ site op k Medium ∷ []) (sites_on op (k + 1) n) (there op k a b (omega (arith, c))) (all_on op (k + 1) n a b (omega (arith, c)))

all_from : (dix : Bool) (pages size number : ℕ) (ops : List Op) → Each (IsOp dix pages size) ops → 1 ≤ number → number + length ops ≤ 1025 → AreSites (sites_from number ops)
all_from dix pages size number [] h a b = tt
all_from dix pages size number (op ∷ ops) h a b =
    both (sites_on number 0 (count_in (request_of op))) (sites_from (number + 1) ops) (all_on number 0 (count_in (request_of op)) a (omega (arith, b)) (let n = few_blocks dix pages size op h.0 in omega (arith, n)))
    (all_from dix pages size (number + 1) ops h.1 (omega arith) (omega (arith, b)))

pub all_sites : (s : Script) → Keeps s → AreSites (sites_of s)
all_sites s k = let c = k.ops_count in all_from s.mode.dix s.pages s.block 1 s.ops k.ops_are (omega arith) (omega arith)

many_on : (op k n : ℕ) → length (sites_on op k n) ≡ 3 * n
many_on op k zero = omega arith
many_on op k (suc n) = let r = many_on op (k + 1) n in omega arith

many_from : (number : ℕ) (ops : List Op) → length (sites_from number ops) ≡ 3 * blocks_of ops
many_from number [] = omega arith
many_from number (op ∷ ops) =
    let a = length-append (sites_on number 0 (count_in (request_of op))) (sites_from (number + 1) ops) in
    let b = many_on number 0 (count_in (request_of op)) in
    let c = many_from (number + 1) ops in
    let d = as_many op in
    omega arith

pub few_sites : (s : Script) → Keeps s → length (sites_of s) ≤ 49152
few_sites s k = let a = many_from 1 s.ops in let b = k.blocks_count in omega arith

-- ---- added block by block

pub block_more : (op k count : ℕ) → k < count → sites_on op k 1 ++ sites_on op (k + 1) (count - (k + 1)) ≡ sites_on op k (count - k)
block_more op k count l = let e : count - k ≡ suc (count - (k + 1)) = omega (arith, l) in sym (ap (sites_on op k) e)

-- One block by itself, as its check sees it.
use Rattle.std.proofs.Common.{◌≡◌, ℕ, true, ◌+◌, ◌*◌, ◌/◌, ◌≤◌, List, take, drop, length, Option, Some, None, sym, ap, ◌∙◌, arith, rules}
use Rattle.std.proofs.Math.Nat.{div_self}
use Rattle.pi_guard.specs.Guards.{guard_of}
use Rattle.pi_guard.specs.declared.GuardKind.{GuardKind}
use Rattle.pi_tuple.specs.Tuples.{tuple_in}
use Rattle.pi_tuple.specs.declared.tuple.Tuple.{Tuple}
use Rattle.pi_blocks.specs.declared.block.Found.{Found}
use Rattle.pi_blocks.specs.declared.block.Want.{Want}
use Rattle.pi_blocks.specs.declared.layout.Layout.{Layout}
use Rattle.pi_blocks.specs.Blocks.{compared, guard_in, in_line}
use Rattle.pi_blocks.specs.Blocks as narrow
use Rattle.pi_blocks.specs.Layouts.{covered_of, kind_of, of_type, stride_of}
use Rattle.wide_blocks.specs.Layouts as wide
use Rattle.wide_blocks.specs.declared.block.NvmeFound.{NvmeFound}
use Rattle.wide_blocks.specs.declared.block.NvmeWant.{NvmeWant}
use Rattle.wide_blocks.specs.declared.layout.NvmeLayout.{NvmeLayout}
use Rattle.wide_blocks.specs.Blocks.{Checked, IsFirstWide, WideBlock, looked}

-- what a check of one block answers is what the block is found to differ in
pub one_looked : (l : NvmeLayout) (w : NvmeWant) (blocks : ℕ → WideBlock) (n : ℕ) (found : Option NvmeFound) → n ≡ 1 → Checked l w blocks 0 n found → found ≡ looked l w blocks 0
one_looked l w blocks n None e c = sym (c 0 (omega arith) (omega (arith, e)))
one_looked l w blocks n (Some told) e c =
    let inside = c.inside in
    let zero : told.block ≡ 0 = omega (arith, e, inside) in
    sym (ap (λ k. looked l w blocks k) (sym zero) ∙ c.differs)

-- a block is one
pub one_block : (l : NvmeLayout) (n : ℕ) → wide.is_good l ≡ true → n ≡ wide.stride_of l → n / wide.stride_of l ≡ 1
one_block l n good e =
    let some : 16 ≤ l.meta_size = search rules in
    let one : wide.stride_of l / wide.stride_of l ≡ 1 = div_self (omega arith) in
    ap (λ x. x / wide.stride_of l) e ∙ one

-- the check of the tuple of a block is that of the block
pub narrow_looked : (l : Layout) (w : Want) (block eight : List ℕ) (kind : GuardKind) (guard covered : ℕ) (found : Option Found) → covered ≡ covered_of l → kind ≡ kind_of l.guard → guard ≡ guard_of kind (take covered block) →
    eight ≡ take 8 (drop covered block) → found ≡ compared (of_type l.pi_type) w 0 guard (tuple_in eight) → found ≡ narrow.looked l w (in_line l block) 0
narrow_looked l w block eight kind guard covered found c k g t f =
    let z : 0 * stride_of l ≡ 0 = omega arith in
    let y : 0 * stride_of l + covered_of l ≡ covered = omega (arith, c) in
    let guards : guard ≡ guard_in l (in_line l block 0) =
    g ∙ ap (λ (x : GuardKind). guard_of x (take covered block)) k ∙ ap (λ (n : ℕ). guard_of (kind_of l.guard) (take n block)) c ∙ ap (λ (n : ℕ). guard_of (kind_of l.guard) (take (covered_of l) (drop n block))) (sym z) in
    let tuples : tuple_in eight ≡ tuple_in (in_line l block 0).tuple = ap tuple_in (t ∙ ap (λ (n : ℕ). take 8 (drop n block)) (sym y)) in
    f ∙ ap (λ (n : ℕ). compared l w 0 n (tuple_in eight)) guards ∙ ap (λ (u : Tuple). compared l w 0 (guard_in l (in_line l block 0)) u) tuples

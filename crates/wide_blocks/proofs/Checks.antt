-- One more block that is fine, and what is found by a block's own bytes.
use Rattle.std.proofs.Common.{◌≡◌, ℕ, ◌+◌, ◌-◌, ◌*◌, ◌<◌, ◌≤◌, ⊎_elim, List, ◌++◌, take, drop, Option, None, sym, subst, ap, ◌∙◌, arith}
use Rattle.std.proofs.lemmas.Bool.{cases_lt}
use Rattle.wide_blocks.specs.declared.block.NvmeFound.{NvmeFound}
use Rattle.wide_blocks.specs.declared.block.NvmeWant.{NvmeWant}
use Rattle.wide_blocks.specs.declared.information.Information.{Information}
use Rattle.wide_blocks.specs.declared.layout.NvmeLayout.{NvmeLayout}
use Rattle.wide_blocks.specs.Blocks.{AreFineFrom, WideBlock, apart, compared, guard_of, in_line, looked}
use Rattle.wide_blocks.specs.Information.{info_in}
use Rattle.wide_blocks.specs.Layouts.{covered_of, info_at, stride_of}

pub one_more : (l : NvmeLayout) (w : NvmeWant) (blocks : ℕ → WideBlock) (start n : ℕ) → AreFineFrom l w blocks start n → looked l w blocks n ≡ None → AreFineFrom l w blocks start (n + 1)
one_more l w blocks start n h e k from lt =
    ⊎_elim (λ (below : k < n). h k from below) (λ (above : n ≤ k). let same : k ≡ n = omega arith in subst (λ m. looked l w blocks m ≡ None) (sym same) e) (cases_lt k n)

-- the guard of the bytes of a block before its information
pub guard_in_line : (l : NvmeLayout) (bytes : List ℕ) (i stride covered guard : ℕ) → stride ≡ stride_of l → covered ≡ covered_of l →
    guard ≡ guard_of l (take (i * stride + covered - i * stride) (drop (i * stride) bytes)) → guard ≡ guard_of l (in_line l bytes i).guarded
guard_in_line l bytes i stride covered guard s v g =
    let d : i * stride + covered - i * stride ≡ covered = omega arith in
    g ∙ (ap (λ n. guard_of l (take n (drop (i * stride) bytes))) (d ∙ v) ∙ ap (λ n. guard_of l (take (covered_of l) (drop (i * n) bytes))) s)

pub looked_in_line : (l : NvmeLayout) (w : NvmeWant) (bytes : List ℕ) (i stride covered guard : ℕ) (t : Information) (found : Option NvmeFound) → stride ≡ stride_of l → covered ≡ covered_of l →
    guard ≡ guard_of l (take (i * stride + covered - i * stride) (drop (i * stride) bytes)) → t ≡ info_in l (take 16 (drop (i * stride + covered) bytes)) → found ≡ compared l w i guard t →
    found ≡ looked l w (in_line l bytes) i
looked_in_line l w bytes i stride covered guard t found s v g e f =
    let there : i * stride + covered ≡ i * stride_of l + covered_of l = ap (λ n. i * n + covered) s ∙ ap (λ n. i * stride_of l + n) v in
    let same = guard_in_line l bytes i stride covered guard s v g in
    f ∙ (ap (λ n. compared l w i n t) same ∙ ap (λ (u : Information). compared l w i (guard_of l (in_line l bytes i).guarded) u) (e ∙ ap (λ n. info_in l (take 16 (drop n bytes))) there))

-- and of data and metadata that lie apart
pub guard_apart : (l : NvmeLayout) (body meta : List ℕ) (i at guard : ℕ) → at ≡ info_at l →
    guard ≡ guard_of l (take (i * l.data_size + l.data_size - i * l.data_size) (drop (i * l.data_size) body) ++ take (i * l.meta_size + at - i * l.meta_size) (drop (i * l.meta_size) meta)) →
    guard ≡ guard_of l (apart l body meta i).guarded
guard_apart l body meta i at guard v g =
    let c : i * l.data_size + l.data_size - i * l.data_size ≡ l.data_size = omega arith in
    let d : i * l.meta_size + at - i * l.meta_size ≡ at = omega arith in
    g ∙ (ap (λ n. guard_of l (take n (drop (i * l.data_size) body) ++ take (i * l.meta_size + at - i * l.meta_size) (drop (i * l.meta_size) meta))) c
    ∙ ap (λ n. guard_of l (take l.data_size (drop (i * l.data_size) body) ++ take n (drop (i * l.meta_size) meta))) (d ∙ v))

pub looked_apart : (l : NvmeLayout) (w : NvmeWant) (body meta : List ℕ) (i at guard : ℕ) (t : Information) (found : Option NvmeFound) → at ≡ info_at l →
    guard ≡ guard_of l (take (i * l.data_size + l.data_size - i * l.data_size) (drop (i * l.data_size) body) ++ take (i * l.meta_size + at - i * l.meta_size) (drop (i * l.meta_size) meta)) →
    t ≡ info_in l (take 16 (drop (i * l.meta_size + at) meta)) → found ≡ compared l w i guard t → found ≡ looked l w (apart l body meta) i
looked_apart l w body meta i at guard t found v g e f =
    let same = guard_apart l body meta i at guard v g in
    f ∙ (ap (λ n. compared l w i n t) same ∙ ap (λ (u : Information). compared l w i (guard_of l (apart l body meta i).guarded) u) (e ∙ ap (λ n. info_in l (take 16 (drop (i * l.meta_size + n) meta))) v))

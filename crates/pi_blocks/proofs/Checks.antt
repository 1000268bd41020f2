-- One more block that is fine, and the one answer of a check of many.
use Rattle.std.proofs.Common.{◌≡◌, ℕ, ◌+◌, ◌-◌, ◌*◌, ◌<◌, ◌≤◌, ⊎_elim, List, take, drop, Option, Some, None, inl, inr, refl, sym, subst, ap, ◌∙◌, arith}
use Rattle.std.proofs.lemmas.Bool.{cases_lt, cases_order}
use Rattle.pi_guard.specs.declared.GuardKind.{GuardKind}
use Rattle.pi_guard.specs.Guards.{guard_of}
use Rattle.pi_tuple.specs.declared.tuple.Tuple.{Tuple}
use Rattle.pi_tuple.specs.Tuples.{tuple_in}
use Rattle.pi_blocks.specs.Blocks.{AreFineFrom, Block, compared, guard_in, in_line, looked}
use Rattle.pi_blocks.specs.Laws.{HasOneAnswer}
use Rattle.pi_blocks.specs.Layouts.{covered_of, kind_of, stride_of}
use Rattle.pi_blocks.specs.declared.block.Found.{Found}
use Rattle.pi_blocks.specs.declared.block.Want.{Want}
use Rattle.pi_blocks.specs.declared.layout.Layout.{Layout}

-- one more block is fine
pub one_more : (l : Layout) (w : Want) (blocks : ℕ → Block) (start n : ℕ) → AreFineFrom l w blocks start n → looked l w blocks n ≡ None → AreFineFrom l w blocks start (n + 1)
one_more l w blocks start n h e k from lt =
    ⊎_elim (λ (below : k < n). h k from below) (λ (above : n ≤ k). let same : k ≡ n = omega arith in subst (λ m. looked l w blocks m ≡ None) (sym same) e) (cases_lt k n)

-- the guard of the bytes before the tuple of block i
pub guard_in_line : (l : Layout) (bytes : List ℕ) (i stride covered guard : ℕ) (kind : GuardKind) → stride ≡ stride_of l → covered ≡ covered_of l → kind ≡ kind_of l.guard →
    guard ≡ guard_of kind (take (i * stride + covered - i * stride) (drop (i * stride) bytes)) → guard ≡ guard_in l (in_line l bytes i)
guard_in_line l bytes i stride covered guard kind s v k g =
    let d : i * stride + covered - i * stride ≡ covered = omega arith in
    g ∙ (ap (λ n. guard_of kind (take n (drop (i * stride) bytes))) (d ∙ v) ∙ (ap (λ n. guard_of kind (take (covered_of l) (drop (i * n) bytes))) s ∙ ap (λ m. guard_of m (take (covered_of l) (drop (i * stride_of l) bytes))) k))

-- what is found by that guard and the tuple behind those bytes
pub looked_in_line : (l : Layout) (w : Want) (bytes : List ℕ) (i stride covered guard : ℕ) (t : Tuple) (found : Option Found) → stride ≡ stride_of l → covered ≡ covered_of l → guard ≡ guard_in l (in_line l bytes i) →
    t ≡ tuple_in (take 8 (drop (i * stride + covered) bytes)) → found ≡ compared l w i guard t → found ≡ looked l w (in_line l bytes) i
looked_in_line l w bytes i stride covered guard t found s v g e f =
    let there : i * stride + covered ≡ i * stride_of l + covered_of l = ap (λ n. i * n + covered) s ∙ ap (λ n. i * stride_of l + n) v in
    f ∙ (ap (λ n. compared l w i n t) g ∙ ap (λ (u : Tuple). compared l w i (guard_in l (in_line l bytes i)) u) (e ∙ ap (λ n. tuple_in (take 8 (drop n bytes))) there))

-- a check has one answer

pub one_answer : (l : Layout) (w : Want) (blocks : ℕ → Block) (start n : ℕ) → HasOneAnswer l w blocks start n
one_answer l w blocks start n None None fine also = refl
one_answer l w blocks start n None (Some g) fine first = let a = fine g.block first.behind first.inside in let b = first.differs in cc
one_answer l w blocks start n (Some f) None first fine = let a = fine f.block first.behind first.inside in let b = first.differs in cc
one_answer l w blocks start n (Some f) (Some g) first other = elim (cases_order f.block g.block) [
  | inl same ↦ sym first.differs ∙ (ap (looked l w blocks) same ∙ other.differs)
  | inr (inl below) ↦ let a = other.first f.block first.behind below in let b = first.differs in cc
  | inr (inr above) ↦ let a = first.first g.block other.behind above in let b = other.differs in cc
]

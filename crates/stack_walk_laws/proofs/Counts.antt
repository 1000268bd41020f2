-- How many blocks the first requests have.
use Rattle.std.proofs.Common.{◌≡◌, ◌≤◌, ◌<◌, ℕ, zero, suc, ◌+◌, List, [], ◌∷◌, ◌++◌, length, get_or, map, take, refl, ap, ◌∙◌, add-one, below_more, arith}
use Rattle.std.proofs.lemmas.List.{get_or_append_left, get_or_push, map-append}
use Rattle.stack_laws.specs.Passed.{numbers}
use Rattle.stack_laws.proofs.Passed.{numbers-split}
use Rattle.bio_core.specs.declared.request.Io.{Io}
use Rattle.stack_laws.specs.Runs.{blocks_of_requests}
use Rattle.stack_walk_laws.specs.Sheets.{io_at, request_in}
use Rattle.stack_walk_laws.specs.Settling.{blocks_before}

abbrev pub blocks_of : List Io → ℕ
blocks_of ios = blocks_of_requests (map request_in ios)

blocks-suc : (ios : List Io) (i : ℕ) → i < length ios → blocks_of (take (suc i) ios) ≡ blocks_of (take i ios) + (io_at ios i).count
blocks-suc [] i h = absurd (omega arith)
blocks-suc (io ∷ ios) zero h = omega arith
blocks-suc (io ∷ ios) (suc i) h = let e = blocks-suc ios i (omega arith) in omega arith

pub blocks-more : (ios : List Io) (i : ℕ) → i < length ios → blocks_of (take (i + 1) ios) ≡ blocks_of (take i ios) + (io_at ios i).count
blocks-more ios i h = rw add-one (blocks-suc ios i h)

pub blocks-within : (ios : List Io) (i : ℕ) → blocks_of (take i ios) ≤ blocks_of ios
blocks-within ios zero = omega arith
blocks-within [] (suc i) = omega arith
blocks-within (io ∷ ios) (suc i) = let h = blocks-within ios i in omega arith

-- where the blocks of one request more begin
pub within-more : (ios : List Io) (starts : List ℕ) (blocks i : ℕ) (io : Io) → length starts ≡ i → io ≡ io_at ios i → ((j : ℕ) → j < i → get_or starts j 0 + (io_at ios j).count ≤ blocks) → (j : ℕ) → j < i + 1 → get_or (starts ++ blocks ∷ []) j 0 + (io_at ios j).count ≤ blocks + io.count
within-more ios starts blocks i io n e h =
    below_more (λ j. get_or (starts ++ blocks ∷ []) j 0 + (io_at ios j).count ≤ blocks + io.count) i
    (λ j l. (let g : get_or (starts ++ blocks ∷ []) j 0 ≡ get_or starts j 0 = get_or_append_left starts (blocks ∷ []) 0 j (omega arith) in let k = h j l in omega arith))
    (let g : get_or (starts ++ blocks ∷ []) i 0 ≡ blocks = get_or_push starts blocks 0 i n in let k : io.count ≡ (io_at ios i).count = ap (λ (x : Io). x.count) e in omega arith)

pub begin-more : (ios : List Io) (starts : List ℕ) (blocks i : ℕ) → length starts ≡ i → blocks ≡ blocks_before ios i → ((j : ℕ) → j < i → get_or starts j 0 ≡ blocks_before ios j) → (j : ℕ) → j < i + 1 → get_or (starts ++ blocks ∷ []) j 0 ≡ blocks_before ios j
begin-more ios starts blocks i n e h =
    below_more (λ j. get_or (starts ++ blocks ∷ []) j 0 ≡ blocks_before ios j) i
    (λ j l. get_or_append_left starts (blocks ∷ []) 0 j (omega arith) ∙ h j l)
    (get_or_push starts blocks 0 i n ∙ e)

-- what is made of the first numbers, and of one more
pub numbers-more : {X : Type 0} (f : ℕ → X) (i : ℕ) → map f (numbers 0 (i + 1)) ≡ map f (numbers 0 i) ++ f i ∷ []
numbers-more f i =
    let z : 0 + i ≡ i = omega arith in
    ap (map f) (numbers-split 0 i 1 (i + 1) refl) ∙ map-append f (numbers 0 i) (numbers (0 + i) 1) ∙ ap (λ j. map f (numbers 0 i) ++ f j ∷ []) z

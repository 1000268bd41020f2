-- The blocks of a group as the view and as the adapter name them, and their statuses once it is sent or settled.
use Rattle.std.proofs.Common.{◌≡◌, ℕ, zero, suc, ◌≤◌, true, false, ◌&&◌, eqb, List, [], ◌∷◌, ◌++◌, map, refl, sym, ap, ◌∙◌, arith, ⊎_elim}
use Rattle.std.specs.Prelude.{if◌then◌else◌, Option}
use Rattle.std.proofs.lemmas.Bool.{and_parts, cases_Bool, eqb-true, eq-eqb}
use Rattle.std.proofs.lemmas.List.{map-append}
use Rattle.bio_core.specs.Bios.{Block, blocks_from, blocks_of}
use Rattle.bio_core.specs.declared.bio.Bio.{Bio}
use Rattle.bio_core.specs.declared.fate.Fate.{Fate}
use Rattle.bio_core.specs.declared.fate.Fate.TheVariants.{Good, Bad, Untouched}
use Rattle.bio_core.specs.declared.fate.Why.{Why}
use Rattle.bio_core.specs.declared.request.Dir.{Dir}
use Rattle.dix_adapter.specs.Groups.{blocks_in}
use Rattle.stack_laws.specs.Blocks.{blocks, is_block, is_settled, place_of, run_of, times}
use Rattle.stack_walk_laws.specs.Sending.{with_fate, with_fates, with_status}
use Rattle.stack_walk_laws.specs.Slots.{Settled, Status}
use Rattle.stack_walk_laws.proofs.Sends.{with_here, with_other}
use Rattle.stack_walk_laws.specs.Statuses.{after_all, fate_at, given, id_of, with_settled}
use Rattle.stack_walk_laws.proofs.Fates.{fate_none}

from_ids : (op k dev lba : ℕ) (dir : Dir) (n : ℕ) → map id_of (blocks_from op k dev lba dir n) ≡ run_of (place_of op) k n
from_ids op k dev lba dir zero = refl
from_ids op k dev lba dir (suc n) = ap (λ l. record { op = place_of op; k = k } ∷ l) (from_ids op (suc k) dev (suc lba) dir n)

pub ids_are : (bs : List Bio) → map id_of (blocks_in bs) ≡ blocks bs
ids_are [] = refl
ids_are (b ∷ bs) = map-append id_of (blocks_of b) (blocks_in bs) ∙ (ap (λ l. l ++ map id_of (blocks_in bs)) (from_ids b.op b.k b.dev b.lba b.dir b.count) ∙ ap (λ l. run_of (place_of b.op) b.k b.count ++ l) (ids_are bs))

-- ops are numbered from 1
abbrev pub AllNumbered : List Block → Type 0
AllNumbered [] = Unit {0}
AllNumbered (b ∷ bs) = (1 ≤ b.op) × AllNumbered bs

place-suc : (n : ℕ) → 1 ≤ n → suc (place_of n) ≡ n
place-suc zero h = absurd (omega arith)
place-suc (suc n) h = refl

-- it is this block, or another
same_block : (b : Block) (j q : ℕ) → 1 ≤ b.op → (eqb (place_of b.op) j && eqb b.k q) ≡ true → (suc j ≡ b.op) × (q ≡ b.k)
same_block b j q n e =
    let t = and_parts (eqb (place_of b.op) j) (eqb b.k q) e in
    (sym (ap suc (eqb-true (place_of b.op) j t.0)) ∙ place-suc b.op n, sym (eqb-true b.k q t.1))

not_block : (b : Block) (j q : ℕ) → (eqb (place_of b.op) j && eqb b.k q) ≡ false → suc j ≡ b.op → q ≡ b.k → ⊥
not_block b j q e s t =
    let x : eqb (place_of b.op) j ≡ true = eq-eqb (place_of b.op) j (ap place_of (sym s)) in
    let y : eqb b.k q ≡ true = eq-eqb b.k q (sym t) in
    let z : true ≡ false = sym (rw (x, y) refl) ∙ e in
    cc

fate_here : (b : Block) (f : Fate) (status : ℕ → ℕ → Status) (j q : ℕ) → suc j ≡ b.op → q ≡ b.k → with_fate b f status (suc j) q ≡ given f (status (suc j) q)
fate_here b Good status j q e t = with_here b.op b.k (suc j) q (given Good (status (suc j) q)) status e t
fate_here b (Bad why) status j q e t = with_here b.op b.k (suc j) q (given (Bad why) (status (suc j) q)) status e t
fate_here b Untouched status j q e t = refl

fate_other : (b : Block) (f : Fate) (status : ℕ → ℕ → Status) (j q : ℕ) → (j ≡ b.op → q ≡ b.k → ⊥) → with_fate b f status j q ≡ status j q
fate_other b Good status j q h = with_other b.op b.k j q (given Good (status j q)) status h
fate_other b (Bad why) status j q h = with_other b.op b.k j q (given (Bad why) (status j q)) status h
fate_other b Untouched status j q h = refl

-- ---- sent

pub sent_given : (bs : List Block) (fs : List Fate) (status : ℕ → ℕ → Status) (j q : ℕ) → AllNumbered bs → times j q (map id_of bs) ≤ 1 → with_fates bs fs status (suc j) q ≡ given (fate_at j q (map id_of bs) fs) (status (suc j) q)
sent_given [] fs status j q n h = refl
sent_given (b ∷ bs) [] status j q n h = refl
sent_given (b ∷ bs) (f ∷ fs) status j q n h =
    ⊎_elim
    (λ (e : (eqb (place_of b.op) j && eqb b.k q) ≡ true).
    let w : is_block j q (id_of b) ≡ 1 = rw e refl in
    let z : times j q (map id_of bs) ≡ 0 = omega arith in
    let t = same_block b j q n.0 e in
    rw e (sent_given bs fs (with_fate b f status) j q n.1 (omega arith) ∙ (ap (λ x. given x (with_fate b f status (suc j) q)) (fate_none j q (map id_of bs) fs z) ∙ fate_here b f status j q t.0 t.1)))
    (λ (e : (eqb (place_of b.op) j && eqb b.k q) ≡ false).
    rw e (sent_given bs fs (with_fate b f status) j q n.1 (omega arith) ∙ ap (given (fate_at j q (map id_of bs) fs)) (fate_other b f status (suc j) q (not_block b j q e))))
    (cases_Bool (eqb (place_of b.op) j && eqb b.k q))

pub sent_nobody : (bs : List Block) (fs : List Fate) (status : ℕ → ℕ → Status) (q : ℕ) → AllNumbered bs → with_fates bs fs status zero q ≡ status zero q
sent_nobody [] fs status q n = refl
sent_nobody (b ∷ bs) [] status q n = refl
sent_nobody (b ∷ bs) (f ∷ fs) status q n = sent_nobody bs fs (with_fate b f status) q n.1 ∙ fate_other b f status zero q (λ (e : 0 ≡ b.op) (t : q ≡ b.k). let x = n.0 in omega arith)

-- ---- settled

abbrev settle_one : Block → Fate → (ℕ → ℕ → Option Why) → (ℕ → ℕ → Status) → ℕ → ℕ → Status
settle_one b f why status = if is_settled f then with_status b.op b.k (Settled (why (place_of b.op) b.k)) status else status

settle_here : (b : Block) (f : Fate) (why : ℕ → ℕ → Option Why) (status : ℕ → ℕ → Status) (j q : ℕ) → suc j ≡ b.op → q ≡ b.k → settle_one b f why status (suc j) q ≡ after_all f (why j q) (status (suc j) q)
settle_here b Good why status j q e t = with_here b.op b.k (suc j) q (Settled (why (place_of b.op) b.k)) status e t ∙ ap Settled (ap (λ x. why x b.k) (ap place_of (sym e)) ∙ ap (why j) (sym t))
settle_here b (Bad x) why status j q e t = with_here b.op b.k (suc j) q (Settled (why (place_of b.op) b.k)) status e t ∙ ap Settled (ap (λ x. why x b.k) (ap place_of (sym e)) ∙ ap (why j) (sym t))
settle_here b Untouched why status j q e t = refl

settle_other : (b : Block) (f : Fate) (why : ℕ → ℕ → Option Why) (status : ℕ → ℕ → Status) (j q : ℕ) → (j ≡ b.op → q ≡ b.k → ⊥) → settle_one b f why status j q ≡ status j q
settle_other b Good why status j q h = with_other b.op b.k j q (Settled (why (place_of b.op) b.k)) status h
settle_other b (Bad x) why status j q h = with_other b.op b.k j q (Settled (why (place_of b.op) b.k)) status h
settle_other b Untouched why status j q h = refl

pub settled_given : (bs : List Block) (fs : List Fate) (why : ℕ → ℕ → Option Why) (status : ℕ → ℕ → Status) (j q : ℕ) → AllNumbered bs → times j q (map id_of bs) ≤ 1 →
    with_settled bs fs why status (suc j) q ≡ after_all (fate_at j q (map id_of bs) fs) (why j q) (status (suc j) q)
settled_given [] fs why status j q n h = refl
settled_given (b ∷ bs) [] why status j q n h = refl
settled_given (b ∷ bs) (f ∷ fs) why status j q n h =
    ⊎_elim
    (λ (e : (eqb (place_of b.op) j && eqb b.k q) ≡ true).
    let w : is_block j q (id_of b) ≡ 1 = rw e refl in
    let z : times j q (map id_of bs) ≡ 0 = omega arith in
    let t = same_block b j q n.0 e in
    rw e (settled_given bs fs why (settle_one b f why status) j q n.1 (omega arith) ∙ (ap (λ x. after_all x (why j q) (settle_one b f why status (suc j) q)) (fate_none j q (map id_of bs) fs z) ∙ settle_here b f why status j q t.0 t.1)))
    (λ (e : (eqb (place_of b.op) j && eqb b.k q) ≡ false).
    rw e (settled_given bs fs why (settle_one b f why status) j q n.1 (omega arith) ∙ ap (after_all (fate_at j q (map id_of bs) fs) (why j q)) (settle_other b f why status (suc j) q (not_block b j q e))))
    (cases_Bool (eqb (place_of b.op) j && eqb b.k q))

pub settled_nobody : (bs : List Block) (fs : List Fate) (why : ℕ → ℕ → Option Why) (status : ℕ → ℕ → Status) (q : ℕ) → AllNumbered bs → with_settled bs fs why status zero q ≡ status zero q
settled_nobody [] fs why status q n = refl
settled_nobody (b ∷ bs) [] why status q n = refl
settled_nobody (b ∷ bs) (f ∷ fs) why status q n = settled_nobody bs fs why (settle_one b f why status) q n.1 ∙ settle_other b f why status zero q (λ (e : 0 ≡ b.op) (t : q ≡ b.k). let x = n.0 in omega arith)

-- A group before the units of a rig that tells its blocks: its ops are shifted alike, and the unit behind it has its addresses, where the shifts lead them.
use Rattle.std.proofs.Common.{◌≡◌, inl, inr, ◌<◌, ◌≤◌, ℕ, zero, suc, ◌+◌, Bool, true, false, eqb, not, List, [], ◌∷◌, ◌++◌, length, Option, refl, sym, ap, subst, ◌∙◌, arith}
use Rattle.std.specs.Prelude.{ℤ, pos, ◌+ℤ◌, nat_abs}
use Rattle.std.proofs.Math.IntN.{+ℤ_assoc, +ℤ_comm}
use Rattle.std.proofs.lemmas.Bool.{or_parts, false_from_ne_true}
use Rattle.std.proofs.lemmas.List.{get_or_past}
use Rattle.bio_core.specs.Bios.{Block}
use Rattle.bio_core.specs.declared.bio.Bio.{Bio}
use Rattle.bio_core.specs.declared.request.Dir.{Dir}
use Rattle.bio_core.specs.declared.request.Io.{Io}
use Rattle.fault_schedule.specs.Altered.{shift_of}
use Rattle.fault_schedule.specs.declared.fault.Crossing.TheVariants.{AdapterToTarget, MediumToTarget, TargetToMedium}
use Rattle.stack_ops.specs.declared.op.Op.{Op}
use Rattle.stack_ops.specs.declared.op.Op.TheVariants.{Fetch, FetchPi, Fill, Overwrite, Put, Seal, Show, Wait, Write, WritePi}
use Rattle.stack_ops.specs.Footprints.{footprint}
use Rattle.stack_laws.specs.Blocks.{blocks, place_of, run_of, times}
use Rattle.rig_api.specs.Target.{has_blocks}
use Rattle.rig_api.specs.declared.units.UnitSpec.{UnitSpec}
use Rattle.stack_walk_laws.proofs.Puts.{InTurn}
use Rattle.dix_adapter.proofs.Asking.{is-pos}
use Rattle.stack_ops.specs.Ops.{first_virt}
use Rattle.stack_walk_laws.specs.Requests.{first_page, page_after, request_of, requests_from}
use Rattle.stack_walk_laws.specs.Sheets.{io_at, no_io, op_in}
use Rattle.stack_walk_laws.specs.Passed.{OpsConflict, is_shifted, fates_of, Setting}
use Rattle.stack_walk_laws.proofs.Passed.{still_is}

-- ---- shifts

-- an op that no line shifts
pub still : (m : Setting) (i : ℕ) → is_shifted m i ≡ false → (shift_of m.site.faults AdapterToTarget i ≡ pos 0) × (shift_of m.site.faults MediumToTarget i ≡ pos 0) × (shift_of m.site.faults TargetToMedium i ≡ pos 0)
still m i h =
    let b = or_parts (not (eqb (nat_abs (shift_of m.site.faults AdapterToTarget i)) 0)) _ h in
    let c = or_parts (not (eqb (nat_abs (shift_of m.site.faults MediumToTarget i)) 0)) (not (eqb (nat_abs (shift_of m.site.faults TargetToMedium i)) 0)) b.1 in
    (still_is (shift_of m.site.faults AdapterToTarget i) b.0, still_is (shift_of m.site.faults MediumToTarget i) c.0, still_is (shift_of m.site.faults TargetToMedium i) c.1)

-- a request that is shifted is alone
request_alone : (op : Op) (shifted : Bool) → 0 < fates_of op → (footprint op shifted).alone ≡ shifted
request_alone (Fill seg byte) shifted h = absurd (omega arith)
request_alone (Put page off bytes) shifted h = absurd (omega arith)
request_alone (Show seg) shifted h = absurd (omega arith)
request_alone (Seal n body tuples app rtag) shifted h = absurd (omega arith)
request_alone (Write v n body app) shifted h = refl
request_alone (Fetch v n body) shifted h = refl
request_alone (WritePi v n body tuples) shifted h = refl
request_alone (FetchPi v n body tuples) shifted h = refl
request_alone (Overwrite dev lba change) shifted h = absurd (omega arith)
request_alone Wait shifted h = absurd (omega arith)

-- Two requests that don't conflict aren't shifted.
pub both_still : (m : Setting) (i j : ℕ) (op other : Op) → 0 < fates_of op → 0 < fates_of other → ¬ OpsConflict m i op j other → (is_shifted m i ≡ false) × (is_shifted m j ≡ false)
both_still m i j op other f g n = (
  false_from_ne_true (is_shifted m i) (λ t. n (inl (request_alone op (is_shifted m i) f ∙ t))),
  false_from_ne_true (is_shifted m j) (λ t. n (inr (inl (request_alone other (is_shifted m j) g ∙ t)))),
)

-- ---- a bio's first block is among those of its group

pub first_block : (b : Bio) (bs : List Bio) → 0 < b.count → 1 ≤ times (place_of b.op) b.k (blocks (b ∷ bs))
first_block b bs h = by b.count h where
  by : (n : ℕ) → 0 < n → 1 ≤ times (place_of b.op) b.k (run_of (place_of b.op) b.k n ++ blocks bs)
  by zero h = absurd (omega arith)
  by (suc n) h = let x : eqb (place_of b.op) (place_of b.op) ≡ true = grind arith in let y : eqb b.k b.k ≡ true = grind arith in rw (x, y) (omega arith)

times_behind : (i k op at n : ℕ) (bs : List Bio) → times i k (blocks bs) ≤ times i k (run_of op at n ++ blocks bs)
times_behind i k op at zero bs = omega arith
times_behind i k op at (suc n) bs = let h = times_behind i k op (suc at) n bs in omega (arith, h)

pub fewer_behind : (i k : ℕ) (b : Bio) (bs : List Bio) → times i k (blocks bs) ≤ times i k (blocks (b ∷ bs))
fewer_behind i k b bs = times_behind i k (place_of b.op) b.k b.count bs

-- ---- the addresses of blocks in turn

-- the address behind one
one_more : (lba at : ℕ) (s : ℤ) → pos lba +ℤ s ≡ pos at → pos (lba + 1) +ℤ s ≡ pos (at + 1)
one_more lba at s e = +ℤ_assoc (pos lba) (pos 1) s ∙ (ap (λ z. pos lba +ℤ z) (+ℤ_comm (pos 1) s) ∙ (sym (+ℤ_assoc (pos lba) s (pos 1)) ∙ ap (λ z. z +ℤ pos 1) e))

join_range : (u : UnitSpec) (lba n : ℕ) (s : ℤ) → has_blocks u (pos lba +ℤ s) 1 ≡ true → has_blocks u (pos (suc lba) +ℤ s) (suc n) ≡ true → has_blocks u (pos lba +ℤ s) (suc (suc n)) ≡ true
join_range u lba n s f g =
    let x = is-pos u (pos lba +ℤ s) 1 f in
    let y = is-pos u (pos (suc lba) +ℤ s) (suc n) g in
    let z : suc lba ≡ lba + 1 = omega arith in
    let next : pos (suc lba) +ℤ s ≡ pos (x.0 + 1) = ap (λ l. pos l +ℤ s) z ∙ one_more lba x.0 s x.1.0 in
    let same : y.0 ≡ x.0 + 1 = ap nat_abs (sym y.1.0 ∙ next) in
    let a = x.1.1.0 in
    let b = y.1.1.1 in
    ap (λ p. has_blocks u p (suc (suc n))) x.1.0 ∙ within x.0 (omega (arith, a)) (omega (arith, b, same))
  where
    within : (at : ℕ) → u.first ≤ at → at + suc (suc n) ≤ u.first + u.blocks → has_blocks u (pos at) (suc (suc n)) ≡ true
    within at h k = grind (arith, h, k)

-- each of these blocks is in the unit, where its op's shift leads it
abbrev pub EachIn : UnitSpec → ℤ → List Block → Type 0
EachIn u s [] = Unit {0}
EachIn u s (b ∷ bs) = (has_blocks u (pos b.lba +ℤ s) 1 ≡ true) × EachIn u s bs

pub range_in : (u : UnitSpec) (s : ℤ) (dir : Dir) (dev lba : ℕ) (bs : List Block) → 0 < length bs → InTurn dir dev lba bs → EachIn u s bs → has_blocks u (pos lba +ℤ s) (length bs) ≡ true
range_in u s dir dev lba [] h t e = absurd (omega arith)
range_in u s dir dev lba (b ∷ []) h t e = subst (λ l. has_blocks u (pos l +ℤ s) 1 ≡ true) t.0.1.1 e.0
range_in u s dir dev lba (b ∷ (c ∷ bs)) h t e = join_range u lba (length bs) s (subst (λ l. has_blocks u (pos l +ℤ s) 1 ≡ true) t.0.1.1 e.0) (range_in u s dir dev (suc lba) (c ∷ bs) (omega arith) t.1 e.1)

-- ---- the requests of ops

virt_of : (op : Op) (page : Option ℕ) → (request_of op page).first ≡ first_virt op
virt_of (Fill seg byte) page = refl
virt_of (Put page off bytes) p = refl
virt_of (Show seg) page = refl
virt_of (Seal n body tuples app rtag) page = refl
virt_of (Write v n body app) page = refl
virt_of (Fetch v n body) page = refl
virt_of (WritePi v n body tuples) page = refl
virt_of (FetchPi v n body tuples) page = refl
virt_of (Overwrite dev lba change) page = refl
virt_of Wait page = refl

pub count_of : (op : Op) (page : Option ℕ) → (request_of op page).count ≡ fates_of op
count_of (Fill seg byte) page = refl
count_of (Put page off bytes) p = refl
count_of (Show seg) page = refl
count_of (Seal n body tuples app rtag) page = refl
count_of (Write v n body app) page = refl
count_of (Fetch v n body) page = refl
count_of (WritePi v n body tuples) page = refl
count_of (FetchPi v n body tuples) page = refl
count_of (Overwrite dev lba change) page = refl
count_of Wait page = refl

pub io_first : (dix : Bool) (page : ℕ) (ops : List Op) (i : ℕ) → (io_at (requests_from dix page ops) i).first ≡ first_virt (op_in ops i)
io_first dix page [] i = ap (λ (io : Io). io.first) (get_or_past [] i no_io (omega arith)) ∙ sym (ap first_virt (get_or_past [] i Wait (omega arith)))
io_first dix page (op ∷ ops) zero = virt_of op (first_page dix page)
io_first dix page (op ∷ ops) (suc i) = io_first dix (page_after dix page op) ops i

pub io_count : (dix : Bool) (page : ℕ) (ops : List Op) (i : ℕ) → (io_at (requests_from dix page ops) i).count ≡ fates_of (op_in ops i)
io_count dix page [] i = ap (λ (io : Io). io.count) (get_or_past [] i no_io (omega arith)) ∙ sym (ap fates_of (get_or_past [] i Wait (omega arith)))
io_count dix page (op ∷ ops) zero = count_of op (first_page dix page)
io_count dix page (op ∷ ops) (suc i) = io_count dix (page_after dix page op) ops i

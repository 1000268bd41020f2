-- The blocks of a group of the view: where they lie, and that no two are one.
use Rattle.std.proofs.Common.{◌≡◌, ◌<◌, ◌≤◌, ℕ, zero, suc, ◌+◌, ◌-◌, true, false, ◌&&◌, eqb, List, [], ◌∷◌, ◌++◌, length, map, refl, sym, ap, subst, ◌∙◌, arith, ⊎_elim}
use Rattle.std.specs.List.{All}
use Rattle.std.proofs.lemmas.Bool.{cases_Bool, eq-eqb}
use Rattle.std.proofs.lemmas.List.Elements.{All-head, All-tail}
use Rattle.volume_table.specs.Places.{place_in}
use Rattle.bio_core.specs.Bios.{Block, blocks_from}
use Rattle.bio_core.specs.declared.bio.Bio.{Bio}
use Rattle.bio_core.specs.declared.fate.Fate.{Fate}
use Rattle.bio_core.specs.declared.fate.Fate.TheVariants.{Good, Bad, Untouched}
use Rattle.bio_core.specs.declared.request.Io.{Io}
use Rattle.dix_adapter.specs.Groups.{blocks_in}
use Rattle.stack_ops.specs.declared.op.Op.{Op}
use Rattle.stack_laws.specs.Blocks.{is_block, is_settled, place_of, times}
use Rattle.stack_laws.specs.Formed.{Named}
use Rattle.stack_laws.specs.Plan.{Plan, request_at}
use Rattle.stack_walk_laws.specs.Passed.{Setting, block_of, route}
use Rattle.stack_walk_laws.specs.Sending.{IsElsewhere}
use Rattle.stack_walk_laws.specs.Slots.{Carried, Status}
use Rattle.stack_walk_laws.specs.Statuses.{fate_at, id_of, sent_as}
use Rattle.stack_walk_laws.specs.Moved.{why_of}
use Rattle.stack_walk_laws.specs.Settling.{AreFates}
use Rattle.stack_walk_laws.specs.Sheets.{io_at}
use Rattle.stack_walk_laws.proofs.Chained.{one_place}
use Rattle.stack_walk_laws.proofs.Facts.{place-is, there as there_is}
use Rattle.stack_core.proofs.FollowsComplete.{AllOf, NotAt, at}

-- the plan's requests and places are the stack's and the script's
pub record Places (m : Setting) (p : Plan) (ops : List Op) (ios : List Io) : Type 0 where
  pub many : length ops ≡ length ios
  pub first : (i : ℕ) → (request_at p i).first ≡ (io_at ios i).first
  pub count : (i : ℕ) → (request_at p i).count ≡ (io_at ios i).count
  pub dir : (i : ℕ) → (request_at p i).dir ≡ (io_at ios i).dir
  pub dev : (v : ℕ) → (p.place v).dev ≡ (place_in m.entries v).0
  pub lba : (v : ℕ) → (p.place v).lba ≡ (place_in m.entries v).1

-- a block of a request, where it lies
pub record Lies (m : Setting) (ios : List Io) (b : Block) : Type 0 where
  pub numbered : 1 ≤ b.op
  pub there : b.op ≤ length ios
  pub within : b.k < (io_at ios (b.op - 1)).count
  pub dev : (route m (block_of b.op (io_at ios (b.op - 1)).first b.k)).dev ≡ b.dev
  pub lba : (route m (block_of b.op (io_at ios (b.op - 1)).first b.k)).lba ≡ b.lba
  pub dir : b.dir ≡ (io_at ios (b.op - 1)).dir

abbrev pub AllLie : Setting → List Io → List Block → Type 0
AllLie m ios [] = Unit {0}
AllLie m ios (b ∷ bs) = Lies m ios b × AllLie m ios bs

module _ (m : Setting) (p : Plan) (ops : List Op) (ios : List Io) (pl : Places m p ops ios) where
  from_lie : (d : ℕ) (b : Bio) (nm : Named p d b) (t c : ℕ) (bs : List Block) → t + c ≤ b.count → AllLie m ios bs → AllLie m ios (blocks_from b.op (b.k + t) b.dev (b.lba + t) b.dir c ++ bs)
  from_lie d b nm t zero bs h r = r
  from_lie d b nm t (suc c) bs h r =
      let i = b.op - 1 in
      let o = nm.numbered in
      let z : place_of b.op ≡ i = place-is b.op o in
      let w = nm.within in
      let cnt : (request_at p (place_of b.op)).count ≡ (io_at ios i).count = ap (λ x. (request_at p x).count) z ∙ pl.count i in
      let fst : (request_at p (place_of b.op)).first ≡ (io_at ios i).first = ap (λ x. (request_at p x).first) z ∙ pl.first i in
      let l = there_is ios i (omega arith) in
      let v : (request_at p (place_of b.op)).first + (b.k + t) ≡ (io_at ios i).first + (b.k + t) = ap (λ x. x + (b.k + t)) fst in
      let dv : (place_in m.entries ((io_at ios i).first + (b.k + t))).0 ≡ d = sym (pl.dev ((io_at ios i).first + (b.k + t))) ∙ (ap (λ x. (p.place x).dev) (sym v) ∙ nm.dev t (omega arith)) in
      let lb : (place_in m.entries ((io_at ios i).first + (b.k + t))).1 ≡ b.lba + t = sym (pl.lba ((io_at ios i).first + (b.k + t))) ∙ (ap (λ x. (p.place x).lba) (sym v) ∙ nm.lba t (omega arith)) in
      let k1 : b.k + suc t ≡ suc (b.k + t) = omega arith in
      let k2 : b.lba + suc t ≡ suc (b.lba + t) = omega arith in
      let more = from_lie d b nm (suc t) c bs (omega arith) r in (
        record { numbered = o; there = omega arith; within = omega arith; dev = dv ∙ sym nm.on; lba = lb; dir = nm.way ∙ (ap (λ x. (request_at p x).dir) z ∙ pl.dir i) },
        subst (λ x. AllLie m ios (blocks_from b.op x b.dev (suc (b.lba + t)) b.dir c ++ bs)) k1 (subst (λ x. AllLie m ios (blocks_from b.op (b.k + suc t) b.dev x b.dir c ++ bs)) k2 more),
      )

  pub all_lie : (d : ℕ) (bios : List Bio) → All (Named p d) bios → AllLie m ios (blocks_in bios)
  all_lie d [] h = tt
  all_lie d (b ∷ bios) h =
      let a : b.k + 0 ≡ b.k = omega arith in
      let c : b.lba + 0 ≡ b.lba = omega arith in
      let r = from_lie d b (All-head (Named p d) b bios h) 0 b.count (blocks_in bios) (omega arith) (all_lie d bios (All-tail (Named p d) b bios h)) in
      subst (λ x. AllLie m ios (blocks_from b.op x b.dev b.lba b.dir b.count ++ blocks_in bios)) a (subst (λ x. AllLie m ios (blocks_from b.op (b.k + 0) b.dev x b.dir b.count ++ blocks_in bios)) c r)

-- ---- no two are one

abbrev pub AllApart : List Block → Type 0
AllApart [] = Unit {0}
AllApart (b ∷ bs) = IsElsewhere b bs × AllApart bs

pub is_this : (b : Block) → is_block (place_of b.op) b.k (id_of b) ≡ 1
is_this b = let x : eqb (place_of b.op) (place_of b.op) ≡ true = eq-eqb (place_of b.op) (place_of b.op) refl in let y : eqb b.k b.k ≡ true = eq-eqb b.k b.k refl in rw (x, y) refl

elsewhere_of : (b : Block) (bs : List Block) → times (place_of b.op) b.k (map id_of bs) ≡ 0 → IsElsewhere b bs
elsewhere_of b [] h = tt
elsewhere_of b (c ∷ bs) h = (
  (λ (e : c.op ≡ b.op) (f : c.k ≡ b.k). let t : is_block (place_of b.op) b.k (id_of c) ≡ 1 = ap (λ x. is_block (place_of x) b.k (id_of c)) (sym e) ∙ (ap (λ x. is_block (place_of c.op) x (id_of c)) (sym f) ∙ is_this c) in omega arith),
  elsewhere_of b bs (omega arith),
)

pub apart_of : (bs : List Block) → ((a q : ℕ) → times a q (map id_of bs) ≤ 1) → AllApart bs
apart_of [] h = tt
apart_of (b ∷ bs) h = let t = is_this b in let u = h (place_of b.op) b.k in (elsewhere_of b bs (omega arith), apart_of bs (λ a q. (let x = h a q in omega arith)))

-- ---- what became of each

abbrev pub AllSent : List Block → List Fate → (ℕ → ℕ → Status) → Type 0
AllSent [] fs status = Unit {0}
AllSent (b ∷ bs) [] status = Unit {0}
AllSent (b ∷ bs) (f ∷ fs) status = (status b.op b.k ≡ sent_as f) × AllSent bs fs status

pub all_sent : (m : Setting) (ios : List Io) (bs : List Block) (fs : List Fate) (status : ℕ → ℕ → Status) → AllLie m ios bs → ((a q : ℕ) → times a q (map id_of bs) ≤ 1) → ((a q : ℕ) → 1 ≤ times a q (map id_of bs) → status (suc a) q ≡ sent_as (fate_at a q (map id_of bs) fs)) → AllSent bs fs status
all_sent m ios [] fs status l o h = tt
all_sent m ios (b ∷ bs) [] status l o h = tt
all_sent m ios (b ∷ bs) (f ∷ fs) status l o h =
    let t = is_this b in
    let n = l.0.numbered in
    let z = place-is b.op n in
    let e : suc (place_of b.op) ≡ b.op = omega arith in
    let x : eqb (place_of b.op) (place_of b.op) ≡ true = eq-eqb (place_of b.op) (place_of b.op) refl in
    let y : eqb b.k b.k ≡ true = eq-eqb b.k b.k refl in
    let here = h (place_of b.op) b.k (omega arith) in
    let first : fate_at (place_of b.op) b.k (map id_of (b ∷ bs)) (f ∷ fs) ≡ f = rw (x, y) refl in (
      ap (λ i. status i b.k) (sym e) ∙ (here ∙ ap sent_as first),
      all_sent m ios bs fs status l.1 (λ a q. (let u = o a q in omega arith))
          (λ a q g. (let u = o a q in
          ⊎_elim
          (λ (v : (eqb (place_of b.op) a && eqb b.k q) ≡ true). let w : is_block a q (id_of b) ≡ 1 = rw v refl in absurd (omega arith))
          (λ (v : (eqb (place_of b.op) a && eqb b.k q) ≡ false). let s : fate_at a q (map id_of (b ∷ bs)) (f ∷ fs) ≡ fate_at a q (map id_of bs) fs = rw v refl in h a q (omega arith) ∙ ap sent_as s)
          (cases_Bool (eqb (place_of b.op) a && eqb b.k q)))),
    )

carried_as : (f : Fate) → is_settled f ≡ true → sent_as f ≡ Carried (why_of f)
carried_as Good e = refl
carried_as (Bad why) e = refl
carried_as Untouched e = cc

-- ---- together

not_at : (m : Setting) (ios : List Io) (starts : List ℕ) (held : List Fate) (b : Block) (bs : List Block) → AreFates ios starts held → Lies m ios b → AllLie m ios bs → IsElsewhere b bs → NotAt starts (at starts b) bs
not_at m ios starts held b [] k x l e = tt
not_at m ios starts held b (c ∷ bs) k x l e =
    let n = x.numbered in
    let u = l.0.numbered in
    let y = x.there in
    let z = l.0.there in (
      (λ (g : at starts c ≡ at starts b). let o = one_place ios starts held (c.op - 1) c.k (b.op - 1) b.k k (omega arith) (omega arith) l.0.within x.within g in e.0 (let q = o.0 in omega arith) o.1),
      not_at m ios starts held b bs k x l.1 e.1,
    )

pub all_of : (m : Setting) (p : Plan) (ops : List Op) (ios : List Io) (starts : List ℕ) (held : List Fate) (bs : List Block) (fs : List Fate) (status : ℕ → ℕ → Status) → Places m p ops ios → AreFates ios starts held → AllLie m ios bs → AllApart bs → AllSent bs fs status → AllOf m ops ios starts status bs fs
all_of m p ops ios starts held [] fs status pl k l a s = tt
all_of m p ops ios starts held (b ∷ bs) [] status pl k l a s = tt
all_of m p ops ios starts held (b ∷ bs) (f ∷ fs) status pl k l a s =
    let n = pl.many in
    let t = l.0.there in (
      (l.0.numbered, (omega arith, (l.0.there, (l.0.within, l.0.lba)))),
      ((λ e. s.0 ∙ carried_as f e), (a.0, (not_at m ios starts held b bs k l.0 l.1 a.0, all_of m p ops ios starts held bs fs status pl k l.1 a.1 s.1))),
    )

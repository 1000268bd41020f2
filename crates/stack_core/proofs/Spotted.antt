-- The moves of a script's block, by the stack's request.
use Rattle.std.proofs.Common.{◌≡◌, ◌<◌, ◌≤◌, ℕ, zero, suc, ◌+◌, ◌*◌, Bool, true, false, List, [], ◌∷◌, ◌++◌, length, take, refl, sym, ap, subst, ◌∙◌, arith, append-nil, append_assoc}
use Rattle.page_pool.specs.Places.{total}
use Rattle.bio_core.specs.declared.request.Io.{Io}
use Rattle.bio_core.specs.Bios.{block_size}
use Rattle.bio_core.proofs.Sizes.{blocks_fit}
use Rattle.dix_adapter.specs.Groups.{data_cells}
use Rattle.dix_adapter.specs.Walking.{HasHost}
use Rattle.stack_ops.specs.declared.op.Op.{Op}
use Rattle.stack_ops.specs.declared.op.Op.TheVariants.{Fetch, FetchPi, Fill, Overwrite, Put, Seal, Show, Wait, Write, WritePi}
use Rattle.stack_laws.specs.Plan.{Plan}
use Rattle.block_path.specs.declared.route.Route.{Route}
use Rattle.block_path.specs.Acts.{Act}
use Rattle.block_path.specs.Blocks.{ActAnswer}
use Rattle.block_path.specs.Moves.{in_turn}
use Rattle.stack_walk_laws.specs.Passed.{fates, rooms, fates_of, own_at, room_of, Setting, block_of, route}
use Rattle.stack_walk_laws.specs.Gate.{parts_at}
use Rattle.stack_walk_laws.specs.Pieces.{all_cut, all_made}
use Rattle.stack_walk_laws.specs.Slots.{StepParts, parts_of}
use Rattle.stack_walk_laws.specs.Ground.{Ground, IsPlanOf}
use Rattle.stack_walk_laws.specs.Spots.{spot_at, spots_from, step_in}
use Rattle.stack_walk_laws.proofs.Spots.{spot_place, steps_count}
use Rattle.stack_walk_laws.specs.Requests.{first_page, own_blocks, page_after, pages_for, request_of, requests_from}
use Rattle.stack_walk_laws.specs.Sheets.{io_at, op_in}
use Rattle.stack_walk_laws.specs.Settling.{AreAllWhole}
use Rattle.stack_walk_laws.proofs.BlockParts.{ArePartsOf, cut_of, made_of, parts_are}
use Rattle.stack_core.proofs.AtUnits.{io_count}

-- ---- moves of blocks in turn

abbrev pub turns : (ℕ → List (Act ActAnswer)) → (k n : ℕ) → List (Act ActAnswer)
turns f k zero = []
turns f k (suc n) = f k ++ turns f (suc k) n

pub turns_none : (f : ℕ → List (Act ActAnswer)) (k n : ℕ) → ((j : ℕ) → f j ≡ []) → turns f k n ≡ []
turns_none f k zero h = refl
turns_none f k (suc n) h = ap (λ x. x ++ turns f (suc k) n) (h k) ∙ turns_none f (suc k) n h

turns_last : (f : ℕ → List (Act ActAnswer)) (k n : ℕ) → turns f k (suc n) ≡ turns f k n ++ f (k + n)
turns_last f k zero = let z : k + 0 ≡ k = omega arith in append-nil (f k) ∙ ap f (sym z)
turns_last f k (suc n) =
    let z : suc k + n ≡ k + suc n = omega arith in
    ap (λ x. f k ++ x) (turns_last f (suc k) n) ∙ (sym (append_assoc (f k) (turns f (suc k) n) (f (suc k + n))) ∙ ap (λ x. (f k ++ turns f (suc k) n) ++ f x) z)

-- one move each, from block k on
pub turns_one : (f : ℕ → Act ActAnswer) (g : ℕ → Act ActAnswer) (k n : ℕ) → ((j : ℕ) → j < n → f (k + j) ≡ g j) → turns (λ j. f j ∷ []) k n ≡ in_turn g n
turns_one f g k zero h = refl
turns_one f g k (suc n) h = turns_last (λ j. f j ∷ []) k n ∙ (ap (λ x. x ++ (f (k + n) ∷ [])) (turns_one f g k n (λ j l. h j (omega arith))) ∙ ap (λ x. in_turn g n ++ (x ∷ [])) (h n (omega arith)))

-- ---- the pages of a request's own tuples

after_true : (m : Setting) (page : ℕ) (op : Op) → m.mode.dix ≡ true → 4096 * (page + pages_for (own_blocks op)) ≡ 4096 * page + room_of m op
after_true m page (Fill seg byte) e = omega arith
after_true m page (Put p off bytes) e = omega arith
after_true m page (Show seg) e = omega arith
after_true m page (Seal n body tuples app rtag) e = omega arith
after_true m page (Write v n body app) e = rw e (omega arith)
after_true m page (Fetch v n body) e = rw e (omega arith)
after_true m page (WritePi v n body tuples) e = omega arith
after_true m page (FetchPi v n body tuples) e = omega arith
after_true m page (Overwrite dev lba change) e = omega arith
after_true m page Wait e = omega arith

after_false : (m : Setting) (op : Op) → m.mode.dix ≡ false → room_of m op ≡ 0
after_false m (Fill seg byte) e = refl
after_false m (Put p off bytes) e = refl
after_false m (Show seg) e = refl
after_false m (Seal n body tuples app rtag) e = refl
after_false m (Write v n body app) e = rw e refl
after_false m (Fetch v n body) e = rw e refl
after_false m (WritePi v n body tuples) e = refl
after_false m (FetchPi v n body tuples) e = refl
after_false m (Overwrite dev lba change) e = refl
after_false m Wait e = refl

pub after_is : (m : Setting) (dix : Bool) (page : ℕ) (op : Op) → m.mode.dix ≡ dix → 4096 * page_after dix page op ≡ 4096 * page + room_of m op
after_is m true page op e = after_true m page op e
after_is m false page op e = let z = after_false m op e in omega arith

pub record Laid (m : Setting) (dix : Bool) (page : ℕ) (ops : List Op) (i : ℕ) : Type 0 where
  pub at : ℕ
  pub is : io_at (requests_from dix page ops) i ≡ request_of (op_in ops i) (first_page dix at)
  pub own : 4096 * at ≡ 4096 * page + rooms m (take i ops)

pub laid_at : (m : Setting) (dix : Bool) (page : ℕ) (ops : List Op) (i : ℕ) → m.mode.dix ≡ dix → i < length ops → Laid m dix page ops i
laid_at m dix page [] i e h = absurd (omega arith)
laid_at m dix page (op ∷ ops) zero e h = record { at = page; is = refl; own = omega arith }
laid_at m dix page (op ∷ ops) (suc i) e h =
    let l = laid_at m dix (page_after dix page op) ops i e (omega arith) in
    let o = l.own in
    let a = after_is m dix page op e in
    record { at = l.at; is = l.is; own = omega arith }

-- ---- a block

-- what a stack and its script are to each other
pub record Stands (m : Setting) (n logs : ℕ) (p : Plan) (ops : List Op) (ios : List Io) (pool : List (List ℕ)) : Type 0 where
  pub ground : Ground m n logs ops
  pub plan : IsPlanOf p m ops
  pub pages : ℕ
  pub bytes : n ≡ 4096 * pages
  pub requests : ios ≡ requests_from m.mode.dix pages ops
  pub size : (i : ℕ) → 0 < (io_at ios i).count → block_size (io_at ios i) ≡ m.size
  pub host : (i : ℕ) → 0 < (io_at ios i).count → HasHost m.mode.dix (io_at ios i).pi
  pub whole : AreAllWhole pool ios

module _ (m : Setting) (n logs : ℕ) (p : Plan) (ops : List Op) (ios : List Io) (pool : List (List ℕ)) (g : Stands m n logs p ops ios pool) (i : ℕ) (l : i < length ops) where
  abbrev io : Io
  io = io_at ios i

  abbrev route_at : ℕ → Route
  route_at k = route m (block_of (suc i) io.first k)

  pub count_is : io.count ≡ fates_of (op_in ops i)
  count_is = ap (λ x. (io_at x i).count) g.requests ∙ io_count m.mode.dix g.pages ops i

  pub parts_there : (k : ℕ) → k < io.count → parts_at m n (spot_at m ops i k) ≡ parts_of m (own_at (n + rooms m (take i ops)) k) (fates (take i ops) + k) (step_in m ops i k)
  parts_there k h =
      let c = count_is in
      let s = steps_count m (suc i) (op_in ops i) (omega arith) in
      let e = spot_place m ops i k (omega arith) in
      ap (λ x. parts_of m (own_at (n + rooms m (take i ops)) x) (fates (take i ops) + x) (step_in m ops i k)) e

  fits : (k : ℕ) → k < io.count → k * m.size + m.size ≤ total io.body
  fits k h = let s = g.size i (omega arith) in let e : 1 * block_size io ≡ block_size io = omega arith in let f = blocks_fit k 1 io.count (total io.body) (block_size io) (omega arith) refl in subst (λ x. k * x + x ≤ total io.body) s (omega arith)

  pub block_is : (k : ℕ) → k < io.count → ArePartsOf m (own_at (n + rooms m (take i ops)) k) (fates (take i ops) + k) (step_in m ops i k) (route_at k) io k
  block_is k h =
      let laid = laid_at m m.mode.dix g.pages ops i refl l in
      let same : io ≡ request_of (op_in ops i) (first_page m.mode.dix laid.at) = ap (λ x. io_at x i) g.requests ∙ laid.is in
      let at : 4096 * laid.at ≡ n + rooms m (take i ops) = (let o = laid.own in let b = g.bytes in omega arith) in
      let size = g.size i (omega arith) in
      let host = g.host i (omega arith) in
      let fit = fits k h in
      let there = parts_are m i k (fates (take i ops) + k) laid.at m.mode.dix (op_in ops i) refl (subst (λ (x : Io). k < x.count) same h) (subst (λ (x : Io). block_size x ≡ m.size) same size) (subst (λ (x : Io). k * m.size + m.size ≤ total x.body) same fit)
      (subst (λ (x : Io). HasHost m.mode.dix x.pi) same host) in
      subst (λ (x : Io). ArePartsOf m (own_at (n + rooms m (take i ops)) k) (fates (take i ops) + k) (step_in m ops i k) (route m (block_of (suc i) x.first k)) x k) (sym same)
      (subst (λ x. ArePartsOf m (own_at x k) (fates (take i ops) + k) (step_in m ops i k) (route m (block_of (suc i) (request_of (op_in ops i) (first_page m.mode.dix laid.at)).first k)) (request_of (op_in ops i) (first_page m.mode.dix laid.at)) k) at there)

  -- ---- some blocks

  made_at : (k : ℕ) → k < io.count → (parts_at m n (spot_at m ops i k)).made ≡ made_of io.dir io.pi (route_at k) (data_cells io k) k
  made_at k h = ap (λ (x : StepParts). x.made) (parts_there k h) ∙ (block_is k h).made

  cut_at : (k : ℕ) → k < io.count → (parts_at m n (spot_at m ops i k)).cut ≡ cut_of io.dir io.pi (route_at k) k
  cut_at k h = ap (λ (x : StepParts). x.cut) (parts_there k h) ∙ (block_is k h).cut

  pub all_made_are : (k c : ℕ) → k + c ≤ io.count → all_made m n (spots_from m ops i k c) ≡ turns (λ j. made_of io.dir io.pi (route_at j) (data_cells io j) j) k c
  all_made_are k zero h = refl
  all_made_are k (suc c) h = ap (λ x. x ++ all_made m n (spots_from m ops i (suc k) c)) (made_at k (omega arith)) ∙ ap (λ x. made_of io.dir io.pi (route_at k) (data_cells io k) k ++ x) (all_made_are (suc k) c (omega arith))

  pub all_cut_are : (k c : ℕ) → k + c ≤ io.count → all_cut m n (spots_from m ops i k c) ≡ turns (λ j. cut_of io.dir io.pi (route_at j) j) k c
  all_cut_are k zero h = refl
  all_cut_are k (suc c) h = ap (λ x. x ++ all_cut m n (spots_from m ops i (suc k) c)) (cut_at k (omega arith)) ∙ ap (λ x. cut_of io.dir io.pi (route_at k) k ++ x) (all_cut_are (suc k) c (omega arith))

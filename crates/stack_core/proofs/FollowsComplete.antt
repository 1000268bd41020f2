-- A command is completed: the stack follows on.
use Rattle.std.proofs.Common.{◌≡◌, ◌⊎◌, inl, inr, ◌<◌, ◌≤◌, ℕ, suc, ◌+◌, ◌-◌, Bool, true, false, List, [], ◌∷◌, ◌++◌, length, get_or, Option, Some, None, refl, sym, ap, subst, ◌∙◌, arith}
use Rattle.std.specs.Prelude.{if◌then◌else◌}
use Rattle.std.proofs.lemmas.Bool.{false≢true}
use Rattle.std.proofs.lemmas.List.{get_or-set_other, get_or-set_same, length-set}
use Rattle.page_pool.specs.Cells.{flat}
use Rattle.page_pool.specs.Pages.{AreWhole}
use Rattle.bio_core.specs.Bios.{Block}
use Rattle.bio_core.specs.declared.fate.Fate.{Fate}
use Rattle.bio_core.specs.declared.fate.Fate.TheVariants.{Good, Bad, Untouched}
use Rattle.bio_core.specs.declared.fate.Why.{Why}
use Rattle.bio_core.specs.declared.request.Dir.{Dir}
use Rattle.bio_core.specs.declared.request.Dir.TheVariants.{Read, Write as WriteDir}
use Rattle.bio_core.specs.declared.request.Io.{Io}
use Rattle.stack_ops.specs.declared.op.Op.{Op}
use Rattle.stack_laws.specs.Blocks.{is_settled, place_of}
use Rattle.stack_laws.specs.Plan.{Plan}
use Rattle.block_path.specs.Acts.{State}
use Rattle.block_path.specs.Blocks.{Sent}
use Rattle.block_path.specs.Routes.{host_type}
use Rattle.stack_walk_laws.specs.Passed.{fates, OpsConflict, Setting, block_of, route, Alters, Reads, Seals, Sets, Shows, Step, Writes, WritesPi}
use Rattle.stack_walk_laws.specs.Gate.{AreOver, is_over}
use Rattle.stack_walk_laws.specs.Sending.{Carriage, IsElsewhere, carriage_of, with_status}
use Rattle.stack_walk_laws.specs.Slots.{Carried, Settled as NowSettled, Status}
use Rattle.stack_walk_laws.proofs.Sends.{over_stays, with_other}
use Rattle.stack_walk_laws.specs.Spots.{IsRead, op_in, step_in, steps_in}
use Rattle.stack_walk_laws.specs.Statuses.{with_settled}
use Rattle.stack_walk_laws.proofs.Spots.{Lets, may_move}
use Rattle.dix_adapter.specs.Groups.{data_cells, tuple_cells}
use Rattle.stack_core.specs.Courses.{Course, FollowsBy}
use Rattle.stack_walk_laws.specs.Moved.{why_of}
use Rattle.stack_walk_laws.specs.Settled.{IsSettled, KeptFates, OneSettled}
use Rattle.stack_walk_laws.specs.Settling.{AreFates}
use Rattle.stack_walk_laws.specs.Sheets.{io_at}
use Rattle.stack_core.specs.Walking.{why_in}
use Rattle.stack_walk_laws.proofs.Chained.{Each, keeps_settled}
use Rattle.stack_core.proofs.Courses.{found_by}
use Rattle.stack_walk_laws.proofs.Facts.{place-is}
use Rattle.stack_core.proofs.FollowsBlock.{IsOn, block_settled}
use Rattle.stack_core.proofs.Spotted.{Stands, block_is, count_is}
use Rattle.stack_walk_laws.proofs.Wholes.{all_stay}

-- ---- a read's block is a read of the script

abbrev is_read : Dir → Bool
is_read Read = true
is_read WriteDir = false

abbrev is_in : Option Carriage → Bool
is_in None = false
is_in (Some c) = is_read c.dir

read_step : (m : Setting) (own : List ℕ) (step : Step) → is_in (carriage_of m own step) ≡ true → IsRead step
read_step m own (Sets at values) e = absurd (false≢true e)
read_step m own (Shows at) e = absurd (false≢true e)
read_step m own (Seals body tuple app rtag) e = absurd (false≢true e)
read_step m own (Writes b app body) e = absurd (false≢true e)
read_step m own (WritesPi b frame) e = absurd (false≢true e)
read_step m own (Reads b owner to) e = tt
read_step m own (Alters dev lba change) e = absurd (false≢true e)

abbrev is_touched : Fate → Bool
is_touched Good = true
is_touched (Bad why) = true
is_touched Untouched = false

good_touched : Good ≡ Untouched → ⊥
good_touched e = false≢true (sym (ap is_touched e))

bad_touched : (why : Why) → Bad why ≡ Untouched → ⊥
bad_touched why e = false≢true (sym (ap is_touched e))

-- ---- the blocks of a command

-- where what became of a block is kept
abbrev pub at : (starts : List ℕ) → Block → ℕ
at starts b = get_or starts (b.op - 1) 0 + b.k

abbrev pub NotAt : (starts : List ℕ) → ℕ → List Block → Type 0
NotAt starts x [] = Unit {0}
NotAt starts x (b ∷ bs) = (at starts b ≡ x → ⊥) × NotAt starts x bs

-- Each names a block of a request of the script, where it lies; no two are one, and each that is touched is carried.
abbrev pub AllOf : Setting → List Op → List Io → (starts : List ℕ) → (ℕ → ℕ → Status) → List Block → List Fate → Type 0
AllOf m ops ios starts status [] fs = Unit {0}
AllOf m ops ios starts status (b ∷ bs) [] = Unit {0}
AllOf m ops ios starts status (b ∷ bs) (f ∷ fs) =
    ((1 ≤ b.op) × ((b.op ≤ length ops) × ((b.op ≤ length ios) × ((b.k < (io_at ios (b.op - 1)).count) × ((route m (block_of b.op (io_at ios (b.op - 1)).first b.k)).lba ≡ b.lba)))))
    × ((is_settled f ≡ true → status b.op b.k ≡ Carried (why_of f)) × (IsElsewhere b bs × (NotAt starts (at starts b) bs × AllOf m ops ios starts status bs fs)))

-- another block is settled
of_on : (m : Setting) (ops : List Op) (ios : List Io) (starts : List ℕ) (status : ℕ → ℕ → Status) (b : Block) (next : Status) (bs : List Block) (fs : List Fate) → IsElsewhere b bs → AllOf m ops ios starts status bs fs → AllOf m ops ios starts (with_status b.op b.k next status) bs fs
of_on m ops ios starts status b next [] fs e h = tt
of_on m ops ios starts status b next (c ∷ bs) [] e h = tt
of_on m ops ios starts status b next (c ∷ bs) (f ∷ fs) e h = (h.0, ((λ t. with_other b.op b.k c.op c.k next status e.0 ∙ h.1.0 t), (h.1.1.0, (h.1.1.1.0, of_on m ops ios starts status b next bs fs e.1 h.1.1.1.1))))

stands_on : (m : Setting) (n logs : ℕ) (p : Plan) (ops : List Op) (ios : List Io) (old new : List (List ℕ)) → length new ≡ length old → Stands m n logs p ops ios old → Stands m n logs p ops ios new
stands_on m n logs p ops ios old new e g = record { ground = g.ground; plan = g.plan; pages = g.pages; bytes = g.bytes; requests = g.requests; size = g.size; host = g.host; whole = all_stay old new ios e g.whole }

lets_on : (m : Setting) (ops : List Op) (old new : ℕ → ℕ → Status) (i : ℕ) → ((j q : ℕ) → is_over (old j q) ≡ true → new j q ≡ old j q) → Lets m old ops i → Lets m new ops i
lets_on m ops old new i e h j l = by (h j l)
  where
    by : (AreOver 0 (steps_in m ops j) (old (suc j)) ⊎ (OpsConflict m (suc j) (op_in ops j) (suc i) (op_in ops i) → ⊥)) → AreOver 0 (steps_in m ops j) (new (suc j)) ⊎ (OpsConflict m (suc j) (op_in ops j) (suc i) (op_in ops i) → ⊥)
    by (inl o) = inl (over_stays 0 (steps_in m ops j) (old (suc j)) (new (suc j)) (e (suc j)) o)
    by (inr x) = inr x

module _ (course : Course) (m : Setting) (n : ℕ) (opening : State) (es : List Sent) (p : Plan) (ops : List Op) (ios : List Io) (starts : List ℕ) (found : fates ops ≤ length opening.fates) where
  pub each_keeps : (x : ℕ) (bs : List Block) (fs : List Fate) (old new : KeptFates) → NotAt starts x bs → Each m.mode (host_type m.ty) ios starts bs fs old new → get_or new.held x Untouched ≡ get_or old.held x Untouched
  each_keeps x [] fs old new a h = ap (λ (k : KeptFates). get_or k.held x Untouched) h
  each_keeps x (b ∷ bs) [] old new a h = absurd h
  each_keeps x (b ∷ bs) (f ∷ fs) old new a h = each_keeps x bs fs h.0 new a.1 h.1.1 ∙ by f h.1.0
    where
      by : (f : Fate) → OneSettled m.mode (host_type m.ty) (io_at ios (b.op - 1)) (get_or starts (b.op - 1) 0) b.k b.lba f old h.0 → get_or (h.0).held x Untouched ≡ get_or old.held x Untouched
      by Good s = ap (λ l. get_or l x Untouched) s.held ∙ get_or-set_other old.held (at starts b) x s.result Untouched (λ (e : x ≡ at starts b). a.0 (sym e))
      by (Bad why) s = ap (λ l. get_or l x Untouched) s.held ∙ get_or-set_other old.held (at starts b) x s.result Untouched (λ (e : x ≡ at starts b). a.0 (sym e))
      by Untouched s = ap (λ (k : KeptFates). get_or k.held x Untouched) s

  pub each_whole : (bs : List Block) (fs : List Fate) (old new : KeptFates) → Each m.mode (host_type m.ty) ios starts bs fs old new → AreWhole old.pages → AreWhole new.pages
  each_whole [] fs old new h w = subst (λ (k : KeptFates). AreWhole k.pages) (sym h) w
  each_whole (b ∷ bs) [] old new h w = absurd h
  each_whole (b ∷ bs) (f ∷ fs) old new h w = each_whole bs fs h.0 new h.1.1 (by f h.1.0)
    where
      by : (f : Fate) → OneSettled m.mode (host_type m.ty) (io_at ios (b.op - 1)) (get_or starts (b.op - 1) 0) b.k b.lba f old h.0 → AreWhole (h.0).pages
      by Good s = (keeps_settled (io_at ios (b.op - 1)).dir m.mode (host_type m.ty) (io_at ios (b.op - 1)) b.k b.lba Good old.pages (h.0).pages s.result s.settled).whole w
      by (Bad why) s = (keeps_settled (io_at ios (b.op - 1)).dir m.mode (host_type m.ty) (io_at ios (b.op - 1)) b.k b.lba (Bad why) old.pages (h.0).pages s.result s.settled).whole w
      by Untouched s = subst (λ (k : KeptFates). AreWhole k.pages) (sym s) w

  -- one block more is settled
  one_more : (b : Block) (f : Fate) (bs : List Block) (fs : List Fate) (status : ℕ → ℕ → Status) (old mid : KeptFates) (now : State) →
      is_settled f ≡ true → (f ≡ Untouched → ⊥) → AreFates ios starts old.held → AllOf m ops ios starts status (b ∷ bs) (f ∷ fs) → Lets m status ops (b.op - 1) → Stands m n (length opening.logs) p ops ios old.pages → AreWhole old.pages → now.bytes ≡ flat old.pages → FollowsBy course m n ops opening status now es →
      (s : IsSettled m.mode (host_type m.ty) (io_at ios (b.op - 1)) (get_or starts (b.op - 1) 0) b.k b.lba f old mid) → IsOn course m n ops opening es (with_status b.op b.k (NowSettled (why_of s.result)) status) mid.pages now.blocks
  one_more b f bs fs status old mid now t u kept h lets g w same follows s =
      let i = b.op - 1 in
      let l = h.0.1.0 in
      let li = h.0.1.1.0 in
      let o = h.0.0 in
      let e : suc i ≡ b.op = omega arith in
      let io = io_at ios i in
      let c = count_is m n (length opening.logs) p ops ios old.pages g i (omega arith) in
      let inside = h.0.1.1.1.0 in
      let may = may_move m n (length opening.logs) ops g.ground status i b.k (omega arith) (omega arith) lets in
      let was : status (suc i) b.k ≡ Carried (why_of f) = ap (λ x. status x b.k) e ∙ h.1.0 t in
      let place : (route m (block_of (suc i) io.first b.k)).lba ≡ b.lba = h.0.1.1.1.1 in
      let carriage = (block_is m n (length opening.logs) p ops ios old.pages g i (omega arith) b.k inside).carriage in
      let cell = λ (r : io.dir ≡ Read). found_by course m n ops opening now status es i b.k (why_of f) follows found (omega arith) (omega arith)
      (read_step m _ (step_in m ops i b.k) (ap is_in carriage ∙ ap (λ d. is_in (Some (record { route = route m (block_of (suc i) io.first b.k); dir = d; frame = data_cells io b.k ++ tuple_cells io.pi b.k }))) r)) was in
      let one = block_settled course m n opening es p ops ios old.pages g w now same status follows i b.k (omega arith) (omega arith) inside may b.lba f mid.pages s.result u place cell was s.settled in
      subst (λ x. IsOn course m n ops opening es (with_status x b.k (NowSettled (why_of s.result)) status) mid.pages now.blocks) e one

  abbrev pub AllLets : (ℕ → ℕ → Status) → List Block → Type 0
  AllLets status [] = Unit {0}
  AllLets status (b ∷ bs) = Lets m status ops (b.op - 1) × AllLets status bs

  all_lets_on : (old new : ℕ → ℕ → Status) (bs : List Block) → ((j q : ℕ) → is_over (old j q) ≡ true → new j q ≡ old j q) → AllLets old bs → AllLets new bs
  all_lets_on old new [] e h = tt
  all_lets_on old new (b ∷ bs) e h = (lets_on m ops old new (b.op - 1) e h.0, all_lets_on old new bs e h.1)

  -- one that was carried changes none that is over
  stays_over : (b : Block) (w : Option Why) (next : Status) (status : ℕ → ℕ → Status) → status b.op b.k ≡ Carried w → (j q : ℕ) → is_over (status j q) ≡ true → with_status b.op b.k next status j q ≡ status j q
  stays_over b w next status e j q o = with_other b.op b.k j q next status (λ (x : j ≡ b.op) (y : q ≡ b.k). let z : true ≡ false = sym o ∙ (ap is_over (ap (λ t. status t q) x ∙ ap (status b.op) y) ∙ ap is_over e) in cc)

  -- from these pages and fates on, the rest of a command's blocks lead to those
  abbrev pub GoesOnWith : List Block → List Fate → (mid new : KeptFates) → Type 0
  GoesOnWith bs fs mid new =
      (status : ℕ → ℕ → Status) (now : State) → AreFates ios starts mid.held → AllOf m ops ios starts status bs fs → AllLets status bs → Stands m n (length opening.logs) p ops ios mid.pages →
      AreWhole mid.pages → now.bytes ≡ flat mid.pages → FollowsBy course m n ops opening status now es → IsOn course m n ops opening es (with_settled bs fs (why_in starts new.held) status) new.pages now.blocks

  -- all blocks of a command, one after another
  pub all_settled : (bs : List Block) (fs : List Fate) (status : ℕ → ℕ → Status) (old new : KeptFates) (now : State) → AreFates ios starts old.held → AllOf m ops ios starts status bs fs → AllLets status bs → Stands m n (length opening.logs) p ops ios old.pages → AreWhole old.pages → now.bytes ≡ flat old.pages → FollowsBy course m n ops opening status now es →
      Each m.mode (host_type m.ty) ios starts bs fs old new → IsOn course m n ops opening es (with_settled bs fs (why_in starts new.held) status) new.pages now.blocks
  all_settled [] fs status old new now kept a lets g w same follows h = record { after = now; bytes = same ∙ ap (λ (k : KeptFates). flat k.pages) (sym h); same_blocks = refl; follows = follows }
  all_settled (b ∷ bs) [] status old new now kept a lets g w same follows h = absurd h
  all_settled (b ∷ bs) (f ∷ fs) status old new now kept a lets g w same follows h =
      by f refl h.1.0 (λ status' now' kept' a' lets' g' w' same' follows'. all_settled bs fs status' h.0 new now' kept' a' lets' g' w' same' follows' h.1.1)
    where
      touched : (f' : Fate) → f ≡ f' → is_settled f' ≡ true → (f' ≡ Untouched → ⊥) →
          IsSettled m.mode (host_type m.ty) (io_at ios (b.op - 1)) (get_or starts (b.op - 1) 0) b.k b.lba f' old (h.0) →
          GoesOnWith bs fs (h.0) new →
          IsOn course m n ops opening es (with_settled (b ∷ bs) (f' ∷ fs) (why_in starts new.held) status) new.pages now.blocks
      touched f' e t u s more =
          let a' = subst (λ x. AllOf m ops ios starts status (b ∷ bs) (x ∷ fs)) e a in
          let one = one_more b f' bs fs status old (h.0) now t u kept a' lets.0 g w same follows s in
          let next = with_status b.op b.k (NowSettled (why_of s.result)) status in
          let pages = keeps_settled (io_at ios (b.op - 1)).dir m.mode (host_type m.ty) (io_at ios (b.op - 1)) b.k b.lba f' old.pages (h.0).pages s.result s.settled in
          let stay = stays_over b (why_of f') (NowSettled (why_of s.result)) status (a'.1.0 t) in
          let x = a.0.1.1.0 in
          let y = a.0.0 in
          let long : length (h.0).held ≡ length old.held = ap length s.held ∙ length-set old.held (at starts b) s.result in
          let kept' : AreFates ios starts (h.0).held = record { count = kept.count; all = long ∙ kept.all; begin = kept.begin; within = λ i l. (let r = kept.within i l in omega arith); few = (let r = kept.few in omega arith) } in
          let inside = kept.within (b.op - 1) (omega arith) in
          let there = a.0.1.1.1.0 in
          let held : get_or new.held (at starts b) Untouched ≡ s.result = each_keeps (at starts b) bs fs (h.0) new a.1.1.1.0 h.1.1 ∙ (ap (λ l. get_or l (at starts b) Untouched) s.held ∙ get_or-set_same old.held (at starts b) s.result Untouched (omega arith)) in
          let same_why : why_in starts new.held (place_of b.op) b.k ≡ why_of s.result = (let z = place-is b.op y in ap (λ i. why_of (get_or new.held (get_or starts i 0 + b.k) Untouched)) z ∙ ap why_of held) in
          let rest = more next one.after kept' (of_on m ops ios starts status b (NowSettled (why_of s.result)) bs fs a.1.1.0 a.1.1.1.1) (all_lets_on status next bs stay lets.1) (stands_on m n (length opening.logs) p ops ios old.pages (h.0).pages pages.pages g) (pages.whole w) one.bytes one.follows in
          let st : with_settled (b ∷ bs) (f' ∷ fs) (why_in starts new.held) status ≡ with_settled bs fs (why_in starts new.held) next =
          ap (λ (c : Bool). with_settled bs fs (why_in starts new.held) (if c then with_status b.op b.k (NowSettled (why_in starts new.held (place_of b.op) b.k)) status else status)) t
          ∙ ap (λ x. with_settled bs fs (why_in starts new.held) (with_status b.op b.k (NowSettled x) status)) same_why in
          record { after = rest.after; bytes = rest.bytes; same_blocks = rest.same_blocks ∙ one.same_blocks; follows = subst (λ x. FollowsBy course m n ops opening x rest.after es) (sym st) rest.follows }

      by : (f' : Fate) → f ≡ f' →
          OneSettled m.mode (host_type m.ty) (io_at ios (b.op - 1)) (get_or starts (b.op - 1) 0) b.k b.lba f' old (h.0) →
          GoesOnWith bs fs (h.0) new →
          IsOn course m n ops opening es (with_settled (b ∷ bs) (f' ∷ fs) (why_in starts new.held) status) new.pages now.blocks
      by Good e s more = touched Good e refl (λ (x : Good ≡ Untouched). good_touched x) s more
      by (Bad x) e s more = touched (Bad x) e refl (λ (y : Bad x ≡ Untouched). bad_touched x y) s more
      by Untouched e s more =
          more status now (subst (λ (k : KeptFates). AreFates ios starts k.held) (sym s) kept) a.1.1.1.1 lets.1 (subst (λ (k : KeptFates). Stands m n (length opening.logs) p ops ios k.pages) (sym s) g) (subst (λ (k : KeptFates). AreWhole k.pages) (sym s) w)
          (same ∙ ap (λ (k : KeptFates). flat k.pages) (sym s)) follows

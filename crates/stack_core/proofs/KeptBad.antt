-- Bad blocks of a command are kept when it is completed, and those that are kept stay so.
use Rattle.std.proofs.Common.{◌≡◌, ◌⊎◌, inl, inr, ◌<◌, ◌≤◌, ℕ, zero, suc, ◌+◌, ◌-◌, Bool, true, false, List, [], ◌∷◌, ◌++◌, length, map, get_or, set, refl, sym, ap, subst, ◌∙◌, ⊎_elim, arith}
use Rattle.std.specs.Prelude.{if◌then◌else◌}
use Rattle.std.specs.List.{All}
use Rattle.std.proofs.lemmas.Bool.{cases_Bool, cases_lt, false≢true}
use Rattle.std.proofs.lemmas.List.{get_or-set_other, get_or-set_same, get_or_past, length-set}
use Rattle.std.proofs.lemmas.List.Elements.{All-head, All-tail}
use Rattle.pi_tuple.specs.declared.checks.PiType.{PiType}
use Rattle.bio_core.specs.Bios.{Block, blocks_from}
use Rattle.bio_core.specs.declared.bio.Bio.{Bio}
use Rattle.bio_core.specs.declared.fate.Fate.{Fate}
use Rattle.bio_core.specs.declared.fate.Fate.TheVariants.{Good, Bad, Untouched}
use Rattle.bio_core.specs.declared.fate.Why.{Why}
use Rattle.bio_core.specs.declared.request.Dir.{Dir}
use Rattle.bio_core.specs.declared.request.Dir.TheVariants.{Read, Write as WriteDir}
use Rattle.bio_core.specs.declared.request.Io.{Io}
use Rattle.integrity_payload.specs.declared.payload.Payload.{Payload}
use Rattle.std.specs.Prelude.{Option, Some, None}
use Rattle.block_path.specs.declared.mode.Mode.{Mode}
use Rattle.dix_adapter.specs.Carried.{any_fails}
use Rattle.dix_adapter.specs.Groups.{blocks_in}
use Rattle.merge_queue.proofs.Lists.{total-one}
use Rattle.stack_laws.specs.Blocks.{BlockId, blocks, is_block, is_settled, place_of, settled_of, times}
use Rattle.stack_laws.specs.Plan.{Plan, request_at}
use Rattle.stack_laws.specs.Sound.{Sound, is_marked}
use Rattle.stack_laws.specs.Steps.{settle}
use Rattle.stack_laws.specs.View.{Command, OpView, View, command_at, no_command, no_op, op_at}
use Rattle.stack_laws.proofs.Counts.{times-head}
use Rattle.stack_laws.proofs.Enabled.{due-one}
use Rattle.stack_laws.proofs.Keeps.{command-there, settle-room}
use Rattle.stack_laws.proofs.Ops.{marks-settle, this-block}
use Rattle.stack_walk_laws.specs.Statuses.{id_of}
use Rattle.stack_walk_laws.proofs.Groups.{ids_are}
use Rattle.stack_core.specs.OnRecord.{AreTraced, IsKeptBad, IsTraced}
use Rattle.stack_walk_laws.specs.Settled.{Judged, KeptFates, OneSettled, Settled}
use Rattle.stack_walk_laws.specs.Settling.{AreFates, IsOf}
use Rattle.stack_walk_laws.specs.Sheets.{io_at}
use Rattle.stack_walk_laws.proofs.Chained.{Each, one_place}
use Rattle.stack_walk_laws.proofs.Facts.{place-is}
use Rattle.stack_walk_laws.proofs.WalksStanding.{marked as marked_is}

-- ---- where blocks are kept

abbrev at : List ℕ → Block → ℕ
at starts b = get_or starts (b.op - 1) 0 + b.k

-- none of these blocks is kept there
abbrev Misses : List ℕ → ℕ → List Block → Type 0
Misses starts x [] = Unit {0}
Misses starts x (b ∷ bs) = (at starts b ≡ x → ⊥) × Misses starts x bs

record IsIn (ios : List Io) (b : Block) : Type 0 where
  pub numbered : 1 ≤ b.op
  pub there : b.op ≤ length ios
  pub within : b.k < (io_at ios (b.op - 1)).count

abbrev AllIn : List Io → List Block → Type 0
AllIn ios [] = Unit {0}
AllIn ios (b ∷ bs) = IsIn ios b × AllIn ios bs

from_in : (ios : List Io) (op k dev lba : ℕ) (dir : Dir) (n : ℕ) (bs : List Block) → 1 ≤ op → op ≤ length ios → k + n ≤ (io_at ios (op - 1)).count → AllIn ios bs → AllIn ios (blocks_from op k dev lba dir n ++ bs)
from_in ios op k dev lba dir zero bs a b c r = r
from_in ios op k dev lba dir (suc n) bs a b c r = (record { numbered = a; there = b; within = omega arith }, from_in ios op (suc k) dev (suc lba) dir n bs a b (omega arith) r)

all_in : (ios : List Io) (bs : List Bio) → All (IsOf ios) bs → AllIn ios (blocks_in bs)
all_in ios [] h = tt
all_in ios (b ∷ bs) h = let x = All-head (IsOf ios) b bs h in from_in ios b.op b.k b.dev b.lba b.dir b.count (blocks_in bs) x.numbered x.there x.within (all_in ios bs (All-tail (IsOf ios) b bs h))

same_times : (op k : ℕ) (b : Block) (bs : List Block) → op ≡ place_of b.op → k ≡ b.k → 1 ≤ times op k (map id_of (b ∷ bs))
same_times op k b bs x y = subst (λ i. 1 ≤ times i k (map id_of (b ∷ bs))) (sym x) (subst (λ i. 1 ≤ times (place_of b.op) i (map id_of (b ∷ bs))) (sym y) (times-head (id_of b) (map id_of bs)))

-- blocks none of which is this one are kept elsewhere
misses : (ios : List Io) (starts : List ℕ) (held : List Fate) (a q : ℕ) (bs : List Block) → AreFates ios starts held → a < length ios → q < (io_at ios a).count → AllIn ios bs → times a q (map id_of bs) ≡ 0 → Misses starts (get_or starts a 0 + q) bs
misses ios starts held a q [] f l w h z = tt
misses ios starts held a q (b ∷ bs) f l w h z = (
  (λ (e : at starts b ≡ get_or starts a 0 + q).
      let x = h.0 in
      let n = x.numbered in
      let t = x.there in
      let p = place-is b.op n in
      let r = one_place ios starts held (b.op - 1) b.k a q f (omega arith) l x.within w e in
      let y = same_times a q b bs (sym (p ∙ r.0)) (sym r.1) in
      omega arith),
  misses ios starts held a q bs f l w h.1 (omega arith),
)

-- ---- one command

judged_bad : (o : Option Payload) (mode : Mode) (ty : PiType) (io : Io) (k lba : ℕ) (why : Why) (old new : List (List ℕ)) (result : Fate) → Judged o (Bad why) mode ty io k lba old new result → result ≡ Bad why
judged_bad None mode ty io k lba why old new result h = h.1
judged_bad (Some pi) mode ty io k lba why old new result h = h.1

-- a bad block stays bad
stays_bad : (dir : Dir) (mode : Mode) (ty : PiType) (io : Io) (k lba : ℕ) (why : Why) (old new : List (List ℕ)) (result : Fate) → Settled dir mode ty io k lba (Bad why) old new result → result ≡ Bad why
stays_bad Read mode ty io k lba why old new result h = judged_bad io.pi mode ty io k lba why old h.between result h.judged
stays_bad WriteDir mode ty io k lba why old new result h = h.1

-- a bad block of a command
record Found (starts : List ℕ) (bs : List BlockId) (fs held : List Fate) : Type 0 where
  pub op : ℕ
  pub k : ℕ
  pub why : Why
  pub there : 1 ≤ times op k (settled_of bs fs)
  pub is_bad : get_or held (get_or starts op 0 + k) Untouched ≡ Bad why

more_found : (starts : List ℕ) (b : BlockId) (bs : List BlockId) (f : Fate) (fs held : List Fate) → Found starts bs fs held → Found starts (b ∷ bs) (f ∷ fs) held
more_found starts b bs f fs held r = record { op = r.op; k = r.k; why = r.why; there = lift (is_settled f) refl; is_bad = r.is_bad }
  where
    lift : (c : Bool) → is_settled f ≡ c → 1 ≤ times r.op r.k (settled_of (b ∷ bs) (f ∷ fs))
    lift true e = let h = r.there in rw e (omega arith)
    lift false e = rw e r.there

module _ (mode : Mode) (ty : PiType) (ios : List Io) (starts : List ℕ) where
  aside : (x : ℕ) (bs : List Block) (fs : List Fate) (old new : KeptFates) → Misses starts x bs → Each mode ty ios starts bs fs old new → get_or new.held x Untouched ≡ get_or old.held x Untouched
  aside x [] fs old new a h = ap (λ (k : KeptFates). get_or k.held x Untouched) h
  aside x (b ∷ bs) [] old new a h = absurd h
  aside x (b ∷ bs) (f ∷ fs) old new a h = aside x bs fs h.0 new a.1 h.1.1 ∙ by f h.1.0
    where
      by : (f : Fate) → OneSettled mode ty (io_at ios (b.op - 1)) (get_or starts (b.op - 1) 0) b.k b.lba f old h.0 → get_or (h.0).held x Untouched ≡ get_or old.held x Untouched
      by Good s = ap (λ l. get_or l x Untouched) s.held ∙ get_or-set_other old.held (at starts b) x s.result Untouched (λ (e : x ≡ at starts b). a.0 (sym e))
      by (Bad why) s = ap (λ l. get_or l x Untouched) s.held ∙ get_or-set_other old.held (at starts b) x s.result Untouched (λ (e : x ≡ at starts b). a.0 (sym e))
      by Untouched s = ap (λ (k : KeptFates). get_or k.held x Untouched) s

  one_long : (b : Block) (f : Fate) (old mid : KeptFates) → OneSettled mode ty (io_at ios (b.op - 1)) (get_or starts (b.op - 1) 0) b.k b.lba f old mid → length mid.held ≡ length old.held
  one_long b Good old mid s = ap length s.held ∙ length-set old.held (at starts b) s.result
  one_long b (Bad why) old mid s = ap length s.held ∙ length-set old.held (at starts b) s.result
  one_long b Untouched old mid s = ap (λ (k : KeptFates). length k.held) s

  kept_long : (old mid : List Fate) → length mid ≡ length old → AreFates ios starts old → AreFates ios starts mid
  kept_long old mid e f = record { count = f.count; all = e ∙ f.all; begin = f.begin; within = λ i l. (let r = f.within i l in omega arith); few = (let r = f.few in omega arith) }

  -- of a command with a bad block one is kept
  found : (bs : List Block) (fs : List Fate) (old new : KeptFates) → length fs ≡ length bs → AreFates ios starts old.held → AllIn ios bs → ((a q : ℕ) → times a q (map id_of bs) ≤ 1) → Each mode ty ios starts bs fs old new → any_fails fs ≡ true → Found starts (map id_of bs) fs new.held
  found [] [] old new l k i once h e = absurd (false≢true e)
  found [] (f ∷ fs) old new l k i once h e = absurd (omega arith)
  found (b ∷ bs) [] old new l k i once h e = absurd h
  found (b ∷ bs) (f ∷ fs) old new l k i once h e =
      by f h.1.0 e (λ e'. found bs fs h.0 new (omega arith) (kept_long old.held (h.0).held (one_long b f old h.0 h.1.0) k) i.1 (λ a q. (let x = once a q in omega arith)) h.1.1 e')
    where
      by : (f' : Fate) → OneSettled mode ty (io_at ios (b.op - 1)) (get_or starts (b.op - 1) 0) b.k b.lba f' old h.0 → any_fails (f' ∷ fs) ≡ true → (any_fails fs ≡ true → Found starts (map id_of bs) fs new.held) → Found starts (map id_of (b ∷ bs)) (f' ∷ fs) new.held
      by Good s e' tail = more_found starts (id_of b) (map id_of bs) Good fs new.held (tail e')
      by Untouched s e' tail = more_found starts (id_of b) (map id_of bs) Untouched fs new.held (tail e')
      by (Bad why) s e' tail =
          let n = (i.0).numbered in
          let t = (i.0).there in
          let p = place-is b.op n in
          let one = once (place_of b.op) b.k in
          let this : is_block (place_of b.op) b.k (id_of b) ≡ 1 = this-block (place_of b.op) b.k (id_of b) refl refl in
          let none : times (place_of b.op) b.k (map id_of bs) ≡ 0 = omega arith in
          let lo : place_of b.op < length ios = omega arith in
          let w : b.k < (io_at ios (place_of b.op)).count = subst (λ x. b.k < (io_at ios x).count) (sym p) (i.0).within in
          let m = misses ios starts old.held (place_of b.op) b.k bs k lo w i.1 none in
          let inside = k.within (place_of b.op) lo in
          let same : get_or starts (b.op - 1) 0 ≡ get_or starts (place_of b.op) 0 = ap (λ x. get_or starts x 0) (sym p) in
          let is : s.result ≡ Bad why = stays_bad (io_at ios (b.op - 1)).dir mode ty (io_at ios (b.op - 1)) b.k b.lba why old.pages (h.0).pages s.result s.settled in
          record {
            op = place_of b.op;
            k = b.k;
            why = why;
            there = times-head (id_of b) (settled_of (map id_of bs) fs);
            is_bad = aside (get_or starts (place_of b.op) 0 + b.k) bs fs h.0 new m h.1.1
                ∙ (ap (λ l. get_or l (get_or starts (place_of b.op) 0 + b.k) Untouched) s.held
                ∙ (ap (λ x. get_or (set old.held (x + b.k) s.result) (get_or starts (place_of b.op) 0 + b.k) Untouched) same
                ∙ (get_or-set_same old.held (get_or starts (place_of b.op) 0 + b.k) s.result Untouched (omega arith) ∙ is)));
          }

-- ---- the view

is_settled_by : (o : OpView) (k : ℕ) → 1 ≤ is_marked o k → get_or o.settled k false ≡ true
is_settled_by o k h =
    ⊎_elim
    (λ (e : get_or o.settled k false ≡ true). e)
    (λ (e : get_or o.settled k false ≡ false). let z : is_marked o k ≡ 0 = rw e refl in absurd (omega arith))
    (cases_Bool (get_or o.settled k false))

-- a block of a command in flight is in it once, and isn't settled
in_one : (p : Plan) (v : View) (j : ℕ) → Sound p v → (command_at v j).completed ≡ false → (a q : ℕ) → times a q (blocks (command_at v j).bios) + is_marked (op_at v a) q ≤ 1
in_one p v j s live a q =
    let z = s.one_place a q in
    let d = due-one (request_at p a) (op_at v a) q in
    let t = total-one (λ (c : Command). if c.completed then 0 else times a q (blocks c.bios)) v.commands j no_command (command-there v j live) in
    let e : (if (command_at v j).completed then 0 else times a q (blocks (command_at v j).bios)) ≡ times a q (blocks (command_at v j).bios) = rw live refl in
    omega arith

module _ (mode : Mode) (ty : PiType) (ios : List Io) (starts : List ℕ) (p : Plan) (v : View) (s : Sound p v) (counts : (i : ℕ) → (request_at p i).count ≡ (io_at ios i).count) (j : ℕ) (live : (command_at v j).completed ≡ false)
    (of : All (IsOf ios) (command_at v j).bios) (old new : KeptFates) (kept : AreFates ios starts old.held) (each : length (command_at v j).fates ≡ length (blocks_in (command_at v j).bios))
    (chain : Each mode ty ios starts (blocks_in (command_at v j).bios) (command_at v j).fates old new) where
  abbrev cmd : Command
  cmd = command_at v j

  abbrev bs : List Block
  bs = blocks_in cmd.bios

  abbrev ops' : List OpView
  ops' = settle (settled_of (blocks cmd.bios) cmd.fates) v.ops

  ids : map id_of bs ≡ blocks cmd.bios
  ids = ids_are cmd.bios

  marks : (a q : ℕ) → is_marked (get_or ops' a no_op) q ≡ is_marked (op_at v a) q + times a q (settled_of (blocks cmd.bios) cmd.fates)
  marks a q = marks-settle (settled_of (blocks cmd.bios) cmd.fates) v.ops (settle-room p v j s live) a q

  -- what was kept is kept
  goes_on : IsKeptBad v.ops starts old.held → IsKeptBad ops' starts new.held
  goes_on b =
      let m = marks b.op b.k in
      let one = marked_is (op_at v b.op) b.k b.settled in
      let in_list : b.k < length (op_at v b.op).settled = ⊎_elim (λ (x : b.k < length (op_at v b.op).settled). x) (λ (x : length (op_at v b.op).settled ≤ b.k). let y = get_or_past (op_at v b.op).settled b.k false x in absurd (false≢true (sym y ∙ b.settled))) (cases_lt b.k (length (op_at v b.op).settled)) in
      let l = s.lengths b.op in
      let c = counts b.op in
      let o = in_one p v j s live b.op b.k in
      let none : times b.op b.k (map id_of bs) ≡ 0 = rw ids (omega arith) in
      let lo = there_is ios b.op (omega arith) in
      record {
        op = b.op;
        k = b.k;
        why = b.why;
        settled = is_settled_by (get_or ops' b.op no_op) b.k (omega arith);
        is_bad = aside mode ty ios starts (get_or starts b.op 0 + b.k) bs cmd.fates old new (misses ios starts old.held b.op b.k bs kept lo (omega arith) (all_in ios cmd.bios of) none) chain ∙ b.is_bad;
      }
    where
      there_is : (ios : List Io) (i : ℕ) → 0 < (io_at ios i).count → i < length ios
      there_is [] i h = absurd (omega arith)
      there_is (io ∷ ios) zero h = omega arith
      there_is (io ∷ ios) (suc i) h = let e = there_is ios i h in omega arith

  -- and a bad block of the command is
  is_kept : any_fails cmd.fates ≡ true → IsKeptBad ops' starts new.held
  is_kept e =
      let r : Found starts (map id_of bs) cmd.fates new.held = found mode ty ios starts bs cmd.fates old new each kept (all_in ios cmd.bios of) (λ a q. (let o = in_one p v j s live a q in rw ids (omega arith))) chain e in
      let m = marks r.op r.k in
      let t : 1 ≤ times r.op r.k (settled_of (blocks cmd.bios) cmd.fates) = subst (λ x. 1 ≤ times r.op r.k (settled_of x cmd.fates)) ids r.there in
      record { op = r.op; k = r.k; why = r.why; settled = is_settled_by (get_or ops' r.op no_op) r.k (omega arith); is_bad = r.is_bad }

  one_traced : (c : Command) → IsTraced v.ops starts old.held c → IsTraced ops' starts new.held c
  one_traced c t = record { good = t.good; bad = λ e. by (t.bad e) }
    where
      by : ((c.completed ≡ false) ⊎ IsKeptBad v.ops starts old.held) → (c.completed ≡ false) ⊎ IsKeptBad ops' starts new.held
      by (inl x) = inl x
      by (inr x) = inr (goes_on x)

  rest_traced : (cs : List Command) → AreTraced v.ops starts old.held cs → AreTraced ops' starts new.held cs
  rest_traced [] t = tt
  rest_traced (c ∷ cs) t = (one_traced c t.0, rest_traced cs t.1)

  set_traced : (cs : List Command) (i : ℕ) → get_or cs i no_command ≡ cmd → AreTraced v.ops starts old.held cs → AreTraced ops' starts new.held (set cs i (record cmd { completed = true }))
  set_traced [] i e t = tt
  set_traced (c ∷ cs) zero e t = (record { good = (subst (λ (x : Command). IsTraced v.ops starts old.held x) e t.0).good; bad = λ x. inr (is_kept x) }, rest_traced cs t.1)
  set_traced (c ∷ cs) (suc i) e t = (one_traced c t.0, set_traced cs i e t.1)

  pub completed_traced : AreTraced v.ops starts old.held v.commands → AreTraced ops' starts new.held (set v.commands j (record cmd { completed = true }))
  completed_traced t = set_traced v.commands j refl t

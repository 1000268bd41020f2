-- Statuses after a command is completed.
use Rattle.std.proofs.Common.{◌≡◌, ◌⊎◌, ℕ, zero, suc, ◌+◌, ◌<◌, ◌≤◌, Bool, true, false, ◌&&◌, eqb, List, [], ◌∷◌, get_or, set, Option, refl, sym, ap, subst, ◌∙◌, arith, ⊎_elim}
use Rattle.std.specs.Prelude.{if◌then◌else◌, nat_le, nat_lt}
use Rattle.std.proofs.lemmas.Bool.{cases_Bool, cases_lt}
use Rattle.bio_core.specs.declared.fate.Fate.{Fate}
use Rattle.bio_core.specs.declared.fate.Fate.TheVariants.{Good, Bad, Untouched}
use Rattle.bio_core.specs.declared.fate.Why.{Why}
use Rattle.dix_adapter.specs.Groups.{blocks_in}
use Rattle.range_gate.specs.Gates.{is_waiting}
use Rattle.range_gate.specs.declared.phase.Phase.{Phase}
use Rattle.stack_laws.proofs.Passed.{total-one}
use Rattle.stack_laws.specs.Blocks.{BlockId, blocks, is_block, is_settled, settled_of, times}
use Rattle.stack_laws.specs.Plan.{Plan, request_at}
use Rattle.stack_laws.specs.Sound.{Sound, is_marked}
use Rattle.stack_laws.specs.Steps.{settle}
use Rattle.stack_laws.specs.View.{Command, OpView, View, command_at, no_command, no_op, op_at}
use Rattle.stack_laws.proofs.Keeps.{command-there, settle-room}
use Rattle.stack_laws.proofs.Ops.{grows-settle, marks-settle}
use Rattle.stack_walk_laws.specs.Slots.{Admitted, Done, Settled, Status, Waits}
use Rattle.stack_walk_laws.specs.Statuses.{after_all, fate_at, fate_in, sent_as, standing, status_in, with_settled}
use Rattle.stack_walk_laws.proofs.Fates.{done_with, fate_none, in_same, in_this, times_in}
use Rattle.stack_walk_laws.proofs.Groups.{AllNumbered, ids_are, settled_given, settled_nobody}
use Rattle.stack_walk_laws.proofs.WalksStanding.{IsOut, flying, is_sent, is_settled as stands_settled, marked, unmarked}

-- a block among those that are settled, by its fate
abbrev one_if : Fate → ℕ
one_if f = if is_settled f then 1 else 0

settled_none : (i k : ℕ) (bs : List BlockId) (fs : List Fate) → times i k bs ≡ 0 → times i k (settled_of bs fs) ≡ 0
settled_none i k [] fs h = refl
settled_none i k (b ∷ bs) [] h = refl
settled_none i k (b ∷ bs) (f ∷ fs) h =
    let e = settled_none i k bs fs (omega arith) in
    ⊎_elim (λ (z : is_settled f ≡ true). rw z (omega arith)) (λ (z : is_settled f ≡ false). rw z e) (cases_Bool (is_settled f))

settled_times : (i k : ℕ) (bs : List BlockId) (fs : List Fate) → times i k bs ≤ 1 → times i k (settled_of bs fs) ≡ one_if (fate_at i k bs fs)
settled_times i k [] fs h = refl
settled_times i k (b ∷ bs) [] h = refl
settled_times i k (b ∷ bs) (f ∷ fs) h =
    ⊎_elim
    (λ (e : (eqb b.op i && eqb b.k k) ≡ true).
    let w : is_block i k b ≡ 1 = rw e refl in
    let n = settled_none i k bs fs (omega arith) in
    rw e (⊎_elim (λ (z : is_settled f ≡ true). rw z (omega arith)) (λ (z : is_settled f ≡ false). rw z n) (cases_Bool (is_settled f))))
    (λ (e : (eqb b.op i && eqb b.k k) ≡ false).
    let w : is_block i k b ≡ 0 = rw e refl in
    let n = settled_times i k bs fs (omega arith) in
    rw e (⊎_elim (λ (z : is_settled f ≡ true). rw z (omega arith)) (λ (z : is_settled f ≡ false). rw z n) (cases_Bool (is_settled f))))
    (cases_Bool (eqb b.op i && eqb b.k k))

-- what of an op's view a block's status depends on
stands_alike : (count : ℕ) (o o' : OpView) (shown : List ℕ) (why why' : Option Why) (f : Fate) (k : ℕ) → o'.phase ≡ o.phase → o'.cut ≡ o.cut → get_or o'.settled k false ≡ get_or o.settled k false → (get_or o.settled k false ≡ true → why' ≡ why) →
    standing count o' shown why' f k ≡ standing count o shown why f k
stands_alike count o o' shown why why' f k a b c d =
    ap (λ (x : Phase). form x o'.cut (get_or o'.settled k false) why') a
    ∙ (ap (λ (x : ℕ). form o.phase x (get_or o'.settled k false) why') b
    ∙ (ap (λ (x : Bool). form o.phase o.cut x why') c
    ∙ ⊎_elim
    (λ (e : get_or o.settled k false ≡ true). ap (form o.phase o.cut (get_or o.settled k false)) (d e))
    (λ (e : get_or o.settled k false ≡ false). rw e refl)
    (cases_Bool (get_or o.settled k false))))
  where
    form : Phase → ℕ → Bool → Option Why → Status
    form phase cut s w = if is_waiting phase then Waits else if eqb count 0 then Done shown else if nat_lt k count then (if s then Settled w else if nat_le cut k then Admitted else sent_as f) else Waits

settled_then : (f : Fate) (why : Option Why) (old : Status) → is_settled f ≡ true → after_all f why old ≡ Settled why
settled_then Good why old e = refl
settled_then (Bad x) why old e = refl
settled_then Untouched why old e = cc

untouched_then : (f : Fate) → is_settled f ≡ false → f ≡ Untouched
untouched_then Good e = cc
untouched_then (Bad x) e = cc
untouched_then Untouched e = refl

module _ (p : Plan) (v : View) (s : Sound p v) (shown : ℕ → ℕ → List ℕ) (why new : ℕ → ℕ → Option Why) (kept : (a q : ℕ) → get_or (op_at v a).settled q false ≡ true → new a q ≡ why a q)
    (j : ℕ) (live : (command_at v j).completed ≡ false) (n : AllNumbered (blocks_in (command_at v j).bios)) (w : View)
    (o : w.ops ≡ settle (settled_of (blocks (command_at v j).bios) (command_at v j).fates) v.ops) (c : w.commands ≡ set v.commands j (done_with (command_at v j))) where
  abbrev cmd : Command
  cmd = command_at v j

  abbrev bs : List BlockId
  bs = blocks cmd.bios

  abbrev at : (a q : ℕ) → OpView → Option Why → Fate → Status
  at a q x y f = standing (request_at p a).count x (shown a q) y f q

  -- the op as it is now
  abbrev now : ℕ → OpView
  now a = get_or (settle (settled_of bs cmd.fates) v.ops) a no_op

  is_now : (a : ℕ) → op_at w a ≡ now a
  is_now a = ap (λ (x : List OpView). get_or x a no_op) o

  fates_now : (a q : ℕ) → fate_in a q w.commands ≡ fate_in a q (set v.commands j (done_with cmd))
  fates_now a q = ap (fate_in a q) c

  here_times : (a q : ℕ) → times_in a q cmd ≡ times a q bs
  here_times a q = rw live refl

  marks : (a q : ℕ) → is_marked (now a) q ≡ is_marked (op_at v a) q + times a q (settled_of bs cmd.fates)
  marks a q = marks-settle (settled_of bs cmd.fates) v.ops (settle-room p v j s live) a q

  -- a block that isn't in the command
  pub aside : (a q : ℕ) → times a q bs ≡ 0 → status_in p w shown new (suc a) q ≡ status_in p v shown why (suc a) q
  aside a q z =
      let g = grows-settle (settled_of bs cmd.fates) v.ops a in
      let t = settled_none a q bs cmd.fates z in
      let k = marks a q in
      let u = here_times a q in
      let f : fate_in a q w.commands ≡ fate_in a q v.commands = fates_now a q ∙ in_same a q v.commands j (omega arith) in
      let e : get_or (now a).settled q false ≡ get_or (op_at v a).settled q false
      = ⊎_elim
      (λ (x : get_or (op_at v a).settled q false ≡ true). let y = marked (op_at v a) q x in (⊎_elim (λ (b : get_or (now a).settled q false ≡ true). b ∙ sym x) (λ (b : get_or (now a).settled q false ≡ false). let y' : is_marked (now a) q ≡ 0 = rw b refl in absurd (omega arith)) (cases_Bool (get_or (now a).settled q false))))
      (λ (x : get_or (op_at v a).settled q false ≡ false). let y : is_marked (op_at v a) q ≡ 0 = rw x refl in unmarked (now a) q (omega arith) ∙ sym x)
      (cases_Bool (get_or (op_at v a).settled q false)) in
      ap (λ (x : OpView). at a q x (new a q) (fate_in a q w.commands)) (is_now a)
      ∙ (ap (at a q (now a) (new a q)) f ∙ stands_alike (request_at p a).count (op_at v a) (now a) (shown a q) (why a q) (new a q) (fate_in a q v.commands) q g.phase g.cut e (kept a q))

  -- and one that is
  pub inside : (a q : ℕ) → 1 ≤ times a q bs → status_in p w shown new (suc a) q ≡ after_all (fate_at a q bs cmd.fates) (new a q) (status_in p v shown why (suc a) q)
  inside a q h =
      let g = grows-settle (settled_of bs cmd.fates) v.ops a in
      let u = here_times a q in
      let below = total-one (λ (x : Command). times_in a q x) v.commands j no_command (command-there v j live) in
      let r = flying p v a q s (omega arith) in
      let both = in_this a q v.commands j (omega arith) (omega arith) in
      let t = settled_times a q bs cmd.fates (omega arith) in
      let k = marks a q in
      let zero_mark : is_marked (op_at v a) q ≡ 0 = rw r.0.unsettled refl in
      let waits : is_waiting (now a).phase ≡ false = ap is_waiting g.phase ∙ r.0.waits in
      let e : fate_in a q v.commands ≡ fate_at a q bs cmd.fates = both.0 ∙ rw live refl in
      let old : status_in p v shown why (suc a) q ≡ sent_as (fate_at a q bs cmd.fates) = is_sent (request_at p a).count (op_at v a) (shown a q) (why a q) (fate_in a q v.commands) q r.0.waits r.0.within r.0.unsettled r.0.is_cut ∙ ap sent_as e in
      let f : fate_in a q w.commands ≡ Untouched = fates_now a q ∙ both.1 in
      ap (λ (x : OpView). at a q x (new a q) (fate_in a q w.commands)) (is_now a)
      ∙ (ap (at a q (now a) (new a q)) f
      ∙ ⊎_elim
      (λ (z : is_settled (fate_at a q bs cmd.fates) ≡ true).
      let one : one_if (fate_at a q bs cmd.fates) ≡ 1 = rw z refl in
      let m : get_or (now a).settled q false ≡ true = ⊎_elim (λ (b : get_or (now a).settled q false ≡ true). b) (λ (b : get_or (now a).settled q false ≡ false). let y' : is_marked (now a) q ≡ 0 = rw b refl in absurd (omega arith)) (cases_Bool (get_or (now a).settled q false)) in
      stands_settled (request_at p a).count (now a) (shown a q) (new a q) Untouched q waits r.0.within m ∙ sym (settled_then (fate_at a q bs cmd.fates) (new a q) (status_in p v shown why (suc a) q) z))
      (λ (z : is_settled (fate_at a q bs cmd.fates) ≡ false).
      let none : one_if (fate_at a q bs cmd.fates) ≡ 0 = rw z refl in
      let x = untouched_then (fate_at a q bs cmd.fates) z in
      let m : get_or (now a).settled q false ≡ false = unmarked (now a) q (omega arith) in
      let cut = g.cut in
      let cut' = r.0.is_cut in
      is_sent (request_at p a).count (now a) (shown a q) (new a q) Untouched q waits r.0.within m (omega arith)
      ∙ (sym (old ∙ ap sent_as x) ∙ sym (ap (λ y. after_all y (new a q) (status_in p v shown why (suc a) q)) x)))
      (cases_Bool (is_settled (fate_at a q bs cmd.fates))))

  pub once : (a q : ℕ) → times a q bs ≤ 1
  once a q =
      ⊎_elim
      (λ (h : 1 ≤ times a q bs).
      let u = here_times a q in
      let below = total-one (λ (x : Command). times_in a q x) v.commands j no_command (command-there v j live) in
      let r = flying p v a q s (omega arith) in
      omega arith)
      (λ (h : times a q bs ≤ 0). omega arith)
      (cases_lt 0 (times a q bs))

  -- where its blocks are
  pub were_out : (a q : ℕ) → 1 ≤ times a q bs → IsOut p v a q
  were_out a q h =
      let u = here_times a q in
      let below = total-one (λ (x : Command). times_in a q x) v.commands j no_command (command-there v j live) in
      (flying p v a q s (omega arith)).0

  pub were_sent : (a q : ℕ) → 1 ≤ times a q bs → status_in p v shown why (suc a) q ≡ sent_as (fate_at a q bs cmd.fates)
  were_sent a q h =
      let u = here_times a q in
      let below = total-one (λ (x : Command). times_in a q x) v.commands j no_command (command-there v j live) in
      let r = flying p v a q s (omega arith) in
      let both = in_this a q v.commands j (omega arith) (omega arith) in
      let e : fate_in a q v.commands ≡ fate_at a q bs cmd.fates = both.0 ∙ rw live refl in
      is_sent (request_at p a).count (op_at v a) (shown a q) (why a q) (fate_in a q v.commands) q r.0.waits r.0.within r.0.unsettled r.0.is_cut ∙ ap sent_as e

  pub completed_statuses : (a q : ℕ) → status_in p w shown new a q ≡ with_settled (blocks_in cmd.bios) cmd.fates new (status_in p v shown why) a q
  completed_statuses zero q = sym (settled_nobody (blocks_in cmd.bios) cmd.fates new (status_in p v shown why) q n)
  completed_statuses (suc a) q =
      let ids = ids_are cmd.bios in
      let given = settled_given (blocks_in cmd.bios) cmd.fates new (status_in p v shown why) a q n (subst (λ l. times a q l ≤ 1) (sym ids) (once a q)) ∙ ap (λ l. after_all (fate_at a q l cmd.fates) (new a q) (status_in p v shown why (suc a) q)) ids in
      ⊎_elim
      (λ (h : 0 < times a q bs). inside a q (omega arith) ∙ sym given)
      (λ (h : times a q bs ≤ 0). aside a q (omega arith) ∙ (sym (ap (λ f. after_all f (new a q) (status_in p v shown why (suc a) q)) (fate_none a q bs cmd.fates (omega arith))) ∙ sym given))
      (cases_lt 0 (times a q bs))

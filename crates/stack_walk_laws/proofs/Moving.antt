-- One block moves on.
use Rattle.std.proofs.Common.{◌≡◌, ◌<◌, ◌≤◌, ◌⊎◌, inl, inr, ℕ, zero, suc, ◌+◌, List, [], ◌∷◌, ◌++◌, length, get_or, Option, refl, sym, ap, subst, ◌∙◌, arith, append-nil, length-append}
use Rattle.std.proofs.lemmas.List.{append_assoc}
use Rattle.bio_core.specs.declared.fate.Why.{Why}
use Rattle.block_path.specs.Acts.{Act, State, act, conflict, tell}
use Rattle.block_path.specs.Blocks.{ActAnswer, Sent, silent}
use Rattle.block_path.specs.Serial.{all_done, plain, plain_tells}
use Rattle.run_laws.specs.Passed.{Setting, Step, Op}
use Rattle.run_laws.specs.Records.{Mixed, put_sent, sents, writes_at}
use Rattle.run_laws.specs.BoundRun.{fates, rooms}
use Rattle.run_laws.specs.OpsApart.{NoneMeet}
use Rattle.run_laws.specs.ScriptMoves.{ByMoves, all_moves, blocks_from, blocks_of, by_moves, own_at, script_moves}
use Rattle.run_laws.proofs.BlocksApart.{blocks_apart}
use Rattle.stack_walk_laws.specs.Following.{AllStand, Becomes, Follows, StandFrom, sents_so_far}
use Rattle.stack_walk_laws.specs.Gate.{MayMove, BlockSpot, number, ops_of, parts_at, place}
use Rattle.stack_walk_laws.specs.Slots.{Admitted, Carried, Cut, StepParts, Settled, SlotStands, Status, Waits, before_carrying, done_by, moves_in, parts_of, so_far}
use Rattle.stack_walk_laws.proofs.Runs.{AllQuiet, Done, Moves, Turn, midst_apart, of_block, quiet_logs, quiet_sents, sents_after, sents_before, sents_both, tells_length, turn_serial}
use Rattle.stack_walk_laws.proofs.Standing.{BlockTurns, OpTurns, gate_clears, op_turn, parts_are, step_turn}

-- what is done of a run, whatever it puts on record

pub follow_turn : (m : Setting) (n : ℕ) (ops : List Op) (opening now : State) (old new : ℕ → ℕ → Status) (es es' : List Sent) (run : Moves) (h : Follows m n ops opening old now es)
    (t : Turn (script_moves m n ops) h.done run (plain_tells act tell run now) (AllStand m n 0 1 ops new)) → ((c : ℕ) → get_or (plain act run now).logs c [] ≡ writes_at m.site c es') → length (plain act run now).logs ≡ length now.logs →
    Mixed (sents_so_far (t.ds ++ (all_done (plain_tells act tell run now) ++ t.bs))) es' → Follows m n ops opening new (plain act run now) es'
follow_turn m n ops opening now old new es es' run h t logs room sent = record {
  done = t.ds ++ (all_done (plain_tells act tell run now) ++ t.bs);
  stand = t.next;
  serial = turn_serial (script_moves m n ops) run h.done opening now (AllStand m n 0 1 ops new) t h.serial;
  logs = logs;
  room = room ∙ h.room;
  sent = sent;
}

pub follow_quiet : (m : Setting) (n : ℕ) (ops : List Op) (opening now : State) (old new : ℕ → ℕ → Status) (es : List Sent) (run : Moves) (h : Follows m n ops opening old now es) →
    Turn (script_moves m n ops) h.done run (plain_tells act tell run now) (AllStand m n 0 1 ops new) → AllQuiet run → Follows m n ops opening new (plain act run now) es
follow_quiet m n ops opening now old new es run h t q =
    let logs = quiet_logs run now q in
    let ts = plain_tells act tell run now in
    let same : sents_so_far h.done ≡ sents_so_far (t.ds ++ (all_done ts ++ t.bs)) =
    ap sents_so_far t.done_is ∙ sents_before run t.ds t.bs ∙ ap (λ x. sents_so_far t.ds ++ (x ++ sents_so_far t.bs)) (sym (quiet_sents run now q)) ∙ sym (sents_after ts t.ds t.bs) in
    follow_turn m n ops opening now old new es es run h t (λ c. ap (λ x. get_or x c []) logs ∙ h.logs c) (ap length logs) (subst (λ x. Mixed x es) same h.sent)

-- a run of one block, as one of all moves

split_blocks : (m : Setting) (from fate k : ℕ) (xs : List Step) (step : Step) (ys : List Step) (at : ℕ) → k + length xs ≡ at →
    blocks_from m from fate k (xs ++ (step ∷ ys)) ≡ blocks_from m from fate k xs ++ (by_moves m (own_at from at) (fate + at) step ∷ blocks_from m from fate (suc at) ys)
split_blocks m from fate k [] step ys at e = let q : k ≡ at = omega (arith, e) in rw q refl
split_blocks m from fate k (x ∷ xs) step ys at e = ap (λ rest. by_moves m (own_at from k) (fate + k) x ∷ rest) (split_blocks m from fate (suc k) xs step ys at (omega (arith, e)))

-- where a block's run stands in its moves
pub record Stretch (p : StepParts) (old : Status) (run : Moves) : Type 0 where
  pub front : Moves
  pub back : Moves
  pub is : moves_in p ≡ front ++ (run ++ back)
  pub count : done_by p old ≡ length front

pub spot_turn : (m : Setting) (n : ℕ) (s : BlockSpot) (old new : ℕ → ℕ → Status) (next : Status) (done : Done) (run : Moves) (ts : List ActAnswer) → MayMove m n old s → Becomes (number s) (place s) next old new →
    Stretch (parts_at m n s) (old (number s) (place s)) run →
    BlockTurns m (n + rooms m s.front) (fates s.front) (place s) s.step (old (number s) (place s)) next run ts →
    AllStand m n 0 1 (ops_of s) old done → Turn (script_moves m n (ops_of s)) done run ts (AllStand m n 0 1 (ops_of s) new)
spot_turn m n s old new next done run ts may becomes st turns h =
    let from = n + rooms m s.front in
    let fate = fates s.front in
    let i = number s in
    let k = place s in
    let b = by_moves m (own_at from k) (fate + k) s.step in
    let blocks = blocks_from m from fate 0 s.before in
    let rest = blocks_from m from fate (suc k) s.after in
    let split : blocks_of m from fate i s.op ≡ blocks ++ (b ∷ rest) = ap (blocks_from m from fate 0) may.steps ∙ split_blocks m from fate 0 s.before s.step s.after k (omega arith) in
    let moves : b.moves ≡ st.front ++ (run ++ st.back) = parts_are m (own_at from k) (fate + k) s.step ∙ st.is in
    let meet = blocks_apart m n may.one from fate i (omega arith) s.op may.mine may.spread blocks b rest split in
    let mine : NoneMeet conflict (all_moves blocks) run = midst_apart (all_moves blocks) st.front run st.back (subst (NoneMeet conflict (all_moves blocks)) moves meet) in
    let turn : OpTurns m from fate i s.op (old i) (new i) run ts =
    λ here stand.
    let standing = subst (λ steps. StandFrom m from fate 0 steps (old i) here) may.steps stand in
    let done = step_turn m from fate 0 s.before s.step s.after k (old i) (new i) here run ts (omega arith) (λ l q. becomes.elsewhere i l (λ a c. q c))
    (subst (λ x. BlockTurns m from fate k s.step (old i k) x run ts) (sym becomes.here) turns) mine standing in
    subst (λ steps. Turn (all_moves (blocks_from m from fate 0 steps)) here run ts (StandFrom m from fate 0 steps (new i))) (sym may.steps) done in
    let ls = all_moves blocks ++ st.front in
    let rs = st.back ++ all_moves rest in
    let where_it_is : all_moves (blocks_of m from fate i s.op) ≡ ls ++ (run ++ rs) = ap all_moves split ∙ all_split blocks b rest ∙ ap (λ x. all_moves blocks ++ (x ++ all_moves rest)) moves ∙ regroup_in (all_moves blocks) st.front run st.back (all_moves rest) in
    let clear = gate_clears m n old n 0 1 s.front s.op i from fate ls run rs may.one may.placed may.mine (omega arith) (omega arith) (omega arith) where_it_is may.lets in
    op_turn m n 0 1 s.front s.op s.behind i from fate old new done run ts (omega arith) refl (omega arith) (λ j l q. becomes.elsewhere j l (λ a c. q a)) turn clear h
  where
    all_split : (xs : List ByMoves) (b : ByMoves) (ys : List ByMoves) → all_moves (xs ++ (b ∷ ys)) ≡ all_moves xs ++ (b.moves ++ all_moves ys)
    all_split [] b ys = refl
    all_split (x ∷ xs) b ys = ap (λ rest. x.moves ++ rest) (all_split xs b ys) ∙ sym (append_assoc x.moves (all_moves xs) (b.moves ++ all_moves ys))

    regroup_in : (a f x k z : Moves) → a ++ ((f ++ (x ++ k)) ++ z) ≡ (a ++ f) ++ (x ++ (k ++ z))
    regroup_in a f x k z = ap (λ t. a ++ t) (append_assoc f (x ++ k) z ∙ ap (λ t. f ++ t) (append_assoc x k z)) ∙ sym (append_assoc a f (x ++ (k ++ z)))

-- what a block says after a quiet run

pub get_left : (xs ys : List ActAnswer) (c : ℕ) → c < length xs → get_or (xs ++ ys) c silent ≡ get_or xs c silent
get_left [] ys c l = absurd (omega (arith, l))
get_left (x ∷ xs) ys zero l = refl
get_left (x ∷ xs) ys (suc c) l = get_left xs ys c (omega (arith, l))

get_beyond : (xs : List ActAnswer) (c : ℕ) → length xs ≤ c → get_or xs c silent ≡ silent
get_beyond [] c l = refl
get_beyond (x ∷ xs) zero l = absurd (omega (arith, l))
get_beyond (x ∷ xs) (suc c) l = get_beyond xs c (omega (arith, l))

quiet_stays : (answers ts : List ActAnswer) (c : ℕ) → sents ts ≡ [] → sents answers ≡ put_sent (get_or answers c silent).sent [] → (c < length answers) ⊎ (length (answers ++ ts) ≤ c) →
    sents (answers ++ ts) ≡ put_sent (get_or (answers ++ ts) c silent).sent []
quiet_stays answers ts c q e (inl l) = sents_both answers ts ∙ ap (λ x. sents answers ++ x) q ∙ append-nil (sents answers) ∙ e ∙ ap (λ a. put_sent a.sent []) (sym (get_left answers ts c l))
quiet_stays answers ts c q e (inr l) =
    let x = length-append answers ts in
    sents_both answers ts ∙ ap (λ x. sents answers ++ x) q ∙ append-nil (sents answers) ∙ e ∙ ap (λ a. put_sent a.sent []) (get_beyond answers c (omega (arith, x, l)) ∙ sym (get_beyond (answers ++ ts) c l))

pub block_turns : (m : Setting) (from fate k : ℕ) (step : Step) (old next : Status) (run : Moves) (ts : List ActAnswer) → let b = by_moves m (own_at from k) (fate + k) step in let p = parts_of m (own_at from k) (fate + k) step in
    Stretch p old run → length ts ≡ length run → ((here : List ActAnswer) → SlotStands p b.join old here → SlotStands p b.join next (here ++ ts)) → BlockTurns m from fate k step old next run ts
block_turns m from fate k step old next run ts st l f = λ here stands.
    let b = by_moves m (own_at from k) (fate + k) step in
    let p = parts_of m (own_at from k) (fate + k) step in
    let moves : b.moves ≡ st.front ++ (run ++ st.back) = parts_are m (own_at from k) (fate + k) step ∙ st.is in
    let P : Done → Type 0 = λ d. (here : List ActAnswer) × ((d ≡ so_far b.moves here) × SlotStands p b.join next here) in
    subst (λ x. Turn x (so_far x here) run ts P) (sym moves)
    (of_block st.front run st.back here ts P (stands.count ∙ st.count) l (here ++ ts, (ap (λ x. so_far x (here ++ ts)) (sym moves), f here stands)))

-- admitted, cut, settled

module _ (m : Setting) (n : ℕ) (s : BlockSpot) (opening now : State) (old new : ℕ → ℕ → Status) (es : List Sent) (may : MayMove m n old s) (h : Follows m n (ops_of s) opening old now es) where
  abbrev p : StepParts
  p = parts_at m n s

  abbrev old_here : Status
  old_here = old (number s) (place s)

  on : (was next : Status) (run : Moves) → old_here ≡ was → Becomes (number s) (place s) next old new → AllQuiet run → Stretch p was run →
      ((here : List ActAnswer) → let b = by_moves m (own_at (n + rooms m s.front) (place s)) (fates s.front + place s) s.step in SlotStands p b.join was here → SlotStands p b.join next (here ++ plain_tells act tell run now)) →
      Follows m n (ops_of s) opening new (plain act run now) es
  on was next run e becomes q st f =
      let from = n + rooms m s.front in
      let turns = block_turns m from (fates s.front) (place s) s.step was next run (plain_tells act tell run now) st (tells_length run now) f in
      follow_quiet m n (ops_of s) opening now old new es run h
      (spot_turn m n s old new next h.done run (plain_tells act tell run now) may becomes (subst (λ x. Stretch p x run) (sym e) st)
      (subst (λ x. BlockTurns m from (fates s.front) (place s) s.step x next run (plain_tells act tell run now)) (sym e) turns) h.stand) q

  pub admitted : old_here ≡ Waits → Becomes (number s) (place s) Admitted old new → AllQuiet p.made → Follows m n (ops_of s) opening new (plain act p.made now) es
  admitted e becomes q =
      let ts = plain_tells act tell p.made now in
      let size = tells_length p.made now in
      on Waits Admitted p.made e becomes q (record { front = []; back = p.cut ++ (p.carrying ∷ p.settled); is = refl; count = refl })
      (λ here st. let x = length-append here ts in let y = st.count in record {
        count = omega (arith, x, y, size);
        sent = quiet_stays here ts (before_carrying p) (quiet_sents p.made now q) st.sent (inr (omega (arith, x, y, size)));
        tells = tt;
      })

  pub cut : old_here ≡ Admitted → Becomes (number s) (place s) Cut old new → AllQuiet p.cut → Follows m n (ops_of s) opening new (plain act p.cut now) es
  cut e becomes q =
      let ts = plain_tells act tell p.cut now in
      let size = tells_length p.cut now in
      on Admitted Cut p.cut e becomes q (record { front = p.made; back = p.carrying ∷ p.settled; is = refl; count = refl })
      (λ here st. let x = length-append here ts in let y = st.count in record {
        count = omega (arith, x, y, size);
        sent = quiet_stays here ts (before_carrying p) (quiet_sents p.cut now q) st.sent (inr (omega (arith, x, y, size)));
        tells = tt;
      })

  into_front : (xs ys : Moves) (k : Act ActAnswer) (zs : Moves) → xs ++ (ys ++ (k ∷ zs)) ≡ (xs ++ (ys ++ (k ∷ []))) ++ (zs ++ [])
  into_front xs ys k zs =
      ap (λ t. xs ++ t) (sym (append_assoc ys (k ∷ []) zs)) ∙ sym (append_assoc xs (ys ++ (k ∷ [])) zs) ∙ ap (λ t. (xs ++ (ys ++ (k ∷ []))) ++ t) (sym (append-nil zs))

  pub settled : (fate : Option Why) (why : Option Why) → old_here ≡ Carried fate → Becomes (number s) (place s) (Settled why) old new → AllQuiet p.settled →
      ((here : List ActAnswer) → length here ≡ suc (before_carrying p) → (get_or here (before_carrying p) silent).why ≡ fate →
      ((by_moves m (own_at (n + rooms m s.front) (place s)) (fates s.front + place s) s.step).join (here ++ plain_tells act tell p.settled now)).why ≡ why) →
      Follows m n (ops_of s) opening new (plain act p.settled now) es
  settled fate why e becomes q f =
      let ts = plain_tells act tell p.settled now in
      let size = tells_length p.settled now in
      let u = length-append p.made (p.cut ++ (p.carrying ∷ [])) in
      let v = length-append p.cut (p.carrying ∷ []) in
      on (Carried fate) (Settled why) p.settled e becomes q (record { front = p.made ++ (p.cut ++ (p.carrying ∷ [])); back = []; is = into_front p.made p.cut p.carrying p.settled; count = omega (arith, u, v) })
      (λ here st. let x = length-append here ts in let y = st.count in record {
        count = omega (arith, x, y, size);
        sent = quiet_stays here ts (before_carrying p) (quiet_sents p.settled now q) st.sent (inl (omega (arith, y)));
        tells = f here st.count st.tells;
      })

-- Before a block of a read its place has as many frames as earlier ops have accepted blocks there.
use Rattle.std.proofs.Common.{◌≡◌, ◌<◌, ◌+◌, ◌-◌, ◌%◌, ◌^◌, ℕ, zero, suc, Bool, true, false, ◌&&◌, eqb, List, [], ◌∷◌, ◌++◌, length, map, drop, get_or, set, take, Option, Some, None, refl, sym, ap, subst, ◌∙◌, arith}
use Rattle.std.specs.Prelude.{IfSome, cond, is_none}
use Rattle.std.specs.List.{AllByRecursion as Each, count_by}
use Rattle.std.proofs.lemmas.Bool.{eqb-true, eqb-false}
use Rattle.std.proofs.lemmas.List.{append_assoc, drop-drop, get_or-drop, get_or-set_same, get_or-set_other, length-append}
use Rattle.std.proofs.lemmas.List.Sums.{sum_by-cons}
use Rattle.page_pool.specs.declared.segs.Seg.{Seg}
use Rattle.page_pool.specs.Cells.{scatter}
use Rattle.integrity_payload.specs.declared.payload.Owner.{Owner}
use Rattle.integrity_payload.specs.declared.payload.Owner.TheVariants.{Block as OfBlock, App as OfApp}
use Rattle.walk_laws.specs.Passed.{Op, Fetch, FetchPi, Fill, Overwrite, Put, Seal, Show, Wait, Write, WritePi, Reply, Silent, State, act, effect, tell, ActAnswer, Sent, own_cell, read_by, written_by, Route, plain, plain_tells, Why}
use Rattle.walk_laws.proofs.Passed.{take_over}
use Rattle.walk_laws.specs.Past.{steps_from}
use Rattle.walk_laws.specs.Settings.{Block, Setting, block_of, route}
use Rattle.walk_laws.specs.Steps.{Alters, Reads, Seals, Sets, Shows, Step, Writes, WritesPi, body_of, each_from, frame_at, steps_of, tuple_of}
use Rattle.walk_laws.specs.ReadsAs.{landing, listed_in, read_op}
use Rattle.walk_laws.proofs.InSteps.{read_steps, scatter_length}
use Rattle.run_laws.specs.BackedRun.{HasEntry, IsBacked, IsInTurn, OfRead, answered}
use Rattle.run_laws.specs.EarlierWrites.{HasLog, IsCounted, LogsAreEmpty, StandsAfter, accepted_in, is_accepted}
use Rattle.run_laws.specs.Records.{entry_for}
use Rattle.run_laws.specs.TakenWalk.{carried_of, frame_in, taken_act, taken_acts, taken_from, taken_in, taken_out}
use Rattle.run_laws.proofs.Labelled.{each_both, each_first, each_other, tells_append}

one_longer : (logs : List (List (List ℕ))) (i c : ℕ) (f : List ℕ) → i < length logs → (same : Bool) → eqb i c ≡ same → length (get_or (set logs i (get_or logs i [] ++ (f ∷ []))) c []) ≡ cond same 1 0 + length (get_or logs c [])
one_longer logs i c f l true e =
    let there = get_or-set_same logs i (get_or logs i [] ++ (f ∷ [])) [] l in
    let n = length-append (get_or logs i []) (f ∷ []) in
    subst (λ j. length (get_or (set logs i (get_or logs i [] ++ (f ∷ []))) j []) ≡ 1 + length (get_or logs j [])) (eqb-true i c e)
    (ap length there ∙ (let r : length (get_or logs i [] ++ (f ∷ [])) ≡ 1 + length (get_or logs i []) = omega (arith, n) in r))
one_longer logs i c f l false e =
    let same : length (get_or (set logs i (get_or logs i [] ++ (f ∷ []))) c []) ≡ length (get_or logs c []) = ap length (get_or-set_other logs i c (get_or logs i [] ++ (f ∷ [])) [] (λ q. eqb-false i c e (sym q))) in
    omega (arith, same)

behind_first : {X : Type 0} (n : ℕ) (xs : List X) → drop n (drop 1 xs) ≡ drop (suc n) xs
behind_first n xs = let e : 1 + n ≡ suc n = omega arith in drop-drop n 1 xs ∙ ap (λ k. drop k xs) e

first_behind : {X : Type 0} (n : ℕ) (xs : List X) → drop 1 (drop n xs) ≡ drop (suc n) xs
first_behind n xs = let e : n + 1 ≡ suc n = omega arith in drop-drop 1 n xs ∙ ap (λ k. drop k xs) e

at_later : {X : Type 0} (xs : List X) (n : ℕ) (d : X) → get_or (drop 1 xs) n d ≡ get_or xs (suc n) d
at_later xs n d = let e : 1 + n ≡ suc n = omega arith in get_or-drop 1 xs n d ∙ ap (λ k. get_or xs k d) e

accepted_more : (m : Setting) (c i : ℕ) (before : List Op) (op : Op) (replies : List Reply) →
    accepted_in m c i (before ++ (op ∷ [])) replies ≡ accepted_in m c i before replies + count_by (is_accepted m c (get_or (drop (length before) replies) 0 Silent)) (steps_of m (i + length before) op)
accepted_more m c i [] op replies =
    let e : i ≡ i + 0 = omega arith in
    let here = count_by (is_accepted m c (get_or replies 0 Silent)) in
    let same : here (steps_of m i op) ≡ here (steps_of m (i + 0) op) = ap (λ j. here (steps_of m j op)) e in
    omega (arith, same)
accepted_more m c i (first ∷ before) op replies =
    let e : suc i + length before ≡ i + suc (length before) = omega arith in
    let all = accepted_in m c i ((first ∷ before) ++ (op ∷ [])) replies in
    let mine = count_by (is_accepted m c (get_or replies 0 Silent)) (steps_of m i first) in
    let last = λ (rs : List Reply) (j : ℕ). count_by (is_accepted m c (get_or rs 0 Silent)) (steps_of m j op) in
    let more = accepted_more m c (suc i) before op (drop 1 replies) in
    let one : last (drop (length before) (drop 1 replies)) (suc i + length before) ≡ last (drop (suc (length before)) replies) (i + suc (length before)) =
    ap (λ rs. last rs (suc i + length before)) (behind_first (length before) replies) ∙ ap (last (drop (suc (length before)) replies)) e in
    omega (arith, more, one)

each_pair : {X : Type 0} (P Q : X → Type 0) (xs : List X) → Each P xs → Each Q xs → Each (λ x. P x × Q x) xs
each_pair P Q [] h k = tt
each_pair P Q (x ∷ xs) h k = ((h.0, k.0), each_pair P Q xs h.1 k.1)

module _ (m : Setting) (es : List Sent) where
  -- what a step adds to a place's frames
  way_adds : (r : Route) (w : Option Why) (frame back : List ℕ) (logs : List (List (List ℕ))) (c : ℕ) → own_cell m.site r < length logs →
      length (get_or (scatter (own_cell m.site r ∷ []) (written_by r (taken_out m.site.faults r w frame) back (get_or logs (own_cell m.site r) [])).written.logs logs) c [])
      ≡ cond (is_none w && eqb (own_cell m.site r) c) 1 0 + length (get_or logs c [])
  way_adds r (Some why) frame back logs c l = omega arith
  way_adds r None frame back logs c l = one_longer logs (own_cell m.site r) c (carried_of m.site.faults r frame) l (eqb (own_cell m.site r) c) refl

  step_adds : (reply : Reply) (step : Step) (s : State) (c : ℕ) → HasLog m (length s.logs) step →
      length (get_or (act (taken_act m es reply step) s).logs c []) ≡ cond (is_accepted m c reply step) 1 0 + length (get_or s.logs c [])
  step_adds reply (Sets at values) s c h = omega arith
  step_adds reply (Shows at) s c h = omega arith
  step_adds reply (Seals body tuple app rtag) s c h = omega arith
  step_adds reply (Writes b app body) s c h = way_adds (route m b) (listed_in reply b.k) _ [] s.logs c h
  step_adds reply (WritesPi b frame) s c h = way_adds (route m b) (listed_in reply b.k) _ _ s.logs c h
  step_adds reply (Reads b owner to) s c h = omega arith
  step_adds reply (Alters dev lba change) s c h = omega arith

  step_keeps : (reply : Reply) (step : Step) (s : State) → length (act (taken_act m es reply step) s).logs ≡ length s.logs
  step_keeps reply step s = let a = taken_act m es reply step in scatter_length a.logs.writes (effect a s).written.logs s.logs

  steps_keep : (reply : Reply) (steps : List Step) (s : State) → length (plain act (map (taken_act m es reply) steps) s).logs ≡ length s.logs
  steps_keep reply [] s = refl
  steps_keep reply (step ∷ steps) s = steps_keep reply steps (act (taken_act m es reply step) s) ∙ step_keeps reply step s

  steps_add : (reply : Reply) (steps : List Step) (s : State) (c : ℕ) → Each (HasLog m (length s.logs)) steps →
      length (get_or (plain act (map (taken_act m es reply) steps) s).logs c []) ≡ count_by (is_accepted m c reply) steps + length (get_or s.logs c [])
  steps_add reply [] s c h = omega arith
  steps_add reply (step ∷ steps) s c h =
      let rest = steps_add reply steps (act (taken_act m es reply step) s) c (subst (λ n. Each (HasLog m n) steps) (sym (step_keeps reply step s)) h.1) in
      let one = step_adds reply step s c h.0 in
      let both : count_by (is_accepted m c reply) (step ∷ steps) ≡ cond (is_accepted m c reply step) 1 0 + count_by (is_accepted m c reply) steps = sum_by-cons (λ x. cond (is_accepted m c reply x) 1 0) step steps in
      omega (arith, rest, one, both)

  module _ (ops : List Op) (replies : List Reply) where
    abbrev Counted : ActAnswer → Type 0
    Counted = OfRead (IsCounted m ops replies)

    abbrev AllCounted : Reply → List Step → State → Type 0
    AllCounted reply steps s = Each Counted (plain_tells act tell (map (taken_act m es reply) steps) s)

    -- so many frames have the places before op i
    abbrev HaveBefore : (logs i : ℕ) → State → Type 0
    HaveBefore logs i s = (c : ℕ) → c < logs → length (get_or s.logs c []) ≡ accepted_in m c 1 (take (i - 1) ops) replies

    one_read : (reply : Reply) (b : Block) (owner : Owner) (to : List ℕ) (s : State) → let c = own_cell m.site (route m b) in length (get_or s.logs c []) ≡ accepted_in m c 1 (take (b.op - 1) ops) replies → Counted (tell (taken_act m es reply (Reads b owner to)) s)
    one_read reply b owner to s e = by (listed_in reply b.k) where
      by : (w : Option Why) → Counted (read_by (route m b) owner (taken_in m.site.faults (route m b) w (frame_in (entry_for es (route m b).label))) (length to) (length (get_or s.logs (own_cell m.site (route m b)) []))).answer
      by None = e
      by (Some why) = e

    reads_counted : (reply : Reply) (logs i v : ℕ) (owner : Owner) (to : ℕ → List ℕ) (j n : ℕ) (s : State) → HaveBefore logs i s →
        Each (HasLog m logs) (each_from j n (λ k. Reads (block_of i v k) owner (to k))) → AllCounted reply (each_from j n (λ k. Reads (block_of i v k) owner (to k))) s
    reads_counted reply logs i v owner to j zero s e h = tt
    reads_counted reply logs i v owner to j (suc n) s e h =
        (one_read reply (block_of i v j) owner (to j) s (e (own_cell m.site (route m (block_of i v j))) h.0), reads_counted reply logs i v owner to (suc j) n (act (taken_act m es reply (Reads (block_of i v j) owner (to j))) s) e h.1)

    others_counted : (reply : Reply) (f : ℕ → Step) → ((k : ℕ) (s : State) → Counted (tell (taken_act m es reply (f k)) s)) → (j n : ℕ) (s : State) → AllCounted reply (each_from j n f) s
    others_counted reply f h j zero s = tt
    others_counted reply f h j (suc n) s = (h j s, others_counted reply f h (suc j) n (act (taken_act m es reply (f j)) s))

    write_counted : (r : Route) (w : Option Why) (frame back : List ℕ) (log : List (List ℕ)) → Counted (written_by r (taken_out m.site.faults r w frame) back log).answer
    write_counted r None frame back log = tt
    write_counted r (Some why) frame back log = tt

    op_counted : (reply : Reply) (logs i : ℕ) (op : Op) (s : State) → HaveBefore logs i s → Each (HasLog m logs) (steps_of m i op) → AllCounted reply (steps_of m i op) s
    op_counted reply logs i (Fill seg byte) s e h = (tt, tt)
    op_counted reply logs i (Put page off values) s e h = (tt, tt)
    op_counted reply logs i (Show seg) s e h = (tt, tt)
    op_counted reply logs i (Seal n body tuples app rtag) s e h = others_counted reply (λ k. Seals (body_of m.size body k) (tuple_of tuples k) app ((rtag + k) % 2 ^ 32)) (λ k t. tt) 0 n s
    op_counted reply logs i (Write v n body app) s e h =
        others_counted reply (λ k. Writes (block_of i v k) app (body_of m.size body k)) (λ k t. write_counted (route m (block_of i v k)) (listed_in reply k) _ _ _) 0 n s
    op_counted reply logs i (Fetch v n body) s e h = reads_counted reply logs i v OfBlock (λ k. body_of m.size body k) 0 n s e h
    op_counted reply logs i (WritePi v n body tuples) s e h =
        others_counted reply (λ k. WritesPi (block_of i v k) (frame_at m.size body tuples k)) (λ k t. write_counted (route m (block_of i v k)) (listed_in reply k) _ _ _) 0 n s
    op_counted reply logs i (FetchPi v n body tuples) s e h = reads_counted reply logs i v OfApp (λ k. frame_at m.size body tuples k) 0 n s e h
    op_counted reply logs i (Overwrite dev lba change) s e h = (tt, tt)
    op_counted reply logs i Wait s e h = tt

  -- the ops behind these
  from_op : (replies : List Reply) (logs : ℕ) (before ops : List Op) (i : ℕ) (s : State) → i ≡ suc (length before) → length s.logs ≡ logs →
      ((c : ℕ) → c < logs → length (get_or s.logs c []) ≡ accepted_in m c 1 before replies) → Each (HasLog m logs) (steps_from m i ops) →
      Each (OfRead (IsCounted m (before ++ ops) replies)) (plain_tells act tell (taken_from m es i ops (drop (length before) replies)) s)
  from_op replies logs before [] i s e z f h = tt
  from_op replies logs before (op ∷ ops) i s e z f h =
      let rest = drop (length before) replies in
      let reply = get_or rest 0 Silent in
      let acts = taken_acts m es i op reply in
      let others = taken_from m es (suc i) ops (drop 1 rest) in
      let next = plain act acts s in
      let mine = each_first (HasLog m logs) (steps_of m i op) (steps_from m (suc i) ops) h in
      let front : take (i - 1) (before ++ (op ∷ ops)) ≡ before = take_over before (op ∷ ops) (i - 1) (omega (arith, e)) in
      let here : Each (OfRead (IsCounted m (before ++ (op ∷ ops)) replies)) (plain_tells act tell acts s) =
      op_counted (before ++ (op ∷ ops)) replies reply logs i op s (λ c l. f c l ∙ ap (λ xs. accepted_in m c 1 xs replies) (sym front)) mine in
      let grown : (c : ℕ) → c < logs → length (get_or next.logs c []) ≡ accepted_in m c 1 (before ++ (op ∷ [])) replies = λ c l.
      let more = accepted_more m c 1 before op replies in
      let now = steps_add reply (steps_of m i op) s c (subst (λ n. Each (HasLog m n) (steps_of m i op)) (sym z) mine) in
      let was = f c l in
      let same : count_by (is_accepted m c reply) (steps_of m (1 + length before) op) ≡ count_by (is_accepted m c reply) (steps_of m i op) = ap (λ j. count_by (is_accepted m c reply) (steps_of m j op)) (let q : 1 + length before ≡ i = omega (arith, e) in q) in
      omega (arith, more, now, was, same) in
      let size = length-append before (op ∷ []) in
      let behind : List ActAnswer = plain_tells act tell others next in
      let later =
      from_op replies logs (before ++ (op ∷ [])) ops (suc i) next (omega (arith, e, size)) (steps_keep reply (steps_of m i op) s ∙ z) grown (each_other (HasLog m logs) (steps_of m i op) (steps_from m (suc i) ops) h) in
      let dropped : drop (length (before ++ (op ∷ []))) replies ≡ drop 1 rest = ap (λ n. drop n replies) (let e : length (before ++ (op ∷ [])) ≡ suc (length before) = omega (arith, size) in e) ∙ sym (first_behind (length before) replies) in
      let there : Each (OfRead (IsCounted m (before ++ (op ∷ ops)) replies)) behind =
      subst (λ xs. Each (OfRead (IsCounted m xs replies)) behind) (append_assoc before (op ∷ []) ops)
      (subst (λ rs. Each (OfRead (IsCounted m ((before ++ (op ∷ [])) ++ ops) replies)) (plain_tells act tell (taken_from m es (suc i) ops rs) next)) dropped later) in
      subst (Each (OfRead (IsCounted m (before ++ (op ∷ ops)) replies))) (sym (tells_append acts others s)) (each_both (OfRead (IsCounted m (before ++ (op ∷ ops)) replies)) (plain_tells act tell acts s) behind here there)

  -- one op of all, and one of its blocks
  at_op : (P : ActAnswer → Type 0) (i : ℕ) (before : List Op) (op : Op) (after : List Op) (replies : List Reply) (s : State) → Each P (plain_tells act tell (taken_from m es i (before ++ (op ∷ after)) replies) s) →
      (t : State) × Each P (plain_tells act tell (taken_acts m es (i + length before) op (get_or replies (length before) Silent)) t)
  at_op P i [] op after replies s h =
      let acts = taken_acts m es i op (get_or replies 0 Silent) in
      let others = taken_from m es (suc i) after (drop 1 replies) in
      let e : i ≡ i + 0 = omega arith in (
        s,
        subst (λ j. Each P (plain_tells act tell (taken_acts m es j op (get_or replies 0 Silent)) s)) e
            (each_first P (plain_tells act tell acts s) (plain_tells act tell others (plain act acts s)) (subst (Each P) (tells_append acts others s) h)),
      )
  at_op P i (first ∷ before) op after replies s h =
      let acts = taken_acts m es i first (get_or replies 0 Silent) in
      let others = taken_from m es (suc i) (before ++ (op ∷ after)) (drop 1 replies) in
      let next = plain act acts s in
      let e : suc i + length before ≡ i + suc (length before) = omega arith in
      let found = at_op P (suc i) before op after (drop 1 replies) next (each_other P (plain_tells act tell acts s) (plain_tells act tell others next) (subst (Each P) (tells_append acts others s) h)) in (
        found.0,
        subst (λ reply. Each P (plain_tells act tell (taken_acts m es (i + suc (length before)) op reply) found.0)) (at_later replies (length before) Silent)
            (subst (λ j. Each P (plain_tells act tell (taken_acts m es j op (get_or (drop 1 replies) (length before) Silent)) found.0)) e found.1),
      )

  at_block : (P : ActAnswer → Type 0) (reply : Reply) (f : ℕ → Step) (j k n i : ℕ) (s : State) → k < n → i ≡ j + k → Each P (plain_tells act tell (map (taken_act m es reply) (each_from j n f)) s) →
      (t : State) × P (tell (taken_act m es reply (f i)) t)
  at_block P reply f j k zero i s l e h = absurd (omega (arith, l))
  at_block P reply f j zero (suc n) i s l e h = let q : j ≡ i = omega (arith, e) in (s, subst (λ x. P (tell (taken_act m es reply (f x)) s)) q h.0)
  at_block P reply f j (suc k) (suc n) i s l e h = at_block P reply f (suc j) k n i (act (taken_act m es reply (f j)) s) (omega (arith, l)) (omega (arith, e)) h.1

pub counts_accepted : (m : Setting) (ops : List Op) (opening : State) (es : List Sent) (replies : List Reply) → LogsAreEmpty m ops opening → Each (OfRead (IsCounted m ops replies)) (answered m ops opening es replies)
counts_accepted m ops opening es replies h = from_op m es replies (length opening.logs) [] ops 1 opening refl refl (λ c l. ap length (h.empty c)) h.within

-- what two sentences and the count say of one block
abbrev SoFar : Setting → List Sent → List Op → List Reply → ActAnswer → Type 0
SoFar m es ops replies a = OfRead (HasEntry es) a × (OfRead (IsInTurn es) a × OfRead (IsCounted m ops replies) a)

stands : (m : Setting) (es : List Sent) (ops : List Op) (replies : List Reply) (reply : Reply) (b : Block) (owner : Owner) (to : List ℕ) (s : State) → listed_in reply b.k ≡ None →
    SoFar m es ops replies (tell (taken_act m es reply (Reads b owner to)) s) → StandsAfter es (route m b).label (accepted_in m (own_cell m.site (route m b)) 1 (take (b.op - 1) ops) replies)
stands m es ops replies reply b owner to s none h = by (listed_in reply b.k) none h where
  by : (w : Option Why) → w ≡ None → SoFar m es ops replies (read_by (route m b) owner (taken_in m.site.faults (route m b) w (frame_in (entry_for es (route m b).label))) (length to) (length (get_or s.logs (own_cell m.site (route m b)) []))).answer →
      StandsAfter es (route m b).label (accepted_in m (own_cell m.site (route m b)) 1 (take (b.op - 1) ops) replies)
  by None e h =
      let x = h.0 refl in
      let turn = subst (λ o. IfSome o (λ x. x.after ≡ length (get_or s.logs (own_cell m.site (route m b)) []))) x.1 (h.1.0 refl) in
      (x.0, (x.1, turn ∙ h.1.1))
  by (Some why) e h = absurd (grind (arith, e))

pub stands_after : (m : Setting) (before after : List Op) (owner : Owner) (v n k : ℕ) (body tuples : List Seg) (opening : State) (es : List Sent) (replies : List Reply) →
    let b = block_of (suc (length before)) v k in
    let ops = before ++ (read_op owner v n body tuples ∷ after) in
    IsBacked m ops opening es replies → LogsAreEmpty m ops opening → k < n → listed_in (get_or replies (length before) Silent) k ≡ None →
    StandsAfter es (route m b).label (accepted_in m (own_cell m.site (route m b)) 1 before replies)
stands_after m before after owner v n k body tuples opening es replies backed empty l none =
    let i = suc (length before) in
    let b = block_of i v k in
    let op = read_op owner v n body tuples in
    let ops = before ++ (op ∷ after) in
    let reply = get_or replies (length before) Silent in
    let P = SoFar m es ops replies in
    let Q : ActAnswer → Type 0 = λ a. OfRead (IsInTurn es) a × OfRead (IsCounted m ops replies) a in
    let tells = answered m ops opening es replies in
    let all : Each P tells = each_pair (OfRead (HasEntry es)) Q tells backed.delivered (each_pair (OfRead (IsInTurn es)) (OfRead (IsCounted m ops replies)) tells backed.in_turn (counts_accepted m ops opening es replies empty)) in
    let mine = at_op m es P 1 before op after replies opening all in
    let numbered : 1 + length before ≡ i = omega arith in
    let here : Each P (plain_tells act tell (taken_acts m es i op reply) mine.0) = subst (λ j. Each P (plain_tells act tell (taken_acts m es j op reply) mine.0)) numbered mine.1 in
    let f = λ (k : ℕ). Reads (block_of i v k) owner (landing m.size owner body tuples k) in
    let block = at_block m es P reply f 0 k n k mine.0 l (omega arith) (subst (λ steps. Each P (plain_tells act tell (map (taken_act m es reply) steps) mine.0)) (read_steps m i v n owner body tuples) here) in
    subst (λ xs. StandsAfter es (route m b).label (accepted_in m (own_cell m.site (route m b)) 1 xs replies)) (take_over before (op ∷ after) (i - 1) (omega arith))
    (stands m es ops replies reply b owner (landing m.size owner body tuples k) block.0 none block.1)

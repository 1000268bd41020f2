-- Once all has ended.
use Rattle.std.proofs.Common.{◌≡◌, ℕ, zero, suc, ◌+◌, Bool, true, false, List, [], ◌∷◌, ◌++◌, length, map, take, drop, get_or, Option, Some, None, refl, sym, ap, subst, ◌∙◌, arith, length-append}
use Rattle.integrity_payload.specs.declared.payload.Owner.TheVariants.{Block as OfBlock, App as OfApp}
use Rattle.bio_core.specs.declared.fate.Why.{Why}
use Rattle.block_path.specs.Acts.{State, act, conflict, tell}
use Rattle.block_path.specs.Blocks.{ActAnswer, Sent, silent}
use Rattle.block_path.specs.Serial.{Serial, all_done}
use Rattle.block_path.proofs.Serial.{ends}
use Rattle.run_laws.specs.Passed.{bad_from, reply_of, whole_or_bad, Setting, block_of, Alters, Reads, Seals, Sets, Shows, Step, Writes, WritesPi, body_of, each_from, frame_at, steps_of, Op, Fetch, FetchPi, Fill, Overwrite, Put, Seal, Show, Wait, Write, WritePi, Shown}
use Rattle.run_laws.specs.Records.{Mixed, put_sent, sents}
use Rattle.run_laws.specs.BoundRun.{IsBoundRun}
use Rattle.run_laws.specs.ScriptMoves.{all_moves, answers_from, blocks_from, blocks_of, by_moves, carried_by, fates_of, joins, moves_from, own_at, replies_from_moves, room_of, script_moves}
use Rattle.run_laws.proofs.Ordered.{once_done}
use Rattle.stack_walk_laws.specs.Finished.{AllEnded, EndsAsWalk, HasEnded, HaveEnded, answer_of, answers_of, replies_of}
use Rattle.stack_walk_laws.specs.Following.{AllStand, Follows, StandFrom, sents_so_far}
use Rattle.stack_walk_laws.specs.Slots.{Done as AllDone, StepParts, Settled, Status, Tells, before_carrying, done_by, moves_in, parts_of, write_parts}
use Rattle.stack_walk_laws.proofs.Runs.{Done, all_both, far_whole, sents_all, sents_both}
use Rattle.stack_walk_laws.proofs.Standing.{moves_length, parts_are}

take_first : (xs ys : List ActAnswer) (n : ℕ) → length xs ≡ n → take n (xs ++ ys) ≡ xs
take_first [] ys n e = rw (← e) refl
take_first (x ∷ xs) ys zero e = absurd (omega (arith, e))
take_first (x ∷ xs) ys (suc n) e = ap (λ rest. x ∷ rest) (take_first xs ys n (omega (arith, e)))

drop_first : (xs ys : List ActAnswer) (n : ℕ) → length xs ≡ n → drop n (xs ++ ys) ≡ ys
drop_first [] ys n e = rw (← e) refl
drop_first (x ∷ xs) ys zero e = absurd (omega (arith, e))
drop_first (x ∷ xs) ys (suc n) e = drop_first xs ys n (omega (arith, e))

-- only the move that carries puts something on record
join_sent : (m : Setting) (own : List ℕ) (fate : ℕ) (step : Step) (here : List ActAnswer) → ((by_moves m own fate step).join here).sent ≡ (get_or here (before_carrying (parts_of m own fate step)) silent).sent
join_sent m own fate (Sets at values) here = refl
join_sent m own fate (Shows at) here = refl
join_sent m own fate (Seals body tuple app rtag) here = refl
join_sent m own fate (Writes b app body) here = by m.mode.dix where
  by : (dix : Bool) → (get_or here (carried_by dix) silent).sent ≡ (get_or here (before_carrying (write_parts m b app body own dix)) silent).sent
  by true = refl
  by false = refl
join_sent m own fate (WritesPi b frame) here = refl
join_sent m own fate (Reads b owner to) here = refl
join_sent m own fate (Alters dev lba change) here = refl

-- what a step's answer and what is known of it have in common
abbrev Same : Step → ActAnswer → ActAnswer → Type 0
Same (Sets at values) a b = Unit {0}
Same (Shows at) a b = a.shown ≡ b.shown
Same (Seals body tuple app rtag) a b = Unit {0}
Same (Writes c app body) a b = a.why ≡ b.why
Same (WritesPi c frame) a b = a.why ≡ b.why
Same (Reads c owner to) a b = a.why ≡ b.why
Same (Alters dev lba change) a b = Unit {0}

abbrev AllSame : List Step → List ActAnswer → List ActAnswer → Type 0
AllSame [] xs ys = (xs ≡ []) × (ys ≡ [])
AllSame (step ∷ steps) [] ys = ⊥
AllSame (step ∷ steps) (x ∷ xs) [] = ⊥
AllSame (step ∷ steps) (x ∷ xs) (y ∷ ys) = Same step x y × AllSame steps xs ys

settled_same : (status : Status) (carried joined : ActAnswer) → (why : Option Why) × (status ≡ Settled why) → Tells status carried joined → joined.why ≡ (answer_of status).why
settled_same status carried joined h t = let k = subst (λ s. Tells s carried joined) h.1 t in k ∙ sym (ap (λ s. (answer_of s).why) h.1)

done_same : (status : Status) (carried joined : ActAnswer) → (shown : List ℕ) × (status ≡ AllDone shown) → Tells status carried joined → joined.shown ≡ (answer_of status).shown
done_same status carried joined h t = let k = subst (λ s. Tells s carried joined) h.1 t in k ∙ sym (ap (λ s. (answer_of s).shown) h.1)

step_same : (step : Step) (status : Status) (carried joined : ActAnswer) → HasEnded step status → Tells status carried joined → Same step joined (answer_of status)
step_same (Sets at values) status carried joined h t = tt
step_same (Shows at) status carried joined h t = done_same status carried joined h t
step_same (Seals body tuple app rtag) status carried joined h t = tt
step_same (Writes b app body) status carried joined h t = settled_same status carried joined h t
step_same (WritesPi b frame) status carried joined h t = settled_same status carried joined h t
step_same (Reads b owner to) status carried joined h t = settled_same status carried joined h t
step_same (Alters dev lba change) status carried joined h t = tt

all_moved : (p : StepParts) (step : Step) (status : Status) (n : ℕ) → HasEnded step status → n ≡ done_by p status → n ≡ length (moves_in p)
all_moved p (Sets at values) status n h e = e ∙ ap (done_by p) h.1 ∙ sym (moves_length p)
all_moved p (Shows at) status n h e = e ∙ ap (done_by p) h.1 ∙ sym (moves_length p)
all_moved p (Seals body tuple app rtag) status n h e = e ∙ ap (done_by p) h.1 ∙ sym (moves_length p)
all_moved p (Writes b app body) status n h e = e ∙ ap (done_by p) h.1 ∙ sym (moves_length p)
all_moved p (WritesPi b frame) status n h e = e ∙ ap (done_by p) h.1 ∙ sym (moves_length p)
all_moved p (Reads b owner to) status n h e = e ∙ ap (done_by p) h.1 ∙ sym (moves_length p)
all_moved p (Alters dev lba change) status n h e = e ∙ ap (done_by p) h.1 ∙ sym (moves_length p)

pub one : {X : Type 0} (x y : X) (xs ys : List X) → x ≡ y → xs ≡ ys → (x ∷ xs) ≡ (y ∷ ys)
one x y xs ys e f = ap (λ z. z ∷ xs) e ∙ ap (λ zs. y ∷ zs) f

module _ (m : Setting) where
  record StepsEnd (from fate k : ℕ) (steps : List Step) (status : ℕ → Status) (done : Done) : Type 0 where
    answers : List ActAnswer
    is : done ≡ all_done answers
    size : length answers ≡ length (all_moves (blocks_from m from fate k steps))
    sent : sents answers ≡ sents (joins (blocks_from m from fate k steps) answers)
    same : AllSame steps (joins (blocks_from m from fate k steps) answers) (answers_of k steps status)

  steps_end : (from fate k : ℕ) (steps : List Step) (status : ℕ → Status) (done : Done) → HaveEnded k steps status → StandFrom m from fate k steps status done → StepsEnd from fate k steps status done
  steps_end from fate k [] status done e h = record { answers = []; is = h; size = refl; sent = refl; same = (refl, refl) }
  steps_end from fate k (step ∷ steps) status done e h =
      let own = own_at from k in
      let b = by_moves m own (fate + k) step in
      let p = parts_of m own (fate + k) step in
      let here = h.0 in
      let stands = h.1.1.1.0 in
      let rest = steps_end from fate (suc k) steps status h.1.0 e.1 h.1.1.1.1 in
      let blocks = blocks_from m from fate (suc k) steps in
      let size : length here ≡ length b.moves = all_moved p step (status k) (length here) e.0 stands.count ∙ ap length (sym (parts_are m own (fate + k) step)) in
      let answers = here ++ rest.answers in
      let joined : joins (b ∷ blocks) answers ≡ b.join here ∷ joins blocks rest.answers =
      ap (λ x. b.join x ∷ joins blocks (drop (length b.moves) answers)) (take_first here rest.answers (length b.moves) size) ∙ ap (λ x. b.join here ∷ joins blocks x) (drop_first here rest.answers (length b.moves) size) in
      let x = length-append here rest.answers in
      let y = length-append b.moves (all_moves blocks) in
      let z = rest.size in
      record {
        answers = answers;
        is = h.1.1.0 ∙ ap (λ d. d ++ h.1.0) (far_whole b.moves here size) ∙ ap (λ d. all_done here ++ d) rest.is ∙ sym (all_both here rest.answers);
        size = omega (arith, x, y, z, size);
        sent = sents_both here rest.answers
            ∙ ap (λ t. t ++ sents rest.answers) (stands.sent ∙ ap (λ o. put_sent o []) (sym (join_sent m own (fate + k) step here)))
            ∙ put_front (b.join here).sent (sents rest.answers) ∙ ap (put_sent (b.join here).sent) rest.sent ∙ ap sents (sym joined);
        same = subst (λ xs. AllSame (step ∷ steps) xs (answers_of k (step ∷ steps) status)) (sym joined) (step_same step (status k) (get_or here (before_carrying p) silent) (b.join here) e.0 stands.tells, rest.same);
      }
    where
      put_front : (o : Option Sent) (es : List Sent) → put_sent o [] ++ es ≡ put_sent o es
      put_front None es = refl
      put_front (Some x) es = refl

  -- the reply of an op

  abbrev AllBlocks : List Step → Type 0
  AllBlocks [] = Unit {0}
  AllBlocks (Sets at values ∷ steps) = ⊥
  AllBlocks (Shows at ∷ steps) = ⊥
  AllBlocks (Seals body tuple app rtag ∷ steps) = ⊥
  AllBlocks (Writes b app body ∷ steps) = AllBlocks steps
  AllBlocks (WritesPi b frame ∷ steps) = AllBlocks steps
  AllBlocks (Reads b owner to ∷ steps) = AllBlocks steps
  AllBlocks (Alters dev lba change ∷ steps) = ⊥

  whys_same : (steps : List Step) (xs ys : List ActAnswer) → AllBlocks steps → AllSame steps xs ys → map (λ a. a.why) xs ≡ map (λ a. a.why) ys
  whys_same [] xs ys b h = ap (map (λ a. a.why)) (h.0 ∙ sym h.1)
  whys_same (Sets at values ∷ steps) xs ys b h = absurd b
  whys_same (Shows at ∷ steps) xs ys b h = absurd b
  whys_same (Seals body tuple app rtag ∷ steps) xs ys b h = absurd b
  whys_same (Writes c app body ∷ steps) [] ys b h = absurd h
  whys_same (Writes c app body ∷ steps) (x ∷ xs) [] b h = absurd h
  whys_same (Writes c app body ∷ steps) (x ∷ xs) (y ∷ ys) b h = one x.why y.why (map (λ a. a.why) xs) (map (λ a. a.why) ys) h.0 (whys_same steps xs ys b h.1)
  whys_same (WritesPi c frame ∷ steps) [] ys b h = absurd h
  whys_same (WritesPi c frame ∷ steps) (x ∷ xs) [] b h = absurd h
  whys_same (WritesPi c frame ∷ steps) (x ∷ xs) (y ∷ ys) b h = one x.why y.why (map (λ a. a.why) xs) (map (λ a. a.why) ys) h.0 (whys_same steps xs ys b h.1)
  whys_same (Reads c owner to ∷ steps) [] ys b h = absurd h
  whys_same (Reads c owner to ∷ steps) (x ∷ xs) [] b h = absurd h
  whys_same (Reads c owner to ∷ steps) (x ∷ xs) (y ∷ ys) b h = one x.why y.why (map (λ a. a.why) xs) (map (λ a. a.why) ys) h.0 (whys_same steps xs ys b h.1)
  whys_same (Alters dev lba change ∷ steps) xs ys b h = absurd b

  request_same : (steps : List Step) (xs ys : List ActAnswer) → AllBlocks steps → AllSame steps xs ys → whole_or_bad (bad_from 0 (map (λ a. a.why) xs)) ≡ whole_or_bad (bad_from 0 (map (λ a. a.why) ys))
  request_same steps xs ys b h = ap (λ whys. whole_or_bad (bad_from 0 whys)) (whys_same steps xs ys b h)

  each_write : (k n : ℕ) (f : ℕ → Step) → ((j : ℕ) (steps : List Step) → AllBlocks steps → AllBlocks (f j ∷ steps)) → AllBlocks (each_from k n f)
  each_write k zero f h = tt
  each_write k (suc n) f h = h k (each_from (suc k) n f) (each_write (suc k) n f h)

  reply_same : (fails : Bool) (i : ℕ) (op : Op) (xs ys : List ActAnswer) → AllSame (steps_of m i op) xs ys → reply_of fails op xs ≡ reply_of fails op ys
  reply_same fails i (Fill seg byte) xs ys h = refl
  reply_same fails i (Put page off values) xs ys h = refl
  reply_same fails i (Show seg) [] ys h = absurd h
  reply_same fails i (Show seg) (x ∷ xs) [] h = absurd h
  reply_same fails i (Show seg) (x ∷ xs) (y ∷ ys) h = ap Shown h.0
  reply_same fails i (Seal n body tuples app rtag) xs ys h = refl
  reply_same fails i (Write v n body app) xs ys h = request_same (steps_of m i (Write v n body app)) xs ys (each_write 0 n (λ k. Writes (block_of i v k) app (body_of m.size body k)) (λ j steps b. b)) h
  reply_same fails i (Fetch v n body) xs ys h = request_same (steps_of m i (Fetch v n body)) xs ys (each_write 0 n (λ k. Reads (block_of i v k) OfBlock (body_of m.size body k)) (λ j steps b. b)) h
  reply_same fails i (WritePi v n body tuples) xs ys h = request_same (steps_of m i (WritePi v n body tuples)) xs ys (each_write 0 n (λ k. WritesPi (block_of i v k) (frame_at m.size body tuples k)) (λ j steps b. b)) h
  reply_same fails i (FetchPi v n body tuples) xs ys h = request_same (steps_of m i (FetchPi v n body tuples)) xs ys (each_write 0 n (λ k. Reads (block_of i v k) OfApp (frame_at m.size body tuples k)) (λ j steps b. b)) h
  reply_same fails i (Overwrite dev lba change) xs ys h = refl
  reply_same fails i Wait xs ys h = refl

  record OpsEnd (from fate i : ℕ) (ops : List Op) (status : ℕ → ℕ → Status) (done : Done) : Type 0 where
    answers : List ActAnswer
    is : done ≡ all_done answers
    size : length answers ≡ length (moves_from m from fate i ops)
    sent : sents answers ≡ sents (answers_from m from fate i ops answers)
    replies : replies_from_moves m from fate i ops answers ≡ replies_of m i ops status

  ops_end : (from fate i : ℕ) (ops : List Op) (status : ℕ → ℕ → Status) (done : Done) → AllEnded m i ops status → AllStand m from fate i ops status done → OpsEnd from fate i ops status done
  ops_end from fate i [] status done e h = record { answers = []; is = h; size = refl; sent = refl; replies = refl }
  ops_end from fate i (op ∷ ops) status done e h =
      let mine = steps_end from fate 0 (steps_of m i op) (status i) h.0 e.0 h.1.1.1.0 in
      let from' = from + room_of m op in
      let fate' = fate + fates_of op in
      let rest = ops_end from' fate' (suc i) ops status h.1.0 e.1 h.1.1.1.1 in
      let blocks = blocks_of m from fate i op in
      let count = length (all_moves blocks) in
      let others = moves_from m from' fate' (suc i) ops in
      let answers = mine.answers ++ rest.answers in
      let first : take count answers ≡ mine.answers = take_first mine.answers rest.answers count mine.size in
      let then : drop count answers ≡ rest.answers = drop_first mine.answers rest.answers count mine.size in
      let joined : answers_from m from fate i (op ∷ ops) answers ≡ joins blocks mine.answers ++ answers_from m from' fate' (suc i) ops rest.answers =
      ap (λ x. joins blocks x ++ answers_from m from' fate' (suc i) ops (drop count answers)) first ∙ ap (λ x. joins blocks mine.answers ++ answers_from m from' fate' (suc i) ops x) then in
      let x = length-append mine.answers rest.answers in
      let y = length-append (all_moves blocks) others in
      let u = mine.size in
      let v = rest.size in
      record {
        answers = answers;
        is = h.1.1.0 ∙ ap (λ d. d ++ h.1.0) mine.is ∙ ap (λ d. all_done mine.answers ++ d) rest.is ∙ sym (all_both mine.answers rest.answers);
        size = omega (arith, x, y, u, v);
        sent = sents_both mine.answers rest.answers ∙ ap (λ t. t ++ sents rest.answers) mine.sent ∙ ap (λ t. sents (joins blocks mine.answers) ++ t) rest.sent
            ∙ sym (sents_both (joins blocks mine.answers) (answers_from m from' fate' (suc i) ops rest.answers)) ∙ ap sents (sym joined);
        replies = ap (λ a. reply_of (m.fails i) op (joins blocks a) ∷ replies_from_moves m from' fate' (suc i) ops (drop count answers)) first
            ∙ ap (λ r. r ∷ replies_from_moves m from' fate' (suc i) ops (drop count answers)) (reply_same (m.fails i) i op (joins blocks mine.answers) (answers_of 0 (steps_of m i op) (status i)) mine.same)
            ∙ ap (λ a. reply_of (m.fails i) op (answers_of 0 (steps_of m i op) (status i)) ∷ replies_from_moves m from' fate' (suc i) ops a) then
            ∙ ap (λ rs. reply_of (m.fails i) op (answers_of 0 (steps_of m i op) (status i)) ∷ rs) rest.replies;
      }

  pub ends_as_walk : (fine : ℕ → List ℕ → Bool) (n : ℕ) (ops : List Op) (opening now : State) (status : ℕ → ℕ → Status) (es : List Sent) → IsBoundRun m fine n ops opening → AllEnded m 1 ops status →
      Follows m n ops opening status now es → EndsAsWalk m n ops opening status now es
  ends_as_walk fine n ops opening now status es run ended h =
      let e = ops_end n 0 1 ops status h.done ended h.stand in
      let all = ends act tell conflict (script_moves m n ops) opening e.answers now e.size (subst (λ d. Serial act tell conflict (script_moves m n ops) opening d now) e.is h.serial) in
      let w = once_done m fine n ops opening now e.answers run all.0 all.1 in
      record {
        cells = w.cells;
        replies = sym e.replies ∙ w.replies;
        recorded = record {
          all = subst (λ xs. Mixed xs es) (ap sents_so_far e.is ∙ sents_all e.answers ∙ e.sent ∙ ap sents w.answers_are) h.sent;
          writes = λ c. ap (λ (s : State). get_or s.logs c []) (sym w.cells) ∙ h.logs c;
        };
      }

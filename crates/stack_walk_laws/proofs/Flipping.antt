-- An overwrite that waits may be another one of its block: a flip of it.
use Rattle.std.proofs.Common.{◌≡◌, ℕ, suc, ◌+◌, false, ◌||◌, List, [], ◌∷◌, ◌++◌, length, Option, Some, None, refl, sym, ap, subst, ◌∙◌, arith, length-append}
use Rattle.std.proofs.lemmas.Bool.{or_from, or_parts}
use Rattle.dix_adapter.specs.Passed.{Change, Flip}
use Rattle.block_path.specs.Acts.{Act, State, act, conflict, tell}
use Rattle.block_path.specs.Blocks.{ActAnswer, Sent, untouched}
use Rattle.block_path.specs.Serial.{Answered, FreeOfDone, InOrder, walk}
use Rattle.page_pool.specs.Cells.{share_a_cell}
use Rattle.range_gate.specs.Cells.{cells_clash}
use Rattle.run_laws.specs.Passed.{act_of, source_of, Setting, Alters, Step, steps_of, Op, Overwrite}
use Rattle.run_laws.specs.ScriptMoves.{all_moves, blocks_from, blocks_of, by_moves, fates_of, moves_from, own_at, room_of, script_moves}
use Rattle.stack_walk_laws.specs.Following.{AllStand, Follows, StandFrom}
use Rattle.stack_walk_laws.specs.Slots.{Status, Waits, parts_of, so_far, done_by}
use Rattle.stack_walk_laws.proofs.Runs.{far_length}

abbrev Done : Type 0
Done = List (Option ActAnswer)

abbrev Moves : Type 0
Moves = List (Act ActAnswer)

-- it conflicts with no more than the other did
abbrev IsLooser : Act ActAnswer → Act ActAnswer → Type 0
IsLooser a b = (x : Act ActAnswer) → conflict a x ≡ false → conflict b x ≡ false

-- moves of which those that are done are the same, and the others conflict with no more
abbrev Looser : Moves → Moves → Done → Type 0
Looser [] bs ds = bs ≡ []
Looser (a ∷ as') [] ds = ⊥
Looser (a ∷ as') (b ∷ bs) [] = Unit {0}
Looser (a ∷ as') (b ∷ bs) (None ∷ ds) = IsLooser a b × Looser as' bs ds
Looser (a ∷ as') (b ∷ bs) (Some r ∷ ds) = (a ≡ b) × Looser as' bs ds

loose_walk : (as' bs : Moves) (ds : Done) (s : State) → Looser as' bs ds → walk act as' ds s ≡ walk act bs ds s
loose_walk [] bs ds s h = rw h refl
loose_walk (a ∷ as') [] ds s h = absurd h
loose_walk (a ∷ as') (b ∷ bs) [] s h = refl
loose_walk (a ∷ as') (b ∷ bs) (None ∷ ds) s h = loose_walk as' bs ds s h.1
loose_walk (a ∷ as') (b ∷ bs) (Some r ∷ ds) s h = loose_walk as' bs ds (act a s) h.1 ∙ ap (λ x. walk act bs ds (act x s)) h.0

loose_answers : (as' bs : Moves) (ds : Done) (s : State) → Looser as' bs ds → Answered act tell as' ds s → Answered act tell bs ds s
loose_answers [] bs ds s h k = rw h tt
loose_answers (a ∷ as') [] ds s h k = absurd h
loose_answers (a ∷ as') (b ∷ bs) [] s h k = tt
loose_answers (a ∷ as') (b ∷ bs) (None ∷ ds) s h k = loose_answers as' bs ds s h.1 k
loose_answers (a ∷ as') (b ∷ bs) (Some r ∷ ds) s h k =
    (k.0 ∙ ap (λ x. tell x s) h.0, subst (λ x. Answered act tell bs ds (act x s)) h.0 (loose_answers as' bs ds (act a s) h.1 k.1))

loose_free : (a b : Act ActAnswer) (as' bs : Moves) (ds : Done) → IsLooser a b → Looser as' bs ds → FreeOfDone conflict a as' ds → FreeOfDone conflict b bs ds
loose_free a b [] bs ds l h k = rw h tt
loose_free a b (x ∷ as') [] ds l h k = absurd h
loose_free a b (x ∷ as') (y ∷ bs) [] l h k = tt
loose_free a b (x ∷ as') (y ∷ bs) (None ∷ ds) l h k = loose_free a b as' bs ds l h.1 k
loose_free a b (x ∷ as') (y ∷ bs) (Some r ∷ ds) l h k = (subst (λ z. conflict b z ≡ false) h.0 (l x k.0), loose_free a b as' bs ds l h.1 k.1)

loose_order : (as' bs : Moves) (ds : Done) → Looser as' bs ds → InOrder conflict as' ds → InOrder conflict bs ds
loose_order [] bs ds h k = rw h tt
loose_order (a ∷ as') [] ds h k = absurd h
loose_order (a ∷ as') (b ∷ bs) [] h k = tt
loose_order (a ∷ as') (b ∷ bs) (None ∷ ds) h k = (loose_free a b as' bs ds h.0 h.1 k.0, loose_order as' bs ds h.1 k.1)
loose_order (a ∷ as') (b ∷ bs) (Some r ∷ ds) h k = loose_order as' bs ds h.1 k

same_loose : (as' : Moves) (ds : Done) → Looser as' as' ds
same_loose [] ds = refl
same_loose (a ∷ as') [] = tt
same_loose (a ∷ as') (None ∷ ds) = ((λ x e. e), same_loose as' ds)
same_loose (a ∷ as') (Some r ∷ ds) = (refl, same_loose as' ds)

then_loose : (xs as' bs : Moves) (ds es : Done) → length ds ≡ length xs → Looser as' bs es → Looser (xs ++ as') (xs ++ bs) (ds ++ es)
then_loose [] as' bs [] es l h = h
then_loose [] as' bs (d ∷ ds) es l h = absurd (omega (arith, l))
then_loose (x ∷ xs) as' bs [] es l h = absurd (omega (arith, l))
then_loose (x ∷ xs) as' bs (None ∷ ds) es l h = ((λ y e. e), then_loose xs as' bs ds es (omega (arith, l)) h)
then_loose (x ∷ xs) as' bs (Some r ∷ ds) es l h = (refl, then_loose xs as' bs ds es (omega (arith, l)) h)

-- a flip conflicts with no more than another change of the block

stand_long : (m : Setting) (from fate k : ℕ) (steps : List Step) (status : ℕ → Status) (done : Done) → StandFrom m from fate k steps status done → length done ≡ length (all_moves (blocks_from m from fate k steps))
stand_long m from fate k [] status done h = ap length h
stand_long m from fate k (step ∷ steps) status done h =
    let b = by_moves m (own_at from k) (fate + k) step in
    let rest = stand_long m from fate (suc k) steps status h.1.0 h.1.1.1.1 in
    let x = length-append (so_far b.moves h.0) h.1.0 in
    let y = length-append b.moves (all_moves (blocks_from m from fate (suc k) steps)) in
    let z = far_length b.moves h.0 in
    ap length h.1.1.0 ∙ omega (arith, x, y, z, rest)

module _ (m : Setting) (dev lba off : ℕ) (change : Change) (mask : List ℕ) where
  abbrev one : Op
  one = Overwrite dev lba change

  abbrev two : Op
  two = Overwrite dev lba (Flip off mask)

  looser : IsLooser (act_of m (Alters dev lba change)) (act_of m (Alters dev lba (Flip off mask)))
  looser x e =
      let src = source_of m.site dev lba change in
      let c = m.site.cell dev lba in
      let bytes = cells_clash untouched x.bytes in
      let logs = cells_clash untouched x.logs in
      let fates = cells_clash untouched x.fates in
      let reads = share_a_cell (src ∷ []) x.blocks.writes in
      let read = share_a_cell x.blocks.reads (c ∷ []) in
      let written = share_a_cell (c ∷ []) x.blocks.writes in
      let p = or_parts bytes ((reads || (read || written)) || (logs || fates)) e in
      let q = or_parts (reads || (read || written)) (logs || fates) p.1 in
      let r = or_parts reads (read || written) q.0 in
      let t = or_parts read written r.1 in
      or_from bytes ((written || (read || written)) || (logs || fates)) p.0 (or_from (written || (read || written)) (logs || fates) (or_from written (read || written) t.1 r.1) q.1)

  record Turned (from fate i : ℕ) (front behind : List Op) (status : ℕ → ℕ → Status) (done : Done) : Type 0 where
    stand : AllStand m from fate i (front ++ (two ∷ behind)) status done
    moves : Looser (moves_from m from fate i (front ++ (one ∷ behind))) (moves_from m from fate i (front ++ (two ∷ behind))) done

  turned : (from fate i k : ℕ) (front behind : List Op) (status : ℕ → ℕ → Status) (done : Done) → k ≡ i + length front → status k 0 ≡ Waits → AllStand m from fate i (front ++ (one ∷ behind)) status done → Turned from fate i front behind status done
  turned from fate i k [] behind status done e w h =
      let z : i ≡ k = omega (arith, e) in
      let waits : status i 0 ≡ Waits = ap (λ j. status j 0) z ∙ w in
      let mine = h.1.1.1.0 in
      let a = act_of m (Alters dev lba change) in
      let b = act_of m (Alters dev lba (Flip off mask)) in
      let stands = mine.1.1.1.0 in
      let count : length mine.0 ≡ 0 = stands.count ∙ ap (done_by (parts_of m (own_at from 0) (fate + 0) (Alters dev lba change))) waits in
      let empty : mine.0 ≡ [] = nothing mine.0 count in
      let here : h.0 ≡ None ∷ [] = mine.1.1.0 ∙ (ap (λ xs. so_far (a ∷ []) xs ++ mine.1.0) empty ∙ ap (λ rest. None ∷ rest) mine.1.1.1.1) in
      record {
        stand = (
          None ∷ [],
          (
            h.1.0,
            (
              h.1.1.0 ∙ ap (λ ds. ds ++ h.1.0) here,
              (([], ([], (refl, (record { count = sym (ap (done_by (parts_of m (own_at from 0) (fate + 0) (Alters dev lba (Flip off mask)))) waits); sent = refl; tells = rw waits tt }, refl)))), h.1.1.1.1),
            ),
          ),
        );
        moves = subst (λ ds. Looser (moves_from m from fate i (one ∷ behind)) (moves_from m from fate i (two ∷ behind)) ds) (sym (h.1.1.0 ∙ ap (λ ds. ds ++ h.1.0) here)) (looser, same_loose _ h.1.0);
      }
    where
      nothing : (answers : List ActAnswer) → length answers ≡ 0 → answers ≡ []
      nothing [] l = refl
      nothing (x ∷ answers) l = absurd (omega (arith, l))
  turned from fate i k (op ∷ front) behind status done e w h =
      let rest = turned (from + room_of m op) (fate + fates_of op) (suc i) k front behind status h.1.0 (omega (arith, e)) w h.1.1.1.1 in
      let long = stand_long m from fate 0 (steps_of m i op) (status i) h.0 h.1.1.1.0 in
      record {
        stand = (h.0, (h.1.0, (h.1.1.0, (h.1.1.1.0, rest.stand))));
        moves = subst (λ ds. Looser (moves_from m from fate i (op ∷ (front ++ (one ∷ behind)))) (moves_from m from fate i (op ∷ (front ++ (two ∷ behind)))) ds) (sym h.1.1.0)
            (then_loose (all_moves (blocks_of m from fate i op)) _ _ h.0 h.1.0 long rest.moves);
      }

  -- The overwrite waits: the stack follows the walk in which it is a flip of its block as well.
  pub turn : (n : ℕ) (front behind : List Op) (opening now : State) (status : ℕ → ℕ → Status) (es : List Sent) → status (suc (length front)) 0 ≡ Waits → Follows m n (front ++ (one ∷ behind)) opening status now es → Follows m n (front ++ (two ∷ behind)) opening status now es
  turn n front behind opening now status es w h =
      let t = turned n 0 1 (suc (length front)) front behind status h.done (let e : suc (length front) ≡ 1 + length front = omega arith in e) w h.stand in
      record {
        done = h.done;
        stand = t.stand;
        serial = record {
          state = h.serial.state ∙ loose_walk (script_moves m n (front ++ (one ∷ behind))) (script_moves m n (front ++ (two ∷ behind))) h.done opening t.moves;
          answers = loose_answers (script_moves m n (front ++ (one ∷ behind))) (script_moves m n (front ++ (two ∷ behind))) h.done opening t.moves h.serial.answers;
          order = loose_order (script_moves m n (front ++ (one ∷ behind))) (script_moves m n (front ++ (two ∷ behind))) h.done t.moves h.serial.order;
        };
        logs = h.logs;
        room = h.room;
        sent = h.sent;
      }

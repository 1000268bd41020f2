-- A stack that follows the walk by some statuses follows it by others that say the same.
use Rattle.std.proofs.Common.{◌≡◌, ◌<◌, ◌≤◌, ℕ, zero, suc, ◌+◌, List, [], ◌∷◌, length, Option, sym, subst, arith}
use Rattle.block_path.specs.Acts.{State}
use Rattle.block_path.specs.Blocks.{ActAnswer, Sent}
use Rattle.run_laws.specs.Passed.{Setting, Step, steps_of, Op}
use Rattle.run_laws.specs.ScriptMoves.{by_moves, fates_of, own_at, room_of}
use Rattle.stack_walk_laws.specs.Following.{AllStand, Follows, StandFrom}
use Rattle.stack_walk_laws.specs.Slots.{SlotStands, Status, parts_of}

stand_same : (m : Setting) (from fate k : ℕ) (steps : List Step) (old new : ℕ → Status) (done : List (Option ActAnswer)) → ((l : ℕ) → new l ≡ old l) → StandFrom m from fate k steps old done → StandFrom m from fate k steps new done
stand_same m from fate k [] old new done e h = h
stand_same m from fate k (step ∷ steps) old new done e h =
    let b = by_moves m (own_at from k) (fate + k) step in
    let p = parts_of m (own_at from k) (fate + k) step in
    (h.0, (h.1.0, (h.1.1.0, (subst (λ (s : Status). SlotStands p b.join s h.0) (sym (e k)) h.1.1.1.0, stand_same m from fate (suc k) steps old new h.1.0 e h.1.1.1.1))))

all_same : (m : Setting) (from fate i : ℕ) (ops : List Op) (old new : ℕ → ℕ → Status) (done : List (Option ActAnswer)) → ((j l : ℕ) → new j l ≡ old j l) → AllStand m from fate i ops old done → AllStand m from fate i ops new done
all_same m from fate i [] old new done e h = h
all_same m from fate i (op ∷ ops) old new done e h =
    (h.0, (h.1.0, (h.1.1.0, (stand_same m from fate 0 (steps_of m i op) (old i) (new i) h.0 (e i) h.1.1.1.0, all_same m (from + room_of m op) (fate + fates_of op) (suc i) ops old new h.1.0 e h.1.1.1.1))))

pub same_statuses : (m : Setting) (n : ℕ) (ops : List Op) (opening now : State) (old new : ℕ → ℕ → Status) (es : List Sent) → ((j l : ℕ) → new j l ≡ old j l) → Follows m n ops opening old now es → Follows m n ops opening new now es
same_statuses m n ops opening now old new es e h = record { done = h.done; stand = all_same m n 0 1 ops old new h.done e h.stand; serial = h.serial; logs = h.logs; room = h.room; sent = h.sent }

-- it is enough that they say the same of the ops of the script

all_same_within : (m : Setting) (from fate i : ℕ) (ops : List Op) (old new : ℕ → ℕ → Status) (done : List (Option ActAnswer)) → ((j l : ℕ) → i ≤ j → j < i + length ops → new j l ≡ old j l) → AllStand m from fate i ops old done → AllStand m from fate i ops new done
all_same_within m from fate i [] old new done e h = h
all_same_within m from fate i (op ∷ ops) old new done e h =
    (h.0, (h.1.0, (h.1.1.0, (stand_same m from fate 0 (steps_of m i op) (old i) (new i) h.0 (λ l. e i l (omega arith) (omega arith)) h.1.1.1.0, all_same_within m (from + room_of m op) (fate + fates_of op) (suc i) ops old new h.1.0 (λ j l a b. e j l (omega arith) (omega arith)) h.1.1.1.1))))

pub same_within : (m : Setting) (n : ℕ) (ops : List Op) (opening now : State) (old new : ℕ → ℕ → Status) (es : List Sent) → ((j l : ℕ) → j < length ops → new (suc j) l ≡ old (suc j) l) → Follows m n ops opening old now es → Follows m n ops opening new now es
same_within m n ops opening now old new es e h = record { done = h.done; stand = all_same_within m n 0 1 ops old new h.done (λ j l a b. by j l a b) h.stand; serial = h.serial; logs = h.logs; room = h.room; sent = h.sent } where
  by : (j l : ℕ) → 1 ≤ j → j < 1 + length ops → new j l ≡ old j l
  by zero l a b = absurd (omega arith)
  by (suc j) l a b = e j l (omega arith)

-- The record of a finished stack.
use Rattle.std.proofs.Common.{◌≡◌, ℕ, suc, Bool, true, List, [], ◌∷◌, refl, sym, ap, subst, ◌∙◌}
use Rattle.dix_adapter.specs.Passed.{LogEntry}
use Rattle.block_path.specs.Acts.{State}
use Rattle.block_path.specs.Blocks.{Sent}
use Rattle.block_path.specs.Moves.{hidden}
use Rattle.run_laws.specs.Passed.{reply_of, Setting, steps_of, Op, Reply}
use Rattle.run_laws.specs.BackedRun.{Backed, IsBacked}
use Rattle.run_laws.specs.CarriedRun.{Carried}
use Rattle.run_laws.specs.Records.{recorded}
use Rattle.run_laws.specs.ToldRun.{told}
use Rattle.run_laws.proofs.Backs.{backs, steps_same}
use Rattle.run_laws.proofs.Between.{carries}
use Rattle.run_laws.proofs.OwnRecord.{backs_itself}
use Rattle.run_laws.specs.BoundRun.{IsBoundRun}
use Rattle.stack_walk_laws.specs.Finished.{AllEnded, HaveEnded, answers_of, replies_of}
use Rattle.stack_walk_laws.specs.Following.{Follows}
use Rattle.stack_walk_laws.specs.Slots.{Status}
use Rattle.stack_walk_laws.proofs.Ends.{ends_as_walk}

module _ (m : Setting) (es : List Sent) where
  ended_over : (i : ℕ) (ops : List Op) (status : ℕ → ℕ → Status) → AllEnded m i ops status → AllEnded (told m es) i ops status
  ended_over i [] status h = tt
  ended_over i (op ∷ ops) status h = (subst (λ steps. HaveEnded 0 steps (status i)) (steps_same m es i op) h.0, ended_over (suc i) ops status h.1)

  replies_over : (i : ℕ) (ops : List Op) (status : ℕ → ℕ → Status) → replies_of (told m es) i ops status ≡ replies_of m i ops status
  replies_over i [] status = refl
  replies_over i (op ∷ ops) status =
      ap (λ steps. reply_of (m.fails i) op (answers_of 0 steps (status i)) ∷ replies_of (told m es) (suc i) ops status) (sym (steps_same m es i op))
      ∙ ap (λ (rs : List Reply). reply_of (m.fails i) op (answers_of 0 (steps_of m i op) (status i)) ∷ rs) (replies_over (suc i) ops status)

pub is_backed : (m : Setting) (n : ℕ) (ops : List Op) (opening now : State) (status : ℕ → ℕ → Status) (log : List LogEntry) → let over = told m (recorded m log) in
    IsBoundRun over (λ c block. true) n ops opening → AllEnded m 1 ops status → Follows over n ops opening status now (recorded m log) → Backed m ops (hidden n opening) log (replies_of m 1 ops status)
is_backed m n ops opening now status log run ended h =
    let es = recorded m log in
    let w = ends_as_walk (told m es) (λ c block. true) n ops opening now status es run (ended_over m es 1 ops status ended) h in
    subst (IsBacked m ops (hidden n opening) es) (sym w.replies ∙ replies_over m es 1 ops status) (backs m ops (hidden n opening) es w.recorded)

pub told_carried : (m : Setting) (fine : ℕ → List ℕ → Bool) (n : ℕ) (ops : List Op) (opening now : State) (status : ℕ → ℕ → Status) (log : List LogEntry) → IsBoundRun m fine n ops opening → AllEnded m 1 ops status →
    Follows m n ops opening status now (recorded m log) → Carried m ops (hidden n opening) log × Backed m ops (hidden n opening) log (replies_of m 1 ops status)
told_carried m fine n ops opening now status log run ended h =
    let es = recorded m log in
    let w = ends_as_walk m fine n ops opening now status es run ended h in
    (carries m ops (hidden n opening) es w.recorded, subst (IsBacked m ops (hidden n opening) es) (sym w.replies) (backs_itself m ops (hidden n opening) es w.recorded))

-- What single moves of the code do.
use Rattle.std.specs.Prelude.{◌≡◌, ℕ, ◌+◌, List, [], map}
use Rattle.merge_queue.specs.Index.{Queued}
use Rattle.stack_steps.specs.declared.state.OpState.{OpState}

abbrev pub more_cut : ℕ → OpState → OpState
more_cut n s = record s { cut = s.cut + n }

abbrev pub no_queue : Queued
no_queue = record { groups = []; room = 0 }

abbrev pub room_of : Queued → ℕ
room_of q = q.room

-- each queue has the room that it had
abbrev pub KeepRoom : List Queued → List Queued → Type 0
KeepRoom old new = map room_of new ≡ map room_of old

-- What single moves of the code leave of the lists.
use Rattle.std.proofs.Common.{◌≡◌, ◌<◌, ℕ, List, map, get_or, set, length, ap, ◌∙◌}
use Rattle.std.proofs.lemmas.List.{map-set, get_or_default}
use Rattle.std.proofs.Math.Seq.{map-set_same}
use Rattle.merge_queue.specs.Groups.{Group}
use Rattle.merge_queue.specs.Index.{Queued}
use Rattle.stack_steps.specs.Shows.{groups_of}
use Rattle.stack_steps.specs.Moves.{no_queue, room_of, KeepRoom}

pub queue-set : (qs : List Queued) (d : ℕ) (x old : Queued) (f : List Group → List Group) → d < length qs → old ≡ get_or qs d old → x.groups ≡ f old.groups →
    map groups_of (set qs d x) ≡ set (map groups_of qs) d (f (get_or qs d no_queue).groups)
queue-set qs d x old f h e g =
    let w = get_or_default qs d old no_queue h in
    map-set groups_of qs d x ∙ ap (set (map groups_of qs) d) (g ∙ ap (λ (z : Queued). f z.groups) (e ∙ w))

pub room-set : (qs : List Queued) (d : ℕ) (x old : Queued) → old ≡ get_or qs d old → x.room ≡ old.room → KeepRoom qs (set qs d x)
room-set qs d x old e g = map-set_same room_of qs d x old (g ∙ ap room_of e)

-- the queue that is there
pub queue-got : (qs : List Queued) (d : ℕ) (q : Queued) → d < length qs → q ≡ get_or qs d q → q ≡ get_or qs d no_queue
queue-got qs d q h e = e ∙ get_or_default qs d q no_queue h

-- What is known of an op that is no request, once it was done.
use Rattle.std.proofs.Common.{◌≡◌, ◌⊎◌, inl, inr, ℕ, true, false, List, refl, sym, ap, ◌∙◌}
use Rattle.std.proofs.lemmas.Bool.{false≢true}
use Rattle.pi_guard.specs.declared.GuardKind.{GuardKind}
use Rattle.rig_api.specs.declared.change.Change.{Change}
use Rattle.stack_ops.specs.declared.op.Op.{Op}
use Rattle.stack_ops.specs.declared.op.Op.TheVariants.{Fetch, FetchPi, Fill, Overwrite, Put, Seal, Show, Wait, Write, WritePi}
use Rattle.stack_ops.specs.declared.reply.Reply.{Reply}
use Rattle.stack_ops.specs.declared.reply.Reply.TheVariants.{Medium, Silent}
use Rattle.stack_core.specs.Courses.{Course, Falling, Straight}
use Rattle.stack_core.specs.declared.kept.Room.{Room}
use Rattle.stack_core.specs.Done.{OpDone}
use Rattle.stack_core.specs.Walking.{IsKnown, KnownBy, is_medium}
use Rattle.stack_core.proofs.Failing.{shown-silent}
use Rattle.stack_core.proofs.FollowsOp.{QuietBy}

-- ---- an op that is no request

pub known_done : (op : Op) (kind : GuardKind) (room : Room) (old new : List (List ℕ)) (reply : Reply) → OpDone op kind room old new reply → IsKnown op reply ⊎ (is_medium reply ≡ true)
known_done (Fill seg byte) kind room old new reply h = inl tt
known_done (Put page off bytes) kind room old new reply h = inl tt
known_done (Show seg) kind room old new reply h = inl tt
known_done (Seal n body tuples app rtag) kind room old new reply h = inl tt
known_done (Write v n body app) kind room old new reply h = inl tt
known_done (Fetch v n body) kind room old new reply h = inl tt
known_done (WritePi v n body tuples) kind room old new reply h = inl tt
known_done (FetchPi v n body tuples) kind room old new reply h = inl tt
known_done (Overwrite dev lba change) kind room old new reply h = by h.1 where
  by : (reply ≡ Silent) ⊎ (reply ≡ Medium) → (reply ≡ Silent) ⊎ (is_medium reply ≡ true)
  by (inl e) = inl e
  by (inr e) = inr (ap is_medium e)
known_done Wait kind room old new reply h = inl tt

-- what is known of it didn't fail
pub known_silent : (op : Op) (kind : GuardKind) (room : Room) (old new : List (List ℕ)) (reply : Reply) → OpDone op kind room old new reply → IsKnown op reply → is_medium reply ≡ false
known_silent (Fill seg byte) kind room old new reply h k = ap is_medium h.1
known_silent (Put page off bytes) kind room old new reply h k = ap is_medium h.1
known_silent (Show seg) kind room old new reply h k = ap is_medium h.1 ∙ shown-silent _ room
known_silent (Seal n body tuples app rtag) kind room old new reply h k = ap is_medium h.1
known_silent (Write v n body app) kind room old new reply h k = ap is_medium h.1
known_silent (Fetch v n body) kind room old new reply h k = ap is_medium h.1
known_silent (WritePi v n body tuples) kind room old new reply h k = ap is_medium h.1
known_silent (FetchPi v n body tuples) kind room old new reply h k = ap is_medium h.1
known_silent (Overwrite dev lba change) kind room old new reply h k = ap is_medium k
known_silent Wait kind room old new reply h k = ap is_medium h.1

pub quiet_by : (course : Course) (op : Op) (kind : GuardKind) (room : Room) (old new : List (List ℕ)) (reply : Reply) → OpDone op kind room old new reply → KnownBy course op reply → QuietBy course reply
quiet_by Straight op kind room old new reply h k = tt
quiet_by (Falling flips) op kind room old new reply h k = known_silent op kind room old new reply h k

-- what failed is an overwrite
pub record IsOverwrite (op : Op) : Type 0 where
  pub dev : ℕ
  pub lba : ℕ
  pub change : Change
  pub is : op ≡ Overwrite dev lba change

pub is_overwrite_done : (op : Op) (kind : GuardKind) (room : Room) (old new : List (List ℕ)) (reply : Reply) → OpDone op kind room old new reply → is_medium reply ≡ true → IsOverwrite op
is_overwrite_done (Fill seg byte) kind room old new reply h e = absurd (false≢true (sym (ap is_medium h.1) ∙ e))
is_overwrite_done (Put page off bytes) kind room old new reply h e = absurd (false≢true (sym (ap is_medium h.1) ∙ e))
is_overwrite_done (Show seg) kind room old new reply h e = absurd (false≢true (sym (ap is_medium h.1 ∙ shown-silent _ room) ∙ e))
is_overwrite_done (Seal n body tuples app rtag) kind room old new reply h e = absurd (false≢true (sym (ap is_medium h.1) ∙ e))
is_overwrite_done (Write v n body app) kind room old new reply h e = absurd (false≢true (sym (ap is_medium h.1) ∙ e))
is_overwrite_done (Fetch v n body) kind room old new reply h e = absurd (false≢true (sym (ap is_medium h.1) ∙ e))
is_overwrite_done (WritePi v n body tuples) kind room old new reply h e = absurd (false≢true (sym (ap is_medium h.1) ∙ e))
is_overwrite_done (FetchPi v n body tuples) kind room old new reply h e = absurd (false≢true (sym (ap is_medium h.1) ∙ e))
is_overwrite_done (Overwrite dev lba change) kind room old new reply h e = record { dev = dev; lba = lba; change = change; is = refl }
is_overwrite_done Wait kind room old new reply h e = absurd (false≢true (sym (ap is_medium h.1) ∙ e))

-- What is said of a machine, and of a step of it.
use Rattle.std.specs.Prelude.{◌≡◌, ◌<◌, ◌≤◌, ℕ, true, List, [], length, set}
use Rattle.std.specs.Vec.{vec_capacity}
use Rattle.bio_core.specs.declared.bio.Bio.{Bio}
use Rattle.bio_core.specs.declared.fate.Fate.{Fate}
use Rattle.merge_queue.specs.Groups.{Group, without}
use Rattle.stack_laws.specs.Plan.{Plan}
use Rattle.stack_laws.specs.Pieces.{greatest_piece, cut_to, bio_of}
use Rattle.stack_laws.specs.View.{View, op_at, queue_at, group_at, command_at}
use Rattle.stack_laws.specs.Steps.{Step, Complete as StepComplete, Send as StepSend, can, step, enabled, chosen}
use Rattle.stack_laws.specs.Runs.{blocks_of_requests}
use Rattle.stack_laws.specs.Sound.{Settles}
use Rattle.stack_steps.specs.declared.choice.Choice.{Choice}
use Rattle.stack_steps.specs.declared.choice.Choice.TheVariants.{Complete, Cut, Send}
use Rattle.stack_steps.specs.declared.machine.Machine.{Machine}
use Rattle.stack_steps.specs.Fine.{Fine}
use Rattle.stack_steps.specs.Shows.{Shows, Means, op_of}

-- the machine shows this view, but that its queues hold these groups, and has room for what goes back
pub record ShowsBut (p : Plan) (s : Machine) (held : List (List Group)) (v : View) : Type 0 where
  pub shows : Shows p s.gate s.ops.items s.live.items s.queues.items s.flight s.steps held v
  pub room : blocks_of_requests p.requests ≤ vec_capacity s.rest

-- it shows this view
abbrev pub Holds : Plan → Machine → View → Type 0
Holds p s v = ShowsBut p s v.queues v

abbrev pub Works : Plan → Machine → Type 0
Works p s = (v : View) × Holds p s v

-- it shows a view of which a step is enabled
pub record CanStep (p : Plan) (s : Machine) : Type 0 where
  pub view : View
  pub holds : Holds p s view
  pub some : 0 < length (enabled p view)

-- the choice means the step of the word, whichever view the machine shows
abbrev pub Chooses : Plan → Machine → ℕ → Choice → Type 0
Chooses p s word c = (v : View) → Holds p s v → 0 < length (enabled p v) → Means p v c (chosen p v word)

-- a view and a step that a choice means
pub record Ready (p : Plan) (s : Machine) (c : Choice) : Type 0 where
  pub view : View
  pub step : Step
  pub holds : Holds p s view
  pub can : can p view step ≡ true
  pub means : Means p view c step

-- so by some plan
abbrev pub IsReady : Machine → Choice → Type 0
IsReady s c = (p : Plan) × (Fine p × Ready p s c)

-- by some plan whose requests have at most so many blocks
abbrev pub IsReadyFor : ℕ → Machine → Choice → Type 0
IsReadyFor room s c = (p : Plan) × ((blocks_of_requests p.requests ≤ room) × Ready p s c)

-- the step that the choice means is done, whichever view the machine shows
abbrev pub Does : Plan → Machine → Choice → ℕ → Machine → Type 0
Does p s c cut s' = (v : View) (t : Step) → Holds p s v → can p v t ≡ true → Means p v c t → Holds p s' (step p v t cut [])

-- the op of the step has this place
abbrev pub OfOp : Plan → Machine → Choice → ℕ → Type 0
OfOp p s c op = (v : View) (t : Step) → Holds p s v → Means p v c t → op_of t ≡ op

-- the piece that a cut makes
abbrev pub Cuts : Plan → Machine → ℕ → ℕ → Bio → Type 0
Cuts p s q size bio = (v : View) (t : Step) → Holds p s v → can p v t ≡ true → Means p v (Cut q) t → bio ≡ bio_of p (op_of t) (op_at v (op_of t)).cut (cut_to size (greatest_piece p (op_of t) (op_at v (op_of t)).cut))

-- the bios and the fates of the command that a completion takes
abbrev pub Lands : Plan → Machine → ℕ → List Bio → List Fate → Type 0
Lands p s i bios fates = (v : View) (t : Step) → Holds p s v → Means p v (Complete i) t → (j : ℕ) × ((t ≡ StepComplete j) × ((bios ≡ (command_at v j).bios) × (fates ≡ (command_at v j).fates)))

-- group i of device d is taken from the queue of this view
pub record TakenFrom (p : Plan) (v : View) (d i : ℕ) (s : Machine) : Type 0 where
  pub can : can p v (StepSend d i) ≡ true
  pub holds : ShowsBut p s (set v.queues d (without i (queue_at v d))) v

-- it is taken, whichever view the machine showed
abbrev pub Takes : Plan → Machine → ℕ → ℕ → List Bio → Machine → Type 0
Takes p s d i group s' = (v : View) (t : Step) → Holds p s v → can p v t ≡ true → Means p v (Send d i) t → TakenFrom p v d i s' × (group ≡ group_at v d i)

-- a group was taken, and these are fates of its blocks
pub record Sending (p : Plan) (s : Machine) (d : ℕ) (group : List Bio) (fates : List Fate) : Type 0 where
  pub view : View
  pub place : ℕ
  pub taken : TakenFrom p view d place s
  pub group_is : group ≡ group_at view d place
  pub settles : Settles group fates

-- by some plan
abbrev pub IsSending : Machine → ℕ → List Bio → List Fate → Type 0
IsSending s d group fates = (p : Plan) × (Fine p × Sending p s d group fates)

-- the group is in flight, whichever view it was taken from
abbrev pub Flies : Plan → Machine → ℕ → List Bio → List Fate → Machine → Type 0
Flies p s d group fates s' = (v : View) (i cut : ℕ) → TakenFrom p v d i s → group ≡ group_at v d i → Settles group fates → Holds p s' (step p v (StepSend d i) cut fates)

-- The steps: which are enabled, which one a word chooses, and what each does.
use Rattle.std.specs.Prelude.{ℕ, zero, suc, ◌+◌, ◌%◌, Bool, true, false, not, ◌&&◌, eqb, nat_lt, if◌then◌else◌, List, [], ◌∷◌, ◌++◌, length, get_or, set, map}
use Rattle.std.specs.List.{filter, flat_map}
use Rattle.merge_queue.specs.Passed.{Bio, Fate}
use Rattle.merge_queue.specs.declared.limits.Limits.{Limits}
use Rattle.range_gate.specs.Gates.{is_waiting, has_ended, none_conflicts}
use Rattle.stack_laws.specs.Blocks.{BlockId, blocks, settled_of}
use Rattle.stack_laws.specs.Plan.{Plan, request_at}
use Rattle.stack_laws.specs.Pieces.{greatest_piece, cut_to, bio_of}
use Rattle.merge_queue.specs.Groups.{Group, put, put_all, may_follow, joined, without, numbers, pairs}
use Rattle.stack_laws.specs.Rests.{rests}
use Rattle.range_gate.specs.declared.phase.Phase.TheVariants.{Admitted, Ended}
use Rattle.stack_laws.specs.View.{View, OpView, Command, is_admitted, all_true, no_op, op_at, queue_at, group_at, command_at}

pub data Step : Type 0 where
  End : ℕ → Step
  Complete : ℕ → Step
  Admit : ℕ → Step
  Cut : ℕ → Step
  Join : ℕ → ℕ → ℕ → Step
  Send : ℕ → ℕ → Step

-- ---- enabled

-- the ops before op i that have not ended
abbrev pub unended : View → ℕ → List ℕ
unended v zero = []
unended v (suc i) = if has_ended (op_at v i).phase then unended v i else i ∷ unended v i

abbrev pub may_admit : Plan → View → ℕ → Bool
may_admit p v i = is_waiting (op_at v i).phase && (nat_lt (length (unended v i)) 32 && none_conflicts p.conflicts i (unended v i))

abbrev pub can : Plan → View → Step → Bool
can p v (End i) = is_admitted (op_at v i).phase && all_true (op_at v i).settled
can p v (Complete j) = not (command_at v j).completed
can p v (Admit i) = may_admit p v i
can p v (Cut i) = is_admitted (op_at v i).phase && nat_lt (op_at v i).cut (request_at p i).count
can p v (Join d i j) = nat_lt i (length (queue_at v d)) && (nat_lt j (length (queue_at v d)) && (not (eqb i j) && may_follow p.limits (group_at v d i) (group_at v d j)))
can p v (Send d i) = nat_lt i (length (queue_at v d))

abbrev pub joins_of : ℕ → List Group → List Step
joins_of d q = flat_map (λ i. map (Join d i) (numbers 0 (length q))) (numbers 0 (length q))

abbrev pub joins : ℕ → List (List Group) → List Step
joins d [] = []
joins d (q ∷ qs) = joins_of d q ++ joins (suc d) qs

abbrev pub sends : ℕ → List (List Group) → List Step
sends d [] = []
sends d (q ∷ qs) = map (Send d) (numbers 0 (length q)) ++ sends (suc d) qs

-- all steps by their names, in the order of the table
abbrev pub all_steps : View → List Step
all_steps v = map End (numbers 0 (length v.ops)) ++ (map Complete (numbers 0 (length v.commands))
    ++ (map Admit (numbers 0 (length v.ops)) ++ (map Cut (numbers 0 (length v.ops)) ++ (joins 0 v.queues ++ sends 0 v.queues))))

abbrev pub enabled : Plan → View → List Step
enabled p v = filter (can p v) (all_steps v)

-- the step of a word
abbrev pub chosen : Plan → View → ℕ → Step
chosen p v w = get_or (enabled p v) (w % length (enabled p v)) (End 0)

-- ---- what each does

abbrev pub with_op : View → ℕ → OpView → View
with_op v i o = record v { ops = set v.ops i o }

-- the next piece of op i goes into its device's queue
abbrev pub queue_piece : View → ℕ → Bio → View
queue_piece v i b = record v {
  ops = set v.ops i (record (op_at v i) { cut = (op_at v i).cut + b.count });
  queues = set v.queues b.dev (put (b ∷ []) (queue_at v b.dev));
}

-- these blocks are settled
abbrev pub settle : List BlockId → List OpView → List OpView
settle [] ops = ops
settle (b ∷ bs) ops = settle bs (set ops b.op (record (get_or ops b.op no_op) { settled = set (get_or ops b.op no_op).settled b.k true }))

-- the settled blocks of command j are settled, and each run of untouched ones goes back as one group
abbrev pub complete : Plan → View → ℕ → Command → View
complete p v j c = record v {
  ops = settle (settled_of (blocks c.bios) c.fates) v.ops;
  queues = set v.queues c.dev (put_all (rests p c.bios c.fates) (queue_at v c.dev));
  commands = set v.commands j (record c { completed = true });
}

-- cut is the entry's second number, fates what becomes of the blocks of a group that is sent
abbrev pub effect : Plan → View → Step → ℕ → List Fate → View
effect p v (End i) cut fates = with_op v i (record (op_at v i) { phase = Ended })
effect p v (Complete j) cut fates = complete p v j (command_at v j)
effect p v (Admit i) cut fates = with_op v i (record (op_at v i) { phase = if eqb (request_at p i).count 0 then Ended else Admitted })
effect p v (Cut i) cut fates = queue_piece v i (bio_of p i (op_at v i).cut (cut_to cut (greatest_piece p i (op_at v i).cut)))
effect p v (Join d i j) cut fates = record v { queues = set v.queues d (joined (queue_at v d) i j) }
effect p v (Send d i) cut fates = record v {
  queues = set v.queues d (without i (queue_at v d));
  commands = v.commands ++ (record { dev = d; bios = group_at v d i; fates = fates; completed = false } ∷ []);
}

abbrev pub step : Plan → View → Step → ℕ → List Fate → View
step p v s cut fates = record (effect p v s cut fates) { steps = suc v.steps }

-- ---- the same lists, as they are counted

abbrev pub join_of : ℕ → ℕ × ℕ → Step
join_of d ij = Join d ij.0 ij.1

abbrev pub joins_from : Limits → ℕ → List (List Group) → List Step
joins_from lim d [] = []
joins_from lim d (q ∷ qs) = map (join_of d) (pairs lim q) ++ joins_from lim (suc d) qs

-- the numbers below n whose step is enabled
abbrev pub enabled_below : Plan → View → (ℕ → Step) → ℕ → List Step
enabled_below p v f n = map f (filter (λ i. can p v (f i)) (numbers 0 n))

abbrev pub six_lists : Plan → View → List Step
six_lists p v = enabled_below p v End (length v.ops) ++ (enabled_below p v Complete (length v.commands)
    ++ (enabled_below p v Admit (length v.ops) ++ (enabled_below p v Cut (length v.ops) ++ (joins_from p.limits 0 v.queues ++ sends 0 v.queues))))

-- What failed at the medium in a stack, from step to step.
use Rattle.std.proofs.Common.{◌≡◌, ◌⊎◌, inl, inr, ◌<◌, ◌≤◌, ℕ, ◌+◌, ◌^◌, List, [], ◌∷◌, length, set, refl, sym, subst, arith}
use Rattle.pi_tuple.specs.declared.checks.PiType.{PiType}
use Rattle.block_path.specs.declared.mode.Mode.{Mode}
use Rattle.bio_core.specs.declared.bio.Bio.{Bio}
use Rattle.bio_core.specs.declared.fate.Fate.{Fate}
use Rattle.bio_core.specs.declared.request.Io.{Io}
use Rattle.std.specs.List.{All}
use Rattle.dix_base.specs.Told.{Calm}
use Rattle.fault_schedule.specs.declared.fault.FaultLine.{FaultLine}
use Rattle.dix_adapter.specs.Groups.{blocks_in}
use Rattle.merge_queue.specs.Groups.{size}
use Rattle.stack_ops.specs.declared.reply.BadBlock.{BadBlock}
use Rattle.stack_ops.specs.declared.reply.Reply.{Reply}
use Rattle.stack_ops.specs.declared.reply.Reply.TheVariants.{Silent, Whole, Bad as BadReply, Shown, Medium as MediumReply}
use Rattle.stack_steps.specs.declared.choice.Choice.{Choice}
use Rattle.stack_steps.specs.declared.choice.Choice.TheVariants.{Send}
use Rattle.stack_steps.specs.Does.{Chooses, Does}
use Rattle.stack_core.specs.declared.kept.Fates.{Fates}
use Rattle.stack_core.specs.declared.kept.Room.{Room}
use Rattle.stack_core.specs.declared.kept.Room.TheVariants.{Blocks, Bytes, Nothing, Tuples}
use Rattle.stack_core.specs.declared.sheet.Sheet.{Sheet}
use Rattle.stack_core.specs.declared.stack.Stack.{Stack}
use Rattle.stack_core.specs.Going.{FailsCounted}
use Rattle.stack_core.specs.Mediums.{Counts, HasCounted, HasCountedBy, RoseBy, Spoils, kept_unscheduled, labels_in, medium_replies, one_reply, unscheduled_of}
use Rattle.stack_core.specs.Replies.{bad_from, reply_of, whole_or}
use Rattle.stack_walk_laws.specs.Settled.{AllSettled, KeptFates}
use Rattle.stack_core.specs.Stacks.{HasStep, StackStays, plan_in}
use Rattle.stack_walk_laws.proofs.Chained.{all_each}
use Rattle.stack_walk_laws.specs.Settling.{AreFates, IsOf}
use Rattle.stack_core.proofs.MediumFates.{bios_placed, each_mediums}
use Rattle.stack_core.proofs.Mediums.{counts_same, group_counts, no_more_replies, other_counts, rose_less, rose_or_calm, set_replies}
use Rattle.stack_core.proofs.SendsOn.{KeepsMarks}
use Rattle.stack_core.proofs.Steps.{SendsNot}

-- ---- replies

whole_quiet : (bad : List BadBlock) → one_reply (whole_or bad) ≡ 0
whole_quiet [] = refl
whole_quiet (b ∷ bad) = refl

-- a request's reply is no overwrite's
pub request_quiet : (fates : List Fate) (room : Room) → one_reply (reply_of fates room) ≡ 0
request_quiet fates Nothing = refl
request_quiet fates (Blocks v) = whole_quiet (bad_from 0 fates)
request_quiet fates (Bytes v) = refl
request_quiet fates (Tuples pi) = refl

pub few_replies : (replies : List Reply) (i : ℕ) (r : Reply) → one_reply r ≡ 0 → medium_replies (set replies i r) ≤ medium_replies replies
few_replies replies i r z = let a = set_replies replies i r in omega (arith, a, z)

-- an overwrite fails only where the count rises
reply_rises : (r : Reply) (count count' : ℕ) → count ≤ count' → (Calm count count' → r ≡ MediumReply → ⊥) → (n first : ℕ) → RoseBy n first count → RoseBy (n + one_reply r) first count'
reply_rises Silent count count' c h n first x = rose_less n (n + 0) first count count' (omega arith) c x
reply_rises Whole count count' c h n first x = rose_less n (n + 0) first count count' (omega arith) c x
reply_rises (BadReply blocks) count count' c h n first x = rose_less n (n + 0) first count count' (omega arith) c x
reply_rises (Shown bytes) count count' c h n first x = rose_less n (n + 0) first count count' (omega arith) c x
reply_rises MediumReply count count' c h n first x = by (rose_or_calm count count' (λ calm. h calm refl)) x
  where
    by : ((count < count') ⊎ (2 ^ 64 ≤ count' + 1)) → RoseBy n first count → RoseBy (n + 1) first count'
    by (inl l) (inl y) = inl (omega arith)
    by (inl l) (inr y) = inr (omega arith)
    by (inr l) y = inr l

pub set_rises : (replies : List Reply) (i : ℕ) (r : Reply) (count count' : ℕ) → count ≤ count' → (Calm count count' → r ≡ MediumReply → ⊥) → (n first : ℕ) → RoseBy (n + medium_replies replies) first count → RoseBy (n + medium_replies (set replies i r)) first count'
set_rises replies i r count count' c h n first x =
    let a = set_replies replies i r in
    rose_less (n + medium_replies replies + one_reply r) (n + medium_replies (set replies i r)) first count' count' (omega (arith, a)) (omega arith) (reply_rises r count count' c h (n + medium_replies replies) first x)

-- ---- a command is completed

pub settled_counts : (faults : List FaultLine) (mode : Mode) (ty : PiType) (ios : List Io) (starts : List ℕ) (bios : List Bio) (fates : List Fate) (old new : KeptFates) → AreFates ios starts old.held → All (IsOf ios) bios → size bios ≡ length fates → AllSettled mode ty ios starts bios fates (length bios) old new →
    kept_unscheduled faults ios new.held ≤ kept_unscheduled faults ios old.held + unscheduled_of faults (labels_in bios) fates
settled_counts faults mode ty ios starts bios fates old new k o l s = each_mediums faults mode ty ios starts (blocks_in bios) fates old new (bios_placed ios starts k.begin bios o) (all_each mode ty ios starts bios fates old new l s)

-- ---- a step

pub step_counts : (faults : List FaultLine) (s s' : Stack) (word cut count count' : ℕ) (c : Choice) → StackStays s s' → Chooses (plan_in s.sheet) s.machine word c → HasStep (plan_in s.sheet) s.machine → Does (plan_in s.sheet) s.machine c cut s'.machine →
    Counts faults s.sheet.ios.items (plan_in s.sheet) s.machine c s.kept.held.items s'.kept.held.items → count ≤ count' → ((n first : ℕ) → RoseBy (n + medium_replies s.replies.items) first count → RoseBy (n + medium_replies s'.replies.items) first count') → (first : ℕ) → HasCounted faults first s count → HasCounted faults first s' count'
step_counts faults s s' word cut count count' c stays h has does counts rises answers first x =
    subst (λ (sh : Sheet). HasCountedBy faults first sh.ios.items (plan_in sh) s'.machine s'.kept.held.items s'.replies.items count') (sym stays.sheet)
    (other_counts faults first s.sheet.ios.items (plan_in s.sheet) s.machine s'.machine s.kept.held.items s'.kept.held.items s.replies.items s'.replies.items count count' word cut c h has does counts rises (λ n. answers n first) x)

pub still_counts : (faults : List FaultLine) (s s' : Stack) (word cut count count' : ℕ) (c : Choice) → SendsNot c → KeepsMarks c → StackStays s s' → Chooses (plan_in s.sheet) s.machine word c → HasStep (plan_in s.sheet) s.machine → Does (plan_in s.sheet) s.machine c cut s'.machine → s'.kept ≡ s.kept → count ≤ count' →
    ((n first : ℕ) → RoseBy (n + medium_replies s.replies.items) first count → RoseBy (n + medium_replies s'.replies.items) first count') → (first : ℕ) → HasCounted faults first s count → HasCounted faults first s' count'
still_counts faults s s' word cut count count' c n k stays h has does kept rises answers first x =
    let ios = s.sheet.ios.items in
    step_counts faults s s' word cut count count' c stays h has does (subst (λ (f : Fates). Counts faults ios (plan_in s.sheet) s.machine c s.kept.held.items f.held.items) (sym kept) (counts_same faults ios (plan_in s.sheet) s.machine c s.kept.held.items n k)) rises answers first x

-- where no more replies are so
pub few_counts : (replies replies' : List Reply) (count : ℕ) → medium_replies replies' ≤ medium_replies replies → (n first : ℕ) → RoseBy (n + medium_replies replies) first count → RoseBy (n + medium_replies replies') first count
few_counts replies replies' count l n first x = no_more_replies replies replies' first count count (omega arith) l n x

pub same_counts : (replies replies' : List Reply) (count : ℕ) → replies' ≡ replies → (n first : ℕ) → RoseBy (n + medium_replies replies) first count → RoseBy (n + medium_replies replies') first count
same_counts replies replies' count e n first x = subst (λ (rs : List Reply). RoseBy (n + medium_replies rs) first count) (sym e) x

pub sent_counts : (s s' : Stack) (armed : List FaultLine) (word d i count count' : ℕ) → StackStays s s' → Chooses (plan_in s.sheet) s.machine word (Send d i) → HasStep (plan_in s.sheet) s.machine → Spoils (plan_in s.sheet) s.machine d i s'.machine armed count count' → s'.kept ≡ s.kept → s'.replies.items ≡ s.replies.items → (first : ℕ) → HasCounted armed first s count → HasCounted armed first s' count'
sent_counts s s' armed word d i count count' stays h has spoils kept replies first x =
    let ios = s.sheet.ios.items in
    subst (λ (sh : Sheet). HasCountedBy armed first sh.ios.items (plan_in sh) s'.machine s'.kept.held.items s'.replies.items count') (sym stays.sheet)
    (subst (λ (f : Fates). HasCountedBy armed first ios (plan_in s.sheet) s'.machine f.held.items s'.replies.items count') (sym kept)
    (subst (λ (rs : List Reply). HasCountedBy armed first ios (plan_in s.sheet) s'.machine s.kept.held.items rs count') (sym replies)
    (group_counts first ios (plan_in s.sheet) s.machine s'.machine s.kept.held.items s.replies.items armed count count' word d i h has spoils x)))

-- where the count stays, no reply says that an overwrite failed
pub still_silent : (replies replies' : List Reply) (count count' : ℕ) → FailsCounted replies replies' count count' → Calm count count' → medium_replies replies ≡ 0 → medium_replies replies' ≡ 0
still_silent replies replies' count count' fails calm z = by (fails 0 count (inl (omega (arith, z)))) where
  by : RoseBy (0 + medium_replies replies') count count' → medium_replies replies' ≡ 0
  by (inl h) = let a = calm.0 in omega arith
  by (inr h) = let a = calm.1 in absurd (omega arith)

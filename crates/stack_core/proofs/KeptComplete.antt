-- Bad blocks are kept when a stack completes a command.
use Rattle.std.proofs.Common.{◌≡◌, ℕ, List, [], length, sym, ap, subst, ◌∙◌}
use Rattle.std.specs.List.{All}
use Rattle.std.proofs.lemmas.Bool.{not-true}
use Rattle.pi_tuple.specs.declared.checks.PiType.{PiType}
use Rattle.block_path.specs.declared.mode.Mode.{Mode}
use Rattle.bio_core.specs.declared.bio.Bio.{Bio}
use Rattle.bio_core.specs.declared.fate.Fate.{Fate}
use Rattle.merge_queue.specs.Groups.{size}
use Rattle.stack_laws.specs.Steps.{Complete as StepComplete, can, step}
use Rattle.stack_laws.specs.View.{command_at}
use Rattle.stack_steps.specs.declared.choice.Choice.TheVariants.{Complete}
use Rattle.stack_steps.specs.Does.{Lands, Ready}
use Rattle.stack_core.specs.declared.stack.Stack.{Stack}
use Rattle.stack_core.specs.OnRecord.{AreTraced, Traces}
use Rattle.stack_walk_laws.specs.Settled.{AllSettled, KeptFates}
use Rattle.stack_walk_laws.specs.Settling.{AreFates, IsOf}
use Rattle.stack_core.specs.Stacks.{IsStack, plan_in}
use Rattle.stack_walk_laws.proofs.Chained.{all_each, blocks_long}
use Rattle.stack_walk_laws.proofs.Facts.{completed, request-at}
use Rattle.stack_core.proofs.KeptBad.{completed_traced}
use Rattle.stack_core.proofs.WalkedFar.{starts_stay}

pub traces_complete : (s : Stack) (i : ℕ) (bios : List Bio) (fates : List Fate) (mode : Mode) (ty : PiType) (pages pages' : List (List ℕ)) (starts' : List ℕ) (held' : List Fate) → IsStack s → Ready (plan_in s.sheet) s.machine (Complete i) → Lands (plan_in s.sheet) s.machine i bios fates → AreFates s.sheet.ios.items starts' held' →
    AllSettled mode ty s.sheet.ios.items s.kept.starts.items bios fates (length bios) (record { pages = pages; held = s.kept.held.items }) (record { pages = pages'; held = held' }) →
    Traces (plan_in s.sheet) s.machine (Complete i) s.kept.starts.items s.kept.held.items starts' held'
traces_complete s i bios fates mode ty pages pages' starts' held' k rd lands kept' settles v t cut x able mean h =
    let sh = s.sheet in
    let p = plan_in sh in
    let ios = sh.ios.items in
    let starts = s.kept.starts.items in
    let old : KeptFates = record { pages = pages; held = s.kept.held.items } in
    let new : KeptFates = record { pages = pages'; held = held' } in
    let l = lands v t x mean in
    let j = l.0 in
    let is : t ≡ StepComplete j = l.1.0 in
    let cmd = command_at v j in
    let live = not-true cmd.completed (ap (can p v) (sym is) ∙ able) in
    let done = completed sh.ops sh.shifted.items ios sh.table sh.limits sh.devices s.machine i bios fates sh.right.fine rd lands in
    let of : All (IsOf ios) cmd.bios = subst (All (IsOf ios)) l.1.1.0 done.of in
    let each : size cmd.bios ≡ length cmd.fates = ap size (sym l.1.1.0) ∙ (done.each ∙ ap length l.1.1.1) in
    let settled : AllSettled mode ty ios starts cmd.bios cmd.fates (length cmd.bios) old new
    = subst (λ fs. AllSettled mode ty ios starts cmd.bios fs (length cmd.bios) old new) l.1.1.1 (subst (λ bs. AllSettled mode ty ios starts bs fates (length bs) old new) l.1.1.0 settles) in
    let same : starts ≡ starts' = sym (starts_stay ios starts starts' s.kept.held.items held' k.kept kept') in
    let traced : AreTraced (step p v (StepComplete j) cut []).ops starts held' (step p v (StepComplete j) cut []).commands
    = completed_traced mode ty ios starts p v x.shows.sound (λ a. ap (λ r. r.count) (request-at ios a)) j live of old new k.kept (sym (blocks_long mode ty ios starts cmd.bios ∙ each)) (all_each mode ty ios starts cmd.bios cmd.fates old new each settled) h in
    subst (λ y. AreTraced (step p v y cut []).ops starts' held' (step p v y cut []).commands) (sym is) (subst (λ y. AreTraced (step p v (StepComplete j) cut []).ops y held' (step p v (StepComplete j) cut []).commands) same traced)

-- Where no block is listed for the medium, but for those of which a fault line says that it fails them, no store call failed, and the walk in which some fail is the walk.
use Rattle.std.proofs.Common.{◌≡◌, ℕ, Bool, true, false, if◌then◌else◌, List, [], Option, Some, None, refl, sym, subst, ◌∙◌}
use Rattle.std.specs.Prelude.{IfSome}
use Rattle.block_path.specs.Acts.{State}
use Rattle.block_path.specs.Blocks.{Sent}
use Rattle.fault_schedule.specs.Altered.{fails_of}
use Rattle.fault_schedule.specs.declared.Label.{Label}
use Rattle.fault_schedule.specs.declared.fault.FaultLine.{FaultLine}
use Rattle.run_laws.specs.Passed.{Setting, Op}
use Rattle.stack_walk_laws.specs.Following.{Follows}
use Rattle.stack_walk_laws.specs.Slots.{Status}
use Rattle.stack_walk_laws.specs.Falls.{Falls, forgive, forgiven, none_falls, over_falls, put_really, writes_of}
use Rattle.stack_walk_laws.specs.FollowsFalling.{AllFallen, FallsAside, FollowsFalling, HasFallen}

none_of : (o : Option (List ℕ)) (P Q : Type 0) → (P → Q → ⊥) → IfSome o (λ left. P) → IfSome o (λ left. Q) → o ≡ None
none_of None P Q never p q = refl
none_of (Some left) P Q never p q = absurd (never p q)

no_fall : (faults : List FaultLine) (falls : Falls) (status : ℕ → ℕ → Status) → ((i k : ℕ) → HasFallen (status i k) → fails_of faults (record { op = i; k = k }) ≡ false → ⊥) → AllFallen falls status → FallsAside faults falls → (label : Label) → falls label ≡ None
no_fall faults falls status never h aside label = none_of (falls label) (HasFallen (status label.op label.k)) (fails_of faults label ≡ false) (never label.op label.k) (h label.op label.k) (aside label)

as_told : (ops : List Op) (status : ℕ → ℕ → Status) (i k : ℕ) → forgiven ops none_falls status i k ≡ status i k
as_told ops status i k = by (writes_of ops i) where
  by : (c : Bool) → forgive (if c then None else None) (status i k) ≡ status i k
  by true = refl
  by false = refl

pub none_fell : (m : Setting) (n : ℕ) (ops : List Op) (opening : State) (status : ℕ → ℕ → Status) (pages : List ℕ) (blocks : List (List ℕ)) (es : List Sent) → ((i k : ℕ) → HasFallen (status i k) → fails_of m.site.faults (record { op = i; k = k }) ≡ false → ⊥) →
    (f : FollowsFalling m n ops opening status pages blocks es) → Follows m n ops opening status f.after es
none_fell m n ops opening status pages blocks es never f =
    let none : f.falls ≡ none_falls = λ x label. no_fall m.site.faults f.falls status never f.fallen f.aside label x in
    let there = subst (λ falls. Follows (over_falls m falls) n ops opening (forgiven ops falls status) f.after f.told) none f.follows in
    let same : f.told ≡ es = sym (f.on_record ∙ subst (λ falls. put_really m.site f.falls f.told [] ≡ put_really m.site falls f.told []) none refl ∙ f.stamped) in
    subst (λ xs. Follows m n ops opening status f.after xs) same
    (subst (λ st. Follows m n ops opening st f.after f.told) (λ x i k. as_told ops status i k x) there)

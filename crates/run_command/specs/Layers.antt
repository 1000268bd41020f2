-- Why blocks are listed over a rig that tells its blocks: a layer that checks found them bad, or where the count of faults rises, the medium failed.
use Rattle.std.specs.Prelude.{◌≡◌, ℕ, suc, Bool, true, false, ◌&&◌, ◌||◌, List, [], ◌∷◌, All}
use Rattle.bio_core.specs.declared.fate.Why.{Why}
use Rattle.bio_core.specs.declared.fate.Why.TheVariants.{Adapter, App, Block, Medium, Refused, Short, Target}
use Rattle.fault_schedule.specs.Altered.{fails_of}
use Rattle.fault_schedule.specs.declared.fault.FaultLine.{FaultLine}
use Rattle.block_path.specs.Senses.{is_medium_why}
use Rattle.stack_ops.specs.declared.reply.BadBlock.{BadBlock}
use Rattle.stack_ops.specs.declared.reply.Reply.{Reply}
use Rattle.stack_ops.specs.declared.reply.Reply.TheVariants as reply

-- the check of a layer: of the adapter, the target, the block layer or the application
abbrev pub is_finding : Why → Bool
is_finding (Adapter check) = true
is_finding (Target check) = true
is_finding (Block check) = true
is_finding (App check) = true
is_finding Medium = false
is_finding (Refused key asc ascq) = false
is_finding Short = false

-- The block, which the reply of this op lists, has such a finding, or a fault line says that the medium fails it.
abbrev pub is_named : List FaultLine → (op : ℕ) → BadBlock → Bool
is_named faults op b = is_finding b.why || (is_medium_why b.why && fails_of faults (record { op = op; k = b.k }))

-- Each block that the reply lists is so, and it isn't the reply of an overwrite that failed.
abbrev pub NamesThose : List FaultLine → (op : ℕ) → Reply → Type 0
NamesThose faults op reply.Silent = Unit {0}
NamesThose faults op reply.Whole = Unit {0}
NamesThose faults op (reply.Bad blocks) = All (λ (b : BadBlock). is_named faults op b ≡ true) blocks
NamesThose faults op (reply.Shown bytes) = Unit {0}
NamesThose faults op reply.Medium = ⊥

-- So each of these replies, from that of this op on.
abbrev pub AllNamed : List FaultLine → (op : ℕ) → List Reply → Type 0
AllNamed faults op [] = Unit {0}
AllNamed faults op (reply ∷ replies) = NamesThose faults op reply × AllNamed faults (suc op) replies

-- or the medium failed
abbrev pub is_fault : Why → Bool
is_fault (Adapter check) = true
is_fault (Target check) = true
is_fault (Block check) = true
is_fault (App check) = true
is_fault Medium = true
is_fault (Refused key asc ascq) = false
is_fault Short = false

-- Each block that the reply lists has such a finding, or the medium failed it: it isn't listed as refused or short.
abbrev pub NamesFaults : Reply → Type 0
NamesFaults reply.Silent = Unit {0}
NamesFaults reply.Whole = Unit {0}
NamesFaults (reply.Bad blocks) = All (λ (b : BadBlock). is_fault b.why ≡ true) blocks
NamesFaults (reply.Shown bytes) = Unit {0}
NamesFaults reply.Medium = Unit {0}

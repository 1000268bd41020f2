-- A rig goes on from step to step.
use Rattle.std.proofs.Common.{◌≡◌, ◌≤◌, Bool, true, false, [], refl, sym, ◌∙◌, arith, append-nil}
use Rattle.bio_core.specs.declared.request.Dir.{Dir}
use Rattle.bio_core.specs.declared.request.Dir.TheVariants.{Read, Write}
use Rattle.rig_api.specs.State.{RigState}
use Rattle.stack_core.specs.Stacks.{GoesOn}

-- its records are as before
pub goes-as-before : (old new : RigState) → new.standing ≡ old.standing → new.log ≡ old.log → old.faults ≤ new.faults → GoesOn old new
goes-as-before old new e l f = record { standing = e; more = []; records = l ∙ sym (append-nil old.log); faults = f }

pub goes-nowhere : (s : RigState) → GoesOn s s
goes-nowhere s = goes-as-before s s refl refl (omega arith)

-- a group goes one of three ways
pub either-way : (P : Type 0) (d : Dir) (bad : Bool) → (d ≡ Write → bad ≡ true → P) → (d ≡ Write → bad ≡ false → P) → (d ≡ Read → P) → P
either-way P Read bad held sent fetched = fetched refl
either-way P Write true held sent fetched = held refl refl
either-way P Write false held sent fetched = sent refl refl

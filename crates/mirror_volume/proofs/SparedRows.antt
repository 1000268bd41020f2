-- The premises of a block that is spared can be met: leg 0 of the one block of a formatted mirror is overwritten, so that its guard is wrong, and it is read.
use Rattle.std.proofs.Common.{◌≡◌, ◌<◌, ◌≤◌, inr, ℕ, zero, suc, ◌+◌, Bool, true, false, List, [], ◌∷◌, Some, refl, sym, subst, ◌∙◌, arith}
use Rattle.std.specs.Prelude.{is_some}
use Rattle.std.proofs.lemmas.Bool.{false≢true}
use Rattle.pi_guard.specs.Guards.{crc}
use Rattle.rig_api.specs.Passing.{found_in}
use Rattle.rig_api.specs.State.{RigState}
use Rattle.rig_api.specs.Target.{Stored}
use Rattle.rig_api.specs.Telling.{block_at, changed, with_block}
use Rattle.rig_api.specs.declared.change.Change.{Change}
use Rattle.rig_api.specs.declared.change.Change.TheVariants.{Flip}
use Rattle.stack_ops.specs.Ops.{first_virt}
use Rattle.stack_ops.specs.declared.op.Op.TheVariants.{Fetch, Overwrite}
use Rattle.walk_laws.specs.Detectable.{found}
use Rattle.walk_laws.specs.FirstLayer.{AtTarget}
use Rattle.walk_laws.specs.Past.{Brought}
use Rattle.walk_laws.specs.UnderMap.{IsClean, address_of}
use Rattle.script_text.specs.declared.script.Script.{Script}
use Rattle.mirror_laws.specs.Mirror.{blocks_in}
use Rattle.mirror_volume.specs.OnOps.{Sides}
use Rattle.mirror_volume.specs.Rows.{devices, script, us}
use Rattle.mirror_volume.specs.Spared.{IsFoundFrom, IsShownOverwrite, IsUnaltered, LeavesRight, has_block, named_on, place_on, stored_on}
use Rattle.mirror_volume.specs.Standing.{mirror_setting, op_at}

abbrev pub flipped : Change
flipped = Flip 0 (1 ∷ [])

abbrev pub spared_script : Script
spared_script = record script {
  faults = [];
  ops = Overwrite 0 0 flipped ∷ Fetch 0 1 (record { page = 0; off = 0; len = 512 } ∷ []) ∷ [];
  lines = 9 ∷ 10 ∷ [];
}

-- the units behind the overwrite
abbrev pub behind : List Stored
behind = with_block us 0 0 (changed us flipped (block_at us 0 0))

clean : (leg : Bool) → IsClean (mirror_setting spared_script devices us) (address_of (mirror_setting spared_script devices us) (place_on spared_script devices leg 0)) (stored_on spared_script devices us us leg 0)
unfolding crc
clean false = record { no_escape = refl; guard = refl; app = refl; rtag = λ h. refl }
clean true = record { no_escape = refl; guard = refl; app = refl; rtag = λ h. refl }

right : (k : ℕ) → k < 2 → LeavesRight spared_script devices us 0 true (op_at spared_script.ops k)
right zero l = λ h. (let z : 0 ≡ 1 = h.0 in omega (arith, z))
right (suc zero) l = tt
right (suc (suc k)) l = absurd (omega (arith, l))

pub unaltered_row : IsUnaltered spared_script devices us 0 true
unaltered_row = record {
  ty = refl;
  protect = refl;
  inside = omega arith;
  clean = clean;
  equal = refl;
  unnamed = λ k at a. false≢true a.flips;
  shown = λ k at a. absurd (false≢true a.flips);
  apart = λ j k a b. false≢true a.flips;
  stored_whole = λ k under here on. refl;
  right = right;
}

-- The target's check finds what it leaves in the read.
found_there : (j : ℕ) → 1 ≤ j → j < 2 → has_block (first_virt (op_at spared_script.ops j)) (blocks_in (op_at spared_script.ops j)) 0 ≡ true
    → is_some (found (mirror_setting spared_script devices us) (named_on spared_script devices false 0 (op_at spared_script.ops j) (j + 1)) (stored_on spared_script devices us behind false 0) AtTarget) ≡ true
unfolding crc found_in
found_there zero from under here = absurd (omega (arith, from))
found_there (suc zero) from under here = refl
found_there (suc (suc j)) from under here = absurd (omega (arith, under))

pub shown_row : (now : Sides) (after : RigState) (e : Brought) → after.units ≡ Some behind → IsShownOverwrite spared_script devices us false 0 0 (op_at spared_script.ops 0) now after e
shown_row now after e told dev lba change left is there live known =
    let same : Some behind ≡ Some left = sym told ∙ known in
    let its : behind ≡ left = cc in
    inr (subst (λ (z : List Stored). IsFoundFrom spared_script devices us false 0 1 (stored_on spared_script devices us z false 0)) its found_there)

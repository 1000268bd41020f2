-- The command of a group transfers its blocks.
use Rattle.std.proofs.Common.{◌≡◌, ℕ, true, false, not, ◌&&◌, eqb, refl, ap, ◌∙◌, ⊎_elim}
use Rattle.std.proofs.lemmas.Bool.{cases_Bool}
use Rattle.pi_tuple.specs.declared.checks.PiType.{PiType}
use Rattle.cdb_codec.specs.declared.choice.Dir2.{Dir2}
use Rattle.cdb_codec.specs.declared.choice.Dir2.TheVariants.{In, Out}
use Rattle.cdb_codec.specs.Forms.{Fits, form}
use Rattle.cdb_codec.specs.Rule.{chosen, fits_10, is_two}
use Rattle.cdb_codec.proofs.Inverse.{decoded_form}
use Rattle.rig_api.specs.Passed.{blocks_in, blocks_of, request_of, transferred}
use Rattle.rig_api.specs.Log.{HasRoom, Room, capacity_by, capacity_len, capacity_under}
use Rattle.dix_adapter.specs.declared.adapter.Adapter.{Adapter}
use Rattle.dix_adapter.specs.Carried.{command_for}

transfers : (ty : PiType) (dir : Dir2) (lba n protect app mask : ℕ) → transferred (request_of (chosen ty dir lba n protect app mask)) ≡ n
transfers ty In lba n protect app mask =
    ⊎_elim
    (λ (e : (is_two ty && not (eqb protect 0)) ≡ true). rw e refl)
    (λ (e : (is_two ty && not (eqb protect 0)) ≡ false).
    ⊎_elim (λ (f : fits_10 lba n ≡ true). rw (e, f) refl) (λ (f : fits_10 lba n ≡ false). rw (e, f) refl) (cases_Bool (fits_10 lba n)))
    (cases_Bool (is_two ty && not (eqb protect 0)))
transfers ty Out lba n protect app mask =
    ⊎_elim
    (λ (e : (is_two ty && not (eqb protect 0)) ≡ true). rw e refl)
    (λ (e : (is_two ty && not (eqb protect 0)) ≡ false).
    ⊎_elim (λ (f : fits_10 lba n ≡ true). rw (e, f) refl) (λ (f : fits_10 lba n ≡ false). rw (e, f) refl) (cases_Bool (fits_10 lba n)))
    (cases_Bool (is_two ty && not (eqb protect 0)))

no-capacity : (ty : PiType) (dir : Dir2) (lba n protect app mask room : ℕ) → capacity_by (request_of (chosen ty dir lba n protect app mask)) room ≡ 0
no-capacity ty In lba n protect app mask room =
    ⊎_elim
    (λ (e : (is_two ty && not (eqb protect 0)) ≡ true). rw e refl)
    (λ (e : (is_two ty && not (eqb protect 0)) ≡ false).
    ⊎_elim (λ (f : fits_10 lba n ≡ true). rw (e, f) refl) (λ (f : fits_10 lba n ≡ false). rw (e, f) refl) (cases_Bool (fits_10 lba n)))
    (cases_Bool (is_two ty && not (eqb protect 0)))
no-capacity ty Out lba n protect app mask room =
    ⊎_elim
    (λ (e : (is_two ty && not (eqb protect 0)) ≡ true). rw e refl)
    (λ (e : (is_two ty && not (eqb protect 0)) ≡ false).
    ⊎_elim (λ (f : fits_10 lba n ≡ true). rw (e, f) refl) (λ (f : fits_10 lba n ≡ false). rw (e, f) refl) (cases_Bool (fits_10 lba n)))
    (cases_Bool (is_two ty && not (eqb protect 0)))

pub command-blocks : (a : Adapter) (dir : Dir2) (lba n : ℕ) → Fits (command_for a dir lba n) → blocks_of (form (command_for a dir lba n)) ≡ n
command-blocks a dir lba n f = ap blocks_in (decoded_form (command_for a dir lba n) f) ∙ transfers a.ty dir lba n _ a.app a.mask

pub command-capacity : (a : Adapter) (dir : Dir2) (lba n room : ℕ) → Fits (command_for a dir lba n) → capacity_len (form (command_for a dir lba n)) room ≡ 0
command-capacity a dir lba n room f = ap (λ r. capacity_under r room) (decoded_form (command_for a dir lba n) f) ∙ no-capacity a.ty dir lba n _ a.app a.mask room

-- room for the group is room for its command
pub command-room : (a : Adapter) (dir : Dir2) (lba n size : ℕ) (cdb₁ cdb₂ : _) (r : Room) → Fits (command_for a dir lba n) → cdb₁ ≡ form (command_for a dir lba n) → cdb₂ ≡ cdb₁ → HasRoom size 1 n r → HasRoom size 1 (blocks_of cdb₂) r
command-room a dir lba n size cdb₁ cdb₂ r f e g h = rw (g ∙ e) (rw (command-blocks a dir lba n f) h)

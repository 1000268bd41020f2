-- What the translated command asks of a unit.
use Rattle.std.proofs.Common.{◌≡◌, ℕ, ◌+◌, Bool, true, false, not, ◌&&◌, eqb, refl, ap, ◌∙◌}
use Rattle.std.specs.Prelude.{if◌then◌else◌}
use Rattle.pi_tuple.specs.Finds.{is_zero}
use Rattle.pi_tuple.specs.declared.checks.PiType.{PiType}
use Rattle.pi_tuple.specs.declared.checks.PiType.TheVariants.{Zero, One, Two, Three}
use Rattle.cdb_codec.specs.Forms.{Fits, form}
use Rattle.cdb_codec.specs.Rule.{fits_10, in_10, in_16, in_32, is_two, untagged}
use Rattle.cdb_codec.specs.declared.command.Rw.{Rw}
use Rattle.cdb_codec.specs.declared.choice.Dir2.TheVariants.{In, Out}
use Rattle.cdb_codec.proofs.Inverse.{decoded_form}
use Rattle.rig_api.specs.Frames.{sent_size, stored_size}
use Rattle.rig_api.specs.Requests.{blocks_in, blocks_of, is_foreign, request_of, transferred}
use Rattle.rig_api.specs.declared.request.Request.{Request}
use Rattle.rig_api.specs.declared.request.Request.TheVariants.{Read, Write}
use Rattle.rig_api.specs.Log.{capacity_by, capacity_len, capacity_under}
use Rattle.nvme_front.specs.Commands.{is_write}
use Rattle.nvme_front.specs.Translation.{protect_for, scsi_command, tagged}
use Rattle.nvme_front.specs.declared.command.NvmCommand.{NvmCommand}

abbrev pub with_way : Bool → Rw → Request
with_way true c = Write c
with_way false c = Read c

abbrev pub fields_of : PiType → NvmCommand → Rw
fields_of ty c = if is_two ty then tagged c else untagged c.first c.count (protect_for ty c.prchk)

long-form : (b : Bool) (c : Rw) → request_of (in_32 (if b then Out else In) c) ≡ with_way b c
long-form true c = refl
long-form false c = refl

short-form : (b f : Bool) (c : Rw) → request_of (if f then in_10 (if b then Out else In) c else in_16 (if b then Out else In) c) ≡ with_way b c
short-form true true c = refl
short-form true false c = refl
short-form false true c = refl
short-form false false c = refl

pub requested : (ty : PiType) (c : NvmCommand) → request_of (scsi_command ty c) ≡ with_way (is_write c) (fields_of ty c)
requested Zero c = short-form (is_write c) (fits_10 c.first c.count) (fields_of Zero c)
requested One c = short-form (is_write c) (fits_10 c.first c.count) (fields_of One c)
requested Two c = long-form (is_write c) (tagged c)
requested Three c = short-form (is_write c) (fits_10 c.first c.count) (fields_of Three c)

long-own : (b : Bool) (c : Rw) → is_foreign Two (in_32 (if b then Out else In) c) ≡ false
long-own true c = refl
long-own false c = refl

short-own : (ty : PiType) (b f : Bool) (c : Rw) → is_two ty ≡ false → is_foreign ty (if f then in_10 (if b then Out else In) c else in_16 (if b then Out else In) c) ≡ false
short-own ty true true c e = rw e refl
short-own ty true false c e = rw e refl
short-own ty false true c e = rw e refl
short-own ty false false c e = rw e refl

pub own-form : (ty : PiType) (c : NvmCommand) → is_foreign ty (scsi_command ty c) ≡ false
own-form Zero c = short-own Zero (is_write c) (fits_10 c.first c.count) (fields_of Zero c) refl
own-form One c = short-own One (is_write c) (fits_10 c.first c.count) (fields_of One c) refl
own-form Two c = long-own (is_write c) (tagged c)
own-form Three c = short-own Three (is_write c) (fits_10 c.first c.count) (fields_of Three c) refl

pub tuples-there : (ty : PiType) (c : NvmCommand) → (is_zero ty && not (eqb (fields_of ty c).protect 0)) ≡ false
tuples-there Zero c = refl
tuples-there One c = refl
tuples-there Two c = refl
tuples-there Three c = refl

with-tuple : (a b : Bool) (size : ℕ) → sent_size (if a then 3 else (if b then 4 else 1)) size ≡ size + 8
with-tuple true b size = refl
with-tuple false true size = refl
with-tuple false false size = refl

-- a block is as long on the wire as it is stored
pub width-is : (ty : PiType) (c : NvmCommand) (size : ℕ) → sent_size (fields_of ty c).protect size ≡ stored_size ty size
width-is Zero c size = refl
width-is One c size = with-tuple (eqb c.prchk 0) (eqb c.prchk 4) size
width-is Two c size = with-tuple (eqb c.prchk 0) (eqb c.prchk 4) size
width-is Three c size = with-tuple (eqb c.prchk 0) (eqb c.prchk 4) size

pub count-is : (ty : PiType) (c : NvmCommand) → (fields_of ty c).n ≡ c.count
count-is Zero c = refl
count-is One c = refl
count-is Two c = refl
count-is Three c = refl

moves : (b : Bool) (r : Rw) → transferred (with_way b r) ≡ r.n
moves true r = refl
moves false r = refl

needs-none : (b : Bool) (r : Rw) (room : ℕ) → capacity_by (with_way b r) room ≡ 0
needs-none true r room = refl
needs-none false r room = refl

pub blocks-are : (ty : PiType) (c : NvmCommand) → Fits (scsi_command ty c) → blocks_of (form (scsi_command ty c)) ≡ c.count
blocks-are ty c f = ap blocks_in (decoded_form (scsi_command ty c) f) ∙ ap transferred (requested ty c) ∙ moves (is_write c) (fields_of ty c) ∙ count-is ty c

pub no-capacity : (ty : PiType) (c : NvmCommand) (room : ℕ) → Fits (scsi_command ty c) → capacity_len (form (scsi_command ty c)) room ≡ 0
no-capacity ty c room f = ap (λ r. capacity_under r room) (decoded_form (scsi_command ty c) f) ∙ ap (λ r. capacity_by r room) (requested ty c) ∙ needs-none (is_write c) (fields_of ty c) room

-- What follows of a command that was done.
use Rattle.std.proofs.Common.{◌≡◌, ◌≤◌, ◌<◌, ℕ, ◌-◌, Bool, true, false, ◌&&◌, ◌||◌, eqb, List, [], ◌∷◌, ◌++◌, length, refl, ap, sym, subst, ◌∙◌, arith, Option, Some, None}
use Rattle.std.specs.Prelude.{if◌then◌else◌, is_some}
use Rattle.std.proofs.lemmas.Bool.{eqb-true}
use Rattle.dix_base.specs.Told.{Rose}
use Rattle.cdb_codec.specs.Forms.{form}
use Rattle.sense_codes.specs.declared.Sense.{Sense}
use Rattle.rig_api.specs.Target.{Stop, Stored}
use Rattle.rig_api.specs.Log.{IsMedium, IsMediumSense, entry_of}
use Rattle.rig_api.specs.Telling.{IsAnswer, IsStanding, answer_of, spec_at, unit_at, units_told}
use Rattle.rig_api.specs.declared.rig.Outcome.{Outcome}
use Rattle.rig_api.specs.State.{Exchanged, RigState}
use Rattle.rig_api.proofs.State.{unlabelled-rose}
use Rattle.volume_table.specs.declared.device.DeviceInfo.{DeviceInfo}
use Rattle.nvme_front.specs.Answers.{HasNamespaces, Submitted, device_of}
use Rattle.nvme_front.specs.Buffers.{sent_by}
use Rattle.nvme_front.specs.Completions.{by_end, completed, is_internal, is_of_medium, says, success}
use Rattle.nvme_front.specs.Exchanges.{ExchangeDone}
use Rattle.nvme_front.specs.Results.{AnswersCalm, IsAnswered}
use Rattle.nvme_front.specs.Refusals.{device_at, has_namespace}
use Rattle.nvme_front.specs.Translation.{scsi_command}
use Rattle.nvme_front.specs.declared.command.NvmCommand.{NvmCommand}
use Rattle.nvme_front.specs.declared.completion.Completion.{Completion}
use Rattle.nvme_front.proofs.Answering.{Told, namespace-in, namespace-told, of-device}
use Rattle.nvme_front.proofs.Standing.{unit-whole}

-- the exchange, with the bytes as they stand in a buffer
pub with-bytes : (dev : ℕ) (cdb cdb' out out' before came : List ℕ) (o : Outcome) (old new : RigState) → cdb ≡ cdb' → out ≡ out' → Exchanged old new dev cdb [] out before came o → Exchanged old new dev cdb' [] out' before came o
with-bytes dev cdb cdb' out out' before came o old new e f x =
    subst (λ z. Exchanged old new dev cdb' [] z before came o) f (subst (λ z. Exchanged old new dev z [] out before came o) e x)

pub submitted : (dev : ℕ) (d : DeviceInfo) (c : NvmCommand) (body meta body' meta' : List ℕ) (result : Completion) (old new : RigState) → dev ≡ c.nsid - 1 → ExchangeDone dev d c body meta body' meta' result old new → Submitted d c old.standing body meta body' meta' result old.log new.log
submitted dev d c body meta body' meta' result old new e r = record {
  outcome = r.outcome;
  came = r.came;
  long = r.came_long;
  recorded = r.exchanged.recorded ∙ ap (λ n. old.log ++ (entry_of (spec_at old.standing n).size n (form (scsi_command d.ty c)) [] r.outcome (sent_by d.ty c d.size body meta) r.came ∷ [])) e;
  completion = r.result_is;
  body_is = r.body_is;
  meta_is = r.meta_is;
}

pub told-of : (devices : List DeviceInfo) (d : DeviceInfo) (c : NvmCommand) (body meta body' meta' : List ℕ) (result : Completion) (old new : RigState) (image : Option (List ℕ)) (us : List Stored) (stop : Option Stop) →
    (r : ExchangeDone (c.nsid - 1) d c body meta body' meta' result old new) → d ≡ device_at devices c.nsid → has_namespace devices c.nsid ≡ true → 1 ≤ c.count →
    HasNamespaces devices old.standing old.units → old.units ≡ units_told old.standing image → IsStanding old.standing image → old.units ≡ Some us →
    IsAnswer (answer_of us old.armed (c.nsid - 1) (form (scsi_command d.ty c)) [] (sent_by d.ty c d.size body meta) (length r.before) stop) us (c.nsid - 1) r.outcome new.units r.before r.came →
    Told (unit_at us (c.nsid - 1)) old.armed c body meta stop us (c.nsid - 1) result new.units body' meta'
told-of devices d c body meta body' meta' result old new image us stop r device there some has laid ready u said =
    let e : d ≡ device_of (unit_at us (c.nsid - 1)) = device ∙ namespace-told devices us c.nsid (has.told us u) there in
    let k = namespace-in devices c.nsid there in
    let l : c.nsid - 1 < old.standing.devices = (let a = k.0 in let b = k.1 in let n = has.count in omega arith) in
    let whole = unit-whole old.standing image us (c.nsid - 1) (sym laid ∙ u) ready l in
    of-device us (c.nsid - 1) d c old.armed body meta body' meta' r.before r.came stop r.outcome new.units result e r.fits some whole r.out_long r.before_long r.result_is r.body_is r.meta_is said

pub never-of : (devices : List DeviceInfo) (d : DeviceInfo) (c : NvmCommand) (body meta body' meta' : List ℕ) (result : Completion) (old new : RigState) (image : Option (List ℕ)) →
    ExchangeDone (c.nsid - 1) d c body meta body' meta' result old new → d ≡ device_at devices c.nsid → has_namespace devices c.nsid ≡ true → 1 ≤ c.count →
    HasNamespaces devices old.standing old.units → old.units ≡ units_told old.standing image → IsStanding old.standing image → is_some old.units ≡ true → is_internal result ≡ false
never-of devices d c body meta body' meta' result old new image r device there some has laid ready t = by old.units refl t
  where
    by : (u : Option (List Stored)) → old.units ≡ u → is_some u ≡ true → is_internal result ≡ false
    by None e h = absurd (let x : false ≡ true = h in cc)
    by (Some us) e h =
        let k = r.exchanged.stopped us e in
        (told-of devices d c body meta body' meta' result old new image us k.0 r device there some has laid ready e k.2).named

-- ---- Write Fault and Unrecovered Read Error are errors of the medium

six : (a b q x e f : Bool) → is_of_medium (if a then record { sct = 2; sc = 0x82 } else (if b then record { sct = 2; sc = 0x83 } else (if q then record { sct = 2; sc = 0x84 }
    else (if x then record { sct = 2; sc = 0x81 } else (if e then record { sct = 2; sc = 0x80 } else (if f then record { sct = 0; sc = 0x80 } else record { sct = 0; sc = 0x06 })))))) ≡ true → (x || e) ≡ true
six true b q x e f h = absurd (cc)
six false true q x e f h = absurd (cc)
six false false true x e f h = absurd (cc)
six false false false true e f h = refl
six false false false false true f h = refl
six false false false false false true h = absurd (cc)
six false false false false false false h = absurd (cc)

key-three : (k : ℕ) (a b : Bool) → ((eqb k 3 && a) || (eqb k 3 && b)) ≡ true → k ≡ 3
key-three k a b h = eqb-true k 3 (by (eqb k 3) a b h)
  where
    by : (x a b : Bool) → ((x && a) || (x && b)) ≡ true → x ≡ true
    by true a b h = refl
    by false a b h = h

of-end : (s : Option Sense) → is_of_medium (by_end s) ≡ true → IsMediumSense s
of-end None h = absurd (let x : false ≡ true = h in cc)
of-end (Some s) h = key-three s.key _ _ (six (says s 0x0B 0x10 1) (says s 0x0B 0x10 2) (says s 0x0B 0x10 3) (says s 0x03 0x11 0) (says s 0x03 0x0C 0) (says s 0x05 0x21 0) h)

of-completed : (n : ℕ) (o : Outcome) → is_of_medium (completed n o) ≡ true → IsMedium o
of-completed n o h = by (eqb o.done n) h
  where
    by : (b : Bool) → is_of_medium (if b then success else by_end o.sense) ≡ true → IsMediumSense o.sense
    by true h = absurd (let x : false ≡ true = h in cc)
    by false h = of-end o.sense h

pub medium-of : (n : ℕ) (o : Outcome) (result : Completion) (f f' : ℕ) → result ≡ completed n o → (IsMedium o → Rose f f') → is_of_medium result ≡ true → Rose f f'
medium-of n o result f f' e rose h = rose (of-completed n o (ap is_of_medium (sym e) ∙ h))

-- what a command that was done keeps
pub record Clauses (devices : List DeviceInfo) (c : NvmCommand) (body meta body' meta' : List ℕ) (result : Completion) (old new : RigState) : Type 0 where
  pub answered : IsAnswered devices c body meta body' meta' result old new
  pub calm : AnswersCalm c body meta body' meta' result old new

pub all-clauses : (devices : List DeviceInfo) (d : DeviceInfo) (c : NvmCommand) (body meta body' meta' : List ℕ) (result : Completion) (old new : RigState) (image : Option (List ℕ)) →
    ExchangeDone (c.nsid - 1) d c body meta body' meta' result old new → d ≡ device_at devices c.nsid → has_namespace devices c.nsid ≡ true → 1 ≤ c.count →
    HasNamespaces devices old.standing old.units → old.units ≡ units_told old.standing image → IsStanding old.standing image → Clauses devices c body meta body' meta' result old new
all-clauses devices d c body meta body' meta' result old new image r device there some has laid ready = record {
  answered = record {
    submitted = subst (λ (x : DeviceInfo). Submitted x c old.standing body meta body' meta' result old.log new.log) device (submitted (c.nsid - 1) d c body meta body' meta' result old new refl r);
    told = λ us u. (let k = r.exchanged.stopped us u in (k.0, k.1, (told-of devices d c body meta body' meta' result old new image us k.0 r device there some has laid ready u k.2).answer));
    never = never-of devices d c body meta body' meta' result old new image r device there some has laid ready;
    medium = medium-of c.count r.outcome result old.faults new.faults r.result_is (λ m. unlabelled-rose old.armed r.outcome.done old.faults new.faults (r.exchanged.medium m));
  };
  calm = λ us u calm. (told-of devices d c body meta body' meta' result old new image us None r device there some has laid ready u (r.exchanged.calm us u calm)).answer;
}

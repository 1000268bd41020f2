-- A command that is done over a rig that tells its blocks is the unit's answer, translated.
use Rattle.std.proofs.Common.{◌≡◌, ◌≤◌, ◌<◌, ℕ, zero, suc, ◌+◌, ◌-◌, ◌*◌, ◌%◌, ◌^◌, Bool, true, false, not, ◌&&◌, eqb, ltb, List, [], ◌∷◌, length, map, refl, ap, sym, subst, ◌∙◌, arith, ⊎_elim, Option, Some, None}
use Rattle.std.specs.Prelude.{if◌then◌else◌, replicate, slice_index_or}
use Rattle.std.proofs.lemmas.Bool.{cases_Bool, eqb-true}
use Rattle.pi_tuple.specs.Finds.{is_zero}
use Rattle.pi_tuple.specs.Tuples.{ref_tag}
use Rattle.rig_api.specs.Passing.{is_one}
use Rattle.pi_tuple.specs.declared.checks.PiType.{PiType}
use Rattle.cdb_codec.specs.Forms.{Fits, form}
use Rattle.sense_codes.specs.declared.Sense.{Sense}
use Rattle.fault_schedule.specs.declared.fault.FaultLine.{FaultLine}
use Rattle.rig_api.specs.Frames.{joined, stored_size}
use Rattle.rig_api.specs.Target.{Answer, Stop, Stored, target_answer}
use Rattle.rig_api.specs.Telling.{IsAnswer, answer_of, unit_at}
use Rattle.rig_api.specs.declared.rig.Outcome.{Outcome}
use Rattle.rig_api.proofs.UnitLaws.{fills}
use Rattle.volume_table.specs.declared.device.DeviceInfo.{DeviceInfo}
use Rattle.nvme_front.specs.Answers.{IsNvmAnswer, device_of, nvm_answer, outcome_of}
use Rattle.nvme_front.specs.Buffers.{body_after, data_in, filled, frames_out, meta_after, meta_in, room_for, sent_by}
use Rattle.nvme_front.specs.Commands.{command_in, is_read, is_write}
use Rattle.nvme_front.specs.Completions.{by_end, completed, is_internal, is_success, out_of_range, says, success}
use Rattle.nvme_front.specs.Refusals.{binds, by_type, device_at, first_of, has_namespace, invalid_field, invalid_namespace, invalid_opcode, invalid_protection, is_three, no_device, refusal, takes}
use Rattle.nvme_front.specs.Translation.{scsi_command}
use Rattle.nvme_front.specs.declared.command.NvmCommand.{NvmCommand}
use Rattle.nvme_front.specs.declared.completion.Completion.{Completion}
use Rattle.nvme_front.proofs.Ending.{AllLong, Asks, IsNamed, ReadEnds, read-ends, write-ends}
use Rattle.nvme_front.proofs.Requests.{count-is, fields_of, own-form, requested, tuples-there, width-is, with_way}

-- ---- buffers

pub filled-same : (c : NvmCommand) (done : Completion) (old x y : List ℕ) → (is_write c ≡ false → is_success done ≡ true → x ≡ y) → filled c done old x ≡ filled c done old y
filled-same c done old x y h = by (is_write c) (is_success done) h
  where
    by : (w s : Bool) → (w ≡ false → s ≡ true → x ≡ y) → (if w then old else (if s then x else replicate (length old) 0)) ≡ (if w then old else (if s then y else replicate (length old) 0))
    by true s h = refl
    by false true h = h refl refl
    by false false h = refl

-- ---- completions

fails : (a b c d e f : Bool) → is_success (if a then record { sct = 2; sc = 0x82 } else (if b then record { sct = 2; sc = 0x83 } else (if c then record { sct = 2; sc = 0x84 }
    else (if d then record { sct = 2; sc = 0x81 } else (if e then record { sct = 2; sc = 0x80 } else (if f then record { sct = 0; sc = 0x80 } else record { sct = 0; sc = 0x06 })))))) ≡ false
fails true b c d e f = refl
fails false true c d e f = refl
fails false false true d e f = refl
fails false false false true e f = refl
fails false false false false true f = refl
fails false false false false false true = refl
fails false false false false false false = refl

end-fails : (s : Option Sense) → is_success (by_end s) ≡ false
end-fails None = refl
end-fails (Some s) = fails (says s 0x0B 0x10 1) (says s 0x0B 0x10 2) (says s 0x0B 0x10 3) (says s 0x03 0x11 0) (says s 0x03 0x0C 0) (says s 0x05 0x21 0)

done-all : (n : ℕ) (o : Outcome) → is_success (completed n o) ≡ true → o.done ≡ n
done-all n o h =
    ⊎_elim
    (λ (t : eqb o.done n ≡ true). eqb-true o.done n t)
    (λ (t : eqb o.done n ≡ false). absurd (let x : false ≡ true = sym (end-fails o.sense) ∙ sym (ap (λ b. is_success (if b then success else by_end o.sense)) t) ∙ h in cc))
    (cases_Bool (eqb o.done n))

-- ---- the translation

asks : (unit : Stored) (c : NvmCommand) → Fits (scsi_command unit.ty c) → 1 ≤ c.count → Asks unit (scsi_command unit.ty c) (fields_of unit.ty c) (stored_size unit.ty unit.size)
asks unit c f h = record {
  fits = f;
  own = own-form unit.ty c;
  tuples = tuples-there unit.ty c;
  width = width-is unit.ty c unit.size;
  some = subst (λ n. 1 ≤ n) (sym (count-is unit.ty c)) h;
}

-- the bytes that go out
abbrev pub sent_long : PiType → NvmCommand → (size : ℕ) → (out : List ℕ) → Type 0
sent_long ty c size out = is_write c ≡ true → length out ≡ c.count * stored_size ty size

-- how it ends
pub record Ends (c : NvmCommand) (room : ℕ) (a : Answer) : Type 0 where
  pub named : IsNamed c.count (outcome_of a)
  pub long : is_write c ≡ false → a.done ≡ c.count → length (joined a.sent) ≡ room

ends : (unit : Stored) (c : NvmCommand) (armed : List FaultLine) (body meta : List ℕ) (stop : Option Stop) → Fits (scsi_command unit.ty c) → 1 ≤ c.count → AllLong (stored_size unit.ty unit.size) unit.blocks → sent_long unit.ty c unit.size (sent_by unit.ty c unit.size body meta) →
    Ends c (room_for unit.ty c unit.size) (target_answer unit armed (form (scsi_command unit.ty c)) [] (sent_by unit.ty c unit.size body meta) (room_for unit.ty c unit.size) stop)
ends unit c armed body meta stop f h whole long = by (is_write c) refl
  where
    by : (b : Bool) → is_write c ≡ b → Ends c (room_for unit.ty c unit.size) (target_answer unit armed (form (scsi_command unit.ty c)) [] (sent_by unit.ty c unit.size body meta) (room_for unit.ty c unit.size) stop)
    by true e =
        let k = asks unit c f h in
        let n = count-is unit.ty c in
        let q = requested unit.ty c ∙ ap (λ b. with_way b (fields_of unit.ty c)) e in
        let z : room_for unit.ty c unit.size ≡ 0 = ap (λ b. if b then 0 else c.count * stored_size unit.ty unit.size) e in
        let l : length (sent_by unit.ty c unit.size body meta) ≡ (fields_of unit.ty c).n * stored_size unit.ty unit.size = long e ∙ ap (λ m. m * stored_size unit.ty unit.size) (sym n) in
        let w = write-ends unit (scsi_command unit.ty c) (fields_of unit.ty c) armed (sent_by unit.ty c unit.size body meta) (stored_size unit.ty unit.size) stop k q l in
        record {
          named = ap (λ m. is_internal (completed c.count (outcome_of (target_answer unit armed (form (scsi_command unit.ty c)) [] (sent_by unit.ty c unit.size body meta) m stop)))) z
              ∙ ap (λ m. is_internal (completed m (outcome_of (target_answer unit armed (form (scsi_command unit.ty c)) [] (sent_by unit.ty c unit.size body meta) 0 stop)))) (sym n) ∙ w;
          long = λ r. absurd (let x : true ≡ false = sym e ∙ r in cc);
        }
    by false e =
        let k = asks unit c f h in
        let n = count-is unit.ty c in
        let q = requested unit.ty c ∙ ap (λ b. with_way b (fields_of unit.ty c)) e in
        let z : room_for unit.ty c unit.size ≡ c.count * stored_size unit.ty unit.size = ap (λ b. if b then 0 else c.count * stored_size unit.ty unit.size) e in
        let none : sent_by unit.ty c unit.size body meta ≡ [] = ap (λ b. if b then (if is_zero unit.ty then body else frames_out unit.ty c unit.size 0 c.count body meta) else []) e in
        let r : ReadEnds (fields_of unit.ty c).n (stored_size unit.ty unit.size) (target_answer unit armed (form (scsi_command unit.ty c)) [] [] (room_for unit.ty c unit.size) stop) =
        read-ends unit (scsi_command unit.ty c) (fields_of unit.ty c) armed (room_for unit.ty c unit.size) (stored_size unit.ty unit.size) stop k q (z ∙ ap (λ m. m * stored_size unit.ty unit.size) (sym n)) whole in
        let r' : ReadEnds c.count (stored_size unit.ty unit.size) (target_answer unit armed (form (scsi_command unit.ty c)) [] (sent_by unit.ty c unit.size body meta) (room_for unit.ty c unit.size) stop) =
        subst (λ (x : List ℕ). ReadEnds c.count (stored_size unit.ty unit.size) (target_answer unit armed (form (scsi_command unit.ty c)) [] x (room_for unit.ty c unit.size) stop)) (sym none)
        (subst (λ m. ReadEnds m (stored_size unit.ty unit.size) (target_answer unit armed (form (scsi_command unit.ty c)) [] [] (room_for unit.ty c unit.size) stop)) n r) in
        record {
          named = r'.named;
          long = λ w d. r'.long d ∙ sym z;
        }

-- ---- the answer

pub record Told (unit : Stored) (armed : List FaultLine) (c : NvmCommand) (body meta : List ℕ) (stop : Option Stop) (us : List Stored) (dev : ℕ) (result : Completion) (told : Option (List Stored)) (body' meta' : List ℕ) : Type 0 where
  pub answer : IsNvmAnswer (nvm_answer unit armed c body meta stop) us dev result told body' meta'
  pub named : is_internal result ≡ false

of-unit : (us : List Stored) (dev : ℕ) (c : NvmCommand) (armed : List FaultLine) (body meta body' meta' before came : List ℕ) (stop : Option Stop) (o : Outcome) (told : Option (List Stored)) (result : Completion) →
    let unit = unit_at us dev in
    Fits (scsi_command unit.ty c) → 1 ≤ c.count → AllLong (stored_size unit.ty unit.size) unit.blocks → sent_long unit.ty c unit.size (sent_by unit.ty c unit.size body meta) → length before ≡ room_for unit.ty c unit.size →
    result ≡ completed c.count o → body' ≡ body_after unit.ty c unit.size result came body → meta' ≡ meta_after unit.ty c unit.size result came meta →
    IsAnswer (answer_of us armed dev (form (scsi_command unit.ty c)) [] (sent_by unit.ty c unit.size body meta) (length before) stop) us dev o told before came →
    Told unit armed c body meta stop us dev result told body' meta'
of-unit us dev c armed body meta body' meta' before came stop o told result f h whole long room r eb em said =
    let unit = unit_at us dev in
    let a = target_answer unit armed (form (scsi_command unit.ty c)) [] (sent_by unit.ty c unit.size body meta) (room_for unit.ty c unit.size) stop in
    let said' = subst (λ n. IsAnswer (answer_of us armed dev (form (scsi_command unit.ty c)) [] (sent_by unit.ty c unit.size body meta) n stop) us dev o told before came) room said in
    let e = ends unit c armed body meta stop f h whole long in
    let done : result ≡ completed c.count (outcome_of a) = r ∙ ap (completed c.count) said'.outcome in
    let same : is_write c ≡ false → is_success (completed c.count (outcome_of a)) ≡ true → came ≡ joined a.sent =
    λ w s. said'.into ∙ fills (joined a.sent) before (e.long w (done-all c.count (outcome_of a) s) ∙ sym room) in
    record {
      answer = record {
        completion = done;
        units = said'.units;
        body_is = eb ∙ ap (λ x. body_after unit.ty c unit.size x came body) done
            ∙ filled-same c (completed c.count (outcome_of a)) body (data_in unit.ty c unit.size came) (data_in unit.ty c unit.size (joined a.sent)) (λ w s. ap (data_in unit.ty c unit.size) (same w s));
        meta_is = em ∙ ap (λ x. meta_after unit.ty c unit.size x came meta) done
            ∙ filled-same c (completed c.count (outcome_of a)) meta (meta_in unit.ty c unit.size came) (meta_in unit.ty c unit.size (joined a.sent)) (λ w s. ap (meta_in unit.ty c unit.size) (same w s));
      };
      named = ap is_internal done ∙ e.named;
    }

pub of-device : (us : List Stored) (dev : ℕ) (d : DeviceInfo) (c : NvmCommand) (armed : List FaultLine) (body meta body' meta' before came : List ℕ) (stop : Option Stop) (o : Outcome) (told : Option (List Stored)) (result : Completion) → d ≡ device_of (unit_at us dev) →
    Fits (scsi_command d.ty c) → 1 ≤ c.count → AllLong (stored_size (unit_at us dev).ty (unit_at us dev).size) (unit_at us dev).blocks → sent_long d.ty c d.size (sent_by d.ty c d.size body meta) → length before ≡ room_for d.ty c d.size →
    result ≡ completed c.count o → body' ≡ body_after d.ty c d.size result came body → meta' ≡ meta_after d.ty c d.size result came meta →
    IsAnswer (answer_of us armed dev (form (scsi_command d.ty c)) [] (sent_by d.ty c d.size body meta) (length before) stop) us dev o told before came →
    Told (unit_at us dev) armed c body meta stop us dev result told body' meta'
of-device us dev d c armed body meta body' meta' before came stop o told result e =
    subst (λ (d : DeviceInfo). Fits (scsi_command d.ty c) → 1 ≤ c.count → AllLong (stored_size (unit_at us dev).ty (unit_at us dev).size) (unit_at us dev).blocks → sent_long d.ty c d.size (sent_by d.ty c d.size body meta) → length before ≡ room_for d.ty c d.size →
    result ≡ completed c.count o → body' ≡ body_after d.ty c d.size result came body → meta' ≡ meta_after d.ty c d.size result came meta →
    IsAnswer (answer_of us armed dev (form (scsi_command d.ty c)) [] (sent_by d.ty c d.size body meta) (length before) stop) us dev o told before came →
    Told (unit_at us dev) armed c body meta stop us dev result told body' meta') (sym e) (of-unit us dev c armed body meta body' meta' before came stop o told result)

-- ---- what a command that isn't refused keeps

pub device-told : (us : List Stored) (n : ℕ) → n < length (map device_of us) → slice_index_or (map device_of us) n no_device ≡ device_of (unit_at us n)
device-told [] n h = absurd (omega arith)
device-told (u ∷ us) zero h = refl
device-told (u ∷ us) (suc n) h = device-told us n (omega arith)

pub record Granted (devices : List DeviceInfo) (c : NvmCommand) : Type 0 where
  pub there : has_namespace devices c.nsid ≡ true
  pub few : c.count ≤ 1024
  pub end : c.first + c.count < 2 ^ 64

pub granted : (devices : List DeviceInfo) (c : NvmCommand) → refusal devices c ≡ None → Granted devices c
granted devices c e =
    let k = passes (not (is_write c) && not (is_read c)) c.reserved (has_namespace devices c.nsid) (ltb 1024 c.count) (by_type (device_at devices c.nsid).ty c) e in
    record { there = k.0; few = (let x = k.1 in grind arith); end = last-fits (device_at devices c.nsid).ty c k.2 }
  where
    passes : (a b t m : Bool) (x : Option Completion) → (if a then Some invalid_opcode else (if b then Some invalid_field else (if not t then Some invalid_namespace else (if m then Some invalid_field else x)))) ≡ None → (t ≡ true) × (m ≡ false) × (x ≡ None)
    passes true b t m x h = absurd (cc)
    passes false true t m x h = absurd (cc)
    passes false false false m x h = absurd (cc)
    passes false false true true x h = absurd (cc)
    passes false false true false x h = (refl, refl, h)

    last-false : (a b d o : Bool) → first_of (record { comes = a; by = invalid_protection } ∷ record { comes = b; by = invalid_field } ∷ record { comes = d; by = invalid_protection } ∷ record { comes = o; by = out_of_range } ∷ []) ≡ None → o ≡ false
    last-false true b d o h = absurd (cc)
    last-false false true d o h = absurd (cc)
    last-false false false true o h = absurd (cc)
    last-false false false false true h = absurd (cc)
    last-false false false false false h = refl

    last-fits : (ty : PiType) (c : NvmCommand) → by_type ty c ≡ None → c.first + c.count < 2 ^ 64
    last-fits ty c h =
        let o = last-false (is_three ty && eqb (c.prchk % 2) 1) (not (takes ty c.prchk)) (is_one ty && (binds c && not (eqb c.rtag (ref_tag c.first)))) (ltb (2 ^ 64 - 1) (c.first + c.count)) h in
        grind arith

pub some-blocks : (b : List ℕ) → 1 ≤ (command_in b).count
some-blocks b = omega arith

pub namespace-in : (devices : List DeviceInfo) (n : ℕ) → has_namespace devices n ≡ true → (1 ≤ n) × (n ≤ length devices)
namespace-in devices n h = (grind arith, grind arith)

-- the device of a namespace is the unit, where that is told
pub namespace-told : (devices : List DeviceInfo) (us : List Stored) (n : ℕ) → devices ≡ map device_of us → has_namespace devices n ≡ true → device_at devices n ≡ device_of (unit_at us (n - 1))
namespace-told devices us n e h =
    let k = namespace-in devices n h in
    let l = ap length e in
    ap (λ ds. slice_index_or ds (n - 1) no_device) e ∙ device-told us (n - 1) (let x = k.0 in let y = k.1 in omega arith)

-- What a carried group comes to where its rig tells.
use Rattle.std.proofs.Common.{◌≡◌, ◌<◌, ℕ, ◌*◌, false, List, [], ◌∷◌, ◌++◌, length, map, ap, sym, subst, ◌∙◌, arith, Option, Some, None}
use Rattle.std.specs.Prelude.{pos, ◌+ℤ◌}
use Rattle.page_pool.specs.Cells.{flat}
use Rattle.bio_core.specs.Bios.{block_size}
use Rattle.bio_core.specs.declared.bio.Bio.{Bio}
use Rattle.bio_core.specs.declared.fate.Fate.{Fate}
use Rattle.bio_core.specs.declared.request.Dir.TheVariants.{Read, Write}
use Rattle.bio_core.specs.declared.request.Io.{Io}
use Rattle.cdb_codec.specs.Forms.{form}
use Rattle.cdb_codec.specs.declared.choice.Dir2.TheVariants.{In, Out}
use Rattle.fault_schedule.specs.Altered.{shift_of}
use Rattle.fault_schedule.specs.declared.fault.Crossing.TheVariants.{AdapterToTarget, MediumToTarget, TargetToMedium}
use Rattle.rig_api.specs.Passed.{frames_of, stored_size, Stop, Stored, has_blocks, shape_of}
use Rattle.rig_api.specs.Log.{entry_of}
use Rattle.rig_api.specs.Telling.{IsAnswer, IsStanding, answer_of, frame_size, spec_at, unit_at, units_told}
use Rattle.rig_api.specs.State.{RigState}
use Rattle.dix_adapter.specs.declared.adapter.Adapter.{Adapter}
use Rattle.dix_adapter.specs.Carried.{Fetched, WasSent, any_bad, command_for, command_of, fates_in, landed, out_of, sends, way_of}
use Rattle.dix_adapter.specs.Groups.{IsBio, IsCarriedGroup, IsProtect, blocks_in, first_of, label_of, no_bio, request_of, size}
use Rattle.dix_adapter.specs.Outcomes.{done_of, rest_of}
use Rattle.dix_adapter.specs.Ways.{CameIn, IsBehind, UpTo, WentOut}
use Rattle.dix_adapter.proofs.Asking.{is-pos}
use Rattle.dix_adapter.proofs.Blocks.{length-in}
use Rattle.dix_adapter.proofs.CameIn.{came-by}
use Rattle.dix_adapter.proofs.Landing.{group-width}
use Rattle.dix_adapter.proofs.Runs.{AllLong, group-run}
use Rattle.dix_adapter.proofs.Units.{unit-stands}
use Rattle.dix_adapter.proofs.WentOut.{some-blocks, went-by}

-- the blocks of the group have one size
pub group-bytes : (a : Adapter) (pool : List (List ℕ)) (bytes : ℕ) (ios : List Io) (req : List Bio) → IsCarriedGroup a pool bytes ios req → block_size (request_of ios (first_of req).op) ≡ bytes
group-bytes a pool bytes ios req g = let x : IsBio a pool bytes ios (first_of req).dev (first_of req).dir (first_of req) = g.bios 0 no_bio (let y = g.some in omega arith) in x.request.size

pub told-out : (a : Adapter) (pool pool' : List (List ℕ)) (bytes : ℕ) (ios : List Io) (req : List Bio) (fates : List Fate) (old new : RigState) (us : List Stored) (image : Option (List ℕ)) → IsProtect a.protect → IsCarriedGroup a pool bytes ios req → (first_of req).dir ≡ Write →
    any_bad (map (sends a ios (flat pool)) (blocks_in req)) ≡ false → WasSent a ios req pool pool' fates old new → old.units ≡ Some us → old.units ≡ units_told old.standing image → IsStanding old.standing image → (first_of req).dev < old.standing.devices → IsBehind a ios req us old.armed →
    UpTo (λ stop. WentOut a ios req (flat pool) us stop fates old new) (frame_size (unit_at us (first_of req).dev)) old.faults new.faults
told-out a pool pool' bytes ios req fates old new us image p g w n sent u laid ready dev behind =
    (λ calm. by None (sent.exchanged.calm us u calm), (let x = sent.exchanged.stopped us u in (x.0, x.1, by x.0 x.2)))
  where
    by : (stop : Option Stop) → IsAnswer (answer_of us old.armed (first_of req).dev (form (command_of a req)) (map label_of (blocks_in req)) (out_of a ios req pool) 0 stop) us (first_of req).dev sent.outcome new.units [] [] → WentOut a ios req (flat pool) us stop fates old new
    by stop answer =
        let s = shift_of a.tamper AdapterToTarget (first_of req).op in
        let t = shift_of a.tamper MediumToTarget (first_of req).op in
        let v = shift_of a.tamper TargetToMedium (first_of req).op in
        let e = unit-stands old.standing image us (first_of req).dev (sym laid ∙ u) ready dev in
        let unit = unit_at us (first_of req).dev in
        let z = group-bytes a pool bytes ios req g in
        let q = is-pos (shape_of unit) (pos (first_of req).lba +ℤ s) (size req) behind.sent in
        let f = is-pos (shape_of unit) ((pos (first_of req).lba +ℤ s) +ℤ v) (size req) (behind.stored w) in
        let d : command_of a req ≡ command_for a Out (first_of req).lba (size req) = ap (λ y. command_for a (way_of y) (first_of req).lba (size req)) w in
        let l : length (blocks_in req) ≡ size req = length-in req in
        went-by a ios req pool us stop fates old new bytes q.0 f.0 (spec_at old.standing (first_of req).dev).size s t v sent.outcome
        (record {
          protect = p;
          fits = rw d at sent.fits;
          ty = behind.ty;
          long = behind.bytes ∙ z;
          count = l;
          some = (let y = some-blocks a pool bytes ios req g in omega arith);
          run = group-run a pool bytes ios req s t v g behind.alike;
          here = q.1.0;
          there = ap (λ y. y +ℤ v) (sym q.1.0) ∙ f.1.0;
          within = ap (λ y. has_blocks (shape_of unit) y (size req)) (sym q.1.0) ∙ behind.sent;
          stored = ap (λ y. has_blocks (shape_of unit) y (size req)) (sym f.1.0) ∙ behind.stored w;
        })
        n e.there f.1.1.0 f.1.1.1 (sym (ap (λ y. y.size) e.shape) ∙ behind.bytes ∙ z)
        (subst (λ y. IsAnswer (answer_of us a.tamper (first_of req).dev y (map label_of (blocks_in req)) (out_of a ios req pool) 0 stop) us (first_of req).dev sent.outcome new.units [] []) (ap form d)
        (subst (λ y. IsAnswer (answer_of us y (first_of req).dev (form (command_of a req)) (map label_of (blocks_in req)) (out_of a ios req pool) 0 stop) us (first_of req).dev sent.outcome new.units [] []) behind.armed answer))
        (sent.exchanged.recorded ∙ ap (λ y. old.log ++ (entry_of (spec_at old.standing (first_of req).dev).size (first_of req).dev y (map label_of (blocks_in req)) sent.outcome (out_of a ios req pool) [] ∷ [])) (ap form d))
        sent.fates_are

pub told-in : (a : Adapter) (pool pool' : List (List ℕ)) (bytes : ℕ) (ios : List Io) (req : List Bio) (fates : List Fate) (old new : RigState) (us : List Stored) (image : Option (List ℕ)) → IsProtect a.protect → IsCarriedGroup a pool bytes ios req → (first_of req).dir ≡ Read →
    Fetched a ios req pool pool' fates old new → old.units ≡ Some us → old.units ≡ units_told old.standing image → IsStanding old.standing image → (first_of req).dev < old.standing.devices → IsBehind a ios req us old.armed →
    UpTo (λ stop. CameIn a ios req pool pool' us stop fates old new) (frame_size (unit_at us (first_of req).dev)) old.faults new.faults
told-in a pool pool' bytes ios req fates old new us image p g w got u laid ready dev behind =
    (λ calm. by None (got.exchanged.calm us u calm), (let x = got.exchanged.stopped us u in (x.0, x.1, by x.0 x.2)))
  where
    by : (stop : Option Stop) → IsAnswer (answer_of us old.armed (first_of req).dev (form (command_of a req)) (map label_of (blocks_in req)) [] (length got.before) stop) us (first_of req).dev got.outcome new.units got.before got.came → CameIn a ios req pool pool' us stop fates old new
    by stop answer =
        let s = shift_of a.tamper AdapterToTarget (first_of req).op in
        let t = shift_of a.tamper MediumToTarget (first_of req).op in
        let v = shift_of a.tamper TargetToMedium (first_of req).op in
        let e = unit-stands old.standing image us (first_of req).dev (sym laid ∙ u) ready dev in
        let unit = unit_at us (first_of req).dev in
        let z = group-bytes a pool bytes ios req g in
        let q = is-pos (shape_of unit) (pos (first_of req).lba +ℤ s) (size req) behind.sent in
        let f = is-pos (shape_of unit) ((pos (first_of req).lba +ℤ s) +ℤ t) (size req) (behind.fetched w) in
        let d : command_of a req ≡ command_for a In (first_of req).lba (size req) = ap (λ y. command_for a (way_of y) (first_of req).lba (size req)) w in
        let l : length (blocks_in req) ≡ size req = length-in req in
        let gw = group-width a pool bytes ios req g in
        came-by a ios req pool pool' us stop fates old new bytes q.0 f.0 (spec_at old.standing (first_of req).dev).size s t v got.outcome got.before got.came
        (record {
          protect = p;
          fits = rw d at got.fits;
          there = e.there;
          ty = behind.ty;
          long = behind.bytes ∙ z;
          whole = subst (λ y. AllLong (stored_size y bytes) unit.blocks) behind.ty (subst (λ y. AllLong (stored_size unit.ty y) unit.blocks) (behind.bytes ∙ z) e.long);
          count = l;
          some = (let y = some-blocks a pool bytes ios req g in omega arith);
          run = group-run a pool bytes ios req s t v g behind.alike;
          here = q.1.0;
          there_from = ap (λ y. y +ℤ t) (sym q.1.0) ∙ f.1.0;
          sent = ap (λ y. has_blocks (shape_of unit) y (size req)) (sym q.1.0) ∙ behind.sent;
          fetched = ap (λ y. has_blocks (shape_of unit) y (size req)) (sym f.1.0) ∙ behind.fetched w;
          above = f.1.1.0;
          below = f.1.1.1;
        })
        (sym (ap (λ y. y.size) e.shape) ∙ behind.bytes ∙ z) (got.room ∙ ap (λ y. size req * y) gw)
        (subst (λ y. IsAnswer (answer_of us a.tamper (first_of req).dev y (map label_of (blocks_in req)) [] (length got.before) stop) us (first_of req).dev got.outcome new.units got.before got.came) (ap form d)
        (subst (λ y. IsAnswer (answer_of us y (first_of req).dev (form (command_of a req)) (map label_of (blocks_in req)) [] (length got.before) stop) us (first_of req).dev got.outcome new.units got.before got.came) behind.armed answer))
        (got.exchanged.recorded ∙ ap (λ y. old.log ++ (entry_of (spec_at old.standing (first_of req).dev).size (first_of req).dev y (map label_of (blocks_in req)) got.outcome [] got.came ∷ [])) (ap form d))
        (got.fates_are ∙ ap (λ y. fates_in a ios (blocks_in req) (frames_of y (done_of (size req) got.outcome) got.came) ++ rest_of (size req) got.outcome) gw)
        (got.cells ∙ ap (λ y. landed a ios (blocks_in req) (frames_of y (done_of (size req) got.outcome) got.came) (flat pool)) gw)

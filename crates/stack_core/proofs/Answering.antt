-- What a step puts on record over a rig that tells its units is what they answer.
use Rattle.std.proofs.Common.{◌≡◌, ℕ, zero, suc, ◌*◌, false, List, [], ◌∷◌, length, map, Option, Some, refl, sym, ap, subst, ◌∙◌}
use Rattle.std.specs.Prelude.{Ok}
use Rattle.std.specs.List.{All, list_any}
use Rattle.std.proofs.lemmas.Bool.{false≢true, or_parts}
use Rattle.std.proofs.lemmas.List.{length-map}
use Rattle.std.proofs.lemmas.List.Elements.{All-cons, All-nil}
use Rattle.dix_base.specs.Told.{Calm}
use Rattle.page_pool.specs.Cells.{flat}
use Rattle.bio_core.specs.declared.bio.Bio.{Bio}
use Rattle.bio_core.specs.declared.fate.Fate.{Fate}
use Rattle.bio_core.specs.declared.request.Dir.TheVariants.{Read, Write}
use Rattle.bio_core.specs.declared.request.Io.{Io}
use Rattle.cdb_codec.specs.Decoded.{decoded}
use Rattle.cdb_codec.specs.Forms.{Fits, form}
use Rattle.cdb_codec.specs.declared.choice.Dir2.{Dir2}
use Rattle.cdb_codec.specs.declared.choice.Dir2.TheVariants.{In, Out}
use Rattle.cdb_codec.proofs.Inverse.{decoded_form}
use Rattle.rig_api.specs.Frames.{sent_size, stored_size}
use Rattle.rig_api.specs.Target.{Stored}
use Rattle.rig_api.specs.declared.units.UnitSpec.{UnitSpec}
use Rattle.rig_api.specs.State.{RigState}
use Rattle.rig_api.specs.Telling.{spec_at, unit_at}
use Rattle.record_laws.specs.Answered.{Answers, AreFrames, FramesBy, FramesUnder, room_by, room_of, room_under}
use Rattle.record_laws.proofs.Exchange.{exchange_puts}
use Rattle.dix_adapter.specs.declared.adapter.Adapter.{Adapter}
use Rattle.dix_adapter.specs.Carried.{Fetched, WasSent, any_bad, command_for, command_of, frame_len, out_of, sends, way_of}
use Rattle.dix_adapter.specs.Groups.{IsCarriedGroup, IsProtect, blocks_in, first_of, label_of, size}
use Rattle.dix_adapter.proofs.Asking.{asked-for, count-is, fields_of, protect-is, request_by}
use Rattle.dix_adapter.proofs.Blocks.{length-in}
use Rattle.dix_adapter.proofs.GoingOut.{all_sent}
use Rattle.dix_adapter.proofs.Landing.{group-width}
use Rattle.dix_adapter.proofs.Runs.{AllLong, group-wide, joined-long, width-sent, width_for}
use Rattle.dix_adapter.proofs.Units.{Stands}
use Rattle.stack_ops.specs.declared.op.Op.{Op}
use Rattle.stack_ops.specs.declared.op.Op.TheVariants.{Fetch, FetchPi, Fill, Overwrite, Put, Seal, Show, Wait, Write as WriteOp, WritePi}
use Rattle.stack_ops.specs.declared.reply.Reply.{Reply}
use Rattle.stack_ops.specs.Ops.{is_overwrite}
use Rattle.stack_walk_laws.specs.Sheets.{op_in}
use Rattle.stack_core.specs.Walking.{IsKnown, units_left}

-- ---- a group's command, as its unit decodes it

module _ (a : Adapter) (req : List Bio) (dir : Dir2) (way : way_of (first_of req).dir ≡ dir) (fits : Fits (command_of a req)) where
  pub decodes : decoded (form (command_of a req)) ≡ Ok (command_for a dir (first_of req).lba (size req))
  decodes = decoded_form (command_of a req) fits ∙ ap (λ d. Ok (command_for a d (first_of req).lba (size req))) way

  pub room_as : (k : ℕ) → room_of k (form (command_of a req)) ≡ room_by k (request_by dir (fields_of a (first_of req).lba (size req)))
  room_as k = ap (room_under k) decodes ∙ ap (room_by k) (asked-for a dir (first_of req).lba (size req))

  frames_as : (k : ℕ) (out : List ℕ) → FramesBy k (request_by dir (fields_of a (first_of req).lba (size req))) out → AreFrames k (form (command_of a req)) out
  frames_as k out h = subst (λ d. FramesUnder k d out) (sym decodes) (subst (λ q. FramesBy k q out) (sym (asked-for a dir (first_of req).lba (size req))) h)

-- all frames of a command, in bytes
pub all_wide : (a : Adapter) (k lba n : ℕ) → IsProtect a.protect → (fields_of a lba n).n * sent_size (fields_of a lba n).protect k ≡ n * width_for a k
all_wide a k lba n p = ap (λ m. m * sent_size (fields_of a lba n).protect k) (count-is a lba n) ∙ ap (λ f. n * sent_size f k) (protect-is a lba n) ∙ ap (λ m. n * m) (width-sent a k p)

all_of : (w : ℕ) (xs : List (List ℕ)) → AllLong w xs → All (λ x. length {A = ℕ} x ≡ w) xs
all_of w [] h = All-nil (λ x. length {A = ℕ} x ≡ w)
all_of w (x ∷ xs) h = All-cons (λ x. length {A = ℕ} x ≡ w) x xs h.0 (all_of w xs h.1)

-- ---- over a rig that tells its units, without faults, whose device has blocks of the group's size

module _ (a : Adapter) (ios : List Io) (req : List Bio) (pool pool' : List (List ℕ)) (bytes : ℕ) (us : List Stored) (fates : List Fate) (old new : RigState) (protect : IsProtect a.protect) (group : IsCarriedGroup a pool bytes ios req) (known : (spec_at old.standing (first_of req).dev).size ≡ bytes)
    (stands : Stands old.standing us (first_of req).dev) (units : old.units ≡ Some us) (armed : old.armed ≡ []) (calm : Calm old.faults new.faults) where
  stored : All (λ block. length {A = ℕ} block ≡ stored_size (unit_at us (first_of req).dev).ty (unit_at us (first_of req).dev).size) (unit_at us (first_of req).dev).blocks
  stored = all_of (stored_size (unit_at us (first_of req).dev).ty (unit_at us (first_of req).dev).size) (unit_at us (first_of req).dev).blocks stands.long

  same_size : (spec_at old.standing (first_of req).dev).size ≡ (unit_at us (first_of req).dev).size
  same_size = ap (λ (u : UnitSpec). u.size) (sym stands.shape)

  pub sent_puts : (first_of req).dir ≡ Write → any_bad (map (sends a ios (flat pool)) (blocks_in req)) ≡ false → WasSent a ios req pool pool' fates old new → Answers us old new
  sent_puts dir good x =
      let dev = (first_of req).dev in
      let k = (spec_at old.standing dev).size in
      let n = size req in
      let way : way_of (first_of req).dir ≡ Out = ap way_of dir in
      let fs = all_sent a ios (flat pool) (blocks_in req) in
      let many : length fs ≡ n = length-map (map (sends a ios (flat pool)) (blocks_in req)) _ ∙ length-map (blocks_in req) (sends a ios (flat pool)) ∙ length-in req in
      let long : length (out_of a ios req pool) ≡ n * width_for a k = joined-long (width_for a bytes) fs (group-wide a pool bytes ios req group good) ∙ ap (λ m. m * width_for a bytes) many ∙ ap (λ b. n * width_for a b) (sym known) in
      exchange_puts old new dev (form (command_of a req)) (map label_of (blocks_in req)) (out_of a ios req pool) [] [] x.outcome us x.exchanged units armed calm stored same_size
      (sym (room_as a req Out way x.fits k))
      (frames_as a req Out way x.fits k (out_of a ios req pool) (long ∙ sym (all_wide a k (first_of req).lba n protect)))

  pub fetched_puts : (first_of req).dir ≡ Read → Fetched a ios req pool pool' fates old new → Answers us old new
  fetched_puts dir x =
      let dev = (first_of req).dev in
      let k = (spec_at old.standing dev).size in
      let n = size req in
      let way : way_of (first_of req).dir ≡ In = ap way_of dir in
      let wide : frame_len a ios req ≡ width_for a k = group-width a pool bytes ios req group ∙ ap (width_for a) (sym known) in
      exchange_puts old new dev (form (command_of a req)) (map label_of (blocks_in req)) [] x.before x.came x.outcome us x.exchanged units armed calm stored same_size
      (x.room ∙ ap (λ m. n * m) wide ∙ sym (room_as a req In way x.fits k ∙ all_wide a k (first_of req).lba n protect))
      (frames_as a req In way x.fits k [] refl)

-- ---- an op that is no request

none_at : (ops : List Op) (i : ℕ) → list_any is_overwrite ops ≡ false → is_overwrite (op_in ops i) ≡ false
none_at [] i h = refl
none_at (op ∷ ops) zero h = (or_parts (is_overwrite op) (list_any is_overwrite ops) h).0
none_at (op ∷ ops) (suc i) h = none_at ops i (or_parts (is_overwrite op) (list_any is_overwrite ops) h).1

-- leaves the units as they are, where it doesn't overwrite
left_alone : (op : Op) (us : List Stored) (reply : Reply) → is_overwrite op ≡ false → IsKnown op reply × (units_left op us ≡ us)
left_alone (Fill seg byte) us reply h = (tt, refl)
left_alone (Put page off bytes) us reply h = (tt, refl)
left_alone (Show seg) us reply h = (tt, refl)
left_alone (Seal n body tuples app rtag) us reply h = (tt, refl)
left_alone (WriteOp v n body app) us reply h = (tt, refl)
left_alone (Fetch v n body) us reply h = (tt, refl)
left_alone (WritePi v n body tuples) us reply h = (tt, refl)
left_alone (FetchPi v n body tuples) us reply h = (tt, refl)
left_alone (Overwrite dev lba change) us reply h = absurd (false≢true (sym h))
left_alone Wait us reply h = (tt, refl)

pub op_leaves : (ops : List Op) (i : ℕ) (op : Op) (us : List Stored) (reply : Reply) (told : Option (List Stored)) → list_any is_overwrite ops ≡ false → op ≡ op_in ops i → (IsKnown op reply → told ≡ Some (units_left op us)) → told ≡ Some us
op_leaves ops i op us reply told none is left =
    let h = left_alone op us reply (ap is_overwrite is ∙ none_at ops i none) in
    left h.0 ∙ ap (λ (v : List Stored). Some v) h.1

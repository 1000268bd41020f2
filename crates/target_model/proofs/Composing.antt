-- From the blocks of a command to the answer of the unit.
use Rattle.std.proofs.Common.{ℕ, zero, suc, ◌≡◌, ◌+◌, ◌*◌, ◌-◌, ◌<◌, ◌≤◌, Bool, true, false, List, [], ◌∷◌, ◌++◌, length, take, drop, Option, Some, None, Result, Ok, Err, refl, sym, ap, subst, ◌^◌, ◌∙◌, arith, append-nil, add-zero}
use Rattle.std.specs.Prelude.{ℤ, pos, nat_abs, eqb, min, ◌≢◌}
use Rattle.std.proofs.lemmas.List.{length-take, length-drop, take-append-drop}
use Rattle.dix_base.specs.Told.{Rose, over}
use Rattle.rig_api.specs.Log.{IsMedium, has_key}
use Rattle.cdb_codec.specs.declared.command.Cdb.{Cdb}
use Rattle.cdb_codec.specs.declared.command.Rw.{Rw}
use Rattle.cdb_codec.specs.declared.command.CdbFault.{CdbFault}
use Rattle.cdb_codec.specs.Decoded.{decoded}
use Rattle.rig_api.specs.Requests.{request_of}
use Rattle.std.proofs.lemmas.Bool.Decides.{nat_tests}
use Rattle.std.proofs.lemmas.Bool.{eqb-true}
use Rattle.fault_schedule.specs.declared.Label.{Label}
use Rattle.fault_schedule.specs.declared.fault.FaultLine.{FaultLine}
use Rattle.sense_codes.specs.declared.Sense.{Sense}
use Rattle.rig_api.specs.Frames.{stored_size, sent_size, frames_of, joined, placed}
use Rattle.rig_api.specs.Target.{Ended, Flaw, Stored, Stop, Answer, answer_unless, asc_of, capacity_data, refusal, target_answer, carried_out, first_of, illegal, keeping, kept_over, medium_address, read_by, read_end, refusals_of, sending, shape_of, storing, stored_address, stored_from, wire_address, write_end, written_by}
use Rattle.rig_api.specs.declared.request.Request.{Request}
use Rattle.rig_api.specs.declared.request.Request.TheVariants.{Read, Write, Verify, ReadCapacity}
use Rattle.rig_api.specs.declared.units.UnitSpec.{UnitSpec}
use Rattle.rig_api.proofs.FrameLaws.{frames_length}
use Rattle.rig_api.proofs.FewFrames.{few_written}
use Rattle.rig_api.proofs.KeptLaws.{kept-many}
use Rattle.rig_api.specs.Telling.{at_front, holding}
use Rattle.rig_api.specs.declared.rig.Outcome.{Outcome}
use Rattle.target_model.specs.declared.unit.LogicalUnit.{LogicalUnit}
use Rattle.target_model.specs.Served.{AllLong, AllRead, AllWritten, HasBlocks, Served, StandsBack, answer_after, answer_to, block_bytes, shape_in, unit_in, with_unit, CanMove, FitsFrame, IsUnit}
use Rattle.target_model.proofs.Bytes.{drop_all, drop_both, frames_part, frames_back, long_both, long_drop, long_frames, long_joined, long_take, over_apart, over_behind, placed_length, room_for, unit_over, unit_same}
use Rattle.target_model.proofs.Ends.{length_each}

abbrev wide : LogicalUnit → ℕ
wide u = stored_size u.ty u.size

pub shape_is : (u : LogicalUnit) (bytes : List ℕ) → shape_of (unit_in u bytes) ≡ shape_in u
shape_is u bytes = ap (λ (n : ℕ). record { ty = u.ty; blocks = n; size = u.size; first = u.first }) (frames_length (wide u) u.blocks (drop u.at bytes))

pub served_as : (u : LogicalUnit) (A B : Option Stop → Answer) (o n : ℕ) (was : List ℕ) (now : Option (List ℕ)) (result : Outcome) (before after : List ℕ) → ((stop : Option Stop) → A stop ≡ B stop) →
    Served u B o n was now result before after → Served u A o n was now result before after
served_as u A B o n was now result before after same s = record {
  stop = s.stop;
  cause = s.cause;
  outcome = s.outcome ∙ ap (λ (a : Answer). record { done = a.done; sense = a.sense }) (sym (same s.stop));
  bytes = s.bytes ∙ ap (λ (a : Answer). Some (with_unit u a.blocks was)) (sym (same s.stop));
  back = subst (λ (a : Answer). StandsBack u a.blocks was) (sym (same s.stop)) s.back;
  into = s.into ∙ ap (λ (a : Answer). at_front (joined a.sent) before) (sym (same s.stop));
}

unit_stays : (u : LogicalUnit) (bytes : List ℕ) → u.at + wide u * u.blocks ≤ length bytes → with_unit u (unit_in u bytes).blocks bytes ≡ bytes
unit_stays u bytes h = unit_same u.at (wide u) u.blocks bytes h

holds : (u : LogicalUnit) (bytes other : List ℕ) (blocks : List (List ℕ)) → frames_of (wide u) u.blocks (drop u.at other) ≡ blocks → unit_in u other ≡ holding (unit_in u bytes) blocks
holds u bytes other blocks e = ap (λ (v : List (List ℕ)). record { ty = u.ty; size = u.size; first = u.first; blocks = v }) e

-- blocks of the stored length stand where they are put
stands_back : (u : LogicalUnit) (blocks : List (List ℕ)) (bytes : List ℕ) → AllLong (wide u) blocks → length blocks ≡ u.blocks → u.at + wide u * u.blocks ≤ length bytes → StandsBack u blocks bytes
stands_back u blocks bytes l n h =
    let long : length (joined blocks) ≡ wide u * u.blocks = long_joined (wide u) blocks l ∙ ap (λ k. wide u * k) n in
    let end : ℕ = u.at + length (joined blocks) in
    let behind : drop u.at (with_unit u blocks bytes) ≡ joined blocks ++ drop end bytes = over_behind u.at (joined blocks) bytes (omega (arith, h)) in
    record {
      unit = holds u bytes (with_unit u blocks bytes) blocks (ap (frames_of (wide u) u.blocks) behind ∙ ap (λ k. frames_of (wide u) k (joined blocks ++ drop end bytes)) (sym n) ∙ frames_back (wide u) blocks (drop end bytes) l);
      apart = over_apart u.at (wide u * u.blocks) (joined blocks) bytes long h;
    }

own_long : (u : LogicalUnit) (bytes : List ℕ) → u.at + wide u * u.blocks ≤ length bytes → AllLong (wide u) (unit_in u bytes).blocks
own_long u bytes h = long_frames (wide u) u.blocks (drop u.at bytes) (simp length-drop (omega (arith, h)))

own_back : (u : LogicalUnit) (bytes : List ℕ) → u.at + wide u * u.blocks ≤ length bytes → StandsBack u (unit_in u bytes).blocks bytes
own_back u bytes h = stands_back u (unit_in u bytes).blocks bytes (own_long u bytes h) (frames_length (wide u) u.blocks (drop u.at bytes)) h

-- a refusal changes nothing
pub served_refused : (u : LogicalUnit) (answer : Option Stop → Answer) (o : ℕ) (bytes : List ℕ) (now : Option (List ℕ)) (result : Outcome) (sense : Option Sense) (into : List ℕ) → u.at + wide u * u.blocks ≤ length bytes → now ≡ Some bytes →
    result ≡ record { done = 0; sense = sense } → ((stop : Option Stop) → answer stop ≡ record { done = 0; sense = sense; blocks = (unit_in u bytes).blocks; sent = [] }) →
    Served u answer o o bytes now result into into
served_refused u answer o bytes now result sense into h e r a =
    served_as u answer (λ stop. record { done = 0; sense = sense; blocks = (unit_in u bytes).blocks; sent = [] }) o o bytes now result into into a
    (record { stop = None; cause = tt; outcome = r; bytes = e ∙ ap (λ v. Some v) (sym (unit_stays u bytes h)); back = own_back u bytes h; into = refl })

-- a request is refused by what its refusals say of the unit's shape
pub refused_answer : (u : LogicalUnit) (bytes : List ℕ) (cdb : Cdb) (request : Request) (faults : List FaultLine) (labels : List Label) (out : List ℕ) (room : ℕ) (sense : Sense) →
    first_of (refusals_of (shape_in u) cdb request faults labels (length out) room) ≡ Some sense → (stop : Option Stop) →
    answer_to (unit_in u bytes) cdb request faults labels out room stop ≡ record { done = 0; sense = Some sense; blocks = (unit_in u bytes).blocks; sent = [] }
refused_answer u bytes cdb request faults labels out room sense e stop = rw (shape_is u bytes, e) refl

taken_answer : (u : LogicalUnit) (bytes : List ℕ) (cdb : Cdb) (request : Request) (faults : List FaultLine) (labels : List Label) (out : List ℕ) (room : ℕ) →
    first_of (refusals_of (shape_in u) cdb request faults labels (length out) room) ≡ None → (stop : Option Stop) →
    answer_to (unit_in u bytes) cdb request faults labels out room stop ≡ carried_out (unit_in u bytes) request faults labels out stop
taken_answer u bytes cdb request faults labels out room e stop = rw (shape_is u bytes, e) refl

pub many_written : (unit : UnitSpec) (c : Rw) (lba : ℕ) (faults : List FaultLine) (labels : List Label) (out : List ℕ) → length (written_by unit c lba faults labels out) ≡ c.n
many_written unit c lba faults labels out = length_each _ 0 (frames_of (sent_size c.protect unit.size) c.n out) ∙ frames_length (sent_size c.protect unit.size) c.n out

-- the blocks from an address on are those from their place on
fetched_are : (u : LogicalUnit) (bytes : List ℕ) (from n place : ℕ) → HasBlocks (shape_in u) from n → place ≡ u.at + wide u * (from - u.first) →
    stored_from (unit_in u bytes) from n ≡ frames_of (wide u) n (drop place bytes)
fetched_are u bytes from n place b p =
    frames_part (wide u) (from - u.first) n u.blocks (drop u.at bytes) (omega (arith, b.first, b.last))
    ∙ ap (frames_of (wide u) n) (drop_both (wide u * (from - u.first)) u.at bytes ∙ ap (λ k. drop k bytes) (sym p))

-- Nothing that is put anywhere leaves the blocks as they are.
none_placed : (at : ℕ) (frames blocks : List (List ℕ)) → length frames ≡ 0 → placed at frames blocks ≡ blocks
none_placed at [] blocks e = ap (λ k. take at blocks ++ drop k blocks) (add-zero at) ∙ take-append-drop at blocks
none_placed at (frame ∷ frames) blocks e = absurd (omega arith)

-- A write of no blocks stores none, wherever that is.
stores_none : (blocks : List (List ℕ)) (a b lba : ℕ) (stop : Option Stop) → storing a blocks (write_end lba [] stop) ≡ storing b blocks (write_end lba [] stop)
stores_none blocks a b lba stop =
    let e : Ended = write_end lba [] stop in
    let few = few_written lba [] stop in
    let none : length e.frames ≡ 0 = omega (arith, few) in
    ap (λ (v : List (List ℕ)). record { done = e.done; sense = e.sense; blocks = v; sent = [] }) (none_placed a e.frames blocks none ∙ sym (none_placed b e.frames blocks none))

-- blocks that are stored from a command's address on are put over those from its place on
stored_at : (u : LogicalUnit) (bytes : List ℕ) (a : ℤ) (to n place lba : ℕ) (faults : List FaultLine) (labels : List Label) (written : List (Result (List ℕ) Flaw)) → length written ≡ n → (0 < n → a ≡ pos to) → HasBlocks (shape_in u) to n → place ≡ u.at + wide u * (to - u.first) → (stop : Option Stop) →
    storing (nat_abs a - u.first) (unit_in u bytes).blocks (write_end lba (kept_over faults labels 0 (stored_from (unit_in u bytes) (nat_abs a) n) written) stop)
    ≡ storing (to - u.first) (unit_in u bytes).blocks (write_end lba (kept_over faults labels 0 (frames_of (wide u) n (drop place bytes)) written) stop)
stored_at u bytes a to zero place lba faults labels [] l e b p stop = stores_none (unit_in u bytes).blocks (nat_abs a - u.first) (to - u.first) lba stop
stored_at u bytes a to zero place lba faults labels (r ∷ rs) l e b p stop = absurd (omega arith)
stored_at u bytes a to (suc n) place lba faults labels written l e b p stop =
    let is : a ≡ pos to = e (omega arith) in
    rw is (ap (λ fs. storing (to - u.first) (unit_in u bytes).blocks (write_end lba (kept_over faults labels 0 fs written) stop)) (fetched_are u bytes to (suc n) place b p))

write_is : (u : LogicalUnit) (bytes : List ℕ) (c : Rw) (lba to place : ℕ) (faults : List FaultLine) (labels : List Label) (out : List ℕ) → wire_address faults labels c ≡ pos lba → (0 < c.n → stored_address faults labels c ≡ pos to) →
    HasBlocks (shape_in u) to c.n → place ≡ u.at + wide u * (to - u.first) → (stop : Option Stop) →
    carried_out (unit_in u bytes) (Write c) faults labels out stop ≡ storing (to - u.first) (unit_in u bytes).blocks (write_end lba (kept_over faults labels 0 (frames_of (wide u) c.n (drop place bytes)) (written_by (shape_in u) c lba faults labels out)) stop)
write_is u bytes c lba to place faults labels out e m b p stop =
    ap (λ (z : ℤ). storing (nat_abs (stored_address faults labels c) - u.first) (unit_in u bytes).blocks (write_end (nat_abs z) (kept_over faults labels 0 (stored_from (unit_in u bytes) (nat_abs (stored_address faults labels c)) c.n) (written_by (shape_in u) c (nat_abs z) faults labels out)) stop)) e
    ∙ stored_at u bytes (stored_address faults labels c) to c.n place lba faults labels (written_by (shape_in u) c lba faults labels out) (many_written (shape_in u) c lba faults labels out) m b p stop

pub served_written : (u : LogicalUnit) (cdb : Cdb) (c : Rw) (lba to place o n room : ℕ) (faults : List FaultLine) (labels : List Label) (out bytes into : List ℕ) (now : Option (List ℕ)) (result : Outcome) →
    u.at + wide u * u.blocks ≤ length bytes → first_of (refusals_of (shape_in u) cdb (Write c) faults labels (length out) room) ≡ None → wire_address faults labels c ≡ pos lba →
    (0 < c.n → stored_address faults labels c ≡ pos to) → HasBlocks (shape_in u) to c.n → place ≡ u.at + wide u * (to - u.first) →
    AllWritten (write_end lba (kept_over faults labels 0 (frames_of (wide u) c.n (drop place bytes)) (written_by (shape_in u) c lba faults labels out))) (wide u) place o n bytes now result →
    Served u (answer_to (unit_in u bytes) cdb (Write c) faults labels out room) o n bytes now result into into
served_written u cdb c lba to place o n room faults labels out bytes into now result h t e m b p w =
    let judged : List (Result (List ℕ) Flaw) = kept_over faults labels 0 (frames_of (wide u) c.n (drop place bytes)) (written_by (shape_in u) c lba faults labels out) in
    let frames : List (List ℕ) = (write_end lba judged w.stop).frames in
    let few = few_written lba judged w.stop in
    let many : length judged ≡ c.n = kept-many faults labels 0 (frames_of (wide u) c.n (drop place bytes)) (written_by (shape_in u) c lba faults labels out) ∙ many_written (shape_in u) c lba faults labels out in
    let within : to - u.first + length frames ≤ u.blocks = omega (arith, few, many, b.first, b.last) in
    let same : with_unit u (placed (to - u.first) frames (unit_in u bytes).blocks) bytes ≡ over place (joined frames) bytes = unit_over u.at (wide u) (to - u.first) u.blocks frames bytes within w.whole h ∙ ap (λ k. over k (joined frames) bytes) (sym p) in
    let blocks : List (List ℕ) = (unit_in u bytes).blocks in
    let own = own_long u bytes h in
    let number : length blocks ≡ u.blocks = frames_length (wide u) u.blocks (drop u.at bytes) in
    let long : AllLong (wide u) (placed (to - u.first) frames blocks) =
    long_both (wide u) (take (to - u.first) blocks) (frames ++ drop (to - u.first + length frames) blocks) (long_take (wide u) (to - u.first) blocks own)
    (long_both (wide u) frames (drop (to - u.first + length frames) blocks) w.long (long_drop (wide u) (to - u.first + length frames) blocks own)) in
    let many_still : length (placed (to - u.first) frames blocks) ≡ u.blocks = placed_length (to - u.first) frames blocks (omega (arith, within, number)) ∙ number in
    served_as u _ (λ stop. storing (to - u.first) (unit_in u bytes).blocks (write_end lba judged stop)) o n bytes now result into into
    (λ stop. taken_answer u bytes cdb (Write c) faults labels out room t stop ∙ write_is u bytes c lba to place faults labels out e m b p stop)
    (record { stop = w.stop; cause = w.cause; outcome = w.outcome; bytes = w.bytes ∙ ap (λ v. Some v) (sym same); back = stands_back u _ bytes long many_still h; into = refl })

-- and so those that a read fetches
fetched_at : (u : LogicalUnit) (bytes : List ℕ) (a : ℤ) (from n place : ℕ) → (0 < n → a ≡ pos from) → HasBlocks (shape_in u) from n → place ≡ u.at + wide u * (from - u.first) →
    stored_from (unit_in u bytes) (nat_abs a) n ≡ frames_of (wide u) n (drop place bytes)
fetched_at u bytes a from zero place e b p = refl
fetched_at u bytes a from (suc n) place e b p = let is : a ≡ pos from = e (omega arith) in rw is (fetched_are u bytes from (suc n) place b p)

read_is : (u : LogicalUnit) (bytes : List ℕ) (c : Rw) (lba : ℕ) (faults : List FaultLine) (labels : List Label) (out : List ℕ) (fetched : List (List ℕ)) → wire_address faults labels c ≡ pos lba →
    stored_from (unit_in u bytes) (nat_abs (medium_address faults labels c)) c.n ≡ fetched → (stop : Option Stop) →
    carried_out (unit_in u bytes) (Read c) faults labels out stop ≡ sending (unit_in u bytes).blocks (read_end lba (read_by (shape_in u) c lba faults labels fetched) stop)
read_is u bytes c lba faults labels out fetched e f stop =
    ap (λ (z : ℤ). sending (unit_in u bytes).blocks (read_end (nat_abs z) (read_by (shape_in u) c (nat_abs z) faults labels (stored_from (unit_in u bytes) (nat_abs (medium_address faults labels c)) c.n)) stop)) e
    ∙ ap (λ fs. sending (unit_in u bytes).blocks (read_end lba (read_by (shape_in u) c lba faults labels fs) stop)) f

pub served_read : (u : LogicalUnit) (cdb : Cdb) (c : Rw) (lba from place o n room : ℕ) (faults : List FaultLine) (labels : List Label) (out bytes before after : List ℕ) (now : Option (List ℕ)) (result : Outcome) →
    u.at + wide u * u.blocks ≤ length bytes → now ≡ Some bytes → first_of (refusals_of (shape_in u) cdb (Read c) faults labels (length out) room) ≡ None → wire_address faults labels c ≡ pos lba →
    (0 < c.n → medium_address faults labels c ≡ pos from) → HasBlocks (shape_in u) from c.n → place ≡ u.at + wide u * (from - u.first) →
    AllRead (read_end lba (read_by (shape_in u) c lba faults labels (frames_of (wide u) c.n (drop place bytes)))) (wide u) o n result before after →
    Served u (answer_to (unit_in u bytes) cdb (Read c) faults labels out room) o n bytes now result before after
served_read u cdb c lba from place o n room faults labels out bytes before after now result h k t e m b p r =
    let fetched : List (List ℕ) = frames_of (wide u) c.n (drop place bytes) in
    let are = fetched_at u bytes (medium_address faults labels c) from c.n place m b p in
    served_as u _ (λ stop. sending (unit_in u bytes).blocks (read_end lba (read_by (shape_in u) c lba faults labels fetched) stop)) o n bytes now result before after
    (λ stop. taken_answer u bytes cdb (Read c) faults labels out room t stop ∙ read_is u bytes c lba faults labels out fetched e are stop)
    (record { stop = r.stop; cause = r.cause; outcome = r.outcome; bytes = k ∙ ap (λ v. Some v) (sym (unit_stays u bytes h)); back = own_back u bytes h; into = r.into })

pub served_verified : (u : LogicalUnit) (cdb : Cdb) (c : Rw) (place o n room : ℕ) (faults : List FaultLine) (labels : List Label) (out bytes into sent : List ℕ) (now : Option (List ℕ)) (result : Outcome) →
    u.at + wide u * u.blocks ≤ length bytes → now ≡ Some bytes → first_of (refusals_of (shape_in u) cdb (Verify c) faults labels (length out) room) ≡ None →
    HasBlocks (shape_in u) c.lba c.n → place ≡ u.at + wide u * (c.lba - u.first) →
    AllRead (read_end c.lba (read_by (shape_in u) c c.lba faults [] (frames_of (wide u) c.n (drop place bytes)))) (wide u) o n result [] sent →
    Served u (answer_to (unit_in u bytes) cdb (Verify c) faults labels out room) o n bytes now result into into
served_verified u cdb c place o n room faults labels out bytes into sent now result h k t b p r =
    let fetched : List (List ℕ) = frames_of (wide u) c.n (drop place bytes) in
    let are = fetched_are u bytes c.lba c.n place b p in
    served_as u _ (λ stop. keeping (unit_in u bytes).blocks (read_end c.lba (read_by (shape_in u) c c.lba faults [] fetched) stop)) o n bytes now result into into
    (λ stop. taken_answer u bytes cdb (Verify c) faults labels out room t stop ∙ ap (λ fs. keeping (unit_in u bytes).blocks (read_end c.lba (read_by (shape_in u) c c.lba faults [] fs) stop)) are)
    (record { stop = r.stop; cause = r.cause; outcome = r.outcome; bytes = k ∙ ap (λ v. Some v) (sym (unit_stays u bytes h)); back = own_back u bytes h; into = refl })

five : ◌≡◌ {A = ℕ} 5 3 → ⊥
five h = omega arith

pub not_medium : (asc : ℕ) (r : Outcome) (o n : ℕ) → r ≡ record { done = 0; sense = Some (illegal asc) } → IsMedium r → Rose o n
not_medium asc r o n e m = let h : IsMedium (record { done = 0; sense = Some (illegal asc) }) = subst IsMedium e m in absurd (five h)

pub keyed : (asc : ℕ) (r : Outcome) → r ≡ record { done = 0; sense = Some (illegal asc) } → has_key r.sense ≡ true
keyed asc r e = rw e refl

-- The same in the code's words, which has the unit's shape as a value.

place_held : (u : LogicalUnit) (s : UnitSpec) (lba n place len : ℕ) → s ≡ shape_in u → HasBlocks s lba n → place ≡ u.at + wide u * (lba - u.first) → u.at + wide u * u.blocks ≤ len → place + block_bytes s * n ≤ len
place_held u s lba n place len e b p h =
    rw e (let b' = rw e at b in let room = room_for u.at (wide u) u.first u.blocks lba n b'.first b'.last in omega (arith, room, p, h))

place_fits : (u : LogicalUnit) (s : UnitSpec) (lba n place : ℕ) → s ≡ shape_in u → HasBlocks s lba n → place ≡ u.at + wide u * (lba - u.first) → u.at + wide u * u.blocks < 2 ^ 64 → place + block_bytes s * n < 2 ^ 64
place_fits u s lba n place e b p h =
    rw e (let b' = rw e at b in let room = room_for u.at (wide u) u.first u.blocks lba n b'.first b'.last in omega (arith, room, p, h))

-- the blocks of a command that is taken can be moved, those from the second address on
pub can_move : (u : LogicalUnit) (s : UnitSpec) (c : Rw) (lba from place len : ℕ) → s ≡ shape_in u → IsUnit u len → FitsFrame s c → HasBlocks s lba c.n → HasBlocks s from c.n → place ≡ u.at + wide u * (from - u.first) → CanMove s c lba place len
can_move u s c lba from place len e is f told there p =
    let t = rw e at told in
    let a : lba + c.n ≤ u.first + u.blocks = t.last in
    let b = is.addresses in
    record {
      size = rw e is.size;
      sent = f;
      held = place_held u s from c.n place len e there p is.held;
      fits = place_fits u s from c.n place e there p is.places;
      last = omega arith;
    }

pub refused_by : (u : LogicalUnit) (s : UnitSpec) (bytes : List ℕ) (cdb : Cdb) (request : Request) (faults : List FaultLine) (labels : List Label) (out : List ℕ) (room asc o : ℕ) (now : Option (List ℕ)) (result : Outcome) (into : List ℕ) →
    s ≡ shape_in u → u.at + wide u * u.blocks ≤ length bytes → now ≡ Some bytes → result ≡ record { done = 0; sense = Some (illegal asc) } →
    first_of (refusals_of s cdb request faults labels (length out) room) ≡ Some (illegal asc) → Served u (answer_to (unit_in u bytes) cdb request faults labels out room) o o bytes now result into into
refused_by u s bytes cdb request faults labels out room asc o now result into e h k r f =
    let f' = rw e at f in
    served_refused u _ o bytes now result (Some (illegal asc)) into h k r (refused_answer u bytes cdb request faults labels out room (illegal asc) f')

pub written_as : (u : LogicalUnit) (s : UnitSpec) (cdb : Cdb) (c : Rw) (lba to place o n room : ℕ) (faults : List FaultLine) (labels : List Label) (out bytes into : List ℕ) (now : Option (List ℕ)) (result : Outcome) → s ≡ shape_in u →
    u.at + wide u * u.blocks ≤ length bytes → first_of (refusals_of s cdb (Write c) faults labels (length out) room) ≡ None → wire_address faults labels c ≡ pos lba →
    (0 < c.n → stored_address faults labels c ≡ pos to) → HasBlocks s to c.n → place ≡ u.at + wide u * (to - u.first) →
    AllWritten (write_end lba (kept_over faults labels 0 (frames_of (block_bytes s) c.n (drop place bytes)) (written_by s c lba faults labels out))) (block_bytes s) place o n bytes now result →
    Served u (answer_to (unit_in u bytes) cdb (Write c) faults labels out room) o n bytes now result into into
written_as u s cdb c lba to place o n room faults labels out bytes into now result e h f a m b p w =
    let f' = rw e at f in
    let b' = rw e at b in
    let w' = rw e at w in
    served_written u cdb c lba to place o n room faults labels out bytes into now result h f' a m b' p w'

pub read_as : (u : LogicalUnit) (s : UnitSpec) (cdb : Cdb) (c : Rw) (lba from place o n room : ℕ) (faults : List FaultLine) (labels : List Label) (out bytes before after : List ℕ) (now : Option (List ℕ)) (result : Outcome) → s ≡ shape_in u →
    u.at + wide u * u.blocks ≤ length bytes → now ≡ Some bytes → first_of (refusals_of s cdb (Read c) faults labels (length out) room) ≡ None → wire_address faults labels c ≡ pos lba →
    (0 < c.n → medium_address faults labels c ≡ pos from) → HasBlocks s from c.n → place ≡ u.at + wide u * (from - u.first) →
    AllRead (read_end lba (read_by s c lba faults labels (frames_of (block_bytes s) c.n (drop place bytes)))) (block_bytes s) o n result before after →
    Served u (answer_to (unit_in u bytes) cdb (Read c) faults labels out room) o n bytes now result before after
read_as u s cdb c lba from place o n room faults labels out bytes before after now result e h k f a m b p r =
    let f' = rw e at f in
    let b' = rw e at b in
    let r' = rw e at r in
    served_read u cdb c lba from place o n room faults labels out bytes before after now result h k f' a m b' p r'

pub verified_as : (u : LogicalUnit) (s : UnitSpec) (cdb : Cdb) (c : Rw) (place o n room : ℕ) (faults : List FaultLine) (labels : List Label) (out bytes into sent : List ℕ) (now : Option (List ℕ)) (result : Outcome) → s ≡ shape_in u →
    u.at + wide u * u.blocks ≤ length bytes → now ≡ Some bytes → first_of (refusals_of s cdb (Verify c) faults labels (length out) room) ≡ None → HasBlocks s c.lba c.n → place ≡ u.at + wide u * (c.lba - u.first) →
    AllRead (read_end c.lba (read_by s c c.lba faults [] (frames_of (block_bytes s) c.n (drop place bytes)))) (block_bytes s) o n result [] sent →
    Served u (answer_to (unit_in u bytes) cdb (Verify c) faults labels out room) o n bytes now result into into
verified_as u s cdb c place o n room faults labels out bytes into sent now result e h k f b p r =
    let f' = rw e at f in
    let b' = rw e at b in
    let r' = rw e at r in
    served_verified u cdb c place o n room faults labels out bytes into sent now result h k f' b' p r'

-- From the answer to a request to the answer to a command block.

pub fault_answer : (unit : Stored) (faults : List FaultLine) (cdb : List ℕ) (labels : List Label) (out : List ℕ) (room : ℕ) (fault : CdbFault) → Err fault ≡ decoded cdb → (stop : Option Stop) →
    target_answer unit faults cdb labels out room stop ≡ record { done = 0; sense = Some (illegal (asc_of fault)); blocks = unit.blocks; sent = [] }
unfolding target_answer refusal
fault_answer unit faults cdb labels out room fault e stop = rw (← e) refl

same_after : (s : Option Sense) (unit : Stored) (command : Cdb) (faults : List FaultLine) (labels : List Label) (out : List ℕ) (stop : Option Stop) →
    answer_unless s unit (Ok command) faults labels out stop ≡ answer_after s unit (request_of command) faults labels out stop
same_after None unit command faults labels out stop = refl
same_after (Some sense) unit command faults labels out stop = refl

command_answer : (unit : Stored) (faults : List FaultLine) (cdb : List ℕ) (labels : List Label) (out : List ℕ) (room : ℕ) (command : Cdb) → Ok command ≡ decoded cdb → (stop : Option Stop) →
    target_answer unit faults cdb labels out room stop ≡ answer_to unit command (request_of command) faults labels out room stop
unfolding target_answer refusal
command_answer unit faults cdb labels out room command e stop = rw (← e) (same_after (first_of (refusals_of (shape_of unit) command (request_of command) faults labels (length out) room)) unit command faults labels out stop)

pub request_answer : (unit : Stored) (faults : List FaultLine) (cdb : List ℕ) (labels : List Label) (out : List ℕ) (room : ℕ) (command : Cdb) (request : Request) → Ok command ≡ decoded cdb → request ≡ request_of command → (stop : Option Stop) →
    target_answer unit faults cdb labels out room stop ≡ answer_to unit command request faults labels out room stop
request_answer unit faults cdb labels out room command request e r stop = command_answer unit faults cdb labels out room command e stop ∙ ap (λ (q : Request). answer_to unit command q faults labels out room stop) (sym r)

pub served_fault : (u : LogicalUnit) (bytes : List ℕ) (faults : List FaultLine) (cdb : List ℕ) (labels : List Label) (out : List ℕ) (room o : ℕ) (fault : CdbFault) (now : Option (List ℕ)) (result : Outcome) (into : List ℕ) → u.at + wide u * u.blocks ≤ length bytes → now ≡ Some bytes →
    Err fault ≡ decoded cdb → result ≡ record { done = 0; sense = Some (illegal (asc_of fault)) } → Served u (target_answer (unit_in u bytes) faults cdb labels out room) o o bytes now result into into
served_fault u bytes faults cdb labels out room o fault now result into h k e r =
    served_refused u _ o bytes now result (Some (illegal (asc_of fault))) into h k r (fault_answer (unit_in u bytes) faults cdb labels out room fault e)

pub served_request : (u : LogicalUnit) (bytes : List ℕ) (faults : List FaultLine) (cdb : List ℕ) (labels : List Label) (out : List ℕ) (room o n : ℕ) (command : Cdb) (request : Request) (now : Option (List ℕ)) (result : Outcome) (before after : List ℕ) →
    Ok command ≡ decoded cdb → request ≡ request_of command → Served u (answer_to (unit_in u bytes) command request faults labels out room) o n bytes now result before after →
    Served u (target_answer (unit_in u bytes) faults cdb labels out room) o n bytes now result before after
served_request u bytes faults cdb labels out room o n command request now result before after e r s =
    served_as u _ _ o n bytes now result before after (request_answer (unit_in u bytes) faults cdb labels out room command request e r) s

is_other : (a b : ℕ) → eqb a b ≡ false → a ≢ b
is_other a b e = grind (arith, nat_tests)

front_whole : (d before : List ℕ) → length before ≡ length d → d ≡ at_front (d ++ []) before
front_whole d before e =
    let n : length (d ++ []) ≡ length d = ap length (append-nil d) in
    let none : drop (length (d ++ [])) before ≡ [] = drop_all (length (d ++ [])) before (omega (arith, n, e)) in
    sym (append-nil d) ∙ sym (append-nil (d ++ [])) ∙ ap (λ v. (d ++ []) ++ v) (sym none)

capacity_by : (u : LogicalUnit) (bytes : List ℕ) (cdb : Cdb) (len o : ℕ) (faults : List FaultLine) (labels : List Label) (out before after : List ℕ) (now : Option (List ℕ)) (result : Outcome) (b : Bool) → u.at + wide u * u.blocks ≤ length bytes → now ≡ Some bytes →
    (length before ≢ min len 32 → (result ≡ record { done = 0; sense = Some (illegal 0x24) }) × (after ≡ before)) →
    (length before ≡ min len 32 → (result ≡ record { done = 0; sense = None }) × (after ≡ take (min len 32) (capacity_data (shape_in u)))) → eqb (length before) (min len 32) ≡ b →
    Served u (answer_to (unit_in u bytes) cdb (ReadCapacity len) faults labels out (length before)) o o bytes now result before after
capacity_by u bytes cdb len o faults labels out before after now result false h k bad good e =
    let r = bad (is_other (length before) (min len 32) e) in
    rw r.1 (served_refused u _ o bytes now result (Some (illegal 0x24)) before h k r.0 (λ stop. rw e refl))
capacity_by u bytes cdb len o faults labels out before after now result true h k bad good e =
    let is = eqb-true (length before) (min len 32) e in
    let r = good is in
    let told : List ℕ = take (min len 32) (capacity_data (shape_in u)) in
    let long : length told ≡ min len 32 = simp length-take (omega arith) in
    served_as u _ (λ stop. record { done = 0; sense = None; blocks = (unit_in u bytes).blocks; sent = told ∷ [] }) o o bytes now result before after
    (λ stop. rw e (ap (λ (s : UnitSpec). record { done = 0; sense = None; blocks = (unit_in u bytes).blocks; sent = take (min len 32) (capacity_data s) ∷ [] }) (shape_is u bytes)))
    (record { stop = None; cause = tt; outcome = r.0; bytes = k ∙ ap (λ v. Some v) (sym (unit_stays u bytes h)); back = own_back u bytes h; into = r.1 ∙ front_whole told before (is ∙ sym long) })

pub served_capacity : (u : LogicalUnit) (bytes : List ℕ) (cdb : Cdb) (len o : ℕ) (faults : List FaultLine) (labels : List Label) (out before after : List ℕ) (now : Option (List ℕ)) (result : Outcome) → u.at + wide u * u.blocks ≤ length bytes → now ≡ Some bytes →
    (length before ≢ min len 32 → (result ≡ record { done = 0; sense = Some (illegal 0x24) }) × (after ≡ before)) →
    (length before ≡ min len 32 → (result ≡ record { done = 0; sense = None }) × (after ≡ take (min len 32) (capacity_data (shape_in u)))) →
    Served u (answer_to (unit_in u bytes) cdb (ReadCapacity len) faults labels out (length before)) o o bytes now result before after
served_capacity u bytes cdb len o faults labels out before after now result h k bad good =
    capacity_by u bytes cdb len o faults labels out before after now result (eqb (length before) (min len 32)) h k bad good refl

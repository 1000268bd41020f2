-- A read before a unit that is told.
use Rattle.std.proofs.Common.{◌≡◌, ◌<◌, ◌≤◌, ℕ, zero, suc, ◌+◌, ◌-◌, ◌*◌, true, false, not, ◌&&◌, eqb, List, [], ◌∷◌, ◌++◌, length, map, take, drop, get_or, refl, ap, sym, subst, ◌∙◌, arith, Option, Some, None}
use Rattle.std.specs.Prelude.{min, ℤ, pos, ◌+ℤ◌, nat_abs, Result, Ok}
use Rattle.page_pool.specs.Cells.{flat}
use Rattle.pi_tuple.specs.Finds.{is_zero}
use Rattle.cdb_codec.specs.Decoded.{decoded}
use Rattle.cdb_codec.specs.Forms.{Fits, form}
use Rattle.cdb_codec.specs.declared.choice.Dir2.TheVariants.{In}
use Rattle.cdb_codec.specs.declared.command.Cdb.{Cdb}
use Rattle.cdb_codec.specs.declared.command.Rw.{Rw}
use Rattle.cdb_codec.specs.declared.command.CdbFault.{CdbFault}
use Rattle.cdb_codec.proofs.Inverse.{decoded_form}
use Rattle.bio_core.specs.declared.bio.Bio.{Bio}
use Rattle.bio_core.specs.declared.fate.Fate.{Fate}
use Rattle.bio_core.specs.declared.request.Io.{Io}
use Rattle.bio_core.specs.Bios.{Block}
use Rattle.fault_schedule.specs.declared.Label.{Label}
use Rattle.fault_schedule.specs.declared.fault.FaultLine.{FaultLine}
use Rattle.rig_api.specs.Passed.{Flaw, frames_of, joined, sent_size, stored_size, off_medium, is_foreign, request_of, Stop, Stored, answer_unless, carried_out, each, has_blocks, medium_address, passage as passage_of, passed, read_by, read_end, refusal, sending, shape_of, stored_from, target_answer, wire_address}
use Rattle.rig_api.specs.declared.request.Request.TheVariants.{Read as Reads}
use Rattle.rig_api.proofs.Passed.{few_passed}
use Rattle.rig_api.specs.Log.{entry_of, moved_by, moved_under}
use Rattle.rig_api.specs.Telling.{IsAnswer, answer_of, at_front, unit_at}
use Rattle.rig_api.specs.declared.rig.Outcome.{Outcome}
use Rattle.rig_api.specs.State.{RigState}
use Rattle.rig_api.proofs.UnitLaws.{own_blocks}
use Rattle.block_path.specs.Acts.{act}
use Rattle.block_path.specs.Blocks.{fetched_cell}
use Rattle.block_path.specs.Routes.{medium_lba, moved, passage, wire_lba}
use Rattle.block_path.specs.Serial.{plain}
use Rattle.dix_adapter.specs.declared.adapter.Adapter.{Adapter}
use Rattle.dix_adapter.specs.Carried.{command_for, fates_in, landed}
use Rattle.dix_adapter.specs.Groups.{IsProtect, blocks_in, first_of, label_of, route_of, size}
use Rattle.dix_adapter.specs.Outcomes.{done_of, rest_of}
use Rattle.dix_adapter.specs.Ways.{CameIn, acts_in, blocks_told, cell_in, fates_of_in, frames_in, shapes_of, site_of, stopped_in, ways_in}
use Rattle.dix_adapter.proofs.Asking.{address-more, asked-alike, asked-for, count-is, field_for, fields_of, lba-is, no-tuples-asked, not-refused-in, own-form, protect-is}
use Rattle.dix_adapter.proofs.Flaws.{off-alike}
use Rattle.dix_adapter.proofs.Commands.{command-blocks}
use Rattle.dix_adapter.proofs.GoingIn.{acts-in, ends-in, judged-in-long, judged_in, long-at, part-long, passed-long, sent-long-in, ways-in-are}
use Rattle.dix_adapter.proofs.GoingOut.{take-long}
use Rattle.dix_adapter.proofs.Puts.{cell-is, told-at}
use Rattle.dix_adapter.proofs.Labels.{label-at}
use Rattle.dix_adapter.proofs.Runs.{AllLong, Next, Run, cut-joined, front-joined, width-sent, width_for}
use Rattle.dix_adapter.proofs.WentOut.{first-shift}

-- what is known of a read's command before its unit
pub record BeforeIn (a : Adapter) (ios : List Io) (us : List Stored) (device bytes address n at from : ℕ) (s t u : ℤ) (bs : List Block) : Type 0 where
  pub protect : IsProtect a.protect
  pub fits : Fits (command_for a In address n)
  pub there : device < length us
  pub ty : (unit_at us device).ty ≡ a.ty
  pub long : (unit_at us device).size ≡ bytes
  pub whole : AllLong (stored_size a.ty bytes) (unit_at us device).blocks
  pub count : length bs ≡ n
  pub some : 1 ≤ length bs
  pub run : Run a ios device bytes s t u address bs
  pub here : pos address +ℤ s ≡ pos at
  pub there_from : pos at +ℤ t ≡ pos from
  pub sent : has_blocks (shape_of (unit_at us device)) (pos at) n ≡ true
  pub fetched : has_blocks (shape_of (unit_at us device)) (pos from) n ≡ true
  pub above : (unit_at us device).first ≤ from
  pub below : from + n ≤ (unit_at us device).first + length (unit_at us device).blocks

-- ---- the stored blocks

drop-one : (i : ℕ) (xs : List (List ℕ)) → i < length xs → drop i xs ≡ get_or xs i [] ∷ drop (suc i) xs
drop-one i [] h = absurd (omega arith)
drop-one zero (x ∷ xs) h = refl
drop-one (suc i) (x ∷ xs) h = drop-one i xs (omega arith)

fetched-lba : (a : Adapter) (ios : List Io) (device bytes address at from : ℕ) (s t u : ℤ) (k : ℕ) (b : Block) → pos address +ℤ s ≡ pos at → pos at +ℤ t ≡ pos from → Next a ios device bytes s t u (address + k) b →
    (at + k ≡ wire_lba a.tamper (route_of a ios b)) × (medium_lba a.tamper (route_of a ios b) ≡ from + k)
fetched-lba a ios device bytes address at from s t u k b p q r =
    let w : wire_lba a.tamper (route_of a ios b) ≡ at + k = ap (λ j. moved b.lba j) r.wire ∙ ap (λ j. moved j s) r.lba ∙ address-more address k at s p in
    (sym w, ap (λ j. moved (wire_lba a.tamper (route_of a ios b)) j) r.medium ∙ ap (λ j. moved j t) w ∙ address-more at k from t q)

pub fetched-block : (a : Adapter) (ios : List Io) (us : List Stored) (device bytes address at from : ℕ) (s t u : ℤ) (k : ℕ) (b : Block) → device < length us → (unit_at us device).first ≤ from → from + k < (unit_at us device).first + length (unit_at us device).blocks →
    pos address +ℤ s ≡ pos at → pos at +ℤ t ≡ pos from → Next a ios device bytes s t u (address + k) b →
    get_or (blocks_told us) (fetched_cell (site_of a (shapes_of us)) (route_of a ios b)) [] ≡ get_or (unit_at us device).blocks (from + k - (unit_at us device).first) []
fetched-block a ios us device bytes address at from s t u k b l f h p q r =
    let m = fetched-lba a ios device bytes address at from s t u k b p q r in
    ap (λ d. get_or (blocks_told us) (cell_in (shapes_of us) d (medium_lba a.tamper (route_of a ios b))) []) r.dev
    ∙ ap (λ j. get_or (blocks_told us) (cell_in (shapes_of us) device j) []) m.1
    ∙ ap (λ j. get_or (blocks_told us) j []) (cell-is us device (from + k) l)
    ∙ told-at us device (from + k - (unit_at us device).first) l (omega arith)

pub asked-in : (a : Adapter) (ios : List Io) (us : List Stored) (labels : List Label) (device bytes address n at from : ℕ) (s t u : ℤ) (bs : List Block) (k : ℕ) → device < length us → (unit_at us device).ty ≡ a.ty → (unit_at us device).size ≡ bytes →
    (unit_at us device).first ≤ from → from + k + length bs ≤ (unit_at us device).first + length (unit_at us device).blocks → pos address +ℤ s ≡ pos at → pos at +ℤ t ≡ pos from → Run a ios device bytes s t u (address + k) bs → drop k labels ≡ map label_of bs →
    each (λ k frame. off_medium a.tamper (passage_of (shape_of (unit_at us device)) (fields_of a address n) at labels k) frame) k (take (length bs) (drop (from + k - (unit_at us device).first) (unit_at us device).blocks))
    ≡ judged_in a ios (shapes_of us) (blocks_told us) bs
asked-in a ios us labels device bytes address n at from s t u [] k l y z f h p q r d = refl
asked-in a ios us labels device bytes address n at from s t u (b ∷ bs) k l y z f h p q r d =
    let unit = unit_at us device in
    let i : ℕ = from + k - unit.first in
    let o = drop-one i unit.blocks (omega arith) in
    let e : suc i ≡ from + (k + 1) - unit.first = omega arith in
    let lb = label-at k labels (map label_of bs) (label_of b) d in
    let m : suc (address + k) ≡ address + (k + 1) = omega arith in
    let v : suc k ≡ k + 1 = omega arith in
    let fl = fetched-lba a ios device bytes address at from s t u k b p q r.0 in
    let fb = fetched-block a ios us device bytes address at from s t u k b l f (omega arith) p q r.0 in
    ap (λ x. each (λ k frame. off_medium a.tamper (passage_of (shape_of unit) (fields_of a address n) at labels k) frame) k (take (suc (length bs)) x)) (o ∙ ap (λ j. get_or unit.blocks i [] ∷ drop j unit.blocks) e)
    ∙ ap (λ j. j ∷ each (λ k frame. off_medium a.tamper (passage_of (shape_of unit) (fields_of a address n) at labels k) frame) (k + 1) (take (length bs) (drop (from + (k + 1) - unit.first) unit.blocks)))
    (off-alike a.tamper (passage_of (shape_of unit) (fields_of a address n) at labels k) (passage a.tamper (route_of a ios b)) (get_or unit.blocks i [])
    (asked-alike a (shape_of unit) a.tamper labels address n at k (route_of a ios b) (record { ty = y; bytes = z ∙ sym r.0.long; own_type = refl; mode = refl; lba = r.0.lba; wire = fl.0; label = lb.0 }))
    ∙ ap (off_medium a.tamper (passage a.tamper (route_of a ios b))) (sym fb))
    ∙ ap (λ js. off_medium a.tamper (passage a.tamper (route_of a ios b)) (get_or (blocks_told us) (fetched_cell (site_of a (shapes_of us)) (route_of a ios b)) []) ∷ js)
    (asked-in a ios us labels device bytes address n at from s t u bs (k + 1) l y z f (omega arith) p q (subst (λ j. Run a ios device bytes s t u j bs) m r.1) (ap (λ j. drop j labels) (sym v) ∙ lb.1))

pub came-wide : (a : Adapter) (ios : List Io) (us : List Stored) (device bytes address at from : ℕ) (s t u : ℤ) (bs : List Block) (k : ℕ) → IsProtect a.protect → device < length us → AllLong (stored_size a.ty bytes) (unit_at us device).blocks →
    (unit_at us device).first ≤ from → from + k + length bs ≤ (unit_at us device).first + length (unit_at us device).blocks → pos address +ℤ s ≡ pos at → pos at +ℤ t ≡ pos from → Run a ios device bytes s t u (address + k) bs →
    AllLong (width_for a bytes) (passed (judged_in a ios (shapes_of us) (blocks_told us) bs))
came-wide a ios us device bytes address at from s t u [] k p l w f h x y r = tt
came-wide a ios us device bytes address at from s t u (b ∷ bs) k p l w f h x y r =
    let m : suc (address + k) ≡ address + suc k = omega arith in
    let fb = fetched-block a ios us device bytes address at from s t u k b l f (omega arith) x y r.0 in
    passed-long (width_for a bytes) (off_medium a.tamper (passage a.tamper (route_of a ios b)) (get_or (blocks_told us) (fetched_cell (site_of a (shapes_of us)) (route_of a ios b)) [])) (judged_in a ios (shapes_of us) (blocks_told us) bs)
    (sent-long-in a ios b (get_or (blocks_told us) (fetched_cell (site_of a (shapes_of us)) (route_of a ios b)) []) bytes p r.0.long (ap length fb ∙ long-at (stored_size a.ty bytes) (unit_at us device).blocks (from + k - (unit_at us device).first) w (omega arith)))
    (came-wide a ios us device bytes address at from s t u bs (suc k) p l w f (omega arith) x y (subst (λ j. Run a ios device bytes s t u j bs) m r.1))

-- ---- the answer

sending-same : (unit : Stored) (c : Rw) (faults : List FaultLine) (labels : List Label) (stop : Option Stop) (at from : ℕ) (js : List (Result (List ℕ) Flaw)) → wire_address faults labels c ≡ pos at → medium_address faults labels c ≡ pos from → read_by (shape_of unit) c at faults labels (stored_from unit from c.n) ≡ js →
    carried_out unit (Reads c) faults labels [] stop ≡ sending unit.blocks (read_end at js stop)
sending-same unit c faults labels stop at from js e m j =
    ap (λ (z : ℤ). sending unit.blocks (read_end (nat_abs z) (read_by (shape_of unit) c (nat_abs z) faults labels (stored_from unit (nat_abs (medium_address faults labels c)) c.n)) stop)) e
    ∙ ap (λ (z : ℤ). sending unit.blocks (read_end at (read_by (shape_of unit) c at faults labels (stored_from unit (nat_abs z) c.n)) stop)) m
    ∙ ap (λ x. sending unit.blocks (read_end at x stop)) j

answer-by : (unit : Stored) (cmd : Cdb) (faults : List FaultLine) (labels : List Label) (room : ℕ) (stop : Option Stop) (c : Rw) → Fits cmd → request_of cmd ≡ Reads c → refusal (shape_of unit) (Ok cmd) faults labels 0 room ≡ None →
    target_answer unit faults (form cmd) labels [] room stop ≡ carried_out unit (Reads c) faults labels [] stop
unfolding target_answer
answer-by unit cmd faults labels room stop c f q r =
    ap (λ (d : Result Cdb CdbFault). answer_unless (refusal (shape_of unit) d faults labels 0 room) unit d faults labels [] stop) (decoded_form cmd f)
    ∙ ap (λ x. answer_unless x unit (Ok cmd) faults labels [] stop) r ∙ ap (λ x. carried_out unit x faults labels [] stop) q

medium-shift : (a : Adapter) (ios : List Io) (device bytes : ℕ) (s t u : ℤ) (address : ℕ) (bs : List Block) (c : Rw) → 1 ≤ length bs → Run a ios device bytes s t u address bs → medium_address a.tamper (map label_of bs) c ≡ wire_address a.tamper (map label_of bs) c +ℤ t
medium-shift a ios device bytes s t u address [] c h r = absurd (omega arith)
medium-shift a ios device bytes s t u address (b ∷ bs) c h r = ap (λ z. wire_address a.tamper (map label_of (b ∷ bs)) c +ℤ z) r.0.medium

pub answered-in : (a : Adapter) (ios : List Io) (us : List Stored) (device bytes address n at from room : ℕ) (s t u : ℤ) (bs : List Block) (stop : Option Stop) → BeforeIn a ios us device bytes address n at from s t u bs → room ≡ n * width_for a bytes →
    target_answer (unit_at us device) a.tamper (form (command_for a In address n)) (map label_of bs) [] room stop
    ≡ sending (unit_at us device).blocks (read_end at (judged_in a ios (shapes_of us) (blocks_told us) bs) stop)
answered-in a ios us device bytes address n at from room s t u bs stop k v =
    let unit = unit_at us device in
    let c = fields_of a address n in
    let w : wire_address a.tamper (map label_of bs) c ≡ pos at = first-shift a ios device bytes s t u address bs c k.some k.run ∙ ap (λ z. pos z +ℤ s) (lba-is a address n) ∙ k.here in
    let m : medium_address a.tamper (map label_of bs) c ≡ pos from = medium-shift a ios device bytes s t u address bs c k.some k.run ∙ ap (λ z. z +ℤ t) w ∙ k.there_from in
    let y : sent_size c.protect unit.size ≡ width_for a bytes = ap (λ z. sent_size z unit.size) (protect-is a address n) ∙ ap (sent_size (field_for a)) k.long ∙ width-sent a bytes k.protect in
    let za : address ≡ address + 0 = omega arith in
    let zf : from ≡ from + 0 = omega arith in
    let zn : from + 0 + length bs ≤ unit.first + length unit.blocks = (let x = k.below in let z = k.count in omega arith) in
    let j : read_by (shape_of unit) c at a.tamper (map label_of bs) (stored_from unit from c.n) ≡ judged_in a ios (shapes_of us) (blocks_told us) bs =
    ap (λ x. each (λ i frame. off_medium a.tamper (passage_of (shape_of unit) c at (map label_of bs) i) frame) 0 (take x (drop (from - unit.first) unit.blocks))) (count-is a address n ∙ sym k.count)
    ∙ ap (λ x. each (λ i frame. off_medium a.tamper (passage_of (shape_of unit) c at (map label_of bs) i) frame) 0 (take (length bs) (drop (x - unit.first) unit.blocks))) zf
    ∙ asked-in a ios us (map label_of bs) device bytes address n at from s t u bs 0 k.there k.ty k.long k.above zn k.here k.there_from (subst (λ z. Run a ios device bytes s t u z bs) za k.run) refl in
    let r : refusal (shape_of unit) (Ok (command_for a In address n)) a.tamper (map label_of bs) 0 room ≡ None =
    not-refused-in (shape_of unit) (command_for a In address n) c a.tamper (map label_of bs) 0 room (asked-for a In address n)
    (subst (λ z. is_foreign z (command_for a In address n) ≡ false) (sym k.ty) (own-form a In address n))
    (subst (λ z. (is_zero z && not (eqb c.protect 0)) ≡ false) (sym k.ty) (no-tuples-asked a address n))
    (ap (λ z. has_blocks (shape_of unit) z c.n) w ∙ ap (has_blocks (shape_of unit) (pos at)) (count-is a address n) ∙ k.sent)
    (ap (λ z. has_blocks (shape_of unit) z c.n) m ∙ ap (has_blocks (shape_of unit) (pos from)) (count-is a address n) ∙ k.fetched)
    (v ∙ ap (λ z. z * width_for a bytes) (sym (count-is a address n)) ∙ ap (λ z. c.n * z) (sym y)) in
    answer-by unit (command_for a In address n) a.tamper (map label_of bs) room stop c k.fits (asked-for a In address n) r
    ∙ sending-same unit c a.tamper (map label_of bs) stop at from (judged_in a ios (shapes_of us) (blocks_told us) bs) w m j

-- ---- the record

moved-in : (a : Adapter) (bytes width address n d : ℕ) (fs : List (List ℕ)) (rest : List ℕ) → Fits (command_for a In address n) → IsProtect a.protect → AllLong (width_for a bytes) fs → length fs ≡ d → d ≤ n → width ≡ bytes →
    moved_under width (decoded (form (command_for a In address n))) d [] (joined fs ++ rest) ≡ joined fs
moved-in a bytes width address n d fs rest f p w m l e =
    let c = fields_of a address n in
    let k : min d n ≡ d = omega arith in
    ap (λ x. moved_under width x d [] (joined fs ++ rest)) (decoded_form (command_for a In address n) f)
    ∙ ap (λ x. moved_by width x d [] (joined fs ++ rest)) (asked-for a In address n)
    ∙ ap (λ x. take (min d x * sent_size c.protect width) (joined fs ++ rest)) (count-is a address n)
    ∙ ap (λ x. take (x * sent_size c.protect width) (joined fs ++ rest)) k
    ∙ ap (λ x. take (d * sent_size x width) (joined fs ++ rest)) (protect-is a address n)
    ∙ ap (λ x. take (d * sent_size (field_for a) x) (joined fs ++ rest)) e
    ∙ ap (λ x. take (d * x) (joined fs ++ rest)) (width-sent a bytes p)
    ∙ front-joined (width_for a bytes) d fs rest w (omega arith)
    ∙ ap joined (all-taken d fs m)
  where
    all-taken : (d : ℕ) (fs : List (List ℕ)) → length fs ≡ d → take d fs ≡ fs
    all-taken zero [] e = refl
    all-taken zero (f ∷ fs) e = absurd (omega arith)
    all-taken (suc d) [] e = absurd (omega arith)
    all-taken (suc d) (f ∷ fs) e = ap (λ z. f ∷ z) (all-taken d fs (omega arith))

-- ---- all of it

pub came-by : (a : Adapter) (ios : List Io) (req : List Bio) (pool pool' : List (List ℕ)) (us : List Stored) (stop : Option Stop) (fates : List Fate) (old new : RigState) (bytes at from width : ℕ) (s t u : ℤ) (o : Outcome) (was came : List ℕ) →
    BeforeIn a ios us (first_of req).dev bytes (first_of req).lba (size req) at from s t u (blocks_in req) → width ≡ bytes → length was ≡ size req * width_for a bytes →
    IsAnswer (answer_of us a.tamper (first_of req).dev (form (command_for a In (first_of req).lba (size req))) (map label_of (blocks_in req)) [] (length was) stop) us (first_of req).dev o new.units was came →
    new.log ≡ old.log ++ (entry_of width (first_of req).dev (form (command_for a In (first_of req).lba (size req))) (map label_of (blocks_in req)) o [] came ∷ []) →
    fates ≡ fates_in a ios (blocks_in req) (frames_of (width_for a bytes) (done_of (size req) o) came) ++ rest_of (size req) o →
    flat pool' ≡ landed a ios (blocks_in req) (frames_of (width_for a bytes) (done_of (size req) o) came) (flat pool) →
    CameIn a ios req pool pool' us stop fates old new
came-by a ios req pool pool' us stop fates old new bytes at from width s t u o was came k w v answer log fate lands =
    let bs = blocks_in req in
    let unit = unit_at us (first_of req).dev in
    let js = judged_in a ios (shapes_of us) (blocks_told us) bs in
    let end = read_end at js stop in
    let ways = ways-in-are a ios (shapes_of us) (blocks_told us) bs in
    let jn : length js ≡ size req = judged-in-long a ios (shapes_of us) (blocks_told us) bs ∙ k.count in
    let bn : length bs ≡ length js = sym (judged-in-long a ios (shapes_of us) (blocks_told us) bs) in
    let ends = ends-in a ios stop at bs js bn in
    let ans = answered-in a ios us (first_of req).dev bytes (first_of req).lba (size req) at from (length was) s t u bs stop k v in
    let isa = subst (λ x. IsAnswer x us (first_of req).dev o new.units was came) ans answer in
    let od : o.done ≡ end.done = ap (λ (x : Outcome). x.done) isa.outcome in
    let fl : length end.frames ≡ end.done = ap length ends.part ∙ take-long end.done (passed js) ends.few in
    let dn : end.done ≤ size req = (let x = ends.few in let y = few_passed js in omega arith) in
    let za : (first_of req).lba ≡ (first_of req).lba + 0 = omega arith in
    let zn : from + 0 + length bs ≤ unit.first + length unit.blocks = (let x = k.below in let z = k.count in omega arith) in
    let wide = came-wide a ios us (first_of req).dev bytes (first_of req).lba at from s t u bs 0 k.protect k.there k.whole k.above zn k.here k.there_from (subst (λ z. Run a ios (first_of req).dev bytes s t u z bs) za k.run) in
    let wide' : AllLong (width_for a bytes) end.frames = subst (AllLong (width_for a bytes)) (sym ends.part) (part-long (width_for a bytes) end.done (passed js) wide) in
    let dd : done_of (size req) o ≡ length end.frames = (let m : min end.done (size req) ≡ end.done = omega arith in ap (λ d. min d (size req)) od ∙ m ∙ sym fl) in
    let cut : frames_of (width_for a bytes) (done_of (size req) o) came ≡ end.frames =
    ap (λ x. frames_of (width_for a bytes) (done_of (size req) o) x) isa.into ∙ ap (λ d. frames_of (width_for a bytes) d (at_front (joined end.frames) was)) dd
    ∙ cut-joined (width_for a bytes) end.frames (drop (length (joined end.frames)) was) wide' in
    let fr : frames_in (stopped_in stop (ways_in a ios (shapes_of us) (blocks_told us) bs)) ≡ end.frames = ap (λ z. frames_in (stopped_in stop z)) ways ∙ ends.frames in
    let lf : length (frames_in (stopped_in stop (ways_in a ios (shapes_of us) (blocks_told us) bs))) ≡ end.done = ap length fr ∙ fl in
    record {
      fates_are = fate ∙ ap (λ z. fates_in a ios bs z ++ rest_of (size req) o) cut ∙ ap (λ x. fates_in a ios bs end.frames ++ rest_of (size req) x) isa.outcome
          ∙ ap (λ n. fates_in a ios bs end.frames ++ rest_of n (record { done = end.done; sense = end.sense })) (sym jn) ∙ sym ends.fates ∙ ap (λ z. fates_of_in (stopped_in stop z)) (sym ways);
      told = isa.units ∙ ap (λ z. Some z) (own_blocks us (first_of req).dev);
      cells = λ kept now b c.
          lands ∙ ap (λ z. landed a ios bs z (flat pool)) (cut ∙ ends.part) ∙ ap (landed a ios bs (take end.done (passed js))) (sym b)
          ∙ sym (acts-in a ios (shapes_of us) (blocks_told us) kept bs end.done now c ends.few)
          ∙ ap (λ n. (plain act (take n (acts_in a ios (shapes_of us) kept bs)) now).bytes) (sym lf);
      entry = entry_of width (first_of req).dev (form (command_for a In (first_of req).lba (size req))) (map label_of bs) o [] came;
      recorded = log;
      done = od ∙ sym lf;
      moved = ap (λ d. moved_under width (decoded (form (command_for a In (first_of req).lba (size req)))) d [] came) od
          ∙ ap (λ x. moved_under width (decoded (form (command_for a In (first_of req).lba (size req)))) end.done [] x) isa.into
          ∙ moved-in a bytes width (first_of req).lba (size req) end.done end.frames (drop (length (joined end.frames)) was) k.fits k.protect wide' fl dn w
          ∙ ap joined (sym fr);
      labels = ap (λ n. take (min (o.done + 1) n) (map label_of bs)) (command-blocks a In (first_of req).lba (size req) k.fits);
    }

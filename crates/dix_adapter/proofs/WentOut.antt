-- A write before a unit that is told.
use Rattle.std.proofs.Common.{◌≡◌, ◌<◌, ◌≤◌, ℕ, zero, suc, ◌+◌, ◌-◌, ◌*◌, true, false, not, ◌&&◌, eqb, List, [], ◌∷◌, ◌++◌, length, map, take, drop, drop-cons, get_or, replicate, refl, ap, sym, subst, ◌∙◌, arith, Option, None}
use Rattle.std.specs.Prelude.{min, ℤ, pos, ◌+ℤ◌, nat_abs, Result, Ok}
use Rattle.std.proofs.lemmas.List.{append-nil, length-drop, length-take}
use Rattle.page_pool.specs.Cells.{flat}
use Rattle.pi_tuple.specs.Finds.{is_zero}
use Rattle.cdb_codec.specs.Decoded.{decoded}
use Rattle.cdb_codec.specs.Forms.{Fits, form}
use Rattle.cdb_codec.specs.declared.choice.Dir2.TheVariants.{Out}
use Rattle.cdb_codec.specs.declared.command.Cdb.{Cdb}
use Rattle.cdb_codec.specs.declared.command.Rw.{Rw}
use Rattle.cdb_codec.specs.declared.command.CdbFault.{CdbFault}
use Rattle.cdb_codec.proofs.Inverse.{decoded_form}
use Rattle.bio_core.specs.declared.bio.Bio.{Bio}
use Rattle.bio_core.specs.declared.fate.Fate.{Fate}
use Rattle.bio_core.specs.declared.fate.Fate.TheVariants.{Good}
use Rattle.bio_core.specs.declared.request.Io.{Io}
use Rattle.bio_core.specs.Bios.{Block}
use Rattle.fault_schedule.specs.declared.Label.{Label}
use Rattle.fault_schedule.specs.declared.fault.FaultLine.{FaultLine}
use Rattle.rig_api.specs.Passed.{Flaw, frames_of, joined, placed, sent_size, onto_medium, is_foreign, request_of, Stop, Stored, answer_unless, bytes_of, carried_out, each, has_blocks, kept_over, passage as passage_of, passed, refusal, shape_of, stored_address, stored_from, storing, target_answer, wire_address, write_end, written_by}
use Rattle.rig_api.specs.declared.request.Request.TheVariants.{Write as Writes}
use Rattle.rig_api.proofs.KeptLaws.{kept-end, kept-many}
use Rattle.rig_api.proofs.Passed.{few_passed, few_written}
use Rattle.rig_api.specs.Log.{entry_of, moved_by, moved_under}
use Rattle.rig_api.specs.Telling.{IsAnswer, answer_of, unit_at, with_blocks}
use Rattle.rig_api.specs.declared.rig.Outcome.{Outcome}
use Rattle.rig_api.specs.State.{RigState}
use Rattle.block_path.specs.Acts.{act}
use Rattle.block_path.specs.Routes.{moved, stored_lba, wire_lba}
use Rattle.block_path.specs.Serial.{plain}
use Rattle.dix_adapter.specs.declared.adapter.Adapter.{Adapter}
use Rattle.dix_adapter.specs.Carried.{any_bad, command_for, out_of, sends}
use Rattle.dix_adapter.specs.Groups.{IsBio, IsCarriedGroup, IsProtect, blocks_in, first_of, label_of, route_of, size}
use Rattle.dix_adapter.specs.Outcomes.{done_of, rest_of}
use Rattle.dix_adapter.specs.Ways.{WentOut, acts_out, blocks_told, cell_in, cells_out, fates_out, frames_out, left_at, shapes_of, stopped_out, ways_out}
use Rattle.dix_adapter.proofs.Asking.{address-more, asked-for, count-is, field_for, fields_of, lba-is, no-tuples-asked, not-refused-out, own-form, protect-is}
use Rattle.dix_adapter.proofs.Commands.{command-blocks}
use Rattle.dix_adapter.proofs.GoingOut.{InTurn, Stand, all_sent, ends-out, judged-long, judged_out, sent-long, stored-out, take-long, told, ways-are}
use Rattle.dix_adapter.proofs.Puts.{before, cell-is, placed-puts, puts, puts-long, told-at, told-puts, told-shapes}
use Rattle.dix_adapter.proofs.Runs.{AllLong, Run, asked-out, cut-joined, front-joined, joined-long, sent-wide, width-sent, width_for}

-- the shift of the command is that of its blocks
pub first-shift : (a : Adapter) (ios : List Io) (device bytes : ℕ) (s t u : ℤ) (address : ℕ) (bs : List Block) (c : Rw) → 1 ≤ length bs → Run a ios device bytes s t u address bs → wire_address a.tamper (map label_of bs) c ≡ pos c.lba +ℤ s
first-shift a ios device bytes s t u address [] c h r = absurd (omega arith)
first-shift a ios device bytes s t u address (b ∷ bs) c h r = ap (λ z. pos c.lba +ℤ z) r.0.wire

stored-shift : (a : Adapter) (ios : List Io) (device bytes : ℕ) (s t u : ℤ) (address : ℕ) (bs : List Block) (c : Rw) → 1 ≤ length bs → Run a ios device bytes s t u address bs → stored_address a.tamper (map label_of bs) c ≡ wire_address a.tamper (map label_of bs) c +ℤ u
stored-shift a ios device bytes s t u address [] c h r = absurd (omega arith)
stored-shift a ios device bytes s t u address (b ∷ bs) c h r = ap (λ z. wire_address a.tamper (map label_of (b ∷ bs)) c +ℤ z) r.0.stored

pub some-blocks : (a : Adapter) (pool : List (List ℕ)) (bytes : ℕ) (ios : List Io) (req : List Bio) → IsCarriedGroup a pool bytes ios req → 1 ≤ size req
some-blocks a pool bytes ios [] g = absurd (let x = g.some in omega arith)
some-blocks a pool bytes ios (b ∷ bs) g =
    let x : IsBio a pool bytes ios b.dev b.dir b = g.bios 0 b (omega arith) in
    let y = x.some in
    omega arith

-- what is known of a write's command before its unit
pub record Before (a : Adapter) (ios : List Io) (unit : Stored) (device bytes address n at to : ℕ) (s t u : ℤ) (bs : List Block) : Type 0 where
  pub protect : IsProtect a.protect
  pub fits : Fits (command_for a Out address n)
  pub ty : unit.ty ≡ a.ty
  pub long : unit.size ≡ bytes
  pub count : length bs ≡ n
  pub some : 1 ≤ length bs
  pub run : Run a ios device bytes s t u address bs
  pub here : pos address +ℤ s ≡ pos at
  pub there : pos at +ℤ u ≡ pos to
  pub within : has_blocks (shape_of unit) (pos at) n ≡ true
  pub stored : has_blocks (shape_of unit) (pos to) n ≡ true

storing-same : (unit : Stored) (c : Rw) (faults : List FaultLine) (labels : List Label) (out : List ℕ) (stop : Option Stop) (at to n : ℕ) (js : List (Result (List ℕ) Flaw)) → wire_address faults labels c ≡ pos at → stored_address faults labels c ≡ pos to → c.n ≡ n → written_by (shape_of unit) c at faults labels out ≡ js →
    carried_out unit (Writes c) faults labels out stop ≡ storing (to - unit.first) unit.blocks (write_end at (kept_over faults labels 0 (stored_from unit to n) js) stop)
storing-same unit c faults labels out stop at to n js e d m j =
    let stored : ℕ = nat_abs (stored_address faults labels c) in
    ap (λ (z : ℤ). storing (stored - unit.first) unit.blocks (write_end (nat_abs z) (kept_over faults labels 0 (stored_from unit stored c.n) (written_by (shape_of unit) c (nat_abs z) faults labels out)) stop)) e
    ∙ ap (λ (z : ℤ). storing (nat_abs z - unit.first) unit.blocks (write_end at (kept_over faults labels 0 (stored_from unit (nat_abs z) c.n) (written_by (shape_of unit) c at faults labels out)) stop)) d
    ∙ ap (λ x. storing (to - unit.first) unit.blocks (write_end at (kept_over faults labels 0 (stored_from unit to c.n) x) stop)) j
    ∙ ap (λ x. storing (to - unit.first) unit.blocks (write_end at (kept_over faults labels 0 (stored_from unit to x) js) stop)) m

answer-by : (unit : Stored) (cmd : Cdb) (faults : List FaultLine) (labels : List Label) (out : List ℕ) (stop : Option Stop) (c : Rw) → Fits cmd → request_of cmd ≡ Writes c → refusal (shape_of unit) (Ok cmd) faults labels (length out) 0 ≡ None →
    target_answer unit faults (form cmd) labels out 0 stop ≡ carried_out unit (Writes c) faults labels out stop
unfolding target_answer
answer-by unit cmd faults labels out stop c f q r =
    ap (λ (d : Result Cdb CdbFault). answer_unless (refusal (shape_of unit) d faults labels (length out) 0) unit d faults labels out stop) (decoded_form cmd f)
    ∙ ap (λ x. answer_unless x unit (Ok cmd) faults labels out stop) r ∙ ap (λ x. carried_out unit x faults labels out stop) q

pub answered-out : (a : Adapter) (ios : List Io) (unit : Stored) (device bytes address n at to : ℕ) (s t u : ℤ) (bs : List Block) (cells : List ℕ) (stop : Option Stop) → Before a ios unit device bytes address n at to s t u bs → any_bad (map (sends a ios cells) bs) ≡ false →
    target_answer unit a.tamper (form (command_for a Out address n)) (map label_of bs) (joined (all_sent a ios cells bs)) 0 stop
    ≡ storing (to - unit.first) unit.blocks (write_end at (kept_over a.tamper (map label_of bs) 0 (stored_from unit to n) (judged_out a ios cells bs)) stop)
answered-out a ios unit device bytes address n at to s t u bs cells stop k g =
    let c = fields_of a address n in
    let fs = all_sent a ios cells bs in
    let w : wire_address a.tamper (map label_of bs) c ≡ pos at = first-shift a ios device bytes s t u address bs c k.some k.run ∙ ap (λ z. pos z +ℤ s) (lba-is a address n) ∙ k.here in
    let d : stored_address a.tamper (map label_of bs) c ≡ pos to = stored-shift a ios device bytes s t u address bs c k.some k.run ∙ ap (λ z. z +ℤ u) w ∙ k.there in
    let y : sent_size c.protect unit.size ≡ width_for a bytes = ap (λ z. sent_size z unit.size) (protect-is a address n) ∙ ap (sent_size (field_for a)) k.long ∙ width-sent a bytes k.protect in
    let wide = sent-wide a ios cells device bytes s t u address bs k.run g in
    let m : length fs ≡ n = sent-long a ios cells bs ∙ k.count in
    let v : length (joined fs) ≡ bytes_of unit.size c = joined-long (width_for a bytes) fs wide ∙ ap (λ z. z * width_for a bytes) (m ∙ sym (count-is a address n)) ∙ ap (λ z. c.n * z) (sym y) in
    let cut : frames_of (sent_size c.protect unit.size) c.n (joined fs) ≡ fs =
    ap (λ z. frames_of z c.n (joined fs)) y ∙ ap (λ z. frames_of (width_for a bytes) z (joined fs)) (count-is a address n ∙ sym m)
    ∙ ap (frames_of (width_for a bytes) (length fs)) (sym (append-nil (joined fs))) ∙ cut-joined (width_for a bytes) fs [] wide in
    let zero-more : address ≡ address + 0 = omega arith in
    let j : written_by (shape_of unit) c at a.tamper (map label_of bs) (joined fs) ≡ judged_out a ios cells bs =
    ap (each (λ i frame. onto_medium a.tamper (passage_of (shape_of unit) c at (map label_of bs) i) frame) 0) cut
    ∙ asked-out a ios (shape_of unit) (map label_of bs) cells address n at device bytes s t u bs 0 k.ty k.long k.here (subst (λ z. Run a ios device bytes s t u z bs) zero-more k.run) refl in
    let r : refusal (shape_of unit) (Ok (command_for a Out address n)) a.tamper (map label_of bs) (length (joined fs)) 0 ≡ None =
    not-refused-out (shape_of unit) (command_for a Out address n) c a.tamper (map label_of bs) (length (joined fs)) 0 (asked-for a Out address n)
    (subst (λ z. is_foreign z (command_for a Out address n) ≡ false) (sym k.ty) (own-form a Out address n))
    (subst (λ z. (is_zero z && not (eqb c.protect 0)) ≡ false) (sym k.ty) (no-tuples-asked a address n))
    (ap (λ z. has_blocks (shape_of unit) z c.n) w ∙ ap (has_blocks (shape_of unit) (pos at)) (count-is a address n) ∙ k.within)
    (ap (λ z. has_blocks (shape_of unit) z c.n) d ∙ ap (has_blocks (shape_of unit) (pos to)) (count-is a address n) ∙ k.stored) v in
    answer-by unit (command_for a Out address n) a.tamper (map label_of bs) (joined fs) stop c k.fits (asked-for a Out address n) r
    ∙ storing-same unit c a.tamper (map label_of bs) (joined fs) stop at to n (judged_out a ios cells bs) w d (count-is a address n) j

-- ---- the cells of the blocks

turn-out : (a : Adapter) (ios : List Io) (us : List Stored) (device bytes address at to : ℕ) (s t u : ℤ) (bs : List Block) (k : ℕ) → device < length us → pos address +ℤ s ≡ pos at → pos at +ℤ u ≡ pos to → (unit_at us device).first ≤ to → Run a ios device bytes s t u (address + k) bs →
    InTurn (before us device + (to - (unit_at us device).first) + k) (cells_out a ios (shapes_of us) bs)
turn-out a ios us device bytes address at to s t u [] k l p d f r = tt
turn-out a ios us device bytes address at to s t u (b ∷ bs) k l p d f r =
    let w : wire_lba a.tamper (route_of a ios b) ≡ at + k = ap (λ j. moved b.lba j) r.0.wire ∙ ap (λ j. moved j s) r.0.lba ∙ address-more address k at s p in
    let v : stored_lba a.tamper (route_of a ios b) ≡ to + k = ap (λ j. moved (wire_lba a.tamper (route_of a ios b)) j) r.0.stored ∙ ap (λ j. moved j u) w ∙ address-more at k to u d in
    let m : before us device + (to + k - (unit_at us device).first) ≡ before us device + (to - (unit_at us device).first) + k = omega arith in
    let n : suc (before us device + (to - (unit_at us device).first) + k) ≡ before us device + (to - (unit_at us device).first) + suc k = omega arith in
    let q : suc (address + k) ≡ address + suc k = omega arith in (
      ap (λ j. cell_in (shapes_of us) j (stored_lba a.tamper (route_of a ios b))) r.0.dev ∙ ap (cell_in (shapes_of us) device) v ∙ cell-is us device (to + k) l ∙ m,
      subst (λ c. InTurn c (cells_out a ios (shapes_of us) bs)) (sym n) (turn-out a ios us device bytes address at to s t u bs (suc k) l p d f (subst (λ c. Run a ios device bytes s t u c bs) q r.1)),
    )

-- what stands in the unit from an address on stands among all from its cell on
stand-told : (us : List Stored) (device i n : ℕ) → device < length us → i + n ≤ length (unit_at us device).blocks → Stand (before us device + i) (take n (drop i (unit_at us device).blocks)) (blocks_told us)
stand-told us device i zero l h = tt
stand-told us device i (suc n) l h =
    let blocks : List (List ℕ) = (unit_at us device).blocks in
    let more : take (suc n) (drop i blocks) ≡ get_or blocks i [] ∷ take n (drop (suc i) blocks) = ap (take (suc n)) (drop-cons blocks i [] (omega arith)) in
    let next : before us device + suc i ≡ suc (before us device + i) = omega arith in
    subst (λ olds. Stand (before us device + i) olds (blocks_told us)) (sym more)
    (told-at us device i l (omega arith), subst (λ c. Stand c (take n (drop (suc i) blocks)) (blocks_told us)) next (stand-told us device (suc i) n l (omega arith)))

few-taken : (i n : ℕ) (blocks : List (List ℕ)) → i + n ≤ length blocks → length (take n (drop i blocks)) ≡ n
few-taken i n blocks h = simp (length-take, length-drop) (omega arith)

-- ---- the record

pub moved-out : (a : Adapter) (bytes width address n d : ℕ) (fs : List (List ℕ)) (came : List ℕ) → Fits (command_for a Out address n) → IsProtect a.protect → AllLong (width_for a bytes) fs → length fs ≡ n → d ≤ n → width ≡ bytes →
    moved_under width (decoded (form (command_for a Out address n))) d (joined fs) came ≡ joined (take d fs)
moved-out a bytes width address n d fs came f p w m l e =
    let c = fields_of a address n in
    let k : min d n ≡ d = omega arith in
    ap (λ x. moved_under width x d (joined fs) came) (decoded_form (command_for a Out address n) f)
    ∙ ap (λ x. moved_by width x d (joined fs) came) (asked-for a Out address n)
    ∙ ap (λ x. take (min d x * sent_size c.protect width) (joined fs)) (count-is a address n)
    ∙ ap (λ x. take (x * sent_size c.protect width) (joined fs)) k
    ∙ ap (λ x. take (d * sent_size x width) (joined fs)) (protect-is a address n)
    ∙ ap (λ x. take (d * sent_size (field_for a) x) (joined fs)) e
    ∙ ap (λ x. take (d * x) (joined fs)) (width-sent a bytes p)
    ∙ ap (take (d * width_for a bytes)) (sym (append-nil (joined fs)))
    ∙ front-joined (width_for a bytes) d fs [] w (omega arith)

-- ---- all of it

pub went-by : (a : Adapter) (ios : List Io) (req : List Bio) (pool : List (List ℕ)) (us : List Stored) (stop : Option Stop) (fates : List Fate) (old new : RigState) (bytes at to width : ℕ) (s t u : ℤ) (o : Outcome) →
    Before a ios (unit_at us (first_of req).dev) (first_of req).dev bytes (first_of req).lba (size req) at to s t u (blocks_in req) → any_bad (map (sends a ios (flat pool)) (blocks_in req)) ≡ false → (first_of req).dev < length us →
    (unit_at us (first_of req).dev).first ≤ to → to + size req ≤ (unit_at us (first_of req).dev).first + length (unit_at us (first_of req).dev).blocks → width ≡ bytes →
    IsAnswer (answer_of us a.tamper (first_of req).dev (form (command_for a Out (first_of req).lba (size req))) (map label_of (blocks_in req)) (out_of a ios req pool) 0 stop) us (first_of req).dev o new.units [] [] →
    new.log ≡ old.log ++ (entry_of width (first_of req).dev (form (command_for a Out (first_of req).lba (size req))) (map label_of (blocks_in req)) o (out_of a ios req pool) [] ∷ []) →
    fates ≡ replicate (done_of (size req) o) Good ++ rest_of (size req) o →
    WentOut a ios req (flat pool) us stop fates old new
went-by a ios req pool us stop fates old new bytes at to width s t u o k g l f e w answer log fate =
    let bs = blocks_in req in
    let unit = unit_at us (first_of req).dev in
    let cells = flat pool in
    let js = judged_out a ios cells bs in
    let fs = all_sent a ios cells bs in
    let olds : List (List ℕ) = stored_from unit to (size req) in
    let ks : List (Result (List ℕ) Flaw) = kept_over a.tamper (map label_of bs) 0 olds js in
    let end = write_end at ks stop in
    let same = kept-end a.tamper (map label_of bs) 0 at olds js stop in
    let ways = ways-are a ios cells bs g in
    let jn : length js ≡ size req = judged-long a ios cells bs ∙ k.count in
    let fn : length fs ≡ length js = sent-long a ios cells bs ∙ sym (judged-long a ios cells bs) in
    let ends = ends-out stop at fs js fn in
    let ans = answered-out a ios unit (first_of req).dev bytes (first_of req).lba (size req) at to s t u bs cells stop k g in
    let isa = subst (λ x. IsAnswer x us (first_of req).dev o new.units [] []) ans answer in
    let pf = few_passed js in
    let dn : end.done ≤ size req = (let x = ends.few in omega (arith, same.0)) in
    let fr : frames_out (stopped_out stop (ways_out a ios cells bs)) ≡ take end.done fs = ap (λ z. frames_out (stopped_out stop z)) ways ∙ ends.frames ∙ ap (λ d. take d fs) (sym same.0) in
    let od : o.done ≡ end.done = ap (λ (x : Outcome). x.done) isa.outcome in
    let fit : to - unit.first + length end.frames ≤ length unit.blocks = (let x = few_written at ks stop in let y = kept-many a.tamper (map label_of bs) 0 olds js in omega arith) in
    let put : placed (to - unit.first) end.frames unit.blocks ≡ puts (to - unit.first) end.frames unit.blocks = placed-puts (to - unit.first) end.frames unit.blocks fit in
    let fc : length (frames_out (ways_out a ios cells bs)) ≡ length (passed js) = ap (λ z. length (frames_out z)) ways ∙ ap length (ends-out None at fs js fn).frames ∙ take-long (length (passed js)) fs (omega arith) in
    let lf : length (frames_out (stopped_out stop (ways_out a ios cells bs))) ≡ end.done = ap length fr ∙ take-long end.done fs (let x = ends.few in omega (arith, same.0)) in
    let c0 : ℕ = before us (first_of req).dev + (to - unit.first) in
    let za : (first_of req).lba ≡ (first_of req).lba + 0 = omega arith in
    let zc : c0 + 0 ≡ c0 = omega arith in
    let turn : InTurn c0 (cells_out a ios (shapes_of us) bs) =
    subst (λ x. InTurn x (cells_out a ios (shapes_of us) bs)) zc
    (turn-out a ios us (first_of req).dev bytes (first_of req).lba at to s t u bs 0 l k.here k.there f (subst (λ x. Run a ios (first_of req).dev bytes s t u x bs) za k.run)) in
    let within : to - unit.first + size req ≤ length unit.blocks = omega (arith, f, e) in
    let many : length olds ≡ length bs = few-taken (to - unit.first) (size req) unit.blocks within ∙ sym k.count in
    let stand : Stand c0 olds (blocks_told us) = stand-told us (first_of req).dev (to - unit.first) (size req) l within in
    record {
      fates_are = fate ∙ ap (told (size req)) isa.outcome ∙ ap (λ n. told n (record { done = end.done; sense = end.sense })) (sym jn)
          ∙ ap (λ d. told (length js) (record { done = d; sense = end.sense })) same.0 ∙ ap (λ x. told (length js) (record { done = (write_end at js stop).done; sense = x })) same.1 ∙ sym ends.fates ∙ ap (λ z. fates_out (stopped_out stop z)) (sym ways);
      units = with_blocks us (first_of req).dev (placed (to - unit.first) end.frames unit.blocks);
      told = isa.units;
      shapes = told-shapes us (first_of req).dev (placed (to - unit.first) end.frames unit.blocks) (ap length put ∙ puts-long (to - unit.first) end.frames unit.blocks);
      blocks = λ now b c.
          ap (λ z. blocks_told (with_blocks us (first_of req).dev z)) put ∙ told-puts us (first_of req).dev (to - unit.first) end.frames l fit ∙ ap (puts c0 end.frames) (sym c)
          ∙ stored-out a ios (shapes_of us) cells bs olds stop at c0 now g b turn many (subst (Stand c0 olds) (sym c) stand)
          ∙ ap (λ n. left_at stop (length (passed js)) (cells_out a ios (shapes_of us) bs) (plain act (take n (acts_out a ios (shapes_of us) bs)) now).blocks) (sym same.0)
          ∙ ap (λ n. left_at stop n (cells_out a ios (shapes_of us) bs) (plain act (take end.done (acts_out a ios (shapes_of us) bs)) now).blocks) (sym fc)
          ∙ ap (λ n. left_at stop (length (frames_out (ways_out a ios cells bs))) (cells_out a ios (shapes_of us) bs) (plain act (take n (acts_out a ios (shapes_of us) bs)) now).blocks) (sym lf);
      entry = entry_of width (first_of req).dev (form (command_for a Out (first_of req).lba (size req))) (map label_of bs) o (out_of a ios req pool) [];
      recorded = log;
      done = od ∙ sym lf;
      moved = ap (λ d. moved_under width (decoded (form (command_for a Out (first_of req).lba (size req)))) d (joined fs) []) od
          ∙ moved-out a bytes width (first_of req).lba (size req) end.done fs [] k.fits k.protect (sent-wide a ios cells (first_of req).dev bytes s t u (first_of req).lba bs k.run g) (fn ∙ jn) dn w
          ∙ ap joined (sym fr);
      labels = ap (λ n. take (min (o.done + 1) n) (map label_of bs)) (command-blocks a Out (first_of req).lba (size req) k.fits);
    }

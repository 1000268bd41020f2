-- What a carried group takes of the room for records.
use Rattle.std.proofs.Common.{◌≡◌, ◌≤◌, ℕ, zero, suc, ◌+◌, ◌-◌, ◌*◌, true, false, eqb, ltb, List, [], ◌∷◌, ◌++◌, length, map, take, replicate, refl, ap, ◌∙◌, ⊎_elim, arith}
use Rattle.std.specs.Prelude.{if◌then◌else◌, min, slice_index_or, Result, Ok, Err}
use Rattle.std.proofs.Math.Nat.{mul-le-mul_left, mul-le-mul_right}
use Rattle.std.proofs.lemmas.Bool.{cases_Bool, ltb-true}
use Rattle.std.proofs.lemmas.List.{length-append, length-map, length-replicate, length-take}
use Rattle.pi_tuple.specs.declared.checks.Check.{Check}
use Rattle.bio_core.specs.Bios.{Block}
use Rattle.bio_core.specs.declared.bio.Bio.{Bio}
use Rattle.bio_core.specs.declared.fate.Fate.{Fate}
use Rattle.bio_core.specs.declared.fate.Fate.TheVariants.{Good, Bad, Untouched}
use Rattle.bio_core.specs.declared.request.Io.{Io}
use Rattle.cdb_codec.specs.Decoded.{decoded}
use Rattle.cdb_codec.specs.Forms.{Fits, form}
use Rattle.cdb_codec.specs.declared.choice.Dir2.{Dir2}
use Rattle.cdb_codec.specs.declared.choice.Dir2.TheVariants.{In, Out}
use Rattle.cdb_codec.proofs.Inverse.{decoded_form}
use Rattle.fault_schedule.specs.declared.Label.{Label}
use Rattle.rig_api.specs.Passed.{frames_of, sent_size}
use Rattle.rig_api.specs.declared.units.UnitSpec.{UnitSpec}
use Rattle.rig_api.proofs.Passed.{frames_length}
use Rattle.rig_api.specs.Log.{Room, labels_len, moved_by, moved_under}
use Rattle.rig_api.specs.Telling.{greatest, greatest_size, no_spec, spec_at, specs_of}
use Rattle.rig_api.specs.declared.rig.Outcome.{Outcome}
use Rattle.rig_api.specs.State.{RigState, Exchanged}
use Rattle.dix_adapter.specs.declared.adapter.Adapter.{Adapter}
use Rattle.dix_adapter.specs.Carried.{Fetched, WasSent, arrives, carried, command_for, fates_in, frame_len, sends, unsent, way_of}
use Rattle.dix_adapter.specs.Groups.{blocks_in, first_of, label_of, size}
use Rattle.dix_adapter.specs.Outcomes.{done_of, rest_of}
use Rattle.block_path.specs.Senses.{why_ended}
use Rattle.dix_adapter.specs.Ways.{Spends, settled_count}
use Rattle.dix_adapter.proofs.Asking.{asked-for, count-is, fields_of}
use Rattle.dix_adapter.proofs.Blocks.{length-in}
use Rattle.dix_adapter.proofs.Commands.{command-blocks}

-- no unit's blocks are greater than the greatest
no-greater : (us : List UnitSpec) (i : ℕ) → (slice_index_or us i no_spec).size ≤ greatest us
no-greater [] i = omega arith
no-greater (u ∷ us) zero = omega arith
no-greater (u ∷ us) (suc i) = let h = no-greater us i in omega arith

-- ---- how many blocks are settled, and how many fates there are

none-settled : (n : ℕ) → settled_count (replicate n Untouched) ≡ 0
none-settled zero = refl
none-settled (suc n) = let e = none-settled n in omega arith

rest-count : (n : ℕ) (o : Outcome) → settled_count (rest_of n o) ≡ min (o.done + 1) n - done_of n o
rest-count n o =
    ⊎_elim
    (λ (t : ltb o.done n ≡ true). ap (λ b. settled_count (if b then Bad (why_ended o.sense) ∷ replicate (n - suc o.done) Untouched else [])) t ∙ (let e = none-settled (n - suc o.done) in let l = ltb-true o.done n t in omega arith))
    (λ (t : ltb o.done n ≡ false). ap (λ b. settled_count (if b then Bad (why_ended o.sense) ∷ replicate (n - suc o.done) Untouched else [])) t ∙ grind arith)
    (cases_Bool (ltb o.done n))

rest-length : (n : ℕ) (o : Outcome) → length (rest_of n o) ≡ n - done_of n o
rest-length n o =
    ⊎_elim
    (λ (t : ltb o.done n ≡ true). ap (λ b. length (if b then Bad (why_ended o.sense) ∷ replicate (n - suc o.done) Untouched else [])) t ∙ (let e = length-replicate (n - suc o.done) Untouched in let l = ltb-true o.done n t in omega arith))
    (λ (t : ltb o.done n ≡ false). ap (λ b. length (if b then Bad (why_ended o.sense) ∷ replicate (n - suc o.done) Untouched else [])) t ∙ grind arith)
    (cases_Bool (ltb o.done n))

sent-settled : (d : ℕ) (fs : List Fate) → settled_count (replicate d Good ++ fs) ≡ d + settled_count fs
sent-settled zero fs = omega arith
sent-settled (suc d) fs = let e = sent-settled d fs in omega arith

carried-settled : (r : Result (List ℕ) Check) → settled_count (carried r ∷ []) ≡ 1
carried-settled (Ok f) = refl
carried-settled (Err c) = refl

came-settled : (a : Adapter) (ios : List Io) (bs : List Block) (frames : List (List ℕ)) (fs : List Fate) → length frames ≤ length bs → settled_count (fates_in a ios bs frames ++ fs) ≡ length frames + settled_count fs
came-settled a ios [] [] fs h = omega arith
came-settled a ios [] (x ∷ xs) fs h = absurd (omega arith)
came-settled a ios (b ∷ bs) [] fs h = omega arith
came-settled a ios (b ∷ bs) (x ∷ xs) fs h =
    let e = came-settled a ios bs xs fs (omega arith) in
    let c = carried-settled (arrives a ios b x) in
    omega arith

-- ---- what one exchange takes

sent-most : (protect size : ℕ) → sent_size protect size ≤ size + 8
sent-most protect size =
    ⊎_elim
    (λ (t : eqb protect 0 ≡ true). let e = ap (λ b. if b then size else size + 8) t in omega arith)
    (λ (t : eqb protect 0 ≡ false). let e = ap (λ b. if b then size else size + 8) t in omega arith)
    (cases_Bool (eqb protect 0))

taken-most : (k size protect : ℕ) (bytes : List ℕ) → length (take (k * sent_size protect size) bytes) ≤ (size + 8) * k
taken-most k size protect bytes =
    let l = length-take (k * sent_size protect size) bytes in
    let m : k * sent_size protect size ≤ k * (size + 8) = mul-le-mul_left k (sent-most protect size) in
    let c : k * (size + 8) ≡ (size + 8) * k = grind arith in
    omega arith

moved-most : (a : Adapter) (dir : Dir2) (lba n size d : ℕ) (out into : List ℕ) → Fits (command_for a dir lba n) → length (moved_under size (decoded (form (command_for a dir lba n))) d out into) ≤ (size + 8) * min d n
moved-most a In lba n size d out into f =
    let c = fields_of a lba n in
    let e = ap (λ x. moved_under size x d out into) (decoded_form (command_for a In lba n) f)
    ∙ ap (λ x. moved_by size x d out into) (asked-for a In lba n)
    ∙ ap (λ x. take (min d x * sent_size c.protect size) into) (count-is a lba n) in
    rw e (taken-most (min d n) size c.protect into)
moved-most a Out lba n size d out into f =
    let c = fields_of a lba n in
    let e = ap (λ x. moved_under size x d out into) (decoded_form (command_for a Out lba n) f)
    ∙ ap (λ x. moved_by size x d out into) (asked-for a Out lba n)
    ∙ ap (λ x. take (min d x * sent_size c.protect size) out) (count-is a lba n) in
    rw e (taken-most (min d n) size c.protect out)

labels-most : (a : Adapter) (dir : Dir2) (lba n : ℕ) (o : Outcome) (labels : List Label) → Fits (command_for a dir lba n) → labels_len (form (command_for a dir lba n)) o labels ≤ min (o.done + 1) n
labels-most a dir lba n o labels f =
    let e = ap (λ x. length (take (min (o.done + 1) x) labels)) (command-blocks a dir lba n f) in
    let l = length-take (min (o.done + 1) n) labels in
    omega arith

spends : (a : Adapter) (dir : Dir2) (lba n dev : ℕ) (old new : RigState) (labels : List Label) (out before came : List ℕ) (o : Outcome) (fates : List Fate) →
    Fits (command_for a dir lba n) → Exchanged old new dev (form (command_for a dir lba n)) labels out before came o → settled_count fates ≡ min (o.done + 1) n → Spends (greatest_size old.standing) fates old.room new.room
spends a dir lba n dev old new labels out before came o fates f x s e b h =
    let size = (spec_at old.standing dev).size in
    let g = greatest_size old.standing in
    let c = min (o.done + 1) n in
    let small : size ≤ g = no-greater (specs_of old.standing) dev in
    let moved = moved-most a dir lba n size o.done out came f in
    let fewer : (size + 8) * min o.done n ≤ (size + 8) * c = mul-le-mul_left (size + 8) (let y : min o.done n ≤ c = omega arith in y) in
    let wider : (size + 8) * c ≤ (g + 8) * c = mul-le-mul_right c (let y : size + 8 ≤ g + 8 = omega arith in y) in
    let split : (g + 8) * (b + settled_count fates) ≡ (g + 8) * b + (g + 8) * c = rw s (grind arith) in
    let named = labels-most a dir lba n o labels f in
    let r = x.records in
    let m = x.moved in
    let l = x.labelled in
    let hr = h.records in
    let hm = h.moved in
    let hl = h.labels in
    record { records = omega arith; labels = omega arith; moved = omega arith }

-- ---- of a group

-- nothing sent, nothing taken
pub spends-none : (size : ℕ) (fates : List Fate) (room : Room) → Spends size fates room room
spends-none size fates room e b h =
    let x : (size + 8) * b ≤ (size + 8) * (b + settled_count fates) = mul-le-mul_left (size + 8) (let y : b ≤ b + settled_count fates = omega arith in y) in
    let hr = h.records in
    let hm = h.moved in
    let hl = h.labels in
    record { records = omega arith; labels = omega arith; moved = omega arith }

pub spends-out : (a : Adapter) (pool pool' : List (List ℕ)) (ios : List Io) (req : List Bio) (fates : List Fate) (old new : RigState) → WasSent a ios req pool pool' fates old new → Spends (greatest_size old.standing) fates old.room new.room
spends-out a pool pool' ios req fates old new got =
    let n = size req in
    let s = ap settled_count got.fates_are ∙ sent-settled (done_of n got.outcome) (rest_of n got.outcome) in
    let r = rest-count n got.outcome in
    spends a (way_of (first_of req).dir) (first_of req).lba n (first_of req).dev old new (map label_of (blocks_in req)) _ [] [] got.outcome fates got.fits got.exchanged (omega (arith, s, r))

pub spends-in : (a : Adapter) (pool pool' : List (List ℕ)) (ios : List Io) (req : List Bio) (fates : List Fate) (old new : RigState) → Fetched a ios req pool pool' fates old new → Spends (greatest_size old.standing) fates old.room new.room
spends-in a pool pool' ios req fates old new got =
    let n = size req in
    let frames = frames_of (frame_len a ios req) (done_of n got.outcome) got.came in
    let k = frames_length (frame_len a ios req) (done_of n got.outcome) got.came in
    let l = length-in req in
    let s = ap settled_count got.fates_are ∙ came-settled a ios (blocks_in req) frames (rest_of n got.outcome) (omega arith) in
    let r = rest-count n got.outcome in
    spends a (way_of (first_of req).dir) (first_of req).lba n (first_of req).dev old new (map label_of (blocks_in req)) [] got.before got.came got.outcome fates got.fits got.exchanged (omega (arith, s, r, k))

-- each block has a fate
pub each-out : (a : Adapter) (pool pool' : List (List ℕ)) (ios : List Io) (req : List Bio) (fates : List Fate) (old new : RigState) → WasSent a ios req pool pool' fates old new → length fates ≡ size req
each-out a pool pool' ios req fates old new got =
    let n = size req in
    let r = rest-length n got.outcome in
    let e = ap length got.fates_are ∙ length-append (replicate (done_of n got.outcome) Good) (rest_of n got.outcome) in
    let l = length-replicate (done_of n got.outcome) Good in
    omega arith

came-length : (a : Adapter) (ios : List Io) (bs : List Block) (frames : List (List ℕ)) → length frames ≤ length bs → length (fates_in a ios bs frames) ≡ length frames
came-length a ios [] [] h = refl
came-length a ios [] (x ∷ xs) h = absurd (omega arith)
came-length a ios (b ∷ bs) [] h = refl
came-length a ios (b ∷ bs) (x ∷ xs) h = ap suc (came-length a ios bs xs (omega arith))

pub each-in : (a : Adapter) (pool pool' : List (List ℕ)) (ios : List Io) (req : List Bio) (fates : List Fate) (old new : RigState) → Fetched a ios req pool pool' fates old new → length fates ≡ size req
each-in a pool pool' ios req fates old new got =
    let n = size req in
    let frames = frames_of (frame_len a ios req) (done_of n got.outcome) got.came in
    let k = frames_length (frame_len a ios req) (done_of n got.outcome) got.came in
    let l = length-in req in
    let r = rest-length n got.outcome in
    let e = ap length got.fates_are ∙ length-append (fates_in a ios (blocks_in req) frames) (rest_of n got.outcome) in
    let c = came-length a ios (blocks_in req) frames (omega arith) in
    omega arith

pub each-unsent : (a : Adapter) (ios : List Io) (req : List Bio) (cells : List ℕ) (fates : List Fate) → fates ≡ map unsent (map (sends a ios cells) (blocks_in req)) → length fates ≡ size req
each-unsent a ios req cells fates e = ap length e ∙ length-map (map (sends a ios cells) (blocks_in req)) unsent ∙ length-map (blocks_in req) (sends a ios cells) ∙ length-in req

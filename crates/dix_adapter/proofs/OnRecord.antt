-- What stands on record of a carried group.
use Rattle.std.proofs.Common.{◌≡◌, ◌<◌, ◌≤◌, ℕ, zero, suc, ◌+◌, ◌-◌, ◌*◌, true, false, ltb, List, [], ◌∷◌, ◌++◌, length, map, take, drop, replicate, refl, ap, sym, ◌∙◌, arith}
use Rattle.std.specs.Prelude.{if◌then◌else◌, min, Result, Ok, Err}
use Rattle.std.proofs.lemmas.List.{append-nil, drop-take, take-take}
use Rattle.std.proofs.Math.Nat.{min-le_right, mul-le-mul_right}
use Rattle.page_pool.specs.Cells.{flat}
use Rattle.pi_tuple.specs.declared.checks.Check.{Check}
use Rattle.bio_core.specs.Bios.{Block, block_size}
use Rattle.bio_core.specs.declared.bio.Bio.{Bio}
use Rattle.bio_core.specs.declared.fate.Fate.{Fate}
use Rattle.bio_core.specs.declared.fate.Fate.TheVariants.{Good, Bad, Untouched}
use Rattle.bio_core.specs.declared.request.Dir.TheVariants.{Read, Write}
use Rattle.bio_core.specs.declared.request.Io.{Io}
use Rattle.cdb_codec.specs.Decoded.{decoded}
use Rattle.cdb_codec.specs.Forms.{Fits, form}
use Rattle.cdb_codec.specs.declared.choice.Dir2.TheVariants.{In, Out}
use Rattle.cdb_codec.proofs.Inverse.{decoded_form}
use Rattle.rig_api.specs.Passed.{frames_of, joined, sent_size, blocks_of}
use Rattle.rig_api.proofs.Passed.{frames_length}
use Rattle.rig_api.specs.Log.{entry_of, moved_by, moved_under}
use Rattle.rig_api.specs.Telling.{spec_at}
use Rattle.rig_api.specs.declared.rig.Outcome.{Outcome}
use Rattle.rig_api.specs.State.{RigState}
use Rattle.dix_adapter.specs.declared.adapter.Adapter.{Adapter}
use Rattle.dix_adapter.specs.Carried.{Fetched, WasSent, any_bad, arrives, carried, command_for, command_of, fates_in, frame_len, landed, out_of, sends, unsent, way_of}
use Rattle.dix_adapter.specs.Groups.{IsCarriedGroup, IsProtect, blocks_in, first_of, label_of, request_of, size}
use Rattle.dix_adapter.specs.Outcomes.{done_of, rest_of}
use Rattle.block_path.specs.Senses.{why_ended}
use Rattle.dix_adapter.specs.Ways.{RecordedIn, RecordedOut, any_settled}
use Rattle.dix_adapter.proofs.Asking.{asked-for, count-is, field_for, fields_of, protect-is}
use Rattle.dix_adapter.proofs.Blocks.{length-in}
use Rattle.dix_adapter.proofs.Commands.{command-blocks}
use Rattle.dix_adapter.proofs.Landing.{group-width, taken-long}
use Rattle.dix_adapter.proofs.GoingOut.{all_sent, sent-long}
use Rattle.dix_adapter.proofs.Runs.{AllLong, front-joined, group-wide, width-sent, width_for}
use Rattle.dix_adapter.proofs.Told.{group-bytes}
use Rattle.dix_adapter.proofs.WentOut.{some-blocks}

-- only the front counts
pub frames-front : (w n : ℕ) (X : List ℕ) → frames_of w n (take (n * w) X) ≡ frames_of w n X
frames-front w zero X = refl
frames-front w (suc n) X =
    let z : suc n * w ≡ w + n * w = omega arith in
    ap (λ k. frames_of w (suc n) (take k X)) z
    ∙ ap (λ f. f ∷ frames_of w n (drop w (take (w + n * w) X))) (take-take w (w + n * w) X (omega arith))
    ∙ ap (λ x. take w X ∷ frames_of w n x) (drop-take w (n * w) X)
    ∙ ap (λ fs. take w X ∷ fs) (frames-front w n (drop w X))

moved-front : (a : Adapter) (bytes width address n d : ℕ) (came : List ℕ) → Fits (command_for a In address n) → IsProtect a.protect → width ≡ bytes →
    moved_under width (decoded (form (command_for a In address n))) d [] came ≡ take (min d n * width_for a bytes) came
moved-front a bytes width address n d came f p e =
    let c = fields_of a address n in
    ap (λ x. moved_under width x d [] came) (decoded_form (command_for a In address n) f)
    ∙ ap (λ x. moved_by width x d [] came) (asked-for a In address n)
    ∙ ap (λ x. take (min d x * sent_size c.protect width) came) (count-is a address n)
    ∙ ap (λ x. take (min d n * sent_size x width) came) (protect-is a address n)
    ∙ ap (λ x. take (min d n * sent_size (field_for a) x) came) e
    ∙ ap (λ x. take (min d n * x) came) (width-sent a bytes p)

pub recorded-in : (a : Adapter) (pool pool' : List (List ℕ)) (bytes : ℕ) (ios : List Io) (req : List Bio) (fates : List Fate) (old new : RigState) → IsProtect a.protect → IsCarriedGroup a pool bytes ios req → (first_of req).dir ≡ Read →
    (spec_at old.standing (first_of req).dev).size ≡ block_size (request_of ios (first_of req).op) → Fetched a ios req pool pool' fates old new → RecordedIn a ios req pool pool' fates old new
recorded-in a pool pool' bytes ios req fates old new p g w e got =
    let n = size req in
    let d : command_of a req ≡ command_for a In (first_of req).lba n = ap (λ y. command_for a (way_of y) (first_of req).lba n) w in
    let gw = group-width a pool bytes ios req g in
    let z = group-bytes a pool bytes ios req g in
    let x : Fits (command_for a In (first_of req).lba n) = rw d at got.fits in
    let m : moved_under (spec_at old.standing (first_of req).dev).size (decoded (form (command_of a req))) got.outcome.done [] got.came ≡ take (done_of n got.outcome * frame_len a ios req) got.came =
    ap (λ y. moved_under (spec_at old.standing (first_of req).dev).size (decoded (form y)) got.outcome.done [] got.came) d
    ∙ moved-front a bytes (spec_at old.standing (first_of req).dev).size (first_of req).lba n got.outcome.done got.came x p (e ∙ z)
    ∙ ap (λ k. take (done_of n got.outcome * k) got.came) (sym gw) in
    let f : frames_of (frame_len a ios req) (done_of n got.outcome) got.came ≡ frames_of (frame_len a ios req) (done_of n got.outcome) (moved_under (spec_at old.standing (first_of req).dev).size (decoded (form (command_of a req))) got.outcome.done [] got.came) =
    sym (frames-front (frame_len a ios req) (done_of n got.outcome) got.came) ∙ ap (frames_of (frame_len a ios req) (done_of n got.outcome)) (sym m) in
    let q : done_of n got.outcome * frame_len a ios req ≤ n * frame_len a ios req = mul-le-mul_right (frame_len a ios req) (min-le_right got.outcome.done n) in
    record {
      entry = entry_of (spec_at old.standing (first_of req).dev).size (first_of req).dev (form (command_of a req)) (map label_of (blocks_in req)) got.outcome [] got.came;
      what = record {
        recorded = got.exchanged.recorded;
        dev = refl;
        cdb = refl;
        fits = got.fits;
        labels = ap (λ k. take (min (got.outcome.done + 1) k) (map label_of (blocks_in req))) (ap (λ y. blocks_of (form y)) d ∙ command-blocks a In (first_of req).lba n x);
      };
      long = ap length m ∙ taken-long (done_of n got.outcome * frame_len a ios req) got.came (omega (arith, q, got.long));
      fates_are = got.fates_are ∙ ap (λ fs. fates_in a ios (blocks_in req) fs ++ rest_of n got.outcome) f;
      cells = got.cells ∙ ap (λ fs. landed a ios (blocks_in req) fs (flat pool)) f;
    }

moved-of : (a : Adapter) (bytes width address n d : ℕ) (fs : List (List ℕ)) (came : List ℕ) → Fits (command_for a Out address n) → IsProtect a.protect → AllLong (width_for a bytes) fs → length fs ≡ n → width ≡ bytes →
    moved_under width (decoded (form (command_for a Out address n))) d (joined fs) came ≡ joined (take (min d n) fs)
moved-of a bytes width address n d fs came f p w m e =
    let c = fields_of a address n in
    ap (λ x. moved_under width x d (joined fs) came) (decoded_form (command_for a Out address n) f)
    ∙ ap (λ x. moved_by width x d (joined fs) came) (asked-for a Out address n)
    ∙ ap (λ x. take (min d x * sent_size c.protect width) (joined fs)) (count-is a address n)
    ∙ ap (λ x. take (min d n * sent_size x width) (joined fs)) (protect-is a address n)
    ∙ ap (λ x. take (min d n * sent_size (field_for a) x) (joined fs)) e
    ∙ ap (λ x. take (min d n * x) (joined fs)) (width-sent a bytes p)
    ∙ ap (take (min d n * width_for a bytes)) (sym (append-nil (joined fs)))
    ∙ front-joined (width_for a bytes) (min d n) fs [] w (omega arith)

pub recorded-out : (a : Adapter) (pool pool' : List (List ℕ)) (bytes : ℕ) (ios : List Io) (req : List Bio) (fates : List Fate) (old new : RigState) → IsProtect a.protect → IsCarriedGroup a pool bytes ios req → (first_of req).dir ≡ Write →
    any_bad (map (sends a ios (flat pool)) (blocks_in req)) ≡ false → (spec_at old.standing (first_of req).dev).size ≡ block_size (request_of ios (first_of req).op) → WasSent a ios req pool pool' fates old new → RecordedOut a ios req (flat pool) fates old new
recorded-out a pool pool' bytes ios req fates old new p g w b e got =
    let n = size req in
    let d : command_of a req ≡ command_for a Out (first_of req).lba n = ap (λ y. command_for a (way_of y) (first_of req).lba n) w in
    let z = group-bytes a pool bytes ios req g in
    let x : Fits (command_for a Out (first_of req).lba n) = rw d at got.fits in
    record {
      entry = entry_of (spec_at old.standing (first_of req).dev).size (first_of req).dev (form (command_of a req)) (map label_of (blocks_in req)) got.outcome (out_of a ios req pool) [];
      what = record {
        recorded = got.exchanged.recorded;
        dev = refl;
        cdb = refl;
        fits = got.fits;
        labels = ap (λ k. take (min (got.outcome.done + 1) k) (map label_of (blocks_in req))) (ap (λ y. blocks_of (form y)) d ∙ command-blocks a Out (first_of req).lba n x);
      };
      moved = ap (λ y. moved_under (spec_at old.standing (first_of req).dev).size (decoded (form y)) got.outcome.done (out_of a ios req pool) []) d
          ∙ moved-of a bytes (spec_at old.standing (first_of req).dev).size (first_of req).lba n got.outcome.done (all_sent a ios (flat pool) (blocks_in req)) [] x p
          (group-wide a pool bytes ios req g b) (sent-long a ios (flat pool) (blocks_in req) ∙ length-in req) (e ∙ z);
      fates_are = got.fates_are;
    }

-- ---- a block is settled

settled-unsent : (rs : List (Result (List ℕ) Check)) → any_bad rs ≡ true → any_settled (map unsent rs) ≡ true
settled-unsent [] e = absurd (let x : false ≡ true = e in cc)
settled-unsent (Ok f ∷ rs) e = settled-unsent rs e
settled-unsent (Err c ∷ rs) e = refl

settled-rest : (n : ℕ) (o : Outcome) → o.done < n → any_settled (rest_of n o) ≡ true
settled-rest n o h = let t : ltb o.done n ≡ true = grind arith in ap (λ b. any_settled (if b then Bad (why_ended o.sense) ∷ replicate (n - suc o.done) Untouched else [])) t

pub settled-sent : (n : ℕ) (o : Outcome) → 1 ≤ n → any_settled (replicate (done_of n o) Good ++ rest_of n o) ≡ true
settled-sent n o h = by (done_of n o) refl
  where
    by : (d : ℕ) → done_of n o ≡ d → any_settled (replicate d Good ++ rest_of n o) ≡ true
    by zero e = settled-rest n o (omega (arith, e, h))
    by (suc d) e = refl

pub settled-came : (a : Adapter) (ios : List Io) (bs : List Block) (fs : List (List ℕ)) (n : ℕ) (o : Outcome) → 1 ≤ n → length bs ≡ n → length fs ≡ done_of n o → any_settled (fates_in a ios bs fs ++ rest_of n o) ≡ true
settled-came a ios [] fs n o h l m = absurd (omega arith)
settled-came a ios (b ∷ bs) [] n o h l m = settled-rest n o (omega (arith, m, h))
settled-came a ios (b ∷ bs) (f ∷ fs) n o h l m = by (arrives a ios b f)
  where
    by : (r : Result (List ℕ) Check) → any_settled (carried r ∷ (fates_in a ios bs fs ++ rest_of n o)) ≡ true
    by (Ok x) = refl
    by (Err c) = refl

pub settles-out : (a : Adapter) (pool pool' : List (List ℕ)) (bytes : ℕ) (ios : List Io) (req : List Bio) (fates : List Fate) (old new : RigState) → IsCarriedGroup a pool bytes ios req → WasSent a ios req pool pool' fates old new → any_settled fates ≡ true
settles-out a pool pool' bytes ios req fates old new g got = ap any_settled got.fates_are ∙ settled-sent (size req) got.outcome (some-blocks a pool bytes ios req g)

pub settles-unsent : (a : Adapter) (ios : List Io) (req : List Bio) (cells : List ℕ) (fates : List Fate) → any_bad (map (sends a ios cells) (blocks_in req)) ≡ true → fates ≡ map unsent (map (sends a ios cells) (blocks_in req)) → any_settled fates ≡ true
settles-unsent a ios req cells fates b e = ap any_settled e ∙ settled-unsent (map (sends a ios cells) (blocks_in req)) b

pub settles-in : (a : Adapter) (pool pool' : List (List ℕ)) (bytes : ℕ) (ios : List Io) (req : List Bio) (fates : List Fate) (old new : RigState) → IsCarriedGroup a pool bytes ios req → Fetched a ios req pool pool' fates old new → any_settled fates ≡ true
settles-in a pool pool' bytes ios req fates old new g got =
    ap any_settled got.fates_are
    ∙ settled-came a ios (blocks_in req) (frames_of (frame_len a ios req) (done_of (size req) got.outcome) got.came) (size req) got.outcome (some-blocks a pool bytes ios req g) (length-in req)
    (frames_length (frame_len a ios req) (done_of (size req) got.outcome) got.came)

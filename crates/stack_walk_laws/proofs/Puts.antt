-- From a group's command to the entries and ends of its blocks.
use Rattle.std.proofs.Common.{◌≡◌, ◌<◌, ◌≤◌, ◌+◌, ℕ, zero, suc, Bool, true, false, if◌then◌else◌, List, [], ◌∷◌, ◌++◌, length, map, take, Option, refl, sym, ap, subst, ◌∙◌, arith, length-append, append-nil}
use Rattle.std.specs.Prelude.{min, ltb, Result, Ok, Err}
use Rattle.std.specs.List.{All}
use Rattle.std.proofs.lemmas.List.{length-map, length-take}
use Rattle.page_pool.specs.Cells.{flat}
use Rattle.sense_codes.specs.declared.Sense.{Sense}
use Rattle.bio_core.specs.Bios.{Block, blocks_from, blocks_of}
use Rattle.bio_core.specs.declared.bio.Bio.{Bio}
use Rattle.bio_core.specs.declared.fate.Fate.{Fate}
use Rattle.bio_core.specs.declared.fate.Why.{Why}
use Rattle.bio_core.specs.declared.request.Dir.{Dir}
use Rattle.bio_core.specs.declared.request.Dir.TheVariants.{Read, Write}
use Rattle.bio_core.specs.declared.request.Io.{Io}
use Rattle.cdb_codec.specs.Decoded.{decoded}
use Rattle.cdb_codec.specs.Forms.{Fits, form}
use Rattle.cdb_codec.specs.declared.choice.Dir2.TheVariants.{In, Out}
use Rattle.cdb_codec.specs.declared.command.Rw.{Rw}
use Rattle.cdb_codec.proofs.Inverse.{decoded_form}
use Rattle.block_path.specs.Passed.{frames_of, joined, sent_size}
use Rattle.block_path.proofs.Passed.{frames_length}
use Rattle.dix_adapter.specs.Passed.{LogEntry, RigState}
use Rattle.block_path.specs.Blocks.{Sent, Site}
use Rattle.block_path.specs.Senses.{why_ended}
use Rattle.run_laws.specs.Passed.{Setting}
use Rattle.run_laws.specs.Records.{came_of, put_blocks, put_decoded, put_entries, put_request, put_rw, recorded, stamped}
use Rattle.dix_adapter.specs.declared.adapter.Adapter.{Adapter}
use Rattle.dix_adapter.specs.Carried.{any_bad, command_for, command_of, frame_len, frame_sent, sends, way_of}
use Rattle.dix_adapter.specs.Groups.{Chain, IsBio, IsCarriedGroup, IsProtect, blocks_in, first_of, label_of, size}
use Rattle.dix_adapter.specs.Outcomes.{done_of}
use Rattle.dix_adapter.specs.Ways.{IsRecord, RecordedIn, RecordedOut}
use Rattle.dix_adapter.proofs.Asking.{asked-for, count-is, fields_of, lba-is, protect-is}
use Rattle.dix_adapter.proofs.Blocks.{length-blocks, length-in}
use Rattle.dix_adapter.proofs.Landing.{group-width}
use Rattle.dix_adapter.proofs.Runs.{AllLong, cut-joined, group-wide, width-sent, width_for}
use Rattle.dix_adapter.proofs.GoingIn.{part-long}
use Rattle.stack_walk_laws.specs.OnRecord.{GoesOnRecord, put_each}

one_more : (m : Setting) (log : List LogEntry) (e : LogEntry) (es : List Sent) → put_entries m (log ++ (e ∷ [])) es ≡ put_decoded m (decoded e.what.cdb) e (put_entries m log es)
one_more m [] e es = refl
one_more m (x ∷ log) e es = one_more m log e (put_decoded m (decoded x.what.cdb) x es)

-- blocks of one direction and device, at addresses in turn
abbrev pub InTurn : Dir → (dev lba : ℕ) → List Block → Type 0
InTurn dir dev lba [] = Unit {0}
InTurn dir dev lba (b ∷ bs) = ((b.dir ≡ dir) × ((b.dev ≡ dev) × (b.lba ≡ lba))) × InTurn dir dev (suc lba) bs

turn_both : (dir : Dir) (dev lba : ℕ) (xs ys : List Block) → InTurn dir dev lba xs → InTurn dir dev (lba + length xs) ys → InTurn dir dev lba (xs ++ ys)
turn_both dir dev lba [] ys h k = let e : lba + 0 ≡ lba = omega arith in subst (λ n. InTurn dir dev n ys) e k
turn_both dir dev lba (x ∷ xs) ys h k =
    let e : lba + suc (length xs) ≡ suc lba + length xs = omega arith in (h.0, turn_both dir dev (suc lba) xs ys h.1 (subst (λ n. InTurn dir dev n ys) e k))

bio_turn : (op k dev lba : ℕ) (dir : Dir) (n : ℕ) → InTurn dir dev lba (blocks_from op k dev lba dir n)
bio_turn op k dev lba dir zero = tt
bio_turn op k dev lba dir (suc n) = ((refl, (refl, refl)), bio_turn op (suc k) dev (suc lba) dir n)

pub bios_turn : (a : Adapter) (pool : List (List ℕ)) (bytes : ℕ) (ios : List Io) (dev : ℕ) (dir : Dir) (at : ℕ) (req : List Bio) → All (IsBio a pool bytes ios dev dir) req → Chain at req → InTurn dir dev at (blocks_in req)
bios_turn a pool bytes ios dev dir at [] h c = tt
bios_turn a pool bytes ios dev dir at (b ∷ bs) h c =
    let x : IsBio a pool bytes ios dev dir b = h 0 b (omega arith) in
    let mine = bio_turn b.op b.k b.dev b.lba b.dir b.count in
    let here : InTurn dir dev at (blocks_of b) =
    subst (λ d. InTurn d dev at (blocks_of b)) x.way (subst (λ d. InTurn b.dir d at (blocks_of b)) x.on (subst (λ n. InTurn b.dir b.dev n (blocks_of b)) c.0 mine)) in
    let long : at + b.count ≡ at + length (blocks_of b) = ap (λ n. at + n) (sym (length-blocks b.op b.k b.dev b.lba b.dir b.count)) in
    turn_both dir dev at (blocks_of b) (blocks_in bs) here
    (subst (λ n. InTurn dir dev n (blocks_in bs)) long (bios_turn a pool bytes ios dev dir (at + b.count) bs (λ i d l. h (suc i) d (omega (arith, l))) c.1))

put_is : (s : Site) (dir : Dir) (dev lba : ℕ) (bs : List Block) (k : ℕ) (cames : List (Result (List ℕ) Why)) (es : List Sent) → InTurn dir dev lba bs → length cames ≤ k → length cames ≤ length bs →
    put_blocks s dir dev lba (take k (map label_of bs)) cames es ≡ put_each s bs cames es
put_is s dir dev lba [] k [] es h l g = refl
put_is s dir dev lba [] k (came ∷ cames) es h l g = absurd (omega (arith, g))
put_is s dir dev lba (b ∷ bs) k [] es h l g = refl
put_is s dir dev lba (b ∷ bs) zero (came ∷ cames) es h l g = absurd (omega (arith, l))
put_is s dir dev lba (b ∷ bs) (suc k) (came ∷ cames) es h l g =
    put_is s dir dev (suc lba) bs k cames (es ++ (stamped s es (label_of b) dir dev lba came ∷ [])) h.1 (omega (arith, l)) (omega (arith, g))
    ∙ ap (λ d. put_each s bs cames (es ++ (stamped s es (label_of b) d dev lba came ∷ []))) (sym h.0.0)
    ∙ ap (λ d. put_each s bs cames (es ++ (stamped s es (label_of b) b.dir d lba came ∷ []))) (sym h.0.1.0)
    ∙ ap (λ n. put_each s bs cames (es ++ (stamped s es (label_of b) b.dir b.dev n came ∷ []))) (sym h.0.1.1)

abbrev arrived : List ℕ → Result (List ℕ) Why
arrived frame = Ok frame

-- as many as are done, and one more where the command ended
came_length : (n done : ℕ) (sense : Option Sense) (frames : List (List ℕ)) → length frames ≡ min done n → (length (came_of n done sense frames) ≤ min (done + 1) n) × (length (came_of n done sense frames) ≤ n)
came_length n done sense frames e = by (ltb done n) refl where
  by : (c : Bool) → ltb done n ≡ c →
      let cames = map arrived frames ++ (if c then Err (why_ended sense) ∷ [] else []) in (length cames ≤ min (done + 1) n) × (length cames ≤ n)
  by true q =
      let l : done < n = grind (arith, q) in
      let a = length-append (map arrived frames) (Err (why_ended sense) ∷ []) in
      let b = length-map frames arrived in
      (omega (arith, a, b, e, l), omega (arith, a, b, e, l))
  by false q =
      let l : n ≤ done = grind (arith, q) in
      let a = length-append (map arrived frames) [] in
      let b = length-map frames arrived in
      (omega (arith, a, b, e, l), omega (arith, a, b, e, l))

-- a command of these blocks
rw_is : (m : Setting) (dir : Dir) (c : Rw) (e : LogEntry) (bs : List Block) (dev lba n : ℕ) (frames : List (List ℕ)) (es : List Sent) → let done = e.what.outcome.done in
    e.what.dev ≡ dev → c.lba ≡ lba → c.n ≡ n → e.labels ≡ take (min (done + 1) n) (map label_of bs) → frames_of (sent_size c.protect m.size) (min done n) e.moved ≡ frames →
    InTurn dir dev lba bs → length bs ≡ n → length frames ≡ min done n → put_rw m dir c e es ≡ put_each m.site bs (came_of n done e.what.outcome.sense frames) es
rw_is m dir c e bs dev lba n frames es d a k labels cut turn long count =
    let done = e.what.outcome.done in
    let sense = e.what.outcome.sense in
    let sizes = came_length n done sense frames count in
    let enough : length (came_of n done sense frames) ≤ length bs = (let x = sizes.1 in omega (arith, x, long)) in
    ap (λ i. put_blocks m.site dir i c.lba e.labels (came_of c.n done sense (frames_of (sent_size c.protect m.size) (min done c.n) e.moved)) es) d
    ∙ ap (λ i. put_blocks m.site dir dev i e.labels (came_of c.n done sense (frames_of (sent_size c.protect m.size) (min done c.n) e.moved)) es) a
    ∙ ap (λ i. put_blocks m.site dir dev lba e.labels (came_of i done sense (frames_of (sent_size c.protect m.size) (min done i) e.moved)) es) k
    ∙ ap (λ i. put_blocks m.site dir dev lba i (came_of n done sense (frames_of (sent_size c.protect m.size) (min done n) e.moved)) es) labels
    ∙ ap (λ i. put_blocks m.site dir dev lba (take (min (done + 1) n) (map label_of bs)) (came_of n done sense i) es) cut
    ∙ put_is m.site dir dev lba bs (min (done + 1) n) (came_of n done sense frames) es turn sizes.0 enough

module _ (m : Setting) (a : Adapter) (ios : List Io) (req : List Bio) (pool : List (List ℕ)) (protect : IsProtect a.protect) (g : IsCarriedGroup a pool m.size ios req) where
  abbrev first : Bio
  first = first_of req

  abbrev n : ℕ
  n = size req

  abbrev c : Rw
  c = fields_of a first.lba n

  wire : sent_size c.protect m.size ≡ width_for a m.size
  wire = ap (λ p. sent_size p m.size) (protect-is a first.lba n) ∙ width-sent a m.size protect

  pub turn : InTurn first.dir first.dev first.lba (blocks_in req)
  turn = bios_turn a pool m.size ios first.dev first.dir first.lba req g.bios g.chain

  -- the record of a read, and of a write
  in_decoded : (old new : RigState) (e : LogEntry) → IsRecord a req old new e → first.dir ≡ Read → recorded m new.log ≡ put_rw m Read c e (recorded m old.log)
  in_decoded old new e r w =
      let cmd = command_for a In first.lba n in
      let d : command_of a req ≡ cmd = ap (λ y. command_for a (way_of y) first.lba n) w in
      ap (recorded m) r.recorded ∙ one_more m old.log e []
      ∙ ap (λ x. put_decoded m (decoded x) e (recorded m old.log)) (r.cdb ∙ ap form d)
      ∙ ap (λ x. put_decoded m x e (recorded m old.log)) (decoded_form cmd (subst Fits d r.fits))
      ∙ ap (λ x. put_request m x e (recorded m old.log)) (asked-for a In first.lba n)

  out_decoded : (old new : RigState) (e : LogEntry) → IsRecord a req old new e → first.dir ≡ Write → recorded m new.log ≡ put_rw m Write c e (recorded m old.log)
  out_decoded old new e r w =
      let cmd = command_for a Out first.lba n in
      let d : command_of a req ≡ cmd = ap (λ y. command_for a (way_of y) first.lba n) w in
      ap (recorded m) r.recorded ∙ one_more m old.log e []
      ∙ ap (λ x. put_decoded m (decoded x) e (recorded m old.log)) (r.cdb ∙ ap form d)
      ∙ ap (λ x. put_decoded m x e (recorded m old.log)) (decoded_form cmd (subst Fits d r.fits))
      ∙ ap (λ x. put_request m x e (recorded m old.log)) (asked-for a Out first.lba n)

  pub goes_in : (pool' : List (List ℕ)) (fates : List Fate) (old new : RigState) → first.dir ≡ Read → (r : RecordedIn a ios req pool pool' fates old new) →
      GoesOnRecord m req r.entry.what.outcome (frames_of (frame_len a ios req) (done_of n r.entry.what.outcome) r.entry.moved) old.log new.log
  goes_in pool' fates old new w r =
      let done = min r.entry.what.outcome.done n in
      let width : sent_size c.protect m.size ≡ frame_len a ios req = wire ∙ sym (group-width a pool m.size ios req g) in
      in_decoded old new r.entry r.what w
      ∙ rw_is m Read c r.entry (blocks_in req) first.dev first.lba n (frames_of (frame_len a ios req) done r.entry.moved) (recorded m old.log) r.what.dev (lba-is a first.lba n) (count-is a first.lba n) r.what.labels
      (ap (λ k. frames_of k done r.entry.moved) width) (subst (λ d. InTurn d first.dev first.lba (blocks_in req)) w turn) (length-in req) (frames_length (frame_len a ios req) done r.entry.moved)

  pub goes_out : (fates : List Fate) (old new : RigState) → first.dir ≡ Write → any_bad (map (sends a ios (flat pool)) (blocks_in req)) ≡ false → (r : RecordedOut a ios req (flat pool) fates old new) →
      GoesOnRecord m req r.entry.what.outcome (take (done_of n r.entry.what.outcome) (map frame_sent (map (sends a ios (flat pool)) (blocks_in req)))) old.log new.log
  goes_out fates old new w good r =
      let done = min r.entry.what.outcome.done n in
      let all = map frame_sent (map (sends a ios (flat pool)) (blocks_in req)) in
      let frames = take done all in
      let many : length all ≡ n = length-map (map (sends a ios (flat pool)) (blocks_in req)) frame_sent ∙ length-map (blocks_in req) (sends a ios (flat pool)) ∙ length-in req in
      let taken = length-take done all in
      let count : length frames ≡ done = omega (arith, taken, many) in
      let wide : AllLong (width_for a m.size) all = group-wide a pool m.size ios req g good in
      let cut : frames_of (sent_size c.protect m.size) done r.entry.moved ≡ frames =
      ap (λ k. frames_of k done r.entry.moved) wire
      ∙ ap (frames_of (width_for a m.size) done) (r.moved ∙ sym (append-nil (joined frames)))
      ∙ ap (λ k. frames_of (width_for a m.size) k (joined frames ++ [])) (sym count)
      ∙ cut-joined (width_for a m.size) frames [] (part-long (width_for a m.size) done all wide) in
      out_decoded old new r.entry r.what w
      ∙ rw_is m Write c r.entry (blocks_in req) first.dev first.lba n frames (recorded m old.log) r.what.dev (lba-is a first.lba n) (count-is a first.lba n) r.what.labels cut
      (subst (λ d. InTurn d first.dev first.lba (blocks_in req)) w turn) (length-in req) count

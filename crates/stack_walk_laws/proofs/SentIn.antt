-- A command of a read over a rig that tells its blocks, whose store call may fail.
use Rattle.std.proofs.Common.{◌≡◌, ◌≤◌, ◌+◌, ℕ, suc, List, [], ◌∷◌, ◌++◌, length, Option, refl, sym, ap, subst, ◌∙◌, arith, append-nil}
use Rattle.std.specs.Prelude.{IfSome, ltb}
use Rattle.page_pool.specs.Cells.{flat}
use Rattle.block_path.specs.Passed.{frames_of, joined, stored_size, Stop, Stored}
use Rattle.block_path.proofs.Passed.{frames_length}
use Rattle.dix_adapter.specs.Passed.{LogEntry, RigState}
use Rattle.bio_core.specs.Bios.{Block}
use Rattle.bio_core.specs.declared.bio.Bio.{Bio}
use Rattle.bio_core.specs.declared.fate.Fate.{Fate}
use Rattle.bio_core.specs.declared.request.Dir.TheVariants.{Read}
use Rattle.bio_core.specs.declared.request.Io.{Io}
use Rattle.block_path.specs.Acts.{State}
use Rattle.block_path.specs.Blocks.{Site}
use Rattle.block_path.specs.WayIn.{Delivers, Spoils, Stops, WayIn}
use Rattle.block_path.specs.Senses.{why_ended}
use Rattle.run_laws.specs.Passed.{Setting, Op}
use Rattle.run_laws.specs.Records.{came_of, recorded}
use Rattle.dix_adapter.specs.declared.adapter.Adapter.{Adapter}
use Rattle.dix_adapter.specs.Carried.{frame_len}
use Rattle.dix_adapter.specs.Groups.{IsCarriedGroup, IsProtect, blocks_in, first_of, size}
use Rattle.dix_adapter.specs.Outcomes.{done_of}
use Rattle.dix_adapter.specs.Ways.{CameIn, RecordedIn, blocks_told, fates_of_in, frames_in, shapes_of, site_of, stopped_in, ways_in}
use Rattle.dix_adapter.proofs.Blocks.{length-in}
use Rattle.dix_adapter.proofs.Runs.{cut-joined}
use Rattle.stack_walk_laws.specs.OnRecord.{put_each}
use Rattle.stack_walk_laws.proofs.Puts.{InTurn, goes_in, turn}
use Rattle.stack_walk_laws.specs.Following.{Follows}
use Rattle.stack_walk_laws.specs.Gate.{BlockSpot}
use Rattle.stack_walk_laws.specs.Sending.{AllComeIn, AllGoing, AllSized, NoneBefore, in_fates, land_all, with_fates}
use Rattle.stack_walk_laws.specs.Slots.{Status}
use Rattle.stack_walk_laws.proofs.Recording.{came_length, in_fates_are, lands}
use Rattle.stack_walk_laws.proofs.Sends.{in_all}
use Rattle.stack_walk_laws.proofs.Telling.{last_one}
use Rattle.stack_walk_laws.specs.Falls.{Falls, falling, forgiven, left_of, over_falls, put_really}
use Rattle.stack_walk_laws.specs.FollowsFalling.{FallsAside, FollowsFalling, HasFallen}
use Rattle.stack_walk_laws.proofs.Devices.{more_fall}
use Rattle.stack_walk_laws.proofs.Falling.{all_really, alike_by, before_by, carried_none, falls_by, put_all, record_still, sized_by, still_stamped}
use Rattle.stack_walk_laws.proofs.Forgiving.{are_fresh, still_carried, still_going}
use Rattle.stack_walk_laws.proofs.Inward.{all_come, aside_in, beside, beside_if, came_ins, ends_so, fell_by, has_fallen, in_statuses, long_frames, really_in, stopped_is, stops_alike, ways_fall}
use Rattle.stack_walk_laws.proofs.Outward.{if_some}
use Rattle.stack_walk_laws.proofs.OverDevice.{going_over}
use Rattle.stack_walk_laws.proofs.SentOut.{all_cut, none_stand, turn_dir}

few : (ws : List WayIn) → length (frames_in ws) ≤ length ws
few [] = omega arith
few (Stops why ∷ ws) = omega arith
few (Spoils why carried ∷ ws) = let h = few ws in omega (arith, h)
few (Delivers carried frame ∷ ws) = let h = few ws in omega (arith, h)

module _ (m : Setting) (n : ℕ) (ops : List Op) (a : Adapter) (ios : List Io) (req : List Bio) (pool : List (List ℕ)) (us : List Stored) (protect : IsProtect a.protect) (g : IsCarriedGroup a pool m.size ios req) (site : m.site ≡ site_of a (shapes_of us)) where
  abbrev bs : List Block
  bs = blocks_in req

  ways_length : (falls : Falls) (xs : List Block) → length (ways_fall a ios (shapes_of us) (blocks_told us) falls xs) ≡ length xs
  ways_length falls [] = refl
  ways_length falls (x ∷ xs) = ap suc (ways_length falls xs)

  pub fallen_in : (stop : Option Stop) (pool' : List (List ℕ)) (fates : List Fate) (old new : RigState) (opening : State) (status : ℕ → ℕ → Status) (spots : List BlockSpot) → (first_of req).dir ≡ Read → AllSized m a ios (blocks_told us) (frame_len a ios req) bs →
      RecordedIn a ios req pool pool' fates old new → CameIn a ios req pool pool' us stop fates old new → IfSome stop (λ s. length s.left ≡ stored_size m.ty m.size) →
      AllGoing m n ops a ios (length opening.logs) status bs spots → NoneBefore status (recorded m old.log) → FollowsFalling m n ops opening status (flat pool) (blocks_told us) (recorded m old.log) →
      FollowsFalling m n ops opening (with_fates bs fates status) (flat pool') (blocks_told us) (recorded m new.log)
  fallen_in stop pool' fates old new opening status spots w wide r told sized going none h =
      let units = shapes_of us in
      let blocks = blocks_told us in
      let logs = length opening.logs in
      let o = r.entry.what.outcome in
      let es = recorded m old.log in
      let len = frame_len a ios req in
      let faults = ap (λ (s : Site). s.faults) site in
      let limit = length (frames_in (ways_in a ios units blocks bs)) + 1 in
      let other_stop = beside a.tamper bs stop in
      let more = falls_by other_stop limit bs h.falls in
      let over = over_falls m more in
      let real = ways_fall a ios units blocks more bs in
      let walk = came_ins a ios units blocks more bs in
      let turns = subst (λ d. InTurn d (first_of req).dev (first_of req).lba bs) w (turn m a ios req pool protect g) in
      let dirs = turn_dir Read (first_of req).dev (first_of req).lba bs turns in
      let fresh = are_fresh m n ops a ios logs h.falls status Read bs spots h.fallen dirs going in
      let cut = all_cut m n ops a ios logs status bs spots going in
      let ways : stopped_in stop (ways_in a ios units blocks bs) ≡ real = stops_alike a ios units blocks stop bs ∙ stopped_is a ios units blocks h.falls ops other_stop bs fresh in
      let k = done_of (size req) o in
      let frames = frames_of len k r.entry.moved in
      let cames = came_of (size req) o.done o.sense frames in
      let count = frames_length len k r.entry.moved in
      let long = length-in req in
      let same : r.entry ≡ told.entry = last_one old.log r.entry told.entry (sym r.what.recorded ∙ told.recorded) in
      let done : o.done ≡ length (frames_in real) = ap (λ (e : LogEntry). e.what.outcome.done) same ∙ told.done ∙ ap (λ ws. length (frames_in ws)) ways in
      let fewer = few real in
      let ways_count = ways_length more bs in
      let enough : k ≡ length (frames_in real) = omega (arith, done, fewer, ways_count, long) in
      let moved : r.entry.moved ≡ joined (frames_in real) ++ [] = ap (λ (e : LogEntry). e.moved) same ∙ told.moved ∙ ap (λ ws. joined (frames_in ws)) ways ∙ sym (append-nil (joined (frames_in real))) in
      let cut_there : frames ≡ frames_in real = ap (λ j. frames_of len j r.entry.moved) enough ∙ ap (frames_of len (length (frames_in real))) moved ∙ cut-joined len (frames_in real) [] (long_frames a ios units blocks m site more len bs wide) in
      let put : recorded m new.log ≡ put_each m.site bs cames es = goes_in m a ios req pool protect g pool' fates old new w r in
      let fate : in_fates a ios bs cames ≡ fates = in_fates_are (size req) o bs long a ios frames count ∙ sym r.fates_are in
      let ended = came_of (size req) o.done o.sense (frames_in real) in
      let alike : cames ≡ ended = ap (came_of (size req) o.done o.sense) cut_there in
      let short : length ended ≤ length bs = subst (λ c. length c ≤ length bs) alike (came_length m n ops a ios req pool protect g faults o frames count) in
      let came : cames ≡ walk = alike ∙ ends_so a ios units blocks more bs (ltb o.done (size req)) (why_ended o.sense) short (ap (in_fates a ios bs) (sym alike) ∙ fate ∙ told.fates_are ∙ ap fates_of_in ways) in
      let other = more_fall m n ops opening h.after (forgiven ops h.falls status) h.falls more h.told
      (λ i l c. sym (before_by other_stop limit bs h.falls i l (carried_none status bs i l cut (sym (still_carried (left_of ops h.falls i l) (status i l)) ∙ c)))) h.follows in
      let follows = subst (λ st. Follows over n ops opening st h.after h.told) (λ x i l. alike_by ops other_stop limit bs h.falls status i l cut x) other in
      let there = still_going over n ops ops a ios logs more status bs spots (going_over m (falling more m.site.device) n ops a ios logs status bs spots going) in
      let comes = subst (λ x. AllComeIn over a ios x bs walk) (sym h.blocks_are) (all_come a ios units blocks m site more bs dirs) in
      let sent = in_all over n ops a ios opening faults bs spots walk h.after (forgiven ops more status) h.told there comes follows in
      let statuses = ap (λ cs. with_fates bs (in_fates a ios bs cs) (forgiven ops more status)) (sym came) ∙ ap (λ f. with_fates bs f (forgiven ops more status)) fate ∙ in_statuses ops more h.falls bs fates status fresh in
      record {
        falls = more;
        after = sent.after;
        told = put_each over.site bs walk h.told;
        follows = subst (λ st. Follows over n ops opening st sent.after (put_each over.site bs walk h.told)) statuses sent.follows;
        bytes = sent.bytes ∙ ap (land_all a ios bs walk) h.bytes ∙ ap (λ cs. land_all a ios bs cs (flat pool)) (sym came) ∙ lands a ios bs frames (ltb o.done (size req)) (why_ended o.sense) (flat pool) ∙ sym r.cells;
        blocks_are = sent.blocks ∙ h.blocks_are;
        stamped = still_stamped m.site (falling more m.site.device) bs walk h.told h.stamped;
        on_record = put ∙ ap (λ cs. put_each m.site bs cs es) (came ∙ sym (really_in a ios units blocks more bs))
            ∙ ap (put_each m.site bs (all_really more bs walk)) (h.on_record ∙ record_still m.site h.falls other_stop limit bs h.told (none_stand status (put_really m.site h.falls h.told []) bs cut (subst (NoneBefore status) h.on_record none)))
            ∙ sym (put_all m.site over.site more bs walk h.told []);
        fallen = λ i l. if_some (more (record { op = i; k = l })) (HasFallen (with_fates bs fates status i l))
            (λ left e. subst (λ f. HasFallen (with_fates bs f status i l)) (ap (in_fates a ios bs) (sym came) ∙ fate)
            (has_fallen a ios units blocks more bs status (fell_by a ios units blocks h.falls ops other_stop bs status fresh h.fallen) i l left e));
        aside = subst (λ f. FallsAside f more) (sym faults) (aside_in a.tamper stop limit bs h.falls (subst (λ f. FallsAside f h.falls) faults h.aside));
        sized = sized_by (stored_size m.ty m.size) other_stop limit bs h.falls (beside_if (λ s. length s.left ≡ stored_size m.ty m.size) a.tamper bs stop sized) h.sized;
      }

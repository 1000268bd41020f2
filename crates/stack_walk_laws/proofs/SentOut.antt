-- A command of a write over a rig that tells its blocks, whose store call may fail.
use Rattle.std.proofs.Common.{◌≡◌, ◌≤◌, ℕ, suc, true, false, List, [], ◌∷◌, length, map, take, Option, refl, sym, ap, subst, ◌∙◌, arith}
use Rattle.std.specs.Prelude.{IfSome, min, ltb}
use Rattle.std.proofs.lemmas.List.{length-map, length-take}
use Rattle.page_pool.specs.Cells.{flat}
use Rattle.block_path.specs.Passed.{stored_size, Stop, Stored}
use Rattle.dix_adapter.specs.Passed.{LogEntry, RigState}
use Rattle.bio_core.specs.Bios.{Block}
use Rattle.bio_core.specs.declared.bio.Bio.{Bio}
use Rattle.bio_core.specs.declared.fate.Fate.{Fate}
use Rattle.bio_core.specs.declared.request.Dir.{Dir}
use Rattle.bio_core.specs.declared.request.Dir.TheVariants.{Write}
use Rattle.bio_core.specs.declared.request.Io.{Io}
use Rattle.block_path.specs.Acts.{State, act}
use Rattle.block_path.specs.Blocks.{Sent, Site}
use Rattle.block_path.specs.Serial.{plain}
use Rattle.block_path.specs.WayOut.{Fails, Refuses, Stores, WayOut}
use Rattle.block_path.specs.Senses.{why_ended}
use Rattle.run_laws.specs.Passed.{Setting, Op}
use Rattle.run_laws.specs.Records.{came_of, recorded}
use Rattle.dix_adapter.specs.declared.adapter.Adapter.{Adapter}
use Rattle.dix_adapter.specs.Carried.{any_bad, frame_sent, sends}
use Rattle.dix_adapter.specs.Groups.{IsCarriedGroup, IsProtect, blocks_in, first_of, size}
use Rattle.dix_adapter.specs.Outcomes.{done_of}
use Rattle.dix_adapter.specs.Ways.{RecordedOut, WentOut, acts_out, blocks_told, cells_out, fates_out, frames_out, left_at, shapes_of, site_of, stopped_out, ways_out}
use Rattle.dix_adapter.proofs.Blocks.{length-in}
use Rattle.stack_walk_laws.specs.OnRecord.{put_each}
use Rattle.stack_walk_laws.proofs.Puts.{InTurn, goes_out as went_out, turn}
use Rattle.stack_walk_laws.specs.Following.{Follows}
use Rattle.stack_walk_laws.specs.Gate.{BlockSpot}
use Rattle.stack_walk_laws.specs.Sending.{AllGoOut, AllGoing, NoneBefore, is_carried, out_fates, with_fates}
use Rattle.stack_walk_laws.specs.Slots.{Status}
use Rattle.stack_walk_laws.proofs.Recording.{came_length, out_fates_are}
use Rattle.stack_walk_laws.proofs.Sends.{out_all}
use Rattle.stack_walk_laws.proofs.Telling.{last_one}
use Rattle.stack_walk_laws.specs.Falls.{Falls, falling, forgiven, left_of, over_falls, put_really}
use Rattle.stack_walk_laws.specs.FollowsFalling.{FallsAside, FollowsFalling, HasFallen}
use Rattle.stack_walk_laws.proofs.Devices.{more_fall}
use Rattle.stack_walk_laws.proofs.Falling.{AllCut, NoneStand, all_really, alike_by, before_by, carried_none, falls_by, none_fall, put_all, record_still, sized_by, still_stamped}
use Rattle.stack_walk_laws.proofs.Forgiving.{AllDir, are_fresh, still_carried, still_going}
use Rattle.stack_walk_laws.proofs.Outward.{all_go, aside_out, blocks_walk, came_ways, ends_so, fell_by, fill_is, frames_are, has_fallen, if_some, out_statuses, plain_ways, real_ways, really_walk, stopped_is, walk_cames, ways_plain}
use Rattle.stack_walk_laws.proofs.OverDevice.{going_over}

pub turn_dir : (dir : Dir) (dev lba : ℕ) (bs : List Block) → InTurn dir dev lba bs → AllDir dir bs
turn_dir dir dev lba [] h = tt
turn_dir dir dev lba (b ∷ bs) h = (h.0.0, turn_dir dir dev (suc lba) bs h.1)

pub all_cut : (m : Setting) (n : ℕ) (ops : List Op) (a : Adapter) (ios : List Io) (logs : ℕ) (status : ℕ → ℕ → Status) (bs : List Block) (spots : List BlockSpot) → AllGoing m n ops a ios logs status bs spots → AllCut status bs
all_cut m n ops a ios logs status [] spots g = tt
all_cut m n ops a ios logs status (b ∷ bs) [] g = absurd g
all_cut m n ops a ios logs status (b ∷ bs) (s ∷ spots) g = (g.0.is_cut, all_cut m n ops a ios logs status bs spots g.1.1)

pub none_stand : (status : ℕ → ℕ → Status) (es : List Sent) (bs : List Block) → AllCut status bs → NoneBefore status es → NoneStand es bs
none_stand status es [] c h = tt
none_stand status es (b ∷ bs) c h = (h b.op b.k (ap is_carried c.0), none_stand status es bs c.1 h)

few : (ws : List WayOut) → length (frames_out ws) ≤ length ws
few [] = omega arith
few (Fails why ∷ ws) = omega arith
few (Refuses why ∷ ws) = omega arith
few (Stores carried stored ∷ ws) = let h = few ws in omega (arith, h)

module _ (m : Setting) (n : ℕ) (ops : List Op) (a : Adapter) (ios : List Io) (req : List Bio) (pool : List (List ℕ)) (us : List Stored) (protect : IsProtect a.protect) (g : IsCarriedGroup a pool m.size ios req) (site : m.site ≡ site_of a (shapes_of us)) where
  abbrev bs : List Block
  bs = blocks_in req

  ways_length : (falls : Falls) (xs : List Block) → length (real_ways a ios (shapes_of us) (flat pool) falls xs) ≡ length xs
  ways_length falls [] = refl
  ways_length falls (x ∷ xs) = ap suc (ways_length falls xs)

  pub fallen_out : (stop : Option Stop) (fates : List Fate) (old new : RigState) (opening : State) (status : ℕ → ℕ → Status) (spots : List BlockSpot) → (first_of req).dir ≡ Write → any_bad (map (sends a ios (flat pool)) bs) ≡ false →
      RecordedOut a ios req (flat pool) fates old new → (told : WentOut a ios req (flat pool) us stop fates old new) → IfSome stop (λ s. length s.left ≡ stored_size m.ty m.size) →
      AllGoing m n ops a ios (length opening.logs) status bs spots → NoneBefore status (recorded m old.log) → FollowsFalling m n ops opening status (flat pool) (blocks_told us) (recorded m old.log) →
      FollowsFalling m n ops opening (with_fates bs fates status) (flat pool) (blocks_told told.units) (recorded m new.log)
  fallen_out stop fates old new opening status spots w good r told sized going none h =
      let cells = flat pool in
      let units = shapes_of us in
      let logs = length opening.logs in
      let o = r.entry.what.outcome in
      let es = recorded m old.log in
      let faults = ap (λ (s : Site). s.faults) site in
      let limit = length (frames_out (plain_ways a ios units cells bs)) in
      let more = falls_by stop limit bs h.falls in
      let over = over_falls m more in
      let real = real_ways a ios units cells more bs in
      let walk = walk_cames a ios units cells more bs in
      let turns = subst (λ d. InTurn d (first_of req).dev (first_of req).lba bs) w (turn m a ios req pool protect g) in
      let dirs = turn_dir Write (first_of req).dev (first_of req).lba bs turns in
      let fresh = are_fresh m n ops a ios logs h.falls status Write bs spots h.fallen dirs going in
      let still = none_fall h.falls ops true bs fresh in
      let cut = all_cut m n ops a ios logs status bs spots going in
      let plainly = ways_plain a ios units cells bs good in
      let ways : stopped_out stop (ways_out a ios cells bs) ≡ real = ap (stopped_out stop) plainly ∙ stopped_is a ios units cells h.falls ops stop limit bs fresh still refl in
      let all = map frame_sent (map (sends a ios cells) bs) in
      let k = done_of (size req) o in
      let frames = take k all in
      let cames = came_of (size req) o.done o.sense frames in
      let long = length-in req in
      let many : length all ≡ size req = length-map (map (sends a ios cells) bs) frame_sent ∙ length-map bs (sends a ios cells) ∙ long in
      let taken = length-take k all in
      let count : length frames ≡ min o.done (size req) = omega (arith, taken, many) in
      let put : recorded m new.log ≡ put_each m.site bs cames es = went_out m a ios req pool protect g fates old new w good r in
      let fate : out_fates bs cames ≡ fates = out_fates_are (size req) o bs long frames count ∙ sym r.fates_are in
      let same : r.entry ≡ told.entry = last_one old.log r.entry told.entry (sym r.what.recorded ∙ told.recorded) in
      let done : o.done ≡ length (frames_out real) = ap (λ (e : LogEntry). e.what.outcome.done) same ∙ told.done ∙ ap (λ ws. length (frames_out ws)) ways in
      let fewer = few real in
      let ways_count = ways_length more bs in
      let enough : k ≡ length (frames_out real) = omega (arith, done, fewer, ways_count, long) in
      let cut_there : frames ≡ frames_out real = ap (λ j. take j all) enough ∙ frames_are a ios units cells more bs in
      let ended = came_of (size req) o.done o.sense (frames_out real) in
      let alike : cames ≡ ended = ap (came_of (size req) o.done o.sense) cut_there in
      let short : length ended ≤ length bs = subst (λ c. length c ≤ length bs) alike (came_length m n ops a ios req pool protect g faults o frames count) in
      let came : cames ≡ came_ways real = alike ∙ ends_so a ios units cells more bs (ltb o.done (size req)) (why_ended o.sense) short (ap (out_fates bs) (sym alike) ∙ fate ∙ told.fates_are ∙ ap fates_out ways) in
      let other = more_fall m n ops opening h.after (forgiven ops h.falls status) h.falls more h.told
      (λ i l c. sym (before_by stop limit bs h.falls i l (carried_none status bs i l cut (sym (still_carried (left_of ops h.falls i l) (status i l)) ∙ c)))) h.follows in
      let follows = subst (λ st. Follows over n ops opening st h.after h.told) (λ x i l. alike_by ops stop limit bs h.falls status i l cut x) other in
      let there = still_going over n ops ops a ios logs more status bs spots (going_over m (falling more m.site.device) n ops a ios logs status bs spots going) in
      let goes = subst (λ c. AllGoOut over a ios c bs walk) (sym h.bytes) (all_go a ios units cells m site more bs dirs good) in
      let sent = out_all over n ops a ios opening bs spots walk h.after (forgiven ops more status) h.told there goes follows in
      let statuses = out_statuses a ios units cells ops more h.falls bs status fresh ∙ ap (λ cs. forgiven ops more (with_fates bs (out_fates bs cs) status)) (sym came) ∙ ap (λ f. forgiven ops more (with_fates bs f status)) fate in
      record {
        falls = more;
        after = sent.after;
        told = put_each over.site bs walk h.told;
        follows = subst (λ st. Follows over n ops opening st sent.after (put_each over.site bs walk h.told)) statuses sent.follows;
        bytes = sent.bytes ∙ h.bytes;
        blocks_are = sent.blocks ∙ blocks_walk a ios units cells m site more bs h.after h.bytes good
            ∙ fill_is a ios units cells h.falls ops stop limit bs (plain act (take (length (frames_out real)) (acts_out a ios units bs)) h.after).blocks fresh still refl
            ∙ ap (λ ws. left_at stop limit (cells_out a ios units bs) (plain act (take (length (frames_out ws)) (acts_out a ios units bs)) h.after).blocks) (sym ways)
            ∙ ap (λ ws. left_at stop (length (frames_out ws)) (cells_out a ios units bs) (plain act (take (length (frames_out (stopped_out stop (ways_out a ios cells bs)))) (acts_out a ios units bs)) h.after).blocks) (sym plainly)
            ∙ sym (told.blocks h.after h.bytes h.blocks_are);
        stamped = still_stamped m.site (falling more m.site.device) bs walk h.told h.stamped;
        on_record = put ∙ ap (λ cs. put_each m.site bs cs es) (came ∙ sym (really_walk a ios units cells more bs))
            ∙ ap (put_each m.site bs (all_really more bs walk)) (h.on_record ∙ record_still m.site h.falls stop limit bs h.told (none_stand status (put_really m.site h.falls h.told []) bs cut (subst (NoneBefore status) h.on_record none)))
            ∙ sym (put_all m.site over.site more bs walk h.told []);
        fallen = λ i l. if_some (more (record { op = i; k = l })) (HasFallen (with_fates bs fates status i l))
            (λ left e. subst (λ f. HasFallen (with_fates bs f status i l)) (ap (out_fates bs) (sym came) ∙ fate)
            (has_fallen a ios units cells more bs status (fell_by a ios units cells h.falls ops stop limit bs status fresh refl h.fallen) i l left e));
        aside = subst (λ f. FallsAside f more) (sym faults) (aside_out a ios units cells h.falls stop bs (subst (λ f. FallsAside f h.falls) faults h.aside));
        sized = sized_by (stored_size m.ty m.size) stop limit bs h.falls sized h.sized;
      }

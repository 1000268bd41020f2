-- Frames on record have the wire's size.
use Rattle.std.proofs.Common.{◌≡◌, ◌≤◌, ℕ, ◌*◌, Bool, true, false, if◌then◌else◌, List, [], ◌∷◌, ◌++◌, length, map, take, Some, None, sym, subst, arith}
use Rattle.std.specs.Prelude.{Result, Err, IfOk, ltb}
use Rattle.page_pool.specs.Cells.{flat}
use Rattle.fault_schedule.specs.declared.Label.{Label}
use Rattle.block_path.specs.Passed.{frames_of}
use Rattle.bio_core.specs.Bios.{Block}
use Rattle.bio_core.specs.declared.bio.Bio.{Bio}
use Rattle.bio_core.specs.declared.fate.Fate.{Fate}
use Rattle.bio_core.specs.declared.fate.Why.{Why}
use Rattle.bio_core.specs.declared.request.Dir.TheVariants.{Read, Write}
use Rattle.bio_core.specs.declared.request.Io.{Io}
use Rattle.block_path.specs.Blocks.{Sent, Site}
use Rattle.block_path.specs.Routes.{wire_size}
use Rattle.block_path.specs.Senses.{why_ended}
use Rattle.run_laws.specs.Passed.{Block as ScriptBlock, Setting, route}
use Rattle.run_laws.specs.Records.{came_of, find, is_labelled, recorded, stamped}
use Rattle.run_laws.specs.ToldRun.{came_in}
use Rattle.dix_adapter.specs.declared.adapter.Adapter.{Adapter}
use Rattle.dix_adapter.specs.Carried.{any_bad, frame_len, frame_sent, sends}
use Rattle.dix_adapter.specs.Groups.{IsCarriedGroup, IsProtect, blocks_in, first_of, label_of, size}
use Rattle.dix_adapter.specs.Outcomes.{done_of}
use Rattle.dix_adapter.specs.Ways.{RecordedIn, RecordedOut}
use Rattle.dix_adapter.proofs.Landing.{group-width}
use Rattle.dix_adapter.proofs.Runs.{AllLong, group-wide}
use Rattle.dix_adapter.proofs.GoingIn.{part-long}
use Rattle.dix_adapter.proofs.Units.{frames-long}
use Rattle.stack_walk_laws.specs.OnRecord.{put_each}
use Rattle.stack_walk_laws.proofs.Puts.{goes_in, goes_out}
use Rattle.stack_walk_laws.specs.Finished.{FramesFit}
use Rattle.stack_walk_laws.proofs.Recording.{arrived}
use Rattle.dix_adapter.specs.Passed.{RigState}

abbrev Fits : ℕ → Result (List ℕ) Why → Type 0
Fits w came = IfOk came (λ frame. length frame ≡ w)

abbrev AllFit : ℕ → List (Result (List ℕ) Why) → Type 0
AllFit w [] = Unit {0}
AllFit w (c ∷ cames) = Fits w c × AllFit w cames

fit_more : (w : ℕ) (l : Label) (es : List Sent) (e : Sent) → Fits w (came_in (find l es)) → Fits w e.came → Fits w (came_in (find l (es ++ (e ∷ []))))
fit_more w l [] e h k = by (is_labelled l e) where
  by : (c : Bool) → Fits w (came_in (if c then Some e else None))
  by true = k
  by false = tt
fit_more w l (x ∷ es) e h k = by (is_labelled l x) h (λ h. fit_more w l es e h k) where
  by : (c : Bool) → Fits w (came_in (if c then Some x else find l es)) → (Fits w (came_in (find l es)) → Fits w (came_in (find l (es ++ (e ∷ []))))) → Fits w (came_in (if c then Some x else find l (es ++ (e ∷ []))))
  by true h f = h
  by false h f = f h

fit_put : (s : Site) (w : ℕ) (l : Label) (bs : List Block) (cames : List (Result (List ℕ) Why)) (es : List Sent) → AllFit w cames → Fits w (came_in (find l es)) → Fits w (came_in (find l (put_each s bs cames es)))
fit_put s w l [] cames es f h = h
fit_put s w l (b ∷ bs) [] es f h = h
fit_put s w l (b ∷ bs) (c ∷ cames) es f h =
    let e = stamped s es (label_of b) b.dir b.dev b.lba c in
    fit_put s w l bs cames (es ++ (e ∷ [])) f.1 (fit_more w l es e h f.0)

came_fit : (w : ℕ) (frames : List (List ℕ)) (c : Bool) (why : Why) → AllLong w frames → AllFit w (map arrived frames ++ (if c then Err why ∷ [] else []))
came_fit w [] true why h = (tt, tt)
came_fit w [] false why h = tt
came_fit w (f ∷ frames) c why h = (h.0, came_fit w frames c why h.1)

module _ (m : Setting) (a : Adapter) (ios : List Io) (req : List Bio) (pool : List (List ℕ)) (protect : IsProtect a.protect) (g : IsCarriedGroup a pool m.size ios req) where
  put_fits : (cames : List (Result (List ℕ) Why)) (w : ℕ) (es : List Sent) → ((b : ScriptBlock) → wire_size (route m b) ≡ w) → AllFit w cames → FramesFit m es → FramesFit m (put_each m.site (blocks_in req) cames es)
  put_fits cames w es wide f fit = λ b. subst (λ k. Fits k (came_in (find (route m b).label (put_each m.site (blocks_in req) cames es)))) (sym (wide b))
      (fit_put m.site w (route m b).label (blocks_in req) cames es f (subst (λ k. Fits k (came_in (find (route m b).label es))) (wide b) (fit b)))

  pub fit_out : (fates : List Fate) (old new : RigState) → (first_of req).dir ≡ Write → any_bad (map (sends a ios (flat pool)) (blocks_in req)) ≡ false → ((b : ScriptBlock) → wire_size (route m b) ≡ frame_len a ios req) →
      RecordedOut a ios req (flat pool) fates old new → FramesFit m (recorded m old.log) → FramesFit m (recorded m new.log)
  fit_out fates old new w good wide r fit =
      let o = r.entry.what.outcome in
      let len = frame_len a ios req in
      let all = map frame_sent (map (sends a ios (flat pool)) (blocks_in req)) in
      let frames = take (done_of (size req) o) all in
      let long : AllLong len all = subst (λ k. AllLong k all) (sym (group-width a pool m.size ios req g)) (group-wide a pool m.size ios req g good) in
      subst (FramesFit m) (sym (goes_out m a ios req pool protect g fates old new w good r))
      (put_fits (came_of (size req) o.done o.sense frames) len (recorded m old.log) wide (came_fit len frames (ltb o.done (size req)) (why_ended o.sense) (part-long len (done_of (size req) o) all long)) fit)

  pub fit_in : (pool' : List (List ℕ)) (fates : List Fate) (old new : RigState) → (first_of req).dir ≡ Read → ((b : ScriptBlock) → wire_size (route m b) ≡ frame_len a ios req) →
      RecordedIn a ios req pool pool' fates old new → FramesFit m (recorded m old.log) → FramesFit m (recorded m new.log)
  fit_in pool' fates old new w wide r fit =
      let o = r.entry.what.outcome in
      let len = frame_len a ios req in
      let k = done_of (size req) o in
      let frames = frames_of len k r.entry.moved in
      let enough : k * len ≤ length r.entry.moved = subst (λ x. k * len ≤ x) (sym r.long) (omega arith) in
      subst (FramesFit m) (sym (goes_in m a ios req pool protect g pool' fates old new w r))
      (put_fits (came_of (size req) o.done o.sense frames) len (recorded m old.log) wide (came_fit len frames (ltb o.done (size req)) (why_ended o.sense) (frames-long len k r.entry.moved enough)) fit)

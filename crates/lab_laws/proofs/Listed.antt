-- The step of the flipped block: it is listed, or its stored block is altered.
use Rattle.std.proofs.Common.{◌≡◌, ◌<◌, ℕ, ◌%◌, List, [], ◌∷◌, length, drop, get_or, set, Some, None, ◌⊎◌, inl, inr, sym, ap, subst, ◌∙◌}
use Rattle.std.proofs.lemmas.List.{get_or-set_same, set-set}
use Rattle.pi_guard.specs.Guards.{crc}
use Rattle.pi_tuple.specs.Finds.{finding}
use Rattle.pi_tuple.specs.Tuples.{ref_tag}
use Rattle.pi_tuple.specs.declared.checks.Check.{Check}
use Rattle.pi_tuple.specs.declared.checks.PiType.TheVariants.{One}
use Rattle.page_pool.specs.Cells.{gather}
use Rattle.fault_schedule.specs.Altered.{keep_of}
use Rattle.fault_schedule.specs.declared.fault.Crossing.{Crossing}
use Rattle.fault_schedule.specs.declared.fault.Crossing.TheVariants.{TargetToMedium}
use Rattle.fault_schedule.specs.declared.fault.FaultLine.{FaultLine}
use Rattle.integrity_payload.specs.declared.payload.Owner.{Owner}
use Rattle.integrity_payload.specs.Payloads.{all_asked}
use Rattle.bio_core.specs.declared.fate.Why.{Why}
use Rattle.rig_api.specs.Frames.{data_of, tuple_of}
use Rattle.volume_table.specs.Places.{place_in, volume_len}
use Rattle.block_path.specs.Acts.{State, act, tell}
use Rattle.block_path.specs.Blocks.{fetched_cell, own_cell, own_frame, stored_cell, tuple_after, written_by}
use Rattle.block_path.specs.WayIn.{WayIn, way_in}
use Rattle.block_path.specs.WayOut.{Stores, WayOut, way_out}
use Rattle.block_path.specs.declared.route.Route.{Route}
use Rattle.walk_laws.specs.CalmRun.{LiesInImage}
use Rattle.walk_laws.specs.ScriptWalk.{act_of}
use Rattle.walk_laws.specs.Settings.{Block, Setting, route}
use Rattle.walk_laws.specs.Steps.{Reads, Step, Writes, WritesPi}
use Rattle.walk_laws.specs.UnderMap.{home}
use Rattle.lab_laws.proofs.Flipped.{IsOne, IsSeenFlip, Whole}
use Rattle.lab_laws.proofs.Ways.{in_by, out_by, target_finds}
use Rattle.lab_laws.proofs.OneLine.{Alike, IsOwn, as_kept, as_written, m0, m1, none_shifted, one_line, reads_alike, same_fetched, same_stored, whole_kept}
use Rattle.lab_laws.proofs.Marked.{StoredWrong, in_why, medium_out, out_why}
use Rattle.lab_laws.proofs.Walking.{Holds, app_supplied, comes, fetched_is, goes, home_is, inside, own_supplied, read_why, written_why}
use Rattle.lab_laws.proofs.Beside.{IsListed, Marks, MayBeListed, WasGood, spoilt}

module _ (m' : Setting) (even : m'.size % 2 ≡ 0) (image : List (List ℕ)) (lies : LiesInImage (m0 m' TargetToMedium 0 0 0 0) (volume_len m'.entries) image) (at : Crossing) (op k off byte : ℕ) (check : Check) where
  abbrev was : Setting
  was = m0 m' at op k off byte

  abbrev now : Setting
  now = m1 m' at op k off byte

  abbrev n : ℕ
  n = m'.size

  abbrev lines : List FaultLine
  lines = one_line at op k off byte ∷ []

  abbrev goes_out : Block → List ℕ → WayOut
  goes_out b f = way_out lines (now).site.device (route was b) f

  abbrev comes_in : Block → Owner → List ℕ → WayIn
  comes_in b owner x = way_in lines (now).site.device (route was b) owner x

  abbrev quiet_out : Block → List ℕ → Type 0
  quiet_out b f = out_why (out_by m' [] none_shifted b (λ x. x) (λ x. x) (λ x. x) f) ≡ None

  abbrev quiet_in : Block → Owner → List ℕ → Type 0
  quiet_in b owner x = in_why (in_by m' [] none_shifted b owner (λ x. x) (λ x. x) (λ x. x) x) ≡ None

  -- a frame that nobody found bad
  pub out_quiet : (b : Block) (f back : List ℕ) (log : List (List ℕ)) →
      (written_by (route was b) (way_out [] (was).site.device (route was b) f) back log).answer.why ≡ out_why (out_by m' [] none_shifted b (λ x. x) (λ x. x) (λ x. x) f)
  out_quiet b f back log = written_why m' even image lies b (way_out [] (was).site.device (route was b) f) back log ∙ ap out_why (goes m' even image lies b f)

  -- ---- listed

  pub write_listed : (b : Block) (app : ℕ) (body : List ℕ) (w : Why) → ((f : List ℕ) → Whole n f → quiet_out b f → out_why (goes_out b f) ≡ Some w) → IsListed m' even image lies at op k off byte check (Writes b app body) w
  write_listed b app body w marked s h fit e none =
      let f = own_frame (route was b) app (gather 0 body s.bytes) in
      let log = get_or s.logs (own_cell (was).site (route was b)) [] in
      written_why m' even image lies b (goes_out b f) [] log ∙ marked f (own_supplied m' even image lies b app body s fit e h) (sym (out_quiet b f [] log) ∙ none)

  pub app_listed : (b : Block) (frame : List ℕ) (w : Why) → ((f : List ℕ) → Whole n f → quiet_out b f → out_why (goes_out b f) ≡ Some w) → IsListed m' even image lies at op k off byte check (WritesPi b frame) w
  app_listed b frame w marked s h fit e none =
      let f = gather 0 frame s.bytes in
      let log = get_or s.logs (own_cell (was).site (route was b)) [] in
      let back = tuple_after (route was b) (drop n f) in
      written_why m' even image lies b (goes_out b f) back log ∙ marked f (app_supplied m' even image lies b frame s fit e h) (sym (out_quiet b f back log) ∙ none)

  pub read_listed : (b : Block) (owner : Owner) (to : List ℕ) (w : Why) → ((x : List ℕ) → Whole n x → quiet_in b owner x → in_why (comes_in b owner x) ≡ Some w) → IsListed m' even image lies at op k off byte check (Reads b owner to) w
  read_listed b owner to w marked s h fit e none =
      let d : ℕ = fetched_cell (was).site (route was b) in
      let x = get_or s.blocks d [] in
      let logged = length (get_or s.logs (own_cell (was).site (route was b)) []) in
      let whole : Whole n x = subst (λ i. Whole n (get_or s.blocks i [])) (sym (fetched_is m' even image lies b)) (h.each b.virt fit) in
      let plain : WayIn = way_in [] (was).site.device (route was b) owner x in
      let quiet : quiet_in b owner x = sym (read_why m' even image lies b owner plain (length to) logged ∙ ap in_why (comes m' even image lies b owner x)) ∙ none in
      read_why m' even image lies b owner (comes_in b owner (get_or s.blocks (fetched_cell (now).site (route was b)) [])) (length to) logged
      ∙ ap (λ i. in_why (comes_in b owner (get_or s.blocks i []))) (same_fetched m' at op k off byte b)
      ∙ marked x whole quiet

  -- or done alike
  pub read_either : (b : Block) (owner : Owner) (to : List ℕ) (w : Why) → ((x : List ℕ) → Whole n x → quiet_in b owner x → (in_why (comes_in b owner x) ≡ Some w) ⊎ (comes_in b owner x ≡ way_in [] (was).site.device (route was b) owner x)) →
      MayBeListed m' even image lies at op k off byte check (Reads b owner to) w
  read_either b owner to w marked s h fit e none = by (marked x whole quiet)
    where
      x : List ℕ
      x = get_or s.blocks (fetched_cell (was).site (route was b)) []

      logged : ℕ
      logged = length (get_or s.logs (own_cell (was).site (route was b)) [])

      whole : Whole n x
      whole = subst (λ i. Whole n (get_or s.blocks i [])) (sym (fetched_is m' even image lies b)) (h.each b.virt fit)

      quiet : quiet_in b owner x
      quiet = sym (read_why m' even image lies b owner (way_in [] (was).site.device (route was b) owner x) (length to) logged ∙ ap in_why (comes m' even image lies b owner x)) ∙ none

      by : (in_why (comes_in b owner x) ≡ Some w) ⊎ (comes_in b owner x ≡ way_in [] (was).site.device (route was b) owner x) → ((tell (act_of now (Reads b owner to)) s).why ≡ Some w) ⊎ Alike was now (Reads b owner to) s
      by (inl hit) =
          inl (
          read_why m' even image lies b owner (comes_in b owner (get_or s.blocks (fetched_cell (now).site (route was b)) [])) (length to) logged
          ∙ ap (λ i. in_why (comes_in b owner (get_or s.blocks i []))) (same_fetched m' at op k off byte b)
          ∙ hit)
      by (inr same) = inr (reads_alike m' at op k off byte b owner to s same)

-- ---- altered on its way to the medium

module _ (m' : Setting) (even : m'.size % 2 ≡ 0) (image : List (List ℕ)) (lies : LiesInImage (m0 m' TargetToMedium 0 0 0 0) (volume_len m'.entries) image) (op k off byte : ℕ) (check : Check)
    (seen : (f : ℕ → ℕ) → IsOne off byte f → IsSeenFlip m'.size f check) where
  abbrev first : Setting
  first = m0 m' TargetToMedium op k off byte

  abbrev second : Setting
  second = m1 m' TargetToMedium op k off byte

  abbrev line : List FaultLine
  line = one_line TargetToMedium op k off byte ∷ []

  abbrev IsItsOwn : Block → Type 0
  IsItsOwn b = IsOwn m' TargetToMedium op k off byte b

  abbrev Wrong : Block → List ℕ → Type 0
  Wrong b f = StoredWrong m' even op k off byte check seen b f

  -- a block that is written, and stored altered in the one run
  module _ (b : Block) (within : b.virt < volume_len m'.entries) (f : List ℕ) (w : Wrong b f) (s : State) (h : Holds m' even image lies s) (reads writes back : List ℕ) where
    abbrev r : Route
    r = route first b

    abbrev own : ℕ
    own = own_cell (first).site r

    abbrev d : ℕ
    d = stored_cell (first).site r

    abbrev place : ℕ
    place = home first b.virt

    abbrev acted : ℕ → WayOut → State
    acted d way = act (as_written r d own reads writes way back) s

    at_home : d ≡ place
    at_home = home_is m' even image lies b

    without_is : way_out [] (first).site.device r f ≡ Stores w.carried w.carried
    without_is = goes m' even image lies b f ∙ w.without

    pub answers_are : tell (as_written r (stored_cell (second).site r) own reads writes (way_out line (second).site.device r f) back) s ≡ tell (as_written r d own reads writes (way_out [] (first).site.device r f) back) s
    answers_are =
        ap (λ d. tell (as_written r d own reads writes (way_out line (second).site.device r f) back) s) (same_stored m' TargetToMedium op k off byte b)
        ∙ ap (λ way. tell (as_written r d own reads writes way back) s) w.with_flip
        ∙ sym (ap (λ way. tell (as_written r d own reads writes way back) s) without_is)

    pub does_so : act (as_kept (keep_of line r.label) r (stored_cell (second).site r) own reads writes (way_out line (second).site.device r f) back) s ≡ spoilt m' even image lies TargetToMedium op k off byte check b.virt within w.stored w.whole w.bad (acted d (way_out [] (first).site.device r f))
    does_so =
        ap (λ keep. act (as_kept keep r (stored_cell (second).site r) own reads writes (way_out line (second).site.device r f) back) s) (whole_kept m' TargetToMedium op k off byte b)
        ∙ ap (λ d. acted d (way_out line (second).site.device r f)) (same_stored m' TargetToMedium op k off byte b)
        ∙ ap (acted d) w.with_flip
        ∙ ap (λ (bs : List (List ℕ)). record (acted d (Stores w.carried w.carried)) { blocks = bs })
        (ap (λ i. set s.blocks i w.stored) at_home ∙ sym (ap (λ i. set (set s.blocks i w.carried) place w.stored) at_home ∙ set-set s.blocks place w.carried w.stored))
        ∙ sym (ap (λ way. spoilt m' even image lies TargetToMedium op k off byte check b.virt within w.stored w.whole w.bad (acted d way)) without_is)

    abbrev IsGood : State → Type 0
    IsGood t = WasGood m' even image lies TargetToMedium op k off byte check b.virt within w.stored w.whole w.bad t

    stands_there : get_or (set s.blocks d w.carried) place [] ≡ w.carried
    stands_there = ap (λ i. get_or (set s.blocks i w.carried) place []) at_home ∙ get_or-set_same s.blocks place w.carried [] (inside m' even image lies s h b.virt within)

    pub good_there : IsGood (acted d (way_out [] (first).site.device r f))
    good_there = subst (λ way. IsGood (acted d way)) (sym without_is) (λ other e.
        ap (target_finds m' [] none_shifted other) stands_there
        ∙ ap (λ (v : ℕ). finding One (all_asked m'.mode.app 0) (ref_tag (place_in m'.entries v).1) (crc (data_of m'.size w.carried)) (tuple_of m'.size w.carried)) e
        ∙ w.was)

  abbrev MarksAt : (virt : ℕ) → virt < volume_len m'.entries → Step → Type 0
  MarksAt virt within step = Marks m' even image lies TargetToMedium op k off byte check virt within step

  pub write_marked : (b : Block) (within : b.virt < volume_len m'.entries) (app : ℕ) (body : List ℕ) → IsItsOwn b → MarksAt b.virt within (Writes b app body)
  write_marked b within app body its s h fit e none =
      let r : Route = route first b in
      let f = own_frame r app (gather 0 body s.bytes) in
      let log = get_or s.logs (own_cell (first).site r) [] in
      let w = medium_out m' even op k off byte check seen b its f (own_supplied m' even image lies b app body s fit e h) (sym (out_quiet m' even image lies TargetToMedium op k off byte check b f [] log) ∙ none) in
      record {
        y = w.stored;
        whole = w.whole;
        bad = w.bad;
        mark = record { answers = answers_are b within f w s h body [] []; does = does_so b within f w s h body [] []; good = good_there b within f w s h body [] [] };
      }

  pub app_marked : (b : Block) (within : b.virt < volume_len m'.entries) (frame : List ℕ) → IsItsOwn b → MarksAt b.virt within (WritesPi b frame)
  app_marked b within frame its s h fit e none =
      let r : Route = route first b in
      let f = gather 0 frame s.bytes in
      let log = get_or s.logs (own_cell (first).site r) [] in
      let to = drop r.size frame in
      let back = tuple_after r (drop r.size f) in
      let w = medium_out m' even op k off byte check seen b its f (app_supplied m' even image lies b frame s fit e h) (sym (out_quiet m' even image lies TargetToMedium op k off byte check b f back log) ∙ none) in
      record {
        y = w.stored;
        whole = w.whole;
        bad = w.bad;
        mark = record { answers = answers_are b within f w s h frame to back; does = does_so b within f w s h frame to back; good = good_there b within f w s h frame to back };
      }

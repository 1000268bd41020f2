-- A block of a command that is completed is settled: the stack follows on.
use Rattle.std.proofs.Common.{◌≡◌, ◌<◌, ℕ, suc, ◌+◌, Bool, true, false, List, [], ◌∷◌, ◌++◌, length, get_or, take, Option, Some, None, refl, sym, ap, subst, ◌∙◌, arith, append-nil}
use Rattle.page_pool.specs.Cells.{flat}
use Rattle.page_pool.specs.Pages.{AreWhole}
use Rattle.integrity_payload.specs.declared.payload.Payload.{Payload}
use Rattle.fault_schedule.specs.declared.Label.{Label}
use Rattle.bio_core.specs.declared.fate.Fate.{Fate}
use Rattle.bio_core.specs.declared.fate.Fate.TheVariants.{Untouched}
use Rattle.bio_core.specs.declared.request.Dir.{Dir}
use Rattle.bio_core.specs.declared.request.Dir.TheVariants.{Read, Write as WriteDir}
use Rattle.bio_core.specs.declared.request.Io.{Io}
use Rattle.dix_adapter.specs.Groups.{data_cells, tuple_cells}
use Rattle.dix_adapter.specs.Walking.{HasHost}
use Rattle.stack_ops.specs.declared.op.Op.{Op}
use Rattle.stack_laws.specs.Plan.{Plan}
use Rattle.block_path.specs.declared.route.Route.{Route}
use Rattle.block_path.specs.Acts.{Act, State, act, tell}
use Rattle.block_path.specs.Blocks.{ActAnswer, Sent, silent}
use Rattle.block_path.specs.Moves.{first_why, settle}
use Rattle.block_path.specs.Routes.{host_type}
use Rattle.block_path.specs.Serial.{plain, plain_tells}
use Rattle.stack_walk_laws.specs.Passed.{fates, Setting, block_of, route}
use Rattle.stack_walk_laws.specs.Following.{Becomes}
use Rattle.stack_walk_laws.specs.Gate.{MayMove, BlockSpot, number, parts_at, place}
use Rattle.stack_walk_laws.specs.Sending.{with_status}
use Rattle.stack_walk_laws.specs.Slots.{Carried, StepParts, Settled as IsSettled, Status}
use Rattle.stack_walk_laws.proofs.Sends.{with_here, with_other}
use Rattle.stack_walk_laws.proofs.Quietly.{no_second}
use Rattle.stack_walk_laws.specs.Spots.{spot_at}
use Rattle.stack_walk_laws.proofs.Spots.{spot_number, spot_ops, spot_place, steps_count}
use Rattle.stack_core.specs.Courses.{Course, FollowsBy}
use Rattle.stack_walk_laws.specs.Moved.{route_to, why_of}
use Rattle.stack_walk_laws.specs.Settled.{MappedBack, ReadSettled, Settled}
use Rattle.stack_walk_laws.specs.Settling.{IsWhole}
use Rattle.stack_walk_laws.specs.Sheets.{io_at, op_in}
use Rattle.stack_walk_laws.proofs.BlockParts.{owner_of, settled_of}
use Rattle.stack_core.proofs.Courses.{settled_by}
use Rattle.stack_core.proofs.FollowsMove.{frames_of}
use Rattle.stack_core.proofs.InCells.{is-bare, is-mapped-back, is-settle}
use Rattle.stack_core.proofs.Spotted.{Stands, block_is, count_is, parts_there}

-- what the moves that settle a block leave and tell
pub record Leaves (acts : List (Act ActAnswer)) (fate : Fate) (now : State) (new : List (List ℕ)) (result : Fate) : Type 0 where
  pub bytes : flat new ≡ (plain act acts now).bytes
  pub blocks : (plain act acts now).blocks ≡ now.blocks
  pub came : why_of result ≡ first_why (why_of fate) (get_or (plain_tells act tell acts now) 0 silent).why

no_host : (b : Bool) → HasHost b None → b ≡ false
no_host true h = absurd h
no_host false h = refl

has_host : (b : Bool) (pi : Payload) → HasHost b (Some pi) → b ≡ true
has_host true pi h = refl
has_host false pi h = absurd h

module _ (m : Setting) (io : Io) (old : List (List ℕ)) (w : AreWhole old) (whole : IsWhole old io) (host : HasHost m.mode.dix io.pi) (k : ℕ) (there : k < io.count) (label : Label) (dev lba : ℕ) (now : State) (same : now.bytes ≡ flat old) (cell : ℕ) (fate : Fate) (touched : fate ≡ Untouched → ⊥) (new : List (List ℕ)) (result : Fate) where
  abbrev r : Route
  r = route_to label dev m.ty m.mode io k lba

  read_leaves : get_or now.fates cell None ≡ why_of fate → ReadSettled m.mode (host_type m.ty) io k lba fate old new result → Leaves (settle r (owner_of io.pi) (data_cells io k ++ tuple_cells io.pi k) cell ∷ []) fate now new result
  read_leaves found s = by io.pi refl
    where
      by : (o : Option Payload) → io.pi ≡ o → Leaves (settle r (owner_of io.pi) (data_cells io k ++ tuple_cells io.pi k) cell ∷ []) fate now new result
      by None q =
          let d = no_host m.mode.dix (subst (λ o. HasHost m.mode.dix o) q host) in
          let x = is-bare old io k q w whole.lies there label dev m.ty m.mode lba d (owner_of None) fate cell new result now touched same found s in
          let e : data_cells io k ++ [] ≡ data_cells io k = append-nil (data_cells io k) in
          subst (λ o. Leaves (settle r (owner_of o) (data_cells io k ++ tuple_cells o k) cell ∷ []) fate now new result) (sym q)
          (subst (λ at. Leaves (settle r (owner_of None) at cell ∷ []) fate now new result) (sym e) (record { bytes = x.bytes; blocks = refl; came = x.came }))
      by (Some pi) q =
          let d = has_host m.mode.dix pi (subst (λ o. HasHost m.mode.dix o) q host) in
          let x = is-settle old io pi k (frames_of old io pi w whole q) there label dev m.ty m.mode lba d fate cell new result now touched same found s in
          subst (λ o. Leaves (settle r (owner_of o) (data_cells io k ++ tuple_cells o k) cell ∷ []) fate now new result) (sym q) (record { bytes = x.bytes; blocks = refl; came = x.came })

  write_leaves : MappedBack io.pi (host_type m.ty) k lba old new → result ≡ fate → Leaves (settled_of WriteDir io.pi r (data_cells io k) k cell) fate now new result
  write_leaves b e = by io.pi refl
    where
      by : (o : Option Payload) → io.pi ≡ o → Leaves (settled_of WriteDir io.pi r (data_cells io k) k cell) fate now new result
      by None q =
          let s = subst (λ o. MappedBack o (host_type m.ty) k lba old new) q b in
          subst (λ o. Leaves (settled_of WriteDir o r (data_cells io k) k cell) fate now new result) (sym q) (record { bytes = ap flat s ∙ sym same; blocks = refl; came = ap why_of e ∙ sym (no_second (why_of fate)) })
      by (Some pi) q =
          let x = is-mapped-back old new io pi (frames_of old io pi w whole q) dev m.ty m.mode now same label k lba there b in
          subst (λ o. Leaves (settled_of WriteDir o r (data_cells io k) k cell) fate now new result) (sym q) (record { bytes = x; blocks = refl; came = ap why_of e ∙ sym (no_second (why_of fate)) })

  pub leaves : (io.dir ≡ Read → get_or now.fates cell None ≡ why_of fate) → Settled io.dir m.mode (host_type m.ty) io k lba fate old new result → Leaves (settled_of io.dir io.pi r (data_cells io k) k cell) fate now new result
  leaves found s = by io.dir refl
    where
      by : (d : Dir) → io.dir ≡ d → Leaves (settled_of io.dir io.pi r (data_cells io k) k cell) fate now new result
      by Read e = subst (λ d. Leaves (settled_of d io.pi r (data_cells io k) k cell) fate now new result) (sym e) (read_leaves (found e) (subst (λ d. Settled d m.mode (host_type m.ty) io k lba fate old new result) e s))
      by WriteDir e = let t = subst (λ d. Settled d m.mode (host_type m.ty) io k lba fate old new result) e s in subst (λ d. Leaves (settled_of d io.pi r (data_cells io k) k cell) fate now new result) (sym e) (write_leaves t.0 t.1)

-- ---- the block of a script

-- the stack follows with this block settled
pub record IsOn (course : Course) (m : Setting) (n : ℕ) (ops : List Op) (opening : State) (es : List Sent) (status : ℕ → ℕ → Status) (new : List (List ℕ)) (blocks : List (List ℕ)) : Type 0 where
  pub after : State
  pub bytes : after.bytes ≡ flat new
  pub same_blocks : after.blocks ≡ blocks
  pub follows : FollowsBy course m n ops opening status after es

module _ (course : Course) (m : Setting) (n : ℕ) (opening : State) (es : List Sent) (p : Plan) (ops : List Op) (ios : List Io) (old : List (List ℕ)) (g : Stands m n (length opening.logs) p ops ios old) (w : AreWhole old) (now : State) (same : now.bytes ≡ flat old) (status : ℕ → ℕ → Status)
    (h : FollowsBy course m n ops opening status now es) (i k : ℕ) (l : i < length ops) (li : i < length ios) (there : k < (io_at ios i).count) (may : MayMove m n status (spot_at m ops i k)) where
  abbrev io : Io
  io = io_at ios i

  abbrev s : BlockSpot
  s = spot_at m ops i k

  abbrev cell : ℕ
  cell = fates (take i ops) + k

  pub block_settled : (lba : ℕ) (fate : Fate) (new : List (List ℕ)) (result : Fate) → (fate ≡ Untouched → ⊥) → (route m (block_of (suc i) io.first k)).lba ≡ lba → (io.dir ≡ Read → get_or now.fates cell None ≡ why_of fate) → status (suc i) k ≡ Carried (why_of fate) →
      Settled io.dir m.mode (host_type m.ty) io k lba fate old new result → IsOn course m n ops opening es (with_status (suc i) k (IsSettled (why_of result)) status) new now.blocks
  block_settled lba fate new result touched at found was done =
      let c = count_is m n (length opening.logs) p ops ios old g i l in
      let z = steps_count m (suc i) (op_in ops i) (omega arith) in
      let num = spot_number m ops i k l in
      let plc = spot_place m ops i k (omega arith) in
      let size = g.size i (omega arith) in
      let dev = (route m (block_of (suc i) io.first k)).dev in
      let label = (route m (block_of (suc i) io.first k)).label in
      let r = route_to label dev m.ty m.mode io k lba in
      let route_is : route m (block_of (suc i) io.first k) ≡ r = ap (λ x. record (route m (block_of (suc i) io.first k)) { lba = x }) at ∙ ap (λ x. record (route m (block_of (suc i) io.first k)) { lba = lba; size = x }) (sym size) in
      let acts = (parts_at m n s).settled in
      let acts_are : acts ≡ settled_of io.dir io.pi r (data_cells io k) k cell
      = ap (λ (x : StepParts). x.settled) (parts_there m n (length opening.logs) p ops ios old g i l k there) ∙ ((block_is m n (length opening.logs) p ops ios old g i l k there).settled ∙ ap (λ x. settled_of io.dir io.pi x (data_cells io k) k cell) route_is) in
      let x = subst (λ a. Leaves a fate now new result) (sym acts_are) (leaves m io old w (g.whole i li) (g.host i (omega arith)) k there label dev lba now same cell fate touched new result found done) in
      let next = with_status (suc i) k (IsSettled (why_of result)) status in
      let e : status (number s) (place s) ≡ Carried (why_of fate) = ap (λ a. status a (place s)) num ∙ (ap (status (suc i)) plc ∙ was) in
      let becomes : Becomes (number s) (place s) (IsSettled (first_why (why_of fate) (get_or (plain_tells act tell acts now) 0 silent).why)) status next
      = record { here = with_here (suc i) k (number s) (place s) (IsSettled (why_of result)) status num plc ∙ ap IsSettled x.came; elsewhere = λ j q f. with_other (suc i) k j q (IsSettled (why_of result)) status (λ a b. f (a ∙ sym num) (b ∙ sym plc)) } in
      let mine = subst (λ o. FollowsBy course m n o opening status now es) (sym (spot_ops m ops i k l)) h in
      let moved = settled_by course m n s opening now status next es (why_of fate) may e mine becomes in
      record {
        after = moved.after;
        bytes = moved.bytes_are ∙ sym x.bytes;
        same_blocks = moved.blocks_are ∙ x.blocks;
        follows = subst (λ o. FollowsBy course m n o opening next moved.after es) (spot_ops m ops i k l) moved.follows;
      }

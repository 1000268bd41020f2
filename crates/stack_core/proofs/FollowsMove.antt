-- A request is admitted, or a piece of it is cut: the stack follows on.
use Rattle.std.proofs.Common.{◌≡◌, ◌<◌, ◌≤◌, ℕ, zero, suc, ◌+◌, List, [], ◌∷◌, ◌++◌, length, Option, Some, None, refl, sym, ap, subst, ◌∙◌, arith}
use Rattle.page_pool.specs.Cells.{flat}
use Rattle.page_pool.specs.Pages.{AreWhole}
use Rattle.pi_guard.specs.declared.GuardKind.{GuardKind}
use Rattle.pi_tuple.specs.declared.checks.PiType.{PiType}
use Rattle.integrity_payload.specs.declared.payload.Owner.{Owner}
use Rattle.integrity_payload.specs.declared.payload.Owner.TheVariants.{Block as OfBlock, App as OfApp}
use Rattle.integrity_payload.specs.declared.payload.Payload.{Payload}
use Rattle.fault_schedule.specs.declared.Label.{Label}
use Rattle.bio_core.specs.declared.request.Dir.{Dir}
use Rattle.bio_core.specs.declared.request.Dir.TheVariants.{Read, Write as WriteDir}
use Rattle.bio_core.specs.declared.request.Io.{Io}
use Rattle.dix_adapter.specs.Groups.{data_cells}
use Rattle.stack_ops.specs.declared.op.Op.{Op}
use Rattle.stack_laws.specs.Plan.{Plan}
use Rattle.block_path.specs.declared.route.Route.{Route}
use Rattle.block_path.specs.Acts.{Act, State, act}
use Rattle.block_path.specs.Blocks.{ActAnswer}
use Rattle.block_path.specs.Moves.{make_tuple, map_out}
use Rattle.block_path.specs.Routes.{host_type}
use Rattle.block_path.specs.Serial.{plain}
use Rattle.block_path.proofs.InTurn.{plain_append}
use Rattle.stack_walk_laws.specs.Passed.{Setting, block_of, route}
use Rattle.stack_walk_laws.specs.Pieces.{all_cut, all_made}
use Rattle.stack_walk_laws.specs.Spots.{spots_from}
use Rattle.stack_core.specs.Done.{MadeBy, WriteMade, WriteMapped}
use Rattle.stack_walk_laws.specs.Moved.{HasFrames, makes, maps_out, route_to, tuple_at}
use Rattle.stack_walk_laws.specs.Settling.{IsWhole}
use Rattle.stack_walk_laws.specs.Sheets.{io_at}
use Rattle.stack_walk_laws.proofs.BlockParts.{cut_of, made_by, made_of}
use Rattle.stack_core.proofs.InCells.{are-made, are-mapped}
use Rattle.stack_core.proofs.Spotted.{Stands, all_cut_are, all_made_are, turns, turns_none, turns_one}

-- a whole request's tuples have frames with its data
pub frames_of : (pool : List (List ℕ)) (io : Io) (pi : Payload) → AreWhole pool → IsWhole pool io → io.pi ≡ Some pi → HasFrames pool io pi
frames_of pool io pi w h e =
    let t = h.tuples pi e in
    let c = t.count in
    let l = t.payload.long in
    record { is = e; seed = t.seed; count = c; long = omega arith; whole = w; lies = h.lies; lie = t.lie; once = t.once; apart = t.apart }

turns_same : (f g : ℕ → List (Act ActAnswer)) (k n : ℕ) → ((j : ℕ) → f j ≡ g j) → turns f k n ≡ turns g k n
turns_same f g k zero h = refl
turns_same f g k (suc n) h = ap (λ x. x ++ turns f (suc k) n) (h k) ∙ ap (λ x. g k ++ x) (turns_same f g (suc k) n h)

turns_blocks : (f : ℕ → List (Act ActAnswer)) (k n : ℕ) (s : State) → ((j : ℕ) (t : State) → (plain act (f j) t).blocks ≡ t.blocks) → (plain act (turns f k n) s).blocks ≡ s.blocks
turns_blocks f k zero s h = refl
turns_blocks f k (suc n) s h = ap (λ (x : State). x.blocks) (plain_append act (f k) (turns f (suc k) n) s) ∙ (turns_blocks f (suc k) n (plain act (f k) s) h ∙ h k s)

made_blocks : (dir : Dir) (o : Option Payload) (r : Route) (body : List ℕ) (k : ℕ) (s : State) → (plain act (made_of dir o r body k) s).blocks ≡ s.blocks
made_blocks Read o r body k s = refl
made_blocks WriteDir None r body k s = refl
made_blocks WriteDir (Some pi) r body k s = by pi.owner
  where
    by : (owner : Owner) → (plain act (made_by owner r pi.app body (tuple_at pi k)) s).blocks ≡ s.blocks
    by OfBlock = refl
    by OfApp = refl

cut_blocks : (dir : Dir) (o : Option Payload) (r : Route) (k : ℕ) (s : State) → (plain act (cut_of dir o r k) s).blocks ≡ s.blocks
cut_blocks Read o r k s = refl
cut_blocks WriteDir None r k s = refl
cut_blocks WriteDir (Some pi) r k s = refl

module _ (m : Setting) (n logs : ℕ) (p : Plan) (ops : List Op) (ios : List Io) (old : List (List ℕ)) (g : Stands m n logs p ops ios old) (i : ℕ) (l : i < length ops) (li : i < length ios) (w : AreWhole old) (now : State) (same : now.bytes ≡ flat old) where
  abbrev io : Io
  io = io_at ios i

  abbrev route_at : ℕ → Route
  route_at k = route m (block_of (suc i) io.first k)

  whole : IsWhole old io
  whole = g.whole i li

  -- the pages after no move
  nothing : (acts : List (Act ActAnswer)) (new : List (List ℕ)) → acts ≡ [] → new ≡ old → flat new ≡ (plain act acts now).bytes
  nothing acts new e f = ap flat f ∙ (sym same ∙ sym (ap (λ x. (plain act x now).bytes) e))

  abbrev label : ℕ → Label
  label k = record { op = suc i; k = k }

  -- ---- admitted

  abbrev made : List (Act ActAnswer)
  made = all_made m n (spots_from m ops i 0 io.count)

  made_are : made ≡ turns (λ j. made_of io.dir io.pi (route_at j) (data_cells io j) j) 0 io.count
  made_are = all_made_are m n logs p ops ios old g i l 0 io.count (omega arith)

  pub made_pages : (new : List (List ℕ)) (kind : GuardKind) (ty : PiType) → kind ≡ m.mode.kind → ty ≡ host_type m.ty → WriteMade io.dir io.pi kind ty io.body old new → flat new ≡ (plain act made now).bytes
  made_pages new kind ty e f h = by io.dir refl io.pi refl
    where
      given : WriteMade io.dir io.pi m.mode.kind (host_type m.ty) io.body old new
      given = subst (λ (x : GuardKind). WriteMade io.dir io.pi x (host_type m.ty) io.body old new) e (subst (λ (x : PiType). WriteMade io.dir io.pi kind x io.body old new) f h)

      by_owner : (pi : Payload) → io.dir ≡ WriteDir → io.pi ≡ Some pi → (o : Owner) → pi.owner ≡ o → flat new ≡ (plain act made now).bytes
      by_owner pi d q OfBlock b =
          let fr = frames_of old io pi w whole q in
          let c : pi.count ≡ io.count = fr.count in
          let x = are-made old new io pi fr 0 m.ty m.mode now same label d b given in
          let y : made ≡ makes label 0 m.ty m.mode io pi io.count
          = made_are
          ∙ (turns_same (λ j. made_of io.dir io.pi (route_at j) (data_cells io j) j) (λ j. make_tuple (route_at j) pi.app (data_cells io j) (tuple_at pi j) ∷ []) 0 io.count
          (λ j. ap (λ z. made_of z io.pi (route_at j) (data_cells io j) j) d ∙ (ap (λ z. made_of WriteDir z (route_at j) (data_cells io j) j) q ∙ ap (λ z. made_by z (route_at j) pi.app (data_cells io j) (tuple_at pi j)) b))
          ∙ turns_one (λ j. make_tuple (route_at j) pi.app (data_cells io j) (tuple_at pi j)) (λ j. make_tuple (route_to (label j) 0 m.ty m.mode io j 0) pi.app (data_cells io j) (tuple_at pi j)) 0 io.count
          (λ j a. (let z : 0 + j ≡ j = omega arith in ap (λ t. make_tuple (route_at t) pi.app (data_cells io t) (tuple_at pi t)) z))) in
          x ∙ (ap (λ t. (plain act (makes label 0 m.ty m.mode io pi t) now).bytes) c ∙ sym (ap (λ t. (plain act t now).bytes) y))
      by_owner pi d q OfApp b =
          let a : MadeBy OfApp pi m.mode.kind (host_type m.ty) io.body old new = subst (λ o. MadeBy o pi m.mode.kind (host_type m.ty) io.body old new) b (subst (λ o. WriteMade WriteDir o m.mode.kind (host_type m.ty) io.body old new) q (subst (λ x. WriteMade x io.pi m.mode.kind (host_type m.ty) io.body old new) d given)) in
          nothing made new
          (made_are
          ∙ turns_none (λ j. made_of io.dir io.pi (route_at j) (data_cells io j) j) 0 io.count
          (λ j. ap (λ z. made_of z io.pi (route_at j) (data_cells io j) j) d ∙ (ap (λ z. made_of WriteDir z (route_at j) (data_cells io j) j) q ∙ ap (λ z. made_by z (route_at j) pi.app (data_cells io j) (tuple_at pi j)) b)))
          a

      by : (dir : Dir) → io.dir ≡ dir → (o : Option Payload) → io.pi ≡ o → flat new ≡ (plain act made now).bytes
      by Read d o q =
          nothing made new (made_are ∙ turns_none (λ j. made_of io.dir io.pi (route_at j) (data_cells io j) j) 0 io.count (λ j. ap (λ z. made_of z io.pi (route_at j) (data_cells io j) j) d))
          (subst (λ x. WriteMade x io.pi m.mode.kind (host_type m.ty) io.body old new) d given)
      by WriteDir d None q =
          nothing made new
          (made_are ∙ turns_none (λ j. made_of io.dir io.pi (route_at j) (data_cells io j) j) 0 io.count (λ j. ap (λ z. made_of z io.pi (route_at j) (data_cells io j) j) d ∙ ap (λ z. made_of WriteDir z (route_at j) (data_cells io j) j) q))
          (subst (λ o. WriteMade WriteDir o m.mode.kind (host_type m.ty) io.body old new) q (subst (λ x. WriteMade x io.pi m.mode.kind (host_type m.ty) io.body old new) d given))
      by WriteDir d (Some pi) q = by_owner pi d q pi.owner refl

  pub made_stays : (plain act made now).blocks ≡ now.blocks
  made_stays = ap (λ x. (plain act x now).blocks) made_are ∙ turns_blocks (λ j. made_of io.dir io.pi (route_at j) (data_cells io j) j) 0 io.count now (λ j t. made_blocks io.dir io.pi (route_at j) (data_cells io j) j t)

  -- ---- cut

  module _ (k c : ℕ) (fit : k + c ≤ io.count) where
    abbrev cut : List (Act ActAnswer)
    cut = all_cut m n (spots_from m ops i k c)

    cut_are : cut ≡ turns (λ j. cut_of io.dir io.pi (route_at j) j) k c
    cut_are = all_cut_are m n logs p ops ios old g i l k c fit

    pub cut_pages : (new : List (List ℕ)) (ty : PiType) (lba : ℕ) → ty ≡ host_type m.ty → ((j : ℕ) → j < c → (route_at (k + j)).lba ≡ lba + j) → WriteMapped io.dir io.pi ty k c lba old new → flat new ≡ (plain act cut now).bytes
    cut_pages new ty lba f at h = by io.dir refl io.pi refl
      where
        given : WriteMapped io.dir io.pi (host_type m.ty) k c lba old new
        given = subst (λ (x : PiType). WriteMapped io.dir io.pi x k c lba old new) f h

        by : (dir : Dir) → io.dir ≡ dir → (o : Option Payload) → io.pi ≡ o → flat new ≡ (plain act cut now).bytes
        by Read d o q =
            nothing cut new (cut_are ∙ turns_none (λ j. cut_of io.dir io.pi (route_at j) j) k c (λ j. ap (λ z. cut_of z io.pi (route_at j) j) d))
            (subst (λ x. WriteMapped x io.pi (host_type m.ty) k c lba old new) d given)
        by WriteDir d None q =
            nothing cut new
            (cut_are ∙ turns_none (λ j. cut_of io.dir io.pi (route_at j) j) k c (λ j. ap (λ z. cut_of z io.pi (route_at j) j) d ∙ ap (λ z. cut_of WriteDir z (route_at j) j) q))
            (subst (λ o. WriteMapped WriteDir o (host_type m.ty) k c lba old new) q (subst (λ x. WriteMapped x io.pi (host_type m.ty) k c lba old new) d given))
        by WriteDir d (Some pi) q =
            let fr = frames_of old io pi w whole q in
            let x = are-mapped old new io pi fr 0 m.ty m.mode now same (λ j. label (k + j)) k c lba fit d given in
            let y : cut ≡ maps_out (λ j. label (k + j)) 0 m.ty m.mode io pi k c lba
            = cut_are
            ∙ (turns_same (λ j. cut_of io.dir io.pi (route_at j) j) (λ j. map_out (route_at j) (tuple_at pi j) ∷ []) k c (λ j. ap (λ z. cut_of z io.pi (route_at j) j) d ∙ ap (λ z. cut_of WriteDir z (route_at j) j) q)
            ∙ turns_one (λ j. map_out (route_at j) (tuple_at pi j)) (λ j. map_out (route_to (label (k + j)) 0 m.ty m.mode io (k + j) (lba + j)) (tuple_at pi (k + j))) k c
            (λ j a. ap (λ t. map_out (record (route_at (k + j)) { lba = t }) (tuple_at pi (k + j))) (at j a))) in
            x ∙ sym (ap (λ t. (plain act t now).bytes) y)

    pub cut_stays : (plain act cut now).blocks ≡ now.blocks
    cut_stays = ap (λ x. (plain act x now).blocks) cut_are ∙ turns_blocks (λ j. cut_of io.dir io.pi (route_at j) j) k c now (λ j t. cut_blocks io.dir io.pi (route_at j) j t)

-- A write whose blocks the adapter passes is taken whole, and its record has all frames.
use Rattle.std.proofs.Common.{◌≡◌, ℕ, suc, false, List, [], ◌∷◌, length, map, get_or, refl, sym, ap, subst, ◌∙◌}
use Rattle.std.specs.Prelude.{IfOk, pos, Result, Ok, Err}
use Rattle.std.specs.List.{All}
use Rattle.std.proofs.lemmas.Bool.{or_parts}
use Rattle.std.proofs.lemmas.List.{length-map}
use Rattle.page_pool.specs.Cells.{flat}
use Rattle.pi_tuple.specs.declared.checks.Check.{Check}
use Rattle.fault_schedule.specs.Altered.{fails_of, shift_of}
use Rattle.fault_schedule.specs.declared.fault.Crossing.{Crossing}
use Rattle.fault_schedule.specs.declared.fault.Crossing.TheVariants.{AdapterToTarget, MediumToTarget, TargetToMedium}
use Rattle.fault_schedule.specs.declared.fault.FaultLine.{FaultLine}
use Rattle.bio_core.specs.Bios.{Block}
use Rattle.bio_core.specs.declared.request.Io.{Io}
use Rattle.rig_api.specs.Frames.{joined}
use Rattle.rig_api.specs.Passing.{to_medium}
use Rattle.block_path.specs.declared.route.Route.{Route}
use Rattle.block_path.specs.Routes.{by_target, passage, stores_unless, target}
use Rattle.block_path.specs.WayOut.{WayOut, at_device, from_adapter, to_wire}
use Rattle.block_path.proofs.Cells.{gather_length}
use Rattle.dix_adapter.specs.declared.adapter.Adapter.{Adapter}
use Rattle.dix_adapter.specs.Carried.{any_bad, frame_sent, is_bad, sends}
use Rattle.dix_adapter.specs.Groups.{blocks_in, first_of, frame_cells, frame_in, route_of, size}
use Rattle.dix_adapter.specs.Ways.{frames_out, ways_out}
use Rattle.dix_adapter.proofs.Blocks.{length-in}
use Rattle.dix_adapter.proofs.Runs.{Run, group-run}
use Rattle.lab_laws.specs.Passing.{CommandPasses}
use Rattle.lab_laws.proofs.Taken.{block_passes}
use Rattle.small_laws.proofs.Tests.{never}

one_taken : (faults : List FaultLine) (r : Route) (came : Result (List ℕ) Check) (ws : List WayOut) (fs : List (List ℕ)) → fails_of faults r.label ≡ false → is_bad came ≡ false → IfOk came (λ carried. (stored : List ℕ) × (to_medium faults (passage faults r) carried ≡ Ok stored)) → frames_out ws ≡ fs →
    frames_out (from_adapter (target faults) r came ∷ ws) ≡ frame_sent came ∷ fs
one_taken faults r (Ok carried) ws fs served good h rest =
    ap (λ c. frames_out (at_device carried (stores_unless c (by_target (to_medium faults (passage faults r) carried))) ∷ ws)) served
    ∙ ap (λ c. frames_out (at_device carried (by_target c) ∷ ws)) h.1 ∙ ap (λ xs. carried ∷ xs) rest
one_taken faults r (Err check) ws fs served good h rest = never (sym good)

module _ (a : Adapter) (ios : List Io) (cells : List ℕ) (faults : a.tamper ≡ []) (free : a.dix ≡ false → a.mask ≡ 0) where
  all_taken : (dev bytes at : ℕ) (bs : List Block) → Run a ios dev bytes (pos 0) (pos 0) (pos 0) at bs → any_bad (map (sends a ios cells) bs) ≡ false → frames_out (ways_out a ios cells bs) ≡ map frame_sent (map (sends a ios cells) bs)
  all_taken dev bytes at [] run good = refl
  all_taken dev bytes at (b ∷ bs) run good =
      let r = route_of a ios b in
      let f = frame_in ios cells b in
      let o = or_parts (is_bad (sends a ios cells b)) (any_bad (map (sends a ios cells) bs)) good in
      let l = gather_length 0 (frame_cells ios b) cells ∙ run.0.host in
      let passes = subst (λ ts. IfOk (to_wire ts r f) (λ carried. (stored : List ℕ) × (to_medium ts (passage ts r) carried ≡ Ok stored))) (sym faults) (block_passes r f l free) in
      one_taken a.tamper r (sends a ios cells b) (ways_out a ios cells bs) (map frame_sent (map (sends a ios cells) bs)) (ap (λ ts. fails_of ts r.label) faults) o.0 passes (all_taken dev bytes (suc at) bs run.1 o.1)

unshifted : (faults : List FaultLine) (at : Crossing) (op : ℕ) → faults ≡ [] → shift_of faults at op ≡ pos 0
unshifted faults at op none = ap (λ ts. shift_of ts at op) none

pub command_passes : CommandPasses
command_passes a ios req pool bytes us fates old new none free group good w =
    let frames = map frame_sent (map (sends a ios (flat pool)) (blocks_in req)) in
    let still : All (λ b. (shift_of a.tamper AdapterToTarget b.op ≡ pos 0) × (shift_of a.tamper MediumToTarget b.op ≡ pos 0) × (shift_of a.tamper TargetToMedium b.op ≡ pos 0)) req =
    λ i d l. (unshifted a.tamper AdapterToTarget (get_or req i d).op none, unshifted a.tamper MediumToTarget (get_or req i d).op none, unshifted a.tamper TargetToMedium (get_or req i d).op none) in
    let all = all_taken a ios (flat pool) none free (first_of req).dev bytes (first_of req).lba (blocks_in req) (group-run a pool bytes ios req (pos 0) (pos 0) (pos 0) group still) good in
    let many : length frames ≡ size req = length-map (map (sends a ios (flat pool)) (blocks_in req)) frame_sent ∙ length-map (blocks_in req) (sends a ios (flat pool)) ∙ length-in req in
    (w.done ∙ ap length all ∙ many, w.moved ∙ ap joined all)

-- With one flip the ways are those without, but for the frame at its crossing.
use Rattle.std.proofs.Common.{◌≡◌, ◌<◌, ℕ, Bool, List, [], Some, refl, ap, ◌∙◌}
use Rattle.std.specs.Prelude.{Ok}
use Rattle.pi_tuple.specs.declared.checks.PiType.{PiType}
use Rattle.fault_schedule.specs.Altered.{altered}
use Rattle.fault_schedule.specs.declared.fault.Crossing.{Crossing}
use Rattle.fault_schedule.specs.declared.fault.Crossing.TheVariants.{AdapterToHost, AdapterToTarget, HostToAdapter, MediumToTarget, TargetToAdapter, TargetToMedium}
use Rattle.fault_schedule.specs.declared.fault.FaultLine.{FaultLine}
use Rattle.integrity_payload.specs.declared.payload.Owner.{Owner}
use Rattle.rig_api.specs.Passing.{from_medium, then_crossed, to_medium}
use Rattle.block_path.specs.declared.route.Route.{Route}
use Rattle.block_path.specs.Routes.{by_target, passage, target}
use Rattle.block_path.specs.WayIn.{Delivers, at_host, from_device, received, verified}
use Rattle.block_path.specs.WayOut.{at_device, from_adapter, mapped_out, to_wire}
use Rattle.walk_laws.specs.Settings.{Block, Setting}
use Rattle.walk_laws.specs.PlainMap.{MapEntry}
use Rattle.walk_laws.specs.UnderMap.{stored_as}
use Rattle.walk_laws.proofs.CalmWays.{IsProper, here, quiet, wire}
use Rattle.mode_map.specs.Finders.{flip_of}
use Rattle.mode_map.specs.Failures.{Comes, read_comes, read_end, write_comes, write_end}
use Rattle.mode_map.proofs.Finding.{Unescaped, clean-in, clean-out, held, kept, medium-apart, onto-target, rest-in, rest-out, sends-clean, to-target-apart, way, wire-apart}
use Rattle.mode_map.proofs.Flips.{altered-there, crossed-there, label_of}
use Rattle.mode_map.proofs.Stages.{from-wire, to-wire}

module _ (m : Setting) (b : Block) (protect : 0 < m.mode.protect) (mask : m.mode.mask ≡ 0) (off : ℕ) (bytes : List ℕ) (owner : Owner) where
  abbrev fl : Crossing → List FaultLine
  fl at = flip_of b at off bytes

  abbrev pub after : Crossing → List ℕ → List ℕ
  after at frame = altered (fl at) at (label_of b) frame

  abbrev road : Bool → Bool → PiType → Route
  road dix dif ty = way m b protect mask dix dif ty

  pub cut-host : (dix dif : Bool) (ty : PiType) (e : MapEntry) (next : List ℕ → Comes) →
      write_comes (quiet m dix dif ty) b (fl HostToAdapter) e next ≡ write_end (from_adapter (target []) (road dix dif ty) (to_wire [] (road dix dif ty) (after HostToAdapter (mapped_out (road dix dif ty) (held m b protect mask dix ty e))))) next
  cut-host dix dif ty e next =
      let r = road dix dif ty in
      let f = mapped_out r (held m b protect mask dix ty e) in
      ap (λ x. write_end (from_adapter (target (fl HostToAdapter)) r x) next) (to-wire (fl HostToAdapter) r f)
      ∙ ap (λ w. write_end w next) (rest-out m b protect mask off bytes owner dix dif ty (to_wire [] r (after HostToAdapter f)))

  pub cut-wire : (dix dif : Bool) (ty : PiType) (e : MapEntry) (next : List ℕ → Comes) → IsProper m e → Unescaped ty e →
      write_comes (quiet m dix dif ty) b (fl AdapterToTarget) e next
      ≡ write_end (at_device (wire (quiet m dix dif ty) b (kept m b protect mask dix dif ty e)) (by_target (to_medium [] (passage [] (road dix dif ty)) (after AdapterToTarget (wire (quiet m dix dif ty) b (kept m b protect mask dix dif ty e)))))) next
  cut-wire dix dif ty e next p h =
      let w = wire (quiet m dix dif ty) b (kept m b protect mask dix dif ty e) in
      ap (λ x. write_end x next) (onto-target m b protect mask off bytes owner dix dif ty AdapterToTarget e refl p h ∙ ap (λ v. at_device w (by_target v)) (to-target-apart m b protect mask off bytes owner dix dif ty w))

  pub cut-medium : (dix dif : Bool) (ty : PiType) (e : MapEntry) (next : List ℕ → Comes) → IsProper m e → Unescaped ty e →
      write_comes (quiet m dix dif ty) b (fl TargetToMedium) e next ≡ next (after TargetToMedium (stored_as (quiet m dix dif ty) (here m b protect) (kept m b protect mask dix dif ty e)))
  cut-medium dix dif ty e next p h =
      let w = wire (quiet m dix dif ty) b (kept m b protect mask dix dif ty e) in
      ap (λ x. write_end x next) (onto-target m b protect mask off bytes owner dix dif ty TargetToMedium e refl p h)
      ∙ ap (λ v. write_end (at_device w (by_target v)) next)
      (medium-apart m b protect mask off bytes owner dix dif ty TargetToMedium w
      ∙ ap (λ f. then_crossed (fl TargetToMedium) (Some (label_of b)) TargetToMedium (to_medium [] (passage [] (road dix dif ty)) f)) (altered-there b TargetToMedium AdapterToTarget off bytes w refl)
      ∙ ap (then_crossed (fl TargetToMedium) (Some (label_of b)) TargetToMedium) (clean-out m b protect mask dix dif ty e p h).stores)

  pub cut-fetch : (dix dif : Bool) (ty : PiType) (s : List ℕ) → read_comes (quiet m dix dif ty) b owner (fl MediumToTarget) s ≡ read_comes (quiet m dix dif ty) b owner [] (after MediumToTarget s)
  cut-fetch dix dif ty s =
      ap (λ v. read_end (quiet m dix dif ty) (verified (road dix dif ty) owner v))
      (ap (λ v. from_device (fl MediumToTarget) (road dix dif ty) (by_target v)) (wire-apart m b protect mask off bytes owner dix dif ty MediumToTarget s ∙ crossed-there b MediumToTarget TargetToAdapter off bytes _ refl)
      ∙ rest-in m b protect mask off bytes owner dix dif ty MediumToTarget (from_medium [] (passage [] (road dix dif ty)) (after MediumToTarget s)) refl)

  pub cut-answer : (dix dif : Bool) (ty : PiType) (e : MapEntry) → IsProper m e → read_comes (quiet m dix dif ty) b owner (fl TargetToAdapter) (stored_as (quiet m dix dif ty) (here m b protect) e)
      ≡ read_end (quiet m dix dif ty) (verified (road dix dif ty) owner (from_device [] (road dix dif ty) (Ok (after TargetToAdapter (wire (quiet m dix dif ty) b e)))))
  cut-answer dix dif ty e p =
      ap (λ v. read_end (quiet m dix dif ty) (verified (road dix dif ty) owner v))
      (ap (λ v. from_device (fl TargetToAdapter) (road dix dif ty) (by_target v)) (sends-clean m b protect mask off bytes owner dix dif ty TargetToAdapter e p refl)
      ∙ rest-in m b protect mask off bytes owner dix dif ty TargetToAdapter (then_crossed (fl TargetToAdapter) (Some (label_of b)) TargetToAdapter (Ok (wire (quiet m dix dif ty) b e))) refl)

  pub cut-hand : (dix dif : Bool) (ty : PiType) (e : MapEntry) → IsProper m e → read_comes (quiet m dix dif ty) b owner (fl AdapterToHost) (stored_as (quiet m dix dif ty) (here m b protect) e)
      ≡ read_end (quiet m dix dif ty) (verified (road dix dif ty) owner (Delivers (wire (quiet m dix dif ty) b e) (after AdapterToHost (received (road dix dif ty) (wire (quiet m dix dif ty) b e)))))
  cut-hand dix dif ty e p =
      let w = wire (quiet m dix dif ty) b e in
      ap (λ v. read_end (quiet m dix dif ty) (verified (road dix dif ty) owner (from_device (fl AdapterToHost) (road dix dif ty) (by_target v))))
      (sends-clean m b protect mask off bytes owner dix dif ty AdapterToHost e p refl ∙ crossed-there b AdapterToHost TargetToAdapter off bytes (Ok w) refl)
      ∙ ap (λ v. read_end (quiet m dix dif ty) (verified (road dix dif ty) owner (at_host w v)))
      (from-wire (fl AdapterToHost) (road dix dif ty) w ∙ ap (then_crossed (fl AdapterToHost) (Some (label_of b)) AdapterToHost) (clean-in m b protect mask dix dif ty owner e p).hands)

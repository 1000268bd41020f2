-- What the medium can't store or send ends at the medium.
use Rattle.std.proofs.Common.{◌≡◌, ℕ, true, eqb, List, [], refl, sym, ap, ◌∙◌}
use Rattle.std.specs.Prelude.{Ok}
use Rattle.std.proofs.lemmas.Bool.{eq-eqb}
use Rattle.fault_schedule.specs.Altered.{fails_of}
use Rattle.fault_schedule.specs.declared.fault.Crossing.{Crossing}
use Rattle.fault_schedule.specs.declared.fault.Crossing.TheVariants.{MediumToTarget, TargetToMedium}
use Rattle.fault_schedule.specs.declared.fault.FaultKind.TheVariants.{Fail}
use Rattle.integrity_payload.specs.declared.payload.Owner.{Owner}
use Rattle.bio_core.specs.declared.request.Dir.TheVariants.{Read, Write}
use Rattle.rig_api.specs.Passing.{released}
use Rattle.block_path.specs.Routes.{by_target, passage, sends_unless, stores_unless}
use Rattle.block_path.specs.WayIn.{from_device, verified}
use Rattle.block_path.specs.WayOut.{at_device}
use Rattle.walk_laws.specs.Settings.{Block, Setting, route}
use Rattle.walk_laws.specs.PlainMap.{MapEntry}
use Rattle.walk_laws.proofs.CalmWays.{onto_medium, wire}
use Rattle.mode_map.specs.Finders.{IsCleanBlock, is_served}
use Rattle.mode_map.specs.Failures.{ByMedium, Comes, at_home, fault_of, read_comes, read_end, write_comes, write_end}
use Rattle.mode_map.proofs.Finding.{clean-out, proper, served-some}
use Rattle.mode_map.proofs.Flips.{label_of}
use Rattle.mode_map.proofs.Lines.{entry, reads, writes}

fails : (b : Block) (at : Crossing) → fails_of (fault_of b at Fail) (label_of b) ≡ true
fails b at = let y : eqb b.op b.op ≡ true = eq-eqb b.op b.op refl in let z : eqb b.k b.k ≡ true = eq-eqb b.k b.k refl in rw (y, z) refl

pub unreadable : (m : Setting) (b : Block) (owner : Owner) (stored : List ℕ) → read_comes m b owner (fault_of b MediumToTarget Fail) stored ≡ ByMedium Read
unreadable m b owner stored =
    let p = passage (fault_of b MediumToTarget Fail) (route m b) in
    reads b MediumToTarget Fail (λ i. refl) m owner stored
    ∙ ap (λ c. read_end m (verified (route m b) owner (from_device [] (route m b) (sends_unless c (by_target (released p stored)))))) (fails b MediumToTarget)

pub unstorable : (m : Setting) (b : Block) (e : MapEntry) (next : List ℕ → Comes) → is_served m.mode.protect ≡ true → IsCleanBlock m e → write_comes m b (fault_of b TargetToMedium Fail) e next ≡ ByMedium Write
unstorable m b e next served c =
    let k = entry b TargetToMedium Fail (λ i. refl) m served e c in
    let w = wire m b k in
    let o = clean-out m b (served-some m.mode.protect served) c.mask m.mode.dix m.mode.dif m.ty e (proper m e c) c.unescaped in
    writes b TargetToMedium Fail (λ i. refl) m served e c next
    ∙ ap (λ x. write_end (at_device w (stores_unless (fails_of (fault_of b TargetToMedium Fail) (label_of b)) (by_target x))) next) (sym (onto_medium (route m b) w) ∙ o.stores)
    ∙ ap (λ x. write_end (at_device w (stores_unless x (by_target (Ok (at_home m b k))))) next) (fails b TargetToMedium)

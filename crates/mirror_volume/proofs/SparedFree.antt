-- In type 1 under protect field 001b, a block that no fault line names is free, and one whose lines are shown is so.
use Rattle.std.proofs.Common.{◌≡◌, ℕ, ◌%◌, true, false, List, [], get_or, sym, ap, subst, ◌∙◌}
use Rattle.std.specs.Prelude.{All, is_some, pos}
use Rattle.std.proofs.lemmas.Bool.{and_parts}
use Rattle.fault_schedule.specs.Altered.{shift_of}
use Rattle.fault_schedule.specs.declared.fault.Crossing.{Crossing}
use Rattle.fault_schedule.specs.declared.fault.Crossing.TheVariants.{MediumToTarget, TargetToMedium}
use Rattle.fault_schedule.specs.declared.fault.FaultLine.{FaultLine}
use Rattle.block_path.specs.Acts.{State}
use Rattle.walk_laws.specs.Detectable.{found}
use Rattle.walk_laws.specs.FirstLayer.{AtTarget, has_flip, is_served, is_stored_whole}
use Rattle.walk_laws.specs.Settings.{Block, Setting}
use Rattle.walk_laws.specs.UnderMap.{home}
use Rattle.run_laws.specs.ShownRun.{IsChecked}
use Rattle.run_laws.proofs.Layers.{checked}
use Rattle.run_laws.proofs.Reading.{checked_form}
use Rattle.run_premises.specs.FormedRun.{IsOfBytes}
use Rattle.run_premises.specs.Forms.{is_shown, kind_at, mask_of}
use Rattle.mirror_laws.specs.OneGood.{IsUnnamed}
use Rattle.mirror_laws.specs.Repair.{reading, writing}
use Rattle.mirror_volume.proofs.Free.{comes, stores}
use Rattle.mirror_volume.proofs.SparedShown.{comes-so, stops-so, stores-so}
use Rattle.mirror_volume.proofs.SparedWrites.{IsFree, IsShown}

pub is-free : (m : Setting) (opening : State) (half : ℕ) (still : (at : Crossing) (op : ℕ) → shift_of m.site.faults at op ≡ pos 0) → IsChecked m → (b : Block) → IsUnnamed m b → is_stored_whole m b ≡ true → IsFree m m.size b
is-free m opening half still is b unnamed all =
    let same : m ≡ checked m = checked_form m is in
    let served : is_served (checked m) b ≡ true = (and_parts (is_served m b) _ all).0 in
    record {
      whole = all;
      stores = λ e whole expected.
          (let x = stores m opening half still b unnamed served e whole expected in
          (x.stored, (ap (λ (z : Setting). writing z b e) same ∙ x.is, x.holds)));
      comes = λ e blocks h.
          (let x = comes m opening half still b unnamed served e blocks h in
          (x.frame, (ap (λ (z : Setting). reading z b blocks) same ∙ x.is, (x.long, x.brought))));
    }

pub is-shown-block : (m : Setting) (opening : State) (half : ℕ) (still : (at : Crossing) (op : ℕ) → shift_of m.site.faults at op ≡ pos 0) → IsChecked m → m.size % 2 ≡ 0 → All (λ (line : FaultLine). IsOfBytes line.kind) m.site.faults
    → (altered : Type 0) (stopped : List ℕ → Type 0) (b : Block) → ((x : List ℕ) → stopped x → is_some (found m b x AtTarget) ≡ true) → ((at : Crossing) → has_flip m b at ≡ true → is_shown m.size (kind_at m.mode.kind at) (mask_of m.size m.site.faults at (record { op = b.op; k = b.k })) ≡ true)
    → (has_flip m b TargetToMedium ≡ true → altered) → (altered → has_flip m b MediumToTarget ≡ false) → is_stored_whole m b ≡ true → IsShown m m.size altered stopped b
is-shown-block m opening half still is even flips altered stopped b finds shown marks apart all =
    let same : m ≡ checked m = checked_form m is in
    let served : is_served (checked m) b ≡ true = (and_parts (is_served m b) _ all).0 in
    record {
      whole = all;
      stores = λ e whole bytes stored q. stores-so m opening half still even flips altered b shown marks apart served e whole bytes stored (sym (ap (λ (z : Setting). writing z b e) same) ∙ q);
      comes = λ e blocks h frame q. comes-so m opening half still even flips altered b shown marks apart served e blocks h frame (sym (ap (λ (z : Setting). reading z b blocks) same) ∙ q);
      stops = λ blocks stopped frame q.
          (let x = get_or blocks (home m b.virt) [] in stops-so m opening half still b served blocks (subst (λ (z : Setting). is_some (found z b (get_or blocks (home z b.virt) []) AtTarget) ≡ true) same (finds x stopped)) frame (sym (ap (λ (z : Setting). reading z b blocks) same) ∙ q));
    }

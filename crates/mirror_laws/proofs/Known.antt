-- What is asked of the steps that a script asks of the legs, list after list; and that it holds where each fault of the steps can be shown.
use Rattle.std.proofs.Common.{◌≡◌, ℕ, Bool, true, false, ◌&&◌, not, List, [], ◌∷◌, ◌++◌, get_or, map, refl}
use Rattle.std.proofs.lemmas.Bool.{and_from, and_parts, not_from_false}
use Rattle.page_pool.specs.Cells.{gather}
use Rattle.fault_schedule.specs.Altered.{keep_of}
use Rattle.fault_schedule.specs.declared.fault.Crossing.TheVariants.{TargetToMedium}
use Rattle.block_path.specs.Acts.{State, act}
use Rattle.block_path.specs.Blocks.{fetched_cell, own_frame}
use Rattle.block_path.specs.Serial.{plain}
use Rattle.walk_laws.specs.Detectable.{accounted, detectable, shows_in, shows_out, step_accounts, step_shows}
use Rattle.walk_laws.specs.FirstLayer.{has_shift, is_all, is_served, is_stored_whole, loses}
use Rattle.walk_laws.specs.ScriptWalk.{act_of}
use Rattle.walk_laws.specs.Settings.{Block, Setting, route}
use Rattle.walk_laws.specs.Steps.{Alters, Reads, Seals, Sets, Shows, Step, Writes, WritesPi}
use Rattle.walk_laws.specs.UnderMap.{NoneEscapes}
use Rattle.run_laws.proofs.Along.{accounts, whole_so}
use Rattle.mirror_laws.specs.OneGood.{AllServe, Serves, loses_none, step_loses, stores_all}

-- what holds of these steps, of which a virtual block is served
pub record AreKnown (m : Setting) (virt : ℕ) (steps : List Step) (s : State) : Type 0 where
  pub escapes : NoneEscapes m steps s
  pub accounted : accounted m steps s ≡ true
  pub kept : loses_none m steps ≡ true
  pub serves : AllServe m virt steps

module _ (m : Setting) (virt : ℕ) where
  pub head_known : (x : Step) (xs : List Step) (s : State) → AreKnown m virt (x ∷ xs) s → AreKnown m virt (x ∷ []) s
  head_known x xs s h =
      let p = and_parts (step_accounts m x s) (accounted m xs (act (act_of m x) s)) h.accounted in
      let q = and_parts (not (step_loses m x)) (loses_none m xs) h.kept in
      record {
        escapes = (h.escapes.0, tt);
        accounted = and_from (step_accounts m x s) true p.0 refl;
        kept = and_from (not (step_loses m x)) true q.0 refl;
        serves = (h.serves.0, tt);
      }

  pub tail_known : (x : Step) (xs : List Step) (s : State) → AreKnown m virt (x ∷ xs) s → AreKnown m virt xs (act (act_of m x) s)
  tail_known x xs s h = record {
    escapes = h.escapes.1;
    accounted = (and_parts (step_accounts m x s) (accounted m xs (act (act_of m x) s)) h.accounted).1;
    kept = (and_parts (not (step_loses m x)) (loses_none m xs) h.kept).1;
    serves = h.serves.1;
  }

  joined : (x : Step) (xs : List Step) (s : State) → AreKnown m virt (x ∷ []) s → AreKnown m virt xs (act (act_of m x) s) → AreKnown m virt (x ∷ xs) s
  joined x xs s h k = record {
    escapes = (h.escapes.0, k.escapes);
    accounted = and_from (step_accounts m x s) (accounted m xs (act (act_of m x) s)) (and_parts (step_accounts m x s) true h.accounted).0 k.accounted;
    kept = and_from (not (step_loses m x)) (loses_none m xs) (and_parts (not (step_loses m x)) true h.kept).0 k.kept;
    serves = (h.serves.0, k.serves);
  }

  none_known : (s : State) → AreKnown m virt [] s
  none_known s = record { escapes = tt; accounted = refl; kept = refl; serves = tt }

  pub first_known : (xs ys : List Step) (s : State) → AreKnown m virt (xs ++ ys) s → AreKnown m virt xs s
  first_known [] ys s h = none_known s
  first_known (x ∷ xs) ys s h = joined x xs s (head_known x (xs ++ ys) s h) (first_known xs ys (act (act_of m x) s) (tail_known x (xs ++ ys) s h))

  pub then_known : (xs ys : List Step) (s : State) → AreKnown m virt (xs ++ ys) s → AreKnown m virt ys (plain act (map (act_of m) xs) s)
  then_known [] ys s h = h
  then_known (x ∷ xs) ys s h = then_known xs ys (act (act_of m x) s) (tail_known x (xs ++ ys) s h)

-- ---- where each fault can be shown

module _ (m : Setting) where
  pub all_accounted : (steps : List Step) (s : State) → detectable m steps s ≡ true → accounted m steps s ≡ true
  all_accounted [] s h = refl
  all_accounted (step ∷ steps) s h =
      let next = act (act_of m step) s in
      let p = and_parts (step_shows m step s) (detectable m steps next) h in
      and_from (step_accounts m step s) (accounted m steps next) (accounts m step s p.0) (all_accounted steps next p.1)

  kept_whole : (b : Block) (out : Bool) → (is_stored_whole m b && out) ≡ true → loses m b ≡ false
  kept_whole b out h = (whole_so m b (and_parts (is_stored_whole m b) out h).0).kept

  step_keeps : (step : Step) (s : State) → step_shows m step s ≡ true → step_loses m step ≡ false
  step_keeps (Sets at values) s h = refl
  step_keeps (Shows at) s h = refl
  step_keeps (Seals body tuple app rtag) s h = refl
  step_keeps (Writes b app body) s h = kept_whole b (shows_out m b (own_frame (route m b) app (gather 0 body s.bytes))) h
  step_keeps (WritesPi b frame) s h = kept_whole b (shows_out m b (gather 0 frame s.bytes)) h
  step_keeps (Reads b owner to) s h = refl
  step_keeps (Alters dev lba change) s h = refl

  pub all_kept : (steps : List Step) (s : State) → detectable m steps s ≡ true → loses_none m steps ≡ true
  all_kept [] s h = refl
  all_kept (step ∷ steps) s h =
      let next = act (act_of m step) s in
      let p = and_parts (step_shows m step s) (detectable m steps next) h in
      and_from (not (step_loses m step)) (loses_none m steps) (not_from_false (step_loses m step) (step_keeps step s p.0)) (all_kept steps next p.1)

  all_stored : (b : Block) (out : Bool) → (is_stored_whole m b && out) ≡ true → stores_all m b ≡ true
  all_stored b out h =
      let all = is_all (keep_of m.site.faults (route m b).label) in
      let p = and_parts (is_served m b) (all && not (has_shift m b TargetToMedium)) (and_parts (is_stored_whole m b) out h).0 in
      and_from (is_served m b) all p.0 (and_parts all (not (has_shift m b TargetToMedium)) p.1).0

  step_serves : (virt : ℕ) (step : Step) (s : State) → step_shows m step s ≡ true → Serves m virt step
  step_serves virt (Sets at values) s h = tt
  step_serves virt (Shows at) s h = tt
  step_serves virt (Seals body tuple app rtag) s h = tt
  step_serves virt (Writes b app body) s h = λ _. all_stored b (shows_out m b (own_frame (route m b) app (gather 0 body s.bytes))) h
  step_serves virt (WritesPi b frame) s h = λ _. all_stored b (shows_out m b (gather 0 frame s.bytes)) h
  step_serves virt (Reads b owner to) s h = λ _. (and_parts (is_served m b) (shows_in m b (get_or s.blocks (fetched_cell m.site (route m b)) [])) h).0
  step_serves virt (Alters dev lba change) s h = tt

  pub all_serve : (virt : ℕ) (steps : List Step) (s : State) → detectable m steps s ≡ true → AllServe m virt steps
  all_serve virt [] s h = tt
  all_serve virt (step ∷ steps) s h =
      let next = act (act_of m step) s in
      let p = and_parts (step_shows m step s) (detectable m steps next) h in
      (step_serves virt step s p.0, all_serve virt steps next p.1)

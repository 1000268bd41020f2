-- Along steps whose faults have a form, whatever names their blocks: each fault is shown.
use Rattle.std.proofs.Common.{◌≡◌, ℕ, ◌%◌, Bool, true, false, eqb, ◌&&◌, not, List, [], ◌∷◌, get_or, refl, ap}
use Rattle.std.specs.Prelude.{All, nat_abs}
use Rattle.std.specs.List.{list_all}
use Rattle.std.proofs.lemmas.Bool.{and_from, and_parts}
use Rattle.page_pool.specs.Cells.{gather}
use Rattle.fault_schedule.specs.Altered.{keep_of}
use Rattle.fault_schedule.specs.declared.fault.Crossing.TheVariants.{AdapterToTarget, HostToAdapter, MediumToTarget, TargetToMedium}
use Rattle.fault_schedule.specs.declared.fault.FaultLine.{FaultLine}
use Rattle.stack_ops.specs.declared.op.Op.{Op}
use Rattle.volume_table.specs.Places.{volume_len}
use Rattle.block_path.specs.Acts.{State, act}
use Rattle.block_path.specs.Blocks.{fetched_cell, own_frame}
use Rattle.block_path.proofs.Cells.{AllBelow}
use Rattle.walk_laws.specs.FirstLayer.{keeps_part}
use Rattle.run_laws.specs.Passed.{LiesInImage, accounted, detectable, shows_in, shows_out, step_accounts, step_shows, has_flip, has_shift, is_all, is_misdirected, is_served, is_stored_whole, tears, act_of, Block, Setting, route, Alters, Reads, Seals, Sets, Shows, Step, Writes, WritesPi, AreClean, NoneEscapes}
use Rattle.run_laws.proofs.Layers.{checked, must}
use Rattle.run_premises.specs.Forms.{is_good_line}
use Rattle.run_premises.specs.FormedRun.{IsOfBytes}
use Rattle.run_premises.proofs.Accounts.{AllSuit, Holds as HoldsKnown, all_accounted, begins as begins_known}
use Rattle.run_premises.proofs.Lines.{no_fail, no_keep, no_shift}
use Rattle.run_premises.proofs.Ways.{its_lines}

-- where every block is served and stored whole, what is accounted for is shown
module _ (m : Setting) (served : (b : Block) → is_served m b ≡ true) (whole : (b : Block) → is_stored_whole m b ≡ true) where
  step_shown : (step : Step) (s : State) → step_accounts m step s ≡ true → step_shows m step s ≡ true
  step_shown (Sets at values) s h = refl
  step_shown (Shows at) s h = refl
  step_shown (Seals body tuple app rtag) s h = refl
  step_shown (Writes b app body) s h =
      let out = shows_out m b (own_frame (route m b) app (gather 0 body s.bytes)) in
      and_from (is_stored_whole m b) out (whole b) (and_parts out _ h).0
  step_shown (WritesPi b frame) s h =
      let out = shows_out m b (gather 0 frame s.bytes) in
      and_from (is_stored_whole m b) out (whole b) (and_parts out _ h).0
  step_shown (Reads b owner to) s h =
      let comes = shows_in m b (get_or s.blocks (fetched_cell m.site (route m b)) []) in
      and_from (is_served m b) comes (served b) (must (is_served m b) comes h (served b))
  step_shown (Alters dev lba change) s h = h

  shown_whole : (steps : List Step) (s : State) → accounted m steps s ≡ true → detectable m steps s ≡ true
  shown_whole [] s h = refl
  shown_whole (step ∷ steps) s h =
      let next = act (act_of m step) s in
      let p = and_parts (step_accounts m step s) (accounted m steps next) h in
      and_from (step_shows m step s) (detectable m steps next) (step_shown step s p.0) (shown_whole steps next p.1)

-- The lines are good for these ops, by which the ways of a block are known; no line alters what is stored of a named block where none does so of its virtual block, nor where one alters it on its way back, nor a block whose tuple an application brings.
module _ (m' : Setting) (ops : List Op) (even : m'.size % 2 ≡ 0) (flips : All (λ (line : FaultLine). IsOfBytes line.kind) m'.site.faults)
    (form : list_all (is_good_line m'.mode.kind m'.size m'.site.faults ops) m'.site.faults ≡ true) (image : List (List ℕ)) (lies : LiesInImage (checked m') (volume_len m'.entries) image)
    (IsNamed Brings : Block → Type 0) (is_altered : ℕ → Bool)
    (kept_there : (b : Block) → IsNamed b → is_altered b.virt ≡ false → has_flip (checked m') b TargetToMedium ≡ false)
    (whole_there : (b : Block) → IsNamed b → has_flip (checked m') b MediumToTarget ≡ true → is_altered b.virt ≡ false)
    (not_mended : (b : Block) → Brings b → has_flip (checked m') b HostToAdapter ≡ true → ⊥) where
  abbrev pub at : Setting
  at = checked m'

  abbrev faults : List FaultLine
  faults = m'.site.faults

  pub unmoved_at : (b : Block) → is_misdirected at b ≡ false
  unmoved_at b = ap (λ z. not (eqb (nat_abs z) 0)) (no_shift m'.mode.kind m'.size faults ops faults form TargetToMedium b.op)

  pub untorn : (b : Block) → tears at b ≡ false
  untorn b = ap keeps_part (no_keep m'.mode.kind m'.size faults ops faults form (route at b).label)

  served_is : (b : Block) → is_served at b ≡ true
  served_is b = ap not (no_fail m'.mode.kind m'.size faults ops faults form (route at b).label)

  whole_is : (b : Block) → is_stored_whole at b ≡ true
  whole_is b =
      and_from (is_served at b) (is_all (keep_of faults (route at b).label) && not (has_shift at b TargetToMedium)) (served_is b)
      (and_from (is_all (keep_of faults (route at b).label)) (not (has_shift at b TargetToMedium)) (ap is_all (no_keep m'.mode.kind m'.size faults ops faults form (route at b).label)) (ap not (unmoved_at b)))

  abbrev pub Holds : State → Type 0
  Holds s = HoldsKnown m' even flips (its_lines m' ops even flips form) (no_shift m'.mode.kind m'.size faults ops faults form AdapterToTarget) (no_shift m'.mode.kind m'.size faults ops faults form MediumToTarget) untorn (λ b q. unmoved_at b) image lies IsNamed Brings is_altered kept_there whole_there not_mended s

  pub all_shown : (steps : List Step) (s : State) → AllSuit at IsNamed Brings steps → NoneEscapes at steps s → Holds s → detectable at steps s ≡ true
  all_shown steps s fit e h =
      shown_whole at served_is whole_is steps s
      (all_accounted m' even flips (its_lines m' ops even flips form) (no_shift m'.mode.kind m'.size faults ops faults form AdapterToTarget) (no_shift m'.mode.kind m'.size faults ops faults form MediumToTarget) untorn (λ b q. unmoved_at b) image lies IsNamed Brings is_altered kept_there whole_there not_mended steps s fit e h)

  pub begins : (s : State) → s.blocks ≡ image → AllBelow 256 s.bytes → AreClean at s.blocks → Holds s
  begins s same pages clean =
      begins_known m' even flips (its_lines m' ops even flips form) (no_shift m'.mode.kind m'.size faults ops faults form AdapterToTarget) (no_shift m'.mode.kind m'.size faults ops faults form MediumToTarget) untorn (λ b q. unmoved_at b) image lies IsNamed Brings is_altered kept_there whole_there not_mended s same pages clean

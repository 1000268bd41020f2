-- Over a formatted image the run of a script without `expect` and `writepi` lines lists nothing.
use Rattle.std.proofs.Common.{◌≡◌, ◌<◌, ℕ, zero, suc, true, false, List, [], ◌∷◌, get_or, map, None, refl, sym, ap, subst, ◌∙◌}
use Rattle.std.specs.List.{list_all}
use Rattle.std.proofs.lemmas.Bool.{and_parts, false≢true}
use Rattle.integrity_payload.specs.declared.payload.Owner.TheVariants.{Block as OfBlock, App as OfApp}
use Rattle.stack_ops.specs.declared.op.Op.{Op}
use Rattle.stack_ops.specs.declared.op.Op.TheVariants.{Fetch, FetchPi, Fill, Overwrite, Put, Seal, Show, Wait, Write, WritePi}
use Rattle.rig_api.specs.Image.{formatted}
use Rattle.rig_api.specs.Target.{Stored}
use Rattle.rig_api.specs.Telling.{own_units}
use Rattle.rig_discovery.specs.Discovery.{info_of}
use Rattle.volume_table.specs.Places.{place_in, volume_len}
use Rattle.volume_table.specs.Tables.{IsOn}
use Rattle.dix_adapter.specs.Ways.{blocks_told}
use Rattle.block_path.specs.Acts.{State}
use Rattle.block_path.specs.Blocks.{ActAnswer}
use Rattle.block_path.specs.Serial.{plain_tells}
use Rattle.walk_laws.specs.PlainMap.{Plain, finds_plainly, listed_by, plain_answer, plain_replies_from, plain_step}
use Rattle.walk_laws.specs.ScriptWalk.{bad_from, replies_from, reply_of}
use Rattle.walk_laws.specs.Settings.{Setting, block_of}
use Rattle.walk_laws.specs.Steps.{Reads, Step, Writes, body_of, each_from, frame_at, steps_of}
use Rattle.walk_laws.specs.UnderMap.{AreClean, IsClean, NoEscape, address_of, home, opened}
use Rattle.walk_laws.proofs.CalmRuns.{is_plain}
use Rattle.run_premises.specs.Forms.{supplies_none}
use Rattle.run_premises.proofs.Escapes.{none_supplied}
use Rattle.script_run_laws.proofs.Calm.{calm-run}
use Rattle.script_laws.specs.Keeping.{Each}
use Rattle.image_laws.proofs.Passed.{formatted_clean}
use Rattle.script_text.specs.declared.script.Script.{Script}
use Rattle.image_laws.specs.Over.{opening_over, setting_over, volume_over}
use Rattle.image_laws.proofs.Told.{stored_back}
use Rattle.flip_sweep.specs.Swept.{Sweep}
use Rattle.walk_laws.proofs.CalmWays.{unmasked}
use Rattle.lab_laws.specs.Flips.{IsGuarded, IsPlainSweep, PlainIsQuiet}
use Rattle.lab_laws.proofs.Bound.{blocks_below, bound, cells, few, no_overwrite, on, unfaulted}
use Rattle.lab_laws.proofs.Listing.{IsQuiet, lists_request}

module _ (m : Setting) (mask : m.mode.mask ≡ 0) where
  abbrev answers : List Step → Plain → List ActAnswer
  answers steps s = plain_tells (plain_step m) (plain_answer m) steps s

  abbrev Silent : Step → Type 0
  Silent step = (s : Plain) → (plain_answer m step s).why ≡ None

  none_bad : (j c i : ℕ) (f : ℕ → Step) (s : Plain) → ((k : ℕ) → Silent (f k)) → bad_from i (map (λ (a : ActAnswer). a.why) (answers (each_from j c f) s)) ≡ []
  none_bad j zero i f s h = refl
  none_bad j (suc c) i f s h =
      ap (λ w. bad_from i (w ∷ map (λ (a : ActAnswer). a.why) (answers (each_from (suc j) c f) (plain_step m (f j) s)))) (h j s) ∙ none_bad (suc j) c (suc i) f (plain_step m (f j) s) h

  write_silent : (app : ℕ) → (listed_by (finds_plainly m app)).why ≡ None
  write_silent app = let e = unmasked m app mask in rw e refl

  op_quiet : (i : ℕ) (o : Op) (s : Plain) → supplies_none o ≡ true → IsQuiet (reply_of false o (answers (steps_of m i o) s))
  op_quiet i (Fill seg value) s h = refl
  op_quiet i (Put page to bytes) s h = refl
  op_quiet i (Show seg) s h = refl
  op_quiet i (Seal c body tuples app rtag) s h = refl
  op_quiet i (Write v c body app) s h =
      let f : ℕ → Step = λ k. Writes (block_of i v k) app (body_of m.size body k) in
      lists_request (answers (each_from 0 c f) s) ∙ none_bad 0 c 0 f s (λ k t. write_silent app)
  op_quiet i (Fetch v c body) s h =
      let f : ℕ → Step = λ k. Reads (block_of i v k) OfBlock (body_of m.size body k) in
      lists_request (answers (each_from 0 c f) s) ∙ none_bad 0 c 0 f s (λ k t. refl)
  op_quiet i (WritePi v c body tuples) s h = absurd (false≢true h)
  op_quiet i (FetchPi v c body tuples) s h =
      let f : ℕ → Step = λ k. Reads (block_of i v k) OfApp (frame_at m.size body tuples k) in
      lists_request (answers (each_from 0 c f) s) ∙ none_bad 0 c 0 f s (λ k t. refl)
  op_quiet i (Overwrite dev lba change) s h = refl
  op_quiet i Wait s h = refl

  all_quiet : (i : ℕ) (ops : List Op) (s : Plain) → list_all supplies_none ops ≡ true → Each IsQuiet (plain_replies_from m i ops s)
  all_quiet i [] s h = tt
  all_quiet i (o ∷ ops) s h = let p = and_parts (supplies_none o) (list_all supplies_none ops) h in (op_quiet i o s p.0, all_quiet (suc i) ops _ p.1)

module _ (w : Sweep) (h : IsPlainSweep w) where
  abbrev g : IsGuarded w
  g = h.guarded

  abbrev s : Script
  s = w.script

  abbrev image : List ℕ
  image = formatted w.units

  abbrev us : List Stored
  us = own_units image

  abbrev own : Setting
  own = setting_over s image

  abbrev opening : State
  opening = opening_over s image

  supplies : NoEscape own 1 s.ops opening
  supplies = none_supplied own 1 s.ops opening h.escapes

  -- a block of the volume lies on its device
  there : (v : ℕ) → v < volume_len own.entries → IsOn (map info_of w.units) own.ty own.size (place_in own.entries v).0 (place_in own.entries v).1 1
  there v l = subst (λ ty. IsOn (map info_of w.units) ty own.size (place_in own.entries v).0 (place_in own.entries v).1 1) (sym g.ty) (on w g v l)

  clean : AreClean own (blocks_told us)
  clean v l z =
      subst (λ (us : List Stored). IsClean own (address_of own v) (get_or (blocks_told us) (home own v) [])) (sym (stored_back w.units g.layout))
      (formatted_clean own w.units (few w g) z (unmasked own 0 h.expect) (cells w g) v (address_of own v) l (there v l))

  quiet : Each IsQuiet (replies_from own 1 s.ops opening)
  quiet =
      let run = calm-run s (volume_over s image) us (bound w g) (unfaulted w g) (no_overwrite w g) (blocks_below w g) clean supplies in
      subst (Each IsQuiet) (sym (is_plain own s.ops opening run).replies) (all_quiet own h.expect 1 s.ops (opened own opening) h.escapes)

pub plain_quiet : PlainIsQuiet
plain_quiet w h = record { guarded = h.guarded; no_escape = supplies w h; quiet = quiet w h }

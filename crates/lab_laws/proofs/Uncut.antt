-- In a run of a script without faults no write ends early.
use Rattle.std.proofs.Common.{◌≡◌, inr, ℕ, suc, ◌+◌, ◌*◌, ◌<◌, Bool, true, false, not, ◌&&◌, eqb, if◌then◌else◌, List, [], ◌∷◌, ◌++◌, length, map, drop, Option, Some, None, refl, sym, ap, subst, ◌∙◌, append_assoc, arith}
use Rattle.std.specs.Prelude.{IfOk, Result, Ok}
use Rattle.std.specs.List.{AllByRecursion as Each, list_any}
use Rattle.std.proofs.lemmas.Bool.{ne_eqb}
use Rattle.std.proofs.Math.Seq.{drop-append_seam}
use Rattle.dix_base.specs.Told.{Calm}
use Rattle.pi_tuple.specs.Finds.{is_zero}
use Rattle.fault_schedule.specs.declared.fault.FaultLine.{FaultLine}
use Rattle.bio_core.specs.declared.fate.Why.{Why}
use Rattle.cdb_codec.specs.Decoded.{decoded}
use Rattle.cdb_codec.specs.Rule.{fits_10, in_10, in_16, in_32, is_two, tagged, untagged}
use Rattle.cdb_codec.specs.declared.choice.Dir2.{Dir2}
use Rattle.cdb_codec.specs.declared.choice.Dir2.TheVariants.{In, Out}
use Rattle.cdb_codec.proofs.Inverse.{decoded_form}
use Rattle.fault_schedule.specs.Altered.{has_fail}
use Rattle.rig_api.specs.Frames.{sent_size}
use Rattle.rig_api.specs.Image.{units_in}
use Rattle.rig_api.specs.Passing.{to_medium}
use Rattle.rig_api.specs.Requests.{request_of}
use Rattle.rig_api.specs.Target.{Stored}
use Rattle.rig_api.specs.declared.units.UnitSpec.{UnitSpec}
use Rattle.rig_api.specs.Head.{IsHeadOf, units_of}
use Rattle.rig_api.specs.Log.{LogEntry}
use Rattle.rig_api.specs.Telling.{IsStanding, Standing, specs_of, units_told}
use Rattle.rig_discovery.specs.Discovery.{LookAnswer as Looked, info_of, looks}
use Rattle.rig_discovery.specs.Openings.{device_of}
use Rattle.volume_table.specs.Tables.{MadeFor, Table}
use Rattle.volume_table.specs.declared.device.DeviceInfo.{DeviceInfo}
use Rattle.block_path.specs.Moves.{hidden}
use Rattle.block_path.specs.Routes.{by_target, passage, target}
use Rattle.dix_adapter.specs.Ways.{blocks_told, shapes_of}
use Rattle.stack_ops.specs.declared.op.Op.{Op}
use Rattle.stack_ops.specs.declared.op.Op.TheVariants.{Fetch, FetchPi, Fill, Overwrite, Put, Seal, Show, Wait, Write, WritePi}
use Rattle.stack_ops.specs.declared.reply.Reply.{Reply}
use Rattle.walk_laws.specs.CalmRun.{AllFit, Fits}
use Rattle.walk_laws.specs.Settings.{Setting}
use Rattle.run_laws.specs.BackedRun.{IsBacked}
use Rattle.run_laws.specs.Records.{recorded}
use Rattle.stack_walk_laws.specs.Falls.{Falls, falling, over_falls, stores_or}
use Rattle.stack_walk_laws.specs.Flips.{Flips, flip_op, with_flips}
use Rattle.stack_core.specs.Mediums.{medium_lines, unscheduled_mediums}
use Rattle.stack_core.proofs.NoMedium.{unfailing_lines, none_named}
use Rattle.stack_core.specs.OnRecord.{IsFormed, command_by}
use Rattle.stack_ops.specs.Ops.{is_overwrite}
use Rattle.script_text.specs.Bindings.{binding_fault}
use Rattle.script_text.specs.Language.{script_in}
use Rattle.script_text.specs.declared.script.Script.{Script}
use Rattle.script_laws.proofs.Keeping.{read_keeps}
use Rattle.script_run_laws.proofs.Calm.{all-fit, calm-of}
use Rattle.script_run_laws.proofs.OverUnits.{IsBoundOver, over}
use Rattle.image_laws.proofs.Passed.{known_from, told-stored}
use Rattle.rig_api.specs.State.{RigState}
use Rattle.image_laws.specs.Passed.{HasRun, Finished, HasFallen, failed_in, opening_of, setting_of, unit_of}
use Rattle.vector_runs.specs.Unplayed.{first_overwrite, named, unplayed, unplayed_line}
use Rattle.run_laws.proofs.Labelled.{each_both}
use Rattle.lab_laws.specs.Passing.{IsNotCut, RunPasses, VectorsPass, WasTaken, width}
use Rattle.lab_laws.proofs.Recorded.{HasWidth, IsWide, log_done, mixed_each, none_fell, put_fell}
use Rattle.lab_laws.proofs.Walks.{Takes, freed, sents_taken}

-- ---- what has no vectors isn't there

pub no_faults : (lines : List ℕ) (faults : List FaultLine) (ops : List Op) → length lines ≡ length faults + length ops → named (unplayed_line lines faults ops) ≡ None → faults ≡ []
no_faults lines [] ops l h = refl
no_faults [] (f ∷ faults) ops l h = absurd (omega (arith, l))
no_faults (n ∷ lines) (f ∷ faults) ops l h = absurd (cc)

no_overwrites : (lines : List ℕ) (ops : List Op) → length lines ≡ length ops → named (first_overwrite lines ops) ≡ None → list_any is_overwrite ops ≡ false
no_overwrites lines [] l h = refl
no_overwrites [] (op ∷ ops) l h = absurd (omega (arith, l))
no_overwrites (n ∷ lines) (Fill seg byte ∷ ops) l h = no_overwrites lines ops (omega (arith, l)) h
no_overwrites (n ∷ lines) (Put page off bytes ∷ ops) l h = no_overwrites lines ops (omega (arith, l)) h
no_overwrites (n ∷ lines) (Show seg ∷ ops) l h = no_overwrites lines ops (omega (arith, l)) h
no_overwrites (n ∷ lines) (Seal k body tuples app rtag ∷ ops) l h = no_overwrites lines ops (omega (arith, l)) h
no_overwrites (n ∷ lines) (Write v k body app ∷ ops) l h = no_overwrites lines ops (omega (arith, l)) h
no_overwrites (n ∷ lines) (Fetch v k body ∷ ops) l h = no_overwrites lines ops (omega (arith, l)) h
no_overwrites (n ∷ lines) (WritePi v k body tuples ∷ ops) l h = no_overwrites lines ops (omega (arith, l)) h
no_overwrites (n ∷ lines) (FetchPi v k body tuples ∷ ops) l h = no_overwrites lines ops (omega (arith, l)) h
no_overwrites (n ∷ lines) (Overwrite dev lba change ∷ ops) l h = absurd (cc)
no_overwrites (n ∷ lines) (Wait ∷ ops) l h = no_overwrites lines ops (omega (arith, l)) h

pub played_whole : (lines : List ℕ) (faults : List FaultLine) (ops : List Op) → faults ≡ [] → length lines ≡ length faults + length ops → named (unplayed_line lines faults ops) ≡ None → list_any is_overwrite ops ≡ false
played_whole lines [] ops e l h = no_overwrites lines ops (omega (arith, l)) h
played_whole lines (f ∷ faults) ops e l h = absurd (cc)

-- ---- the walk whose store calls may fail

falling_takes : (falls : Falls) (faults : List FaultLine) → faults ≡ [] → Takes (falling falls (target faults))
falling_takes falls faults none = subst (λ fs. Takes (falling falls (target fs))) (sym none) (λ r frame stored e. by (falls r.label) (by_target (to_medium [] (passage [] r) frame)) (stored, ap by_target e))
  where
    by : (o : Option (List ℕ)) (came : Result (List ℕ) Why) → (left : List ℕ) × (came ≡ Ok left) → (left : List ℕ) × (stores_or o came ≡ Ok left)
    by None came h = h
    by (Some left) came h = (left, refl)

-- an op fits over that device as over the target
module _ (s : Script) (t : Table) (units : List UnitSpec) (fails : ℕ → Bool) (falls : Falls) where
  abbrev fallen : Setting
  fallen = over_falls (setting_of s t units fails) falls

  fits_so : (op : Op) → Fits (over s t units) op → Fits fallen op
  fits_so (Fill seg byte) h = h
  fits_so (Put page off bytes) h = h
  fits_so (Show seg) h = h
  fits_so (Seal n body tuples app rtag) h = h
  fits_so (Write v n body app) h = (record { within = h.0.within; bytes_are = h.0.bytes_are }, h.1)
  fits_so (Fetch v n body) h = h
  fits_so (WritePi v n body tuples) h = (record { within = h.0.within; bytes_are = h.0.bytes_are }, h.1)
  fits_so (FetchPi v n body tuples) h = h
  fits_so (Overwrite dev lba change) h = h
  fits_so Wait h = h

  flipped_fits : (o : Option (List ℕ)) (op : Op) → Fits fallen op → Fits fallen (flip_op o op)
  flipped_fits None op h = h
  flipped_fits (Some mask) (Fill seg byte) h = h
  flipped_fits (Some mask) (Put page off bytes) h = h
  flipped_fits (Some mask) (Show seg) h = h
  flipped_fits (Some mask) (Seal n body tuples app rtag) h = h
  flipped_fits (Some mask) (Write v n body app) h = h
  flipped_fits (Some mask) (Fetch v n body) h = h
  flipped_fits (Some mask) (WritePi v n body tuples) h = h
  flipped_fits (Some mask) (FetchPi v n body tuples) h = h
  flipped_fits (Some mask) (Overwrite dev lba change) h = absurd h
  flipped_fits (Some mask) Wait h = h

  all_fit_so : (flips : Flips) (i : ℕ) (ops : List Op) → AllFit (over s t units) ops → AllFit fallen (with_flips flips i ops)
  all_fit_so flips i [] h = tt
  all_fit_so flips i (op ∷ ops) h = (flipped_fits (flips i) op (fits_so op h.0), all_fit_so flips (suc i) ops h.1)

-- ---- its commands

-- the frames of a command have the width of the setting
module _ (m : Setting) where
  chosen_wide : (c d : Bool) (dir : Dir2) (lba n protect app mask : ℕ) → sent_size protect m.size ≡ width m →
      HasWidth m (request_of (if c then in_32 dir (tagged lba n protect app mask) else (if d then in_10 dir (untagged lba n protect) else in_16 dir (untagged lba n protect))))
  chosen_wide true d In lba n protect app mask w = tt
  chosen_wide true d Out lba n protect app mask w = w
  chosen_wide false true In lba n protect app mask w = tt
  chosen_wide false true Out lba n protect app mask w = w
  chosen_wide false false In lba n protect app mask w = tt
  chosen_wide false false Out lba n protect app mask w = w

  field_wide : (c : Bool) (protect : ℕ) → 0 < protect → sent_size (if c then protect else 0) m.size ≡ (if c then m.size + 8 else m.size)
  field_wide true protect h = let e : eqb protect 0 ≡ false = ne_eqb protect 0 (λ z. omega (arith, z, h)) in ap (λ b. if b then m.size else m.size + 8) e
  field_wide false protect h = refl

  formed_wide : (e : LogEntry) → 0 < m.mode.protect → IsFormed m.mode m.ty e → IsWide m e
  formed_wide e p h =
      let field = if m.mode.dif && not (is_zero m.ty) then m.mode.protect else 0 in
      let d : decoded e.what.cdb ≡ Ok (command_by m.mode m.ty h.dir h.lba h.n) = ap decoded h.cdb ∙ decoded_form (command_by m.mode m.ty h.dir h.lba h.n) h.fits in
      subst (λ r. IfOk r (λ cdb. HasWidth m (request_of cdb))) (sym d)
      (chosen_wide (is_two m.ty && not (eqb field 0)) (fits_10 h.lba h.n) h.dir h.lba h.n field m.mode.app m.mode.mask (field_wide (m.mode.dif && not (is_zero m.ty)) m.mode.protect p))

  all_wide : (log : List LogEntry) → 0 < m.mode.protect → Each (IsFormed m.mode m.ty) log → Each (IsWide m) log
  all_wide [] p h = tt
  all_wide (e ∷ log) p h = (formed_wide e p h.0, all_wide log p h.1)

-- ---- by what is on record

fell_whole : (s : Script) (t : Table) (us left : List Stored) (pool : List (List ℕ)) (log : List LogEntry) (replies : List Reply) → IsBoundOver s t us → s.faults ≡ [] → list_any is_overwrite s.ops ≡ false → HasFallen s t us left pool log replies →
    let m = setting_of s t (shapes_of us) (failed_in replies) in
    IsBacked m s.ops (opening_of s (shapes_of us) []) (recorded m log) replies → medium_lines replies ≡ 0 → Each (WasTaken m) (recorded m log)
fell_whole s t us left pool log replies b faults overwrites h backed none =
    let m = setting_of s t (shapes_of us) (failed_in replies) in
    let f = h.fallen in
    let e = f.ends in
    let ops = with_flips f.flips 1 s.ops in
    let opening = hidden (4096 * s.pages) (opening_of s (shapes_of us) (blocks_told us)) in
    let walk = sents_taken (over_falls m e.falls) ops opening (falling_takes e.falls s.faults faults) faults (freed (over s t (shapes_of us)) (calm-of s t us b faults))
    (all_fit_so s t (shapes_of us) (failed_in replies) e.falls f.flips 1 s.ops (all-fit s t us b overwrites)) in
    let told = mixed_each (WasTaken m) _ e.told e.recorded.all walk in
    let fell = put_fell m m.site e.falls e.told [] told tt in
    none_fell m (width m) s.ops (opening_of s (shapes_of us) []) (recorded m log) replies backed none (subst (Each _) (sym e.on_record) fell)

uncut : (s : Script) (t : Table) (us left : List Stored) (pool : List (List ℕ)) (log : List LogEntry) (replies : List Reply) → IsBoundOver s t us → s.faults ≡ [] → list_any is_overwrite s.ops ≡ false → HasFallen s t us left pool log replies →
    let m = setting_of s t (shapes_of us) (failed_in replies) in
    IsBacked m s.ops (opening_of s (shapes_of us) []) (recorded m log) replies → medium_lines replies ≡ 0 → Each (IsFormed s.mode t.ty) log → Each (IsNotCut s.block) log
uncut s t us left pool log replies b faults overwrites h backed none formed =
    let m = setting_of s t (shapes_of us) (failed_in replies) in
    log_done m log (all_wide m log (calm-of s t us b faults).protect formed) (fell_whole s t us left pool log replies b faults overwrites h backed none)

-- ---- over an image that is told

infos : (us : List Stored) → map device_of us ≡ map info_of (shapes_of us)
infos [] = refl
infos (u ∷ us) = ap (λ ds. device_of u ∷ ds) (infos us)

units_back : (us : List Stored) → map unit_of (map device_of us) ≡ shapes_of us
units_back [] = refl
units_back (u ∷ us) = ap (λ xs. unit_of (device_of u) ∷ xs) (units_back us)

module _ (run : Finished) (script : Script) (name text image : List ℕ) (old new : RigState) (reads : script_in text ≡ Ok script) (told_is : old.image ≡ Some image) (h : HasRun run script name old new) where
  abbrev at : Standing
  at = h.asked.told.between.standing

  abbrev us : List Stored
  us = units_in (specs_of at) image

  between_is : h.asked.told.between.image ≡ Some image
  between_is = h.asked.told.since.kept.image ∙ told_is

  units_are : h.told.units ≡ Some us
  units_are = h.asked.told.since.units ∙ h.asked.told.since.laid ∙ ap (units_told at) between_is

  stands : IsStanding at (Some image)
  stands = inr (record {
    right = h.asked.told.since.opened.judged;
    devices = subst (λ (s : Standing). s.devices ≡ length (units_of s.head)) h.asked.told.since.standing h.asked.all;
    told = subst (IsHeadOf at.head) between_is h.asked.told.since.opened.head;
  })

  devices_are : h.devices ≡ map device_of us
  devices_are = h.asked.told.devices_are.told us units_are

  bound : IsBoundOver script h.table us
  bound =
      let e : h.devices ≡ map info_of (shapes_of us) = devices_are ∙ infos us in
      let k = read_keeps text script reads in
      record {
        keeps = k.keeps;
        lines = k.lined;
        made = subst (λ (ds : List DeviceInfo). MadeFor h.table ds script.block) e h.made.made;
        bound = subst (λ (ds : List DeviceInfo). binding_fault script h.table ds ≡ None) e h.bound;
        stored = told-stored at (Some image) us refl stands;
      }

  none_listed : script.faults ≡ [] → Calm old.faults new.faults → medium_lines run.stack.replies.items ≡ 0
  none_listed none c =
      let a = h.asked.told.since.kept.count in
      let b = h.asked.told.since.count in
      sym (unfailing_lines script.faults run.stack.replies.items (ap has_fail none)) ∙ none_named (unscheduled_mediums script.faults run.stack.replies.items) h.told.faults new.faults h.followed.any_rig.medium (let d = c.0 in omega (arith, a, b, d), c.1)

  cut_none : unplayed script ≡ None → Calm old.faults new.faults → Each (IsNotCut script.block) h.followed.any_rig.goes.more
  cut_none plays c =
      let k = read_keeps text script reads in
      let faults = no_faults script.lines script.faults script.ops k.lined plays in
      let overwrites = played_whole script.lines script.faults script.ops faults k.lined plays in
      let log = h.followed.any_rig.goes.more in
      let replies = run.stack.replies.items in
      let known = known_from h.told new h.followed.any_rig.tells_blocks us units_are in
      let units : map unit_of h.devices ≡ shapes_of us = ap (map unit_of) devices_are ∙ units_back us in
      let backed = subst (λ (xs : List UnitSpec). let m = setting_of script h.table xs (failed_in replies) in IsBacked m script.ops (opening_of script xs []) (recorded m log) replies) units (h.followed.any_rig.backed []) in
      uncut script h.table us known.after run.stack.pool log replies bound faults overwrites (h.followed.failing known).fell backed (none_listed faults c) h.followed.any_rig.sends.formed

pub run_passes : RunPasses
run_passes run script name text image old new reads plays told_is c h = cut_none run script name text image old new reads told_is h plays c

-- ---- the records of a call

looks_uncut : (size : ℕ) (s : Standing) (dev : ℕ) (answers : List Looked) → Each (IsNotCut size) (looks s dev answers)
looks_uncut size s dev [] = tt
looks_uncut size s dev (a ∷ answers) = (tt, looks_uncut size s (dev + 1) answers)

pub vectors_pass : VectorsPass
vectors_pass run f image told_is c (script, held, h) =
    let found = h.asked.told.found in
    let first = looks h.asked.told.between.standing 0 found.answers in
    let more = h.followed.any_rig.goes.more in
    let log : f.rig_after.log ≡ f.rig.log ++ (first ++ more) =
    h.followed.any_rig.goes.records ∙ ap (λ l. l ++ more) (found.log ∙ ap (λ l. l ++ first) h.asked.told.since.kept.log) ∙ append_assoc f.rig.log first more in
    let rest : drop run.first f.rig_after.log ≡ first ++ more = ap (λ n. drop n f.rig_after.log) h.first ∙ ap (drop (length f.rig.log)) log ∙ drop-append_seam f.rig.log (first ++ more) in
    subst (Each (IsNotCut script.block)) (sym rest)
    (each_both (IsNotCut script.block) first more (looks_uncut script.block h.asked.told.between.standing 0 found.answers) (run_passes run script f.name held.text image f.rig f.rig_after held.reads held.plays told_is c h))

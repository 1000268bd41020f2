-- The headline, of a call over bytes in memory.
use Rattle.std.proofs.Common.{◌≡◌, ◌<◌, ℕ, true, false, List, [], map, Some, None, sym, ap, subst, ◌∙◌}
use Rattle.std.specs.Prelude.{All, Option, IfOk, Result, Ok, Err}
use Rattle.dix_base.specs.Told.{Calm}
use Rattle.pi_tuple.specs.Finds.{is_zero}
use Rattle.pi_tuple.specs.declared.checks.PiType.TheVariants.{One}
use Rattle.rig_api.specs.Headers.{is_layout}
use Rattle.rig_api.specs.Image.{formatted, units_in}
use Rattle.rig_api.specs.Target.{Stored}
use Rattle.rig_api.specs.declared.units.UnitSpec.{UnitSpec}
use Rattle.rig_api.specs.Head.{head_fault, head_of}
use Rattle.rig_api.specs.Telling.{IsStanding, Standing, own_units, units_told}
use Rattle.rig_api.specs.State.{RigState}
use Rattle.rig_discovery.specs.Discovery.{info_of}
use Rattle.volume_table.specs.Tables.{MadeFor, Table}
use Rattle.volume_table.specs.declared.device.DeviceInfo.{DeviceInfo}
use Rattle.dix_adapter.specs.Ways.{blocks_told, cell_in, shapes_of}
use Rattle.walk_laws.specs.PlainMap.{as_expected}
use Rattle.walk_laws.specs.Settings.{Setting}
use Rattle.walk_laws.specs.UnderMap.{address_of}
use Rattle.run_laws.specs.ShownRun.{DevicesAreClean}
use Rattle.run_laws.proofs.CleanWhereRead.{on_clean_devices}
use Rattle.image_rig.proofs.Heads.{layout_parts}
use Rattle.run_premises.proofs.Escapes.{none_supplied}
use Rattle.script_form_laws.proofs.Fresh.{formatted_clean, shapes_are}
use Rattle.script_text.specs.declared.script.Script.{Script}
use Rattle.image_laws.specs.Passed.{IsAccountableRun, IsAccountedByForm, IsDetectableRun, IsFormedRun, IsPlainRun, RunReadsRightly, RunReadsStored, has_bad, AllReadRightly, AllReadStored, Followed, HasRun, WasAsked, devices_of, table_over, Finished}
use Rattle.image_laws.proofs.Passed.{table_is, image_devices}
use Rattle.call_refusal.specs.declared.refusal.Refusal.{Refusal as Stop}
use Rattle.dix_run.specs.Passed.{HasServedMirror, is_any_lost, mirror_text, HasMirrored, Mirrored, BothHoldLast, OnIntactLegs, WasEnough, IsFormedMirror, IsOneGoodRun, IsStillMirror}
use Rattle.report_text.specs.Report.{report}
use Rattle.dix_run.specs.Headline.{Carries}
use Rattle.call_verdict.specs.Verdicts.{done_status}
use Rattle.dix_run.specs.Verdict.{Facts}
use Rattle.call_verdict.specs.declared.status.Status.{Status}
use Rattle.call_verdict.specs.declared.status.Status.TheVariants as status
use Rattle.headline.specs.Headline.{AreEqualLegs, FitsImage, FitsMirror, HasFormedLegs, HasGoodLegs, HasStillLegs, Headline, IsAccountableText, IsAccountedText, IsClean, IsCleanWhereRead, IsFaultless, IsFormedText, IsFound, IsFresh, IsKnown, IsMended, IsMirrored, IsPlain, IsRefused, IsShownText, IsStill, IsWalked, blocks_in, first_fault, mended_over, mirror_over, opening_over, replied_on_mirror, setting_over, volume_over}
use Rattle.headline.specs.Words.{IsTold, wants_memory, words_for}
use Rattle.headline.specs.declared.way.Way.{Way}
use Rattle.headline.specs.declared.way.Way.TheVariants.{Mirror, Run}
use Rattle.headline.proofs.Coming.{CameToMirror, CameToRun, IsCalled, came_to_mirror, came_to_run}
use Rattle.headline.proofs.Refused.{refused_mirror, refused_run}
use Rattle.image_rig.proofs.FreshHead.{right_head, units_back}
use Rattle.headline.proofs.FreshLegs.{equal_legs}
use Rattle.image_laws.proofs.Got.{got_intact as ran_intact, got_plain, got_walked}
use Rattle.headline.proofs.GotMirrored.{got_intact, got_served}
use Rattle.image_laws.proofs.Told.{IsAfter, after, head_asked, image_after, units_asked}

-- ---- over the image

-- what a run did, said of the image's own devices, units and volume
pub record RanOver (script : Script) (image image' : List ℕ) (run : Finished) : Type 0 where
  pub old : RigState
  pub new : RigState
  pub units : old.units ≡ Some (own_units image)
  pub none : new.faults ≡ 0
  pub made : MadeFor (volume_over script image) (devices_of image) script.block
  pub followed : Followed script (volume_over script image) (devices_of image) old new run.stack.pool run.stack.replies.items
  pub after : (left : List Stored) → new.units ≡ Some left → IsAfter image image' left

-- what the rig tells at the end, where it stands as it did when its devices had answered
told_after : (way : Way) (image text image' : List ℕ) (f : Facts) (name : List ℕ) (devices : List DeviceInfo) (told : RigState) → IsCalled way image text image' f → head_fault (head_of image) ≡ None → WasAsked name devices f.rig told → f.rig_after.standing ≡ told.standing
    → (left : List Stored) → f.rig_after.units ≡ Some left → IsAfter image image' left
told_after way image text image' f name devices told called right asked same left e =
    let s = f.rig_after.standing in
    after s image image' left right
    (ap (λ (st : Standing). st.head) same ∙ head_asked name devices f.rig told image called.image_is asked)
    (rw same asked.all)
    (subst (IsStanding s) called.left_is called.standing)
    (ap (units_told s) (sym called.left_is) ∙ sym called.laid ∙ e)

ran_over : (script : Script) (image text image' : List ℕ) (f : Facts) (name : List ℕ) (run : Finished) → IsCalled Run image text image' f → head_fault (head_of image) ≡ None → HasRun run script name f.rig f.rig_after → RanOver script image image' run
ran_over script image text image' f name run called right r =
    let ds : r.devices ≡ devices_of image = image_devices name r.devices f.rig r.told image r.asked called.image_is in
    let t : r.table ≡ volume_over script image = table_is script r.devices (devices_of image) r.table ds r.made in
    record {
      old = r.told;
      new = f.rig_after;
      units = units_asked name r.devices f.rig r.told image called.image_is r.asked;
      none = called.faults;
      made = subst (λ (x : Table). MadeFor x (devices_of image) script.block) t (subst (λ (x : List DeviceInfo). MadeFor r.table x script.block) ds r.made.made);
      followed = subst (λ (x : Table). Followed script x (devices_of image) r.told f.rig_after run.stack.pool run.stack.replies.items) t
          (subst (λ (x : List DeviceInfo). Followed script r.table x r.told f.rig_after run.stack.pool run.stack.replies.items) ds r.followed);
      after = told_after Run image text image' f name r.devices r.told called right r.asked r.followed.any_rig.goes.standing;
    }

-- ---- a run

walked : (script : Script) (image image' text' : List ℕ) (run : Finished) (result : Status) → head_fault (head_of image) ≡ None → RanOver script image image' run → result ≡ done_status (has_bad run.stack.replies.items) → text' ≡ report run.stack.replies.items → IsWalked script image result text' image'
walked script image image' text' run result right o st tx =
    let w = got_walked script (volume_over script image) (devices_of image) o.old o.new run.stack.pool run.stack.replies.items (own_units image) o.followed o.units o.none in
    record {
      status_is = st ∙ ap (λ rs. done_status (has_bad rs)) w.2.replies_are;
      report_is = tx ∙ ap report w.2.replies_are;
      image_is = image_after image image' w.0 _ right (o.after w.0 w.1) w.2.blocks;
    }

plain : (script : Script) (image image' text' : List ℕ) (run : Finished) → head_fault (head_of image) ≡ None → All (λ x. x < 256) image → RanOver script image image' run → text' ≡ report run.stack.replies.items → IsFaultless script image → IsPlain script image text' image'
plain script image image' text' run right bytes o tx p =
    let premise : IsPlainRun script (volume_over script image) (own_units image) = record {
      quiet = record { faults = p.faults; overwrites = p.overwrites; clean = p.clean };
      no_escape = p.no_escape;
    } in
    let w = got_plain script (volume_over script image) (devices_of image) o.old o.new run.stack.pool run.stack.replies.items (own_units image) o.followed o.units o.none premise in
    record { report_is = tx ∙ ap report w.2.replies_are; image_is = image_after image image' w.0 _ right (o.after w.0 w.1) w.2.blocks }

found_by : (script : Script) (image image' text' : List ℕ) (run : Finished) → RanOver script image image' run → text' ≡ report run.stack.replies.items → RunReadsRightly script (volume_over script image) (own_units image) run.stack.replies.items → IsFound script image text'
found_by script image image' text' run o tx reads =
    let w = got_walked script (volume_over script image) (devices_of image) o.old o.new run.stack.pool run.stack.replies.items (own_units image) o.followed o.units o.none in
    record {
      report_is = tx ∙ ap report w.2.replies_are;
      reads = subst (AllReadRightly (setting_over script image) script.ops (opening_over script image)) w.2.replies_are reads;
    }

found : (script : Script) (image image' text' : List ℕ) (run : Finished) → RanOver script image image' run → text' ≡ report run.stack.replies.items → IsFormedText script image → IsClean script image → IsFound script image text'
found script image image' text' run o tx p clean =
    let premise : IsFormedRun script (volume_over script image) (devices_of image) (own_units image) = record {
      ty = p.ty;
      dix = p.dix;
      dif = p.dif;
      protect = p.protect;
      form = p.form;
      escapes = p.escapes;
      clean = clean;
    } in
    found_by script image image' text' run o tx ((ran_intact script (volume_over script image) (devices_of image) o.old o.new run.stack.pool run.stack.replies.items (own_units image) o.followed o.units o.none).formed premise)

shown : (script : Script) (image image' text' : List ℕ) (run : Finished) → RanOver script image image' run → text' ≡ report run.stack.replies.items → IsShownText script image → IsCleanWhereRead script image → IsFound script image text'
shown script image image' text' run o tx p clean =
    let premise : IsDetectableRun script (volume_over script image) (devices_of image) (own_units image) = record {
      ty = p.ty;
      dix = p.dix;
      dif = p.dif;
      protect = p.protect;
      clean = clean;
      no_escape = p.no_escape;
      shown = p.shown;
    } in
    found_by script image image' text' run o tx ((ran_intact script (volume_over script image) (devices_of image) o.old o.new run.stack.pool run.stack.replies.items (own_units image) o.followed o.units o.none).shown premise)

-- ---- where the disk fails, loses and misdirects blocks too

known_by : (script : Script) (image image' text' : List ℕ) (run : Finished) → RanOver script image image' run → text' ≡ report run.stack.replies.items → RunReadsStored script (volume_over script image) (own_units image) run.stack.replies.items → IsKnown script image text'
known_by script image image' text' run o tx reads =
    let w = got_walked script (volume_over script image) (devices_of image) o.old o.new run.stack.pool run.stack.replies.items (own_units image) o.followed o.units o.none in
    record {
      report_is = tx ∙ ap report w.2.replies_are;
      reads = subst (AllReadStored (setting_over script image) script.ops (opening_over script image)) w.2.replies_are reads;
    }

known : (script : Script) (image image' text' : List ℕ) (run : Finished) → RanOver script image image' run → text' ≡ report run.stack.replies.items → IsAccountedText script image → IsClean script image → IsKnown script image text'
known script image image' text' run o tx p clean =
    let premise : IsAccountedByForm script (volume_over script image) (devices_of image) (own_units image) = record {
      ty = p.ty;
      dix = p.dix;
      dif = p.dif;
      protect = p.protect;
      form = p.form;
      escapes = p.escapes;
      clean = clean;
    } in
    known_by script image image' text' run o tx ((ran_intact script (volume_over script image) (devices_of image) o.old o.new run.stack.pool run.stack.replies.items (own_units image) o.followed o.units o.none).stored_by_form premise)

accounted : (script : Script) (image image' text' : List ℕ) (run : Finished) → RanOver script image image' run → text' ≡ report run.stack.replies.items → IsAccountableText script image → IsCleanWhereRead script image → IsKnown script image text'
accounted script image image' text' run o tx p clean =
    let premise : IsAccountableRun script (volume_over script image) (devices_of image) (own_units image) = record {
      ty = p.ty;
      dix = p.dix;
      dif = p.dif;
      protect = p.protect;
      clean = clean;
      no_escape = p.no_escape;
      accounted = p.accounted;
    } in
    known_by script image image' text' run o tx ((ran_intact script (volume_over script image) (devices_of image) o.old o.new run.stack.pool run.stack.replies.items (own_units image) o.followed o.units o.none).stored premise)

-- ---- after `format`

all_clean : (script : Script) (units : List UnitSpec) → is_layout units ≡ true → is_zero (volume_over script (formatted units)).ty ≡ false → as_expected (setting_over script (formatted units)) 0 ≡ true
    → DevicesAreClean (setting_over script (formatted units)) (devices_of (formatted units)) (blocks_in (formatted units))
all_clean script units h tuples app =
    let few = (layout_parts units h).1 in
    let image = formatted units in
    let own : own_units image ≡ units_in units image = ap (λ us. units_in us image) (units_back units h) in
    let cell : cell_in (shapes_of (own_units image)) ≡ cell_in units = ap cell_in (ap shapes_of own ∙ shapes_are units few) in
    let ds : map info_of units ≡ devices_of image = ap (map info_of) (sym (units_back units h)) in
    let m : Setting = setting_over script image in
    subst (λ (d : List DeviceInfo). DevicesAreClean m d (blocks_in image)) ds
    (subst (λ (us : List Stored). DevicesAreClean m (map info_of units) (blocks_told us)) (sym own) (formatted_clean m units few tuples app cell))

clean_of : (script : Script) (units : List UnitSpec) → MadeFor (volume_over script (formatted units)) (devices_of (formatted units)) script.block → is_layout units ≡ true → is_zero (volume_over script (formatted units)).ty ≡ false → as_expected (setting_over script (formatted units)) 0 ≡ true → IsClean script (formatted units)
clean_of script units made h tuples app =
    let m : Setting = setting_over script (formatted units) in
    let all = all_clean script units h tuples app in
    λ v l z. all v (address_of m v) l (made.inside v l)

is_clean : (script : Script) (image : List ℕ) (units : List UnitSpec) → MadeFor (volume_over script image) (devices_of image) script.block → IsFresh units image → is_zero (volume_over script image).ty ≡ false → as_expected (setting_over script image) 0 ≡ true → IsClean script image
is_clean script image units made fresh tuples app =
    let e = fresh.image_is in
    subst (IsClean script) (sym e) (clean_of script units (subst (λ (i : List ℕ). MadeFor (volume_over script i) (devices_of i) script.block) e made) fresh.layout (subst (λ (i : List ℕ). is_zero (volume_over script i).ty ≡ false) e tuples) (subst (λ (i : List ℕ). as_expected (setting_over script i) 0 ≡ true) e app))

is_clean_where_read : (script : Script) (image : List ℕ) (units : List UnitSpec) → IsFresh units image → is_zero (volume_over script image).ty ≡ false → as_expected (setting_over script image) 0 ≡ true → IsCleanWhereRead script image
is_clean_where_read script image units fresh tuples app =
    let e = fresh.image_is in
    let whole = formatted units in
    subst (IsCleanWhereRead script) (sym e)
    (on_clean_devices (setting_over script whole) (devices_of whole) (blocks_in whole) (all_clean script units fresh.layout (subst (λ (i : List ℕ). is_zero (volume_over script i).ty ≡ false) e tuples) (subst (λ (i : List ℕ). as_expected (setting_over script i) 0 ≡ true) e app)))

-- a script without faults over it
faultless : (script : Script) (image image' : List ℕ) (units : List UnitSpec) (run : Finished) → RanOver script image image' run → IsFresh units image → as_expected (setting_over script image) 0 ≡ true → IsStill script → IsFaultless script image
faultless script image image' units run o fresh app p = record {
  faults = p.faults;
  overwrites = p.overwrites;
  clean = λ v l tuples. is_clean script image units o.made fresh tuples app v l tuples;
  no_escape = none_supplied (setting_over script image) 1 script.ops (opening_over script image) p.escapes;
}

-- ---- a mirror

-- what a run on a mirror did
pub record MirroredOver (script : Script) (image image' : List ℕ) (run : Mirrored) : Type 0 where
  pub left : List Stored
  pub after : IsAfter image image' left
  pub made : MadeFor (volume_over script image) (devices_of image) script.block
  pub served : HasServedMirror script (devices_of image) (own_units image) left run.mirror.state.pool run.mirror.replies.items run.mirror.state.marks.items run.repair.repaired run.repair.lost
  pub legs : OnIntactLegs script (devices_of image) (own_units image) left run.repair.lost

mirrored_over : (script : Script) (image text image' : List ℕ) (f : Facts) (name : List ℕ) (run : Mirrored) → IsCalled Mirror image text image' f → head_fault (head_of image) ≡ None → HasMirrored run script name f.rig f.rig_after → MirroredOver script image image' run
mirrored_over script image text image' f name run called right r =
    let ds : r.devices ≡ devices_of image = image_devices name r.devices f.rig r.told image r.asked called.image_is in
    let us = own_units image in
    let units : r.told.units ≡ Some us = units_asked name r.devices f.rig r.told image called.image_is r.asked in
    let s = got_served run script name f.rig f.rig_after us r units called.faults in
    let e = got_intact run script name f.rig f.rig_after us r units called.faults in
    record {
      left = s.0;
      made = subst (λ (d : List DeviceInfo). MadeFor (table_over script.entries d) d script.block) ds r.bound.made;
      after = told_after Mirror image text image' f name r.devices r.told called right r.asked r.ended.stretches.standing s.0 s.1.0;
      served = subst (λ (d : List DeviceInfo). HasServedMirror script d us s.0 run.mirror.state.pool run.mirror.replies.items run.mirror.state.marks.items run.repair.repaired run.repair.lost) ds s.1.1;
      legs = subst (λ (left : List Stored). OnIntactLegs script (devices_of image) us left run.repair.lost) (one_left e.0 s.0 (sym e.1.0 ∙ s.1.0))
          (subst (λ (d : List DeviceInfo). OnIntactLegs script d us e.0 run.repair.lost) ds e.1.1);
    }
  where
    one_left : (a b : List Stored) → Some a ≡ Some b → a ≡ b
    one_left a b e = cc

mirrored : (script : Script) (image image' text' : List ℕ) (run : Mirrored) (result : Status) → head_fault (head_of image) ≡ None → MirroredOver script image image' run → result ≡ done_status (is_any_lost run.mirror.replies.items run.repair.lost) →
    text' ≡ mirror_text run.mirror.replies.items run.repair.repaired run.repair.lost → IsMirrored script image result text' image'
mirrored script image image' text' run result right o st tx =
    let w = o.served in
    let said = replied_on_mirror script image in
    let done = mended_over script image in
    record {
      status_is = st ∙ ap (λ rs. done_status (is_any_lost rs run.repair.lost)) w.replies_are ∙ ap (λ k. done_status (is_any_lost said k)) w.lost_is;
      report_is = tx ∙ ap (λ rs. mirror_text rs run.repair.repaired run.repair.lost) w.replies_are ∙ ap (λ k. mirror_text said k run.repair.lost) w.repaired_is ∙ ap (mirror_text said done.repaired) w.lost_is;
      image_is = image_after image image' o.left done.blocks right o.after w.blocks;
    }

mended_by : (script : Script) (image image' text' : List ℕ) (run : Mirrored) (result : Status) → (o : MirroredOver script image image' run) → IsMirrored script image result text' image' → WasEnough script (devices_of image) (own_units image) o.left run.repair.lost → IsMended script image text' image'
mended_by script image image' text' run result o is w = record {
  report_is = is.report_is ∙ ap (mirror_text (replied_on_mirror script image) (mended_over script image).repaired) (sym o.served.lost_is ∙ w.lost_none);
  reads = w.reads;
  equal = subst (BothHoldLast script (devices_of image) (own_units image)) o.after.units w.equal;
}

mended : (script : Script) (image image' text' : List ℕ) (run : Mirrored) (result : Status) → MirroredOver script image image' run → IsMirrored script image result text' image' → HasGoodLegs script image → AreEqualLegs script image → IsMended script image text' image'
mended script image image' text' run result o is p legs =
    let premise : IsOneGoodRun script (devices_of image) (own_units image) = record {
      ty = p.ty;
      protect = p.protect;
      clean = legs.clean;
      equal = legs.equal;
      no_escape = p.no_escape;
      accounted = p.accounted;
      kept = p.kept;
      one_good = p.one_good;
    } in
    mended_by script image image' text' run result o is (o.legs.enough premise)

mended_formed : (script : Script) (image image' text' : List ℕ) (run : Mirrored) (result : Status) → MirroredOver script image image' run → IsMirrored script image result text' image' → HasFormedLegs script image → AreEqualLegs script image → IsMended script image text' image'
mended_formed script image image' text' run result o is p legs =
    let premise : IsFormedMirror script (devices_of image) (own_units image) = record {
      ty = p.ty;
      protect = p.protect;
      form = p.form;
      a_leg = p.a_leg;
      escapes = p.escapes;
      clean = legs.clean;
      equal = legs.equal;
    } in
    mended_by script image image' text' run result o is (o.legs.formed premise)

mended_still : (script : Script) (image image' text' : List ℕ) (run : Mirrored) (result : Status) → MirroredOver script image image' run → IsMirrored script image result text' image' → HasStillLegs script image → AreEqualLegs script image → IsMended script image text' image'
mended_still script image image' text' run result o is p legs =
    let premise : IsStillMirror script (devices_of image) (own_units image) = record {
      ty = p.ty;
      faults = p.still.faults;
      overwrites = p.still.overwrites;
      escapes = p.still.escapes;
      clean = legs.clean;
      equal = legs.equal;
    } in
    mended_by script image image' text' run result o is (o.legs.still premise)

-- so are both legs over the image that `format` left
fresh_legs : (script : Script) (image image' : List ℕ) (units : List UnitSpec) (run : Mirrored) → MirroredOver script image image' run → IsFresh units image → as_expected (mirror_over script image) 0 ≡ true → (volume_over script image).ty ≡ One → AreEqualLegs script image
fresh_legs script image image' units run o fresh app one =
    let e = fresh.image_is in
    let made : MadeFor (volume_over script (formatted units)) (devices_of (formatted units)) script.block = subst (λ (i : List ℕ). MadeFor (volume_over script i) (devices_of i) script.block) e o.made in
    let ty : (volume_over script (formatted units)).ty ≡ One = subst (λ (i : List ℕ). (volume_over script i).ty ≡ One) e one in
    subst (AreEqualLegs script) (sym e) (record {
      clean = clean_of script units made fresh.layout (ap is_zero ty) (subst (λ (i : List ℕ). as_expected (setting_over script i) 0 ≡ true) e app);
      equal = equal_legs script units fresh.layout made ty;
    })

-- ---- the headline

pub headlined : (way : Way) (image text image' text' : List ℕ) (f : Facts) (o n : ℕ) (result : Status) → IsCalled way image text image' f → (result ≡ status.Memory → ⊥) → (result ≡ status.WriteFault → ⊥) → Carries f (Some []) (Some text') o n result →
    Headline way image text result text' image'
headlined way image text image' text' f o n result called memory sink carries = record {
  refused = λ why first. refused_at way why called carries first;
  ran = λ script is right fits.
      let c = run_at script is right fits in
      let over = over_at script is right fits c in
      record {
        walked = walked script image image' text' c.run result right over c.status_is c.text_is;
        plain = plain script image image' text' c.run right called.bytes over c.text_is;
        found = found script image image' text' c.run over c.text_is;
        shown = shown script image image' text' c.run over c.text_is;
        known = known script image image' text' c.run over c.text_is;
        accounted = accounted script image image' text' c.run over c.text_is;
      };
  mirrored = λ script is right fits.
      let c = mirror_at script is right fits in
      let over = mirror_over_at script is right fits c in
      let done = mirrored script image image' text' c.run result right over c.status_is c.text_is in
      record {
        walked = done;
        mended = mended script image image' text' c.run result over done;
        mended_formed = mended_formed script image image' text' c.run result over done;
        mended_still = mended_still script image image' text' c.run result over done;
      };
  fresh_ran = λ script units is fresh fits app.
      let right = fresh_head units fresh in
      let c = run_at script is right fits in
      let over = over_at script is right fits c in
      record {
        plain = λ p. plain script image image' text' c.run right called.bytes over c.text_is (faultless script image image' units c.run over fresh app p);
        found = λ p. found script image image' text' c.run over c.text_is p (is_clean script image units over.made fresh (ap is_zero p.ty) app);
        shown = λ p. shown script image image' text' c.run over c.text_is p (is_clean_where_read script image units fresh (ap is_zero p.ty) app);
        known = λ p. known script image image' text' c.run over c.text_is p (is_clean script image units over.made fresh (ap is_zero p.ty) app);
        accounted = λ p. accounted script image image' text' c.run over c.text_is p (is_clean_where_read script image units fresh (ap is_zero p.ty) app);
      };
  fresh_mirrored = λ script units is fresh fits app.
      let right = fresh_head units fresh in
      let c = mirror_at script is right fits in
      let over = mirror_over_at script is right fits c in
      let done = mirrored script image image' text' c.run result right over c.status_is c.text_is in
      let legs = fresh_legs script image image' units c.run over fresh app in
      record {
        mended = λ p. mended script image image' text' c.run result over done p (legs p.ty);
        mended_formed = λ p. mended_formed script image image' text' c.run result over done p (legs p.ty);
        mended_still = λ p. mended_still script image image' text' c.run result over done p (legs p.ty);
      };
}
  where
    refused_at : (w : Way) (why : Stop) → IsCalled w image text image' f → Carries f (Some []) (Some text') o n result → first_fault w image text ≡ Some why → IsRefused why image result text' image'
    refused_at Run why at given first = refused_run why image text image' text' f o n result at memory sink given first
    refused_at Mirror why at given first = refused_mirror why image text image' text' f o n result at memory sink given first

    fresh_head : (units : List UnitSpec) → IsFresh units image → head_fault (head_of image) ≡ None
    fresh_head units fresh = ap (λ i. head_fault (head_of i)) fresh.image_is ∙ right_head units fresh.layout

    run_at : (script : Script) → way ≡ Run → head_fault (head_of image) ≡ None → FitsImage script image text → CameToRun script f result text'
    run_at script is right fits = came_to_run script image text image' text' f o n result (subst (λ w. IsCalled w image text image' f) is called) right fits memory sink carries

    over_at : (script : Script) → way ≡ Run → head_fault (head_of image) ≡ None → FitsImage script image text → (c : CameToRun script f result text') → RanOver script image image' c.run
    over_at script is right fits c = ran_over script image text image' f _ c.run (subst (λ w. IsCalled w image text image' f) is called) right c.ran

    mirror_at : (script : Script) → way ≡ Mirror → head_fault (head_of image) ≡ None → FitsMirror script image text → CameToMirror script f result text'
    mirror_at script is right fits = came_to_mirror script image text image' text' f o n result (subst (λ w. IsCalled w image text image' f) is called) right fits memory sink carries

    mirror_over_at : (script : Script) → way ≡ Mirror → head_fault (head_of image) ≡ None → FitsMirror script image text → (c : CameToMirror script f result text') → MirroredOver script image image' c.run
    mirror_over_at script is right fits c = mirrored_over script image text image' f _ c.run (subst (λ w. IsCalled w image text image' f) is called) right c.ran

-- ---- what a call answers

spared : (s : Status) → wants_memory s ≡ false → (s ≡ status.Memory → ⊥) × (s ≡ status.WriteFault → ⊥)
spared s h = (λ e. let k : true ≡ false = ap wants_memory (sym e) ∙ h in absurd (cc), λ e. let k : true ≡ false = ap wants_memory (sym e) ∙ h in absurd (cc))

-- the headline of a call, by what its parts tell
pub headlined_by : (way : Way) (image text image' text' : List ℕ) (f : Facts) (taken taken' : Option (List ℕ)) (o n : ℕ) (result answer : Status) → Carries f taken taken' o n result → IsTold f.rig_after.standing f.rig_after.image f.rig_after.units f.rig_after.faults →
    f.words ≡ words_for way → f.left ≡ Some text → Calm f.reads f.reads_after → f.rig.image ≡ Some image → All (λ x. x < 256) image → f.rig_after.image ≡ Some image' → answer ≡ result → taken ≡ Some [] → taken' ≡ Some text' → wants_memory result ≡ false →
    Headline way image text answer text' image'
headlined_by way image text image' text' f taken taken' o n result answer carries told words left reads held bytes after_is same began ended spare =
    let called : IsCalled way image text image' f = record { words = words; text_is = left; reads = reads; image_is = held; left_is = after_is; faults = told.calm; laid = told.laid; standing = told.stands; bytes = bytes } in
    let good = spared result spare in
    subst (λ (s : Status). Headline way image text s text' image') (sym same)
    (headlined way image text image' text' f o n result called good.0 good.1 (subst (λ (t : Option (List ℕ)). Carries f (Some []) t o n result) ended (subst (λ (t : Option (List ℕ)). Carries f t taken' o n result) began carries)))

-- an answer that has these parts has what follows from them
pub answered : {X E : Type 0} (r : Result X E) (P Q R S : X → Type 0) → IfOk r P → IfOk r Q → IfOk r R → ((x : X) → P x → Q x → R x → S x) → IfOk r S
answered (Ok x) P Q R S p q t f = f x p q t
answered (Err e) P Q R S p q t f = tt

-- Over the formatted image of the two units a rig tells these units, and a generated script is one on a plain map.
use Rattle.std.proofs.Common.{ℕ, ◌≡◌, List, [], ◌∷◌, ◌++◌, length, take, map, Some, refl, ap, subst, ◌∙◌}
use Rattle.std.proofs.lemmas.List.{drop_at, take_at}
use Rattle.pi_tuple.specs.declared.checks.PiType.TheVariants.{One}
use Rattle.dix_adapter.specs.Ways.{cell_in, shapes_of}
use Rattle.rig_api.specs.Head.{IsHeadOf, head_of, specs_under, units_of}
use Rattle.rig_api.specs.Telling.{Standing, specs_of, units_told}
use Rattle.rig_api.specs.State.{RigState}
use Rattle.rig_discovery.specs.Discovery.{info_of}
use Rattle.run_command.specs.Passed.{none_fails, device_of}
use Rattle.script_text.specs.Generator.{big, big_entries}
use Rattle.run_command.specs.Premises.{IsPlainRun, opening_told}
use Rattle.run_command.specs.Verdict.{HasTable, WasAsked}
use Rattle.rig_api.specs.Headers.{header, specs_in, version_of}
use Rattle.rig_api.specs.Image.{formatted, fresh_bytes, units_from, units_in}
use Rattle.rig_api.specs.declared.units.UnitSpec.{UnitSpec}
use Rattle.rig_api.specs.declared.units.Version.TheVariants.{First}
use Rattle.volume_table.specs.Faults.{volume_type}
use Rattle.volume_table.specs.Tables.{MadeFor, Table}
use Rattle.volume_table.specs.declared.device.DeviceInfo.{DeviceInfo}
use Rattle.big_run.specs.Plain.{big_replies, big_setting, big_table, big_unit, big_units, fresh_unit}
use Rattle.big_run.proofs.Fresh.{infos_are, shapes_are, units_found}
use Rattle.big_run.proofs.Quiet.{AreQuiet, are_clean, none_escapes, none_overwrites, replies_quiet}

abbrev pub two : List UnitSpec
two = big_unit ∷ big_unit ∷ []

-- ---- the image

head_long : length (header First two) ≡ 512
unfolding header
head_long = refl

head_tells : specs_under (version_of (take 8 (header First two))) (header First two) ≡ two
unfolding header specs_in
head_tells = refl

head_first : (rest : List ℕ) → units_of (head_of (header First two ++ rest)) ≡ two
head_first rest = ap (λ first. specs_under (version_of (take 8 first)) first) (take_at (header First two) rest 512 head_long) ∙ head_tells

units_are : units_of (head_of (formatted two)) ≡ two
unfolding formatted
units_are = head_first (fresh_bytes two)

blocks_are : units_in two (formatted two) ≡ map fresh_unit two
unfolding formatted
blocks_are = ap (units_from two) (drop_at (header First two) (fresh_bytes two) 512 head_long) ∙ units_found two

-- ---- what is told

fresh_two : map fresh_unit two ≡ big_units
unfolding big_units
fresh_two = refl

shapes_two : shapes_of big_units ≡ two
unfolding big_units
shapes_two = shapes_are two

infos_two : map device_of big_units ≡ map info_of two
unfolding big_units
infos_two = infos_are two

specs_two : (s : Standing) → s.devices ≡ length (units_of s.head) → units_of s.head ≡ two → specs_of s ≡ two
specs_two s n e = ap (λ k. take k (units_of s.head)) n ∙ ap (λ (us : List UnitSpec). take (length us) us) e

pub told_two : (name : List ℕ) (devices : List DeviceInfo) (old told : RigState) → old.image ≡ Some (formatted two) → WasAsked name devices old told → told.units ≡ Some big_units
told_two name devices old told e asked =
    let between = asked.told.between in
    let since = asked.told.since in
    let image : between.image ≡ Some (formatted two) = since.kept.image ∙ e in
    let head : between.standing.head ≡ head_of (formatted two) = subst (IsHeadOf between.standing.head) image since.opened.head in
    let all : between.standing.devices ≡ length (units_of between.standing.head) = subst (λ (s : Standing). s.devices ≡ length (units_of s.head)) since.standing asked.all in
    since.units ∙ since.laid ∙ ap (units_told between.standing) image ∙ ap (λ specs. Some (units_in specs (formatted two))) (specs_two between.standing all (ap units_of head ∙ units_are)) ∙ ap Some (blocks_are ∙ fresh_two)

devices_two : (name : List ℕ) (devices : List DeviceInfo) (old told : RigState) → old.image ≡ Some (formatted two) → WasAsked name devices old told → devices ≡ map info_of two
devices_two name devices old told e asked = asked.told.devices_are.told big_units (told_two name devices old told e asked) ∙ infos_two

-- ---- the volume

same_table : (t : Table) → t.entries ≡ big_entries → t.ty ≡ One → t ≡ big_table
same_table t a b = ap (λ es. record { entries = es; ty = t.ty }) a ∙ ap (λ ty. record { entries = big_entries; ty = ty }) b

pub table_two : (n seed : ℕ) (name : List ℕ) (devices : List DeviceInfo) (table : Table) (old told : RigState) → old.image ≡ Some (formatted two) → WasAsked name devices old told → HasTable (big n seed) devices table → table ≡ big_table
table_two n seed name devices table old told e asked has = same_table table has.entries (has.ty ∙ ap (volume_type big_entries) (devices_two name devices old told e asked))

made_two : (n seed : ℕ) (name : List ℕ) (devices : List DeviceInfo) (table : Table) (old told : RigState) → old.image ≡ Some (formatted two) → WasAsked name devices old told → HasTable (big n seed) devices table → MadeFor big_table (map info_of two) 512
made_two n seed name devices table old told e asked has =
    subst (λ t. MadeFor t (map info_of two) 512) (table_two n seed name devices table old told e asked has) (subst (λ ds. MadeFor table ds 512) (devices_two name devices old told e asked) has.made)

-- ---- the run

plain_over : (n seed : ℕ) → MadeFor big_table (map info_of two) 512 → IsPlainRun (big n seed) big_table big_units
unfolding big_units
plain_over n seed made = record {
  quiet = record {
    faults = refl;
    overwrites = none_overwrites n seed;
    clean = are_clean (big_setting n seed).site none_fails big_table two refl made (refl, refl, (refl, refl, tt)) (ap (λ us. cell_in us) shapes_two);
  };
  no_escape = none_escapes (big_setting n seed).site none_fails 1 n seed (opening_told (big n seed) big_units);
}

pub plain_two : (n seed : ℕ) (name : List ℕ) (devices : List DeviceInfo) (table : Table) (old told : RigState) → old.image ≡ Some (formatted two) → WasAsked name devices old told → HasTable (big n seed) devices table → IsPlainRun (big n seed) big_table big_units
plain_two n seed name devices table old told e asked has = plain_over n seed (made_two n seed name devices table old told e asked has)

pub quiet_two : (n seed : ℕ) → AreQuiet (big_replies n seed)
quiet_two n seed = replies_quiet (big_setting n seed).site none_fails 1 n seed _

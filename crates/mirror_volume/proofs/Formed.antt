-- A bound script on a mirror whose faults have the form: all that one good leg asks.
use Rattle.std.proofs.Common.{◌≡◌, ◌<◌, ℕ, ◌*◌, true, false, not, List, [], ◌∷◌, arith, length, ap}
use Rattle.std.specs.List.{list_all, list_any}
use Rattle.std.proofs.lemmas.Bool.{and_parts, not-true}
use Rattle.std.proofs.lemmas.List.Elements.{All-replicate}
use Rattle.dix_adapter.specs.Ways.{blocks_told}
use Rattle.stack_ops.specs.declared.op.Op.{Op}
use Rattle.stack_ops.specs.declared.op.Op.TheVariants.{Fetch, FetchPi, Fill, Overwrite, Put, Seal, Show, Wait, Write, WritePi}
use Rattle.rig_api.specs.Target.{Stored}
use Rattle.volume_table.specs.Places.{place_in, volume_len}
use Rattle.volume_table.specs.declared.device.DeviceInfo.{DeviceInfo}
use Rattle.block_path.specs.Acts.{State}
use Rattle.block_path.specs.Routes.{target}
use Rattle.mirror_laws.specs.declared.marks.Marks.{Marks}
use Rattle.script_text.specs.declared.script.Script.{Script}
use Rattle.script_laws.specs.Keeping.{Each, IsOp as KeepsRules}
use Rattle.script_stack.proofs.Passed.{cell-there, are-bytes}
use Rattle.script_stack.specs.Causes.{table_of}
use Rattle.walk_laws.specs.CalmRun.{LiesInImage}
use Rattle.walk_laws.specs.Detectable.{accounted}
use Rattle.walk_laws.specs.Settings.{Setting}
use Rattle.walk_laws.specs.UnderMap.{NoneEscapes, home}
use Rattle.stack_ops.specs.Ops.{is_overwrite}
use Rattle.mirror_form_laws.specs.Passed.{supplies_none}
use Rattle.mirror_laws.specs.OneGood.{AreBytes, OneGood, loses_none, script_asks}
use Rattle.mirror_form_laws.specs.Forms.{is_good_on_legs, spares_other_leg}
use Rattle.mirror_form_laws.specs.FormedMirror.{AllPutBytes, HasFormedLegs, HasStillLegs, PutsBytes, ServesLast}
use Rattle.mirror_volume.proofs.Ground.{fits, legs, made-over, sizes}
use Rattle.mirror_volume.specs.Standing.{IsMirrorOver, IsRepairedAs, half_of, mirror_setting}
use Rattle.mirror_volume.specs.Enough.{AllReadLast, WasEnough, opening_over}
use Rattle.mirror_volume.specs.Premises.{HoldsBytes, IsFormedMirror, IsOneGoodRun, IsStillMirror}
use Rattle.mirror_volume.proofs.Enough.{enough-by}
use Rattle.mirror_volume.proofs.Premises.{all-bound, checked-over, dif-on, has-cells, lies-on}
use Rattle.small_laws.proofs.Numbers.{even_size as even}
use Rattle.script_form_laws.proofs.Formed.{lines-bytes}

-- what the laws of the form say
abbrev pub FormLaw : Type 0
FormLaw = (m : Setting) (devices : List DeviceInfo) (half : ℕ) (ops : List Op) (opening : State) → HasFormedLegs m devices half ops opening → accounted m (script_asks m half ops opening) opening ≡ true

abbrev pub KeptLaw : Type 0
KeptLaw = (m : Setting) (devices : List DeviceInfo) (half : ℕ) (ops : List Op) (opening : State) → HasFormedLegs m devices half ops opening → loses_none m (script_asks m half ops opening) ≡ true

abbrev pub EscapeLaw : Type 0
EscapeLaw = (m : Setting) (half : ℕ) (ops : List Op) (opening : State) → list_all supplies_none ops ≡ true → NoneEscapes m (script_asks m half ops opening) opening

abbrev pub LegLaw : Type 0
LegLaw = (m : Setting) (half : ℕ) (ops : List Op) (opening : State) → list_all (spares_other_leg half ops m.site.faults) m.site.faults ≡ true → list_any is_overwrite ops ≡ false → OneGood m half ops opening

abbrev pub StillLaw : Type 0
StillLaw = (m : Setting) (devices : List DeviceInfo) (half : ℕ) (ops : List Op) (opening : State) → HasStillLegs m devices half ops opening → ServesLast m half ops opening

-- ---- bytes

puts-op : (dix : _) (pages size : ℕ) (op : Op) → KeepsRules dix pages size op → PutsBytes op
puts-op dix pages size (Fill seg byte) k = k.ranges
puts-op dix pages size (Put page off bytes) k = are-bytes bytes k.ranges.0
puts-op dix pages size (Show seg) k = tt
puts-op dix pages size (Seal n body tuples app rtag) k = tt
puts-op dix pages size (Write v n body app) k = tt
puts-op dix pages size (Fetch v n body) k = tt
puts-op dix pages size (WritePi v n body tuples) k = tt
puts-op dix pages size (FetchPi v n body tuples) k = tt
puts-op dix pages size (Overwrite dev lba change) k = tt
puts-op dix pages size Wait k = tt

puts-each : (dix : _) (pages size : ℕ) (ops : List Op) → Each (KeepsRules dix pages size) ops → AllPutBytes ops
puts-each dix pages size [] h = tt
puts-each dix pages size (op ∷ ops) h = (puts-op dix pages size op h.0, puts-each dix pages size ops h.1)

-- ---- over units

module _ (s : Script) (devices : List DeviceInfo) (us : List Stored) (is : IsMirrorOver s devices us) where
  abbrev m : Setting
  m = mirror_setting s devices us

  lies-in : HoldsBytes us → LiesInImage m (volume_len m.entries) (blocks_told us)
  lies-in bytes =
      let t = table_of s devices in
      let made = made-over s devices us is in
      record {
        within = λ v l. cell-there s t us (place_in t.entries v).0 (place_in t.entries v).1 (made.inside v l);
        apart = (legs s devices us is).one_cell_each;
        size = (sizes s devices us is).stored;
        bytes = λ v l. bytes (home m v) [] (cell-there s t us (place_in t.entries v).0 (place_in t.entries v).1 (made.inside v l));
      }

  pub leg-bytes : HoldsBytes us → AreBytes m (half_of s devices) (blocks_told us)
  leg-bytes bytes u l = let g = (fits s devices us is).long in (lies-in bytes).bytes u (omega (arith, g, l))

  formed-legs : EscapeLaw → HoldsBytes us → IsFormedMirror s devices us → HasFormedLegs m devices (half_of s devices) s.ops (opening_over s us)
  formed-legs none bytes p = record {
    checked = checked-over s devices us is p.ty p.protect;
    even = even s.block is.bound.keeps.block_is;
    flips = lines-bytes s.block s.ops s.faults is.bound.keeps.faults_are;
    pages = All-replicate (λ x. x < 256) (4096 * s.pages) 0 (omega arith);
    long = (fits s devices us is).long;
    lies = lies-in bytes;
    clean = p.clean;
    bind = all-bound s devices us is;
    puts = puts-each s.mode.dix s.pages s.block s.ops is.bound.keeps.ops_are;
    no_escape = none m (half_of s devices) s.ops (opening_over s us) p.escapes;
    form = p.form;
  }

  pub good-run : FormLaw → KeptLaw → EscapeLaw → LegLaw → HoldsBytes us → IsFormedMirror s devices us → IsOneGoodRun s devices us
  good-run known kept none one bytes p =
      let form = and_parts (list_all (is_good_on_legs s.mode.kind s.block (half_of s devices) s.faults s.ops) s.faults) (not (list_any is_overwrite s.ops)) p.form in
      record {
        ty = p.ty;
        protect = p.protect;
        clean = p.clean;
        equal = p.equal;
        no_escape = none m (half_of s devices) s.ops (opening_over s us) p.escapes;
        accounted = known m devices (half_of s devices) s.ops (opening_over s us) (formed-legs none bytes p);
        kept = kept m devices (half_of s devices) s.ops (opening_over s us) (formed-legs none bytes p);
        one_good = one m (half_of s devices) s.ops (opening_over s us) p.a_leg (not-true _ form.1);
      }

  -- ---- without faults

  pub still-legs : HoldsBytes us → IsStillMirror s devices us → HasStillLegs m devices (half_of s devices) s.ops (opening_over s us)
  still-legs bytes p = record {
    ty = p.ty;
    dix = (fits s devices us is).dix;
    dif = dif-on s devices us is;
    protect = (sizes s devices us is).protect;
    faults = p.faults;
    device = ap target p.faults;
    long = (fits s devices us is).long;
    lies = lies-on s devices us is;
    cells = has-cells s devices us is;
    clean = p.clean;
    equal = p.equal;
    bytes = leg-bytes bytes;
    bind = all-bound s devices us is;
    overwrites = p.overwrites;
    escapes = p.escapes;
  }

  pub still-reads : StillLaw → HoldsBytes us → IsStillMirror s devices us → AllReadLast s devices us
  still-reads law bytes p = (law m devices (half_of s devices) s.ops (opening_over s us) (still-legs bytes p)).reads

  pub still-enough : StillLaw → (left : List Stored) (marks : List Marks) (repaired lost : ℕ) → HoldsBytes us → IsStillMirror s devices us → IsRepairedAs s devices us (length s.ops) marks repaired lost left → WasEnough s devices us left lost
  still-enough law left marks repaired lost bytes p done_as =
      let serves = law m devices (half_of s devices) s.ops (opening_over s us) (still-legs bytes p) in
      enough-by s devices us left marks repaired lost serves.reads serves.repaired done_as

-- A block of a mirror of which nothing alters a leg: where it stands, what is known of its requests on both legs, and what it has when the script begins.
use Rattle.std.proofs.Common.{◌≡◌, ◌<◌, inl, ℕ, ◌+◌, Bool, true, false, not, List, [], ◌∷◌, length, refl, sym, ap, subst, ◌∙◌, arith, length-append}
use Rattle.std.proofs.lemmas.Bool.{false_from_ne_true}
use Rattle.std.proofs.lemmas.List.{length-take-le}
use Rattle.fault_schedule.specs.declared.fault.Crossing.TheVariants.{MediumToTarget, TargetToMedium}
use Rattle.pi_tuple.specs.Finds.{has_ref_tag, is_escaped}
use Rattle.pi_tuple.specs.declared.checks.PiType.{PiType}
use Rattle.rig_api.specs.Frames.{stored_size, tuple_of}
use Rattle.rig_api.specs.Target.{Stored, shape_of}
use Rattle.rig_api.specs.declared.units.UnitSpec.{UnitSpec}
use Rattle.volume_table.specs.Places.{place_in}
use Rattle.volume_table.specs.Tables.{Table}
use Rattle.volume_table.specs.declared.device.DeviceInfo.{DeviceInfo}
use Rattle.dix_adapter.specs.Ways.{blocks_told, shapes_of}
use Rattle.block_path.proofs.Cells.{below}
use Rattle.run_laws.proofs.Passed.{below_take}
use Rattle.stack_ops.specs.Ops.{first_virt}
use Rattle.small_laws.proofs.Numbers.{even_size}
use Rattle.walk_laws.specs.FirstLayer.{has_flip, is_stored_whole}
use Rattle.walk_laws.specs.Past.{Brought, brought_by}
use Rattle.walk_laws.specs.Settings.{Block, Setting}
use Rattle.walk_laws.specs.UnderMap.{home}
use Rattle.walk_laws.proofs.TupleFrames.{frame_small}
use Rattle.run_laws.specs.ShownRun.{IsChecked}
use Rattle.script_text.specs.declared.script.Script.{Script}
use Rattle.script_form_laws.proofs.Formed.{lines-bytes}
use Rattle.script_stack.proofs.Octets.{block_octets}
use Rattle.mirror_laws.specs.Mirror.{blocks_in, fresh}
use Rattle.mirror_laws.specs.declared.marks.Marks.{Marks}
use Rattle.mirror_laws.specs.OneGood.{IsUnnamed, on_leg}
use Rattle.mirror_volume.specs.LegsPassed.{none_fails, setting_of, table_of}
use Rattle.mirror_volume.specs.Spared.{IsAltered, IsFoundFrom, IsUnaltered, has_block, named_on, place_on, stored_on}
use Rattle.mirror_volume.specs.Enough.{opening_over}
use Rattle.mirror_volume.specs.Premises.{HoldsBytes}
use Rattle.mirror_volume.specs.Standing.{IsMirrorOver, half_of, mirror_setting, op_at}
use Rattle.mirror_volume.proofs.Free.{SoundAs}
use Rattle.mirror_volume.proofs.Ground.{fits, legs, sizes}
use Rattle.mirror_volume.proofs.Premises.{checked-over, has-cells, lies-on}
use Rattle.mirror_volume.proofs.SparedFree.{is-free, is-shown-block}
use Rattle.mirror_volume.proofs.SparedWrites.{Has, IsFree, IsShown, has-more}

-- units of the same shapes have as many blocks
pub as-many : (us vs : List Stored) → shapes_of vs ≡ shapes_of us → length (blocks_told vs) ≡ length (blocks_told us)
as-many [] [] e = refl
as-many [] (v ∷ vs) e = absurd cc
as-many (u ∷ us) [] e = absurd cc
as-many (u ∷ us) (v ∷ vs) e =
    let one : shape_of v ≡ shape_of u = cc in
    let rest : shapes_of vs ≡ shapes_of us = cc in
    let first : length v.blocks ≡ length u.blocks = ap (λ (z : UnitSpec). z.blocks) one in
    let others = as-many us vs rest in
    let a = length-append v.blocks (blocks_told vs) in
    let b = length-append u.blocks (blocks_told us) in
    omega (arith, a, b, first, others)

-- a leg's block lies on the volume
pub leg-inside : (leg : Bool) (u half : ℕ) → u < half → on_leg leg u (half + u) < half + half
leg-inside false u half l = omega (arith, l)
leg-inside true u half l = omega (arith, l)

-- A line alters it on its way to the medium on the other leg.
abbrev pub Altered : Script → List DeviceInfo → List Stored → (u : ℕ) → (leg : Bool) → Type 0
Altered s devices us u leg = (k : ℕ) × IsAltered s devices us (not leg) u k TargetToMedium

-- The target's check finds it on the other leg, from op k on.
abbrev pub Stopped : Script → List DeviceInfo → List Stored → (u : ℕ) → (leg : Bool) → (k : ℕ) → List ℕ → Type 0
Stopped s devices us u leg k x = IsFoundFrom s devices us (not leg) u k x

-- what it has before op k, over these blocks and with these marks
abbrev pub HasLeg : Script → List DeviceInfo → List Stored → (u : ℕ) → (leg : Bool) → (k : ℕ) → Brought → List (List ℕ) → Marks → Type 0
HasLeg s devices us u leg k e blocks marks = Has (mirror_setting s devices us) s.block (half_of s devices) u leg (Altered s devices us u leg) (Stopped s devices us u leg k) e blocks marks

-- What it has it has still before the next op.
pub has-later : (s : Script) (devices : List DeviceInfo) (us : List Stored) (u : ℕ) (leg : Bool) (k : ℕ) (e : Brought) (blocks : List (List ℕ)) (marks : Marks) → HasLeg s devices us u leg k e blocks marks → HasLeg s devices us u leg (k + 1) e blocks marks
has-later s devices us u leg k e blocks marks h =
    has-more (mirror_setting s devices us) s.block (half_of s devices) u leg (Altered s devices us u leg) (Stopped s devices us u leg k) (Stopped s devices us u leg (k + 1)) e blocks marks
    (λ x found j from under here. found j (omega (arith, from)) under here) h

module _ (s : Script) (devices : List DeviceInfo) (us : List Stored) (over : IsMirrorOver s devices us) where
  abbrev m : Setting
  m = mirror_setting s devices us

  abbrev half : ℕ
  half = half_of s devices

  abbrev t : Table
  t = table_of s devices

  -- ---- over units of the same shapes

  module _ (now : List Stored) (same : shapes_of now ≡ shapes_of us) where
    pub same-setting : mirror_setting s devices now ≡ mirror_setting s devices us
    same-setting = ap (λ (units : List UnitSpec). setting_of s t units none_fails) same

    pub homes-apart : (v w : ℕ) → v < half + half → w < half + half → home (mirror_setting s devices now) v ≡ home (mirror_setting s devices now) w → v ≡ w
    homes-apart v w l k e =
        let long = (fits s devices us over).long in
        (legs s devices us over).one_cell_each v w (omega (arith, l, long)) (omega (arith, k, long))
        (subst (λ (x : Setting). home x v ≡ home x w) same-setting e)

    pub home-inside : (v : ℕ) → v < half + half → home (mirror_setting s devices now) v < length (blocks_told now)
    home-inside v l =
        let long = (fits s devices us over).long in
        subst (λ (n : ℕ). home (mirror_setting s devices now) v < n) (sym (as-many us now same))
        (subst (λ (x : Setting). home x v < length (blocks_told us)) (sym same-setting)
        ((has-cells s devices us over).within (place_in t.entries v).0 (place_in t.entries v).1 ((lies-on s devices us over).inside v (omega (arith, l, long)))))

  -- ---- the block

  module _ (u : ℕ) (leg : Bool) (p : IsUnaltered s devices us u leg) where
    is-checked : IsChecked m
    is-checked = checked-over s devices us over p.ty p.protect

    -- a block of a request that no line names
    pub free : (b : Block) → IsUnnamed m b → is_stored_whole m b ≡ true → IsFree m s.block b
    free b h all = is-free m (opening_over s us) half (λ at op. (legs s devices us over).unshifted at op) is-checked b h all

    -- that of op k on its leg
    pub free-at : (k : ℕ) → k < length s.ops → has_block (first_virt (op_at s.ops k)) (blocks_in (op_at s.ops k)) u ≡ true → IsFree m s.block (named_on s devices leg u (op_at s.ops k) (k + 1))
    free-at k under here =
        free (named_on s devices leg u (op_at s.ops k) (k + 1)) (λ at. false_from_ne_true (has_flip m (named_on s devices leg u (op_at s.ops k) (k + 1)) at) (λ f. p.unnamed k at (record { under = under; here = here; flips = f })))
        (p.stored_whole k under here leg)

    -- and on the other
    pub shown-at : (k : ℕ) → k < length s.ops → has_block (first_virt (op_at s.ops k)) (blocks_in (op_at s.ops k)) u ≡ true → IsShown m s.block (Altered s devices us u leg) (Stopped s devices us u leg k) (named_on s devices (not leg) u (op_at s.ops k) (k + 1))
    shown-at k under here =
        let b = named_on s devices (not leg) u (op_at s.ops k) (k + 1) in
        is-shown-block m (opening_over s us) half (λ at op. (legs s devices us over).unshifted at op) is-checked (even_size s.block over.bound.keeps.block_is) (lines-bytes s.block s.ops s.faults over.bound.keeps.faults_are)
        (Altered s devices us u leg) (Stopped s devices us u leg k) b (λ x found. found k (omega arith) under here) (λ at f. p.shown k at (record { under = under; here = here; flips = f })) (λ f. (k, record { under = under; here = here; flips = f }))
        (λ altered. false_from_ne_true (has_flip m b MediumToTarget) (λ f. p.apart altered.0 k altered.1 (record { under = under; here = here; flips = f })))
        (p.stored_whole k under here (not leg))

    sound-at : (c : Bool) → SoundAs m (place_on s devices c u) (brought_by s.block (stored_on s devices us us c u)) (stored_on s devices us us c u)
    sound-at c =
        let long = (fits s devices us over).long in
        let v = place_on s devices c u in
        let l = leg-inside c u half p.inside in
        let is = p.clean c in
        record {
          sound = record {
            bare = record {
              size = (sizes s devices us over).stored v (omega (arith, l, long)) ∙ ap (λ (ty : PiType). stored_size ty s.block) p.ty;
              escape = subst (λ (ty : PiType). is_escaped ty (tuple_of s.block (stored_on s devices us us c u)) ≡ false) p.ty is.no_escape;
            };
            bears = record { guard = is.guard; rtag = is.rtag (ap has_ref_tag p.ty) };
            app = is.app;
          };
          brought = refl;
        }

    -- both legs have the same
    same-legs : (c d : Bool) → brought_by s.block (stored_on s devices us us c u) ≡ brought_by s.block (stored_on s devices us us d u)
    same-legs false false = refl
    same-legs false true = sym p.equal
    same-legs true false = p.equal
    same-legs true true = refl

    fresh-on : (c : Bool) → on_leg c fresh.leg0 fresh.leg1 ≡ true
    fresh-on false = refl
    fresh-on true = refl

    -- it has what a leg has
    pub begins : HoldsBytes us → HasLeg s devices us u leg 0 (brought_by s.block (stored_on s devices us us leg u)) (blocks_told us) fresh
    begins bytes =
        let other = sound-at (not leg) in
        let sound = (sound-at leg).sound in
        let octets = λ (c : Bool). below 256 (stored_on s devices us us c u) (block_octets (blocks_told us) (home m (place_on s devices c u)) bytes) in
        let x = stored_on s devices us us leg u in
        record {
          whole = record {
            size = (let long = sound.bare.size in length-take-le s.block x (omega (arith, long)));
            below = (frame_small s.block x sound.bare.size (octets leg)).app;
            bare = sound.bare.escape;
          };
          bytes = below_take 256 s.block x (octets leg);
          good = fresh-on leg;
          sound = sound-at leg;
          other = λ f. inl (record {
            fine = record { size = other.sound.bare.size; bytes = octets (not leg); escape = other.sound.bare.escape };
            either = inl (subst (λ (e : Brought). SoundAs m (place_on s devices (not leg) u) e (stored_on s devices us us (not leg) u)) (same-legs (not leg) leg) other);
          });
        }

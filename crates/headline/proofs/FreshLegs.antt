-- On a mirror over the image that `format` left both legs have the same data and application tags.
use Rattle.std.proofs.Common.{◌≡◌, ℕ, ◌+◌, ◌-◌, ◌/◌, ◌<◌, true, List, [], get_or, length, map, replicate, refl, sym, ap, subst, ◌∙◌, arith}
use Rattle.std.proofs.lemmas.List.{length-replicate}
use Rattle.pi_tuple.specs.Tuples.{ref_tag}
use Rattle.pi_tuple.specs.declared.checks.PiType.{PiType}
use Rattle.pi_tuple.specs.declared.checks.PiType.TheVariants.{One}
use Rattle.pi_tuple.specs.declared.tuple.Tuple.{Tuple}
use Rattle.pi_tuple.proofs.TupleLaws.{tag_below}
use Rattle.rig_api.specs.Headers.{is_layout}
use Rattle.rig_api.specs.Image.{formatted, fresh, units_in}
use Rattle.rig_api.specs.Target.{Stored}
use Rattle.rig_api.specs.declared.units.UnitSpec.{UnitSpec}
use Rattle.rig_api.specs.Telling.{own_units}
use Rattle.rig_discovery.specs.Discovery.{info_of}
use Rattle.volume_table.specs.Places.{place_in, volume_len}
use Rattle.volume_table.specs.Tables.{IsOn, MadeFor}
use Rattle.volume_table.specs.declared.device.DeviceInfo.{DeviceInfo}
use Rattle.dix_adapter.specs.Ways.{blocks_told, cell_in, shapes_of}
use Rattle.walk_laws.specs.Past.{brought_by}
use Rattle.walk_laws.specs.UnderMap.{address_of, home}
use Rattle.walk_laws.proofs.TupleFrames.{Small, data_is, tuple_is}
use Rattle.image_rig.proofs.Heads.{layout_parts}
use Rattle.script_form_laws.proofs.Fresh.{blocks_are, fresh_unit, shapes_are, cell_is}
use Rattle.script_text.specs.declared.script.Script.{Script}
use Rattle.image_laws.specs.Passed.{devices_of}
use Rattle.headline.specs.Headline.{blocks_in, half_over, mirror_over, volume_over}
use Rattle.image_rig.proofs.FreshHead.{units_back}

-- ---- the block of an address

-- what a read of it would bring
brought_fresh : (size lba : ℕ) → brought_by size (fresh One size lba) ≡ record { body = replicate size 0; app = 0 }
brought_fresh size lba =
    let t : Tuple = record { guard = 0; app = 0; rtag = ref_tag lba } in
    let zs : List ℕ = replicate size 0 in
    let l : length zs ≡ size = length-replicate size 0 in
    let small : Small t = record { guard = omega arith; app = omega arith; rtag = tag_below lba } in
    let app : ℕ = (brought_by size (fresh One size lba)).app in
    ap (λ (d : List ℕ). record { body = d; app = app }) (data_is size zs t l) ∙ ap (λ (u : Tuple). record { body = zs; app = u.app }) (tuple_is size zs t l small)

-- ---- of a mirror

module _ (script : Script) (units : List UnitSpec) (h : is_layout units ≡ true) (made : MadeFor (volume_over script (formatted units)) (devices_of (formatted units)) script.block) (ty : (volume_over script (formatted units)).ty ≡ One) where
  at_home : (v : ℕ) → v < volume_len script.entries → get_or (blocks_in (formatted units)) (home (mirror_over script (formatted units)) v) [] ≡ fresh One script.block (address_of (mirror_over script (formatted units)) v)
  at_home v l =
      let few = (layout_parts units h).1 in
      let image = formatted units in
      let dev = (place_in script.entries v).0 in
      let lba = (place_in script.entries v).1 in
      let own : own_units image ≡ map fresh_unit units = ap (λ us. units_in us image) (units_back units h) ∙ blocks_are units few in
      let shapes : shapes_of (own_units image) ≡ units = ap (λ us. shapes_of (units_in us image)) (units_back units h) ∙ shapes_are units few in
      let on : IsOn (map info_of units) One script.block dev lba 1 =
      subst (λ (d : List DeviceInfo). IsOn d One script.block dev lba 1) (ap (map info_of) (units_back units h)) (subst (λ (t : PiType). IsOn (devices_of image) t script.block dev lba 1) ty (made.inside v l)) in
      ap (λ (us : List Stored). get_or (blocks_told us) (cell_in (shapes_of (own_units image)) dev lba) []) own
      ∙ ap (λ (us : List UnitSpec). get_or (blocks_told (map fresh_unit units)) (cell_in us dev lba) []) shapes ∙ cell_is One script.block units dev lba on

  pub equal_legs : (u : ℕ) → u < half_over script (formatted units)
      → brought_by script.block (get_or (blocks_in (formatted units)) (home (mirror_over script (formatted units)) (half_over script (formatted units) + u)) []) ≡ brought_by script.block (get_or (blocks_in (formatted units)) (home (mirror_over script (formatted units)) u) [])
  equal_legs u l =
      let half = half_over script (formatted units) in
      let both : half ≡ volume_len script.entries / 2 = refl in
      ap (brought_by script.block) (at_home (half + u) (omega (arith, l, both))) ∙ brought_fresh script.block _
      ∙ sym (ap (brought_by script.block) (at_home u (omega (arith, l, both))) ∙ brought_fresh script.block _)

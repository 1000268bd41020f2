-- Where the cell of an address is among the blocks of units that are told.
use Rattle.std.proofs.Common.{ℕ, zero, suc, ◌≡◌, ◌+◌, ◌-◌, ◌<◌, ◌≤◌, List, [], ◌∷◌, length, get_or, map, refl, ap, ◌∙◌, arith}
use Rattle.std.proofs.lemmas.List.{get_or_append_left, get_or-append_right}
use Rattle.pi_tuple.specs.declared.checks.PiType.{PiType}
use Rattle.rig_api.specs.Target.{Stored}
use Rattle.rig_api.specs.Telling.{unit_at}
use Rattle.rig_discovery.specs.Discovery.{info_of}
use Rattle.volume_table.specs.Tables.{IsOn}
use Rattle.dix_adapter.specs.Ways.{blocks_told, cell_in, shapes_of}

-- The address is one of this unit, which has this type and size; in the cell stands the unit's block.
pub record IsThere (us : List Stored) (ty : PiType) (size dev lba : ℕ) : Type 0 where
  pub cell : get_or (blocks_told us) (cell_in (shapes_of us) dev lba) [] ≡ get_or (unit_at us dev).blocks (lba - (unit_at us dev).first) []
  pub low : (unit_at us dev).first ≤ lba
  pub high : lba < (unit_at us dev).first + length (unit_at us dev).blocks
  pub ty_is : (unit_at us dev).ty ≡ ty
  pub size_is : (unit_at us dev).size ≡ size

pub there : (ty : PiType) (size : ℕ) (us : List Stored) (dev lba : ℕ) → IsOn (map info_of (shapes_of us)) ty size dev lba 1 → IsThere us ty size dev lba
there ty size [] dev lba h = let l = h.known in absurd (omega arith)
there ty size (u ∷ us) zero lba h =
    let low : u.first ≤ lba = h.begins in
    let high : lba + 1 ≤ u.first + length u.blocks = h.ends in
    record { cell = get_or_append_left u.blocks (blocks_told us) [] (lba - u.first) (omega arith); low = low; high = omega arith; ty_is = h.type_is; size_is = h.size_is }
there ty size (u ∷ us) (suc dev) lba h =
    let k = h.known in
    let n : ℕ = length u.blocks in
    let c : ℕ = cell_in (shapes_of us) dev lba in
    let e : (n + c) - n ≡ c = omega arith in
    let r = there ty size us dev lba (record { known = omega arith; begins = h.begins; ends = h.ends; type_is = h.type_is; size_is = h.size_is }) in
    record {
      cell = get_or-append_right u.blocks (blocks_told us) n (n + c) [] refl (omega arith) ∙ ap (λ i. get_or (blocks_told us) i []) e ∙ r.cell;
      low = r.low;
      high = r.high;
      ty_is = r.ty_is;
      size_is = r.size_is;
    }

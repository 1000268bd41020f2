-- The blocks of a formatted image: their sizes, and that none is an escape.
use Rattle.std.proofs.Common.{◌≡◌, ◌<◌, ◌≤◌, ℕ, zero, suc, ◌+◌, false, List, [], ◌∷◌, ◌++◌, length, get_or, map, replicate, refl, sym, ap, ◌∙◌}
use Rattle.std.specs.Prelude.{All, bit_and}
use Rattle.std.specs.Int.Bits.{and_zero_r}
use Rattle.std.proofs.lemmas.Bool.{eq-eqb}
use Rattle.std.proofs.lemmas.List.{map-append}
use Rattle.std.proofs.lemmas.List.Elements.{All-cons, All-nil}
use Rattle.pi_tuple.specs.Finds.{is_escaped, is_zero}
use Rattle.pi_tuple.specs.declared.checks.PiType.{PiType}
use Rattle.rig_api.specs.Frames.{stored_size, tuple_of}
use Rattle.rig_api.specs.Image.{formatted, fresh, fresh_from, units_in}
use Rattle.rig_api.specs.Target.{Stored}
use Rattle.rig_api.specs.declared.units.UnitSpec.{UnitSpec}
use Rattle.rig_api.proofs.FreshBlocks.{fresh_long}
use Rattle.rig_discovery.specs.Discovery.{info_of}
use Rattle.volume_table.specs.Places.{place_in, volume_len}
use Rattle.volume_table.specs.Tables.{IsOn}
use Rattle.dix_adapter.specs.Ways.{blocks_told, cell_in}
use Rattle.walk_laws.specs.Settings.{Setting}
use Rattle.walk_laws.specs.UnderMap.{home}
use Rattle.script_run_laws.specs.Units.{AreStored}
use Rattle.image_laws.proofs.Passed.{fresh_unit, formatted_clean}
use Rattle.lab_laws.proofs.Scrubbed.{sizes_of}

run_stored : (ty : PiType) (size lba n : ℕ) → All (λ (b : List ℕ). length b ≡ stored_size ty size) (fresh_from ty size lba n)
run_stored ty size lba zero = All-nil (λ (b : List ℕ). length b ≡ stored_size ty size)
run_stored ty size lba (suc n) = All-cons (λ (b : List ℕ). length b ≡ stored_size ty size) (fresh ty size lba) (fresh_from ty size (lba + 1) n) (fresh_long ty size lba) (run_stored ty size (lba + 1) n)

pub units_stored : (us : List UnitSpec) → AreStored (map fresh_unit us)
units_stored [] = All-nil (λ (u : Stored). All (λ (b : List ℕ). length b ≡ stored_size u.ty u.size) u.blocks)
units_stored (u ∷ us) = All-cons (λ (u : Stored). All (λ (b : List ℕ). length b ≡ stored_size u.ty u.size) u.blocks) (fresh_unit u) (map fresh_unit us) (run_stored u.ty u.size u.first u.blocks) (units_stored us)

run_sizes : (ty : PiType) (size lba n : ℕ) → map length (fresh_from ty size lba n) ≡ replicate n (stored_size ty size)
run_sizes ty size lba zero = refl
run_sizes ty size lba (suc n) = ap (λ k. k ∷ map length (fresh_from ty size (lba + 1) n)) (fresh_long ty size lba) ∙ ap (λ ks. stored_size ty size ∷ ks) (run_sizes ty size (lba + 1) n)

pub units_sizes : (us : List UnitSpec) → map length (blocks_told (map fresh_unit us)) ≡ sizes_of us
units_sizes [] = refl
units_sizes (u ∷ us) =
    map-append length (fresh_from u.ty u.size u.first u.blocks) (blocks_told (map fresh_unit us))
    ∙ ap (λ ks. ks ++ map length (blocks_told (map fresh_unit us))) (run_sizes u.ty u.size u.first u.blocks)
    ∙ ap (λ ks. replicate u.blocks (stored_size u.ty u.size) ++ ks) (units_sizes us)

-- whatever tag a run expects, no block of a volume is an escape
pub no_escape : (m : Setting) (units : List UnitSpec) → length units ≤ 8 → is_zero m.ty ≡ false → m.site.cell ≡ cell_in units → ((v : ℕ) → v < volume_len m.entries → IsOn (map info_of units) m.ty m.size (place_in m.entries v).0 (place_in m.entries v).1 1) →
    (v : ℕ) → v < volume_len m.entries → is_escaped m.ty (tuple_of m.size (get_or (blocks_told (units_in units (formatted units))) (home m v) [])) ≡ false
no_escape m units few z cell inside v l =
    let bare : Setting = record m { mode = record m.mode { mask = 0 } } in
    let expected = eq-eqb (bit_and 0 0) (bit_and m.mode.app 0) (and_zero_r 0 ∙ sym (and_zero_r m.mode.app)) in
    (formatted_clean bare units few z expected cell v (place_in m.entries v).1 l (inside v l)).no_escape

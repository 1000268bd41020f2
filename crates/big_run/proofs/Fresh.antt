-- What a formatted unit holds, and where its blocks are found.
use Rattle.std.proofs.Common.{ℕ, zero, suc, ◌≡◌, ◌+◌, ◌-◌, ◌≤◌, ◌<◌, List, [], ◌∷◌, ◌++◌, drop, get_or, map, replicate, refl, ap, ◌∙◌, arith}
use Rattle.std.proofs.lemmas.List.{drop_at, length-replicate, get_or_append_left, get_or-append_right}
use Rattle.pi_tuple.specs.Tuples.{ref_tag}
use Rattle.pi_tuple.specs.declared.checks.PiType.{PiType}
use Rattle.pi_tuple.specs.declared.checks.PiType.TheVariants.{One}
use Rattle.pi_tuple.specs.declared.tuple.Tuple.{Tuple}
use Rattle.rig_api.specs.Frames.{data_of, joined, tuple_of}
use Rattle.rig_api.specs.Headers.{bytes_of}
use Rattle.rig_api.specs.Image.{all_fresh, fresh, fresh_bytes, units_from}
use Rattle.rig_api.specs.declared.units.UnitSpec.{UnitSpec}
use Rattle.rig_api.proofs.FreshBlocks.{fresh_many, fresh_is}
use Rattle.dix_adapter.specs.Ways.{blocks_told, cell_in, shapes_of}
use Rattle.rig_discovery.specs.Discovery.{info_of}
use Rattle.run_command.specs.Passed.{IsAddress, device_of}
use Rattle.walk_laws.proofs.TupleFrames.{Small, data_is, tuple_is}
use Rattle.big_run.specs.Plain.{fresh_unit}
use Rattle.run_command.proofs.Passed.{first_found, bytes_are}

-- ---- their lengths

-- ---- the units that are found are those that were formatted

pub units_found : (us : List UnitSpec) → units_from us (fresh_bytes us) ≡ map fresh_unit us
units_found [] = refl
units_found (u ∷ us) =
    ap (λ (blocks : List (List ℕ)). record { ty = u.ty; size = u.size; first = u.first; blocks = blocks } ∷ units_from us (drop (bytes_of u) (joined (all_fresh u) ++ fresh_bytes us))) (first_found u (fresh_bytes us))
    ∙ ap (λ rest. fresh_unit u ∷ units_from us rest) (drop_at (joined (all_fresh u)) (fresh_bytes us) (bytes_of u) (bytes_are u))
    ∙ ap (λ rest. fresh_unit u ∷ rest) (units_found us)

pub shapes_are : (us : List UnitSpec) → shapes_of (map fresh_unit us) ≡ us
shapes_are [] = refl
shapes_are (u ∷ us) = ap (λ n. record { ty = u.ty; blocks = n; size = u.size; first = u.first } ∷ shapes_of (map fresh_unit us)) (fresh_many u.ty u.size u.first u.blocks) ∙ ap (λ rest. u ∷ rest) (shapes_are us)

pub infos_are : (us : List UnitSpec) → map device_of (map fresh_unit us) ≡ map info_of us
infos_are [] = refl
infos_are (u ∷ us) = ap (λ n. record { ty = u.ty; blocks = n; size = u.size; first = u.first } ∷ map device_of (map fresh_unit us)) (fresh_many u.ty u.size u.first u.blocks) ∙ ap (λ rest. info_of u ∷ rest) (infos_are us)

-- ---- the block of an address

-- all units have this type and this block size
abbrev pub AllOf : PiType → ℕ → List UnitSpec → Type 0
AllOf ty size [] = Unit {0}
AllOf ty size (u ∷ us) = (u.ty ≡ ty) × (u.size ≡ size) × AllOf ty size us

pub cell_is : (ty : PiType) (size : ℕ) (us : List UnitSpec) → AllOf ty size us → (dev lba : ℕ) → IsAddress (map info_of us) dev lba → get_or (blocks_told (map fresh_unit us)) (cell_in us dev lba) [] ≡ fresh ty size lba
cell_is ty size [] a dev lba h = let l = h.known in absurd (omega arith)
cell_is ty size (u ∷ us) a zero lba h =
    let low : u.first ≤ lba = h.begins in
    let high : lba < u.first + u.blocks = h.ends in
    let n = fresh_many u.ty u.size u.first u.blocks in
    let e : u.first + (lba - u.first) ≡ lba = omega arith in
    get_or_append_left (all_fresh u) (blocks_told (map fresh_unit us)) [] (lba - u.first) (omega arith) ∙ fresh_is u.ty u.size u.first u.blocks (lba - u.first) (omega arith)
    ∙ ap (λ t. fresh t u.size (u.first + (lba - u.first))) a.0 ∙ ap (λ s. fresh ty s (u.first + (lba - u.first))) a.1 ∙ ap (fresh ty size) e
cell_is ty size (u ∷ us) a (suc dev) lba h =
    let k = h.known in
    let e : (u.blocks + cell_in us dev lba) - u.blocks ≡ cell_in us dev lba = omega arith in
    get_or-append_right (all_fresh u) (blocks_told (map fresh_unit us)) u.blocks (u.blocks + cell_in us dev lba) [] (fresh_many u.ty u.size u.first u.blocks) (omega arith)
    ∙ ap (λ i. get_or (blocks_told (map fresh_unit us)) i []) e ∙ cell_is ty size us a.2 dev lba (record { known = omega arith; begins = h.begins; ends = h.ends })

-- ---- what stands in a block

abbrev fresh_tuple : ℕ → Tuple
fresh_tuple lba = record { guard = 0; app = 0; rtag = ref_tag lba }

is_small : (lba : ℕ) → Small (fresh_tuple lba)
is_small lba = record { guard = omega arith; app = omega arith; rtag = omega arith }

pub tuple_found : (size lba : ℕ) → tuple_of size (fresh One size lba) ≡ record { guard = 0; app = 0; rtag = ref_tag lba }
tuple_found size lba = tuple_is size (replicate size 0) (fresh_tuple lba) (length-replicate size 0) (is_small lba)

pub data_found : (size lba : ℕ) → data_of size (fresh One size lba) ≡ replicate size 0
data_found size lba = data_is size (replicate size 0) (fresh_tuple lba) (length-replicate size 0)

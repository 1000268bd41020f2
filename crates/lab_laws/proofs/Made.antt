-- Units that were formatted, or imported plain as a whole: how they come to be so, and that a run has clean blocks there.
use Rattle.std.proofs.Common.{ℕ, zero, suc, ◌≡◌, ◌+◌, ◌-◌, ◌<◌, ◌≤◌, Bool, true, false, if◌then◌else◌, List, [], ◌∷◌, ◌++◌, length, drop, get_or, map, replicate, take, Option, Some, refl, sym, ap, subst, ◌∙◌, inl, inr, arith, append-nil}
use Rattle.std.proofs.lemmas.Bool.{eq-eqb, ltb-true}
use Rattle.std.proofs.lemmas.List.{get_or-set_other, get_or-set_same, length-replicate, take-take, take_all}
use Rattle.std.specs.Prelude.{Ok, Err, Result, bit_and, ltb}
use Rattle.std.specs.Int.Bits.{and_zero_r}
use Rattle.std.specs.List.{list_all}
use Rattle.pi_tuple.specs.Finds.{is_zero, own_tag}
use Rattle.pi_tuple.specs.declared.checks.PiType.{PiType}
use Rattle.pi_tuple.specs.declared.checks.PiType.TheVariants.{Zero, One, Two, Three}
use Rattle.rig_api.specs.Frames.{frame_of, placed, stored_size}
use Rattle.rig_api.specs.Headers.{all_bytes, is_spec}
use Rattle.rig_api.specs.Image.{fresh, fresh_from, units_in}
use Rattle.rig_api.specs.Passing.{with_own_tuple}
use Rattle.rig_api.specs.Target.{Stored}
use Rattle.rig_api.specs.declared.units.UnitSpec.{UnitSpec}
use Rattle.rig_api.proofs.FreshBlocks.{fresh_many}
use Rattle.rig_api.proofs.FrameLaws.{frames_length}
use Rattle.target_model.specs.Served.{AllLong}
use Rattle.rig_api.specs.Head.{head_of, units_of}
use Rattle.rig_api.specs.Telling.{holding, no_unit, own_units, unit_at}
use Rattle.rig_api.proofs.HeadLaws.{right_layout}
use Rattle.rig_discovery.specs.Discovery.{Ends, info_of}
use Rattle.volume_table.specs.Places.{place_in}
use Rattle.volume_table.specs.Tables.{MadeFor}
use Rattle.volume_table.specs.declared.device.DeviceInfo.{DeviceInfo}
use Rattle.volume_table.proofs.Laws.{made}
use Rattle.dix_adapter.specs.Ways.{blocks_told, shapes_of}
use Rattle.dix_adapter.proofs.Units.{shapes-are}
use Rattle.walk_laws.specs.PlainMap.{as_expected}
use Rattle.walk_laws.specs.Settings.{Setting}
use Rattle.walk_laws.specs.UnderMap.{IsClean, address_of}
use Rattle.run_laws.specs.ShownRun.{DevicesAreClean}
use Rattle.run_premises.proofs.Near.{crc-zeros}
use Rattle.script_laws.proofs.Keeping.{read_keeps}
use Rattle.script_laws.proofs.Ranges.{all_in_range}
use Rattle.image_laws.specs.Passed.{setting_told, HasTable, devices_of, table_over}
use Rattle.image_laws.proofs.Passed.{all_end, blocks_are, fresh_unit}
use Rattle.image_rig.specs.LayoutPlaces.{block_place}
use Rattle.image_rig.proofs.Heads.{layout_parts}
use Rattle.image_rig.proofs.Units.{unit_found}
use Rattle.image_blocks.specs.Places.{spec_of, whole_in}
use Rattle.image_blocks.specs.declared.stretch.PlaceFault.{PlaceFault}
use Rattle.image_blocks.specs.declared.stretch.PlaceFault.TheVariants.{NoDevice}
use Rattle.image_blocks.specs.declared.stretch.Stretch.{Stretch}
use Rattle.image_text.specs.Dumps.{imported, imported_block}
use Rattle.image_text.specs.Ends.{HasTaken}
use Rattle.image_text.specs.declared.layout.Layout.TheVariants.{Plain}
use Rattle.image_text.proofs.Putting.{imported_length}
use Rattle.image_laws.specs.Over.{blocks_in, setting_over, volume_over}
use Rattle.lab_laws.specs.Clean.{ClaimsOnClean, FormatMakes, HoldsClean, ImportMakes, IsImported, IsMade, KeepsHead, RunsOnClean}
use Rattle.lab_laws.proofs.Blocks.{made_clean}
use Rattle.lab_laws.proofs.Cells.{there}
use Rattle.image_text.proofs.Importing.{length_units}

-- ---- a block of such a unit

block_at : (ty : PiType) (size lba : ℕ) (bs ps : List (List ℕ)) (k : ℕ) → length bs ≡ length ps → k < length ps →
    get_or (imported Plain ty size lba bs ps) k [] ≡ imported_block Plain ty size (lba + k) (get_or bs k []) (get_or ps k [])
block_at ty size lba [] [] k e h = absurd (omega arith)
block_at ty size lba [] (p ∷ ps) k e h = absurd (omega arith)
block_at ty size lba (b ∷ bs) [] k e h = absurd (omega arith)
block_at ty size lba (b ∷ bs) (p ∷ ps) zero e h = let z : lba ≡ lba + 0 = omega arith in ap (λ a. with_own_tuple ty a p) z
block_at ty size lba (b ∷ bs) (p ∷ ps) (suc k) e h =
    let z : lba + 1 + k ≡ lba + suc k = omega arith in block_at ty size (lba + 1) bs ps k (omega arith) (omega arith) ∙ ap (λ a. with_own_tuple ty a (get_or ps k [])) z

long_at : (n : ℕ) (ps : List (List ℕ)) (k : ℕ) → AllLong n ps → k < length ps → length (get_or ps k []) ≡ n
long_at n [] k l h = absurd (omega arith)
long_at n (p ∷ ps) zero l h = l.0
long_at n (p ∷ ps) (suc k) l h = long_at n ps k l.1 (omega arith)

-- ---- what was formatted is what a plain import of zeros makes

fresh_is : (ty : PiType) (size lba : ℕ) → fresh ty size lba ≡ with_own_tuple ty lba (replicate size 0)
fresh_is Zero size lba = refl
fresh_is One size lba = ap (λ g. frame_of (replicate size 0) (record { guard = g; app = 0; rtag = own_tag One lba })) (sym (crc-zeros size))
fresh_is Two size lba = ap (λ g. frame_of (replicate size 0) (record { guard = g; app = 0; rtag = own_tag Two lba })) (sym (crc-zeros size))
fresh_is Three size lba = ap (λ g. frame_of (replicate size 0) (record { guard = g; app = 0; rtag = own_tag Three lba })) (sym (crc-zeros size))

run_is : (ty : PiType) (size lba n : ℕ) → fresh_from ty size lba n ≡ imported Plain ty size lba (replicate n []) (replicate n (replicate size 0))
run_is ty size lba zero = refl
run_is ty size lba (suc n) =
    ap (λ v. v ∷ fresh_from ty size (lba + 1) n) (fresh_is ty size lba) ∙ ap (λ v. with_own_tuple ty lba (replicate size 0) ∷ v) (run_is ty size (lba + 1) n)

zeros_long : (size n : ℕ) → AllLong size (replicate n (replicate size 0))
zeros_long size zero = tt
zeros_long size (suc n) = (length-replicate size 0, zeros_long size n)

as_imported : (u : Stored) → IsMade u → IsImported u
as_imported u (inl p) = p
as_imported u (inr e) =
    let n : ℕ = length u.blocks in
    record {
      before = replicate n [];
      pieces = replicate n (replicate u.size 0);
      many = length-replicate {A = List ℕ} n [] ∙ sym (length-replicate n (replicate u.size 0));
      long = zeros_long u.size n;
      blocks = e ∙ run_is u.ty u.size u.first n;
    }

pub unit_clean : (m : Setting) (u : Stored) (lba : ℕ) → is_zero m.ty ≡ false → as_expected m 0 ≡ true → IsMade u → u.ty ≡ m.ty → u.size ≡ m.size → u.first ≤ lba → lba < u.first + length u.blocks →
    IsClean m lba (get_or u.blocks (lba - u.first) [])
unit_clean m u lba z app made ty size low high =
    let p = as_imported u made in
    let k : ℕ = lba - u.first in
    let many : length u.blocks ≡ length p.pieces = ap length p.blocks ∙ imported_length Plain u.ty u.size u.first p.before p.pieces p.many in
    let e : u.first + k ≡ lba = omega arith in
    let at : get_or u.blocks k [] ≡ with_own_tuple m.ty lba (get_or p.pieces k []) =
    ap (λ v. get_or v k []) p.blocks ∙ block_at u.ty u.size u.first p.before p.pieces k p.many (omega arith) ∙ ap (λ t. with_own_tuple t (u.first + k) (get_or p.pieces k [])) ty ∙ ap (λ a. with_own_tuple m.ty a (get_or p.pieces k [])) e in
    subst (IsClean m lba) (sym at) (made_clean m lba [] (get_or p.pieces k []) z app (long_at u.size p.pieces k p.long (omega arith) ∙ size))

-- ---- how units come to be so

fresh_units : (us : List UnitSpec) (dev : ℕ) → IsMade (unit_at (map fresh_unit us) dev)
fresh_units [] dev = inr refl
fresh_units (u ∷ us) zero = inr (ap (fresh_from u.ty u.size u.first) (sym (fresh_many u.ty u.size u.first u.blocks)))
fresh_units (u ∷ us) (suc dev) = fresh_units us dev

pub format_makes : FormatMakes
format_makes units dev h = subst (λ (v : List Stored). IsMade (unit_at v dev)) (sym (blocks_are units (layout_parts units h).1)) (fresh_units units dev)

-- where pieces stand in the place of all blocks
whole_put : (old : Stored) (ty : PiType) (size first n : ℕ) (pieces : List (List ℕ)) → old.ty ≡ ty → old.size ≡ size → old.first ≡ first → length old.blocks ≡ n → length pieces ≡ n → AllLong size pieces →
    IsImported (holding old (placed (first - old.first) (imported Plain ty size first (take n (drop (first - old.first) old.blocks)) pieces ++ []) old.blocks))
whole_put old ty size first n pieces p q r l many long =
    let z : first - old.first ≡ 0 = omega arith in
    let bs : List (List ℕ) = take n (drop (first - old.first) old.blocks) in
    let all : bs ≡ old.blocks = ap (λ k. take n (drop k old.blocks)) z ∙ take_all n old.blocks (omega arith) in
    let same : length bs ≡ length pieces = ap length all ∙ l ∙ sym many in
    let xs : List (List ℕ) = imported Plain ty size first bs pieces in
    let lx : length xs ≡ length pieces = imported_length Plain ty size first bs pieces same in
    let tail : List (List ℕ) = drop (0 + length xs) old.blocks in
    let none : tail ≡ [] = none_left (0 + length xs) old.blocks (omega arith) in
    let put : placed (first - old.first) (xs ++ []) old.blocks ≡ xs =
    ap (λ k. placed k (xs ++ []) old.blocks) z ∙ ap (λ v. placed 0 v old.blocks) (append-nil xs) ∙ ap (λ v. xs ++ v) none ∙ append-nil xs in
    record {
      before = bs;
      pieces = pieces;
      many = same;
      long = subst (λ s. AllLong s pieces) (sym q) long;
      blocks = put ∙ ap (λ t. imported Plain t size first bs pieces) (sym p) ∙ ap (λ s. imported Plain old.ty s first bs pieces) (sym q) ∙ ap (λ a. imported Plain old.ty old.size a bs pieces) (sym r);
    }
  where
    none_left : (k : ℕ) (xs : List (List ℕ)) → length xs ≤ k → drop k xs ≡ []
    none_left zero [] h = refl
    none_left zero (x ∷ xs) h = absurd (omega arith)
    none_left (suc k) [] h = refl
    none_left (suc k) (x ∷ xs) h = none_left k xs (omega arith)

abbrev whole_of : List UnitSpec → ℕ → Stretch
whole_of us dev = record { dev = dev; first = (spec_of us dev).first; count = (spec_of us dev).blocks }

whole_is : (us : List UnitSpec) (dev : ℕ) (s : Stretch) → whole_in us dev ≡ Ok s → (ltb dev (length us) ≡ true) × (s ≡ whole_of us dev)
whole_is us dev s e = of (ltb dev (length us)) (whole_of us dev) s e
  where
    of : (b : Bool) (x s : Stretch) → ◌≡◌ {A = Result Stretch PlaceFault} (if b then Ok x else Err NoDevice) (Ok s) → (b ≡ true) × (s ≡ x)
    of true x s e = (refl, cc)
    of false x s e = absurd (cc)

whole_makes : (us : List UnitSpec) (dev : ℕ) (more image image_after : List ℕ) (left left_after : Option (List ℕ)) → dev < length us → HasTaken Plain us (whole_of us dev) (spec_of us dev).blocks more [] (Some image) (Some image_after) left left_after →
    IsImported (unit_at (units_in us image_after) dev) × ((other : ℕ) → (other ≡ dev → ⊥) → unit_at (units_in us image_after) other ≡ unit_at (units_in us image) other)
whole_makes us dev more image image_after left left_after h t =
    let found : List Stored = units_in us image in
    let u : UnitSpec = spec_of us dev in
    let old : Stored = unit_at found dev in
    let f = unit_found us (drop 512 image) dev h in
    let many : length old.blocks ≡ u.blocks = ap (λ (v : Stored). length v.blocks) f ∙ frames_length (stored_size u.ty u.size) u.blocks (drop (all_bytes (take dev us)) (drop 512 image)) in
    let few = length_units us (drop 512 image) in
    let w = whole_put old u.ty u.size u.first u.blocks t.pieces (ap (λ (v : Stored). v.ty) f) (ap (λ (v : Stored). v.size) f) (ap (λ (v : Stored). v.first) f) many t.many t.long in
    let now : Stored = holding old (placed (u.first - old.first) (imported Plain u.ty u.size u.first (take u.blocks (drop (u.first - old.first) old.blocks)) t.pieces ++ []) old.blocks) in (
      subst IsImported (sym (ap (λ (v : List Stored). unit_at v dev) t.put ∙ get_or-set_same found dev now no_unit (omega arith))) w,
      λ other e. ap (λ (v : List Stored). unit_at v other) t.put ∙ get_or-set_other found dev other now no_unit e,
    )

pub import_makes : ImportMakes
import_makes us dev s more image image_after left left_after e t =
    let w = whole_is us dev s e in
    whole_makes us dev more image image_after left left_after (ltb-true dev (length us) w.0) (subst (λ (v : Stretch). HasTaken Plain us v v.count more [] (Some image) (Some image_after) left left_after) w.1 t)

pub head_kept : KeepsHead
head_kept us s image image_after p =
    let place : ℕ = block_place us s.dev s.first in
    let low : 512 ≤ place = omega arith in
    let first : take 512 image_after ≡ take 512 image = sym (take-take 512 place image_after low) ∙ ap (take 512) p.1 ∙ take-take 512 place image low in
    rw (p.0, first) refl

-- ---- what a run asks

expected : (m : Setting) → m.mode.mask ≡ 0 → as_expected m 0 ≡ true
expected m e = eq-eqb (bit_and 0 m.mode.mask) (bit_and m.mode.app m.mode.mask) (ap (bit_and 0) e ∙ and_zero_r 0 ∙ sym (ap (bit_and m.mode.app) e ∙ and_zero_r m.mode.app))

pub holds_clean : HoldsClean
holds_clean m us z app cell made v lba l h =
    let dev = (place_in m.entries v).0 in
    let t = there m.ty m.size us dev lba h in
    let at : get_or (blocks_told us) (m.site.cell dev lba) [] ≡ get_or (unit_at us dev).blocks (lba - (unit_at us dev).first) [] = ap (λ (c : ℕ → ℕ → ℕ). get_or (blocks_told us) (c dev lba) []) cell ∙ t.cell in
    subst (IsClean m lba) (sym at) (unit_clean m (unit_at us dev) lba z app (made v l) t.ty_is t.size_is t.low t.high)

pub runs_clean : RunsOnClean
runs_clean script table us has mask made =
    let m : Setting = setting_told script table us in
    let all : is_zero table.ty ≡ false → DevicesAreClean m (map info_of (shapes_of us)) (blocks_told us) = λ z. holds_clean m us z (expected m mask) refl made in
    (λ v l z. all z v (address_of m v) l (has.made.inside v l), all)

pub all_ends : (us : List UnitSpec) → list_all is_spec us ≡ true → Ends (map info_of us)
all_ends [] h = tt
all_ends (u ∷ us) h = grind (arith, all_ends us)

pub claims_clean : ClaimsOnClean
claims_clean script image text right fits mask is_made =
    let us : List Stored = own_units image in
    let specs : List UnitSpec = units_of (head_of image) in
    let ds : map info_of (shapes_of us) ≡ devices_of image = ap (map info_of) (shapes-are specs (drop 512 image)) in
    let keeps = (read_keeps text script fits.language).keeps in
    let ends = all_end (devices_of image) (all_ends specs (layout_parts specs (right_layout (head_of image) right)).2) in
    let count = keeps.entries_count.high_is in
    let tabled : MadeFor (table_over script.entries (devices_of image)) (devices_of image) script.block = made script.entries (devices_of image) script.block count (all_in_range script.entries keeps.entries_are) ends fits.volume in
    let has : HasTable script (map info_of (shapes_of us)) (volume_over script image) =
    subst (λ (d : List DeviceInfo). HasTable script d (volume_over script image)) (sym ds) (record { entries = refl; ty = refl; made = tabled }) in
    let r = runs_clean script (volume_over script image) us has mask is_made in
    (r.0, λ z. subst (λ (d : List DeviceInfo). DevicesAreClean (setting_over script image) d (blocks_in image)) ds (r.1 z))

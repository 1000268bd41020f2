-- What a formatted image holds: clean blocks.
use Rattle.std.proofs.Common.{ℕ, zero, suc, ◌≡◌, ◌+◌, ◌-◌, ◌*◌, ◌≤◌, ◌<◌, true, false, List, [], ◌∷◌, ◌++◌, length, drop, get_or, map, replicate, refl, sym, ap, subst, ◌∙◌, arith}
use Rattle.std.specs.Prelude.{All}
use Rattle.std.specs.Int.{w16, to_be_bytes}
use Rattle.std.proofs.lemmas.Bool.{false≢true}
use Rattle.std.proofs.lemmas.List.{drop_at, length-append, length-replicate, get_or_append_left, get_or-append_right}
use Rattle.std.proofs.lemmas.List.Elements.{All-append, All-cons, All-nil}
use Rattle.pi_guard.specs.Guards.{crc}
use Rattle.pi_tuple.specs.Finds.{is_escaped, is_zero, own_tag}
use Rattle.pi_tuple.specs.Tuples.{tuple_bytes}
use Rattle.pi_tuple.specs.declared.checks.PiType.{PiType}
use Rattle.pi_tuple.specs.declared.checks.PiType.TheVariants.{Zero, One, Two, Three}
use Rattle.pi_tuple.specs.declared.tuple.Tuple.{Tuple}
use Rattle.pi_tuple.proofs.TupleLaws.{own_below, own_is}
use Rattle.rig_api.specs.Frames.{frame_of, frames_of, joined, stored_size}
use Rattle.rig_api.specs.Headers.{bytes_of, entry_of, header, magic_of, version_for}
use Rattle.rig_api.specs.Image.{all_fresh, formatted, fresh, fresh_bytes, fresh_from, units_from, units_in}
use Rattle.rig_api.specs.Target.{Stored}
use Rattle.rig_api.specs.declared.units.UnitSpec.{UnitSpec}
use Rattle.rig_api.specs.declared.units.Version.{Version}
use Rattle.rig_api.specs.declared.units.Version.TheVariants.{First, Second}
use Rattle.rig_api.proofs.FreshBlocks.{fresh_long, fresh_many, fresh_is}
use Rattle.script_stack.specs.Passed.{blocks_told, cell_in, shapes_of, info_of}
use Rattle.script_stack.proofs.Passed.{AllLong, cut-joined, joined-long}
use Rattle.volume_table.specs.Places.{place_in}
use Rattle.volume_table.specs.Tables.{IsOn}
use Rattle.run_premises.specs.Passed.{DevicesAreClean, as_expected, Setting, IsClean}
use Rattle.run_premises.proofs.Passed.{all_below, Small, data_is, tuple_below, tuple_is}
use Rattle.run_premises.proofs.Near.{crc-zeros, zeros_are_bytes}

-- ---- the header's length

abbrev entry_width : Version → ℕ
entry_width First = 16
entry_width Second = 32

entries_long : (v : Version) (us : List UnitSpec) → length (joined (map (entry_of v) us)) ≡ entry_width v * length us
entries_long First [] = refl
entries_long Second [] = refl
entries_long First (u ∷ us) = let e = entries_long First us in let a = length-append (entry_of First u) (joined (map (entry_of First) us)) in let b : length (entry_of First u) ≡ 16 = refl in omega arith
entries_long Second (u ∷ us) = let e = entries_long Second us in let a = length-append (entry_of Second u) (joined (map (entry_of Second) us)) in let b : length (entry_of Second u) ≡ 32 = refl in omega arith

padded_long : (n : ℕ) (bytes : List ℕ) → length bytes ≤ n → length (bytes ++ replicate (n - length bytes) 0) ≡ n
padded_long n bytes h = let r = length-replicate {A = ℕ} (n - length bytes) 0 in let a = length-append bytes (replicate (n - length bytes) 0) in omega arith

header_long : (v : Version) (us : List UnitSpec) → length us ≤ 8 → length (header v us) ≡ 512
unfolding header
header_long First us h =
    let j = joined (map (entry_of First) us) in
    let e = entries_long First us in
    padded_long 512 (magic_of First ++ (to_be_bytes w16 (length us) ++ (0 ∷ 0 ∷ 0 ∷ 0 ∷ 0 ∷ 0 ∷ j))) (let l : length (magic_of First ++ (to_be_bytes w16 (length us) ++ (0 ∷ 0 ∷ 0 ∷ 0 ∷ 0 ∷ 0 ∷ j))) ≡ 16 + length j = omega arith in omega arith)
header_long Second us h =
    let j = joined (map (entry_of Second) us) in
    let e = entries_long Second us in
    padded_long 512 (magic_of Second ++ (to_be_bytes w16 (length us) ++ (0 ∷ 0 ∷ 0 ∷ 0 ∷ 0 ∷ 0 ∷ j))) (let l : length (magic_of Second ++ (to_be_bytes w16 (length us) ++ (0 ∷ 0 ∷ 0 ∷ 0 ∷ 0 ∷ 0 ∷ j))) ≡ 16 + length j = omega arith in omega arith)

-- ---- the units that are found are those that were formatted

abbrev pub fresh_unit : UnitSpec → Stored
fresh_unit u = record { ty = u.ty; size = u.size; first = u.first; blocks = all_fresh u }

pub all_long : (ty : PiType) (size lba n : ℕ) → AllLong (stored_size ty size) (fresh_from ty size lba n)
all_long ty size lba zero = tt
all_long ty size lba (suc n) = (fresh_long ty size lba, all_long ty size (lba + 1) n)

pub first_found : (u : UnitSpec) (rest : List ℕ) → frames_of (stored_size u.ty u.size) u.blocks (joined (all_fresh u) ++ rest) ≡ all_fresh u
first_found u rest =
    ap (λ n. frames_of (stored_size u.ty u.size) n (joined (all_fresh u) ++ rest)) (sym (fresh_many u.ty u.size u.first u.blocks))
    ∙ cut-joined (stored_size u.ty u.size) (all_fresh u) rest (all_long u.ty u.size u.first u.blocks)

pub bytes_are : (u : UnitSpec) → length (joined (all_fresh u)) ≡ bytes_of u
bytes_are u =
    joined-long (stored_size u.ty u.size) (all_fresh u) (all_long u.ty u.size u.first u.blocks) ∙ ap (λ n. n * stored_size u.ty u.size) (fresh_many u.ty u.size u.first u.blocks)

units_found : (us : List UnitSpec) → units_from us (fresh_bytes us) ≡ map fresh_unit us
units_found [] = refl
units_found (u ∷ us) =
    ap (λ (blocks : List (List ℕ)). record { ty = u.ty; size = u.size; first = u.first; blocks = blocks } ∷ units_from us (drop (bytes_of u) (joined (all_fresh u) ++ fresh_bytes us))) (first_found u (fresh_bytes us))
    ∙ ap (λ rest. fresh_unit u ∷ units_from us rest) (drop_at (joined (all_fresh u)) (fresh_bytes us) (bytes_of u) (bytes_are u))
    ∙ ap (λ rest. fresh_unit u ∷ rest) (units_found us)

pub blocks_are : (us : List UnitSpec) → length us ≤ 8 → units_in us (formatted us) ≡ map fresh_unit us
unfolding formatted
blocks_are us few = ap (units_from us) (drop_at (header (version_for us) us) (fresh_bytes us) 512 (header_long (version_for us) us few)) ∙ units_found us

shapes_fresh : (us : List UnitSpec) → shapes_of (map fresh_unit us) ≡ us
shapes_fresh [] = refl
shapes_fresh (u ∷ us) = ap (λ n. record { ty = u.ty; blocks = n; size = u.size; first = u.first } ∷ shapes_of (map fresh_unit us)) (fresh_many u.ty u.size u.first u.blocks) ∙ ap (λ rest. u ∷ rest) (shapes_fresh us)

pub shapes_are : (us : List UnitSpec) → length us ≤ 8 → shapes_of (units_in us (formatted us)) ≡ us
shapes_are us few = ap shapes_of (blocks_are us few) ∙ shapes_fresh us

-- ---- the block of an address

pub cell_is : (ty : PiType) (size : ℕ) (us : List UnitSpec) (dev lba : ℕ) → IsOn (map info_of us) ty size dev lba 1 → get_or (blocks_told (map fresh_unit us)) (cell_in us dev lba) [] ≡ fresh ty size lba
cell_is ty size [] dev lba h = let l = h.known in absurd (omega arith)
cell_is ty size (u ∷ us) zero lba h =
    let low : u.first ≤ lba = h.begins in
    let high : lba + 1 ≤ u.first + u.blocks = h.ends in
    let n = fresh_many u.ty u.size u.first u.blocks in
    let e : u.first + (lba - u.first) ≡ lba = omega arith in
    get_or_append_left (all_fresh u) (blocks_told (map fresh_unit us)) [] (lba - u.first) (omega arith) ∙ fresh_is u.ty u.size u.first u.blocks (lba - u.first) (omega arith)
    ∙ ap (λ t. fresh t u.size (u.first + (lba - u.first))) h.type_is ∙ ap (λ s. fresh ty s (u.first + (lba - u.first))) h.size_is ∙ ap (fresh ty size) e
cell_is ty size (u ∷ us) (suc dev) lba h =
    let k = h.known in
    let e : (u.blocks + cell_in us dev lba) - u.blocks ≡ cell_in us dev lba = omega arith in
    get_or-append_right (all_fresh u) (blocks_told (map fresh_unit us)) u.blocks (u.blocks + cell_in us dev lba) [] (fresh_many u.ty u.size u.first u.blocks) (omega arith)
    ∙ ap (λ i. get_or (blocks_told (map fresh_unit us)) i []) e ∙ cell_is ty size us dev lba (record { known = omega arith; begins = h.begins; ends = h.ends; type_is = h.type_is; size_is = h.size_is })

-- ---- it is clean

framed : (ty : PiType) (size lba : ℕ) → is_zero ty ≡ false → fresh ty size lba ≡ frame_of (replicate size 0) (record { guard = 0; app = 0; rtag = own_tag ty lba })
framed Zero size lba z = absurd (false≢true (sym z))
framed One size lba z = refl
framed Two size lba z = refl
framed Three size lba z = refl

no_escape_is : (ty : PiType) (r : ℕ) → is_escaped ty (record { guard = 0; app = 0; rtag = r }) ≡ false
no_escape_is Zero r = refl
no_escape_is One r = refl
no_escape_is Two r = refl
no_escape_is Three r = refl

fresh_clean : (m : Setting) (lba : ℕ) → is_zero m.ty ≡ false → as_expected m 0 ≡ true → IsClean m lba (fresh m.ty m.size lba)
fresh_clean m lba z app =
    let t : Tuple = record { guard = 0; app = 0; rtag = own_tag m.ty lba } in
    let zs : List ℕ = replicate m.size 0 in
    let small : Small t = record { guard = omega arith; app = omega arith; rtag = own_below m.ty lba } in
    let is = tuple_is m.size zs t (length-replicate m.size 0) small in
    subst (IsClean m lba) (sym (framed m.ty m.size lba z)) (record {
      no_escape = ap (is_escaped m.ty) is ∙ no_escape_is m.ty (own_tag m.ty lba);
      guard = ap (λ (t : Tuple). t.guard) is ∙ sym (crc-zeros m.size) ∙ ap crc (sym (data_is m.size zs t (length-replicate m.size 0)));
      app = ap (λ (t : Tuple). as_expected m t.app) is ∙ app;
      rtag = λ h. ap (λ (t : Tuple). t.rtag) is ∙ own_is m.ty lba h;
    })

pub formatted_clean : (m : Setting) (units : List UnitSpec) → length units ≤ 8 → is_zero m.ty ≡ false → as_expected m 0 ≡ true → m.site.cell ≡ cell_in units → DevicesAreClean m (map info_of units) (blocks_told (units_in units (formatted units)))
formatted_clean m units few z app cell v lba l h =
    let dev = (place_in m.entries v).0 in
    let at : get_or (blocks_told (units_in units (formatted units))) (m.site.cell dev lba) [] ≡ fresh m.ty m.size lba =
    ap (λ (us : List Stored). get_or (blocks_told us) (m.site.cell dev lba) []) (blocks_are units few) ∙ ap (λ (c : ℕ → ℕ → ℕ). get_or (blocks_told (map fresh_unit units)) (c dev lba) []) cell ∙ cell_is m.ty m.size units dev lba h in
    subst (IsClean m lba) (sym at) (fresh_clean m lba z app)

-- ---- it is bytes

with_tuple : (size : ℕ) (t : Tuple) → All (λ x. x < 256) (frame_of (replicate size 0) t)
with_tuple size t = All-append (λ (x : ℕ). x < 256) (replicate size 0) (tuple_bytes t) (zeros_are_bytes size) (all_below 256 (tuple_bytes t) (tuple_below t))

fresh_below : (ty : PiType) (size lba : ℕ) → All (λ x. x < 256) (fresh ty size lba)
fresh_below Zero size lba = zeros_are_bytes size
fresh_below One size lba = with_tuple size (record { guard = 0; app = 0; rtag = own_tag One lba })
fresh_below Two size lba = with_tuple size (record { guard = 0; app = 0; rtag = own_tag Two lba })
fresh_below Three size lba = with_tuple size (record { guard = 0; app = 0; rtag = own_tag Three lba })

run_below : (ty : PiType) (size lba n : ℕ) → All (All (λ x. x < 256)) (fresh_from ty size lba n)
run_below ty size lba zero = All-nil (All (λ (x : ℕ). x < 256))
run_below ty size lba (suc n) = All-cons (All (λ (x : ℕ). x < 256)) (fresh ty size lba) (fresh_from ty size (lba + 1) n) (fresh_below ty size lba) (run_below ty size (lba + 1) n)

units_below : (us : List UnitSpec) → All (All (λ x. x < 256)) (blocks_told (map fresh_unit us))
units_below [] = All-nil (All (λ (x : ℕ). x < 256))
units_below (u ∷ us) = All-append (All (λ (x : ℕ). x < 256)) (all_fresh u) (blocks_told (map fresh_unit us)) (run_below u.ty u.size u.first u.blocks) (units_below us)

pub formatted_below : (us : List UnitSpec) → length us ≤ 8 → All (All (λ x. x < 256)) (blocks_told (units_in us (formatted us)))
formatted_below us few = subst (λ (xs : List Stored). All (All (λ x. x < 256)) (blocks_told xs)) (sym (blocks_are us few)) (units_below us)

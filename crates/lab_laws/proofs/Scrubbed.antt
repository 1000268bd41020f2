-- A stored block that was altered is the first at fault, where each other block is as otherwise.
use Rattle.std.proofs.Common.{◌≡◌, ◌<◌, ◌≤◌, ℕ, zero, suc, ◌+◌, ◌-◌, ◌*◌, List, [], ◌∷◌, ◌++◌, length, take, drop, get_or, map, set, replicate, Option, Some, None, refl, sym, ap, ◌∙◌, arith}
use Rattle.std.proofs.lemmas.List.{drop-set-add, drop_at, get_or-drop, get_or-take, take-append-drop, take-set-le}
use Rattle.pi_tuple.specs.declared.checks.Check.{Check}
use Rattle.pi_tuple.specs.declared.checks.PiType.{PiType}
use Rattle.pi_scrub.specs.Faults.{stored_finding}
use Rattle.rig_api.specs.Frames.{frames_of, joined, stored_size}
use Rattle.rig_api.specs.Headers.{bytes_of}
use Rattle.rig_api.specs.Image.{units_from}
use Rattle.rig_api.specs.Target.{Stored}
use Rattle.rig_api.specs.declared.units.UnitSpec.{UnitSpec}
use Rattle.rig_api.proofs.FrameLaws.{joined_append}
use Rattle.rig_discovery.specs.Discovery.{info_of}
use Rattle.volume_table.specs.Tables.{IsOn}
use Rattle.dix_adapter.specs.Ways.{cell_in}
use Rattle.dix_adapter.proofs.Runs.{AllLong, cut-joined, joined-long}
use Rattle.flip_sweep.specs.Verdicts.{first_spoilt, first_spoilt_from, new_finding, or_else, spoilt_of, unless}
use Rattle.flip_sweep.specs.declared.verdict.Verdict.TheVariants.{Scrub}

-- ---- blocks cut into units

-- the sizes of all blocks of units
abbrev pub sizes_of : List UnitSpec → List ℕ
sizes_of [] = []
sizes_of (u ∷ us) = replicate u.blocks (stored_size u.ty u.size) ++ sizes_of us

abbrev pub recut : List UnitSpec → List (List ℕ) → List Stored
recut [] blocks = []
recut (u ∷ us) blocks = record { ty = u.ty; size = u.size; first = u.first; blocks = take u.blocks blocks } ∷ recut us (drop u.blocks blocks)

-- the first so many blocks have this size
record IsCut (w n : ℕ) (blocks : List (List ℕ)) (rest : List ℕ) : Type 0 where
  long : AllLong w (take n blocks)
  many : length (take n blocks) ≡ n
  behind : map length (drop n blocks) ≡ rest

same_head : (a b : ℕ) (xs ys : List ℕ) → a ∷ xs ≡ b ∷ ys → (a ≡ b) × (xs ≡ ys)
same_head a b xs ys e = (cc, cc)

cut : (w n : ℕ) (blocks : List (List ℕ)) (rest : List ℕ) → map length blocks ≡ replicate n w ++ rest → IsCut w n blocks rest
cut w zero blocks rest e = record { long = tt; many = refl; behind = e }
cut w (suc n) [] rest e = absurd (cc)
cut w (suc n) (b ∷ blocks) rest e =
    let p = same_head (length b) w (map length blocks) (replicate n w ++ rest) e in
    let r = cut w n blocks rest p.1 in
    record { long = (p.0, r.long); many = ap suc r.many; behind = r.behind }

pub cuts : (us : List UnitSpec) (blocks : List (List ℕ)) → map length blocks ≡ sizes_of us → units_from us (joined blocks) ≡ recut us blocks
cuts [] blocks e = refl
cuts (u ∷ us) blocks e =
    let w = stored_size u.ty u.size in
    let c = cut w u.blocks blocks (sizes_of us) e in
    let front = take u.blocks blocks in
    let back = drop u.blocks blocks in
    let all : joined blocks ≡ joined front ++ joined back = ap joined (sym (take-append-drop u.blocks blocks)) ∙ joined_append front back in
    let first : frames_of w u.blocks (joined front ++ joined back) ≡ front = ap (λ k. frames_of w k (joined front ++ joined back)) (sym c.many) ∙ cut-joined w front (joined back) c.long in
    let size : length (joined front) ≡ bytes_of u = joined-long w front c.long ∙ ap (λ k. k * w) c.many in
    let rest : drop (bytes_of u) (joined front ++ joined back) ≡ joined back = drop_at (joined front) (joined back) (bytes_of u) size in
    ap (units_from (u ∷ us)) all
    ∙ ap (λ (blocks : List (List ℕ)). record { ty = u.ty; size = u.size; first = u.first; blocks = blocks } ∷ units_from us (drop (bytes_of u) (joined front ++ joined back))) first
    ∙ ap (λ xs. record { ty = u.ty; size = u.size; first = u.first; blocks = front } ∷ units_from us xs) rest
    ∙ ap (λ xs. record { ty = u.ty; size = u.size; first = u.first; blocks = front } ∷ xs) (cuts us back c.behind)

-- ---- what is spoilt

nothing_new : (c : Option Check) → unless c c ≡ None
nothing_new None = refl
nothing_new (Some c) = refl

-- of the same blocks none is
same_blocks : (ty : PiType) (size dev lba : ℕ) (blocks : List (List ℕ)) → first_spoilt_from ty size dev lba blocks blocks ≡ None
same_blocks ty size dev lba [] = refl
same_blocks ty size dev lba (b ∷ blocks) =
    ap (λ c. or_else (spoilt_of dev lba c) (first_spoilt_from ty size dev (lba + 1) blocks blocks)) (nothing_new (stored_finding ty size lba b)) ∙ same_blocks ty size dev (lba + 1) blocks

pub same_units : (dev : ℕ) (us : List Stored) → first_spoilt dev us us ≡ None
same_units dev [] = refl
same_units dev (u ∷ us) = ap (λ v. or_else v (first_spoilt (dev + 1) us us)) (same_blocks u.ty u.size dev u.first u.blocks) ∙ same_units (dev + 1) us

-- of blocks of which one was altered it is that one
one_block : (ty : PiType) (size dev lba : ℕ) (blocks : List (List ℕ)) (j : ℕ) (y : List ℕ) (check : Check) → j < length blocks → stored_finding ty size (lba + j) (get_or blocks j []) ≡ None → stored_finding ty size (lba + j) y ≡ Some check →
    first_spoilt_from ty size dev lba blocks (set blocks j y) ≡ Some (Scrub dev (lba + j) check)
one_block ty size dev lba [] j y check l good bad = absurd (omega arith)
one_block ty size dev lba (b ∷ blocks) zero y check l good bad =
    let z : lba + 0 ≡ lba = omega arith in
    let g : stored_finding ty size lba b ≡ None = ap (λ a. stored_finding ty size a b) (sym z) ∙ good in
    let f : stored_finding ty size lba y ≡ Some check = ap (λ a. stored_finding ty size a y) (sym z) ∙ bad in
    let new : new_finding ty size lba b y ≡ Some check = ap (λ c. unless c (stored_finding ty size lba y)) g ∙ f in
    ap (λ c. or_else (spoilt_of dev lba c) (first_spoilt_from ty size dev (lba + 1) blocks blocks)) new ∙ ap (λ a. Some (Scrub dev a check)) (sym z)
one_block ty size dev lba (b ∷ blocks) (suc j) y check l good bad =
    let z : lba + suc j ≡ lba + 1 + j = omega arith in
    ap (λ c. or_else (spoilt_of dev lba c) (first_spoilt_from ty size dev (lba + 1) blocks (set blocks j y))) (nothing_new (stored_finding ty size lba b))
    ∙ one_block ty size dev (lba + 1) blocks j y check (omega arith) (ap (λ a. stored_finding ty size a (get_or blocks j [])) (sym z) ∙ good) (ap (λ a. stored_finding ty size a y) (sym z) ∙ bad)
    ∙ ap (λ a. Some (Scrub dev a check)) (sym z)

take_set : (n : ℕ) (blocks : List (List ℕ)) (i : ℕ) (y : List ℕ) → i < n → take n (set blocks i y) ≡ set (take n blocks) i y
take_set zero blocks i y l = absurd (omega arith)
take_set (suc n) [] i y l = refl
take_set (suc n) (b ∷ blocks) zero y l = refl
take_set (suc n) (b ∷ blocks) (suc i) y l = ap (λ bs. b ∷ bs) (take_set n blocks i y (omega arith))

-- so of units
pub one_unit : (us : List UnitSpec) (ty : PiType) (size dev d lba : ℕ) (blocks : List (List ℕ)) (y : List ℕ) (check : Check) → map length blocks ≡ sizes_of us → IsOn (map info_of us) ty size d lba 1 →
    stored_finding ty size lba (get_or blocks (cell_in us d lba) []) ≡ None → stored_finding ty size lba y ≡ Some check → first_spoilt dev (recut us blocks) (recut us (set blocks (cell_in us d lba) y)) ≡ Some (Scrub (dev + d) lba check)
one_unit [] ty size dev d lba blocks y check e on good bad = let l = on.known in absurd (omega arith)
one_unit (u ∷ us) ty size dev zero lba blocks y check e on good bad =
    let c : ℕ = lba - u.first in
    let low : u.first ≤ lba = on.begins in
    let high : lba + 1 ≤ u.first + u.blocks = on.ends in
    let k = cut (stored_size u.ty u.size) u.blocks blocks (sizes_of us) e in
    let n = u.blocks in
    let many = k.many in
    let inside : c < n = omega arith in
    let at : u.first + c ≡ lba = omega arith in
    let z : dev + 0 ≡ dev = omega arith in
    let t : u.ty ≡ ty = on.type_is in
    let s : u.size ≡ size = on.size_is in
    let g : stored_finding u.ty u.size (u.first + c) (get_or (take n blocks) c []) ≡ None =
    ap (stored_finding u.ty u.size (u.first + c)) (get_or-take n blocks c [] inside) ∙ ap (λ t. stored_finding t u.size (u.first + c) (get_or blocks c [])) t ∙ ap (λ s. stored_finding ty s (u.first + c) (get_or blocks c [])) s ∙ ap (λ a. stored_finding ty size a (get_or blocks c [])) at ∙ good in
    let f : stored_finding u.ty u.size (u.first + c) y ≡ Some check =
    ap (λ t. stored_finding t u.size (u.first + c) y) t ∙ ap (λ s. stored_finding ty s (u.first + c) y) s ∙ ap (λ a. stored_finding ty size a y) at ∙ bad in
    let rest = first_spoilt (dev + 1) (recut us (drop n blocks)) (recut us (drop n (set blocks c y))) in
    ap (λ xs. or_else (first_spoilt_from u.ty u.size dev u.first (take n blocks) xs) rest) (take_set n blocks c y inside)
    ∙ ap (λ v. or_else v rest) (one_block u.ty u.size dev u.first (take n blocks) c y check (omega arith) g f)
    ∙ ap (λ a. Some (Scrub dev a check)) at ∙ ap (λ a. Some (Scrub a lba check)) (sym z)
one_unit (u ∷ us) ty size dev (suc d) lba blocks y check e on good bad =
    let n = u.blocks in
    let c : ℕ = cell_in us d lba in
    let k = cut (stored_size u.ty u.size) u.blocks blocks (sizes_of us) e in
    let known = on.known in
    let there : IsOn (map info_of us) ty size d lba 1 = record { known = omega arith; begins = on.begins; ends = on.ends; type_is = on.type_is; size_is = on.size_is } in
    let z : dev + 1 + d ≡ dev + suc d = omega arith in
    let beyond : n ≤ n + c = omega arith in
    let good' : stored_finding ty size lba (get_or (drop n blocks) c []) ≡ None = ap (stored_finding ty size lba) (get_or-drop n blocks c []) ∙ good in
    ap (λ xs. or_else (first_spoilt_from u.ty u.size dev u.first (take n blocks) xs) (first_spoilt (dev + 1) (recut us (drop n blocks)) (recut us (drop n (set blocks (n + c) y))))) (take-set-le n blocks (n + c) y beyond)
    ∙ ap (λ v. or_else v (first_spoilt (dev + 1) (recut us (drop n blocks)) (recut us (drop n (set blocks (n + c) y))))) (same_blocks u.ty u.size dev u.first (take n blocks))
    ∙ ap (λ xs. first_spoilt (dev + 1) (recut us (drop n blocks)) (recut us xs)) (drop-set-add n blocks c y)
    ∙ one_unit us ty size (dev + 1) d lba (drop n blocks) y check k.behind there good' bad
    ∙ ap (λ a. Some (Scrub a lba check)) z

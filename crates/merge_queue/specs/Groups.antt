-- The queue of one device: groups by first address, then by age.
use Rattle.std.specs.Prelude.{◌≡◌, ◌<◌, ℕ, zero, suc, ◌+◌, Bool, true, false, not, ◌&&◌, eqb, nat_lt, nat_le, if◌then◌else◌, List, [], ◌∷◌, ◌++◌, length, get_or, set, map, Result, Ok, Err}
use Rattle.std.specs.List.{filter, flat_map}
use Rattle.bio_core.specs.declared.bio.Bio.{Bio}
use Rattle.bio_core.specs.declared.request.Dir.{Dir}
use Rattle.bio_core.specs.declared.request.Dir.TheVariants.{Read, Write}
use Rattle.merge_queue.specs.declared.limits.Limits.{Limits}

-- a group: bios, each beginning where the one before ends
abbrev pub Group : Type 0
Group = List Bio

-- how many blocks these bios have
abbrev pub size : List Bio → ℕ
size [] = 0
size (b ∷ bs) = b.count + size bs

abbrev pub lba_of : Group → ℕ
lba_of [] = 0
lba_of (b ∷ bs) = b.lba

abbrev pub dir_of : Group → Dir
dir_of [] = Read
dir_of (b ∷ bs) = b.dir

abbrev pub segs_of : Group → ℕ
segs_of [] = 0
segs_of (b ∷ bs) = b.segs + segs_of bs

abbrev pub pi_segs_of : Group → ℕ
pi_segs_of [] = 0
pi_segs_of (b ∷ bs) = b.pi_segs + pi_segs_of bs

-- a new group is the youngest: it stands behind all that begin at its address or before
abbrev pub put : Group → List Group → List Group
put g [] = g ∷ []
put g (h ∷ hs) = if nat_lt (lba_of g) (lba_of h) then g ∷ (h ∷ hs) else h ∷ put g hs

abbrev pub put_all : List Group → List Group → List Group
put_all [] q = q
put_all (g ∷ gs) q = put_all gs (put g q)

abbrev pub same_dir : Dir → Dir → Bool
same_dir Read Read = true
same_dir Read Write = false
same_dir Write Read = false
same_dir Write Write = true

-- group h may follow group g
abbrev pub may_follow : Limits → Group → Group → Bool
may_follow lim g h = same_dir (dir_of g) (dir_of h) && (eqb (lba_of g + size g) (lba_of h)
    && (nat_le (size g + size h) lim.max_blocks && (nat_le (segs_of g + segs_of h) lim.max_segs && nat_le (pi_segs_of g + pi_segs_of h) lim.max_pi_segs)))

abbrev pub without : {A : Type 0} → ℕ → List A → List A
without i [] = []
without zero (x ∷ xs) = xs
without (suc i) (x ∷ xs) = x ∷ without i xs

abbrev pub group_in : List Group → ℕ → Group
group_in q i = get_or q i []

-- groups i and j become one in the place of group i
abbrev pub joined : List Group → ℕ → ℕ → List Group
joined q i j = without j (set q i (group_in q i ++ group_in q j))

-- group j may be joined behind group i
abbrev pub may_join : Limits → List Group → ℕ → ℕ → Bool
may_join lim q i j = not (eqb i j) && may_follow lim (group_in q i) (group_in q j)

-- n numbers from k on
abbrev pub numbers : ℕ → ℕ → List ℕ
numbers k zero = []
numbers k (suc n) = k ∷ numbers (suc k) n

-- the groups that may be joined behind group i
abbrev pub followers : Limits → List Group → ℕ → List ℕ
followers lim q i = filter (may_join lim q i) (numbers 0 (length q))

-- the groups that may be joined, the first of them below n
abbrev pub pairs_below : Limits → List Group → ℕ → List (ℕ × ℕ)
pairs_below lim q n = flat_map (λ i. map (λ j. (i, j)) (followers lim q i)) (numbers 0 n)

abbrev pub pairs : Limits → List Group → List (ℕ × ℕ)
pairs lim q = pairs_below lim q (length q)

-- the pair of this number, or how far the number is past the last
abbrev pub PairFound : Limits → List Group → ℕ → Result (ℕ × ℕ) ℕ → Type 0
PairFound lim q n (Ok pair) = (n < length (pairs lim q)) × (pair ≡ get_or (pairs lim q) n (0, 0))
PairFound lim q n (Err left) = n ≡ length (pairs lim q) + left

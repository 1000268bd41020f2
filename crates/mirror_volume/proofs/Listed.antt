-- What a mirror's op lists of its blocks is what a request on a leg listed: so where all findings there are of a kind, its own are.
use Rattle.std.proofs.Common.{◌≡◌, ℕ, zero, suc, Bool, true, false, not, ◌&&◌, ◌||◌, is_none, if◌then◌else◌, List, [], ◌∷◌, ◌++◌, drop, length, replicate, set, take, Option, Some, None, inl, inr, ◌⊎◌, sym, subst, arith, ◌+◌}
use Rattle.std.specs.Prelude.{All}
use Rattle.std.proofs.lemmas.List.Elements.{All-cons, All-head, All-tail}
use Rattle.bio_core.specs.declared.fate.Why.{Why}
use Rattle.page_pool.specs.declared.segs.Seg.{Seg}
use Rattle.stack_ops.specs.declared.op.Op.{Op}
use Rattle.stack_ops.specs.declared.op.Op.TheVariants.{Fetch, FetchPi, Fill, Overwrite, Put, Seal, Show, Wait, Write, WritePi}
use Rattle.stack_ops.specs.declared.reply.BadBlock.{BadBlock}
use Rattle.stack_ops.specs.declared.reply.Reply.{Reply}
use Rattle.stack_ops.specs.declared.reply.Reply.TheVariants.{Bad, Medium, Shown, Silent, Whole}
use Rattle.walk_laws.specs.ScriptWalk.{bad_from, whole_or_bad}
use Rattle.script_text.specs.declared.script.Script.{Script}
use Rattle.mirror_laws.specs.Mirror.{neither}
use Rattle.mirror_laws.specs.OnLegs.{listed_written}
use Rattle.mirror_laws.specs.declared.marks.Marks.{Marks}
use Rattle.mirror_volume.specs.Asked.{first_listed, found_after, last_listed, pasted}
use Rattle.mirror_volume.specs.LegRuns.{LegRun, found_by, found_in, noted, replies_of}
use Rattle.mirror_volume.specs.OnOps.{FetchedBy, OpBy, Sides, WroteBy}

-- ---- of a kind

-- Each block that the reply lists has a finding of this kind.
abbrev pub ListsOnly : (Why → Bool) → Reply → Type 0
ListsOnly ok Silent = Unit {0}
ListsOnly ok Whole = Unit {0}
ListsOnly ok (Bad blocks) = All (λ (b : BadBlock). ok b.why ≡ true) blocks
ListsOnly ok (Shown bytes) = Unit {0}
ListsOnly ok Medium = Unit {0}

-- So it is of the replies of each run.
abbrev pub EachLists : (Why → Bool) → List LegRun → Type 0
EachLists ok [] = Unit {0}
EachLists ok (r ∷ runs) = All (ListsOnly ok) (replies_of r) × EachLists ok runs

abbrev Is : (Why → Bool) → Option Why → Type 0
Is ok None = Unit {0}
Is ok (Some why) = ok why ≡ true

abbrev Are : (Why → Bool) → List (Option Why) → Type 0
Are ok [] = Unit {0}
Are ok (why ∷ found) = Is ok why × Are ok found

-- ---- lists of findings

are-none : (ok : Why → Bool) (n : ℕ) → Are ok (replicate n None)
are-none ok zero = tt
are-none ok (suc n) = (tt, are-none ok n)

are-append : (ok : Why → Bool) (xs ys : List (Option Why)) → Are ok xs → Are ok ys → Are ok (xs ++ ys)
are-append ok [] ys h k = k
are-append ok (x ∷ xs) ys h k = (h.0, are-append ok xs ys h.1 k)

are-take : (ok : Why → Bool) (n : ℕ) (xs : List (Option Why)) → Are ok xs → Are ok (take n xs)
are-take ok zero xs h = tt
are-take ok (suc n) [] h = tt
are-take ok (suc n) (x ∷ xs) h = (h.0, are-take ok n xs h.1)

are-drop : (ok : Why → Bool) (n : ℕ) (xs : List (Option Why)) → Are ok xs → Are ok (drop n xs)
are-drop ok zero xs h = h
are-drop ok (suc n) [] h = tt
are-drop ok (suc n) (x ∷ xs) h = are-drop ok n xs h.1

are-set : (ok : Why → Bool) (xs : List (Option Why)) (k : ℕ) (why : Option Why) → Is ok why → Are ok xs → Are ok (set xs k why)
are-set ok [] k why h hs = tt
are-set ok (x ∷ xs) zero why h hs = (h, hs.1)
are-set ok (x ∷ xs) (suc k) why h hs = (hs.0, are-set ok xs k why h hs.1)

are-noted : (ok : Why → Bool) (blocks : List BadBlock) (found : List (Option Why)) → All (λ (b : BadBlock). ok b.why ≡ true) blocks → Are ok found → Are ok (noted blocks found)
are-noted ok [] found h k = k
are-noted ok (b ∷ blocks) found h k =
    are-noted ok blocks (set found b.k (Some b.why)) (All-tail (λ (x : BadBlock). ok x.why ≡ true) b blocks h)
    (are-set ok found b.k (Some b.why) (All-head (λ (x : BadBlock). ok x.why ≡ true) b blocks h) k)

-- ---- by the replies of a request

are-found : (ok : Why → Bool) (n : ℕ) (reply : Reply) → ListsOnly ok reply → Are ok (found_in n reply)
are-found ok n Silent h = are-none ok n
are-found ok n Whole h = are-none ok n
are-found ok n (Bad blocks) h = are-noted ok blocks (replicate n None) h (are-none ok n)
are-found ok n (Shown bytes) h = are-none ok n
are-found ok n Medium h = are-none ok n

are-by : (ok : Why → Bool) (n : ℕ) (replies : List Reply) → All (ListsOnly ok) replies → Are ok (found_by n replies)
are-by ok n [] h = are-none ok n
are-by ok n (reply ∷ []) h = are-found ok n reply (All-head (ListsOnly ok) reply [] h)
are-by ok n (reply ∷ next ∷ replies) h = are-by ok n (next ∷ replies) (All-tail (ListsOnly ok) reply (next ∷ replies) h)

are-after : (ok : Why → Bool) (ss : List (ℕ × ℕ)) (runs : List LegRun) (found : List (Option Why)) → EachLists ok runs → Are ok found → Are ok (found_after ss runs found)
are-after ok [] runs found h k = k
are-after ok (s ∷ ss) [] found h k = k
are-after ok (s ∷ ss) (r ∷ runs) found h k =
    let part = found_by s.1 (replies_of r) in
    are-after ok ss runs (pasted s.0 part found) h.1
    (are-append ok (take s.0 found) (part ++ drop (s.0 + length part) found) (are-take ok s.0 found k)
    (are-append ok part (drop (s.0 + length part) found) (are-by ok s.1 (replies_of r) h.0) (are-drop ok (s.0 + length part) found k)))

-- ---- what is listed

either-is : (ok : Why → Bool) (b : Bool) (x y : Option Why) → Is ok x → Is ok y → Is ok (if b then x else y)
either-is ok true x y h k = h
either-is ok false x y h k = k

neither-is : (ok : Why → Bool) (x y : Option Why) → Is ok x → Is ok (neither x y)
neither-is ok None y h = tt
neither-is ok (Some why) None h = tt
neither-is ok (Some why) (Some other) h = h

are-written : (ok : Why → Bool) (xs ys : List (Option Why)) → Are ok xs → Are ok (listed_written xs ys)
are-written ok [] ys h = tt
are-written ok (x ∷ xs) [] h = tt
are-written ok (x ∷ xs) (y ∷ ys) h = (neither-is ok x y h.0, are-written ok xs ys h.1)

are-first : (ok : Why → Bool) (marks : List Marks) (found : List (Option Why)) → Are ok found → Are ok (first_listed marks found)
are-first ok [] found h = tt
are-first ok (k ∷ marks) [] h = tt
are-first ok (k ∷ marks) (why ∷ found) h = (either-is ok k.leg0 why None h.0 tt, are-first ok marks found h.1)

are-last : (ok : Why → Bool) (marks : List Marks) (wanted : List Bool) (listed found : List (Option Why)) → Are ok listed → Are ok found → Are ok (last_listed marks wanted listed found)
are-last ok [] wanted listed found h k = tt
are-last ok (m ∷ marks) [] listed found h k = tt
are-last ok (m ∷ marks) (w ∷ wanted) [] found h k = tt
are-last ok (m ∷ marks) (w ∷ wanted) (old ∷ listed) [] h k = tt
are-last ok (m ∷ marks) (w ∷ wanted) (old ∷ listed) (why ∷ found) h k = (either-is ok (w && (not m.leg0 || is_none why)) why old k.0 h.0, are-last ok marks wanted listed found h.1 k.1)

bad-are : (ok : Why → Bool) (k : ℕ) (whys : List (Option Why)) → Are ok whys → All (λ (b : BadBlock). ok b.why ≡ true) (bad_from k whys)
bad-are ok k [] h = λ i d l. absurd (omega arith)
bad-are ok k (None ∷ whys) h = bad-are ok (suc k) whys h.1
bad-are ok k (Some why ∷ whys) h = All-cons (λ (b : BadBlock). ok b.why ≡ true) (record { k = k; why = why }) (bad_from (suc k) whys) h.0 (bad-are ok (suc k) whys h.1)

whole-or : (ok : Why → Bool) (bad : List BadBlock) → All (λ (b : BadBlock). ok b.why ≡ true) bad → ListsOnly ok (whole_or_bad bad)
whole-or ok [] h = tt
whole-or ok (b ∷ bad) h = h

listed-so : (ok : Why → Bool) (whys : List (Option Why)) (reply : Reply) → reply ≡ whole_or_bad (bad_from 0 whys) → Are ok whys → ListsOnly ok reply
listed-so ok whys reply e h = subst (ListsOnly ok) (sym e) (whole-or ok (bad_from 0 whys) (bad-are ok 0 whys h))

-- ---- the ops

each-first : (ok : Why → Bool) (xs ys : List LegRun) → EachLists ok (xs ++ ys) → EachLists ok xs
each-first ok [] ys h = tt
each-first ok (x ∷ xs) ys h = (h.0, each-first ok xs ys h.1)

each-last : (ok : Why → Bool) (xs ys : List LegRun) → EachLists ok (xs ++ ys) → EachLists ok ys
each-last ok [] ys h = h
each-last ok (x ∷ xs) ys h = each-last ok xs ys h.1

listed-by-write : (ok : Why → Bool) (s : Script) (half op v n app : ℕ) (bytes : List ℕ) (old new : List Marks) (runs : List LegRun) (reply : Reply) → WroteBy s half op v n app bytes old new runs reply → EachLists ok runs → ListsOnly ok reply
listed-by-write ok s half op v n app bytes old new runs reply w each =
    let h = subst (EachLists ok) w.runs_are each in
    let found0 = found_by n (replies_of w.on0) in
    let found1 = found_by n (replies_of w.on1) in
    listed-so ok (listed_written found0 found1) reply w.reply_is (are-written ok found0 found1 (are-by ok n (replies_of w.on0) h.0))

listed-by-read : (ok : Why → Bool) (s : Script) (half op v n : ℕ) (body : List Seg) (old new : Sides) (runs : List LegRun) (reply : Reply) → FetchedBy s half op v n body old new runs reply → EachLists ok runs → ListsOnly ok reply
listed-by-read ok s half op v n body old new runs reply w each =
    let h = subst (EachLists ok) w.runs_are each in
    let r = w.read in
    let found0 = subst (Are ok) (sym r.found0_is) (are-after ok _ w.runs0 (replicate n None) (each-first ok w.runs0 w.runs1 h) (are-none ok n)) in
    let found1 = subst (Are ok) (sym r.found1_is) (are-after ok _ w.runs1 r.found0 (each-last ok w.runs0 w.runs1 h) found0) in
    listed-so ok w.listed reply w.reply_is
    (subst (Are ok) (sym r.listed_is) (are-last ok _ _ _ r.found1 (are-first ok _ r.found0 found0) found1))

is-silent : (ok : Why → Bool) (reply : Reply) → reply ≡ Silent → ListsOnly ok reply
is-silent ok reply e = subst (ListsOnly ok) (sym e) tt

is-either : (ok : Why → Bool) (reply : Reply) → (reply ≡ Silent) ⊎ (reply ≡ Medium) → ListsOnly ok reply
is-either ok reply (inl e) = is-silent ok reply e
is-either ok reply (inr e) = subst (ListsOnly ok) (sym e) tt

pub op-lists : (ok : Why → Bool) (s : Script) (half number : ℕ) (op : Op) (old new : Sides) (runs : List LegRun) (reply : Reply) → OpBy s half number op old new runs reply → EachLists ok runs → ListsOnly ok reply
op-lists ok s half number (Fill seg byte) old new runs reply by each = is-silent ok reply by.1
op-lists ok s half number (Put page off bytes) old new runs reply by each = is-silent ok reply by.1
op-lists ok s half number (Show seg) old new runs reply by each = subst (ListsOnly ok) (sym by.1) tt
op-lists ok s half number (Seal n body tuples app rtag) old new runs reply by each = is-silent ok reply by.1
op-lists ok s half number (Write v n body app) old new runs reply by each = listed-by-write ok s half number v n app _ old.marks new.marks runs reply by.1 each
op-lists ok s half number (Fetch v n body) old new runs reply by each = listed-by-read ok s half number v n body old new runs reply by each
op-lists ok s half number (WritePi v n body tuples) old new runs reply by each = is-silent ok reply by.1
op-lists ok s half number (FetchPi v n body tuples) old new runs reply by each = is-silent ok reply by.1
op-lists ok s half number (Overwrite dev lba change) old new runs reply by each = is-either ok reply by.1
op-lists ok s half number Wait old new runs reply by each = is-silent ok reply by.1

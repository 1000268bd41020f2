-- The lines of an op's reply that name the medium come from lines of its runs.
use Rattle.std.proofs.Common.{◌≡◌, ◌≤◌, ℕ, zero, suc, ◌+◌, inl, inr, ◌⊎◌, Bool, true, false, not, ◌&&◌, ◌||◌, if◌then◌else◌, is_none, is_some, List, [], ◌∷◌, ◌++◌, length, replicate, set, take, drop, Option, Some, None, refl, sym, ap, subst, ◌∙◌, arith}
use Rattle.std.proofs.Math.Seq.{drop-nil}
use Rattle.dix_base.specs.Told.{Rose}
use Rattle.bio_core.specs.declared.fate.Why.{Why}
use Rattle.page_pool.specs.declared.segs.Seg.{Seg}
use Rattle.page_pool.specs.Pages.{bytes_in}
use Rattle.page_pool.specs.Places.{total}
use Rattle.stack_ops.specs.declared.op.Op.{Op}
use Rattle.stack_ops.specs.declared.op.Op.TheVariants.{Fetch, FetchPi, Fill, Overwrite, Put, Seal, Show, Wait, Write, WritePi}
use Rattle.stack_ops.specs.declared.reply.BadBlock.{BadBlock}
use Rattle.stack_ops.specs.declared.reply.Reply.{Reply}
use Rattle.stack_ops.specs.declared.reply.Reply.TheVariants.{Bad, Medium, Shown, Silent, Whole}
use Rattle.mirror_volume.specs.LegsPassed.{RoseBy, listed_mediums, medium_lines, medium_replies}
use Rattle.volume_table.specs.declared.device.DeviceInfo.{DeviceInfo}
use Rattle.volume_table.specs.Tables.{Table}
use Rattle.walk_laws.specs.ScriptWalk.{bad_from, whole_or_bad}
use Rattle.block_path.specs.Senses.{is_medium_why}
use Rattle.fault_schedule.specs.Altered.{has_fail}
use Rattle.script_text.specs.declared.script.Script.{Script}
use Rattle.mirror_volume.proofs.Unfailing.{op-unfailing}
use Rattle.mirror_laws.specs.Mirror.{neither}
use Rattle.mirror_laws.specs.OnLegs.{listed_written}
use Rattle.mirror_laws.specs.declared.marks.Marks.{Marks}
use Rattle.mirror_volume.specs.Asked.{first_listed, found_after, fresh_on0, last_listed, pasted, rest_wanted, stretches}
use Rattle.mirror_volume.specs.LegRuns.{LegRun, RanLegs, all_unscheduled, found_by, found_in, noted, replies_of}
use Rattle.mirror_volume.specs.OnOps.{FetchedBy, OpBy, OpRan, OpTells, Sides, WroteBy}
use Rattle.mirror_volume.proofs.Runs.{all_mediums, all_mediums-append, unfailing-mediums, NoneFails}
use Rattle.rig_api.specs.State.{RigState}

-- 1 for a block that is listed with the medium
abbrev one : Option Why → ℕ
one None = 0
one (Some why) = if is_medium_why why then 1 else 0

abbrev lost : List (Option Why) → ℕ
lost [] = 0
lost (why ∷ found) = one why + lost found

-- where a mark says so
abbrev one_if : Bool → Option Why → ℕ
one_if true why = one why
one_if false why = 0

abbrev lost_at : List Bool → List (Option Why) → ℕ
lost_at [] found = 0
lost_at (b ∷ bs) [] = 0
lost_at (b ∷ bs) (why ∷ found) = one_if b why + lost_at bs found

if-least : (b : Bool) (why : Option Why) → one_if b why ≤ one why
if-least true why = omega arith
if-least false why = omega arith

-- ---- what one run finds

lost-none : (n : ℕ) → lost (replicate n None) ≡ 0
lost-none zero = refl
lost-none (suc n) = let r = lost-none n in omega (arith, r)

lost-set : (found : List (Option Why)) (k : ℕ) (why : Option Why) → lost (set found k why) ≤ one why + lost found
lost-set [] k why = omega arith
lost-set (x ∷ found) zero why = omega arith
lost-set (x ∷ found) (suc k) why = let r = lost-set found k why in omega (arith, r)

lost-noted : (blocks : List BadBlock) (found : List (Option Why)) → lost (noted blocks found) ≤ listed_mediums blocks + lost found
lost-noted [] found = omega arith
lost-noted (b ∷ blocks) found =
    let r = lost-noted blocks (set found b.k (Some b.why)) in
    let s = lost-set found b.k (Some b.why) in
    omega (arith, r, s)

lost-reply : (n : ℕ) (reply : Reply) → lost (found_in n reply) ≤ medium_lines (reply ∷ [])
lost-reply n Silent = let r = lost-none n in omega (arith, r)
lost-reply n Whole = let r = lost-none n in omega (arith, r)
lost-reply n (Bad blocks) =
    let r = lost-noted blocks (replicate n None) in
    let s = lost-none n in
    omega (arith, r, s)
lost-reply n (Shown bytes) = let r = lost-none n in omega (arith, r)
lost-reply n Medium = let r = lost-none n in omega (arith, r)

lost-run : (n : ℕ) (replies : List Reply) → lost (found_by n replies) ≤ medium_lines replies
lost-run n [] = let r = lost-none n in omega (arith, r)
lost-run n (reply ∷ []) = lost-reply n reply
lost-run n (reply ∷ next ∷ replies) = let r = lost-run n (next ∷ replies) in omega (arith, r)

-- ---- what is listed

lost-bad : (k : ℕ) (whys : List (Option Why)) → listed_mediums (bad_from k whys) ≡ lost whys
lost-bad k [] = refl
lost-bad k (None ∷ whys) = let r = lost-bad (suc k) whys in omega (arith, r)
lost-bad k (Some why ∷ whys) = let r = lost-bad (suc k) whys in omega (arith, r)

lines-bad : (bad : List BadBlock) → medium_lines (whole_or_bad bad ∷ []) ≡ listed_mediums bad
lines-bad [] = refl
lines-bad (b ∷ bad) = omega arith

lines-listed : (whys : List (Option Why)) → medium_lines (whole_or_bad (bad_from 0 whys) ∷ []) ≡ lost whys
lines-listed whys = lines-bad (bad_from 0 whys) ∙ lost-bad 0 whys

-- ---- a write

neither-least : (a b : Option Why) → one (neither a b) ≤ one a
neither-least None b = omega arith
neither-least (Some why) None = omega arith
neither-least (Some why) (Some other) = omega arith

written-least : (a b : List (Option Why)) → lost (listed_written a b) ≤ lost a
written-least [] b = omega arith
written-least (x ∷ a) [] = omega arith
written-least (x ∷ a) (y ∷ b) =
    let r = written-least a b in
    let n = neither-least x y in
    omega (arith, r, n)

pub lines-of-write : (s : Script) (half op v n app : ℕ) (bytes : List ℕ) (old new : List Marks) (runs : List LegRun) (reply : Reply) → WroteBy s half op v n app bytes old new runs reply → medium_lines (reply ∷ []) ≤ all_mediums runs
lines-of-write s half op v n app bytes old new runs reply w =
    let found0 = found_by n (replies_of w.on0) in
    let found1 = found_by n (replies_of w.on1) in
    let a = ap (λ (r : Reply). medium_lines (r ∷ [])) w.reply_is ∙ lines-listed (listed_written found0 found1) in
    let b = written-least found0 found1 in
    let c = lost-run n (replies_of w.on0) in
    let d = ap all_mediums w.runs_are in
    omega (arith, a, b, c, d)

-- ---- a read

none-at : (mask : List Bool) → lost_at mask [] ≡ 0
none-at [] = refl
none-at (b ∷ mask) = refl

-- a part in the place of others
at-front : (mask : List Bool) (part all : List (Option Why)) → lost_at mask (part ++ drop (length part) all) ≤ lost part + lost_at mask all
at-front mask [] all = omega arith
at-front [] (x ∷ part) all = omega arith
at-front (b ∷ mask) (x ∷ part) [] =
    let r = at-front mask part [] in
    let e = ap (λ (xs : List (Option Why)). lost_at mask (part ++ xs)) (drop-nil {A = Option Why} (length part)) in
    let i = if-least b x in
    let z = none-at mask in
    omega (arith, r, e, i, z)
at-front (b ∷ mask) (x ∷ part) (y ∷ all) =
    let r = at-front mask part all in
    let i = if-least b x in
    omega (arith, r, i)

at-place : (mask : List Bool) (at k : ℕ) (part all : List (Option Why)) → k ≡ at + length part → lost_at mask (take at all ++ (part ++ drop k all)) ≤ lost part + lost_at mask all
at-place mask zero k part all e =
    let r = at-front mask part all in
    let q : k ≡ length part = omega (arith, e) in
    subst (λ j. lost_at mask (part ++ drop j all) ≤ lost part + lost_at mask all) (sym q) r
at-place mask (suc at) k part [] e =
    let r = at-front mask part [] in
    let a = ap (λ (xs : List (Option Why)). lost_at mask (part ++ xs)) (drop-nil {A = Option Why} (length part)) in
    let b = ap (λ (xs : List (Option Why)). lost_at mask (part ++ xs)) (drop-nil {A = Option Why} k) in
    omega (arith, r, a, b)
at-place [] (suc at) k part (y ∷ all) e = omega arith
at-place (b ∷ mask) (suc at) zero part (y ∷ all) e = absurd (omega (arith, e))
at-place (b ∷ mask) (suc at) (suc k) part (y ∷ all) e = let r = at-place mask at k part all (omega (arith, e)) in omega (arith, r)

lost-pasted : (mask : List Bool) (at : ℕ) (part all : List (Option Why)) → lost_at mask (pasted at part all) ≤ lost part + lost_at mask all
lost-pasted mask at part all = at-place mask at (at + length part) part all refl

lost-after : (mask : List Bool) (ss : List (ℕ × ℕ)) (runs : List LegRun) (found : List (Option Why)) → lost_at mask (found_after ss runs found) ≤ all_mediums runs + lost_at mask found
lost-after mask [] runs found = omega arith
lost-after mask (s ∷ ss) [] found = omega arith
lost-after mask (s ∷ ss) (r ∷ runs) found =
    let a = lost-after mask ss runs (pasted s.0 (found_by s.1 (replies_of r)) found) in
    let b = lost-pasted mask s.0 (found_by s.1 (replies_of r)) found in
    let c = lost-run s.1 (replies_of r) in
    omega (arith, a, b, c)

-- the blocks that are fresh on leg 0, and the others
abbrev on0 : List Marks → List Bool
on0 [] = []
on0 (k ∷ marks) = k.leg0 ∷ on0 marks

abbrev off0 : List Marks → List Bool
off0 [] = []
off0 (k ∷ marks) = not k.leg0 ∷ off0 marks

all-none : (mask : List Bool) (n : ℕ) → lost_at mask (replicate n None) ≡ 0
all-none [] n = refl
all-none (b ∷ mask) zero = refl
all-none (b ∷ mask) (suc n) = let r = all-none mask n in let z = if-least b None in omega (arith, r, z)

-- one of both
abbrev all_in : List Marks → List Bool
all_in [] = []
all_in (k ∷ marks) = true ∷ all_in marks

either : (f : Bool) (why : Option Why) → one_if f why + one_if (not f) why ≡ one why
either true why = omega arith
either false why = omega arith

halves : (marks : List Marks) (found : List (Option Why)) → lost_at (on0 marks) found + lost_at (off0 marks) found ≡ lost_at (all_in marks) found
halves [] found = omega arith
halves (k ∷ marks) [] = omega arith
halves (k ∷ marks) (why ∷ found) = let r = halves marks found in let e = either k.leg0 why in omega (arith, r, e)

-- what a block is listed with in the end: by its marks, what was found on leg 0, and what after leg 1
listed-one : (f g : Bool) (a b : Option Why) → one (if (g && (not f || is_some a)) && (not f || is_none b) then b else (if f then a else None)) ≤ one_if f a + one_if (not f) b
listed-one true true None b = omega arith
listed-one true true (Some why) None = omega arith
listed-one true true (Some why) (Some other) = omega arith
listed-one true false a b = omega arith
listed-one false true a b = omega arith
listed-one false false a b = omega arith

listed-all : (marks : List Marks) (found0 found1 : List (Option Why)) → lost (last_listed marks (rest_wanted marks found0) (first_listed marks found0) found1) ≤ lost_at (on0 marks) found0 + lost_at (off0 marks) found1
listed-all [] found0 found1 = omega arith
listed-all (k ∷ marks) [] found1 = omega arith
listed-all (k ∷ marks) (a ∷ found0) [] = omega arith
listed-all (k ∷ marks) (a ∷ found0) (b ∷ found1) =
    let r = listed-all marks found0 found1 in
    let o = listed-one k.leg0 k.leg1 a b in
    omega (arith, r, o)

pub lines-of-read : (s : Script) (half op v n : ℕ) (body : List Seg) (old new : Sides) (runs : List LegRun) (reply : Reply) → FetchedBy s half op v n body old new runs reply → medium_lines (reply ∷ []) ≤ all_mediums runs
lines-of-read s half op v n body old new runs reply w =
    let marks = take n (drop v old.marks) in
    let r = w.read in
    let a = ap (λ (x : Reply). medium_lines (x ∷ [])) w.reply_is ∙ lines-listed w.listed ∙ ap lost r.listed_is in
    let b = listed-all marks r.found0 r.found1 in
    let c = ap (lost_at (off0 marks)) r.found1_is in
    let d = lost-after (off0 marks) (stretches (rest_wanted marks r.found0)) w.runs1 r.found0 in
    let e = halves marks r.found0 in
    let f = ap (lost_at (all_in marks)) r.found0_is in
    let g = lost-after (all_in marks) (stretches (fresh_on0 marks)) w.runs0 (replicate n None) in
    let h = all-none (all_in marks) n in
    let i = ap all_mediums w.runs_are ∙ all_mediums-append w.runs0 w.runs1 in
    omega (arith, a, b, c, d, e, f, g, h, i)

-- ---- an op

rose-less : (a b o n : ℕ) → a ≤ b → RoseBy b o n → RoseBy a o n
rose-less a b o n l h = grind (arith, l, h)

rose-none : (o n : ℕ) → o ≤ n → RoseBy 0 o n
rose-none o n l = inl (omega (arith, l))

rose-by-one : (o n : ℕ) → o ≤ n → Rose o n → RoseBy 1 o n
rose-by-one o n l h = grind (arith, l, h)

-- by runs without `fail` lines
by-runs : (t : Table) (devices : List DeviceInfo) (runs : List LegRun) (reply : Reply) (before after : RigState) → NoneFails runs → RanLegs t devices runs before after → medium_lines (reply ∷ []) ≤ all_mediums runs → RoseBy (medium_lines (reply ∷ [])) before.faults after.faults
by-runs t devices runs reply before after none ran few = let e = unfailing-mediums runs none in rose-less (medium_lines (reply ∷ [])) (all_unscheduled runs) before.faults after.faults (omega (arith, few, e)) ran.medium

-- as many lines of the reply as the count rose
abbrev Told : Reply → (before after : RigState) → Type 0
Told reply before after = RoseBy (medium_lines (reply ∷ [])) before.faults after.faults

silent : (t : Table) (devices : List DeviceInfo) (runs : List LegRun) (reply : Reply) (before after : RigState) → RanLegs t devices runs before after → medium_lines (reply ∷ []) ≡ 0 → Told reply before after
silent t devices runs reply before after ran e = subst (λ n. RoseBy n before.faults after.faults) (sym e) (rose-none before.faults after.faults ran.faults)

as-silent : (reply : Reply) → reply ≡ Silent → medium_lines (reply ∷ []) ≡ 0
as-silent reply e = ap (λ (r : Reply). medium_lines (r ∷ [])) e

overwritten : (reply : Reply) (before after : RigState) → before.faults ≤ after.faults → (reply ≡ Silent) ⊎ (reply ≡ Medium) → (reply ≡ Medium → Rose before.faults after.faults) → Told reply before after
overwritten reply before after l (inl e) h = subst (λ n. RoseBy n before.faults after.faults) (sym (as-silent reply e)) (rose-none before.faults after.faults l)
overwritten reply before after l (inr e) h = subst (λ n. RoseBy n before.faults after.faults) (sym (ap (λ (r : Reply). medium_lines (r ∷ [])) e)) (rose-by-one before.faults after.faults l (h e))

pub op-lines : (s : Script) (t : Table) (devices : List DeviceInfo) (half number : ℕ) (op : Op) (old new : Sides) (runs : List LegRun) (reply : Reply) (before after : RigState)
    → has_fail s.faults ≡ false → OpBy s half number op old new runs reply → OpRan op t devices runs before after → OpTells op reply before after → RoseBy (medium_lines (reply ∷ [])) before.faults after.faults
op-lines s t devices half number (Fill seg byte) old new runs reply before after none by ran told = silent t devices runs reply before after ran (as-silent reply by.1)
op-lines s t devices half number (Put page off bytes) old new runs reply before after none by ran told = silent t devices runs reply before after ran (as-silent reply by.1)
op-lines s t devices half number (Show seg) old new runs reply before after none by ran told = silent t devices runs reply before after ran (ap (λ (r : Reply). medium_lines (r ∷ [])) by.1)
op-lines s t devices half number (Seal n body tuples app rtag) old new runs reply before after none by ran told = silent t devices runs reply before after ran (as-silent reply by.1)
op-lines s t devices half number (Write v n body app) old new runs reply before after none by ran told =
    by-runs t devices runs reply before after (op-unfailing s half none number (Write v n body app) old new runs reply by) ran (lines-of-write s half number v n app (bytes_in old.pool body 0 (total body)) old.marks new.marks runs reply by.1)
op-lines s t devices half number (Fetch v n body) old new runs reply before after none by ran told =
    by-runs t devices runs reply before after (op-unfailing s half none number (Fetch v n body) old new runs reply by) ran (lines-of-read s half number v n body old new runs reply by)
op-lines s t devices half number (WritePi v n body tuples) old new runs reply before after none by ran told = silent t devices runs reply before after ran (as-silent reply by.1)
op-lines s t devices half number (FetchPi v n body tuples) old new runs reply before after none by ran told = silent t devices runs reply before after ran (as-silent reply by.1)
op-lines s t devices half number (Overwrite dev lba change) old new runs reply before after none by ran told = overwritten reply before after ran.faults by.1 told.medium
op-lines s t devices half number Wait old new runs reply before after none by ran told = silent t devices runs reply before after ran (as-silent reply by.1)

-- ---- whatever lines say that the medium fails

-- as many lines of the runs, but for the blocks that fault lines name, and as many overwrites
abbrev Unscheduled : List LegRun → Reply → (before after : RigState) → Type 0
Unscheduled runs reply before after = RoseBy (all_unscheduled runs + medium_replies (reply ∷ [])) before.faults after.faults

by-legs : (t : Table) (devices : List DeviceInfo) (runs : List LegRun) (reply : Reply) (before after : RigState) → RanLegs t devices runs before after → medium_replies (reply ∷ []) ≡ 0 → Unscheduled runs reply before after
by-legs t devices runs reply before after ran e = rose-less (all_unscheduled runs + medium_replies (reply ∷ [])) (all_unscheduled runs) before.faults after.faults (omega (arith, e)) ran.medium

by-overwrite : (runs : List LegRun) (reply : Reply) (before after : RigState) → runs ≡ [] → before.faults ≤ after.faults → (reply ≡ Silent) ⊎ (reply ≡ Medium) → (reply ≡ Medium → Rose before.faults after.faults) → Unscheduled runs reply before after
by-overwrite runs reply before after none l (inl e) h = rw (none, e) (rose-none before.faults after.faults l)
by-overwrite runs reply before after none l (inr e) h = let r = h e in rw (none, e) (rose-by-one before.faults after.faults l r)

no-overwrite : (reply said : Reply) → reply ≡ said → medium_replies (said ∷ []) ≡ 0 → medium_replies (reply ∷ []) ≡ 0
no-overwrite reply said e z = ap (λ (r : Reply). medium_replies (r ∷ [])) e ∙ z

requested : (bad : List BadBlock) → medium_replies (whole_or_bad bad ∷ []) ≡ 0
requested [] = refl
requested (b ∷ bad) = refl

pub op-unscheduled : (s : Script) (t : Table) (devices : List DeviceInfo) (half number : ℕ) (op : Op) (old new : Sides) (runs : List LegRun) (reply : Reply) (before after : RigState)
    → OpBy s half number op old new runs reply → OpRan op t devices runs before after → OpTells op reply before after → RoseBy (all_unscheduled runs + medium_replies (reply ∷ [])) before.faults after.faults
op-unscheduled s t devices half number (Fill seg byte) old new runs reply before after by ran told = by-legs t devices runs reply before after ran (no-overwrite reply Silent by.1 refl)
op-unscheduled s t devices half number (Put page off bytes) old new runs reply before after by ran told = by-legs t devices runs reply before after ran (no-overwrite reply Silent by.1 refl)
op-unscheduled s t devices half number (Show seg) old new runs reply before after by ran told = by-legs t devices runs reply before after ran (no-overwrite reply _ by.1 refl)
op-unscheduled s t devices half number (Seal n body tuples app rtag) old new runs reply before after by ran told = by-legs t devices runs reply before after ran (no-overwrite reply Silent by.1 refl)
op-unscheduled s t devices half number (Write v n body app) old new runs reply before after by ran told = by-legs t devices runs reply before after ran (no-overwrite reply _ by.1.reply_is (requested _))
op-unscheduled s t devices half number (Fetch v n body) old new runs reply before after by ran told = by-legs t devices runs reply before after ran (no-overwrite reply _ by.reply_is (requested _))
op-unscheduled s t devices half number (WritePi v n body tuples) old new runs reply before after by ran told = by-legs t devices runs reply before after ran (no-overwrite reply Silent by.1 refl)
op-unscheduled s t devices half number (FetchPi v n body tuples) old new runs reply before after by ran told = by-legs t devices runs reply before after ran (no-overwrite reply Silent by.1 refl)
op-unscheduled s t devices half number (Overwrite dev lba change) old new runs reply before after by ran told = by-overwrite runs reply before after ran.none ran.faults by.1 told.medium
op-unscheduled s t devices half number Wait old new runs reply before after by ran told = by-legs t devices runs reply before after ran (no-overwrite reply Silent by.1 refl)

-- ---- replies one after another

pub overwrites-append : (xs ys : List Reply) → medium_replies (xs ++ ys) ≡ medium_replies xs + medium_replies ys
overwrites-append [] ys = omega arith
overwrites-append (x ∷ xs) ys = let e = overwrites-append xs ys in omega (arith, e)

pub lines-append : (xs ys : List Reply) → medium_lines (xs ++ ys) ≡ medium_lines xs + medium_lines ys
lines-append [] ys = omega arith
lines-append (x ∷ xs) ys = let e = lines-append xs ys in omega (arith, e)

pub rose-later : (a o m n : ℕ) → m ≤ n → RoseBy a o m → RoseBy a o n
rose-later a o m n l h = grind (arith, l, h)

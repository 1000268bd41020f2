-- The runs of untouched blocks, from left to right.
use Rattle.std.proofs.Common.{◌≡◌, ◌<◌, ◌≤◌, ℕ, zero, suc, ◌+◌, true, false, eqb, List, [], ◌∷◌, length, map, drop, get_or, refl, sym, ap, ◌∙◌, ⊎_elim, arith, drop-cons}
use Rattle.std.proofs.lemmas.Bool.{cases_Bool, eqb-true, eq-eqb}
use Rattle.std.proofs.lemmas.List.{drop_all}
use Rattle.bio_core.specs.declared.bio.Bio.{Bio}
use Rattle.bio_core.specs.declared.fate.Fate.{Fate}
use Rattle.bio_core.specs.declared.fate.Fate.TheVariants.{Good, Bad, Untouched}
use Rattle.stack_laws.specs.Plan.{Plan}
use Rattle.merge_queue.specs.Groups.{Group, put, put_all}
use Rattle.stack_laws.specs.Rests.{Run, front, behind, with_place, untouched_runs}
use Rattle.merge_queue.specs.Index.{bios_in}
use Rattle.stack_steps.specs.Parts.{untouched_front, rests_from}

abbrev Later : ℕ → List Run → Type 0
Later at [] = Unit {0}
Later at (r ∷ rs) = at ≤ r.at

later-less : (at : ℕ) (rs : List Run) → Later (suc at) rs → Later at rs
later-less at [] h = tt
later-less at (r ∷ rs) h = omega arith

later-with : (at : ℕ) (rs : List Run) → Later (suc at) rs → Later at (with_place at rs)
later-with at [] h = omega arith
later-with at (r ∷ rs) h =
    ⊎_elim (λ (z : eqb r.at (suc at) ≡ true). rw z (omega arith)) (λ (z : eqb r.at (suc at) ≡ false). rw z (omega arith)) (cases_Bool (eqb r.at (suc at)))

later : (at : ℕ) (fs : List Fate) → Later at (untouched_runs at fs)
later at [] = tt
later at (Good ∷ fs) = later-less at (untouched_runs (suc at) fs) (later (suc at) fs)
later at ((Bad why) ∷ fs) = later-less at (untouched_runs (suc at) fs) (later (suc at) fs)
later at (Untouched ∷ fs) = later-with at (untouched_runs (suc at) fs) (later (suc at) fs)

alone : (at : ℕ) (rs : List Run) → Later (suc (suc at)) rs → with_place at rs ≡ record { at = at; count = 1 } ∷ rs
alone at [] h = refl
alone at (r ∷ rs) h =
    ⊎_elim
    (λ (z : eqb r.at (suc at) ≡ true). let e = eqb-true r.at (suc at) z in absurd (omega arith))
    (λ (z : eqb r.at (suc at) ≡ false). rw z refl)
    (cases_Bool (eqb r.at (suc at)))

longer : (at m : ℕ) (rs : List Run) → with_place at (record { at = suc at; count = m } ∷ rs) ≡ record { at = at; count = suc m } ∷ rs
longer at m rs = let e : eqb (suc at) (suc at) ≡ true = eq-eqb (suc at) (suc at) refl in rw e refl

first-run : (at to : ℕ) (fs : List Fate) → 1 ≤ untouched_front fs → to ≡ at + untouched_front fs →
    untouched_runs at fs ≡ record { at = at; count = untouched_front fs } ∷ untouched_runs to (drop (untouched_front fs) fs)
first-run at to [] h e = absurd (omega arith)
first-run at to (Good ∷ fs) h e = absurd (omega arith)
first-run at to ((Bad why) ∷ fs) h e = absurd (omega arith)
first-run at to (Untouched ∷ []) h e = refl
first-run at to (Untouched ∷ Good ∷ fs) h e =
    let f : suc at ≡ to = omega arith in
    alone at (untouched_runs (suc (suc at)) fs) (later (suc (suc at)) fs) ∙ ap (λ n. record { at = at; count = 1 } ∷ untouched_runs (suc n) fs) f
first-run at to (Untouched ∷ (Bad why) ∷ fs) h e =
    let f : suc at ≡ to = omega arith in
    alone at (untouched_runs (suc (suc at)) fs) (later (suc (suc at)) fs) ∙ ap (λ n. record { at = at; count = 1 } ∷ untouched_runs (suc n) fs) f
first-run at to (Untouched ∷ Untouched ∷ fs) h e =
    ap (with_place at) (first-run (suc at) to (Untouched ∷ fs) (omega arith) (omega arith))
    ∙ longer at (untouched_front (Untouched ∷ fs)) (untouched_runs to (drop (untouched_front (Untouched ∷ fs)) (Untouched ∷ fs)))

drop-twice : {A : Type 0} (n m : ℕ) (xs : List A) → drop m (drop n xs) ≡ drop (n + m) xs
drop-twice zero m xs = let e : 0 + m ≡ m = omega arith in rw e refl
drop-twice (suc n) m [] = drop_all m [] (omega arith) ∙ sym (drop_all (suc n + m) [] (omega arith))
drop-twice (suc n) m (x ∷ xs) = let e : suc n + m ≡ suc (n + m) = omega arith in rw e (drop-twice n m xs)

pub next-run : (p : Plan) (bs : List Bio) (at m : ℕ) (fs : List Fate) → m ≡ untouched_front (drop at fs) → 1 ≤ m →
    rests_from p bs at fs ≡ front p m (behind p at bs) ∷ rests_from p bs (at + m) fs
next-run p bs at m fs e h =
    let r = first-run at (at + m) (drop at fs) (omega arith) (omega arith) in
    let d = drop-twice at m fs in
    ap (map (λ r. front p r.count (behind p r.at bs))) r
    ∙ ap (λ z. front p z (behind p at bs) ∷ map (λ r. front p r.count (behind p r.at bs)) (untouched_runs (at + m) (drop z (drop at fs)))) (sym e)
    ∙ ap (λ z. front p m (behind p at bs) ∷ map (λ r. front p r.count (behind p r.at bs)) (untouched_runs (at + m) z)) d

no-run : (at : ℕ) (f : Fate) (fs : List Fate) → 0 ≡ untouched_front (f ∷ fs) → untouched_runs at (f ∷ fs) ≡ untouched_runs (suc at) fs
no-run at Good fs e = refl
no-run at (Bad why) fs e = refl
no-run at Untouched fs e = absurd (omega arith)

pub skip-run : (p : Plan) (bs : List Bio) (at : ℕ) (fs : List Fate) → 0 ≡ untouched_front (drop at fs) → at < length fs →
    rests_from p bs at fs ≡ rests_from p bs (at + 1) fs
skip-run p bs at fs e h =
    let d = drop-cons fs at Good h in
    let s : suc at ≡ at + 1 = omega arith in
    ap (λ z. map (λ r. front p r.count (behind p r.at bs)) z)
    (ap (untouched_runs at) d ∙ no-run at (get_or fs at Good) (drop (suc at) fs) (e ∙ ap untouched_front d) ∙ ap (λ n. untouched_runs n (drop n fs)) s)

pub bios-put : (g : Group) (q : List Group) → bios_in (put g q) ≡ length g + bios_in q
bios-put g [] = refl
bios-put g (h ∷ hs) = grind (arith, bios-put g hs)

pub bios-put_all : (gs q : List Group) → bios_in (put_all gs q) ≡ bios_in gs + bios_in q
bios-put_all [] q = omega arith
bios-put_all (g ∷ gs) q = let e = bios-put_all gs (put g q) in let f = bios-put g q in omega arith

pub room-for-one : (g : Group) (gs q : List Group) (ys : List Group) (room : ℕ) → ys ≡ g ∷ gs → bios_in (put_all ys q) ≤ room → bios_in q + length g ≤ room
room-for-one g gs q ys room e h = let f = ap (λ z. bios_in (put_all z q)) e in let b = bios-put_all (g ∷ gs) q in omega arith

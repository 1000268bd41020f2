-- One block of a read of a mirror, leg by leg where store calls may fail: it isn't listed, and lands as what a good leg has.
use Rattle.std.proofs.Common.{◌≡◌, ◌<◌, ℕ, zero, suc, ◌+◌, ◌*◌, Bool, true, false, not, ◌&&◌, ◌||◌, is_none, if◌then◌else◌, List, [], ◌∷◌, ◌++◌, length, get_or, take, drop, Option, None, refl, sym, ap, ◌∙◌, arith}
use Rattle.std.specs.Prelude.{Result, Ok, Err, is_some}
use Rattle.std.proofs.lemmas.Bool.{false≢true}
use Rattle.std.proofs.lemmas.List.{drop-drop, drop_at, take_at}
use Rattle.page_pool.specs.Cells.{flat}
use Rattle.bio_core.specs.declared.fate.Why.{Why}
use Rattle.mirror_laws.specs.Mirror.{fresh}
use Rattle.mirror_laws.specs.OneGood.{on_leg}
use Rattle.mirror_laws.specs.OnLegs.{why_of}
use Rattle.mirror_laws.specs.declared.marks.Marks.{Marks}
use Rattle.mirror_volume.specs.Asked.{first_listed, fresh_on0, last_listed, rest_wanted}
use Rattle.mirror_volume.proofs.Flat.{AllLong}
use Rattle.mirror_volume.proofs.Painting.{chosen}
use Rattle.mirror_volume.proofs.SparedReads.{slice}

-- ---- lists, at one place

pub slice-flat : (size : ℕ) (xs : List (List ℕ)) (j : ℕ) → AllLong size xs → j < length xs → slice size (flat xs) j ≡ get_or xs j []
slice-flat size [] j h l = absurd (omega (arith, l))
slice-flat size (x ∷ xs) zero h l = let z : 0 * size ≡ 0 = omega arith in ap (λ k. take size (drop k (x ++ flat xs))) z ∙ take_at x (flat xs) size h.0
slice-flat size (x ∷ xs) (suc j) h l =
    let e : suc j * size ≡ size + j * size = omega arith in
    ap (λ k. take size (drop k (x ++ flat xs))) e ∙ ap (take size) (sym (drop-drop (j * size) size (x ++ flat xs)) ∙ ap (drop (j * size)) (drop_at x (flat xs) size h.0))
    ∙ slice-flat size xs j h.1 (omega (arith, l))

pub chosen-at : {X : Type 0} (f : ℕ → X) (at : ℕ) (wanted : List Bool) (xs : List X) (j : ℕ) (d : X) → length xs ≡ length wanted → j < length wanted
    → get_or (chosen f at wanted xs) j d ≡ (if get_or wanted j false then f (at + j) else get_or xs j d)
chosen-at f at [] xs j d e l = absurd (omega (arith, l))
chosen-at f at (w ∷ wanted) [] j d e l = absurd (omega (arith, e))
chosen-at f at (w ∷ wanted) (x ∷ xs) zero d e l = let z : at ≡ at + 0 = omega arith in ap (λ k. if w then f k else x) z
chosen-at f at (w ∷ wanted) (x ∷ xs) (suc j) d e l =
    let z : suc at + j ≡ at + suc j = omega arith in
    chosen-at f (suc at) wanted xs j d (omega (arith, e)) (omega (arith, l)) ∙ ap (λ k. if get_or wanted j false then f k else get_or xs j d) z

pub fresh0-at : (marks : List Marks) (j : ℕ) → j < length marks → get_or (fresh_on0 marks) j false ≡ (get_or marks j fresh).leg0
fresh0-at [] j l = absurd (omega (arith, l))
fresh0-at (k ∷ marks) zero l = refl
fresh0-at (k ∷ marks) (suc j) l = fresh0-at marks j (omega (arith, l))

pub rest-at : (marks : List Marks) (found : List (Option Why)) (j : ℕ) → length found ≡ length marks → j < length marks
    → get_or (rest_wanted marks found) j false ≡ ((get_or marks j fresh).leg1 && (not (get_or marks j fresh).leg0 || is_some (get_or found j None)))
rest-at [] found j e l = absurd (omega (arith, l))
rest-at (k ∷ marks) [] j e l = absurd (omega (arith, e))
rest-at (k ∷ marks) (w ∷ found) zero e l = refl
rest-at (k ∷ marks) (w ∷ found) (suc j) e l = rest-at marks found j (omega (arith, e)) (omega (arith, l))

pub first-at : (marks : List Marks) (found : List (Option Why)) (j : ℕ) → length found ≡ length marks → j < length marks → get_or (first_listed marks found) j None ≡ (if (get_or marks j fresh).leg0 then get_or found j None else None)
first-at [] found j e l = absurd (omega (arith, l))
first-at (k ∷ marks) [] j e l = absurd (omega (arith, e))
first-at (k ∷ marks) (w ∷ found) zero e l = refl
first-at (k ∷ marks) (w ∷ found) (suc j) e l = first-at marks found j (omega (arith, e)) (omega (arith, l))

pub last-at : (marks : List Marks) (wanted : List Bool) (listed found : List (Option Why)) (j : ℕ) → length wanted ≡ length marks → length listed ≡ length marks → length found ≡ length marks → j < length marks
    → get_or (last_listed marks wanted listed found) j None
    ≡ (if get_or wanted j false && (not (get_or marks j fresh).leg0 || is_none (get_or found j None)) then get_or found j None else get_or listed j None)
last-at [] wanted listed found j a b c l = absurd (omega (arith, l))
last-at (k ∷ marks) [] listed found j a b c l = absurd (omega (arith, a))
last-at (k ∷ marks) (w ∷ wanted) [] found j a b c l = absurd (omega (arith, b))
last-at (k ∷ marks) (w ∷ wanted) (old ∷ listed) [] j a b c l = absurd (omega (arith, c))
last-at (k ∷ marks) (w ∷ wanted) (old ∷ listed) (why ∷ found) zero a b c l = refl
last-at (k ∷ marks) (w ∷ wanted) (old ∷ listed) (why ∷ found) (suc j) a b c l = last-at marks wanted listed found j (omega (arith, a)) (omega (arith, b)) (omega (arith, c)) (omega (arith, l))

-- ---- the two legs

-- what is listed of a block, and what lands of it, by its marks and what comes of it on each leg
abbrev found_first : Marks → Result (List ℕ) Why → Option Why
found_first k a = if k.leg0 then why_of a else None

abbrev wants_other : Marks → Result (List ℕ) Why → Bool
wants_other k a = k.leg1 && (not k.leg0 || is_some (found_first k a))

abbrev found_then : Marks → (a b : Result (List ℕ) Why) → Option Why
found_then k a b = if wants_other k a then why_of b else found_first k a

abbrev pub listed_of : Marks → (a b : Result (List ℕ) Why) → Option Why
listed_of k a b = if wants_other k a && (not k.leg0 || is_none (found_then k a b)) then found_then k a b else (if k.leg0 then found_first k a else None)

abbrev pub lands_of : Marks → (one other zeros : List ℕ) → Result (List ℕ) Why → List ℕ
lands_of k one other zeros a = if wants_other k a then other else (if k.leg0 then one else zeros)

-- It isn't listed, and these data land.
pub record IsRight (k : Marks) (a b : Result (List ℕ) Why) (one other zeros body : List ℕ) : Type 0 where
  pub unlisted : listed_of k a b ≡ None
  pub lands : lands_of k one other zeros a ≡ body

-- The good leg delivers these data, and a fresh one delivers no other.
pub read-right : (leg k0 k1 : Bool) (a b : Result (List ℕ) Why) (one other zeros body : List ℕ) → on_leg leg k0 k1 ≡ true → (leg ≡ false → a ≡ Ok body) → (leg ≡ true → b ≡ Ok body)
    → (k0 ≡ true → (d : List ℕ) → a ≡ Ok d → d ≡ body) → (k0 ≡ true → (d : List ℕ) → a ≡ Ok d → one ≡ d) → (k1 ≡ true → (d : List ℕ) → b ≡ Ok d → other ≡ d)
    → IsRight (record { leg0 = k0; leg1 = k1 }) a b one other zeros body
read-right false false k1 a b one other zeros body g ga gb fa la lb = absurd (false≢true g)
read-right false true false (Ok x) b one other zeros body g ga gb fa la lb = record { unlisted = refl; lands = la refl x refl ∙ fa refl x refl }
read-right false true true (Ok x) b one other zeros body g ga gb fa la lb = record { unlisted = refl; lands = la refl x refl ∙ fa refl x refl }
read-right false true k1 (Err w) b one other zeros body g ga gb fa la lb = absurd (let z = ga refl in cc)
read-right true k0 false a b one other zeros body g ga gb fa la lb = absurd (false≢true g)
read-right true k0 true a (Err w) one other zeros body g ga gb fa la lb = absurd (let z = gb refl in cc)
read-right true false true a (Ok y) one other zeros body g ga gb fa la lb = record { unlisted = refl; lands = lb refl y refl ∙ (let z : Ok y ≡ Ok body = gb refl in let q : y ≡ body = cc in q) }
read-right true true true (Ok x) (Ok y) one other zeros body g ga gb fa la lb = record { unlisted = refl; lands = la refl x refl ∙ fa refl x refl }
read-right true true true (Err w) (Ok y) one other zeros body g ga gb fa la lb = record { unlisted = refl; lands = lb refl y refl ∙ (let z : Ok y ≡ Ok body = gb refl in let q : y ≡ body = cc in q) }

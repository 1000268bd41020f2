-- Tuples that every check of a block passes, escapes among them, and what is stored under them.
use Rattle.std.proofs.Common.{◌≡◌, ℕ, ◌+◌, Bool, true, false, eqb, ◌&&◌, ◌||◌, not, if◌then◌else◌, List, [], ◌∷◌, length, Option, None, refl, sym, ap, ◌∙◌, ◌⊎◌, inl, inr}
use Rattle.std.specs.Prelude.{bit_and}
use Rattle.std.proofs.lemmas.Bool.{eq-eqb, eqb-true, false≢true}
use Rattle.pi_guard.specs.Guards.{crc, guard_of}
use Rattle.pi_guard.specs.declared.GuardKind.{GuardKind}
use Rattle.pi_guard.proofs.GuardSizes.{guard_below}
use Rattle.pi_tuple.specs.Finds.{finding, first_of, has_ref_tag, is_escaped, is_zero}
use Rattle.pi_tuple.specs.Tuples.{ref_tag}
use Rattle.pi_tuple.specs.declared.tuple.Tuple.{Tuple}
use Rattle.pi_tuple.specs.declared.checks.PiType.{PiType}
use Rattle.pi_tuple.specs.declared.checks.PiType.TheVariants.{One, Three, Two, Zero}
use Rattle.pi_tuple.specs.declared.checks.Check.{Check}
use Rattle.pi_tuple.specs.declared.checks.Check.TheVariants.{AppTag, Guard, RefTag}
use Rattle.pi_tuple.specs.declared.checks.Checks.{Checks}
use Rattle.integrity_payload.specs.Payloads.{all_asked}
use Rattle.walk_laws.specs.Passed.{data_of, stored_size, tuple_of, host_type, is_crc, with_guard}
use Rattle.walk_laws.specs.Past.{Brought}
use Rattle.walk_laws.specs.PlainMap.{all_pass, as_expected}
use Rattle.walk_laws.specs.Settings.{Setting}
use Rattle.walk_laws.proofs.CalmWays.{quiet}
use Rattle.walk_laws.proofs.TupleFrames.{finds_none}
use Rattle.run_laws.proofs.Framed.{guarded, retag}

abbrev pub unguarded : Tuple → (guard : ℕ) → Tuple
unguarded t guard = record { guard = guard; app = t.app; rtag = t.rtag }

-- neither another guard nor a mapped tag makes an escape or undoes one
pub still : (ty : PiType) (from to g : ℕ) (t : Tuple) → is_escaped ty (record { guard = g; app = t.app; rtag = retag ty from to t.rtag }) ≡ is_escaped ty t
still Zero from to g t = refl
still One from to g t = refl
still Two from to g t = refl
still Three from to g t = refl

pub same_escape : (ty : PiType) (g : ℕ) (t : Tuple) → is_escaped ty (unguarded t g) ≡ is_escaped ty t
same_escape Zero g t = refl
same_escape One g t = refl
same_escape Two g t = refl
same_escape Three g t = refl

pub host_same : (ty : PiType) → is_zero ty ≡ false → host_type ty ≡ ty
host_same Zero h = absurd (false≢true (sym h))
host_same One h = refl
host_same Two h = refl
host_same Three h = refl

pub retagged : (ty : PiType) (from to : ℕ) → has_ref_tag ty ≡ true → retag ty from to (ref_tag from) ≡ ref_tag to
retagged ty from to h =
    let e : eqb (ref_tag from) (ref_tag from) ≡ true = eq-eqb (ref_tag from) (ref_tag from) refl in
    ap (λ c. if c && eqb (ref_tag from) (ref_tag from) then ref_tag to else ref_tag from) h ∙ ap (λ c. if c then ref_tag to else ref_tag from) e

module _ (m' : Setting) where
  abbrev n : ℕ
  n = m'.size

  abbrev kind : GuardKind
  kind = m'.mode.kind

  -- a tuple that every check of this block passes
  pub record Fields (ty : PiType) (guard a : ℕ) (t : Tuple) : Type 0 where
    pub guard_is : t.guard ≡ guard
    pub app_is : as_expected m' t.app ≡ true
    pub rtag_is : has_ref_tag ty ≡ true → t.rtag ≡ ref_tag a

  abbrev pub Passes : PiType → (guard a : ℕ) → Tuple → Type 0
  Passes ty guard a t = (is_escaped ty t ≡ true) ⊎ Fields ty guard a t

  skipped : (z e : Bool) (rest : Option Check) → e ≡ true → (if z || e then None else rest) ≡ None
  skipped true e rest h = refl
  skipped false true rest h = refl
  skipped false false rest h = absurd (false≢true h)

  -- nothing is found of it
  pub passes : (ty : PiType) (what : Checks) (want guard a : ℕ) (t : Tuple) → Passes ty guard a t → (as_expected m' t.app ≡ true → bit_and t.app what.mask ≡ bit_and what.app what.mask) → (has_ref_tag ty ≡ true → ref_tag a ≡ want) → finding ty what want guard t ≡ None
  passes ty what want guard a t (inl e) fits tag = skipped (is_zero ty) (is_escaped ty t) _ e
  passes ty what want guard a t (inr f) fits tag = finds_none ty what want guard t (λ _. f.guard_is) (fits f.app_is) (λ _ h. f.rtag_is h ∙ tag h)

  pub asks_all : (app : ℕ) → as_expected m' app ≡ true → bit_and app m'.mode.mask ≡ bit_and m'.mode.app m'.mode.mask
  asks_all app h = eqb-true _ _ h

  none_three : (g a r : Bool) → first_of (record { check = Guard; differs = not g } ∷ record { check = AppTag; differs = not a } ∷ record { check = RefTag; differs = r } ∷ []) ≡ None → (g ≡ true) × ((a ≡ true) × (r ≡ false))
  none_three true true false h = (refl, (refl, refl))
  none_three true true true h = cc
  none_three true false r h = cc
  none_three false a r h = cc

  same_tag : (c d : Bool) → (c && not d) ≡ false → c ≡ true → d ≡ true
  same_tag true true h k = refl
  same_tag true false h k = absurd (false≢true (sym h))
  same_tag false d h k = absurd (false≢true k)

  -- of what nothing is found passes
  pub found_none : (ty : PiType) (guard a : ℕ) (t : Tuple) → is_zero ty ≡ false → finding ty (all_asked m'.mode.app m'.mode.mask) (ref_tag a) guard t ≡ None → Passes ty guard a t
  found_none ty guard a t z h = by (is_escaped ty t) refl where
    by : (e : Bool) → is_escaped ty t ≡ e → Passes ty guard a t
    by true e = inl e
    by false e =
        let none = sym (ap (λ c. if c || is_escaped ty t then None else first_of (record { check = Guard; differs = not (eqb t.guard guard) } ∷ record { check = AppTag; differs = not (as_expected m' t.app) }
        ∷ record { check = RefTag; differs = has_ref_tag ty && not (eqb t.rtag (ref_tag a)) } ∷ [])) z
        ∙ ap (λ c. if c then None else first_of (record { check = Guard; differs = not (eqb t.guard guard) } ∷ record { check = AppTag; differs = not (as_expected m' t.app) }
        ∷ record { check = RefTag; differs = has_ref_tag ty && not (eqb t.rtag (ref_tag a)) } ∷ [])) e) ∙ h in
        let k = none_three (eqb t.guard guard) (as_expected m' t.app) (has_ref_tag ty && not (eqb t.rtag (ref_tag a))) none in
        inr (record { guard_is = eqb-true t.guard guard k.0; app_is = k.1.0; rtag_is = λ tagged. eqb-true t.rtag (ref_tag a) (same_tag (has_ref_tag ty) (eqb t.rtag (ref_tag a)) k.1.1 tagged) })

  -- What is stored for a block: a frame of the type's size that passes, with the data that were brought, and their application tag where tuples pass all the way.
  pub record Kept (dix dif : Bool) (ty : PiType) (a : ℕ) (x : List ℕ) (e : Brought) : Type 0 where
    pub size : length x ≡ stored_size ty n
    pub passing : is_zero ty ≡ false → Passes ty (crc (data_of n x)) a (tuple_of n x)
    pub body : data_of n x ≡ e.body
    pub app : all_pass (quiet m' dix dif ty) ≡ true → (tuple_of n x).app ≡ e.app

  -- a frame after its guard was converted
  pub record Converted (to : GuardKind) (x y : List ℕ) : Type 0 where
    pub size : length y ≡ n + 8
    pub body : data_of n y ≡ data_of n x
    pub tuple : tuple_of n y ≡ unguarded (tuple_of n x) (if is_crc kind then (tuple_of n x).guard else guard_of to (data_of n x))

  pub conversion : (to : GuardKind) (x : List ℕ) → length x ≡ n + 8 → Converted to x (if is_crc kind then x else with_guard n (guard_of to (data_of n x)) x)
  conversion to x l = let k = by (is_crc kind) in record { size = k.0; body = k.1.0; tuple = k.1.1 } where
    by : (c : Bool) → let y = (if c then x else with_guard n (guard_of to (data_of n x)) x) in
        (length y ≡ n + 8) × ((data_of n y ≡ data_of n x) × (tuple_of n y ≡ unguarded (tuple_of n x) (if c then (tuple_of n x).guard else guard_of to (data_of n x))))
    by true = (l, (refl, refl))
    by false =
        let g = guarded n x l (guard_of to (data_of n x)) (guard_below to (data_of n x)) (tuple_of n x).rtag refl in
        (g.size, (g.body, g.tuple))

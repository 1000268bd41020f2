-- A group's command before its unit: it isn't refused, and each block is asked for as its route says.
use Rattle.std.proofs.Common.{◌≡◌, ◌≤◌, ℕ, ◌+◌, ◌*◌, ◌^◌, Bool, true, false, not, ◌&&◌, ◌||◌, eqb, leb, List, [], ◌∷◌, refl, ap, sym, subst, ◌∙◌, arith, inl, inr, ⊎_elim, Option, Some, None}
use Rattle.std.specs.Prelude.{◌%◌, ◌/◌, if◌then◌else◌, bit_and, ℤ, pos, negsuc, ◌+ℤ◌, nat_abs, Ok, slice_get, ◌⊎◌}
use Rattle.std.specs.Int.Bits.{and_zero_r}
use Rattle.std.proofs.Math.IntN.{+ℤ_assoc, +ℤ_comm}
use Rattle.std.proofs.Math.Nat.{add-mul-mod_self_left, mod-add-div}
use Rattle.std.proofs.lemmas.Bool.{cases_Bool, eqb-true}
use Rattle.pi_guard.specs.Guards.{crc}
use Rattle.pi_tuple.specs.Tuples.{ref_tag}
use Rattle.pi_tuple.specs.Finds.{asked_of as tuple_asked, finding, first_of as first_asked, is_escaped, is_zero}
use Rattle.pi_tuple.specs.declared.tuple.Tuple.{Tuple}
use Rattle.pi_tuple.specs.declared.checks.PiType.{PiType}
use Rattle.pi_tuple.specs.declared.checks.PiType.TheVariants.{Zero, One, Two, Three}
use Rattle.cdb_codec.specs.declared.choice.Dir2.{Dir2}
use Rattle.cdb_codec.specs.declared.choice.Dir2.TheVariants.{In, Out}
use Rattle.cdb_codec.specs.declared.command.Cdb.{Cdb}
use Rattle.cdb_codec.specs.declared.command.Rw.{Rw}
use Rattle.cdb_codec.specs.Rule.{fits_10, is_two, tagged, untagged}
use Rattle.fault_schedule.specs.declared.Label.{Label}
use Rattle.fault_schedule.specs.declared.fault.FaultLine.{FaultLine}
use Rattle.rig_api.specs.Passed.{data_of, tuple_of, accepted, asked_of, crossed, then_crossed, unless, with_own_tuple, found_in, from_medium, is_one, released, to_medium, wanted_of, is_foreign, request_of, bytes_of, first_of, has_blocks, medium_address, passage as passage_of, refusal, refusals_of, stored_address, wire_address}
use Rattle.rig_api.specs.Target.{move_refusals}
use Rattle.rig_api.specs.declared.request.Request.{Request}
use Rattle.rig_api.specs.declared.request.Request.TheVariants.{Read, Write}
use Rattle.rig_api.specs.declared.passage.Passage.{Passage}
use Rattle.rig_api.specs.declared.units.UnitSpec.{UnitSpec}
use Rattle.fault_schedule.specs.declared.fault.Crossing.TheVariants.{AdapterToTarget, MediumToTarget, TargetToAdapter, TargetToMedium}
use Rattle.block_path.specs.Routes.{field, passage, wire_lba}
use Rattle.block_path.specs.declared.route.Route.{Route}
use Rattle.dix_adapter.specs.declared.adapter.Adapter.{Adapter}
use Rattle.dix_adapter.specs.Groups.{mode_of}
use Rattle.dix_adapter.specs.Carried.{command_for}
use Rattle.small_laws.proofs.Tests.{eqb_self}

-- the fields of the command
abbrev pub field_for : Adapter → ℕ
field_for a = if a.dif && not (is_zero a.ty) then a.protect else 0

abbrev pub fields_by : Bool → Adapter → (lba n : ℕ) → Rw
fields_by b a lba n = if b then tagged lba n (field_for a) a.app a.mask else untagged lba n (field_for a)

abbrev pub fields_of : Adapter → (lba n : ℕ) → Rw
fields_of a lba n = fields_by (is_two a.ty && not (eqb (field_for a) 0)) a lba n

abbrev pub request_by : Dir2 → Rw → Request
request_by In c = Read c
request_by Out c = Write c

pub asked-for : (a : Adapter) (dir : Dir2) (lba n : ℕ) → request_of (command_for a dir lba n) ≡ request_by dir (fields_of a lba n)
asked-for a In lba n =
    ⊎_elim
    (λ (e : (is_two a.ty && not (eqb (field_for a) 0)) ≡ true). rw e refl)
    (λ (e : (is_two a.ty && not (eqb (field_for a) 0)) ≡ false).
    ⊎_elim (λ (f : fits_10 lba n ≡ true). rw (e, f) refl) (λ (f : fits_10 lba n ≡ false). rw (e, f) refl) (cases_Bool (fits_10 lba n)))
    (cases_Bool (is_two a.ty && not (eqb (field_for a) 0)))
asked-for a Out lba n =
    ⊎_elim
    (λ (e : (is_two a.ty && not (eqb (field_for a) 0)) ≡ true). rw e refl)
    (λ (e : (is_two a.ty && not (eqb (field_for a) 0)) ≡ false).
    ⊎_elim (λ (f : fits_10 lba n ≡ true). rw (e, f) refl) (λ (f : fits_10 lba n ≡ false). rw (e, f) refl) (cases_Bool (fits_10 lba n)))
    (cases_Bool (is_two a.ty && not (eqb (field_for a) 0)))

pub lba-is : (a : Adapter) (lba n : ℕ) → (fields_of a lba n).lba ≡ lba
lba-is a lba n = by (is_two a.ty && not (eqb (field_for a) 0))
  where
    by : (b : Bool) → (fields_by b a lba n).lba ≡ lba
    by true = refl
    by false = refl

pub count-is : (a : Adapter) (lba n : ℕ) → (fields_of a lba n).n ≡ n
count-is a lba n = by (is_two a.ty && not (eqb (field_for a) 0))
  where
    by : (b : Bool) → (fields_by b a lba n).n ≡ n
    by true = refl
    by false = refl

pub protect-is : (a : Adapter) (lba n : ℕ) → (fields_of a lba n).protect ≡ field_for a
protect-is a lba n = by (is_two a.ty && not (eqb (field_for a) 0))
  where
    by : (b : Bool) → (fields_by b a lba n).protect ≡ field_for a
    by true = refl
    by false = refl

-- it has the form of its unit's type
two-by : (b : Bool) (ty : PiType) (p : ℕ) → b ≡ (is_two ty && not (eqb p 0)) → (b ≡ true → not (is_two ty) ≡ false) × (b ≡ false → (is_two ty && not (eqb p 0)) ≡ false)
two-by b Zero p e = (λ t. absurd (let x : true ≡ false = sym t ∙ e in cc), λ f. refl)
two-by b One p e = (λ t. absurd (let x : true ≡ false = sym t ∙ e in cc), λ f. refl)
two-by b Two p e = (λ t. refl, λ f. sym e ∙ f)
two-by b Three p e = (λ t. absurd (let x : true ≡ false = sym t ∙ e in cc), λ f. refl)

pub own-form : (a : Adapter) (dir : Dir2) (lba n : ℕ) → is_foreign a.ty (command_for a dir lba n) ≡ false
own-form a In lba n =
    let t = two-by (is_two a.ty && not (eqb (field_for a) 0)) a.ty (field_for a) refl in
    ⊎_elim
    (λ (e : (is_two a.ty && not (eqb (field_for a) 0)) ≡ true). rw e (t.0 e))
    (λ (e : (is_two a.ty && not (eqb (field_for a) 0)) ≡ false).
    ⊎_elim (λ (f : fits_10 lba n ≡ true). rw (e, f) (t.1 e)) (λ (f : fits_10 lba n ≡ false). rw (e, f) (t.1 e)) (cases_Bool (fits_10 lba n)))
    (cases_Bool (is_two a.ty && not (eqb (field_for a) 0)))
own-form a Out lba n =
    let t = two-by (is_two a.ty && not (eqb (field_for a) 0)) a.ty (field_for a) refl in
    ⊎_elim
    (λ (e : (is_two a.ty && not (eqb (field_for a) 0)) ≡ true). rw e (t.0 e))
    (λ (e : (is_two a.ty && not (eqb (field_for a) 0)) ≡ false).
    ⊎_elim (λ (f : fits_10 lba n ≡ true). rw (e, f) (t.1 e)) (λ (f : fits_10 lba n ≡ false). rw (e, f) (t.1 e)) (cases_Bool (fits_10 lba n)))
    (cases_Bool (is_two a.ty && not (eqb (field_for a) 0)))

-- what is asked of a type without tuples
no-tuples : (dif : Bool) (ty : PiType) (p : ℕ) → (is_zero ty && not (eqb (if dif && not (is_zero ty) then p else 0) 0)) ≡ false
no-tuples true Zero p = refl
no-tuples false Zero p = refl
no-tuples dif One p = refl
no-tuples dif Two p = refl
no-tuples dif Three p = refl

not-refused : (unit : UnitSpec) (cdb : Cdb) (c : Rw) (told moved : ℤ) (bytes : ℕ) → is_foreign unit.ty cdb ≡ false → (is_zero unit.ty && not (eqb c.protect 0)) ≡ false →
    has_blocks unit told c.n ≡ true → has_blocks unit moved c.n ≡ true → bytes ≡ bytes_of unit.size c → first_of (move_refusals unit cdb c told moved bytes) ≡ None
not-refused unit cdb c told moved bytes f t h m l = rw (f, t, h, m, l, eqb_self (bytes_of unit.size c)) (last (eqb c.n 0))
  where
    last : (b : Bool) → first_of (record { comes = not b && not true; asc = 0x21 } ∷ record { comes = not true; asc = 0x24 } ∷ []) ≡ None
    last true = refl
    last false = refl

pub not-refused-out : (unit : UnitSpec) (cdb : Cdb) (c : Rw) (faults : List FaultLine) (labels : List Label) (out room : ℕ) → request_of cdb ≡ Write c → is_foreign unit.ty cdb ≡ false → (is_zero unit.ty && not (eqb c.protect 0)) ≡ false →
    has_blocks unit (wire_address faults labels c) c.n ≡ true → has_blocks unit (stored_address faults labels c) c.n ≡ true → out ≡ bytes_of unit.size c → refusal unit (Ok cdb) faults labels out room ≡ None
unfolding refusal
not-refused-out unit cdb c faults labels out room r f t h m l =
    ap (λ q. first_of (refusals_of unit cdb q faults labels out room)) r
    ∙ not-refused unit cdb c (wire_address faults labels c) (stored_address faults labels c) out f t h m l

pub not-refused-in : (unit : UnitSpec) (cdb : Cdb) (c : Rw) (faults : List FaultLine) (labels : List Label) (out room : ℕ) → request_of cdb ≡ Read c → is_foreign unit.ty cdb ≡ false → (is_zero unit.ty && not (eqb c.protect 0)) ≡ false →
    has_blocks unit (wire_address faults labels c) c.n ≡ true → has_blocks unit (medium_address faults labels c) c.n ≡ true → room ≡ bytes_of unit.size c → refusal unit (Ok cdb) faults labels out room ≡ None
unfolding refusal
not-refused-in unit cdb c faults labels out room r f t h m l =
    ap (λ q. first_of (refusals_of unit cdb q faults labels out room)) r
    ∙ not-refused unit cdb c (wire_address faults labels c) (medium_address faults labels c) room f t h m l

pub no-tuples-asked : (a : Adapter) (lba n : ℕ) → (is_zero a.ty && not (eqb (fields_of a lba n).protect 0)) ≡ false
no-tuples-asked a lba n = ap (λ p. is_zero a.ty && not (eqb p 0)) (protect-is a lba n) ∙ no-tuples a.dif a.ty a.protect

-- ---- each block as its route says

-- A tag that isn't asked for doesn't matter, nor an application tag under no mask.
finds-by : (ty : PiType) (g r : Bool) (app app' mask want want' guard : ℕ) (t : Tuple) → ((mask ≡ 0) ⊎ (app ≡ app')) → ((r ≡ false) ⊎ (want ≡ want')) →
    finding ty (record { guard = g; rtag = r; app = app; mask = mask }) want guard t ≡ finding ty (record { guard = g; rtag = r; app = app'; mask = mask }) want' guard t
finds-by ty g r app app' mask want want' guard t m w =
    ap (λ x. if is_zero ty || is_escaped ty t then None else first_asked (tuple_asked ty (record { guard = g; rtag = r; app = x; mask = mask }) want guard t)) refl
    ∙ of-app m ∙ of-want w
  where
    of-app : ((mask ≡ 0) ⊎ (app ≡ app')) → finding ty (record { guard = g; rtag = r; app = app; mask = mask }) want guard t ≡ finding ty (record { guard = g; rtag = r; app = app'; mask = mask }) want guard t
    of-app (inl z) =
        let x : bit_and app mask ≡ bit_and app' mask = ap (bit_and app) z ∙ and_zero_r app ∙ sym (and_zero_r app') ∙ ap (bit_and app') (sym z) in
        rw x refl
    of-app (inr e) = rw e refl

    of-want : ((r ≡ false) ⊎ (want ≡ want')) → finding ty (record { guard = g; rtag = r; app = app'; mask = mask }) want guard t ≡ finding ty (record { guard = g; rtag = r; app = app'; mask = mask }) want' guard t
    of-want (inl z) = rw z refl
    of-want (inr e) = rw e refl

-- two passages of one block: where they differ, nothing is asked
pub record Alike (p q : Passage) : Type 0 where
  pub ty : p.ty ≡ q.ty
  pub bytes : p.size ≡ q.size
  pub protect : p.protect ≡ q.protect
  pub lba : p.lba ≡ q.lba
  pub label : p.label ≡ q.label
  pub mask : (asked_of p).mask ≡ (asked_of q).mask
  pub app : ((asked_of q).mask ≡ 0) ⊎ (p.app ≡ q.app)
  pub want : ((asked_of q).rtag ≡ false) ⊎ (wanted_of p ≡ wanted_of q)

found-alike : (p q : Passage) (frame : List ℕ) → Alike p q → found_in p frame ≡ found_in q frame
unfolding found_in
found-alike p q frame e =
    let r : (asked_of p).rtag ≡ (asked_of q).rtag = ap (λ x. eqb x 1 || (eqb x 0 && is_one p.ty)) e.protect ∙ ap (λ y. eqb q.protect 1 || (eqb q.protect 0 && is_one y)) e.ty in
    ap (λ y. finding y (asked_of p) (wanted_of p) (crc (data_of p.size frame)) (tuple_of p.size frame)) e.ty
    ∙ ap (λ n. finding q.ty (asked_of p) (wanted_of p) (crc (data_of n frame)) (tuple_of n frame)) e.bytes
    ∙ ap (λ x. finding q.ty (record { guard = not (eqb x 3); rtag = (asked_of p).rtag; app = p.app; mask = (asked_of p).mask }) (wanted_of p) (crc (data_of q.size frame)) (tuple_of q.size frame)) e.protect
    ∙ ap (λ x. finding q.ty (record { guard = not (eqb q.protect 3); rtag = x; app = p.app; mask = (asked_of p).mask }) (wanted_of p) (crc (data_of q.size frame)) (tuple_of q.size frame)) r
    ∙ ap (λ x. finding q.ty (record { guard = not (eqb q.protect 3); rtag = (asked_of q).rtag; app = p.app; mask = x }) (wanted_of p) (crc (data_of q.size frame)) (tuple_of q.size frame)) e.mask
    ∙ finds-by q.ty (not (eqb q.protect 3)) (asked_of q).rtag p.app q.app (asked_of q).mask (wanted_of p) (wanted_of q) (crc (data_of q.size frame)) (tuple_of q.size frame) e.app e.want

pub alike-out : (faults : List FaultLine) (p q : Passage) (frame : List ℕ) → Alike p q → to_medium faults p frame ≡ to_medium faults q frame
unfolding to_medium
alike-out faults p q frame e =
    let c = crossed faults p.label AdapterToTarget frame in
    ap (λ x. then_crossed faults p.label TargetToMedium (if eqb p.protect 0 then Ok (with_own_tuple p.ty p.lba c) else unless x c)) (found-alike p q c e)
    ∙ ap (λ x. then_crossed faults p.label TargetToMedium (if eqb x 0 then Ok (with_own_tuple p.ty p.lba c) else unless (found_in q c) c)) e.protect
    ∙ ap (λ y. then_crossed faults p.label TargetToMedium (if eqb q.protect 0 then Ok (with_own_tuple y p.lba c) else unless (found_in q c) c)) e.ty
    ∙ ap (λ n. then_crossed faults p.label TargetToMedium (if eqb q.protect 0 then Ok (with_own_tuple q.ty n c) else unless (found_in q c) c)) e.lba
    ∙ ap (λ l. then_crossed faults l TargetToMedium (accepted q (crossed faults l AdapterToTarget frame))) e.label

pub alike-in : (faults : List FaultLine) (p q : Passage) (stored : List ℕ) → Alike p q → from_medium faults p stored ≡ from_medium faults q stored
unfolding from_medium
alike-in faults p q stored e =
    let c = crossed faults p.label MediumToTarget stored in
    ap (λ x. then_crossed faults p.label TargetToAdapter (unless x (if eqb p.protect 0 then data_of p.size c else c))) (found-alike p q c e)
    ∙ ap (λ x. then_crossed faults p.label TargetToAdapter (unless (found_in q c) (if eqb x 0 then data_of p.size c else c))) e.protect
    ∙ ap (λ n. then_crossed faults p.label TargetToAdapter (unless (found_in q c) (if eqb q.protect 0 then data_of n c else c))) e.bytes
    ∙ ap (λ l. then_crossed faults l TargetToAdapter (released q (crossed faults l MediumToTarget stored))) e.label

-- the address of block k of the command, by its own address
moved-more : (lba k at : ℕ) (s : ℤ) → pos lba +ℤ s ≡ pos at → pos (lba + k) +ℤ s ≡ pos (at + k)
moved-more lba k at s e =
    +ℤ_assoc (pos lba) (pos k) s ∙ ap (λ z. pos lba +ℤ z) (+ℤ_comm (pos k) s) ∙ sym (+ℤ_assoc (pos lba) s (pos k)) ∙ ap (λ z. z +ℤ pos k) e

pub address-more : (lba k at : ℕ) (s : ℤ) → pos lba +ℤ s ≡ pos at → nat_abs (pos (lba + k) +ℤ s) ≡ at + k
address-more lba k at s e = ap nat_abs (moved-more lba k at s e)

pub is-pos : (unit : UnitSpec) (z : ℤ) (n : ℕ) → has_blocks unit z n ≡ true → (at : ℕ) × ((z ≡ pos at) × ((unit.first ≤ at) × (at + n ≤ unit.first + unit.blocks)))
is-pos unit (pos at) n h = (at, (refl, within at h))
  where
    within : (at : ℕ) → (leb unit.first at && leb (at + n) (unit.first + unit.blocks)) ≡ true → (unit.first ≤ at) × (at + n ≤ unit.first + unit.blocks)
    within at h = (grind arith, grind arith)
is-pos unit (negsuc at) n h = absurd (let x : true ≡ false = sym h in cc)

-- the tag that is wanted of block k
tag-more : (lba k : ℕ) → (lba % 2 ^ 32 + k) % 2 ^ 32 ≡ (lba + k) % 2 ^ 32
tag-more lba k =
    let d : lba % 2 ^ 32 + 2 ^ 32 * (lba / 2 ^ 32) ≡ lba = mod-add-div lba (2 ^ 32) in
    let e : lba + k ≡ lba % 2 ^ 32 + k + 2 ^ 32 * (lba / 2 ^ 32) = omega (arith, d) in
    sym (ap (λ x. x % 2 ^ 32) e ∙ add-mul-mod_self_left (lba % 2 ^ 32 + k) (2 ^ 32) (lba / 2 ^ 32))

abbrev masked : PiType → ℕ → ℕ → ℕ
masked ty f mask = if is_two ty && eqb f 1 then mask else 0

abbrev asks_tag : PiType → ℕ → Bool
asks_tag ty f = eqb f 1 || (eqb f 0 && is_one ty)

-- what a command tells of tags
record Tells (ty : PiType) (f address k tag bits : ℕ) (c : Rw) : Type 0 where
  masks : masked ty f c.mask ≡ masked ty f bits
  apps : (masked ty f bits ≡ 0) ⊎ (c.app ≡ tag)
  wants : (asks_tag ty f ≡ false) ⊎ ((w : ℕ) → (if is_two ty then (c.rtag + k) % 2 ^ 32 else w) ≡ (if is_two ty then (address + k) % 2 ^ 32 else w))

twice : (b : Bool) (x : ℕ) → (if b then (if b then x else 0) else 0) ≡ (if b then x else 0)
twice true x = refl
twice false x = refl

tells-app : (b : Bool) (app mask : ℕ) → ((if b then mask else 0) ≡ 0) ⊎ ((if b then app else 0) ≡ app)
tells-app true app mask = inr refl
tells-app false app mask = inl refl

tells : (ty : PiType) (f lba n k app mask : ℕ) → Tells ty f lba k app mask (if is_two ty && not (eqb f 0) then tagged lba n f app mask else untagged lba n f)
tells Zero f lba n k app mask = record { masks = refl; apps = inl refl; wants = inr (λ w. refl) }
tells One f lba n k app mask = record { masks = refl; apps = inl refl; wants = inr (λ w. refl) }
tells Three f lba n k app mask = record { masks = refl; apps = inl refl; wants = inr (λ w. refl) }
tells Two f lba n k app mask =
    ⊎_elim
    (λ (e : eqb f 0 ≡ true). let z : f ≡ 0 = eqb-true f 0 e in rw z (record { masks = refl; apps = inl refl; wants = inl refl }))
    (λ (e : eqb f 0 ≡ false). rw e (record { masks = twice (eqb f 1) mask; apps = tells-app (eqb f 1) app mask; wants = inr (λ w. tag-more lba k) }))
    (cases_Bool (eqb f 0))

-- a block of the command and a block on its way
pub record IsAsked (a : Adapter) (unit : UnitSpec) (faults : List FaultLine) (labels : List Label) (address at k : ℕ) (r : Route) : Type 0 where
  pub ty : unit.ty ≡ a.ty
  pub bytes : unit.size ≡ r.size
  pub own_type : r.ty ≡ a.ty
  pub mode : r.mode ≡ mode_of a
  pub lba : r.lba ≡ address + k
  pub wire : at + k ≡ wire_lba faults r
  pub label : slice_get labels k ≡ Some r.label

field-is : (a : Adapter) (r : Route) → r.ty ≡ a.ty → r.mode ≡ mode_of a → field_for a ≡ field r
field-is a r t m = sym (ap (λ x. if x.dif && not (is_zero r.ty) then x.protect else 0) m ∙ ap (λ y. if a.dif && not (is_zero y) then a.protect else 0) t)

alike-by : (ty own : PiType) (f g address at w k n tag bits tag' bits' : ℕ) (label label' : Option Label) (c : Rw) → ty ≡ own → c.protect ≡ f → f ≡ g → Tells own f address k tag bits c → tag ≡ tag' → bits ≡ bits' → at + k ≡ w → label ≡ label' →
    Alike (record { ty = ty; size = n; protect = c.protect; lba = at + k; rtag = (c.rtag + k) % 2 ^ 32; app = c.app; mask = c.mask; label = label })
    (record { ty = own; size = n; protect = g; lba = w; rtag = (address + k) % 2 ^ 32; app = tag'; mask = bits'; label = label' })
alike-by ty own f g address at w k n tag bits tag' bits' label label' c t p q h x y l m =
    record {
      ty = t;
      bytes = refl;
      protect = p ∙ q;
      lba = l;
      label = m;
      mask = ap (λ z. masked z c.protect c.mask) t ∙ ap (λ z. masked own z c.mask) p ∙ h.masks ∙ ap (λ z. masked own z bits) q ∙ ap (masked own g) y;
      app = app' h.apps;
      want = want' h.wants;
    }
  where
    app' : ((masked own f bits ≡ 0) ⊎ (c.app ≡ tag)) → ((masked own g bits' ≡ 0) ⊎ (c.app ≡ tag'))
    app' (inl z) = inl (ap (masked own g) (sym y) ∙ ap (λ z. masked own z bits) (sym q) ∙ z)
    app' (inr e) = inr (e ∙ x)

    want' : ((asks_tag own f ≡ false) ⊎ ((w : ℕ) → (if is_two own then (c.rtag + k) % 2 ^ 32 else w) ≡ (if is_two own then (address + k) % 2 ^ 32 else w))) →
        ((asks_tag own g ≡ false) ⊎ ((if is_two ty then (c.rtag + k) % 2 ^ 32 else ref_tag (at + k)) ≡ (if is_two own then (address + k) % 2 ^ 32 else ref_tag w)))
    want' (inl z) = inl (ap (asks_tag own) (sym q) ∙ z)
    want' (inr e) = inr (ap (λ y. if is_two y then (c.rtag + k) % 2 ^ 32 else ref_tag (at + k)) t ∙ e (ref_tag (at + k)) ∙ ap (λ j. if is_two own then (address + k) % 2 ^ 32 else ref_tag j) l)

-- a block as the target knows it, with this reference tag
abbrev with_rtag : List FaultLine → Route → ℕ → Passage
with_rtag faults r j = record { ty = r.ty; size = r.size; protect = field r; lba = wire_lba faults r; rtag = j; app = r.mode.app; mask = r.mode.mask; label = Some r.label }

pub asked-alike : (a : Adapter) (unit : UnitSpec) (faults : List FaultLine) (labels : List Label) (lba n at k : ℕ) (r : Route) → IsAsked a unit faults labels lba at k r →
    Alike (passage_of unit (fields_of a lba n) at labels k) (passage faults r)
asked-alike a unit faults labels lba n at k r h =
    let t : Tells a.ty (field_for a) lba k a.app a.mask (fields_of a lba n) = tells a.ty (field_for a) lba n k a.app a.mask in
    let b : (lba + k) % 2 ^ 32 ≡ ref_tag r.lba = ap (λ j. j % 2 ^ 32) (sym h.lba) in
    subst (λ j. Alike (passage_of unit (fields_of a lba n) at labels k) (with_rtag faults r j)) b
    (subst (λ m. Alike (record { ty = unit.ty; size = m; protect = (fields_of a lba n).protect; lba = at + k; rtag = ((fields_of a lba n).rtag + k) % 2 ^ 32; app = (fields_of a lba n).app; mask = (fields_of a lba n).mask; label = slice_get labels k }) (with_rtag faults r ((lba + k) % 2 ^ 32))) (sym h.bytes)
    (alike-by unit.ty r.ty (field_for a) (field r) lba at (wire_lba faults r) k r.size a.app a.mask r.mode.app r.mode.mask (slice_get labels k) (Some r.label) (fields_of a lba n)
    (h.ty ∙ sym h.own_type) (protect-is a lba n) (field-is a r h.own_type h.mode) (subst (λ y. Tells y (field_for a) lba k a.app a.mask (fields_of a lba n)) (sym h.own_type) t)
    (sym (ap (λ m. m.app) h.mode)) (sym (ap (λ m. m.mask) h.mode)) h.wire h.label))

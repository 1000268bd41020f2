-- What a rig that tells its blocks answers to a look.
use Rattle.std.proofs.Common.{ℕ, zero, suc, ◌≡◌, ◌+◌, ◌-◌, ◌^◌, ◌<◌, ◌≤◌, inl, inr, Bool, true, false, ltb, eqb, ◌&&◌, ◌||◌, not, List, [], ◌∷◌, length, take, drop, Option, Some, None, refl, sym, ap, ◌∙◌, arith}
use Rattle.std.specs.Prelude.{if◌then◌else◌, replicate, slice_index, slice_index_or, is_some}
use Rattle.std.specs.List.{list_all}
use Rattle.std.proofs.lemmas.Nat.{from_be_bytes-to_be_bytes_4, from_be_bytes-to_be_bytes_8}
use Rattle.std.proofs.lemmas.List.{take_all}
use Rattle.pi_tuple.specs.declared.checks.PiType.{PiType}
use Rattle.pi_tuple.specs.declared.checks.PiType.TheVariants.{Zero, One, Two, Three}
use Rattle.cdb_codec.specs.Decoded.{eight_at, four_at}
use Rattle.rig_api.specs.Passed.{joined, stored_size, HeadersBytes_of as bytes_of, is_spec, unit_from, units_from, units_in, Answer, Stop, Stored, capacity_data, protection_byte, refusal, shape_of, target_answer, FaultLine}
use Rattle.rig_api.specs.declared.units.UnitSpec.{UnitSpec}
use Rattle.rig_api.proofs.Passed.{frames_length}
use Rattle.rig_api.specs.Head.{units_of}
use Rattle.rig_api.specs.Telling.{HasCause, IsAnswer, IsStanding, Standing, answer_of, at_front, frame_size, no_spec, no_unit, spec_at, specs_of, unit_at, units_told, with_blocks}
use Rattle.rig_api.specs.declared.rig.Outcome.{Outcome}
use Rattle.rig_api.proofs.HeadLaws.{right_layout}
use Rattle.rig_api.proofs.UnitLaws.{own_blocks}
use Rattle.rig_discovery.specs.Answers.{info_with, is_fault, told_by, type_told}
use Rattle.rig_discovery.specs.Discovery.{info_of, look}
use Rattle.volume_table.specs.declared.device.DeviceInfo.{DeviceInfo}
use Rattle.small_laws.proofs.Tests.{and_first}

pub last_true : (a b c : Bool) → (a && (b && c)) ≡ true → c ≡ true
last_true a b c h = grind arith

pub all_at : (us : List UnitSpec) (i : ℕ) → list_all is_spec us ≡ true → i < length us → is_spec (slice_index_or us i no_spec) ≡ true
all_at [] i h l = absurd (omega arith)
all_at (u ∷ us) zero h l = and_first (is_spec u) _ h
all_at (u ∷ us) (suc i) h l = all_at us i (right_true (is_spec u) (list_all is_spec us) h) (omega arith)
  where
    right_true : (a b : Bool) → (a && b) ≡ true → b ≡ true
    right_true a b h = grind arith

-- the devices are all units of the head
pub specs_are : (s : Standing) (image : Option (List ℕ)) (dev : ℕ) → IsStanding s image → dev < s.devices → (specs_of s ≡ units_of s.head) × (length (units_of s.head) ≡ s.devices) × (list_all is_spec (units_of s.head) ≡ true)
specs_are s image dev (inl z) l = absurd (omega arith)
specs_are s image dev (inr on) l =
    let n : length (units_of s.head) ≤ s.devices = omega (arith, on.devices) in
    (take_all s.devices (units_of s.head) n, sym on.devices, last_true _ _ _ (right_layout s.head on.right))

spec_good : (s : Standing) (image : Option (List ℕ)) (dev : ℕ) → IsStanding s image → dev < s.devices → (is_spec (spec_at s dev) ≡ true) × (dev < length (specs_of s))
spec_good s image dev i l =
    let k = specs_are s image dev i l in
    let n : dev < length (units_of s.head) = omega (arith, k.1) in
    rw k.0 (all_at (units_of s.head) dev k.2 n, n)

pub enough : (s : Standing) (image : Option (List ℕ)) (dev : ℕ) → IsStanding s image → dev < s.devices → dev < length (specs_of s)
enough s image dev i l = (spec_good s image dev i l).1

pub shape_is : (u : UnitSpec) (bytes : List ℕ) → shape_of (unit_from u bytes) ≡ u
shape_is u bytes = ap (λ (n : ℕ). record { ty = u.ty; blocks = n; size = u.size; first = u.first }) (frames_length (stored_size u.ty u.size) u.blocks bytes)

shape_at : (us : List UnitSpec) (bytes : List ℕ) (dev : ℕ) → dev < length us → shape_of (slice_index_or (units_from us bytes) dev no_unit) ≡ slice_index_or us dev no_spec
shape_at [] bytes dev l = absurd (omega arith)
shape_at (u ∷ us) bytes zero l = shape_is u bytes
shape_at (u ∷ us) bytes (suc dev) l = shape_at us (drop (bytes_of u) bytes) dev (omega arith)

-- what the data of a unit tell
type_is : (ty : PiType) → type_told (protection_byte ty) ≡ Some ty
type_is Zero = refl
type_is One = refl
type_is Two = refl
type_is Three = refl

by_parts : (first size last : ℕ) (o : Outcome) (bytes : List ℕ) (ty : PiType) → eight_at bytes 0 ≡ last → four_at bytes 8 ≡ size → type_told (slice_index bytes 12) ≡ Some ty → is_fault first size o last size ≡ false →
    told_by first size o bytes ≡ Some (record { ty = ty; blocks = last - first + 1; size = size; first = first })
by_parts first size last o bytes ty l z t f =
    ap (λ n. if is_fault first size o n (four_at bytes 8) then None else info_with first size n (type_told (slice_index bytes 12))) l
    ∙ ap (λ n. if is_fault first size o last n then None else info_with first size last (type_told (slice_index bytes 12))) z
    ∙ ap (λ b. if b then None else info_with first size last (type_told (slice_index bytes 12))) f
    ∙ ap (info_with first size last) t

no_fault : (first size blocks : ℕ) (o : Outcome) → o.sense ≡ None → 1 ≤ blocks → first + blocks ≤ 2 ^ 63 → is_fault first size o (first + blocks - 1) size ≡ false
no_fault first size blocks o n b e = rw n (parts (eqb size size) (eqb (first + blocks - 1) (2 ^ 64 - 1)) (ltb (first + blocks - 1) first) (grind arith) (grind arith) (grind arith))
  where
    parts : (a b c : Bool) → a ≡ true → b ≡ false → c ≡ false → (false || (not a || (b || c))) ≡ false
    parts a b c p q r = grind arith

info_is : (first blocks size : ℕ) (ty : PiType) → 1 ≤ blocks → ◌≡◌ {A = DeviceInfo} (record { ty = ty; blocks = first + blocks - 1 - first + 1; size = size; first = first }) (record { ty = ty; blocks = blocks; size = size; first = first })
info_is first blocks size ty b = let e : first + blocks - 1 - first + 1 ≡ blocks = omega arith in rw e refl

small_size : (u : UnitSpec) → is_spec u ≡ true → (1 ≤ u.blocks) × (u.first + u.blocks ≤ 2 ^ 63) × (u.size < 2 ^ 32)
small_size u h = (grind arith, grind arith, grind arith)

data_told : (u : UnitSpec) (o : Outcome) → is_spec u ≡ true → o.sense ≡ None → told_by u.first u.size o (capacity_data u) ≡ Some (info_of u)
data_told u o h n =
    let k = small_size u h in
    by_parts u.first u.size (u.first + u.blocks - 1) o (capacity_data u) u.ty
    (from_be_bytes-to_be_bytes_8 (u.first + u.blocks - 1) (omega (arith, k.1))) (from_be_bytes-to_be_bytes_4 u.size k.2) (type_is u.ty) (no_fault u.first u.size u.blocks o n k.0 k.1)
    ∙ ap (λ (i : DeviceInfo). Some i) (info_is u.first u.blocks u.size u.ty k.0)

-- what the unit answers to a look, whatever its store does and whatever faults are armed
pub answered : (unit : Stored) (armed : List FaultLine) (stop : Option Stop) → target_answer unit armed look [] [] 32 stop ≡ record { done = 0; sense = None; blocks = unit.blocks; sent = take 32 (capacity_data (shape_of unit)) ∷ [] }
unfolding target_answer refusal
answered unit armed stop = refl

-- what was answered to a look at these units
abbrev pub SaidTold : List FaultLine → ℕ → Outcome → List ℕ → Option (List Stored) → Option (List Stored) → ℕ → ℕ → Type 0
SaidTold armed dev o into old new f f' =
    (us : List Stored) → old ≡ Some us → (stop : Option Stop) × HasCause stop (frame_size (unit_at us dev)) f f'
    × IsAnswer (answer_of us armed dev look [] [] 32 stop) us dev o new (replicate 32 0) into

stays : (us : List Stored) (armed : List FaultLine) (dev : ℕ) (into : List ℕ) (o : Outcome) (told : Option (List Stored)) (stop : Option Stop) → IsAnswer (answer_of us armed dev look [] [] 32 stop) us dev o told (replicate 32 0) into → told ≡ Some us
stays us armed dev into o told stop a = a.units ∙ ap (λ (v : Answer). Some (with_blocks us dev v.blocks)) (answered (unit_at us dev) armed stop) ∙ ap (λ (v : List Stored). Some v) (own_blocks us dev)

pub same_units : (s : Standing) (a b : Option (List ℕ)) (old new : Option (List Stored)) → old ≡ units_told s a → new ≡ units_told s b → is_some b ≡ is_some a → ((us : List Stored) → old ≡ Some us → new ≡ Some us) → new ≡ old
same_units s None None old new p q t h = q ∙ sym p
same_units s (Some x) b old new p q t h = h (units_in (specs_of s) x) p ∙ sym p
same_units s None (Some y) old new p q t h = absurd (cc)

pub units_stay : (s s' : Standing) (armed : List FaultLine) (dev : ℕ) (a b : Option (List ℕ)) (old new : Option (List Stored)) (o : Outcome) (into : List ℕ) (f f' : ℕ) → s' ≡ s → old ≡ units_told s a → new ≡ units_told s' b → is_some b ≡ is_some a → SaidTold armed dev o into old new f f' → new ≡ old
units_stay s s' armed dev a b old new o into f f' same p q t said =
    same_units s a b old new p (q ∙ ap (λ (v : Standing). units_told v b) same) t (λ us e. (let k = said us e in stays us armed dev into o new k.0 k.2))

of_unit : (u : Stored) (spec : UnitSpec) (us : List Stored) (armed : List FaultLine) (dev : ℕ) (o : Outcome) (into : List ℕ) (told : Option (List Stored)) (stop : Option Stop) → unit_at us dev ≡ u → shape_of u ≡ spec → is_spec spec ≡ true →
    IsAnswer (answer_of us armed dev look [] [] 32 stop) us dev o told (replicate 32 0) into → told_by spec.first spec.size o into ≡ Some (info_of spec)
of_unit u spec us armed dev o into told stop at shape good a =
    let an : answer_of us armed dev look [] [] 32 stop ≡ record { done = 0; sense = None; blocks = u.blocks; sent = take 32 (capacity_data spec) ∷ [] } =
    ap (λ (v : Stored). target_answer v armed look [] [] 32 stop) at ∙ answered u armed stop ∙ ap (λ (v : UnitSpec). record { done = 0; sense = None; blocks = u.blocks; sent = take 32 (capacity_data v) ∷ [] }) shape in
    let bytes : into ≡ capacity_data spec = a.into ∙ ap (λ (v : Answer). at_front (joined v.sent) (replicate 32 0)) an in
    let none : o.sense ≡ None = ap (λ (v : Outcome). v.sense) a.outcome ∙ ap (λ (v : Answer). v.sense) an in
    ap (told_by spec.first spec.size o) bytes ∙ data_told spec o good none

pub told_is : (s : Standing) (armed : List FaultLine) (dev : ℕ) (image : Option (List ℕ)) (old new : Option (List Stored)) (o : Outcome) (into : List ℕ) (f f' : ℕ) → IsStanding s image → dev < s.devices → old ≡ units_told s image → SaidTold armed dev o into old new f f' → is_some old ≡ true →
    told_by (spec_at s dev).first (spec_at s dev).size o into ≡ Some (info_of (spec_at s dev))
told_is s armed dev None old new o into f f' i l p said t = let k : is_some old ≡ false = ap is_some p in absurd (cc)
told_is s armed dev (Some image) old new o into f f' i l p said t =
    let g = spec_good s (Some image) dev i l in
    let a = said (units_in (specs_of s) image) p in
    of_unit (unit_at (units_in (specs_of s) image) dev) (spec_at s dev) (units_in (specs_of s) image) armed dev o into new a.0 refl (shape_at (specs_of s) (drop 512 image) dev g.1) g.0 a.2

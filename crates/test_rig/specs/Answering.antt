-- What the rig shows of itself.
use Rattle.std.specs.Prelude.{◌≡◌, ◌⊎◌, ℕ, ◌+◌, ◌-◌, ◌<◌, ◌≤◌, ◌^◌, Bool, true, false, eqb, ltb, ◌||◌, zero, suc, if◌then◌else◌, slice_index_or, ◌&&◌, List, [], ◌∷◌, length, take, vec_len, vec_capacity, refl, Option, Some, None}
use Rattle.std.proofs.Common.{arith, inl, inr, ap, sym, ◌∙◌, ⊎_elim}
use Rattle.std.proofs.lemmas.Bool.{cases_Bool, eqb-true}
use Rattle.std.specs.Global.{Vec}
use Rattle.pi_tuple.specs.declared.checks.PiType.{PiType}
use Rattle.pi_tuple.specs.declared.checks.PiType.TheVariants.{Zero, One, Two, Three}
use Rattle.fault_schedule.specs.declared.Label.{Label}
use Rattle.rig_api.specs.Headers.{header, image_size, is_header, specs_in}
use Rattle.rig_api.specs.declared.units.UnitSpec.{UnitSpec}
use Rattle.rig_api.specs.declared.units.Version.TheVariants.{Second}
use Rattle.rig_api.specs.Head.{Head, head_fault, units_of}
use Rattle.rig_api.specs.Log.{LogEntry, Room, has_key, have_keys}
use Rattle.rig_api.specs.Telling.{IsStanding, Standing, greatest, greatest_size, no_spec, spec_at, specs_of}
use Rattle.rig_api.specs.declared.rig.Record.{Record}

abbrev pub unit_with : PiType → ℕ → UnitSpec
unit_with ty size = record { ty = ty; blocks = 2048; size = size; first = 0 }

-- the devices: each type with each block size
abbrev pub devices_of : List UnitSpec
devices_of =
    unit_with Zero 512 ∷ unit_with One 512 ∷ unit_with Two 512 ∷ unit_with Three 512
    ∷ unit_with Zero 4096 ∷ unit_with One 4096 ∷ unit_with Two 4096 ∷ unit_with Three 4096 ∷ []

-- the head of an image of them
unfoldable pub head_of_all : Head
head_of_all = record { size = image_size devices_of; first = header Second devices_of }

abbrev pub standing_of : (devices : ℕ) → Standing
standing_of devices = record { devices = devices; head = head_of_all; name = []; openings = 0 }

pub head_right : head_fault head_of_all ≡ None
unfolding head_of_all head_fault header is_header specs_in
head_right = refl

pub head_units : units_of head_of_all ≡ devices_of
unfolding head_of_all header specs_in
head_units = refl

-- the rig is open, or it is closed
abbrev pub is_count : ℕ → Bool
is_count devices = eqb devices 8 || eqb devices 0

eight_or_none : (devices : ℕ) → is_count devices ≡ true → (devices ≡ 8) ⊎ (devices ≡ 0)
eight_or_none devices h =
    ⊎_elim
    (λ (e : eqb devices 8 ≡ true). inl (eqb-true devices 8 e))
    (λ (e : eqb devices 8 ≡ false). inr (eqb-true devices 0 (sym (ap (λ b. b || eqb devices 0) e) ∙ h)))
    (cases_Bool (eqb devices 8))

pub ready_of : (devices : ℕ) → (is_count devices ≡ true) → IsStanding (standing_of devices) None
ready_of devices h = by (eight_or_none devices h)
  where
    by : ((devices ≡ 8) ⊎ (devices ≡ 0)) → IsStanding (standing_of devices) None
    by (inl e) = inr (record { right = head_right; devices = e ∙ sym (ap length head_units); told = tt })
    by (inr e) = inl e

-- ---- the one record

abbrev pub entries : Option Record → List Label → (moved : List ℕ) → List LogEntry
entries None labels moved = []
entries (Some r) labels moved = record { what = r; labels = labels; moved = moved } ∷ []

abbrev pub spare : {X : Type 0} → Vec X → ℕ
spare v = vec_capacity v - vec_len v

-- The list holds these, and its room fell by no more than their number.
pub record IsFilled {X : Type 0} (xs : List X) (old new : Vec X) : Type 0 where
  pub items : new.items ≡ xs
  pub room : spare old ≤ spare new + length xs

abbrev pub records_left : Option Record → ℕ
records_left None = 1
records_left (Some r) = 0

abbrev pub room_of : Option Record → Vec Label → Vec ℕ → Room
room_of what labels moved = record { records = records_left what; labels = spare labels; moved = spare moved }

abbrev pub is_keyed : Option Record → Bool
is_keyed None = true
is_keyed (Some r) = has_key r.outcome.sense

pub few_of : (what : Option Record) (labels : List Label) (moved : List ℕ) → length (entries what labels moved) + records_left what < 2 ^ 32
few_of None labels moved = omega arith
few_of (Some r) labels moved = omega arith

pub keyed_of : (what : Option Record) (labels : List Label) (moved : List ℕ) → is_keyed what ≡ true → have_keys (entries what labels moved) ≡ true
keyed_of None labels moved h = refl
keyed_of (Some r) labels moved h = both (has_key r.outcome.sense) h
  where
    both : (b : Bool) → b ≡ true → (b && true) ≡ true
    both b h = grind arith

-- the block size of each device, and its first address
abbrev pub size_of : ℕ → ℕ
size_of dev = if ltb dev 4 then 512 else 4096

spec_is : (dev : ℕ) → dev < 8 → ((slice_index_or devices_of dev no_spec).size ≡ size_of dev) × ((slice_index_or devices_of dev no_spec).first ≡ 0)
spec_is zero h = (refl, refl)
spec_is (suc zero) h = (refl, refl)
spec_is (suc (suc zero)) h = (refl, refl)
spec_is (suc (suc (suc zero))) h = (refl, refl)
spec_is (suc (suc (suc (suc zero)))) h = (refl, refl)
spec_is (suc (suc (suc (suc (suc zero))))) h = (refl, refl)
spec_is (suc (suc (suc (suc (suc (suc zero)))))) h = (refl, refl)
spec_is (suc (suc (suc (suc (suc (suc (suc zero))))))) h = (refl, refl)
spec_is (suc (suc (suc (suc (suc (suc (suc (suc dev)))))))) h = absurd (omega arith)

all_devices : (devices dev : ℕ) → (is_count devices ≡ true) → dev < devices → (specs_of (standing_of devices) ≡ devices_of) × (dev < 8)
all_devices devices dev o h = by (eight_or_none devices o)
  where
    by : ((devices ≡ 8) ⊎ (devices ≡ 0)) → (specs_of (standing_of devices) ≡ devices_of) × (dev < 8)
    by (inl e) = (ap (λ n. take n (units_of head_of_all)) e ∙ ap (take 8) head_units, omega (arith, e, h))
    by (inr e) = absurd (omega (arith, e, h))

pub device_count : (devices dev : ℕ) → (is_count devices ≡ true) → dev < devices → devices ≡ 8
device_count devices dev o h = by (eight_or_none devices o)
  where
    by : ((devices ≡ 8) ⊎ (devices ≡ 0)) → devices ≡ 8
    by (inl e) = e
    by (inr e) = absurd (omega (arith, e, h))

pub device_is : (devices dev : ℕ) → (is_count devices ≡ true) → dev < devices → ((spec_at (standing_of devices) dev).size ≡ size_of dev) × ((spec_at (standing_of devices) dev).first ≡ 0)
device_is devices dev o h =
    let a = all_devices devices dev o h in
    let s = spec_is dev a.1 in
    (ap (λ us. (slice_index_or us dev no_spec).size) a.0 ∙ s.0, ap (λ us. (slice_index_or us dev no_spec).first) a.0 ∙ s.1)

pub greatest_is : (devices : ℕ) → devices ≡ 8 → greatest_size (standing_of devices) ≡ 4096
greatest_is devices e = ap (λ n. greatest (take n (units_of head_of_all))) e ∙ ap (λ us. greatest (take 8 us)) head_units

pub greatest_most : (devices : ℕ) → is_count devices ≡ true → greatest_size (standing_of devices) ≤ 4096
greatest_most devices o = by (eight_or_none devices o)
  where
    by : ((devices ≡ 8) ⊎ (devices ≡ 0)) → greatest_size (standing_of devices) ≤ 4096
    by (inl e) = let g = greatest_is devices e in omega arith
    by (inr e) = let z : greatest_size (standing_of devices) ≡ 0 = ap (λ n. greatest_size (standing_of n)) e in omega arith

-- What the formula of one entry gives.
use Rattle.std.proofs.Common.{◌≡◌, ℕ, ◌+◌, ◌-◌, ◌*◌, ◌/◌, ◌%◌, ◌<◌, ◌≤◌, true, false, not, eqb, length, inl, refl, sym, ap, ◌∙◌, arith}
use Rattle.std.proofs.lemmas.Bool.Decides.{nat_tests}
use Rattle.std.proofs.lemmas.Nat.{div-add-mod', div_below, mod_below, row_fits}
use Rattle.std.proofs.Math.Nat.{mul_assoc, mul_comm}
use Rattle.std.proofs.lemmas.Bool.{not-false}
use Rattle.stripe_volume.specs.declared.stripe.Stripe.{Stripe as Striped}
use Rattle.stripe_volume.specs.Stripes.{AreApart, HasLegs, IsWhole, StripeHolds, is_apart, leg, leg_len, stripe_run}
use Rattle.stripe_volume.proofs.Apart.{apart_by_test}
use Rattle.stripe_volume.proofs.Places.{alone, is_on, runs, turn}
use Rattle.volume_table.specs.declared.entry.Entry.{Entry}
use Rattle.volume_table.specs.declared.entry.Entry.TheVariants.{Linear, Stripe}
use Rattle.volume_table.specs.declared.extent.Extent.{Extent}
use Rattle.volume_table.specs.Entries.{IsInRange, entry_place, entry_run, extents, is_held, leg_extent}
use Rattle.volume_table.specs.Faults.{do_meet, has_bad_chunk, have_shared_legs}
use Rattle.volume_table.proofs.Fine.{Clear}
use Rattle.volume_table.proofs.Lists.{In, in_map, none_in}
use Rattle.volume_table.proofs.Order.{in_is, is_in}

-- a stripe is in its ranges, whole, and has its legs apart
abbrev pub IsSound : Entry → Type 0
IsSound (Linear e) = 1 ≤ e.len
IsSound (Stripe s) = HasLegs s × IsWhole s × AreApart s

pub whole_by : (a : ℕ) → not (eqb a 0) ≡ false → a ≡ 0
whole_by a h = grind (arith, nat_tests)

pub sound : (e : Entry) → IsInRange e → has_bad_chunk e ≡ false → have_shared_legs e ≡ false → IsSound e
sound (Linear e) r c l = r.0
sound (Stripe s) r c l = ((r.1, r.2), whole_by (s.len % (s.chunk * length s.legs)) c, apart_by_test s (not-false (is_apart s) l))

-- A block lies on an extent.
pub record OnExtent (e : Entry) (v : ℕ) : Type 0 where
  pub extent : Extent
  pub listed : In extent (extents e)
  pub device : extent.dev ≡ (entry_place e v).0
  pub begins : extent.at ≤ (entry_place e v).1
  pub ends : (entry_place e v).1 < extent.at + extent.len

pub on_extent : (e : Entry) (v : ℕ) → IsSound e → is_held v e ≡ true → OnExtent e v
on_extent (Linear e) v s h =
    let k = is_in v (Linear e) h in
    let p : e.start ≤ v = k.0 in
    let q : v < e.start + e.len = k.1 in
    record { extent = record { dev = e.dev; at = e.at; len = e.len }; listed = inl refl; device = refl; begins = omega arith; ends = omega arith }
on_extent (Stripe s) v w h =
    let k = is_in v (Stripe s) h in
    let on = is_on s v _ _ w.0 w.1 (k, refl) in
    record {
      extent = leg_extent (leg_len s) (leg s (turn s v));
      listed = in_map (leg_extent (leg_len s)) (record { dev = 0; at = 0 }) s.legs (turn s v) on.has.0;
      device = on.has.1;
      begins = on.has.2;
      ends = on.has.3;
    }

no_meeting : (a b : Extent) (dev lba : ℕ) → a.dev ≡ dev → b.dev ≡ dev → a.at ≤ lba → lba < a.at + a.len → b.at ≤ lba → lba < b.at + b.len → do_meet a b ≡ false → ⊥
no_meeting a b dev lba d e p q r s h = grind (arith, nat_tests)

-- Entries that share no block have no place in common.
pub clash : (b e : Entry) (w v : ℕ) → Clear b e → OnExtent b w → OnExtent e v → entry_place b w ≡ entry_place e v → ⊥
clash b e w v clear ob oe same =
    let d : (entry_place b w).0 ≡ (entry_place e v).0 = ap (λ p. p.0) same in
    let l : (entry_place b w).1 ≡ (entry_place e v).1 = ap (λ p. p.1) same in
    let begins : ob.extent.at ≤ (entry_place b w).1 = ob.begins in
    let ends : (entry_place b w).1 < ob.extent.at + ob.extent.len = ob.ends in
    no_meeting oe.extent ob.extent (entry_place e v).0 (entry_place e v).1 oe.device (ob.device ∙ d) oe.begins oe.ends (omega arith) (omega arith)
    (none_in (do_meet oe.extent) (extents b) ob.extent (none_in (λ x. Rattle.std.specs.List.list_any (do_meet x) (extents b)) (extents e) oe.extent clear oe.listed) ob.listed)

-- One entry gives no two blocks one place.
pub entry_alone : (e : Entry) (v w : ℕ) → IsSound e → is_held v e ≡ true → is_held w e ≡ true → entry_place e v ≡ entry_place e w → v ≡ w
entry_alone (Linear e) v w s hv hw same =
    let a = is_in v (Linear e) hv in
    let b = is_in w (Linear e) hw in
    let p : e.start ≤ v = a.0 in
    let q : e.start ≤ w = b.0 in
    let l : e.at + (v - e.start) ≡ e.at + (w - e.start) = ap (λ x. x.1) same in
    omega arith
entry_alone (Stripe s) v w sound hv hw same =
    alone s v w _ _ sound.0 sound.1 sound.2 (is_in v (Stripe s) hv, same) (is_in w (Stripe s) hw, refl)

-- a chunk ends in the extent
chunk_ends : (len c n u : ℕ) → 0 < c → len % (c * n) ≡ 0 → u < len → u / c * c + c ≤ len
chunk_ends len c n u hc e h =
    let m = len / (c * n) in
    let whole : m * (c * n) + len % (c * n) ≡ len = div-add-mod' len (c * n) in
    let product : m * (c * n) ≡ n * m * c = ap (λ x. m * x) (mul_comm c n) ∙ sym (mul_assoc m n c) ∙ ap (λ x. x * c) (mul_comm m n) in
    let below : u < n * m * c = omega arith in
    let q : u / c < n * m = div_below u c (n * m) hc below in
    let fits : u / c * c + c ≤ n * m * c = row_fits (u / c) c (n * m) c q (omega arith) in
    omega arith

pub stripe_within : (s : Striped) (v : ℕ) → HasLegs s → IsWhole s → StripeHolds s v → v + stripe_run s v ≤ s.start + s.len
stripe_within s v legs whole holds =
    let c = s.chunk in
    let hc : 0 < c = legs.0 in
    let u = v - s.start in
    let ends : u / c * c + c ≤ s.len = chunk_ends s.len c (length s.legs) u hc whole (omega (arith, holds.0, holds.1)) in
    let parts : u / c * c + u % c ≡ u = div-add-mod' u c in
    let rest : u % c < c = mod_below u c hc in
    omega (arith, holds.0)

-- k blocks after v, the entry goes on
pub record EntryGoesOn (e : Entry) (v k : ℕ) : Type 0 where
  pub holds : is_held (v + k) e ≡ true
  pub place : entry_place e (v + k) ≡ ((entry_place e v).0, (entry_place e v).1 + k)

pub entry_goes_on : (e : Entry) (v k : ℕ) → IsSound e → is_held v e ≡ true → k < entry_run e v → EntryGoesOn e v k
entry_goes_on (Linear e) v k s h lt =
    let b = is_in v (Linear e) h in
    let p : e.start ≤ v = b.0 in
    let sum : e.at + (v + k - e.start) ≡ e.at + (v - e.start) + k = omega arith in
    let f : ℕ → ℕ × ℕ = λ x. (e.dev, x) in
    record { holds = in_is (v + k) (Linear e) (omega arith) (omega arith); place = ap f sum }
entry_goes_on (Stripe s) v k sound h lt =
    let b = is_in v (Stripe s) h in
    let within = stripe_within s v sound.0 sound.1 b in
    record { holds = in_is (v + k) (Stripe s) (omega (arith, b.0)) (omega (arith, within)); place = runs s v b.0 k lt }

pub entry_some : (e : Entry) (v : ℕ) → IsSound e → is_held v e ≡ true → 1 ≤ entry_run e v
entry_some (Linear e) v s h = let b = is_in v (Linear e) h in omega (arith, b.1)
entry_some (Stripe s) v sound h = let rest = mod_below (v - s.start) s.chunk sound.0.0 in omega (arith, rest)

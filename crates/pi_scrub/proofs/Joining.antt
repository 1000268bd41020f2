-- Looks one after another.
use Rattle.std.proofs.Common.{ℕ, zero, suc, ◌≡◌, ◌+◌, ◌-◌, ◌^◌, ◌<◌, ◌≤◌, inl, Bool, true, false, ltb, List, [], ◌∷◌, ◌++◌, length, take, drop, Option, Some, refl, sym, ap, ◌∙◌, arith, append-nil, append_assoc}
use Rattle.std.specs.Prelude.{if◌then◌else◌, count_by, cond, map, min}
use Rattle.std.proofs.lemmas.List.Sums.{sum_by-append}
use Rattle.dix_base.specs.Told.{Calm, Rose}
use Rattle.dix_base.proofs.Counts.{calm_first, calm_then}
use Rattle.sense_codes.specs.declared.Sense.{Sense}
use Rattle.pi_tuple.specs.declared.checks.PiType.{PiType}
use Rattle.rig_api.specs.Target.{Stored}
use Rattle.rig_api.specs.Log.{LogEntry, IsMedium}
use Rattle.rig_api.specs.Telling.{unit_at}
use Rattle.rig_api.specs.declared.rig.Outcome.{Outcome}
use Rattle.rig_discovery.specs.Discovery.{Ends}
use Rattle.volume_table.specs.declared.device.DeviceInfo.{DeviceInfo}
use Rattle.block_path.specs.Senses.{is_medium_why, why_ended}
use Rattle.walk_laws.proofs.Named.{medium_is}
use Rattle.pi_scrub.specs.Faults.{all_faults, faults_from, faults_of, listed, stored_finding}
use Rattle.pi_scrub.specs.Looks.{AreFit, Look, LookedPlace, all_entries, all_found, all_looked, all_places, entry_of, found_at, found_by, info_at, looked_at, place_of, places, settled}
use Rattle.rig_discovery.specs.Openings.{device_of}
use Rattle.pi_scrub.specs.Scrubbed.{Looked, RoseBy, is_medium}
use Rattle.pi_scrub.specs.Steps.{Did}
use Rattle.pi_scrub.specs.declared.found.Found.{Found}

entries_append : (xs ys : List Look) → all_entries (xs ++ ys) ≡ all_entries xs ++ all_entries ys
entries_append [] ys = refl
entries_append (x ∷ xs) ys = ap (λ (v : List LogEntry). entry_of x ∷ v) (entries_append xs ys)

found_append : (xs ys : List Look) → all_found (xs ++ ys) ≡ all_found xs ++ all_found ys
found_append [] ys = refl
found_append (x ∷ xs) ys = ap (λ (v : List Found). found_by x ++ v) (found_append xs ys) ∙ sym (append_assoc (found_by x) (all_found xs) (all_found ys))

looked_append : (xs ys : List Look) → all_looked (xs ++ ys) ≡ all_looked xs ++ all_looked ys
looked_append [] ys = refl
looked_append (x ∷ xs) ys = ap (λ (v : List LookedPlace). looked_at x ++ v) (looked_append xs ys) ∙ sym (append_assoc (looked_at x) (all_looked xs) (all_looked ys))

fit_append : (ds : List DeviceInfo) (xs ys : List Look) → AreFit ds xs → AreFit ds ys → AreFit ds (xs ++ ys)
fit_append ds [] ys p q = q
fit_append ds (x ∷ xs) ys p q = (p.0, p.1, p.2, fit_append ds xs ys p.3 q)

rose_add : (a b o m n : ℕ) → o ≤ m → m ≤ n → RoseBy a o m → RoseBy b m n → RoseBy (a + b) o n
rose_add a b o m n p q x y = grind arith

pub looked_then : (ds : List DeviceInfo) (due mid left : List LookedPlace) (a b c : List Found) (x y z : List LogEntry) (o m n : ℕ) → o ≤ m → m ≤ n → Looked ds due mid a b x y o m → Looked ds mid left b c y z m n → Looked ds due left a c x z o n
looked_then ds due mid left a b c x y z o m n p q u v = record {
  looks = u.looks ++ v.looks;
  fit = fit_append ds u.looks v.looks u.fit v.fit;
  log = v.log ∙ ap (λ (w : List LogEntry). w ++ all_entries v.looks) u.log ∙ append_assoc x (all_entries u.looks) (all_entries v.looks) ∙ ap (λ (w : List LogEntry). x ++ w) (sym (entries_append u.looks v.looks));
  found_is = v.found_is ∙ ap (λ (w : List Found). w ++ all_found v.looks) u.found_is ∙ append_assoc a (all_found u.looks) (all_found v.looks) ∙ ap (λ (w : List Found). a ++ w) (sym (found_append u.looks v.looks));
  once = u.once ∙ ap (λ (w : List LookedPlace). all_looked u.looks ++ w) v.once ∙ sym (append_assoc (all_looked u.looks) (all_looked v.looks) left) ∙ ap (λ (w : List LookedPlace). w ++ left) (sym (looked_append u.looks v.looks));
  medium =
      let e : count_by is_medium (all_found (u.looks ++ v.looks)) ≡ count_by is_medium (all_found u.looks) + count_by is_medium (all_found v.looks) =
      ap (count_by is_medium) (found_append u.looks v.looks) ∙ sum_by-append (λ t. cond (is_medium t) 1 0) (all_found u.looks) (all_found v.looks) in
      rw e (rose_add _ _ o m n p q u.medium v.medium);
}

-- further blocks behind those that are due
pub looked_wider : (ds : List DeviceInfo) (due left more : List LookedPlace) (a b : List Found) (x y : List LogEntry) (o n : ℕ) → Looked ds due left a b x y o n → Looked ds (due ++ more) (left ++ more) a b x y o n
looked_wider ds due left more a b x y o n u = record {
  looks = u.looks;
  fit = u.fit;
  log = u.log;
  found_is = u.found_is;
  once = ap (λ (w : List LookedPlace). w ++ more) u.once ∙ append_assoc (all_looked u.looks) left more;
  medium = u.medium;
}

pub looked_none : (ds : List DeviceInfo) (due : List LookedPlace) (a : List Found) (x : List LogEntry) (o n : ℕ) → o ≤ n → Looked ds due due a a x x o n
looked_none ds due a x o n l = record { looks = []; fit = tt; log = sym (append-nil x); found_is = sym (append-nil a); once = refl; medium = inl (omega arith) }

places_split : (dev lba a b : ℕ) → places dev lba (a + b) ≡ places dev lba a ++ places dev (lba + a) b
places_split dev lba zero b = let e : lba + 0 ≡ lba = omega arith in let f : 0 + b ≡ b = omega arith in rw (e, f) refl
places_split dev lba (suc a) b =
    let e : suc a + b ≡ suc (a + b) = omega arith in
    let f : lba + suc a ≡ lba + 1 + a = omega arith in
    rw (e, f) (ap (λ (v : List LookedPlace). record { dev = dev; lba = lba } ∷ v) (places_split dev (lba + 1) a b))

places_of : (dev lba n : ℕ) (o : Outcome) (b : Bool) → b ≡ ltb o.done n → places dev lba (min o.done n) ++ map place_of (if b then record { dev = dev; lba = lba + o.done; why = why_ended o.sense } ∷ [] else []) ≡ places dev lba (if b then o.done + 1 else n)
places_of dev lba n o true e =
    let m : min o.done n ≡ o.done = grind arith in
    rw m (sym (places_split dev lba o.done 1))
places_of dev lba n o false e =
    let m : min o.done n ≡ n = grind arith in
    rw m (append-nil (places dev lba n))

looked_places : (dev lba n : ℕ) (ty : PiType) (o : Outcome) → looked_at (record { dev = dev; ty = ty; lba = lba; n = n; outcome = o }) ≡ places dev lba (settled n o.done)
looked_places dev lba n ty o = places_of dev lba n o (ltb o.done n) refl

medium_key : (s : Option Sense) (done : ℕ) → is_medium_why (why_ended s) ≡ true → IsMedium (record { done = done; sense = s })
medium_key s done h = medium_is s h

medium_of : (dev lba n o m : ℕ) (out : Outcome) → o ≤ m → (IsMedium out → Rose o m) → RoseBy (count_by is_medium (found_at dev lba n out)) o m
medium_of dev lba n o m out l r = cases (ltb out.done n)
  where
    rose_one : (b : Bool) → (b ≡ true → Rose o m) → RoseBy (0 + cond b 1 0) o m
    rose_one true f = let k = f refl in grind arith
    rose_one false f = inl (omega arith)

    cases : (b : Bool) → RoseBy (count_by is_medium (if b then record { dev = dev; lba = lba + out.done; why = why_ended out.sense } ∷ [] else [])) o m
    cases true = rose_one (is_medium_why (why_ended out.sense)) (λ h. r (medium_key out.sense out.done h))
    cases false = inl (omega arith)

pub settled_most : (n d : ℕ) → settled n d ≤ n
settled_most n d = grind arith

pub settled_some : (n d : ℕ) → 1 ≤ n → 1 ≤ settled n d
settled_some n d h = grind arith

pub did_bound : (dev : ℕ) (ty : PiType) (lba n k : ℕ) (a b : List Found) (x y : List LogEntry) (units : Option (List Stored)) (o m : ℕ) → Did dev ty lba n k a b x y units o m → 1 ≤ n → (1 ≤ k) × (k ≤ n)
did_bound dev ty lba n k a b x y units o m d h = let p = settled_some n d.outcome.done h in let q = settled_most n d.outcome.done in (omega (arith, p, d.settled_is), omega (arith, q, d.settled_is))

-- one look at the first blocks of those that are due
pub one_look : (ds : List DeviceInfo) (dev : ℕ) (ty : PiType) (lba n k left : ℕ) (a b : List Found) (x y : List LogEntry) (units : Option (List Stored)) (o m : ℕ) → o ≤ m → 1 ≤ n → n ≤ 1024 → ty ≡ (info_at ds dev).ty → n ≤ left → Did dev ty lba n k a b x y units o m →
    Looked ds (places dev lba left) (places dev (lba + k) (left - k)) a b x y o m
one_look ds dev ty lba n k left a b x y units o m l p q t within d =
    let bound = did_bound dev ty lba n k a b x y units o m d p in
    let parts : left ≡ k + (left - k) = omega (arith, bound.1, within) in
    let one : Look = record { dev = dev; ty = ty; lba = lba; n = n; outcome = d.outcome } in
    let split : places dev lba left ≡ places dev lba k ++ places dev (lba + k) (left - k) = ap (places dev lba) parts ∙ places_split dev lba k (left - k) in
    let at : places dev lba k ≡ looked_at one ++ [] = ap (places dev lba) d.settled_is ∙ sym (looked_places dev lba n ty d.outcome) ∙ sym (append-nil (looked_at one)) in
    record {
      looks = one ∷ [];
      fit = (p, q, t, tt);
      log = d.log;
      found_is = d.found_is ∙ ap (λ (v : List Found). a ++ v) (sym (append-nil (found_by one)));
      once = split ∙ ap (λ (v : List LookedPlace). v ++ places dev (lba + k) (left - k)) at;
      medium = rw (append-nil (found_by one)) (medium_of dev lba n o m d.outcome l d.medium);
    }

-- the faults of blocks one after another
faults_split : (ty : PiType) (size dev lba k : ℕ) (xs : List (List ℕ)) → faults_from ty size dev lba xs ≡ faults_from ty size dev lba (take k xs) ++ faults_from ty size dev (lba + k) (drop k xs)
faults_split ty size dev lba zero xs = let e : lba + 0 ≡ lba = omega arith in rw e refl
faults_split ty size dev lba (suc k) [] = refl
faults_split ty size dev lba (suc k) (x ∷ xs) =
    let e : lba + suc k ≡ lba + 1 + k = omega arith in
    rw e (ap (λ (v : List Found). listed dev lba (stored_finding ty size lba x) ++ v) (faults_split ty size dev (lba + 1) k xs)
    ∙ sym (append_assoc (listed dev lba (stored_finding ty size lba x)) (faults_from ty size dev (lba + 1) (take k xs)) (faults_from ty size dev (lba + 1 + k) (drop k xs))))

drop_none : (n : ℕ) → ◌≡◌ {A = List (List ℕ)} (drop n []) []
drop_none zero = refl
drop_none (suc n) = refl

drop_drop : (a b : ℕ) (xs : List (List ℕ)) → drop a (drop b xs) ≡ drop (b + a) xs
drop_drop a zero xs = let e : 0 + a ≡ a = omega arith in rw e refl
drop_drop a (suc b) [] = drop_none a ∙ sym (drop_none (suc b + a))
drop_drop a (suc b) (x ∷ xs) = let e : suc b + a ≡ suc (b + a) = omega arith in rw e (drop_drop a b xs)

-- what is found so far and the faults of the blocks behind
abbrev pub with_rest : List Found → ℕ → Stored → ℕ → List Found
with_rest found dev u lba = found ++ faults_from u.ty u.size dev lba (drop (lba - u.first) u.blocks)

pub rest_at_first : (found : List Found) (dev : ℕ) (u : Stored) (lba : ℕ) → lba ≡ u.first → with_rest found dev u lba ≡ found ++ faults_of dev u
rest_at_first found dev u lba e = let z : lba - u.first ≡ 0 = omega (arith, e) in rw (z, e) refl

drop_whole : (n : ℕ) (xs : List (List ℕ)) → length xs ≤ n → drop n xs ≡ []
drop_whole n [] h = drop_none n
drop_whole zero (x ∷ xs) h = absurd (omega arith)
drop_whole (suc n) (x ∷ xs) h = drop_whole n xs (omega arith)

pub rest_at_end : (found all : List Found) (dev : ℕ) (u : Stored) (lba : ℕ) → u.first + length u.blocks ≤ lba → with_rest found dev u lba ≡ all → found ≡ all
rest_at_end found all dev u lba h e =
    let d : drop (lba - u.first) u.blocks ≡ [] = drop_whole (lba - u.first) u.blocks (omega arith) in
    sym (append-nil found) ∙ ap (λ (v : List (List ℕ)). found ++ faults_from u.ty u.size dev lba v) (sym d) ∙ e

rest_step : (found new all part : List Found) (dev : ℕ) (u : Stored) (lba k m : ℕ) → with_rest found dev u lba ≡ all → new ≡ found ++ part → part ≡ faults_from u.ty u.size dev lba (take m (drop (lba - u.first) u.blocks)) → k ≡ m → u.first ≤ lba → with_rest new dev u (lba + k) ≡ all
rest_step found new all part dev u lba k m e n p same above =
    let place : lba - u.first + k ≡ lba + k - u.first = omega arith in
    let rest : drop k (drop (lba - u.first) u.blocks) ≡ drop (lba + k - u.first) u.blocks = drop_drop k (lba - u.first) u.blocks ∙ ap (λ a. drop a u.blocks) place in
    let here : part ≡ faults_from u.ty u.size dev lba (take k (drop (lba - u.first) u.blocks)) = p ∙ ap (λ a. faults_from u.ty u.size dev lba (take a (drop (lba - u.first) u.blocks))) (sym same) in
    let split : faults_from u.ty u.size dev lba (drop (lba - u.first) u.blocks) ≡ part ++ faults_from u.ty u.size dev (lba + k) (drop (lba + k - u.first) u.blocks) =
    faults_split u.ty u.size dev lba k (drop (lba - u.first) u.blocks) ∙ ap (λ (v : List Found). v ++ faults_from u.ty u.size dev (lba + k) (drop k (drop (lba - u.first) u.blocks))) (sym here)
    ∙ ap (λ (v : List (List ℕ)). part ++ faults_from u.ty u.size dev (lba + k) v) rest in
    ap (λ (v : List Found). v ++ faults_from u.ty u.size dev (lba + k) (drop (lba + k - u.first) u.blocks)) n
    ∙ append_assoc found part (faults_from u.ty u.size dev (lba + k) (drop (lba + k - u.first) u.blocks)) ∙ ap (λ (v : List Found). found ++ v) (sym split) ∙ e

device_at : (us : List Stored) (dev : ℕ) → dev < length us → info_at (map device_of us) dev ≡ device_of (unit_at us dev)
device_at [] dev l = absurd (omega arith)
device_at (u ∷ us) zero l = refl
device_at (u ∷ us) (suc dev) l = device_at us dev (omega arith)

map_length : (us : List Stored) → length (map device_of us) ≡ length us
map_length [] = refl
map_length (u ∷ us) = ap suc (map_length us)

-- a device is its unit
pub device_is : (ds : List DeviceInfo) (us : List Stored) (dev : ℕ) → ds ≡ map device_of us → dev < length ds → info_at ds dev ≡ device_of (unit_at us dev)
device_is ds us dev e l =
    let n : length ds ≡ length us = ap length e ∙ map_length us in
    ap (λ (v : List DeviceInfo). info_at v dev) e ∙ device_at us dev (omega (arith, n))

pub told_step : (ds : List DeviceInfo) (us : List Stored) (units : Option (List Stored)) (dev lba n k left : ℕ) (ty : PiType) (found new all : List Found) (x y : List LogEntry) (o m p : ℕ) → info_at ds dev ≡ device_of (unit_at us dev) → ty ≡ (info_at ds dev).ty → (info_at ds dev).first ≤ lba → lba + left ≡ (info_at ds dev).first + (info_at ds dev).blocks → n ≤ left →
    o ≤ m → m ≤ p → units ≡ Some us → Calm o p → (Calm o m → with_rest found dev (unit_at us dev) lba ≡ all) → Did dev ty lba n k found new x y units m p → with_rest new dev (unit_at us dev) (lba + k) ≡ all
told_step ds us units dev lba n k left ty found new all x y o m p info t above span within l q e calm so d =
    let u : Stored = unit_at us dev in
    let ty_is : ty ≡ u.ty = t ∙ ap (λ (i : DeviceInfo). i.ty) info in
    let first_is : (info_at ds dev).first ≡ u.first = ap (λ (i : DeviceInfo). i.first) info in
    let blocks_is : (info_at ds dev).blocks ≡ length u.blocks = ap (λ (i : DeviceInfo). i.blocks) info in
    let low : u.first ≤ lba = omega (arith, above, first_is) in
    let high : lba + n ≤ u.first + length u.blocks = omega (arith, span, within, first_is, blocks_is) in
    let found_here = d.told us e (calm_then o m p l calm) (record { type_is = sym ty_is; above = low; below = high }) in
    rest_step found new all (found_at dev lba n d.outcome) dev u lba k (settled n d.outcome.done) (so (calm_first o m p q calm)) d.found_is
    (found_here ∙ ap (λ (v : PiType). faults_from v u.size dev lba (take (settled n d.outcome.done) (drop (lba - u.first) u.blocks))) ty_is) d.settled_is low

-- the devices one after another
drop_devices : (ds : List DeviceInfo) (dev : ℕ) → dev < length ds → drop dev ds ≡ info_at ds dev ∷ drop (dev + 1) ds
drop_devices [] dev l = absurd (omega arith)
drop_devices (d ∷ ds) zero l = refl
drop_devices (d ∷ ds) (suc dev) l = let e : suc dev + 1 ≡ suc (dev + 1) = omega arith in rw e (drop_devices ds dev (omega arith))

drop_units : (us : List Stored) (dev : ℕ) → dev < length us → drop dev us ≡ unit_at us dev ∷ drop (dev + 1) us
drop_units [] dev l = absurd (omega arith)
drop_units (d ∷ us) zero l = refl
drop_units (d ∷ us) (suc dev) l = let e : suc dev + 1 ≡ suc (dev + 1) = omega arith in rw e (drop_units us dev (omega arith))

pub due_now : (ds : List DeviceInfo) (dev : ℕ) → dev < length ds → all_places dev (drop dev ds) ≡ places dev (info_at ds dev).first (info_at ds dev).blocks ++ all_places (dev + 1) (drop (dev + 1) ds)
due_now ds dev l = ap (all_places dev) (drop_devices ds dev l)

-- a device that was looked at whole, or in part, behind those before it
pub next_device : (ds : List DeviceInfo) (dev : ℕ) (due left : List LookedPlace) (a b c : List Found) (x y z : List LogEntry) (o m n : ℕ) → dev < length ds → o ≤ m → m ≤ n → Looked ds due (all_places dev (drop dev ds)) a b x y o m →
    Looked ds (places dev (info_at ds dev).first (info_at ds dev).blocks) left b c y z m n → Looked ds due (left ++ all_places (dev + 1) (drop (dev + 1) ds)) a c x z o n
next_device ds dev due left a b c x y z o m n l p q u v =
    let now : Looked ds due (places dev (info_at ds dev).first (info_at ds dev).blocks ++ all_places (dev + 1) (drop (dev + 1) ds)) a b x y o m = rw (due_now ds dev l) at u in
    looked_then ds due _ _ a b c x y z o m n p q now (looked_wider ds _ left (all_places (dev + 1) (drop (dev + 1) ds)) b c y z m n v)

pub next_faults : (us : List Stored) (dev : ℕ) (found new all : List Found) → dev < length us → found ++ all_faults dev (drop dev us) ≡ all → new ≡ found ++ faults_of dev (unit_at us dev) → new ++ all_faults (dev + 1) (drop (dev + 1) us) ≡ all
next_faults us dev found new all l e n =
    ap (λ (v : List Found). v ++ all_faults (dev + 1) (drop (dev + 1) us)) n ∙ append_assoc found (faults_of dev (unit_at us dev)) (all_faults (dev + 1) (drop (dev + 1) us))
    ∙ ap (λ (v : List Stored). found ++ all_faults dev v) (sym (drop_units us dev l)) ∙ e

pub units_length : (ds : List DeviceInfo) (us : List Stored) → ds ≡ map device_of us → length us ≡ length ds
units_length ds us e = sym (ap length e ∙ map_length us)

pub no_faults : (us : List Stored) (dev : ℕ) (found all : List Found) → length us ≤ dev → found ++ all_faults dev (drop dev us) ≡ all → found ≡ all
no_faults us dev found all l e = let d : drop dev us ≡ [] = none us dev l in sym (append-nil found) ∙ ap (λ (v : List Stored). found ++ all_faults dev v) (sym d) ∙ e
  where
    none : (xs : List Stored) (n : ℕ) → length xs ≤ n → drop n xs ≡ []
    none [] zero h = refl
    none [] (suc n) h = refl
    none (x ∷ xs) zero h = absurd (omega arith)
    none (x ∷ xs) (suc n) h = none xs n (omega arith)

-- what holds of the ends of a device
pub end_of : (ds : List DeviceInfo) (dev : ℕ) → Ends ds → dev < length ds → (info_at ds dev).first + (info_at ds dev).blocks < 2 ^ 64
end_of [] dev e l = absurd (omega arith)
end_of (d ∷ ds) zero e l = e.0
end_of (d ∷ ds) (suc dev) e l = end_of ds dev e.1 (omega arith)

-- A shift keeps the blocks of its request on their devices, each as far off, so that no two of them come to one cell.
use Rattle.std.proofs.Common.{◌≡◌, ◌<◌, ◌≤◌, ◌⊎◌, ℕ, zero, suc, ◌+◌, ◌-◌, Bool, true, false, not, ◌&&◌, ◌||◌, List, [], ◌∷◌, ◌++◌, length, refl, sym, ap, ◌∙◌, subst, inl, inr, arith, ℤ, pos, negsuc, ◌+ℤ◌, nat_abs, Option, Some, None}
use Rattle.std.specs.Prelude.{nat_le, nat_lt, eqb, if◌then◌else◌, slice_get, unwrap_or}
use Rattle.std.specs.List.{list_any}
use Rattle.std.proofs.lemmas.Bool.{and_from, and_parts, eq-eqb, eqb-true, leb-true, ltb-true, or_left, or_parts, or_right, true≢false, not-false}
use Rattle.std.proofs.lemmas.List.Folds.{list_any-append}
use Rattle.std.proofs.lemmas.Int.{ints}
use Rattle.fault_schedule.specs.Altered.{is_same, moved_by, shift_of}
use Rattle.fault_schedule.specs.declared.fault.Crossing.{Crossing}
use Rattle.fault_schedule.specs.declared.fault.Crossing.TheVariants.{AdapterToHost, AdapterToTarget, HostToAdapter, MediumToTarget, TargetToAdapter, TargetToMedium}
use Rattle.fault_schedule.specs.declared.fault.FaultKind.{FaultKind}
use Rattle.fault_schedule.specs.declared.fault.FaultKind.TheVariants.{Flip as FlipKind, Shift as ShiftKind, Keep as KeepKind, Fail as FailKind}
use Rattle.fault_schedule.specs.declared.fault.FaultLine.{FaultLine}
use Rattle.stack_walk_laws.specs.Passed.{fetched_cell, stored_cell, moved}
use Rattle.volume_table.specs.declared.device.DeviceInfo.{DeviceInfo}
use Rattle.volume_table.specs.declared.entry.Entry.{Entry}
use Rattle.volume_table.specs.Faults.{device}
use Rattle.volume_table.specs.Places.{place_in, volume_len}
use Rattle.volume_table.specs.Tables.{MadeFor, Table}
use Rattle.run_laws.specs.Passed.{Setting, block_of, route, Op}
use Rattle.run_laws.specs.OpsApart.{AreStoredApart}
use Rattle.script_laws.specs.Passed.{Script, block_stays, blocks_stay, faults_fault, is_bad_kind, is_bad_on, is_first_type, is_misplaced, is_on, is_on_known, is_read, is_shift, request_at, shifts}
use Rattle.script_laws.proofs.Passed.{not_behind}
use Rattle.script_run_laws.specs.Bound.{IsAddress, IsSettingOf}
use Rattle.script_run_laws.proofs.Bodies.{if-none}
use Rattle.script_run_laws.proofs.Places.{place-there, same-pair}

-- ---- an address that is so many blocks off

-- it isn't below 0
abbrev pub IsClear : ℕ → ℤ → Type 0
IsClear lba (pos n) = Unit {0}
IsClear lba (negsuc n) = suc n ≤ lba

up-is : (lba n : ℕ) → moved lba (pos n) ≡ lba + n
up-is lba n = omega (arith, ints)

down-is : (lba n : ℕ) → suc n ≤ lba → moved lba (negsuc n) ≡ lba - suc n
down-is lba n h = let z : pos lba +ℤ negsuc n ≡ pos (lba - suc n) = omega (arith, ints) in ap nat_abs z

-- so it is a natural number
pub clear-is : (lba : ℕ) (by : ℤ) → IsClear lba by → pos lba +ℤ by ≡ pos (moved lba by)
clear-is lba (pos n) h = let z : pos lba +ℤ pos n ≡ pos (lba + n) = omega (arith, ints) in z ∙ ap pos (sym (up-is lba n))
clear-is lba (negsuc n) h = let z : pos lba +ℤ negsuc n ≡ pos (lba - suc n) = omega (arith, ints) in z ∙ ap pos (sym (down-is lba n h))

pub stays-put : (lba : ℕ) → lba ≡ moved lba (pos 0)
stays-put lba = (let z : lba ≡ lba + 0 = omega arith in z) ∙ sym (up-is lba 0)

back : (a b : ℕ) (by : ℤ) → IsClear a by → IsClear b by → moved a by ≡ moved b by → a ≡ b
back a b (pos n) p q e = let x : a + n ≡ b + n = sym (up-is a n) ∙ e ∙ up-is b n in omega arith
back a b (negsuc n) p q e = let x : a - suc n ≡ b - suc n = sym (down-is a n p) ∙ e ∙ down-is b n q in omega arith

-- ---- on the device

-- The address, so many blocks off, is one of the device.
pub record Lands (devices : List DeviceInfo) (dev lba : ℕ) (by : ℤ) : Type 0 where
  pub there : IsAddress devices dev (moved lba by)
  pub clear : IsClear lba by

still : (devices : List DeviceInfo) (dev lba : ℕ) → IsAddress devices dev lba → Lands devices dev lba (pos 0)
still devices dev lba h = record { there = subst (λ (a : ℕ). IsAddress devices dev a) (stays-put lba) h; clear = tt }

-- two shifts one after the other, of which one is none
lands-twice : (devices : List DeviceInfo) (dev lba : ℕ) (a b : ℤ) → (a ≡ pos 0) ⊎ (b ≡ pos 0) → Lands devices dev lba a → Lands devices dev lba b → Lands devices dev (moved lba a) b
lands-twice devices dev lba a b c x y =
    elim c [
      | inl e ↦ subst (λ (p : ℕ). Lands devices dev p b) (stays-put lba ∙ ap (moved lba) (sym e)) y
      | inr e ↦ subst (λ (z : ℤ). Lands devices dev (moved lba a) z) (sym e) (still devices dev (moved lba a) x.there)
    ]

record IsWithin (d : DeviceInfo) (lba : ℕ) (by : ℤ) : Type 0 where
  begins : d.first ≤ moved lba by
  ends : moved lba by < d.first + d.blocks
  clear : IsClear lba by

within : (d : DeviceInfo) (lba : ℕ) (by : ℤ) → is_on d lba by ≡ true → IsWithin d lba by
within d lba (pos n) h =
    let a = and_parts (nat_le d.first (lba + n)) (nat_lt (lba + n) (d.first + d.blocks)) h in
    let low = leb-true d.first (lba + n) a.0 in
    let high = ltb-true (lba + n) (d.first + d.blocks) a.1 in
    let e = sym (up-is lba n) in
    record { begins = subst (λ (x : ℕ). d.first ≤ x) e low; ends = subst (λ (x : ℕ). x < d.first + d.blocks) e high; clear = tt }
within d lba (negsuc n) h =
    let a = and_parts (nat_le (d.first + suc n) lba) (nat_lt lba (d.first + d.blocks + suc n)) h in
    let low = leb-true (d.first + suc n) lba a.0 in
    let high = ltb-true lba (d.first + d.blocks + suc n) a.1 in
    let c : suc n ≤ lba = omega arith in
    let e = sym (down-is lba n c) in
    record { begins = subst (λ (x : ℕ). d.first ≤ x) e (omega arith); ends = subst (λ (x : ℕ). x < d.first + d.blocks) e (omega arith); clear = c }

pub got : (devices : List DeviceInfo) (dev : ℕ) (d : DeviceInfo) → slice_get devices dev ≡ Some d → (dev < length devices) × (device devices dev ≡ d)
got [] dev d h = absurd cc
got (x ∷ ds) zero d h = (omega arith, cc)
got (x ∷ ds) (suc dev) d h = let g = got ds dev d h in let l = g.0 in (omega arith, g.1)

lands : (devices : List DeviceInfo) (dev lba : ℕ) (by : ℤ) → is_on_known lba by (slice_get devices dev) ≡ true → Lands devices dev lba by
lands devices dev lba by h = known (slice_get devices dev) refl h
  where
    known : (o : Option DeviceInfo) → slice_get devices dev ≡ o → is_on_known lba by o ≡ true → Lands devices dev lba by
    known None e k = absurd cc
    known (Some d) e k =
        let g = got devices dev d e in
        let w = within d lba by k in
        let same = sym g.1 in
        record {
          there = record {
            known = g.0;
            begins = subst (λ (x : DeviceInfo). x.first ≤ moved lba by) same w.begins;
            ends = subst (λ (x : DeviceInfo). moved lba by < x.first + x.blocks) same w.ends;
          };
          clear = w.clear;
        }

-- ---- all blocks of a request

inner : (behind here rest : Bool) → (if behind then true else (if here then rest else false)) ≡ true → behind ≡ false → (here ≡ true) × (rest ≡ true)
inner true here rest h p = absurd cc
inner false true rest h p = (refl, h)
inner false false rest h p = absurd cc

stays-at : (t : Table) (devices : List DeviceInfo) (by : ℤ) (v n j : ℕ) → blocks_stay t devices by v n ≡ true → j < n → v + j < volume_len t.entries → block_stays t devices by (v + j) ≡ true
stays-at t devices by v zero j h l w = absurd (omega arith)
stays-at t devices by v (suc n) zero h l w =
    let p = inner (nat_le (volume_len t.entries) v) (block_stays t devices by v) (blocks_stay t devices by (v + 1) n) h (not_behind (volume_len t.entries) v (omega arith)) in
    let e : v ≡ v + 0 = omega arith in
    subst (λ (u : ℕ). block_stays t devices by u ≡ true) e p.0
stays-at t devices by v (suc n) (suc j) h l w =
    let p = inner (nat_le (volume_len t.entries) v) (block_stays t devices by v) (blocks_stay t devices by (v + 1) n) h (not_behind (volume_len t.entries) v (omega arith)) in
    let e : v + 1 + j ≡ v + suc j = omega arith in
    subst (λ (u : ℕ). block_stays t devices by u ≡ true) e (stays-at t devices by (v + 1) n j p.1 (omega arith) (omega arith))

-- no shift, or one that keeps the blocks on their devices
abbrev pub Stays : Table → List DeviceInfo → (v n : ℕ) → ℤ → Type 0
Stays t devices v n by = (by ≡ pos 0) ⊎ (blocks_stay t devices by v n ≡ true)

pub landed : (t : Table) (devices : List DeviceInfo) (size v n : ℕ) (by : ℤ) → MadeFor t devices size → Stays t devices v n by → v + n ≤ volume_len t.entries → (j : ℕ) → j < n → Lands devices (place_in t.entries (v + j)).0 (place_in t.entries (v + j)).1 by
landed t devices size v n by made c w j l =
    elim c [
      | inl e ↦ subst (λ (z : ℤ). Lands devices (place_in t.entries (v + j)).0 (place_in t.entries (v + j)).1 z) (sym e)
          (still devices (place_in t.entries (v + j)).0 (place_in t.entries (v + j)).1 (place-there t devices size (v + j) made (omega arith)))
      | inr s ↦ lands devices (place_in t.entries (v + j)).0 (place_in t.entries (v + j)).1 by (stays-at t devices by v n j s l (omega arith))
    ]

-- ---- the shifts of an op

-- a shift that isn't at fault: no earlier line shifts its op, and each block stays on its device
record IsGood (t : Table) (devices : List DeviceInfo) (was : Bool) (v n : ℕ) (by : ℤ) : Type 0 where
  first : was ≡ false
  stays : blocks_stay t devices by v n ≡ true

good-shift : (t : Table) (devices : List DeviceInfo) (size : ℕ) (earlier : List FaultLine) (f : FaultLine) (reads : Bool) (v n : ℕ) (by : ℤ) → is_bad_on t devices size earlier f reads (Some (v, n)) ≡ false → f.kind ≡ ShiftKind by → IsGood t devices (list_any (shifts f.op) earlier) v n by
good-shift t devices size earlier f reads v n by h k =
    let was : Bool = list_any (shifts f.op) earlier in
    let a = or_parts (not (nat_lt f.k n)) (is_bad_kind t devices size earlier f reads (v, n) f.kind) h in
    let b = subst (λ (kind : FaultKind). is_bad_kind t devices size earlier f reads (v, n) kind ≡ false) k a.1 in
    let c = or_parts (not (is_first_type t.ty)) (is_misplaced reads f.at || (was || not (blocks_stay t devices by v n))) b in
    let d = or_parts (is_misplaced reads f.at) (was || not (blocks_stay t devices by v n)) c.1 in
    let e = or_parts was (not (blocks_stay t devices by v n)) d.1 in
    record { first = e.0; stays = not-false (blocks_stay t devices by v n) e.1 }

-- the line is of the op and shifts it
record Shifts (mine : Bool) (kind : FaultKind) (found : ℤ) : Type 0 where
  by : ℤ
  here : mine ≡ true
  kind_is : kind ≡ ShiftKind by
  same : found ≡ by

first-shift : (mine : Bool) (kind : FaultKind) (rest : ℤ) → (unwrap_or (if mine then moved_by kind else None) rest ≡ rest) ⊎ Shifts mine kind (unwrap_or (if mine then moved_by kind else None) rest)
first-shift false kind rest = inl refl
first-shift true (FlipKind off bytes) rest = inl refl
first-shift true (KeepKind bytes) rest = inl refl
first-shift true FailKind rest = inl refl
first-shift true (ShiftKind by) rest = inr (record { by = by; here = refl; kind_is = refl; same = refl })

-- such a line isn't at fault on its request
good-line : (t : Table) (devices : List DeviceInfo) (size : ℕ) (ops : List Op) (i v n : ℕ) (earlier : List FaultLine) (f : FaultLine) (by : ℤ) → is_bad_on t devices size earlier f (is_read ops f.op) (request_at ops f.op) ≡ false → f.op ≡ i → request_at ops i ≡ Some (v, n) → f.kind ≡ ShiftKind by →
    IsGood t devices (list_any (shifts i) earlier) v n by
good-line t devices size ops i v n earlier f by h mine r k =
    let asked : request_at ops f.op ≡ Some (v, n) = ap (request_at ops) mine ∙ r in
    let good = subst (λ (o : Option (ℕ × ℕ)). is_bad_on t devices size earlier f (is_read ops f.op) o ≡ false) asked h in
    let g = good-shift t devices size earlier f (is_read ops f.op) v n by good k in
    record { first = ap (λ (op : ℕ). list_any (shifts op) earlier) (sym mine) ∙ g.first; stays = g.stays }

-- no line is at the wire to the target and at another crossing too
two-crossings : (at other : Crossing) → is_same AdapterToTarget other ≡ false → is_same at AdapterToTarget ≡ true → is_same at other ≡ true → ⊥
two-crossings HostToAdapter other d a b = true≢false (sym a)
two-crossings AdapterToTarget other d a b = true≢false (sym b ∙ d)
two-crossings TargetToMedium other d a b = true≢false (sym a)
two-crossings MediumToTarget other d a b = true≢false (sym a)
two-crossings TargetToAdapter other d a b = true≢false (sym a)
two-crossings AdapterToHost other d a b = true≢false (sym a)

module _ (t : Table) (devices : List DeviceInfo) (size : ℕ) (ops : List Op) (i v n : ℕ) (r : request_at ops i ≡ Some (v, n)) where
  pub shift-stays : (at : Crossing) (earlier faults : List FaultLine) (lines : List ℕ) → length faults ≤ length lines → faults_fault t devices size ops earlier faults lines ≡ None → Stays t devices v n (shift_of faults at i)
  shift-stays at earlier [] lines l h = inl refl
  shift-stays at earlier (f ∷ faults) [] l h = absurd (omega arith)
  shift-stays at earlier (f ∷ faults) (line ∷ lines) l h =
      let p = if-none (is_bad_on t devices size earlier f (is_read ops f.op) (request_at ops f.op)) _ _ h in
      let rest = shift-stays at (earlier ++ (f ∷ [])) faults lines (omega arith) p.1 in
      elim (first-shift (is_same f.at at && eqb f.op i) f.kind (shift_of faults at i)) [
        | inl e ↦ elim rest [ inl z ↦ inl (e ∙ z) | inr b ↦ inr (ap (λ (by : ℤ). blocks_stay t devices by v n) e ∙ b) ]
        | inr s ↦
            let mine = eqb-true f.op i (and_parts (is_same f.at at) (eqb f.op i) s.here).1 in
            inr (ap (λ (by : ℤ). blocks_stay t devices by v n) s.same ∙ (good-line t devices size ops i v n earlier f s.by p.0 mine r s.kind_is).stays)
      ]

  -- behind a line that shifts the op no other does
  no-later : (at : Crossing) (earlier faults : List FaultLine) (lines : List ℕ) → length faults ≤ length lines → faults_fault t devices size ops earlier faults lines ≡ None → list_any (shifts i) earlier ≡ true → shift_of faults at i ≡ pos 0
  no-later at earlier [] lines l h was = refl
  no-later at earlier (f ∷ faults) [] l h was = absurd (omega arith)
  no-later at earlier (f ∷ faults) (line ∷ lines) l h was =
      let p = if-none (is_bad_on t devices size earlier f (is_read ops f.op) (request_at ops f.op)) _ _ h in
      elim (first-shift (is_same f.at at && eqb f.op i) f.kind (shift_of faults at i)) [
        | inl e ↦ e ∙ no-later at (earlier ++ (f ∷ [])) faults lines (omega arith) p.1 (list_any-append (shifts i) earlier (f ∷ []) ∙ or_left (list_any (shifts i) earlier) (list_any (shifts i) (f ∷ [])) was)
        | inr s ↦
            let mine = eqb-true f.op i (and_parts (is_same f.at at) (eqb f.op i) s.here).1 in
            absurd (true≢false (sym was ∙ (good-line t devices size ops i v n earlier f s.by p.0 mine r s.kind_is).first))
      ]

  behind-one : (at : Crossing) (earlier faults : List FaultLine) (f : FaultLine) (lines : List ℕ) (by : ℤ) → length faults ≤ length lines → faults_fault t devices size ops (earlier ++ (f ∷ [])) faults lines ≡ None → eqb f.op i ≡ true → f.kind ≡ ShiftKind by → shift_of faults at i ≡ pos 0
  behind-one at earlier faults f lines by l h mine k =
      let o : eqb i f.op ≡ true = eq-eqb i f.op (sym (eqb-true f.op i mine)) in
      let here : shifts i f ≡ true = and_from (eqb i f.op) (is_shift f.kind) o (ap is_shift k) in
      no-later at (earlier ++ (f ∷ [])) faults lines l h
      (list_any-append (shifts i) earlier (f ∷ []) ∙ or_right (list_any (shifts i) earlier) (list_any (shifts i) (f ∷ [])) (or_left (shifts i f) false here))

  -- so at the wire to the target none does, or none at another crossing
  pub one-shift : (other : Crossing) → is_same AdapterToTarget other ≡ false → (earlier faults : List FaultLine) (lines : List ℕ) → length faults ≤ length lines → faults_fault t devices size ops earlier faults lines ≡ None → (shift_of faults AdapterToTarget i ≡ pos 0) ⊎ (shift_of faults other i ≡ pos 0)
  one-shift other far earlier [] lines l h = inl refl
  one-shift other far earlier (f ∷ faults) [] l h = absurd (omega arith)
  one-shift other far earlier (f ∷ faults) (line ∷ lines) l h =
      let p = if-none (is_bad_on t devices size earlier f (is_read ops f.op) (request_at ops f.op)) _ _ h in
      let rest = one-shift other far (earlier ++ (f ∷ [])) faults lines (omega arith) p.1 in
      let none : (at : Crossing) (by : ℤ) → eqb f.op i ≡ true → f.kind ≡ ShiftKind by → shift_of faults at i ≡ pos 0 = λ at by mine k. behind-one at earlier faults f lines by (omega arith) p.1 mine k in
      elim (first-shift (is_same f.at AdapterToTarget && eqb f.op i) f.kind (shift_of faults AdapterToTarget i)) [
        | inl e ↦ elim (first-shift (is_same f.at other && eqb f.op i) f.kind (shift_of faults other i)) [
          | inl d ↦ elim rest [ inl z ↦ inl (e ∙ z) | inr z ↦ inr (d ∙ z) ]
          | inr s ↦ inl (e ∙ none AdapterToTarget s.by (and_parts (is_same f.at other) (eqb f.op i) s.here).1 s.kind_is)
        ]
        | inr s ↦ elim (first-shift (is_same f.at other && eqb f.op i) f.kind (shift_of faults other i)) [
          | inl d ↦ inr (d ∙ none other s.by (and_parts (is_same f.at AdapterToTarget) (eqb f.op i) s.here).1 s.kind_is)
          | inr o ↦ absurd (two-crossings f.at other far (and_parts (is_same f.at AdapterToTarget) (eqb f.op i) s.here).0 (and_parts (is_same f.at other) (eqb f.op i) o.here).0)
        ]
      ]

-- ---- where blocks are stored

-- moved on the wire and at the medium, by the volume's own entries, and the script's own faults
moved-at : (m : Setting) (s : Script) (t : Table) (i v : ℕ) (at : Crossing) → m.entries ≡ t.entries → m.site.faults ≡ s.faults → (j : ℕ) →
    let r = route m (block_of i v j) in
    m.site.cell r.dev (moved (moved r.lba (shift_of m.site.faults AdapterToTarget i)) (shift_of m.site.faults at i)) ≡ m.site.cell (place_in t.entries (v + j)).0 (moved (moved (place_in t.entries (v + j)).1 (shift_of s.faults AdapterToTarget i)) (shift_of s.faults at i))
moved-at m s t i v at e f j =
    ap (λ (es : List Entry). m.site.cell (place_in es (v + j)).0 (moved (moved (place_in es (v + j)).1 (shift_of m.site.faults AdapterToTarget i)) (shift_of m.site.faults at i))) e
    ∙ ap (λ (fs : List FaultLine). m.site.cell (place_in t.entries (v + j)).0 (moved (moved (place_in t.entries (v + j)).1 (shift_of fs AdapterToTarget i)) (shift_of fs at i))) f

pub stored-at : (m : Setting) (s : Script) (t : Table) (i v : ℕ) → m.entries ≡ t.entries → m.site.faults ≡ s.faults → (j : ℕ) →
    stored_cell m.site (route m (block_of i v j)) ≡ m.site.cell (place_in t.entries (v + j)).0 (moved (moved (place_in t.entries (v + j)).1 (shift_of s.faults AdapterToTarget i)) (shift_of s.faults TargetToMedium i))
stored-at m s t i v e f j = moved-at m s t i v TargetToMedium e f j

pub fetched-at : (m : Setting) (s : Script) (t : Table) (i v : ℕ) → m.entries ≡ t.entries → m.site.faults ≡ s.faults → (j : ℕ) →
    fetched_cell m.site (route m (block_of i v j)) ≡ m.site.cell (place_in t.entries (v + j)).0 (moved (moved (place_in t.entries (v + j)).1 (shift_of s.faults AdapterToTarget i)) (shift_of s.faults MediumToTarget i))
fetched-at m s t i v e f j = moved-at m s t i v MediumToTarget e f j

pub stored-apart : (m : Setting) (s : Script) (t : Table) (devices : List DeviceInfo) (logs : ℕ) → MadeFor t devices s.block → IsSettingOf m s t devices logs → length s.faults ≤ length s.lines → faults_fault t devices s.block s.ops [] s.faults s.lines ≡ None →
    (i v n : ℕ) → request_at s.ops i ≡ Some (v, n) → v + n ≤ volume_len t.entries → AreStoredApart m i v n
stored-apart m s t devices logs made is few good i v n r w j k lj lk same =
    let by = shift_of s.faults AdapterToTarget i in
    let on = shift_of s.faults TargetToMedium i in
    let one = one-shift t devices s.block s.ops i v n r TargetToMedium refl [] s.faults s.lines few good in
    let stays = λ (at : Crossing). shift-stays t devices s.block s.ops i v n r at [] s.faults s.lines few good in
    let p = place_in t.entries (v + j) in
    let q = place_in t.entries (v + k) in
    let a = landed t devices s.block v n by made (stays AdapterToTarget) w j lj in
    let b = landed t devices s.block v n by made (stays AdapterToTarget) w k lk in
    let c = lands-twice devices p.0 p.1 by on one a (landed t devices s.block v n on made (stays TargetToMedium) w j lj) in
    let d = lands-twice devices q.0 q.1 by on one b (landed t devices s.block v n on made (stays TargetToMedium) w k lk) in
    let at = is.apart p.0 (moved (moved p.1 by) on) q.0 (moved (moved q.1 by) on) c.there d.there (sym (stored-at m s t i v is.entries is.faults j) ∙ same ∙ stored-at m s t i v is.entries is.faults k) in
    let lba = back p.1 q.1 by a.clear b.clear (back (moved p.1 by) (moved q.1 by) on c.clear d.clear at.1) in
    let block : v + j ≡ v + k = made.alone (v + j) (v + k) (omega arith) (omega arith) (same-pair p q at.0 lba) in
    omega arith

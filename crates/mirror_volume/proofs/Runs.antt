-- Runs on the legs: none, one, and some after others.
use Rattle.std.proofs.Common.{ℕ, false, ◌≡◌, ◌+◌, ◌≤◌, List, [], ◌∷◌, ◌++◌, length, min, inl, refl, sym, ap, subst, ◌∙◌, append_assoc, append-nil, arith}
use Rattle.fault_schedule.specs.Altered.{has_fail}
use Rattle.fault_schedule.specs.declared.fault.FaultLine.{FaultLine}
use Rattle.rig_api.specs.Target.{Stored}
use Rattle.script_text.specs.declared.script.Script.{Script}
use Rattle.mirror_volume.specs.LegsPassed.{Ran, RoseBy, medium_lines, unscheduled_mediums, Stack}
use Rattle.mirror_volume.proofs.LegsPassed.{known_from, unfailing_lines}
use Rattle.volume_table.specs.declared.device.DeviceInfo.{DeviceInfo}
use Rattle.volume_table.specs.Tables.{Table}
use Rattle.mirror_volume.specs.LegRuns.{AllBacked, AllFallen, AllOwn, AllWalked, GoOn, LegRun, RanLegs, all_records, all_unscheduled, armed_after, replies_of}
use Rattle.rig_api.specs.State.{RigState}

pub all_records-append : (xs ys : List LegRun) → all_records (xs ++ ys) ≡ all_records xs ++ all_records ys
all_records-append [] ys = refl
all_records-append (x ∷ xs) ys = ap (λ es. x.records ++ es) (all_records-append xs ys) ∙ sym (append_assoc x.records (all_records xs) (all_records ys))

pub all_backed-append : (t : Table) (devices : List DeviceInfo) (xs ys : List LegRun) → AllBacked t devices xs → AllBacked t devices ys → AllBacked t devices (xs ++ ys)
all_backed-append t devices [] ys h k = k
all_backed-append t devices (x ∷ xs) ys h k = (h.0, (h.1.0, all_backed-append t devices xs ys h.1.1 k))

pub all_walked-append : (t : Table) (us between left : List Stored) (xs ys : List LegRun) → AllWalked t us xs between → AllWalked t between ys left → AllWalked t us (xs ++ ys) left
all_walked-append t us between left [] ys h k = subst (λ u. AllWalked t u ys left) h k
all_walked-append t us between left (x ∷ xs) ys h k = (h.0, (h.1.0, all_walked-append t h.0 between left xs ys h.1.1 k))

all_fallen-append : (t : Table) (us between left : List Stored) (xs ys : List LegRun) → AllFallen t us xs between → AllFallen t between ys left → AllFallen t us (xs ++ ys) left
all_fallen-append t us between left [] ys h k = subst (λ u. AllFallen t u ys left) h k
all_fallen-append t us between left (x ∷ xs) ys h k = (h.0, (h.1.0, all_fallen-append t h.0 between left xs ys h.1.1 k))

pub go_on-append : (schedule : List (ℕ × ℕ)) (used between used' : ℕ) (xs ys : List LegRun) → GoOn schedule used xs between → GoOn schedule between ys used' → GoOn schedule used (xs ++ ys) used'
go_on-append schedule used between used' [] ys h k = subst (λ n. GoOn schedule n ys used') h k
go_on-append schedule used between used' (x ∷ xs) ys h k = (h.0, go_on-append schedule (used + min (length x.words) x.stack.machine.steps) between used' xs ys h.1 k)

pub armed-append : (xs ys : List LegRun) (was : List FaultLine) → armed_after (xs ++ ys) was ≡ armed_after ys (armed_after xs was)
armed-append [] ys was = refl
armed-append (x ∷ xs) ys was = armed-append xs ys x.own.faults

pub all_unscheduled-append : (xs ys : List LegRun) → all_unscheduled (xs ++ ys) ≡ all_unscheduled xs + all_unscheduled ys
all_unscheduled-append [] ys = omega arith
all_unscheduled-append (x ∷ xs) ys = let e = all_unscheduled-append xs ys in omega (arith, e)

pub rose-add : (a b o m n : ℕ) → o ≤ m → m ≤ n → RoseBy a o m → RoseBy b m n → RoseBy (a + b) o n
rose-add a b o m n p q x y = grind arith

-- ---- without `fail` lines

-- No fault line of theirs says that the medium fails a block.
abbrev pub NoneFails : List LegRun → Type 0
NoneFails runs = AllOwn (λ own. has_fail own.faults ≡ false) runs

-- how many lines of their replies name the medium
abbrev pub all_mediums : List LegRun → ℕ
all_mediums [] = 0
all_mediums (r ∷ runs) = medium_lines (replies_of r) + all_mediums runs

pub all_mediums-append : (xs ys : List LegRun) → all_mediums (xs ++ ys) ≡ all_mediums xs + all_mediums ys
all_mediums-append [] ys = omega arith
all_mediums-append (x ∷ xs) ys = let e = all_mediums-append xs ys in omega (arith, e)

pub unfailing-mediums : (runs : List LegRun) → NoneFails runs → all_unscheduled runs ≡ all_mediums runs
unfailing-mediums [] none = refl
unfailing-mediums (r ∷ runs) none = let a = unfailing_lines r.own.faults (replies_of r) none.0 in let b = unfailing-mediums runs none.1 in omega (arith, a, b)

pub none_fails-append : (xs ys : List LegRun) → NoneFails xs → NoneFails ys → NoneFails (xs ++ ys)
none_fails-append [] ys h k = k
none_fails-append (x ∷ xs) ys h k = (h.0, none_fails-append xs ys h.1 k)

-- ---- none, one, and more

rose-one : (a o n : ℕ) → RoseBy a o n → RoseBy (a + 0) o n
rose-one a o n x = grind arith

none-one : (a : ℕ) → a + 0 ≡ 0 → a ≡ 0
none-one a e = omega (arith, e)

pub ran-append : (t : Table) (devices : List DeviceInfo) (xs ys : List LegRun) (before between after : RigState) → RanLegs t devices xs before between → RanLegs t devices ys between after → RanLegs t devices (xs ++ ys) before after
ran-append t devices xs ys before between after h k = record {
  standing = k.standing ∙ h.standing;
  faults = (let a = h.faults in let b = k.faults in omega (arith, a, b));
  records = k.records ∙ ap (λ es. es ++ all_records ys) h.records ∙ append_assoc before.log (all_records xs) (all_records ys) ∙ ap (λ es. before.log ++ es) (sym (all_records-append xs ys));
  backed = all_backed-append t devices xs ys h.backed k.backed;
  medium = subst (λ n. RoseBy n before.faults after.faults) (sym (all_unscheduled-append xs ys))
      (rose-add (all_unscheduled xs) (all_unscheduled ys) before.faults between.faults after.faults h.faults k.faults h.medium k.medium);
  armed = k.armed ∙ ap (armed_after ys) h.armed ∙ sym (armed-append xs ys before.armed);
  told = λ us e none.
      (let many = all_unscheduled-append xs ys in
      let x = h.told us e (omega (arith, many, none)) in
      let y = k.told x.0 x.1.0 (omega (arith, many, none)) in
      (y.0, (y.1.0, all_walked-append t us x.0 y.0 xs ys x.1.1 y.1.1)));
  fallen = λ us e.
      (let x = h.fallen us e in
      let y = k.fallen x.0 x.1.0 in
      (y.0, (y.1.0, all_fallen-append t us x.0 y.0 xs ys x.1.1 y.1.1)));
}

-- Nothing was run, and nothing changed that is seen.
pub record AreSame (before after : RigState) : Type 0 where
  pub units : after.units ≡ before.units
  pub standing : after.standing ≡ before.standing
  pub log : after.log ≡ before.log
  pub faults : after.faults ≡ before.faults
  pub armed : after.armed ≡ before.armed

pub ran-none : (t : Table) (devices : List DeviceInfo) (before after : RigState) → AreSame before after → RanLegs t devices [] before after
ran-none t devices before after h = record {
  standing = h.standing;
  faults = (let e = h.faults in omega (arith, e));
  records = h.log ∙ sym (append-nil before.log);
  backed = tt;
  medium = (let e = h.faults in inl (omega (arith, e)));
  armed = h.armed;
  told = λ us e none. (us, (h.units ∙ e, refl));
  fallen = λ us e. (us, (h.units ∙ e, refl));
}

pub ran-one : (s : Script) (t : Table) (devices : List DeviceInfo) (words : List (ℕ × ℕ)) (before after : RigState) (r : Stack) (h : Ran s t devices words before after r)
    → RanLegs t devices (record { own = s; words = words; records = h.more; stack = r } ∷ []) before after
ran-one s t devices words before after r h = record {
  standing = h.standing;
  faults = h.faults;
  records = h.records ∙ ap (λ es. before.log ++ es) (sym (append-nil h.more));
  backed = (h.backed, (h.sends, tt));
  medium = rose-one (unscheduled_mediums s.faults r.replies.items) before.faults after.faults h.medium;
  armed = h.armed_there;
  told = λ us e none. (let known = known_from before after h.tells_blocks us e in (known.after, (known.ended, (known.after, (h.walked known (none-one (unscheduled_mediums s.faults r.replies.items) none), refl)))));
  fallen = λ us e. (let known = known_from before after h.tells_blocks us e in (known.after, (known.ended, (known.after, (h.fell known, refl)))));
}

-- nothing was run
pub ran-nothing : (t : Table) (devices : List DeviceInfo) (now : RigState) → RanLegs t devices [] now now
ran-nothing t devices now = ran-none t devices now now (record { units = refl; standing = refl; log = refl; faults = refl; armed = refl })

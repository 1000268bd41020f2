-- For the CRC the form is exact: a flip of data and guard is hidden just where its own CRC is 0.
use Rattle.std.proofs.Common.{◌≡◌, ◌≢◌, ℕ, ◌+◌, ◌^◌, ◌<◌, Bool, true, false, eqb, inl, inr, List, length, take, refl, sym, ap, ◌∙◌, arith, length-append}
use Rattle.std.specs.Prelude.{All, ◌↔◌, replicate}
use Rattle.std.specs.Int.{w16, from_be_bytes, to_be_bytes}
use Rattle.std.proofs.lemmas.Bool.{eqb-false, eqb-true}
use Rattle.std.proofs.lemmas.List.{append_cancel_left, get_or_append_left, get_or_past}
use Rattle.std.proofs.lemmas.Nat.{from_be_bytes-to_be_bytes_2}
use Rattle.pi_guard.specs.Guards.{crc}
use Rattle.pi_guard.specs.declared.GuardKind.TheVariants.{Crc}
use Rattle.pi_guard.proofs.GuardSizes.{guard_below}
use Rattle.fault_schedule.specs.Altered.{altered, named, xored_from}
use Rattle.fault_schedule.specs.declared.Label.{Label}
use Rattle.fault_schedule.specs.declared.fault.Crossing.{Crossing}
use Rattle.fault_schedule.specs.declared.fault.FaultLine.{FaultLine}
use Rattle.rig_api.specs.Frames.{data_of, tuple_of}
use Rattle.block_path.proofs.Cells.{AllBelow, below}
use Rattle.run_laws.proofs.Passed.{below_append, below_take, frame_small, two_below}
use Rattle.guard_laws.specs.Changes.{IsInTwoBytes}
use Rattle.guard_laws.specs.Guarded.{guarded}
use Rattle.guard_laws.proofs.Additive.{hidden_exactly}
use Rattle.guard_laws.proofs.Bursts.{two_bytes_shown}
use Rattle.guard_laws.proofs.Guarded.{guarded_clears}
use Rattle.run_premises.specs.Forms.{mask_of}
use Rattle.run_premises.specs.FormedRun.{IsOfBytes}
use Rattle.run_premises.proofs.Frames.{after_bytes, after_size, all_of, front_is, front_named, front_size}
use Rattle.run_premises.proofs.Lines.{named_below}
use Rattle.run_premises.proofs.Near.{take-xored}

outside_guard : (body : List ℕ) (g h : ℕ) → IsInTwoBytes (length body) (guarded body g) (guarded body h)
outside_guard body g h k (inl l) = get_or_append_left body (to_be_bytes w16 g) 0 k l ∙ sym (get_or_append_left body (to_be_bytes w16 h) 0 k l)
outside_guard body g h k (inr l) =
    let a = length-append body (to_be_bytes w16 g) in
    let b = length-append body (to_be_bytes w16 h) in
    get_or_past (guarded body g) k 0 (omega arith) ∙ sym (get_or_past (guarded body h) k 0 (omega arith))

all_bytes : (body : List ℕ) (g : ℕ) → AllBelow 256 body → All (λ x. x < 256) (guarded body g)
all_bytes body g h = all_of (guarded body g) (below_append 256 body (to_be_bytes w16 g) h (two_below g))

-- only its CRC behind it clears a message
only_crc : (body : List ℕ) (g : ℕ) → AllBelow 256 body → g < 2 ^ 16 → crc (guarded body g) ≡ 0 → g ≡ crc body
only_crc body g bytes small clears = by (eqb g (crc body)) refl where
  by : (c : Bool) → eqb g (crc body) ≡ c → g ≡ crc body
  by true e = eqb-true g (crc body) e
  by false e =
      let other = crc body in
      let differ : guarded body g ≢ guarded body other = λ same.
      eqb-false g other e (sym (from_be_bytes-to_be_bytes_2 g small) ∙ ap (from_be_bytes w16) (append_cancel_left body (to_be_bytes w16 g) (to_be_bytes w16 other) same) ∙ from_be_bytes-to_be_bytes_2 other (guard_below Crc body)) in
      let long = length-append body (to_be_bytes w16 g) ∙ sym (length-append body (to_be_bytes w16 other)) in
      absurd (two_bytes_shown (guarded body g) (guarded body other) (length body)
      (record { bytes = all_bytes body g bytes; other_bytes = all_bytes body other bytes; as_long = long; differ = differ })
      (outside_guard body g other) (clears ∙ sym (guarded_clears body)))

module _ (n : ℕ) (f : ℕ → ℕ) (small : (k : ℕ) → f k < 256) (x : List ℕ) (size : length x ≡ n + 8) (bytes : AllBelow 256 x) (right : (tuple_of n x).guard ≡ crc (data_of n x)) where
  abbrev y : List ℕ
  y = xored_from f 0 x

  own_is : crc (take (n + 2) (xored_from f 0 (replicate (n + 8) 0))) ≡ crc (xored_from f 0 (replicate (length (take (n + 2) x)) 0))
  own_is = ap crc (front_named n f ∙ ap (λ v. xored_from f 0 (replicate v 0)) (sym (front_size n f small x size bytes)))

  hides : crc (take (n + 2) (xored_from f 0 (replicate (n + 8) 0))) ≡ 0 → (tuple_of n y).guard ≡ crc (data_of n y)
  hides e =
      let s = after_size n f small x size bytes in
      let b = after_bytes n f small x size bytes in
      let same = (hidden_exactly f (take (n + 2) x)).1 (sym own_is ∙ e) in
      let clear : crc (take (n + 2) x) ≡ 0 = ap crc (front_is n x size bytes ∙ ap (guarded (take n x)) right) ∙ guarded_clears (take n x) in
      let found : crc (guarded (take n y) (tuple_of n y).guard) ≡ 0 = ap crc (sym (front_is n y s b) ∙ take-xored f (n + 2) 0 x) ∙ same ∙ clear in
      only_crc (take n y) (tuple_of n y).guard (below_take 256 n y b) (frame_small n y s b).guard found

  shows : (tuple_of n y).guard ≡ crc (data_of n y) → crc (take (n + 2) (xored_from f 0 (replicate (n + 8) 0))) ≡ 0
  shows e =
      let s = after_size n f small x size bytes in
      let b = after_bytes n f small x size bytes in
      let clear : crc (take (n + 2) x) ≡ 0 = ap crc (front_is n x size bytes ∙ ap (guarded (take n x)) right) ∙ guarded_clears (take n x) in
      let after : crc (take (n + 2) y) ≡ 0 = ap crc (front_is n y s b ∙ ap (guarded (take n y)) e) ∙ guarded_clears (take n y) in
      own_is ∙ (hidden_exactly f (take (n + 2) x)).0 (ap crc (sym (take-xored f (n + 2) 0 x)) ∙ after ∙ sym clear)

pub exact : (n : ℕ) (faults : List FaultLine) (at : Crossing) (label : Label) (x : List ℕ) → All (λ (line : FaultLine). IsOfBytes line.kind) faults → length x ≡ n + 8 → All (λ x. x < 256) x → (tuple_of n x).guard ≡ crc (data_of n x)
    → ((tuple_of n (altered faults at label x)).guard ≡ crc (data_of n (altered faults at label x))) ↔ (crc (take (n + 2) (mask_of n faults at label)) ≡ 0)
exact n faults at label x flips size bytes right =
    let f = named faults at label in
    let small = named_below faults at label flips in
    let b = below 256 x bytes in (
      shows n f small x size b right,
      hides n f small x size b right,
    )

-- An overwrite whose store call fails leaves what some flip of its block leaves.
use Rattle.std.proofs.Common.{◌≡◌, ◌<◌, ℕ, zero, suc, ◌+◌, ◌-◌, if◌then◌else◌, List, [], ◌∷◌, ◌++◌, length, get_or, bit_xor, Some, None, refl, sym, ap, subst, ◌∙◌, arith}
use Rattle.std.proofs.lemmas.List.{ext_get_or}
use Rattle.std.specs.Int.Bits.{xor_assoc, xor_self, xor_zero_l}
use Rattle.fault_schedule.specs.Altered.{byte_at, xored_from}
use Rattle.fault_schedule.proofs.Xored.{length-xored, get-xored}
use Rattle.dix_adapter.specs.Passed.{Change, Flip}
use Rattle.block_path.specs.Acts.{State, act}
use Rattle.block_path.specs.Blocks.{Sent}
use Rattle.block_path.specs.Serial.{plain}
use Rattle.run_laws.specs.Passed.{acts_of, Setting, Op, Overwrite, Wait}
use Rattle.run_laws.specs.OpsApart.{IsPlaced, OneCellEach}
use Rattle.stack_walk_laws.specs.Following.{Follows}
use Rattle.stack_walk_laws.specs.Gate.{AllPlaced, BecomesDone, LetsIn}
use Rattle.stack_walk_laws.specs.Slots.{Status, Waits}
use Rattle.stack_walk_laws.specs.Falls.{forgive, forgiven, is_write, over_falls, writes_of}
use Rattle.stack_walk_laws.specs.Flips.{no_flips}
use Rattle.stack_walk_laws.specs.FollowsFalling.{FollowsFalling}
use Rattle.stack_walk_laws.proofs.Flipped.{lets_flip, no_flip}
use Rattle.stack_walk_laws.proofs.Flipping.{turn}
use Rattle.stack_walk_laws.proofs.Stepping.{wait_still, whole_falling}

-- what one block is to be xored with to become the other
abbrev pub between : (old left : List ℕ) → List ℕ
between [] left = []
between (x ∷ old) [] = []
between (x ∷ old) (y ∷ left) = bit_xor x y ∷ between old left

at_between : (old left : List ℕ) (k : ℕ) → length left ≡ length old → k < length old → get_or (between old left) k 0 ≡ bit_xor (get_or old k 0) (get_or left k 0)
at_between [] left k l h = absurd (omega (arith, h))
at_between (x ∷ old) [] k l h = absurd (omega (arith, l))
at_between (x ∷ old) (y ∷ left) zero l h = refl
at_between (x ∷ old) (y ∷ left) (suc k) l h = at_between old left k (omega (arith, l)) (omega (arith, h))

twice : (x y : ℕ) → y ≡ bit_xor x (bit_xor x y)
twice x y = sym (sym (xor_assoc x x y) ∙ (ap (λ v. bit_xor v y) (xor_self x) ∙ xor_zero_l y))

first_byte : (bytes : List ℕ) (k : ℕ) → byte_at 0 bytes k ≡ get_or bytes k 0
first_byte bytes k = let e : k - 0 ≡ k = omega arith in grind (arith, e)

-- so there is a flip that leaves this
pub flips_to : (old left : List ℕ) → length left ≡ length old → xored_from (byte_at 0 (between old left)) 0 old ≡ left
flips_to old left l =
    let long = length-xored (byte_at 0 (between old left)) 0 old in
    ext_get_or 0 (xored_from (byte_at 0 (between old left)) 0 old) left (long ∙ sym l)
    (λ k h. (let b : k < length old = omega (arith, h, long) in
    get-xored (byte_at 0 (between old left)) 0 old k b
    ∙ ap (bit_xor (get_or old k 0)) (ap (byte_at 0 (between old left)) (let e : 0 + k ≡ k = omega arith in e) ∙ (first_byte (between old left) k ∙ at_between old left k l b))
    ∙ sym (twice (get_or old k 0) (get_or left k 0))))

-- the ops that write stay these
writes_alike : (front behind : List Op) (dev lba : ℕ) (a b : Change) (i : ℕ) → writes_of (front ++ (Overwrite dev lba a ∷ behind)) i ≡ writes_of (front ++ (Overwrite dev lba b ∷ behind)) i
writes_alike front behind dev lba a b zero = refl
writes_alike front behind dev lba a b (suc i) = by front i where
  by : (front : List Op) (i : ℕ) → is_write (get_or (front ++ (Overwrite dev lba a ∷ behind)) i Wait) ≡ is_write (get_or (front ++ (Overwrite dev lba b ∷ behind)) i Wait)
  by [] zero = refl
  by [] (suc i) = refl
  by (x ∷ front) zero = refl
  by (x ∷ front) (suc i) = by front i

pub overwrite_falling : (m : Setting) (n : ℕ) (front behind : List Op) (dev lba : ℕ) (change : Change) (mask : List ℕ) (opening : State) (old new : ℕ → ℕ → Status) (pages : List ℕ) (blocks : List (List ℕ)) (es : List Sent) →
    let i = suc (length front) in let flip = Overwrite dev lba (Flip 0 mask) in
    OneCellEach m → AllPlaced m n front → IsPlaced m n (Overwrite dev lba change) → LetsIn m old 1 front i (Overwrite dev lba change) → (f : FollowsFalling m n (front ++ (Overwrite dev lba change ∷ behind)) opening old pages blocks es) →
    BecomesDone m i (Overwrite dev lba change) f.after old new → FollowsFalling m n (front ++ (flip ∷ behind)) opening new (plain act (acts_of m i flip) f.after).bytes (plain act (acts_of m i flip) f.after).blocks es
overwrite_falling m n front behind dev lba change mask opening old new pages blocks es one placed mine lets f becomes =
    let i = suc (length front) in
    let was = Overwrite dev lba change in
    let flip = Overwrite dev lba (Flip 0 mask) in
    let over = over_falls m f.falls in
    let waits : forgiven (front ++ (was ∷ behind)) f.falls old i 0 ≡ Waits = ap (λ s. forgive (if writes_of (front ++ (was ∷ behind)) i then f.falls (record { op = i; k = 0 }) else None) s) (becomes.waits 0) ∙ wait_still _ in
    let there = turn over dev lba 0 change mask n front behind opening f.after (forgiven (front ++ (was ∷ behind)) f.falls old) f.told waits f.follows in
    let f' : FollowsFalling m n (front ++ (flip ∷ behind)) opening old pages blocks es = record {
      falls = f.falls;
      after = f.after;
      told = f.told;
      follows = subst (λ st. Follows over n (front ++ (flip ∷ behind)) opening st f.after f.told)
          (λ x j k. ap (λ w. forgive (if w then f.falls (record { op = j; k = k }) else None) (old j k)) (writes_alike front behind dev lba change (Flip 0 mask) j) x) there;
      bytes = f.bytes;
      blocks_are = f.blocks_are;
      stamped = f.stamped;
      on_record = f.on_record;
      fallen = f.fallen;
      aside = f.aside;
      sized = f.sized;
    } in
    whole_falling m n front behind flip opening old new pages blocks es one placed (record { in_pages = mine.in_pages; reads = mine.reads; writes = mine.writes; blocks = mine.blocks }) tt
    (subst (λ xs. LetsIn m old 1 xs i flip) (no_flip 1 front) (lets_flip m old no_flips 1 front i (Some mask) was lets)) f' (record { waits = becomes.waits; done = becomes.done; elsewhere = becomes.elsewhere })

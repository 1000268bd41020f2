-- A flip in the data of a block, at one crossing.
use Rattle.std.proofs.Common.{◌≡◌, ◌<◌, ◌≤◌, ℕ, zero, suc, ◌+◌, ◌-◌, Bool, true, false, eqb, leb, ◌&&◌, if◌then◌else◌, List, [], ◌∷◌, ◌++◌, length, refl, ap, ◌∙◌, arith}
use Rattle.std.specs.Prelude.{bit_xor, slice_index, pos, Result, Ok, Err, Some, None, unwrap_or}
use Rattle.std.specs.Int.Bits.{xor_zero_r}
use Rattle.std.proofs.lemmas.Bool.{eq-eqb}
use Rattle.std.proofs.lemmas.Nat.{xor_of_8}
use Rattle.fault_schedule.specs.Altered.{altered, byte_at, is_same, named, shift_of, xored_from}
use Rattle.fault_schedule.specs.declared.Label.{Label}
use Rattle.fault_schedule.specs.declared.fault.Crossing.{Crossing}
use Rattle.fault_schedule.specs.declared.fault.Crossing.TheVariants.{HostToAdapter, AdapterToTarget, TargetToMedium, MediumToTarget, TargetToAdapter, AdapterToHost}
use Rattle.fault_schedule.specs.AnyOrder.{xored-same}
use Rattle.pi_tuple.specs.declared.checks.Check.{Check}
use Rattle.rig_api.specs.Passing.{then_crossed}
use Rattle.block_path.proofs.Cells.{AllBelow}
use Rattle.walk_laws.specs.Settings.{Block}
use Rattle.mode_map.specs.Finders.{flip_of, flipped}

same-crossing : (at : Crossing) → is_same at at ≡ true
same-crossing HostToAdapter = refl
same-crossing AdapterToTarget = refl
same-crossing TargetToMedium = refl
same-crossing MediumToTarget = refl
same-crossing TargetToAdapter = refl
same-crossing AdapterToHost = refl

abbrev pub label_of : Block → Label
label_of b = record { op = b.op; k = b.k }

pub own-line : (b : Block) (at : Crossing) → (is_same at at && (eqb b.op b.op && eqb b.k b.k)) ≡ true
own-line b at = let x = same-crossing at in let y : eqb b.op b.op ≡ true = eq-eqb b.op b.op refl in let z : eqb b.k b.k ≡ true = eq-eqb b.k b.k refl in rw (x, y, z) refl

-- what is named at its crossing, and nothing at another
named-here : (b : Block) (at : Crossing) (off : ℕ) (bytes : List ℕ) (i : ℕ) → named (flip_of b at off bytes) at (label_of b) i ≡ byte_at off bytes i
named-here b at off bytes i = ap (λ c. bit_xor (if c then byte_at off bytes i else 0) 0) (own-line b at) ∙ xor_zero_r (byte_at off bytes i)

named-there : (b : Block) (at other : Crossing) (off : ℕ) (bytes : List ℕ) (i : ℕ) → is_same at other ≡ false → named (flip_of b at off bytes) other (label_of b) i ≡ 0
named-there b at other off bytes i h = ap (λ c. bit_xor (if c && (eqb b.op b.op && eqb b.k b.k) then byte_at off bytes i else 0) 0) h

pub xored-zero : (f : ℕ → ℕ) (i : ℕ) (xs : List ℕ) → ((k : ℕ) → f k ≡ 0) → xored_from f i xs ≡ xs
xored-zero f i [] none = refl
xored-zero f i (x ∷ xs) none = let e = ap (bit_xor x) (none i) ∙ xor_zero_r x in let rest = xored-zero f (i + 1) xs none in cc

past : (bytes : List ℕ) (k : ℕ) → length bytes ≤ k → slice_index bytes k ≡ 0
past [] k h = refl
past (x ∷ bytes) zero h = absurd (omega arith)
past (x ∷ bytes) (suc k) h = past bytes k (omega arith)

byte-past : (off : ℕ) (bytes : List ℕ) (i : ℕ) → off + length bytes ≤ i → byte_at off bytes i ≡ 0
byte-past off bytes i h = let c : leb off i ≡ true = grind arith in ap (λ v. if v then slice_index bytes (i - off) else 0) c ∙ past bytes (i - off) (omega arith)

xored-past : (off : ℕ) (bytes : List ℕ) (i : ℕ) (xs : List ℕ) → off + length bytes ≤ i → xored_from (byte_at off bytes) i xs ≡ xs
xored-past off bytes i [] h = refl
xored-past off bytes i (x ∷ xs) h = let e = ap (bit_xor x) (byte-past off bytes i h) ∙ xor_zero_r x in let rest = xored-past off bytes (i + 1) xs (omega arith) in cc

xored-front : (off : ℕ) (bytes : List ℕ) (i : ℕ) (xs ys : List ℕ) → off + length bytes ≤ i + length xs → xored_from (byte_at off bytes) i (xs ++ ys) ≡ xored_from (byte_at off bytes) i xs ++ ys
xored-front off bytes i [] ys h = xored-past off bytes i ys (omega arith)
xored-front off bytes i (x ∷ xs) ys h = ap (λ r. bit_xor x (byte_at off bytes i) ∷ r) (xored-front off bytes (i + 1) xs ys (omega arith))

-- at its crossing the data are altered, and what is behind them stays
pub altered-here : (b : Block) (at : Crossing) (off : ℕ) (bytes body behind : List ℕ) → off + length bytes ≤ length body → altered (flip_of b at off bytes) at (label_of b) (body ++ behind) ≡ flipped off bytes body ++ behind
altered-here b at off bytes body behind h = xored-same _ _ 0 (body ++ behind) (named-here b at off bytes) ∙ xored-front off bytes 0 body behind (omega (arith, h))

pub altered-bare : (b : Block) (at : Crossing) (off : ℕ) (bytes body : List ℕ) → altered (flip_of b at off bytes) at (label_of b) body ≡ flipped off bytes body
altered-bare b at off bytes body = xored-same _ _ 0 body (named-here b at off bytes)

-- at another nothing is
pub altered-there : (b : Block) (at other : Crossing) (off : ℕ) (bytes frame : List ℕ) → is_same at other ≡ false → altered (flip_of b at off bytes) other (label_of b) frame ≡ frame
altered-there b at other off bytes frame h = xored-zero _ 0 frame (λ k. named-there b at other off bytes k h)

pub crossed-there : (b : Block) (at other : Crossing) (off : ℕ) (bytes : List ℕ) (came : Result (List ℕ) Check) → is_same at other ≡ false → then_crossed (flip_of b at off bytes) (Some (label_of b)) other came ≡ came
crossed-there b at other off bytes (Ok frame) h = ap (λ f. Ok f) (altered-there b at other off bytes frame h)
crossed-there b at other off bytes (Err check) h = refl

-- it moves no address
pub unmoved : (c : Bool) → unwrap_or (if c then None else None) (pos 0) ≡ pos 0
unmoved true = refl
unmoved false = refl

pub no-shift : (b : Block) (at other : Crossing) (off : ℕ) (bytes : List ℕ) (op : ℕ) → shift_of (flip_of b at off bytes) other op ≡ pos 0
no-shift b at other off bytes op = unmoved (is_same at other && eqb b.op op)

byte-below : (bytes : List ℕ) (k : ℕ) → AllBelow 256 bytes → slice_index bytes k < 256
byte-below [] k h = omega arith
byte-below (x ∷ bytes) zero h = h.0
byte-below (x ∷ bytes) (suc k) h = byte-below bytes k h.1

named-below : (off : ℕ) (bytes : List ℕ) (i : ℕ) → AllBelow 256 bytes → byte_at off bytes i < 256
named-below off bytes i h = by (leb off i)
  where
    by : (c : Bool) → (if c then slice_index bytes (i - off) else 0) < 256
    by true = byte-below bytes (i - off) h
    by false = omega arith

pub flipped-below : (off i : ℕ) (bytes body : List ℕ) → AllBelow 256 bytes → AllBelow 256 body → AllBelow 256 (xored_from (byte_at off bytes) i body)
flipped-below off i bytes [] h k = tt
flipped-below off i bytes (x ∷ body) h k = (xor_of_8 x (byte_at off bytes i) k.0 (named-below off bytes i h), flipped-below off (i + 1) bytes body h k.1)

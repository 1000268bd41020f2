-- Bytes that are xored one by one with those that are named for their places.
use Rattle.std.proofs.Common.{ℕ, zero, suc, ◌≡◌, inl, inr, ◌+◌, ◌-◌, ◌<◌, ◌≤◌, List, [], ◌∷◌, length, get_or, set, take, refl, sym, arith, bit_xor, min, ap, ◌∙◌, true, false, ℤ, drop, drop-cons, add-one}
use Rattle.std.proofs.lemmas.List.{same_lists, get_or_default, take_all, drop_all, get_or-set_other, get_or-set_same}
use Rattle.std.proofs.lemmas.Bool.{cases_eq}
use Rattle.std.proofs.lemmas.Grind.{common_steps}
use Rattle.std.specs.Int.Bits.{xor_assoc, xor_zero_r}
use Rattle.fault_schedule.specs.declared.fault.Crossing.{Crossing}
use Rattle.fault_schedule.specs.declared.fault.FaultKind.TheVariants.{Fail, Keep, Shift}
use Rattle.fault_schedule.specs.declared.fault.FaultLine.{FaultLine}
use Rattle.fault_schedule.specs.declared.Label.{Label}
use Rattle.fault_schedule.specs.Altered.{altered, byte_at, is_line_of, named, named_by, xored_from}

pub length-xored : (name : ℕ → ℕ) (i : ℕ) (xs : List ℕ) → length (xored_from name i xs) ≡ length xs
length-xored name i [] = refl
length-xored name i (x ∷ xs) = grind (arith, length-xored name (i + 1) xs)

pub get-xored : (name : ℕ → ℕ) (i : ℕ) (xs : List ℕ) (k : ℕ) → k < length xs → get_or (xored_from name i xs) k 0 ≡ bit_xor (get_or xs k 0) (name (i + k))
get-xored name i [] k h = absurd (omega arith)
get-xored name i (x ∷ xs) zero h = grind arith
get-xored name i (x ∷ xs) (suc k) h = grind (arith, get-xored name (i + 1) xs k (omega arith))

-- a list whose bytes are those of another, each xored with what is named for its place
pub is-xored : (name : ℕ → ℕ) (xs ys : List ℕ) → length ys ≡ length xs → ((k : ℕ) → k < length xs → get_or ys k 0 ≡ bit_xor (get_or xs k 0) (name k)) → ys ≡ xored_from name 0 xs
is-xored name xs ys len each = same_lists _ _ (rw length-xored len) (λ i d l. grind (arith, get_or_default, each i, get-xored name 0 xs i, length-xored name 0 xs))

before-none : (off i : ℕ) (bytes : List ℕ) → byte_at off (take i bytes) (off + i) ≡ 0
before-none off i bytes = grind (arith, common_steps)

here-named : (off i : ℕ) (bytes : List ℕ) → byte_at off (take (i + 1) bytes) (off + i) ≡ get_or bytes i 0
here-named off i bytes = grind (arith, common_steps)

else-same : (off i k : ℕ) (bytes : List ℕ) → (k ≡ off + i → ⊥) → byte_at off (take (i + 1) bytes) k ≡ byte_at off (take i bytes) k
else-same off i k bytes ne = grind (arith, common_steps)

-- one more byte xored into its place
pub one-more : (off i k : ℕ) (bytes old new : List ℕ) → off + i < length new
    → ((k : ℕ) → k < length new → get_or new k 0 ≡ bit_xor (get_or old k 0) (byte_at off (take i bytes) k))
    → k < length new → get_or (set new (off + i) (bit_xor (get_or new (off + i) 0) (get_or bytes i 0))) k 0 ≡ bit_xor (get_or old k 0) (byte_at off (take (i + 1) bytes) k)
one-more off i k bytes old new g each l = elim (cases_eq k (off + i)) [
  | inl e ↦ rw (e, get_or-set_same, each (off + i) g, before-none off i bytes, here-named off i bytes) (rw xor_zero_r refl)
  | inr ne ↦ rw (get_or-set_other, else-same off i k bytes ne) (each k l)
]

pub cut-off : (off k : ℕ) (bytes old : List ℕ) → k < length old → byte_at off (take (min (length old - off) (length bytes)) bytes) k ≡ byte_at off bytes k
cut-off off k bytes old h = grind (arith, common_steps)

pub all-xored : (off reach i : ℕ) (bytes old new : List ℕ) → reach ≡ min (length old - off) (length bytes) → length new ≡ length old → length (take reach bytes) ≤ i
    → ((k : ℕ) → k < length new → get_or new k 0 ≡ bit_xor (get_or old k 0) (byte_at off (take i (take reach bytes)) k)) → new ≡ xored_from (byte_at off bytes) 0 old
all-xored off reach i bytes old new r len end each = is-xored (byte_at off bytes) old new len (λ k h.
    each k (rw len h) ∙ ap (λ b. bit_xor (get_or old k 0) b) (ap (λ t. byte_at off t k) (take_all i (take reach bytes) end) ∙ rw r (cut-off off k bytes old h)))

none-xored : (name : ℕ → ℕ) (i : ℕ) (xs : List ℕ) → ((k : ℕ) → name k ≡ 0) → xs ≡ xored_from name i xs
none-xored name i [] none = refl
none-xored name i (x ∷ xs) none = rw (none i, xor_zero_r) (ap (λ t. x ∷ t) (none-xored name (i + 1) xs none))

-- a line of another block or crossing
pub another-line : (line : FaultLine) (at : Crossing) (label : Label) (block : List ℕ) → is_line_of line at label ≡ false → block ≡ xored_from (named_by line at label) 0 block
another-line line at label block h = none-xored _ 0 block (λ k. rw h refl)

-- a shift of this block
pub shift-line : (line : FaultLine) (at : Crossing) (label : Label) (block : List ℕ) (by : ℤ) → is_line_of line at label ≡ true → line.kind ≡ Shift by → block ≡ xored_from (named_by line at label) 0 block
shift-line line at label block by h is = none-xored _ 0 block (λ k. rw (h, is) refl)

-- of which the medium keeps so much
pub keep-line : (line : FaultLine) (at : Crossing) (label : Label) (block : List ℕ) (bytes : ℕ) → is_line_of line at label ≡ true → line.kind ≡ Keep bytes → block ≡ xored_from (named_by line at label) 0 block
keep-line line at label block bytes h is = none-xored _ 0 block (λ k. rw (h, is) refl)

-- which the medium fails
pub fail-line : (line : FaultLine) (at : Crossing) (label : Label) (block : List ℕ) → is_line_of line at label ≡ true → line.kind ≡ Fail → block ≡ xored_from (named_by line at label) 0 block
fail-line line at label block h is = none-xored _ 0 block (λ k. rw (h, is) refl)

xored-twice : (f g : ℕ → ℕ) (i : ℕ) (xs : List ℕ) → xored_from g i (xored_from f i xs) ≡ xored_from (λ k. bit_xor (f k) (g k)) i xs
xored-twice f g i [] = refl
xored-twice f g i (x ∷ xs) = rw (xor_assoc, xored-twice f g (i + 1) xs) refl

altered-more : (line : FaultLine) (lines : List FaultLine) (at : Crossing) (label : Label) (block : List ℕ)
    → altered (line ∷ lines) at label block ≡ altered lines at label (xored_from (named_by line at label) 0 block)
altered-more line lines at label block = sym (xored-twice (named_by line at label) (named lines at label) 0 block)

-- The lines act one after another.
pub altered-next : (i : ℕ) (line : FaultLine) (lines : List FaultLine) (at : Crossing) (label : Label) (block next : List ℕ) → i < length lines → line ≡ get_or lines i line
    → next ≡ xored_from (named_by line at label) 0 block → altered (drop i lines) at label block ≡ altered (drop (i + 1) lines) at label next
altered-next i line lines at label block next h is e = rw (drop-cons lines i line h, add-one, ← is, e) (altered-more line (drop (suc i) lines) at label block)

pub none-altered : (i : ℕ) (lines : List FaultLine) (at : Crossing) (label : Label) (block : List ℕ) → length lines ≤ i → altered (drop i lines) at label block ≡ block
none-altered i lines at label block h = rw (drop_all i lines h) (sym (none-xored _ 0 block (λ k. refl)))

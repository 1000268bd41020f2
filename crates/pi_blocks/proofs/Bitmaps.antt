-- One more block of those that are all stripped: its bit, what is told first, and its data.
use Rattle.std.proofs.Common.{◌≡◌, ℕ, zero, suc, ◌+◌, ◌-◌, ◌*◌, ◌^◌, ◌<◌, ◌≤◌, Bool, true, false, if◌then◌else◌, min, List, ◌∷◌, ◌++◌, length, take, drop, slice_set, Option, Some, None, IfSome, inl, inr, refl, ap, ◌∙◌, sym, subst, add-one, arith}
use Rattle.std.proofs.lemmas.Bool.{cases_lt}
use Rattle.std.proofs.lemmas.List.{length-drop, length-take-le, set_split}
use Rattle.std.proofs.Math.Nat.{min-eq_left, min-eq_right, pow-le-pow_right}
use Rattle.pi_blocks.specs.Blocks.{AreFineFrom, Checked, in_line, looked}
use Rattle.pi_blocks.specs.Inserted.{data_in, place_of_data}
use Rattle.pi_blocks.specs.Layouts.{stride_of}
use Rattle.pi_blocks.specs.Puts.{all_put, put_at}
use Rattle.pi_blocks.specs.Stripped.{AreStripped, bad_byte, bits_of, bytes_for, first_told, held, is_bad, is_told, left_there, marks}
use Rattle.pi_blocks.specs.declared.block.Found.{Found}
use Rattle.pi_blocks.specs.declared.block.Want.{Want}
use Rattle.pi_blocks.specs.declared.layout.Layout.{Layout}
use Rattle.pi_blocks.proofs.Checks.{one_more}
use Rattle.pi_blocks.proofs.Inserts.{held-length}
use Rattle.pi_blocks.proofs.Puts.{Puts, put_same, puts_more}
use Rattle.small_laws.proofs.Numbers.{next_block}

bit_small : (b : Bool) (n : ℕ) → (if b then n else 0) ≤ n
bit_small true n = omega arith
bit_small false n = omega arith

twice : (n : ℕ) → 2 ^ suc n ≡ 2 ^ n + 2 ^ n
twice n = omega arith

-- so many bits are below a power
pub bits_small : (is_set : ℕ → Bool) (n : ℕ) → bits_of is_set n < 2 ^ n
bits_small is_set zero = omega arith
bits_small is_set (suc n) = let a = bits_small is_set n in let b = bit_small (is_set n) (2 ^ n) in let c = twice n in omega arith

-- a bit of 8
pub bit_in_byte : (n : ℕ) → n ≤ 8 → 2 ^ n ≤ 256
bit_in_byte n h = pow-le-pow_right {n = 2} (omega arith) h

pub next_bit : (n bit : ℕ) → bit ≡ 2 ^ n → bit * 2 ≡ 2 ^ (n + 1)
next_bit n bit e = let a = twice n in let b = ap (λ m. 2 ^ m) (add-one n) in omega arith

-- one more bit
pub bits_more : (l : Layout) (w : Want) (blocks : List ℕ) (start n bits bit mark : ℕ) (told : Option Found) → bits ≡ marks l w blocks start n → bit ≡ 2 ^ n → told ≡ looked l w (in_line l blocks) (start + n) →
    mark ≡ (if is_told told then bit else 0) → bits + mark ≡ marks l w blocks start (n + 1)
bits_more l w blocks start n bits bit mark told e b t m =
    let its : mark ≡ (if is_bad l w blocks (start + n) then 2 ^ n else 0) =
    m ∙ (ap (λ (f : Option Found). if is_told f then bit else 0) t ∙ ap (λ v. if is_bad l w blocks (start + n) then v else 0) b) in
    ap (λ v. v + mark) e ∙ (ap (λ v. marks l w blocks start n + v) its ∙ ap (marks l w blocks start) (sym (add-one n)))

-- what is told first, one block further
pub told_more : (l : Layout) (w : Want) (blocks old new : List ℕ) (n : ℕ) (before now next : Option Found) → now ≡ looked l w (in_line l blocks) n → IfSome now (λ f. (f.block ≡ n) × (new ≡ old)) → next ≡ first_told before now →
    Checked l w (in_line l blocks) 0 n before → Checked l w (in_line l blocks) 0 (n + 1) next
told_more l w blocks old new n None None next e there f h = subst (Checked l w (in_line l blocks) 0 (n + 1)) (sym f) (one_more l w (in_line l blocks) 0 n h (sym e))
told_more l w blocks old new n None (Some g) next e both f h = let there = both.0 in subst (Checked l w (in_line l blocks) 0 (n + 1)) (sym f) (record {
  behind = omega arith;
  inside = omega (arith, there);
  differs = ap (looked l w (in_line l blocks)) there ∙ sym e;
  first = subst (AreFineFrom l w (in_line l blocks) 0) (sym there) h;
})
told_more l w blocks old new n (Some g) now next e there f h = subst (Checked l w (in_line l blocks) 0 (n + 1)) (sym f) (record {
  behind = h.behind;
  inside = let below = h.inside in omega (arith, below);
  differs = h.differs;
  first = h.first;
})

-- what is left of one more block
data_long : (l : Layout) (n : ℕ) (now : List ℕ) → n * l.data_size + l.data_size ≤ length now → length (data_in l now n) ≡ l.data_size
data_long l n now room = let there = length-drop (place_of_data l n) now in length-take-le l.data_size (drop (place_of_data l n) now) (omega arith)

one_left : (l : Layout) (w : Want) (n : ℕ) (blocks old now new piece : List ℕ) → n * l.data_size + l.data_size ≤ length now → AreStripped l w n blocks old now → piece ≡ left_there l w blocks old n → length piece ≡ l.data_size
    → new ≡ put_at (place_of_data l n) piece now → AreStripped l w (n + 1) blocks old new
one_left l w n blocks old now new piece room h same long e =
    let next = next_block n l.data_size in
    let wide : length (left_there l w blocks old n) ≡ l.data_size = sym (ap length same) ∙ long in
    let so_far : Puts (place_of_data l) (left_there l w blocks old) n (n * l.data_size) old now = record { put = h.put; rest = h.rest } in
    let more = puts_more (place_of_data l) (left_there l w blocks old) n (n * l.data_size) ((n + 1) * l.data_size) old now new so_far (e ∙ ap (λ (p : List ℕ). put_at (place_of_data l n) p now) same) (omega arith) (omega arith) (omega arith) in
    record { put = more.put; rest = more.rest }

pub left_more : (l : Layout) (w : Want) (n : ℕ) (blocks old now new : List ℕ) (told : Option Found) → n * stride_of l + stride_of l ≤ length blocks → n * l.data_size + l.data_size ≤ length now → told ≡ looked l w (in_line l blocks) n →
    IfSome told (λ f. (f.block ≡ n) × (new ≡ now)) → (told ≡ None → new ≡ put_at (place_of_data l n) (held l blocks n) now) → AreStripped l w n blocks old now → AreStripped l w (n + 1) blocks old new
left_more l w n blocks old now new None inside room e some none h =
    one_left l w n blocks old now new (held l blocks n) room h (ap (λ (f : Option Found). if is_told f then data_in l old n else held l blocks n) e) (held-length l n blocks inside) (none refl)
left_more l w n blocks old now new (Some f) inside room e some none h =
    let own : data_in l now n ≡ data_in l old n = ap (take l.data_size) h.rest in
    one_left l w n blocks old now new (data_in l now n) room h (own ∙ ap (λ (t : Option Found). if is_told t then data_in l old n else held l blocks n) e) (data_long l n now room)
    (some.1 ∙ sym (put_same (place_of_data l n) l.data_size now (data_in l now n) refl (data_long l n now room)))

pub none_left : (l : Layout) (w : Want) (blocks old : List ℕ) → AreStripped l w 0 blocks old old
unfolding all_put
none_left l w blocks old = record { put = refl; rest = refl }

-- one more byte of the bitmap
abbrev pub Marks : Layout → Want → List ℕ → ℕ → ℕ → List ℕ → List ℕ → Type 0
Marks l w blocks n k old now = Puts (λ m. m) (bad_byte l w blocks n) k k old now

pub marks_more : (l : Layout) (w : Want) (blocks : List ℕ) (n k byte : ℕ) (old now : List ℕ) → k < length now → byte ≡ marks l w blocks (8 * k) (min (n - 8 * k) 8) → Marks l w blocks n k old now → Marks l w blocks n (k + 1) old (slice_set now k byte)
marks_more l w blocks n k byte old now lt e h =
    let there : slice_set now k byte ≡ put_at k (bad_byte l w blocks n k) now =
    set_split now k byte lt ∙ (ap (λ m. take k now ++ (byte ∷ drop m now)) (sym (add-one k)) ∙ ap (λ b. take k now ++ (b ∷ drop (k + 1) now)) e) in
    puts_more (λ m. m) (bad_byte l w blocks n) k k (k + 1) old now (slice_set now k byte) h there (omega arith) (omega arith) (omega arith)

-- how many blocks have their bits in the first k bytes
pub blocks_in : (k n : ℕ) → k < bytes_for n → min (8 * k) n ≡ 8 * k
blocks_in k n h = min-eq_left (omega arith)

next_eight : (k : ℕ) → 8 * k + 8 ≡ 8 * (k + 1)
next_eight k = omega arith

whole_again : (k n : ℕ) → k < bytes_for n → 8 * k + (n - 8 * k) ≡ n
whole_again k n h = omega arith

pub blocks_by_next : (k n : ℕ) → k < bytes_for n → 8 * k + min (n - 8 * k) 8 ≡ min (8 * (k + 1)) n
blocks_by_next k n h = elim (cases_lt (8 * (k + 1)) n) [
  | inl below ↦ ap (λ m. 8 * k + m) (min-eq_right (omega arith)) ∙ (next_eight k ∙ sym (min-eq_left (omega arith)))
  | inr above ↦ ap (λ m. 8 * k + m) (min-eq_left (omega arith)) ∙ (whole_again k n h ∙ sym (min-eq_right (omega arith)))
]

-- a bit that is marked, or none
pub mark_small : (told : Option Found) (bit mark : ℕ) → mark ≡ (if is_told told then bit else 0) → mark ≤ bit
mark_small told bit mark e = let a = bit_small (is_told told) bit in omega (arith, a, e)

-- before the first byte
pub fine_at_first : (l : Layout) (w : Want) (blocks : List ℕ) (n : ℕ) → AreFineFrom l w (in_line l blocks) 0 (min (8 * 0) n)
fine_at_first l w blocks n k from lt = let z : min (8 * 0) n ≡ 8 * 0 = min-eq_left (omega arith) in absurd (omega (arith, z, lt))

pub left_at_first : (l : Layout) (w : Want) (blocks old : List ℕ) (n : ℕ) → AreStripped l w (min (8 * 0) n) blocks old old
left_at_first l w blocks old n = let z : min (8 * 0) n ≡ 8 * 0 = min-eq_left (omega arith) in subst (λ m. AreStripped l w m blocks old old) (sym z) (none_left l w blocks old)

pub few_left : (k n : ℕ) → k < bytes_for n → 8 * k + min (n - 8 * k) 8 ≤ n
few_left k n h = elim (cases_lt (8 * (k + 1)) n) [
  | inl below ↦ let e : min (n - 8 * k) 8 ≡ 8 = min-eq_right (omega arith) in omega (arith, e, below)
  | inr above ↦ let e : min (n - 8 * k) 8 ≡ n - 8 * k = min-eq_left (omega arith) in omega (arith, e, h)
]

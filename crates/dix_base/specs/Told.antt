use Rattle.std.specs.Prelude.{ℕ, ◌≡◌, ◌+◌, ◌^◌, ◌<◌, ◌≤◌, ◌⊎◌, List, [], ◌++◌, length, take, drop, All, Option, Some, None}

-- A count of faults rose, or stands at its last value.
abbrev pub Rose : ℕ → ℕ → Type 0
Rose old new = (old < new) ⊎ (new + 1 ≡ 2 ^ 64)

-- No fault was counted, and one would have been seen.
abbrev pub Calm : ℕ → ℕ → Type 0
Calm old new = (new ≤ old) × (new + 1 < 2 ^ 64)

-- What is told after a call is as the relation says of what was told before it; an object tells both times or neither time.
abbrev pub Becomes : (List ℕ → List ℕ → Type 0) → Option (List ℕ) → Option (List ℕ) → Type 0
Becomes P None None = Unit {0}
Becomes P (Some old) (Some new) = P old new
Becomes P None (Some new) = ⊥
Becomes P (Some old) None = ⊥

-- the bytes in place of those at this place
abbrev pub over : ℕ → List ℕ → List ℕ → List ℕ
over at xs old = take at old ++ (xs ++ drop (at + length xs) old)

-- All bytes are as before outside these n from that place on.
abbrev pub Apart : ℕ → ℕ → List ℕ → List ℕ → Type 0
Apart at n old new = (length new ≡ length old) × (take at new ≡ take at old) × (drop (at + n) new ≡ drop (at + n) old)

-- All bytes are as before, and others may follow.
abbrev pub Begins : List ℕ → List ℕ → Type 0
Begins old new = take (length old) new ≡ old

-- The length of what is told is this.
abbrev pub HasLength : ℕ → Option (List ℕ) → Type 0
HasLength n None = Unit {0}
HasLength n (Some xs) = n ≡ length xs

-- Each byte that is told is below 256.
abbrev pub AreOctets : Option (List ℕ) → Type 0
AreOctets None = Unit {0}
AreOctets (Some xs) = All (λ x. x < 256) xs

-- These are the n bytes from that place on, where told.
abbrev pub IsRead : ℕ → ℕ → List ℕ → Option (List ℕ) → Type 0
IsRead at n xs None = Unit {0}
IsRead at n xs (Some ys) = xs ≡ take n (drop at ys)

-- These bytes were taken from the front of what was left, and the rest is left.
abbrev pub Took : List ℕ → Option (List ℕ) → Option (List ℕ) → Type 0
Took xs old new = Becomes (λ was is. was ≡ xs ++ is) old new

-- Nothing is left, where told.
abbrev pub IsAtEnd : Option (List ℕ) → Type 0
IsAtEnd None = Unit {0}
IsAtEnd (Some xs) = xs ≡ []

-- These bytes were appended, where told.
abbrev pub Appended : List ℕ → Option (List ℕ) → Option (List ℕ) → Type 0
Appended xs old new = Becomes (λ was is. is ≡ was ++ xs) old new

-- A prefix of these bytes was appended.
abbrev pub AppendedSome : List ℕ → Option (List ℕ) → Option (List ℕ) → Type 0
AppendedSome xs old new = (n : ℕ) × Appended (take n xs) old new

-- The one is the front of the other, where told.
abbrev pub IsBehind : Option (List ℕ) → Option (List ℕ) → Type 0
IsBehind = Becomes (λ front all. Begins front all)

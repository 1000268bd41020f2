use Rattle.std.specs.Prelude.{ℕ, ◌≡◌, ◌⊎◌, Bool, true, false, if◌then◌else◌, List, [], ◌∷◌, Option, Some, None, Result, Ok, Err}
use Rattle.std.specs.Str.{bytes_eq}
use Rattle.script_lines.specs.declared.kind.ScriptKind.{ScriptKind}
use Rattle.script_lines.specs.declared.kind.ScriptKind.TheVariants.{UnknownWord, BadNumber, MissingWord, ExtraWord, Memory}

-- What reading words gives: a value with the words behind it, or the first fault from the left.
abbrev pub Got : Type 0 → Type 0
Got A = Result (A × List (List ℕ)) ScriptKind

infixl 10 ◌>>=◌
abbrev pub ◌>>=◌ : {A B : Type 0} → Result A ScriptKind → (A → Result B ScriptKind) → Result B ScriptKind
Ok x >>= f = f x
Err k >>= f = Err k

-- a word, which has to be there
abbrev pub word : List (List ℕ) → Got (List ℕ)
word [] = Err MissingWord
word (w ∷ ws) = Ok (w, ws)

abbrev pub or_bad : {A : Type 0} → Option A → List (List ℕ) → Got A
or_bad None ws = Err BadNumber
or_bad (Some a) ws = Ok (a, ws)

-- a word of a form, read so
abbrev pub value : {A : Type 0} → (List ℕ → Option A) → List (List ℕ) → Got A
value read [] = Err MissingWord
value read (w ∷ ws) = or_bad (read w) ws

-- this very word
abbrev pub fixed : List ℕ → List (List ℕ) → Result (List (List ℕ)) ScriptKind
fixed text [] = Err MissingWord
fixed text (w ∷ ws) = if bytes_eq w text then Ok ws else Err UnknownWord

abbrev pub one_of : (first second w : List ℕ) → List (List ℕ) → Got Bool
one_of first second w ws = if bytes_eq w first then Ok (true, ws) else (if bytes_eq w second then Ok (false, ws) else Err UnknownWord)

-- one of two words: whether it is the first
abbrev pub either : (first second : List ℕ) → List (List ℕ) → Got Bool
either first second [] = Err MissingWord
either first second (w ∷ ws) = one_of first second w ws

-- this value, where the line ends
abbrev pub ended : {A : Type 0} → A → List (List ℕ) → Result A ScriptKind
ended a [] = Ok a
ended a (w ∷ ws) = Err ExtraWord

-- at least one word of a form, to the end of the line
abbrev pub all_of : {A : Type 0} → (List ℕ → Option A) → List (List ℕ) → Result (List A) ScriptKind
all_of read [] = Ok []
all_of read (w ∷ ws) = do
  first ← or_bad (read w) ws
  rest ← all_of read ws
  Ok (first.0 ∷ rest)

abbrev pub some_of : {A : Type 0} → (List ℕ → Option A) → List (List ℕ) → Result (List A) ScriptKind
some_of read [] = Err MissingWord
some_of read (w ∷ ws) = all_of read (w ∷ ws)

-- A reader of words gave this, and left these words.
abbrev pub Reads : {A : Type 0} → Got A → Result A ScriptKind → List (List ℕ) → Type 0
Reads got (Ok a) rest = got ≡ Ok (a, rest)
Reads got (Err k) rest = got ≡ Err k

-- It gave this, or wanted memory.
abbrev pub ReadsUnless : {A : Type 0} → Got A → Result A ScriptKind → List (List ℕ) → Type 0
ReadsUnless got (Ok a) rest = got ≡ Ok (a, rest)
ReadsUnless got (Err k) rest = (k ≡ Memory) ⊎ (got ≡ Err k)

-- The answer is this, or want of memory.
abbrev pub IsUnless : {A : Type 0} → Result A ScriptKind → Result A ScriptKind → Type 0
IsUnless want (Ok a) = want ≡ Ok a
IsUnless want (Err k) = (k ≡ Memory) ⊎ (want ≡ Err k)

abbrev pub HasMore : List (List ℕ) → Type 0
HasMore [] = ⊥
HasMore (w ∷ ws) = Unit {0}

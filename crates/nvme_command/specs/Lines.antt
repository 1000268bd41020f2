use Rattle.std.specs.Prelude.{ℕ, ◌≡◌, if◌then◌else◌, List, [], ◌∷◌, codes, Option, Some, None, Result, Ok, Err}
use Rattle.std.specs.Str.{bytes_eq}
use Rattle.hex.specs.Hex.{decode_sized}
use Rattle.script_words.specs.Hexes.{byte_in, bytes_by, hex_in}
use Rattle.script_lines.specs.declared.kind.ScriptKind.{ScriptKind}
use Rattle.script_lines.specs.declared.kind.ScriptKind.TheVariants.{BadNumber, ExtraWord, MissingWord}
use Rattle.nvme_command.specs.declared.line.NvmLine.{NvmLine}

-- A line of an NVM command: SQE FILL META.

-- 128 hexadecimal digits
abbrev pub sqe_in : List ℕ → Option (List ℕ)
sqe_in word = bytes_by (decode_sized word 64)

-- a hyphen for no metadata, or bytes; a line has no room for more than 2,048
abbrev pub meta_in : List ℕ → Option (List ℕ)
meta_in word = if bytes_eq word (codes "-") then Some [] else hex_in 2048 word

-- a value with the words behind it, or a fault
pub record Got (A : Type 0) : Type 0 where
  pub value : A
  pub behind : List (List ℕ)

abbrev pub got : {A : Type 0} → Option A → List (List ℕ) → Result (Got A) ScriptKind
got None behind = Err BadNumber
got (Some a) behind = Ok (record { value = a; behind = behind })

abbrev pub sqe_word : List (List ℕ) → Result (Got (List ℕ)) ScriptKind
sqe_word [] = Err MissingWord
sqe_word (w ∷ ws) = got (sqe_in w) ws

abbrev pub fill_word : List (List ℕ) → Result (Got ℕ) ScriptKind
fill_word [] = Err MissingWord
fill_word (w ∷ ws) = got (byte_in w) ws

abbrev pub last : {A : Type 0} → Option A → List (List ℕ) → Result A ScriptKind
last None behind = Err BadNumber
last (Some a) [] = Ok a
last (Some a) (w ∷ ws) = Err ExtraWord

abbrev pub meta_word : List (List ℕ) → Result (List ℕ) ScriptKind
meta_word [] = Err MissingWord
meta_word (w ∷ ws) = last (meta_in w) ws

abbrev pub with_meta : (number : ℕ) → List ℕ → ℕ → Result (List ℕ) ScriptKind → Result NvmLine ScriptKind
with_meta number sqe fill (Err k) = Err k
with_meta number sqe fill (Ok meta) = Ok (record { number = number; sqe = sqe; fill = fill; meta = meta })

abbrev pub with_fill : (number : ℕ) → List ℕ → Result (Got ℕ) ScriptKind → Result NvmLine ScriptKind
with_fill number sqe (Err k) = Err k
with_fill number sqe (Ok g) = with_meta number sqe g.value (meta_word g.behind)

abbrev pub with_sqe : (number : ℕ) → Result (Got (List ℕ)) ScriptKind → Result NvmLine ScriptKind
with_sqe number (Err k) = Err k
with_sqe number (Ok g) = with_fill number g.value (fill_word g.behind)

-- what the words of a line with this number say, or the first fault from the left
abbrev pub line_form : (number : ℕ) → List (List ℕ) → Result NvmLine ScriptKind
line_form number words = with_sqe number (sqe_word words)

abbrev pub IsGot : {A : Type 0} → Result (Got A) ScriptKind → Result A ScriptKind → List (List ℕ) → Type 0
IsGot want (Ok a) behind = want ≡ Ok (record { value = a; behind = behind })
IsGot want (Err k) behind = want ≡ Err k

use Rattle.std.specs.Prelude.{ℕ, ◌≡◌, ◌+◌, ◌-◌, ◌<◌, eqb, if◌then◌else◌, List, [], ◌∷◌, length, drop, slice_index_or, All}
use Rattle.stack_ops.specs.declared.op.Op.{Op}
use Rattle.stack_ops.specs.declared.op.Op.TheVariants.{Write, Fetch, WritePi, FetchPi}
use Rattle.stack_ops.specs.declared.reply.BadBlock.{BadBlock}
use Rattle.stack_ops.specs.declared.reply.Reply.{Reply}
use Rattle.stack_ops.specs.declared.reply.Reply.TheVariants.{Silent, Whole, Bad, Shown, Medium}
use Rattle.script_text.specs.declared.script.Script.{Script}
use Rattle.run_words.specs.declared.guide.Guide.{Guide}
use Rattle.run_words.specs.declared.guide.OpSite.{OpSite}
use Rattle.volume_table.specs.Tables.{IsTable, Table}
use Rattle.volume_table.specs.Places.{volume_len}

-- Where the ops of a script stand in it, and which blocks they ask for.

-- the first virtual block of a request; of another op 0
abbrev pub first_block : Op → ℕ
first_block (Write v n body app) = v
first_block (Fetch v n body) = v
first_block (WritePi v n body tuples) = v
first_block (FetchPi v n body tuples) = v
first_block _ = 0

-- of each op the number of its line, and its first virtual block
abbrev pub sites_from : (lines : List ℕ) → List Op → List OpSite
sites_from [] ops = []
sites_from (line ∷ lines) [] = []
sites_from (line ∷ lines) (op ∷ ops) = record { line = line; first = first_block op } ∷ sites_from lines ops

-- the numbers of the lines of the ops stand behind those of the faults
abbrev pub sites_of : Script → List OpSite
sites_of script = sites_from (drop (length script.faults) script.lines) script.ops

abbrev pub no_site : OpSite
no_site = record { line = 0; first = 0 }

-- the op of this number, from 1
abbrev pub site_of : List OpSite → ℕ → OpSite
site_of sites number = if eqb number 0 then no_site else slice_index_or sites (number - 1) no_site

-- op i, from 0
abbrev pub site_at : List OpSite → (i : ℕ) → OpSite
site_at sites i = slice_index_or sites i no_site

-- The guide is that of this script.
pub record IsGuideOf (script : Script) (g : Guide) : Type 0 where
  pub sites : g.sites.items ≡ sites_of script
  pub entries : g.entries ≡ script.entries

-- The blocks that a reply lists lie in a volume of so many blocks.
abbrev pub IsInside : (first most : ℕ) → Reply → Type 0
IsInside first most Silent = Unit {0}
IsInside first most Whole = Unit {0}
IsInside first most (Bad blocks) = All (λ (b : BadBlock). first + b.k < most) blocks
IsInside first most (Shown bytes) = Unit {0}
IsInside first most Medium = Unit {0}

abbrev pub AreInside : (most : ℕ) → List OpSite → List Reply → Type 0
AreInside most [] replies = Unit {0}
AreInside most (s ∷ sites) [] = Unit {0}
AreInside most (s ∷ sites) (r ∷ replies) = IsInside s.first most r × AreInside most sites replies

-- The guide's entries are those of a volume, which has each block that these replies list.
pub record Guides (g : Guide) (replies : List Reply) : Type 0 where
  pub table : Table
  pub made : IsTable table
  pub entries : table.entries ≡ g.entries
  pub inside : AreInside (volume_len g.entries) g.sites.items replies

use Rattle.std.specs.Prelude.{ℕ, zero, suc, ◌+◌, List, [], ◌++◌, length, codes, decimal, Option, Some, None}
use Rattle.rig_api.specs.Log.{LogEntry}
use Rattle.script_text.specs.declared.script.Script.{Script}
use Rattle.stack_ops.specs.declared.reply.Reply.{Reply}
use Rattle.volume_table.specs.Places.{place_in}
use Rattle.volume_table.specs.declared.entry.Entry.{Entry as Extent}
use Rattle.run_words.specs.Lies.{Book, MovedBlock, all_moved, book_of, lie_at, request_in}
use Rattle.run_words.specs.Sites.{site_at}
use Rattle.run_words.specs.declared.guide.OpSite.{OpSite}
use Rattle.run_words.specs.declared.lies.Lie.{Lie}
use Rattle.run_words.specs.declared.lies.Lie.TheVariants.{Stale, Wrong}
use Rattle.run_words.specs.declared.unseen.Block.{Block}

-- The lines of blocks of reads that nobody lists and that aren't what was last accepted.

-- block k of op i, which is counted from 0 here
abbrev pub block_of : List OpSite → Book → (i k : ℕ) → Block
block_of sites b i k = record { number = i + 1; line = (site_at sites i).line; k = k; v = (request_in b.asked i).first + k }

-- its op's number, its place in the request, its line, its virtual block
abbrev pub front_words : Block → List ℕ
front_words x = codes "read " ++ (decimal x.number ++ (codes " " ++ (decimal x.k ++ (codes " line " ++ (decimal x.line ++ (codes " virtual " ++ decimal x.v))))))

-- the op whose data they are, or that no write brought them
abbrev pub lie_words : Lie → List ℕ
lie_words (Stale op) = codes " stale op " ++ decimal op
lie_words Wrong = codes " wrong"

abbrev pub unseen_words : Block → (place : ℕ × ℕ) → Lie → List ℕ
unseen_words x place lie = front_words x ++ (codes " dev " ++ (decimal place.0 ++ (codes " at " ++ (decimal place.1 ++ (lie_words lie ++ codes "\n")))))

abbrev pub unseen_line : List Extent → Block → Lie → List ℕ
unseen_line entries x lie = unseen_words x (place_in entries x.v) lie

abbrev pub line_by : List Extent → Block → Option Lie → List ℕ
line_by entries x None = []
line_by entries x (Some lie) = unseen_line entries x lie

abbrev pub one_by : Option Lie → ℕ
one_by None = 0
one_by (Some lie) = 1

-- how many they are
abbrev pub unseen_text : (unseen : ℕ) → List ℕ
unseen_text unseen = codes "unseen " ++ (decimal unseen ++ codes "\n")

module _ (sites : List OpSite) (entries : List Extent) (b : Book) (moved : List MovedBlock) (replies : List Reply) where
  abbrev pub block_line : (i k : ℕ) → List ℕ
  block_line i k = line_by entries (block_of sites b i k) (lie_at b moved replies i k)

  -- so many blocks of op i, from block k on
  abbrev pub block_lines : (i k n : ℕ) → List ℕ
  block_lines i k zero = []
  block_lines i k (suc n) = block_line i k ++ block_lines i (k + 1) n

  -- all blocks of so many ops, from op i on
  abbrev pub op_lines : (i n : ℕ) → List ℕ
  op_lines i zero = []
  op_lines i (suc n) = block_lines i 0 (request_in b.asked i).count ++ op_lines (i + 1) n

module _ (b : Book) (moved : List MovedBlock) (replies : List Reply) where
  -- how many of these have a line
  abbrev pub unseen_blocks : (i k n : ℕ) → ℕ
  unseen_blocks i k zero = 0
  unseen_blocks i k (suc n) = one_by (lie_at b moved replies i k) + unseen_blocks i (k + 1) n

  abbrev pub unseen_ops : (i n : ℕ) → ℕ
  unseen_ops i zero = 0
  unseen_ops i (suc n) = unseen_blocks i 0 (request_in b.asked i).count + unseen_ops (i + 1) n

  abbrev pub all_unseen : ℕ
  all_unseen = unseen_ops 0 (length b.asked)

-- a line for each, and how many they are
abbrev pub all_lines : List OpSite → List Extent → Book → List MovedBlock → List Reply → List ℕ
all_lines sites entries b moved replies = op_lines sites entries b moved replies 0 (length b.asked) ++ unseen_text (all_unseen b moved replies)

-- how many blocks of reads of a script's run nobody lists though they aren't what was last accepted
abbrev pub unseen_of : Script → (records : List LogEntry) → List Reply → ℕ
unseen_of script records replies = all_unseen (book_of script) (all_moved script.block records) replies

-- The lines of blocks that nobody lists, one after another.
use Rattle.std.proofs.Common.{ℕ, zero, suc, ◌≡◌, ◌+◌, ◌-◌, ◌^◌, ◌≤◌, ◌<◌, List, [], ◌∷◌, ◌++◌, length, drop, Option, Some, None, sym, ap, ◌∙◌, arith, add-one, sum_by}
use Rattle.report_text.specs.Report.{report}
use Rattle.rig_api.specs.Log.{LogEntry}
use Rattle.stack_ops.specs.declared.reply.Reply.{Reply}
use Rattle.volume_table.proofs.Sums.{few}
use Rattle.volume_table.specs.Entries.{entry_len}
use Rattle.volume_table.specs.Places.{volume_len}
use Rattle.volume_table.specs.Tables.{IsTable, Table}
use Rattle.volume_table.specs.declared.entry.Entry.{Entry as Extent}
use Rattle.run_words.specs.Lies.{Book, MovedBlock, all_moved, lie_at, request_in}
use Rattle.run_words.specs.Ledgers.{IsLaidOut, LieInside}
use Rattle.run_words.specs.Texts.{explained_by, words_text}
use Rattle.run_words.specs.Unseen.{all_lines, all_unseen, block_line, block_lines, one_by, op_lines, unseen_blocks, unseen_ops}
use Rattle.run_words.specs.declared.asked.Asked.{Asked}
use Rattle.run_words.specs.declared.guide.OpSite.{OpSite}
use Rattle.run_words.specs.declared.ledger.Ledger.{Ledger}
use Rattle.run_words.specs.declared.lies.Lie.{Lie}
use Rattle.run_words.proofs.Spots.{ends_next, ends_of, ends_within}

pub lies_inside : (most i k : ℕ) (asked : List Asked) → LieInside most asked → k < (request_in asked i).count → (request_in asked i).first + k < most
lies_inside most i k [] h lt = absurd (omega (arith, lt))
lies_inside most zero k (a ∷ asked) h lt = let inside = h.0 in omega (arith, inside, lt)
lies_inside most (suc i) k (a ∷ asked) h lt = lies_inside most i k asked h.1 lt

pub fits_volume : (entries : List Extent) (v : ℕ) → (t : Table) × (t.entries ≡ entries) × IsTable t → v < volume_len entries → v < 2 ^ 64
fits_volume entries v t inside =
    let most = few t.0.entries t.2.made.ranges in
    let count = t.2.made.count in
    let same = ap (sum_by entry_len) t.1 in
    omega (arith, most, count, same, inside)

pub one_at_most : (o : Option Lie) → one_by o ≤ 1
one_at_most None = omega arith
one_at_most (Some lie) = omega arith

left_one : (n k : ℕ) → k < n → n - k ≡ suc (n - (k + 1))
left_one n k lt = omega (arith, lt)

module _ (sites : List OpSite) (entries : List Extent) (b : Book) (moved : List MovedBlock) (replies : List Reply) where
  pub next_block : (i k n : ℕ) → k < n → block_lines sites entries b moved replies i k (n - k) ≡ block_line sites entries b moved replies i k ++ block_lines sites entries b moved replies i (k + 1) (n - (k + 1))
  next_block i k n lt = ap (block_lines sites entries b moved replies i k) (left_one n k lt)

  pub no_block : (i k n : ℕ) → n ≤ k → block_lines sites entries b moved replies i k (n - k) ≡ []
  no_block i k n h = let none : n - k ≡ 0 = omega (arith, h) in ap (block_lines sites entries b moved replies i k) none

  pub next_op : (i n : ℕ) → i < n → op_lines sites entries b moved replies i (n - i) ≡ block_lines sites entries b moved replies i 0 (request_in b.asked i).count ++ op_lines sites entries b moved replies (i + 1) (n - (i + 1))
  next_op i n lt = ap (op_lines sites entries b moved replies i) (left_one n i lt)

  pub no_op : (i n : ℕ) → n ≤ i → op_lines sites entries b moved replies i (n - i) ≡ []
  no_op i n h = let none : n - i ≡ 0 = omega (arith, h) in ap (op_lines sites entries b moved replies i) none

module _ (b : Book) (moved : List MovedBlock) (replies : List Reply) where
  pub next_one : (i k n : ℕ) → k < n → unseen_blocks b moved replies i k (n - k) ≡ one_by (lie_at b moved replies i k) + unseen_blocks b moved replies i (k + 1) (n - (k + 1))
  next_one i k n lt = ap (unseen_blocks b moved replies i k) (left_one n k lt)

  pub none_more : (i k n : ℕ) → n ≤ k → unseen_blocks b moved replies i k (n - k) ≡ 0
  none_more i k n h = let none : n - k ≡ 0 = omega (arith, h) in ap (unseen_blocks b moved replies i k) none

  pub next_many : (i n : ℕ) → i < n → unseen_ops b moved replies i (n - i) ≡ unseen_blocks b moved replies i 0 (request_in b.asked i).count + unseen_ops b moved replies (i + 1) (n - (i + 1))
  next_many i n lt = ap (unseen_ops b moved replies i) (left_one n i lt)

  pub none_left : (i n : ℕ) → n ≤ i → unseen_ops b moved replies i (n - i) ≡ 0
  none_left i n h = let none : n - i ≡ 0 = omega (arith, h) in ap (unseen_ops b moved replies i) none

pub few_more : (l : Ledger) (i unseen more : ℕ) → IsLaidOut l → unseen ≤ ends_of l.asked.items i → more ≤ (request_in l.asked.items i).count → unseen + more ≤ ends_of l.asked.items (i + 1)
few_more l i unseen more laid a b = let next = ends_next i l.asked.items ∙ ap (ends_of l.asked.items) (sym (add-one i)) in omega (arith, next, a, b)

pub few_all : (l : Ledger) (i : ℕ) → IsLaidOut l → ends_of l.asked.items i ≤ 16384
few_all l i laid = let all = ends_within i 0 l.asked.items (length l.spots.items) laid.turn in let most = laid.blocks in omega (arith, all, most)

-- ---- all of it

pub same_text : (sites : List OpSite) (entries : List Extent) (b : Book) (log : List LogEntry) (n first : ℕ) (r items : List Reply) → n ≡ first → r ≡ items
    → report r ++ (words_text sites entries (drop first log) r ++ all_lines sites entries b (all_moved b.size (drop n log)) r) ≡ explained_by sites entries b (drop first log) items
same_text sites entries b log n first r items e f =
    ap (λ k. report r ++ (words_text sites entries (drop first log) r ++ all_lines sites entries b (all_moved b.size (drop k log)) r)) e ∙ ap (λ x. explained_by sites entries b (drop first log) x) f

pub same_number : (b : Book) (log : List LogEntry) (n first : ℕ) (r items : List Reply) → n ≡ first → r ≡ items → all_unseen b (all_moved b.size (drop n log)) r ≡ all_unseen b (all_moved b.size (drop first log)) items
same_number b log n first r items e f = ap (λ k. all_unseen b (all_moved b.size (drop k log)) r) e ∙ ap (λ x. all_unseen b (all_moved b.size (drop first log)) x) f

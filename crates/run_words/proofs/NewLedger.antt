-- The ledger of a script, before any record is noted.
use Rattle.std.proofs.Common.{ℕ, suc, ◌≡◌, ◌⊎◌, inl, inr, ◌+◌, ◌≤◌, ◌<◌, List, [], ◌∷◌, length, replicate, get_or, None, refl, sym, ap, subst, ◌∙◌, arith}
use Rattle.std.proofs.lemmas.List.{get_or-replicate}
use Rattle.std.proofs.lemmas.List.{length-replicate}
use Rattle.bio_core.specs.declared.TheConstants.{MOST_BLOCKS}
use Rattle.rig_api.specs.Log.{LogEntry}
use Rattle.rig_api.specs.declared.change.Change.TheVariants.{Flip, Copy}
use Rattle.run_command.specs.Working.{IsSound}
use Rattle.script_laws.specs.Keeping.{blocks_of}
use Rattle.script_laws.specs.Lines.{line_of}
use Rattle.script_text.specs.Rules.{request_blocks}
use Rattle.script_text.specs.declared.script.Script.{Script}
use Rattle.stack_ops.specs.declared.op.Op.{Op}
use Rattle.stack_ops.specs.declared.op.Op.TheVariants.{Fetch, FetchPi, Fill, Overwrite, Put, Seal, Show, Wait, Write, WritePi}
use Rattle.run_words.specs.Lies.{asked_from, asked_one, request_in}
use Rattle.run_words.specs.Ledgers.{IsLaidOut, IsNew, IsSpotOf, Knows, StandInTurn, blocks_asked_for}
use Rattle.run_words.specs.declared.ledger.Ledger.{Ledger}
use Rattle.run_words.proofs.Spots.{within}

asks_so : (op : Op) → (asked_one 0 op).count ≡ request_blocks (line_of op)
asks_so (Fill seg byte) = refl
asks_so (Put page off bytes) = refl
asks_so (Show seg) = refl
asks_so (Seal n body tuples app rtag) = refl
asks_so (Write v n body app) = refl
asks_so (Fetch v n body) = refl
asks_so (WritePi v n body tuples) = refl
asks_so (FetchPi v n body tuples) = refl
asks_so (Overwrite dev lba (Flip off bytes)) = refl
asks_so (Overwrite dev lba (Copy from at)) = refl
asks_so Wait = refl

same_blocks : (ops : List Op) → blocks_asked_for ops ≡ blocks_of ops
same_blocks [] = refl
same_blocks (op ∷ ops) = ap (λ n. n + blocks_asked_for ops) (asks_so op) ∙ ap (λ n. request_blocks (line_of op) + n) (same_blocks ops)

pub few_blocks : (script : Script) (ops : List Op) → ops ≡ script.ops → IsSound script → blocks_asked_for ops ≤ MOST_BLOCKS
few_blocks script ops e s = let same = same_blocks ops ∙ ap blocks_of e in let most = s.keeps.blocks_count in omega (arith, same, most)

same_count : (s : ℕ) (op : Op) → (asked_one s op).count ≡ (asked_one 0 op).count
same_count s (Fill seg byte) = refl
same_count s (Put page off bytes) = refl
same_count s (Show seg) = refl
same_count s (Seal n body tuples app rtag) = refl
same_count s (Write v n body app) = refl
same_count s (Fetch v n body) = refl
same_count s (WritePi v n body tuples) = refl
same_count s (FetchPi v n body tuples) = refl
same_count s (Overwrite dev lba change) = refl
same_count s Wait = refl

same_start : (s : ℕ) (op : Op) → (asked_one s op).start ≡ s
same_start s (Fill seg byte) = refl
same_start s (Put page off bytes) = refl
same_start s (Show seg) = refl
same_start s (Seal n body tuples app rtag) = refl
same_start s (Write v n body app) = refl
same_start s (Fetch v n body) = refl
same_start s (WritePi v n body tuples) = refl
same_start s (FetchPi v n body tuples) = refl
same_start s (Overwrite dev lba change) = refl
same_start s Wait = refl

stand : (s end : ℕ) (ops : List Op) → s + blocks_asked_for ops ≡ end → StandInTurn s (asked_from s ops) end
stand s end [] e = omega (arith, e)
stand s end (op ∷ ops) e = let n = same_count s op in (same_start s op, stand (s + (asked_one s op).count) end ops (omega (arith, n, e)))

long : (s : ℕ) (ops : List Op) → length (asked_from s ops) ≡ length ops
long s [] = refl
long s (op ∷ ops) = ap suc (long (s + (asked_one s op).count) ops)

small : (size : ℕ) → (size ≡ 512) ⊎ (size ≡ 4096) → size ≤ 4096
small size (inl e) = omega (arith, e)
small size (inr e) = omega (arith, e)

module _ (script : Script) (l : Ledger) (s : IsSound script) (asked : l.asked.items ≡ asked_from 0 script.ops) (faults : l.tamper ≡ script.faults) (size : l.size ≡ script.block) (spots : l.spots.items ≡ replicate (blocks_asked_for script.ops) None) where
  places : length l.spots.items ≡ blocks_asked_for script.ops
  places = ap length spots ∙ length-replicate (blocks_asked_for script.ops) None

  turn : StandInTurn 0 l.asked.items (length l.spots.items)
  turn = subst (λ x. StandInTurn 0 x (length l.spots.items)) (sym asked) (stand 0 (length l.spots.items) script.ops (omega (arith, places)))

  laid : IsLaidOut l
  laid = record {
    size = let n = small script.block s.keeps.block_is in omega (arith, n, size);
    few = let n = s.keeps.ops_count in let e = ap length asked ∙ long 0 script.ops in omega (arith, n, e);
    turn = turn;
    blocks = let n = few_blocks script script.ops refl s in omega (arith, n, places);
  }

  empty : (p : ℕ) → p < length l.spots.items → get_or l.spots.items p None ≡ None
  empty p lt = ap (λ x. get_or x p None) spots ∙ get_or-replicate (blocks_asked_for script.ops) p None None (omega (arith, lt, places))

  knows : (log : List LogEntry) → Knows l.size l.asked.items log l.spots.items []
  knows log = λ i k lt. subst (λ x. IsSpotOf l.size log x None) (sym (empty ((request_in l.asked.items i).start + k) (within i k 0 l.asked.items (length l.spots.items) turn lt))) tt

  pub new_ledger : IsNew script l
  new_ledger = record {
    laid = laid;
    book = ap (λ x. record { asked = x; faults = l.tamper; size = l.size }) asked ∙ ap (λ x. record { asked = asked_from 0 script.ops; faults = x; size = l.size }) faults ∙ ap (λ x. record { asked = asked_from 0 script.ops; faults = script.faults; size = x }) size;
    knows = knows;
  }

-- A script's own schedule is nothing to its run by given words.
use Rattle.std.proofs.Common.{ℕ, List}
use Rattle.rig_api.specs.Log.{LogEntry}
use Rattle.script_text.specs.Passed.{Reply}
use Rattle.volume_table.specs.Tables.{Table}
use Rattle.script_text.specs.declared.script.Script.{Script}
use Rattle.script_stack.specs.Sends.{SendsFor, by_words}

-- by its own schedule
pub sends_own : (s : Script) (words : List (ℕ × ℕ)) (t : Table) (log : List LogEntry) (replies : List Reply) → SendsFor (by_words (by_words s words) s.schedule) t log replies → SendsFor s t log replies
sends_own s words t log replies h = record {
  plan = h.plan;
  is_plan = record { is = h.is_plan.is; queues = h.is_plan.queues };
  few = h.few;
  formed = h.formed;
  of_requests = h.of_requests;
  came = h.came;
  sent = h.sent;
  pieces = h.pieces;
}

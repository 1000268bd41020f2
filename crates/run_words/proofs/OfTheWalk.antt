-- The data that are judged are those of the walk that takes the log.
use Rattle.std.proofs.Common.{ℕ, suc, ◌≡◌, ◌≤◌, true, false, cond, List, length, take, Some, None, ap, ◌∙◌}
use Rattle.bio_core.specs.declared.request.Dir.TheVariants.{Read as In}
use Rattle.fault_schedule.specs.Altered.{altered}
use Rattle.fault_schedule.specs.declared.fault.Crossing.{Crossing}
use Rattle.fault_schedule.specs.declared.fault.Crossing.TheVariants.{AdapterToHost, HostToAdapter}
use Rattle.rig_api.specs.Frames.{data_of}
use Rattle.rig_api.specs.Log.{LogEntry}
use Rattle.stack_ops.specs.declared.reply.Reply.{Reply}
use Rattle.walk_laws.specs.Settings.{Setting, block_of, route}
use Rattle.run_laws.specs.Records.{Moved, NoTwo, entry_for, recorded}
use Rattle.run_laws.specs.TakenWalk.{carried_of, landed_of}
use Rattle.run_words.specs.Judged.{IsOfTheWalk, book_for, frame_in}
use Rattle.run_words.specs.Lies.{all_moved, data_at, frame_for, is_listed, is_way, label_of, landed, request_in, unless_listed}
use Rattle.run_words.specs.Lies.{data_of as judged_data}
use Rattle.run_words.specs.declared.asked.Asked.{Asked}
use Rattle.run_words.proofs.AtHost.{at_host}
use Rattle.run_words.proofs.Entries.{of_its_entry}

module _ (m : Setting) (asked : List Asked) (log : List LogEntry) (replies : List Reply) (i k v : ℕ) (once : NoTwo (recorded m log)) where
  -- of a block that isn't listed
  its_data : (at : Crossing) → is_listed replies i k ≡ false → (x : Moved) → entry_for (recorded m log) (label_of i k) ≡ Some x → judged_data (book_for m asked) (all_moved m.size log) replies at i k ≡ Some (altered m.site.faults at (label_of i k) (take m.size x.frame))
  its_data at l x e =
      ap (λ t. unless_listed (data_at (book_for m asked) at (label_of i k) (frame_for (label_of i k) (all_moved m.size log))) t) l
      ∙ ap (data_at (book_for m asked) at (label_of i k)) (of_its_entry m log i k once ∙ ap frame_in e)

  read_is : is_way In (request_in asked i).way ≡ true → is_listed replies i k ≡ false → (x : Moved) → entry_for (recorded m log) (label_of i k) ≡ Some x → m.size ≤ length x.frame
      → landed (book_for m asked) (all_moved m.size log) replies i k ≡ Some (data_of m.size (landed_of m.site.faults (route m (block_of (suc i) v k)) x.frame))
  read_is w l x e long =
      ap (λ t. cond t (judged_data (book_for m asked) (all_moved m.size log) replies AdapterToHost i k) None) w ∙ its_data AdapterToHost l x e
      ∙ ap (λ d. Some d) (at_host m.site.faults (route m (block_of (suc i) v k)) x.frame long).landed

  write_is : is_listed replies i k ≡ false → (x : Moved) (own : List ℕ) → entry_for (recorded m log) (label_of i k) ≡ Some x → x.frame ≡ carried_of m.site.faults (route m (block_of (suc i) v k)) own → m.size ≤ length own
      → judged_data (book_for m asked) (all_moved m.size log) replies HostToAdapter i k ≡ Some (data_of m.size own)
  write_is l x own e f long =
      its_data HostToAdapter l x e ∙ ap (λ y. Some (altered m.site.faults HostToAdapter (label_of i k) (take m.size y))) f ∙ ap (λ d. Some d) (at_host m.site.faults (route m (block_of (suc i) v k)) own long).brought

  pub of_the_walk : IsOfTheWalk m asked log replies i k v
  of_the_walk = record { landed_is = read_is; brought_is = write_is }

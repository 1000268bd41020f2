-- What the adapter's command puts on record is its unit's answer.
use Rattle.std.proofs.Common.{◌≡◌, ℕ, ◌*◌, if◌then◌else◌, List, [], ◌∷◌, ◌++◌, length, map, drop, get_or, sym, ap, ◌∙◌}
use Rattle.std.proofs.Math.Seq.{drop-append_seam}
use Rattle.bio_core.specs.declared.bio.Bio.{Bio}
use Rattle.cdb_codec.specs.Forms.{Fits, form}
use Rattle.cdb_codec.specs.declared.choice.Dir2.{Dir2}
use Rattle.cdb_codec.specs.declared.choice.Dir2.TheVariants.{In, Out}
use Rattle.rig_api.specs.Log.{LogEntry, entry_of, no_entry}
use Rattle.rig_api.specs.Telling.{spec_at}
use Rattle.dix_adapter.specs.declared.adapter.Adapter.{Adapter}
use Rattle.dix_adapter.specs.Carried.{command_of, out_of as sent_by, way_of}
use Rattle.dix_adapter.specs.Groups.{blocks_in, first_of, label_of, size}
use Rattle.dix_adapter.proofs.Asking.{asked-for, fields_of, request_by}
use Rattle.dix_adapter.proofs.Landing.{group-width}
use Rattle.dix_adapter.proofs.Runs.{width_for}
use Rattle.vector_lines.specs.Printed.{is_sender, is_write, out_of, sends as goes}
use Rattle.vector_runs.specs.Done.{room_of}
use Rattle.stack_core.proofs.Answering.{all_wide, decodes, room_as}
use Rattle.lab_laws.specs.Again.{ReadAnswers, WriteAnswers}
use Rattle.lab_laws.proofs.Exchange.{exchange_answers}
use Rattle.lab_laws.proofs.Group.{command_passes}

-- the group's command, as its unit decodes it
module _ (a : Adapter) (req : List Bio) (dir : Dir2) (way : way_of (first_of req).dir ≡ dir) (fits : Fits (command_of a req)) where
  abbrev cdb : List ℕ
  cdb = form (command_of a req)

  writes_as : is_write (form (command_of a req)) ≡ goes (request_by dir (fields_of a (first_of req).lba (size req)))
  writes_as = ap is_sender (decodes a req dir way fits) ∙ ap goes (asked-for a dir (first_of req).lba (size req))

same_last : (log : List LogEntry) (one other : LogEntry) → log ++ (one ∷ []) ≡ log ++ (other ∷ []) → one ≡ other
same_last log one other e = ap (λ xs. get_or xs 0 no_entry) (sym (drop-append_seam log (one ∷ [])) ∙ ap (drop (length log)) e ∙ drop-append_seam log (other ∷ []))

pub write_answers : WriteAnswers
write_answers a ios req pool pool' us fates old new h dir good x w =
    let dev = (first_of req).dev in
    let k = (spec_at old.standing dev).size in
    let cdb = form (command_of a req) in
    let labels = map label_of (blocks_in req) in
    let out = sent_by a ios req pool in
    let way : way_of (first_of req).dir ≡ Out = ap way_of dir in
    let e = entry_of k dev cdb labels x.outcome out [] in
    let same : w.entry ≡ e = same_last old.log w.entry e (sym w.recorded ∙ x.exchanged.recorded) in
    let moved : e.moved ≡ out = ap (λ (y : LogEntry). y.moved) (sym same) ∙ (command_passes a ios req pool k us fates old new h.faults h.mask h.group good w).1 in
    let all : out_of cdb e.moved ≡ out = ap (λ b. if b then e.moved else []) (writes_as a req Out way x.fits) ∙ moved in
    (e, exchange_answers old new dev cdb labels out [] [] x.outcome us x.exchanged h.units h.armed h.calm h.stored h.size (sym (room_as a req Out way x.fits k)) all)

pub read_answers : ReadAnswers
read_answers a ios req pool pool' us fates old new h dir x =
    let dev = (first_of req).dev in
    let k = (spec_at old.standing dev).size in
    let n = size req in
    let cdb = form (command_of a req) in
    let labels = map label_of (blocks_in req) in
    let way : way_of (first_of req).dir ≡ In = ap way_of dir in
    let e = entry_of k dev cdb labels x.outcome [] x.came in
    let room : room_of k cdb ≡ n * width_for a k = room_as a req In way x.fits k ∙ all_wide a k (first_of req).lba n h.protect in
    let all : out_of cdb e.moved ≡ [] = ap (λ b. if b then e.moved else []) (writes_as a req In way x.fits) in
    (e, exchange_answers old new dev cdb labels [] x.before x.came x.outcome us x.exchanged h.units h.armed h.calm h.stored h.size (x.room ∙ ap (λ m. n * m) (group-width a pool k ios req h.group) ∙ sym room) all)

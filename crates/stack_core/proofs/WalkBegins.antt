-- A new stack follows the walk of its script.
use Rattle.std.proofs.Common.{◌≡◌, ◌<◌, ℕ, zero, suc, false, true, List, [], ◌∷◌, length, drop, get_or, map, Some, refl, sym, ap, subst, ◌∙◌, arith}
use Rattle.std.proofs.lemmas.Bool.{false≢true}
use Rattle.std.proofs.lemmas.List.{drop_all, get_or_past, length-map}
use Rattle.page_pool.specs.Pages.{AreWhole}
use Rattle.range_gate.specs.Gates.{has_ended, is_waiting}
use Rattle.rig_api.specs.Log.{LogEntry}
use Rattle.fault_schedule.specs.declared.fault.FaultLine.{FaultLine}
use Rattle.rig_api.specs.Target.{Stored}
use Rattle.dix_adapter.specs.Ways.{blocks_told, site_of}
use Rattle.rig_api.specs.Telling.{Standing, specs_of}
use Rattle.stack_laws.specs.Plan.{PlannedOp, request_at}
use Rattle.stack_laws.specs.View.{is_admitted, no_op, op_at, start, waiting}
use Rattle.stack_steps.specs.Does.{Holds}
use Rattle.block_path.specs.Acts.{State}
use Rattle.stack_walk_laws.specs.Passed.{recorded, told, Setting}
use Rattle.stack_walk_laws.specs.Finished.{FramesFit}
use Rattle.stack_walk_laws.specs.Slots.{Waits}
use Rattle.stack_walk_laws.specs.Statuses.{fate_in}
use Rattle.stack_walk_laws.specs.Units.{AreAtUnits}
use Rattle.stack_walk_laws.proofs.WalksStanding.{waits}
use Rattle.stack_walk_laws.specs.Flips.{no_flips}
use Rattle.stack_core.specs.Courses.{Course, Falling, Straight}
use Rattle.stack_core.specs.declared.stack.Stack.{Stack}
use Rattle.stack_core.specs.Rooms.{Suits}
use Rattle.stack_walk_laws.specs.Sheets.{op_in, request_in}
use Rattle.stack_core.specs.Stacks.{IsStack, plan_in, room_at}
use Rattle.stack_core.proofs.Courses.{FlipsNone, begins_by}
use Rattle.stack_core.specs.Walking.{IsOver, Opens, SizesFit, Walks, WalksAtTarget, WalksBy, WalksFalling, WalksOver, WalksTold, data_of, shown_in, status_of, why_in}

start_waits : (rs : List PlannedOp) (i : ℕ) → i < length rs → is_waiting (get_or (map waiting rs) i no_op).phase ≡ true
start_waits [] i l = absurd (omega arith)
start_waits (r ∷ rs) zero l = refl
start_waits (r ∷ rs) (suc i) l = start_waits rs i (omega arith)

start_not_ended : (rs : List PlannedOp) (i : ℕ) → i < length rs → has_ended (get_or (map waiting rs) i no_op).phase ≡ false
start_not_ended [] i l = absurd (omega arith)
start_not_ended (r ∷ rs) zero l = refl
start_not_ended (r ∷ rs) (suc i) l = start_not_ended rs i (omega arith)

start_not_admitted : (rs : List PlannedOp) (i : ℕ) → is_admitted (get_or (map waiting rs) i no_op).phase ≡ false
start_not_admitted [] i = ap (λ o. is_admitted o.phase) (get_or_past (map waiting []) i no_op (omega arith))
start_not_admitted (r ∷ rs) zero = refl
start_not_admitted (r ∷ rs) (suc i) = start_not_admitted rs i

-- over whatever is behind the adapter, with nothing on record
pub over_begins : (course : Course) → FlipsNone course → (over : Setting) (n : ℕ) (opening : State) (s : Stack) → IsStack s → Holds (plan_in s.sheet) s.machine (start (plan_in s.sheet)) → AreWhole s.pool → ((i : ℕ) → i < length s.sheet.ops → Suits (op_in s.sheet.ops i) (room_at s.rooms.items i)) →
    Opens opening s → WalksBy course over n opening [] opening.blocks s
over_begins course none over n opening s k h whole suits o =
    let p = plan_in s.sheet in
    let ops = s.sheet.ops in
    let f = k.fixed.ops in
    let lm = length-map s.sheet.ios.items request_in in
    let statuses : (j l : ℕ) → j < length ops → status_of p (data_of s) (start p) (suc j) l ≡ Waits
    = λ j l b. waits (request_at p j).count (op_at (start p) j) (shown_in (data_of s).replies j l) (why_in (data_of s).starts (data_of s).held j l) (fate_in j l []) l (start_waits p.requests j (omega arith)) in
    record {
      view = start p;
      holds = h;
      now = opening;
      follow = record {
        bytes = o.bytes;
        whole = whole;
        follows = begins_by course none over n ops opening (status_of p (data_of s) (start p)) statuses o.logs;
        begun = λ i e. absurd (false≢true (sym (start_not_admitted p.requests i) ∙ e));
        replied = λ i l e. absurd (false≢true (sym (start_not_ended p.requests i (omega arith)) ∙ e));
        failed = λ i l e. absurd (false≢true (sym (start_not_ended p.requests i (omega arith)) ∙ e));
        suited = λ i l e. suits i l;
      };
      none_before = λ i j e. refl;
      blocks = refl;
    }

none_recorded : (m : Setting) (log : List LogEntry) → recorded m (drop (length log) log) ≡ []
none_recorded m log = ap (recorded m) (drop_all (length log) log (omega arith))

-- over any rig
pub walk_begins : (m : Setting) (n : ℕ) (opening : State) (s : Stack) (st : Standing) (log : List LogEntry) → IsStack s → Holds (plan_in s.sheet) s.machine (start (plan_in s.sheet)) → AreWhole s.pool → ((i : ℕ) → i < length s.sheet.ops → Suits (op_in s.sheet.ops i) (room_at s.rooms.items i)) →
    Opens opening s → IsOver m n opening s.sheet s.adapter s.host → SizesFit m st → Walks m n opening (length log) s st log
walk_begins m n opening s st log k h whole suits o over sizes = record {
  over = over;
  sizes = sizes;
  recorded_from = omega arith;
  fit = subst (FramesFit m) (sym (none_recorded m log)) (λ b. tt);
  left = opening.blocks;
  walks = subst (λ es. WalksOver (told m es) n opening es opening.blocks s) (sym (none_recorded m log)) (over_begins Straight tt (told m []) n opening s k h whole suits o);
}

-- over a rig that tells its blocks
at_target_begins : (course : Course) → FlipsNone course → (m : Setting) (n : ℕ) (opening : State) (s : Stack) (us : List Stored) (armed : List FaultLine) (st : Standing) (log : List LogEntry) → IsStack s → Holds (plan_in s.sheet) s.machine (start (plan_in s.sheet)) → AreWhole s.pool → ((i : ℕ) → i < length s.sheet.ops → Suits (op_in s.sheet.ops i) (room_at s.rooms.items i)) →
    Opens opening s → IsOver m n opening s.sheet s.adapter s.host → SizesFit m st → m.site ≡ site_of s.adapter (specs_of st) → AreAtUnits m (specs_of st) s.sheet.ops → armed ≡ s.adapter.tamper → opening.blocks ≡ blocks_told us →
    WalksAtTarget course m n opening (length log) s (Some us) armed st log
at_target_begins course none m n opening s us armed st log k h whole suits o over sizes site behind armed_are blocks = record {
  over = over;
  sizes = sizes;
  site = site;
  behind = behind;
  armed_are = armed_are;
  recorded_from = omega arith;
  us = us;
  told_are = refl;
  walks = subst (λ es. WalksBy course m n opening es (blocks_told us) s) (sym (none_recorded m log)) (subst (λ x. WalksBy course m n opening [] x s) blocks (over_begins course none m n opening s k h whole suits o));
}

pub falling_begins : (m : Setting) (n : ℕ) (opening : State) (s : Stack) (us : List Stored) (armed : List FaultLine) (st : Standing) (log : List LogEntry) → IsStack s → Holds (plan_in s.sheet) s.machine (start (plan_in s.sheet)) → AreWhole s.pool → ((i : ℕ) → i < length s.sheet.ops → Suits (op_in s.sheet.ops i) (room_at s.rooms.items i)) →
    Opens opening s → IsOver m n opening s.sheet s.adapter s.host → SizesFit m st → m.site ≡ site_of s.adapter (specs_of st) → AreAtUnits m (specs_of st) s.sheet.ops → armed ≡ s.adapter.tamper → opening.blocks ≡ blocks_told us →
    WalksFalling m n opening (length log) s (Some us) armed st log
falling_begins m n opening s us armed st log k h whole suits o over sizes site behind armed_are blocks = (no_flips, at_target_begins (Falling no_flips) (λ i. refl) m n opening s us armed st log k h whole suits o over sizes site behind armed_are blocks)

pub told_begins : (m : Setting) (n : ℕ) (opening : State) (s : Stack) (us : List Stored) (armed : List FaultLine) (st : Standing) (log : List LogEntry) → IsStack s → Holds (plan_in s.sheet) s.machine (start (plan_in s.sheet)) → AreWhole s.pool → ((i : ℕ) → i < length s.sheet.ops → Suits (op_in s.sheet.ops i) (room_at s.rooms.items i)) →
    Opens opening s → IsOver m n opening s.sheet s.adapter s.host → SizesFit m st → m.site ≡ site_of s.adapter (specs_of st) → AreAtUnits m (specs_of st) s.sheet.ops → armed ≡ s.adapter.tamper → opening.blocks ≡ blocks_told us →
    WalksTold m n opening (length log) s (Some us) armed st log
told_begins m n opening s us armed st log k h whole suits o over sizes site behind armed_are blocks = at_target_begins Straight tt m n opening s us armed st log k h whole suits o over sizes site behind armed_are blocks

-- What a walk's replies list where a target is behind the adapter: what a layer found, where no overwrite and no store call fails; else that, or the medium.
use Rattle.std.proofs.Common.{◌≡◌, ℕ, zero, suc, false, true, get_or, List, [], ◌∷◌, map, Option, Some, None, refl, sym, ap, subst, arith}
use Rattle.std.specs.Prelude.{Bool, ◌+◌, not, ◌&&◌, ◌||◌, if◌then◌else◌, All, Result, Ok, Err}
use Rattle.std.specs.List.{list_any}
use Rattle.std.proofs.lemmas.Bool.{false≢true, or_parts}
use Rattle.std.proofs.lemmas.List.Elements.{All-cons, All-head, All-tail}
use Rattle.pi_tuple.specs.declared.checks.Check.{Check}
use Rattle.fault_schedule.specs.Altered.{fails_of}
use Rattle.fault_schedule.specs.declared.Label.{Label}
use Rattle.fault_schedule.specs.declared.fault.FaultLine.{FaultLine}
use Rattle.integrity_payload.specs.declared.payload.Owner.{Owner}
use Rattle.integrity_payload.specs.declared.payload.Owner.TheVariants.{Block as OfBlock, App as OfApp}
use Rattle.bio_core.specs.declared.fate.Why.{Why}
use Rattle.bio_core.specs.declared.fate.Why.TheVariants.{Adapter, App, Block as ByOwner, Medium, Refused, Short, Target}
use Rattle.rig_api.specs.Passing.{from_medium, to_medium}
use Rattle.block_path.specs.declared.route.Route.{Route}
use Rattle.block_path.specs.Acts.{Act, Effect, State, act, effect, tell}
use Rattle.block_path.specs.Blocks.{ActAnswer, read_by, written_by}
use Rattle.block_path.specs.Routes.{Device, by_target, passage, sends_unless, stores_unless, target}
use Rattle.block_path.specs.Senses.{is_medium_why}
use Rattle.block_path.specs.Serial.{plain, plain_tells}
use Rattle.block_path.specs.WayIn.{Delivers, Spoils, Stops, WayIn, at_host, delivered_unless, from_device, from_wire, mapped_back, owner_finds, verified, way_in}
use Rattle.block_path.specs.WayOut.{Fails, Refuses, Stores, WayOut, at_device, from_adapter, mapped_out, to_wire, way_out}
use Rattle.stack_ops.specs.declared.op.Op.{Op}
use Rattle.stack_ops.specs.declared.op.Op.TheVariants.{Fetch, FetchPi, Fill, Overwrite, Put, Seal, Show, Wait, Write, WritePi}
use Rattle.stack_ops.specs.declared.reply.BadBlock.{BadBlock}
use Rattle.stack_ops.specs.declared.reply.Reply.{Reply}
use Rattle.stack_ops.specs.declared.reply.Reply.TheVariants.{Bad, Medium as MediumReply, Shown, Silent, Whole}
use Rattle.stack_core.specs.Mediums.{listed_unscheduled, one_reply, unscheduled_from}
use Rattle.stack_core.specs.OnRecord.{bad_blocks}
use Rattle.stack_ops.specs.Ops.{is_overwrite}
use Rattle.stack_core.specs.Walking.{is_medium}
use Rattle.walk_laws.specs.ScriptWalk.{act_of, acts_of, bad_from, replies_from, reply_of, script_replies, shown_reply, whole_or_bad}
use Rattle.walk_laws.specs.Settings.{Block, Setting, block_of, route}
use Rattle.walk_laws.specs.Steps.{Alters, Reads, Seals, Sets, Shows, Step, Writes, WritesPi, body_of, each_from, frame_at, steps_of}
use Rattle.run_laws.specs.FallingReads.{falling_replies}
use Rattle.run_laws.specs.StoreFaults.{failing, fallen, falling_walk, left_by, may_fall, or_fallen, over_failing}
use Rattle.run_command.specs.Layers.{AllNamed, NamesFaults, NamesThose, is_fault, is_finding, is_named}

-- Findings of the host's layers are among these answers.
record HasChecks (ok : Why → Bool) : Type 0 where
  adapter : (check : Check) → ok (Adapter check) ≡ true
  block : (check : Check) → ok (ByOwner check) ≡ true
  app : (check : Check) → ok (App check) ≡ true

-- one of these answers, if there is one
abbrev Answers : (Why → Bool) → Result (List ℕ) Why → Type 0
Answers ok (Ok frame) = Unit {0}
Answers ok (Err why) = ok why ≡ true

-- A device answers to this block with these alone.
record AnswersSo (ok : Why → Bool) (device : Device) (r : Route) : Type 0 where
  stores : (frame : List ℕ) → Answers ok (device.stores r frame)
  sends : (stored : List ℕ) → Answers ok (device.sends r stored)

abbrev Finds : (Why → Bool) → Option Why → Type 0
Finds ok None = Unit {0}
Finds ok (Some why) = ok why ≡ true

-- ---- one block

abbrev OutFinds : (Why → Bool) → WayOut → Type 0
OutFinds ok (Fails why) = ok why ≡ true
OutFinds ok (Refuses why) = ok why ≡ true
OutFinds ok (Stores carried stored) = Unit {0}

abbrev InFinds : (Why → Bool) → WayIn → Type 0
InFinds ok (Stops why) = ok why ≡ true
InFinds ok (Spoils why carried) = ok why ≡ true
InFinds ok (Delivers carried frame) = Unit {0}

module _ (ok : Why → Bool) (c : HasChecks ok) where
  onto-device : (carried : List ℕ) (came : Result (List ℕ) Why) → Answers ok came → OutFinds ok (at_device carried came)
  onto-device carried (Ok stored) h = tt
  onto-device carried (Err why) h = h

  out-of-adapter : (device : Device) (r : Route) (came : Result (List ℕ) Check) → AnswersSo ok device r → OutFinds ok (from_adapter device r came)
  out-of-adapter device r (Ok carried) d = onto-device carried (device.stores r carried) (d.stores carried)
  out-of-adapter device r (Err check) d = c.adapter check

  into-host : (carried : List ℕ) (came : Result (List ℕ) Check) → InFinds ok (at_host carried came)
  into-host carried (Ok frame) = tt
  into-host carried (Err check) = c.adapter check

  out-of-device : (faults : List FaultLine) (r : Route) (came : Result (List ℕ) Why) → Answers ok came → InFinds ok (from_device faults r came)
  out-of-device faults r (Ok carried) h = into-host carried (from_wire faults r carried)
  out-of-device faults r (Err why) h = h

  unless-found : (owner : Owner) (carried frame : List ℕ) (found : Option Check) → InFinds ok (delivered_unless owner carried frame found)
  unless-found owner carried frame None = tt
  unless-found OfBlock carried frame (Some check) = c.block check
  unless-found OfApp carried frame (Some check) = c.app check

  into-owner : (r : Route) (owner : Owner) (w : WayIn) → InFinds ok w → InFinds ok (verified r owner w)
  into-owner r owner (Stops why) h = h
  into-owner r owner (Spoils why carried) h = h
  into-owner r owner (Delivers carried frame) h = unless-found owner carried (mapped_back r frame) (owner_finds r (mapped_back r frame))

  when-written : (r : Route) (w : WayOut) (back : List ℕ) (log : List (List ℕ)) → OutFinds ok w → Finds ok (written_by r w back log).answer.why
  when-written r (Fails why) back log h = h
  when-written r (Refuses why) back log h = h
  when-written r (Stores carried stored) back log h = tt

  when-read : (r : Route) (owner : Owner) (w : WayIn) (size after : ℕ) → InFinds ok w → Finds ok (read_by r owner w size after).answer.why
  when-read r owner (Stops why) size after h = h
  when-read r owner (Spoils why carried) size after h = h
  when-read r owner (Delivers carried frame) size after h = tt

  out-finds : (m : Setting) (r : Route) → AnswersSo ok m.site.device r → (frame : List ℕ) → OutFinds ok (way_out m.site.faults m.site.device r frame)
  out-finds m r d frame = out-of-adapter m.site.device r (to_wire m.site.faults r (mapped_out r frame)) d

  in-finds : (m : Setting) (r : Route) → AnswersSo ok m.site.device r → (owner : Owner) (stored : List ℕ) → InFinds ok (way_in m.site.faults m.site.device r owner stored)
  in-finds m r d owner stored = into-owner r owner (from_device m.site.faults r (m.site.device.sends r stored)) (out-of-device m.site.faults r (m.site.device.sends r stored) (d.sends stored))

  -- a step over such a device
  step-finds : (m : Setting) → ((r : Route) → AnswersSo ok m.site.device r) → (step : Step) (s : State) → Finds ok (tell (act_of m step) s).why
  step-finds m d (Sets at values) s = tt
  step-finds m d (Shows at) s = tt
  step-finds m d (Seals body tuple app rtag) s = tt
  step-finds m d (Writes b app body) s = when-written (route m b) _ _ _ (out-finds m (route m b) (d (route m b)) _)
  step-finds m d (WritesPi b frame) s = when-written (route m b) _ _ _ (out-finds m (route m b) (d (route m b)) _)
  step-finds m d (Reads b owner to) s = when-read (route m b) owner _ _ _ (in-finds m (route m b) (d (route m b)) owner _)
  step-finds m d (Alters dev lba change) s = tt

-- ---- a reply

listed : (ok : Why → Bool) (k : ℕ) (whys : List (Option Why)) → All (Finds ok) whys → All (λ (b : BadBlock). ok b.why ≡ true) (bad_from k whys)
listed ok k [] h = λ i d l. absurd (omega arith)
listed ok k (None ∷ whys) h = listed ok (suc k) whys (All-tail (Finds ok) None whys h)
listed ok k (Some why ∷ whys) h =
    All-cons (λ (b : BadBlock). ok b.why ≡ true) (record { k = k; why = why }) (bad_from (suc k) whys) (All-head (Finds ok) (Some why) whys h) (listed ok (suc k) whys (All-tail (Finds ok) (Some why) whys h))

-- each block of an op by its own label
abbrev named_why : List FaultLine → Label → Why → Bool
named_why faults label why = is_finding why || (is_medium_why why && fails_of faults label)

abbrev EachNamed : List FaultLine → (op k : ℕ) → List (Option Why) → Type 0
EachNamed faults op k [] = Unit {0}
EachNamed faults op k (why ∷ whys) = Finds (named_why faults (record { op = op; k = k })) why × EachNamed faults op (suc k) whys

listed-named : (faults : List FaultLine) (op k : ℕ) (whys : List (Option Why)) → EachNamed faults op k whys → All (λ (b : BadBlock). is_named faults op b ≡ true) (bad_from k whys)
listed-named faults op k [] h = λ i d l. absurd (omega arith)
listed-named faults op k (None ∷ whys) h = listed-named faults op (suc k) whys h.1
listed-named faults op k (Some why ∷ whys) h = All-cons (λ (b : BadBlock). is_named faults op b ≡ true) (record { k = k; why = why }) (bad_from (suc k) whys) h.0 (listed-named faults op (suc k) whys h.1)

whole-or-named : (faults : List FaultLine) (op : ℕ) (bad : List BadBlock) → All (λ (b : BadBlock). is_named faults op b ≡ true) bad → NamesThose faults op (whole_or_bad bad)
whole-or-named faults op [] h = tt
whole-or-named faults op (b ∷ bad) h = h

whole-or-faults : (bad : List BadBlock) → All (λ (b : BadBlock). is_fault b.why ≡ true) bad → NamesFaults (whole_or_bad bad)
whole-or-faults [] h = tt
whole-or-faults (b ∷ bad) h = h

shown-named : (faults : List FaultLine) (op : ℕ) (answers : List ActAnswer) → NamesThose faults op (shown_reply answers)
shown-named faults op [] = tt
shown-named faults op (a ∷ answers) = tt

shown-faults : (answers : List ActAnswer) → NamesFaults (shown_reply answers)
shown-faults [] = tt
shown-faults (a ∷ answers) = tt

abbrev whys_of : List ActAnswer → List (Option Why)
whys_of answers = map (λ (a : ActAnswer). a.why) answers

requested-named : (faults : List FaultLine) (op : ℕ) (answers : List ActAnswer) → EachNamed faults op 0 (whys_of answers) → NamesThose faults op (whole_or_bad (bad_from 0 (whys_of answers)))
requested-named faults op answers h = whole-or-named faults op _ (listed-named faults op 0 (whys_of answers) h)

requested-faults : (answers : List ActAnswer) → All (Finds is_fault) (whys_of answers) → NamesFaults (whole_or_bad (bad_from 0 (whys_of answers)))
requested-faults answers h = whole-or-faults _ (listed is_fault 0 (whys_of answers) h)

replied-faults : (fails : Bool) (op : Op) (answers : List ActAnswer) → All (Finds is_fault) (whys_of answers) → NamesFaults (reply_of fails op answers)
replied-faults fails (Fill seg byte) answers h = tt
replied-faults fails (Put page off bytes) answers h = tt
replied-faults fails (Show seg) answers h = shown-faults answers
replied-faults fails (Seal n body tuples app rtag) answers h = tt
replied-faults fails (Write v n body app) answers h = requested-faults answers h
replied-faults fails (Fetch v n body) answers h = requested-faults answers h
replied-faults fails (WritePi v n body tuples) answers h = requested-faults answers h
replied-faults fails (FetchPi v n body tuples) answers h = requested-faults answers h
replied-faults false (Overwrite dev lba change) answers h = tt
replied-faults true (Overwrite dev lba change) answers h = tt
replied-faults fails Wait answers h = tt

-- what each act answers in turn
each-finds : (ok : Why → Bool) (does : Step → Act ActAnswer) → ((step : Step) (s : State) → Finds ok (tell (does step) s).why) → (steps : List Step) (s : State) → All (Finds ok) (whys_of (plain_tells act tell (map does steps) s))
each-finds ok does h [] s = λ i d l. absurd (omega arith)
each-finds ok does h (step ∷ steps) s =
    All-cons (Finds ok) (tell (does step) s).why (whys_of (plain_tells act tell (map does steps) (act (does step) s))) (h step s) (each-finds ok does h steps (act (does step) s))

-- the same of the blocks of an op, each by its label
each-named : (faults : List FaultLine) (op : ℕ) (does : Step → Act ActAnswer) (k n : ℕ) (f : ℕ → Step) → ((j : ℕ) (s : State) → Finds (named_why faults (record { op = op; k = j })) (tell (does (f j)) s).why) → (s : State) →
    EachNamed faults op k (whys_of (plain_tells act tell (map does (each_from k n f)) s))
each-named faults op does k zero f h s = tt
each-named faults op does k (suc n) f h s = (h k s, each-named faults op does (suc k) n f h (act (does (f k)) s))

-- ---- devices

stored-so : (ok : Why → Bool) (broken : Bool) (came : Result (List ℕ) Check) → ((check : Check) → ok (Target check) ≡ true) → (broken ≡ true → ok Medium ≡ true) → Answers ok (stores_unless broken (by_target came))
stored-so ok false (Ok frame) h m = tt
stored-so ok true (Ok frame) h m = m refl
stored-so ok false (Err check) h m = h check
stored-so ok true (Err check) h m = h check

sent-so : (ok : Why → Bool) (broken : Bool) (came : Result (List ℕ) Check) → ((check : Check) → ok (Target check) ≡ true) → (broken ≡ true → ok Medium ≡ true) → Answers ok (sends_unless broken (by_target came))
sent-so ok true came h m = m refl
sent-so ok false (Ok frame) h m = tt
sent-so ok false (Err check) h m = h check

-- The target says what its check found, or that the medium failed where a fault line says so.
target-answers : (ok : Why → Bool) (faults : List FaultLine) (r : Route) → ((check : Check) → ok (Target check) ≡ true) → (fails_of faults r.label ≡ true → ok Medium ≡ true) → AnswersSo ok (target faults) r
target-answers ok faults r h m = record {
  stores = λ frame. stored-so ok (fails_of faults r.label) (to_medium faults (passage faults r) frame) h m;
  sends = λ stored. sent-so ok (fails_of faults r.label) (from_medium faults (passage faults r) stored) h m;
}

-- ---- the walk

module _ (m : Setting) (faults : List FaultLine) (told : m.site.device ≡ target faults) (none : (i : ℕ) → m.fails i ≡ false) where
  named-checks : (label : Label) → HasChecks (named_why faults label)
  named-checks label = record { adapter = λ check. refl; block = λ check. refl; app = λ check. refl }

  named-answers : (r : Route) → AnswersSo (named_why faults r.label) m.site.device r
  named-answers r = subst (λ (d : Device). AnswersSo (named_why faults r.label) d r) (sym told) (target-answers (named_why faults r.label) faults r (λ check. refl) (λ e. e))

  out-named : (b : Block) (frame : List ℕ) → OutFinds (named_why faults (route m b).label) (way_out m.site.faults m.site.device (route m b) frame)
  out-named b frame = out-finds (named_why faults (route m b).label) (named-checks (route m b).label) m (route m b) (named-answers (route m b)) frame

  in-named : (b : Block) (owner : Owner) (stored : List ℕ) → InFinds (named_why faults (route m b).label) (way_in m.site.faults m.site.device (route m b) owner stored)
  in-named b owner stored = in-finds (named_why faults (route m b).label) (named-checks (route m b).label) m (route m b) (named-answers (route m b)) owner stored

  writes-named : (b : Block) (app : ℕ) (body : List ℕ) (s : State) → Finds (named_why faults (route m b).label) (tell (act_of m (Writes b app body)) s).why
  writes-named b app body s = when-written (named_why faults (route m b).label) (named-checks (route m b).label) (route m b) _ _ _ (out-named b _)

  pi-named : (b : Block) (frame : List ℕ) (s : State) → Finds (named_why faults (route m b).label) (tell (act_of m (WritesPi b frame)) s).why
  pi-named b frame s = when-written (named_why faults (route m b).label) (named-checks (route m b).label) (route m b) _ _ _ (out-named b _)

  reads-named : (b : Block) (owner : Owner) (to : List ℕ) (s : State) → Finds (named_why faults (route m b).label) (tell (act_of m (Reads b owner to)) s).why
  reads-named b owner to s = when-read (named_why faults (route m b).label) (named-checks (route m b).label) (route m b) owner _ _ _ (in-named b owner _)

  op-named : (i : ℕ) (op : Op) (s : State) → NamesThose faults i (reply_of false op (plain_tells act tell (acts_of m i op) s))
  op-named i (Fill seg byte) s = tt
  op-named i (Put page off bytes) s = tt
  op-named i (Show seg) s = shown-named faults i (plain_tells act tell (acts_of m i (Show seg)) s)
  op-named i (Seal n body tuples app rtag) s = tt
  op-named i (Write v n body app) s =
      requested-named faults i (plain_tells act tell (acts_of m i (Write v n body app)) s)
      (each-named faults i (act_of m) 0 n (λ k. Writes (block_of i v k) app (body_of m.size body k)) (λ k s. writes-named (block_of i v k) app (body_of m.size body k) s) s)
  op-named i (Fetch v n body) s =
      requested-named faults i (plain_tells act tell (acts_of m i (Fetch v n body)) s)
      (each-named faults i (act_of m) 0 n (λ k. Reads (block_of i v k) OfBlock (body_of m.size body k)) (λ k s. reads-named (block_of i v k) OfBlock (body_of m.size body k) s) s)
  op-named i (WritePi v n body tuples) s =
      requested-named faults i (plain_tells act tell (acts_of m i (WritePi v n body tuples)) s)
      (each-named faults i (act_of m) 0 n (λ k. WritesPi (block_of i v k) (frame_at m.size body tuples k)) (λ k s. pi-named (block_of i v k) (frame_at m.size body tuples k) s) s)
  op-named i (FetchPi v n body tuples) s =
      requested-named faults i (plain_tells act tell (acts_of m i (FetchPi v n body tuples)) s)
      (each-named faults i (act_of m) 0 n (λ k. Reads (block_of i v k) OfApp (frame_at m.size body tuples k)) (λ k s. reads-named (block_of i v k) OfApp (frame_at m.size body tuples k) s) s)
  op-named i (Overwrite dev lba change) s = tt
  op-named i Wait s = tt

  all-named : (i : ℕ) (ops : List Op) (s : State) → AllNamed faults i (replies_from m i ops s)
  all-named i [] s = tt
  all-named i (op ∷ ops) s = (
    subst (λ fails. NamesThose faults i (reply_of fails op (plain_tells act tell (acts_of m i op) s))) (sym (none i)) (op-named i op s),
    all-named (suc i) ops (plain act (acts_of m i op) s),
  )

  pub names-those : (ops : List Op) (s : State) → AllNamed faults 1 (script_replies m ops s)
  names-those ops s = all-named 1 ops s

-- ---- so no line names the medium but as fault lines say

by-line : (why : Why) (scheduled : Bool) → (is_finding why || (is_medium_why why && scheduled)) ≡ true → ◌≡◌ {A = ℕ} (if is_medium_why why && not scheduled then 1 else 0) 0
by-line (Adapter check) scheduled h = refl
by-line (Target check) scheduled h = refl
by-line (ByOwner check) scheduled h = refl
by-line (App check) scheduled h = refl
by-line Medium true h = refl
by-line Medium false h = absurd (false≢true h)
by-line (Refused key asc ascq) scheduled h = refl
by-line Short scheduled h = refl

none-listed : (faults : List FaultLine) (op : ℕ) (blocks : List BadBlock) → All (λ (b : BadBlock). is_named faults op b ≡ true) blocks → listed_unscheduled faults op blocks ≡ 0
none-listed faults op [] h = refl
none-listed faults op (b ∷ blocks) h =
    let here = by-line b.why (fails_of faults (record { op = op; k = b.k })) (All-head (λ (b : BadBlock). is_named faults op b ≡ true) b blocks h) in
    let rest = none-listed faults op blocks (All-tail (λ (b : BadBlock). is_named faults op b ≡ true) b blocks h) in
    omega (arith, here, rest)

in-reply : (faults : List FaultLine) (op : ℕ) (reply : Reply) → NamesThose faults op reply → listed_unscheduled faults op (bad_blocks reply) + one_reply reply ≡ 0
in-reply faults op Silent h = refl
in-reply faults op Whole h = refl
in-reply faults op (Bad blocks) h = let none = none-listed faults op blocks h in omega (arith, none)
in-reply faults op (Shown bytes) h = refl
in-reply faults op MediumReply h = absurd h

pub names-no-medium : (faults : List FaultLine) (op : ℕ) (replies : List Reply) → AllNamed faults op replies → unscheduled_from faults op replies ≡ 0
names-no-medium faults op [] h = refl
names-no-medium faults op (reply ∷ replies) h = let here = in-reply faults op reply h.0 in let rest = names-no-medium faults (suc op) replies h.1 in omega (arith, here, rest)

-- ---- the walk in which store calls fail

-- what a failed call leaves is nothing to what is answered
same-answer : (why : Option Why) (left : List ℕ) (e : Effect ActAnswer) → (left_by why left e).answer ≡ e.answer
same-answer None left e = refl
same-answer (Some (Adapter check)) left e = refl
same-answer (Some (Target check)) left e = refl
same-answer (Some (ByOwner check)) left e = refl
same-answer (Some (App check)) left e = refl
same-answer (Some Medium) left e = refl
same-answer (Some (Refused key asc ascq)) left e = refl
same-answer (Some Short) left e = refl

module _ (m : Setting) (faults : List FaultLine) (told : m.site.device ≡ target faults) (falls : Block → Option (List ℕ)) where
  faults-checks : HasChecks is_fault
  faults-checks = record { adapter = λ check. refl; block = λ check. refl; app = λ check. refl }

  fault-answers : (r : Route) → AnswersSo is_fault m.site.device r
  fault-answers r = subst (λ (d : Device). AnswersSo is_fault d r) (sym told) (target-answers is_fault faults r (λ check. refl) (λ e. refl))

  failing-answers : (r : Route) → AnswersSo is_fault failing r
  failing-answers r = record { stores = λ frame. refl; sends = λ stored. refl }

  fallen-finds : (step : Step) (left : List ℕ) (s : State) → Finds is_fault (tell (fallen m left step) s).why
  fallen-finds step left s =
      let a = act_of (over_failing m) step in
      subst (Finds is_fault) (sym (ap (λ (x : ActAnswer). x.why) (same-answer (tell a s).why left (effect a s)))) (step-finds is_fault faults-checks (over_failing m) failing-answers step s)

  or-fallen-finds : (step : Step) (o : Option (List ℕ)) (s : State) → Finds is_fault (tell (or_fallen m step o) s).why
  or-fallen-finds step None s = step-finds is_fault faults-checks m fault-answers step s
  or-fallen-finds step (Some left) s = fallen-finds step left s

  may-fall-finds : (step : Step) (s : State) → Finds is_fault (tell (may_fall m falls step) s).why
  may-fall-finds (Sets at values) s = tt
  may-fall-finds (Shows at) s = tt
  may-fall-finds (Seals body tuple app rtag) s = tt
  may-fall-finds (Writes b app body) s = or-fallen-finds (Writes b app body) (falls b) s
  may-fall-finds (WritesPi b frame) s = or-fallen-finds (WritesPi b frame) (falls b) s
  may-fall-finds (Reads b owner to) s = or-fallen-finds (Reads b owner to) (falls b) s
  may-fall-finds (Alters dev lba change) s = tt

  pub names-faults : (i : ℕ) (ops : List Op) (s : State) → All NamesFaults (falling_replies m falls i ops s)
  names-faults i [] s = λ j d l. absurd (omega arith)
  names-faults i (op ∷ ops) s =
      let answers = plain_tells act tell (map (may_fall m falls) (steps_of m i op)) s in
      All-cons NamesFaults (reply_of (m.fails i) op answers) (falling_replies m falls (suc i) ops (falling_walk m falls (steps_of m i op) s))
      (replied-faults (m.fails i) op answers (each-finds is_fault (may_fall m falls) may-fall-finds (steps_of m i op) s))
      (names-faults (suc i) ops (falling_walk m falls (steps_of m i op) s))

-- ---- where no op is an overwrite

whole-no-medium : (bad : List BadBlock) → is_medium (whole_or_bad bad) ≡ false
whole-no-medium [] = refl
whole-no-medium (b ∷ bad) = refl

shown-no-medium : (answers : List ActAnswer) → is_medium (shown_reply answers) ≡ false
shown-no-medium [] = refl
shown-no-medium (a ∷ answers) = refl

op-no-medium : (fails : Bool) (op : Op) (answers : List ActAnswer) → is_overwrite op ≡ false → is_medium (reply_of fails op answers) ≡ false
op-no-medium fails (Fill seg byte) answers h = refl
op-no-medium fails (Put page off bytes) answers h = refl
op-no-medium fails (Show seg) answers h = shown-no-medium answers
op-no-medium fails (Seal n body tuples app rtag) answers h = refl
op-no-medium fails (Write v n body app) answers h = whole-no-medium (bad_from 0 (whys_of answers))
op-no-medium fails (Fetch v n body) answers h = whole-no-medium (bad_from 0 (whys_of answers))
op-no-medium fails (WritePi v n body tuples) answers h = whole-no-medium (bad_from 0 (whys_of answers))
op-no-medium fails (FetchPi v n body tuples) answers h = whole-no-medium (bad_from 0 (whys_of answers))
op-no-medium fails (Overwrite dev lba change) answers h = absurd (false≢true (sym h))
op-no-medium fails Wait answers h = refl

pub none-medium : (m : Setting) (i : ℕ) (ops : List Op) (s : State) → list_any is_overwrite ops ≡ false → (j : ℕ) → is_medium (get_or (replies_from m i ops s) j Silent) ≡ false
none-medium m i [] s h j = refl
none-medium m i (op ∷ ops) s h zero = op-no-medium (m.fails i) op (plain_tells act tell (acts_of m i op) s) (or_parts (is_overwrite op) (list_any is_overwrite ops) h).0
none-medium m i (op ∷ ops) s h (suc j) = none-medium m (suc i) ops (plain act (acts_of m i op) s) (or_parts (is_overwrite op) (list_any is_overwrite ops) h).1 j

-- A walk over what it put on record itself is that walk.
use Rattle.std.proofs.Common.{◌≡◌, ℕ, suc, List, [], ◌∷◌, ◌++◌, length, map, take, drop, get_or, Option, Some, None, refl, sym, ap, subst, ◌∙◌}
use Rattle.std.specs.Prelude.{Result, Ok, Err}
use Rattle.std.specs.List.{AllByRecursion as Each}
use Rattle.std.proofs.lemmas.List.{length-map, map-append}
use Rattle.page_pool.specs.Cells.{gather, scatter}
use Rattle.pi_tuple.specs.declared.checks.Check.{Check}
use Rattle.fault_schedule.specs.declared.Label.{Label}
use Rattle.fault_schedule.specs.declared.fault.FaultLine.{FaultLine}
use Rattle.integrity_payload.specs.declared.payload.Owner.{Owner}
use Rattle.walk_laws.specs.Passed.{Op, Act, Effect, State, act, effect, tell, ActAnswer, Sent, fetched_cell, own_cell, own_frame, read_by, stored_cell, stored_over, tuple_after, written_by, Route, Site, Device, told_by, plain, plain_tells, at_host, delivered_unless, from_device, from_wire, mapped_back, owner_finds, verified, at_device, from_adapter, mapped_out, to_wire, Why}
use Rattle.walk_laws.proofs.Passed.{same_cells}
use Rattle.walk_laws.specs.Past.{steps_from}
use Rattle.walk_laws.specs.ScriptWalk.{act_of, acts_from, acts_of, replies_by, reply_of, script_replies, script_walk}
use Rattle.walk_laws.specs.Settings.{Setting, route}
use Rattle.walk_laws.specs.Steps.{Alters, Reads, Seals, Sets, Shows, Step, Writes, WritesPi, steps_of}
use Rattle.walk_laws.proofs.AnyOrder.{acts_reply, acts_walk}
use Rattle.run_laws.specs.BackedRun.{IsBacked}
use Rattle.run_laws.specs.Records.{Mixed, sents}
use Rattle.run_laws.specs.ToldRun.{IsRecordOfRun, IsSameWalk, came_by, came_in, told}
use Rattle.run_laws.proofs.Backs.{backs, steps_same}
use Rattle.run_laws.proofs.Labelled.{Filed, filed_in, script_lined}

-- what two ways leave and answer, stored blocks aside
record Alike (one other : Effect ActAnswer) : Type 0 where
  bytes : other.written.bytes ≡ one.written.bytes
  logs : other.written.logs ≡ one.written.logs
  fates : other.written.fates ≡ one.written.fates
  answer : other.answer ≡ one.answer

module _ (es : List Sent) (device : Device) (r : Route) where
  abbrev came : Label → Result (List ℕ) Why
  came label = came_by es label

  -- a way out
  stored_alike : (carried : List ℕ) (back : List ℕ) (log : List (List ℕ)) (o : Result (List ℕ) Why) → Filed es (written_by r (at_device carried o) back log).answer →
      Alike (written_by r (at_device carried o) back log) (written_by r (at_device carried (came r.label)) back log)
  stored_alike carried back log (Ok stored) f =
      let told : came r.label ≡ Ok carried = ap came_in f in
      let same = ap (λ x. written_by r (at_device carried x) back log) told in
      record { bytes = ap (λ e. e.written.bytes) same; logs = ap (λ e. e.written.logs) same; fates = ap (λ e. e.written.fates) same; answer = ap (λ e. e.answer) same }
  stored_alike carried back log (Err why) f =
      let told : came r.label ≡ Err why = ap came_in f in
      let same = ap (λ x. written_by r (at_device carried x) back log) told in
      record { bytes = ap (λ e. e.written.bytes) same; logs = ap (λ e. e.written.logs) same; fates = ap (λ e. e.written.fates) same; answer = ap (λ e. e.answer) same }

  out_alike : (sends : Result (List ℕ) Check) (back : List ℕ) (log : List (List ℕ)) → Filed es (written_by r (from_adapter device r sends) back log).answer →
      Alike (written_by r (from_adapter device r sends) back log) (written_by r (from_adapter (told_by (came_by es)) r sends) back log)
  out_alike (Ok carried) back log f = stored_alike carried back log (device.stores r carried) f
  out_alike (Err check) back log f = record { bytes = refl; logs = refl; fates = refl; answer = refl }

  -- a way in
  came_in_by : (owner : Owner) (carried : List ℕ) (w : Result (List ℕ) Check) (size after : ℕ) → Filed es (read_by r owner (verified r owner (at_host carried w)) size after).answer → came r.label ≡ Ok carried
  came_in_by owner carried (Err check) size after f = ap came_in f
  came_in_by owner carried (Ok frame) size after f = by (owner_finds r (mapped_back r frame)) f where
    by : (o : Option Check) → Filed es (read_by r owner (delivered_unless owner carried (mapped_back r frame) o) size after).answer → came r.label ≡ Ok carried
    by None f = ap came_in f
    by (Some check) f = ap came_in f

  same_came : (faults : List FaultLine) (owner : Owner) (sends : Result (List ℕ) Why) (size after : ℕ) → Filed es (read_by r owner (verified r owner (from_device faults r sends)) size after).answer → came r.label ≡ sends
  same_came faults owner (Ok carried) size after f = came_in_by owner carried (from_wire faults r carried) size after f
  same_came faults owner (Err why) size after f = ap came_in f

same_effect : (one other : Effect ActAnswer) → other ≡ one → Alike one other
same_effect one other h = record { bytes = ap (λ e. e.written.bytes) h; logs = ap (λ e. e.written.logs) h; fates = ap (λ e. e.written.fates) h; answer = ap (λ e. e.answer) h }

-- what two acts leave, other stored blocks before and after
record StepAlike (a other : Act ActAnswer) (s : State) (x : List (List ℕ)) : Type 0 where
  tells : tell other (record s { blocks = x }) ≡ tell a s
  state : act other (record s { blocks = x }) ≡ record (act a s) { blocks = (act other (record s { blocks = x })).blocks }

by_effects : (a : Act ActAnswer) (otherwise : State → Effect ActAnswer) (s : State) (x : List (List ℕ)) → let other = record a { compute = otherwise } in Alike (effect a s) (effect other (record s { blocks = x })) → StepAlike a other s x
by_effects a otherwise s x h = record {
  tells = h.answer;
  state = same_cells _ _ _ _ _ _ _ _ (ap (λ v. scatter a.bytes.writes v s.bytes) h.bytes) refl (ap (λ v. scatter a.logs.writes v s.logs) h.logs) (ap (λ v. scatter a.fates.writes v s.fates) h.fates);
}

-- what stands in a cell afterwards is a matter of stored blocks alone
over_alike : (s t : Site) (r : Route) (old other_old : List ℕ) (one other : Effect ActAnswer) → Alike one other → Alike (stored_over s r old one) (stored_over t r other_old other)
over_alike s t r old other_old one other h = record { bytes = h.bytes; logs = h.logs; fates = h.fates; answer = h.answer }

module _ (m : Setting) (es : List Sent) where
  abbrev over : Setting
  over = told m es

  step_alike : (step : Step) (s : State) (x : List (List ℕ)) → Filed es (tell (act_of m step) s) → StepAlike (act_of m step) (act_of over step) s x
  step_alike (Sets at values) s x f = record { tells = refl; state = refl }
  step_alike (Shows at) s x f = record { tells = refl; state = refl }
  step_alike (Seals body tuple app rtag) s x f = record { tells = refl; state = refl }
  step_alike (Alters dev lba change) s x f = record { tells = refl; state = refl }
  step_alike (Writes b app body) s x f =
      let r = route m b in
      let sends = to_wire m.site.faults r (mapped_out r (own_frame r app (gather 0 body s.bytes))) in
      let log = get_or s.logs (own_cell m.site r) [] in
      let cell = stored_cell m.site r in
      by_effects (act_of m (Writes b app body)) (act_of over (Writes b app body)).compute s x
      (over_alike m.site over.site r (get_or s.blocks cell []) (get_or x cell []) (written_by r (from_adapter m.site.device r sends) [] log) (written_by r (from_adapter over.site.device r sends) [] log)
      (out_alike es m.site.device r sends [] log f))
  step_alike (WritesPi b frame) s x f =
      let r = route m b in
      let seen = gather 0 frame s.bytes in
      let sends = to_wire m.site.faults r (mapped_out r seen) in
      let back = tuple_after r (drop m.size seen) in
      let log = get_or s.logs (own_cell m.site r) [] in
      let cell = stored_cell m.site r in
      by_effects (act_of m (WritesPi b frame)) (act_of over (WritesPi b frame)).compute s x
      (over_alike m.site over.site r (get_or s.blocks cell []) (get_or x cell []) (written_by r (from_adapter m.site.device r sends) back log) (written_by r (from_adapter over.site.device r sends) back log)
      (out_alike es m.site.device r sends back log f))
  step_alike (Reads b owner to) s x f =
      let r = route m b in
      let after = length (get_or s.logs (own_cell m.site r) []) in
      let sends = m.site.device.sends r (get_or s.blocks (fetched_cell m.site r) []) in
      by_effects (act_of m (Reads b owner to)) (act_of over (Reads b owner to)).compute s x
      (same_effect (effect (act_of m (Reads b owner to)) s) (effect (act_of over (Reads b owner to)) (record s { blocks = x }))
      (ap (λ came. read_by r owner (verified r owner (from_device m.site.faults r came)) (length to) after) (same_came es m.site.device r m.site.faults owner sends (length to) after f)))

  record WalkAlike (steps : List Step) (s : State) (x : List (List ℕ)) : Type 0 where
    tells : plain_tells act tell (map (act_of over) steps) (record s { blocks = x }) ≡ plain_tells act tell (map (act_of m) steps) s
    blocks : List (List ℕ)
    state : plain act (map (act_of over) steps) (record s { blocks = x }) ≡ record (plain act (map (act_of m) steps) s) { blocks = blocks }

  walk_alike : (steps : List Step) (s : State) (x : List (List ℕ)) → Each (Filed es) (plain_tells act tell (map (act_of m) steps) s) → WalkAlike steps s x
  walk_alike [] s x f = record { tells = refl; blocks = x; state = refl }
  walk_alike (step ∷ steps) s x f =
      let h = step_alike step s x f.0 in
      let now = act (act_of over step) (record s { blocks = x }) in
      let rest = walk_alike steps (act (act_of m step) s) now.blocks f.1 in
      record {
        tells = ap (λ t. t ∷ plain_tells act tell (map (act_of over) steps) now) h.tells
            ∙ ap (λ c. tell (act_of m step) s ∷ plain_tells act tell (map (act_of over) steps) c) h.state
            ∙ ap (λ ts. tell (act_of m step) s ∷ ts) rest.tells;
        blocks = rest.blocks;
        state = ap (plain act (map (act_of over) steps)) h.state ∙ rest.state;
      }

  all_steps_same : (i : ℕ) (ops : List Op) → steps_from over i ops ≡ steps_from m i ops
  all_steps_same i [] = refl
  all_steps_same i (op ∷ ops) = ap (λ xs. xs ++ steps_from over (suc i) ops) (sym (steps_same m es i op)) ∙ ap (λ xs. steps_of m i op ++ xs) (all_steps_same (suc i) ops)

  same_replies : (i : ℕ) (ops : List Op) (answers : List ActAnswer) → replies_by over i ops answers ≡ replies_by m i ops answers
  same_replies i [] answers = refl
  same_replies i (op ∷ ops) answers =
      let count : length (acts_of over i op) ≡ length (acts_of m i op) = length-map (steps_of over i op) (act_of over) ∙ ap length (sym (steps_same m es i op)) ∙ sym (length-map (steps_of m i op) (act_of m)) in
      ap (λ n. reply_of (m.fails i) op (take n answers) ∷ replies_by over (suc i) ops (drop n answers)) count
      ∙ ap (λ rs. reply_of (m.fails i) op (take (length (acts_of m i op)) answers) ∷ rs) (same_replies (suc i) ops (drop (length (acts_of m i op)) answers))

acts_all : (m : Setting) (i : ℕ) (ops : List Op) → acts_from m i ops ≡ map (act_of m) (steps_from m i ops)
acts_all m i [] = refl
acts_all m i (op ∷ ops) = ap (λ acts. acts_of m i op ++ acts) (acts_all m (suc i) ops) ∙ sym (map-append (act_of m) (steps_of m i op) (steps_from m (suc i) ops))

pub same_walk : (m : Setting) (ops : List Op) (opening : State) (es : List Sent) → IsRecordOfRun m ops opening es → IsSameWalk m ops opening es
same_walk m ops opening es h =
    let answers = plain_tells act tell (acts_from m 1 ops) opening in
    let filed = (filed_in 1 answers es (script_lined m 1 ops opening) h.all).filed in
    let mine = acts_all m 1 ops in
    let theirs : acts_from (told m es) 1 ops ≡ map (act_of (told m es)) (steps_from m 1 ops) = acts_all (told m es) 1 ops ∙ ap (map (act_of (told m es))) (all_steps_same m es 1 ops) in
    let w = walk_alike m es (steps_from m 1 ops) opening opening.blocks (subst (λ acts. Each (Filed es) (plain_tells act tell acts opening)) mine filed) in
    let told_same : plain_tells act tell (acts_from (told m es) 1 ops) opening ≡ answers =
    ap (λ acts. plain_tells act tell acts opening) theirs ∙ w.tells ∙ ap (λ acts. plain_tells act tell acts opening) (sym mine) in
    let over : script_walk (told m es) ops opening ≡ record (script_walk m ops opening) { blocks = w.blocks } =
    sym (acts_walk (told m es) 1 ops opening) ∙ ap (λ acts. plain act acts opening) theirs ∙ w.state
    ∙ ap (λ (c : State). record c { blocks = w.blocks }) (ap (λ acts. plain act acts opening) (sym mine) ∙ acts_walk m 1 ops opening) in
    record {
      answers = told_same;
      replies = sym (acts_reply (told m es) 1 ops opening) ∙ ap (replies_by (told m es) 1 ops) told_same ∙ same_replies m es 1 ops answers ∙ acts_reply m 1 ops opening;
      bytes = ap (λ (c : State). c.bytes) over;
      logs = ap (λ (c : State). c.logs) over;
    }

-- So its record backs its own replies.
pub backs_itself : (m : Setting) (ops : List Op) (opening : State) (es : List Sent) → IsRecordOfRun m ops opening es → IsBacked m ops opening es (script_replies m ops opening)
backs_itself m ops opening es h =
    let same = same_walk m ops opening es h in
    let record_of_told : IsRecordOfRun (told m es) ops opening es = record {
      all = subst (λ answers. Mixed (sents answers) es) (sym same.answers) h.all;
      writes = λ c. ap (λ logs. get_or logs c []) same.logs ∙ h.writes c;
    } in
    subst (IsBacked m ops opening es) same.replies (backs m ops opening es record_of_told)

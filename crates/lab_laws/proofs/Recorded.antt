-- What a log says of its commands, by what it says of their blocks.
use Rattle.std.proofs.Common.{◌≡◌, inl, inr, ℕ, zero, suc, ◌+◌, ◌*◌, ◌≤◌, Bool, true, false, ◌&&◌, eqb, if◌then◌else◌, List, [], ◌∷◌, ◌++◌, length, map, drop, get_or, Option, Some, None, refl, sym, ap, subst, ◌∙◌, arith}
use Rattle.std.specs.Prelude.{min, ltb, IfOk, IfSome, Result, Ok, Err}
use Rattle.std.specs.List.{AllByRecursion as Each}
use Rattle.std.proofs.lemmas.Bool.{eq-eqb, eqb-true}
use Rattle.std.proofs.lemmas.List.{length-drop, length-take}
use Rattle.std.proofs.lemmas.Option.{none-some}
use Rattle.fault_schedule.specs.declared.Label.{Label}
use Rattle.fault_schedule.specs.declared.fault.FaultLine.{FaultLine}
use Rattle.integrity_payload.specs.declared.payload.Owner.{Owner}
use Rattle.bio_core.specs.declared.fate.Why.{Why}
use Rattle.bio_core.specs.declared.fate.Why.TheVariants.{Medium}
use Rattle.bio_core.specs.declared.request.Dir.{Dir}
use Rattle.bio_core.specs.declared.request.Dir.TheVariants.{Read as In, Write as Out}
use Rattle.cdb_codec.specs.Decoded.{decoded}
use Rattle.cdb_codec.specs.declared.command.Cdb.{Cdb}
use Rattle.cdb_codec.specs.declared.command.CdbFault.{CdbFault}
use Rattle.cdb_codec.specs.declared.command.Rw.{Rw}
use Rattle.rig_api.specs.Frames.{frames_of, sent_size}
use Rattle.rig_api.specs.Requests.{request_of}
use Rattle.rig_api.specs.declared.request.Request.{Request}
use Rattle.rig_api.specs.declared.request.Request.TheVariants.{Read, ReadCapacity, Verify, Write}
use Rattle.rig_api.specs.Log.{LogEntry}
use Rattle.stack_ops.specs.declared.op.Op.{Op}
use Rattle.stack_ops.specs.declared.reply.BadBlock.{BadBlock}
use Rattle.stack_ops.specs.declared.reply.Reply.{Reply}
use Rattle.stack_ops.specs.declared.reply.Reply.TheVariants.{Bad, Medium as MediumReply, Shown, Silent, Whole}
use Rattle.block_path.specs.Acts.{State, act, tell}
use Rattle.block_path.specs.Blocks.{ActAnswer, Sent, Site, read_by, written_by}
use Rattle.block_path.specs.declared.route.Route.{Route}
use Rattle.block_path.specs.Serial.{plain, plain_tells}
use Rattle.block_path.specs.Senses.{is_medium_why, why_ended}
use Rattle.walk_laws.specs.Settings.{Setting, route}
use Rattle.walk_laws.specs.Steps.{Alters, Reads, Seals, Sets, Shows, Step, Writes, WritesPi, steps_of}
use Rattle.walk_laws.specs.ReadsAs.{listed_among, listed_in}
use Rattle.run_laws.specs.BackedRun.{Belongs, IsBacked, IsListedAs, OfRequest}
use Rattle.run_laws.specs.Records.{Mixed, NoTwo, came_of, end_for, end_in, ended_by, find, is_labelled, put_blocks, put_decoded, put_entries, put_request, recorded, stamped}
use Rattle.run_laws.specs.TakenWalk.{taken_act, taken_acts, taken_from, taken_in, taken_out}
use Rattle.run_laws.proofs.Labelled.{each_both, each_first, each_other, tells_append}
use Rattle.stack_walk_laws.specs.Falls.{Falls, put_really, really}
use Rattle.stack_core.specs.Mediums.{listed_mediums, medium_lines}
use Rattle.stack_core.specs.OnRecord.{bad_blocks}
use Rattle.lab_laws.specs.Passing.{AreDone, IsNotCut, IsWhole, WasTaken, width}
use Rattle.small_laws.proofs.Tests.{never}

-- ---- from blocks to commands

pub mixed_each : {X : Type 0} (P : X → Type 0) (xs ys : List X) → Mixed xs ys → Each P xs → Each P ys
mixed_each P [] ys m h = subst (Each P) (sym m) tt
mixed_each P (x ∷ xs) ys m h =
    let before = m.0 in
    let after = m.1.0 in
    let rest = mixed_each P xs (before ++ after) m.1.1.1 h.1 in
    subst (Each P) (sym m.1.1.0) (each_both P before (x ∷ after) (each_first P before after rest) (h.0, each_other P before after rest))

module _ (m : Setting) where
  blocks_taken : (dir : Dir) (dev lba : ℕ) (labels : List Label) (cames : List (Result (List ℕ) Why)) (es : List Sent) → Each (WasTaken m) (put_blocks m.site dir dev lba labels cames es) → Each (WasTaken m) es × Each (IsWhole (width m) dir) cames
  blocks_taken dir dev lba labels [] es h = (h, tt)
  blocks_taken dir dev lba labels (came ∷ cames) es h =
      let x = stamped m.site es (get_or labels 0 (record { op = 0; k = 0 })) dir dev lba came in
      let rest = blocks_taken dir dev (suc lba) (drop 1 labels) cames (es ++ (x ∷ [])) h in
      let one = each_other (WasTaken m) es (x ∷ []) rest.0 in
      (each_first (WasTaken m) es (x ∷ []) rest.0, (one.0, rest.1))

  frames_whole : (frames : List (List ℕ)) (rest : List (Result (List ℕ) Why)) → Each (IsWhole (width m) Out) (map (λ frame. Ok frame) frames ++ rest) → Each (λ f. length {A = ℕ} f ≡ width m) frames
  frames_whole [] rest h = tt
  frames_whole (f ∷ frames) rest h = (h.0, frames_whole frames rest h.1)

  none_left : (n done : ℕ) (why : Why) → Each (IsWhole (width m) Out) (if ltb done n then Err why ∷ [] else []) → n ≤ done
  none_left n done why = by (ltb done n) refl
    where
      by : (c : Bool) → ltb done n ≡ c → Each (IsWhole (width m) Out) (if c then Err why ∷ [] else []) → n ≤ done
      by true e h = absurd h.0
      by false e h = grind (arith, e)

  all_long : (w n : ℕ) (bytes : List ℕ) → Each (λ f. length {A = ℕ} f ≡ w) (frames_of w n bytes) → n * w ≤ length bytes
  all_long w zero bytes h = let z : 0 * w ≡ 0 = omega arith in omega (arith, z)
  all_long w (suc n) bytes h =
      let rest = all_long w n (drop w bytes) h.1 in
      let d = length-drop w bytes in
      let t = length-take w bytes in
      let f = h.0 in
      let z : suc n * w ≡ w + n * w = omega arith in
      omega (arith, rest, d, t, f, z)

  -- what came of the blocks of a command
  abbrev cames_of : Rw → LogEntry → List (Result (List ℕ) Why)
  cames_of c e = came_of c.n e.what.outcome.done e.what.outcome.sense (frames_of (sent_size c.protect m.size) (min e.what.outcome.done c.n) e.moved)

  -- of a write whose frames have this length
  write_done : (c : Rw) (e : LogEntry) → sent_size c.protect m.size ≡ width m → Each (IsWhole (width m) Out) (cames_of c e) → AreDone m.size (Write c) e
  write_done c e w h =
      let done = e.what.outcome.done in
      let frames = frames_of (sent_size c.protect m.size) (min done c.n) e.moved in
      let last = none_left c.n done (why_ended e.what.outcome.sense) (each_other (IsWhole (width m) Out) (map (λ frame. Ok frame) frames) (if ltb done c.n then Err (why_ended e.what.outcome.sense) ∷ [] else []) h) in
      let all : min done c.n ≡ c.n = omega (arith, last) in
      let whole = frames_whole frames (if ltb done c.n then Err (why_ended e.what.outcome.sense) ∷ [] else []) h in
      let long = all_long (width m) (min done c.n) e.moved (subst (λ k. Each (λ f. length {A = ℕ} f ≡ width m) (frames_of k (min done c.n) e.moved)) w whole) in
      (last, subst (λ k. c.n * k ≤ length e.moved) (sym w) (subst (λ n. n * width m ≤ length e.moved) all long))

  -- a command has frames of that length
  abbrev pub HasWidth : Request → Type 0
  HasWidth (Read c) = Unit {0}
  HasWidth (Write c) = sent_size c.protect m.size ≡ width m
  HasWidth (Verify c) = Unit {0}
  HasWidth (ReadCapacity len) = Unit {0}

  abbrev pub IsWide : LogEntry → Type 0
  IsWide e = IfOk (decoded e.what.cdb) (λ cdb. HasWidth (request_of cdb))

  request_done : (q : Request) (e : LogEntry) (es : List Sent) → HasWidth q → Each (WasTaken m) (put_request m q e es) → Each (WasTaken m) es × AreDone m.size q e
  request_done (Read c) e es w h = ((blocks_taken In e.what.dev c.lba e.labels (cames_of c e) es h).0, tt)
  request_done (Write c) e es w h = let b = blocks_taken Out e.what.dev c.lba e.labels (cames_of c e) es h in (b.0, write_done c e w b.1)
  request_done (Verify c) e es w h = (h, tt)
  request_done (ReadCapacity len) e es w h = (h, tt)

  decoded_done : (d : Result Cdb CdbFault) (e : LogEntry) (es : List Sent) → IfOk d (λ cdb. HasWidth (request_of cdb)) → Each (WasTaken m) (put_decoded m d e es) → Each (WasTaken m) es × IfOk d (λ cdb. AreDone m.size (request_of cdb) e)
  decoded_done (Ok cdb) e es w h = request_done (request_of cdb) e es w h
  decoded_done (Err fault) e es w h = (h, tt)

  entries_done : (log : List LogEntry) (es : List Sent) → Each IsWide log → Each (WasTaken m) (put_entries m log es) → Each (WasTaken m) es × Each (IsNotCut m.size) log
  entries_done [] es w h = (h, tt)
  entries_done (e ∷ log) es w h =
      let rest = entries_done log (put_decoded m (decoded e.what.cdb) e es) w.1 h in
      let one = decoded_done (decoded e.what.cdb) e es w.0 rest.0 in
      (one.0, (one.1, rest.1))

  pub log_done : (log : List LogEntry) → Each IsWide log → Each (WasTaken m) (recorded m log) → Each (IsNotCut m.size) log
  log_done log w h = (entries_done log [] w h).1

-- ---- which blocks a store call failed

-- what came of a block of a write is its whole frame, or a store call failed
abbrev IsOrFell : (bytes : ℕ) → Dir → Result (List ℕ) Why → Type 0
IsOrFell bytes In came = Unit {0}
IsOrFell bytes Out (Ok frame) = length frame ≡ bytes
IsOrFell bytes Out (Err why) = why ≡ Medium

abbrev OrFell : Setting → Sent → Type 0
OrFell m e = IsOrFell (width m) e.dir e.came

really_fell : (bytes : ℕ) (dir : Dir) (o : Option (List ℕ)) (came : Result (List ℕ) Why) → IsWhole bytes dir came → IsOrFell bytes dir (really o came)
really_fell bytes In o came h = tt
really_fell bytes Out None (Ok frame) h = h
really_fell bytes Out None (Err why) h = absurd h
really_fell bytes Out (Some left) (Ok frame) h = refl
really_fell bytes Out (Some left) (Err why) h = absurd h

pub put_fell : (m : Setting) (s : Site) (falls : Falls) (told es : List Sent) → Each (WasTaken m) told → Each (OrFell m) es → Each (OrFell m) (put_really s falls told es)
put_fell m s falls [] es h k = k
put_fell m s falls (x ∷ told) es h k =
    let y = stamped s es x.label x.dir x.dev x.lba (really (falls x.label) x.came) in
    put_fell m s falls told (es ++ (y ∷ [])) h.1 (each_both (OrFell m) es (y ∷ []) k (really_fell (width m) x.dir (falls x.label) x.came h.0, tt))

-- ---- none failed that no reply lists

abbrev NotMedium : Option Why → Type 0
NotMedium o = IfSome o (λ why. is_medium_why why ≡ false)

none_among : (bad : List BadBlock) (k : ℕ) → listed_mediums bad ≡ 0 → NotMedium (listed_among bad k)
none_among [] k h = tt
none_among (x ∷ bad) k h = by (is_medium_why x.why) refl h (eqb x.k k) (λ z. none_among bad k z)
  where
    by : (c : Bool) → is_medium_why x.why ≡ c → (if c then 1 else 0) + listed_mediums bad ≡ 0 → (d : Bool) → (listed_mediums bad ≡ 0 → NotMedium (listed_among bad k)) → NotMedium (if d then Some x.why else listed_among bad k)
    by true e z d rest = absurd (omega (arith, z))
    by false e z true rest = e
    by false e z false rest = rest (omega (arith, z))

none_listed : (reply : Reply) (k : ℕ) → listed_mediums (bad_blocks reply) ≡ 0 → NotMedium (listed_in reply k)
none_listed Silent k h = tt
none_listed Whole k h = tt
none_listed (Bad bad) k h = none_among bad k h
none_listed (Shown bytes) k h = tt
none_listed MediumReply k h = tt

first_lines : (replies : List Reply) → medium_lines replies ≡ 0 → (listed_mediums (bad_blocks (get_or replies 0 Silent)) ≡ 0) × (medium_lines (drop 1 replies) ≡ 0)
first_lines [] h = (refl, refl)
first_lines (r ∷ replies) h = (omega (arith, h), omega (arith, h))

out_not : (faults : List FaultLine) (r : Route) (o : Option Why) (frame back : List ℕ) (log : List (List ℕ)) → NotMedium o → NotMedium (written_by r (taken_out faults r o frame) back log).answer.why
out_not faults r None frame back log h = tt
out_not faults r (Some why) frame back log h = h

in_not : (faults : List FaultLine) (r : Route) (owner : Owner) (o : Option Why) (frame : List ℕ) (size after : ℕ) → NotMedium o → NotMedium (read_by r owner (taken_in faults r o frame) size after).answer.why
in_not faults r owner None frame size after h = tt
in_not faults r owner (Some why) frame size after h = h

module _ (m : Setting) (es : List Sent) where
  taken_not : (reply : Reply) (step : Step) (s : State) → listed_mediums (bad_blocks reply) ≡ 0 → NotMedium (tell (taken_act m es reply step) s).why
  taken_not reply (Sets at values) s h = tt
  taken_not reply (Shows at) s h = tt
  taken_not reply (Seals body tuple app rtag) s h = tt
  taken_not reply (Writes b app body) s h = out_not m.site.faults (route m b) (listed_in reply b.k) _ _ _ (none_listed reply b.k h)
  taken_not reply (WritesPi b frame) s h = out_not m.site.faults (route m b) (listed_in reply b.k) _ _ _ (none_listed reply b.k h)
  taken_not reply (Reads b owner to) s h = in_not m.site.faults (route m b) owner (listed_in reply b.k) _ _ _ (none_listed reply b.k h)
  taken_not reply (Alters dev lba change) s h = tt

  abbrev AnswersNot : ActAnswer → Type 0
  AnswersNot a = NotMedium a.why

  steps_not : (reply : Reply) (steps : List Step) (s : State) → listed_mediums (bad_blocks reply) ≡ 0 → Each AnswersNot (plain_tells act tell (map (taken_act m es reply) steps) s)
  steps_not reply [] s h = tt
  steps_not reply (step ∷ steps) s h = (taken_not reply step s h, steps_not reply steps (act (taken_act m es reply step) s) h)

  ops_not : (i : ℕ) (ops : List Op) (replies : List Reply) (s : State) → medium_lines replies ≡ 0 → Each AnswersNot (plain_tells act tell (taken_from m es i ops replies) s)
  ops_not i [] replies s h = tt
  ops_not i (op ∷ ops) replies s h =
      let z = first_lines replies h in
      let one = taken_acts m es i op (get_or replies 0 Silent) in
      let more = taken_from m es (suc i) ops (drop 1 replies) in
      subst (Each AnswersNot) (sym (tells_append one more s))
      (each_both AnswersNot (plain_tells act tell one s) (plain_tells act tell more (plain act one s)) (steps_not (get_or replies 0 Silent) (steps_of m i op) s z.0) (ops_not (suc i) ops (drop 1 replies) (plain act one s) z.1))

-- so none has an end for the medium
none_ended : (es : List Sent) (answers : List ActAnswer) (e : Sent) → Each (λ a. NotMedium a.why) answers → Each (OfRequest (IsListedAs es)) answers → Belongs answers e → end_for es e.label ≡ Some Medium → ⊥
none_ended es [] e n l b h = absurd b
none_ended es (a ∷ answers) e n l (inr b) h = none_ended es answers e n.1 l.1 b h
none_ended es (a ∷ answers) e n l (inl b) h =
    let here : IsListedAs es b.0.route a = subst (λ o. IfSome o (λ x. IsListedAs es x.route a)) b.1.0 l.0 in
    let ended : end_for es b.0.route.label ≡ Some Medium = ap (end_for es) (sym b.1.1.label) ∙ h in
    let why : a.why ≡ Some Medium = subst (λ o. IfSome o (λ w. a.why ≡ Some w)) ended here in
    never (sym (subst NotMedium why n.0))

-- each entry and end is found by its own label
labelled_itself : (x : Sent) → is_labelled x.label x ≡ true
labelled_itself x =
    let p : eqb x.label.op x.label.op ≡ true = eq-eqb x.label.op x.label.op refl in
    let q : eqb x.label.k x.label.k ≡ true = eq-eqb x.label.k x.label.k refl in
    ap (λ c. c && eqb x.label.k x.label.k) p ∙ q

same_label : (n k : Label) → (eqb n.op k.op && eqb n.k k.k) ≡ true → n ≡ k
same_label n k h = by (eqb n.op k.op) (eqb n.k k.k) refl refl h
  where
    one : (a b c d : ℕ) → a ≡ b → c ≡ d → let left : Label = record { op = a; k = c } in let right : Label = record { op = b; k = d } in left ≡ right
    one a b c d p q = cc

    by : (c d : Bool) → eqb n.op k.op ≡ c → eqb n.k k.k ≡ d → (c && d) ≡ true → n ≡ k
    by true true p q h = one n.op k.op n.k k.k (eqb-true n.op k.op p) (eqb-true n.k k.k q)
    by true false p q h = never h
    by false d p q h = never h

abbrev IsFound : List Sent → Sent → Type 0
IsFound es e = find e.label es ≡ Some e

found_behind : (x : Sent) (xs ys : List Sent) → find x.label xs ≡ None → Each (IsFound xs) ys → Each (IsFound (x ∷ xs)) ys
found_behind x xs [] none h = tt
found_behind x xs (e ∷ ys) none h = (by (is_labelled e.label x) refl, found_behind x xs ys none h.1)
  where
    by : (c : Bool) → is_labelled e.label x ≡ c → (if c then Some x else find e.label xs) ≡ Some e
    by false p = h.0
    by true p = absurd (none-some e (sym none ∙ ap (λ n. find n xs) (same_label x.label e.label p) ∙ h.0))

all_found : (es : List Sent) → NoTwo es → Each (IsFound es) es
all_found [] h = tt
all_found (x ∷ xs) h = (ap (λ c. if c then Some x else find x.label xs) (labelled_itself x), found_behind x xs xs h.0 (all_found xs h.1))

-- Where the replies list no block for the medium no store call failed.
pub none_fell : (m : Setting) (bytes : ℕ) (ops : List Op) (opening : State) (es : List Sent) (replies : List Reply) → IsBacked m ops opening es replies → medium_lines replies ≡ 0 → Each (λ e. IsOrFell bytes e.dir e.came) es → Each (λ e. IsWhole bytes e.dir e.came) es
none_fell m bytes ops opening es replies backed none fell = all es (all_found es backed.once) backed.belong fell
  where
    one : (e : Sent) → IsFound es e → Belongs (plain_tells act tell (taken_from m es 1 ops replies) opening) e → (dir : Dir) (came : Result (List ℕ) Why) → e.came ≡ came → IsOrFell bytes dir came → IsWhole bytes dir came
    one e f b In came q h = tt
    one e f b Out (Ok frame) q h = h
    one e f b Out (Err why) q h =
        none_ended es (plain_tells act tell (taken_from m es 1 ops replies) opening) e (ops_not m es 1 ops replies opening none) backed.listed b
        (ap end_in f ∙ ap ended_by q ∙ ap (λ w. Some w) h)

    all : (ys : List Sent) → Each (IsFound es) ys → Each (Belongs (plain_tells act tell (taken_from m es 1 ops replies) opening)) ys → Each (λ e. IsOrFell bytes e.dir e.came) ys → Each (λ e. IsWhole bytes e.dir e.came) ys
    all [] f b h = tt
    all (e ∷ ys) f b h = (one e f.0 b.0 e.dir e.came refl h.0, all ys f.1 b.1 h.1)

-- A mirror without faults, under any protect field with tuples.
use Rattle.std.proofs.Common.{◌≡◌, ◌<◌, ℕ, zero, suc, ◌+◌, ◌%◌, ◌^◌, Bool, true, false, eqb, ◌||◌, if◌then◌else◌, List, [], ◌∷◌, ◌++◌, length, get_or, refl, sym, ap, subst, ◌∙◌, arith, append_assoc}
use Rattle.std.specs.List.{list_any}
use Rattle.std.proofs.lemmas.Bool.{and_from, false≢true, ne_eqb, or_parts}
use Rattle.page_pool.specs.declared.segs.Seg.{Seg}
use Rattle.page_pool.specs.Cells.{gather}
use Rattle.pi_guard.specs.Guards.{crc}
use Rattle.pi_tuple.specs.Tuples.{ref_tag}
use Rattle.integrity_payload.specs.declared.payload.Owner.{Owner}
use Rattle.integrity_payload.specs.declared.payload.Owner.TheVariants.{Block as OfBlock, App as OfApp}
use Rattle.fault_schedule.specs.declared.fault.Crossing.TheVariants.{AdapterToTarget, HostToAdapter}
use Rattle.rig_api.specs.Passing.{found_in}
use Rattle.block_path.specs.Blocks.{fetched_cell, own_frame}
use Rattle.block_path.specs.Routes.{passage}
use Rattle.block_path.specs.WayOut.{adapter_finds_out, mapped_out, sent}
use Rattle.stack_ops.specs.declared.op.Op.{Op}
use Rattle.stack_ops.specs.declared.op.Op.TheVariants.{Fetch, FetchPi, Fill, Overwrite, Put, Seal, Show, Wait, Write, WritePi}
use Rattle.stack_ops.specs.declared.reply.Reply.{Reply}
use Rattle.stack_ops.specs.declared.reply.Reply.TheVariants.{Silent}
use Rattle.volume_table.specs.Places.{place_in, volume_len}
use Rattle.volume_table.specs.declared.device.DeviceInfo.{DeviceInfo}
use Rattle.rig_api.specs.Frames.{data_of, tuple_of}
use Rattle.block_path.specs.Acts.{State, act}
use Rattle.block_path.specs.Serial.{plain}
use Rattle.walk_laws.specs.Detectable.{crossed, detectable, found, if_passed, shows_at_medium, shows_in, shows_out, step_shows}
use Rattle.walk_laws.specs.FirstLayer.{AtAdapter, AtTarget, last_accepted}
use Rattle.walk_laws.specs.Past.{Accepted, Brought, Event, Lost, Overwritten, steps_from}
use Rattle.walk_laws.specs.ScriptWalk.{act_of}
use Rattle.walk_laws.specs.Settings.{Block, Setting, block_of, route}
use Rattle.walk_laws.specs.Steps.{Alters, Reads, Seals, Sets, Shows, Step, Writes, WritesPi, body_of, each_from, frame_at, steps_of, tuple_of as tuple_at}
use Rattle.walk_laws.specs.UnderMap.{address_of, home}
use Rattle.walk_laws.proofs.TagLaws.{passed_all}
use Rattle.run_laws.proofs.Found.{from_both, passes_if, unmasked}
use Rattle.stack_ops.specs.Ops.{is_overwrite}
use Rattle.mirror_laws.specs.Mirror.{Mirror, all_asked, asked, asks, count_of, done, mirror_opened, mirror_past, mirror_walk, marks_of, twin}
use Rattle.mirror_laws.specs.OneGood.{AllBind, AreBytes, Binds, HoldsProper, IsMirrorRun, IsRepaired, ReadsLast, last_of, on_leg, script_asks}
use Rattle.mirror_laws.specs.Repair.{WalkedRepair, mirror_repair}
use Rattle.mirror_laws.proofs.Known.{all_accounted, all_kept}
use Rattle.mirror_form_laws.specs.FormedMirror.{HasStillLegs, ServesLast}
use Rattle.mirror_form_laws.proofs.Escapes.{none_supplied}
use Rattle.mirror_form_laws.proofs.Legs.{one_good}
use Rattle.mirror_form_laws.proofs.Protects.{Passes, still}
use Rattle.mirror_form_laws.proofs.StillWalk.{Along, all-steps, along, ops-on, repair-same, replies-same}

-- what the laws of one good leg say
abbrev pub ReadsLaw : Type 0
ReadsLaw = (m : Setting) (devices : List DeviceInfo) (half : ℕ) (before after : List Op) (v n : ℕ) (body : List Seg) (opening : State)
    → IsMirrorRun m devices half (before ++ (Fetch v n body ∷ after)) opening → ReadsLast m half (before ++ (Fetch v n body ∷ after)) before v n body opening

abbrev pub EqualLaw : Type 0
EqualLaw = (m : Setting) (devices : List DeviceInfo) (half : ℕ) (ops : List Op) (opening : State) → IsMirrorRun m devices half ops opening → AreBytes m half opening.blocks → IsRepaired m half ops opening

-- ---- without faults there is nothing to show

-- no step overwrites a stored block
abbrev Plain : Step → Type 0
Plain (Sets at values) = Unit {0}
Plain (Shows at) = Unit {0}
Plain (Seals body tuple app rtag) = Unit {0}
Plain (Writes b app body) = Unit {0}
Plain (WritesPi b frame) = Unit {0}
Plain (Reads b owner to) = Unit {0}
Plain (Alters dev lba change) = ⊥

abbrev AllPlain : List Step → Type 0
AllPlain [] = Unit {0}
AllPlain (step ∷ steps) = Plain step × AllPlain steps

both-plain : (xs ys : List Step) → AllPlain xs → AllPlain ys → AllPlain (xs ++ ys)
both-plain [] ys h k = k
both-plain (x ∷ xs) ys h k = (h.0, both-plain xs ys h.1 k)

each-plain : (k n : ℕ) (f : ℕ → Step) → ((j : ℕ) → Plain (f j)) → AllPlain (each_from k n f)
each-plain k zero f h = tt
each-plain k (suc n) f h = (h k, each-plain (suc k) n f h)

op-plain : (m : Setting) (i : ℕ) (op : Op) → is_overwrite op ≡ false → AllPlain (steps_of m i op)
op-plain m i (Fill seg byte) o = (tt, tt)
op-plain m i (Put page off bytes) o = (tt, tt)
op-plain m i (Show seg) o = (tt, tt)
op-plain m i (Seal n body tuples app rtag) o = each-plain 0 n (λ k. Seals (body_of m.size body k) (tuple_at tuples k) app ((rtag + k) % 2 ^ 32)) (λ j. tt)
op-plain m i (Write v n body app) o = each-plain 0 n (λ k. Writes (block_of i v k) app (body_of m.size body k)) (λ j. tt)
op-plain m i (Fetch v n body) o = each-plain 0 n (λ k. Reads (block_of i v k) OfBlock (body_of m.size body k)) (λ j. tt)
op-plain m i (WritePi v n body tuples) o = each-plain 0 n (λ k. WritesPi (block_of i v k) (frame_at m.size body tuples k)) (λ j. tt)
op-plain m i (FetchPi v n body tuples) o = each-plain 0 n (λ k. Reads (block_of i v k) OfApp (frame_at m.size body tuples k)) (λ j. tt)
op-plain m i (Overwrite dev lba change) o = absurd (false≢true (sym o))
op-plain m i Wait o = tt

ops-plain : (m : Setting) (i : ℕ) (ops : List Op) → list_any is_overwrite ops ≡ false → AllPlain (steps_from m i ops)
ops-plain m i [] o = tt
ops-plain m i (op ∷ ops) o =
    let none = or_parts (is_overwrite op) (list_any is_overwrite ops) o in
    both-plain (steps_of m i op) (steps_from m (suc i) ops) (op-plain m i op none.0) (ops-plain m (suc i) ops none.1)

module _ (m : Setting) (half : ℕ) (count : ℕ → ℕ) where
  read-plain : (f0 f1 d : Bool) (b c : Block) (owner : Owner) (to : List ℕ) → AllPlain (asked f0 f1 d (Reads b owner to) (Reads c owner to))
  read-plain true true true b c owner to = (tt, tt)
  read-plain true true false b c owner to = (tt, (tt, tt))
  read-plain true false d b c owner to = (tt, tt)
  read-plain false f1 d b c owner to = (tt, tt)

  asks-plain : (step : Step) (s : Mirror) → Plain step → AllPlain (asks m half count step s)
  asks-plain (Sets at values) s h = (tt, tt)
  asks-plain (Shows at) s h = (tt, tt)
  asks-plain (Seals body tuple app rtag) s h = (tt, tt)
  asks-plain (Writes b app body) s h = (tt, (tt, tt))
  asks-plain (WritesPi b frame) s h = tt
  asks-plain (Reads b owner to) s h = read-plain _ _ _ b (twin m half count b) owner to
  asks-plain (Alters dev lba change) s h = absurd h

  all-plain : (steps : List Step) (s : Mirror) → AllPlain steps → AllPlain (all_asked m half count steps s)
  all-plain [] s h = tt
  all-plain (step ∷ steps) s h = both-plain (asks m half count step s) (all_asked m half count steps (done m half count step s)) (asks-plain step s h.0) (all-plain steps (done m half count step s) h.1)

module _ (m' : Setting) where
  abbrev m1 : Setting
  m1 = still m' 1

  out-shown : (b : Block) (frame : List ℕ) → shows_out m1 b frame ≡ true
  out-shown b frame =
      let x = mapped_out (route m1 b) frame in
      let y = crossed m1 b HostToAdapter x in
      let z = crossed m1 b AdapterToTarget (sent (route m1 b) y) in
      passed_all (adapter_finds_out (route m1 b) y) (shows_at_medium m1 b z) (passed_all (found_in (passage [] (route m1 b)) z) true refl)

  in-shown : (b : Block) (stored : List ℕ) → shows_in m1 b stored ≡ true
  in-shown b stored = passed_all (found m1 b stored AtTarget) (if_passed (found m1 b stored AtAdapter) true) (passed_all (found m1 b stored AtAdapter) true refl)

  step-shown : (step : Step) (s : State) → Plain step → step_shows m1 step s ≡ true
  step-shown (Sets at values) s h = refl
  step-shown (Shows at) s h = refl
  step-shown (Seals body tuple app rtag) s h = refl
  step-shown (Writes b app body) s h = out-shown b (own_frame (route m1 b) app (gather 0 body s.bytes))
  step-shown (WritesPi b frame) s h = out-shown b (gather 0 frame s.bytes)
  step-shown (Reads b owner to) s h = in-shown b (get_or s.blocks (fetched_cell m1.site (route m1 b)) [])
  step-shown (Alters dev lba change) s h = absurd h

  all-shown : (steps : List Step) (s : State) → AllPlain steps → detectable m1 steps s ≡ true
  all-shown [] s h = refl
  all-shown (step ∷ steps) s h = and_from (step_shows m1 step s) (detectable m1 steps (act (act_of m1 step) s)) (step-shown step s h.0) (all-shown steps (act (act_of m1 step) s) h.1)

-- ---- the front of a script

front-none : (xs ys : List Op) → list_any is_overwrite (xs ++ ys) ≡ false → list_any is_overwrite xs ≡ false
front-none [] ys o = refl
front-none (x ∷ xs) ys o =
    let none = or_parts (is_overwrite x) (list_any is_overwrite (xs ++ ys)) o in
    ap (λ b. b || list_any is_overwrite xs) none.0 ∙ front-none xs ys none.1

front-bind : (m : Setting) (devices : List DeviceInfo) (half bytes : ℕ) (xs ys : List Op) → AllBind m devices half bytes (xs ++ ys) → AllBind m devices half bytes xs
front-bind m devices half bytes [] ys h = tt
front-bind m devices half bytes (x ∷ xs) ys h = (h.0, front-bind m devices half bytes xs ys h.1)

module _ (m' : Setting) (p : ℕ) (devices : List DeviceInfo) (half : ℕ) (ops : List Op) (opening : State) (is : HasStillLegs (still m' p) devices half ops opening) where
  abbrev mp : Setting
  mp = still m' p

  abbrev one : Setting
  one = still m' 1

  abbrev count : ℕ → ℕ
  count = count_of ops

  some : eqb p 0 ≡ false
  some = ne_eqb p 0 (λ e. let l = is.protect in omega (arith, l, e))

  bind-op : (op : Op) → Binds mp devices half (length opening.bytes) op → Binds one devices half (length opening.bytes) op
  bind-op (Fill seg byte) h = h
  bind-op (Put page off values) h = h
  bind-op (Show seg) h = h
  bind-op (Seal n body tuples app rtag) h = h
  bind-op (Write v n body app) h = h
  bind-op (Fetch v n body) h = h
  bind-op (WritePi v n body tuples) h = h
  bind-op (FetchPi v n body tuples) h = h
  bind-op (Overwrite dev lba change) h = h
  bind-op Wait h = h

  bind-all : (list : List Op) → AllBind mp devices half (length opening.bytes) list → AllBind one devices half (length opening.bytes) list
  bind-all [] h = tt
  bind-all (op ∷ list) h = (bind-op op h.0, bind-all list h.1)

  bound : AllBind one devices half (length opening.bytes) ops
  bound = bind-all ops is.bind

  apart : (u v : ℕ) → u < volume_len m'.entries → v < volume_len m'.entries → home m' u ≡ home m' v → u ≡ v
  apart u v k l e =
      let c = is.cells.apart (place_in m'.entries u).0 (place_in m'.entries u).1 (place_in m'.entries v).0 (place_in m'.entries v).1 (is.lies.inside u k) (is.lies.inside v l) e in
      is.lies.alone u v k l (λ j. (c.0 j, c.1 j))

  all-pass : (v : ℕ) → v < volume_len m'.entries → Passes m' (address_of m' v) (get_or opening.blocks (home m' v) [])
  all-pass v l =
      let frame = get_or opening.blocks (home m' v) [] in
      let t = tuple_of m'.size frame in
      let c = is.clean v l refl in
      record {
        size = is.cells.size (place_in m'.entries v).0 (place_in m'.entries v).1 (is.lies.inside v l);
        none = passes_if m'.mode.app 0 (ref_tag (address_of m' v)) (crc (data_of m'.size frame)) t (from_both t (crc (data_of m'.size frame)) (ref_tag (address_of m' v)) (record { guard = c.guard; rtag = c.rtag refl })) (unmasked m'.mode.app t);
      }

  shown : detectable one (script_asks one half ops opening) opening ≡ true
  shown = all-shown m' (script_asks one half ops opening) opening (all-plain one half (count_of ops) (steps_from one 1 ops) (mirror_opened half opening) (ops-plain one 1 ops is.overwrites))

  run : IsMirrorRun one devices half ops opening
  run = record {
    checked = record { ty = refl; dix = refl; dif = refl; protect = refl; device = refl };
    unshifted = λ at op. refl;
    long = is.long;
    lies = record { inside = is.lies.inside; alone = is.lies.alone };
    cells = record { within = is.cells.within; apart = is.cells.apart; size = is.cells.size };
    clean = λ v l z. (let c = is.clean v l refl in record { no_escape = c.no_escape; guard = c.guard; app = c.app; rtag = c.rtag });
    equal = is.equal;
    bind = bound;
    no_escape = none_supplied one half ops opening is.escapes;
    accounted = all_accounted one (script_asks one half ops opening) opening shown;
    kept = all_kept one (script_asks one half ops opening) opening shown;
    one_good = one_good one half ops opening refl is.overwrites;
  }

  -- ---- the walks are the same

  along-front : (list : List Op) → AllBind one devices half (length opening.bytes) list → list_any is_overwrite list ≡ false
      → Along m' p some half (count_of ops) is.long apart (steps_from one 1 list) (mirror_opened half opening)
  along-front list h o =
      along m' p some half (count_of ops) is.long apart (steps_from one 1 list) (mirror_opened half opening) (ops-on m' p some half (count_of ops) is.long apart devices (length opening.bytes) 1 list h o) all-pass

  steps-same : (list : List Op) → steps_from mp 1 list ≡ steps_from one 1 list
  steps-same list = all-steps m' p some half (count_of ops) is.long apart 1 list

  walk-same : (list : List Op) → AllBind one devices half (length opening.bytes) list → list_any is_overwrite list ≡ false
      → plain (done mp half (count_of ops)) (steps_from mp 1 list) (mirror_opened half opening) ≡ plain (done one half (count_of ops)) (steps_from one 1 list) (mirror_opened half opening)
  walk-same list h o = ap (λ xs. plain (done mp half (count_of ops)) xs (mirror_opened half opening)) (steps-same list) ∙ (along-front list h o).walked

  newest-same : (b : Block) (past : List Event) → last_accepted mp opening b past ≡ last_accepted one opening b past
  newest-same b [] = refl
  newest-same b (Accepted a e ∷ past) = ap (λ (x : Brought). if eqb a.virt b.virt then e else x) (newest-same b past)
  newest-same b (Lost a ∷ past) = newest-same b past
  newest-same b (Overwritten cell ∷ past) = newest-same b past

  last-same : (list : List Op) (u : ℕ) → AllBind one devices half (length opening.bytes) list → list_any is_overwrite list ≡ false
      → last_of mp half (count_of ops) (steps_from mp 1 list) opening u ≡ last_of one half (count_of ops) (steps_from one 1 list) opening u
  last-same list u h o =
      let b : Block = record { op = 0; k = 0; virt = u } in
      ap (λ xs. last_accepted mp opening b (mirror_past mp half (count_of ops) xs (mirror_opened half opening) [])) (steps-same list)
      ∙ ap (last_accepted mp opening b) ((along-front list h o).past []) ∙ newest-same b (mirror_past one half (count_of ops) (steps_from one 1 list) (mirror_opened half opening) [])

  repair-is : mirror_repair mp half (mirror_walk mp half ops opening) ≡ mirror_repair one half (mirror_walk one half ops opening)
  repair-is =
      let w = mirror_walk one half ops opening in
      ap (mirror_repair mp half) (walk-same ops bound is.overwrites)
      ∙ repair-same m' p some half (count_of ops) is.long apart 0 half (record { blocks = w.state.blocks; marks = w.marks; repaired = 0; lost = 0 }) (omega arith) (along-front ops bound is.overwrites).pass

  read-so : (before after : List Op) (v n : ℕ) (body : List Seg) → ops ≡ before ++ (Fetch v n body ∷ after) → ReadsLast one half ops before v n body opening → ReadsLast mp half ops before v n body opening
  read-so before after v n body e r =
      let upto = before ++ (Fetch v n body ∷ []) in
      let split : ops ≡ upto ++ after = e ∙ sym (append_assoc before (Fetch v n body ∷ []) after) in
      let h = front-bind one devices half (length opening.bytes) upto after (subst (AllBind one devices half (length opening.bytes)) split bound) in
      let o = front-none upto after (sym (ap (list_any is_overwrite) split) ∙ is.overwrites) in
      let h' = front-bind one devices half (length opening.bytes) before (Fetch v n body ∷ []) h in
      let o' = front-none before (Fetch v n body ∷ []) o in
      record {
        reply = ap (λ (rs : List Reply). get_or rs (length before) Silent) (replies-same m' p some half (count_of ops) is.long apart devices (length opening.bytes) 1 ops (mirror_opened half opening) bound is.overwrites all-pass) ∙ r.reply;
        data_is = λ k l.
            ap (λ (s : Mirror). gather 0 (body_of m'.size body k) s.state.bytes) (walk-same upto h o) ∙ r.data_is k l ∙ sym (ap (λ (x : Brought). x.body) (last-same before (v + k) h' o'));
      }

  holds-so : (virt : ℕ) (e : Brought) (blocks : List (List ℕ)) → HoldsProper one virt e blocks → HoldsProper mp virt e blocks
  holds-so virt e blocks h = record { size = h.size; body = h.body; tuple = h.tuple }

  pub serves : ReadsLaw → EqualLaw → ServesLast mp half ops opening
  serves reads equal =
      let mended = equal one devices half ops opening run is.bytes in
      record {
        reads = λ before after v n body e.
            read-so before after v n body e
            (subst (λ (list : List Op). ReadsLast one half list before v n body opening) (sym e)
            (reads one devices half before after v n body opening (subst (λ (list : List Op). IsMirrorRun one devices half list opening) e run)));
        repaired = record {
          holds = λ u l leg.
              subst (λ (r : WalkedRepair). HoldsProper mp (on_leg leg u (half + u)) (last_of mp half (count_of ops) (steps_from mp 1 ops) opening u) r.blocks) (sym repair-is)
              (subst (λ (x : Brought). HoldsProper mp (on_leg leg u (half + u)) x (mirror_repair one half (mirror_walk one half ops opening)).blocks) (sym (last-same ops u bound is.overwrites))
              (holds-so (on_leg leg u (half + u)) (last_of one half (count_of ops) (steps_from one 1 ops) opening u) (mirror_repair one half (mirror_walk one half ops opening)).blocks (mended.holds u l leg)));
          marks = λ u l. ap (λ (r : WalkedRepair). marks_of r.marks u) repair-is ∙ mended.marks u l;
          lost = ap (λ (r : WalkedRepair). r.lost) repair-is ∙ mended.lost;
        };
      }

-- a setting without faults is its own form
still_form : (m : Setting) (devices : List DeviceInfo) (half : ℕ) (ops : List Op) (opening : State) → HasStillLegs m devices half ops opening → m ≡ still m m.mode.protect
still_form m devices half ops opening c = λ i. record m { mode = record m.mode { dix = c.dix i; dif = c.dif i }; ty = c.ty i; site = record m.site { faults = c.faults i; device = c.device i } }

pub serves_last : ReadsLaw → EqualLaw → (m : Setting) (devices : List DeviceInfo) (half : ℕ) (ops : List Op) (opening : State) → HasStillLegs m devices half ops opening → ServesLast m half ops opening
serves_last reads equal m devices half ops opening is =
    let e = still_form m devices half ops opening is in
    subst (λ (x : Setting). ServesLast x half ops opening) (sym e) (serves m m.mode.protect devices half ops opening (subst (λ (x : Setting). HasStillLegs x devices half ops opening) e is) reads equal)

-- A block over what stands on record of it, and the same block by its reply.
use Rattle.std.proofs.Common.{◌≡◌, ℕ, false, List, [], length, drop, get_or, Option, Some, None, refl, sym, ap, subst, ◌∙◌, arith}
use Rattle.std.specs.Prelude.{Result, Ok, Err}
use Rattle.page_pool.specs.Cells.{gather, scatter}
use Rattle.pi_tuple.specs.declared.checks.Check.{Check}
use Rattle.fault_schedule.specs.Altered.{altered}
use Rattle.fault_schedule.specs.declared.fault.Crossing.TheVariants.{AdapterToHost, HostToAdapter}
use Rattle.fault_schedule.specs.declared.fault.FaultLine.{FaultLine}
use Rattle.integrity_payload.specs.declared.payload.Owner.{Owner}
use Rattle.integrity_payload.specs.declared.payload.Owner.TheVariants.{Block as OfBlock, App as OfApp}
use Rattle.walk_laws.specs.Passed.{Reply, then_crossed, unless, Act, Effect, State, act, effect, seen, tell, ActAnswer, Sent, own_frame, read_block, read_by, stored_over, tuple_after, write_block, write_block_of_app, written_by, Route, medium_lba, told_by, stored_lba, Delivers, Spoils, Stops, WayIn, adapter_finds_in, at_host, delivered_unless, from_device, from_wire, owner_finds, owner_says, received, verified, way_in, Stores, WayOut, adapter_finds_out, from_adapter, goes_out, mapped_out, to_wire, Why, Adapter}
use Rattle.walk_laws.proofs.Passed.{over_whole}
use Rattle.walk_laws.specs.ScriptWalk.{act_of}
use Rattle.walk_laws.specs.Settings.{Setting, route}
use Rattle.walk_laws.specs.Steps.{Alters, Reads, Seals, Sets, Shows, Step, Writes, WritesPi}
use Rattle.walk_laws.specs.ReadsAs.{listed_in}
use Rattle.run_laws.specs.BackedRun.{HasEnd, HasEntry, IsFound, IsInTurn, IsListedAs, OfRead, OfRequest, PassesIn, host_finds, host_lists, is_outside}
use Rattle.run_laws.specs.Records.{end_in, entry_for, entry_in}
use Rattle.run_laws.specs.TakenWalk.{carried_of, frame_in, landed_of, taken_act, taken_in, taken_out}
use Rattle.run_laws.specs.ToldRun.{came_by, came_in, told}
use Rattle.run_laws.proofs.Labelled.{Filed}
use Rattle.small_laws.proofs.Tests.{never}

-- all that the sentences say of one block
pub record Fine (m : Setting) (es : List Sent) (a : ActAnswer) : Type 0 where
  pub delivered : OfRead (HasEntry es) a
  pub in_turn : OfRead (IsInTurn es) a
  pub passes : OfRead (PassesIn m es) a
  pub listed : OfRequest (IsListedAs es) a
  pub caused : OfRequest (HasEnd es) a
  pub spoiled : OfRead (IsFound m es) a

-- the walk that takes the replies does what the other does
record Mirrors (m : Setting) (es : List Sent) (one other : Effect ActAnswer) : Type 0 where
  written : other.written ≡ one.written
  of : other.answer.of ≡ one.answer.of
  why : other.answer.why ≡ one.answer.why
  shown : other.answer.shown ≡ one.answer.shown
  fine : Fine m es other.answer

no_some : {X : Type 0} {x : X} {P : Type 0} → Some x ≡ None → P
no_some h = absurd (grind (arith, h))

abbrev frame_or : Result (List ℕ) Why → List ℕ
frame_or (Ok frame) = frame
frame_or (Err why) = []

module _ (m : Setting) (es : List Sent) (r : Route) where
  abbrev faults : List FaultLine
  faults = m.site.faults

  -- by what the adapter finds, and by what came of the block
  abbrev out_by : Option Check → Result (List ℕ) Why → (carried : List ℕ) → WayOut
  out_by finds came carried = from_adapter (told_by (λ label. came)) r (unless finds carried)

  write_by : (finds : Option Check) (came : Result (List ℕ) Why) (frame back : List ℕ) (log : List (List ℕ)) → came_by es r.label ≡ came →
      let one = written_by r (out_by finds came (carried_of faults r frame)) back log in
      Filed es one.answer → Mirrors m es one (written_by r (taken_out faults r one.answer.why frame) back log)
  write_by (Some check) came frame back log e f = record {
    written = refl;
    of = refl;
    why = refl;
    shown = refl;
    fine = record { delivered = tt; in_turn = tt; passes = tt; listed = rw f tt; caused = λ h. never h; spoiled = tt };
  }
  write_by None (Err why) frame back log e f = record {
    written = refl;
    of = refl;
    why = refl;
    shown = refl;
    fine = record { delivered = tt; in_turn = tt; passes = tt; listed = rw f refl; caused = λ _. (why, rw f refl); spoiled = tt };
  }
  write_by None (Ok stored) frame back log e f =
      let same : carried_of faults r frame ≡ stored = ap frame_or (sym (ap came_in f) ∙ e) in
      record {
        written = ap (λ x. (written_by r (Stores (carried_of faults r frame) x) back log).written) same;
        of = refl;
        why = refl;
        shown = refl;
        fine = record { delivered = tt; in_turn = tt; passes = tt; listed = rw f tt; caused = tt; spoiled = tt };
      }

  write_mirrors : (frame back : List ℕ) (log : List (List ℕ)) →
      let one = written_by r (goes_out faults (told m es).site.device r (mapped_out r frame)) back log in
      Filed es one.answer → Mirrors m es one (written_by r (taken_out faults r one.answer.why frame) back log)
  unfolding to_wire
  write_mirrors frame back log f = write_by (adapter_finds_out r (altered faults HostToAdapter r.label (mapped_out r frame))) (came_by es r.label) frame back log refl f

  -- over a device that is told, what is stored stands in the cell
  over_mirrors : (old frame back : List ℕ) (log : List (List ℕ)) →
      let one = written_by r (goes_out faults (told m es).site.device r (mapped_out r frame)) back log in
      Filed es one.answer → Mirrors m es (stored_over (told m es).site r old one) (written_by r (taken_out faults r one.answer.why frame) back log)
  over_mirrors old frame back log f =
      let one = written_by r (goes_out faults (told m es).site.device r (mapped_out r frame)) back log in
      subst (λ (x : Effect ActAnswer). Mirrors m es x (written_by r (taken_out faults r one.answer.why frame) back log)) (sym (over_whole (told m es).site r old one (λ x. refl))) (write_mirrors frame back log f)

  inside : (owner : Owner) (check : Check) → is_outside (owner_says owner check) ≡ false
  inside OfBlock check = refl
  inside OfApp check = refl

  abbrev in_by : Owner → (a o : Option Check) → Result (List ℕ) Why → WayIn
  in_by owner a o (Err why) = Stops why
  in_by owner (Some check) o (Ok frame) = Spoils (Adapter check) frame
  in_by owner None (Some check) (Ok frame) = Spoils (owner_says owner check) frame
  in_by owner None None (Ok frame) = Delivers frame (landed_of faults r frame)

  abbrev found_by : (frame : List ℕ) → Owner → (a o : Option Check) → Type 0
  found_by frame owner a o = host_finds faults r owner frame ≡ host_lists owner a o

  read_by_cases : (owner : Owner) (a o : Option Check) (came : Result (List ℕ) Why) (size after : ℕ) → ((frame : List ℕ) → came ≡ Ok frame → found_by frame owner a o) →
      let one = read_by r owner (in_by owner a o came) size after in
      Filed es one.answer → Mirrors m es one (read_by r owner (taken_in faults r one.answer.why (frame_in (entry_for es r.label))) size after)
  read_by_cases owner a o (Err why) size after h f = record {
    written = refl;
    of = refl;
    why = refl;
    shown = refl;
    fine = record {
      delivered = λ e. no_some e;
      in_turn = λ e. no_some e;
      passes = λ e. no_some e;
      listed = rw f refl;
      caused = λ _. (why, ap end_in f);
      spoiled = λ _ e. no_some (sym (ap end_in f) ∙ e);
    };
  }
  read_by_cases owner (Some check) o (Ok frame) size after h f = record {
    written = refl;
    of = refl;
    why = refl;
    shown = refl;
    fine = record {
      delivered = λ e. no_some e;
      in_turn = λ e. no_some e;
      passes = λ e. no_some e;
      listed = rw f tt;
      caused = λ e. never e;
      spoiled = λ _ _. (record { frame = frame; after = after }, (ap entry_in f, h frame refl));
    };
  }
  read_by_cases owner None (Some check) (Ok frame) size after h f = record {
    written = refl;
    of = refl;
    why = refl;
    shown = refl;
    fine = record {
      delivered = λ e. no_some e;
      in_turn = λ e. no_some e;
      passes = λ e. no_some e;
      listed = rw f tt;
      caused = λ e. never (sym (inside owner check) ∙ e);
      spoiled = λ _ _. (record { frame = frame; after = after }, (ap entry_in f, h frame refl));
    };
  }
  read_by_cases owner None None (Ok frame) size after h f =
      let there : entry_for es r.label ≡ Some (record { frame = frame; after = after }) = ap entry_in f in
      rw there (record {
        written = refl;
        of = refl;
        why = refl;
        shown = refl;
        fine = record {
          delivered = λ _. (record { frame = frame; after = after }, there);
          in_turn = λ _. rw there refl;
          passes = λ _. rw there (h frame refl);
          listed = rw f tt;
          caused = tt;
          spoiled = tt;
        };
      })

  owner_is : (owner : Owner) (frame landed : List ℕ) (o : Option Check) → landed ≡ landed_of faults r frame → delivered_unless owner frame landed o ≡ in_by owner None o (Ok frame)
  owner_is owner frame landed None e = ap (λ x. Delivers frame x) e
  owner_is owner frame landed (Some check) e = refl

  adapter_is : (owner : Owner) (frame : List ℕ) (a : Option Check) →
      verified r owner (at_host frame (then_crossed faults (Some r.label) AdapterToHost (unless a (received r frame)))) ≡ in_by owner a (owner_finds r (landed_of faults r frame)) (Ok frame)
  adapter_is owner frame None = owner_is owner frame (landed_of faults r frame) (owner_finds r (landed_of faults r frame)) refl
  adapter_is owner frame (Some check) = refl

  read_mirrors : (owner : Owner) (stored : List ℕ) (size after : ℕ) →
      let one = read_by r owner (way_in faults (told m es).site.device r owner stored) size after in
      Filed es one.answer → Mirrors m es one (read_by r owner (taken_in faults r one.answer.why (frame_in (entry_for es r.label))) size after)
  unfolding from_wire
  read_mirrors owner stored size after f = by (came_by es r.label) f where
    same : (frame other : List ℕ) → frame ≡ other → found_by other owner (adapter_finds_in r frame) (owner_finds r (landed_of faults r frame))
    same frame other e = subst (λ x. found_by x owner (adapter_finds_in r frame) (owner_finds r (landed_of faults r frame))) e refl

    by : (came : Result (List ℕ) Why) →
        let one = read_by r owner (verified r owner (from_device faults r came)) size after in
        Filed es one.answer → Mirrors m es one (read_by r owner (taken_in faults r one.answer.why (frame_in (entry_for es r.label))) size after)
    by (Err why) f = read_by_cases owner None None (Err why) size after (λ frame e. no_ok e) f where
      no_ok : {frame : List ℕ} {P : Type 0} → Err why ≡ Ok frame → P
      no_ok e = absurd (grind (arith, e))
    by (Ok frame) f =
        let way = adapter_is owner frame (adapter_finds_in r frame) in
        let a = adapter_finds_in r frame in
        let o = owner_finds r (landed_of faults r frame) in
        let g : Filed es (read_by r owner (in_by owner a o (Ok frame)) size after).answer = subst (λ way. Filed es (read_by r owner way size after).answer) way f in
        subst (λ way. Mirrors m es (read_by r owner way size after) (read_by r owner (taken_in faults r (read_by r owner way size after).answer.why (frame_in (entry_for es r.label))) size after)) (sym way)
        (read_by_cases owner a o (Ok frame) size after (λ other e. same frame other (ap frame_or e)) g)

-- the same of two acts
pub record Mirror (m : Setting) (es : List Sent) (a b : Act ActAnswer) (s : State) : Type 0 where
  pub state : act b s ≡ act a s
  pub of : (tell b s).of ≡ (tell a s).of
  pub why : (tell b s).why ≡ (tell a s).why
  pub shown : (tell b s).shown ≡ (tell a s).shown
  pub fine : Fine m es (tell b s)

by_effects : (m : Setting) (es : List Sent) (a : Act ActAnswer) (other : State → Effect ActAnswer) (s : State) → Mirrors m es (effect a s) (other (seen a s)) → Mirror m es a (record a { compute = other }) s
by_effects m es a other s h = record {
  state = ap (λ w. leaves w) h.written;
  of = h.of;
  why = h.why;
  shown = h.shown;
  fine = h.fine;
}
  where
    leaves : State → State
    leaves w = record {
      bytes = scatter a.bytes.writes w.bytes s.bytes;
      blocks = scatter a.blocks.writes w.blocks s.blocks;
      logs = scatter a.logs.writes w.logs s.logs;
      fates = scatter a.fates.writes w.fates s.fates;
    }

-- what a reply says of a step's block is what its act answers
abbrev pub SaysOf : Reply → Step → ActAnswer → Type 0
SaysOf reply (Sets at values) a = Unit {0}
SaysOf reply (Shows at) a = Unit {0}
SaysOf reply (Seals body tuple app rtag) a = Unit {0}
SaysOf reply (Writes b app body) a = listed_in reply b.k ≡ a.why
SaysOf reply (WritesPi b frame) a = listed_in reply b.k ≡ a.why
SaysOf reply (Reads b owner to) a = listed_in reply b.k ≡ a.why
SaysOf reply (Alters dev lba change) a = Unit {0}

quiet_fine : (m : Setting) (es : List Sent) (a : ActAnswer) → a.of ≡ None → Fine m es a
quiet_fine m es a h = record { delivered = rw h tt; in_turn = rw h tt; passes = rw h tt; listed = rw h tt; caused = rw h tt; spoiled = rw h tt }

quiet : (m : Setting) (es : List Sent) (a : Act ActAnswer) (s : State) → (tell a s).of ≡ None → Mirror m es a a s
quiet m es a s h = record { state = refl; of = refl; why = refl; shown = refl; fine = quiet_fine m es (tell a s) h }

module _ (m : Setting) (es : List Sent) where
  pub mirrored : (reply : Reply) (step : Step) (s : State) → Filed es (tell (act_of (told m es) step) s) → SaysOf reply step (tell (act_of (told m es) step) s) →
      Mirror m es (act_of (told m es) step) (taken_act m es reply step) s
  mirrored reply (Sets at values) s f says = quiet m es _ s refl
  mirrored reply (Shows at) s f says = quiet m es _ s refl
  mirrored reply (Seals body tuple app rtag) s f says = quiet m es _ s refl
  mirrored reply (Writes b app body) s f says =
      let r = route m b in
      let a = write_block (told m es).site r app body in
      let frame = own_frame r app (gather 0 body s.bytes) in
      let log = get_or s.logs (m.site.cell r.dev r.lba) [] in
      by_effects m es a (λ seen. written_by r (taken_out m.site.faults r (listed_in reply b.k) (own_frame r app seen.bytes)) [] (get_or seen.logs 0 [])) s
      (subst (λ why. Mirrors m es (effect a s) (written_by r (taken_out m.site.faults r why frame) [] log)) (sym says) (over_mirrors m es r (get_or s.blocks (m.site.cell r.dev (stored_lba m.site.faults r)) []) frame [] log f))
  mirrored reply (WritesPi b at) s f says =
      let r = route m b in
      let a = write_block_of_app (told m es).site r at in
      let frame = gather 0 at s.bytes in
      let log = get_or s.logs (m.site.cell r.dev r.lba) [] in
      by_effects m es a (λ seen. written_by r (taken_out m.site.faults r (listed_in reply b.k) seen.bytes) (tuple_after r (drop m.size seen.bytes)) (get_or seen.logs 0 [])) s
      (subst (λ why. Mirrors m es (effect a s) (written_by r (taken_out m.site.faults r why frame) (tuple_after r (drop m.size frame)) log)) (sym says) (over_mirrors m es r (get_or s.blocks (m.site.cell r.dev (stored_lba m.site.faults r)) []) frame (tuple_after r (drop m.size frame)) log f))
  mirrored reply (Reads b owner to) s f says =
      let r = route m b in
      let a = read_block (told m es).site r owner to in
      let stored = get_or s.blocks (m.site.cell r.dev (medium_lba m.site.faults r)) [] in
      let after = length (get_or s.logs (m.site.cell r.dev r.lba) []) in
      by_effects m es a (λ seen. read_by r owner (taken_in m.site.faults r (listed_in reply b.k) (frame_in (entry_for es r.label))) (length to) (length (get_or seen.logs 0 []))) s
      (subst (λ why. Mirrors m es (effect a s) (read_by r owner (taken_in m.site.faults r why (frame_in (entry_for es r.label))) (length to) after)) (sym says) (read_mirrors m es r owner stored (length to) after f))
  mirrored reply (Alters dev lba change) s f says = quiet m es _ s refl

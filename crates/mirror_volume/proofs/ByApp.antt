-- Blocks of a read that the application verifies, one after another: they answer and leave what the block layer's would, and their tuples land too.
use Rattle.std.proofs.Common.{◌≡◌, ◌<◌, ◌≤◌, ℕ, zero, suc, Bool, true, false, ◌+◌, ◌*◌, List, [], ◌∷◌, ◌++◌, length, map, get_or, replicate, take, drop, Option, Some, None, refl, sym, ap, subst, ◌∙◌, arith, append_assoc, length-append}
use Rattle.std.specs.Prelude.{IfOk, Result, Ok, Err}
use Rattle.std.proofs.lemmas.List.{drop-append-le, drop-drop, drop_at, length-drop, length-replicate, length-take-le, replicate-append-replicate, take_all, take_at}
use Rattle.page_pool.specs.Cells.{gather, scatter}
use Rattle.range_gate.specs.Cells.{in_turn}
use Rattle.pi_tuple.specs.declared.checks.Check.{Check}
use Rattle.fault_schedule.specs.declared.fault.FaultLine.{FaultLine}
use Rattle.integrity_payload.specs.declared.payload.Owner.TheVariants.{App as OfApp, Block as OfBlock}
use Rattle.bio_core.specs.declared.fate.Why.{Why}
use Rattle.rig_api.specs.Passing.{from_medium}
use Rattle.block_path.specs.Acts.{State, act, tell}
use Rattle.block_path.specs.Blocks.{fetched_cell, read_by}
use Rattle.fault_schedule.specs.Altered.{fails_of}
use Rattle.block_path.specs.Routes.{Device, by_target, passage, sends_unless, target}
use Rattle.block_path.specs.Serial.{plain, plain_tells}
use Rattle.block_path.specs.WayIn.{Delivers, Spoils, Stops, WayIn, at_host, comes_in, delivered_of, delivered_unless, from_device, from_wire, mapped_back, owner_finds, verified}
use Rattle.block_path.specs.declared.route.Route.{Route}
use Rattle.block_path.proofs.Cells.{scatter_append}
use Rattle.walk_laws.specs.ScriptWalk.{act_of}
use Rattle.walk_laws.specs.Settings.{Block, Setting, route}
use Rattle.walk_laws.specs.Steps.{Reads, Step, each_from}
use Rattle.mirror_laws.specs.OnLegs.{data_read, landed_by, why_of, whys_read}
use Rattle.mirror_laws.specs.Repair.{reading}
use Rattle.mirror_volume.specs.Legs.{by_app, tuple_landed, tuples_read}
use Rattle.mirror_volume.proofs.Blocks.{Alike}
use Rattle.mirror_volume.proofs.Turns.{scattered}
use Rattle.run_laws.proofs.Turns.{turn_length}

-- ---- who verifies a block

bytes_same : (r : Route) (came : WayIn) (n after : ℕ) → (read_by r OfApp (verified r OfApp came) n after).written.bytes ≡ (read_by r OfBlock (verified r OfBlock came) n after).written.bytes
bytes_same r (Stops why) n after = refl
bytes_same r (Spoils why carried) n after = refl
bytes_same r (Delivers carried frame) n after = by (owner_finds r (mapped_back r frame)) where
  by : (o : Option Check) →
      (read_by r OfApp (delivered_unless OfApp carried (mapped_back r frame) o) n after).written.bytes ≡ (read_by r OfBlock (delivered_unless OfBlock carried (mapped_back r frame) o) n after).written.bytes
  by None = refl
  by (Some check) = refl

-- what was found before wasn't by the owner
abbrev NotByOwner : WayIn → Type 0
NotByOwner (Stops why) = by_app (Some why) ≡ Some why
NotByOwner (Spoils why carried) = by_app (Some why) ≡ Some why
NotByOwner (Delivers carried frame) = Unit {0}

why_same : (r : Route) (came : WayIn) (n after : ℕ) → NotByOwner came → (read_by r OfApp (verified r OfApp came) n after).answer.why ≡ by_app (why_of (delivered_of (verified r OfBlock came)))
why_same r (Stops why) n after h = sym h
why_same r (Spoils why carried) n after h = sym h
why_same r (Delivers carried frame) n after h = by (owner_finds r (mapped_back r frame)) where
  by : (o : Option Check) →
      (read_by r OfApp (delivered_unless OfApp carried (mapped_back r frame) o) n after).answer.why ≡ by_app (why_of (delivered_of (delivered_unless OfBlock carried (mapped_back r frame) o)))
  by None = refl
  by (Some check) = refl

host_finds : (carried : List ℕ) (came : Result (List ℕ) Check) → NotByOwner (at_host carried came)
host_finds carried (Ok frame) = tt
host_finds carried (Err check) = refl

target_finds : (faults : List FaultLine) (r : Route) (broken : Bool) (came : Result (List ℕ) Check) → NotByOwner (from_device faults r (sends_unless broken (by_target came)))
target_finds faults r true came = refl
target_finds faults r false (Ok carried) = host_finds carried (from_wire faults r carried)
target_finds faults r false (Err check) = refl

none_by_owner : (faults : List FaultLine) (r : Route) (x : List ℕ) → NotByOwner (comes_in faults (target faults) r x)
none_by_owner faults r x = target_finds faults r (fails_of faults r.label) (from_medium faults (passage faults r) x)

-- ---- what lands: data and tuple

abbrev IsWhole : (size : ℕ) → Result (List ℕ) Why → Type 0
IsWhole size came = IfOk came (λ frame. length frame ≡ size + 8)

record LandsBoth (size : ℕ) (values landed tuple : List ℕ) : Type 0 where
  long : length values ≡ size + 8
  front : take size values ≡ landed
  back : drop size values ≡ tuple

zeros_both : (size n : ℕ) → n ≡ size + 8 → LandsBoth size (replicate n 0) (replicate size 0) (replicate 8 0)
zeros_both size n e =
    let l = length-replicate {A = ℕ} size 0 in
    let z : replicate {A = ℕ} n 0 ≡ replicate size 0 ++ replicate 8 0 = ap (λ (k : ℕ). replicate k 0) e ∙ sym (replicate-append-replicate size 8 0) in
    record {
      long = length-replicate {A = ℕ} n 0 ∙ e;
      front = ap (take size) z ∙ take_at (replicate size 0) (replicate 8 0) size l;
      back = ap (drop size) z ∙ drop_at (replicate size 0) (replicate 8 0) size l;
    }

lands : (r : Route) (w : WayIn) (size n after : ℕ) → n ≡ size + 8 → IsWhole size (delivered_of w) →
    LandsBoth size (read_by r OfBlock w n after).written.bytes (landed_by size (delivered_of w)) (tuple_landed size (delivered_of w))
lands r (Stops why) size n after e h = zeros_both size n e
lands r (Spoils why carried) size n after e h = zeros_both size n e
lands r (Delivers carried frame) size n after e h = record { long = h; front = refl; back = refl }

landed_at : (r : Route) (w : WayIn) (size n after : ℕ) (came : Result (List ℕ) Why) → n ≡ size + 8 → delivered_of w ≡ came → IsWhole size came →
    LandsBoth size (read_by r OfBlock w n after).written.bytes (landed_by size came) (tuple_landed size came)
landed_at r w size n after came z e h =
    subst (λ x. LandsBoth size (read_by r OfBlock w n after).written.bytes (landed_by size x) (tuple_landed size x)) e (lands r w size n after z (subst (IsWhole size) (sym e) h))

tuple_long : (size : ℕ) (came : Result (List ℕ) Why) → IsWhole size came → length (tuple_landed size came) ≡ 8
tuple_long size (Ok frame) h = let d = length-drop size frame in omega (arith, d, h)
tuple_long size (Err why) h = refl

-- ---- into two places of the pages

regrouped : (a b c d e f : List ℕ) → (a ++ (b ++ (c ++ d))) ++ (e ++ f) ≡ (a ++ b) ++ (c ++ ((d ++ e) ++ f))
regrouped a b c d e f =
    append_assoc a (b ++ (c ++ d)) (e ++ f)
    ∙ ap (λ t. a ++ t) (append_assoc b (c ++ d) (e ++ f) ∙ ap (λ t. b ++ t) (append_assoc c d (e ++ f) ∙ ap (λ t. c ++ t) (sym (append_assoc d e f))))
    ∙ sym (append_assoc a b (c ++ ((d ++ e) ++ f)))

-- the bytes of a block go behind `pre`, and those of its tuple behind all before `told`
two_parts : (pre mid before told values : List ℕ) (size : ℕ) → length values ≡ size + 8 → size ≤ length mid → 8 ≤ length told →
    scatter (in_turn (length pre) size ++ in_turn (length pre + (length mid + length before)) 8) values (pre ++ (mid ++ (before ++ told)))
    ≡ (pre ++ take size values) ++ (drop size mid ++ ((before ++ drop size values) ++ drop 8 told))
two_parts pre mid before told values size v m t =
    let at = length pre + (length mid + length before) in
    let cells = pre ++ (mid ++ (before ++ told)) in
    let body = take size values in
    let tuple = drop size values in
    let gap = drop size mid in
    let front = pre ++ (body ++ (gap ++ before)) in
    let long : length tuple ≡ 8 = (let d = length-drop size values in omega (arith, d, v)) in
    let all : length front ≡ at =
    (let a = length-append pre (body ++ (gap ++ before)) in let b = length-append body (gap ++ before) in let c = length-append gap before in let d = length-drop size mid in
    let e = length-take-le size values (omega (arith, v)) in omega (arith, a, b, c, d, e, m)) in
    let rest : size ≤ length (mid ++ (before ++ told)) = (let a = length-append mid (before ++ told) in omega (arith, a, m)) in
    scatter_append (in_turn (length pre) size) (in_turn at 8) values cells
    ∙ ap (λ k. scatter (in_turn at 8) (drop k values) (scatter (in_turn (length pre) size) values cells)) (turn_length (length pre) size)
    ∙ ap (scatter (in_turn at 8) tuple)
    (scattered pre values (mid ++ (before ++ told)) size (omega (arith, v)) rest
    ∙ ap (λ x. pre ++ (body ++ x)) (drop-append-le size mid (before ++ told) m ∙ sym (append_assoc gap before told))
    ∙ ap (λ x. pre ++ x) (sym (append_assoc body (gap ++ before) told)) ∙ sym (append_assoc pre (body ++ (gap ++ before)) told))
    ∙ ap (λ k. scatter (in_turn k 8) tuple (front ++ told)) (sym all)
    ∙ scattered front tuple told 8 (omega (arith, long)) t
    ∙ ap (λ x. front ++ (x ++ drop 8 told)) (take_all 8 tuple (omega (arith, long)))
    ∙ regrouped pre body gap before tuple (drop 8 told)

-- what stands in the pages after all blocks, by what does after the first
after_first : (pre one others gap before tuple tuples rest : List ℕ) →
    (pre ++ one) ++ (others ++ (gap ++ ((before ++ tuple) ++ (tuples ++ rest)))) ≡ pre ++ ((one ++ others) ++ (gap ++ (before ++ ((tuple ++ tuples) ++ rest))))
after_first pre one others gap before tuple tuples rest =
    append_assoc pre one (others ++ (gap ++ ((before ++ tuple) ++ (tuples ++ rest))))
    ∙ ap (λ t. pre ++ (one ++ (others ++ (gap ++ t)))) (append_assoc before tuple (tuples ++ rest) ∙ ap (λ t. before ++ t) (sym (append_assoc tuple tuples rest)))
    ∙ ap (λ t. pre ++ t) (sym (append_assoc one others (gap ++ (before ++ ((tuple ++ tuples) ++ rest)))))

-- ---- blocks, one after another

module _ (own m : Setting) (there : own.site.device ≡ target own.site.faults) (f g : ℕ → Block) (body tuple : ℕ → List ℕ) (first : ℕ) where
  abbrev read_at : ℕ → Step
  read_at k = Reads (f k) OfApp (body k ++ tuple k)

  -- The data land behind `pre` in the place of `mid`, and the tuples behind `before` in that of `told`.
  pub record AreReadPi (j n : ℕ) (pre mid before told : List ℕ) (s : State) : Type 0 where
    pub whys : map (λ a. a.why) (plain_tells act tell (map (act_of own) (each_from j n read_at)) s) ≡ map by_app (whys_read m (each_from j n g) s.blocks)
    pub blocks : (plain act (map (act_of own) (each_from j n read_at)) s).blocks ≡ s.blocks
    pub bytes : (plain act (map (act_of own) (each_from j n read_at)) s).bytes
        ≡ pre ++ (data_read m (each_from j n g) s.blocks ++ (drop (n * m.size) mid ++ (before ++ (tuples_read m (each_from j n g) s.blocks ++ drop (n * 8) told))))
    pub long : length (data_read m (each_from j n g) s.blocks) ≡ n * m.size
    pub tuples_long : length (tuples_read m (each_from j n g) s.blocks) ≡ n * 8

  pub all_read_pi : (j n : ℕ) (pre mid before told : List ℕ) (s : State) → s.bytes ≡ pre ++ (mid ++ (before ++ told)) → length pre ≡ j * m.size → length pre + (length mid + length before) ≡ first + j * 8 →
      n * m.size ≤ length mid → n * 8 ≤ length told → ((k : ℕ) → j ≤ k → k < j + n → Alike own m (f k) (g k)) → ((k : ℕ) → j ≤ k → k < j + n → body k ≡ in_turn (k * m.size) m.size) →
      ((k : ℕ) → j ≤ k → k < j + n → tuple k ≡ in_turn (first + k * 8) 8) → ((k : ℕ) → j ≤ k → k < j + n → IsWhole m.size (reading m (g k) s.blocks)) → AreReadPi j n pre mid before told s
  all_read_pi j zero pre mid before told s e p q l t alike bodies tuples whole =
      let z : 0 ≡ 0 * m.size = omega arith in record { whys = refl; blocks = refl; bytes = e ∙ ap (λ v. pre ++ (drop v mid ++ (before ++ told))) z; long = z; tuples_long = refl }
  all_read_pi j (suc n) pre mid before told s e p q l t alike bodies tuples whole =
      let size = m.size in
      let once : suc n * size ≡ size + n * size = omega arith in
      let a = alike j (omega arith) (omega arith) in
      let r = route own (f j) in
      let x = get_or s.blocks (fetched_cell own.site r) [] in
      let came = comes_in own.site.faults own.site.device r x in
      let w = verified r OfBlock came in
      let come = reading m (g j) s.blocks in
      let same : delivered_of w ≡ come = a.reads s.blocks in
      let fine = whole j (omega arith) (omega arith) in
      let at-body : body j ≡ in_turn (length pre) size = bodies j (omega arith) (omega arith) ∙ ap (λ v. in_turn v size) (sym p) in
      let at-tuple : tuple j ≡ in_turn (length pre + (length mid + length before)) 8 = tuples j (omega arith) (omega arith) ∙ ap (λ v. in_turn v 8) (sym q) in
      let n1 : length (body j) ≡ size = ap length at-body ∙ turn_length (length pre) size in
      let n2 : length (tuple j) ≡ 8 = ap length at-tuple ∙ turn_length (length pre + (length mid + length before)) 8 in
      let many = length (body j ++ tuple j) in
      let size-is : many ≡ size + 8 = (let c = length-append (body j) (tuple j) in omega (arith, c, n1, n2)) in
      let after = length (get_or (gather [] ((act_of own (read_at j)).logs.reads) s.logs) 0 []) in
      let both = landed_at r w size many after come size-is same fine in
      let values = (read_by r OfBlock w many after).written.bytes in
      let one = landed_by size come in
      let its = tuple_landed size come in
      let z : length one ≡ size = ap length (sym both.front) ∙ length-take-le size values (let b = both.long in omega (arith, b)) in
      let y : length its ≡ 8 = tuple_long size come fine in
      let next = act (act_of own (read_at j)) s in
      let bytes : next.bytes ≡ (pre ++ one) ++ (drop size mid ++ ((before ++ its) ++ drop 8 told)) =
      ap (λ (v : List ℕ). scatter (body j ++ tuple j) v s.bytes) (bytes_same r came many after)
      ∙ (λ i. scatter (at-body i ++ at-tuple i) values (e i))
      ∙ two_parts pre mid before told values size both.long (omega (arith, l, once)) (omega (arith, t))
      ∙ (λ i. (pre ++ both.front i) ++ (drop size mid ++ ((before ++ both.back i) ++ drop 8 told))) in
      let d1 = length-drop size mid in
      let d2 = length-drop 8 told in
      let c1 = length-append pre one in
      let c2 = length-append before its in
      let up : suc j * size ≡ j * size + size = omega arith in
      let rest = all_read_pi (suc j) n (pre ++ one) (drop size mid) (before ++ its) (drop 8 told) next bytes (omega (arith, c1, z, p, up)) (omega (arith, c1, c2, d1, z, y, q, l, once)) (omega (arith, d1, l, once)) (omega (arith, d2, t))
      (λ k h b. alike k (omega (arith, h)) (omega (arith, b))) (λ k h b. bodies k (omega (arith, h)) (omega (arith, b))) (λ k h b. tuples k (omega (arith, h)) (omega (arith, b)))
      (λ k h b. whole k (omega (arith, h)) (omega (arith, b))) in
      let not-owner : NotByOwner came = subst (λ (v : Device). NotByOwner (comes_in own.site.faults v r x)) (sym there) (none_by_owner own.site.faults r x) in
      let why : (tell (act_of own (read_at j)) s).why ≡ by_app (why_of come) = why_same r came many after not-owner ∙ ap (λ v. by_app (why_of v)) same in
      let others = data_read m (each_from (suc j) n g) s.blocks in
      let theirs = tuples_read m (each_from (suc j) n g) s.blocks in
      let far : size + n * size ≡ suc n * size = omega arith in
      let eights : 8 + n * 8 ≡ suc n * 8 = omega arith in
      record {
        whys = λ i. why i ∷ rest.whys i;
        blocks = rest.blocks;
        long = (let c = length-append one others in let b = rest.long in omega (arith, c, b, z, once));
        tuples_long = (let c = length-append its theirs in let b = rest.tuples_long in omega (arith, c, b, y));
        bytes =
            rest.bytes
            ∙ after_first pre one others (drop (n * size) (drop size mid)) before its theirs (drop (n * 8) (drop 8 told))
            ∙ ap (λ v. pre ++ ((one ++ others) ++ (v ++ (before ++ ((its ++ theirs) ++ drop (n * 8) (drop 8 told)))))) (drop-drop (n * size) size mid ∙ ap (λ v. drop v mid) far)
            ∙ ap (λ v. pre ++ ((one ++ others) ++ (drop (suc n * size) mid ++ (before ++ ((its ++ theirs) ++ v))))) (drop-drop (n * 8) 8 told ∙ ap (λ v. drop v told) eights);
      }

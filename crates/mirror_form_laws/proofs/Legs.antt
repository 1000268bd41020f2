-- Where no block is named on both legs, each has a leg on which nothing alters it, and whose medium does what is asked of it.
use Rattle.std.proofs.Common.{◌≡◌, ◌<◌, ℕ, zero, suc, ◌+◌, ◌-◌, ◌%◌, ◌^◌, Bool, true, false, ◌&&◌, not, eqb, if◌then◌else◌, List, [], ◌∷◌, ◌++◌, get_or, None, refl, sym, ap, subst, ◌∙◌, arith}
use Rattle.std.specs.Prelude.{nat_lt}
use Rattle.std.specs.List.{list_all, list_any}
use Rattle.std.proofs.lemmas.Bool.{and_from, and_parts, eq-eqb, eqb-true, lt-ltb, not-true, false≢true, false_from_ne_true, or_parts}
use Rattle.fault_schedule.specs.Altered.{fails_by, is_fail, is_line_of, is_same, keep_of, keep_or, kept_bytes}
use Rattle.fault_schedule.specs.declared.fault.Crossing.TheVariants.{TargetToMedium}
use Rattle.fault_schedule.specs.declared.fault.FaultLine.{FaultLine}
use Rattle.integrity_payload.specs.declared.payload.Owner.{Owner}
use Rattle.integrity_payload.specs.declared.payload.Owner.TheVariants.{Block as OfBlock, App as OfApp}
use Rattle.stack_ops.specs.declared.op.Op.{Op}
use Rattle.stack_ops.specs.declared.op.Op.TheVariants.{Fetch, FetchPi, Fill, Overwrite, Put, Seal, Show, Wait, Write, WritePi}
use Rattle.block_path.specs.Acts.{State}
use Rattle.walk_laws.specs.FirstLayer.{is_all, is_flip, is_served}
use Rattle.walk_laws.specs.Past.{steps_from}
use Rattle.walk_laws.specs.Settings.{Block, Setting, block_of, route}
use Rattle.walk_laws.specs.Steps.{Alters, Reads, Seals, Sets, Shows, Step, Writes, WritesPi, body_of, each_from, frame_at, steps_of, tuple_of}
use Rattle.stack_ops.specs.Ops.{first_virt, is_overwrite}
use Rattle.run_premises.specs.Forms.{op_of}
use Rattle.run_premises.proofs.Lines.{line_of, none_of, pick}
use Rattle.mirror_laws.specs.Mirror.{Mirror, all_asked, asked, asks, blocks_in, count_of, done, mirror_opened, twin}
use Rattle.mirror_laws.specs.OneGood.{AllServe, AllSpare, HasGoodLeg, IsUnnamed, OneGood, Serves, on_leg, script_asks, stores_all}
use Rattle.mirror_form_laws.specs.Forms.{is_named, names_virt, spares_other_leg, virt_in, virt_on_legs}
use Rattle.mirror_form_laws.proofs.Places.{on_leg0, on_leg1}

module _ (m : Setting) (half : ℕ) (ops : List Op) where
  -- a line that says something of the block names its virtual block
  names : (b : Block) (line : FaultLine) → (eqb line.op b.op && eqb line.k b.k) ≡ true → virt_in half (op_of ops b.op) b.k ≡ b.virt → names_virt half ops b.virt line ≡ true
  names b line h e =
      let p = and_parts (eqb line.op b.op) (eqb line.k b.k) h in
      let same : virt_on_legs half ops line ≡ virt_in half (op_of ops b.op) b.k = λ i. virt_in half (op_of ops (eqb-true line.op b.op p.0 i)) (eqb-true line.k b.k p.1 i) in
      eq-eqb (virt_on_legs half ops line) b.virt (same ∙ e)

  -- no line says that the medium fails the block, or stores a part of it
  served : (b : Block) → virt_in half (op_of ops b.op) b.k ≡ b.virt → is_named half ops m.site.faults b.virt ≡ false → is_served m b ≡ true
  served b e h =
      ap not (none_of (λ line. fails_by line (route m b).label) (names_virt half ops b.virt) m.site.faults
      (λ line t. names b line (and_parts (is_fail line.kind) (eqb line.op b.op && eqb line.k b.k) t).1 e) h)

  all_kept : (b : Block) (lines : List FaultLine) → virt_in half (op_of ops b.op) b.k ≡ b.virt → is_named half ops lines b.virt ≡ false → keep_of lines (route m b).label ≡ None
  all_kept b [] e h = refl
  all_kept b (line ∷ lines) e h =
      let none = or_parts (names_virt half ops b.virt line) (is_named half ops lines b.virt) h in
      ap (λ c. keep_or (if c then kept_bytes line.kind else None) (keep_of lines (route m b).label))
      (false_from_ne_true (is_line_of line TargetToMedium (route m b).label) (λ t. false≢true (sym none.0 ∙ names b line (and_parts (is_same line.at TargetToMedium) (eqb line.op b.op && eqb line.k b.k) t).1 e)))
      ∙ all_kept b lines e none.1

  stored : (b : Block) → virt_in half (op_of ops b.op) b.k ≡ b.virt → is_named half ops m.site.faults b.virt ≡ false → stores_all m b ≡ true
  stored b e h = and_from (is_served m b) (is_all (keep_of m.site.faults (route m b).label)) (served b e h) (ap is_all (all_kept b m.site.faults e h))

  -- ---- what a script asks of the legs of a block that no line names

  -- both blocks that a step asks for are those that its op names at their places
  abbrev OnPlace : Block → Type 0
  OnPlace b = virt_in half (op_of ops b.op) b.k ≡ b.virt

  abbrev OnPlaces : Block → Type 0
  OnPlaces b = OnPlace b × OnPlace (twin m half (count_of ops) b)

  abbrev Asks : Step → Type 0
  Asks (Sets at values) = Unit {0}
  Asks (Shows at) = Unit {0}
  Asks (Seals body tuple app rtag) = Unit {0}
  Asks (Writes b app body) = OnPlaces b
  Asks (WritesPi b frame) = Unit {0}
  Asks (Reads b owner to) = OnPlaces b
  Asks (Alters dev lba change) = Unit {0}

  abbrev AllAsk : List Step → Type 0
  AllAsk [] = Unit {0}
  AllAsk (step ∷ steps) = Asks step × AllAsk steps

  both_ask : (xs ys : List Step) → AllAsk xs → AllAsk ys → AllAsk (xs ++ ys)
  both_ask [] ys h k = k
  both_ask (x ∷ xs) ys h k = (h.0, both_ask xs ys h.1 k)

  each_asks : (k n : ℕ) (f : ℕ → Step) → ((j : ℕ) → j < k + n → Asks (f j)) → AllAsk (each_from k n f)
  each_asks k zero f h = tt
  each_asks k (suc n) f h = (h k (omega arith), each_asks (suc k) n f (λ j l. h j (omega (arith, l))))

  on_places : (i : ℕ) (op : Op) (j : ℕ) → op_of ops i ≡ op → j < blocks_in op → OnPlaces (block_of i (first_virt op) j)
  on_places i op j e l = (ap (λ o. virt_in half o j) e ∙ on_leg0 half op j l, ap (λ o. virt_in half o (blocks_in o + j)) e ∙ on_leg1 half op j)

  op_asks : (i : ℕ) (op : Op) → op_of ops i ≡ op → AllAsk (steps_of m i op)
  op_asks i (Fill seg byte) e = (tt, tt)
  op_asks i (Put page off bytes) e = (tt, tt)
  op_asks i (Show seg) e = (tt, tt)
  op_asks i (Seal n body tuples app rtag) e = each_asks 0 n (λ k. Seals (body_of m.size body k) (tuple_of tuples k) app ((rtag + k) % 2 ^ 32)) (λ j l. tt)
  op_asks i (Write v n body app) e = each_asks 0 n (λ k. Writes (block_of i v k) app (body_of m.size body k)) (λ j l. on_places i (Write v n body app) j e (omega (arith, l)))
  op_asks i (Fetch v n body) e = each_asks 0 n (λ k. Reads (block_of i v k) OfBlock (body_of m.size body k)) (λ j l. on_places i (Fetch v n body) j e (omega (arith, l)))
  op_asks i (WritePi v n body tuples) e = each_asks 0 n (λ k. WritesPi (block_of i v k) (frame_at m.size body tuples k)) (λ j l. tt)
  op_asks i (FetchPi v n body tuples) e = each_asks 0 n (λ k. Reads (block_of i v k) OfApp (frame_at m.size body tuples k)) (λ j l. on_places i (FetchPi v n body tuples) j e (omega (arith, l)))
  op_asks i (Overwrite dev lba change) e = (tt, tt)
  op_asks i Wait e = tt

  -- the ops from op i on are the rest
  ops_ask : (i : ℕ) (rest : List Op) → ((j : ℕ) → op_of ops (i + j) ≡ get_or rest j Wait) → AllAsk (steps_from m i rest)
  ops_ask i [] e = tt
  ops_ask i (op ∷ rest) e =
      let first : op_of ops i ≡ op = (let z : i ≡ i + 0 = omega arith in ap (op_of ops) z ∙ e 0) in
      both_ask (steps_of m i op) (steps_from m (suc i) rest) (op_asks i op first)
      (ops_ask (suc i) rest (λ j. let z : suc i + j ≡ i + suc j = omega arith in ap (op_of ops) z ∙ e (suc j)))

  module _ (virt : ℕ) (none : is_named half ops m.site.faults virt ≡ false) where
    write_serves : (b : Block) (app : ℕ) (body : List ℕ) → OnPlace b → Serves m virt (Writes b app body)
    write_serves b app body e same = stored b e (ap (is_named half ops m.site.faults) same ∙ none)

    read_serves : (b : Block) (owner : Owner) (to : List ℕ) → OnPlace b → Serves m virt (Reads b owner to)
    read_serves b owner to e same = served b e (ap (is_named half ops m.site.faults) same ∙ none)

    asked_serve : (f0 f1 d : Bool) (b c : Block) (owner : Owner) (to : List ℕ) → OnPlace b → OnPlace c → AllServe m virt (asked f0 f1 d (Reads b owner to) (Reads c owner to))
    asked_serve true true true b c owner to h k = (read_serves b owner to h, tt)
    asked_serve true true false b c owner to h k = (read_serves b owner to h, (read_serves c owner to k, tt))
    asked_serve true false d b c owner to h k = (read_serves b owner to h, tt)
    asked_serve false f1 d b c owner to h k = (read_serves c owner to k, tt)

    asks_serve : (step : Step) (s : Mirror) → Asks step → AllServe m virt (asks m half (count_of ops) step s)
    asks_serve (Sets at values) s h = (tt, tt)
    asks_serve (Shows at) s h = (tt, tt)
    asks_serve (Seals body tuple app rtag) s h = (tt, tt)
    asks_serve (Writes b app body) s h = (write_serves b app body h.0, (write_serves (twin m half (count_of ops) b) app body h.1, tt))
    asks_serve (WritesPi b frame) s h = tt
    asks_serve (Reads b owner to) s h = asked_serve _ _ _ b (twin m half (count_of ops) b) owner to h.0 h.1
    asks_serve (Alters dev lba change) s h = (tt, tt)

    both_serve : (xs ys : List Step) → AllServe m virt xs → AllServe m virt ys → AllServe m virt (xs ++ ys)
    both_serve [] ys h k = k
    both_serve (x ∷ xs) ys h k = (h.0, both_serve xs ys h.1 k)

    all_serve : (steps : List Step) (s : Mirror) → AllAsk steps → AllServe m virt (all_asked m half (count_of ops) steps s)
    all_serve [] s h = tt
    all_serve (step ∷ steps) s h =
        both_serve (asks m half (count_of ops) step s) (all_asked m half (count_of ops) steps (done m half (count_of ops) step s)) (asks_serve step s h.0) (all_serve steps (done m half (count_of ops) step s) h.1)

    script_serves : (opening : State) → AllServe m virt (script_asks m half ops opening)
    script_serves opening = all_serve (steps_from m 1 ops) (mirror_opened half opening) (ops_ask 1 ops (λ j. let z : 1 + j - 1 ≡ j = omega arith in ap (λ v. get_or ops v Wait) z))

  -- ---- what its steps leave alone

  -- a block that its op names at its place, and that no line names
  unnamed : (b : Block) → virt_in half (op_of ops b.op) b.k ≡ b.virt → is_named half ops m.site.faults b.virt ≡ false → IsUnnamed m b
  unnamed b e h at =
      none_of (λ line. is_line_of line at (route m b).label && is_flip line.kind) (names_virt half ops b.virt) m.site.faults (λ line t.
      let l = line_of line at (route m b).label t in
      eq-eqb (virt_on_legs half ops line) b.virt (ap (λ label. virt_in half (op_of ops label.op) label.k) l.labelled ∙ e))
      h

  module _ (leg : Bool) (u : ℕ) (none : is_named half ops m.site.faults (on_leg leg u (half + u)) ≡ false) where
    abbrev Spared : List Step → Type 0
    Spared steps = AllSpare m half (count_of ops) leg u steps

    both : (xs ys : List Step) → Spared xs → Spared ys → Spared (xs ++ ys)
    both [] ys h k = k
    both (x ∷ xs) ys h k = (h.0, both xs ys h.1 k)

    each : (k n : ℕ) (f : ℕ → Step) → ((j : ℕ) → j < k + n → Spared (f j ∷ [])) → Spared (each_from k n f)
    each k zero f h = tt
    each k (suc n) f h = ((h k (omega arith)).0, each (suc k) n f (λ j l. h j (omega (arith, l))))

    at_place : (i : ℕ) (op : Op) (j : ℕ) → op_of ops i ≡ op → j < blocks_in op → first_virt op + j ≡ u → IsUnnamed m (on_leg leg (block_of i (first_virt op) j) (twin m half (count_of ops) (block_of i (first_virt op) j)))
    at_place i op j e l q = by leg refl where
      by : (c : Bool) → leg ≡ c → IsUnnamed m (on_leg c (block_of i (first_virt op) j) (twin m half (count_of ops) (block_of i (first_virt op) j)))
      by false r = unnamed (block_of i (first_virt op) j) (ap (λ o. virt_in half o j) e ∙ on_leg0 half op j l)
          (ap (is_named half ops m.site.faults) q ∙ subst (λ c. is_named half ops m.site.faults (on_leg c u (half + u)) ≡ false) r none)
      by true r = unnamed (twin m half (count_of ops) (block_of i (first_virt op) j)) (ap (λ o. virt_in half o (blocks_in o + j)) e ∙ on_leg1 half op j)
          (ap (λ a. is_named half ops m.site.faults (half + a)) q ∙ subst (λ c. is_named half ops m.site.faults (on_leg c u (half + u)) ≡ false) r none)

    op_spares : (i : ℕ) (op : Op) → op_of ops i ≡ op → is_overwrite op ≡ false → Spared (steps_of m i op)
    op_spares i (Fill seg byte) e o = (tt, tt)
    op_spares i (Put page off bytes) e o = (tt, tt)
    op_spares i (Show seg) e o = (tt, tt)
    op_spares i (Seal n body tuples app rtag) e o = each 0 n (λ k. Seals (body_of m.size body k) (tuple_of tuples k) app ((rtag + k) % 2 ^ 32)) (λ j l. (tt, tt))
    op_spares i (Write v n body app) e o = each 0 n (λ k. Writes (block_of i v k) app (body_of m.size body k)) (λ j l. (λ q. at_place i (Write v n body app) j e (omega (arith, l)) q, tt))
    op_spares i (Fetch v n body) e o = each 0 n (λ k. Reads (block_of i v k) OfBlock (body_of m.size body k)) (λ j l. (λ q. at_place i (Fetch v n body) j e (omega (arith, l)) q, tt))
    op_spares i (WritePi v n body tuples) e o = each 0 n (λ k. WritesPi (block_of i v k) (frame_at m.size body tuples k)) (λ j l. (tt, tt))
    op_spares i (FetchPi v n body tuples) e o = each 0 n (λ k. Reads (block_of i v k) OfApp (frame_at m.size body tuples k)) (λ j l. (λ q. at_place i (FetchPi v n body tuples) j e (omega (arith, l)) q, tt))
    op_spares i (Overwrite dev lba change) e o = absurd (false≢true (sym o))
    op_spares i Wait e o = tt

    ops_spare : (i : ℕ) (rest : List Op) → ((j : ℕ) → op_of ops (i + j) ≡ get_or rest j Wait) → list_any is_overwrite rest ≡ false → Spared (steps_from m i rest)
    ops_spare i [] e o = tt
    ops_spare i (op ∷ rest) e o =
        let first : op_of ops i ≡ op = (let z : i ≡ i + 0 = omega arith in ap (op_of ops) z ∙ e 0) in
        let none = or_parts (is_overwrite op) (list_any is_overwrite rest) o in
        both (steps_of m i op) (steps_from m (suc i) rest) (op_spares i op first none.0)
        (ops_spare (suc i) rest (λ j. let z : suc i + j ≡ i + suc j = omega arith in ap (op_of ops) z ∙ e (suc j)) none.1)

    spared : list_any is_overwrite ops ≡ false → Spared (steps_from m 1 ops)
    spared o = ops_spare 1 ops (λ j. let z : 1 + j - 1 ≡ j = omega arith in ap (λ v. get_or ops v Wait) z) o

  -- where a line names the block on leg 0, none does on leg 1
  other_leg : (u : ℕ) → u < half → list_all (spares_other_leg half ops m.site.faults) m.site.faults ≡ true → is_named half ops m.site.faults u ≡ true → is_named half ops m.site.faults (half + u) ≡ false
  other_leg u l form q =
      let c = pick (names_virt half ops u) (spares_other_leg half ops m.site.faults) m.site.faults q form in
      let e = eqb-true (virt_on_legs half ops c.line) u c.one in
      let f : (nat_lt u half && is_named half ops m.site.faults (half + u)) ≡ false =
      subst (λ v. (nat_lt v half && is_named half ops m.site.faults (half + v)) ≡ false) e (not-true _ c.other) in
      sym (ap (λ b. b && is_named half ops m.site.faults (half + u)) (lt-ltb u half l)) ∙ f

  pub one_good : (opening : State) → list_all (spares_other_leg half ops m.site.faults) m.site.faults ≡ true → list_any is_overwrite ops ≡ false → OneGood m half ops opening
  one_good opening form o u l = by (is_named half ops m.site.faults u) refl where
    by : (c : Bool) → is_named half ops m.site.faults u ≡ c → HasGoodLeg m half ops opening u
    by false q = record { leg = false; spares = spared false u q o; serves = script_serves u q opening }
    by true q = let none = other_leg u l form q in record { leg = true; spares = spared true u none o; serves = script_serves (half + u) none opening }

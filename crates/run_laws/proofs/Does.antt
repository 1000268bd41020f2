-- The moves of one block do what its act does to what is seen.
use Rattle.std.proofs.Common.{◌≡◌, ◌<◌, ◌≤◌, ℕ, zero, suc, ◌+◌, Bool, true, false, if◌then◌else◌, List, [], ◌∷◌, ◌++◌, length, take, drop, get_or, map, set, refl, sym, ap, subst, ◌∙◌, arith, length-append}
use Rattle.std.specs.Prelude.{IfOk, Result, Ok, Err}
use Rattle.std.proofs.lemmas.List.{drop_at, take_at}
use Rattle.pi_tuple.specs.declared.checks.Check.{Check}
use Rattle.pi_tuple.specs.Tuples.{tuple_bytes}
use Rattle.page_pool.specs.Cells.{gather, scatter, share_a_cell}
use Rattle.integrity_payload.specs.declared.payload.Owner.{Owner}
use Rattle.integrity_payload.specs.declared.payload.Owner.TheVariants.{Block as OfBlock, App as OfApp}
use Rattle.walk_laws.specs.Passed.{Route, Act, State, act, effect, tell, ActAnswer, fetched_cell, own_cell, own_frame, own_tuple, silent, stored_cell, tuple_after, written_by, AreCells, FrameAt, IsOne, carry_in, carry_out, hidden, MovesJoined as joined, make_tuple, map_back, map_out, settle, host_size, wire_size, plain, plain_tells, Fails, Refuses, Stores, WayOut, at_device, from_adapter, mapped_out, to_wire, way_out, Why}
use Rattle.walk_laws.proofs.Passed.{same_cells, AllBelow, Distinct, gather_length, own_read, read_in_two, filled, mapped_sizes, out_size, bare_write, own_write, write_in_three}
use Rattle.walk_laws.specs.ScriptWalk.{act_of, changed, source_of}
use Rattle.walk_laws.specs.Settings.{Block, Setting, route}
use Rattle.walk_laws.specs.Steps.{Alters, Reads, Seals, Sets, Shows, Step, Writes, WritesPi}
use Rattle.walk_laws.proofs.TupleFrames.{below_drop, below_append}
use Rattle.walk_laws.proofs.InSteps.{scatter_length}
use Rattle.run_laws.proofs.Parts.{distinct_both, distinct_drop, front_back}
use Rattle.run_laws.specs.BoundRun.{Suits}
use Rattle.run_laws.specs.ScriptMoves.{by_moves, carried_by, lands_in, read_moves, write_moves, write_pi_moves}
use Rattle.run_laws.proofs.Behind.{act_hidden, all_from, are_cells, below_more}
use Rattle.run_laws.proofs.Turns.{AllFrom, share_bound}

-- a stored block that is set
pub set_fine : (fine : ℕ → List ℕ → Bool) (cell : ℕ) (x : List ℕ) (blocks : List (List ℕ)) → fine cell x ≡ true → ((c : ℕ) → fine c (get_or blocks c []) ≡ true) → (c : ℕ) → fine c (get_or (set blocks cell x) c []) ≡ true
set_fine fine cell x [] h all c = all c
set_fine fine zero x (b ∷ blocks) h all zero = h
set_fine fine zero x (b ∷ blocks) h all (suc c) = all (suc c)
set_fine fine (suc cell) x (b ∷ blocks) h all zero = all 0
set_fine fine (suc cell) x (b ∷ blocks) h all (suc c) = set_fine (λ c y. fine (suc c) y) cell x blocks h (λ c. all (suc c)) c

module _ (m : Setting) (fine : ℕ → List ℕ → Bool) (n : ℕ) (opening : State) where
  -- the cells are as many as they were, and each stored block is fine
  pub record IsShaped (s : State) : Type 0 where
    pub bytes : length s.bytes ≡ length opening.bytes
    pub fates : length s.fates ≡ length opening.fates
    pub all_fine : (c : ℕ) → fine c (get_or s.blocks c []) ≡ true

  pub record Does (moves : List (Act ActAnswer)) (whole : Act ActAnswer) (join : List ActAnswer → ActAnswer) : Type 0 where
    pub state : (s : State) → IsShaped s → hidden n (plain act moves s) ≡ act whole (hidden n s)
    pub answer : (s : State) → IsShaped s → join (plain_tells act tell moves s) ≡ tell whole (hidden n s)
    pub fine_after : (s : State) → IsShaped s → (c : ℕ) → fine c (get_or (act whole (hidden n s)).blocks c []) ≡ true

  same_size : (moves : List (Act ActAnswer)) (s : State) → (length (plain act moves s).bytes ≡ length s.bytes) × (length (plain act moves s).fates ≡ length s.fates)
  same_size [] s = (refl, refl)
  same_size (a ∷ moves) s =
      let rest = same_size moves (act a s) in
      (rest.0 ∙ scatter_length a.bytes.writes (effect a s).written.bytes s.bytes, rest.1 ∙ scatter_length a.fates.writes (effect a s).written.fates s.fates)

  pub keeps : (moves : List (Act ActAnswer)) (whole : Act ActAnswer) (join : List ActAnswer → ActAnswer) (s : State) → Does moves whole join → IsShaped s → IsShaped (plain act moves s)
  keeps moves whole join s d p =
      let k = same_size moves s in
      let seen = d.state s p in
      record {
        bytes = k.0 ∙ p.bytes;
        fates = k.1 ∙ p.fates;
        all_fine = λ c. ap (λ (t : State). fine c (get_or t.blocks c [])) seen ∙ d.fine_after s p c;
      }

  -- what a way out stores is fine
  abbrev StoresFine : Block → WayOut → Type 0
  StoresFine b (Fails why) = Unit {0}
  StoresFine b (Refuses why) = Unit {0}
  StoresFine b (Stores carried stored) = fine (stored_cell m.site (route m b)) stored ≡ true

  at_device_fine : (b : Block) (carried : List ℕ) (came : Result (List ℕ) Why) → IfOk came (λ stored. fine (stored_cell m.site (route m b)) stored ≡ true) → StoresFine b (at_device carried came)
  at_device_fine b carried (Ok stored) h = h
  at_device_fine b carried (Err why) h = tt

  from_adapter_fine : (b : Block) → Suits m fine b → (came : Result (List ℕ) Check) → IfOk came (λ f. length f ≡ wire_size (route m b)) → StoresFine b (from_adapter m.site.device (route m b) came)
  from_adapter_fine b suits (Ok carried) h = at_device_fine b carried (m.site.device.stores (route m b) carried) (suits.stores carried h)
  from_adapter_fine b suits (Err check) h = tt

  way_fine : (b : Block) (frame : List ℕ) → Suits m fine b → length frame ≡ host_size (route m b) → StoresFine b (way_out m.site.faults m.site.device (route m b) frame)
  way_fine b frame suits l =
      let x = mapped_out (route m b) frame in
      from_adapter_fine b suits (to_wire m.site.faults (route m b) x) (out_size m.site.faults (route m b) x (mapped_sizes (route m b) frame l).0)

  written_fine : (b : Block) (old : List ℕ) (w : WayOut) (back : List ℕ) (log : List (List ℕ)) (blocks : List (List ℕ)) → Suits m fine b → fine (stored_cell m.site (route m b)) old ≡ true → StoresFine b w → ((c : ℕ) → fine c (get_or blocks c []) ≡ true) →
      (c : ℕ) → fine c (get_or (scatter (stored_cell m.site (route m b) ∷ []) (map (m.site.device.leaves (route m b) old) (written_by (route m b) w back log).written.blocks) blocks) c []) ≡ true
  written_fine b old (Fails why) back log blocks suits o h all c = all c
  written_fine b old (Refuses why) back log blocks suits o h all c = all c
  written_fine b old (Stores carried stored) back log blocks suits o h all c =
      set_fine fine (stored_cell m.site (route m b)) (m.site.device.leaves (route m b) old stored) blocks (suits.leaves old stored o h) all c

  own_length : (b : Block) (app : ℕ) (x : List ℕ) → length x ≡ m.size → length (own_frame (route m b) app x) ≡ host_size (route m b)
  own_length b app x l = by m.mode.dix where
    by : (dix : Bool) → length (if dix then x ++ tuple_bytes (own_tuple (route m b) app x) else x) ≡ (if dix then m.size + 8 else m.size)
    by true = length-append x _ ∙ ap (λ k. k + 8) l
    by false = l

  -- eight cells behind the script's pages, none twice
  pub record IsOwn (own : List ℕ) : Type 0 where
    pub eight : length own ≡ 8
    pub behind : AllFrom n own
    pub once : Distinct own
    pub within : AllBelow (length opening.bytes) own

  -- a read's cells are those of the host's frame; those of the block layer's tuple are its own
  abbrev pub FitsHost : Owner → (own to : List ℕ) → Type 0
  FitsHost OfBlock own to = (length to ≡ m.size) × (m.mode.dix ≡ true → IsOwn own)
  FitsHost OfApp own to = (length to ≡ m.size + 8) × (m.mode.dix ≡ true)

  -- what a block has to have, where its own tuple lies in cells `own`, and what is found of it in cell `fate`
  abbrev pub IsReady : (own : List ℕ) → (fate : ℕ) → Step → Type 0
  IsReady own fate (Sets at values) = Unit {0}
  IsReady own fate (Shows at) = AllBelow n at
  IsReady own fate (Seals body tuple app rtag) = AllBelow n body
  IsReady own fate (Writes b app body) = AllBelow n body × ((length body ≡ m.size) × ((m.mode.dix ≡ true → IsOwn own) × Suits m fine b))
  IsReady own fate (WritesPi b frame) = AllBelow n frame × ((length frame ≡ m.size + 8) × (Distinct frame × ((m.mode.dix ≡ true) × Suits m fine b)))
  IsReady own fate (Reads b owner to) =
      AllBelow n to × (Distinct to × (FitsHost owner own to × ((fate < length opening.fates) × Suits m fine b)))
  IsReady own fate (Alters dev lba change) = (block : List ℕ) → fine (source_of m.site dev lba change) block ≡ true → fine (m.site.cell dev lba) (changed change block) ≡ true

  one_hidden : (x y : State) (t u : ActAnswer) → IsOne x y t u → hidden n x ≡ hidden n y
  one_hidden x y t u h = same_cells _ _ _ _ _ _ _ _ (ap (take n) h.bytes) h.blocks h.logs refl

  -- done in one move
  single : (a : Act ActAnswer) → AllBelow n a.bytes.reads → a.fates.reads ≡ [] → a.fates.writes ≡ [] → ((s : State) → IsShaped s → (c : ℕ) → fine c (get_or (act a (hidden n s)).blocks c []) ≡ true) →
      Does (a ∷ []) a (λ answers. get_or answers 0 silent)
  single a h p q f = record {
    state = λ s _. sym (act_hidden n a s h p q).state;
    answer = λ s _. sym (act_hidden n a s h p q).answer;
    fine_after = f;
  }

  written_after : (b : Block) (app : ℕ) (body : List ℕ) (s : State) → length body ≡ m.size → Suits m fine b → IsShaped s → (c : ℕ) → fine c (get_or (act (act_of m (Writes b app body)) (hidden n s)).blocks c []) ≡ true
  written_after b app body s l suits p c =
      let x = gather 0 body (take n s.bytes) in
      let frame = own_frame (route m b) app x in
      let at = stored_cell m.site (route m b) in
      written_fine b (get_or s.blocks at []) (way_out m.site.faults m.site.device (route m b) frame) [] (get_or s.logs (own_cell m.site (route m b)) []) s.blocks suits (p.all_fine at)
      (way_fine b frame suits (own_length b app x (gather_length 0 body (take n s.bytes) ∙ l))) p.all_fine c

  app_written_after : (b : Block) (at : List ℕ) (s : State) → length at ≡ m.size + 8 → m.mode.dix ≡ true → Suits m fine b → IsShaped s → (c : ℕ) → fine c (get_or (act (act_of m (WritesPi b at)) (hidden n s)).blocks c []) ≡ true
  app_written_after b at s l on suits p c =
      let x = gather 0 at (take n s.bytes) in
      let there = stored_cell m.site (route m b) in
      written_fine b (get_or s.blocks there []) (way_out m.site.faults m.site.device (route m b) x) (tuple_after (route m b) (drop m.size x)) (get_or s.logs (own_cell m.site (route m b)) []) s.blocks suits (p.all_fine there)
      (way_fine b x suits (gather_length 0 at (take n s.bytes) ∙ l ∙ sym (ap (λ c. if c then m.size + 8 else m.size) on))) p.all_fine c

  -- a block with the application's tuple
  does_write_pi : (b : Block) (frame : List ℕ) → AllBelow n frame → length frame ≡ m.size + 8 → Distinct frame → m.mode.dix ≡ true → n ≤ length opening.bytes → Suits m fine b →
      Does (write_pi_moves m b frame) (act_of m (WritesPi b frame)) (λ answers. get_or answers 1 silent)
  does_write_pi b frame h l d on room suits = record {
    state = λ s p. one_hidden _ _ _ _ (one s p) ∙ sym (act_hidden n (act_of m (WritesPi b frame)) s h refl refl).state;
    answer = λ s p. (one s p).answer ∙ sym (act_hidden n (act_of m (WritesPi b frame)) s h refl refl).answer;
    fine_after = λ s p c. app_written_after b frame s l on suits p c;
  } where
    at : (s : State) → IsShaped s → FrameAt m.size frame (length s.bytes)
    at s p = record {
      long = l;
      apart = front_back m.size frame d;
      tuple = are_cells (length s.bytes) (drop m.size frame) (distinct_drop m.size frame d) (below_drop (length s.bytes) m.size frame (below_more n (length s.bytes) frame (let e = p.bytes in omega (arith, e, room)) h));
    }

    one : (s : State) → IsShaped s →
        let tuple = drop m.size frame in let mapped = act (map_out (route m b) tuple) s in
        IsOne (act (map_back (route m b) tuple) (act (carry_out m.site (route m b) frame) mapped)) (act (act_of m (WritesPi b frame)) s) (tell (carry_out m.site (route m b) frame) mapped) (tell (act_of m (WritesPi b frame)) s)
    one s p = write_in_three m.site (route m b) frame s (at s p) on

  -- a block whose tuple the block layer makes
  does_write_own : (b : Block) (app : ℕ) (body own : List ℕ) → AllBelow n body → length body ≡ m.size → m.mode.dix ≡ true → n ≤ length opening.bytes → IsOwn own → Suits m fine b →
      Does (write_moves m b app body own true) (act_of m (Writes b app body)) (λ answers. get_or answers 2 silent)
  does_write_own b app body own h l on room mine suits = record {
    state = λ s p. one_hidden _ _ _ _ (three s p) ∙ same_hidden s p ∙ sym (act_hidden n (act_of m (Writes b app body)) s h refl refl).state;
    answer = λ s p. (three s p).answer ∙ (owned s p).answer ∙ sym (act_hidden n (act_of m (Writes b app body)) s h refl refl).answer;
    fine_after = λ s p c. written_after b app body s l suits p c;
  } where
    r : Route
    r = route m b

    made : State → State
    made s = act (make_tuple (route m b) app body own) s

    apart : share_a_cell body own ≡ false
    apart = share_bound n body own h mine.behind

    cells : (s : State) → IsShaped s → AreCells (length s.bytes) own
    cells s p = are_cells (length s.bytes) own mine.once (subst (λ k. AllBelow k own) (sym p.bytes) mine.within)

    behind_is : drop m.size (body ++ own) ≡ own
    behind_is = drop_at body own m.size l

    made_size : (s : State) → length (made s).bytes ≡ length s.bytes
    made_size s = scatter_length own (effect (make_tuple (route m b) app body own) s).written.bytes s.bytes

    at : (s : State) → IsShaped s → FrameAt m.size (body ++ own) (length (made s).bytes)
    at s p = record {
      long = let a = length-append body own in let e = mine.eight in omega (arith, a, l, e);
      apart = ap (λ xs. share_a_cell xs (drop m.size (body ++ own))) (take_at body own m.size l) ∙ ap (share_a_cell body) behind_is ∙ apart;
      tuple = subst (AreCells (length (made s).bytes)) (sym behind_is) (subst (λ k. AreCells k own) (sym (made_size s)) (cells s p));
    }

    owned : (s : State) → IsShaped s → IsOne (hidden n (act (act_of m (WritesPi b (body ++ own))) (made s))) (hidden n (act (act_of m (Writes b app body)) s)) (tell (act_of m (WritesPi b (body ++ own))) (made s)) (tell (act_of m (Writes b app body)) s)
    owned s p = own_write m.site (route m b) app body own s l mine.eight apart (cells s p) on n (all_from n own mine.behind)

    same_hidden : (s : State) → IsShaped s → hidden n (act (act_of m (WritesPi b (body ++ own))) (made s)) ≡ hidden n (act (act_of m (Writes b app body)) s)
    same_hidden s p = let o = owned s p in same_cells _ _ _ _ _ _ _ _ o.bytes o.blocks o.logs refl

    three : (s : State) → IsShaped s →
        let mapped = act (map_out (route m b) own) (made s) in
        IsOne (act (map_back (route m b) own) (act (carry_out m.site (route m b) (body ++ own)) mapped)) (act (act_of m (WritesPi b (body ++ own))) (made s)) (tell (carry_out m.site (route m b) (body ++ own)) mapped) (tell (act_of m (WritesPi b (body ++ own))) (made s))
    three s p = subst (λ t.
        let mapped = act (map_out (route m b) t) (made s) in
        IsOne (act (map_back (route m b) t) (act (carry_out m.site (route m b) (body ++ own)) mapped)) (act (act_of m (WritesPi b (body ++ own))) (made s)) (tell (carry_out m.site (route m b) (body ++ own)) mapped) (tell (act_of m (WritesPi b (body ++ own))) (made s)))
        behind_is (write_in_three m.site (route m b) (body ++ own) (made s) (at s p) on)

  -- one without a tuple in memory
  does_write_bare : (b : Block) (app : ℕ) (body own : List ℕ) → AllBelow n body → length body ≡ m.size → m.mode.dix ≡ false → Suits m fine b →
      Does (write_moves m b app body own false) (act_of m (Writes b app body)) (λ answers. get_or answers 0 silent)
  does_write_bare b app body own h l off suits = record {
    state = λ s p. ap (hidden n) (bare_write m.site (route m b) app body s off).0 ∙ sym (act_hidden n (act_of m (Writes b app body)) s h refl refl).state;
    answer = λ s p. (bare_write m.site (route m b) app body s off).1 ∙ sym (act_hidden n (act_of m (Writes b app body)) s h refl refl).answer;
    fine_after = λ s p c. written_after b app body s l suits p c;
  }

  does_write : (b : Block) (app : ℕ) (body own : List ℕ) → AllBelow n body → length body ≡ m.size → n ≤ length opening.bytes → (m.mode.dix ≡ true → IsOwn own) → Suits m fine b → (dix : Bool) → m.mode.dix ≡ dix →
      Does (write_moves m b app body own dix) (act_of m (Writes b app body)) (λ answers. get_or answers (carried_by dix) silent)
  does_write b app body own h l room mine suits true on = does_write_own b app body own h l on room (mine on) suits
  does_write b app body own h l room mine suits false off = does_write_bare b app body own h l off suits

  -- a block of a read into these cells
  does_read : (b : Block) (owner : Owner) (to : List ℕ) (fate : ℕ) → Distinct to → AllBelow (length opening.bytes) to → length to ≡ host_size (route m b) → fate < length opening.fates → Suits m fine b →
      Does (read_moves m b owner to fate) (act_of m (Reads b owner to)) (λ answers. joined (get_or answers 0 silent) (get_or answers 1 silent))
  does_read b owner to fate d below l f suits = record {
    state = λ s p. same_cells _ _ _ _ _ _ _ _ (ap (take n) (two s p).0) refl refl refl ∙ sym (act_hidden n (act_of m (Reads b owner to)) s tt refl refl).state;
    answer = λ s p. (two s p).1 ∙ sym (act_hidden n (act_of m (Reads b owner to)) s tt refl refl).answer;
    fine_after = λ s p c. p.all_fine c;
  } where
    two : (s : State) → IsShaped s → ((act (settle (route m b) owner to fate) (act (carry_in m.site (route m b) to fate) s)).bytes ≡ (act (act_of m (Reads b owner to)) s).bytes)
        × (joined (tell (carry_in m.site (route m b) to fate) s) (tell (settle (route m b) owner to fate) (act (carry_in m.site (route m b) to fate) s)) ≡ tell (act_of m (Reads b owner to)) s)
    two s p =
        let stored = get_or s.blocks (fetched_cell m.site (route m b)) [] in
        read_in_two m.site (route m b) owner to fate s (are_cells (length s.bytes) to d (subst (λ k. AllBelow k to) (sym p.bytes) below)) (subst (λ k. fate < k) (sym p.fates) f)
        (filled m.site.faults (route m b) to (m.site.device.sends (route m b) stored) (suits.sends stored (p.all_fine (fetched_cell m.site (route m b)))) l)

  -- and of one whose tuple lands where the block layer has its own
  does_read_own : (b : Block) (owner : Owner) (to own : List ℕ) (fate : ℕ) → AllBelow n to → Distinct to → length to ≡ m.size → m.mode.dix ≡ true → n ≤ length opening.bytes → IsOwn own → fate < length opening.fates → Suits m fine b →
      Does (read_moves m b owner (to ++ own) fate) (act_of m (Reads b owner to)) (λ answers. joined (get_or answers 0 silent) (get_or answers 1 silent))
  does_read_own b owner to own fate h d l on room mine f suits = record {
    state = λ s p. whole.state s p ∙ (act_hidden n (act_of m (Reads b owner (to ++ own))) s tt refl refl).state ∙ same_hidden s ∙ sym (act_hidden n (act_of m (Reads b owner to)) s tt refl refl).state;
    answer = λ s p. whole.answer s p ∙ (act_hidden n (act_of m (Reads b owner (to ++ own))) s tt refl refl).answer ∙ (owned s).answer ∙ sym (act_hidden n (act_of m (Reads b owner to)) s tt refl refl).answer;
    fine_after = λ s p c. p.all_fine c;
  } where
    size : length (to ++ own) ≡ host_size (route m b)
    size = (let a = length-append to own in let e = mine.eight in let k : length (to ++ own) ≡ m.size + 8 = omega (arith, a, l, e) in k) ∙ sym (ap (λ c. if c then m.size + 8 else m.size) on)

    whole : Does (read_moves m b owner (to ++ own) fate) (act_of m (Reads b owner (to ++ own))) (λ answers. joined (get_or answers 0 silent) (get_or answers 1 silent))
    whole = does_read b owner (to ++ own) fate (distinct_both to own d mine.once (share_bound n to own h mine.behind)) (below_append (length opening.bytes) to own (below_more n (length opening.bytes) to room h) mine.within) size f suits

    owned : (s : State) → IsOne (hidden n (act (act_of m (Reads b owner (to ++ own))) s)) (hidden n (act (act_of m (Reads b owner to)) s)) (tell (act_of m (Reads b owner (to ++ own))) s) (tell (act_of m (Reads b owner to)) s)
    owned s = own_read m.site (route m b) owner to own n s (all_from n own mine.behind)

    same_hidden : (s : State) → hidden n (act (act_of m (Reads b owner (to ++ own))) s) ≡ hidden n (act (act_of m (Reads b owner to)) s)
    same_hidden s = let o = owned s in same_cells _ _ _ _ _ _ _ _ o.bytes o.blocks o.logs refl

  does_reads : (b : Block) (owner : Owner) (to own : List ℕ) (fate : ℕ) → AllBelow n to → Distinct to → FitsHost owner own to → n ≤ length opening.bytes → fate < length opening.fates → Suits m fine b → (dix : Bool) → m.mode.dix ≡ dix →
      Does (read_moves m b owner (lands_in owner dix to own) fate) (act_of m (Reads b owner to)) (λ answers. joined (get_or answers 0 silent) (get_or answers 1 silent))
  does_reads b OfBlock to own fate h d l room f suits true on = does_read_own b OfBlock to own fate h d l.0 on room (l.1 on) f suits
  does_reads b OfBlock to own fate h d l room f suits false off = does_read b OfBlock to fate d (below_more n (length opening.bytes) to room h) (l.0 ∙ sym (ap (λ c. if c then m.size + 8 else m.size) off)) f suits
  does_reads b OfApp to own fate h d l room f suits dix e = does_read b OfApp to fate d (below_more n (length opening.bytes) to room h) (l.0 ∙ sym (ap (λ c. if c then m.size + 8 else m.size) l.1)) f suits

  -- a step's block
  pub does_step : (own : List ℕ) (fate : ℕ) (step : Step) → n ≤ length opening.bytes → IsReady own fate step → let b = by_moves m own fate step in Does b.moves b.whole b.join
  does_step own fate (Sets at values) room h = single (act_of m (Sets at values)) tt refl refl (λ s p c. p.all_fine c)
  does_step own fate (Shows at) room h = single (act_of m (Shows at)) h refl refl (λ s p c. p.all_fine c)
  does_step own fate (Seals body tuple app rtag) room h = single (act_of m (Seals body tuple app rtag)) h refl refl (λ s p c. p.all_fine c)
  does_step own fate (Writes b app body) room h = does_write b app body own h.0 h.1.0 room h.1.1.0 h.1.1.1 m.mode.dix refl
  does_step own fate (WritesPi b frame) room h = does_write_pi b frame h.0 h.1.0 h.1.1.0 h.1.1.1.0 room h.1.1.1.1
  does_step own fate (Reads b owner to) room h = does_reads b owner to own fate h.0 h.1.0 h.1.1.0 room h.1.1.1.0 h.1.1.1.1 m.mode.dix refl
  does_step own fate (Alters dev lba change) room h = single (act_of m (Alters dev lba change)) tt refl refl (λ s p c.
      let block = get_or s.blocks (source_of m.site dev lba change) [] in
      set_fine fine (m.site.cell dev lba) (changed change block) s.blocks (h block (p.all_fine (source_of m.site dev lba change))) p.all_fine c)

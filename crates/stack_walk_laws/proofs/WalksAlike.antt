-- The walk over the device whose store calls fail, and the walk in which these fail: they leave the same pages and stored blocks, and a write whose call fails is accepted in the one and listed for the medium in the other.
use Rattle.std.proofs.Common.{◌≡◌, ℕ, Bool, true, false, List, [], ◌∷◌, length, drop, get_or, Option, Some, None, refl, sym, ap, subst, ◌∙◌}
use Rattle.std.specs.Prelude.{Result, Ok, Err}
use Rattle.std.proofs.lemmas.Bool.{false≢true}
use Rattle.page_pool.specs.Cells.{gather, scatter}
use Rattle.pi_guard.specs.Guards.{guard_of}
use Rattle.pi_tuple.specs.Tuples.{tuple_bytes}
use Rattle.pi_tuple.specs.declared.checks.Check.{Check}
use Rattle.integrity_payload.specs.declared.payload.Owner.{Owner}
use Rattle.bio_core.specs.declared.fate.Why.{Why}
use Rattle.bio_core.specs.declared.fate.Why.TheVariants.{Medium}
use Rattle.block_path.specs.declared.route.Route.{Route}
use Rattle.block_path.specs.Acts.{Effect, State, act, effect, tell}
use Rattle.block_path.specs.Blocks.{ActAnswer, Site, fetched_cell, own_cell, own_frame, read_by, stored_cell, stored_over, tuple_after, written_by}
use Rattle.block_path.specs.Moves.{on_bytes}
use Rattle.block_path.specs.WayIn.{WayIn, Delivers, Spoils, Stops, from_device, verified}
use Rattle.block_path.specs.WayOut.{at_device, from_adapter, mapped_out, to_wire}
use Rattle.run_laws.specs.Passed.{act_of, changed, source_of, Block, Setting, route, Alters, Reads, Seals, Sets, Shows, Step, Writes, WritesPi}
use Rattle.run_laws.specs.StoreFaults.{failing, leaving, may_fall, or_fallen}
use Rattle.stack_walk_laws.proofs.Switching.{stored_by}
use Rattle.stack_walk_laws.specs.Falls.{Falls, falling, leaves_or, of_blocks, over_falls, sends_or, stores_or}

-- the same pages and stored blocks
pub record Sees (s t : State) : Type 0 where
  pub bytes : s.bytes ≡ t.bytes
  pub blocks : s.blocks ≡ t.blocks

-- what is listed there, and in truth
abbrev pub Forgives : Option (List ℕ) → (there truth : Option Why) → Type 0
Forgives None there truth = there ≡ truth
Forgives (Some left) there truth = there ≡ None → truth ≡ Some Medium

record Leaves (o : Option (List ℕ)) (x y : Effect ActAnswer) : Type 0 where
  bytes : x.written.bytes ≡ y.written.bytes
  blocks : x.written.blocks ≡ y.written.blocks
  why : Forgives o x.answer.why y.answer.why

abbrev is_listed : Option Why → Bool
is_listed None = false
is_listed (Some why) = true

-- of a frame that the adapter sends, or finds bad

abbrev site_over : Falls → Site → Site
site_over falls site = record site { device = falling falls site.device }

out_none : (falls : Falls) (site : Site) (r : Route) (old back : List ℕ) (log other : List (List ℕ)) (w : Result (List ℕ) Check) → falls r.label ≡ None →
    Leaves None (stored_over (site_over falls site) r old (written_by r (from_adapter (falling falls site.device) r w) back log)) (stored_over site r old (written_by r (from_adapter site.device r w) back other))
out_none falls site r old back log other (Err check) e = record { bytes = refl; blocks = refl; why = refl }
out_none falls site r old back log other (Ok carried) e =
    let kept = site.device.leaves r old in
    subst (λ o. Leaves None (stored_by (λ frame. leaves_or o (kept frame) frame) (written_by r (at_device carried (stores_or o (site.device.stores r carried))) back log)) (stored_by kept (written_by r (at_device carried (site.device.stores r carried)) back other)))
    (sym e) (by (site.device.stores r carried))
  where
    by : (came : Result (List ℕ) Why) → let kept = site.device.leaves r old in Leaves None (stored_by (λ frame. kept frame) (written_by r (at_device carried came) back log)) (stored_by kept (written_by r (at_device carried came) back other))
    by (Ok stored) = record { bytes = refl; blocks = refl; why = refl }
    by (Err why) = record { bytes = refl; blocks = refl; why = refl }

out_some : (falls : Falls) (site : Site) (r : Route) (left old back : List ℕ) (log other : List (List ℕ)) (w : Result (List ℕ) Check) → falls r.label ≡ Some left →
    Leaves (Some left) (stored_over (site_over falls site) r old (written_by r (from_adapter (falling falls site.device) r w) back log)) (leaving left (stored_by (λ frame. frame) (written_by r (from_adapter failing r w) back other)))
out_some falls site r left old back log other (Err check) e = record { bytes = refl; blocks = refl; why = λ q. absurd (false≢true (sym (ap is_listed q))) }
out_some falls site r left old back log other (Ok carried) e =
    let kept = site.device.leaves r old in
    subst (λ o. Leaves (Some left) (stored_by (λ frame. leaves_or o (kept frame) frame) (written_by r (at_device carried (stores_or o (site.device.stores r carried))) back log)) (leaving left (stored_by (λ frame. frame) (written_by r (from_adapter failing r (Ok carried)) back other)))) (sym e)
    (record { bytes = refl; blocks = refl; why = λ q. refl })

-- of a block that came

in_alike : (r : Route) (owner : Owner) (way : WayIn) (size one two : ℕ) → Leaves None (read_by r owner way size one) (read_by r owner way size two)
in_alike r owner (Stops why) size one two = record { bytes = refl; blocks = refl; why = refl }
in_alike r owner (Spoils why carried) size one two = record { bytes = refl; blocks = refl; why = refl }
in_alike r owner (Delivers carried frame) size one two = record { bytes = refl; blocks = refl; why = refl }

module _ (m : Setting) (falls : Falls) where
  abbrev over : Setting
  over = over_falls m falls

  -- what is told of a step there and in truth
  abbrev pub Tells : Step → ActAnswer → ActAnswer → Type 0
  Tells (Sets at values) x y = Unit {0}
  Tells (Shows at) x y = x.shown ≡ y.shown
  Tells (Seals body tuple app rtag) x y = Unit {0}
  Tells (Writes b app body) x y = Forgives (falls (record { op = b.op; k = b.k })) x.why y.why
  Tells (WritesPi b frame) x y = Forgives (falls (record { op = b.op; k = b.k })) x.why y.why
  Tells (Reads b owner to) x y = x.why ≡ y.why
  Tells (Alters dev lba change) x y = Unit {0}

  pub record Steps (step : Step) (s t : State) : Type 0 where
    pub sees : Sees (act (act_of over step) s) (act (may_fall m (of_blocks falls) step) t)
    pub tells : Tells step (tell (act_of over step) s) (tell (may_fall m (of_blocks falls) step) t)

  on_bytes_sees : (reads writes : List ℕ) (f : List ℕ → List ℕ) (s t : State) → Sees s t → Sees (act (on_bytes reads writes f) s) (act (on_bytes reads writes f) t)
  on_bytes_sees reads writes f s t h = record { bytes = ap (λ x. scatter writes (f (gather 0 reads x)) x) h.bytes; blocks = h.blocks }

  -- a write
  out_steps : (writes : List ℕ) (c : ℕ) (o : Option (List ℕ)) (x y : Effect ActAnswer) (s t : State) → Sees s t → Leaves o x y →
      (scatter writes x.written.bytes s.bytes ≡ scatter writes y.written.bytes t.bytes) × (scatter (c ∷ []) x.written.blocks s.blocks ≡ scatter (c ∷ []) y.written.blocks t.blocks)
  out_steps writes c o x y s t h l = (
    ap (λ z. scatter writes z s.bytes) l.bytes ∙ ap (scatter writes y.written.bytes) h.bytes,
    ap (λ z. scatter (c ∷ []) z s.blocks) l.blocks ∙ ap (scatter (c ∷ []) y.written.blocks) h.blocks,
  )

  write_leaves : (b : Block) (app : ℕ) (body : List ℕ) (o : Option (List ℕ)) (s t : State) → falls (record { op = b.op; k = b.k }) ≡ o → Sees s t → Leaves o (effect (act_of over (Writes b app body)) s) (effect (or_fallen m (Writes b app body) o) t)
  write_leaves b app body None s t e h =
      let r = route m b in
      let wire = λ (bytes : List ℕ). to_wire m.site.faults r (mapped_out r (own_frame r app (gather 0 body bytes))) in
      let log = get_or t.logs (own_cell m.site r) [] in
      let old = λ (blocks : List (List ℕ)). get_or blocks (stored_cell m.site r) [] in
      let way = λ (bytes : List ℕ). written_by r (from_adapter m.site.device r (wire bytes)) [] log in
      subst (λ blocks. Leaves None (effect (act_of over (Writes b app body)) s) (stored_over m.site r (old blocks) (way t.bytes))) h.blocks
      (subst (λ bytes. Leaves None (effect (act_of over (Writes b app body)) s) (stored_over m.site r (old s.blocks) (way bytes))) h.bytes
      (out_none falls m.site r (old s.blocks) [] (get_or s.logs (own_cell m.site r) []) log (wire s.bytes) e))
  write_leaves b app body (Some left) s t e h =
      let r = route m b in
      let wire = λ (bytes : List ℕ). to_wire m.site.faults r (mapped_out r (own_frame r app (gather 0 body bytes))) in
      let log = get_or t.logs (own_cell m.site r) [] in
      subst (λ bytes. Leaves (Some left) (effect (act_of over (Writes b app body)) s) (leaving left (stored_by (λ frame. frame) (written_by r (from_adapter failing r (wire bytes)) [] log)))) h.bytes
      (out_some falls m.site r left (get_or s.blocks (stored_cell m.site r) []) [] (get_or s.logs (own_cell m.site r) []) log (wire s.bytes) e)

  write_pi_leaves : (b : Block) (frame : List ℕ) (o : Option (List ℕ)) (s t : State) → falls (record { op = b.op; k = b.k }) ≡ o → Sees s t → Leaves o (effect (act_of over (WritesPi b frame)) s) (effect (or_fallen m (WritesPi b frame) o) t)
  write_pi_leaves b frame None s t e h =
      let r = route m b in
      let wire = λ (bytes : List ℕ). to_wire m.site.faults r (mapped_out r (gather 0 frame bytes)) in
      let log = get_or t.logs (own_cell m.site r) [] in
      let old = λ (blocks : List (List ℕ)). get_or blocks (stored_cell m.site r) [] in
      let way = λ (bytes : List ℕ). written_by r (from_adapter m.site.device r (wire bytes)) (tuple_after r (drop r.size (gather 0 frame bytes))) log in
      subst (λ blocks. Leaves None (effect (act_of over (WritesPi b frame)) s) (stored_over m.site r (old blocks) (way t.bytes))) h.blocks
      (subst (λ bytes. Leaves None (effect (act_of over (WritesPi b frame)) s) (stored_over m.site r (old s.blocks) (way bytes))) h.bytes
      (out_none falls m.site r (old s.blocks) (tuple_after r (drop r.size (gather 0 frame s.bytes))) (get_or s.logs (own_cell m.site r) []) log (wire s.bytes) e))
  write_pi_leaves b frame (Some left) s t e h =
      let r = route m b in
      let wire = λ (bytes : List ℕ). to_wire m.site.faults r (mapped_out r (gather 0 frame bytes)) in
      let log = get_or t.logs (own_cell m.site r) [] in
      subst (λ bytes. Leaves (Some left) (effect (act_of over (WritesPi b frame)) s) (leaving left (stored_by (λ frame. frame) (written_by r (from_adapter failing r (wire bytes)) (tuple_after r (drop r.size (gather 0 frame bytes))) log)))) h.bytes
      (out_some falls m.site r left (get_or s.blocks (stored_cell m.site r) []) (tuple_after r (drop r.size (gather 0 frame s.bytes))) (get_or s.logs (own_cell m.site r) []) log (wire s.bytes) e)

  -- a read

  record ReadLeaves (to : List ℕ) (x y : Effect ActAnswer) : Type 0 where
    bytes : x.written.bytes ≡ y.written.bytes
    why : x.answer.why ≡ y.answer.why

  read_leaves : (b : Block) (owner : Owner) (to : List ℕ) (o : Option (List ℕ)) (s t : State) → falls (record { op = b.op; k = b.k }) ≡ o → s.blocks ≡ t.blocks → ReadLeaves to (effect (act_of over (Reads b owner to)) s) (effect (or_fallen m (Reads b owner to) o) t)
  read_leaves b owner to None s t e q =
      let r = route m b in
      let c = fetched_cell m.site r in
      let way = λ (came : Result (List ℕ) Why). verified r owner (from_device m.site.faults r came) in
      let one = length (get_or s.logs (own_cell m.site r) []) in
      let two = length (get_or t.logs (own_cell m.site r) []) in
      let came = ap (λ o. sends_or o (m.site.device.sends r (get_or s.blocks c []))) e ∙ ap (λ blocks. m.site.device.sends r (get_or blocks c [])) q in
      let l = in_alike r owner (way (m.site.device.sends r (get_or t.blocks c []))) (length to) one two in
      record {
        bytes = ap (λ x. (read_by r owner (way x) (length to) one).written.bytes) came ∙ l.bytes;
        why = ap (λ x. (read_by r owner (way x) (length to) one).answer.why) came ∙ l.why;
      }
  read_leaves b owner to (Some left) s t e q =
      let r = route m b in
      let way = λ (came : Result (List ℕ) Why). verified r owner (from_device m.site.faults r came) in
      let one = length (get_or s.logs (own_cell m.site r) []) in
      let came = ap (λ o. sends_or o (m.site.device.sends r (get_or s.blocks (fetched_cell m.site r) []))) e in
      record {
        bytes = ap (λ x. (read_by r owner (way x) (length to) one).written.bytes) came;
        why = ap (λ x. (read_by r owner (way x) (length to) one).answer.why) came;
      }

  -- each step

  pub step_alike : (step : Step) (s t : State) → Sees s t → Steps step s t
  step_alike (Sets at values) s t h = record { sees = record { bytes = ap (scatter at values) h.bytes; blocks = h.blocks }; tells = tt }
  step_alike (Shows at) s t h = record { sees = record { bytes = h.bytes; blocks = h.blocks }; tells = ap (gather 0 at) h.bytes }
  step_alike (Seals body tuple app rtag) s t h = record { sees = on_bytes_sees body tuple (λ bytes. tuple_bytes (record { guard = guard_of m.mode.kind bytes; app = app; rtag = rtag })) s t h; tells = tt }
  step_alike (Writes b app body) s t h = by (falls (record { op = b.op; k = b.k })) refl where
    by : (o : Option (List ℕ)) → falls (record { op = b.op; k = b.k }) ≡ o → Steps (Writes b app body) s t
    by o e =
        let l = write_leaves b app body o s t e h in
        let y = or_fallen m (Writes b app body) o in
        let x = act_of over (Writes b app body) in
        let seen = out_steps [] (stored_cell m.site (route m b)) o (effect x s) (effect y t) s t h l in
        record {
          sees = subst (λ f. Sees (act x s) (act (or_fallen m (Writes b app body) f) t)) (sym e) (joined o seen);
          tells = subst (λ f. Forgives f (tell x s).why (tell (or_fallen m (Writes b app body) f) t).why) (sym e) l.why;
        }
      where
        joined : (o : Option (List ℕ)) → let x = act_of over (Writes b app body) in let y = or_fallen m (Writes b app body) o in
            (scatter [] (effect x s).written.bytes s.bytes ≡ scatter [] (effect y t).written.bytes t.bytes)
            × (scatter (stored_cell m.site (route m b) ∷ []) (effect x s).written.blocks s.blocks ≡ scatter (stored_cell m.site (route m b) ∷ []) (effect y t).written.blocks t.blocks) → Sees (act x s) (act y t)
        joined None q = record { bytes = q.0; blocks = q.1 }
        joined (Some left) q = record { bytes = q.0; blocks = q.1 }
  step_alike (WritesPi b frame) s t h = by (falls (record { op = b.op; k = b.k })) refl where
    by : (o : Option (List ℕ)) → falls (record { op = b.op; k = b.k }) ≡ o → Steps (WritesPi b frame) s t
    by o e =
        let l = write_pi_leaves b frame o s t e h in
        let y = or_fallen m (WritesPi b frame) o in
        let x = act_of over (WritesPi b frame) in
        let seen = out_steps (drop m.size frame) (stored_cell m.site (route m b)) o (effect x s) (effect y t) s t h l in
        record {
          sees = subst (λ f. Sees (act x s) (act (or_fallen m (WritesPi b frame) f) t)) (sym e) (joined o seen);
          tells = subst (λ f. Forgives f (tell x s).why (tell (or_fallen m (WritesPi b frame) f) t).why) (sym e) l.why;
        }
      where
        joined : (o : Option (List ℕ)) → let x = act_of over (WritesPi b frame) in let y = or_fallen m (WritesPi b frame) o in
            (scatter (drop m.size frame) (effect x s).written.bytes s.bytes ≡ scatter (drop m.size frame) (effect y t).written.bytes t.bytes)
            × (scatter (stored_cell m.site (route m b) ∷ []) (effect x s).written.blocks s.blocks ≡ scatter (stored_cell m.site (route m b) ∷ []) (effect y t).written.blocks t.blocks) → Sees (act x s) (act y t)
        joined None q = record { bytes = q.0; blocks = q.1 }
        joined (Some left) q = record { bytes = q.0; blocks = q.1 }
  step_alike (Reads b owner to) s t h = by (falls (record { op = b.op; k = b.k })) refl where
    by : (o : Option (List ℕ)) → falls (record { op = b.op; k = b.k }) ≡ o → Steps (Reads b owner to) s t
    by o e =
        let l = read_leaves b owner to o s t e h.blocks in
        let y = or_fallen m (Reads b owner to) o in
        let x = act_of over (Reads b owner to) in
        record {
          sees = subst (λ f. Sees (act x s) (act (or_fallen m (Reads b owner to) f) t)) (sym e) (joined o (ap (λ z. scatter to z s.bytes) l.bytes ∙ ap (scatter to (effect y t).written.bytes) h.bytes));
          tells = subst (λ f. (tell x s).why ≡ (tell (or_fallen m (Reads b owner to) f) t).why) (sym e) l.why;
        }
      where
        joined : (o : Option (List ℕ)) → let x = act_of over (Reads b owner to) in let y = or_fallen m (Reads b owner to) o in
            scatter to (effect x s).written.bytes s.bytes ≡ scatter to (effect y t).written.bytes t.bytes → Sees (act x s) (act y t)
        joined None q = record { bytes = q; blocks = h.blocks }
        joined (Some left) q = record { bytes = q; blocks = h.blocks }
  step_alike (Alters dev lba change) s t h = record {
    sees = record { bytes = h.bytes; blocks = ap (λ x. scatter (m.site.cell dev lba ∷ []) (changed change (get_or x (source_of m.site dev lba change) []) ∷ []) x) h.blocks };
    tells = tt;
  }

-- What was written to pages, as cells.
use Rattle.std.proofs.Common.{◌≡◌, ◌<◌, ◌≤◌, ℕ, zero, suc, ◌+◌, ◌*◌, ◌/◌, true, false, List, [], ◌∷◌, ◌++◌, length, map, get_or, take, drop, replicate, Option, Some, None, refl, sym, ap, ◌∙◌, subst, arith}
use Rattle.std.specs.Prelude.{if◌then◌else◌, eqb}
use Rattle.std.specs.List.{IsDistinct}
use Rattle.std.proofs.lemmas.List.{drop_at, length-append, length-map, length-replicate, replicate-append-replicate, set-get_or, take_at}
use Rattle.fault_schedule.specs.declared.Label.{Label}
use Rattle.page_pool.specs.Cells.{cell, flat, gather, scatter, share_a_cell}
use Rattle.page_pool.specs.Pages.{AllLieIn, AreWhole, Wrote, bytes_at}
use Rattle.page_pool.specs.Places.{range_of, total}
use Rattle.page_pool.proofs.Celled.{apart-cells, distinct-cells, gather-append, read-cells, scatter-append, whole_stays, wrote-cells}
use Rattle.page_pool.proofs.Placing.{all_lie-same}
use Rattle.page_pool.proofs.Ranges.{apart-lists}
use Rattle.page_pool.proofs.Spreads.{length-range, once-range, range_stands}
use Rattle.pi_guard.specs.Guards.{guard_of}
use Rattle.pi_tuple.specs.declared.checks.Check.{Check}
use Rattle.pi_tuple.specs.declared.checks.PiType.{PiType}
use Rattle.pi_tuple.specs.Finds.{finding, own_tag}
use Rattle.pi_tuple.specs.Tuples.{ref_tag, tuple_bytes, tuple_in}
use Rattle.integrity_payload.specs.declared.payload.Owner.{Owner}
use Rattle.integrity_payload.specs.declared.payload.Owner.TheVariants.{Block as OfBlock}
use Rattle.integrity_payload.specs.declared.payload.Payload.{Payload}
use Rattle.integrity_payload.specs.Payloads.{all_asked, block_of, tuple_of, tuple_places}
use Rattle.ref_remap.specs.Remapped.{AreRemapped, all_remapped, remapped_bytes}
use Rattle.bio_core.specs.declared.fate.Fate.{Fate}
use Rattle.bio_core.specs.declared.fate.Fate.TheVariants.{Good, Bad, Untouched}
use Rattle.bio_core.specs.declared.request.Io.{Io}
use Rattle.bio_core.specs.Bios.{block_size}
use Rattle.bio_core.proofs.Sizes.{blocks_fit}
use Rattle.dix_adapter.specs.Groups.{data_cells}
use Rattle.block_path.specs.declared.mode.Mode.{Mode}
use Rattle.block_path.specs.Acts.{Act, State, act}
use Rattle.block_path.specs.Blocks.{ActAnswer}
use Rattle.block_path.specs.Serial.{plain}
use Rattle.block_path.proofs.InTurn.{made_in_turn, mapped_in_turn}
use Rattle.block_path.specs.Routes.{host_finding, host_type}
use Rattle.block_path.specs.WayIn.{Delivers, delivered_unless, mapped_back, owner_finds}
use Rattle.block_path.specs.Moves.{first_why, in_turn, left_by, map_back, on_bytes, settled_by}
use Rattle.block_path.specs.declared.route.Route.{Route}
use Rattle.block_path.proofs.Sizes.{tuple_length}
use Rattle.block_path.proofs.Cells.{distinct, gather_length, gather_past, scatter_past, scatter_twice}
use Rattle.stack_walk_laws.specs.Settling.{fate_by}
use Rattle.bio_core.specs.declared.request.Dir.TheVariants.{Write}
use Rattle.stack_core.specs.Done.{MadeBy, WriteMade, WriteMapped}
use Rattle.stack_walk_laws.specs.Settled.{Blanked, Judged, LeftBy, MappedBack, ReadSettled, TupleBlanked, said_by}
use Rattle.stack_walk_laws.specs.Moved.{HasFrames, IsSettle, makes, maps_out, route_to, tuple_at, why_of}

-- ---- lists of cells

abbrev zeros : ℕ → List ℕ
zeros n = replicate n 0

scatter-self : (at cells : List ℕ) → scatter at (gather 0 at cells) cells ≡ cells
scatter-self [] cells = refl
scatter-self (i ∷ at) cells = rw set-get_or (scatter-self at cells)

-- what stood in the cells of the tuple before zeros came there isn't seen
zeros-over : (d t y m z cells : List ℕ) → share_a_cell d t ≡ false → IsDistinct eqb t → length m ≤ length z → scatter t z (scatter d y (scatter t m cells)) ≡ scatter t z (scatter d y cells)
zeros-over d t y m z cells s u l = ap (scatter t z) (scatter_past d t y m cells s) ∙ scatter_twice t m z (scatter d y cells) (distinct t u) l

-- ---- one block

long-data : (io : Io) (k : ℕ) → k < io.count → k * block_size io + block_size io ≤ total io.body
long-data io k there = let e : 1 * block_size io ≡ block_size io = omega arith in let f = blocks_fit k 1 io.count (total io.body) (block_size io) (omega (arith, there)) refl in omega (arith, e, f)

length-data : (io : Io) (k : ℕ) → k < io.count → length (data_cells io k) ≡ block_size io
length-data io k there = length-map (range_of io.body (k * block_size io) (block_size io)) cell ∙ length-range io.body (k * block_size io) (block_size io) (long-data io k there)

module _ (old : List (List ℕ)) (io : Io) (pi : Payload) (k : ℕ) (h : HasFrames old io pi) (there : k < io.count) where
  long-place : 8 * k + 8 ≤ total pi.tuples
  long-place = let e = h.long in omega arith

  length-tuple : length (tuple_at pi k) ≡ 8
  length-tuple = length-map (tuple_places pi.tuples k) cell ∙ length-range pi.tuples (8 * k) 8 long-place

  share : share_a_cell (data_cells io k) (tuple_at pi k) ≡ false
  share =
      apart-cells (length old) (range_of io.body (k * block_size io) (block_size io)) (tuple_places pi.tuples k) (range_stands old io.body (k * block_size io) (block_size io) h.lies) (range_stands old pi.tuples (8 * k) 8 h.lie)
      (apart-lists io.body pi.tuples (k * block_size io) (block_size io) (8 * k) 8 h.apart)

  apart-tuple : IsDistinct eqb (tuple_at pi k)
  apart-tuple = distinct-cells (length old) (tuple_places pi.tuples k) (range_stands old pi.tuples (8 * k) 8 h.lie) (once-range pi.tuples (8 * k) 8 h.once)

  frame-is : gather 0 (data_cells io k ++ tuple_at pi k) (flat old) ≡ gather 0 (data_cells io k) (flat old) ++ gather 0 (tuple_at pi k) (flat old)
  frame-is = gather-append 0 (data_cells io k) (tuple_at pi k) (flat old)

  length-frame : length (gather 0 (data_cells io k ++ tuple_at pi k) (flat old)) ≡ block_size io + 8
  length-frame =
      let a = gather_length 0 (data_cells io k ++ tuple_at pi k) (flat old) in
      let b = length-append (data_cells io k) (tuple_at pi k) in
      let c = length-data io k there in
      let d = length-tuple in
      omega arith

  -- the tag of its tuple is mapped in place
  bytes-is : (ty : PiType) (from to : ℕ) → all_remapped old pi.tuples ty k from to 1 ≡ remapped_bytes ty from to (gather 0 (tuple_at pi k) (flat old))
  bytes-is ty from to =
      let a : from + 0 ≡ from = omega arith in
      let b : to + 0 ≡ to = omega arith in
      let c : k + 0 ≡ k = omega arith in
      let r = read-cells old (tuple_places pi.tuples k) h.whole (range_stands old pi.tuples (8 * k) 8 h.lie) in
      ap (λ x. remapped_bytes ty x (to + 0) (bytes_at old (tuple_places pi.tuples (k + 0)))) a ∙ ap (λ x. remapped_bytes ty from x (bytes_at old (tuple_places pi.tuples (k + 0)))) b
      ∙ ap (λ x. remapped_bytes ty from to (bytes_at old (tuple_places pi.tuples x))) c ∙ ap (remapped_bytes ty from to) r

  mapped-cells : (new : List (List ℕ)) (ty : PiType) (from to : ℕ) → AreRemapped old new pi.tuples ty k 1 from to → flat new ≡ scatter (tuple_at pi k) (remapped_bytes ty from to (gather 0 (tuple_at pi k) (flat old))) (flat old)
  mapped-cells new ty from to m =
      wrote-cells old new (tuple_places pi.tuples k) (all_remapped old pi.tuples ty k from to 1) h.whole (range_stands old pi.tuples (8 * k) 8 h.lie) m.wrote ∙ ap (λ b. scatter (tuple_at pi k) b (flat old)) (bytes-is ty from to)

  long-tuple : (ty : PiType) (from to : ℕ) → length (remapped_bytes ty from to (gather 0 (tuple_at pi k) (flat old))) ≡ 8
  long-tuple ty from to = tuple_length ty from to (gather 0 (tuple_at pi k) (flat old)) (gather_length 0 (tuple_at pi k) (flat old) ∙ length-tuple)

  -- zeros stand in its place
  blanked-cells : (new : List (List ℕ)) → Blanked io k old new → flat new ≡ scatter (data_cells io k ++ tuple_at pi k) (replicate (block_size io + 8) 0) (flat old)
  blanked-cells new b =
      let p = range_of io.body (k * block_size io) (block_size io) in
      let w = wrote-cells old b.between p (replicate (block_size io) 0) h.whole (range_stands old io.body (k * block_size io) (block_size io) h.lies) b.body in
      let whole = whole_stays old b.between p b.body.others h.whole in
      let lie = all_lie-same old b.between pi.tuples b.body.others.pages h.lie in
      let t : Wrote b.between new (tuple_places pi.tuples k) (replicate 8 0) = subst (λ o. TupleBlanked o k b.between new) h.is b.tuple in
      let v = wrote-cells b.between new (tuple_places pi.tuples k) (replicate 8 0) whole (range_stands b.between pi.tuples (8 * k) 8 lie) t in
      let s = scatter-append (data_cells io k) (tuple_at pi k) (replicate (block_size io) 0) (replicate 8 0) (flat old) (length-replicate {A = ℕ} (block_size io) 0 ∙ sym (length-data io k there)) in
      let r : zeros (block_size io) ++ zeros 8 ≡ zeros (block_size io + 8) = replicate-append-replicate (block_size io) 8 0 in
      v ∙ ap (scatter (tuple_at pi k) (replicate 8 0)) w ∙ sym s ∙ ap (λ z. scatter (data_cells io k ++ tuple_at pi k) z (flat old)) r

  -- whatever stood in the tuple's cells
  forget : (m : List ℕ) → length m ≡ 8 → scatter (data_cells io k ++ tuple_at pi k) (replicate (block_size io + 8) 0) (scatter (tuple_at pi k) m (flat old)) ≡ scatter (data_cells io k ++ tuple_at pi k) (replicate (block_size io + 8) 0) (flat old)
  forget m l =
      let at = data_cells io k ++ tuple_at pi k in
      let r : zeros (block_size io) ++ zeros 8 ≡ zeros (block_size io + 8) = replicate-append-replicate (block_size io) 8 0 in
      let n = length-replicate {A = ℕ} (block_size io) 0 ∙ sym (length-data io k there) in
      ap (λ z. scatter at z (scatter (tuple_at pi k) m (flat old))) (sym r)
      ∙ scatter-append (data_cells io k) (tuple_at pi k) (replicate (block_size io) 0) (replicate 8 0) (scatter (tuple_at pi k) m (flat old)) n
      ∙ zeros-over (data_cells io k) (tuple_at pi k) (replicate (block_size io) 0) m (replicate 8 0) (flat old) share apart-tuple (omega (arith, length-replicate {A = ℕ} 8 0))
      ∙ sym (scatter-append (data_cells io k) (tuple_at pi k) (replicate (block_size io) 0) (replicate 8 0) (flat old) n)
      ∙ ap (λ z. scatter at z (flat old)) r

frames-stay : (old new : List (List ℕ)) (io : Io) (pi : Payload) → length new ≡ length old → AreWhole new → HasFrames old io pi → HasFrames new io pi
frames-stay old new io pi e w h = record {
  is = h.is;
  seed = h.seed;
  whole = w;
  lies = all_lie-same old new io.body e h.lies;
  lie = all_lie-same old new pi.tuples e h.lie;
  once = h.once;
  apart = h.apart;
  count = h.count;
  long = h.long;
}

-- ---- a block of a read

module _ (old : List (List ℕ)) (io : Io) (pi : Payload) (k : ℕ) (h : HasFrames old io pi) (there : k < io.count) (label : Label) (dev : ℕ) (ty : PiType) (mode : Mode) (lba : ℕ) (dix : mode.dix ≡ true) where
  abbrev way : Route
  way = route_to label dev ty mode io k lba

  abbrev to : List ℕ
  to = data_cells io k ++ tuple_at pi k

  abbrev body : List ℕ
  body = gather 0 (data_cells io k) (flat old)

  abbrev mapped : List ℕ
  mapped = remapped_bytes (host_type ty) lba (io.first + k) (gather 0 (tuple_at pi k) (flat old))

  abbrev asked : List ℕ → List ℕ → Option Check
  asked bytes tuple = finding (host_type ty) (all_asked mode.app mode.mask) (ref_tag (io.first + k)) (guard_of mode.kind bytes) (tuple_in tuple)

  long-body : length body ≡ block_size io
  long-body = gather_length 0 (data_cells io k) (flat old) ∙ length-data io k there

  back-is : mapped_back way (gather 0 to (flat old)) ≡ body ++ mapped
  back-is =
      let frame = gather 0 to (flat old) in
      let e = frame-is old io pi k h there in
      let f : take (block_size io) frame ≡ body = ap (take (block_size io)) e ∙ take_at body (gather 0 (tuple_at pi k) (flat old)) (block_size io) long-body in
      let g : drop (block_size io) frame ≡ gather 0 (tuple_at pi k) (flat old) = ap (drop (block_size io)) e ∙ drop_at body (gather 0 (tuple_at pi k) (flat old)) (block_size io) long-body in
      ap (λ b. if b then take (block_size io) frame ++ remapped_bytes (host_type ty) lba (io.first + k) (drop (block_size io) frame) else frame) dix
      ∙ ap (λ b. b ++ remapped_bytes (host_type ty) lba (io.first + k) (drop (block_size io) frame)) f
      ∙ ap (λ t. body ++ remapped_bytes (host_type ty) lba (io.first + k) t) g

  finds-is : owner_finds way (body ++ mapped) ≡ asked body mapped
  finds-is =
      let n = block_size io in
      let f = take_at body mapped n long-body in
      let g = drop_at body mapped n long-body in
      ap (λ b. if b then asked (take n (body ++ mapped)) (drop n (body ++ mapped)) else None) dix ∙ ap (λ b. asked b (drop n (body ++ mapped))) f ∙ ap (asked body) g

  -- by what its owner finds, the block is left or blanked
  by-finding : (found : Option Check) (mid new : List (List ℕ)) (result : Fate) → flat mid ≡ scatter (tuple_at pi k) mapped (flat old) → HasFrames mid io pi → result ≡ fate_by pi.owner found → LeftBy result io k mid new →
      (flat new ≡ scatter to (left_by way pi.owner (delivered_unless pi.owner [] (body ++ mapped) found) (length (gather 0 to (flat old)))).written.bytes (flat old))
      × (why_of result ≡ (left_by way pi.owner (delivered_unless pi.owner [] (body ++ mapped) found) (length (gather 0 to (flat old)))).answer.why)
  by-finding None mid new result m f r l =
      let e : new ≡ mid = subst (λ x. LeftBy x io k mid new) r l in
      let n : length body ≡ length (data_cells io k) = gather_length 0 (data_cells io k) (flat old) in
      (ap flat e ∙ m ∙ ap (scatter (tuple_at pi k) mapped) (sym (scatter-self (data_cells io k) (flat old))) ∙ sym (scatter-append (data_cells io k) (tuple_at pi k) body mapped (flat old) n), ap why_of r)
  by-finding (Some check) mid new result m f r l =
      let b : Blanked io k mid new = subst (λ x. LeftBy x io k mid new) r l in
      let n = length-frame old io pi k h there in (
        blanked-cells mid io pi k f there new b ∙ ap (scatter to (replicate (block_size io + 8) 0)) m ∙ forget old io pi k h there mapped (long-tuple old io pi k h there (host_type ty) lba (io.first + k)) ∙ ap (λ z. scatter to (replicate z 0) (flat old)) (sym n),
        ap why_of r,
      )

  settled-good : (mid new : List (List ℕ)) (result : Fate) → AreRemapped old mid pi.tuples (host_type ty) k 1 lba (pi.seed + k) → result ≡ said_by pi mode (host_type ty) mid io k → LeftBy result io k mid new →
      (flat new ≡ scatter to (settled_by way pi.owner None (gather 0 to (flat old))).written.bytes (flat old)) × (why_of result ≡ (settled_by way pi.owner None (gather 0 to (flat old))).answer.why)
  settled-good mid new result m r l =
      let s = subst (λ x. AreRemapped old mid pi.tuples (host_type ty) k 1 lba (x + k)) h.seed m in
      let c = mapped-cells old io pi k h there mid (host_type ty) lba (io.first + k) s in
      let w = whole_stays old mid (tuple_places pi.tuples k) s.wrote.others h.whole in
      let f = frames-stay old mid io pi s.wrote.others.pages w h in
      let d = read-cells mid (range_of io.body (k * block_size io) (block_size io)) w (range_stands mid io.body (k * block_size io) (block_size io) f.lies) in
      let b : block_of mid io.body (block_size io) k ≡ body = d ∙ ap (gather 0 (data_cells io k)) c ∙ gather_past 0 (data_cells io k) (tuple_at pi k) mapped (flat old) (share old io pi k h there) in
      let t : bytes_at mid (tuple_places pi.tuples k) ≡ mapped = s.wrote.written ∙ bytes-is old io pi k h there (host_type ty) lba (io.first + k) in
      let o : finding (host_type ty) (all_asked mode.app mode.mask) (ref_tag (pi.seed + k)) (guard_of mode.kind (block_of mid io.body (block_size io) k)) (tuple_of mid pi.tuples k) ≡ asked body mapped =
      ap (λ x. finding (host_type ty) (all_asked mode.app mode.mask) (ref_tag (x + k)) (guard_of mode.kind (block_of mid io.body (block_size io) k)) (tuple_of mid pi.tuples k)) h.seed
      ∙ ap (λ x. asked x (bytes_at mid (tuple_places pi.tuples k))) b ∙ ap (asked body) t in
      let x = by-finding (asked body mapped) mid new result c f (r ∙ ap (fate_by pi.owner) o) l in
      let e : left_by way pi.owner (delivered_unless pi.owner [] (body ++ mapped) (asked body mapped)) (length (gather 0 to (flat old))) ≡ settled_by way pi.owner None (gather 0 to (flat old)) =
      ap (λ q. left_by way pi.owner (delivered_unless pi.owner [] (body ++ mapped) q) (length (gather 0 to (flat old)))) (sym finds-is)
      ∙ ap (λ q. left_by way pi.owner (delivered_unless pi.owner [] q (owner_finds way q)) (length (gather 0 to (flat old)))) (sym back-is) in
      (x.0 ∙ ap (λ q. scatter to q.written.bytes (flat old)) e, x.1 ∙ ap (λ q. q.answer.why) e)

  settled-cells : (fate : Fate) (new : List (List ℕ)) (result : Fate) → (fate ≡ Untouched → ⊥) → ReadSettled mode (host_type ty) io k lba fate old new result →
      (flat new ≡ scatter to (settled_by way pi.owner (why_of fate) (gather 0 to (flat old))).written.bytes (flat old))
      × (why_of result ≡ first_why (why_of fate) (settled_by way pi.owner (why_of fate) (gather 0 to (flat old))).answer.why)
  settled-cells Good new result u s =
      let j = subst (λ o. Judged o Good mode (host_type ty) io k lba old s.between result) h.is s.judged in
      settled-good s.between new result j.0 j.1 s.left
  settled-cells (Bad why) new result u s =
      let j = subst (λ o. Judged o (Bad why) mode (host_type ty) io k lba old s.between result) h.is s.judged in
      let l : Blanked io k s.between new = subst (λ f. LeftBy f io k s.between new) j.1 s.left in
      let b = subst (λ p. Blanked io k p new) j.0 l in
      (blanked-cells old io pi k h there new b ∙ ap (λ z. scatter to (replicate z 0) (flat old)) (sym (length-frame old io pi k h there)), ap why_of j.1)
  settled-cells Untouched new result u s = absurd (u refl)

  -- a settled block is one move further
  pub is-settle : (fate : Fate) (n : ℕ) (new : List (List ℕ)) (result : Fate) (now : State) → (fate ≡ Untouched → ⊥) → now.bytes ≡ flat old → get_or now.fates n None ≡ why_of fate → ReadSettled mode (host_type ty) io k lba fate old new result →
      IsSettle way pi.owner to n fate now new result
  is-settle fate n new result now u e f s =
      let x = settled-cells fate new result u s in
      let g : settled_by way pi.owner (get_or now.fates n None) (gather 0 to now.bytes) ≡ settled_by way pi.owner (why_of fate) (gather 0 to (flat old)) =
      ap (λ w. settled_by way pi.owner w (gather 0 to now.bytes)) f ∙ ap (λ b. settled_by way pi.owner (why_of fate) (gather 0 to b)) e in
      record {
        bytes = x.0 ∙ ap (λ b. scatter to (settled_by way pi.owner (why_of fate) (gather 0 to (flat old))).written.bytes b) (sym e) ∙ ap (λ q. scatter to q.written.bytes now.bytes) (sym g);
        came = x.1 ∙ ap (λ q. first_why (why_of fate) q.answer.why) (sym g);
      }

-- ---- a block of a read without a tuple

module _ (old : List (List ℕ)) (io : Io) (k : ℕ) (none : io.pi ≡ None) (whole : AreWhole old) (lies : AllLieIn old io.body) (there : k < io.count) (label : Label) (dev : ℕ) (ty : PiType) (mode : Mode) (lba : ℕ) (dix : mode.dix ≡ false) (owner : Owner) where
  abbrev bare : Route
  bare = route_to label dev ty mode io k lba

  bare-blanked : (between new : List (List ℕ)) → between ≡ old → Blanked io k between new → flat new ≡ scatter (data_cells io k) (replicate (length (gather 0 (data_cells io k) (flat old))) 0) (flat old)
  bare-blanked between new e b =
      let c : Blanked io k old new = subst (λ p. Blanked io k p new) e b in
      let p = range_of io.body (k * block_size io) (block_size io) in
      let w = wrote-cells old c.between p (zeros (block_size io)) whole (range_stands old io.body (k * block_size io) (block_size io) lies) c.body in
      let t : new ≡ c.between = subst (λ o. TupleBlanked o k c.between new) none c.tuple in
      ap flat t ∙ w ∙ ap (λ n. scatter (data_cells io k) (zeros n) (flat old)) (sym (gather_length 0 (data_cells io k) (flat old) ∙ (length-data io k there)))

  bare-cells : (fate : Fate) (new : List (List ℕ)) (result : Fate) → (fate ≡ Untouched → ⊥) → ReadSettled mode (host_type ty) io k lba fate old new result →
      (flat new ≡ scatter (data_cells io k) (settled_by bare owner (why_of fate) (gather 0 (data_cells io k) (flat old))).written.bytes (flat old))
      × (why_of result ≡ first_why (why_of fate) (settled_by bare owner (why_of fate) (gather 0 (data_cells io k) (flat old))).answer.why)
  bare-cells Good new result u s =
      let frame = gather 0 (data_cells io k) (flat old) in
      let j = subst (λ o. Judged o Good mode (host_type ty) io k lba old s.between result) none s.judged in
      let l : new ≡ s.between = subst (λ f. LeftBy f io k s.between new) j.1 s.left in
      let m : mapped_back bare frame ≡ frame = ap (λ b. if b then take (block_size io) frame ++ remapped_bytes (host_type ty) lba (io.first + k) (drop (block_size io) frame) else frame) dix in
      let o : (f : List ℕ) → owner_finds bare f ≡ None = λ f. ap (λ b. if b then host_finding bare (io.first + k) f else None) dix in
      let e : settled_by bare owner None frame ≡ left_by bare owner (Delivers [] frame) (length frame) =
      ap (λ q. left_by bare owner (delivered_unless owner [] q (owner_finds bare q)) (length frame)) m ∙ ap (λ q. left_by bare owner (delivered_unless owner [] frame q) (length frame)) (o frame) in
      (ap flat (l ∙ j.0) ∙ sym (scatter-self (data_cells io k) (flat old)) ∙ ap (λ q. scatter (data_cells io k) q.written.bytes (flat old)) (sym e), ap why_of j.1 ∙ ap (λ q. q.answer.why) (sym e))
  bare-cells (Bad why) new result u s =
      let j = subst (λ o. Judged o (Bad why) mode (host_type ty) io k lba old s.between result) none s.judged in
      let l : Blanked io k s.between new = subst (λ f. LeftBy f io k s.between new) j.1 s.left in
      (bare-blanked s.between new j.0 l, ap why_of j.1)
  bare-cells Untouched new result u s = absurd (u refl)

  pub is-bare : (fate : Fate) (n : ℕ) (new : List (List ℕ)) (result : Fate) (now : State) → (fate ≡ Untouched → ⊥) → now.bytes ≡ flat old → get_or now.fates n None ≡ why_of fate → ReadSettled mode (host_type ty) io k lba fate old new result →
      IsSettle bare owner (data_cells io k) n fate now new result
  is-bare fate n new result now u e f s =
      let x = bare-cells fate new result u s in
      let at = data_cells io k in
      let g : settled_by bare owner (get_or now.fates n None) (gather 0 at now.bytes) ≡ settled_by bare owner (why_of fate) (gather 0 at (flat old)) =
      ap (λ w. settled_by bare owner w (gather 0 at now.bytes)) f ∙ ap (λ b. settled_by bare owner (why_of fate) (gather 0 at b)) e in
      record {
        bytes = x.0 ∙ ap (λ b. scatter at (settled_by bare owner (why_of fate) (gather 0 at (flat old))).written.bytes b) (sym e) ∙ ap (λ q. scatter at q.written.bytes now.bytes) (sym g);
        came = x.1 ∙ ap (λ q. first_why (why_of fate) q.answer.why) (sym g);
      }

-- ---- the moves of tuples, in turn

in-turn-same : (f g : ℕ → Act ActAnswer) (n : ℕ) → ((i : ℕ) → f i ≡ g i) → in_turn f n ≡ in_turn g n
in-turn-same f g zero h = refl
in-turn-same f g (suc n) h = let a = in-turn-same f g n h in let b = h n in cc

module _ (old new : List (List ℕ)) (io : Io) (pi : Payload) (h : HasFrames old io pi) (dev : ℕ) (ty : PiType) (mode : Mode) (now : State) (same : now.bytes ≡ flat old) where
  pub are-made : (label : ℕ → Label) → io.dir ≡ Write → pi.owner ≡ OfBlock → WriteMade io.dir io.pi mode.kind (host_type ty) io.body old new → flat new ≡ (plain act (makes label dev ty mode io pi pi.count) now).bytes
  are-made label w o m =
      let a = subst (λ d. WriteMade d io.pi mode.kind (host_type ty) io.body old new) w m in
      let b = subst (λ q. WriteMade Write q mode.kind (host_type ty) io.body old new) h.is a in
      let c = subst (λ q. MadeBy q pi mode.kind (host_type ty) io.body old new) o b in
      let n = h.count in
      let t = h.long in
      let z : total io.body / pi.count ≡ block_size io = ap (λ x. total io.body / x) n in
      let x = made_in_turn old new pi.tuples now h.whole h.lie h.once same io.body (total io.body / pi.count) mode.kind (host_type ty) pi.seed pi.app pi.count h.lies h.apart (omega arith) c in
      let s : in_turn (λ i. on_bytes (map cell (range_of io.body (i * (total io.body / pi.count)) (total io.body / pi.count))) (map cell (tuple_places pi.tuples i)) (λ bytes. tuple_bytes (record { guard = guard_of mode.kind bytes; app = pi.app; rtag = own_tag (host_type ty) (pi.seed + i) }))) pi.count ≡ makes label dev ty mode io pi pi.count =
      in-turn-same _ _ pi.count (λ i. ap (λ y. on_bytes (map cell (range_of io.body (i * y) y)) (map cell (tuple_places pi.tuples i)) (λ bytes. tuple_bytes (record { guard = guard_of mode.kind bytes; app = pi.app; rtag = own_tag (host_type ty) (pi.seed + i) }))) z
      ∙ ap (λ y. on_bytes (data_cells io i) (tuple_at pi i) (λ bytes. tuple_bytes (record { guard = guard_of mode.kind bytes; app = pi.app; rtag = own_tag (host_type ty) (y + i) }))) h.seed) in
      sym x ∙ ap (λ l. (plain act l now).bytes) s

  pub are-mapped : (label : ℕ → Label) (k n lba : ℕ) → k + n ≤ io.count → io.dir ≡ Write → WriteMapped io.dir io.pi (host_type ty) k n lba old new → flat new ≡ (plain act (maps_out label dev ty mode io pi k n lba) now).bytes
  are-mapped label k n lba l w m =
      let a = subst (λ d. WriteMapped d io.pi (host_type ty) k n lba old new) w m in
      let b = subst (λ q. WriteMapped Write q (host_type ty) k n lba old new) h.is a in
      let t = h.long in
      let x = mapped_in_turn old new pi.tuples now h.whole h.lie h.once same (host_type ty) k n (pi.seed + k) lba (omega arith) b in
      let s : in_turn (λ i. on_bytes (map cell (tuple_places pi.tuples (k + i))) (map cell (tuple_places pi.tuples (k + i))) (remapped_bytes (host_type ty) (pi.seed + k + i) (lba + i))) n ≡ maps_out label dev ty mode io pi k n lba =
      in-turn-same _ _ n (λ i. (let e = h.seed in let y : pi.seed + k + i ≡ io.first + (k + i) = omega arith in ap (λ z. on_bytes (tuple_at pi (k + i)) (tuple_at pi (k + i)) (remapped_bytes (host_type ty) z (lba + i))) y)) in
      sym x ∙ ap (λ l. (plain act l now).bytes) s

  pub is-mapped-back : (label : Label) (k lba : ℕ) → k < io.count → MappedBack io.pi (host_type ty) k lba old new → flat new ≡ (act (map_back (route_to label dev ty mode io k lba) (tuple_at pi k)) now).bytes
  is-mapped-back label k lba l m =
      let a = subst (λ q. MappedBack q (host_type ty) k lba old new) h.is m in
      let s = subst (λ x. AreRemapped old new pi.tuples (host_type ty) k 1 lba (x + k)) h.seed a in
      let c = mapped-cells old io pi k h l new (host_type ty) lba (io.first + k) s in
      c ∙ ap (λ b. scatter (tuple_at pi k) (remapped_bytes (host_type ty) lba (io.first + k) (gather 0 (tuple_at pi k) b)) b) (sym same)

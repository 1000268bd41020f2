-- A write's maps and its carry are its act.
use Rattle.std.proofs.Common.{◌≡◌, ◌≤◌, ◌^◌, ℕ, zero, suc, ◌+◌, Bool, true, false, ◌&&◌, ◌||◌, eqb, if◌then◌else◌, List, [], ◌∷◌, ◌++◌, length, drop, take, get_or, map, refl, sym, ap, ◌∙◌, arith}
use Rattle.std.specs.Int.{w32, to_be_bytes, from_be_bytes}
use Rattle.std.specs.List.{All}
use Rattle.std.proofs.lemmas.Nat.{from_be_bytes-to_be_bytes_4, mod_below}
use Rattle.std.proofs.lemmas.Bool.{eq-eqb}
use Rattle.std.proofs.lemmas.List.{length-append, length-drop, length-take-le, take-append-drop}
use Rattle.pi_tuple.specs.Finds.{has_ref_tag}
use Rattle.pi_tuple.specs.Tuples.{ref_tag, tuple_bytes}
use Rattle.pi_tuple.specs.declared.tuple.Tuple.{Tuple}
use Rattle.range_gate.specs.Passed.{gather, scatter, share_a_cell}
use Rattle.ref_remap.specs.Remapped.{remapped_bytes, remapped_tag}
use Rattle.rig_api.specs.Frames.{frame_of}
use Rattle.block_path.specs.declared.route.Route.{Route}
use Rattle.block_path.specs.Acts.{State, act, tell}
use Rattle.block_path.specs.Blocks.{Site, own_cell, own_frame, own_tuple, stored_cell, tag_after, tuple_after, write_block, write_block_of_app, written_by}
use Rattle.block_path.specs.Moves.{AreCells, FrameAt, IsOne, carry_out, hidden, make_tuple, map_back, map_out}
use Rattle.block_path.specs.Routes.{host_type}
use Rattle.block_path.specs.WayOut.{Fails, Refuses, Stores, WayOut, goes_out, mapped_out, way_out}
use Rattle.block_path.proofs.Acts.{same_cells}
use Rattle.block_path.proofs.Behind.{AllFrom, from, scatter_behind}
use Rattle.block_path.proofs.Cells.{below, distinct, gather_append, gather_back, gather_length, gather_past, scatter_twice}
use Rattle.block_path.proofs.Sizes.{tag_length}

drop_over : {X : Type 0} (xs ys : List X) (m n : ℕ) → m ≡ length xs + n → drop m (xs ++ ys) ≡ drop n ys
drop_over [] ys m n e = ap (λ k. drop k ys) (omega (arith, e))
drop_over (x ∷ xs) ys zero n e = absurd (omega (arith, e))
drop_over (x ∷ xs) ys (suc m) n e = drop_over xs ys m n (omega (arith, e))

pub take_over : {X : Type 0} (xs ys : List X) (m : ℕ) → m ≡ length xs → take m (xs ++ ys) ≡ xs
take_over [] ys m e = rw e refl
take_over (x ∷ xs) ys zero e = absurd (omega (arith, e))
take_over (x ∷ xs) ys (suc m) e = ap (λ rest. x ∷ rest) (take_over xs ys m (omega (arith, e)))

-- mapped out and back a tag that was virtual or physical is virtual
tag_round : (r : Route) (tag : List ℕ) → remapped_tag (host_type r.ty) r.lba r.virt (remapped_tag (host_type r.ty) r.virt r.lba tag) ≡ tag_after r tag
tag_round r tag = by (has_ref_tag (host_type r.ty)) (eqb (from_be_bytes w32 tag) (ref_tag r.virt)) where
  by : (h e : Bool) →
      let out = if h && e then to_be_bytes w32 (ref_tag r.lba) else tag in
      (if h && eqb (from_be_bytes w32 out) (ref_tag r.lba) then to_be_bytes w32 (ref_tag r.virt) else out) ≡ (if h && (e || eqb (from_be_bytes w32 tag) (ref_tag r.lba)) then to_be_bytes w32 (ref_tag r.virt) else tag)
  by false e = refl
  by true false = refl
  by true true =
      let a = ref_tag r.lba in
      let same : eqb a a ≡ true = eq-eqb a a refl in
      ap (λ n. if eqb n a then to_be_bytes w32 (ref_tag r.virt) else to_be_bytes w32 (ref_tag r.lba)) (from_be_bytes-to_be_bytes_4 a (mod_below r.lba (2 ^ 32) (omega arith)))
      ∙ ap (λ c. if c then to_be_bytes w32 (ref_tag r.virt) else to_be_bytes w32 (ref_tag r.lba)) same

round_trip : (r : Route) (tuple : List ℕ) → length tuple ≡ 8 → remapped_bytes (host_type r.ty) r.lba r.virt (remapped_bytes (host_type r.ty) r.virt r.lba tuple) ≡ tuple_after r tuple
round_trip r tuple l =
    let four : 4 ≡ length (take 4 tuple) = sym (length-take-le 4 tuple (omega (arith, l))) in
    let tag = remapped_tag (host_type r.ty) r.virt r.lba (drop 4 tuple) in
    ap (λ xs. xs ++ remapped_tag (host_type r.ty) r.lba r.virt (drop 4 (take 4 tuple ++ tag))) (take_over (take 4 tuple) tag 4 four)
    ∙ ap (λ xs. take 4 tuple ++ remapped_tag (host_type r.ty) r.lba r.virt xs) (drop_over (take 4 tuple) tag 4 0 (omega (arith, four)))
    ∙ ap (λ xs. take 4 tuple ++ xs) (tag_round r (drop 4 tuple))

eight : (tuple tag : List ℕ) → length tuple ≡ 8 → length tag ≡ 4 → length (take 4 tuple ++ tag) ≡ 8
eight tuple tag l k = let a = length-append (take 4 tuple) tag in let b = length-take-le 4 tuple (omega (arith, l)) in omega (arith, a, b, k)

out_length : (r : Route) (tuple : List ℕ) → length tuple ≡ 8 → length (remapped_bytes (host_type r.ty) r.virt r.lba tuple) ≡ 8
out_length r tuple l =
    eight tuple (remapped_tag (host_type r.ty) r.virt r.lba (drop 4 tuple)) l
    (tag_length (has_ref_tag (host_type r.ty) && eqb (from_be_bytes w32 (drop 4 tuple)) (ref_tag r.virt)) (drop 4 tuple) (ref_tag r.lba) (let d = length-drop 4 tuple in omega (arith, d, l)))

after_length : (r : Route) (tuple : List ℕ) → length tuple ≡ 8 → length (tuple_after r tuple) ≡ 8
after_length r tuple l =
    eight tuple (tag_after r (drop 4 tuple)) l
    (tag_length (has_ref_tag (host_type r.ty) && (eqb (from_be_bytes w32 (drop 4 tuple)) (ref_tag r.virt) || eqb (from_be_bytes w32 (drop 4 tuple)) (ref_tag r.lba))) (drop 4 tuple) (ref_tag r.virt)
    (let d = length-drop 4 tuple in omega (arith, d, l)))

-- what a way leaves besides the tuple doesn't depend on what becomes of the tuple
back_bytes : (r : Route) (way : WayOut) (back : List ℕ) (log : List (List ℕ)) → (written_by r way back log).written.bytes ≡ back
back_bytes r (Fails why) back log = refl
back_bytes r (Refuses why) back log = refl
back_bytes r (Stores carried stored) back log = refl

back_blocks : (r : Route) (way : WayOut) (back : List ℕ) (log : List (List ℕ)) → (written_by r way [] log).written.blocks ≡ (written_by r way back log).written.blocks
back_blocks r (Fails why) back log = refl
back_blocks r (Refuses why) back log = refl
back_blocks r (Stores carried stored) back log = refl

back_logs : (r : Route) (way : WayOut) (back : List ℕ) (log : List (List ℕ)) → (written_by r way [] log).written.logs ≡ (written_by r way back log).written.logs
back_logs r (Fails why) back log = refl
back_logs r (Refuses why) back log = refl
back_logs r (Stores carried stored) back log = refl

back_answer : (r : Route) (way : WayOut) (back : List ℕ) (log : List (List ℕ)) → (written_by r way [] log).answer ≡ (written_by r way back log).answer
back_answer r (Fails why) back log = refl
back_answer r (Refuses why) back log = refl
back_answer r (Stores carried stored) back log = refl

module _ (s : Site) (r : Route) (frame : List ℕ) (now : State) (at : FrameAt r.size frame (length now.bytes)) where
  abbrev body : List ℕ
  body = take r.size frame

  abbrev tuple : List ℕ
  tuple = drop r.size frame

  body_size : r.size ≡ length body
  body_size = sym (length-take-le r.size frame (omega (arith, at.long)))

  tuple_size : length tuple ≡ 8
  tuple_size = let l = length-drop r.size frame in omega (arith, l, at.long)

  abbrev mapped : State
  mapped = act (map_out r tuple) now

  abbrev seen : List ℕ
  seen = gather 0 frame now.bytes

  both_parts : (pages : List ℕ) → gather 0 frame pages ≡ gather 0 body pages ++ gather 0 tuple pages
  both_parts pages = ap (λ xs. gather 0 xs pages) (sym (take-append-drop r.size frame)) ∙ gather_append 0 body tuple pages

  seen_body : take r.size seen ≡ gather 0 body now.bytes
  seen_body = ap (take r.size) (both_parts now.bytes) ∙ take_over (gather 0 body now.bytes) (gather 0 tuple now.bytes) r.size (body_size ∙ sym (gather_length 0 body now.bytes))

  seen_tuple : drop r.size seen ≡ gather 0 tuple now.bytes
  seen_tuple = ap (drop r.size) (both_parts now.bytes)
      ∙ drop_over (gather 0 body now.bytes) (gather 0 tuple now.bytes) r.size 0 (let l = gather_length 0 body now.bytes in omega (arith, l, body_size))

  abbrev old : List ℕ
  old = gather 0 tuple now.bytes

  abbrev new : List ℕ
  new = remapped_bytes (host_type r.ty) r.virt r.lba old

  old_size : length old ≡ 8
  old_size = gather_length 0 tuple now.bytes ∙ tuple_size

  new_size : length new ≡ length tuple
  new_size = out_length r old old_size ∙ sym tuple_size

  mapped_tuple : gather 0 tuple mapped.bytes ≡ new
  mapped_tuple = gather_back tuple new now.bytes (distinct tuple at.tuple.once) (below (length now.bytes) tuple at.tuple.below) new_size

  -- what carry finds in the pages is the frame mapped out
  mapped_frame : r.mode.dix ≡ true → gather 0 frame mapped.bytes ≡ mapped_out r seen
  mapped_frame on =
      both_parts mapped.bytes
      ∙ ap (λ xs. xs ++ gather 0 tuple mapped.bytes) (gather_past 0 body tuple new now.bytes at.apart)
      ∙ ap (λ xs. gather 0 body now.bytes ++ xs) mapped_tuple
      ∙ ap (λ xs. xs ++ new) (sym seen_body)
      ∙ ap (λ xs. take r.size seen ++ remapped_bytes (host_type r.ty) r.virt r.lba xs) (sym seen_tuple)
      ∙ ap (λ c. if c then take r.size seen ++ remapped_bytes (host_type r.ty) r.virt r.lba (drop r.size seen) else seen) (sym on)

  abbrev log : List (List ℕ)
  log = get_or now.logs (own_cell s r) []

  pub write_in_three : r.mode.dix ≡ true →
      IsOne (act (map_back r tuple) (act (carry_out s r frame) mapped)) (act (write_block_of_app s r frame) now) (tell (carry_out s r frame) mapped) (tell (write_block_of_app s r frame) now)
  write_in_three on =
      let cell = stored_cell s r ∷ [] in
      let place = own_cell s r ∷ [] in
      let back = tuple_after r (drop r.size seen) in
      let way = way_out s.faults s.device r seen in
      let leaves = map (s.device.leaves r (get_or now.blocks (stored_cell s r) [])) in
      let same = ap (λ f. written_by r (goes_out s.faults s.device r f) [] log) (mapped_frame on) in
      let out = out_length r old old_size in
      let after = after_length r old old_size in
      record {
        bytes = ap (λ xs. scatter tuple (remapped_bytes (host_type r.ty) r.lba r.virt xs) mapped.bytes) mapped_tuple
            ∙ ap (λ xs. scatter tuple xs mapped.bytes) (round_trip r old old_size)
            ∙ scatter_twice tuple new (tuple_after r old) now.bytes (distinct tuple at.tuple.once) (omega (arith, out, after))
            ∙ ap (λ xs. scatter tuple (tuple_after r xs) now.bytes) (sym seen_tuple)
            ∙ ap (λ xs. scatter tuple xs now.bytes) (sym (back_bytes r way back log));
        blocks = ap (λ e. scatter cell (leaves e.written.blocks) now.blocks) same ∙ ap (λ xs. scatter cell (leaves xs) now.blocks) (back_blocks r way back log);
        logs = ap (λ e. scatter place e.written.logs now.logs) same ∙ ap (λ xs. scatter place xs now.logs) (back_logs r way back log);
        answer = ap (λ e. e.answer) same ∙ back_answer r way back log;
      }

module _ (s : Site) (r : Route) (app : ℕ) (body tuple : List ℕ) (now : State) (whole : length body ≡ r.size) (eight : length tuple ≡ 8) (apart : share_a_cell body tuple ≡ false)
    (cells : AreCells (length now.bytes) tuple) (on : r.mode.dix ≡ true) where
  abbrev own : Tuple
  own = own_tuple r app (gather 0 body now.bytes)

  abbrev made : State
  made = act (make_tuple r app body tuple) now

  made_frame : gather 0 (body ++ tuple) made.bytes ≡ own_frame r app (gather 0 body now.bytes)
  made_frame =
      let four : length tuple ≡ length (tuple_bytes own) = eight in
      gather_append 0 body tuple made.bytes
      ∙ ap (λ xs. xs ++ gather 0 tuple made.bytes) (gather_past 0 body tuple (tuple_bytes own) now.bytes apart)
      ∙ ap (λ xs. gather 0 body now.bytes ++ xs) (gather_back tuple (tuple_bytes own) now.bytes (distinct tuple cells.once) (below (length now.bytes) tuple cells.below) (sym four))
      ∙ ap (λ c. if c then frame_of (gather 0 body now.bytes) own else gather 0 body now.bytes) (sym on)

  -- a tuple that the block layer made is written as one that the application brought; behind n nobody looks
  pub own_write : (n : ℕ) → All (λ i. n ≤ i) tuple →
      IsOne (hidden n (act (write_block_of_app s r (body ++ tuple)) made)) (hidden n (act (write_block s r app body) now))
      (tell (write_block_of_app s r (body ++ tuple)) made) (tell (write_block s r app body) now)
  own_write n h =
      let cell = stored_cell s r ∷ [] in
      let place = own_cell s r ∷ [] in
      let log = get_or now.logs (own_cell s r) [] in
      let seen = gather 0 (body ++ tuple) made.bytes in
      let back = tuple_after r (drop r.size seen) in
      let way = way_out s.faults s.device r (own_frame r app (gather 0 body now.bytes)) in
      let leaves = map (s.device.leaves r (get_or now.blocks (stored_cell s r) [])) in
      let same_way = ap (way_out s.faults s.device r) made_frame in
      let behind : AllFrom n (drop r.size (body ++ tuple)) = rw (drop_over body tuple r.size 0 (omega (arith, whole))) (from n tuple h) in
      record {
        bytes = scatter_behind n (drop r.size (body ++ tuple)) (written_by r (way_out s.faults s.device r seen) back log).written.bytes made.bytes behind
            ∙ scatter_behind n tuple (tuple_bytes own) now.bytes (from n tuple h);
        blocks = ap (λ w. scatter cell (leaves (written_by r w back log).written.blocks) now.blocks) same_way ∙ ap (λ xs. scatter cell (leaves xs) now.blocks) (sym (back_blocks r way back log));
        logs = ap (λ w. scatter place (written_by r w back log).written.logs now.logs) same_way ∙ ap (λ xs. scatter place xs now.logs) (sym (back_logs r way back log));
        answer = ap (λ w. (written_by r w back log).answer) same_way ∙ sym (back_answer r way back log);
      }

-- without tuples in memory a block is carried as it lies there
bare_way : (s : Site) (r : Route) (app : ℕ) (bytes : List ℕ) → r.mode.dix ≡ false → goes_out s.faults s.device r bytes ≡ way_out s.faults s.device r (own_frame r app bytes)
bare_way s r app bytes off = sym (
    ap (λ c. way_out s.faults s.device r (if c then frame_of bytes (own_tuple r app bytes) else bytes)) off
    ∙ ap (λ c. goes_out s.faults s.device r (if c then take r.size bytes ++ remapped_bytes (host_type r.ty) r.virt r.lba (drop r.size bytes) else bytes)) off
    )

pub bare_write : (s : Site) (r : Route) (app : ℕ) (body : List ℕ) (now : State) → r.mode.dix ≡ false →
    (act (carry_out s r body) now ≡ act (write_block s r app body) now) × (tell (carry_out s r body) now ≡ tell (write_block s r app body) now)
bare_write s r app body now off =
    let same = ap (λ w. written_by r w [] (get_or now.logs (own_cell s r) [])) (bare_way s r app (gather 0 body now.bytes) off) in (
      same_cells _ _ _ _ _ _ _ _ refl (ap (λ e. scatter (stored_cell s r ∷ []) (map (s.device.leaves r (get_or now.blocks (stored_cell s r) [])) e.written.blocks) now.blocks) same) (ap (λ e. scatter (own_cell s r ∷ []) e.written.logs now.logs) same) refl,
      ap (λ e. e.answer) same,
    )

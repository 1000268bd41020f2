-- A read's carry and settle are its act.
use Rattle.std.proofs.Common.{◌≡◌, ◌<◌, ◌≤◌, ℕ, zero, suc, List, [], ◌∷◌, ◌++◌, length, take, drop, get_or, set, replicate, Option, Some, None, refl, ap, ◌∙◌, arith}
use Rattle.std.specs.List.{All}
use Rattle.std.proofs.lemmas.List.{get_or-set_same, length-append, length-replicate}
use Rattle.pi_tuple.specs.declared.checks.Check.{Check}
use Rattle.integrity_payload.specs.declared.payload.Owner.{Owner}
use Rattle.range_gate.specs.Passed.{gather, scatter}
use Rattle.bio_core.specs.declared.fate.Why.{Why}
use Rattle.block_path.specs.declared.route.Route.{Route}
use Rattle.block_path.specs.Acts.{Effect, State, act, tell}
use Rattle.block_path.specs.Blocks.{ActAnswer, Site, fetched_cell, own_cell, read_block, read_by}
use Rattle.block_path.specs.Moves.{AreCells, Fills, IsOne, carried_in, carry_in, hidden, joined, left_by, settle, settled_by}
use Rattle.block_path.specs.WayIn.{Delivers, Spoils, Stops, WayIn, comes_in, delivered_unless, mapped_back, owner_finds, verified, way_in}
use Rattle.block_path.proofs.Cells.{AllBelow, Distinct, below, distinct, gather_back, gather_length, scatter_append, scatter_none, scatter_twice}
use Rattle.block_path.proofs.Behind.{AllFrom, from, scatter_behind}

-- The pages and the answers of the moves are those of the act.
record Same (to pages : List ℕ) (first second whole : Effect ActAnswer) : Type 0 where
  bytes : scatter to second.written.bytes (scatter to first.written.bytes pages) ≡ scatter to whole.written.bytes pages
  answer : joined first.answer second.answer ≡ whole.answer

same_by : (to pages : List ℕ) (first second other whole : Effect ActAnswer) → second ≡ other → Same to pages first other whole → Same to pages first second whole
same_by to pages first second other whole e h = rw e h

zeros_size : (n k : ℕ) → n ≡ k → n ≤ length {A = ℕ} (replicate k 0)
zeros_size n k e = let l : length {A = ℕ} (replicate k 0) ≡ k = length-replicate k 0 in omega (arith, e, l)

ends : (r : Route) (owner : Owner) (to pages carried frame : List ℕ) (after : ℕ) (found : Option Check) → Distinct to → length frame ≡ length to → length (mapped_back r frame) ≡ length to →
    Same to pages (carried_in r (Delivers carried frame) after) (left_by r owner (delivered_unless owner [] (mapped_back r frame) found) (length frame))
    (read_by r owner (delivered_unless owner carried (mapped_back r frame) found) (length to) after)
ends r owner to pages carried frame after None d l k = record { bytes = scatter_twice to frame (mapped_back r frame) pages d (omega (arith, l, k)); answer = refl }
ends r owner to pages carried frame after (Some check) d l k = record {
  bytes = ap (λ n. scatter to (replicate n 0) (scatter to frame pages)) l ∙ scatter_twice to frame (replicate (length to) 0) pages d (zeros_size (length frame) (length to) l);
  answer = refl;
}

zeros_only : (to pages : List ℕ) → scatter to (replicate (length (gather 0 to (scatter to [] pages))) 0) (scatter to [] pages) ≡ scatter to (replicate (length to) 0) pages
zeros_only to pages =
    ap (λ k. scatter to (replicate k 0) (scatter to [] pages)) (gather_length 0 to (scatter to [] pages)) ∙ ap (scatter to (replicate (length to) 0)) (scatter_none to pages)

by_way : (r : Route) (owner : Owner) (to pages : List ℕ) (n : ℕ) (fates : List (Option Why)) (after : ℕ) (way : WayIn) →
    Distinct to → AllBelow (length pages) to → n < length fates → Fills r to way →
    Same to pages (carried_in r way after)
    (settled_by r owner (get_or (scatter (n ∷ []) (carried_in r way after).written.fates fates) n None) (gather 0 to (scatter to (carried_in r way after).written.bytes pages)))
    (read_by r owner (verified r owner way) (length to) after)
by_way r owner to pages n fates after (Stops why) d w l s =
    same_by to pages _ _ _ _ (ap (λ f. settled_by r owner f (gather 0 to (scatter to [] pages))) (get_or-set_same fates n (Some why) None l))
    (record { bytes = zeros_only to pages; answer = refl })
by_way r owner to pages n fates after (Spoils why carried) d w l s =
    same_by to pages _ _ _ _ (ap (λ f. settled_by r owner f (gather 0 to (scatter to [] pages))) (get_or-set_same fates n (Some why) None l))
    (record { bytes = zeros_only to pages; answer = refl })
by_way r owner to pages n fates after (Delivers carried frame) d w l s =
    same_by to pages _ _ _ _
    (ap (λ f. settled_by r owner f (gather 0 to (scatter to frame pages))) (get_or-set_same fates n None None l)
    ∙ ap (λ seen. settled_by r owner None seen) (gather_back to frame pages d w s.0))
    (ends r owner to pages carried frame after (owner_finds r (mapped_back r frame)) d s.0 s.1)

-- carried and settled it is the block's act
pub read_in_two : (s : Site) (r : Route) (owner : Owner) (to : List ℕ) (n : ℕ) (now : State) → AreCells (length now.bytes) to → n < length now.fates →
    Fills r to (comes_in s.faults s.device r (get_or now.blocks (fetched_cell s r) [])) →
    ((act (settle r owner to n) (act (carry_in s r to n) now)).bytes ≡ (act (read_block s r owner to) now).bytes)
    × (joined (tell (carry_in s r to n) now) (tell (settle r owner to n) (act (carry_in s r to n) now)) ≡ tell (read_block s r owner to) now)
read_in_two s r owner to n now cells l z =
    let h = by_way r owner to now.bytes n now.fates (length (get_or now.logs (own_cell s r) [])) (comes_in s.faults s.device r (get_or now.blocks (fetched_cell s r) []))
    (distinct to cells.once) (below (length now.bytes) to cells.below) l z in
    (h.bytes, h.answer)

scatter_zeros : (xs : List ℕ) (n : ℕ) (cells : List ℕ) → length xs ≤ n → scatter xs (replicate n 0) cells ≡ scatter xs (replicate (length xs) 0) cells
scatter_zeros [] n cells l = refl
scatter_zeros (x ∷ xs) zero cells l = absurd (omega (arith, l))
scatter_zeros (x ∷ xs) (suc n) cells l = scatter_zeros xs n (set cells x 0) (omega (arith, l))

-- behind n nobody looks
front_only : (n : ℕ) (xs ys vs cells : List ℕ) → AllFrom n ys → take n (scatter (xs ++ ys) vs cells) ≡ take n (scatter xs vs cells)
front_only n xs ys vs cells h = ap (take n) (scatter_append xs ys vs cells) ∙ scatter_behind n ys (drop (length xs) vs) (scatter xs vs cells) h

longer : (xs ys : List ℕ) → length xs ≤ length (xs ++ ys)
longer xs ys = let l = length-append xs ys in omega (arith, l)

read_front : (r : Route) (owner : Owner) (n : ℕ) (way : WayIn) (after : ℕ) (xs ys cells : List ℕ) → AllFrom n ys →
    (take n (scatter (xs ++ ys) (read_by r owner way (length (xs ++ ys)) after).written.bytes cells) ≡ take n (scatter xs (read_by r owner way (length xs) after).written.bytes cells))
    × ((read_by r owner way (length (xs ++ ys)) after).answer ≡ (read_by r owner way (length xs) after).answer)
read_front r owner n (Stops why) after xs ys cells h =
    (front_only n xs ys (replicate (length (xs ++ ys)) 0) cells h ∙ ap (take n) (scatter_zeros xs (length (xs ++ ys)) cells (longer xs ys)), refl)
read_front r owner n (Spoils why carried) after xs ys cells h =
    (front_only n xs ys (replicate (length (xs ++ ys)) 0) cells h ∙ ap (take n) (scatter_zeros xs (length (xs ++ ys)) cells (longer xs ys)), refl)
read_front r owner n (Delivers carried frame) after xs ys cells h = (front_only n xs ys frame cells h, refl)

-- a read whose tuples land behind n is a read of the data
pub own_read : (s : Site) (r : Route) (owner : Owner) (body tuple : List ℕ) (n : ℕ) (now : State) → All (λ i. n ≤ i) tuple →
    IsOne (hidden n (act (read_block s r owner (body ++ tuple)) now)) (hidden n (act (read_block s r owner body) now)) (tell (read_block s r owner (body ++ tuple)) now) (tell (read_block s r owner body) now)
own_read s r owner body tuple n now h =
    let way = way_in s.faults s.device r owner (get_or now.blocks (fetched_cell s r) []) in
    let f = read_front r owner n way (length (get_or now.logs (own_cell s r) [])) body tuple now.bytes (from n tuple h) in
    record { bytes = f.0; blocks = refl; logs = refl; answer = f.1 }

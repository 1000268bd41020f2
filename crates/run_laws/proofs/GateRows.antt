-- Two writes of the same bytes to other blocks, and one of two blocks, which meet what the gate's laws ask for.
use Rattle.std.proofs.Common.{◌≡◌, ◌<◌, ◌≤◌, ℕ, zero, suc, ◌+◌, Bool, true, false, List, [], ◌∷◌, ◌++◌, length, get_or, Option, Some, None, refl, sym, ap, ◌∙◌, arith, inl, inr}
use Rattle.std.specs.Prelude.{pos, ◌+ℤ◌}
use Rattle.std.specs.List.{Contains}
use Rattle.std.proofs.lemmas.List.Elements.{All-nil}
use Rattle.pi_tuple.specs.declared.checks.PiType.TheVariants.{One}
use Rattle.page_pool.specs.Places.{run}
use Rattle.fault_schedule.specs.Altered.{shift_of}
use Rattle.fault_schedule.specs.declared.fault.Crossing.TheVariants.{AdapterToTarget, TargetToMedium}
use Rattle.range_gate.specs.declared.footprint.Reach.{Reach}
use Rattle.range_gate.specs.declared.footprint.Touch.{Touch}
use Rattle.walk_laws.specs.Passed.{Op, Write, stored_lba, place_in, DeviceInfo}
use Rattle.walk_laws.specs.Settings.{Setting, block_of, route}
use Rattle.walk_laws.specs.UnderMap.{home}
use Rattle.walk_laws.proofs.ScriptRows.{faulty, opening, seg, shift}
use Rattle.run_laws.specs.ShownRun.{HasBlock, HasCells, LiesOn}
use Rattle.run_laws.proofs.ShownRows.{one_list}
use Rattle.run_laws.specs.OpsApart.{IsPlaced, IsSpread, OneCellEach, OpsConflict}
use Rattle.run_laws.specs.ScriptMoves.{ByMoves, blocks_of, fates_of, room_of}
use Rattle.run_laws.proofs.BlocksApart.{still_apart}

-- blocks of four bytes of data
abbrev m : Setting
m = record (faulty []) { size = 4 }

abbrev one : Op
one = Write 0 1 (seg 0 4) 0

abbrev other : Op
other = Write 1 1 (seg 0 4) 0

place_of : (v : ℕ) → v < 3 → home m v ≡ 2 + v
place_of zero l = refl
place_of (suc zero) l = refl
place_of (suc (suc zero)) l = refl
place_of (suc (suc (suc v))) l = absurd (omega (arith, l))

one_cell_each : OneCellEach m
one_cell_each u v k l e = let p = place_of u k in let q = place_of v l in omega (arith, p, q, e)

four_bytes : (v : ℕ) → v + 1 ≤ 3 → IsPlaced m 1100 (Write v 1 (seg 0 4) 0)
unfolding run
four_bytes v l = record {
  in_pages = ((omega arith, (omega arith, (omega arith, (omega arith, tt)))), tt);
  reads = (one_list 0 4 (omega arith)).below;
  writes = All-nil (λ i. i < 1100);
  blocks = record { within = l; bytes_are = refl };
}

-- they only read pages, and reach other blocks
reaches_only : (w v : ℕ) (r : Reach) → Some (record { first = w; count = 1; writes = true }) ≡ Some r → r.first ≤ v → v < r.first + r.count → v ≡ w
reaches_only w v r e l h =
    let first = ap by_first e in let count = ap by_count e in omega (arith, first, count, l, h)
  where
    by_first : Option Reach → ℕ
    by_first None = 0
    by_first (Some r) = r.first

    by_count : Option Reach → ℕ
    by_count None = 0
    by_count (Some r) = r.count

writes_no_byte : (t : Touch) → Contains (record { seg = record { page = 0; off = 0; len = 4 }; writes = false } ∷ []) t → t.writes ≡ true → ⊥
writes_no_byte t (zero, l, e) w = let f : ◌≡◌ {A = Bool} false t.writes = ap (λ (t : Touch). t.writes) e in grind (arith, f, w)
writes_no_byte t (suc k, l, e) w = omega (arith, l)

no_conflict : OpsConflict m 1 one 2 other → ⊥
no_conflict (inl e) = grind (arith, e)
no_conflict (inr (inl e)) = grind (arith, e)
no_conflict (inr (inr (inl (v, a, b, w)))) =
    let p = reaches_only 0 v a.0 a.1 a.2 a.3 in let q = reaches_only 1 v b.0 b.1 b.2 b.3 in omega (arith, p, q)
no_conflict (inr (inr (inr (b, t, u, inl w)))) = writes_no_byte w.0 w.1 w.2
no_conflict (inr (inr (inr (b, t, u, inr w)))) = writes_no_byte w.0 w.1 w.2

-- private pages and cells one behind the other
behind : 1100 + room_of m one ≤ 5196
behind = omega arith

fates_behind : 0 + fates_of one ≤ 1
fates_behind = omega arith

-- the blocks of one request
abbrev two : Op
two = Write 0 2 (seg 0 8) 0

two_placed : IsPlaced m 1100 two
unfolding run
two_placed = record {
  in_pages = ((omega arith, (omega arith, (omega arith, (omega arith, (omega arith, (omega arith, (omega arith, (omega arith, tt)))))))), tt);
  reads = (one_list 0 8 (omega arith)).below;
  writes = All-nil (λ i. i < 1100);
  blocks = record { within = omega arith; bytes_are = refl };
}

two_spread : IsSpread m 1 two
two_spread = still_apart m 1 0 2 one_cell_each refl (omega arith)

in_turn : (a : ByMoves) × ((b : ByMoves) × (blocks_of m 1100 0 1 two ≡ (a ∷ []) ++ (b ∷ [])))
in_turn = (_, (_, refl))

-- and under a shift
abbrev shifted : Setting
shifted = faulty (shift 1 AdapterToTarget (pos 1))

abbrev devices : List DeviceInfo
devices = record { ty = One; blocks = 5; size = 512; first = 0 } ∷ []

below_five : (dev lba : ℕ) → HasBlock shifted devices dev lba → (dev ≡ 0) × (lba < 5)
below_five zero lba h = (refl, let e = h.ends in omega (arith, e))
below_five (suc dev) lba h = absurd (let k = h.known in omega (arith, k))

at_lba : (lba : ℕ) → lba < 5 → HasBlock shifted devices 0 lba
at_lba lba l = record { known = omega arith; begins = omega arith; ends = omega (arith, l); type_is = refl; size_is = refl }

inside : (v : ℕ) → v < 3 → HasBlock shifted devices (place_in shifted.entries v).0 (place_in shifted.entries v).1
inside zero l = at_lba 2 (omega arith)
inside (suc zero) l = at_lba 3 (omega arith)
inside (suc (suc zero)) l = at_lba 4 (omega arith)
inside (suc (suc (suc v))) l = absurd (omega (arith, l))

lies : LiesOn shifted devices
lies = record {
  inside = inside;
  alone = λ v w k l e. let p = place_of v k in let q = place_of w l in let s = ap (λ (x : ℕ × ℕ). x.1) e in omega (arith, p, q, s);
}

sizes : (lba : ℕ) → lba < 5 → length (get_or opening.blocks lba []) ≡ 520
sizes zero l = refl
sizes (suc zero) l = refl
sizes (suc (suc zero)) l = refl
sizes (suc (suc (suc zero))) l = refl
sizes (suc (suc (suc (suc zero)))) l = refl
sizes (suc (suc (suc (suc (suc lba))))) l = absurd (omega (arith, l))

cells : HasCells shifted devices opening.blocks
cells = record {
  within = λ dev lba h. (below_five dev lba h).1;
  apart = λ dev lba other at h k e. ((below_five dev lba h).0 ∙ sym (below_five other at k).0, e);
  size = λ dev lba h. sizes lba (below_five dev lba h).1;
}

leads_inside : (k : ℕ) → k < 2 → let r = route shifted (block_of 1 0 k) in (pos (stored_lba shifted.site.faults r) ≡ (pos r.lba +ℤ shift_of shifted.site.faults AdapterToTarget 1) +ℤ shift_of shifted.site.faults TargetToMedium 1) × HasBlock shifted devices r.dev (stored_lba shifted.site.faults r)
leads_inside zero l = (refl, at_lba 3 (omega arith))
leads_inside (suc zero) l = (refl, at_lba 4 (omega arith))
leads_inside (suc (suc k)) l = absurd (omega (arith, l))

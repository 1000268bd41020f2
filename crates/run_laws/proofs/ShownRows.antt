-- A run with faults on the medium, under a shift and by an overwrite, worked by hand; and that it meets all that detection asks for.
use Rattle.std.proofs.Common.{◌≡◌, ◌<◌, ◌≤◌, ℕ, zero, suc, ◌+◌, ◌*◌, false, nat_eq, List, [], ◌∷◌, ◌++◌, length, get_or, map, refl, sym, ap, subst, ◌∙◌, arith}
use Rattle.std.specs.Prelude.{pos, ◌+ℤ◌, nat_abs}
use Rattle.std.specs.List.{All, AllByRecursion, IsDistinct}
use Rattle.std.proofs.lemmas.Bool.{ne_eqb}
use Rattle.std.proofs.lemmas.List.{append-nil}
use Rattle.std.proofs.lemmas.List.Elements.{All-cons, All-nil}
use Rattle.pi_guard.specs.Guards.{crc, ip}
use Rattle.pi_tuple.specs.declared.checks.Check.TheVariants.{Guard, RefTag}
use Rattle.pi_tuple.specs.declared.checks.PiType.TheVariants.{One}
use Rattle.page_pool.specs.Cells.{cell}
use Rattle.page_pool.specs.Places.{run}
use Rattle.fault_schedule.specs.declared.fault.Crossing.TheVariants.{AdapterToTarget, MediumToTarget, TargetToMedium}
use Rattle.fault_schedule.specs.declared.fault.FaultLine.{FaultLine}
use Rattle.fault_schedule.specs.Altered.{shift_of}
use Rattle.walk_laws.specs.Passed.{Copy, Op, Fetch, FetchPi, Overwrite, Write, Bad, Silent, Whole, found_in, from_medium, to_medium, AreCells, moved, from_wire, to_wire, DeviceInfo, medium_lba, place_in, Target}
use Rattle.range_gate.specs.Cells.{cells_of}
use Rattle.walk_laws.specs.ScriptWalk.{script_replies}
use Rattle.walk_laws.specs.Settings.{Setting, route}
use Rattle.walk_laws.specs.UnderMap.{IsClean}
use Rattle.walk_laws.proofs.ScriptRows.{faulty, flip, opening, seg, shift}
use Rattle.run_laws.specs.ShownRun.{AllAreFetched, AllStayNear, AreCleanWhereRead, HasBlock, HasCells, IsShownRun, LiesOn}

abbrev faults : List FaultLine
faults = flip 1 0 TargetToMedium 5 0x80 ++ shift 3 MediumToTarget (pos 1)

abbrev m : Setting
m = faulty faults

abbrev devices : List DeviceInfo
devices = record { ty = One; blocks = 5; size = 512; first = 0 } ∷ []

abbrev ops : List Op
ops =
    Write 0 1 (seg 0 512) 0x1234
    ∷ FetchPi 0 1 (seg 0 512) (seg 600 8)
    ∷ Fetch 0 2 (seg 0 1024)
    ∷ Write 0 1 (seg 0 512) 0x1234
    ∷ FetchPi 0 1 (seg 0 512) (seg 600 8)
    ∷ Overwrite 0 2 (Copy 0 3)
    ∷ Fetch 0 1 (seg 0 512)
    ∷ []

replies_are : script_replies m ops opening
    ≡ Whole
    ∷ Bad (record { k = 0; why = Target Guard } ∷ [])
    ∷ Bad (record { k = 0; why = Target RefTag } ∷ record { k = 1; why = Target RefTag } ∷ [])
    ∷ Whole
    ∷ Whole
    ∷ Silent
    ∷ Bad (record { k = 0; why = Target RefTag } ∷ [])
    ∷ []
unfolding crc ip found_in to_medium from_medium to_wire from_wire run
replies_are = refl

-- the devices' blocks
each_cell : (lba : ℕ) → lba < 5 → (length (get_or opening.blocks lba []) ≡ 520) × IsClean m lba (get_or opening.blocks lba [])
unfolding crc
each_cell zero l = (refl, record { no_escape = refl; guard = refl; app = refl; rtag = λ h. refl })
each_cell (suc zero) l = (refl, record { no_escape = refl; guard = refl; app = refl; rtag = λ h. refl })
each_cell (suc (suc zero)) l = (refl, record { no_escape = refl; guard = refl; app = refl; rtag = λ h. refl })
each_cell (suc (suc (suc zero))) l = (refl, record { no_escape = refl; guard = refl; app = refl; rtag = λ h. refl })
each_cell (suc (suc (suc (suc zero)))) l = (refl, record { no_escape = refl; guard = refl; app = refl; rtag = λ h. refl })
each_cell (suc (suc (suc (suc (suc lba))))) l = absurd (omega (arith, l))

below_five : (dev lba : ℕ) → HasBlock m devices dev lba → (dev ≡ 0) × (lba < 5)
below_five zero lba h = (refl, let e = h.ends in omega (arith, e))
below_five (suc dev) lba h = absurd (let k = h.known in omega (arith, k))

at_lba : (lba : ℕ) → lba < 5 → HasBlock m devices 0 lba
at_lba lba l = record { known = omega arith; begins = omega arith; ends = omega (arith, l); type_is = refl; size_is = refl }

place_of : (v : ℕ) → v < 3 → ((place_in m.entries v).0 ≡ 0) × ((place_in m.entries v).1 ≡ 2 + v)
place_of zero l = (refl, refl)
place_of (suc zero) l = (refl, refl)
place_of (suc (suc zero)) l = (refl, refl)
place_of (suc (suc (suc v))) l = absurd (omega (arith, l))

inside : (v : ℕ) → v < 3 → HasBlock m devices (place_in m.entries v).0 (place_in m.entries v).1
inside zero l = at_lba 2 (omega arith)
inside (suc zero) l = at_lba 3 (omega arith)
inside (suc (suc zero)) l = at_lba 4 (omega arith)
inside (suc (suc (suc v))) l = absurd (omega (arith, l))

lies : LiesOn m devices
lies = record {
  inside = inside;
  alone = λ v w k l e. let p = (place_of v k).1 in let q = (place_of w l).1 in let s = ap (λ (x : ℕ × ℕ). x.1) e in omega (arith, p, q, s);
}

cells : HasCells m devices opening.blocks
cells = record {
  within = λ dev lba h. (below_five dev lba h).1;
  apart = λ dev lba other at h k e. ((below_five dev lba h).0 ∙ sym (below_five other at k).0, e);
  size = λ dev lba h. (each_cell lba (below_five dev lba h).1).0;
}

clean : AreCleanWhereRead m devices opening.blocks
clean b l h = (each_cell (medium_lba m.site.faults (route m b)) (below_five (route m b).dev (medium_lba m.site.faults (route m b)) h).1).1

-- cells one after another in the first page
abbrev turn : (off n : ℕ) → List ℕ
turn off n = map cell (run 0 off n)

away : (i off n : ℕ) (rest : List ℕ) → i < off → AllByRecursion (λ j. nat_eq i j ≡ false) rest → AllByRecursion (λ j. nat_eq i j ≡ false) (turn off n ++ rest)
unfolding run
away i off zero rest l h = h
away i off (suc n) rest l h = (ne_eqb i (4096 * 0 + off) (λ e. omega (arith, e, l)), away i (off + 1) n rest (omega (arith, l)) h)

apart : (off n : ℕ) (rest : List ℕ) → ((i : ℕ) → i < off + n → AllByRecursion (λ j. nat_eq i j ≡ false) rest) → IsDistinct nat_eq rest → IsDistinct nat_eq (turn off n ++ rest)
unfolding run IsDistinct
apart off zero rest h d = d
apart off (suc n) rest h d = (away (4096 * 0 + off) (off + 1) n rest (omega arith) (h (4096 * 0 + off) (omega arith)), apart (off + 1) n rest (λ i l. h i (omega (arith, l))) d)

below_end : (off n end : ℕ) (rest : List ℕ) → off + n ≤ end → All (λ i. i < end) rest → All (λ i. i < end) (turn off n ++ rest)
unfolding run
below_end off zero end rest l h = h
below_end off (suc n) end rest l h = All-cons (λ i. i < end) (4096 * 0 + off) (turn (off + 1) n ++ rest) (omega (arith, l)) (below_end (off + 1) n end rest (omega (arith, l)) h)

turned : (off n : ℕ) → cells_of (seg off n) ≡ turn off n
turned off n = ap (map cell) (append-nil (run 0 off n))

pub one_list : (off n : ℕ) → off + n ≤ 1100 → AreCells 1100 (cells_of (seg off n))
unfolding IsDistinct
one_list off n l =
    subst (AreCells 1100) (append-nil (turn off n) ∙ sym (turned off n))
    (record { once = apart off n [] (λ i k. tt) tt; below = below_end off n 1100 [] l (All-nil (λ i. i < 1100)) })

pub two_lists : (off n from k : ℕ) → off + n ≤ from → from + k ≤ 1100 → AreCells 1100 (cells_of (seg off n) ++ cells_of (seg from k))
two_lists off n from k l h =
    let second = one_list from k h in
    let e : turn off n ++ cells_of (seg from k) ≡ cells_of (seg off n) ++ cells_of (seg from k) = ap (λ xs. xs ++ cells_of (seg from k)) (sym (turned off n)) in
    subst (AreCells 1100) e (record {
      once = apart off n (cells_of (seg from k)) (λ i g. subst (AllByRecursion (λ j. nat_eq i j ≡ false)) (append-nil (turn from k) ∙ sym (turned from k)) (away i from k [] (omega (arith, g, l)) tt)) second.once;
      below = below_end off n 1100 (cells_of (seg from k)) (omega (arith, l, h)) second.below;
    })

-- A run that meets all that detection asks for.
shown_run : IsShownRun m devices ops opening
unfolding crc ip found_in to_medium from_medium to_wire from_wire run
shown_run = record {
  checked = record { ty = refl; dix = refl; dif = refl; protect = refl; device = refl };
  lies = lies;
  cells = cells;
  clean = clean;
  bind = (
    (record { within = omega arith; bytes_are = refl }, (omega arith, near 1 1 refl)),
    (
      (record { within = omega arith; bytes_are = refl }, (refl, (two_lists 0 512 600 8 (omega arith) (omega arith), (near 2 1 refl, fetched 2 refl refl)))),
      (
        (record { within = omega arith; bytes_are = refl }, (one_list 0 1024 (omega arith), (near 3 2 refl, shifted))),
        (
          (record { within = omega arith; bytes_are = refl }, (omega arith, near 4 1 refl)),
          (
            (record { within = omega arith; bytes_are = refl }, (refl, (two_lists 0 512 600 8 (omega arith) (omega arith), (near 5 1 refl, fetched 5 refl refl)))),
            (
              at_lba 2 (omega arith),
              ((record { within = omega arith; bytes_are = refl }, (one_list 0 512 (omega arith), (near 7 1 refl, fetched 7 refl refl))), tt),
            ),
          ),
        ),
      ),
    ),
  );
  no_escape = ((λ h. refl, tt), ((tt, tt), ((tt, (tt, tt)), ((λ h. refl, tt), ((tt, tt), ((tt, tt), ((tt, tt), tt)))))));
  shown = refl;
}
  where
    near : (i n : ℕ) → shift_of faults AdapterToTarget i ≡ pos 0 → AllStayNear m i 0 n
    near i n e k l = record {
      near = subst (λ z. nat_abs z ≤ 64) (sym e) (omega arith);
      above = ap (λ z. pos (moved (place_in m.entries (0 + k)).1 z)) e ∙ ap (λ z. pos (place_in m.entries (0 + k)).1 +ℤ z) (sym e);
    }

    fetched : (i : ℕ) → shift_of faults AdapterToTarget i ≡ pos 0 → shift_of faults MediumToTarget i ≡ pos 0 → AllAreFetched m devices i 0 1
    fetched i e f zero l = subst (λ z. HasBlock m devices 0 (moved (moved 2 (shift_of faults AdapterToTarget i)) z)) (sym f) (subst (λ z. HasBlock m devices 0 (moved (moved 2 z) (pos 0))) (sym e) (at_lba 2 (omega arith)))
    fetched i e f (suc k) l = absurd (omega (arith, l))

    shifted : AllAreFetched m devices 3 0 2
    shifted zero l = at_lba 3 (omega arith)
    shifted (suc zero) l = at_lba 4 (omega arith)
    shifted (suc (suc k)) l = absurd (omega (arith, l))

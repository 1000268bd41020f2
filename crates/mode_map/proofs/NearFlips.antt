-- A near flip is shown by either guard.
use Rattle.std.proofs.Common.{◌≡◌, ◌≢◌, true, Option, ℕ, ◌+◌, ◌<◌, inl, inr, List, length, get_or, refl, arith}
use Rattle.std.proofs.lemmas.Bool.{cases_lt}
use Rattle.std.proofs.lemmas.List.{get_or_past}
use Rattle.fault_schedule.specs.declared.fault.Crossing.{Crossing}
use Rattle.guard_laws.proofs.Flips.{flip_shown, flip_shown_by_each}
use Rattle.walk_laws.specs.PlainMap.{MapEntry}
use Rattle.walk_laws.specs.Settings.{Setting}
use Rattle.block_path.specs.declared.mode.Mode.{Mode}
use Rattle.pi_tuple.specs.declared.checks.PiType.{PiType}
use Rattle.mode_map.specs.Finders.{AreFirstFinders, IsCleanBlock, IsFirstFinder, ShowsIn, finder, is_served}
use Rattle.mode_map.specs.NearFlips.{IsNearFlip}
use Rattle.mode_map.specs.declared.finder.Seen.{Seen}
use Rattle.mode_map.proofs.Finding.{sees_by}

place_inside : (bytes : List ℕ) (place : ℕ) → get_or bytes place 0 ≢ 0 → place < length bytes
place_inside bytes place n = elim (cases_lt place (length bytes)) [ inl l ↦ l | inr l ↦ absurd (n (get_or_past bytes place 0 l)) ]

pub shows_near : (m : Setting) (at : Crossing) (off : ℕ) (bytes : List ℕ) (e : MapEntry) → IsCleanBlock m e → IsNearFlip m off bytes → ShowsIn m at off bytes e
shows_near m at off bytes e clean h =
    let l = place_inside bytes h.place h.some in
    let inside = h.inside in
    let size = clean.size in
    let there : off + h.place < length e.body = omega arith in
    record {
      inside = h.inside;
      below = h.below;
      crc_shows = flip_shown e.body bytes off h.place clean.bytes h.below h.few there h.some;
      host_shows = λ host. flip_shown_by_each m.mode.kind e.body bytes off h.place clean.bytes h.below h.few h.not_all there h.some;
    }

-- the finder of a served mode is the first that finds a flip
pub is_first : (mode : Mode) (ty : PiType) (at : Crossing) (first : Option Seen) → is_served mode.protect ≡ true → first ≡ finder mode ty at → IsFirstFinder mode ty at first
is_first mode ty at first served is = record {
  found = λ m b owner e off bytes sm st clean shows. sees_by m b owner at off bytes e mode ty first served is sm st clean shows;
  near = λ m b owner e off bytes sm st clean near. sees_by m b owner at off bytes e mode ty first served is sm st clean (shows_near m at off bytes e clean near);
}

pub first_finders : (ty : PiType) → AreFirstFinders ty
first_finders ty mode at served = is_first mode ty at (finder mode ty at) served refl

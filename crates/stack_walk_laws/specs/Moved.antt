-- Settled blocks as moves on cells.
use Rattle.std.specs.Prelude.{◌≡◌, ℕ, ◌+◌, ◌*◌, List, map, Option, Some, None}
use Rattle.fault_schedule.specs.declared.Label.{Label}
use Rattle.page_pool.specs.Cells.{cell, flat}
use Rattle.page_pool.specs.Pages.{AllLieIn, AreWhole}
use Rattle.page_pool.specs.Places.{Apart, NoneTwice, places_in, total}
use Rattle.pi_tuple.specs.declared.checks.PiType.{PiType}
use Rattle.integrity_payload.specs.declared.payload.Owner.{Owner}
use Rattle.integrity_payload.specs.declared.payload.Payload.{Payload}
use Rattle.integrity_payload.specs.Payloads.{tuple_places}
use Rattle.bio_core.specs.declared.fate.Fate.{Fate}
use Rattle.bio_core.specs.declared.fate.Fate.TheVariants.{Good, Bad, Untouched}
use Rattle.bio_core.specs.declared.fate.Why.{Why}
use Rattle.bio_core.specs.declared.request.Io.{Io}
use Rattle.bio_core.specs.Bios.{block_size}
use Rattle.block_path.specs.declared.mode.Mode.{Mode}
use Rattle.block_path.specs.declared.route.Route.{Route}
use Rattle.block_path.specs.Acts.{Act, State, act, tell}
use Rattle.block_path.specs.Blocks.{ActAnswer}
use Rattle.block_path.specs.Moves.{first_why, in_turn, make_tuple, map_out, settle}
use Rattle.dix_adapter.specs.Groups.{data_cells}
use Rattle.pi_tuple.specs.declared.TheConstants.{TUPLE}

-- block k of a request, which lies at this address
abbrev pub route_to : Label → (dev : ℕ) → PiType → Mode → Io → (k lba : ℕ) → Route
route_to label dev ty mode io k lba = record { label = label; virt = io.first + k; dev = dev; lba = lba; ty = ty; size = block_size io; mode = mode }

-- why it failed, if it did
abbrev pub why_of : Fate → Option Why
why_of Good = None
why_of (Bad why) = Some why
why_of Untouched = None

-- the cells of its tuple
abbrev pub tuple_at : Payload → ℕ → List ℕ
tuple_at pi k = map cell (tuple_places pi.tuples k)

-- The request has a tuple for each block, in whole pages apart from all its data.
pub record HasFrames (pool : List (List ℕ)) (io : Io) (pi : Payload) : Type 0 where
  pub is : io.pi ≡ Some pi
  pub seed : pi.seed ≡ io.first
  pub count : pi.count ≡ io.count
  pub long : total pi.tuples ≡ TUPLE * io.count
  pub whole : AreWhole pool
  pub lies : AllLieIn pool io.body
  pub lie : AllLieIn pool pi.tuples
  pub once : NoneTwice (places_in pi.tuples)
  pub apart : Apart (places_in io.body) (places_in pi.tuples)

-- A block's tuple is made, its tag is mapped out, or back: these are the moves of n blocks from block k on, at addresses from this one on.
abbrev pub makes : (ℕ → Label) → (dev : ℕ) → PiType → Mode → Io → Payload → (n : ℕ) → List (Act ActAnswer)
makes label dev ty mode io pi n = in_turn (λ i. make_tuple (route_to (label i) dev ty mode io i 0) pi.app (data_cells io i) (tuple_at pi i)) n

abbrev pub maps_out : (ℕ → Label) → (dev : ℕ) → PiType → Mode → Io → Payload → (k n lba : ℕ) → List (Act ActAnswer)
maps_out label dev ty mode io pi k n lba = in_turn (λ i. map_out (route_to (label i) dev ty mode io (k + i) (lba + i)) (tuple_at pi (k + i))) n

-- The pages are those that the move leaves, and the block came to what the move answers where it was good before.
pub record IsSettle (r : Route) (owner : Owner) (to : List ℕ) (n : ℕ) (fate : Fate) (now : State) (new : List (List ℕ)) (result : Fate) : Type 0 where
  pub bytes : flat new ≡ (act (settle r owner to n) now).bytes
  pub came : why_of result ≡ first_why (why_of fate) (tell (settle r owner to n) now).why

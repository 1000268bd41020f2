-- Requests stay in a pool of as many pages.
use Rattle.std.proofs.Common.{◌≡◌, ℕ, ◌-◌, ◌<◌, List, length, get_or, ◌∙◌, arith}
use Rattle.std.specs.List.{All}
use Rattle.std.proofs.lemmas.List.{get_or_read}
use Rattle.std.proofs.lemmas.List.Elements.{All-get_or}
use Rattle.page_pool.proofs.Placing.{all_lie-same}
use Rattle.integrity_payload.specs.declared.payload.Payload.{Payload}
use Rattle.bio_core.specs.declared.bio.Bio.{Bio}
use Rattle.bio_core.specs.declared.fate.Fate.{Fate}
use Rattle.bio_core.specs.declared.request.Io.{Io}
use Rattle.stack_walk_laws.specs.Sheets.{io_at, no_io}
use Rattle.stack_walk_laws.specs.Settling.{AreAllWhole, AreFates, HasTuples, IsOf, IsWhole}

pub tuples_stay : (old new : List (List ℕ)) (io : Io) (pi : Payload) → length new ≡ length old → HasTuples old io pi → HasTuples new io pi
tuples_stay old new io pi e h = record {
  payload = h.payload;
  count = h.count;
  lie = all_lie-same old new pi.tuples e h.lie;
  once = h.once;
  numbers = h.numbers;
  apart = h.apart;
  seed = h.seed;
}

pub whole_stays : (old new : List (List ℕ)) (io : Io) → length new ≡ length old → IsWhole old io → IsWhole new io
whole_stays old new io e h = record {
  lies = all_lie-same old new io.body e h.lies;
  once = h.once;
  tuples = λ pi s. tuples_stay old new io pi e (h.tuples pi s);
}

pub all_stay : (old new : List (List ℕ)) (ios : List Io) → length new ≡ length old → AreAllWhole old ios → AreAllWhole new ios
all_stay old new ios e h = λ i l. whole_stays old new (io_at ios i) e (h i l)

-- the request of a bio is whole
pub whole-of : (pool : List (List ℕ)) (ios : List Io) (bios : List Bio) (i : ℕ) (d : Bio) (io : Io) → AreAllWhole pool ios → All (IsOf ios) bios → i < length bios → io ≡ get_or ios ((get_or bios i d).op - 1) io → IsWhole pool io
whole-of pool ios bios i d io w a h e =
    let o = All-get_or (IsOf ios) bios i d h a in
    let n = o.numbered in
    let t = o.there in
    let l : (get_or bios i d).op - 1 < length ios = omega arith in
    let f : io ≡ io_at ios ((get_or bios i d).op - 1) = get_or_read ios ((get_or bios i d).op - 1) io l e no_io in
    rw f (w ((get_or bios i d).op - 1) l)

-- Fates in place of as many stay where they are.
pub fates_stay : (ios : List Io) (starts starts' : List ℕ) (held held' : List Fate) → starts' ≡ starts → length held' ≡ length held → AreFates ios starts held → AreFates ios starts' held'
fates_stay ios starts starts' held held' e n h = rw e (record { count = h.count; all = n ∙ h.all; begin = h.begin; within = λ i l. (let w = h.within i l in omega arith); few = let f = h.few in omega arith })

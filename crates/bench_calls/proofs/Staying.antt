-- A group stays one while the pool keeps its pages.
use Rattle.std.proofs.Common.{◌≡◌, ◌≤◌, ℕ, ◌+◌, ◌*◌, List, length, refl, arith}
use Rattle.std.specs.List.{All}
use Rattle.bio_core.specs.declared.bio.Bio.{Bio}
use Rattle.bio_core.specs.declared.request.Io.{Io}
use Rattle.dix_adapter.specs.declared.adapter.Adapter.{Adapter}
use Rattle.dix_adapter.specs.Groups.{IsBio, IsCarriedGroup, IsCarriedRequest, first_of, request_of}
use Rattle.dix_adapter.proofs.Ahead.{still-walkable}

request-stays : (a : Adapter) (old new : List (List ℕ)) (bytes : ℕ) (io : Io) → length new ≡ length old → IsCarriedRequest a old bytes io → IsCarriedRequest a new bytes io
request-stays a old new bytes io l r = record { size = r.size; walks = still-walkable old new io l r.walks; once = r.once; host = r.host; fits = r.fits }

pub group-stays : (a : Adapter) (old new : List (List ℕ)) (bytes : ℕ) (ios : List Io) (req : List Bio) → length new ≡ length old → IsCarriedGroup a old bytes ios req → IsCarriedGroup a new bytes ios req
group-stays a old new bytes ios req l g = record { some = g.some; bios = λ k d h. bio-stays (g.bios k d h); chain = g.chain; ends = g.ends; small = g.small }
  where
    bio-stays : {b : Bio} → IsBio a old bytes ios (first_of req).dev (first_of req).dir b → IsBio a new bytes ios (first_of req).dev (first_of req).dir b
    bio-stays {b} x = record { op = x.op; there = x.there; some = x.some; within = x.within; on = x.on; way = x.way; of = x.of; ends = x.ends; request = request-stays a old new bytes (request_of ios b.op) l x.request }

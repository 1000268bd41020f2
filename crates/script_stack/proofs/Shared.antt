-- Segments without a common byte name no byte twice.
use Rattle.std.proofs.Common.{◌≡◌, false, List}
use Rattle.page_pool.specs.declared.segs.Seg.{Seg}
use Rattle.page_pool.specs.Places.{Apart, NoneTwice, places_in}
use Rattle.page_pool.proofs.Placing.{once-apart, once-back, once-front}
use Rattle.script_text.specs.Segments.{do_overlap}
use Rattle.script_run_laws.proofs.Segments.{once-both}

-- data and tuples that don't overlap
pub record AreOnce (body tuples : List Seg) : Type 0 where
  pub body_once : NoneTwice (places_in body)
  pub tuples_once : NoneTwice (places_in tuples)
  pub apart : Apart (places_in body) (places_in tuples)

pub are-once : (body tuples : List Seg) → do_overlap body tuples ≡ false → AreOnce body tuples
are-once body tuples h =
    let n = once-both body tuples h in
    record {
      body_once = once-front (places_in body) (places_in tuples) n;
      tuples_once = once-back (places_in body) (places_in tuples) n;
      apart = once-apart (places_in body) (places_in tuples) n;
    }

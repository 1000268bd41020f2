-- What ops reply, and the room for it.
use Rattle.std.specs.Prelude.{◌≡◌, ℕ, suc, ◌+◌, ◌<◌, ◌≤◌, ◌^◌, List, [], ◌∷◌}
use Rattle.std.specs.Vec.{vec_capacity}
use Rattle.page_pool.specs.Pages.{AllLieIn}
use Rattle.page_pool.specs.Places.{Apart, NoneTwice, places_in}
use Rattle.page_pool.specs.declared.segs.Seg.{Seg}
use Rattle.integrity_payload.specs.declared.payload.Payload.{Payload}
use Rattle.integrity_payload.specs.Payloads.{IsPayload}
use Rattle.bio_core.specs.declared.fate.Fate.{Fate}
use Rattle.bio_core.specs.declared.fate.Fate.TheVariants.{Good, Bad, Untouched}
use Rattle.stack_ops.specs.declared.reply.BadBlock.{BadBlock}
use Rattle.stack_ops.specs.declared.reply.Reply.{Reply}
use Rattle.stack_ops.specs.declared.reply.Reply.TheVariants.{Silent, Whole, Bad as BadReply, Shown}
use Rattle.stack_core.specs.declared.kept.Room.{Room}
use Rattle.stack_core.specs.declared.kept.Room.TheVariants.{Nothing, Blocks, Bytes, Tuples}

-- the bad ones of these blocks, the first of which has this place
abbrev pub bad_from : ℕ → List Fate → List BadBlock
bad_from k [] = []
bad_from k (Good ∷ fs) = bad_from (suc k) fs
bad_from k (Bad why ∷ fs) = record { k = k; why = why } ∷ bad_from (suc k) fs
bad_from k (Untouched ∷ fs) = bad_from (suc k) fs

abbrev pub whole_or : List BadBlock → Reply
whole_or [] = Whole
whole_or (b ∷ bs) = BadReply (b ∷ bs)

-- what a request replies whose blocks came to this
abbrev pub reply_of : List Fate → Room → Reply
reply_of fates Nothing = Silent
reply_of fates (Blocks v) = whole_or (bad_from 0 fates)
reply_of fates (Bytes v) = Silent
reply_of fates (Tuples pi) = Silent

abbrev pub shown : List ℕ → Room → Reply
shown bytes Nothing = Silent
shown bytes (Blocks v) = Silent
shown bytes (Bytes v) = Shown bytes
shown bytes (Tuples pi) = Silent

-- there is room for so many blocks, where it is for blocks
abbrev pub HoldsBad : ℕ → Room → Type 0
HoldsBad n Nothing = Unit {0}
HoldsBad n (Blocks v) = (v.items ≡ []) × (n ≤ vec_capacity v)
HoldsBad n (Bytes v) = Unit {0}
HoldsBad n (Tuples pi) = Unit {0}

-- for so many bytes, where it is for bytes
abbrev pub HoldsShown : ℕ → Room → Type 0
HoldsShown n Nothing = Unit {0}
HoldsShown n (Blocks v) = Unit {0}
HoldsShown n (Bytes v) = (v.items ≡ []) × (n ≤ vec_capacity v)
HoldsShown n (Tuples pi) = Unit {0}

-- tuples of this data that can be made
pub record CanSeal (pool : List (List ℕ)) (body : List Seg) (pi : Payload) : Type 0 where
  pub payload : IsPayload pi
  pub some : 0 < pi.count
  pub numbers : pi.seed + pi.count ≤ 2 ^ 64
  pub lies : AllLieIn pool body
  pub lie : AllLieIn pool pi.tuples
  pub once : NoneTwice (places_in pi.tuples)
  pub apart : Apart (places_in body) (places_in pi.tuples)

-- tuples, where it is for tuples
abbrev pub HoldsSeal : List (List ℕ) → List Seg → Room → Type 0
HoldsSeal pool body Nothing = Unit {0}
HoldsSeal pool body (Blocks v) = Unit {0}
HoldsSeal pool body (Bytes v) = Unit {0}
HoldsSeal pool body (Tuples pi) = CanSeal pool body pi

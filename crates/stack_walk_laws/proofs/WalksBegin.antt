-- The requests of ops that keep the rules are whole, uniform and the volume's.
use Rattle.std.proofs.Common.{◌≡◌, ◌<◌, ◌≤◌, ℕ, zero, suc, ◌+◌, ◌*◌, ◌/◌, Bool, true, false, List, [], ◌∷◌, length, Some, refl, sym, ap, ◌∙◌, arith}
use Rattle.std.specs.Prelude.{◌^◌}
use Rattle.std.proofs.lemmas.Option.{none-some, same_Some}
use Rattle.std.proofs.Math.Nat.{mul-div_cancel_left}
use Rattle.page_pool.specs.declared.segs.Seg.{Seg}
use Rattle.page_pool.specs.Pages.{AllLieIn}
use Rattle.page_pool.specs.Places.{Apart, places_in, total}
use Rattle.integrity_payload.specs.declared.payload.Owner.TheVariants.{Block, App}
use Rattle.integrity_payload.specs.declared.payload.Payload.{Payload}
use Rattle.bio_core.specs.declared.request.Io.{Io}
use Rattle.bio_core.specs.Bios.{block_size}
use Rattle.dix_adapter.specs.Walking.{HasHost}
use Rattle.run_laws.specs.Passed.{Op, Fill, Put, Show, Seal, Write, Fetch, WritePi, FetchPi, Overwrite, Wait}
use Rattle.stack_walk_laws.specs.Sheets.{io_at, no_io, op_in}
use Rattle.stack_walk_laws.specs.Settling.{HasTuples, IsWhole}
use Rattle.stack_walk_laws.specs.Requests.{first_page, own_blocks, page_after, pages_for, pages_from, private_tuples, request_of, requests_from}
use Rattle.stack_walk_laws.specs.Starting.{AreTuples, IsOp}
use Rattle.stack_walk_laws.proofs.Private.{apart-private, lie-private, once-private, total-private, whole-private}

pub length-requests : (dix : Bool) (page : ℕ) (ops : List Op) → length (requests_from dix page ops) ≡ length ops
length-requests dix page [] = refl
length-requests dix page (op ∷ ops) = ap suc (length-requests dix (page_after dix page op) ops)

after-grows : (dix : Bool) (page : ℕ) (op : Op) → page ≤ page_after dix page op
after-grows true page op = omega arith
after-grows false page op = omega arith

pub pages-grow : (dix : Bool) (page : ℕ) (ops : List Op) → page ≤ pages_from dix page ops
pages-grow dix page [] = omega arith
pages-grow dix page (op ∷ ops) = let a = after-grows dix page op in let b = pages-grow dix (page_after dix page op) ops in omega arith

-- a request is that of its op, with tuples of the block layer behind the first pages and within all
pub record Placed (dix : Bool) (low high : ℕ) (op : Op) (io : Io) : Type 0 where
  pub at : ℕ
  pub is : io ≡ request_of op (first_page dix at)
  pub from : low ≤ at
  pub to : dix ≡ true → at + pages_for (own_blocks op) ≤ high

ends-within : (dix : Bool) (page : ℕ) (op : Op) (ops : List Op) → dix ≡ true → page + pages_for (own_blocks op) ≤ pages_from dix page (op ∷ ops)
ends-within true page op ops e = pages-grow true (page + pages_for (own_blocks op)) ops
ends-within false page op ops e = absurd cc

lower : (dix : Bool) (low low₂ high : ℕ) (op : Op) (io : Io) → low ≤ low₂ → Placed dix low₂ high op io → Placed dix low high op io
lower dix low low₂ high op io h p = let f = p.from in record { at = p.at; is = p.is; from = omega arith; to = p.to }

pub placed : (dix : Bool) (page : ℕ) (ops : List Op) (i : ℕ) → i < length ops → Placed dix page (pages_from dix page ops) (op_in ops i) (io_at (requests_from dix page ops) i)
placed dix page [] i h = absurd (omega arith)
placed dix page (op ∷ ops) zero h = record { at = page; is = refl; from = omega arith; to = λ e. ends-within dix page op ops e }
placed dix page (op ∷ ops) (suc i) h =
    lower dix page (page_after dix page op) (pages_from dix page (op ∷ ops)) (op_in ops i) (io_at (requests_from dix (page_after dix page op) ops) i) (after-grows dix page op)
    (placed dix (page_after dix page op) ops i (omega arith))

-- ---- one request

pub all-more : (old new : List (List ℕ)) (ss : List Seg) → length old ≤ length new → AllLieIn old ss → AllLieIn new ss
all-more old new [] e h = tt
all-more old new (s ∷ ss) e h = let l = h.0.in_pool in (record { in_pool = omega arith; in_page = h.0.in_page }, all-more old new ss e h.1)

whole-none : (pool : List (List ℕ)) → IsWhole pool no_io
whole-none pool = record { lies = tt; once = λ e. tt; tuples = λ pi e. absurd (none-some pi e) }

-- the tuples of the block layer
own-tuples : (script pool : List (List ℕ)) (io : Io) (v n app at : ℕ) (pi : Payload) → io.first ≡ v → io.count ≡ n → AllLieIn script io.body → length script ≤ at → at + pages_for n ≤ length pool → v + n < 2 ^ 64 →
    Some (record { seed = v; count = n; tuples = private_tuples at n; owner = Block; app = app }) ≡ io.pi → io.pi ≡ Some pi → HasTuples pool io pi
own-tuples script pool io v n app at pi f c l low high few e h =
    let x : record { seed = v; count = n; tuples = private_tuples at n; owner = Block; app = app } ≡ pi = same_Some _ pi (e ∙ h) in
    rw (sym x) (record {
      payload = record { whole = whole-private at n; long = total-private at n };
      count = sym c;
      lie = lie-private pool at n high;
      once = once-private at n;
      numbers = few;
      apart = apart-private script io.body at n low l;
      seed = sym f;
    })

-- the application's tuples
app-tuples : (script pool : List (List ℕ)) (io : Io) (v n : ℕ) (tuples : List Seg) (pi : Payload) → io.first ≡ v → io.count ≡ n → AreTuples script n tuples → Apart (places_in io.body) (places_in tuples) → length script ≤ length pool → v + n < 2 ^ 64 →
    Some (record { seed = v; count = n; tuples = tuples; owner = App; app = 0 }) ≡ io.pi → io.pi ≡ Some pi → HasTuples pool io pi
app-tuples script pool io v n tuples pi f c t apart more few e h =
    let x : record { seed = v; count = n; tuples = tuples; owner = App; app = 0 } ≡ pi = same_Some _ pi (e ∙ h) in
    rw (sym x) (record {
      payload = record { whole = t.whole; long = t.long };
      count = sym c;
      lie = all-more script pool tuples more t.lies;
      once = t.once;
      numbers = few;
      apart = apart;
      seed = sym f;
    })

pub whole-request : (dix : Bool) (script pool : List (List ℕ)) (bytes len at : ℕ) (op : Op) → IsOp dix script bytes len op → length script ≤ length pool → length script ≤ at → (dix ≡ true → at + pages_for (own_blocks op) ≤ length pool) → len < 2 ^ 63 →
    IsWhole pool (request_of op (first_page dix at))
whole-request dix script pool bytes len at (Fill seg byte) h m l t s = whole-none pool
whole-request dix script pool bytes len at (Put page off bs) h m l t s = whole-none pool
whole-request dix script pool bytes len at (Show seg) h m l t s = whole-none pool
whole-request dix script pool bytes len at (Seal n body tuples app rtag) h m l t s = whole-none pool
whole-request true script pool bytes len at (Write v n body app) h m l t s =
    let i = h.inside in
    record { lies = all-more script pool body m h.lies; once = λ e. absurd cc; tuples = λ pi e. own-tuples script pool (request_of (Write v n body app) (Some at)) v n app at pi refl refl h.lies l (t refl) (omega arith) refl e }
whole-request false script pool bytes len at (Write v n body app) h m l t s = record { lies = all-more script pool body m h.lies; once = λ e. absurd cc; tuples = λ pi e. absurd (none-some pi e) }
whole-request true script pool bytes len at (Fetch v n body) h m l t s =
    let i = h.0.inside in
    record { lies = all-more script pool body m h.0.lies; once = λ e. h.1; tuples = λ pi e. own-tuples script pool (request_of (Fetch v n body) (Some at)) v n 0 at pi refl refl h.0.lies l (t refl) (omega arith) refl e }
whole-request false script pool bytes len at (Fetch v n body) h m l t s = record { lies = all-more script pool body m h.0.lies; once = λ e. h.1; tuples = λ pi e. absurd (none-some pi e) }
whole-request dix script pool bytes len at (WritePi v n body tuples) h m l t s =
    let i = h.1.0.inside in
    record { lies = all-more script pool body m h.1.0.lies; once = λ e. absurd cc; tuples = λ pi e. app-tuples script pool (request_of (WritePi v n body tuples) (first_page dix at)) v n tuples pi refl refl h.1.1.0 h.1.1.1 m (omega arith) refl e }
whole-request dix script pool bytes len at (FetchPi v n body tuples) h m l t s =
    let i = h.1.0.inside in
    record { lies = all-more script pool body m h.1.0.lies; once = λ e. h.1.1.0; tuples = λ pi e. app-tuples script pool (request_of (FetchPi v n body tuples) (first_page dix at)) v n tuples pi refl refl h.1.1.1.0 h.1.1.1.1 m (omega arith) refl e }
whole-request dix script pool bytes len at (Overwrite dev lba change) h m l t s = whole-none pool
whole-request dix script pool bytes len at Wait h m l t s = whole-none pool

-- what else is asked of one request
pub record IsFit (dix : Bool) (bytes len : ℕ) (io : Io) : Type 0 where
  pub inside : io.first + io.count ≤ len
  pub size : 0 < io.count → block_size io ≡ bytes
  pub host : 0 < io.count → HasHost dix io.pi
  pub number : io.first + io.count < 2 ^ 64

pub size-is : (body : List Seg) (n bytes : ℕ) → 0 < n → total body ≡ n * bytes → total body / n ≡ bytes
size-is body n bytes h e = ap (λ t. t / n) e ∙ mul-div_cancel_left bytes h

fit-none : (dix : Bool) (bytes len : ℕ) → IsFit dix bytes len no_io
fit-none dix bytes len = record { inside = omega arith; size = λ h. absurd (omega arith); host = λ h. absurd (omega arith); number = omega arith }

pub fit-request : (dix : Bool) (script : List (List ℕ)) (bytes len at : ℕ) (op : Op) → IsOp dix script bytes len op → len < 2 ^ 63 → IsFit dix bytes len (request_of op (first_page dix at))
fit-request dix script bytes len at (Fill seg byte) h s = fit-none dix bytes len
fit-request dix script bytes len at (Put page off bs) h s = fit-none dix bytes len
fit-request dix script bytes len at (Show seg) h s = fit-none dix bytes len
fit-request dix script bytes len at (Seal n body tuples app rtag) h s = fit-none dix bytes len
fit-request true script bytes len at (Write v n body app) h s = let i = h.inside in record { inside = i; size = λ k. size-is body n bytes k h.size; host = λ k. tt; number = omega arith }
fit-request false script bytes len at (Write v n body app) h s = let i = h.inside in record { inside = i; size = λ k. size-is body n bytes k h.size; host = λ k. tt; number = omega arith }
fit-request true script bytes len at (Fetch v n body) h s = let i = h.0.inside in record { inside = i; size = λ k. size-is body n bytes k h.0.size; host = λ k. tt; number = omega arith }
fit-request false script bytes len at (Fetch v n body) h s = let i = h.0.inside in record { inside = i; size = λ k. size-is body n bytes k h.0.size; host = λ k. tt; number = omega arith }
fit-request true script bytes len at (WritePi v n body tuples) h s = let i = h.1.0.inside in record { inside = i; size = λ k. size-is body n bytes k h.1.0.size; host = λ k. tt; number = omega arith }
fit-request false script bytes len at (WritePi v n body tuples) h s = let e : false ≡ true = h.0 in absurd cc
fit-request true script bytes len at (FetchPi v n body tuples) h s = let i = h.1.0.inside in record { inside = i; size = λ k. size-is body n bytes k h.1.0.size; host = λ k. tt; number = omega arith }
fit-request false script bytes len at (FetchPi v n body tuples) h s = let e : false ≡ true = h.0 in absurd cc
fit-request dix script bytes len at (Overwrite dev lba change) h s = fit-none dix bytes len
fit-request dix script bytes len at Wait h s = fit-none dix bytes len

-- Where the blocks of a request lie.
use Rattle.std.proofs.Common.{◌≡◌, ◌<◌, ◌≤◌, ℕ, ◌+◌, ◌-◌, max, List, length, get_or, map, sym, ap, subst, ◌∙◌, ⊎_elim, arith}
use Rattle.std.proofs.lemmas.Bool.{cases_lt}
use Rattle.std.proofs.lemmas.List.{get_or_read}
use Rattle.bio_core.specs.declared.request.Io.{Io}
use Rattle.volume_table.specs.declared.entry.Entry.{Entry}
use Rattle.volume_table.specs.Tables.{RunGoesOn, Table}
use Rattle.volume_table.specs.Places.{place_in, volume_len}
use Rattle.stack_laws.specs.Plan.{no_request}
use Rattle.stack_walk_laws.specs.Sheets.{AreInside, io_at, no_io, request_in}
use Rattle.stack_walk_laws.proofs.Facts.{request-at, there}

-- a block of a request is the volume's
pub inside-at : (ios : List Io) (table : Table) (op k : ℕ) (io : Io) → AreInside ios table → k < (get_or (map request_in ios) op no_request).count → io ≡ get_or ios op io → io.first + k < volume_len table.entries
inside-at ios table op k io a h e =
    let c : (get_or (map request_in ios) op no_request).count ≡ (io_at ios op).count = ap (λ q. q.count) (request-at ios op) in
    let t = there ios op (omega arith) in
    let f : io.first ≡ (io_at ios op).first = ap (λ (x : Io). x.first) (get_or_read ios op io t e no_io) in
    let x = a op k (omega arith) in
    omega arith

-- the blocks of a run lie on one device
pub devices-more : (entries : List Entry) (first k m run most next : ℕ) → ((n : ℕ) → n < run → RunGoesOn entries (first + k) n) → m ≤ run → next ≡ max ((place_in entries (first + k)).0 + 1) most →
    ((j : ℕ) → j < k → (place_in entries (first + j)).0 < most) → (j : ℕ) → j < k + m → (place_in entries (first + j)).0 < next
devices-more entries first k m run most next goes l e h = λ j b.
    ⊎_elim
    (λ (s : j < k). let x = h j s in omega arith)
    (λ (s : k ≤ j).
    let g : first + k + (j - k) ≡ first + j = omega arith in
    let p = (goes (j - k) (omega arith)).place in
    let d : (place_in entries (first + j)).0 ≡ (place_in entries (first + k)).0 = ap (λ v. (place_in entries v).0) (sym g) ∙ ap (λ q. q.0) p in
    omega arith)
    (cases_lt j k)

-- what holds of the blocks of all requests holds of those of one
pub own-blocks : (entries : List Entry) (ios : List Io) (at : ℕ) (io : Io) (n : ℕ) → io ≡ get_or ios at io → at < length ios → ((i k : ℕ) → k < (io_at ios i).count → (place_in entries ((io_at ios i).first + k)).0 < n) → (k : ℕ) → k < io.count → (place_in entries (io.first + k)).0 < n
own-blocks entries ios at io n e l h k b =
    let q : io ≡ io_at ios at = get_or_read ios at io l e no_io in
    subst (λ (z : Io). (place_in entries (z.first + k)).0 < n) (sym q) (h at k (subst (λ (z : Io). k < z.count) q b))

-- one request more
pub ios-more : (entries : List Entry) (ios : List Io) (at : ℕ) (io : Io) (most got next : ℕ) → io ≡ get_or ios at io → at < length ios → ((k : ℕ) → k < io.count → (place_in entries (io.first + k)).0 < got) → next ≡ max got most →
    ((i k : ℕ) → i < at → k < (io_at ios i).count → (place_in entries ((io_at ios i).first + k)).0 < most) → (i k : ℕ) → i < at + 1 → k < (io_at ios i).count → (place_in entries ((io_at ios i).first + k)).0 < next
ios-more entries ios at io most got next e l here n before i k h b =
    let q : io ≡ io_at ios at = get_or_read ios at io l e no_io in
    ⊎_elim
    (λ (s : i < at). let x = before i k s b in omega arith)
    (λ (s : at ≤ i).
    let g : at ≡ i = omega arith in
    let r : io ≡ io_at ios i = q ∙ ap (io_at ios) g in
    let c : k < io.count = rw r b in
    let x = here k c in
    let y : (place_in entries (io.first + k)).0 ≡ (place_in entries ((io_at ios i).first + k)).0 = ap (λ (z : Io). (place_in entries (z.first + k)).0) r in
    omega arith)
    (cases_lt i at)

-- How much there is in queues and in flight.
use Rattle.std.proofs.Common.{◌≡◌, ◌<◌, ◌≤◌, ℕ, ◌+◌, ◌-◌, true, false, List, [], ◌∷◌, length, refl, ap, ⊎_elim, arith}
use Rattle.std.specs.Prelude.{nat_lt, ◌^◌}
use Rattle.std.specs.List.{All}
use Rattle.std.proofs.lemmas.Bool.{cases_Bool, cases_lt}
use Rattle.std.proofs.lemmas.List.{get_or_past}
use Rattle.std.proofs.lemmas.List.Elements.{All-nil, All-cons, All-head, All-tail, All-get_or, All-weaker}
use Rattle.bio_core.specs.declared.bio.Bio.{Bio}
use Rattle.stack_laws.specs.Blocks.{place_of}
use Rattle.merge_queue.specs.Groups.{size, Group, lba_of, put, put_all}
use Rattle.merge_queue.specs.Index.{total, bios_in}
use Rattle.stack_laws.specs.Plan.{Plan, no_request}
use Rattle.stack_laws.specs.View.{View, Command, queue_at, group_at}
use Rattle.stack_laws.specs.Open.{in_order}
use Rattle.stack_laws.specs.Runs.{blocks_of_requests}
use Rattle.stack_laws.specs.Sound.{HasBlocks, IsOpen, Sound}
use Rattle.stack_laws.specs.Formed.{Named, Chain, IsGroup, Formed}
use Rattle.stack_laws.specs.Room.{size_in, Accounted}
use Rattle.merge_queue.proofs.Lists.{total-one}
use Rattle.stack_laws.proofs.Keeps.{queue-there}
use Rattle.stack_laws.proofs.Enabled.{group-has, open-has}
use Rattle.stack_laws.proofs.Formed.{queue-groups}
use Rattle.stack_laws.proofs.Capacity.{bios-few, few-unsettled, few-bios}
use Rattle.stack_steps.specs.Fine.{Fine}
use Rattle.stack_steps.specs.Parts.{Divides, Ends}
use Rattle.stack_steps.specs.State.{OpIsIn}
use Rattle.stack_steps.specs.Flights.{bios_in_flight, fates_in_flight}

-- ---- the commands in flight

pub record Flying (cs : List Command) : Type 0 where
  pub bios : bios_in_flight (in_order cs) ≤ total size_in cs
  pub fates : fates_in_flight (in_order cs) ≡ total size_in cs
  pub number : length (in_order cs) ≤ total size_in cs

pub flying : (p : Plan) (cs : List Command) → All (IsOpen p) cs → All (λ c. IsGroup p c.dev c.bios) cs → Flying cs
flying p [] a b = record { bios = omega arith; fates = refl; number = omega arith }
flying p (c ∷ cs) a b =
    let r = flying p cs (All-tail (IsOpen p) c cs a) (All-tail (λ c. IsGroup p c.dev c.bios) c cs b) in
    let r₁ = r.bios in
    let r₂ = r.fates in
    let r₃ = r.number in
    ⊎_elim
    (λ (e : c.completed ≡ true). rw e (record { bios = omega arith; fates = omega arith; number = omega arith }))
    (λ (e : c.completed ≡ false).
    let o = All-head (IsOpen p) c cs a e in
    let h = open-has p c o in
    let f = o.settles.each in
    let l = bios-few p c.dev c.bios (All-head (λ c. IsGroup p c.dev c.bios) c cs b).named in
    rw e (record { bios = omega arith; fates = omega arith; number = omega arith }))
    (cases_Bool c.completed)

pub record SendsFit (p : Plan) (v : View) (g : Group) : Type 0 where
  pub some : 0 < size g
  pub few : size g ≤ blocks_of_requests p.requests
  pub short : length g ≤ blocks_of_requests p.requests
  pub number : length (in_order v.commands) < blocks_of_requests p.requests
  pub bios : bios_in_flight (in_order v.commands) + length g ≤ blocks_of_requests p.requests
  pub fates : fates_in_flight (in_order v.commands) + size g ≤ blocks_of_requests p.requests

pub sends-fit : (p : Plan) (v : View) (d i : ℕ) → Sound p v → Formed p v → Accounted p v → i < length (queue_at v d) → SendsFit p v (group_at v d i)
sends-fit p v d i s f a h =
    let l = queue-there v d i h in
    let o = group-has p v d i s h in
    let q = total-one size (queue_at v d) i [] h in
    let t = total-one (total size) v.queues d [] l in
    let u = few-unsettled p v s in
    let y = flying p v.commands s.commands f.commands in
    let y₁ = y.bios in
    let y₂ = y.fates in
    let y₃ = y.number in
    let g = (All-get_or (IsGroup p d) (queue_at v d) i [] h (queue-groups p v d l f)).named in
    let b = bios-few p d (group_at v d i) g in
    record { some = o; few = omega arith; short = omega arith; number = omega arith; bios = omega arith; fates = omega arith }

-- ---- groups of a queue

named-in : (p : Plan) (d : ℕ) (b : Bio) → Named p d b → place_of b.op < length p.requests
named-in p d b n =
    ⊎_elim
    (λ (l : place_of b.op < length p.requests). l)
    (λ (l : length p.requests ≤ place_of b.op).
    let e = ap (λ r. r.count) (get_or_past p.requests (place_of b.op) no_request l) in
    let w = n.within in
    let s = n.some in
    absurd (omega arith))
    (cases_lt (place_of b.op) (length p.requests))

named-divides : (p : Plan) (d : ℕ) (b : Bio) → Fine p → Named p d b → Divides p b
named-divides p d b f n =
    let w = n.within in
    let s = n.some in
    let l = n.lba (b.count - 1) (omega arith) in
    let e = f.ends (place_of b.op) (b.k + (b.count - 1)) (omega arith) in
    record { within = w; ends = omega arith }

pub all-divide : (p : Plan) (d : ℕ) (g : Group) → Fine p → All (Named p d) g → All (Divides p) g
all-divide p d g f a = All-weaker (Named p d) (Divides p) (λ b n. named-divides p d b f n) g a

pub all-in : (p : Plan) (d m : ℕ) (g : Group) → m ≡ length p.requests → All (Named p d) g → All (OpIsIn m) g
all-in p d m g e a = All-weaker (Named p d) (OpIsIn m) (λ b n. (let l = named-in p d b n in omega arith)) g a

chain-ends : (p : Plan) (at : ℕ) (g : List Bio) → at < 2 ^ 64 → Chain at g → All (Divides p) g → at + size g < 2 ^ 64
chain-ends p at [] l c a = omega arith
chain-ends p at (b ∷ bs) l c a =
    let h = (All-head (Divides p) b bs a).ends in
    let e = c.0 in
    let r = chain-ends p (at + b.count) bs (omega arith) c.1 (All-tail (Divides p) b bs a) in
    omega arith

pub group-ends : (p : Plan) (d : ℕ) (g : Group) → Fine p → IsGroup p d g → HasBlocks g → Ends g
group-ends p d [] f i h = absurd (omega arith)
group-ends p d (b ∷ bs) f i h =
    let a = all-divide p d (b ∷ bs) f i.named in
    let e = (All-head (Divides p) b bs a).ends in
    record { some = omega arith; ends = chain-ends p b.lba (b ∷ bs) (omega arith) i.chain a }

all-ends : (p : Plan) (d : ℕ) (q : List Group) → Fine p → All (IsGroup p d) q → All HasBlocks q → All Ends q
all-ends p d [] f a b = All-nil Ends
all-ends p d (g ∷ gs) f a b = All-cons Ends g gs (group-ends p d g f (All-head (IsGroup p d) g gs a) (All-head HasBlocks g gs b)) (all-ends p d gs f (All-tail (IsGroup p d) g gs a) (All-tail HasBlocks g gs b))

pub queue-ends : (p : Plan) (v : View) (d : ℕ) → Fine p → Sound p v → Formed p v → d < length v.queues → All Ends (queue_at v d)
queue-ends p v d f s w l = all-ends p d (queue_at v d) f (queue-groups p v d l w) (All-get_or (All HasBlocks) v.queues d [] l s.groups)

pub queue-small : (p : Plan) (v : View) (d : ℕ) → Sound p v → Formed p v → Accounted p v → bios_in (queue_at v d) ≤ blocks_of_requests p.requests
queue-small p v d s f a = let x = few-bios p v d s f a in let y = few-unsettled p v s in omega arith

-- what was put in a queue
un-put : (P : Group → Type 0) (g : Group) (q : List Group) → All P (put g q) → P g × All P q
un-put P g [] a = (All-head P g [] a, All-tail P g [] a)
un-put P g (h ∷ hs) a =
    ⊎_elim
    (λ (e : nat_lt (lba_of g) (lba_of h) ≡ true). let b : All P (g ∷ (h ∷ hs)) = rw e at a in (All-head P g (h ∷ hs) b, All-tail P g (h ∷ hs) b))
    (λ (e : nat_lt (lba_of g) (lba_of h) ≡ false).
    let b : All P (h ∷ put g hs) = rw e at a in
    let r = un-put P g hs (All-tail P h (put g hs) b) in
    (r.0, All-cons P h hs (All-head P h (put g hs) b) r.1))
    (cases_Bool (nat_lt (lba_of g) (lba_of h)))

pub one-put : (P : Group → Type 0) (g : Group) (q : List Group) → All P (put g q) → P g
one-put P g q a = (un-put P g q a).0

un-put_all : (P : Group → Type 0) (gs q : List Group) → All P (put_all gs q) → All P gs × All P q
un-put_all P [] q a = (All-nil P, a)
un-put_all P (g ∷ gs) q a =
    let r = un-put_all P gs (put g q) a in
    let u = un-put P g q r.1 in
    (All-cons P g gs u.0 r.0, u.1)

pub all-put : (P : Group → Type 0) (gs q : List Group) → All P (put_all gs q) → All P gs
all-put P gs q a = (un-put_all P gs q a).0

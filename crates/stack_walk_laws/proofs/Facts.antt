-- What a step that can be done says of the requests.
use Rattle.std.proofs.Common.{◌≡◌, ◌<◌, ◌≤◌, ℕ, zero, suc, ◌-◌, Bool, true, List, [], ◌∷◌, length, map, get_or, refl, sym, ap, ◌∙◌, ⊎_elim, arith}
use Rattle.std.specs.Prelude.{nat_lt}
use Rattle.std.specs.List.{All}
use Rattle.std.proofs.lemmas.Bool.{and_parts, cases_lt, ltb-true, not-true}
use Rattle.std.proofs.lemmas.List.{get_or_past, length-map}
use Rattle.std.proofs.lemmas.List.Elements.{All-nil, All-cons, All-head, All-get_or, All-weaker}
use Rattle.bio_core.specs.declared.bio.Bio.{Bio}
use Rattle.bio_core.specs.declared.fate.Fate.{Fate}
use Rattle.bio_core.specs.declared.request.Io.{Io}
use Rattle.stack_laws.specs.Passed.{Limits, size}
use Rattle.volume_table.specs.Tables.{Table}
use Rattle.run_laws.specs.Passed.{Op}
use Rattle.stack_laws.specs.Blocks.{place_of}
use Rattle.stack_laws.specs.Formed.{IsGroup, Named}
use Rattle.stack_laws.specs.Pieces.{bio_of, cut_to, greatest_piece}
use Rattle.stack_laws.specs.Plan.{no_request, request_at}
use Rattle.stack_laws.specs.Steps.{can, Complete as StepComplete, Cut as StepCut}
use Rattle.stack_laws.specs.View.{command_at, is_admitted, no_command, op_at}
use Rattle.stack_laws.proofs.Keeps.{command-there, cut-within, piece-some, piece-within}
use Rattle.stack_steps.specs.declared.machine.Machine.{Machine}
use Rattle.stack_steps.specs.declared.choice.Choice.TheVariants.{Admit, Complete, Cut, End}
use Rattle.stack_steps.specs.Does.{Cuts, Lands, OfOp, Ready}
use Rattle.stack_steps.specs.Fine.{Fine}
use Rattle.stack_steps.specs.Shows.{live_ops, op_of}
use Rattle.stack_steps.proofs.Keep.{completion, listed-there, piece}
use Rattle.stack_steps.proofs.Sums.{all-divide}
use Rattle.stack_walk_laws.specs.Sheets.{io_at, no_io, plan_of, request_in}
use Rattle.stack_walk_laws.specs.Settling.{IsOf}
use Rattle.stack_steps.specs.Parts.{Divides}

pub request-at : (ios : List Io) (i : ℕ) → get_or (map request_in ios) i no_request ≡ request_in (io_at ios i)
request-at [] i = refl
request-at (io ∷ ios) zero = refl
request-at (io ∷ ios) (suc i) = request-at ios i

pub place-is : (n : ℕ) → 1 ≤ n → place_of n ≡ n - 1
place-is zero h = absurd (omega arith)
place-is (suc n) h = omega arith

-- a request with blocks is one of them
pub there : (ios : List Io) (i : ℕ) → 0 < (io_at ios i).count → i < length ios
there ios i h =
    ⊎_elim
    (λ (l : i < length ios). l)
    (λ (l : length ios ≤ i). let e = ap (λ (io : Io). io.count) (get_or_past ios i no_io l) in absurd (omega arith))
    (cases_lt i (length ios))

-- a bio of a group is one of a request
pub is-of : (ops : List Op) (shifted : List Bool) (ios : List Io) (table : Table) (limits : Limits) (devices d : ℕ) (b : Bio) → Fine (plan_of ops shifted ios table limits devices) → Named (plan_of ops shifted ios table limits devices) d b → IsOf ios b
is-of ops shifted ios table limits devices d b f n =
    let p = plan_of ops shifted ios table limits devices in
    let w = n.within in
    let o = n.some in
    let e = place-is b.op n.numbered in
    let c : (request_at p (place_of b.op)).count ≡ (io_at ios (b.op - 1)).count = ap (λ r. r.count) (request-at ios (place_of b.op)) ∙ ap (λ i. (io_at ios i).count) e in
    let t = there ios (b.op - 1) (omega arith) in
    let z = n.numbered in
    let h = All-head (Divides p) b [] (all-divide p d (b ∷ []) f (All-cons (Named p d) b [] n (All-nil (Named p d)))) in
    record { numbered = n.numbered; there = omega arith; within = omega arith; ends = h.ends }

pub all-of : (ops : List Op) (shifted : List Bool) (ios : List Io) (table : Table) (limits : Limits) (devices d : ℕ) (g : List Bio) → Fine (plan_of ops shifted ios table limits devices) → All (Named (plan_of ops shifted ios table limits devices) d) g → All (IsOf ios) g
all-of ops shifted ios table limits devices d g f a = All-weaker (Named (plan_of ops shifted ios table limits devices) d) (IsOf ios) (λ b n. is-of ops shifted ios table limits devices d b f n) g a

pub record Completed (ios : List Io) (bios : List Bio) (fates : List Fate) : Type 0 where
  pub of : All (IsOf ios) bios
  pub each : size bios ≡ length fates

-- a command that is completed
pub completed : (ops : List Op) (shifted : List Bool) (ios : List Io) (table : Table) (limits : Limits) (devices : ℕ) (m : Machine) (i : ℕ) (bios : List Bio) (fates : List Fate) →
    Fine (plan_of ops shifted ios table limits devices) → Ready (plan_of ops shifted ios table limits devices) m (Complete i) → Lands (plan_of ops shifted ios table limits devices) m i bios fates → Completed ios bios fates
completed ops shifted ios table limits devices m i bios fates f r l =
    let p = plan_of ops shifted ios table limits devices in
    let v = r.view in
    let x = l v r.step r.holds r.means in
    let j = x.0 in
    let h : can p v (StepComplete j) ≡ true = ap (can p v) (sym x.1.0) ∙ r.can in
    let c = completion p m.gate m.ops.items m.live.items m.queues.items m.flight m.steps v j f r.holds.shows h in
    let t = command-there v j (not-true (command_at v j).completed h) in
    let g = All-get_or (λ c. IsGroup p c.dev c.bios) v.commands j no_command t r.holds.shows.formed.commands in
    let a = all-of ops shifted ios table limits devices (command_at v j).dev (command_at v j).bios f g.named in
    rw (x.1.1.0, x.1.1.1) (record { of = a; each = sym c.each })

-- a piece that is cut
pub piece-is : (ops : List Op) (shifted : List Bool) (ios : List Io) (table : Table) (limits : Limits) (devices : ℕ) (m : Machine) (q cut : ℕ) (bio : Bio) →
    Fine (plan_of ops shifted ios table limits devices) → Ready (plan_of ops shifted ios table limits devices) m (Cut q) → Cuts (plan_of ops shifted ios table limits devices) m q cut bio → IsOf ios bio
piece-is ops shifted ios table limits devices m q cut bio f r c =
    let p = plan_of ops shifted ios table limits devices in
    let v = r.view in
    let i = get_or (live_ops v) q 0 in
    let t : r.step ≡ StepCut i = r.means.1 in
    let k = (op_at v i).cut in
    let h : can p v (StepCut i) ≡ true = ap (can p v) (sym t) ∙ r.can in
    let e : bio ≡ bio_of p i k (cut_to cut (greatest_piece p i k)) = c v r.step r.holds r.can r.means ∙ ap (λ s. bio_of p (op_of s) (op_at v (op_of s)).cut (cut_to cut (greatest_piece p (op_of s) (op_at v (op_of s)).cut))) t in
    let a = and_parts (is_admitted (op_at v i).phase) (nat_lt k (request_at p i).count) h in
    let l = ltb-true k (request_at p i).count a.1 in
    let one = piece-some p i k in
    let most = piece-within p i k l in
    let small = cut-within cut (greatest_piece p i k) one in
    let x = piece p m.gate m.ops.items m.live.items m.queues.items m.flight m.steps v i cut (bio_of p i k (cut_to cut (greatest_piece p i k))) f r.holds.shows h refl in
    let n : (request_at p i).count ≡ (io_at ios i).count = ap (λ r. r.count) (request-at ios i) in
    let y = there ios i (omega arith) in
    let z : suc i - 1 ≡ i = omega arith in
    rw e (record { numbered = omega arith; there = omega arith; within = rw z (omega arith); ends = x.ends })

-- the op of a step is there
pub op-ends : (ops : List Op) (shifted : List Bool) (ios : List Io) (table : Table) (limits : Limits) (devices : ℕ) (m : Machine) (q op : ℕ) →
    Fine (plan_of ops shifted ios table limits devices) → Ready (plan_of ops shifted ios table limits devices) m (End q) → OfOp (plan_of ops shifted ios table limits devices) m (End q) op → op < length ios
op-ends ops shifted ios table limits devices m q op f r o =
    let p = plan_of ops shifted ios table limits devices in
    let v = r.view in
    let e : get_or (live_ops v) q 0 ≡ op = sym (ap op_of r.means.1) ∙ o v r.step r.holds r.means in
    let l = listed-there p m.gate m.ops.items m.live.items m.queues.items m.flight m.steps v q f r.holds.shows r.means.0 in
    let g = ap (λ z. get_or z q 0) r.holds.shows.listed in
    let c = length-map ios request_in in
    let x = l.request in
    omega arith

pub op-enters : (ops : List Op) (shifted : List Bool) (ios : List Io) (table : Table) (limits : Limits) (devices : ℕ) (m : Machine) (q op : ℕ) →
    Fine (plan_of ops shifted ios table limits devices) → Ready (plan_of ops shifted ios table limits devices) m (Admit q) → OfOp (plan_of ops shifted ios table limits devices) m (Admit q) op → op < length ios
op-enters ops shifted ios table limits devices m q op f r o =
    let p = plan_of ops shifted ios table limits devices in
    let v = r.view in
    let e : get_or (live_ops v) q 0 ≡ op = sym (ap op_of r.means.1) ∙ o v r.step r.holds r.means in
    let l = listed-there p m.gate m.ops.items m.live.items m.queues.items m.flight m.steps v q f r.holds.shows r.means.0 in
    let g = ap (λ z. get_or z q 0) r.holds.shows.listed in
    let c = length-map ios request_in in
    let x = l.request in
    omega arith

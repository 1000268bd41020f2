-- The step of a word.
use Rattle.std.proofs.Common.{ℕ, List, []}
use Rattle.bio_core.specs.declared.bio.Bio.{Bio}
use Rattle.bio_core.specs.declared.fate.Fate.{Fate}
use Rattle.stack_laws.specs.Plan.{Plan}
use Rattle.stack_laws.specs.Sound.{Answered, Settles}
use Rattle.stack_laws.specs.Steps.{Step, chosen, step}
use Rattle.stack_laws.specs.View.{View, group_at}
use Rattle.stack_laws.proofs.Enabled.{chosen-can}
use Rattle.stack_steps.specs.declared.choice.Choice.{Choice}
use Rattle.stack_steps.specs.declared.choice.Choice.TheVariants.{Admit, Complete, Cut, End, Join, Send}
use Rattle.stack_steps.specs.declared.machine.Machine.{Machine}
use Rattle.stack_steps.specs.Does.{CanStep, Chooses, Does, Flies, Ready, Takes, Works}
use Rattle.stack_steps.specs.Shows.{Means}
use Rattle.stack_steps.proofs.Keep.{in-flight}
use Rattle.stack_core.specs.Stacks.{Steps}

-- the choice of a word can be done
pub ready : (p : Plan) (m : Machine) (word : ℕ) (c : Choice) → CanStep p m → Chooses p m word c → Ready p m c
ready p m word c s h = record {
  view = s.view;
  step = chosen p s.view word;
  holds = s.holds;
  can = chosen-can p s.view word s.some;
  means = h s.view s.holds s.some;
}

-- the next machine works
pub works : (p : Plan) (m m' : Machine) (c : Choice) (cut : ℕ) → Ready p m c → Does p m c cut m' → Works p m'
works p m m' c cut r d = (step p r.view r.step cut [], d r.view r.step r.holds r.can r.means)

-- a choice that sends nothing
abbrev pub SendsNot : Choice → Type 0
SendsNot (End q) = Unit {0}
SendsNot (Complete i) = Unit {0}
SendsNot (Admit q) = Unit {0}
SendsNot (Cut q) = Unit {0}
SendsNot (Join d i j) = Unit {0}
SendsNot (Send d i) = ⊥

pub unanswered : (p : Plan) (v : View) (c : Choice) (t : Step) → SendsNot c → Means p v c t → Answered v t []
unanswered p v (End q) t s m = rw m.1 tt
unanswered p v (Complete i) t s m = let x = in-flight p v i t m.0 m.1 in rw x.step tt
unanswered p v (Admit q) t s m = rw m.1 tt
unanswered p v (Cut q) t s m = rw m.1 tt
unanswered p v (Join d i j) t s m = rw m tt
unanswered p v (Send d i) t s m = absurd s

-- a step that sends nothing
pub one-step : (p : Plan) (m m' : Machine) (word cut : ℕ) (c : Choice) → SendsNot c → Chooses p m word c → Does p m c cut m' → Steps p m word cut m'
one-step p m m' word cut c s h d = λ v x l.
    (let t = chosen p v word in
    let e = h v x l in
    ([], unanswered p v c t s e, d v t x (chosen-can p v word l) e))

-- a step that sends a group
pub one-send : (p : Plan) (m n m' : Machine) (word cut d i : ℕ) (group : List Bio) (fates : List Fate) → Chooses p m word (Send d i) → Takes p m d i group n → Flies p n d group fates m' → Settles group fates → Steps p m word cut m'
one-send p m n m' word cut d i group fates h t f s = λ v x l.
    (let e = h v x l in
    let k = t v (chosen p v word) x (chosen-can p v word l) e in
    let s₂ : Settles (group_at v d i) fates = rw k.1 at s in
    (fates, rw e s₂, rw e (f v i cut k.0 k.1 s)))

-- Moves in pages alone leave the record as it is; what settling finds.
use Rattle.std.proofs.Common.{◌≡◌, ℕ, suc, Bool, true, false, List, [], ◌∷◌, ◌++◌, length, get_or, Option, Some, None, refl, sym, ap, ◌∙◌, arith}
use Rattle.bio_core.specs.declared.fate.Why.{Why}
use Rattle.integrity_payload.specs.declared.payload.Owner.{Owner}
use Rattle.pi_tuple.specs.declared.checks.Check.{Check}
use Rattle.block_path.specs.declared.route.Route.{Route}
use Rattle.block_path.specs.Acts.{State, act, tell}
use Rattle.block_path.specs.Blocks.{ActAnswer, silent}
use Rattle.block_path.specs.Moves.{first_why, left_by, settle, settled_by}
use Rattle.block_path.specs.Serial.{plain_tells}
use Rattle.block_path.specs.WayIn.{delivered_unless, mapped_back, owner_finds}
use Rattle.run_laws.specs.Passed.{Setting, route, Alters, Reads, Seals, Sets, Shows, Step, Writes, WritesPi}
use Rattle.run_laws.specs.ScriptMoves.{by_moves, carried_by, lands_in}
use Rattle.stack_walk_laws.specs.Slots.{before_carrying, parts_of, write_parts}
use Rattle.stack_walk_laws.proofs.Runs.{AllQuiet, IsQuiet}
use Rattle.stack_walk_laws.proofs.Moving.{get_left}

settles_silent : (r : Route) (owner : Owner) (fate : Option Why) (frame : List ℕ) → (settled_by r owner fate frame).answer.sent ≡ None
settles_silent r owner (Some why) frame = refl
settles_silent r owner None frame = by (owner_finds r (mapped_back r frame)) where
  by : (o : Option Check) → (left_by r owner (delivered_unless owner [] (mapped_back r frame) o) (length frame)).answer.sent ≡ None
  by None = refl
  by (Some check) = refl

settle_quiet : (r : Route) (owner : Owner) (to : List ℕ) (fate : ℕ) → IsQuiet (settle r owner to fate)
settle_quiet r owner to fate = record { logs = refl; sent = λ s. settles_silent r owner _ _ }

pub made_quiet : (m : Setting) (own : List ℕ) (fate : ℕ) (step : Step) → AllQuiet (parts_of m own fate step).made
made_quiet m own fate (Sets at values) = tt
made_quiet m own fate (Shows at) = tt
made_quiet m own fate (Seals body tuple app rtag) = tt
made_quiet m own fate (Writes b app body) = by m.mode.dix where
  by : (dix : Bool) → AllQuiet (write_parts m b app body own dix).made
  by true = (record { logs = refl; sent = λ s. refl }, tt)
  by false = tt
made_quiet m own fate (WritesPi b frame) = tt
made_quiet m own fate (Reads b owner to) = tt
made_quiet m own fate (Alters dev lba change) = tt

pub cut_quiet : (m : Setting) (own : List ℕ) (fate : ℕ) (step : Step) → AllQuiet (parts_of m own fate step).cut
cut_quiet m own fate (Sets at values) = tt
cut_quiet m own fate (Shows at) = tt
cut_quiet m own fate (Seals body tuple app rtag) = tt
cut_quiet m own fate (Writes b app body) = by m.mode.dix where
  by : (dix : Bool) → AllQuiet (write_parts m b app body own dix).cut
  by true = (record { logs = refl; sent = λ s. refl }, tt)
  by false = tt
cut_quiet m own fate (WritesPi b frame) = (record { logs = refl; sent = λ s. refl }, tt)
cut_quiet m own fate (Reads b owner to) = tt
cut_quiet m own fate (Alters dev lba change) = tt

pub settled_quiet : (m : Setting) (own : List ℕ) (fate : ℕ) (step : Step) → AllQuiet (parts_of m own fate step).settled
settled_quiet m own fate (Sets at values) = tt
settled_quiet m own fate (Shows at) = tt
settled_quiet m own fate (Seals body tuple app rtag) = tt
settled_quiet m own fate (Writes b app body) = by m.mode.dix where
  by : (dix : Bool) → AllQuiet (write_parts m b app body own dix).settled
  by true = (record { logs = refl; sent = λ s. refl }, tt)
  by false = tt
settled_quiet m own fate (WritesPi b frame) = (record { logs = refl; sent = λ s. refl }, tt)
settled_quiet m own fate (Reads b owner to) = (settle_quiet (route m b) owner (lands_in owner m.mode.dix to own) fate, tt)
settled_quiet m own fate (Alters dev lba change) = tt

-- with what a settled block is listed

pub no_second : (fate : Option Why) → first_why fate None ≡ fate
no_second None = refl
no_second (Some why) = refl

kept : (here ts : List ActAnswer) (c : ℕ) (fate : Option Why) → length here ≡ suc c → (get_or here c silent).why ≡ fate → (get_or (here ++ ts) c silent).why ≡ first_why fate None
kept here ts c fate l e = ap (λ a. a.why) (get_left here ts c (omega (arith, l))) ∙ e ∙ sym (no_second fate)

pub listed_as : (m : Setting) (own : List ℕ) (fate : ℕ) (step : Step) (now : State) (found : Option Why) (here : List ActAnswer) → let p = parts_of m own fate step in length here ≡ suc (before_carrying p) → (get_or here (before_carrying p) silent).why ≡ found →
    let ts = plain_tells act tell p.settled now in ((by_moves m own fate step).join (here ++ ts)).why ≡ first_why found (get_or ts 0 silent).why
listed_as m own fate (Sets at values) now found here l e = kept here [] 0 found l e
listed_as m own fate (Shows at) now found here l e = kept here [] 0 found l e
listed_as m own fate (Seals body tuple app rtag) now found here l e = kept here [] 0 found l e
listed_as m own fate (Writes b app body) now found here l e = by m.mode.dix l e where
  by : (dix : Bool) → let p = write_parts m b app body own dix in length here ≡ suc (before_carrying p) → (get_or here (before_carrying p) silent).why ≡ found →
      let ts = plain_tells act tell p.settled now in (get_or (here ++ ts) (carried_by dix) silent).why ≡ first_why found (get_or ts 0 silent).why
  by true l e = kept here (silent ∷ []) 2 found l e
  by false l e = kept here [] 0 found l e
listed_as m own fate (WritesPi b frame) now found here l e = kept here (silent ∷ []) 1 found l e
listed_as m own fate (Reads b owner to) now found [] l e = absurd (omega (arith, l))
listed_as m own fate (Reads b owner to) now found (x ∷ []) l e = ap (λ w. first_why w (tell (settle (route m b) owner (lands_in owner m.mode.dix to own) fate) now).why) e
listed_as m own fate (Reads b owner to) now found (x ∷ y ∷ here) l e = absurd (omega (arith, l))
listed_as m own fate (Alters dev lba change) now found here l e = kept here [] 0 found l e

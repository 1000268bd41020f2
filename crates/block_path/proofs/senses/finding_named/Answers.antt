use Rattle.std.proofs.Common.{◌≡◌, Bool, true, false, eqb, if◌then◌else◌, Some, None, refl, sym}
use Rattle.std.proofs.lemmas.Bool.{eqb-true, ne_eqb}
use Rattle.pi_tuple.specs.declared.checks.Check.{Check}
use Rattle.pi_tuple.specs.declared.checks.Check.TheVariants.{Guard, AppTag, RefTag}
use Rattle.sense_codes.specs.declared.Sense.{Sense}
use Rattle.sense_codes.specs.declared.layer.Layer.{Layer}
use Rattle.sense_codes.specs.declared.layer.Layer.TheVariants.{Adapter, Target}
use Rattle.sense_codes.specs.Checks.{Tells, key_of}
use Rattle.block_path.specs.Senses.{check_of, finding_of, layer_of}
use Rattle.block_path.proofs.senses.finding_named.Goals as goal

-- the sense tells of no check of any layer
abbrev TellsNone : Sense → Type 0
TellsNone s = (l : Layer) → (c : Check) → Tells l c s → ⊥

no_layer : (s : Sense) (c : Check) → TellsNone s → ((l : Layer) → s.key ≡ key_of l → Tells l c s) → layer_of s.key c ≡ None
no_layer s c none tells = rw (ne_eqb s.key 5 (λ k. none Adapter c (tells Adapter k)), ne_eqb s.key 11 (λ k. none Target c (tells Target k))) refl

no_check : (t u v : Bool) (s : Sense) → eqb s.ascq 1 ≡ t → eqb s.ascq 2 ≡ u → eqb s.ascq 3 ≡ v → s.asc ≡ 0x10 → TellsNone s →
    finding_of s.key (if t then Some Guard else (if u then Some AppTag else (if v then Some RefTag else None))) ≡ None
no_check true u v s p q r a none = no_layer s Guard none (λ l k. record { key = k; asc = a; ascq = eqb-true s.ascq 1 p })
no_check false true v s p q r a none = no_layer s AppTag none (λ l k. record { key = k; asc = a; ascq = eqb-true s.ascq 2 q })
no_check false false true s p q r a none = no_layer s RefTag none (λ l k. record { key = k; asc = a; ascq = eqb-true s.ascq 3 r })
no_check false false false s p q r a none = refl

not_named : (t : Bool) (s : Sense) → eqb s.asc 0x10 ≡ t → TellsNone s → (if t then finding_of s.key (check_of s.ascq) else None) ≡ None
not_named true s p none = no_check (eqb s.ascq 1) (eqb s.ascq 2) (eqb s.ascq 3) s refl refl refl (eqb-true s.asc 0x10 p) none
not_named false s p none = refl

pub returns-in-None : goal.returns-in-None
returns-in-None c =
    let none : TellsNone c.args.sense = λ l k t. (let e = c.in-None.ensures.only l k t in cc) in
    sym (not_named (eqb c.args.sense.asc 0x10) c.args.sense refl none)

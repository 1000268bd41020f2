-- A request that finds a block failed at the medium names it.
use Rattle.std.proofs.Common.{◌≡◌, ℕ, zero, suc, ◌+◌, Bool, true, false, eqb, ◌&&◌, ◌||◌, List, [], ◌∷◌, ◌++◌, drop, get_or, replicate, Option, Some, None, refl, sym, ◌∙◌, arith}
use Rattle.std.specs.List.{list_any}
use Rattle.std.proofs.lemmas.Bool.{eq-eqb, false≢true}
use Rattle.bio_core.specs.declared.fate.Why.{Why}
use Rattle.bio_core.specs.declared.fate.Why.TheVariants.{Medium}
use Rattle.block_path.specs.Senses.{is_medium_why}
use Rattle.stack_ops.specs.Ops.{first_virt}
use Rattle.stack_ops.specs.declared.op.Op.{Op}
use Rattle.stack_ops.specs.declared.reply.BadBlock.{BadBlock}
use Rattle.stack_ops.specs.declared.reply.Reply.{Reply}
use Rattle.stack_ops.specs.declared.reply.Reply.TheVariants.{Silent}
use Rattle.walk_laws.specs.ScriptWalk.{bad_from, whole_or_bad}
use Rattle.mirror_volume.specs.Inner.{puts}
use Rattle.mirror_volume.specs.LegRuns.{LegRun, replies_of}
use Rattle.mirror_volume.specs.Spared.{fails_on_leg, lists_medium, names_medium}

or-true : (a b : Bool) → b ≡ true → (a || b) ≡ true
or-true true b e = refl
or-true false b e = e

first-true : (a b : Bool) → a ≡ true → (a || b) ≡ true
first-true true b e = refl
first-true false b e = absurd (false≢true e)

-- it is the block, and it failed at the medium
abbrev hits : (first v : ℕ) → BadBlock → Bool
hits first v b = eqb (first + b.k) v && is_medium_why b.why

any-hits : (first v j : ℕ) (whys : List (Option Why)) (k : ℕ) → get_or whys k None ≡ Some Medium → first + (j + k) ≡ v → list_any (hits first v) (bad_from j whys) ≡ true
any-hits first v j [] k e q = absurd cc
any-hits first v j (None ∷ whys) zero e q = absurd cc
any-hits first v j (None ∷ whys) (suc k) e q = any-hits first v (suc j) whys k e (omega (arith, q))
any-hits first v j (Some why ∷ whys) zero e q =
    let w : why ≡ Medium = cc in
    first-true (eqb (first + j) v && is_medium_why why) (list_any (hits first v) (bad_from (suc j) whys))
    ((λ i. eq-eqb (first + j) v (omega (arith, q)) i && is_medium_why (w i)))
any-hits first v j (Some why ∷ whys) (suc k) e q =
    or-true (eqb (first + j) v && is_medium_why why) (list_any (hits first v) (bad_from (suc j) whys)) (any-hits first v (suc j) whys k e (omega (arith, q)))

whole-hits : (first v : ℕ) (bad : List BadBlock) → list_any (hits first v) bad ≡ true → lists_medium first v (whole_or_bad bad) ≡ true
whole-hits first v [] e = absurd (false≢true e)
whole-hits first v (b ∷ bad) e = e

pub lists-it : (first v k : ℕ) (whys : List (Option Why)) → get_or whys k None ≡ Some Medium → first + k ≡ v → lists_medium first v (whole_or_bad (bad_from 0 whys)) ≡ true
lists-it first v k whys e q = whole-hits first v (bad_from 0 whys) (any-hits first v 0 whys k e (omega (arith, q)))

-- behind its puts
pub names-it : (v page pages : ℕ) (bytes : List ℕ) (op : Op) (reply : Reply) → lists_medium (first_virt op) v reply ≡ true → names_medium v (puts page pages bytes ++ (op ∷ [])) (replicate pages Silent ++ (reply ∷ [])) ≡ true
names-it v page zero bytes op reply e = first-true (lists_medium (first_virt op) v reply) false e
names-it v page (suc q) bytes op reply e = names-it v (suc page) q (drop 4096 bytes) op reply e

-- ---- of some requests

pub fails-first : (v : ℕ) (xs ys : List LegRun) → fails_on_leg v (xs ++ ys) ≡ false → fails_on_leg v xs ≡ false
fails-first v [] ys e = refl
fails-first v (x ∷ xs) ys e = by (names_medium v x.own.ops (replies_of x)) e (λ h. fails-first v xs ys h) where
  by : (c : Bool) → (c || fails_on_leg v (xs ++ ys)) ≡ false → (fails_on_leg v (xs ++ ys) ≡ false → fails_on_leg v xs ≡ false) → (c || fails_on_leg v xs) ≡ false
  by true e rest = absurd (false≢true (sym e))
  by false e rest = rest e

pub fails-last : (v : ℕ) (xs ys : List LegRun) → fails_on_leg v (xs ++ ys) ≡ false → fails_on_leg v ys ≡ false
fails-last v [] ys e = e
fails-last v (x ∷ xs) ys e = by (names_medium v x.own.ops (replies_of x)) e (λ h. fails-last v xs ys h) where
  by : (c : Bool) → (c || fails_on_leg v (xs ++ ys)) ≡ false → (fails_on_leg v (xs ++ ys) ≡ false → fails_on_leg v ys ≡ false) → fails_on_leg v ys ≡ false
  by true e rest = absurd (false≢true (sym e))
  by false e rest = rest e

pub one-fails : (v : ℕ) (r : LegRun) (runs : List LegRun) → names_medium v r.own.ops (replies_of r) ≡ true → fails_on_leg v (r ∷ runs) ≡ true
one-fails v r runs e = first-true (names_medium v r.own.ops (replies_of r)) (fails_on_leg v runs) e

pub rest-fails : (v : ℕ) (r : LegRun) (runs : List LegRun) → fails_on_leg v runs ≡ true → fails_on_leg v (r ∷ runs) ≡ true
rest-fails v r runs e = or-true (names_medium v r.own.ops (replies_of r)) (fails_on_leg v runs) e

-- of a request that is a script of its own
pub names-one : (v : ℕ) (ops : List Op) (replies : List Reply) (op : Op) (reply : Reply) → ops ≡ op ∷ [] → replies ≡ reply ∷ [] → lists_medium (first_virt op) v reply ≡ true → names_medium v ops replies ≡ true
names-one v ops replies op reply e f h = (λ i. names_medium v (e i) (f i)) ∙ first-true (lists_medium (first_virt op) v reply) false h

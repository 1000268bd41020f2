-- The bad blocks of a request, the first before all.
use Rattle.std.proofs.Common.{◌≡◌, ℕ, suc, List, [], ◌∷◌, Option, Some, None, refl, sym, ap, ◌∙◌}
use Rattle.bio_core.specs.declared.fate.Why.{Why}
use Rattle.stack_ops.specs.declared.reply.BadBlock.{BadBlock}
use Rattle.walk_laws.specs.ScriptWalk.{bad_from}

-- the first bad block of a list is this one
pub record BeginsWith (k : ℕ) (w : Why) (bad : List BadBlock) : Type 0 where
  pub more : List BadBlock
  pub is : bad ≡ record { k = k; why = w } ∷ more

pub head_quiet : (j : ℕ) (why : Option Why) (whys : List (Option Why)) → bad_from j (why ∷ whys) ≡ [] → (why ≡ None) × (bad_from (suc j) whys ≡ [])
head_quiet j None whys e = (refl, e)
head_quiet j (Some why) whys e = absurd (cc)

pub none_ahead : (j : ℕ) (why : Option Why) (whys : List (Option Why)) → why ≡ None → bad_from j (why ∷ whys) ≡ bad_from (suc j) whys
none_ahead j why whys e = ap (λ w. bad_from j (w ∷ whys)) e

pub bad_ahead : (j : ℕ) (why : Option Why) (w : Why) (whys : List (Option Why)) → why ≡ Some w → BeginsWith j w (bad_from j (why ∷ whys))
bad_ahead j why w whys e = record { more = bad_from (suc j) whys; is = ap (λ w. bad_from j (w ∷ whys)) e }

pub begins_same : (k : ℕ) (w : Why) (bad other : List BadBlock) → bad ≡ other → BeginsWith k w bad → BeginsWith k w other
begins_same k w bad other e h = record { more = h.more; is = sym e ∙ h.is }

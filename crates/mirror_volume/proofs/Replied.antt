-- What is found of each block, by the reply of a request's own script.
use Rattle.std.proofs.Common.{◌≡◌, ℕ, zero, suc, List, [], ◌∷◌, ◌++◌, length, set, replicate, Option, Some, None, refl, sym, ap, ◌∙◌, arith, append_assoc}
use Rattle.std.proofs.lemmas.List.{length-append}
use Rattle.bio_core.specs.declared.fate.Why.{Why}
use Rattle.stack_ops.specs.declared.reply.BadBlock.{BadBlock}
use Rattle.stack_ops.specs.declared.reply.Reply.{Reply}
use Rattle.stack_ops.specs.declared.reply.Reply.TheVariants.{Silent}
use Rattle.walk_laws.specs.ScriptWalk.{bad_from, whole_or_bad}
use Rattle.mirror_volume.specs.LegRuns.{found_by, found_in, noted}

set-here : {X : Type 0} (before : List X) (x y : X) (after : List X) (k : ℕ) → length before ≡ k → set (before ++ (x ∷ after)) k y ≡ before ++ (y ∷ after)
set-here [] x y after zero e = refl
set-here [] x y after (suc k) e = absurd (omega (arith, e))
set-here (b ∷ before) x y after zero e = absurd (omega (arith, e))
set-here (b ∷ before) x y after (suc k) e = ap (λ rest. b ∷ rest) (set-here before x y after k (omega (arith, e)))

-- the blocks before k were noted already
noted-from : (k : ℕ) (before whys : List (Option Why)) → length before ≡ k → noted (bad_from k whys) (before ++ replicate (length whys) None) ≡ before ++ whys
noted-from k before [] e = refl
noted-from k before (None ∷ whys) e =
    ap (noted (bad_from (suc k) whys)) (sym (append_assoc before (None ∷ []) (replicate (length whys) None)))
    ∙ noted-from (suc k) (before ++ (None ∷ [])) whys (length-append before (None ∷ []) ∙ omega (arith, e))
    ∙ append_assoc before (None ∷ []) whys
noted-from k before (Some why ∷ whys) e =
    ap (noted (bad_from (suc k) whys)) (set-here before None (Some why) (replicate (length whys) None) k e ∙ sym (append_assoc before (Some why ∷ []) (replicate (length whys) None)))
    ∙ noted-from (suc k) (before ++ (Some why ∷ [])) whys (length-append before (Some why ∷ []) ∙ omega (arith, e))
    ∙ append_assoc before (Some why ∷ []) whys

in-reply : (n : ℕ) (bad : List BadBlock) → found_in n (whole_or_bad bad) ≡ noted bad (replicate n None)
in-reply n [] = refl
in-reply n (b ∷ bad) = refl

last-reply : (n pages : ℕ) (reply : Reply) → found_by n (replicate pages Silent ++ (reply ∷ [])) ≡ found_in n reply
last-reply n zero reply = refl
last-reply n (suc zero) reply = refl
last-reply n (suc (suc pages)) reply = last-reply n (suc pages) reply

-- behind the replies of its puts
pub found-last : (n pages : ℕ) (whys : List (Option Why)) → length whys ≡ n → found_by n (replicate pages Silent ++ (whole_or_bad (bad_from 0 whys) ∷ [])) ≡ whys
found-last n pages whys e =
    last-reply n pages (whole_or_bad (bad_from 0 whys)) ∙ in-reply n (bad_from 0 whys)
    ∙ ap (λ k. noted (bad_from 0 whys) (replicate k None)) (sym e) ∙ noted-from 0 [] whys refl

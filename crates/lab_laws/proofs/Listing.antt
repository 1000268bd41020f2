-- What replies list, and the first block that one run lists and the other doesn't.
use Rattle.std.proofs.Common.{◌≡◌, ℕ, ◌+◌, List, [], ◌∷◌, map, Some, None, refl, ap, ◌∙◌}
use Rattle.bio_core.specs.declared.fate.Why.{Why}
use Rattle.stack_ops.specs.declared.reply.BadBlock.{BadBlock}
use Rattle.stack_ops.specs.declared.reply.Reply.{Reply}
use Rattle.block_path.specs.Blocks.{ActAnswer}
use Rattle.walk_laws.specs.ScriptWalk.{bad_from, request_reply, whole_or_bad}
use Rattle.script_laws.specs.Keeping.{Each}
use Rattle.lab_laws.proofs.Bad.{BeginsWith}
use Rattle.flip_sweep.specs.Verdicts.{first_found, first_other, found_of, listed, or_else}
use Rattle.flip_sweep.specs.declared.verdict.Verdict.TheVariants.{Found}

-- a reply lists none
abbrev pub IsQuiet : Reply → Type 0
IsQuiet r = listed r ≡ []

pub lists_bad : (bad : List BadBlock) → listed (whole_or_bad bad) ≡ bad
lists_bad [] = refl
lists_bad (x ∷ bad) = refl

pub lists_request : (answers : List ActAnswer) → listed (request_reply answers) ≡ bad_from 0 (map (λ (a : ActAnswer). a.why) answers)
lists_request answers = lists_bad (bad_from 0 (map (λ (a : ActAnswer). a.why) answers))

-- the first block that nobody listed before
other_first : (was now : List BadBlock) (k : ℕ) (w : Why) → was ≡ [] → BeginsWith k w now → first_other was now ≡ Some (record { k = k; why = w })
other_first was now k w e h = ap (λ was. first_other was now) e ∙ ap (first_other []) h.is

-- replies of which the first lists this block, and nothing was listed
pub found_first : (i k : ℕ) (w : Why) (r0 r1 : Reply) (was now : List Reply) → IsQuiet r0 → BeginsWith k w (listed r1) → first_found i (r0 ∷ was) (r1 ∷ now) ≡ Some (Found i k w)
found_first i k w r0 r1 was now q h = ap (λ b. or_else (found_of i b) (first_found (i + 1) was now)) (other_first (listed r0) (listed r1) k w q h)

other_none : (was now : List BadBlock) → now ≡ [] → first_other was now ≡ None
other_none was now e = ap (first_other was) e

-- the first is the same, and lists none
pub found_behind : (i : ℕ) (r0 r1 : Reply) (was now : List Reply) → IsQuiet r0 → r1 ≡ r0 → first_found i (r0 ∷ was) (r1 ∷ now) ≡ first_found (i + 1) was now
found_behind i r0 r1 was now q e = ap (λ b. or_else (found_of i b) (first_found (i + 1) was now)) (other_none (listed r0) (listed r1) (ap listed e ∙ q))

-- of the same replies nothing is found where they list none
pub found_nowhere : (i : ℕ) (rs : List Reply) → Each IsQuiet rs → first_found i rs rs ≡ None
found_nowhere i [] h = refl
found_nowhere i (r ∷ rs) h = found_behind i r r rs rs h.0 refl ∙ found_nowhere (i + 1) rs h.1

-- What each of some runs is of.
use Rattle.std.proofs.Common.{List, [], ◌∷◌, ◌++◌}
use Rattle.script_text.specs.declared.script.Script.{Script}
use Rattle.mirror_volume.specs.LegRuns.{AllOwn, LegRun}

pub all_own-append : (P : Script → Type 0) (xs ys : List LegRun) → AllOwn P xs → AllOwn P ys → AllOwn P (xs ++ ys)
all_own-append P [] ys h k = k
all_own-append P (x ∷ xs) ys h k = (h.0, all_own-append P xs ys h.1 k)

pub all_own-so : (P Q : Script → Type 0) (xs : List LegRun) → ((s : Script) → P s → Q s) → AllOwn P xs → AllOwn Q xs
all_own-so P Q [] f h = tt
all_own-so P Q (x ∷ xs) f h = (f x.own h.0, all_own-so P Q xs f h.1)

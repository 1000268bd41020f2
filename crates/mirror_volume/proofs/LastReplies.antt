-- The last op of a script that is run lists blocks of its request alone.
use Rattle.std.proofs.Common.{ℕ, suc, ◌≡◌, ◌+◌, ◌≤◌, List, [], ◌∷◌, ◌++◌, drop, get_or, length, map, Option, Some, None, ◌∙◌, arith}
use Rattle.std.proofs.lemmas.List.{length-map}
use Rattle.bio_core.specs.declared.fate.Why.{Why}
use Rattle.block_path.specs.Acts.{State, act, tell}
use Rattle.block_path.specs.Blocks.{ActAnswer, Sent}
use Rattle.block_path.specs.Serial.{plain, plain_tells}
use Rattle.block_path.proofs.PathLaws.{long_tells}
use Rattle.stack_ops.specs.declared.op.Op.{Op}
use Rattle.stack_ops.specs.declared.reply.BadBlock.{BadBlock}
use Rattle.stack_ops.specs.declared.reply.Reply.{Reply}
use Rattle.stack_ops.specs.declared.reply.Reply.TheVariants.{Silent}
use Rattle.walk_laws.specs.ScriptWalk.{bad_from, request_reply, whole_or_bad}
use Rattle.walk_laws.specs.Settings.{Setting}
use Rattle.walk_laws.specs.Steps.{Step, each_from}
use Rattle.walk_laws.proofs.InSteps.{each_length}
use Rattle.run_laws.specs.TakenWalk.{taken_act, taken_acts, taken_reply, taken_replies}
use Rattle.mirror_volume.specs.LegRuns.{AreBelow, Fits, LastFits}

below-whys : (n k : ℕ) (whys : List (Option Why)) → k + length whys ≤ n → AreBelow n (bad_from k whys)
below-whys n k [] h = tt
below-whys n k (None ∷ whys) h = below-whys n (suc k) whys (omega (arith, h))
below-whys n k (Some why ∷ whys) h = (omega (arith, h), below-whys n (suc k) whys (omega (arith, h)))

fits-list : (n : ℕ) (bad : List BadBlock) → AreBelow n bad → Fits n (whole_or_bad bad)
fits-list n [] h = tt
fits-list n (b ∷ bad) h = h

fits-answers : (n : ℕ) (answers : List ActAnswer) → length answers ≡ n → Fits n (request_reply answers)
fits-answers n answers e =
    let whys = map (λ (a : ActAnswer). a.why) answers in
    let l : length whys ≡ length answers = length-map answers (λ (a : ActAnswer). a.why) in
    fits-list n (bad_from 0 whys) (below-whys n 0 whys (omega (arith, e, l)))

module _ (m : Setting) (es : List Sent) where
  pub last-fits : (i : ℕ) (before : List Op) (op : Op) (n : ℕ) (replies : List Reply) (s : State)
      → ((j : ℕ) (reply : Reply) (now : State) → Fits n (taken_reply op reply (plain_tells act tell (taken_acts m es j op reply) now)))
      → LastFits (taken_replies m es i (before ++ (op ∷ [])) replies s) n
  last-fits i [] op n replies s h = h i (get_or replies 0 Silent) s
  last-fits i (x ∷ []) op n replies s h =
      last-fits (suc i) [] op n (drop 1 replies) (plain act (taken_acts m es i x (get_or replies 0 Silent)) s) h
  last-fits i (x ∷ y ∷ before) op n replies s h =
      last-fits (suc i) (y ∷ before) op n (drop 1 replies) (plain act (taken_acts m es i x (get_or replies 0 Silent)) s) h

pub asks-steps : (m : Setting) (es : List Sent) (n : ℕ) (reply : Reply) (s : State) (f : ℕ → Step) → Fits n (request_reply (plain_tells act tell (map (taken_act m es reply) (each_from 0 n f)) s))
asks-steps m es n reply s f =
    let acts = map (taken_act m es reply) (each_from 0 n f) in
    fits-answers n (plain_tells act tell acts s) (long_tells acts s ∙ length-map (each_from 0 n f) (taken_act m es reply) ∙ each_length 0 n f)

-- The walk of ops is the walk of all their acts, in any order.
use Rattle.std.proofs.Common.{◌≡◌, ℕ, suc, List, [], ◌∷◌, ◌++◌, length, take, drop, refl, sym, ap, ◌∙◌, subst}
use Rattle.stack_ops.specs.declared.op.Op.{Op}
use Rattle.block_path.specs.Acts.{State, act, conflict, tell}
use Rattle.block_path.specs.Blocks.{ActAnswer}
use Rattle.block_path.specs.Serial.{Leads, all_done, none_done, plain, plain_tells}
use Rattle.block_path.proofs.Acts.{commutes}
use Rattle.block_path.proofs.Serial.{any_whole_order}
use Rattle.block_path.proofs.InTurn.{plain_append}
use Rattle.walk_laws.specs.CalmRun.{IsCalmRun}
use Rattle.walk_laws.specs.PlainMap.{plain_map, plain_replies}
use Rattle.walk_laws.specs.ScriptWalk.{acts_from, acts_of, replies_by, replies_from, reply_of, script_replies, script_walk, walk_from}
use Rattle.walk_laws.specs.Settings.{Setting}
use Rattle.walk_laws.specs.UnderMap.{IsUnder, opened}
use Rattle.walk_laws.proofs.CalmRuns.{is_plain}

pub first_tells : {S A R : Type 0} (act : A → S → S) (tell : A → S → R) (xs ys : List A) (s : S) → take (length xs) (plain_tells act tell (xs ++ ys) s) ≡ plain_tells act tell xs s
first_tells act tell [] ys s = refl
first_tells act tell (x ∷ xs) ys s = ap (λ rs. tell x s ∷ rs) (first_tells act tell xs ys (act x s))

pub other_tells : {S A R : Type 0} (act : A → S → S) (tell : A → S → R) (xs ys : List A) (s : S) → drop (length xs) (plain_tells act tell (xs ++ ys) s) ≡ plain_tells act tell ys (plain act xs s)
other_tells act tell [] ys s = refl
other_tells act tell (x ∷ xs) ys s = other_tells act tell xs ys (act x s)

pub acts_walk : (m : Setting) (i : ℕ) (ops : List Op) (s : State) → plain act (acts_from m i ops) s ≡ walk_from m i ops s
acts_walk m i [] s = refl
acts_walk m i (op ∷ ops) s = plain_append act (acts_of m i op) (acts_from m (suc i) ops) s ∙ acts_walk m (suc i) ops (plain act (acts_of m i op) s)

pub acts_reply : (m : Setting) (i : ℕ) (ops : List Op) (s : State) → replies_by m i ops (plain_tells act tell (acts_from m i ops) s) ≡ replies_from m i ops s
acts_reply m i [] s = refl
acts_reply m i (op ∷ ops) s =
    let mine = acts_of m i op in
    let others = acts_from m (suc i) ops in
    let first = ap (reply_of (m.fails i) op) (first_tells act tell mine others s) in
    let rest = ap (replies_by m (suc i) ops) (other_tells act tell mine others s) ∙ acts_reply m (suc i) ops (plain act mine s) in
    cc

pub in_any_order : (m : Setting) (ops : List Op) (places : List ℕ) (before after : State) (answers : List ActAnswer) →
    Leads act tell conflict (acts_from m 1 ops) places (none_done (acts_from m 1 ops)) before (all_done answers) after →
    (after ≡ script_walk m ops before) × (replies_by m 1 ops answers ≡ script_replies m ops before)
in_any_order m ops places before after answers l =
    let h = any_whole_order act tell conflict commutes (acts_from m 1 ops) places before answers after l in
    (h.0 ∙ acts_walk m 1 ops before, ap (replies_by m 1 ops) h.1 ∙ acts_reply m 1 ops before)

pub calmly_in_any_order : (m : Setting) (ops : List Op) (places : List ℕ) (before after : State) (answers : List ActAnswer) → IsCalmRun m ops before →
    Leads act tell conflict (acts_from m 1 ops) places (none_done (acts_from m 1 ops)) before (all_done answers) after →
    (replies_by m 1 ops answers ≡ plain_replies m ops (opened m before)) × IsUnder m (plain_map m ops (opened m before)) before.blocks after
calmly_in_any_order m ops places before after answers run l =
    let h = in_any_order m ops places before after answers l in
    let p = is_plain m ops before run in
    (h.1 ∙ p.replies, subst (IsUnder m (plain_map m ops (opened m before)) before.blocks) (sym h.0) p.under)

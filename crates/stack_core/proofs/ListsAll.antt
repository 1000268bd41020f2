-- A bad block that is kept is listed once all ops have ended.
use Rattle.std.proofs.Common.{◌≡◌, ◌<◌, ◌≤◌, ℕ, zero, suc, ◌+◌, false, List, [], ◌∷◌, length, drop, get_or, Option, Some, None, refl, sym, ap, ◌∙◌, ⊎_elim, arith}
use Rattle.std.proofs.lemmas.Bool.{cases_lt, false≢true}
use Rattle.std.proofs.lemmas.List.{get_or_past}
use Rattle.bio_core.specs.declared.fate.Why.{Why}
use Rattle.rig_api.specs.Log.{LogEntry}
use Rattle.rig_api.specs.Telling.{Standing}
use Rattle.stack_ops.specs.declared.op.Op.{Op}
use Rattle.stack_ops.specs.declared.op.Op.TheVariants.{Fetch, FetchPi, Fill, Overwrite, Put, Seal, Show, Wait, Write, WritePi}
use Rattle.stack_ops.specs.declared.reply.BadBlock.{BadBlock}
use Rattle.stack_ops.specs.declared.reply.Reply.{Reply}
use Rattle.stack_ops.specs.declared.reply.Reply.TheVariants.{Silent}
use Rattle.stack_laws.specs.Plan.{request_at}
use Rattle.stack_laws.specs.View.{View, op_at}
use Rattle.stack_laws.proofs.Enabled.{stuck}
use Rattle.stack_steps.specs.Does.{Holds}
use Rattle.block_path.specs.Acts.{State}
use Rattle.stack_walk_laws.specs.Passed.{fates_of, recorded, told, bad_from, whole_or_bad, Setting, each_from}
use Rattle.stack_core.specs.declared.stack.Stack.{Stack}
use Rattle.stack_walk_laws.specs.Moved.{why_of}
use Rattle.stack_core.specs.OnRecord.{IsKeptBad, ListsNone, bad_blocks}
use Rattle.stack_walk_laws.specs.Sheets.{op_in}
use Rattle.stack_core.specs.Stacks.{IsFinished, IsStack, plan_in}
use Rattle.stack_core.specs.Walking.{IsReply, Walks, why_in}
use Rattle.stack_core.proofs.Context.{over_told}
use Rattle.stack_core.proofs.Walked.{sound, stand}

listed_there : (at k c q : ℕ) (f : ℕ → Option Why) (why : Why) → q < c → f (k + q) ≡ Some why → bad_from at (each_from k c f) ≡ [] → ⊥
listed_there at k zero q f why l e h = absurd (omega arith)
listed_there at k (suc c) zero f why l e h =
    let z : k + 0 ≡ k = omega arith in
    let here : f k ≡ Some why = ap f (sym z) ∙ e in
    let x = sym (ap (λ o. bad_from at (o ∷ each_from (suc k) c f)) here) ∙ h in
    cc
listed_there at k (suc c) (suc q) f why l e h = by (f k) h (λ x. listed_there (suc at) (suc k) c q f why (omega arith) (ap f shift ∙ e) x)
  where
    shift : suc k + q ≡ k + suc q
    shift = omega arith

    by : (o : Option Why) → bad_from at (o ∷ each_from (suc k) c f) ≡ [] → (bad_from (suc at) (each_from (suc k) c f) ≡ [] → ⊥) → ⊥
    by None x more = more x
    by (Some w) x more = cc

pub lists_bad : (bad : List BadBlock) → bad_blocks (whole_or_bad bad) ≡ bad
lists_bad [] = refl
lists_bad (b ∷ bad) = refl

request_lists : (bad : List BadBlock) (reply : Reply) → reply ≡ whole_or_bad bad → bad_blocks reply ≡ [] → bad ≡ []
request_lists bad reply e h = sym (lists_bad bad) ∙ (ap bad_blocks (sym e) ∙ h)

reply_lists : (op : Op) (whys : List (Option Why)) (reply : Reply) → 0 < fates_of op → IsReply op whys reply → bad_blocks reply ≡ [] → bad_from 0 whys ≡ []
reply_lists (Fill seg byte) whys reply l r h = absurd (omega arith)
reply_lists (Put page off bytes) whys reply l r h = absurd (omega arith)
reply_lists (Show seg) whys reply l r h = absurd (omega arith)
reply_lists (Seal n body tuples app rtag) whys reply l r h = absurd (omega arith)
reply_lists (Write v n body app) whys reply l r h = request_lists (bad_from 0 whys) reply r h
reply_lists (Fetch v n body) whys reply l r h = request_lists (bad_from 0 whys) reply r h
reply_lists (WritePi v n body tuples) whys reply l r h = request_lists (bad_from 0 whys) reply r h
reply_lists (FetchPi v n body tuples) whys reply l r h = request_lists (bad_from 0 whys) reply r h
reply_lists (Overwrite dev lba change) whys reply l r h = absurd (omega arith)
reply_lists Wait whys reply l r h = absurd (omega arith)

op_there : (ops : List Op) (i : ℕ) → 0 < fates_of (op_in ops i) → i < length ops
op_there ops i h =
    ⊎_elim
    (λ (l : i < length ops). l)
    (λ (l : length ops ≤ i). let e = ap fates_of (get_or_past ops i Wait l) in absurd (omega arith))
    (cases_lt i (length ops))

pub lists_all : (m : Setting) (n : ℕ) (opening : State) (first : ℕ) (s : Stack) (st : Standing) (log : List LogEntry) → IsStack s → Walks m n opening first s st log → IsFinished s →
    ListsNone s.replies.items → (v : View) → Holds (plan_in s.sheet) s.machine v → IsKeptBad v.ops s.kept.starts.items s.kept.held.items → ⊥
lists_all m n opening first s st log k w none lists v x b =
    let p = plan_in s.sheet in
    let ops = s.sheet.ops in
    let es = recorded m (drop first log) in
    let o = over_told m es n opening s.sheet s.adapter s.host w.over in
    let stands = stand (told m es) n opening es w.left s k o w.walks in
    let own = sound (told m es) n opening es w.left s k o w.walks in
    let count : (request_at p b.op).count ≡ fates_of (op_in ops b.op) = stands.plan.count b.op in
    let many = stands.plan.many in
    let own_many = own.ops in
    let long = x.shows.sound.lengths b.op in
    let inside : b.k < length (op_at v b.op).settled = ⊎_elim (λ (l : b.k < length (op_at v b.op).settled). l) (λ (l : length (op_at v b.op).settled ≤ b.k). let y = get_or_past (op_at v b.op).settled b.k false l in absurd (false≢true (sym y ∙ b.settled))) (cases_lt b.k (length (op_at v b.op).settled)) in
    let there = op_there ops b.op (omega arith) in
    let replied = w.walks.follow.replied b.op there (stuck p w.walks.view own (none w.walks.view w.walks.holds) b.op (omega arith)) in
    let clear = reply_lists (op_in ops b.op) _ (get_or s.replies.items b.op Silent) (omega arith) replied (lists b.op) in
    let z : 0 + b.k ≡ b.k = omega arith in
    listed_there 0 0 (fates_of (op_in ops b.op)) b.k (why_in s.kept.starts.items s.kept.held.items b.op) b.why (omega arith) (ap (why_in s.kept.starts.items s.kept.held.items b.op) z ∙ ap why_of b.is_bad) clear

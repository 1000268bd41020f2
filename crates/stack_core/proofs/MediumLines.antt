-- The lines of a finished stack that name the medium though no fault line says so are at most as many as what failed there.
use Rattle.std.proofs.Common.{◌≡◌, ◌<◌, ◌≤◌, ℕ, zero, suc, ◌+◌, List, [], ◌∷◌, length, drop, get_or, Option, ◌⊎◌, inl, inr, refl, ap, subst, ◌∙◌, arith}
use Rattle.bio_core.specs.declared.fate.Fate.{Fate}
use Rattle.bio_core.specs.declared.fate.Fate.TheVariants.{Good, Bad, Untouched}
use Rattle.bio_core.specs.declared.fate.Why.{Why}
use Rattle.fault_schedule.specs.declared.Label.{Label}
use Rattle.fault_schedule.specs.declared.fault.FaultLine.{FaultLine}
use Rattle.rig_api.specs.Log.{LogEntry}
use Rattle.rig_api.specs.Telling.{Standing}
use Rattle.stack_ops.specs.declared.op.Op.{Op}
use Rattle.stack_ops.specs.declared.op.Op.TheVariants.{Fetch, FetchPi, Fill, Overwrite, Put, Seal, Show, Wait, Write, WritePi}
use Rattle.stack_ops.specs.declared.reply.Reply.{Reply}
use Rattle.stack_ops.specs.declared.reply.Reply.TheVariants.{Silent, Medium as MediumReply}
use Rattle.stack_laws.proofs.Enabled.{stuck}
use Rattle.block_path.specs.Acts.{State}
use Rattle.stack_walk_laws.specs.Passed.{fates_of, recorded, told, bad_from, whole_or_bad, Setting, each_from}
use Rattle.stack_core.specs.declared.stack.Stack.{Stack}
use Rattle.stack_core.specs.Mediums.{HasCounted, RoseBy, held_from, label_kept, listed_unscheduled, medium_replies, one_unscheduled, unscheduled_from, unscheduled_mediums}
use Rattle.stack_walk_laws.specs.Moved.{why_of}
use Rattle.stack_core.specs.OnRecord.{bad_blocks}
use Rattle.stack_walk_laws.specs.Settling.{blocks_before}
use Rattle.stack_walk_laws.specs.Sheets.{op_in}
use Rattle.stack_core.specs.Stacks.{IsFinished, IsStack, plan_in}
use Rattle.stack_core.specs.Walking.{IsReply, Walks}
use Rattle.stack_core.proofs.Context.{over_told}
use Rattle.stack_walk_laws.proofs.Counts.{blocks-more}
use Rattle.stack_walk_laws.proofs.Facts.{request-at}
use Rattle.stack_core.proofs.MediumFates.{label_there}
use Rattle.stack_core.proofs.Mediums.{rose_less}
use Rattle.stack_core.proofs.Walked.{sound, stand}
use Rattle.stack_core.proofs.ListsAll.{lists_bad}

-- ---- the blocks of one op

module _ (faults : List FaultLine) (label : ℕ → Label) where
  at_place : (held : List Fate) (x y : ℕ) → held_from faults label y (drop x held) ≡ one_unscheduled faults (label y) (get_or held x Untouched) + held_from faults label (suc y) (drop (suc x) held)
  at_place [] zero y = omega arith
  at_place [] (suc x) y = omega arith
  at_place (h ∷ held) zero y = refl
  at_place (h ∷ held) (suc x) y = at_place held x y

  one_listed : (op k : ℕ) (f : Fate) (whys : List (Option Why)) → listed_unscheduled faults op (bad_from k (why_of f ∷ whys)) ≡ one_unscheduled faults (record { op = op; k = k }) f + listed_unscheduled faults op (bad_from (suc k) whys)
  one_listed op k Good whys = omega arith
  one_listed op k (Bad why) whys = refl
  one_listed op k Untouched whys = omega arith

  -- the blocks from this place on, with their labels
  abbrev behind : List Fate → ℕ → ℕ
  behind held x = held_from faults label x (drop x held)

  each_listed : (held : List Fate) (op at k n : ℕ) → ((q : ℕ) → k ≤ q → q < k + n → label (at + q) ≡ record { op = op; k = q }) → listed_unscheduled faults op (bad_from k (each_from k n (λ q. why_of (get_or held (at + q) Untouched)))) + behind held (at + k + n) ≡ behind held (at + k)
  each_listed held op at k zero there = let z : at + k + 0 ≡ at + k = omega arith in rw z (omega arith)
  each_listed held op at k (suc n) there =
      let here = one_listed op k (get_or held (at + k) Untouched) (each_from (suc k) n (λ q. why_of (get_or held (at + q) Untouched))) in
      let more = each_listed held op at (suc k) n (λ q a b. there q (omega (arith, a)) (omega (arith, b))) in
      let place = at_place held (at + k) (at + k) in
      let own = ap (λ x. one_unscheduled faults x (get_or held (at + k) Untouched)) (there k (omega arith) (omega arith)) in
      let y = ap (behind held) (shift at k n) in
      let z = ap (behind held) (next at k) in
      omega (arith, here, more, place, own, y, z)
    where
      shift : (at k n : ℕ) → at + k + suc n ≡ at + suc k + n
      shift at k n = omega arith

      next : (at k : ℕ) → suc (at + k) ≡ at + suc k
      next at k = omega arith

  fewer : (held : List Fate) (x : ℕ) → behind held (x + 0) ≤ behind held x
  fewer held x = let z : x + 0 ≡ x = omega arith in rw z (omega arith)

  -- a request's
  request_listed : (held : List Fate) (op at n : ℕ) (reply : Reply) → ((q : ℕ) → q < n → label (at + q) ≡ record { op = op; k = q }) → reply ≡ whole_or_bad (bad_from 0 (each_from 0 n (λ q. why_of (get_or held (at + q) Untouched)))) →
      listed_unscheduled faults op (bad_blocks reply) + behind held (at + n) ≤ behind held at
  request_listed held op at n reply there e =
      let a = ap (listed_unscheduled faults op) (ap bad_blocks e ∙ lists_bad _) in
      let b = each_listed held op at 0 n (λ q k l. there q (omega (arith, l))) in
      let y = ap (λ x. behind held (x + n)) (same at) in
      let z = ap (behind held) (same at) in
      omega (arith, a, b, y, z)
    where
      same : (at : ℕ) → at + 0 ≡ at
      same at = omega arith

  quiet_listed : (held : List Fate) (op at : ℕ) (reply : Reply) → bad_blocks reply ≡ [] → listed_unscheduled faults op (bad_blocks reply) + behind held (at + 0) ≤ behind held at
  quiet_listed held op at reply e = let a = ap (listed_unscheduled faults op) e in let b = fewer held at in omega (arith, a, b)

  op_listed : (held : List Fate) (i at : ℕ) (op : Op) (reply : Reply) → ((q : ℕ) → q < fates_of op → label (at + q) ≡ record { op = i; k = q }) → IsReply op (each_from 0 (fates_of op) (λ q. why_of (get_or held (at + q) Untouched))) reply →
      listed_unscheduled faults i (bad_blocks reply) + behind held (at + fates_of op) ≤ behind held at
  op_listed held i at (Fill seg byte) reply there r = quiet_listed held i at reply (ap bad_blocks r)
  op_listed held i at (Put page off bytes) reply there r = quiet_listed held i at reply (ap bad_blocks r)
  op_listed held i at (Show seg) reply there r = quiet_listed held i at reply (ap bad_blocks r.1)
  op_listed held i at (Seal n body tuples app rtag) reply there r = quiet_listed held i at reply (ap bad_blocks r)
  op_listed held i at (Write v n body app) reply there r = request_listed held i at n reply there r
  op_listed held i at (Fetch v n body) reply there r = request_listed held i at n reply there r
  op_listed held i at (WritePi v n body tuples) reply there r = request_listed held i at n reply there r
  op_listed held i at (FetchPi v n body tuples) reply there r = request_listed held i at n reply there r
  op_listed held i at (Overwrite dev lba change) reply there r = quiet_listed held i at reply (over r)
    where
      over : (reply ≡ Silent) ⊎ (reply ≡ MediumReply) → bad_blocks reply ≡ []
      over (inl e) = ap bad_blocks e
      over (inr e) = ap bad_blocks e
  op_listed held i at Wait reply there r = quiet_listed held i at reply (ap bad_blocks r)

  -- ---- all ops, one after another

  all_listed : (held : List Fate) (first : ℕ) (ops : List Op) (replies : List Reply) (at : ℕ → ℕ) → length replies ≡ length ops → ((i q : ℕ) → i < length ops → q < fates_of (op_in ops i) → label (at i + q) ≡ record { op = first + i; k = q }) →
      ((i : ℕ) → i < length ops → IsReply (op_in ops i) (each_from 0 (fates_of (op_in ops i)) (λ q. why_of (get_or held (at i + q) Untouched))) (get_or replies i Silent)) →
      ((i : ℕ) → i + 1 < length ops → at (suc i) ≡ at i + fates_of (op_in ops i)) → unscheduled_from faults first replies ≤ behind held (at 0) + medium_replies replies
  all_listed held first [] [] at l there r s = omega arith
  all_listed held first [] (x ∷ replies) at l there r s = absurd (omega arith)
  all_listed held first (op ∷ ops) [] at l there r s = absurd (omega arith)
  all_listed held first (op ∷ []) (x ∷ []) at l there r s =
      let z : first + 0 ≡ first = omega arith in
      let a = op_listed held first (at 0) op x (λ q b. there 0 q (omega arith) b ∙ ap (λ n. record { op = n; k = q }) z) (r 0 (omega arith)) in
      omega (arith, a)
  all_listed held first (op ∷ []) (x ∷ (y ∷ replies)) at l there r s = absurd (omega arith)
  all_listed held first (op ∷ (op' ∷ ops)) (x ∷ replies) at l there r s =
      let z : first + 0 ≡ first = omega arith in
      let a = op_listed held first (at 0) op x (λ q b. there 0 q (omega arith) b ∙ ap (λ n. record { op = n; k = q }) z) (r 0 (omega arith)) in
      let b = all_listed held (suc first) (op' ∷ ops) replies (λ i. at (suc i)) (omega arith) (λ i q h b. there (suc i) q (omega arith) b ∙ ap (λ n. record { op = n; k = q }) (next first i)) (λ i h. r (suc i) (omega arith)) (λ i h. s (suc i) (omega arith)) in
      let c = ap (behind held) (s 0 (omega arith)) in
      omega (arith, a, b, c)
    where
      next : (first i : ℕ) → first + suc i ≡ suc first + i
      next first i = omega arith

  dropped : (held : List Fate) (x y : ℕ) → held_from faults label (y + x) (drop x held) ≤ held_from faults label y held
  dropped [] zero y = omega arith
  dropped [] (suc x) y = omega arith
  dropped (h ∷ held) zero y = let z : y + 0 ≡ y = omega arith in rw z (omega arith)
  dropped (h ∷ held) (suc x) y = let z : y + suc x ≡ suc y + x = omega arith in let r = dropped held x (suc y) in rw z (omega (arith, r))

-- by the count of faults
pub lines_rose : (m : Setting) (n : ℕ) (opening : State) (begun : ℕ) (faults : List FaultLine) (first : ℕ) (s : Stack) (st : Standing) (log : List LogEntry) (count : ℕ) → IsStack s → Walks m n opening begun s st log → IsFinished s →
    HasCounted faults first s count → RoseBy (unscheduled_mediums faults s.replies.items) first count
lines_rose m n opening begun faults first s st log count k w none x =
    let p = plan_in s.sheet in
    let ops = s.sheet.ops in
    let ios = s.sheet.ios.items in
    let es = recorded m (drop begun log) in
    let o = over_told m es n opening s.sheet s.adapter s.host w.over in
    let stands = stand (told m es) n opening es w.left s k o w.walks in
    let own = sound (told m es) n opening es w.left s k o w.walks in
    let many = stands.plan.many in
    let own_many = own.ops in
    let fixed = k.fixed.ops in
    let long = k.replies in
    let held = s.kept.held.items in
    let at = λ (i : ℕ). get_or s.kept.starts.items i 0 in
    let replied = λ (i : ℕ) (l : i < length ops). w.walks.follow.replied i l (stuck p w.walks.view own (none w.walks.view w.walks.holds) i (omega arith)) in
    let starts = λ (i : ℕ) (l : i + 1 < length ops).
    (let a = k.kept.begin i (omega arith) in
    let b = k.kept.begin (suc i) (omega arith) in
    let g : suc i ≡ i + 1 = omega arith in
    let c = ap (blocks_before ios) g ∙ blocks-more ios i (omega arith) in
    let d = stands.plan.count i in
    let e = ap (λ r. r.count) (request-at ios i) in
    let f : get_or s.kept.starts.items (suc i) 0 ≡ get_or s.kept.starts.items i 0 + fates_of (op_in ops i) = omega (arith, a, b, c, d, e) in f) in
    let there = λ (i q : ℕ) (l : i < length ops) (b : q < fates_of (op_in ops i)).
    (let d = stands.plan.count i in
    let e = ap (λ r. r.count) (request-at ios i) in
    ap (λ x. label_kept 1 ios (x + q)) (k.kept.begin i (omega arith)) ∙ label_there 1 ios i q (omega arith) (omega (arith, d, e, b))) in
    let all = all_listed faults (label_kept 1 ios) held 1 ops s.replies.items at (omega arith) there replied starts in
    let d = dropped faults (label_kept 1 ios) held (at 0) 0 in
    let z : 0 + at 0 ≡ at 0 = omega arith in
    let d' = subst (λ y. held_from faults (label_kept 1 ios) y (drop (at 0) held) ≤ held_from faults (label_kept 1 ios) 0 held) z d in
    rose_less _ _ first count count (omega (arith, all, d')) (omega arith) x.rose

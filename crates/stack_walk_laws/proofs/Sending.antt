-- Statuses after a group is sent, and after its command is completed.
use Rattle.std.proofs.Common.{◌≡◌, ◌⊎◌, ℕ, zero, suc, ◌+◌, ◌<◌, ◌≤◌, false, List, [], ◌∷◌, ◌++◌, length, get_or, map, Option, refl, sym, ap, subst, ◌∙◌, arith, ⊎_elim}
use Rattle.std.proofs.lemmas.Bool.{cases_lt}
use Rattle.bio_core.specs.declared.fate.Fate.{Fate}
use Rattle.bio_core.specs.declared.fate.Fate.TheVariants.{Good, Bad, Untouched}
use Rattle.bio_core.specs.declared.fate.Why.{Why}
use Rattle.dix_adapter.specs.Groups.{blocks_in}
use Rattle.stack_laws.proofs.Passed.{total-one}
use Rattle.stack_laws.specs.Blocks.{blocks, times}
use Rattle.stack_laws.specs.Plan.{Plan, request_at}
use Rattle.stack_laws.specs.Sound.{Sound, in_groups, in_queues}
use Rattle.stack_laws.specs.View.{Command, OpView, View, group_at, no_op, op_at, queue_at}
use Rattle.stack_laws.proofs.Keeps.{queue-there}
use Rattle.stack_walk_laws.specs.Sending.{with_fates}
use Rattle.stack_walk_laws.specs.Slots.{Cut, Status}
use Rattle.stack_walk_laws.specs.Statuses.{fate_at, fate_in, first_fate, given, id_of, sent_as, standing, status_in}
use Rattle.stack_walk_laws.proofs.Fates.{fate_none, in_more, in_none, other_fate}
use Rattle.stack_walk_laws.proofs.Groups.{AllNumbered, ids_are, sent_given, sent_nobody}
use Rattle.stack_walk_laws.proofs.WalksStanding.{is_sent, queued}

-- a block of a group stands in the queues
pub in_its_queue : (v : View) (d i j q : ℕ) → i < length (queue_at v d) → times j q (blocks (group_at v d i)) ≤ in_queues j q v.queues
in_its_queue v d i j q l =
    let a = total-one (λ g. times j q (blocks g)) (queue_at v d) i [] l in
    let b = total-one (in_groups j q) v.queues d [] (queue-there v d i l) in
    omega (arith, a, b)

sent_cut : (f : Fate) → sent_as f ≡ given f Cut
sent_cut Good = refl
sent_cut (Bad why) = refl
sent_cut Untouched = refl

-- the status of a block, by what became of it
abbrev by_fate : Plan → View → (ℕ → ℕ → List ℕ) → (ℕ → ℕ → Option Why) → (j q : ℕ) → Fate → Status
by_fate p v shown why j q f = standing (request_at p j).count (op_at v j) (shown j q) (why j q) f q

module _ (p : Plan) (v : View) (s : Sound p v) (shown : ℕ → ℕ → List ℕ) (why : ℕ → ℕ → Option Why) where
  module _ (d i : ℕ) (l : i < length (queue_at v d)) (fates : List Fate) (n : AllNumbered (blocks_in (group_at v d i))) (once : (j q : ℕ) → times j q (blocks (group_at v d i)) ≤ 1) where
    abbrev command : Command
    command = record { dev = d; bios = group_at v d i; fates = fates; completed = false }

    ids : map id_of (blocks_in (group_at v d i)) ≡ blocks (group_at v d i)
    ids = ids_are (group_at v d i)

    pub sent_statuses : (w : View) → w.ops ≡ v.ops → w.commands ≡ v.commands ++ (command ∷ []) → (j q : ℕ) → status_in p w shown why j q ≡ with_fates (blocks_in (group_at v d i)) fates (status_in p v shown why) j q
    sent_statuses w o c zero q = sym (sent_nobody (blocks_in (group_at v d i)) fates (status_in p v shown why) q n)
    sent_statuses w o c (suc j) q =
        let f = fate_at j q (blocks (group_at v d i)) fates in
        let old = fate_in j q v.commands in
        let a : status_in p w shown why (suc j) q ≡ by_fate p v shown why j q (first_fate old f)
        = ap (λ (x : List OpView). standing (request_at p j).count (get_or x j no_op) (shown j q) (why j q) (fate_in j q w.commands) q) o ∙ ap (by_fate p v shown why j q) (ap (fate_in j q) c ∙ in_more j q v.commands command) in
        let b : with_fates (blocks_in (group_at v d i)) fates (status_in p v shown why) (suc j) q ≡ given f (by_fate p v shown why j q old)
        = sent_given (blocks_in (group_at v d i)) fates (status_in p v shown why) j q n (subst (λ l. times j q l ≤ 1) (sym ids) (once j q)) ∙ ap (λ l. given (fate_at j q l fates) (by_fate p v shown why j q old)) ids in
        a ∙ (⊎_elim
        (λ (e : 0 < times j q (blocks (group_at v d i))).
        let t = in_its_queue v d i j q l in
        let r = queued p v j q s (omega arith) in
        let z = in_none j q v.commands r.1 in
        rw z (is_sent (request_at p j).count (op_at v j) (shown j q) (why j q) f q r.0.waits r.0.within r.0.unsettled r.0.is_cut
        ∙ (sent_cut f ∙ ap (given f) (sym (is_sent (request_at p j).count (op_at v j) (shown j q) (why j q) Untouched q r.0.waits r.0.within r.0.unsettled r.0.is_cut)))))
        (λ (e : times j q (blocks (group_at v d i)) ≤ 0). let z = fate_none j q (blocks (group_at v d i)) fates (omega arith) in rw z (ap (by_fate p v shown why j q) (other_fate old)))
        (cases_lt 0 (times j q (blocks (group_at v d i)))) ∙ sym b)

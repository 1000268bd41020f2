-- A command is completed: all that holds between two steps goes on.
use Rattle.std.proofs.Common.{◌≡◌, ◌<◌, ◌≤◌, ℕ, zero, suc, ◌+◌, ◌-◌, true, false, List, [], ◌∷◌, length, get_or, set, map, Option, refl, sym, ap, subst, ◌∙◌, arith, ⊎_elim}
use Rattle.std.proofs.lemmas.Bool.{cases_lt, false≢true}
use Rattle.std.proofs.lemmas.List.{get_or_past}
use Rattle.std.proofs.lemmas.List.Elements.{All-get_or}
use Rattle.pi_tuple.specs.declared.checks.PiType.{PiType}
use Rattle.bio_core.specs.Bios.{Block}
use Rattle.bio_core.specs.declared.fate.Fate.{Fate}
use Rattle.bio_core.specs.declared.fate.Fate.TheVariants.{Good, Bad, Untouched}
use Rattle.bio_core.specs.declared.fate.Why.{Why}
use Rattle.bio_core.specs.declared.request.Io.{Io}
use Rattle.dix_adapter.specs.Groups.{blocks_in}
use Rattle.range_gate.specs.Gates.{has_ended, is_waiting}
use Rattle.merge_queue.specs.Groups.{size}
use Rattle.stack_ops.specs.declared.op.Op.{Op}
use Rattle.stack_ops.specs.declared.reply.Reply.TheVariants.{Silent}
use Rattle.stack_laws.specs.Blocks.{blocks, place_of, settled_of, times}
use Rattle.stack_laws.specs.Formed.{Formed, IsGroup}
use Rattle.stack_laws.specs.Plan.{Plan}
use Rattle.stack_laws.specs.Sound.{Sound}
use Rattle.stack_laws.specs.Steps.{settle}
use Rattle.stack_laws.specs.View.{Command, OpView, View, command_at, is_admitted, no_command, no_op, op_at}
use Rattle.stack_laws.proofs.Keeps.{command-there}
use Rattle.stack_laws.proofs.Ops.{grows-settle}
use Rattle.stack_laws.proofs.Enabled.{all-at}
use Rattle.block_path.specs.declared.mode.Mode.{Mode}
use Rattle.block_path.specs.Acts.{State}
use Rattle.block_path.specs.Blocks.{Sent}
use Rattle.block_path.specs.Routes.{host_type}
use Rattle.stack_walk_laws.proofs.Passed.{each_same}
use Rattle.stack_walk_laws.specs.Passed.{fates, fates_of, Setting}
use Rattle.stack_walk_laws.specs.Sending.{is_carried}
use Rattle.stack_walk_laws.specs.Slots.{Status}
use Rattle.stack_walk_laws.specs.Spots.{op_in}
use Rattle.stack_walk_laws.specs.Statuses.{after_all, fate_at, id_of, sent_as, with_settled}
use Rattle.stack_walk_laws.proofs.Completing.{completed_statuses, once, were_out, were_sent}
use Rattle.stack_walk_laws.proofs.Fates.{done_with}
use Rattle.stack_walk_laws.proofs.Groups.{AllNumbered, ids_are, settled_given}
use Rattle.stack_walk_laws.proofs.Letting.{lets_of}
use Rattle.stack_core.specs.Courses.{Course}
use Rattle.stack_walk_laws.specs.Moved.{why_of}
use Rattle.stack_walk_laws.specs.Settled.{AllSettled, KeptFates}
use Rattle.stack_walk_laws.specs.Settling.{AreFates}
use Rattle.stack_walk_laws.specs.Sheets.{io_at}
use Rattle.stack_core.specs.Walking.{Data, Follow, GoesOn, IsReply, shown_in, status_of, why_in}
use Rattle.stack_walk_laws.proofs.Chained.{Each, all_each, one_place}
use Rattle.stack_core.proofs.Courses.{same_by}
use Rattle.stack_walk_laws.proofs.Facts.{place-is, there as there_is}
use Rattle.stack_core.proofs.FollowsComplete.{AllLets, NotAt, all_settled, at, each_keeps, each_whole}
use Rattle.stack_core.proofs.FollowsGroup.{AllLie, Places, all_lie, all_of, all_sent, apart_of, is_this}
use Rattle.stack_core.proofs.Spotted.{Stands}

after_carried : (f : Fate) (w : Option Why) (old : Status) → is_carried (after_all f w old) ≡ false → is_carried old ≡ false
after_carried Good w old e = absurd (false≢true (sym e))
after_carried (Bad x) w old e = absurd (false≢true (sym e))
after_carried Untouched w old e = e

pub all_numbered : (m : Setting) (ios : List Io) (bs : List Block) → AllLie m ios bs → AllNumbered bs
all_numbered m ios [] l = tt
all_numbered m ios (b ∷ bs) l = (l.0.numbered, all_numbered m ios bs l.1)

module _ {course : Course} (over : Setting) (n : ℕ) (opening : State) (es : List Sent) (p : Plan) (ops : List Op) (ios : List Io) (d : Data) (v : View) (now : State) (g : Stands over n (length opening.logs) p ops ios d.pool) (s : Sound p v) (fm : Formed p v) (h : Follow course over n opening es p ops d v now)
    (pl : Places over p ops ios) (kept : AreFates ios d.starts d.held) (found : fates ops ≤ length opening.fates) (j : ℕ) (live : (command_at v j).completed ≡ false) where
  abbrev cmd : Command
  cmd = command_at v j

  abbrev bs : List Block
  bs = blocks_in cmd.bios

  abbrev status : ℕ → ℕ → Status
  status = status_of p d v

  group : IsGroup p cmd.dev cmd.bios
  group = All-get_or (λ c. IsGroup p c.dev c.bios) v.commands j no_command (command-there v j live) fm.commands

  lie : AllLie over ios bs
  lie = all_lie over p ops ios pl cmd.dev cmd.bios group.named

  numbered : AllNumbered bs
  numbered = all_numbered over ios bs lie

  ids : map id_of bs ≡ blocks cmd.bios
  ids = ids_are cmd.bios

  module _ (new : KeptFates) (w : View) (o : w.ops ≡ settle (settled_of (blocks cmd.bios) cmd.fates) v.ops) (c : w.commands ≡ set v.commands j (done_with cmd)) (mode : Mode) (ty : PiType) (me : mode ≡ over.mode) (te : ty ≡ host_type over.ty) (sizes : size cmd.bios ≡ length cmd.fates)
      (settles : AllSettled mode ty ios d.starts cmd.bios cmd.fates (length cmd.bios) (record { pages = d.pool; held = d.held }) new) where
    abbrev old : KeptFates
    old = record { pages = d.pool; held = d.held }

    abbrev why : ℕ → ℕ → Option Why
    why = why_in d.starts d.held

    abbrev next : ℕ → ℕ → Option Why
    next = why_in d.starts new.held

    chain : Each over.mode (host_type over.ty) ios d.starts bs cmd.fates old new
    chain = subst (λ x. Each over.mode x ios d.starts bs cmd.fates old new) te (subst (λ x. Each x ty ios d.starts bs cmd.fates old new) me (all_each mode ty ios d.starts cmd.bios cmd.fates old new sizes settles))

    -- what doesn't depend on what is kept next
    once_is : (a q : ℕ) → times a q (map id_of bs) ≤ 1
    once_is a q = subst (λ l. times a q l ≤ 1) (sym ids) (once p v s (shown_in d.replies) why why (λ a q e. refl) j live numbered w o c a q)

    out_is : (a q : ℕ) → 1 ≤ times a q (map id_of bs) → get_or (op_at v a).settled q false ≡ false
    out_is a q l = (were_out p v s (shown_in d.replies) why why (λ a q e. refl) j live numbered w o c a q (subst (λ x. 1 ≤ times a q x) ids l)).unsettled

    begun_is : (a q : ℕ) → 1 ≤ times a q (map id_of bs) → is_waiting (op_at v a).phase ≡ false
    begun_is a q l = (were_out p v s (shown_in d.replies) why why (λ a q e. refl) j live numbered w o c a q (subst (λ x. 1 ≤ times a q x) ids l)).waits

    sent_is : (a q : ℕ) → 1 ≤ times a q (map id_of bs) → status (suc a) q ≡ sent_as (fate_at a q (map id_of bs) cmd.fates)
    sent_is a q l = were_sent p v s (shown_in d.replies) why why (λ a q e. refl) j live numbered w o c a q (subst (λ x. 1 ≤ times a q x) ids l) ∙ ap (λ x. sent_as (fate_at a q x cmd.fates)) (sym ids)

    -- a settled block isn't in the command, so what became of it stays
    marked_in : (a q : ℕ) → get_or (op_at v a).settled q false ≡ true → (q < (io_at ios a).count) × (a < length ios)
    marked_in a q e =
        let l = s.lengths a in
        let k = pl.count a in
        let in_list : q < length (op_at v a).settled = ⊎_elim (λ (x : q < length (op_at v a).settled). x) (λ (x : length (op_at v a).settled ≤ q). let y = get_or_past (op_at v a).settled q false x in absurd (false≢true (sym y ∙ e))) (cases_lt q (length (op_at v a).settled)) in
        (omega arith, there_is ios a (omega arith))

    not_at_marked : (a q : ℕ) (cs : List Block) → get_or (op_at v a).settled q false ≡ true → AllLie over ios cs → ((b t : ℕ) → 1 ≤ times b t (map id_of cs) → get_or (op_at v b).settled t false ≡ false) → NotAt d.starts (get_or d.starts a 0 + q) cs
    not_at_marked a q [] e l f = tt
    not_at_marked a q (b ∷ cs) e l f =
        let x = marked_in a q e in
        let u = l.0.numbered in
        let t = l.0.there in
        let z = place-is b.op u in
        let this = is_this b in (
          (λ (y : at d.starts b ≡ get_or d.starts a 0 + q).
              let r = one_place ios d.starts d.held (b.op - 1) b.k a q kept (omega arith) x.1 l.0.within x.0 y in
              let k = f (place_of b.op) b.k (omega arith) in
              let e' : get_or (op_at v (place_of b.op)).settled b.k false ≡ true = ap (λ i. get_or (op_at v i).settled b.k false) (z ∙ r.0) ∙ (ap (λ i. get_or (op_at v a).settled i false) r.1 ∙ e) in
              false≢true (sym k ∙ e')),
          not_at_marked a q cs e l.1 (λ b' t' g'. f b' t' (omega arith)),
        )

    stays : (a q : ℕ) → get_or (op_at v a).settled q false ≡ true → next a q ≡ why a q
    stays a q e = ap why_of (each_keeps course over n opening es p ops ios d.starts found (get_or d.starts a 0 + q) bs cmd.fates old new (not_at_marked a q bs e lie out_is) chain)

    lets : (cs : List Block) → AllLie over ios cs → ((b t : ℕ) → 1 ≤ times b t (map id_of cs) → is_waiting (op_at v b).phase ≡ false) → AllLets course over n opening es p ops ios d.starts found status cs
    lets [] l f = tt
    lets (b ∷ cs) l f =
        let u = l.0.numbered in
        let t = l.0.there in
        let m = pl.many in
        let z = place-is b.op u in
        let this = is_this b in
        let k : is_waiting (op_at v (b.op - 1)).phase ≡ false = ap (λ i. is_waiting (op_at v i).phase) (sym z) ∙ f (place_of b.op) b.k (omega arith) in
        let vl = s.ops in
        let pm = g.plan.many in
        (lets_of over n (length opening.logs) p ops g.ground g.plan v s (shown_in d.replies) why (b.op - 1) (omega arith) (λ i l' x. s.order i (b.op - 1) l' (omega arith) k x), lets cs l.1 (λ b' t' g'. f b' t' (omega arith)))

    phases : (a : ℕ) → (op_at w a).phase ≡ (op_at v a).phase
    phases a = ap (λ (x : List OpView). (get_or x a no_op).phase) o ∙ (grows-settle (settled_of (blocks cmd.bios) cmd.fates) v.ops a).phase

    pub completes : GoesOn course over n opening es p ops d (record d { pool = new.pages; held = new.held }) v w now.blocks
    completes =
        let apart = apart_of bs once_is in
        let sent = all_sent over ios bs cmd.fates status lie once_is sent_is in
        let all = all_of over p ops ios d.starts d.held bs cmd.fates status pl kept lie apart sent in
        let on = all_settled course over n opening es p ops ios d.starts found bs cmd.fates status old new now kept all (lets bs lie begun_is) g h.whole h.bytes h.follows chain in
        let same = completed_statuses p v s (shown_in d.replies) why next stays j live numbered w o c in
        record {
          after = on.after;
          follow = record {
            bytes = on.bytes;
            whole = each_whole course over n opening es p ops ios d.starts found bs cmd.fates old new chain h.whole;
            follows = same_by course over n ops opening on.after (with_settled bs cmd.fates next status) (status_of p (record d { pool = new.pages; held = new.held }) w) es same on.follows;
            begun = λ a e. h.begun a (sym (ap is_admitted (phases a)) ∙ e);
            replied = λ a l e. (let e' = sym (ap has_ended (phases a)) ∙ e in
                let cnt = g.plan.count a in
                let lg = s.lengths a in
                subst (λ x. IsReply (op_in ops a) x (get_or d.replies a Silent)) (each_same 0 (fates_of (op_in ops a)) (why a) (next a) (λ q x y. sym (stays a q (all-at (op_at v a).settled q (s.ended a e') (omega arith))))) (h.replied a l e'));
            failed = λ a l e. h.failed a l (sym (ap has_ended (phases a)) ∙ e);
            suited = λ a l e. h.suited a l (sym (ap has_ended (phases a)) ∙ e);
          };
          blocks = on.same_blocks;
          none_before = λ none. λ a q e. none a q (quiet a q e);
        }
      where
        quiet : (a q : ℕ) → is_carried (status_of p (record d { pool = new.pages; held = new.held }) w a q) ≡ false → is_carried (status a q) ≡ false
        quiet zero q e = refl
        quiet (suc a) q e =
            let same = completed_statuses p v s (shown_in d.replies) why next stays j live numbered w o c (suc a) q in
            let given = settled_given bs cmd.fates next status a q numbered (once_is a q) in
            after_carried (fate_at a q (map id_of bs) cmd.fates) (next a q) (status (suc a) q) (sym (ap is_carried (same ∙ given)) ∙ e)

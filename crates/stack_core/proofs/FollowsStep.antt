-- A request is admitted, or a piece of it is cut: all that holds between two steps goes on.
use Rattle.std.proofs.Common.{◌≡◌, ◌<◌, ◌≤◌, ℕ, suc, ◌+◌, true, false, List, length, get_or, set, refl, sym, ap, subst, ◌∙◌, arith, ⊎_elim}
use Rattle.std.specs.Prelude.{None}
use Rattle.std.proofs.lemmas.Bool.{cases_eq, cases_lt}
use Rattle.std.proofs.lemmas.List.{get_or-set_other, get_or-set_same}
use Rattle.page_pool.specs.Pages.{AreWhole}
use Rattle.pi_guard.specs.declared.GuardKind.{GuardKind}
use Rattle.pi_tuple.specs.declared.checks.PiType.{PiType}
use Rattle.bio_core.specs.declared.request.Io.{Io}
use Rattle.range_gate.specs.Gates.{has_ended, is_waiting}
use Rattle.range_gate.specs.declared.phase.Phase.{Phase}
use Rattle.range_gate.specs.declared.phase.Phase.TheVariants.{Waiting, Admitted as OpAdmitted, Ended}
use Rattle.stack_ops.specs.declared.op.Op.{Op}
use Rattle.stack_laws.specs.Plan.{Plan, request_at}
use Rattle.stack_laws.specs.Sound.{Sound}
use Rattle.stack_laws.specs.View.{OpView, View, is_admitted, no_op, op_at}
use Rattle.stack_laws.proofs.Keeps.{admitted-waits}
use Rattle.block_path.specs.Acts.{State, act}
use Rattle.block_path.specs.Blocks.{Sent}
use Rattle.block_path.specs.Routes.{host_type}
use Rattle.block_path.specs.Serial.{plain}
use Rattle.stack_walk_laws.specs.Passed.{fates_of, find, Setting, block_of, route}
use Rattle.stack_walk_laws.specs.Pieces.{all_made, with_all}
use Rattle.stack_walk_laws.specs.Sending.{NoneBefore, is_carried}
use Rattle.stack_walk_laws.specs.Slots.{Admitted, Cut, Status, Waits}
use Rattle.stack_walk_laws.specs.Spots.{spots_from, steps_in}
use Rattle.stack_walk_laws.specs.Statuses.{fate_in}
use Rattle.stack_walk_laws.proofs.Letting.{lets_of}
use Rattle.stack_walk_laws.proofs.WalksMoving.{admitted_statuses, cut_statuses}
use Rattle.stack_walk_laws.proofs.Spots.{steps_count}
use Rattle.stack_walk_laws.proofs.WalksStanding.{is_uncut, not_cut, unmarked, waits}
use Rattle.stack_walk_laws.proofs.WalksTogether.{all_may, with_out}
use Rattle.stack_core.specs.Done.{WriteMade, WriteMapped}
use Rattle.stack_walk_laws.specs.Sheets.{io_at, op_in}
use Rattle.stack_core.specs.Walking.{Data, Follow, GoesOn, shown_in, status_of, why_in}
use Rattle.stack_core.specs.Courses.{Course}
use Rattle.stack_core.proofs.Courses.{admitted_by, cut_by, same_by}
use Rattle.stack_core.proofs.FollowsEnd.{none_same}
use Rattle.stack_core.proofs.FollowsMove.{cut_pages, cut_stays, made_pages, made_stays}
use Rattle.stack_core.proofs.Spotted.{Stands}

-- blocks that aren't carried before and after leave what is on record
none_with : (m : Setting) (ops : List Op) (i : ℕ) (l : i < length ops) (k c : ℕ) (next was : Status) (status : ℕ → ℕ → Status) (es : List Sent) → k + c ≤ length (steps_in m ops i) → ((q : ℕ) → k ≤ q → q < k + c → status (suc i) q ≡ was) → is_carried was ≡ false →
    NoneBefore status es → NoneBefore (with_all (spots_from m ops i k c) next status) es
none_with m ops i l k c next was status es w h b n j q e =
    ⊎_elim
    (λ (f : j ≡ suc i). ⊎_elim
    (λ (x : q < k). aside (λ (g : j ≡ suc i) (y : k ≤ q) (z : q < k + c). omega arith))
    (λ (x : k ≤ q). ⊎_elim
    (λ (y : q < k + c). n j q (ap is_carried (ap (λ t. status t q) f ∙ h q x y) ∙ b))
    (λ (y : k + c ≤ q). aside (λ (g : j ≡ suc i) (u : k ≤ q) (z : q < k + c). omega arith))
    (cases_lt q (k + c)))
    (cases_lt q k))
    (λ (ne : j ≡ suc i → ⊥). aside (λ (g : j ≡ suc i) (y : k ≤ q) (z : q < k + c). ne g))
    (cases_eq j (suc i))
  where
    aside : (j ≡ suc i → k ≤ q → q < k + c → ⊥) → find (record { op = j; k = q }) es ≡ None
    aside out = n j q (sym (ap is_carried (with_out m ops i l k c next status j q w out)) ∙ e)

pub waiting_not_ended : (h : Phase) → is_waiting h ≡ true → has_ended h ≡ false
waiting_not_ended Waiting e = refl
waiting_not_ended OpAdmitted e = cc
waiting_not_ended Ended e = cc

module _ {course : Course} (over : Setting) (n : ℕ) (opening : State) (es : List Sent) (p : Plan) (ops : List Op) (ios : List Io) (d : Data) (v : View) (now : State) (g : Stands over n (length opening.logs) p ops ios d.pool) (s : Sound p v) (h : Follow course over n opening es p ops d v now)
    (i : ℕ) (l : i < length ops) (li : i < length ios) (lo : i < length v.ops) (count : (request_at p i).count ≡ (io_at ios i).count) (some : 0 < (request_at p i).count) where
  count_is : (request_at p i).count ≡ fates_of (op_in ops i)
  count_is = g.plan.count i

  long : length (steps_in over ops i) ≡ (request_at p i).count
  long = let c = count_is in let k = steps_count over (suc i) (op_in ops i) (omega arith) in omega arith

  abbrev changed : OpView → List OpView
  changed o = set v.ops i o

  other : (o : OpView) (j : ℕ) → (j ≡ i → ⊥) → get_or (changed o) j no_op ≡ op_at v j
  other o j ne = get_or-set_other v.ops i j o no_op ne

  mine : (o : OpView) → get_or (changed o) i no_op ≡ o
  mine o = get_or-set_same v.ops i o no_op lo

  -- an op that goes on and doesn't end leaves the others
  module _ (o : OpView) (pool : List (List ℕ)) (a : is_admitted o.phase ≡ true) where
    goes : has_ended o.phase ≡ false
    goes = by o.phase a where
      by : (x : Phase) → is_admitted x ≡ true → has_ended x ≡ false
      by Waiting e = cc
      by OpAdmitted e = refl
      by Ended e = cc

    begun_on : (j : ℕ) → is_admitted (get_or (changed o) j no_op).phase ≡ true → 0 < (request_at p j).count
    begun_on j e = ⊎_elim (λ (f : j ≡ i). subst (λ x. 0 < (request_at p x).count) (sym f) some) (λ (ne : j ≡ i → ⊥). h.begun j (sym (ap (λ (x : OpView). is_admitted x.phase) (other o j ne)) ∙ e)) (cases_eq j i)

    ended_before : (j : ℕ) → has_ended (get_or (changed o) j no_op).phase ≡ true → (has_ended (op_at v j).phase ≡ true) × (j ≡ i → ⊥)
    ended_before j e =
        ⊎_elim
        (λ (f : j ≡ i). let x : true ≡ false = sym e ∙ (ap (λ y. has_ended (get_or (changed o) y no_op).phase) f ∙ (ap (λ (y : OpView). has_ended y.phase) (mine o) ∙ goes)) in absurd cc)
        (λ (ne : j ≡ i → ⊥). (sym (ap (λ (x : OpView). has_ended x.phase) (other o j ne)) ∙ e, ne))
        (cases_eq j i)

    not_before : (j : ℕ) → has_ended (op_at v i).phase ≡ false → has_ended (get_or (changed o) j no_op).phase ≡ false → has_ended (op_at v j).phase ≡ false
    not_before j was e = ⊎_elim (λ (f : j ≡ i). ap (λ x. has_ended (op_at v x).phase) f ∙ was) (λ (ne : j ≡ i → ⊥). sym (ap (λ (x : OpView). has_ended x.phase) (other o j ne)) ∙ e) (cases_eq j i)

  -- ---- admitted

  pub admits : (w : View) (pool : List (List ℕ)) (kind : GuardKind) (ty : PiType) → is_waiting (op_at v i).phase ≡ true → w.ops ≡ changed (record (op_at v i) { phase = OpAdmitted }) → w.commands ≡ v.commands → Sound p w → AreWhole pool → kind ≡ over.mode.kind → ty ≡ host_type over.ty →
      WriteMade (io_at ios i).dir (io_at ios i).pi kind ty (io_at ios i).body d.pool pool → GoesOn course over n opening es p ops d (record d { pool = pool }) v w now.blocks
  admits w pool kind ty a e c sw whole ek et made =
      let o : OpView = record (op_at v i) { phase = OpAdmitted } in
      let status = status_of p d v in
      let spots = spots_from over ops i 0 (request_at p i).count in
      let at = λ (j : ℕ). ap (λ (x : List OpView). get_or x j no_op) e in
      let mine_is : op_at w i ≡ o = at i ∙ mine o in
      let lets = lets_of over n (length opening.logs) p ops g.ground g.plan v s (shown_in d.replies) (why_in d.starts d.held) i l
      (λ (j : ℕ) (b : j < i) (x : p.conflicts j i ≡ true). sym (ap (λ (y : OpView). has_ended y.phase) (at j ∙ other o j (λ (f : j ≡ i). omega arith))) ∙ sw.order j i b (let t = sw.ops in let u = g.plan.many in omega arith) (ap (λ (y : OpView). is_waiting y.phase) mine_is) x) in
      let ci = count_is in
      let was = λ (q : ℕ) (x : 0 ≤ q) (y : q < 0 + (request_at p i).count). waits (request_at p i).count (op_at v i) (shown_in d.replies i q) (why_in d.starts d.held i q) (fate_in i q v.commands) q a in
      let lg = long in
      let may = all_may over ops i l n (length opening.logs) g.ground status Waits lets 0 (request_at p i).count (omega arith) (omega arith) was in
      let moved = admitted_by course over n ops opening spots now status es may h.follows in
      let same = admitted_statuses p over ops g.plan v w s (shown_in d.replies) (why_in d.starts d.held) i l (λ (j : ℕ) (ne : j ≡ i → ⊥). at j ∙ other o j ne) c a (ap (λ (y : OpView). is_waiting y.phase) mine_is) (ap (λ (y : OpView). y.cut) mine_is) (ap (λ (y : OpView). y.settled) mine_is) some in
      let acts = λ (x : ℕ). spots_from over ops i 0 x in
      let pages = made_pages over n (length opening.logs) p ops ios d.pool g i l li h.whole now h.bytes pool kind ty ek et made in
      let stays = made_stays over n (length opening.logs) p ops ios d.pool g i l li h.whole now h.bytes in
      record {
        after = moved.after;
        follow = record {
          bytes = moved.bytes_are ∙ (ap (λ x. (plain act (all_made over n (acts x)) now).bytes) count ∙ sym pages);
          whole = whole;
          follows = same_by course over n ops opening moved.after (with_all spots Admitted status) (status_of p (record d { pool = pool }) w) es same moved.follows;
          begun = λ j x. begun_on o pool refl j (sym (ap (λ (y : OpView). is_admitted y.phase) (at j)) ∙ x);
          replied = λ j b x. (let t = ended_before o pool refl j (sym (ap (λ (y : OpView). has_ended y.phase) (at j)) ∙ x) in h.replied j b t.0);
          failed = λ j b x. (let t = ended_before o pool refl j (sym (ap (λ (y : OpView). has_ended y.phase) (at j)) ∙ x) in h.failed j b t.0);
          suited = λ j b x. h.suited j b (not_before o pool refl j (waiting_not_ended (op_at v i).phase a) (sym (ap (λ (y : OpView). has_ended y.phase) (at j)) ∙ x));
        };
        blocks = moved.blocks_are ∙ (ap (λ x. (plain act (all_made over n (acts x)) now).blocks) count ∙ stays);
        none_before = λ none. none_same (with_all spots Admitted status) (status_of p (record d { pool = pool }) w) es same (none_with over ops i l 0 (request_at p i).count Admitted Waits status es (omega arith) was refl none);
      }

  -- ---- cut

  pub cuts : (w : View) (pool : List (List ℕ)) (c lba : ℕ) (ty : PiType) → is_admitted (op_at v i).phase ≡ true → w.ops ≡ changed (record (op_at v i) { cut = (op_at v i).cut + c }) → w.commands ≡ v.commands → (op_at v i).cut + c ≤ (request_at p i).count → AreWhole pool → ty ≡ host_type over.ty →
      ((j : ℕ) → j < c → (route over (block_of (suc i) (io_at ios i).first ((op_at v i).cut + j))).lba ≡ lba + j) → WriteMapped (io_at ios i).dir (io_at ios i).pi ty (op_at v i).cut c lba d.pool pool → GoesOn course over n opening es p ops d (record d { pool = pool }) v w now.blocks
  cuts w pool c lba ty a e cs fit whole et lbas mapped =
      let k = (op_at v i).cut in
      let o : OpView = record (op_at v i) { cut = k + c } in
      let status = status_of p d v in
      let spots = spots_from over ops i k c in
      let at = λ (j : ℕ). ap (λ (x : List OpView). get_or x j no_op) e in
      let mine_is : op_at w i ≡ o = at i ∙ mine o in
      let away : is_waiting (op_at v i).phase ≡ false = admitted-waits (op_at v i).phase a in
      let lets = lets_of over n (length opening.logs) p ops g.ground g.plan v s (shown_in d.replies) (why_in d.starts d.held) i l (λ (j : ℕ) (b : j < i) (x : p.conflicts j i ≡ true). s.order j i b lo away x) in
      let ci = count_is in
      let was : (q : ℕ) → k ≤ q → q < k + c → status (suc i) q ≡ Admitted
      = λ (q : ℕ) (x : k ≤ q) (y : q < k + c). (let t = not_cut p v i q s away x (omega arith) in is_uncut (request_at p i).count (op_at v i) (shown_in d.replies i q) (why_in d.starts d.held i q) (fate_in i q v.commands) q away (omega arith) (unmarked (op_at v i) q t.0) x) in
      let lg = long in
      let may = all_may over ops i l n (length opening.logs) g.ground status Admitted lets k c (omega arith) (omega arith) was in
      let moved = cut_by course over n ops opening spots now status es may h.follows in
      let same = cut_statuses p over ops g.plan v w s (shown_in d.replies) (why_in d.starts d.held) i l (λ (j : ℕ) (ne : j ≡ i → ⊥). at j ∙ other o j ne) cs c away (ap (λ (y : OpView). is_waiting y.phase) mine_is ∙ away) (ap (λ (y : OpView). y.cut) mine_is) (ap (λ (y : OpView). y.settled) mine_is) fit some in
      let pages = cut_pages over n (length opening.logs) p ops ios d.pool g i l li h.whole now h.bytes k c (omega arith) pool ty lba et lbas mapped in
      let stays = cut_stays over n (length opening.logs) p ops ios d.pool g i l li h.whole now h.bytes k c (omega arith) in
      record {
        after = moved.after;
        follow = record {
          bytes = moved.bytes_are ∙ sym pages;
          whole = whole;
          follows = same_by course over n ops opening moved.after (with_all spots Cut status) (status_of p (record d { pool = pool }) w) es same moved.follows;
          begun = λ j x. begun_on o pool a j (sym (ap (λ (y : OpView). is_admitted y.phase) (at j)) ∙ x);
          replied = λ j b x. (let t = ended_before o pool a j (sym (ap (λ (y : OpView). has_ended y.phase) (at j)) ∙ x) in h.replied j b t.0);
          failed = λ j b x. (let t = ended_before o pool a j (sym (ap (λ (y : OpView). has_ended y.phase) (at j)) ∙ x) in h.failed j b t.0);
          suited = λ j b x. h.suited j b (not_before o pool a j (goes (op_at v i) pool a) (sym (ap (λ (y : OpView). has_ended y.phase) (at j)) ∙ x));
        };
        blocks = moved.blocks_are ∙ stays;
        none_before = λ none. none_same (with_all spots Cut status) (status_of p (record d { pool = pool }) w) es same (none_with over ops i l k c Cut Admitted status es (omega arith) was refl none);
      }

-- Commands done one after another.
use Rattle.std.proofs.Common.{ℕ, ◌≡◌, ◌+◌, ◌<◌, ◌≤◌, inl, inr, Bool, true, false, ◌||◌, List, [], ◌∷◌, ◌++◌, length, get_or, take, drop, Option, Some, None, refl, sym, ap, subst, ◌∙◌, arith, append-nil, append_assoc}
use Rattle.std.specs.Prelude.{map, not}
use Rattle.std.proofs.lemmas.List.{take-append-drop, take_more}
use Rattle.dix_base.specs.Told.{Calm}
use Rattle.dix_base.proofs.Counts.{never_rose}
use Rattle.rig_api.specs.Target.{Stop, Stored}
use Rattle.rig_api.specs.Telling.{HasCause, unit_at}
use Rattle.rig_api.specs.State.{RigState}
use Rattle.volume_table.specs.declared.device.DeviceInfo.{DeviceInfo}
use Rattle.nvme_front.specs.Answers.{HasNamespaces, IsNvmAnswer, device_of, nvm_answer}
use Rattle.nvme_front.specs.Completions.{is_success}
use Rattle.nvme_front.specs.Refusals.{refusal}
use Rattle.nvme_front.specs.declared.command.NvmCommand.{NvmCommand}
use Rattle.nvme_front.specs.declared.completion.Completion.{Completion}
use Rattle.nvme_command.specs.declared.line.NvmLine.{NvmLine}
use Rattle.nvme_command.specs.declared.session_doing.NvmReply.{NvmReply}
use Rattle.nvme_command.specs.Done.{Adds, AllDone, Came, CameInPart, Lacks, UnitsStay, WasDone, body_given, dev_of, meta_given, replies_over, step_by, step_of, units_over}
use Rattle.nvme_command.specs.Fits.{command_of, device_of_line}
use Rattle.nvme_command.specs.Replies.{LineReply, has_failed, replies_text, reply_line, reply_of}

-- ---- one more

done_more : (ds : List DeviceInfo) (ls : List NvmLine) (rs : List LineReply) (l : NvmLine) (r : LineReply) (a b c : RigState) → AllDone ds ls rs a b → WasDone ds l r b c → AllDone ds (ls ++ (l ∷ [])) (rs ++ (r ∷ [])) a c
done_more ds [] [] l r a b c d w = (c, subst (λ (v : RigState). WasDone ds l r v c) d w, refl)
done_more ds [] (x ∷ rs) l r a b c d w = absurd d
done_more ds (x ∷ ls) [] l r a b c d w = absurd d
done_more ds (x ∷ ls) (y ∷ rs) l r a b c d w = (d.0, d.1, done_more ds ls rs l r d.0 b c d.2 w)

text_more : (rs : List LineReply) (r : LineReply) → replies_text (rs ++ (r ∷ [])) ≡ replies_text rs ++ reply_line r
text_more [] r = append-nil (reply_line r)
text_more (x ∷ rs) r = ap (λ (v : List ℕ). reply_line x ++ v) (text_more rs r) ∙ sym (append_assoc (reply_line x) (replies_text rs) (reply_line r))

or_last : (a : Bool) → (a || false) ≡ a
or_last true = refl
or_last false = refl

or_assoc : (a b c : Bool) → (a || (b || c)) ≡ ((a || b) || c)
or_assoc true b c = refl
or_assoc false b c = refl

failed_more : (rs : List LineReply) (r : LineReply) → has_failed (rs ++ (r ∷ [])) ≡ (has_failed rs || not (is_success r.completion))
failed_more [] r = or_last (not (is_success r.completion))
failed_more (x ∷ rs) r = ap (λ (b : Bool). not (is_success x.completion) || b) (failed_more rs r) ∙ or_assoc (not (is_success x.completion)) (has_failed rs) (not (is_success r.completion))

came_more : (ds : List DeviceInfo) (ls : List NvmLine) (l : NvmLine) (text text' : List ℕ) (bad bad' : Bool) (a b c : RigState) → Came ds ls text bad a b → Adds ds l text text' bad bad' b c → Came ds (ls ++ (l ∷ [])) text' bad' a c
came_more ds ls l text text' bad bad' a b c x y = record {
  replies = x.replies ++ (y.reply ∷ []);
  done = done_more ds ls x.replies l y.reply a b c x.done y.done;
  text_is = y.text_is ∙ ap (λ (v : List ℕ). v ++ reply_line y.reply) x.text_is ∙ sym (text_more x.replies y.reply);
  bad_is = y.bad_is ∙ ap (λ (v : Bool). v || not (is_success y.reply.completion)) x.bad_is ∙ sym (failed_more x.replies y.reply);
}

-- one more of a list of lines
came_next : (ds : List DeviceInfo) (lines : List NvmLine) (i : ℕ) (d : NvmLine) (text text' : List ℕ) (bad bad' : Bool) (a b c : RigState) → i < length lines → Came ds (take i lines) text bad a b → Adds ds (get_or lines i d) text text' bad bad' b c →
    Came ds (take (i + 1) lines) text' bad' a c
came_next ds lines i d text text' bad bad' a b c h x y = subst (λ (v : List NvmLine). Came ds v text' bad' a c) (sym (take_more lines i d h)) (came_more ds (take i lines) (get_or lines i d) text text' bad bad' a b c x y)

stays_put : (a : RigState) → UnitsStay a a
stays_put a = record { units = refl; armed = refl; log = refl; standing = refl; count = omega arith }

-- where memory lacked at a line
lacked : (ds : List DeviceInfo) (lines : List NvmLine) (i : ℕ) (d : NvmLine) (text : List ℕ) (bad : Bool) (a b c : RigState) → i < length lines → Came ds (take i lines) text bad a b → Lacks ds (get_or lines i d) b c → CameInPart ds lines a c
lacked ds lines i d text bad a b c h x (inl stays) = record { first = take i lines; left = drop i lines; lines_are = sym (take-append-drop i lines); replies = x.replies; last = b; done = x.done; stays = stays }
lacked ds lines i d text bad a b c h x (inr w) = record {
  first = take (i + 1) lines;
  left = drop (i + 1) lines;
  lines_are = sym (take-append-drop (i + 1) lines);
  replies = x.replies ++ (w.0 ∷ []);
  last = c;
  done = subst (λ (v : List NvmLine). AllDone ds v (x.replies ++ (w.0 ∷ [])) a c) (sym (take_more lines i d h)) (done_more ds (take i lines) x.replies (get_or lines i d) w.0 a b c x.done w.1);
  stays = stays_put c;
}

-- both, where front and line are named otherwise
pub came_step : (ds front : List DeviceInfo) (lines : List NvmLine) (i : ℕ) (l : NvmLine) (text text' : List ℕ) (bad bad' : Bool) (a b c : RigState) → front ≡ ds → l ≡ get_or lines i l → i < length lines → Came ds (take i lines) text bad a b → Adds front l text text' bad bad' b c →
    Came ds (take (i + 1) lines) text' bad' a c
came_step ds front lines i l text text' bad bad' a b c e item h x y =
    came_next ds lines i l text text' bad bad' a b c h x
    (subst (λ (v : NvmLine). Adds ds v text text' bad bad' b c) item (subst (λ (v : List DeviceInfo). Adds v l text text' bad bad' b c) e y))

pub lacked_step : (ds front : List DeviceInfo) (lines : List NvmLine) (i : ℕ) (l : NvmLine) (text : List ℕ) (bad : Bool) (a b c : RigState) → front ≡ ds → l ≡ get_or lines i l → i < length lines → Came ds (take i lines) text bad a b → Lacks front l b c → CameInPart ds lines a c
lacked_step ds front lines i l text bad a b c e item h x y =
    lacked ds lines i l text bad a b c h x (subst (λ (v : NvmLine). Lacks ds v b c) item (subst (λ (v : List DeviceInfo). Lacks v l b c) e y))

-- ---- over told units

rising : (ds : List DeviceInfo) (ls : List NvmLine) (rs : List LineReply) (a b : RigState) → AllDone ds ls rs a b → a.faults ≤ b.faults
rising ds [] [] a b d = let same = ap (λ (v : RigState). v.faults) d in omega (arith, same)
rising ds [] (x ∷ rs) a b d = absurd d
rising ds (x ∷ ls) [] a b d = absurd d
rising ds (x ∷ ls) (y ∷ rs) a b d = let one = d.1.count in let more = rising ds ls rs d.0 b d.2 in omega (arith, one, more)

-- the answer of a unit up to a store call that fails, where none was counted
calm_answer : (us : List Stored) (dev : ℕ) (c : NvmCommand) (b m nb nm : List ℕ) (done : Completion) (told : Option (List Stored)) (n f f' : ℕ) (stop : Option Stop) → HasCause stop n f f' → Calm f f' →
    IsNvmAnswer (nvm_answer (unit_at us dev) [] c b m stop) us dev done told nb nm → IsNvmAnswer (nvm_answer (unit_at us dev) [] c b m None) us dev done told nb nm
calm_answer us dev c b m nb nm done told n f f' None cause calm x = x
calm_answer us dev c b m nb nm done told n f f' (Some s) cause calm x = absurd (never_rose f f' calm cause.0)

abbrev made : NvmCommand → Completion → List ℕ → List ℕ → LineReply
made c done b m = record { command = c; completion = done; body = b; meta = m }

same_reply : (r : LineReply) (c : NvmCommand) (done : Completion) (b m : List ℕ) → r.command ≡ c → r.completion ≡ done → r.body ≡ b → r.meta ≡ m → r ≡ record { command = c; completion = done; body = b; meta = m }
same_reply r c done b m e1 e2 e3 e4 =
    ap (λ (x : NvmCommand). made x r.completion r.body r.meta) e1 ∙ ap (λ (x : Completion). made c x r.body r.meta) e2 ∙ ap (λ (x : List ℕ). made c done x r.meta) e3 ∙ ap (λ (x : List ℕ). made c done b x) e4

-- a refused command's reply
pub refused_reply : (r : NvmReply) (c : NvmCommand) (x : Completion) → r.completion ≡ x → r.body.items ≡ [] → r.meta.items ≡ [] → reply_of c r ≡ record { command = c; completion = x; body = []; meta = [] }
refused_reply r c x e b m = same_reply (reply_of c r) c x [] [] refl e b m

-- a step over units that are told
pub record IsStep (ds : List DeviceInfo) (l : NvmLine) (r : LineReply) (us : List Stored) (x : Option Completion) (units : Option (List Stored)) : Type 0 where
  pub reply_is : r ≡ (step_by x (device_of_line ds l) us l).reply
  pub units_are : units ≡ Some (step_by x (device_of_line ds l) us l).units

step_is : (ds : List DeviceInfo) (l : NvmLine) (r : LineReply) (a b : RigState) (us : List Stored) → WasDone ds l r a b → HasNamespaces ds a.standing a.units → a.units ≡ Some us → Calm a.faults b.faults →
    IsStep (map device_of us) l r us (refusal (map device_of us) (command_of l)) b.units
step_is ds l r a b us w h e calm =
    let same : ds ≡ map device_of us = h.told us e in
    subst (λ (v : List DeviceInfo). IsStep v l r us (refusal v (command_of l)) b.units) same (by (refusal ds (command_of l)) refl)
  where
    by : (x : Option Completion) → refusal ds (command_of l) ≡ x → IsStep ds l r us x b.units
    by (Some x) q = let t = w.refused x q in record { reply_is = t.0; units_are = t.2 ∙ e }
    by None q =
        let t = w.told q us e in
        let d = device_of_line ds l in
        let z = calm_answer us (dev_of l) (command_of l) (body_given d l) (meta_given d l) r.body r.meta r.completion b.units _ a.faults b.faults t.0 t.1 calm t.2 in
        record { reply_is = same_reply r (command_of l) _ _ _ w.command_is z.completion z.body_is z.meta_is; units_are = z.units }

-- replies and units after commands without a fault
pub record AreExact (ls : List NvmLine) (rs : List LineReply) (us : List Stored) (units : Option (List Stored)) : Type 0 where
  pub replies_are : rs ≡ replies_over us ls
  pub units_are : units ≡ Some (units_over us ls)

exact_over : (ds : List DeviceInfo) (ls : List NvmLine) (rs : List LineReply) (a b : RigState) (us : List Stored) → AllDone ds ls rs a b → HasNamespaces ds a.standing a.units → a.units ≡ Some us → Calm a.faults b.faults → AreExact ls rs us b.units
exact_over ds [] [] a b us d h e calm = record { replies_are = refl; units_are = ap (λ (v : RigState). v.units) d ∙ e }
exact_over ds [] (x ∷ rs) a b us d h e calm = absurd d
exact_over ds (x ∷ ls) [] a b us d h e calm = absurd d
exact_over ds (l ∷ ls) (r ∷ rs) a b us d h e calm =
    let up = rising ds ls rs d.0 b d.2 in
    let count = d.1.count in
    let first : Calm a.faults d.0.faults = (omega (arith, up, count, calm.0, calm.1), omega (arith, up, count, calm.0, calm.1)) in
    let rest : Calm d.0.faults b.faults = (omega (arith, up, count, calm.0, calm.1), calm.1) in
    let one = step_is ds l r a d.0 us d.1 h e first in
    let more = exact_over ds ls rs d.0 b (step_of us l).units d.2 d.1.devices_are one.units_are rest in
    record {
      replies_are = ap (λ (x : LineReply). x ∷ rs) one.reply_is ∙ ap (λ (v : List LineReply). (step_of us l).reply ∷ v) more.replies_are;
      units_are = more.units_are;
    }

pub exact_came : (ds : List DeviceInfo) (ls : List NvmLine) (text : List ℕ) (bad : Bool) (a b : RigState) (us : List Stored) → Came ds ls text bad a b → HasNamespaces ds a.standing a.units → a.units ≡ Some us → Calm a.faults b.faults →
    (text ≡ replies_text (replies_over us ls)) × (bad ≡ has_failed (replies_over us ls)) × (b.units ≡ Some (units_over us ls))
exact_came ds ls text bad a b us came h e calm =
    let x = exact_over ds ls came.replies a b us came.done h e calm in
    (came.text_is ∙ ap replies_text x.replies_are, came.bad_is ∙ ap has_failed x.replies_are, x.units_are)

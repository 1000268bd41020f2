-- The blocks that a run lists lie in the volume to which its script is bound.
use Rattle.std.proofs.Common.{ℕ, suc, ◌≡◌, ◌+◌, ◌≤◌, ◌<◌, Bool, true, false, List, [], ◌∷◌, length, drop, map, Option, Some, None, All, refl, sym, ap, subst, ◌∙◌, arith}
use Rattle.std.proofs.lemmas.List.{length-drop, length-map}
use Rattle.std.proofs.lemmas.List.Elements.{All-cons, All-nil}
use Rattle.bio_core.specs.declared.fate.Why.{Why}
use Rattle.block_path.specs.Acts.{State, act, tell}
use Rattle.block_path.specs.Blocks.{ActAnswer}
use Rattle.block_path.specs.Serial.{plain, plain_tells}
use Rattle.block_path.proofs.PathLaws.{long_tells}
use Rattle.run_laws.specs.Records.{recorded}
use Rattle.run_laws.specs.ToldRun.{told}
use Rattle.rig_api.specs.Log.{LogEntry}
use Rattle.rig_api.specs.State.{RigState}
use Rattle.run_command.proofs.Passed.{in-range, line-none, bound}
use Rattle.run_command.specs.Passed.{IsBackedBy, failed_in, opening_of, setting_of, unit_of}
use Rattle.script_text.specs.Bindings.{binding_fault, op_fault, ops_fault}
use Rattle.script_text.specs.declared.script.Script.{Script}
use Rattle.stack_ops.specs.declared.op.Op.{Op}
use Rattle.stack_ops.specs.declared.op.Op.TheVariants.{Fetch, FetchPi, Fill, Overwrite, Put, Seal, Show, Wait, Write, WritePi}
use Rattle.stack_ops.specs.declared.reply.BadBlock.{BadBlock}
use Rattle.stack_ops.specs.declared.reply.Reply.{Reply}
use Rattle.volume_table.specs.Places.{volume_len}
use Rattle.volume_table.specs.Tables.{Table}
use Rattle.volume_table.specs.declared.device.DeviceInfo.{DeviceInfo}
use Rattle.walk_laws.specs.ScriptWalk.{acts_of, bad_from, replies_from, reply_of, request_reply, shown_reply, whole_or_bad}
use Rattle.walk_laws.specs.Settings.{Setting}
use Rattle.walk_laws.specs.Steps.{Step, each_from, steps_of}
use Rattle.walk_laws.proofs.InSteps.{each_length}
use Rattle.run_command.specs.Verdict.{HasRun}
use Rattle.run_command.specs.Working.{IsSound}
use Rattle.run_words.specs.Explained.{IsReady, WasExplained}
use Rattle.run_words.specs.Ledgers.{IsKept, IsNew, LieInside, book_in}
use Rattle.run_words.specs.Lies.{Book, asked_from, asked_one}
use Rattle.run_words.specs.declared.ledger.Ledger.{Ledger}
use Rattle.run_words.specs.Sites.{AreInside, Guides, IsGuideOf, IsInside, first_block, sites_from, sites_of}
use Rattle.run_words.specs.declared.guide.Guide.{Guide}
use Rattle.run_command.specs.declared.verdict.Finished.{Finished}
use Rattle.run_words.specs.declared.guide.OpSite.{OpSite}

abbrev Below : (first most : ℕ) → BadBlock → Type 0
Below first most b = first + b.k < most

below : (first most n k : ℕ) (whys : List (Option Why)) → first + n ≤ most → k + length whys ≤ n → All (Below first most) (bad_from k whys)
below first most n k [] w h = All-nil (Below first most)
below first most n k (None ∷ whys) w h = below first most n (suc k) whys w (omega (arith, h))
below first most n k (Some why ∷ whys) w h =
    All-cons (Below first most) (record { k = k; why = why }) (bad_from (suc k) whys) (omega (arith, w, h)) (below first most n (suc k) whys w (omega (arith, h)))

listed : (first most : ℕ) (bad : List BadBlock) → All (Below first most) bad → IsInside first most (whole_or_bad bad)
listed first most [] h = tt
listed first most (b ∷ bad) h = h

by_answers : (first most n : ℕ) (answers : List ActAnswer) → first + n ≤ most → length answers ≡ n → IsInside first most (request_reply answers)
by_answers first most n answers w e =
    let whys = map (λ (a : ActAnswer). a.why) answers in
    let l : length whys ≡ length answers = length-map answers (λ (a : ActAnswer). a.why) in
    listed first most (bad_from 0 whys) (below first most n 0 whys w (omega (arith, e, l)))

by_steps : (m : Setting) (first most n i : ℕ) (op : Op) (f : ℕ → Step) (s : State) → steps_of m i op ≡ each_from 0 n f → first + n ≤ most → IsInside first most (request_reply (plain_tells act tell (acts_of m i op) s))
by_steps m first most n i op f s e w =
    by_answers first most n (plain_tells act tell (acts_of m i op) s) w (long_tells (acts_of m i op) s ∙ length-map (steps_of m i op) _ ∙ ap length e ∙ each_length 0 n f)

shown : (first most : ℕ) (answers : List ActAnswer) → IsInside first most (shown_reply answers)
shown first most [] = tt
shown first most (a ∷ answers) = tt

-- the reply of an op that is bound to the volume
one_inside : (m : Setting) (t : Table) (devices : List DeviceInfo) (size i : ℕ) (op : Op) (s : State) → op_fault t devices size op ≡ None → IsInside (first_block op) (volume_len t.entries) (reply_of (m.fails i) op (plain_tells act tell (acts_of m i op) s))
one_inside m t devices size i (Fill seg byte) s h = tt
one_inside m t devices size i (Put page off bytes) s h = tt
one_inside m t devices size i (Show seg) s h = shown 0 (volume_len t.entries) (plain_tells act tell (acts_of m i (Show seg)) s)
one_inside m t devices size i (Seal n body tuples app rtag) s h = tt
one_inside m t devices size i (Write v n body app) s h = by_steps m v (volume_len t.entries) n i (Write v n body app) _ s refl (in-range t v n h)
one_inside m t devices size i (Fetch v n body) s h = by_steps m v (volume_len t.entries) n i (Fetch v n body) _ s refl (in-range t v n h)
one_inside m t devices size i (WritePi v n body tuples) s h = by_steps m v (volume_len t.entries) n i (WritePi v n body tuples) _ s refl (in-range t v n h)
one_inside m t devices size i (FetchPi v n body tuples) s h = by_steps m v (volume_len t.entries) n i (FetchPi v n body tuples) _ s refl (in-range t v n h)
one_inside m t devices size i (Overwrite dev lba change) s h = by_fails (m.fails i)
  where
    by_fails : (b : Bool) → IsInside 0 (volume_len t.entries) (reply_of b (Overwrite dev lba change) (plain_tells act tell (acts_of m i (Overwrite dev lba change)) s))
    by_fails true = tt
    by_fails false = tt
one_inside m t devices size i Wait s h = tt

pub all_inside : (m : Setting) (t : Table) (devices : List DeviceInfo) (size i : ℕ) (ops : List Op) (lines : List ℕ) (s : State) → ops_fault t devices size ops lines ≡ None → AreInside (volume_len t.entries) (sites_from lines ops) (replies_from m i ops s)
all_inside m t devices size i [] [] s h = tt
all_inside m t devices size i [] (line ∷ lines) s h = tt
all_inside m t devices size i (op ∷ ops) [] s h = tt
all_inside m t devices size i (op ∷ ops) (line ∷ lines) s h =
    let n = line-none line (op_fault t devices size op) (ops_fault t devices size ops lines) h in
    (one_inside m t devices size i op s n.0, all_inside m t devices size (suc i) ops lines (plain act (acts_of m i op) s) n.1)

-- the replies of a run that backs them
inside_run : (s : Script) (t : Table) (devices : List DeviceInfo) (log : List LogEntry) (replies : List Reply) → binding_fault s t devices ≡ None → IsBackedBy s t devices log replies → AreInside (volume_len t.entries) (sites_of s) replies
inside_run s t devices log replies b backed =
    let m = setting_of s t (map unit_of devices) (failed_in replies) in
    subst (λ (rs : List Reply). AreInside (volume_len t.entries) (sites_of s) rs) (sym (backed []).checked)
    (all_inside (told m (recorded m log)) t devices s.block 1 s.ops (drop (length s.faults) s.lines) (opening_of s (map unit_of devices) []) (bound s t devices b).ops)

guides_run : (run : Finished) (s : Script) (name : List ℕ) (old new : RigState) (g : Guide) → HasRun run s name old new → IsGuideOf s g → Guides g run.stack.replies.items
guides_run run s name old new g h is =
    let same : h.table.entries ≡ g.entries = h.made.entries ∙ sym is.entries in
    let r = run.stack.replies.items in
    let inside = inside_run s h.table h.devices h.followed.any_rig.goes.more r h.bound h.followed.any_rig.backed in
    record {
      table = h.table;
      made = record { devices = h.devices; size = s.block; made = h.made.made };
      entries = same;
      inside = subst (λ x. AreInside (volume_len x) g.sites.items r) same (subst (λ (x : List OpSite). AreInside (volume_len h.table.entries) x r) (sym is.sites) inside);
    }

-- ---- the ledger

asked_inside : (most s : ℕ) (t : Table) (devices : List DeviceInfo) (size : ℕ) (op : Op) → most ≡ volume_len t.entries → op_fault t devices size op ≡ None → (asked_one s op).first + (asked_one s op).count ≤ most
asked_inside most s t devices size (Fill seg byte) e h = omega arith
asked_inside most s t devices size (Put page off bytes) e h = omega arith
asked_inside most s t devices size (Show seg) e h = omega arith
asked_inside most s t devices size (Seal n body tuples app rtag) e h = omega arith
asked_inside most s t devices size (Write v n body app) e h = let inside = in-range t v n h in omega (arith, inside, e)
asked_inside most s t devices size (Fetch v n body) e h = let inside = in-range t v n h in omega (arith, inside, e)
asked_inside most s t devices size (WritePi v n body tuples) e h = let inside = in-range t v n h in omega (arith, inside, e)
asked_inside most s t devices size (FetchPi v n body tuples) e h = let inside = in-range t v n h in omega (arith, inside, e)
asked_inside most s t devices size (Overwrite dev lba change) e h = omega arith
asked_inside most s t devices size Wait e h = omega arith

lie_inside : (most s : ℕ) (t : Table) (devices : List DeviceInfo) (size : ℕ) (ops : List Op) (lines : List ℕ) → most ≡ volume_len t.entries → length lines ≡ length ops → ops_fault t devices size ops lines ≡ None → LieInside most (asked_from s ops)
lie_inside most s t devices size [] lines e l h = tt
lie_inside most s t devices size (op ∷ ops) [] e l h = absurd (omega (arith, l))
lie_inside most s t devices size (op ∷ ops) (line ∷ lines) e l h =
    let n = line-none line (op_fault t devices size op) (ops_fault t devices size ops lines) h in
    (asked_inside most s t devices size op e n.0, lie_inside most (s + (asked_one s op).count) t devices size ops lines e (omega (arith, l)) n.1)

lines_of_ops : (s : Script) → IsSound s → length (drop (length s.faults) s.lines) ≡ length s.ops
lines_of_ops s is = let l = length-drop (length s.faults) s.lines in let sum = is.lines in omega (arith, l, sum)

all_ready : (run : Finished) (guide : Guide) (begun ledger : Ledger) (s : Script) (name : List ℕ) (old new : RigState) → IsSound s → HasRun run s name old new → IsGuideOf s guide → IsNew s begun → IsKept ledger new.log → ledger.first ≡ run.first → book_in ledger ≡ book_in begun
    → IsReady (record { run = run; guide = guide; ledger = ledger }) new.log
all_ready run guide begun ledger s name old new is h g made kept first book =
    let asked : ledger.asked.items ≡ asked_from 0 s.ops = ap (λ (b : Book). b.asked) (book ∙ made.book) in
    let most : volume_len guide.entries ≡ volume_len h.table.entries = ap volume_len (g.entries ∙ sym h.made.entries) in
    record {
      kept = kept;
      since = first;
      inside = subst (λ x. LieInside (volume_len guide.entries) x) (sym asked) (lie_inside (volume_len guide.entries) 0 h.table h.devices s.block s.ops (drop (length s.faults) s.lines) most (lines_of_ops s is) (bound s h.table h.devices h.bound).ops);
    }

pub explained_so : (run : Finished) (guide : Guide) (begun ledger : Ledger) (s : Script) (name : List ℕ) (old new : RigState) → IsSound s → HasRun run s name old new → IsGuideOf s guide → IsNew s begun → IsKept ledger new.log → ledger.first ≡ run.first → book_in ledger ≡ book_in begun
    → WasExplained (record { run = run; guide = guide; ledger = ledger }) s name old new
explained_so run guide begun ledger s name old new is h g made kept first book =
    record { ran = h; guided = g; guides = guides_run run s name old new guide h g; booked = book ∙ made.book; ready = all_ready run guide begun ledger s name old new is h g made kept first book }

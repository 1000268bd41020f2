-- What an op of a mirror did at its end, by its kind.
use Rattle.std.proofs.Common.{◌≡◌, ◌<◌, ℕ, zero, suc, ◌⊎◌, inl, inr, List, [], ◌∷◌, get_or, length, replicate, refl, sym, ap, ◌∙◌, subst, arith}
use Rattle.std.specs.Prelude.{IfOk, Result, is_some}
use Rattle.std.proofs.lemmas.Result.{IfOk-weaker}
use Rattle.page_pool.specs.declared.segs.Seg.{Seg}
use Rattle.page_pool.specs.Pages.{Wrote, part}
use Rattle.page_pool.specs.Places.{places_of}
use Rattle.rig_api.specs.declared.change.Change.{Change}
use Rattle.rig_api.specs.State.{RigState}
use Rattle.stack_ops.specs.Footprints.{put_seg}
use Rattle.stack_ops.specs.declared.op.Op.{Op}
use Rattle.stack_ops.specs.declared.op.Op.TheVariants.{FetchPi, Fill, Overwrite, Put, Seal, Show, Wait, WritePi}
use Rattle.stack_ops.specs.declared.reply.Reply.{Reply}
use Rattle.stack_ops.specs.declared.reply.Reply.TheVariants.{Medium, Shown, Silent}
use Rattle.volume_table.specs.declared.device.DeviceInfo.{DeviceInfo}
use Rattle.script_text.specs.declared.script.Script.{Script}
use Rattle.mirror_volume.specs.LegsPassed.{table_of}
use Rattle.mirror_volume.specs.LegRuns.{LegRun}
use Rattle.mirror_volume.specs.OnOps.{AsksNoLeg, DidOp, OpRan, OverwriteTells, RanOp, Sides}
use Rattle.mirror_volume.specs.Standing.{op_at}
use Rattle.mirror_volume.proofs.Runs.{ran-nothing}

-- ---- the op at a place

same-at : (ops : List Op) (i : ℕ) (other : Op) → i < length ops → get_or ops i other ≡ op_at ops i
same-at [] i other l = absurd (omega (arith, l))
same-at (op ∷ ops) zero other l = refl
same-at (op ∷ ops) (suc i) other l = same-at ops i other (omega (arith, l))

pub op-is : (ops slice : List Op) (i : ℕ) (found op : Op) → slice ≡ ops → i < length ops → found ≡ get_or slice i found → found ≡ op → op_at ops i ≡ op
op-is ops slice i found op same l at is = sym (same-at ops i found l) ∙ ap (λ (os : List Op). get_or os i found) (sym same) ∙ sym at ∙ is

pub none-left : (ops : List Op) (i : ℕ) → i ≡ length ops → op_at ops i ≡ Wait
none-left [] i e = refl
none-left (op ∷ ops) zero e = absurd (omega (arith, e))
none-left (op ∷ ops) (suc i) e = none-left ops i (omega (arith, e))

-- ---- its end

-- an op that runs nothing on the legs
run-nothing : (s : Script) (devices : List DeviceInfo) (half number used : ℕ) (op : Op) (pool : List (List ℕ)) (now : RigState) (Came : List LegRun → Type 0)
    → OpRan op (table_of s devices) devices [] now now → Came [] → RanOp s devices half number op pool used used now now Came
run-nothing s devices half number used op pool now Came ran h = record { runs = []; ran = ran; goes_on = refl; own = tt; came = h; tells = refl; standing = refl }

module _ (s : Script) (devices : List DeviceInfo) (half number used : ℕ) (old new : Sides) (now : RigState) (op : Op) where
  -- what such an op does, where it runs nothing
  abbrev Did : Reply → Type 0
  Did reply = RanOp s devices half number op old.pool used used now now (λ runs. DidOp s half number op old new now now runs reply)

  pub did-fill : (seg : Seg) (byte : ℕ) → op ≡ Fill seg byte → Wrote old.pool new.pool (places_of seg) (replicate seg.len byte) → new.marks ≡ old.marks → Did Silent
  did-fill seg byte is wrote kept =
      subst (λ (o : Op). RanOp s devices half number o old.pool used used now now (λ runs. DidOp s half number o old new now now runs Silent)) (sym is)
      (run-nothing s devices half number used (Fill seg byte) old.pool now (λ runs. DidOp s half number (Fill seg byte) old new now now runs Silent) (ran-nothing (table_of s devices) devices now)
      ((record { pages = wrote; marks = kept; none = refl }, refl), tt))

  pub did-put : (page off : ℕ) (bytes : List ℕ) → op ≡ Put page off bytes → Wrote old.pool new.pool (places_of (put_seg page off bytes)) bytes → new.marks ≡ old.marks → Did Silent
  did-put page off bytes is wrote kept =
      subst (λ (o : Op). RanOp s devices half number o old.pool used used now now (λ runs. DidOp s half number o old new now now runs Silent)) (sym is)
      (run-nothing s devices half number used (Put page off bytes) old.pool now (λ runs. DidOp s half number (Put page off bytes) old new now now runs Silent) (ran-nothing (table_of s devices) devices now)
      ((record { pages = wrote; marks = kept; none = refl }, refl), tt))

module _ (s : Script) (devices : List DeviceInfo) (half number used : ℕ) (old : Sides) (now : RigState) (op : Op) where
  pub did-show : {E : Type 0} (seg : Seg) (result : Result Reply E) → op ≡ Show seg → IfOk result (λ (reply : Reply). reply ≡ Shown (part old.pool seg))
      → RanOp s devices half number op old.pool used used now now (λ runs. IfOk result (DidOp s half number op old old now now runs))
  did-show {E} seg result is said =
      subst (λ (o : Op). RanOp s devices half number o old.pool used used now now (λ runs. IfOk result (DidOp s half number o old old now now runs))) (sym is)
      (run-nothing s devices half number used (Show seg) old.pool now (λ runs. IfOk result (DidOp s half number (Show seg) old old now now runs)) (ran-nothing (table_of s devices) devices now)
      (IfOk-weaker result (λ (reply : Reply). reply ≡ Shown (part old.pool seg)) (DidOp s half number (Show seg) old old now now []) (λ reply e. ((record { same = refl; none = refl }, e), tt)) said))

module _ (s : Script) (devices : List DeviceInfo) (half number used : ℕ) (old : Sides) (before after : RigState) (op : Op) where
  pub did-overwrite : (dev lba : ℕ) (change : Change) (reply : Reply) → op ≡ Overwrite dev lba change → (reply ≡ Silent) ⊎ (reply ≡ Medium) → AsksNoLeg [] before after → OverwriteTells dev lba change reply before after
      → is_some after.image ≡ is_some before.image
      → RanOp s devices half number op old.pool used used before after (λ runs. DidOp s half number op old old before after runs reply)
  did-overwrite dev lba change reply is said asked told tells =
      subst (λ (o : Op). RanOp s devices half number o old.pool used used before after (λ runs. DidOp s half number o old old before after runs reply)) (sym is)
      (record { runs = []; ran = asked; goes_on = refl; own = tt; came = ((record { same = refl; none = refl }, said), told); tells = tells; standing = asked.standing })

-- an op that does nothing on a mirror
abbrev pub IsIdle : Op → Type 0
IsIdle op = ((n : ℕ) × (body : List Seg) × (tuples : List Seg) × (app : ℕ) × (rtag : ℕ) × (op ≡ Seal n body tuples app rtag))
    ⊎ ((v : ℕ) × (n : ℕ) × (body : List Seg) × (tuples : List Seg) × (op ≡ WritePi v n body tuples)) ⊎ ((v : ℕ) × (n : ℕ) × (body : List Seg) × (tuples : List Seg) × (op ≡ FetchPi v n body tuples)) ⊎ (op ≡ Wait)

module _ (s : Script) (devices : List DeviceInfo) (half number used : ℕ) (old : Sides) (now : RigState) where
  -- what it does
  abbrev Idles : Op → Type 0
  Idles op = RanOp s devices half number op old.pool used used now now (λ runs. DidOp s half number op old old now now runs Silent)

  pub did-idle : (op found : Op) → op ≡ found → IsIdle found → Idles op
  did-idle op found is (inl h) =
      subst Idles (sym (is ∙ h.5)) (run-nothing s devices half number used _ old.pool now _ (ran-nothing (table_of s devices) devices now) ((record { same = refl; none = refl }, refl), tt))
  did-idle op found is (inr (inl h)) =
      subst Idles (sym (is ∙ h.4)) (run-nothing s devices half number used _ old.pool now _ (ran-nothing (table_of s devices) devices now) ((record { same = refl; none = refl }, refl), tt))
  did-idle op found is (inr (inr (inl h))) =
      subst Idles (sym (is ∙ h.4)) (run-nothing s devices half number used _ old.pool now _ (ran-nothing (table_of s devices) devices now) ((record { same = refl; none = refl }, refl), tt))
  did-idle op found is (inr (inr (inr h))) =
      subst Idles (sym (is ∙ h)) (run-nothing s devices half number used _ old.pool now _ (ran-nothing (table_of s devices) devices now) ((record { same = refl; none = refl }, refl), tt))

-- Where no op is left, nothing is run.
pub ran-none-left : (s : Script) (devices : List DeviceInfo) (half number i used : ℕ) (pool : List (List ℕ)) (now : RigState) (P : List LegRun → Type 0) → i ≡ length s.ops → P [] → RanOp s devices half number (op_at s.ops i) pool used used now now P
ran-none-left s devices half number i used pool now P e h =
    subst (λ (op : Op). RanOp s devices half number op pool used used now now P) (sym (none-left s.ops i e))
    (run-nothing s devices half number used Wait pool now P (ran-nothing (table_of s devices) devices now) h)

-- A block of which nothing alters a leg, over one op of a mirror where store calls may fail.
use Rattle.std.proofs.Common.{◌≡◌, ◌<◌, ◌⊎◌, inl, inr, ℕ, ◌+◌, ◌-◌, Bool, true, false, eqb, not, List, [], length, map, get_or, set, Some, None, arith, refl, sym, ap, subst, ◌∙◌}
use Rattle.std.proofs.lemmas.Bool.{eqb-false, eqb-true}
use Rattle.std.proofs.lemmas.List.{get_or-set_other, length-set}
use Rattle.rig_api.specs.Telling.{block_at, changed, unit_at, with_block}
use Rattle.rig_api.specs.declared.change.Change.{Change}
use Rattle.rig_api.specs.State.{RigState}
use Rattle.rig_api.specs.Target.{Stored}
use Rattle.rig_api.specs.declared.units.UnitSpec.{UnitSpec}
use Rattle.rig_discovery.specs.Discovery.{info_of}
use Rattle.volume_table.specs.Places.{place_in}
use Rattle.volume_table.specs.Tables.{IsOn, Table}
use Rattle.volume_table.specs.declared.device.DeviceInfo.{DeviceInfo}
use Rattle.dix_adapter.specs.Ways.{blocks_told, cell_in, shapes_of}
use Rattle.dix_adapter.proofs.Puts.{told-shapes}
use Rattle.stack_ops.specs.Ops.{first_virt}
use Rattle.stack_ops.specs.declared.op.Op.{Op}
use Rattle.stack_ops.specs.declared.op.Op.TheVariants.{Fetch, FetchPi, Fill, Overwrite, Put, Seal, Show, Wait, Write, WritePi}
use Rattle.stack_ops.specs.declared.reply.Reply.{Reply}
use Rattle.stack_ops.specs.declared.reply.Reply.TheVariants.{Medium, Silent}
use Rattle.walk_laws.specs.Past.{Brought}
use Rattle.walk_laws.specs.Settings.{Setting}
use Rattle.walk_laws.specs.UnderMap.{home}
use Rattle.script_laws.specs.Keeping.{IsOp as KeepsRules}
use Rattle.script_laws.proofs.OpForms.{no_fault}
use Rattle.script_stack.proofs.Passed.{tag-fits}
use Rattle.script_text.specs.Ops.{data_fault}
use Rattle.script_text.specs.declared.script.Script.{Script}
use Rattle.mirror_laws.specs.Mirror.{blocks_in, marks_of}
use Rattle.mirror_laws.specs.declared.marks.Marks.{Marks}
use Rattle.mirror_volume.specs.LegsPassed.{op_fault, table_of}
use Rattle.mirror_volume.specs.LegRuns.{AllFallen, LegRun, RanLegs}
use Rattle.mirror_volume.specs.OnOps.{OpBy, OpRan, OpTells, OverwriteTells, Sides}
use Rattle.mirror_volume.specs.Spared.{HasAddress, IsFoundFrom, IsShownOverwrite, IsUnaltered, LeavesRight, ReadsRight, fails_on_leg, frame_on, has_block, named_on, place_on, stored_on, written_then}
use Rattle.mirror_volume.specs.Standing.{IsMirrorOver, half_of, mirror_setting, op_at}
use Rattle.mirror_volume.proofs.Others.{IsSpot, put-here, spot}
use Rattle.mirror_volume.proofs.Premises.{has-cells, lies-on}
use Rattle.mirror_volume.proofs.Requests.{op-fits, overwrite-fits, request-fits}
use Rattle.mirror_volume.proofs.SparedFetched.{kept-fetch}
use Rattle.mirror_volume.proofs.Ground.{fits}
use Rattle.mirror_volume.proofs.SparedGround.{Altered, HasLeg, Stopped, free-at, has-later, leg-inside, shown-at}
use Rattle.mirror_volume.proofs.SparedShown.{StandsAs, expected-of, frame-stands}
use Rattle.mirror_volume.proofs.Free.{SoundAs}
use Rattle.mirror_volume.proofs.SparedWrites.{IsFree, IsShown, StandsOrStops}
use Rattle.mirror_volume.proofs.SparedWrote.{Kept, kept-write}
use Rattle.mirror_volume.proofs.LegsPassed.{op-keeps}

module _ (s : Script) (devices : List DeviceInfo) (us : List Stored) (over : IsMirrorOver s devices us) (u : ℕ) (leg : Bool) (p : IsUnaltered s devices us u leg)
    (now : List Stored) (same : shapes_of now ≡ shapes_of us) (old : Sides) (counted : length old.marks ≡ half_of s devices) (e : Brought)
    (k : ℕ) (has : HasLeg s devices us u leg k e (blocks_told now) (marks_of old.marks u)) (i : ℕ) where
  abbrev m : Setting
  m = mirror_setting s devices us

  abbrev half : ℕ
  half = half_of s devices

  abbrev t : Table
  t = table_of s devices

  -- what the rig tells behind an op
  pub record Next (op : Op) (new : Sides) (reply : Reply) (after : RigState) : Type 0 where
    pub left : List Stored
    pub units : after.units ≡ Some left
    pub kept : Kept s devices us u leg k old new left op reply e

  -- ---- ops without requests

  none-run : (runs : List LegRun) (left : List Stored) → runs ≡ [] → AllFallen t now runs left → left ≡ now
  none-run runs left none all = subst (λ (rs : List LegRun). AllFallen t now rs left) none all

  same-has : (left : List Stored) (new : Sides) → left ≡ now → new.marks ≡ old.marks → HasLeg s devices us u leg (k + 1) e (blocks_told left) (marks_of new.marks u)
  same-has left new stayed moved =
      subst (λ (ms : List Marks). HasLeg s devices us u leg (k + 1) e (blocks_told left) (marks_of ms u)) (sym moved)
      (subst (λ (z : List Stored). HasLeg s devices us u leg (k + 1) e (blocks_told z) (marks_of old.marks u)) (sym stayed)
      (has-later s devices us u leg k e (blocks_told now) (marks_of old.marks u) has))

  quiet : (op : Op) (new : Sides) (reply : Reply) (before after : RigState) (runs : List LegRun) → before.units ≡ Some now → runs ≡ [] → new.marks ≡ old.marks → RanLegs t devices runs before after
      → written_then s.block u op old.pool reply e ≡ e → ReadsRight s.block u op old new reply e → Next op new reply after
  quiet op new reply before after runs told none moved ran last-is reads =
      let x = ran.fallen now told in
      let stayed = none-run runs x.0 none x.1.1 in
      record {
        left = x.0;
        units = x.1.0;
        kept = record {
          shapes = ap shapes_of stayed ∙ same;
          counted = ap length moved ∙ counted;
          has = subst (λ (b : Brought). HasLeg s devices us u leg (k + 1) b (blocks_told x.0) (marks_of new.marks u)) (sym last-is) (same-has x.0 new stayed moved);
          reads = reads;
        };
      }

  -- ---- an overwrite

  module _ (dev lba : ℕ) (change : Change) (on : IsOn devices t.ty s.block dev lba 1) (right : LeavesRight s devices us u leg (Overwrite dev lba change)) where
    there : IsSpot now dev lba
    there = spot now t.ty s.block dev lba (subst (λ (ds : List DeviceInfo). IsOn ds t.ty s.block dev lba 1) (over.units ∙ ap (λ (xs : List UnitSpec). map info_of xs) (sym same)) on)

    -- the cell of a leg's block is at its address
    at-cell : (c : Bool) → home m (place_on s devices c u) ≡ cell_in (shapes_of now) dev lba → HasAddress s devices c u dev lba
    at-cell c q =
        let long = (fits s devices us over).long in
        let v = place_on s devices c u in
        let inside = leg-inside c u half p.inside in
        (has-cells s devices us over).apart dev lba (place_in t.entries v).0 (place_in t.entries v).1 on ((lies-on s devices us over).inside v (omega (arith, inside, long)))
        (ap (λ (xs : List UnitSpec). cell_in xs dev lba) (sym same) ∙ sym q)

    away : (block : List ℕ) (c : Bool) → (HasAddress s devices c u dev lba → ⊥) → get_or (blocks_told (with_block now dev lba block)) (home m (place_on s devices c u)) [] ≡ get_or (blocks_told now) (home m (place_on s devices c u)) []
    away block c off =
        ap (λ (bs : List (List ℕ)). get_or bs (home m (place_on s devices c u)) []) (put-here now dev lba block there)
        ∙ get_or-set_other (blocks_told now) (cell_in (shapes_of now) dev lba) (home m (place_on s devices c u)) block [] (λ q. off (at-cell c q))

    -- it is of the other leg's block, or of another
    is-there : HasAddress s devices (not leg) u dev lba ⊎ (HasAddress s devices (not leg) u dev lba → ⊥)
    is-there = by (eqb dev (place_in t.entries (place_on s devices (not leg) u)).0) refl (eqb lba (place_in t.entries (place_on s devices (not leg) u)).1) refl where
      by : (a : Bool) → eqb dev (place_in t.entries (place_on s devices (not leg) u)).0 ≡ a → (b : Bool) → eqb lba (place_in t.entries (place_on s devices (not leg) u)).1 ≡ b
          → HasAddress s devices (not leg) u dev lba ⊎ (HasAddress s devices (not leg) u dev lba → ⊥)
      by true x true y = inl (eqb-true dev (place_in t.entries (place_on s devices (not leg) u)).0 x, eqb-true lba (place_in t.entries (place_on s devices (not leg) u)).1 y)
      by true x false y = inr (λ h. eqb-false lba (place_in t.entries (place_on s devices (not leg) u)).1 y h.1)
      by false x b y = inr (λ h. eqb-false dev (place_in t.entries (place_on s devices (not leg) u)).0 x h.0)

    -- what the other leg has then
    abbrev Other : List ℕ → Type 0
    Other x = StandsOrStops m (place_on s devices (not leg) u) e (Altered s devices us u leg) (Stopped s devices us u leg (k + 1)) x

    other-told : (x : List ℕ) → (x ≡ frame_on s devices us (not leg) u e) ⊎ IsFoundFrom s devices us (not leg) u (k + 1) x → Other x
    other-told x (inl its) = inl (subst (StandsAs m (place_on s devices (not leg) u) e (Altered s devices us u leg)) (sym its) (frame-stands m (place_on s devices (not leg) u) e has.whole has.bytes (expected-of m (place_on s devices leg u) e has.sound) (Altered s devices us u leg)))
    other-told x (inr found) = inr found

    overwritten-has : (block : List ℕ) (after : RigState) → after.units ≡ Some (with_block now dev lba block) → IsShownOverwrite s devices us (not leg) u k (Overwrite dev lba change) old after e
        → HasLeg s devices us u leg (k + 1) e (blocks_told (with_block now dev lba block)) (marks_of old.marks u)
    overwritten-has block after units shows = record {
      whole = has.whole;
      bytes = has.bytes;
      good = has.good;
      sound = subst (SoundAs m (place_on s devices leg u) e) (sym (away block leg right)) has.sound;
      other = λ f. elim is-there [
        | inl here ↦ other-told (stored_on s devices us (with_block now dev lba block) (not leg) u) (shows dev lba change (with_block now dev lba block) refl here f units)
        | inr off ↦ subst Other (sym (away block (not leg) off)) ((has-later s devices us u leg k e (blocks_told now) (marks_of old.marks u) has).other f)
      ];
    }

    overwritten : (new : Sides) (reply : Reply) (before after : RigState) → before.units ≡ Some now → new ≡ old → (reply ≡ Silent) ⊎ (reply ≡ Medium) → OverwriteTells dev lba change reply before after
        → IsShownOverwrite s devices us (not leg) u k (Overwrite dev lba change) old after e → Next (Overwrite dev lba change) new reply after
    overwritten new reply before after told stayed said tells shows = by (elim said [ inl silent ↦ (changed now change (block_at now dev lba), tells.silent silent now told) | inr medium ↦ tells.left medium now told ]) where
      by : (block : List ℕ) × (after.units ≡ Some (with_block now dev lba block)) → Next (Overwrite dev lba change) new reply after
      by x = record {
        left = with_block now dev lba x.0;
        units = x.1;
        kept = record {
          shapes = told-shapes now dev (set (unit_at now dev).blocks (lba - (unit_at now dev).first) x.0) (length-set (unit_at now dev).blocks (lba - (unit_at now dev).first) x.0) ∙ same;
          counted = ap (λ (z : Sides). length z.marks) stayed ∙ counted;
          has = subst (λ (z : Sides). HasLeg s devices us u leg (k + 1) e (blocks_told (with_block now dev lba x.0)) (marks_of z.marks u)) (sym stayed) (overwritten-has x.0 after x.1 shows);
          reads = tt;
        };
      }

  -- ---- each op

  pub op-next : (op : Op) (new : Sides) (runs : List LegRun) (reply : Reply) (before after : RigState) → KeepsRules s.mode.dix s.pages s.block op → op_fault s.mode.protect t devices s.block op ≡ None → LeavesRight s devices us u leg op
      → (has_block (first_virt op) (blocks_in op) u ≡ true → IsFree m s.block (named_on s devices leg u op i))
      → (has_block (first_virt op) (blocks_in op) u ≡ true → IsShown m s.block (Altered s devices us u leg) (Stopped s devices us u leg k) (named_on s devices (not leg) u op i)) → IsShownOverwrite s devices us (not leg) u k op old after e → before.units ≡ Some now → OpBy s half i op old new runs reply → OpRan op t devices runs before after → OpTells op reply before after
      → fails_on_leg (place_on s devices leg u) runs ≡ false → Next op new reply after
  op-next (Fill seg byte) new runs reply before after rules fault right free shown shows told by ran tells fine = quiet (Fill seg byte) new reply before after runs told by.0.none by.0.marks ran refl tt
  op-next (Put page off bytes) new runs reply before after rules fault right free shown shows told by ran tells fine = quiet (Put page off bytes) new reply before after runs told by.0.none by.0.marks ran refl tt
  op-next (Show seg) new runs reply before after rules fault right free shown shows told by ran tells fine = quiet (Show seg) new reply before after runs told by.0.none (ap (λ (x : Sides). x.marks) by.0.same) ran refl tt
  op-next (Seal n body tuples app rtag) new runs reply before after rules fault right free shown shows told by ran tells fine =
      quiet (Seal n body tuples app rtag) new reply before after runs told by.0.none (ap (λ (x : Sides). x.marks) by.0.same) ran refl tt
  op-next (Write v n body app) new runs reply before after rules fault right free shown shows told by ran tells fine =
      let x = ran.fallen now told in
      let req = request-fits s devices v n body over.bound (no_fault (data_fault s.pages s.block n body) _ _ rules.rules) fault in
      record {
        left = x.0;
        units = x.1.0;
        kept = kept-write s devices us over u leg p now same old counted e k has i v n body app req (tag-fits app rules.ranges.1) right free shown new runs reply x.0 by.1 x.1.1 fine;
      }
  op-next (Fetch v n body) new runs reply before after rules fault right free shown shows told by ran tells fine =
      let x = ran.fallen now told in
      let req = request-fits s devices v n body over.bound (no_fault (data_fault s.pages s.block n body) _ _ rules.rules) fault in
      record {
        left = x.0;
        units = x.1.0;
        kept = kept-fetch s devices us over u leg p now same old counted e k has i v n body req free shown new runs reply x.0 by x.1.1 fine;
      }
  op-next (WritePi v n body tuples) new runs reply before after rules fault right free shown shows told by ran tells fine =
      quiet (WritePi v n body tuples) new reply before after runs told by.0.none (ap (λ (x : Sides). x.marks) by.0.same) ran refl tt
  op-next (FetchPi v n body tuples) new runs reply before after rules fault right free shown shows told by ran tells fine =
      quiet (FetchPi v n body tuples) new reply before after runs told by.0.none (ap (λ (x : Sides). x.marks) by.0.same) ran refl tt
  op-next (Overwrite dev lba change) new runs reply before after rules fault right free shown shows told by ran tells fine =
      overwritten dev lba change (overwrite-fits s.mode.protect t devices s.block dev lba change fault).to right new reply before after told by.0.same by.1 tells shows
  op-next Wait new runs reply before after rules fault right free shown shows told by ran tells fine = quiet Wait new reply before after runs told by.0.none (ap (λ (x : Sides). x.marks) by.0.same) ran refl tt

-- op number k of the script, from 0
pub kept-op : (s : Script) (devices : List DeviceInfo) (us : List Stored) (over : IsMirrorOver s devices us) (u : ℕ) (leg : Bool) (p : IsUnaltered s devices us u leg) (now : List Stored) (same : shapes_of now ≡ shapes_of us) (old : Sides)
    (counted : length old.marks ≡ half_of s devices) (e : Brought) (k : ℕ) (has : HasLeg s devices us u leg k e (blocks_told now) (marks_of old.marks u)) → k < length s.ops
    → (new : Sides) (runs : List LegRun) (reply : Reply) (before after : RigState) → before.units ≡ Some now → OpBy s (half_of s devices) (k + 1) (op_at s.ops k) old new runs reply → OpRan (op_at s.ops k) (table_of s devices) devices runs before after
    → OpTells (op_at s.ops k) reply before after → IsShownOverwrite s devices us (not leg) u k (op_at s.ops k) old after e → fails_on_leg (place_on s devices leg u) runs ≡ false
    → Next s devices us over u leg p now same old counted e k has (k + 1) (op_at s.ops k) new reply after
kept-op s devices us over u leg p now same old counted e k has more new runs reply before after told by ran tells shows fine =
    op-next s devices us over u leg p now same old counted e k has (k + 1) (op_at s.ops k) new runs reply before after (op-keeps s over.bound.keeps k more) (op-fits s devices k over.bound more) (p.right k more)
    (free-at s devices us over u leg p k more) (shown-at s devices us over u leg p k more) shows told by ran tells fine

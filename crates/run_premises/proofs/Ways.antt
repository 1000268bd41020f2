-- One block on its way under faults that have the form.
use Rattle.std.proofs.Common.{◌≡◌, ℕ, ◌%◌, true, false, ◌&&◌, not, List, ◌++◌, drop, Option, Some, None, subst}
use Rattle.std.specs.Prelude.{All, Result}
use Rattle.std.specs.List.{list_all}
use Rattle.std.proofs.lemmas.Bool.{and_parts, not-true}
use Rattle.pi_guard.specs.declared.GuardKind.{GuardKind}
use Rattle.pi_guard.specs.declared.GuardKind.TheVariants.{Crc}
use Rattle.pi_tuple.specs.declared.checks.PiType.TheVariants.{One}
use Rattle.pi_tuple.specs.declared.checks.Check.{Check}
use Rattle.fault_schedule.specs.Altered.{fails_of, is_line_of}
use Rattle.fault_schedule.specs.declared.fault.Crossing.{Crossing}
use Rattle.fault_schedule.specs.declared.fault.Crossing.TheVariants.{AdapterToHost, HostToAdapter, MediumToTarget, TargetToAdapter}
use Rattle.fault_schedule.specs.declared.fault.FaultLine.{FaultLine}
use Rattle.integrity_payload.specs.declared.payload.Owner.{Owner}
use Rattle.stack_ops.specs.declared.op.Op.{Op}
use Rattle.ref_remap.specs.Remapped.{remapped_bytes}
use Rattle.rig_api.specs.Frames.{data_of}
use Rattle.rig_api.specs.Passing.{found_in, from_medium, then_crossed}
use Rattle.block_path.specs.Routes.{by_target, passage}
use Rattle.block_path.specs.WayIn.{Delivers, Spoils, Stops, WayIn, adapter_finds_in, at_host, delivered_unless, from_device, from_wire, mapped_back, owner_finds, received, verified, way_in}
use Rattle.block_path.specs.WayOut.{WayOut, sent, way_out}
use Rattle.block_path.proofs.Cells.{AllBelow}
use Rattle.block_path.proofs.Served.{sent_or}
use Rattle.run_laws.specs.Passed.{arrives, crossed, shows_in, shows_out, AtAdapter, AtTarget, has_flip, has_shift, is_flip, Block, Setting, route}
use Rattle.run_laws.proofs.Found.{unless_rule}
use Rattle.run_laws.proofs.Layers.{checked}
use Rattle.run_premises.proofs.OneWay.{Fine as FineFrame, Kept as KeptFrame, Right as RightFrame, comes_shown as shown_in, crossed_fine as fine_crossed, goes_kept as kept_out, goes_shown as shown_out, mapped_fine as fine_mapped, received_fine as fine_received, received_right as right_received, sent_fine as fine_sent}
use Rattle.run_premises.proofs.Delivered.{OfBytes as DeliversBytes, comes_bytes as delivered}
use Rattle.run_premises.specs.Forms.{is_good_line, is_shown, is_shown_line, kind_at, label_of, mask_of, may_mend, may_undo}
use Rattle.run_premises.specs.FormedRun.{IsOfBytes}
use Rattle.run_premises.proofs.Lines.{IsLineOf, line_of, pick}

module _ (m' : Setting) (ops : List Op) (even : m'.size % 2 ≡ 0) (flips : All (λ (line : FaultLine). IsOfBytes line.kind) m'.site.faults)
    (form : list_all (is_good_line m'.mode.kind m'.size m'.site.faults ops) m'.site.faults ≡ true) where
  abbrev pub m : Setting
  m = checked m'

  abbrev pub n : ℕ
  n = m'.size

  abbrev pub kind : GuardKind
  kind = m'.mode.kind

  abbrev faults : List FaultLine
  faults = m'.site.faults

  -- a frame of full size, of bytes, that is no escape
  abbrev pub Fine : List ℕ → Type 0
  Fine x = FineFrame m' x

  -- its guard is that of its data
  abbrev pub Right : GuardKind → List ℕ → Type 0
  Right k x = RightFrame m' k x

  -- a line that alters the block at this crossing
  pub record Line (b : Block) (at : Crossing) : Type 0 where
    pub line : FaultLine
    pub is : IsLineOf line at (route m b).label
    pub shown : is_shown n (kind_at kind at) (mask_of n faults at (route m b).label) ≡ true
    pub mends : may_mend ops line ≡ false
    pub undoes : may_undo ops faults line ≡ false

  pub the_line : (b : Block) (at : Crossing) → has_flip m b at ≡ true → Line b at
  the_line b at h =
      let c = pick (λ line. is_line_of line at (route m b).label && is_flip line.kind) (is_good_line kind n faults ops) faults h form in
      let l = line_of c.line at (route m b).label c.one in
      let p = and_parts (is_shown_line kind n faults c.line) (not (may_mend ops c.line) && not (may_undo ops faults c.line)) c.other in
      let q = and_parts (is_flip c.line.kind) (is_shown n (kind_at kind c.line.at) (mask_of n faults c.line.at (label_of c.line))) p.0 in
      let r = and_parts (not (may_mend ops c.line)) (not (may_undo ops faults c.line)) p.1 in
      record {
        line = c.line;
        is = l;
        shown = subst (λ at. is_shown n (kind_at kind at) (mask_of n faults at (route m b).label) ≡ true) l.crossing
            (subst (λ label. is_shown n (kind_at kind c.line.at) (mask_of n faults c.line.at label) ≡ true) l.labelled q.1);
        mends = not-true _ r.0;
        undoes = not-true _ r.1;
      }

  -- ---- a block, as `OneWay` has it

  pub its_lines : (b : Block) (at : Crossing) → has_flip m b at ≡ true → is_shown n (kind_at kind at) (mask_of n faults at (route m b).label) ≡ true
  its_lines b at q = (the_line b at q).shown

  pub mapped_fine : (from to : ℕ) (x : List ℕ) → Fine x → Fine (data_of n x ++ remapped_bytes One from to (drop n x))
  mapped_fine from to x h = fine_mapped m' from to x h

  pub sent_fine : (b : Block) (x : List ℕ) → Fine x → Fine (sent (route m b) x)
  sent_fine b x h = fine_sent m' b x h

  pub received_fine : (b : Block) (x : List ℕ) → Fine x → Fine (received (route m b) x)
  received_fine b x h = fine_received m' b x h

  pub received_right : (b : Block) (x : List ℕ) → Fine x → Right Crc x → Right kind (received (route m b) x)
  received_right b x h r = right_received m' b x h r

  abbrev pub OfBytes : WayIn → Type 0
  OfBytes w = DeliversBytes w

  pub comes_bytes : (b : Block) (owner : Owner) (stored : List ℕ) → Fine stored → OfBytes (way_in faults m.site.device (route m b) owner stored)
  comes_bytes b owner stored h = delivered m' even flips b (its_lines b) owner stored h

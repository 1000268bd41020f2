-- A line that alters no byte, moves no address and fails no block leaves the ways as they are; the frames that a disk has in place of a block.
use Rattle.std.proofs.Common.{◌≡◌, ◌≢◌, ◌<◌, ℕ, zero, suc, ◌+◌, length, arith, Bool, true, false, if◌then◌else◌, List, [], ◌∷◌, ◌++◌, take, drop, Some, None, refl, sym, ap, ◌∙◌}
use Rattle.std.specs.Prelude.{bit_xor, Result, Ok, Err}
use Rattle.pi_tuple.specs.Tuples.{ref_tag}
use Rattle.pi_tuple.specs.declared.checks.PiType.{PiType}
use Rattle.pi_tuple.specs.declared.checks.PiType.TheVariants.{Zero, One, Two, Three}
use Rattle.pi_tuple.specs.declared.checks.Check.{Check}
use Rattle.pi_tuple.proofs.TupleLaws.{tag_below}
use Rattle.pi_guard.specs.Guards.{crc}
use Rattle.fault_schedule.specs.Altered.{altered, kept, kept_by, keep_or}
use Rattle.fault_schedule.specs.declared.Label.{Label}
use Rattle.fault_schedule.specs.declared.fault.Crossing.{Crossing}
use Rattle.fault_schedule.specs.declared.fault.Crossing.TheVariants.{AdapterToTarget, HostToAdapter, TargetToMedium}
use Rattle.fault_schedule.specs.declared.fault.FaultKind.TheVariants.{Keep}
use Rattle.fault_schedule.specs.declared.fault.FaultLine.{FaultLine}
use Rattle.integrity_payload.specs.declared.payload.Owner.{Owner}
use Rattle.rig_api.specs.Frames.{data_of, tuple_of}
use Rattle.pi_tuple.specs.Finds.{is_zero}
use Rattle.block_path.proofs.Cells.{below}
use Rattle.walk_laws.proofs.TupleFrames.{frame_is, frame_small}
use Rattle.rig_api.specs.Passing.{then_crossed, to_medium}
use Rattle.block_path.specs.Routes.{by_target, passage, target}
use Rattle.block_path.specs.WayOut.{Stores, at_device, from_adapter, mapped_out, to_wire, way_out}
use Rattle.walk_laws.specs.Settings.{Block, Setting, route}
use Rattle.walk_laws.specs.PlainMap.{MapEntry}
use Rattle.walk_laws.specs.UnderMap.{stored_as}
use Rattle.walk_laws.proofs.CalmWays.{IsProper, here, quiet}
use Rattle.mode_map.specs.Finders.{IsCleanBlock, held_by_host, is_served}
use Rattle.mode_map.specs.Failures.{Comes, Delivers, at_home, expected, failure_cell, fault_of, joined, read_comes, stored_guard, stored_tag, IsSpoilt, write_comes, write_end}
use Rattle.mode_map.specs.declared.failures.Cell.{Cell}
use Rattle.mode_map.specs.declared.failures.Cell.TheVariants.{Found, Medium, NoTuple, Unseen, Where}
use Rattle.mode_map.specs.declared.failures.Failure.TheVariants.{OtherBlock}
use Rattle.mode_map.proofs.Finding.{Unescaped, goes-out, kept as kept_entry, open-wire, proper, served-some}
use Rattle.mode_map.proofs.Flips.{label_of, own-line, xored-zero}
use Rattle.mode_map.proofs.Stages.{to-medium, to-wire}
use Rattle.mode_map.proofs.Reading.{delivers, other-guard, other-tag}

-- ---- a line of a part that is kept

module _ (b : Block) (n : ℕ) where
  abbrev pub line : List FaultLine
  line = fault_of b TargetToMedium (Keep n)

  nothing : (c : Bool) → bit_xor (if c then 0 else 0) 0 ≡ 0
  nothing true = refl
  nothing false = refl

  pub unaltered : (at : Crossing) (label : Label) (frame : List ℕ) → altered line at label frame ≡ frame
  unaltered at label frame = xored-zero _ 0 frame (λ k. nothing _)

  crossed : (at : Crossing) (came : Result (List ℕ) Check) → then_crossed line (Some (label_of b)) at came ≡ came
  crossed at (Ok frame) = ap (λ f. Ok f) (unaltered at (label_of b) frame)
  crossed at (Err check) = refl

  pub left : (old frame : List ℕ) → kept line (label_of b) old frame ≡ take n frame ++ drop n old
  left old frame = ap (λ c. kept_by (keep_or (if c then Some n else None) None) old frame) (own-line b TargetToMedium)

  module _ (m : Setting) where
    same-passage : passage line (route m b) ≡ passage [] (route m b)
    same-passage = refl

    stores : (f : List ℕ) → (target line).stores (route m b) f ≡ (target []).stores (route m b) f
    stores f =
        ap by_target
        (ap (λ p. to_medium line p f) same-passage ∙ to-medium line (route m b) f
        ∙ crossed TargetToMedium (to_medium [] (passage [] (route m b)) (altered line AdapterToTarget (label_of b) f))
        ∙ ap (to_medium [] (passage [] (route m b))) (unaltered AdapterToTarget (label_of b) f))

    carried-on : (x : Result (List ℕ) Check) → from_adapter (target line) (route m b) x ≡ from_adapter (target []) (route m b) x
    carried-on (Err check) = refl
    carried-on (Ok f) = ap (at_device f) (stores f)

    pub goes : (f : List ℕ) → way_out line (target line) (route m b) f ≡ way_out [] (target []) (route m b) f
    goes f =
        ap (from_adapter (target line) (route m b)) (to-wire line (route m b) (mapped_out (route m b) f) ∙ ap (to_wire [] (route m b)) (unaltered HostToAdapter (label_of b) (mapped_out (route m b) f)))
        ∙ carried-on (to_wire [] (route m b) (mapped_out (route m b) f))

-- ---- the laws

pub same-joined : (c : Cell) → joined c c ≡ c
same-joined (Found layer at) = refl
same-joined (Medium at) = refl
same-joined Unseen = refl
same-joined Where = refl
same-joined NoTuple = refl

module _ (m : Setting) (b : Block) (owner : Owner) (served : is_served m.mode.protect ≡ true) where
  set-field : 0 < m.mode.protect
  set-field = served-some m.mode.protect served

  pub older : (old : MapEntry) → IsCleanBlock m old → read_comes m b owner [] (at_home m b old) ≡ Delivers old.body
  older old c = delivers m b set-field c.mask owner m.mode.dix m.mode.dif m.ty old (proper m old c)

  pub by-type : (mask : m.mode.mask ≡ 0) (dix dif : Bool) (ty : PiType) (e : MapEntry) (lba : ℕ) → IsProper m e → Unescaped ty e → ref_tag lba ≢ ref_tag (route m b).lba →
      read_comes (quiet m dix dif ty) b owner [] (stored_as (quiet m dix dif ty) lba e) ≡ expected (stored_tag (quiet m dix dif ty).mode ty) e.body
  by-type mask dix false Zero e lba p u n = delivers m b set-field mask owner dix false Zero e p
  by-type mask dix true Zero e lba p u n = delivers m b set-field mask owner dix true Zero e p
  by-type mask dix dif One e lba p u n = other-tag m b set-field mask owner e p (ref_tag lba) (tag_below lba) dix dif One refl (open-wire One e (crc e.body) lba refl u) n
  by-type mask dix dif Two e lba p u n = other-tag m b set-field mask owner e p (ref_tag lba) (tag_below lba) dix dif Two refl (open-wire Two e (crc e.body) lba refl u) n
  by-type mask dix false Three e lba p u n = delivers m b set-field mask owner dix false Three e p
  by-type mask dix true Three e lba p u n = delivers m b set-field mask owner dix true Three e p

  pub other : (e : MapEntry) (lba : ℕ) → IsCleanBlock m e → ref_tag lba ≢ ref_tag (route m b).lba → read_comes m b owner [] (stored_as m lba e) ≡ expected (failure_cell OtherBlock m.mode m.ty) e.body
  other e lba c n = by-type c.mask m.mode.dix m.mode.dif m.ty e lba (proper m e c) c.unescaped n ∙ sym (ap (λ x. expected x e.body) (same-joined (stored_tag m.mode m.ty)))

  pub lost : (old e : MapEntry) → IsCleanBlock m old → IsCleanBlock m e →
      write_comes m b (line b 0) e (λ stored. read_comes m b owner [] (kept (line b 0) (route m b).label (at_home m b old) stored)) ≡ Delivers old.body
  lost old e c d =
      let next : List ℕ → Comes = λ stored. read_comes m b owner [] (kept (line b 0) (route m b).label (at_home m b old) stored) in
      ap (λ w. write_end w next) (goes b 0 m (held_by_host m b e) ∙ goes-out m b set-field d.mask m.mode.dix m.mode.dif m.ty e (proper m e d) d.unescaped)
      ∙ ap (read_comes m b owner []) (left b 0 (at_home m b old) (stored_as m (here m b set-field) (kept_entry m b set-field d.mask m.mode.dix m.mode.dif m.ty e)))
      ∙ older old c

  -- ---- a torn block

  pub spoilt-read : (mask : m.mode.mask ≡ 0) (f : List ℕ) → is_zero m.ty ≡ false → IsSpoilt m f → read_comes m b owner [] f ≡ expected (stored_guard m.mode m.ty) (data_of m.size f)
  spoilt-read mask f z s =
      let bytes = below 256 f s.bytes in
      let whole = frame_is m.size f s.size bytes in
      ap (read_comes m b owner []) (sym whole)
      ∙ other-guard m b set-field mask owner (data_of m.size f) (tuple_of m.size f) (short m.size f s.size) (frame_small m.size f s.size bytes) s.wrong m.mode.dix m.mode.dif m.ty z s.unescaped
    where
      short : (size : ℕ) (f : List ℕ) → length f ≡ size + 8 → length (take size f) ≡ size
      short zero f h = refl
      short (suc size) [] h = absurd (omega (arith, h))
      short (suc size) (x ∷ f) h = ap suc (short size f (omega (arith, h)))

  pub torn : (mask : m.mode.mask ≡ 0) (n : ℕ) (old e : MapEntry) (carried stored : List ℕ) → is_zero m.ty ≡ false → way_out [] (target []) (route m b) (held_by_host m b e) ≡ Stores carried stored → IsSpoilt m (take n stored ++ drop n (at_home m b old)) →
      write_comes m b (line b n) e (λ s. read_comes m b owner [] (kept (line b n) (route m b).label (at_home m b old) s)) ≡ expected (stored_guard m.mode m.ty) (data_of m.size (take n stored ++ drop n (at_home m b old)))
  torn mask n old e carried stored z w s =
      ap (λ v. write_end v (λ s. read_comes m b owner [] (kept (line b n) (route m b).label (at_home m b old) s))) (goes b n m (held_by_host m b e) ∙ w)
      ∙ ap (read_comes m b owner []) (left b n (at_home m b old) stored)
      ∙ spoilt-read mask (take n stored ++ drop n (at_home m b old)) z s

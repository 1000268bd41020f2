-- The requests of a repair are of no op: no fault line names them, and their labels don't matter.
use Rattle.std.proofs.Common.{◌≡◌, ◌≤◌, ℕ, suc, ◌+◌, ◌*◌, Bool, true, false, not, eqb, ◌&&◌, ◌||◌, if◌then◌else◌, List, [], ◌∷◌, ◌++◌, length, drop, get_or, None, refl, sym, ap, ◌∙◌, arith}
use Rattle.std.specs.Prelude.{nat_le, nat_lt}
use Rattle.std.proofs.lemmas.Bool.{and_parts, eqb-true, false≢true, or_parts}
use Rattle.fault_schedule.specs.Altered.{altered, shift_of}
use Rattle.fault_schedule.specs.declared.Label.{Label}
use Rattle.fault_schedule.specs.declared.fault.Crossing.{Crossing}
use Rattle.fault_schedule.specs.declared.fault.FaultLine.{FaultLine}
use Rattle.integrity_payload.specs.declared.payload.Owner.TheVariants.{Block as OfBlock}
use Rattle.stack_ops.specs.declared.op.Op.{Op}
use Rattle.stack_ops.specs.declared.op.Op.TheVariants.{FetchPi, Write}
use Rattle.volume_table.specs.Places.{place_in, volume_len}
use Rattle.volume_table.specs.Tables.{Table}
use Rattle.volume_table.specs.declared.device.DeviceInfo.{DeviceInfo}
use Rattle.block_path.specs.Blocks.{fetched_cell, own_frame}
use Rattle.block_path.specs.Routes.{target}
use Rattle.block_path.specs.WayIn.{delivered_of, way_in}
use Rattle.block_path.specs.WayOut.{stored_of}
use Rattle.walk_laws.specs.Past.{Brought}
use Rattle.walk_laws.specs.Settings.{Block, Setting, route}
use Rattle.script_text.specs.Bindings.{or_else, request_at}
use Rattle.rig_api.specs.Frames.{stored_size}
use Rattle.script_text.specs.declared.script.Script.{Script}
use Rattle.mirror_volume.proofs.LegsPassed.{if-none, or-none}
use Rattle.mirror_volume.specs.LegsPassed.{faults_fault, is_bad_kind, is_bad_line, is_past, length_fault, mirror_fault, mode_fault, ops_fault, Each}
use Rattle.mirror_laws.specs.Repair.{reading, steady, writing}
use Rattle.mirror_volume.specs.declared.piece.Piece.{Piece}
use Rattle.mirror_volume.specs.Inner.{first_label, first_virt, own_faults, own_script, page_segs, pages_for, puts, read_pi_script, write_script}
use Rattle.mirror_volume.specs.MirrorScript.{without_faults}
use Rattle.mirror_volume.proofs.Renumbered.{in_same, is_own, medium_same, out_same, own_line}

-- ---- no line names an op of number 0

abbrev pub NoneOfZero : List FaultLine → Type 0
NoneOfZero faults = Each (λ f. f.op ≡ 0 → ⊥) faults

not-of-zero : (ops : List Op) (f : FaultLine) → is_past f.k (request_at ops f.op) ≡ false → f.op ≡ 0 → ⊥
not-of-zero ops f h e = false≢true (sym h ∙ ap (λ (n : ℕ). is_past f.k (request_at ops n)) e)

none-named : (protect stored : ℕ) (ops : List Op) (earlier faults : List FaultLine) (lines : List ℕ) → length faults ≤ length lines → faults_fault protect stored ops earlier faults lines ≡ None → NoneOfZero faults
none-named protect stored ops earlier [] lines l h = tt
none-named protect stored ops earlier (f ∷ faults) [] l h = absurd (omega arith)
none-named protect stored ops earlier (f ∷ faults) (line ∷ lines) l h =
    let n = if-none (is_bad_line protect stored ops earlier f) _ (faults_fault protect stored ops (earlier ++ (f ∷ [])) faults lines) h in
    let a = or_parts (not (eqb protect 1)) (is_past f.k (request_at ops f.op) || is_bad_kind stored earlier f f.kind) n.0 in
    (not-of-zero ops f ((or_parts (is_past f.k (request_at ops f.op)) (is_bad_kind stored earlier f f.kind) a.1).0), none-named protect stored ops (earlier ++ (f ∷ [])) faults lines (omega arith) n.1)

pub none-of-zero : (s : Script) (t : Table) (devices : List DeviceInfo) → length s.lines ≡ length s.faults + length s.ops → mirror_fault s t devices ≡ None → NoneOfZero s.faults
none-of-zero s t devices l h =
    let ops = ops_fault s.mode.protect t devices s.block s.ops (drop (length s.faults) s.lines) in
    let faults = faults_fault s.mode.protect (stored_size t.ty s.block) s.ops [] s.faults s.lines in
    let a = or-none (mode_fault s.mode t.ty) (or_else (length_fault (volume_len t.entries)) (or_else faults ops)) h in
    let b = or-none (length_fault (volume_len t.entries)) (or_else faults ops) a.1 in
    let c = or-none faults ops b.1 in
    none-named s.mode.protect (stored_size t.ty s.block) s.ops [] s.faults s.lines (omega (arith, l)) c.0

none-own : (p : Piece) (request : ℕ) (faults : List FaultLine) → p.op ≡ 0 → NoneOfZero faults → own_faults p request faults ≡ []
none-own p request [] e h = refl
none-own p request (f ∷ faults) e h = by (is_own p request f) refl (none-own p request faults e h.1) where
  by : (c : Bool) → is_own p request f ≡ c → own_faults p request faults ≡ [] → (if c then own_line p request f ∷ own_faults p request faults else own_faults p request faults) ≡ []
  by true q rest = absurd (h.0 (eqb-true f.op p.op ((and_parts (eqb f.op p.op) (nat_le (first_label p) f.k && nat_lt f.k (first_label p + p.n)) q).0) ∙ e))
  by false q rest = rest

module _ (s : Script) (half : ℕ) (p : Piece) (e : p.op ≡ 0) (h : NoneOfZero s.faults) where
  pub read-quiet : read_pi_script s half p ≡ read_pi_script (without_faults s) half p
  read-quiet =
      ap (λ (faults : List FaultLine). own_script s p.n (pages_for (p.n * s.block) + pages_for (p.n * 8)) faults
      (FetchPi (first_virt half p) p.n (page_segs 0 (pages_for (p.n * s.block)) (p.n * s.block)) (page_segs (pages_for (p.n * s.block)) (pages_for (p.n * 8)) (p.n * 8)) ∷ [])) (none-own p 1 s.faults e h)

  pub write-quiet : (app : ℕ) (bytes : List ℕ) → write_script s half p app bytes ≡ write_script (without_faults s) half p app bytes
  write-quiet app bytes =
      ap (λ (faults : List FaultLine). own_script s p.n (pages_for (p.n * s.block)) faults
      (puts 0 (pages_for (p.n * s.block)) bytes ++ (Write (first_virt half p) p.n (page_segs 0 (pages_for (p.n * s.block)) (p.n * s.block)) app ∷ []))) (none-own p (suc (pages_for (p.n * s.block))) s.faults e h)

-- ---- without faults a block goes the same ways under any label

module _ (m : Setting) (op k op' k' virt : ℕ) where
  abbrev a : Block
  a = record { op = op; k = k; virt = virt }

  abbrev b : Block
  b = record { op = op'; k = k'; virt = virt }

  abbrev la : Label
  la = record { op = op; k = k }

  abbrev lb : Label
  lb = record { op = op'; k = k' }

  abbrev q : Setting
  q = steady m

  same : (at : Crossing) (x : List ℕ) → altered [] at la x ≡ altered [] at lb x
  same at x = refl

  unshifted : (at : Crossing) → shift_of [] at op ≡ shift_of [] at op'
  unshifted at = refl

  abbrev dev : ℕ
  dev = (place_in m.entries virt).0

  abbrev lba : ℕ
  lba = (place_in m.entries virt).1

  pub reads-under : (blocks : List (List ℕ)) → reading q a blocks ≡ reading q b blocks
  reads-under blocks =
      ap (λ at. delivered_of (way_in [] (target []) (route q a) OfBlock (get_or blocks (m.site.cell dev at) []))) (medium_same [] [] la lb virt dev lba m.ty m.size m.mode same unshifted refl)
      ∙ ap delivered_of (in_same [] [] la lb virt dev lba m.ty m.size m.mode same unshifted refl OfBlock (get_or blocks (fetched_cell q.site (route q b)) []))

  pub writes-under : (e : Brought) → writing q a e ≡ writing q b e
  writes-under e = ap stored_of (out_same [] [] la lb virt dev lba m.ty m.size m.mode same unshifted refl (own_frame (route q b) e.app e.body))

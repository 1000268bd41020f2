-- Which virtual block each step of ops moves, and which lines alter it on its way to the medium.
use Rattle.std.proofs.Common.{◌≡◌, ℕ, suc, ◌+◌, ◌-◌, ◌%◌, ◌^◌, Bool, true, false, eqb, ◌&&◌, not, List, [], ◌∷◌, get_or, refl, sym, ap, subst, ◌∙◌, arith}
use Rattle.std.specs.Prelude.{All}
use Rattle.std.specs.List.{list_all, list_any}
use Rattle.std.proofs.lemmas.Bool.{and_from, and_parts, eq-eqb, false≢true, false_from_ne_true}
use Rattle.fault_schedule.specs.Altered.{is_line_of, is_same}
use Rattle.fault_schedule.specs.declared.fault.Crossing.{Crossing}
use Rattle.fault_schedule.specs.declared.fault.Crossing.TheVariants.{HostToAdapter, MediumToTarget, TargetToMedium}
use Rattle.fault_schedule.specs.declared.fault.FaultLine.{FaultLine}
use Rattle.integrity_payload.specs.declared.payload.Owner.TheVariants.{Block as OfBlock, App as OfApp}
use Rattle.stack_ops.specs.declared.op.Op.{Op}
use Rattle.stack_ops.specs.declared.op.Op.TheVariants.{Fetch, FetchPi, Fill, Overwrite, Put, Seal, Show, Wait, Write, WritePi}
use Rattle.volume_table.specs.Places.{volume_len}
use Rattle.block_path.specs.Acts.{State}
use Rattle.block_path.proofs.Cells.{AllBelow, below}
use Rattle.run_laws.specs.Passed.{AllFit, Fits, LiesInImage, detectable, has_flip, is_flip, steps_from, Block, Setting, block_of, route, Reads, Seals, Step, Writes, WritesPi, body_of, frame_at, steps_of, tuple_of, AreClean, NoneEscapes}
use Rattle.run_laws.proofs.Passed.{frame_length, part_length, below_replicate}
use Rattle.run_laws.proofs.Layers.{checked}
use Rattle.run_laws.proofs.Reading.{checked_form, none_escapes}
use Rattle.stack_ops.specs.Ops.{first_virt, is_overwrite}
use Rattle.run_premises.specs.Forms.{brings_tuples, is_good_line, is_stored_altered, op_of, virt_of}
use Rattle.run_premises.specs.FormedRun.{HasFormedFaults, IsOfBytes}
use Rattle.run_premises.proofs.Accounts.{AllSuit, both_suit, each_suits}
use Rattle.run_premises.proofs.Lines.{IsLineOf, line_of, none_of}

module _ (m' : Setting) (ops : List Op) where
  abbrev m : Setting
  m = checked m'

  abbrev faults : List FaultLine
  faults = m'.site.faults

  -- the block is the one that its op names at its place
  abbrev pub IsNamed : Block → Type 0
  IsNamed b = first_virt (op_of ops b.op) + b.k ≡ b.virt

  -- an application brings its tuple
  abbrev pub Brings : Block → Type 0
  Brings b = brings_tuples (op_of ops b.op) ≡ true

  abbrev pub AllFitting : List Step → Type 0
  AllFitting = AllSuit m IsNamed Brings

  -- ---- lines of a block

  pub virt_is : (b : Block) (at : Crossing) (line : FaultLine) → IsLineOf line at (route m b).label → IsNamed b → virt_of ops line ≡ b.virt
  virt_is b at line h e = ap (λ label. first_virt (op_of ops label.op) + label.k) h.labelled ∙ e

  -- where no line alters the virtual block on its way to the medium, none alters this one
  pub kept_there : (b : Block) → IsNamed b → is_stored_altered ops faults b.virt ≡ false → has_flip m b TargetToMedium ≡ false
  kept_there b e h =
      none_of (λ line. is_line_of line TargetToMedium (route m b).label && is_flip line.kind) (λ line. is_same line.at TargetToMedium && eqb (virt_of ops line) b.virt) faults (λ line t.
      let l = line_of line TargetToMedium (route m b).label t in
      and_from (is_same line.at TargetToMedium) (eqb (virt_of ops line) b.virt) (ap (λ at. is_same at TargetToMedium) l.crossing) (eq-eqb (virt_of ops line) b.virt (virt_is b TargetToMedium line l e)))
      h

  -- ---- the steps of ops

  op_suits : (i : ℕ) (op : Op) → op_of ops i ≡ op → Fits m op → AllFitting (steps_of m i op)
  op_suits i (Fill seg byte) e h = (below_replicate 256 seg.len byte h, tt)
  op_suits i (Put page off bytes) e h = (below 256 bytes h, tt)
  op_suits i (Show seg) e h = (tt, tt)
  op_suits i (Seal c body tuples app rtag) e h = each_suits m IsNamed Brings 0 c (λ k. Seals (body_of m.size body k) (tuple_of tuples k) app ((rtag + k) % 2 ^ 32)) (λ j l. tt)
  op_suits i (Write v c body app) e h =
      each_suits m IsNamed Brings 0 c (λ k. Writes (block_of i v k) app (body_of m.size body k)) (λ j l. (
        ap (λ o. first_virt o + j) e,
        (
          (let w = h.0.within in omega (arith, w, l)),
          (part_length body m.size j c h.0.bytes_are (omega (arith, l)), h.1),
        ),
      ))
  op_suits i (Fetch v c body) e h = each_suits m IsNamed Brings 0 c (λ k. Reads (block_of i v k) OfBlock (body_of m.size body k)) (λ j l. (ap (λ o. first_virt o + j) e, omega (arith, h, l)))
  op_suits i (WritePi v c body tuples) e h =
      each_suits m IsNamed Brings 0 c (λ k. WritesPi (block_of i v k) (frame_at m.size body tuples k)) (λ j l. (
        ap (λ o. first_virt o + j) e,
        (
          (let w = h.0.within in omega (arith, w, l)),
          (frame_length m.size body tuples j c h.0.bytes_are h.1.0 (omega (arith, l)), ap brings_tuples e),
        ),
      ))
  op_suits i (FetchPi v c body tuples) e h = each_suits m IsNamed Brings 0 c (λ k. Reads (block_of i v k) OfApp (frame_at m.size body tuples k)) (λ j l. (ap (λ o. first_virt o + j) e, omega (arith, h, l)))
  op_suits i (Overwrite dev lba change) e h = absurd h
  op_suits i Wait e h = tt

  -- the ops from op i on are the rest
  ops_suit : (i : ℕ) (rest : List Op) → ((j : ℕ) → op_of ops (i + j) ≡ get_or rest j Wait) → AllFit m rest → AllFitting (steps_from m i rest)
  ops_suit i [] e h = tt
  ops_suit i (op ∷ rest) e h =
      let first : op_of ops i ≡ op = (let z : i ≡ i + 0 = omega arith in ap (op_of ops) z ∙ e 0) in
      both_suit m IsNamed Brings (steps_of m i op) (steps_from m (suc i) rest) (op_suits i op first h.0)
      (ops_suit (suc i) rest (λ j. let z : suc i + j ≡ i + suc j = omega arith in ap (op_of ops) z ∙ e (suc j)) h.1)

  pub all_suit : AllFit m ops → AllFitting (steps_from m 1 ops)
  all_suit h = ops_suit 1 ops (λ j. let z : 1 + j - 1 ≡ j = omega arith in ap (λ v. get_or ops v Wait) z) h

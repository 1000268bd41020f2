-- The ops of a script fit, and each op whose block is flipped lists it, or leaves it altered.
use Rattle.std.proofs.Common.{◌≡◌, ◌<◌, ◌≤◌, ℕ, zero, suc, ◌+◌, ◌%◌, ◌^◌, List, [], ◌∷◌, refl, arith}
use Rattle.pi_tuple.specs.declared.checks.Check.{Check}
use Rattle.pi_tuple.specs.declared.checks.Check.TheVariants.{Guard, RefTag}
use Rattle.fault_schedule.specs.declared.fault.Crossing.{Crossing}
use Rattle.fault_schedule.specs.declared.fault.Crossing.TheVariants.{AdapterToHost, AdapterToTarget, HostToAdapter, MediumToTarget, TargetToAdapter, TargetToMedium}
use Rattle.bio_core.specs.declared.fate.Why.{Why}
use Rattle.bio_core.specs.declared.fate.Why.TheVariants.{Adapter, Target}
use Rattle.integrity_payload.specs.declared.payload.Owner.{Owner}
use Rattle.integrity_payload.specs.declared.payload.Owner.TheVariants.{Block as OfBlock, App as OfApp}
use Rattle.page_pool.specs.declared.segs.Seg.{Seg}
use Rattle.stack_ops.specs.declared.op.Op.{Op}
use Rattle.stack_ops.specs.declared.op.Op.TheVariants.{Fetch, FetchPi, Fill, Overwrite, Put, Seal, Show, Wait, Write, WritePi}
use Rattle.volume_table.specs.Places.{volume_len}
use Rattle.block_path.specs.WayIn.{owner_says}
use Rattle.block_path.proofs.Cells.{below}
use Rattle.walk_laws.specs.CalmRun.{AllFit, Fits, LiesInImage}
use Rattle.walk_laws.specs.ReadsAs.{landing, read_op}
use Rattle.walk_laws.specs.Settings.{Setting, block_of}
use Rattle.walk_laws.specs.Steps.{Reads, Seals, Step, Writes, WritesPi, body_of, each_from, frame_at, steps_of, tuple_of}
use Rattle.walk_laws.proofs.CalmRuns.{frame_length, part_length}
use Rattle.walk_laws.proofs.InSteps.{read_reply, read_steps}
use Rattle.walk_laws.proofs.TupleFrames.{below_replicate}
use Rattle.lab_laws.proofs.Flipped.{IsOne, IsSeenFlip}
use Rattle.lab_laws.proofs.OneLine.{IsOwn, m0}
use Rattle.lab_laws.proofs.Marked.{host_out, medium_in, wire_in, wire_out}
use Rattle.lab_laws.proofs.AtHost.{host_in, host_tag}
use Rattle.lab_laws.proofs.Beside.{AllFit as StepsFit, Fit}
use Rattle.lab_laws.proofs.Listed.{app_listed, app_marked, read_either, read_listed, write_listed, write_marked}
use Rattle.lab_laws.proofs.InOps.{Alters, Lists, MayList, OpsFit}

module _ (m' : Setting) (even : m'.size % 2 ≡ 0) (image : List (List ℕ)) (lies : LiesInImage (m0 m' TargetToMedium 0 0 0 0) (volume_len m'.entries) image) (op k off byte : ℕ) where
  abbrev n : ℕ
  n = m'.size

  abbrev count : ℕ
  count = volume_len m'.entries

  -- ---- ops fit

  module _ (at : Crossing) (check : Check) where
    abbrev was : Setting
    was = m0 m' at op k off byte

    abbrev FitsStep : Step → Type 0
    FitsStep step = Fit m' even image lies at op k off byte check step

    abbrev FitSteps : List Step → Type 0
    FitSteps steps = StepsFit m' even image lies at op k off byte check steps

    each_fits : (j c : ℕ) (f : ℕ → Step) → ((i : ℕ) → i < j + c → FitsStep (f i)) → FitSteps (each_from j c f)
    each_fits j zero f h = tt
    each_fits j (suc c) f h = (h j (omega arith), each_fits (suc j) c f (λ i l. h i (omega (arith, l))))

    op_fits : (i : ℕ) (o : Op) → Fits was o → FitSteps (steps_of was i o)
    op_fits i (Fill seg value) h = (below_replicate 256 seg.len value h, tt)
    op_fits i (Put page to bytes) h = (below 256 bytes h, tt)
    op_fits i (Show seg) h = (tt, tt)
    op_fits i (Seal c body tuples app rtag) h = each_fits 0 c (λ k. Seals (body_of n body k) (tuple_of tuples k) app ((rtag + k) % 2 ^ 32)) (λ j l. tt)
    op_fits i (Write v c body app) h =
        each_fits 0 c (λ k. Writes (block_of i v k) app (body_of n body k)) (λ j l. (
          (let w = h.0.within in omega (arith, w, l)),
          (part_length body n j c h.0.bytes_are (omega (arith, l)), h.1),
        ))
    op_fits i (Fetch v c body) h = each_fits 0 c (λ k. Reads (block_of i v k) OfBlock (body_of n body k)) (λ j l. omega (arith, h, l))
    op_fits i (WritePi v c body tuples) h =
        each_fits 0 c (λ k. WritesPi (block_of i v k) (frame_at n body tuples k)) (λ j l. (
          (let w = h.0.within in omega (arith, w, l)),
          frame_length n body tuples j c h.0.bytes_are h.1.0 (omega (arith, l)),
        ))
    op_fits i (FetchPi v c body tuples) h = each_fits 0 c (λ k. Reads (block_of i v k) OfApp (frame_at n body tuples k)) (λ j l. omega (arith, h, l))
    op_fits i (Overwrite dev lba change) h = absurd h
    op_fits i Wait h = tt

    pub ops_fit : (i : ℕ) (ops : List Op) → AllFit was ops → OpsFit m' even image lies at op k off byte check i ops
    ops_fit i [] h = tt
    ops_fit i (o ∷ ops) h = (op_fits i o h.0, ops_fit (suc i) ops h.1)

  -- ---- the flipped block's op

  module _ (check : Check) (seen : (f : ℕ → ℕ) → IsOne off byte f → IsSeenFlip n f check) where
    abbrev pub ListsAt : Crossing → Why → Op → Type 0
    ListsAt at w o = (i : ℕ) → i ≡ op → Lists m' even image lies at op k off byte check w i o

    its : (at : Crossing) (i v : ℕ) → i ≡ op → IsOwn m' at op k off byte (block_of i v k)
    its at i v e = record { op_is = e; k_is = refl }

    pub write_host : (v c app : ℕ) (body : List Seg) → k < c → ListsAt HostToAdapter (Adapter check) (Write v c body app)
    write_host v c app body l i e = record {
      blocks = c;
      f = λ j. Writes (block_of i v j) app (body_of n body j);
      request = record { steps = refl; reply = λ answers. refl };
      enough = l;
      others = λ j d p g. d g;
      marked = write_listed m' even image lies HostToAdapter op k off byte check (block_of i v k) app (body_of n body k) (Adapter check) (host_out m' even op k off byte check seen (block_of i v k) (its HostToAdapter i v e));
    }

    pub write_wire : (v c app : ℕ) (body : List Seg) → k < c → ListsAt AdapterToTarget (Target check) (Write v c body app)
    write_wire v c app body l i e = record {
      blocks = c;
      f = λ j. Writes (block_of i v j) app (body_of n body j);
      request = record { steps = refl; reply = λ answers. refl };
      enough = l;
      others = λ j d p g. d g;
      marked = write_listed m' even image lies AdapterToTarget op k off byte check (block_of i v k) app (body_of n body k) (Target check) (wire_out m' even op k off byte check seen (block_of i v k) (its AdapterToTarget i v e));
    }

    pub app_host : (v c : ℕ) (body tuples : List Seg) → k < c → ListsAt HostToAdapter (Adapter check) (WritePi v c body tuples)
    app_host v c body tuples l i e = record {
      blocks = c;
      f = λ j. WritesPi (block_of i v j) (frame_at n body tuples j);
      request = record { steps = refl; reply = λ answers. refl };
      enough = l;
      others = λ j d p g. d g;
      marked = app_listed m' even image lies HostToAdapter op k off byte check (block_of i v k) (frame_at n body tuples k) (Adapter check) (host_out m' even op k off byte check seen (block_of i v k) (its HostToAdapter i v e));
    }

    pub app_wire : (v c : ℕ) (body tuples : List Seg) → k < c → ListsAt AdapterToTarget (Target check) (WritePi v c body tuples)
    app_wire v c body tuples l i e = record {
      blocks = c;
      f = λ j. WritesPi (block_of i v j) (frame_at n body tuples j);
      request = record { steps = refl; reply = λ answers. refl };
      enough = l;
      others = λ j d p g. d g;
      marked = app_listed m' even image lies AdapterToTarget op k off byte check (block_of i v k) (frame_at n body tuples k) (Target check) (wire_out m' even op k off byte check seen (block_of i v k) (its AdapterToTarget i v e));
    }

    pub read_medium : (owner : Owner) (v c : ℕ) (body tuples : List Seg) → k < c → ListsAt MediumToTarget (Target check) (read_op owner v c body tuples)
    read_medium owner v c body tuples l i e = record {
      blocks = c;
      f = λ j. Reads (block_of i v j) owner (landing n owner body tuples j);
      request = record { steps = read_steps (was MediumToTarget check) i v c owner body tuples; reply = read_reply ((was MediumToTarget check).fails i) v c owner body tuples };
      enough = l;
      others = λ j d p g. d g;
      marked = read_listed m' even image lies MediumToTarget op k off byte check (block_of i v k) owner (landing n owner body tuples k) (Target check) (medium_in m' even op k off byte check seen (block_of i v k) (its MediumToTarget i v e) owner);
    }

    pub read_wire : (owner : Owner) (v c : ℕ) (body tuples : List Seg) → k < c → ListsAt TargetToAdapter (Adapter check) (read_op owner v c body tuples)
    read_wire owner v c body tuples l i e = record {
      blocks = c;
      f = λ j. Reads (block_of i v j) owner (landing n owner body tuples j);
      request = record { steps = read_steps (was TargetToAdapter check) i v c owner body tuples; reply = read_reply ((was TargetToAdapter check).fails i) v c owner body tuples };
      enough = l;
      others = λ j d p g. d g;
      marked = read_listed m' even image lies TargetToAdapter op k off byte check (block_of i v k) owner (landing n owner body tuples k) (Adapter check) (wire_in m' even op k off byte check seen (block_of i v k) (its TargetToAdapter i v e) owner);
    }

    -- ---- on its way to the medium

    abbrev pub AltersAt : (virt : ℕ) → virt < count → Op → Type 0
    AltersAt virt within o = (i : ℕ) → i ≡ op → Alters m' even image lies TargetToMedium op k off byte check virt within i o

    pub write_medium : (v c app : ℕ) (body : List Seg) (within : v + k < count) → k < c → AltersAt (v + k) within (Write v c body app)
    write_medium v c app body within l i e = record {
      blocks = c;
      f = λ j. Writes (block_of i v j) app (body_of n body j);
      request = record { steps = refl; reply = λ answers. refl };
      enough = l;
      others = λ j d p g. d g;
      marked = write_marked m' even image lies op k off byte check seen (block_of i v k) within app (body_of n body k) (its TargetToMedium i v e);
    }

    pub app_medium : (v c : ℕ) (body tuples : List Seg) (within : v + k < count) → k < c → AltersAt (v + k) within (WritePi v c body tuples)
    app_medium v c body tuples within l i e = record {
      blocks = c;
      f = λ j. WritesPi (block_of i v j) (frame_at n body tuples j);
      request = record { steps = refl; reply = λ answers. refl };
      enough = l;
      others = λ j d p g. d g;
      marked = app_marked m' even image lies op k off byte check seen (block_of i v k) within (frame_at n body tuples k) (its TargetToMedium i v e);
    }

  -- ---- the last check of a read

  module _ (front : off < n + 2) (some : 1 ≤ byte) (fits : byte < 256) where
    abbrev pub ListsGuard : Crossing → Why → Op → Type 0
    ListsGuard at w o = (i : ℕ) → i ≡ op → Lists m' even image lies at op k off byte Guard w i o

    pub read_host : (owner : Owner) (v c : ℕ) (body tuples : List Seg) → k < c → ListsGuard AdapterToHost (owner_says owner Guard) (read_op owner v c body tuples)
    read_host owner v c body tuples l i e = record {
      blocks = c;
      f = λ j. Reads (block_of i v j) owner (landing n owner body tuples j);
      request = record { steps = read_steps (was AdapterToHost Guard) i v c owner body tuples; reply = read_reply ((was AdapterToHost Guard).fails i) v c owner body tuples };
      enough = l;
      others = λ j d p g. d g;
      marked = read_listed m' even image lies AdapterToHost op k off byte Guard (block_of i v k) owner (landing n owner body tuples k) (owner_says owner Guard) (host_in m' even op k off byte some fits front (block_of i v k) (record { op_is = e; k_is = refl }) owner);
    }

  module _ (low : n + 4 ≤ off) (high : off < n + 8) (some : 1 ≤ byte) (fits : byte < 256) where
    abbrev pub ListsTag : Why → Op → Type 0
    ListsTag w o = (i : ℕ) → i ≡ op → MayList m' even image lies AdapterToHost op k off byte RefTag w i o

    pub read_tag : (owner : Owner) (v c : ℕ) (body tuples : List Seg) → k < c → ListsTag (owner_says owner RefTag) (read_op owner v c body tuples)
    read_tag owner v c body tuples l i e = record {
      blocks = c;
      f = λ j. Reads (block_of i v j) owner (landing n owner body tuples j);
      request = record { steps = read_steps (was AdapterToHost RefTag) i v c owner body tuples; reply = read_reply ((was AdapterToHost RefTag).fails i) v c owner body tuples };
      enough = l;
      others = λ j d p g. d g;
      marked = read_either m' even image lies AdapterToHost op k off byte RefTag (block_of i v k) owner (landing n owner body tuples k) (owner_says owner RefTag) (host_tag m' even op k off byte some fits low high (block_of i v k) (record { op_is = e; k_is = refl }) owner);
    }

-- Over a rig that tells its blocks no block is listed as refused or short: neither by a request on a leg, nor by the op of which it is.
use Rattle.std.proofs.Common.{◌≡◌, ℕ, ◌*◌, ◌⊎◌, inl, inr, List, [], ◌∷◌, Some, get_or, refl, sym, subst}
use Rattle.std.specs.Prelude.{All}
use Rattle.rig_api.specs.Target.{Stored}
use Rattle.rig_api.specs.Log.{LogEntry}
use Rattle.rig_api.specs.Telling.{block_at, changed, with_block}
use Rattle.rig_api.specs.declared.change.Change.{Change}
use Rattle.rig_api.specs.State.{RigState}
use Rattle.volume_table.specs.declared.device.DeviceInfo.{DeviceInfo}
use Rattle.volume_table.specs.Tables.{Table}
use Rattle.dix_adapter.specs.Ways.{blocks_told, shapes_of}
use Rattle.block_path.specs.Moves.{hidden}
use Rattle.stack_ops.specs.declared.op.Op.{Op}
use Rattle.stack_ops.specs.declared.op.Op.TheVariants.{Fetch, FetchPi, Fill, Overwrite, Put, Seal, Show, Wait, Write, WritePi}
use Rattle.stack_ops.specs.declared.reply.Reply.{Reply}
use Rattle.stack_ops.specs.declared.reply.Reply.TheVariants.{Bad, Medium, Shown, Silent, Whole}
use Rattle.script_text.specs.declared.script.Script.{Script}
use Rattle.run_command.specs.Passed.{HasFallen, failed_in, opening_of, setting_of, of_blocks, with_flips}
use Rattle.run_command.specs.Layers.{NamesFaults, is_fault}
use Rattle.run_command.proofs.Layers.{names-faults}
use Rattle.mirror_volume.specs.Passed.{AllFallen, LegRun, RanLegs, replies_of, OpBy, OpRan, OpTells, OverwriteTells, Sides}
use Rattle.mirror_volume.proofs.Passed.{EachLists, ListsOnly, op-lists}

-- ---- the two ways to say it

lists-faults : (reply : Reply) → NamesFaults reply → ListsOnly is_fault reply
lists-faults Silent h = h
lists-faults Whole h = h
lists-faults (Bad blocks) h = h
lists-faults (Shown bytes) h = h
lists-faults Medium h = h

names-listed : (reply : Reply) → ListsOnly is_fault reply → NamesFaults reply
names-listed Silent h = h
names-listed Whole h = h
names-listed (Bad blocks) h = h
names-listed (Shown bytes) h = h
names-listed Medium h = h

-- ---- a request on a leg

fallen-lists : (s : Script) (t : Table) (us left : List Stored) (pool : List (List ℕ)) (log : List LogEntry) (replies : List Reply) → HasFallen s t us left pool log replies → All (ListsOnly is_fault) replies
fallen-lists s t us left pool log replies h =
    let f = h.fallen in
    let named = subst (λ (rs : List Reply). All NamesFaults rs) (sym f.ends.replies_are)
    (names-faults (setting_of s t (shapes_of us) (failed_in replies)) s.faults refl (of_blocks f.ends.falls) 1 (with_flips f.flips 1 s.ops) (hidden (4096 * s.pages) (opening_of s (shapes_of us) (blocks_told us)))) in
    λ i d l. lists-faults (get_or replies i d) (named i d l)

each-lists : (t : Table) (us left : List Stored) (runs : List LegRun) → AllFallen t us runs left → EachLists is_fault runs
each-lists t us left [] h = tt
each-lists t us left (r ∷ runs) h = (fallen-lists r.own t us h.0 r.stack.pool r.records (replies_of r) h.1.0, each-lists t h.0 left runs h.1.1)

-- ---- an op

-- What is told behind it, and how its reply names.
abbrev Named : (after : RigState) → Reply → Type 0
Named after reply = (left : List Stored) × ((after.units ≡ Some left) × NamesFaults reply)

by-runs : (s : Script) (t : Table) (devices : List DeviceInfo) (half number : ℕ) (op : Op) (old new : Sides) (runs : List LegRun) (reply : Reply) (before after : RigState) (us : List Stored)
    → OpBy s half number op old new runs reply → RanLegs t devices runs before after → before.units ≡ Some us → Named after reply
by-runs s t devices half number op old new runs reply before after us by ran e =
    let x = ran.fallen us e in
    (x.0, (x.1.0, names-listed reply (op-lists is_fault s half number op old new runs reply by (each-lists t us x.0 runs x.1.1))))

by-overwrite : (dev lba : ℕ) (change : Change) (reply : Reply) (before after : RigState) (us : List Stored) → (reply ≡ Silent) ⊎ (reply ≡ Medium) → OverwriteTells dev lba change reply before after → before.units ≡ Some us → Named after reply
by-overwrite dev lba change reply before after us (inl made) tells e = (with_block us dev lba (changed us change (block_at us dev lba)), (tells.silent made us e, subst NamesFaults (sym made) tt))
by-overwrite dev lba change reply before after us (inr failed) tells e =
    let x = tells.left failed us e in
    (with_block us dev lba x.0, (x.1, subst NamesFaults (sym failed) tt))

pub op-named : (s : Script) (t : Table) (devices : List DeviceInfo) (half number : ℕ) (op : Op) (old new : Sides) (runs : List LegRun) (reply : Reply) (before after : RigState) (us : List Stored)
    → OpBy s half number op old new runs reply → OpRan op t devices runs before after → OpTells op reply before after → before.units ≡ Some us → (left : List Stored) × ((after.units ≡ Some left) × NamesFaults reply)
op-named s t devices half number (Fill seg byte) old new runs reply before after us by ran tells e = by-runs s t devices half number (Fill seg byte) old new runs reply before after us by ran e
op-named s t devices half number (Put page off bytes) old new runs reply before after us by ran tells e = by-runs s t devices half number (Put page off bytes) old new runs reply before after us by ran e
op-named s t devices half number (Show seg) old new runs reply before after us by ran tells e = by-runs s t devices half number (Show seg) old new runs reply before after us by ran e
op-named s t devices half number (Seal n body tuples app rtag) old new runs reply before after us by ran tells e = by-runs s t devices half number (Seal n body tuples app rtag) old new runs reply before after us by ran e
op-named s t devices half number (Write v n body app) old new runs reply before after us by ran tells e = by-runs s t devices half number (Write v n body app) old new runs reply before after us by ran e
op-named s t devices half number (Fetch v n body) old new runs reply before after us by ran tells e = by-runs s t devices half number (Fetch v n body) old new runs reply before after us by ran e
op-named s t devices half number (WritePi v n body tuples) old new runs reply before after us by ran tells e = by-runs s t devices half number (WritePi v n body tuples) old new runs reply before after us by ran e
op-named s t devices half number (FetchPi v n body tuples) old new runs reply before after us by ran tells e = by-runs s t devices half number (FetchPi v n body tuples) old new runs reply before after us by ran e
op-named s t devices half number (Overwrite dev lba change) old new runs reply before after us by ran tells e = by-overwrite dev lba change reply before after us by.1 tells e
op-named s t devices half number Wait old new runs reply before after us by ran tells e = by-runs s t devices half number Wait old new runs reply before after us by ran e

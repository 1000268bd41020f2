-- Reads of a bound script, and writes with an application's tuples, have room for their blocks.
use Rattle.std.proofs.Common.{◌≡◌, ℕ, ◌*◌, true, List, [], ◌∷◌, ◌++◌, length, replicate, sym, subst, arith}
use Rattle.std.proofs.lemmas.List.{length-replicate, length-take}
use Rattle.page_pool.specs.declared.segs.Seg.{Seg}
use Rattle.integrity_payload.specs.declared.payload.Owner.{Owner}
use Rattle.integrity_payload.specs.declared.payload.Owner.TheVariants.{Block as OfBlock, App as OfApp}
use Rattle.rig_api.specs.Target.{Stored}
use Rattle.rig_api.specs.declared.units.UnitSpec.{UnitSpec}
use Rattle.stack_walk_laws.specs.Passed.{shapes_of, hidden}
use Rattle.volume_table.specs.Tables.{Table}
use Rattle.run_laws.specs.FallingReads.{HasRoom}
use Rattle.run_laws.specs.Passed.{read_op, Op, WritePi}
use Rattle.script_laws.specs.Passed.{both_fault, data_fault, Script}
use Rattle.script_laws.specs.Keeping.{Each, IsOp as KeepsRules, Keeps}
use Rattle.script_laws.proofs.OpForms.{no_fault}
use Rattle.script_run_laws.proofs.Bodies.{AreBoth, alone-of, both-of}
use Rattle.script_run_laws.proofs.BoundRuns.{has-tuples}
use Rattle.script_run_laws.proofs.OverUnits.{at_first, over}
use Rattle.script_run_laws.proofs.Rooms.{body-cells, both-cells, tuples-long}

each-mid : (P : Op → Type 0) (before : List Op) (op : Op) (after : List Op) → Each P (before ++ (op ∷ after)) → P op
each-mid P [] op after h = h.0
each-mid P (x ∷ before) op after h = each-mid P before op after h.1

-- an op of a script, by what stands before and behind it
op-there : (s : Script) (before : List Op) (op : Op) (after : List Op) → Keeps s → s.ops ≡ before ++ (op ∷ after) → KeepsRules s.mode.dix s.pages s.block op
op-there s before op after k e = each-mid (KeepsRules s.mode.dix s.pages s.block) before op after (subst (Each (KeepsRules s.mode.dix s.pages s.block)) e k.ops_are)

-- the pages with which a script begins
pages-long : (s : Script) (us : List Stored) → length (hidden (4096 * s.pages) (at_first s us)).bytes ≡ 4096 * s.pages
pages-long s us =
    let a = length-take {A = ℕ} (4096 * s.pages) (replicate (4096 * s.pages) 0) in
    let b = length-replicate {A = ℕ} (4096 * s.pages) 0 in
    omega (arith, a, b)

app-room : (s : Script) (t : Table) (units : List UnitSpec) (n : ℕ) (body tuples : List Seg) → AreBoth s.pages s.block n body tuples → s.mode.dix ≡ true → HasRoom (over s t units) (4096 * s.pages) OfApp n body tuples
app-room s t units n body tuples b dix = (b.body_is.long, (tuples-long s.pages s.block n body tuples b, (both-cells s.pages s.block n body tuples b, dix)))

read-room : (s : Script) (t : Table) (units : List UnitSpec) (owner : Owner) (v n : ℕ) (body tuples : List Seg) → KeepsRules s.mode.dix s.pages s.block (read_op owner v n body tuples) → HasRoom (over s t units) (4096 * s.pages) owner n body tuples
read-room s t units OfBlock v n body tuples k =
    let a = alone-of s.pages s.block n body (no_fault (data_fault s.pages s.block n body) _ _ k.rules) in
    (a.body_is.long, body-cells s.pages s.block n body a)
read-room s t units OfApp v n body tuples k = app-room s t units n body tuples (both-of s.pages s.block n body tuples (no_fault (both_fault s.pages s.block n body tuples) _ _ k.rules)) (has-tuples s.mode.dix k.integrity)

pub room-of-read : (s : Script) (t : Table) (us : List Stored) (before after : List Op) (owner : Owner) (v n : ℕ) (body tuples : List Seg) → Keeps s → s.ops ≡ before ++ (read_op owner v n body tuples ∷ after)
    → HasRoom (over s t (shapes_of us)) (length (hidden (4096 * s.pages) (at_first s us)).bytes) owner n body tuples
room-of-read s t us before after owner v n body tuples k e =
    subst (λ bytes. HasRoom (over s t (shapes_of us)) bytes owner n body tuples) (sym (pages-long s us)) (read-room s t (shapes_of us) owner v n body tuples (op-there s before (read_op owner v n body tuples) after k e))

pub room-of-write : (s : Script) (t : Table) (us : List Stored) (before after : List Op) (v n : ℕ) (body tuples : List Seg) → Keeps s → s.ops ≡ before ++ (WritePi v n body tuples ∷ after)
    → HasRoom (over s t (shapes_of us)) (length (hidden (4096 * s.pages) (at_first s us)).bytes) OfApp n body tuples
room-of-write s t us before after v n body tuples k e =
    let r = op-there s before (WritePi v n body tuples) after k e in
    subst (λ bytes. HasRoom (over s t (shapes_of us)) bytes OfApp n body tuples) (sym (pages-long s us))
    (app-room s t (shapes_of us) n body tuples (both-of s.pages s.block n body tuples (no_fault (both_fault s.pages s.block n body tuples) _ _ r.rules)) (has-tuples s.mode.dix r.integrity))

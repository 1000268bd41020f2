-- All blocks of an op's request are a piece of its mirror, and its data lie in the pages.
use Rattle.std.proofs.Common.{ℕ, ◌≡◌, ◌+◌, ◌<◌, Bool, List, [], length, None, subst, arith}
use Rattle.std.specs.Prelude.{nat_lt, ◌||◌}
use Rattle.std.proofs.lemmas.Bool.{ltb-false, or_parts}
use Rattle.page_pool.specs.declared.segs.Seg.{Seg}
use Rattle.page_pool.specs.Places.{places_in, total}
use Rattle.page_pool.proofs.Placing.{once-front}
use Rattle.page_pool.proofs.Spreads.{once-range}
use Rattle.stack_ops.specs.declared.op.Op.{Op}
use Rattle.stack_ops.specs.declared.op.Op.TheVariants.{Fetch, Write}
use Rattle.script_lines.specs.declared.kind.ScriptKind.TheVariants.{BadRange}
use Rattle.script_text.specs.Ops.{data_fault}
use Rattle.script_stack.specs.Passed.{IsStackOp}
use Rattle.script_stack.proofs.Passed.{alone-of, if-none, all-lie, once-both}
use Rattle.script_stack.specs.Causes.{table_of}
use Rattle.mirror_volume.specs.LegsPassed.{op_fault, range_fault}
use Rattle.mirror_volume.specs.declared.legs.Plan.{Plan}
use Rattle.mirror_volume.specs.Plans.{IsPlan, IsRequestOf}
use Rattle.mirror_volume.specs.Standing.{half_of, op_at}
use Rattle.mirror_volume.proofs.Requests.{op-fits, op-rules, request-fits}
use Rattle.script_laws.proofs.OpForms.{no_fault}

request-suits : (plan : Plan) (pool : List (List ℕ)) (op v n : ℕ) (body : List Seg) → IsPlan plan → length pool ≡ plan.script.pages → data_fault plan.script.pages plan.script.block n body ≡ None
    → range_fault (half_of plan.script plan.devices.items) v n ≡ None → IsRequestOf plan pool op v n body
request-suits plan pool op v n body is long good range =
    let s = plan.script in
    let half = half_of s plan.devices.items in
    let a = alone-of s.pages s.block n body good in
    let q = request-fits s plan.devices.items v n body is.bound good range in
    let r = if-none (nat_lt 1024 n || nat_lt half (v + n)) BadRange None range in
    let few = ltb-false 1024 n (or_parts (nat_lt 1024 n) (nat_lt half (v + n)) r.0).0 in
    let b = q.inside in
    let e = is.half in
    record {
      piece = record { some = q.some; first = omega arith; count = few; room = q.room; inside = omega (arith, b, e) };
      long = q.long;
      lie = all-lie s.pages pool body long a.body_is.inside;
      once = once-range body 0 (total body) (once-front (places_in body) [] (once-both body [] a.overlap));
    }

pub write-suits : (plan : Plan) (pool : List (List ℕ)) (at v n : ℕ) (body : List Seg) (app : ℕ) → IsPlan plan → length pool ≡ plan.script.pages → at < length plan.script.ops → op_at plan.script.ops at ≡ Write v n body app → IsRequestOf plan pool (at + 1) v n body
write-suits plan pool at v n body app is long l e =
    let s = plan.script in
    let rules = subst (IsStackOp s.mode.dix s.pages s.block) e (op-rules s plan.devices.items at is.bound l) in
    let fits = subst (λ (op : Op). op_fault s.mode.protect (table_of s plan.devices.items) plan.devices.items s.block op ≡ None) e (op-fits s plan.devices.items at is.bound l) in
    request-suits plan pool (at + 1) v n body is long (no_fault (data_fault s.pages s.block n body) _ _ rules.rules) fits

pub fetch-suits : (plan : Plan) (pool : List (List ℕ)) (at v n : ℕ) (body : List Seg) → IsPlan plan → length pool ≡ plan.script.pages → at < length plan.script.ops → op_at plan.script.ops at ≡ Fetch v n body → IsRequestOf plan pool (at + 1) v n body
fetch-suits plan pool at v n body is long l e =
    let s = plan.script in
    let rules = subst (IsStackOp s.mode.dix s.pages s.block) e (op-rules s plan.devices.items at is.bound l) in
    let fits = subst (λ (op : Op). op_fault s.mode.protect (table_of s plan.devices.items) plan.devices.items s.block op ≡ None) e (op-fits s plan.devices.items at is.bound l) in
    request-suits plan pool (at + 1) v n body is long (no_fault (data_fault s.pages s.block n body) _ _ rules.rules) fits

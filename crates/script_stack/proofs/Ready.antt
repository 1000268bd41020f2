-- A script that suits a stack and is bound to a volume: a stack can be made for it.
use Rattle.std.proofs.Common.{◌≡◌, ◌≤◌, ℕ, zero, suc, ◌+◌, Bool, true, false, ◌&&◌, List, [], ◌∷◌, length, map, drop, replicate, refl, inl, inr, subst, arith, Option, None}
use Rattle.std.specs.Prelude.{◌%◌, nat_le, nat_lt}
use Rattle.std.proofs.lemmas.Bool.{and_parts, eqb-true, leb-true}
use Rattle.std.proofs.lemmas.List.{length-drop, length-replicate}
use Rattle.page_pool.specs.declared.segs.Seg.{Seg}
use Rattle.integrity_payload.specs.Payloads.{AreWholeTuples}
use Rattle.dix_adapter.specs.Groups as Carry
use Rattle.rig_api.specs.declared.change.Change.TheVariants.{Copy, Flip}
use Rattle.script_text.specs.Passed.{Op, Fetch, FetchPi, Fill, Overwrite, Put, Seal, Show, Wait, Write, WritePi}
use Rattle.stack_laws.specs.Runs.{blocks_of_requests}
use Rattle.volume_table.specs.declared.device.DeviceInfo.{DeviceInfo}
use Rattle.volume_table.specs.Places.{volume_len}
use Rattle.volume_table.specs.Tables.{MadeFor, Table}
use Rattle.script_text.specs.declared.script.Script.{Script}
use Rattle.script_text.specs.Bindings.{binding_fault, op_fault}
use Rattle.script_text.specs.Ops.{both_fault, data_fault}
use Rattle.script_text.specs.Rules.{request_blocks}
use Rattle.script_text.specs.Segments.{are_whole_tuples, is_inside, is_whole}
use Rattle.script_run_laws.specs.Passed.{IsProtect, blocks_of, line_of}
use Rattle.script_run_laws.proofs.Passed.{no_fault, found_inside}
use Rattle.stack_core.specs.Passed.{first_page, page_after, request_of, requests_from, op_in as op_at, request_in, AreTuples, CanStart, IsData, IsOp}
use Rattle.stack_core.specs.Stacks.{AreUniform}
use Rattle.stack_core.proofs.Opening.{uniform}
use Rattle.script_run_laws.specs.SuitsStack.{IsStackOp, SuitsStack}
use Rattle.script_run_laws.proofs.Bodies.{HaveTuples, IsBody, alone-of, both-of}
use Rattle.script_run_laws.proofs.Ops.{in-range, no-fault, rules-at}
use Rattle.script_run_laws.proofs.Segments.{all-lie, lies}
use Rattle.script_run_laws.proofs.Standing.{bound}
use Rattle.script_run_laws.proofs.BoundRuns.{has-tuples}
use Rattle.script_stack.proofs.Shared.{AreOnce, are-once}

-- ---- data and tuples of a request

all-whole : (segs : List Seg) → are_whole_tuples segs ≡ true → AreWholeTuples segs
all-whole [] h = tt
all-whole (s ∷ ss) h =
    let a = and_parts (is_whole s) (are_whole_tuples ss) h in
    (eqb-true (s.len % 8) 0 a.0, all-whole ss a.1)

data-of : (pages size len v n : ℕ) (pool : List (List ℕ)) (body : List Seg) → length pool ≡ pages → IsBody pages size n body → v + n ≤ len → IsData pool size len v n body
data-of pages size len v n pool body e b r = record { some = b.some; size = b.long; lies = all-lie pages pool body e b.inside; inside = r }

tuples-of : (pages n : ℕ) (pool : List (List ℕ)) (body tuples : List Seg) → length pool ≡ pages → HaveTuples pages n tuples → AreOnce body tuples → AreTuples pool n tuples
tuples-of pages n pool body tuples e b o = record { whole = all-whole tuples b.whole; long = b.long; lies = all-lie pages pool tuples e b.inside; once = o.tuples_once }

-- ---- each op

ready-op : (dix : Bool) (pages size : ℕ) (pool : List (List ℕ)) (t : Table) (devices : List DeviceInfo) (op : Op) → length pool ≡ pages → IsStackOp dix pages size op → op_fault t devices size op ≡ None → IsOp dix pool size (volume_len t.entries) op
ready-op dix pages size pool t devices (Fill seg byte) e k h = lies pages pool seg e (found_inside (is_inside pages seg) _ _ k.rules)
ready-op dix pages size pool t devices (Put page off bytes) e k h =
    let there = found_inside (is_inside pages (record { page = page; off = off; len = length bytes })) _ _ k.rules in
    let in_page = and_parts (nat_lt page pages) (nat_lt 0 (length bytes) && nat_le (off + length bytes) 4096) there in
    let few = leb-true (off + length bytes) 4096 (and_parts (nat_lt 0 (length bytes)) (nat_le (off + length bytes) 4096) in_page.1).1 in
    (lies pages pool (record { page = page; off = off; len = length bytes }) e there, omega arith)
ready-op dix pages size pool t devices (Show seg) e k h =
    lies pages pool seg e (and_parts (is_inside pages seg) (nat_le seg.len 64) (found_inside (is_inside pages seg && nat_le seg.len 64) _ _ k.rules)).0
ready-op dix pages size pool t devices (Seal n body tuples app rtag) e k h =
    let b = both-of pages size n body tuples (no_fault (both_fault pages size n body tuples) _ _ k.rules) in
    let o = are-once body tuples b.overlap in
    let few = b.body_is.few in
    let r = k.tag in
    (b.body_is.some, (all-lie pages pool body e b.body_is.inside, (tuples-of pages n pool body tuples e b.tuples_are o, (o.apart, omega arith))))
ready-op dix pages size pool t devices (Write v n body app) e k h =
    let a = alone-of pages size n body (no_fault (data_fault pages size n body) _ _ k.rules) in
    data-of pages size (volume_len t.entries) v n pool body e a.body_is (in-range t v n h)
ready-op dix pages size pool t devices (Fetch v n body) e k h =
    let a = alone-of pages size n body (no_fault (data_fault pages size n body) _ _ k.rules) in
    (data-of pages size (volume_len t.entries) v n pool body e a.body_is (in-range t v n h), (are-once body [] a.overlap).body_once)
ready-op dix pages size pool t devices (WritePi v n body tuples) e k h =
    let b = both-of pages size n body tuples (no_fault (both_fault pages size n body tuples) _ _ k.rules) in
    let o = are-once body tuples b.overlap in
    (has-tuples dix k.integrity, (data-of pages size (volume_len t.entries) v n pool body e b.body_is (in-range t v n h), (tuples-of pages n pool body tuples e b.tuples_are o, o.apart)))
ready-op dix pages size pool t devices (FetchPi v n body tuples) e k h =
    let b = both-of pages size n body tuples (no_fault (both_fault pages size n body tuples) _ _ k.rules) in
    let o = are-once body tuples b.overlap in
    (has-tuples dix k.integrity, (data-of pages size (volume_len t.entries) v n pool body e b.body_is (in-range t v n h), (o.body_once, (tuples-of pages n pool body tuples e b.tuples_are o, o.apart))))
ready-op dix pages size pool t devices (Overwrite dev lba change) e k h = tt
ready-op dix pages size pool t devices Wait e k h = tt

-- ---- all ops

same-count : (op : Op) (page : Option ℕ) → (request_of op page).count ≡ request_blocks (line_of op)
same-count (Fill seg byte) page = refl
same-count (Put p off bytes) page = refl
same-count (Show seg) page = refl
same-count (Seal n body tuples app rtag) page = refl
same-count (Write v n body app) page = refl
same-count (Fetch v n body) page = refl
same-count (WritePi v n body tuples) page = refl
same-count (FetchPi v n body tuples) page = refl
same-count (Overwrite dev lba (Flip off bytes)) page = refl
same-count (Overwrite dev lba (Copy from at)) page = refl
same-count Wait page = refl

same-blocks : (dix : Bool) (page : ℕ) (ops : List Op) → blocks_of_requests (map request_in (requests_from dix page ops)) ≡ blocks_of ops
same-blocks dix page [] = refl
same-blocks dix page (op ∷ ops) =
    let a = same-count op (first_page dix page) in
    let b = same-blocks dix (page_after dix page op) ops in
    omega arith

protect-of : (n : ℕ) → IsProtect n → Carry.IsProtect n
protect-of zero h = let l = h.range.low_is in absurd (omega arith)
protect-of (suc zero) h = inl refl
protect-of (suc (suc zero)) h = absurd (let x : true ≡ false = h.taken_is in cc)
protect-of (suc (suc (suc zero))) h = inr (inl refl)
protect-of (suc (suc (suc (suc zero)))) h = inr (inr refl)
protect-of (suc (suc (suc (suc (suc n))))) h = let l = h.range.high_is in absurd (omega arith)

-- a stack can be made for it, with blocks of its size
pub can-start-of : (s : Script) (t : Table) (devices : List DeviceInfo) → SuitsStack s → length s.lines ≡ length s.faults + length s.ops → length devices ≤ 8 → MadeFor t devices s.block → binding_fault s t devices ≡ None →
    (c : CanStart t s.mode.dix s.mode.protect s.limits s.pages (replicate s.pages []) s.ops) × (c.bytes ≡ s.block)
can-start-of s t devices k n few made good =
    let pages = k.pages_are in
    let pages_low = pages.low_is in
    let pages_high = pages.high_is in
    let ops = k.ops_count in
    let most = k.most in
    let most_low = most.low_is in
    let most_high = most.high_is in
    let blocks = k.blocks_count in
    let same = same-blocks s.mode.dix s.pages s.ops in
    let long : length (replicate s.pages []) ≡ s.pages = length-replicate s.pages [] in
    let lines = length-drop (length s.faults) s.lines in
    let size : (1 ≤ s.block) × (s.block ≤ 4096) = elim k.block_is [ inl e ↦ (omega arith, omega arith) | inr e ↦ (omega arith, omega arith) ] in (
      record {
        pool_is = long;
        few_pages = omega arith;
        few_ops = omega arith;
        few_blocks = omega arith;
        protect_is = protect-of s.mode.protect k.protect_is;
        some_blocks = most_low;
        most_blocks = omega arith;
        bytes = s.block;
        some_bytes = size.0;
        few_bytes = size.1;
        devices = devices;
        few_devices = few;
        made = made;
        each = λ i l. ready-op s.mode.dix s.pages s.block (replicate s.pages []) t devices (op_at s.ops i) long (rules-at s.mode.dix s.pages s.block s.ops i k.ops_are l)
            (no-fault t devices s.block s.ops (drop (length s.faults) s.lines) i (omega arith) (bound s t devices good).ops l);
      },
      refl,
    )

pub can-start : (s : Script) (t : Table) (devices : List DeviceInfo) → SuitsStack s → length s.lines ≡ length s.faults + length s.ops → length devices ≤ 8 → MadeFor t devices s.block → binding_fault s t devices ≡ None →
    CanStart t s.mode.dix s.mode.protect s.limits s.pages (replicate s.pages []) s.ops
can-start s t devices k n few made good = (can-start-of s t devices k n few made good).0

-- all its requests have blocks of its size
pub sizes-of : (s : Script) (t : Table) (devices : List DeviceInfo) → SuitsStack s → length s.lines ≡ length s.faults + length s.ops → length devices ≤ 8 → MadeFor t devices s.block → binding_fault s t devices ≡ None →
    AreUniform s.mode.dix s.block (requests_from s.mode.dix s.pages s.ops)
sizes-of s t devices k n few made good =
    let c = can-start-of s t devices k n few made good in
    subst (λ size. AreUniform s.mode.dix size (requests_from s.mode.dix s.pages s.ops)) c.1 (uniform t s.mode.dix s.mode.protect s.limits s.pages (replicate s.pages []) s.ops c.0)

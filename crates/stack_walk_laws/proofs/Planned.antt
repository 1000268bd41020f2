-- The plan of requests that are the volume's is fine.
use Rattle.std.proofs.Common.{◌≡◌, ◌<◌, ◌≤◌, ℕ, ◌+◌, Bool, List, length, map, ap, ◌∙◌, arith}
use Rattle.std.specs.Prelude.{◌^◌}
use Rattle.std.proofs.lemmas.List.{length-map}
use Rattle.std.proofs.lemmas.List.Elements.{All-get_or}
use Rattle.bio_core.specs.declared.request.Io.{Io}
use Rattle.stack_laws.specs.Passed.{Limits}
use Rattle.volume_table.specs.Faults.{device}
use Rattle.volume_table.specs.Tables.{EndFits, IsTable, Table}
use Rattle.volume_table.specs.Places.{place_in, run_in, volume_len}
use Rattle.run_laws.specs.Passed.{Op}
use Rattle.stack_laws.specs.Plan.{request_at}
use Rattle.stack_laws.specs.Runs.{blocks_of_requests}
use Rattle.stack_steps.specs.Fine.{Fine}
use Rattle.stack_walk_laws.specs.Sheets.{AreInside, io_at, plan_of, request_in}
use Rattle.stack_walk_laws.proofs.Facts.{request-at}

-- the blocks of each request are the volume's, on these devices
pub record AreLaid (ios : List Io) (table : Table) (devices : ℕ) : Type 0 where
  pub inside : AreInside ios table
  pub on : (i k : ℕ) → k < (io_at ios i).count → (place_in table.entries ((io_at ios i).first + k)).0 < devices

-- an address of a block isn't the last that there is
last-but-one : (table : Table) (v : ℕ) → IsTable table → v < volume_len table.entries → (place_in table.entries v).1 + 1 < 2 ^ 64
last-but-one table v t h =
    let o = t.made.inside v h in
    let d = t.devices in
    let n = (place_in table.entries v).0 in
    let e : EndFits (device d n) = All-get_or EndFits d n _ o.known t.made.ends in
    let l = o.ends in
    omega arith

pub fine-of : (ops : List Op) (shifted : List Bool) (ios : List Io) (table : Table) (limits : Limits) (devices : ℕ) → IsTable table → AreLaid ios table devices → length ios ≤ 4096 → blocks_of_requests (map request_in ios) ≤ 16384 → devices ≤ 8 → 1 ≤ limits.max_blocks →
    Fine (plan_of ops shifted ios table limits devices)
fine-of ops shifted ios table limits devices t a few blocks eight one =
    let p = plan_of ops shifted ios table limits devices in
    let counts : (i : ℕ) → (request_at p i).count ≡ (io_at ios i).count = λ i. ap (λ r. r.count) (request-at ios i) in
    let firsts : (i : ℕ) → (request_at p i).first ≡ (io_at ios i).first = λ i. ap (λ r. r.first) (request-at ios i) in
    let there : (i k : ℕ) → k < (request_at p i).count → (request_at p i).first + k < volume_len table.entries = λ i k h. (let c = counts i in let f = firsts i in let x = a.inside i k (omega arith) in omega arith) in
    let goes : (i k n : ℕ) → k + n < (request_at p i).count → n < run_in table.entries ((request_at p i).first + k) → place_in table.entries ((request_at p i).first + (k + n)) ≡ ((place_in table.entries ((request_at p i).first + k)).0, (place_in table.entries ((request_at p i).first + k)).1 + n)
    = λ i k n h l. (let e : (request_at p i).first + (k + n) ≡ (request_at p i).first + k + n = omega arith in ap (place_in table.entries) e ∙ (t.made.runs ((request_at p i).first + k) n (there i k (omega arith)) l).place) in
    record {
      on_devices = λ i k h. (let c = counts i in let e = firsts i in rw e (a.on i k (omega arith)));
      straight = record {
        one = one;
        some = λ i k h. t.made.some ((request_at p i).first + k) (there i k h);
        dev = λ i k n h l. ap (λ q. q.0) (goes i k n h l);
        lba = λ i k n h l. ap (λ q. q.1) (goes i k n h l);
      };
      few_ops = let n = length-map ios request_in in omega arith;
      few_blocks = blocks;
      few_devices = eight;
      ends = λ i k h. last-but-one table ((request_at p i).first + k) t (there i k h);
    }

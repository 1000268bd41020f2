use Rattle.std.proofs.Common.{◌≡◌, ℕ, ◌≤◌, ◌+◌, ◌*◌, List, length, take, arith, length-take}
use Rattle.std.proofs.Math.Nat.{mul-le-mul}
use Rattle.rig_api.proofs.record.frames_done.Goals as goal

product : (d n s m : ℕ) → d ≤ n → s ≤ m → d * s ≤ m * n
product d n s m h g = let p : d * s ≤ n * m = mul-le-mul h g in omega arith

short : (k : ℕ) (b : List ℕ) (front : List ℕ) → front ≡ take k b → length front ≤ k
short k b front e = let l : length front ≤ k = rw (e, length-take) (omega arith) in l

pub returns-clause-bound : goal.returns-clause-bound
returns-clause-bound c =
    let least : c.min.result ≤ c.args.c.n = omega (arith, c.min.ensures) in
    let part : length c.front.result.now ≤ c.min.result * c.sent_size.result = short _ c.args.buffer.now c.front.result.now c.front.ensures in
    let whole : c.min.result * c.sent_size.result ≤ (c.args.size + 8) * c.args.c.n = product c.min.result c.args.c.n c.sent_size.result (c.args.size + 8) least c.sent_size.ensures.bound in
    omega arith

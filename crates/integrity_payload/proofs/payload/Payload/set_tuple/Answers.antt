use Rattle.std.proofs.Common.{◌≡◌, length, arith, rules}
use Rattle.integrity_payload.proofs.Fills.{tuple-once}
use Rattle.integrity_payload.proofs.payload.Payload.set_tuple.Goals as goal

pub scatter-requires-clause-once : goal.scatter-requires-clause-once
scatter-requires-clause-once c =
    let eight : length c.to_bytes.result ≡ 8 = search rules in
    rw (c.start_of.ensures.start, eight) (tuple-once c.args.self.now.tuples c.args.k c.requires.payload.whole (let l = c.requires.payload.long in omega arith))

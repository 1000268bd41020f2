use Rattle.std.proofs.Common.{◌≡◌, ◌+◌, ◌≤◌, ◌∙◌, length, take, drop, arith}
use Rattle.std.proofs.lemmas.List.{length-take-le}
use Rattle.pi_blocks.specs.Parts.{bytes_of_mut, first_of}
use Rattle.pi_blocks.proofs.Written.{past_before, put_before, put_left, put_long}
use Rattle.pi_blocks.proofs.writing.write_part.Goals as goal

pub returns-then-bytes-room-clause-left : goal.returns-then-bytes-room-clause-left
returns-then-bytes-room-clause-left c =
    let fits : c.args.place.now.at + length c.args.bytes.now ≤ length (first_of bytes_of_mut (drop c.args.place.now.part c.args.parts.now)) = omega (arith, c.rest_of-room.ensures.ends, c.if-bytes-room.true) in
    put_left bytes_of_mut c.args.parts.now c.put_in.new.parts c.args.place.now.part c.args.place.now.at c.args.bytes.now fits c.put_in.ensures.rest c.put_in.ensures.put

pub returns-clause-before : goal.returns-clause-before
returns-clause-before c =
    let room = length c.rest_of-room.result.now in
    let old = c.args.parts.now in
    let new = c.put_in-2.new.parts in
    let part = c.args.place.now.part in
    let at = c.args.place.now.at in
    let piece = take room c.args.bytes.now in
    let long : length piece ≡ room = length-take-le room c.args.bytes.now (omega (arith, c.if-bytes-room.false)) in
    let ends = c.rest_of-room.ensures.ends in
    let fits : at + length piece ≤ length (first_of bytes_of_mut (drop part old)) = omega (arith, long, ends) in
    let same : length (first_of bytes_of_mut (drop part new)) ≡ at + length piece = omega (arith, put_long bytes_of_mut old new part at piece fits c.put_in-2.ensures.put, long, ends) in
    past_before bytes_of_mut new part (at + length piece) same ∙ put_before bytes_of_mut old new part at piece fits c.put_in-2.ensures.front c.put_in-2.ensures.put

use Rattle.bench_calls.proofs.WholePages.{are_apart, body_lies, is_payload, still_request, tuples_lie, tuples_once, with_pool}
use Rattle.bench_calls.proofs.payloads.Request.last_guard.Goals as goal

pub generate-requires-clause-payload : goal.generate-requires-clause-payload
generate-requires-clause-payload c = is_payload c.args.self.now c.requires

pub generate-requires-clause-body : goal.generate-requires-clause-body
generate-requires-clause-body c = body_lies c.args.self.now c.requires

pub generate-requires-clause-lie : goal.generate-requires-clause-lie
generate-requires-clause-lie c = tuples_lie c.args.self.now c.requires

pub generate-requires-clause-once : goal.generate-requires-clause-once
generate-requires-clause-once c = tuples_once c.args.self.now c.requires

pub generate-requires-clause-apart : goal.generate-requires-clause-apart
generate-requires-clause-apart c = are_apart c.args.self.now c.requires

pub tuple_at-requires-clause-payload : goal.tuple_at-requires-clause-payload
tuple_at-requires-clause-payload c = is_payload c.args.self.now c.requires

pub tuple_at-requires-clause-lie : goal.tuple_at-requires-clause-lie
tuple_at-requires-clause-lie c = tuples_lie (with_pool c.args.self.now c.generate.new.pool) (still_request c.args.self.now c.generate.new.pool c.requires c.generate.ensures.wrote.others.pages)

pub returns : goal.returns
returns c = still_request c.args.self.now c.generate.new.pool c.requires c.generate.ensures.wrote.others.pages

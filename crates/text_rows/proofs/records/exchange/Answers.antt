use Rattle.text_rows.proofs.Capacity.{nothing-moved}
use Rattle.text_rows.proofs.records.exchange.Goals as goal

pub exchange-requires-clause-capacity : goal.exchange-requires-clause-capacity
exchange-requires-clause-capacity g c = nothing-moved c.args.cdb.now (g.R.Rig.state c.reserve.new.self).room.moved

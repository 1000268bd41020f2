use Rattle.std.proofs.Common.{subst, sym, length}
use Rattle.page_pool.specs.Places.{places_in, NoneTwice}
use Rattle.page_pool.specs.Pages.{Wrote}
use Rattle.page_pool.specs.Walking.{AllStandIn}
use Rattle.page_pool.proofs.Placing.{in_pages, segments_stand}
use Rattle.page_pool.proofs.Spreads.{range_stands, range-ahead, room-ahead}
use Rattle.page_pool.proofs.pool.PagePool.scatter.Goals as goal

pub walk-requires : goal.walk-requires
walk-requires c = in_pages (length c.args.self.now) (places_in c.args.sg.now) (segments_stand c.args.self.now c.args.sg.now c.requires.lie)

pub write_ahead-requires-clause-stand : goal.write_ahead-requires-clause-stand
write_ahead-requires-clause-stand c =
    subst (λ l. AllStandIn (length c.args.self.now) l) (sym (range-ahead c.args.sg.now c.walk.result c.args.at (length c.args.from.now) c.walk.ensures.ahead)) (range_stands c.args.self.now c.args.sg.now c.args.at (length c.args.from.now) c.requires.lie)

pub write_ahead-requires-clause-once : goal.write_ahead-requires-clause-once
write_ahead-requires-clause-once c =
    subst (λ l. NoneTwice l) (sym (range-ahead c.args.sg.now c.walk.result c.args.at (length c.args.from.now) c.walk.ensures.ahead)) c.requires.once

pub write_ahead-requires-clause-room : goal.write_ahead-requires-clause-room
write_ahead-requires-clause-room c = room-ahead c.args.sg.now c.walk.result c.args.at (length c.args.from.now) c.walk.ensures.ahead c.requires.range

pub returns : goal.returns
returns c =
    subst (λ l. Wrote c.args.self.now c.write_ahead.new.self l c.args.from.now) (range-ahead c.args.sg.now c.walk.result c.args.at (length c.args.from.now) c.walk.ensures.ahead) c.write_ahead.ensures.wrote

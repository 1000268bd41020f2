use Rattle.std.proofs.Common.{◌∙◌, subst, sym, ap, length}
use Rattle.page_pool.specs.Places.{places_in}
use Rattle.page_pool.specs.Pages.{bytes_at}
use Rattle.page_pool.specs.Walking.{AllStandIn}
use Rattle.page_pool.proofs.Placing.{in_pages, segments_stand}
use Rattle.page_pool.proofs.Spreads.{range_stands, range-ahead, room-ahead}
use Rattle.page_pool.proofs.pool.PagePool.gather.Goals as goal

pub walk-requires : goal.walk-requires
walk-requires c = in_pages (length c.args.self.now) (places_in c.args.sg.now) (segments_stand c.args.self.now c.args.sg.now c.requires.lie)

pub read_ahead-requires-clause-stand : goal.read_ahead-requires-clause-stand
read_ahead-requires-clause-stand c =
    subst (λ l. AllStandIn (length c.args.self.now) l) (sym (range-ahead c.args.sg.now c.walk.result c.args.at (length c.args.into.now) c.walk.ensures.ahead)) (range_stands c.args.self.now c.args.sg.now c.args.at (length c.args.into.now) c.requires.lie)

pub read_ahead-requires-clause-room : goal.read_ahead-requires-clause-room
read_ahead-requires-clause-room c = room-ahead c.args.sg.now c.walk.result c.args.at (length c.args.into.now) c.walk.ensures.ahead c.requires.range

pub returns : goal.returns
returns c =
    c.read_ahead.ensures.bytes ∙ ap (bytes_at c.args.self.now) (range-ahead c.args.sg.now c.walk.result c.args.at (length c.args.into.now) c.walk.ensures.ahead)

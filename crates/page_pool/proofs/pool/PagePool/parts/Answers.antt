use Rattle.std.proofs.Common.{ap, length, ◌∙◌, map}
use Rattle.page_pool.specs.Places.{places_in}
use Rattle.page_pool.specs.Cuts.{upto}
use Rattle.page_pool.specs.Pages.{part}
use Rattle.page_pool.proofs.Placing.{in_pages, segments_stand}
use Rattle.page_pool.specs.Cells.{flat}
use Rattle.page_pool.proofs.Joins.{joined-parts, lie-cut}
use Rattle.page_pool.proofs.pool.PagePool.parts.Goals as goal

pub walk-requires : goal.walk-requires
walk-requires c = in_pages (length c.args.self.now) (places_in c.args.sg.now) (segments_stand c.args.self.now c.args.sg.now c.requires.lie)

pub returns-clause-ready : goal.returns-clause-ready
returns-clause-ready c = rw c.walk.ensures.ahead (lie-cut c.args.self.now c.args.sg.now c.args.at c.args.len c.requires.lie)

pub returns-clause-parts : goal.returns-clause-parts
returns-clause-parts c = ap (λ l. map (part c.args.self.now) (upto c.args.len l)) c.walk.ensures.ahead

pub returns-clause-joined : goal.returns-clause-joined
returns-clause-joined c = ap (λ l. flat (map (part c.args.self.now) (upto c.args.len l))) c.walk.ensures.ahead ∙ joined-parts c.args.self.now c.args.sg.now c.args.at c.args.len c.pages-pages.ensures.whole c.requires.lie

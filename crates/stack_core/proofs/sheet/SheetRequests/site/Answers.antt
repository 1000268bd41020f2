use Rattle.stack_walk_laws.proofs.Laid.{inside-at}
use Rattle.stack_core.proofs.sheet.SheetRequests.site.Goals as goal

pub place-dev-requires : goal.place-dev-requires
place-dev-requires c = let s = c.args.self.now in inside-at s.ios.items s.table c.args.op c.args.k c.index.result.now s.right.inside c.requires c.index.ensures

pub run_from-requires : goal.run_from-requires
run_from-requires c = let s = c.args.self.now in inside-at s.ios.items s.table c.args.op c.args.k c.index.result.now s.right.inside c.requires c.index.ensures

use Rattle.std.proofs.Common.{sym, subst, arith}
use Rattle.page_pool.specs.Places.{places_in}
use Rattle.page_pool.specs.Walking.{InPages}
use Rattle.script_text.proofs.Filled.{in_pages, small_total}
use Rattle.script_text.proofs.ops.list_of.Goals as goal

pub sg_list-requires : goal.sg_list-requires
sg_list-requires c = let t = small_total c.requires.inside.0 c.args.segs.now c.requires.inside.1 in omega (arith, t, c.requires.few)

pub returns-clause-pages : goal.returns-clause-pages
returns-clause-pages c = subst (λ l. InPages (places_in l)) (sym c.in_ok-sg_list.ensures) (in_pages c.requires.inside.0 c.args.segs.now c.requires.inside.1)

use Rattle.std.proofs.Common.{◌≡◌, ◌++◌, length, ap, ◌∙◌}
use Rattle.page_pool.specs.Pages.{bytes_in}
use Rattle.dix_adapter.specs.Walking.{tuple_or}
use Rattle.dix_adapter.proofs.walks.Walks.read.Goals as goal

pub read_ahead-requires-clause-stand : goal.read_ahead-requires-clause-stand
read_ahead-requires-clause-stand c = let l : length c.split_at_mut-data.result.0.now ≡ c.args.self.now.route.size = c.split_at_mut-data.ensures.front_len in rw l c.requires.block.body

pub returns-clause-frame : goal.returns-clause-frame
returns-clause-frame c =
    let n = c.args.self.now.route.size in
    let l : length c.split_at_mut-data.result.0.now ≡ n = c.split_at_mut-data.ensures.front_len in
    ap (λ z. z ++ c.read_tuple.new.into) (c.read_ahead.ensures.bytes ∙ ap (bytes_in c.args.pool.now c.args.self.now.body 0) l)
    ∙ ap (λ z. bytes_in c.args.pool.now c.args.self.now.body 0 n ++ z)
    (c.read_tuple.ensures.bytes ∙ ap (tuple_or c.args.pool.now c.args.self.now.tuples) c.split_at_mut-data.ensures.back)

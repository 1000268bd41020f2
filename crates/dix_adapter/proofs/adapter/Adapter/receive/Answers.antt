use Rattle.std.proofs.Common.{take, ap, ◌∙◌, arith}
use Rattle.page_pool.specs.Cells.{flat}
use Rattle.block_path.specs.Routes.{host_size}
use Rattle.dix_adapter.specs.Carried.{carried, land}
use Rattle.dix_adapter.specs.Walking.{cells_ahead}
use Rattle.dix_adapter.proofs.Frames.{cells-long}
use Rattle.dix_adapter.proofs.Landing.{land-front}
use Rattle.dix_adapter.proofs.adapter.Adapter.receive.Goals as goal

pub returns-clause-landed : goal.returns-clause-landed
returns-clause-landed c =
    let r = c.args.walks.now.route in
    let l = cells-long c.args.pool.now c.args.walks.now c.requires.block in
    record {
      fate_is = c.fate_in.ensures (take (host_size r) c.from_wire-found.new.frame) ∙ ap carried c.from_wire-found.ensures.judged;
      cells = c.deliver.ensures.cells ∙ land-front (cells_ahead c.args.walks.now) c.from_wire-found.result c.from_wire-found.new.frame (flat c.args.pool.now) (host_size r) (omega (arith, l)) ∙ ap (λ z. land (cells_ahead c.args.walks.now) z (flat c.args.pool.now)) c.from_wire-found.ensures.judged;
      pages = c.deliver.ensures.pages;
      whole = c.deliver.ensures.whole;
    }

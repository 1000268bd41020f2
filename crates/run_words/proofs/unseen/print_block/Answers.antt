use Rattle.std.proofs.Common.{◌+◌, ap, arith}
use Rattle.volume_table.specs.Places.{volume_len}
use Rattle.run_words.specs.Lies.{request_in}
use Rattle.run_words.specs.declared.unseen.Block.{Block}
use Rattle.run_words.proofs.Printing.{fits_volume, lies_inside}
use Rattle.run_words.proofs.unseen.print_block.Goals as goal

pub block_of-block-requires-clause-fits : goal.block_of-block-requires-clause-fits
block_of-block-requires-clause-fits g c =
    fits_volume c.args.guide.now.entries ((request_in c.args.ledger.now.asked.items c.args.i).first + c.args.k) c.requires.table (lies_inside (volume_len c.args.guide.now.entries) c.args.i c.args.k c.args.ledger.now.asked.items c.requires.inside c.requires.within)

pub place_in-place-requires-clause-inside : goal.place_in-place-requires-clause-inside
place_in-place-requires-clause-inside g c =
    let inside = lies_inside (volume_len c.args.guide.now.entries) c.args.i c.args.k c.args.ledger.now.asked.items c.requires.inside c.requires.within in
    let v = ap (λ (x : Block). x.v) c.block_of-block.ensures in
    let most = ap volume_len c.as_slice.ensures in
    omega (arith, inside, v, most)

use Rattle.std.proofs.Common.{◌≡◌, ◌+◌, ◌%◌, ◌^◌, eqb, false, take, drop, rules}
use Rattle.wide_blocks.specs.Information.{info_in}
use Rattle.wide_blocks.specs.Layouts.{reference_bits}
use Rattle.wide_blocks.specs.Made.{place_in_line}
use Rattle.wide_blocks.proofs.Makes.{not_exchanged}
use Rattle.wide_blocks.proofs.mapping.exchange.Goals as goal

pub returns-else-info-reference_of : goal.returns-else-info-reference_of
returns-else-info-reference_of c =
    let other : eqb (info_in c.args.layout (take 16 (drop (place_in_line c.args.layout c.args.i) c.args.blocks.now))).reference ((c.args.from + c.args.i) % 2 ^ reference_bits c.args.layout) ≡ false = search rules in
    not_exchanged c.args.layout c.args.from c.args.to c.args.i c.args.blocks.now c.requires.good c.requires.inside other

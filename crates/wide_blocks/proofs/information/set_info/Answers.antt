use Rattle.std.proofs.Common.{◌≡◌, ◌+◌, ◌-◌, ap, ◌∙◌, sym, arith, rules}
use borrow.Rule.Slice.PartMut.{put_mid}
use Rattle.wide_blocks.specs.Information.{info_bytes}
use Rattle.wide_blocks.proofs.Bits.{sixteen}
use Rattle.pi_blocks.proofs.Puts.{put_is_part}
use Rattle.wide_blocks.proofs.information.set_info.Goals as goal

pub returns : goal.returns
returns c =
    let piece = info_bytes c.args.layout c.args.info in
    let width : c.args.at + 16 - c.args.at ≡ 16 = omega arith in
    let new : c.copy_from_slice.new.self ≡ info_bytes c.args.layout c.args.info = search rules in
    ap (λ n. put_mid c.args.at n c.args.bytes.now c.copy_from_slice.new.self) width
    ∙ (ap (put_mid c.args.at 16 c.args.bytes.now) new ∙ sym (put_is_part c.args.at 16 piece c.args.bytes.now (sixteen c.args.layout c.args.info)))

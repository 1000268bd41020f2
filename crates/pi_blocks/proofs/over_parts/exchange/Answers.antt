use Rattle.std.proofs.Common.{◌≡◌, ◌∙◌, length, take, drop, sym, ap, arith}
use Rattle.std.specs.Int.{w32, from_be_bytes}
use Rattle.std.proofs.lemmas.List.{length-take-le}
use Rattle.pi_blocks.specs.Mapped.{exchanged}
use Rattle.pi_blocks.specs.Parts.{all_parts_mut}
use Rattle.pi_blocks.proofs.Maps.{kept_by_exchange}
use Rattle.pi_blocks.proofs.Puts.{put_same}
use Rattle.pi_blocks.proofs.over_parts.exchange.Goals as goal

pub returns-else-from_be_bytes-ref_tag-clause-mapped : goal.returns-else-from_be_bytes-ref_tag-clause-mapped
returns-else-from_be_bytes-ref_tag-clause-mapped c at le e =
    let all = all_parts_mut c.args.parts.now in
    let tag = take 4 (drop at all) in
    let read : c.copy_next.new.out ≡ tag = c.copy_next.ensures.copied ∙ ap (take 4) e in
    let value : from_be_bytes w32 tag ≡ c.from_be_bytes.result = sym (c.from_be_bytes.ensures ∙ ap (from_be_bytes w32) read) in
    let kept : exchanged c.args.from c.args.to tag ≡ tag = kept_by_exchange c.args.from c.args.to c.from_be_bytes.result c.ref_tag.result tag value c.ref_tag.ensures c.if-from_be_bytes-ref_tag.false in
    let four : length tag ≡ 4 = length-take-le 4 (drop at all) (omega (arith, c.requires.more, ap length e)) in
    sym (put_same at 4 all (exchanged c.args.from c.args.to tag) kept (ap length kept ∙ four))

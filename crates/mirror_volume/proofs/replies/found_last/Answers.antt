use Rattle.std.proofs.Common.{length, ◌-◌, ◌∙◌, arith, sym}
use Rattle.mirror_volume.proofs.Lasts.{fits-last, found-by-last}
use Rattle.mirror_volume.proofs.replies.found_last.Goals as goal

pub found_in-requires : goal.found_in-requires
found_in-requires c =
    fits-last (length c.args.found.now) c.args.replies.now (length c.args.replies.now - 1) c.index-replies-count.result (omega (arith, c.if-count-gt0.true)) c.index-replies-count.is c.requires

pub returns-then-count-gt0 : goal.returns-then-count-gt0
returns-then-count-gt0 c =
    c.found_in.ensures ∙ sym (found-by-last (length c.args.found.now) c.args.replies.now (length c.args.replies.now - 1) c.index-replies-count.result (omega (arith, c.if-count-gt0.true)) c.index-replies-count.is)

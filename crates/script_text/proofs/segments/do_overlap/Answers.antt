use Rattle.std.proofs.Common.{◌++◌, ap, ◌∙◌}
use Rattle.script_text.specs.Segments.{any_share}
use Rattle.script_text.proofs.Sharing.{same_share}
use Rattle.script_text.proofs.segments.do_overlap.Goals as goal

pub returns : goal.returns
returns c = c.do_neighbours_share.ensures ∙ ap any_share c.as_slice.ensures.value ∙ same_share (c.args.body.now ++ c.args.tuples.now) c.in_ok-segs.segs.items c.requires c.in_ok-segs.ensures.same

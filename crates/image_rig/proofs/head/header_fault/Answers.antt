use Rattle.std.proofs.Common.{ap, sym, ◌∙◌}
use Rattle.rig_api.specs.Headers.{is_layout}
use Rattle.rig_api.proofs.HeaderLaws.{header_layout}
use Rattle.image_rig.proofs.head.header_fault.Goals as goal

pub length_fault-requires : goal.length_fault-requires
length_fault-requires c =
    ap is_layout (c.deref.ensures.0 ∙ c.specs_in.ensures) ∙ header_layout c.args.version c.args.first.now (sym c.is_header.ensures ∙ c.if-not-is_header.false)

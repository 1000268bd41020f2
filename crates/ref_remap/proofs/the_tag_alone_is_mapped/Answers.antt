use Rattle.ref_remap.proofs.Tags.{mapped-bytes, mapped-tag, mapped-others}
use Rattle.ref_remap.proofs.the_tag_alone_is_mapped.Goals as goal

pub returns-clause-bytes : goal.returns-clause-bytes
returns-clause-bytes c = mapped-bytes

pub returns-clause-tag : goal.returns-clause-tag
returns-clause-tag c = mapped-tag

pub returns-clause-others : goal.returns-clause-others
returns-clause-others c = mapped-others

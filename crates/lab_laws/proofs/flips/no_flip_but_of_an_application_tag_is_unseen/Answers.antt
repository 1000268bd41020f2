use Rattle.lab_laws.proofs.NoneListed.{plain_quiet}
use Rattle.lab_laws.proofs.Swept.{guard_flips, only_app_tags, tag_flips}
use Rattle.lab_laws.proofs.flips.no_flip_but_of_an_application_tag_is_unseen.Goals as goal

pub returns-clause-quiet : goal.returns-clause-quiet
returns-clause-quiet c = plain_quiet

pub returns-clause-guards : goal.returns-clause-guards
returns-clause-guards c = guard_flips

pub returns-clause-tags : goal.returns-clause-tags
returns-clause-tags c = tag_flips

pub returns-clause-unseen : goal.returns-clause-unseen
returns-clause-unseen c = only_app_tags

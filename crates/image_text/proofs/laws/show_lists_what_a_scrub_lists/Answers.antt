use Rattle.image_text.proofs.Listing.{lists_alike}
use Rattle.image_text.proofs.laws.show_lists_what_a_scrub_lists.Goals as goal

pub returns : goal.returns
returns c = lists_alike

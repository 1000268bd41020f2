use Rattle.image_rig.proofs.FreshHead.{right_head, units_back}
use Rattle.image_laws.proofs.Told.{devices_back, formatted_left, told_formatted}
use Rattle.headline.proofs.formatted.a_formatted_image_tells_its_units.Goals as goal

pub returns : goal.returns
returns c = record { left = formatted_left; head = right_head; units = units_back; devices = devices_back; told = told_formatted c.a_formatted_image_is_clean.ensures.clean c.a_formatted_image_is_clean.ensures.bytes }

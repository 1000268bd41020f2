use Rattle.script_form_laws.proofs.Fresh.{formatted_below, formatted_clean, shapes_are}
use Rattle.script_form_laws.proofs.a_formatted_image_is_clean.Goals as goal

pub returns : goal.returns
returns c = record { clean = formatted_clean; shapes = shapes_are; bytes = formatted_below }

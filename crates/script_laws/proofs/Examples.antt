-- The worked scripts are read, bound and drawn as they should be.
use Rattle.std.proofs.Common.{refl}
use Rattle.hex.specs.Hex.{decode_pairs}
use Rattle.script_lines.specs.Forms.{app_form, block_form, change_form, fault_form, flip_form, inner_form, limits_form, linear_form, mode_form, over_form, overwrite_form, pages_form, place_form, read_form, readpi_form, shift_form, show_form, striped_form, write_form}
use Rattle.script_text.specs.Language.{line_taken, taken}
use Rattle.script_text.specs.Generator.{next_state}
use Rattle.script_laws.specs.Examples.{BoundExamples, ReadExamples, StateExamples}

pub read_examples : ReadExamples
unfolding app_form block_form inner_form limits_form linear_form line_taken mode_form over_form pages_form place_form readpi_form read_form show_form striped_form taken write_form decode_pairs
read_examples = record {
  empty = refl;
  only_comments = refl;
  no_header = refl;
  header_alone = refl;
  leading_zero = refl;
  word_missing = refl;
  word_too_many = refl;
  block_in_old = refl;
  tuples_without_dix = refl;
  no_blocks = refl;
  page_missing = refl;
  shared_byte = refl;
  whole = refl;
  over_inner = refl;
}

pub bound_examples : BoundExamples
unfolding app_form change_form fault_form flip_form limits_form linear_form line_taken mode_form overwrite_form pages_form place_form read_form shift_form taken write_form decode_pairs
bound_examples = record {
  whole = refl;
  past_volume = refl;
  no_such_op = refl;
  no_such_block = refl;
  shift_of_one = refl;
  shift_off_device = refl;
  shift_on_a_write = refl;
  two_shifts = refl;
  other_type = refl;
  no_such_device = refl;
  past_device = refl;
}

pub state_examples : StateExamples
unfolding next_state
state_examples = record {
  first = refl;
  second = refl;
  third = refl;
  fourth = refl;
  fifth = refl;
}

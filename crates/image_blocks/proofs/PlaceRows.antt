-- Places worked by hand: in units of 256 blocks from 0 on, of 2 from 4294967295 on, and of 3 up to 2^63.
use Rattle.std.proofs.Common.{◌≡◌, List, [], ◌∷◌, refl}
use Rattle.std.specs.Prelude.{Ok, Err}
use Rattle.pi_tuple.specs.declared.checks.PiType.TheVariants.{One, Two, Three}
use Rattle.rig_api.specs.Target.{Stored}
use Rattle.rig_api.specs.declared.units.UnitSpec.{UnitSpec}
use Rattle.image_rig.specs.LayoutPlaces.{block_place}
use Rattle.image_blocks.specs.declared.stretch.Stretch.{Stretch}
use Rattle.image_blocks.specs.declared.stretch.PlaceFault.TheVariants.{NoDevice, NoBlock}
use Rattle.image_blocks.specs.Blocks.{blocks_at, with_stretch}
use Rattle.image_blocks.specs.Places.{behind_in, front_in, part_in, whole_in}

abbrev three : List UnitSpec
three =
    record { ty = One; blocks = 256; size = 512; first = 0 }
    ∷ record { ty = Two; blocks = 2; size = 4096; first = 4294967295 }
    ∷ record { ty = Three; blocks = 3; size = 512; first = 9223372036854775805 } ∷ []

all_of_the_second : whole_in three 1 ≡ Ok (record { dev = 1; first = 4294967295; count = 2 })
all_of_the_second = refl

no_fourth : whole_in three 3 ≡ Err NoDevice
no_fourth = refl

five_in_the_middle : part_in three 0 99 5 ≡ Ok (record { dev = 0; first = 99; count = 5 })
five_in_the_middle = refl

up_to_the_last : part_in three 0 251 5 ≡ Ok (record { dev = 0; first = 251; count = 5 })
up_to_the_last = refl

one_behind_the_last : part_in three 0 252 5 ≡ Err NoBlock
one_behind_the_last = refl

one_before_the_first : part_in three 1 4294967294 1 ≡ Err NoBlock
one_before_the_first = refl

over_the_boundary : part_in three 1 4294967295 2 ≡ Ok (record { dev = 1; first = 4294967295; count = 2 })
over_the_boundary = refl

the_greatest_address : part_in three 2 9223372036854775807 1 ≡ Ok (record { dev = 2; first = 9223372036854775807; count = 1 })
the_greatest_address = refl

behind_the_greatest : part_in three 2 9223372036854775808 1 ≡ Err NoBlock
behind_the_greatest = refl

far_away : part_in three 2 18446744073709551615 65536 ≡ Err NoBlock
far_away = refl

device_before_block : part_in three 3 252 5 ≡ Err NoDevice
device_before_block = refl

block_100 : block_place three 0 100 ≡ 52512
block_100 = refl

last_of_the_second : block_place three 1 4294967296 ≡ 137736
last_of_the_second = refl

last_of_the_third : block_place three 2 9223372036854775807 ≡ 142880
last_of_the_third = refl

abbrev small : List Stored
small = record { ty = One; size = 1; first = 7; blocks = (1 ∷ []) ∷ (2 ∷ []) ∷ (3 ∷ []) ∷ (4 ∷ []) ∷ [] } ∷ []

abbrev middle : Stretch
middle = record { dev = 0; first = 8; count = 2 }

two_of_four : blocks_at small middle ≡ (2 ∷ []) ∷ (3 ∷ []) ∷ []
two_of_four = refl

others_stay : with_stretch small middle ((9 ∷ []) ∷ (8 ∷ []) ∷ []) ≡ record { ty = One; size = 1; first = 7; blocks = (1 ∷ []) ∷ (9 ∷ []) ∷ (8 ∷ []) ∷ (4 ∷ []) ∷ [] } ∷ []
others_stay = refl

first_and_rest : blocks_at small (front_in middle 1) ≡ (2 ∷ []) ∷ []
first_and_rest = refl

behind_the_first : blocks_at small (behind_in middle 1) ≡ (3 ∷ []) ∷ []
behind_the_first = refl

no_more_than_there_are : front_in middle 128 ≡ middle
no_more_than_there_are = refl

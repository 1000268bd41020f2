use Rattle.std.specs.Prelude.{ℕ, List, Option, Some, None}
use Rattle.script_words.specs.Decimals.{number_in}
use Rattle.script_words.specs.Cuts.{Cut, cut}
use Rattle.script_words.specs.Numbers.{number_within}
use Rattle.lab_run.specs.declared.place.PlaceWord.{PlaceWord}
use Rattle.lab_run.specs.declared.place.PlaceWord.TheVariants.{Device, Blocks}
use Rattle.lab_run.specs.declared.TheConstants.{MOST_COUNT}

-- all blocks of a device
abbrev pub all_of : Option ℕ → Option PlaceWord
all_of None = None
all_of (Some dev) = Some (Device dev)

-- some blocks of a device, where device, first address and number of blocks are numbers of their kinds
abbrev pub some_of : Option ℕ → Option ℕ → Option ℕ → Option PlaceWord
some_of None first count = None
some_of (Some dev) None count = None
some_of (Some dev) (Some first) None = None
some_of (Some dev) (Some first) (Some count) = Some (Blocks dev first count)

-- FIRST:COUNT behind a device: an address of 64 bits, and 1 to 65,536 blocks
abbrev pub behind_device : Option ℕ → Option Cut → Option PlaceWord
behind_device dev None = None
behind_device dev (Some c) = some_of dev (number_in c.before) (number_within 1 MOST_COUNT c.after)

abbrev pub place_by : List ℕ → Option Cut → Option PlaceWord
place_by word None = all_of (number_within 0 7 word)
place_by word (Some c) = behind_device (number_within 0 7 c.before) (cut 58 c.after)

-- the place of a word DEV or DEV:FIRST:COUNT, where DEV is 0 to 7
abbrev pub place_in : List ℕ → Option PlaceWord
place_in word = place_by word (cut 58 word)

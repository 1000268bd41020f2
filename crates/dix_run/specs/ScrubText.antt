use Rattle.std.specs.Prelude.{ℕ, ◌+◌, Bool, true, false, List, [], ◌∷◌, ◌++◌, length, codes, decimal}
use Rattle.volume_table.specs.declared.device.DeviceInfo.{DeviceInfo}
use Rattle.pi_scrub.specs.declared.found.Found.{Found}
use Rattle.report_text.specs.Report.{why_text}

-- The text of a scrub.

abbrev pub found_line : Found → List ℕ
found_line f = codes "bad " ++ (decimal f.dev ++ (codes " " ++ (decimal f.lba ++ (codes " " ++ (why_text f.why ++ codes "\n")))))

abbrev pub found_lines : List Found → List ℕ
found_lines [] = []
found_lines (f ∷ fs) = found_line f ++ found_lines fs

-- the blocks of all devices
abbrev pub all_blocks : List DeviceInfo → ℕ
all_blocks [] = 0
all_blocks (d ∷ ds) = d.blocks + all_blocks ds

abbrev pub last_line : ℕ → ℕ → List ℕ
last_line blocks bad = codes "scrubbed " ++ (decimal blocks ++ (codes " bad " ++ (decimal bad ++ codes "\n")))

-- a line for each block at fault, and the numbers of all blocks and of these
abbrev pub scrub_text : List DeviceInfo → List Found → List ℕ
scrub_text devices found = codes "dix scrub 1\n" ++ (found_lines found ++ last_line (all_blocks devices) (length found))

abbrev pub has_some : List Found → Bool
has_some [] = false
has_some (f ∷ fs) = true

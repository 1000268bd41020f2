-- The text with an `over` line of the small texts, over two devices: it meets what the law on such lines asks.
use Rattle.std.proofs.Common.{◌≡◌, ℕ, List, [], ◌∷◌, refl, arith}
use Rattle.std.specs.Prelude.{All, codes}
use Rattle.std.proofs.lemmas.List.Elements.{All-cons, All-nil}
use Rattle.pi_tuple.specs.declared.checks.PiType.TheVariants.{One}
use Rattle.volume_table.specs.declared.device.DeviceInfo.{DeviceInfo}
use Rattle.volume_table.specs.declared.entry.Entry.{Entry}
use Rattle.volume_table.specs.declared.entry.Entry.TheVariants.{Stripe}
use Rattle.volume_table.specs.Entries.{IsInRange}
use Rattle.volume_table.specs.Places.{place_in}
use Rattle.volume_table.specs.Tables.{EndFits, IsTable, Table}
use Rattle.volume_table.proofs.Laws.{made}
use Rattle.script_laws.specs.Examples.{over_text, over_two, two_units}
use Rattle.script_laws.specs.OverLines.{LiesInTree}
use Rattle.script_laws.proofs.Examples.{read_examples}
use Rattle.script_laws.proofs.OverLines.{over_places}

abbrev devices : List DeviceInfo
devices = two_units One

abbrev table : Table
table = record { entries = over_two.entries; ty = One }

abbrev first : Entry
first = Stripe (record { start = 0; len = 16; chunk = 4; legs = record { dev = 0; at = 0 } ∷ record { dev = 1; at = 0 } ∷ [] })

abbrev second : Entry
second = Stripe (record { start = 16; len = 16; chunk = 4; legs = record { dev = 0; at = 100 } ∷ record { dev = 1; at = 8 } ∷ [] })

first_fits : IsInRange first
first_fits = ((omega arith, omega arith), omega arith, omega arith, omega arith)

second_fits : IsInRange second
second_fits = ((omega arith, omega arith), omega arith, omega arith, omega arith)

in_ranges : All IsInRange over_two.entries
in_ranges = All-cons IsInRange first (second ∷ []) first_fits (All-cons IsInRange second [] second_fits (All-nil IsInRange))

abbrev device : DeviceInfo
device = record { ty = One; blocks = 256; size = 512; first = 0 }

end_fits : EndFits device
end_fits = omega arith

ends_fit : All EndFits devices
ends_fit = All-cons EndFits device (device ∷ []) end_fits (All-cons EndFits device [] end_fits (All-nil EndFits))

is_table : IsTable table
is_table = record { devices = devices; size = 512; made = made over_two.entries devices 512 (omega arith) in_ranges ends_fit refl }

abbrev before : List (List ℕ)
before =
    codes "dix 2" ∷ codes "mode crc on on 1" ∷ codes "limits 64 16 16" ∷ codes "pages 1" ∷ codes "block 512"
    ∷ codes "inner 0 8 dev 0 at 0" ∷ codes "inner 0 8 dev 0 at 100" ∷ codes "inner 1 16 dev 1 at 0" ∷ []

abbrev words : List (List ℕ)
words = codes "0" ∷ codes "32" ∷ codes "chunk" ∷ codes "4" ∷ codes "legs" ∷ codes "0" ∷ codes "1" ∷ []

lies : LiesInTree table before words
lies = over_places over_text over_two table before (codes "begin" ∷ []) (codes "over 0 32 chunk 4 legs 0 1") words read_examples.over_inner is_table refl refl refl

-- block 17 lies in chunk 4, so in inner volume 0 at its block 9, which is the second of its second extent; block 21 in chunk 5
places : (place_in table.entries 17 ≡ (0, 101)) × (place_in table.entries 21 ≡ (1, 9))
places = (refl, refl)

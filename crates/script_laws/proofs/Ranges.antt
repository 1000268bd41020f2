-- The entries of a script are in the ranges of a table's.
use Rattle.std.proofs.Common.{All, List, [], ◌∷◌}
use Rattle.std.proofs.lemmas.List.Elements.{All-cons, All-nil}
use Rattle.volume_table.specs.declared.entry.Entry.{Entry}
use Rattle.volume_table.specs.declared.entry.Entry.TheVariants.{Linear, Stripe}
use Rattle.volume_table.specs.Entries.{IsInRange}
use Rattle.script_laws.specs.Keeping.{Each, IsEntry}

in_range : (e : Entry) → IsEntry e → IsInRange e
in_range (Linear e) h = (h.1.low_is, h.1.high_is)
in_range (Stripe s) h = ((h.1.low_is, h.1.high_is), h.2.low_is, h.3.count.low_is, h.3.count.high_is)

pub all_in_range : (es : List Entry) → Each IsEntry es → All IsInRange es
all_in_range [] h = All-nil IsInRange
all_in_range (e ∷ es) h = All-cons IsInRange e es (in_range e h.0) (all_in_range es h.1)

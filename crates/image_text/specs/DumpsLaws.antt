use Rattle.std.specs.Prelude.{ℕ, ◌≡◌, true, List, length}
use Rattle.pi_tuple.specs.declared.checks.PiType.{PiType}
use Rattle.rig_api.specs.Frames.{joined, stored_size}
use Rattle.target_model.specs.Served.{AllLong}
use Rattle.image_text.specs.declared.layout.Layout.{Layout}
use Rattle.image_text.specs.Dumps.{dump_of, fits, imported, piece_len}

-- The dump of what is stored of pieces is these pieces, one after another.
abbrev pub DumpComesBack : Type 0
DumpComesBack = (layout : Layout) (ty : PiType) (size lba : ℕ) (blocks pieces : List (List ℕ)) → fits layout ty ≡ true → length blocks ≡ length pieces → AllLong (stored_size ty size) blocks → AllLong (piece_len layout ty size) pieces →
    dump_of layout size (imported layout ty size lba blocks pieces) ≡ joined pieces

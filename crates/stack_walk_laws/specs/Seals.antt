use Rattle.std.specs.Prelude.{◌≡◌, ◌*◌}
use Rattle.page_pool.specs.Places.{total}
use Rattle.run_laws.specs.Passed.{Setting, Op, Fetch, FetchPi, Fill, Overwrite, Put, Seal, Show, Wait, Write, WritePi}

-- what a `seal` takes is whole blocks of the volume's size
abbrev pub IsSealed : Setting → Op → Type 0
IsSealed m (Fill seg byte) = Unit {0}
IsSealed m (Put page off bytes) = Unit {0}
IsSealed m (Show seg) = Unit {0}
IsSealed m (Seal n body tuples app rtag) = total body ≡ n * m.size
IsSealed m (Write v n body app) = Unit {0}
IsSealed m (Fetch v n body) = Unit {0}
IsSealed m (WritePi v n body tuples) = Unit {0}
IsSealed m (FetchPi v n body tuples) = Unit {0}
IsSealed m (Overwrite dev lba change) = Unit {0}
IsSealed m Wait = Unit {0}

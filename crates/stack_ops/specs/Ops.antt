use Rattle.std.specs.Prelude.{ℕ, Bool, true, false}
use Rattle.stack_ops.specs.declared.op.Op.{Op}
use Rattle.stack_ops.specs.declared.op.Op.TheVariants.{Fetch, FetchPi, Fill, Overwrite, Put, Seal, Show, Wait, Write, WritePi}

-- What is asked of an op: whether it alters a stored block without a command, and where its request begins.

abbrev pub is_overwrite : Op → Bool
is_overwrite (Fill seg byte) = false
is_overwrite (Put page off bytes) = false
is_overwrite (Show seg) = false
is_overwrite (Seal n body tuples app rtag) = false
is_overwrite (Write v n body app) = false
is_overwrite (Fetch v n body) = false
is_overwrite (WritePi v n body tuples) = false
is_overwrite (FetchPi v n body tuples) = false
is_overwrite (Overwrite dev lba change) = true
is_overwrite Wait = false

-- the first virtual block of a request
abbrev pub first_virt : Op → ℕ
first_virt (Fill seg byte) = 0
first_virt (Put page off bytes) = 0
first_virt (Show seg) = 0
first_virt (Seal n body tuples app rtag) = 0
first_virt (Write v n body app) = v
first_virt (Fetch v n body) = v
first_virt (WritePi v n body tuples) = v
first_virt (FetchPi v n body tuples) = v
first_virt (Overwrite dev lba change) = 0
first_virt Wait = 0

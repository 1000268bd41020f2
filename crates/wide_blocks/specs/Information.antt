use Rattle.std.specs.Prelude.{ℕ, ◌+◌, ◌-◌, ◌*◌, ◌/◌, ◌%◌, ◌^◌, List}
use Rattle.std.specs.Int.{w128, from_be_bytes, to_be_bytes}
use Rattle.wide_blocks.specs.declared.information.Information.{Information}
use Rattle.wide_blocks.specs.declared.layout.NvmeLayout.{NvmeLayout}
use Rattle.wide_blocks.specs.Layouts.{reference_bits}

-- so many bits of a number, above so many others
abbrev pub field : ℕ → ℕ → ℕ → ℕ
field below width n = n / 2 ^ below % 2 ^ width

-- a number with so many bits of another behind it
abbrev pub joined : ℕ → ℕ → ℕ → ℕ
joined high width low = high * 2 ^ width + low % 2 ^ width

-- the four fields of sixteen bytes, the most significant first: guard, application tag of 16 bits, storage tag, reference tag
abbrev pub fields_of : NvmeLayout → ℕ → Information
fields_of l n = record {
  guard = field (128 - l.guard) l.guard n;
  app = field (112 - l.guard) 16 n;
  storage = field (reference_bits l) l.storage n;
  reference = field 0 (reference_bits l) n;
}

abbrev pub number_of : NvmeLayout → Information → ℕ
number_of l t = joined (joined (joined (joined 0 l.guard t.guard) 16 t.app) l.storage t.storage) (reference_bits l) t.reference

-- the information that these sixteen bytes spell, and the bytes that spell it
unfoldable pub info_in : NvmeLayout → List ℕ → Information
info_in l b = fields_of l (from_be_bytes w128 b)

unfoldable pub info_bytes : NvmeLayout → Information → List ℕ
info_bytes l t = to_be_bytes w128 (number_of l t)

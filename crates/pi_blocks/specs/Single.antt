use Rattle.pi_tuple.specs.declared.tuple.Tuple.{Tuple}
use Rattle.pi_blocks.specs.declared.single.TupleFields.{TupleFields}

-- the tuple of these fields, and the fields of a tuple
abbrev pub tuple_of : TupleFields → Tuple
tuple_of f = record { guard = f.guard; app = f.app; rtag = f.rtag }

abbrev pub fields_of : Tuple → TupleFields
fields_of t = record { guard = t.guard; app = t.app; rtag = t.rtag }

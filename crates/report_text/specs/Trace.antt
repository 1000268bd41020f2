use Rattle.std.specs.Prelude.{ℕ, List, [], ◌∷◌, ◌++◌, codes, decimal, Option, Some, None}
use Rattle.hex.specs.Hex.{encode_lower}
use Rattle.sense_codes.specs.declared.Sense.{Sense}
use Rattle.sense_codes.specs.Written.{written}
use Rattle.rig_api.specs.declared.rig.Outcome.{Outcome}
use Rattle.rig_api.specs.declared.rig.Record.{Record}
use Rattle.rig_api.specs.Log.{LogEntry}

-- the sense data's bytes, where there is a sense
abbrev pub sense_text : Option Sense → List ℕ
sense_text None = codes "-"
sense_text (Some s) = encode_lower (written s)

-- what stands behind the command block: the number of blocks done and the sense
abbrev pub end_text : Outcome → List ℕ
end_text o = codes " " ++ (decimal o.done ++ (codes " " ++ (sense_text o.sense ++ codes "\n")))

-- the device, the command block, the number of blocks done and the sense
abbrev pub trace_line : Record → List ℕ
trace_line r = codes "x " ++ (decimal r.dev ++ (codes " " ++ (encode_lower r.cdb ++ end_text r.outcome)))

-- the lines of these records, in order
abbrev pub trace : List LogEntry → List ℕ
trace [] = []
trace (e ∷ es) = trace_line e.what ++ trace es

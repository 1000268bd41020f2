use Rattle.std.specs.Prelude.{ℕ, ◌≡◌}
use Rattle.pi_tuple.specs.declared.checks.Check.{Check}
use Rattle.pi_tuple.specs.declared.checks.Check.TheVariants.{Guard, AppTag, RefTag}
use Rattle.sense_codes.specs.declared.Sense.{Sense}
use Rattle.sense_codes.specs.declared.layer.Layer.{Layer}
use Rattle.sense_codes.specs.declared.layer.Layer.TheVariants.{Adapter, Target}
use Rattle.sense_codes.specs.declared.codes.TheConstants.{ILLEGAL_REQUEST, ABORTED_COMMAND, PROTECTION}

-- the adapter refuses what it was given, ILLEGAL REQUEST; the target gives up, ABORTED COMMAND (SPC-4, 4.5.6)
abbrev pub key_of : Layer → ℕ
key_of Adapter = ILLEGAL_REQUEST
key_of Target = ABORTED_COMMAND

-- LOGICAL BLOCK GUARD CHECK FAILED, APPLICATION TAG CHECK FAILED, REFERENCE TAG CHECK FAILED
abbrev pub ascq_of : Check → ℕ
ascq_of Guard = 0x01
ascq_of AppTag = 0x02
ascq_of RefTag = 0x03

-- the sense by which this layer says that this check failed
pub record Tells (layer : Layer) (check : Check) (s : Sense) : Type 0 where
  pub key : s.key ≡ key_of layer
  pub asc : s.asc ≡ PROTECTION
  pub ascq : s.ascq ≡ ascq_of check

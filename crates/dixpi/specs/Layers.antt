use Rattle.std.specs.Prelude.{ℕ}
use Rattle.sense_codes.specs.declared.layer.Layer.{Layer}
use Rattle.sense_codes.specs.declared.layer.Layer.TheVariants.{Adapter, Target}

-- 1 where the target made a check, 0 where the adapter did
abbrev pub by_target_of : Layer → ℕ
by_target_of Adapter = 0
by_target_of Target = 1

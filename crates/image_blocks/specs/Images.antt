use Rattle.std.specs.Prelude.{ℕ, ◌≡◌, List, Option, Result, IfOk}
use Rattle.rig_api.specs.Headers.{image_size}
use Rattle.rig_api.specs.declared.units.UnitSpec.{UnitSpec}
use Rattle.rig_api.specs.Head.{HasJudged, Head, IsFaultOf, units_of}
use Rattle.rig_api.specs.declared.rig.RigFault.{RigFault}
use Rattle.image_blocks.specs.declared.image.Image.{Image}

-- the units of an image that is open
abbrev pub units_open : Image → List UnitSpec
units_open image = image.units.items

-- The answer judges the head of these bytes, where told: it is right, these are its units and the length is theirs, or the refusal names its first fault.
pub record IsJudged (result : Result Image RigFault) (bytes : Option (List ℕ)) (len : ℕ) : Type 0 where
  pub head : Head
  pub judged : IsFaultOf result head
  pub told : HasJudged result head head bytes
  pub units : IfOk result (λ image. units_open image ≡ units_of head)
  pub held : IfOk result (λ image. len ≡ image_size (units_open image))

-- What a script comes to over freshly formatted units.
use Rattle.std.specs.Prelude.{ℕ, ◌*◌, List, drop, take}
use Rattle.page_pool.specs.Cells.{flat}
use Rattle.stack_ops.specs.declared.reply.Reply.{Reply}
use Rattle.rig_api.specs.Frames.{joined}
use Rattle.rig_api.specs.Image.{formatted}
use Rattle.rig_api.specs.declared.units.UnitSpec.{UnitSpec}
use Rattle.image_laws.specs.Over.{left_by, replied}
use Rattle.script_text.specs.declared.script.Script.{Script}
use Rattle.flip_sweep.specs.declared.runs.Came.{Came}
use Rattle.page_pool.specs.declared.TheConstants.{PAGE}

-- what a run comes to: what its ops reply, its pages, and all stored blocks, one after another
pub record CameTo : Type 0 where
  pub replies : List Reply
  pub pages : List ℕ
  pub stored : List ℕ

-- What the ops of a script come to over the formatted image of these units, done one after another at the target.
abbrev pub came_to : Script → List UnitSpec → CameTo
came_to s us = record {
  replies = replied s (formatted us);
  pages = (left_by s (formatted us)).bytes;
  stored = joined (left_by s (formatted us)).blocks;
}

-- what a run with so many pages came to, by its stack and the image that it left
abbrev pub seen_of : Came → (pages : ℕ) → CameTo
seen_of c pages = record {
  replies = c.run.stack.replies.items;
  pages = take (PAGE * pages) (flat c.run.stack.pool);
  stored = drop 512 c.rig.store.bytes;
}

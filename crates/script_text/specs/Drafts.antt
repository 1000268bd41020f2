use Rattle.std.specs.Prelude.{ℕ, List, Option}
use Rattle.merge_queue.specs.declared.Limits.{Limits}
use Rattle.script_lines.specs.declared.line.ModeLine.{ModeLine}
use Rattle.script_lines.specs.declared.verb.ScriptVersion.{ScriptVersion}
use Rattle.script_lines.specs.declared.verb.Section.{Section}
use Rattle.stack_ops.specs.declared.op.Op.{Op}
use Rattle.volume_table.specs.declared.entry.Entry.{Entry}
use Rattle.script_text.specs.declared.draft.Draft.{Draft}
use Rattle.script_text.specs.declared.raw_fault.RawFault.{RawFault}
use Rattle.script_text.specs.declared.trees.Inner.{Inner}

-- what was read so far
pub record Drafted : Type 0 where
  pub version : ScriptVersion
  pub section : Option Section
  pub mode : ModeLine
  pub app : ℕ
  pub mask : ℕ
  pub expect_line : ℕ
  pub limits : Limits
  pub pages : ℕ
  pub block : ℕ
  pub inner : List Inner
  pub entries : List Entry
  pub faults : List RawFault
  pub schedule : List (ℕ × ℕ)
  pub ops : List Op
  pub blocks : ℕ
  pub fault_lines : List ℕ
  pub op_lines : List ℕ

abbrev pub drafted : Draft → Drafted
drafted d = record {
  version = d.version;
  section = d.section;
  mode = d.mode;
  app = d.app;
  mask = d.mask;
  expect_line = d.expect_line;
  limits = d.limits;
  pages = d.pages;
  block = d.block;
  inner = d.inner.items;
  entries = d.entries.items;
  faults = d.faults.items;
  schedule = d.schedule.items;
  ops = d.ops.items;
  blocks = d.blocks;
  fault_lines = d.fault_lines.items;
  op_lines = d.op_lines.items;
}

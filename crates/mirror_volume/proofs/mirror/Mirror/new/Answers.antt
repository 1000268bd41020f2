use Rattle.std.proofs.Common.{◌≡◌, ap, replicate, rules, ◌∙◌}
use Rattle.std.specs.Prelude.{◌/◌}
use Rattle.volume_table.specs.Places.{volume_len}
use Rattle.volume_table.specs.Tables.{Table}
use Rattle.script_stack.specs.Causes.{table_of}
use Rattle.mirror_laws.specs.Mirror.{fresh}
use Rattle.mirror_volume.specs.Standing.{half_of}
use Rattle.mirror_volume.proofs.Starts.{stands-first}
use Rattle.mirror_volume.proofs.mirror.Mirror.new.Goals as goal

pub returns-clause-told : goal.returns-clause-told
returns-clause-told c =
    let s = c.args.script in
    let devices = c.args.devices.items in
    let table = c.in_ok-table_of.ensures ∙ ap (table_of s) c.as_slice.ensures.value in
    let half : c.len-half.result / 2 ≡ half_of s devices = ap (λ n. n / 2) (c.len-half.ensures ∙ ap (λ (t : Table). volume_len t.entries) table) in
    let marks : c.in_ok-marks.marks.items ≡ replicate (c.len-half.result / 2) fresh = search rules in
    λ us. stands-first s devices us (record { pool = c.in_ok-pool.pool; marks = c.in_ok-marks.marks.items }) c.in_ok-pool.ensures (marks ∙ ap (λ n. replicate n fresh) half)

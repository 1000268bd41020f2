-- Where the blocks of a volume lie, and that each has a cell of its own.
use Rattle.std.proofs.Common.{◌≡◌, ◌<◌, ℕ, List, sym, ap, ◌∙◌, subst, arith}
use Rattle.volume_table.specs.declared.device.DeviceInfo.{DeviceInfo}
use Rattle.volume_table.specs.declared.entry.Entry.{Entry}
use Rattle.volume_table.specs.Places.{place_in, volume_len}
use Rattle.volume_table.specs.Tables.{MadeFor, Table}
use Rattle.run_laws.specs.Passed.{Setting, home}
use Rattle.run_laws.specs.OpsApart.{OneCellEach}
use Rattle.script_laws.specs.Passed.{Script}
use Rattle.script_run_laws.specs.Bound.{IsAddress, IsSettingOf}

pub same-pair : (p q : ℕ × ℕ) → p.0 ≡ q.0 → p.1 ≡ q.1 → p ≡ q
same-pair p q a b = ap (λ n. (n, p.1)) a ∙ ap (λ n. (q.0, n)) b

-- a block of the volume is an address of its device
pub place-there : (t : Table) (devices : List DeviceInfo) (size v : ℕ) → MadeFor t devices size → v < volume_len t.entries → IsAddress devices (place_in t.entries v).0 (place_in t.entries v).1
place-there t devices size v made l =
    let on = made.inside v l in
    let ends = on.ends in
    record { known = on.known; begins = on.begins; ends = omega arith }

-- the cell of a block's place, by the volume's own entries
pub home-is : (m : Setting) (t : Table) (v : ℕ) → m.entries ≡ t.entries → home m v ≡ m.site.cell (place_in t.entries v).0 (place_in t.entries v).1
home-is m t v e = ap (λ (es : List Entry). m.site.cell (place_in es v).0 (place_in es v).1) e

pub in-volume : (m : Setting) (t : Table) (v : ℕ) → m.entries ≡ t.entries → v < volume_len m.entries → v < volume_len t.entries
in-volume m t v e l = subst (λ (es : List Entry). v < volume_len es) e l

pub one-each : (m : Setting) (s : Script) (t : Table) (devices : List DeviceInfo) (logs : ℕ) → MadeFor t devices s.block → IsSettingOf m s t devices logs → OneCellEach m
one-each m s t devices logs made is u v lu lv same =
    let e = is.entries in
    let ku = in-volume m t u e lu in
    let kv = in-volume m t v e lv in
    let p = place_in t.entries u in
    let q = place_in t.entries v in
    let at = is.apart p.0 p.1 q.0 q.1 (place-there t devices s.block u made ku) (place-there t devices s.block v made kv) (sym (home-is m t u e) ∙ same ∙ home-is m t v e) in
    made.alone u v ku kv (same-pair p q at.0 at.1)

-- each block has a log
pub home-logged : (m : Setting) (s : Script) (t : Table) (devices : List DeviceInfo) (logs v : ℕ) → MadeFor t devices s.block → IsSettingOf m s t devices logs → v < volume_len t.entries → home m v < logs
home-logged m s t devices logs v made is l =
    subst (λ (c : ℕ). c < logs) (sym (home-is m t v is.entries)) (is.logged (place_in t.entries v).0 (place_in t.entries v).1 (place-there t devices s.block v made l))

-- One more block that a shift would leave where it is.
use Rattle.std.proofs.Common.{ℕ, ℤ, ◌≡◌, ◌+◌, ◌-◌, ◌<◌, nat_le, Bool, true, false, if◌then◌else◌, List, sym, ap, ◌∙◌, arith, ⊎_elim}
use Rattle.std.proofs.lemmas.Bool.{cases_Bool, leb-true}
use Rattle.volume_table.specs.declared.device.DeviceInfo.{DeviceInfo}
use Rattle.volume_table.specs.Places.{volume_len}
use Rattle.volume_table.specs.Tables.{Table}
use Rattle.script_text.specs.Bindings.{block_stays, blocks_stay}
use Rattle.script_text.proofs.Drawing.{less}

pub not_behind : (l at : ℕ) → at < l → nat_le l at ≡ false
not_behind l at h = ⊎_elim (λ (e : nat_le l at ≡ true). let g = leb-true l at e in absurd (omega (arith, h, g))) (λ (e : nat_le l at ≡ false). e) (cases_Bool (nat_le l at))

pub stay_more : (t : Table) (devices : List DeviceInfo) (by : ℤ) (at n i : ℕ) (all : Bool) → i < n → at < volume_len t.entries → block_stays t devices by at ≡ true
    → blocks_stay t devices by at (n - i) ≡ all → blocks_stay t devices by (at + 1) (n - (i + 1)) ≡ all
stay_more t devices by at n i all h within stays so_far =
    sym (ap (blocks_stay t devices by at) (less n i h)
    ∙ ap (λ b. if b then true else (if block_stays t devices by at then blocks_stay t devices by (at + 1) (n - (i + 1)) else false)) (not_behind (volume_len t.entries) at within)
    ∙ ap (λ b. if b then blocks_stay t devices by (at + 1) (n - (i + 1)) else false) stays)
    ∙ so_far

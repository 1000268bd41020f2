use Rattle.std.specs.Prelude.{ℕ, ◌≡◌, Option, None, Some, Result, Ok, Err}
use Rattle.wide_blocks.specs.declared.block.NvmeFound.{NvmeFound}
use Rattle.wide_blocks.specs.declared.layout.NvmeRefusal.{NvmeRefusal}
use Rattle.wide_blocks.specs.declared.layout.NvmeRefusal.TheVariants.{Field, Layout, Length}

-- the status of a refusal
abbrev pub nvme_status : NvmeRefusal → ℕ
nvme_status Layout = 2
nvme_status Length = 3
nvme_status Field = 5

-- The status of a check: what was found is told where a block differs, and else what was told before stays.
abbrev pub ToldNvme : Result (Option NvmeFound) NvmeRefusal → (status : ℕ) → (old new : NvmeFound) → Type 0
ToldNvme (Ok None) status old new = (status ≡ 0) × (new ≡ old)
ToldNvme (Ok (Some first)) status old new = (status ≡ 1) × (new ≡ first)
ToldNvme (Err why) status old new = (status ≡ nvme_status why) × (new ≡ old)

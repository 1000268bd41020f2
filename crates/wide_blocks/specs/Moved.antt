use Rattle.std.specs.Prelude.{ℕ, ◌+◌, ◌*◌, List, ◌++◌, take, drop, Option, None, Some}
use Rattle.pi_blocks.specs.Puts.{all_put, put_at}
use Rattle.wide_blocks.specs.declared.block.NvmeFound.{NvmeFound}
use Rattle.wide_blocks.specs.declared.layout.NvmeLayout.{NvmeLayout}
use Rattle.wide_blocks.specs.declared.making.NvmeTags.{NvmeTags}
use Rattle.wide_blocks.specs.Blocks.{WideBlock}
use Rattle.wide_blocks.specs.Layouts.{info_at, stride_of}
use Rattle.wide_blocks.specs.Made.{made_bytes}

-- the data of block i, where data lie by themselves, and the metadata of block i of blocks
abbrev pub data_of : NvmeLayout → List ℕ → ℕ → List ℕ
data_of l body i = take l.data_size (drop (i * l.data_size) body)

abbrev pub meta_of : NvmeLayout → List ℕ → ℕ → List ℕ
meta_of l bytes i = take l.meta_size (drop (i * stride_of l + l.data_size) bytes)

-- the block that data and metadata are
abbrev pub joined_block : NvmeLayout → List ℕ → List ℕ → ℕ → WideBlock
joined_block l body bytes i = record { guarded = data_of l body i ++ take (info_at l) (meta_of l bytes i); info = take 16 (drop (info_at l) (meta_of l bytes i)) }

-- a block with its data inserted: the data, and the metadata that was there, in which the information is made
abbrev pub inserted_block : NvmeLayout → NvmeTags → List ℕ → List ℕ → ℕ → List ℕ
inserted_block l tags body bytes i = data_of l body i ++ put_at (info_at l) (made_bytes l tags (joined_block l body bytes) i) (meta_of l bytes i)

-- where block i begins, with its metadata and without
abbrev pub block_at : NvmeLayout → ℕ → ℕ
block_at l i = i * stride_of l

abbrev pub data_at : NvmeLayout → ℕ → ℕ
data_at l i = i * l.data_size

-- n blocks with their data inserted
abbrev pub inserted : NvmeLayout → NvmeTags → ℕ → List ℕ → List ℕ → List ℕ
inserted l tags n body bytes = all_put (block_at l) (inserted_block l tags body bytes) n bytes

-- the data of the first n blocks, put where data lie by themselves
abbrev pub stripped_block : NvmeLayout → List ℕ → ℕ → List ℕ
stripped_block l bytes i = take l.data_size (drop (block_at l i) bytes)

abbrev pub stripped : NvmeLayout → ℕ → List ℕ → List ℕ → List ℕ
stripped l n bytes body = all_put (data_at l) (stripped_block l bytes) n body

-- how many blocks are before the one that differs, of n
abbrev pub good_before : ℕ → Option NvmeFound → ℕ
good_before n None = n
good_before n (Some found) = found.block

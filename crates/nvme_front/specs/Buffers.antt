use Rattle.std.specs.Prelude.{ℕ, zero, suc, ◌+◌, ◌*◌, ◌%◌, ◌^◌, if◌then◌else◌, List, [], ◌++◌, length, take, drop, replicate}
use Rattle.pi_guard.specs.Guards.{crc}
use Rattle.pi_tuple.specs.Finds.{has_ref_tag, is_zero}
use Rattle.pi_tuple.specs.Tuples.{tuple_bytes}
use Rattle.pi_tuple.specs.declared.checks.PiType.{PiType}
use Rattle.rig_api.specs.Frames.{stored_size}
use Rattle.nvme_front.specs.Commands.{is_write}
use Rattle.nvme_front.specs.Completions.{is_success}
use Rattle.nvme_front.specs.Refusals.{has_meta}
use Rattle.nvme_front.specs.declared.command.NvmCommand.{NvmCommand}
use Rattle.nvme_front.specs.declared.completion.Completion.{Completion}

-- The frames of a command, and what becomes of the host's buffers.

-- the reference tag that PRACT has made for block k: the initial tag, and one more for each block before it but in type 3
abbrev pub made_tag : PiType → (rtag k : ℕ) → ℕ
made_tag ty rtag k = if has_ref_tag ty then (rtag + k) % 2 ^ 32 else rtag

-- the tuple that goes out with block k: made from its data, or the given one
abbrev pub tuple_for : PiType → NvmCommand → (k : ℕ) → (block given : List ℕ) → List ℕ
tuple_for ty c k block given = if c.pract then tuple_bytes (record { guard = crc block; app = c.app; rtag = made_tag ty c.rtag k }) else given

-- the frames of n blocks from block k on: each block's data, then its tuple
abbrev pub frames_out : PiType → NvmCommand → (size k : ℕ) → ℕ → (body meta : List ℕ) → List ℕ
frames_out ty c size k zero body meta = []
frames_out ty c size k (suc n) body meta =
    take size body ++ (tuple_for ty c k (take size body) (take 8 meta) ++ frames_out ty c size (k + 1) n (drop size body) (drop 8 meta))

-- what goes out with a command: a unit of type 0 gets data alone, and a read sends nothing
abbrev pub sent_by : PiType → NvmCommand → (size : ℕ) → (body meta : List ℕ) → List ℕ
sent_by ty c size body meta = if is_write c then (if is_zero ty then body else frames_out ty c size 0 c.count body meta) else []

-- the bytes that come in with it: the frames of a read
abbrev pub room_for : PiType → NvmCommand → (size : ℕ) → ℕ
room_for ty c size = if is_write c then 0 else c.count * stored_size ty size

-- of each of n frames of this width the part from a place on, one after another
abbrev pub parts : (width from len : ℕ) → ℕ → List ℕ → List ℕ
parts width from len zero frames = []
parts width from len (suc n) frames = take len (drop from (take width frames)) ++ parts width from len n (drop width frames)

-- the data and the tuples of the frames that came
abbrev pub data_in : PiType → NvmCommand → (size : ℕ) → List ℕ → List ℕ
data_in ty c size came = parts (stored_size ty size) 0 size c.count came

abbrev pub meta_in : PiType → NvmCommand → (size : ℕ) → List ℕ → List ℕ
meta_in ty c size came = if has_meta ty c then parts (stored_size ty size) size 8 c.count came else []

-- a buffer afterwards: a write leaves it, a read that succeeds fills it with its part of the frames, and one that fails with zeros
abbrev pub filled : NvmCommand → Completion → (old came : List ℕ) → List ℕ
filled c done old came = if is_write c then old else (if is_success done then came else replicate (length old) 0)

abbrev pub body_after : PiType → NvmCommand → (size : ℕ) → Completion → (came body : List ℕ) → List ℕ
body_after ty c size done came body = filled c done body (data_in ty c size came)

abbrev pub meta_after : PiType → NvmCommand → (size : ℕ) → Completion → (came meta : List ℕ) → List ℕ
meta_after ty c size done came meta = filled c done meta (meta_in ty c size came)

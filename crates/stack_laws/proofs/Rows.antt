-- The definitions tried on scripts whose commands are known.
use Rattle.std.proofs.Common.{◌≡◌, ℕ, ◌+◌, ◌-◌, ◌*◌, ◌≤◌, zero, suc, Bool, true, false, ◌&&◌, ◌||◌, eqb, ltb, List, [], ◌∷◌, replicate, get_or, refl, arith}
use Rattle.std.specs.Prelude.{◌/◌, ◌%◌, if◌then◌else◌}
use Rattle.merge_queue.specs.Passed.{Read, Write, Fate, Good, Bad, Untouched, Medium}
use Rattle.merge_queue.specs.declared.limits.Limits.{Limits}
use Rattle.merge_queue.specs.Groups.{size}
use Rattle.stack_laws.specs.Plan.{Plan, PlannedOp, Place, no_request, request_at}
use Rattle.stack_laws.specs.Steps.{enabled}
use Rattle.stack_laws.specs.Sound.{OnDevices}
use Rattle.stack_laws.specs.Formed.{Straight}
use Rattle.stack_laws.specs.Pieces.{greatest_piece}
use Rattle.stack_laws.specs.Rests.{untouched_runs}
use Rattle.stack_laws.specs.Runs.{ScheduleEntry, Rig, SentCommand, all_good, end_of, sends_of, sends_with}

-- segments of n blocks from k on where each segment holds so many blocks
abbrev in_pages : ℕ → ℕ → ℕ → ℕ
in_pages each k n = ((k + n - 1) / each + 1) - k / each

abbrev on_device : ℕ → ℕ → Place
on_device dev lba = record { dev = dev; lba = lba }

abbrev entry : ℕ → ℕ → ScheduleEntry
entry w c = record { word = w; cut = c }

abbrev write : ℕ → ℕ → PlannedOp
write first count = record { dir = Write; first = first; count = count }

abbrev fetch : ℕ → ℕ → PlannedOp
fetch first count = record { dir = Read; first = first; count = count }

abbrev writes : ℕ → ℕ → ℕ → SentCommand
writes dev lba count = record { dev = dev; dir = Write; lba = lba; count = count }

abbrev reads : ℕ → ℕ → ℕ → SentCommand
reads dev lba count = record { dev = dev; dir = Read; lba = lba; count = count }

abbrev small : Limits
small = record { max_blocks = 64; max_segs = 16; max_pi_segs = 16 }

abbrev none : ℕ → ℕ → Bool
none i j = false

abbrev all : ℕ → ℕ → Bool
all i j = true

-- ---- a stripe over two devices

abbrev striped : Plan
striped = record {
  requests = write 5 20 ∷ [];
  devices = 2;
  place = λ v. on_device ((v / 8) % 2) (((v / 8) / 2) * 8 + v % 8);
  run_from = λ v. 8 - v % 8;
  segs = λ i k n. in_pages 8 k n;
  pi_segs = λ i k n. in_pages 512 k n;
  conflicts = none;
  limits = small;
}

striped_sends : sends_of striped [] ≡ writes 0 5 11 ∷ writes 1 0 9 ∷ []
striped_sends = refl

striped_pieces : (greatest_piece striped 0 0 ∷ greatest_piece striped 0 3 ∷ greatest_piece striped 0 11 ∷ greatest_piece striped 0 19 ∷ []) ≡ 3 ∷ 8 ∷ 8 ∷ 1 ∷ []
striped_pieces = refl

-- ---- two linear extents that change places

abbrev crossed : Plan
crossed = record {
  requests = write 0 4 ∷ write 4 4 ∷ fetch 4 1 ∷ no_request ∷ [];
  devices = 1;
  place = λ v. if ltb v 4 then on_device 0 (104 + v) else on_device 0 (100 + (v - 4));
  run_from = λ v. if ltb v 4 then 4 - v else 8 - v;
  segs = λ i k n. 1;
  pi_segs = λ i k n. 1;
  conflicts = λ i j. (eqb i 1 && eqb j 2) || (eqb i 2 && eqb j 3);
  limits = small;
}

crossed_sends : sends_of crossed [] ≡ writes 0 100 8 ∷ reads 0 100 1 ∷ []
crossed_sends = refl

-- ---- one linear extent

abbrev linear : List PlannedOp → (ℕ → ℕ → Bool) → Plan
linear rs conflicts = record {
  requests = rs;
  devices = 2;
  place = λ v. on_device 0 (100 + v);
  run_from = λ v. 64 - v;
  segs = λ i k n. 1;
  pi_segs = λ i k n. 1;
  conflicts = conflicts;
  limits = small;
}

abbrev two : Plan
two = linear (write 0 2 ∷ write 2 2 ∷ []) none

two_joined : sends_of two [] ≡ writes 0 100 4 ∷ []
two_joined = refl

two_sent_apart : sends_of two (entry 0 0 ∷ entry 1 0 ∷ entry 1 0 ∷ []) ≡ writes 0 100 2 ∷ writes 0 102 2 ∷ []
two_sent_apart = refl

two_cut_and_joined : sends_of two (entry 0 0 ∷ entry 1 1 ∷ entry 2 0 ∷ []) ≡ writes 0 100 1 ∷ writes 0 101 3 ∷ []
two_cut_and_joined = refl

-- ---- commands that are done in part: the fates of the first ones are given

abbrev rig_of : List (List Fate) → Rig
rig_of fs n g = get_or fs n (replicate (size g) Good)

abbrev U : Fate
U = Untouched

abbrev B : Fate
B = Bad Medium

-- a bad block of a write: the first group is settled without an exchange
a_bad_write_block : sends_with (linear (no_request ∷ no_request ∷ write 0 4 ∷ no_request ∷ []) all) (rig_of ((U ∷ B ∷ U ∷ U ∷ []) ∷ [])) [] ≡ writes 0 100 4 ∷ writes 0 100 1 ∷ writes 0 102 2 ∷ []
a_bad_write_block = refl

-- the target refuses a block of a joined command
refused_in_a_joined_one : sends_with (linear (write 0 4 ∷ write 4 4 ∷ []) none) (rig_of ((Good ∷ Good ∷ Good ∷ B ∷ U ∷ U ∷ U ∷ U ∷ []) ∷ [])) [] ≡ writes 0 100 8 ∷ writes 0 104 4 ∷ []
refused_in_a_joined_one = refl

-- it refuses one of each request
refused_in_each : sends_with (linear (write 0 4 ∷ write 4 4 ∷ []) none) (rig_of ((Good ∷ B ∷ U ∷ U ∷ U ∷ U ∷ U ∷ U ∷ []) ∷ (Good ∷ Good ∷ B ∷ U ∷ U ∷ U ∷ []) ∷ [])) [] ≡ writes 0 100 8 ∷ writes 0 102 6 ∷ writes 0 105 3 ∷ []
refused_in_each = refl

runs_row : untouched_runs 0 (U ∷ U ∷ Good ∷ U ∷ B ∷ B ∷ U ∷ U ∷ U ∷ []) ≡ record { at = 0; count = 2 } ∷ record { at = 3; count = 1 } ∷ record { at = 6; count = 3 } ∷ []
runs_row = refl

-- two pieces of two blocks pass three blocks
abbrev narrow_two : Plan
narrow_two = record {
  requests = write 0 2 ∷ write 2 2 ∷ [];
  devices = 2;
  place = λ v. on_device 0 (100 + v);
  run_from = λ v. 64 - v;
  segs = λ i k n. 1;
  pi_segs = λ i k n. 1;
  conflicts = none;
  limits = record { max_blocks = 3; max_segs = 16; max_pi_segs = 16 };
}

three_blocks_hold_one_piece : sends_of narrow_two [] ≡ writes 0 100 2 ∷ writes 0 102 2 ∷ []
three_blocks_hold_one_piece = refl

-- 2,048 blocks over whole pages
abbrev large : Plan
large = record {
  requests = write 0 2048 ∷ [];
  devices = 1;
  place = λ v. on_device 0 v;
  run_from = λ v. 4096 - v;
  segs = λ i k n. in_pages 8 k n;
  pi_segs = λ i k n. in_pages 512 k n;
  conflicts = none;
  limits = record { max_blocks = 1024; max_segs = 128; max_pi_segs = 16 };
}

large_pieces : (greatest_piece large 0 0 ∷ greatest_piece large 0 1024 ∷ []) ≡ 1024 ∷ 1024 ∷ []
large_pieces = refl

large_sends : sends_of large [] ≡ writes 0 0 1024 ∷ writes 0 1024 1024 ∷ []
large_sends = refl

-- ---- the premises of the laws can be met

on_devices : OnDevices two
on_devices i k h = omega arith

two_at : (i : ℕ) → (request_at two i).first + (request_at two i).count ≤ 4
two_at zero = omega arith
two_at (suc zero) = omega arith
two_at (suc (suc i)) = omega arith

straight : Straight two
straight = record {
  one = omega arith;
  some = λ i k h. (let e = two_at i in omega arith);
  dev = λ i k n h l. refl;
  lba = λ i k n h l. omega arith;
}

ends_there : enabled two (end_of two all_good (entry 0 0 ∷ entry 1 1 ∷ [])) ≡ []
ends_there = refl

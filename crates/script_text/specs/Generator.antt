use Rattle.std.specs.Prelude.{ℕ, zero, suc, ◌+◌, ◌*◌, ◌/◌, ◌%◌, ◌^◌, true, eqb, if◌then◌else◌, List, [], ◌∷◌}
use Rattle.page_pool.specs.declared.segs.Seg.{Seg}
use Rattle.pi_guard.specs.declared.GuardKind.TheVariants.{Ip}
use Rattle.stack_ops.specs.declared.op.Op.{Op}
use Rattle.stack_ops.specs.declared.op.Op.TheVariants.{Fill, Show, Write, Fetch}
use Rattle.volume_table.specs.declared.entry.Entry.{Entry}
use Rattle.volume_table.specs.declared.entry.Entry.TheVariants.{Linear, Stripe}
use Rattle.script_text.specs.declared.script.Script.{Script}
use Rattle.page_pool.specs.declared.TheConstants.{PAGE}

-- A large script from a number.

-- a linear congruential generator of 32 bits
unfoldable pub next_state : ℕ → ℕ
next_state x = (x * 1664525 + 1013904223) % 2 ^ 32

-- a number below m, from the upper half of a state
abbrev pub drawn : (m x : ℕ) → ℕ
drawn m x = (x / 65536) % m

-- the first bytes of a page
abbrev pub page_start : (page len : ℕ) → Seg
page_start page len = record { page = page; off = 0; len = len }

abbrev pub op_by : (kind n v page tag : ℕ) → Op
op_by kind n v page tag =
    if eqb kind 0 then Fill (page_start page PAGE) (tag % 256)
    else (if eqb kind 1 then Write v n (page_start page (512 * n) ∷ []) tag
    else (if eqb kind 2 then Fetch v n (page_start page (512 * n) ∷ [])
    else Show (page_start page 16)))

-- the op of the five states behind this one: its kind, its blocks, its first block, its page and its tag or byte
abbrev pub op_from : ℕ → Op
op_from x =
    op_by (drawn 4 (next_state x)) (1 + drawn 8 (next_state (next_state x))) (drawn 6136 (next_state (next_state (next_state x)))) (drawn 64 (next_state (next_state (next_state (next_state x)))))
    (drawn 65535 (next_state (next_state (next_state (next_state (next_state x))))))

abbrev pub after_op : ℕ → ℕ
after_op x = next_state (next_state (next_state (next_state (next_state x))))

abbrev pub ops_from : ℕ → ℕ → List Op
ops_from zero x = []
ops_from (suc n) x = op_from x ∷ ops_from n (after_op x)

-- the state behind n ops
abbrev pub after_ops : ℕ → ℕ → ℕ
after_ops zero x = x
after_ops (suc n) x = after_ops n (after_op x)

-- entries of the schedule: a word and a cut
abbrev pub schedule_from : ℕ → ℕ → List (ℕ × ℕ)
schedule_from zero x = []
schedule_from (suc n) x = (drawn 65536 (next_state x), drawn 9 (next_state (next_state x))) ∷ schedule_from n (next_state (next_state x))

abbrev pub numbers_from : ℕ → ℕ → List ℕ
numbers_from zero k = []
numbers_from (suc n) k = k ∷ numbers_from n (k + 1)

abbrev pub big_entries : List Entry
big_entries =
    Stripe (record { start = 0; len = 4096; chunk = 8; legs = record { dev = 0; at = 0 } ∷ record { dev = 1; at = 0 } ∷ [] })
    ∷ Linear (record { start = 4096; len = 2048; dev = 0; at = 2048 }) ∷ []

-- the script of n ops from a seed; six lines are printed before its schedule
abbrev pub big : (n seed : ℕ) → Script
big n seed = record {
  mode = record { kind = Ip; dix = true; dif = true; protect = 1; app = 0; mask = 0 };
  limits = record { max_blocks = 64; max_segs = 32; max_pi_segs = 8 };
  pages = 64;
  block = 512;
  expect_line = 0;
  entries = big_entries;
  faults = [];
  schedule = schedule_from (4 * n) (after_ops n seed);
  ops = ops_from n seed;
  lines = numbers_from n (4 * n + 8);
}

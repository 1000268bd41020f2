-- What `new` makes is a stack.
use Rattle.std.proofs.Common.{◌≡◌, ◌<◌, ◌≤◌, ℕ, Bool, List, length, map, sym, ap, ◌∙◌}
use Rattle.std.specs.Vec.{vec_capacity}
use Rattle.merge_queue.specs.declared.limits.Limits.{Limits}
use Rattle.volume_table.specs.Tables.{Table}
use Rattle.stack_ops.specs.declared.op.Op.{Op}
use Rattle.stack_laws.specs.Runs.{blocks_of_requests}
use Rattle.stack_steps.specs.Does.{Works}
use Rattle.stack_core.specs.declared.stack.Stack.{Stack}
use Rattle.stack_walk_laws.specs.Sheets.{op_in, request_in}
use Rattle.stack_walk_laws.specs.Settling.{AreFates}
use Rattle.stack_walk_laws.specs.Requests.{pages_from, requests_from}
use Rattle.stack_core.specs.Replies.{HoldsBad}
use Rattle.stack_core.specs.Rooms.{Suits, blocks_in}
use Rattle.stack_core.specs.Stacks.{HoldsEach, IsStack, plan_in, room_at}
use Rattle.stack_walk_laws.specs.Starting.{CanStart}
use Rattle.stack_walk_laws.proofs.WalksBegin.{length-requests}
use Rattle.stack_core.proofs.FirstRooms.{first-rooms}
use Rattle.stack_core.proofs.Opening.{uniform, wholes}

-- a stack of these ops, with the room for all
pub record Made (dix : Bool) (protect : ℕ) (limits : Limits) (pages : ℕ) (ops : List Op) (s : Stack) : Type 0 where
  pub ops_are : s.sheet.ops ≡ ops
  pub ios_are : s.sheet.ios.items ≡ requests_from dix pages ops
  pub limits_are : s.sheet.limits ≡ limits
  pub works : Works (plan_in s.sheet) s.machine
  pub protect_is : s.adapter.protect ≡ protect
  pub dix_is : s.adapter.dix ≡ dix
  pub count : length s.pool ≡ pages_from dix pages ops
  pub rooms : length s.rooms.items ≡ length ops
  pub bad : (i : ℕ) → i < length ops → HoldsBad (blocks_in (op_in ops i)) (room_at s.rooms.items i)
  pub suits : (i : ℕ) → i < length ops → Suits (op_in ops i) (room_at s.rooms.items i)
  pub kept : AreFates (requests_from dix pages ops) s.kept.starts.items s.kept.held.items
  pub replies : length s.replies.items ≡ length ops
  pub group : blocks_of_requests (map request_in (requests_from dix pages ops)) ≤ vec_capacity s.group
  pub fates : blocks_of_requests (map request_in (requests_from dix pages ops)) ≤ vec_capacity s.fates
  pub scratch : HoldsEach (requests_from dix pages ops) limits.max_blocks s.scratch

pub first-stack : (table : Table) (dix : Bool) (protect : ℕ) (limits : Limits) (pages : ℕ) (pool : List (List ℕ)) (ops : List Op) (s : Stack) → CanStart table dix protect limits pages pool ops → Made dix protect limits pages ops s → IsStack s
first-stack table dix protect limits pages pool ops s c m =
    let n = length-requests dix pages ops in
    record {
      works = m.works;
      fixed = record {
        ops = ap length m.ops_are ∙ sym n ∙ sym (ap length m.ios_are);
        protect = rw (m.protect_is) c.protect_is;
        few = rw (m.limits_are) c.most_blocks;
        bytes = c.bytes;
        uniform = rw (m.dix_is, m.ios_are) (uniform table dix protect limits pages pool ops c);
      };
      whole = rw (m.ios_are) (wholes table dix protect limits pages pool s.pool ops c m.count);
      rooms = rw (m.ops_are, m.ios_are) (first-rooms table dix protect limits pages pool s.pool ops s.rooms.items c m.count m.rooms m.bad m.suits);
      kept = rw (m.ios_are) m.kept;
      replies = m.replies ∙ sym n ∙ sym (ap length m.ios_are);
      lists = rw (m.ios_are, m.limits_are) (record { group_room = m.group; fates_room = m.fates; scratch_room = m.scratch });
    }

use Rattle.std.proofs.Common.{◌≡◌, ℕ, ◌+◌, ◌*◌, ap, ◌∙◌, arith}
use Rattle.rig_api.specs.Log.{HasRoom, Room}
use Rattle.rig_api.specs.Telling.{Standing, greatest_size}
use Rattle.rig_api.specs.State.{RigState}
use Rattle.image_rig.specs.Logs.{room_in}
use Rattle.stack_laws.specs.Runs.{blocks_of_requests}
use Rattle.stack_core.specs.Stacks.{plan_in}
use Rattle.test_rig.specs.Answering.{standing_of}
use Rattle.bench_calls.proofs.run.sent.Goals as goal

-- room for as many exchanges as blocks
room-of : (a b : Standing) (n k : ℕ) (r : Room) → b ≡ a → n ≡ k → HasRoom (greatest_size a) n n r → HasRoom (greatest_size b) k k r
room-of a b n k r e p h =
    let w : (greatest_size a + 8) * n ≡ (greatest_size a + 8) * k = ap (λ z. (greatest_size a + 8) * z) p in
    let x = h.records in
    let y = h.labels in
    let z = h.moved in
    rw e (record { records = omega (arith, x, p); labels = omega (arith, y, p); moved = omega (arith, z, w) })

pub commands-requires : goal.commands-requires
commands-requires c = record {
  stack = c.requires.stack;
  reaches = c.requires.reaches (standing_of c.reserve.new.self.devices) (ap (λ (s : Standing). s.devices) (ap (λ (s : RigState). s.standing) c.reserve.ensures.keeps) ∙ c.new-rig.ensures);
  spare = c.requires.spare (standing_of c.reserve.new.self.devices) (room_in c.reserve.new.self.log)
      (room-of (standing_of c.new-rig.result.devices) (standing_of c.reserve.new.self.devices) c.blocks-blocks.result (blocks_of_requests (plan_in c.args.stack.sheet).requests) (room_in c.reserve.new.self.log)
      (ap (λ (s : RigState). s.standing) c.reserve.ensures.keeps) c.blocks-blocks.ensures.all c.in_ok-reserve.ensures.room);
}

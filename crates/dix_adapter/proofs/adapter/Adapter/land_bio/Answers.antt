use Rattle.std.proofs.Common.{◌≡◌, ◌+◌, drop, ap, sym, ◌∙◌, arith}
use Rattle.block_path.specs.Routes.{wire_size}
use Rattle.block_path.specs.declared.route.Route.{Route}
use Rattle.dix_adapter.specs.Groups.{route_by}
use Rattle.dix_adapter.proofs.Ahead.{block-once, has-block, next-before}
use Rattle.dix_adapter.proofs.Landing.{frame-there, still-ahead}
use Rattle.dix_adapter.proofs.OnTheWay.{landed-next, still-goes}
use Rattle.dix_adapter.proofs.adapter.Adapter.land_bio.Goals as goal

pub land_next-requires-clause-block : goal.land_next-requires-clause-block
land_next-requires-clause-block c = has-block c.args.self.now c.loop.pool c.args.io.now c.args.bio.now c.loop.counter c.loop.walks c.loop.invariant.can (omega (arith, c.requires.few)) c.loop.invariant.before

pub land_next-requires-clause-once : goal.land_next-requires-clause-once
land_next-requires-clause-once c = block-once c.args.io.now (route_by c.args.self.now c.args.io.now c.args.bio.now c.loop.counter) c.loop.walks c.requires.once c.loop.invariant.before

pub loop-preserved : goal.loop-preserved
loop-preserved c =
    let w = wire_size (route_by c.args.self.now c.args.io.now c.args.bio.now 0) in
    let r : wire_size c.loop.walks.route ≡ wire_size (route_by c.args.self.now c.args.io.now c.args.bio.now 0) = ap (λ (r : Route). wire_size r) c.loop.invariant.before.route in
    let s : c.wire_size-step.result ≡ wire_size (route_by c.args.self.now c.args.io.now c.args.bio.now 0) = c.wire_size-step.ensures ∙ ap (λ (r : Route). wire_size r) (c.of-walks.ensures.route ∙ c.route.ensures) in
    let p : c.loop.at + c.wire_size-step.result ≡ c.loop.at + wire_size (route_by c.args.self.now c.args.io.now c.args.bio.now 0) = ap (λ k. c.loop.at + k) s in
    let f = frame-there c.loop.at c.loop.counter w c.loop.frames c.args.frames.now c.loop.invariant.place c.loop.invariant.behind.behind in
    record {
      can = still-goes c.args.self.now c.loop.pool c.land_next.new.pool c.args.io.now c.args.bio.now c.land_next.ensures.landed.pages c.land_next.ensures.landed.whole c.loop.invariant.can;
      before = next-before c.args.self.now c.args.io.now c.args.bio.now c.loop.counter c.loop.walks c.land_next.new.walks c.loop.invariant.before c.land_next.ensures.past;
      landed = landed-next c.args.self.now c.args.io.now c.args.bio.now c.loop.counter c.loop.walks (drop c.loop.at c.loop.frames) c.args.frames.now c.args.pool.now c.loop.pool c.land_next.new.pool
          c.args.fates.now.items c.loop.fates.items c.push_reserved.new.self.items c.land_next.result c.loop.invariant.before c.loop.invariant.landed c.land_next.ensures.landed c.push_reserved.ensures.items f;
      number = omega (arith, c.push_reserved.ensures.len, c.loop.invariant.number);
      capacity = c.push_reserved.ensures.capacity ∙ c.loop.invariant.capacity;
      place = (let q = c.loop.invariant.place in omega arith);
      behind = record {
        behind = ap (λ k. drop k c.land_next.new.frames) (p ∙ ap (λ k. c.loop.at + k) (sym r))
            ∙ still-ahead c.loop.at (wire_size c.loop.walks.route) c.land_next.new.frames c.loop.frames c.args.frames.now c.land_next.ensures.behind.behind c.loop.invariant.behind.behind
            ∙ ap (λ k. drop k c.args.frames.now) (sym (p ∙ ap (λ k. c.loop.at + k) (sym r)));
        long = c.land_next.ensures.behind.long ∙ c.loop.invariant.behind.long;
      };
    }

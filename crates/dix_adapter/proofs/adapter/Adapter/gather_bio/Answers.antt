-- The frames that were gathered, and what was found in each.
use Rattle.std.proofs.Common.{◌≡◌, ℕ, ◌+◌, List, ◌++◌, length, take, drop, ap, sym, ◌∙◌, arith, length-append}
use Rattle.std.proofs.lemmas.List.{length-drop, take-append-le, take-take}
use Rattle.page_pool.specs.Cells.{flat, gather}
use Rattle.bio_core.specs.Bios.{block_size}
use Rattle.rig_api.specs.Passed.{unless}
use Rattle.block_path.specs.Routes.{host_size, wire_size}
use Rattle.block_path.specs.WayOut.{to_wire}
use Rattle.block_path.specs.declared.route.Route.{Route}
use Rattle.dix_adapter.specs.Groups.{route_by}
use Rattle.dix_adapter.specs.Carried.{sends_by, unsent}
use Rattle.dix_adapter.specs.Walking.{cells_ahead}
use Rattle.dix_adapter.proofs.Ahead.{cells-are, has-block, next-before}
use Rattle.dix_adapter.proofs.Frames.{host-frame}
use Rattle.dix_adapter.proofs.Gathering.{fates-more, gathers-more, room-for, route-most, wire-most}
use Rattle.dix_adapter.proofs.Landing.{frame-front}
use Rattle.dix_adapter.proofs.adapter.Adapter.gather_bio.Goals as goal

pub read-requires-clause-block : goal.read-requires-clause-block
read-requires-clause-block c = has-block c.args.self.now c.args.pool.now c.args.io.now c.args.bio.now c.loop.counter c.loop.walks c.requires.can (omega arith) c.loop.invariant.before

pub split_at_mut-frame-requires : goal.split_at_mut-frame-requires
split_at_mut-frame-requires c =
    let s : c.loop.walks.route.size ≡ block_size c.args.io.now = ap (λ (r : Route). r.size) c.loop.invariant.before.route in
    let m = wire-most c.args.self.now c.args.io.now c.args.bio.now in
    let r = room-for c.loop.counter c.args.bio.now.count (wire_size (route_by c.args.self.now c.args.io.now c.args.bio.now 0)) (block_size c.args.io.now + 8) c.args.from (omega arith) m in
    omega (arith, s, r, c.loop.invariant.place, c.loop.invariant.long, c.requires.room, c.split_at_mut-rest.ensures.back_len)

-- what stands before a place stays
before-stays : (at : ℕ) (X B frames : List ℕ) → length X ≡ at → X ≡ take at frames → take at (X ++ B) ≡ take at frames
before-stays at X B frames l e = take-append-le at X B (omega arith) ∙ ap (take at) e ∙ take-take at at frames (omega arith)

pub loop-preserved : goal.loop-preserved
loop-preserved c =
    let a = c.args.self.now in
    let io = c.args.io.now in
    let b = c.args.bio.now in
    let h = c.loop.invariant.before in
    let now = c.loop.walks.route in
    let front = c.split_at_mut-rest.result.0.now in
    let frame = c.to_wire.new.frame in
    let back = c.split_at_mut-frame.result.1.now in
    let m = route-most now in
    let d = length-drop now.size c.split_at_mut-frame.result.0.now in
    let host = host-frame c.args.pool.now c.loop.walks (drop now.size c.split_at_mut-frame.result.0.now)
    (has-block a c.args.pool.now io b c.loop.counter c.loop.walks c.requires.can (omega arith) h) (omega (arith, d, c.split_at_mut-frame.ensures.front_len)) in
    let found : unless c.to_wire.result (take (wire_size now) (drop c.loop.at (front ++ (frame ++ back)))) ≡ to_wire a.tamper now (gather 0 (cells_ahead c.loop.walks) (flat c.args.pool.now)) =
    ap (unless c.to_wire.result)
    (frame-front c.loop.at (wire_size now) front frame back c.split_at_mut-rest.ensures.front_len (omega (arith, m, c.to_wire.ensures.length, c.split_at_mut-frame.ensures.front_len)))
    ∙ c.to_wire.ensures.judged
    ∙ ap (λ z. to_wire a.tamper now (take (host_size now) z)) c.read.ensures.frame
    ∙ ap (to_wire a.tamper now) host in
    let judged : unless c.to_wire.result (take (wire_size (route_by a io b c.loop.counter)) (drop c.loop.at (front ++ (frame ++ back)))) ≡ sends_by a io b (flat c.args.pool.now) c.loop.counter =
    ap (λ (r : Route). unless c.to_wire.result (take (wire_size r) (drop c.loop.at (front ++ (frame ++ back))))) (sym h.route)
    ∙ found
    ∙ ap (λ (r : Route). to_wire a.tamper r (gather 0 (cells_ahead c.loop.walks) (flat c.args.pool.now))) h.route
    ∙ ap (λ z. to_wire a.tamper (route_by a io b c.loop.counter) (gather 0 z (flat c.args.pool.now))) (cells-are a io b c.loop.counter c.loop.walks h) in
    let s : c.wire_size-step.result ≡ wire_size (route_by a io b 0) = c.wire_size-step.ensures ∙ ap (λ (r : Route). wire_size r) (c.of-walks.ensures.route ∙ c.route.ensures) in
    let long = length-append front (frame ++ back) in
    let behind = length-append frame back in
    record {
      before = next-before a io b c.loop.counter c.loop.walks c.read.new.self h c.read.ensures.past;
      fates = fates-more a io b (flat c.args.pool.now) c.loop.counter c.args.fates.now.items c.loop.fates.items c.push_reserved.new.self.items c.fate_out.result
          c.loop.invariant.fates c.push_reserved.ensures.items (c.fate_out.ensures _ ∙ ap unsent judged);
      number = omega (arith, c.push_reserved.ensures.len, c.loop.invariant.number);
      capacity = c.push_reserved.ensures.capacity ∙ c.loop.invariant.capacity;
      gathers = gathers-more a io b (flat c.args.pool.now) c.loop.counter c.args.from c.loop.at c.args.frames.now c.loop.frames (front ++ (frame ++ back)) c.to_wire.result
          c.loop.invariant.gathers c.loop.invariant.place
          (before-stays c.loop.at front (frame ++ back) c.loop.frames c.split_at_mut-rest.ensures.front_len c.split_at_mut-rest.ensures.front) judged;
      place = (let p = c.loop.invariant.place in omega arith);
      long = (let l : length (front ++ (frame ++ back)) ≡ length c.loop.frames =
          omega (arith, long, behind, c.to_wire.ensures.length, c.split_at_mut-frame.ensures.front_len, c.split_at_mut-frame.ensures.back_len, c.split_at_mut-rest.ensures.front_len, c.split_at_mut-rest.ensures.back_len) in
          l ∙ c.loop.invariant.long);
    }

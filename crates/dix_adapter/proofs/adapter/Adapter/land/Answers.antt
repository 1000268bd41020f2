use Rattle.std.proofs.Common.{◌≡◌, ◌+◌, ◌*◌, ◌++◌, min, length, map, get_or, drop, refl, ap, ◌∙◌, arith, length-append}
use Rattle.page_pool.specs.Cells.{flat}
use Rattle.block_path.specs.Routes.{wire_size}
use Rattle.dix_adapter.specs.Carried.{carried, comes_first, frame_len, lands_first}
use Rattle.dix_adapter.specs.Groups.{block_len, first_of, no_bio, route_by, size}
use Rattle.dix_adapter.proofs.Blocks.{size-more}
use Rattle.dix_adapter.proofs.Landing.{ahead-behind, bio-at, came-long, group-most, landed-step, place-more, request-at, room-group, width-at}
use Rattle.dix_adapter.proofs.OnTheWay.{can-go}
use Rattle.dix_adapter.proofs.adapter.Adapter.land.Goals as goal

pub split_at_mut-rest-requires : goal.split_at_mut-rest-requires
split_at_mut-rest-requires c =
    let r = room-group c.args.done c.loop-bio.left 0 (frame_len c.args.self.now c.args.ios.now c.args.req.now) (block_len c.args.ios.now c.args.req.now + 8) (size c.args.req.now) (length c.loop-bio.frames)
    (omega arith) (omega (arith, c.loop-bio.invariant.left)) c.requires.done (group-most c.args.self.now c.args.pool.now c.requires.group.0 c.args.ios.now c.args.req.now c.requires.group.1) (omega (arith, c.loop-bio.invariant.long, c.requires.room)) in
    omega (arith, r, c.loop-bio.invariant.place)

pub land_bio-at-requires-clause-can : goal.land_bio-at-requires-clause-can
land_bio-at-requires-clause-can c =
    let k = bio-at c.args.self.now c.args.pool.now c.requires.group.0 c.args.ios.now c.args.req.now c.loop-bio.bio-index c.requires.group.1 (omega arith) in
    let q = request-at c.args.self.now c.args.pool.now c.requires.group.0 c.args.ios.now c.args.req.now c.loop-bio.bio-index c.index-ios-bio.result c.requires.group.1 (omega arith) c.index-ios-bio.is in
    can-go c.args.self.now c.args.pool.now c.loop-bio.pool c.requires.group.0 c.args.ios.now (first_of c.args.req.now).dev (first_of c.args.req.now).dir c.index-ios-bio.result (get_or c.args.req.now c.loop-bio.bio-index no_bio) k q c.loop-bio.invariant.pages c.loop-bio.invariant.whole

pub land_bio-at-requires-clause-room : goal.land_bio-at-requires-clause-room
land_bio-at-requires-clause-room c =
    let u = width-at c.args.self.now c.args.pool.now c.requires.group.0 c.args.ios.now c.args.req.now c.loop-bio.bio-index c.index-ios-bio.result c.requires.group.1 (omega arith) c.index-ios-bio.is in
    let r = room-group c.args.done c.loop-bio.left c.min-count.result (frame_len c.args.self.now c.args.ios.now c.args.req.now) (block_len c.args.ios.now c.args.req.now + 8) (size c.args.req.now) (length c.loop-bio.frames)
    (omega (arith, c.min-count.ensures)) (omega (arith, c.loop-bio.invariant.left)) c.requires.done (group-most c.args.self.now c.args.pool.now c.requires.group.0 c.args.ios.now c.args.req.now c.requires.group.1) (omega (arith, c.loop-bio.invariant.long, c.requires.room)) in
    let p : c.min-count.result * wire_size (route_by c.args.self.now c.index-ios-bio.result (get_or c.args.req.now c.loop-bio.bio-index no_bio) 0) ≡ c.min-count.result * frame_len c.args.self.now c.args.ios.now c.args.req.now = ap (λ x. c.min-count.result * x) u in
    omega (arith, r, p, c.loop-bio.invariant.place, c.split_at_mut-rest.ensures.back_len)

pub loop-bio-preserved : goal.loop-bio-preserved
loop-bio-preserved c =
    let s = c.args.self.now in
    let ios = c.args.ios.now in
    let req = c.args.req.now in
    let v = c.loop-bio.invariant in
    let io = c.index-ios-bio.result in
    let b = get_or req c.loop-bio.bio-index no_bio in
    let count = c.min-count.result in
    let fates = c.loop-bio.fates.items in
    let ahead = drop c.loop-bio.at c.loop-bio.frames in
    let lent = c.split_at_mut-rest.result.1.now in
    let q = request-at s c.args.pool.now c.requires.group.0 ios req c.loop-bio.bio-index io c.requires.group.1 (omega arith) c.index-ios-bio.is in
    let u = width-at s c.args.pool.now c.requires.group.0 ios req c.loop-bio.bio-index io c.requires.group.1 (omega arith) c.index-ios-bio.is in
    let n : c.min-count.result ≡ min b.count c.loop-bio.left = c.min-count.ensures in
    let m = size-more req c.loop-bio.bio-index no_bio (omega arith) in
    let l = ap length c.land_bio-at.ensures.landed.fates_are in
    let e = length-append fates (map carried (comes_first s io b (wire_size (route_by s io b 0)) lent count)) in
    let o = came-long s io b (wire_size (route_by s io b 0)) lent count in
    let f : c.split_at_mut-rest.result.1.now ≡ drop c.loop-bio.at c.loop-bio.frames = c.split_at_mut-rest.ensures.back in
    record {
      pages = c.land_bio-at.ensures.landed.pages ∙ v.pages;
      whole = c.land_bio-at.ensures.landed.whole;
      landed = landed-step s ios req c.loop-bio.bio-index (frame_len s ios req) c.args.done c.loop-bio.left c.loop-bio.at io b c.args.frames.now c.loop-bio.frames (flat c.args.pool.now) fates c.land_bio-at.new.fates.items (flat c.loop-bio.pool) (flat c.land_bio-at.new.pool)
          (omega arith) refl q v.left v.place v.ahead v.landed
          (c.land_bio-at.ensures.landed.fates_are
          ∙ ap (λ x. fates ++ map carried (comes_first s io b (wire_size (route_by s io b 0)) x count)) f
          ∙ ap (λ x. fates ++ map carried (comes_first s io b x ahead count)) u
          ∙ ap (λ x. fates ++ map carried (comes_first s io b (frame_len s ios req) ahead x)) n)
          (c.land_bio-at.ensures.landed.cells
          ∙ ap (λ x. lands_first s io b (wire_size (route_by s io b 0)) x (flat c.loop-bio.pool) count) f
          ∙ ap (λ x. lands_first s io b x ahead (flat c.loop-bio.pool) count) u
          ∙ ap (λ x. lands_first s io b (frame_len s ios req) ahead (flat c.loop-bio.pool) x) n);
      left = omega (arith, m, n, v.left);
      number = omega (arith, l, e, o, n, v.number);
      place = place-more c.args.done c.loop-bio.left count (frame_len s ios req) c.loop-bio.at (c.loop-bio.at + c.land_bio-at.result) (omega (arith, n)) (omega (arith, v.left)) v.place
          (ap (λ x. c.loop-bio.at + x) (c.land_bio-at.ensures.size ∙ ap (λ x. c.min-count.result * x) u));
      ahead = ahead-behind c.loop-bio.at c.land_bio-at.result c.split_at_mut-rest.result.0.now c.land_bio-at.new.frames c.loop-bio.frames c.args.frames.now c.split_at_mut-rest.ensures.front_len
          (c.land_bio-at.ensures.behind.behind ∙ ap (drop c.land_bio-at.result) f) v.ahead;
      long = (let y = c.land_bio-at.ensures.behind.long in
          let z = v.long in
          let x = length-append c.split_at_mut-rest.result.0.now c.land_bio-at.new.frames in
          omega (arith, x, y, z, c.split_at_mut-rest.ensures.front_len, c.split_at_mut-rest.ensures.back_len));
      capacity = c.land_bio-at.ensures.capacity ∙ v.capacity;
    }

use Rattle.std.proofs.Common.{◌≡◌, ◌+◌, ◌*◌, length, map, get_or, take, refl, sym, ap, ◌∙◌, arith, length-append}
use Rattle.std.proofs.lemmas.List.{length-map}
use Rattle.page_pool.specs.Cells.{flat}
use Rattle.bio_core.specs.Bios.{block_size}
use Rattle.block_path.specs.Routes.{wire_size}
use Rattle.dix_adapter.specs.Groups.{block_len, first_of, no_bio, route_by, size}
use Rattle.dix_adapter.specs.Carried.{sends_first, unsent}
use Rattle.dix_adapter.proofs.Blocks.{size-front, size-more}
use Rattle.dix_adapter.proofs.Gathering.{wire-most}
use Rattle.dix_adapter.proofs.Grouping.{first-long, gathered-more, room-left, times-most}
use Rattle.dix_adapter.proofs.Landing.{bio-at, group-bytes, request-at, size-at}
use Rattle.dix_adapter.proofs.OnTheWay.{can-go}
use Rattle.dix_adapter.proofs.adapter.Adapter.gather.Goals as goal

pub gather_bio-at-requires-clause-can : goal.gather_bio-at-requires-clause-can
gather_bio-at-requires-clause-can c =
    let k = bio-at c.args.self.now c.args.pool.now c.requires.group.0 c.args.ios.now c.args.req.now c.loop-bio.bio-index c.requires.group.1 (omega arith) in
    let q = request-at c.args.self.now c.args.pool.now c.requires.group.0 c.args.ios.now c.args.req.now c.loop-bio.bio-index c.index-ios-bio.result c.requires.group.1 (omega arith) c.index-ios-bio.is in
    can-go c.args.self.now c.args.pool.now c.args.pool.now c.requires.group.0 c.args.ios.now (first_of c.args.req.now).dev (first_of c.args.req.now).dir c.index-ios-bio.result (get_or c.args.req.now c.loop-bio.bio-index no_bio) k q refl c.requires.whole

pub gather_bio-at-requires-clause-room : goal.gather_bio-at-requires-clause-room
gather_bio-at-requires-clause-room c =
    let s : block_size c.index-ios-bio.result ≡ c.requires.group.0 = size-at c.args.self.now c.args.pool.now c.requires.group.0 c.args.ios.now c.args.req.now c.loop-bio.bio-index c.index-ios-bio.result c.requires.group.1 (omega arith) c.index-ios-bio.is in
    let m = size-more c.args.req.now c.loop-bio.bio-index no_bio (omega arith) in
    let f = size-front c.args.req.now (c.loop-bio.bio-index + 1) in
    let e : block_size c.index-ios-bio.result + 8 ≡ block_len c.args.ios.now c.args.req.now + 8 =
    ap (λ n. n + 8) (s ∙ sym (group-bytes c.args.self.now c.args.pool.now c.requires.group.0 c.args.ios.now c.args.req.now c.requires.group.1)) in
    let w : (get_or c.args.req.now c.loop-bio.bio-index no_bio).count * (block_size c.index-ios-bio.result + 8) ≡ (get_or c.args.req.now c.loop-bio.bio-index no_bio).count * (block_len c.args.ios.now c.args.req.now + 8) =
    ap (λ n. (get_or c.args.req.now c.loop-bio.bio-index no_bio).count * n) e in
    let z = room-left (get_or c.args.req.now c.loop-bio.bio-index no_bio).count (block_len c.args.ios.now c.args.req.now + 8) (size (take c.loop-bio.bio-index c.args.req.now)) (size c.args.req.now) (omega arith) in
    omega (arith, z, w, c.loop-bio.invariant.place, c.loop-bio.invariant.long, c.requires.room)

pub gather_bio-at-requires-clause-fates : goal.gather_bio-at-requires-clause-fates
gather_bio-at-requires-clause-fates c =
    let m = size-more c.args.req.now c.loop-bio.bio-index no_bio (omega arith) in
    let f = size-front c.args.req.now (c.loop-bio.bio-index + 1) in
    omega (arith, m, f, c.loop-bio.invariant.number, c.loop-bio.invariant.capacity, c.requires.fates)

pub loop-bio-preserved : goal.loop-bio-preserved
loop-bio-preserved c =
    let q = request-at c.args.self.now c.args.pool.now c.requires.group.0 c.args.ios.now c.args.req.now c.loop-bio.bio-index c.index-ios-bio.result c.requires.group.1 (omega arith) c.index-ios-bio.is in
    let b = get_or c.args.req.now c.loop-bio.bio-index no_bio in
    let m = size-more c.args.req.now c.loop-bio.bio-index no_bio (omega arith) in
    let l = ap length c.gather_bio-at.ensures.fates in
    let a = length-append c.loop-bio.fates.items (map unsent (sends_first c.args.self.now c.index-ios-bio.result b (flat c.args.pool.now) b.count)) in
    let n = length-map (sends_first c.args.self.now c.index-ios-bio.result b (flat c.args.pool.now) b.count) unsent in
    let o = first-long c.args.self.now c.index-ios-bio.result b (flat c.args.pool.now) b.count in
    record {
      gathered = gathered-more c.args.self.now c.args.ios.now (flat c.args.pool.now) c.args.req.now c.loop-bio.bio-index c.loop-bio.at c.gather_bio-at.result c.index-ios-bio.result b c.loop-bio.frames c.gather_bio-at.new.frames c.loop-bio.fates.items c.gather_bio-at.new.fates.items
          (omega arith) refl q c.loop-bio.invariant.gathered c.gather_bio-at.ensures.frames c.gather_bio-at.ensures.end c.gather_bio-at.ensures.fates;
      number = omega (arith, m, l, a, n, o, c.loop-bio.invariant.number);
      capacity = c.gather_bio-at.ensures.capacity ∙ c.loop-bio.invariant.capacity;
      place = (let s : block_size c.index-ios-bio.result ≡ c.requires.group.0 = size-at c.args.self.now c.args.pool.now c.requires.group.0 c.args.ios.now c.args.req.now c.loop-bio.bio-index c.index-ios-bio.result c.requires.group.1 (omega arith) c.index-ios-bio.is in
          let w = wire-most c.args.self.now c.index-ios-bio.result b in
          let y = group-bytes c.args.self.now c.args.pool.now c.requires.group.0 c.args.ios.now c.args.req.now c.requires.group.1 in
          let t = times-most b.count (wire_size (route_by c.args.self.now c.index-ios-bio.result b 0)) (block_len c.args.ios.now c.args.req.now + 8) (omega (arith, w, s, y)) in
          let z : (size (take c.loop-bio.bio-index c.args.req.now) + b.count) * (block_len c.args.ios.now c.args.req.now + 8) ≡ size (take (c.loop-bio.bio-index + 1) c.args.req.now) * (block_len c.args.ios.now c.args.req.now + 8) =
          ap (λ n. n * (block_len c.args.ios.now c.args.req.now + 8)) (let v : size (take c.loop-bio.bio-index c.args.req.now) + b.count ≡ size (take (c.loop-bio.bio-index + 1) c.args.req.now) = omega (arith, m) in v) in
          omega (arith, z, t, c.gather_bio-at.ensures.end, c.loop-bio.invariant.place));
      long = c.gather_bio-at.ensures.long ∙ c.loop-bio.invariant.long;
    }

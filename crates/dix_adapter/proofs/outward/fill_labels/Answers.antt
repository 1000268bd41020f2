use Rattle.std.proofs.Common.{◌+◌, ◌++◌, length, map, get_or, take, ap, sym, ◌∙◌, arith, length-append}
use Rattle.std.proofs.lemmas.List.{map-append, length-map}
use Rattle.bio_core.specs.Bios.{blocks_of}
use Rattle.dix_adapter.specs.Groups.{blocks_in, label_of, no_bio}
use Rattle.dix_adapter.proofs.Blocks.{bios-more, length-blocks, size-front, size-more}
use Rattle.dix_adapter.proofs.outward.fill_labels.Goals as goal

pub add_labels-requires-clause-room : goal.add_labels-requires-clause-room
add_labels-requires-clause-room c =
    let m = size-more c.args.req.now c.loop-bio.bio-index no_bio (omega arith) in
    let f = size-front c.args.req.now (c.loop-bio.bio-index + 1) in
    omega (arith, m, f, c.loop-bio.invariant.number, c.loop-bio.invariant.capacity, c.clear.ensures.capacity, c.requires.room)

pub loop-bio-preserved : goal.loop-bio-preserved
loop-bio-preserved c =
    let b = get_or c.args.req.now c.loop-bio.bio-index no_bio in
    let m = size-more c.args.req.now c.loop-bio.bio-index no_bio (omega arith) in
    let l = ap length c.add_labels.ensures.labels in
    let a = length-append c.loop-bio.labels.items (map label_of (blocks_of b)) in
    let n = length-map (blocks_of b) label_of in
    let k = length-blocks b.op b.k b.dev b.lba b.dir b.count in
    record {
      items = c.add_labels.ensures.labels ∙ ap (λ z. z ++ map label_of (blocks_of b)) c.loop-bio.invariant.items
          ∙ sym (map-append label_of (blocks_in (take c.loop-bio.bio-index c.args.req.now)) (blocks_of b))
          ∙ ap (map label_of) (sym (bios-more c.args.req.now c.loop-bio.bio-index no_bio (omega arith)));
      number = omega (arith, m, l, a, n, k, c.loop-bio.invariant.number);
      capacity = c.add_labels.ensures.capacity ∙ c.loop-bio.invariant.capacity;
    }

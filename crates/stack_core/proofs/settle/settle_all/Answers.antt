use Rattle.std.proofs.Common.{◌<◌, ◌-◌, ◌∙◌, get_or, length, arith}
use Rattle.std.proofs.lemmas.List.{at_drop_more}
use Rattle.std.proofs.lemmas.List.Elements.{All-get_or}
use Rattle.merge_queue.specs.Chains.{no_bio}
use Rattle.merge_queue.specs.Groups.{size}
use Rattle.stack_walk_laws.specs.Settling.{IsOf}
use Rattle.stack_walk_laws.proofs.InTurn.{bio-more, size-more}
use Rattle.stack_walk_laws.proofs.Wholes.{fates_stay, whole-of, whole_stays}
use Rattle.stack_core.proofs.settle.settle_all.Goals as goal

pub settle_bio-requires-clause-whole : goal.settle_bio-requires-clause-whole
settle_bio-requires-clause-whole c =
    whole_stays c.args.pool.now c.loop-bio.pool c.index-ios-bio.result c.loop-bio.invariant.pages
    (whole-of c.args.pool.now c.args.ios.now c.args.bios.now c.loop-bio.bio-index _ c.index-ios-bio.result c.requires.whole c.requires.bios c.loop-bio-test.true c.index-ios-bio.is)

pub loop-bio-preserved : goal.loop-bio-preserved
loop-bio-preserved c =
    let ios = c.args.ios.now in
    let bios = c.args.bios.now in
    let i = c.loop-bio.bio-index in
    let v = c.loop-bio.invariant in
    let o = All-get_or (IsOf ios) bios i no_bio c.loop-bio-test.true c.requires.bios in
    let n = o.numbered in
    let t = o.there in
    let l : (get_or bios i no_bio).op - 1 < length ios = omega arith in
    record {
      pages = c.settle_bio.ensures.pages ∙ v.pages;
      kept = fates_stay ios c.loop-bio.kept.starts.items c.settle_bio.new.kept.starts.items c.loop-bio.kept.held.items c.settle_bio.new.kept.held.items c.settle_bio.ensures.places.starts c.settle_bio.ensures.places.held v.kept;
      starts = c.settle_bio.ensures.places.starts ∙ v.starts;
      at = omega (arith, size-more bios i no_bio c.loop-bio-test.true);
      rest = omega (arith, at_drop_more size bios i no_bio c.loop-bio-test.true);
      settled = bio-more c.args.how.mode c.args.how.ty ios c.args.kept.now.starts.items c.loop-bio.kept.starts.items bios c.args.fates.now c.loop-bio.at i no_bio c.index-ios-bio.result _ _ _ v.starts c.loop-bio-test.true l c.index-ios-bio.is v.at v.settled c.settle_bio.ensures.settled;
    }

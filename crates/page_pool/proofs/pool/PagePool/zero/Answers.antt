use Rattle.std.proofs.Common.{◌≡◌, ◌-◌, ◌∙◌, ap, subst, sym, length, replicate, arith, rules}
use Rattle.std.proofs.lemmas.List.{length-replicate}
use Rattle.page_pool.specs.Places.{places_in, NoneTwice}
use Rattle.page_pool.specs.Pages.{Wrote}
use Rattle.page_pool.specs.Walking.{AllStandIn}
use Rattle.page_pool.proofs.Placing.{in_pages, segments_stand, length-places_in}
use Rattle.page_pool.proofs.Paging.{wrote-with_part}
use Rattle.page_pool.proofs.Walks.{passed, no_places}
use Rattle.page_pool.proofs.Spreads.{spreads, spreads-lies, spreads_more, spreads_all, range_stands, range-ahead, room-ahead, zeros_of, zeros_split}
use Rattle.page_pool.proofs.pool.PagePool.zero.Goals as goal

pub walk-walk-requires : goal.walk-walk-requires
walk-walk-requires c = in_pages (length c.args.self.now) (places_in c.args.sg.now) (segments_stand c.args.self.now c.args.sg.now c.requires.lie)

pub loop-s-init : goal.loop-s-init
loop-s-init c =
    spreads c.args.self.now (places_in c.walk-walk.result) c.args.len (zeros_of c.args.len) (length-replicate c.args.len 0)
    (subst (λ l. AllStandIn (length c.args.self.now) l) (sym (range-ahead c.args.sg.now c.walk-walk.result c.args.at c.args.len c.walk-walk.ensures.ahead)) (range_stands c.args.self.now c.args.sg.now c.args.at c.args.len c.requires.lie))

pub part_mut-requires : goal.part_mut-requires
part_mut-requires c =
    spreads-lies c.args.self.now c.loop-s.self (places_in c.walk-walk.result) (places_in c.loop-s.walk) (places_in c.next_part.new.self) c.args.len c.loop-s.left (zeros_of c.loop-s.left) (zeros_of c.args.len) c.in-Some.s
    c.loop-s.invariant (passed c.loop-s.left c.loop-s.walk c.next_part.new.self c.in-Some.s c.in-Some.ensures)

pub loop-s-preserved : goal.loop-s-preserved
loop-s-preserved c =
    let part = passed c.loop-s.left c.loop-s.walk c.next_part.new.self c.in-Some.s c.in-Some.ensures in
    let lies =
    spreads-lies c.args.self.now c.loop-s.self (places_in c.walk-walk.result) (places_in c.loop-s.walk) (places_in c.next_part.new.self) c.args.len c.loop-s.left (zeros_of c.loop-s.left) (zeros_of c.args.len) c.in-Some.s c.loop-s.invariant part in
    let filled : c.fill.new.self ≡ replicate (length c.part_mut.result.now) 0 = search rules in
    let zeros : c.fill.new.self ≡ zeros_of c.in-Some.s.len = filled ∙ ap zeros_of c.part_mut.ensures.len in
    let long = length-replicate c.in-Some.s.len 0 in
    let once = subst (λ l. NoneTwice l) (sym (range-ahead c.args.sg.now c.walk-walk.result c.args.at c.args.len c.walk-walk.ensures.ahead)) c.requires.once in
    rw zeros (spreads_more c.args.self.now c.loop-s.self _ (places_in c.walk-walk.result) (places_in c.loop-s.walk) (places_in c.next_part.new.self) c.args.len c.loop-s.left (zeros_of c.loop-s.left) (zeros_of c.args.len)
    (zeros_of c.in-Some.s.len) (zeros_of (c.loop-s.left - c.in-Some.s.len)) c.in-Some.s once c.loop-s.invariant part
    (zeros_split c.loop-s.left c.in-Some.s.len c.in-Some.ensures.within) long (wrote-with_part c.loop-s.self c.in-Some.s (zeros_of c.in-Some.s.len) lies c.part_mut.ensures.whole long))

pub returns : goal.returns
returns c =
    let none = no_places c.loop-s.left c.loop-s.walk c.in_default.ensures.0 in
    let long = length-places_in c.walk-walk.result in
    let room = room-ahead c.args.sg.now c.walk-walk.result c.args.at c.args.len c.walk-walk.ensures.ahead c.requires.range in
    let all = spreads_all c.args.self.now c.loop-s.self (places_in c.walk-walk.result) (places_in c.loop-s.walk) c.args.len c.loop-s.left (zeros_of c.loop-s.left) (zeros_of c.args.len) c.loop-s.invariant none (omega arith) in
    subst (λ l. Wrote c.args.self.now c.loop-s.self l (zeros_of c.args.len)) (range-ahead c.args.sg.now c.walk-walk.result c.args.at c.args.len c.walk-walk.ensures.ahead) all.0

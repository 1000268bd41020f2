use Rattle.std.proofs.Common.{◌≡◌, ◌+◌, ◌-◌, ◌++◌, ◌∙◌, length, drop, refl, sym, ap, subst, arith}
use Rattle.std.proofs.lemmas.List.{take-append-drop}
use Rattle.page_pool.specs.Cuts.{past}
use Rattle.page_pool.specs.Places.{places_in}
use Rattle.page_pool.proofs.Placing.{length-places_in}
use Rattle.page_pool.proofs.Walks.{Gone, passed, no_places, gone_none, gone_more}
use Rattle.page_pool.proofs.Spreads.{Spreads, spreads, spreads-lies, spreads_more, spreads_all}
use Rattle.page_pool.proofs.pool.PagePool.write_ahead.Goals as goal

pub loop-s-init : goal.loop-s-init
loop-s-init c = record {
  spreads = spreads c.args.self.now (places_in c.args.walk.now) (length c.args.bytes.now) c.args.bytes.now refl c.requires.stand;
  gone = subst (λ n. Gone c.args.walk.now c.args.walk.now n) (let e : 0 ≡ length c.args.bytes.now - length c.args.bytes.now = omega arith in e) (gone_none c.args.walk.now);
}

pub write_part-requires-clause-lies : goal.write_part-requires-clause-lies
write_part-requires-clause-lies c =
    spreads-lies c.args.self.now c.loop-s.self (places_in c.args.walk.now) (places_in c.loop-s.walk) (places_in c.next_part.new.self) (length c.args.bytes.now) (length c.loop-s.rest.now) c.loop-s.rest.now c.args.bytes.now c.in-Some.s
    c.loop-s.invariant.spreads (passed (length c.loop-s.rest.now) c.loop-s.walk c.next_part.new.self c.in-Some.s c.in-Some.ensures)

pub loop-s-preserved : goal.loop-s-preserved
loop-s-preserved c =
    let front = c.split_at.ensures.front in
    let back = c.split_at.ensures.back in
    let cut = sym (take-append-drop c.in-Some.s.len c.loop-s.rest.now) ∙ (ap (λ l. l ++ drop c.in-Some.s.len c.loop-s.rest.now) (sym front) ∙ ap (λ l. c.split_at.result.0.now ++ l) (sym back)) in
    let part = passed (length c.loop-s.rest.now) c.loop-s.walk c.next_part.new.self c.in-Some.s c.in-Some.ensures in
    let more = spreads_more c.args.self.now c.loop-s.self c.write_part.new.self (places_in c.args.walk.now) (places_in c.loop-s.walk) (places_in c.next_part.new.self) (length c.args.bytes.now) (length c.loop-s.rest.now) c.loop-s.rest.now c.args.bytes.now
    c.split_at.result.0.now c.split_at.result.1.now c.in-Some.s c.requires.once c.loop-s.invariant.spreads part cut c.split_at.ensures.front_len c.write_part.ensures in
    let long = more.long in
    let count = c.loop-s.invariant.spreads.walked.count in
    let within = c.in-Some.ensures.within in
    let done : length c.args.bytes.now - length c.loop-s.rest.now + c.in-Some.s.len ≡ length c.args.bytes.now - length c.split_at.result.1.now = omega arith in
    record {
      spreads = subst (λ n. Spreads c.args.self.now c.write_part.new.self (places_in c.args.walk.now) (places_in c.next_part.new.self) (length c.args.bytes.now) n c.split_at.result.1.now c.args.bytes.now) (sym more.long) more;
      gone = subst (λ n. Gone c.args.walk.now c.next_part.new.self n) done
          (gone_more c.args.walk.now c.loop-s.walk c.next_part.new.self (length c.args.bytes.now - length c.loop-s.rest.now) c.in-Some.s (length c.loop-s.rest.now) c.loop-s.invariant.gone c.in-Some.ensures);
    }

pub returns : goal.returns
returns c =
    let none = no_places (length c.loop-s.rest.now) c.loop-s.walk c.in_default.ensures.0 in
    let long = length-places_in c.args.walk.now in
    let all = spreads_all c.args.self.now c.loop-s.self (places_in c.args.walk.now) (places_in c.loop-s.walk) (length c.args.bytes.now) (length c.loop-s.rest.now) c.loop-s.rest.now c.args.bytes.now c.loop-s.invariant.spreads none (omega (arith, c.requires.room)) in
    let left = all.2 in
    record {
      wrote = all.0;
      ahead = c.in_default.ensures.1 ∙ (c.loop-s.invariant.gone.same ∙ ap (λ n. past n c.args.walk.now) (let e : length c.args.bytes.now - length c.loop-s.rest.now ≡ length c.args.bytes.now = omega arith in e));
    }

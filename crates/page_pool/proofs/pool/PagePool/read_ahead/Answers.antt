use Rattle.std.proofs.Common.{◌≡◌, ◌∙◌, ◌+◌, ◌-◌, ◌≤◌, length, take, refl, sym, ap, arith}
use Rattle.std.proofs.lemmas.List.{length-take, length-drop, length-map, take_all}
use Rattle.page_pool.specs.Cuts.{past}
use Rattle.page_pool.specs.Pages.{byte_at, bytes_at}
use Rattle.page_pool.specs.Places.{places_of, places_in}
use Rattle.page_pool.proofs.Placing.{length-run, length-places_in}
use Rattle.page_pool.proofs.Walks.{passed, no_places, gone_none, gone_more, took-lies, copies_none, copies_more, copies_all, copied, length-copied}
use Rattle.page_pool.proofs.pool.PagePool.read_ahead.Goals as goal

pub loop-s-init : goal.loop-s-init
loop-s-init c = record { copies = copies_none c.args.self.now (places_in c.args.walk.now) (length c.args.into.now) c.requires.stand; gone = gone_none c.args.walk.now; same = refl }

pub part-requires : goal.part-requires
part-requires c =
    let part = passed (length c.loop-s.into - c.loop-s.done) c.loop-s.walk c.next_part.new.self c.in-Some.s c.in-Some.ensures in
    took-lies c.args.self.now (length c.loop-s.into - c.loop-s.done) (places_in c.loop-s.walk) (places_in c.next_part.new.self) c.in-Some.s part c.loop-s.invariant.copies.walked.stand

pub copy_from_slice-requires : goal.copy_from_slice-requires
copy_from_slice-requires c =
    let long = ap length c.part.ensures.bytes ∙ (length-map (places_of c.in-Some.s) (byte_at c.args.self.now) ∙ length-run c.in-Some.s.page c.in-Some.s.off c.in-Some.s.len) in
    let most = c.in-Some.ensures.within in
    let room = c.loop-s.invariant.copies.most in
    simp (length-take, length-drop) (omega arith)

pub loop-s-preserved : goal.loop-s-preserved
loop-s-preserved c =
    let long : length c.part.result.now ≡ c.in-Some.s.len = ap length c.part.ensures.bytes ∙ (length-map (places_of c.in-Some.s) (byte_at c.args.self.now) ∙ length-run c.in-Some.s.page c.in-Some.s.off c.in-Some.s.len) in
    let part = passed (length c.loop-s.into - c.loop-s.done) c.loop-s.walk c.next_part.new.self c.in-Some.s c.in-Some.ensures in
    let most = c.in-Some.ensures.within in
    let room = c.loop-s.invariant.copies.most in
    let fits : c.loop-s.done + c.in-Some.s.len ≤ length c.loop-s.into = omega arith in
    let size = length-copied c.loop-s.done c.in-Some.s.len c.loop-s.into c.part.result.now long fits in
    rw (c.copy_from_slice.ensures.after, size) (record {
      copies = copies_more c.args.self.now (places_in c.args.walk.now) (places_in c.loop-s.walk) (places_in c.next_part.new.self) (length c.loop-s.into) c.loop-s.done (take c.loop-s.done c.loop-s.into) c.part.result.now _ c.in-Some.s
          c.loop-s.invariant.copies part c.part.ensures.bytes (copied c.loop-s.done c.in-Some.s.len c.loop-s.into c.part.result.now (take c.loop-s.done c.loop-s.into) refl long fits);
      gone = gone_more c.args.walk.now c.loop-s.walk c.next_part.new.self c.loop-s.done c.in-Some.s (length c.loop-s.into - c.loop-s.done) c.loop-s.invariant.gone c.in-Some.ensures;
      same = c.loop-s.invariant.same;
    })

pub returns : goal.returns
returns c =
    let same = c.loop-s.invariant.same in
    let room = length-places_in c.args.walk.now in
    let none = no_places (length c.loop-s.into - c.loop-s.done) c.loop-s.walk c.in_default.ensures.0 in
    let all = copies_all c.args.self.now (places_in c.args.walk.now) (places_in c.loop-s.walk) (length c.loop-s.into) c.loop-s.done (take c.loop-s.done c.loop-s.into) c.loop-s.invariant.copies none (omega (arith, c.requires.room)) in
    let done = all.2 in
    record {
      bytes = sym (take_all c.loop-s.done c.loop-s.into (omega arith)) ∙ (all.0 ∙ ap (λ n. bytes_at c.args.self.now (take n (places_in c.args.walk.now))) same);
      ahead = c.in_default.ensures.1 ∙ (c.loop-s.invariant.gone.same ∙ ap (λ n. past n c.args.walk.now) (done ∙ same));
    }

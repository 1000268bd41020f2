use Rattle.std.proofs.Common.{◌≡◌, ◌+◌, ◌-◌, ◌∙◌, length, sym, ap, subst, arith}
use Rattle.pi_guard.specs.declared.GuardKind.{GuardKind}
use Rattle.pi_guard.specs.Guards.{guard_of}
use Rattle.page_pool.specs.Cuts.{past}
use Rattle.page_pool.specs.Places.{places_in}
use Rattle.page_pool.specs.Pages.{bytes_at}
use Rattle.page_pool.proofs.Placing.{length-places_in}
use Rattle.page_pool.proofs.Walks.{Gone, gone_none, gone_more, passed, no_places, took-lies, walked_all}
use Rattle.integrity_payload.proofs.Fills.{hashes_none, hashes_more}
use Rattle.integrity_payload.proofs.blocks.next_guard.Goals as goal

pub loop-part-init : goal.loop-part-init
loop-part-init c = record {
  hashes = hashes_none c.args.pool.now c.args.kind (places_in c.args.walk.now) c.args.size _ c.requires.stand c.new-run.ensures.none c.new-run.ensures.kind;
  gone = subst (λ n. Gone c.args.walk.now c.args.walk.now n) (let e : 0 ≡ c.args.size - c.args.size = omega arith in e) (gone_none c.args.walk.now);
}

pub part-requires : goal.part-requires
part-requires c =
    took-lies c.args.pool.now c.loop-part.left (places_in c.loop-part.walk) (places_in c.next_part.new.self) c.in-Some.part (passed c.loop-part.left c.loop-part.walk c.next_part.new.self c.in-Some.part c.in-Some.ensures) c.loop-part.invariant.hashes.walked.stand

pub loop-part-preserved : goal.loop-part-preserved
loop-part-preserved c =
    let count = c.loop-part.invariant.hashes.walked.count in
    let within = c.in-Some.ensures.within in
    let done : c.args.size - c.loop-part.left + c.in-Some.part.len ≡ c.args.size - (c.loop-part.left - c.in-Some.part.len) = omega arith in
    record {
      hashes = hashes_more c.args.pool.now c.args.kind (places_in c.args.walk.now) (places_in c.loop-part.walk) (places_in c.next_part.new.self) c.args.size c.loop-part.left c.loop-part.run c.update.new.self c.part.result.now c.in-Some.part
          c.loop-part.invariant.hashes (passed c.loop-part.left c.loop-part.walk c.next_part.new.self c.in-Some.part c.in-Some.ensures) c.part.ensures.bytes c.update.ensures.more c.update.ensures.kind;
      gone = subst (λ n. Gone c.args.walk.now c.next_part.new.self n) done
          (gone_more c.args.walk.now c.loop-part.walk c.next_part.new.self (c.args.size - c.loop-part.left) c.in-Some.part c.loop-part.left c.loop-part.invariant.gone c.in-Some.ensures);
    }

pub returns : goal.returns
returns c =
    let hashes = c.loop-part.invariant.hashes in
    let long = length-places_in c.args.walk.now in
    let none = no_places c.loop-part.left c.loop-part.walk c.in_default.ensures.0 in
    let all = walked_all (places_in c.args.walk.now) hashes.behind (places_in c.loop-part.walk) c.args.size c.loop-part.left (length c.args.pool.now) hashes.walked none (omega (arith, c.requires.room)) in
    let left = all.done in
    record {
      guard = c.finish.ensures (bytes_at c.args.pool.now hashes.behind) hashes.stands
          ∙ (ap (λ (g : GuardKind). guard_of g (bytes_at c.args.pool.now hashes.behind)) hashes.same ∙ ap (λ l. guard_of c.args.kind (bytes_at c.args.pool.now l)) (sym all.behind_is));
      ahead = c.in_default.ensures.1 ∙ (c.loop-part.invariant.gone.same ∙ ap (λ n. past n c.args.walk.now) (let e : c.args.size - c.loop-part.left ≡ c.args.size = omega arith in e));
    }

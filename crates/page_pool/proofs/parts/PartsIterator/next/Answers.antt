use Rattle.std.specs.Iterator.{YieldsFirstRef}
use Rattle.std.proofs.Common.{◌≡◌, [], ◌∷◌, ◌∙◌, ◌-◌, sym, ap, subst, map, length, arith}
use Rattle.page_pool.specs.Pages.{AllLieIn, part}
use Rattle.page_pool.specs.Cuts.{past, upto}
use Rattle.page_pool.specs.Joining.{parts_left}
use Rattle.page_pool.proofs.Cutting.{upto-past_0}
use Rattle.page_pool.proofs.parts.PartsIterator.next.Goals as goal

pub part-requires : goal.part-requires
part-requires c = (subst (λ l. AllLieIn c.args.self.now.pool.now l) c.in_ok-s.ensures.first c.requires).0

pub returns-clause-steps : goal.returns-clause-steps
returns-clause-steps c =
    ap (map (part c.args.self.now.pool.now)) c.in_ok-s.ensures.first ∙ ap (λ l. l ∷ map (part c.args.self.now.pool.now) (upto (c.args.self.now.left - c.in_ok-s.s.len) c.next_part.new.self)) (sym c.part.ensures.value)

pub returns-clause-goes : goal.returns-clause-goes
returns-clause-goes c =
    let ready = (subst (λ l. AllLieIn c.args.self.now.pool.now l) c.in_ok-s.ensures.first c.requires).1 in
    let fewer = ap (λ l. length (map (part c.args.self.now.pool.now) l)) c.in_ok-s.ensures.first in
    record {
      on = λ _. (ready, tt, omega arith);
      keeps = ready;
      rests = λ _. tt;
    }

pub returns-in_err-s-clause-steps : goal.returns-in_err-s-clause-steps
returns-in_err-s-clause-steps c =
    let none : (upto c.args.self.now.left c.args.self.now.walk ≡ []) × (c.next_part.new.self ≡ past 0 c.args.self.now.walk) = c.in_err-s.ensures in
    let parts = map (part c.args.self.now.pool.now) in
    subst (λ r. YieldsFirstRef parts_left c.args.self.now r (record { pool = c.args.self.now.pool; walk = c.next_part.new.self; left = c.args.self.now.left })) (sym c.from_residual.ensures)
    (ap parts none.0, ap (λ w. parts (upto c.args.self.now.left w)) none.1 ∙ ap parts (upto-past_0 c.args.self.now.left c.args.self.now.walk ∙ none.0))

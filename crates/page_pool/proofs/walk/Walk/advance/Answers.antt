use Rattle.std.proofs.Common.{◌≡◌, ◌+◌, ◌-◌, ◌∙◌, sym, ap, subst, arith}
use Rattle.page_pool.specs.Cuts.{past}
use Rattle.page_pool.proofs.Cutting.{past-none, past-past}
use Rattle.page_pool.proofs.Walks.{Gone, gone_more, gone_none}
use Rattle.page_pool.proofs.walk.Walk.advance.Goals as goal

pub loop-s-init : goal.loop-s-init
loop-s-init c = record {
  most = omega arith;
  gone = subst (λ n. Gone c.args.self.now c.args.self.now n) (let e : 0 ≡ c.args.count - c.args.count = omega arith in e) (gone_none c.args.self.now);
}

pub loop-s-preserved : goal.loop-s-preserved
loop-s-preserved c =
    let most = c.loop-s.invariant.most in
    let within = c.in-Some.ensures.within in
    let done : c.args.count - c.loop-s.left + c.in-Some.s.len ≡ c.args.count - (c.loop-s.left - c.in-Some.s.len) = omega arith in
    record {
      most = omega arith;
      gone = subst (λ n. Gone c.args.self.now c.next_part.new.self n) done (gone_more c.args.self.now c.loop-s.self c.next_part.new.self (c.args.count - c.loop-s.left) c.in-Some.s c.loop-s.left c.loop-s.invariant.gone c.in-Some.ensures);
    }

pub returns : goal.returns
returns c =
    let most = c.loop-s.invariant.most in
    let all : c.args.count - c.loop-s.left + c.loop-s.left ≡ c.args.count = omega arith in
    c.in_default.ensures.1 ∙ (sym (past-none c.loop-s.left c.loop-s.self c.in_default.ensures.0) ∙ (ap (λ n. past n c.loop-s.self) (let e : c.loop-s.left ≡ 0 + c.loop-s.left = omega arith in e)
    ∙ (sym (past-past c.loop-s.left 0 c.loop-s.self) ∙ (ap (past c.loop-s.left) c.loop-s.invariant.gone.same ∙ (past-past c.loop-s.left (c.args.count - c.loop-s.left) c.args.self.now ∙ ap (λ n. past n c.args.self.now) all)))))

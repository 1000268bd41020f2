use Rattle.std.proofs.Common.{ℕ, ◌<◌, List, length, refl, rules, subst, sym, ◌∙◌, arith}
use Rattle.std.proofs.lemmas.List.{take_all}
use Rattle.script_laws.specs.Keeping.{Each}
use Rattle.mirror_volume.specs.Inner.{read_pi_script}
use Rattle.mirror_volume.specs.Asked.{AreOf, IsInside}
use Rattle.mirror_volume.specs.Helds.{IsAfter}
use Rattle.mirror_volume.proofs.Helds.{looks-more}
use Rattle.mirror_volume.proofs.Running.{none-run, run-both, run-so}
use Rattle.mirror_volume.proofs.Stretched.{all-inside, each-at}
use Rattle.mirror_volume.proofs.repair.look_at_parts.Goals as goal

pub returns-in_err-parts-clause-ran : goal.returns-in_err-parts-clause-ran
returns-in_err-parts-clause-ran g c = none-run _ (search rules)

pub loop-i-init : goal.loop-i-init
loop-i-init g c = record {
  ran = none-run _ (tt, record { found = refl; bytes = refl; tuples = refl });
  ready = c.requires.ready;
  seen = c.requires.seen;
}

pub look_at_part-requires-clause-part : goal.look_at_part-requires-clause-part
look_at_part-requires-clause-part g c =
    let n = c.args.whole.n in
    let parts = c.in_ok-parts.parts.items in
    let part = c.index.result.now in
    let l : c.loop-i.i < length parts = omega arith in
    let all = subst (λ (ss : List (ℕ × ℕ)). Each (IsInside n) ss) (sym c.in_ok-parts.ensures) (all-inside n c.args.wanted.now c.requires.wanted) in
    subst (IsInside n) (sym c.index.ensures) (each-at (IsInside n) parts c.loop-i.i part l all)

pub returns-in_err-look_at_part-clause-ran : goal.returns-in_err-look_at_part-clause-ran
returns-in_err-look_at_part-clause-ran g c =
    run-both _ c.loop-i.invariant.ran c.in_err-look_at_part.ensures.ran (search rules)

pub loop-i-preserved : goal.loop-i-preserved
loop-i-preserved g c =
    let p = c.args.plan.now in
    let x = c.loop-i.invariant.ran in
    let y = c.in_ok-look_at_part.ensures.ran in
    let parts = c.in_ok-parts.parts.items in
    let part = c.index.result.now in
    let l : c.loop-i.i < length parts = omega arith in
    let a = x.came in
    let b = y.came in
    record {
      ran = run-both _ x y (looks-more (read_pi_script p.script p.half) c.args.whole p.script.block parts c.loop-i.i part x.runs y.runs c.args.seen.now c.loop-i.seen _ l c.index.ensures a.0 a.1 b.0 b.1);
      ready = c.look_at_part.ensures.ready;
      seen = c.look_at_part.ensures.seen;
    }

pub returns-clause-ran : goal.returns-clause-ran
returns-clause-ran g c =
    let p = c.args.plan.now in
    let x = c.loop-i.invariant.ran in
    let parts = c.in_ok-parts.parts.items in
    let all = take_all c.loop-i.i parts (omega arith) ∙ c.in_ok-parts.ensures in
    run-so _ x (λ s h. h) (subst (λ (ss : List (ℕ × ℕ)). AreOf (read_pi_script p.script p.half) c.args.whole ss x.runs × IsAfter p.script.block ss x.runs c.args.seen.now c.loop-i.seen) all x.came)

use Rattle.std.proofs.Common.{ℕ, ◌≡◌, ◌<◌, ◌≤◌, ◌++◌, List, [], ◌∷◌, ap, length, refl, rules, subst, sym, take, ◌∙◌, arith}
use Rattle.std.proofs.lemmas.List.{take_all, take_more}
use Rattle.script_laws.specs.Keeping.{Each}
use Rattle.mirror_volume.specs.Inner.{read_script}
use Rattle.mirror_volume.specs.Asked.{AreOf, IsInside, bytes_after, found_after, stretches}
use Rattle.mirror_volume.proofs.Stretched.{all-inside, are-of-append, bytes-after-append, each-at, found-after-append}
use Rattle.mirror_volume.proofs.Running.{none-run, run-both, run-so}
use Rattle.mirror_volume.proofs.reading.ask.Goals as goal

pub returns-in_err-parts-clause-ran : goal.returns-in_err-parts-clause-ran
returns-in_err-parts-clause-ran g c = none-run _ (search rules)

pub loop-i-init : goal.loop-i-init
loop-i-init g c = record {
  ran = none-run _ (tt, (refl, refl));
  ready = c.requires.ready;
  found = refl;
  bytes = refl;
}

pub ask_stretch-requires-clause-stretch : goal.ask_stretch-requires-clause-stretch
ask_stretch-requires-clause-stretch g c =
    let n = c.args.whole.n in
    let parts = c.in_ok-parts.parts.items in
    let l : c.loop-i.i < length parts = let e = c.len-i-end.ensures in let t = c.loop-i-test.true in let o = c.in_ok-parts.parts.ok.0 in omega (arith, e, t, o) in
    let all : Each (IsInside n) parts = subst (λ (ss : List (ℕ × ℕ)). Each (IsInside n) ss) (sym c.in_ok-parts.ensures) (all-inside n c.args.wanted.now c.requires.wanted) in
    subst (IsInside n) (sym c.index.ensures) (each-at (IsInside n) parts c.loop-i.i c.index.result.now l all)

pub returns-in_err-ask_stretch-clause-ran : goal.returns-in_err-ask_stretch-clause-ran
returns-in_err-ask_stretch-clause-ran g c =
    run-both _ c.loop-i.invariant.ran c.in_err-ask_stretch.ensures.ran (search rules)

pub returns-clause-ran : goal.returns-clause-ran
returns-clause-ran g c =
    let p = c.args.plan.now in
    let came = c.args.came.now in
    let now = c.loop-i.came in
    let parts = c.in_ok-parts.parts.items in
    let x = c.loop-i.invariant.ran in
    let done : length parts ≤ c.loop-i.i = let e = c.len-i-end.ensures in let t = c.loop-i-test.false in let o = c.in_ok-parts.parts.ok.0 in omega (arith, e, t, o) in
    let all : take c.loop-i.i parts ≡ stretches c.args.wanted.now = take_all c.loop-i.i parts done ∙ c.in_ok-parts.ensures in
    let asked = subst (λ (ss : List (ℕ × ℕ)). AreOf (read_script p.script p.half) c.args.whole ss x.runs
    × ((now.found.items ≡ found_after ss x.runs came.found.items) × (now.bytes.items ≡ bytes_after p.script.block ss x.runs came.bytes.items))) all x.came in
    run-so _ x (λ s h. h) asked

pub loop-i-preserved : goal.loop-i-preserved
loop-i-preserved g c =
    let p = c.args.plan.now in
    let script = read_script p.script p.half in
    let x = c.loop-i.invariant.ran in
    let y = c.in_ok-ask_stretch.ensures.ran in
    let parts = c.in_ok-parts.parts.items in
    let i = c.loop-i.i in
    let part = c.index.result.now in
    let l : i < length parts = let e = c.len-i-end.ensures in let t = c.loop-i-test.true in let o = c.in_ok-parts.parts.ok.0 in omega (arith, e, t, o) in
    let more = take_more parts i part l ∙ ap (λ (s : ℕ × ℕ). take i parts ++ (s ∷ [])) (sym c.index.ensures) in
    let a = x.came in
    let b = y.came in
    record {
      ran = run-both _ x y (
        subst (λ (ss : List (ℕ × ℕ)). AreOf script c.args.whole ss (x.runs ++ y.runs)) (sym more) (are-of-append script c.args.whole (take i parts) (part ∷ []) x.runs y.runs a.0 b.0),
        (
          b.1.0 ∙ ap (λ f. found_after (part ∷ []) y.runs f) a.1.0 ∙ sym (found-after-append script c.args.whole (take i parts) (part ∷ []) x.runs y.runs c.args.came.now.found.items a.0)
              ∙ ap (λ (ss : List (ℕ × ℕ)). found_after ss (x.runs ++ y.runs) c.args.came.now.found.items) (sym more),
          b.1.1 ∙ ap (λ f. bytes_after p.script.block (part ∷ []) y.runs f) a.1.1 ∙ sym (bytes-after-append script c.args.whole p.script.block (take i parts) (part ∷ []) x.runs y.runs c.args.came.now.bytes.items a.0)
              ∙ ap (λ (ss : List (ℕ × ℕ)). bytes_after p.script.block ss (x.runs ++ y.runs) c.args.came.now.bytes.items) (sym more),
        ),
      );
      ready = c.ask_stretch.ensures.ready;
      found = c.ask_stretch.ensures.found ∙ c.loop-i.invariant.found;
      bytes = c.ask_stretch.ensures.bytes ∙ c.loop-i.invariant.bytes;
    }

use Rattle.std.proofs.Common.{◌+◌, drop, ap, subst, ◌∙◌}
use Rattle.std.proofs.lemmas.List.{drop_all}
use Rattle.volume_table.specs.Places.{volume_len}
use Rattle.run_words.specs.Sites.{AreInside}
use Rattle.run_words.specs.Texts.{all_listed}
use Rattle.run_words.proofs.Lines.{inside_next, next_reply, none_listed}
use Rattle.report_text.proofs.Written.{as_left, begins, breaks, ends, writes}
use Rattle.run_words.proofs.listed.print_all_listed.Goals as goal

pub loop-i-init : goal.loop-i-init
loop-i-init g c = record { text = begins; inside = c.requires.inside }

pub returns-in_err-print_reply : goal.returns-in_err-print_reply
returns-in_err-print_reply g c =
    let now = ap (λ x. all_listed c.args.entries.now (c.loop-i.i + 1) x (drop c.loop-i.i c.args.replies.now)) c.in-Some.ensures.cases.0 in
    let next = next_reply c.args.entries.now (c.loop-i.i + 1) c.loop-i.i c.in-Some.site.now c.in-Some.more.now c.args.replies.now c.index-replies-i.result c.loop-i-test.true c.index-replies-i.is in
    breaks _ c.from_residual.result c.from_residual.ensures.0 (as_left (now ∙ next) c.loop-i.invariant.text) c.in_err-print_reply.ensures

pub loop-i-preserved : goal.loop-i-preserved
loop-i-preserved g c =
    let most = volume_len c.args.entries.now in
    let now = ap (λ x. all_listed c.args.entries.now (c.loop-i.i + 1) x (drop c.loop-i.i c.args.replies.now)) c.in-Some.ensures.cases.0 in
    let next = next_reply c.args.entries.now (c.loop-i.i + 1) c.loop-i.i c.in-Some.site.now c.in-Some.more.now c.args.replies.now c.index-replies-i.result c.loop-i-test.true c.index-replies-i.is in
    record {
      text = writes (as_left (now ∙ next) c.loop-i.invariant.text) c.in_ok-print_reply.ensures;
      inside = inside_next most c.loop-i.i c.in-Some.site.now c.in-Some.more.now c.args.replies.now c.index-replies-i.result c.loop-i-test.true (subst (λ x. AreInside most x (drop c.loop-i.i c.args.replies.now)) c.in-Some.ensures.cases.0 c.loop-i.invariant.inside);
    }

pub returns : goal.returns
returns g c = ends c.loop-i.invariant.text
    (ap (all_listed c.args.entries.now (c.loop-i.i + 1) c.loop-i.rest.now) (drop_all c.loop-i.i c.args.replies.now c.loop-i-test.false) ∙ none_listed c.args.entries.now (c.loop-i.i + 1) c.loop-i.rest.now)

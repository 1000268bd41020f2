use Rattle.std.proofs.Common.{sym, ap, refl, ◌∙◌, arith, ◌+◌}
use Rattle.std.proofs.lemmas.List.Elements.{All-head, All-tail, All-same}
use Rattle.merge_queue.specs.Groups.{put_all}
use Rattle.stack_steps.specs.Parts.{Ends, rests_from}
use Rattle.stack_steps.proofs.Back.{next-run, skip-run, room-for-one}
use Rattle.stack_steps.proofs.rests.put_next.Goals as goal

pub returns-then-n-eq0-clause-went : goal.returns-then-n-eq0-clause-went
returns-then-n-eq0-clause-went g c =
    let e = skip-run (g.P.Requests.plan c.args.plan.now) c.args.bios.now c.args.at c.args.fates.now (sym c.if-n-eq0.true ∙ c.count_untouched-n.ensures.count) c.requires.more in
    record { ends = All-same Ends _ _ (sym e) c.requires.can.ends; groups = ap (λ z. put_all z c.args.queue.now.groups) (sym e); room = refl }

pub put_rest-requires-clause-ends : goal.put_rest-requires-clause-ends
put_rest-requires-clause-ends g c =
    let e = next-run (g.P.Requests.plan c.args.plan.now) c.args.bios.now c.args.at c.count_untouched-n.result c.args.fates.now c.count_untouched-n.ensures.count (omega arith) in
    All-head Ends _ _ (All-same Ends _ _ (sym e) c.requires.can.ends)

pub put_rest-requires-clause-room : goal.put_rest-requires-clause-room
put_rest-requires-clause-room g c =
    let e = next-run (g.P.Requests.plan c.args.plan.now) c.args.bios.now c.args.at c.count_untouched-n.result c.args.fates.now c.count_untouched-n.ensures.count (omega arith) in
    room-for-one _ _ _ _ _ e c.requires.can.room

pub returns-clause-went : goal.returns-clause-went
returns-clause-went g c =
    let e = next-run (g.P.Requests.plan c.args.plan.now) c.args.bios.now c.args.at c.count_untouched-n.result c.args.fates.now c.count_untouched-n.ensures.count (omega arith) in
    record {
      ends = All-tail Ends _ _ (All-same Ends _ _ (sym e) c.requires.can.ends);
      groups = ap (put_all (rests_from (g.P.Requests.plan c.args.plan.now) c.args.bios.now (c.args.at + c.count_untouched-n.result) c.args.fates.now)) c.put_rest.ensures.groups
          ∙ ap (λ z. put_all z c.args.queue.now.groups) (sym e);
      room = c.put_rest.ensures.room;
    }

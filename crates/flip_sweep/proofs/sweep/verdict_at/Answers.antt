use Rattle.std.proofs.Common.{◌≡◌, sym, ap, subst, ◌∙◌}
use Rattle.script_text.specs.declared.script.Script.{Script}
use Rattle.run_command.specs.Working.{IsSound}
use Rattle.rig_api.specs.Image.{formatted}
use Rattle.flip_sweep.specs.Comes.{CameTo, came_to, seen_of}
use Rattle.flip_sweep.specs.Flips.{with_flip}
use Rattle.flip_sweep.specs.Verdicts.{verdict_of}
use Rattle.flip_sweep.proofs.Coming.{few_replies, held}
use Rattle.flip_sweep.proofs.Sounding.{still_sound}
use Rattle.flip_sweep.proofs.sweep.verdict_at.Goals as goal

pub run_over-requires : goal.run_over-requires
run_over-requires c =
    let g = c.requires.base in
    subst IsSound (sym c.in_ok-script.ensures) (still_sound c.args.base.now.script.now c.args.site c.args.off c.args.base.now.byte g.sound g.own c.requires.site c.requires.off g.byte g.byte_fits)

pub verdict_of-requires-clause-layout : goal.verdict_of-requires-clause-layout
verdict_of-requires-clause-layout c = c.requires.base.layout

pub verdict_of-requires-clause-was : goal.verdict_of-requires-clause-was
verdict_of-requires-clause-was c = c.requires.base.long

pub verdict_of-requires-clause-now : goal.verdict_of-requires-clause-now
verdict_of-requires-clause-now c =
    let units = c.args.base.now.units.now in
    let image : c.bytes.result.now ≡ formatted units = held _ _ _ _ c.bytes.ensures c.store.ensures.image c.requires.base.fresh in
    c.in-Ok.ensures.long units c.requires.base.layout image

pub verdict_of-requires-clause-few : goal.verdict_of-requires-clause-few
verdict_of-requires-clause-few c =
    let g = c.requires.base in
    let units = c.args.base.now.units.now in
    let flipped = with_flip c.args.base.now.script.now c.args.site c.args.off c.args.base.now.byte in
    let image : c.bytes.result.now ≡ formatted units = held _ _ _ _ c.bytes.ensures c.store.ensures.image g.fresh in
    let came : seen_of c.in-Ok.came flipped.pages ≡ came_to flipped units = subst (λ (s : Script). seen_of c.in-Ok.came s.pages ≡ came_to s units) c.in_ok-script.ensures (c.in-Ok.ensures.comes units g.layout image) in
    few_replies flipped units (seen_of c.in-Ok.came flipped.pages) g.sound.keeps.ops_count came

pub returns-in-Ok : goal.returns-in-Ok
returns-in-Ok c =
    let g = c.requires.base in
    let units = c.args.base.now.units.now in
    let script = c.args.base.now.script.now in
    let flipped = with_flip script c.args.site c.args.off c.args.base.now.byte in
    let image : c.bytes.result.now ≡ formatted units = held _ _ _ _ c.bytes.ensures c.store.ensures.image g.fresh in
    let came : seen_of c.in-Ok.came flipped.pages ≡ came_to flipped units = subst (λ (s : Script). seen_of c.in-Ok.came s.pages ≡ came_to s units) c.in_ok-script.ensures (c.in-Ok.ensures.comes units g.layout image) in
    c.verdict_of.ensures
    ∙ ap (λ (x : CameTo). verdict_of units x (seen_of c.in-Ok.came script.pages)) g.plain
    ∙ ap (λ (x : CameTo). verdict_of units (came_to script units) x) came

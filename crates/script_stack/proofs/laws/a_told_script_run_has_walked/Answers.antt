use Rattle.std.proofs.Common.{◌*◌, ap, drop, refl, subst, sym, ◌∙◌}
use Rattle.dix_adapter.specs.Ways.{blocks_told, shapes_of}
use Rattle.stack_core.specs.Passed.{script_replies, script_walk}
use Rattle.script_run_laws.specs.Passed.{IsBoundRun, keeps_size, Carried}
use Rattle.script_run_laws.proofs.Units.{over-units}
use Rattle.stack_core.specs.Walking.{EndsTold}
use Rattle.stack_core.proofs.NoMedium.{none_failed}
use Rattle.script_stack.specs.Followed.{begun_of, none_fails, setting_of}
use Rattle.script_stack.proofs.Runs.{has-cells, has-room, hides}
use Rattle.script_stack.proofs.laws.a_told_script_run_has_walked.Goals as goal

pub returns-clause-calm : goal.returns-clause-calm
returns-clause-calm c = λ s t us left first r armed st log suits lines made good stored shapes k same none told ended.
    (let units = shapes_of us in
    let m = setting_of s t units none_fails in
    let blocks = blocks_told us in
    let opening = begun_of s units blocks in
    let bound = c.a_bound_script_is_bound_at_its_target.ensures m s t units us _ opening suits lines made good (over-units m s t units refl refl refl refl refl refl) refl refl stored refl (has-room s t units blocks none_fails) (has-cells s units blocks) in
    let ends = c.a_finished_stack_has_done_the_walk.ensures m (keeps_size blocks) (4096 * s.pages) opening first r left armed st log k told ended (λ i. sym (none i)) (subst (λ ops. IsBoundRun m (keeps_size blocks) (4096 * s.pages) ops opening) (sym same) bound) in
    let here = subst (λ ops. EndsTold m (4096 * s.pages) opening ops r left (drop first log)) same ends in
    let h = hides s units blocks in
    record {
      replies_are = here.replies ∙ ap (script_replies m s.ops) h;
      pages = here.pages ∙ ap (λ o. (script_walk m s.ops o).bytes) h;
      shapes = shapes;
      blocks = here.blocks ∙ ap (λ o. (script_walk m s.ops o).blocks) h;
      carried = subst (λ o. Carried m s.ops o (drop first log)) h here.carried;
    })

pub returns-clause-unnamed : goal.returns-clause-unnamed
returns-clause-unnamed c = λ s t us left first r armed st log suits lines made good stored shapes k same none w ended.
    (let units = shapes_of us in
    let m = setting_of s t units none_fails in
    let told = c.a_finished_stack_that_names_no_medium_has_followed_the_walk.ensures m (4096 * s.pages) (begun_of s units (blocks_told us)) first r left armed st log k w ended none in
    returns-clause-calm c s t us left first r armed st log suits lines made good stored shapes k same (none_failed s.faults r.replies.items none) told ended)

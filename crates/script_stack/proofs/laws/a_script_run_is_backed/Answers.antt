use Rattle.std.proofs.Common.{◌*◌, drop, map, refl, subst, sym, true}
use Rattle.dix_adapter.specs.Passed.{hidden}
use Rattle.script_run_laws.specs.Passed.{IsBoundRun, told, Backed, recorded}
use Rattle.script_run_laws.proofs.Units.{over-units}
use Rattle.script_stack.specs.Followed.{begun_of, failed_in, setting_of, unit_of}
use Rattle.script_stack.proofs.Runs.{has-cells, has-room, hides}
use Rattle.script_stack.proofs.laws.a_script_run_is_backed.Goals as goal

pub returns : goal.returns
returns c = λ s t devices first r st log suits k same walks ended blocks.
    (let units = map unit_of devices in
    let m = setting_of s t units (failed_in r.replies.items) in
    let w = walks blocks in
    let opening = begun_of s units blocks in
    let bound = c.a_bound_script_is_bound_over_its_record.ensures m s t _ _ opening (recorded m (drop first log)) suits (over-units m s t units refl refl refl refl refl refl) w.fit (has-room s t units blocks (failed_in r.replies.items)) (has-cells s units blocks) in
    let backed = c.a_finished_stack_is_backed.ensures m (4096 * s.pages) opening first r st log k w ended (λ i. refl) (subst (λ ops. IsBoundRun (told m (recorded m (drop first log))) (λ c block. true) (4096 * s.pages) ops opening) (sym same) bound) in
    subst (λ o. Backed m s.ops o (drop first log) r.replies.items) (hides s units blocks) (subst (λ ops. Backed m ops (hidden (4096 * s.pages) opening) (drop first log) r.replies.items) same backed))

use Rattle.std.proofs.Common.{◌≡◌, ◌*◌, ℕ, true, eqb, List, [], length, get_or, drop, refl, ap, subst, sym, take, ◌∙◌}
use Rattle.page_pool.specs.Cells.{flat}
use Rattle.dix_adapter.specs.Ways.{blocks_told, shapes_of}
use Rattle.script_run_laws.specs.Passed.{IsBoundRun, keeps_size, recorded}
use Rattle.stack_core.specs.Passed.{AllTakeAny, with_flips}
use Rattle.stack_core.specs.Walking.{EndsFallen}
use Rattle.script_run_laws.proofs.Units.{over-units}
use Rattle.script_stack.specs.Followed.{begun_of, failed_in, opening_of, setting_of}
use Rattle.script_stack.proofs.Fallen.{hidden-same}
use Rattle.script_stack.proofs.Runs.{has-cells, has-room, hides, hides-all}
use Rattle.script_stack.proofs.laws.a_told_script_run_has_fallen.Goals as goal

by-length : (blocks : List (List ℕ)) (c : ℕ) (old new : List ℕ) → length new ≡ length old → keeps_size blocks c old ≡ true → keeps_size blocks c new ≡ true
by-length blocks c old new l e = ap (λ n. eqb n (length (get_or blocks c []))) l ∙ e

pub returns : goal.returns
returns c = λ s t us left first r armed st log suits lines made good stored shapes k same w ended.
    (let units = shapes_of us in
    let fails = failed_in r.replies.items in
    let m = setting_of s t units fails in
    let blocks = blocks_told us in
    let n = 4096 * s.pages in
    let opening = begun_of s units blocks in
    let pages = take n (flat r.pool) in
    let es = recorded m (drop first log) in
    let own = over-units m s t units refl refl refl refl refl refl in
    let bound = c.a_bound_script_is_bound_at_its_target.ensures m s t units us _ opening suits lines made good own refl refl stored refl (has-room s t units blocks fails) (has-cells s units blocks) in
    let takes = c.a_bound_script_takes_any_block_at_its_target.ensures m s t units us _ opening lines made good own refl refl stored refl in
    let ends = c.a_finished_stack_has_done_the_falling_walk.ensures m (keeps_size blocks) n opening first r left armed st log k w ended (λ i. refl) (by-length blocks)
    (subst (λ ops. IsBoundRun m (keeps_size blocks) n ops opening) (sym same) bound) (subst (AllTakeAny m (keeps_size blocks) 1) (sym same) takes) in
    let here = subst (λ ops. EndsFallen m n opening ops pages (blocks_told left) r.replies.items es) same ends in
    record {
      shapes = shapes;
      fallen = record {
        flips = here.flips;
        replied = here.replied;
        ends = hidden-same m n (with_flips here.flips 1 s.ops) opening (opening_of s units blocks) pages (blocks_told left) r.replies.items es (hides s units blocks ∙ sym (hides-all s units blocks)) here.ends;
      };
    })

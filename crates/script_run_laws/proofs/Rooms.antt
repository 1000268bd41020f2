-- The cells of an op's data and tuples are cells of the pages, once each.
use Rattle.std.proofs.Common.{◌≡◌, ◌<◌, ℕ, ◌*◌, ◌++◌, List}
use Rattle.std.proofs.lemmas.List.Elements.{All-append}
use Rattle.page_pool.specs.Places.{total}
use Rattle.page_pool.specs.declared.segs.Seg.{Seg}
use Rattle.range_gate.specs.Cells.{cells_of}
use Rattle.stack_walk_laws.specs.Passed.{AreCells}
use Rattle.script_run_laws.proofs.Bodies.{AreBoth, IsAlone}
use Rattle.script_run_laws.proofs.Ops.{eights}
use Rattle.script_run_laws.proofs.Segments.{cells-below, distinct-body, distinct-both, stands}

pub body-cells : (pages size n : ℕ) (body : List Seg) → IsAlone pages size n body → AreCells (4096 * pages) (cells_of body)
body-cells pages size n body a =
    let p = stands pages body a.body_is.inside in
    record { once = distinct-body pages body p a.overlap; below = cells-below pages body p }

pub both-cells : (pages size n : ℕ) (body tuples : List Seg) → AreBoth pages size n body tuples → AreCells (4096 * pages) (cells_of body ++ cells_of tuples)
both-cells pages size n body tuples b =
    let p = stands pages body b.body_is.inside in
    let q = stands pages tuples b.tuples_are.inside in
    record { once = distinct-both pages body tuples p q b.overlap; below = All-append (λ c. c < 4096 * pages) (cells_of body) (cells_of tuples) (cells-below pages body p) (cells-below pages tuples q) }

pub tuples-long : (pages size n : ℕ) (body tuples : List Seg) → AreBoth pages size n body tuples → total tuples ≡ n * 8
tuples-long pages size n body tuples b = eights n (total tuples) b.tuples_are.long

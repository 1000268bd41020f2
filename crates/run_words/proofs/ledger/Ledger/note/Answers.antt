use Rattle.std.proofs.Common.{length, sym, ◌∙◌, arith}
use Rattle.run_words.proofs.Spots.{place_inside, turn_of}
use Rattle.run_words.proofs.ledger.Ledger.note.Goals as goal

pub index-requires : goal.index-requires
index-requires c =
    let inside = place_inside c.as_slice.result.now c.args.label c.in-Some.place (length c.args.self.now.spots.items) (turn_of c.as_slice.result.now c.args.self.now c.as_slice.ensures.value c.requires.laid) (sym c.place_for.ensures ∙ c.in-Some.is) in
    omega (arith, inside, c.args.self.now.spots.ok)

pub index_mut-requires : goal.index_mut-requires
index_mut-requires c =
    let inside = place_inside c.as_slice.result.now c.args.label c.in-Some.place (length c.args.self.now.spots.items) (turn_of c.as_slice.result.now c.args.self.now c.as_slice.ensures.value c.requires.laid) (sym c.place_for.ensures ∙ c.in-Some.is) in
    omega (arith, inside, c.args.self.now.spots.ok)

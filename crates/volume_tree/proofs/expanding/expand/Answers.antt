use Rattle.std.proofs.Common.{◌≡◌, length, sym, subst, ◌∙◌, arith}
use Rattle.std.proofs.lemmas.List.{length-map}
use Rattle.linear_volume.specs.declared.Linear.{Linear}
use Rattle.std.specs.declared.alloc.Global.{Global}
use Rattle.std.specs.declared.vec.Vec.{Vec}
use Rattle.volume_tree.specs.Tracks.{tracks_of}
use Rattle.volume_tree.specs.Trees.{DoFit}
use Rattle.volume_tree.proofs.Stretches.{all_fit, built, says}
use Rattle.volume_tree.proofs.expanding.expand.Goals as goal

pub stripes-requires-clause-fit : goal.stripes-requires-clause-fit
stripes-requires-clause-fit c =
    let legs : length (tracks_of c.args.legs.now) ≡ length c.args.legs.now = length-map c.args.legs.now (λ (v : Vec Linear Global). v.items) in
    let b = built c.args.chunk c.args.len (tracks_of c.args.legs.now) c.requires.chunk (omega (arith, legs, c.requires.some)) c.requires.blocks.0 c.requires.tracks (sym c.has_bad_length.ensures ∙ c.if-has_bad_length.false) (sym c.is_unaligned.ensures ∙ c.if-is_unaligned.false) in
    subst (λ n. DoFit c.args.start n 0 c.as_slice.result.now) legs (subst (λ xs. DoFit c.args.start (length (tracks_of c.args.legs.now)) 0 xs) (sym (c.as_slice.ensures.value ∙ c.in-Some.ensures.some)) (all_fit c.args.start c.args.chunk c.args.len (tracks_of c.args.legs.now) b c.requires.fits))

pub returns-in-Ok-clause-lie : goal.returns-in-Ok-clause-lie
returns-in-Ok-clause-lie c =
    says c.args.start c.args.chunk c.args.len (length c.args.legs.now) (tracks_of c.args.legs.now) c.as_slice.result.now c.from_vec.result (length-map c.args.legs.now (λ (v : Vec Linear Global). v.items)) c.requires.chunk c.requires.some c.requires.few c.requires.blocks c.requires.tracks
    (sym c.has_bad_length.ensures ∙ c.if-has_bad_length.false) (sym c.is_unaligned.ensures ∙ c.if-is_unaligned.false) (c.as_slice.ensures.value ∙ c.in-Some.ensures.some) c.as_slice.ensures.fits (c.from_vec.ensures ∙ c.in-Ok.ensures)

use Rattle.std.proofs.Common.{◌+◌, ◌*◌, ◌≤◌, length, rules, ◌∙◌, arith}
use Rattle.mirror_volume.specs.Inner.{read_script}
use Rattle.mirror_volume.proofs.Borrowed.{pasted-back}
use Rattle.mirror_volume.proofs.Readings.{part-bytes, part-found, part-of, reads-part}
use Rattle.mirror_volume.proofs.reading.ask_stretch.Goals as goal
use Rattle.small_laws.proofs.Numbers.{within_all}

pub returns-in_err-read_piece-clause-ran : goal.returns-in_err-read_piece-clause-ran
returns-in_err-read_piece-clause-ran g c =
    let p = c.args.plan.now in
    let x = c.in_err-read_piece.ensures.ran in
    record { runs = x.runs; ran = x.ran; goes_on = x.goes_on; own = reads-part p.script p.half c.args.whole c.args.stretch x.runs c.requires.stretch x.own; came = search rules; tells = x.tells }

pub returns-clause-ran : goal.returns-clause-ran
returns-clause-ran g c =
    let p = c.args.plan.now in
    let size = p.script.block in
    let script = read_script p.script p.half in
    let whole = c.args.whole in
    let s = c.args.stretch in
    let came = c.args.came.now in
    let found = c.read_piece.new.found in
    let bytes = c.read_piece.new.bytes in
    let x = c.in_ok-read_piece.ensures.ran in
    let ran = x.came in
    let few : s.0 + s.1 ≤ length came.found.items = let h = c.requires.stretch.inside in let e = c.requires.found in omega (arith, h, e) in
    let room : s.0 * size + s.1 * size ≤ length came.bytes.items = let h = within_all s.0 s.1 whole.n size c.requires.stretch.inside in let e = c.requires.bytes in omega (arith, h, e) in
    record {
      runs = x.runs;
      ran = x.ran;
      goes_on = x.goes_on;
      own = reads-part p.script p.half whole s x.runs c.requires.stretch x.own;
      came = (
        part-of script whole size s found bytes x.runs ran,
        (
          pasted-back s.0 s.1 came.found.len c.deref_mut-2.result.now came.found.items found c.deref_mut-2.ensures.value came.found.ok.0 few c.read_piece.auto.found ∙ part-found script whole size s found bytes x.runs came.found.items ran,
          pasted-back (s.0 * size) (s.1 * size) came.bytes.len c.deref_mut.result.now came.bytes.items bytes c.deref_mut.ensures.value came.bytes.ok.0 room c.read_piece.auto.bytes ∙ part-bytes script whole size s found bytes x.runs came.bytes.items ran,
        ),
      );
      tells = x.tells;
    }

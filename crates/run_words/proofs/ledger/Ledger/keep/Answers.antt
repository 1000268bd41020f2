use Rattle.std.proofs.Common.{◌<◌, length, sym, ◌∙◌, arith}
use Rattle.run_words.proofs.Noting.{next_record, same_size}
use Rattle.run_words.proofs.ledger.Ledger.keep.Goals as goal

pub loop-i-preserved : goal.loop-i-preserved
loop-i-preserved g c =
    let log = (g.R.Rig.state c.args.rig.now).log in
    let here : c.loop-i.i < length log = omega (arith, c.loop-i-test.true, c.records-i-end.ensures) in
    record {
      laid = c.note_record.ensures.laid;
      book = c.note_record.ensures.book ∙ c.loop-i.invariant.book;
      seen = next_record c.args.self.now.size c.loop-i.self c.note_record.new.self log c.loop-i.i c.logged.result.now c.labels.result.now _ (same_size c.loop-i.self c.args.self.now c.loop-i.invariant.book) here (sym c.logged.ensures) (sym c.labels.ensures) c.note_record.ensures
          c.loop-i.invariant.seen;
    }

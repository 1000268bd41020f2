use Rattle.std.proofs.Common.{◌+◌, ◌++◌, drop, sym, ap, ◌∙◌, append-nil}
use Rattle.hex.specs.Hex.{encode_lower}
use Rattle.script_text.proofs.Texts.{hex_end, hex_next, piece_more}
use Rattle.script_text.proofs.text.Text.hex.Goals as goal

pub loop-byte-preserved : goal.loop-byte-preserved
loop-byte-preserved c =
    piece_more c.loop-byte.self.bytes.items c.byte.new.self.bytes.items _ (encode_lower (drop (c.loop-byte.byte-index + 1) c.args.bytes.now)) _
    (ap (λ x. c.loop-byte.self.bytes.items ++ x) (sym (hex_next c.loop-byte.byte-index c.args.bytes.now c.loop-byte-test.true)) ∙ c.loop-byte.invariant) c.in_ok-byte.ensures

pub returns : goal.returns
returns c = sym (append-nil c.loop-byte.self.bytes.items) ∙ ap (λ x. c.loop-byte.self.bytes.items ++ x) (sym (hex_end c.loop-byte.byte-index c.args.bytes.now c.loop-byte-test.false)) ∙ c.loop-byte.invariant

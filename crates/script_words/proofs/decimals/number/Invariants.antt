use Rattle.std.proofs.Common.{◌≡◌, ◌<◌, ◌^◌, drop}
use Rattle.script_words.specs.Decimals.{value_from}
use Rattle.script_words.proofs.decimals.number.Given as goal

abbrev pub invariant-loop-digit : goal.invariant-loop-digit
invariant-loop-digit l = record {
  value : value_from l.value (drop l.digit-index l.word) ≡ value_from 0 l.word;
  small : l.value < 2 ^ 64;
}

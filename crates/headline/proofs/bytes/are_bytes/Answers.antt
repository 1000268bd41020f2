use Rattle.std.proofs.Common.{ℕ, ◌<◌}
use Rattle.std.proofs.lemmas.List.Elements.{All-from_get_or}
use Rattle.headline.proofs.bytes.are_bytes.Goals as goal

pub returns : goal.returns
returns c = All-from_get_or (λ (x : ℕ). x < 256) c.args.items.now 0 (λ i l. (c.type_inv.items i).fits)

use Rattle.std.proofs.Common.{rules, ◌≡◌, ◌∙◌}
use Rattle.dix_base.proofs.Octets.{same_kept}
use Rattle.dix_base.proofs.calm_store.CalmStoreStore.append.Goals as goal

pub returns-clause-memory : goal.returns-clause-memory
returns-clause-memory c = λ err.
    let same : c.extend_from_slice.new.self.items ≡ c.self.inside.held.bytes.items = search rules in
    same_kept _ _ _ c.self.inside.held.below c.self.inside.opened _ same ∙ c.self.view_is

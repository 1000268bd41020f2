-- The entry of a virtual block has all that its place asks for.
use Rattle.std.proofs.Common.{ℕ, ◌≡◌, ◌++◌, ◌<◌, List, [], ◌∷◌, Some, refl, sym, ap, subst, ◌∙◌, append-nil}
use Rattle.volume_table.proofs.Chosen.{IsChosen, chosen}
use Rattle.volume_table.specs.Places.{holder, volume_len}
use Rattle.volume_table.specs.Tables.{IsTable, Table}
use Rattle.volume_table.specs.declared.entry.Entry.{Entry}
use Rattle.stack_ops.specs.declared.op.Op.{Op}
use Rattle.run_words.specs.Sites.{sites_from}
use Rattle.run_words.specs.declared.guide.OpSite.{OpSite}

pub chosen_at : (t : Table) (entries : List Entry) (v : ℕ) (e : Entry) → t.entries ≡ entries → IsTable t → v < volume_len entries → holder entries v ≡ Some e → IsChosen t v e
chosen_at t entries v e same is lt h = chosen t v e is (subst (λ (es : List Entry). v < volume_len es) (sym same) lt) (subst (λ (es : List Entry). holder es v ≡ Some e) (sym same) h)

none_left : (lines : List ℕ) → sites_from lines [] ≡ []
none_left [] = refl
none_left (line ∷ lines) = refl

-- the sites of all ops
pub all_sites : (sites want : List OpSite) (lines : List ℕ) (ops : List Op) → ops ≡ [] → sites ++ sites_from lines ops ≡ want → sites ≡ want
all_sites sites want lines ops e h = sym (append-nil sites) ∙ ap (λ x. sites ++ x) (sym (ap (sites_from lines) e ∙ none_left lines)) ∙ h

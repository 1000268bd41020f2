use Rattle.std.specs.Prelude.{ℕ, suc, ◌≡◌, ◌+◌, ◌-◌, ◌^◌, ◌<◌, Bool, true, ltb, ◌&&◌, List, [], ◌∷◌, length, take, drop, vec_len, vec_capacity, refl}
use Rattle.std.proofs.Common.{sym, ap, subst, ◌∙◌}
use Rattle.std.specs.Global.{Vec}
use Rattle.fault_schedule.specs.declared.Label.{Label}
use Rattle.rig_api.specs.Log.{LogEntry, has_key, have_keys}
use Rattle.image_rig.specs.declared.kept.Kept.{Kept}

abbrev pub entry : List Label → List ℕ → Kept → LogEntry
entry labels moved k = record {
  what = k.what;
  labels = take k.labels_len (drop k.labels_at labels);
  moved = take k.moved_len (drop k.moved_at moved);
}

-- the entries of the records that are kept, whose labels and moved bytes are parts of the two lists
abbrev pub entries : List Label → List ℕ → List Kept → List LogEntry
entries labels moved [] = []
entries labels moved (k ∷ ks) = entry labels moved k ∷ entries labels moved ks

abbrev pub is_inside : ℕ → ℕ → Kept → Bool
is_inside labels moved k = ltb (k.labels_at + k.labels_len) (labels + 1) && ltb (k.moved_at + k.moved_len) (moved + 1)

-- The parts of all records lie inside the two lists.
abbrev pub are_inside : ℕ → ℕ → List Kept → Bool
are_inside labels moved [] = true
are_inside labels moved (k ∷ ks) = is_inside labels moved k && are_inside labels moved ks

-- The sense key of each record has four bits.
abbrev pub are_keyed : List Kept → Bool
are_keyed [] = true
are_keyed (k ∷ ks) = has_key k.what.outcome.sense && are_keyed ks

abbrev pub spare : {X : Type 0} → Vec X → ℕ
spare v = vec_capacity v - vec_len v

pub entries_length : (labels : List Label) (moved : List ℕ) (ks : List Kept) → length (entries labels moved ks) ≡ length ks
entries_length labels moved [] = refl
entries_length labels moved (k ∷ ks) = ap suc (entries_length labels moved ks)

pub few_of : (labels : List Label) (moved : List ℕ) (ks : List Kept) (free : ℕ) → length ks + free < 2 ^ 32 → length (entries labels moved ks) + free < 2 ^ 32
few_of labels moved ks free h = subst (λ n. n + free < 2 ^ 32) (sym (entries_length labels moved ks)) h

keys_are : (labels : List Label) (moved : List ℕ) (ks : List Kept) → have_keys (entries labels moved ks) ≡ are_keyed ks
keys_are labels moved [] = refl
keys_are labels moved (k ∷ ks) = ap (λ b. has_key k.what.outcome.sense && b) (keys_are labels moved ks)

pub keyed_of : (labels : List Label) (moved : List ℕ) (ks : List Kept) → are_keyed ks ≡ true → have_keys (entries labels moved ks) ≡ true
keyed_of labels moved ks h = keys_are labels moved ks ∙ h

-- The entry that is found for a block.
use Rattle.std.proofs.Common.{◌≡◌, ℕ, ◌+◌, ◌^◌, ◌<◌, ◌≤◌, Bool, true, false, cond, List, [], ◌∷◌, Some, find, inl, inr, refl, ap, subst, arith}
use Rattle.std.proofs.lemmas.List.Elements.{All-contains, All-get_or}
use Rattle.volume_table.specs.declared.entry.Entry.{Entry}
use Rattle.volume_table.specs.Entries.{IsInRange, entry_place, entry_run, is_held}
use Rattle.volume_table.specs.Faults.{device}
use Rattle.volume_table.specs.Places.{holder, place_by, place_in, run_by, run_in, volume_len}
use Rattle.volume_table.specs.Tables.{EndFits, IsOn, IsTable, Table}
use Rattle.volume_table.proofs.Lists.{In, in_contains}

record Found (p : Entry → Bool) (xs : List Entry) (e : Entry) : Type 0 where
  listed : In e xs
  passes : p e ≡ true

first_or : (p : Entry → Bool) (b : Bool) (x : Entry) (xs : List Entry) (e : Entry) → p x ≡ b → cond b (Some x) (find p xs) ≡ Some e → (find p xs ≡ Some e → Found p xs e) → Found p (x ∷ xs) e
first_or p true x xs e is h later =
    let same : x ≡ e = cc in
    record { listed = inl same; passes = subst (λ (z : Entry). p z ≡ true) same is }
first_or p false x xs e is h later = let r = later h in record { listed = inr r.listed; passes = r.passes }

listed : (p : Entry → Bool) (xs : List Entry) (e : Entry) → find p xs ≡ Some e → Found p xs e
listed p [] e h = absurd (cc)
listed p (x ∷ xs) e h = first_or p (p x) x xs e refl h (listed p xs e)

pub record IsChosen (t : Table) (v : ℕ) (e : Entry) : Type 0 where
  pub ranges : IsInRange e
  pub holds : is_held v e ≡ true
  pub place : place_in t.entries v ≡ entry_place e v
  pub run : run_in t.entries v ≡ entry_run e v
  pub fits : (entry_place e v).1 < 2 ^ 64

pub chosen : (t : Table) (v : ℕ) (e : Entry) → IsTable t → v < volume_len t.entries → holder t.entries v ≡ Some e → IsChosen t v e
chosen t v e is lt h =
    let made = is.made in
    let devices = is.devices in
    let f = listed (is_held v) t.entries e h in
    let place : place_in t.entries v ≡ entry_place e v = ap (λ o. place_by o v) h in
    let on : IsOn devices t.ty is.size (entry_place e v).0 (entry_place e v).1 1 = subst (λ (p : ℕ × ℕ). IsOn devices t.ty is.size p.0 p.1 1) place (made.inside v lt) in
    let d = device devices (entry_place e v).0 in
    let end : EndFits d = All-get_or EndFits devices (entry_place e v).0 _ on.known made.ends in
    let below : (entry_place e v).1 + 1 ≤ d.first + d.blocks = on.ends in
    record {
      ranges = All-contains IsInRange t.entries e made.ranges (in_contains t.entries e f.listed);
      holds = f.passes;
      place = place;
      run = ap (λ o. run_by o v) h;
      fits = omega arith;
    }

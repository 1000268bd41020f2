-- What holds of where a table's blocks lie, from that no entry is at fault.
use Rattle.std.proofs.Common.{◌≡◌, ℕ, ◌+◌, ◌<◌, ◌≤◌, true, List, [], ◌∷◌, length, Option, Some, None, inl, inr, refl, sym, ap, ◌∙◌, subst, All, arith}
use Rattle.std.proofs.lemmas.List.Elements.{All-contains, All-from_get_or, Contains-get_or}
use Rattle.pi_tuple.specs.declared.checks.PiType.{PiType}
use Rattle.volume_table.specs.declared.device.DeviceInfo.{DeviceInfo}
use Rattle.volume_table.specs.declared.entry.Entry.{Entry}
use Rattle.volume_table.specs.declared.extent.Extent.{Extent}
use Rattle.volume_table.specs.declared.fault.VolumeFault.{VolumeFault}
use Rattle.volume_table.specs.Entries.{IsInRange, entry_place, entry_run, extents, is_held}
use Rattle.volume_table.specs.Faults.{device, table_fault, volume_type}
use Rattle.volume_table.specs.Places.{holder, place_by, place_in, run_by, run_in, volume_len}
use Rattle.volume_table.specs.Tables.{EndFits, IsOn, MadeFor}
use Rattle.volume_table.proofs.Fine.{AllClear, AllFine, Clear, all_clear, all_fine, extent_on, fine_at}
use Rattle.volume_table.proofs.Formulas.{IsSound, OnExtent, clash, entry_alone, entry_goes_on, entry_some, on_extent, sound}
use Rattle.volume_table.proofs.Lists.{In, contains_in, in_contains}
use Rattle.volume_table.proofs.Order.{Holder, Ordered, between, found, holder_of, ordered}

-- no two blocks of the entries have one place
alone_in : (n : ℕ) (xs : List Entry) → AllClear xs → ((e : Entry) → In e xs → IsSound e) → (e f : Entry) (v w : ℕ) → In e xs → In f xs → is_held v e ≡ true → is_held w f ≡ true → entry_place e v ≡ entry_place f w → v ≡ w
alone_in n [] c s e f v w ie jf he hf same = absurd ie
alone_in n (x ∷ xs) c s e f v w ie jf he hf same =
    elim ie [
      | inl a ↦
          elim jf [
            | inl b ↦
                let ef : e ≡ f = sym a ∙ b in
                entry_alone e v w (s e (inl a)) he (subst (λ (z : Entry). is_held w z ≡ true) (sym ef) hf) (same ∙ ap (λ z. entry_place z w) (sym ef))
            | inr j ↦
                let clear : Clear e f = subst (λ (z : Entry). Clear z f) a (c.0 f j) in
                absurd (clash e f v w clear (on_extent e v (s e (inl a)) he) (on_extent f w (s f (inr j)) hf) same)
          ]
      | inr i ↦
          elim jf [
            | inl b ↦
                let clear : Clear f e = subst (λ (z : Entry). Clear z e) b (c.0 e i) in
                absurd (clash f e w v clear (on_extent f w (s f (inl b)) hf) (on_extent e v (s e (inr i)) he) (sym same))
            | inr j ↦ alone_in n xs c.1 (λ z k. s z (inr k)) e f v w i j he hf same
          ]
    ]

-- part of an extent that lies on a device
part_on : (devices : List DeviceInfo) (ty : PiType) (size dev at n lba : ℕ) → IsOn devices ty size dev at n → at ≤ lba → lba < at + n → IsOn devices ty size dev lba 1
part_on devices ty size dev at n lba on p q =
    let b : (device devices dev).first ≤ at = on.begins in
    let e : at + n ≤ (device devices dev).first + (device devices dev).blocks = on.ends in
    record { known = on.known; begins = omega arith; ends = omega arith; type_is = on.type_is; size_is = on.size_is }

block_on : (devices : List DeviceInfo) (ty : PiType) (size : ℕ) (e : Entry) (v : ℕ) → ((x : Extent) → In x (extents e) → IsOn devices ty size x.dev x.at x.len) → OnExtent e v → IsOn devices ty size (entry_place e v).0 (entry_place e v).1 1
block_on devices ty size e v on o =
    let x = o.extent in
    subst (λ (d : ℕ). IsOn devices ty size d (entry_place e v).1 1) o.device
    (part_on devices ty size x.dev x.at x.len (entry_place e v).1 (on x o.listed) o.begins o.ends)

-- The table of entries that are not at fault.
pub made : (entries : List Entry) (devices : List DeviceInfo) (size : ℕ) → length entries ≤ 16 → All IsInRange entries → All EndFits devices → table_fault entries devices size ≡ None → MadeFor (record { entries = entries; ty = volume_type entries devices }) devices size
made entries devices size count ranges fit right =
    let ty = volume_type entries devices in
    let fine : AllFine ty [] entries devices size = all_fine ty [] entries devices size right in
    let order : Ordered 0 entries = ordered ty [] entries devices size fine in
    let clear : AllClear entries = all_clear ty [] entries devices size fine in
    let are_sound : (e : Entry) → In e entries → IsSound e =
    λ (e : Entry) (i : In e entries). let f = fine_at ty [] entries devices size fine e i in
    sound e (All-contains IsInRange entries e ranges (in_contains entries e i)) f.1.chunk f.1.legs in
    let on : (e : Entry) → In e entries → (x : Extent) → In x (extents e) → IsOn devices ty size x.dev x.at x.len =
    λ (e : Entry) (i : In e entries). let f = fine_at ty [] entries devices size fine e i in extent_on ty f.0 e devices size f.1 in
    let held : (v : ℕ) → v < volume_len entries → Holder v entries =
    λ (v : ℕ) (lt : v < volume_len entries). holder_of 0 v entries order (omega arith) (omega arith) in
    let is_found : (e : Entry) (v : ℕ) → In e entries → is_held v e ≡ true → holder entries v ≡ Some e =
    λ (e : Entry) (v : ℕ) (i : In e entries) (h : is_held v e ≡ true). found 0 v entries order e i h in
    let placed : (e : Entry) (v : ℕ) → In e entries → is_held v e ≡ true → place_in entries v ≡ entry_place e v =
    λ (e : Entry) (v : ℕ) (i : In e entries) (h : is_held v e ≡ true). ap (λ o. place_by o v) (is_found e v i h) in
    let run_is : (e : Entry) (v : ℕ) → In e entries → is_held v e ≡ true → run_in entries v ≡ entry_run e v =
    λ (e : Entry) (v : ℕ) (i : In e entries) (h : is_held v e ≡ true). ap (λ o. run_by o v) (is_found e v i h) in
    record {
      count = count;
      ranges = ranges;
      ends = fit;
      right = right;
      formula = λ e v c h. placed e v (contains_in entries e c) h;
      held = λ v lt. let r = held v lt in (r.entry, in_contains entries r.entry r.listed, r.holds);
      alone = λ v w lv lw same.
          let a = held v lv in
          let b = held w lw in
          alone_in 0 entries clear are_sound a.entry b.entry v w a.listed b.listed a.holds b.holds
          (sym (placed a.entry v a.listed a.holds) ∙ same ∙ placed b.entry w b.listed b.holds);
      inside = λ v lt.
          let a = held v lt in
          subst (λ (p : ℕ × ℕ). IsOn devices ty size p.0 p.1 1) (sym (placed a.entry v a.listed a.holds))
          (block_on devices ty size a.entry v (on a.entry a.listed) (on_extent a.entry v (are_sound a.entry a.listed) a.holds));
      extents_inside = λ e c.
          All-from_get_or (λ x. IsOn devices ty size x.dev x.at x.len) (extents e) (record { dev = 0; at = 0; len = 0 })
          (λ i lt. on e (contains_in entries e c) _ (contains_in (extents e) _ (Contains-get_or (extents e) i (record { dev = 0; at = 0; len = 0 }) lt)));
      some = λ v lt.
          let a = held v lt in
          subst (λ (n : ℕ). 1 ≤ n) (sym (run_is a.entry v a.listed a.holds)) (entry_some a.entry v (are_sound a.entry a.listed) a.holds);
      runs = λ v k lt below.
          let a = held v lt in
          let g = entry_goes_on a.entry v k (are_sound a.entry a.listed) a.holds (subst (λ (n : ℕ). k < n) (run_is a.entry v a.listed a.holds) below) in
          let b = between 0 entries order a.entry a.listed in
          let h = Rattle.volume_table.proofs.Order.is_in (v + k) a.entry g.holds in
          let here = placed a.entry v a.listed a.holds in
          record {
            within = omega (arith, b.1, h.1);
            place = placed a.entry (v + k) a.listed g.holds ∙ g.place ∙ ap (λ p. (p.0, p.1 + k)) (sym here);
          };
    }

is_none : {X : Type 0} (o : Option X) → ((x : X) → o ≡ Some x → ⊥) → o ≡ None
is_none (Some x) h = absurd (h x refl)
is_none None h = refl

pub no_fault : (entries list : List Entry) (devices : List DeviceInfo) (size : ℕ) {o : Option VolumeFault} → list ≡ entries → o ≡ table_fault list devices size → ((x : VolumeFault) → o ≡ Some x → ⊥) → table_fault entries devices size ≡ None
no_fault entries list devices size {o} same e none = subst (λ (l : List Entry). table_fault l devices size ≡ None) same (sym e ∙ is_none o none)

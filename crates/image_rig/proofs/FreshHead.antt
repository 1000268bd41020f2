-- The head of a formatted image is right, and tells the units that it was formatted with.
use Rattle.std.proofs.Common.{◌≡◌, ℕ, zero, suc, ◌+◌, ◌-◌, ◌*◌, ◌≤◌, Bool, true, false, eqb, ltb, ◌&&◌, List, [], ◌∷◌, ◌++◌, length, take, drop, replicate, map, Some, None, refl, sym, ap, ◌∙◌, arith, append_assoc, length-append}
use Rattle.std.specs.Prelude.{min, if◌then◌else◌}
use Rattle.std.specs.Int.{w16, to_be_bytes, from_be_bytes}
use Rattle.std.specs.List.{list_all}
use Rattle.std.specs.Str.{bytes_eq}
use Rattle.std.proofs.lemmas.Nat.{from_be_bytes-to_be_bytes_2, from_be_bytes-to_be_bytes_8}
use Rattle.std.proofs.lemmas.List.{drop_at, length-replicate, take_at}
use Rattle.std.proofs.lemmas.Bool.{eqb-true, and_parts}
use Rattle.std.proofs.lemmas.Slice.Eq.{bytes_eq-Decides}
use Rattle.pi_tuple.specs.declared.checks.PiType.{PiType}
use Rattle.rig_api.specs.Frames.{joined, stored_size}
use Rattle.rig_api.specs.Headers.{all_bytes, bytes_of, entry_of, header, image_size, is_first, is_header, is_layout, is_spec, magic_of, spec_of, specs_from, specs_in, version_for, version_of}
use Rattle.rig_api.specs.Image.{all_fresh, formatted, fresh, fresh_bytes, fresh_from}
use Rattle.rig_api.specs.declared.units.UnitSpec.{UnitSpec}
use Rattle.rig_api.specs.declared.units.Version.{Version}
use Rattle.rig_api.specs.declared.units.Version.TheVariants.{First, Second}
use Rattle.rig_api.proofs.FreshBlocks.{fresh_long}
use Rattle.rig_api.specs.Head.{fault_of_header, fault_under, head_fault, head_of, specs_under, units_of}
use Rattle.rig_api.specs.declared.rig.RigFault.TheVariants.{BadLength}
use Rattle.image_rig.proofs.Heads.{layout_parts}
use Rattle.image_rig.proofs.Migrates.{header_back as second_back, header_long as second_long, spec_told, type_back, same_spec}

-- ---- the header of version 1 is read back

entry_back : (u : UnitSpec) (rest : List ℕ) → is_spec u ≡ true → u.size ≡ 512 → u.first ≡ 0 → spec_of First (entry_of First u ++ rest) ≡ u
entry_back u rest h s f = let t = spec_told u h in same_spec u _ _ _ _ (type_back u.ty) (from_be_bytes-to_be_bytes_8 u.blocks t.blocks) (sym s) (sym f)

entries_back : (us : List UnitSpec) (rest : List ℕ) → list_all is_spec us ≡ true → is_first us ≡ true → specs_from First (length us) (joined (map (entry_of First) us) ++ rest) ≡ us
entries_back [] rest h k = refl
entries_back (u ∷ us) rest h k =
    let s = and_parts (is_spec u) (list_all is_spec us) h in
    let a = and_parts (eqb u.size 512) (eqb u.first 0 && is_first us) k in
    let b = and_parts (eqb u.first 0) (is_first us) a.1 in
    let one : length (entry_of First u) ≡ 16 = refl in
    let assoc = append_assoc (entry_of First u) (joined (map (entry_of First) us)) rest in
    let d : drop 16 ((entry_of First u ++ joined (map (entry_of First) us)) ++ rest) ≡ joined (map (entry_of First) us) ++ rest =
    ap (drop 16) assoc ∙ drop_at (entry_of First u) (joined (map (entry_of First) us) ++ rest) 16 one in
    ap (λ b. spec_of First b ∷ specs_from First (length us) (drop 16 ((entry_of First u ++ joined (map (entry_of First) us)) ++ rest))) assoc
    ∙ ap (λ v. v ∷ specs_from First (length us) (drop 16 ((entry_of First u ++ joined (map (entry_of First) us)) ++ rest))) (entry_back u (joined (map (entry_of First) us) ++ rest) s.0 (eqb-true u.size 512 a.0) (eqb-true u.first 0 b.0))
    ∙ ap (λ b. u ∷ specs_from First (length us) b) d
    ∙ ap (λ vs. u ∷ vs) (entries_back us rest s.1 b.1)

entries_long : (us : List UnitSpec) → length (joined (map (entry_of First) us)) ≡ 16 * length us
entries_long [] = refl
entries_long (u ∷ us) = let e = entries_long us in let a = length-append (entry_of First u) (joined (map (entry_of First) us)) in let b : length (entry_of First u) ≡ 16 = refl in omega arith

first_long : (us : List UnitSpec) → length us ≤ 8 → length (header First us) ≡ 512
unfolding header
first_long us h =
    let j = joined (map (entry_of First) us) in
    let body = magic_of First ++ (to_be_bytes w16 (length us) ++ (0 ∷ 0 ∷ 0 ∷ 0 ∷ 0 ∷ 0 ∷ j)) in
    let e = entries_long us in
    let l : length body ≡ 16 + length j = omega arith in
    let r = length-replicate {A = ℕ} (512 - length body) 0 in
    let a = length-append body (replicate (512 - length body) 0) in
    omega arith

first_back : (us : List UnitSpec) → is_layout us ≡ true → is_first us ≡ true → specs_in First (header First us) ≡ us
unfolding header specs_in
first_back us h k =
    let p = layout_parts us h in
    let n : min (from_be_bytes w16 (to_be_bytes w16 (length us))) 8 ≡ length us = (let e = from_be_bytes-to_be_bytes_2 (length us) (let q = p.1 in omega arith) in let q = p.1 in omega arith) in
    let j = joined (map (entry_of First) us) in
    let body = magic_of First ++ (to_be_bytes w16 (length us) ++ (0 ∷ 0 ∷ 0 ∷ 0 ∷ 0 ∷ 0 ∷ j)) in
    let zeros = replicate {A = ℕ} (512 - length body) 0 in
    ap (λ c. specs_from First c (j ++ zeros)) n ∙ entries_back us zeros p.2 k

-- ---- either version

-- a header that was written
pub record IsWritten (us : List UnitSpec) (v : Version) : Type 0 where
  pub long : length (header v us) ≡ 512
  pub back : specs_in v (header v us) ≡ us
  pub text : version_of (take 8 (header v us)) ≡ Some v

first_text : (us : List UnitSpec) → version_of (take 8 (header First us)) ≡ Some First
unfolding header
first_text us = refl

second_text : (us : List UnitSpec) → version_of (take 8 (header Second us)) ≡ Some Second
unfolding header
second_text us = refl

by_size : (us : List UnitSpec) (first : Bool) → is_first us ≡ first → is_layout us ≡ true → IsWritten us (if first then First else Second)
by_size us true e h = record { long = first_long us (layout_parts us h).1; back = first_back us h e; text = first_text us }
by_size us false e h = record { long = second_long us (layout_parts us h).1; back = second_back us h; text = second_text us }

written : (us : List UnitSpec) → is_layout us ≡ true → IsWritten us (version_for us)
written us h = by_size us (is_first us) refl h

pub header_long : (us : List UnitSpec) → is_layout us ≡ true → length (header (version_for us) us) ≡ 512
header_long us h = (written us h).long

-- ---- the length

unit_long : (ty : PiType) (size lba n : ℕ) → length (joined (fresh_from ty size lba n)) ≡ n * stored_size ty size
unit_long ty size lba zero = omega arith
unit_long ty size lba (suc n) =
    let m : suc n * stored_size ty size ≡ stored_size ty size + n * stored_size ty size = omega arith in
    length-append (fresh ty size lba) (joined (fresh_from ty size (lba + 1) n)) ∙ ap (λ k. k + length (joined (fresh_from ty size (lba + 1) n))) (fresh_long ty size lba)
    ∙ ap (λ k. stored_size ty size + k) (unit_long ty size (lba + 1) n) ∙ sym m

all_long : (us : List UnitSpec) → length (fresh_bytes us) ≡ all_bytes us
all_long [] = refl
all_long (u ∷ us) =
    length-append (joined (all_fresh u)) (fresh_bytes us) ∙ ap (λ k. k + length (fresh_bytes us)) (unit_long u.ty u.size u.first u.blocks) ∙ ap (λ k. bytes_of u + k) (all_long us)

-- ---- the head

head_is : (us : List UnitSpec) → is_layout us ≡ true → head_of (formatted us) ≡ record { size = image_size us; first = header (version_for us) us }
unfolding formatted
head_is us h =
    let w = written us h in
    let a : length (formatted us) ≡ image_size us = length-append (header (version_for us) us) (fresh_bytes us) ∙ ap (λ k. k + length (fresh_bytes us)) w.long ∙ ap (λ k. 512 + k) (all_long us) in
    let b : take 512 (formatted us) ≡ header (version_for us) us = take_at (header (version_for us) us) (fresh_bytes us) 512 w.long in
    ap (λ n. record { size = n; first = take 512 (formatted us) }) a ∙ ap (λ f. record { size = image_size us; first = f }) b

pub units_back : (us : List UnitSpec) → is_layout us ≡ true → units_of (head_of (formatted us)) ≡ us
units_back us h =
    let w = written us h in
    ap units_of (head_is us h) ∙ ap (λ v. specs_under v (header (version_for us) us)) w.text ∙ w.back

pub same_bytes : (xs : List ℕ) → bytes_eq xs xs ≡ true
same_bytes xs = (bytes_eq-Decides xs xs).1 refl

is_right : (us : List UnitSpec) (v : Version) → IsWritten us v → is_layout us ≡ true → is_header v (header v us) ≡ true
unfolding is_header
is_right us v w h = ap (λ (s : List UnitSpec). is_layout s && bytes_eq (header v s) (header v us)) w.back ∙ ap (λ b. b && bytes_eq (header v us) (header v us)) h ∙ same_bytes (header v us)

same_size : (n : ℕ) → (if eqb n n then None else Some BadLength) ≡ None
same_size n = let e : eqb n n ≡ true = grind arith in ap (λ b. if b then None else Some BadLength) e

pub right_head : (us : List UnitSpec) → is_layout us ≡ true → head_fault (head_of (formatted us)) ≡ None
unfolding head_fault
right_head us h =
    let w = written us h in
    let v = version_for us in
    let first = header v us in
    let whole : ltb (length first) 512 ≡ false = (let l = w.long in grind (arith, l)) in
    let size = image_size us in
    ap head_fault (head_is us h)
    ∙ ap (λ x. fault_under x (record { size = size; first = first })) w.text
    ∙ ap (λ b. if b then Some BadLength else fault_of_header (is_header v first) size (image_size (specs_in v first))) whole
    ∙ ap (λ b. fault_of_header b size (image_size (specs_in v first))) (is_right us v w h)
    ∙ ap (λ (s : List UnitSpec). if eqb size (image_size s) then None else Some BadLength) w.back
    ∙ same_size size

-- Words of `format` order an image that there may be.
use Rattle.std.proofs.Common.{ℕ, ◌≡◌, ◌≤◌, Bool, true, false, leb, ltb, ◌^◌, ◌&&◌, List, [], ◌∷◌, length, Option, Some, None, refl, sym, ap, ◌∙◌, arith}
use Rattle.std.specs.Prelude.{codes, if◌then◌else◌}
use Rattle.std.specs.Str.{bytes_eq}
use Rattle.std.proofs.lemmas.Bool.{leb-true}
use Rattle.pi_tuple.specs.declared.checks.PiType.{PiType}
use Rattle.rig_api.specs.Headers.{is_layout}
use Rattle.rig_api.specs.declared.units.UnitSpec.{UnitSpec}
use Rattle.call_verdict.specs.Words.{is_name, units_in}
use Rattle.dix_run.specs.Grammar.{big_of, big_with, command_in, format_of, format_with, is_one_name, modes_of, modes_with, on_image}
use Rattle.script_words.specs.Decimals.{number_in}
use Rattle.call_verdict.specs.Units.{type_in}
use Rattle.dix_run.specs.declared.command.Command.{Command}
use Rattle.dix_run.specs.declared.command.Command.TheVariants.{Run, Trace, Format, Migrate, Mirror, Scrub, Nvme, Big}
use Rattle.rig_discovery.proofs.Devices.{second_true}

on_image_not : (c : Command) (words : List (List ℕ)) (us : List UnitSpec) → (c ≡ Format us → ⊥) → on_image c words ≡ Some (Format us) → ⊥
on_image_not c words us n e = by (is_one_name words) e
  where
    by : (b : Bool) → (if b then Some c else None) ≡ Some (Format us) → ⊥
    by true e = n (cc)
    by false e = cc

with_layout : (x : Option (List UnitSpec)) (us : List UnitSpec) → format_with x ≡ Some (Format us) → is_layout us ≡ true
with_layout None us e = absurd (cc)
with_layout (Some vs) us e = by (is_layout vs) refl e
  where
    by : (b : Bool) → is_layout vs ≡ b → (if b then Some (Format vs) else None) ≡ Some (Format us) → is_layout us ≡ true
    by true p e = let k : vs ≡ us = cc in ap is_layout (sym k) ∙ p
    by false p e = absurd (cc)

format_layout : (words : List (List ℕ)) (us : List UnitSpec) → format_of words ≡ Some (Format us) → is_layout us ≡ true
format_layout [] us e = absurd (cc)
format_layout (image ∷ words) us e = by (is_name image) e
  where
    by : (b : Bool) → (if b then format_with (units_in words) else None) ≡ Some (Format us) → is_layout us ≡ true
    by true e = with_layout (units_in words) us e
    by false e = absurd (cc)

modes_with_not : (x : Option PiType) (us : List UnitSpec) → modes_with x ≡ Some (Format us) → ⊥
modes_with_not None us e = cc
modes_with_not (Some ty) us e = cc

modes_not : (words : List (List ℕ)) (us : List UnitSpec) → modes_of words ≡ Some (Format us) → ⊥
modes_not [] us e = cc
modes_not (t ∷ []) us e = modes_with_not (type_in t) us e
modes_not (t ∷ u ∷ words) us e = cc

big_with_not : (n seed : Option ℕ) (us : List UnitSpec) → big_with n seed ≡ Some (Format us) → ⊥
big_with_not None seed us e = cc
big_with_not (Some n) None us e = cc
big_with_not (Some n) (Some seed) us e = by (leb 1 n && (leb n 1024 && ltb seed (2 ^ 32))) e
  where
    by : (b : Bool) → (if b then Some (Big n seed) else None) ≡ Some (Format us) → ⊥
    by true e = cc
    by false e = cc

big_not : (words : List (List ℕ)) (us : List UnitSpec) → big_of words ≡ Some (Format us) → ⊥
big_not [] us e = cc
big_not (n ∷ []) us e = cc
big_not (n ∷ seed ∷ []) us e = big_with_not (number_in n) (number_in seed) us e
big_not (n ∷ seed ∷ more ∷ words) us e = cc

chain : (a b c d f g h i j : Bool) (words : List (List ℕ)) (us : List UnitSpec) →
    (if a then on_image Run words
    else (if b then on_image Trace words
    else (if c then format_of words
    else (if d then on_image Migrate words
    else (if f then on_image Mirror words
    else (if g then on_image Scrub words
    else (if h then on_image Nvme words
    else (if i then modes_of words
    else (if j then big_of words
    else None))))))))) ≡ Some (Format us) → is_layout us ≡ true
chain true b c d f g h i j words us e = absurd (on_image_not Run words us (λ k. cc) e)
chain false true c d f g h i j words us e = absurd (on_image_not Trace words us (λ k. cc) e)
chain false false true d f g h i j words us e = format_layout words us e
chain false false false true f g h i j words us e = absurd (on_image_not Migrate words us (λ k. cc) e)
chain false false false false true g h i j words us e = absurd (on_image_not Mirror words us (λ k. cc) e)
chain false false false false false true h i j words us e = absurd (on_image_not Scrub words us (λ k. cc) e)
chain false false false false false false true i j words us e = absurd (on_image_not Nvme words us (λ k. cc) e)
chain false false false false false false false true j words us e = absurd (modes_not words us e)
chain false false false false false false false false true words us e = absurd (big_not words us e)
chain false false false false false false false false false words us e = absurd (cc)

pub layout_in : (words : List (List ℕ)) (us : List UnitSpec) → command_in words ≡ Some (Format us) → is_layout us ≡ true
layout_in [] us e = absurd (cc)
layout_in (verb ∷ words) us e =
    chain (bytes_eq verb (codes "run")) (bytes_eq verb (codes "trace")) (bytes_eq verb (codes "format")) (bytes_eq verb (codes "migrate")) (bytes_eq verb (codes "mirror")) (bytes_eq verb (codes "scrub")) (bytes_eq verb (codes "nvme"))
    (bytes_eq verb (codes "modes")) (bytes_eq verb (codes "big")) words us e

pub few_units : (us : List UnitSpec) → is_layout us ≡ true → length us ≤ 8
few_units us e = leb-true (length us) 8 (second_true _ (leb (length us) 8) _ e)

-- ---- Words of `big` have at most so many ops.

none_big : (c : Command) (words : List (List ℕ)) (n seed : ℕ) → (c ≡ Big n seed → ⊥) → on_image c words ≡ Some (Big n seed) → ⊥
none_big c words n seed isnt e = by (is_one_name words) e
  where
    by : (b : Bool) → (if b then Some c else None) ≡ Some (Big n seed) → ⊥
    by true e = isnt (cc)
    by false e = cc

layout_not : (us : List UnitSpec) (n seed : ℕ) → (if is_layout us then Some (Format us) else None) ≡ Some (Big n seed) → ⊥
layout_not us n seed e = by (is_layout us) e
  where
    by : (b : Bool) → (if b then Some (Format us) else None) ≡ Some (Big n seed) → ⊥
    by true e = cc
    by false e = cc

format_with_not : (x : Option (List UnitSpec)) (n seed : ℕ) → format_with x ≡ Some (Big n seed) → ⊥
format_with_not None n seed e = cc
format_with_not (Some us) n seed e = layout_not us n seed e

format_not : (words : List (List ℕ)) (n seed : ℕ) → format_of words ≡ Some (Big n seed) → ⊥
format_not [] n seed e = cc
format_not (image ∷ words) n seed e = by (is_name image) e
  where
    by : (b : Bool) → (if b then format_with (units_in words) else None) ≡ Some (Big n seed) → ⊥
    by true e = format_with_not (units_in words) n seed e
    by false e = cc

modes_with_big : (x : Option PiType) (n seed : ℕ) → modes_with x ≡ Some (Big n seed) → ⊥
modes_with_big None n seed e = cc
modes_with_big (Some ty) n seed e = cc

modes_big : (words : List (List ℕ)) (n seed : ℕ) → modes_of words ≡ Some (Big n seed) → ⊥
modes_big [] n seed e = cc
modes_big (t ∷ []) n seed e = modes_with_big (type_in t) n seed e
modes_big (t ∷ u ∷ words) n seed e = cc

few_with : (x y : Option ℕ) (n seed : ℕ) → big_with x y ≡ Some (Big n seed) → n ≤ 1024
few_with None y n seed e = absurd (cc)
few_with (Some k) None n seed e = absurd (cc)
few_with (Some k) (Some s) n seed e = by (leb 1 k && (leb k 1024 && ltb s (2 ^ 32))) refl e
  where
    by : (b : Bool) → (leb 1 k && (leb k 1024 && ltb s (2 ^ 32))) ≡ b → (if b then Some (Big k s) else None) ≡ Some (Big n seed) → n ≤ 1024
    by true p e = let same : k ≡ n = cc in let l = leb-true k 1024 (second_true (leb 1 k) (leb k 1024) (ltb s (2 ^ 32)) p) in omega (arith, same, l)
    by false p e = absurd (cc)

few_of : (words : List (List ℕ)) (n seed : ℕ) → big_of words ≡ Some (Big n seed) → n ≤ 1024
few_of [] n seed e = absurd (cc)
few_of (k ∷ []) n seed e = absurd (cc)
few_of (k ∷ s ∷ []) n seed e = few_with (number_in k) (number_in s) n seed e
few_of (k ∷ s ∷ more ∷ words) n seed e = absurd (cc)

few_chain : (a b c d f g h i j : Bool) (words : List (List ℕ)) (n seed : ℕ) →
    (if a then on_image Run words
    else (if b then on_image Trace words
    else (if c then format_of words
    else (if d then on_image Migrate words
    else (if f then on_image Mirror words
    else (if g then on_image Scrub words
    else (if h then on_image Nvme words
    else (if i then modes_of words
    else (if j then big_of words
    else None))))))))) ≡ Some (Big n seed) → n ≤ 1024
few_chain true b c d f g h i j words n seed e = absurd (none_big Run words n seed (λ k. cc) e)
few_chain false true c d f g h i j words n seed e = absurd (none_big Trace words n seed (λ k. cc) e)
few_chain false false true d f g h i j words n seed e = absurd (format_not words n seed e)
few_chain false false false true f g h i j words n seed e = absurd (none_big Migrate words n seed (λ k. cc) e)
few_chain false false false false true g h i j words n seed e = absurd (none_big Mirror words n seed (λ k. cc) e)
few_chain false false false false false true h i j words n seed e = absurd (none_big Scrub words n seed (λ k. cc) e)
few_chain false false false false false false true i j words n seed e = absurd (none_big Nvme words n seed (λ k. cc) e)
few_chain false false false false false false false true j words n seed e = absurd (modes_big words n seed e)
few_chain false false false false false false false false true words n seed e = few_of words n seed e
few_chain false false false false false false false false false words n seed e = absurd (cc)

pub few_ops : (words : List (List ℕ)) (n seed : ℕ) → command_in words ≡ Some (Big n seed) → n ≤ 1024
few_ops [] n seed e = absurd (cc)
few_ops (verb ∷ words) n seed e =
    few_chain (bytes_eq verb (codes "run")) (bytes_eq verb (codes "trace")) (bytes_eq verb (codes "format")) (bytes_eq verb (codes "migrate")) (bytes_eq verb (codes "mirror")) (bytes_eq verb (codes "scrub")) (bytes_eq verb (codes "nvme"))
    (bytes_eq verb (codes "modes")) (bytes_eq verb (codes "big")) words n seed e

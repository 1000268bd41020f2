-- The stored blocks that are found in an image of bytes are of bytes.
use Rattle.std.specs.Prelude.{ℕ, zero, suc, ◌≡◌, ◌<◌, List, [], ◌∷◌, take, drop, All, Option, Some, None}
use Rattle.std.proofs.Common.{subst}
use Rattle.std.proofs.lemmas.Option.{same_Some}
use Rattle.std.proofs.lemmas.List.Elements.{All-nil, All-cons, All-take, All-drop}
use Rattle.dix_base.specs.Told.{AreOctets}
use Rattle.rig_api.specs.Frames.{frames_of, stored_size}
use Rattle.rig_api.specs.Headers.{bytes_of}
use Rattle.rig_api.specs.Image.{units_from}
use Rattle.rig_api.specs.Target.{Stored}
use Rattle.rig_api.specs.declared.units.UnitSpec.{UnitSpec}
use Rattle.rig_api.specs.Telling.{Standing, specs_of, units_told}

frames_octets : (len n : ℕ) (bytes : List ℕ) → All (λ x. x < 256) bytes → All (All (λ x. x < 256)) (frames_of len n bytes)
frames_octets len zero bytes h = All-nil (All (λ (x : ℕ). x < 256))
frames_octets len (suc n) bytes h =
    All-cons (All (λ (x : ℕ). x < 256)) (take len bytes) (frames_of len n (drop len bytes)) (All-take (λ (x : ℕ). x < 256) len bytes h) (frames_octets len n (drop len bytes) (All-drop (λ (x : ℕ). x < 256) len bytes h))

units_octets : (us : List UnitSpec) (bytes : List ℕ) → All (λ x. x < 256) bytes → All (λ (u : Stored). All (All (λ x. x < 256)) u.blocks) (units_from us bytes)
units_octets [] bytes h = All-nil (λ (u : Stored). All (All (λ (x : ℕ). x < 256)) u.blocks)
units_octets (u ∷ us) bytes h =
    All-cons (λ (u : Stored). All (All (λ (x : ℕ). x < 256)) u.blocks) _ (units_from us (drop (bytes_of u) bytes)) (frames_octets (stored_size u.ty u.size) u.blocks bytes h) (units_octets us (drop (bytes_of u) bytes) (All-drop (λ (x : ℕ). x < 256) (bytes_of u) bytes h))

-- The stored blocks that are found in an image of bytes are of bytes.
pub told_octets : (s : Standing) (image : Option (List ℕ)) (us : List Stored) → AreOctets image → units_told s image ≡ Some us → All (λ (u : Stored). All (All (λ x. x < 256)) u.blocks) us
told_octets s None us h e = cc e
told_octets s (Some bytes) us h e =
    subst (All (λ (u : Stored). All (All (λ (x : ℕ). x < 256)) u.blocks)) (same_Some _ _ e) (units_octets (specs_of s) (drop 512 bytes) (All-drop (λ (x : ℕ). x < 256) 512 bytes h))

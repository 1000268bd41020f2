-- Buffers that are filled piece by piece.
use Rattle.std.proofs.Common.{◌≡◌, ℕ, zero, suc, ◌+◌, ◌-◌, ◌*◌, ◌<◌, ◌≤◌, List, ◌++◌, length, take, drop, ap, sym, ◌∙◌, arith, append_assoc}
use Rattle.std.proofs.lemmas.List.{append-nil, length-drop, length-take-le}
use Rattle.pi_tuple.specs.declared.checks.PiType.{PiType}
use Rattle.nvme_front.specs.Buffers.{frames_out, parts, tuple_for}
use Rattle.nvme_front.specs.declared.command.NvmCommand.{NvmCommand}

pub left-more : (k n : ℕ) → k < n → n - k ≡ suc (n - (k + 1))
left-more k n h = omega arith

pub room-more : (k n w : ℕ) → k < n → (n - k) * w ≡ w + (n - (k + 1)) * w
room-more k n w h = ap (λ m. m * w) (left-more k n h) ∙ again (n - (k + 1)) w
  where
    again : (m w : ℕ) → suc m * w ≡ w + m * w
    again m w = omega arith

pub long-front : (w m k n : ℕ) (xs : List ℕ) → k < n → length xs ≡ (n - k) * w → (length (take w xs) ≡ w) × (length (drop w xs) ≡ (n - (k + 1)) * w)
long-front w m k n xs h l =
    let r = room-more k n w h in
    let d = length-drop w xs in
    (length-take-le w xs (omega (arith, r, l)), omega (arith, r, l, d))

-- ---- parts of frames

pub part-long : (width from len : ℕ) (frame : List ℕ) → from + len ≤ width → length frame ≡ width → length (take len (drop from frame)) ≡ len
part-long width from len frame h l = let d = length-drop from frame in length-take-le len (drop from frame) (omega (arith, d, h, l))

pub parts-more : (width from len k n at end : ℕ) (into into' rest piece whole : List ℕ) → k < n → take end into' ≡ take at into ++ piece → piece ≡ take len (drop from (take width rest)) →
    take at into ++ parts width from len (n - k) rest ≡ whole → take end into' ++ parts width from len (n - (k + 1)) (drop width rest) ≡ whole
parts-more width from len k n at end into into' rest piece whole h p e so_far =
    ap (λ x. x ++ parts width from len (n - (k + 1)) (drop width rest)) (p ∙ ap (λ x. take at into ++ x) e)
    ∙ append_assoc (take at into) (take len (drop from (take width rest))) (parts width from len (n - (k + 1)) (drop width rest))
    ∙ ap (λ m. take at into ++ parts width from len m rest) (sym (left-more k n h))
    ∙ so_far

-- ---- frames of a write

pub frames-more : (ty : PiType) (c : NvmCommand) (size k n at mid end : ℕ) (frames frames' frames'' bytes tuples block tuple whole : List ℕ) → k < n → take mid frames' ≡ take at frames ++ block → take end frames'' ≡ take mid frames' ++ tuple →
    block ≡ take size bytes → tuple ≡ tuple_for ty c k (take size bytes) (take 8 tuples) →
    take at frames ++ frames_out ty c size k (n - k) bytes tuples ≡ whole → take end frames'' ++ frames_out ty c size (k + 1) (n - (k + 1)) (drop size bytes) (drop 8 tuples) ≡ whole
frames-more ty c size k n at mid end frames frames' frames'' bytes tuples block tuple whole h p q e f so_far =
    ap (λ x. x ++ frames_out ty c size (k + 1) (n - (k + 1)) (drop size bytes) (drop 8 tuples)) (q ∙ ap (λ x. x ++ tuple) p)
    ∙ append_assoc (take at frames ++ block) tuple (frames_out ty c size (k + 1) (n - (k + 1)) (drop size bytes) (drop 8 tuples))
    ∙ append_assoc (take at frames) block (tuple ++ frames_out ty c size (k + 1) (n - (k + 1)) (drop size bytes) (drop 8 tuples))
    ∙ ap (λ x. take at frames ++ (x ++ (tuple ++ frames_out ty c size (k + 1) (n - (k + 1)) (drop size bytes) (drop 8 tuples)))) e
    ∙ ap (λ x. take at frames ++ (take size bytes ++ (x ++ frames_out ty c size (k + 1) (n - (k + 1)) (drop size bytes) (drop 8 tuples)))) f
    ∙ ap (λ m. take at frames ++ frames_out ty c size k m bytes tuples) (sym (left-more k n h))
    ∙ so_far

pub frames-all : (ty : PiType) (c : NvmCommand) (size k n at w : ℕ) (frames bytes tuples whole : List ℕ) → n ≤ k → at + (n - k) * w ≡ n * w → take at frames ++ frames_out ty c size k (n - k) bytes tuples ≡ whole → take (n * w) frames ≡ whole
frames-all ty c size k n at w frames bytes tuples whole h l so_far =
    let z : n - k ≡ zero = omega arith in
    let e : n * w ≡ at = sym l ∙ ap (λ m. at + m * w) z ∙ none at w in
    ap (λ i. take i frames) e ∙ sym (ap (λ m. take at frames ++ frames_out ty c size k m bytes tuples) z ∙ append-nil (take at frames)) ∙ so_far
  where
    none : (at w : ℕ) → at + zero * w ≡ at
    none at w = omega arith

-- How blocks are made of pieces, one after another.
use Rattle.std.proofs.Common.{◌≡◌, ℕ, ◌+◌, ◌-◌, ◌*◌, ◌<◌, List, ◌∷◌, ◌++◌, length, take, drop, refl, sym, ap, ◌∙◌, arith, append_assoc, length-append}
use Rattle.std.proofs.lemmas.List.{drop-drop, length-drop, drop_at}
use Rattle.pi_tuple.specs.declared.checks.PiType.{PiType}
use Rattle.rig_api.specs.Frames.{frames_of, joined, stored_size}
use Rattle.target_model.proofs.Bytes.{front_is}
use Rattle.image_text.specs.declared.layout.Layout.{Layout}
use Rattle.image_text.specs.Dumps.{imported, imported_block, piece_len}
use Rattle.image_text.proofs.Frames.{less_one, next_frame}
use Rattle.small_laws.proofs.Numbers.{next_block}

-- what stands in the room: blocks that are made, and behind them those that are left as they were; and the pieces that are left
pub record Made (layout : Layout) (ty : PiType) (size first count i : ℕ) (pieces rest blocks now : List ℕ) : Type 0 where
  pub done : List ℕ
  pub split : now ≡ done ++ drop (i * stored_size ty size) blocks
  pub long : length done ≡ i * stored_size ty size
  pub held : length rest ≡ (count - i) * piece_len layout ty size
  pub all : done ++ joined (imported layout ty size (first + i) (frames_of (stored_size ty size) (count - i) (drop (i * stored_size ty size) blocks)) (frames_of (piece_len layout ty size) (count - i) rest))
      ≡ joined (imported layout ty size first (frames_of (stored_size ty size) count blocks) (frames_of (piece_len layout ty size) count pieces))

-- the next block, and the others
next_joined : (layout : Layout) (ty : PiType) (size lba len each n : ℕ) (bs ps : List ℕ) → 0 < n →
    joined (imported layout ty size lba (frames_of len n bs) (frames_of each n ps))
    ≡ imported_block layout ty size lba (take len bs) (take each ps) ++ joined (imported layout ty size (lba + 1) (frames_of len (n - 1) (drop len bs)) (frames_of each (n - 1) (drop each ps)))
next_joined layout ty size lba len each n bs ps h =
    ap (λ v. joined (imported layout ty size lba v (frames_of each n ps))) (next_frame len n bs h)
    ∙ ap (λ v. joined (imported layout ty size lba (take len bs ∷ frames_of len (n - 1) (drop len bs)) v)) (next_frame each n ps h)

pub made_next : (layout : Layout) (ty : PiType) (size first count i : ℕ) (pieces rest blocks now new : List ℕ) → i < count → Made layout ty size first count i pieces rest blocks now →
    new ≡ imported_block layout ty size (first + i) (take (stored_size ty size) (drop (i * stored_size ty size) now)) (take (piece_len layout ty size) rest) → length new ≡ stored_size ty size →
    Made layout ty size first count (i + 1) pieces (drop (piece_len layout ty size) rest) blocks (take (i * stored_size ty size) now ++ (new ++ drop (stored_size ty size) (drop (i * stored_size ty size) now)))
made_next layout ty size first count i pieces rest blocks now new h m e l =
    let len = stored_size ty size in
    let each = piece_len layout ty size in
    let d : List ℕ = drop (i * len) blocks in
    let off : drop (i * len) now ≡ d = ap (drop (i * len)) m.split ∙ drop_at m.done d (i * len) m.long in
    let on : take (i * len) now ≡ m.done = ap (take (i * len)) m.split ∙ front_is (i * len) m.done d m.done refl m.long in
    let more = next_block i len in
    let less = less_one (count - i) each (omega arith) in
    let left : count - i - 1 ≡ count - (i + 1) = omega arith in
    let behind : drop len d ≡ drop ((i + 1) * len) blocks = drop-drop len (i * len) blocks ∙ ap (λ n. drop n blocks) (sym more) in
    let is : new ≡ imported_block layout ty size (first + i) (take len d) (take each rest) = e ∙ ap (λ v. imported_block layout ty size (first + i) (take len v) (take each rest)) off in
    let k = length-append m.done new in
    let r = length-drop each rest in
    let p = m.held in
    let q = m.long in
    record {
      done = m.done ++ new;
      split = ap (λ v. v ++ (new ++ drop len (drop (i * len) now))) on ∙ ap (λ v. m.done ++ (new ++ v)) (ap (drop len) off ∙ behind) ∙ sym (append_assoc m.done new (drop ((i + 1) * len) blocks));
      long = omega arith;
      held = let c : (count - i - 1) * each ≡ (count - (i + 1)) * each = ap (λ n. n * each) left in omega arith;
      all =
          append_assoc m.done new _
          ∙ ap (λ v. m.done ++ (v ++ joined (imported layout ty size (first + (i + 1)) (frames_of len (count - (i + 1)) (drop ((i + 1) * len) blocks)) (frames_of each (count - (i + 1)) (drop each rest))))) is
          ∙ ap (λ v. m.done ++ (imported_block layout ty size (first + i) (take len d) (take each rest) ++ joined (imported layout ty size (first + (i + 1)) (frames_of len (count - (i + 1)) v) (frames_of each (count - (i + 1)) (drop each rest))))) (sym behind)
          ∙ ap (λ n. m.done ++ (imported_block layout ty size (first + i) (take len d) (take each rest) ++ joined (imported layout ty size (first + (i + 1)) (frames_of len n (drop len d)) (frames_of each n (drop each rest))))) (sym left)
          ∙ ap (λ n. m.done ++ (imported_block layout ty size (first + i) (take len d) (take each rest) ++ joined (imported layout ty size n (frames_of len (count - i - 1) (drop len d)) (frames_of each (count - i - 1) (drop each rest))))) (let f : first + (i + 1) ≡ first + i + 1 = omega arith in f)
          ∙ ap (λ v. m.done ++ v) (sym (next_joined layout ty size (first + i) len each (count - i) d rest (omega arith)))
          ∙ m.all;
    }

pub made_on : (layout : Layout) (ty : PiType) (size first count i m e : ℕ) (pieces rest piece more blocks now head behind block tail new : List ℕ) → i < count → m ≡ stored_size ty size → e ≡ piece_len layout ty size →
    Made layout ty size first count i pieces rest blocks now → head ≡ take (i * m) now → behind ≡ drop (i * m) now → block ≡ take m behind → tail ≡ drop m behind → piece ≡ take e rest → more ≡ drop e rest →
    new ≡ imported_block layout ty size (first + i) block piece → length new ≡ length block → length block ≡ m → Made layout ty size first count (i + 1) pieces more blocks (head ++ (new ++ tail))
made_on layout ty size first count i m e pieces rest piece more blocks now head behind block tail new h lm le made a b c d p r is ln lb =
    let own : block ≡ take (stored_size ty size) (drop (i * stored_size ty size) now) = c ∙ ap (take m) b ∙ ap (λ k. take k (drop (i * k) now)) lm in
    let its : piece ≡ take (piece_len layout ty size) rest = p ∙ ap (λ k. take k rest) le in
    rw (d, a, b, r, lm, le)
    (made_next layout ty size first count i pieces rest blocks now new h made
    (is ∙ ap (λ v. imported_block layout ty size (first + i) v piece) own ∙ ap (λ v. imported_block layout ty size (first + i) (take (stored_size ty size) (drop (i * stored_size ty size) now)) v) its) (ln ∙ lb ∙ lm))

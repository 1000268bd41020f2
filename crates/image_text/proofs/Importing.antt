-- How an import goes on, stretch by stretch, and how it ends.
use Rattle.std.proofs.Common.{◌≡◌, ℕ, zero, suc, ◌+◌, ◌-◌, ◌*◌, ◌<◌, ◌≤◌, List, [], ◌∷◌, ◌++◌, length, take, drop, Option, Some, None, refl, sym, ap, subst, ◌∙◌, arith, append_assoc, append-nil, length-append}
use Rattle.std.specs.Prelude.{min, Err}
use Rattle.dix_base.specs.Told.{Took}
use Rattle.rig_api.specs.Telling.{unit_at}
use Rattle.rig_api.specs.Frames.{joined, stored_size}
use Rattle.rig_api.specs.Headers.{all_bytes, bytes_of}
use Rattle.rig_api.specs.Image.{units_from, units_in}
use Rattle.rig_api.specs.Target.{Stored}
use Rattle.rig_api.specs.declared.units.UnitSpec.{UnitSpec}
use Rattle.rig_api.proofs.FrameLaws.{joined_append, frames_length}
use Rattle.target_model.specs.Served.{AllLong}
use Rattle.dix_base.proofs.Counts.{rose_later}
use Rattle.target_model.proofs.Bytes.{long_both}
use Rattle.image_rig.specs.LayoutPlaces.{block_len}
use Rattle.image_rig.proofs.Units.{unit_found}
use Rattle.image_blocks.specs.declared.stretch.Stretch.{Stretch}
use Rattle.image_blocks.specs.Blocks.{blocks_at, with_stretch}
use Rattle.image_blocks.specs.Places.{IsStretch, behind_in, front_in, spec_of}
use Rattle.image_text.specs.declared.layout.Layout.{Layout}
use Rattle.image_text.specs.declared.dumps_fault.ImportFault.{ImportFault}
use Rattle.image_text.specs.declared.dumps_fault.ImportFault.TheVariants.{Short, Long, Store, Source}
use Rattle.image_text.specs.Dumps.{imported, piece_len}
use Rattle.image_text.specs.Ends.{ArePieces, HasTaken, IsShort, IsUnread, IsUnstored, TakingEnds, behind_pieces, imported_in}
use Rattle.dix_base.proofs.Taking.{took_more, took_none}
use Rattle.image_text.proofs.Putting.{put_twice, with_none}

pub length_units : (us : List UnitSpec) (b : List ℕ) → length (units_from us b) ≡ length us
length_units [] b = refl
length_units (u ∷ us) b = ap suc (length_units us (drop (bytes_of u) b))

pub imported_nothing : (layout : Layout) (us : List UnitSpec) (s : Stretch) (found : List Stored) → imported_in layout us s found [] ≡ []
imported_nothing layout us s found = none (blocks_at found s)
  where
    none : (bs : List (List ℕ)) → imported layout (spec_of us s.dev).ty (spec_of us s.dev).size s.first bs [] ≡ []
    none [] = refl
    none (b ∷ bs) = refl

-- pieces of another run stand behind those of the first
further_put : (layout : Layout) (us : List UnitSpec) (s : Stretch) (most : ℕ) (ps qs others : List (List ℕ)) (a b c : Option (List ℕ)) → IsStretch us s → length ps + length qs ≤ s.count → length qs ≤ min (s.count - length ps) most →
    ArePieces layout us s ps [] a b → ArePieces layout us (front_in (behind_in s (length ps)) most) qs others b c → ArePieces layout us s (ps ++ qs) others a c
further_put layout us s most ps qs others None None None h n m p q = tt
further_put layout us s most ps qs others None None (Some c) h n m p q = q
further_put layout us s most ps qs others None (Some b) c h n m p q = absurd p
further_put layout us s most ps qs others (Some a) None c h n m p q = absurd p
further_put layout us s most ps qs others (Some a) (Some b) None h n m p q = q
further_put layout us s most ps qs others (Some a) (Some b) (Some c) h n m p q =
    let found : List Stored = units_in us a in
    let f = unit_found us (drop 512 a) s.dev h.device in
    let first : (unit_at found s.dev).first ≡ (spec_of us s.dev).first = ap (λ (v : Stored). v.first) f in
    let blocks : length (unit_at found s.dev).blocks ≡ (spec_of us s.dev).blocks =
    ap (λ (v : Stored). length v.blocks) f ∙ frames_length (stored_size (spec_of us s.dev).ty (spec_of us s.dev).size) (spec_of us s.dev).blocks (drop (all_bytes (take s.dev us)) (drop 512 a)) in
    let low = h.first in
    let high = h.last in
    let dev = h.device in
    let few = length_units us (drop 512 a) in
    q
    ∙ ap (λ (v : List Stored). with_stretch v (front_in (behind_in s (length ps)) most) (imported_in layout us (front_in (behind_in s (length ps)) most) v qs ++ others))
    (p ∙ ap (λ v. with_stretch found s v) (append-nil (imported_in layout us s found ps)))
    ∙ put_twice layout us found s (min (s.count - length ps) most) ps qs others (omega arith) (omega arith) (omega arith) n m

still_put : (layout : Layout) (us : List UnitSpec) (s : Stretch) (x : Option (List ℕ)) → ArePieces layout us s [] [] x x
still_put layout us s None = tt
still_put layout us s (Some x) =
    sym (ap (λ v. with_stretch (units_in us x) s (v ++ [])) (imported_nothing layout us s (units_in us x)) ∙ with_none (units_in us x) s)

-- nothing came
pub taken_none : (layout : Layout) (us : List UnitSpec) (s : Stretch) (x l : Option (List ℕ)) → HasTaken layout us s 0 [] [] x x l l
taken_none layout us s x l = record { pieces = []; many = refl; long = tt; taken = took_none l; put = still_put layout us s x }

-- bytes came, and no piece is stored
pub taken_bytes : (layout : Layout) (us : List UnitSpec) (s : Stretch) (bytes : List ℕ) (x y l m : Option (List ℕ)) → y ≡ x → Took bytes l m → HasTaken layout us s 0 bytes [] x y l m
taken_bytes layout us s bytes x y l m e t = record { pieces = []; many = refl; long = tt; taken = t; put = subst (λ v. ArePieces layout us s [] [] x v) (sym e) (still_put layout us s x) }

-- bytes came behind the pieces
pub taken_more : (layout : Layout) (us : List UnitSpec) (s : Stretch) (n : ℕ) (more : List ℕ) (x y l m r : Option (List ℕ)) → HasTaken layout us s n [] [] x y l m → Took more m r → HasTaken layout us s n more [] x y l r
taken_more layout us s n more x y l m r h t = record {
  pieces = h.pieces;
  many = h.many;
  long = h.long;
  taken = subst (λ v. Took v l r) (ap (λ v. v ++ more) (append-nil (joined h.pieces))) (took_more (joined h.pieces ++ []) more l m r h.taken t);
  put = h.put;
}

-- the pieces of another run came
taken_on : (layout : Layout) (us : List UnitSpec) (s : Stretch) (most n k : ℕ) (more : List ℕ) (others : List (List ℕ)) (a b c l m r : Option (List ℕ)) → IsStretch us s → n + k ≤ s.count → k ≤ min (s.count - n) most →
    HasTaken layout us s n [] [] a b l m → HasTaken layout us (front_in (behind_in s n) most) k more others b c m r → HasTaken layout us s (n + k) more others a c l r
taken_on layout us s most n k more others a b c l m r h f g p q =
    let i = p.many in
    let j = q.many in
    let both = length-append p.pieces q.pieces in
    record {
      pieces = p.pieces ++ q.pieces;
      many = omega arith;
      long = long_both (piece_len layout (spec_of us s.dev).ty (spec_of us s.dev).size) p.pieces q.pieces p.long q.long;
      taken = subst (λ v. Took v l r) (ap (λ v. v ++ (joined q.pieces ++ more)) (append-nil (joined p.pieces)) ∙ sym (append_assoc (joined p.pieces) (joined q.pieces) more) ∙ ap (λ v. v ++ more) (sym (joined_append p.pieces q.pieces)))
          (took_more (joined p.pieces ++ []) (joined q.pieces ++ more) l m r p.taken q.taken);
      put = further_put layout us s most p.pieces q.pieces others a b c h (omega arith) (omega arith) p.put (subst (λ v. ArePieces layout us (front_in (behind_in s v) most) q.pieces others b c) (sym i) q.put);
    }

-- The pieces of the first blocks came, and these are left.
pub record SoFar (layout : Layout) (us : List UnitSpec) (s left : Stretch) (n : ℕ) (a b l m : Option (List ℕ)) : Type 0 where
  pub behind : left ≡ behind_in s n
  pub few : n + left.count ≡ s.count
  pub has : HasTaken layout us s n [] [] a b l m

pub at_first : (layout : Layout) (us : List UnitSpec) (s : Stretch) (x l : Option (List ℕ)) → SoFar layout us s s 0 x x l l
at_first layout us s x l =
    let a : s.first + 0 ≡ s.first = omega arith in
    let b : s.count - 0 ≡ s.count = omega arith in
    record { behind = rw (a, b) refl; few = omega arith; has = taken_none layout us s x l }

part_taken : (layout : Layout) (us : List UnitSpec) (s left piece : Stretch) (most n k : ℕ) (more : List ℕ) (others : List (List ℕ)) (a b c l m r : Option (List ℕ)) → IsStretch us s → piece ≡ front_in left most → k ≤ piece.count →
    SoFar layout us s left n a b l m → HasTaken layout us piece k more others b c m r → HasTaken layout us s (n + k) more others a c l r
part_taken layout us s left piece most n k more others a b c l m r h e f p q =
    let is : piece ≡ front_in (behind_in s n) most = e ∙ ap (λ v. front_in v most) p.behind in
    let count : piece.count ≡ min (s.count - n) most = ap (λ (v : Stretch). v.count) is in
    let all = p.few in
    let left_count : left.count ≡ s.count - n = ap (λ (v : Stretch). v.count) p.behind in
    taken_on layout us s most n k more others a b c l m r h (omega arith) (omega arith) p.has (subst (λ v. HasTaken layout us v k more others b c m r) is q)

pub goes_on : (layout : Layout) (us : List UnitSpec) (s left piece next : Stretch) (most n k : ℕ) (a b c l m r : Option (List ℕ)) → IsStretch us s → piece ≡ front_in left most → next ≡ behind_in left piece.count → k ≡ piece.count →
    SoFar layout us s left n a b l m → HasTaken layout us piece k [] [] b c m r → SoFar layout us s next (n + k) a c l r
goes_on layout us s left piece next most n k a b c l m r h e f g p q =
    let c1 : piece.count ≡ min left.count most = ap (λ (v : Stretch). v.count) e in
    let c2 : next.count ≡ left.count - piece.count = ap (λ (v : Stretch). v.count) f in
    let few = p.few in
    let first : s.first + n + k ≡ s.first + (n + k) = omega arith in
    let count : s.count - n - k ≡ s.count - (n + k) = omega arith in
    record {
      behind = f ∙ ap (λ i. behind_in left i) (sym g) ∙ ap (λ v. behind_in v k) p.behind ∙ (rw (first, count) refl);
      few = omega arith;
      has = part_taken layout us s left piece most n k [] [] a b c l m r h e (omega arith) p q;
    }

-- of a run only some pieces came
pub short_on : (layout : Layout) (us : List UnitSpec) (s left piece : Stretch) (most n k : ℕ) (a b c l m r : Option (List ℕ)) → IsStretch us s → piece ≡ front_in left most → SoFar layout us s left n a b l m → IsShort layout us piece k b c m r → IsShort layout us s (n + k) a c l r
short_on layout us s left piece most n k a b c l m r h e p q =
    let c1 : piece.count ≡ min left.count most = ap (λ (v : Stretch). v.count) e in
    let dev : piece.dev ≡ s.dev = ap (λ (v : Stretch). v.dev) e ∙ ap (λ (v : Stretch). v.dev) p.behind in
    let few = p.few in
    let less = q.few in
    record {
      more = q.more;
      few = omega arith;
      less = subst (λ d. length q.more < piece_len layout (spec_of us d).ty (spec_of us d).size) dev q.less;
      has = part_taken layout us s left piece most n k q.more [] a b c l m r h e (omega arith) p q.has;
      end = q.end;
    }

unread_on : (layout : Layout) (us : List UnitSpec) (s left piece : Stretch) (most n : ℕ) (a b c l m r : Option (List ℕ)) → IsStretch us s → piece ≡ front_in left most → SoFar layout us s left n a b l m → IsUnread layout us piece b c m r → IsUnread layout us s a c l r
unread_on layout us s left piece most n a b c l m r h e p q =
    let c1 : piece.count ≡ min left.count most = ap (λ (v : Stretch). v.count) e in
    let few = p.few in
    let less = q.few in
    record { n = n + q.n; more = q.more; few = omega arith; has = part_taken layout us s left piece most n q.n q.more [] a b c l m r h e q.few p q.has }

unstored_on : (layout : Layout) (us : List UnitSpec) (s left piece : Stretch) (most n room all : ℕ) (a b c l m r : Option (List ℕ)) → IsStretch us s → piece ≡ front_in left most → room ≤ all → SoFar layout us s left n a b l m →
    IsUnstored layout us piece room b c m r → IsUnstored layout us s all a c l r
unstored_on layout us s left piece most n room all a b c l m r h e f p q =
    let c1 : piece.count ≡ min left.count most = ap (λ (v : Stretch). v.count) e in
    let dev : piece.dev ≡ s.dev = ap (λ (v : Stretch). v.dev) e ∙ ap (λ (v : Stretch). v.dev) p.behind in
    let few = p.few in
    let less = q.few in
    let held = subst (λ d. length q.others * block_len us d ≤ room) dev q.held in
    record {
      n = n + q.n;
      more = q.more;
      others = q.others;
      few = omega arith;
      held = omega arith;
      long = subst (λ d. AllLong (block_len us d) q.others) dev q.long;
      has = part_taken layout us s left piece most n q.n q.more q.others a b c l m r h e (omega arith) p q.has;
    }

-- What ended the taking of a run's pieces ends that of all.
pub breaks_off : (fault : ImportFault) (layout : Layout) (us : List UnitSpec) (s left piece : Stretch) (most n room all o o' x p p' y : ℕ) (a b c l m r : Option (List ℕ)) → IsStretch us s → piece ≡ front_in left most → room ≤ all → o ≤ o' → p ≤ p' →
    SoFar layout us s left n a b l m → TakingEnds (Err fault) layout us piece room o' x p' y b c m r → TakingEnds (Err (behind_pieces n fault)) layout us s all o x p y a c l r
breaks_off (Short k) layout us s left piece most n room all o o' x p p' y a b c l m r h e f i j t q = short_on layout us s left piece most n k a b c l m r h e t q
breaks_off Long layout us s left piece most n room all o o' x p p' y a b c l m r h e f i j t q = q
breaks_off Store layout us s left piece most n room all o o' x p p' y a b c l m r h e f i j t q = (rose_later o o' x i q.0, unstored_on layout us s left piece most n room all a b c l m r h e f t q.1)
breaks_off Source layout us s left piece most n room all o o' x p p' y a b c l m r h e f i j t q = (rose_later p p' y j q.0, unread_on layout us s left piece most n a b c l m r h e t q.1)

-- ---- the end of the dump

one_byte : (k : ℕ) (buf : List ℕ) → 0 < k → k ≤ 1 → length buf ≡ 1 → (byte : ℕ) × (take k buf ≡ byte ∷ [])
one_byte k [] z h l = absurd (omega arith)
one_byte zero (x ∷ buf) z h l = absurd (omega arith)
one_byte (suc zero) (x ∷ buf) z h l = (x, refl)
one_byte (suc (suc k)) (x ∷ buf) z h l = absurd (omega arith)

pub ended_long : (layout : Layout) (us : List UnitSpec) (s : Stretch) (n k : ℕ) (buf : List ℕ) (a b l m r : Option (List ℕ)) → (n ≡ s.count) × HasTaken layout us s n [] [] a b l m → 0 < k → k ≤ 1 → length buf ≡ 1 → Took (take k buf) m r →
    (byte : ℕ) × HasTaken layout us s s.count (byte ∷ []) [] a b l r
ended_long layout us s n k buf a b l m r h z f e t =
    let one = one_byte k buf z f e in
    (one.0, subst (λ i. HasTaken layout us s i (one.0 ∷ []) [] a b l r) h.0 (taken_more layout us s n (one.0 ∷ []) a b l m r h.1 (subst (λ v. Took v m r) one.1 t)))

-- One more extent of an inner volume's track.
use Rattle.std.proofs.Common.{ℕ, zero, suc, ◌≡◌, ◌+◌, ◌^◌, ◌<◌, ◌≤◌, ◌||◌, ◌&&◌, Bool, true, false, leb, cond, List, [], ◌∷◌, ◌++◌, length, get_or, drop, drop-cons, sym, ap, subst, ◌∙◌, arith, add-one, append_assoc}
use Rattle.std.specs.List.{list_any}
use Rattle.std.proofs.Common.{Result, Ok, Err, OnOk, OnErr}
use Rattle.script_lines.specs.declared.kind.ScriptKind.{ScriptKind}
use Rattle.std.proofs.lemmas.Bool.Decides.{nat_tests}
use Rattle.linear_volume.specs.declared.Linear.{Linear}
use Rattle.volume_tree.specs.Tracks.{FollowsFrom, track_len}
use Rattle.volume_tree.proofs.Following.{follow_push, len_push}
use Rattle.script_text.specs.declared.trees.Inner.{Inner}
use Rattle.std.specs.declared.alloc.Global.{Global}
use Rattle.std.specs.declared.vec.Vec.{Vec}
use Rattle.std.proofs.lemmas.List.{map-append}
use Rattle.std.proofs.lemmas.Bool.{eq-eqb, ne_eqb}
use Rattle.volume_tree.specs.Tracks.{tracks_of}
use Rattle.script_text.specs.Trees.{are_lengths, is_bad_volume, is_length, is_past, track_from, tracks_in}
use Rattle.small_laws.proofs.Tests.{and_first, and_second}

abbrev extent : ℕ → Inner → Linear
extent start i = record { start = start; len = i.len; dev = i.dev; at = i.at }

small : (n : ℕ) → n < 2 ^ 64 → leb (2 ^ 64) n ≡ false
small n h = grind (arith, nat_tests)

next_track : (start volume k : ℕ) (inner : List Inner) (d : Inner) → k < length inner → track_from start volume (drop k inner) ≡ track_from start volume (get_or inner k d ∷ drop (k + 1) inner)
next_track start volume k inner d h = ap (track_from start volume) (drop-cons inner k d h ∙ ap (λ n. get_or inner k d ∷ drop n inner) (sym (add-one k)))

next_past : (volume k : ℕ) (inner : List Inner) (d : Inner) → k < length inner → list_any (is_past volume) (drop k inner) ≡ is_past volume (get_or inner k d) || list_any (is_past volume) (drop (k + 1) inner)
next_past volume k inner d h = ap (list_any (is_past volume)) (drop-cons inner k d h ∙ ap (λ n. get_or inner k d ∷ drop n inner) (sym (add-one k)))

pub take_track : (start volume k : ℕ) (inner : List Inner) (d : Inner) → k < length inner → (get_or inner k d).volume ≡ volume → track_from start volume (drop k inner) ≡ extent start (get_or inner k d) ∷ track_from (start + (get_or inner k d).len) volume (drop (k + 1) inner)
take_track start volume k inner d h n =
    next_track start volume k inner d h ∙ ap (λ b. cond b (extent start (get_or inner k d) ∷ track_from (start + (get_or inner k d).len) volume (drop (k + 1) inner)) (track_from start volume (drop (k + 1) inner))) (eq-eqb (get_or inner k d).volume volume n)

pub skip_track : (start volume k : ℕ) (inner : List Inner) (d : Inner) → k < length inner → ((get_or inner k d).volume ≡ volume → ⊥) → track_from start volume (drop k inner) ≡ track_from start volume (drop (k + 1) inner)
skip_track start volume k inner d h n =
    next_track start volume k inner d h ∙ ap (λ b. cond b (extent start (get_or inner k d) ∷ track_from (start + (get_or inner k d).len) volume (drop (k + 1) inner)) (track_from start volume (drop (k + 1) inner))) (ne_eqb (get_or inner k d).volume volume n)

pub skip_past : (volume k : ℕ) (inner : List Inner) (d : Inner) → k < length inner → ((get_or inner k d).volume ≡ volume → ⊥) → list_any (is_past volume) (drop k inner) ≡ list_any (is_past volume) (drop (k + 1) inner)
skip_past volume k inner d h n =
    next_past volume k inner d h ∙ ap (λ t. t && leb (2 ^ 64) ((get_or inner k d).at + (get_or inner k d).len) || list_any (is_past volume) (drop (k + 1) inner)) (ne_eqb (get_or inner k d).volume volume n)

past_by : (volume k : ℕ) (inner : List Inner) (d : Inner) (b : Bool) → k < length inner → (get_or inner k d).volume ≡ volume → leb (2 ^ 64) ((get_or inner k d).at + (get_or inner k d).len) ≡ b → list_any (is_past volume) (drop k inner) ≡ b || list_any (is_past volume) (drop (k + 1) inner)
past_by volume k inner d b h n e =
    next_past volume k inner d h ∙ ap (λ t. t && leb (2 ^ 64) ((get_or inner k d).at + (get_or inner k d).len) || list_any (is_past volume) (drop (k + 1) inner)) (eq-eqb (get_or inner k d).volume volume n) ∙ ap (λ t. t || list_any (is_past volume) (drop (k + 1) inner)) e

pub take_past : (volume k : ℕ) (inner : List Inner) (d : Inner) → k < length inner → (get_or inner k d).volume ≡ volume → (get_or inner k d).at + (get_or inner k d).len < 2 ^ 64 → list_any (is_past volume) (drop k inner) ≡ list_any (is_past volume) (drop (k + 1) inner)
take_past volume k inner d h n f = past_by volume k inner d false h n (small ((get_or inner k d).at + (get_or inner k d).len) f)

in_length : (i : Inner) → is_length i ≡ true → (1 ≤ i.len) × (i.len ≤ 1048576)
in_length i h = (grind (arith, nat_tests), grind (arith, nat_tests))

pub length_at : (inner : List Inner) (k : ℕ) (d : Inner) → are_lengths inner ≡ true → k < length inner → (1 ≤ (get_or inner k d).len) × ((get_or inner k d).len ≤ 1048576)
length_at [] k d a h = absurd (omega arith)
length_at (i ∷ is) zero d a h = in_length i (and_first (is_length i) (are_lengths is) a)
length_at (i ∷ is) (suc k) d a h = length_at is k d (and_second (is_length i) (are_lengths is) a) (omega arith)

-- one more extent of a track
pub more_follows : (t new : List Linear) (e : Linear) (start : ℕ) → FollowsFrom 0 t → start ≡ track_len t → e.start ≡ start → 1 ≤ e.len → e.len ≤ 1048576 → e.start + e.len < 2 ^ 64 → e.at + e.len < 2 ^ 64 → new ≡ t ++ (e ∷ []) → FollowsFrom 0 new
more_follows t new e start f s b low high fits on n = subst (FollowsFrom 0) (sym n) (follow_push 0 t e f (record { len = (low, high); end = fits; device_end = on }) (omega (arith, b, s)))

pub more_len : (t new : List Linear) (e : Linear) (start : ℕ) → start ≡ track_len t → new ≡ t ++ (e ∷ []) → start + e.len ≡ track_len new
more_len t new e start s n = ap (λ k. k + e.len) s ∙ sym (len_push t e) ∙ sym (ap track_len n)

pub more_track : (t new rest all : List Linear) (e : Linear) → t ++ (e ∷ rest) ≡ all → new ≡ t ++ (e ∷ []) → new ++ rest ≡ all
more_track t new rest all e h n = ap (λ x. x ++ rest) n ∙ append_assoc t (e ∷ []) rest ∙ h

-- one more inner volume
pub next_value : (inner : List Inner) (volumes : List ℕ) (k v : ℕ) (tracks new : List (Vec Linear Global)) (t : Vec Linear Global) → k < length volumes → v ≡ get_or volumes k 0 → new ≡ tracks ++ (t ∷ []) → t.items ≡ track_from 0 v inner
    → tracks_of tracks ++ tracks_in inner (drop k volumes) ≡ tracks_in inner volumes → tracks_of new ++ tracks_in inner (drop (k + 1) volumes) ≡ tracks_in inner volumes
next_value inner volumes k v tracks new t h e n i a =
    let here : tracks_in inner (drop k volumes) ≡ t.items ∷ tracks_in inner (drop (k + 1) volumes) =
    ap (tracks_in inner) (drop-cons volumes k 0 h ∙ ap (λ m. get_or volumes k 0 ∷ drop m volumes) (sym (add-one k))) ∙ ap (λ (x : List Linear). x ∷ tracks_in inner (drop (k + 1) volumes)) (sym (i ∙ ap (λ u. track_from 0 u inner) e)) in
    ap (λ vs. tracks_of vs ++ tracks_in inner (drop (k + 1) volumes)) n ∙ ap (λ x. x ++ tracks_in inner (drop (k + 1) volumes)) (map-append (λ (u : Vec Linear Global). u.items) tracks (t ∷ []))
    ∙ append_assoc (tracks_of tracks) (t.items ∷ []) (tracks_in inner (drop (k + 1) volumes)) ∙ ap (λ x. tracks_of tracks ++ x) (sym here) ∙ a

pub next_bad : (inner : List Inner) (volumes : List ℕ) (k v : ℕ) → k < length volumes → v ≡ get_or volumes k 0 → is_bad_volume inner v ≡ false → list_any (is_bad_volume inner) (drop (k + 1) volumes) ≡ list_any (is_bad_volume inner) (drop k volumes)
next_bad inner volumes k v h e b =
    sym (ap (list_any (is_bad_volume inner)) (drop-cons volumes k 0 h ∙ ap (λ m. get_or volumes k 0 ∷ drop m volumes) (sym (add-one k))) ∙ ap (λ x. x || list_any (is_bad_volume inner) (drop (k + 1) volumes)) (ap (is_bad_volume inner) (sym e) ∙ b))

all_lengths : (xs : List Inner) (x : Inner) → are_lengths xs ≡ true → is_length x ≡ true → are_lengths (xs ++ (x ∷ [])) ≡ true
all_lengths [] x a h = ap (λ b. b && true) h
all_lengths (i ∷ is) x a h = ap (λ b. b && are_lengths (is ++ (x ∷ []))) (and_first (is_length i) (are_lengths is) a) ∙ all_lengths is x (and_second (is_length i) (are_lengths is) a) h

is_in_length : (i : Inner) → 1 ≤ i.len → i.len ≤ 1048576 → is_length i ≡ true
is_in_length i a b = grind (arith, nat_tests)

-- also with an extent that may have been added
pub kept_lengths : (r : Result (Unit {0}) ScriptKind) (old new : List Inner) (x : Inner) → OnOk r (new ≡ old ++ (x ∷ [])) → OnErr r (new ≡ old) → are_lengths old ≡ true → 1 ≤ x.len → x.len ≤ 1048576 → are_lengths new ≡ true
kept_lengths (Ok u) old new x e f a low high = ap are_lengths e ∙ all_lengths old x a (is_in_length x low high)
kept_lengths (Err k) old new x e f a low high = ap are_lengths f ∙ a

-- the entries of an `over` line are in their ranges
use Rattle.std.proofs.Common.{ℕ, suc, ◌≡◌, ◌+◌, ◌*◌, ◌^◌, ◌<◌, ◌≤◌, Bool, true, false, eqb, ltb, leb, cond, All, List, [], ◌∷◌, length, map, find, Option, Some, None, Ok, refl, sym, subst, ap, ◌∙◌, arith}
use Rattle.std.specs.Prelude.{if◌then◌else◌}
use Rattle.std.specs.List.{list_any}
use Rattle.std.proofs.lemmas.Bool.Decides.{nat_tests}
use Rattle.std.proofs.lemmas.List.Elements.{All-head, All-tail}
use Rattle.std.proofs.lemmas.Bool.{leb-false, ltb-false}
use Rattle.linear_volume.specs.declared.Linear.{Linear}
use Rattle.volume_table.specs.declared.entry.Entry.{Entry}
use Rattle.volume_table.specs.Entries.{IsInRange}
use Rattle.volume_table.specs.Places.{place_in, volume_len}
use Rattle.script_text.specs.Passed.{TreeFault, BadLength, Unaligned, TooMany as TooManyEnds, FollowsFrom, ends, is_held, place_by, track_place, AreTracks, DoFit, EntriesFollow, expanded, has_bad_length, is_unaligned, leg_from, stripe_between, stripes, tree_fault, tree_place}
use Rattle.script_text.proofs.Passed.{Built, all_blocks, all_fit, all_follow, all_places, all_ranges, built, or_first, or_second}
use Rattle.script_lines.specs.declared.kind.ScriptKind.{ScriptKind}
use Rattle.script_text.specs.Trees.{InnerExtent, as_kind, entries_over, is_bad_volume, is_none, is_past, over_fault, track_from, tracks_in, unless_fault}
use Rattle.script_laws.specs.Keeping.{Each, IsEntry, IsLeg, IsWithin}

pub unbroken : (b : Bool) (k : ScriptKind) (rest : Option ScriptKind) → (if b then Some k else rest) ≡ None → (b ≡ false) × (rest ≡ None)
unbroken true k rest h = absurd (cc)
unbroken false k rest h = (refl, h)

pub record IsInner (i : InnerExtent) : Type 0 where
  pub len_is : IsWithin 1 1048576 i.len
  pub dev_fits : i.dev < 2 ^ 32

record IsSpan (e : Linear) : Type 0 where
  dev_fits : e.dev < 2 ^ 32
  end_fits : e.at + e.len < 2 ^ 64

not_past : (i : InnerExtent) (volume : ℕ) → eqb i.volume volume ≡ true → is_past volume i ≡ false → i.at + i.len < 2 ^ 64
not_past i volume e h = grind (arith, nat_tests)

track_spans_by : (b : Bool) (start volume : ℕ) (i : InnerExtent) (rest : List Linear) (more : List Linear) → eqb i.volume volume ≡ b → IsInner i → is_past volume i ≡ false → Each IsSpan rest → Each IsSpan more
    → Each IsSpan (if b then record { start = start; len = i.len; dev = i.dev; at = i.at } ∷ more else rest)
track_spans_by true start volume i rest more e h p r m = (record { dev_fits = h.dev_fits; end_fits = not_past i volume e p }, m)
track_spans_by false start volume i rest more e h p r m = r

track_spans : (start volume : ℕ) (inner : List InnerExtent) → Each IsInner inner → list_any (is_past volume) inner ≡ false → Each IsSpan (track_from start volume inner)
track_spans start volume [] h p = tt
track_spans start volume (i ∷ inner) h p =
    let here = or_first (is_past volume i) (list_any (is_past volume) inner) p in
    let more = or_second (is_past volume i) (list_any (is_past volume) inner) p in
    track_spans_by (eqb i.volume volume) start volume i (track_from start volume inner) (track_from (start + i.len) volume inner) refl h.0 here (track_spans start volume inner h.1 more) (track_spans (start + i.len) volume inner h.1 more)

follows_by : (b : Bool) (start volume : ℕ) (i : InnerExtent) (rest more : List Linear) → eqb i.volume volume ≡ b → IsInner i → is_past volume i ≡ false → start + 1048576 < 2 ^ 64 → FollowsFrom start rest → FollowsFrom (start + i.len) more
    → FollowsFrom start (if b then record { start = start; len = i.len; dev = i.dev; at = i.at } ∷ more else rest)
follows_by true start volume i rest more e h p s r m =
    let low = h.len_is.low_is in
    let high = h.len_is.high_is in
    (record { len = (low, high); end = omega (arith, high, s); device_end = not_past i volume e p }, refl, m)
follows_by false start volume i rest more e h p s r m = r

track_follows : (start volume : ℕ) (inner : List InnerExtent) → Each IsInner inner → list_any (is_past volume) inner ≡ false → start + 1048576 * length inner < 2 ^ 64 → FollowsFrom start (track_from start volume inner)
track_follows start volume [] h p s = tt
track_follows start volume (i ∷ inner) h p s =
    let here = or_first (is_past volume i) (list_any (is_past volume) inner) p in
    let more = or_second (is_past volume i) (list_any (is_past volume) inner) p in
    let high = (h.0).len_is.high_is in
    follows_by (eqb i.volume volume) start volume i (track_from start volume inner) (track_from (start + i.len) volume inner) refl h.0 here (omega (arith, s))
    (track_follows start volume inner h.1 more (omega (arith, s))) (track_follows (start + i.len) volume inner h.1 more (omega (arith, s, high)))

tracks_hold : (inner : List InnerExtent) (volumes : List ℕ) → Each IsInner inner → length inner ≤ 32 → list_any (is_bad_volume inner) volumes ≡ false → AreTracks (tracks_in inner volumes) × Each (Each IsSpan) (tracks_in inner volumes) × (length (tracks_in inner volumes) ≡ length volumes)
tracks_hold inner [] h few b = (tt, tt, refl)
tracks_hold inner (v ∷ vs) h few b =
    let here = or_first (is_bad_volume inner v) (list_any (is_bad_volume inner) vs) b in
    let past = or_second (is_none (track_from 0 v inner)) (list_any (is_past v) inner) here in
    let r = tracks_hold inner vs h few (or_second (is_bad_volume inner v) (list_any (is_bad_volume inner) vs) b) in
    ((track_follows 0 v inner h past (omega (arith, few)), r.0), (track_spans 0 v inner h past, r.1), ap suc r.2)

held_end : (x : ℕ) (e : Linear) → is_held x e ≡ true → x < e.start + e.len
held_end x e h = grind (arith, nat_tests)

leg_by : (b : Bool) (x : ℕ) (e : Linear) (t : List Linear) → is_held x e ≡ b → IsSpan e → (d : ℕ × ℕ) → d ≡ place_by (find (is_held x) t) x → (d.0 < 2 ^ 32) × (d.1 < 2 ^ 64) → (f : Option Linear) → f ≡ cond b (Some e) (find (is_held x) t)
    → ((place_by f x).0 < 2 ^ 32) × ((place_by f x).1 < 2 ^ 64)
leg_by true x e t h s d q r f i =
    let end = held_end x e h in
    let fits = s.end_fits in
    subst (λ (o : Option Linear). ((place_by o x).0 < 2 ^ 32) × ((place_by o x).1 < 2 ^ 64)) (sym i) (s.dev_fits, omega (arith, end, fits))
leg_by false x e t h s d q r f i =
    subst (λ (o : Option Linear). ((place_by o x).0 < 2 ^ 32) × ((place_by o x).1 < 2 ^ 64)) (sym i) (subst (λ (p : ℕ × ℕ). (p.0 < 2 ^ 32) × (p.1 < 2 ^ 64)) q r)

leg_fits : (x : ℕ) (t : List Linear) → Each IsSpan t → ((track_place t x).0 < 2 ^ 32) × ((track_place t x).1 < 2 ^ 64)
leg_fits x [] h = (omega arith, omega arith)
leg_fits x (e ∷ t) h = leg_by (is_held x e) x e t refl h.0 (track_place t x) refl (leg_fits x t h.1) (find (is_held x) (e ∷ t)) refl

legs_fit : (x : ℕ) (ts : List (List Linear)) → Each (Each IsSpan) ts → Each IsLeg (map (leg_from x) ts)
legs_fit x [] h = tt
legs_fit x (t ∷ ts) h = let r = leg_fits x t h.0 in (record { dev_fits = r.0; at_fits = r.1 }, legs_fit x ts h.1)

stripes_fit : (start chunk x : ℕ) (ts : List (List Linear)) (ys : List ℕ) → start + x * length ts < 2 ^ 64 → IsWithin 1 65536 chunk → Each (Each IsSpan) ts → DoFit start (length ts) x ys → All IsInRange (stripes start chunk ts x ys) → Each IsEntry (stripes start chunk ts x ys)
stripes_fit start chunk x ts [] s c h f a = tt
stripes_fit start chunk x ts (y ∷ ys) s c h f a =
    let r = All-head IsInRange (stripe_between start chunk ts x y) (stripes start chunk ts y ys) a in (
      (s, record { low_is = (r.0).0; high_is = (r.0).1 }, c, record { each = legs_fit x ts h; count = record { low_is = r.2; high_is = r.3 } }),
      stripes_fit start chunk y ts ys f.1 c h f.2 (All-tail IsInRange (stripe_between start chunk ts x y) (stripes start chunk ts y ys) a),
    )

tree_by : (a b c : Bool) → (f : Option TreeFault) → f ≡ (if a then Some BadLength else (if b then Some Unaligned else (if c then Some TooManyEnds else None))) → as_kind f ≡ None → (a ≡ false) × (b ≡ false)
tree_by true b c f e h = absurd (cc (ap as_kind (sym e) ∙ h))
tree_by false true c f e h = absurd (cc (ap as_kind (sym e) ∙ h))
tree_by false false c f e h = (refl, refl)

unless_ok : (f : Option ScriptKind) (es found : List Entry) → unless_fault f es ≡ Ok found → (f ≡ None) × (found ≡ es)
unless_ok None es found h = (refl, cc)
unless_ok (Some k) es found h = absurd (cc)

some_entry : (es : List Entry) (len : ℕ) → volume_len es ≡ len → 1 ≤ len → 1 ≤ length es
some_entry [] len e l = absurd (omega (arith, e, l))
some_entry (x ∷ es) len e l = omega arith

record Spread (inner : List InnerExtent) (start len chunk : ℕ) (volumes : List ℕ) (found : List Entry) : Type 0 where
  same : found ≡ expanded start chunk (tracks_in inner volumes)
  tree : Built chunk len (tracks_in inner volumes)
  spans : Each (Each IsSpan) (tracks_in inner volumes)
  few : length (tracks_in inner volumes) ≤ 8
  fits : start + len < 2 ^ 64

over_spread : (inner : List InnerExtent) (start len chunk : ℕ) (volumes : List ℕ) (found : List Entry) → Each IsInner inner → length inner ≤ 32 → IsWithin 1 1048576 len → IsWithin 1 65536 chunk → 1 ≤ length volumes
    → entries_over inner start len chunk volumes ≡ Ok found → Spread inner start len chunk volumes found
over_spread inner start len chunk volumes found h few l c some e =
    let ts : List (List Linear) = tracks_in inner volumes in
    let u = unless_ok (over_fault inner start len chunk volumes) (expanded start chunk ts) found e in
    let a = unbroken (ltb 8 (length volumes)) _ _ u.0 in
    let b = unbroken (leb (2 ^ 64) (start + len)) _ _ a.1 in
    let g = unbroken (list_any (is_bad_volume inner) volumes) _ _ b.1 in
    let t = tracks_hold inner volumes h few g.0 in
    let same = t.2 in
    let eight = ltb-false 8 (length volumes) a.0 in
    let f = tree_by (has_bad_length len chunk ts) (is_unaligned chunk ts) (ltb 16 (length (ends ts))) (tree_fault len chunk ts) refl g.1 in
    record {
      same = u.1;
      tree = built chunk len ts c.low_is (omega (arith, same, some)) l.low_is t.0 f.0 f.1;
      spans = t.1;
      few = omega (arith, same, eight);
      fits = leb-false (2 ^ 64) (start + len) b.0;
    }

pub over_entries : (inner : List InnerExtent) (start len chunk : ℕ) (volumes : List ℕ) (found : List Entry) → Each IsInner inner → length inner ≤ 32 → IsWithin 1 1048576 len → IsWithin 1 65536 chunk → 1 ≤ length volumes
    → entries_over inner start len chunk volumes ≡ Ok found → Each IsEntry found × (1 ≤ length found)
over_entries inner start len chunk volumes found h few l c some e =
    let ts : List (List Linear) = tracks_in inner volumes in
    let r : Spread inner start len chunk volumes found = over_spread inner start len chunk volumes found h few l c some e in
    let fits = r.fits in
    let each : Each IsEntry (expanded start chunk ts) = stripes_fit start chunk 0 ts (ends ts) (omega (arith, fits)) c r.spans (all_fit start chunk len ts r.tree fits) (all_ranges start chunk len ts r.tree r.few l.high_is) in
    (subst (Each IsEntry) (sym r.same) each, some_entry found len (ap volume_len r.same ∙ all_blocks start chunk len ts r.tree) l.low_is)

-- They have the blocks of the line, which lie where the tree says.
pub record OverSays (inner : List InnerExtent) (start len chunk : ℕ) (volumes : List ℕ) (found : List Entry) : Type 0 where
  pub places : (v : ℕ) → start ≤ v → v < start + len → place_in found v ≡ tree_place start chunk (tracks_in inner volumes) v
  pub follow : EntriesFollow start found
  pub blocks : volume_len found ≡ len

pub over_says : (inner : List InnerExtent) (start len chunk : ℕ) (volumes : List ℕ) (found : List Entry) → Each IsInner inner → length inner ≤ 32 → IsWithin 1 1048576 len → IsWithin 1 65536 chunk → 1 ≤ length volumes
    → entries_over inner start len chunk volumes ≡ Ok found → OverSays inner start len chunk volumes found
over_says inner start len chunk volumes found h few l c some e =
    let ts : List (List Linear) = tracks_in inner volumes in
    let r : Spread inner start len chunk volumes found = over_spread inner start len chunk volumes found h few l c some e in
    record {
      places = λ v lo hi. ap (λ es. place_in es v) r.same ∙ all_places start chunk len v ts r.tree lo hi;
      follow = subst (EntriesFollow start) (sym r.same) (all_follow start chunk len ts r.tree);
      blocks = ap volume_len r.same ∙ all_blocks start chunk len ts r.tree;
    }

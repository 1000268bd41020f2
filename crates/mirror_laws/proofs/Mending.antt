-- The repair of one block: what a good leg holds is written to the other.
use Rattle.std.proofs.Common.{◌≡◌, ◌<◌, ◌^◌, ℕ, suc, ◌+◌, Bool, true, false, eqb, List, [], length, get_or, set, Option, Some, None, refl, sym, ap, subst, ◌∙◌, ◌⊎◌, inl, inr, arith, length-append}
use Rattle.std.specs.Prelude.{pos, Result, Ok, Err}
use Rattle.std.proofs.lemmas.Bool.{false≢true}
use Rattle.std.proofs.lemmas.List.{length-set, length-take-le, get_or-set_same, get_or-set_other}
use Rattle.pi_guard.specs.Guards.{guard_of}
use Rattle.pi_guard.proofs.GuardSizes.{guard_below}
use Rattle.pi_tuple.specs.Finds.{is_escaped}
use Rattle.pi_tuple.specs.declared.tuple.Tuple.{Tuple}
use Rattle.pi_tuple.specs.declared.checks.PiType.TheVariants.{One}
use Rattle.pi_tuple.proofs.TupleLaws.{tag_below}
use Rattle.fault_schedule.specs.Altered.{shift_of}
use Rattle.fault_schedule.specs.declared.fault.Crossing.{Crossing}
use Rattle.integrity_payload.specs.declared.payload.Owner.TheVariants.{Block as OfBlock}
use Rattle.bio_core.specs.declared.fate.Why.{Why}
use Rattle.volume_table.specs.Places.{place_in, volume_len}
use Rattle.volume_table.specs.declared.device.DeviceInfo.{DeviceInfo}
use Rattle.block_path.specs.Acts.{State}
use Rattle.block_path.specs.Blocks.{own_frame, own_tuple, stored_cell}
use Rattle.block_path.specs.WayIn.{Delivers, Spoils, Stops, WayIn, delivered_of, way_in}
use Rattle.block_path.specs.WayOut.{Stores, stored_of}
use Rattle.walk_laws.specs.Detectable.{arrives}
use Rattle.walk_laws.specs.FirstLayer.{AtOwner, AtTarget}
use Rattle.walk_laws.specs.Past.{Brought, brought_by}
use Rattle.walk_laws.specs.PlainMap.{as_expected}
use Rattle.walk_laws.specs.Settings.{Block, Setting, route}
use Rattle.walk_laws.specs.UnderMap.{address_of, home}
use Rattle.walk_laws.proofs.TupleFrames.{Small, data_is, tuple_is}
use Rattle.run_laws.specs.ShownRun.{HasCells, LiesOn}
use Rattle.mirror_laws.specs.Mirror.{fresh, marks_of}
use Rattle.mirror_laws.specs.declared.marks.Marks.{Marks}
use Rattle.mirror_laws.specs.OneGood.{on_leg}
use Rattle.mirror_laws.specs.Repair.{WalkedRepair, good, mended, on_leg0, on_leg1, reading, repair_block, repaired_by, steady, writing}
use Rattle.mirror_laws.proofs.Holds.{apart as homes_apart, fetched_at, near, on_medium, on_wire, stored_at}
use Rattle.run_laws.proofs.Layers.{Hands, IsBare, Names, Outcome, Sound, Spoilt, checked, goes_out, reads, same_brought, why_ended}
use Rattle.mirror_laws.proofs.Ways.{free_in, free_out, unnamed_stores}

-- what isn't delivered
pub record IsErr (came : Result (List ℕ) Why) : Type 0 where
  pub why : Why
  pub is : came ≡ Err why

not_delivered : (w : WayIn) (why : Why) → why_ended w ≡ Some why → IsErr (delivered_of w)
not_delivered (Stops x) why h = record { why = x; is = refl }
not_delivered (Spoils x carried) why h = record { why = x; is = refl }
not_delivered (Delivers carried frame) why h = absurd (cc)

module _ (m' : Setting) (opening : State) (half : ℕ) where
  abbrev m : Setting
  m = checked m'

  abbrev n : ℕ
  n = m'.size

  abbrev q : Setting
  q = checked (steady m')

  quiet : (at : Crossing) (op : ℕ) → shift_of (steady m').site.faults at op ≡ pos 0
  quiet at op = refl

  none : ℕ → ℕ
  none op = 0

  -- a stored block of a virtual block is clean, and has these data and this application tag
  pub record SoundAs (v : ℕ) (e : Brought) (x : List ℕ) : Type 0 where
    pub sound : Sound (steady m') (address_of m v) x
    pub brought : brought_by n x ≡ e

  abbrev pub SpoiltAt : ℕ → List ℕ → Type 0
  SpoiltAt v x = Spoilt (steady m') (address_of m v) x

  -- what is written to a leg
  record IsRight (e : Brought) : Type 0 where
    size : length e.body ≡ n
    below : e.app < 2 ^ 16
    bare : eqb e.app 0xFFFF ≡ false
    expected : as_expected m e.app ≡ true

  right : (v : ℕ) (e : Brought) (x : List ℕ) → SoundAs v e x → e.app < 2 ^ 16 → IsRight e
  right v e x h below =
      let app = ap (λ (b : Brought). b.app) h.brought in
      let long = h.sound.bare.size in
      record {
        size = ap (λ (b : Brought). length b.body) (sym h.brought) ∙ length-take-le n x (omega (arith, long));
        below = below;
        bare = subst (λ a. eqb a 0xFFFF ≡ false) app h.sound.bare.escape;
        expected = subst (λ a. as_expected m a ≡ true) app h.sound.app;
      }

  record IsWritten (b : Block) (e : Brought) (came : Result (List ℕ) Why) : Type 0 where
    stored : List ℕ
    is : came ≡ Ok stored
    holds : SoundAs b.virt e stored

  writes : (b : Block) (e : Brought) → IsRight e → IsWritten b e (writing q b e)
  writes b e h =
      let t = own_tuple (route q b) e.app e.body in
      let f = own_frame (route q b) e.app e.body in
      let small : Small (own_tuple (route q b) e.app e.body) = record { guard = guard_below m'.mode.kind e.body; app = h.below; rtag = tag_below b.virt } in
      let there = tuple_is n e.body t h.size small in
      let body_there = data_is n e.body t h.size in
      let bare : IsBare n (own_frame (route q b) e.app e.body) =
      record { size = length-append e.body _ ∙ ap (λ k. k + 8) h.size; escape = ap (λ t. is_escaped One t) there ∙ h.bare } in
      let app_there = ap (λ (t : Tuple). t.app) there in
      let s = unnamed_stores (steady m') b f bare (record { guard = ap (λ (t : Tuple). t.guard) there ∙ ap (guard_of m'.mode.kind) (sym body_there); rtag = ap (λ (t : Tuple). t.rtag) there })
      (subst (λ a. as_expected m a ≡ true) (sym app_there) h.expected) (λ at. refl) refl (on_wire (steady m') opening half none quiet b) in
      let o : Outcome (steady m') b (own_frame (route q b) e.app e.body) (Stores s.carried s.stored) =
      subst (Outcome (steady m') b f) s.is (goes_out (steady m') b f (near (steady m') opening half none quiet b) bare (free_out (steady m') b f (λ at. refl))) in
      record { stored = s.stored; is = ap stored_of s.is; holds = record { sound = o.1.0; brought = o.1.1 ∙ same_brought body_there app_there } }

  -- what a leg gives
  pub record IsGood (e : Brought) (o : Option (List ℕ)) : Type 0 where
    pub frame : List ℕ
    pub is : o ≡ Some frame
    pub brought : brought_by n frame ≡ e

  reads_sound : (b : Block) (e : Brought) (blocks : List (List ℕ)) (c : Bool) → c ≡ true → SoundAs b.virt e (get_or blocks (home m b.virt) []) → IsGood e (good c (reading q b blocks))
  reads_sound b e blocks c f s =
      let x = get_or blocks (home m b.virt) [] in
      let h : Hands (steady m') b OfBlock false (get_or blocks (home m b.virt) []) = reads (steady m') b OfBlock false x (record {
        reach = near (steady m') opening half none quiet b;
        sound = λ _. subst (λ a. Sound (steady m') a x) (sym (on_medium (steady m') opening half none quiet b)) s.sound;
        spoilt = λ e. absurd (false≢true e);
        served = refl;
        shown = free_in (steady m') b x (λ at. refl) refl;
      }) in
      record {
        frame = arrives q b x AtOwner;
        is =
            ap (λ c. good c (reading q b blocks)) f
            ∙ ap (λ i. good true (delivered_of (way_in q.site.faults q.site.device (route q b) OfBlock (get_or blocks i [])))) (fetched_at (steady m') opening half none quiet b)
            ∙ ap (λ w. good true (delivered_of w)) h.way;
        brought = same_brought h.under.body (ap (λ (t : Tuple). t.app) h.under.tuple) ∙ s.brought;
      }

  reads_spoilt : (b : Block) (blocks : List (List ℕ)) (c : Bool) → c ≡ true → SpoiltAt b.virt (get_or blocks (home m b.virt) []) → good c (reading q b blocks) ≡ None
  reads_spoilt b blocks c f s =
      let x = get_or blocks (home m b.virt) [] in
      let h : Names (steady m') b OfBlock (get_or blocks (home m b.virt) []) AtTarget = reads (steady m') b OfBlock true x (record {
        reach = near (steady m') opening half none quiet b;
        sound = λ e. absurd (false≢true (sym e));
        spoilt = λ _. subst (λ a. Spoilt (steady m') a x) (sym (on_medium (steady m') opening half none quiet b)) s;
        served = refl;
        shown = free_in (steady m') b x (λ at. refl) refl;
      }) in
      let err = not_delivered (way_in q.site.faults q.site.device (route q b) OfBlock x) _ h.ends in
      ap (λ c. good c (reading q b blocks)) f
      ∙ ap (λ i. good true (delivered_of (way_in q.site.faults q.site.device (route q b) OfBlock (get_or blocks i [])))) (fetched_at (steady m') opening half none quiet b)
      ∙ ap (good true) err.is

  -- a leg that may be stale, or spoilt
  abbrev pub MayHave : (v : ℕ) → Brought → Bool → List ℕ → Type 0
  MayHave v e c x = c ≡ true → SoundAs v e x ⊎ SpoiltAt v x

  record BothSound (b : Block) (e : Brought) (c : Bool) (blocks : List (List ℕ)) : Type 0 where
    fresh_there : c ≡ true
    sound : SoundAs b.virt e (get_or blocks (home m b.virt) [])
    reads : IsGood e (good c (reading q b blocks))

  other_leg : (b : Block) (e : Brought) (blocks : List (List ℕ)) (c : Bool) → MayHave b.virt e c (get_or blocks (home m b.virt) []) → (good c (reading q b blocks) ≡ None) ⊎ BothSound b e c blocks
  other_leg b e blocks false h = inl refl
  other_leg b e blocks true h = by (h refl) where
    by : SoundAs b.virt e (get_or blocks (home m b.virt) []) ⊎ SpoiltAt b.virt (get_or blocks (home m b.virt) []) → (good true (reading q b blocks) ≡ None) ⊎ BothSound b e true blocks
    by (inl s) = inr (record { fresh_there = refl; sound = s; reads = reads_sound b e blocks true refl s })
    by (inr s) = inl (reads_spoilt b blocks true refl s)

  -- block u, its marks and its stored blocks
  abbrev pub at0 : WalkedRepair → ℕ → List ℕ
  at0 r u = get_or r.blocks (home m u) []

  abbrev pub at1 : WalkedRepair → ℕ → List ℕ
  at1 r u = get_or r.blocks (home m (half + u)) []

  pub record Before (u : ℕ) (e : Brought) (k : Marks) (x0 x1 : List ℕ) : Type 0 where
    pub leg : Bool
    pub is_fresh : on_leg leg k.leg0 k.leg1 ≡ true
    pub sound : SoundAs (on_leg leg u (half + u)) e (on_leg leg x0 x1)
    pub other : MayHave (on_leg leg (half + u) u) e (on_leg leg k.leg1 k.leg0) (on_leg leg x1 x0)
    pub below : e.app < 2 ^ 16

  pub record After (u : ℕ) (e : Brought) (k : Marks) (x0 x1 : List ℕ) : Type 0 where
    pub on0 : SoundAs u e x0
    pub on1 : SoundAs (half + u) e x1
    pub marks : k ≡ fresh

  pub record Mended (u : ℕ) (e : Brought) (r now : WalkedRepair) : Type 0 where
    pub after : After u e (marks_of now.marks u) (at0 now u) (at1 now u)
    pub lost : now.lost ≡ r.lost
    pub size : length now.blocks ≡ length r.blocks
    pub long : length now.marks ≡ length r.marks
    pub others : (w : ℕ) → w < half → (w ≡ u → ⊥) → (at0 now w ≡ at0 r w) × ((at1 now w ≡ at1 r w) × (marks_of now.marks w ≡ marks_of r.marks w))

  both_fresh : (k : Marks) → k.leg0 ≡ true → k.leg1 ≡ true → k ≡ fresh
  both_fresh k p q = λ i. record { leg0 = p i; leg1 = q i }

  module _ (devices : List DeviceInfo) (lies : LiesOn (checked m') devices) (cells : HasCells (checked m') devices opening.blocks) (table : volume_len m'.entries ≡ half + half) (still : (at : Crossing) (op : ℕ) → shift_of m'.site.faults at op ≡ pos 0) where
    homes : (v w : ℕ) → v < half + half → w < half + half → (v ≡ w → ⊥) → home m v ≡ home m w → ⊥
    homes v w l k d e = homes_apart m' opening half none still devices lies cells table v w l k d e

    module _ (u : ℕ) (within : u < half) (e : Brought) (r : WalkedRepair) (size : length r.blocks ≡ length opening.blocks) (long : length r.marks ≡ half) where
      -- a block stored on one leg, and the marks set
      abbrev set_at : Block → List ℕ → Marks → WalkedRepair
      set_at b stored k = record { blocks = set r.blocks (stored_cell q.site (route q b)) stored; marks = set r.marks u k; repaired = suc r.repaired; lost = r.lost }

      inside : (v : ℕ) → v < half + half → home m v < length r.blocks
      inside v l =
          let k : v < volume_len m'.entries = omega (arith, l, table) in
          let w = cells.within (place_in m'.entries v).0 (place_in m'.entries v).1 (lies.inside v k) in omega (arith, w, size)

      there : (b : Block) (stored : List ℕ) → b.virt < half + half → get_or (set r.blocks (stored_cell q.site (route q b)) stored) (home m b.virt) [] ≡ stored
      there b stored l =
          ap (λ i. get_or (set r.blocks i stored) (home m b.virt) []) (stored_at (steady m') opening half none quiet b) ∙ get_or-set_same r.blocks (home m b.virt) stored [] (inside b.virt l)

      elsewhere : (b : Block) (stored : List ℕ) (v : ℕ) → b.virt < half + half → v < half + half → (v ≡ b.virt → ⊥) → get_or (set r.blocks (stored_cell q.site (route q b)) stored) (home m v) [] ≡ get_or r.blocks (home m v) []
      elsewhere b stored v l k d =
          ap (λ i. get_or (set r.blocks i stored) (home m v) []) (stored_at (steady m') opening half none quiet b) ∙ get_or-set_other r.blocks (home m b.virt) (home m v) stored [] (homes v b.virt k l d)

      marks_there : (k : Marks) → marks_of (set r.marks u k) u ≡ k
      marks_there k = get_or-set_same r.marks u k fresh (omega (arith, within, long))

      untouched : (b : Block) (stored : List ℕ) (k : Marks) → b.virt < half + half → ((w : ℕ) → (w ≡ u → ⊥) → w < half → (w ≡ b.virt → ⊥) × (half + w ≡ b.virt → ⊥)) → (w : ℕ) → w < half → (w ≡ u → ⊥) →
          (at0 (set_at b stored k) w ≡ at0 r w) × ((at1 (set_at b stored k) w ≡ at1 r w) × (marks_of (set r.marks u k) w ≡ marks_of r.marks w))
      untouched b stored k l off w h d = (
        elsewhere b stored w l (omega (arith, h)) (off w d h).0,
        (elsewhere b stored (half + w) l (omega (arith, h)) (off w d h).1, get_or-set_other r.marks u w k fresh d),
      )

      abbrev Is : WalkedRepair → Type 0
      Is now = Mended u e r now

      -- leg 1 is written
      mend1 : (stored : List ℕ) → (marks_of r.marks u).leg0 ≡ true → SoundAs u e (at0 r u) → SoundAs (half + u) e stored → Is (set_at (on_leg1 half u) stored (record (marks_of r.marks u) { leg1 = true }))
      mend1 stored f s h = record {
        after = record {
          on0 = subst (SoundAs u e) (sym (elsewhere (on_leg1 half u) stored u (omega (arith, within)) (omega (arith, within)) (λ x. omega (arith, x, within)))) s;
          on1 = subst (SoundAs (half + u) e) (sym (there (on_leg1 half u) stored (omega (arith, within)))) h;
          marks = marks_there (record (marks_of r.marks u) { leg1 = true }) ∙ both_fresh (record (marks_of r.marks u) { leg1 = true }) f refl;
        };
        lost = refl;
        size = length-set r.blocks (stored_cell q.site (route q (on_leg1 half u))) stored;
        long = length-set r.marks u (record (marks_of r.marks u) { leg1 = true });
        others = untouched (on_leg1 half u) stored (record (marks_of r.marks u) { leg1 = true }) (omega (arith, within)) (λ w d h. ((λ x. omega (arith, x, h)), (λ x. d (omega (arith, x)))));
      }

      -- leg 0 is written
      mend0 : (stored : List ℕ) → (marks_of r.marks u).leg1 ≡ true → SoundAs (half + u) e (at1 r u) → SoundAs u e stored → Is (set_at (on_leg0 u) stored (record (marks_of r.marks u) { leg0 = true }))
      mend0 stored f s h = record {
        after = record {
          on0 = subst (SoundAs u e) (sym (there (on_leg0 u) stored (omega (arith, within)))) h;
          on1 = subst (SoundAs (half + u) e) (sym (elsewhere (on_leg0 u) stored (half + u) (omega (arith, within)) (omega (arith, within)) (λ x. omega (arith, x, within)))) s;
          marks = marks_there (record (marks_of r.marks u) { leg0 = true }) ∙ both_fresh (record (marks_of r.marks u) { leg0 = true }) refl f;
        };
        lost = refl;
        size = length-set r.blocks (stored_cell q.site (route q (on_leg0 u))) stored;
        long = length-set r.marks u (record (marks_of r.marks u) { leg0 = true });
        others = untouched (on_leg0 u) stored (record (marks_of r.marks u) { leg0 = true }) (omega (arith, within)) (λ w d h. (d, (λ x. omega (arith, x, within))));
      }

      -- both are good
      both : (marks_of r.marks u).leg0 ≡ true → (marks_of r.marks u).leg1 ≡ true → SoundAs u e (at0 r u) → SoundAs (half + u) e (at1 r u) → Is r
      both f g s h = record { after = record { on0 = s; on1 = h; marks = both_fresh (marks_of r.marks u) f g }; lost = refl; size = refl; long = refl; others = λ w l d. (refl, (refl, refl)) }

      abbrev g1 : Option (List ℕ)
      g1 = good (marks_of r.marks u).leg1 (reading q (on_leg1 half u) r.blocks)

      -- what is written of a frame
      as_last : (b : Block) (frame : List ℕ) → brought_by n frame ≡ e → IsRight e → IsWritten b e (writing q b (brought_by n frame))
      as_last b frame same h = subst (λ x. IsWritten b e (writing q b x)) (sym same) (writes b e h)

      pub block_mended : Before u e (marks_of r.marks u) (at0 r u) (at1 r u) → Is (repair_block q half u r)
      block_mended h = by h.leg h.is_fresh h.sound h.other where
        by : (leg : Bool) → on_leg leg (marks_of r.marks u).leg0 (marks_of r.marks u).leg1 ≡ true → SoundAs (on_leg leg u (half + u)) e (on_leg leg (at0 r u) (at1 r u)) →
            MayHave (on_leg leg (half + u) u) e (on_leg leg (marks_of r.marks u).leg1 (marks_of r.marks u).leg0) (on_leg leg (at1 r u) (at0 r u)) → Is (repair_block q half u r)
        by false f s other = on (other_leg (on_leg1 half u) e r.blocks (marks_of r.marks u).leg1 other) where
          first : IsGood e (good (marks_of r.marks u).leg0 (reading q (on_leg0 u) r.blocks))
          first = reads_sound (on_leg0 u) e r.blocks (marks_of r.marks u).leg0 f s

          on : (good (marks_of r.marks u).leg1 (reading q (on_leg1 half u) r.blocks) ≡ None) ⊎ BothSound (on_leg1 half u) e (marks_of r.marks u).leg1 r.blocks → Is (repair_block q half u r)
          on (inl z) =
              let w = as_last (on_leg1 half u) first.frame first.brought (right u e (at0 r u) s h.below) in
              let same = ap (λ o. repaired_by q half u o g1 r) first.is ∙ ap (λ o. repaired_by q half u (Some first.frame) o r) z
              ∙ ap (λ c. mended q u (on_leg1 half u) (λ bit old. record old { leg1 = bit }) c r) w.is in
              subst Is (sym same) (mend1 w.stored f s w.holds)
          on (inr z) =
              let same = ap (λ o. repaired_by q half u o g1 r) first.is ∙ ap (λ o. repaired_by q half u (Some first.frame) o r) z.reads.is in
              subst Is (sym same) (both f z.fresh_there s z.sound)
        by true f s other = on (other_leg (on_leg0 u) e r.blocks (marks_of r.marks u).leg0 other) where
          first : IsGood e (good (marks_of r.marks u).leg1 (reading q (on_leg1 half u) r.blocks))
          first = reads_sound (on_leg1 half u) e r.blocks (marks_of r.marks u).leg1 f s

          on : (good (marks_of r.marks u).leg0 (reading q (on_leg0 u) r.blocks) ≡ None) ⊎ BothSound (on_leg0 u) e (marks_of r.marks u).leg0 r.blocks → Is (repair_block q half u r)
          on (inl z) =
              let w = as_last (on_leg0 u) first.frame first.brought (right (half + u) e (at1 r u) s h.below) in
              let same = ap (λ o. repaired_by q half u o g1 r) z ∙ ap (λ o. repaired_by q half u None o r) first.is
              ∙ ap (λ c. mended q u (on_leg0 u) (λ bit old. record old { leg0 = bit }) c r) w.is in
              subst Is (sym same) (mend0 w.stored f s w.holds)
          on (inr z) =
              let same = ap (λ o. repaired_by q half u o g1 r) z.reads.is ∙ ap (λ o. repaired_by q half u (Some z.reads.frame) o r) first.is in
              subst Is (sym same) (both z.fresh_there f z.sound s)

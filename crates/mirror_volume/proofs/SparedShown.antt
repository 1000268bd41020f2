-- A block on a leg on which fault lines may alter it, where they are shown: what its write stores is right or spoilt, and of what is stored so a read delivers what is right alone.
use Rattle.std.proofs.Common.{◌≡◌, ◌⊎◌, inl, inr, ℕ, ◌+◌, ◌%◌, Bool, true, false, List, [], length, get_or, Option, Some, None, refl, sym, ap, subst, ◌∙◌, length-append}
use Rattle.std.specs.Prelude.{All, Ok, is_some, pos}
use Rattle.std.proofs.lemmas.Bool.{false≢true, not-true}
use Rattle.pi_guard.specs.Guards.{crc}
use Rattle.pi_guard.specs.declared.GuardKind.TheVariants.{Crc}
use Rattle.pi_guard.proofs.GuardSizes.{guard_below}
use Rattle.fault_schedule.specs.Altered.{fails_of, shift_of}
use Rattle.fault_schedule.specs.declared.fault.Crossing.{Crossing}
use Rattle.fault_schedule.specs.declared.fault.Crossing.TheVariants.{MediumToTarget, TargetToAdapter, TargetToMedium}
use Rattle.fault_schedule.specs.declared.fault.FaultLine.{FaultLine}
use Rattle.pi_tuple.specs.Finds.{is_escaped}
use Rattle.pi_tuple.specs.Tuples.{ref_tag, tuple_bytes}
use Rattle.pi_tuple.specs.declared.checks.Check.{Check}
use Rattle.pi_tuple.specs.declared.checks.PiType.TheVariants.{One}
use Rattle.pi_tuple.specs.declared.tuple.Tuple.{Tuple}
use Rattle.pi_tuple.proofs.TupleLaws.{tag_below}
use Rattle.rig_api.specs.Frames.{frame_of, tuple_of}
use Rattle.integrity_payload.specs.declared.payload.Owner.TheVariants.{Block as OfBlock}
use Rattle.bio_core.specs.declared.fate.Why.{Why}
use Rattle.bio_core.specs.declared.fate.Why.TheVariants.{Target}
use Rattle.rig_api.specs.Passing.{from_medium, then_crossed, unless}
use Rattle.block_path.specs.Acts.{State}
use Rattle.block_path.specs.Blocks.{fetched_cell, own_frame}
use Rattle.block_path.specs.Routes.{by_target, sends_unless}
use Rattle.block_path.specs.WayIn.{Delivers, Spoils, Stops, WayIn, delivered_of, from_device, verified, way_in}
use Rattle.block_path.specs.WayOut.{Fails, Refuses, Stores, WayOut, stored_of, way_out}
use Rattle.block_path.proofs.Cells.{AllBelow}
use Rattle.walk_laws.specs.Detectable.{arrives, found}
use Rattle.walk_laws.specs.FirstLayer.{AtAdapter, AtOwner, AtTarget, Layer, has_flip, is_served}
use Rattle.walk_laws.specs.Past.{Brought, brought_by}
use Rattle.walk_laws.specs.PlainMap.{as_expected}
use Rattle.walk_laws.specs.Settings.{Block, Setting, route}
use Rattle.walk_laws.specs.UnderMap.{address_of, home}
use Rattle.run_laws.proofs.Passed.{below_append, data_is, tuple_below, tuple_is}
use Rattle.run_laws.proofs.Layers.{After, Fetched, Hands, Outcome, Reading, Sound, Spoilt, checked, goes_out, reads, same_brought, why_ended}
use Rattle.run_premises.specs.FormedRun.{IsOfBytes}
use Rattle.run_premises.specs.Forms.{is_shown, kind_at, mask_of}
use Rattle.run_premises.proofs.OneWay.{Fine, Kept, comes_shown, goes_kept, goes_shown, own_fine, own_right}
use Rattle.mirror_laws.specs.Repair.{reading, writing}
use Rattle.mirror_laws.proofs.Holds.{fetched_at, near, no_shift, on_medium}
use Rattle.mirror_volume.proofs.Free.{IsWhole, SoundAs, own_brought}

-- A stored block of a virtual block: clean with these data and this application tag, or one that each check finds bad, where a line altered it on its way to the medium.
pub record StandsAs (m' : Setting) (v : ℕ) (e : Brought) (altered : Type 0) (x : List ℕ) : Type 0 where
  pub fine : Fine m' x
  pub either : SoundAs m' v e x ⊎ (Spoilt m' (address_of (checked m') v) x × altered)

-- what ended isn't delivered
not-ended : (w : WayIn) (why : Why) (frame : List ℕ) → why_ended w ≡ Some why → delivered_of w ≡ Ok frame → ⊥
not-ended (Stops x) why frame e q = absurd cc
not-ended (Spoils x carried) why frame e q = absurd cc
not-ended (Delivers carried x) why frame e q = absurd cc

-- ---- what the target's check finds isn't delivered

module _ (m' : Setting) (opening : State) (half : ℕ) (still : (at : Crossing) (op : ℕ) → shift_of m'.site.faults at op ≡ pos 0) (b : Block) (served : is_served (checked m') b ≡ true) where
  ended-there : (x : List ℕ) (check : Check) → found (checked m') b x AtTarget ≡ Some check → way_in m'.site.faults (checked m').site.device (route (checked m') b) OfBlock x ≡ Stops (Target check)
  unfolding from_medium
  ended-there x check h =
      ap (λ c. verified (route (checked m') b) OfBlock
      (from_device m'.site.faults (route (checked m') b) (sends_unless c (by_target (then_crossed m'.site.faults (Some (route (checked m') b).label) TargetToAdapter (unless (found (checked m') b x AtTarget) (arrives (checked m') b x AtTarget)))))))
      (not-true (fails_of m'.site.faults (route (checked m') b).label) served)
      ∙ ap (λ o. verified (route (checked m') b) OfBlock
      (from_device m'.site.faults (route (checked m') b) (by_target (then_crossed m'.site.faults (Some (route (checked m') b).label) TargetToAdapter (unless o (arrives (checked m') b x AtTarget)))))) h

  pub stops-so : (blocks : List (List ℕ)) → is_some (found (checked m') b (get_or blocks (home (checked m') b.virt) []) AtTarget) ≡ true → (frame : List ℕ) → reading (checked m') b blocks ≡ Ok frame → ⊥
  stops-so blocks finds frame r = by (found (checked m') b (get_or blocks (home (checked m') b.virt) []) AtTarget) refl finds where
    at : fetched_cell (checked m').site (route (checked m') b) ≡ home (checked m') b.virt
    at = fetched_at m' opening half (λ op. 0) still b

    by : (o : Option Check) → found (checked m') b (get_or blocks (home (checked m') b.virt) []) AtTarget ≡ o → is_some o ≡ true → ⊥
    by None e q = false≢true q
    by (Some check) e q =
        let way : delivered_of (Stops (Target check)) ≡ Ok frame =
        sym (ap delivered_of (ended-there (get_or blocks (home (checked m') b.virt) []) check e))
        ∙ sym (ap (λ i. delivered_of (way_in m'.site.faults (checked m').site.device (route (checked m') b) OfBlock (get_or blocks i []))) at) ∙ r in
        cc

module _ (m' : Setting) (opening : State) (half : ℕ) (still : (at : Crossing) (op : ℕ) → shift_of m'.site.faults at op ≡ pos 0)
    (even : m'.size % 2 ≡ 0) (flips : All (λ (line : FaultLine). IsOfBytes line.kind) m'.site.faults) (altered : Type 0) (b : Block)
    (shown : (at : Crossing) → has_flip (checked m') b at ≡ true → is_shown m'.size (kind_at m'.mode.kind at) (mask_of m'.size m'.site.faults at (route (checked m') b).label) ≡ true)
    (marks : has_flip (checked m') b TargetToMedium ≡ true → altered) (apart : altered → has_flip (checked m') b MediumToTarget ≡ false) (served : is_served (checked m') b ≡ true) where
  abbrev m : Setting
  m = checked m'

  abbrev n : ℕ
  n = m'.size

  none : ℕ → ℕ
  none op = 0

  -- ---- a write

  module _ (e : Brought) (h : IsWhole n e) (bytes : AllBelow 256 e.body) where
    abbrev f : List ℕ
    f = own_frame (route m b) e.app e.body

    fine : Fine m' (own_frame (route m b) e.app e.body)
    fine = own_fine m' b e.app e.body h.size bytes h.below h.bare

    goes : Outcome m' b f (way_out m'.site.faults m.site.device (route m b) f)
    goes =
        goes_out m' b f (near m' opening half none still b) (record { size = fine.size; escape = fine.escape })
        (goes_shown m' even flips b shown f fine (λ q. own_right m' b e.app e.body h.size h.below))

    after : (c : Bool) → has_flip m b TargetToMedium ≡ c → (x : List ℕ) → After m' b f c x → SoundAs m' b.virt e x ⊎ (Spoilt m' (address_of m b.virt) x × altered)
    after true q x a = inr (a, marks q)
    after false q x a = inl (record { sound = a.0; brought = a.1 ∙ own_brought m' opening half still b e h })

    by : (w : WayOut) → Outcome m' b f w → Kept m' even flips b shown w → (stored : List ℕ) → stored_of w ≡ Ok stored → StandsAs m' b.virt e altered stored
    by (Fails why) o k stored q = absurd cc
    by (Refuses why) o k stored q = absurd cc
    by (Stores carried x) o k stored q =
        let same : x ≡ stored = cc in
        subst (StandsAs m' b.virt e altered) same (record { fine = k.0; either = after (has_flip m b TargetToMedium) refl x o.1 })

    pub stores-so : (stored : List ℕ) → writing m b e ≡ Ok stored → StandsAs m' b.virt e altered stored
    stores-so stored q = by (way_out m'.site.faults m.site.device (route m b) f) goes (goes_kept m' even flips b shown f fine) stored q

  -- ---- a read

  module _ (e : Brought) (blocks : List (List ℕ)) (s : StandsAs m' b.virt e altered (get_or blocks (home m b.virt) [])) (frame : List ℕ) (r : reading m b blocks ≡ Ok frame) where
    abbrev x : List ℕ
    x = get_or blocks (home m b.virt) []

    abbrev goes-in : WayIn
    goes-in = way_in m'.site.faults m.site.device (route m b) OfBlock x

    way : delivered_of (way_in m'.site.faults m.site.device (route m b) OfBlock (get_or blocks (home m b.virt) [])) ≡ Ok frame
    way = sym (ap (λ i. delivered_of (way_in m'.site.faults m.site.device (route m b) OfBlock (get_or blocks i []))) (fetched_at m' opening half none still b)) ∙ r

    hands : (hit : Bool) (o : Option Layer) → Reading m' b OfBlock hit x o → Hands m' b OfBlock hit x
    hands hit None h = h
    hands hit (Some layer) h = absurd (not-ended goes-in _ frame h.ends way)

    -- It is what was written.
    pub comes-so : (length frame ≡ n + 8) × (brought_by n frame ≡ e)
    comes-so = by s.either where
      by : SoundAs m' b.virt e (get_or blocks (home m b.virt) []) ⊎ (Spoilt m' (address_of m b.virt) (get_or blocks (home m b.virt) []) × altered) → (length frame ≡ n + 8) × (brought_by n frame ≡ e)
      by (inl right) =
          let fetched : Fetched m' b false x = record {
            reach = near m' opening half none still b;
            sound = λ _. subst (λ a. Sound m' a x) (sym (on_medium m' opening half none still b)) right.sound;
            spoilt = λ e. absurd (false≢true e);
            served = served;
            shown = comes_shown m' even flips b shown x s.fine (no_shift m' opening half none still b MediumToTarget) (λ q. right.sound.bears.guard);
          } in
          let h = hands false _ (reads m' b OfBlock false x fetched) in
          let same : arrives m b x AtOwner ≡ frame = (let z : delivered_of (Delivers (arrives m b x AtAdapter) (arrives m b x AtOwner)) ≡ Ok frame = sym (ap delivered_of h.way) ∙ way in cc) in
          (ap length (sym same) ∙ h.under.size, ap (brought_by n) (sym same) ∙ same_brought h.under.body (ap (λ (t : Tuple). t.app) h.under.tuple) ∙ right.brought)
      by (inr spoilt) =
          let fetched : Fetched m' b true x = record {
            reach = near m' opening half none still b;
            sound = λ e. absurd (false≢true (sym e));
            spoilt = λ _. subst (λ a. Spoilt m' a x) (sym (on_medium m' opening half none still b)) spoilt.0;
            served = served;
            shown = comes_shown m' even flips b shown x s.fine (no_shift m' opening half none still b MediumToTarget) (λ q. absurd (false≢true (sym (apart spoilt.1) ∙ q)));
          } in
          absurd (false≢true (sym (hands true _ (reads m' b OfBlock true x fetched)).whole))

-- ---- a stored block that is the frame of what was written

-- a tag that stands there is expected
pub expected-of : (m' : Setting) (v : ℕ) (e : Brought) {x : List ℕ} → SoundAs m' v e x → as_expected (checked m') e.app ≡ true
expected-of m' v e s = subst (λ (a : ℕ). as_expected (checked m') a ≡ true) (ap (λ (b : Brought). b.app) s.brought) s.sound.app

module _ (m' : Setting) (v : ℕ) (e : Brought) (whole : IsWhole m'.size e) (bytes : AllBelow 256 e.body) (expected : as_expected (checked m') e.app ≡ true) (altered : Type 0) where
  abbrev its : Tuple
  its = record { guard = crc e.body; app = e.app; rtag = ref_tag (address_of (checked m') v) }

  tuple-there : tuple_of m'.size (frame_of e.body (record { guard = crc e.body; app = e.app; rtag = ref_tag (address_of (checked m') v) })) ≡ record { guard = crc e.body; app = e.app; rtag = ref_tag (address_of (checked m') v) }
  tuple-there = tuple_is m'.size e.body its whole.size (record { guard = guard_below Crc e.body; app = whole.below; rtag = tag_below (address_of (checked m') v) })

  long : length (frame_of e.body (record { guard = crc e.body; app = e.app; rtag = ref_tag (address_of (checked m') v) })) ≡ m'.size + 8
  long = length-append e.body (tuple_bytes its) ∙ ap (λ k. k + 8) whole.size

  bare : is_escaped One (tuple_of m'.size (frame_of e.body (record { guard = crc e.body; app = e.app; rtag = ref_tag (address_of (checked m') v) }))) ≡ false
  bare = ap (λ (t : Tuple). is_escaped One t) tuple-there ∙ whole.bare

  pub frame-stands : StandsAs m' v e altered (frame_of e.body (record { guard = crc e.body; app = e.app; rtag = ref_tag (address_of (checked m') v) }))
  frame-stands =
      let body-there = data_is m'.size e.body its whole.size in
      record {
        fine = record { size = long; bytes = below_append 256 e.body (tuple_bytes its) bytes (tuple_below its); escape = bare };
        either = inl (record {
          sound = record {
            bare = record { size = long; escape = bare };
            bears = record { guard = ap (λ (t : Tuple). t.guard) tuple-there ∙ ap crc (sym body-there); rtag = ap (λ (t : Tuple). t.rtag) tuple-there };
            app = subst (λ (a : ℕ). as_expected (checked m') a ≡ true) (sym (ap (λ (t : Tuple). t.app) tuple-there)) expected;
          };
          brought = same_brought body-there (ap (λ (t : Tuple). t.app) tuple-there);
        });
      }

-- A block on a leg that no fault line alters and no medium fails: its write is stored, where its tag is the expected one, and a read of what is stored right delivers it.
use Rattle.std.proofs.Common.{◌≡◌, ◌<◌, ◌^◌, ℕ, ◌+◌, Bool, true, false, eqb, ◌||◌, Option, List, [], length, get_or, sym, ap, subst, ◌∙◌, arith, length-append}
use Rattle.std.specs.Prelude.{pos, Ok}
use Rattle.std.proofs.lemmas.Bool.{false≢true}
use Rattle.pi_guard.specs.Guards.{guard_of}
use Rattle.pi_guard.proofs.GuardSizes.{guard_below}
use Rattle.pi_tuple.specs.Finds.{is_escaped}
use Rattle.pi_tuple.specs.declared.tuple.Tuple.{Tuple}
use Rattle.pi_tuple.specs.declared.checks.PiType.TheVariants.{One}
use Rattle.pi_tuple.proofs.TupleLaws.{tag_below}
use Rattle.fault_schedule.specs.Altered.{shift_of}
use Rattle.fault_schedule.specs.declared.fault.Crossing.{Crossing}
use Rattle.fault_schedule.specs.declared.fault.Crossing.TheVariants.{AdapterToHost, AdapterToTarget, MediumToTarget, TargetToAdapter, TargetToMedium}
use Rattle.rig_api.specs.Frames.{tuple_of}
use Rattle.integrity_payload.specs.declared.payload.Owner.TheVariants.{Block as OfBlock}
use Rattle.block_path.specs.Acts.{State}
use Rattle.block_path.specs.Blocks.{own_frame, own_tuple}
use Rattle.block_path.specs.WayIn.{delivered_of, way_in}
use Rattle.block_path.specs.WayOut.{Stores, stored_of, way_out}
use Rattle.walk_laws.specs.Detectable.{arrives}
use Rattle.walk_laws.specs.FirstLayer.{AtOwner, Layer, is_served}
use Rattle.walk_laws.specs.Past.{Brought, brought_by}
use Rattle.walk_laws.specs.PlainMap.{as_expected}
use Rattle.walk_laws.specs.Settings.{Block, Setting, route}
use Rattle.walk_laws.specs.UnderMap.{address_of, home}
use Rattle.walk_laws.proofs.TupleFrames.{Small, data_is, tuple_is}
use Rattle.mirror_laws.specs.OneGood.{IsUnnamed}
use Rattle.mirror_laws.specs.Repair.{reading, writing}
use Rattle.mirror_laws.proofs.Holds.{fetched_at, near, no_shift, on_medium, on_wire}
use Rattle.mirror_laws.proofs.Ways.{free_in, free_out, unnamed_stores}
use Rattle.run_laws.proofs.Layers.{After, Hands, IsBare, Outcome, Reading, Sound, checked, first_of_three, goes_out, reads, same_brought}

-- A stored block of a virtual block is clean, and has these data and this application tag.
pub record SoundAs (m' : Setting) (v : ℕ) (e : Brought) (x : List ℕ) : Type 0 where
  pub sound : Sound m' (address_of (checked m') v) x
  pub brought : brought_by m'.size x ≡ e

-- It may be written: with the data of a block, and a tag that is no escape.
pub record IsWhole (n : ℕ) (e : Brought) : Type 0 where
  pub size : length e.body ≡ n
  pub below : e.app < 2 ^ 16
  pub bare : eqb e.app 0xFFFF ≡ false

module _ (m' : Setting) (opening : State) (half : ℕ) (still : (at : Crossing) (op : ℕ) → shift_of m'.site.faults at op ≡ pos 0) where
  abbrev m : Setting
  m = checked m'

  abbrev n : ℕ
  n = m'.size

  none : ℕ → ℕ
  none op = 0

  own_small : (b : Block) (e : Brought) (h : IsWhole n e) → Small (own_tuple (route m b) e.app e.body)
  own_small b e h = record { guard = guard_below m'.mode.kind e.body; app = h.below; rtag = tag_below b.virt }

  -- the frame of a write brings its data and its tag
  pub own_brought : (b : Block) (e : Brought) (h : IsWhole n e) → brought_by n (own_frame (route m b) e.app e.body) ≡ e
  own_brought b e h =
      let t = own_tuple (route m b) e.app e.body in
      same_brought (data_is n e.body t h.size) (ap (λ (t : Tuple). t.app) (tuple_is n e.body t h.size (own_small b e h)))

  module _ (b : Block) (free : IsUnnamed m b) (served : is_served m b ≡ true) where
    module _ (e : Brought) (h : IsWhole n e) where
      abbrev t : Tuple
      t = own_tuple (route m b) e.app e.body

      abbrev f : List ℕ
      f = own_frame (route m b) e.app e.body

      there : tuple_of n (own_frame (route m b) e.app e.body) ≡ own_tuple (route m b) e.app e.body
      there = tuple_is n e.body t h.size (own_small b e h)

      bare_frame : IsBare n (own_frame (route m b) e.app e.body)
      bare_frame = record { size = length-append e.body _ ∙ ap (λ k. k + 8) h.size; escape = ap (λ t. is_escaped One t) there ∙ h.bare }

      app_there : (tuple_of n (own_frame (route m b) e.app e.body)).app ≡ e.app
      app_there = ap (λ (t : Tuple). t.app) there

      goes : Outcome m' b f (way_out m'.site.faults m.site.device (route m b) f)
      goes = goes_out m' b f (near m' opening half none still b) bare_frame (free_out m' b f free)

      -- stored, and right
      pub record IsStoredRight : Type 0 where
        pub stored : List ℕ
        pub is : writing m b e ≡ Ok stored
        pub holds : SoundAs m' b.virt e stored

      pub stores : as_expected m e.app ≡ true → IsStoredRight
      stores expected =
          let body_there = data_is n e.body t h.size in
          let s = unnamed_stores m' b f bare_frame (record { guard = ap (λ (t : Tuple). t.guard) there ∙ ap (guard_of m'.mode.kind) (sym body_there); rtag = ap (λ (t : Tuple). t.rtag) there })
          (subst (λ a. as_expected m a ≡ true) (sym app_there) expected) free served (on_wire m' opening half none still b) in
          let o : Outcome m' b (own_frame (route m b) e.app e.body) (Stores s.carried s.stored) = subst (Outcome m' b f) s.is goes in
          let after : Sound m' (route m b).lba s.stored × (brought_by n s.stored ≡ brought_by n f) = subst (λ (c : Bool). After m' b f c s.stored) (free TargetToMedium) o.1 in
          record { stored = s.stored; is = ap stored_of s.is; holds = record { sound = after.0; brought = after.1 ∙ own_brought b e h } }

    -- a read of a block that is stored right
    pub record IsReadRight (e : Brought) (blocks : List (List ℕ)) : Type 0 where
      pub frame : List ℕ
      pub is : reading m b blocks ≡ Ok frame
      pub long : length frame ≡ n + 8
      pub brought : brought_by n frame ≡ e

    pub comes : (e : Brought) (blocks : List (List ℕ)) → SoundAs m' b.virt e (get_or blocks (home m b.virt) []) → IsReadRight e blocks
    comes e blocks s =
        let x = get_or blocks (home m b.virt) [] in
        let shift = no_shift m' opening half none still b in
        let h : Hands m' b OfBlock false (get_or blocks (home m b.virt) []) =
        subst (λ (o : Option Layer). Reading m' b OfBlock false x o)
        (λ i. first_of_three m' (shift MediumToTarget i || (free MediumToTarget i || false)) (shift AdapterToTarget i || free TargetToAdapter i) (free AdapterToHost i))
        (reads m' b OfBlock false x (record {
          reach = near m' opening half none still b;
          sound = λ _. subst (λ a. Sound m' a x) (sym (on_medium m' opening half none still b)) s.sound;
          spoilt = λ e. absurd (false≢true e);
          served = served;
          shown = free_in m' b x free (shift MediumToTarget);
        })) in
        record {
          frame = arrives m b x AtOwner;
          is =
              ap (λ i. delivered_of (way_in m'.site.faults m.site.device (route m b) OfBlock (get_or blocks i []))) (fetched_at m' opening half none still b)
              ∙ ap delivered_of h.way;
          long = h.under.size;
          brought = same_brought h.under.body (ap (λ (t : Tuple). t.app) h.under.tuple) ∙ s.brought;
        }

-- What holds of one block of a mirror along a script: each fresh leg has its last accepted write, and its good leg is fresh and not hit.
use Rattle.std.proofs.Common.{◌≡◌, ◌<◌, ◌≤◌, ℕ, ◌+◌, Bool, true, false, eqb, ◌&&◌, ◌||◌, not, if◌then◌else◌, List, [], ◌∷◌, ◌++◌, Option, Some, None, refl, sym, ap, subst, ◌∙◌, arith}
use Rattle.std.specs.Prelude.{pos, nat_abs, ◌+ℤ◌}
use Rattle.std.proofs.lemmas.Bool.{eq-eqb, ne_eqb, false≢true}
use Rattle.fault_schedule.specs.Altered.{shift_of}
use Rattle.fault_schedule.specs.declared.fault.Crossing.{Crossing}
use Rattle.fault_schedule.specs.declared.fault.Crossing.TheVariants.{AdapterToTarget, MediumToTarget, TargetToMedium}
use Rattle.bio_core.specs.declared.fate.Why.{Why}
use Rattle.bio_core.specs.declared.fate.Why.TheVariants.{Adapter, App, Block as ByOwner, Medium, Refused, Short, Target}
use Rattle.volume_table.specs.Places.{place_in, volume_len}
use Rattle.volume_table.specs.declared.device.DeviceInfo.{DeviceInfo}
use Rattle.block_path.specs.Acts.{State}
use Rattle.block_path.specs.Blocks.{fetched_cell, stored_cell}
use Rattle.block_path.specs.Routes.{medium_lba, moved, wire_lba}
use Rattle.walk_laws.specs.FirstLayer.{has_flip, has_shift, is_hit, is_misdirected, is_stored_whole, last_accepted, loses, tears}
use Rattle.walk_laws.specs.Past.{Accepted, Brought, Event, Lost, Overwritten, event_of}
use Rattle.walk_laws.specs.Settings.{Block, Setting, route}
use Rattle.walk_laws.specs.UnderMap.{home}
use Rattle.run_laws.specs.ShownRun.{HasCells, LiesOn, StaysNear}
use Rattle.mirror_laws.specs.Mirror.{marked, neither, twin}
use Rattle.mirror_laws.specs.declared.marks.Marks.{Marks}
use Rattle.mirror_laws.specs.OneGood.{on_leg}
use Rattle.run_laws.proofs.Along.{whole_so}
use Rattle.run_laws.proofs.Layers.{checked, unmoved}

module _ (m' : Setting) (opening : State) (half : ℕ) (count : ℕ → ℕ) (still : (at : Crossing) (op : ℕ) → shift_of m'.site.faults at op ≡ pos 0) where
  abbrev pub m : Setting
  m = checked m'

  abbrev pub second : Block → Block
  second b = twin m half count b

  -- what was last accepted of a virtual block
  abbrev pub last_at : ℕ → List Event → Brought
  last_at v past = last_accepted m opening (record { op = 0; k = 0; virt = v }) past

  pub last_same : (b : Block) (past : List Event) → last_accepted m opening b past ≡ last_at b.virt past
  last_same b [] = refl
  last_same b (Accepted a e ∷ past) = ap (λ r. if eqb a.virt b.virt then e else r) (last_same b past)
  last_same b (Lost a ∷ past) = last_same b past
  last_same b (Overwritten cell ∷ past) = last_same b past

  -- nothing is shifted
  pub no_shift : (b : Block) (at : Crossing) → has_shift m b at ≡ false
  no_shift b at = ap (λ z. not (eqb (nat_abs z) 0)) (still at b.op)

  pub on_wire : (b : Block) → wire_lba m'.site.faults (route m b) ≡ (route m b).lba
  on_wire b = unmoved m' (route m b).lba (shift_of m'.site.faults AdapterToTarget b.op) (ap nat_abs (still AdapterToTarget b.op))

  pub stored_at : (b : Block) → stored_cell m.site (route m b) ≡ home m b.virt
  stored_at b = ap (m'.site.cell (route m b).dev) (unmoved m' (wire_lba m'.site.faults (route m b)) (shift_of m'.site.faults TargetToMedium b.op) (ap nat_abs (still TargetToMedium b.op)) ∙ on_wire b)

  pub on_medium : (b : Block) → medium_lba m'.site.faults (route m b) ≡ (route m b).lba
  on_medium b = unmoved m' (wire_lba m'.site.faults (route m b)) (shift_of m'.site.faults MediumToTarget b.op) (ap nat_abs (still MediumToTarget b.op)) ∙ on_wire b

  pub fetched_at : (b : Block) → fetched_cell m.site (route m b) ≡ home m b.virt
  fetched_at b = ap (m'.site.cell (route m b).dev) (on_medium b)

  pub near : (b : Block) → StaysNear m b
  near b = record {
    near = subst (λ z. nat_abs z ≤ 64) (sym (still AdapterToTarget b.op)) (omega arith);
    above = ap (λ z. pos (moved (route m b).lba z)) (still AdapterToTarget b.op) ∙ ap (λ z. pos (route m b).lba +ℤ z) (sym (still AdapterToTarget b.op));
  }

  -- what an event changes
  last_hit : (b : Block) (e : Brought) (v : ℕ) (past : List Event) → b.virt ≡ v → last_at v (Accepted b e ∷ past) ≡ e
  last_hit b e v past q = ap (λ c. if c then e else last_at v past) (eq-eqb b.virt v q)

  last_miss : (b : Block) (e : Brought) (v : ℕ) (past : List Event) → (b.virt ≡ v → ⊥) → last_at v (Accepted b e ∷ past) ≡ last_at v past
  last_miss b e v past q = ap (λ c. if c then e else last_at v past) (ne_eqb b.virt v q)

  pub refused_last : (why : Why) (b : Block) (e : Brought) (v : ℕ) (past : List Event) → last_at v (event_of (Some why) b e ++ past) ≡ last_at v past
  refused_last Medium b e v past = refl
  refused_last (Adapter check) b e v past = refl
  refused_last (Target check) b e v past = refl
  refused_last (ByOwner check) b e v past = refl
  refused_last (App check) b e v past = refl
  refused_last (Refused key asc ascq) b e v past = refl
  refused_last Short b e v past = refl

  refused_hit : (why : Why) (b : Block) (e : Brought) (cell : ℕ) (past : List Event) → is_hit m cell (event_of (Some why) b e ++ past) ≡ is_hit m cell past
  refused_hit Medium b e cell past = refl
  refused_hit (Adapter check) b e cell past = refl
  refused_hit (Target check) b e cell past = refl
  refused_hit (ByOwner check) b e cell past = refl
  refused_hit (App check) b e cell past = refl
  refused_hit (Refused key asc ascq) b e cell past = refl
  refused_hit Short b e cell past = refl

  hit_here : (b : Block) (e : Brought) (v : ℕ) (past : List Event) → b.virt ≡ v → has_flip m b TargetToMedium ≡ false → is_stored_whole m b ≡ true → is_hit m (home m v) (Accepted b e ∷ past) ≡ false
  hit_here b e v past q free whole =
      let w = whole_so m b whole in
      let here = eq-eqb (stored_cell m.site (route m b)) (home m v) (stored_at b ∙ ap (home m) q) in
      λ i. if not (w.kept i) && here i then w.direct i || (w.untorn i || free i) else is_hit m (home m v) past

  abbrev pub place : (leg : Bool) → ℕ → ℕ
  place leg u = on_leg leg u (half + u)

  -- of block u, with these marks
  pub record Has (u : ℕ) (leg : Bool) (marks : Marks) (past mirror : List Event) : Type 0 where
    pub on0 : marks.leg0 ≡ true → last_at u past ≡ last_at u mirror
    pub on1 : marks.leg1 ≡ true → last_at (half + u) past ≡ last_at u mirror
    pub good : on_leg leg marks.leg0 marks.leg1 ≡ true
    pub unhit : is_hit m (home m (place leg u)) past ≡ false

  -- The good leg accepts what the other accepts.
  abbrev pub Follows : (leg : Bool) → (why other : Option Why) → Type 0
  Follows leg why other = on_leg leg other why ≡ None → on_leg leg why other ≡ None

  module _ (devices : List DeviceInfo) (lies : LiesOn (checked m') devices) (cells : HasCells (checked m') devices opening.blocks) (long : volume_len m'.entries ≡ half + half) where
    pub apart : (v w : ℕ) → v < half + half → w < half + half → (v ≡ w → ⊥) → home m v ≡ home m w → ⊥
    apart v w l k q e =
        let lv : v < volume_len m'.entries = omega (arith, l, long) in
        let lw : w < volume_len m'.entries = omega (arith, k, long) in
        let p = cells.apart (place_in m'.entries v).0 (place_in m'.entries v).1 (place_in m'.entries w).0 (place_in m'.entries w).1 (lies.inside v lv) (lies.inside w lw) e in
        let same : place_in m'.entries v ≡ place_in m'.entries w = λ i. (p.0 i, p.1 i) in
        q (lies.alone v w lv lw same)

    hit_miss : (b : Block) (e : Brought) (v : ℕ) (past : List Event) → b.virt < half + half → v < half + half → (b.virt ≡ v → ⊥) → is_hit m (home m v) (Accepted b e ∷ past) ≡ is_hit m (home m v) past
    hit_miss b e v past l k q =
        let there = ne_eqb (stored_cell m.site (route m b)) (home m v) (λ x. apart b.virt v l k q (sym (stored_at b) ∙ x)) in
        ap (λ c. if not (loses m b) && c then is_misdirected m b || (tears m b || has_flip m b TargetToMedium) else is_hit m (home m v) past) there ∙ by (loses m b)
      where
        by : (c : Bool) → (if not c && false then is_misdirected m b || (tears m b || has_flip m b TargetToMedium) else is_hit m (home m v) past) ≡ is_hit m (home m v) past
        by true = refl
        by false = refl

    same_last : (w : Option Why) (b : Block) (e : Brought) (v : ℕ) (past : List Event) → (b.virt ≡ v → ⊥) → last_at v (event_of w b e ++ past) ≡ last_at v past
    same_last None b e v past q = last_miss b e v past q
    same_last (Some why) b e v past q = refused_last why b e v past

    same_hit : (w : Option Why) (b : Block) (e : Brought) (v : ℕ) (past : List Event) → b.virt < half + half → v < half + half → (b.virt ≡ v → ⊥) → is_hit m (home m v) (event_of w b e ++ past) ≡ is_hit m (home m v) past
    same_hit None b e v past l k q = hit_miss b e v past l k q
    same_hit (Some why) b e v past l k q = refused_hit why b e (home m v) past

    module _ (u : ℕ) (within : u < half) (b : Block) (e : Brought) (inside : b.virt < half) where
      -- a write of another block
      pub elsewhere : (leg : Bool) (why other : Option Why) (marks : Marks) (past mirror : List Event) → (b.virt ≡ u → ⊥) → Has u leg marks past mirror →
          Has u leg marks (event_of other (second b) e ++ (event_of why b e ++ past)) (event_of (neither why other) b e ++ mirror)
      elsewhere leg why other marks past mirror q h = record {
        on0 = λ f. same_last other (second b) e u (event_of why b e ++ past) far ∙ same_last why b e u past q ∙ h.on0 f ∙ sym (same_last (neither why other) b e u mirror q);
        on1 = λ f. same_last other (second b) e (half + u) (event_of why b e ++ past) beside ∙ same_last why b e (half + u) past below ∙ h.on1 f ∙ sym (same_last (neither why other) b e u mirror q);
        good = h.good;
        unhit = by leg h.unhit;
      } where
        far : half + b.virt ≡ u → ⊥
        far x = omega (arith, x, within)

        beside : half + b.virt ≡ half + u → ⊥
        beside x = q (omega (arith, x))

        below : b.virt ≡ half + u → ⊥
        below x = omega (arith, x, inside)

        by : (leg : Bool) → is_hit m (home m (place leg u)) past ≡ false → is_hit m (home m (place leg u)) (event_of other (second b) e ++ (event_of why b e ++ past)) ≡ false
        by false k =
            same_hit other (second b) e u (event_of why b e ++ past) (omega (arith, inside)) (omega (arith, within)) far
            ∙ same_hit why b e u past (omega (arith, inside)) (omega (arith, within)) q ∙ k
        by true k =
            same_hit other (second b) e (half + u) (event_of why b e ++ past) (omega (arith, inside)) (omega (arith, within)) beside
            ∙ same_hit why b e (half + u) past (omega (arith, inside)) (omega (arith, within)) below ∙ k

      -- a write of this block
      module _ (q : b.virt ≡ u) where
        far_from : half + b.virt ≡ u → ⊥
        far_from x = omega (arith, x, within)

        twin_at : half + b.virt ≡ half + u
        twin_at = ap (λ v. half + v) q

        -- leg 0 isn't touched by what leg 1 accepts
        over : (past : List Event) → is_hit m (home m u) (Accepted (second b) e ∷ past) ≡ is_hit m (home m u) past
        over past = hit_miss (second b) e u past (omega (arith, inside)) (omega (arith, within)) far_from

        pub here : (leg : Bool) (why other : Option Why) (marks : Marks) (past mirror : List Event) → Follows leg why other → has_flip m (on_leg leg b (second b)) TargetToMedium ≡ false → is_stored_whole m (on_leg leg b (second b)) ≡ true → Has u leg marks past mirror →
            Has u leg (marked why other marks) (event_of other (second b) e ++ (event_of why b e ++ past)) (event_of (neither why other) b e ++ mirror)
        here false None None marks past mirror f free whole h = record {
          on0 = λ _. last_miss (second b) e u (Accepted b e ∷ past) far_from ∙ last_hit b e u past q ∙ sym (last_hit b e u mirror q);
          on1 = λ _. last_hit (second b) e (half + u) (Accepted b e ∷ past) twin_at ∙ sym (last_hit b e u mirror q);
          good = refl;
          unhit = over (Accepted b e ∷ past) ∙ hit_here b e u past q free whole;
        }
        here true None None marks past mirror f free whole h = record {
          on0 = λ _. last_miss (second b) e u (Accepted b e ∷ past) far_from ∙ last_hit b e u past q ∙ sym (last_hit b e u mirror q);
          on1 = λ _. last_hit (second b) e (half + u) (Accepted b e ∷ past) twin_at ∙ sym (last_hit b e u mirror q);
          good = refl;
          unhit = hit_here (second b) e (half + u) (Accepted b e ∷ past) twin_at free whole;
        }
        here false None (Some w) marks past mirror f free whole h = record {
          on0 = λ _. refused_last w (second b) e u (Accepted b e ∷ past) ∙ last_hit b e u past q ∙ sym (last_hit b e u mirror q);
          on1 = λ x. absurd (false≢true x);
          good = refl;
          unhit = refused_hit w (second b) e (home m u) (Accepted b e ∷ past) ∙ hit_here b e u past q free whole;
        }
        here true None (Some w) marks past mirror f free whole h = absurd (let x = f refl in cc)
        here false (Some w) None marks past mirror f free whole h = absurd (let x = f refl in cc)
        here true (Some w) None marks past mirror f free whole h = record {
          on0 = λ x. absurd (false≢true x);
          on1 = λ _. last_hit (second b) e (half + u) (event_of (Some w) b e ++ past) twin_at ∙ sym (last_hit b e u mirror q);
          good = refl;
          unhit = hit_here (second b) e (half + u) (event_of (Some w) b e ++ past) twin_at free whole;
        }
        here leg (Some w) (Some x) marks past mirror f free whole h = record {
          on0 = λ k. refused_last x (second b) e u (event_of (Some w) b e ++ past) ∙ refused_last w b e u past ∙ h.on0 k ∙ sym (refused_last w b e u mirror);
          on1 = λ k. refused_last x (second b) e (half + u) (event_of (Some w) b e ++ past) ∙ refused_last w b e (half + u) past ∙ h.on1 k ∙ sym (refused_last w b e u mirror);
          good = h.good;
          unhit = refused_hit x (second b) e (home m (place leg u)) (event_of (Some w) b e ++ past) ∙ refused_hit w b e (home m (place leg u)) past ∙ h.unhit;
        }

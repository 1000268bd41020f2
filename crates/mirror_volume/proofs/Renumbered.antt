-- A block's ways are those of another label, under other fault lines, that name for it what its own lines name.
use Rattle.std.proofs.Common.{◌≡◌, ℕ, ◌+◌, ◌-◌, ◌<◌, Bool, true, false, eqb, ◌&&◌, ◌||◌, if◌then◌else◌, List, [], ◌∷◌, Some, None, refl, sym, ap, ◌∙◌, arith, inl, inr}
use Rattle.std.specs.Prelude.{pos, bit_xor, nat_le, nat_lt, unwrap_or, Result, Ok, Err}
use Rattle.std.proofs.lemmas.Bool.{and_parts, and_from, eq-eqb, eqb-true, leb-true, le-leb, lt-ltb}
use Rattle.std.proofs.lemmas.Bool.Decides.{eqb_tells}
use Rattle.std.proofs.Math.Bool.{and-false}
use Rattle.pi_tuple.specs.declared.checks.Check.{Check}
use Rattle.pi_tuple.specs.declared.checks.PiType.{PiType}
use Rattle.fault_schedule.specs.Altered.{altered, fails_by, fails_of, flip_at, is_fail, is_line_of, is_same, keep_by, keep_of, keep_or, kept, kept_by, kept_bytes, moved_by, named, named_by, shift_of, xored_from}
use Rattle.fault_schedule.specs.declared.Label.{Label}
use Rattle.fault_schedule.specs.declared.fault.Crossing.{Crossing}
use Rattle.fault_schedule.specs.declared.fault.Crossing.TheVariants.{AdapterToHost, AdapterToTarget, HostToAdapter, MediumToTarget, TargetToAdapter, TargetToMedium}
use Rattle.fault_schedule.specs.declared.fault.FaultKind.{FaultKind}
use Rattle.fault_schedule.specs.declared.fault.FaultKind.TheVariants.{Flip, Shift, Keep, Fail}
use Rattle.fault_schedule.specs.declared.fault.FaultLine.{FaultLine}
use Rattle.integrity_payload.specs.declared.payload.Owner.{Owner}
use Rattle.bio_core.specs.declared.fate.Why.{Why}
use Rattle.bio_core.specs.declared.request.Dir.TheVariants.{Read, Write}
use Rattle.rig_api.specs.Passing.{accepted, found_in, from_medium, released, then_crossed, to_medium, unless}
use Rattle.block_path.specs.declared.mode.Mode.{Mode}
use Rattle.block_path.specs.declared.operation.Operation.{Operation}
use Rattle.block_path.specs.declared.operation.Operation.TheVariants.{Normal, ReadInsert, ReadPass, ReadStrip, WriteInsert, WritePass, WriteStrip}
use Rattle.block_path.specs.declared.route.Route.{Route}
use Rattle.block_path.specs.Operations.{handed_on, operation_of}
use Rattle.block_path.specs.Routes.{by_target, medium_lba, moved, passage, sends_unless, stored_lba, stores_unless, target, wire_lba}
use Rattle.block_path.specs.WayIn.{Delivers, Spoils, Stops, WayIn, adapter_finds_in, at_host, from_device, from_wire, received, verified, way_in}
use Rattle.block_path.specs.WayOut.{adapter_finds_out, at_device, checked_out, from_adapter, mapped_out, to_wire, way_out}
use Rattle.script_text.specs.Bindings.{is_shift}
use Rattle.script_stack.specs.Passed.{Each}
use Rattle.mirror_volume.specs.declared.piece.Piece.{Piece}
use Rattle.mirror_volume.specs.Inner.{first_label, own_faults}

-- ---- what is named

pub eqb_same : (a b c d : ℕ) → (a ≡ b → c ≡ d) → (c ≡ d → a ≡ b) → eqb a b ≡ eqb c d
eqb_same a b c d to back = elim (eqb_tells a b) [
  | inl same ↦ same.0 ∙ sym (eq-eqb c d (to same.1))
  | inr other ↦ elim (eqb_tells c d) [
    | inl same ↦ absurd (other.1 (back same.1))
    | inr others ↦ other.0 ∙ sym others.0
  ]
]

not_both : (a b : Bool) → (a ≡ true → b ≡ true → ⊥) → a && b ≡ false
not_both true true h = absurd (h refl refl)
not_both true false h = refl
not_both false b h = refl

module _ (p : Piece) (request : ℕ) where
  -- the line is of a block of the piece
  abbrev pub is_own : FaultLine → Bool
  is_own f = eqb f.op p.op && (nat_le (first_label p) f.k && nat_lt f.k (first_label p + p.n))

  abbrev pub own_line : FaultLine → FaultLine
  own_line f = record f { op = request; k = f.k - first_label p }

  abbrev own_label : ℕ → Label
  own_label k = record { op = request; k = k }

  abbrev mirror_label : ℕ → Label
  mirror_label k = record { op = p.op; k = first_label p + k }

  block_same : (f : FaultLine) (k : ℕ) → is_own f ≡ true → eqb request request && eqb (f.k - first_label p) k ≡ eqb f.op p.op && eqb f.k (first_label p + k)
  block_same f k h =
      let a = and_parts (eqb f.op p.op) (nat_le (first_label p) f.k && nat_lt f.k (first_label p + p.n)) h in
      let b = leb-true (first_label p) f.k (and_parts (nat_le (first_label p) f.k) (nat_lt f.k (first_label p + p.n)) a.1).0 in
      let e : eqb (f.k - first_label p) k ≡ eqb f.k (first_label p + k) = eqb_same (f.k - first_label p) k f.k (first_label p + k) (λ x. omega arith) (λ x. omega arith) in
      let own : eqb request request ≡ true = eq-eqb request request refl in
      λ i. (own ∙ sym a.0) i && e i

  line_same : (f : FaultLine) (at : Crossing) (k : ℕ) → is_own f ≡ true → is_line_of (own_line f) at (own_label k) ≡ is_line_of f at (mirror_label k)
  line_same f at k h = ap (λ c. is_same f.at at && c) (block_same f k h)

  other_block : (f : FaultLine) (k : ℕ) → k < p.n → is_own f ≡ false → eqb f.op p.op && eqb f.k (first_label p + k) ≡ false
  other_block f k l h =
      not_both (eqb f.op p.op) (eqb f.k (first_label p + k)) (λ a b.
      let e = eqb-true f.k (first_label p + k) b in
      let low = le-leb (first_label p) f.k (omega arith) in
      let high = lt-ltb f.k (first_label p + p.n) (omega arith) in
      let t = and_from (eqb f.op p.op) (nat_le (first_label p) f.k && nat_lt f.k (first_label p + p.n)) a (and_from (nat_le (first_label p) f.k) (nat_lt f.k (first_label p + p.n)) low high) in cc)

  other_line : (f : FaultLine) (at : Crossing) (k : ℕ) → k < p.n → is_own f ≡ false → is_line_of f at (mirror_label k) ≡ false
  other_line f at k l h = ap (λ c. is_same f.at at && c) (other_block f k l h) ∙ and-false (is_same f.at at)

  named_same : (faults : List FaultLine) (at : Crossing) (k i : ℕ) → k < p.n → named (own_faults p request faults) at (own_label k) i ≡ named faults at (mirror_label k) i
  named_same [] at k i l = refl
  named_same (f ∷ faults) at k i l = by (is_own f) (named_same faults at k i l) refl where
    by : (c : Bool) → named (own_faults p request faults) at (own_label k) i ≡ named faults at (mirror_label k) i → is_own f ≡ c → named (if c then own_line f ∷ own_faults p request faults else own_faults p request faults) at (own_label k) i ≡ named (f ∷ faults) at (mirror_label k) i
    by true rest h =
        ap (λ c. bit_xor (if c then flip_at f.kind i else 0) (named (own_faults p request faults) at (own_label k) i)) (line_same f at k h)
        ∙ ap (bit_xor (named_by f at (mirror_label k) i)) rest
    by false rest h =
        rest ∙ sym (ap (λ c. bit_xor (if c then flip_at f.kind i else 0) (named faults at (mirror_label k) i)) (other_line f at k l h))

  pub altered_same : (faults : List FaultLine) (k : ℕ) → k < p.n → (at : Crossing) (x : List ℕ) → altered (own_faults p request faults) at (own_label k) x ≡ altered faults at (mirror_label k) x
  altered_same faults k l at x = λ j. xored_from (λ i. named_same faults at k i l j) 0 x

  keep_same : (faults : List FaultLine) (k : ℕ) → k < p.n → keep_of (own_faults p request faults) (own_label k) ≡ keep_of faults (mirror_label k)
  keep_same [] k l = refl
  keep_same (f ∷ faults) k l = by (is_own f) (keep_same faults k l) refl where
    by : (c : Bool) → keep_of (own_faults p request faults) (own_label k) ≡ keep_of faults (mirror_label k) → is_own f ≡ c → keep_of (if c then own_line f ∷ own_faults p request faults else own_faults p request faults) (own_label k) ≡ keep_of (f ∷ faults) (mirror_label k)
    by true rest h =
        ap (λ c. keep_or (if c then kept_bytes f.kind else None) (keep_of (own_faults p request faults) (own_label k))) (line_same f TargetToMedium k h)
        ∙ ap (keep_or (keep_by f (mirror_label k))) rest
    by false rest h =
        rest ∙ sym (ap (λ c. keep_or (if c then kept_bytes f.kind else None) (keep_of faults (mirror_label k))) (other_line f TargetToMedium k l h))

  pub kept_same : (faults : List FaultLine) (k : ℕ) → k < p.n → (old frame : List ℕ) → kept (own_faults p request faults) (own_label k) old frame ≡ kept faults (mirror_label k) old frame
  kept_same faults k l old frame = ap (λ n. kept_by n old frame) (keep_same faults k l)

  -- the medium fails the same blocks
  pub fails_same : (faults : List FaultLine) (k : ℕ) → k < p.n → fails_of (own_faults p request faults) (own_label k) ≡ fails_of faults (mirror_label k)
  fails_same [] k l = refl
  fails_same (f ∷ faults) k l = by (is_own f) (fails_same faults k l) refl where
    by : (c : Bool) → fails_of (own_faults p request faults) (own_label k) ≡ fails_of faults (mirror_label k) → is_own f ≡ c → fails_of (if c then own_line f ∷ own_faults p request faults else own_faults p request faults) (own_label k) ≡ fails_of (f ∷ faults) (mirror_label k)
    by true rest h =
        ap (λ c. (is_fail f.kind && c) || fails_of (own_faults p request faults) (own_label k)) (block_same f k h)
        ∙ ap (λ c. fails_by f (mirror_label k) || c) rest
    by false rest h =
        rest
        ∙ sym (ap (λ c. (is_fail f.kind && c) || fails_of faults (mirror_label k)) (other_block f k l h) ∙ ap (λ c. c || fails_of faults (mirror_label k)) (and-false (is_fail f.kind)))

  pub own_flips : (faults : List FaultLine) → Each (λ f. is_shift f.kind ≡ false) faults → Each (λ f. is_shift f.kind ≡ false) (own_faults p request faults)
  own_flips [] h = tt
  own_flips (f ∷ faults) h = by (is_own f) (own_flips faults h.1) where
    by : (c : Bool) → Each (λ f. is_shift f.kind ≡ false) (own_faults p request faults) → Each (λ f. is_shift f.kind ≡ false) (if c then own_line f ∷ own_faults p request faults else own_faults p request faults)
    by true rest = (h.0, rest)
    by false rest = rest

-- ---- nothing is shifted

none_moved : (c : Bool) (kind : FaultKind) → is_shift kind ≡ false → (if c then moved_by kind else None) ≡ None
none_moved true (Flip off bytes) h = refl
none_moved true (Shift by) h = absurd (cc)
none_moved true (Keep bytes) h = refl
none_moved true Fail h = refl
none_moved false kind h = refl

pub still : (faults : List FaultLine) → Each (λ f. is_shift f.kind ≡ false) faults → (at : Crossing) (op : ℕ) → shift_of faults at op ≡ pos 0
still [] h at op = refl
still (f ∷ faults) h at op = ap (λ o. unwrap_or o (shift_of faults at op)) (none_moved (is_same f.at at && eqb f.op op) f.kind h.0) ∙ still faults h.1 at op

-- ---- the ways

module _ (F G : List FaultLine) (l q : Label) (virt dev lba : ℕ) (ty : PiType) (size : ℕ) (mode : Mode) (same : (at : Crossing) (x : List ℕ) → altered F at l x ≡ altered G at q x)
    (shift : (at : Crossing) → shift_of F at l.op ≡ shift_of G at q.op) (fails : fails_of F l ≡ fails_of G q) where
  abbrev r : Route
  r = record { label = l; virt = virt; dev = dev; lba = lba; ty = ty; size = size; mode = mode }

  abbrev w : Route
  w = record { label = q; virt = virt; dev = dev; lba = lba; ty = ty; size = size; mode = mode }

  wire_same : wire_lba F r ≡ wire_lba G w
  wire_same = ap (moved lba) (shift AdapterToTarget)

  pub medium_same : medium_lba F r ≡ medium_lba G w
  medium_same = λ i. moved (wire_same i) (shift MediumToTarget i)

  pub stored_same : stored_lba F r ≡ stored_lba G w
  stored_same = λ i. moved (wire_same i) (shift TargetToMedium i)

  then_same : (at : Crossing) (came : Result (List ℕ) Check) → then_crossed F (Some l) at came ≡ then_crossed G (Some q) at came
  then_same at (Ok x) = λ i. Ok (same at x i)
  then_same at (Err check) = refl

  accepted_same : (x : List ℕ) → accepted (passage F r) x ≡ accepted (passage G w) x
  unfolding found_in
  accepted_same x = ap (λ a. accepted (record (passage F r) { lba = a }) x) wire_same

  released_same : (x : List ℕ) → released (passage F r) x ≡ released (passage G w) x
  unfolding found_in
  released_same x = ap (λ a. released (record (passage F r) { lba = a }) x) wire_same

  stores_same : (x : List ℕ) → (target F).stores r x ≡ (target G).stores w x
  unfolding to_medium
  stores_same x =
      ap (λ c. stores_unless c (by_target (to_medium F (passage F r) x))) fails
      ∙ ap (λ came. stores_unless (fails_of G q) (by_target came))
      (then_same TargetToMedium (accepted (passage F r) (altered F AdapterToTarget l x))
      ∙ ap (then_crossed G (Some q) TargetToMedium) (ap (accepted (passage F r)) (same AdapterToTarget x) ∙ accepted_same (altered G AdapterToTarget q x)))

  sends_same : (x : List ℕ) → (target F).sends r x ≡ (target G).sends w x
  unfolding from_medium
  sends_same x =
      ap (λ c. sends_unless c (by_target (from_medium F (passage F r) x))) fails
      ∙ ap (λ came. sends_unless (fails_of G q) (by_target came))
      (then_same TargetToAdapter (released (passage F r) (altered F MediumToTarget l x))
      ∙ ap (then_crossed G (Some q) TargetToAdapter) (ap (released (passage F r)) (same MediumToTarget x) ∙ released_same (altered G MediumToTarget q x)))

  behind_same : (came : Result (List ℕ) Check) → from_adapter (target F) r came ≡ from_adapter (target G) w came
  behind_same (Ok carried) = ap (at_device carried) (stores_same carried)
  behind_same (Err check) = refl

  handed_same : (o : Operation) (x : List ℕ) → handed_on o r x ≡ handed_on o w x
  handed_same Normal x = refl
  handed_same WriteInsert x = refl
  handed_same ReadStrip x = refl
  handed_same WriteStrip x = refl
  handed_same ReadInsert x = refl
  handed_same WritePass x = refl
  handed_same ReadPass x = refl

  checked_same : (x : List ℕ) → checked_out r x ≡ checked_out w x
  checked_same x = ap (unless (adapter_finds_out r x)) (handed_same (operation_of r Write) x)

  pub out_same : (frame : List ℕ) → way_out F (target F) r frame ≡ way_out G (target G) w frame
  unfolding to_wire
  out_same frame =
      ap (λ x. from_adapter (target F) r (checked_out r x)) (same HostToAdapter (mapped_out r frame))
      ∙ ap (from_adapter (target F) r) (checked_same (altered G HostToAdapter q (mapped_out r frame)))
      ∙ behind_same (checked_out w (altered G HostToAdapter q (mapped_out r frame)))

  host_same : (x : List ℕ) → from_wire F r x ≡ from_wire G w x
  unfolding from_wire
  host_same x =
      then_same AdapterToHost (unless (adapter_finds_in r x) (received r x))
      ∙ ap (λ f. then_crossed G (Some q) AdapterToHost (unless (adapter_finds_in r x) f)) (handed_same (operation_of r Read) x)

  device_same : (came : Result (List ℕ) Why) → from_device F r came ≡ from_device G w came
  device_same (Ok carried) = ap (at_host carried) (host_same carried)
  device_same (Err why) = refl

  verified_same : (owner : Owner) (came : WayIn) → verified r owner came ≡ verified w owner came
  verified_same owner (Stops why) = refl
  verified_same owner (Spoils why carried) = refl
  verified_same owner (Delivers carried frame) = refl

  pub in_same : (owner : Owner) (stored : List ℕ) → way_in F (target F) r owner stored ≡ way_in G (target G) w owner stored
  in_same owner stored =
      ap (verified r owner) (ap (from_device F r) (sends_same stored) ∙ device_same ((target G).sends w stored))
      ∙ verified_same owner (from_device G w ((target G).sends w stored))

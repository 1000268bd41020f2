-- One block on its way, where all lines that name it at a crossing are shown together.
use Rattle.std.proofs.Common.{◌≡◌, ◌<◌, ℕ, ◌+◌, ◌%◌, ◌^◌, Bool, true, false, eqb, ◌&&◌, ◌||◌, not, if◌then◌else◌, List, ◌++◌, length, take, drop, Option, Some, None, refl, sym, ap, subst, ◌∙◌, length-append}
use Rattle.std.specs.Prelude.{All, Result}
use Rattle.std.specs.Int.{w16, w32, from_be_bytes, to_be_bytes}
use Rattle.std.specs.List.{list_all}
use Rattle.std.proofs.lemmas.Bool.{and_from, and_parts, ne_eqb, not_from_false, or_left}
use Rattle.pi_guard.specs.Guards.{guard_of}
use Rattle.pi_guard.specs.declared.GuardKind.{GuardKind}
use Rattle.pi_guard.specs.declared.GuardKind.TheVariants.{Crc, Ip}
use Rattle.pi_guard.proofs.GuardSizes.{guard_below}
use Rattle.pi_tuple.specs.Finds.{finding, is_escaped}
use Rattle.pi_tuple.specs.Tuples.{ref_tag, tuple_bytes}
use Rattle.pi_tuple.specs.declared.tuple.Tuple.{Tuple}
use Rattle.pi_tuple.specs.declared.checks.PiType.TheVariants.{One}
use Rattle.pi_tuple.specs.declared.checks.Check.{Check}
use Rattle.pi_tuple.proofs.TupleLaws.{tag_below}
use Rattle.fault_schedule.specs.Altered.{fails_of, named}
use Rattle.fault_schedule.specs.declared.fault.Crossing.{Crossing}
use Rattle.fault_schedule.specs.declared.fault.Crossing.TheVariants.{AdapterToHost, AdapterToTarget, HostToAdapter, MediumToTarget, TargetToAdapter, TargetToMedium}
use Rattle.fault_schedule.specs.declared.fault.FaultLine.{FaultLine}
use Rattle.integrity_payload.specs.Payloads.{all_asked}
use Rattle.ref_remap.specs.Remapped.{remapped_bytes}
use Rattle.rig_api.specs.Frames.{data_of, tuple_of}
use Rattle.rig_api.specs.Passing.{found_in, then_crossed, to_medium}
use Rattle.block_path.specs.Blocks.{own_frame, own_tuple}
use Rattle.block_path.specs.Routes.{by_target, is_crc, passage, with_guard, wire_lba}
use Rattle.block_path.specs.WayIn.{adapter_finds_in, received}
use Rattle.block_path.specs.WayOut.{Fails, Refuses, Stores, WayOut, adapter_finds_out, at_device, from_adapter, mapped_out, sent, to_wire, way_out}
use Rattle.block_path.proofs.Cells.{AllBelow}
use Rattle.block_path.proofs.Served.{stored_or}
use Rattle.block_path.proofs.Sizes.{altered_length}
use Rattle.run_laws.specs.Passed.{arrives, asks_app, bears, bears_some, crossed, found, guard_at, if_passed, is_foreign, shows, shows_at_medium, shows_in, shows_on_wire, shows_out, AtAdapter, AtTarget, has_flip, has_shift, as_expected, Block, Setting, route}
use Rattle.run_laws.proofs.Passed.{Small, below_append, below_drop, below_take, data_is, four_below, tuple_below, tuple_is, two_below}
use Rattle.run_laws.proofs.Found.{bears_both, expected, passed, unless_rule}
use Rattle.run_laws.proofs.Framed.{guarded, mapped_body, mapped_length, mapped_tuple, not_altered}
use Rattle.run_laws.proofs.Layers.{checked, found_is}
use Rattle.run_premises.specs.Forms.{is_none, is_seen, is_shown, kind_at, mask_of}
use Rattle.run_premises.specs.FormedRun.{IsOfBytes}
use Rattle.run_premises.proofs.Frames.{app_stays, not_right, xored_below}
use Rattle.run_premises.proofs.Lines.{named_below}

-- no escape, with another guard than that of the data
foreign_by : (m : Setting) (b : Block) (at : Crossing) (g : ℕ) (t : Tuple) → is_escaped One t ≡ false → eqb t.guard g ≡ false → (not (is_escaped One t) && not (bears_some m b t g && (not (asks_app at) || as_expected m t.app))) ≡ true
foreign_by m b at g t e h = rw (e, h) refl

asked_if : (o : Option Check) (rest : Bool) → (o ≡ None → rest ≡ true) → if_passed o rest ≡ true
asked_if None rest h = h refl
asked_if (Some c) rest h = refl

remapped_below : (from to : ℕ) (b : List ℕ) → AllBelow 256 b → AllBelow 256 (remapped_bytes One from to b)
remapped_below from to b h = below_append 256 (take 4 b) _ (below_take 256 4 b h) (by (eqb (from_be_bytes w32 (drop 4 b)) (ref_tag from))) where
  by : (c : Bool) → AllBelow 256 (if c then to_be_bytes w32 (ref_tag to) else drop 4 b)
  by true = four_below (ref_tag to)
  by false = below_drop 256 4 b h

module _ (m' : Setting) where
  abbrev pub m : Setting
  m = checked m'

  abbrev pub n : ℕ
  n = m'.size

  abbrev pub kind : GuardKind
  kind = m'.mode.kind

  abbrev faults : List FaultLine
  faults = m'.site.faults

  -- a frame of full size, of bytes, that is no escape
  pub record Fine (x : List ℕ) : Type 0 where
    pub size : length x ≡ n + 8
    pub bytes : AllBelow 256 x
    pub escape : is_escaped One (tuple_of n x) ≡ false

  -- its guard is that of its data
  abbrev pub Right : GuardKind → List ℕ → Type 0
  Right k x = (tuple_of n x).guard ≡ guard_of k (data_of n x)

  -- ---- frames of the host

  pub own_fine : (b : Block) (app : ℕ) (x : List ℕ) → length x ≡ n → AllBelow 256 x → app < 2 ^ 16 → is_escaped One (own_tuple (route m b) app x) ≡ false → Fine (own_frame (route m b) app x)
  own_fine b app x l h a e =
      let t = own_tuple (route m b) app x in
      let small : Small t = record { guard = guard_below m'.mode.kind x; app = a; rtag = tag_below b.virt } in
      record {
        size = length-append x (tuple_bytes t) ∙ ap (λ k. k + 8) l;
        bytes = below_append 256 x (tuple_bytes t) h (tuple_below t);
        escape = ap (λ u. is_escaped One u) (tuple_is n x t l small) ∙ e;
      }

  pub own_right : (b : Block) (app : ℕ) (x : List ℕ) → length x ≡ n → app < 2 ^ 16 → Right m'.mode.kind (own_frame (route m b) app x)
  own_right b app x l a =
      let t = own_tuple (route m b) app x in
      let small : Small t = record { guard = guard_below m'.mode.kind x; app = a; rtag = tag_below b.virt } in
      ap (λ (u : Tuple). u.guard) (tuple_is n x t l small) ∙ ap (guard_of m'.mode.kind) (sym (data_is n x t l))

  guard_is : (at : Crossing) (bytes : List ℕ) → guard_at m at bytes ≡ guard_of (kind_at kind at) bytes
  guard_is HostToAdapter bytes = refl
  guard_is AdapterToTarget bytes = refl
  guard_is TargetToMedium bytes = refl
  guard_is MediumToTarget bytes = refl
  guard_is TargetToAdapter bytes = refl
  guard_is AdapterToHost bytes = refl

  -- ---- frames that are mapped, converted, checked

  pub mapped_fine : (from to : ℕ) (x : List ℕ) → Fine x → Fine (data_of n x ++ remapped_bytes One from to (drop n x))
  mapped_fine from to x h = record {
    size = mapped_length n x h.size One from to;
    bytes = below_append 256 (take n x) (remapped_bytes One from to (drop n x)) (below_take 256 n x h.bytes) (remapped_below from to (drop n x) (below_drop 256 n x h.bytes));
    escape = ap (λ t. is_escaped One t) (mapped_tuple n x h.size One from to) ∙ h.escape;
  }

  mapped_right : (k : GuardKind) (from to : ℕ) (x : List ℕ) → Fine x → Right k x → Right k (data_of n x ++ remapped_bytes One from to (drop n x))
  mapped_right k from to x h r = ap (λ (t : Tuple). t.guard) (mapped_tuple n x h.size One from to) ∙ r ∙ ap (guard_of k) (sym (mapped_body n x h.size One from to))

  converted_fine : (to : GuardKind) (c : Bool) (x : List ℕ) → Fine x → Fine (if c then x else with_guard n (guard_of to (data_of n x)) x)
  converted_fine to true x h = h
  converted_fine to false x h =
      let u = guarded n x h.size (guard_of to (data_of n x)) (guard_below to (data_of n x)) (tuple_of n x).rtag refl in
      record {
        size = u.size;
        bytes = below_append 256 (take n x) _ (below_take 256 n x h.bytes) (below_append 256 (to_be_bytes w16 (guard_of to (data_of n x))) (drop (n + 2) x) (two_below (guard_of to (data_of n x))) (below_drop 256 (n + 2) x h.bytes));
        escape = ap (λ t. is_escaped One t) u.tuple ∙ h.escape;
      }

  new_right : (to : GuardKind) (x : List ℕ) → Fine x → Right to (with_guard n (guard_of to (data_of n x)) x)
  new_right to x h =
      let u = guarded n x h.size (guard_of to (data_of n x)) (guard_below to (data_of n x)) (tuple_of n x).rtag refl in
      ap (λ (t : Tuple). t.guard) u.tuple ∙ ap (guard_of to) (sym u.body)

  pub sent_fine : (b : Block) (x : List ℕ) → Fine x → Fine (sent (route m b) x)
  sent_fine b x h = converted_fine Crc (is_crc kind) x h

  pub received_fine : (b : Block) (x : List ℕ) → Fine x → Fine (received (route m b) x)
  received_fine b x h = converted_fine Ip (is_crc kind) x h

  pub sent_right : (b : Block) (x : List ℕ) → Fine x → Right kind x → Right Crc (sent (route m b) x)
  sent_right b x h = by kind where
    by : (k : GuardKind) → Right k x → Right Crc (if is_crc k then x else with_guard n (guard_of Crc (data_of n x)) x)
    by Crc r = r
    by Ip r = new_right Crc x h

  pub received_right : (b : Block) (x : List ℕ) → Fine x → Right Crc x → Right kind (received (route m b) x)
  received_right b x h r = by kind where
    by : (k : GuardKind) → Right k (if is_crc k then x else with_guard n (guard_of Ip (data_of n x)) x)
    by Crc = r
    by Ip = new_right Ip x h

  -- a frame in which nothing is found has the right guard
  checked_right : (k : GuardKind) (mask want : ℕ) (x : List ℕ) → Fine x → finding One (all_asked m'.mode.app mask) want (guard_of k (data_of n x)) (tuple_of n x) ≡ None → Right k x
  checked_right k mask want x h none =
      let p = and_parts (bears (tuple_of n x) (guard_of k (data_of n x)) want) (expected m'.mode.app mask (tuple_of n x)) (passed m'.mode.app mask want (guard_of k (data_of n x)) (tuple_of n x) h.escape none) in
      (bears_both (tuple_of n x) (guard_of k (data_of n x)) want p.0).guard

  at_adapter : (b : Block) (x : List ℕ) → Fine x → adapter_finds_out (route m b) x ≡ None → Right kind x
  at_adapter b x h none = checked_right kind m'.mode.mask (ref_tag (route m b).lba) x h none

  at_target : (b : Block) (x : List ℕ) → Fine x → found_in (passage faults (route m b)) x ≡ None → Right Crc x
  at_target b x h none = checked_right Crc 0 (ref_tag (wire_lba faults (route m b))) x h (sym (found_is m' b x) ∙ none)

  from_target : (b : Block) (x : List ℕ) → Fine x → adapter_finds_in (route m b) x ≡ None → Right Crc x
  from_target b x h none = checked_right Crc m'.mode.mask (ref_tag (route m b).lba) x h none

  -- ---- one block, of which the lines at each crossing together are shown

  module _ (even : m'.size % 2 ≡ 0) (flips : All (λ (line : FaultLine). IsOfBytes line.kind) m'.site.faults) (b : Block)
      (shown : (at : Crossing) → has_flip (checked m') b at ≡ true → is_shown m'.size (kind_at m'.mode.kind at) (mask_of m'.size m'.site.faults at (route (checked m') b).label) ≡ true) where
    -- ---- a crossing

    below_all : (at : Crossing) (k : ℕ) → named faults at (route m b).label k < 256
    below_all at k = named_below faults at (route m b).label flips k

    pub crossed_fine : (at : Crossing) (x : List ℕ) → Fine x → Fine (crossed m b at x)
    crossed_fine at x h = record {
      size = altered_length faults at (route m b).label x ∙ h.size;
      bytes = xored_below (named faults at (route m b).label) 0 x (below_all at) h.bytes;
      escape = by (has_flip m b at) refl;
    } where
      by : (c : Bool) → has_flip m b at ≡ c → is_escaped One (tuple_of n (crossed m b at x)) ≡ false
      by false q = ap (λ y. is_escaped One (tuple_of n y)) (not_altered faults at (route m b).label x q) ∙ h.escape
      by true q =
          let s = and_parts (list_all is_none (drop (n + 2) (mask_of n faults at (route m b).label))) _ (shown at q) in
          ap (λ a. eqb a 0xFFFF) (app_stays n (named faults at (route m b).label) (below_all at) x h.size h.bytes s.0) ∙ h.escape

    pub crossed_same : (at : Crossing) (x : List ℕ) → has_flip m b at ≡ false → crossed m b at x ≡ x
    crossed_same at x q = not_altered faults at (route m b).label x q

    -- a frame with the right guard shows what alters it
    pub shown_at : (at : Crossing) (x : List ℕ) → Fine x → (has_flip m b at ≡ true → Right (kind_at kind at) x) → shows m b at x ≡ true
    shown_at at x h right = by (has_flip m b at) refl where
      y : List ℕ
      y = crossed m b at x

      by : (c : Bool) → has_flip m b at ≡ c → (not c || is_foreign m b at (guard_at m at (data_of n (crossed m b at x))) (tuple_of n (crossed m b at x))) ≡ true
      by false q = refl
      by true q =
          let z = crossed m b at x in
          let f = crossed_fine at x h in
          let s = and_parts (list_all is_none (drop (n + 2) (mask_of n faults at (route m b).label))) (is_seen (kind_at kind at) (take (n + 2) (mask_of n faults at (route m b).label))) (shown at q) in
          let wrong = not_right n (named faults at (route m b).label) (below_all at) x h.size h.bytes (kind_at kind at) even s.1 (right q) in
          foreign_by m b at (guard_at m at (data_of n z)) (tuple_of n z) f.escape (ne_eqb _ _ (λ e. wrong (e ∙ guard_is at (data_of n z))))

    -- ---- the way out

    abbrev pub Kept : WayOut → Type 0
    Kept (Fails why) = Unit {0}
    Kept (Refuses why) = Unit {0}
    Kept (Stores carried stored) = Fine stored × (has_flip m b TargetToMedium ≡ false → Right Crc stored)

    -- the guard that a host's frame brings is right, or nothing alters it before it is checked
    abbrev pub Brings : List ℕ → Type 0
    Brings f = has_flip m b HostToAdapter ≡ true → Right kind f

    shows_then : (y : List ℕ) → Fine y → shows_at_medium m b y ≡ true
    shows_then y h =
        asked_if (found_in (passage faults (route m b)) y) (shows m b TargetToMedium y) (λ none. shown_at TargetToMedium y h (λ q. at_target b y h none))

    shows_next : (y : List ℕ) → Fine y → shows_on_wire m b y ≡ true
    shows_next y h =
        let z = sent (route m b) y in
        let f = sent_fine b y h in
        asked_if (adapter_finds_out (route m b) y) (shows m b AdapterToTarget z && shows_at_medium m b (crossed m b AdapterToTarget z)) (λ none.
        and_from (shows m b AdapterToTarget z) (shows_at_medium m b (crossed m b AdapterToTarget z))
        (shown_at AdapterToTarget z f (λ q. sent_right b y h (at_adapter b y h none)))
        (shows_then (crossed m b AdapterToTarget z) (crossed_fine AdapterToTarget z f)))

    pub goes_shown : (f : List ℕ) → Fine f → Brings f → shows_out m b f ≡ true
    goes_shown f h brings =
        let x = mapped_out (route m b) f in
        let fine = mapped_fine b.virt (route m b).lba f h in
        and_from (shows m b HostToAdapter x) (shows_on_wire m b (crossed m b HostToAdapter x))
        (shown_at HostToAdapter x fine (λ q. mapped_right kind b.virt (route m b).lba f h (brings q)))
        (shows_next (crossed m b HostToAdapter x) (crossed_fine HostToAdapter x fine))

    abbrev by_the_target : List ℕ → Result (List ℕ) Check → WayOut
    by_the_target x came = at_device x (by_target (then_crossed faults (Some (route m b).label) TargetToMedium came))

    onto_medium : (y : List ℕ) → Fine y → Right Crc y → Fine (crossed m b TargetToMedium y) × (has_flip m b TargetToMedium ≡ false → Right Crc (crossed m b TargetToMedium y))
    onto_medium y h r = (crossed_fine TargetToMedium y h, λ q. subst (Right Crc) (sym (crossed_same TargetToMedium y q)) r)

    to_target : (x : List ℕ) → Fine x → Kept (at_device x (m.site.device.stores (route m b) x))
    unfolding to_medium
    to_target x h =
        let y = crossed m b AdapterToTarget x in
        let f = crossed_fine AdapterToTarget x h in
        stored_or (λ came. Kept (at_device x came)) (λ why. tt) (fails_of faults (route m b).label) (by_target (to_medium faults (passage faults (route m b)) x))
        (unless_rule Kept (by_the_target x) (found_in (passage faults (route m b)) y) y (λ c. tt) (λ none. onto_medium y f (at_target b y f none)))

    to_adapter : (x : List ℕ) → Fine x → Kept (from_adapter m.site.device (route m b) (to_wire faults (route m b) x))
    unfolding to_wire
    to_adapter x h =
        let y = crossed m b HostToAdapter x in
        let f = crossed_fine HostToAdapter x h in
        unless_rule Kept (from_adapter m.site.device (route m b)) (adapter_finds_out (route m b) y) (sent (route m b) y) (λ c. tt) (λ none. to_target (sent (route m b) y) (sent_fine b y f))

    pub goes_kept : (f : List ℕ) → Fine f → Kept (way_out faults m.site.device (route m b) f)
    goes_kept f h = to_adapter (mapped_out (route m b) f) (mapped_fine b.virt (route m b).lba f h)

    -- ---- the way in

    pub comes_shown : (stored : List ℕ) → Fine stored → has_shift m b MediumToTarget ≡ false → (has_flip m b MediumToTarget ≡ true → Right Crc stored) → shows_in m b stored ≡ true
    comes_shown stored h unshifted right =
        let y = arrives m b stored AtTarget in
        let fy = crossed_fine MediumToTarget stored h in
        let z = arrives m b stored AtAdapter in
        let fz = crossed_fine TargetToAdapter y fy in
        let host = shows m b AdapterToHost (received (route m b) z) in
        let on_wire = shows m b TargetToAdapter y && if_passed (found m b stored AtAdapter) host in
        and_from (not (has_shift m b MediumToTarget) || _) (shows m b MediumToTarget stored && if_passed (found m b stored AtTarget) on_wire)
        (or_left (not (has_shift m b MediumToTarget)) _ (not_from_false _ unshifted))
        (and_from (shows m b MediumToTarget stored) (if_passed (found m b stored AtTarget) on_wire)
        (shown_at MediumToTarget stored h right)
        (asked_if (found m b stored AtTarget) on_wire (λ none.
        and_from (shows m b TargetToAdapter y) (if_passed (found m b stored AtAdapter) host)
        (shown_at TargetToAdapter y fy (λ q. at_target b y fy none))
        (asked_if (found m b stored AtAdapter) host (λ passed. shown_at AdapterToHost (received (route m b) z) (received_fine b z fz) (λ q. received_right b z fz (from_target b z fz passed)))))))

-- The sizes of frames on their ways.
use Rattle.std.proofs.Common.{◌≡◌, ℕ, ◌+◌, Bool, true, false, not, ◌&&◌, eqb, if◌then◌else◌, List, ◌∷◌, ◌++◌, length, take, drop, Option, Some, None, refl, sym, ◌∙◌, arith}
use Rattle.std.specs.Prelude.{IfOk, Result, Ok, Err}
use Rattle.std.specs.Int.{w16, w32, from_be_bytes, to_be_bytes}
use Rattle.std.proofs.lemmas.List.{length-append, length-drop, length-take-le}
use Rattle.pi_guard.specs.Guards.{guard_of}
use Rattle.pi_guard.specs.declared.GuardKind.{GuardKind}
use Rattle.pi_guard.specs.declared.GuardKind.TheVariants.{Crc, Ip}
use Rattle.pi_tuple.specs.Finds.{has_ref_tag, is_zero}
use Rattle.pi_tuple.specs.Tuples.{ref_tag}
use Rattle.pi_tuple.specs.declared.checks.PiType.{PiType}
use Rattle.pi_tuple.specs.declared.checks.PiType.TheVariants.{Zero, One, Two, Three}
use Rattle.pi_tuple.specs.declared.checks.Check.{Check}
use Rattle.fault_schedule.specs.Altered.{altered, named}
use Rattle.fault_schedule.specs.declared.Label.{Label}
use Rattle.fault_schedule.specs.declared.fault.Crossing.{Crossing}
use Rattle.fault_schedule.specs.declared.fault.Crossing.TheVariants.{AdapterToHost, HostToAdapter}
use Rattle.fault_schedule.specs.declared.fault.FaultLine.{FaultLine}
use Rattle.fault_schedule.proofs.Xored.{length-xored}
use Rattle.ref_remap.specs.Remapped.{remapped_bytes}
use Rattle.bio_core.specs.declared.fate.Why.{Why}
use Rattle.bio_core.specs.declared.request.Dir.TheVariants.{Read, Write}
use Rattle.rig_api.specs.Passing.{then_crossed, unless, with_own_tuple}
use Rattle.block_path.specs.declared.route.Route.{Route}
use Rattle.block_path.specs.Moves.{Fills}
use Rattle.block_path.specs.Routes.{converted, host_size, host_type, is_crc, passes_tuples, wire_size, with_guard}
use Rattle.block_path.specs.Operations.{handed_on, operation}
use Rattle.block_path.specs.WayIn.{adapter_finds_in, at_host, from_device, from_wire, mapped_back, received}
use Rattle.block_path.specs.WayOut.{adapter_finds_out, mapped_out, sent, to_wire}

pub altered_length : (faults : List FaultLine) (at : Crossing) (label : Label) (frame : List ℕ) → length (altered faults at label frame) ≡ length frame
altered_length faults at label frame = length-xored (named faults at label) 0 frame

-- of a frame with its tuple
guard_length : (size guard : ℕ) (frame : List ℕ) → length frame ≡ size + 8 → length (with_guard size guard frame) ≡ size + 8
guard_length size guard frame l =
    let a = length-append (take size frame) (to_be_bytes w16 guard ++ drop (size + 2) frame) in
    let b = length-append (to_be_bytes w16 guard) (drop (size + 2) frame) in
    let c = length-take-le size frame (omega (arith, l)) in
    let d = length-drop (size + 2) frame in
    omega (arith, a, b, c, d, l)

converted_length : (r : Route) (kind : GuardKind) (frame : List ℕ) → length frame ≡ r.size + 8 → length (converted r kind frame) ≡ r.size + 8
converted_length r kind frame l = by (is_crc r.mode.kind) where
  by : (c : Bool) → length (if c then frame else with_guard r.size (guard_of kind (take r.size frame)) frame) ≡ r.size + 8
  by true = l
  by false = guard_length r.size (guard_of kind (take r.size frame)) frame l

front_length : (size : ℕ) (frame : List ℕ) → length frame ≡ size + 8 → length (take size frame) ≡ size
front_length size frame l = length-take-le size frame (omega (arith, l))

eight_more : (bytes tuple : List ℕ) (size : ℕ) → length bytes ≡ size → length tuple ≡ 8 → length (bytes ++ tuple) ≡ size + 8
eight_more bytes tuple size l k = let a = length-append bytes tuple in omega (arith, a, l, k)

made_length : (ty : PiType) (lba size : ℕ) (bytes : List ℕ) → is_zero ty ≡ false → length bytes ≡ size → length (with_own_tuple ty lba bytes) ≡ size + 8
made_length Zero lba size bytes h l = absurd (cc)
made_length One lba size bytes h l = eight_more bytes _ size l refl
made_length Two lba size bytes h l = eight_more bytes _ size l refl
made_length Three lba size bytes h l = eight_more bytes _ size l refl

pub is_protected : (dif none : Bool) → (dif && not none) ≡ true → none ≡ false
is_protected true false h = refl
is_protected true true h = absurd (cc)
is_protected false none h = absurd (cc)

sent_length : (r : Route) (frame : List ℕ) → length frame ≡ host_size r → length (sent r frame) ≡ wire_size r
sent_length r frame = by r.mode.dix (passes_tuples r) refl where
  by : (d p : Bool) → passes_tuples r ≡ p → length frame ≡ (if d then r.size + 8 else r.size) → length (handed_on (operation d p Write) r frame) ≡ (if p then r.size + 8 else r.size)
  by true true h l = converted_length r Crc frame l
  by true false h l = front_length r.size frame l
  by false true h l = made_length r.ty r.lba r.size frame (is_protected r.mode.dif (is_zero r.ty) h) l
  by false false h l = l

received_length : (r : Route) (frame : List ℕ) → length frame ≡ wire_size r → length (received r frame) ≡ host_size r
received_length r frame = by r.mode.dix (passes_tuples r) where
  by : (d p : Bool) → length frame ≡ (if p then r.size + 8 else r.size) → length (handed_on (operation d p Read) r frame) ≡ (if d then r.size + 8 else r.size)
  by true true l = converted_length r Ip frame l
  by true false l = eight_more frame _ r.size l refl
  by false true l = front_length r.size frame l
  by false false l = l

pub unless_length : (found : Option Check) (frame : List ℕ) (n : ℕ) → length frame ≡ n → IfOk (unless found frame) (λ f. length f ≡ n)
unless_length None frame n l = l
unless_length (Some check) frame n l = tt

pub out_size : (faults : List FaultLine) (r : Route) (frame : List ℕ) → length frame ≡ host_size r → IfOk (to_wire faults r frame) (λ f. length f ≡ wire_size r)
unfolding to_wire
out_size faults r frame l =
    let f1 = altered faults HostToAdapter r.label frame in
    unless_length (adapter_finds_out r f1) (sent r f1) (wire_size r) (sent_length r f1 (altered_length faults HostToAdapter r.label frame ∙ l))

crossed_length : (faults : List FaultLine) (label : Label) (came : Result (List ℕ) Check) (n : ℕ) → IfOk came (λ f. length f ≡ n) → IfOk (then_crossed faults (Some label) AdapterToHost came) (λ f. length f ≡ n)
crossed_length faults label (Ok frame) n l = altered_length faults AdapterToHost label frame ∙ l
crossed_length faults label (Err check) n l = tt

pub in_size : (faults : List FaultLine) (r : Route) (frame : List ℕ) → length frame ≡ wire_size r → IfOk (from_wire faults r frame) (λ f. length f ≡ host_size r)
unfolding from_wire
in_size faults r frame l =
    crossed_length faults r.label (unless (adapter_finds_in r frame) (received r frame)) (host_size r) (unless_length (adapter_finds_in r frame) (received r frame) (host_size r) (received_length r frame l))

pub tag_length : (c : Bool) (tag : List ℕ) (n : ℕ) → length tag ≡ 4 → length (if c then to_be_bytes w32 n else tag) ≡ 4
tag_length true tag n l = refl
tag_length false tag n l = l

pub tuple_length : (ty : PiType) (from to : ℕ) (tuple : List ℕ) → length tuple ≡ 8 → length (remapped_bytes ty from to tuple) ≡ 8
tuple_length ty from to tuple l =
    let t = tag_length (has_ref_tag ty && eqb (from_be_bytes w32 (drop 4 tuple)) (ref_tag from)) (drop 4 tuple) (ref_tag to) (let d = length-drop 4 tuple in omega (arith, d, l)) in
    let a = length-append (take 4 tuple) (if has_ref_tag ty && eqb (from_be_bytes w32 (drop 4 tuple)) (ref_tag from) then to_be_bytes w32 (ref_tag to) else drop 4 tuple) in
    let b = length-take-le 4 tuple (omega (arith, l)) in
    omega (arith, a, b, t)

mapped_length : (r : Route) (d : Bool) (from to : ℕ) (frame : List ℕ) → length frame ≡ (if d then r.size + 8 else r.size) →
    length (if d then take r.size frame ++ remapped_bytes (host_type r.ty) from to (drop r.size frame) else frame) ≡ (if d then r.size + 8 else r.size)
mapped_length r true from to frame l =
    eight_more (take r.size frame) (remapped_bytes (host_type r.ty) from to (drop r.size frame)) r.size (front_length r.size frame l)
    (tuple_length (host_type r.ty) from to (drop r.size frame) (let d = length-drop r.size frame in omega (arith, d, l)))
mapped_length r false from to frame l = l

pub mapped_sizes : (r : Route) (frame : List ℕ) → length frame ≡ host_size r → (length (mapped_out r frame) ≡ host_size r) × (length (mapped_back r frame) ≡ host_size r)
mapped_sizes r frame l = (mapped_length r r.mode.dix r.virt r.lba frame l, mapped_length r r.mode.dix r.lba r.virt frame l)

arrived : (r : Route) (to carried : List ℕ) (came : Result (List ℕ) Check) → IfOk came (λ f. length f ≡ host_size r) → length to ≡ host_size r → Fills r to (at_host carried came)
arrived r to carried (Ok frame) l k = (l ∙ sym k, (mapped_sizes r frame l).1 ∙ sym k)
arrived r to carried (Err check) l k = tt

pub filled : (faults : List FaultLine) (r : Route) (to : List ℕ) (came : Result (List ℕ) Why) → IfOk came (λ f. length f ≡ wire_size r) → length to ≡ host_size r → Fills r to (from_device faults r came)
filled faults r to (Ok carried) l k = arrived r to carried (from_wire faults r carried) (in_size faults r carried l) k
filled faults r to (Err why) l k = tt

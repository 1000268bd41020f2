-- What the adapter does on either way leaves a block's data as they are, but for the flips at the host.
use Rattle.std.proofs.Common.{ℕ, zero, suc, ◌≡◌, ◌+◌, ◌≤◌, Bool, true, false, cond, List, [], ◌∷◌, ◌++◌, length, take, drop, bit_xor, refl, sym, ap, ◌∙◌, arith}
use Rattle.std.proofs.lemmas.List.{length-append, length-take-le, take_all, take_at}
use Rattle.std.specs.Int.Bits.{xor_assoc, xor_self, xor_zero_r}
use Rattle.std.specs.Int.{to_be_bytes, w16}
use Rattle.bio_core.specs.declared.request.Dir.TheVariants.{Read, Write}
use Rattle.block_path.specs.Operations.{handed_on, operation_of}
use Rattle.block_path.specs.Routes.{converted, host_type, is_crc}
use Rattle.block_path.specs.WayIn.{received}
use Rattle.block_path.specs.WayOut.{mapped_out}
use Rattle.block_path.specs.declared.operation.Operation.{Operation}
use Rattle.block_path.specs.declared.operation.Operation.TheVariants.{Normal, WriteInsert, ReadStrip, WriteStrip, ReadInsert, WritePass, ReadPass}
use Rattle.block_path.specs.declared.route.Route.{Route}
use Rattle.fault_schedule.specs.Altered.{altered, named, xored_from}
use Rattle.fault_schedule.specs.declared.fault.Crossing.TheVariants.{AdapterToHost, HostToAdapter}
use Rattle.fault_schedule.specs.declared.fault.FaultLine.{FaultLine}
use Rattle.pi_guard.specs.declared.GuardKind.{GuardKind}
use Rattle.pi_guard.specs.declared.GuardKind.TheVariants.{Crc, Ip}
use Rattle.pi_guard.specs.Guards.{guard_of}
use Rattle.pi_tuple.specs.declared.checks.PiType.{PiType}
use Rattle.pi_tuple.specs.declared.checks.PiType.TheVariants.{Zero, One, Two, Three}
use Rattle.ref_remap.specs.Remapped.{remapped_bytes}
use Rattle.rig_api.specs.Passing.{with_own_tuple}
use Rattle.run_laws.specs.TakenWalk.{carried_of, landed_of}
use Rattle.run_words.specs.Judged.{IsAtHost}

-- It has these data, whatever stands behind them.
record Holds (n : ℕ) (frame other : List ℕ) : Type 0 where
  same : take n other ≡ take n frame
  long : n ≤ length other

holds_behind : (n : ℕ) (frame ys : List ℕ) → n ≤ length frame → Holds n frame (take n frame ++ ys)
holds_behind n frame ys h =
    let l = length-take-le n frame h in
    record { same = take_at (take n frame) ys n l; long = let s = length-append (take n frame) ys in omega (arith, s, l) }

take_more : (n : ℕ) (xs ys : List ℕ) → n ≤ length xs → take n (xs ++ ys) ≡ take n xs
take_more zero xs ys h = refl
take_more (suc n) [] ys h = absurd (omega (arith, h))
take_more (suc n) (x ∷ xs) ys h = ap (λ zs. x ∷ zs) (take_more n xs ys (omega (arith, h)))

holds_more : (n : ℕ) (frame ys : List ℕ) → n ≤ length frame → Holds n frame (frame ++ ys)
holds_more n frame ys h = record { same = take_more n frame ys h; long = let s = length-append frame ys in omega (arith, s, h) }

holds_alone : (n : ℕ) (frame : List ℕ) → n ≤ length frame → Holds n frame (take n frame)
holds_alone n frame h = let l = length-take-le n frame h in record { same = take_all n (take n frame) (omega (arith, l)); long = omega (arith, l) }

holds_itself : (n : ℕ) (frame : List ℕ) → n ≤ length frame → Holds n frame frame
holds_itself n frame h = record { same = refl; long = h }

holds_both : (n : ℕ) (frame other third : List ℕ) → Holds n frame other → Holds n other third → Holds n frame third
holds_both n frame other third a b = record { same = b.same ∙ a.same; long = b.long }

with_tuple : (ty : PiType) (lba n : ℕ) (frame : List ℕ) → n ≤ length frame → Holds n frame (with_own_tuple ty lba frame)
with_tuple Zero lba n frame h = holds_itself n frame h
with_tuple One lba n frame h = holds_more n frame _ h
with_tuple Two lba n frame h = holds_more n frame _ h
with_tuple Three lba n frame h = holds_more n frame _ h

by_kind : (t : Bool) (n guard : ℕ) (frame : List ℕ) → n ≤ length frame → Holds n frame (cond t frame (take n frame ++ (to_be_bytes w16 guard ++ drop (n + 2) frame)))
by_kind true n guard frame h = holds_itself n frame h
by_kind false n guard frame h = holds_behind n frame (to_be_bytes w16 guard ++ drop (n + 2) frame) h

conversion : (r : Route) (kind : GuardKind) (frame : List ℕ) → r.size ≤ length frame → Holds r.size frame (converted r kind frame)
conversion r kind frame h = by_kind (is_crc r.mode.kind) r.size (guard_of kind (take r.size frame)) frame h

handing : (op : Operation) (r : Route) (frame : List ℕ) → r.size ≤ length frame → Holds r.size frame (handed_on op r frame)
handing Normal r frame h = holds_itself r.size frame h
handing WriteInsert r frame h = with_tuple r.ty r.lba r.size frame h
handing ReadStrip r frame h = holds_alone r.size frame h
handing WriteStrip r frame h = holds_alone r.size frame h
handing ReadInsert r frame h = holds_more r.size frame _ h
handing WritePass r frame h = conversion r Crc frame h
handing ReadPass r frame h = conversion r Ip frame h

mapping : (t : Bool) (n : ℕ) (frame ys : List ℕ) → n ≤ length frame → Holds n frame (cond t (take n frame ++ ys) frame)
mapping true n frame ys h = holds_behind n frame ys h
mapping false n frame ys h = holds_itself n frame h

-- ---- flips

take_xored : (f : ℕ → ℕ) (n i : ℕ) (xs : List ℕ) → take n (xored_from f i xs) ≡ xored_from f i (take n xs)
take_xored f zero i xs = refl
take_xored f (suc n) i [] = refl
take_xored f (suc n) i (x ∷ xs) = ap (λ v. bit_xor x (f i) ∷ v) (take_xored f n (i + 1) xs)

long_xored : (f : ℕ → ℕ) (i : ℕ) (xs : List ℕ) → length (xored_from f i xs) ≡ length xs
long_xored f i [] = refl
long_xored f i (x ∷ xs) = ap suc (long_xored f (i + 1) xs)

undone : (a b : ℕ) → bit_xor (bit_xor a b) b ≡ a
undone a b = xor_assoc a b b ∙ ap (bit_xor a) (xor_self b) ∙ xor_zero_r a

twice : (f : ℕ → ℕ) (i : ℕ) (xs : List ℕ) → xored_from f i (xored_from f i xs) ≡ xs
twice f i [] = refl
twice f i (x ∷ xs) = ap (λ y. y ∷ xored_from f (i + 1) (xored_from f (i + 1) xs)) (undone x (f i)) ∙ ap (λ ys. x ∷ ys) (twice f (i + 1) xs)

module _ (faults : List FaultLine) (r : Route) (frame : List ℕ) (h : r.size ≤ length frame) where
  came : Holds r.size frame (received r frame)
  came = handing (operation_of r Read) r frame h

  lands : altered faults AdapterToHost r.label (take r.size frame) ≡ take r.size (landed_of faults r frame)
  lands =
      let f = named faults AdapterToHost r.label in
      let crossed = altered faults AdapterToHost r.label (received r frame) in
      let long : r.size ≤ length crossed = let l = long_xored f 0 (received r frame) in let c = came.long in omega (arith, l, c) in
      let back = mapping r.mode.dix r.size crossed (remapped_bytes (host_type r.ty) r.lba r.virt (drop r.size crossed)) long in
      ap (xored_from f 0) (sym came.same) ∙ sym (take_xored f r.size 0 (received r frame)) ∙ sym back.same

  goes : altered faults HostToAdapter r.label (take r.size (carried_of faults r frame)) ≡ take r.size frame
  goes =
      let f = named faults HostToAdapter r.label in
      let out = mapping r.mode.dix r.size frame (remapped_bytes (host_type r.ty) r.virt r.lba (drop r.size frame)) h in
      let crossed = altered faults HostToAdapter r.label (mapped_out r frame) in
      let long : r.size ≤ length crossed = let l = long_xored f 0 (mapped_out r frame) in let c = out.long in omega (arith, l, c) in
      let sending = handing (operation_of r Write) r crossed long in
      ap (xored_from f 0) (sending.same ∙ take_xored f r.size 0 (mapped_out r frame)) ∙ twice f 0 (take r.size (mapped_out r frame)) ∙ out.same

  pub at_host : IsAtHost faults r frame
  at_host = record { landed = lands; brought = goes }

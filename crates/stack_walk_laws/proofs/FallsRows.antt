-- A write of one block whose store call fails, and a `put`, step by step from first to last, over a device that tells one frame of each block.
use Rattle.std.proofs.Common.{◌≡◌, ◌<◌, ◌+◌, ℕ, zero, suc, Bool, true, false, ◌&&◌, eqb, if◌then◌else◌, List, [], ◌∷◌, ◌++◌, get_or, Option, Some, None, refl, ap, subst, ◌∙◌, arith, inl}
use Rattle.std.specs.Prelude.{IfSome, length, Ok, replicate, take}
use Rattle.std.proofs.lemmas.List.{length-replicate}
use Rattle.std.proofs.lemmas.List.Elements.{All-nil}
use Rattle.pi_guard.specs.Guards.{crc, ip}
use Rattle.fault_schedule.specs.declared.fault.Crossing.TheVariants.{TargetToMedium}
use Rattle.fault_schedule.specs.declared.fault.FaultKind.TheVariants.{Keep}
use Rattle.page_pool.specs.Places.{run}
use Rattle.integrity_payload.specs.declared.payload.Owner.TheVariants.{Block as OfBlock}
use Rattle.bio_core.specs.Bios.{Block}
use Rattle.bio_core.specs.declared.fate.Why.TheVariants.{Medium}
use Rattle.bio_core.specs.declared.request.Dir.TheVariants.{Write as ToUnit}
use Rattle.bio_core.specs.declared.request.Io.{Io}
use Rattle.block_path.specs.Acts.{State, act, tell}
use Rattle.block_path.specs.Blocks.{Sent, silent}
use Rattle.block_path.specs.Routes.{Device, target, told_by}
use Rattle.block_path.specs.Serial.{plain, plain_tells}
use Rattle.block_path.specs.WayOut.{to_wire}
use Rattle.run_laws.specs.Passed.{acts_of, Setting, block_of, route, Writes, body_of, home, Op, Put, Write, Bad, Silent}
use Rattle.run_laws.proofs.Passed.{faulty, opening, seg}
use Rattle.run_laws.proofs.ShownRows.{one_list}
use Rattle.run_laws.specs.BoundRun.{IsBoundRun, Suits}
use Rattle.run_laws.specs.OpsApart.{IsPlaced, OneCellEach}
use Rattle.run_laws.proofs.BlocksApart.{still_apart}
use Rattle.dix_adapter.specs.declared.adapter.Adapter.{Adapter}
use Rattle.dix_adapter.specs.Carried.{frame_sent, is_bad, sends}
use Rattle.stack_walk_laws.specs.OnRecord.{put_each}
use Rattle.stack_walk_laws.specs.Finished.{replies_of}
use Rattle.stack_walk_laws.specs.Following.{Follows}
use Rattle.stack_walk_laws.specs.Gate.{BecomesDone, MayMove, BlockSpot, ops_of, parts_at}
use Rattle.stack_walk_laws.specs.Pieces.{all_cut, all_made}
use Rattle.stack_walk_laws.specs.Sending.{AllGoOut, IsGoing, SentOut, with_status}
use Rattle.stack_walk_laws.specs.Slots.{Admitted, Carried, Cut, Done, Settled, Status, Waits}
use Rattle.stack_walk_laws.proofs.Begins.{begin_all}
use Rattle.stack_walk_laws.proofs.Sends.{out_all}
use Rattle.stack_walk_laws.proofs.Together.{all_admitted, all_are_cut}
use Rattle.stack_walk_laws.proofs.FollowRows.{becomes}
use Rattle.stack_walk_laws.specs.AtTheEnd.{EndsAsFalling}
use Rattle.stack_walk_laws.specs.Falls.{Falls, falling, forgive, forgiven, left_of, none_falls, over_falls, put_really}
use Rattle.stack_walk_laws.specs.FollowsFalling.{AllFallen, FallsAside, LeavesSized, FollowsFalling, HasFallen}
use Rattle.stack_walk_laws.proofs.Ending.{ends_as_falling}
use Rattle.stack_walk_laws.proofs.Falling.{or_left}
use Rattle.stack_walk_laws.proofs.Outward.{forgiven_at, way_over}
use Rattle.stack_walk_laws.proofs.Stepping.{settled_falling, whole_falling}

abbrev m : Setting
m = let calm = record (faulty []) { size = 4 } in record calm { site = record calm.site { device = told_by (λ label. Ok (replicate 12 0)) } }

abbrev write : Op
write = Write 0 1 (seg 0 4) 0x1234

abbrev put : Op
put = Put 0 600 (1 ∷ 2 ∷ [])

abbrev spot : BlockSpot
spot = record { front = []; op = write; behind = put ∷ []; before = []; step = Writes (block_of 1 0 0) 0x1234 (body_of 4 (seg 0 4) 0); after = [] }

abbrev ops : List Op
ops = ops_of spot

-- one private page behind the script's
abbrev first : State
first = record opening { bytes = replicate 5196 0; fates = None ∷ [] }

-- what the store call of the block left
abbrev left : List ℕ
left = replicate 12 1

abbrev falls : Falls
falls label = or_left (eqb label.op 1 && eqb label.k 0) left None

abbrev over : Setting
over = over_falls m falls

-- A line lets the medium store four bytes of the block: what a failed call left stands there whole, and of a block whose call didn't fail the four bytes do.
abbrev torn : Device
torn = target (record { op = 1; k = 0; at = TargetToMedium; kind = Keep 4 } ∷ [])

left_whole : (falling falls torn).leaves (route m (block_of 1 0 0)) (replicate 12 7) left ≡ left
left_whole = refl

else_torn : (falling none_falls torn).leaves (route m (block_of 1 0 0)) (replicate 12 7) left ≡ replicate 4 1 ++ replicate 8 7
else_torn = refl

place_of : (v : ℕ) → v < 3 → home m v ≡ 2 + v
place_of zero l = refl
place_of (suc zero) l = refl
place_of (suc (suc zero)) l = refl
place_of (suc (suc (suc v))) l = absurd (omega (arith, l))

one_cell_each : OneCellEach m
one_cell_each u v k l e = let p = place_of u k in let q = place_of v l in omega (arith, p, q, e)

write_placed : IsPlaced m 1100 write
unfolding run
write_placed = record {
  in_pages = ((omega arith, (omega arith, (omega arith, (omega arith, tt)))), tt);
  reads = (one_list 0 4 (omega arith)).below;
  writes = All-nil (λ i. i < 1100);
  blocks = record { within = omega arith; bytes_are = refl };
}

put_placed : IsPlaced m 1100 put
unfolding run
put_placed = record {
  in_pages = ((omega arith, (omega arith, tt)), tt);
  reads = All-nil (λ i. i < 1100);
  writes = (one_list 600 2 (omega arith)).below;
  blocks = tt;
}

may_move : (status : ℕ → ℕ → Status) → MayMove m 1100 status spot
may_move status = record { one = one_cell_each; placed = tt; mine = write_placed; spread = still_apart m 1 0 1 one_cell_each refl (omega arith); steps = refl; lets = tt }

may_there : (status : ℕ → ℕ → Status) → MayMove over 1100 status spot
may_there status = let h = may_move status in record { one = h.one; placed = tt; mine = record { in_pages = h.mine.in_pages; reads = h.mine.reads; writes = h.mine.writes; blocks = record { within = omega arith; bytes_are = refl } }; spread = h.spread; steps = refl; lets = tt }

abbrev waiting : ℕ → ℕ → Status
waiting i k = Waits

abbrev one : ℕ → ℕ → Status
one = with_status 1 0 Admitted waiting

abbrev two : ℕ → ℕ → Status
two = with_status 1 0 Cut one

abbrev three : ℕ → ℕ → Status
three = with_status 1 0 (Carried (Some Medium)) two

begun : Follows over 1100 ops first waiting first []
begun = begin_all over 1100 ops first empty where
  empty : (c : ℕ) → get_or first.logs c [] ≡ []
  empty zero = refl
  empty (suc zero) = refl
  empty (suc (suc zero)) = refl
  empty (suc (suc (suc zero))) = refl
  empty (suc (suc (suc (suc zero)))) = refl
  empty (suc (suc (suc (suc (suc c))))) = refl

abbrev made : State
made = plain act (all_made over 1100 (spot ∷ [])) first

abbrev mapped : State
mapped = plain act (all_cut over 1100 (spot ∷ [])) made

is_admitted : Follows over 1100 ops first one made []
is_admitted = all_admitted over 1100 ops first (spot ∷ []) first waiting [] (refl, (may_there waiting, (refl, (tt, tt)))) begun

is_cut : Follows over 1100 ops first two mapped []
is_cut = all_are_cut over 1100 ops first (spot ∷ []) made one [] (refl, (may_there one, (refl, (tt, tt)))) is_admitted

-- The block is sent by the adapter as the script has it.
abbrev adapter : Adapter
adapter = record { kind = m.mode.kind; dix = true; dif = true; protect = 1; ty = m.ty; tamper = []; app = 0; mask = 0 }

abbrev ios : List Io
ios = record { dir = ToUnit; first = 0; count = 1; body = seg 0 4; pi = Some (record { seed = 0; count = 1; tuples = record { page = 0; off = 1100; len = 8 } ∷ []; owner = OfBlock; app = 0x1234 }) } ∷ []

abbrev block : Block
block = record { op = 1; k = 0; dev = 0; lba = 2; dir = ToUnit }

abbrev frame : List ℕ
frame = frame_sent (sends adapter ios mapped.bytes block)

is_going : IsGoing over 1100 ops adapter ios 5 two block spot
unfolding run
is_going = record { script = refl; number = refl; place = refl; carriage = refl; log = omega arith; is_cut = refl; may = may_there two }

is_good : is_bad (sends adapter ios mapped.bytes block) ≡ false
unfolding crc ip to_wire run
is_good = refl

goes : AllGoOut over adapter ios mapped.bytes (block ∷ []) (Ok frame ∷ [])
goes = (refl, ((left, way_over adapter ios [] mapped.bytes over.site.device block is_good), refl))

there : SentOut over 1100 ops adapter ios first mapped (block ∷ []) (Ok frame ∷ []) two []
there = out_all over 1100 ops adapter ios first (block ∷ []) (spot ∷ []) (Ok frame ∷ []) mapped two [] (is_going, (tt, tt)) goes is_cut

abbrev told : List Sent
told = put_each over.site (block ∷ []) (Ok frame ∷ []) []

abbrev es : List Sent
es = put_really m.site falls told []

-- no other block was carried
two_told : two ≡ forgiven ops falls two
two_told = λ x i k. by (left_of ops falls i k) (eqb i 1 && eqb k 0) x where
  by : (o : Option (List ℕ)) (c : Bool) → (if c then Cut else (if c then Admitted else Waits)) ≡ forgive o (if c then Cut else (if c then Admitted else Waits))
  by None true = refl
  by None false = refl
  by (Some l) true = refl
  by (Some l) false = refl

all_fallen : AllFallen falls three
all_fallen i k = by (eqb i 1 && eqb k 0) where
  by : (c : Bool) → IfSome (or_left c left None) (λ left. HasFallen (if c then Carried (Some Medium) else two i k))
  by true = refl
  by false = tt

-- No fault line fails the block.
aside : FallsAside m.site.faults falls
aside label = by (eqb label.op 1 && eqb label.k 0) where
  by : (c : Bool) → IfSome (or_left c left None) (λ left. false ≡ false)
  by true = refl
  by false = tt

all_sized : LeavesSized 12 falls
all_sized label = by (eqb label.op 1 && eqb label.k 0) where
  by : (c : Bool) → IfSome (or_left c left None) (λ left. length left ≡ 12)
  by true = refl
  by false = tt

-- Its store call failed: it is listed for the medium, and has an end on record.
abbrev fallen : FollowsFalling m 1100 ops first three there.after.bytes there.after.blocks es
fallen = record {
  falls = falls;
  after = there.after;
  told = told;
  follows = subst (λ st. Follows over 1100 ops first st there.after told) (ap (with_status 1 0 (Carried None)) two_told ∙ forgiven_at ops falls 1 0 (Carried (Some Medium)) (Carried None) two refl) there.follows;
  bytes = refl;
  blocks_are = refl;
  stamped = refl;
  on_record = refl;
  fallen = all_fallen;
  aside = aside;
  sized = all_sized;
}

-- It is completed.
abbrev four : ℕ → ℕ → Status
four = with_status 1 0 (Settled (Some Medium)) three

abbrev back : State
back = plain act (parts_at m 1100 spot).settled there.after

is_settled : FollowsFalling m 1100 ops first four back.bytes back.blocks es
is_settled = settled_falling m 1100 spot first three four there.after.bytes there.after.blocks es (Some Medium) (may_move three) refl fallen (becomes (Settled (Some Medium)) three)

-- Then the `put`, which is let in since the write is over.
abbrev shown : ℕ → List ℕ
shown k = (get_or (plain_tells act tell (acts_of m 2 put) is_settled.after) k silent).shown

abbrev five : ℕ → ℕ → Status
five zero k = four zero k
five (suc zero) k = four 1 k
five (suc (suc zero)) k = Done (shown k)
five (suc (suc (suc i))) k = four (suc (suc (suc i))) k

abbrev last : State
last = plain act (acts_of m 2 put) is_settled.after

put_is_done : FollowsFalling m 1100 ops first five last.bytes last.blocks es
put_is_done = whole_falling m 1100 (write ∷ []) [] put first four five back.bytes back.blocks es one_cell_each (write_placed, tt) put_placed tt (inl (refl, tt), tt) is_settled all_done where
  all_done : BecomesDone m 2 put is_settled.after four five
  all_done = record { waits = λ k. refl; done = λ k. refl; elsewhere = elsewhere } where
    elsewhere : (j k : ℕ) → (j ≡ 2 → ⊥) → five j k ≡ four j k
    elsewhere zero k h = refl
    elsewhere (suc zero) k h = refl
    elsewhere (suc (suc zero)) k h = absurd (h refl)
    elsewhere (suc (suc (suc j))) k h = refl

-- And all has ended.
suits : (k : ℕ) → k < 1 → Suits m (λ c block. true) (block_of 1 0 k)
suits k l = record { stores = λ frame e. refl; leaves = λ before frame e f. refl; sends = λ stored e. refl }

bound_run : IsBoundRun m (λ c block. true) 1100 ops first
bound_run = record {
  bound = (((one_list 0 4 (omega arith)).below, (refl, suits)), (tt, tt));
  room = let e = length-replicate {A = ℕ} 5196 0 in omega (arith, e);
  found = omega arith;
  all_fine = λ c. refl;
}

ended : EndsAsFalling m 1100 ops first (take 1100 last.bytes) last.blocks (replies_of m 1 ops five) es
ended = ends_as_falling m (λ c block. true) 1100 ops first five last.bytes last.blocks es bound_run ((λ k l left e. refl), (tt, tt)) (((Some Medium, refl), tt), (((shown 0, refl), tt), tt)) put_is_done

-- The write is listed.
listed : replies_of m 1 ops five ≡ Bad (record { k = 0; why = Medium } ∷ []) ∷ Silent ∷ []
listed = refl

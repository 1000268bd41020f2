-- A write of one block and a `put`, step by step from first to last, over a device that tells one frame of each block.
use Rattle.std.proofs.Common.{◌≡◌, ◌<◌, ◌+◌, ℕ, zero, suc, List, [], ◌∷◌, ◌++◌, get_or, Option, Some, None, refl, arith, inl, true}
use Rattle.std.specs.Prelude.{replicate, Ok}
use Rattle.std.proofs.lemmas.List.{length-replicate}
use Rattle.std.proofs.lemmas.List.Elements.{All-nil}
use Rattle.page_pool.specs.Places.{run}
use Rattle.bio_core.specs.declared.fate.Why.{Why}
use Rattle.run_laws.specs.ScriptMoves.{own_at}
use Rattle.block_path.specs.Acts.{State, act, tell}
use Rattle.block_path.specs.Blocks.{Sent, silent}
use Rattle.block_path.specs.Moves.{first_why}
use Rattle.block_path.specs.Routes.{told_by}
use Rattle.block_path.specs.Serial.{plain, plain_tells}
use Rattle.run_laws.specs.Passed.{acts_of, Setting, block_of, Writes, body_of, home, Op, Put, Write}
use Rattle.run_laws.proofs.Passed.{faulty, opening, seg}
use Rattle.run_laws.proofs.ShownRows.{one_list}
use Rattle.run_laws.specs.Records.{put_sent}
use Rattle.run_laws.specs.BoundRun.{IsBoundRun, Suits}
use Rattle.run_laws.specs.OpsApart.{IsPlaced, OneCellEach}
use Rattle.run_laws.proofs.BlocksApart.{still_apart}
use Rattle.stack_walk_laws.specs.Finished.{EndsAsWalk}
use Rattle.stack_walk_laws.specs.Following.{Becomes, Follows}
use Rattle.stack_walk_laws.specs.Gate.{BecomesDone, MayMove, BlockSpot, ops_of, parts_at}
use Rattle.stack_walk_laws.specs.Sending.{with_status}
use Rattle.stack_walk_laws.specs.Slots.{Admitted, Carried, Cut, Done, StepParts, Settled, Status, Waits}
use Rattle.stack_walk_laws.proofs.Begins.{begin_all}
use Rattle.stack_walk_laws.proofs.Carrying.{carried}
use Rattle.stack_walk_laws.proofs.Ends.{ends_as_walk}
use Rattle.stack_walk_laws.proofs.Moving.{admitted, cut, settled}
use Rattle.stack_walk_laws.proofs.Quietly.{cut_quiet, listed_as, made_quiet, settled_quiet}
use Rattle.stack_walk_laws.proofs.Sends.{with_here, with_other}
use Rattle.stack_walk_laws.proofs.Wholly.{wholly}
use Rattle.bio_core.specs.Bios.{Block}
use Rattle.bio_core.specs.declared.request.Dir.TheVariants.{Write as ToUnit}
use Rattle.bio_core.specs.declared.request.Io.{Io}
use Rattle.integrity_payload.specs.declared.payload.Owner.TheVariants.{Block as OfBlock}
use Rattle.dix_adapter.specs.declared.adapter.Adapter.{Adapter}
use Rattle.stack_walk_laws.specs.Sending.{IsGoing, NoneBefore}

abbrev m : Setting
m = let calm = record (faulty []) { size = 4 } in record calm { site = record calm.site { device = told_by (λ label. Ok (replicate 12 0)) } }

abbrev write : Op
write = Write 0 1 (seg 0 4) 0x1234

abbrev put : Op
put = Put 0 600 (1 ∷ 2 ∷ [])

abbrev spot : BlockSpot
spot = record { front = []; op = write; behind = put ∷ []; before = []; step = Writes (block_of 1 0 0) 0x1234 (body_of 4 (seg 0 4) 0); after = [] }

-- one private page behind the script's
abbrev first : State
first = record opening { bytes = replicate 5196 0; fates = None ∷ [] }

place_of : (v : ℕ) → v < 3 → home m v ≡ 2 + v
place_of zero l = refl
place_of (suc zero) l = refl
place_of (suc (suc zero)) l = refl
place_of (suc (suc (suc v))) l = absurd (omega (arith, l))

one_cell_each : OneCellEach m
one_cell_each u v k l e = let p = place_of u k in let q = place_of v l in omega (arith, p, q, e)

write_placed : IsPlaced m 1100 write
unfolding run
write_placed = record {
  in_pages = ((omega arith, (omega arith, (omega arith, (omega arith, tt)))), tt);
  reads = (one_list 0 4 (omega arith)).below;
  writes = All-nil (λ i. i < 1100);
  blocks = record { within = omega arith; bytes_are = refl };
}

put_placed : IsPlaced m 1100 put
unfolding run
put_placed = record {
  in_pages = ((omega arith, (omega arith, tt)), tt);
  reads = All-nil (λ i. i < 1100);
  writes = (one_list 600 2 (omega arith)).below;
  blocks = tt;
}

may_move : (status : ℕ → ℕ → Status) → MayMove m 1100 status spot
may_move status = record { one = one_cell_each; placed = tt; mine = write_placed; spread = still_apart m 1 0 1 one_cell_each refl (omega arith); steps = refl; lets = tt }

pub becomes : (next : Status) (old : ℕ → ℕ → Status) → Becomes 1 0 next old (with_status 1 0 next old)
becomes next old = record { here = with_here 1 0 1 0 next old refl refl; elsewhere = λ j l h. with_other 1 0 j l next old h }

abbrev p : StepParts
p = parts_at m 1100 spot

abbrev own : List ℕ
own = own_at 1100 0

abbrev found : ℕ
found = 0

abbrev waiting : ℕ → ℕ → Status
waiting i k = Waits

abbrev made : State
made = plain act p.made first

abbrev mapped : State
mapped = plain act p.cut made

abbrev sent : State
sent = act p.carrying mapped

abbrev back : State
back = plain act p.settled sent

abbrev fate : Option Why
fate = (tell p.carrying mapped).why

abbrev es : List Sent
es = [] ++ put_sent (tell p.carrying mapped).sent []

abbrev why : Option Why
why = first_why fate (get_or (plain_tells act tell p.settled sent) 0 silent).why

begun : Follows m 1100 (ops_of spot) first waiting first []
begun = begin_all m 1100 (ops_of spot) first empty where
  empty : (c : ℕ) → get_or first.logs c [] ≡ []
  empty zero = refl
  empty (suc zero) = refl
  empty (suc (suc zero)) = refl
  empty (suc (suc (suc zero))) = refl
  empty (suc (suc (suc (suc zero)))) = refl
  empty (suc (suc (suc (suc (suc c))))) = refl

abbrev one : ℕ → ℕ → Status
one = with_status 1 0 Admitted waiting

abbrev two : ℕ → ℕ → Status
two = with_status 1 0 Cut one

abbrev three : ℕ → ℕ → Status
three = with_status 1 0 (Carried fate) two

abbrev four : ℕ → ℕ → Status
four = with_status 1 0 (Settled why) three

is_admitted : Follows m 1100 (ops_of spot) first one made []
is_admitted = admitted m 1100 spot first first waiting one [] (may_move waiting) begun refl (becomes Admitted waiting) (made_quiet m own found spot.step)

is_cut : Follows m 1100 (ops_of spot) first two mapped []
is_cut = cut m 1100 spot first made one two [] (may_move one) is_admitted refl (becomes Cut one) (cut_quiet m own found spot.step)

is_carried : Follows m 1100 (ops_of spot) first three sent es
is_carried = carried m 1100 spot first mapped two three [] (may_move two) (omega arith) refl (becomes (Carried fate) two) is_cut

is_settled : Follows m 1100 (ops_of spot) first four back es
is_settled = settled m 1100 spot first sent three four es (may_move three) is_carried fate why refl (becomes (Settled why) three) (settled_quiet m own found spot.step) (λ here l f. listed_as m own found spot.step sent fate here l f)

-- then the `put`, which is let in since the write is over
abbrev shown : ℕ → List ℕ
shown k = (get_or (plain_tells act tell (acts_of m 2 put) back) k silent).shown

abbrev five : ℕ → ℕ → Status
five zero k = four zero k
five (suc zero) k = four 1 k
five (suc (suc zero)) k = Done (shown k)
five (suc (suc (suc i))) k = four (suc (suc (suc i))) k

put_is_done : Follows m 1100 (ops_of spot) first five (plain act (acts_of m 2 put) back) es
put_is_done = wholly m 1100 (write ∷ []) [] put first back four five es one_cell_each (write_placed, tt) put_placed tt (inl (refl, tt), tt) all_done is_settled where
  all_done : BecomesDone m 2 put back four five
  all_done = record { waits = λ k. refl; done = λ k. refl; elsewhere = elsewhere } where
    elsewhere : (j k : ℕ) → (j ≡ 2 → ⊥) → five j k ≡ four j k
    elsewhere zero k h = refl
    elsewhere (suc zero) k h = refl
    elsewhere (suc (suc zero)) k h = absurd (h refl)
    elsewhere (suc (suc (suc j))) k h = refl

-- and all has ended
suits : (k : ℕ) → k < 1 → Suits m (λ c block. true) (block_of 1 0 k)
suits k l = record { stores = λ frame e. refl; leaves = λ before frame e f. refl; sends = λ stored e. refl }

bound_run : IsBoundRun m (λ c block. true) 1100 (ops_of spot) first
bound_run = record {
  bound = (((one_list 0 4 (omega arith)).below, (refl, suits)), (tt, tt));
  room = let e = length-replicate {A = ℕ} 5196 0 in omega (arith, e);
  found = omega arith;
  all_fine = λ c. refl;
}

ended : EndsAsWalk m 1100 (ops_of spot) first five (plain act (acts_of m 2 put) back) es
ended = ends_as_walk m (λ c block. true) 1100 (ops_of spot) first (plain act (acts_of m 2 put) back) five es bound_run (((why, refl), tt), (((shown 0, refl), tt), tt)) put_is_done

-- The block is sent by the adapter as the script has it.
abbrev adapter : Adapter
adapter = record { kind = m.mode.kind; dix = true; dif = true; protect = 1; ty = m.ty; tamper = []; app = 0; mask = 0 }

abbrev request : Io
request = record { dir = ToUnit; first = 0; count = 1; body = seg 0 4; pi = Some (record { seed = 0; count = 1; tuples = record { page = 0; off = 1100; len = 8 } ∷ []; owner = OfBlock; app = 0x1234 }) }

abbrev block : Block
block = record { op = 1; k = 0; dev = 0; lba = 2; dir = ToUnit }

is_going : IsGoing m 1100 (ops_of spot) adapter (request ∷ []) 5 two block spot
unfolding run
is_going = record { script = refl; number = refl; place = refl; carriage = refl; log = omega arith; is_cut = refl; may = may_move two }

none_before : NoneBefore two []
none_before i k e = refl

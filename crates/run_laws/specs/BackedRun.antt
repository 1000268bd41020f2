use Rattle.std.specs.Prelude.{ℕ, ◌≡◌, ◌⊎◌, Bool, true, false, List, [], ◌∷◌, get_or, Option, Some, None, IfSome}
use Rattle.std.specs.List.{AllByRecursion as Each}
use Rattle.integrity_payload.specs.declared.payload.Owner.{Owner}
use Rattle.pi_tuple.specs.declared.checks.Check.{Check}
use Rattle.fault_schedule.specs.declared.fault.FaultLine.{FaultLine}
use Rattle.walk_laws.specs.Passed.{LogEntry, Op, Reply, State, act, tell, ActAnswer, AskedBlock, Sent, Route, plain, plain_tells, adapter_finds_in, owner_finds, owner_says, Why, Adapter, App, Block as ByOwner, TheVariantsMedium as Medium, Refused, Short, Target, Dir, TheVariantsRead as Read, TheVariantsWrite2 as Write}
use Rattle.walk_laws.specs.ScriptWalk.{script_replies}
use Rattle.walk_laws.specs.Settings.{Setting}
use Rattle.run_laws.specs.Records.{Moved, NoTwo, end_for, entry_for, recorded, writes_at}
use Rattle.run_laws.specs.TakenWalk.{landed_of, taken_from, taken_replies}
use Rattle.run_laws.specs.ToldRun.{told}

-- A log backs replies: what was read came out of commands of this run, and each answer has its cause there.

-- if it is a block of a request, and if of a read
abbrev pub OfRequest : (Route → ActAnswer → Type 0) → ActAnswer → Type 0
OfRequest P a = IfSome a.of (λ b. P b.route a)

abbrev pub OfRead : (Route → Owner → ActAnswer → Type 0) → ActAnswer → Type 0
OfRead P a = IfSome a.of (λ b. IfSome b.reader (λ owner. P b.route owner a))

abbrev pub dir_of : Option Owner → Dir
dir_of None = Write
dir_of (Some owner) = Read

-- The entry or end has this block's label, direction and place.
pub record Owns (e : Sent) (b : AskedBlock) : Type 0 where
  pub label : e.label ≡ b.route.label
  pub dir : e.dir ≡ dir_of b.reader
  pub dev : e.dev ≡ b.route.dev
  pub lba : e.lba ≡ b.route.lba

-- It is of one of these answers' blocks.
abbrev pub Belongs : List ActAnswer → Sent → Type 0
Belongs [] e = ⊥
Belongs (a ∷ answers) e = ((b : AskedBlock) × ((a.of ≡ Some b) × Owns e b)) ⊎ Belongs answers e

abbrev pub owner_lists : Owner → Option Check → Option Why
owner_lists owner None = None
owner_lists owner (Some check) = Some (owner_says owner check)

abbrev pub host_lists : Owner → (adapter owners : Option Check) → Option Why
host_lists owner None owners = owner_lists owner owners
host_lists owner (Some check) owners = Some (Adapter check)

-- what the adapter, then the owner, finds in a frame from the wire
abbrev pub host_finds : List FaultLine → Route → Owner → List ℕ → Option Why
host_finds faults r owner frame = host_lists owner (adapter_finds_in r frame) (owner_finds r (landed_of faults r frame))

-- These come from behind the adapter.
abbrev pub is_outside : Why → Bool
is_outside (Adapter check) = false
is_outside (Target check) = true
is_outside (ByOwner check) = false
is_outside (App check) = false
is_outside Medium = true
is_outside (Refused key asc ascq) = true
is_outside Short = true

-- Sentences on one block and its answer in the walk; the `why` there is what its reply lists it with.

-- It is delivered, so it has an entry.
abbrev pub HasEntry : List Sent → Route → Owner → ActAnswer → Type 0
HasEntry es r owner a = a.why ≡ None → (x : Moved) × (entry_for es r.label ≡ Some x)

-- Its entry stands after as many write entries of the place as the walk has carried there before.
abbrev pub IsInTurn : List Sent → Route → Owner → ActAnswer → Type 0
IsInTurn es r owner a = a.why ≡ None → IfSome (entry_for es r.label) (λ x. IfSome a.sent (λ s. x.after ≡ s.after))

-- Its entry passes the adapter's check and its owner's.
abbrev pub PassesIn : Setting → List Sent → Route → Owner → ActAnswer → Type 0
PassesIn m es r owner a = a.why ≡ None → IfSome (entry_for es r.label) (λ x. host_finds m.site.faults r owner x.frame ≡ None)

-- It has an end, so it is listed with the answer for that sense.
abbrev pub IsListedAs : List Sent → Route → ActAnswer → Type 0
IsListedAs es r a = IfSome (end_for es r.label) (λ why. a.why ≡ Some why)

-- It is listed with an answer from behind the adapter, so it has an end.
abbrev pub HasEnd : List Sent → Route → ActAnswer → Type 0
HasEnd es r a = IfSome a.why (λ why. is_outside why ≡ true → (x : Why) × (end_for es r.label ≡ Some x))

-- It is listed otherwise and has no end, so it has an entry in which that is found at the host.
abbrev pub IsFound : Setting → List Sent → Route → Owner → ActAnswer → Type 0
IsFound m es r owner a =
    IfSome a.why (λ why. is_outside why ≡ false → end_for es r.label ≡ None → (x : Moved) × ((entry_for es r.label ≡ Some x) × (host_finds m.site.faults r owner x.frame ≡ Some why)))

module _ (m : Setting) (ops : List Op) (opening : State) (es : List Sent) (replies : List Reply) where
  -- what the walk that takes these replies answers of each block
  abbrev pub answered : List ActAnswer
  answered = plain_tells act tell (taken_from m es 1 ops replies) opening

  pub record IsBacked : Type 0 where
    -- 1 Each entry and each end is of a block of a request, at its place and in its direction.
    pub belong : Each (Belongs answered) es
    -- 2 No block has two of these.
    pub once : NoTwo es
    -- 3 Each block of a read that isn't listed has an entry.
    pub delivered : Each (OfRead (HasEntry es)) answered
    -- 4 It stands after as many write entries of the place as the walk has carried there before.
    pub in_turn : Each (OfRead (IsInTurn es)) answered
    -- 5 It is the frame that the walk takes, and passes the adapter's check and its owner's.
    pub passes : Each (OfRead (PassesIn m es)) answered
    -- 6 The write entries of each place are, in order, the frames of the blocks there that aren't listed.
    pub written : (c : ℕ) → writes_at m.site c es ≡ get_or (plain act (taken_from m es 1 ops replies) opening).logs c []
    -- 7 Each block with an end is listed with the answer for its sense.
    pub listed : Each (OfRequest (IsListedAs es)) answered
    -- 8 Each block that is listed with an answer from behind the adapter has an end.
    pub caused : Each (OfRequest (HasEnd es)) answered
    -- 9 Each block of a read that is listed otherwise and has no end has an entry in which that is found at the host.
    pub spoiled : Each (OfRead (IsFound m es)) answered
    -- 10 The replies with all shown bytes are those of the walk.
    pub replied : replies ≡ taken_replies m es 1 ops replies opening
    -- 11 They are those of the walk over a device that answers as the log says, too. There the adapter checks each block of a write: it is listed with what is found in its frame, and nothing is sent of it; else it has an entry or an end.
    pub checked : replies ≡ script_replies (told m es) ops opening

-- the same of a rig's log
abbrev pub Backed : Setting → List Op → State → List LogEntry → List Reply → Type 0
Backed m ops opening log replies = IsBacked m ops opening (recorded m log) replies

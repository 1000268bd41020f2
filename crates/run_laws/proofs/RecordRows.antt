-- A log worked by hand: a write that ends at its second block, and a read for which the rig hands out another block's frame.
use Rattle.std.proofs.Common.{◌≡◌, ◌<◌, ℕ, zero, suc, false, eqb, List, [], ◌∷◌, get_or, Option, Some, None, refl, sym, subst, ◌∙◌, arith}
use Rattle.std.specs.Prelude.{Ok, Err}
use Rattle.std.proofs.lemmas.Bool.{ne_eqb}
use Rattle.std.proofs.lemmas.List.{get_or_past}
use Rattle.pi_guard.specs.Guards.{crc, ip}
use Rattle.pi_tuple.specs.declared.checks.Check.TheVariants.{RefTag}
use Rattle.page_pool.specs.Places.{run}
use Rattle.cdb_codec.specs.Forms.{form}
use Rattle.cdb_codec.specs.declared.command.Rw.{Rw}
use Rattle.cdb_codec.specs.declared.command.Cdb.TheVariants.{Read16, Write16}
use Rattle.fault_schedule.specs.declared.Label.{Label}
use Rattle.walk_laws.specs.Passed.{LogEntry, Op, Fetch, Write, Reply, Bad, joined, found_in, from_medium, to_medium, Sent, from_wire, to_wire, Sense, Adapter, TheVariantsMedium as Medium, TheVariantsRead as Read, TheVariantsWrite2 as ToUnit}
use Rattle.integrity_payload.specs.declared.payload.Owner.TheVariants.{Block as OfBlock}
use Rattle.walk_laws.specs.ScriptWalk.{script_replies, script_walk}
use Rattle.walk_laws.specs.Settings.{Setting}
use Rattle.walk_laws.specs.UnderMap.{home}
use Rattle.walk_laws.proofs.ScriptRows.{faulty, formatted, opening, seg}
use Rattle.run_laws.specs.BackedRun.{Backed}
use Rattle.run_laws.specs.EarlierWrites.{LogsAreEmpty, StandsAfter, accepted_in}
use Rattle.run_laws.specs.Records.{recorded, writes_at}
use Rattle.run_laws.specs.ToldRun.{IsRecordOfRun, IsSameWalk, told}
use Rattle.run_laws.proofs.Backs.{backs}
use Rattle.run_laws.proofs.Earlier.{stands_after}
use Rattle.run_laws.proofs.OwnRecord.{same_walk}

abbrev pub m : Setting
m = faulty []

abbrev pub fields : (lba n : ℕ) → Rw
fields lba n = record { protect = 1; lba = lba; n = n; rtag = 0; app = 0; mask = 0 }

abbrev pub labels : (op k n : ℕ) → List Label
labels op k zero = []
labels op k (suc n) = record { op = op; k = k } ∷ labels op (suc k) n

abbrev pub sense : (key asc ascq : ℕ) → Option Sense
sense key asc ascq = Some (record { key = key; asc = asc; ascq = ascq; info = None })

abbrev pub entry : List ℕ → (done : ℕ) → Option Sense → List Label → List (List ℕ) → LogEntry
entry cdb done sense labels frames = record { what = record { dev = 0; cdb = cdb; outcome = record { done = done; sense = sense } }; labels = labels; moved = joined frames }

abbrev pub ops : List Op
ops = Write 0 2 (seg 0 1024) 0 ∷ Fetch 0 2 (seg 0 1024) ∷ []

abbrev pub log : List LogEntry
log =
    entry (form (Write16 (fields 2 2))) 1 (sense 3 0x0C 0) (labels 1 0 2) (formatted 2 ∷ [])
    ∷ entry (form (Read16 (fields 2 2))) 2 None (labels 2 0 2) (formatted 2 ∷ formatted 2 ∷ [])
    ∷ []

abbrev sent : (op k lba : ℕ) → Sent
sent op k lba = record { label = record { op = op; k = k }; dir = ToUnit; dev = 0; lba = lba; came = Ok (formatted 2); after = 0 }

abbrev pub es : List Sent
es =
    sent 1 0 2
    ∷ record (sent 1 1 3) { came = Err Medium }
    ∷ record (sent 2 0 2) { dir = Read; after = 1 }
    ∷ record (sent 2 1 3) { dir = Read }
    ∷ []

recorded_are : recorded m log ≡ es
recorded_are = refl

abbrev replies : List Reply
replies = Bad (record { k = 1; why = Medium } ∷ []) ∷ Bad (record { k = 1; why = Adapter RefTag } ∷ []) ∷ []

replies_are : script_replies (told m es) ops opening ≡ replies
unfolding crc ip to_wire from_wire run
replies_are = refl

-- a sentence on every cell, of which five are in use
five : (P : ℕ → Type 0) → P 0 → P 1 → P 2 → P 3 → P 4 → ((c : ℕ) → 4 < c → P c) → (c : ℕ) → P c
five P p q r s t rest zero = p
five P p q r s t rest (suc zero) = q
five P p q r s t rest (suc (suc zero)) = r
five P p q r s t rest (suc (suc (suc zero))) = s
five P p q r s t rest (suc (suc (suc (suc zero)))) = t
five P p q r s t rest (suc (suc (suc (suc (suc c))))) = rest (suc (suc (suc (suc (suc c))))) (omega arith)

off : (n c : ℕ) → n < 5 → 4 < c → eqb n c ≡ false
off n c k l = ne_eqb n c (λ e. omega (arith, k, l, e))

-- It meets all that the law asks for.
run_on_record : IsRecordOfRun (told m es) ops opening es
unfolding crc ip to_wire from_wire run
run_on_record = record {
  all = ([], (_, (refl, ([], (_, (refl, ([], (_, (refl, ([], (_, (refl, refl))))))))))));
  writes = five (λ c. get_or (script_walk (told m es) ops opening).logs c [] ≡ writes_at m.site c es) refl refl refl refl refl
      (λ c l. get_or_past (script_walk (told m es) ops opening).logs c [] l ∙ sym (none c l));
}
  where
    none : (c : ℕ) → 4 < c → writes_at m.site c es ≡ []
    none c l = let e = off 2 c (omega arith) l in let f = off 3 c (omega arith) l in rw (e, f) refl

-- Its log backs the replies, and each place has a log that is empty at first.
backed_replies : Backed m ops opening log replies
backed_replies = subst (Backed m ops opening log) replies_are (backs m ops opening es run_on_record)

below_five : (v : ℕ) → v < 2 → home m v < 5
below_five zero l = omega arith
below_five (suc zero) l = omega arith
below_five (suc (suc v)) l = absurd (omega (arith, l))

empty_logs : LogsAreEmpty m ops opening
unfolding run
empty_logs = record {
  within = (below_five 0 (omega arith), (below_five 1 (omega arith), (below_five 0 (omega arith), (below_five 1 (omega arith), tt))));
  empty = five (λ c. get_or opening.logs c [] ≡ []) refl refl refl refl refl (λ c l. get_or_past opening.logs c [] l);
}

-- The first block of the read stands after one accepted write, the second has none in front of it.
abbrev written : List Op
written = Write 0 2 (seg 0 1024) 0 ∷ []

accepted_are : (accepted_in m 2 1 written replies ≡ 1) × (accepted_in m 3 1 written replies ≡ 0)
accepted_are = (refl, refl)

first_stands : StandsAfter (recorded m log) (record { op = 2; k = 0 }) 1
unfolding run
first_stands = stands_after m written [] OfBlock 0 2 0 (seg 0 1024) [] opening es replies backed_replies empty_logs (omega arith) refl

-- and a log of the walk itself, with two reads in another order
abbrev honest_log : List LogEntry
honest_log =
    entry (form (Write16 (fields 2 2))) 2 None (labels 1 0 2) (formatted 2 ∷ formatted 3 ∷ [])
    ∷ entry (form (Read16 (fields 3 1))) 1 None (labels 2 1 1) (formatted 3 ∷ [])
    ∷ entry (form (Read16 (fields 2 1))) 1 None (labels 2 0 1) (formatted 2 ∷ [])
    ∷ []

log_of_the_walk : IsRecordOfRun m ops opening (recorded m honest_log)
unfolding crc ip found_in to_medium from_medium to_wire from_wire run
log_of_the_walk = record {
  all = ([], (_, (refl, ([], (_, (refl, (record (sent 2 1 3) { dir = Read; came = Ok (formatted 3); after = 1 } ∷ [], ([], (refl, ([], ([], (refl, refl))))))))))));
  writes = five (λ c. get_or (script_walk m ops opening).logs c [] ≡ writes_at m.site c (recorded m honest_log)) refl refl refl refl refl
      (λ c l. get_or_past (script_walk m ops opening).logs c [] l ∙ sym (none c l));
}
  where
    none : (c : ℕ) → 4 < c → writes_at m.site c (recorded m honest_log) ≡ []
    none c l = let e = off 2 c (omega arith) l in let f = off 3 c (omega arith) l in rw (e, f) refl

-- Over its record it is the same walk.
same_over_its_record : IsSameWalk m ops opening (recorded m honest_log)
same_over_its_record = same_walk m ops opening (recorded m honest_log) log_of_the_walk

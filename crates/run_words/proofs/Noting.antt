-- What a ledger knows once a block, a command and a record are noted.
use Rattle.std.proofs.Common.{ℕ, zero, suc, ◌≡◌, ◌+◌, ◌*◌, ◌^◌, ◌≤◌, ◌<◌, Bool, true, false, cond, eqb, List, [], ◌∷◌, ◌++◌, length, take, drop, get_or, min, Option, refl, sym, ap, subst, ◌∙◌, arith, append-nil, add-one, drop-cons}
use Rattle.std.proofs.lemmas.List.{append_assoc, drop-drop, drop_all}
use Rattle.std.proofs.lemmas.Nat.{mul-le}
use Rattle.cdb_codec.specs.declared.command.Rw.{Rw}
use Rattle.fault_schedule.specs.declared.Label.{Label}
use Rattle.rig_api.specs.Frames.{sent_size}
use Rattle.rig_api.specs.Log.{LogEntry, entry_at, no_entry}
use Rattle.rig_api.specs.declared.rig.Record.{Record}
use Rattle.run_words.specs.Lies.{Book, MovedBlock, all_moved, blocks_done, blocks_from, blocks_moved}
use Rattle.run_words.specs.Ledgers.{IsLaidOut, Knows, Notes, book_in, noted}
use Rattle.run_words.specs.declared.ledger.Ledger.{Ledger}
use Rattle.run_words.specs.declared.ledger.Spot.{Spot}
use Rattle.run_words.proofs.Spots.{knows_more}

abbrev pub Knowing : Ledger → List LogEntry → List MovedBlock → Type 0
Knowing l log moved = Knows l.size l.asked.items log l.spots.items moved

-- What was seen so far and what is left are all.
pub record Seen (l : Ledger) (log : List LogEntry) (left all : List MovedBlock) : Type 0 where
  pub moved : List MovedBlock
  pub known : Knowing l log moved
  pub both : moved ++ left ≡ all

-- Of a record's blocks the first are noted.
abbrev pub Moves : (old new : Ledger) (number : ℕ) (what : Record) (labels : List Label) (frame done index left at : ℕ) → Type 0
Moves old new number what labels frame done index left at =
    (log : List LogEntry) (moved : List MovedBlock) → number < length log → (entry_at log number).what ≡ what → (entry_at log number).labels ≡ labels → Knowing old log moved →
    Seen new log (blocks_from frame (drop index labels) left (drop at (entry_at log number).moved)) (moved ++ blocks_from frame labels done (entry_at log number).moved)

pub begins : (l : Ledger) (number : ℕ) (what : Record) (labels : List Label) (frame done : ℕ) → Moves l l number what labels frame done 0 done 0
begins l number what labels frame done = λ log moved lt w e k. record { moved = moved; known = k; both = refl }

by_book : (size : ℕ) (l l' : Ledger) (log : List LogEntry) (spots : List (Option Spot)) (moved : List MovedBlock) → book_in l' ≡ book_in l → l'.spots.items ≡ spots → Knows l.size l.asked.items log spots moved → Knowing l' log moved
by_book size l l' log spots moved b s k =
    subst (λ x. Knows l'.size l'.asked.items log x moved) (sym s) (subst (λ (x : Book). Knows x.size x.asked log spots moved) (sym b) k)

next_block : (frame index n at : ℕ) (labels : List Label) (d : Label) (bytes : List ℕ) → index < length labels →
    blocks_from frame (drop index labels) (suc n) (drop at bytes) ≡ record { label = get_or labels index d; frame = take frame (drop at bytes) } ∷ blocks_from frame (drop (index + 1) labels) n (drop (at + frame) bytes)
next_block frame index n at labels d bytes lt =
    let block : MovedBlock = record { label = get_or labels index d; frame = take frame (drop at bytes) } in
    ap (λ x. blocks_from frame x (suc n) (drop at bytes)) (drop-cons labels index d lt)
    ∙ ap (λ x. block ∷ blocks_from frame (drop x labels) n (drop frame (drop at bytes))) (sym (add-one index))
    ∙ ap (λ x. block ∷ blocks_from frame (drop (index + 1) labels) n x) (drop-drop frame at bytes)

take_first : (size frame : ℕ) (bytes : List ℕ) → size ≤ frame → take size (take frame bytes) ≡ take size bytes
take_first zero frame bytes h = refl
take_first (suc size) zero bytes h = absurd (omega (arith, h))
take_first (suc size) (suc frame) [] h = refl
take_first (suc size) (suc frame) (x ∷ bytes) h = ap (λ xs. x ∷ xs) (take_first size frame bytes (omega (arith, h)))

pub goes_on : (old l l' : Ledger) (number : ℕ) (what : Record) (labels : List Label) (frame done index n left at : ℕ) (d : Label) → IsLaidOut l → l.size ≤ frame → index < length labels → left ≡ suc n
    → book_in l' ≡ book_in l → l'.spots.items ≡ noted l.asked.items l.spots.items (get_or labels index d) (record { number = number; at = at }) → Moves old l number what labels frame done index left at → Moves old l' number what labels frame done (index + 1) n (at + frame)
goes_on old l l' number what labels frame done index n left at d laid big lt e b s m = λ log moved there w ls k.
    let label = get_or labels index d in
    let seen = m log moved there w ls k in
    let bytes = (entry_at log number).moved in
    let block : MovedBlock = record { label = label; frame = take frame (drop at bytes) } in
    let rest = blocks_from frame (drop (index + 1) labels) n (drop (at + frame) bytes) in
    let more = knows_more l.size l.asked.items log l.spots.items seen.moved label (record { number = number; at = at }) (take frame (drop at bytes)) laid.turn seen.known there (take_first l.size frame (drop at bytes) big) in
    record {
      moved = seen.moved ++ (block ∷ []);
      known = by_book l.size l l' log (noted l.asked.items l.spots.items label (record { number = number; at = at })) (seen.moved ++ (block ∷ [])) b s more;
      both = append_assoc seen.moved (block ∷ []) rest ∙ ap (λ x. seen.moved ++ x) (sym (next_block frame index n at labels d bytes lt)) ∙ ap (λ x. seen.moved ++ blocks_from frame (drop index labels) x (drop at bytes)) (sym e) ∙ seen.both;
    }

none_left : (frame : ℕ) (labels : List Label) (bytes : List ℕ) → blocks_from frame labels 0 bytes ≡ []
none_left frame [] bytes = refl
none_left frame (x ∷ labels) bytes = refl

-- the loop ended, since no block is left or no label
pub ends : (old new : Ledger) (number : ℕ) (what : Record) (labels : List Label) (frame done index left at : ℕ) → ((bytes : List ℕ) → blocks_from frame (drop index labels) left bytes ≡ []) → Moves old new number what labels frame done index left at →
    (log : List LogEntry) (moved : List MovedBlock) → number < length log → (entry_at log number).what ≡ what → (entry_at log number).labels ≡ labels → Knowing old log moved → Knowing new log (moved ++ blocks_from frame labels done (entry_at log number).moved)
ends old new number what labels frame done index left at none m = λ log moved there w ls k.
    let seen = m log moved there w ls k in
    let all = sym (append-nil seen.moved) ∙ ap (λ x. seen.moved ++ x) (sym (none (drop at (entry_at log number).moved))) ∙ seen.both in
    subst (λ x. Knowing new log x) all seen.known

pub no_blocks : (frame : ℕ) (labels : List Label) (left : ℕ) → left ≡ 0 → (bytes : List ℕ) → blocks_from frame labels left bytes ≡ []
no_blocks frame labels left e = λ bytes. ap (λ n. blocks_from frame labels n bytes) e ∙ none_left frame labels bytes

pub no_labels : (frame : ℕ) (labels : List Label) (left : ℕ) → labels ≡ [] → (bytes : List ℕ) → blocks_from frame labels left bytes ≡ []
no_labels frame labels left e = λ bytes. ap (λ ls. blocks_from frame ls left bytes) e

sent_by : (t : Bool) (size : ℕ) → size ≤ cond t size (size + 8)
sent_by true size = omega arith
sent_by false size = omega arith

pub no_less : (protect size : ℕ) → size ≤ sent_size protect size
no_less protect size = sent_by (eqb protect 0) size

pub same_size : (l l' : Ledger) → book_in l ≡ book_in l' → l.size ≡ l'.size
same_size l l' e = ap (λ (b : Book). b.size) e

pub fits : (i frame at size : ℕ) → at ≡ i * frame → i < 2 ^ 32 → size ≤ 4096 → frame ≤ size + 8 → at + frame < 2 ^ 64
fits i frame at size e lt s f =
    let bound = mul-le i frame i 4104 (omega arith) (omega (arith, s, f)) in
    omega (arith, e, lt, bound, s, f)

-- ---- a record

-- the blocks are told otherwise
pub same_blocks : (old new : Ledger) (number : ℕ) (what : Record) (labels : List Label) (blocks others : LogEntry → List MovedBlock) → ((e : LogEntry) → e.what ≡ what → blocks e ≡ others e) → Notes old new number what labels blocks → Notes old new number what labels others
same_blocks old new number what labels blocks others same n = record {
  laid = n.laid;
  book = n.book;
  knows = λ log moved there w ls k. subst (λ x. Knowing new log (moved ++ x)) (same (entry_at log number) w) (n.knows log moved there w ls k);
}

pub none_noted : (l : Ledger) (number : ℕ) (what : Record) (labels : List Label) (blocks : LogEntry → List MovedBlock) → IsLaidOut l → ((e : LogEntry) → e.what ≡ what → blocks e ≡ []) → Notes l l number what labels blocks
none_noted l number what labels blocks laid none = record {
  laid = laid;
  book = refl;
  knows = λ log moved there w ls k. subst (λ x. Knowing l log x) (sym (append-nil moved) ∙ ap (λ x. moved ++ x) (sym (none (entry_at log number) w))) k;
}

pub noted_all : (old new : Ledger) (number : ℕ) (what : Record) (c : Rw) (labels : List Label) (frame index left at : ℕ) → frame ≡ sent_size c.protect old.size → IsLaidOut new → book_in new ≡ book_in old → ((bytes : List ℕ) → blocks_from frame (drop index labels) left bytes ≡ [])
    → Moves old new number what labels frame (min what.outcome.done c.n) index left at → Notes old new number what labels (blocks_done old.size c)
noted_all old new number what c labels frame index left at f laid book none m = record {
  laid = laid;
  book = book;
  knows = λ log moved there w ls k.
      let e = entry_at log number in
      let done = ends old new number what labels frame (min what.outcome.done c.n) index left at none m log moved there w ls k in
      let blocks = ap (λ x. blocks_from x labels (min what.outcome.done c.n) e.moved) f ∙ ap (λ x. blocks_from (sent_size c.protect old.size) x (min what.outcome.done c.n) e.moved) (sym ls)
      ∙ ap (λ (x : Record). blocks_from (sent_size c.protect old.size) e.labels (min x.outcome.done c.n) e.moved) (sym w) in
      subst (λ x. Knowing new log (moved ++ x)) blocks done;
}

pub next_record : (size : ℕ) (l l' : Ledger) (log : List LogEntry) (i : ℕ) (what : Record) (labels : List Label) (all : List MovedBlock) → l.size ≡ size → i < length log → (entry_at log i).what ≡ what → (entry_at log i).labels ≡ labels
    → Notes l l' i what labels (blocks_moved l.size) → Seen l log (all_moved size (drop i log)) all → Seen l' log (all_moved size (drop (i + 1) log)) all
next_record size l l' log i what labels all s lt w ls n seen =
    let mine = blocks_moved l.size (entry_at log i) in
    let rest = all_moved size (drop (i + 1) log) in
    let cut : all_moved size (drop i log) ≡ mine ++ rest =
    ap (all_moved size) (drop-cons log i no_entry lt) ∙ ap (λ x. blocks_moved x (entry_at log i) ++ all_moved size (drop (suc i) log)) (sym s) ∙ ap (λ x. mine ++ all_moved size (drop x log)) (sym (add-one i)) in
    record {
      moved = seen.moved ++ mine;
      known = n.knows log seen.moved lt w ls seen.known;
      both = append_assoc seen.moved mine rest ∙ ap (λ x. seen.moved ++ x) (sym cut) ∙ seen.both;
    }

-- no record is left
pub all_seen : (size : ℕ) (l : Ledger) (log : List LogEntry) (i : ℕ) (all : List MovedBlock) → length log ≤ i → Seen l log (all_moved size (drop i log)) all → Knowing l log all
all_seen size l log i all h seen =
    subst (λ x. Knowing l log x) (sym (append-nil seen.moved) ∙ ap (λ x. seen.moved ++ all_moved size x) (sym (drop_all i log h)) ∙ seen.both) seen.known

-- One more block stored by a write, and where it ends.
use Rattle.std.proofs.Common.{ℕ, ◌≡◌, ◌+◌, ◌*◌, ◌<◌, ◌≤◌, List, [], ◌∷◌, ◌++◌, length, take, drop, Option, Some, None, Result, Ok, Err, refl, sym, ap, subst, ◌∙◌, arith, append-nil, length-append}
use Rattle.std.specs.Prelude.{slice_get}
use Rattle.dix_base.specs.Told.{over}
use Rattle.fault_schedule.specs.declared.Label.{Label}
use Rattle.fault_schedule.specs.declared.fault.FaultLine.{FaultLine}
use Rattle.sense_codes.specs.declared.Sense.{Sense}
use Rattle.rig_api.specs.Frames.{frames_of, joined}
use Rattle.rig_api.specs.Target.{Stop, Ended, Flaw, each, kept_over, then_kept, write_end}
use Rattle.rig_api.proofs.FrameLaws.{joined_append}
use Rattle.rig_api.specs.Telling.{HasCause}
use Rattle.rig_api.specs.declared.rig.Outcome.{Outcome}
use Rattle.target_model.specs.Served.{AllLong, AllWritten, BlockWritten}
use Rattle.target_model.proofs.Bytes.{behind_put, long_one, over_next, over_none}
use Rattle.dix_base.proofs.Counts.{rose_later}
use Rattle.target_model.proofs.Keeping.{kept_each, keeps}
use Rattle.target_model.proofs.Ends.{Judge, Along, begins, goes_on, ends_found, ends_all, ends_unstored}

-- what is known of a write that has stored its first k blocks
abbrev pub Wrote : Judge → (lba len n size k : ℕ) → (rest all : List ℕ) → (place : ℕ) → List ℕ → Option (List ℕ) → Type 0
Wrote judge lba len n size k rest all place was now = (kept : List (List ℕ)) × Along judge lba len n size k rest all kept × (now ≡ Some (over place (joined kept) was))

pub wrote_none : (judge : Judge) (lba len n size place : ℕ) (all was : List ℕ) (now : Option (List ℕ)) → place ≤ length was → now ≡ Some was → Wrote judge lba len n size 0 all all place was now
wrote_none judge lba len n size place all was now h e = ([], begins judge lba len n size all, e ∙ ap (λ v. Some v) (sym (over_none place was h)))

more_over : (place at size k : ℕ) (kept : List (List ℕ)) (frame was : List ℕ) → place ≤ length was → at ≡ place + size * k → length (joined kept) ≡ size * k →
    over at frame (over place (joined kept) was) ≡ over place (joined (kept ++ (frame ∷ []))) was
more_over place at size k kept frame was h e l =
    over_next place at (joined kept) frame was h (omega (arith, e, l)) ∙ ap (λ v. over place v was) (sym (joined_append kept (frame ∷ []) ∙ ap (λ v. joined kept ++ v) (append-nil frame)))

wrote_by : (judge : Judge) (lba len n size k place at o f : ℕ) (rest all was : List ℕ) (now : Option (List ℕ)) (kept : List (List ℕ)) (r : Result (List ℕ) Flaw) → place ≤ length was → k < n →
    at ≡ place + size * k → Along judge lba len n size k rest all kept → judge k (take len rest) ≡ r → BlockWritten r size at (lba + k) o f (over place (joined kept) was) None now →
    Wrote judge lba len n size (k + 1) (drop len rest) all place was now
wrote_by judge lba len n size k place at o f rest all was now kept (Err flaw) h l e a j b = absurd (cc)
wrote_by judge lba len n size k place at o f rest all was now kept (Ok frame) h l e a j b =
    (kept ++ (frame ∷ []), goes_on judge lba len n size k rest all frame kept l a j b.0, b.1 ∙ ap (λ v. Some v) (more_over place at size k kept frame was h e a.bytes))

-- one more
pub wrote_more : (judge : Judge) (lba len n size k place at o f : ℕ) (rest all was : List ℕ) (now : Option (List ℕ)) (kept : List (List ℕ)) → place ≤ length was → k < n → at ≡ place + size * k →
    Along judge lba len n size k rest all kept → BlockWritten (judge k (take len rest)) size at (lba + k) o f (over place (joined kept) was) None now → Wrote judge lba len n size (k + 1) (drop len rest) all place was now
wrote_more judge lba len n size k place at o f rest all was now kept h l e a b = wrote_by judge lba len n size k place at o f rest all was now kept (judge k (take len rest)) h l e a refl b

pub done_of : (e : Ended) (k : ℕ) (sense : Option Sense) (frames : List (List ℕ)) → e ≡ record { done = k; sense = sense; frames = frames } →
    ◌≡◌ {A = Outcome} (record { done = k; sense = sense }) (record { done = e.done; sense = e.sense })
done_of e k sense frames h = ap (λ (v : Ended). record { done = v.done; sense = v.sense }) (sym h)

pub frames_are : (e : Ended) (k : ℕ) (sense : Option Sense) (frames : List (List ℕ)) → e ≡ record { done = k; sense = sense; frames = frames } → frames ≡ e.frames
frames_are e k sense frames h = ap (λ (v : Ended). v.frames) (sym h)

all_written : (end : Option Stop → Ended) (size place k o f : ℕ) (was : List ℕ) (now : Option (List ℕ)) (sense : Option Sense) (frames : List (List ℕ)) (stop : Option Stop) →
    HasCause stop size o f → end stop ≡ record { done = k; sense = sense; frames = frames } → length (joined frames) ≡ size * length frames → AllLong size frames → now ≡ Some (over place (joined frames) was) →
    AllWritten end size place o f was now (record { done = k; sense = sense })
all_written end size place k o f was now sense frames stop cause e l al b =
    let same = frames_are (end stop) k sense frames e in
    record {
      stop = stop;
      cause = cause;
      outcome = done_of (end stop) k sense frames e;
      whole = ap (λ v. length (joined v)) (sym same) ∙ l ∙ ap (λ v. size * length v) same;
      long = subst (AllLong size) same al;
      bytes = b ∙ ap (λ v. Some (over place (joined v) was)) same;
    }

longer : (size k : ℕ) (kept : List (List ℕ)) (left : List ℕ) → length kept ≡ k → length (joined kept) ≡ size * k → length left ≡ size → length (joined (kept ++ (left ∷ []))) ≡ size * length (kept ++ (left ∷ []))
longer size k kept left m l s =
    let more : length (joined (kept ++ (left ∷ []))) ≡ length (joined kept) + length left =
    ap length (joined_append kept (left ∷ []) ∙ ap (λ v. joined kept ++ v) (append-nil left)) ∙ length-append (joined kept) left in
    let many : length (kept ++ (left ∷ [])) ≡ k + 1 = length-append kept (left ∷ []) ∙ ap (λ v. v + 1) m in
    more ∙ (omega (arith, l, s)) ∙ ap (λ v. size * v) (sym many)

ends_by : (judge : Judge) (lba len n size k place at o o' f : ℕ) (rest all was : List ℕ) (now : Option (List ℕ)) (kept : List (List ℕ)) (sense : Sense) (r : Result (List ℕ) Flaw) →
    place ≤ length was → k < n → at ≡ place + size * k → o ≤ o' → Along judge lba len n size k rest all kept → judge k (take len rest) ≡ r →
    BlockWritten r size at (lba + k) o' f (over place (joined kept) was) (Some sense) now →
    AllWritten (write_end lba (each judge 0 (frames_of len n all))) size place o f was now (record { done = k; sense = Some sense })
ends_by judge lba len n size k place at o o' f rest all was now kept sense (Err flaw) h l e c a j b =
    all_written _ size place k o f was now (Some sense) kept None tt (ends_found judge lba len n size k rest all kept flaw l a j ∙ ap (λ v. record { done = k; sense = v; frames = kept }) (sym b.0)) (a.bytes ∙ ap (λ v. size * v) (sym a.many)) a.long b.1
ends_by judge lba len n size k place at o o' f rest all was now kept sense (Ok frame) h l e c a j b =
    let left : List ℕ = b.1.2.0 in
    let short : length left ≡ size = b.1.2.1 ∙ b.0 in
    all_written _ size place k o f was now (Some sense) (kept ++ (left ∷ [])) (Some (record { at = k; left = left })) (rose_later o o' f c b.1.0, short)
    (ends_unstored judge lba len n size k rest all frame left kept l a j ∙ ap (λ v. record { done = k; sense = Some v; frames = kept ++ (left ∷ []) }) (sym b.1.1))
    (longer size k kept left a.many a.bytes short)
    (long_one size kept left a.long short)
    (b.1.2.2 ∙ ap (λ v. Some v) (more_over place at size k kept left was h e a.bytes))

-- it ends at block k
pub wrote_up_to : (judge : Judge) (lba len n size k place at o o' f : ℕ) (rest all was : List ℕ) (now : Option (List ℕ)) (kept : List (List ℕ)) (sense : Sense) →
    place ≤ length was → k < n → at ≡ place + size * k → o ≤ o' → Along judge lba len n size k rest all kept →
    BlockWritten (judge k (take len rest)) size at (lba + k) o' f (over place (joined kept) was) (Some sense) now →
    AllWritten (write_end lba (each judge 0 (frames_of len n all))) size place o f was now (record { done = k; sense = Some sense })
wrote_up_to judge lba len n size k place at o o' f rest all was now kept sense h l e c a b =
    ends_by judge lba len n size k place at o o' f rest all was now kept sense (judge k (take len rest)) h l e c a refl b

-- it goes to the end
pub wrote_all : (judge : Judge) (lba len n size k place o f : ℕ) (rest all was : List ℕ) (now : Option (List ℕ)) → k ≡ n → Wrote judge lba len n size k rest all place was now →
    AllWritten (write_end lba (each judge 0 (frames_of len n all))) size place o f was now (record { done = k; sense = None })
wrote_all judge lba len n size k place o f rest all was now e w =
    all_written _ size place k o f was now None w.0 None tt (ends_all judge lba len n size k rest all w.0 e w.1) (w.1.bytes ∙ ap (λ v. size * v) (sym w.1.many)) w.1.long w.2

-- The same with the code's words for the block and its lengths, and with what a line keeps from the store.
pub wrote_next : (judge : Judge) (faults : List FaultLine) (labels : List Label) (lba len n size k place at o f : ℕ) (rest rest' all was : List ℕ) (now : Option (List ℕ)) (kept : List (List ℕ)) (r : Result (List ℕ) Flaw) (label : Option Label) (size' lba' : ℕ)
    → place ≤ length was → k < n → at ≡ place + size * k → Along (keeps faults labels size place was judge) lba len n size k rest all kept → r ≡ judge k (take len rest) → label ≡ slice_get labels k → size' ≡ size → lba' ≡ lba + k → rest' ≡ drop len rest
    → BlockWritten (then_kept faults label (take size' (drop at (over place (joined kept) was))) r) size' at lba' o f (over place (joined kept) was) None now
    → Wrote (keeps faults labels size place was judge) lba len n size (k + 1) rest' all place was now
wrote_next judge faults labels lba len n size k place at o f rest rest' all was now kept r label size' lba' h l e a er eb es el ed b =
    let still : drop at (over place (joined kept) was) ≡ drop (place + size * k) was = behind_put place at (size * k) (joined kept) was h e a.bytes ∙ ap (λ m. drop m was) e in
    let b' = rw (er, eb, es, el, still) at b in
    rw ed (wrote_more (keeps faults labels size place was judge) lba len n size k place at o f rest all was now kept h l e a b')

pub wrote_until : (judge : Judge) (faults : List FaultLine) (labels : List Label) (lba len n size k place at o o' f : ℕ) (rest all was : List ℕ) (now : Option (List ℕ)) (kept : List (List ℕ)) (sense : Sense) (r : Result (List ℕ) Flaw) (label : Option Label) (size' lba' len₂ size₂ : ℕ)
    → place ≤ length was → k < n → at ≡ place + size * k → o ≤ o' → Along (keeps faults labels size place was judge) lba len n size k rest all kept
    → r ≡ judge k (take len rest) → label ≡ slice_get labels k → size' ≡ size → lba' ≡ lba + k → len₂ ≡ len → size₂ ≡ size
    → BlockWritten (then_kept faults label (take size' (drop at (over place (joined kept) was))) r) size' at lba' o' f (over place (joined kept) was) (Some sense) now
    → AllWritten (write_end lba (kept_over faults labels 0 (frames_of size₂ n (drop place was)) (each judge 0 (frames_of len₂ n all)))) size₂ place o f was now (record { done = k; sense = Some sense })
wrote_until judge faults labels lba len n size k place at o o' f rest all was now kept sense r label size' lba' len₂ size₂ h l e c a er eb es el en ez b =
    let still : drop at (over place (joined kept) was) ≡ drop (place + size * k) was = behind_put place at (size * k) (joined kept) was h e a.bytes ∙ ap (λ m. drop m was) e in
    let b' = rw (er, eb, es, el, still) at b in
    rw (en, ez, kept_each faults labels judge size place len n all was) (wrote_up_to (keeps faults labels size place was judge) lba len n size k place at o o' f rest all was now kept sense h l e c a b')

pub wrote_whole : (judge : Judge) (faults : List FaultLine) (labels : List Label) (lba len n size k place o f : ℕ) (rest all was : List ℕ) (now : Option (List ℕ)) (len₂ size₂ : ℕ) → k ≡ n → len₂ ≡ len → size₂ ≡ size
    → Wrote (keeps faults labels size place was judge) lba len n size k rest all place was now
    → AllWritten (write_end lba (kept_over faults labels 0 (frames_of size₂ n (drop place was)) (each judge 0 (frames_of len₂ n all)))) size₂ place o f was now (record { done = n; sense = None })
wrote_whole judge faults labels lba len n size k place o f rest all was now len₂ size₂ e en ez w =
    rw (en, ez, kept_each faults labels judge size place len n all was) (subst (λ d. AllWritten (write_end lba (each (keeps faults labels size place was judge) 0 (frames_of len n all))) size place o f was now (record { done = d; sense = None })) e
    (wrote_all (keeps faults labels size place was judge) lba len n size k place o f rest all was now e w))

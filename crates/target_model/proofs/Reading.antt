-- One more block sent by a read, and where it ends.
use Rattle.std.proofs.Common.{ℕ, ◌≡◌, ◌+◌, ◌*◌, ◌<◌, ◌≤◌, ◌⊎◌, inl, inr, List, [], ◌∷◌, ◌++◌, length, take, drop, Option, Some, None, Result, Ok, Err, refl, sym, ap, subst, ◌∙◌, arith, append-nil}
use Rattle.std.specs.Prelude.{replicate}
use Rattle.std.proofs.lemmas.List.{length-take, length-replicate}
use Rattle.dix_base.specs.Told.{over, Rose}
use Rattle.sense_codes.specs.declared.Sense.{Sense}
use Rattle.rig_api.specs.Frames.{frames_of, joined}
use Rattle.rig_api.specs.Target.{Stop, Ended, Flaw, each, flaw_sense, read_end, medium_sense}
use Rattle.rig_api.proofs.FrameLaws.{joined_append, frames_length}
use Rattle.rig_api.specs.Telling.{HasCause, at_front}
use Rattle.target_model.specs.Served.{AllRead, BlockRead}
use Rattle.target_model.proofs.Bytes.{front_next}
use Rattle.dix_base.proofs.Counts.{rose_later}
use Rattle.target_model.proofs.Ends.{Judge, Along, begins, goes_on, ends_found, ends_all, ends_unread}
use Rattle.target_model.proofs.Writing.{done_of, frames_are}

-- what is known of a read that has sent its first k blocks
abbrev pub Sent : Judge → (lba len n size k : ℕ) → (rest all : List ℕ) → (before into : List ℕ) → Type 0
Sent judge lba len n size k rest all before into = (kept : List (List ℕ)) × Along judge lba len n size k rest all kept × (into ≡ at_front (joined kept) before)

pub sent_none : (judge : Judge) (lba len n size : ℕ) (all before : List ℕ) → Sent judge lba len n size 0 all all before before
sent_none judge lba len n size all before = ([], begins judge lba len n size all, refl)

more_front : (kept : List (List ℕ)) (frame before into into' : List ℕ) (end : ℕ) → into ≡ at_front (joined kept) before → end ≡ length (joined kept) → into' ≡ over end frame into →
    into' ≡ at_front (joined (kept ++ (frame ∷ []))) before
more_front kept frame before into into' end e n o =
    o ∙ ap (λ k. over k frame into) n ∙ ap (λ v. over (length (joined kept)) frame v) e ∙ front_next (joined kept) frame before
    ∙ ap (λ v. at_front v before) (sym (joined_append kept (frame ∷ []) ∙ ap (λ v. joined kept ++ v) (append-nil frame)))

-- one more, in the code's words for the block and its lengths
pub sent_next : (judge : Judge) (lba len n size k o f end : ℕ) (rest rest' all before into into' buf frame : List ℕ) (kept : List (List ℕ)) (r : Result (List ℕ) Flaw) (size' lba' : ℕ) → k < n → end ≡ size * k → size ≤ length buf →
    Along judge lba len n size k rest all kept → into ≡ at_front (joined kept) before → r ≡ judge k (take len rest) → size' ≡ size → rest' ≡ drop len rest → frame ≡ take size buf →
    BlockRead r size' lba' o f None buf → into' ≡ over end frame into → Sent judge lba len n size (k + 1) rest' all before into'
sent_next judge lba len n size k o f end rest rest' all before into into' buf frame kept r size' lba' h e lb a i er es ed ef b io =
    let short : length (take size buf) ≡ size = simp length-take (omega arith) in
    let judged : judge k (take len rest) ≡ Ok (take size buf) = sym er ∙ b ∙ ap (λ v. Ok (take v buf)) es in
    let here : end ≡ length (joined kept) = e ∙ sym a.bytes in (
      kept ++ (take size buf ∷ []),
      rw ed (goes_on judge lba len n size k rest all (take size buf) kept h a judged short),
      more_front kept (take size buf) before into into' end i here (io ∙ ap (λ v. over end v into) ef),
    )

all_read : (end : Option Stop → Ended) (bytes k o f : ℕ) (before into : List ℕ) (sense : Option Sense) (frames : List (List ℕ)) (stop : Option Stop) →
    HasCause stop bytes o f → end stop ≡ record { done = k; sense = sense; frames = frames } → into ≡ at_front (joined frames) before →
    AllRead end bytes o f (record { done = k; sense = sense }) before into
all_read end bytes k o f before into sense frames stop cause e i = record {
  stop = stop;
  cause = cause;
  outcome = done_of (end stop) k sense frames e;
  into = i ∙ ap (λ v. at_front (joined v) before) (frames_are (end stop) k sense frames e);
}

ends_by : (judge : Judge) (lba len n size k o o' f : ℕ) (rest all before into : List ℕ) (kept : List (List ℕ)) (sense : Sense) → k < n → o ≤ o' →
    Along judge lba len n size k rest all kept → into ≡ at_front (joined kept) before →
    (Rose o' f × (sense ≡ medium_sense 0x11 (lba + k))) ⊎ ((flaw : Flaw) × (judge k (take len rest) ≡ Err flaw) × (sense ≡ flaw_sense flaw (lba + k))) →
    AllRead (read_end lba (each judge 0 (frames_of len n all))) len o f (record { done = k; sense = Some sense }) before into
ends_by judge lba len n size k o o' f rest all before into kept sense h c a i (inl b) =
    let left : List ℕ = replicate len 0 in
    all_read _ len k o f before into (Some sense) kept (Some (record { at = k; left = left })) (rose_later o o' f c b.0, length-replicate len 0)
    (ends_unread judge lba len n size k rest all left kept h (frames_length len n all) a ∙ ap (λ v. record { done = k; sense = Some v; frames = kept }) (sym b.1)) i
ends_by judge lba len n size k o o' f rest all before into kept sense h c a i (inr b) =
    all_read _ len k o f before into (Some sense) kept None tt (ends_found judge lba len n size k rest all kept b.0 h a b.1 ∙ ap (λ v. record { done = k; sense = Some v; frames = kept }) (sym b.2)) i

-- it ends at block k
pub sent_until : (judge : Judge) (lba len n size k o o' f : ℕ) (rest all before into buf : List ℕ) (kept : List (List ℕ)) (sense : Sense) (r : Result (List ℕ) Flaw) (size' lba' len₂ : ℕ) → k < n → o ≤ o' →
    Along judge lba len n size k rest all kept → into ≡ at_front (joined kept) before → r ≡ judge k (take len rest) → lba' ≡ lba + k → len₂ ≡ len → BlockRead r size' lba' o' f (Some sense) buf →
    AllRead (read_end lba (each judge 0 (frames_of len₂ n all))) len₂ o f (record { done = k; sense = Some sense }) before into
sent_until judge lba len n size k o o' f rest all before into buf kept sense r size' lba' len₂ h c a i er el en b =
    let b' = rw (er, el) at b in
    rw en (ends_by judge lba len n size k o o' f rest all before into kept sense h c a i b')

-- it goes to the end
pub sent_whole : (judge : Judge) (lba len n size k o f : ℕ) (rest all before into : List ℕ) (len₂ : ℕ) → k ≡ n → len₂ ≡ len → Sent judge lba len n size k rest all before into →
    AllRead (read_end lba (each judge 0 (frames_of len₂ n all))) len₂ o f (record { done = n; sense = None }) before into
sent_whole judge lba len n size k o f rest all before into len₂ e en s =
    rw en (subst (λ d. AllRead (read_end lba (each judge 0 (frames_of len n all))) len o f (record { done = d; sense = None }) before into) e
    (all_read _ len k o f before into None s.0 None tt (ends_all judge lba len n size k rest all s.0 e s.1) s.2))

-- What an op that is no request does to pages and replies, as its acts.
use Rattle.std.proofs.Common.{◌≡◌, ◌⊎◌, inl, inr, ℕ, zero, suc, ◌+◌, ◌*◌, ◌/◌, ◌%◌, ◌^◌, List, [], ◌∷◌, ◌++◌, length, map, get_or, replicate, Option, refl, sym, ap, subst, ◌∙◌, arith, append-nil}
use Rattle.std.proofs.lemmas.List.{get_or_past}
use Rattle.page_pool.specs.declared.segs.Seg.{Seg}
use Rattle.page_pool.specs.Cells.{cell, flat, gather, scatter}
use Rattle.page_pool.specs.Pages.{AreWhole, LiesIn, Wrote, bytes_at}
use Rattle.page_pool.specs.Places.{places_of, range_of, total}
use Rattle.page_pool.specs.Walking.{AllStandIn}
use Rattle.page_pool.proofs.Celled.{read-cells, whole_stays, wrote-cells}
use Rattle.page_pool.proofs.Placing.{segments_stand}
use Rattle.pi_guard.specs.Guards.{guard_of}
use Rattle.pi_guard.specs.declared.GuardKind.{GuardKind}
use Rattle.pi_tuple.specs.Finds.{own_tag}
use Rattle.pi_tuple.specs.Tuples.{tuple_bytes}
use Rattle.pi_tuple.specs.declared.checks.PiType.TheVariants.{One}
use Rattle.integrity_payload.specs.declared.payload.Payload.{Payload}
use Rattle.integrity_payload.specs.Payloads.{tuple_places}
use Rattle.bio_core.specs.declared.fate.Why.{Why}
use Rattle.range_gate.specs.Cells.{cells_of}
use Rattle.stack_ops.specs.declared.op.Op.{Op}
use Rattle.stack_ops.specs.declared.op.Op.TheVariants.{Fetch, FetchPi, Fill, Overwrite, Put, Seal, Show, Wait, Write, WritePi}
use Rattle.stack_ops.specs.declared.reply.Reply.{Reply}
use Rattle.stack_ops.specs.declared.reply.Reply.TheVariants.{Medium, Shown, Silent}
use Rattle.stack_ops.specs.Footprints.{put_seg}
use Rattle.block_path.specs.Acts.{Act, State, act, tell}
use Rattle.block_path.specs.Blocks.{ActAnswer, silent}
use Rattle.block_path.specs.Moves.{in_turn, on_bytes}
use Rattle.block_path.specs.Serial.{plain, plain_tells}
use Rattle.block_path.proofs.InTurn.{made_in_turn}
use Rattle.stack_walk_laws.specs.Passed.{act_of, acts_of, Setting, Seals, Step, body_of, each_from, tuple_of}
use Rattle.stack_walk_laws.specs.Gate.{IsAlone}
use Rattle.stack_core.specs.declared.kept.Room.{Room}
use Rattle.stack_core.specs.declared.kept.Room.TheVariants.{Tuples}
use Rattle.stack_core.specs.Doing.{CanDo}
use Rattle.stack_core.specs.Done.{OpDone, Sealed}
use Rattle.stack_core.specs.Replies.{CanSeal, HoldsSeal, shown}
use Rattle.stack_walk_laws.specs.Requests.{sealed}
use Rattle.stack_core.specs.Rooms.{Suits}
use Rattle.stack_walk_laws.specs.Seals.{IsSealed}
use Rattle.stack_core.specs.Walking.{IsReply, op_left, shown_by}
use Rattle.stack_walk_laws.proofs.WalksBegin.{size-is}
use Rattle.stack_core.proofs.Spotted.{turns, turns_one}

-- these bytes at the first place
abbrev pub at_first : List ℕ → ℕ → List ℕ
at_first bytes zero = bytes
at_first bytes (suc k) = []

at_none : (k : ℕ) → at_first [] k ≡ []
at_none zero = refl
at_none (suc k) = refl

-- Pages and reply are those of the op's acts.
pub record IsWholly (m : Setting) (i : ℕ) (op : Op) (new : List (List ℕ)) (reply : Reply) (now : State) : Type 0 where
  pub bytes : flat new ≡ (plain act (acts_of m i op) now).bytes
  pub blocks : (plain act (acts_of m i op) now).blocks ≡ op_left m op now.blocks
  pub whole : AreWhole new
  pub replies : (whys : List (Option Why)) → IsReply op whys reply
  pub shows : (k : ℕ) → at_first (shown_by reply) k ≡ (get_or (plain_tells act tell (acts_of m i op) now) k silent).shown

abbrev none_told : List ActAnswer
none_told = []

one_tell : (t : ActAnswer) (k : ℕ) → (get_or (t ∷ []) k silent).shown ≡ at_first t.shown k
one_tell t zero = refl
one_tell t (suc k) = ap (λ (a : ActAnswer). a.shown) (get_or_past none_told k silent (omega arith))

segment_stands : (pool : List (List ℕ)) (s : Seg) → LiesIn pool s → AllStandIn (length pool) (places_of s ++ [])
segment_stands pool s l = segments_stand pool (s ∷ []) (l, tt)

-- bytes that were written to a segment
wrote_segment : (old new : List (List ℕ)) (s : Seg) (bytes : List ℕ) (now : State) → AreWhole old → now.bytes ≡ flat old → LiesIn old s → Wrote old new (places_of s) bytes → flat new ≡ scatter (cells_of (s ∷ [])) bytes now.bytes
wrote_segment old new s bytes now w e l h =
    let n = append-nil (places_of s) in
    wrote-cells old new (places_of s ++ []) bytes w (segment_stands old s l) (subst (λ ps. Wrote old new ps bytes) (sym n) h) ∙ ap (λ b. scatter (cells_of (s ∷ [])) bytes b) (sym e)

seals_are : (m : Setting) (F : ℕ → Step) (k n : ℕ) → map (act_of m) (each_from k n F) ≡ turns (λ j. act_of m (F j) ∷ []) k n
seals_are m F k zero = refl
seals_are m F k (suc n) = ap (λ l. act_of m (F k) ∷ l) (seals_are m F (suc k) n)

seals_silent : (m : Setting) (F : ℕ → Step) (k n q : ℕ) (s : State) → ((j : ℕ) (t : State) → (tell (act_of m (F j)) t).shown ≡ []) → (get_or (plain_tells act tell (map (act_of m) (each_from k n F)) s) q silent).shown ≡ []
seals_silent m F k zero q s h = ap (λ (a : ActAnswer). a.shown) (get_or_past none_told q silent (omega arith))
seals_silent m F k (suc n) zero s h = h k s
seals_silent m F k (suc n) (suc q) s h = seals_silent m F (suc k) n q (act (act_of m (F k)) s) h

seals_blocks : (m : Setting) (F : ℕ → Step) (k n : ℕ) (s : State) → ((j : ℕ) (t : State) → (act (act_of m (F j)) t).blocks ≡ t.blocks) → (plain act (map (act_of m) (each_from k n F)) s).blocks ≡ s.blocks
seals_blocks m F k zero s h = refl
seals_blocks m F k (suc n) s h = seals_blocks m F (suc k) n (act (act_of m (F k)) s) h ∙ h k s

module _ (m : Setting) (i : ℕ) (old new : List (List ℕ)) (reply : Reply) (now : State) (w : AreWhole old) (same : now.bytes ≡ flat old) where
  -- nothing is written, and nothing shown
  silent_shows : reply ≡ Silent → (k : ℕ) → at_first (shown_by reply) k ≡ []
  silent_shows e k = ap (λ r. at_first (shown_by r) k) e ∙ at_none k

  still_bytes : new ≡ old → flat new ≡ now.bytes
  still_bytes e = ap flat e ∙ sym same

  still_whole : new ≡ old → AreWhole new
  still_whole e = subst AreWhole (sym e) w

  one_silent : (t : ActAnswer) → t.shown ≡ [] → reply ≡ Silent → (k : ℕ) → at_first (shown_by reply) k ≡ (get_or (t ∷ []) k silent).shown
  one_silent t e r k = silent_shows r k ∙ (sym (at_none k) ∙ (ap (λ b. at_first b k) (sym e) ∙ sym (one_tell t k)))

  -- a `seal`
  module _ (n : ℕ) (body tuples : List Seg) (app rtag : ℕ) where
    abbrev pi : Payload
    pi = sealed n tuples app rtag

    abbrev F : ℕ → Step
    F k = Seals (body_of m.size body k) (tuple_of tuples k) app ((rtag + k) % 2 ^ 32)

    abbrev one : ℕ → Act ActAnswer
    one j = on_bytes (map cell (range_of body (j * m.size) m.size)) (map cell (tuple_places tuples j)) (λ bytes. tuple_bytes (record { guard = guard_of m.mode.kind bytes; app = app; rtag = own_tag One (rtag + j) }))

    seal_bytes : CanSeal old body pi → total body ≡ n * m.size → Sealed (Tuples pi) m.mode.kind body old new → flat new ≡ (plain act (acts_of m i (Seal n body tuples app rtag)) now).bytes
    seal_bytes c fits h =
        let long = c.payload.long in
        let z : total body / n ≡ m.size = size-is body n m.size c.some fits in
        let made = made_in_turn old new tuples now w c.lie c.once same body (total body / n) m.mode.kind One rtag app n c.lies c.apart (omega arith) h in
        let made' : (plain act (in_turn one n) now).bytes ≡ flat new = ap (λ size. (plain act (in_turn (λ j. on_bytes (map cell (range_of body (j * size) size)) (map cell (tuple_places tuples j)) (λ bytes. tuple_bytes (record { guard = guard_of m.mode.kind bytes; app = app; rtag = own_tag One (rtag + j) }))) n) now).bytes) (sym z) ∙ made in
        let acts = seals_are m F 0 n ∙ turns_one (λ j. act_of m (F j)) one 0 n (λ j l. ap (λ x. act_of m (F x)) (let y : 0 + j ≡ j = omega arith in y)) in
        sym made' ∙ sym (ap (λ l. (plain act l now).bytes) acts)

  by_op : (op : Op) (kind : GuardKind) (room : Room) → IsAlone op → CanDo old room op → Suits op room → IsSealed m op → kind ≡ m.mode.kind → OpDone op kind room old new reply → IsWholly m i op new reply now
  by_op (Fill seg byte) kind room a c s f k h = record {
    bytes = wrote_segment old new seg (replicate seg.len byte) now w same c h.0;
    blocks = refl;
    whole = whole_stays old new (places_of seg) h.0.others w;
    replies = λ whys. h.1;
    shows = one_silent silent refl h.1;
  }
  by_op (Put page off bytes) kind room a c s f k h = record {
    bytes = wrote_segment old new (put_seg page off bytes) bytes now w same c.0 h.0;
    blocks = refl;
    whole = whole_stays old new (places_of (put_seg page off bytes)) h.0.others w;
    replies = λ whys. h.1;
    shows = one_silent silent refl h.1;
  }
  by_op (Show seg) kind room a c s f k h =
      let e : reply ≡ Shown (bytes_at old (places_of seg)) = h.1 ∙ ap (shown (bytes_at old (places_of seg))) s.0.1 in
      let n = append-nil (places_of seg) in
      let r : bytes_at old (places_of seg) ≡ gather 0 (cells_of (seg ∷ [])) now.bytes
      = ap (bytes_at old) (sym n) ∙ (read-cells old (places_of seg ++ []) w (segment_stands old seg c.0) ∙ ap (gather 0 (cells_of (seg ∷ []))) (sym same)) in
      record {
        bytes = still_bytes h.0;
        blocks = refl;
        whole = still_whole h.0;
        replies = λ whys. (bytes_at old (places_of seg), e);
        shows = λ q. ap (λ r. at_first (shown_by r) q) e ∙ (ap (λ b. at_first b q) r ∙ sym (one_tell (record silent { shown = gather 0 (cells_of (seg ∷ [])) now.bytes }) q));
      }
  by_op (Seal n body tuples app rtag) kind room a c s f k h =
      let pi = sealed n tuples app rtag in
      let can : CanSeal old body pi = subst (HoldsSeal old body) s c in
      let done : Sealed (Tuples pi) m.mode.kind body old new = subst (λ x. Sealed (Tuples pi) x body old new) k (subst (λ x. Sealed x kind body old new) s h.0) in
      record {
        bytes = seal_bytes n body tuples app rtag can f done;
        blocks = seals_blocks m (F n body tuples app rtag) 0 n now (λ j t. refl);
        whole = whole_stays old new (range_of tuples 0 (8 * n)) done.others w;
        replies = λ whys. h.1;
        shows = λ q. silent_shows h.1 q ∙ sym (seals_silent m (F n body tuples app rtag) 0 n q now (λ j t. refl));
      }
  by_op (Write v n body app) kind room a c s f k h = absurd a
  by_op (Fetch v n body) kind room a c s f k h = absurd a
  by_op (WritePi v n body tuples) kind room a c s f k h = absurd a
  by_op (FetchPi v n body tuples) kind room a c s f k h = absurd a
  by_op (Overwrite dev lba change) kind room a c s f k h = record {
    bytes = still_bytes h.0;
    blocks = refl;
    whole = still_whole h.0;
    replies = λ whys. h.1;
    shows = λ q. over_shows h.1 q;
  }
    where
      over_shows : (reply ≡ Silent) ⊎ (reply ≡ Medium) → (q : ℕ) → at_first (shown_by reply) q ≡ (get_or (silent ∷ []) q silent).shown
      over_shows (inl e) q = one_silent silent refl e q
      over_shows (inr e) q = ap (λ r. at_first (shown_by r) q) e ∙ (at_none q ∙ (sym (at_none q) ∙ sym (one_tell silent q)))
  by_op Wait kind room a c s f k h = record {
    bytes = still_bytes h.0;
    blocks = refl;
    whole = still_whole h.0;
    replies = λ whys. h.1;
    shows = λ q. silent_shows h.1 q ∙ sym (ap (λ (a : ActAnswer). a.shown) (get_or_past none_told q silent (omega arith)));
  }

pub is_wholly : (m : Setting) (i : ℕ) (old new : List (List ℕ)) (reply : Reply) (now : State) → AreWhole old → now.bytes ≡ flat old → (op : Op) (kind : GuardKind) (room : Room) → IsAlone op → CanDo old room op → Suits op room → IsSealed m op → kind ≡ m.mode.kind → OpDone op kind room old new reply →
    IsWholly m i op new reply now
is_wholly m i old new reply now w same op kind room a c s f k h = by_op m i old new reply now w same op kind room a c s f k h

-- False logs and replies, each by the number of the sentence that refuses it.
use Rattle.std.proofs.Common.{◌≡◌, ℕ, List, [], ◌∷◌, get_or, Option, Some, None, refl, ap, ◌∙◌, arith, inl, inr}
use Rattle.std.specs.Prelude.{drop, replicate}
use Rattle.pi_guard.specs.Guards.{crc, ip}
use Rattle.pi_tuple.specs.declared.checks.Check.TheVariants.{Guard, RefTag}
use Rattle.page_pool.specs.Places.{run}
use Rattle.cdb_codec.specs.Forms.{form}
use Rattle.cdb_codec.specs.declared.command.Cdb.TheVariants.{Read16, Write16}
use Rattle.fault_schedule.specs.declared.Label.{Label}
use Rattle.fault_schedule.specs.declared.fault.Crossing.TheVariants.{HostToAdapter}
use Rattle.integrity_payload.specs.declared.payload.Owner.TheVariants.{Block as OfBlock}
use Rattle.walk_laws.specs.Passed.{LogEntry, Op, Fetch, Show, Write, Reply, Bad, Medium as Failed, Shown, Silent, Whole, AskedBlock, from_wire, to_wire, Why, Adapter, TheVariantsMedium as Medium, Short}
use Rattle.walk_laws.specs.Settings.{block_of, route}
use Rattle.walk_laws.specs.ReadsAs.{listed_in}
use Rattle.walk_laws.proofs.ScriptRows.{faulty, flip, formatted, opening, seg}
use Rattle.run_laws.specs.BackedRun.{Backed, host_finds}
use Rattle.run_laws.specs.TakenWalk.{frame_in}
use Rattle.run_laws.proofs.RecordRows.{entry, fields, labels, m, sense}

abbrev one_write : List Op
one_write = Write 0 1 (seg 0 512) 0 ∷ []

abbrev one_read : List Op
one_read = Fetch 0 1 (seg 0 512) ∷ []

abbrev out : (op : ℕ) → List (List ℕ) → LogEntry
out op frames = entry (form (Write16 (fields 2 1))) 1 None (labels op 0 1) frames

abbrev into : (op : ℕ) → List (List ℕ) → LogEntry
into op frames = entry (form (Read16 (fields 2 1))) 1 None (labels op 0 1) frames

abbrev op_of : Option AskedBlock → ℕ
op_of None = 0
op_of (Some b) = b.route.label.op

-- 1: an entry of a block that no request has
of_nobody : Backed m one_write opening (out 9 (formatted 2 ∷ []) ∷ []) (Whole ∷ []) → ⊥
unfolding crc ip to_wire from_wire run
of_nobody h = elim h.belong.0 [ inl p ↦ wrong p.0 p.1.0 p.1.1.label | inr q ↦ q ] where
  wrong : (b : AskedBlock) → Some (record { route = route m (block_of 1 0 0); reader = None }) ≡ Some b → record { op = 9; k = 0 } ≡ b.route.label → ⊥
  wrong b e o = let p : ◌≡◌ {A = ℕ} 1 b.route.label.op = ap op_of e in let q : ◌≡◌ {A = ℕ} 9 b.route.label.op = ap (λ (n : Label). n.op) o in omega (arith, p, q)

-- 2: one block of a write stands twice
written_twice : Backed m one_write opening (out 1 (formatted 2 ∷ []) ∷ out 1 (formatted 2 ∷ []) ∷ []) (Whole ∷ []) → ⊥
unfolding crc ip to_wire from_wire run
written_twice h = let e = h.once.0 in grind (arith, e)

-- 3: the second read is answered from the first one's frame, and no command was sent
answered_from_another : Backed m (Fetch 0 1 (seg 0 512) ∷ Fetch 0 1 (seg 512 512) ∷ []) opening (into 1 (formatted 2 ∷ []) ∷ []) (Whole ∷ Whole ∷ []) → ⊥
unfolding crc ip to_wire from_wire run
answered_from_another h = let x = h.delivered.1.0 refl in let e : None ≡ Some x.0 = x.1 in grind (arith, e)

-- 4: the read was carried before the write that the script has before it
read_too_early : Backed m (Write 0 1 (seg 0 512) 0 ∷ Fetch 0 1 (seg 0 512) ∷ []) opening (into 2 (formatted 2 ∷ []) ∷ out 1 (formatted 2 ∷ []) ∷ []) (Whole ∷ Whole ∷ []) → ⊥
unfolding crc ip to_wire from_wire run
read_too_early h = let e : ◌≡◌ {A = ℕ} 0 1 = h.in_turn.1.0 refl in omega (arith, e)

-- 5: a read is delivered although its frame has another tag
passed_over : Backed m one_read opening (into 1 (replicate 520 0 ∷ []) ∷ []) (Whole ∷ []) → ⊥
unfolding crc ip to_wire from_wire run
passed_over h = let e : Some (Adapter RefTag) ≡ None = h.passes.0 refl in grind (arith, e)

-- 6: another frame was sent than the walk's
other_frame : Backed m one_write opening (out 1 (replicate 520 0 ∷ []) ∷ []) (Whole ∷ []) → ⊥
unfolding crc ip to_wire from_wire run
other_frame h = let e : ◌≡◌ {A = ℕ} 0 2 = ap (λ frames. get_or (get_or frames 0 []) 519 0) (h.written 2) in omega (arith, e)

-- 7: a command ended at a block, which isn't listed
hidden_end : Backed m one_write opening (entry (form (Write16 (fields 2 1))) 0 (sense 3 0x0C 0) (labels 1 0 1) [] ∷ []) (Whole ∷ []) → ⊥
unfolding crc ip to_wire from_wire run
hidden_end h = let e : None ≡ Some Medium = h.listed.0 in grind (arith, e)

-- 8: a block is listed for the medium, and no command ended at it
invented_medium : Backed m one_read opening [] (Bad (record { k = 0; why = Medium } ∷ []) ∷ []) → ⊥
unfolding crc ip to_wire from_wire run
invented_medium h = let x = h.caused.0 refl in let e : None ≡ Some x.0 = x.1 in grind (arith, e)

-- 9: a block of a read is listed with a finding that its frame doesn't have
invented_finding : Backed m one_read opening (into 1 (formatted 2 ∷ []) ∷ []) (Bad (record { k = 0; why = Adapter RefTag } ∷ []) ∷ []) → ⊥
unfolding crc ip to_wire from_wire run
invented_finding h =
    let x = h.spoiled.0 refl refl in
    let same : formatted 2 ≡ x.0.frame = ap frame_in x.1.0 in
    let e : None ≡ Some (Adapter RefTag) = ap (host_finds m.site.faults (route m (block_of 1 0 0)) OfBlock) same ∙ x.1.1 in
    grind (arith, e)

abbrev bytes_of : List Reply → List ℕ
bytes_of [] = []
bytes_of (Shown bytes ∷ replies) = bytes
bytes_of (Silent ∷ replies) = []
bytes_of (Whole ∷ replies) = []
bytes_of (Bad bad ∷ replies) = []
bytes_of (Failed ∷ replies) = []

-- 10: bytes are shown that the page doesn't have
other_bytes : Backed m (Show (record { page = 0; off = 0; len = 1 }) ∷ []) opening [] (Shown (7 ∷ []) ∷ []) → ⊥
unfolding crc ip to_wire from_wire run
other_bytes h = let e : ◌≡◌ {A = ℕ} 7 0 = ap (λ replies. get_or (bytes_of replies) 0 0) h.replied in omega (arith, e)

-- why the first block of the first request is listed
abbrev first_listed : List Reply → Option Why
first_listed replies = listed_in (get_or replies 0 Silent) 0

-- 11: a block of a write is listed for the adapter, which finds nothing in its frame
invented_guard : Backed m one_write opening [] (Bad (record { k = 0; why = Adapter Guard } ∷ []) ∷ []) → ⊥
unfolding crc ip to_wire from_wire run
invented_guard h = let e : Some (Adapter Guard) ≡ Some Short = ap first_listed h.checked in grind (arith, e)

-- 11: a block of a write is sent in whose frame the adapter finds another guard
unchecked_guard : Backed (faulty (flip 1 0 HostToAdapter 0 1)) one_write opening (out 1 ((1 ∷ drop 1 (formatted 2)) ∷ []) ∷ []) (Whole ∷ []) → ⊥
unfolding crc ip to_wire from_wire run
unchecked_guard h = let e : None ≡ Some (Adapter Guard) = ap first_listed h.checked in grind (arith, e)

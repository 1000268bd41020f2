-- Acts without conflict commute.
use Rattle.std.proofs.Common.{◌≡◌, ℕ, false, ◌||◌, List, [], Option, None, sym, ap, ◌∙◌}
use Rattle.std.proofs.lemmas.Bool.{or_from, or_parts}
use Rattle.bio_core.specs.declared.fate.Why.{Why}
use Rattle.range_gate.specs.Passed.{scatter, share_a_cell}
use Rattle.range_gate.specs.Cells.{cells_clash}
use Rattle.block_path.specs.Acts.{State, Act, seen, effect, act, tell, conflict}
use Rattle.block_path.specs.Serial.{Commutes}
use Rattle.block_path.proofs.Cells.{Apart, clash_back, gather_past, no_clash, scatter_past}

pub record AllApart {R : Type 0} (a b : Act R) : Type 0 where
  bytes : Apart a.bytes b.bytes
  blocks : Apart a.blocks b.blocks
  logs : Apart a.logs b.logs
  fates : Apart a.fates b.fates

pub apart : {R : Type 0} (a b : Act R) → conflict a b ≡ false → AllApart a b
apart a b h =
    let p = or_parts (cells_clash a.bytes b.bytes) (cells_clash a.blocks b.blocks || (cells_clash a.logs b.logs || cells_clash a.fates b.fates)) h in
    let q = or_parts (cells_clash a.blocks b.blocks) (cells_clash a.logs b.logs || cells_clash a.fates b.fates) p.1 in
    let r = or_parts (cells_clash a.logs b.logs) (cells_clash a.fates b.fates) q.1 in
    record { bytes = no_clash a.bytes b.bytes p.0; blocks = no_clash a.blocks b.blocks q.0; logs = no_clash a.logs b.logs r.0; fates = no_clash a.fates b.fates r.1 }

pub same_cells : (bytes bytes' : List ℕ) (blocks blocks' : List (List ℕ)) (logs logs' : List (List (List ℕ))) (fates fates' : List (Option Why)) → bytes ≡ bytes' → blocks ≡ blocks' → logs ≡ logs' → fates ≡ fates' →
    let left : State = record { bytes = bytes; blocks = blocks; logs = logs; fates = fates } in let right : State = record { bytes = bytes'; blocks = blocks'; logs = logs'; fates = fates' } in left ≡ right
same_cells bytes bytes' blocks blocks' logs logs' fates fates' p q r u = cc

-- an act sees the same after another that doesn't write what it reads
same_seen : {R : Type 0} (a b : Act R) (s : State) → share_a_cell a.bytes.reads b.bytes.writes ≡ false → share_a_cell a.blocks.reads b.blocks.writes ≡ false → share_a_cell a.logs.reads b.logs.writes ≡ false → share_a_cell a.fates.reads b.fates.writes ≡ false →
    seen a (act b s) ≡ seen a s
same_seen a b s h k l n = same_cells _ _ _ _ _ _ _ _
    (gather_past 0 a.bytes.reads b.bytes.writes (effect b s).written.bytes s.bytes h)
    (gather_past [] a.blocks.reads b.blocks.writes (effect b s).written.blocks s.blocks k)
    (gather_past [] a.logs.reads b.logs.writes (effect b s).written.logs s.logs l)
    (gather_past None a.fates.reads b.fates.writes (effect b s).written.fates s.fates n)

pub first_effect : {R : Type 0} (a b : Act R) (s : State) → AllApart a b → effect a (act b s) ≡ effect a s
first_effect a b s h = ap a.compute (same_seen a b s h.bytes.one h.blocks.one h.logs.one h.fates.one)

second_effect : {R : Type 0} (a b : Act R) (s : State) → AllApart a b → effect b (act a s) ≡ effect b s
second_effect a b s h = ap b.compute (same_seen b a s h.bytes.other h.blocks.other h.logs.other h.fates.other)

same_states : {R : Type 0} (a b : Act R) (s : State) → AllApart a b → act a (act b s) ≡ act b (act a s)
same_states a b s h =
    let x = first_effect a b s h in
    let y = second_effect a b s h in
    same_cells _ _ _ _ _ _ _ _
    (ap (λ e. scatter a.bytes.writes e.written.bytes (act b s).bytes) x
    ∙ scatter_past a.bytes.writes b.bytes.writes (effect a s).written.bytes (effect b s).written.bytes s.bytes h.bytes.writes
    ∙ sym (ap (λ e. scatter b.bytes.writes e.written.bytes (act a s).bytes) y))
    (ap (λ e. scatter a.blocks.writes e.written.blocks (act b s).blocks) x
    ∙ scatter_past a.blocks.writes b.blocks.writes (effect a s).written.blocks (effect b s).written.blocks s.blocks h.blocks.writes
    ∙ sym (ap (λ e. scatter b.blocks.writes e.written.blocks (act a s).blocks) y))
    (ap (λ e. scatter a.logs.writes e.written.logs (act b s).logs) x
    ∙ scatter_past a.logs.writes b.logs.writes (effect a s).written.logs (effect b s).written.logs s.logs h.logs.writes
    ∙ sym (ap (λ e. scatter b.logs.writes e.written.logs (act a s).logs) y))
    (ap (λ e. scatter a.fates.writes e.written.fates (act b s).fates) x
    ∙ scatter_past a.fates.writes b.fates.writes (effect a s).written.fates (effect b s).written.fates s.fates h.fates.writes
    ∙ sym (ap (λ e. scatter b.fates.writes e.written.fates (act a s).fates) y))

pub commutes : {R : Type 0} → Commutes (act {R = R}) tell conflict
commutes = record {
  states = λ a b s h. same_states a b s (apart a b h);
  first = λ a b s h. ap (λ e. e.answer) (first_effect a b s (apart a b h));
  second = λ a b s h. ap (λ e. e.answer) (second_effect a b s (apart a b h));
}

-- a conflict is one both ways
pub no_conflict_back : {R : Type 0} (a b : Act R) → conflict a b ≡ false → conflict b a ≡ false
no_conflict_back a b h =
    let p = or_parts (cells_clash a.bytes b.bytes) (cells_clash a.blocks b.blocks || (cells_clash a.logs b.logs || cells_clash a.fates b.fates)) h in
    let q = or_parts (cells_clash a.blocks b.blocks) (cells_clash a.logs b.logs || cells_clash a.fates b.fates) p.1 in
    let r = or_parts (cells_clash a.logs b.logs) (cells_clash a.fates b.fates) q.1 in
    or_from (cells_clash b.bytes a.bytes) (cells_clash b.blocks a.blocks || (cells_clash b.logs a.logs || cells_clash b.fates a.fates)) (clash_back a.bytes b.bytes p.0)
    (or_from (cells_clash b.blocks a.blocks) (cells_clash b.logs a.logs || cells_clash b.fates a.fates) (clash_back a.blocks b.blocks q.0)
    (or_from (cells_clash b.logs a.logs) (cells_clash b.fates a.fates) (clash_back a.logs b.logs r.0) (clash_back a.fates b.fates r.1)))

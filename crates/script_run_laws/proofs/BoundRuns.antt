-- The ops of a bound script are bound to its pages: what its run asks of them, over a device that suits its blocks.
use Rattle.std.proofs.Common.{◌≡◌, ◌<◌, ◌≤◌, ℕ, suc, ◌+◌, ◌*◌, Bool, true, false, ◌&&◌, List, [], ◌∷◌, ◌++◌, length, refl, sym, ap, ◌∙◌, subst, arith}
use Rattle.std.specs.Prelude.{nat_eq, nat_le, not}
use Rattle.std.specs.List.{All, IsDistinct}
use Rattle.std.proofs.lemmas.Bool.{and_parts}
use Rattle.std.proofs.lemmas.List.Elements.{All-append}
use Rattle.page_pool.specs.Places.{total}
use Rattle.page_pool.specs.declared.segs.Seg.{Seg}
use Rattle.range_gate.specs.Cells.{cells_of}
use Rattle.stack_walk_laws.specs.Passed.{State, Sent, told_by, Mode}
use Rattle.run_laws.specs.Passed.{changed, source_of, Setting, Op, Fetch, FetchPi, Fill, Overwrite, Put, Seal, Show, Wait, Write, WritePi}
use Rattle.volume_table.specs.declared.device.DeviceInfo.{DeviceInfo}
use Rattle.volume_table.specs.Tables.{Table}
use Rattle.run_laws.specs.BoundRun.{AllBound, AllSuit, IsBound, IsBoundRun, fates, rooms}
use Rattle.run_laws.specs.ToldRun.{came_by, told}
use Rattle.stack_walk_laws.specs.Finished.{FramesFit}
use Rattle.stack_walk_laws.proofs.OverDevice.{same_rooms}
use Rattle.stack_walk_laws.specs.Spots.{op_in as op_at}
use Rattle.stack_walk_laws.proofs.Binding.{suit_over}
use Rattle.script_laws.specs.Passed.{Script, both_fault, data_fault, is_inside}
use Rattle.script_laws.specs.Keeping.{Each}
use Rattle.script_laws.proofs.OpForms.{no_fault, found_inside}
use Rattle.script_run_laws.specs.Bound.{IsSettingOf}
use Rattle.script_run_laws.specs.SuitsStack.{IsStackOp, SuitsStack}
use Rattle.script_run_laws.proofs.Bodies.{AreBoth, alone-of, both-of}
use Rattle.script_run_laws.proofs.Ops.{eights}
use Rattle.script_run_laws.proofs.Segments.{cells-below, distinct-body, distinct-both, one-stands, stands}

pub has-tuples : (b : Bool) → (not b && true) ≡ false → b ≡ true
has-tuples true h = refl
has-tuples false h = sym h

-- A device suits the blocks of op i, where it is a request; and what an overwrite leaves is fine.
abbrev pub OpSuits : Setting → (ℕ → List ℕ → Bool) → (i : ℕ) → Op → Type 0
OpSuits m fine i (Fill seg byte) = Unit {0}
OpSuits m fine i (Put page off bytes) = Unit {0}
OpSuits m fine i (Show seg) = Unit {0}
OpSuits m fine i (Seal n body tuples app rtag) = Unit {0}
OpSuits m fine i (Write v n body app) = AllSuit m fine i v n
OpSuits m fine i (Fetch v n body) = AllSuit m fine i v n
OpSuits m fine i (WritePi v n body tuples) = AllSuit m fine i v n
OpSuits m fine i (FetchPi v n body tuples) = AllSuit m fine i v n
OpSuits m fine i (Overwrite dev lba change) = (block : List ℕ) → fine (source_of m.site dev lba change) block ≡ true → fine (m.site.cell dev lba) (changed change block) ≡ true
OpSuits m fine i Wait = Unit {0}

abbrev pub OpsSuit : Setting → (ℕ → List ℕ → Bool) → (i : ℕ) → List Op → Type 0
OpsSuit m fine i [] = Unit {0}
OpsSuit m fine i (op ∷ ops) = OpSuits m fine i op × OpsSuit m fine (suc i) ops

both-bound : (m : Setting) (fine : ℕ → List ℕ → Bool) (dix : Bool) (pages size i v n : ℕ) (body tuples : List Seg) → m.size ≡ size → m.mode.dix ≡ dix → AreBoth pages size n body tuples → dix ≡ true → AllSuit m fine i v n →
    All (λ c. c < 4096 * pages) (cells_of body ++ cells_of tuples) × ((total body ≡ n * m.size) × ((total tuples ≡ n * 8) × (IsDistinct nat_eq (cells_of body ++ cells_of tuples) × ((m.mode.dix ≡ true) × AllSuit m fine i v n))))
both-bound m fine dix pages size i v n body tuples z d b t h =
    let p = stands pages body b.body_is.inside in
    let q = stands pages tuples b.tuples_are.inside in (
      All-append (λ c. c < 4096 * pages) (cells_of body) (cells_of tuples) (cells-below pages body p) (cells-below pages tuples q),
      (b.body_is.long ∙ ap (λ x. n * x) (sym z), (eights n (total tuples) b.tuples_are.long, (distinct-both pages body tuples p q b.overlap, (d ∙ t, h)))),
    )

bound-op : (m : Setting) (fine : ℕ → List ℕ → Bool) (dix : Bool) (pages size i : ℕ) (op : Op) → m.size ≡ size → m.mode.dix ≡ dix → IsStackOp dix pages size op → OpSuits m fine i op → IsBound m fine (4096 * pages) i op
bound-op m fine dix pages size i (Fill seg byte) z d k h = tt
bound-op m fine dix pages size i (Put page off bytes) z d k h = tt
bound-op m fine dix pages size i (Show seg) z d k h = cells-below pages (seg ∷ []) (one-stands pages seg (and_parts (is_inside pages seg) (nat_le seg.len 64) (found_inside (is_inside pages seg && nat_le seg.len 64) _ _ k.rules)).0)
bound-op m fine dix pages size i (Seal n body tuples app rtag) z d k h =
    let b = both-of pages size n body tuples (no_fault (both_fault pages size n body tuples) _ _ k.rules) in
    cells-below pages body (stands pages body b.body_is.inside)
bound-op m fine dix pages size i (Write v n body app) z d k h =
    let a = alone-of pages size n body (no_fault (data_fault pages size n body) _ _ k.rules) in
    (cells-below pages body (stands pages body a.body_is.inside), (a.body_is.long ∙ ap (λ x. n * x) (sym z), h))
bound-op m fine dix pages size i (Fetch v n body) z d k h =
    let a = alone-of pages size n body (no_fault (data_fault pages size n body) _ _ k.rules) in
    let p = stands pages body a.body_is.inside in
    (cells-below pages body p, (a.body_is.long ∙ ap (λ x. n * x) (sym z), (distinct-body pages body p a.overlap, h)))
bound-op m fine dix pages size i (WritePi v n body tuples) z d k h = both-bound m fine dix pages size i v n body tuples z d (both-of pages size n body tuples (no_fault (both_fault pages size n body tuples) _ _ k.rules)) (has-tuples dix k.integrity) h
bound-op m fine dix pages size i (FetchPi v n body tuples) z d k h = both-bound m fine dix pages size i v n body tuples z d (both-of pages size n body tuples (no_fault (both_fault pages size n body tuples) _ _ k.rules)) (has-tuples dix k.integrity) h
bound-op m fine dix pages size i (Overwrite dev lba change) z d k h = h
bound-op m fine dix pages size i Wait z d k h = tt

pub bound-all : (m : Setting) (fine : ℕ → List ℕ → Bool) (dix : Bool) (pages size i : ℕ) (ops : List Op) → m.size ≡ size → m.mode.dix ≡ dix → Each (IsStackOp dix pages size) ops → OpsSuit m fine i ops → AllBound m fine (4096 * pages) i ops
bound-all m fine dix pages size i [] z d k h = tt
bound-all m fine dix pages size i (op ∷ ops) z d k h = (bound-op m fine dix pages size i op z d k.0 h.0, bound-all m fine dix pages size (suc i) ops z d k.1 h.1)

-- ---- what a device suits

suits-each : (m : Setting) (fine : ℕ → List ℕ → Bool) (i : ℕ) (ops : List Op) → ((j : ℕ) → j < length ops → OpSuits m fine (i + j) (op_at ops j)) → OpsSuit m fine i ops
suits-each m fine i [] h = tt
suits-each m fine i (op ∷ ops) h =
    let here : i + 0 ≡ i = omega arith in (
      subst (λ (k : ℕ). OpSuits m fine k op) here (h 0 (omega arith)),
      suits-each m fine (suc i) ops (λ j l. let z : i + suc j ≡ suc i + j = omega arith in subst (λ (k : ℕ). OpSuits m fine k (op_at ops j)) z (h (suc j) (omega arith))),
    )

-- of each op by its number
pub suits-all : (m : Setting) (fine : ℕ → List ℕ → Bool) (ops : List Op) → ((j : ℕ) → j < length ops → OpSuits m fine (suc j) (op_at ops j)) → OpsSuit m fine 1 ops
suits-all m fine ops h = suits-each m fine 1 ops (λ j l. let z : suc j ≡ 1 + j = omega arith in subst (λ (k : ℕ). OpSuits m fine k (op_at ops j)) z (h j l))

-- ---- over what stands on record

module _ (m : Setting) (es : List Sent) (fit : FramesFit m es) where
  any-op : (i : ℕ) (op : Op) → OpSuits (told m es) (λ c block. true) i op
  any-op i (Fill seg byte) = tt
  any-op i (Put page off bytes) = tt
  any-op i (Show seg) = tt
  any-op i (Seal n body tuples app rtag) = tt
  any-op i (Write v n body app) = suit_over m es fit i v n
  any-op i (Fetch v n body) = suit_over m es fit i v n
  any-op i (WritePi v n body tuples) = suit_over m es fit i v n
  any-op i (FetchPi v n body tuples) = suit_over m es fit i v n
  any-op i (Overwrite dev lba change) = λ block e. refl
  any-op i Wait = tt

  pub over-record : (s : Script) (t : Table) (devices : List DeviceInfo) (logs : ℕ) (opening : State) → SuitsStack s → IsSettingOf m s t devices logs → 4096 * s.pages + rooms m s.ops ≤ length opening.bytes → fates s.ops ≤ length opening.fates → IsBoundRun (told m es) (λ c block. true) (4096 * s.pages) s.ops opening
  over-record s t devices logs opening k is room found = record {
    bound = bound-all (told m es) (λ c block. true) s.mode.dix s.pages s.block 1 s.ops is.size (ap (λ (x : Mode). x.dix) is.mode) k.ops_are (suits-all (told m es) (λ c block. true) s.ops (λ j l. any-op (suc j) (op_at s.ops j)));
    room = subst (λ (r : ℕ). 4096 * s.pages + r ≤ length opening.bytes) (same_rooms m (told_by (came_by es)) s.ops) room;
    found = found;
    all_fine = λ c. refl;
  }

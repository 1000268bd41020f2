-- The blocks that a repair writes, done at the target: what is found of each, and what is stored.
use Rattle.std.proofs.Common.{◌≡◌, ◌<◌, ◌≤◌, ℕ, suc, ◌+◌, ◌*◌, Bool, true, false, List, [], ◌∷◌, length, get_or, take, drop, Option, None, refl, ap, subst, ◌∙◌, arith}
use Rattle.std.proofs.lemmas.List.{take_all}
use Rattle.bio_core.specs.declared.fate.Why.{Why}
use Rattle.rig_api.specs.Target.{Stored}
use Rattle.rig_api.specs.declared.units.UnitSpec.{UnitSpec}
use Rattle.volume_table.specs.Tables.{Table}
use Rattle.dix_adapter.specs.Ways.{blocks_told, shapes_of}
use Rattle.block_path.specs.Blocks.{stored_cell}
use Rattle.walk_laws.specs.Past.{Brought}
use Rattle.walk_laws.specs.Settings.{Block, Setting, route}
use Rattle.script_text.specs.declared.script.Script.{Script}
use Rattle.mirror_volume.specs.LegsPassed.{HasWalked, none_fails, setting_of}
use Rattle.mirror_laws.specs.OnLegs.{brought_each, stored_at, why_of, whys_written, written}
use Rattle.mirror_laws.specs.Repair.{steady, writing}
use Rattle.mirror_laws.specs.Stretches.{Fine, Lost, Need, On0, On1, due, due_data, whys_due}
use Rattle.mirror_volume.specs.declared.piece.Piece.{Piece}
use Rattle.mirror_volume.specs.Inner.{first_label, first_virt, pages_for, write_script}
use Rattle.mirror_volume.specs.Legs.{blocks_of}
use Rattle.mirror_volume.specs.MirrorScript.{IsMirrorScript, IsPiece, without_faults}
use Rattle.mirror_volume.proofs.OnLeg.{write_goes}
use Rattle.mirror_volume.specs.LegRuns.{AllWalked, LegRun, found_by, pool_of, replies_of}
use Rattle.mirror_volume.specs.Mending.{AreMends, whys_by}
use Rattle.mirror_volume.proofs.Quiet.{NoneOfZero, write-quiet, writes-under}
use Rattle.mirror_volume.proofs.Replied.{found-last}

-- what is written has all data of a block
abbrev pub NeedsWhole : (size : ℕ) → List Need → Type 0
NeedsWhole size [] = Unit {0}
NeedsWhole size (Fine ∷ ns) = NeedsWhole size ns
NeedsWhole size (On0 e ∷ ns) = (length e.body ≡ size) × NeedsWhole size ns
NeedsWhole size (On1 e ∷ ns) = (length e.body ≡ size) × NeedsWhole size ns
NeedsWhole size (Lost ∷ ns) = NeedsWhole size ns

module _ (s : Script) (t : Table) (half : ℕ) (quiet : NoneOfZero s.faults) (is : IsMirrorScript (without_faults s) t half) (small : s.block ≤ 4096) (units : List UnitSpec) (n : ℕ) where
  abbrev pub base : Setting
  base = setting_of s t units none_fails

  -- the piece of one block, and the block under any label
  abbrev piece : Bool → ℕ → Piece
  piece on1 u = record { op = 0; count = n; first = 0; n = 1; v = u; on1 = on1 }

  abbrev at : (k : ℕ) → Bool → ℕ → Block
  at k on1 u = record { op = 0; k = k; virt = first_virt half (piece on1 u) }

  record WroteOne (k : ℕ) (on1 : Bool) (u : ℕ) (e : Brought) (us next : List Stored) (run : LegRun) : Type 0 where
    why : get_or (found_by 1 (replies_of run)) 0 None ≡ why_of (writing (steady base) (at k on1 u) e)
    shapes : shapes_of next ≡ units
    blocks : blocks_told next ≡ stored_at (stored_cell (steady base).site (route (steady base) (at k on1 u))) ((steady base).site.device.leaves (route (steady base) (at k on1 u))) (writing (steady base) (at k on1 u) e) (blocks_told us)

  write-one : (k : ℕ) (on1 : Bool) (u : ℕ) (e : Brought) (us next : List Stored) (run : LegRun) → u < half → length e.body ≡ s.block → shapes_of us ≡ units → run.own ≡ write_script s half (piece on1 u) e.app e.body
      → HasWalked run.own t us next (pool_of run) run.records (replies_of run) → WroteOne k on1 u e us next run
  write-one k on1 u e us next run l long same own w =
      let p = piece on1 u in
      let q = steady base in
      let mine = subst (λ (x : Script). HasWalked x t us next (pool_of run) run.records (replies_of run)) (own ∙ write-quiet s half p refl quiet e.app e.body) w in
      let fit : IsPiece s.block half p = record { some = omega arith; room = omega (arith, small); inside = omega (arith, l) } in
      let g = write_goes (without_faults s) t half p is fit us e.app e.body (omega (arith, long)) next (pool_of run) run.records (replies_of run) mine in
      let here : setting_of (without_faults s) t (shapes_of us) none_fails ≡ q = ap (λ (xs : List UnitSpec). setting_of (without_faults s) t xs none_fails) same in
      let none : 0 * s.block ≡ 0 = omega arith in
      let es : brought_each s.block e.app 1 e.body ≡ e ∷ [] =
      ap (λ (x : List ℕ). record { body = x; app = e.app } ∷ []) (ap (λ (j : ℕ). take s.block (drop j e.body)) none ∙ take_all s.block e.body (omega (arith, long))) in
      let label : first_label p + 0 ≡ first_label p = omega arith in
      let virt : first_virt half p + 0 ≡ first_virt half p = omega arith in
      let bs : blocks_of half p ≡ at (first_label p) on1 u ∷ [] = λ i. record { op = 0; k = label i; virt = virt i } ∷ [] in
      let under : writing q (at (first_label p) on1 u) e ≡ writing q (at k on1 u) e = writes-under base 0 (first_label p) 0 k (first_virt half p) e in
      let whys : whys_written (setting_of (without_faults s) t (shapes_of us) none_fails) (blocks_of half p) (brought_each s.block e.app 1 e.body) ≡ why_of (writing q (at k on1 u) e) ∷ [] =
      (λ i. whys_written (here i) (bs i) (es i)) ∙ ap (λ came. why_of came ∷ []) under in
      record {
        why = ap (λ (xs : List (Option Why)). get_or xs 0 None)
            (ap (found_by 1) g.replies_are
            ∙ found-last 1 (pages_for (1 * s.block)) (whys_written (setting_of (without_faults s) t (shapes_of us) none_fails) (blocks_of half p) (brought_each s.block e.app 1 e.body)) (ap length whys) ∙ whys);
        shapes = mine.shapes ∙ same;
        blocks = g.blocks ∙ (λ i. written (here i) (bs i) (es i) (blocks_told us))
            ∙ ap (λ came. stored_at (stored_cell q.site (route q (at k on1 u))) (q.site.device.leaves (route q (at k on1 u))) came (blocks_told us)) under;
      }

  -- all that these blocks need, from block u on
  pub record MendsGo (u : ℕ) (ns : List Need) (us left : List Stored) (runs : List LegRun) : Type 0 where
    pub whys : whys_by runs ≡ whys_due (steady base) half u ns
    pub shapes : shapes_of left ≡ units
    pub blocks : blocks_told left ≡ written (steady base) (due half u ns) (due_data ns) (blocks_told us)

  pub mends-go : (u : ℕ) (ns : List Need) (us left : List Stored) (runs : List LegRun) → u + length ns ≤ half → NeedsWhole s.block ns → shapes_of us ≡ units → AreMends s half n u ns runs → AllWalked t us runs left →
      MendsGo u ns us left runs
  mends-go u [] us left [] l long same of all = record { whys = refl; shapes = ap shapes_of all ∙ same; blocks = ap blocks_told all }
  mends-go u [] us left (r ∷ runs) l long same of all = absurd of
  mends-go u (Fine ∷ ns) us left runs l long same of all = let h = mends-go (suc u) ns us left runs (omega (arith, l)) long same of all in record { whys = h.whys; shapes = h.shapes; blocks = h.blocks }
  mends-go u (Lost ∷ ns) us left runs l long same of all = let h = mends-go (suc u) ns us left runs (omega (arith, l)) long same of all in record { whys = h.whys; shapes = h.shapes; blocks = h.blocks }
  mends-go u (On0 e ∷ ns) us left [] l long same of all = absurd of
  mends-go u (On0 e ∷ ns) us left (r ∷ runs) l long same of all =
      let one = write-one u false u e us all.0 r (omega (arith, l)) long.0 same of.0 all.1.0 in
      let h = mends-go (suc u) ns all.0 left runs (omega (arith, l)) long.1 one.shapes of.1 all.1.1 in
      record { whys = λ i. one.why i ∷ h.whys i; shapes = h.shapes; blocks = h.blocks ∙ ap (written (steady base) (due half (suc u) ns) (due_data ns)) one.blocks }
  mends-go u (On1 e ∷ ns) us left [] l long same of all = absurd of
  mends-go u (On1 e ∷ ns) us left (r ∷ runs) l long same of all =
      let one = write-one (half + u) true u e us all.0 r (omega (arith, l)) long.0 same of.0 all.1.0 in
      let h = mends-go (suc u) ns all.0 left runs (omega (arith, l)) long.1 one.shapes of.1 all.1.1 in
      record { whys = λ i. one.why i ∷ h.whys i; shapes = h.shapes; blocks = h.blocks ∙ ap (written (steady base) (due half (suc u) ns) (due_data ns)) one.blocks }

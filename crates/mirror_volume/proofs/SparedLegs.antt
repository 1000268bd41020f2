-- The requests of a read on one leg where store calls may fail: what comes of each block, and that nothing stored is changed.
use Rattle.std.proofs.Common.{◌≡◌, ◌<◌, ◌≤◌, ℕ, ◌+◌, ◌*◌, true, List, [], ◌∷◌, get_or, Some, None, ap, subst, ◌∙◌, arith}
use Rattle.page_pool.specs.Cells.{flat}
use Rattle.bio_core.specs.declared.fate.Why.TheVariants.{Medium}
use Rattle.rig_api.specs.Target.{Stored}
use Rattle.rig_api.specs.declared.units.UnitSpec.{UnitSpec}
use Rattle.volume_table.specs.Tables.{Table}
use Rattle.dix_adapter.specs.Ways.{blocks_told, shapes_of}
use Rattle.walk_laws.specs.Settings.{Block, Setting}
use Rattle.script_text.specs.declared.script.Script.{Script}
use Rattle.script_stack.specs.Followed.{HasFallen, none_fails, setting_of}
use Rattle.mirror_volume.specs.declared.piece.Piece.{Piece}
use Rattle.mirror_volume.specs.Asked.{AreOf, part_of}
use Rattle.mirror_volume.specs.Inner.{first_label, first_virt, read_script}
use Rattle.mirror_volume.specs.LegRuns.{AllFallen, LegRun, found_by, pool_of, replies_of}
use Rattle.mirror_volume.specs.MirrorScript.{IsMirrorScript, IsPiece}
use Rattle.mirror_volume.specs.Spared.{fails_on_leg, names_medium}
use Rattle.mirror_volume.proofs.FellLegs.{ReadEach}
use Rattle.mirror_volume.proofs.FellRead.{FellRead, fell-read}
use Rattle.mirror_volume.proofs.Glued.{EachPart}
use Rattle.mirror_volume.proofs.OneLeg.{AllInside, part-fits}
use Rattle.mirror_volume.proofs.SparedNames.{lists-it, names-one, one-fails, rest-fails}
use Rattle.mirror_volume.proofs.SparedReads.{Comes, Fit, PartCame, base, base-comes, one-came, part-local}

module _ (s : Script) (t : Table) (half : ℕ) (is : IsMirrorScript s t half) (sh : List UnitSpec) (blocks : List (List ℕ)) (p : Piece) (fits : IsPiece s.block half p) (block : ℕ → Block)
    (named : (a c j : ℕ) → record { op = p.op; k = first_label (part_of p (a, c)) + j; virt = first_virt half (part_of p (a, c)) + j } ≡ block (a + j)) (Bad : ℕ → Type 0) where
  abbrev m : Setting
  m = setting_of s t sh none_fails

  abbrev size : ℕ
  size = s.block

  abbrev pub IsBad : ℕ → Type 0
  IsBad j = Bad (block j).virt

  pub record LegFell (ss : List (ℕ × ℕ)) (runs : List LegRun) (left : List Stored) : Type 0 where
    pub shapes : shapes_of left ≡ sh
    pub same : blocks_told left ≡ blocks
    pub parts : EachPart (PartCame m size block blocks IsBad) (part-local m size block blocks IsBad) (Comes m size block blocks IsBad) (base m size block blocks IsBad) (base-comes m size block blocks IsBad) ss runs
    pub fit : Fit m size block blocks IsBad ss runs

  module _ (a c : ℕ) (some : 1 ≤ c) (within : a + c ≤ p.n) (r : LegRun) (own : r.own ≡ read_script s half (part_of p (a, c))) (now next : List Stored) (shapes : shapes_of now ≡ sh) (same : blocks_told now ≡ blocks)
      (fell : HasFallen r.own t now next (pool_of r) r.records (replies_of r)) where
    mine : HasFallen (read_script s half (part_of p (a, c))) t now next (pool_of r) r.records (replies_of r)
    mine = subst (λ (x : Script). HasFallen x t now next (pool_of r) r.records (replies_of r)) own fell

    read : FellRead s t half (part_of p (a, c)) is (part-fits s.block half p fits a c some within) now next (pool_of r) (replies_of r)
    read = fell-read s t half (part_of p (a, c)) is (part-fits s.block half p fits a c some within) now next (pool_of r) r.records (replies_of r) mine

    reads : ReadEach m size c (λ k. block (a + k)) blocks (flat (pool_of r)) (found_by c (replies_of r))
    reads =
        subst (λ (f : ℕ → Block). ReadEach m size c f blocks (flat (pool_of r)) (found_by c (replies_of r))) (λ i k. named a c k i)
        (subst (λ (bs : List (List ℕ)). ReadEach m size c (λ k. record { op = p.op; k = first_label (part_of p (a, c)) + k; virt = first_virt half (part_of p (a, c)) + k }) bs (flat (pool_of r)) (found_by c (replies_of r))) same
        (subst (λ (z : List UnitSpec). ReadEach (setting_of s t z none_fails) size c (λ k. record { op = p.op; k = first_label (part_of p (a, c)) + k; virt = first_virt half (part_of p (a, c)) + k }) (blocks_told now) (flat (pool_of r)) (found_by c (replies_of r))) shapes
        read.reads-each))

    names : (k : ℕ) → k < c → get_or (found_by c (replies_of r)) k None ≡ Some Medium → names_medium (block (a + k)).virt r.own.ops (replies_of r) ≡ true
    names k l e =
        let there : first_virt half (part_of p (a, c)) + k ≡ (block (a + k)).virt = ap (λ (b : Block). b.virt) (named a c k) in
        names-one (block (a + k)).virt r.own.ops (replies_of r) _ _ (ap (λ (x : Script). x.ops) own) read.says
        (lists-it (first_virt half (part_of p (a, c))) (block (a + k)).virt k (found_by c (replies_of r)) e there)

  pub leg-fell : (ss : List (ℕ × ℕ)) (runs : List LegRun) (now left : List Stored) → shapes_of now ≡ sh → blocks_told now ≡ blocks → AllInside p.n ss → AreOf (read_script s half) p ss runs → AllFallen t now runs left
      → ((v : ℕ) → fails_on_leg v runs ≡ true → Bad v) → LegFell ss runs left
  leg-fell [] [] now left shapes same inside of all bad = record { shapes = ap shapes_of all ∙ shapes; same = ap blocks_told all ∙ same; parts = tt; fit = tt }
  leg-fell [] (r ∷ runs) now left shapes same inside of all bad = absurd of
  leg-fell (q ∷ ss) [] now left shapes same inside of all bad = absurd of
  leg-fell (q ∷ ss) (r ∷ runs) now left shapes same inside of all bad =
      let f = read q.0 q.1 inside.0.0 inside.0.1 r of.0 now all.0 shapes same all.1.0 in
      let rest = leg-fell ss runs all.0 left (f.shapes ∙ shapes) (f.blocks ∙ same) inside.1 of.1 all.1.1 (λ v e. bad v (rest-fails v r runs e)) in
      record {
        shapes = rest.shapes;
        same = rest.same;
        parts = (
          one-came m size block blocks IsBad q.0 q.1 r (reads q.0 q.1 inside.0.0 inside.0.1 r of.0 now all.0 shapes same all.1.0)
              (λ k l e. bad (block (q.0 + k)).virt (one-fails (block (q.0 + k)).virt r runs (names q.0 q.1 inside.0.0 inside.0.1 r of.0 now all.0 shapes same all.1.0 k l e))),
          rest.parts,
        );
        fit = rest.fit;
      }

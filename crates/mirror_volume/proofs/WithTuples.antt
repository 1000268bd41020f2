-- The script that reads a piece with its tuples, at the target: its blocks go the ways that the mirror's script says, and their tuples land.
use Rattle.std.proofs.Common.{◌≡◌, ◌<◌, ◌≤◌, ℕ, ◌+◌, ◌*◌, Bool, if◌then◌else◌, List, [], ◌∷◌, ◌++◌, length, map, replicate, take, drop, refl, sym, ap, ◌∙◌, arith, append_assoc, length-append}
use Rattle.std.proofs.lemmas.List.{drop-take, drop_at, length-drop, length-replicate, replicate-append-replicate, take-take, take_at}
use Rattle.page_pool.specs.declared.segs.Seg.{Seg}
use Rattle.page_pool.specs.Cells.{flat}
use Rattle.range_gate.specs.Cells.{cells_of, in_turn}
use Rattle.rig_api.specs.Target.{Stored}
use Rattle.rig_api.specs.Log.{LogEntry}
use Rattle.rig_discovery.specs.Discovery.{info_of}
use Rattle.stack_ops.specs.declared.reply.Reply.{Reply}
use Rattle.volume_table.specs.Tables.{MadeFor, Table}
use Rattle.block_path.specs.Acts.{State}
use Rattle.walk_laws.specs.ScriptWalk.{bad_from, whole_or_bad}
use Rattle.walk_laws.specs.Settings.{Block, Setting, block_of}
use Rattle.walk_laws.specs.Steps.{body_of, tuple_of}
use Rattle.run_laws.proofs.Parts.{tuple_part}
use Rattle.script_text.specs.declared.script.Script.{Script}
use Rattle.script_stack.specs.Passed.{AreStored, blocks_told, shapes_of}
use Rattle.script_stack.proofs.Passed.{TargetSuits}
use Rattle.script_stack.specs.Followed.{HasWalked, opening_of}
use Rattle.mirror_laws.specs.OnLegs.{data_read}
use Rattle.mirror_volume.specs.declared.piece.Piece.{Piece}
use Rattle.mirror_volume.specs.Inner.{first_label, first_virt, own_faults, page_segs, pages_for, read_pi_script}
use Rattle.mirror_volume.specs.Legs.{ReadPiOnLeg, blocks_of, mirror_setting, tuples_read}
use Rattle.mirror_volume.specs.MirrorScript.{IsMirrorScript, IsPiece, IsPieceWithTuples}
use Rattle.mirror_volume.proofs.ByApp.{AreReadPi, all_read_pi}
use Rattle.mirror_volume.proofs.OnLeg.{alike, cells_are, delivers, pages_least, pages_room}
use Rattle.mirror_volume.proofs.Turns.{segs_cells, turn_part}
use Rattle.block_path.specs.Routes.{target}

-- the cells of the tuple of block k, in pages from this one on
pub tuple_cells : (page pages n k : ℕ) → n * 8 ≤ 4096 * pages → 4096 * pages < n * 8 + 4096 → k < n → tuple_of (page_segs page pages (n * 8)) k ≡ in_turn (4096 * page + k * 8) 8
tuple_cells page pages n k l g h =
    let e : 8 * k ≡ k * 8 = omega arith in
    tuple_part (page_segs page pages (n * 8)) k
    ∙ ap (λ at. take 8 (drop at (cells_of (page_segs page pages (n * 8))))) e
    ∙ ap (λ cells. take 8 (drop (k * 8) cells)) (segs_cells page pages (n * 8) l g)
    ∙ turn_part (4096 * page) (n * 8) (k * 8) 8 (omega (arith, h))

-- such a piece is one without its tuples
pub as_piece : (size half : ℕ) (p : Piece) → IsPieceWithTuples size half p → IsPiece size half p
as_piece size half p h = let r = h.room in let u = pages_room (p.n * size) in record { some = h.some; room = omega (arith, r, u); inside = h.inside }

later_of : (at n : ℕ) (xs gap ys rest : List ℕ) → length xs + length gap ≡ at → length ys ≡ n → take n (drop at (xs ++ (gap ++ (ys ++ rest)))) ≡ ys
later_of at n xs gap ys rest e z =
    let a = length-append xs gap in
    ap (λ t. take n (drop at t)) (sym (append_assoc xs gap (ys ++ rest))) ∙ ap (take n) (drop_at (xs ++ gap) (ys ++ rest) at (omega (arith, a, e))) ∙ take_at ys rest n z

-- of the first pages as of all
pub within_pages : (at n more : ℕ) (all : List ℕ) → n ≤ more → take n (drop at all) ≡ take n (drop at (take (at + more) all))
within_pages at n more all l = sym (ap (take n) (drop-take at more all) ∙ take-take n more (drop at all) l)

module _ (s : Script) (t : Table) (half : ℕ) (p : Piece) (is : IsMirrorScript s t half) (fits : IsPieceWithTuples s.block half p) (us : List Stored) (law : TargetSuits)
    (made : MadeFor t (map info_of (shapes_of us)) s.block) (stored : AreStored us) where
  abbrev m : Setting
  m = mirror_setting s t us

  abbrev v : ℕ
  v = first_virt half p

  abbrev n : ℕ
  n = p.n

  abbrev size : ℕ
  size = s.block

  abbrev pages : ℕ
  pages = pages_for (p.n * s.block)

  abbrev more : ℕ
  more = pages_for (p.n * 8)

  abbrev segs : List Seg
  segs = page_segs 0 pages (n * size)

  abbrev tuples : List Seg
  tuples = page_segs pages more (n * 8)

  abbrev there : ℕ → Block
  there k = record { op = p.op; k = first_label p + k; virt = v + k }

  abbrev own : Setting
  own = record m { site = record m.site { faults = own_faults p 1 s.faults; device = target (own_faults p 1 s.faults) } }

  abbrev reader : Script
  reader = read_pi_script s half p

  abbrev begun : State
  begun = opening_of reader (shapes_of us) (blocks_told us)

  abbrev zeros : List ℕ
  zeros = replicate (4096 * pages) 0

  abbrev others : List ℕ
  others = replicate (4096 * more) 0

  plain-piece : IsPiece s.block half p
  plain-piece = as_piece s.block half p fits

  begins : begun.bytes ≡ [] ++ (zeros ++ ([] ++ others))
  begins =
      let e : 4096 * (pages + more) ≡ 4096 * pages + 4096 * more = omega arith in
      ap (λ (k : ℕ). replicate k 0) e ∙ sym (replicate-append-replicate (4096 * pages) (4096 * more) 0)

  zeros-long : length zeros ≡ 4096 * pages
  zeros-long = length-replicate {A = ℕ} (4096 * pages) 0

  others-long : length others ≡ 4096 * more
  others-long = length-replicate {A = ℕ} (4096 * more) 0

  read : AreReadPi own m refl (λ k. block_of 1 v k) there (body_of size segs) (tuple_of tuples) (4096 * pages) 0 n [] zeros [] others begun
  read =
      let a = pages_room (n * size) in
      let b = pages_room (n * 8) in
      let c = pages_least (n * 8) in
      all_read_pi own m refl (λ k. block_of 1 v k) there (body_of size segs) (tuple_of tuples) (4096 * pages) 0 n [] zeros [] others begun begins (omega arith) (let z = zeros-long in omega (arith, z)) (let z = zeros-long in omega (arith, a, z))
      (let z = others-long in omega (arith, b, z)) (λ k z l. alike s t half p is plain-piece us 1 k (omega (arith, l))) (λ k z l. cells_are s t half p is plain-piece us k (omega (arith, l)))
      (λ k z l. tuple_cells pages more n k b c (omega (arith, l)))
      (λ k z l. delivers s t half p is plain-piece us law made stored k (omega (arith, l)) (λ f. f ≡ size + 8) (ap (λ (d : Bool). if d then size + 8 else size) is.dix))

  pub read_pi_goes : (left : List Stored) (pool : List (List ℕ)) (log : List LogEntry) (replies : List Reply) → HasWalked reader t us left pool log replies → ReadPiOnLeg s t half p us left pool replies
  read_pi_goes left pool log replies w =
      let read-data = data_read m (blocks_of half p) (blocks_told us) in
      let theirs = tuples_read m (blocks_of half p) (blocks_told us) in
      let gap = drop (n * size) zeros in
      let rest = drop (n * 8) others in
      let a = pages_room (n * size) in
      let b = pages_room (n * 8) in
      let d = length-drop (n * size) zeros in
      let z = zeros-long in
      let x = read.long in
      let e : 4096 * pages + 4096 * more ≡ 4096 * (pages + more) = omega arith in
      record {
        replies_are = w.replies_are ∙ ap (λ whys. whole_or_bad (bad_from 0 whys) ∷ []) read.whys;
        blocks = w.blocks ∙ read.blocks;
        landed =
            sym (take-take (n * size) (4096 * (pages + more)) (flat pool) (omega (arith, a)))
            ∙ ap (take (n * size)) (w.pages ∙ read.bytes)
            ∙ take_at read-data (gap ++ ([] ++ (theirs ++ rest))) (n * size) read.long;
        tuples =
            within_pages (4096 * pages) (n * 8) (4096 * more) (flat pool) b
            ∙ ap (λ k. take (n * 8) (drop (4096 * pages) (take k (flat pool)))) e
            ∙ ap (λ t. take (n * 8) (drop (4096 * pages) t)) (w.pages ∙ read.bytes)
            ∙ later_of (4096 * pages) (n * 8) read-data gap theirs rest (omega (arith, a, d, x, z)) read.tuples_long;
      }

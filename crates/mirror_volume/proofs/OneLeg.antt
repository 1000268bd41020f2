-- The requests of a read on one leg, done at the target: what is found of each wanted block, and its data.
use Rattle.std.proofs.Common.{◌≡◌, ◌<◌, ◌≤◌, ℕ, zero, suc, ◌+◌, ◌*◌, Bool, true, false, List, [], ◌∷◌, ◌++◌, length, map, take, Option, refl, sym, ap, subst, ◌∙◌, arith}
use Rattle.std.specs.Prelude.{Result, Ok, Err}
use Rattle.std.proofs.lemmas.List.{length-replicate, length-take-le}
use Rattle.std.proofs.Math.Nat.{mul-le-mul_right}
use Rattle.page_pool.specs.Cells.{flat}
use Rattle.bio_core.specs.declared.fate.Why.{Why}
use Rattle.rig_api.specs.Log.{LogEntry}
use Rattle.rig_discovery.specs.Discovery.{info_of}
use Rattle.rig_api.specs.Target.{Stored, shape_of}
use Rattle.rig_api.specs.declared.units.UnitSpec.{UnitSpec}
use Rattle.stack_ops.specs.declared.reply.Reply.{Reply}
use Rattle.volume_table.specs.Tables.{MadeFor, Table}
use Rattle.dix_adapter.specs.Ways.{blocks_told, shapes_of}
use Rattle.walk_laws.specs.Settings.{Block, Setting}
use Rattle.walk_laws.specs.Steps.{each_from}
use Rattle.walk_laws.proofs.InSteps.{each_length}
use Rattle.script_text.specs.declared.script.Script.{Script}
use Rattle.mirror_volume.specs.LegsPassed.{HasWalked, AreStored}
use Rattle.mirror_laws.specs.OnLegs.{data_read, landed_by, why_of, whys_read}
use Rattle.mirror_laws.specs.Repair.{reading}
use Rattle.mirror_laws.proofs.Pieces.{each_shift}
use Rattle.mirror_laws.proofs.WriteByLegs.{each_same}
use Rattle.mirror_volume.specs.declared.piece.Piece.{Piece}
use Rattle.mirror_volume.specs.Inner.{first_label, first_virt, read_script}
use Rattle.mirror_volume.specs.Legs.{ReadOnLeg, blocks_of, mirror_setting}
use Rattle.mirror_volume.specs.MirrorScript.{IsMirrorScript, IsPiece}
use Rattle.mirror_volume.specs.Asked.{AreOf, bytes_after, ended, found_after, part_of, pasted, stretches, stretches_from}
use Rattle.mirror_volume.specs.LegRuns.{AllWalked, LegRun, found_by, pool_of, replies_of}
use Rattle.mirror_volume.proofs.Flat.{AllLong, flat-pasted, long-each, pasted-long}
use Rattle.mirror_volume.proofs.Painting.{painted}
use Rattle.mirror_volume.proofs.Replied.{found-last}

-- What a leg's law says of a read.
abbrev pub ReadLaw : Type 0
ReadLaw = (s : Script) (t : Table) (half : ℕ) (p : Piece) (us left : List Stored) (pool : List (List ℕ)) (log : List LogEntry) (replies : List Reply)
    → IsMirrorScript s t half → IsPiece s.block half p → MadeFor t (map info_of (shapes_of us)) s.block → AreStored us → HasWalked (read_script s half p) t us left pool log replies → ReadOnLeg s t half p us left pool replies

-- ---- units are the same by their shapes and their blocks

same-front : (a b xs ys : List (List ℕ)) → length a ≡ length b → a ++ xs ≡ b ++ ys → (a ≡ b) × (xs ≡ ys)
same-front [] [] xs ys l e = (refl, e)
same-front [] (y ∷ b) xs ys l e = absurd (omega (arith, l))
same-front (x ∷ a) [] xs ys l e = absurd (omega (arith, l))
same-front (x ∷ a) (y ∷ b) xs ys l e =
    let first : x ≡ y = cc in
    let others : a ++ xs ≡ b ++ ys = cc in
    let rest = same-front a b xs ys (omega (arith, l)) others in
    ((λ j. first j ∷ rest.0 j), rest.1)

pub same-units : (us vs : List Stored) → shapes_of vs ≡ shapes_of us → blocks_told vs ≡ blocks_told us → vs ≡ us
same-units [] [] s b = refl
same-units [] (v ∷ vs) s b = absurd cc
same-units (u ∷ us) [] s b = absurd cc
same-units (u ∷ us) (v ∷ vs) s b =
    let one : shape_of v ≡ shape_of u = cc in
    let rest : shapes_of vs ≡ shapes_of us = cc in
    let front = same-front v.blocks u.blocks (blocks_told vs) (blocks_told us) (ap (λ (z : UnitSpec). z.blocks) one) b in
    let others = same-units us vs rest front.1 in
    let ty = ap (λ (z : UnitSpec). z.ty) one in
    let size = ap (λ (z : UnitSpec). z.size) one in
    let first = ap (λ (z : UnitSpec). z.first) one in
    (λ j. record { ty = ty j; size = size j; first = first j; blocks = front.0 j } ∷ others j)

-- ---- stretches are of the blocks

-- each stretch has blocks, of n
abbrev pub AllInside : (n : ℕ) → List (ℕ × ℕ) → Type 0
AllInside n [] = Unit {0}
AllInside n (s ∷ ss) = ((1 ≤ s.1) × (s.0 + s.1 ≤ n)) × AllInside n ss

inside-both : (n : ℕ) (ss ts : List (ℕ × ℕ)) → AllInside n ss → AllInside n ts → AllInside n (ss ++ ts)
inside-both n [] ts h k = k
inside-both n (s ∷ ss) ts h k = (h.0, inside-both n ss ts h.1 k)

inside-end : (n at many : ℕ) → many ≤ at → at ≤ n → AllInside n (ended at many)
inside-end n at zero h k = tt
inside-end n at (suc many) h k = ((omega arith, omega (arith, h, k)), tt)

inside-from : (n at many : ℕ) (wanted : List Bool) → many ≤ at → at + length wanted ≤ n → AllInside n (stretches_from at many wanted)
inside-from n at many [] h k = inside-end n at many h (omega (arith, k))
inside-from n at many (true ∷ wanted) h k = inside-from n (suc at) (suc many) wanted (omega (arith, h)) (omega (arith, k))
inside-from n at many (false ∷ wanted) h k =
    inside-both n (ended at many) (stretches_from (suc at) 0 wanted) (inside-end n at many h (omega (arith, k))) (inside-from n (suc at) 0 wanted (omega arith) (omega (arith, k)))

pub all-inside : (wanted : List Bool) → AllInside (length wanted) (stretches wanted)
all-inside wanted = inside-from (length wanted) 0 0 wanted (omega arith) (omega arith)

-- ---- what a request finds and lands

pub map-each : {X Y : Type 0} (g : X → Y) (at n : ℕ) (f : ℕ → X) → map g (each_from at n f) ≡ each_from at n (λ j. g (f j))
map-each g at zero f = refl
map-each g at (suc n) f = ap (λ ys. g (f at) ∷ ys) (map-each g (suc at) n f)

pub data-flat : (m : Setting) (bs : List Block) (blocks : List (List ℕ)) → data_read m bs blocks ≡ flat (map (λ b. landed_by m.size (reading m b blocks)) bs)
data-flat m [] blocks = refl
data-flat m (b ∷ bs) blocks = ap (λ z. landed_by m.size (reading m b blocks) ++ z) (data-flat m bs blocks)

pub landed-long : (size : ℕ) (came : Result (List ℕ) Why) → ((frame : List ℕ) → came ≡ Ok frame → size ≤ length frame) → length (landed_by size came) ≡ size
landed-long size (Ok frame) h = length-take-le size frame (h frame refl)
landed-long size (Err why) h = length-replicate size 0

-- the blocks of a part of a piece, whose blocks are numbered from its first on
pub blocks-are : (half : ℕ) (p : Piece) (block : ℕ → Block)
    → ((a c j : ℕ) → record { op = p.op; k = first_label (part_of p (a, c)) + j; virt = first_virt half (part_of p (a, c)) + j } ≡ block (a + j))
    → (a c : ℕ) → blocks_of half (part_of p (a, c)) ≡ each_from a c block
blocks-are half p block named a c =
    let z : 0 + a ≡ a = omega arith in
    each_same 0 c (λ j. record { op = p.op; k = first_label (part_of p (a, c)) + j; virt = first_virt half (part_of p (a, c)) + j }) (λ j. block (a + j)) (named a c)
    ∙ sym (each_shift 0 a c block) ∙ ap (λ k. each_from k c block) z

-- such a part is a piece as well
pub part-fits : (size half : ℕ) (p : Piece) → IsPiece size half p → (a c : ℕ) → 1 ≤ c → a + c ≤ p.n → IsPiece size half (part_of p (a, c))
part-fits size half p fit a c some within =
    let room = fit.room in
    let inside = fit.inside in
    let more : c * size ≤ p.n * size = mul-le-mul_right size (omega (arith, within)) in
    record { some = some; room = omega (arith, room, more); inside = omega (arith, inside, within) }

module _ (law : ReadLaw) (s : Script) (t : Table) (half : ℕ) (is : IsMirrorScript s t half) (us : List Stored) (made : MadeFor t (map info_of (shapes_of us)) s.block) (stored : AreStored us)
    (p : Piece) (fit : IsPiece s.block half p) (block : ℕ → Block)
    (named : (a c j : ℕ) → record { op = p.op; k = first_label (part_of p (a, c)) + j; virt = first_virt half (part_of p (a, c)) + j } ≡ block (a + j)) where
  abbrev leg : Setting
  leg = mirror_setting s t us

  abbrev pub came : ℕ → Result (List ℕ) Why
  came j = reading leg (block j) (blocks_told us)

  abbrev pub finds : ℕ → Option Why
  finds j = why_of (came j)

  abbrev pub lands : ℕ → List ℕ
  lands j = landed_by s.block (came j)

  -- the request of a stretch
  pub record PartRead (a c : ℕ) (left : List Stored) (run : LegRun) : Type 0 where
    pub left_is : left ≡ us
    pub found : found_by c (replies_of run) ≡ each_from a c finds
    pub landed : take (c * s.block) (flat (pool_of run)) ≡ flat (each_from a c lands)

  part-read : (a c : ℕ) (left : List Stored) (run : LegRun) → 1 ≤ c → a + c ≤ p.n → run.own ≡ read_script s half (part_of p (a, c)) → HasWalked run.own t us left (pool_of run) run.records (replies_of run) → PartRead a c left run
  part-read a c left run some within own w =
      let mine = subst (λ (x : Script). HasWalked x t us left (pool_of run) run.records (replies_of run)) own w in
      let r = law s t half (part_of p (a, c)) us left (pool_of run) run.records (replies_of run) is (part-fits s.block half p fit a c some within) made stored mine in
      let bs = blocks-are half p block named a c in
      let whys : whys_read leg (blocks_of half (part_of p (a, c))) (blocks_told us) ≡ each_from a c finds =
      ap (λ (xs : List Block). whys_read leg xs (blocks_told us)) bs ∙ map-each (λ b. why_of (reading leg b (blocks_told us))) a c block in
      record {
        left_is = same-units us left w.shapes r.blocks;
        found = ap (found_by c) r.replies_are
            ∙ found-last c zero (whys_read leg (blocks_of half (part_of p (a, c))) (blocks_told us)) (ap length whys ∙ each_length a c finds) ∙ whys;
        landed = r.landed ∙ ap (λ (xs : List Block). data_read leg xs (blocks_told us)) bs ∙ data-flat leg (each_from a c block) (blocks_told us)
            ∙ ap flat (map-each (λ b. landed_by s.block (reading leg b (blocks_told us))) a c block);
      }

  -- the requests of all stretches
  pub record LegRead (ss : List (ℕ × ℕ)) (runs : List LegRun) (left : List Stored) (found : List (Option Why)) (xs : List (List ℕ)) : Type 0 where
    pub left_is : left ≡ us
    pub found_is : found_after ss runs found ≡ painted finds ss found
    pub bytes_are : bytes_after s.block ss runs (flat xs) ≡ flat (painted lands ss xs)
    pub long : AllLong s.block (painted lands ss xs)

  module _ (whole : (j : ℕ) → j < p.n → length (lands j) ≡ s.block) where
    pub leg-read : (ss : List (ℕ × ℕ)) (runs : List LegRun) (left : List Stored) (found : List (Option Why)) (xs : List (List ℕ)) → AllInside p.n ss → AreOf (read_script s half) p ss runs → AllWalked t us runs left → AllLong s.block xs →
        LegRead ss runs left found xs
    leg-read [] [] left found xs inside of all long = record { left_is = all; found_is = refl; bytes_are = refl; long = long }
    leg-read [] (r ∷ runs) left found xs inside of all long = absurd of
    leg-read (q ∷ ss) [] left found xs inside of all long = absurd of
    leg-read (q ∷ ss) (r ∷ runs) left found xs inside of all long =
        let within = inside.0.1 in
        let one = part-read q.0 q.1 all.0 r inside.0.0 within of.0 all.1.0 in
        let each = each_from q.0 q.1 lands in
        let each-long : AllLong s.block each = long-each s.block q.0 q.1 lands (λ j l. whole j (omega (arith, l, within))) in
        let behind = leg-read ss runs left (pasted q.0 (each_from q.0 q.1 finds) found) (pasted q.0 each xs) inside.1 of.1
        (subst (λ (z : List Stored). AllWalked t z runs left) one.left_is all.1.1) (pasted-long s.block q.0 each xs each-long long) in
        record {
          left_is = behind.left_is;
          found_is = ap (λ z. found_after ss runs (pasted q.0 z found)) one.found ∙ behind.found_is;
          bytes_are = ap (λ z. bytes_after s.block ss runs (pasted (q.0 * s.block) z (flat xs))) one.landed
              ∙ ap (bytes_after s.block ss runs) (flat-pasted s.block q.0 each xs each-long long) ∙ behind.bytes_are;
          long = behind.long;
        }

-- What the moves of a block reach, and that they lie in what their op reaches.
use Rattle.std.proofs.Common.{◌≡◌, ℕ, Bool, true, false, ◌||◌, eqb, List, [], ◌∷◌, ◌++◌, drop, refl}
use Rattle.std.proofs.lemmas.Bool.{false≢true, or_from, or_right}
use Rattle.page_pool.specs.Cells.{is_in, share_a_cell}
use Rattle.range_gate.specs.Cells.{Cells, cells_clash}
use Rattle.walk_laws.specs.Passed.{Act, conflict, ActAnswer, fetched_cell, own_cell, stored_cell, untouched, Apart}
use Rattle.walk_laws.proofs.Passed.{no_clash}
use Rattle.walk_laws.specs.Settings.{Block, Setting, route}
use Rattle.walk_laws.specs.Steps.{Alters, Reads, Seals, Sets, Shows, Step, Writes, WritesPi}
use Rattle.walk_laws.specs.ScriptWalk.{source_of}
use Rattle.run_laws.proofs.Parts.{AllIn, drop_within, share_within, none_within}
use Rattle.run_laws.specs.OpsApart.{NoneMeet}
use Rattle.run_laws.specs.ScriptMoves.{by_moves, lands_in, write_moves}

pub either_in : (c q r : Bool) → (q ≡ true → r ≡ true) → (c || q) ≡ true → (c || r) ≡ true
either_in true q r h e = refl
either_in false q r h e = h e

pub in_all : (xs : List ℕ) → AllIn xs xs
in_all xs i e = e

pub in_both : (xs ys zs : List ℕ) → AllIn xs ys → AllIn ys zs → AllIn xs zs
in_both xs ys zs h k i e = k i (h i e)

pub in_left : (xs ys : List ℕ) → AllIn xs (xs ++ ys)
in_left [] ys i e = absurd (false≢true e)
in_left (x ∷ xs) ys i e = either_in (eqb i x) (is_in i xs) (is_in i (xs ++ ys)) (in_left xs ys i) e

pub in_right : (xs ys : List ℕ) → AllIn ys (xs ++ ys)
in_right [] ys i e = e
in_right (x ∷ xs) ys i e = or_right (eqb i x) (is_in i (xs ++ ys)) (in_right xs ys i e)

pub in_joined : (xs ys zs : List ℕ) → AllIn xs zs → AllIn ys zs → AllIn (xs ++ ys) zs
in_joined [] ys zs h k i e = k i e
in_joined (x ∷ xs) ys zs h k i e = by (eqb i x) refl (in_joined xs ys zs (λ j d. h j (or_right (eqb j x) (is_in j xs) d)) k i) e where
  by : (c : Bool) → eqb i x ≡ c → (is_in i (xs ++ ys) ≡ true → is_in i zs ≡ true) → (c || is_in i (xs ++ ys)) ≡ true → is_in i zs ≡ true
  by true c f e = h i (rw c refl)
  by false c f e = f e

-- cells that lie in others
pub record Within (f big : Cells) : Type 0 where
  pub reads : AllIn f.reads big.reads
  pub writes : AllIn f.writes big.writes

no_clash_within : (f big g large : Cells) → Within f big → Within g large → cells_clash big large ≡ false → cells_clash f g ≡ false
no_clash_within f big g large a b h =
    let k = no_clash big large h in
    or_from (share_a_cell f.reads g.writes) (share_a_cell g.reads f.writes || share_a_cell f.writes g.writes)
    (share_within f.reads big.reads g.writes large.writes a.reads b.writes k.one)
    (or_from (share_a_cell g.reads f.writes) (share_a_cell f.writes g.writes)
    (share_within g.reads large.reads f.writes big.writes b.reads a.writes k.other)
    (share_within f.writes big.writes g.writes large.writes a.writes b.writes k.writes))

-- cells of the four kinds
pub record Reach : Type 0 where
  pub bytes : Cells
  pub blocks : Cells
  pub logs : Cells
  pub fates : Cells

pub record IsInside (r : Reach) (a : Act ActAnswer) : Type 0 where
  pub bytes : Within a.bytes r.bytes
  pub blocks : Within a.blocks r.blocks
  pub logs : Within a.logs r.logs
  pub fates : Within a.fates r.fates

abbrev pub AllInside : Reach → List (Act ActAnswer) → Type 0
AllInside r [] = Unit {0}
AllInside r (a ∷ acts) = IsInside r a × AllInside r acts

pub record AreClear (r q : Reach) : Type 0 where
  pub bytes : cells_clash r.bytes q.bytes ≡ false
  pub blocks : cells_clash r.blocks q.blocks ≡ false
  pub logs : cells_clash r.logs q.logs ≡ false
  pub fates : cells_clash r.fates q.fates ≡ false

no_conflict : (r q : Reach) (a b : Act ActAnswer) → IsInside r a → IsInside q b → AreClear r q → conflict a b ≡ false
no_conflict r q a b h k c =
    or_from (cells_clash a.bytes b.bytes) (cells_clash a.blocks b.blocks || (cells_clash a.logs b.logs || cells_clash a.fates b.fates)) (no_clash_within a.bytes r.bytes b.bytes q.bytes h.bytes k.bytes c.bytes)
    (or_from (cells_clash a.blocks b.blocks) (cells_clash a.logs b.logs || cells_clash a.fates b.fates) (no_clash_within a.blocks r.blocks b.blocks q.blocks h.blocks k.blocks c.blocks)
    (or_from (cells_clash a.logs b.logs) (cells_clash a.fates b.fates) (no_clash_within a.logs r.logs b.logs q.logs h.logs k.logs c.logs)
    (no_clash_within a.fates r.fates b.fates q.fates h.fates k.fates c.fates)))

pub none_meet : (r q : Reach) (xs ys : List (Act ActAnswer)) → AllInside r xs → AllInside q ys → AreClear r q → NoneMeet conflict xs ys
none_meet r q [] ys h k c = tt
none_meet r q (x ∷ xs) ys h k c = (one ys k, none_meet r q xs ys h.1 k c) where
  one : (ys : List (Act ActAnswer)) → AllInside q ys → Apart conflict x ys
  one [] k = tt
  one (y ∷ ys) k = (no_conflict r q x y h.0 k.0 c, one ys k.1)

-- one reach in another
pub record Covers (big r : Reach) : Type 0 where
  pub bytes : Within r.bytes big.bytes
  pub blocks : Within r.blocks big.blocks
  pub logs : Within r.logs big.logs
  pub fates : Within r.fates big.fates

within_within : (f g h : Cells) → Within f g → Within g h → Within f h
within_within f g h p q = record { reads = in_both f.reads g.reads h.reads p.reads q.reads; writes = in_both f.writes g.writes h.writes p.writes q.writes }

pub covered : (big r : Reach) (acts : List (Act ActAnswer)) → Covers big r → AllInside r acts → AllInside big acts
covered big r [] c h = tt
covered big r (a ∷ acts) c h = (
  record {
    bytes = within_within a.bytes r.bytes big.bytes h.0.bytes c.bytes;
    blocks = within_within a.blocks r.blocks big.blocks h.0.blocks c.blocks;
    logs = within_within a.logs r.logs big.logs h.0.logs c.logs;
    fates = within_within a.fates r.fates big.fates h.0.fates c.fates;
  },
  covered big r acts c h.1,
)

pub inside_both : (r : Reach) (xs ys : List (Act ActAnswer)) → AllInside r xs → AllInside r ys → AllInside r (xs ++ ys)
inside_both r [] ys h k = k
inside_both r (x ∷ xs) ys h k = (h.0, inside_both r xs ys h.1 k)

abbrev pub where_on : Bool → List ℕ → List ℕ
where_on true xs = xs
where_on false xs = []

abbrev pub pages_alone : (reads writes : List ℕ) → Reach
pages_alone reads writes = record { bytes = record { reads = reads; writes = writes }; blocks = untouched; logs = untouched; fates = untouched }

abbrev pub write_reach : Setting → Block → (reads writes : List ℕ) → Reach
write_reach m b reads writes = record {
  bytes = record { reads = reads; writes = writes };
  blocks = record { reads = stored_cell m.site (route m b) ∷ []; writes = stored_cell m.site (route m b) ∷ [] };
  logs = record { reads = own_cell m.site (route m b) ∷ []; writes = own_cell m.site (route m b) ∷ [] };
  fates = untouched;
}

abbrev pub read_reach : Setting → Block → (at : List ℕ) → (fate : ℕ) → Reach
read_reach m b at fate = record {
  bytes = record { reads = at; writes = at };
  blocks = record { reads = fetched_cell m.site (route m b) ∷ []; writes = [] };
  logs = record { reads = own_cell m.site (route m b) ∷ []; writes = [] };
  fates = record { reads = fate ∷ []; writes = fate ∷ [] };
}

-- of a block's moves
abbrev pub block_reach : Setting → (own : List ℕ) → (fate : ℕ) → Step → Reach
block_reach m own fate (Sets at values) = pages_alone [] at
block_reach m own fate (Shows at) = pages_alone at []
block_reach m own fate (Seals body tuple app rtag) = pages_alone body tuple
block_reach m own fate (Writes b app body) = write_reach m b (body ++ where_on m.mode.dix own) (where_on m.mode.dix own)
block_reach m own fate (WritesPi b frame) = write_reach m b frame (drop m.size frame)
block_reach m own fate (Reads b owner to) = read_reach m b (lands_in owner m.mode.dix to own) fate
block_reach m own fate (Alters dev lba change) = record {
  bytes = untouched;
  blocks = record { reads = source_of m.site dev lba change ∷ []; writes = m.site.cell dev lba ∷ [] };
  logs = untouched;
  fates = untouched;
}

same : (f : Cells) → Within f f
same f = record { reads = in_all f.reads; writes = in_all f.writes }

none : (f : Cells) → Within untouched f
none f = record { reads = none_within f.reads; writes = none_within f.writes }

pub block_inside : (m : Setting) (own : List ℕ) (fate : ℕ) (step : Step) → AllInside (block_reach m own fate step) (by_moves m own fate step).moves
block_inside m own fate (Sets at values) = (record { bytes = same _; blocks = same _; logs = same _; fates = same _ }, tt)
block_inside m own fate (Shows at) = (record { bytes = same _; blocks = same _; logs = same _; fates = same _ }, tt)
block_inside m own fate (Seals body tuple app rtag) = (record { bytes = same _; blocks = same _; logs = same _; fates = same _ }, tt)
block_inside m own fate (Alters dev lba change) = (record { bytes = same _; blocks = same _; logs = same _; fates = same _ }, tt)
block_inside m own fate (Writes b app body) = by m.mode.dix where
  by : (dix : Bool) → AllInside (write_reach m b (body ++ where_on dix own) (where_on dix own)) (write_moves m b app body own dix)
  by true = (
    record { bytes = record { reads = in_left body own; writes = in_all own }; blocks = none _; logs = none _; fates = same _ },
    (
      record { bytes = record { reads = in_right body own; writes = in_all own }; blocks = none _; logs = none _; fates = same _ },
      (
        record { bytes = record { reads = in_all (body ++ own); writes = none_within own }; blocks = same _; logs = same _; fates = same _ },
        (record { bytes = record { reads = in_right body own; writes = in_all own }; blocks = none _; logs = none _; fates = same _ }, tt),
      ),
    ),
  )
  by false = (record { bytes = record { reads = in_left body []; writes = none_within [] }; blocks = same _; logs = same _; fates = same _ }, tt)
block_inside m own fate (WritesPi b frame) = (
  record { bytes = record { reads = drop_within m.size frame; writes = in_all (drop m.size frame) }; blocks = none _; logs = none _; fates = same _ },
  (
    record { bytes = record { reads = in_all frame; writes = none_within (drop m.size frame) }; blocks = same _; logs = same _; fates = same _ },
    (record { bytes = record { reads = drop_within m.size frame; writes = in_all (drop m.size frame) }; blocks = none _; logs = none _; fates = same _ }, tt),
  ),
)
block_inside m own fate (Reads b owner to) =
    let at = lands_in owner m.mode.dix to own in (
      record { bytes = record { reads = none_within at; writes = in_all at }; blocks = same _; logs = same _; fates = record { reads = none_within (fate ∷ []); writes = in_all (fate ∷ []) } },
      (record { bytes = same _; blocks = none _; logs = none _; fates = record { reads = in_all (fate ∷ []); writes = none_within (fate ∷ []) } }, tt),
    )

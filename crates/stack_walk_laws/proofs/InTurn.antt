-- Blocks are settled one after another.
use Rattle.std.proofs.Common.{◌≡◌, ◌<◌, ℕ, zero, suc, ◌+◌, ◌-◌, List, [], ◌∷◌, length, get_or, take, add-one, subst, arith}
use Rattle.std.proofs.lemmas.List.{get_or_default, get_or_read}
use Rattle.pi_tuple.specs.declared.checks.PiType.{PiType}
use Rattle.bio_core.specs.declared.bio.Bio.{Bio}
use Rattle.bio_core.specs.declared.fate.Fate.{Fate}
use Rattle.bio_core.specs.declared.request.Io.{Io}
use Rattle.block_path.specs.declared.mode.Mode.{Mode}
use Rattle.stack_laws.specs.Passed.{no_bio, size}
use Rattle.stack_walk_laws.specs.Sheets.{io_at, no_io}
use Rattle.stack_walk_laws.specs.Settled.{AllSettled, BioSettled, KeptFates}

size-suc : (bios : List Bio) (n : ℕ) (d : Bio) → n < length bios → size (take (suc n) bios) ≡ size (take n bios) + (get_or bios n d).count
size-suc [] n d h = absurd (omega arith)
size-suc (b ∷ bios) zero d h = omega arith
size-suc (b ∷ bios) (suc n) d h = let e = size-suc bios n d (omega arith) in omega arith

pub size-more : (bios : List Bio) (n : ℕ) (d : Bio) → n < length bios → size (take (n + 1) bios) ≡ size (take n bios) + (get_or bios n d).count
size-more bios n d h = rw add-one (size-suc bios n d h)

-- one bio more of a command
pub bio-more : (mode : Mode) (ty : PiType) (ios : List Io) (starts now : List ℕ) (bios : List Bio) (fates : List Fate) (at n : ℕ) (d : Bio) (io : Io) (old between new : KeptFates) → now ≡ starts → n < length bios → (get_or bios n d).op - 1 < length ios →
    io ≡ get_or ios ((get_or bios n d).op - 1) io → at ≡ size (take n bios) → AllSettled mode ty ios starts bios fates n old between →
    BioSettled mode ty io (get_or now ((get_or bios n d).op - 1) 0) (get_or bios n d) fates at (get_or bios n d).count between new → AllSettled mode ty ios starts bios fates (n + 1) old new
bio-more mode ty ios starts now bios fates at n d io old between new s h l e a all step =
    let f : io ≡ io_at ios ((get_or bios n d).op - 1) = get_or_read ios ((get_or bios n d).op - 1) io l e no_io in
    let g = get_or_default bios n d no_bio h in
    let there = subst (λ j. BioSettled mode ty io (get_or j ((get_or bios n d).op - 1) 0) (get_or bios n d) fates at (get_or bios n d).count between new) s step in
    let one = subst (λ j. BioSettled mode ty j (get_or starts ((get_or bios n d).op - 1) 0) (get_or bios n d) fates at (get_or bios n d).count between new) f there in
    let two = subst (λ j. BioSettled mode ty (io_at ios ((get_or bios n d).op - 1)) (get_or starts ((get_or bios n d).op - 1) 0) (get_or bios n d) fates j (get_or bios n d).count between new) a one in
    rw add-one (between, all, subst (λ (b : Bio). BioSettled mode ty (io_at ios (b.op - 1)) (get_or starts (b.op - 1) 0) b fates (size (take n bios)) b.count between new) g two)

-- The blocks of a bio are settled one after another.
use Rattle.std.proofs.Common.{◌≡◌, true, false, ℕ, suc, ◌+◌, ◌-◌, List, get_or, length, set, ap, refl, sym, ◌∙◌, arith}
use Rattle.std.proofs.lemmas.List.{length-set}
use Rattle.pi_tuple.specs.declared.checks.PiType.{PiType}
use Rattle.block_path.specs.declared.mode.Mode.{Mode}
use Rattle.bio_core.specs.declared.bio.Bio.{Bio}
use Rattle.bio_core.specs.declared.fate.Fate.{Fate}
use Rattle.bio_core.specs.declared.fate.Why.{Why}
use Rattle.bio_core.specs.declared.fate.Fate.TheVariants.{Bad, Good, Untouched}
use Rattle.bio_core.specs.declared.request.Io.{Io}
use Rattle.stack_walk_laws.specs.Settled.{BioSettled, IsSettled, KeptFates, OneSettled}
use Rattle.stack_walk_laws.proofs.Wholes.{whole_stays}
use Rattle.stack_core.proofs.settle.settle_bio.Goals as goal
use Rattle.stack_core.proofs.settle.settle_bio.Goals.{then-ne, else-ne}

pub settle_block-settled-requires-clause-whole : goal.settle_block-settled-requires-clause-whole
settle_block-settled-requires-clause-whole c = whole_stays c.args.pool.now c.loop-i.pool c.args.io.now c.loop-i.invariant.pages c.requires.whole

-- a block that was touched
is-one : (mode : Mode) (ty : PiType) (io : Io) (start k lba : ℕ) (fate : Fate) (old new : KeptFates) → (fate ≡ Untouched → ⊥) → IsSettled mode ty io start k lba fate old new → OneSettled mode ty io start k lba fate old new
is-one mode ty io start k lba Good old new n s = s
is-one mode ty io start k lba (Bad why) old new n s = s
is-one mode ty io start k lba Untouched old new n s = absurd (n refl)

-- an untouched one
none-one : (mode : Mode) (ty : PiType) (io : Io) (start k lba : ℕ) (fate : Fate) (old : KeptFates) → fate ≡ Untouched → OneSettled mode ty io start k lba fate old old
none-one mode ty io start k lba fate old e = rw e refl

untouched : (fate : Fate) → (fate ≡ Good → ⊥) → ((why : Why) → fate ≡ Bad why → ⊥) → fate ≡ Untouched
untouched Good g b = absurd (g refl)
untouched (Bad why) g b = absurd (b why refl)
untouched Untouched g b = refl

-- one block more
one-more : (mode : Mode) (ty : PiType) (io : Io) (start : ℕ) (bio : Bio) (fates : List Fate) (at n : ℕ) (old between new : KeptFates) → BioSettled mode ty io start bio fates at n old between →
    OneSettled mode ty io start (bio.k + n) (bio.lba + n) (get_or fates (at + n) Good) between new → BioSettled mode ty io start bio fates at (n + 1) old new
one-more mode ty io start bio fates at n old between new b o = let s : n + 1 ≡ suc n = omega arith in rw s (between, b, o)

pub loop-i-preserved : goal.loop-i-preserved
loop-i-preserved c = elim c.if-ne.branch [
  | then-ne w ↦ rw (w.pool-is, w.kept-is) (record {
    pages = w.settle_block-settled.ensures.pages ∙ c.loop-i.invariant.pages;
    starts = w.set.ensures.starts ∙ c.loop-i.invariant.starts;
    held = ap length w.set.ensures.held ∙ length-set _ _ _ ∙ c.loop-i.invariant.held;
    settled = one-more _ _ _ _ c.args.bio.now _ _ _ _ (record { pages = c.loop-i.pool; held = c.loop-i.kept.held.items }) _ c.loop-i.invariant.settled
        (is-one _ _ _ _ _ _ _ _ _ (λ (u : get_or c.args.fates.now (c.args.at + c.loop-i.i) Good ≡ Untouched). absurd (let e : c.ne.result ≡ false = rw u at c.ne.ensures in let x : true ≡ false = sym w.if-ne.true ∙ e in cc))
        (record { result = w.settle_block-settled.result; settled = w.settle_block-settled.ensures.settled; held = w.set.ensures.held ∙ ap (λ (s : List ℕ). set c.loop-i.kept.held.items (get_or s (c.args.bio.now.op - 1) 0 + (c.args.bio.now.k + c.loop-i.i)) w.settle_block-settled.result) c.loop-i.invariant.starts }));
  })
  | else-ne w ↦ rw (w.pool-is, w.kept-is) (record {
    pages = c.loop-i.invariant.pages;
    starts = c.loop-i.invariant.starts;
    held = c.loop-i.invariant.held;
    settled = one-more _ _ _ _ c.args.bio.now _ _ _ _ (record { pages = c.loop-i.pool; held = c.loop-i.kept.held.items }) _ c.loop-i.invariant.settled
        (none-one _ _ _ _ _ _ _ _ (untouched (get_or c.args.fates.now (c.args.at + c.loop-i.i) Good)
        (λ (u : get_or c.args.fates.now (c.args.at + c.loop-i.i) Good ≡ Good). absurd (let e : c.ne.result ≡ true = rw u at c.ne.ensures in let x : true ≡ false = sym e ∙ w.if-ne.false in cc))
        (λ (why : Why) (u : get_or c.args.fates.now (c.args.at + c.loop-i.i) Good ≡ Bad why). absurd (let e : c.ne.result ≡ true = rw u at c.ne.ensures in let x : true ≡ false = sym e ∙ w.if-ne.false in cc))));
  })
]

-- A sweep over a formatted image, as the laws of its flips have it.
use Rattle.std.proofs.Common.{◌≡◌, ◌⊎◌, inl, inr, ◌<◌, ◌≤◌, ℕ, ◌+◌, ◌*◌, ◌%◌, List, [], ◌∷◌, length, get_or, map, Option, Some, None, refl, sym, ap, subst, ◌∙◌, arith}
use Rattle.std.proofs.lemmas.Bool.{cases_lt}
use Rattle.pi_tuple.specs.declared.checks.Check.{Check}
use Rattle.pi_tuple.specs.declared.checks.Check.TheVariants.{Guard, RefTag}
use Rattle.fault_schedule.specs.declared.fault.Crossing.TheVariants.{TargetToMedium}
use Rattle.stack_ops.specs.declared.op.Op.{Op}
use Rattle.stack_ops.specs.declared.op.Op.TheVariants.{Fetch, FetchPi, Fill, Overwrite, Put, Seal, Show, Wait, Write, WritePi}
use Rattle.script_lines.specs.declared.line.Spot.{Spot}
use Rattle.script_lines.specs.declared.line.Spot.TheVariants.{Host, Wire, Medium}
use Rattle.bio_core.specs.declared.fate.Why.{Why}
use Rattle.rig_api.specs.Image.{formatted}
use Rattle.rig_api.specs.Target.{Stored}
use Rattle.rig_api.specs.Telling.{own_units}
use Rattle.volume_table.specs.Places.{place_in, volume_len}
use Rattle.dix_adapter.specs.Ways.{blocks_told}
use Rattle.block_path.specs.Acts.{State}
use Rattle.block_path.proofs.Cells.{below}
use Rattle.walk_laws.specs.CalmRun.{AllFit, LiesInImage}
use Rattle.walk_laws.specs.Settings.{Setting}
use Rattle.walk_laws.specs.UnderMap.{NoEscape, home}
use Rattle.walk_laws.proofs.TupleFrames.{below_replicate}
use Rattle.stack_ops.specs.Ops.{first_virt}
use Rattle.run_premises.specs.Forms.{op_of}
use Rattle.script_run_laws.proofs.Calm.{all-fit}
use Rattle.script_laws.specs.Keeping.{Each}
use Rattle.script_text.specs.Crossings.{is_read}
use Rattle.script_text.specs.declared.script.Script.{Script}
use Rattle.image_laws.specs.Over.{opening_over, setting_over, volume_over}
use Rattle.flip_sweep.specs.Comes.{CameTo}
use Rattle.flip_sweep.specs.Flips.{sites_of, with_flip}
use Rattle.flip_sweep.specs.Swept.{Sweep, verdict_at}
use Rattle.flip_sweep.specs.Verdicts.{verdict_of}
use Rattle.flip_sweep.specs.declared.flips.Site.{Site}
use Rattle.flip_sweep.specs.declared.verdict.Verdict.{Verdict}
use Rattle.flip_sweep.specs.declared.verdict.Verdict.TheVariants.{Found, Same, Scrub, Unseen}
use Rattle.lab_laws.specs.Flips.{GuardFlipsAreFound, IsFoundAt, IsFoundBy, IsFoundLater, IsGuarded, IsQuietSweep, MayBeSame, OnlyAppTagsAreUnseen, TagFlipsAreFound, finder}
use Rattle.lab_laws.proofs.OneLine.{m0}
use Rattle.lab_laws.proofs.Walking.{Holds}
use Rattle.lab_laws.proofs.Fresh.{units_sizes}
use Rattle.lab_laws.proofs.Listing.{IsQuiet}
use Rattle.lab_laws.proofs.Sited.{each_site}
use Rattle.lab_laws.proofs.Verdicts.{Ready, came}
use Rattle.lab_laws.proofs.Bound.{bound, cells, flipped_is, is_even, lies_there, no_overwrite, on, plain_is, unescaped, us_are}
use Rattle.lab_laws.proofs.AtSites.{IsGuardFound, IsTagFound, comes_by, guards_found, tags_found}

module _ (w : Sweep) (h : IsQuietSweep w) where
  abbrev g : IsGuarded w
  g = h.guarded

  abbrev s : Script
  s = w.script

  abbrev image : List ℕ
  image = formatted w.units

  abbrev us : List Stored
  us = own_units image

  -- the setting of the run as it is
  abbrev own : Setting
  own = setting_over s image

  abbrev opening : State
  opening = opening_over s image

  abbrev plain : Setting
  plain = m0 own TargetToMedium 0 0 0 0

  abbrev even : own.size % 2 ≡ 0
  even = is_even w g

  abbrev lies : LiesInImage plain (volume_len own.entries) (blocks_told us)
  lies = lies_there w g

  begins : Holds own even (blocks_told us) lies opening
  begins = record {
    pages = below_replicate 256 (4096 * s.pages) 0 (omega arith);
    sizes = refl;
    each = λ v l. record { size = lies.size v l; bytes = below 256 (get_or (blocks_told us) (home plain v) []) (lies.bytes v l); escape = unescaped w g v l };
  }

  ready : Ready own even (blocks_told us) lies w.units opening s.ops
  ready = record {
    stands = begins;
    fit = subst (λ (m : Setting). AllFit m s.ops) (plain_is w g) (all-fit s (volume_over s image) us (bound w g) (no_overwrite w g));
    no_escape = subst (λ (m : Setting). NoEscape m 1 s.ops opening) (plain_is w g) h.no_escape;
    quiet = subst (λ (m : Setting). Each IsQuiet (came own even (blocks_told us) lies w.units opening m s.ops).replies) (plain_is w g) h.quiet;
    sizes = ap (λ us. map length (blocks_told us)) (us_are w g) ∙ units_sizes w.units;
    cells = cells w g;
    on = on w g;
  }

  -- ---- the verdict

  abbrev IsGuardAt : Site → Type 0
  IsGuardAt at = (off : ℕ) → off < s.block + 2 → IsFoundAt w Guard at off

  abbrev IsTagAt : Site → Type 0
  IsTagAt at = (off : ℕ) → s.block + 4 ≤ off → off < s.block + 8 → IsFoundAt w RefTag at off ⊎ MayBeSame (op_of s.ops at.op) at.spot (verdict_at w at off)

  abbrev as_came : Setting → CameTo
  as_came m = came own even (blocks_told us) lies w.units opening m s.ops

  verdict_is : (at : Site) (off : ℕ) → verdict_at w at off ≡ comes_by own even (blocks_told us) lies w.units opening w.byte g.byte g.byte_fits (is_read s.ops at.op) s.ops at off
  verdict_is at off =
      ap (λ m. verdict_of w.units (as_came m) (as_came (setting_over (with_flip s at off w.byte) image))) (plain_is w g)
      ∙ ap (λ m. verdict_of w.units (as_came plain) (as_came m)) (flipped_is w g at off)

  abbrev place : Site → ℕ × ℕ
  place at = place_in s.entries (first_virt (op_of s.ops at.op) + at.k)

  abbrev GuardFound : Site → Type 0
  GuardFound at = IsGuardFound own even (blocks_told us) lies w.units opening w.byte g.byte g.byte_fits s.ops at

  abbrev TagFound : Site → Type 0
  TagFound at = IsTagFound own even (blocks_told us) lies w.units opening w.byte g.byte g.byte_fits s.ops at

  each_guard : (sites : List Site) → Each GuardFound sites → Each IsGuardAt sites
  each_guard [] f = tt
  each_guard (at ∷ sites) f = (λ off l. subst (IsFoundBy Guard (finder Guard (op_of s.ops at.op) at.spot) (place at) at) (sym (verdict_is at off)) (f.0 off l), each_guard sites f.1)

  each_tag : (sites : List Site) → Each TagFound sites → Each IsTagAt sites
  each_tag [] f = tt
  each_tag (at ∷ sites) f = (
    λ off l h. subst (λ v. IsFoundBy RefTag (finder RefTag (op_of s.ops at.op) at.spot) (place at) at v ⊎ MayBeSame (op_of s.ops at.op) at.spot v) (sym (verdict_is at off)) (f.0 off l h),
    each_tag sites f.1,
  )

  pub all_guards : Each IsGuardAt (sites_of s)
  all_guards = each_guard (sites_of s) (each_site GuardFound s.ops (guards_found own even (blocks_told us) lies w.units opening w.byte g.byte g.byte_fits s.ops ready))

  pub all_tags : Each IsTagAt (sites_of s)
  all_tags = each_tag (sites_of s) (each_site TagFound s.ops (tags_found own even (blocks_told us) lies w.units opening w.byte g.byte g.byte_fits s.ops ready))

pub guard_flips : GuardFlipsAreFound
guard_flips w h = all_guards w h

pub tag_flips : TagFlipsAreFound
tag_flips w h = all_tags w h

-- ---- so none is unseen

later_seen : (check : Check) (number : ℕ) (place : ℕ × ℕ) (v : Verdict) → IsFoundLater check number place v → v ≡ Unseen → ⊥
later_seen check number place (Found op k w) f e = cc
later_seen check number place (Scrub dev lba c) f e = cc
later_seen check number place Same f e = cc
later_seen check number place Unseen f e = f

seen : (check : Check) (o : Option Why) (place : ℕ × ℕ) (at : Site) (v : Verdict) → IsFoundBy check o place at v → v ≡ Unseen → ⊥
seen check None place at v f = later_seen check at.op place v f
seen check (Some w) place at v f = λ e. differ (sym f ∙ e)
  where
    differ : Found at.op at.k w ≡ Unseen → ⊥
    differ e = cc

same_seen : (o : Op) (spot : Spot) (v : Verdict) → MayBeSame o spot v → v ≡ Unseen → ⊥
same_seen (Fill seg value) spot v f e = f
same_seen (Put page to bytes) spot v f e = f
same_seen (Show seg) spot v f e = f
same_seen (Seal c body tuples app rtag) spot v f e = f
same_seen (Write b c body app) spot v f e = f
same_seen (Fetch b c body) Host v f e = cc
same_seen (Fetch b c body) Wire v f e = f
same_seen (Fetch b c body) Medium v f e = f
same_seen (WritePi b c body tuples) spot v f e = f
same_seen (FetchPi b c body tuples) Host v f e = cc
same_seen (FetchPi b c body tuples) Wire v f e = f
same_seen (FetchPi b c body tuples) Medium v f e = f
same_seen (Overwrite dev lba change) spot v f e = f
same_seen Wait spot v f e = f

module _ (w : Sweep) where
  abbrev n : ℕ
  n = w.script.block

  abbrev o : Site → Op
  o at = op_of w.script.ops at.op

  abbrev lies_at : Site → ℕ × ℕ
  lies_at at = place_in w.script.entries (first_virt (o at) + at.k)

  abbrev GuardSeen : Site → Type 0
  GuardSeen at = (off : ℕ) → off < n + 2 → IsFoundAt w Guard at off

  abbrev TagSeen : Site → Type 0
  TagSeen at = (off : ℕ) → n + 4 ≤ off → off < n + 8 → IsFoundAt w RefTag at off ⊎ MayBeSame (o at) at.spot (verdict_at w at off)

  tag_not : (at : Site) (off : ℕ) → IsFoundAt w RefTag at off ⊎ MayBeSame (o at) at.spot (verdict_at w at off) → verdict_at w at off ≡ Unseen → ⊥
  tag_not at off (inl f) e = seen RefTag (finder RefTag (o at) at.spot) (lies_at at) at (verdict_at w at off) f e
  tag_not at off (inr f) e = same_seen (o at) at.spot (verdict_at w at off) f e

  abbrev IsAppTag : ℕ → Type 0
  IsAppTag off = (n + 2 ≤ off) × (off < n + 4)

  only_app : (at : Site) → GuardSeen at → TagSeen at → (off : ℕ) → off < n + 8 → verdict_at w at off ≡ Unseen → IsAppTag off
  only_app at f g off l e = by (cases_lt off (n + 2)) (cases_lt off (n + 4))
    where
      by : (off < n + 2) ⊎ (n + 2 ≤ off) → (off < n + 4) ⊎ (n + 4 ≤ off) → IsAppTag off
      by (inl p) q = absurd (seen Guard (finder Guard (o at) at.spot) (lies_at at) at (verdict_at w at off) (f off p) e)
      by (inr p) (inl q) = (p, q)
      by (inr p) (inr q) = absurd (tag_not at off (g off q l) e)

  each_app : (sites : List Site) → Each GuardSeen sites → Each TagSeen sites → Each (λ (at : Site). (off : ℕ) → off < n + 8 → verdict_at w at off ≡ Unseen → IsAppTag off) sites
  each_app [] f g = tt
  each_app (at ∷ sites) f g = (only_app at f.0 g.0, each_app sites f.1 g.1)

pub only_app_tags : OnlyAppTagsAreUnseen
only_app_tags w h = each_app w (sites_of w.script) (all_guards w h) (all_tags w h)

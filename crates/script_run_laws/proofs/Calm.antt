-- A bound script without faults, over clean blocks: all that its run on a plain map asks.
use Rattle.std.proofs.Common.{◌≡◌, ◌<◌, ℕ, zero, suc, ◌*◌, ◌^◌, Bool, true, false, not, ◌&&◌, List, [], ◌∷◌, length, map, refl, ap, subst, arith, Option, Some, None}
use Rattle.std.specs.Prelude.{eqb, if◌then◌else◌}
use Rattle.std.specs.List.{All, list_any}
use Rattle.std.proofs.lemmas.Bool.{eqb-true, or_parts}
use Rattle.std.proofs.lemmas.List.Elements.{All-cons, All-nil, All-replicate}
use Rattle.hex.specs.Hex.{IsBytes}
use Rattle.pi_tuple.specs.Finds.{is_zero}
use Rattle.pi_tuple.specs.declared.checks.PiType.{PiType}
use Rattle.pi_tuple.specs.declared.checks.PiType.TheVariants.{Zero as TypeZero, One as TypeOne, Two as TypeTwo, Three as TypeThree}
use Rattle.rig_api.specs.Target.{Stored}
use Rattle.rig_discovery.specs.Discovery.{info_of}
use Rattle.stack_walk_laws.specs.Passed.{blocks_told, shapes_of, hidden, target, Mode}
use Rattle.volume_table.specs.declared.device.DeviceInfo.{DeviceInfo}
use Rattle.volume_table.specs.Places.{place_in, volume_len}
use Rattle.volume_table.specs.Tables.{Table}
use Rattle.run_laws.specs.Passed.{AllFit, Fits, IsCalm, IsCalmRun, LiesInImage, Setting, AreClean, NoEscape, home, Op, Fetch, FetchPi, Fill, Overwrite, Put, Seal, Show, Wait, Write, WritePi, is_overwrite}
use Rattle.run_laws.specs.StoreFaults.{IsFallingRun}
use Rattle.stack_walk_laws.specs.Spots.{op_in as op_at}
use Rattle.script_laws.specs.Passed.{expect_fault, has_no_tuples, op_fault, or_else, ScriptFault, Script}
use Rattle.script_laws.specs.Keeping.{IsMode, IsOp as KeepsRules, IsTag}
use Rattle.script_laws.specs.Lines.{tag_of}
use Rattle.script_run_laws.specs.Units.{all_blocks}
use Rattle.script_run_laws.proofs.AtTarget.{told-long}
use Rattle.script_run_laws.proofs.Bodies.{if-none}
use Rattle.script_run_laws.proofs.BoundRuns.{has-tuples}
use Rattle.script_run_laws.proofs.Ops.{at-least-one, in-range, placed-op}
use Rattle.script_run_laws.proofs.OverUnits.{IsBoundOver, at_first, cell-there, op-fine, op-keeps, over, own-setting}
use Rattle.script_run_laws.proofs.Places.{one-each}
use Rattle.script_run_laws.proofs.Suits.{stack-op}

-- ---- an expected tag

or-first : (a b : Option ScriptFault) → or_else a b ≡ None → a ≡ None
or-first None b e = refl
or-first (Some f) b e = absurd cc

tupled : (ty : PiType) → has_no_tuples ty ≡ false → is_zero ty ≡ false
tupled TypeZero h = absurd cc
tupled TypeOne h = refl
tupled TypeTwo h = refl
tupled TypeThree h = refl

not-passed : (a b c : Bool) → a ≡ true → b ≡ true → c ≡ false → a && (b && not c) ≡ false → ⊥
not-passed false b c p q r h = absurd cc
not-passed true false c p q r h = absurd cc
not-passed true true true p q r h = absurd cc
not-passed true true false p q r h = absurd cc

-- a tag is expected only where tuples travel all the way
unmasked : (mode : Mode) (ty : PiType) (bad : ScriptFault) → IsMode mode → (if not (eqb mode.mask 0) && has_no_tuples ty then Some bad else None) ≡ None → mode.dix && (mode.dif && not (is_zero ty)) ≡ false → mode.mask ≡ 0
unmasked mode ty bad is none passed = by (eqb mode.mask 0) refl
  where
    by : (b : Bool) → eqb mode.mask 0 ≡ b → mode.mask ≡ 0
    by true e = eqb-true mode.mask 0 e
    by false e =
        let a : not (eqb mode.mask 0) && has_no_tuples ty ≡ false = (if-none (not (eqb mode.mask 0) && has_no_tuples ty) bad None none).0 in
        let b : has_no_tuples ty ≡ false = subst (λ (x : Bool). not x && has_no_tuples ty ≡ false) e a in
        absurd (not-passed mode.dix mode.dif (is_zero ty) (is.expects_dix e) (is.expects_dif e) (tupled ty b) passed)

pub calm-of : (s : Script) (t : Table) (us : List Stored) → IsBoundOver s t us → s.faults ≡ [] → IsCalm (over s t (shapes_of us))
calm-of s t us b none = record {
  faults = none;
  device = ap target none;
  fails = λ op. refl;
  protect = at-least-one s.mode.protect b.keeps.mode_is.protect_is.range.low_is;
  mask = unmasked s.mode t.ty _ b.keeps.mode_is (or-first (expect_fault s t.ty) _ b.bound);
}

-- ---- blocks of the volume

pub lies-in : (s : Script) (t : Table) (us : List Stored) → IsBoundOver s t us → All (All (λ x. x < 256)) (blocks_told us) → LiesInImage (over s t (shapes_of us)) (volume_len t.entries) (blocks_told us)
lies-in s t us b bytes = record {
  within = λ v l. cell-there s t us (place_in t.entries v).0 (place_in t.entries v).1 (b.made.inside v l);
  apart = one-each (over s t (shapes_of us)) s t (map info_of (shapes_of us)) (all_blocks (shapes_of us)) b.made (own-setting s t (shapes_of us));
  size = λ v l. told-long us t.ty s.block (place_in t.entries v).0 (place_in t.entries v).1 b.stored (b.made.inside v l);
  bytes = λ v l. bytes (home (over s t (shapes_of us)) v) [] (cell-there s t us (place_in t.entries v).0 (place_in t.entries v).1 (b.made.inside v l));
}

-- ---- ops

pub are-bytes : (xs : List ℕ) → IsBytes xs → All (λ x. x < 256) xs
are-bytes [] h = All-nil (λ (x : ℕ). x < 256)
are-bytes (x ∷ xs) h = All-cons (λ (y : ℕ). y < 256) x xs (h 0) (are-bytes xs (λ i. h (suc i)))

pub tag-fits : (app : ℕ) → IsTag (tag_of app) → app < 2 ^ 16
tag-fits app h = by (eqb app 0) refl h
  where
    by : (b : Bool) → eqb app 0 ≡ b → IsTag (if b then None else Some app) → app < 2 ^ 16
    by true e k = let z = eqb-true app 0 e in omega arith
    by false e k = k

fits-op : (s : Script) (t : Table) (us : List Stored) (devices : List DeviceInfo) (op : Op) → KeepsRules s.mode.dix s.pages s.block op → op_fault t devices s.block op ≡ None → is_overwrite op ≡ false → Fits (over s t (shapes_of us)) op
fits-op s t us devices (Fill seg byte) k h o = k.ranges
fits-op s t us devices (Put page off bytes) k h o = are-bytes bytes k.ranges.0
fits-op s t us devices (Show seg) k h o = tt
fits-op s t us devices (Seal n body tuples app rtag) k h o = tt
fits-op s t us devices (Write v n body app) k h o = ((placed-op (over s t (shapes_of us)) t devices s.mode.dix s.pages s.block (Write v n body app) refl refl (stack-op s.mode.dix s.pages s.block (Write v n body app) k) h).blocks, tag-fits app k.ranges.1)
fits-op s t us devices (Fetch v n body) k h o = in-range t v n h
fits-op s t us devices (WritePi v n body tuples) k h o =
    let b = (placed-op (over s t (shapes_of us)) t devices s.mode.dix s.pages s.block (WritePi v n body tuples) refl refl (stack-op s.mode.dix s.pages s.block (WritePi v n body tuples) k) h).blocks in
    (b.0, (b.1, has-tuples s.mode.dix k.integrity))
fits-op s t us devices (FetchPi v n body tuples) k h o = in-range t v n h
fits-op s t us devices (Overwrite dev lba change) k h o = absurd cc
fits-op s t us devices Wait k h o = tt

fits-each : (m : Setting) (ops : List Op) → ((i : ℕ) → i < length ops → Fits m (op_at ops i)) → AllFit m ops
fits-each m [] h = tt
fits-each m (op ∷ ops) h = (h 0 (omega arith), fits-each m ops (λ i l. h (suc i) (omega arith)))

pub none-overwrites : (ops : List Op) → list_any is_overwrite ops ≡ false → (i : ℕ) → i < length ops → is_overwrite (op_at ops i) ≡ false
none-overwrites [] h i l = absurd (omega arith)
none-overwrites (op ∷ ops) h zero l = (or_parts (is_overwrite op) (list_any is_overwrite ops) h).0
none-overwrites (op ∷ ops) h (suc i) l = none-overwrites ops (or_parts (is_overwrite op) (list_any is_overwrite ops) h).1 i (omega arith)

pub all-fit : (s : Script) (t : Table) (us : List Stored) → IsBoundOver s t us → list_any is_overwrite s.ops ≡ false → AllFit (over s t (shapes_of us)) s.ops
all-fit s t us b none = fits-each (over s t (shapes_of us)) s.ops (λ i l. fits-op s t us (map info_of (shapes_of us)) (op_at s.ops i) (op-keeps s b.keeps i l) (op-fine s t us b i l) (none-overwrites s.ops none i l))

-- ---- runs

pub calm-run : (s : Script) (t : Table) (us : List Stored) → IsBoundOver s t us → s.faults ≡ [] → list_any is_overwrite s.ops ≡ false → All (All (λ x. x < 256)) (blocks_told us) → AreClean (over s t (shapes_of us)) (blocks_told us)
    → NoEscape (over s t (shapes_of us)) 1 s.ops (at_first s us) → IsCalmRun (over s t (shapes_of us)) s.ops (at_first s us)
calm-run s t us b faults overwrites bytes clean no_escape = record {
  calm = calm-of s t us b faults;
  pages = All-replicate (λ x. x < 256) (4096 * s.pages) 0 (omega arith);
  lies = lies-in s t us b bytes;
  clean = clean;
  fit = all-fit s t us b overwrites;
  no_escape = no_escape;
}

pub falling-run : (s : Script) (t : Table) (us : List Stored) → IsBoundOver s t us → s.faults ≡ [] → list_any is_overwrite s.ops ≡ false → All (All (λ x. x < 256)) (blocks_told us) → AreClean (over s t (shapes_of us)) (blocks_told us)
    → IsFallingRun (over s t (shapes_of us)) s.ops (hidden (4096 * s.pages) (at_first s us))
falling-run s t us b faults overwrites bytes clean = record {
  calm = calm-of s t us b faults;
  lies = lies-in s t us b bytes;
  clean = clean;
  fit = all-fit s t us b overwrites;
}

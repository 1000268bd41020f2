-- What a flip comes to, by the walk with it and the walk without.
use Rattle.std.proofs.Common.{◌≡◌, ◌<◌, ◌≤◌, ℕ, zero, suc, ◌+◌, ◌%◌, List, [], ◌∷◌, ◌++◌, length, get_or, map, set, Some, None, ◌⊎◌, inl, inr, refl, sym, ap, subst, ◌∙◌, arith}
use Rattle.std.specs.Prelude.{if◌then◌else◌, unwrap_or}
use Rattle.std.proofs.lemmas.Bool.{and_parts}
use Rattle.pi_guard.specs.Guards.{crc}
use Rattle.pi_tuple.specs.Tuples.{ref_tag}
use Rattle.pi_tuple.specs.declared.tuple.Tuple.{Tuple}
use Rattle.pi_tuple.specs.declared.checks.Check.{Check}
use Rattle.pi_tuple.specs.declared.checks.PiType.TheVariants.{One}
use Rattle.pi_scrub.specs.Faults.{stored_finding}
use Rattle.fault_schedule.specs.declared.fault.Crossing.{Crossing}
use Rattle.fault_schedule.specs.declared.fault.Crossing.TheVariants.{TargetToMedium}
use Rattle.bio_core.specs.declared.fate.Why.{Why}
use Rattle.bio_core.specs.declared.fate.Why.TheVariants.{Target}
use Rattle.stack_ops.specs.declared.op.Op.{Op}
use Rattle.stack_ops.specs.declared.reply.Reply.{Reply}
use Rattle.stack_ops.specs.declared.reply.Reply.TheVariants.{Bad, Medium, Shown, Silent, Whole as AllWhole}
use Rattle.rig_api.specs.Frames.{data_of, joined, tuple_of}
use Rattle.rig_api.specs.Image.{units_from}
use Rattle.rig_api.specs.declared.units.UnitSpec.{UnitSpec}
use Rattle.rig_discovery.specs.Discovery.{info_of}
use Rattle.volume_table.specs.Places.{place_in, volume_len}
use Rattle.volume_table.specs.Tables.{IsOn}
use Rattle.dix_adapter.specs.Ways.{cell_in}
use Rattle.block_path.specs.Acts.{State}
use Rattle.walk_laws.specs.CalmRun.{AllFit, LiesInImage}
use Rattle.walk_laws.specs.Detectable.{bears}
use Rattle.walk_laws.specs.ScriptWalk.{replies_from, walk_from}
use Rattle.walk_laws.specs.Settings.{Block, Setting}
use Rattle.walk_laws.specs.UnderMap.{NoEscape, home}
use Rattle.run_laws.proofs.Found.{expected, passed, passes_if, unmasked}
use Rattle.script_laws.specs.Keeping.{Each}
use Rattle.flip_sweep.specs.Comes.{CameTo}
use Rattle.flip_sweep.specs.Verdicts.{first_found, first_spoilt, is_same, listed, verdict_of}
use Rattle.flip_sweep.specs.declared.verdict.Verdict.TheVariants.{Found, Same, Scrub, Unseen}
use Rattle.lab_laws.specs.Flips.{IsFoundLater}
use Rattle.lab_laws.proofs.Flipped.{Whole}
use Rattle.lab_laws.proofs.Marked.{IsBad}
use Rattle.lab_laws.proofs.OneLine.{m0, m1}
use Rattle.lab_laws.proofs.Walking.{Holds, same_sizes}
use Rattle.lab_laws.proofs.Bad.{begins_same}
use Rattle.lab_laws.proofs.Beside.{WasGood, stands_on}
use Rattle.lab_laws.proofs.InOps.{AllQuiet, Alters, AreOff, FoundAt, Later, Lists, MayList, OpsFit, SameRun, altered_ops, either_ops, found_ops, lists, not_before}
use Rattle.lab_laws.proofs.AtOps.{ops_fit}
use Rattle.lab_laws.proofs.Listing.{IsQuiet, found_behind, found_first, found_nowhere}
use Rattle.lab_laws.proofs.Scrubbed.{cuts, one_unit, recut, sizes_of}
use Rattle.lab_laws.proofs.Alike.{comes_to_same}

-- ---- lists of replies

lists_are : (r : Reply) → lists r ≡ listed r
lists_are Silent = refl
lists_are AllWhole = refl
lists_are (Bad blocks) = refl
lists_are (Shown bytes) = refl
lists_are Medium = refl

all_quiet : (rs : List Reply) → Each IsQuiet rs → AllQuiet rs
all_quiet [] h = tt
all_quiet (r ∷ rs) h = (lists_are r ∙ h.0, all_quiet rs h.1)

found_there : (k : ℕ) (w : Why) (behind i : ℕ) (was now : List Reply) → Each IsQuiet was → FoundAt k w behind was now → first_found i was now ≡ Some (Found (i + behind) k w)
found_there k w behind i [] now q f = absurd f
found_there k w behind i (r ∷ was) [] q f = absurd f
found_there k w zero i (r ∷ was) (r' ∷ now) q f =
    let z : i ≡ i + 0 = omega arith in
    found_first i k w r r' was now q.0 (begins_same k w (lists r') (listed r') (lists_are r') f) ∙ ap (λ j. Some (Found j k w)) z
found_there k w (suc behind) i (r ∷ was) (r' ∷ now) q f =
    let z : i + 1 + behind ≡ i + suc behind = omega arith in
    found_behind i r r' was now q.0 f.0 ∙ found_there k w behind (i + 1) was now q.1 f.1 ∙ ap (λ j. Some (Found j k w)) z

module _ (m' : Setting) (even : m'.size % 2 ≡ 0) (image : List (List ℕ)) (lies : LiesInImage (m0 m' TargetToMedium 0 0 0 0) (volume_len m'.entries) image) (units : List UnitSpec) (opening : State) where
  abbrev plain : Setting
  plain = m0 m' TargetToMedium 0 0 0 0

  abbrev n : ℕ
  n = m'.size

  abbrev count : ℕ
  count = volume_len m'.entries

  -- what ops come to
  abbrev pub came : Setting → List Op → CameTo
  came m ops = record { replies = replies_from m 1 ops opening; pages = (walk_from m 1 ops opening).bytes; stored = joined (walk_from m 1 ops opening).blocks }

  -- all that is asked of ops, and of the image of the units
  pub record Ready (ops : List Op) : Type 0 where
    pub stands : Holds m' even image lies opening
    pub fit : AllFit plain ops
    pub no_escape : NoEscape plain 1 ops opening
    pub quiet : Each IsQuiet (replies_from plain 1 ops opening)
    pub sizes : map length image ≡ sizes_of units
    pub cells : m'.site.cell ≡ cell_in units
    pub on : (v : ℕ) → v < count → IsOn (map info_of units) One n (place_in m'.entries v).0 (place_in m'.entries v).1 1

  -- ---- found in its own op

  found_is : (ops : List Op) (m : Setting) (k behind : ℕ) (w : Why) → Each IsQuiet (replies_from plain 1 ops opening) → FoundAt k w behind (replies_from plain 1 ops opening) (replies_from m 1 ops opening) →
      verdict_of units (came plain ops) (came m ops) ≡ Found (1 + behind) k w
  found_is ops m k behind w q f =
      let was = came plain ops in
      let now = came m ops in
      ap (λ o. unwrap_or o (unwrap_or (first_spoilt 0 (units_from units was.stored) (units_from units now.stored)) (if is_same was now then Same else Unseen)))
      (found_there k w behind 1 (replies_from plain 1 ops opening) (replies_from m 1 ops opening) q f)

  pub listed_verdict : (at : Crossing) (k off byte : ℕ) (check : Check) (w : Why) (before after : List Op) (o : Op) → let op = suc (length before) in
      ((i : ℕ) → i ≡ op → Lists m' even image lies at op k off byte check w i o) → Ready (before ++ (o ∷ after)) → verdict_of units (came plain (before ++ (o ∷ after))) (came (m1 m' at op k off byte) (before ++ (o ∷ after))) ≡ Found op k w
  listed_verdict at k off byte check w before after o r h =
      let op = suc (length before) in
      let ops = before ++ (o ∷ after) in
      let z : 1 + length before ≡ suc (length before) = omega arith in
      let f = found_ops m' even image lies at op k off byte check w before after o r 1 opening z (ops_fit m' even image lies op k off byte at check 1 ops h.fit) h.no_escape h.stands (all_quiet (replies_from plain 1 ops opening) h.quiet) in
      found_is ops (m1 m' at op k off byte) k (length before) w h.quiet f ∙ ap (λ j. Found j k w) z

  -- ---- found so, or the same

  pub either_verdict : (at : Crossing) (k off byte : ℕ) (check : Check) (w : Why) (before after : List Op) (o : Op) → let op = suc (length before) in
      ((i : ℕ) → i ≡ op → MayList m' even image lies at op k off byte check w i o) → Ready (before ++ (o ∷ after)) →
      let v = verdict_of units (came plain (before ++ (o ∷ after))) (came (m1 m' at op k off byte) (before ++ (o ∷ after))) in (v ≡ Found op k w) ⊎ (v ≡ Same)
  either_verdict at k off byte check w before after o r h =
      by (either_ops m' even image lies at op k off byte check w before after o r 1 opening z (ops_fit m' even image lies op k off byte at check 1 ops h.fit) h.no_escape h.stands (all_quiet (replies_from plain 1 ops opening) h.quiet))
    where
      op : ℕ
      op = suc (length before)

      ops : List Op
      ops = before ++ (o ∷ after)

      z : 1 + length before ≡ op
      z = omega arith

      flipped : Setting
      flipped = m1 m' at op k off byte

      by : FoundAt k w (length before) (replies_from plain 1 ops opening) (replies_from flipped 1 ops opening) ⊎ SameRun m' even image lies at op k off byte check 1 ops opening →
          (verdict_of units (came plain ops) (came flipped ops) ≡ Found op k w) ⊎ (verdict_of units (came plain ops) (came flipped ops) ≡ Same)
      by (inl f) = inl (found_is ops flipped k (length before) w h.quiet f ∙ ap (λ j. Found j k w) z)
      by (inr r) =
          let all : came flipped ops ≡ came plain ops = λ i. record { replies = r.replies i; pages = (r.does i).bytes; stored = joined (r.does i).blocks } in
          inr (ap (verdict_of units (came plain ops)) all ∙ comes_to_same units (came plain ops) h.quiet)

  -- ---- found later

  module _ (op k off byte : ℕ) (check : Check) where
    abbrev flipped : Setting
    flipped = m1 m' TargetToMedium op k off byte

    stands_after : (i : ℕ) (ops : List Op) (s : State) → OpsFit m' even image lies TargetToMedium op k off byte check i ops → NoEscape plain i ops s → Holds m' even image lies s → Holds m' even image lies (walk_from plain i ops s)
    stands_after i [] s fit e h = h
    stands_after i (o ∷ ops) s fit e h = stands_after (suc i) ops _ fit.1 e.1 (stands_on m' even image lies TargetToMedium op k off byte check _ s fit.0 e.0 h)

    -- the altered block, still in its place
    scrubbed : (ops : List Op) (virt : ℕ) (within : virt < count) (y : List ℕ) (whole : Whole n y) (bad : IsBad m' even virt check y) → Ready ops → let s = walk_from plain 1 ops opening in
        Holds m' even image lies s → WasGood m' even image lies TargetToMedium op k off byte check virt within y whole bad s →
        first_spoilt 0 (units_from units (joined s.blocks)) (units_from units (joined (set s.blocks (home plain virt) y))) ≡ Some (Scrub (0 + (place_in m'.entries virt).0) (place_in m'.entries virt).1 check)
    scrubbed ops virt within y whole bad ready h good =
        let s = walk_from plain 1 ops opening in
        let d : ℕ = (place_in m'.entries virt).0 in
        let lba : ℕ = (place_in m'.entries virt).1 in
        let c : ℕ = cell_in units d lba in
        let here : home plain virt ≡ c = ap (λ (f : ℕ → ℕ → ℕ). f d lba) ready.cells in
        let x = get_or s.blocks (home plain virt) [] in
        let sizes : map length s.blocks ≡ sizes_of units = h.sizes ∙ ready.sizes in
        let sizes' : map length (set s.blocks (home plain virt) y) ≡ sizes_of units = same_sizes m' even image lies s h virt within y whole ∙ sizes in
        let t : Tuple = tuple_of n x in
        let g : ℕ = crc (data_of n x) in
        let b : Block = record { op = 0; k = 0; virt = virt } in
        let passes = and_parts (bears t g (ref_tag lba)) (expected m'.mode.app 0 t) (passed m'.mode.app 0 (ref_tag lba) g t (h.each virt within).escape (good b refl)) in
        let right : stored_finding One n lba x ≡ None = passes_if 0 0 (ref_tag lba) g t passes.0 (unmasked 0 t) in
        let left : stored_finding One n lba (get_or s.blocks c []) ≡ None = ap (λ i. stored_finding One n lba (get_or s.blocks i [])) (sym here) ∙ right in
        let worse : stored_finding One n lba y ≡ Some check = bad 0 in
        ap (λ us. first_spoilt 0 us (units_from units (joined (set s.blocks (home plain virt) y)))) (cuts units s.blocks sizes)
        ∙ ap (first_spoilt 0 (recut units s.blocks)) (cuts units (set s.blocks (home plain virt) y) sizes')
        ∙ ap (λ i. first_spoilt 0 (recut units s.blocks) (recut units (set s.blocks i y))) here
        ∙ one_unit units One n 0 d lba s.blocks y check sizes (ready.on virt within) left worse

    abbrev NotBefore : List Op → Type 0
    NotBefore ops = (j behind : ℕ) → FoundAt j (Target check) behind (replies_from plain 1 ops opening) (replies_from flipped 1 ops opening) → op ≤ 1 + behind

    later_is : (ops : List Op) (virt : ℕ) (within : virt < count) (y : List ℕ) (whole : Whole n y) (bad : IsBad m' even virt check y) → Ready ops → NotBefore ops → Holds m' even image lies (walk_from plain 1 ops opening) →
        Later m' even image lies TargetToMedium op k off byte check virt within y whole bad 1 ops opening opening → IsFoundLater check op (place_in m'.entries virt) (verdict_of units (came plain ops) (came flipped ops))
    later_is ops virt within y whole bad ready first h (inl found) = subst (IsFoundLater check op (place_in m'.entries virt)) (sym (found_is ops flipped found.1 found.0 (Target check) ready.quiet found.2)) (first found.1 found.0 found.2, refl)
    later_is ops virt within y whole bad ready first h (inr same) = by same.1
      where
        by : AreOff m' even image lies TargetToMedium op k off byte check virt within y whole bad (walk_from plain 1 ops opening) (walk_from flipped 1 ops opening) → IsFoundLater check op (place_in m'.entries virt) (verdict_of units (came plain ops) (came flipped ops))
        by (inl e) =
            let all : came flipped ops ≡ came plain ops = λ i. record { replies = same.0 i; pages = (e i).bytes; stored = joined (e i).blocks } in
            subst (IsFoundLater check op (place_in m'.entries virt)) (sym (ap (verdict_of units (came plain ops)) all ∙ comes_to_same units (came plain ops) ready.quiet)) tt
        by (inr o) =
            let was = came plain ops in
            let now = came flipped ops in
            let s = walk_from plain 1 ops opening in
            let rest = if is_same was now then Same else Unseen in
            let spoilt = first_spoilt 0 (units_from units was.stored) (units_from units now.stored) in
            let none : first_found 1 was.replies now.replies ≡ None = ap (first_found 1 was.replies) same.0 ∙ found_nowhere 1 was.replies ready.quiet in
            let found = ap (λ (t : State). first_spoilt 0 (units_from units was.stored) (units_from units (joined t.blocks))) o.0 ∙ scrubbed ops virt within y whole bad ready h o.1 in
            subst (IsFoundLater check op (place_in m'.entries virt)) (sym (ap (λ v. unwrap_or v (unwrap_or spoilt rest)) none ∙ ap (λ v. unwrap_or v rest) found)) (refl, let z : 0 + (place_in m'.entries virt).0 ≡ (place_in m'.entries virt).0 = omega arith in ap (λ d. (d, (place_in m'.entries virt).1)) z)

  pub later_verdict : (k off byte : ℕ) (check : Check) (virt : ℕ) (within : virt < count) (before after : List Op) (o : Op) → let op = suc (length before) in
      ((i : ℕ) → i ≡ op → Alters m' even image lies TargetToMedium op k off byte check virt within i o) → Ready (before ++ (o ∷ after)) → IsFoundLater check op (place_in m'.entries virt) (verdict_of units (came plain (before ++ (o ∷ after))) (came (m1 m' TargetToMedium op k off byte) (before ++ (o ∷ after))))
  later_verdict k off byte check virt within before after o r h =
      let op = suc (length before) in
      let ops = before ++ (o ∷ after) in
      let z : 1 + length before ≡ suc (length before) = omega arith in
      let fit = ops_fit m' even image lies op k off byte TargetToMedium check 1 ops h.fit in
      let l = altered_ops m' even image lies TargetToMedium op k off byte check virt within before after o r 1 opening z fit h.no_escape h.stands (all_quiet (replies_from plain 1 ops opening) h.quiet) in
      let first : NotBefore op k off byte check ops = λ j behind f. let b = not_before m' even image lies TargetToMedium op k off byte check j (Target check) before (o ∷ after) 1 opening behind z fit (all_quiet (replies_from plain 1 ops opening) h.quiet) f in omega (arith, b) in
      later_is op k off byte check ops virt within l.y l.whole l.bad h first (stands_after op k off byte check 1 ops opening fit h.no_escape h.stands) l.later

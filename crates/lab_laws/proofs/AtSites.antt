-- What each flip of data or guard comes to, by its op and its crossing.
use Rattle.std.proofs.Common.{◌≡◌, ◌<◌, ◌≤◌, ℕ, suc, ◌+◌, ◌%◌, Bool, List, [], ◌∷◌, ◌++◌, length, Some, ◌⊎◌, inl, sym, subst, arith}
use Rattle.pi_tuple.specs.declared.checks.Check.{Check}
use Rattle.pi_tuple.specs.declared.checks.Check.TheVariants.{Guard, RefTag}
use Rattle.fault_schedule.specs.declared.fault.Crossing.TheVariants.{AdapterToHost, AdapterToTarget, HostToAdapter, MediumToTarget, TargetToAdapter, TargetToMedium}
use Rattle.fault_schedule.specs.declared.fault.FaultKind.TheVariants.{Flip}
use Rattle.bio_core.specs.declared.fate.Why.TheVariants.{Adapter, App, Block as ByBlock, Target}
use Rattle.integrity_payload.specs.declared.payload.Owner.TheVariants.{Block as OfBlock, App as OfApp}
use Rattle.page_pool.specs.declared.segs.Seg.{Seg}
use Rattle.stack_ops.specs.declared.op.Op.{Op}
use Rattle.stack_ops.specs.declared.op.Op.TheVariants.{Fetch, FetchPi, Fill, Overwrite, Put, Seal, Show, Wait, Write, WritePi}
use Rattle.rig_api.specs.declared.units.UnitSpec.{UnitSpec}
use Rattle.volume_table.specs.Places.{place_in, volume_len}
use Rattle.block_path.specs.Acts.{State}
use Rattle.walk_laws.specs.CalmRun.{AllFit, Fits, LiesInImage}
use Rattle.walk_laws.specs.Settings.{Setting}
use Rattle.stack_ops.specs.Ops.{first_virt}
use Rattle.run_premises.specs.Forms.{op_of}
use Rattle.script_lines.specs.declared.line.Spot.{Spot}
use Rattle.script_lines.specs.declared.line.Spot.TheVariants.{Host, Wire, Medium}
use Rattle.script_text.specs.Bindings.{request_of}
use Rattle.script_text.specs.Crossings.{crossing_of, is_read, is_read_op}
use Rattle.flip_sweep.specs.Flips.{count_in, site}
use Rattle.flip_sweep.specs.Verdicts.{verdict_of}
use Rattle.flip_sweep.specs.declared.flips.Site.{Site}
use Rattle.flip_sweep.specs.declared.verdict.Verdict.{Verdict}
use Rattle.lab_laws.specs.Flips.{IsFoundBy, MayBeSame, finder}
use Rattle.lab_laws.proofs.Flipped.{IsOne, IsSeenFlip, front_seen, tag_seen}
use Rattle.lab_laws.proofs.OneLine.{m0, m1}
use Rattle.lab_laws.proofs.AtOps.{app_host, app_medium, app_wire, read_host, read_medium, read_tag, read_wire, write_host, write_medium, write_wire}
use Rattle.lab_laws.proofs.Sited.{HoldsAt, is_read_there, op_there}
use Rattle.lab_laws.proofs.Verdicts.{Ready, came, either_verdict, later_verdict, listed_verdict}

module _ (m' : Setting) (even : m'.size % 2 ≡ 0) (image : List (List ℕ)) (lies : LiesInImage (m0 m' TargetToMedium 0 0 0 0) (volume_len m'.entries) image) (units : List UnitSpec) (opening : State) (byte : ℕ) (some : 1 ≤ byte) (fits : byte < 256) where
  abbrev plain : Setting
  plain = m0 m' TargetToMedium 0 0 0 0

  abbrev n : ℕ
  n = m'.size

  abbrev count : ℕ
  count = volume_len m'.entries

  abbrev pub IsReady : List Op → Type 0
  IsReady ops = Ready m' even image lies units opening ops

  -- what a flip comes to, where its op is a read or isn't
  abbrev pub comes_by : Bool → List Op → Site → (off : ℕ) → Verdict
  comes_by read ops at off =
      verdict_of units (came m' even image lies units opening plain ops) (came m' even image lies units opening (m1 m' (crossing_of at.spot (Flip off (byte ∷ [])) read) at.op at.k off byte) ops)

  fit_at : (before after : List Op) (o : Op) → AllFit plain (before ++ (o ∷ after)) → Fits plain o
  fit_at [] after o h = h.0
  fit_at (x ∷ before) after o h = fit_at before after o h.1

  -- by a check that sees the flip, but at the last check of a read
  module _ (check : Check) (off : ℕ) (seen : (f : ℕ → ℕ) → IsOne off byte f → IsSeenFlip n f check) where
    abbrev IsFound : (before after : List Op) (o : Op) (k : ℕ) (spot : Spot) → Type 0
    IsFound before after o k spot = IsFoundBy check (finder check o spot) (place_in m'.entries (first_virt o + k)) (site (suc (length before)) k spot) (comes_by (is_read_op (Some o)) (before ++ (o ∷ after)) (site (suc (length before)) k spot) off)

    abbrev Here : (before after : List Op) (o : Op) (k : ℕ) → Type 0
    Here before after o k = IsReady (before ++ (o ∷ after)) × (k < count_in (request_of o))

    write_at : (before after : List Op) (v c app : ℕ) (body : List Seg) (k : ℕ) (spot : Spot) → Here before after (Write v c body app) k → IsFound before after (Write v c body app) k spot
    write_at before after v c app body k Host h =
        listed_verdict m' even image lies units opening HostToAdapter k off byte check (Adapter check) before after (Write v c body app) (write_host m' even image lies (suc (length before)) k off byte check seen v c app body h.1) h.0
    write_at before after v c app body k Wire h =
        listed_verdict m' even image lies units opening AdapterToTarget k off byte check (Target check) before after (Write v c body app) (write_wire m' even image lies (suc (length before)) k off byte check seen v c app body h.1) h.0
    write_at before after v c app body k Medium h =
        let fit = fit_at before after (Write v c body app) h.0.fit in
        let w = fit.0.within in
        let l = h.1 in
        let within : v + k < count = omega (arith, w, l) in
        later_verdict m' even image lies units opening k off byte check (v + k) within before after (Write v c body app) (write_medium m' even image lies (suc (length before)) k off byte check seen v c app body within h.1) h.0

    app_at : (before after : List Op) (v c : ℕ) (body tuples : List Seg) (k : ℕ) (spot : Spot) → Here before after (WritePi v c body tuples) k → IsFound before after (WritePi v c body tuples) k spot
    app_at before after v c body tuples k Host h =
        listed_verdict m' even image lies units opening HostToAdapter k off byte check (Adapter check) before after (WritePi v c body tuples) (app_host m' even image lies (suc (length before)) k off byte check seen v c body tuples h.1) h.0
    app_at before after v c body tuples k Wire h =
        listed_verdict m' even image lies units opening AdapterToTarget k off byte check (Target check) before after (WritePi v c body tuples) (app_wire m' even image lies (suc (length before)) k off byte check seen v c body tuples h.1) h.0
    app_at before after v c body tuples k Medium h =
        let fit = fit_at before after (WritePi v c body tuples) h.0.fit in
        let w = fit.0.within in
        let l = h.1 in
        let within : v + k < count = omega (arith, w, l) in
        later_verdict m' even image lies units opening k off byte check (v + k) within before after (WritePi v c body tuples) (app_medium m' even image lies (suc (length before)) k off byte check seen v c body tuples within h.1) h.0

    fetch_wire : (before after : List Op) (v c : ℕ) (body : List Seg) (k : ℕ) → Here before after (Fetch v c body) k → IsFound before after (Fetch v c body) k Wire
    fetch_wire before after v c body k h =
        listed_verdict m' even image lies units opening TargetToAdapter k off byte check (Adapter check) before after (Fetch v c body) (read_wire m' even image lies (suc (length before)) k off byte check seen OfBlock v c body [] h.1) h.0

    fetch_medium : (before after : List Op) (v c : ℕ) (body : List Seg) (k : ℕ) → Here before after (Fetch v c body) k → IsFound before after (Fetch v c body) k Medium
    fetch_medium before after v c body k h =
        listed_verdict m' even image lies units opening MediumToTarget k off byte check (Target check) before after (Fetch v c body) (read_medium m' even image lies (suc (length before)) k off byte check seen OfBlock v c body [] h.1) h.0

    app_fetch_wire : (before after : List Op) (v c : ℕ) (body tuples : List Seg) (k : ℕ) → Here before after (FetchPi v c body tuples) k → IsFound before after (FetchPi v c body tuples) k Wire
    app_fetch_wire before after v c body tuples k h =
        listed_verdict m' even image lies units opening TargetToAdapter k off byte check (Adapter check) before after (FetchPi v c body tuples) (read_wire m' even image lies (suc (length before)) k off byte check seen OfApp v c body tuples h.1) h.0

    app_fetch_medium : (before after : List Op) (v c : ℕ) (body tuples : List Seg) (k : ℕ) → Here before after (FetchPi v c body tuples) k → IsFound before after (FetchPi v c body tuples) k Medium
    app_fetch_medium before after v c body tuples k h =
        listed_verdict m' even image lies units opening MediumToTarget k off byte check (Target check) before after (FetchPi v c body tuples) (read_medium m' even image lies (suc (length before)) k off byte check seen OfApp v c body tuples h.1) h.0

  -- ---- data and guard

  by_guard : (before after : List Op) (o : Op) (k : ℕ) (spot : Spot) (off : ℕ) → IsReady (before ++ (o ∷ after)) → k < count_in (request_of o) → off < n + 2 →
      IsFoundBy Guard (finder Guard o spot) (place_in m'.entries (first_virt o + k)) (site (suc (length before)) k spot) (comes_by (is_read_op (Some o)) (before ++ (o ∷ after)) (site (suc (length before)) k spot) off)
  by_guard before after (Fill seg value) k spot off h l f = absurd (omega arith)
  by_guard before after (Put page to bytes) k spot off h l f = absurd (omega arith)
  by_guard before after (Show seg) k spot off h l f = absurd (omega arith)
  by_guard before after (Seal c body tuples app rtag) k spot off h l f = absurd (omega arith)
  by_guard before after (Write v c body app) k spot off h l f = write_at Guard off (front_seen n off byte f some fits even) before after v c app body k spot (h, l)
  by_guard before after (Fetch v c body) k Host off h l f =
      listed_verdict m' even image lies units opening AdapterToHost k off byte Guard (ByBlock Guard) before after (Fetch v c body) (read_host m' even image lies (suc (length before)) k off byte f some fits OfBlock v c body [] l) h
  by_guard before after (Fetch v c body) k Wire off h l f = fetch_wire Guard off (front_seen n off byte f some fits even) before after v c body k (h, l)
  by_guard before after (Fetch v c body) k Medium off h l f = fetch_medium Guard off (front_seen n off byte f some fits even) before after v c body k (h, l)
  by_guard before after (WritePi v c body tuples) k spot off h l f = app_at Guard off (front_seen n off byte f some fits even) before after v c body tuples k spot (h, l)
  by_guard before after (FetchPi v c body tuples) k Host off h l f =
      listed_verdict m' even image lies units opening AdapterToHost k off byte Guard (App Guard) before after (FetchPi v c body tuples) (read_host m' even image lies (suc (length before)) k off byte f some fits OfApp v c body tuples l) h
  by_guard before after (FetchPi v c body tuples) k Wire off h l f = app_fetch_wire Guard off (front_seen n off byte f some fits even) before after v c body tuples k (h, l)
  by_guard before after (FetchPi v c body tuples) k Medium off h l f = app_fetch_medium Guard off (front_seen n off byte f some fits even) before after v c body tuples k (h, l)
  by_guard before after (Overwrite dev lba change) k spot off h l f = absurd (omega arith)
  by_guard before after Wait k spot off h l f = absurd (omega arith)

  -- ---- the reference tag

  abbrev TagFound : Op → Site → Verdict → Type 0
  TagFound o at v = IsFoundBy RefTag (finder RefTag o at.spot) (place_in m'.entries (first_virt o + at.k)) at v ⊎ MayBeSame o at.spot v

  by_tag : (before after : List Op) (o : Op) (k : ℕ) (spot : Spot) (off : ℕ) → IsReady (before ++ (o ∷ after)) → k < count_in (request_of o) → n + 4 ≤ off → off < n + 8 →
      TagFound o (site (suc (length before)) k spot) (comes_by (is_read_op (Some o)) (before ++ (o ∷ after)) (site (suc (length before)) k spot) off)
  by_tag before after (Fill seg value) k spot off h l f g = absurd (omega arith)
  by_tag before after (Put page to bytes) k spot off h l f g = absurd (omega arith)
  by_tag before after (Show seg) k spot off h l f g = absurd (omega arith)
  by_tag before after (Seal c body tuples app rtag) k spot off h l f g = absurd (omega arith)
  by_tag before after (Write v c body app) k spot off h l f g = inl (write_at RefTag off (tag_seen n off byte f g some fits) before after v c app body k spot (h, l))
  by_tag before after (Fetch v c body) k Host off h l f g =
      either_verdict m' even image lies units opening AdapterToHost k off byte RefTag (ByBlock RefTag) before after (Fetch v c body) (read_tag m' even image lies (suc (length before)) k off byte f g some fits OfBlock v c body [] l) h
  by_tag before after (Fetch v c body) k Wire off h l f g = inl (fetch_wire RefTag off (tag_seen n off byte f g some fits) before after v c body k (h, l))
  by_tag before after (Fetch v c body) k Medium off h l f g = inl (fetch_medium RefTag off (tag_seen n off byte f g some fits) before after v c body k (h, l))
  by_tag before after (WritePi v c body tuples) k spot off h l f g = inl (app_at RefTag off (tag_seen n off byte f g some fits) before after v c body tuples k spot (h, l))
  by_tag before after (FetchPi v c body tuples) k Host off h l f g =
      either_verdict m' even image lies units opening AdapterToHost k off byte RefTag (App RefTag) before after (FetchPi v c body tuples) (read_tag m' even image lies (suc (length before)) k off byte f g some fits OfApp v c body tuples l) h
  by_tag before after (FetchPi v c body tuples) k Wire off h l f g = inl (app_fetch_wire RefTag off (tag_seen n off byte f g some fits) before after v c body tuples k (h, l))
  by_tag before after (FetchPi v c body tuples) k Medium off h l f g = inl (app_fetch_medium RefTag off (tag_seen n off byte f g some fits) before after v c body tuples k (h, l))
  by_tag before after (Overwrite dev lba change) k spot off h l f g = absurd (omega arith)
  by_tag before after Wait k spot off h l f g = absurd (omega arith)

  -- ---- of the ops of a script

  abbrev pub IsGuardFound : List Op → Site → Type 0
  IsGuardFound ops at = (off : ℕ) → off < n + 2 → IsFoundBy Guard (finder Guard (op_of ops at.op) at.spot) (place_in m'.entries (first_virt (op_of ops at.op) + at.k)) at (comes_by (is_read ops at.op) ops at off)

  abbrev pub IsTagFound : List Op → Site → Type 0
  IsTagFound ops at = (off : ℕ) → n + 4 ≤ off → off < n + 8 → TagFound (op_of ops at.op) at (comes_by (is_read ops at.op) ops at off)

  -- the op of a number
  there : (before after : List Op) (o : Op) (k : ℕ) (spot : Spot) (off : ℕ) (P : Op → Verdict → Type 0) → let at = site (suc (length before)) k spot in let all = before ++ (o ∷ after) in
      P o (comes_by (is_read_op (Some o)) all at off) → P (op_of all at.op) (comes_by (is_read all at.op) all at off)
  there before after o k spot off P h =
      let at = site (suc (length before)) k spot in
      let all = before ++ (o ∷ after) in
      subst (λ x. P x (comes_by (is_read all at.op) all at off)) (sym (op_there before after o)) (subst (λ r. P o (comes_by r all at off)) (sym (is_read_there before after o)) h)

  pub guards_found : (ops : List Op) → IsReady ops → HoldsAt (IsGuardFound ops) ops
  guards_found ops ready before after o k spot e l =
      let at = site (suc (length before)) k spot in
      subst (λ ops. IsReady ops → IsGuardFound ops at) e (λ h off f. there before after o k spot off (λ x v. IsFoundBy Guard (finder Guard x spot) (place_in m'.entries (first_virt x + k)) at v) (by_guard before after o k spot off h l f)) ready

  pub tags_found : (ops : List Op) → IsReady ops → HoldsAt (IsTagFound ops) ops
  tags_found ops ready before after o k spot e l =
      let at = site (suc (length before)) k spot in
      subst (λ ops. IsReady ops → IsTagFound ops at) e (λ h off f g. there before after o k spot off (λ x v. TagFound x at v) (by_tag before after o k spot off h l f g)) ready

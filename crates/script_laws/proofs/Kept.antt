-- each line that is taken leaves a draft of which all that holds still
use Rattle.std.proofs.Common.{ℕ, ◌≡◌, ◌+◌, ◌≤◌, Bool, true, false, eqb, ltb, leb, List, [], ◌∷◌, ◌++◌, length, Some, None, Result, Ok, Err, refl, sym, subst, ap, ◌∙◌, arith}
use Rattle.std.specs.Prelude.{if◌then◌else◌}
use Rattle.std.proofs.lemmas.Bool.{leb-false, ltb-false}
use Rattle.script_lines.specs.declared.kind.ScriptKind.{ScriptKind}
use Rattle.script_lines.specs.declared.kind.ScriptKind.TheVariants.{TooMany}
use Rattle.script_lines.specs.declared.line.ScriptLine.{ScriptLine}
use Rattle.script_lines.specs.declared.line.ScriptLine.TheVariants.{Begin as BeginLine}
use Rattle.script_lines.specs.declared.line.OpLine.{OpLine}
use Rattle.script_lines.specs.declared.verb.Verb.TheVariants.{Mode as ModeVerb, Limits as LimitsVerb, Pages as PagesVerb, Block as BlockVerb, Expect as ExpectVerb, Inner as InnerVerb, Linear as LinearVerb, Stripe as StripeVerb, Over as OverVerb, Fault as FaultVerb, Shift as ShiftVerb, Lose as LoseVerb, Tear as TearVerb, Fail as FailVerb, Schedule as ScheduleVerb, Begin as BeginVerb}
use Rattle.script_lines.specs.declared.verb.Section.TheVariants.{Mode as AtMode, Limits as AtLimits, Pages as AtPages, Block as AtBlock, Expect as AtExpect, Inner as AtInner, Volume as AtVolume, Fault as AtFault, Schedule as AtSchedule, Begin as AtBegin, Op as AtOp}
use Rattle.script_lines.specs.declared.verb.ScriptVersion.{ScriptVersion}
use Rattle.script_lines.specs.declared.verb.ScriptVersion.TheVariants.{One, Two, Three}
use Rattle.script_lines.specs.Forms.{as_line, line_form}
use Rattle.script_lines.specs.Verbs.{has_lines_of}
use Rattle.volume_table.specs.declared.entry.Entry.{Entry}
use Rattle.volume_table.specs.declared.entry.Entry.TheVariants.{Linear as LinearEntry, Stripe as StripeEntry}
use Rattle.script_text.specs.Crossings.{is_third}
use Rattle.script_text.specs.Drafts.{Drafted}
use Rattle.script_text.specs.Language.{taken, with_entries, with_op}
use Rattle.script_text.specs.Ops.{op_in}
use Rattle.script_text.specs.Rules.{broken_rule, is_bad_fault, is_too_many, lacks_integrity, request_blocks}
use Rattle.script_text.specs.Trees.{entries_over}
use Rattle.script_laws.specs.Keeping.{Each, IsChoice, IsEntry}
use Rattle.script_laws.proofs.FormsGive.{Numbers, as_line_ok, block_gives, expect_gives, fault_gives, inner_gives, limits_gives, linear_gives, lose_gives, fail_gives, mode_gives, over_gives, pages_gives, schedule_gives, shift_gives, stripe_gives, tear_gives}
use Rattle.script_laws.proofs.Held.{Goes, Held, each_both, each_none, each_snoc, faults_more, flip_raw, keep_raw, fail_raw, length_both, number_of, op_of, ops_more, order_on, shift_raw}
use Rattle.script_laws.proofs.Inverse.{ended_ok, ok_of}
use Rattle.script_laws.proofs.Over.{IsInner, over_entries, unbroken}
use Rattle.script_laws.proofs.Front.{parts_false}
use Rattle.script_text.proofs.Passed.{or_first, or_second}

pub record Rules (d : Drafted) (line : ScriptLine) : Type 0 where
  pub integrity : lacks_integrity d line ≡ false
  pub few : is_too_many d line ≡ false
  pub good : is_bad_fault d line ≡ false

pub rules_of : (d : Drafted) (line : ScriptLine) → broken_rule d line ≡ None → Rules d line
rules_of d line h =
    let a = unbroken (lacks_integrity d line) _ _ h in
    let b = unbroken (is_too_many d line) _ _ a.1 in
    let c = unbroken (is_bad_fault d line) _ _ b.1 in
    record { integrity = a.0; few = b.0; good = c.0 }

pub ok_draft : (a b : Drafted) → ◌≡◌ {A = Result Drafted ScriptKind} (Ok a) (Ok b) → b ≡ a
ok_draft a b h = cc

masked : (mask : ℕ) (A : Type 0) → mask ≡ 0 → eqb mask 0 ≡ false → A
masked mask A e h = absurd (cc (ap (λ k. eqb k 0) (sym e) ∙ h))

pub mode_kept : (n : ℕ) (words : List (List ℕ)) (d e : Drafted) → Held d → Goes (number_of d.section) 1 → (line : ScriptLine) → line_form ModeVerb d.block words ≡ Ok line → taken n line d ≡ Ok e → Held (record e { section = Some AtMode })
unfolding taken
mode_kept n words d e h g line f t =
    let m = mode_gives words line f in
    let up = g.up in
    let same = ok_draft (record d { mode = m.0 }) e (sym (ap (λ l. taken n l d) m.1) ∙ t) in
    let none = h.order.before_expect (omega (arith, up)) in
    let ops = h.order.no_ops (omega (arith, up)) in
    let o = h.ops_hold in
    subst (λ x. Held (record x { section = Some AtMode })) (sym same)
    (record {
      front = record { protect_is = m.2; app_fits = h.front.app_fits; mask_fits = h.front.mask_fits; unmasked = h.front.unmasked; expects_dix = λ z. masked d.mask _ none z; expects_dif = λ z. masked d.mask _ none z; limits_are = h.front.limits_are; pages_are = h.front.pages_are; block_is = h.front.block_is };
      inner_are = h.inner_are;
      inner_count = h.inner_count;
      entries_are = h.entries_are;
      entries_count = h.entries_count;
      faults_hold = h.faults_hold;
      choices_are = h.choices_are;
      choices_count = h.choices_count;
      ops_hold = record { each = each_none _ d.ops ops; count = o.count; blocks_are = o.blocks_are; blocks_count = o.blocks_count; lined = o.lined };
      order = order_on (number_of d.section) 1 d.mask d.entries d.faults d.ops (λ s. absurd (omega (arith, s))) g h.order;
    })

pub limits_kept : (n : ℕ) (words : List (List ℕ)) (d e : Drafted) → Held d → Goes (number_of d.section) 2 → (line : ScriptLine) → line_form LimitsVerb d.block words ≡ Ok line → taken n line d ≡ Ok e → Held (record e { section = Some AtLimits })
unfolding taken
limits_kept n words d e h g line f t =
    let m = limits_gives words line f in
    let same = ok_draft (record d { limits = m.0 }) e (sym (ap (λ l. taken n l d) m.1) ∙ t) in
    subst (λ x. Held (record x { section = Some AtLimits })) (sym same)
    (record {
      front = record { protect_is = h.front.protect_is; app_fits = h.front.app_fits; mask_fits = h.front.mask_fits; unmasked = h.front.unmasked; expects_dix = h.front.expects_dix; expects_dif = h.front.expects_dif; limits_are = m.2; pages_are = h.front.pages_are; block_is = h.front.block_is };
      inner_are = h.inner_are;
      inner_count = h.inner_count;
      entries_are = h.entries_are;
      entries_count = h.entries_count;
      faults_hold = h.faults_hold;
      choices_are = h.choices_are;
      choices_count = h.choices_count;
      ops_hold = h.ops_hold;
      order = order_on (number_of d.section) 2 d.mask d.entries d.faults d.ops (λ s. absurd (omega (arith, s))) g h.order;
    })

pub pages_kept : (n : ℕ) (words : List (List ℕ)) (d e : Drafted) → Held d → Goes (number_of d.section) 3 → (line : ScriptLine) → line_form PagesVerb d.block words ≡ Ok line → taken n line d ≡ Ok e → Held (record e { section = Some AtPages })
unfolding taken
pages_kept n words d e h g line f t =
    let m = pages_gives words line f in
    let up = g.up in
    let same = ok_draft (record d { pages = m.0 }) e (sym (ap (λ l. taken n l d) m.1) ∙ t) in
    let ops = h.order.no_ops (omega (arith, up)) in
    let o = h.ops_hold in
    subst (λ x. Held (record x { section = Some AtPages })) (sym same)
    (record {
      front = record { protect_is = h.front.protect_is; app_fits = h.front.app_fits; mask_fits = h.front.mask_fits; unmasked = h.front.unmasked; expects_dix = h.front.expects_dix; expects_dif = h.front.expects_dif; limits_are = h.front.limits_are; pages_are = m.2; block_is = h.front.block_is };
      inner_are = h.inner_are;
      inner_count = h.inner_count;
      entries_are = h.entries_are;
      entries_count = h.entries_count;
      faults_hold = h.faults_hold;
      choices_are = h.choices_are;
      choices_count = h.choices_count;
      ops_hold = record { each = each_none _ d.ops ops; count = o.count; blocks_are = o.blocks_are; blocks_count = o.blocks_count; lined = o.lined };
      order = order_on (number_of d.section) 3 d.mask d.entries d.faults d.ops (λ s. absurd (omega (arith, s))) g h.order;
    })

pub block_kept : (n : ℕ) (words : List (List ℕ)) (d e : Drafted) → Held d → Goes (number_of d.section) 4 → (line : ScriptLine) → line_form BlockVerb d.block words ≡ Ok line → taken n line d ≡ Ok e → Held (record e { section = Some AtBlock })
unfolding taken
block_kept n words d e h g line f t =
    let m = block_gives words line f in
    let up = g.up in
    let same = ok_draft (record d { block = m.0 }) e (sym (ap (λ l. taken n l d) m.1) ∙ t) in
    let ops = h.order.no_ops (omega (arith, up)) in
    let faults = h.order.no_faults (omega (arith, up)) in
    let o = h.ops_hold in
    let w = h.faults_hold in
    subst (λ x. Held (record x { section = Some AtBlock })) (sym same)
    (record {
      front = record { protect_is = h.front.protect_is; app_fits = h.front.app_fits; mask_fits = h.front.mask_fits; unmasked = h.front.unmasked; expects_dix = h.front.expects_dix; expects_dif = h.front.expects_dif; limits_are = h.front.limits_are; pages_are = h.front.pages_are; block_is = m.2 };
      inner_are = h.inner_are;
      inner_count = h.inner_count;
      entries_are = h.entries_are;
      entries_count = h.entries_count;
      faults_hold = record { each = each_none _ d.faults faults; count = w.count; lined = w.lined };
      choices_are = h.choices_are;
      choices_count = h.choices_count;
      ops_hold = record { each = each_none _ d.ops ops; count = o.count; blocks_are = o.blocks_are; blocks_count = o.blocks_count; lined = o.lined };
      order = order_on (number_of d.section) 4 d.mask d.entries d.faults d.ops (λ s. absurd (omega (arith, s))) g h.order;
    })

pub expect_kept : (n : ℕ) (words : List (List ℕ)) (d e : Drafted) → Held d → Goes (number_of d.section) 5 → (line : ScriptLine) → line_form ExpectVerb d.block words ≡ Ok line → Rules d line → taken n line d ≡ Ok e → Held (record e { section = Some AtExpect })
unfolding taken
expect_kept n words d e h g line f r t =
    let m = expect_gives words line f in
    let same = ok_draft (record d { app = m.0; mask = m.1; expect_line = n }) e (sym (ap (λ l. taken n l d) m.2) ∙ t) in
    let dix = parts_false d.mode.dix d.mode.dif (sym (ap (lacks_integrity d) m.2) ∙ r.integrity) in
    let o = order_on (number_of d.section) 5 d.mask d.entries d.faults d.ops (λ s. absurd (omega (arith, s))) g h.order in
    subst (λ x. Held (record x { section = Some AtExpect })) (sym same)
    (record {
      front = record { protect_is = h.front.protect_is; app_fits = m.3; mask_fits = m.4; unmasked = λ z. masked m.1 _ z m.5; expects_dix = λ z. dix.0; expects_dif = λ z. dix.1; limits_are = h.front.limits_are; pages_are = h.front.pages_are; block_is = h.front.block_is };
      inner_are = h.inner_are;
      inner_count = h.inner_count;
      entries_are = h.entries_are;
      entries_count = h.entries_count;
      faults_hold = h.faults_hold;
      choices_are = h.choices_are;
      choices_count = h.choices_count;
      ops_hold = h.ops_hold;
      order = record { before_expect = λ l. absurd (omega (arith, l)); no_faults = o.no_faults; no_ops = o.no_ops; with_volume = o.with_volume };
    })

pub inner_kept : (n : ℕ) (words : List (List ℕ)) (d e : Drafted) → Held d → Goes (number_of d.section) 6 → (line : ScriptLine) → line_form InnerVerb d.block words ≡ Ok line → Rules d line → taken n line d ≡ Ok e → Held (record e { section = Some AtInner })
unfolding taken
inner_kept n words d e h g line f r t =
    let m = inner_gives words line f in
    let same = ok_draft (record d { inner = d.inner ++ (record { volume = m.0; len = m.1; dev = m.2; at = m.3 } ∷ []) }) e (sym (ap (λ l. taken n l d) m.4) ∙ t) in
    let few = leb-false 32 (length d.inner) (sym (ap (is_too_many d) m.4) ∙ r.few) in
    let long = length_both d.inner (record { volume = m.0; len = m.1; dev = m.2; at = m.3 } ∷ []) in
    subst (λ x. Held (record x { section = Some AtInner })) (sym same)
    (record {
      front = h.front;
      inner_are = each_snoc IsInner d.inner (record { volume = m.0; len = m.1; dev = m.2; at = m.3 }) h.inner_are (record { len_is = m.5; dev_fits = m.6 });
      inner_count = omega (arith, few, long);
      entries_are = h.entries_are;
      entries_count = h.entries_count;
      faults_hold = h.faults_hold;
      choices_are = h.choices_are;
      choices_count = h.choices_count;
      ops_hold = h.ops_hold;
      order = order_on (number_of d.section) 6 d.mask d.entries d.faults d.ops (λ s. absurd (omega (arith, s))) g h.order;
    })

more_entries : (d : Drafted) (found : List Entry) → Held d → Goes (number_of d.section) 7 → Each IsEntry found → 1 ≤ length found → length d.entries + length found ≤ 16 → Held (record d { entries = d.entries ++ found; section = Some AtVolume })
more_entries d found h g f some few =
    let long = length_both d.entries found in
    let up = g.up in
    record {
      front = h.front;
      inner_are = h.inner_are;
      inner_count = h.inner_count;
      entries_are = each_both IsEntry d.entries found h.entries_are f;
      entries_count = omega (arith, few, long);
      faults_hold = h.faults_hold;
      choices_are = h.choices_are;
      choices_count = h.choices_count;
      ops_hold = h.ops_hold;
      order = record { before_expect = λ l. absurd (omega (arith, l)); no_faults = λ l. absurd (omega (arith, l)); no_ops = λ l. absurd (omega (arith, l)); with_volume = λ l. omega (arith, long, some) };
    }

pub linear_kept : (n : ℕ) (words : List (List ℕ)) (d e : Drafted) → Held d → Goes (number_of d.section) 7 → (line : ScriptLine) → line_form LinearVerb d.block words ≡ Ok line → Rules d line → taken n line d ≡ Ok e → Held (record e { section = Some AtVolume })
unfolding taken
linear_kept n words d e h g line f r t =
    let m = linear_gives words line f in
    let few = leb-false 16 (length d.entries) (sym (ap (is_too_many d) m.1) ∙ r.few) in
    let same = ok_draft (record d { entries = d.entries ++ (LinearEntry m.0 ∷ []) }) e (sym (ap (λ l. taken n l d) m.1) ∙ t) in
    subst (λ x. Held (record x { section = Some AtVolume })) (sym same) (more_entries d (LinearEntry m.0 ∷ []) h g ((m.2, m.3, m.4, m.5), tt) (omega arith) (omega (arith, few)))

pub stripe_kept : (n : ℕ) (words : List (List ℕ)) (d e : Drafted) → Held d → Goes (number_of d.section) 7 → (line : ScriptLine) → line_form StripeVerb d.block words ≡ Ok line → Rules d line → taken n line d ≡ Ok e → Held (record e { section = Some AtVolume })
unfolding taken
stripe_kept n words d e h g line f r t =
    let m = stripe_gives words line f in
    let rule = sym (ap (is_too_many d) m.4) ∙ r.few in
    let few = leb-false 16 (length d.entries) (or_first (leb 16 (length d.entries)) (ltb 8 (length m.3)) rule) in
    let most = ltb-false 8 (length m.3) (or_second (leb 16 (length d.entries)) (ltb 8 (length m.3)) rule) in
    let entry : Entry = StripeEntry (record { start = m.0; len = m.1; chunk = m.2; legs = m.3 }) in
    let same = ok_draft (record d { entries = d.entries ++ (entry ∷ []) }) e (sym (ap (λ l. taken n l d) m.4) ∙ t) in
    subst (λ x. Held (record x { section = Some AtVolume })) (sym same)
    (more_entries d (entry ∷ []) h g ((m.5, m.6, m.7, record { each = m.8; count = record { low_is = m.9; high_is = most } }), tt) (omega arith) (omega (arith, few)))

pub over_kept : (n : ℕ) (words : List (List ℕ)) (d e : Drafted) → Held d → Goes (number_of d.section) 7 → (line : ScriptLine) → line_form OverVerb d.block words ≡ Ok line → taken n line d ≡ Ok e → Held (record e { section = Some AtVolume })
unfolding taken
over_kept n words d e h g line f t =
    let m = over_gives words line f in
    let a = ok_of (entries_over d.inner m.0 m.1 m.2 m.3) (with_entries d) e (sym (ap (λ l. taken n l d) m.4) ∙ t) in
    let found = over_entries d.inner m.0 m.1 m.2 m.3 a.0 h.inner_are h.inner_count m.6 m.7 m.8 a.1 in
    by (ltb 16 (length d.entries + length a.0)) a.0 found.0 found.1 refl a.2
  where
    by : (b : Bool) (found : List Entry) → Each IsEntry found → 1 ≤ length found → ltb 16 (length d.entries + length found) ≡ b → (if b then Err TooMany else Ok (record d { entries = d.entries ++ found })) ≡ Ok e → Held (record e { section = Some AtVolume })
    by true found each some i k = absurd (cc)
    by false found each some i k = subst (λ x. Held (record x { section = Some AtVolume })) (sym (ok_draft (record d { entries = d.entries ++ found }) e k)) (more_entries d found h g each some (ltb-false 16 (length d.entries + length found) i))

-- the lines that version 3 brought are in scripts of that version
third_has : (version : ScriptVersion) → has_lines_of version Three ≡ true → is_third version ≡ true
third_has One h = h
third_has Two h = h
third_has Three h = refl

pub fault_kept : (n : ℕ) (words : List (List ℕ)) (d e : Drafted) → Held d → Goes (number_of d.section) 8 → (line : ScriptLine) → line_form FaultVerb d.block words ≡ Ok line → Rules d line → taken n line d ≡ Ok e → Held (record e { section = Some AtFault })
unfolding taken
fault_kept n words d e h g line f r t =
    let m = fault_gives d.block words line f in
    let few = leb-false 256 (length d.faults) (sym (ap (is_too_many d) m.5) ∙ r.few) in
    let raw = flip_raw (is_third d.version) d.block m.0 m.1 m.2 m.3 m.4 m.6 m.7 (record { off_fits = m.8; are_bytes = m.9; count = m.10; good = sym (ap (is_bad_fault d) m.5) ∙ r.good }) in
    let same = ok_draft _ e (sym (ap (λ l. taken n l d) m.5) ∙ t) in
    let o = order_on (number_of d.section) 8 d.mask d.entries d.faults d.ops (λ s. absurd (omega (arith, s))) g h.order in
    subst (λ x. Held (record x { section = Some AtFault })) (sym same)
    (record {
      front = h.front;
      inner_are = h.inner_are;
      inner_count = h.inner_count;
      entries_are = h.entries_are;
      entries_count = h.entries_count;
      faults_hold = faults_more (is_third d.version) d.block d.faults d.fault_lines _ n h.faults_hold raw few;
      choices_are = h.choices_are;
      choices_count = h.choices_count;
      ops_hold = h.ops_hold;
      order = record { before_expect = o.before_expect; no_faults = λ l. absurd (omega (arith, l)); no_ops = λ l. absurd (omega (arith, l)); with_volume = o.with_volume };
    })

pub shift_kept : (n : ℕ) (words : List (List ℕ)) (d e : Drafted) → Held d → Goes (number_of d.section) 8 → (line : ScriptLine) → line_form ShiftVerb d.block words ≡ Ok line → Rules d line → taken n line d ≡ Ok e → Held (record e { section = Some AtFault })
unfolding taken
shift_kept n words d e h g line f r t =
    let m = shift_gives words line f in
    let few = leb-false 256 (length d.faults) (sym (ap (is_too_many d) m.3) ∙ r.few) in
    let raw = shift_raw (is_third d.version) d.block m.0 m.1 m.2 m.4 m.5 m.6 (sym (ap (is_bad_fault d) m.3) ∙ r.good) in
    let same = ok_draft _ e (sym (ap (λ l. taken n l d) m.3) ∙ t) in
    let o = order_on (number_of d.section) 8 d.mask d.entries d.faults d.ops (λ s. absurd (omega (arith, s))) g h.order in
    subst (λ x. Held (record x { section = Some AtFault })) (sym same)
    (record {
      front = h.front;
      inner_are = h.inner_are;
      inner_count = h.inner_count;
      entries_are = h.entries_are;
      entries_count = h.entries_count;
      faults_hold = faults_more (is_third d.version) d.block d.faults d.fault_lines _ n h.faults_hold raw few;
      choices_are = h.choices_are;
      choices_count = h.choices_count;
      ops_hold = h.ops_hold;
      order = record { before_expect = o.before_expect; no_faults = λ l. absurd (omega (arith, l)); no_ops = λ l. absurd (omega (arith, l)); with_volume = o.with_volume };
    })

pub lose_kept : (n : ℕ) (words : List (List ℕ)) (d e : Drafted) → Held d → Goes (number_of d.section) 8 → has_lines_of d.version Three ≡ true → (line : ScriptLine) → line_form LoseVerb d.block words ≡ Ok line → Rules d line → taken n line d ≡ Ok e → Held (record e { section = Some AtFault })
unfolding taken
lose_kept n words d e h g b line f r t =
    let m = lose_gives words line f in
    let few = leb-false 256 (length d.faults) (sym (ap (is_too_many d) m.2) ∙ r.few) in
    let raw = keep_raw (is_third d.version) d.block m.0 m.1 0 (third_has d.version b) m.3 m.4 (omega arith) in
    let same = ok_draft _ e (sym (ap (λ l. taken n l d) m.2) ∙ t) in
    let o = order_on (number_of d.section) 8 d.mask d.entries d.faults d.ops (λ s. absurd (omega (arith, s))) g h.order in
    subst (λ x. Held (record x { section = Some AtFault })) (sym same)
    (record {
      front = h.front;
      inner_are = h.inner_are;
      inner_count = h.inner_count;
      entries_are = h.entries_are;
      entries_count = h.entries_count;
      faults_hold = faults_more (is_third d.version) d.block d.faults d.fault_lines _ n h.faults_hold raw few;
      choices_are = h.choices_are;
      choices_count = h.choices_count;
      ops_hold = h.ops_hold;
      order = record { before_expect = o.before_expect; no_faults = λ l. absurd (omega (arith, l)); no_ops = λ l. absurd (omega (arith, l)); with_volume = o.with_volume };
    })

pub tear_kept : (n : ℕ) (words : List (List ℕ)) (d e : Drafted) → Held d → Goes (number_of d.section) 8 → has_lines_of d.version Three ≡ true → (line : ScriptLine) → line_form TearVerb d.block words ≡ Ok line → Rules d line → taken n line d ≡ Ok e → Held (record e { section = Some AtFault })
unfolding taken
tear_kept n words d e h g b line f r t =
    let m = tear_gives d.block words line f in
    let few = leb-false 256 (length d.faults) (sym (ap (is_too_many d) m.3) ∙ r.few) in
    let raw = keep_raw (is_third d.version) d.block m.0 m.1 m.2 (third_has d.version b) m.4 m.5 m.6 in
    let same = ok_draft _ e (sym (ap (λ l. taken n l d) m.3) ∙ t) in
    let o = order_on (number_of d.section) 8 d.mask d.entries d.faults d.ops (λ s. absurd (omega (arith, s))) g h.order in
    subst (λ x. Held (record x { section = Some AtFault })) (sym same)
    (record {
      front = h.front;
      inner_are = h.inner_are;
      inner_count = h.inner_count;
      entries_are = h.entries_are;
      entries_count = h.entries_count;
      faults_hold = faults_more (is_third d.version) d.block d.faults d.fault_lines _ n h.faults_hold raw few;
      choices_are = h.choices_are;
      choices_count = h.choices_count;
      ops_hold = h.ops_hold;
      order = record { before_expect = o.before_expect; no_faults = λ l. absurd (omega (arith, l)); no_ops = λ l. absurd (omega (arith, l)); with_volume = o.with_volume };
    })

pub fail_kept : (n : ℕ) (words : List (List ℕ)) (d e : Drafted) → Held d → Goes (number_of d.section) 8 → has_lines_of d.version Three ≡ true → (line : ScriptLine) → line_form FailVerb d.block words ≡ Ok line → Rules d line → taken n line d ≡ Ok e → Held (record e { section = Some AtFault })
unfolding taken
fail_kept n words d e h g b line f r t =
    let m = fail_gives words line f in
    let few = leb-false 256 (length d.faults) (sym (ap (is_too_many d) m.2) ∙ r.few) in
    let raw = fail_raw (is_third d.version) d.block m.0 m.1 (third_has d.version b) m.3 m.4 in
    let same = ok_draft _ e (sym (ap (λ l. taken n l d) m.2) ∙ t) in
    let o = order_on (number_of d.section) 8 d.mask d.entries d.faults d.ops (λ s. absurd (omega (arith, s))) g h.order in
    subst (λ x. Held (record x { section = Some AtFault })) (sym same)
    (record {
      front = h.front;
      inner_are = h.inner_are;
      inner_count = h.inner_count;
      entries_are = h.entries_are;
      entries_count = h.entries_count;
      faults_hold = faults_more (is_third d.version) d.block d.faults d.fault_lines _ n h.faults_hold raw few;
      choices_are = h.choices_are;
      choices_count = h.choices_count;
      ops_hold = h.ops_hold;
      order = record { before_expect = o.before_expect; no_faults = λ l. absurd (omega (arith, l)); no_ops = λ l. absurd (omega (arith, l)); with_volume = o.with_volume };
    })

pub schedule_kept : (n : ℕ) (words : List (List ℕ)) (d e : Drafted) → Held d → Goes (number_of d.section) 9 → (line : ScriptLine) → line_form ScheduleVerb d.block words ≡ Ok line → Rules d line → taken n line d ≡ Ok e → Held (record e { section = Some AtSchedule })
unfolding taken
schedule_kept n words d e h g line f r t =
    let m = schedule_gives words line f in
    let most = ltb-false 16384 (length d.schedule + length m.0) (sym (ap (is_too_many d) m.1) ∙ r.few) in
    let long = length_both d.schedule m.0 in
    let same = ok_draft (record d { schedule = d.schedule ++ m.0 }) e (sym (ap (λ l. taken n l d) m.1) ∙ t) in
    subst (λ x. Held (record x { section = Some AtSchedule })) (sym same)
    (record {
      front = h.front;
      inner_are = h.inner_are;
      inner_count = h.inner_count;
      entries_are = h.entries_are;
      entries_count = h.entries_count;
      faults_hold = h.faults_hold;
      choices_are = each_both IsChoice d.schedule m.0 h.choices_are m.2;
      choices_count = omega (arith, most, long);
      ops_hold = h.ops_hold;
      order = order_on (number_of d.section) 9 d.mask d.entries d.faults d.ops (λ s. absurd (omega (arith, s))) g h.order;
    })

pub begin_kept : (n : ℕ) (words : List (List ℕ)) (d e : Drafted) → Held d → Goes (number_of d.section) 10 → (line : ScriptLine) → line_form BeginVerb d.block words ≡ Ok line → taken n line d ≡ Ok e → Held (record e { section = Some AtBegin })
unfolding taken
begin_kept n words d e h g line f t =
    let same = ok_draft d e (sym (ap (λ l. taken n l d) (ended_ok BeginLine words line f)) ∙ t) in
    subst (λ x. Held (record x { section = Some AtBegin })) (sym same)
    (record {
      front = h.front;
      inner_are = h.inner_are;
      inner_count = h.inner_count;
      entries_are = h.entries_are;
      entries_count = h.entries_count;
      faults_hold = h.faults_hold;
      choices_are = h.choices_are;
      choices_count = h.choices_count;
      ops_hold = h.ops_hold;
      order = order_on (number_of d.section) 10 d.mask d.entries d.faults d.ops (λ s. absurd (omega (arith, s))) g h.order;
    })

pub op_kept : (n : ℕ) (d e : Drafted) → Held d → Goes (number_of d.section) 11 → (r : Result OpLine ScriptKind) (line : ScriptLine) → as_line r ≡ Ok line → ((op : OpLine) → r ≡ Ok op → Numbers d.block op) → Rules d line → taken n line d ≡ Ok e → Held (record e { section = Some AtOp })
unfolding taken
op_kept n d e h g r line f gives rules t =
    let a = as_line_ok r line f in
    let b = ok_of (op_in d.pages d.block a.0) (with_op n a.0 d) e (sym (ap (λ l. taken n l d) a.2) ∙ t) in
    let integrity = sym (ap (lacks_integrity d) a.2) ∙ rules.integrity in
    let many = sym (ap (is_too_many d) a.2) ∙ rules.few in
    let few = leb-false 1024 (length d.ops) (or_first (leb 1024 (length d.ops)) (ltb 16384 (d.blocks + request_blocks a.0)) many) in
    let most = ltb-false 16384 (d.blocks + request_blocks a.0) (or_second (leb 1024 (length d.ops)) (ltb 16384 (d.blocks + request_blocks a.0)) many) in
    let op = op_of d.mode.dix d.pages d.block a.0 b.0 b.1 integrity (gives a.0 a.1) in
    let same = ok_draft _ e b.2 in
    let o = order_on (number_of d.section) 11 d.mask d.entries d.faults d.ops (λ s. absurd (omega (arith, s))) g h.order in
    subst (λ x. Held (record x { section = Some AtOp })) (sym same)
    (record {
      front = h.front;
      inner_are = h.inner_are;
      inner_count = h.inner_count;
      entries_are = h.entries_are;
      entries_count = h.entries_count;
      faults_hold = h.faults_hold;
      choices_are = h.choices_are;
      choices_count = h.choices_count;
      ops_hold = ops_more d.mode.dix d.pages d.block d.ops d.blocks d.op_lines a.0 b.0 n h.ops_hold op few most;
      order = record { before_expect = o.before_expect; no_faults = λ l. absurd (omega (arith, l)); no_ops = λ l. absurd (omega (arith, l)); with_volume = o.with_volume };
    })

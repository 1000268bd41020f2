-- what holds of a draft
use Rattle.std.proofs.Common.{ℕ, ℤ, pos, negsuc, ◌≡◌, ◌⊎◌, inl, ◌+◌, ◌^◌, ◌<◌, ◌≤◌, ◌&&◌, ◌||◌, Bool, true, false, not, eqb, leb, List, [], ◌∷◌, ◌++◌, length, Option, Some, None, Result, Ok, Err, refl, sym, subst, ap, ◌∙◌, arith}
use Rattle.std.specs.Prelude.{if◌then◌else◌, unwrap_or, is_some}
use Rattle.std.proofs.lemmas.Bool.Decides.{nat_tests}
use Rattle.std.proofs.lemmas.Bool.{eqb-true}
use Rattle.hex.specs.Hex.{IsBytes}
use Rattle.fault_schedule.specs.declared.fault.Crossing.{Crossing}
use Rattle.fault_schedule.specs.declared.fault.Crossing.TheVariants.{HostToAdapter, AdapterToTarget, TargetToMedium, MediumToTarget, TargetToAdapter, AdapterToHost}
use Rattle.fault_schedule.specs.declared.fault.FaultKind.{FaultKind}
use Rattle.fault_schedule.specs.declared.fault.FaultKind.TheVariants.{Flip as FlipKind, Shift as ShiftKind, Keep as KeepKind, Fail as FailKind}
use Rattle.script_lines.specs.Passed.{Limits}
use Rattle.page_pool.specs.declared.segs.Seg.{Seg}
use Rattle.script_text.specs.Passed.{Op, Fill as FillOp, Put as PutOp, Show as ShowOp, Seal as SealOp, Write as WriteOp, Fetch, WritePi as WritePiOp, FetchPi, Overwrite, Wait as WaitOp, Flip as FlipChange, Copy as CopyChange}
use Rattle.volume_table.specs.declared.entry.Entry.{Entry}
use Rattle.script_lines.specs.declared.kind.ScriptKind.{ScriptKind}
use Rattle.script_lines.specs.declared.kind.ScriptKind.TheVariants.{BadFault}
use Rattle.script_lines.specs.declared.line.ModeLine.{ModeLine as Moded}
use Rattle.script_lines.specs.declared.line.OpLine.{OpLine}
use Rattle.script_lines.specs.declared.line.OpLine.TheVariants.{Fill, Put, Show, Seal, Write, Read, WritePi, ReadPi, Flip, Copy, Wait}
use Rattle.script_lines.specs.declared.line.Spot.{Spot}
use Rattle.script_lines.specs.declared.line.Spot.TheVariants.{Host, Wire, Medium}
use Rattle.script_lines.specs.declared.verb.Section.{Section}
use Rattle.script_lines.specs.declared.verb.Section.TheVariants.{Dix as AtDix, Mode as AtMode, Limits as AtLimits, Pages as AtPages, Block as AtBlock, Expect as AtExpect, Inner as AtInner, Volume as AtVolume, Fault as AtFault, Schedule as AtSchedule, Begin as AtBegin, Op as AtOp}
use Rattle.script_lines.specs.Verbs.{comes_before, section_number}
use Rattle.script_text.specs.Bindings.{is_of_medium}
use Rattle.script_text.specs.Crossings.{Raw, crossed, crossing_in, crossing_of, is_read, is_third, shifted_at, spot_of}
use Rattle.script_text.specs.Drafts.{Drafted}
use Rattle.script_text.specs.Language.{nothing_read}
use Rattle.script_text.specs.Ops.{both_fault, data_fault, op_in, unless, where_inside}
use Rattle.script_text.specs.Rules.{is_bad_flip, is_no_shift, needs_tuples, request_blocks}
use Rattle.script_text.specs.Segments.{is_inside}
use Rattle.script_laws.specs.Keeping.{AreLimits, Each, IsChoice, IsEntry, IsFault, IsFlip, IsOp, IsProtect, IsShift, IsShiftSpot, IsTag, IsWithin, blocks_of}
use Rattle.script_laws.specs.Lines.{line_of, tag_of}
use Rattle.script_laws.proofs.FormsGive.{IsSmall, Numbers}
use Rattle.script_laws.proofs.Over.{IsInner}

pub record HoldsFront (mode : Moded) (app mask : ℕ) (limits : Limits) (pages block : ℕ) : Type 0 where
  pub protect_is : IsProtect mode.protect
  pub app_fits : app < 2 ^ 16
  pub mask_fits : mask < 2 ^ 16
  pub unmasked : mask ≡ 0 → app ≡ 0
  pub expects_dix : eqb mask 0 ≡ false → mode.dix ≡ true
  pub expects_dif : eqb mask 0 ≡ false → mode.dif ≡ true
  pub limits_are : AreLimits limits
  pub pages_are : IsWithin 1 256 pages
  pub block_is : (block ≡ 512) ⊎ (block ≡ 4096)

-- a fault of a line, in a script of version 3 or of an earlier one
pub record IsRaw (third : Bool) (size : ℕ) (f : Raw) : Type 0 where
  pub is_fault : (ops : List Op) → IsFault third size ops (crossed third ops f)
  pub old : third ≡ false → is_of_medium f.kind ≡ false

pub record HoldsFaults (third : Bool) (size : ℕ) (faults : List Raw) (lines : List ℕ) : Type 0 where
  pub each : Each (IsRaw third size) faults
  pub count : length faults ≤ 256
  pub lined : length lines ≡ length faults

pub record HoldsOps (dix : Bool) (pages size : ℕ) (ops : List Op) (blocks : ℕ) (lines : List ℕ) : Type 0 where
  pub each : Each (IsOp dix pages size) ops
  pub count : length ops ≤ 1024
  pub blocks_are : blocks ≡ blocks_of ops
  pub blocks_count : blocks ≤ 16384
  pub lined : length lines ≡ length ops

pub record InOrder (n mask : ℕ) (entries : List Entry) (faults : List Raw) (ops : List Op) : Type 0 where
  pub before_expect : n ≤ 4 → mask ≡ 0
  pub no_faults : n ≤ 6 → faults ≡ []
  pub no_ops : n ≤ 6 → ops ≡ []
  pub with_volume : 7 ≤ n → 1 ≤ length entries

abbrev pub number_of : Option Section → ℕ
number_of None = 0
number_of (Some p) = section_number p

pub record Held (d : Drafted) : Type 0 where
  pub front : HoldsFront d.mode d.app d.mask d.limits d.pages d.block
  pub inner_are : Each IsInner d.inner
  pub inner_count : length d.inner ≤ 32
  pub entries_are : Each IsEntry d.entries
  pub entries_count : length d.entries ≤ 16
  pub faults_hold : HoldsFaults (is_third d.version) d.block d.faults d.fault_lines
  pub choices_are : Each IsChoice d.schedule
  pub choices_count : length d.schedule ≤ 16384
  pub ops_hold : HoldsOps d.mode.dix d.pages d.block d.ops d.blocks d.op_lines
  pub order : InOrder (number_of d.section) d.mask d.entries d.faults d.ops

pub nothing_held : Held nothing_read
nothing_held = record {
  front = record {
    protect_is = record { range = record { low_is = omega arith; high_is = omega arith }; taken_is = refl };
    app_fits = omega arith;
    mask_fits = omega arith;
    unmasked = λ e. refl;
    expects_dix = λ e. absurd (cc e);
    expects_dif = λ e. absurd (cc e);
    limits_are = record { blocks = record { low_is = omega arith; high_is = omega arith }; segs = record { low_is = omega arith; high_is = omega arith }; pi_segs = record { low_is = omega arith; high_is = omega arith } };
    pages_are = record { low_is = omega arith; high_is = omega arith };
    block_is = inl refl;
  };
  inner_are = tt;
  inner_count = omega arith;
  entries_are = tt;
  entries_count = omega arith;
  faults_hold = record { each = tt; count = omega arith; lined = refl };
  choices_are = tt;
  choices_count = omega arith;
  ops_hold = record { each = tt; count = omega arith; blocks_are = refl; blocks_count = omega arith; lined = refl };
  order = record { before_expect = λ l. refl; no_faults = λ l. refl; no_ops = λ l. refl; with_volume = λ l. absurd (omega (arith, l)) };
}

-- lists that grow

pub each_none : {A : Type 0} (P : A → Type 0) (xs : List A) → xs ≡ [] → Each P xs
each_none P xs e = subst (Each P) (sym e) tt

pub each_both : {A : Type 0} (P : A → Type 0) (xs ys : List A) → Each P xs → Each P ys → Each P (xs ++ ys)
each_both P [] ys g h = h
each_both P (x ∷ xs) ys g h = (g.0, each_both P xs ys g.1 h)

pub each_snoc : {A : Type 0} (P : A → Type 0) (xs : List A) (y : A) → Each P xs → P y → Each P (xs ++ (y ∷ []))
each_snoc P xs y g h = each_both P xs (y ∷ []) g (h, tt)

pub length_both : {A : Type 0} (xs ys : List A) → length (xs ++ ys) ≡ length xs + length ys
length_both [] ys = omega arith
length_both (x ∷ xs) ys = let r = length_both xs ys in omega (arith, r)

blocks_snoc : (ops : List Op) (op : Op) → blocks_of (ops ++ (op ∷ [])) ≡ blocks_of ops + request_blocks (line_of op)
blocks_snoc [] op = omega arith
blocks_snoc (o ∷ ops) op = let r = blocks_snoc ops op in omega (arith, r)

-- the order of lines

pub record Goes (n q : ℕ) : Type 0 where
  pub up : n ≤ q
  pub behind_volume : 8 ≤ q → 7 ≤ n
  pub some : 1 ≤ q

goes_to : (n q k : ℕ) → eqb q k ≡ true → n ≤ k → 1 ≤ k → (8 ≤ k → 7 ≤ n) → Goes n q
goes_to n q k e l s v = let same = eqb-true q k e in record { up = omega (arith, same, l); behind_volume = λ m. v (omega (arith, same, m)); some = omega (arith, same, s) }

or_by : (a b : Bool) (P : Type 0) → a || b ≡ true → (a ≡ true → P) → (b ≡ true → P) → P
or_by true b P h f g = f refl
or_by false b P h f g = g h

pub goes : (p q : Section) (b : Bool) → comes_before p q b ≡ true → Goes (section_number p) (section_number q)
goes AtDix q b h = goes_to 0 (section_number q) 1 h (omega arith) (omega arith) (λ m. absurd (omega (arith, m)))
goes AtMode q b h = goes_to 1 (section_number q) 2 h (omega arith) (omega arith) (λ m. absurd (omega (arith, m)))
goes AtLimits q b h = goes_to 2 (section_number q) 3 h (omega arith) (omega arith) (λ m. absurd (omega (arith, m)))
goes AtPages q true h = goes_to 3 (section_number q) 4 h (omega arith) (omega arith) (λ m. absurd (omega (arith, m)))
goes AtPages q false h = goes_to 3 (section_number q) 7 h (omega arith) (omega arith) (λ m. absurd (omega (arith, m)))
goes AtBlock q b h =
    or_by (eqb (section_number q) 5) (eqb (section_number q) 6 || eqb (section_number q) 7) (Goes 4 (section_number q)) h (λ e. goes_to 4 (section_number q) 5 e (omega arith) (omega arith) (λ m. absurd (omega (arith, m))))
    (λ i. or_by (eqb (section_number q) 6) (eqb (section_number q) 7) (Goes 4 (section_number q)) i (λ e. goes_to 4 (section_number q) 6 e (omega arith) (omega arith) (λ m. absurd (omega (arith, m)))) (λ e. goes_to 4 (section_number q) 7 e (omega arith) (omega arith) (λ m. absurd (omega (arith, m)))))
goes AtExpect q b h = or_by (eqb (section_number q) 6) (eqb (section_number q) 7) (Goes 5 (section_number q)) h (λ e. goes_to 5 (section_number q) 6 e (omega arith) (omega arith) (λ m. absurd (omega (arith, m)))) (λ e. goes_to 5 (section_number q) 7 e (omega arith) (omega arith) (λ m. absurd (omega (arith, m))))
goes AtInner q b h = or_by (eqb (section_number q) 6) (eqb (section_number q) 7) (Goes 6 (section_number q)) h (λ e. goes_to 6 (section_number q) 6 e (omega arith) (omega arith) (λ m. absurd (omega (arith, m)))) (λ e. goes_to 6 (section_number q) 7 e (omega arith) (omega arith) (λ m. absurd (omega (arith, m))))
goes AtVolume q b h =
    or_by (eqb (section_number q) 7) (eqb (section_number q) 8 || (eqb (section_number q) 9 || eqb (section_number q) 10)) (Goes 7 (section_number q)) h (λ e. goes_to 7 (section_number q) 7 e (omega arith) (omega arith) (λ m. omega arith))
    (λ i. or_by (eqb (section_number q) 8) (eqb (section_number q) 9 || eqb (section_number q) 10) (Goes 7 (section_number q)) i (λ e. goes_to 7 (section_number q) 8 e (omega arith) (omega arith) (λ m. omega arith))
    (λ j. or_by (eqb (section_number q) 9) (eqb (section_number q) 10) (Goes 7 (section_number q)) j (λ e. goes_to 7 (section_number q) 9 e (omega arith) (omega arith) (λ m. omega arith)) (λ e. goes_to 7 (section_number q) 10 e (omega arith) (omega arith) (λ m. omega arith))))
goes AtFault q b h =
    or_by (eqb (section_number q) 8) (eqb (section_number q) 9 || eqb (section_number q) 10) (Goes 8 (section_number q)) h (λ e. goes_to 8 (section_number q) 8 e (omega arith) (omega arith) (λ m. omega arith))
    (λ j. or_by (eqb (section_number q) 9) (eqb (section_number q) 10) (Goes 8 (section_number q)) j (λ e. goes_to 8 (section_number q) 9 e (omega arith) (omega arith) (λ m. omega arith)) (λ e. goes_to 8 (section_number q) 10 e (omega arith) (omega arith) (λ m. omega arith)))
goes AtSchedule q b h = or_by (eqb (section_number q) 9) (eqb (section_number q) 10) (Goes 9 (section_number q)) h (λ e. goes_to 9 (section_number q) 9 e (omega arith) (omega arith) (λ m. omega arith)) (λ e. goes_to 9 (section_number q) 10 e (omega arith) (omega arith) (λ m. omega arith))
goes AtBegin q b h = goes_to 10 (section_number q) 11 h (omega arith) (omega arith) (λ m. omega arith)
goes AtOp q b h = goes_to 11 (section_number q) 11 h (omega arith) (omega arith) (λ m. omega arith)

-- lines that leave entries, faults, ops and mask
pub order_on : (n q mask : ℕ) (entries : List Entry) (faults : List Raw) (ops : List Op) → (q ≡ 7 → ⊥) → Goes n q → InOrder n mask entries faults ops → InOrder q mask entries faults ops
order_on n q mask entries faults ops other g o =
    let up = g.up in
    record {
      before_expect = λ l. o.before_expect (omega (arith, up, l));
      no_faults = λ l. o.no_faults (omega (arith, up, l));
      no_ops = λ l. o.no_ops (omega (arith, up, l));
      with_volume = λ l. o.with_volume (g.behind_volume (seven_or q l other));
    }
  where
    seven_or : (q : ℕ) → 7 ≤ q → (q ≡ 7 → ⊥) → 8 ≤ q
    seven_or q l other = omega (arith, l, other)

-- a fault line's crossing is that of its place

pub spot_back : (spot : Spot) (kind : FaultKind) (b : Bool) → spot_of (crossing_of spot kind b) ≡ spot
spot_back Host kind true = refl
spot_back Wire (FlipKind off bytes) true = refl
spot_back Wire (ShiftKind by) true = refl
spot_back Wire (KeepKind bytes) true = refl
spot_back Wire FailKind true = refl
spot_back Medium kind true = refl
spot_back Host kind false = refl
spot_back Wire kind false = refl
spot_back Medium kind false = refl

spot_shifted : (third : Bool) (at : Crossing) → spot_of (shifted_at third at) ≡ spot_of at
spot_shifted true at = refl
spot_shifted false HostToAdapter = refl
spot_shifted false AdapterToTarget = refl
spot_shifted false TargetToMedium = refl
spot_shifted false MediumToTarget = refl
spot_shifted false TargetToAdapter = refl
spot_shifted false AdapterToHost = refl

pub flip_raw : (third : Bool) (size op k : ℕ) (spot : Spot) (off : ℕ) (bytes : List ℕ) → IsWithin 1 1024 op → k ≤ 2047 → IsFlip size off bytes → IsRaw third size (record { op = op; k = k; spot = spot; kind = FlipKind off bytes })
flip_raw third size op k spot off bytes o l h = record {
  is_fault = λ ops. record {
    op_is = o;
    k_is = l;
    crossing = ap (λ s. crossing_of s (FlipKind off bytes) (is_read ops op)) (spot_back spot (FlipKind off bytes) (is_read ops op));
    kind_is = h;
  };
  old = λ e. refl;
}

some_shift : (by : ℤ) → IsSmall by → is_no_shift by ≡ false → IsShift by
some_shift (pos n) h s = record { low_is = grind (arith, nat_tests); high_is = h }
some_shift (negsuc n) h s = h

pub shift_raw : (third : Bool) (size op : ℕ) (spot : Spot) (by : ℤ) → IsWithin 1 1024 op → IsShiftSpot spot → IsSmall by → is_no_shift by ≡ false → IsRaw third size (record { op = op; k = 0; spot = spot; kind = ShiftKind by })
shift_raw third size op spot by o w h s = record {
  is_fault = λ ops.
      let there = spot_shifted third (crossing_of spot (ShiftKind by) (is_read ops op)) ∙ spot_back spot (ShiftKind by) (is_read ops op) in
      record {
        op_is = o;
        k_is = omega arith;
        crossing = ap (λ s. shifted_at third (crossing_of s (ShiftKind by) (is_read ops op))) there;
        kind_is = (refl, subst IsShiftSpot (sym there) w, some_shift by h s);
      };
  old = λ e. refl;
}

pub keep_raw : (third : Bool) (size op k bytes : ℕ) → third ≡ true → IsWithin 1 1024 op → k ≤ 2047 → bytes ≤ size + 7 → IsRaw third size (record { op = op; k = k; spot = Medium; kind = KeepKind bytes })
keep_raw third size op k bytes t o l h = record {
  is_fault = λ ops. record {
    op_is = o;
    k_is = l;
    crossing = ap (λ s. crossing_of s (KeepKind bytes) (is_read ops op)) (spot_back Medium (KeepKind bytes) (is_read ops op));
    kind_is = (spot_back Medium (KeepKind bytes) (is_read ops op), h);
  };
  old = λ e. sym t ∙ e;
}

pub fail_raw : (third : Bool) (size op k : ℕ) → third ≡ true → IsWithin 1 1024 op → k ≤ 2047 → IsRaw third size (record { op = op; k = k; spot = Medium; kind = FailKind })
fail_raw third size op k t o l = record {
  is_fault = λ ops. record {
    op_is = o;
    k_is = l;
    crossing = ap (λ s. crossing_of s FailKind (is_read ops op)) (spot_back Medium FailKind (is_read ops op));
    kind_is = spot_back Medium FailKind (is_read ops op);
  };
  old = λ e. sym t ∙ e;
}

-- an op is that of its line

pub record IsOpOf (dix : Bool) (pages size : ℕ) (line : OpLine) (op : Op) : Type 0 where
  pub is_op : IsOp dix pages size op
  pub same_blocks : request_blocks (line_of op) ≡ request_blocks line

inside_is : (b : Bool) (made op : Op) → where_inside b made ≡ Ok op → (b ≡ true) × (op ≡ made)
inside_is true made op h = (refl, cc)
inside_is false made op h = absurd (cc)

unless_is : (f : Option ScriptKind) (made op : Op) → unless f made ≡ Ok op → (f ≡ None) × (op ≡ made)
unless_is None made op h = (refl, cc)
unless_is (Some k) made op h = absurd (cc)

ok_is : (made op : Op) → ◌≡◌ {A = Result Op ScriptKind} (Ok made) (Ok op) → op ≡ made
ok_is made op h = cc

pub tag_twice : (app : ℕ) → unwrap_or (tag_of app) 0 ≡ app
tag_twice app = by (eqb app 0) refl
  where
    by : (b : Bool) → eqb app 0 ≡ b → unwrap_or (if b then None else Some app) 0 ≡ app
    by true e = sym (eqb-true app 0 e)
    by false e = refl

no_tag : (dix : Bool) (app : Option ℕ) → not dix && is_some app ≡ false → not dix && is_some (tag_of (unwrap_or app 0)) ≡ false
no_tag dix None h = h
no_tag true (Some app) h = refl
no_tag false (Some app) h = absurd (cc)

tag_fits : (app : Option ℕ) → IsTag app → IsTag (tag_of (unwrap_or app 0))
tag_fits None h = tt
tag_fits (Some app) h = by (eqb app 0)
  where
    by : (b : Bool) → IsTag (if b then None else Some app)
    by true = tt
    by false = h

write_of : (dix : Bool) (pages size v n : ℕ) (body : List Seg) (app : Option ℕ) (op : Op) → op_in pages size (Write v n body app) ≡ Ok op → not dix && is_some app ≡ false → v < 2 ^ 64 → IsTag app → IsOpOf dix pages size (Write v n body app) op
write_of dix pages size v n body app op h i a t =
    let r = unless_is (data_fault pages size n body) (WriteOp v n body (unwrap_or app 0)) op h in
    subst (IsOpOf dix pages size (Write v n body app)) (sym r.1)
    (record {
      is_op = record {
        rules = ap (λ f. unless f (WriteOp v n body (unwrap_or (tag_of (unwrap_or app 0)) 0))) r.0 ∙ ap (λ x. Ok (WriteOp v n body x)) (tag_twice (unwrap_or app 0));
        integrity = no_tag dix app i;
        ranges = (a, tag_fits app t);
      };
      same_blocks = refl;
    })

flip_of : (b : Bool) (dix : Bool) (pages size dev lba off : ℕ) (bytes : List ℕ) (op : Op) → is_bad_flip size off bytes ≡ b → (if b then Err BadFault else Ok (Overwrite dev lba (FlipChange off bytes))) ≡ Ok op → not dix && false ≡ false
    → (dev < 2 ^ 32) × (lba < 2 ^ 64) × (off ≤ size + 7) × IsBytes bytes × (length bytes ≤ 32) → IsOpOf dix pages size (Flip dev lba off bytes) op
flip_of true dix pages size dev lba off bytes op e h i r = absurd (cc)
flip_of false dix pages size dev lba off bytes op e h i r =
    subst (IsOpOf dix pages size (Flip dev lba off bytes)) (sym (ok_is (Overwrite dev lba (FlipChange off bytes)) op h))
    (record {
      is_op = record {
        rules = ap (λ b. if b then Err BadFault else Ok (Overwrite dev lba (FlipChange off bytes))) e;
        integrity = i;
        ranges = (r.0, r.1, record { off_fits = r.2; are_bytes = r.3; count = r.4; good = e });
      };
      same_blocks = refl;
    })

pub op_of : (dix : Bool) (pages size : ℕ) (line : OpLine) (op : Op) → op_in pages size line ≡ Ok op → not dix && needs_tuples line ≡ false → Numbers size line → IsOpOf dix pages size line op
op_of dix pages size (Fill seg byte) op h i r =
    let e = inside_is (is_inside pages seg) (FillOp seg byte) op h in
    subst (IsOpOf dix pages size (Fill seg byte)) (sym e.1) (record { is_op = record { rules = ap (λ b. where_inside b (FillOp seg byte)) e.0; integrity = i; ranges = r }; same_blocks = refl })
op_of dix pages size (Put page off bytes) op h i r =
    let e = inside_is (is_inside pages (record { page = page; off = off; len = length bytes })) (PutOp page off bytes) op h in
    subst (IsOpOf dix pages size (Put page off bytes)) (sym e.1) (record { is_op = record { rules = ap (λ b. where_inside b (PutOp page off bytes)) e.0; integrity = i; ranges = r }; same_blocks = refl })
op_of dix pages size (Show seg) op h i r =
    let e = inside_is (is_inside pages seg && leb seg.len 64) (ShowOp seg) op h in
    subst (IsOpOf dix pages size (Show seg)) (sym e.1) (record { is_op = record { rules = ap (λ b. where_inside b (ShowOp seg)) e.0; integrity = i; ranges = r }; same_blocks = refl })
op_of dix pages size (Seal n body tuples app rtag) op h i r =
    let e = unless_is (both_fault pages size n body tuples) (SealOp n body tuples app rtag) op h in
    subst (IsOpOf dix pages size (Seal n body tuples app rtag)) (sym e.1) (record { is_op = record { rules = ap (λ f. unless f (SealOp n body tuples app rtag)) e.0; integrity = i; ranges = r }; same_blocks = refl })
op_of dix pages size (Write v n body app) op h i r = write_of dix pages size v n body app op h i r.0 r.1
op_of dix pages size (Read v n body) op h i r =
    let e = unless_is (data_fault pages size n body) (Fetch v n body) op h in
    subst (IsOpOf dix pages size (Read v n body)) (sym e.1) (record { is_op = record { rules = ap (λ f. unless f (Fetch v n body)) e.0; integrity = i; ranges = r }; same_blocks = refl })
op_of dix pages size (WritePi v n body tuples) op h i r =
    let e = unless_is (both_fault pages size n body tuples) (WritePiOp v n body tuples) op h in
    subst (IsOpOf dix pages size (WritePi v n body tuples)) (sym e.1) (record { is_op = record { rules = ap (λ f. unless f (WritePiOp v n body tuples)) e.0; integrity = i; ranges = r }; same_blocks = refl })
op_of dix pages size (ReadPi v n body tuples) op h i r =
    let e = unless_is (both_fault pages size n body tuples) (FetchPi v n body tuples) op h in
    subst (IsOpOf dix pages size (ReadPi v n body tuples)) (sym e.1) (record { is_op = record { rules = ap (λ f. unless f (FetchPi v n body tuples)) e.0; integrity = i; ranges = r }; same_blocks = refl })
op_of dix pages size (Flip dev lba off bytes) op h i r = flip_of (is_bad_flip size off bytes) dix pages size dev lba off bytes op refl h i r
op_of dix pages size (Copy dev lba from_dev from_lba) op h i r =
    subst (IsOpOf dix pages size (Copy dev lba from_dev from_lba)) (sym (ok_is (Overwrite dev lba (CopyChange from_dev from_lba)) op h)) (record { is_op = record { rules = refl; integrity = i; ranges = r }; same_blocks = refl })
op_of dix pages size Wait op h i r = subst (IsOpOf dix pages size Wait) (sym (ok_is WaitOp op h)) (record { is_op = record { rules = refl; integrity = i; ranges = r }; same_blocks = refl })

pub ops_more : (dix : Bool) (pages size : ℕ) (ops : List Op) (blocks : ℕ) (lines : List ℕ) (line : OpLine) (op : Op) (n : ℕ) → HoldsOps dix pages size ops blocks lines → IsOpOf dix pages size line op → length ops < 1024 → blocks + request_blocks line ≤ 16384
    → HoldsOps dix pages size (ops ++ (op ∷ [])) (blocks + request_blocks line) (lines ++ (n ∷ []))
ops_more dix pages size ops blocks lines line op n h o few most =
    let a = length_both ops (op ∷ []) in
    let b = length_both lines (n ∷ []) in
    let c = h.lined in
    let e = h.blocks_are in
    let f = blocks_snoc ops op in
    let g = o.same_blocks in
    record {
      each = each_snoc (IsOp dix pages size) ops op h.each o.is_op;
      count = omega (arith, a, few);
      blocks_are = omega (arith, e, f, g);
      blocks_count = most;
      lined = omega (arith, a, b, c);
    }

pub faults_more : (third : Bool) (size : ℕ) (faults : List Raw) (lines : List ℕ) (f : Raw) (n : ℕ) → HoldsFaults third size faults lines → IsRaw third size f → length faults < 256 → HoldsFaults third size (faults ++ (f ∷ [])) (lines ++ (n ∷ []))
faults_more third size faults lines f n h r few =
    let a = length_both faults (f ∷ []) in
    let b = length_both lines (n ∷ []) in
    let c = h.lined in
    record { each = each_snoc (IsRaw third size) faults f h.each r; count = omega (arith, a, few); lined = omega (arith, a, b, c) }

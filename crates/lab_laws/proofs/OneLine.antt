-- A run with one flip beside the run without: all other blocks are done alike, and what becomes of the flipped one.
use Rattle.std.proofs.Common.{◌≡◌, ℕ, ◌-◌, Bool, true, false, eqb, ◌&&◌, if◌then◌else◌, List, [], ◌∷◌, length, drop, get_or, map, Option, None, refl, sym, ap, ◌∙◌, arith}
use Rattle.std.specs.Prelude.{ℤ, bit_xor, leb, pos, slice_index, unwrap_or}
use Rattle.std.specs.Int.Bits.{xor_zero_r}
use Rattle.std.proofs.lemmas.Bool.{eqb-true, eq-eqb, le-leb}
use Rattle.page_pool.specs.Cells.{gather}
use Rattle.fault_schedule.specs.Altered.{byte_at, fails_of, is_line_of, is_same, keep_of, keep_or, kept_by, named, shift_of}
use Rattle.fault_schedule.specs.declared.fault.Crossing.{Crossing}
use Rattle.fault_schedule.specs.declared.fault.Crossing.TheVariants.{AdapterToHost, AdapterToTarget, HostToAdapter, MediumToTarget, TargetToAdapter, TargetToMedium}
use Rattle.fault_schedule.specs.declared.fault.FaultKind.TheVariants.{Flip}
use Rattle.fault_schedule.specs.declared.fault.FaultLine.{FaultLine}
use Rattle.integrity_payload.specs.declared.payload.Owner.{Owner}
use Rattle.block_path.specs.Acts.{Act, Effect, State, act, tell}
use Rattle.block_path.specs.Blocks.{ActAnswer, fetched_cell, own_cell, own_frame, read_by, stored_cell, tuple_after, untouched, written_by}
use Rattle.block_path.specs.WayIn.{WayIn, way_in}
use Rattle.block_path.specs.WayOut.{WayOut, way_out}
use Rattle.block_path.specs.declared.route.Route.{Route}
use Rattle.walk_laws.specs.Detectable.{crossed}
use Rattle.walk_laws.specs.ScriptWalk.{act_of}
use Rattle.walk_laws.specs.Settings.{Block, Setting, route}
use Rattle.walk_laws.specs.Steps.{Alters, Reads, Seals, Sets, Shows, Step, Writes, WritesPi}
use Rattle.run_laws.proofs.Framed.{not_altered}
use Rattle.lab_laws.proofs.Flipped.{IsOne}
use Rattle.lab_laws.proofs.Ways.{comes_in, fetched_home, goes_out, in_by, out_by, stored_home, under_lines}
use Rattle.guard_laws.proofs.Flips.{one_outside}

abbrev pub one_line : Crossing → (op k off byte : ℕ) → FaultLine
one_line at op k off byte = record { op = op; k = k; at = at; kind = Flip off (byte ∷ []) }

-- ---- acts, by what becomes of their blocks

-- of what is stored so many bytes are, or all of them
abbrev pub kept_over : Option ℕ → (old : List ℕ) → Effect ActAnswer → Effect ActAnswer
kept_over keep old e = record { written = record e.written { blocks = map (kept_by keep old) e.written.blocks }; answer = e.answer }

-- a block of a write: where it is stored, what it reads and writes of the pages, and how it ends
abbrev pub as_kept : Option ℕ → Route → (cell own : ℕ) → (reads writes : List ℕ) → WayOut → (back : List ℕ) → Act ActAnswer
as_kept keep r cell own reads writes w back = record {
  bytes = record { reads = reads; writes = writes };
  blocks = record { reads = cell ∷ []; writes = cell ∷ [] };
  logs = record { reads = own ∷ []; writes = own ∷ [] };
  fates = untouched;
  compute = λ seen. kept_over keep (get_or seen.blocks 0 []) (written_by r w back (get_or seen.logs 0 []));
}

-- the same, stored whole
abbrev pub as_written : Route → (cell own : ℕ) → (reads writes : List ℕ) → WayOut → (back : List ℕ) → Act ActAnswer
as_written r cell own reads writes w back = as_kept None r cell own reads writes w back

abbrev pub as_read : Route → Owner → (cell own : ℕ) → (to : List ℕ) → WayIn → Act ActAnswer
as_read r owner cell own to w = record {
  bytes = record { reads = []; writes = to };
  blocks = record { reads = cell ∷ []; writes = [] };
  logs = record { reads = own ∷ []; writes = [] };
  fates = untouched;
  compute = λ seen. read_by r owner w (length to) (length (get_or seen.logs 0 []));
}

-- two settings in which a step does and answers the same
pub record Alike (m0 m1 : Setting) (step : Step) (s : State) : Type 0 where
  pub does : act (act_of m1 step) s ≡ act (act_of m0 step) s
  pub answers : tell (act_of m1 step) s ≡ tell (act_of m0 step) s

-- ---- settings under lines without shifts that alter none of a block, which the medium doesn't fail

module _ (m' : Setting) (lines : List FaultLine) (unshifted : (c : Crossing) (op : ℕ) → shift_of lines c op ≡ pos 0) (b : Block) (served : fails_of lines (route (under_lines m' lines) b).label ≡ false) (clear : (c : Crossing) (x : List ℕ) → crossed (under_lines m' lines) b c x ≡ x) where
  abbrev m : Setting
  m = under_lines m' lines

  pub quiet_out : (f : List ℕ) → way_out lines m.site.device (route m b) f ≡ out_by m' lines unshifted b (λ x. x) (λ x. x) (λ x. x) f
  quiet_out f =
      let h = crossed m b HostToAdapter in
      let w = crossed m b AdapterToTarget in
      let d = crossed m b TargetToMedium in
      goes_out m' lines unshifted b served f
      ∙ ap (λ h. out_by m' lines unshifted b h w d f) (λ i x. clear HostToAdapter x i)
      ∙ ap (λ w. out_by m' lines unshifted b (λ x. x) w d f) (λ i x. clear AdapterToTarget x i)
      ∙ ap (λ d. out_by m' lines unshifted b (λ x. x) (λ x. x) d f) (λ i x. clear TargetToMedium x i)

  pub quiet_in : (owner : Owner) (x : List ℕ) → way_in lines m.site.device (route m b) owner x ≡ in_by m' lines unshifted b owner (λ x. x) (λ x. x) (λ x. x) x
  quiet_in owner x =
      let d = crossed m b MediumToTarget in
      let w = crossed m b TargetToAdapter in
      let h = crossed m b AdapterToHost in
      comes_in m' lines unshifted b served owner x
      ∙ ap (λ d. in_by m' lines unshifted b owner d w h x) (λ i x. clear MediumToTarget x i)
      ∙ ap (λ w. in_by m' lines unshifted b owner (λ x. x) w h x) (λ i x. clear TargetToAdapter x i)
      ∙ ap (λ h. in_by m' lines unshifted b owner (λ x. x) (λ x. x) h x) (λ i x. clear AdapterToHost x i)

-- ---- without lines

pub none_shifted : (c : Crossing) (op : ℕ) → shift_of [] c op ≡ pos 0
none_shifted c op = refl

pub none_altered : (m' : Setting) (b : Block) (c : Crossing) (x : List ℕ) → crossed (under_lines m' []) b c x ≡ x
none_altered m' b c x = not_altered [] c (route (under_lines m' []) b).label x refl

-- ---- with one

module _ (m' : Setting) (at : Crossing) (op k off byte : ℕ) where
  abbrev lines : List FaultLine
  lines = one_line at op k off byte ∷ []

  abbrev pub m0 : Setting
  m0 = under_lines m' []

  abbrev pub m1 : Setting
  m1 = under_lines m' lines

  pub one_shifted : (c : Crossing) (o : ℕ) → shift_of lines c o ≡ pos 0
  one_shifted c o = by (is_same at c && eqb op o)
    where
      by : (t : Bool) → ◌≡◌ {A = ℤ} (unwrap_or (if t then None else None) (pos 0)) (pos 0)
      by true = refl
      by false = refl

  -- it lets each block be stored whole
  pub whole_kept : (b : Block) → keep_of lines (route m1 b).label ≡ None
  whole_kept b = by (is_line_of (one_line at op k off byte) TargetToMedium (route m1 b).label)
    where
      by : (t : Bool) → ◌≡◌ {A = Option ℕ} (keep_or (if t then None else None) None) None
      by true = refl
      by false = refl

  -- another block than the line's
  abbrev pub IsOther : Block → Type 0
  IsOther b = b.op ≡ op → b.k ≡ k → ⊥

  -- the line's own
  pub record IsOwn (b : Block) : Type 0 where
    pub op_is : b.op ≡ op
    pub k_is : b.k ≡ k

  not_of : (b : Block) (c : Crossing) → is_line_of (one_line at op k off byte) c (route m1 b).label ≡ false → (x : List ℕ) → crossed m1 b c x ≡ x
  not_of b c e x = not_altered lines c (route m1 b).label x (rw e refl)

  other_of : (b : Block) (c : Crossing) → IsOther b → is_line_of (one_line at op k off byte) c (route m1 b).label ≡ false
  other_of b c h = by (is_same at c) (eqb op b.op) (eqb k b.k) (λ p q. h (sym (eqb-true op b.op p)) (sym (eqb-true k b.k q)))
    where
      by : (s p q : Bool) → (p ≡ true → q ≡ true → ⊥) → (s && (p && q)) ≡ false
      by false p q h = refl
      by true false q h = refl
      by true true false h = refl
      by true true true h = absurd (h refl refl)

  pub other_clear : (b : Block) → IsOther b → (c : Crossing) (x : List ℕ) → crossed m1 b c x ≡ x
  other_clear b h c x = not_of b c (other_of b c h) x

  -- at another crossing than the line's the block is as it was
  pub elsewhere : (b : Block) (c : Crossing) → is_same at c ≡ false → (x : List ℕ) → crossed m1 b c x ≡ x
  elsewhere b c e x = not_of b c (rw e refl) x

  -- ---- at its own

  named_is : (b : Block) → IsOwn b → is_same at at ≡ true → (i : ℕ) → named lines at (route m1 b).label i ≡ byte_at off (byte ∷ []) i
  named_is b h s i =
      let p : eqb op b.op ≡ true = eq-eqb op b.op (sym h.op_is) in
      let q : eqb k b.k ≡ true = eq-eqb k b.k (sym h.k_is) in
      let e : is_line_of (one_line at op k off byte) at (route m1 b).label ≡ true = rw (s, p, q) refl in
      ap (λ t. bit_xor (if t then byte_at off (byte ∷ []) i else 0) 0) e ∙ xor_zero_r (byte_at off (byte ∷ []) i)

  byte_here : byte_at off (byte ∷ []) off ≡ byte
  byte_here =
      let e : leb off off ≡ true = le-leb off off (omega arith) in
      let z : off - off ≡ 0 = omega arith in
      ap (λ t. if t then slice_index (byte ∷ []) (off - off) else 0) e ∙ ap (slice_index (byte ∷ [])) z

  pub one : (b : Block) → IsOwn b → is_same at at ≡ true → IsOne off byte (named lines at (route m1 b).label)
  one b h s = record { here = named_is b h s off ∙ byte_here; there = λ i d. named_is b h s i ∙ one_outside off byte i d }

  -- ---- steps

  -- The step is of another block, or of none.
  abbrev pub StepIsOther : Step → Type 0
  StepIsOther (Sets to values) = Unit {0}
  StepIsOther (Shows from) = Unit {0}
  StepIsOther (Seals body tuple app rtag) = Unit {0}
  StepIsOther (Writes b app body) = IsOther b
  StepIsOther (WritesPi b frame) = IsOther b
  StepIsOther (Reads b owner to) = IsOther b
  StepIsOther (Alters dev lba change) = ⊥

  pub same_stored : (b : Block) → stored_cell m1.site (route m1 b) ≡ stored_cell m0.site (route m0 b)
  same_stored b = stored_home m' lines one_shifted b ∙ sym (stored_home m' [] none_shifted b)

  pub same_fetched : (b : Block) → fetched_cell m1.site (route m1 b) ≡ fetched_cell m0.site (route m0 b)
  same_fetched b = fetched_home m' lines one_shifted b ∙ sym (fetched_home m' [] none_shifted b)

  same_out : (b : Block) → IsOther b → (f : List ℕ) → way_out lines m1.site.device (route m1 b) f ≡ way_out [] m0.site.device (route m0 b) f
  same_out b h f = quiet_out m' lines one_shifted b refl (other_clear b h) f ∙ sym (quiet_out m' [] none_shifted b refl (none_altered m' b) f)

  same_in : (b : Block) → IsOther b → (owner : Owner) (x : List ℕ) → way_in lines m1.site.device (route m1 b) owner x ≡ way_in [] m0.site.device (route m0 b) owner x
  same_in b h owner x = quiet_in m' lines one_shifted b refl (other_clear b h) owner x ∙ sym (quiet_in m' [] none_shifted b refl (none_altered m' b) owner x)

  -- a block of a write that ends alike
  pub writes_alike : (b : Block) (app : ℕ) (body : List ℕ) (s : State) → let f = own_frame (route m0 b) app (gather 0 body s.bytes) in
      way_out lines m1.site.device (route m1 b) f ≡ way_out [] m0.site.device (route m0 b) f → Alike m0 m1 (Writes b app body) s
  writes_alike b app body s e =
      let r : Route = route m0 b in
      let own : ℕ = own_cell m0.site r in
      let c : ℕ = stored_cell m0.site r in
      let f = own_frame r app (gather 0 body s.bytes) in
      let w = way_out lines m1.site.device (route m1 b) f in
      record {
        does = ap (λ keep. act (as_kept keep r (stored_cell m1.site r) own body [] w []) s) (whole_kept b) ∙ ap (λ c. act (as_written r c own body [] w []) s) (same_stored b) ∙ ap (λ w. act (as_written r c own body [] w []) s) e;
        answers = ap (λ c. tell (as_written r c own body [] w []) s) (same_stored b) ∙ ap (λ w. tell (as_written r c own body [] w []) s) e;
      }

  pub app_alike : (b : Block) (frame : List ℕ) (s : State) → let x = gather 0 frame s.bytes in way_out lines m1.site.device (route m1 b) x ≡ way_out [] m0.site.device (route m0 b) x → Alike m0 m1 (WritesPi b frame) s
  app_alike b frame s e =
      let r : Route = route m0 b in
      let own : ℕ = own_cell m0.site r in
      let c : ℕ = stored_cell m0.site r in
      let x = gather 0 frame s.bytes in
      let back = tuple_after r (drop r.size x) in
      let to = drop r.size frame in
      let w = way_out lines m1.site.device (route m1 b) x in
      record {
        does = ap (λ keep. act (as_kept keep r (stored_cell m1.site r) own frame to w back) s) (whole_kept b) ∙ ap (λ c. act (as_written r c own frame to w back) s) (same_stored b) ∙ ap (λ w. act (as_written r c own frame to w back) s) e;
        answers = ap (λ c. tell (as_written r c own frame to w back) s) (same_stored b) ∙ ap (λ w. tell (as_written r c own frame to w back) s) e;
      }

  -- a block of a read that ends alike
  pub reads_alike : (b : Block) (owner : Owner) (to : List ℕ) (s : State) → let x = get_or s.blocks (fetched_cell m0.site (route m0 b)) [] in
      way_in lines m1.site.device (route m1 b) owner x ≡ way_in [] m0.site.device (route m0 b) owner x → Alike m0 m1 (Reads b owner to) s
  reads_alike b owner to s same =
      let r : Route = route m0 b in
      let own : ℕ = own_cell m0.site r in
      let c : ℕ = fetched_cell m0.site r in
      let d : ℕ = fetched_cell m1.site r in
      let x = get_or s.blocks c [] in
      let w = way_in lines m1.site.device (route m1 b) owner (get_or s.blocks d []) in
      let e : w ≡ way_in [] m0.site.device r owner x = ap (λ c. way_in lines m1.site.device (route m1 b) owner (get_or s.blocks c [])) (same_fetched b) ∙ same in
      record {
        does = ap (λ c. act (as_read r owner c own to w) s) (same_fetched b) ∙ ap (λ w. act (as_read r owner c own to w) s) e;
        answers = ap (λ c. tell (as_read r owner c own to w) s) (same_fetched b) ∙ ap (λ w. tell (as_read r owner c own to w) s) e;
      }

  pub alike : (step : Step) (s : State) → StepIsOther step → Alike m0 m1 step s
  alike (Sets to values) s h = record { does = refl; answers = refl }
  alike (Shows from) s h = record { does = refl; answers = refl }
  alike (Seals body tuple app rtag) s h = record { does = refl; answers = refl }
  alike (Writes b app body) s h = writes_alike b app body s (same_out b h (own_frame (route m0 b) app (gather 0 body s.bytes)))
  alike (WritesPi b frame) s h = app_alike b frame s (same_out b h (gather 0 frame s.bytes))
  alike (Reads b owner to) s h = reads_alike b owner to s (same_in b h owner (get_or s.blocks (fetched_cell m0.site (route m0 b)) []))
  alike (Alters dev lba change) s h = absurd h

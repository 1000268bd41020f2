-- A walk without faults is that of a plain map: block by block, then step by step.
use Rattle.std.proofs.Common.{◌≡◌, ◌<◌, ℕ, ◌+◌, ◌^◌, Bool, true, false, not, ◌&&◌, ◌||◌, eqb, if◌then◌else◌, List, [], ◌∷◌, length, map, drop, take, get_or, set, Option, Some, None, refl, sym, ap, ◌∙◌, subst, arith}
use Rattle.std.specs.Int.{w32, to_be_bytes, from_be_bytes}
use Rattle.std.proofs.lemmas.Bool.{eq-eqb}
use Rattle.std.proofs.lemmas.List.{length-set, length-take-le}
use Rattle.pi_guard.specs.Guards.{guard_of}
use Rattle.pi_guard.proofs.GuardSizes.{guard_below}
use Rattle.pi_tuple.specs.Finds.{first_of, has_ref_tag, is_escaped}
use Rattle.pi_tuple.specs.Tuples.{ref_tag, tuple_bytes}
use Rattle.pi_tuple.specs.declared.tuple.Tuple.{Tuple}
use Rattle.pi_tuple.specs.declared.checks.Check.{Check}
use Rattle.pi_tuple.specs.declared.checks.Check.TheVariants.{AppTag, Guard, RefTag}
use Rattle.pi_tuple.proofs.TupleLaws.{tag_below}
use Rattle.page_pool.specs.Cells.{gather, scatter}
use Rattle.stack_ops.specs.Passed.{Why}
use Rattle.block_path.specs.Passed.{data_of, frame_of, tuple_of, Owner}
use Rattle.stack_ops.specs.declared.op.Op.{Op}
use Rattle.stack_ops.specs.declared.op.Op.TheVariants.{Fetch, FetchPi, Fill, Overwrite, Put, Seal, Show, Wait, Write, WritePi}
use Rattle.stack_ops.specs.declared.reply.Reply.TheVariants.{Shown}
use Rattle.block_path.specs.Acts.{State, act, tell}
use Rattle.block_path.specs.Blocks.{ActAnswer, fetched_cell, own_cell, own_frame, own_tuple, read_by, silent, stored_cell, tag_after, tuple_after, written_by}
use Rattle.block_path.specs.Routes.{host_type, target}
use Rattle.block_path.specs.Serial.{plain, plain_tells}
use Rattle.block_path.specs.WayIn.{way_in}
use Rattle.block_path.specs.WayOut.{way_out}
use Rattle.block_path.proofs.Cells.{AllBelow, gather_length}
use Rattle.walk_laws.specs.CalmRun.{LiesInImage}
use Rattle.walk_laws.specs.PlainMap.{MapEntry, Plain, all_pass, as_expected, entry_of, finds_of_app, finds_plainly, handed, kept_unless, listed_by, no_entry, plain_answer, plain_step}
use Rattle.walk_laws.specs.ScriptWalk.{act_of, bad_from, reply_of, shown_reply, whole_or_bad}
use Rattle.walk_laws.specs.Settings.{Block, Setting, route}
use Rattle.walk_laws.specs.Steps.{Alters, Reads, Seals, Sets, Shows, Step, Writes, WritesPi}
use Rattle.walk_laws.specs.UnderMap.{IsUnder, NoneEscapes, SuppliesNoEscape, address_of, home, stored_as, under}
use Rattle.walk_laws.proofs.CalmWays.{IsProper, comes_home, goes, goes_bare, goes_on, is_right, loud, proper_entry, quiet, read_same, stored_same, unmasked}
use Rattle.walk_laws.proofs.MapUnder.{AllProper, proper_at, proper_set, put_unless, under_accepted, under_at}
use Rattle.walk_laws.proofs.TupleFrames.{below_append, below_drop, below_gather, below_scatter, below_take, four_below, frame_is, frame_small, tuple_below}
use Rattle.small_laws.proofs.Tests.{never}

-- answers that a reply can't tell apart
pub record Same (a b : ActAnswer) : Type 0 where
  pub why : a.why ≡ b.why
  pub shown : a.shown ≡ b.shown

abbrev pub AllSame : List ActAnswer → List ActAnswer → Type 0
AllSame [] [] = Unit {0}
AllSame [] (b ∷ bs) = ⊥
AllSame (a ∷ xs) [] = ⊥
AllSame (a ∷ xs) (b ∷ bs) = Same a b × AllSame xs bs

whys_same : (xs ys : List ActAnswer) → AllSame xs ys → map (λ a. a.why) xs ≡ map (λ a. a.why) ys
whys_same [] [] h = refl
whys_same [] (y ∷ ys) h = absurd h
whys_same (x ∷ xs) [] h = absurd h
whys_same (x ∷ xs) (y ∷ ys) h = let first = h.0.why in let rest = whys_same xs ys h.1 in cc

shown_same : (xs ys : List ActAnswer) → AllSame xs ys → shown_reply xs ≡ shown_reply ys
shown_same [] [] h = refl
shown_same [] (y ∷ ys) h = absurd h
shown_same (x ∷ xs) [] h = absurd h
shown_same (x ∷ xs) (y ∷ ys) h = ap (λ s. Shown s) h.0.shown

request_same : (xs ys : List ActAnswer) → AllSame xs ys → whole_or_bad (bad_from 0 (map (λ a. a.why) xs)) ≡ whole_or_bad (bad_from 0 (map (λ a. a.why) ys))
request_same xs ys h = ap (λ whys. whole_or_bad (bad_from 0 whys)) (whys_same xs ys h)

pub reply_same : (fails : Bool) (op : Op) (xs ys : List ActAnswer) → AllSame xs ys → reply_of fails op xs ≡ reply_of fails op ys
reply_same fails (Fill seg byte) xs ys h = refl
reply_same fails (Put page off bytes) xs ys h = refl
reply_same fails (Show seg) xs ys h = shown_same xs ys h
reply_same fails (Seal n body tuples app rtag) xs ys h = refl
reply_same fails (Write v n body app) xs ys h = request_same xs ys h
reply_same fails (Fetch v n body) xs ys h = request_same xs ys h
reply_same fails (WritePi v n body tuples) xs ys h = request_same xs ys h
reply_same fails (FetchPi v n body tuples) xs ys h = request_same xs ys h
reply_same fails (Overwrite dev lba change) xs ys h = refl
reply_same fails Wait xs ys h = refl

-- what a step has to meet
abbrev pub Meets : Setting → ℕ → Step → Type 0
Meets m n (Sets at values) = AllBelow 256 values
Meets m n (Shows at) = Unit {0}
Meets m n (Seals body tuple app rtag) = Unit {0}
Meets m n (Writes b app body) = (b.virt < n) × ((length body ≡ m.size) × (app < 2 ^ 16))
Meets m n (WritesPi b frame) = (b.virt < n) × ((length frame ≡ m.size + 8) × (m.mode.dix ≡ true))
Meets m n (Reads b owner to) = b.virt < n
Meets m n (Alters dev lba change) = ⊥

abbrev pub AllMeet : Setting → ℕ → List Step → Type 0
AllMeet m n [] = Unit {0}
AllMeet m n (step ∷ steps) = Meets m n step × AllMeet m n steps

-- the block layer's own tuple is right but for its application tag
own_is_found : (m : Setting) (b : Block) (app : ℕ) (body : List ℕ) → finds_of_app m b body (own_tuple (route m b) app body) ≡ finds_plainly m app
own_is_found m b app body =
    by (not (eqb (guard_of m.mode.kind body) (guard_of m.mode.kind body))) (as_expected m app) _
    (let e : eqb (guard_of m.mode.kind body) (guard_of m.mode.kind body) ≡ true = eq-eqb _ _ refl in ap not e)
    (own_tag_right (has_ref_tag (host_type m.ty)))
  where
    by : (g x r : Bool) → g ≡ false → r ≡ false →
        first_of (record { check = Guard; differs = g } ∷ record { check = AppTag; differs = not x } ∷ record { check = RefTag; differs = r } ∷ []) ≡ (if x then None else Some AppTag)
    by true x r p q = never (sym p)
    by false false r p q = refl
    by false true true p q = never (sym q)
    by false true false p q = refl

    own_tag_right : (c : Bool) → (c && not (eqb (if c then ref_tag b.virt else 0) (ref_tag b.virt) || eqb (if c then ref_tag b.virt else 0) (ref_tag (route m b).lba))) ≡ false
    own_tag_right false = refl
    own_tag_right true =
        let e : eqb (ref_tag b.virt) (ref_tag b.virt) ≡ true = eq-eqb _ _ refl in
        ap (λ c. not (c || eqb (ref_tag b.virt) (ref_tag (route m b).lba))) e

placed : (m : Setting) (b : Block) (o : Option Check) (back : List ℕ) (log : List (List ℕ)) (e : MapEntry) (c : ℕ) (blocks : List (List ℕ)) → c ≡ home m b.virt →
    scatter (c ∷ []) (map (λ frame. frame) (written_by (route m b) (goes m b o e) back log).written.blocks) blocks ≡ put_unless m o b.virt e blocks
placed m b None back log e c blocks p = ap (λ i. set blocks i (stored_as m (address_of m b.virt) e)) p
placed m b (Some check) back log e c blocks p = refl

told : (m : Setting) (b : Block) (o : Option Check) (back : List ℕ) (log : List (List ℕ)) (e : MapEntry) → Same (written_by (route m b) (goes m b o e) back log).answer (listed_by o)
told m b None back log e = record { why = refl; shown = refl }
told m b (Some check) back log e = record { why = refl; shown = refl }

left : (m : Setting) (b : Block) (o : Option Check) (back : List ℕ) (log : List (List ℕ)) (e : MapEntry) → (written_by (route m b) (goes m b o e) back log).written.bytes ≡ back
left m b None back log e = refl
left m b (Some check) back log e = refl

-- what stands between two steps
pub record Stands (m : Setting) (n : ℕ) (s : Plain) : Type 0 where
  pub size : length s.map ≡ n
  pub all : AllProper m s.map
  pub pages : AllBelow 256 s.bytes

own_below : (c : Bool) (n : ℕ) → (if c then ref_tag n else 0) < 2 ^ 32
own_below true n = tag_below n
own_below false n = omega arith

module _ (m' : Setting) (n : ℕ) (image : List (List ℕ)) (protect : 0 < m'.mode.protect) (free : all_pass m' ≡ false → m'.mode.mask ≡ 0) where
  -- the setting without faults
  abbrev pub m : Setting
  m = quiet m' m'.mode.dix m'.mode.dif m'.ty

  abbrev cells_of : Plain → List (List (List ℕ)) → List (Option Why) → State
  cells_of s logs fates = record { bytes = s.bytes; blocks = under m 0 s.map image; logs = logs; fates = fates }

  write_way : (dix : Bool) (b : Block) (app : ℕ) (body : List ℕ) → let q = quiet m' dix m'.mode.dif m'.ty in
      length body ≡ m'.size → AllBelow 256 body → app < 2 ^ 16 → (all_pass q ≡ false → m'.mode.mask ≡ 0) → (dix ≡ true → is_escaped (host_type m'.ty) (own_tuple (route q b) app body) ≡ false) →
      way_out [] (target []) (route q b) (own_frame (route q b) app body) ≡ goes q b (finds_plainly m' app) (entry_of q body (own_tuple (route q b) app body))
  write_way true b app body l h a loose escape =
      let q = quiet m' true m'.mode.dif m'.ty in
      let t = own_tuple (route q b) app body in
      goes_on m' b protect m'.mode.dif m'.ty body t l h (record { guard = guard_below m'.mode.kind body; app = a; rtag = own_below (has_ref_tag (host_type m'.ty)) b.virt }) loose (escape refl)
      ∙ ap (λ o. goes q b o (entry_of q body t)) (own_is_found q b app body)
  write_way false b app body l h a loose escape =
      let q = quiet m' false m'.mode.dif m'.ty in
      let t = own_tuple (route q b) app body in
      let none = loose refl in
      goes_bare m' b protect m'.mode.dif m'.ty body t l h none
      ∙ ap (λ c. goes q b (if c then None else Some AppTag) (entry_of q body t)) (sym (unmasked m' app none))

  pi_way : (dix : Bool) (b : Block) (seen : List ℕ) → let q = quiet m' dix m'.mode.dif m'.ty in
      dix ≡ true → length seen ≡ m'.size + 8 → AllBelow 256 seen → (all_pass q ≡ false → m'.mode.mask ≡ 0) → is_escaped (host_type m'.ty) (tuple_of m'.size seen) ≡ false →
      way_out [] (target []) (route q b) seen ≡ goes q b (finds_of_app q b (data_of m'.size seen) (tuple_of m'.size seen)) (entry_of q (data_of m'.size seen) (tuple_of m'.size seen))
  pi_way true b seen on l h loose escape =
      let q = quiet m' true m'.mode.dif m'.ty in
      ap (way_out [] (target []) (route q b)) (sym (frame_is m'.size seen l h))
      ∙ goes_on m' b protect m'.mode.dif m'.ty (data_of m'.size seen) (tuple_of m'.size seen)
      (length-take-le m'.size seen (omega (arith, l))) (below_take 256 m'.size seen h) (frame_small m'.size seen l h) loose escape
  pi_way false b seen on l h loose escape = never on

  -- an entry that is accepted is proper
  proper_kept : (o : Option Check) (v : ℕ) (e : MapEntry) (map : List MapEntry) → (o ≡ None → IsProper m e) → AllProper m map → AllProper m (kept_unless o v e map)
  proper_kept None v e map p h = proper_set m map v e (p refl) h
  proper_kept (Some check) v e map p h = h

  size_kept : (o : Option Check) (v : ℕ) (e : MapEntry) (map : List MapEntry) → length (kept_unless o v e map) ≡ length map
  size_kept None v e map = length-set map v e
  size_kept (Some check) v e map = refl

  expected_found : (app : ℕ) → finds_plainly m app ≡ None → as_expected m app ≡ true
  expected_found app h = by (as_expected m app) h where
    by : (c : Bool) → (let none : Option Check = None in (if c then none else Some AppTag) ≡ none) → c ≡ true
    by true h = refl
    by false h = grind (arith, h)

  tag_after_below : (b : Block) (tag : List ℕ) → AllBelow 256 tag → AllBelow 256 (tag_after (route m b) tag)
  tag_after_below b tag h = by (has_ref_tag (host_type m.ty) && (eqb (from_be_bytes w32 tag) (ref_tag b.virt) || eqb (from_be_bytes w32 tag) (ref_tag (route m b).lba))) where
    by : (c : Bool) → AllBelow 256 (if c then to_be_bytes w32 (ref_tag b.virt) else tag)
    by true = four_below (ref_tag b.virt)
    by false = h

  after_below : (b : Block) (tuple : List ℕ) → AllBelow 256 tuple → AllBelow 256 (tuple_after (route m b) tuple)
  after_below b tuple h = below_append 256 (take 4 tuple) (tag_after (route m b) (drop 4 tuple)) (below_take 256 4 tuple h) (tag_after_below b (drop 4 tuple) (below_drop 256 4 tuple h))

  handed_below : (b : Block) (e : MapEntry) → AllBelow 256 e.body → AllBelow 256 (handed m b e)
  handed_below b e h = by m.mode.dix _ where
    by : (c : Bool) (t : Tuple) → AllBelow 256 (if c then frame_of e.body t else e.body)
    by true t = below_append 256 e.body (tuple_bytes t) h (tuple_below t)
    by false t = h

  -- one step leads from the plain state's cells to the next plain state's
  pub record Leads (after : Plain) (now : State) (tells said : ActAnswer) : Type 0 where
    pub under : IsUnder m after image now
    pub same : Same tells said
    pub stands : Stands m n after

  module _ (lies : LiesInImage m n image) where
    write_step : (b : Block) (app : ℕ) (body : List ℕ) (s : Plain) (logs : List (List (List ℕ))) (fates : List (Option Why)) →
        let step = Writes b app body in
        let c = cells_of s logs fates in
        Meets m n step → SuppliesNoEscape m step c → Stands m n s → Leads (plain_step m step s) (act (act_of m step) c) (tell (act_of m step) c) (plain_answer m step s)
    write_step b app body s logs fates meets escape h =
        let seen = gather 0 body s.bytes in
        let t = own_tuple (route m b) app seen in
        let e = entry_of m seen t in
        let o = finds_plainly m app in
        let cell = stored_cell m.site (route m b) in
        let log = get_or logs (own_cell m.site (route m b)) [] in
        let image' = under m 0 s.map image in
        let l = gather_length 0 body s.bytes ∙ meets.1.0 in
        let bytes = below_gather 256 body s.bytes (omega arith) h.pages in
        let way = write_way m'.mode.dix b app seen l bytes meets.1.1 free escape in
        record {
          under = record {
            bytes = refl;
            blocks = ap (λ w. scatter (cell ∷ []) (map (λ frame. frame) (written_by (route m b) w [] log).written.blocks) image') way
                ∙ placed m b o [] log e cell image' (ap (m.site.cell (route m b).dev) (stored_same m' b protect m'.mode.dix m'.mode.dif m'.ty))
                ∙ sym (under_accepted m n image lies s.map o b.virt e h.size meets.0);
          };
          same = subst (λ w. Same (written_by (route m b) w [] log).answer (listed_by o)) (sym way) (told m b o [] log e);
          stands = record {
            size = size_kept o b.virt e s.map ∙ h.size;
            all = proper_kept o b.virt e s.map
                (λ none. proper_entry m seen t l bytes (record { guard = guard_below m'.mode.kind seen; app = meets.1.1; rtag = own_below (has_ref_tag (host_type m'.ty)) b.virt }) (expected_found app none) free) h.all;
            pages = h.pages;
          };
        }

    pi_step : (b : Block) (frame : List ℕ) (s : Plain) (logs : List (List (List ℕ))) (fates : List (Option Why)) →
        let step = WritesPi b frame in
        let c = cells_of s logs fates in
        Meets m n step → SuppliesNoEscape m step c → Stands m n s → Leads (plain_step m step s) (act (act_of m step) c) (tell (act_of m step) c) (plain_answer m step s)
    pi_step b frame s logs fates meets escape h =
        let seen = gather 0 frame s.bytes in
        let body = data_of m.size seen in
        let t = tuple_of m.size seen in
        let e = entry_of m body t in
        let o = finds_of_app m b body t in
        let cell = stored_cell m.site (route m b) in
        let log = get_or logs (own_cell m.site (route m b)) [] in
        let image' = under m 0 s.map image in
        let tuple = drop m.size frame in
        let back = tuple_after (route m b) (drop m.size seen) in
        let l = gather_length 0 frame s.bytes ∙ meets.1.0 in
        let bytes = below_gather 256 frame s.bytes (omega arith) h.pages in
        let way = pi_way m'.mode.dix b seen meets.1.1 l bytes free escape in
        record {
          under = record {
            bytes = ap (λ w. scatter tuple (written_by (route m b) w back log).written.bytes s.bytes) way ∙ ap (λ xs. scatter tuple xs s.bytes) (left m b o back log e);
            blocks = ap (λ w. scatter (cell ∷ []) (map (λ frame. frame) (written_by (route m b) w back log).written.blocks) image') way
                ∙ placed m b o back log e cell image' (ap (m.site.cell (route m b).dev) (stored_same m' b protect m'.mode.dix m'.mode.dif m'.ty))
                ∙ sym (under_accepted m n image lies s.map o b.virt e h.size meets.0);
          };
          same = subst (λ w. Same (written_by (route m b) w back log).answer (listed_by o)) (sym way) (told m b o back log e);
          stands = record {
            size = size_kept o b.virt e s.map ∙ h.size;
            all = proper_kept o b.virt e s.map
                (λ none. proper_entry m body t (length-take-le m.size seen (omega (arith, l))) (below_take 256 m.size seen bytes) (frame_small m.size seen l bytes) (is_right m b body t none).app free) h.all;
            pages = below_scatter 256 tuple back s.bytes (after_below b (drop m.size seen) (below_drop 256 m.size seen bytes)) h.pages;
          };
        }

    read_step : (b : Block) (owner : Owner) (to : List ℕ) (s : Plain) (logs : List (List (List ℕ))) (fates : List (Option Why)) →
        let step = Reads b owner to in
        let c = cells_of s logs fates in
        Meets m n step → Stands m n s → Leads (plain_step m step s) (act (act_of m step) c) (tell (act_of m step) c) (plain_answer m step s)
    read_step b owner to s logs fates within h =
        let e = get_or s.map b.virt no_entry in
        let size = h.size in
        let p = proper_at m s.map b.virt (omega (arith, within, size)) h.all in
        let image' = under m 0 s.map image in
        let count = length (get_or logs (own_cell m.site (route m b)) []) in
        let stored : get_or image' (fetched_cell m.site (route m b)) [] ≡ stored_as m (route m b).lba e =
        ap (λ a. get_or image' (m.site.cell (route m b).dev a) []) (read_same m' b protect m'.mode.dix m'.mode.dif m'.ty)
        ∙ under_at m n image lies 0 s.map b.virt b.virt (omega (arith, size)) (omega arith) (omega (arith, within, size)) in
        let way = ap (way_in [] (target []) (route m b) owner) stored ∙ comes_home m' b protect m'.mode.dix m'.mode.dif m'.ty owner e (loud m' m'.mode.dix m'.mode.dif m'.ty e p) free in
        record {
          under = record { bytes = ap (λ w. scatter to (read_by (route m b) owner w (length to) count).written.bytes s.bytes) way; blocks = refl };
          same = subst (λ w. Same (read_by (route m b) owner w (length to) count).answer silent) (sym way) (record { why = refl; shown = refl });
          stands = record { size = h.size; all = h.all; pages = below_scatter 256 to (handed m b e) s.bytes (handed_below b e p.bytes) h.pages };
        }

    plain_step_is : (step : Step) (s : Plain) (logs : List (List (List ℕ))) (fates : List (Option Why)) →
        let c = cells_of s logs fates in
        Meets m n step → SuppliesNoEscape m step c → Stands m n s → Leads (plain_step m step s) (act (act_of m step) c) (tell (act_of m step) c) (plain_answer m step s)
    plain_step_is (Sets at values) s logs fates meets escape h = record {
      under = record { bytes = refl; blocks = refl };
      same = record { why = refl; shown = refl };
      stands = record { size = h.size; all = h.all; pages = below_scatter 256 at values s.bytes meets h.pages };
    }
    plain_step_is (Shows at) s logs fates meets escape h = record { under = record { bytes = shows at s.bytes; blocks = refl }; same = record { why = refl; shown = refl }; stands = h }
      where
        shows : (at bytes : List ℕ) → scatter [] [] bytes ≡ bytes
        shows at bytes = refl
    plain_step_is (Seals body tuple app rtag) s logs fates meets escape h =
        let t : Tuple = record { guard = guard_of m.mode.kind (gather 0 body s.bytes); app = app; rtag = rtag } in
        record {
          under = record { bytes = refl; blocks = refl };
          same = record { why = refl; shown = refl };
          stands = record { size = h.size; all = h.all; pages = below_scatter 256 tuple (tuple_bytes t) s.bytes (tuple_below t) h.pages };
        }
    plain_step_is (Writes b app body) s logs fates meets escape h = write_step b app body s logs fates meets escape h
    plain_step_is (WritesPi b frame) s logs fates meets escape h = pi_step b frame s logs fates meets escape h
    plain_step_is (Reads b owner to) s logs fates meets escape h = read_step b owner to s logs fates meets h
    plain_step_is (Alters dev lba change) s logs fates meets escape h = absurd meets

    -- from any cells that are the plain ones
    same_cells : (s : Plain) (c : State) → IsUnder m s image c → c ≡ cells_of s c.logs c.fates
    same_cells s c u = λ i. record { bytes = u.bytes i; blocks = u.blocks i; logs = c.logs; fates = c.fates }

    one_step : (step : Step) (s : Plain) (c : State) → Meets m n step → SuppliesNoEscape m step c → Stands m n s → IsUnder m s image c →
        Leads (plain_step m step s) (act (act_of m step) c) (tell (act_of m step) c) (plain_answer m step s)
    one_step step s c meets escape h u =
        let e = same_cells s c u in
        subst (λ x. Leads (plain_step m step s) (act (act_of m step) x) (tell (act_of m step) x) (plain_answer m step s)) (sym e)
        (plain_step_is step s c.logs c.fates meets (subst (SuppliesNoEscape m step) e escape) h)

    pub record LeadAll (after : Plain) (now : State) (tells says : List ActAnswer) : Type 0 where
      pub under : IsUnder m after image now
      pub same : AllSame tells says
      pub stands : Stands m n after

    pub all_steps : (steps : List Step) (s : Plain) (c : State) → AllMeet m n steps → NoneEscapes m steps c → Stands m n s → IsUnder m s image c →
        LeadAll (plain (plain_step m) steps s) (plain act (map (act_of m) steps) c) (plain_tells act tell (map (act_of m) steps) c) (plain_tells (plain_step m) (plain_answer m) steps s)
    all_steps [] s c meets escape h u = record { under = u; same = tt; stands = h }
    all_steps (step ∷ steps) s c meets escape h u =
        let one = one_step step s c meets.0 escape.0 h u in
        let rest = all_steps steps (plain_step m step s) (act (act_of m step) c) meets.1 escape.1 one.stands one.under in
        record { under = rest.under; same = (one.same, rest.same); stands = rest.stands }

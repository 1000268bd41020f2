-- the lines before the volume
use Rattle.std.proofs.Common.{ℕ, ◌≡◌, ◌⊎◌, inl, inr, ◌^◌, ◌<◌, ◌||◌, Bool, true, false, not, eqb, List, [], ◌∷◌, ◌++◌, Some, None, refl, sym, ap, ◌∙◌, arith, append_assoc, append-nil}
use Rattle.std.specs.Prelude.{codes, decimal, if◌then◌else◌}
use Rattle.std.proofs.lemmas.Bool.{eqb-true}
use Rattle.script_text.specs.Passed.{Mode}
use Rattle.script_lines.specs.Passed.{Limits}
use Rattle.pi_guard.specs.declared.GuardKind.{GuardKind}
use Rattle.pi_guard.specs.declared.GuardKind.TheVariants.{Crc, Ip}
use Rattle.script_lines.specs.declared.kind.ScriptKind.TheVariants.{NoIntegrity}
use Rattle.script_lines.specs.declared.line.ScriptLine.TheVariants.{Mode as ModeLine, Limits as LimitsLine, Pages as PagesLine, Block as BlockLine, Expect as ExpectLine}
use Rattle.script_lines.specs.declared.verb.Verb.TheVariants.{Mode as ModeVerb, Limits as LimitsVerb, Pages as PagesVerb, Block as BlockVerb, Expect as ExpectVerb, Linear as LinearVerb}
use Rattle.script_lines.specs.declared.verb.ScriptVersion.{ScriptVersion}
use Rattle.script_lines.specs.declared.verb.ScriptVersion.TheVariants.{One, Two, Three}
use Rattle.script_lines.specs.declared.verb.Section.{Section}
use Rattle.script_lines.specs.declared.verb.Section.TheVariants.{Dix as AtDix, Mode as AtMode, Limits as AtLimits, Pages as AtPages, Block as AtBlock, Expect as AtExpect}
use Rattle.std.specs.List.{list_any}
use Rattle.script_lines.specs.Verbs.{is_new}
use Rattle.script_text.specs.Bindings.{is_third_line}
use Rattle.script_text.specs.Crossings.{is_third}
use Rattle.script_text.specs.Drafts.{Drafted}
use Rattle.script_text.specs.declared.script.Script.{Script}
use Rattle.script_text.specs.Language.{is_behind, nothing_read, taken}
use Rattle.script_text.specs.Printed.{block_text, expect_text, front_in, front_text, is_past_one, limits_text, mode_text, new_text, pages_text, version_for, version_text}
use Rattle.script_laws.specs.Clean.{IsWord}
use Rattle.script_laws.specs.Keeping.{AreLimits, IsMode, IsWithin}
use Rattle.script_laws.specs.Lines.{expect_words, guard_word, limits_words, mode_words, switch_word}
use Rattle.script_laws.proofs.Clean.{decimal_word}
use Rattle.script_laws.proofs.Forms.{block_back, expect_back, limits_back, mode_by, pages_back}
use Rattle.script_laws.proofs.Lined.{block_line, expect_line, limits_line, mode_line, pages_line}
use Rattle.script_laws.proofs.Steps.{Step, behind, from_text, joined, line_step, to_draft, verb_step}
use Rattle.script_laws.proofs.Words.{tag_word}

pub within_word : (low high n : ℕ) → high < 2 ^ 64 → IsWithin low high n → IsWord (decimal n)
within_word low high n s h = let m = h.high_is in decimal_word n (omega (arith, m, s))

guard_is_word : (kind : GuardKind) → IsWord (guard_word kind)
guard_is_word Crc = record { clean_is = refl; filled_is = refl }
guard_is_word Ip = record { clean_is = refl; filled_is = refl }

switch_is_word : (b : Bool) → IsWord (switch_word b)
switch_is_word true = record { clean_is = refl; filled_is = refl }
switch_is_word false = record { clean_is = refl; filled_is = refl }

abbrev at_dix : ScriptVersion → Drafted
at_dix version = record nothing_read { version = version; section = Some AtDix }

version_step : (b : ScriptVersion) (rest : List ℕ) → Step 1 (version_text b ++ rest) nothing_read 2 rest (at_dix b)
version_step One rest = line_step 1 (codes "dix" ∷ codes "1" ∷ []) rest nothing_read (at_dix One) (record { clean_is = refl; filled_is = refl }, (record { clean_is = refl; filled_is = refl }, tt)) refl
version_step Two rest = line_step 1 (codes "dix" ∷ codes "2" ∷ []) rest nothing_read (at_dix Two) (record { clean_is = refl; filled_is = refl }, (record { clean_is = refl; filled_is = refl }, tt)) refl
version_step Three rest = line_step 1 (codes "dix" ∷ codes "3" ∷ []) rest nothing_read (at_dix Three) (record { clean_is = refl; filled_is = refl }, (record { clean_is = refl; filled_is = refl }, tt)) refl

abbrev at_mode : ScriptVersion → Mode → Drafted
at_mode version m = record (at_dix version) { mode = record { kind = m.kind; dix = m.dix; dif = m.dif; protect = m.protect }; section = Some AtMode }

mode_step : (b : ScriptVersion) (m : Mode) (rest : List ℕ) → IsMode m → Step 2 (mode_text m ++ rest) (at_dix b) 3 rest (at_mode b m)
unfolding taken
mode_step b m rest h =
    from_text 2 (mode_text m ++ rest) _ (at_dix b) 3 rest (at_mode b m) (mode_line m rest)
    (line_step 2 (codes "mode" ∷ mode_words m) rest (at_dix b) (at_mode b m)
    (record { clean_is = refl; filled_is = refl }, (guard_is_word m.kind, (switch_is_word m.dix, (switch_is_word m.dif, (within_word 1 4 m.protect (omega arith) (let p = h.protect_is in p.range), tt)))))
    (verb_step 2 (codes "mode") (mode_words m) (at_dix b) ModeVerb AtDix (ModeLine (record { kind = m.kind; dix = m.dix; dif = m.dif; protect = m.protect }))
    (record (at_dix b) { mode = record { kind = m.kind; dix = m.dix; dif = m.dif; protect = m.protect } }) refl refl refl (behind b ModeVerb AtDix refl refl) (mode_by m.kind m.dix m.dif m.protect h.protect_is) refl refl))

abbrev at_limits : ScriptVersion → Mode → Limits → Drafted
at_limits version m l = record (at_mode version m) { limits = l; section = Some AtLimits }

limits_step : (b : ScriptVersion) (m : Mode) (l : Limits) (rest : List ℕ) → AreLimits l → Step 3 (limits_text l ++ rest) (at_mode b m) 4 rest (at_limits b m l)
unfolding taken
limits_step b m l rest h =
    from_text 3 (limits_text l ++ rest) _ (at_mode b m) 4 rest (at_limits b m l) (limits_line l rest)
    (line_step 3 (codes "limits" ∷ limits_words l) rest (at_mode b m) (at_limits b m l)
    (record { clean_is = refl; filled_is = refl }, (within_word 1 1024 l.max_blocks (omega arith) h.blocks, (within_word 4 1024 l.max_segs (omega arith) h.segs, (within_word 1 1024 l.max_pi_segs (omega arith) h.pi_segs, tt))))
    (verb_step 3 (codes "limits") (limits_words l) (at_mode b m) LimitsVerb AtMode (LimitsLine l) (record (at_mode b m) { limits = l }) refl refl refl (behind b LimitsVerb AtMode refl refl) (limits_back l h) refl refl))

abbrev at_pages : ScriptVersion → Mode → Limits → ℕ → Drafted
at_pages version m l n = record (at_limits version m l) { pages = n; section = Some AtPages }

pages_step : (b : ScriptVersion) (m : Mode) (l : Limits) (n : ℕ) (rest : List ℕ) → IsWithin 1 256 n → Step 4 (pages_text n ++ rest) (at_limits b m l) 5 rest (at_pages b m l n)
unfolding taken
pages_step b m l n rest h =
    from_text 4 (pages_text n ++ rest) _ (at_limits b m l) 5 rest (at_pages b m l n) (pages_line n rest)
    (line_step 4 (codes "pages" ∷ decimal n ∷ []) rest (at_limits b m l) (at_pages b m l n) (record { clean_is = refl; filled_is = refl }, (within_word 1 256 n (omega arith) h, tt))
    (verb_step 4 (codes "pages") (decimal n ∷ []) (at_limits b m l) PagesVerb AtLimits (PagesLine n) (record (at_limits b m l) { pages = n }) refl refl refl (behind b PagesVerb AtLimits refl refl) (pages_back n h) refl refl))

abbrev at_block : ScriptVersion → Mode → Limits → ℕ → ℕ → Drafted
at_block b m l n size = record (at_pages b m l n) { block = size; section = Some AtBlock }

block_word : (size : ℕ) → (size ≡ 512) ⊎ (size ≡ 4096) → IsWord (decimal size)
block_word size (inl e) = decimal_word size (omega (arith, e))
block_word size (inr e) = decimal_word size (omega (arith, e))

later_block : (b : ScriptVersion) → is_new b ≡ true → is_behind b BlockVerb (Some AtPages) ≡ true
later_block One e = absurd (cc)
later_block Two e = refl
later_block Three e = refl

later_expect : (b : ScriptVersion) → is_new b ≡ true → is_behind b ExpectVerb (Some AtBlock) ≡ true
later_expect One e = absurd (cc)
later_expect Two e = refl
later_expect Three e = refl

block_step : (b : ScriptVersion) (m : Mode) (l : Limits) (n size : ℕ) (rest : List ℕ) → (size ≡ 512) ⊎ (size ≡ 4096) → is_new b ≡ true → Step 5 (block_text size ++ rest) (at_pages b m l n) 6 rest (at_block b m l n size)
unfolding taken
block_step b m l n size rest h e =
    from_text 5 (block_text size ++ rest) _ (at_pages b m l n) 6 rest (at_block b m l n size) (block_line size rest)
    (line_step 5 (codes "block" ∷ decimal size ∷ []) rest (at_pages b m l n) (at_block b m l n size) (record { clean_is = refl; filled_is = refl }, (block_word size h, tt))
    (verb_step 5 (codes "block") (decimal size ∷ []) (at_pages b m l n) BlockVerb AtPages (BlockLine size) (record (at_pages b m l n) { block = size }) refl refl refl (later_block b e) (block_back size h) refl refl))

abbrev at_expect : ScriptVersion → Mode → Limits → ℕ → ℕ → Drafted
at_expect b m l n size = record (at_block b m l n size) { app = m.app; mask = m.mask; expect_line = 6; section = Some AtExpect }

expect_step : (b : ScriptVersion) (m : Mode) (l : Limits) (n size : ℕ) (rest : List ℕ) → IsMode m → eqb m.mask 0 ≡ false → is_new b ≡ true → Step 6 (expect_text m.app m.mask ++ rest) (at_block b m l n size) 7 rest (at_expect b m l n size)
unfolding taken
expect_step b m l n size rest h z e =
    from_text 6 (expect_text m.app m.mask ++ rest) _ (at_block b m l n size) 7 rest (at_expect b m l n size) (expect_line m.app m.mask rest)
    (line_step 6 (codes "expect" ∷ expect_words m.app m.mask) rest (at_block b m l n size) (at_expect b m l n size) (record { clean_is = refl; filled_is = refl }, (tag_word m.app, (tag_word m.mask, tt)))
    (verb_step 6 (codes "expect") (expect_words m.app m.mask) (at_block b m l n size) ExpectVerb AtBlock (ExpectLine m.app m.mask) (record (at_block b m l n size) { app = m.app; mask = m.mask; expect_line = 6 }) refl refl refl (later_expect b e)
    (expect_back m.app m.mask h.app_fits h.mask_fits z)
    (ap (λ b. if not b || not m.dif then Some NoIntegrity else None) (h.expects_dix z) ∙ ap (λ b. if not b then Some NoIntegrity else None) (h.expects_dif z)) refl))

-- what is read before the volume
abbrev pub fronted : Script → (expect : ℕ) → ScriptVersion → Section → Drafted
fronted s expect version section = record nothing_read {
  version = version;
  section = Some section;
  mode = record { kind = s.mode.kind; dix = s.mode.dix; dif = s.mode.dif; protect = s.mode.protect };
  app = s.mode.app;
  mask = s.mode.mask;
  expect_line = expect;
  limits = s.limits;
  pages = s.pages;
  block = s.block;
}

pub record Fronted (s : Script) (rest : List ℕ) : Type 0 where
  pub number : ℕ
  pub expect : ℕ
  pub version : ScriptVersion
  pub version_is : is_third version ≡ list_any is_third_line s.faults
  pub section : Section
  pub step : Step 1 (front_text s ++ rest) nothing_read number rest (fronted s expect version section)
  pub volume : is_behind version LinearVerb (Some section) ≡ true

first_front : (b : ScriptVersion) (s : Script) (rest : List ℕ) → IsMode s.mode → AreLimits s.limits → IsWithin 1 256 s.pages
    → Step 1 (version_text b ++ (mode_text s.mode ++ (limits_text s.limits ++ (pages_text s.pages ++ rest)))) nothing_read 5 rest (at_pages b s.mode s.limits s.pages)
first_front b s rest m l p =
    joined 1 (version_text b ++ (mode_text s.mode ++ (limits_text s.limits ++ (pages_text s.pages ++ rest)))) nothing_read 2 (mode_text s.mode ++ (limits_text s.limits ++ (pages_text s.pages ++ rest))) (at_dix b) 5 rest _ (version_step b (mode_text s.mode ++ (limits_text s.limits ++ (pages_text s.pages ++ rest))))
    (joined 2 (mode_text s.mode ++ (limits_text s.limits ++ (pages_text s.pages ++ rest))) (at_dix b) 3 (limits_text s.limits ++ (pages_text s.pages ++ rest)) (at_mode b s.mode) 5 rest _ (mode_step b s.mode (limits_text s.limits ++ (pages_text s.pages ++ rest)) m)
    (joined 3 (limits_text s.limits ++ (pages_text s.pages ++ rest)) (at_mode b s.mode) 4 (pages_text s.pages ++ rest) (at_limits b s.mode s.limits) 5 rest _ (limits_step b s.mode s.limits (pages_text s.pages ++ rest) l) (pages_step b s.mode s.limits s.pages rest p)))

pub regroup : (v m l p n rest : List ℕ) → (v ++ (m ++ (l ++ (p ++ n)))) ++ rest ≡ v ++ (m ++ (l ++ (p ++ (n ++ rest))))
regroup v m l p n rest = simp append_assoc

pub parts_false : (a b : Bool) → not a || not b ≡ false → (a ≡ true) × (b ≡ true)
parts_false true true h = (refl, refl)
parts_false true false h = absurd (cc)
parts_false false b h = absurd (cc)

third_by : (any past : Bool) → is_third (if any then Three else (if past then Two else One)) ≡ any
third_by true past = refl
third_by false true = refl
third_by false false = refl

third : (s : Script) (b : ScriptVersion) → version_for s.faults s.block s.mode.mask ≡ b → is_third b ≡ list_any is_third_line s.faults
third s b v = sym (ap is_third v) ∙ third_by (list_any is_third_line s.faults) (is_past_one s.block s.mode.mask)

-- a script of version 1 says nothing that only a later one can
one_says : (keeps past : Bool) → (if keeps then Three else (if past then Two else One)) ≡ One → past ≡ false
one_says true past e = absurd (cc)
one_says false true e = absurd (cc)
one_says false false e = refl

by_mask : (z : Bool) (b : ScriptVersion) (s : Script) (rest : List ℕ) → eqb s.mode.mask 0 ≡ z → IsMode s.mode → AreLimits s.limits → IsWithin 1 256 s.pages → (s.block ≡ 512) ⊎ (s.block ≡ 4096) → version_for s.faults s.block s.mode.mask ≡ b → is_new b ≡ true → Fronted s rest
by_mask true b s rest z m l p k v later =
    let none = eqb-true s.mode.mask 0 z in
    let app = m.unmasked none in
    let text : front_text s ++ rest ≡ version_text b ++ (mode_text s.mode ++ (limits_text s.limits ++ (pages_text s.pages ++ (block_text s.block ++ rest)))) =
    ap (λ x. front_in x s ++ rest) v
    ∙ ap (λ t. (version_text b ++ (mode_text s.mode ++ (limits_text s.limits ++ (pages_text s.pages ++ (if t then new_text s.block s.mode.app s.mode.mask else []))))) ++ rest) later
    ∙ ap (λ t. (version_text b ++ (mode_text s.mode ++ (limits_text s.limits ++ (pages_text s.pages ++ (block_text s.block ++ (if t then [] else expect_text s.mode.app s.mode.mask)))))) ++ rest) z
    ∙ regroup (version_text b) (mode_text s.mode) (limits_text s.limits) (pages_text s.pages) (block_text s.block ++ []) rest
    ∙ ap (λ x. version_text b ++ (mode_text s.mode ++ (limits_text s.limits ++ (pages_text s.pages ++ (x ++ rest))))) (append-nil (block_text s.block)) in
    record {
      number = 6;
      expect = 0;
      version = b;
      version_is = third s b v;
      section = AtBlock;
      step =
          from_text 1 (front_text s ++ rest) (version_text b ++ (mode_text s.mode ++ (limits_text s.limits ++ (pages_text s.pages ++ (block_text s.block ++ rest))))) nothing_read 6 rest _ text
          (joined 1 (version_text b ++ (mode_text s.mode ++ (limits_text s.limits ++ (pages_text s.pages ++ (block_text s.block ++ rest))))) nothing_read 5 (block_text s.block ++ rest) (at_pages b s.mode s.limits s.pages) 6 rest _ (first_front b s (block_text s.block ++ rest) m l p)
          (to_draft 5 (block_text s.block ++ rest) (at_pages b s.mode s.limits s.pages) 6 rest (at_block b s.mode s.limits s.pages s.block) _
          (ap (λ a. record (at_block b s.mode s.limits s.pages s.block) { app = a }) (sym app) ∙ ap (λ a. record (at_block b s.mode s.limits s.pages s.block) { app = s.mode.app; mask = a }) (sym none))
          (block_step b s.mode s.limits s.pages s.block rest k later)));
      volume = behind b LinearVerb AtBlock refl refl;
    }
by_mask false b s rest z m l p k v later =
    let text : front_text s ++ rest ≡ version_text b ++ (mode_text s.mode ++ (limits_text s.limits ++ (pages_text s.pages ++ (block_text s.block ++ (expect_text s.mode.app s.mode.mask ++ rest))))) =
    ap (λ x. front_in x s ++ rest) v
    ∙ ap (λ t. (version_text b ++ (mode_text s.mode ++ (limits_text s.limits ++ (pages_text s.pages ++ (if t then new_text s.block s.mode.app s.mode.mask else []))))) ++ rest) later
    ∙ ap (λ t. (version_text b ++ (mode_text s.mode ++ (limits_text s.limits ++ (pages_text s.pages ++ (block_text s.block ++ (if t then [] else expect_text s.mode.app s.mode.mask)))))) ++ rest) z
    ∙ regroup (version_text b) (mode_text s.mode) (limits_text s.limits) (pages_text s.pages) (block_text s.block ++ expect_text s.mode.app s.mode.mask) rest
    ∙ ap (λ x. version_text b ++ (mode_text s.mode ++ (limits_text s.limits ++ (pages_text s.pages ++ x)))) (append_assoc (block_text s.block) (expect_text s.mode.app s.mode.mask) rest) in
    record {
      number = 7;
      expect = 6;
      version = b;
      version_is = third s b v;
      section = AtExpect;
      step =
          from_text 1 (front_text s ++ rest) (version_text b ++ (mode_text s.mode ++ (limits_text s.limits ++ (pages_text s.pages ++ (block_text s.block ++ (expect_text s.mode.app s.mode.mask ++ rest)))))) nothing_read 7 rest _ text
          (joined 1 (version_text b ++ (mode_text s.mode ++ (limits_text s.limits ++ (pages_text s.pages ++ (block_text s.block ++ (expect_text s.mode.app s.mode.mask ++ rest)))))) nothing_read 5 (block_text s.block ++ (expect_text s.mode.app s.mode.mask ++ rest)) (at_pages b s.mode s.limits s.pages) 7 rest _ (first_front b s (block_text s.block ++ (expect_text s.mode.app s.mode.mask ++ rest)) m l p)
          (joined 5 (block_text s.block ++ (expect_text s.mode.app s.mode.mask ++ rest)) (at_pages b s.mode s.limits s.pages) 6 (expect_text s.mode.app s.mode.mask ++ rest) (at_block b s.mode s.limits s.pages s.block) 7 rest _ (block_step b s.mode s.limits s.pages s.block (expect_text s.mode.app s.mode.mask ++ rest) k later)
          (expect_step b s.mode s.limits s.pages s.block rest m z later)));
      volume = behind b LinearVerb AtExpect refl refl;
    }

by_version : (v : ScriptVersion) (s : Script) (rest : List ℕ) → version_for s.faults s.block s.mode.mask ≡ v → IsMode s.mode → AreLimits s.limits → IsWithin 1 256 s.pages → (s.block ≡ 512) ⊎ (s.block ≡ 4096) → Fronted s rest
by_version Three s rest v m l p k = by_mask (eqb s.mode.mask 0) Three s rest refl m l p k v refl
by_version Two s rest v m l p k = by_mask (eqb s.mode.mask 0) Two s rest refl m l p k v refl
by_version One s rest v m l p k =
    let old = parts_false (eqb s.block 512) (eqb s.mode.mask 0) (one_says (list_any is_third_line s.faults) (is_past_one s.block s.mode.mask) v) in
    let size = eqb-true s.block 512 old.0 in
    let none = eqb-true s.mode.mask 0 old.1 in
    let app = m.unmasked none in
    let text : front_text s ++ rest ≡ version_text One ++ (mode_text s.mode ++ (limits_text s.limits ++ (pages_text s.pages ++ rest))) =
    ap (λ x. front_in x s ++ rest) v
    ∙ regroup (version_text One) (mode_text s.mode) (limits_text s.limits) (pages_text s.pages) [] rest in
    record {
      number = 5;
      expect = 0;
      version = One;
      version_is = third s One v;
      section = AtPages;
      step =
          from_text 1 (front_text s ++ rest) (version_text One ++ (mode_text s.mode ++ (limits_text s.limits ++ (pages_text s.pages ++ rest)))) nothing_read 5 rest _ text
          (to_draft 1 (version_text One ++ (mode_text s.mode ++ (limits_text s.limits ++ (pages_text s.pages ++ rest)))) nothing_read 5 rest (at_pages One s.mode s.limits s.pages) _
          (ap (λ a. record (at_pages One s.mode s.limits s.pages) { app = a }) (sym app) ∙ ap (λ a. record (at_pages One s.mode s.limits s.pages) { app = s.mode.app; mask = a }) (sym none)
          ∙ ap (λ a. record (at_pages One s.mode s.limits s.pages) { app = s.mode.app; mask = s.mode.mask; block = a }) (sym size))
          (first_front One s rest m l p));
      volume = refl;
    }

pub front_stage : (s : Script) (rest : List ℕ) → IsMode s.mode → AreLimits s.limits → IsWithin 1 256 s.pages → (s.block ≡ 512) ⊎ (s.block ≡ 4096) → Fronted s rest
front_stage s rest m l p k = by_version (version_for s.faults s.block s.mode.mask) s rest refl m l p k

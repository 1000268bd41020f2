-- Requests on a leg where store calls may fail: what their replies and steps are made of, and what they come to.
use Rattle.std.proofs.Common.{◌≡◌, ◌<◌, ◌≤◌, ◌⊎◌, ℕ, zero, suc, ◌+◌, ◌*◌, Bool, false, ◌||◌, List, [], ◌∷◌, ◌++◌, length, map, get_or, replicate, take, drop, Option, Some, None, ap, ◌∙◌, arith}
use Rattle.std.specs.Prelude.{Ok}
use Rattle.std.specs.List.{list_any}
use Rattle.std.proofs.lemmas.List.{length-map, length-replicate, take_all}
use Rattle.bio_core.specs.declared.fate.Why.{Why}
use Rattle.bio_core.specs.declared.fate.Why.TheVariants.{Medium}
use Rattle.rig_api.specs.declared.units.UnitSpec.{UnitSpec}
use Rattle.block_path.specs.Acts.{State, act, tell}
use Rattle.block_path.specs.Blocks.{ActAnswer}
use Rattle.block_path.specs.Moves.{hidden}
use Rattle.block_path.specs.Serial.{plain_tells}
use Rattle.block_path.proofs.PathLaws.{long_tells}
use Rattle.stack_ops.specs.declared.op.Op.{Op}
use Rattle.stack_ops.specs.declared.reply.Reply.{Reply}
use Rattle.stack_ops.specs.declared.reply.Reply.TheVariants.{Silent}
use Rattle.stack_ops.specs.Ops.{is_overwrite}
use Rattle.walk_laws.specs.Past.{Brought, steps_from}
use Rattle.walk_laws.specs.ScriptWalk.{bad_from, walk_from, whole_or_bad}
use Rattle.walk_laws.specs.Settings.{Block, Setting, route}
use Rattle.walk_laws.specs.Steps.{Step, each_from}
use Rattle.walk_laws.specs.UnderMap.{home}
use Rattle.walk_laws.proofs.InSteps.{each_length}
use Rattle.run_laws.specs.FallingReads.{falling_replies}
use Rattle.run_laws.specs.StoreFaults.{falling_walk, may_fall}
use Rattle.script_text.specs.declared.script.Script.{Script}
use Rattle.script_stack.specs.Followed.{opening_of}
use Rattle.mirror_laws.specs.OnLegs.{why_of}
use Rattle.mirror_laws.specs.Repair.{reading, writing}
use Rattle.mirror_volume.specs.Inner.{puts}
use Rattle.mirror_volume.proofs.Falling.{IsOther, whys}

-- ---- behind the puts

pub no-overwrite : (page pages : ℕ) (bytes : List ℕ) (op : Op) → is_overwrite op ≡ false → list_any is_overwrite (puts page pages bytes ++ (op ∷ [])) ≡ false
no-overwrite page zero bytes op h = ap (λ (c : Bool). c || false) h
no-overwrite page (suc q) bytes op h = no-overwrite (suc page) q (drop 4096 bytes) op h

module _ (m : Setting) (falls : Block → Option (List ℕ)) where
  pub fall-puts : (i page pages : ℕ) (bytes : List ℕ) (ops : List Op) (s : State)
      → falling_walk m falls (steps_from m i (puts page pages bytes ++ ops)) s ≡ falling_walk m falls (steps_from m (i + pages) ops) (walk_from m i (puts page pages bytes) s)
  fall-puts i page zero bytes ops s = let e : i ≡ i + 0 = omega arith in ap (λ j. falling_walk m falls (steps_from m j ops) s) e
  fall-puts i page (suc q) bytes ops s =
      let e : suc i + q ≡ i + suc q = omega arith in
      fall-puts (suc i) (suc page) q (drop 4096 bytes) ops _ ∙ ap (λ j. falling_walk m falls (steps_from m j ops) (walk_from m i (puts page (suc q) bytes) s)) e

  pub say-puts : (i page pages : ℕ) (bytes : List ℕ) (ops : List Op) (s : State)
      → falling_replies m falls i (puts page pages bytes ++ ops) s ≡ replicate pages Silent ++ falling_replies m falls (i + pages) ops (walk_from m i (puts page pages bytes) s)
  say-puts i page zero bytes ops s = let e : i ≡ i + 0 = omega arith in ap (λ j. falling_replies m falls j ops s) e
  say-puts i page (suc q) bytes ops s =
      let e : suc i + q ≡ i + suc q = omega arith in
      ap (λ t. Silent ∷ t) (say-puts (suc i) (suc page) q (drop 4096 bytes) ops _ ∙ ap (λ j. replicate q Silent ++ falling_replies m falls j ops (walk_from m i (puts page (suc q) bytes) s)) e)

-- all that a script of so many pages opens with is its own
pub all-own : (s : Script) (units : List UnitSpec) (blocks : List (List ℕ)) → hidden (4096 * s.pages) (opening_of s units blocks) ≡ opening_of s units blocks
all-own s units blocks =
    let l = length-replicate {A = ℕ} (4096 * s.pages) 0 in
    ap (λ (bytes : List ℕ). record (opening_of s units blocks) { bytes = bytes }) (take_all (4096 * s.pages) (replicate {A = ℕ} (4096 * s.pages) 0) (omega (arith, l)))

pub whys-count : (own : Setting) (falls : Block → Option (List ℕ)) (f : ℕ → Step) (n : ℕ) (s : State) → length (whys own falls f n s) ≡ n
whys-count own falls f n s =
    let acts = map (may_fall own falls) (each_from 0 n f) in
    length-map (plain_tells act tell acts s) (λ (a : ActAnswer). a.why) ∙ long_tells acts s ∙ length-map (each_from 0 n f) (may_fall own falls) ∙ each_length 0 n f

-- ---- what a request comes to

-- What a write of these blocks leaves, each with its data, by what is found of each: their cells before and after it.
pub record WroteEach (m : Setting) (n : ℕ) (b : ℕ → Block) (x : ℕ → Brought) (old new : List (List ℕ)) (found : List (Option Why)) : Type 0 where
  pub stores : (k : ℕ) → k < n → get_or found k None ≡ None → (stored : List ℕ) × ((writing m (b k) (x k) ≡ Ok stored) × (get_or new (home m (b k).virt) [] ≡ m.site.device.leaves (route m (b k)) (get_or old (home m (b k).virt) []) stored))
  pub may : (k : ℕ) → k < n → (stored : List ℕ) → writing m (b k) (x k) ≡ Ok stored → (get_or found k None ≡ None) ⊎ (get_or found k None ≡ Some Medium)
  pub stays : (k : ℕ) → k < n → (w : Why) → get_or found k None ≡ Some w → IsOther w → get_or new (home m (b k).virt) [] ≡ get_or old (home m (b k).virt) []
  pub elsewhere : (c : ℕ) → ((k : ℕ) → k < n → home m (b k).virt ≡ c → ⊥) → get_or new c [] ≡ get_or old c []
  pub count : length found ≡ n

-- What a read of these blocks gives: what is found of each, and what stands in its pages.
pub record ReadEach (m : Setting) (size n : ℕ) (b : ℕ → Block) (blocks : List (List ℕ)) (pages : List ℕ) (found : List (Option Why)) : Type 0 where
  pub either : (k : ℕ) → k < n → (get_or found k None ≡ Some Medium) ⊎ (get_or found k None ≡ why_of (reading m (b k) blocks))
  pub zeros : (k : ℕ) → k < n → (w : Why) → get_or found k None ≡ Some w → take size (drop (k * size) pages) ≡ replicate size 0
  pub lands : (k : ℕ) → k < n → get_or found k None ≡ None → (frame : List ℕ) → reading m (b k) blocks ≡ Ok frame → size ≤ length frame → take size (drop (k * size) pages) ≡ take size frame
  pub count : length found ≡ n
  pub long : n * size ≤ length pages

-- And a read with tuples: what the mirror would be handed of a block isn't listed, unless it is for the medium.
pub record LooksEach (m : Setting) (n : ℕ) (b : ℕ → Block) (blocks : List (List ℕ)) (found : List (Option Why)) : Type 0 where
  pub each : (k : ℕ) → k < n → (frame : List ℕ) → reading m (b k) blocks ≡ Ok frame → (get_or found k None ≡ Some Medium) ⊎ (get_or found k None ≡ None)
  pub count : length found ≡ n

-- The replies behind so many silent ones list what is found.
abbrev pub Says : (silent : ℕ) → (replies : List Reply) → (found : List (Option Why)) → Type 0
Says silent replies found = replies ≡ replicate silent Silent ++ (whole_or_bad (bad_from 0 found) ∷ [])

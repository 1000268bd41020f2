-- Steps one after another, whatever their acts: what a reply lists, and what a read leaves in the pages.
use Rattle.std.proofs.Common.{◌≡◌, ◌<◌, ◌≤◌, ℕ, zero, suc, ◌+◌, ◌-◌, true, false, eqb, if◌then◌else◌, List, [], ◌∷◌, ◌++◌, length, map, get_or, set, Option, Some, None, refl, sym, ap, ◌∙◌, arith}
use Rattle.std.proofs.lemmas.Bool.{eq-eqb, ne_eqb}
use Rattle.std.proofs.lemmas.List.{append_assoc, length-set}
use Rattle.page_pool.specs.declared.segs.Seg.{Seg}
use Rattle.page_pool.specs.Cells.{gather, scatter, share_a_cell}
use Rattle.block_path.specs.Passed.{Owner, Block as OfBlock, App as OfApp}
use Rattle.stack_ops.specs.Passed.{Why}
use Rattle.stack_ops.specs.declared.op.Op.{Op}
use Rattle.stack_ops.specs.declared.reply.BadBlock.{BadBlock}
use Rattle.block_path.specs.Acts.{Act, State, act, effect, tell}
use Rattle.block_path.specs.Blocks.{ActAnswer, silent}
use Rattle.block_path.specs.Serial.{plain, plain_tells}
use Rattle.block_path.proofs.Cells.{gather_past}
use Rattle.block_path.proofs.InTurn.{plain_append}
use Rattle.walk_laws.specs.Past.{steps_from}
use Rattle.walk_laws.specs.ScriptWalk.{bad_from, reply_of, request_reply, whole_or_bad}
use Rattle.walk_laws.specs.Settings.{Setting, block_of}
use Rattle.walk_laws.specs.Steps.{Reads, Step, each_from, steps_of}
use Rattle.walk_laws.specs.ReadsAs.{landing, listed_among, listed_in, read_op}

-- what is listed of a block is what its act answers
off_head : (j k : ℕ) (why : Why) (bad : List BadBlock) → k < j → listed_among (record { k = j; why = why } ∷ bad) k ≡ listed_among bad k
off_head j k why bad l =
    let e : eqb j k ≡ false = ne_eqb j k (λ e. omega (arith, l, e)) in
    ap (λ t. if t then Some why else listed_among bad k) e

none_before : (j k : ℕ) (whys : List (Option Why)) → k < j → listed_among (bad_from j whys) k ≡ None
none_before j k [] l = refl
none_before j k (None ∷ whys) l = none_before (suc j) k whys (omega (arith, l))
none_before j k (Some why ∷ whys) l = off_head j k why (bad_from (suc j) whys) l ∙ none_before (suc j) k whys (omega (arith, l))

beyond_head : (j i : ℕ) (why : Why) (bad : List BadBlock) → j < i → listed_among (record { k = j; why = why } ∷ bad) i ≡ listed_among bad i
beyond_head j i why bad l =
    let e : eqb j i ≡ false = ne_eqb j i (λ e. omega (arith, l, e)) in
    ap (λ t. if t then Some why else listed_among bad i) e

at_head : (j : ℕ) (why : Why) (bad : List BadBlock) → listed_among (record { k = j; why = why } ∷ bad) j ≡ Some why
at_head j why bad = let e : eqb j j ≡ true = eq-eqb j j refl in ap (λ t. if t then Some why else listed_among bad j) e

why_listed : (j k i : ℕ) (answers : List ActAnswer) → i ≡ j + k → listed_among (bad_from j (map (λ a. a.why) answers)) i ≡ (get_or answers k silent).why
why_listed j k i [] e = refl
why_listed j zero i (a ∷ answers) e =
    let q : i ≡ j = omega (arith, e) in
    ap (λ i. listed_among (bad_from j (map (λ a. a.why) (a ∷ answers))) i) q ∙ by a.why
  where
    by : (why : Option Why) → listed_among (bad_from j (why ∷ map (λ a. a.why) answers)) j ≡ why
    by None = none_before (suc j) j (map (λ a. a.why) answers) (omega arith)
    by (Some why) = at_head j why (bad_from (suc j) (map (λ a. a.why) answers))
why_listed j (suc k) i (a ∷ answers) e = by a.why ∙ why_listed (suc j) k i answers (omega (arith, e)) where
  by : (why : Option Why) → listed_among (bad_from j (why ∷ map (λ a. a.why) answers)) i ≡ listed_among (bad_from (suc j) (map (λ a. a.why) answers)) i
  by None = refl
  by (Some why) = beyond_head j i why (bad_from (suc j) (map (λ a. a.why) answers)) (omega (arith, e))

pub listed_blocks : (bad : List BadBlock) (k : ℕ) → listed_in (whole_or_bad bad) k ≡ listed_among bad k
listed_blocks [] k = refl
listed_blocks (x ∷ bad) k = refl

pub is_listed : (answers : List ActAnswer) (k : ℕ) → listed_in (request_reply answers) k ≡ (get_or answers k silent).why
is_listed answers k = listed_blocks (bad_from 0 (map (λ a. a.why) answers)) k ∙ why_listed 0 k k answers (omega arith)

-- block k among n
pub each_split : {X : Type 0} (j k n i : ℕ) (f : ℕ → X) → k < n → i ≡ j + k → each_from j n f ≡ each_from j k f ++ (f i ∷ each_from (suc i) (n - suc k) f)
each_split j k zero i f l e = absurd (omega (arith, l))
each_split j zero (suc n) i f l e =
    let p : j ≡ i = omega (arith, e) in let q : n ≡ suc n - 1 = omega arith in
    ap (λ j. f j ∷ each_from (suc j) n f) p ∙ ap (λ n. f i ∷ each_from (suc i) n f) q
each_split j (suc k) (suc n) i f l e =
    let q : n - suc k ≡ suc n - suc (suc k) = omega arith in
    ap (λ rest. f j ∷ rest) (each_split (suc j) k n i f (omega (arith, l)) (omega (arith, e)) ∙ ap (λ r. each_from (suc j) k f ++ (f i ∷ each_from (suc i) r f)) q)

pub each_length : {X : Type 0} (j n : ℕ) (f : ℕ → X) → length (each_from j n f) ≡ n
each_length j zero f = refl
each_length j (suc n) f = ap suc (each_length (suc j) n f)

pub scatter_length : {X : Type 0} (at : List ℕ) (values cells : List X) → length (scatter at values cells) ≡ length cells
scatter_length [] values cells = refl
scatter_length (i ∷ at) [] cells = refl
scatter_length (i ∷ at) (v ∷ values) cells = scatter_length at values (set cells i v) ∙ length-set cells i v

pub steps_split : (m : Setting) (i : ℕ) (before : List Op) (op : Op) (after : List Op) → steps_from m i (before ++ (op ∷ after)) ≡ steps_from m i before ++ (steps_of m (i + length before) op ++ steps_from m (suc (i + length before)) after)
steps_split m i [] op after = let e : i ≡ i + 0 = omega arith in ap (λ i. steps_of m i op ++ steps_from m (suc i) after) e
steps_split m i (first ∷ before) op after =
    let e : suc i + length before ≡ i + suc (length before) = omega arith in
    ap (λ xs. steps_of m i first ++ xs) (steps_split m (suc i) before op after ∙ ap (λ j. steps_from m (suc i) before ++ (steps_of m j op ++ steps_from m (suc j) after)) e)
    ∙ sym (append_assoc (steps_of m i first) (steps_from m (suc i) before) (steps_of m (i + suc (length before)) op ++ steps_from m (suc (i + suc (length before))) after))

-- what each step does is given
module _ (a : Step → Act ActAnswer) where
  abbrev pub stepped : List Step → State → State
  stepped steps s = plain (λ step s. act (a step) s) steps s

  pub stepped_append : (xs ys : List Step) (s : State) → stepped (xs ++ ys) s ≡ stepped ys (stepped xs s)
  stepped_append xs ys s = plain_append (λ step s. act (a step) s) xs ys s

  pub acts_stepped : (steps : List Step) (s : State) → plain act (map a steps) s ≡ stepped steps s
  acts_stepped [] s = refl
  acts_stepped (x ∷ xs) s = acts_stepped xs (act (a x) s)

  pub tells_at : (xs : List Step) (y : Step) (ys : List Step) (s : State) (k : ℕ) → length xs ≡ k → get_or (plain_tells act tell (map a (xs ++ (y ∷ ys))) s) k silent ≡ tell (a y) (stepped xs s)
  tells_at [] y ys s zero e = refl
  tells_at [] y ys s (suc k) e = absurd (omega (arith, e))
  tells_at (x ∷ xs) y ys s zero e = absurd (omega (arith, e))
  tells_at (x ∷ xs) y ys s (suc k) e = tells_at xs y ys (act (a x) s) k (omega (arith, e))

  -- the pages keep their size
  pub same_pages : (steps : List Step) (s : State) → length (stepped steps s).bytes ≡ length s.bytes
  same_pages [] s = refl
  same_pages (step ∷ steps) s =
      same_pages steps (act (a step) s) ∙ scatter_length (a step).bytes.writes (effect (a step) s).written.bytes s.bytes

  -- blocks that land elsewhere
  pub later_blocks : (f : ℕ → Step) (lands : ℕ → List ℕ) → ((j : ℕ) → (a (f j)).bytes.writes ≡ lands j) → (at : List ℕ) (j n : ℕ) (s : State) → ((l : ℕ) → j ≤ l → l < j + n → share_a_cell at (lands l) ≡ false) →
      gather 0 at (stepped (each_from j n f) s).bytes ≡ gather 0 at s.bytes
  later_blocks f lands there at j zero s h = refl
  later_blocks f lands there at j (suc n) s h =
      later_blocks f lands there at (suc j) n (act (a (f j)) s) (λ l k g. h l (omega (arith, k)) (omega (arith, g)))
      ∙ ap (λ cells. gather 0 at (scatter cells (effect (a (f j)) s).written.bytes s.bytes)) (there j)
      ∙ gather_past 0 at (lands j) (effect (a (f j)) s).written.bytes s.bytes (h j (omega arith) (omega arith))

  -- block k of n among the answers of a request
  pub block_says : (f : ℕ → Step) (k n : ℕ) (s : State) → k < n → listed_in (request_reply (plain_tells act tell (map a (each_from 0 n f)) s)) k ≡ (tell (a (f k)) (stepped (each_from 0 k f) s)).why
  block_says f k n s l =
      is_listed (plain_tells act tell (map a (each_from 0 n f)) s) k
      ∙ ap (λ steps. (get_or (plain_tells act tell (map a steps) s) k silent).why) (each_split 0 k n k f l (omega arith))
      ∙ ap (λ (x : ActAnswer). x.why) (tells_at (each_from 0 k f) (f k) (each_from (suc k) (n - suc k) f) s k (each_length 0 k f))

pub read_steps : (m : Setting) (i v n : ℕ) (owner : Owner) (body tuples : List Seg) → steps_of m i (read_op owner v n body tuples) ≡ each_from 0 n (λ k. Reads (block_of i v k) owner (landing m.size owner body tuples k))
read_steps m i v n OfBlock body tuples = refl
read_steps m i v n OfApp body tuples = refl

pub read_reply : (fails : _) (v n : ℕ) (owner : Owner) (body tuples : List Seg) (answers : List ActAnswer) → reply_of fails (read_op owner v n body tuples) answers ≡ request_reply answers
read_reply fails v n OfBlock body tuples answers = refl
read_reply fails v n OfApp body tuples answers = refl

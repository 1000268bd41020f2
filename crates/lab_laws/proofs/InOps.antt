-- The walk with a flip beside the walk without, op by op.
use Rattle.std.proofs.Common.{◌≡◌, ◌≢◌, ◌<◌, ◌≤◌, ℕ, zero, suc, ◌+◌, ◌%◌, ◌^◌, List, [], ◌∷◌, ◌++◌, length, ◌⊎◌, inl, inr, refl, sym, ap, subst, ◌∙◌, arith}
use Rattle.pi_tuple.specs.declared.checks.Check.{Check}
use Rattle.fault_schedule.specs.declared.fault.Crossing.{Crossing}
use Rattle.fault_schedule.specs.declared.fault.Crossing.TheVariants.{TargetToMedium}
use Rattle.bio_core.specs.declared.fate.Why.{Why}
use Rattle.bio_core.specs.declared.fate.Why.TheVariants.{Target}
use Rattle.integrity_payload.specs.declared.payload.Owner.TheVariants.{Block as OfBlock, App as OfApp}
use Rattle.page_pool.specs.declared.segs.Seg.{Seg}
use Rattle.stack_ops.specs.declared.op.Op.{Op}
use Rattle.stack_ops.specs.declared.op.Op.TheVariants.{Fetch, FetchPi, Fill, Overwrite, Put, Seal, Show, Wait, Write, WritePi}
use Rattle.stack_ops.specs.declared.reply.BadBlock.{BadBlock}
use Rattle.stack_ops.specs.declared.reply.Reply.{Reply}
use Rattle.stack_ops.specs.declared.reply.Reply.TheVariants.{Bad, Medium, Shown, Silent, Whole as AllWhole}
use Rattle.volume_table.specs.Places.{volume_len}
use Rattle.block_path.specs.Acts.{State, act}
use Rattle.block_path.specs.Blocks.{ActAnswer}
use Rattle.block_path.specs.Serial.{plain}
use Rattle.walk_laws.specs.CalmRun.{LiesInImage}
use Rattle.walk_laws.specs.ScriptWalk.{acts_of, bad_from, replies_from, reply_of, request_reply, walk_from, whole_or_bad}
use Rattle.walk_laws.specs.Settings.{Setting, block_of}
use Rattle.walk_laws.specs.Steps.{Reads, Seals, Step, Writes, WritesPi, body_of, each_from, frame_at, steps_of, tuple_of}
use Rattle.walk_laws.specs.UnderMap.{NoEscape, NoneEscapes}
use Rattle.lab_laws.proofs.Flipped.{Whole}
use Rattle.lab_laws.proofs.Marked.{IsBad}
use Rattle.lab_laws.proofs.OneLine.{m0, m1}
use Rattle.lab_laws.proofs.Bad.{BeginsWith}
use Rattle.lab_laws.proofs.Beside.{AllFit, AllOther, AllPages, Ends, EndsSome, IsListed, IsOther, Marks, MayBeListed, Off, SameSteps, Stands, all_alike, ends_off, first_bad, first_or_same, left, mark_off, pages_off, stands_on, tells, whys}

-- the blocks that a reply lists
abbrev pub lists : Reply → List BadBlock
lists Silent = []
lists AllWhole = []
lists (Bad blocks) = blocks
lists (Shown bytes) = []
lists Medium = []

abbrev pub AllQuiet : List Reply → Type 0
AllQuiet [] = Unit {0}
AllQuiet (r ∷ rs) = (lists r ≡ []) × AllQuiet rs

pub lists_bad : (bad : List BadBlock) → lists (whole_or_bad bad) ≡ bad
lists_bad [] = refl
lists_bad (x ∷ bad) = refl

-- Behind so many replies that are the same there is one whose first bad block is this one.
abbrev pub FoundAt : (k : ℕ) → Why → (behind : ℕ) → (was now : List Reply) → Type 0
FoundAt k w behind [] now = ⊥
FoundAt k w behind (r ∷ was) [] = ⊥
FoundAt k w zero (r ∷ was) (r' ∷ now) = BeginsWith k w (lists r')
FoundAt k w (suc behind) (r ∷ was) (r' ∷ now) = (r' ≡ r) × FoundAt k w behind was now

-- an op that is a request: its steps and its reply
pub record IsRequest (m : Setting) (i : ℕ) (o : Op) (n : ℕ) (f : ℕ → Step) : Type 0 where
  pub steps : steps_of m i o ≡ each_from 0 n f
  pub reply : (answers : List ActAnswer) → reply_of (m.fails i) o answers ≡ request_reply answers

module _ (m' : Setting) (even : m'.size % 2 ≡ 0) (image : List (List ℕ)) (lies : LiesInImage (m0 m' TargetToMedium 0 0 0 0) (volume_len m'.entries) image) (at : Crossing) (op k off byte : ℕ) (check : Check) where
  abbrev was : Setting
  was = m0 m' at op k off byte

  abbrev now : Setting
  now = m1 m' at op k off byte

  abbrev n : ℕ
  n = m'.size

  abbrev count : ℕ
  count = volume_len m'.entries

  abbrev Stood : State → Type 0
  Stood s = Stands m' even image lies at op k off byte check s

  abbrev StepsFit : List Step → Type 0
  StepsFit steps = AllFit m' even image lies at op k off byte check steps

  abbrev StepsOther : List Step → Type 0
  StepsOther steps = AllOther m' even image lies at op k off byte check steps

  abbrev StepOther : Step → Type 0
  StepOther step = IsOther m' even image lies at op k off byte check step

  abbrev pub OpsFit : (i : ℕ) → List Op → Type 0
  OpsFit i [] = Unit {0}
  OpsFit i (o ∷ ops) = StepsFit (steps_of was i o) × OpsFit (suc i) ops

  abbrev reply_in : Setting → (i : ℕ) → Op → State → Reply
  reply_in m i o s = reply_of (m.fails i) o (tells m' even image lies at op k off byte check m (steps_of m i o) s)

  abbrev pub after_op : Setting → (i : ℕ) → Op → State → State
  after_op m i o s = plain act (acts_of m i o) s

  -- ---- ops of other blocks

  each_other : (f : ℕ → Step) → ((i : ℕ) → StepOther (f i)) → (j c : ℕ) → StepsOther (each_from j c f)
  each_other f h j zero = tt
  each_other f h j (suc c) = (h j, each_other f h (suc j) c)

  op_other : (i : ℕ) (o : Op) → i ≢ op → StepsFit (steps_of was i o) → StepsOther (steps_of was i o)
  op_other i (Fill seg value) d fit = (tt, tt)
  op_other i (Put page to bytes) d fit = (tt, tt)
  op_other i (Show seg) d fit = (tt, tt)
  op_other i (Seal c body tuples app rtag) d fit = each_other (λ k. Seals (body_of n body k) (tuple_of tuples k) app ((rtag + k) % 2 ^ 32)) (λ j. tt) 0 c
  op_other i (Write v c body app) d fit = each_other (λ k. Writes (block_of i v k) app (body_of n body k)) (λ j e g. d e) 0 c
  op_other i (Fetch v c body) d fit = each_other (λ k. Reads (block_of i v k) OfBlock (body_of n body k)) (λ j e g. d e) 0 c
  op_other i (WritePi v c body tuples) d fit = each_other (λ k. WritesPi (block_of i v k) (frame_at n body tuples k)) (λ j e g. d e) 0 c
  op_other i (FetchPi v c body tuples) d fit = each_other (λ k. Reads (block_of i v k) OfApp (frame_at n body tuples k)) (λ j e g. d e) 0 c
  op_other i (Overwrite dev lba change) d fit = absurd fit.0
  op_other i Wait d fit = tt

  -- an op of other blocks replies the same, and leaves the same
  pub record SameOp (i : ℕ) (o : Op) (s : State) : Type 0 where
    pub reply : reply_in now i o s ≡ reply_in was i o s
    pub does : after_op now i o s ≡ after_op was i o s

  same_op : (i : ℕ) (o : Op) (s : State) → i ≢ op → StepsFit (steps_of was i o) → SameOp i o s
  same_op i o s d fit =
      let a = all_alike m' even image lies at op k off byte check (steps_of was i o) s (op_other i o d fit) in
      record { reply = ap (reply_of (was.fails i) o) a.answers; does = a.does }

  -- what a request lists
  request_lists : (m : Setting) (i : ℕ) (o : Op) (c : ℕ) (f : ℕ → Step) (s : State) → IsRequest m i o c f → lists (reply_in m i o s) ≡ bad_from 0 (whys m' even image lies at op k off byte check m (steps_of m i o) s)
  request_lists m i o c f s r =
      ap lists (r.reply (tells m' even image lies at op k off byte check m (steps_of m i o) s)) ∙ lists_bad (bad_from 0 (whys m' even image lies at op k off byte check m (steps_of m i o) s))

  -- ---- an op whose block is listed

  pub record Lists (w : Why) (i : ℕ) (o : Op) : Type 0 where
    pub blocks : ℕ
    pub f : ℕ → Step
    pub request : IsRequest was i o blocks f
    pub enough : k < blocks
    pub others : (j : ℕ) → j ≢ k → StepOther (f j)
    pub marked : IsListed m' even image lies at op k off byte check (f k) w

  begins_there : (w : Why) (i : ℕ) (o : Op) (s : State) → Lists w i o → StepsFit (steps_of was i o) → NoneEscapes was (steps_of was i o) s → Stood s → lists (reply_in was i o s) ≡ [] → BeginsWith k w (lists (reply_in now i o s))
  begins_there w i o s r fit e h q =
      let c = r.blocks in
      let enough = r.enough in
      let quiet = sym (request_lists was i o c r.f s r.request) ∙ q in
      let found = subst (λ steps. StepsFit steps → NoneEscapes was steps s → bad_from 0 (whys m' even image lies at op k off byte check was steps s) ≡ [] → BeginsWith k w (bad_from 0 (whys m' even image lies at op k off byte check now steps s))) (sym r.request.steps)
      (λ fit e q. first_bad m' even image lies at op k off byte check r.f w r.others r.marked 0 c s (omega arith) (omega arith) fit e h q) fit e quiet in
      subst (BeginsWith k w) (sym (request_lists now i o c r.f s (record { steps = r.request.steps; reply = r.request.reply }))) found

  pub found_ops : (w : Why) (before after : List Op) (o : Op) → ((i : ℕ) → i ≡ op → Lists w i o) → (i : ℕ) (s : State) → i + length before ≡ op → OpsFit i (before ++ (o ∷ after)) → NoEscape was i (before ++ (o ∷ after)) s → Stood s →
      AllQuiet (replies_from was i (before ++ (o ∷ after)) s) → FoundAt k w (length before) (replies_from was i (before ++ (o ∷ after)) s) (replies_from now i (before ++ (o ∷ after)) s)
  found_ops w [] after o r i s l fit e h q = begins_there w i o s (r i (omega (arith, l))) fit.0 e.0 h q.0
  found_ops w (first ∷ before) after o r i s l fit e h q =
      let a = same_op i first s (λ z. omega (arith, z, l)) fit.0 in
      let next = after_op was i first s in
      let rest = found_ops w before after o r (suc i) next (omega (arith, l)) fit.1 e.1 (stands_on m' even image lies at op k off byte check (steps_of was i first) s fit.0 e.0 h) q.1 in
      (a.reply, subst (λ t. FoundAt k w (length before) (replies_from was (suc i) (before ++ (o ∷ after)) next) (replies_from now (suc i) (before ++ (o ∷ after)) t)) (sym a.does) rest)

  none_begins : (j : ℕ) (w : Why) (bad : List BadBlock) → bad ≡ [] → BeginsWith j w bad → ⊥
  none_begins j w bad e h = differ (sym e ∙ h.is)
    where
      differ : [] ≡ record { k = j; why = w } ∷ h.more → ⊥
      differ e = cc

  -- no block is listed before the flipped block's op
  pub not_before : (j : ℕ) (w : Why) (before after : List Op) (i : ℕ) (s : State) (d : ℕ) → i + length before ≡ op → OpsFit i (before ++ after) → AllQuiet (replies_from was i (before ++ after) s) →
      FoundAt j w d (replies_from was i (before ++ after) s) (replies_from now i (before ++ after) s) → length before ≤ d
  not_before j w [] after i s d l fit q f = omega arith
  not_before j w (first ∷ before) after i s zero l fit q f =
      let a = same_op i first s (λ z. omega (arith, z, l)) fit.0 in absurd (none_begins j w (lists (reply_in now i first s)) (ap lists a.reply ∙ q.0) f)
  not_before j w (first ∷ before) after i s (suc d) l fit q f =
      let a = same_op i first s (λ z. omega (arith, z, l)) fit.0 in
      let next = after_op was i first s in
      let rest = not_before j w before after (suc i) next d (omega (arith, l)) fit.1 q.1 (subst (λ t. FoundAt j w d (replies_from was (suc i) (before ++ after) next) (replies_from now (suc i) (before ++ after) t)) a.does f.1) in
      omega (arith, rest)

  -- ---- an op whose block is listed, or that is done alike

  pub record MayList (w : Why) (i : ℕ) (o : Op) : Type 0 where
    pub blocks : ℕ
    pub f : ℕ → Step
    pub request : IsRequest was i o blocks f
    pub enough : k < blocks
    pub others : (j : ℕ) → j ≢ k → StepOther (f j)
    pub marked : MayBeListed m' even image lies at op k off byte check (f k) w

  either_there : (w : Why) (i : ℕ) (o : Op) (s : State) → MayList w i o → StepsFit (steps_of was i o) → NoneEscapes was (steps_of was i o) s → Stood s → lists (reply_in was i o s) ≡ [] → BeginsWith k w (lists (reply_in now i o s)) ⊎ SameOp i o s
  either_there w i o s r fit e h q =
      by (subst (λ steps. StepsFit steps → NoneEscapes was steps s → bad_from 0 (whys m' even image lies at op k off byte check was steps s) ≡ [] →
      BeginsWith k w (bad_from 0 (whys m' even image lies at op k off byte check now steps s)) ⊎ SameSteps m' even image lies at op k off byte check steps s) (sym r.request.steps)
      (λ fit e q. first_or_same m' even image lies at op k off byte check r.f w r.others r.marked 0 r.blocks s (omega arith) (let l = r.enough in omega (arith, l)) fit e h q) fit e (sym (request_lists was i o r.blocks r.f s r.request) ∙ q))
    where
      by : BeginsWith k w (bad_from 0 (whys m' even image lies at op k off byte check now (steps_of was i o) s)) ⊎ SameSteps m' even image lies at op k off byte check (steps_of was i o) s → BeginsWith k w (lists (reply_in now i o s)) ⊎ SameOp i o s
      by (inl found) = inl (subst (BeginsWith k w) (sym (request_lists now i o r.blocks r.f s (record { steps = r.request.steps; reply = r.request.reply }))) found)
      by (inr a) = inr (record { reply = ap (reply_of (was.fails i) o) a.answers; does = a.does })

  -- all replies are the same, and all that is left
  pub record SameRun (i : ℕ) (ops : List Op) (s : State) : Type 0 where
    pub replies : replies_from now i ops s ≡ replies_from was i ops s
    pub does : walk_from now i ops s ≡ walk_from was i ops s

  same_then : (i : ℕ) (o : Op) (ops : List Op) (s : State) → SameOp i o s → SameRun (suc i) ops (after_op was i o s) → SameRun i (o ∷ ops) s
  same_then i o ops s a r = record {
    replies =
        ap (λ x. x ∷ replies_from now (suc i) ops (after_op now i o s)) a.reply
        ∙ ap (λ t. reply_in was i o s ∷ replies_from now (suc i) ops t) a.does
        ∙ ap (λ rs. reply_in was i o s ∷ rs) r.replies;
    does = ap (walk_from now (suc i) ops) a.does ∙ r.does;
  }

  rest_same : (i : ℕ) (ops : List Op) (s : State) → op < i → OpsFit i ops → SameRun i ops s
  rest_same i [] s l fit = record { replies = refl; does = refl }
  rest_same i (o ∷ ops) s l fit = same_then i o ops s (same_op i o s (λ z. omega (arith, z, l)) fit.0) (rest_same (suc i) ops (after_op was i o s) (omega arith) fit.1)

  pub either_ops : (w : Why) (before after : List Op) (o : Op) → ((i : ℕ) → i ≡ op → MayList w i o) → (i : ℕ) (s : State) → i + length before ≡ op → OpsFit i (before ++ (o ∷ after)) → NoEscape was i (before ++ (o ∷ after)) s → Stood s →
      AllQuiet (replies_from was i (before ++ (o ∷ after)) s) →
      FoundAt k w (length before) (replies_from was i (before ++ (o ∷ after)) s) (replies_from now i (before ++ (o ∷ after)) s) ⊎ SameRun i (before ++ (o ∷ after)) s
  either_ops w [] after o r i s l fit e h q = by (either_there w i o s (r i (omega (arith, l))) fit.0 e.0 h q.0)
    where
      by : BeginsWith k w (lists (reply_in now i o s)) ⊎ SameOp i o s → FoundAt k w 0 (replies_from was i (o ∷ after) s) (replies_from now i (o ∷ after) s) ⊎ SameRun i (o ∷ after) s
      by (inl found) = inl found
      by (inr a) = inr (same_then i o after s a (rest_same (suc i) after (after_op was i o s) (omega (arith, l)) fit.1))
  either_ops w (first ∷ before) after o r i s l fit e h q =
      by (either_ops w before after o r (suc i) (after_op was i first s) (omega (arith, l)) fit.1 e.1 (stands_on m' even image lies at op k off byte check (steps_of was i first) s fit.0 e.0 h) q.1)
    where
      a : SameOp i first s
      a = same_op i first s (λ z. omega (arith, z, l)) fit.0

      by : FoundAt k w (length before) (replies_from was (suc i) (before ++ (o ∷ after)) (after_op was i first s)) (replies_from now (suc i) (before ++ (o ∷ after)) (after_op was i first s)) ⊎ SameRun (suc i) (before ++ (o ∷ after)) (after_op was i first s) →
          FoundAt k w (suc (length before)) (replies_from was i (first ∷ (before ++ (o ∷ after))) s) (replies_from now i (first ∷ (before ++ (o ∷ after))) s) ⊎ SameRun i (first ∷ (before ++ (o ∷ after))) s
      by (inl found) = inl (a.reply, subst (λ t. FoundAt k w (length before) (replies_from was (suc i) (before ++ (o ∷ after)) (after_op was i first s)) (replies_from now (suc i) (before ++ (o ∷ after)) t)) (sym a.does) found)
      by (inr r) = inr (same_then i first (before ++ (o ∷ after)) s a r)

  -- ---- ops behind an altered block

  module _ (virt : ℕ) (within : virt < count) (y : List ℕ) (whole : Whole n y) (bad : IsBad m' even virt check y) where
    abbrev pub AreOff : State → State → Type 0
    AreOff s t = Off m' even image lies at op k off byte check virt within y whole bad s t

    abbrev pub OpEnds : (i : ℕ) → Op → State → State → Type 0
    OpEnds i o s t = ((j : ℕ) × BeginsWith j (Target check) (lists (reply_in now i o t))) ⊎ ((reply_in now i o t ≡ reply_in was i o s) × AreOff (after_op was i o s) (after_op now i o t))

    by_pages : (i : ℕ) (o : Op) (s t : State) → AllPages m' even image lies at op k off byte check virt within y whole bad (steps_of was i o) → AreOff s t → OpEnds i o s t
    by_pages i o s t p both =
        let r = pages_off m' even image lies at op k off byte check virt within y whole bad (steps_of was i o) s t p both in
        inr (ap (reply_of (was.fails i) o) r.0, r.1)

    pub by_ends : (i : ℕ) (o : Op) (c : ℕ) (f : ℕ → Step) (s t : State) → IsRequest was i o c f → Ends m' even image lies at op k off byte check virt within y whole bad 0 (steps_of was i o) s t → OpEnds i o s t
    by_ends i o c f s t r (inl found) = inl (found.0, subst (BeginsWith found.0 (Target check)) (sym (request_lists now i o c f t (record { steps = r.steps; reply = r.reply }))) found.1)
    by_ends i o c f s t r (inr same) = inr (ap (reply_of (was.fails i) o) same.0, same.1)

    request_ends : (i : ℕ) (o : Op) (c : ℕ) (f : ℕ → Step) (s t : State) → IsRequest was i o c f → i ≢ op → StepsFit (steps_of was i o) → NoneEscapes was (steps_of was i o) s → Stood s → AreOff s t → lists (reply_in was i o s) ≡ [] → OpEnds i o s t
    request_ends i o c f s t r d fit e h both q =
        by_ends i o c f s t r (ends_off m' even image lies at op k off byte check virt within y whole bad 0 (steps_of was i o) s t (op_other i o d fit) fit e h both (sym (request_lists was i o c f s r) ∙ q))

    seals_pages : (c j size app rtag : ℕ) (body tuples : List Seg) → AllPages m' even image lies at op k off byte check virt within y whole bad (each_from j c (λ k. Seals (body_of size body k) (tuple_of tuples k) app ((rtag + k) % 2 ^ 32)))
    seals_pages zero j size app rtag body tuples = tt
    seals_pages (suc c) j size app rtag body tuples = seals_pages c (suc j) size app rtag body tuples

    op_ends : (i : ℕ) (o : Op) (s t : State) → i ≢ op → StepsFit (steps_of was i o) → NoneEscapes was (steps_of was i o) s → Stood s → AreOff s t → lists (reply_in was i o s) ≡ [] → OpEnds i o s t
    op_ends i (Fill seg value) s t d fit e h both q = by_pages i (Fill seg value) s t tt both
    op_ends i (Put page to bytes) s t d fit e h both q = by_pages i (Put page to bytes) s t tt both
    op_ends i (Show seg) s t d fit e h both q = by_pages i (Show seg) s t tt both
    op_ends i (Seal c body tuples app rtag) s t d fit e h both q = by_pages i (Seal c body tuples app rtag) s t (seals_pages c 0 n app rtag body tuples) both
    op_ends i (Write v c body app) s t d fit e h both q =
        request_ends i (Write v c body app) c (λ k. Writes (block_of i v k) app (body_of n body k)) s t (record { steps = refl; reply = λ answers. refl }) d fit e h both q
    op_ends i (Fetch v c body) s t d fit e h both q =
        request_ends i (Fetch v c body) c (λ k. Reads (block_of i v k) OfBlock (body_of n body k)) s t (record { steps = refl; reply = λ answers. refl }) d fit e h both q
    op_ends i (WritePi v c body tuples) s t d fit e h both q =
        request_ends i (WritePi v c body tuples) c (λ k. WritesPi (block_of i v k) (frame_at n body tuples k)) s t (record { steps = refl; reply = λ answers. refl }) d fit e h both q
    op_ends i (FetchPi v c body tuples) s t d fit e h both q =
        request_ends i (FetchPi v c body tuples) c (λ k. Reads (block_of i v k) OfApp (frame_at n body tuples k)) s t (record { steps = refl; reply = λ answers. refl }) d fit e h both q
    op_ends i (Overwrite dev lba change) s t d fit e h both q = absurd fit.0
    op_ends i Wait s t d fit e h both q = by_pages i Wait s t tt both

    -- what ops come to: the target finds the first block that is listed, by its guard; or all replies are the same
    abbrev pub Later : (i : ℕ) → List Op → State → State → Type 0
    Later i ops s t =
        ((behind : ℕ) × (j : ℕ) × FoundAt j (Target check) behind (replies_from was i ops s) (replies_from now i ops t))
        ⊎ ((replies_from now i ops t ≡ replies_from was i ops s) × AreOff (walk_from was i ops s) (walk_from now i ops t))

    pub later_on : (i : ℕ) (o : Op) (ops : List Op) (s t : State) → reply_in now i o t ≡ reply_in was i o s → Later (suc i) ops (after_op was i o s) (after_op now i o t) → Later i (o ∷ ops) s t
    later_on i o ops s t e (inl found) = inl (suc found.0, found.1, (e, found.2))
    later_on i o ops s t e (inr same) =
        let rest = replies_from now (suc i) ops (after_op now i o t) in
        inr (ap (λ r. r ∷ rest) e ∙ ap (λ rs. reply_in was i o s ∷ rs) same.0, same.1)

    pub rest_ops : (i : ℕ) (ops : List Op) (s t : State) → op < i → OpsFit i ops → NoEscape was i ops s → Stood s → AreOff s t → AllQuiet (replies_from was i ops s) → Later i ops s t
    rest_ops i [] s t l fit e h both q = inr (refl, both)
    rest_ops i (o ∷ ops) s t l fit e h both q =
        by (λ both. rest_ops (suc i) ops (after_op was i o s) (after_op now i o t) (omega arith) fit.1 e.1 (stands_on m' even image lies at op k off byte check (steps_of was i o) s fit.0 e.0 h) both q.1)
        (op_ends i o s t (λ z. omega (arith, z, l)) fit.0 e.0 h both q.0)
      where
        by : (AreOff (after_op was i o s) (after_op now i o t) → Later (suc i) ops (after_op was i o s) (after_op now i o t)) → OpEnds i o s t → Later i (o ∷ ops) s t
        by next (inl found) = inl (0, found.0, found.1)
        by next (inr same) = later_on i o ops s t same.0 (next same.1)

  -- ---- an op whose block is altered on the medium

  pub record Alters (virt : ℕ) (within : virt < count) (i : ℕ) (o : Op) : Type 0 where
    pub blocks : ℕ
    pub f : ℕ → Step
    pub request : IsRequest was i o blocks f
    pub enough : k < blocks
    pub others : (j : ℕ) → j ≢ k → StepOther (f j)
    pub marked : Marks m' even image lies at op k off byte check virt within (f k)

  pub record LaterSome (virt : ℕ) (within : virt < count) (i : ℕ) (ops : List Op) (s : State) : Type 0 where
    pub y : List ℕ
    pub whole : Whole n y
    pub bad : IsBad m' even virt check y
    pub later : Later virt within y whole bad i ops s s

  altered_there : (virt : ℕ) (within : virt < count) (i : ℕ) (o : Op) (s : State) → Alters virt within i o → StepsFit (steps_of was i o) → NoneEscapes was (steps_of was i o) s → Stood s → lists (reply_in was i o s) ≡ [] →
      EndsSome m' even image lies at op k off byte check virt within 0 (steps_of was i o) s s
  altered_there virt within i o s r fit e h q =
      let c = r.blocks in
      let enough = r.enough in
      let quiet = sym (request_lists was i o c r.f s r.request) ∙ q in
      subst (λ steps. StepsFit steps → NoneEscapes was steps s → bad_from 0 (whys m' even image lies at op k off byte check was steps s) ≡ [] → EndsSome m' even image lies at op k off byte check virt within 0 steps s s) (sym r.request.steps)
      (λ fit e q. mark_off m' even image lies at op k off byte check virt within r.f r.others r.marked 0 c s (omega arith) (omega arith) fit e h q) fit e quiet

  altered_here : (virt : ℕ) (within : virt < count) (i : ℕ) (o : Op) (after : List Op) (s : State) → Alters virt within i o → i ≡ op → OpsFit i (o ∷ after) → NoEscape was i (o ∷ after) s → Stood s → AllQuiet (replies_from was i (o ∷ after) s) →
      LaterSome virt within i (o ∷ after) s
  altered_here virt within i o after s r here fit e h q =
      let a = altered_there virt within i o s r fit.0 e.0 h q.0 in
      record { y = a.y; whole = a.whole; bad = a.bad; later = by a.y a.whole a.bad (by_ends virt within a.y a.whole a.bad i o r.blocks r.f s s r.request a.ends) }
    where
      by : (y : List ℕ) (whole : Whole n y) (bad : IsBad m' even virt check y) → OpEnds virt within y whole bad i o s s → Later virt within y whole bad i (o ∷ after) s s
      by y whole bad (inl found) = inl (0, found.0, found.1)
      by y whole bad (inr same) =
          later_on virt within y whole bad i o after s s same.0
          (rest_ops virt within y whole bad (suc i) after (after_op was i o s) (after_op now i o s) (omega (arith, here)) fit.1 e.1 (stands_on m' even image lies at op k off byte check (steps_of was i o) s fit.0 e.0 h) same.1 q.1)

  pub altered_ops : (virt : ℕ) (within : virt < count) (before after : List Op) (o : Op) → ((i : ℕ) → i ≡ op → Alters virt within i o) → (i : ℕ) (s : State) → i + length before ≡ op → OpsFit i (before ++ (o ∷ after)) → NoEscape was i (before ++ (o ∷ after)) s → Stood s →
      AllQuiet (replies_from was i (before ++ (o ∷ after)) s) → LaterSome virt within i (before ++ (o ∷ after)) s
  altered_ops virt within [] after o r i s l fit e h q = altered_here virt within i o after s (r i (omega (arith, l))) (omega (arith, l)) fit e h q
  altered_ops virt within (first ∷ before) after o r i s l fit e h q =
      let a = same_op i first s (λ z. omega (arith, z, l)) fit.0 in
      let next = after_op was i first s in
      let rest = altered_ops virt within before after o r (suc i) next (omega (arith, l)) fit.1 e.1 (stands_on m' even image lies at op k off byte check (steps_of was i first) s fit.0 e.0 h) q.1 in
      record {
        y = rest.y;
        whole = rest.whole;
        bad = rest.bad;
        later = later_on virt within rest.y rest.whole rest.bad i first (before ++ (o ∷ after)) s s a.reply (subst (λ t. Later virt within rest.y rest.whole rest.bad (suc i) (before ++ (o ∷ after)) next t) (sym a.does) rest.later);
      }

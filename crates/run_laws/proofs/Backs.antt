-- A walk over what stands on record backs its replies.
use Rattle.std.proofs.Common.{◌≡◌, ◌+◌, ◌%◌, ◌^◌, ℕ, zero, suc, Bool, List, [], ◌∷◌, ◌++◌, map, get_or, Option, Some, None, refl, sym, ap, subst, ◌∙◌, arith, inl, inr}
use Rattle.std.specs.Prelude.{◌⊎◌, IfSome}
use Rattle.std.specs.List.{AllByRecursion as Each}
use Rattle.integrity_payload.specs.declared.payload.Owner.TheVariants.{Block as OfBlock, App as OfApp}
use Rattle.walk_laws.specs.Passed.{Op, Fetch, FetchPi, Fill, Overwrite, Put, Seal, Show, Wait, Write, WritePi, Reply, Silent, Act, State, act, tell, ActAnswer, AskedBlock, Sent, silent, plain, plain_tells}
use Rattle.walk_laws.proofs.Passed.{plain_append}
use Rattle.walk_laws.specs.ScriptWalk.{act_of, acts_from, acts_of, bad_from, replies_from, reply_of, request_reply, script_replies, shown_reply, whole_or_bad}
use Rattle.walk_laws.specs.Settings.{Setting, block_of}
use Rattle.walk_laws.specs.Steps.{Reads, Seals, Step, Writes, WritesPi, body_of, each_from, frame_at, steps_of, tuple_of}
use Rattle.walk_laws.proofs.AnyOrder.{acts_walk}
use Rattle.walk_laws.specs.ReadsAs.{listed_in}
use Rattle.walk_laws.proofs.InSteps.{is_listed}
use Rattle.run_laws.specs.BackedRun.{Belongs, HasEnd, HasEntry, IsBacked, IsFound, IsInTurn, IsListedAs, OfRead, OfRequest, Owns, PassesIn}
use Rattle.run_laws.specs.Records.{Mixed, put_sent, sents}
use Rattle.run_laws.specs.TakenWalk.{taken_act, taken_acts, taken_from, taken_replies, taken_reply}
use Rattle.run_laws.specs.ToldRun.{IsRecordOfRun, told}
use Rattle.run_laws.proofs.Labelled.{Filed, Proper, each_first, each_other, filed_in, script_lined, tells_append}
use Rattle.run_laws.proofs.Mirrors.{Fine, Mirror, SaysOf, mirrored}

-- answers side by side
record Twin (m : Setting) (es : List Sent) (x t : ActAnswer) : Type 0 where
  of : t.of ≡ x.of
  why : t.why ≡ x.why
  shown : t.shown ≡ x.shown
  fine : Fine m es t

abbrev Twins : Setting → List Sent → List ActAnswer → List ActAnswer → Type 0
Twins m es [] ts = ts ≡ []
Twins m es (x ∷ xs) [] = ⊥
Twins m es (x ∷ xs) (t ∷ ts) = Twin m es x t × Twins m es xs ts

abbrev Says : Reply → List Step → List ActAnswer → Type 0
Says reply [] answers = Unit {0}
Says reply (step ∷ steps) [] = Unit {0}
Says reply (step ∷ steps) (a ∷ answers) = SaysOf reply step a × Says reply steps answers

says_each : (reply : Reply) (f : ℕ → Step) → ((k : ℕ) (a : ActAnswer) → listed_in reply k ≡ a.why → SaysOf reply (f k) a) → (j n : ℕ) (answers : List ActAnswer) →
    ((i k : ℕ) → k ≡ j + i → listed_in reply k ≡ (get_or answers i silent).why) → Says reply (each_from j n f) answers
says_each reply f g j zero answers h = tt
says_each reply f g j (suc n) [] h = tt
says_each reply f g j (suc n) (a ∷ answers) h = (g j a (h 0 j (omega arith)), says_each reply f g (suc j) n answers (λ i k e. h (suc i) k (omega (arith, e))))

quiet_each : (reply : Reply) (f : ℕ → Step) → ((k : ℕ) (a : ActAnswer) → SaysOf reply (f k) a) → (j n : ℕ) (answers : List ActAnswer) → Says reply (each_from j n f) answers
quiet_each reply f g j n answers = by j n answers where
  by : (j n : ℕ) (answers : List ActAnswer) → Says reply (each_from j n f) answers
  by j zero answers = tt
  by j (suc n) [] = tt
  by j (suc n) (a ∷ answers) = (g j a, by (suc j) n answers)

listed_at : (answers : List ActAnswer) (i k : ℕ) → k ≡ 0 + i → listed_in (request_reply answers) k ≡ (get_or answers i silent).why
listed_at answers i k e = let same : k ≡ i = omega (arith, e) in ap (listed_in (request_reply answers)) same ∙ is_listed answers i

module _ (m : Setting) (es : List Sent) where
  abbrev over : Setting
  over = told m es

  says_op : (fails : Bool) (i : ℕ) (op : Op) (answers : List ActAnswer) → Says (reply_of fails op answers) (steps_of m i op) answers
  says_op fails i (Fill seg byte) [] = tt
  says_op fails i (Fill seg byte) (a ∷ answers) = (tt, tt)
  says_op fails i (Put page off values) [] = tt
  says_op fails i (Put page off values) (a ∷ answers) = (tt, tt)
  says_op fails i (Show seg) [] = tt
  says_op fails i (Show seg) (a ∷ answers) = (tt, tt)
  says_op fails i (Seal n body tuples app rtag) answers = quiet_each Silent (λ k. Seals (body_of m.size body k) (tuple_of tuples k) app ((rtag + k) % 2 ^ 32)) (λ k a. tt) 0 n answers
  says_op fails i (Write v n body app) answers = says_each (request_reply answers) (λ k. Writes (block_of i v k) app (body_of m.size body k)) (λ k a e. e) 0 n answers (listed_at answers)
  says_op fails i (Fetch v n body) answers = says_each (request_reply answers) (λ k. Reads (block_of i v k) OfBlock (body_of m.size body k)) (λ k a e. e) 0 n answers (listed_at answers)
  says_op fails i (WritePi v n body tuples) answers = says_each (request_reply answers) (λ k. WritesPi (block_of i v k) (frame_at m.size body tuples k)) (λ k a e. e) 0 n answers (listed_at answers)
  says_op fails i (FetchPi v n body tuples) answers = says_each (request_reply answers) (λ k. Reads (block_of i v k) OfApp (frame_at m.size body tuples k)) (λ k a e. e) 0 n answers (listed_at answers)
  says_op fails i (Overwrite dev lba change) [] = tt
  says_op fails i (Overwrite dev lba change) (a ∷ answers) = (tt, tt)
  says_op fails i Wait answers = tt

  record Lists (one other : List (Act ActAnswer)) (s : State) : Type 0 where
    state : plain act other s ≡ plain act one s
    twins : Twins m es (plain_tells act tell one s) (plain_tells act tell other s)

  first_and_rest : (a b : Act ActAnswer) (one other : List (Act ActAnswer)) (s : State) → Mirror m es a b s → Lists one other (act a s) → Lists (a ∷ one) (b ∷ other) s
  first_and_rest a b one other s h rest = record {
    state = ap (plain act other) h.state ∙ rest.state;
    twins = (record { of = h.of; why = h.why; shown = h.shown; fine = h.fine }, subst (λ z. Twins m es (plain_tells act tell one (act a s)) (plain_tells act tell other z)) (sym h.state) rest.twins);
  }

  lists_mirrored : (reply : Reply) (steps : List Step) (s : State) → Each (Filed es) (plain_tells act tell (map (act_of over) steps) s) → Says reply steps (plain_tells act tell (map (act_of over) steps) s) →
      Lists (map (act_of over) steps) (map (taken_act m es reply) steps) s
  lists_mirrored reply [] s filed says = record { state = refl; twins = refl }
  lists_mirrored reply (step ∷ steps) s filed says =
      first_and_rest (act_of over step) (taken_act m es reply step) (map (act_of over) steps) (map (taken_act m es reply) steps) s
      (mirrored m es reply step s filed.0 says.0) (lists_mirrored reply steps (act (act_of over step) s) filed.1 says.1)

  pub steps_same : (i : ℕ) (op : Op) → steps_of m i op ≡ steps_of over i op
  steps_same i (Fill seg byte) = refl
  steps_same i (Put page off values) = refl
  steps_same i (Show seg) = refl
  steps_same i (Seal n body tuples app rtag) = refl
  steps_same i (Write v n body app) = refl
  steps_same i (Fetch v n body) = refl
  steps_same i (WritePi v n body tuples) = refl
  steps_same i (FetchPi v n body tuples) = refl
  steps_same i (Overwrite dev lba change) = refl
  steps_same i Wait = refl

  whys_same : (xs ts : List ActAnswer) → Twins m es xs ts → map (λ a. a.why) ts ≡ map (λ a. a.why) xs
  whys_same [] ts h = ap (map (λ a. a.why)) h
  whys_same (x ∷ xs) [] h = absurd h
  whys_same (x ∷ xs) (t ∷ ts) h = ap (λ rest. t.why ∷ rest) (whys_same xs ts h.1) ∙ ap (λ w. w ∷ map (λ a. a.why) xs) h.0.why

  request_same : (xs ts : List ActAnswer) → Twins m es xs ts → request_reply ts ≡ request_reply xs
  request_same xs ts h = ap (λ whys. whole_or_bad (bad_from 0 whys)) (whys_same xs ts h)

  shown_same : (xs ts : List ActAnswer) → Twins m es xs ts → shown_reply ts ≡ shown_reply xs
  shown_same [] ts h = ap shown_reply h
  shown_same (x ∷ xs) [] h = absurd h
  shown_same (x ∷ xs) (t ∷ ts) h = ap (λ bytes. shown_reply (record silent { shown = bytes } ∷ [])) h.0.shown

  reply_same : (fails : Bool) (op : Op) (xs ts : List ActAnswer) → Twins m es xs ts → taken_reply op (reply_of fails op xs) ts ≡ reply_of fails op xs
  reply_same fails (Fill seg byte) xs ts h = refl
  reply_same fails (Put page off values) xs ts h = refl
  reply_same fails (Show seg) xs ts h = shown_same xs ts h
  reply_same fails (Seal n body tuples app rtag) xs ts h = refl
  reply_same fails (Write v n body app) xs ts h = request_same xs ts h
  reply_same fails (Fetch v n body) xs ts h = request_same xs ts h
  reply_same fails (WritePi v n body tuples) xs ts h = request_same xs ts h
  reply_same fails (FetchPi v n body tuples) xs ts h = request_same xs ts h
  reply_same fails (Overwrite dev lba change) xs ts h = refl
  reply_same fails Wait xs ts h = refl

  -- an op, with the reply that it makes
  op_mirrored : (i : ℕ) (op : Op) (s : State) → let answers = plain_tells act tell (acts_of over i op) s in Each (Filed es) answers →
      Lists (acts_of over i op) (taken_acts m es i op (reply_of (m.fails i) op answers)) s
  op_mirrored i op s filed =
      let answers = plain_tells act tell (acts_of over i op) s in
      let reply = reply_of (m.fails i) op answers in
      let says : Says reply (steps_of over i op) answers = subst (λ steps. Says reply steps answers) (steps_same i op) (says_op (m.fails i) i op answers) in
      subst (λ steps. Lists (acts_of over i op) (map (taken_act m es reply) steps) s) (sym (steps_same i op)) (lists_mirrored reply (steps_of over i op) s filed says)

  twins_both : (xs ys ts us : List ActAnswer) → Twins m es xs ts → Twins m es ys us → Twins m es (xs ++ ys) (ts ++ us)
  twins_both [] ys ts us h k = subst (λ t. Twins m es ys (t ++ us)) (sym h) k
  twins_both (x ∷ xs) ys [] us h k = absurd h
  twins_both (x ∷ xs) ys (t ∷ ts) us h k = (h.0, twins_both xs ys ts us h.1 k)

  -- the ops from op i on
  record Scripts (i : ℕ) (ops : List Op) (s : State) : Type 0 where
    state : plain act (taken_from m es i ops (replies_from over i ops s)) s ≡ plain act (acts_from over i ops) s
    replies : replies_from over i ops s ≡ taken_replies m es i ops (replies_from over i ops s) s
    twins : Twins m es (plain_tells act tell (acts_from over i ops) s) (plain_tells act tell (taken_from m es i ops (replies_from over i ops s)) s)

  whole : (i : ℕ) (ops : List Op) (s : State) → Each (Filed es) (plain_tells act tell (acts_from over i ops) s) → Scripts i ops s
  whole i [] s f = record { state = refl; replies = refl; twins = refl }
  whole i (op ∷ ops) s f =
      let acts = acts_of over i op in
      let others = acts_from over (suc i) ops in
      let one = plain_tells act tell acts s in
      let next = plain act acts s in
      let other = plain_tells act tell others next in
      let split = subst (Each (Filed es)) (tells_append acts others s) f in
      let h = op_mirrored i op s (each_first (Filed es) one other split) in
      let rest = whole (suc i) ops next (each_other (Filed es) one other split) in
      let reply = reply_of (m.fails i) op one in
      let replies = replies_from over (suc i) ops next in
      let taken = taken_acts m es i op reply in
      let more = taken_from m es (suc i) ops replies in
      let same = reply_same (m.fails i) op one (plain_tells act tell taken s) h.twins in
      record {
        state = plain_append act taken more s ∙ ap (plain act more) h.state ∙ rest.state ∙ sym (plain_append act acts others s);
        replies = ap (λ r. r ∷ replies) (sym same)
            ∙ ap (λ rs. taken_reply op reply (plain_tells act tell taken s) ∷ rs) (rest.replies ∙ ap (taken_replies m es (suc i) ops replies) (sym h.state));
        twins =
            subst (λ xs. Twins m es xs (plain_tells act tell (taken ++ more) s)) (sym (tells_append acts others s))
            (subst (λ ts. Twins m es (one ++ other) ts) (sym (tells_append taken more s))
            (twins_both one other (plain_tells act tell taken s) (plain_tells act tell more (plain act taken s)) h.twins (subst (λ z. Twins m es other (plain_tells act tell more z)) (sym h.state) rest.twins)));
      }

  -- from all that is said of one block to each sentence
  each_of : (P : ActAnswer → Type 0) → ((t : ActAnswer) → Fine m es t → P t) → (xs ts : List ActAnswer) → Twins m es xs ts → Each P ts
  each_of P h [] ts k = subst (Each P) (sym k) tt
  each_of P h (x ∷ xs) [] k = absurd k
  each_of P h (x ∷ xs) (t ∷ ts) k = (h t k.0.fine, each_of P h xs ts k.1)

  -- e is one of these
  abbrev Lies : Sent → List Sent → Type 0
  Lies e [] = ⊥
  Lies e (x ∷ xs) = (e ≡ x) ⊎ Lies e xs

  lies_out : (e x : Sent) (before after : List Sent) → Lies e (before ++ (x ∷ after)) → (e ≡ x) ⊎ Lies e (before ++ after)
  lies_out e x [] after h = h
  lies_out e x (y ∷ before) after h = elim h [ inl p ↦ inr (inl p) | inr q ↦ elim (lies_out e x before after q) [ inl r ↦ inl r | inr r ↦ inr (inr r) ] ]

  lies_mixed : (e : Sent) (xs ys : List Sent) → Mixed xs ys → Lies e ys → Lies e xs
  lies_mixed e [] ys h k = subst (Lies e) h k
  lies_mixed e (x ∷ xs) ys h k =
      elim (lies_out e x h.0 h.1.0 (subst (Lies e) h.1.1.0 k)) [ inl p ↦ inl p | inr q ↦ inr (lies_mixed e xs (h.0 ++ h.1.0) h.1.1.1 q) ]

  -- whose it is
  owner_of : (e : Sent) (xs ts : List ActAnswer) → Lies e (sents xs) → Each Proper xs → Twins m es xs ts → Belongs ts e
  owner_of e [] ts l p k = absurd l
  owner_of e (x ∷ xs) [] l p k = absurd k
  owner_of e (x ∷ xs) (t ∷ ts) l p k = by x.sent l p.0 (λ q. owner_of e xs ts q p.1 k.1) where
    by : (s : Option Sent) → Lies e (put_sent s (sents xs)) → IfSome s (λ e. (b : AskedBlock) × ((x.of ≡ Some b) × Owns e b)) → (Lies e (sents xs) → Belongs ts e) → Belongs (t ∷ ts) e
    by None l p rest = inr (rest l)
    by (Some y) l p rest = elim l [ inl q ↦ inl (p.0, (k.0.of ∙ p.1.0, subst (λ z. Owns z p.0) (sym q) p.1.1)) | inr q ↦ inr (rest q) ]

  each_sent : (P : Sent → Type 0) (xs : List Sent) → ((e : Sent) → Lies e xs → P e) → Each P xs
  each_sent P [] h = tt
  each_sent P (e ∷ xs) h = (h e (inl refl), each_sent P xs (λ x l. h x (inr l)))

-- The walk over what stands on record, with its replies: they are backed.
pub backs : (m : Setting) (ops : List Op) (opening : State) (es : List Sent) → IsRecordOfRun (told m es) ops opening es → IsBacked m ops opening es (script_replies (told m es) ops opening)
backs m ops opening es h =
    let answers = plain_tells act tell (acts_from (told m es) 1 ops) opening in
    let script = script_lined (told m es) 1 ops opening in
    let there = filed_in 1 answers es script h.all in
    let w = whole m es 1 ops opening there.filed in
    let ts = plain_tells act tell (taken_from m es 1 ops (script_replies (told m es) ops opening)) opening in
    record {
      belong = each_sent m es (Belongs ts) es (λ e l. owner_of m es e answers ts (lies_mixed m es e (sents answers) es h.all l) script.proper w.twins);
      once = there.once;
      delivered = each_of m es (OfRead (HasEntry es)) (λ t h. h.delivered) answers ts w.twins;
      in_turn = each_of m es (OfRead (IsInTurn es)) (λ t h. h.in_turn) answers ts w.twins;
      passes = each_of m es (OfRead (PassesIn m es)) (λ t h. h.passes) answers ts w.twins;
      written = λ c. sym (h.writes c) ∙ ap (λ s. get_or s.logs c []) (sym (w.state ∙ acts_walk (told m es) 1 ops opening));
      listed = each_of m es (OfRequest (IsListedAs es)) (λ t h. h.listed) answers ts w.twins;
      caused = each_of m es (OfRequest (HasEnd es)) (λ t h. h.caused) answers ts w.twins;
      spoiled = each_of m es (OfRead (IsFound m es)) (λ t h. h.spoiled) answers ts w.twins;
      replied = w.replies;
      checked = refl;
    }

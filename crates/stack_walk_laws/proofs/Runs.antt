-- A run of moves in the midst of others: where it stands, and what is so once it is done.
use Rattle.std.proofs.Common.{◌≡◌, suc, List, [], ◌∷◌, ◌++◌, length, Option, Some, None, refl, sym, ap, subst, ◌∙◌, arith, length-append}
use Rattle.std.proofs.lemmas.List.{append_assoc}
use Rattle.block_path.specs.Acts.{Act, State, act, conflict, tell}
use Rattle.block_path.specs.Blocks.{ActAnswer, Sent}
use Rattle.block_path.specs.Serial.{ClearOf, Serial, all_done, none_done, plain, plain_tells}
use Rattle.block_path.proofs.Acts.{commutes}
use Rattle.block_path.proofs.Split.{NoneOf, clear_apart, clear_both, goes_on_between}
use Rattle.run_laws.specs.Records.{put_sent, sents}
use Rattle.run_laws.specs.OpsApart.{NoneMeet}
use Rattle.block_path.specs.Serial.{Apart}
use Rattle.stack_walk_laws.specs.Following.{sents_so_far}
use Rattle.stack_walk_laws.specs.Slots.{so_far}

abbrev pub Done : Type 0
Done = List (Option ActAnswer)

abbrev pub Moves : Type 0
Moves = List (Act ActAnswer)

pub shifted : {X : Type 0} (xs : List X) (y : X) (zs : List X) → xs ++ (y ∷ zs) ≡ (xs ++ (y ∷ [])) ++ zs
shifted xs y zs = sym (append_assoc xs (y ∷ []) zs)

-- of blocks in part

pub far_length : (moves : Moves) (answers : List ActAnswer) → length (so_far moves answers) ≡ length moves
far_length [] answers = refl
far_length (a ∷ moves) [] = ap suc (far_length moves [])
far_length (a ∷ moves) (r ∷ answers) = ap suc (far_length moves answers)

pub none_far : (moves : Moves) → so_far moves [] ≡ none_done moves
none_far [] = refl
none_far (a ∷ moves) = ap (λ rest. None ∷ rest) (none_far moves)

pub none_both : (xs ys : Moves) → none_done {R = ActAnswer} (xs ++ ys) ≡ none_done xs ++ none_done ys
none_both [] ys = refl
none_both (x ∷ xs) ys = ap (λ rest. None ∷ rest) (none_both xs ys)

pub all_both : (xs ys : List ActAnswer) → all_done (xs ++ ys) ≡ all_done xs ++ all_done ys
all_both [] ys = refl
all_both (x ∷ xs) ys = ap (λ rest. Some x ∷ rest) (all_both xs ys)

pub far_done : (front run back : Moves) (answers : List ActAnswer) → length answers ≡ length front → so_far (front ++ (run ++ back)) answers ≡ all_done answers ++ (none_done run ++ none_done back)
far_done [] run back [] e = none_far (run ++ back) ∙ none_both run back
far_done [] run back (r ∷ answers) e = absurd (omega (arith, e))
far_done (a ∷ front) run back [] e = absurd (omega (arith, e))
far_done (a ∷ front) run back (r ∷ answers) e = ap (λ rest. Some r ∷ rest) (far_done front run back answers (omega (arith, e)))

far_all : (run back : Moves) (ts : List ActAnswer) → length ts ≡ length run → so_far (run ++ back) ts ≡ all_done ts ++ none_done back
far_all [] back [] e = none_far back
far_all [] back (t ∷ ts) e = absurd (omega (arith, e))
far_all (a ∷ run) back [] e = absurd (omega (arith, e))
far_all (a ∷ run) back (t ∷ ts) e = ap (λ rest. Some t ∷ rest) (far_all run back ts (omega (arith, e)))

pub far_more : (front run back : Moves) (answers ts : List ActAnswer) → length answers ≡ length front → length ts ≡ length run → so_far (front ++ (run ++ back)) (answers ++ ts) ≡ all_done answers ++ (all_done ts ++ none_done back)
far_more [] run back [] ts e l = far_all run back ts l
far_more [] run back (r ∷ answers) ts e l = absurd (omega (arith, e))
far_more (a ∷ front) run back [] ts e l = absurd (omega (arith, e))
far_more (a ∷ front) run back (r ∷ answers) ts e l = ap (λ rest. Some r ∷ rest) (far_more front run back answers ts (omega (arith, e)) l)

pub far_whole : (moves : Moves) (answers : List ActAnswer) → length answers ≡ length moves → so_far moves answers ≡ all_done answers
far_whole [] [] e = refl
far_whole [] (r ∷ answers) e = absurd (omega (arith, e))
far_whole (a ∷ moves) [] e = absurd (omega (arith, e))
far_whole (a ∷ moves) (r ∷ answers) e = ap (λ rest. Some r ∷ rest) (far_whole moves answers (omega (arith, e)))

-- clear of what is done in front

abbrev pub AllClear : Moves → Moves → Done → Type 0
AllClear [] before ds = Unit {0}
AllClear (a ∷ run) before ds = ClearOf conflict a before ds × AllClear run before ds

pub clear_join : (run xs ys : Moves) (ds es : Done) → length ds ≡ length xs → AllClear run xs ds → AllClear run ys es → AllClear run (xs ++ ys) (ds ++ es)
clear_join [] xs ys ds es l h k = tt
clear_join (a ∷ run) xs ys ds es l h k = (clear_both conflict a xs ys ds es l h.0 k.0, clear_join run xs ys ds es l h.1 k.1)

pub clear_nothing : (run : Moves) → AllClear run [] []
clear_nothing [] = tt
clear_nothing (a ∷ run) = (tt, clear_nothing run)

clear_one : (run : Moves) (a : Act ActAnswer) (r : ActAnswer) → AllClear run (a ∷ []) (Some r ∷ [])
clear_one [] a r = tt
clear_one (x ∷ run) a r = (tt, clear_one run a r)

column : (xs run : Moves) (a : Act ActAnswer) → NoneMeet conflict xs (a ∷ run) → NoneOf conflict a xs × NoneMeet conflict xs run
column [] run a h = (tt, tt)
column (x ∷ xs) run a h = let rest = column xs run a h.1 in ((h.0.0, rest.0), (h.0.1, rest.1))

-- moves that none of these conflicts with
pub clear_of_all : (run xs : Moves) (ds : Done) → NoneMeet conflict xs run → AllClear run xs ds
clear_of_all [] xs ds h = tt
clear_of_all (a ∷ run) xs ds h = let c = column xs run a h in (clear_apart conflict a xs ds c.0, clear_of_all run xs ds c.1)

right_apart : (x : Act ActAnswer) (ys run zs : Moves) → Apart conflict x (ys ++ (run ++ zs)) → Apart conflict x run
right_apart x [] [] zs h = tt
right_apart x [] (a ∷ run) zs h = (h.0, right_apart x [] run zs h.1)
right_apart x (y ∷ ys) run zs h = right_apart x ys run zs h.1

-- the midst of what they don't conflict with
pub midst_apart : (xs ys run zs : Moves) → NoneMeet conflict xs (ys ++ (run ++ zs)) → NoneMeet conflict xs run
midst_apart [] ys run zs h = tt
midst_apart (x ∷ xs) ys run zs h = (right_apart x ys run zs h.0, midst_apart xs ys run zs h.1)

clear_past : (a : Act ActAnswer) (moves : Moves) (answers : List ActAnswer) → length answers ≡ length moves → ClearOf conflict a moves (so_far moves answers)
clear_past a [] answers e = tt
clear_past a (b ∷ moves) [] e = absurd (omega (arith, e))
clear_past a (b ∷ moves) (r ∷ answers) e = clear_past a moves answers (omega (arith, e))

-- moves that are all done
pub clear_over : (run moves : Moves) (answers : List ActAnswer) → length answers ≡ length moves → AllClear run moves (so_far moves answers)
clear_over [] moves answers e = tt
clear_over (a ∷ run) moves answers e = (clear_past a moves answers e, clear_over run moves answers e)

clear_front : (run front : Moves) (answers : List ActAnswer) → AllClear run front (all_done answers)
clear_front [] front answers = tt
clear_front (a ∷ run) front answers = (by a front answers, clear_front run front answers) where
  by : (a : Act ActAnswer) (front : Moves) (answers : List ActAnswer) → ClearOf conflict a front (all_done answers)
  by a [] answers = tt
  by a (b ∷ front) [] = tt
  by a (b ∷ front) (r ∷ answers) = by a front answers

-- one of these runs, once it is done, makes it so
pub record Turn (moves : Moves) (done : Done) (run : Moves) (ts : List ActAnswer) (P : Done → Type 0) : Type 0 where
  pub before : Moves
  pub after : Moves
  pub ds : Done
  pub bs : Done
  pub moves_are : moves ≡ before ++ (run ++ after)
  pub done_is : done ≡ ds ++ (none_done run ++ bs)
  pub size : length ds ≡ length before
  pub clear : AllClear run before ds
  pub next : P (ds ++ (all_done ts ++ bs))

regroup : {X : Type 0} (f b x a : List X) → f ++ (b ++ (x ++ a)) ≡ (f ++ b) ++ (x ++ a)
regroup f b x a = sym (append_assoc f b (x ++ a))

regroup_back : {X : Type 0} (b x a k : List X) → (b ++ (x ++ a)) ++ k ≡ b ++ (x ++ (a ++ k))
regroup_back b x a k = append_assoc b (x ++ a) k ∙ ap (λ t. b ++ t) (append_assoc x a k)

pub behind : (front moves run : Moves) (fd done : Done) (ts : List ActAnswer) (P Q : Done → Type 0) → length fd ≡ length front → AllClear run front fd → ((d : Done) → P d → Q (fd ++ d)) → Turn moves done run ts P → Turn (front ++ moves) (fd ++ done) run ts Q
behind front moves run fd done ts P Q l c f t = record {
  before = front ++ t.before;
  after = t.after;
  ds = fd ++ t.ds;
  bs = t.bs;
  moves_are = ap (λ x. front ++ x) t.moves_are ∙ regroup front t.before run t.after;
  done_is = ap (λ x. fd ++ x) t.done_is ∙ regroup fd t.ds (none_done run) t.bs;
  size = (let x = length-append fd t.ds in let y = length-append front t.before in let z = t.size in omega (arith, x, y, z, l));
  clear = clear_join run front t.before fd t.ds l c t.clear;
  next = subst Q (regroup fd t.ds (all_done ts) t.bs) (f (t.ds ++ (all_done ts ++ t.bs)) t.next);
}

pub in_front : (moves run back : Moves) (done bd : Done) (ts : List ActAnswer) (P Q : Done → Type 0) → ((d : Done) → P d → Q (d ++ bd)) → Turn moves done run ts P → Turn (moves ++ back) (done ++ bd) run ts Q
in_front moves run back done bd ts P Q f t = record {
  before = t.before;
  after = t.after ++ back;
  ds = t.ds;
  bs = t.bs ++ bd;
  moves_are = ap (λ x. x ++ back) t.moves_are ∙ regroup_back t.before run t.after back;
  done_is = ap (λ x. x ++ bd) t.done_is ∙ regroup_back t.ds (none_done run) t.bs bd;
  size = t.size;
  clear = t.clear;
  next = subst Q (regroup_back t.ds (all_done ts) t.bs bd) (f (t.ds ++ (all_done ts ++ t.bs)) t.next);
}

-- the next run of one block
pub of_block : (front run back : Moves) (answers ts : List ActAnswer) (P : Done → Type 0) → length answers ≡ length front → length ts ≡ length run → P (so_far (front ++ (run ++ back)) (answers ++ ts)) → Turn (front ++ (run ++ back)) (so_far (front ++ (run ++ back)) answers) run ts P
of_block front run back answers ts P e l p = record {
  before = front;
  after = back;
  ds = all_done answers;
  bs = none_done back;
  moves_are = refl;
  done_is = far_done front run back answers e;
  size = done_length answers ∙ e;
  clear = clear_front run front answers;
  next = subst P (far_more front run back answers ts e l) p;
} where
  done_length : (answers : List ActAnswer) → length (all_done answers) ≡ length answers
  done_length [] = refl
  done_length (r ∷ answers) = ap suc (done_length answers)

-- doing it

run_serial : (run before after : Moves) (ds bs : Done) (opening now : State) → length ds ≡ length before → AllClear run before ds → Serial act tell conflict (before ++ (run ++ after)) opening (ds ++ (none_done run ++ bs)) now →
    Serial act tell conflict (before ++ (run ++ after)) opening (ds ++ (all_done (plain_tells act tell run now) ++ bs)) (plain act run now)
run_serial [] before after ds bs opening now l c s = s
run_serial (a ∷ run) before after ds bs opening now l c s =
    let t = tell a now in
    let one = goes_on_between act tell conflict commutes before (run ++ after) a ds (none_done run ++ bs) opening now l c.0 s in
    let x = length-append ds (Some t ∷ []) in
    let y = length-append before (a ∷ []) in
    let long : length (ds ++ (Some t ∷ [])) ≡ length (before ++ (a ∷ [])) = omega (arith, x, y, l) in
    let moved = subst (λ moves. Serial act tell conflict moves opening (ds ++ (Some t ∷ (none_done run ++ bs))) (act a now)) (shifted before a (run ++ after)) one in
    let there = subst (λ done. Serial act tell conflict ((before ++ (a ∷ [])) ++ (run ++ after)) opening done (act a now)) (shifted ds (Some t) (none_done run ++ bs)) moved in
    let rest = run_serial run (before ++ (a ∷ [])) after (ds ++ (Some t ∷ [])) bs opening (act a now) long (clear_join run before (a ∷ []) ds (Some t ∷ []) l c.1 (clear_one run a t)) there in
    subst (λ moves. Serial act tell conflict moves opening (ds ++ (Some t ∷ (all_done (plain_tells act tell run (act a now)) ++ bs))) (plain act run (act a now))) (sym (shifted before a (run ++ after)))
    (subst (λ done. Serial act tell conflict ((before ++ (a ∷ [])) ++ (run ++ after)) opening done (plain act run (act a now))) (sym (shifted ds (Some t) (all_done (plain_tells act tell run (act a now)) ++ bs))) rest)

pub turn_serial : (moves run : Moves) (done : Done) (opening now : State) (P : Done → Type 0) (t : Turn moves done run (plain_tells act tell run now) P) → Serial act tell conflict moves opening done now →
    Serial act tell conflict moves opening (t.ds ++ (all_done (plain_tells act tell run now) ++ t.bs)) (plain act run now)
turn_serial moves run done opening now P t s =
    subst (λ x. Serial act tell conflict x opening (t.ds ++ (all_done (plain_tells act tell run now) ++ t.bs)) (plain act run now)) (sym t.moves_are)
    (run_serial run t.before t.after t.ds t.bs opening now t.size t.clear
    (subst (λ x. Serial act tell conflict x opening (t.ds ++ (none_done run ++ t.bs)) now) t.moves_are (subst (λ d. Serial act tell conflict moves opening d now) t.done_is s)))

-- what stands on record

put_join : (o : Option Sent) (xs ys : List Sent) → put_sent o (xs ++ ys) ≡ put_sent o xs ++ ys
put_join None xs ys = refl
put_join (Some e) xs ys = refl

pub sents_join : (ds es : Done) → sents_so_far (ds ++ es) ≡ sents_so_far ds ++ sents_so_far es
sents_join [] es = refl
sents_join (None ∷ ds) es = sents_join ds es
sents_join (Some a ∷ ds) es = ap (put_sent a.sent) (sents_join ds es) ∙ put_join a.sent (sents_so_far ds) (sents_so_far es)

pub sents_both : (xs ys : List ActAnswer) → sents (xs ++ ys) ≡ sents xs ++ sents ys
sents_both [] ys = refl
sents_both (a ∷ xs) ys = ap (put_sent a.sent) (sents_both xs ys) ∙ put_join a.sent (sents xs) (sents ys)

pub sents_all : (ts : List ActAnswer) → sents_so_far (all_done ts) ≡ sents ts
sents_all [] = refl
sents_all (t ∷ ts) = ap (put_sent t.sent) (sents_all ts)

pub sents_none : (run : Moves) → sents_so_far (none_done run) ≡ []
sents_none [] = refl
sents_none (a ∷ run) = sents_none run

-- of a run in the midst of others, before and after
pub sents_before : (run : Moves) (ds bs : Done) → sents_so_far (ds ++ (none_done run ++ bs)) ≡ sents_so_far ds ++ sents_so_far bs
sents_before run ds bs = sents_join ds (none_done run ++ bs) ∙ ap (λ t. sents_so_far ds ++ t) (sents_join (none_done run) bs ∙ ap (λ t. t ++ sents_so_far bs) (sents_none run))

pub sents_after : (ts : List ActAnswer) (ds bs : Done) → sents_so_far (ds ++ (all_done ts ++ bs)) ≡ sents_so_far ds ++ (sents ts ++ sents_so_far bs)
sents_after ts ds bs = sents_join ds (all_done ts ++ bs) ∙ ap (λ t. sents_so_far ds ++ t) (sents_join (all_done ts) bs ∙ ap (λ t. t ++ sents_so_far bs) (sents_all ts))

-- moves that leave record and logs as they are

pub record IsQuiet (a : Act ActAnswer) : Type 0 where
  pub logs : a.logs.writes ≡ []
  pub sent : (s : State) → (tell a s).sent ≡ None

abbrev pub AllQuiet : Moves → Type 0
AllQuiet [] = Unit {0}
AllQuiet (a ∷ run) = IsQuiet a × AllQuiet run

pub quiet_sents : (run : Moves) (now : State) → AllQuiet run → sents (plain_tells act tell run now) ≡ []
quiet_sents [] now q = refl
quiet_sents (a ∷ run) now q = rw (q.0.sent now) (quiet_sents run (act a now) q.1)

pub quiet_logs : (run : Moves) (now : State) → AllQuiet run → (plain act run now).logs ≡ now.logs
quiet_logs [] now q = refl
quiet_logs (a ∷ run) now q = quiet_logs run (act a now) q.1 ∙ one where
  one : (act a now).logs ≡ now.logs
  one = rw q.0.logs refl

pub tells_length : (run : Moves) (now : State) → length (plain_tells act tell run now) ≡ length run
tells_length [] now = refl
tells_length (a ∷ run) now = ap suc (tells_length run (act a now))

-- a printed line is its words with a space between each two
use Rattle.std.proofs.Common.{ℕ, ℤ, ◌≡◌, Bool, true, false, eqb, List, [], ◌∷◌, ◌++◌, Some, None, refl, sym, ap, ◌∙◌, append_assoc, append-nil}
use Rattle.std.specs.Prelude.{codes, decimal, if◌then◌else◌}
use Rattle.std.specs.Fmt.{signed_decimal}
use Rattle.std.specs.Int.{to_be_bytes, w16}
use Rattle.hex.specs.Hex.{encode_lower}
use Rattle.script_text.specs.Passed.{Mode, Op, Fill as FillOp, Put as PutOp, Show as ShowOp, Seal as SealOp, Write as WriteOp, Fetch, WritePi as WritePiOp, FetchPi, Overwrite, Wait as WaitOp, Flip as FlipChange, Copy as CopyChange}
use Rattle.fault_schedule.specs.declared.fault.Crossing.{Crossing}
use Rattle.fault_schedule.specs.declared.fault.Crossing.TheVariants.{HostToAdapter, AdapterToTarget, TargetToMedium, MediumToTarget, TargetToAdapter, AdapterToHost}
use Rattle.fault_schedule.specs.declared.fault.FaultKind.TheVariants.{Flip as FlipKind, Shift as ShiftKind}
use Rattle.linear_volume.specs.declared.Linear.{Linear}
use Rattle.script_lines.specs.Passed.{Limits}
use Rattle.page_pool.specs.declared.segs.Seg.{Seg}
use Rattle.pi_guard.specs.declared.GuardKind.{GuardKind}
use Rattle.pi_guard.specs.declared.GuardKind.TheVariants.{Crc, Ip}
use Rattle.stripe_volume.specs.declared.Stripe.{Stripe}
use Rattle.stripe_volume.specs.declared.legs.Leg.{Leg}
use Rattle.volume_table.specs.declared.entry.Entry.TheVariants.{Linear as LinearEntry, Stripe as StripeEntry}
use Rattle.script_text.specs.Printed.{app_text, block_text, cut_text, entry_text, expect_text, fault_text, guard_text, legs_text, limits_text, mode_text, op_text, pages_text, pair_text, schedule_line, segs_text, spot_text, switch_text}
use Rattle.script_text.specs.Crossings.{spot_of}
use Rattle.script_laws.specs.Lines.{app_words, choice_text, expect_words, fault_words, guard_word, leg_text, leg_words, limits_words, line_of, linear_words, block_words, mode_words, op_word, op_words_behind, shift_words, spot_word, stripe_words, switch_word, tag_of, tear_words}
use Rattle.script_laws.specs.Texts.{spaced}

guarded : (kind : GuardKind) (more : List ℕ) → guard_text kind ++ more ≡ codes "mode" ++ (32 ∷ (guard_word kind ++ more))
guarded Crc more = refl
guarded Ip more = refl

switched : (b : Bool) (more : List ℕ) → switch_text b ++ more ≡ 32 ∷ (switch_word b ++ more)
switched true more = refl
switched false more = refl

pub mode_line : (m : Mode) (rest : List ℕ) → mode_text m ++ rest ≡ spaced (codes "mode" ∷ mode_words m) ++ (10 ∷ rest)
mode_line m rest =
    let last : List ℕ = 32 ∷ (decimal m.protect ++ (10 ∷ rest)) in
    let text : mode_text m ++ rest ≡ guard_text m.kind ++ (switch_text m.dix ++ (switch_text m.dif ++ last)) = simp append_assoc in
    let words : spaced (codes "mode" ∷ mode_words m) ++ (10 ∷ rest) ≡ codes "mode" ++ (32 ∷ (guard_word m.kind ++ (32 ∷ (switch_word m.dix ++ (32 ∷ (switch_word m.dif ++ last)))))) = simp append_assoc in
    text
    ∙ guarded m.kind (switch_text m.dix ++ (switch_text m.dif ++ last))
    ∙ ap (λ x. codes "mode" ++ (32 ∷ (guard_word m.kind ++ x))) (switched m.dix (switch_text m.dif ++ last))
    ∙ ap (λ x. codes "mode" ++ (32 ∷ (guard_word m.kind ++ (32 ∷ (switch_word m.dix ++ x))))) (switched m.dif last)
    ∙ sym words

pub limits_line : (l : Limits) (rest : List ℕ) → limits_text l ++ rest ≡ spaced (codes "limits" ∷ limits_words l) ++ (10 ∷ rest)
limits_line l rest = simp append_assoc

pub pages_line : (n : ℕ) (rest : List ℕ) → pages_text n ++ rest ≡ spaced (codes "pages" ∷ decimal n ∷ []) ++ (10 ∷ rest)
pages_line n rest = simp append_assoc

pub block_line : (n : ℕ) (rest : List ℕ) → block_text n ++ rest ≡ spaced (codes "block" ∷ decimal n ∷ []) ++ (10 ∷ rest)
block_line n rest = simp append_assoc

pub expect_line : (app mask : ℕ) (rest : List ℕ) → expect_text app mask ++ rest ≡ spaced (codes "expect" ∷ expect_words app mask) ++ (10 ∷ rest)
expect_line app mask rest = simp append_assoc

pub linear_line : (e : Linear) (rest : List ℕ) → entry_text (LinearEntry e) ++ rest ≡ spaced (codes "linear" ∷ linear_words e) ++ (10 ∷ rest)
linear_line e rest = simp append_assoc

legs_spaced : (w : List ℕ) (legs : List Leg) (more : List ℕ) → (w ++ legs_text legs) ++ more ≡ spaced (w ∷ leg_words legs) ++ more
legs_spaced w [] more = ap (λ x. x ++ more) (append-nil w)
legs_spaced w (l ∷ legs) more =
    let text : (w ++ legs_text (l ∷ legs)) ++ more ≡ w ++ (32 ∷ ((leg_text l ++ legs_text legs) ++ more)) = simp append_assoc in
    let words : spaced (w ∷ leg_words (l ∷ legs)) ++ more ≡ w ++ (32 ∷ (spaced (leg_text l ∷ leg_words legs) ++ more)) = simp append_assoc in
    text ∙ ap (λ x. w ++ (32 ∷ x)) (legs_spaced (leg_text l) legs more) ∙ sym words

pub stripe_line : (s : Stripe) (rest : List ℕ) → entry_text (StripeEntry s) ++ rest ≡ spaced (codes "stripe" ∷ stripe_words s) ++ (10 ∷ rest)
stripe_line s rest =
    let front : List ℕ → List ℕ = λ x. codes "stripe " ++ (decimal s.start ++ (32 ∷ (decimal s.len ++ (codes " chunk " ++ (decimal s.chunk ++ (32 ∷ x)))))) in
    let text : entry_text (StripeEntry s) ++ rest ≡ codes "stripe " ++ (decimal s.start ++ (32 ∷ (decimal s.len ++ (codes " chunk " ++ (decimal s.chunk ++ (32 ∷ ((codes "legs" ++ legs_text s.legs) ++ (10 ∷ rest)))))))) = simp append_assoc in
    let words : spaced (codes "stripe" ∷ stripe_words s) ++ (10 ∷ rest) ≡ codes "stripe " ++ (decimal s.start ++ (32 ∷ (decimal s.len ++ (codes " chunk " ++ (decimal s.chunk ++ (32 ∷ (spaced (codes "legs" ∷ leg_words s.legs) ++ (10 ∷ rest)))))))) = simp append_assoc in
    text ∙ ap (λ x. codes "stripe " ++ (decimal s.start ++ (32 ∷ (decimal s.len ++ (codes " chunk " ++ (decimal s.chunk ++ (32 ∷ x))))))) (legs_spaced (codes "legs") s.legs (10 ∷ rest)) ∙ sym words

spotted : (at : Crossing) (more : List ℕ) → spot_text at ++ more ≡ 32 ∷ (spot_word (spot_of at) ++ more)
spotted HostToAdapter more = refl
spotted AdapterToHost more = refl
spotted AdapterToTarget more = refl
spotted TargetToAdapter more = refl
spotted TargetToMedium more = refl
spotted MediumToTarget more = refl

pub fault_line : (op k : ℕ) (at : Crossing) (off : ℕ) (bytes rest : List ℕ)
    → fault_text (record { op = op; k = k; at = at; kind = FlipKind off bytes }) ++ rest ≡ spaced (codes "fault" ∷ fault_words op k (spot_of at) off bytes) ++ (10 ∷ rest)
fault_line op k at off bytes rest =
    let last : List ℕ = codes " flip " ++ (decimal off ++ (32 ∷ (encode_lower bytes ++ (10 ∷ rest)))) in
    let text : fault_text (record { op = op; k = k; at = at; kind = FlipKind off bytes }) ++ rest ≡ codes "fault " ++ (decimal op ++ (32 ∷ (decimal k ++ (spot_text at ++ last)))) = simp append_assoc in
    let words : spaced (codes "fault" ∷ fault_words op k (spot_of at) off bytes) ++ (10 ∷ rest) ≡ codes "fault " ++ (decimal op ++ (32 ∷ (decimal k ++ (32 ∷ (spot_word (spot_of at) ++ last))))) = simp append_assoc in
    text ∙ ap (λ x. codes "fault " ++ (decimal op ++ (32 ∷ (decimal k ++ x)))) (spotted at last) ∙ sym words

pub shift_line : (op k : ℕ) (at : Crossing) (by : ℤ) (rest : List ℕ)
    → fault_text (record { op = op; k = k; at = at; kind = ShiftKind by }) ++ rest ≡ spaced (codes "shift" ∷ shift_words op (spot_of at) by) ++ (10 ∷ rest)
shift_line op k at by rest =
    let last : List ℕ = 32 ∷ (signed_decimal by ++ (10 ∷ rest)) in
    let text : fault_text (record { op = op; k = k; at = at; kind = ShiftKind by }) ++ rest ≡ codes "shift " ++ (decimal op ++ (spot_text at ++ last)) = simp append_assoc in
    let words : spaced (codes "shift" ∷ shift_words op (spot_of at) by) ++ (10 ∷ rest) ≡ codes "shift " ++ (decimal op ++ (32 ∷ (spot_word (spot_of at) ++ last))) = simp append_assoc in
    text ∙ ap (λ x. codes "shift " ++ (decimal op ++ x)) (spotted at last) ∙ sym words

pub lose_line : (op k : ℕ) (rest : List ℕ) → (codes "lose " ++ (pair_text op (codes " ") k ++ codes "\n")) ++ rest ≡ spaced (codes "lose" ∷ block_words op k) ++ (10 ∷ rest)
lose_line op k rest = simp append_assoc

pub fail_line : (op k : ℕ) (rest : List ℕ) → (codes "fail " ++ (pair_text op (codes " ") k ++ codes "\n")) ++ rest ≡ spaced (codes "fail" ∷ block_words op k) ++ (10 ∷ rest)
fail_line op k rest = simp append_assoc

pub tear_line : (op k bytes : ℕ) (rest : List ℕ)
    → (codes "tear " ++ (pair_text op (codes " ") k ++ (codes " " ++ (decimal bytes ++ codes "\n")))) ++ rest ≡ spaced (codes "tear" ∷ tear_words op k bytes) ++ (10 ∷ rest)
tear_line op k bytes rest = simp append_assoc

cut_by : (b : Bool) (n cut : ℕ) (more : List ℕ) → decimal n ++ ((if b then [] else codes "/" ++ decimal cut) ++ more) ≡ (if b then decimal n else decimal n ++ (47 ∷ decimal cut)) ++ more
cut_by true n cut more = refl
cut_by false n cut more = simp append_assoc

pub choice_line : (e : ℕ × ℕ) (rest : List ℕ) → schedule_line e ++ rest ≡ spaced (codes "schedule" ∷ choice_text e ∷ []) ++ (10 ∷ rest)
choice_line e rest =
    let text : schedule_line e ++ rest ≡ codes "schedule " ++ (decimal e.0 ++ (cut_text e.1 ++ (10 ∷ rest))) = simp append_assoc in
    text ∙ ap (λ x. codes "schedule " ++ x) (cut_by (eqb e.1 0) e.0 e.1 (10 ∷ rest))

tag_by : (b : Bool) (front : List ℕ) (app : ℕ) (rest : List ℕ) → (front ++ (if b then [] else codes " app " ++ encode_lower (to_be_bytes w16 app))) ++ rest ≡ spaced (front ∷ app_words (if b then None else Some app)) ++ rest
tag_by true front app rest = ap (λ x. x ++ rest) (append-nil front)
tag_by false front app rest = simp append_assoc

write_line : (v n : ℕ) (body : List Seg) (app : ℕ) (rest : List ℕ) → op_text (WriteOp v n body app) ++ rest ≡ spaced (codes "write" ∷ op_words_behind (line_of (WriteOp v n body app))) ++ (10 ∷ rest)
write_line v n body app rest =
    let text : op_text (WriteOp v n body app) ++ rest ≡ codes "write " ++ (decimal v ++ (32 ∷ (decimal n ++ (32 ∷ ((segs_text body ++ app_text app) ++ (10 ∷ rest)))))) = simp append_assoc in
    let words : spaced (codes "write" ∷ op_words_behind (line_of (WriteOp v n body app))) ++ (10 ∷ rest) ≡ codes "write " ++ (decimal v ++ (32 ∷ (decimal n ++ (32 ∷ (spaced (segs_text body ∷ app_words (tag_of app)) ++ (10 ∷ rest)))))) = simp append_assoc in
    text ∙ ap (λ x. codes "write " ++ (decimal v ++ (32 ∷ (decimal n ++ (32 ∷ x))))) (tag_by (eqb app 0) (segs_text body) app (10 ∷ rest)) ∙ sym words

pub op_line : (op : Op) (rest : List ℕ) → op_text op ++ rest ≡ spaced (op_word (line_of op) ∷ op_words_behind (line_of op)) ++ (10 ∷ rest)
op_line (FillOp seg byte) rest = simp append_assoc
op_line (PutOp page off bytes) rest = simp append_assoc
op_line (ShowOp seg) rest = simp append_assoc
op_line (SealOp n body tuples app rtag) rest = simp append_assoc
op_line (WriteOp v n body app) rest = write_line v n body app rest
op_line (Fetch v n body) rest = simp append_assoc
op_line (WritePiOp v n body tuples) rest = simp append_assoc
op_line (FetchPi v n body tuples) rest = simp append_assoc
op_line (Overwrite dev lba (FlipChange off bytes)) rest = simp append_assoc
op_line (Overwrite dev lba (CopyChange from_dev from_lba)) rest = simp append_assoc
op_line WaitOp rest = refl

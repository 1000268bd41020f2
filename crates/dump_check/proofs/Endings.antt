-- How the check of a dump goes on from the walk over its blocks to its end.
use Rattle.std.proofs.Common.{ℕ, ◌≡◌, ◌+◌, ◌/◌, ◌<◌, ◌≤◌, Bool, true, List, [], ◌++◌, ◌*◌, ◌-◌, length, take, drop, Option, Some, None, Result, Ok, Err, inl, inr, refl, sym, subst, ap, ◌∙◌, arith, rules, append-nil, append_assoc}
use Rattle.std.proofs.lemmas.List.{length-append, length-take-le, take-append-drop}
use Rattle.std.proofs.lemmas.Nat.{le-div}
use Rattle.std.proofs.Math.Nat.{div-mul-le_self}
use Rattle.dix_base.proofs.Appending.{appended_both}
use Rattle.dix_base.specs.Told.{Appended, AppendedSome, IsAtEnd, Rose, Took}
use Rattle.rig_api.specs.Frames.{frames_of}
use Rattle.dump_check.proofs.Passes.{frames_both, lines_both}
use Rattle.report_text.proofs.Flow.{part_first, part_second, whole_is_part}
use Rattle.dump_check.specs.declared.form.Dump.{Dump}
use Rattle.dump_check.specs.declared.form.Form.{Form}
use Rattle.dump_check.specs.declared.form.Form.TheVariants.{Narrow, Wide}
use Rattle.dump_check.specs.declared.tally.DumpTally.{DumpTally}
use Rattle.dump_check.specs.declared.walking.CheckFault.{CheckFault}
use Rattle.dump_check.specs.declared.walking.CheckFault.TheVariants as fault
use Rattle.dump_check.specs.declared.walking.Checked.{Checked}
use Rattle.dump_check.specs.Forms.{is_fit, stride_of}
use Rattle.dump_check.specs.Lines.{bad_text, blocks_of, blocks_text, check_text, last_text, rest_of, tally_of}
use Rattle.dump_check.specs.Walks.{CheckEnds, HasChecked, HasCheckedSome, WalkEnds}

-- a block has bytes
pub some_bytes : (f : Form) → is_fit f ≡ true → 0 < stride_of f
some_bytes (Narrow l w) h = search rules
some_bytes (Wide l w) h = search rules

pub some_block : (f : Form) (len each : ℕ) → is_fit f ≡ true → each ≡ stride_of f → stride_of f ≤ len → 0 < len / each
some_block f len each h e l =
    let p = some_bytes f h in
    let d : 1 ≤ len / each = le-div 1 len each (omega (arith, p, e)) (omega (arith, l, e)) in
    omega (arith, d)

-- the text of the first bytes begins that of all
bad_more : (d : Dump) (a more : List ℕ) → 0 < stride_of d.form → (t : List ℕ) × (bad_text d (a ++ more) ≡ bad_text d a ++ t)
bad_more d a more some =
    let s = stride_of d.form in
    let k = length a / s in
    let whole = take (k * s) a in
    let tail = drop (k * s) a in
    let below : k * s ≤ length a = div-mul-le_self (length a) s in
    let long : length whole ≡ k * s = length-take-le (k * s) a below in
    let sum : length (a ++ more) ≡ length a + length more = length-append a more in
    let up : k ≤ length (a ++ more) / s = le-div k (length (a ++ more)) s some (omega (arith, below, sum)) in
    let m = length (a ++ more) / s - k in
    let count : length (a ++ more) / s ≡ k + m = omega (arith, up) in
    let split : a ≡ whole ++ tail = sym (take-append-drop (k * s) a) in
    let both : a ++ more ≡ whole ++ (tail ++ more) = ap (λ x. x ++ more) split ∙ append_assoc whole tail more in
    let zero : k ≡ k + 0 = omega arith in
    let front : frames_of s k a ≡ frames_of s k whole = ap (λ n. frames_of s n a) zero ∙ ap (frames_of s (k + 0)) split ∙ frames_both s k 0 whole tail long ∙ append-nil (frames_of s k whole) in
    let all : blocks_of d.form (a ++ more) ≡ frames_of s (k + m) (whole ++ (tail ++ more)) = ap (λ n. frames_of s n (a ++ more)) count ∙ ap (frames_of s (k + m)) both in (
      blocks_text d k (frames_of s m (tail ++ more)),
      ap (blocks_text d 0) all ∙ lines_both d k m whole (tail ++ more) long ∙ ap (λ x. blocks_text d 0 x ++ blocks_text d k (frames_of s m (tail ++ more))) (sym front),
    )

some_more : (d : Dump) (a more : List ℕ) (old new : Option (List ℕ)) → 0 < stride_of d.form → AppendedSome (bad_text d a) old new → AppendedSome (bad_text d (a ++ more)) old new
some_more d a more old new some p = let b = bad_more d a more some in subst (λ x. AppendedSome x old new) (sym b.1) (part_first (bad_text d a) b.0 old new p)

-- all that a source held
record Held (came : List ℕ) (left : Option (List ℕ)) : Type 0 where
  pub more : List ℕ
  pub rest : Option (List ℕ)
  pub held : Took (came ++ more) left rest
  pub end : IsAtEnd rest

held_of : (came : List ℕ) (left left_after : Option (List ℕ)) → Took came left left_after → Held came left
held_of came None None t = record { more = []; rest = None; held = tt; end = tt }
held_of came (Some xs) (Some ys) t = record { more = ys; rest = Some []; held = t ∙ sym (append-nil (came ++ ys)); end = refl }
held_of came None (Some ys) t = absurd t
held_of came (Some xs) None t = absurd t

-- a text of the first bytes was begun
pub begun : (d : Dump) (front back : List ℕ) (left left_after old new : Option (List ℕ)) → 0 < stride_of d.form → Took (front ++ back) left left_after → AppendedSome (bad_text d front) old new → HasCheckedSome bad_text d left left_after old new
begun d front back left left_after old new some t p =
    let h = held_of (front ++ back) left left_after t in
    record {
      came = front ++ back;
      more = h.more;
      rest = h.rest;
      took = t;
      held = h.held;
      end = h.end;
      written = subst (λ x. AppendedSome (bad_text d x) old new) (sym (append_assoc front back h.more)) (some_more d front (back ++ h.more) old new some p);
    }

as_all : (bytes : List ℕ) (left left_after : Option (List ℕ)) → Took bytes left left_after → Took (bytes ++ []) left left_after
as_all bytes left left_after t = subst (λ x. Took x left left_after) (sym (append-nil bytes)) t

pub begun_all : (d : Dump) (front : List ℕ) (left left_after old new : Option (List ℕ)) → 0 < stride_of d.form → Took front left left_after → AppendedSome (bad_text d front) old new → HasCheckedSome bad_text d left left_after old new
begun_all d front left left_after old new some t p = begun d front [] left left_after old new some (as_all front left left_after t) p

widened : (d : Dump) (left left_after old new : Option (List ℕ)) → HasCheckedSome bad_text d left left_after old new → HasCheckedSome check_text d left left_after old new
widened d left left_after old new h = record {
  came = h.came;
  more = h.more;
  rest = h.rest;
  took = h.took;
  held = h.held;
  end = h.end;
  written = part_first (bad_text d (h.came ++ h.more)) (last_text d.form (tally_of d.form (h.came ++ h.more)) (rest_of d.form (h.came ++ h.more))) old new h.written;
}

-- a walk that broke off
pub stopped : (fault : CheckFault) (d : Dump) (o n : ℕ) (left left_after : Option (List ℕ)) (p q : ℕ) (old new : Option (List ℕ)) → WalkEnds (Err fault) d o n left left_after p q old new → CheckEnds (Err fault) d o n left left_after p q old new
stopped fault.Source d o n left left_after p q old new w = w
stopped fault.Sink d o n left left_after p q old new w = (w.0, widened d left left_after old new w.1)
stopped fault.Endless d o n left left_after p q old new w = w

last_is : (d : Dump) (c : Checked) (left left_after old new : Option (List ℕ)) → (h : HasChecked bad_text d c left left_after old new) → last_text d.form c.tally c.rest ≡ last_text d.form (tally_of d.form h.bytes) (rest_of d.form h.bytes)
last_is d c left left_after old new h = ap (λ (t : DumpTally). last_text d.form t c.rest) h.tally ∙ ap (λ n. last_text d.form (tally_of d.form h.bytes) n) h.rest

-- the last lines were written
pub finished : (d : Dump) (c : Checked) (left left_after old mid new : Option (List ℕ)) → HasChecked bad_text d c left left_after old mid → Appended (last_text d.form c.tally c.rest) mid new → HasChecked check_text d c left left_after old new
finished d c left left_after old mid new h a = record {
  bytes = h.bytes;
  took = h.took;
  end = h.end;
  tally = h.tally;
  rest = h.rest;
  written = appended_both (bad_text d h.bytes) (last_text d.form (tally_of d.form h.bytes) (rest_of d.form h.bytes)) old mid new h.written (subst (λ x. Appended x mid new) (last_is d c left left_after old mid h) a);
}

-- all came, and a prefix of the text was written
came_all : (d : Dump) (bytes : List ℕ) (left left_after old new : Option (List ℕ)) → Took bytes left left_after → IsAtEnd left_after → AppendedSome (check_text d bytes) old new → HasCheckedSome check_text d left left_after old new
came_all d bytes left left_after old new t e p = record {
  came = bytes;
  more = [];
  rest = left_after;
  took = t;
  held = as_all bytes left left_after t;
  end = e;
  written = subst (λ x. AppendedSome (check_text d x) old new) (sym (append-nil bytes)) p;
}

-- the last lines were begun
pub unfinished : (d : Dump) (c : Checked) (left left_after old mid new : Option (List ℕ)) → HasChecked bad_text d c left left_after old mid → AppendedSome (last_text d.form c.tally c.rest) mid new → HasCheckedSome check_text d left left_after old new
unfinished d c left left_after old mid new h a = came_all d h.bytes left left_after old new h.took h.end
    (part_second (bad_text d h.bytes) (last_text d.form (tally_of d.form h.bytes) (rest_of d.form h.bytes)) old mid new h.written (subst (λ x. AppendedSome x mid new) (last_is d c left left_after old mid h) a))

-- all but the passing on was done
pub unflushed : (r : Result Checked CheckFault) (d : Dump) (o n : ℕ) (left left_after : Option (List ℕ)) (p q : ℕ) (old mid new : Option (List ℕ)) → 0 < stride_of d.form → CheckEnds r d o n left left_after p q old mid → new ≡ mid → HasCheckedSome check_text d left left_after old new
unflushed (Ok c) d o n left left_after p q old mid new some w e = came_all d w.0.bytes left left_after old new w.0.took w.0.end (whole_is_part (check_text d w.0.bytes) old mid new w.0.written e)
unflushed (Err fault.Source) d o n left left_after p q old mid new some w e =
    let h = w.1 in widened d left left_after old new (begun d h.bytes h.more left left_after old new some h.took (whole_is_part (bad_text d h.bytes) old mid new h.written e))
unflushed (Err fault.Sink) d o n left left_after p q old mid new some w e = subst (λ x. HasCheckedSome check_text d left left_after old x) (sym e) w.1
unflushed (Err fault.Endless) d o n left left_after p q old mid new some w e = widened d left left_after old new (begun_all d w.0 left left_after old new some w.1 (whole_is_part (bad_text d w.0) old mid new w.3 e))

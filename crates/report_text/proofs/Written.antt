-- Laws of `Wrote`: a text that is written in several calls, and a failure on the way.
use Rattle.std.proofs.Common.{ℕ, ◌≡◌, ◌∙◌, ◌≤◌, ◌++◌, List, [], Option, Result, Ok, Err, OnOk, OnErr, IsErr, inl, inr, sym, subst, arith, true≢false, append-nil, refl}
use Rattle.dix_base.specs.Told.{Appended, Rose}
use Rattle.report_text.specs.Writing.{Wrote}
use Rattle.dix_base.proofs.Appending.{appended_none, appended_both}
use Rattle.dix_base.proofs.Counts.{rose_later}
use Rattle.report_text.proofs.Flow.{Left, at_start, goes_on, at_end, breaks_off, part_first, part_second, whole_is_part}

module _ {S : Type 0} {taken : S → Option (List ℕ)} {faults : S → ℕ} where
  -- the same text
  pub as_text : {T E : Type 0} {s t : List ℕ} {a b : S} {r : Result T E} → s ≡ t → Wrote taken faults s a b r → Wrote taken faults t a b r
  as_text {a = a} {b = b} {r = r} e w = subst (λ t. Wrote taken faults t a b r) e w

  -- a failure goes on to the caller
  pub stops : {T E T' E' : Type 0} {s : List ℕ} {a b : S} {e : E} (r : Result T' E') → IsErr r → Wrote {T = T} taken faults s a b (Err e) → Wrote taken faults s a b r
  stops (Ok v) h w = absurd (true≢false (sym h))
  stops (Err e) h w = record { whole = tt; part = w.part; calm = tt; cause = w.cause; count = w.count }

  -- the first of two texts broke off, and the failure goes on to the caller
  pub stops_first : {T E T' E' : Type 0} (t : List ℕ) {s : List ℕ} {a b : S} {e : E} (r : Result T' E') → IsErr r → Wrote {T = T} taken faults s a b (Err e) → Wrote taken faults (s ++ t) a b r
  stops_first t (Ok v) h w = absurd (true≢false (sym h))
  stops_first t {s = s} {a = a} {b = b} (Err f) h w = record { whole = tt; part = part_first s t (taken a) (taken b) w.part; calm = tt; cause = w.cause; count = w.count }

  -- one text was written whole, and another was begun behind it
  pub wrote_both : {T E T' E' : Type 0} {s t : List ℕ} {a b c : S} {v : T'} (r : Result T E) → Wrote {E = E'} taken faults s a b (Ok v) → Wrote taken faults t b c r → Wrote taken faults (s ++ t) a c r
  wrote_both {s = s} {t = t} {a = a} {b = b} {c = c} (Ok v) w x = record {
    whole = appended_both s t (taken a) (taken b) (taken c) w.whole x.whole;
    part = tt;
    calm = x.calm ∙ w.calm;
    cause = tt;
    count = omega (arith, w.count, x.count);
  }
  wrote_both {s = s} {t = t} {a = a} {b = b} {c = c} (Err e) w x = record {
    whole = tt;
    part = part_second s t (taken a) (taken b) (taken c) w.whole x.part;
    calm = tt;
    cause = rose_later (faults a) (faults b) (faults c) w.count x.cause;
    count = omega (arith, w.count, x.count);
  }

  -- a text was written whole, and passed on or not
  pub flushed : {T E T' E' : Type 0} {s : List ℕ} {a b c : S} {v : T'} (r : Result T E) → Wrote {E = E'} taken faults s a b (Ok v) → taken c ≡ taken b → OnOk r (faults c ≡ faults b) → OnErr r (Rose (faults b) (faults c)) → faults b ≤ faults c → Wrote taken faults s a c r
  flushed {s = s} {a = a} {b = b} {c = c} (Ok v) w e calm rose more = record {
    whole = subst (λ x. Appended s (taken a) x) (sym e) w.whole;
    part = tt;
    calm = calm ∙ w.calm;
    cause = tt;
    count = omega (arith, w.count, more);
  }
  flushed {s = s} {a = a} {b = b} {c = c} (Err f) w e calm rose more = record {
    whole = tt;
    part = whole_is_part s (taken a) (taken b) (taken c) w.whole e;
    calm = tt;
    cause = rose_later (faults a) (faults b) (faults c) w.count rose;
    count = omega (arith, w.count, more);
  }

-- Of a text a first part was written, and this rest is left. No fault was counted.
pub record Writing {S : Type 0} (taken : S → Option (List ℕ)) (faults : S → ℕ) (text rest : List ℕ) (old now : S) : Type 0 where
  pub left : Left text rest (taken old) (taken now)
  pub calm : faults now ≡ faults old

module _ {S : Type 0} {taken : S → Option (List ℕ)} {faults : S → ℕ} where
  pub begins : {text : List ℕ} {a : S} → Writing taken faults text text a a
  begins {text = text} {a = a} = record { left = at_start text (taken a); calm = refl }

  -- what is left is this
  pub as_left : {text s t : List ℕ} {a b : S} → s ≡ t → Writing taken faults text s a b → Writing taken faults text t a b
  as_left {text = text} {a = a} {b = b} e w = subst (λ t. Writing taken faults text t a b) e w

  -- the next piece was written
  pub writes : {T E : Type 0} {text s t : List ℕ} {a b c : S} {v : T} → Writing taken faults text (s ++ t) a b → Wrote {E = E} taken faults s b c (Ok v) → Writing taken faults text t a c
  writes {text = text} {s = s} {t = t} {a = a} {b = b} {c = c} w x = record {
    left = goes_on text s t (taken a) (taken b) (taken c) w.left x.whole;
    calm = x.calm ∙ w.calm;
  }

  -- the next piece broke off
  pub breaks : {T E T' E' : Type 0} {text s : List ℕ} (t : List ℕ) {a b c : S} {e : E} (r : Result T' E') → IsErr r → Writing taken faults text (s ++ t) a b → Wrote {T = T} taken faults s b c (Err e) → Wrote taken faults text a c r
  breaks t (Ok v) h w x = absurd (true≢false (sym h))
  breaks {text = text} {s = s} t {a = a} {b = b} {c = c} (Err f) h w x = record {
    whole = tt;
    part = breaks_off text s t (taken a) (taken b) (taken c) w.left x.part;
    calm = tt;
    cause = rose_later (faults a) (faults b) (faults c) (omega (arith, w.calm)) x.cause;
    count = omega (arith, w.calm, x.count);
  }

  -- nothing is left
  pub ends : {T E : Type 0} {text rest : List ℕ} {a b : S} {v : T} → Writing taken faults text rest a b → rest ≡ [] → Wrote {E = E} taken faults text a b (Ok v)
  ends {text = text} {rest = rest} {a = a} {b = b} w e = record {
    whole = at_end text rest (taken a) (taken b) w.left e;
    part = tt;
    calm = w.calm;
    cause = tt;
    count = omega (arith, w.calm);
  }

  -- the last piece was begun
  pub ends_with : {T E : Type 0} {text rest : List ℕ} {a b c : S} (r : Result T E) → Writing taken faults text rest a b → Wrote taken faults rest b c r → Wrote taken faults text a c r
  ends_with {rest = rest} (Ok v) w x = ends (writes (as_left (sym (append-nil rest)) w) x) refl
  ends_with {rest = rest} (Err e) w x = breaks [] (Err e) refl (as_left (sym (append-nil rest)) w) x

  -- a call that failed took nothing
  pub failed : {E : Type 0} {a b : S} (e : E) → taken b ≡ taken a → Rose (faults a) (faults b) → faults a ≤ faults b → Wrote {T = ⊥} taken faults [] a b (Err e)
  failed {a = a} {b = b} e same rose more = record { whole = tt; part = (0, subst (λ x. Appended [] (taken a) x) (sym same) (appended_none (taken a))); calm = tt; cause = rose; count = more }

  -- nothing is written
  pub wrote_none : {T E : Type 0} {a : S} (v : T) → Wrote {E = E} taken faults [] a a (Ok v)
  wrote_none {a = a} v = record { whole = appended_none (taken a); part = tt; calm = refl; cause = tt; count = omega arith }

  -- a call took these bytes
  pub took : {s : List ℕ} {a b : S} (n : ℕ) → Appended s (taken a) (taken b) → faults b ≡ faults a → Wrote {T = ℕ} {E = ⊥} taken faults s a b (Ok n)
  took n whole calm = record { whole = whole; part = tt; calm = calm; cause = tt; count = omega (arith, calm) }

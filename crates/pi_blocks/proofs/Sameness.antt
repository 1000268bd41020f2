-- What sense data tell stays when bytes change that no reader looks at.
use Rattle.std.proofs.Common.{◌≡◌, ℕ, zero, suc, ◌+◌, ◌%◌, ◌≤◌, Bool, true, false, if◌then◌else◌, leb, List, [], ◌∷◌, take, drop, length, slice_index, Option, Some, None, refl, sym, subst, ap, ◌∙◌, arith, rules}
use Rattle.std.proofs.lemmas.Bool.Decides.{nat_tests}
use Rattle.std.specs.Int.{w32, w64, from_be_bytes}
use Rattle.sense_codes.specs.declared.Sense.{Sense}
use Rattle.sense_codes.specs.declared.decode.SenseFault.{SenseFault}
use Rattle.sense_codes.specs.declared.decode.SenseFault.TheVariants.{Short, Form}
use Rattle.pi_blocks.specs.Seen.{Information, Informs, SaysBy, SaysDescribed, SaysFixed, TellsNone, code_in, end_of, is_cut_by, is_cut_off, is_deferred, is_described, is_fixed, place_of}
use Rattle.pi_blocks.specs.Same.{SameDescribed, SameFixed, TellSame}

same-code : (a b : List ℕ) → slice_index a 0 ≡ slice_index b 0 → code_in a ≡ code_in b
same-code a b e = ap (λ n. n % 128) e

same-end : (a b : List ℕ) → length a ≡ length b → slice_index a 7 ≡ slice_index b 7 → end_of a ≡ end_of b
same-end a b l m = rw (l, m)

same-cut-by : (f d : Bool) (a b : List ℕ) → length a ≡ length b → slice_index a 7 ≡ slice_index b 7 → is_cut_by f d a ≡ is_cut_by f d b
same-cut-by f d a b l m = rw (l, m)

same-cut : (a b : List ℕ) → length a ≡ length b → slice_index a 0 ≡ slice_index b 0 → slice_index a 7 ≡ slice_index b 7 → is_cut_off a ≡ is_cut_off b
same-cut [] [] l e m = refl
same-cut [] (y ∷ ys) l e m = absurd (omega (arith, l))
same-cut (x ∷ xs) [] l e m = absurd (omega (arith, l))
same-cut (x ∷ xs) (y ∷ ys) l e m =
    let c = same-code (x ∷ xs) (y ∷ ys) e in
    same-cut-by (is_fixed (code_in (x ∷ xs))) (is_described (code_in (x ∷ xs))) (x ∷ xs) (y ∷ ys) l m ∙ ap (λ n. is_cut_by (is_fixed n) (is_described n) (y ∷ ys)) c

same-none : (a b : List ℕ) → is_cut_off a ≡ is_cut_off b → code_in a ≡ code_in b → (e : SenseFault) → TellsNone a e → TellsNone b e
same-none a b cut code Short h = sym cut ∙ h
same-none a b cut code Form h = (sym cut ∙ h.0, sym (ap is_fixed code) ∙ h.1, sym (ap is_described code) ∙ h.2)

fixed-says : (a b : List ℕ) (s : Sense) → SameFixed a b → SaysFixed a s → SaysFixed b s
fixed-says a b s same h = record { key = h.key ∙ same.key; asc = h.asc ∙ same.asc; ascq = h.ascq ∙ same.ascq; info = subst (λ n. s.info ≡ (if leb 128 n then Some (from_be_bytes w32 (take 4 (drop 3 b))) else None)) same.code (subst (λ xs. s.info ≡ (if leb 128 (slice_index a 0) then Some (from_be_bytes w32 xs) else None)) same.info h.info) }

fixed-by : (a b : List ℕ) (s : Sense) (f d : Bool) → f ≡ true → SameFixed a b → SaysBy f d a s → SaysBy f d b s
fixed-by a b s true d e same h = fixed-says a b s same h
fixed-by a b s false d e same h = absurd (search rules)

pub fixed-same : (a b : List ℕ) → is_fixed (code_in a) ≡ true → SameFixed a b → TellSame a b
fixed-same a b is same =
    let code = same-code a b same.code in
    let cut = same-cut a b same.long same.code same.more in
    record {
      sense = λ s late h. record {
        whole = sym cut ∙ h.whole;
        says = subst (λ n. SaysBy (is_fixed n) (is_described n) b s) code (fixed-by a b s (is_fixed (code_in a)) (is_described (code_in a)) is same h.says);
        deferred_is = h.deferred_is ∙ ap is_deferred code;
      };
      none = same-none a b cut code;
    }

same-place : (a b : List ℕ) → SameDescribed a b → (k : ℕ) → place_of a k ≡ place_of b k
same-place a b same zero = refl
same-place a b same (suc k) =
    let e = same-place a b same k in
    ap (λ n. place_of a k + (2 + n)) (same.lengths k) ∙ ap (λ n. n + (2 + slice_index b (n + 1))) e

informs-there : (a b : List ℕ) → SameDescribed a b → (k : ℕ) → Informs a k → Informs b k
informs-there a b same k h =
    let p = same-place a b same k in
    let ends = same-end a b same.long same.more in
    let inside = h.inside in
    let inner = same.informing k h.kind h.long in
    record {
      inside = omega (arith, p, ends, inside);
      kind = subst (λ n. slice_index b n ≡ 0) p (sym (same.kinds k) ∙ h.kind);
      long = subst (λ n. slice_index b (n + 1) ≡ 10) p (sym (same.lengths k) ∙ h.long);
      valid = subst (λ n. 128 ≤ slice_index b (n + 2)) p (subst (λ v. 128 ≤ v) inner.valid h.valid);
    }

informs-back : (a b : List ℕ) → SameDescribed a b → (k : ℕ) → Informs b k → Informs a k
informs-back a b same k h =
    let p = same-place a b same k in
    let ends = same-end a b same.long same.more in
    let inside = h.inside in
    let kind : slice_index a (place_of a k) ≡ 0 = same.kinds k ∙ subst (λ n. slice_index b n ≡ 0) (sym p) h.kind in
    let long : slice_index a (place_of a k + 1) ≡ 10 = same.lengths k ∙ subst (λ n. slice_index b (n + 1) ≡ 10) (sym p) h.long in
    let inner = same.informing k kind long in
    record {
      inside = omega (arith, p, ends, inside);
      kind = kind;
      long = long;
      valid = subst (λ v. 128 ≤ v) (sym inner.valid) (subst (λ n. 128 ≤ slice_index b (n + 2)) (sym p) h.valid);
    }

same-information : (a b : List ℕ) (i : Option ℕ) → SameDescribed a b → Information a i → Information b i
same-information a b None same h = λ k informs. h k (informs-back a b same k informs)
same-information a b (Some info) same h =
    let k = h.0 in
    let inner = same.informing k h.1.kind h.1.long in (
      k,
      informs-there a b same k h.1,
      λ j below informs. h.2 j below (informs-back a b same j informs),
      h.3 ∙ (ap (from_be_bytes w64) inner.info ∙ ap (λ n. from_be_bytes w64 (take 8 (drop (n + 4) b))) (same-place a b same k)),
    )

described-says : (a b : List ℕ) (s : Sense) → SameDescribed a b → SaysDescribed a s → SaysDescribed b s
described-says a b s same h = record { key = h.key ∙ same.key; asc = h.asc ∙ same.asc; ascq = h.ascq ∙ same.ascq; info = same-information a b s.info same h.info }

-- no response code is of both formats
other-format : (n : ℕ) → is_described n ≡ true → is_fixed n ≡ false
other-format n is = grind (arith, nat_tests)

described-by : (a b : List ℕ) (s : Sense) (f d : Bool) → f ≡ false → d ≡ true → SameDescribed a b → SaysBy f d a s → SaysBy f d b s
described-by a b s false true ef ed same h = described-says a b s same h
described-by a b s true d ef ed same h = absurd (search rules)
described-by a b s false false ef ed same h = h

pub described-same : (a b : List ℕ) → is_described (code_in a) ≡ true → SameDescribed a b → TellSame a b
described-same a b is same =
    let code = same-code a b same.code in
    let cut = same-cut a b same.long same.code same.more in
    let other = other-format (code_in a) is in
    record {
      sense = λ s late h. record {
        whole = sym cut ∙ h.whole;
        says = subst (λ n. SaysBy (is_fixed n) (is_described n) b s) code (described-by a b s (is_fixed (code_in a)) (is_described (code_in a)) other is same h.says);
        deferred_is = h.deferred_is ∙ ap is_deferred code;
      };
      none = same-none a b cut code;
    }

-- What is said of data that came, by the newest write of their block.
use Rattle.std.proofs.Common.{ℕ, zero, suc, ◌≡◌, ◌⊎◌, inl, inr, ◌<◌, Bool, true, false, List, Option, Some, None, refl, sym, ap, subst, ◌∙◌, arith, true≢false}
use Rattle.std.proofs.lemmas.Slice.Eq.{bytes_eq-Decides}
use Rattle.std.specs.Str.{bytes_eq}
use Rattle.stack_ops.specs.declared.reply.Reply.{Reply}
use Rattle.run_words.specs.Judged.{BroughtByNone, IsJudgedSo, IsStale, IsWrong, WriteOf, newest, write_or}
use Rattle.run_words.specs.Lies.{Book, MovedBlock, brought, lie_by, lie_in, older, older_by, same_as}
use Rattle.run_words.specs.declared.lies.Lie.{Lie}
use Rattle.run_words.specs.declared.lies.Lie.TheVariants.{Stale, Wrong}

split : (j i : ℕ) → j < suc i → (j ≡ i) ⊎ (j < i)
split zero zero h = inl refl
split zero (suc i) h = inr (omega arith)
split (suc j) zero h = absurd (omega (arith, h))
split (suc j) (suc i) h = by_rest (split j i (omega (arith, h)))
  where
    by_rest : (j ≡ i) ⊎ (j < i) → (suc j ≡ suc i) ⊎ (suc j < suc i)
    by_rest (inl e) = inl (ap suc e)
    by_rest (inr l) = inr (omega (arith, l))

same_data : (d e : List ℕ) → Some d ≡ Some e → d ≡ e
same_data d e h = cc

same_write : (d e : WriteOf) → Some d ≡ Some e → d ≡ e
same_write d e h = cc

not_none : {A : Type 0} (x : A) → Some x ≡ None → ⊥
not_none x h = absurd (grind (arith, h))

module _ (b : Book) (moved : List MovedBlock) (replies : List Reply) (came : List ℕ) (v : ℕ) where
  abbrev wrote : ℕ → Option (List ℕ)
  wrote i = brought b moved replies i v

  more : (from i : ℕ) → (wrote i ≡ Some came → ⊥) → BroughtByNone b moved replies came v from i → BroughtByNone b moved replies came v from (suc i)
  more from i never h = λ j a l e. by_place j a e (split j i l)
    where
      by_place : (j : ℕ) → from < suc j → wrote j ≡ Some came → (j ≡ i) ⊎ (j < i) → ⊥
      by_place j a e (inl s) = never (subst (λ x. wrote x ≡ Some came) s e)
      by_place j a e (inr l) = h j a l e

  none_wrote : (i : ℕ) → wrote i ≡ None → wrote i ≡ Some came → ⊥
  none_wrote i e s = not_none came (sym s ∙ e)

  other_wrote : (i : ℕ) (d : List ℕ) → wrote i ≡ Some d → bytes_eq d came ≡ false → wrote i ≡ Some came → ⊥
  other_wrote i d e t s = true≢false (sym ((bytes_eq-Decides d came).1 (same_data d came (sym e ∙ s))) ∙ t)

  -- ---- older writes

  pub record IsOlder (i : ℕ) : Type 0 where
    pub op : ℕ
    pub before : op < i
    pub same : wrote op ≡ Some came
    pub later : BroughtByNone b moved replies came v (suc op) i
    pub told : older b moved replies came v i ≡ Stale (suc op)

  pub record IsNone (i : ℕ) : Type 0 where
    pub never : BroughtByNone b moved replies came v 0 i
    pub told : older b moved replies came v i ≡ Wrong

  abbrev old_step : ℕ → Option (List ℕ) → Lie
  old_step i o = older_by (same_as came o) i (older b moved replies came v i)

  further : (i : ℕ) → (wrote i ≡ Some came → ⊥) → older b moved replies came v (suc i) ≡ older b moved replies came v i → IsOlder i ⊎ IsNone i → IsOlder (suc i) ⊎ IsNone (suc i)
  further i never e (inl o) = let l = o.before in inl (record { op = o.op; before = omega (arith, l); same = o.same; later = more (suc o.op) i never o.later; told = e ∙ o.told })
  further i never e (inr n) = inr (record { never = more 0 i never n.never; told = e ∙ n.told })

  older_so : (i : ℕ) → IsOlder i ⊎ IsNone i
  older_so zero = inr (record { never = λ j a l e. absurd (omega (arith, l)); told = refl })
  older_so (suc i) = by_write (older_so i) (wrote i) refl
    where
      by_test : IsOlder i ⊎ IsNone i → (d : List ℕ) (t : Bool) → wrote i ≡ Some d → bytes_eq d came ≡ t → IsOlder (suc i) ⊎ IsNone (suc i)
      by_test rest d true e t =
          let same = (bytes_eq-Decides d came).0 t in
          inl (record {
            op = i;
            before = omega arith;
            same = e ∙ ap Some same;
            later = λ j a l s. absurd (omega (arith, a, l));
            told = ap (old_step i) e ∙ ap (λ x. older_by (Some x) i (older b moved replies came v i)) t;
          })
      by_test rest d false e t =
          further i (other_wrote i d e t) (ap (old_step i) e ∙ ap (λ x. older_by (Some x) i (older b moved replies came v i)) t) rest

      by_write : IsOlder i ⊎ IsNone i → (o : Option (List ℕ)) → wrote i ≡ o → IsOlder (suc i) ⊎ IsNone (suc i)
      by_write rest None e = further i (none_wrote i e) (ap (old_step i) e) rest
      by_write rest (Some d) e = by_test rest d (bytes_eq d came) e refl

  -- ---- the newest

  abbrev lie_step : ℕ → Option (List ℕ) → Option Lie
  lie_step i o = lie_by (same_as came o) (older b moved replies came v i) (lie_in b moved replies came v i)

  abbrev new_step : ℕ → Option (List ℕ) → Option WriteOf
  new_step i o = write_or o i (newest b moved replies v i)

  abbrev Said : ℕ → Type 0
  Said i = IsJudgedSo b moved replies came v i

  passed_by : (i : ℕ) → wrote i ≡ None → Said i → Said (suc i)
  passed_by i e h =
      let lie = ap (lie_step i) e in
      let new = ap (new_step i) e in
      record {
        unknown = λ n. lie ∙ h.unknown (sym new ∙ n);
        right = λ w n s. lie ∙ h.right w (sym new ∙ n) s;
        lies = λ w n o. by_lie w lie (h.lies w (sym new ∙ n) o);
      }
    where
      by_lie : (w : WriteOf) → lie_in b moved replies came v (suc i) ≡ lie_in b moved replies came v i → IsStale b moved replies came v i w ⊎ IsWrong b moved replies came v i → IsStale b moved replies came v (suc i) w ⊎ IsWrong b moved replies came v (suc i)
      by_lie w l (inl s) = inl (record { op = s.op; older = s.older; same = s.same; later = more (suc s.op) i (none_wrote i e) s.later; told = l ∙ s.told })
      by_lie w l (inr s) = inr (record { never = more 0 i (none_wrote i e) s.never; told = l ∙ s.told })

  brought_it : (i : ℕ) (d : List ℕ) → wrote i ≡ Some d → bytes_eq d came ≡ true → Said (suc i)
  brought_it i d e t =
      let lie = ap (lie_step i) e ∙ ap (λ x. lie_by (Some x) (older b moved replies came v i) (lie_in b moved replies came v i)) t in
      let new = ap (new_step i) e in
      record {
        unknown = λ n. lie;
        right = λ w n s. lie;
        lies = λ w n o. absurd (o (ap (λ (x : WriteOf). x.data_is) (sym (same_write (record { op = i; data_is = d }) w (sym new ∙ n))) ∙ (bytes_eq-Decides d came).0 t));
      }

  brought_another : (i : ℕ) (d : List ℕ) → wrote i ≡ Some d → bytes_eq d came ≡ false → Said (suc i)
  brought_another i d e t =
      let lie = ap (lie_step i) e ∙ ap (λ x. lie_by (Some x) (older b moved replies came v i) (lie_in b moved replies came v i)) t in
      let new = ap (new_step i) e in
      record {
        unknown = λ n. absurd (not_none (record { op = i; data_is = d }) (sym new ∙ n));
        right = λ w n s. absurd (true≢false (sym ((bytes_eq-Decides d came).1 (ap (λ (x : WriteOf). x.data_is) (same_write (record { op = i; data_is = d }) w (sym new ∙ n)) ∙ s)) ∙ t));
        lies = λ w n o. by_older w (same_write (record { op = i; data_is = d }) w (sym new ∙ n)) lie (older_so i);
      }
    where
      by_older : (w : WriteOf) → record { op = i; data_is = d } ≡ w → lie_in b moved replies came v (suc i) ≡ Some (older b moved replies came v i) → IsOlder i ⊎ IsNone i → IsStale b moved replies came v (suc i) w ⊎ IsWrong b moved replies came v (suc i)
      by_older w s l (inl o) = let first = o.before in let same = ap (λ (x : WriteOf). x.op) s in
          inl (record { op = o.op; older = omega (arith, first, same); same = o.same; later = more (suc o.op) i (other_wrote i d e t) o.later; told = l ∙ ap Some o.told })
      by_older w s l (inr o) = inr (record { never = more 0 i (other_wrote i d e t) o.never; told = l ∙ ap Some o.told })

  pub judged_so : (i : ℕ) → Said i
  judged_so zero = record { unknown = λ n. refl; right = λ w n s. refl; lies = λ w n o. absurd (not_none w (sym n)) }
  judged_so (suc i) = by_write (judged_so i) (wrote i) refl
    where
      by_test : (d : List ℕ) (t : Bool) → wrote i ≡ Some d → bytes_eq d came ≡ t → Said (suc i)
      by_test d true e t = brought_it i d e t
      by_test d false e t = brought_another i d e t

      by_write : Said i → (o : Option (List ℕ)) → wrote i ≡ o → Said (suc i)
      by_write said None e = passed_by i e said
      by_write said (Some d) e = by_test d (bytes_eq d came) e refl

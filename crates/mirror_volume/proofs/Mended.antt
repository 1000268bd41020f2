-- Blocks that are mended one after another, and stretches of them.
use Rattle.std.proofs.Common.{ℕ, zero, suc, ◌≡◌, ◌+◌, ◌-◌, ◌*◌, ◌<◌, Bool, true, List, [], ◌∷◌, ◌++◌, Option, Some, None, drop, get_or, length, min, take, append_assoc, append-nil, refl, ap, subst, sym, ◌∙◌, arith, add-zero}
use Rattle.std.proofs.lemmas.List.{length-take-le, take_more}
use Rattle.bio_core.specs.declared.fate.Why.{Why}
use Rattle.walk_laws.specs.Past.{Brought}
use Rattle.script_text.specs.declared.script.Script.{Script}
use Rattle.mirror_laws.specs.Mirror.{is_none, marks_of}
use Rattle.std.specs.Prelude.{set, is_none as none_of}
use Rattle.std.specs.Int.{from_bool}
use Rattle.mirror_laws.specs.Stretches.{Fine, Lost, Need, On0, On1, accepted_of, lost_of, marks_mended}
use Rattle.mirror_laws.specs.declared.marks.Marks.{Marks}
use Rattle.mirror_volume.specs.Inner.{read_pi_script, write_script}
use Rattle.mirror_volume.specs.Asked.{AreOf, fresh_on0, stretches}
use Rattle.mirror_volume.specs.LegRuns.{LegRun, found_by, replies_of}
use Rattle.mirror_volume.specs.Mending.{AreMends, Mended, MendsBy, RepairBy, StretchBy, fresh_on1, looked, needs_by, whole_stretch, whys_by}

-- ---- some blocks, and then others

whys-append : (xs ys : List LegRun) → whys_by (xs ++ ys) ≡ whys_by xs ++ whys_by ys
whys-append [] ys = refl
whys-append (x ∷ xs) ys = ap (λ ws. whys_by (x ∷ []) ++ ws) (whys-append xs ys)

accepted-append : (ws vs : List (Option Why)) → accepted_of (ws ++ vs) ≡ accepted_of ws + accepted_of vs
accepted-append [] vs = omega arith
accepted-append (None ∷ ws) vs = let e = accepted-append ws vs in omega (arith, e)
accepted-append (Some why ∷ ws) vs = accepted-append ws vs

lost-append : (ns ms : List Need) → lost_of (ns ++ ms) ≡ lost_of ns + lost_of ms
lost-append [] ms = omega arith
lost-append (Fine ∷ ns) ms = lost-append ns ms
lost-append (On0 e ∷ ns) ms = lost-append ns ms
lost-append (On1 e ∷ ns) ms = lost-append ns ms
lost-append (Lost ∷ ns) ms = let e = lost-append ns ms in omega (arith, e)

next-block : (u n : ℕ) → u + suc n ≡ suc u + n
next-block u n = omega arith

module _ (s : Script) (half n : ℕ) where
  are_mends-append : (u : ℕ) (ns ms : List Need) (xs ys : List LegRun) → AreMends s half n u ns xs → AreMends s half n (u + length ns) ms ys → AreMends s half n u (ns ++ ms) (xs ++ ys)
  are_mends-append u [] ms [] ys h k = subst (λ v. AreMends s half n v ms ys) (add-zero u) k
  are_mends-append u [] ms (x ∷ xs) ys h k = absurd h
  are_mends-append u (Fine ∷ ns) ms xs ys h k = are_mends-append (suc u) ns ms xs ys h (subst (λ v. AreMends s half n v ms ys) (next-block u (length ns)) k)
  are_mends-append u (Lost ∷ ns) ms xs ys h k = are_mends-append (suc u) ns ms xs ys h (subst (λ v. AreMends s half n v ms ys) (next-block u (length ns)) k)
  are_mends-append u (On0 e ∷ ns) ms [] ys h k = absurd h
  are_mends-append u (On0 e ∷ ns) ms (x ∷ xs) ys h k = (h.0, are_mends-append (suc u) ns ms xs ys h.1 (subst (λ v. AreMends s half n v ms ys) (next-block u (length ns)) k))
  are_mends-append u (On1 e ∷ ns) ms [] ys h k = absurd h
  are_mends-append u (On1 e ∷ ns) ms (x ∷ xs) ys h k = (h.0, are_mends-append (suc u) ns ms xs ys h.1 (subst (λ v. AreMends s half n v ms ys) (next-block u (length ns)) k))

  marks-append : (u : ℕ) (ns ms : List Need) (xs ys : List LegRun) (marks : List Marks) → AreMends s half n u ns xs
      → marks_mended u (ns ++ ms) (whys_by (xs ++ ys)) marks ≡ marks_mended (u + length ns) ms (whys_by ys) (marks_mended u ns (whys_by xs) marks)
  marks-append u [] ms [] ys marks h = ap (λ v. marks_mended v ms (whys_by ys) marks) (sym (add-zero u))
  marks-append u [] ms (x ∷ xs) ys marks h = absurd h
  marks-append u (Fine ∷ ns) ms xs ys marks h = marks-append (suc u) ns ms xs ys marks h ∙ ap (λ v. marks_mended v ms (whys_by ys) (marks_mended (suc u) ns (whys_by xs) marks)) (sym (next-block u (length ns)))
  marks-append u (Lost ∷ ns) ms xs ys marks h = marks-append (suc u) ns ms xs ys marks h ∙ ap (λ v. marks_mended v ms (whys_by ys) (marks_mended (suc u) ns (whys_by xs) marks)) (sym (next-block u (length ns)))
  marks-append u (On0 e ∷ ns) ms [] ys marks h = absurd h
  marks-append u (On0 e ∷ ns) ms (x ∷ xs) ys marks h =
      marks-append (suc u) ns ms xs ys (marks_mended u (On0 e ∷ []) (whys_by (x ∷ [])) marks) h.1
      ∙ ap (λ v. marks_mended v ms (whys_by ys) (marks_mended (suc u) ns (whys_by xs) (marks_mended u (On0 e ∷ []) (whys_by (x ∷ [])) marks))) (sym (next-block u (length ns)))
  marks-append u (On1 e ∷ ns) ms [] ys marks h = absurd h
  marks-append u (On1 e ∷ ns) ms (x ∷ xs) ys marks h =
      marks-append (suc u) ns ms xs ys (marks_mended u (On1 e ∷ []) (whys_by (x ∷ [])) marks) h.1
      ∙ ap (λ v. marks_mended v ms (whys_by ys) (marks_mended (suc u) ns (whys_by xs) (marks_mended u (On1 e ∷ []) (whys_by (x ∷ [])) marks))) (sym (next-block u (length ns)))

  pub mends-append : (u : ℕ) (ns ms : List Need) (old mid new : Mended) (xs ys : List LegRun) → MendsBy s half n u ns old mid xs → MendsBy s half n (u + length ns) ms mid new ys → MendsBy s half n u (ns ++ ms) old new (xs ++ ys)
  mends-append u ns ms old mid new xs ys h k =
      let marks = sym (marks-append u ns ms xs ys old.marks h.mends) in
      let many = ap accepted_of (whys-append xs ys) ∙ accepted-append (whys_by xs) (whys_by ys) in
      let gone = lost-append ns ms in
      let repaired : (old.repaired + accepted_of (whys_by xs)) + accepted_of (whys_by ys) ≡ old.repaired + accepted_of (whys_by (xs ++ ys)) = omega (arith, many) in
      let lost : (old.lost + lost_of ns) + lost_of ms ≡ old.lost + lost_of (ns ++ ms) = omega (arith, gone) in
      record {
        mends = are_mends-append u ns ms xs ys h.mends k.mends;
        new_is = k.new_is
            ∙ ap (λ (d : Mended). record { marks = marks_mended (u + length ns) ms (whys_by ys) d.marks; repaired = d.repaired + accepted_of (whys_by ys); lost = d.lost + lost_of ms }) h.new_is
            ∙ (λ i. record { marks = marks i; repaired = repaired i; lost = lost i });
      }

  pub mends-none : (u : ℕ) (d : Mended) → MendsBy s half n u [] d d []
  mends-none u d =
      let a = add-zero d.repaired in
      let b = add-zero d.lost in
      record { mends = tt; new_is = λ i. record { marks = d.marks; repaired = sym a i; lost = sym b i } }

  -- of blocks that need these, one more
  pub mends-more : (u : ℕ) (needs : List Need) (i : ℕ) (need : Need) (old mid new : Mended) (xs ys : List LegRun) → i < length needs → get_or needs i need ≡ need
      → MendsBy s half n u (take i needs) old mid xs → MendsBy s half n (u + i) (need ∷ []) mid new ys → MendsBy s half n u (take (i + 1) needs) old new (xs ++ ys)
  mends-more u needs i need old mid new xs ys l e h k =
      let long : i ≡ length (take i needs) = sym (length-take-le i needs (omega (arith, l))) in
      let more = take_more needs i need l ∙ ap (λ (x : Need). take i needs ++ (x ∷ [])) e in
      subst (λ (ns : List Need). MendsBy s half n u ns old new (xs ++ ys)) (sym more)
      (mends-append u (take i needs) (need ∷ []) old mid new xs ys h (subst (λ k. MendsBy s half n (u + k) (need ∷ []) mid new ys) long k))

-- ---- one block

none-same : (o : Option Why) → is_none o ≡ none_of o
none-same None = refl
none-same (Some why) = refl

counted : (ws : List (Option Why)) (o : Option Why) (b : Bool) → b ≡ none_of o → ws ≡ o ∷ [] → accepted_of ws ≡ from_bool b
counted ws None b e w = ap accepted_of w ∙ sym (ap from_bool e)
counted ws (Some why) b e w = ap accepted_of w ∙ sym (ap from_bool e)

module _ (s : Script) (half n u : ℕ) (need : Need) (d : Mended) where
  pub mends-fine : need ≡ Fine → MendsBy s half n u (need ∷ []) d d []
  mends-fine e = subst (λ (x : Need). MendsBy s half n u (x ∷ []) d d []) (sym e)
      (let a = add-zero d.repaired in let b = add-zero d.lost in record { mends = tt; new_is = λ i. record { marks = d.marks; repaired = sym a i; lost = sym b i } })

  pub mends-lost : need ≡ Lost → MendsBy s half n u (need ∷ []) d (record d { lost = d.lost + 1 }) []
  mends-lost e = subst (λ (x : Need). MendsBy s half n u (x ∷ []) d (record d { lost = d.lost + 1 }) []) (sym e)
      (let a = add-zero d.repaired in record { mends = tt; new_is = λ i. record { marks = d.marks; repaired = sym a i; lost = d.lost + 1 } })

  pub mends-on0 : (e : Brought) (runs : List LegRun) (r : LegRun) (b : Bool) (m : Marks) (k : ℕ) → k ≡ from_bool b → need ≡ On0 e → runs ≡ r ∷ [] → r.own ≡ write_script s half (record (whole_stretch u n) { n = 1 }) e.app e.body
      → b ≡ none_of (get_or (found_by 1 (replies_of r)) 0 None) → m ≡ marks_of d.marks u
      → MendsBy s half n u (need ∷ []) d (record d { marks = set d.marks u (record m { leg0 = b }); repaired = d.repaired + k }) runs
  mends-on0 e runs r b m k k-is is runs-are own found same =
      let why = get_or (found_by 1 (replies_of r)) 0 None in
      let bit = found ∙ sym (none-same why) in
      let z = add-zero d.lost in
      let many = k-is ∙ sym (counted (why ∷ []) why b found refl) in
      let new : Mended = record d { marks = set d.marks u (record m { leg0 = b }); repaired = d.repaired + k } in
      subst (λ (rs : List LegRun). MendsBy s half n u (need ∷ []) d new rs) (sym runs-are)
      (subst (λ (x : Need). MendsBy s half n u (x ∷ []) d new (r ∷ [])) (sym is)
      (record { mends = (own, tt); new_is = λ i. record { marks = set d.marks u (record (same i) { leg0 = bit i }); repaired = d.repaired + many i; lost = sym z i } }))

  pub mends-on1 : (e : Brought) (runs : List LegRun) (r : LegRun) (b : Bool) (m : Marks) (k : ℕ) → k ≡ from_bool b → need ≡ On1 e → runs ≡ r ∷ [] → r.own ≡ write_script s half (record (whole_stretch u n) { n = 1; on1 = true }) e.app e.body
      → b ≡ none_of (get_or (found_by 1 (replies_of r)) 0 None) → m ≡ marks_of d.marks u
      → MendsBy s half n u (need ∷ []) d (record d { marks = set d.marks u (record m { leg1 = b }); repaired = d.repaired + k }) runs
  mends-on1 e runs r b m k k-is is runs-are own found same =
      let why = get_or (found_by 1 (replies_of r)) 0 None in
      let bit = found ∙ sym (none-same why) in
      let z = add-zero d.lost in
      let many = k-is ∙ sym (counted (why ∷ []) why b found refl) in
      let new : Mended = record d { marks = set d.marks u (record m { leg1 = b }); repaired = d.repaired + k } in
      subst (λ (rs : List LegRun). MendsBy s half n u (need ∷ []) d new rs) (sym runs-are)
      (subst (λ (x : Need). MendsBy s half n u (x ∷ []) d new (r ∷ [])) (sym is)
      (record { mends = (own, tt); new_is = λ i. record { marks = set d.marks u (record (same i) { leg1 = bit i }); repaired = d.repaired + many i; lost = sym z i } }))

-- ---- a stretch

pub stretched : (s : Script) (half u n : ℕ) (old new : Mended) (xs ys zs : List LegRun) (w0 w1 : List Bool) (g0 g1 : List (Option Brought))
    → w0 ≡ fresh_on0 (take n (drop u old.marks)) → w1 ≡ fresh_on1 (take n (drop u old.marks)) → AreOf (read_pi_script s half) (whole_stretch u n) (stretches w0) xs
    → AreOf (read_pi_script s half) (record (whole_stretch u n) { on1 = true }) (stretches w1) ys → g0 ≡ looked s.block n w0 xs → g1 ≡ looked s.block n w1 ys → MendsBy s half n u (needs_by g0 g1) old new zs
    → StretchBy s half u n old new (xs ++ (ys ++ zs))
stretched s half u n old new xs ys zs w0 w1 g0 g1 e0 e1 a0 a1 l0 l1 m =
    let x0 = l0 ∙ ap (λ (w : List Bool). looked s.block n w xs) e0 in
    let x1 = l1 ∙ ap (λ (w : List Bool). looked s.block n w ys) e1 in
    record {
      looks0 = xs;
      looks1 = ys;
      mends = zs;
      runs_are = refl;
      on0 = subst (λ (w : List Bool). AreOf (read_pi_script s half) (whole_stretch u n) (stretches w) xs) e0 a0;
      on1 = subst (λ (w : List Bool). AreOf (read_pi_script s half) (record (whole_stretch u n) { on1 = true }) (stretches w) ys) e1 a1;
      needs = needs_by g0 g1;
      needs_are = λ i. needs_by (x0 i) (x1 i);
      mends_are = m.mends;
      new_is = m.new_is;
    }

-- ---- some stretches, and then others

module _ (s : Script) (half : ℕ) where
  repair-join : (u a b : ℕ) (old mid new : Mended) (xs ys : List LegRun) → RepairBy s half u a old mid xs → RepairBy s half (u + 128 * a) b mid new ys → RepairBy s half u (a + b) old new (xs ++ ys)
  repair-join u zero b old mid new xs ys h k =
      let z : u + 128 * 0 ≡ u = omega arith in
      let b-is : b ≡ 0 + b = omega arith in
      subst (λ k. RepairBy s half u k old new (xs ++ ys)) b-is (subst (λ (rs : List LegRun). RepairBy s half u b old new (rs ++ ys)) (sym h.1) (subst (λ (d : Mended). RepairBy s half u b d new ys) h.0 (subst (λ v. RepairBy s half v b mid new ys) z k)))
  repair-join u (suc a) b old mid new xs ys h k =
      let e : u + 128 * suc a ≡ (u + 128) + 128 * a = omega arith in
      let more : suc (a + b) ≡ suc a + b = omega arith in
      subst (λ k. RepairBy s half u k old new (xs ++ ys)) more (
        h.0,
        (
          h.1.0,
          (
            h.1.1.0 ++ ys,
            (
              ap (λ (rs : List LegRun). rs ++ ys) h.1.1.1.0 ∙ append_assoc h.1.0 h.1.1.0 ys,
              (h.1.1.1.1.0, repair-join (u + 128) a b h.0 mid new h.1.1.0 ys h.1.1.1.1.1 (subst (λ v. RepairBy s half v b mid new ys) e k)),
            ),
          ),
        ),
      )

  -- of all stretches, one more
  pub repair-more : (i : ℕ) (old mid new : Mended) (xs ys : List LegRun) → RepairBy s half 0 i old mid xs → StretchBy s half (128 * i) (min 128 (half - 128 * i)) mid new ys → RepairBy s half 0 (i + 1) old new (xs ++ ys)
  repair-more i old mid new xs ys h k =
      let z : 128 * i ≡ 0 + 128 * i = omega arith in
      repair-join 0 i 1 old mid new xs ys h (new, (ys, ([], (sym (append-nil ys), (subst (λ u. StretchBy s half u (min 128 (half - u)) mid new ys) z k, (refl, refl))))))

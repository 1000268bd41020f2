-- Runs of the two kinds.
use Rattle.std.proofs.Common.{◌≡◌, ℕ, ◌-◌, ◌*◌, ◌+◌, List, [], ◌++◌, refl, sym, ap, ◌∙◌, subst}
use Rattle.pi_guard.specs.declared.GuardKind.{GuardKind}
use Rattle.pi_guard.specs.declared.GuardKind.TheVariants.{Crc, Ip}
use Rattle.pi_guard.specs.declared.GuardRun.{GuardRun}
use Rattle.pi_guard.specs.declared.RunState.{RunState}
use Rattle.pi_guard.specs.Guards.{crc, ip, word_sum, guard_of}
use Rattle.pi_guard.specs.Register.{register}
use Rattle.pi_guard.specs.Words.{folded, little_sum, is_half_open, half_open_after, weight_of}
use Rattle.pi_guard.specs.Stands.{IsKept, IsKeptAs, Stands, StandsAs, kind_of}
use Rattle.pi_guard.proofs.RegisterLemmas.{register-append, crc-register}
use Rattle.pi_guard.proofs.Sums.{complement, more_words, half_open-append}

as_kind : (k : GuardKind) (run : GuardRun) (b : List ℕ) → run.kind ≡ k → Stands run b → StandsAs k run b
unfolding Stands
as_kind k run b e h = subst (λ v. StandsAs v run b) e h

of_kind : (k : GuardKind) (run : GuardRun) (b : List ℕ) → run.kind ≡ k → StandsAs k run b → Stands run b
unfolding Stands
of_kind k run b e h = subst (λ v. StandsAs v run b) (sym e) h

pub stands_new : (kind : GuardKind) (run : GuardRun) → run.kind ≡ kind → run.register ≡ 0 → run.sum ≡ 0 → run.half_open ≡ is_half_open [] → Stands run []
unfolding StandsAs crc folded
stands_new Crc run k r s o = of_kind Crc run [] k r
stands_new Ip run k r s o = of_kind Ip run [] k (s, o)

pub crc_more : (old new : GuardRun) (b part : List ℕ) → old.kind ≡ Crc → new.kind ≡ old.kind → new.register ≡ register old.register part →
    Stands old b → Stands new (b ++ part)
unfolding StandsAs
crc_more old new b part k e r h =
    let was : old.register ≡ crc b = as_kind Crc old b k h in
    of_kind Crc new (b ++ part) (e ∙ k)
    (r ∙ ap (λ v. register v part) (was ∙ crc-register b) ∙ sym (register-append 0 b part) ∙ sym (crc-register (b ++ part)))

pub ip_more : (old new : GuardRun) (b part : List ℕ) → old.kind ≡ Ip → new.kind ≡ old.kind →
    new.sum ≡ folded (old.sum + weight_of old.half_open * little_sum part) → new.half_open ≡ half_open_after old.half_open part →
    Stands old b → Stands new (b ++ part)
unfolding StandsAs
ip_more old new b part k e s o h =
    let was : (old.sum ≡ folded (word_sum b)) × (old.half_open ≡ is_half_open b) = as_kind Ip old b k h in
    of_kind Ip new (b ++ part) (e ∙ k) (
      s ∙ ap (λ v. folded (v + weight_of old.half_open * little_sum part)) was.0 ∙ ap (λ v. folded (folded (word_sum b) + weight_of v * little_sum part)) was.1 ∙ more_words b part,
      o ∙ ap (λ v. half_open_after v part) was.1 ∙ half_open-append b part,
    )

pub crc_ends : (run : GuardRun) (b : List ℕ) → run.kind ≡ Crc → Stands run b → run.register ≡ guard_of (kind_of run) b
unfolding StandsAs kind_of
crc_ends run b k h = as_kind Crc run b k h ∙ ap (λ v. guard_of v b) (sym k)

pub ip_ends : (run : GuardRun) (b : List ℕ) → run.kind ≡ Ip → Stands run b → 65535 - run.sum ≡ guard_of (kind_of run) b
unfolding StandsAs kind_of ip
ip_ends run b k h = ap (λ v. 65535 - v) (as_kind Ip run b k h).0 ∙ complement (word_sum b) ∙ ap (λ v. guard_of v b) (sym k)

-- the remainder of bytes that go on
pub crc_goes_on : (guard after : ℕ) (before bytes : List ℕ) → guard ≡ crc before → after ≡ register guard bytes → after ≡ crc (before ++ bytes)
crc_goes_on guard after before bytes e r = r ∙ ap (λ v. register v bytes) (e ∙ crc-register before) ∙ sym (register-append 0 before bytes) ∙ sym (crc-register (before ++ bytes))

-- runs and their states

kept_as : (k : GuardKind) (state : RunState) (b : List ℕ) → state.kind ≡ k → IsKept state b → IsKeptAs k state b
unfolding IsKept
kept_as k state b e h = subst (λ v. IsKeptAs v state b) e h

as_kept : (k : GuardKind) (state : RunState) (b : List ℕ) → state.kind ≡ k → IsKeptAs k state b → IsKept state b
unfolding IsKept
as_kept k state b e h = subst (λ v. IsKeptAs v state b) (sym e) h

stands_by : (k : GuardKind) (state : RunState) (run : GuardRun) (b : List ℕ) → state.kind ≡ k → run.kind ≡ k → run.register ≡ state.value → run.sum ≡ state.value → run.half_open ≡ state.half_open → IsKept state b → Stands run b
unfolding StandsAs IsKeptAs
stands_by Crc state run b e f r s o h = of_kind Crc run b f (r ∙ kept_as Crc state b e h)
stands_by Ip state run b e f r s o h = let was = kept_as Ip state b e h in of_kind Ip run b f (s ∙ was.0, o ∙ was.1)

pub stands_again : (state : RunState) (run : GuardRun) (b : List ℕ) → run.kind ≡ state.kind → run.register ≡ state.value → run.sum ≡ state.value → run.half_open ≡ state.half_open → IsKept state b → Stands run b
stands_again state run b e r s o h = stands_by state.kind state run b refl e r s o h

pub crc_kept : (run : GuardRun) (state : RunState) (b : List ℕ) → run.kind ≡ Crc → state.kind ≡ run.kind → state.value ≡ run.register → Stands run b → IsKept state b
unfolding StandsAs IsKeptAs
crc_kept run state b k e v h = as_kept Crc state b (e ∙ k) (v ∙ as_kind Crc run b k h)

pub ip_kept : (run : GuardRun) (state : RunState) (b : List ℕ) → run.kind ≡ Ip → state.kind ≡ run.kind → state.value ≡ run.sum → state.half_open ≡ run.half_open → Stands run b → IsKept state b
unfolding StandsAs IsKeptAs
ip_kept run state b k e v o h = let was = as_kind Ip run b k h in as_kept Ip state b (e ∙ k) (v ∙ was.0, o ∙ was.1)

-- the sum of all the bytes, begun with none
pub ip_whole : (total : ℕ) (bytes : List ℕ) → total ≡ folded (0 + weight_of (is_half_open []) * little_sum bytes) → 65535 - total ≡ ip bytes
unfolding ip folded
ip_whole total bytes e = ap (λ v. 65535 - v) (e ∙ more_words [] bytes) ∙ complement (word_sum bytes)

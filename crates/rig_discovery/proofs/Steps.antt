-- One look after another.
use Rattle.std.proofs.Common.{ℕ, zero, suc, ◌≡◌, ◌+◌, ◌^◌, ◌-◌, ◌<◌, List, [], ◌∷◌, ◌++◌, length, take, Option, Some, None, refl, sym, ap, ◌∙◌, arith, append_assoc, length-append}
use Rattle.std.specs.Prelude.{map, slice_index_or}
use Rattle.rig_api.specs.declared.units.UnitSpec.{UnitSpec}
use Rattle.rig_api.specs.Log.{LogEntry, HasRoom, Room}
use Rattle.rig_api.specs.Telling.{Standing, no_spec, spec_at}
use Rattle.rig_api.specs.declared.rig.Outcome.{Outcome}
use Rattle.volume_table.specs.declared.device.DeviceInfo.{DeviceInfo}
use Rattle.rig_discovery.specs.Answers.{told_by}
use Rattle.rig_discovery.specs.Discovery.{LookAnswer, Ends, Spent, all_told, entry_of_look, info_of, looks, told, with_info}

pub asked_is : (s s' : Standing) (dev first size : ℕ) (o : Outcome) (bytes : List ℕ) (result : Option DeviceInfo) → s' ≡ s → first ≡ (spec_at s' dev).first → size ≡ (spec_at s' dev).size → result ≡ told_by first size o bytes →
    result ≡ told_by (spec_at s dev).first (spec_at s dev).size o bytes
asked_is s s' dev first size o bytes result e f z r =
    r ∙ ap (λ n. told_by n size o bytes) (f ∙ ap (λ (v : Standing). (spec_at v dev).first) e) ∙ ap (λ n. told_by (spec_at s dev).first n o bytes) (z ∙ ap (λ (v : Standing). (spec_at v dev).size) e)

looks_more : (s : Standing) (d k : ℕ) (xs : List LookAnswer) (a : LookAnswer) → k ≡ d + length xs → looks s d (xs ++ (a ∷ [])) ≡ looks s d xs ++ (entry_of_look s k a ∷ [])
looks_more s d k [] a e = let n : d ≡ k = omega arith in rw n refl
looks_more s d k (b ∷ xs) a e = ap (λ (v : List LogEntry). entry_of_look s d b ∷ v) (looks_more s (d + 1) k xs a (omega arith))

all_more : (s : Standing) (d k : ℕ) (xs : List LookAnswer) (a : LookAnswer) (found : List DeviceInfo) (i : DeviceInfo) → k ≡ d + length xs → all_told s d xs ≡ Some found → told s k a ≡ Some i → all_told s d (xs ++ (a ∷ [])) ≡ Some (found ++ (i ∷ []))
all_more s d k [] a found i e h t = let n : d ≡ k = omega arith in let f : found ≡ [] = cc in rw (n, t, f) refl
all_more s d k (b ∷ xs) a found i e h t = more (told s d b) (all_told s (d + 1) xs) h (λ rest r. all_more s (d + 1) k xs a rest i (omega arith) r t)
  where
    more : (x : Option DeviceInfo) (rest : Option (List DeviceInfo)) → with_info x rest ≡ Some found → ((v : List DeviceInfo) → rest ≡ Some v → all_told s (d + 1) (xs ++ (a ∷ [])) ≡ Some (v ++ (i ∷ []))) →
        with_info x (all_told s (d + 1) (xs ++ (a ∷ []))) ≡ Some (found ++ (i ∷ []))
    more None rest p f = absurd (cc)
    more (Some y) None p f = absurd (cc)
    more (Some y) (Some v) p f = let q : found ≡ y ∷ v = cc in rw (f v refl, q) refl

-- the looks so far
pub record SoFar (s : Standing) (dev : ℕ) (found : List DeviceInfo) (old new : List LogEntry) : Type 0 where
  pub answers : List LookAnswer
  pub each : length answers ≡ dev
  pub log : new ≡ old ++ looks s 0 answers
  pub told : all_told s 0 answers ≡ Some found

log_more : (s : Standing) (dev : ℕ) (xs : List LookAnswer) (a : LookAnswer) (old mid new : List LogEntry) → length xs ≡ dev → mid ≡ old ++ looks s 0 xs → new ≡ mid ++ (entry_of_look s dev a ∷ []) → new ≡ old ++ (looks s 0 xs ++ (entry_of_look s dev a ∷ []))
log_more s dev xs a old mid new n p q = q ∙ ap (λ (v : List LogEntry). v ++ (entry_of_look s dev a ∷ [])) p ∙ append_assoc old (looks s 0 xs) (entry_of_look s dev a ∷ [])

pub one_more : (s : Standing) (dev : ℕ) (found : List DeviceInfo) (i : DeviceInfo) (old mid new : List LogEntry) (result : Option DeviceInfo) → SoFar s dev found old mid → (a : LookAnswer) × (result ≡ told s dev a) × (new ≡ mid ++ (entry_of_look s dev a ∷ [])) → result ≡ Some i → SoFar s (dev + 1) (found ++ (i ∷ [])) old new
one_more s dev found i old mid new result so asked r =
    let n : dev ≡ 0 + length so.answers = omega (arith, so.each) in
    record {
      answers = so.answers ++ (asked.0 ∷ []);
      each = length-append so.answers (asked.0 ∷ []) ∙ omega (arith, so.each);
      log = log_more s dev so.answers asked.0 old mid new so.each so.log asked.2 ∙ ap (λ (v : List LogEntry). old ++ v) (sym (looks_more s 0 dev so.answers asked.0 n));
      told = all_more s 0 dev so.answers asked.0 found i n so.told (sym asked.1 ∙ r);
    }

-- the devices so far, xs the head tells them
pub infos_more : (us : List UnitSpec) (dev : ℕ) (found : List DeviceInfo) (i : DeviceInfo) → dev < length us → found ≡ map info_of (take dev us) → i ≡ info_of (slice_index_or us dev no_spec) → found ++ (i ∷ []) ≡ map info_of (take (dev + 1) us)
infos_more us dev found i l f e = rw (f, e) (taken us dev l)
  where
    taken : (us : List UnitSpec) (dev : ℕ) → dev < length us → map info_of (take dev us) ++ (info_of (slice_index_or us dev no_spec) ∷ []) ≡ map info_of (take (dev + 1) us)
    taken [] dev l = absurd (omega arith)
    taken (u ∷ us) zero l = refl
    taken (u ∷ us) (suc dev) l = let n : suc dev + 1 ≡ suc (dev + 1) = omega arith in rw n (ap (λ (v : List DeviceInfo). info_of u ∷ v) (taken us dev (omega arith)))

pub room_more : (size n dev : ℕ) (old new : Room) → dev < n → HasRoom size (n - dev) 0 old → Spent 1 old new → HasRoom size (n - (dev + 1)) 0 new
room_more size n dev old new l h s = record { records = omega (arith, h.records, s.records); labels = omega (arith, h.labels, s.labels); moved = omega (arith, h.moved, s.moved) }

-- what was told of the device that was asked last
pub told_last : (s s' : Standing) (dev : ℕ) (result : Option DeviceInfo) (i : DeviceInfo) → s' ≡ s → result ≡ Some i → result ≡ Some (info_of (spec_at s' dev)) → i ≡ info_of (spec_at s dev)
told_last s s' dev result i e p q = let k : i ≡ info_of (spec_at s' dev) = cc in k ∙ ap (λ (v : Standing). info_of (spec_at v dev)) e

pub spent_more : (n : ℕ) (a b c : Room) → Spent n a b → Spent 1 b c → Spent (n + 1) a c
spent_more n a b c p q = record { records = omega (arith, p.records, q.records); labels = omega (arith, p.labels, q.labels); moved = omega (arith, p.moved, q.moved) }

pub ends_more : (found : List DeviceInfo) (i : DeviceInfo) → Ends found → i.first + i.blocks < 2 ^ 64 → Ends (found ++ (i ∷ []))
ends_more [] i e h = (h, tt)
ends_more (d ∷ ds) i e h = (e.0, ends_more ds i e.1 h)

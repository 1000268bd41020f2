-- The records of commands, one after another.
use Rattle.std.proofs.Common.{◌≡◌, ◌⊎◌, inl, inr, ◌≤◌, ℕ, zero, suc, true, false, List, [], ◌∷◌, ◌++◌, length, map, get_or, set, refl, sym, ap, subst, ◌∙◌, arith}
use Rattle.std.proofs.lemmas.Bool.{false≢true}
use Rattle.bio_core.specs.declared.bio.Bio.{Bio}
use Rattle.bio_core.specs.declared.fate.Fate.{Fate}
use Rattle.bio_core.specs.declared.request.Dir.{Dir}
use Rattle.bio_core.specs.declared.request.Dir.TheVariants.{Read as Reads, Write as Writes}
use Rattle.cdb_codec.specs.Decoded.{decoded}
use Rattle.cdb_codec.specs.Forms.{Fits, form}
use Rattle.cdb_codec.proofs.Inverse.{decoded_form}
use Rattle.dix_adapter.specs.declared.adapter.Adapter.{Adapter}
use Rattle.dix_adapter.specs.Carried.{any_fails, command_for, command_of, way_of}
use Rattle.dix_adapter.specs.Groups as Carry
use Rattle.dix_adapter.specs.Groups.{mode_of}
use Rattle.dix_adapter.proofs.Asking.{asked-for, count-is, lba-is}
use Rattle.merge_queue.specs.Groups.{dir_of, lba_of}
use Rattle.rig_api.specs.Log.{LogEntry as Record}
use Rattle.rig_api.specs.Requests.{request_of}
use Rattle.stack_laws.specs.Runs.{sent}
use Rattle.stack_laws.specs.View.{Command, OpView, no_command}
use Rattle.stack_core.specs.OnRecord.{AreOnRecord, AreRecords, AreTraced, AsksFor, IsFormed, IsKeptBad, IsRecordOf, IsTraced}
use Rattle.stack_core.proofs.Sending.{same-size}

-- one command more, with its record or held back
pub recorded_more : (cs : List Command) (c : Command) (log : List Record) (e : Record) → AreOnRecord cs log → IsRecordOf (sent c) e → AreOnRecord (cs ++ (c ∷ [])) (log ++ (e ∷ []))
recorded_more [] c [] e h r = inl (r, tt)
recorded_more [] c (x ∷ log) e h r = absurd h
recorded_more (d ∷ cs) c [] e h r = inr (h.0, recorded_more cs c [] e h.1 r)
recorded_more (d ∷ cs) c (x ∷ log) e (inl h) r = inl (h.0, recorded_more cs c log e h.1 r)
recorded_more (d ∷ cs) c (x ∷ log) e (inr h) r = inr (h.0, recorded_more cs c (x ∷ log) e h.1 r)

pub held_more : (cs : List Command) (c : Command) (log : List Record) → AreOnRecord cs log → any_fails c.fates ≡ true → AreOnRecord (cs ++ (c ∷ [])) log
held_more [] c [] h b = (b, tt)
held_more [] c (x ∷ log) h b = absurd h
held_more (d ∷ cs) c [] h b = (h.0, held_more cs c [] h.1 b)
held_more (d ∷ cs) c (x ∷ log) (inl h) b = inl (h.0, held_more cs c log h.1 b)
held_more (d ∷ cs) c (x ∷ log) (inr h) b = inr (h.0, held_more cs c (x ∷ log) h.1 b)

-- a command that is completed stays on record
pub recorded_still : (cs : List Command) (j : ℕ) (log : List Record) → AreOnRecord cs log → AreOnRecord (set cs j (record (get_or cs j no_command) { completed = true })) log
recorded_still [] j log h = h
recorded_still (d ∷ cs) zero [] h = h
recorded_still (d ∷ cs) zero (x ∷ log) (inl h) = inl h
recorded_still (d ∷ cs) zero (x ∷ log) (inr h) = inr h
recorded_still (d ∷ cs) (suc j) [] h = (h.0, recorded_still cs j [] h.1)
recorded_still (d ∷ cs) (suc j) (x ∷ log) (inl h) = inl (h.0, recorded_still cs j log h.1)
recorded_still (d ∷ cs) (suc j) (x ∷ log) (inr h) = inr (h.0, recorded_still cs j (x ∷ log) h.1)

-- there is at most one for each
pub few_records : (cs : List Command) (log : List Record) → AreOnRecord cs log → length log ≤ length cs
few_records [] [] h = omega arith
few_records [] (x ∷ log) h = absurd h
few_records (d ∷ cs) [] h = omega arith
few_records (d ∷ cs) (x ∷ log) (inl h) = let r = few_records cs log h.1 in omega arith
few_records (d ∷ cs) (x ∷ log) (inr h) = let r = few_records cs (x ∷ log) h.1 in omega (arith, r)

-- none of these has a bad block
abbrev pub NoneFails : List Command → Type 0
NoneFails [] = Unit {0}
NoneFails (c ∷ cs) = (any_fails c.fates ≡ false) × NoneFails cs

pub each_recorded : (cs : List Command) (log : List Record) → NoneFails cs → AreOnRecord cs log → AreRecords (map sent cs) log
each_recorded [] [] n h = tt
each_recorded [] (x ∷ log) n h = absurd h
each_recorded (d ∷ cs) [] n h = absurd (false≢true (sym n.0 ∙ h.0))
each_recorded (d ∷ cs) (x ∷ log) n (inl h) = (h.0, each_recorded cs log n.1 h.1)
each_recorded (d ∷ cs) (x ∷ log) n (inr h) = absurd (false≢true (sym n.0 ∙ h.0))

-- ---- bad blocks

-- one command more, in flight
pub traced_more : (ops : List OpView) (starts : List ℕ) (held : List Fate) (cs : List Command) (c : Command) → AreTraced ops starts held cs → IsTraced ops starts held c → AreTraced ops starts held (cs ++ (c ∷ []))
traced_more ops starts held [] c h t = (t, tt)
traced_more ops starts held (d ∷ cs) c h t = (h.0, traced_more ops starts held cs c h.1 t)

-- where the blocks that are settled stay so
pub traced_still : (ops ops' : List OpView) (starts : List ℕ) (held : List Fate) (cs : List Command) → (IsKeptBad ops starts held → IsKeptBad ops' starts held) → AreTraced ops starts held cs → AreTraced ops' starts held cs
traced_still ops ops' starts held [] f h = tt
traced_still ops ops' starts held (c ∷ cs) f h = (record { good = h.0.good; bad = λ e. by (h.0.bad e) }, traced_still ops ops' starts held cs f h.1)
  where
    by : ((c.completed ≡ false) ⊎ IsKeptBad ops starts held) → (c.completed ≡ false) ⊎ IsKeptBad ops' starts held
    by (inl x) = inl x
    by (inr x) = inr (f x)

-- ---- the record of a group

first_lba : (g : List Bio) → (Carry.first_of g).lba ≡ lba_of g
first_lba [] = refl
first_lba (b ∷ bs) = refl

first_dir : (g : List Bio) → (Carry.first_of g).dir ≡ dir_of g
first_dir [] = refl
first_dir (b ∷ bs) = refl

asks : (a : Adapter) (dir : Dir) (dev lba n : ℕ) → AsksFor (request_of (command_for a (way_of dir) lba n)) (record { dev = dev; dir = dir; lba = lba; count = n })
asks a Reads dev lba n = subst (λ r. AsksFor r (record { dev = dev; dir = Reads; lba = lba; count = n })) (sym (asked-for a (way_of Reads) lba n)) (refl, lba-is a lba n, count-is a lba n)
asks a Writes dev lba n = subst (λ r. AsksFor r (record { dev = dev; dir = Writes; lba = lba; count = n })) (sym (asked-for a (way_of Writes) lba n)) (refl, lba-is a lba n, count-is a lba n)

pub record_of : (a : Adapter) (d : ℕ) (g : List Bio) (fates : List Fate) (e : Record) → (Carry.first_of g).dev ≡ d → e.what.dev ≡ (Carry.first_of g).dev → e.what.cdb ≡ form (command_of a g) → Fits (command_of a g) → IsRecordOf (sent (record { dev = d; bios = g; fates = fates; completed = false })) e
record_of a d g fates e on dev cdb fits =
    let same : record { dev = d; dir = (Carry.first_of g).dir; lba = (Carry.first_of g).lba; count = Carry.size g } ≡ sent (record { dev = d; bios = g; fates = fates; completed = false })
    = ap (λ x. record { dev = d; dir = x; lba = (Carry.first_of g).lba; count = Carry.size g }) (first_dir g)
    ∙ (ap (λ x. record { dev = d; dir = dir_of g; lba = x; count = Carry.size g }) (first_lba g) ∙ ap (λ x. record { dev = d; dir = dir_of g; lba = lba_of g; count = x }) (same-size g)) in
    record {
      dev = dev ∙ on;
      cdb = command_of a g;
      decodes = ap decoded cdb ∙ decoded_form (command_of a g) fits;
      asks = subst (AsksFor (request_of (command_of a g))) same (asks a (Carry.first_of g).dir d (Carry.first_of g).lba (Carry.size g));
    }

pub formed_of : (a : Adapter) (g : List Bio) (e : Record) → e.what.cdb ≡ form (command_of a g) → Fits (command_of a g) → IsFormed (mode_of a) a.ty e
formed_of a g e cdb fits = record { dir = way_of (Carry.first_of g).dir; lba = (Carry.first_of g).lba; n = Carry.size g; fits = fits; cdb = cdb }

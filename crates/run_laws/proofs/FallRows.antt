-- A write whose store call fails half way, worked by hand: until the next accepted write its block is lost.
use Rattle.std.proofs.Common.{◌≡◌, ◌<◌, ◌+◌, ℕ, zero, suc, Bool, true, false, eqb, if◌then◌else◌, List, [], ◌∷◌, ◌++◌, drop, map, Option, Some, None, refl, sym, arith, length, get_or}
use Rattle.std.specs.Prelude.{replicate}
use Rattle.std.specs.List.{All}
use Rattle.std.proofs.lemmas.List.Elements.{All-append, All-cons, All-nil, All-replicate}
use Rattle.pi_guard.specs.Guards.{crc, ip}
use Rattle.pi_tuple.specs.declared.checks.Check.TheVariants.{Guard}
use Rattle.page_pool.specs.Places.{run}
use Rattle.integrity_payload.specs.declared.payload.Owner.TheVariants.{Block as OfBlock}
use Rattle.walk_laws.specs.Passed.{Op, Fetch, Put, Write, WritePi, Bad, Silent, Whole, found_in, from_medium, to_medium, act, tell, plain_tells, from_wire, to_wire, TheVariantsMedium as Medium, Target}
use Rattle.walk_laws.specs.CalmRun.{AllFit}
use Rattle.walk_laws.specs.Past.{steps_from}
use Rattle.walk_laws.specs.Settings.{Block, Setting, block_of}
use Rattle.walk_laws.specs.UnderMap.{IsClean, address_of, home}
use Rattle.walk_laws.proofs.ScriptRows.{faulty, formatted, opening, seg}
use Rattle.run_laws.specs.FallingReads.{IsReadOrFails, falling_replies}
use Rattle.run_laws.specs.FallingWrites.{FailsAtMediumAlone, finds_then}
use Rattle.run_laws.specs.StoreFaults.{IsFallingRun, falling_past, is_lost, may_fall}
use Rattle.run_laws.proofs.FallingOps.{reads_or_fails}
use Rattle.run_laws.proofs.FallingWrites.{app_write_fails, own_write_fails}
use Rattle.run_laws.proofs.ShownRows.{one_list, two_lists}
use Rattle.small_laws.proofs.Tests.{never}

abbrev m : Setting
m = faulty []

abbrev before : List Op
before = Put 0 0 (1 ∷ []) ∷ Write 0 1 (seg 0 512) 0 ∷ Fetch 0 1 (seg 512 512) ∷ Write 0 1 (seg 0 512) 0 ∷ []

abbrev ops : List Op
ops = before ++ (Fetch 0 1 (seg 512 512) ∷ [])

-- the first half of the block stands
abbrev falls : Block → Option (List ℕ)
falls b = if eqb b.op 2 then Some (1 ∷ (replicate 259 0 ++ drop 260 (formatted 2))) else None

whys_are : map (λ a. a.why) (plain_tells (λ step s. act (may_fall m falls step) s) (λ step s. tell (may_fall m falls step) s) (steps_from m 1 ops) opening) ≡ None ∷ Some Medium ∷ Some (Target Guard) ∷ None ∷ None ∷ []
unfolding crc ip found_in to_medium from_medium to_wire from_wire run
whys_are = refl

abbrev lost_after : List Op → ℕ → Bool
lost_after ops i = is_lost (block_of i 0 0) (falling_past m falls (steps_from m 1 ops) opening [])

lost_then : lost_after (Put 0 0 (1 ∷ []) ∷ Write 0 1 (seg 0 512) 0 ∷ []) 3 ≡ true
unfolding crc ip found_in to_medium from_medium to_wire from_wire run
lost_then = refl

found_again : lost_after before 5 ≡ false
unfolding crc ip found_in to_medium from_medium to_wire from_wire run
found_again = refl

-- Each script that fits runs so.
falling_over : (script : List Op) → AllFit m script → IsFallingRun m script opening
unfolding crc
falling_over script fit = record {
  calm = record { faults = refl; device = refl; fails = λ op. refl; protect = omega arith; mask = λ h. never (sym h) };
  lies = record { within = within; apart = apart; size = size; bytes = bytes };
  clean = clean;
  fit = fit;
}
  where
    place : (v : ℕ) → v < 3 → home m v ≡ 2 + v
    place zero l = refl
    place (suc zero) l = refl
    place (suc (suc zero)) l = refl
    place (suc (suc (suc v))) l = absurd (omega (arith, l))

    within : (v : ℕ) → v < 3 → home m v < 5
    within v l = let e = place v l in omega (arith, e, l)

    apart : (u v : ℕ) → u < 3 → v < 3 → home m u ≡ home m v → u ≡ v
    apart u v k l e = let p = place u k in let q = place v l in omega (arith, p, q, e)

    size : (v : ℕ) → v < 3 → length (get_or opening.blocks (home m v) []) ≡ 520
    size zero l = refl
    size (suc zero) l = refl
    size (suc (suc zero)) l = refl
    size (suc (suc (suc v))) l = absurd (omega (arith, l))

    made_of_bytes : (a : ℕ) → a < 256 → All (λ x. x < 256) (formatted a)
    made_of_bytes a l = All-append (λ x. x < 256) (replicate 519 0) (a ∷ []) (All-replicate (λ x. x < 256) 519 0 (omega arith)) (All-cons (λ x. x < 256) a [] l (All-nil (λ x. x < 256)))

    bytes : (v : ℕ) → v < 3 → All (λ x. x < 256) (get_or opening.blocks (home m v) [])
    bytes zero l = made_of_bytes 2 (omega arith)
    bytes (suc zero) l = made_of_bytes 3 (omega arith)
    bytes (suc (suc zero)) l = made_of_bytes 4 (omega arith)
    bytes (suc (suc (suc v))) l = absurd (omega (arith, l))

    clean : (v : ℕ) → v < 3 → false ≡ false → IsClean m (address_of m v) (get_or opening.blocks (home m v) [])
    clean zero l h = record { no_escape = refl; guard = refl; app = refl; rtag = λ k. refl }
    clean (suc zero) l h = record { no_escape = refl; guard = refl; app = refl; rtag = λ k. refl }
    clean (suc (suc zero)) l h = record { no_escape = refl; guard = refl; app = refl; rtag = λ k. refl }
    clean (suc (suc (suc v))) l h = absurd (omega (arith, l))

-- The run meets all that the laws ask for.
falling_run : IsFallingRun m ops opening
falling_run = falling_over ops (All-cons (λ x. x < 256) 1 [] (omega arith) (All-nil (λ x. x < 256)), ((record { within = omega arith; bytes_are = refl }, omega arith), (omega arith, ((record { within = omega arith; bytes_are = refl }, omega arith), (omega arith, tt)))))

-- So does its last read: the block isn't lost then, and what lands is the second write's data, or it is listed for the medium.
last_read : IsReadOrFails m falls before OfBlock 0 1 (seg 512 512) [] [] opening 0
last_read = reads_or_fails m falls before [] OfBlock 0 1 0 (seg 512 512) [] opening (omega arith) (refl, one_list 512 512 (omega arith)) falling_run

-- The replies, by hand: the write is listed, and so is the read of what it left.
replies_are : falling_replies m falls 1 ops opening ≡ Silent ∷ Bad (record { k = 0; why = Medium } ∷ []) ∷ Bad (record { k = 0; why = Target Guard } ∷ []) ∷ Whole ∷ Whole ∷ []
unfolding crc ip found_in to_medium from_medium to_wire from_wire run
replies_are = refl

-- Its first write is listed for the medium or not at all, and so is a write with a tuple of zeros, which is that of zeros at block 0.
first_write : FailsAtMediumAlone m falls (Put 0 0 (1 ∷ []) ∷ []) (Write 0 1 (seg 0 512) 0) (drop 2 ops) opening 0
first_write = own_write_fails m falls (Put 0 0 (1 ∷ []) ∷ []) (drop 2 ops) 0 1 0 (seg 0 512) 0 opening falling_run (omega arith) refl

tuple_is_right : finds_then m falls [] 0 (seg 0 512) (seg 512 8) opening 0 ≡ None
unfolding crc run
tuple_is_right = refl

brought_write : FailsAtMediumAlone m falls [] (WritePi 0 1 (seg 0 512) (seg 512 8)) [] opening 0
brought_write =
    app_write_fails m falls [] [] 0 1 0 (seg 0 512) (seg 512 8) opening (falling_over (WritePi 0 1 (seg 0 512) (seg 512 8) ∷ []) ((record { within = omega arith; bytes_are = refl }, (refl, refl)), tt))
    (refl, (refl, (two_lists 0 512 512 8 (omega arith) (omega arith), refl))) (omega arith) tuple_is_right

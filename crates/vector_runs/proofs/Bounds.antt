-- Bounds on what a command reads.
use Rattle.std.proofs.Common.{ℕ, suc, ◌≡◌, ◌+◌, ◌*◌, ◌<◌, ◌≤◌, ◌^◌, Bool, true, false, if◌then◌else◌, List, ◌∷◌, length, get_or, drop, Some, None, refl, sym, ap, ◌∙◌, arith, add-one, drop-cons}
use Rattle.std.specs.Prelude.{Result, Ok, Err}
use Rattle.std.proofs.Math.Nat.{mul-le-mul}
use Rattle.cdb_codec.specs.Decoded.{decoded}
use Rattle.cdb_codec.specs.declared.command.Cdb.{Cdb}
use Rattle.cdb_codec.specs.declared.command.CdbFault.{CdbFault}
use Rattle.rig_api.specs.Requests.{request_of}
use Rattle.script_lines.specs.declared.kind.ScriptKind.TheVariants.{BadRange}
use Rattle.vector_lines.specs.declared.line.VectorLine.{VectorLine}
use Rattle.rig_api.specs.declared.request.Request.{Request}
use Rattle.rig_api.specs.declared.request.Request.TheVariants.{Read, Write, Verify, ReadCapacity}
use Rattle.rig_api.specs.Log.{capacity_by, capacity_len, capacity_under}
use Rattle.vector_runs.specs.Done.{room_by, room_of, room_under}
use Rattle.vector_runs.specs.Ranges.{is_inside, out_of_range}

-- so many frames of at most so many bytes
pub within : (n len : ℕ) → n ≤ 1024 → len ≤ 4294967303 → n * len < 2 ^ 64
within n len h g = let p : n * len ≤ 1024 * 4294967303 = mul-le-mul h g in omega arith

by_request : (size : ℕ) (r : Request) → capacity_by r (room_by size r) ≤ 32
by_request size (Read c) = omega arith
by_request size (Write c) = omega arith
by_request size (Verify c) = omega arith
by_request size (ReadCapacity len) = omega arith

by_command : (size : ℕ) (r : Result Cdb CdbFault) → capacity_under r (room_under size r) ≤ 32
by_command size (Ok cdb) = by_request size (request_of cdb)
by_command size (Err fault) = omega arith

-- READ CAPACITY gets no more room than a record keeps
pub few_told : (size : ℕ) (cdb : List ℕ) → capacity_len cdb (room_of size cdb) ≤ 32
few_told size cdb = by_command size (decoded cdb)

-- the first line is inside, and so are the others
pub next_inside : (n : ℕ) (l : VectorLine) (ls : List VectorLine) → out_of_range n (l ∷ ls) ≡ None → (is_inside n l ≡ true) × (out_of_range n ls ≡ None)
next_inside n l ls h = by (is_inside n l) refl h
  where
    by : (b : Bool) → is_inside n l ≡ b → (if b then out_of_range n ls else Some (record { line = l.number; kind = BadRange })) ≡ None → (is_inside n l ≡ true) × (out_of_range n ls ≡ None)
    by true p h = (p, h)
    by false p h = absurd (cc)

-- the same of the line of this place
pub next_at : (n i : ℕ) (lines : List VectorLine) (l : VectorLine) → l ≡ get_or lines i l → i < length lines → out_of_range n (drop i lines) ≡ None → (is_inside n l ≡ true) × (out_of_range n (drop (i + 1) lines) ≡ None)
next_at n i lines l is h r =
    let x = next_inside n (get_or lines i l) (drop (suc i) lines) (ap (out_of_range n) (sym (drop-cons lines i l h)) ∙ r) in
    (ap (is_inside n) is ∙ x.0, ap (λ k. out_of_range n (drop k lines)) (add-one i) ∙ x.1)

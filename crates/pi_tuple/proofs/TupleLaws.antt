-- A tuple is read back from its eight bytes; which tags a block has of its own.
use Rattle.std.proofs.Common.{ℕ, ◌<◌, ◌^◌, arith, lit<, ◌≡◌, true, refl}
use Rattle.pi_tuple.specs.Tuples.{ref_tag, tuple_in, tuple_bytes}
use Rattle.std.proofs.lemmas.Nat.{mod_below, from_be_bytes-to_be_bytes_2, from_be_bytes-to_be_bytes_4}
use Rattle.pi_tuple.specs.declared.checks.PiType.{PiType}
use Rattle.pi_tuple.specs.Finds.{own_tag, has_ref_tag}
use Rattle.pi_tuple.specs.declared.checks.PiType.TheVariants.{Zero, One, Two, Three}
use Rattle.std.proofs.lemmas.Bool.{false≢true}
use Rattle.pi_tuple.specs.declared.tuple.Tuple.{Tuple}

pub tag_below : (n : ℕ) → ref_tag n < 2 ^ 32
tag_below n = mod_below n (2 ^ 32) (omega arith)

pub own_below : (ty : PiType) (lba : ℕ) → own_tag ty lba < 2 ^ 32
own_below Zero lba = lit< tt
own_below One lba = tag_below lba
own_below Two lba = tag_below lba
own_below Three lba = lit< tt

pub own_is : (ty : PiType) (lba : ℕ) → has_ref_tag ty ≡ true → own_tag ty lba ≡ ref_tag lba
own_is Zero lba h = absurd (false≢true h)
own_is One lba h = refl
own_is Two lba h = refl
own_is Three lba h = absurd (false≢true h)

pub same_fields : {g h a b r s : ℕ} → g ≡ h → a ≡ b → r ≡ s → ◌≡◌ {A = Tuple} (record { guard = g; app = a; rtag = r }) (record { guard = h; app = b; rtag = s })
same_fields p q u = cc

-- a tuple that is spelled is read
pub read_back : (g a r : ℕ) → g < 2 ^ 16 → a < 2 ^ 16 → r < 2 ^ 32 → tuple_in (tuple_bytes (record { guard = g; app = a; rtag = r })) ≡ record { guard = g; app = a; rtag = r }
read_back g a r p q s =
    let x = from_be_bytes-to_be_bytes_2 g p in
    let y = from_be_bytes-to_be_bytes_2 a q in
    let z = from_be_bytes-to_be_bytes_4 r s in
    same_fields x y z

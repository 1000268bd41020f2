-- How long and how many the blocks of a fresh image are.
use Rattle.pi_tuple.specs.declared.checks.PiType.{PiType}
use Rattle.std.proofs.Common.{ℕ, length, ◌≡◌, replicate, ◌∙◌, ap, ◌+◌, zero, refl, suc, ◌<◌, get_or, [], arith}
use Rattle.rig_api.specs.Image.{fresh, fresh_from}
use Rattle.rig_api.specs.Frames.{stored_size}
use Rattle.pi_tuple.specs.declared.checks.PiType.TheVariants.{Zero, One, Two, Three}
use Rattle.std.proofs.lemmas.List.{length-replicate, length-append}
use Rattle.pi_tuple.specs.Tuples.{tuple_bytes}
use Rattle.pi_tuple.specs.Finds.{own_tag}

pub fresh_long : (ty : PiType) (size lba : ℕ) → length (fresh ty size lba) ≡ stored_size ty size
fresh_long Zero size lba = length-replicate size 0
fresh_long One size lba = length-append (replicate size 0) (tuple_bytes (record { guard = 0; app = 0; rtag = own_tag One lba })) ∙ ap (λ n. n + 8) (length-replicate size 0)
fresh_long Two size lba = length-append (replicate size 0) (tuple_bytes (record { guard = 0; app = 0; rtag = own_tag Two lba })) ∙ ap (λ n. n + 8) (length-replicate size 0)
fresh_long Three size lba = length-append (replicate size 0) (tuple_bytes (record { guard = 0; app = 0; rtag = own_tag Three lba })) ∙ ap (λ n. n + 8) (length-replicate size 0)

pub fresh_many : (ty : PiType) (size lba n : ℕ) → length (fresh_from ty size lba n) ≡ n
fresh_many ty size lba zero = refl
fresh_many ty size lba (suc n) = ap suc (fresh_many ty size (lba + 1) n)

pub fresh_is : (ty : PiType) (size lba n k : ℕ) → k < n → get_or (fresh_from ty size lba n) k [] ≡ fresh ty size (lba + k)
fresh_is ty size lba zero k h = absurd (omega arith)
fresh_is ty size lba (suc n) zero h = let e : lba ≡ lba + 0 = omega arith in ap (fresh ty size) e
fresh_is ty size lba (suc n) (suc k) h = let e : (lba + 1) + k ≡ lba + suc k = omega arith in fresh_is ty size (lba + 1) n k (omega arith) ∙ ap (fresh ty size) e

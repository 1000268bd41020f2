-- Bytes that come from a source, part by part.
use Rattle.std.proofs.Common.{◌≡◌, ℕ, ◌+◌, ◌-◌, ◌≤◌, List, ◌++◌, length, take, drop, Option, sym, subst, arith, rules, length-append}
use Rattle.std.proofs.lemmas.List.{length-drop, length-take, places, same_lists}
use Rattle.dix_base.specs.Told.{Took}
use Rattle.dix_base.proofs.Taking.{took_more}

-- a part of a buffer, as long as it is
part_long : (got : ℕ) (into : List ℕ) → got ≤ length into → length (take (length into - got) (drop got into)) ≡ length into - got
part_long got into h = let d = length-drop got into in let t = length-take (length into - got) (drop got into) in omega arith

filled : (got n : ℕ) (into buf rest : List ℕ) → got ≤ length into → n ≤ length buf → take (got + n) (take got into ++ (buf ++ rest)) ≡ take got into ++ take n buf
filled got n into buf rest h k = same_lists _ _ (search (rules, places)) (λ i d l. grind (arith, places))

pub few_on : (got n total : ℕ) (into : List ℕ) → got ≤ total → length into ≡ total → n ≤ length (take (length into - got) (drop got into)) → got + n ≤ total
few_on got n total into h l b = let p = part_long got into (omega arith) in omega arith

pub long_on : (got : ℕ) (into buf : List ℕ) → got ≤ length into → length buf ≡ length (take (length into - got) (drop got into)) → length (take got into ++ (buf ++ drop (length into - got) (drop got into))) ≡ length into
long_on got into buf h e =
    let p = part_long got into h in
    let r = drop (length into - got) (drop got into) in
    let a = length-append (take got into) (buf ++ r) in
    let b = length-append buf r in
    let t = length-take got into in
    let d = length-drop got into in
    let f = length-drop (length into - got) (drop got into) in
    omega arith

-- the next bytes came behind the first ones
pub took_on : (got n : ℕ) (into buf : List ℕ) (a b c : Option (List ℕ)) → got ≤ length into → n ≤ length (take (length into - got) (drop got into)) → length buf ≡ length (take (length into - got) (drop got into)) →
    Took (take got into) a b → Took (take n buf) b c → Took (take (got + n) (take got into ++ (buf ++ drop (length into - got) (drop got into)))) a c
took_on got n into buf a b c h m e p q =
    subst (λ v. Took v a c) (sym (filled got n into buf (drop (length into - got) (drop got into)) h (omega arith))) (took_more (take got into) (take n buf) a b c p q)

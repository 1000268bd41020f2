-- What a store keeps, from moment to moment.
use Rattle.std.proofs.Common.{refl, ◌∙◌, arith}
use Rattle.dix_base.specs.Stores.{StoreState, WasExtended, WasRead, WasWritten}

pub not_read : (s : StoreState) → WasRead s s
not_read s = record { same = refl; length = refl; count = omega arith; named = refl; opened = refl }

pub read_on : (a b c : StoreState) → WasRead a b → WasRead b c → WasRead a c
read_on a b c p q = let i = p.count in let j = q.count in record { same = q.same ∙ p.same; length = q.length ∙ p.length; count = omega arith; named = q.named ∙ p.named; opened = q.opened ∙ p.opened }

pub not_written : (s : StoreState) → WasWritten s s
not_written s = record { tells = refl; length = refl; count = omega arith; named = refl; opened = refl }

pub written_on : (a b c : StoreState) → WasWritten a b → WasWritten b c → WasWritten a c
written_on a b c p q = let i = p.count in let j = q.count in record { tells = q.tells ∙ p.tells; length = q.length ∙ p.length; count = omega arith; named = q.named ∙ p.named; opened = q.opened ∙ p.opened }

pub not_extended : (s : StoreState) → WasExtended s s
not_extended s = record { tells = refl; more = omega arith; count = omega arith; named = refl; opened = refl }

pub extended_on : (a b c : StoreState) → WasExtended a b → WasExtended b c → WasExtended a c
extended_on a b c p q =
    let i = p.count in
    let j = q.count in
    let k = p.more in
    let l = q.more in
    record { tells = q.tells ∙ p.tells; more = omega arith; count = omega arith; named = q.named ∙ p.named; opened = q.opened ∙ p.opened }

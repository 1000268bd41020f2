-- What a status says, in words.
use Rattle.std.specs.Prelude.{ℕ, eqb, if◌then◌else◌, List, codes}

-- the words of each status
abbrev pub status_text : ℕ → List ℕ
status_text status =
    if eqb status 0 then codes "no block differs, or it is done"
    else (if eqb status 1 then codes "a block differs"
    else (if eqb status 2 then codes "the layout is none"
    else (if eqb status 3 then codes "the length is none"
    else (if eqb status 4 then codes "the operation code isn't served"
    else (if eqb status 5 then codes "a field isn't served"
    else codes "no status")))))

-- How many bytes a command has, and which checks it asks for.
use Rattle.std.specs.Prelude.{ℕ, ◌+◌, ◌/◌, eqb, leb, if◌then◌else◌, List, length, slice_index}

-- by the group code in bits 7 to 5 of the operation code: 6, 10, 10, none, 16 and 12 bytes; vendors' commands have none that is known (SPC-4, 4.2.5.1)
abbrev pub len_by : ℕ → ℕ
len_by group =
    if eqb group 0 then 6
    else (if eqb group 1 then 10
    else (if eqb group 2 then 10
    else (if eqb group 4 then 16
    else (if eqb group 5 then 12
    else 0))))

-- a command of operation code 7Fh has 8 bytes and as many as byte 7 says (SPC-4, 4.2.3); 0 stands for a length that these bytes don't tell
abbrev pub len_of : List ℕ → ℕ
len_of b =
    if eqb (length b) 0 then 0
    else (if eqb (slice_index b 0) 0x7F then (if leb 8 (length b) then 8 + slice_index b 7 else 0)
    else len_by (slice_index b 0 / 32))

-- the checks that RDPROTECT, WRPROTECT or VRPROTECT asks of protection information that travels: 2 is the guard, 4 the application tag, 8 the reference tag;
-- 1 says none, and 0 that the value is reserved (SBC-3, the tables of 5.11, 5.28 and 5.32)
abbrev pub asked : ℕ → ℕ
asked protect =
    if eqb protect 0 then 1
    else (if eqb protect 1 then 14
    else (if eqb protect 2 then 12
    else (if eqb protect 3 then 1
    else (if eqb protect 4 then 2
    else (if eqb protect 5 then 14
    else 0)))))

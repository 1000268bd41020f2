-- Bytes that begin with those of a command say it, and no other.
use Rattle.std.proofs.Common.{◌≡◌, ℕ, ◌+◌, ◌*◌, ◌%◌, ◌≤◌, Bool, true, false, eqb, leb, ltb, Some, slice_index, List, ◌++◌, take, drop, length, Ok, Err, Result, not, refl, sym, subst, ap, ◌∙◌, arith, rules}
use Rattle.std.proofs.Math.Seq.{take-append_seam}
use Rattle.std.proofs.lemmas.Bool.Decides.{nat_tests}
use Rattle.std.proofs.lemmas.List.{length-append, take-append-drop}
use Rattle.std.specs.Prelude.{bytes_eq}
use Rattle.std.proofs.lemmas.Slice.Eq.{bytes_eq-Decides}
use Rattle.cdb_codec.specs.declared.command.CdbFault.{CdbFault}
use Rattle.device_commands.specs.declared.command.DeviceCommand.{DeviceCommand}
use Rattle.device_commands.specs.declared.op.Op.{Op}
use Rattle.device_commands.specs.declared.op.Op.TheVariants.{Read10, Read12, Read16, Read32, Write10, Write12, Write16, Write32, WriteVerify10, WriteVerify12, WriteVerify16, WriteVerify32, Verify10, Verify12, Verify16, Verify32, WriteSame10, WriteSame16, WriteSame32, CompareWrite, ReadCapacity16}
use Rattle.device_commands.specs.declared.op.Size.{Size}
use Rattle.device_commands.specs.declared.op.Size.TheVariants.{Ten, Twelve, Sixteen, ThirtyTwo}
use Rattle.device_commands.specs.Forms.{Is, Says, Written, fits, form, laid}
use Rattle.device_commands.specs.Ops.{by_action, by_code, count_of, kind_of, op_in, size_of}
use Rattle.device_commands.specs.Told.{told}
use Rattle.device_commands.proofs.Back.{told_form}

service_bits : (p : ℕ) → (p * 32 + 16) % 32 ≡ 16
service_bits p = omega arith

long : (size : Size) (code first : ℕ) (c : DeviceCommand) → length (laid size code first c) ≡ count_of size
long Ten code first c = refl
long Twelve code first c = refl
long Sixteen code first c = refl
long ThirtyTwo code first c = refl

pub form_long : (o : Op) (c : DeviceCommand) → length (form o c) ≡ count_of (size_of o)
form_long o c = long (size_of o) _ _ c

pub enough : (o : Op) (c : DeviceCommand) (rest : List ℕ) → count_of (size_of o) ≤ length (form o c ++ rest)
enough o c rest =
    let e : length (form o c ++ rest) ≡ count_of (size_of o) + length rest = length-append (form o c) rest ∙ ap (λ n. n + length rest) (form_long o c) in omega (arith, e)

fixed_op : (o : Op) (code : ℕ) (b : List ℕ) → 1 ≤ length b → slice_index b 0 ≡ code → eqb code 0x7F ≡ false → eqb code 0x9E ≡ false → by_code code ≡ Some o → count_of (size_of o) ≤ length b → op_in b ≡ Ok o
fixed_op o code b some at other service by long =
    let e : eqb (length b) 0 ≡ false = grind (arith, nat_tests) in
    let l : leb (count_of (size_of o)) (length b) ≡ true = grind (arith, nat_tests) in
    rw (e, at, other, service, by, l)

variable_op : (o : Op) (action : ℕ) (b : List ℕ) → 32 ≤ length b → slice_index b 0 ≡ 0x7F → slice_index b 7 ≡ 0x18 → slice_index b 8 ≡ 0 → slice_index b 9 ≡ action → by_action action ≡ Some o → count_of (size_of o) ≡ 32 → op_in b ≡ Ok o
variable_op o action b long at more high low by size =
    let e : eqb (length b) 0 ≡ false = grind (arith, nat_tests) in
    let l8 : ltb (length b) 8 ≡ false = grind (arith, nat_tests) in
    let l32 : ltb (length b) 32 ≡ false = grind (arith, nat_tests) in
    let l : leb 32 (length b) ≡ true = grind (arith, nat_tests) in
    rw (e, at, l8, more, l32, high, low, by, size, l)

service_op : (b : List ℕ) → 16 ≤ length b → slice_index b 0 ≡ 0x9E → slice_index b 1 % 32 ≡ 0x10 → op_in b ≡ Ok ReadCapacity16
service_op b long at bits =
    let e : eqb (length b) 0 ≡ false = grind (arith, nat_tests) in
    let l16 : ltb (length b) 16 ≡ false = grind (arith, nat_tests) in
    rw (e, at, l16, bits)

-- the codes at their places in a command's bytes are those of the command
op_at : (o : Op) (c : DeviceCommand) (rest : List ℕ) → count_of (size_of o) ≤ length (form o c ++ rest) → op_in (form o c ++ rest) ≡ Ok o
op_at Read10 c rest h = fixed_op Read10 0x28 (form Read10 c ++ rest) (omega arith) refl refl refl refl h
op_at Read12 c rest h = fixed_op Read12 0xA8 (form Read12 c ++ rest) (omega arith) refl refl refl refl h
op_at Read16 c rest h = fixed_op Read16 0x88 (form Read16 c ++ rest) (omega arith) refl refl refl refl h
op_at Read32 c rest h = variable_op Read32 0x09 (form Read32 c ++ rest) h refl refl refl refl refl refl
op_at Write10 c rest h = fixed_op Write10 0x2A (form Write10 c ++ rest) (omega arith) refl refl refl refl h
op_at Write12 c rest h = fixed_op Write12 0xAA (form Write12 c ++ rest) (omega arith) refl refl refl refl h
op_at Write16 c rest h = fixed_op Write16 0x8A (form Write16 c ++ rest) (omega arith) refl refl refl refl h
op_at Write32 c rest h = variable_op Write32 0x0B (form Write32 c ++ rest) h refl refl refl refl refl refl
op_at WriteVerify10 c rest h = fixed_op WriteVerify10 0x2E (form WriteVerify10 c ++ rest) (omega arith) refl refl refl refl h
op_at WriteVerify12 c rest h = fixed_op WriteVerify12 0xAE (form WriteVerify12 c ++ rest) (omega arith) refl refl refl refl h
op_at WriteVerify16 c rest h = fixed_op WriteVerify16 0x8E (form WriteVerify16 c ++ rest) (omega arith) refl refl refl refl h
op_at WriteVerify32 c rest h = variable_op WriteVerify32 0x0C (form WriteVerify32 c ++ rest) h refl refl refl refl refl refl
op_at Verify10 c rest h = fixed_op Verify10 0x2F (form Verify10 c ++ rest) (omega arith) refl refl refl refl h
op_at Verify12 c rest h = fixed_op Verify12 0xAF (form Verify12 c ++ rest) (omega arith) refl refl refl refl h
op_at Verify16 c rest h = fixed_op Verify16 0x8F (form Verify16 c ++ rest) (omega arith) refl refl refl refl h
op_at Verify32 c rest h = variable_op Verify32 0x0A (form Verify32 c ++ rest) h refl refl refl refl refl refl
op_at WriteSame10 c rest h = fixed_op WriteSame10 0x41 (form WriteSame10 c ++ rest) (omega arith) refl refl refl refl h
op_at WriteSame16 c rest h = fixed_op WriteSame16 0x93 (form WriteSame16 c ++ rest) (omega arith) refl refl refl refl h
op_at WriteSame32 c rest h = variable_op WriteSame32 0x0D (form WriteSame32 c ++ rest) h refl refl refl refl refl refl
op_at CompareWrite c rest h = fixed_op CompareWrite 0x89 (form CompareWrite c ++ rest) (omega arith) refl refl refl refl h
op_at ReadCapacity16 c rest h = service_op (form ReadCapacity16 c ++ rest) h refl (service_bits c.protect)

pub joined : (o : Op) (c : DeviceCommand) (b : List ℕ) → take (count_of (size_of o)) b ≡ form o c → form o c ++ drop (count_of (size_of o)) b ≡ b
joined o c b e = ap (λ x. x ++ drop (count_of (size_of o)) b) (sym e) ∙ take-append-drop (count_of (size_of o)) b

pub op_said : (o : Op) (c : DeviceCommand) (b : List ℕ) → take (count_of (size_of o)) b ≡ form o c → op_in b ≡ Ok o
op_said o c b e = subst (λ x. op_in x ≡ Ok o) (joined o c b e) (op_at o c (drop (count_of (size_of o)) b) (enough o c (drop (count_of (size_of o)) b)))

pub told_said : (o : Op) (c : DeviceCommand) (b : List ℕ) → Is o c → take (count_of (size_of o)) b ≡ form o c → told o b ≡ c
told_said o c b is e = subst (λ x. told o x ≡ c) (joined o c b e) (told_form o c (drop (count_of (size_of o)) b) is)

front : (o : Op) (c : DeviceCommand) (rest : List ℕ) → take (count_of (size_of o)) (form o c ++ rest) ≡ form o c
front o c rest = ap (λ n. take n (form o c ++ rest)) (sym (form_long o c)) ∙ take-append_seam (form o c) rest

pub written_is_said : (c : DeviceCommand) (b rest : List ℕ) → Written c b → Says c (b ++ rest)
written_is_said c b rest (o, is, e) = (o, is, ap (λ x. take (count_of (size_of o)) (x ++ rest)) e ∙ front o c rest)

abbrev or_this : Op → Result Op CdbFault → Op
or_this d (Ok o) = o
or_this d (Err e) = d

same_op : (o p : Op) (b : List ℕ) → op_in b ≡ Ok o → op_in b ≡ Ok p → p ≡ o
same_op o p b eo ep = ap (or_this o) (sym ep ∙ eo)

pub same_said : (o p : Op) (c r : DeviceCommand) (b : List ℕ) → op_in b ≡ Ok p → r ≡ told p b → Is o c → take (count_of (size_of o)) b ≡ form o c → r ≡ c
same_said o p c r b ep er is e = er ∙ (ap (λ q. told q b) (same_op o p b (op_said o c b e) ep) ∙ told_said o c b is e)

pub fits_said : (o p : Op) (c r : DeviceCommand) (b : List ℕ) → op_in b ≡ Ok p → r ≡ told p b → Is o c → take (count_of (size_of o)) b ≡ form o c → fits (size_of p) (kind_of p) r ≡ true
fits_said o p c r b ep er is e =
    let same = same_op o p b (op_said o c b e) ep in
    ap (λ q. fits (size_of q) (kind_of q) r) same ∙ (ap (fits (size_of o) (kind_of o)) (same_said o p c r b ep er is e) ∙ is.fits)

pub form_said : (o p : Op) (c r : DeviceCommand) (b : List ℕ) → op_in b ≡ Ok p → r ≡ told p b → Is o c → take (count_of (size_of o)) b ≡ form o c → form p r ≡ take (count_of (size_of p)) b
form_said o p c r b ep er is e =
    let same = same_op o p b (op_said o c b e) ep in
    ap (λ q. form q r) same ∙ (ap (form o) (same_said o p c r b ep er is e) ∙ (sym e ∙ ap (λ q. take (count_of (size_of q)) b) (sym same)))

pub none_differs : (a b : List ℕ) (r : Bool) → r ≡ not (bytes_eq a b) → r ≡ true → a ≡ b → ⊥
none_differs a b r e h same =
    let yes : bytes_eq a b ≡ true = (bytes_eq-Decides a b).1 same in
    let no : true ≡ false = sym h ∙ (e ∙ ap not yes) in
    absurd (search rules)

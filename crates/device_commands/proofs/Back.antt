-- The numbers at their places in a command's bytes are those of the command.
use Rattle.std.proofs.Common.{◌≡◌, ℕ, ◌+◌, ◌*◌, ◌/◌, ◌%◌, ◌<◌, ◌≤◌, ◌^◌, true, List, ◌++◌, refl, sym, ap, ◌∙◌, arith, rules}
use Rattle.std.proofs.lemmas.Nat.{from_be_bytes-to_be_bytes_2, from_be_bytes-to_be_bytes_4, from_be_bytes-to_be_bytes_8}
use Rattle.device_commands.specs.declared.command.DeviceCommand.{DeviceCommand}
use Rattle.device_commands.specs.declared.op.Op.{Op}
use Rattle.device_commands.specs.declared.op.Size.{Size}
use Rattle.device_commands.specs.declared.op.Size.TheVariants.{Ten, Twelve, Sixteen, ThirtyTwo}
use Rattle.device_commands.specs.declared.op.Kind.{Kind}
use Rattle.device_commands.specs.declared.op.Kind.TheVariants.{Reads, Writes, Swaps, Verifies, Repeats, Asks}
use Rattle.device_commands.specs.Forms.{Bounds, Is, dld_values, fits, fits_low, fits_size, form, high_dld, laid, low}
use Rattle.device_commands.specs.Ops.{kind_of, number, size_of}
use Rattle.device_commands.specs.Told.{bytchk_in, dld_in, flags_in, told, told_by}

-- what the bits beside the protect field give back
pub record Low (size : Size) (kind : Kind) (c : DeviceCommand) : Type 0 where
  pub small : low size kind c < 32
  pub flags : flags_in kind (low size kind c) ≡ c.flags
  pub bytchk : bytchk_in kind (low size kind c) ≡ c.bytchk
  pub high : dld_in kind (low size kind c) ≡ high_dld size c.dld * 4
  pub dld : c.dld < dld_values size

some_dld : (size : Size) → 0 < dld_values size
some_dld Ten = omega arith
some_dld Twelve = omega arith
some_dld Sixteen = omega arith
some_dld ThirtyTwo = omega arith

no_dld : (size : Size) (c : DeviceCommand) → c.dld ≡ 0 → c.dld < dld_values size
no_dld size c e = let some = some_dld size in omega (arith, e, some)

no_high : (size : Size) (c : DeviceCommand) → c.dld ≡ 0 → 0 ≡ high_dld size c.dld * 4
no_high Ten c e = refl
no_high Twelve c e = refl
no_high Sixteen c e = omega (arith, e)
no_high ThirtyTwo c e = refl

small_high : (size : Size) (c : DeviceCommand) → c.dld < dld_values size → high_dld size c.dld < 2
small_high Ten c h = omega arith
small_high Twelve c h = omega arith
small_high Sixteen c h = omega (arith, h)
small_high ThirtyTwo c h = omega arith

-- with even flags and one bit beside them
low_flags : (size : Size) (c : DeviceCommand) → c.flags % 2 ≡ 0 → c.flags < 32 → high_dld size c.dld < 2 → ((c.flags + high_dld size c.dld) / 2) * 2 ≡ c.flags
low_flags size c even small high = omega (arith, even, small, high)

low_high : (size : Size) (c : DeviceCommand) → c.flags % 2 ≡ 0 → high_dld size c.dld < 2 → ((c.flags + high_dld size c.dld) % 2) * 4 ≡ high_dld size c.dld * 4
low_high size c even high = omega (arith, even, high)

low_small : (size : Size) (c : DeviceCommand) → c.flags % 2 ≡ 0 → c.flags < 32 → high_dld size c.dld < 2 → c.flags + high_dld size c.dld < 32
low_small size c even small high = omega (arith, even, small, high)

reads : (size : Size) (c : DeviceCommand) → c.flags % 2 ≡ 0 → c.flags < 32 → c.bytchk ≡ 0 → c.dld < dld_values size → Low size Reads c
reads size c even small none dld =
    let high = small_high size c dld in
    record { small = low_small size c even small high; flags = low_flags size c even small high; bytchk = sym none; high = low_high size c even high; dld = dld }

writes : (size : Size) (c : DeviceCommand) → c.flags % 2 ≡ 0 → c.flags < 32 → c.bytchk ≡ 0 → c.dld < dld_values size → Low size Writes c
writes size c even small none dld =
    let high = small_high size c dld in
    record { small = low_small size c even small high; flags = low_flags size c even small high; bytchk = sym none; high = low_high size c even high; dld = dld }

swaps : (size : Size) (c : DeviceCommand) → c.flags % 2 ≡ 0 → c.flags < 32 → c.bytchk ≡ 0 → c.dld ≡ 0 → Low size Swaps c
swaps size c even small none dld = record { small = small; flags = omega (arith, even); bytchk = sym none; high = no_high size c dld; dld = no_dld size c dld }

verifies : (size : Size) (c : DeviceCommand) → c.flags % 16 ≡ 0 → c.flags < 32 → c.bytchk < 4 → c.dld ≡ 0 → Low size Verifies c
verifies size c even small check dld = record {
  small = omega (arith, even, small, check);
  flags = omega (arith, even, small, check);
  bytchk = omega (arith, even, small, check);
  high = no_high size c dld;
  dld = no_dld size c dld;
}

repeats : (size : Size) (c : DeviceCommand) → c.flags % 256 ≡ 0 → c.flags < 8192 → c.bytchk ≡ 0 → c.dld ≡ 0 → Low size Repeats c
repeats size c even small none dld = record {
  small = omega (arith, small);
  flags = omega (arith, even);
  bytchk = sym none;
  high = no_high size c dld;
  dld = no_dld size c dld;
}

asks : (size : Size) (c : DeviceCommand) → c.flags ≡ 0 → c.bytchk ≡ 0 → c.dld ≡ 0 → Low size Asks c
asks size c flags none dld = record { small = omega arith; flags = sym flags; bytchk = sym none; high = no_high size c dld; dld = no_dld size c dld }

pub low_back : (size : Size) (kind : Kind) (c : DeviceCommand) → fits_low size kind c ≡ true → Low size kind c
low_back size Reads c h = reads size c (search rules) (search rules) (search rules) (search rules)
low_back size Writes c h = writes size c (search rules) (search rules) (search rules) (search rules)
low_back size Swaps c h = swaps size c (search rules) (search rules) (search rules) (search rules)
low_back size Verifies c h = verifies size c (search rules) (search rules) (search rules) (search rules)
low_back size Repeats c h = repeats size c (search rules) (search rules) (search rules) (search rules)
low_back size Asks c h = asks size c (search rules) (search rules) (search rules)

abbrev of_numbers : ℕ → ℕ → ℕ → ℕ → ℕ → ℕ → ℕ → ℕ → ℕ → ℕ → ℕ → ℕ → DeviceCommand
of_numbers lba op n rtag app mask protect flags bytchk dld group control = record {
  lba = lba;
  op = op;
  n = n;
  rtag = rtag;
  app = app;
  mask = mask;
  protect = protect;
  flags = flags;
  bytchk = bytchk;
  dld = dld;
  group = group;
  control = control;
}

same_numbers : (c : DeviceCommand) (lba op n rtag app mask protect flags bytchk dld group control : ℕ) → lba ≡ c.lba → op ≡ c.op → n ≡ c.n → rtag ≡ c.rtag → app ≡ c.app → mask ≡ c.mask →
    protect ≡ c.protect → flags ≡ c.flags → bytchk ≡ c.bytchk → dld ≡ c.dld → group ≡ c.group → control ≡ c.control → of_numbers lba op n rtag app mask protect flags bytchk dld group control ≡ c
same_numbers c lba op n rtag app mask protect flags bytchk dld group control e1 e2 e3 e4 e5 e6 e7 e8 e9 e10 e11 e12 = rw (e1, e2, e3, e4, e5, e6, e7, e8, e9, e10, e11, e12)

-- the byte of the protect field, taken apart
record First (size : Size) (kind : Kind) (c : DeviceCommand) : Type 0 where
  protect : (c.protect * 32 + low size kind c) / 32 ≡ c.protect
  flags : flags_in kind ((c.protect * 32 + low size kind c) % 32) ≡ c.flags
  bytchk : bytchk_in kind ((c.protect * 32 + low size kind c) % 32) ≡ c.bytchk
  high : dld_in kind ((c.protect * 32 + low size kind c) % 32) ≡ high_dld size c.dld * 4

over : (p l : ℕ) → l < 32 → (p * 32 + l) / 32 ≡ p
over p l h = omega (arith, h)

beside : (p l : ℕ) → l < 32 → (p * 32 + l) % 32 ≡ l
beside p l h = omega (arith, h)

first_back : (size : Size) (kind : Kind) (c : DeviceCommand) → Low size kind c → First size kind c
first_back size kind c l =
    let bits = beside c.protect (low size kind c) l.small in
    record {
      protect = over c.protect (low size kind c) l.small;
      flags = ap (flags_in kind) bits ∙ l.flags;
      bytchk = ap (bytchk_in kind) bits ∙ l.bytchk;
      high = ap (dld_in kind) bits ∙ l.high;
    }

-- DLD in two pieces
joined_dld : (high dld group : ℕ) → high ≡ (dld / 4) * 4 → group < 64 → high + ((dld % 4) * 64 + group) / 64 ≡ dld
joined_dld high dld group e g = omega (arith, e, g)

group_back : (dld group : ℕ) → group < 64 → ((dld % 4) * 64 + group) % 64 ≡ group
group_back dld group g = omega (arith, g)

ten_back : (code op : ℕ) (kind : Kind) (c : DeviceCommand) (rest : List ℕ) → op ≡ c.op → fits_size Ten c ≡ true → Low Ten kind c → told_by Ten op kind (laid Ten code (c.protect * 32 + low Ten kind c) c ++ rest) ≡ c
ten_back code op kind c rest e fit l =
    let f = first_back Ten kind c l in
    let lba : c.lba < 2 ^ 32 = search rules in
    let n : c.n < 2 ^ 16 = search rules in
    let none : c.dld < 1 = l.dld in
    same_numbers c _ _ _ _ _ _ _ _ _ _ _ _ (from_be_bytes-to_be_bytes_4 c.lba lba) e (from_be_bytes-to_be_bytes_2 c.n n) (sym (search rules)) (sym (search rules)) (sym (search rules))
    f.protect f.flags f.bytchk (omega (arith, none)) refl refl

twelve_back : (code op : ℕ) (kind : Kind) (c : DeviceCommand) (rest : List ℕ) → op ≡ c.op → Bounds c → fits_size Twelve c ≡ true → Low Twelve kind c → told_by Twelve op kind (laid Twelve code (c.protect * 32 + low Twelve kind c) c ++ rest) ≡ c
twelve_back code op kind c rest e b fit l =
    let f = first_back Twelve kind c l in
    let lba : c.lba < 2 ^ 32 = search rules in
    let none : c.dld < 1 = l.dld in
    same_numbers c _ _ _ _ _ _ _ _ _ _ _ _ (from_be_bytes-to_be_bytes_4 c.lba lba) e (from_be_bytes-to_be_bytes_4 c.n b.n) (sym (search rules)) (sym (search rules)) (sym (search rules))
    f.protect f.flags f.bytchk (omega (arith, none)) refl refl

sixteen_back : (code op : ℕ) (kind : Kind) (c : DeviceCommand) (rest : List ℕ) → op ≡ c.op → Bounds c → c.group < 64 → fits_size Sixteen c ≡ true → Low Sixteen kind c → told_by Sixteen op kind (laid Sixteen code (c.protect * 32 + low Sixteen kind c) c ++ rest) ≡ c
sixteen_back code op kind c rest e b group fit l =
    let f = first_back Sixteen kind c l in
    same_numbers c _ _ _ _ _ _ _ _ _ _ _ _ (from_be_bytes-to_be_bytes_8 c.lba b.lba) e (from_be_bytes-to_be_bytes_4 c.n b.n) (sym (search rules)) (sym (search rules)) (sym (search rules))
    f.protect f.flags f.bytchk (joined_dld _ c.dld c.group f.high group) (group_back c.dld c.group group) refl

thirty_two_back : (code op : ℕ) (kind : Kind) (c : DeviceCommand) (rest : List ℕ) → op ≡ c.op → Bounds c → Low ThirtyTwo kind c → told_by ThirtyTwo op kind (laid ThirtyTwo code (c.protect * 32 + low ThirtyTwo kind c) c ++ rest) ≡ c
thirty_two_back code op kind c rest e b l =
    let f = first_back ThirtyTwo kind c l in
    same_numbers c _ _ _ _ _ _ _ _ _ _ _ _ (from_be_bytes-to_be_bytes_8 c.lba b.lba) e (from_be_bytes-to_be_bytes_4 c.n b.n) (from_be_bytes-to_be_bytes_4 c.rtag b.rtag) (from_be_bytes-to_be_bytes_2 c.app b.app) (from_be_bytes-to_be_bytes_2 c.mask b.mask)
    f.protect f.flags f.bytchk refl refl refl

told_back : (size : Size) (code op : ℕ) (kind : Kind) (c : DeviceCommand) (rest : List ℕ) → op ≡ c.op → Bounds c → c.group < 64 → fits_size size c ≡ true → Low size kind c → told_by size op kind (laid size code (c.protect * 32 + low size kind c) c ++ rest) ≡ c
told_back Ten code op kind c rest e b group fit l = ten_back code op kind c rest e fit l
told_back Twelve code op kind c rest e b group fit l = twelve_back code op kind c rest e b fit l
told_back Sixteen code op kind c rest e b group fit l = sixteen_back code op kind c rest e b group fit l
told_back ThirtyTwo code op kind c rest e b group fit l = thirty_two_back code op kind c rest e b l

group_of : (size : Size) (kind : Kind) (c : DeviceCommand) → fits size kind c ≡ true → c.group < 64
group_of size kind c h = search rules

size_fits : (size : Size) (kind : Kind) (c : DeviceCommand) → fits size kind c ≡ true → fits_size size c ≡ true
size_fits size kind c h = search rules

pub low_fits : (size : Size) (kind : Kind) (c : DeviceCommand) → fits size kind c ≡ true → fits_low size kind c ≡ true
low_fits size kind c h = search rules

-- the numbers in the bytes of a command, whatever stands behind them
pub told_form : (o : Op) (c : DeviceCommand) (rest : List ℕ) → Is o c → told o (form o c ++ rest) ≡ c
told_form o c rest is =
    told_back (size_of o) _ (number o) (kind_of o) c rest (sym is.number) is.bounds (group_of (size_of o) (kind_of o) c is.fits) (size_fits (size_of o) (kind_of o) c is.fits) (low_back (size_of o) (kind_of o) c (low_fits (size_of o) (kind_of o) c is.fits))

-- The codec's commands have the same bytes, and what stands behind a command isn't read.
use Rattle.std.proofs.Common.{◌≡◌, ℕ, ◌+◌, ◌*◌, ◌/◌, ◌<◌, ◌≤◌, ◌^◌, Bool, true, false, eqb, leb, ltb, List, ◌++◌, take, drop, length, slice_index, refl, sym, subst, ◌∙◌, arith}
use Rattle.std.proofs.lemmas.Bool.Decides.{nat_tests}
use Rattle.std.proofs.lemmas.List.{get_or_append_left, length-append, take-append-le}
use Rattle.cdb_codec.specs.Forms.{FitsSixteen, FitsTen, FitsThirtyTwo, is_protect}
use Rattle.cdb_codec.specs.Forms.{Fits as FitsCodec, form as codec_form}
use Rattle.cdb_codec.specs.declared.command.Rw.{Rw}
use Rattle.cdb_codec.specs.declared.command.Cdb.{Cdb}
use Rattle.cdb_codec.specs.declared.command.Cdb.TheVariants.{Read10 as Codec10, Write10 as CodecWrite10, Verify10 as CodecVerify10, Read16 as Codec16, Write16 as CodecWrite16, Verify16 as CodecVerify16, Read32 as Codec32, Write32 as CodecWrite32, ReadCapacity16 as CodecCapacity}
use Rattle.device_commands.specs.declared.command.DeviceCommand.{DeviceCommand}
use Rattle.device_commands.specs.declared.op.Op.{Op}
use Rattle.device_commands.specs.declared.op.Op.TheVariants.{Read10, Read12, Read16, Read32, Write10, Write12, Write16, Write32, WriteVerify10, WriteVerify12, WriteVerify16, WriteVerify32, Verify10, Verify12, Verify16, Verify32, WriteSame10, WriteSame16, WriteSame32, CompareWrite, ReadCapacity16}
use Rattle.device_commands.specs.Alike.{SayAlike, of_codec, of_rw}
use Rattle.device_commands.specs.Forms.{Bounds, Written, form}
use Rattle.device_commands.specs.Lengths.{len_by, len_of}
use Rattle.device_commands.specs.Ops.{count_of, size_of}
use Rattle.device_commands.proofs.Saying.{enough, joined}

small_protect : (p : ℕ) → is_protect p ≡ true → leb p 5 ≡ true
small_protect p h = grind (arith, nat_tests)

ten_bounds : (op : ℕ) (c : Rw) → FitsTen c → Bounds (of_rw op c)
ten_bounds op c f =
    let lba = f.lba in
    let n = f.n in
    let r = f.rtag in
    let a = f.app in
    let m = f.mask in
    record { lba = omega (arith, lba); n = omega (arith, n); rtag = omega (arith, r); app = omega (arith, a); mask = omega (arith, m) }

sixteen_bounds : (op : ℕ) (c : Rw) → FitsSixteen c → Bounds (of_rw op c)
sixteen_bounds op c f =
    let r = f.rtag in
    let a = f.app in
    let m = f.mask in
    record { lba = f.lba; n = f.n; rtag = omega (arith, r); app = omega (arith, a); mask = omega (arith, m) }

thirty_two_bounds : (op : ℕ) (c : Rw) → FitsThirtyTwo c → Bounds (of_rw op c)
thirty_two_bounds op c f = record { lba = f.lba; n = f.n; rtag = f.rtag; app = f.app; mask = f.mask }

ten_lba : (c : Rw) → FitsTen c → ltb c.lba (2 ^ 32) ≡ true
ten_lba c f = let h = f.lba in grind (arith, nat_tests)

ten_n : (c : Rw) → FitsTen c → ltb c.n (2 ^ 16) ≡ true
ten_n c f = let h = f.n in grind (arith, nat_tests)

no_low : (p : ℕ) → p * 32 + 0 ≡ p * 32
no_low p = omega arith

pub codec_written : (c : Cdb) → FitsCodec c → Written (of_codec c) (codec_form c)
codec_written (Codec10 c) f = (Read10, record { bounds = ten_bounds 0x28 c f; number = refl; fits = rw (small_protect c.protect f.protect, ten_lba c f, ten_n c f, f.rtag, f.app, f.mask) }, rw (no_low c.protect))
codec_written (CodecWrite10 c) f = (Write10, record { bounds = ten_bounds 0x2A c f; number = refl; fits = rw (small_protect c.protect f.protect, ten_lba c f, ten_n c f, f.rtag, f.app, f.mask) }, rw (no_low c.protect))
codec_written (CodecVerify10 c) f = (Verify10, record { bounds = ten_bounds 0x2F c f; number = refl; fits = rw (small_protect c.protect f.protect, ten_lba c f, ten_n c f, f.rtag, f.app, f.mask) }, rw (no_low c.protect))
codec_written (Codec16 c) f = (Read16, record { bounds = sixteen_bounds 0x88 c f; number = refl; fits = rw (small_protect c.protect f.protect, f.rtag, f.app, f.mask) }, rw (no_low c.protect))
codec_written (CodecWrite16 c) f = (Write16, record { bounds = sixteen_bounds 0x8A c f; number = refl; fits = rw (small_protect c.protect f.protect, f.rtag, f.app, f.mask) }, rw (no_low c.protect))
codec_written (CodecVerify16 c) f = (Verify16, record { bounds = sixteen_bounds 0x8F c f; number = refl; fits = rw (small_protect c.protect f.protect, f.rtag, f.app, f.mask) }, rw (no_low c.protect))
codec_written (Codec32 c) f = (Read32, record { bounds = thirty_two_bounds 0x7F09 c f; number = refl; fits = rw (small_protect c.protect f.protect) }, rw (no_low c.protect))
codec_written (CodecWrite32 c) f = (Write32, record { bounds = thirty_two_bounds 0x7F0B c f; number = refl; fits = rw (small_protect c.protect f.protect) }, rw (no_low c.protect))
codec_written (CodecCapacity len) f = (ReadCapacity16, record { bounds = record { lba = omega arith; n = f; rtag = omega arith; app = omega arith; mask = omega arith }; number = refl; fits = refl }, refl)

-- ---- behind the command

same_at : (b rest : List ℕ) (k : ℕ) → k < length b → slice_index (b ++ rest) k ≡ slice_index b k
same_at b rest k h = get_or_append_left b rest 0 k h

fixed_len : (code : ℕ) (b : List ℕ) → 1 ≤ length b → slice_index b 0 ≡ code → eqb code 0x7F ≡ false → len_of b ≡ len_by (code / 32)
fixed_len code b some at other =
    let e : eqb (length b) 0 ≡ false = grind (arith, nat_tests) in
    rw (e, at, other)

variable_len : (more : ℕ) (b : List ℕ) → 8 ≤ length b → slice_index b 0 ≡ 0x7F → slice_index b 7 ≡ more → len_of b ≡ 8 + more
variable_len more b long at there =
    let e : eqb (length b) 0 ≡ false = grind (arith, nat_tests) in
    let l : leb 8 (length b) ≡ true = grind (arith, nat_tests) in
    rw (e, at, l, there)

len_at : (o : Op) (c : DeviceCommand) (rest : List ℕ) → count_of (size_of o) ≤ length (form o c ++ rest) → len_of (form o c ++ rest) ≡ count_of (size_of o)
len_at Read10 c rest h = fixed_len 0x28 (form Read10 c ++ rest) (omega (arith, h)) refl refl
len_at Read12 c rest h = fixed_len 0xA8 (form Read12 c ++ rest) (omega (arith, h)) refl refl
len_at Read16 c rest h = fixed_len 0x88 (form Read16 c ++ rest) (omega (arith, h)) refl refl
len_at Read32 c rest h = variable_len 0x18 (form Read32 c ++ rest) (omega (arith, h)) refl refl
len_at Write10 c rest h = fixed_len 0x2A (form Write10 c ++ rest) (omega (arith, h)) refl refl
len_at Write12 c rest h = fixed_len 0xAA (form Write12 c ++ rest) (omega (arith, h)) refl refl
len_at Write16 c rest h = fixed_len 0x8A (form Write16 c ++ rest) (omega (arith, h)) refl refl
len_at Write32 c rest h = variable_len 0x18 (form Write32 c ++ rest) (omega (arith, h)) refl refl
len_at WriteVerify10 c rest h = fixed_len 0x2E (form WriteVerify10 c ++ rest) (omega (arith, h)) refl refl
len_at WriteVerify12 c rest h = fixed_len 0xAE (form WriteVerify12 c ++ rest) (omega (arith, h)) refl refl
len_at WriteVerify16 c rest h = fixed_len 0x8E (form WriteVerify16 c ++ rest) (omega (arith, h)) refl refl
len_at WriteVerify32 c rest h = variable_len 0x18 (form WriteVerify32 c ++ rest) (omega (arith, h)) refl refl
len_at Verify10 c rest h = fixed_len 0x2F (form Verify10 c ++ rest) (omega (arith, h)) refl refl
len_at Verify12 c rest h = fixed_len 0xAF (form Verify12 c ++ rest) (omega (arith, h)) refl refl
len_at Verify16 c rest h = fixed_len 0x8F (form Verify16 c ++ rest) (omega (arith, h)) refl refl
len_at Verify32 c rest h = variable_len 0x18 (form Verify32 c ++ rest) (omega (arith, h)) refl refl
len_at WriteSame10 c rest h = fixed_len 0x41 (form WriteSame10 c ++ rest) (omega (arith, h)) refl refl
len_at WriteSame16 c rest h = fixed_len 0x93 (form WriteSame16 c ++ rest) (omega (arith, h)) refl refl
len_at WriteSame32 c rest h = variable_len 0x18 (form WriteSame32 c ++ rest) (omega (arith, h)) refl refl
len_at CompareWrite c rest h = fixed_len 0x89 (form CompareWrite c ++ rest) (omega (arith, h)) refl refl
len_at ReadCapacity16 c rest h = fixed_len 0x9E (form ReadCapacity16 c ++ rest) (omega (arith, h)) refl refl

len_said : (o : Op) (c : DeviceCommand) (b : List ℕ) → take (count_of (size_of o)) b ≡ form o c → len_of b ≡ count_of (size_of o)
len_said o c b e = subst (λ x. len_of x ≡ count_of (size_of o)) (joined o c b e) (len_at o c (drop (count_of (size_of o)) b) (enough o c (drop (count_of (size_of o)) b)))

fixed_front : (b rest : List ℕ) → eqb (slice_index b 0) 0x7F ≡ false → 1 ≤ length b → len_of (b ++ rest) ≡ len_of b
fixed_front b rest is some =
    let more = length-append b rest in
    fixed_len (slice_index b 0) (b ++ rest) (omega (arith, some, more)) (same_at b rest 0 some) is ∙ sym (fixed_len (slice_index b 0) b some refl is)

by_none : (b : List ℕ) (t : Bool) → eqb (length b) 0 ≡ t → eqb (slice_index b 0) 0x7F ≡ true → leb 8 (length b) ≡ false → len_of b ≡ 0
by_none b true e is short = rw (e)
by_none b false e is short = rw (e, is, short)

none_short : (b : List ℕ) → eqb (slice_index b 0) 0x7F ≡ true → leb 8 (length b) ≡ false → len_of b ≡ 0
none_short b is short = by_none b (eqb (length b) 0) refl is short

variable_front : (b rest : List ℕ) → eqb (slice_index b 0) 0x7F ≡ true → 8 ≤ length b → len_of (b ++ rest) ≡ len_of b
variable_front b rest is long =
    let more = length-append b rest in
    let at : slice_index b 0 ≡ 0x7F = grind (arith, nat_tests) in
    let front : 0 < length b = omega (arith, long) in
    variable_len (slice_index b 7) (b ++ rest) (omega (arith, long, more)) (same_at b rest 0 front ∙ at) (same_at b rest 7 long) ∙ sym (variable_len (slice_index b 7) b long at refl)

by_long : (b rest : List ℕ) (t : Bool) → leb 8 (length b) ≡ t → eqb (slice_index b 0) 0x7F ≡ true → 1 ≤ len_of b → len_of (b ++ rest) ≡ len_of b
by_long b rest true long is known = variable_front b rest is (grind (arith, nat_tests))
by_long b rest false short is known = let none = none_short b is short in absurd (omega (arith, none, known))

by_first : (b rest : List ℕ) (t : Bool) → eqb (slice_index b 0) 0x7F ≡ t → 1 ≤ length b → 1 ≤ len_of b → len_of (b ++ rest) ≡ len_of b
by_first b rest true is some known = by_long b rest (leb 8 (length b)) refl is known
by_first b rest false is some known = fixed_front b rest is some

len_front : (b rest : List ℕ) → 1 ≤ length b → 1 ≤ len_of b → len_of (b ++ rest) ≡ len_of b
len_front b rest some known = by_first b rest (eqb (slice_index b 0) 0x7F) refl some known

-- bytes that are as many as the command that they begin with has say what they say with others behind them
pub alike : (b rest : List ℕ) → 1 ≤ length b → length b ≡ len_of b → SayAlike (b ++ rest) b
alike b rest some whole = record {
  there = λ c h.
      let known : 1 ≤ len_of b = subst (λ n. 1 ≤ n) whole some in
      let n : length b ≡ count_of (size_of h.0) = whole ∙ (sym (len_front b rest some known) ∙ len_said h.0 c (b ++ rest) h.2) in
      (h.0, h.1, sym (take-append-le (count_of (size_of h.0)) b rest (omega (arith, n))) ∙ h.2);
  back = λ c h.
      let n : length b ≡ count_of (size_of h.0) = whole ∙ len_said h.0 c b h.2 in
      (h.0, h.1, take-append-le (count_of (size_of h.0)) b rest (omega (arith, n)) ∙ h.2);
}

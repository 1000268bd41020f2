-- A command that its form can carry is what that form is read as.
use Rattle.std.proofs.Common.{◌≡◌, ℕ, ◌*◌, ◌/◌, Bool, true, false, not, List, Ok, refl, sym, ap, ◌∙◌, arith}
use Rattle.std.specs.Prelude.{bytes_eq}
use Rattle.std.proofs.lemmas.Slice.Eq.{bytes_eq-Decides}
use Rattle.std.proofs.lemmas.Nat.{from_be_bytes-to_be_bytes_2, from_be_bytes-to_be_bytes_4, from_be_bytes-to_be_bytes_8}
use Rattle.cdb_codec.specs.declared.command.Rw.{Rw}
use Rattle.cdb_codec.specs.declared.command.Cdb.{Cdb}
use Rattle.cdb_codec.specs.declared.command.Cdb.TheVariants.{Read10, Write10, Verify10, Read16, Write16, Verify16, Read32, Write32, ReadCapacity16}
use Rattle.cdb_codec.specs.Decoded.{decoded, protect_of, sixteen_at, ten_at, thirty_two_at, told}
use Rattle.cdb_codec.specs.Forms.{Fits, FitsTen, FitsSixteen, FitsThirtyTwo, form, is_protect, sixteen, ten, thirty_two}

abbrev rw_with : ℕ → ℕ → ℕ → ℕ → ℕ → ℕ → Rw
rw_with p a n r t m = record { protect = p; lba = a; n = n; rtag = r; app = t; mask = m }

same_rw : (c : Rw) (p a n r t m : ℕ) → p ≡ c.protect → a ≡ c.lba → n ≡ c.n → r ≡ c.rtag → t ≡ c.app → m ≡ c.mask → rw_with p a n r t m ≡ c
same_rw c p a n r t m ep ea en er et em = rw (ep, ea, en, er, et, em)

shifted : (p : ℕ) → (p * 32) / 32 ≡ p
shifted p = omega arith

ten_back : (op : ℕ) (c : Rw) → FitsTen c → ten_at (ten op c) ≡ c
ten_back op c f =
    same_rw c _ _ _ _ _ _ (shifted c.protect) (from_be_bytes-to_be_bytes_4 c.lba f.lba) (from_be_bytes-to_be_bytes_2 c.n f.n) (sym f.rtag) (sym f.app) (sym f.mask)

sixteen_back : (op : ℕ) (c : Rw) → FitsSixteen c → sixteen_at (sixteen op c) ≡ c
sixteen_back op c f =
    same_rw c _ _ _ _ _ _ (shifted c.protect) (from_be_bytes-to_be_bytes_8 c.lba f.lba) (from_be_bytes-to_be_bytes_4 c.n f.n) (sym f.rtag) (sym f.app) (sym f.mask)

thirty_two_back : (action : ℕ) (c : Rw) → FitsThirtyTwo c → thirty_two_at (thirty_two action c) ≡ c
thirty_two_back action c f =
    same_rw c _ _ _ _ _ _ (shifted c.protect) (from_be_bytes-to_be_bytes_8 c.lba f.lba) (from_be_bytes-to_be_bytes_4 c.n f.n) (from_be_bytes-to_be_bytes_4 c.rtag f.rtag) (from_be_bytes-to_be_bytes_2 c.app f.app) (from_be_bytes-to_be_bytes_2 c.mask f.mask)

told_form : (c : Cdb) → Fits c → told (form c) ≡ Ok c
told_form (Read10 c) f = ap (λ v. Ok (Read10 v)) (ten_back 0x28 c f)
told_form (Write10 c) f = ap (λ v. Ok (Write10 v)) (ten_back 0x2A c f)
told_form (Verify10 c) f = ap (λ v. Ok (Verify10 v)) (ten_back 0x2F c f)
told_form (Read16 c) f = ap (λ v. Ok (Read16 v)) (sixteen_back 0x88 c f)
told_form (Write16 c) f = ap (λ v. Ok (Write16 v)) (sixteen_back 0x8A c f)
told_form (Verify16 c) f = ap (λ v. Ok (Verify16 v)) (sixteen_back 0x8F c f)
told_form (Read32 c) f = ap (λ v. Ok (Read32 v)) (thirty_two_back 0x09 c f)
told_form (Write32 c) f = ap (λ v. Ok (Write32 v)) (thirty_two_back 0x0B c f)
told_form (ReadCapacity16 len) f = ap (λ v. Ok (ReadCapacity16 v)) (from_be_bytes-to_be_bytes_4 len f)

served : (c : Cdb) → Fits c → is_protect (protect_of c) ≡ true
served (Read10 c) f = f.protect
served (Write10 c) f = f.protect
served (Verify10 c) f = f.protect
served (Read16 c) f = f.protect
served (Write16 c) f = f.protect
served (Verify16 c) f = f.protect
served (Read32 c) f = f.protect
served (Write32 c) f = f.protect
served (ReadCapacity16 len) f = refl

pub decoded_form : (c : Cdb) → Fits c → decoded (form c) ≡ Ok c
decoded_form c f = rw (told_form c f, served c f, (bytes_eq-Decides (form c) (form c)).1 refl)

not_other : (b : Bool) → false ≡ not b → b ≡ true
not_other true e = refl
not_other false e = e

-- what `!=` finds no difference in, whichever side the bytes stand on
pub is_form : (now items b : List ℕ) (c : Cdb) (differs : Bool) → now ≡ items → items ≡ form c → differs ≡ not (bytes_eq now b) → differs ≡ false → b ≡ form c
is_form now items b c differs is e d none = sym ((bytes_eq-Decides now b).0 (not_other _ (sym none ∙ d))) ∙ is ∙ e

pub is_form_turned : (now items b : List ℕ) (c : Cdb) (differs : Bool) → now ≡ items → items ≡ form c → differs ≡ not (bytes_eq b now) → differs ≡ false → b ≡ form c
is_form_turned now items b c differs is e d none = (bytes_eq-Decides b now).0 (not_other _ (sym none ∙ d)) ∙ is ∙ e

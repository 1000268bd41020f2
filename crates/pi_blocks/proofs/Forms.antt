-- Three fields beside a form: put there, they are read again, and taken out they leave the form.
use Rattle.std.proofs.Common.{Ok, ◌≡◌, ℕ, ◌<◌, ◌≤◌, true, List, length, get_or, set, refl, sym, ap, subst, ◌∙◌, arith, rules}
use Rattle.std.proofs.lemmas.List.{get_or-set_same, places, set-get_or, set-set, length-set}
use Rattle.cdb_codec.specs.Forms.{Fits, form}
use Rattle.cdb_codec.specs.declared.command.Cdb.{Cdb}
use Rattle.cdb_codec.specs.declared.command.Cdb.TheVariants.{Read10, Write10, Verify10, Read16, Write16, Verify16, Read32, Write32, ReadCapacity16}
use Rattle.pi_blocks.specs.Commands.{Says, command_of, encoded, cdb_fields, places_of}
use Rattle.pi_blocks.specs.Marks.{AreBehind, places_for, part, part_at, put, put_part, marked, marks_fit, without_marks}
use Rattle.pi_blocks.specs.declared.commands.CdbFields.{CdbFields}
use Rattle.pi_blocks.specs.declared.marks.Bits.{Bits}
use Rattle.pi_blocks.specs.declared.marks.Bits.TheVariants.{Absent, Dpo, DpoAndFua, Group, Control}
use Rattle.pi_blocks.specs.declared.marks.Place.{Place}
use Rattle.pi_blocks.specs.declared.marks.Places.{Places}

cleared_part : (bits : Bits) (x v : ℕ) → part bits v ≡ v → put_part bits x 0 ≡ x → put_part bits (put_part bits x v) 0 ≡ x
cleared_part Absent x v fits clear = refl
cleared_part Dpo x v fits clear = omega arith
cleared_part DpoAndFua x v fits clear = omega arith
cleared_part Group x v fits clear = omega arith
cleared_part Control x v fits clear = clear

read_part : (bits : Bits) (x v : ℕ) → part bits v ≡ v → part bits (put_part bits x v) ≡ v
read_part Absent x v fits = fits
read_part Dpo x v fits = omega arith
read_part DpoAndFua x v fits = omega arith
read_part Group x v fits = omega arith
read_part Control x v fits = fits

read_back : (p : Place) (xs : List ℕ) (v : ℕ) → p.at < length xs → part p.bits v ≡ v → part_at p (put p v xs) ≡ v
read_back p xs v inside fits = ap (part p.bits) (get_or-set_same xs p.at (put_part p.bits (get_or xs p.at 0) v) 0 inside) ∙ read_part p.bits (get_or xs p.at 0) v fits

taken_out : (p : Place) (xs : List ℕ) (v : ℕ) → p.at < length xs → part p.bits v ≡ v → put_part p.bits (get_or xs p.at 0) 0 ≡ get_or xs p.at 0 → put p 0 (put p v xs) ≡ xs
taken_out p xs v inside fits clear =
    let x = get_or xs p.at 0 in
    let y = put_part p.bits x v in
    set-set xs p.at y (put_part p.bits (get_or (put p v xs) p.at 0) 0)
    ∙ (ap (λ z. set xs p.at (put_part p.bits z 0)) (get_or-set_same xs p.at y 0 inside)
    ∙ (ap (set xs p.at) (cleared_part p.bits x v fits clear) ∙ set-get_or xs p.at 0))

-- bytes in which three fields stand apart, each in clear bits
record Clear (p : Places) (xs : List ℕ) (group control : ℕ) : Type 0 where
  in_control : p.control.at < length xs
  in_group : p.group.at < length (put p.control control xs)
  in_flags : p.flags.at < length (put p.group group (put p.control control xs))
  no_control : put_part p.control.bits (get_or xs p.control.at 0) 0 ≡ get_or xs p.control.at 0
  no_group : put_part p.group.bits (get_or (put p.control control xs) p.group.at 0) 0 ≡ get_or (put p.control control xs) p.group.at 0
  no_flags : put_part p.flags.bits (get_or (put p.group group (put p.control control xs)) p.flags.at 0) 0 ≡ get_or (put p.group group (put p.control control xs)) p.flags.at 0

record Fit (p : Places) (f g k : ℕ) : Type 0 where
  flags : part p.flags.bits f ≡ f
  group : part p.group.bits g ≡ g
  control : part p.control.bits k ≡ k

clear_form : (c : Cdb) (group control : ℕ) → Clear (places_of (form c)) (form c) group control
clear_form (Read10 c) group control = record { in_control = omega arith; in_group = omega arith; in_flags = omega arith; no_control = refl; no_group = refl; no_flags = omega arith }
clear_form (Write10 c) group control = record { in_control = omega arith; in_group = omega arith; in_flags = omega arith; no_control = refl; no_group = refl; no_flags = omega arith }
clear_form (Verify10 c) group control = record { in_control = omega arith; in_group = omega arith; in_flags = omega arith; no_control = refl; no_group = refl; no_flags = omega arith }
clear_form (Read16 c) group control = record { in_control = omega arith; in_group = omega arith; in_flags = omega arith; no_control = refl; no_group = refl; no_flags = omega arith }
clear_form (Write16 c) group control = record { in_control = omega arith; in_group = omega arith; in_flags = omega arith; no_control = refl; no_group = refl; no_flags = omega arith }
clear_form (Verify16 c) group control = record { in_control = omega arith; in_group = omega arith; in_flags = omega arith; no_control = refl; no_group = refl; no_flags = omega arith }
clear_form (Read32 c) group control = record { in_control = omega arith; in_group = omega arith; in_flags = omega arith; no_control = refl; no_group = refl; no_flags = omega arith }
clear_form (Write32 c) group control = record { in_control = omega arith; in_group = omega arith; in_flags = omega arith; no_control = refl; no_group = refl; no_flags = omega arith }
clear_form (ReadCapacity16 len) group control = record { in_control = omega arith; in_group = omega arith; in_flags = omega arith; no_control = refl; no_group = refl; no_flags = refl }

-- what is read in the bytes of a form with three fields
pub record Found (p : Places) (bytes form : List ℕ) (f g k : ℕ) : Type 0 where
  pub flags : part_at p.flags bytes ≡ f
  pub group : part_at p.group (put p.flags 0 bytes) ≡ g
  pub control : part_at p.control (put p.group 0 (put p.flags 0 bytes)) ≡ k
  pub bare : without_marks p bytes ≡ form

found_in : (p : Places) (xs : List ℕ) (flags group control : ℕ) → Clear p xs group control → Fit p flags group control → Found p (marked p flags group control xs) xs flags group control
found_in p xs flags group control clear fit =
    let with_control = put p.control control xs in
    let with_group = put p.group group with_control in
    let no_flags = taken_out p.flags with_group flags clear.in_flags fit.flags clear.no_flags in
    let no_group = ap (put p.group 0) no_flags ∙ taken_out p.group with_control group clear.in_group fit.group clear.no_group in
    record {
      flags = read_back p.flags with_group flags clear.in_flags fit.flags;
      group = ap (part_at p.group) no_flags ∙ read_back p.group with_control group clear.in_group fit.group;
      control = ap (part_at p.control) no_group ∙ read_back p.control xs control clear.in_control fit.control;
      bare = ap (put p.control 0) no_group ∙ taken_out p.control xs control clear.in_control fit.control clear.no_control;
    }

-- the places of bytes are those of the bytes with other fields there
same_head : (p : Place) (v : ℕ) (xs : List ℕ) → 1 ≤ p.at → get_or (put p v xs) 0 0 ≡ get_or xs 0 0
same_head p v xs behind = grind (arith, places)

same_places : (p : Place) (v : ℕ) (xs : List ℕ) → 1 ≤ p.at → places_of (put p v xs) ≡ places_of xs
same_places p v xs behind =
    ap (λ op. places_for op (length (put p v xs))) (same_head p v xs behind) ∙ ap (λ n. places_for (get_or xs 0 0) n) (length-set xs p.at (put_part p.bits (get_or xs p.at 0) v))

marked_places : (p : Places) (flags group control : ℕ) (xs : List ℕ) → AreBehind p → places_of (marked p flags group control xs) ≡ places_of xs
marked_places p flags group control xs behind =
    same_places p.flags flags (put p.group group (put p.control control xs)) behind.flags ∙ (same_places p.group group (put p.control control xs) behind.group ∙ same_places p.control control xs behind.control)

bare_places : (p : Places) (xs : List ℕ) → AreBehind p → places_of (without_marks p xs) ≡ places_of xs
bare_places p xs behind =
    same_places p.control 0 (put p.group 0 (put p.flags 0 xs)) behind.control ∙ (same_places p.group 0 (put p.flags 0 xs) behind.group ∙ same_places p.flags 0 xs behind.flags)

behind_form : (c : Cdb) → AreBehind (places_of (form c))
behind_form (Read10 c) = record { flags = omega arith; group = omega arith; control = omega arith }
behind_form (Write10 c) = record { flags = omega arith; group = omega arith; control = omega arith }
behind_form (Verify10 c) = record { flags = omega arith; group = omega arith; control = omega arith }
behind_form (Read16 c) = record { flags = omega arith; group = omega arith; control = omega arith }
behind_form (Write16 c) = record { flags = omega arith; group = omega arith; control = omega arith }
behind_form (Verify16 c) = record { flags = omega arith; group = omega arith; control = omega arith }
behind_form (Read32 c) = record { flags = omega arith; group = omega arith; control = omega arith }
behind_form (Write32 c) = record { flags = omega arith; group = omega arith; control = omega arith }
behind_form (ReadCapacity16 len) = record { flags = omega arith; group = omega arith; control = omega arith }

fit_of : (p : Places) (flags group control : ℕ) → marks_fit p flags group control ≡ true → Fit p flags group control
fit_of p flags group control e = record { flags = search rules; group = search rules; control = search rules }

pub found_says : (f : CdbFields) (c : Cdb) (bytes : List ℕ) (p : Places) → p ≡ places_of bytes → Says f c bytes → Found p bytes (form c) f.flags f.group f.control
found_says f c bytes p e h =
    let there = places_of (form c) in
    let same : p ≡ there = e ∙ (ap places_of h.written ∙ marked_places there f.flags f.group f.control (form c) (behind_form c)) in
    subst (λ q. Found q bytes (form c) f.flags f.group f.control) (sym same)
    (subst (λ b. Found there b (form c) f.flags f.group f.control) (sym h.written) (found_in there (form c) f.flags f.group f.control (clear_form c f.group f.control) (fit_of there f.flags f.group f.control h.marks)))

-- the numbers of a command with three fields
abbrev pub beside : CdbFields → ℕ → ℕ → ℕ → CdbFields
beside r flags group control = record {
  lba = r.lba;
  op = r.op;
  n = r.n;
  rtag = r.rtag;
  app = r.app;
  mask = r.mask;
  protect = r.protect;
  flags = flags;
  group = group;
  control = control;
}

beside_fields : (c : Cdb) (flags group control : ℕ) → beside (cdb_fields c 0 0 0) flags group control ≡ cdb_fields c flags group control
beside_fields (Read10 c) flags group control = refl
beside_fields (Write10 c) flags group control = refl
beside_fields (Verify10 c) flags group control = refl
beside_fields (Read16 c) flags group control = refl
beside_fields (Write16 c) flags group control = refl
beside_fields (Verify16 c) flags group control = refl
beside_fields (Read32 c) flags group control = refl
beside_fields (Write32 c) flags group control = refl
beside_fields (ReadCapacity16 len) flags group control = refl

pub fields_beside : (c : Cdb) (r : CdbFields) (flags group control : ℕ) → r ≡ cdb_fields c 0 0 0 → beside r flags group control ≡ cdb_fields c flags group control
fields_beside c r flags group control e = ap (λ (x : CdbFields). beside x flags group control) e ∙ beside_fields c flags group control

pub says_of : (c : Cdb) (r : CdbFields) (bytes bare : List ℕ) (p : Places) (flags group control : ℕ) → Fits c → r ≡ cdb_fields c 0 0 0 → p ≡ places_of bytes → AreBehind p → bare ≡ form c → bare ≡ without_marks p bytes →
    marks_fit p flags group control ≡ true → marked p flags group control bare ≡ bytes → Says (beside r flags group control) c bytes
says_of c r bytes bare p flags group control fits e here behind is taken fit back =
    let same : p ≡ places_of (form c) = here ∙ (sym (bare_places p bytes behind) ∙ ap places_of (sym taken ∙ is)) in
    record {
      fits = fits;
      fields = fields_beside c r flags group control e;
      marks = subst (λ q. marks_fit q flags group control ≡ true) same fit;
      written = sym back ∙ (ap (marked p flags group control) is ∙ ap (λ (q : Places). marked q flags group control (form c)) same);
    }

pub same_fields : (c d : Cdb) (r f : CdbFields) (bytes : List ℕ) (flags group control : ℕ) → r ≡ cdb_fields c 0 0 0 → c ≡ d → Says f d bytes → flags ≡ f.flags → group ≡ f.group → control ≡ f.control → beside r flags group control ≡ f
same_fields c d r f bytes flags group control e same h ef eg ek =
    fields_beside c r flags group control e ∙ (ap (λ x. cdb_fields x flags group control) same ∙ (ap (λ v. cdb_fields d v group control) ef
    ∙ (ap (λ v. cdb_fields d f.flags v control) eg ∙ (ap (λ v. cdb_fields d f.flags f.group v) ek ∙ sym h.fields))))

stays : (p : Place) (xs : List ℕ) → put_part p.bits (get_or xs p.at 0) 0 ≡ get_or xs p.at 0 → put p 0 xs ≡ xs
stays p xs clear = ap (set xs p.at) clear ∙ set-get_or xs p.at 0

plain_form : (c : Cdb) → marked (places_of (form c)) 0 0 0 (form c) ≡ form c
plain_form c =
    let p = places_of (form c) in
    let clear = clear_form c 0 0 in
    stays p.flags (put p.group 0 (put p.control 0 (form c))) clear.no_flags
    ∙ (stays p.group (put p.control 0 (form c)) clear.no_group ∙ stays p.control (form c) clear.no_control)

pub plain_says : (c : Cdb) → Fits c → Says (cdb_fields c 0 0 0) c (form c)
plain_says (Read10 c) f = record { fits = f; fields = refl; marks = refl; written = sym (plain_form (Read10 c)) }
plain_says (Write10 c) f = record { fits = f; fields = refl; marks = refl; written = sym (plain_form (Write10 c)) }
plain_says (Verify10 c) f = record { fits = f; fields = refl; marks = refl; written = sym (plain_form (Verify10 c)) }
plain_says (Read16 c) f = record { fits = f; fields = refl; marks = refl; written = sym (plain_form (Read16 c)) }
plain_says (Write16 c) f = record { fits = f; fields = refl; marks = refl; written = sym (plain_form (Write16 c)) }
plain_says (Verify16 c) f = record { fits = f; fields = refl; marks = refl; written = sym (plain_form (Verify16 c)) }
plain_says (Read32 c) f = record { fits = f; fields = refl; marks = refl; written = sym (plain_form (Read32 c)) }
plain_says (Write32 c) f = record { fits = f; fields = refl; marks = refl; written = sym (plain_form (Write32 c)) }
plain_says (ReadCapacity16 len) f = record { fits = f; fields = refl; marks = refl; written = sym (plain_form (ReadCapacity16 len)) }

command_back : (c : Cdb) (flags group control : ℕ) → Fits c → command_of (cdb_fields c flags group control) ≡ Ok c
command_back (Read10 c) flags group control f = grind (arith)
command_back (Write10 c) flags group control f = grind (arith)
command_back (Verify10 c) flags group control f = grind (arith)
command_back (Read16 c) flags group control f = rw (f.protect, f.rtag, f.app, f.mask)
command_back (Write16 c) flags group control f = rw (f.protect, f.rtag, f.app, f.mask)
command_back (Verify16 c) flags group control f = rw (f.protect, f.rtag, f.app, f.mask)
command_back (Read32 c) flags group control f = rw (f.protect)
command_back (Write32 c) flags group control f = rw (f.protect)
command_back (ReadCapacity16 len) flags group control f = refl

pub says_encodes : (f : CdbFields) (c : Cdb) (bytes : List ℕ) → Says f c bytes → encoded f ≡ Ok bytes
says_encodes f c bytes h =
    let e : command_of f ≡ Ok c = ap command_of h.fields ∙ command_back c f.flags f.group f.control h.fits in
    rw (e, h.marks, h.written)

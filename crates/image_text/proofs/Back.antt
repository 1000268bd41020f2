-- A dump that was stored comes back.
use Rattle.std.proofs.Common.{◌≡◌, ℕ, ◌+◌, true, List, [], ◌∷◌, ◌++◌, length, take, refl, arith}
use Rattle.std.proofs.lemmas.List.{length-take, take_all, drop_at}
use Rattle.pi_tuple.specs.declared.checks.PiType.{PiType}
use Rattle.pi_tuple.specs.declared.checks.PiType.TheVariants.{Zero, One, Two, Three}
use Rattle.rig_api.specs.Frames.{joined, stored_size}
use Rattle.target_model.specs.Served.{AllLong}
use Rattle.image_text.specs.declared.layout.Layout.{Layout}
use Rattle.image_text.specs.declared.layout.Layout.TheVariants.{Interleaved, Plain, Tuples}
use Rattle.image_text.specs.Dumps.{dump_of, fits, imported, imported_block, piece_len, piece_of}
use Rattle.target_model.proofs.Bytes.{front_is}

piece_back : (layout : Layout) (ty : PiType) (size lba : ℕ) (block piece : List ℕ) → fits layout ty ≡ true → length block ≡ stored_size ty size → length piece ≡ piece_len layout ty size → piece_of layout size (imported_block layout ty size lba block piece) ≡ piece
piece_back Interleaved ty size lba block piece f b p = refl
piece_back Plain Zero size lba block piece f b p = take_all size piece (omega arith)
piece_back Plain One size lba block piece f b p = front_is size piece _ piece refl p
piece_back Plain Two size lba block piece f b p = front_is size piece _ piece refl p
piece_back Plain Three size lba block piece f b p = front_is size piece _ piece refl p
piece_back Tuples Zero size lba block piece f b p = absurd (cc)
piece_back Tuples One size lba block piece f b p = let t = length-take size block in drop_at (take size block) piece size (omega arith)
piece_back Tuples Two size lba block piece f b p = let t = length-take size block in drop_at (take size block) piece size (omega arith)
piece_back Tuples Three size lba block piece f b p = let t = length-take size block in drop_at (take size block) piece size (omega arith)

two : (x y : List ℕ) (xs ys : List ℕ) → x ≡ y → xs ≡ ys → x ++ xs ≡ y ++ ys
two x y xs ys p q = cc

pub comes_back : (layout : Layout) (ty : PiType) (size lba : ℕ) (blocks pieces : List (List ℕ)) → fits layout ty ≡ true → length blocks ≡ length pieces → AllLong (stored_size ty size) blocks → AllLong (piece_len layout ty size) pieces →
    dump_of layout size (imported layout ty size lba blocks pieces) ≡ joined pieces
comes_back layout ty size lba [] [] f l b p = refl
comes_back layout ty size lba [] (y ∷ ps) f l b p = absurd (omega arith)
comes_back layout ty size lba (x ∷ bs) [] f l b p = absurd (omega arith)
comes_back layout ty size lba (x ∷ bs) (y ∷ ps) f l b p = two _ _ _ _ (piece_back layout ty size lba x y f b.0 p.0) (comes_back layout ty size (lba + 1) bs ps f (omega arith) b.1 p.1)

-- The block that a plain import makes of a piece is clean.
use Rattle.std.proofs.Common.{ℕ, ◌≡◌, false, List, sym, ap, subst, ◌∙◌, refl, arith}
use Rattle.std.proofs.lemmas.Bool.{false≢true}
use Rattle.pi_guard.specs.Guards.{crc}
use Rattle.pi_guard.specs.declared.GuardKind.TheVariants.{Crc}
use Rattle.pi_guard.proofs.GuardSizes.{guard_below}
use Rattle.pi_tuple.specs.Finds.{is_escaped, is_zero, own_tag}
use Rattle.pi_tuple.specs.declared.checks.PiType.{PiType}
use Rattle.pi_tuple.specs.declared.checks.PiType.TheVariants.{Zero, One, Two, Three}
use Rattle.pi_tuple.specs.declared.tuple.Tuple.{Tuple}
use Rattle.pi_tuple.proofs.TupleLaws.{own_below, own_is}
use Rattle.rig_api.specs.Frames.{frame_of}
use Rattle.rig_api.specs.Passing.{with_own_tuple}
use Rattle.walk_laws.specs.PlainMap.{as_expected}
use Rattle.walk_laws.specs.UnderMap.{IsClean}
use Rattle.walk_laws.proofs.TupleFrames.{Small, data_is, tuple_is}
use Rattle.lab_laws.specs.Clean.{MakesClean}

framed : (ty : PiType) (lba : ℕ) (piece : List ℕ) → is_zero ty ≡ false → with_own_tuple ty lba piece ≡ frame_of piece (record { guard = crc piece; app = 0; rtag = own_tag ty lba })
framed Zero lba piece z = absurd (false≢true (sym z))
framed One lba piece z = refl
framed Two lba piece z = refl
framed Three lba piece z = refl

no_escape_is : (ty : PiType) (g r : ℕ) → is_escaped ty (record { guard = g; app = 0; rtag = r }) ≡ false
no_escape_is Zero g r = refl
no_escape_is One g r = refl
no_escape_is Two g r = refl
no_escape_is Three g r = refl

pub made_clean : MakesClean
made_clean m lba block piece z app long =
    let t : Tuple = record { guard = crc piece; app = 0; rtag = own_tag m.ty lba } in
    let small : Small t = record { guard = guard_below Crc piece; app = omega arith; rtag = own_below m.ty lba } in
    let is = tuple_is m.size piece t long small in
    subst (IsClean m lba) (sym (framed m.ty lba piece z)) (record {
      no_escape = ap (is_escaped m.ty) is ∙ no_escape_is m.ty (crc piece) (own_tag m.ty lba);
      guard = ap (λ (t : Tuple). t.guard) is ∙ ap crc (sym (data_is m.size piece t long));
      app = ap (λ (t : Tuple). as_expected m t.app) is ∙ app;
      rtag = λ h. ap (λ (t : Tuple). t.rtag) is ∙ own_is m.ty lba h;
    })

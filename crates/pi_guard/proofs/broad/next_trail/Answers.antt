use Rattle.std.proofs.Common.{◌++◌, length, sym, ap, ◌∙◌}
use Rattle.std.specs.Prelude.{bit_xor}
use Rattle.std.proofs.lemmas.Simd.{length-zip2}
use lib.Lanes.{zip2}
use Rattle.pi_guard.specs.Broad.{after_256, broad_owed_by, broad_owed_next}
use Rattle.pi_guard.proofs.BroadDebts.{length-due, followed_256}
use Rattle.pi_guard.proofs.broad.next_trail.Goals as goal

pub returns : goal.returns
unfolding after_256
returns c r o =
    let t = c.args.t in
    let m = c.args.m in
    let due = c.owed_to.ensures ∙ ap (λ v. broad_owed_next v t.b t.d t.e) o.far_a in
    let long = ap length due ∙ length-due o.a t.b t.d t.e o.long_a o.long_b o.long_d o.long_e in
    record {
      a = t.b;
      long_a = o.long_b;
      long_b = o.long_c;
      long_c = o.long_d;
      long_d = o.long_e;
      long_e = o.long_f;
      long_f = o.long_g;
      long_g = o.long_h;
      long_h = length-zip2 bit_xor m c.owed_to.result (c.fits-m.0 ∙ sym long) ∙ c.fits-m.0;
      far_a = o.far_b;
      far_b = o.far_c;
      far_c = c.far_on.ensures;
      owed = ap (λ v. broad_owed_by (t.b ++ (t.c ++ (t.d ++ (t.e ++ (t.f ++ (t.g ++ (t.h ++ zip2 bit_xor m v)))))))) due
          ∙ followed_256 r o.a t.b t.c t.d t.e t.f t.g t.h m o.long_a o.long_b o.long_c o.long_d o.long_e o.long_f o.long_g o.long_h c.fits-m.0 o.owed;
    }

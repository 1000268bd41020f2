use Rattle.std.proofs.Common.{◌≡◌, ◌+◌, ◌<◌, length, refl, subst, rules, arith}
use Rattle.pi_blocks.specs.Blocks.{Checked, in_line}
use Rattle.pi_blocks.specs.Layouts.{stride_of}
use Rattle.pi_blocks.specs.Stripped.{AreStripped, is_bad}
use Rattle.pi_blocks.proofs.Bitmaps.{bit_in_byte, bits_more, bits_small, left_more, mark_small, next_bit, told_more}
use Rattle.pi_blocks.proofs.MapLaws.{block_within}
use Rattle.pi_blocks.proofs.stripping.strip_some.Goals as goal

pub loop-j-init : goal.loop-j-init
loop-j-init c =
    let l = c.args.layout in
    let w = c.args.want in
    let blocks = c.args.blocks.now in
    let none : c.args.first ≡ c.args.first + 0 = omega arith in
    record {
      bit = refl;
      bits = refl;
      told = λ h. subst (λ n. Checked l w (in_line l blocks) 0 n c.args.before) none h;
      moved = λ old h. subst (λ n. AreStripped l w n blocks old c.args.body.now) none h;
    }

pub overflow_add-bits : goal.overflow_add-bits
overflow_add-bits c =
    let h = c.loop-j.invariant in
    let small = bits_small (λ j. is_bad c.args.layout c.args.want c.args.blocks.now (c.args.first + j)) c.loop-j.j in
    let top = bit_in_byte c.loop-j.j (omega (arith, c.loop-j-test.true, c.requires.few)) in
    let mark = mark_small c.strip_one-found.result c.loop-j.bit c.mark-bits.result c.mark-bits.ensures in
    omega (arith, h.bits, h.bit, small, top, mark)

pub overflow_mul-bit : goal.overflow_mul-bit
overflow_mul-bit c =
    let h = c.loop-j.invariant in
    let top = bit_in_byte c.loop-j.j (omega (arith, c.loop-j-test.true, c.requires.few)) in
    omega (arith, h.bit, top)

pub loop-j-preserved : goal.loop-j-preserved
loop-j-preserved c =
    let h = c.loop-j.invariant in
    let l = c.args.layout in
    let w = c.args.want in
    let blocks = c.args.blocks.now in
    let n = c.args.first + c.loop-j.j in
    let below : n < c.args.first + c.args.count = omega (arith, c.loop-j-test.true) in
    let next : n + 1 ≡ c.args.first + (c.loop-j.j + 1) = omega arith in
    let inside = block_within n (c.args.first + c.args.count) (stride_of l) (length blocks) below c.requires.inside in
    let room = block_within n (c.args.first + c.args.count) l.data_size (length c.loop-j.body) below (search rules) in
    record {
      bit = next_bit c.loop-j.j c.loop-j.bit h.bit;
      bits = bits_more l w blocks c.args.first c.loop-j.j c.loop-j.bits c.loop-j.bit c.mark-bits.result c.strip_one-found.result h.bits h.bit c.strip_one-found.ensures.found c.mark-bits.ensures;
      told = λ before. subst (λ m. Checked l w (in_line l blocks) 0 m c.first_told-told.result) next
          (told_more l w blocks c.loop-j.body c.strip_one-found.new.body n c.loop-j.told c.strip_one-found.result c.first_told-told.result c.strip_one-found.ensures.found c.strip_one-found.ensures.differs c.first_told-told.ensures (h.told before));
      moved = λ old before. subst (λ m. AreStripped l w m blocks old c.strip_one-found.new.body) next
          (left_more l w n blocks old c.loop-j.body c.strip_one-found.new.body c.strip_one-found.result inside room c.strip_one-found.ensures.found c.strip_one-found.ensures.differs c.strip_one-found.ensures.copied (h.moved old before));
    }

pub overflow_cast-result : goal.overflow_cast-result
overflow_cast-result c =
    let h = c.loop-j.invariant in
    let small = bits_small (λ j. is_bad c.args.layout c.args.want c.args.blocks.now (c.args.first + j)) c.loop-j.j in
    let top = bit_in_byte c.loop-j.j (omega (arith, c.requires.few)) in
    omega (arith, h.bits, small, top)

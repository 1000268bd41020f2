use Rattle.std.proofs.Common.{ℕ, ◌∷◌, [], ◌++◌, ap, sym, refl, ◌∙◌, arith, length, length-append, append_assoc, slice_index_or}
use Rattle.merge_queue.specs.Chains.{bios_at, path, no_bio}
use Rattle.merge_queue.proofs.Linking.{after-more, copy-more, length-bios_at, length-path}
use Rattle.merge_queue.proofs.chains.copy_out.Goals as goal

pub push_reserved-requires : goal.push_reserved-requires
push_reserved-requires c =
    let ps = path c.args.next.now c.args.first c.loop-k.k in
    let a = ap length c.loop-k.invariant.into in
    let b = length-append c.args.into.now.items (bios_at c.args.bios.now ps) in
    let d = length-bios_at c.args.bios.now ps in
    let e = length-path c.args.next.now c.args.first c.loop-k.k in
    omega (arith, c.loop-k.invariant.capacity, c.requires.room, c.loop-k-test.true)

pub loop-k-preserved : goal.loop-k-preserved
loop-k-preserved c =
    let ps = path c.args.next.now c.args.first c.loop-k.k in
    let b = slice_index_or c.args.bios.now c.loop-k.place no_bio in
    record {
      place = ap (λ (p : ℕ). slice_index_or c.args.next.now p 0) c.loop-k.invariant.place ∙ sym (after-more c.args.next.now c.args.first c.loop-k.k 1);
      into = c.push_reserved.ensures.items ∙ ap (λ z. z ++ (b ∷ [])) c.loop-k.invariant.into ∙ append_assoc c.args.into.now.items (bios_at c.args.bios.now ps) (b ∷ [])
          ∙ ap (λ z. c.args.into.now.items ++ z) (sym (copy-more c.args.next.now c.args.first c.loop-k.k c.loop-k.place c.args.bios.now b c.loop-k.invariant.place refl));
      capacity = c.push_reserved.ensures.capacity ∙ c.loop-k.invariant.capacity;
    }

use Rattle.std.proofs.Common.{◌≡◌, ◌+◌, ◌-◌, ◌*◌, ◌≤◌, ◌++◌, length, map, take, drop, refl, ap, sym, ◌∙◌, arith}
use Rattle.std.specs.Prelude.{if◌then◌else◌, ◌&&◌, not}
use Rattle.std.proofs.lemmas.List.{get_or_default, take_at}
use Rattle.std.proofs.Math.Nat.{mul-le-mul_right}
use Rattle.std.proofs.lemmas.List.Elements.{All-get_or}
use Rattle.page_pool.specs.Cells.{flat}
use Rattle.pi_tuple.specs.Finds.{is_zero}
use Rattle.bio_core.specs.Bios.{block_size}
use Rattle.cdb_codec.specs.Forms.{form}
use Rattle.cdb_codec.specs.declared.choice.Dir2.TheVariants.{In}
use Rattle.rig_api.specs.Passed.{frames_of}
use Rattle.dix_adapter.specs.Carried.{command_for, command_of, fates_in, frame_len, frames_came, landed, way_of}
use Rattle.dix_adapter.specs.Groups.{block_len, IsBio, blocks_in, first_of, label_of, no_bio, no_request, request_of, size}
use Rattle.dix_adapter.specs.Outcomes.{done_of, rest_of}
use Rattle.dix_adapter.proofs.Grouping.{times-most}
use Rattle.dix_adapter.proofs.Judged.{exchanged-as}
use Rattle.dix_adapter.proofs.Landing.{frames-taken, group-most, group-width, taken-long}
use Rattle.dix_adapter.proofs.adapter.Adapter.carry_in.Goals as goal

pub returns-clause-fetched : goal.returns-clause-fetched
returns-clause-fetched g c =
    let k = All-get_or (IsBio c.args.self.now c.args.pool.now c.requires.can.bytes c.args.ios.now (first_of c.args.req.now).dev (first_of c.args.req.now).dir) c.args.req.now 0 no_bio (let x = c.requires.can.group.some in omega arith) c.requires.can.group.bios in
    let q : c.index-ios-req.result ≡ request_of c.args.ios.now (first_of c.args.req.now).op = c.index-ios-req.is ∙ get_or_default c.args.ios.now ((first_of c.args.req.now).op - 1) c.index-ios-req.result no_request (let x = k.op in let y = k.there in omega arith) in
    let u : c.wire_size.result ≡ frame_len c.args.self.now c.args.ios.now c.args.req.now = c.wire_size.ensures ∙ ap (λ n. if c.args.self.now.dif && not (is_zero c.args.self.now.ty) then n + 8 else n) (c.block_size-size.ensures ∙ ap block_size q ∙ k.request.size) ∙ sym (group-width c.args.self.now c.args.pool.now c.requires.can.bytes c.args.ios.now c.args.req.now c.requires.can.group) in
    let l : c.deref.result.now ≡ map label_of (blocks_in c.args.req.now) = c.deref.ensures.value ∙ c.fill_labels-count.ensures.labels in
    let cmd : command_for c.args.self.now In (first_of c.args.req.now).lba c.fill_labels-count.result ≡ command_of c.args.self.now c.args.req.now =
    ap (λ n. command_for c.args.self.now In (first_of c.args.req.now).lba n) c.fill_labels-count.ensures.count
    ∙ ap (λ w. command_for c.args.self.now w (first_of c.args.req.now).lba (size c.args.req.now)) (sym (ap way_of c.requires.way)) in
    let d = ap form cmd in
    let z : c.fill_labels-count.result * c.wire_size.result ≡ size c.args.req.now * frame_len c.args.self.now c.args.ios.now c.args.req.now = ap (λ n. n * c.wire_size.result) c.fill_labels-count.ensures.count ∙ ap (λ n. size c.args.req.now * n) u in
    let m = group-most c.args.self.now c.args.pool.now c.requires.can.bytes c.args.ios.now c.args.req.now c.requires.can.group in
    let t = times-most (size c.args.req.now) (frame_len c.args.self.now c.args.ios.now c.args.req.now) (block_len c.args.ios.now c.args.req.now + 8) m in
    let y : c.fill_labels-count.result * c.wire_size.result ≤ length c.deref_mut.result.now = omega (arith, z, t, c.requires.can.scratch.frames, c.deref_mut.ensures.len, ap length c.deref_mut.ensures.value) in
    let r : length (take (c.fill_labels-count.result * c.wire_size.result) c.deref_mut.result.now) ≡ size c.args.req.now * frame_len c.args.self.now c.args.ios.now c.args.req.now = taken-long (c.fill_labels-count.result * c.wire_size.result) c.deref_mut.result.now y ∙ z in
    let n : c.done_of.result ≡ done_of (size c.args.req.now) c.fetch-outcome.result = c.done_of.ensures.value ∙ ap (λ n. done_of n c.fetch-outcome.result) c.fill_labels-count.ensures.count in
    let b : length c.fetch-outcome.new.frames ≡ c.args.scratch.now.frames.len = omega (arith, c.fetch-outcome.ensures.long, c.deref_mut.ensures.len) in
    let v : c.deref_mut-2.result.now ≡ c.fetch-outcome.new.frames = c.deref_mut-2.ensures.value ∙ take_at c.fetch-outcome.new.frames (drop (length c.fetch-outcome.new.frames) c.args.scratch.now.frames.items) c.args.scratch.now.frames.len b in
    let o : c.done_of.result * frame_len c.args.self.now c.args.ios.now c.args.req.now ≤ c.fill_labels-count.result * c.wire_size.result =
    (let p : c.done_of.result * frame_len c.args.self.now c.args.ios.now c.args.req.now ≤ c.fill_labels-count.result * frame_len c.args.self.now c.args.ios.now c.args.req.now = mul-le-mul_right (frame_len c.args.self.now c.args.ios.now c.args.req.now) c.done_of.ensures.within in
    let q : c.fill_labels-count.result * c.wire_size.result ≡ c.fill_labels-count.result * frame_len c.args.self.now c.args.ios.now c.args.req.now = ap (λ n. c.fill_labels-count.result * n) u in
    omega (arith, p, q)) in
    let f : frames_of (frame_len c.args.self.now c.args.ios.now c.args.req.now) c.done_of.result c.deref_mut-2.result.now ≡ frames_came c.args.self.now c.args.ios.now c.args.req.now c.fetch-outcome.result (take (c.fill_labels-count.result * c.wire_size.result) c.fetch-outcome.new.frames) =
    ap (frames_of (frame_len c.args.self.now c.args.ios.now c.args.req.now) c.done_of.result) v
    ∙ frames-taken (frame_len c.args.self.now c.args.ios.now c.args.req.now) c.done_of.result (c.fill_labels-count.result * c.wire_size.result) c.fetch-outcome.new.frames o (omega (arith, y, c.fetch-outcome.ensures.long))
    ∙ ap (λ m. frames_of (frame_len c.args.self.now c.args.ios.now c.args.req.now) m (take (c.fill_labels-count.result * c.wire_size.result) c.fetch-outcome.new.frames)) n in
    record {
      outcome = c.fetch-outcome.result;
      fits = rw cmd at c.fetch-outcome.ensures.fits;
      before = take (c.fill_labels-count.result * c.wire_size.result) c.deref_mut.result.now;
      came = take (c.fill_labels-count.result * c.wire_size.result) c.fetch-outcome.new.frames;
      exchanged = exchanged-as (g.R.Rig.state c.args.rig.now) (g.R.Rig.state c.fetch-outcome.new.rig)
          (first_of c.args.req.now).dev _ _ _ _ _ _ (take (c.fill_labels-count.result * c.wire_size.result) c.deref_mut.result.now) (take (c.fill_labels-count.result * c.wire_size.result) c.fetch-outcome.new.frames) c.fetch-outcome.result d l refl c.fetch-outcome.ensures.exchanged;
      room = r;
      long = taken-long (c.fill_labels-count.result * c.wire_size.result) c.fetch-outcome.new.frames (omega (arith, y, c.fetch-outcome.ensures.long)) ∙ z;
      fates_are = c.add_rest.ensures.items ∙ ap (λ z. z ++ rest_of c.fill_labels-count.result c.fetch-outcome.result) (c.land.ensures.landed.fates_are ∙ ap (fates_in c.args.self.now c.args.ios.now (blocks_in c.args.req.now)) f)
          ∙ ap (λ m. fates_in c.args.self.now c.args.ios.now (blocks_in c.args.req.now) (frames_came c.args.self.now c.args.ios.now c.args.req.now c.fetch-outcome.result (take (c.fill_labels-count.result * c.wire_size.result) c.fetch-outcome.new.frames)) ++ rest_of m c.fetch-outcome.result) c.fill_labels-count.ensures.count;
      pages = c.land.ensures.landed.pages;
      whole = c.land.ensures.landed.whole;
      cells = c.land.ensures.landed.cells ∙ ap (λ z. landed c.args.self.now c.args.ios.now (blocks_in c.args.req.now) z (flat c.args.pool.now)) f;
    }

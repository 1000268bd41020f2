-- A group that is sent fits the adapter.
use Rattle.std.proofs.Common.{◌≡◌, ◌<◌, ℕ, ◌+◌, ◌-◌, Bool, true, List, [], ◌∷◌, length, Option, Some, None, refl, sym, ap, ◌∙◌, arith}
use Rattle.std.specs.List.{All}
use Rattle.std.proofs.lemmas.List.Elements.{All-cons, All-head, All-nil, All-tail}
use Rattle.integrity_payload.specs.declared.payload.Payload.{Payload}
use Rattle.bio_core.specs.declared.bio.Bio.{Bio}
use Rattle.bio_core.specs.declared.fate.Fate.{Fate}
use Rattle.bio_core.specs.declared.fate.Fate.TheVariants.{Bad, Good, Untouched}
use Rattle.bio_core.specs.declared.request.Io.{Io}
use Rattle.bio_core.specs.declared.request.Dir.{Dir}
use Rattle.merge_queue.specs.declared.limits.Limits.{Limits}
use Rattle.merge_queue.specs.Groups.{size}
use Rattle.volume_table.specs.Tables.{Table}
use Rattle.dix_adapter.specs.declared.adapter.Adapter.{Adapter}
use Rattle.dix_adapter.specs.Groups as Carry
use Rattle.dix_adapter.specs.Ways.{any_settled}
use Rattle.dix_adapter.specs.Walking.{TuplesOnce, WalksTuples}
use Rattle.stack_ops.specs.declared.op.Op.{Op}
use Rattle.stack_laws.specs.Formed.{Chain, IsGroup, Named}
use Rattle.stack_laws.specs.Plan.{request_at}
use Rattle.stack_laws.specs.Blocks.{place_of, settled_count}
use Rattle.stack_laws.specs.Sound.{HasBlocks, Settles}
use Rattle.stack_steps.specs.Fine.{Fine}
use Rattle.stack_steps.proofs.Keep.{count-few}
use Rattle.stack_steps.proofs.Sums.{group-ends}
use Rattle.stack_walk_laws.specs.Sheets.{HaveNumbers, io_at, plan_of}
use Rattle.stack_walk_laws.specs.Settling.{AreAllWhole, IsWhole}
use Rattle.stack_core.specs.Stacks.{AreUniform}
use Rattle.stack_walk_laws.proofs.Facts.{is-of, place-is, request-at}

-- the sizes of the two crates are one
pub same-size : (g : List Bio) → Carry.size g ≡ size g
same-size [] = refl
same-size (b ∷ bs) = ap (λ n. b.count + n) (same-size bs)

same-chain : (at : ℕ) (g : List Bio) → Chain at g → Carry.Chain at g
same-chain at [] h = tt
same-chain at (b ∷ bs) h = (h.0, same-chain (at + b.count) bs h.1)

walks-tuples : (pool : List (List ℕ)) (io : Io) (o : Option Payload) → io.pi ≡ o → IsWhole pool io → WalksTuples pool io.count o
walks-tuples pool io None e h = tt
walks-tuples pool io (Some pi) e h = let t = h.tuples pi e in (t.payload, (t.count, t.lie))

once-tuples : (pool : List (List ℕ)) (io : Io) (o : Option Payload) → io.pi ≡ o → IsWhole pool io → TuplesOnce o
once-tuples pool io None e h = tt
once-tuples pool io (Some pi) e h = (h.tuples pi e).once

-- a request with blocks, as the adapter wants it
fits-adapter : (a : Adapter) (pool : List (List ℕ)) (bytes : ℕ) (ios : List Io) (i : ℕ) → AreUniform a.dix bytes ios → AreAllWhole pool ios → HaveNumbers ios → i < length ios → 0 < (io_at ios i).count → Carry.IsCarriedRequest a pool bytes (io_at ios i)
fits-adapter a pool bytes ios i u w n l h = record {
  size = u.size i h;
  walks = record { some = h; lies = (w i l).lies; tuples = walks-tuples pool (io_at ios i) (io_at ios i).pi refl (w i l) };
  once = λ d. record { body = (w i l).once d; tuples = once-tuples pool (io_at ios i) (io_at ios i).pi refl (w i l) };
  host = u.host i h;
  fits = n i;
}

one-bio : (ops : List Op) (shifted : List Bool) (ios : List Io) (table : Table) (limits : Limits) (devices d : ℕ) (a : Adapter) (pool : List (List ℕ)) (bytes dev : ℕ) (dir : Dir) (b : Bio) →
    Fine (plan_of ops shifted ios table limits devices) → AreUniform a.dix bytes ios → AreAllWhole pool ios → HaveNumbers ios → Named (plan_of ops shifted ios table limits devices) d b → d ≡ dev → b.dir ≡ dir → Carry.IsBio a pool bytes ios dev dir b
one-bio ops shifted ios table limits devices d a pool bytes dev dir b f u w n h e s =
    let p = plan_of ops shifted ios table limits devices in
    let o = is-of ops shifted ios table limits devices d b f h in
    let i = b.op - 1 in
    let z = o.numbered in
    let t = o.there in
    let m = h.some in
    let x = o.within in
    let few = f.few_blocks in
    let c = count-few p.requests (place_of b.op) in
    let r : (request_at p (place_of b.op)).count ≡ (io_at ios i).count = ap (λ q. q.count) (request-at ios (place_of b.op)) ∙ ap (λ k. (io_at ios k).count) (place-is b.op o.numbered) in
    let way : b.dir ≡ (io_at ios i).dir = h.way ∙ ap (λ q. q.dir) (request-at ios (place_of b.op)) ∙ ap (λ k. (io_at ios k).dir) (place-is b.op o.numbered) in
    record {
      op = z;
      there = t;
      some = m;
      within = x;
      on = h.on ∙ e;
      way = s;
      of = sym way ∙ s;
      ends = record { k = omega arith; lba = o.ends };
      request = fits-adapter a pool bytes ios i u w n (omega arith) (omega arith);
    }

each-bio : (ops : List Op) (shifted : List Bool) (ios : List Io) (table : Table) (limits : Limits) (devices d : ℕ) (a : Adapter) (pool : List (List ℕ)) (bytes dev : ℕ) (dir : Dir) (g : List Bio) →
    Fine (plan_of ops shifted ios table limits devices) → AreUniform a.dix bytes ios → AreAllWhole pool ios → HaveNumbers ios → All (Named (plan_of ops shifted ios table limits devices) d) g → d ≡ dev → All (λ b. b.dir ≡ dir) g →
    All (Carry.IsBio a pool bytes ios dev dir) g
each-bio ops shifted ios table limits devices d a pool bytes dev dir [] f u w n h e s = All-nil (Carry.IsBio a pool bytes ios dev dir)
each-bio ops shifted ios table limits devices d a pool bytes dev dir (b ∷ bs) f u w n h e s =
    All-cons (Carry.IsBio a pool bytes ios dev dir) b bs
    (one-bio ops shifted ios table limits devices d a pool bytes dev dir b f u w n (All-head (Named (plan_of ops shifted ios table limits devices) d) b bs h) e (All-head (λ b. b.dir ≡ dir) b bs s))
    (each-bio ops shifted ios table limits devices d a pool bytes dev dir bs f u w n (All-tail (Named (plan_of ops shifted ios table limits devices) d) b bs h) e (All-tail (λ b. b.dir ≡ dir) b bs s))

-- the group, as the adapter wants it
pub carried-group : (ops : List Op) (shifted : List Bool) (ios : List Io) (table : Table) (limits : Limits) (devices d : ℕ) (a : Adapter) (pool : List (List ℕ)) (bytes : ℕ) (g : List Bio) →
    Fine (plan_of ops shifted ios table limits devices) → AreUniform a.dix bytes ios → AreAllWhole pool ios → HaveNumbers ios → HasBlocks g → IsGroup (plan_of ops shifted ios table limits devices) d g → Carry.IsCarriedGroup a pool bytes ios g
carried-group ops shifted ios table limits devices d a pool bytes [] f u w n h i = absurd (omega arith)
carried-group ops shifted ios table limits devices d a pool bytes (b ∷ bs) f u w n h i =
    let p = plan_of ops shifted ios table limits devices in
    let x = group-ends p d (b ∷ bs) f i h in
    let on = (All-head (Named p d) b bs i.named).on in
    let z = same-size (b ∷ bs) in
    let y = x.ends in
    record {
      some = x.some;
      bios = each-bio ops shifted ios table limits devices d a pool bytes b.dev b.dir (b ∷ bs) f u w n i.named (sym on) i.way;
      chain = same-chain b.lba (b ∷ bs) i.chain;
      ends = omega arith;
      small = (u.some, u.few);
    }

some-settled : (fs : List Fate) → any_settled fs ≡ true → 0 < settled_count fs
some-settled [] h = absurd cc
some-settled (Good ∷ fs) h = omega arith
some-settled (Bad why ∷ fs) h = omega arith
some-settled (Untouched ∷ fs) h = let r = some-settled fs h in omega arith

-- the fates that the adapter gives settle the group
pub settles-of : (g : List Bio) (fs : List Fate) → length fs ≡ Carry.size g → any_settled fs ≡ true → Settles g fs
settles-of g fs n s = record { each = n ∙ same-size g; some = some-settled fs s }

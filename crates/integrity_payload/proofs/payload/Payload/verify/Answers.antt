use Rattle.std.proofs.Common.{◌≡◌, ◌+◌, ◌*◌, ◌/◌, ◌∙◌, ap, sym, length, refl}
use Rattle.page_pool.specs.Places.{places_in, total}
use Rattle.page_pool.specs.Pages.{bytes_at}
use Rattle.pi_guard.specs.Guards.{guard_of}
use Rattle.pi_tuple.specs.Finds.{finding}
use Rattle.pi_tuple.specs.Tuples.{ref_tag}
use Rattle.integrity_payload.specs.Payloads.{all_asked, block_of}
use Rattle.page_pool.proofs.Placing.{in_pages, segments_stand}
use Rattle.page_pool.proofs.Spreads.{ahead-stands, room-ahead, range-ahead}
use Rattle.integrity_payload.proofs.Fills.{block_fits}
use Rattle.integrity_payload.proofs.payload.Payload.verify.Goals as goal

pub walk-blocks-requires : goal.walk-blocks-requires
walk-blocks-requires c = in_pages (length c.args.pool.now) (places_in c.args.body.now) (segments_stand c.args.pool.now c.args.body.now c.requires.body)

pub next_guard-guard-requires-clause-stand : goal.next_guard-guard-requires-clause-stand
next_guard-guard-requires-clause-stand c =
    ahead-stands c.args.pool.now c.args.pool.now c.args.body.now c.walk-blocks.result (c.args.k * (c.total.result / c.args.self.now.count)) (c.total.result / c.args.self.now.count) c.requires.body refl c.walk-blocks.ensures.ahead

pub next_guard-guard-requires-clause-room : goal.next_guard-guard-requires-clause-room
next_guard-guard-requires-clause-room c =
    let fits = block_fits c.total.result c.args.self.now.count c.args.k c.requires.index in
    let all = c.total.ensures in
    room-ahead c.args.body.now c.walk-blocks.result (c.args.k * (c.total.result / c.args.self.now.count)) (c.total.result / c.args.self.now.count) c.walk-blocks.ensures.ahead (rw (← all) fits)

pub returns : goal.returns
returns c =
    let size : c.total.result / c.args.self.now.count ≡ total c.args.body.now / c.args.self.now.count = ap (λ n. n / c.args.self.now.count) c.total.ensures in
    let here = range-ahead c.args.body.now c.walk-blocks.result (c.args.k * (c.total.result / c.args.self.now.count)) (c.total.result / c.args.self.now.count) c.walk-blocks.ensures.ahead in
    let guard : c.next_guard-guard.result ≡ guard_of c.args.kind (block_of c.args.pool.now c.args.body.now (total c.args.body.now / c.args.self.now.count) c.args.k) =
    c.next_guard-guard.ensures.guard ∙ (ap (λ l. guard_of c.args.kind (bytes_at c.args.pool.now l)) here ∙ ap (λ s. guard_of c.args.kind (block_of c.args.pool.now c.args.body.now s c.args.k)) size) in
    let what = all_asked c.args.app c.args.mask in
    let want = ref_tag (c.args.self.now.seed + c.args.k) in
    c.finds.ensures
    ∙ (ap (λ w. finding c.args.ty what w c.next_guard-guard.result c.tuple_at.result) c.ref_tag-want.ensures
    ∙ (ap (λ g. finding c.args.ty what want g c.tuple_at.result) guard ∙ ap (finding c.args.ty what want (guard_of c.args.kind (block_of c.args.pool.now c.args.body.now (total c.args.body.now / c.args.self.now.count) c.args.k))) (sym c.tuple_at.ensures.reads)))

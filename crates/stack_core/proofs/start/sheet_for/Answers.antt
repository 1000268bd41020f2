use Rattle.std.proofs.Common.{◌≡◌, ap, ◌∙◌, sym, length, arith}
use Rattle.stack_walk_laws.specs.Requests.{pages_from, requests_from}
use Rattle.stack_walk_laws.specs.Shifts.{shifted_by}
use Rattle.stack_core.proofs.Opening.{have-numbers, inside-each, own-few, sheet-is}
use Rattle.stack_core.proofs.Queues.{has-queues}
use Rattle.stack_core.proofs.start.sheet_for.Goals as goal

pub requests-requires-clause-blocks : goal.requests-requires-clause-blocks
requests-requires-clause-blocks c =
    rw (c.as_slice-2.ensures) (own-few c.args.table c.args.mode.dix c.args.mode.protect c.args.limits c.args.pages c.requires.0 c.args.ops c.requires.1)

pub count_devices-devices-requires-clause-inside : goal.count_devices-devices-requires-clause-inside
count_devices-devices-requires-clause-inside c =
    let e : c.deref.result.now ≡ requests_from c.args.mode.dix c.args.pages c.args.ops = c.deref.ensures.value ∙ c.in_ok-ios.ensures.ios ∙ ap (requests_from c.args.mode.dix c.args.pages) c.as_slice-2.ensures in
    rw e (inside-each c.args.table c.args.mode.dix c.args.mode.protect c.args.limits c.args.pages c.requires.0 c.args.ops c.requires.1)

pub count_devices-devices-requires-clause-numbers : goal.count_devices-devices-requires-clause-numbers
count_devices-devices-requires-clause-numbers c =
    let e : c.deref.result.now ≡ requests_from c.args.mode.dix c.args.pages c.args.ops = c.deref.ensures.value ∙ c.in_ok-ios.ensures.ios ∙ ap (requests_from c.args.mode.dix c.args.pages) c.as_slice-2.ensures in
    rw e (have-numbers c.args.table c.args.mode.dix c.args.mode.protect c.args.limits c.args.pages c.requires.0 c.args.ops c.requires.1)

pub sheet_of-requires : goal.sheet_of-requires
sheet_of-requires c =
    let e : c.deref.result.now ≡ requests_from c.args.mode.dix c.args.pages c.args.ops = c.deref.ensures.value ∙ c.in_ok-ios.ensures.ios ∙ ap (requests_from c.args.mode.dix c.args.pages) c.as_slice-2.ensures in
    let i : c.in_ok-ios.ios.items ≡ requests_from c.args.mode.dix c.args.pages c.args.ops = c.in_ok-ios.ensures.ios ∙ ap (requests_from c.args.mode.dix c.args.pages) c.as_slice-2.ensures in
    rw i (sheet-is c.args.table c.args.mode.dix c.args.mode.protect c.args.limits c.args.pages c.requires.0 c.args.ops c.in_ok-shifted.shifted.items c.count_devices-devices.result c.requires.1 c.count_devices-devices.ensures.few (rw e at c.count_devices-devices.ensures.all))

pub returns-clause-sheet : goal.returns-clause-sheet
returns-clause-sheet c =
    let sh = c.sheet_of.result in
    let i = c.in_ok-ios.ensures.ios ∙ ap (requests_from c.args.mode.dix c.args.pages) c.as_slice-2.ensures in
    let ios : sh.ios.items ≡ c.deref.result.now = c.sheet_of.ensures.ios ∙ sym c.deref.ensures.value in
    let table = c.sheet_of.ensures.table in
    record {
      ops = c.sheet_of.ensures.ops;
      ios = c.sheet_of.ensures.ios ∙ i;
      shifted = c.sheet_of.ensures.shifted ∙ c.in_ok-shifted.ensures ∙ ap (shifted_by c.args.faults.now) (ap length c.as_slice.ensures);
      table = table;
      limits = c.sheet_of.ensures.limits;
      devices = λ n h. (let l = c.count_devices-devices.ensures.least n h in let e = c.sheet_of.ensures.devices in omega arith);
      queues = has-queues sh.ops sh.shifted.items sh.ios.items sh.table sh.limits sh.devices sh.right.fine.on_devices
          (λ n h. (let l = c.count_devices-devices.ensures.tight n (rw (ios, table) at h) in let e = c.sheet_of.ensures.devices in omega arith));
    }

pub returns-clause-pages : goal.returns-clause-pages
returns-clause-pages c = c.in_ok-ios.ensures.pages ∙ ap (pages_from c.args.mode.dix c.args.pages) c.as_slice-2.ensures

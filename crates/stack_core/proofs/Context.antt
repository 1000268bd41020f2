-- What a stack and its script are to each other, over what is told.
use Rattle.std.proofs.Common.{◌<◌, ℕ, List, length, sym, ap, subst}
use Rattle.bio_core.specs.declared.request.Io.{Io}
use Rattle.dix_adapter.specs.Walking.{HasHost}
use Rattle.stack_laws.specs.Plan.{Plan, PlannedOp}
use Rattle.stack_ops.specs.declared.op.Op.{Op}
use Rattle.stack_ops.specs.declared.op.Op.TheVariants.{Fetch, FetchPi, Fill, Overwrite, Put, Seal, Show, Wait, Write, WritePi}
use Rattle.block_path.specs.Acts.{State}
use Rattle.block_path.specs.Blocks.{Sent}
use Rattle.volume_table.specs.declared.entry.Entry.{Entry}
use Rattle.volume_table.specs.Places.{place_in}
use Rattle.stack_walk_laws.specs.Passed.{came_by, told, Setting}
use Rattle.stack_walk_laws.specs.Ground.{IsPlanOf}
use Rattle.stack_walk_laws.proofs.WalksOver.{ground_over}
use Rattle.pi_tuple.specs.declared.checks.PiType.{PiType}
use Rattle.dix_adapter.specs.declared.adapter.Adapter.{Adapter}
use Rattle.stack_core.specs.declared.sheet.Sheet.{Sheet}
use Rattle.stack_core.specs.declared.stack.Stack.{Stack}
use Rattle.stack_walk_laws.specs.Sheets.{io_at, op_in}
use Rattle.stack_core.specs.Stacks.{IsStack, StackStays, plan_in}
use Rattle.stack_walk_laws.specs.Seals.{IsSealed}
use Rattle.stack_core.specs.Walking.{IsOver}
use Rattle.stack_walk_laws.proofs.Facts.{request-at}
use Rattle.stack_core.proofs.FollowsGroup.{Places}
use Rattle.stack_core.proofs.FollowsSend.{Adapts}
use Rattle.stack_core.proofs.Planning.{plan_is}
use Rattle.stack_core.proofs.Spotted.{Stands}

module _ (m : Setting) (n : ℕ) (opening : State) (s : Stack) (h : IsStack s) (o : IsOver m n opening s.sheet s.adapter s.host) where
  abbrev plan : Plan
  plan = plan_in s.sheet

  abbrev ops : List Op
  ops = s.sheet.ops

  abbrev ios : List Io
  ios = s.sheet.ios.items

  pub plan_of : IsPlanOf plan m ops
  plan_of = plan_is m m.mode.dix o.pages ops s.sheet.shifted.items ios s.sheet.table s.sheet.limits s.sheet.devices o.ios o.shifted

  host_at : (i : ℕ) → 0 < (io_at ios i).count → HasHost m.mode.dix (io_at ios i).pi
  host_at i z = subst (λ dix. HasHost dix (io_at ios i).pi) (sym (ap (λ mode. mode.dix) o.mode)) (h.fixed.uniform.host i z)

  pub stands : Stands m n (length opening.logs) plan ops ios s.pool
  stands = record { ground = o.ground; plan = plan_of; pages = o.pages; bytes = o.bytes; requests = o.ios; size = o.size; host = host_at; whole = h.whole }

  pub places : Places m plan ops ios
  places = record {
    many = h.fixed.ops;
    first = λ i. ap (λ (r : PlannedOp). r.first) (request-at ios i);
    count = λ i. ap (λ (r : PlannedOp). r.count) (request-at ios i);
    dir = λ i. ap (λ (r : PlannedOp). r.dir) (request-at ios i);
    dev = λ v. ap (λ (x : List Entry). (place_in x v).0) (sym o.entries);
    lba = λ v. ap (λ (x : List Entry). (place_in x v).1) (sym o.entries);
  }

  pub adapts : Adapts m s.adapter
  adapts = record { mode = o.mode; ty = o.ty }

-- an op's data are sealed over what is told, too
pub sealed_over : (m : Setting) (es : List Sent) (op : Op) → IsSealed m op → IsSealed (told m es) op
sealed_over m es (Fill seg byte) h = tt
sealed_over m es (Put page off bytes) h = tt
sealed_over m es (Show seg) h = tt
sealed_over m es (Seal n body tuples app rtag) h = h
sealed_over m es (Write v n body app) h = tt
sealed_over m es (Fetch v n body) h = tt
sealed_over m es (WritePi v n body tuples) h = tt
sealed_over m es (FetchPi v n body tuples) h = tt
sealed_over m es (Overwrite dev lba change) h = tt
sealed_over m es Wait h = tt

-- what is known of a setting is known of it over what is told
pub over_told : (m : Setting) (es : List Sent) (n : ℕ) (opening : State) (sheet : Sheet) (a : Adapter) (host : PiType) → IsOver m n opening sheet a host → IsOver (told m es) n opening sheet a host
over_told m es n opening sheet a host o = record {
  ground = ground_over m (came_by es) n (length opening.logs) sheet.ops o.ground;
  found = o.found;
  pages = o.pages;
  bytes = o.bytes;
  ios = o.ios;
  shifted = o.shifted;
  mode = o.mode;
  ty = o.ty;
  host_is = o.host_is;
  size = o.size;
  entries = o.entries;
  faults = o.faults;
  seals = λ i l. sealed_over m es (op_in sheet.ops i) (o.seals i l);
}

-- and once the stack has gone on
pub over_stays : (m : Setting) (n : ℕ) (opening : State) (s s' : Stack) → StackStays s s' → IsOver m n opening s.sheet s.adapter s.host → IsOver m n opening s'.sheet s'.adapter s'.host
over_stays m n opening s s' stays o =
    subst (λ (x : Sheet). IsOver m n opening x s'.adapter s'.host) (sym stays.sheet)
    (subst (λ (a : Adapter). IsOver m n opening s.sheet a s'.host) (sym stays.adapter)
    (subst (λ (t : PiType). IsOver m n opening s.sheet s.adapter t) (sym stays.host) o))

use Rattle.std.proofs.Common.{ap, sym, refl, ◌∙◌, arith, ◌-◌, get_or, set, ℕ}
use Rattle.stack_steps.specs.declared.flight.Flight.{Flight}
use Rattle.stack_steps.proofs.Flights.{earlier-none, earlier-more}
use Rattle.stack_steps.proofs.flight.begin_earlier.Goals as goal

pub loop-k-init : goal.loop-k-init
loop-k-init c = record { items = sym (earlier-none c.args.commands.now.items c.args.from c.args.bios c.args.fates); capacity = refl }

pub loop-k-preserved : goal.loop-k-preserved
loop-k-preserved c =
    let is = c.loop-k.invariant.items in
    let x : Flight = c.index-command.result.now in
    record {
      items =
          ap (λ (n : ℕ). set c.loop-k.commands.items c.loop-k.k (record { dev = x.dev; bios = x.bios; blocks = x.blocks; first_bio = n; first_fate = c.saturating_sub-in-loop-k.result })) c.saturating_sub.ensures
          ∙ ap (λ (m : ℕ). set c.loop-k.commands.items c.loop-k.k (record { dev = x.dev; bios = x.bios; blocks = x.blocks; first_bio = x.first_bio - c.args.bios; first_fate = m })) c.saturating_sub-in-loop-k.ensures
          ∙ ap (λ z. set z c.loop-k.k (record { dev = x.dev; bios = x.bios; blocks = x.blocks; first_bio = x.first_bio - c.args.bios; first_fate = x.first_fate - c.args.fates })) is
          ∙ earlier-more c.args.commands.now.items c.args.from c.loop-k.k c.args.bios c.args.fates x (omega arith) (omega arith) (c.index-command.ensures ∙ ap (λ z. get_or z c.loop-k.k x) is);
      capacity = c.loop-k.invariant.capacity;
    }

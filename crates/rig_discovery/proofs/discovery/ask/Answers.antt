use Rattle.std.proofs.Common.{◌∙◌}
use Rattle.rig_discovery.proofs.Answering.{look_answers}
use Rattle.rig_discovery.proofs.Steps.{asked_is}
use Rattle.rig_discovery.proofs.Telling.{told_is, units_stay}
use Rattle.rig_discovery.proofs.discovery.ask.Goals as goal

pub returns-clause-asked : goal.returns-clause-asked
returns-clause-asked g c = (
  record { outcome = c.exchange-outcome.result; bytes = c.exchange-outcome.new.into },
  asked_is _ _ c.args.dev c.first.result c.size.result c.exchange-outcome.result c.exchange-outcome.new.into _ c.exchange-outcome.ensures.exchanged.standing c.first.ensures c.size.ensures c.told_by.ensures.value,
  c.exchange-outcome.ensures.exchanged.recorded,
)

pub returns-clause-told : goal.returns-clause-told
returns-clause-told g c = λ t.
    asked_is _ _ c.args.dev c.first.result c.size.result c.exchange-outcome.result c.exchange-outcome.new.into _ c.exchange-outcome.ensures.exchanged.standing c.first.ensures c.size.ensures c.told_by.ensures.value
    ∙ told_is _ _ c.args.dev _ _ _ c.exchange-outcome.result c.exchange-outcome.new.into _ _ (g.met.R.Rig.ready c.args.rig.now) c.requires.device (g.met.R.Rig.laid c.args.rig.now) c.exchange-outcome.ensures.exchanged.stopped t

pub returns-clause-units : goal.returns-clause-units
returns-clause-units g c =
    units_stay _ _ _ c.args.dev _ _ _ _ c.exchange-outcome.result c.exchange-outcome.new.into _ _ c.exchange-outcome.ensures.exchanged.standing (g.met.R.Rig.laid c.args.rig.now) (g.met.R.Rig.laid c.exchange-outcome.new.self) c.exchange-outcome.ensures.exchanged.tells c.exchange-outcome.ensures.exchanged.stopped

pub returns-clause-answered : goal.returns-clause-answered
returns-clause-answered g c = λ us told. look_answers us _ _ c.args.dev c.exchange-outcome.result c.exchange-outcome.new.into told c.exchange-outcome.ensures.exchanged

use Rattle.dixpi.proofs.senses.dixpi_sense_check.Goals as goal

pub returns-in-None-clause-only : goal.returns-in-None-clause-only
returns-in-None-clause-only c l k t = absurd (let none = c.in-None.ensures.only l k t in cc)

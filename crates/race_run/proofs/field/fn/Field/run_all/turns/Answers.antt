use Rattle.race_run.proofs.field.fn.Field.run_all.turns.Goals as goal

pub returns : goal.returns
returns g c = record { pass = c.run.ensures.pass c.args.number c.requires; ended = c.run.ensures.ended }

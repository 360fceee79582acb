use Rattle.scenario_text.proofs.Words.{word_spells}
use Rattle.scenario_text.proofs.word.word_of_field.Goals as goal

pub returns : goal.returns
returns c = word_spells c.args.field.now _ c.word_spelled.ensures.found c.word_spelled.ensures.none

use Rattle.memory_links.proofs.Bounds.{few_entries, few_words, few_given}
use Rattle.memory_links.proofs.gathers.gather_is_bounded.Goals as goal

pub returns-clause-entries : goal.returns-clause-entries
returns-clause-entries c = few_entries

pub returns-clause-words : goal.returns-clause-words
returns-clause-words c = few_words

pub returns-clause-given : goal.returns-clause-given
returns-clause-given c = λ room most up down state run some small k. few_given room up down state run most some small k

use Rattle.frag_sem.proofs.Events.{events_are_few, events_in_range, places_are_registers, presets_in_range, reads_are_answered, version_keeps}
use Rattle.frag_sem.proofs.laws.meaning_law.Goals as goal

pub returns-clause-places : goal.returns-clause-places
returns-clause-places c = places_are_registers

pub returns-clause-events : goal.returns-clause-events
returns-clause-events c = events_in_range

pub returns-clause-few : goal.returns-clause-few
returns-clause-few c = events_are_few

pub returns-clause-presets : goal.returns-clause-presets
returns-clause-presets c = presets_in_range

pub returns-clause-answers : goal.returns-clause-answers
returns-clause-answers c = reads_are_answered

pub returns-clause-version : goal.returns-clause-version
returns-clause-version c = version_keeps

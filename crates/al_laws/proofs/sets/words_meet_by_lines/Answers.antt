use Rattle.al_laws.proofs.Meeting.{words_meet_by_lines, lines_of_one_word}
use Rattle.al_laws.proofs.sets.words_meet_by_lines.Goals as goal

pub returns-clause-lines : goal.returns-clause-lines
returns-clause-lines c = words_meet_by_lines

pub returns-clause-one_word : goal.returns-clause-one_word
returns-clause-one_word c = lines_of_one_word

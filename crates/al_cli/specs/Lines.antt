-- The lines of refused words.
use Rattle.std.specs.Prelude.{ℕ, ◌+◌, List, [], ◌++◌, codes}
use Rattle.al_words.specs.declared.command.WordFault.{WordFault}
use Rattle.al_words.specs.declared.command.WordFault.TheVariants.{NoCommand, BadCommand, Unknown, Repeated, NoValue, BadValue, Names, BadNumber}
use Rattle.al_words.specs.Words.{word_at}
use Rattle.al_answers.specs.Lines.{line}

abbrev pub word_line : List (List ℕ) → WordFault → List ℕ
word_line words NoCommand = line (codes "no command") [] []
word_line words (BadCommand at) = line (codes "unknown command: ") (word_at words at) []
word_line words (Unknown at) = line (codes "unknown option: ") (word_at words at) []
word_line words (Repeated at) = line (codes "repeated option: ") (word_at words at) []
word_line words (NoValue at) = line (codes "no value for ") (word_at words at) []
word_line words (BadValue at) = line (codes "bad value for ") (word_at words at) (codes ": " ++ word_at words (at + 1))
word_line words Names = line (codes "wrong number of names") [] []
word_line words (BadNumber at) = line (codes "bad number: ") (word_at words at) []

-- The numbers that stand in the words of a board.
use Rattle.std.specs.Prelude.{◌≡◌, ℕ, ◌+◌, ◌<◌, ◌≤◌}

-- the word of a lane that a view holds, of one that a view has put, and of one whose piece was taken; before, it is 0
abbrev pub held_word : ℕ
held_word = 1

abbrev pub filled_word : ℕ
filled_word = 2

abbrev pub taken_word : ℕ
taken_word = 3

-- the baton's word while a view holds the baton: more than any number of lanes
abbrev pub away_word : ℕ
away_word = 1025

-- a word for the draws, one for each lane and one for the baton; a slot for each lane and one for the shelf
abbrev pub IsSized : (words slots lanes : ℕ) → Type 0
IsSized words slots lanes = (words ≡ lanes + 2) × (slots ≡ lanes + 1) × (0 < lanes) × (lanes ≤ 1024)

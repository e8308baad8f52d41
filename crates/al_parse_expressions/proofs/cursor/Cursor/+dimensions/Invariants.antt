use Rattle.al_parse_expressions.proofs.cursor.Cursor.+dimensions.Given as goal

abbrev pub decreases-dimensions : goal.decreases-dimensions
decreases-dimensions l = l.left

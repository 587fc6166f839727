-- The number of the node falls.
use Rattle.words.proofs.indexed_text.IndexedText.+position_in.Given as goal

abbrev pub decreases-position_in : goal.decreases-position_in
decreases-position_in l = l.node

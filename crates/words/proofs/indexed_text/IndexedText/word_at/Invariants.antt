-- The walk goes down to nodes of larger numbers.
use Rattle.std.proofs.Common.{◌≡◌, length, get_or, ◌-◌}
use Rattle.index.specs.Lent.{slices_of}
use Rattle.words.proofs.Parts.{node_in}
use Rattle.words.proofs.Walking.{Reads}
use Rattle.words.proofs.indexed_text.IndexedText.word_at.Given as goal

-- from the position of the node the walk reads the word at the place, and the byte is the one at the position
abbrev pub invariant-loop-at : goal.invariant-loop-at
invariant-loop-at l =
    Reads l.self.index.s l.self.index.shape (slices_of l.self.index) l.fn.place.0 l.node l.at.0
    × (l.byte ≡ get_or (node_in (slices_of l.self.index) l.node) l.at.0 0)

-- the number of nodes from the node on
abbrev pub decreases-loop-at : goal.decreases-loop-at
decreases-loop-at l = length l.self.index.lengths.now - l.node

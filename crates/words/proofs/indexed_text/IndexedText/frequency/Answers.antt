use Rattle.words.proofs.Positions.{end_there}
use Rattle.words.proofs.indexed_text.IndexedText.frequency.Goals as goal

pub step_in-first-requires : goal.step_in-first-requires
step_in-first-requires c = rw c.node_of-node.ensures (end_there c.args.self.now.ready.checked c.args.rank c.requires)

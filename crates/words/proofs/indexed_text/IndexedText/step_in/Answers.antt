use Rattle.words.proofs.Parts.{node_counted}
use Rattle.words.proofs.indexed_text.IndexedText.step_in.Goals as goal

pub step_in-requires : goal.step_in-requires
step_in-requires c =
    let n = node_counted c.args.self.now.ready c.args.node c.requires in
    (n.there, rw c.counted.ensures n.inside)

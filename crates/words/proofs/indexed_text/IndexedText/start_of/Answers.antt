use Rattle.std.proofs.Common.{refl}
use Rattle.words.proofs.Parts.{node_counted}
use Rattle.words.proofs.indexed_text.IndexedText.start_of.Goals as goal

pub returns : goal.returns
returns c = (refl, (node_counted c.args.self.now.ready c.args.node c.requires).inside)

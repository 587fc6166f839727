-- `hashing::part::Part::find` meets its contract: the look-up in the part's own hash table. Assumes nothing.
use Rattle.hashing.proofs.part.Part.find.Goals as goal

pub find-requires : goal.find-requires
find-requires c = (c.args.self.now.hashed, c.requires.0, c.requires.1)

pub returns : goal.returns
returns c = c.find.ensures

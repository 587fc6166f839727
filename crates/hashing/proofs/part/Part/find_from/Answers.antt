-- `hashing::part::Part::find_from` meets its contract: the look-up along the bucket, in the part's own hash table. Assumes nothing.
use Rattle.hashing.proofs.part.Part.find_from.Goals as goal

pub find_from-requires : goal.find_from-requires
find_from-requires c =
    let p = c.args.self.now in
    (p.hashed.few, p.hashed.begun, p.hashed.chained.linked, c.requires.0, c.requires.1, c.requires.2)

pub returns : goal.returns
returns c = c.find_from.ensures

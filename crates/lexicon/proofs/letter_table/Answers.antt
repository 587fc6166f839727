-- `lexicon::letter_table`: the constant is the letter table, by one computed test.
use Rattle.std.proofs.Common.{refl}
use Rattle.base.specs.Texts.{outside}
use Rattle.lexicon.specs.Letters.{within, letter_of, letters}
use Rattle.lexicon.proofs.letter_table.Goals as goal

pub returns : goal.returns
unfolding within outside letter_of letters
returns c = refl

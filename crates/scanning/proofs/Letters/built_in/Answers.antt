-- `scanning::Letters::built_in` meets its contract: the constant is the letter table, which keeps the rules. Assumes nothing.
use Rattle.std.proofs.Common.{refl}
use Rattle.base.specs.Texts.{outside}
use Rattle.lexicon.proofs.Tables.{letters_rule}
use Rattle.lexicon.specs.Letters.{within, letter_of, letters}
use Rattle.scanning.proofs.Letters.built_in.Goals as goal

pub invariant_of-result : goal.invariant_of-result
unfolding within outside letter_of letters
invariant_of-result c = record { rule = letters_rule }

pub returns : goal.returns
unfolding within outside letter_of letters
returns c = refl

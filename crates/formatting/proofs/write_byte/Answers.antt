-- the blank and the two digits are stored one after another
use Rattle.formatting.proofs.Texts.{byte_stored}
use Rattle.formatting.proofs.write_byte.Goals as goal

pub returns : goal.returns
returns c =
    byte_stored c.args.byte c.digit.result c.digit-2.result c.args.at c.args.output.now (rw c.from-value.ensures at c.digit.ensures) (rw c.from-value.ensures at c.digit-2.ensures) c.requires

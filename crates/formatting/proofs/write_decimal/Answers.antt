-- what is made of the number are its digits
use Rattle.std.proofs.Common.{length, ap, ◌∙◌, arith}
use Rattle.formatting.proofs.Decimals.{digits_decimal}
use Rattle.formatting.proofs.write_decimal.Goals as goal

pub write_words-requires : goal.write_words-requires
write_words-requires c =
    omega (arith, ap length (c.decimal-count.ensures.digits ∙ digits_decimal c.decimal-count.result c.args.n c.decimal-count.ensures.len), c.requires)

pub returns : goal.returns
returns c = rw (c.decimal-count.ensures.digits ∙ digits_decimal c.decimal-count.result c.args.n c.decimal-count.ensures.len) at c.write_words.ensures

-- `words::text_length` meets its contract: the text has a word for each byte of the root. Assumes nothing.
use Rattle.std.proofs.Common.{refl, sym, ◌∙◌}
use Rattle.words.proofs.Parts.{node_size}
use Rattle.words.proofs.Positions.{text_size_lem}
use Rattle.words.proofs.text_length.Goals as goal

pub returns : goal.returns
returns c = (refl, λ s shape ys us ks checked. sym (text_size_lem checked ∙ node_size checked 0))

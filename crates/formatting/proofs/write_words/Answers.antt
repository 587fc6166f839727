-- what stands in the part that is written is the words
use Rattle.std.proofs.Common.{◌≡◌, ◌+◌, ◌-◌, length, refl, append_assoc, arith}
use Rattle.std.proofs.lemmas.List.{drop-drop}
use Rattle.base.specs.Answers.{written}
use Rattle.formatting.proofs.write_words.Goals as goal

pub returns : goal.returns
unfolding written
returns c =
    let width : c.args.at + length c.args.words.now - c.args.at ≡ length c.args.words.now = omega arith in
    record { after = refl; slice = rw (c.copy_from_slice.ensures.after, width) (simp (append_assoc, drop-drop) refl) }

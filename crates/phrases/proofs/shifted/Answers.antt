use Rattle.std.proofs.Common.{w32, w64, to_z, of_z, ◌≡◌, arith, ◌∙◌}
use Rattle.std.proofs.lemmas.Int.{ints}
use Rattle.phrases.specs.Offsets.{shifted_of}
use Rattle.phrases.proofs.Offsets.{none_within, some_within}
use Rattle.phrases.proofs.shifted.Goals as goal

pub returns-in_err-at : goal.returns-in_err-at
unfolding shifted_of
returns-in_err-at c =
    let e : to_z w64 (of_z w64 (to_z w32 (of_z w32 c.args.offset))) ≡ c.args.offset = omega (arith, ints) in
    rw e at (c.from_residual.ensures ∙ none_within _ c.args.n (omega arith) c.in_err-at.ensures)

pub returns : goal.returns
unfolding shifted_of
returns c =
    let e : to_z w64 (of_z w64 (to_z w32 (of_z w32 c.args.offset))) ≡ c.args.offset = omega (arith, ints) in
    rw e at (c.then_some.ensures ∙ some_within _ c.args.n _ c.in_ok-at.ensures)

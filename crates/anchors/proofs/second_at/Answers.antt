use Rattle.std.proofs.Common.{◌≡◌, ap, ◌∙◌, sym, arith, ℤ}
use Rattle.std.proofs.lemmas.Int.{to_z-of_z}
use Rattle.phrases.specs.Offsets.{shifted_of}
use Rattle.phrases.proofs.Offsets.{shifted_below}
use Rattle.anchors.proofs.Seconds.{moved_after, moved_before, moved_outside}
use Rattle.anchors.proofs.second_at.Goals as goal
use Rattle.anchors.proofs.second_at.Goals.{After-shifted, After-shifted-2}

-- the first place of the text, and its end, moved by the offset
after : (c : After-shifted) → c.shifted.result ≡ shifted_of 0 c.args.offset c.args.n
after c = c.shifted.ensures ∙ ap (λ (z : ℤ). shifted_of 0 z c.args.n) (to_z-of_z _ _ c.ranges.offset)

before : (c : After-shifted-2) → c.shifted-2.result ≡ shifted_of c.args.n c.args.offset c.args.n
before c = c.shifted-2.ensures ∙ ap (λ (z : ℤ). shifted_of c.args.n z c.args.n) (to_z-of_z _ _ c.ranges.offset)

pub returns-in-Some : goal.returns-in-Some
returns-in-Some c = moved_after c.args.offset c.args.n c.in-Some.place (sym (after (goal.at.returns-in-Some c).After-shifted) ∙ c.in-Some.is)

pub overflow_sub-result : goal.overflow_sub-result
overflow_sub-result c =
    omega (arith, shifted_below c.args.n c.args.offset c.args.n c.in-Some-shifted.place (sym (before (goal.at.overflow_sub-result c).After-shifted-2) ∙ c.in-Some-shifted.is))

pub returns-in-Some-shifted : goal.returns-in-Some-shifted
returns-in-Some-shifted c =
    moved_before c.args.offset c.args.n c.in-Some-shifted.place (sym (before (goal.at.returns-in-Some-shifted c).After-shifted-2) ∙ c.in-Some-shifted.is)

pub returns : goal.returns
returns c =
    moved_outside c.args.offset c.args.n
    (sym (after (goal.at.returns c).After-shifted) ∙ c.in_default.is)
    (sym (before (goal.at.returns c).After-shifted-2) ∙ c.in_default-shifted.is)

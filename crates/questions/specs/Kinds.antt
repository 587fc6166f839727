-- The kinds of questions, by their numbers.
use Rattle.std.specs.Prelude.{ℕ, ◌≡◌, ◌≢◌, Result, MatchResult}
use Rattle.base.specs.declared.refusal.Refusal.{Refusal}
use Rattle.base.specs.declared.refusal.Refusal.TheVariants as refusals
use Rattle.questions.specs.declared.kind.Kind.{Kind}
use Rattle.questions.specs.declared.kind.Kind.TheVariants.{WordAt, OccurrencesBelow, PlaceOf, Neighbours, Phrase}

-- the number of a kind
abbrev pub number_of_kind : Kind → ℕ
number_of_kind WordAt = 1
number_of_kind OccurrencesBelow = 2
number_of_kind PlaceOf = 3
number_of_kind Neighbours = 4
number_of_kind Phrase = 5

-- the kind with a number, or refusal 7 where none has it
abbrev pub NamesKind : ℕ → Result Kind Refusal → Type 0
NamesKind number r =
    MatchResult r (λ kind. number_of_kind kind ≡ number) (λ e. (e ≡ refusals.Kind) × ((kind : Kind) → number_of_kind kind ≢ number))

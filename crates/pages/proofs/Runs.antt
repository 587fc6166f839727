-- Laws of a list of page calls: what two lists, one after the other, come to. Assumes nothing.
use Prim.Native.Nat.{◌+◌}
use mathlib.Core.Path.{◌≡◌, refl, ap, ◌∙◌}
use mathlib.Core.List.{List, [], ◌∷◌, ◌++◌, map, flatten, map-append}
use native.Mathlib.Omega.{arith}
use Rattle.base.specs.Lists.{total}
use Rattle.base.proofs.Sums.{total_append}
use Rattle.base.proofs.Segments.{flatten_append}
use Rattle.pages.specs.Runs.{Outcome, hits_on, lines_on, outcomes, state_after, outcome_after, found, lines_had}

module _ {Call State : Type 0} (answer : Call → State → Outcome State) where
  -- one call, and those after it
  pub found_cons : (state : State) (call : Call) (calls : List Call)
      → found answer state (call ∷ calls) ≡ hits_on (answer call state) ++ found answer (answer call state).state calls
  unfolding found outcomes flatten
  found_cons state call calls = refl

  -- some calls, and those after them
  outcomes_append : (state : State) (xs ys : List Call) → outcomes answer state (xs ++ ys) ≡ outcomes answer state xs ++ outcomes answer (state_after answer state xs) ys
  unfolding outcomes state_after
  outcomes_append state [] ys = refl
  outcomes_append state (x ∷ xs) ys = ap (λ (os : List (Outcome State)). answer x state ∷ os) (outcomes_append (answer x state).state xs ys)

  pub found_append : (state : State) (xs ys : List Call) → found answer state (xs ++ ys) ≡ found answer state xs ++ found answer (state_after answer state xs) ys
  unfolding found
  found_append state xs ys =
      ap (λ (os : List (Outcome State)). flatten (map hits_on os)) (outcomes_append state xs ys)
      ∙ ap flatten (map-append hits_on (outcomes answer state xs) (outcomes answer (state_after answer state xs) ys))
      ∙ flatten_append (map hits_on (outcomes answer state xs)) (map hits_on (outcomes answer (state_after answer state xs) ys))

  pub lines_append : (state : State) (xs ys : List Call) → lines_had answer state (xs ++ ys) ≡ lines_had answer state xs + lines_had answer (state_after answer state xs) ys
  unfolding lines_had
  lines_append state xs ys =
      ap (λ (os : List (Outcome State)). total (map lines_on os)) (outcomes_append state xs ys)
      ∙ ap total (map-append lines_on (outcomes answer state xs) (outcomes answer (state_after answer state xs) ys))
      ∙ total_append (map lines_on (outcomes answer state xs)) (map lines_on (outcomes answer (state_after answer state xs) ys))

  -- some calls, and one after them
  pub lines_snoc : (state : State) (xs : List Call) (call : Call) → lines_had answer state (xs ++ call ∷ []) ≡ lines_had answer state xs + lines_on (outcome_after answer state xs call)
  unfolding lines_had outcomes
  lines_snoc state xs call = lines_append state xs (call ∷ []) ∙ omega arith

-- The first test that holds wins; a call fills the front of a slice or leaves it. Assumes nothing.
use Prim.Native.Nat.{ℕ, ◌≤◌}
use mathlib.Core.Path.{◌≡◌, refl, sym, ap, ◌∙◌}
use mathlib.Core.Bool.{Bool, true, false, cond, false≢true}
use mathlib.Core.List.{List, [], ◌∷◌, ◌++◌}
use native.Mathlib.Omega.{arith}
use lib.ListN.{length, drop, length-append, length-drop}
use Rattle.base.specs.declared.Answer.{Answer}
use Rattle.base.specs.Answers.{is_accepted, Case, ◌⇒◌, first_of, NoneHolds, FirstWins, front, filled, FillsFront}

-- each case refuses the call
abbrev pub Refuse : List Case → Type 0
Refuse [] = Unit {0}
Refuse ((test ⇒ r) ∷ cases) = (is_accepted r ≡ false) × Refuse cases

-- the next case, where a test holds, and where it does not
pub first_here : (test : Bool) (r : Answer) (cases : List Case) (answer : Answer) → test ≡ true → first_of ((test ⇒ r) ∷ cases) answer ≡ r
unfolding first_of
first_here test r cases answer e = rw e

pub first_later : (test : Bool) (r : Answer) (cases : List Case) (answer : Answer) → test ≡ false → first_of ((test ⇒ r) ∷ cases) answer ≡ first_of cases answer
unfolding first_of
first_later test r cases answer e = rw e

pub first_none : (answer : Answer) → first_of [] answer ≡ answer
unfolding first_of
first_none answer = refl

-- a call that is accepted is one for which no test holds
pub none_holds : (cases : List Case) (answer : Answer) → Refuse cases → is_accepted (first_of cases answer) ≡ true → NoneHolds cases
unfolding first_of
none_holds [] answer r h = tt
none_holds ((true ⇒ x) ∷ cases) answer r h = absurd (false≢true (sym r.0 ∙ h))
none_holds ((false ⇒ x) ∷ cases) answer r h = (refl, none_holds cases answer r.1 h)

-- where no test holds, the answer is given
pub answers : (cases : List Case) (answer : Answer) → NoneHolds cases → first_of cases answer ≡ answer
answers [] answer n = first_none answer
answers ((test ⇒ x) ∷ cases) answer n = first_later test x cases answer n.0 ∙ answers cases answer n.1

-- the tests of two lists, one after the other
pub first_append : (xs ys : List Case) (answer : Answer) → first_of (xs ++ ys) answer ≡ first_of xs (first_of ys answer)
unfolding first_of
first_append [] ys answer = refl
first_append ((test ⇒ r) ∷ xs) ys answer = ap (cond test r) (first_append xs ys answer)

-- where tests refuse, they decide whatever the answer would be
pub first_decided : (cases : List Case) (answer other : Answer) → is_accepted answer ≡ true → is_accepted (first_of cases answer) ≡ false → first_of cases other ≡ first_of cases answer
unfolding first_of
first_decided [] answer other a h = absurd (false≢true (sym h ∙ a))
first_decided ((true ⇒ r) ∷ cases) answer other a h = refl
first_decided ((false ⇒ r) ∷ cases) answer other a h = first_decided cases answer other a h

-- none of two lists of tests holds if none of each does
pub none_append : (xs ys : List Case) → NoneHolds xs → NoneHolds ys → NoneHolds (xs ++ ys)
none_append [] ys a b = b
none_append ((test ⇒ r) ∷ xs) ys a b = (a.0, none_append xs ys a.1 b)

pub first_wins : FirstWins
first_wins = record { decides = decides; answers = answers }
  where
    decides : (before : List Case) (test : Bool) (r : Answer) (after : List Case) (answer : Answer) → NoneHolds before → test ≡ true
        → first_of (before ++ (test ⇒ r) ∷ after) answer ≡ r
    decides [] test r after answer n e = first_here test r after answer e
    decides ((t ⇒ x) ∷ before) test r after answer n e =
        first_later t x (before ++ (test ⇒ r) ∷ after) answer n.0 ∙ decides before test r after answer n.1 e

-- what a slice holds after a refused call, and after an accepted one
pub filled_not : (a : Answer) (xs slice : List ℕ) → is_accepted a ≡ false → filled a xs slice ≡ slice
unfolding filled
filled_not a xs slice e = rw e

pub filled_front : (a : Answer) (xs slice : List ℕ) → is_accepted a ≡ true → filled a xs slice ≡ xs ++ drop (length xs) slice
unfolding filled front
filled_front a xs slice e = rw e

pub fills_front : FillsFront
fills_front = record { untouched = filled_not; filling = filled_front; same_length = λ a xs slice h. same_length a xs slice h (is_accepted a) refl }
  where
    same_length : (a : Answer) (xs slice : List ℕ) → length xs ≤ length slice → (t : Bool) → is_accepted a ≡ t → length (filled a xs slice) ≡ length slice
    same_length a xs slice h true e = rw (filled_front a xs slice e) (length-append xs (drop (length xs) slice) ∙ omega (arith, length-drop (length xs) slice))
    same_length a xs slice h false e = rw (filled_not a xs slice e)

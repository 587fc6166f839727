-- One accepted page of a listing, over its state: the next place, and whether it is finished.
use Rattle.std.specs.Prelude.{ℕ, suc, Bool, cond, not, List, [], ltb, length, take}
use Rattle.pages.specs.Hits.{hits_from, last_or}

-- what a page comes to: the hits that it writes, whether it reports "more", paper 01's term, and the state that it hands back
pub record HitPage : Type 0 where
  pub found : List ℕ
  pub more : Bool
  pub next : ℕ
  pub finished : Bool

-- the hits that a state has still to write: those at or after the next place, none once it is finished
abbrev pub pending : (ℕ → Bool) → ℕ → ℕ → Bool → List ℕ
pending P end next finished = cond finished [] (hits_from P end next)

-- whether a page of so many lines is full and another hit follows
abbrev pub more_after : (ℕ → Bool) → ℕ → ℕ → ℕ → Bool → Bool
more_after P end lines next finished = ltb lines (length (pending P end next finished))

-- the page of so many lines over a state: it writes pending hits until it is full or they run out; if more follow, next is the last
-- hit plus 1; otherwise the state is finished with next at the end, and a finished one comes back the same
unfoldable pub page_over : (ℕ → Bool) → ℕ → ℕ → ℕ → Bool → HitPage
page_over P end lines next finished =
    record {
      found = take lines (pending P end next finished);
      more = more_after P end lines next finished;
      next = cond (more_after P end lines next finished) (suc (last_or 0 (take lines (pending P end next finished)))) (cond finished next end);
      finished = not (more_after P end lines next finished);
    }

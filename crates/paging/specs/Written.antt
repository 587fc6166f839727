-- What a page comes to, as it is handed on.
use Rattle.std.specs.Prelude.{ℕ, ◌+◌, true, false, length}
use Rattle.tree.specs.declared.Place.{Place}
use Rattle.pages.specs.Pages.{HitPage}
use Rattle.paging.specs.declared.Written.{Written}

-- what a page over an unfinished state comes to: the number of its hits, "more", and the state after it
abbrev pub written_of : HitPage → Written
written_of p = record { count = length p.found; more = p.more; next = record { 0 = p.next }; finished = p.finished }

-- a full page with another hit after it, and a page after which hits have run out in a text of n words
abbrev pub full_at : ℕ → Place → Written
full_at count last = record { count = count; more = true; next = record { 0 = last.0 + 1 }; finished = false }

abbrev pub ended_at : ℕ → ℕ → Written
ended_at count n = record { count = count; more = false; next = record { 0 = n }; finished = true }

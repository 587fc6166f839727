-- Statement: samples of pages over the places 0 to 4 of which 0, 1 and 2 are hits.
use Rattle.std.specs.Prelude.{ℕ, ◌≡◌, Bool, true, false, [], ◌∷◌, ltb}
use Rattle.pages.specs.Hits.{all_hits}
use Rattle.pages.specs.Pages.{page_over}

-- the test of the samples
abbrev pub below3 : ℕ → Bool
below3 q = ltb q 3

pub record PageSamples : Type 0 where
  pub hits : all_hits below3 4 ≡ 0 ∷ 1 ∷ 2 ∷ []
  -- a full page with another hit after it, and the page after that
  pub full_page : page_over below3 4 2 0 false ≡ record { found = 0 ∷ 1 ∷ []; more = true; next = 2; finished = false }
  pub last_page : page_over below3 4 2 2 false ≡ record { found = 2 ∷ []; more = false; next = 4; finished = true }
  -- a page that is full with the last hit
  pub just_full : page_over below3 4 3 0 false ≡ record { found = 0 ∷ 1 ∷ 2 ∷ []; more = false; next = 4; finished = true }
  -- a page where no hit is left, and one whose next place is the end
  pub none_left : page_over below3 4 1 3 false ≡ record { found = []; more = false; next = 4; finished = true }
  pub at_end : page_over below3 4 1 4 false ≡ record { found = []; more = false; next = 4; finished = true }
  -- the end is a place too
  pub hit_at_end : page_over below3 2 5 2 false ≡ record { found = 2 ∷ []; more = false; next = 2; finished = true }
  -- a finished state comes back the same
  pub same_state : page_over below3 4 2 1 true ≡ record { found = []; more = false; next = 1; finished = true }

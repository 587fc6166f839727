-- The samples of pages, by computation. Assumes nothing.
use mathlib.Core.Path.{refl}
use Rattle.pages.specs.Pages.{page_over}
use Rattle.pages.specs.Samples.{PageSamples}

-- each by computation
pub page_samples : PageSamples
unfolding page_over
page_samples =
    record {
      hits = refl;
      full_page = refl;
      last_page = refl;
      just_full = refl;
      none_left = refl;
      at_end = refl;
      hit_at_end = refl;
      same_state = refl;
    }

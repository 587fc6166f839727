-- Where a search is: what a call of `next_hit` is handed, and what it hands back. Callers hand it on.
use Rattle.std.specs.Prelude.{ℕ, ◌+◌, ◌≤◌, ◌<◌, ◌≡◌, Bool, true, false, Option, Some, None, List, length, take, get_or}
use Rattle.base.specs.Lists.{count_of}
use Rattle.tree.specs.declared.Place.{Place}
use Rattle.index.specs.declared.Shape.{Shape}
use Rattle.index.specs.Arrays.{Arrays, text_in}
use Rattle.ways.specs.declared.Track.{Track}
use Rattle.ways.specs.Ways.{WayOf, TrackOf}
use Rattle.phrases.specs.Anchors.{Anchored}
use Rattle.matching.specs.declared.Sought.{Sought}
use Rattle.matching.specs.Sought.{hit_at, hit_in}
use Rattle.matching.specs.Searching.{Paired}
use Rattle.anchors.specs.declared.Second.{Second}
use Rattle.anchors.specs.Seconds.{SecondOf}
use Rattle.hits.specs.declared.Search.{Search}
use Rattle.hits.specs.declared.Reached.{Reached}
use Rattle.hits.specs.Hits.{least_hit}

-- the anchor and the second word of what is sought: it stands only where the one stands so many words further and the other beside it
pub record Sides (t words : List ℕ) (sought : Sought) (anchor : ℕ) (second : Second) : Type 0 where
  pub numbered : anchor < length words
  pub anchored : Anchored t (get_or words anchor 0) anchor (hit_at t words sought)
  pub seconded : SecondOf t words sought anchor second

-- x is a search for what is sought
pub record SearchFor (s : ℕ) (shape : Shape) (a : Arrays) (starts words : List ℕ) (sought : Sought) (x : Search) : Type 0 where
  pub sides : Sides (text_in s a) words sought x.anchor x.second
  pub paired : Paired words sought
  -- the anchor is a word of the vocabulary, with its frequency and its way
  pub rank_is : x.rank ≡ get_or words x.anchor 0
  pub inside : x.rank < shape.vocabulary
  pub often : x.frequency ≡ count_of x.rank (text_in s a)
  pub way_is : WayOf s a.bytes starts x.rank x.way
  pub track_is : TrackOf s a.bytes starts x.rank x.track
  -- the words of the anchor that are passed stand before the candidates at or after its place, or before the position up to which all
  -- bytes are looked at
  pub passed :
      (p : ℕ) → x.place.0 + x.anchor ≤ p → x.until ≤ p →
      x.track.ordinal ≤ count_of x.rank (take p (text_in s a))

-- a part of the root of a text of n words in which anchors are sought: the anchor and the second lie inside the text
pub record InPart (n anchor : ℕ) (second : Second) (from to : ℕ) : Type 0 where
  pub anchored : anchor ≤ from
  pub back : second.here ≤ from
  pub inside : to ≤ n
  pub beside : from < to → to + second.there ≤ n + second.here

-- the least place at which a test holds whose word i further stands in a part, or none
abbrev pub LeastIn : (ℕ → Bool) → ℕ → ℕ → ℕ → Option Place → Type 0
LeastIn P i from to (Some q) =
    (from ≤ q.0 + i) × (q.0 + i < to) × (P q.0 ≡ true) × ((p : ℕ) → from ≤ p + i → p < q.0 → P p ≡ false)
LeastIn P i from to None = (p : ℕ) → from ≤ p + i → p + i < to → P p ≡ false

-- a search that has gone on to another place, looking at all bytes up to a position, with another walk along its anchor
abbrev pub moved_to : Search → Place → ℕ → Track → Search
moved_to x place until track =
    record { place = place; anchor = x.anchor; rank = x.rank; frequency = x.frequency; way = x.way; second = x.second; exact = x.exact; until = until; track = track }

-- the place at which a search is after it has looked up to an end: after the hit, or at the end where there is none
abbrev pub place_after : Option Place → ℕ → ℕ
place_after (Some q) end = q.0 + 1
place_after None end = end

-- what a call hands back: the least hit inside one document from the place of the search on, and the search at the place after it
pub record Reaches (s : ℕ) (shape : Shape) (a : Arrays) (starts documents words : List ℕ) (sought : Sought) (x : Search) (end : ℕ) (r : Reached) : Type 0 where
  pub hit_is : r.hit ≡ least_hit (hit_in documents (text_in s a) words sought) x.place.0 end
  pub search_is : SearchFor s shape a starts words sought r.search
  -- along the same way
  pub way_is : r.search.way ≡ x.way
  pub place_is : r.search.place.0 ≡ place_after r.hit end

-- The tables in which a list is made.
use Rattle.std.specs.Prelude.{ℕ, ◌≤◌, ◌≡◌, List, length}
use Rattle.scanning.specs.Scans.{buckets}
use Rattle.counting_sort.specs.Sorting.{Cleared}

-- the most words of a text of 65,536 bytes
abbrev pub max_text_words : ℕ
max_text_words = 32768

-- a table with an element for each bucket and four with one for each word of the longest text; the first and the last are clear
pub record Tables (heads links starts firsts counts : List ℕ) : Type 0 where
  pub heads_long : length heads ≡ buckets
  pub heads_clear : Cleared heads
  pub links_long : max_text_words ≤ length links
  pub starts_long : max_text_words ≤ length starts
  pub firsts_long : max_text_words ≤ length firsts
  pub counts_long : max_text_words ≤ length counts
  pub counts_clear : Cleared counts

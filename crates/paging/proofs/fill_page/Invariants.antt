-- The hits so far are written.
use Rattle.std.proofs.Common.{◌≤◌, map}
use Rattle.base.specs.Texts.{max_words}
use Rattle.pages.proofs.Filling.{Filled}
use Rattle.paging.proofs.fill_page.Given as goal

abbrev pub invariant-loop-place : goal.invariant-loop-place
invariant-loop-place l = record {
  filled : Filled l.initial.lines (map (λ p. p.0) l.yielded) l.lines l.count l.last.0;
  inside : l.last.0 ≤ max_words;
}

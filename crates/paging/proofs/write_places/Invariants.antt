-- The places so far are written.
use Rattle.std.proofs.Common.{◌-◌, ◌≤◌}
use Rattle.base.specs.Lists.{range_from}
use Rattle.base.specs.Texts.{max_words}
use Rattle.pages.proofs.Filling.{Filled}
use Rattle.paging.proofs.write_places.Given as goal

abbrev pub invariant-loop-at : goal.invariant-loop-at
invariant-loop-at l = record {
  filled : Filled l.initial.lines (range_from l.fn.from.0 (l.at - l.fn.from.0)) l.lines l.count l.last.0;
  inside : l.last.0 ≤ max_words;
}

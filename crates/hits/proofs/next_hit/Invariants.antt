-- No hit has its anchor before the position, and the walk is one along the anchor.
use Rattle.std.proofs.Common.{◌-◌}
use Rattle.words.specs.Texts.{text_of}
use Rattle.ways.specs.Ways.{TrackOf}
use Rattle.hits.specs.Queries.{is_hit}
use Rattle.hits.proofs.Sweeping.{Swept}
use Rattle.hits.proofs.next_hit.Given as goal

abbrev pub invariant-loop-place : goal.invariant-loop-place
invariant-loop-place l = record {
  swept : Swept (text_of l.query.text) l.search.rank l.search.anchor (is_hit l.query) l.search.second.here l.search.place.0 l.at l.until l.track.ordinal;
  tracked : TrackOf l.query.text.index.s l.query.text.index.bytes.now l.query.text.starts.now l.search.rank l.track;
}

abbrev pub decreases-loop-place : goal.decreases-loop-place
decreases-loop-place l = l.search.frequency - l.track.ordinal

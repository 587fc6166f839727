-- As many words of the anchor as stand before the first candidate of the search are passed.
use Rattle.std.proofs.Common.{◌<◌, length, get_or, refl, arith}
use Rattle.base.proofs.Lists.{all_at}
use Rattle.base.proofs.Counts.{count_take_rises}
use Rattle.words.proofs.Positions.{text_most}
use Rattle.words.specs.Texts.{text_of, vocabulary_of}
use Rattle.hits.proofs.Searches.{anchor_anchored, anchor_inside}
use Rattle.hits.proofs.begin.Goals as goal

pub is_exact-exact-requires : goal.is_exact-exact-requires
is_exact-exact-requires c = omega (arith, text_most c.args.text.now.ready.checked)

pub returns : goal.returns
returns c =
    let text = c.args.text.now in
    let ws = c.args.words.now in
    let sought = c.args.sought in
    let i = c.anchor_of-anchor.result in
    let inside : i < length ws = anchor_inside ws sought i c.requires.0 c.anchor_of-anchor.ensures in (
      record {
        sides = record { numbered = inside; anchored = anchor_anchored (text_of text) ws sought i c.anchor_of-anchor.ensures; seconded = c.second_of-second.ensures };
        paired = c.requires.3;
        rank_is = refl;
        inside = all_at (λ x. x < vocabulary_of text) ws 0 i c.requires.2 inside;
        often = c.frequency-frequency.ensures;
        way_is = c.way_of-way.ensures.0;
        track_is = c.track_from-track.ensures.0;
        passed = λ p h l.
            omega (arith, c.track_from-track.ensures.1, c.min.ensures, count_take_rises (get_or ws i 0) c.min.result p (text_of text) (omega (arith, c.min.ensures)));
      },
      refl,
      c.way_of-way.ensures.1,
    )

-- which listing a text has, by its vocabulary
use Rattle.std.proofs.Common.{◌≤◌, refl, arith}
use Rattle.node_listing.specs.Listing.{vocabulary_of, max_stream_vocabulary}
use Rattle.node_listing.proofs.Refusals.{text_refused, text_listed}
use Rattle.node_listing.proofs.list_text.Goals as goal

pub returns-then-vocabulary-gt-MAX_VOCABULARY : goal.returns-then-vocabulary-gt-MAX_VOCABULARY
returns-then-vocabulary-gt-MAX_VOCABULARY c =
    (text_refused c.args.text.now (omega (arith, c.vocabulary_of-vocabulary.ensures, c.if-vocabulary-gt-MAX_VOCABULARY.true)), refl)

pub returns : goal.returns
returns c =
    let small : vocabulary_of c.args.text.now ≤ max_stream_vocabulary = omega (arith, c.vocabulary_of-vocabulary.ensures, c.if-vocabulary-gt-MAX_VOCABULARY.false) in
    rw (text_listed c.args.text.now small) c.list_index.ensures

-- One word is counted by itself, more by their hits.
use Rattle.std.proofs.Common.{◌∙◌, arith}
use Rattle.base.proofs.Lists.{below_weaken}
use Rattle.dense.specs.Code.{max_vocabulary}
use Rattle.words.specs.Texts.{text_of, vocabulary_of}
use Rattle.matching.proofs.FirstBytes.{first_bytes_part}
use Rattle.counts.proofs.OneWord.{only_word}
use Rattle.counts.proofs.Hits.{phrase_hits}
use Rattle.counts.proofs.count_phrase.Goals as goal

pub returns-then-m-eq1 : goal.returns-then-m-eq1
returns-then-m-eq1 c = c.frequency.ensures ∙ only_word c.args.documents.now (text_of c.args.text.now) c.args.words.now c.if-m-eq1.true

pub first_bytes-requires : goal.first_bytes-requires
first_bytes-requires c =
    let x = c.args.text.now in
    (x.ready.checked.closing, below_weaken (vocabulary_of x) (max_vocabulary x.index.s) c.args.words.now x.ready.checked.limits.most_words c.requires.2, omega arith)

pub invariant_of-count_hits-clause-firsts_are : goal.invariant_of-count_hits-clause-firsts_are
invariant_of-count_hits-clause-firsts_are c = first_bytes_part c.args.text.now.index.s c.args.words.now _ _ c.first_bytes.ensures

pub returns : goal.returns
returns c = c.count_hits.ensures ∙ phrase_hits c.args.documents.now (text_of c.args.text.now) c.args.words.now

-- `word_places::find_earlier` meets its contract. Assumes nothing.
use Rattle.std.proofs.Common.{◌≡◌, suc, ◌-◌, sym, ◌∙◌, arith}
use mathlib.Core.Path.{ap₂}
use Rattle.base.specs.Lists.{same}
use Rattle.hashing.proofs.HashTables.{bucket_below}
use Rattle.lexicon.specs.Reading.{spellings}
use Rattle.word_places.specs.Places.{word_of}
use Rattle.word_places.proofs.Chains.{along_first, along_next, along_less, along_hit, along_end}
use Rattle.word_places.proofs.find_earlier.Goals as goal
use Rattle.word_places.proofs.find_earlier.Goals.{After-same_word}

-- the two words are compared
compared : (c : After-same_word) → same (word_of (spellings c.args.letters.now.table.now c.args.text.now) c.args.place)
    (word_of (spellings c.args.letters.now.table.now c.args.text.now) (c.loop-other.other - 1)) ≡ c.same_word.result
compared c =
    sym (c.same_word.ensures ∙ ap₂ same (c.requires.1.start c.args.place (omega arith)).1
    (c.requires.1.start (c.loop-other.other - 1) (omega (arith, c.loop-other-test.true, c.loop-other.invariant.most))).1)

pub offset_bounds-heads-bucket : goal.offset_bounds-heads-bucket
offset_bounds-heads-bucket c = omega (arith, c.requires.4, bucket_below (word_of (spellings c.args.letters.now.table.now c.args.text.now) c.args.place))

pub bounds-heads-bucket : goal.bounds-heads-bucket
bounds-heads-bucket c = omega (arith, c.requires.4, bucket_below (word_of (spellings c.args.letters.now.table.now c.args.text.now) c.args.place), c.requires.2.long)

pub loop-other-init : goal.loop-other-init
loop-other-init c =
    along_first (spellings c.args.letters.now.table.now c.args.text.now) c.args.place c.args.heads.now c.args.links.now c.requires.0 c.requires.2 c.args.bucket c.requires.4

pub returns-then-same_word : goal.returns-then-same_word
returns-then-same_word c =
    let a = c.args in
    let loop = c.loop-other in
    let e : suc (loop.other - 1) ≡ loop.other = omega (arith, c.loop-other-test.true) in
    e ∙ along_hit (spellings a.letters.now.table.now a.text.now) a.place a.heads.now a.links.now c.requires.0 c.requires.2 loop.other c.loop-other-test.true loop.invariant
    (compared (goal.at.returns-then-same_word c).After-same_word ∙ c.if-same_word.true)

pub loop-other-smaller : goal.loop-other-smaller
loop-other-smaller c =
    let a = c.args in
    along_less (spellings a.letters.now.table.now a.text.now) a.place a.heads.now a.links.now c.requires.0 c.requires.2 c.loop-other.other c.loop-other-test.true c.loop-other.invariant

pub loop-other-preserved : goal.loop-other-preserved
loop-other-preserved c =
    let a = c.args in
    along_next (spellings a.letters.now.table.now a.text.now) a.place a.heads.now a.links.now c.requires.0 c.requires.2 c.loop-other.other c.loop-other-test.true c.loop-other.invariant
    (compared (goal.at.loop-other-preserved c).After-same_word ∙ c.if-same_word.false)

pub returns : goal.returns
returns c =
    let a = c.args in
    along_end (spellings a.letters.now.table.now a.text.now) a.place a.heads.now a.links.now c.requires.0 c.requires.2 c.loop-other.other c.loop-other-test.false c.loop-other.invariant

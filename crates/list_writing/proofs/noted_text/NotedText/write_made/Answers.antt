-- `list_writing::noted_text::NotedText::write_made` meets its contract: too little room for the list, or for the ranks, then both are written. Assumes nothing.
use Rattle.std.proofs.Common.{ℕ, List, ◌≤◌, length, refl, ◌∙◌, ap, arith}
use Rattle.base.specs.Answers.{front, refused}
use Rattle.base.specs.Refusals.{refusal_short_slice}
use Rattle.base.specs.Texts.{max_words}
use Rattle.lexicon.proofs.Calls.{spellings_long}
use Rattle.lexicon.specs.Reading.{text_words}
use Rattle.list_calls.proofs.Calls.{refused_is, list_too_long, ranks_too_long, makes, list_refused, list_accepted}
use Rattle.list_calls.proofs.Fits.{words_fit}
use Rattle.list_calls.specs.Making.{max_list_words, made_words}
use Rattle.list_writing.proofs.AllNoted.{firsts_below}
use Rattle.list_writing.proofs.noted_text.NotedText.write_made.Goals as goal
use Rattle.list_writing.proofs.noted_text.NotedText.write_made.Goals.{then-list-bytes-via-then-list-bytes, then-list-bytes-via-else-list-bytes+then-ranks-self}

pub returns-then-list-bytes : goal.returns-then-list-bytes
returns-then-list-bytes c =
    let s = c.args.self.now in
    let table = s.letters.now.table.now in
    let text = s.text.now in
    let list = c.args.list.now in
    let ranks = c.args.ranks.now in
    let sized = s.noted.sized ∙ spellings_long table text in
    let few : length (text_words table text) ≤ max_words = omega (arith, words_fit table text, s.noted.short) in
    let distinct : length (made_words table text) ≤ max_list_words = omega (arith, s.noted.number, s.noted.few) in
    list_refused table text list ranks (refused refusal_short_slice) refl
    (elim c.then-list-bytes.branch [
      | then-list-bytes-via-then-list-bytes w ↦
          list_too_long table text list ranks few s.noted.short distinct (rw c.list_bytes-bytes.ensures at w.if-list-bytes.true)
      | then-list-bytes-via-else-list-bytes+then-ranks-self w ↦ ranks_too_long table text list ranks few s.noted.short distinct (rw sized at w.if-ranks-self.true)
    ])
    _ (refused_is _ _ c.into.ensures) refl refl

pub list_bytes-bytes-requires : goal.list_bytes-bytes-requires
list_bytes-bytes-requires c =
    let s = c.args.self.now in
    (s.noted.noted, s.noted.number, s.noted.short)

pub write_list-requires : goal.write_list-requires
write_list-requires c =
    let s = c.args.self.now in
    (s.noted.noted, s.noted.number, rw c.list_bytes-bytes.ensures at c.if-list-bytes.false)

pub look_up-requires : goal.look_up-requires
look_up-requires c =
    let s = c.args.self.now in
    (s.noted.long, firsts_below _ _ _ _ _ _ _ _ s.noted, c.if-ranks-self.false)

pub returns : goal.returns
returns c =
    let s = c.args.self.now in
    let table = s.letters.now.table.now in
    let text = s.text.now in
    let list = c.args.list.now in
    let ranks = c.args.ranks.now in
    let sized = s.noted.sized ∙ spellings_long table text in
    let few : length (text_words table text) ≤ max_words = omega (arith, words_fit table text, s.noted.short) in
    let distinct : length (made_words table text) ≤ max_list_words = omega (arith, s.noted.number, s.noted.few) in
    list_accepted table text list ranks
    (makes table text list ranks few s.noted.short distinct (rw c.list_bytes-bytes.ensures at c.if-list-bytes.false) (rw sized at c.if-ranks-self.false))
    _ _ _ refl c.list_bytes-bytes.ensures sized c.write_list.ensures (c.look_up.ensures ∙ ap (λ (ys : List ℕ). front ys ranks) s.noted.ranked)

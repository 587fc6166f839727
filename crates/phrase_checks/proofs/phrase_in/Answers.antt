use Rattle.std.proofs.Common.{rules, tests, ◌≡◌, ◌∙◌, refl, sym, ap, ℕ, ltb, ◌+◌, ◌-◌, ◌≤◌, ◌<◌, arith, length, take, drop, length-take-le, length-drop}
use Rattle.std.proofs.lemmas.Iterator.{YieldsList-from_slice}
use Rattle.std.proofs.lemmas.Iterator.Search.{any_from_yields_List}
use Rattle.std.proofs.lemmas.Bool.{ltb-true, ltb-false}
use Rattle.base.specs.Lists.{first_where}
use Rattle.questions.specs.Answering.{phrase_in}
use Rattle.questions.proofs.Answered.{phrase_long, phrase_past, phrase_rank, phrase_none, part_above, part_askable}
use Rattle.phrase_checks.proofs.Absent.{any_is}
use Rattle.phrase_checks.proofs.phrase_in.Goals as goal
use Rattle.phrase_checks.proofs.phrase_in.Goals.{After-any}

pub returns-then-count-gt-MAX_PHRASE : goal.returns-then-count-gt-MAX_PHRASE
returns-then-count-gt-MAX_PHRASE c = phrase_long c.args.vocabulary c.args.words.now c.args.start c.args.count c.if-count-gt-MAX_PHRASE.true

pub returns-then-words-start : goal.returns-then-words-start
returns-then-words-start c = phrase_past c.args.vocabulary c.args.words.now c.args.start c.args.count (omega (arith, c.if-words-start.true))

pub returns-then-words-start-2 : goal.returns-then-words-start-2
returns-then-words-start-2 c =
    phrase_past c.args.vocabulary c.args.words.now c.args.start c.args.count (omega (arith, c.if-words-start-2.true, c.if-words-start.false))

-- some word of the part is above V where the first that is stands in it
above : (c : After-any) → let a = c.args in
    c.any.result ≡ ltb (first_where (λ (w : ℕ). ltb a.vocabulary w) (take (a.start + a.count - a.start) (drop a.start a.words.now))) (length (take (a.start + a.count - a.start) (drop a.start a.words.now)))
above c =
    let a = c.args in
    let part = take (a.start + a.count - a.start) (drop a.start a.words.now) in
    any_from_yields_List (λ (w : ℕ). ltb a.vocabulary w) _ _ c.any.result c.any.ensures.ran (YieldsList-from_slice part cc) (λ x b q k. search (rules, tests))
    ∙ any_is (λ (w : ℕ). ltb a.vocabulary w) part

pub returns-then-any : goal.returns-then-any
returns-then-any c =
    let a = c.args in
    let m : a.start + a.count - a.start ≡ a.count = omega arith in
    let inside : a.start + a.count ≤ length a.words.now = omega (arith, c.if-words-start-2.false, c.if-words-start.false) in
    let part = take (a.start + a.count - a.start) (drop a.start a.words.now) in
    let first : first_where (λ (w : ℕ). ltb a.vocabulary w) part < length part = ltb-true _ _ (sym (above (goal.at.returns-then-any c).After-any) ∙ c.if-any.true) in
    phrase_rank a.vocabulary a.words.now a.start a.count c.if-count-gt-MAX_PHRASE.false inside
    (part_above a.vocabulary a.words.now a.start a.count inside (a.start + a.count - a.start) (first_where (λ (w : ℕ). ltb a.vocabulary w) part) m refl (omega (arith, first, length-take-le (a.start + a.count - a.start) (drop a.start a.words.now))))

pub returns : goal.returns
unfolding phrase_in
returns c =
    let a = c.args in
    let m : a.start + a.count - a.start ≡ a.count = omega arith in
    let inside : a.start + a.count ≤ length a.words.now = omega (arith, c.if-words-start-2.false, c.if-words-start.false) in
    let part = take (a.start + a.count - a.start) (drop a.start a.words.now) in
    let first : length part ≤ first_where (λ (w : ℕ). ltb a.vocabulary w) part = ltb-false _ _ (sym (above (goal.at.returns c).After-any) ∙ c.if-any.false) in (
      phrase_none a.vocabulary a.words.now a.start a.count c.if-count-gt-MAX_PHRASE.false inside
          (part_askable a.vocabulary a.words.now a.start a.count inside (a.start + a.count - a.start) (first_where (λ (w : ℕ). ltb a.vocabulary w) part) m refl (omega (arith, first, length-take-le (a.start + a.count - a.start) (drop a.start a.words.now) (omega (arith, inside, length-drop a.start a.words.now))))),
      ap (λ (k : ℕ). take k (drop a.start a.words.now)) m,
    )

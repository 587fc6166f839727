use Rattle.std.proofs.Common.{sym, ap, ◌∙◌}
use mir.Syntax.{w32}
use mir.Facts.{to_z-of_z}
use Rattle.base.specs.declared.refusal.Refusal.{Refusal}
use Rattle.base.specs.Answers.{refused}
use Rattle.base.specs.Outcomes.{number_of}
use Rattle.base.proofs.Outcomes.{answer_from_refusal}
use Rattle.words.specs.Texts.{vocabulary_of}
use Rattle.questions.specs.declared.kind.Kind.TheVariants.{WordAt, OccurrencesBelow, PlaceOf, Neighbours, Phrase}
use Rattle.questions.specs.Kinds.{number_of_kind}
use Rattle.questions.specs.Answering.{neighbours_answer}
use Rattle.questions.proofs.Answered.{kind_1, kind_2, kind_3, kind_4, kind_5, kind_none}
use Rattle.answering.proofs.answer.Goals as goal

pub returns-in_err-try_from : goal.returns-in_err-try_from
returns-in_err-try_from c =
    let e = c.in_err-try_from.ensures in
    answer_from_refusal _ _ c.from_residual.ensures.1 ∙ ap (λ (x : Refusal). refused (number_of x)) e.0
    ∙ sym (kind_none (vocabulary_of c.args.text.now) _ c.args.documents.now c.args.words.now c.args.question (λ k. e.1 WordAt (sym k)) (λ k. e.1 OccurrencesBelow (sym k)) (λ k. e.1 PlaceOf (sym k)) (λ k. e.1 Neighbours (sym k)) (λ k. e.1 Phrase (sym k)))

pub returns-in-WordAt : goal.returns-in-WordAt
returns-in-WordAt c =
    c.answer_word_at.ensures
    ∙ sym (kind_1 (vocabulary_of c.args.text.now) _ c.args.documents.now c.args.words.now c.args.question (sym c.in_ok-try_from.ensures ∙ ap number_of_kind c.in-WordAt.is))

pub returns-in-OccurrencesBelow : goal.returns-in-OccurrencesBelow
returns-in-OccurrencesBelow c =
    c.answer_occurrences.ensures
    ∙ sym (kind_2 (vocabulary_of c.args.text.now) _ c.args.documents.now c.args.words.now c.args.question (sym c.in_ok-try_from.ensures ∙ ap number_of_kind c.in-OccurrencesBelow.is))

pub returns-in-PlaceOf : goal.returns-in-PlaceOf
returns-in-PlaceOf c =
    c.answer_place.ensures
    ∙ sym (kind_3 (vocabulary_of c.args.text.now) _ c.args.documents.now c.args.words.now c.args.question (sym c.in_ok-try_from.ensures ∙ ap number_of_kind c.in-PlaceOf.is))

pub returns-in-Neighbours : goal.returns-in-Neighbours
returns-in-Neighbours c =
    c.answer_neighbours.ensures
    ∙ ap (neighbours_answer (vocabulary_of c.args.text.now) _ c.args.documents.now c.args.question.w c.args.question.v) (to_z-of_z {w = w32} {z = c.args.question.d} (record { sfits = c.struct_told-1.given.1.1.1.0.1 }))
    ∙ sym (kind_4 (vocabulary_of c.args.text.now) _ c.args.documents.now c.args.words.now c.args.question (sym c.in_ok-try_from.ensures ∙ ap number_of_kind c.in-Neighbours.is))

pub returns-in-Phrase : goal.returns-in-Phrase
returns-in-Phrase c =
    c.answer_phrase.ensures
    ∙ sym (kind_5 (vocabulary_of c.args.text.now) _ c.args.documents.now c.args.words.now c.args.question (sym c.in_ok-try_from.ensures ∙ ap number_of_kind c.in-Phrase.is))

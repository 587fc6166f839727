-- Each rule is met where it is broken. Assumes nothing.
use Rattle.std.proofs.Common.{◌≡◌, ℕ, Bool, ltb, sym, ap, ◌∙◌, rules, arith}
use Rattle.std.specs.List.{IsAllAdjacentAnswer}
use Rattle.std.proofs.lemmas.List.Sorted.{answers_always}
use borrow.Author.Tests.{eqb-true}
use Rattle.documents.proofs.Rules.{starts_none, starts_first, starts_fall, starts_last}
use Rattle.documents.proofs.are_starts.Goals as goal
use Rattle.documents.proofs.are_starts.Goals.{then-starts-eq0, else-starts-eq0}

pub returns-in_default : goal.returns-in_default
returns-in_default c = starts_none c.args.n c.args.starts.now (omega (arith, c.in_default.ensures.item.3))

pub returns-then-is_sorted_by : goal.returns-then-is_sorted_by
returns-then-is_sorted_by c =
    elim c.if-starts-eq0.branch [
      | then-starts-eq0 w ↦
          let starts = c.args.starts.now in
          let answer : IsAllAdjacentAnswer (λ (x y : ℕ) (b : Bool). b ≡ ltb x y) starts w.is_sorted_by.result = w.is_sorted_by.ensures.cases ltb (answers_always _ _ _ (λ f a r g k. search rules)) in
          ap (λ (x : ℕ). ltb x c.args.n) (c.in-Some.ensures.item.3.1 0)
          ∙ starts_last c.args.n starts _ (omega (arith, c.in-Some.ensures.item.3.0)) w.if-starts-eq0.true
          (rw (sym w.value-is ∙ c.if-is_sorted_by.true) at answer)
      | else-starts-eq0 w ↦ absurd (w.if-starts-eq0.false (eqb-true _ _ (sym w.value-is ∙ c.if-is_sorted_by.true)))
    ]

pub returns-else-is_sorted_by : goal.returns-else-is_sorted_by
returns-else-is_sorted_by c =
    elim c.if-starts-eq0.branch [
      | then-starts-eq0 w ↦
          let starts = c.args.starts.now in
          let answer : IsAllAdjacentAnswer (λ (x y : ℕ) (b : Bool). b ≡ ltb x y) starts w.is_sorted_by.result = w.is_sorted_by.ensures.cases ltb (answers_always _ _ _ (λ f a r g k. search rules)) in
          c.if-is_sorted_by.false ∙ starts_fall c.args.n starts (rw (sym w.value-is ∙ c.if-is_sorted_by.false) at answer)
      | else-starts-eq0 w ↦ c.if-is_sorted_by.false ∙ starts_first c.args.n c.args.starts.now (omega (arith, c.in-Some.ensures.item.3.0)) w.if-starts-eq0.false
    ]

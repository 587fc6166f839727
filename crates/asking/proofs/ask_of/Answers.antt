use Rattle.std.proofs.Common.{ℕ, List, ap, ◌∙◌}
use Rattle.index.specs.Lent.{slices_of}
use Rattle.questions.specs.Answering.{ask_answer_in}
use Rattle.questions.proofs.Read.{ask_by_root}
use Rattle.asking.proofs.ask_of.Goals as goal

pub returns : goal.returns
returns c =
    let x = c.args.index.now in
    c.ask_in_documents_of.ensures
    ∙ ap (λ (d : List ℕ). ask_answer_in x.s x.shape (slices_of x) d c.args.words.now c.args.question) c.one_start-documents.ensures
    ∙ ask_by_root x.s x.shape (slices_of x) c.args.words.now c.args.question c.requires

use Rattle.std.proofs.Common.{sym, ◌∙◌, arith}
use Rattle.base.proofs.Outcomes.{answer_from_refused, tested_err}
use Rattle.index.specs.Lent.{slices_of}
use Rattle.words.proofs.Parts.{checked_most, checked_total}
use Rattle.documents.proofs.Starts.{starts_are}
use Rattle.document_checks.proofs.Cleared.{Cleared, cleared}
use Rattle.sheet_calls.proofs.Tested.{sheet_checked, sheet_short, sheet_accepted}
use Rattle.sheets.proofs.prepare.Goals as goal
use Rattle.sheets.proofs.prepare.Goals.{In_ok-check_in_documents}

-- past the check the index has passed it, and the starts keep the rules
clear : (c : In_ok-check_in_documents) → Cleared c.args.index.now.s c.args.index.now.shape (slices_of c.args.index.now) c.args.documents.now
clear c = cleared c.args.index.now.s c.args.index.now.shape (slices_of c.args.index.now) c.args.documents.now c.requires.0 _ c.in_ok-check_in_documents.field-0 c.in_ok-check_in_documents.was c.check_in_documents.ensures

pub returns-in_err-check_in_documents-clause-answered : goal.returns-in_err-check_in_documents-clause-answered
returns-in_err-check_in_documents-clause-answered c =
    let x = c.args.index.now in
    let e = tested_err _ c.in_err-check_in_documents.field-0.0 _ c.in_err-check_in_documents.was c.check_in_documents.ensures in
    answer_from_refused _ _ c.from_residual.ensures.1 ∙ e.1 ∙ sym (sheet_checked x.s x.shape (slices_of x) c.args.documents.now c.args.asked c.args.room e.0)

pub returns-then-room-asked-clause-answered : goal.returns-then-room-asked-clause-answered
returns-then-room-asked-clause-answered c =
    let x = c.args.index.now in
    let h = clear (goal.at.returns-then-room-asked-clause-answered c).In_ok-check_in_documents in
    rw c.into.ensures (sym (sheet_short x.s x.shape (slices_of x) c.args.documents.now c.args.asked c.args.room h.passed h.starts (omega (arith, c.if-room-asked.true))))

pub node_starts-requires : goal.node_starts-requires
node_starts-requires c =
    let h = clear (goal.at.node_starts-requires c).In_ok-check_in_documents in
    (omega (arith, checked_most h.checked), checked_total h.checked)

pub returns-clause-answered : goal.returns-clause-answered
returns-clause-answered c =
    let x = c.args.index.now in
    let h = clear (goal.at.returns-clause-answered c).In_ok-check_in_documents in
    sym (sheet_accepted x.s x.shape (slices_of x) c.args.documents.now c.args.asked c.args.room h.passed h.starts (omega (arith, c.if-room-asked.false)))

pub returns-clause-ready : goal.returns-clause-ready
returns-clause-ready c = ((starts_are _ _ (clear (goal.at.returns-clause-ready c).In_ok-check_in_documents).starts).ascending, c.node_starts.ensures)

-- `lexicon::entries_pass`: one entry more is kept, or the table is broken.
use Rattle.std.proofs.Common.{sym, ◌∙◌}
use Rattle.lexicon.proofs.Entries.{seen_first, seen_next, seen_all, seen_broken}
use Rattle.lexicon.proofs.entries_pass.Goals as goal

pub loop-x-init : goal.loop-x-init
loop-x-init c = seen_first _

pub returns-then-not-is_entry : goal.returns-then-not-is_entry
returns-then-not-is_entry c = sym (seen_broken c.args.table.now c.loop-x.x-index c.loop-x-test.true (sym c.is_entry.ensures ∙ c.if-not-is_entry.true))

pub loop-x-preserved : goal.loop-x-preserved
loop-x-preserved c =
    seen_next c.args.table.now c.loop-x.x-index c.loop-x.some c.loop-x-test.true c.loop-x.invariant (sym c.is_entry.ensures ∙ c.if-not-is_entry.false)

pub returns : goal.returns
returns c = seen_all c.args.table.now c.loop-x.x-index c.loop-x.some c.loop-x-test.false c.loop-x.invariant

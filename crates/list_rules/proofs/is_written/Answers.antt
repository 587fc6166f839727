-- `list_rules::is_written` meets its contract. Assumes nothing.
use Rattle.std.proofs.Common.{ℕ, ◌+◌, ◌<◌, Bool, true, false, ◌&&◌, length, get_or, drop, sym, ◌∙◌, ap, arith}
use Rattle.lexicon.proofs.Tables.{table_sized}
use Rattle.lexicon.proofs.WordLists.{not_spelling_zero, not_spelling_other, is_spelling_lem}
use Rattle.list_rules.proofs.Written.{written_after, written_after_lem, written_closing, written_letter}
use Rattle.list_rules.proofs.is_written.Goals as goal
use Rattle.list_rules.proofs.is_written.Goals.{then-byte-eq10+else-not-begun, else-byte-eq10+else-byte-eq0+else-letters-from}

pub loop-byte-init : goal.loop-byte-init
loop-byte-init c = written_after_lem c.args.letters.now.table.now c.args.list.now

pub returns-then-byte-eq0 : goal.returns-then-byte-eq0
returns-then-byte-eq0 c =
    let table = c.args.letters.now.table.now in
    let list = c.args.list.now in
    let at = c.loop-byte.byte-index in
    sym (c.loop-byte.invariant ∙ written_letter table list c.loop-byte.begun at c.loop-byte-test.true c.if-byte-eq10.false
    ∙ ap (λ (t : Bool). t && written_after table true (drop (at + 1) list)) (not_spelling_zero table _ c.if-byte-eq0.true))

pub bounds-letters-from : goal.bounds-letters-from
bounds-letters-from c = omega (arith, table_sized c.args.letters.now.table.now c.args.letters.now.rule)

pub returns-then-letters-from : goal.returns-then-letters-from
returns-then-letters-from c =
    let table = c.args.letters.now.table.now in
    let list = c.args.list.now in
    let at = c.loop-byte.byte-index in
    let e = ap (λ (b : ℕ). get_or table b 0) c.from.ensures in
    sym (c.loop-byte.invariant ∙ written_letter table list c.loop-byte.begun at c.loop-byte-test.true c.if-byte-eq10.false
    ∙ ap (λ (t : Bool). t && written_after table true (drop (at + 1) list)) (not_spelling_other table _ (λ q. c.if-letters-from.true (e ∙ q))))

pub loop-byte-preserved : goal.loop-byte-preserved
loop-byte-preserved c =
    let table = c.args.letters.now.table.now in
    let list = c.args.list.now in
    let at = c.loop-byte.byte-index in
    let h : at < length list = c.loop-byte-test.true in
    elim c.if-byte-eq10.branch [
      | then-byte-eq10+else-not-begun w ↦
          c.loop-byte.invariant ∙ written_closing table list c.loop-byte.begun at h w.if-byte-eq10.true
          ∙ ap (λ (t : Bool). t && written_after table false (drop (at + 1) list)) w.if-not-begun.false
          ∙ ap (λ (t : Bool). written_after table t (drop (at + 1) list)) (sym w.begun-is)
      | else-byte-eq10+else-byte-eq0+else-letters-from w ↦
          let e = ap (λ (b : ℕ). get_or table b 0) w.from.ensures in
          c.loop-byte.invariant ∙ written_letter table list c.loop-byte.begun at h w.if-byte-eq10.false
          ∙ ap (λ (t : Bool). t && written_after table true (drop (at + 1) list)) (is_spelling_lem table _ w.if-byte-eq0.false (sym e ∙ w.if-letters-from.false))
          ∙ ap (λ (t : Bool). written_after table t (drop (at + 1) list)) (sym w.begun-is)
    ]

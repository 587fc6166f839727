-- The two tests are that of the definition. Assumes nothing.
use Rattle.std.proofs.Common.{refl, arith}
use Rattle.base.proofs.Tests.{inside_range, below_range, above_range}
use Rattle.dense.specs.Code.{max_vocabulary}
use Rattle.index.proofs.check_vocabulary.Goals as goal

pub returns-then-shape-lt1 : goal.returns-then-shape-lt1
returns-then-shape-lt1 c = (refl, below_range 1 (max_vocabulary c.args.s) c.args.shape.vocabulary c.if-shape-lt1.true)

pub returns-then-max_vocabulary-shape : goal.returns-then-max_vocabulary-shape
returns-then-max_vocabulary-shape c = (refl, above_range 1 (max_vocabulary c.args.s) c.args.shape.vocabulary (omega (arith, c.max_vocabulary.ensures)))

pub returns : goal.returns
returns c = inside_range 1 (max_vocabulary c.args.s) c.args.shape.vocabulary c.if-shape-lt1.false (omega (arith, c.max_vocabulary.ensures))

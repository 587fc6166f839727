use Rattle.std.proofs.Common.{◌+◌, ◌-◌, arith}
use Rattle.base.proofs.Ranges.{length_filter_range}
use Rattle.words.proofs.Positions.{text_most}
use Rattle.matching.proofs.Queries.{query_paired}
use Rattle.hits.specs.Queries.{is_hit}
use Rattle.hits.proofs.hits_from.Goals as goal

pub overflow_add-end : goal.overflow_add-end
overflow_add-end c = omega (arith, text_most c.args.query.now.text.ready.checked)

pub begin-search-requires : goal.begin-search-requires
begin-search-requires c =
    let q = c.args.query.now in
    (q.some, q.most, q.below, query_paired q, omega (arith, text_most q.text.ready.checked))

pub returns-clause-few : goal.returns-clause-few
returns-clause-few c =
    let x = c.begin-search.result.place.0 in
    omega (arith, length_filter_range (is_hit c.args.query.now) x (c.length.result + 1 - x), text_most c.args.query.now.text.ready.checked)

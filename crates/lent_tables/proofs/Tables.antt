-- The theorem about lent letter tables. Assumes nothing.
use Rattle.lexicon.proofs.Ranges.{tables_checked}
use Rattle.lexicon.proofs.Tables.{letters_rule, of_rules, rules_broken}
use Rattle.lexicon.specs.Letters.{letters}
use Rattle.finding.proofs.Theorem.{finding_of_tables}
use Rattle.made_lists.proofs.Made.{made_of_tables}
use Rattle.made_lists.proofs.Making.{making_of_tables}
use Rattle.plain_text.proofs.Theorem.{reading_of_tables}
use Rattle.lent_tables.specs.Tables.{TablesExact}
use Rattle.lent_tables.proofs.Calls.{reads_refused_lem, reads_as, finds_refused_lem, finds_as, makes_refused_lem, makes_as}

-- the theorem
pub tables_exact : TablesExact
tables_exact = record {
  checks = tables_checked;
  reads_refused = λ table list text z n. reads_refused_lem table (rules_broken table n) list text z;
  reads_with = λ table list text z r. reads_as table (of_rules table r) list text z;
  reading = λ table r. reading_of_tables table (of_rules table r);
  finds_refused = λ table list spelling n. finds_refused_lem table (rules_broken table n) list spelling;
  finds_with = λ table list spelling r. finds_as table (of_rules table r) list spelling;
  finding = λ table list r. finding_of_tables table list;
  makes_refused = λ table text y z n. makes_refused_lem table (rules_broken table n) text y z;
  makes_with = λ table text y z r. makes_as table (of_rules table r) text y z;
  made = λ table text r. made_of_tables table text (of_rules table r);
  making = λ table text y z r. making_of_tables table text y z (of_rules table r);
  reads_letters = reads_as letters letters_rule;
  finds_letters = finds_as letters letters_rule;
  makes_letters = makes_as letters letters_rule;
}

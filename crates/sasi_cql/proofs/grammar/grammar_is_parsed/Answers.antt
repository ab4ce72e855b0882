use Rattle.sasi_cql.proofs.Parsing.{is_parser, one_parser, one_statement, one_offset}
use Rattle.sasi_cql.proofs.grammar.grammar_is_parsed.Goals as goal

pub returns-clause-parser : goal.returns-clause-parser
returns-clause-parser c = is_parser

pub returns-clause-alone : goal.returns-clause-alone
returns-clause-alone c = one_parser

pub returns-clause-one_statement : goal.returns-clause-one_statement
returns-clause-one_statement c = one_statement

pub returns-clause-one_offset : goal.returns-clause-one_offset
returns-clause-one_offset c = one_offset

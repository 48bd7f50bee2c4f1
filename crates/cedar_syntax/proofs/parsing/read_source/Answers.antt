-- SPDX-License-Identifier: Apache-2.0
use Rattle.std.proofs.Common.{◌≡◌, map, subst, sym}
use Rattle.cedar_tree.specs.Meanings.{schema_tree}
use Rattle.cedar_tokens.specs.Lexemes.{lexeme_token}
use Rattle.cedar_tree.specs.Nesting.{NestsWell}
use Rattle.cedar_syntax.proofs.Wholes.{reads_here, too_many, none_too_many, nests_well, too_deep, none_too_deep}
use Rattle.cedar_syntax.proofs.parsing.read_source.Goals as goal

pub returns-in-Some-clause-answers : goal.returns-in-Some-clause-answers
returns-in-Some-clause-answers c = too_many c.args.source.now (map (lexeme_token c.args.source.now) c.args.lexemes.now) c.in-Some.span c.requires.lexed (c.in-Some.ensures c.args.source.now)

pub returns-in-Some-clause-accepts : goal.returns-in-Some-clause-accepts
returns-in-Some-clause-accepts c s whole =
    none_too_many c.one_token_list.ensures c.args.source.now (map (lexeme_token c.args.source.now) c.args.lexemes.now) c.in-Some.span s c.requires.lexed (c.in-Some.ensures c.args.source.now) whole

pub returns-in-Some-first_too_deep-clause-answers : goal.returns-in-Some-first_too_deep-clause-answers
returns-in-Some-first_too_deep-clause-answers c =
    too_deep c.args.source.now (map (lexeme_token c.args.source.now) c.args.lexemes.now) (schema_tree c.in-Ok.schema) c.first_too_deep.result c.in-Some-first_too_deep.span c.requires.lexed
    (c.in_default.ensures c.args.source.now) c.in-Ok.ensures.answers c.first_too_deep.ensures c.in-Some-first_too_deep.is

pub returns-in-Some-first_too_deep-clause-accepts : goal.returns-in-Some-first_too_deep-clause-accepts
returns-in-Some-first_too_deep-clause-accepts c s whole =
    let same : schema_tree c.in-Ok.schema ≡ s =
    c.in-Ok.ensures.accepts s (reads_here c.one_token_list.ensures c.args.source.now (map (lexeme_token c.args.source.now) c.args.lexemes.now) s c.requires.lexed whole) in
    none_too_deep (schema_tree c.in-Ok.schema) c.first_too_deep.result c.in-Some-first_too_deep.span c.first_too_deep.ensures c.in-Some-first_too_deep.is (subst NestsWell (sym same) whole.nests)

pub returns-in-None-clause-answers : goal.returns-in-None-clause-answers
returns-in-None-clause-answers c = record {
  tokens = map (lexeme_token c.args.source.now) c.args.lexemes.now;
  lexed = c.requires.lexed;
  brackets = c.in_default.ensures c.args.source.now;
  reads = c.in-Ok.ensures.answers;
  nests = nests_well (schema_tree c.in-Ok.schema) c.first_too_deep.result c.first_too_deep.ensures c.in-None.is;
}

pub returns-in-None-clause-accepts : goal.returns-in-None-clause-accepts
returns-in-None-clause-accepts c s whole =
    c.in-Ok.ensures.accepts s (reads_here c.one_token_list.ensures c.args.source.now (map (lexeme_token c.args.source.now) c.args.lexemes.now) s c.requires.lexed whole)

pub returns-in_ok-kind-in-Err-Refused-clause-accepts : goal.returns-in_ok-kind-in-Err-Refused-clause-accepts
returns-in_ok-kind-in-Err-Refused-clause-accepts c s whole =
    let refused = c.in-Err-Refused.ensures.accepts s (reads_here c.one_token_list.ensures c.args.source.now (map (lexeme_token c.args.source.now) c.args.lexemes.now) s c.requires.lexed whole) in
    rw c.in-Err-Refused.field-0-is at refused

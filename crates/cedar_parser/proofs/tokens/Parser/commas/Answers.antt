-- SPDX-License-Identifier: Apache-2.0
use Rattle.std.proofs.Common.{arith, map, [], ◌∷◌}
use Rattle.std.proofs.lemmas.List.{map-append}
use Rattle.std.proofs.lemmas.Result.{err_from_is_err_and}
use Rattle.cedar_parser.specs.Giving.{tokens_of}
use Rattle.cedar_parser.proofs.Commas.{members_none, members_start, members_fault, members_more}
use Rattle.cedar_parser.proofs.Faults.{fault_along, fewer_tokens}
use Rattle.cedar_parser.proofs.tokens.Parser.commas.Goals as goal

pub returns-in_err-head-clause-read : goal.returns-in_err-head-clause-read
returns-in_err-head-clause-read g c =
    let p = err_from_is_err_and c.from_residual.result c.from_residual.ensures.1 in
    rw (p.1, p.2)
    (fault_along c.in_err-head.field-0.0 _ _
    (λ n e. members_none g.M.Member.reader _ n e)
    c.in_err-head.ensures.read)

pub members-init : goal.members-init
members-init g c =
    let text = c.args.self.now.source.now in
    rw c.new-tail.ensures
    record {
      fewer = c.in_ok-head.ensures.shorter;
      is = members_start g.M.Member.reader (tokens_of text c.args.tokens.now.rest.now) (g.M.Member.tree c.in_ok-head.head) _ c.in_ok-head.ensures.read (fewer_tokens text _ _ c.in_ok-head.ensures.shorter);
    }

pub returns-in_err-member-clause-read : goal.returns-in_err-member-clause-read
returns-in_err-member-clause-read g c =
    let text = c.args.self.now.source.now in
    let p = err_from_is_err_and c.from_residual-in_err-member.result c.from_residual-in_err-member.ensures.1 in
    rw (p.1, p.2)
    (fault_along c.in_err-member.field-0.0 _ _
    (λ n e. members_fault g.M.Member.reader _ _ (tokens_of text c.members.tokens.rest.now) _ _ n c.members.invariant.is (fewer_tokens text _ _ c.in-Some.ensures.shorter) c.in-Some.ensures.read e)
    c.in_err-member.ensures.read)

pub members-preserved : goal.members-preserved
members-preserved g c =
    let text = c.args.self.now.source.now in
    rw (c.in_ok-push.ensures.ok, map-append g.M.Member.tree c.members.tail (c.in_ok-member.member ∷ []))
    record {
      fewer = omega (arith, c.in_ok-member.ensures.shorter, c.in-Some.ensures.shorter, c.members.invariant.fewer);
      is = members_more g.M.Member.reader _ (map g.M.Member.tree (c.in_ok-head.head ∷ c.members.tail)) (tokens_of text c.members.tokens.rest.now) _ _ (g.M.Member.tree c.in_ok-member.member) _ c.members.invariant.is
          (fewer_tokens text _ _ c.in-Some.ensures.shorter) (fewer_tokens text _ _ c.in_ok-member.ensures.shorter) c.in-Some.ensures.read c.in_ok-member.ensures.read;
    }

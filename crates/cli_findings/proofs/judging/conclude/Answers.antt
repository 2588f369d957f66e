use Rattle.std.proofs.Common.{◌≡◌, rules}
use Rattle.aud_know.specs.declared.verdict.Verdict.TheVariants as verdict
use Rattle.cli_findings.specs.Searches.{HasAll, WasSearchedWith}
use Rattle.cli_findings.proofs.Saying.{said_of}
use Rattle.cli_findings.proofs.judging.conclude.Goals as goal

pub returns : goal.returns
returns c =
    let all : HasAll c.args.facts.now c.args.findings.now.known = search rules in
    let not_open : c.in_ok-verdict.verdict ≡ verdict.Unfinished → WasSearchedWith c.args.budget c.args.findings.now.search = search rules in
    said_of c.known_is_kept.ensures c.knowledge_is_norm.ensures c.search_is_said.ensures c.args.findings.now.known c.args.facts.now c.args.budget c.facts-known.ensures.is_true c.set-facts.ensures.ordered all
    c.args.findings.now.search c.in_ok-verdict.verdict c.in_ok-verdict.ensures.first c.requires not_open c.in_ok-verdict.ensures.opaque c.in_ok-verdict.ensures.not_opaque

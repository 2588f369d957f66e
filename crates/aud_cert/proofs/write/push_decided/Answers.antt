use Rattle.std.specs.Prelude.{◌++◌, codes}
use Rattle.aud_text.specs.Orders.{decision_text}
use Rattle.aud_cert.specs.Written.{prefix_text}
use Rattle.aud_cert.proofs.Parts.{grown}
use Rattle.aud_cert.proofs.write.push_decided.Goals as goal

pub returns : goal.returns
returns g c =
    let new = c.push_prefix.new.text.items in
    let end = decision_text c.args.decision ++ prefix_text c.args.prefix.now in
    let last = grown c.push_text-3.new.text.items c.push_decision.new.text.items new (decision_text c.args.decision) (prefix_text c.args.prefix.now) c.in_ok-push_decision.ensures c.in_ok-push_prefix.ensures in
    let key = grown c.push_text-2.new.text.items c.push_text-3.new.text.items new (codes "\",\"d\":\"") end c.in_ok-push_text-3.ensures last in
    let word = grown c.push_text.new.text.items c.push_text-2.new.text.items new c.args.word.now (codes "\",\"d\":\"" ++ end) c.in_ok-push_text-2.ensures key in
    grown c.args.text.now.items c.push_text.new.text.items new (codes "{\"by\":\"") (c.args.word.now ++ (codes "\",\"d\":\"" ++ end)) c.in_ok-push_text.ensures word

use Rattle.std.specs.Prelude.{◌++◌, codes}
use Rattle.aud_text.specs.Orders.{order_text}
use Rattle.aud_cert.specs.Written.{prefix_text}
use Rattle.aud_cert.proofs.Parts.{grown}
use Rattle.aud_cert.proofs.write.push_same.Goals as goal

pub returns : goal.returns
returns g c =
    let new = c.push_prefix.new.text.items in
    let end = codes "\",\"by\":\"same" ++ prefix_text c.args.prefix.now in
    let last = grown c.push_order.new.text.items c.push_text-2.new.text.items new (codes "\",\"by\":\"same") (prefix_text c.args.prefix.now) c.in_ok-push_text-2.ensures c.in_ok-push_prefix.ensures in
    let one = grown c.push_text.new.text.items c.push_order.new.text.items new (order_text c.args.other.now) end c.in_ok-push_order.ensures.ok last in
    grown c.args.text.now.items c.push_text.new.text.items new (codes "{\"as\":\"") (order_text c.args.other.now ++ end) c.in_ok-push_text.ensures one

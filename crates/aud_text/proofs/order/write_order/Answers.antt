use Rattle.std.proofs.Common.{◌∙◌, ◌++◌, ap}
use Rattle.aud_text.specs.Orders.{order_text}
use Rattle.aud_text.proofs.OrderText.{written_back}
use Rattle.aud_text.proofs.order.write_order.Goals as goal

pub returns-clause-spelled : goal.returns-clause-spelled
returns-clause-spelled g c = c.in_ok-push_order.ensures.ok ∙ ap (λ t. t ++ order_text c.args.order.now) c.new-text.ensures.items

pub returns-clause-reads_back : goal.returns-clause-reads_back
returns-clause-reads_back g c = written_back _ c.args.order.now (c.in_ok-push_order.ensures.ok ∙ ap (λ t. t ++ order_text c.args.order.now) c.new-text.ensures.items)

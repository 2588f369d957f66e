use Rattle.aud_text.proofs.OrderText.{exact}
use Rattle.aud_text.proofs.order.orders_read_exactly.Goals as goal

pub returns : goal.returns
returns c text ds h = exact text ds h

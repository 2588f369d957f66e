use Rattle.aud_text.proofs.OrderText.{reads_back}
use Rattle.aud_text.proofs.order.orders_read_back.Goals as goal

pub returns : goal.returns
returns c ds h l = reads_back ds h l

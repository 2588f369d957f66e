use Rattle.std.proofs.Common.{length}
use Rattle.aud_object.proofs.store.+order_of_all.Given as goal

abbrev pub decreases-order_of_all : goal.decreases-order_of_all
decreases-order_of_all g l = length l.a.now

use Rattle.std.proofs.Common.{arith}
use Rattle.std.proofs.lemmas.Grind.{common_steps}
use Rattle.test_devices.proofs.OneByte.{one_byte}
use Rattle.test_devices.proofs.faulty.DrippingSourceSource.read.Goals as goal

pub returns-clause-ok : goal.returns-clause-ok
returns-clause-ok g c = one_byte c.args.self.now.bytes.items c.args.buf.now c.args.self.now.at c.index.result.now (grind (arith, common_steps)) (grind (arith, common_steps)) (grind (arith, common_steps))

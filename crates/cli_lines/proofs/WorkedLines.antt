-- What may be said of the empty input, and of an order text before it is looked at.
use Rattle.std.proofs.Common.{[], refl}
use Rattle.std.specs.Prelude.{codes}
use Rattle.aud_text.specs.Orders.{order_read}
use Rattle.aud_json.specs.declared.fault.TextFault.TheVariants as fault
use Rattle.aud_report.specs.declared.said.Said.TheVariants.{OrderTextRefused, PlanRefused}
use Rattle.cli_lines.specs.Line.{OrderSays}

no_plan : OrderSays (order_read (codes "none")) [] (PlanRefused (record { line = 1; fault = fault.KeyMissing }))
no_plan = refl

no_order : OrderSays (order_read []) [] (OrderTextRefused fault.UnknownWord)
no_order = refl

too_great : OrderSays (order_read (codes "x 4096c")) [] (OrderTextRefused fault.TypeOrRange)
too_great = refl

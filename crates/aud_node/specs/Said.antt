-- What the history says of the offers.
use Rattle.std.specs.Prelude.{List, map}
use Rattle.aud_node.specs.declared.book.OfferedItem.{OfferedItem}
use Rattle.aud_node.specs.Logs.{Entry}

abbrev pub said_of : List OfferedItem → List Entry
said_of log = map (λ p. (p.seat, p.item.value)) log

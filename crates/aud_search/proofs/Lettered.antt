-- What is decided by lists is decided by the letter.
use Rattle.std.specs.Prelude.{List, IfOk, ◌↔◌, Result, Ok, Err}
use Rattle.aud_event.specs.Meanings.{Declared}
use Rattle.aud_history.specs.Histories.{History}
use Rattle.aud_history.specs.WellFormed.{IsWellFormed}
use Rattle.aud_witness.specs.Orders as orders
use Rattle.aud_witness.specs.Letter.{Letter}
use Rattle.search_prefix.specs.declared.outcome.Decided.{Decided}
use Rattle.search_prefix.specs.declared.outcome.Decided.TheVariants as decided
use Rattle.search_prefix.specs.Searches.{Decides, DecidesByLetter}

pub by-letter : {X E : Type 0} (objects : List Declared) (h : History) (r : Result (Decided X) E) → Letter objects h ↔ (IsWellFormed h × orders.Opaque objects h) → IsWellFormed h →
    IfOk r (Decides objects h) → IfOk r (DecidesByLetter objects h)
by-letter objects h (Ok (decided.Opaque q)) law fine decides = law.1 (fine, (q, decides))
by-letter objects h (Ok decided.NotOpaque) law fine decides = λ letter. decides (law.0 letter).1
by-letter objects h (Err e) law fine decides = decides

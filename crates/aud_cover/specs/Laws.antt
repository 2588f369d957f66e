-- Laws of the definitions, each the contract of a function of src/laws.rt.
use Rattle.std.specs.Prelude.{List}
use Rattle.std.specs.List.{Contains}
use Rattle.aud_event.specs.Meanings.{Declared}
use Rattle.aud_history.specs.Histories.{History}
use Rattle.aud_witness.specs.declared.decision.Decision.{Decision}
use Rattle.aud_witness.specs.Orders.{Refuted}
use Rattle.aud_cover.specs.Closings.{IsClosed}

-- what is closed over refuted prefixes is refuted
abbrev pub ClosedIsRefuted : Type 0
ClosedIsRefuted =
    (objects : List Declared) (h : History) (cover : List (List Decision)) (p : List Decision) →
    ((q : List Decision) → Contains cover q → Refuted objects h q) → IsClosed objects h cover p → Refuted objects h p

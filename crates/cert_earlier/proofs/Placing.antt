-- A cursor at some decisions.
use Rattle.std.specs.Prelude.{◌≡◌, ◌↔◌, ℕ, ◌+◌, ◌<◌, false, IsTrue, List, length}
use Rattle.std.proofs.Common.{get_or, take, sym, ◌∙◌, ap, subst, arith}
use Rattle.std.proofs.lemmas.List.{get_or-take, take-take, length-take-le}
use Rattle.aud_witness.specs.declared.decision.Fate.TheVariants.{C}
use Rattle.aud_witness.specs.declared.decision.Decision.{Decision}
use Rattle.aud_witness.specs.Orders.{IsGood, IsGoodNext}
use Rattle.aud_order.specs.Shapes.{objects_of, history_of}
use Rattle.aud_order.specs.Cursors.{CursorOf}
use Rattle.aud_order.proofs.Placed.{placed-bad}
use Rattle.cert_earlier.specs.Moves.{StaysBefore}

abbrev pub no_decision : Decision
no_decision = record { tx = 0; fate = C }

abbrev pub cursor_at : CursorOf → List Decision → CursorOf
cursor_at c p = record { shape = c.shape; path = p }

-- one decision is not good after those before it
pub pushed-bad : (start cur : CursorOf) (ds : List Decision) (n : ℕ) → n < length ds → cur ≡ cursor_at start (take n ds) →
    (IsGoodNext (objects_of cur.shape) (history_of cur.shape) cur.path (get_or ds n no_decision) → ⊥) → IsTrue false ↔ IsGood (objects_of start.shape) (history_of start.shape) ds
pushed-bad start cur ds n inside is fails = ((λ e. absurd (cc)), λ good. absurd (placed-bad start.shape ds n cur inside is fails good))

-- so is the beginning of the list that ends with it, where the cursor stays before it
pub stays-before : (start cur : CursorOf) (ds : List Decision) (n : ℕ) → n < length ds → cur ≡ cursor_at start (take n ds) → IsGood (objects_of cur.shape) (history_of cur.shape) cur.path →
    (IsGoodNext (objects_of cur.shape) (history_of cur.shape) cur.path (get_or ds n no_decision) → ⊥) → StaysBefore (objects_of start.shape) (history_of start.shape) ds cur.path
stays-before start cur ds n inside is good fails =
    let last : get_or (take (n + 1) ds) n no_decision ≡ get_or ds n no_decision = get_or-take (n + 1) ds n no_decision (omega arith) in
    let within : n < length (take (n + 1) ds) = let l : length (take (n + 1) ds) ≡ n + 1 = length-take-le (n + 1) ds (omega arith) in omega arith in
    let front : take n (take (n + 1) ds) ≡ take n ds = take-take n (n + 1) ds (omega arith) in record {
      place = n;
      inside = inside;
      there = ap (λ (c : CursorOf). c.path) is;
      good = subst (λ (c : CursorOf). IsGood (objects_of c.shape) (history_of c.shape) cur.path) is good;
      bad = placed-bad start.shape (take (n + 1) ds) n cur within (is ∙ ap (λ l. cursor_at start l) (sym front))
          (λ next. fails (subst (λ (d : Decision). IsGoodNext (objects_of cur.shape) (history_of cur.shape) cur.path d) last next));
    }

-- Decisions placed one after the other.
use Rattle.std.specs.Prelude.{◌≡◌, ℕ, ◌+◌, ◌<◌, List, [], ◌∷◌, ◌++◌, length}
use Rattle.std.proofs.Common.{sym, ◌∙◌, ap, subst, get_or, take, drop, append_assoc}
use Rattle.std.proofs.lemmas.List.{take_more, take-append-drop}
use Rattle.aud_witness.specs.declared.decision.Fate.TheVariants.{C}
use Rattle.aud_witness.specs.declared.decision.Decision.{Decision}
use Rattle.aud_witness.specs.Orders.{IsGood, IsGoodNext}
use Rattle.aud_order.specs.Shapes.{ShapeOf, objects_of, history_of}
use Rattle.aud_order.specs.Cursors.{CursorOf}

abbrev no_decision : Decision
no_decision = record { tx = 0; fate = C }

abbrev pub cursor_of : ShapeOf → List Decision → CursorOf
cursor_of shape p = record { shape = shape; path = p }

pub placed-more : (shape : ShapeOf) (ds : List Decision) (n : ℕ) (c new : CursorOf) → n < length ds → c ≡ cursor_of shape (take n ds) →
    new ≡ cursor_of c.shape (c.path ++ get_or ds n no_decision ∷ []) → new ≡ cursor_of shape (take (n + 1) ds)
placed-more shape ds n c new inside is grown =
    grown ∙ ap (λ (u : CursorOf). cursor_of u.shape (u.path ++ get_or ds n no_decision ∷ [])) is ∙ ap (cursor_of shape) (sym (take_more ds n no_decision inside))

-- where one is not good after those before it, the prefix is not good
pub placed-bad : (shape : ShapeOf) (ds : List Decision) (n : ℕ) (c : CursorOf) → n < length ds → c ≡ cursor_of shape (take n ds) →
    (IsGoodNext (objects_of c.shape) (history_of c.shape) c.path (get_or ds n no_decision) → ⊥) → IsGood (objects_of shape) (history_of shape) ds → ⊥
placed-bad shape ds n c inside is fails good =
    let d = get_or ds n no_decision in
    let whole : ds ≡ take n ds ++ d ∷ drop (n + 1) ds =
    sym (take-append-drop (n + 1) ds) ∙ ap (λ l. l ++ drop (n + 1) ds) (take_more ds n no_decision inside) ∙ append_assoc (take n ds) (d ∷ []) (drop (n + 1) ds) in
    subst (λ (u : CursorOf). IsGoodNext (objects_of u.shape) (history_of u.shape) u.path d → ⊥) is fails (good (take n ds) d (drop (n + 1) ds) whole)
